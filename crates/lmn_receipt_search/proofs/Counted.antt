-- A rule that is asked and lies least fires, and the solid after it has as many items as what is made.
use Rattle.std.proofs.Common.{ℕ, ◌≡◌, ◌+◌, ◌≤◌, List, [], ◌∷◌, ◌++◌, map, length, sum, refl, sym, ap, subst, arith}
use Rattle.std.proofs.lemmas.List.{length-map}
use Rattle.lmn_base.specs.declared.rule.Plain.{Plain}
use Rattle.lmn_base.specs.declared.rule.RuleTree.{RuleTree}
use Rattle.lmn_base.specs.declared.solid.Region.{Region as SolidRegion}
use Rattle.lmn_base.specs.declared.solid.Region.TheFolds.{fold-Region, fold-roll-Region}
use Rattle.lmn_base.specs.declared.solid.Region.TheOpen.{Region-F}
use Rattle.lmn_base.specs.declared.solid.Solid.{Solid}
use Rattle.lmn_base.specs.Solids.{items_step}
use Rattle.lmn_base.specs.Lists.{In}
use Rattle.lmn_base.proofs.Lists.{plus_nothing, sum_cons}
use Rattle.lmn_guards.specs.declared.plan.GuardPlan.{GuardPlan}
use Rattle.lmn_store_heap.specs.Heap.{Heap}
use Rattle.lmn_store_heap.specs.Sound.{Forest, bare, mem, flat as members}
use Rattle.lmn_solid_heads.specs.Embeddings.{Images, IsLeast}
use Rattle.lmn_compile_head.specs.Accepted.{head_items}
use Rattle.lmn_congruence.specs.Plains.{SolidOf, fused_leaves, fused_level, fused_levels}
use Rattle.lmn_congruence.specs.Regions.{Region, Regions, item_count_of_region, item_count_of_regions, no_region, region, region_and}
use Rattle.lmn_congruence.specs.Rules.{Leaf, Level, Levels, Name, atom_leaf, connector_leaf, head_of, level, level_and, no_level, typed_leaf}
use Rattle.lmn_congruence.specs.Same.{renamed_atom, renamed_region, renamed_regions}
use Rattle.lmn_congruence.specs.Translation.{rule_tree}
use Rattle.lmn_congruence.proofs.TranslatedItems.{items_kept}
use Rattle.lmn_reduction.proofs.Plains.{plain_has_solid}
use Rattle.lmn_adequacy.specs.Choice.{NextFrom}
use Rattle.lmn_adequacy.specs.Next.{RawAt}
use Rattle.lmn_adequacy.proofs.Results.{one_choice}
use Rattle.lmn_adequacy_heaps.specs.HeapRegions.{HeapReading}
use Rattle.lmn_adequacy_heaps.specs.Premises.{HasForest}
use Rattle.lmn_adequacy_choices.proofs.Paths.{forest_there}
use Rattle.lmn_adequacy_turns.proofs.ReadAgain.{root_mem as root_there}
use Rattle.lmn_solid_settle.specs.Raw.{RawRegion, RawRegions, laid, no_raw, raw, raw_and, settled, settled_all, settled_atom}
use Rattle.lmn_solid_tables.specs.Flats.{heap_of, reading_of}
use Rattle.lmn_solid_tables.specs.declared.flat.Flat.{Flat}
use Rattle.lmn_solid_search.specs.Finding.{images}
use Rattle.lmn_solid_search.specs.declared.embedding.Found.{Found}
use Rattle.lmn_solid_firing.specs.Laws.{FiringsAreSpelled}
use Rattle.lmn_solid_firing.specs.Making.{IsMade, IsReadyFor, fired_region, home_region, level_made, level_pairs}
use Rattle.lmn_solid_firing.specs.Matched.{IsMatched}
use Rattle.lmn_solid_firing.specs.Meant.{wire_pairs}
use Rattle.lmn_solid_firing.specs.Spelled.{Spells}
use Rattle.lmn_solid_firing.specs.declared.match_.Match.{Match}
use Rattle.lmn_solid_next.specs.Asking.{IsAsked}
use Rattle.lmn_solid_next.specs.Choosing.{LiesLeast, numbers_of}
use Rattle.lmn_solid_next.specs.Firing.{HasMatch, MatchesAreOfEmbeddings, MayFire, SearchedRulesMayFire, TellsIntegers}
use Rattle.lmn_solid_next.specs.Laws.{LeastImagesLie}
use Rattle.lmn_receipt_chain.specs.Laws.{IsAcceptedSolid}
use Rattle.lmn_receipt_chain.proofs.ChainLemmas.{accepted_of}
use Rattle.lmn_receipt_search.specs.Feeds.{IsQuiet, NamesWithout}
use Rattle.lmn_receipt_search.specs.Items.{AreSizes, body_size, firing_size}
use Rattle.lmn_receipt_search.specs.Turns.{BodiesAreCounted, FiresTo, IsBeyond}
use Rattle.lmn_receipt_search.proofs.MadeItems.{as_many_items, body_counted, firing_counted, raw_items, raw_items_in}
use Rattle.lmn_receipt_search.proofs.QuietRegions.{renamed_quiet, spelled_quiet}
use Rattle.lmn_receipt_search.proofs.QuietRules.{rule_quiet}

-- ---- items of regions

-- a renaming keeps them
mutual
  renamed_items : (f : ℕ → ℕ) (S : Region) → item_count_of_region (renamed_region f S) ≡ item_count_of_region S
  renamed_items f (region xs ms rs) = omega (arith, length-map xs (renamed_atom f), renamed_items_in f ms)

  renamed_items_in : (f : ℕ → ℕ) (ms : Regions) → item_count_of_regions (renamed_regions f ms) ≡ item_count_of_regions ms
  renamed_items_in f no_region = refl
  renamed_items_in f (region_and m ms) = omega (arith, renamed_items f m, renamed_items_in f ms)

-- So each next solid from a number on is beyond where one is.
pub all_next_beyond : (names : List Name) (S : Region) → IsAcceptedSolid S → (k limit : ℕ) (next other : Region) → NextFrom k S next → NextFrom k S other → IsBeyond names limit next → IsBeyond names limit other
all_next_beyond names S sound k limit next other n o beyond =
    let same = one_choice k S next other sound.closed (accepted_of S sound) n o in
    let a = ap item_count_of_region same.is in
    let b = renamed_items same.to next in
    let many = beyond.many in
    record { many = omega (arith, a, b, many); quiet = λ without. subst IsQuiet (sym same.is) (renamed_quiet same.to next (beyond.quiet without)) }

-- links at their images keep them
fused_many : (f g : ℕ → ℕ) (ls : List Leaf) → length (fused_leaves f ls) ≡ length (fused_leaves g ls)
fused_many f g [] = refl
fused_many f g (atom_leaf a xs ∷ ls) = omega (arith, fused_many f g ls)
fused_many f g (connector_leaf x y ∷ ls) = fused_many f g ls
fused_many f g (typed_leaf p x ∷ ls) = fused_many f g ls

mutual
  fused_items : (f g : ℕ → ℕ) (L : Level) → item_count_of_region (fused_level f L) ≡ item_count_of_region (fused_level g L)
  fused_items f g (level leaves membranes contexts rule_contexts rules) = omega (arith, fused_many f g leaves, fused_items_in f g membranes)

  fused_items_in : (f g : ℕ → ℕ) (ls : Levels) → item_count_of_regions (fused_levels f ls) ≡ item_count_of_regions (fused_levels g ls)
  fused_items_in f g no_level = refl
  fused_items_in f g (level_and l ls) = omega (arith, fused_items f g l, fused_items_in f g ls)

abbrev count : SolidRegion → ℕ
count = fold-Region ℕ items_step

-- a raw region that is settled has as many
mutual
  settled_items : (v : ℕ → ℕ) (r : RawRegion) → count (settled v r) ≡ raw_items r
  settled_items v (raw xs ms rs) =
      let y : Region-F SolidRegion = record { atoms = map (settled_atom v) xs; membranes = settled_all v ms; rules = rs } in
      let a = length-map xs (settled_atom v) in
      let b = length-map (settled_all v ms) count in
      let c = settled_items_in v ms in
      rw (fold-roll-Region ℕ items_step y) (omega (arith, a, b, c))

  settled_items_in : (v : ℕ → ℕ) (ms : RawRegions) → length (settled_all v ms) + sum (map count (settled_all v ms)) ≡ raw_items_in ms
  settled_items_in v no_raw = refl
  settled_items_in v (raw_and m ms) = omega (arith, settled_items v m, settled_items_in v ms, sum_cons count (settled v m) (settled_all v ms))

-- The solid of a level has as many items as the raw region that spells the level.
spelled_items : (names : List Name) (table : List RuleTree) (L : Level) (r : RawRegion) (pairs : List (ℕ × ℕ)) (n : ℕ) → Spells names table L r pairs n → (S : Region) → SolidOf L S → item_count_of_region S ≡ raw_items r
spelled_items names table L r pairs n spells S of =
    let a = ap item_count_of_region of.is in
    let b = fused_items of.to (λ x. x) L in
    let c = ap item_count_of_region spells.level in
    let d = items_kept names table (record { root = settled spells.from r }) in
    let e = settled_items spells.from r in
    omega (arith, a, b, c, d, e)

-- ---- the law

module _ (may : SearchedRulesMayFire) (lie : LeastImagesLie) (match : MatchesAreOfEmbeddings) (spelled : FiringsAreSpelled) (names : List Name) (plain : Plain) (plans : List GuardPlan) (s : Solid) (flat : Flat) (place : ℕ) (rule : RuleTree) (plan : GuardPlan) where
  -- in the membrane in which it is matched
  module _ (found : Found) (t : Match) (a : IsAsked names plain plans s flat t.home place rule plan) (least : IsLeast (heap_of flat) (head_items rule plan) rule.guard t.home (images t.home found))
      (tells : TellsIntegers (heap_of flat) (head_items rule plan) rule.guard t.home found) (is : IsMatched flat rule (head_items rule plan) t.home found t) (ready_for : IsReadyFor flat t)
      (sizes : List ℕ) (are : AreSizes (heap_of flat) sizes) where
    abbrev f : Images
    f = images t.home found

    abbrev h : Heap
    h = heap_of flat

    abbrev r : HeapReading
    r = reading_of names plain.rules flat

    abbrev root : Forest
    root = a.searched.is_flat.inner

    abbrev ready : MayFire names plain flat root a.number rule
    ready = may names plain plans a.searched.can s a.searched.by flat a.searched.is_flat a.number rule a.is

    abbrev mi : (i : Forest) × HasForest h t.home i
    mi = let tree = a.searched.is_flat.tree in forest_there h (mem 0 root bare) (0 ∷ []) tree.forms tree.once t.home (tree.all t.home a.there)

    abbrev lies : LiesLeast h r rule plan t.home mi.0 f
    lies = lie plain.rules rule plan (a.searched.can.whole.whole a.number rule plan a.is a.plan_is) h r ready.read ready.is_rule t.home mi.0 mi.1 f least

    abbrev has : HasMatch flat r rule plan f t lies.embeds.contents lies.embeds.rest
    has = match flat names plain.rules rule plan (a.searched.can.whole.whole a.number rule plan a.is a.plan_is) ready.read ready.is_rule t.home mi.0 a.there found least tells lies t is

    inside : In t.home (0 ∷ members root)
    inside = subst (In t.home) (ap (λ z. 0 ∷ z) (plus_nothing (members root))) (a.searched.is_flat.tree.all t.home a.there)

    -- what is made
    abbrev start : ℕ
    start = t.links + length rule.links

    abbrev home : RawRegion
    home = home_region flat t has.left (level_made flat t has.left rule.body) start

    abbrev made : RawRegion
    made = fired_region flat t.home home 0 root

    abbrev wires : List (ℕ × ℕ)
    wires = wire_pairs t.links lies.embeds.contents.link_of (head_of (rule_tree names r.rule rule)) (length rule.links)

    abbrev links : ℕ
    links = (level_made flat t has.left rule.body).after ((level_made flat t has.left rule.body).own start)

    is_made : IsMade flat t has.left root rule.body start wires (laid 0 0 made) (wires ++ level_pairs t rule.body) links
    is_made = record { membranes = refl; connectors = refl; bound = refl }

    -- it has at least as many items as are counted
    many : firing_size h sizes t rule.body ≤ raw_items made
    many =
        let body = body_counted flat ready.read.valid t has.left has.forms ready_for (root_there h ready.read.valid) sizes are rule.body in
        firing_counted flat ready.read.valid t has.left has.forms ready_for (root_there h ready.read.valid) sizes are a.there (level_made flat t has.left rule.body) start (body_size h sizes t rule.body) mi.0 root mi.1.forms ready.forms ready.once inside body

    pub counted : (next : Region) × FiresTo names plain s flat t.home place rule plan next × (firing_size h sizes t rule.body ≤ item_count_of_region next) × (NamesWithout names → IsQuiet next)
    counted =
        let w = spelled flat names plain.rules t rule has.left root mi.0 place a.number (numbers_of h rule plan f) ready.read.valid ready.forms ready.once inside mi.1.forms a.stands ready.numbered lies.embeds has.is
        (laid 0 0 made) (wires ++ level_pairs t rule.body) links is_made in
        let closed = w.7 ready.is_rule.accepted ready.closed in
        let solid = plain_has_solid w.1 closed in
        let same = spelled_items names plain.rules w.1 w.0 (wires ++ level_pairs t rule.body) links w.6 solid.0 solid.1 in
        let items = as_many_items made w.0 w.3 in (
          solid.0,
          record {
            found = f;
            least = least;
            path = w.2;
            leads = w.4;
            next_at = record { raw = w.1; fires = subst (λ S. RawAt w.2 place (numbers_of h rule plan f) S w.1) (a.searched.is_flat.region names plain.rules) w.5; fuses = solid.1 };
          },
          omega (arith, many, same, items),
          λ without. spelled_quiet names plain.rules without (λ k. rule_quiet names plain s a.searched.can.made a.searched.by.named without k) w.1 w.0 (wires ++ level_pairs t rule.body) links w.6 solid.0 solid.1,
        )

  counted_at : (m : ℕ) → IsAsked names plain plans s flat m place rule plan → (found : Found) → IsLeast (heap_of flat) (head_items rule plan) rule.guard m (images m found) →
      TellsIntegers (heap_of flat) (head_items rule plan) rule.guard m found → (t : Match) → IsMatched flat rule (head_items rule plan) m found t → IsReadyFor flat t → (sizes : List ℕ) → AreSizes (heap_of flat) sizes →
      (next : Region) × FiresTo names plain s flat m place rule plan next × (firing_size (heap_of flat) sizes t rule.body ≤ item_count_of_region next) × (NamesWithout names → IsQuiet next)
  counted_at m a found least tells t is ready sizes are =
      subst (λ z. (next : Region) × FiresTo names plain s flat z place rule plan next × (firing_size (heap_of flat) sizes t rule.body ≤ item_count_of_region next) × (NamesWithout names → IsQuiet next)) is.home (counted found t
      (subst (λ z. IsAsked names plain plans s flat z place rule plan) (sym is.home) a)
      (subst (λ z. IsLeast (heap_of flat) (head_items rule plan) rule.guard z (images z found)) (sym is.home) least)
      (subst (λ z. TellsIntegers (heap_of flat) (head_items rule plan) rule.guard z found) (sym is.home) tells)
      (subst (λ z. IsMatched flat rule (head_items rule plan) z found t) (sym is.home) is) ready sizes are)

pub bodies_are_counted : SearchedRulesMayFire → LeastImagesLie → MatchesAreOfEmbeddings → FiringsAreSpelled → BodiesAreCounted
bodies_are_counted may lie match spelled names plain plans s flat m place rule plan a found least tells t is ready sizes are =
    counted_at may lie match spelled names plain plans s flat place rule plan m a found least tells t is ready sizes are
