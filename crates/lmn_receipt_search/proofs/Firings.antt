-- The first firing, in the order in which membranes are asked, is the next one of the strategy.
use Rattle.std.proofs.Common.{ℕ, ◌≡◌, ◌+◌, ◌<◌, ◌≤◌, inl, inr, List, ◌∷◌, ◌++◌, Some, length, take, drop, refl, sym, ap, subst, ◌∙◌, arith}
use Rattle.std.specs.Prelude.{◌↔◌, slice_get}
use Rattle.std.specs.List.{range_with_len}
use Rattle.std.proofs.lemmas.List.FromFn.{length-range_with_len}
use Rattle.lmn_base.specs.Lists.{In}
use Rattle.lmn_base.specs.declared.rule.Plain.{Plain}
use Rattle.lmn_base.specs.declared.solid.Solid.{Solid}
use Rattle.lmn_guards.specs.declared.plan.GuardPlan.{GuardPlan}
use Rattle.lmn_store_heap.specs.Heap.{Heap, IsMem}
use Rattle.lmn_store_heap.specs.Sound.{Forest, bare, mem, flat as preorder}
use Rattle.lmn_congruence.specs.Regions.{Region}
use Rattle.lmn_congruence.specs.Rules.{Name}
use Rattle.lmn_congruence.specs.Translation.{region_of}
use Rattle.lmn_adequacy.specs.Choice.{ChosenFrom, NextFrom, paths}
use Rattle.lmn_adequacy.specs.Embedding.{HasEmbedding}
use Rattle.lmn_adequacy_heaps.specs.HeapRegions.{HeapReading}
use Rattle.lmn_adequacy_choices.specs.Turns.{heap_region}
use Rattle.lmn_adequacy_choices.proofs.Numbers.{numbered_alike}
use Rattle.lmn_adequacy_turns.specs.Turning.{Leads}
use Rattle.lmn_solid_tables.specs.declared.flat.Flat.{Flat}
use Rattle.lmn_solid_tables.specs.Flats.{FlatsAreRead, heap_of, reading_of}
use Rattle.lmn_solid_tables.proofs.Preorder.{range_from}
use Rattle.lmn_receipt_search.specs.Turns.{AskedAt, EmbedsThere, FiresIn, FiringsAreNext, NoneBefore, StandsAt}
use Rattle.lmn_solid_next.specs.Asking.{IsSearched}
use Rattle.lmn_solid_next.specs.Choosing.{IsFirst, NoneIn, numbers_of}
use Rattle.lmn_solid_next.specs.Laws.{FirstIsChosen, NoneHasEmbedding}
use Rattle.lmn_solid_next.specs.Firing.{SearchedRulesMayFire}
use Rattle.lmn_solid_next.specs.Settling.{FlatsHaveRules}
use Rattle.lmn_receipt_search.proofs.Asks.{read_with}
use Rattle.lmn_receipt_search.proofs.PathDepths.{as_many, at_number}
use Rattle.lmn_receipt_search.proofs.Rounds.{get_range, reached, turn_of, turned}

module _ (reads : FlatsAreRead) (have_rules : FlatsHaveRules) (may_fire : SearchedRulesMayFire) (names : List Name) (plain : Plain) (plans : List GuardPlan) (s : Solid) (flat : Flat) (w : IsSearched names plain plans s flat) (count : ℕ) (counts : (m : ℕ) → IsMem (heap_of flat) m ↔ (m < count)) where
  abbrev h : Heap
  h = heap_of flat

  abbrev r : HeapReading
  r = reading_of names plain.rules flat

  abbrev inner : Forest
  inner = w.is_flat.inner

  abbrev many : ℕ
  many = length flat.membranes.items

  abbrev S : Region
  S = region_of names plain.rules s

  same : many ≡ count
  same = as_many s flat w.is_flat count counts

  in_order : preorder (mem 0 inner bare) ≡ range_with_len 0 count
  in_order = w.is_flat.preorder ∙ ap (range_with_len 0) same

  is_region : heap_region h r inner ≡ S
  is_region = w.is_flat.region names plain.rules

  counted : length (paths S) ≡ count
  counted = ap (λ (z : Region). length (paths z)) (sym is_region) ∙ (numbered_alike h r inner w.is_flat.tree).many ∙ ap length in_order ∙ length-range_with_len 0 count

  module _ (first_law : FirstIsChosen) (from turn m : ℕ) (f : from < count) (l : turn < count) (a : AskedAt from count turn m) (none : NoneBefore plain.rules plans h from count turn) (next : Region) (u : FiresIn names plain plans s flat m next) (k : ℕ)
      (low : from ≤ k) (high : k < count) (within : k ≤ from + turn) where
    is_first : IsFirst k plain.rules plans h inner m u.place u.rule u.plan u.fires.found
    is_first =
        let x = reached from count turn m k f l a low high within in
        record {
          earlier = take x.turn_there (turned k count);
          later = x.later;
          order = ap (λ xs. drop k xs ++ take k xs) in_order ∙ x.order;
          none = λ y i. let e = x.earlier y i in none e.0 y e.1 e.2;
          number = u.asked.number;
          stands = u.asked.stands;
          before = u.before;
          rule_is = u.asked.is;
          plan_is = u.asked.plan_is;
          least = u.fires.least;
        }

    next_from : (n : NextFrom k S next) × (n.path ≡ u.fires.path)
    next_from =
        let c = first_law plain.rules plans w.can.whole h r inner (read_with names plain plans s flat w reads have_rules may_fire) k m u.place u.rule u.plan u.fires.found is_first in
        let ns = numbers_of h u.rule u.plan u.fires.found in
        let one = (numbered_alike h r inner w.is_flat.tree).one m c.path u.fires.path c.leads u.fires.leads in (
          record {
            path = u.fires.path;
            number = u.place;
            positions = ns;
            chosen = subst (λ (z : Region). ChosenFrom k z u.fires.path u.place ns) is_region (subst (λ p. ChosenFrom k (heap_region h r inner) p u.place ns) one c.chosen);
            next = u.fires.next_at;
          },
          refl,
        )

  -- the membrane in which a rule fires has its own number among the paths
  stands : (m : ℕ) (next : Region) (u : FiresIn names plain plans s flat m next) → StandsAt S u.fires.path m
  stands m next u =
      let alike = numbered_alike h r inner w.is_flat.tree in
      let plain_number : 0 + m ≡ m = omega arith in
      let x = at_number (λ path k. Leads h k path h.root) m m alike.numbers (ap (λ xs. slice_get xs m) in_order ∙ get_range 0 count m ((counts m).0 u.asked.there) ∙ ap (λ z. Some z) plain_number) in
      record {
        earlier = x.earlier;
        later = x.later;
        all = ap paths (sym is_region) ∙ x.all ∙ ap (λ z. x.earlier ++ z ∷ x.later) (alike.one m x.here u.fires.path x.related u.fires.leads);
        number = x.number_is;
      }

  -- Where nothing embeds in the membranes below one, and a rule of that one does, the strategy would choose that rule from the root on, so
  -- something embeds.
  some_embeds : FirstIsChosen → (m : ℕ) → m < count → NoneBefore plain.rules plans h 0 count m → EmbedsThere names plain plans s flat m → HasEmbedding S
  some_embeds first_law m l none u =
      let here : AskedAt 0 count m m = (l, inl (omega arith)) in
      let root : 0 < count = omega (arith, l) in
      let x = reached 0 count m m 0 root l here (omega arith) root (omega arith) in
      let c = first_law plain.rules plans w.can.whole h r inner (read_with names plain plans s flat w reads have_rules may_fire) 0 m u.place u.rule u.plan u.found
      (record {
        earlier = take x.turn_there (turned 0 count);
        later = x.later;
        order = ap (λ xs. drop 0 xs ++ take 0 xs) in_order ∙ x.order;
        none = λ y i. let e = x.earlier y i in none e.0 y e.1 e.2;
        number = u.asked.number;
        stands = u.asked.stands;
        before = u.before;
        rule_is = u.asked.is;
        plan_is = u.asked.plan_is;
        least = u.least;
      }) in
      subst (λ (z : Region). HasEmbedding z) is_region (record { path = c.path; number = u.place; positions = numbers_of h u.rule u.plan u.found; embeds = c.chosen.embeds })

  none_embeds : NoneHasEmbedding → (from : ℕ) → from < count → NoneBefore plain.rules plans h from count count → ¬ (HasEmbedding S)
  none_embeds law from f none e =
      let all : NoneIn plain.rules plans h (preorder (mem 0 inner bare)) = λ m i.
      (let b = (range_from m 0 count (subst (In m) in_order i)).1 in
      let t = turn_of from count m f (omega (arith, b)) in
      none t.0 m t.1 t.2) in
      law plain.rules plans w.can.whole h r inner (read_with names plain plans s flat w reads have_rules may_fire) all (subst (λ (z : Region). HasEmbedding z) (sym is_region) e)

pub firings_are_next : FirstIsChosen → NoneHasEmbedding → FlatsAreRead → FlatsHaveRules → SearchedRulesMayFire → FiringsAreNext
firings_are_next first_law none_law reads have_rules may_fire = record {
  counted = λ names plain plans s flat w count counts. counted reads have_rules may_fire names plain plans s flat w count counts;
  next = λ names plain plans s flat w count counts from turn m f l a none next u k low high within. next_from reads have_rules may_fire names plain plans s flat w count counts first_law from turn m f l a none next u k low high within;
  stands = λ names plain plans s flat w count counts m next u. stands reads have_rules may_fire names plain plans s flat w count counts m next u;
  embeds = λ names plain plans s flat w count counts m l none u. some_embeds reads have_rules may_fire names plain plans s flat w count counts first_law m l none u;
  none = λ names plain plans s flat w count counts from f none. none_embeds reads have_rules may_fire names plain plans s flat w count counts none_law from f none;
}
