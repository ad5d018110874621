-- What is found at a turn, of the tables of a solid that are searched.
use Rattle.std.proofs.Common.{ℕ, ◌≡◌, ◌∙◌, ◌<◌, ◌≤◌, ◌+◌, ◌⊎◌, inl, inr, Bool, true, false, List, ◌∷◌, ◌++◌, Option, Some, None, get_or, length, refl, sym, ap, subst, arith}
use Rattle.std.specs.Prelude.{◌↔◌, IfSome, IsFalse, IsTrue}
use Rattle.lmn_base.specs.Links.{NumbersLinks}
use Rattle.lmn_base.specs.Solids.{IsSolid}
use Rattle.lmn_base.specs.declared.rule.Plain.{Plain}
use Rattle.lmn_base.specs.declared.rule.RuleTree.{RuleTree}
use Rattle.lmn_base.specs.declared.solid.Solid.{Solid}
use Rattle.lmn_guards.specs.declared.plan.GuardPlan.{GuardPlan}
use Rattle.lmn_store_heap.specs.Heap.{IsMem}
use Rattle.lmn_congruence.specs.Regions.{Region, item_count_of_region}
use Rattle.lmn_congruence.specs.Rules.{Name}
use Rattle.lmn_congruence.specs.Translation.{numbered_rule, region_of}
use Rattle.lmn_adequacy.specs.Choice.{NextFrom, paths}
use Rattle.lmn_adequacy.specs.Numbered.{IsNumbered}
use Rattle.lmn_adequacy.proofs.OneChoice.{choice_is_one}
use Rattle.lmn_adequacy.proofs.PlainSolids.{printed}
use Rattle.lmn_solid_tables.specs.declared.flat.Flat.{Flat}
use Rattle.lmn_solid_tables.specs.Flats.{IsFlatOf, heap_of}
use Rattle.lmn_solid_next.specs.Asking.{IsSearched}
use Rattle.lmn_solid_next.specs.Searching.{CanSearch, IsSolidBy}
use Rattle.lmn_receipt_search.specs.Feeds.{IsQuiet, NamesWithout}
use Rattle.lmn_receipt_search.specs.Turns.{AskedAt, FiresIn, FiresInWithin, FiringsAreNext, IsFoundWithin, IsPassed, NoneBefore}
use Rattle.lmn_receipt_chain.specs.Chains.{line_of_solid}
use Rattle.lmn_receipt_chain.specs.Found.{AreLeftOut, IsNextFound, IsNextMade}
use Rattle.lmn_receipt_chain.specs.Laws.{IsAcceptedSolid}
use Rattle.lmn_receipt_chain.specs.declared.next.NextSolid.{NextSolid}
use Rattle.lmn_receipt_search.proofs.Counted.{all_next_beyond}
use Rattle.lmn_receipt_search.proofs.QuietRegions.{line_written}
use Rattle.lmn_base.proofs.Lists.{holds_of_item}
use Rattle.std.proofs.lemmas.Option.{IfSome_then}

-- the links of the region of a solid are numbered in printed order
pub solid_is_numbered : (names : List Name) (table : List RuleTree) (s : Solid) → IsSolid s → IsNumbered (region_of names table s)
solid_is_numbered names table s is =
    let n = is.numbered in
    (n.0, subst (λ ls. NumbersLinks ls n.0) (sym (printed names (numbered_rule names table) s.root)) n.1)

-- the tables of a solid are searched
pub searched : (names : List Name) (plain : Plain) (plans : List GuardPlan) (s : Solid) (flat : Flat) → CanSearch names plain plans → IsSolidBy names plain s → IsFlatOf s flat → IsSearched names plain plans s flat
searched names plain plans s flat can by is = record { can = can; by = by; is_flat = is }

-- a mark is set, or the limit is the one that was given
marked_or_same : (mark : Bool) (most limit : ℕ) → (IsFalse mark → most ≡ limit) → IsTrue mark ⊎ (most ≡ limit)
marked_or_same true most limit same = inl refl
marked_or_same false most limit same = inr (same refl)

module _ (laws : FiringsAreNext) (names : List Name) (plain : Plain) (plans : List GuardPlan) (s : Solid) (flat : Flat) (w : IsSearched names plain plans s flat) (count : ℕ) (counts : (m : ℕ) → IsMem (heap_of flat) m ↔ (m < count)) where
  -- a number of a path is one of a membrane,
  pub one_of_count : (n : ℕ) → n < length (paths (region_of names plain.rules s)) → n < count
  one_of_count n l = subst (λ z. n < z) (laws.counted names plain plans s flat w count counts) l

  -- and the other way round
  pub one_of_paths : (n : ℕ) → n < count → n < length (paths (region_of names plain.rules s))
  one_of_paths n l = subst (λ z. n < z) (sym (laws.counted names plain plans s flat w count counts)) l

  -- the solid that is found at a turn is the next one from each number that is reached
  pub next_at_turn : (from turn m reach : ℕ) → from < count → turn < count → AskedAt from count turn m → NoneBefore plain.rules plans (heap_of flat) from count turn → (next : Region) (f : FiresIn names plain plans s flat m next) →
      reach < count → reach ≤ from + turn → (k : ℕ) → from ≤ k → k ≤ reach → (n : NextFrom k (region_of names plain.rules s) next) × (n.path ≡ f.fires.path)
  next_at_turn from turn m reach f l a none next fires below within k low high =
      laws.next names plain plans s flat w count counts from turn m f l a none next fires k low (omega (arith, high, below)) (omega (arith, high, within))

  -- so it is where it is made,
  made_within : (from turn m reach : ℕ) → from < count → turn < count → AskedAt from count turn m → NoneBefore plain.rules plans (heap_of flat) from count turn → (most : ℕ) (o : Option Solid) → FiresInWithin names plain plans s flat m most o →
      reach < count → reach ≤ from + turn → IfSome o (IsNextMade (IsSolidBy names plain) (region_of names plain.rules) (region_of names plain.rules s) from reach)
  made_within from turn m reach f l a none most (Some next) fires below within =
      (fires.1, solid_is_numbered names plain.rules next fires.1.solid, λ k low high. (next_at_turn from turn m reach f l a none (region_of names plain.rules next) fires.0 below within k low high).0)
  made_within from turn m reach f l a none most None fires below within = tt

  -- and where it isn't, each next solid is passed
  passed_within : IsAcceptedSolid (region_of names plain.rules s) → (from turn m reach : ℕ) → from < count → turn < count → AskedAt from count turn m → NoneBefore plain.rules plans (heap_of flat) from count turn → (limit most : ℕ) (left_out : List Bool) →
      (IsFalse (get_or left_out m false) → most ≡ limit) → (o : Option Solid) → FiresInWithin names plain plans s flat m most o → reach < count → reach ≤ from + turn → o ≡ None →
      (k : ℕ) → from ≤ k → k ≤ reach → (S : Region) → NextFrom k (region_of names plain.rules s) S → IsPassed names limit left_out (region_of names plain.rules s) S
  passed_within sound from turn m reach f l a none limit most left_out why (Some next) fires below within e k low high S n = absurd (cc)
  passed_within sound from turn m reach f l a none limit most left_out why None fires below within e k low high S n =
      let R = region_of names plain.rules s in
      let u = next_at_turn from turn m reach f l a none fires.0 fires.1 below within k low high in
      let beyond = all_next_beyond names R sound k most fires.0 S u.0 n fires.2 in
      let stands = laws.stands names plain plans s flat w count counts m fires.0 fires.1 in
      let one = (choice_is_one k R u.0.chosen n.chosen).0 in
      record {
        why = elim (marked_or_same (get_or left_out m false) most limit why) [
          | inl marked ↦ inr (record {
            path = n.path;
            number = n.number;
            positions = n.positions;
            next = n.next;
            earlier = stands.earlier;
            later = stands.later;
            all = stands.all ∙ ap (λ z. stands.earlier ++ z ∷ stands.later) (sym u.1 ∙ one);
            marked = subst (λ z. IsTrue (get_or left_out z false)) (sym stands.number) marked;
          })
          | inr same ↦ inl (let many = beyond.many in omega (arith, many, same))
        ];
        quiet = beyond.quiet;
      }

  -- what is found at a turn
  pub found_within : (from turn m reach : ℕ) → from < count → turn < count → AskedAt from count turn m → NoneBefore plain.rules plans (heap_of flat) from count turn → (limit most : ℕ) (left_out : List Bool) →
      (IsFalse (get_or left_out m false) → most ≡ limit) → (o : Option Solid) → FiresInWithin names plain plans s flat m most o →
      from ≤ reach → reach < count → reach ≤ from + turn → IsFoundWithin names plain s from limit left_out (record { solid = o; reach = reach })
  found_within from turn m reach f l a none limit most left_out why o fires far below within = record {
    reached = (far, one_of_paths reach below);
    made = made_within from turn m reach f l a none most o fires below within;
    passed = λ e sound. passed_within sound from turn m reach f l a none limit most left_out why o fires below within e;
  }

-- a solid that was made is the next one from the number that was asked
pub made_is : (names : List Name) (plain : Plain) (s : Solid) (from limit : ℕ) (left_out : List Bool) (next : NextSolid) → IsFoundWithin names plain s from limit left_out next → (made : Solid) → next.solid ≡ Some made →
    IsSolidBy names plain made × NextFrom from (region_of names plain.rules s) (region_of names plain.rules made)
made_is names plain s from limit left_out next f made e =
    let m = holds_of_item (IsNextMade (IsSolidBy names plain) (region_of names plain.rules) (region_of names plain.rules s) from next.reach) next.solid made e f.made in
    (m.0, m.2 from (omega arith) f.reached.0)

-- What is found within a limit is found beside a text where no solid with more items has its line at the beginning of the text, and none
-- after a firing in a membrane that is left out.
pub found_beside : (names : List Name) (plain : Plain) (s : Solid) (from limit : ℕ) (text : List ℕ) (left_out passed : List Bool) (fits : Solid → Type 0) → ((z : Solid) → IsSolidBy names plain z → fits z) →
    ((S : Region) (more : List ℕ) → (NamesWithout names → IsQuiet S) → text ≡ line_of_solid S ++ more → item_count_of_region S ≤ limit) →
    AreLeftOut (region_of names plain.rules s) text left_out → ((m : ℕ) → IsTrue (get_or passed m false) → NamesWithout names × IsTrue (get_or left_out m false)) → (next : NextSolid) → IsFoundWithin names plain s from limit passed next →
    IsNextFound fits (region_of names plain.rules) (region_of names plain.rules s) from text next
found_beside names plain s from limit text left_out passed fits so most left which next f = record {
  reached = f.reached;
  made = IfSome_then next.solid f.made (λ z m. (so z m.0, m.1, m.2));
  other = λ e sound k low high S more n is.
      let b = f.passed e sound k low high S n in
      elim b.why [
        | inl many ↦ (let few = most S more b.quiet is in omega (arith, many, few))
        | inr among ↦ (
            let known = which (length among.earlier) among.marked in
            left S more (record { path = among.path; number = among.number; positions = among.positions; next = among.next; earlier = among.earlier; later = among.later; all = among.all; marked = known.1 })
            (line_written S (b.quiet known.0)) is
            )
      ];
}
