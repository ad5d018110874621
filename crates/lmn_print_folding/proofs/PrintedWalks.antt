-- The walk over the arguments of an atom, by what is printed of it.
use Rattle.std.proofs.Common.{◌≡◌, ℕ, ◌+◌, ◌-◌, ◌<◌, ◌==◌, not, Bool, true, false, if◌then◌else◌, List, [], ◌∷◌, ◌++◌, Option, Some, None, refl, sym, ap, ◌∙◌, subst, arith}
use Rattle.std.proofs.lemmas.List.{append_assoc}
use Rattle.lmn_congruence.specs.Rules.{Name}
use Rattle.lmn_print_folded.specs.Terms.{FoldedTerm, FoldedTerms}
use Rattle.lmn_store_heap.specs.Heap.{Heap, arity_of, link_of}
use Rattle.lmn_print_folding.specs.Marks.{is_item, is_end_of_term, term_by, term_at, argument_count, Event, meets_link, meets_term, leaves, WalkMeets}
use Rattle.lmn_print_folding.specs.Marks as walk
use Rattle.lmn_print_folding.specs.Printed.{PrintsArgument, as_link, as_term, PrintsAll, none, more}
use Rattle.lmn_print_folding.proofs.WalkLemmas.{arguments_of_term}
use Rattle.lmn_base.proofs.Numbers.{equal_when as equal_numbers}
use Rattle.lmn_base.proofs.Truth.{and_true as and_both, not_true}
use Rattle.lmn_store_heap.specs.Sound.{Paired}

-- The atom that is printed as a term at a port: its last port is joined to it.
pub term_is : (s : Heap) (a i c : ℕ) → term_at s a i ≡ Some c → (j : ℕ) × (link_of s a i ≡ Some (c, j)) × (j + 1 ≡ arity_of s c) × (is_item s c ≡ false)
term_is s a i c e = by (link_of s a i) refl
  where
    at : (p : ℕ × ℕ) → link_of s a i ≡ Some p → (b : Bool) → is_end_of_term s p ≡ b → (if b then Some p.0 else None) ≡ Some c
        → (j : ℕ) × (link_of s a i ≡ Some (c, j)) × (j + 1 ≡ arity_of s c) × (is_item s c ≡ false)
    at p l false t f = absurd (cc f)
    at p l true t f =
        let same : p.0 ≡ c = cc f in
        let both = and_both (p.1 + 1 == arity_of s p.0) (not (is_item s p.0)) t in
        (p.1, l ∙ ap (λ (x : ℕ). Some (x, p.1)) same, equal_numbers (p.1 + 1) (arity_of s p.0) both.0 ∙ ap (arity_of s) same, ap (is_item s) (sym same) ∙ not_true (is_item s p.0) both.1)

    by : (o : Option (ℕ × ℕ)) → link_of s a i ≡ o → (j : ℕ) × (link_of s a i ≡ Some (c, j)) × (j + 1 ≡ arity_of s c) × (is_item s c ≡ false)
    by None l = absurd (cc (sym (ap (term_by s) l) ∙ e))
    by (Some p) l = at p l (is_end_of_term s p) refl (sym (ap (term_by s) l) ∙ e)

module _ (names : List Name) (s : Heap) (name : ℕ → ℕ → ℕ) where
  -- the events of a derivation
  abbrev mutual
    pub events : {a i : ℕ} {t : FoldedTerm} → PrintsArgument names s name a i t → List Event
    events {a} {i} (as_link e) = meets_link a i ∷ []
    events {a} {i} (as_term c f e g all) = meets_term a i c ∷ (events_all all ++ leaves c ∷ [])

    pub events_all : {a i n : ℕ} {ts : FoldedTerms} → PrintsAll names s name a i n ts → List Event
    events_all none = []
    events_all (more p all) = events p ++ events_all all

  module _ (paired : Paired s) where
    mutual
      pub walk_one : {a i : ℕ} {t : FoldedTerm} (p : PrintsArgument names s name a i t) (es : List Event) → i < argument_count s a → WalkMeets s a (i + 1) es → WalkMeets s a i (events p ++ es)
      walk_one {a} {i} (as_link e) es low w = walk.link low e w
      walk_one {a} {i} (as_term c f e g all) es low w =
          let t = term_is s a i c e in
          let long = t.2 in
          let count : arity_of s c - 1 ≡ t.0 = omega (arith, long) in
          let here : arity_of s c - 1 ≡ argument_count s c = sym (arguments_of_term s c t.3) in
          let back : link_of s c (arity_of s c - 1) ≡ Some (a, i) = ap (link_of s c) count ∙ paired.back a i c t.0 t.1 in
          let count_up : 0 + (arity_of s c - 1) ≡ arity_of s c - 1 = omega arith in
          let end : WalkMeets s c (0 + (arity_of s c - 1)) (leaves c ∷ es) = subst (λ k. WalkMeets s c k (leaves c ∷ es)) (sym count_up) (walk.end_of_term a i here t.3 (omega (arith, long)) back w) in
          walk.term c low e (subst (λ z. WalkMeets s c 0 z) (sym (append_assoc (events_all all) (leaves c ∷ []) es)) (walk_all all (leaves c ∷ es) (count_up ∙ here) end))

      pub walk_all : {a i n : ℕ} {ts : FoldedTerms} (p : PrintsAll names s name a i n ts) (es : List Event) → i + n ≡ argument_count s a → WalkMeets s a (i + n) es → WalkMeets s a i (events_all p ++ es)
      walk_all {a} {i} none es e w = subst (λ k. WalkMeets s a k es) (omega arith) w
      walk_all {a} {i} (more {n = n} p all) es e w =
          let next : (i + 1) + n ≡ argument_count s a = omega (arith, e) in
          subst (λ z. WalkMeets s a i z) (sym (append_assoc (events p) (events_all all) es))
          (walk_one p (events_all all ++ es) (omega (arith, e)) (walk_all all es next (subst (λ k. WalkMeets s a k es) (omega arith) w)))
