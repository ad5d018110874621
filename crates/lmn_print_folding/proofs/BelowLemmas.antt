-- The terms in an item are marked while it is walked.
use Rattle.std.proofs.Common.{◌≡◌, ◌≢◌, ℕ, suc, ◌+◌, ◌-◌, ◌<◌, ◌≤◌, ◌==◌, ◌&&◌, ◌||◌, ◌⊎◌, inl, inr, not, true, false, if◌then◌else◌, List, [], ◌∷◌, Option, Some, None, refl, sym, ap, ◌∙◌, subst, arith}
use Rattle.lmn_store_heap.specs.Heap.{Heap, arity_of, link_of, own_mark}
use Rattle.lmn_store_heap.specs.Sound.{Paired}
use Rattle.lmn_print_folding.specs.Marks.{is_item, is_end_of_term, term_by, term_at, argument_count, Event, leaves, WalkMeets}
use Rattle.lmn_print_folding.proofs.FewTurns.{entered, turns}
use Rattle.lmn_print_folding.proofs.WalkLemmas.{at_link, at_term, at_end_of_term, at_end_of_item, arguments_of_term}
use Rattle.lmn_print_folding.specs.Chosen.{ChangesOwnMarks}
use Rattle.lmn_print_folding.specs.Marking.{MarksTerms, SetsOwnMark}
use Rattle.lmn_print_folding.proofs.ItemWalks.{Down, terms_entered, entered_terms}
use Rattle.lmn_print_folding.proofs.OwnMarks.{arity_same, link_same}
use Rattle.lmn_base.proofs.Numbers.{same_or_not as number_cases}
use Rattle.lmn_store_heap.proofs.Common.{same_port}
use Rattle.lmn_base.specs.Lists.{In}

-- other marks of terms change nothing of what is printed as a term
module _ (s t : Heap) (r : ChangesOwnMarks s t) (same : (a : ℕ) → is_item t a ≡ is_item s a) where
  pub arguments_same : (a : ℕ) → argument_count t a ≡ argument_count s a
  arguments_same a = ap (λ b. if b then arity_of t a else arity_of t a - 1) (same a) ∙ ap (λ k. if is_item s a then k else k - 1) (arity_same s t r a)

  end_same : (p : ℕ × ℕ) → is_end_of_term t p ≡ is_end_of_term s p
  end_same p = ap (λ k. (p.1 + 1 == k) && not (is_item t p.0)) (arity_same s t r p.0) ∙ ap (λ b. (p.1 + 1 == arity_of s p.0) && not b) (same p.0)

  by_same : (o : Option (ℕ × ℕ)) → term_by t o ≡ term_by s o
  by_same None = refl
  by_same (Some p) = ap (λ b. if b then Some p.0 else None) (end_same p)

  pub term_same : (a i : ℕ) → term_at t a i ≡ term_at s a i
  term_same a i = ap (term_by t) (link_same s t r a i) ∙ by_same (link_of s a i)

-- an atom with the mark 3 is no item
pub marked_term : (s : Heap) (a : ℕ) → own_mark s a ≡ 3 → is_item s a ≡ false
marked_term s a e = ap (λ k. (k == 1) || (k == 2)) e

-- an atom with the same mark is an item or not, as before
pub same_mark : (s t : Heap) (a : ℕ) → own_mark t a ≡ own_mark s a → is_item t a ≡ is_item s a
same_mark s t a e = ap (λ k. (k == 1) || (k == 2)) e

-- a term more is marked
pub items_same : (s t u : Heap) (c : ℕ) → SetsOwnMark t u c 3 → is_item s c ≡ false → ((a : ℕ) → is_item t a ≡ is_item s a) → (a : ℕ) → is_item u a ≡ is_item s a
items_same s t u c set plain same a = elim (number_cases a c) [
  | inl e ↦ subst (λ z. is_item u z ≡ is_item s z) (sym e) (marked_term u c set.mark ∙ sym plain)
  | inr d ↦ same_mark t u a (set.others a d) ∙ same a
]

-- Where the walk over an item stands at port i of the atom a, the terms that were entered are marked, and n turns were taken.
pub record Marking (s t : Heap) (a i n : ℕ) (es : List Event) : Type 0 where
  pub left : List Event
  pub walk : WalkMeets s a i left
  pub done : (x : ℕ) → In x (entered es) → (own_mark t x ≡ 3) ⊎ In x (entered left)
  pub others : (x : ℕ) → (own_mark t x ≡ own_mark s x) ⊎ In x (entered es)
  pub ahead : (x : ℕ) → In x (entered left) → In x (entered es)
  pub few : n + turns left ≤ turns es

-- at first nothing below an item is marked
pub marking_first : (s : Heap) (a : ℕ) (es : List Event) → WalkMeets s a 0 es → Marking s s a 0 0 es
marking_first s a es w = record { left = es; walk = w; done = λ x h. inr h; others = λ x. inl refl; ahead = λ x h. h; few = omega arith }

-- a link is passed
pub marking_link : (s t : Heap) (a i n : ℕ) (es : List Event) → Marking s t a i n es → i < argument_count s a → term_at s a i ≡ None → Marking s t a (i + 1) n es
marking_link s t a i n es m low none =
    let met = at_link s a i m.left m.walk low none in
    let same : entered m.left ≡ entered met.0 = ap entered met.1 in
    let turned : turns m.left ≡ turns met.0 = ap turns met.1 in
    let few = m.few in
    record {
      left = met.0;
      walk = met.2;
      done = λ x h. elim (m.done x h) [ inl e ↦ inl e | inr j ↦ inr (subst (In x) same j) ];
      others = m.others;
      ahead = λ x h. m.ahead x (subst (In x) (sym same) h);
      few = omega (arith, few, turned);
    }

-- a term is marked
pub marking_term : (s t u : Heap) (a i c n : ℕ) (es : List Event) → Marking s t a i n es → i < argument_count s a → term_at s a i ≡ Some c → SetsOwnMark t u c 3 → Marking s u c 0 (n + 1) es
marking_term s t u a i c n es m low is set =
    let met = at_term s a i c m.left m.walk low is in
    let same : entered m.left ≡ c ∷ entered met.0 = ap entered met.1 in
    let turned : turns m.left ≡ suc (turns met.0) = ap turns met.1 in
    let few = m.few in
    record {
      left = met.0;
      walk = met.2;
      done = λ x h. by x (number_cases x c) (m.done x h) same;
      others = λ x. elim (number_cases x c) [
        | inl e ↦ inr (m.ahead x (subst (In x) (sym same) (inl (sym e))))
        | inr d ↦ elim (m.others x) [ inl e ↦ inl (set.others x d ∙ e) | inr j ↦ inr j ]
      ];
      ahead = λ x h. m.ahead x (subst (In x) (sym same) (inr h));
      few = omega (arith, few, turned);
    }
  where
    by : (x : ℕ) {xs ys : List ℕ} → (x ≡ c) ⊎ (x ≢ c) → (own_mark t x ≡ 3) ⊎ In x xs → xs ≡ c ∷ ys → (own_mark u x ≡ 3) ⊎ In x ys
    by x (inl e) h same = inl (subst (λ z. own_mark u z ≡ 3) (sym e) set.mark)
    by x (inr d) (inl e) same = inl (set.others x d ∙ e)
    by x (inr d) (inr j) same = elim (subst (In x) same j) [ inl e ↦ absurd (d (sym e)) | inr k ↦ inr k ]

-- and left behind its last argument
pub marking_end : (s t : Heap) (a i p j port n : ℕ) (es : List Event) → Marking s t a i n es → argument_count s a ≤ i → is_item s a ≡ false → port ≡ j + 1
    → link_of s a (arity_of s a - 1) ≡ Some (p, j) → Marking s t p port (n + 1) es
marking_end s t a i p j port n es m high plain behind link =
    let met = at_end_of_term s a i m.left m.walk high plain in
    let left : entered m.left ≡ entered met.0 = ap entered met.3 in
    let turned : turns m.left ≡ suc (turns met.0) = ap turns met.3 in
    let few = m.few in
    let same = same_port (sym met.6 ∙ ap (link_of s a) (met.4 ∙ arguments_of_term s a plain) ∙ link) in
    record {
      left = met.0;
      walk = subst (λ q. WalkMeets s p q met.0) (sym behind) (subst (λ q. WalkMeets s p (q + 1) met.0) same.1 (subst (λ q. WalkMeets s q (met.2 + 1) met.0) same.0 met.7));
      done = λ x h. elim (m.done x h) [ inl e ↦ inl e | inr k ↦ inr (subst (In x) left k) ];
      others = m.others;
      ahead = λ x h. m.ahead x (subst (In x) (sym left) h);
      few = omega (arith, few, turned);
    }

-- all of them are marked
pub marking_all : (s t : Heap) → Paired s → (item a i n : ℕ) → is_item s item ≡ true → (d : Down s item 0 (leaves item ∷ [])) → ChangesOwnMarks s t → Marking s t a i n d.walk → argument_count s a ≤ i → is_item s a ≡ true
    → MarksTerms s t item
marking_all s t paired item a i n is d r m high end = record {
  marks = r;
  terms = λ c h. elim (m.done c (terms_entered s paired item d c h)) [
    | inl e ↦ e
    | inr j ↦ absurd (subst (In c) (ap entered (at_end_of_item s a i m.left m.walk high end)) j)
  ];
  others = λ x. elim (m.others x) [
    | inl e ↦ inl e
    | inr j ↦ inr (entered_terms s paired item is item 0 d.walk (inl refl) d.is x j)
  ];
}
