-- The atoms that are no child are marked, one after the other.
use Rattle.std.proofs.Common.{◌≡◌, ◌≢◌, ℕ, ◌+◌, ◌-◌, ◌⊎◌, inl, inr, List, ◌∷◌, Option, Some, None, sym, ap, ◌∙◌, subst, arith}
use Rattle.lmn_store_heap.specs.Heap.{Heap, IsAtom, arity_of, atoms_in, link_of, own_mark, Unmarked}
use Rattle.lmn_store_heap.specs.Lists.{from, after}
use Rattle.lmn_store_heap.specs.Sound.{Valid}
use Rattle.lmn_print_folding.specs.Chosen.{ChangesOwnMarks}
use Rattle.lmn_print_folding.specs.Children.{IsChildAt}
use Rattle.lmn_print_folding.specs.Marking.{AreFirsts, IsChildNowhere, IsChildSomewhere, MarksFirst, TellsBefore}
use Rattle.lmn_print_folding.proofs.Orders.{IsOrder, one_behind, not_behind, not_both, one_home}
use Rattle.lmn_print_folding.proofs.OwnMarks.{arity_same, last_same, list_same, atom_before, changes_none, changes_more, changes_back, no_child_same, some_child_same}
use Rattle.lmn_store_heap.proofs.Replacing.{port_within as link_low}
use Rattle.lmn_base.proofs.Numbers.{same_or_not as number_cases}
use Rattle.lmn_store_heap.proofs.Common.{same_port}
use Rattle.lmn_print_plain.proofs.ToldLemmas.{all_atoms}
use Rattle.lmn_base.specs.Lists.{In}

-- Each atom before the next one has the mark 1 where it is no child, and those that are to come have 0.
pub record FirstsLeft (s t : Heap) (xs : List ℕ) (next : Option ℕ) : Type 0 where
  pub marks : ChangesOwnMarks s t
  pub left : (a : ℕ) → In a (from next xs) → own_mark t a ≡ 0
  pub done : (a : ℕ) → IsAtom s a → In a (from next xs) ⊎ ((own_mark t a ≡ 1) × IsChildNowhere s a) ⊎ ((own_mark t a ≡ 0) × IsChildSomewhere s a)

-- at first no item is marked
pub firsts_first : (s : Heap) → Unmarked s → (xs : List ℕ) → IsOrder s xs → (next : Option ℕ) → from next xs ≡ xs → FirstsLeft s s xs next
firsts_first s unmarked xs order next e = record {
  marks = changes_none s;
  left = λ a i. unmarked a (arity_of s a);
  done = λ a i. inl (subst (In a) (sym e) (order.all a i));
}

module _ (s t : Heap) (valid : Valid s) (xs : List ℕ) (order : IsOrder s xs) (b : ℕ) (there : IsAtom s b) (f : FirstsLeft s t xs (Some b)) where
  -- the mark 1 tells which atoms stand before the next one
  pub firsts_before : TellsBefore t b
  firsts_before m p k i j e last = (before, behind)
    where
      i' : In b (atoms_in s m)
      i' = subst (In b) (list_same s t f.marks m) i

      j' : In p (atoms_in s m)
      j' = subst (In p) (list_same s t f.marks m) j

      joined : link_of s b (arity_of s b - 1) ≡ Some (p, k)
      joined = last_same s t f.marks b (p, k) e

      ended : k + 1 ≡ arity_of s p
      ended = last ∙ arity_same s t f.marks p

      here : In b (after p (atoms_in s m)) → In b (after p (atoms_in t m))
      here h = subst (λ ys. In b (after p ys)) (sym (list_same s t f.marks m)) h

      before : own_mark t p ≡ 1 → In b (after p (atoms_in t m))
      before o =
          elim (number_cases p b) [
            | inl e ↦ absurd (let z = f.left p (inl (sym e)) in cc)
            | inr d ↦ elim (one_behind p b xs (order.all p (all_atoms s valid.sound m p j')) (order.all b there) d) [
              | inl h ↦ here (order.into m p b j' i' h)
              | inr h ↦ absurd (let z = f.left p (inr h) in cc)
            ]
          ]

      back : link_of s p (arity_of s p - 1) ≡ Some (b, arity_of s b - 1)
      back = ap (λ n. link_of s p n) (let h : arity_of s p - 1 ≡ k = omega (arith, ended) in h) ∙ valid.sound.paired.back b (arity_of s b - 1) p k joined

      child : (n r l : ℕ) → IsChildAt s n p r l → In b (after p (atoms_in s m)) → ⊥
      child n r l c h =
          let same = same_port (sym c.joined ∙ back) in
          let some = link_low s b (arity_of s b - 1) (p, k) joined in
          let full : l + 1 ≡ arity_of s r = (let q = same.1 in let w : arity_of s r ≡ arity_of s b = ap (arity_of s) same.0 in omega (arith, q, some, w)) in
          elim c.before [
            | inl n ↦ n full
            | inr g ↦ not_both p b (atoms_in s m) (valid.sound.listed.atoms_once m) h
                (subst (λ q. In p (after q (atoms_in s m))) same.0 (subst (λ q. In p (after r (atoms_in s q))) (one_home s valid.sound n m p c.child j') g))
          ]

      behind : In b (after p (atoms_in t m)) → own_mark t p ≡ 1
      behind g =
          let h : In b (after p (atoms_in s m)) = subst (λ ys. In b (after p ys)) (list_same s t f.marks m) g in
          let out = order.out m p b j' h in
          elim (f.done p (all_atoms s valid.sound m p j')) [
            | inl q ↦ elim q [
              | inl e ↦ absurd (not_behind b xs order.once (subst (λ z. In b (after z xs)) (sym e) out))
              | inr q ↦ absurd (not_both p b xs order.once out q)
            ]
            | inr q ↦ elim q [
              | inl o ↦ o.0
              | inr o ↦ absurd (child o.1.0 o.1.1 o.1.2 o.1.3 h)
            ]
          ]

  -- one atom more
  pub firsts_next : (u : Heap) (next : Option ℕ) → from next xs ≡ after b xs → MarksFirst t u b → FirstsLeft s u xs next
  firsts_next u next e m = record {
    marks = changes_more s t u f.marks m.marks;
    left = λ a i.
        let j : In a (after b xs) = subst (In a) e i in
        m.others a (λ same. not_behind b xs order.once (subst (λ z. In z (after b xs)) same j)) ∙ f.left a (inr j);
    done = λ a i. by a (number_cases a b) (f.done a i);
  }
    where
      back : ChangesOwnMarks t s
      back = changes_back s t f.marks

      here : In b (from next xs) ⊎ ((own_mark u b ≡ 1) × IsChildNowhere s b) ⊎ ((own_mark u b ≡ 0) × IsChildSomewhere s b)
      here = elim m.here [
        | inl h ↦ inr (inl (h.0, no_child_same t s f.marks b h.1))
        | inr h ↦ inr (inr (h.0, some_child_same t s back b h.1))
      ]

      by : (a : ℕ) → (a ≡ b) ⊎ (a ≢ b) → In a (b ∷ after b xs) ⊎ ((own_mark t a ≡ 1) × IsChildNowhere s a) ⊎ ((own_mark t a ≡ 0) × IsChildSomewhere s a)
          → In a (from next xs) ⊎ ((own_mark u a ≡ 1) × IsChildNowhere s a) ⊎ ((own_mark u a ≡ 0) × IsChildSomewhere s a)
      by a (inl same) h = subst (λ z. In z (from next xs) ⊎ ((own_mark u z ≡ 1) × IsChildNowhere s z) ⊎ ((own_mark u z ≡ 0) × IsChildSomewhere s z)) (sym same) here
      by a (inr d) (inl (inl same)) = absurd (d (sym same))
      by a (inr d) (inl (inr j)) = inl (subst (In a) (sym e) j)
      by a (inr d) (inr (inl h)) = inr (inl (m.others a d ∙ h.0, h.1))
      by a (inr d) (inr (inr h)) = inr (inr (m.others a d ∙ h.0, h.1))

-- all atoms are done
pub firsts_last : (s t : Heap) (xs : List ℕ) → FirstsLeft s t xs None → AreFirsts t
firsts_last s t xs f a i = elim (f.done a (atom_before s t f.marks a i)) [
  | inl j ↦ absurd j
  | inr h ↦ elim h [
    | inl o ↦ inl (o.0, no_child_same s t (changes_back s t f.marks) a o.1)
    | inr o ↦ inr (o.0, some_child_same s t f.marks a o.1)
  ]
]
