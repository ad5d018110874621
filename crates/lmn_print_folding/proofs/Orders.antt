-- Which of two atoms stands before the other, in a list and in printed order.
use Rattle.std.proofs.Common.{◌≡◌, ◌≢◌, ℕ, ◌⊎◌, inl, inr, List, [], ◌∷◌, Option, Some, None, refl, sym, ap, ◌∙◌, subst}
use Rattle.std.proofs.lemmas.Bool.{eq-eqb}
use Rattle.std.specs.Option.{option_map, option_and_then}
use Rattle.lmn_store_heap.specs.Heap.{Heap, HeapAtom, IsAtom, within, atoms_in, home_of, home_by}
use Rattle.lmn_store_heap.specs.Lists.{Distinct, after}
use Rattle.lmn_store_heap.specs.Sound.{Forest, flat, IsTree, Sound, Valid}
use Rattle.lmn_store_heap.proofs.ListLemmas.{each_in, in_left}
use Rattle.lmn_print_plain.specs.Numbers.{printed_atoms}
use Rattle.lmn_print_plain.proofs.OrderLemmas.{behind_atom, printed_all, printed_once, printed_in}
use Rattle.lmn_base.proofs.Numbers.{not_equal as apart_test, same_or_not as number_cases}
use Rattle.lmn_base.specs.Lists.{In}
use Rattle.lmn_base.proofs.Lists.{in_either}
use Rattle.lmn_store_heap.proofs.Common.{in_after as after_in}

-- what stands behind the first
pub after_here : (x a : ℕ) (xs : List ℕ) → x ≡ a → after a (x ∷ xs) ≡ xs
after_here x a xs e = rw (eq-eqb x a e) refl

-- or behind another
pub after_there : (x a : ℕ) (xs : List ℕ) → x ≢ a → after a (x ∷ xs) ≡ after a xs
after_there x a xs d = rw (apart_test x a d) refl

-- of two elements one stands behind the other,
pub one_behind : (a b : ℕ) (xs : List ℕ) → In a xs → In b xs → a ≢ b → In b (after a xs) ⊎ In a (after b xs)
one_behind a b [] i j d = absurd i
one_behind a b (x ∷ xs) i j d = at_first (number_cases x a) (number_cases x b) i j (λ k l. one_behind a b xs k l d)
  where
    more : x ≢ a → x ≢ b → In b (after a xs) ⊎ In a (after b xs) → In b (after a (x ∷ xs)) ⊎ In a (after b (x ∷ xs))
    more n k (inl h) = inl (subst (In b) (sym (after_there x a xs n)) h)
    more n k (inr h) = inr (subst (In a) (sym (after_there x b xs k)) h)

    at_first : (x ≡ a) ⊎ (x ≢ a) → (x ≡ b) ⊎ (x ≢ b) → In a (x ∷ xs) → In b (x ∷ xs) → (In a xs → In b xs → In b (after a xs) ⊎ In a (after b xs))
        → In b (after a (x ∷ xs)) ⊎ In a (after b (x ∷ xs))
    at_first (inl e) k i (inl f) rest = absurd (d (sym e ∙ f))
    at_first (inl e) k i (inr j) rest = inl (subst (In b) (sym (after_here x a xs e)) j)
    at_first (inr n) (inl f) (inl e) j rest = absurd (n e)
    at_first (inr n) (inl f) (inr i) j rest = inr (subst (In a) (sym (after_here x b xs f)) i)
    at_first (inr n) (inr k) (inl e) j rest = absurd (n e)
    at_first (inr n) (inr k) (inr i) (inl f) rest = absurd (k f)
    at_first (inr n) (inr k) (inr i) (inr j) rest = more n k (rest i j)

-- none behind itself,
pub not_behind : (a : ℕ) (xs : List ℕ) → Distinct xs → In a (after a xs) → ⊥
not_behind a [] d i = i
not_behind a (x ∷ xs) d i = elim (number_cases x a) [
  | inl e ↦ each_in (λ z. x ≢ z) xs a d.0 (subst (In a) (after_here x a xs e) i) e
  | inr n ↦ not_behind a xs d.1 (subst (In a) (after_there x a xs n) i)
]

-- and not both
pub not_both : (a b : ℕ) (xs : List ℕ) → Distinct xs → In b (after a xs) → In a (after b xs) → ⊥
not_both a b [] d i j = i
not_both a b (x ∷ xs) d i j = by (number_cases x a) (number_cases x b) (λ k l. not_both a b xs d.1 k l)
  where
    first : (y : ℕ) → x ≡ y → In y xs → ⊥
    first y e h = each_in (λ z. x ≢ z) xs y d.0 h e

    by : (x ≡ a) ⊎ (x ≢ a) → (x ≡ b) ⊎ (x ≢ b) → (In b (after a xs) → In a (after b xs) → ⊥) → ⊥
    by (inl e) (inl f) rest = first b f (subst (In b) (after_here x a xs e) i)
    by (inl e) (inr k) rest = first a e (after_in b a xs (subst (In a) (after_there x b xs k) j))
    by (inr n) (inl f) rest = first b f (after_in a b xs (subst (In b) (after_there x a xs n) i))
    by (inr n) (inr k) rest = rest (subst (In b) (after_there x a xs n) i) (subst (In a) (after_there x b xs k) j)

-- an atom of a list has its home there
pub home_in : (s : Heap) → Sound s → (m a : ℕ) → In a (atoms_in s m) → home_of s a ≡ Some m
home_in s sound m a i = by (s.atoms a) ((sound.listed.atoms m a).0 i)
  where
    by : (o : Option HeapAtom) → option_map (λ x. x.place) o ≡ Some (within m) → option_and_then (λ x. home_by x.place) o ≡ Some m
    by None e = absurd (cc e)
    by (Some x) e = let h : x.place ≡ within m = cc e in ap home_by h

-- atoms have one home
pub one_home : (s : Heap) → Sound s → (m n a : ℕ) → In a (atoms_in s m) → In a (atoms_in s n) → m ≡ n
one_home s sound m n a i j = let e = home_in s sound m a i in let f = home_in s sound n a j in cc

module _ (s : Heap) (sound : Sound s) (f : Forest) (t : IsTree s f) where
  -- printed order is that of the list
  pub order_in : (m p q : ℕ) → In p (atoms_in s m) → In q (atoms_in s m) → In q (after p (printed_atoms s (flat f))) → In q (after p (atoms_in s m))
  order_in m p q i j h =
      elim (in_either q (after p (atoms_in s m)) (printed_atoms s (after m (flat f))) (subst (In q) (behind_atom s sound f t p m (home_in s sound m p i)) h)) [
        | inl k ↦ k
        | inr k ↦ (let r = printed_in s (after m (flat f)) q k in
            absurd (not_behind m (flat f) t.once (subst (λ n. In n (after m (flat f))) (one_home s sound r.0 m q r.2 j) r.1)))
      ]

  pub order_out : (m p q : ℕ) → In p (atoms_in s m) → In q (after p (atoms_in s m)) → In q (after p (printed_atoms s (flat f)))
  order_out m p q i h =
      subst (In q) (sym (behind_atom s sound f t p m (home_in s sound m p i))) (in_left q (after p (atoms_in s m)) (printed_atoms s (after m (flat f))) h)

-- The atoms of a heap in one order, which in each membrane is that of its list.
pub record IsOrder (s : Heap) (xs : List ℕ) : Type 0 where
  pub once : Distinct xs
  pub all : (a : ℕ) → IsAtom s a → In a xs
  pub into : (m p q : ℕ) → In p (atoms_in s m) → In q (atoms_in s m) → In q (after p xs) → In q (after p (atoms_in s m))
  pub out : (m p q : ℕ) → In p (atoms_in s m) → In q (after p (atoms_in s m)) → In q (after p xs)

-- the atoms in printed order are in an order of items
pub is_order : (s : Heap) → Valid s → (f : Forest) → IsTree s f → IsOrder s (printed_atoms s (flat f))
is_order s valid f t = record {
  once = printed_once s valid.sound (flat f) t.once;
  all = printed_all s valid f t;
  into = order_in s valid.sound f t;
  out = order_out s valid.sound f t;
}
