-- The next membrane in preorder, and the next atom in printed order.
use Rattle.std.proofs.Common.{◌≡◌, ◌≢◌, ℕ, suc, ◌-◌, ◌<◌, ◌≤◌, ◌^◌, inl, inr, List, [], ◌∷◌, ◌++◌, length, Option, Some, None, IsSome, refl, sym, ap, ◌∙◌, subst, arith}
use Rattle.std.specs.Option.{option_map}
use Rattle.std.proofs.lemmas.List.{append_assoc}
use Rattle.lmn_store_heap.specs.Heap.{Heap, HeapAtom, within, IsAtom, IsMem, atoms_in, home_of, parent_of, place_of}
use Rattle.lmn_store_heap.specs.Lists.{Distinct, from, after}
use Rattle.lmn_store_heap.specs.Sound.{Forest, flat, IsTree, Sound, AtMost, Valid}
use Rattle.lmn_store_heap.specs.Trees.{tree_of}
use Rattle.lmn_store_heap.proofs.Depths.{both_distinct, tree_is}
use Rattle.lmn_store_heap.proofs.ListLemmas.{each_in, in_left, in_right, in_split}
use Rattle.lmn_store_heap.proofs.Listing.{home_is}
use Rattle.lmn_store_heap.proofs.Pigeonholes.{not_longer}
use Rattle.lmn_store_heap.proofs.Trees.{Left, lower, root_first, after_split, from_next}
use Rattle.lmn_print_plain.specs.Numbers.{printed_atoms}
use Rattle.lmn_store_heap.proofs.Common.{holds_mem as mem_with_atom}
use Rattle.lmn_base.specs.Lists.{In}
use Rattle.lmn_base.proofs.Lists.{in_either}

-- the tree is that of the heap
pub tree_there : (s : Heap) → Sound s → AtMost (2 ^ 48) s → (f : Forest) → IsTree s f → IsTree s (tree_of s)
tree_there s sound few f t = subst (IsTree s) (sym (tree_is s f sound few t)) t

-- going up comes nearer to the end of the tree
pub climbs_lower : (s : Heap) (sound : Sound s) → AtMost (2 ^ 48) s → (f : Forest) (t : IsTree s f) (m at p : ℕ) → ((g : Forest) → IsTree s g → Left g m at) → parent_of s at ≡ Some p
    → length (flat (tree_of s)) - length (after p (flat (tree_of s))) < length (flat (tree_of s)) - length (after at (flat (tree_of s)))
climbs_lower s sound few f t m at p left e = let u = tree_there s sound few f t in lower s sound (tree_of s) u m at (left (tree_of s) u) p e

-- what comes next has less behind it
pub nearer : (m n : ℕ) (xs : List ℕ) → from (Some n) xs ≡ after m xs → length (after n xs) < length (after m xs)
nearer m n xs h = let e : suc (length (after n xs)) ≡ length (after m xs) = ap length h in omega (arith, e)

-- The atoms in printed order.

-- an atom of some membranes is in one of them
pub printed_in : (s : Heap) (ms : List ℕ) (a : ℕ) → In a (printed_atoms s ms) → (m : ℕ) × In m ms × In a (atoms_in s m)
printed_in s [] a i = absurd i
printed_in s (m ∷ ms) a i = elim (in_either a (atoms_in s m) (printed_atoms s ms) i) [
  | inl j ↦ (m, inl refl, j)
  | inr j ↦ (let r = printed_in s ms a j in (r.0, inr r.1, r.2))
]

in_printed : (s : Heap) (ms : List ℕ) (m a : ℕ) → In m ms → In a (atoms_in s m) → In a (printed_atoms s ms)
in_printed s [] m a i j = absurd i
in_printed s (k ∷ ms) m a (inl e) j = in_left a (atoms_in s k) (printed_atoms s ms) (subst (λ n. In a (atoms_in s n)) (sym e) j)
in_printed s (k ∷ ms) m a (inr i) j = in_right a (atoms_in s k) (printed_atoms s ms) (in_printed s ms m a i j)

-- each of them stands there once
pub printed_once : (s : Heap) → Sound s → (ms : List ℕ) → Distinct ms → Distinct (printed_atoms s ms)
printed_once s sound [] d = tt
printed_once s sound (m ∷ ms) d =
    both_distinct (atoms_in s m) (printed_atoms s ms) (sound.listed.atoms_once m) (printed_once s sound ms d.1) (λ a i j.
    let r = printed_in s ms a j in
    let here = (sound.listed.atoms m a).0 i in
    let there = (sound.listed.atoms r.0 a).0 r.2 in
    let same : m ≡ r.0 = cc in
    each_in (λ n. m ≢ n) ms r.0 d.0 r.1 same)

-- the atoms of two lists of membranes, one behind the other
pub printed_append : (s : Heap) (xs ys : List ℕ) → printed_atoms s (xs ++ ys) ≡ printed_atoms s xs ++ printed_atoms s ys
printed_append s [] ys = refl
printed_append s (x ∷ xs) ys = ap (λ zs. atoms_in s x ++ zs) (printed_append s xs ys) ∙ sym (append_assoc (atoms_in s x) (printed_atoms s xs) (printed_atoms s ys))

-- an atom with a home stands in its list, and the home in the tree
pub at_home : (s : Heap) → Sound s → (a m : ℕ) → home_of s a ≡ Some m → In a (atoms_in s m) × IsMem s m
at_home s sound a m e = let i = (sound.listed.atoms m a).1 (home_is s a m e) in (i, mem_with_atom (s.mems m) a i)

module _ (s : Heap) (sound : Sound s) (f : Forest) (t : IsTree s f) where
  -- the atoms behind one: those in its membrane and those of the membranes behind it
  pub behind_atom : (a m : ℕ) → home_of s a ≡ Some m → after a (printed_atoms s (flat f)) ≡ after a (atoms_in s m) ++ printed_atoms s (after m (flat f))
  behind_atom a m e =
      let h = at_home s sound a m e in
      let p = in_split m (flat f) (t.all m h.1) in
      let q = in_split a (atoms_in s m) h.0 in
      let post = printed_atoms s p.1 in
      let end : after m (flat f) ≡ p.1 = ap (after m) p.2 ∙ after_split m p.0 p.1 (subst Distinct p.2 t.once) in
      let here : after a (atoms_in s m) ≡ q.1 = ap (after a) q.2 ∙ after_split a q.0 q.1 (subst Distinct q.2 (sound.listed.atoms_once m)) in
      let whole : printed_atoms s (flat f) ≡ (printed_atoms s p.0 ++ q.0) ++ (a ∷ (q.1 ++ post)) =
      ap (printed_atoms s) p.2 ∙ printed_append s p.0 (m ∷ p.1) ∙ ap (λ zs. printed_atoms s p.0 ++ (zs ++ post)) q.2
      ∙ ap (λ zs. printed_atoms s p.0 ++ zs) (append_assoc q.0 (a ∷ q.1) post) ∙ sym (append_assoc (printed_atoms s p.0) q.0 (a ∷ (q.1 ++ post))) in
      ap (after a) whole ∙ after_split a (printed_atoms s p.0 ++ q.0) (q.1 ++ post) (subst Distinct whole (printed_once s sound (flat f) t.once))
      ∙ ap (λ zs. zs ++ post) (sym here) ∙ ap (λ zs. after a (atoms_in s m) ++ printed_atoms s zs) (sym end)

  next_by : (a : ℕ) (o : Option ℕ) (ys : List ℕ) → after a (printed_atoms s (flat f)) ≡ ys → from o ys ≡ ys → from o (printed_atoms s (flat f)) ≡ after a (printed_atoms s (flat f))
  next_by a None ys e h = h ∙ sym e
  next_by a (Some b) ys e h = from_next a b (printed_atoms s (flat f)) (after b ys) (printed_once s sound (flat f) t.once) (e ∙ sym h)

  -- the next one in its membrane
  pub next_here : (a m b : ℕ) → home_of s a ≡ Some m → from (Some b) (atoms_in s m) ≡ after a (atoms_in s m) → from (Some b) (printed_atoms s (flat f)) ≡ after a (printed_atoms s (flat f))
  next_here a m b e h =
      from_next a b (printed_atoms s (flat f)) (after b (atoms_in s m) ++ printed_atoms s (after m (flat f))) (printed_once s sound (flat f) t.once)
      (behind_atom a m e ∙ ap (λ zs. zs ++ printed_atoms s (after m (flat f))) (sym h))

  -- the first one in a membrane behind its own
  pub next_further : (a m n : ℕ) (o : Option ℕ) → home_of s a ≡ Some m → from None (atoms_in s m) ≡ after a (atoms_in s m) → from (Some n) (flat f) ≡ after m (flat f)
      → from o (printed_atoms s (from (Some n) (flat f))) ≡ printed_atoms s (from (Some n) (flat f)) → from o (printed_atoms s (flat f)) ≡ after a (printed_atoms s (flat f))
  next_further a m n o e none behind h =
      next_by a o (printed_atoms s (from (Some n) (flat f)))
      (behind_atom a m e ∙ ap (λ zs. zs ++ printed_atoms s (after m (flat f))) (sym none) ∙ ap (printed_atoms s) (sym behind)) h

  -- none
  pub next_none : (a m : ℕ) → home_of s a ≡ Some m → from None (atoms_in s m) ≡ after a (atoms_in s m) → from None (flat f) ≡ after m (flat f)
      → from None (printed_atoms s (flat f)) ≡ after a (printed_atoms s (flat f))
  next_none a m e none behind = next_by a None [] (behind_atom a m e ∙ ap (λ zs. zs ++ printed_atoms s (after m (flat f))) (sym none) ∙ ap (printed_atoms s) (sym behind)) refl

  -- there are few
  pub printed_few : AtMost (2 ^ 48) s → length (printed_atoms s (flat f)) ≤ 2 ^ 48
  printed_few few =
      let l = not_longer (printed_atoms s (flat f)) few.atoms (printed_once s sound (flat f) t.once) (λ a i.
      few.all_atoms a (let r = printed_in s (flat f) a i in atom_by_place s a r.0 ((sound.listed.atoms r.0 a).0 r.2))) in
      let all = few.few in
      omega (arith, l, all)
    where
      atom_by_place : (s : Heap) (a m : ℕ) → place_of s a ≡ Some (within m) → IsAtom s a
      atom_by_place s a m e = by (s.atoms a) e
        where
          by : (o : Option HeapAtom) → option_map (λ x. x.place) o ≡ Some (within m) → IsSome o
          by None e = absurd (cc e)
          by (Some x) e = refl

-- every atom is one of them
pub printed_all : (s : Heap) (valid : Valid s) (f : Forest) → IsTree s f → (a : ℕ) → IsAtom s a → In a (printed_atoms s (flat f))
printed_all s valid f t a i = by (home_of s a) refl (valid.settled.atoms a i)
  where
    by : (o : Option ℕ) → home_of s a ≡ o → IsSome o → In a (printed_atoms s (flat f))
    by None e w = absurd (cc w)
    by (Some m) e w = let h = at_home s valid.sound a m e in in_printed s (flat f) m a (t.all m h.1) h.0

-- the first of them is the first in the root
pub first_all : (s : Heap) (f : Forest) → IsTree s f → (m : ℕ) (o : Option ℕ) → m ≡ s.root → from o (printed_atoms s (from (Some m) (flat f))) ≡ printed_atoms s (from (Some m) (flat f))
    → from o (printed_atoms s (flat f)) ≡ printed_atoms s (flat f)
first_all s f t m o e h =
    let all : from (Some m) (flat f) ≡ flat f = ap (λ n. from (Some n) (flat f)) e ∙ (root_first s f t).1 in
    subst (λ ms. from o (printed_atoms s ms) ≡ printed_atoms s ms) all h
