-- Copies that wait are placed.
use Rattle.std.proofs.Common.{◌≡◌, ◌≢◌, ℕ, zero, suc, ◌+◌, ◌<◌, ◌≤◌, List, [], ◌∷◌, ◌++◌, length, map, drop, Option, Some, None, refl, sym, ap, subst, ◌∙◌, arith}
use Rattle.std.specs.Option.{option_map, option_and_then}
use Rattle.lmn_store_heap.specs.Heap.{Heap, HeapMem, Place, within, alter, after, from, home_by, IsMemInPlace, IsTopOrWithin, atoms_by, atoms_in, rules_in, mem_with_place, mem_with_atoms, mem_with_mems, mem_with_rules, placed, placed_mem, rules_copied}
use Rattle.lmn_store_heap.proofs.Listing.{alter_away, alter_keeps}
use Rattle.lmn_base.proofs.Lists.{drop_get, get_there, head_is}
use Rattle.lmn_ground_parts.specs.Rests.{atoms_placed}
use Rattle.lmn_store_heap.proofs.Common.{after_first as behind_here}

-- What placing atoms leaves as it is.
module _ {X : Type 0} (view : Option HeapMem → X) (same : (f : List ℕ → List ℕ) (o : Option HeapMem) → view (option_map (mem_with_atoms f) o) ≡ view o) where
  pub atoms_keep : (f : ℕ → ℕ) (s : Heap) (n : ℕ) (xs : List ℕ) (z : ℕ) → view ((atoms_placed f s n xs).mems z) ≡ view (s.mems z)
  atoms_keep f s n [] z = refl
  atoms_keep f s n (x ∷ xs) z = atoms_keep f (placed s n (f x)) n xs z ∙ alter_keeps s.mems n (option_map (mem_with_atoms (λ ys. ys ++ f x ∷ []))) view (same (λ ys. ys ++ f x ∷ [])) z

-- other membranes stay as they are
pub atoms_away : (f : ℕ → ℕ) (s : Heap) (n : ℕ) (xs : List ℕ) (z : ℕ) → z ≢ n → (atoms_placed f s n xs).mems z ≡ s.mems z
atoms_away f s n [] z d = refl
atoms_away f s n (x ∷ xs) z d = atoms_away f (placed s n (f x)) n xs z d ∙ alter_away s.mems n (option_map (mem_with_atoms (λ ys. ys ++ f x ∷ []))) z d

-- the membranes that wait stay
pub atoms_line : (f : ℕ → ℕ) (s : Heap) (n : ℕ) (xs : List ℕ) → (atoms_placed f s n xs).new_mems ≡ s.new_mems
atoms_line f s n [] = refl
atoms_line f s n (x ∷ xs) = atoms_line f (placed s n (f x)) n xs

-- the atoms that are placed leave the line
pub atoms_behind : (f : ℕ → ℕ) (s : Heap) (n : ℕ) (xs rest : List ℕ) → s.new_atoms ≡ map f xs ++ rest → (atoms_placed f s n xs).new_atoms ≡ rest
atoms_behind f s n [] rest e = e
atoms_behind f s n (x ∷ xs) rest e = atoms_behind f (placed s n (f x)) n xs rest (ap (after (f x)) e ∙ behind_here (f x) (map f xs ++ rest))

-- copies of atoms are placed in the order of these
pub atoms_mapped : (f : ℕ → ℕ) (s : Heap) (n : ℕ) (xs : List ℕ) → atoms_placed (λ a. a) s n (map f xs) ≡ atoms_placed f s n xs
atoms_mapped f s n [] = refl
atoms_mapped f s n (x ∷ xs) = atoms_mapped f (placed s n (f x)) n xs

-- The loop that places atoms: what is left to be placed gives the same.
abbrev pub LeftToPlace : Heap → Heap → ℕ → ℕ → List ℕ → List ℕ → Type 0
LeftToPlace s t n i ys behind = (t.new_atoms ≡ drop i ys ++ behind) × (atoms_placed (λ a. a) t n (drop i ys) ≡ atoms_placed (λ a. a) s n ys)

-- an atom waits where some are to be placed
pub place_first : (t : Heap) (n i : ℕ) (ys behind : List ℕ) (s : Heap) → i < length ys → LeftToPlace s t n i ys behind → t.new_atoms ≡ [] → ⊥
place_first t n i ys behind s l h e =
    let w = get_there ys i l in
    let f : [] ≡ w.0 ∷ (drop (i + 1) ys ++ behind) = sym e ∙ h.0 ∙ ap (λ zs. zs ++ behind) (drop_get i ys w.0 w.1) in
    cc

-- one more is placed
pub place_next : (s t u : Heap) (n i a : ℕ) (ys behind : List ℕ) → i < length ys → LeftToPlace s t n i ys behind → from (Some a) t.new_atoms ≡ t.new_atoms → u ≡ placed t n a → LeftToPlace s u n (i + 1) ys behind
place_next s t u n i a ys behind l h e p =
    let w = get_there ys i l in
    let y = w.0 in
    let d = drop_get i ys y w.1 in
    let line : t.new_atoms ≡ y ∷ (drop (i + 1) ys ++ behind) = h.0 ∙ ap (λ zs. zs ++ behind) d in
    let same : a ≡ y = head_is (e ∙ line) in
    let is : u ≡ placed t n y = p ∙ ap (placed t n) same in (
      ap (λ z. z.new_atoms) is ∙ ap (after y) line ∙ behind_here y (drop (i + 1) ys ++ behind),
      ap (λ z. atoms_placed (λ a. a) z n (drop (i + 1) ys)) is ∙ ap (atoms_placed (λ a. a) t n) (sym d) ∙ h.1,
    )

-- at the end all are
pub place_last : (s t : Heap) (n i : ℕ) (ys behind : List ℕ) → length ys ≤ i → LeftToPlace s t n i ys behind → t ≡ atoms_placed (λ a. a) s n ys
place_last s t n i ys behind l h = ap (atoms_placed (λ a. a) t n) (sym (none i ys l)) ∙ h.1
  where
    none : (i : ℕ) (ys : List ℕ) → length ys ≤ i → drop i ys ≡ []
    none zero [] l = refl
    none (suc i) [] l = refl
    none zero (y ∷ ys) l = absurd (omega (arith, l))
    none (suc i) (y ∷ ys) l = none i ys (omega (arith, l))

-- Places of membranes stay when an atom is placed.
pub place_stays : (f : List ℕ → List ℕ) (o : Option HeapMem) → option_map (λ x. x.place) (option_map (mem_with_atoms f) o) ≡ option_map (λ x. x.place) o
place_stays f None = refl
place_stays f (Some x) = refl

-- and so does the membrane round one
pub parent_stays : (f : List ℕ → List ℕ) (o : Option HeapMem) → option_and_then (λ (x : HeapMem). home_by x.place) (option_map (mem_with_atoms f) o) ≡ option_and_then (λ (x : HeapMem). home_by x.place) o
parent_stays f None = refl
parent_stays f (Some x) = refl

-- what is in place stays there
pub still_in_place : (t u : Heap) (n a m : ℕ) → u ≡ placed t n a → IsMemInPlace t m → IsMemInPlace u m
still_in_place t u n a m e h =
    subst (λ z. IsMemInPlace z m) (sym e)
    (subst IsTopOrWithin (sym (alter_keeps t.mems n (option_map (mem_with_atoms (λ ys. ys ++ a ∷ []))) (option_map (λ x. x.place)) (place_stays (λ ys. ys ++ a ∷ [])) m)) h)

-- A membrane is placed with rules.
module _ (h : Heap) (p k : ℕ) where
  module _ {X : Type 0} (view : Option HeapMem → X) (here : (q : Place) (o : Option HeapMem) → view (option_map (mem_with_place q) o) ≡ view o) (list : (f : List ℕ → List ℕ) (o : Option HeapMem) → view (option_map (mem_with_mems f) o) ≡ view o) where
    -- what placing the membrane leaves as it is
    pub mem_keeps : (z : ℕ) → view ((placed_mem h p k).mems z) ≡ view (h.mems z)
    mem_keeps z =
        alter_keeps (alter h.mems k (option_map (mem_with_place (within p)))) p (option_map (mem_with_mems (λ xs. xs ++ k ∷ []))) view (list (λ xs. xs ++ k ∷ [])) z
        ∙ alter_keeps h.mems k (option_map (mem_with_place (within p))) view (here (within p)) z

-- the atoms of a membrane stay when a copy is placed with its rules
pub atoms_same : (h : Heap) (c y k z : ℕ) → atoms_in (rules_copied (placed_mem h c k) y k) z ≡ atoms_in h z
atoms_same h c y k z =
    alter_keeps (placed_mem h c k).mems k (option_map (mem_with_rules (rules_in (placed_mem h c k) y))) atoms_by (rules (rules_in (placed_mem h c k) y)) z
    ∙ mem_keeps h c k atoms_by here list z
  where
    rules : (ks : List ℕ) (o : Option HeapMem) → atoms_by (option_map (mem_with_rules ks) o) ≡ atoms_by o
    rules ks None = refl
    rules ks (Some x) = refl

    here : (q : Place) (o : Option HeapMem) → atoms_by (option_map (mem_with_place q) o) ≡ atoms_by o
    here q None = refl
    here q (Some x) = refl

    list : (f : List ℕ → List ℕ) (o : Option HeapMem) → atoms_by (option_map (mem_with_mems f) o) ≡ atoms_by o
    list f None = refl
    list f (Some x) = refl
