-- The atoms of parts in a valid heap, as a list.
use Rattle.std.proofs.Common.{ℕ, zero, suc, ◌≡◌, ◌⊎◌, List, [], ◌∷◌, ◌++◌, length, Option, Some, None, IsSome, refl, sym, subst, inl, inr, arith}
use Rattle.std.specs.Option.{option_and_then}
use Rattle.std.specs.Prelude.{◌↔◌, slice_get, slice_index_or}
use Rattle.lmn_base.specs.Graphs.{Reached, at_root, across}
use Rattle.lmn_base.proofs.Lists.{in_either}
use Rattle.lmn_store_heap.specs.Heap.{Heap, HeapAtom, HeapMem, home_by, IsAtom, partners_of, atoms_by, atoms_in, port_id}
use Rattle.lmn_store_heap.specs.Graphs.{atom_map}
use Rattle.lmn_store_heap.specs.Sound.{Valid, flat}
use Rattle.lmn_store_heap.proofs.ListLemmas.{in_left, in_right}
use Rattle.lmn_store_heap.proofs.Listing.{home_is}
use Rattle.lmn_base.specs.Lists.{In}
use Rattle.lmn_ground_parts.specs.Rests.{atoms_of_all}
use Rattle.lmn_ground.proofs.RestLaws.{in_all}
use Rattle.lmn_machine_commit.specs.Registers.{IsInParts}
use Rattle.lmn_store_heap.proofs.PartLists.{all_of_part, grown}

-- each atom of a valid heap stands in a membrane
all_atoms : (h : Heap) (v : Valid h) (a : ℕ) → IsAtom h a → In a (atoms_of_all h (flat v.tree.0))
all_atoms h v a there = by (h.atoms a) refl (v.settled.atoms a there)
  where
    filled : (o : Option HeapMem) → In a (atoms_by o) → IsSome o
    filled None i = absurd i
    filled (Some x) i = refl

    inside : (m : ℕ) → In a (atoms_in h m) → In a (atoms_of_all h (flat v.tree.0))
    inside m i = in_all h (flat v.tree.0) m a (v.tree.1.all m (filled (h.mems m) i)) i

    at : (o : Option ℕ) → option_and_then (λ x. home_by x.place) (h.atoms a) ≡ o → IsSome o → In a (atoms_of_all h (flat v.tree.0))
    at None e i = absurd (cc)
    at (Some m) e i = inside m ((v.sound.listed.atoms m a).1 (home_is h a m e))

    by : (o : Option HeapAtom) → h.atoms a ≡ o → IsSome (option_and_then (λ x. home_by x.place) (h.atoms a)) → In a (atoms_of_all h (flat v.tree.0))
    by o e i = at (option_and_then (λ x. home_by x.place) (h.atoms a)) refl i

-- what is reached is the first atom or an atom of the heap
reached_there : (h : Heap) (v : Valid h) (root : ℕ × ℕ) (a : ℕ) → Reached (atom_map h) root a → (a ≡ root.0) ⊎ IsAtom h a
reached_there h v root a at_root = inl refl
reached_there h v root b (across {a = a} {i = i} {j = j} w d l) = inr (by (h.atoms b) (v.sound.paired.back a i b j l))
  where
    none : (k : ℕ) → slice_index_or (partners_of None) k None ≡ Some (a, i) → ⊥
    none zero q = cc
    none (suc k) q = cc

    by : (o : Option HeapAtom) → slice_index_or (partners_of o) j None ≡ Some (a, i) → IsSome o
    by None e = absurd (none j e)
    by (Some x) e = refl

-- The atoms of a part are those of a list.
pub part_told : (h : Heap) → Valid h → (root : ℕ × ℕ) → (all : List ℕ) × ((a : ℕ) → In a all ↔ Reached (atom_map h) root a)
part_told h v root =
    let rs = atoms_of_all h (flat v.tree.0) in
    let p = grown h root (length rs) root.0 [] rs (omega arith) (tt, tt) (at_root, tt) (inl refl)
    (λ c w. elim (reached_there h v root c w) [ inl e ↦ inl (inl (sym e)) | inr i ↦ inr (all_atoms h v c i) ]) in
    (p.first ∷ p.others, λ a. (p.reached a, λ w. all_of_part h root (p.first ∷ p.others) p.start p.shut a w))

-- So are those of all parts in registers.
pub parts_told : {A : Type 0} (atom : A → ℕ) (h : Heap) → Valid h → (parts : List (A × ℕ)) → (all : List ℕ) × ((a : ℕ) → In a all ↔ IsInParts atom h parts a)
parts_told atom h v [] = ([], λ a. (λ i. absurd i, λ w. absurd (none w.0 w.1 w.2)))
  where
    none : {A : Type 0} (k : ℕ) (p : A × ℕ) → slice_get [] k ≡ Some p → ⊥
    none zero p e = cc
    none (suc k) p e = cc
parts_told {A} atom h v (p ∷ ps) =
    let one = part_told h v (port_id atom p) in
    let more = parts_told atom h v ps in (
      one.0 ++ more.0,
      λ a. (
        λ i. elim (in_either a one.0 more.0 i) [ inl k ↦ (0, p, refl, (one.1 a).0 k) | inr k ↦ (let w = (more.1 a).0 k in (suc w.0, w.1, w.2, w.3)) ],
        λ w. by one.0 more.0 a (one.1 a).1 (more.1 a).1 w.0 w.1 w.2 w.3,
      ),
    )
  where
    by : (xs ys : List ℕ) (a : ℕ) → (Reached (atom_map h) (port_id atom p) a → In a xs) → (IsInParts atom h ps a → In a ys) → (k : ℕ) (q : A × ℕ) → slice_get (p ∷ ps) k ≡ Some q → Reached (atom_map h) (port_id atom q) a → In a (xs ++ ys)
    by xs ys a first later zero q e r = let same : p ≡ q = cc in in_left a xs ys (first (subst (λ z. Reached (atom_map h) (port_id atom z) a) (sym same) r))
    by xs ys a first later (suc k) q e r = in_right a xs ys (later (k, q, e, r))
