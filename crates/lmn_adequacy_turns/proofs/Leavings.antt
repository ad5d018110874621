-- What a head leaves of a membrane stands, after the firing, as before.
use Rattle.std.proofs.Common.{ℕ, ◌≡◌, ◌≢◌, List, [], ◌∷◌, Option, Some, None, IsSome, refl, sym, subst, ◌∙◌, inl, inr}
use Rattle.std.specs.Option.{option_map}
use Rattle.lmn_store_heap.specs.Heap.{Heap, HeapMem, within, IsMem, mems_in}
use Rattle.lmn_store_heap.specs.Sound.{Forest, bare, mem, flat, Forms, IsTree, Valid}
use Rattle.lmn_store_heap.proofs.Groves.{list_inside, child_inside}
use Rattle.lmn_store_heap.proofs.ListLemmas.{each_in}
use Rattle.lmn_solid_bodies.specs.Running.{Registers}
use Rattle.lmn_adequacy_turns.proofs.Turns.{Placing}
use Rattle.lmn_base.specs.Lists.{In}
use Rattle.lmn_base.proofs.Lists.{in_either}

-- the tree of a heap is that of its root
pub root_tree : (h : Heap) (t : Forest) → IsTree h t → (inner : Forest) × (t ≡ mem h.root inner bare)
root_tree h t tr = by t tr.forms
  where
    empty : (f : Forest) (ms : List ℕ) → ms ≡ [] → Forms h f ms → f ≡ bare
    empty bare ms e F = refl
    empty (mem k i f) ms e F = absurd (let z : k ∷ F.0 ≡ [] = sym F.1 ∙ e in cc)

    by : (t : Forest) → Forms h t (h.root ∷ []) → (inner : Forest) × (t ≡ mem h.root inner bare)
    by bare F = absurd (cc)
    by (mem k i f) F =
        let first : k ≡ h.root = cc (F.1) in
        let others : F.0 ≡ [] = cc (F.1) in
        (i, λ j. mem (first j) i (empty f F.0 others F.3 j))

-- what is listed in a membrane is there
pub listed_there : (h : Heap) → Valid h → (x y : ℕ) → In x (mems_in h y) → IsMem h x
listed_there h v x y i = by (h.mems x) ((v.sound.listed.mems y x).0 i)
  where
    by : (o : Option HeapMem) → option_map (λ z. z.place) o ≡ Some (within y) → IsSome o
    by None e = absurd (cc)
    by (Some z) e = refl

-- and so is each membrane of a forest
pub forest_there : (h : Heap) → Valid h → (f : Forest) (ms : List ℕ) → Forms h f ms → ((z : ℕ) → In z ms → IsMem h z) → (y : ℕ) → In y (flat f) → IsMem h y
forest_there h v bare ms F t y p = absurd p
forest_there h v (mem k i f) ms F t y (inl e) = subst (IsMem h) e (t k (subst (In k) (sym F.1) (inl refl)))
forest_there h v (mem k i f) ms F t y (inr p) = elim (in_either y (flat i) (flat f) p) [
  | inl a ↦ forest_there h v i (mems_in h k) F.2 (λ z j. listed_there h v z k j) y a
  | inr b ↦ forest_there h v f F.0 F.3 (λ z j. t z (subst (In z) (sym F.1) (inr j))) y b
]

module _ (h : Heap) (v : Valid h) (s : Registers) (images made taken : List ℕ) (m : ℕ) (mi : Forest) (p : Placing h s images made taken m mi) where
  not_home : (y : ℕ) → In y (flat mi) → m ≢ y
  not_home y i = each_in (λ z. m ≢ z) (flat mi) y p.apart.0 i

  -- no image is left in a forest whose first membranes are none
  none_inside : (t : Forest) (ms : List ℕ) → Forms h t ms → ((z : ℕ) → In z ms → In z (flat mi)) → ((z : ℕ) → In z ms → In z images → ⊥) → (y : ℕ) → In y (flat t) → In y (m ∷ images) → ⊥
  none_inside bare ms F w o y q = absurd q
  none_inside (mem k i f) ms F w o y q =
      let here : In k ms = subst (In k) (sym F.1) (inl refl) in
      let mine : In k (m ∷ images) → ⊥ = λ u. elim u [ inl e ↦ not_home k (w k here) e | inr j ↦ o k here j ] in
      elim q [
        | inl e ↦ subst (λ z. In z (m ∷ images) → ⊥) e mine
        | inr u ↦ elim (in_either y (flat i) (flat f) u) [
          | inl a ↦ none_inside i (mems_in h k) F.2 (λ z j. child_inside h mi (mems_in h m) p.formed k z (w k here) j) (λ z j q. mine (p.images_home z k q j)) y a
          | inr b ↦ none_inside f F.0 F.3 (λ z j. w z (subst (In z) (sym F.1) (inr j))) (λ z j. o z (subst (In z) (sym F.1) (inr j))) y b
        ]
      ]

  -- what is left of a membrane has no image in it
  pub left_free : (x : ℕ) → In x (m ∷ flat mi) → (t : Forest) (ms : List ℕ) → Forms h t ms → ((z : ℕ) → In z ms → In z (mems_in h x) × (In z images → ⊥)) → (y : ℕ) → In y (flat t) → IsMem h y × (In y (m ∷ images) → ⊥)
  left_free x i t ms F w y q = (
    forest_there h v t ms F (λ z j. listed_there h v z x (w z j).0) y q,
    none_inside t ms F (λ z j. inside z (w z j).0) (λ z j. (w z j).1) y q,
  )
    where
      inside : (z : ℕ) → In z (mems_in h x) → In z (flat mi)
      inside z j = elim i [
        | inl e ↦ list_inside h mi (mems_in h m) p.formed z (subst (λ u. In z (mems_in h u)) (sym e) j)
        | inr k ↦ child_inside h mi (mems_in h m) p.formed x z k j
      ]
