-- Going up to the membrane behind an empty one.
use Rattle.std.proofs.Common.{ℕ, ◌≡◌, ◌<◌, ◌≤◌, ◌+◌, ◌-◌, ◌^◌, length, [], Some, None, arith}
use Rattle.lmn_store_heap.specs.Heap.{Heap, IsMem, mems_in, parent_of, from, after}
use Rattle.lmn_store_heap.specs.Sound.{Forest, Sound, Valid, AtMost, IsTree, flat}
use Rattle.lmn_store_heap.proofs.Trees.{Left, begins, climbs, found, ends, lower, left_mem}
use Rattle.lmn_store_trait.proofs.Numbers.{few_membranes}

-- what is left after so many steps, in each tree of the heap
abbrev pub Walk : Heap → ℕ → ℕ → ℕ → Type 0
Walk h m step at = (f : Forest) → IsTree h f → Left f m at × (step + (length (flat f) - length (after at (flat f))) ≤ length (flat f))

module _ (h : Heap) (sound : Sound h) (m : ℕ) where
  pub walk_begins : IsMem h m → mems_in h m ≡ [] → Walk h m 0 m
  walk_begins is e = λ f t. (begins h sound f t m (t.all m is) e, omega arith)

  -- the parent of a membrane that is the last in its list
  pub walk_climbs : (step at p : ℕ) → parent_of h at ≡ Some p → from None (mems_in h p) ≡ after at (mems_in h p) → Walk h m step at → Walk h m (step + 1) p
  walk_climbs step at p e last w = λ f t.
      let here = w f t in
      let less = lower h sound f t m at here.0 p e in
      let most = here.1 in
      (climbs h sound f t m at here.0 p e last, omega (arith, less, most))

  pub walk_finds : (step at p n : ℕ) → parent_of h at ≡ Some p → from (Some n) (mems_in h p) ≡ after at (mems_in h p) → Walk h m step at → (f : Forest) → IsTree h f → from (Some n) (flat f) ≡ after m (flat f)
  walk_finds step at p n e next w f t = found h sound f t m at (w f t).0 p n e next

  pub walk_ends : (step at : ℕ) → parent_of h at ≡ None → Walk h m step at → (f : Forest) → IsTree h f → from None (flat f) ≡ after m (flat f)
  walk_ends step at e w f t = ends h sound f t m at (w f t).0 e

  pub walk_stands : (step at : ℕ) → Valid h → Walk h m step at → IsMem h at
  walk_stands step at v w = left_mem h sound v.tree.0 v.tree.1 m at (w v.tree.0 v.tree.1).0

  -- no walk is as long as that
  pub walk_stops : (step at : ℕ) → Valid h → AtMost (2 ^ 48) h → 2 ^ 48 < step → Walk h m step at → {A : Type 0} → A
  walk_stops step at v few long w =
      let l = few_membranes h sound few v.tree.0 v.tree.1 in
      let most = (w v.tree.0 v.tree.1).1 in
      absurd (omega (arith, l, most, long))
