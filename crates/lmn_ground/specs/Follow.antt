-- Two parts that are walked in step: the first walk gives numbers to the atoms of y's part; the second goes through x's part and
-- compares.
use Rattle.std.specs.Prelude.{ℕ, ◌≡◌, ◌⊎◌, ◌<◌, true, List, Some, None, length}
use Rattle.lmn_store_heap.specs.Heap.{Heap, arity_of, link_of, functor_of}
use Rattle.lmn_store_heap.specs.Sound.{Sound}
use Rattle.lmn_ground_parts.specs.Copies.{answer}
use Rattle.lmn_ground.specs.Marks.{first_marks, ports_ahead}
use Rattle.lmn_ground.specs.Spread.{IsWhole, Numbered, Spreading}
use Rattle.lmn_ground_parts.specs.Walks.{neighbour, IsPartInDepth, HasPort, net, Walk}
use Rattle.lmn_base.specs.Lists.{In}

-- a port and its answer lead to a port and its answer
abbrev pub SameEnd : Heap → List ℕ → List ℕ → ℕ → ℕ → Type 0
SameEnd s seen ys a i = (b j : ℕ) → link_of s a i ≡ Some (b, j) → In b seen × (link_of s (answer seen ys a) i ≡ Some (answer seen ys b, j))

-- two ground parts with as many atoms and no common one, and equal root ports
pub record Two (s : Heap) (x y : ℕ × ℕ) (xs ys : List ℕ) : Type 0 where
  pub sound : Sound s
  pub full : IsWhole s x None
  pub part : IsPartInDepth s x xs
  pub part' : IsPartInDepth s y ys
  pub apart : (a : ℕ) → In a xs → In a ys → ⊥
  pub ports : x.1 ≡ y.1
  pub long : length xs ≡ length ys

-- A walk through x's part stands at port i of the atom a, which c answers; what it went through agrees.
pub record Following (before now : Heap) (x y : ℕ × ℕ) (xs ys seen : List ℕ) (depth a c i count : ℕ) : Type 0 where
  pub walk : Spreading before now x None seen depth a i count
  pub numbers : Numbered (first_marks now) 2 ys
  pub rest : Walk (net before).arity (neighbour (net before) x (λ _. true)) seen (ports_ahead (net before) (first_marks now) depth a i) xs
  pub answers : c ≡ answer seen ys a
  pub root : answer seen ys x.0 ≡ y.0
  pub agreed : (p k : ℕ) → In p seen → k < arity_of before p
      → HasPort (p, k) (ports_ahead (net before) (first_marks now) depth a i) ⊎ ((◌≡◌ {A = ℕ × ℕ} (p, k) x) ⊎ SameEnd before seen ys p k)
  pub functors : (p : ℕ) → In p seen → functor_of before (answer seen ys p) ≡ functor_of before p
