-- Copies of parts.
use Rattle.std.specs.Prelude.{ℕ, ◌≡◌, ◌⊎◌, ◌≤◌, List, [], ◌∷◌, Some, None, IsSome, length, ◌≢◌}
use Rattle.std.specs.Option.{option_map}
use Rattle.lmn_store_heap.specs.Heap.{Heap, Distinct, arity_of, link_of, marked}
use Rattle.lmn_store_heap.specs.Sound.{Paired}
use Rattle.lmn_ground_parts.specs.Copies.{made_like, moved, AreNew, AllAtoms, Beside, answer}
use Rattle.lmn_ground.specs.Marks.{painted, first_marks}
use Rattle.lmn_ground.specs.Spread.{Numbered}
use Rattle.lmn_ground_parts.specs.Walks.{IsPartInDepth}
use Rattle.lmn_base.specs.Lists.{In}

-- Some atoms were made as copies of these, and not joined.
pub record Remains (before after : Heap) : Type 0 where
  pub atoms : List ℕ
  pub copies : List ℕ
  pub there : AllAtoms before atoms
  pub is : after ≡ made_like before atoms copies
  pub beside : Beside before after copies

-- the first marks of these atoms are taken back, one after the other
abbrev pub unmarked_all : Heap → List ℕ → Heap
unmarked_all s [] = s
unmarked_all s (x ∷ xs) = unmarked_all (marked s x 0 0) xs

-- Some atoms have first marks, which they had not before.
pub record NumbersAtoms (before now : Heap) (xs : List ℕ) : Type 0 where
  pub marks : ℕ → ℕ
  pub is : now ≡ painted before marks
  pub outside : (x : ℕ) → (In x xs → ⊥) → marks x ≡ 0
  pub clean : (x : ℕ) → In x xs → first_marks before x ≡ 0
  pub there : AllAtoms before xs

-- the atoms of a part, in order, with their numbers in their marks
pub record Gathered (before now : Heap) (root : ℕ × ℕ) (xs : List ℕ) : Type 0 where
  pub part : IsPartInDepth before root xs
  pub numbers : Numbered (first_marks now) 2 xs

-- New atoms were made for the first of these.
pub record Made (before after : Heap) (xs ys : List ℕ) : Type 0 where
  pub fresh : AreNew before ys
  pub is : after ≡ made_like before xs ys
  pub short : length ys ≤ length xs

-- A port but the root has a partner, and the copy of the port the copy of this partner.
abbrev pub CopyIsJoined : Heap → ℕ × ℕ → (ℕ → ℕ) → ℕ → ℕ → Type 0
CopyIsJoined s root f a i = (◌≢◌ {A = ℕ × ℕ} (a, i) root) × IsSome (link_of s a i) × (link_of s (f a) i ≡ option_map (moved f) (link_of s a i))

-- The atoms ys are copies of the atoms xs, of which some ports are joined as these.
pub record Copying (s : Heap) (root : ℕ × ℕ) (xs ys : List ℕ) : Type 0 where
  pub there : AllAtoms s xs
  pub first : In root.0 xs
  pub paired : Paired s
  pub once : Distinct xs
  pub copies_once : Distinct ys
  pub long : length ys ≡ length xs
  pub apart : (x : ℕ) → In x xs → In x ys → ⊥
  pub arities : (a : ℕ) → In a xs → arity_of s (answer xs ys a) ≡ arity_of s a
  pub closed : (a i b j : ℕ) → In a xs → ◌≢◌ {A = ℕ × ℕ} (a, i) root → link_of s a i ≡ Some (b, j) → In b xs × (◌≢◌ {A = ℕ × ℕ} (b, j) root)
  pub joined : (a i : ℕ) → In a xs → (link_of s (answer xs ys a) i ≡ None) ⊎ CopyIsJoined s root (answer xs ys) a i
