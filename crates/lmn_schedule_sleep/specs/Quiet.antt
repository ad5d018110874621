-- What sleeps, and what a commit leaves asleep.
--
-- A membrane falls asleep where it was asked and no rule of
-- it has a match. It sleeps until something in it or below it is made, removed, moved or joined otherwise.
use Rattle.std.specs.Prelude.{ℕ, ◌≡◌}
use Rattle.std.specs.Option.{option_map}
use Rattle.lmn_store_heap.specs.Heap.{Heap, IsMem, mem_with_mark, functor_of, link_of, atoms_in, mems_in, rules_in, mem_mark_of}
use Rattle.lmn_store_heap.specs.Conditions.{Above}
use Rattle.lmn_store_trait.specs.Awake.{awake_mark}
use Rattle.lmn_base.specs.Lists.{In}

-- t is h but for the marks of its membranes
pub record SameButMarks (h t : Heap) : Type 0 where
  pub root : t.root ≡ h.root
  pub atoms : (a : ℕ) → t.atoms a ≡ h.atoms a
  pub mems : (m : ℕ) → (v : ℕ) × (t.mems m ≡ option_map (mem_with_mark v) (h.mems m))
  pub new_atoms : t.new_atoms ≡ h.new_atoms
  pub new_mems : t.new_mems ≡ h.new_mems

-- A membrane has in t the atoms, membranes and rules that it has in h, and each of these atoms is joined as it was. So nothing
-- in it was made, removed, moved or joined otherwise.
pub record IsUntouched (h t : Heap) (m : ℕ) : Type 0 where
  pub atoms : atoms_in t m ≡ atoms_in h m
  pub mems : mems_in t m ≡ mems_in h m
  pub rules : rules_in t m ≡ rules_in h m
  pub functors : (a : ℕ) → In a (atoms_in h m) → functor_of t a ≡ functor_of h a
  pub links : (a i : ℕ) → In a (atoms_in h m) → link_of t a i ≡ link_of h a i

-- A membrane that stood in h is quiet: nothing in it or below it was touched.
pub record IsQuiet (h t : Heap) (m : ℕ) : Type 0 where
  pub stood : IsMem h m
  pub untouched : (n k : ℕ) → Above h k m n → IsUntouched h t n

-- A commit from h to t, of a rule of the membrane x. In t each membrane is awake that isn't quiet, and besides x and those round
-- it. Every other one keeps its mark.
pub record Wakes (h t : Heap) (x : ℕ) : Type 0 where
  pub touched : (m : ℕ) → IsMem t m → (IsQuiet h t m → ⊥) → mem_mark_of t m ≡ awake_mark
  pub round : (m k : ℕ) → Above h k m x → mem_mark_of t m ≡ awake_mark
  pub others : (m : ℕ) → IsMem t m → IsQuiet h t m → ((k : ℕ) → Above h k m x → ⊥) → mem_mark_of t m ≡ mem_mark_of h m
