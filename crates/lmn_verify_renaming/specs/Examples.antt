-- Two heaps of one atom in the root, which are one with 0 and 1 exchanged.
use Rattle.std.specs.Prelude.{ℕ, zero, suc, ◌≡◌, refl, [], ◌∷◌, Option, Some, None}
use Rattle.lmn_base.specs.declared.functor.Label.TheVariants.{Name}
use Rattle.lmn_store_heap.specs.Heap.{Heap, top, within}
use Rattle.lmn_verify_renaming.specs.Renamed.{Numbering, Renaming, SameButRoom, renamed}

-- 0 and 1 exchanged, and each other number as it is
abbrev pub exchanged : ℕ → ℕ
exchanged zero = 1
exchanged (suc zero) = 0
exchanged (suc (suc n)) = suc (suc n)

pub exchanged_twice : (n : ℕ) → exchanged (exchanged n) ≡ n
exchanged_twice zero = refl
exchanged_twice (suc zero) = refl
exchanged_twice (suc (suc n)) = refl

abbrev pub exchange : Numbering
exchange = record { to = exchanged; back = exchanged; there = exchanged_twice; again = exchanged_twice }

abbrev pub exchanging : Renaming
exchanging = record { atoms = exchange; mems = exchange }

-- one item at 0, and one at 1
abbrev pub at_zero : {X : Type 0} → X → ℕ → Option X
at_zero x zero = Some x
at_zero x (suc n) = None

abbrev pub at_one : {X : Type 0} → X → ℕ → Option X
at_one x zero = None
at_one x (suc n) = at_zero x n

-- the root 0, and in it the atom 0 of the functor a/0
abbrev pub first : Heap
first = record {
  root = 0;
  atoms = at_zero (record { functor = record { label = Name 8; arity = 0 }; links = []; marks = 0 ∷ []; place = within 0 });
  mems = at_zero (record { atoms = 0 ∷ []; mems = []; rules = []; spare = 0; mark = 0; place = top });
  new_atoms = [];
  new_mems = [];
}

-- the root 1, which has room for three rules, and in it the atom 1 of the same functor
abbrev pub second : Heap
second = record {
  root = 1;
  atoms = at_one (record { functor = record { label = Name 8; arity = 0 }; links = []; marks = 0 ∷ []; place = within 1 });
  mems = at_one (record { atoms = 1 ∷ []; mems = []; rules = []; spare = 3; mark = 0; place = top });
  new_atoms = [];
  new_mems = [];
}

--   exchanges    the second is the first with the other numbers, but for room
--   as_they_are  and it isn't the first with the numbers as they are
--   all_zero     what takes each number to 0 is no numbering
pub record RenamingsCompare : Type 0 where
  pub exchanges : SameButRoom (renamed exchanging first) second
  pub as_they_are : SameButRoom first second → ⊥
  pub all_zero : (n : Numbering) → ((x : ℕ) → n.to x ≡ 0) → ⊥
