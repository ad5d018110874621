-- Matches of a head of one atom, with other numbers and without; and a rule that replaces one atom.
use Rattle.std.specs.Prelude.{ℕ, ℤ, ◌≢◌, List, [], ◌∷◌}
use Rattle.lmn_base.specs.declared.functor.Label.TheVariants.{Name}
use Rattle.lmn_solid_heads.specs.declared.items.HeadItem.{HeadItem}
use Rattle.lmn_solid_heads.specs.declared.items.HeadItem.TheVariants.{Atom}
use Rattle.lmn_store_heap.specs.Heap.{Heap, top, within}
use Rattle.lmn_solid_bodies.specs.declared.items.BodyItem.{BodyItem}
use Rattle.lmn_solid_bodies.specs.declared.items.BodyItem.TheVariants as body
use Rattle.lmn_solid_bodies.specs.Running.{Registers}
use Rattle.lmn_solid_bodies.specs.Within.{FiresFlat}
use Rattle.lmn_verify_renaming.specs.Renamed.{Renaming}
use Rattle.lmn_verify_renaming.specs.Examples.{at_one, at_zero, first}
use Rattle.lmn_verify_renaming.specs.FiringLaws.{SameMatch}

-- the head `a(X)`
abbrev pub one_atom : List HeadItem
one_atom = Atom (record { label = Name 4; arity = 1 }) (0 ∷ []) 0 ∷ []

-- registers that hold the atom a in the membrane m
abbrev pub holding : (ℕ → ℤ) → ℕ → ℕ → Registers
holding integer a m = record {
  head = record {
    images = record { atom = λ k. a; membrane = λ k. m; part = λ g. (a, 0) };
    integer = integer;
  };
  copy = λ c. (a, 0);
  copied = λ c. [];
  left_atoms = λ k. [];
  left_membranes = λ k. [];
}

--   renamed     registers that hold the atom and the membrane with the other numbers
--   elsewhere   registers that hold another atom
pub record MatchesCompare : Type 0 where
  pub renamed : (q : Renaming) (integer : ℕ → ℤ) (a m : ℕ) → SameMatch q one_atom [] (holding integer a m) (holding integer (q.atoms.to a) (q.mems.to m))
  pub elsewhere : (q : Renaming) (integer : ℕ → ℤ) (a b m : ℕ) → b ≢ q.atoms.to a → SameMatch q one_atom [] (holding integer a m) (holding integer b (q.mems.to m)) → ⊥

-- `a :- b.`
abbrev pub replaced : List HeadItem
replaced = Atom (record { label = Name 8; arity = 0 }) [] 0 ∷ []

abbrev pub replacing : List BodyItem
replacing = body.Atom (record { label = Name 9; arity = 0 }) [] 0 ∷ []

-- registers that hold each atom by its own number, and the root
abbrev pub by_number : (ℕ → ℤ) → Registers
by_number integer = record (holding integer 0 0) {
  head = record {
    images = record { atom = λ k. k; membrane = λ k. 0; part = λ g. (0, 0) };
    integer = integer;
  };
}

-- the root 0, and in it the atom 1 of the functor b/0, where `first` has the atom 0 of a/0
abbrev pub fired : Heap
fired = record {
  root = 0;
  atoms = at_one (record { functor = record { label = Name 9; arity = 0 }; links = []; marks = 0 ∷ []; place = within 0 });
  mems = at_zero (record { atoms = 1 ∷ []; mems = []; rules = []; spare = 0; mark = 0; place = top });
  new_atoms = [];
  new_mems = [];
}

--   fires      the rule fires on the heap of a, and leaves that of b
--   unchanged  and it doesn't leave the heap as it was
pub record FlatRuleFires : Type 0 where
  pub fires : (integer : ℕ → ℤ) → FiresFlat replaced replacing (by_number integer) first fired
  pub unchanged : (integer : ℕ → ℤ) → FiresFlat replaced replacing (by_number integer) first first → ⊥
