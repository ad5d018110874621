-- Graphs of small solids, and small codes on them.
use Rattle.std.specs.Prelude.{ℕ, zero, suc, pos, List, [], ◌∷◌, None}
use Rattle.lmn_base.specs.declared.solid.Region.TheViews.{roll-Region}
use Rattle.lmn_base.specs.declared.solid.Solid.{Solid}
use Rattle.lmn_store_heap.specs.Examples.{across, across_solid, functor_a, functor_b, loose}
use Rattle.lmn_instr_code.specs.declared.instr.Code.{Code}
use Rattle.lmn_instr_code.specs.declared.instr.Instr.TheVariants.{Commit, FindAtom, NewMem, Proceed, RemoveAtom}
use Rattle.lmn_instr_code.specs.Running.{HeadRegisters}
use Rattle.lmn_solid_bodies.specs.declared.items.BodyItem.{BodyItem}
use Rattle.lmn_solid_bodies.specs.declared.items.BodyItem.TheVariants.{Atom}
use Rattle.lmn_solid_bodies.specs.Running.{Registers}
use Rattle.lmn_verify_solids.specs.Firing.{Fires, LeavesRests}
use Rattle.lmn_verify_solids.specs.Flats.{HasEachTie, IsFlatCode}
use Rattle.lmn_verify_solids.specs.Graphs.{Graph, IsGraphOf}
use Rattle.lmn_verify_solids.specs.Heads.{Succeeds}
use Rattle.lmn_verify_solids.specs.Heaps.{graph_of}
use Rattle.lmn_verify_solids.specs.Turns.{CodeNext, NoneSucceeds, SomeSucceeds}

-- a list in the membrane 0 alone
abbrev pub in_root : List ℕ → ℕ → List ℕ
in_root xs zero = xs
in_root xs (suc m) = []

-- the root alone, with the rule 0
abbrev pub ruled : Graph
ruled = record {
  root = 0;
  map = record { functor = λ a. None; partner = λ p. None; home = λ a. None };
  atoms = λ m. [];
  membranes = λ m. [];
  rules = in_root (0 ∷ []);
  round = λ m. None;
}

abbrev pub ruled_solid : Solid
ruled_solid = record { root = roll-Region (record { atoms = []; membranes = []; rules = 0 ∷ [] }) }

-- the root with the atom 0
abbrev pub one_atom : Graph
one_atom = record ruled { atoms = in_root (0 ∷ []) }

-- registers that hold 0
abbrev pub zeros : Registers
zeros = record {
  head = record { images = record { atom = λ k. 0; membrane = λ k. 0; part = λ g. (0, 0) }; integer = λ v. pos 0 };
  copy = λ c. (0, 0);
  copied = λ c. [];
  left_atoms = λ m. [];
  left_membranes = λ m. [];
}

-- code that succeeds everywhere and changes nothing, and code that takes an atom away
abbrev pub idle : Code
idle = record { head = Commit ∷ []; body = Proceed ∷ [] }

abbrev pub taking : Code
taking = record { head = FindAtom 0 0 functor_a ∷ (Commit ∷ []); body = RemoveAtom 0 ∷ (Proceed ∷ []) }

-- What holds of them.
--   across, loose    the graph of `{a(X)}, b(X)` is one of its solid; where the ports aren't joined it is a graph of no solid
--   everywhere       the first code succeeds in the root
--   nowhere          and the second doesn't where no atom stands
--   rests            the first takes nothing,
--   others           and not the atom 0
--   keeps            committed, it leaves the graph as it was,
--   takes            and the second doesn't, with the atom that it takes
pub record GraphExamples : Type 0 where
  pub across : IsGraphOf (graph_of across) across_solid
  pub loose : (S : Solid) → IsGraphOf (graph_of loose) S → ⊥
  pub everywhere : Succeeds ruled idle.head 0 zeros.head
  pub nowhere : (r : HeadRegisters) → Succeeds ruled taking.head 0 r → ⊥
  pub rests : LeavesRests ruled idle.head zeros []
  pub others : LeavesRests ruled idle.head zeros (0 ∷ []) → ⊥
  pub keeps : Fires idle ruled zeros [] ruled
  pub takes : Fires taking one_atom zeros (0 ∷ []) one_atom → ⊥

-- What codes choose and leave.
--   commits, none    where an item is allowed the first code commits and leaves the solid as it was; without codes nothing does
--   succeeds         it succeeds somewhere,
--   without          and without codes none does
pub record TurnExamples : Type 0 where
  pub commits : CodeNext (idle ∷ []) 1 ruled_solid ruled_solid
  pub none : (size : ℕ) (S S' : Solid) → CodeNext [] size S S' → ⊥
  pub succeeds : SomeSucceeds (idle ∷ []) ruled_solid
  pub without : NoneSucceeds [] ruled_solid × ((S : Solid) → SomeSucceeds [] S → ⊥)

-- The code that changes nothing is that of the flat rule without items, and code that makes something isn't.
abbrev pub IdleCodeIsFlat : Type 0
IdleCodeIsFlat = IsFlatCode [] [] idle × (IsFlatCode [] [] (record idle { body = NewMem 1 0 ∷ [] }) → ⊥)

-- `a(X), b(X)`, as a flat body
abbrev pub two_joined : List BodyItem
two_joined = Atom functor_a (0 ∷ []) 0 ∷ (Atom functor_b (0 ∷ []) 0 ∷ [])

-- That code ties each end of the rule without items, and not those of the link that this body makes.
abbrev pub IdleCodeTies : Type 0
IdleCodeTies = HasEachTie [] [] idle × (HasEachTie [] two_joined idle → ⊥)
