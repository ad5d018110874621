-- A turn in which no code succeeds, without codes and with one; and which of two successes, and of two codes, is the first.
use Rattle.std.specs.Prelude.{ℕ, zero, suc, [], ◌∷◌, Option, Some, None}
use Rattle.lmn_base.specs.declared.functor.Functor.{Functor}
use Rattle.lmn_store_heap.specs.Examples.{functor_a}
use Rattle.lmn_store_heap.specs.Heap.{Heap}
use Rattle.lmn_instr_code.specs.Running.{HeadRegisters}
use Rattle.lmn_schedule_strategy.specs.declared.turning.Turn.TheVariants.{Irreducible}
use Rattle.lmn_verify_solids.specs.Examples.{idle, in_root, ruled, ruled_solid, taking, zeros}
use Rattle.lmn_verify_solids.specs.Graphs.{Graph}
use Rattle.lmn_verify_solids.specs.Heads.{IsChosen, IsFirstSuccess}
use Rattle.lmn_verify_turns.specs.Laws.{IsAnswerOn}

-- Over the root with the rule 0
--   without      it is the answer where there are no codes,
--   with_idle    and not where the code of that rule changes nothing, which succeeds everywhere
pub record AnswerExamples : Type 0 where
  pub without : (size : ℕ) (h : Heap) → IsAnswerOn [] size ruled_solid Irreducible h
  pub with_idle : (size : ℕ) (h : Heap) → IsAnswerOn (idle ∷ []) size ruled_solid Irreducible h → ⊥

-- the atoms 0 and 1 have one functor
abbrev pub of_two : ℕ → Option Functor
of_two zero = Some functor_a
of_two (suc zero) = Some functor_a
of_two (suc (suc n)) = None

-- the root with these, and with the rules 0 and 1
abbrev pub two_atoms : Graph
two_atoms = record ruled {
  map = record { functor = of_two; partner = λ p. None; home = λ a. None };
  atoms = in_root (0 ∷ (1 ∷ []));
  rules = in_root (0 ∷ (1 ∷ []));
}

-- registers that hold this atom, and the root
abbrev pub holding : ℕ → HeadRegisters
holding a = record zeros.head { images = record { atom = λ k. a; membrane = λ k. 0; part = λ x. (0, 0) } }

-- Code that takes an atom finds the first of them, and not the second. Where code that changes nothing stands before it, this is chosen, and
-- the other isn't.
pub record FirstExamples : Type 0 where
  pub first : IsFirstSuccess two_atoms taking.head 0 (holding 0)
  pub second : IsFirstSuccess two_atoms taking.head 0 (holding 1) → ⊥
  pub before : IsChosen two_atoms (idle ∷ (taking ∷ [])) (0 ∷ []) idle 0 zeros.head
  pub behind : (r : HeadRegisters) → IsChosen two_atoms (idle ∷ (taking ∷ [])) (0 ∷ []) taking 0 r → ⊥
