-- Code that only tells two atoms apart, and candidates that differ.
use Rattle.std.proofs.Common.{ℕ, ◌≡◌, ◌≢◌, ◌+◌, inl, inr, List, [], ◌∷◌, ◌++◌, Option, Some, None, refl, arith, sym, subst, length, drop, ◌∙◌}
use Rattle.std.specs.Prelude.{true, IfSome, MatchOption}
use Rattle.std.proofs.lemmas.Option.{slice_get_within}
use Rattle.lmn_base.proofs.Lists.{drop_get, get_front, get_last}
use Rattle.lmn_store_heap.specs.Heap.{Heap}
use Rattle.lmn_instr_code.specs.declared.instr.Instr.{Instr}
use Rattle.lmn_instr_code.specs.declared.instr.Instr.TheVariants.{NeqAtom}
use Rattle.lmn_instr_code.specs.Running.{HeadRegisters, HeadSize, AllHold}
use Rattle.lmn_machine_registers.specs.declared.registers.SetRegisters.{SetRegisters}
use Rattle.lmn_machine_registers.specs.Agreeing.{Agrees}
use Rattle.lmn_machine.specs.Searching.{AreHeldWhole, HeadInOrder}
use Rattle.lmn_machine.specs.Asking.{HoldsUpTo, TellsApart}
use Rattle.lmn_machine.proofs.Stepping.{Passed, check_stepped, passed_one}
use Rattle.lmn_machine.proofs.Trying.{passed_none}
use Rattle.lmn_machine.proofs.Fitting.{hold_behind}

module _ {A M : Type 0} (atom : A → ℕ) (membrane : M → ℕ) (h : Heap) where
  -- where code succeeds that tells the next register apart, this holds another atom
  pub told_differ : (g : SetRegisters A M) (code : List Instr) (at : ℕ) (a b : A) (c : HeadSize) (s : HeadRegisters) → TellsApart g code at b → Agrees atom membrane g s → AllHold h c s (drop at code) →
      s.images.atom (length g.atoms) ≡ atom a → atom a ≢ atom b
  told_differ g code at a b c s t agrees all e d =
      hold_behind h c s code at at (NeqAtom (length g.atoms) t.0) (omega arith) t.1 all (e ∙ (d ∙ sym (agrees.atoms t.0 b t.2)))

  -- such code needn't be run with a candidate that differs
  holds_up_to : (g : SetRegisters A M) (code : List Instr) (at start : ℕ) (a : A) (other : Option A) → MatchOption other (start ≡ at) (λ b. start ≡ at + 1) → IfSome other (λ b. TellsApart g code at b) → IfSome other (λ b. atom a ≢ atom b) →
      HoldsUpTo atom (g.atoms ++ a ∷ []) code at start
  holds_up_to g code at start a None m t d = inl m
  holds_up_to g code at start a (Some b) m (y, t, u) d = inr (m, (length g.atoms, y, (a, b, t, get_last g.atoms a, get_front g.atoms (a ∷ []) y b u, d)))

  -- likewise with the candidate that was found, if one was
  pub each_holds_up_to : (g : SetRegisters A M) (code : List Instr) (at start : ℕ) (other candidate : Option A) → MatchOption other (start ≡ at) (λ b. start ≡ at + 1) → IfSome other (λ b. TellsApart g code at b) →
      IfSome candidate (λ a. IfSome other (λ b. atom a ≢ atom b)) → IfSome candidate (λ a. HoldsUpTo atom (g.atoms ++ a ∷ []) code at start)
  each_holds_up_to g code at start other None m t d = tt
  each_holds_up_to g code at start other (Some a) m t d = holds_up_to g code at start a other m t d

  -- what needn't be run is passed
  pub passed_up_to : (g : SetRegisters A M) (code : List Instr) (at start : ℕ) → HoldsUpTo atom g.atoms code at start → AreHeldWhole atom membrane h g →
      HeadInOrder (length g.atoms) (length g.membranes) (length g.parts) (length g.integers) (drop at code) → Passed atom membrane h g g (drop at code) (drop start code)
  passed_up_to g code at start (inl e) held order = subst (λ n. Passed atom membrane h g g (drop at code) (drop n code)) (sym e) (passed_none atom membrane h g (drop at code) held order)
  passed_up_to g code at start (inr (e, (x, y, (a, b, t, u, v, d)))) held order =
      let rest = drop (at + 1) code in
      let none = subst (λ left. Passed atom membrane h g g (drop at code) left) (drop_get at code (NeqAtom x y) t) (passed_none atom membrane h g (drop at code) held order) in
      let step = check_stepped atom membrane h g true (NeqAtom x y) held (slice_get_within g.atoms x a u, slice_get_within g.atoms y b v)
      (λ c s agrees. (λ w q. d (sym (agrees.atoms x a u) ∙ (q ∙ agrees.atoms y b v)), λ w. refl)) in
      subst (λ n. Passed atom membrane h g g (drop at code) (drop n code)) (sym e) (passed_one atom membrane h g g g (drop at code) rest (NeqAtom x y) tt none step)
