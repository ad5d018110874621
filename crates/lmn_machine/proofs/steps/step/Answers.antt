use Rattle.std.proofs.Common.{refl, subst, sym, length, [], ◌∷◌}
use Rattle.std.specs.Prelude.{true}
use Rattle.lmn_machine.specs.Searching.{ChoosesNone, HeadInOrder, Stepped, TestsSetRegisters}
use Rattle.lmn_machine.specs.Outcomes.{CanStep, ChoosesAtoms, ChoosesMembranes, HasOutcome}
use Rattle.lmn_machine.proofs.Telling.{told}
use Rattle.lmn_instr_code.specs.Running.{InstructionHolds}
use Rattle.lmn_machine.proofs.Stepping.{check_stepped, constant_is, deref_is, difference_is, get_is, ground_is, integer_is, left_over, product_is, quotient_is, remainder_is, sum_is, unary_is}
use Rattle.lmn_machine.proofs.steps.step.Goals as goal

pub returns-in-Deref-clause-stepped : goal.returns-in-Deref-clause-stepped
returns-in-Deref-clause-stepped g c =
    told g.S.LinkStore.atom_id g.S.LinkStore.mem_id (g.S.LinkStore.heap c.args.store.now) c.args.set.now c.follow.new.set c.follow.result c.outcome_of.result c.args.instr.now (subst ChoosesNone (sym c.in-Deref.is) tt) c.outcome_of.ensures
    (subst (λ j. Stepped g.S.LinkStore.atom_id g.S.LinkStore.mem_id (g.S.LinkStore.heap c.args.store.now) c.args.set.now c.follow.new.set c.follow.result j) (sym (deref_is c.args.instr.now _ _ _ (length c.args.set.now.atoms) (length c.args.set.now.membranes) (length c.args.set.now.parts) (length c.args.set.now.integers) c.in-Deref.is c.requires.order)) c.follow.ensures)

pub follow-requires-clause-order : goal.follow-requires-clause-order
follow-requires-clause-order g c = subst (λ j. HeadInOrder (length c.args.set.now.atoms) (length c.args.set.now.membranes) (length c.args.set.now.parts) (length c.args.set.now.integers) (j ∷ [])) (deref_is c.args.instr.now _ _ _ (length c.args.set.now.atoms) (length c.args.set.now.membranes) (length c.args.set.now.parts) (length c.args.set.now.integers) c.in-Deref.is c.requires.order) c.requires.order

pub run_comparison-requires-clause-compares : goal.run_comparison-requires-clause-compares
run_comparison-requires-clause-compares g c =
    left_over c.args.instr.now _ _ _ _ c.requires.order c.in_default.not-FindAtom c.in_default.not-AnyMem c.in_default.not-Deref c.in_default.not-IsInt c.in_default.not-IsUnary c.in_default.not-IsGround c.in_default.not-EqGround c.in_default.not-NeqGround c.in_default.not-NAtoms c.in_default.not-IsClosed c.in_default.not-GetInt c.in_default.not-Const c.in_default.not-Add c.in_default.not-Sub c.in_default.not-Mul c.in_default.not-Div c.in_default.not-Mod c.in_default.not-Func c.in_default.not-InMem c.in_default.not-NeqAtom c.in_default.not-Joined c.in_default.not-NeqMem c.in_default.not-NMems c.in_default.not-NoRules c.in_default.not-NotIn

pub returns-in-FindAtom-clause-stepped : goal.returns-in-FindAtom-clause-stepped
returns-in-FindAtom-clause-stepped g c = (refl, subst ChoosesAtoms (sym c.in-FindAtom.is) tt)

pub returns-in-AnyMem-clause-stepped : goal.returns-in-AnyMem-clause-stepped
returns-in-AnyMem-clause-stepped g c = (refl, subst ChoosesMembranes (sym c.in-AnyMem.is) tt)

pub find_integer-requires : goal.find_integer-requires
find_integer-requires g c = subst (λ j. CanStep g.S.LinkStore.atom_id g.S.LinkStore.mem_id (g.S.LinkStore.heap c.args.store.now) c.args.set.now j) (integer_is c.args.instr.now _ _ _ (length c.args.set.now.atoms) (length c.args.set.now.membranes) (length c.args.set.now.parts) (length c.args.set.now.integers) c.in-IsInt.is c.requires.order) c.requires

pub returns-in-IsInt-clause-stepped : goal.returns-in-IsInt-clause-stepped
returns-in-IsInt-clause-stepped g c = subst (λ j. HasOutcome g.S.LinkStore.atom_id g.S.LinkStore.mem_id (g.S.LinkStore.heap c.args.store.now) c.args.set.now c.find_integer.new.set c.find_integer.result j) (sym (integer_is c.args.instr.now _ _ _ (length c.args.set.now.atoms) (length c.args.set.now.membranes) (length c.args.set.now.parts) (length c.args.set.now.integers) c.in-IsInt.is c.requires.order)) c.find_integer.ensures

pub find_unary-requires : goal.find_unary-requires
find_unary-requires g c = subst (λ j. CanStep g.S.LinkStore.atom_id g.S.LinkStore.mem_id (g.S.LinkStore.heap c.args.store.now) c.args.set.now j) (unary_is c.args.instr.now _ _ _ (length c.args.set.now.atoms) (length c.args.set.now.membranes) (length c.args.set.now.parts) (length c.args.set.now.integers) c.in-IsUnary.is c.requires.order) c.requires

pub returns-in-IsUnary-clause-stepped : goal.returns-in-IsUnary-clause-stepped
returns-in-IsUnary-clause-stepped g c = subst (λ j. HasOutcome g.S.LinkStore.atom_id g.S.LinkStore.mem_id (g.S.LinkStore.heap c.args.store.now) c.args.set.now c.find_unary.new.set c.find_unary.result j) (sym (unary_is c.args.instr.now _ _ _ (length c.args.set.now.atoms) (length c.args.set.now.membranes) (length c.args.set.now.parts) (length c.args.set.now.integers) c.in-IsUnary.is c.requires.order)) c.find_unary.ensures

pub find_ground-requires : goal.find_ground-requires
find_ground-requires g c = subst (λ j. CanStep g.S.LinkStore.atom_id g.S.LinkStore.mem_id (g.S.LinkStore.heap c.args.store.now) c.args.set.now j) (ground_is c.args.instr.now _ _ _ (length c.args.set.now.atoms) (length c.args.set.now.membranes) (length c.args.set.now.parts) (length c.args.set.now.integers) c.in-IsGround.is c.requires.order) c.requires

pub returns-in-IsGround-clause-stepped : goal.returns-in-IsGround-clause-stepped
returns-in-IsGround-clause-stepped g c = subst (λ j. HasOutcome g.S.LinkStore.atom_id g.S.LinkStore.mem_id (g.S.LinkStore.heap c.args.store.now) c.args.set.now c.find_ground.new.set c.find_ground.result j) (sym (ground_is c.args.instr.now _ _ _ (length c.args.set.now.atoms) (length c.args.set.now.membranes) (length c.args.set.now.parts) (length c.args.set.now.integers) c.in-IsGround.is c.requires.order)) c.find_ground.ensures.stepped

pub ask_equal-requires : goal.ask_equal-requires
ask_equal-requires g c = subst (λ j. CanStep g.S.LinkStore.atom_id g.S.LinkStore.mem_id (g.S.LinkStore.heap c.args.store.now) c.args.set.now j) c.in-EqGround.is c.requires

pub returns-in-EqGround-clause-stepped : goal.returns-in-EqGround-clause-stepped
returns-in-EqGround-clause-stepped g c = subst (λ j. HasOutcome g.S.LinkStore.atom_id g.S.LinkStore.mem_id (g.S.LinkStore.heap c.args.store.now) c.args.set.now c.args.set.now c.ask_equal.result j) (sym c.in-EqGround.is) c.ask_equal.ensures.stepped

pub ask_different-requires : goal.ask_different-requires
ask_different-requires g c = subst (λ j. CanStep g.S.LinkStore.atom_id g.S.LinkStore.mem_id (g.S.LinkStore.heap c.args.store.now) c.args.set.now j) c.in-NeqGround.is c.requires

pub returns-in-NeqGround-clause-stepped : goal.returns-in-NeqGround-clause-stepped
returns-in-NeqGround-clause-stepped g c = subst (λ j. HasOutcome g.S.LinkStore.atom_id g.S.LinkStore.mem_id (g.S.LinkStore.heap c.args.store.now) c.args.set.now c.args.set.now c.ask_different.result j) (sym c.in-NeqGround.is) c.ask_different.ensures.stepped

pub ask_others-requires : goal.ask_others-requires
ask_others-requires g c = subst (λ j. CanStep g.S.LinkStore.atom_id g.S.LinkStore.mem_id (g.S.LinkStore.heap c.args.store.now) c.args.set.now j) c.in-NAtoms.is c.requires

pub returns-in-NAtoms-clause-stepped : goal.returns-in-NAtoms-clause-stepped
returns-in-NAtoms-clause-stepped g c = subst (λ j. HasOutcome g.S.LinkStore.atom_id g.S.LinkStore.mem_id (g.S.LinkStore.heap c.args.store.now) c.args.set.now c.args.set.now c.ask_others.result j) (sym c.in-NAtoms.is) c.ask_others.ensures.stepped

pub ask_closed-requires : goal.ask_closed-requires
ask_closed-requires g c = subst (λ j. CanStep g.S.LinkStore.atom_id g.S.LinkStore.mem_id (g.S.LinkStore.heap c.args.store.now) c.args.set.now j) c.in-IsClosed.is c.requires

pub returns-in-IsClosed-clause-stepped : goal.returns-in-IsClosed-clause-stepped
returns-in-IsClosed-clause-stepped g c = subst (λ j. HasOutcome g.S.LinkStore.atom_id g.S.LinkStore.mem_id (g.S.LinkStore.heap c.args.store.now) c.args.set.now c.args.set.now c.ask_closed.result j) (sym c.in-IsClosed.is) c.ask_closed.ensures.stepped

pub get_integer-requires : goal.get_integer-requires
get_integer-requires g c = subst (λ j. CanStep g.S.LinkStore.atom_id g.S.LinkStore.mem_id (g.S.LinkStore.heap c.args.store.now) c.args.set.now j) (get_is c.args.instr.now _ _ (length c.args.set.now.atoms) (length c.args.set.now.membranes) (length c.args.set.now.parts) (length c.args.set.now.integers) c.in-GetInt.is c.requires.order) c.requires

pub returns-in-GetInt-clause-stepped : goal.returns-in-GetInt-clause-stepped
returns-in-GetInt-clause-stepped g c = subst (λ j. HasOutcome g.S.LinkStore.atom_id g.S.LinkStore.mem_id (g.S.LinkStore.heap c.args.store.now) c.args.set.now c.get_integer.new.set c.get_integer.result j) (sym (get_is c.args.instr.now _ _ (length c.args.set.now.atoms) (length c.args.set.now.membranes) (length c.args.set.now.parts) (length c.args.set.now.integers) c.in-GetInt.is c.requires.order)) c.get_integer.ensures

pub set_constant-requires : goal.set_constant-requires
set_constant-requires g c = subst (λ j. HeadInOrder (length c.args.set.now.atoms) (length c.args.set.now.membranes) (length c.args.set.now.parts) (length c.args.set.now.integers) (j ∷ [])) (constant_is c.args.instr.now _ _ (length c.args.set.now.atoms) (length c.args.set.now.membranes) (length c.args.set.now.parts) (length c.args.set.now.integers) c.in-Const.is c.requires.order) c.requires.order

pub returns-in-Const-clause-stepped : goal.returns-in-Const-clause-stepped
returns-in-Const-clause-stepped g c = subst (λ j. HasOutcome g.S.LinkStore.atom_id g.S.LinkStore.mem_id (g.S.LinkStore.heap c.args.store.now) c.args.set.now c.set_constant.new.set c.set_constant.result j) (sym (constant_is c.args.instr.now _ _ (length c.args.set.now.atoms) (length c.args.set.now.membranes) (length c.args.set.now.parts) (length c.args.set.now.integers) c.in-Const.is c.requires.order)) (c.set_constant.ensures g.S.LinkStore.atom_id g.S.LinkStore.mem_id (g.S.LinkStore.heap c.args.store.now) c.requires.held)

pub add-requires : goal.add-requires
add-requires g c = subst (λ j. HeadInOrder (length c.args.set.now.atoms) (length c.args.set.now.membranes) (length c.args.set.now.parts) (length c.args.set.now.integers) (j ∷ [])) (sum_is c.args.instr.now _ _ _ (length c.args.set.now.atoms) (length c.args.set.now.membranes) (length c.args.set.now.parts) (length c.args.set.now.integers) c.in-Add.is c.requires.order) c.requires.order

pub returns-in-Add-clause-stepped : goal.returns-in-Add-clause-stepped
returns-in-Add-clause-stepped g c = subst (λ j. HasOutcome g.S.LinkStore.atom_id g.S.LinkStore.mem_id (g.S.LinkStore.heap c.args.store.now) c.args.set.now c.add.new.set c.add.result j) (sym (sum_is c.args.instr.now _ _ _ (length c.args.set.now.atoms) (length c.args.set.now.membranes) (length c.args.set.now.parts) (length c.args.set.now.integers) c.in-Add.is c.requires.order)) (c.add.ensures g.S.LinkStore.atom_id g.S.LinkStore.mem_id (g.S.LinkStore.heap c.args.store.now) c.requires.held)

pub subtract-requires : goal.subtract-requires
subtract-requires g c = subst (λ j. HeadInOrder (length c.args.set.now.atoms) (length c.args.set.now.membranes) (length c.args.set.now.parts) (length c.args.set.now.integers) (j ∷ [])) (difference_is c.args.instr.now _ _ _ (length c.args.set.now.atoms) (length c.args.set.now.membranes) (length c.args.set.now.parts) (length c.args.set.now.integers) c.in-Sub.is c.requires.order) c.requires.order

pub returns-in-Sub-clause-stepped : goal.returns-in-Sub-clause-stepped
returns-in-Sub-clause-stepped g c = subst (λ j. HasOutcome g.S.LinkStore.atom_id g.S.LinkStore.mem_id (g.S.LinkStore.heap c.args.store.now) c.args.set.now c.subtract.new.set c.subtract.result j) (sym (difference_is c.args.instr.now _ _ _ (length c.args.set.now.atoms) (length c.args.set.now.membranes) (length c.args.set.now.parts) (length c.args.set.now.integers) c.in-Sub.is c.requires.order)) (c.subtract.ensures g.S.LinkStore.atom_id g.S.LinkStore.mem_id (g.S.LinkStore.heap c.args.store.now) c.requires.held)

pub multiply-requires : goal.multiply-requires
multiply-requires g c = subst (λ j. HeadInOrder (length c.args.set.now.atoms) (length c.args.set.now.membranes) (length c.args.set.now.parts) (length c.args.set.now.integers) (j ∷ [])) (product_is c.args.instr.now _ _ _ (length c.args.set.now.atoms) (length c.args.set.now.membranes) (length c.args.set.now.parts) (length c.args.set.now.integers) c.in-Mul.is c.requires.order) c.requires.order

pub returns-in-Mul-clause-stepped : goal.returns-in-Mul-clause-stepped
returns-in-Mul-clause-stepped g c = subst (λ j. HasOutcome g.S.LinkStore.atom_id g.S.LinkStore.mem_id (g.S.LinkStore.heap c.args.store.now) c.args.set.now c.multiply.new.set c.multiply.result j) (sym (product_is c.args.instr.now _ _ _ (length c.args.set.now.atoms) (length c.args.set.now.membranes) (length c.args.set.now.parts) (length c.args.set.now.integers) c.in-Mul.is c.requires.order)) (c.multiply.ensures g.S.LinkStore.atom_id g.S.LinkStore.mem_id (g.S.LinkStore.heap c.args.store.now) c.requires.held)

pub divide-requires : goal.divide-requires
divide-requires g c = subst (λ j. HeadInOrder (length c.args.set.now.atoms) (length c.args.set.now.membranes) (length c.args.set.now.parts) (length c.args.set.now.integers) (j ∷ [])) (quotient_is c.args.instr.now _ _ _ (length c.args.set.now.atoms) (length c.args.set.now.membranes) (length c.args.set.now.parts) (length c.args.set.now.integers) c.in-Div.is c.requires.order) c.requires.order

pub returns-in-Div-clause-stepped : goal.returns-in-Div-clause-stepped
returns-in-Div-clause-stepped g c = subst (λ j. HasOutcome g.S.LinkStore.atom_id g.S.LinkStore.mem_id (g.S.LinkStore.heap c.args.store.now) c.args.set.now c.divide.new.set c.divide.result j) (sym (quotient_is c.args.instr.now _ _ _ (length c.args.set.now.atoms) (length c.args.set.now.membranes) (length c.args.set.now.parts) (length c.args.set.now.integers) c.in-Div.is c.requires.order)) (c.divide.ensures g.S.LinkStore.atom_id g.S.LinkStore.mem_id (g.S.LinkStore.heap c.args.store.now) c.requires.held)

pub take_remainder-requires : goal.take_remainder-requires
take_remainder-requires g c = subst (λ j. HeadInOrder (length c.args.set.now.atoms) (length c.args.set.now.membranes) (length c.args.set.now.parts) (length c.args.set.now.integers) (j ∷ [])) (remainder_is c.args.instr.now _ _ _ (length c.args.set.now.atoms) (length c.args.set.now.membranes) (length c.args.set.now.parts) (length c.args.set.now.integers) c.in-Mod.is c.requires.order) c.requires.order

pub returns-in-Mod-clause-stepped : goal.returns-in-Mod-clause-stepped
returns-in-Mod-clause-stepped g c = subst (λ j. HasOutcome g.S.LinkStore.atom_id g.S.LinkStore.mem_id (g.S.LinkStore.heap c.args.store.now) c.args.set.now c.take_remainder.new.set c.take_remainder.result j) (sym (remainder_is c.args.instr.now _ _ _ (length c.args.set.now.atoms) (length c.args.set.now.membranes) (length c.args.set.now.parts) (length c.args.set.now.integers) c.in-Mod.is c.requires.order)) (c.take_remainder.ensures g.S.LinkStore.atom_id g.S.LinkStore.mem_id (g.S.LinkStore.heap c.args.store.now) c.requires.held)

pub ask_functor-requires : goal.ask_functor-requires
ask_functor-requires g c = subst (λ j. CanStep g.S.LinkStore.atom_id g.S.LinkStore.mem_id (g.S.LinkStore.heap c.args.store.now) c.args.set.now j) c.in-Func.is c.requires

pub returns-in-Func-clause-stepped : goal.returns-in-Func-clause-stepped
returns-in-Func-clause-stepped g c = subst (λ j. HasOutcome g.S.LinkStore.atom_id g.S.LinkStore.mem_id (g.S.LinkStore.heap c.args.store.now) c.args.set.now c.args.set.now c.ask_functor.result j) (sym c.in-Func.is) c.ask_functor.ensures

pub ask_home-requires : goal.ask_home-requires
ask_home-requires g c = subst (λ j. CanStep g.S.LinkStore.atom_id g.S.LinkStore.mem_id (g.S.LinkStore.heap c.args.store.now) c.args.set.now j) c.in-InMem.is c.requires

pub returns-in-InMem-clause-stepped : goal.returns-in-InMem-clause-stepped
returns-in-InMem-clause-stepped g c = subst (λ j. HasOutcome g.S.LinkStore.atom_id g.S.LinkStore.mem_id (g.S.LinkStore.heap c.args.store.now) c.args.set.now c.args.set.now c.ask_home.result j) (sym c.in-InMem.is) c.ask_home.ensures

pub ask_other_atom-requires : goal.ask_other_atom-requires
ask_other_atom-requires g c = subst (λ j. CanStep g.S.LinkStore.atom_id g.S.LinkStore.mem_id (g.S.LinkStore.heap c.args.store.now) c.args.set.now j) c.in-NeqAtom.is c.requires

pub returns-in-NeqAtom-clause-stepped : goal.returns-in-NeqAtom-clause-stepped
returns-in-NeqAtom-clause-stepped g c = subst (λ j. HasOutcome g.S.LinkStore.atom_id g.S.LinkStore.mem_id (g.S.LinkStore.heap c.args.store.now) c.args.set.now c.args.set.now c.ask_other_atom.result j) (sym c.in-NeqAtom.is) c.ask_other_atom.ensures

pub ask_joined-requires : goal.ask_joined-requires
ask_joined-requires g c = subst (λ j. CanStep g.S.LinkStore.atom_id g.S.LinkStore.mem_id (g.S.LinkStore.heap c.args.store.now) c.args.set.now j) c.in-Joined.is c.requires

pub returns-in-Joined-clause-stepped : goal.returns-in-Joined-clause-stepped
returns-in-Joined-clause-stepped g c = subst (λ j. HasOutcome g.S.LinkStore.atom_id g.S.LinkStore.mem_id (g.S.LinkStore.heap c.args.store.now) c.args.set.now c.args.set.now c.ask_joined.result j) (sym c.in-Joined.is) c.ask_joined.ensures

pub ask_other_membrane-requires : goal.ask_other_membrane-requires
ask_other_membrane-requires g c = subst (λ j. CanStep g.S.LinkStore.atom_id g.S.LinkStore.mem_id (g.S.LinkStore.heap c.args.store.now) c.args.set.now j) c.in-NeqMem.is c.requires

pub returns-in-NeqMem-clause-stepped : goal.returns-in-NeqMem-clause-stepped
returns-in-NeqMem-clause-stepped g c = subst (λ j. HasOutcome g.S.LinkStore.atom_id g.S.LinkStore.mem_id (g.S.LinkStore.heap c.args.store.now) c.args.set.now c.args.set.now c.ask_other_membrane.result j) (sym c.in-NeqMem.is) c.ask_other_membrane.ensures

pub ask_membranes-requires : goal.ask_membranes-requires
ask_membranes-requires g c = subst (λ j. CanStep g.S.LinkStore.atom_id g.S.LinkStore.mem_id (g.S.LinkStore.heap c.args.store.now) c.args.set.now j) c.in-NMems.is c.requires

pub returns-in-NMems-clause-stepped : goal.returns-in-NMems-clause-stepped
returns-in-NMems-clause-stepped g c = subst (λ j. HasOutcome g.S.LinkStore.atom_id g.S.LinkStore.mem_id (g.S.LinkStore.heap c.args.store.now) c.args.set.now c.args.set.now c.ask_membranes.result j) (sym c.in-NMems.is) c.ask_membranes.ensures

pub ask_no_rule-requires : goal.ask_no_rule-requires
ask_no_rule-requires g c = subst (λ j. CanStep g.S.LinkStore.atom_id g.S.LinkStore.mem_id (g.S.LinkStore.heap c.args.store.now) c.args.set.now j) c.in-NoRules.is c.requires

pub returns-in-NoRules-clause-stepped : goal.returns-in-NoRules-clause-stepped
returns-in-NoRules-clause-stepped g c = subst (λ j. HasOutcome g.S.LinkStore.atom_id g.S.LinkStore.mem_id (g.S.LinkStore.heap c.args.store.now) c.args.set.now c.args.set.now c.ask_no_rule.result j) (sym c.in-NoRules.is) c.ask_no_rule.ensures

pub ask_outside-requires : goal.ask_outside-requires
ask_outside-requires g c = subst (λ j. CanStep g.S.LinkStore.atom_id g.S.LinkStore.mem_id (g.S.LinkStore.heap c.args.store.now) c.args.set.now j) c.in-NotIn.is c.requires

pub returns-in-NotIn-clause-stepped : goal.returns-in-NotIn-clause-stepped
returns-in-NotIn-clause-stepped g c = subst (λ j. HasOutcome g.S.LinkStore.atom_id g.S.LinkStore.mem_id (g.S.LinkStore.heap c.args.store.now) c.args.set.now c.args.set.now c.ask_outside.result j) (sym c.in-NotIn.is) c.ask_outside.ensures

pub returns-in-Commit-clause-stepped : goal.returns-in-Commit-clause-stepped
returns-in-Commit-clause-stepped g c =
    let h = g.S.LinkStore.heap c.args.store.now in
    let set = c.args.set.now in (
      subst ChoosesNone (sym c.in-Commit.is) tt,
      check_stepped g.S.LinkStore.atom_id g.S.LinkStore.mem_id h set true c.args.instr.now c.requires.held (subst (λ i. TestsSetRegisters (length set.atoms) (length set.membranes) (length set.integers) i) (sym c.in-Commit.is) tt)
          (λ n s a. (λ t. subst (λ i. InstructionHolds h n s i) (sym c.in-Commit.is) tt, λ t. refl)),
    )
