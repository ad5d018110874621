use Rattle.std.proofs.Common.{◌≡◌, length, arith, subst}
use Rattle.lmn_instr_pool.specs.Extents.{IsOf, NoneBefore}
use Rattle.lmn_instr_pool.proofs.Extents.{index_there, none_behind}
use Rattle.lmn_instr_pool.proofs.extent.start_of.Goals as goal

pub loop-at-init : goal.loop-at-init
loop-at-init c = record { none = λ i x l e p. absurd (omega (arith, l)) }

pub returns-then-is_of-clause-none : goal.returns-then-is_of-clause-none
returns-then-is_of-clause-none c = c.loop-at.invariant.none

pub loop-at-preserved : goal.loop-at-preserved
loop-at-preserved c = record {
  none = none_behind (IsOf c.args.kind) c.args.instrs.now c.loop-at.at c.index-instrs-at.result c.loop-at.invariant.none
      (index_there c.args.instrs.now c.loop-at.at c.index-instrs-at.result c.loop-at-test.true c.index-instrs-at.is) (c.is_of.ensures c.if-is_of.false);
}

pub returns-clause-none : goal.returns-clause-none
returns-clause-none c =
    let past = c.loop-at-test.false in
    let few = c.loop-at.auto.at-end in
    let all : c.loop-at.at ≡ length c.args.instrs.now = omega (arith, past, few) in
    subst (λ m. NoneBefore (IsOf c.args.kind) m c.args.instrs.now) all c.loop-at.invariant.none
