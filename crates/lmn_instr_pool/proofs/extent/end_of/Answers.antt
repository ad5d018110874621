use Rattle.std.proofs.Common.{◌≡◌, ◌-◌, ◌+◌, length, arith, subst}
use Rattle.lmn_instr_pool.specs.Extents.{IsOf, NoneFrom}
use Rattle.lmn_instr_pool.proofs.Extents.{index_there, none_at_end, none_in_front}
use Rattle.lmn_instr_pool.proofs.extent.end_of.Goals as goal

pub loop-behind-init : goal.loop-behind-init
loop-behind-init c = record { none = none_at_end (IsOf c.args.kind) c.args.instrs.now (length c.args.instrs.now - 0) (omega arith) }

pub returns-then-is_of-clause-none : goal.returns-then-is_of-clause-none
returns-then-is_of-clause-none c = c.loop-behind.invariant.none

pub loop-behind-preserved : goal.loop-behind-preserved
loop-behind-preserved c =
    let xs = c.args.instrs.now in
    let before = c.loop-behind-test.true in
    let n = length xs - c.loop-behind.behind - 1 in
    let next : n ≡ length xs - (c.loop-behind.behind + 1) = omega arith in
    let end : n + 1 ≡ length xs - c.loop-behind.behind = omega (arith, before) in
    record {
      none = subst (λ m. NoneFrom (IsOf c.args.kind) m xs) next
          (none_in_front (IsOf c.args.kind) xs n (length xs - c.loop-behind.behind) c.index-instrs-end.result end c.loop-behind.invariant.none
          (index_there xs n c.index-instrs-end.result (omega (arith, before)) c.index-instrs-end.is) (c.is_of.ensures c.if-is_of.false));
    }

pub returns-clause-none : goal.returns-clause-none
returns-clause-none c =
    let past = c.loop-behind-test.false in
    let none : length c.args.instrs.now - c.loop-behind.behind ≡ 0 = omega (arith, past) in
    subst (λ m. NoneFrom (IsOf c.args.kind) m c.args.instrs.now) none c.loop-behind.invariant.none
