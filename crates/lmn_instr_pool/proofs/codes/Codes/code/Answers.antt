use Rattle.std.proofs.Common.{◌≡◌, length, ap, sym, subst, arith, Some, ◌∙◌}
use Rattle.std.specs.Prelude.{slice_get}
use Rattle.lmn_instr_pool.specs.Pools.{picked}
use Rattle.lmn_instr_pool.proofs.Picking.{stored_length, stored_at}
use Rattle.lmn_instr_pool.proofs.codes.Codes.code.Goals as goal

pub at-code-requires : goal.at-code-requires
at-code-requires c =
    let e = stored_length c.self.inside.pool c.self.inside.codes ∙ ap length c.self.view_is in
    let r = c.requires in
    omega (arith, e, r)

pub new-requires-clause-there : goal.new-requires-clause-there
new-requires-clause-there c =
    let at = stored_at c.self.inside.pool c.self.inside.codes c.args.rule c.at-code.result.now c.self.invariant c.at-code.ensures in
    rw (c.instrs.ensures, c.as_slice.ensures) at.1

pub new-requires-clause-end : goal.new-requires-clause-end
new-requires-clause-end c =
    let at = stored_at c.self.inside.pool c.self.inside.codes c.args.rule c.at-code.result.now c.self.invariant c.at-code.ensures in
    rw (c.instrs.ensures, c.as_slice.ensures) at.2

pub new-requires-2 : goal.new-requires-2
new-requires-2 c =
    let at = stored_at c.self.inside.pool c.self.inside.codes c.args.rule c.at-code.result.now c.self.invariant c.at-code.ensures in
    rw (c.as_slice-2.ensures) at.3

pub returns : goal.returns
returns c =
    let at = stored_at c.self.inside.pool c.self.inside.codes c.args.rule c.at-code.result.now c.self.invariant c.at-code.ensures in
    let head = c.new.ensures ∙ λ i. picked (c.instrs.ensures i) (c.as_slice.ensures i) in
    let body = c.new-2.ensures ∙ c.as_slice-2.ensures in
    subst (λ xs. slice_get xs c.args.rule ≡ Some c.new-3.result) c.self.view_is
    (at.0 ∙ sym (ap (λ x. Some x) (c.new-3.ensures ∙ λ i. record { head = head i; body = body i })))
