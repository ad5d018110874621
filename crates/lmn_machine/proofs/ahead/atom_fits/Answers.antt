use Rattle.std.proofs.Common.{◌≡◌, Some, ap, arith, subst, ◌∙◌}
use Rattle.std.specs.Prelude.{IfSome, slice_get}
use Rattle.lmn_base.proofs.Truth.{not_false}
use Rattle.lmn_instr_code.specs.declared.instr.Instr.TheVariants.{Deref}
use Rattle.lmn_machine.proofs.Fitting.{hold_behind}
use Rattle.lmn_machine.proofs.Calling.{read_at}
use Rattle.lmn_machine.proofs.ahead.atom_fits.Goals as goal

pub returns-else-from-len : goal.returns-else-from-len
returns-else-from-len g c = λ r b s t e w.
    (let there = subst (λ o. IfSome o (λ i. slice_get c.args.code.now c.args.at ≡ Some i.now)) c.in-Some.is c.requires.ahead in
    let here = read_at c.args.code.now c.args.at c.in-Some.instr.now (Deref c.in-Deref.atom c.in-Deref.from c.in-Deref.port) there c.in-Deref.is in
    let d = hold_behind (g.S.LinkStore.heap c.args.store.now) b s c.args.code.now c.args.at c.args.at (Deref c.in-Deref.atom c.in-Deref.from c.in-Deref.port) (omega arith) here w in
    c.may_lead.ensures r b c.args.at s (omega arith) t (ap (λ n. s.images.atom n) (c.if-from-len.false ∙ c.len.ensures) ∙ e) d w)

pub returns-in_default-instr : goal.returns-in_default-instr
returns-in_default-instr g c = λ r b s t e w.
    (let there = subst (λ o. IfSome o (λ i. slice_get c.args.code.now c.args.at ≡ Some i.now)) c.in-Some.is c.requires.ahead in
    c.refutes.ensures (not_false c.refutes.result r) b s t (ap (λ n. s.images.atom n) c.len-in_default-instr.ensures ∙ e)
    (hold_behind (g.S.LinkStore.heap c.args.store.now) b s c.args.code.now c.args.at c.args.at c.in-Some.instr.now (omega arith) there w))
