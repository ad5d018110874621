use Rattle.std.proofs.Common.{ap, arith}
use Rattle.lmn_base.proofs.Truth.{not_false}
use Rattle.lmn_machine.proofs.Fitting.{led}
use Rattle.lmn_machine.proofs.ahead.may_lead.Goals as goal

pub returns-then-is_refuted : goal.returns-then-is_refuted
returns-then-is_refuted g c = λ r b k s l t e d w.
    (let q = led g.S.LinkStore.atom_id (g.S.LinkStore.heap c.args.store.now) s c.args.from (s.images.atom c.args.register, c.args.port) _ c.args.a c.in-Some.ensures.link e d in
    c.is_refuted.ensures c.if-is_refuted.true b k s (omega (arith, l)) t (ap (λ p. p.0) q) w)

pub returns-else-is_refuted : goal.returns-else-is_refuted
returns-else-is_refuted g c = λ r b k s l t e d w.
    (let q = led g.S.LinkStore.atom_id (g.S.LinkStore.heap c.args.store.now) s c.args.from (s.images.atom c.args.register, c.args.port) _ c.args.a c.in-Some.ensures.link e d in
    c.is_refuted-in-Some.ensures (not_false c.is_refuted-in-Some.result r) b k s l t (ap (λ p. p.0) q) w)
