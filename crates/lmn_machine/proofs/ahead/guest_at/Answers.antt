use Rattle.std.proofs.Common.{ap, arith, subst, ◌+◌}
use Rattle.lmn_base.specs.Lists.{In}
use Rattle.lmn_store_heap.specs.Heap.{atoms_in}
use Rattle.lmn_instr_code.specs.declared.instr.Instr.TheVariants.{Deref, InMem}
use Rattle.lmn_machine.proofs.Fitting.{hold_behind, led}
use Rattle.lmn_machine.proofs.Calling.{read_at}
use Rattle.lmn_machine.proofs.ahead.guest_at.Goals as goal

pub returns-in-Some-clause-guest : goal.returns-in-Some-clause-guest
returns-in-Some-clause-guest g c = λ k l b s t w.
    (let here = read_at c.args.code.now c.args.at c.at.result.now (Deref c.in-Deref.atom c.in-Deref.from c.in-Deref.port) c.at.ensures c.in-Deref.is in
    let d = hold_behind (g.S.LinkStore.heap c.args.store.now) b s c.args.code.now k c.args.at (Deref c.in-Deref.atom c.in-Deref.from c.in-Deref.port) l here w in
    let m = hold_behind (g.S.LinkStore.heap c.args.store.now) b s c.args.code.now k (c.args.at + 2) (InMem c.in-Deref.atom c.args.register) (omega (arith, l)) (c.asks_home.ensures c.if-not-asks_home.false) w in
    let q = led g.S.LinkStore.atom_id (g.S.LinkStore.heap c.args.store.now) s c.in-Deref.from (s.images.atom c.in-Deref.atom, c.in-Deref.port) _ c.at-in-Deref.result c.in-Some.ensures.link (t.atoms c.in-Deref.from.atom c.at-in-Deref.result c.at-in-Deref.ensures) d in
    subst (λ n. In n (atoms_in (g.S.LinkStore.heap c.args.store.now) (s.images.membrane c.args.register))) (ap (λ p. p.0) q) m)
