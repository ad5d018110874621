use Rattle.std.proofs.Common.{arith}
use Rattle.lmn_print_plain.proofs.MarkLemmas.{cleared_none, cleared_more}
use Rattle.lmn_print_plain.proofs.numbers.clear_ports.Goals as goal

pub loop-port-init : goal.loop-port-init
loop-port-init g c = record { cleared = cleared_none (g.S.LinkStore.heap c.args.store.now) (g.S.LinkStore.atom_id c.args.atom) }

pub loop-port-preserved : goal.loop-port-preserved
loop-port-preserved g c =
    let s = g.S.LinkStore.heap c.args.store.now in
    let a = g.S.LinkStore.atom_id c.args.atom in
    let arity = c.root-root.ensures.sound.shaped.ports a c.functor-port-end.result c.functor-port-end.ensures in
    let low = c.loop-port-test.true in
    record { cleared = cleared_more s (g.S.LinkStore.heap c.loop-port.store) (g.S.LinkStore.heap c.set_mark.new.self) a c.loop-port.port (omega (arith, arity, low)) c.loop-port.invariant.cleared c.set_mark.ensures }
