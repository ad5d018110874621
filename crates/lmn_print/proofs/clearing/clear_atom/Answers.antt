use Rattle.std.proofs.Common.{◌+◌, arith}
use Rattle.lmn_print.proofs.ClearedMarks.{arity_same, atom_same, cleared_none, cleared_more, cleared_all}
use Rattle.lmn_print.proofs.clearing.clear_atom.Goals as goal

pub loop-slot-init : goal.loop-slot-init
loop-slot-init g c = record { cleared = cleared_none (g.S.LinkStore.heap c.args.store.now) (g.S.LinkStore.atom_id c.args.atom) }

pub set_mark-requires-clause-atom : goal.set_mark-requires-clause-atom
set_mark-requires-clause-atom g c =
    atom_same (g.S.LinkStore.heap c.args.store.now) (g.S.LinkStore.heap c.loop-slot.store) c.loop-slot.invariant.cleared.marks (g.S.LinkStore.atom_id c.args.atom) c.requires

pub set_mark-requires-clause-slot : goal.set_mark-requires-clause-slot
set_mark-requires-clause-slot g c =
    let s = g.S.LinkStore.heap c.args.store.now in
    let a = g.S.LinkStore.atom_id c.args.atom in
    let same = arity_same s (g.S.LinkStore.heap c.loop-slot.store) c.loop-slot.invariant.cleared.marks a in
    let ports = c.root-root.ensures.sound.shaped.ports a c.functor-slot-end.result c.functor-slot-end.ensures in
    let low = c.loop-slot-test.true in
    omega (arith, same, ports, low)

pub loop-slot-preserved : goal.loop-slot-preserved
loop-slot-preserved g c = record {
  cleared = cleared_more (g.S.LinkStore.heap c.args.store.now) (g.S.LinkStore.heap c.loop-slot.store) (g.S.LinkStore.heap c.set_mark.new.self) (g.S.LinkStore.atom_id c.args.atom) c.loop-slot.slot
      c.loop-slot.invariant.cleared c.set_mark.ensures;
}

-- the loop doesn't end before the last mark
pub returns-clause-marks : goal.returns-clause-marks
returns-clause-marks g c = c.loop-slot.invariant.cleared.marks

pub returns-clause-here : goal.returns-clause-here
returns-clause-here g c = let l = c.loop-slot.auto.slot-end in let h = c.loop-slot-test.false in absurd (omega (arith, l, h))

pub returns-clause-others : goal.returns-clause-others
returns-clause-others g c = c.loop-slot.invariant.cleared.others

pub returns-2 : goal.returns-2
returns-2 g c =
    let s = g.S.LinkStore.heap c.args.store.now in
    let t = g.S.LinkStore.heap c.set_mark.new.self in
    let a = g.S.LinkStore.atom_id c.args.atom in
    let cleared = cleared_more s (g.S.LinkStore.heap c.loop-slot.store) t a c.loop-slot.slot c.loop-slot.invariant.cleared c.set_mark.ensures in
    let ports = c.root-root.ensures.sound.shaped.ports a c.functor-slot-end.result c.functor-slot-end.ensures in
    record {
      marks = cleared.marks;
      here = cleared_all s t c.root-root.ensures.sound a (c.loop-slot.slot + 1) c.requires (omega arith) cleared;
      others = cleared.others;
    }
