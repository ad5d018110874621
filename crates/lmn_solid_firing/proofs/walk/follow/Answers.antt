use Rattle.std.proofs.Common.{sym, ap, ◌∙◌}
use Rattle.std.specs.Prelude.{Some}
use Rattle.std.proofs.lemmas.Result.{on_ok_weaker}
use Rattle.lmn_solid_tables.specs.Flats.{heap_of, port_by}
use Rattle.lmn_solid_firing.specs.Pieces.{stacked}
use Rattle.lmn_solid_firing.proofs.Walking.{not_found, other_there, tells_more, walk_known, walk_new, walk_root}
use Rattle.lmn_solid_firing.proofs.walk.follow.Goals as goal

pub returns-then-eq-clause-walk : goal.returns-then-eq-clause-walk
returns-then-eq-clause-walk c = λ all w. walk_root (heap_of c.args.flat.now) (port_by c.args.root) (port_by c.args.port) c.args.atoms.now (stacked c.args.waiting.now.items) all (sym c.if-eq.ensures) w

pub mark_of-requires : goal.mark_of-requires
mark_of-requires c = c.requires.tells.places _ (other_there (heap_of c.args.flat.now) c.args.port.atom c.args.port.index (port_by c.other-atom.result) c.requires.valid c.other-atom.ensures)

pub set_mark-requires : goal.set_mark-requires
set_mark-requires c = c.requires.tells.places _ (other_there (heap_of c.args.flat.now) c.args.port.atom c.args.port.index (port_by c.other-atom.result) c.requires.valid c.other-atom.ensures)

pub push_ports-requires : goal.push_ports-requires
push_ports-requires c = other_there (heap_of c.args.flat.now) c.args.port.atom c.args.port.index (port_by c.other-atom.result) c.requires.valid c.other-atom.ensures

pub returns-then-mark_of-round-clause-walk : goal.returns-then-mark_of-round-clause-walk
returns-then-mark_of-round-clause-walk c = λ all w.
    walk_known (heap_of c.args.flat.now) (port_by c.args.root) (port_by c.args.port) (port_by c.other-atom.result) c.args.atoms.now (stacked c.args.waiting.now.items) all (sym c.if-eq.ensures) c.other-atom.ensures
    (c.requires.tells.listed c.other-atom.result.atom (c.mark_of.ensures ∙ ap Some c.if-mark_of-round.true)) w

pub returns-clause-tells : goal.returns-clause-tells
returns-clause-tells c =
    let there = other_there (heap_of c.args.flat.now) c.args.port.atom c.args.port.index (port_by c.other-atom.result) c.requires.valid c.other-atom.ensures in
    on_ok_weaker c.push_ports.result (λ d. tells_more (heap_of c.args.flat.now) c.args.round c.args.marks.now c.set_mark.new.marks c.args.atoms.now c.push.new.self c.other-atom.result.atom c.requires.tells (c.requires.tells.places _ there)
    c.set_mark.ensures c.in_ok-push.ensures.ok) c.push_ports.ensures.ports

pub returns-clause-walk : goal.returns-clause-walk
returns-clause-walk c = λ all. on_ok_weaker c.push_ports.result (λ d w.
    walk_new (heap_of c.args.flat.now) (port_by c.args.root) (port_by c.args.port) (port_by c.other-atom.result) c.args.atoms.now c.push.new.self (stacked c.args.waiting.now.items) (stacked c.push_ports.new.waiting.items) all
    (sym c.if-eq.ensures) c.other-atom.ensures
    (not_found (heap_of c.args.flat.now) c.args.round c.args.marks.now c.args.atoms.now c.other-atom.result.atom c.mark_of.result c.requires.tells c.mark_of.ensures c.if-mark_of-round.false)
    c.in_ok-push.ensures.ok d w) c.push_ports.ensures.ports
