use Rattle.std.proofs.Common.{◌∙◌, map, refl, arith}
use Rattle.std.proofs.lemmas.List.{length-map}
use Rattle.lmn_store_heap.specs.Heap.{arity_of}
use Rattle.lmn_ground_parts.specs.Copies.{answer}
use Rattle.lmn_ground.proofs.CopyLaws.{member, copy_at, ports_copying, ports_numbers, ports_arity, ports_done}
use Rattle.lmn_ground.proofs.ListedLaws.{others_differ, some_listed}
use Rattle.lmn_ground.proofs.copying.join_copies.Goals as goal
use Rattle.lmn_ground_parts.specs.Walks.{port_range}

pub at-requires : goal.at-requires
at-requires g c = some_listed g.S.LinkStore.atom_id c.args.atoms.now _ c.requires.copying.first

pub at-requires-2 : goal.at-requires-2
at-requires-2 g c =
    let some = some_listed g.S.LinkStore.atom_id c.args.atoms.now _ c.requires.copying.first in
    let long = c.requires.copying.long in
    let more = length-map c.args.copies.now g.S.LinkStore.atom_id in
    let all = length-map c.args.atoms.now g.S.LinkStore.atom_id in
    omega (arith, some, long, more, all)

pub join_first_ports-requires-clause-among : goal.join_first_ports-requires-clause-among
join_first_ports-requires-clause-among g c = member g.S.LinkStore.atom_id c.args.atoms.now _ _ c.at.ensures

pub join_first_ports-requires-clause-copy : goal.join_first_ports-requires-clause-copy
join_first_ports-requires-clause-copy g c = copy_at g.S.LinkStore.atom_id c.args.atoms.now c.args.copies.now 0 _ _ c.requires.copying.once c.at.ensures c.at-2.ensures

pub loop-k-init : goal.loop-k-init
loop-k-init g c =
    let e = c.join_first_ports.ensures in
    record {
      copying = ports_copying (g.S.LinkStore.atom_id c.args.root.0, c.args.root.1) (map g.S.LinkStore.atom_id c.args.atoms.now) (map g.S.LinkStore.atom_id c.args.copies.now)
          (g.S.LinkStore.heap c.args.store.now) (g.S.LinkStore.heap c.join_first_ports.new.store) (g.S.LinkStore.atom_id c.at.result.now) c.requires.copying (member g.S.LinkStore.atom_id c.args.atoms.now _ _ c.at.ensures)
          (arity_of (g.S.LinkStore.heap c.args.store.now) (g.S.LinkStore.atom_id c.at.result.now)) e;
      numbers = ports_numbers (g.S.LinkStore.atom_id c.args.root.0, c.args.root.1) (answer (map g.S.LinkStore.atom_id c.args.atoms.now) (map g.S.LinkStore.atom_id c.args.copies.now))
          (g.S.LinkStore.heap c.args.store.now) (g.S.LinkStore.heap c.join_first_ports.new.store) (port_range (g.S.LinkStore.atom_id c.at.result.now) 0 (arity_of (g.S.LinkStore.heap c.args.store.now) (g.S.LinkStore.atom_id c.at.result.now))) _ e c.requires.numbers;
      arities = λ a. ports_arity (g.S.LinkStore.atom_id c.args.root.0, c.args.root.1) (answer (map g.S.LinkStore.atom_id c.args.atoms.now) (map g.S.LinkStore.atom_id c.args.copies.now))
          (g.S.LinkStore.heap c.args.store.now) (g.S.LinkStore.heap c.join_first_ports.new.store) (port_range (g.S.LinkStore.atom_id c.at.result.now) 0 (arity_of (g.S.LinkStore.heap c.args.store.now) (g.S.LinkStore.atom_id c.at.result.now))) a e;
      rest = ports_done (g.S.LinkStore.atom_id c.args.root.0, c.args.root.1) (answer (map g.S.LinkStore.atom_id c.args.atoms.now) (map g.S.LinkStore.atom_id c.args.copies.now))
          (g.S.LinkStore.heap c.args.store.now) (g.S.LinkStore.heap c.join_first_ports.new.store) g.S.LinkStore.atom_id (g.S.LinkStore.heap c.args.store.now) _ c.args.atoms.now 0 c.at.result.now c.at.ensures e refl refl;
    }

pub join_ports-requires-clause-among : goal.join_ports-requires-clause-among
join_ports-requires-clause-among g c = member g.S.LinkStore.atom_id c.args.atoms.now _ _ c.at-in-loop-k.ensures

pub join_ports-requires-clause-copy : goal.join_ports-requires-clause-copy
join_ports-requires-clause-copy g c = copy_at g.S.LinkStore.atom_id c.args.atoms.now c.args.copies.now c.loop-k.k _ _ c.loop-k.invariant.copying.once c.at-in-loop-k.ensures c.at-in-loop-k-2.ensures

pub join_ports-requires-clause-other : goal.join_ports-requires-clause-other
join_ports-requires-clause-other g c = others_differ g.S.LinkStore.atom_id c.args.atoms.now c.loop-k.k c.at-in-loop-k.result.now (g.S.LinkStore.atom_id c.args.root.0) c.loop-k.invariant.copying.once c.requires.first c.loop-k.auto.k c.at-in-loop-k.ensures

pub loop-k-preserved : goal.loop-k-preserved
loop-k-preserved g c =
    let t = c.loop-k.invariant in
    let e = c.join_ports.ensures in
    record {
      copying = ports_copying (g.S.LinkStore.atom_id c.args.root.0, c.args.root.1) (map g.S.LinkStore.atom_id c.args.atoms.now) (map g.S.LinkStore.atom_id c.args.copies.now)
          (g.S.LinkStore.heap c.loop-k.store) (g.S.LinkStore.heap c.join_ports.new.store) (g.S.LinkStore.atom_id c.at-in-loop-k.result.now) t.copying (member g.S.LinkStore.atom_id c.args.atoms.now _ _ c.at-in-loop-k.ensures)
          (arity_of (g.S.LinkStore.heap c.loop-k.store) (g.S.LinkStore.atom_id c.at-in-loop-k.result.now)) e;
      numbers = ports_numbers (g.S.LinkStore.atom_id c.args.root.0, c.args.root.1) (answer (map g.S.LinkStore.atom_id c.args.atoms.now) (map g.S.LinkStore.atom_id c.args.copies.now))
          (g.S.LinkStore.heap c.loop-k.store) (g.S.LinkStore.heap c.join_ports.new.store) (port_range (g.S.LinkStore.atom_id c.at-in-loop-k.result.now) 0 (arity_of (g.S.LinkStore.heap c.loop-k.store) (g.S.LinkStore.atom_id c.at-in-loop-k.result.now))) _ e t.numbers;
      arities = λ a. ports_arity (g.S.LinkStore.atom_id c.args.root.0, c.args.root.1) (answer (map g.S.LinkStore.atom_id c.args.atoms.now) (map g.S.LinkStore.atom_id c.args.copies.now))
          (g.S.LinkStore.heap c.loop-k.store) (g.S.LinkStore.heap c.join_ports.new.store) (port_range (g.S.LinkStore.atom_id c.at-in-loop-k.result.now) 0 (arity_of (g.S.LinkStore.heap c.loop-k.store) (g.S.LinkStore.atom_id c.at-in-loop-k.result.now))) a e ∙ t.arities a;
      rest = ports_done (g.S.LinkStore.atom_id c.args.root.0, c.args.root.1) (answer (map g.S.LinkStore.atom_id c.args.atoms.now) (map g.S.LinkStore.atom_id c.args.copies.now))
          (g.S.LinkStore.heap c.loop-k.store) (g.S.LinkStore.heap c.join_ports.new.store) g.S.LinkStore.atom_id (g.S.LinkStore.heap c.args.store.now) _ c.args.atoms.now c.loop-k.k c.at-in-loop-k.result.now c.at-in-loop-k.ensures e (t.arities (g.S.LinkStore.atom_id c.at-in-loop-k.result.now)) t.rest;
    }
