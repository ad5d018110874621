use Rattle.std.proofs.Common.{◌∙◌, map}
use Rattle.lmn_ground_parts.specs.Copies.{answer}
use Rattle.lmn_ground.proofs.CopyLaws.{port_copying, port_numbers, port_arity, port_done}
use Rattle.lmn_ground.proofs.copying.join_first_ports.Goals as goal

pub loop-i-preserved : goal.loop-i-preserved
loop-i-preserved g c =
    let t = c.loop-i.invariant in
    let e = c.join_port.ensures in
    record {
      copying = port_copying (g.S.LinkStore.atom_id c.args.root.0, c.args.root.1) (map g.S.LinkStore.atom_id c.args.atoms.now) (map g.S.LinkStore.atom_id c.args.copies.now)
          (g.S.LinkStore.heap c.loop-i.store) (g.S.LinkStore.heap c.join_port.new.store) (g.S.LinkStore.atom_id c.args.a) t.copying c.requires.among c.loop-i.i e;
      numbers = port_numbers (g.S.LinkStore.atom_id c.args.root.0, c.args.root.1) (answer (map g.S.LinkStore.atom_id c.args.atoms.now) (map g.S.LinkStore.atom_id c.args.copies.now))
          (g.S.LinkStore.heap c.loop-i.store) (g.S.LinkStore.heap c.join_port.new.store) (g.S.LinkStore.atom_id c.args.a, c.loop-i.i) _ e t.numbers;
      arity = port_arity (g.S.LinkStore.atom_id c.args.root.0, c.args.root.1) (answer (map g.S.LinkStore.atom_id c.args.atoms.now) (map g.S.LinkStore.atom_id c.args.copies.now))
          (g.S.LinkStore.heap c.loop-i.store) (g.S.LinkStore.heap c.join_port.new.store) (g.S.LinkStore.atom_id c.args.a, c.loop-i.i) _ e ∙ t.arity;
      rest = port_done (g.S.LinkStore.atom_id c.args.root.0, c.args.root.1) (answer (map g.S.LinkStore.atom_id c.args.atoms.now) (map g.S.LinkStore.atom_id c.args.copies.now))
          (g.S.LinkStore.heap c.loop-i.store) (g.S.LinkStore.heap c.join_port.new.store) _ (g.S.LinkStore.atom_id c.args.a) c.loop-i.i _ c.loop-i-test.true e t.rest;
    }
