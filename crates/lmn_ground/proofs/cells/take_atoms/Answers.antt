use Rattle.std.proofs.Common.{◌≡◌, ◌∙◌, Some, refl, ap, subst}
use Rattle.std.specs.Option.{option_map}
use Rattle.lmn_store_heap.specs.Heap.{atoms_in, from, home_of}
use Rattle.lmn_base.proofs.Lists.{holds_of_item}
use Rattle.lmn_ground.proofs.DropLaws.{left_taken, next_first, next_home, next_once}
use Rattle.lmn_ground.proofs.cells.take_atoms.Goals as goal

pub loop-next-preserved : goal.loop-next-preserved
loop-next-preserved g c =
    let h = g.S.LinkStore.heap c.loop-next.store in
    let t = g.S.LinkStore.heap c.take_atom.new.self in
    let m = g.S.LinkStore.mem_id c.args.m in
    let a = g.S.LinkStore.atom_id c.in-Some.a in
    let i = c.loop-next.invariant in
    let home : home_of h a ≡ Some m = holds_of_item (λ b. home_of h (g.S.LinkStore.atom_id b) ≡ Some m) c.loop-next.next c.in-Some.a c.in-Some.is i.home in
    let first : from (Some a) (atoms_in h m) ≡ atoms_in h m = subst (λ o. from o (atoms_in h m) ≡ atoms_in h m) (ap (option_map g.S.LinkStore.atom_id) c.in-Some.is) i.list in
    let next = c.next_atom-next.ensures.list m home in
    record {
      once = next_once h t m a i.once c.take_atom.ensures home first;
      list = next_first h t m a (option_map g.S.LinkStore.atom_id c.next_atom-next.result) c.take_atom.ensures home first next;
      left = left_taken h t m a c.take_atom.ensures home first ∙ i.left;
      home = next_home g.S.LinkStore.atom_id h t m a c.next_atom-next.result i.once c.take_atom.ensures home first next c.next_atom-next.ensures.home;
    }

pub loop-next-init : goal.loop-next-init
loop-next-init g c =
    record {
      once = c.root-root.ensures.sound.listed.atoms_once (g.S.LinkStore.mem_id c.args.m);
      list = c.first_atom-next.ensures.list;
      left = refl;
      home = c.first_atom-next.ensures.home;
    }
