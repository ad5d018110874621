use Rattle.std.proofs.Common.{◌≡◌, Some, ℕ, List, false, sym, ap}
use Rattle.std.specs.Option.{option_map}
use Rattle.lmn_store_heap.specs.Heap.{atoms_in, home_of}
use Rattle.lmn_io.proofs.TakingLemmas.{adds_as}
use Rattle.lmn_print_plain.specs.Rows.{in_row}
use Rattle.lmn_print_plain.specs.Stored.{atom_text}
use Rattle.lmn_print_plain.proofs.StoredLemmas.{atoms_first, atoms_next, atoms_fewer, atoms_end, atom_at_home, placed_at_home, same_home}
use Rattle.lmn_print_plain.proofs.writer.PlainAtomsAtomWriter.add_atoms.Goals as goal
use Rattle.lmn_base.proofs.Lists.{holds_of_item}

pub loop-next-init : goal.loop-next-init
loop-next-init g c = record {
  due = atoms_first c.args.between.now (atom_text c.args.names.now (g.S.LinkStore.heap c.args.store.now)) (option_map g.S.LinkStore.atom_id c.first_atom-next.result) (atoms_in (g.S.LinkStore.heap c.args.store.now) (g.S.LinkStore.mem_id c.args.mem)) _ c.first_atom-next.ensures.list;
  there = c.first_atom-next.ensures.home;
}

pub add_atom-requires : goal.add_atom-requires
add_atom-requires g c =
    atom_at_home (g.S.LinkStore.heap c.args.store.now) (g.S.LinkStore.atom_id c.in-Some.atom) (g.S.LinkStore.mem_id c.args.mem)
    (holds_of_item (λ a. home_of (g.S.LinkStore.heap c.args.store.now) (g.S.LinkStore.atom_id a) ≡ Some (g.S.LinkStore.mem_id c.args.mem)) c.loop-next.next c.in-Some.atom c.in-Some.is c.loop-next.invariant.there)

pub next_atom-next-requires : goal.next_atom-next-requires
next_atom-next-requires g c =
    placed_at_home (g.S.LinkStore.heap c.args.store.now) (g.S.LinkStore.atom_id c.in-Some.atom) (g.S.LinkStore.mem_id c.args.mem)
    (holds_of_item (λ a. home_of (g.S.LinkStore.heap c.args.store.now) (g.S.LinkStore.atom_id a) ≡ Some (g.S.LinkStore.mem_id c.args.mem)) c.loop-next.next c.in-Some.atom c.in-Some.is c.loop-next.invariant.there)

pub loop-next-preserved : goal.loop-next-preserved
loop-next-preserved g c =
    let h = g.S.LinkStore.heap c.args.store.now in
    let m = g.S.LinkStore.mem_id c.args.mem in
    let home = holds_of_item (λ a. home_of h (g.S.LinkStore.atom_id a) ≡ Some m) c.loop-next.next c.in-Some.atom c.in-Some.is c.loop-next.invariant.there in
    record {
      due = atoms_next g.S.LinkStore.atom_id c.args.between.now c.loop-next.any (atom_text c.args.names.now h) c.in-Some.atom c.loop-next.next c.next_atom-next.result (atoms_in h m) _ _ _ _ _ c.in-Some.is (c.next_atom-next.ensures.list m home) c.loop-next.invariant.due c.add_between.ensures c.add_atom.ensures;
      there = same_home g.S.LinkStore.atom_id h c.in-Some.atom m c.next_atom-next.result home c.next_atom-next.ensures.home;
    }

pub loop-next-smaller : goal.loop-next-smaller
loop-next-smaller g c =
    let h = g.S.LinkStore.heap c.args.store.now in
    let m = g.S.LinkStore.mem_id c.args.mem in
    let home = holds_of_item (λ a. home_of h (g.S.LinkStore.atom_id a) ≡ Some m) c.loop-next.next c.in-Some.atom c.in-Some.is c.loop-next.invariant.there in
    atoms_fewer g.S.LinkStore.atom_id c.in-Some.atom c.loop-next.next c.next_atom-next.result (atoms_in h m) c.in-Some.is (c.next_atom-next.ensures.list m home)

pub returns : goal.returns
returns g c = λ texts are.
    adds_as (sym (ap (λ (ts : List (List ℕ)). in_row c.args.between.now false ts) are))
    (atoms_end g.S.LinkStore.atom_id c.args.between.now c.loop-next.any (atom_text c.args.names.now (g.S.LinkStore.heap c.args.store.now)) c.loop-next.next (atoms_in (g.S.LinkStore.heap c.args.store.now) (g.S.LinkStore.mem_id c.args.mem)) _ _ _ c.in_default.not-Some c.loop-next.invariant.due)
