use Rattle.std.proofs.Common.{◌≡◌, ◌==◌, length, Some}
use Rattle.std.specs.Prelude.{IfSome}
use Rattle.std.specs.Option.{option_map}
use Rattle.lmn_store_heap.specs.Heap.{home_of, atoms_in, from, own_mark}
use Rattle.lmn_ground_parts.specs.Rests.{keep}
use Rattle.lmn_ground.proofs.rest.first_unmatched.Given as goal

abbrev pub invariant-loop-next : goal.invariant-loop-next
invariant-loop-next g l =
    let h = g.S.LinkStore.heap l.store in
    let m = g.S.LinkStore.mem_id l.fn.mem in
    let left = keep (λ a. own_mark h a == 0) in
    record {
      inside : IfSome l.next (λ a. home_of h (g.S.LinkStore.atom_id a) ≡ Some m);
      same : left (from (option_map g.S.LinkStore.atom_id l.next) (atoms_in h m)) ≡ left (from (option_map g.S.LinkStore.atom_id l.fn.first) (atoms_in h m));
    }

abbrev pub decreases-loop-next : goal.decreases-loop-next
decreases-loop-next g l = length (from (option_map g.S.LinkStore.atom_id l.next) (atoms_in (g.S.LinkStore.heap l.store) (g.S.LinkStore.mem_id l.fn.mem)))
