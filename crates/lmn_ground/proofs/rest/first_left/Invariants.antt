use Rattle.std.proofs.Common.{◌≡◌, not, map, length, Some}
use Rattle.std.specs.Prelude.{IfSome}
use Rattle.std.specs.Option.{option_map}
use Rattle.lmn_store_heap.specs.Heap.{parent_of, mems_in, from}
use Rattle.lmn_ground_parts.specs.Walks.{is_in}
use Rattle.lmn_ground_parts.specs.Rests.{keep}
use Rattle.lmn_ground.proofs.rest.first_left.Given as goal

abbrev pub invariant-loop-next : goal.invariant-loop-next
invariant-loop-next g l =
    let h = g.S.LinkStore.heap l.store in
    let m = g.S.LinkStore.mem_id l.fn.mem in
    let left = keep (λ n. not (is_in (map g.S.LinkStore.mem_id l.out) n)) in
    record {
      inside : IfSome l.next (λ n. parent_of h (g.S.LinkStore.mem_id n) ≡ Some m);
      same : left (from (option_map g.S.LinkStore.mem_id l.next) (mems_in h m)) ≡ left (from (option_map g.S.LinkStore.mem_id l.fn.first) (mems_in h m));
    }

abbrev pub decreases-loop-next : goal.decreases-loop-next
decreases-loop-next g l = length (from (option_map g.S.LinkStore.mem_id l.next) (mems_in (g.S.LinkStore.heap l.store) (g.S.LinkStore.mem_id l.fn.mem)))
