use Rattle.std.proofs.Common.{◌≡◌, ℕ, List, IsSome, length, map}
use Rattle.std.specs.Prelude.{IfSome}
use Rattle.std.specs.Option.{option_map}
use Rattle.lmn_base.specs.Lists.{In}
use Rattle.lmn_store_heap.specs.Heap.{from, home_of}
use Rattle.lmn_ground.specs.Rests.{IsLeft, ports_marked}
use Rattle.lmn_ground.proofs.ClosingLaws.{PortMarks, rest_atoms}
use Rattle.lmn_ground.proofs.closing.mark_rest.Given as goal

abbrev pub invariant-loop-next : goal.invariant-loop-next
invariant-loop-next g l =
    let s = g.S.LinkStore.heap l.fn.store in
    let t = g.S.LinkStore.heap l.store in
    let m = g.S.LinkStore.mem_id l.mem in
    let out = map g.S.LinkStore.mem_id l.out in
    record {
      same : PortMarks s t;
      rest : (atoms membranes : List ℕ) → IsLeft s m out atoms membranes → ports_marked l.v (from (option_map g.S.LinkStore.atom_id l.next) atoms) t ≡ ports_marked l.v atoms s;
      at : IfSome l.next (λ a. (atoms membranes : List ℕ) → IsLeft s m out atoms membranes → In (g.S.LinkStore.atom_id a) atoms);
      place : IfSome l.next (λ a. IsSome (home_of t (g.S.LinkStore.atom_id a)));
    }

abbrev pub decreases-loop-next : goal.decreases-loop-next
decreases-loop-next g l =
    length (from (option_map g.S.LinkStore.atom_id l.next) (rest_atoms (g.S.LinkStore.heap l.fn.store) (g.S.LinkStore.mem_id l.mem) (map g.S.LinkStore.mem_id l.out)))
