use Rattle.std.proofs.Common.{◌≡◌, ◌+◌, ℕ, List, length, map}
use Rattle.std.specs.Prelude.{IfSome, sum}
use Rattle.std.specs.Option.{option_map}
use Rattle.lmn_base.specs.Lists.{In}
use Rattle.lmn_store_heap.specs.Heap.{IsMem, from, rules_in}
use Rattle.lmn_ground.specs.Rests.{IsLeft}
use Rattle.lmn_ground.proofs.RestLaws.{rest_found}
use Rattle.lmn_ground.proofs.measuring.membranes_left.Given as goal

abbrev pub invariant-loop-next : goal.invariant-loop-next
invariant-loop-next g l =
    let s = g.S.LinkStore.heap l.store in
    let m = g.S.LinkStore.mem_id l.mem in
    let out = map g.S.LinkStore.mem_id l.out in
    record {
      counted : (atoms all : List ℕ) → IsLeft s m out atoms all
          → l.count + sum (map (λ n. 1 + length (rules_in s n)) (from (option_map g.S.LinkStore.mem_id l.next) all)) ≡ sum (map (λ n. 1 + length (rules_in s n)) all);
      at : IfSome l.next (λ n. (atoms all : List ℕ) → IsLeft s m out atoms all → In (g.S.LinkStore.mem_id n) all);
      there : IfSome l.next (λ n. IsMem s (g.S.LinkStore.mem_id n));
    }

abbrev pub decreases-loop-next : goal.decreases-loop-next
decreases-loop-next g l =
    length (from (option_map g.S.LinkStore.mem_id l.next) (rest_found (g.S.LinkStore.heap l.store) (g.S.LinkStore.mem_id l.mem) (map g.S.LinkStore.mem_id l.out)))
