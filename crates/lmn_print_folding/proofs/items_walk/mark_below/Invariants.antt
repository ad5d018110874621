use Rattle.std.proofs.Common.{ℕ, ◌≡◌, ◌-◌, ◌^◌, ◌*◌, ◌<◌, ◌≤◌, List}
use Rattle.lmn_print_folding.specs.Marks.{Event, WalkMeets, is_item}
use Rattle.lmn_store_heap.specs.Heap.{IsAtom}
use Rattle.lmn_store_heap.specs.Sound.{Valid}
use Rattle.lmn_print_folding.specs.Chosen.{ChangesOwnMarks}
use Rattle.lmn_print_folding.proofs.BelowLemmas.{Marking}
use Rattle.lmn_print_folding.proofs.items_walk.mark_below.Given as goal

abbrev pub invariant-loop-at : goal.invariant-loop-at
invariant-loop-at g l =
    let s = g.S.LinkStore.heap l.fn.store in
    let t = g.S.LinkStore.heap l.store in
    let at = g.S.LinkStore.atom_id l.at.atom in
    record {
      atom : IsAtom s at;
      valid : Valid t;
      marks : ChangesOwnMarks s t;
      items : (a : ℕ) → is_item t a ≡ is_item s a;
      walk : (es : List Event) → WalkMeets s (g.S.LinkStore.atom_id l.fn.item) 0 es → Marking s t at l.at.port l.turns es;
      few : l.turns ≤ 2 ^ 49;
      low : l.at.port < 256;
    }

abbrev pub decreases-loop-at : goal.decreases-loop-at
decreases-loop-at g l = (2 ^ 64 - l.turns) * 256 - l.at.port
