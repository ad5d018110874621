use Rattle.std.proofs.Common.{◌≡◌, ◌⊎◌, ℕ, length, take}
use Rattle.lmn_base.specs.Lists.{In}
use Rattle.lmn_solid_search.specs.Walking.{IsMarked}
use Rattle.lmn_solid_search.proofs.filled.mark_all.Given as goal

abbrev pub invariant-loop-number : goal.invariant-loop-number
invariant-loop-number l = record {
  long : length l.seen ≡ length l.fn.seen;
  marked : (a : ℕ) → (IsMarked l.seen a → IsMarked l.fn.seen a ⊎ In a (take l.number-index l.numbers)) × ((IsMarked l.fn.seen a ⊎ In a (take l.number-index l.numbers)) → IsMarked l.seen a);
}
