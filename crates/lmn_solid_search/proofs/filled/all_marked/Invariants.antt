use Rattle.std.proofs.Common.{ℕ, take}
use Rattle.lmn_base.specs.Lists.{In}
use Rattle.lmn_solid_search.specs.Walking.{IsMarked}
use Rattle.lmn_solid_search.proofs.filled.all_marked.Given as goal

abbrev pub invariant-loop-number : goal.invariant-loop-number
invariant-loop-number l = (a : ℕ) → In a (take l.number-index l.numbers) → IsMarked l.seen a
