use Rattle.std.proofs.Common.{◌≡◌, length}
use Rattle.lmn_solid_search.specs.Parting.{TellMine}
use Rattle.lmn_solid_search.proofs.parts.mark_mine.Given as goal

abbrev pub invariant-loop-number : goal.invariant-loop-number
invariant-loop-number l = record {
  long : length l.seen ≡ length l.fn.seen;
  mine : TellMine l.images l.typed l.parts l.membrane l.number l.seen;
}
