use Rattle.std.proofs.Common.{drop}
use Rattle.lmn_solid_search.specs.Foretelling.{AsksOn}
use Rattle.lmn_solid_search.proofs.early.Early.ask_all.Given as goal

abbrev pub invariant-loop-condition : goal.invariant-loop-condition
invariant-loop-condition l = AsksOn l.fn.self l.self l.typed l.guard (drop l.condition-index l.guard)
