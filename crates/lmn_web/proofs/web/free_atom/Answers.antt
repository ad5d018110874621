use Rattle.std.proofs.Common.{sym, ◌∙◌}
use Rattle.lmn_web.proofs.web.free_atom.Goals as goal

pub free-requires-clause-ports : goal.free-requires-clause-ports
free-requires-clause-ports c = sym c.requires.arity ∙ sym c.number-ports.ensures
