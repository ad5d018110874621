use Rattle.std.proofs.Common.{◌≤◌, length, subst}
use Rattle.lmn_instr_pool.specs.Extents.{Makes, NoneFrom}
use Rattle.lmn_instr_pool.proofs.body.Body.last_made.Goals as goal

pub returns-clause-within : goal.returns-clause-within
returns-clause-within c = subst (λ xs. c.self.inside.extent.now.last ≤ length xs) c.self.view_is c.self.invariant.ended

pub returns-clause-none : goal.returns-clause-none
returns-clause-none c = subst (λ xs. NoneFrom Makes c.self.inside.extent.now.last xs) c.self.view_is c.self.invariant.last
