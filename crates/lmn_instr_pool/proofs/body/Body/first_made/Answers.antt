use Rattle.std.proofs.Common.{◌≤◌, length, subst}
use Rattle.lmn_instr_pool.specs.Extents.{Makes, NoneBefore}
use Rattle.lmn_instr_pool.proofs.body.Body.first_made.Goals as goal

pub returns-clause-within : goal.returns-clause-within
returns-clause-within c = subst (λ xs. c.self.inside.extent.now.first ≤ length xs) c.self.view_is c.self.invariant.started

pub returns-clause-none : goal.returns-clause-none
returns-clause-none c = subst (λ xs. NoneBefore Makes c.self.inside.extent.now.first xs) c.self.view_is c.self.invariant.first
