use Rattle.std.proofs.Common.{◌≤◌, length, subst}
use Rattle.lmn_instr_pool.specs.Extents.{NoneFrom, Removes}
use Rattle.lmn_instr_pool.proofs.body.Body.removals.Goals as goal

pub returns-clause-within : goal.returns-clause-within
returns-clause-within c = subst (λ xs. c.self.inside.extent.now.removals ≤ length xs) c.self.view_is c.self.invariant.removed

pub returns-clause-none : goal.returns-clause-none
returns-clause-none c = subst (λ xs. NoneFrom Removes c.self.inside.extent.now.removals xs) c.self.view_is c.self.invariant.removals
