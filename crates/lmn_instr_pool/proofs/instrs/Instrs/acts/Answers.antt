use Rattle.std.proofs.Common.{◌≤◌, length, subst}
use Rattle.lmn_instr_pool.specs.Extents.{Acts, NoneFrom}
use Rattle.lmn_instr_pool.proofs.instrs.Instrs.acts.Goals as goal

pub returns-clause-within : goal.returns-clause-within
returns-clause-within c = subst (λ xs. c.self.inside.acts ≤ length xs) c.self.view_is c.self.invariant.1.0

pub returns-clause-none : goal.returns-clause-none
returns-clause-none c = subst (λ xs. NoneFrom Acts c.self.inside.acts xs) c.self.view_is c.self.invariant.1.1
