use Rattle.lmn_verify_renaming.proofs.Composed.{fixed_is_same, renamed_twice}
use Rattle.lmn_verify_renaming.proofs.laws.renamings_compose.Goals as goal

pub returns-clause-twice : goal.returns-clause-twice
returns-clause-twice c = renamed_twice

pub returns-clause-fixed : goal.returns-clause-fixed
returns-clause-fixed c = fixed_is_same
