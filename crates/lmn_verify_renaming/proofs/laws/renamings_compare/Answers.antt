use Rattle.lmn_verify_renaming.proofs.Compared.{renamings_compare}
use Rattle.lmn_verify_renaming.proofs.laws.renamings_compare.Goals as goal

pub returns : goal.returns
returns c = renamings_compare
