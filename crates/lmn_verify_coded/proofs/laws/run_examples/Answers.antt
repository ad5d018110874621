use Rattle.lmn_verify_coded.proofs.Compared.{run_examples}
use Rattle.lmn_verify_coded.proofs.laws.run_examples.Goals as goal

pub returns : goal.returns
returns c = run_examples c.verified_examples.ensures
