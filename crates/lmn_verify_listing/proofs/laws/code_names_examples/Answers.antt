use Rattle.lmn_verify_code.proofs.NameExamples.{code_names_examples}
use Rattle.lmn_verify_listing.proofs.laws.code_names_examples.Goals as goal

pub returns : goal.returns
returns c = code_names_examples
