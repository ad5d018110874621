use Rattle.lmn_compile_listing.proofs.CodeNames.{codes_have_names}
use Rattle.lmn_compile_listing.proofs.laws.codes_have_names.Goals as goal

pub returns : goal.returns
returns c = codes_have_names
