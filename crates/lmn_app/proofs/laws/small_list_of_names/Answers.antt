use Rattle.std.proofs.Common.{refl}
use Rattle.lmn_app.proofs.laws.small_list_of_names.Goals as goal

pub returns : goal.returns
returns c = refl
