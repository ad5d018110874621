use Rattle.lmn_verify_compiled.proofs.Codes.{listed_codes_are_one, listed_codes_are_read, verified_is_not_refused}
use Rattle.lmn_verify_compiled.proofs.NamesInOrder.{listed_names_are_one}
use Rattle.lmn_verify_compiled.proofs.listed_codes_are_one.Goals as goal

pub returns : goal.returns
returns c = record { one = listed_codes_are_one; read = listed_codes_are_read; names = listed_names_are_one; refused = verified_is_not_refused }
