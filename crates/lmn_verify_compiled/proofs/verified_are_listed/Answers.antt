use Rattle.lmn_verify_compiled.proofs.WholeCodes.{verified_is_whole}
use Rattle.lmn_verify_compiled.proofs.PlainLines.{verified_are_listed, tables_are_listed}
use Rattle.lmn_verify_compiled.proofs.verified_are_listed.Goals as goal

pub returns : goal.returns
returns c = record { whole = verified_is_whole; listed = verified_are_listed; tables = tables_are_listed c.accepted_is_verified.ensures.tables }
