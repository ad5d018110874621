use Rattle.lmn_verify_compiled.proofs.Compiled.{compiled_are_listed, compiled_are_read, compiled_is_not_refused}
use Rattle.lmn_verify_compiled.proofs.compiled_are_listed.Goals as goal

pub returns : goal.returns
returns c = record {
  listed = compiled_are_listed c.codes_have_names.ensures c.verified_are_listed.ensures.tables;
  read = compiled_are_read c.codes_have_names.ensures c.verified_are_listed.ensures.tables c.listed_codes_are_one.ensures.read;
  refused = compiled_is_not_refused c.codes_have_names.ensures c.verified_are_listed.ensures.tables c.accepted_is_verified.ensures.tables c.listed_codes_are_one.ensures.refused;
}
