use Rattle.std.proofs.Common.{refl}
use Rattle.lmn_parser_grammar.proofs.Counts.{scan_none as within, scan_passes as beyond}
use Rattle.lmn_parser_grammar.proofs.limit_examples.Goals as goal

pub returns : goal.returns
returns c = record {
  brackets = (within _ _ refl, beyond _ _ _ refl);
  operators = (within _ _ refl, beyond _ _ _ refl, within _ _ refl, beyond _ _ _ refl, within _ _ refl, beyond _ _ _ refl, within _ _ refl, beyond _ _ _ refl);
  sides = (within _ _ refl, within _ _ refl);
  arguments = (within _ _ refl, beyond _ _ _ refl, within _ _ refl, beyond _ _ _ refl, within _ _ refl, beyond _ _ _ refl, within _ _ refl, beyond _ _ _ refl);
  contexts = (within _ _ refl, beyond _ _ _ refl);
  left_side = (within _ _ refl, beyond _ _ _ refl);
  both_limits = beyond _ _ _ refl;
}
