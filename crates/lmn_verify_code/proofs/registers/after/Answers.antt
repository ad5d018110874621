use Rattle.std.proofs.Common.{Bool, ap, ◌∙◌, if◌then◌else◌}
use Rattle.std.specs.Prelude.{option_to_list}
use Rattle.std.specs.List.{list_all}
use Rattle.lmn_instr_code.specs.Words.{operands}
use Rattle.lmn_verify_code.specs.Verified.{is_next, is_set, after_one, sets_register}
use Rattle.lmn_verify_code.proofs.VerifyingLemmas.{after_told, first_allowed}
use Rattle.lmn_verify_code.proofs.registers.after.Goals as goal

pub returns : goal.returns
returns c =
    c.with_some.ensures ∙ ap (λ (s : Bool). after_one s c.args.counts (option_to_list c.first_of.result)) c.sets_register.ensures
    ∙ after_told (sets_register c.args.instr.now) c.args.counts c.operands_of-first.result (operands c.args.instr.now) c.first_of.result c.operands_of-first.ensures.operands c.first_of.ensures

pub with_some-requires : goal.with_some-requires
with_some-requires c =
    ap (λ (s : Bool). list_all (λ o. if s then is_next c.args.counts o else is_set c.args.counts o) (option_to_list c.first_of.result)) c.sets_register.ensures
    ∙ first_allowed (sets_register c.args.instr.now) c.args.counts c.operands_of-first.result (operands c.args.instr.now) c.first_of.result c.operands_of-first.ensures.operands c.first_of.ensures c.requires
