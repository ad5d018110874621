use Rattle.std.proofs.Common.{◌&&◌, Bool, drop, refl, sym, ap, ◌∙◌, if◌then◌else◌}
use Rattle.std.specs.Prelude.{option_to_list}
use Rattle.std.specs.List.{list_all}
use Rattle.lmn_instr_code.specs.Words.{operands, all_operands}
use Rattle.lmn_verify_code.specs.Verified.{is_next, is_set, sets_register}
use Rattle.lmn_verify_code.proofs.VerifyingLemmas.{uses_told}
use Rattle.lmn_verify_code.proofs.registers.uses_in_order.Goals as goal

pub returns-then-is_some_next_or_set : goal.returns-then-is_some_next_or_set
returns-then-is_some_next_or_set c =
    ap (λ (a : Bool). a && c.are_others_set.result) (sym c.if-is_some_next_or_set.true)
    ∙ uses_told (sets_register c.args.instr.now) c.args.counts c.operands_of-first.result (operands c.args.instr.now) c.first_of.result c.is_some_next_or_set.result c.are_others_set.result c.operands_of-first.ensures.operands c.first_of.ensures
    (c.is_some_next_or_set.ensures ∙ ap (λ (s : Bool). list_all (λ o. if s then is_next c.args.counts o else is_set c.args.counts o) (option_to_list c.first_of.result)) c.sets_register.ensures)
    c.are_others_set.ensures

pub returns-else-is_some_next_or_set : goal.returns-else-is_some_next_or_set
returns-else-is_some_next_or_set c =
    let others = list_all (is_set c.args.counts) (drop 1 (all_operands c.operands_of-first.result)) in
    c.if-is_some_next_or_set.false ∙ ap (λ (a : Bool). a && others) (sym c.if-is_some_next_or_set.false)
    ∙ uses_told (sets_register c.args.instr.now) c.args.counts c.operands_of-first.result (operands c.args.instr.now) c.first_of.result c.is_some_next_or_set.result others c.operands_of-first.ensures.operands c.first_of.ensures
    (c.is_some_next_or_set.ensures ∙ ap (λ (s : Bool). list_all (λ o. if s then is_next c.args.counts o else is_set c.args.counts o) (option_to_list c.first_of.result)) c.sets_register.ensures)
    refl
