use Rattle.std.proofs.Common.{◌+◌, List, ap, ◌∙◌}
use Rattle.std.specs.List.{list_any}
use Rattle.std.proofs.lemmas.List.{take_rest}
use Rattle.lmn_instr_code.specs.declared.instr.Instr.{Instr}
use Rattle.lmn_verify_code.specs.Verified.{finds}
use Rattle.lmn_verify_code.proofs.VerifyingLemmas.{found_behind_survey}
use Rattle.lmn_verify_code.proofs.heads.finds_first.Goals as goal

pub returns-then-surveys : goal.returns-then-surveys
returns-then-surveys c =
    found_behind_survey c.args.head.now c.loop-at.at c.index-head-at.result c.surveys.result c.some_finds.result c.loop-at-test.true c.index-head-at.is c.surveys.ensures c.if-surveys.true
    (c.some_finds.ensures ∙ ap (λ (is : List Instr). list_any finds is) (take_rest c.args.head.now (c.loop-at.at + 1))) c.loop-at.invariant
