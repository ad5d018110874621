use Rattle.std.proofs.Common.{◌+◌, ℕ, true, false}
use Rattle.lmn_verify_listing.specs.Lines.{rule}
use Rattle.lmn_verify_listing.specs.Reaching.{IsRefusedLine, Reached, due_in}
use Rattle.lmn_verify_listing.proofs.CodeLemmas.{rule_stands, code_read, refused_on}
use Rattle.lmn_verify_listing.proofs.listing.read_code.Goals as goal

pub returns-in_err-head-clause-refused : goal.returns-in_err-head-clause-refused
returns-in_err-head-clause-refused c =
    let listing = c.args.listing.now in
    let end = c.line_end-end.result in
    refused_on c.from_residual.result _ (λ r. (n j : ℕ) → Reached n listing end (c.args.first + 1) (due_in true j) → IsRefusedLine n listing r)
    (λ r. (n : ℕ) → Reached n listing c.args.from c.args.first (rule c.args.number) → IsRefusedLine n listing r) c.from_residual.ensures.1 c.in_err-head.ensures.refused (λ r h n s.
    h n c.args.number (rule_stands n listing c.between.result.now c.args.number c.args.from c.args.first end c.line_end-end.ensures c.between.ensures (c.is_rule_line.ensures.yes c.if-not-is_rule_line.false) s))

pub returns-in_err-body-clause-refused : goal.returns-in_err-body-clause-refused
returns-in_err-body-clause-refused c =
    let listing = c.args.listing.now in
    let end = c.line_end-end.result in
    refused_on c.from_residual-in_err-body.result _ (λ r. (n j : ℕ) → Reached n listing c.in_ok-head.head.at c.in_ok-head.head.line (due_in false j) → IsRefusedLine n listing r)
    (λ r. (n : ℕ) → Reached n listing c.args.from c.args.first (rule c.args.number) → IsRefusedLine n listing r) c.from_residual-in_err-body.ensures.1 c.in_err-body.ensures.refused (λ r h n s.
    h n c.args.number (c.in_ok-head.ensures.block.reached n c.args.number
    (rule_stands n listing c.between.result.now c.args.number c.args.from c.args.first end c.line_end-end.ensures c.between.ensures (c.is_rule_line.ensures.yes c.if-not-is_rule_line.false) s)))

pub returns-clause-code : goal.returns-clause-code
returns-clause-code c =
    code_read c.args.listing.now c.between.result.now c.args.names.now c.read_block.new.names c.read_block-2.new.names c.args.number c.args.from c.args.first c.line_end-end.result
    c.in_ok-head.head.at c.in_ok-head.head.line c.in_ok-body.body.at c.in_ok-body.body.line (record { head = c.in_ok-head.head.instrs; body = c.in_ok-body.body.instrs })
    c.line_end-end.ensures c.between.ensures (c.is_rule_line.ensures.yes c.if-not-is_rule_line.false) c.in_ok-head.ensures.block c.in_ok-body.ensures.block
