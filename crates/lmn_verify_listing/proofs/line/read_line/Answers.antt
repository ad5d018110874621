use Rattle.std.proofs.Common.{◌≡◌, sym, ap, ◌∙◌, Bool, true, false, true≢false}
use mathlib.Core.Bool.{beq}
use Rattle.lmn_instr_code.specs.Opcodes.{is_in_head}
use Rattle.lmn_verify_listing.proofs.LineLemmas.{within_line, line_cut, then_none}
use Rattle.lmn_verify_listing.proofs.OpcodeLemmas.{one_name}
use Rattle.lmn_verify_listing.proofs.line.read_line.Goals as goal

not_same : (a b : Bool) → beq a b ≡ false → a ≡ b → ⊥
not_same true true e f = true≢false e
not_same true false e f = true≢false f
not_same false true e f = true≢false (sym f)
not_same false false e f = true≢false e

pub returns-in-None-clause-none : goal.returns-in-None-clause-none
returns-in-None-clause-none c = λ l. c.in-None.ensures.none _ (within_line c.args.in_head c.args.line.now l)

pub returns-then-is_in_head-in_head-clause-none : goal.returns-then-is_in_head-in_head-clause-none
returns-then-is_in_head-in_head-clause-none c =
    then_none c.read_operands.result _ _ c.read_operands.ensures.none (λ none l.
    let cut = line_cut c.args.in_head c.args.line.now c.in-Some.text.now c.place_of.result l c.in-Some.ensures.some c.place_of.ensures in
    none l.instr l.names (one_name _ _ (cut.0 ∙ sym c.split_at.ensures.front ∙ sym c.in-Some-named.ensures.some)) l.fits l.short (cut.1 ∙ sym c.split_at.ensures.back))

pub returns-else-is_in_head-in_head-clause-none : goal.returns-else-is_in_head-in_head-clause-none
returns-else-is_in_head-in_head-clause-none c = λ l.
    let cut = line_cut c.args.in_head c.args.line.now c.in-Some.text.now c.place_of.result l c.in-Some.ensures.some c.place_of.ensures in
    let same = one_name _ _ (cut.0 ∙ sym c.split_at.ensures.front ∙ sym c.in-Some-named.ensures.some) in
    let e = c.is_in_head.ensures ∙ ap is_in_head (sym same) ∙ l.part in
    not_same c.is_in_head.result c.args.in_head c.if-is_in_head-in_head.false e

pub returns-in-None-named-clause-none : goal.returns-in-None-named-clause-none
returns-in-None-named-clause-none c = λ l.
    let cut = line_cut c.args.in_head c.args.line.now c.in-Some.text.now c.place_of.result l c.in-Some.ensures.some c.place_of.ensures in
    c.in-None-named.ensures.none _ (cut.0 ∙ sym c.split_at.ensures.front)
