use Rattle.std.proofs.Common.{◌++◌, ℕ, List, [], sym, ap, ◌∙◌, subst, rules}
use Rattle.lmn_instr_code.specs.declared.words.Operand.{Operand}
use Rattle.lmn_instr_code.specs.declared.words.Operand.TheVariants as operand
use Rattle.lmn_verify_listing.specs.Taking.{one_text, parts_text}
use Rattle.lmn_verify_listing.proofs.OperandLemmas.{Parted, parted_more, parted_first, parts_behind, shorter, not_empty}
use Rattle.lmn_verify_listing.proofs.line.read_parts.Goals as goal

pub loop-rest-smaller : goal.loop-rest-smaller
loop-rest-smaller c = shorter [] c.in-Some.taken.operand c.in-Some.taken.rest.now c.loop-rest.rest.now (c.in-Some.ensures.some.1 []).2

pub loop-rest-preserved : goal.loop-rest-preserved
loop-rest-preserved c =
    let later = c.in-Some.taken.rest.now in
    subst (λ (xs : List ℕ). Parted c.args.text.now xs later) (sym c.in_ok-push-in-Some.ensures.ok)
    (parted_more c.args.text.now c.loop-rest.parts c.loop-rest.rest.now later c.part_of.result c.loop-rest.invariant c.part_of.ensures.small
    (ap (λ (o : Operand). one_text [] o ++ later) c.part_of.ensures.part ∙ (c.in-Some.ensures.some.1 []).2)
    c.in-Some.ensures.only)

pub returns-in-None-clause-none : goal.returns-in-None-clause-none
returns-in-None-clause-none c = λ gs h e.
    let f = parted_first c.args.text.now c.loop-rest.parts c.loop-rest.rest.now c.loop-rest.invariant (not_empty c.loop-rest.rest.now c.is_empty.result c.is_empty.ensures (search rules)) gs h e in
    c.in-None.ensures.only (operand.Part f.0) [] (parts_text f.1) f.2 (parts_behind f.1) f.4
