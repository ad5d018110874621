use Rattle.std.proofs.Common.{Some, sym}
use Rattle.std.proofs.lemmas.Slice.Eq.{strip_prefix_is}
use Rattle.std.proofs.lemmas.Bool.Decides.{Decides-eqb}
use Rattle.lmn_verify_listing.proofs.LineLemmas.{nameless}
use Rattle.lmn_verify_listing.proofs.OperandLemmas.{operand_first}
use Rattle.lmn_verify_listing.proofs.line.take_plain.Goals as goal

pub returns-in-Some-read_plain-clause-only : goal.returns-in-Some-read_plain-clause-only
returns-in-Some-read_plain-clause-only c = λ o ns rest h b e.
    let front = strip_prefix_is Decides-eqb c.args.text.now c.as_slice.result.now (Some c.in-Some.behind) c.in-Some.ensures.cases in
    (operand_first c.args.kind o ns c.args.text.now c.as_slice.result.now c.in-Some.behind.now rest c.place_of-at.result c.requires h b e front c.as_slice.ensures c.place_of-at.ensures).1

pub returns-in-None-read_plain-clause-only : goal.returns-in-None-read_plain-clause-only
returns-in-None-read_plain-clause-only c = λ o ns rest h b e.
    let front = strip_prefix_is Decides-eqb c.args.text.now c.as_slice.result.now (Some c.in-Some.behind) c.in-Some.ensures.cases in
    c.in-None-read_plain.ensures.none o ns h (sym (operand_first c.args.kind o ns c.args.text.now c.as_slice.result.now c.in-Some.behind.now rest c.place_of-at.result c.requires h b e front c.as_slice.ensures c.place_of-at.ensures).0)

pub returns-in-Some-read_plain-clause-nameless : goal.returns-in-Some-read_plain-clause-nameless
returns-in-Some-read_plain-clause-nameless c = nameless c.args.kind c.in-Some-read_plain.operand c.requires c.in-Some-read_plain.ensures.some.0
