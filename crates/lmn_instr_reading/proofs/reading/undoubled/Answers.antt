use Rattle.std.proofs.Common.{List, ℕ, ◌+◌, refl, sym, ◌∙◌, subst}
use Rattle.std.proofs.lemmas.List.{take_all}
use Rattle.lmn_instr_reading.proofs.QuotedLemmas.{Undoubled, undoubled_more, undoubled_all, pushed}
use Rattle.lmn_instr_reading.proofs.reading.undoubled.Goals as goal

pub loop-at-preserved : goal.loop-at-preserved
loop-at-preserved c =
    let w = pushed c.try_push.result (sym c.is_err.ensures.value ∙ c.if-is_err.false) c.try_push.ensures.ok c.try_push.ensures.variant in
    let some = c.in-Some.ensures.some in
    subst (λ (xs : List ℕ). Undoubled c.args.inside.now (c.loop-at.at + c.in-Some.width) xs) (sym w.0)
    (undoubled_more c.args.inside.now c.loop-at.at c.in-Some.width c.loop-at.name.items _ c.loop-at.invariant c.loop-at-test.true refl some.0 some.2 w.1)

pub returns-clause-some : goal.returns-clause-some
returns-clause-some c = (c.loop-at.invariant.front ∙ take_all _ _ c.loop-at-test.false, c.loop-at.invariant.few)

pub returns-clause-only : goal.returns-clause-only
returns-clause-only c = λ name low e. undoubled_all c.args.inside.now c.loop-at.at c.loop-at.name.items name c.loop-at.invariant c.loop-at-test.false e
