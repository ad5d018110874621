use Rattle.std.proofs.Common.{ℕ, List, drop, sym, ap, ◌∙◌, subst}
use Rattle.std.proofs.lemmas.List.{drop-drop, take_rest}
use Rattle.lmn_instr_reading.specs.Reading.{IsLabelText}
use Rattle.lmn_instr_reading.proofs.QuotedLemmas.{functor_parts, no_functor}
use Rattle.lmn_instr_reading.proofs.reading.read_functor.Goals as goal

pub returns-in-None-clause-none : goal.returns-in-None-clause-none
returns-in-None-clause-none c = λ t. no_functor c.args.text.now t.0 t.1 c.in-None.ensures.none t.4

pub returns-in-None-2-clause-none : goal.returns-in-None-2-clause-none
returns-in-None-2-clause-none c = λ t.
    let some = c.in-Some.ensures.some in
    let parts = functor_parts c.args.text.now c.in-Some.at some.0 some.1 some.2 t.0 t.1 t.3 t.4 in
    let none = rw c.in-None-2.is at c.in_ok-label-in-Some-read_number.ensures.none in
    none (subst IsLabelText (parts.0 ∙ sym c.split_at.ensures.front) t.2)

pub returns-in-None-read_number-clause-none : goal.returns-in-None-read_number-clause-none
returns-in-None-read_number-clause-none c = λ t.
    let some = c.in-Some.ensures.some in
    let parts = functor_parts c.args.text.now c.in-Some.at some.0 some.1 some.2 t.0 t.1 t.3 t.4 in
    c.in-None-read_number.ensures.none t.1 t.3
    (parts.1 ∙ sym (drop-drop 1 c.in-Some.at c.args.text.now) ∙ ap (λ (q : List ℕ). drop 1 q) (sym c.split_at.ensures.back) ∙ sym (take_rest c.split_at.result.1.now 1))
