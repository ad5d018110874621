use Rattle.std.proofs.Common.{sym, ◌∙◌}
use Rattle.lmn_flatten_numbers.proofs.Insertions.{first_more, second_more, third_more, none_more}
use Rattle.lmn_flatten_numbers.proofs.tally.FirstPlaces.with.Goals as goal

pub returns-then-comes_before : goal.returns-then-comes_before
returns-then-comes_before c = first_more c.args.pos c.args.self (sym c.comes_before.ensures ∙ c.if-comes_before.true)

pub returns-then-comes_before-2 : goal.returns-then-comes_before-2
returns-then-comes_before-2 c =
    second_more c.args.pos c.args.self (sym c.comes_before.ensures ∙ c.if-comes_before.false) (sym c.comes_before-else-comes_before.ensures ∙ c.if-comes_before-2.true)

pub returns-then-comes_before-3 : goal.returns-then-comes_before-3
returns-then-comes_before-3 c =
    third_more c.args.pos c.args.self (sym c.comes_before.ensures ∙ c.if-comes_before.false) (sym c.comes_before-else-comes_before.ensures ∙ c.if-comes_before-2.false)
    (sym c.comes_before-else-comes_before-2.ensures ∙ c.if-comes_before-3.true)

pub returns-else-comes_before-3 : goal.returns-else-comes_before-3
returns-else-comes_before-3 c =
    none_more c.args.pos c.args.self (sym c.comes_before.ensures ∙ c.if-comes_before.false) (sym c.comes_before-else-comes_before.ensures ∙ c.if-comes_before-2.false)
    (sym c.comes_before-else-comes_before-2.ensures ∙ c.if-comes_before-3.false)
