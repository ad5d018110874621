use Rattle.std.proofs.Common.{sym, ap, ◌∙◌, subst}
use Rattle.std.proofs.lemmas.Result.{IfOk-weaker}
use Rattle.lmn_parser.specs.Syntax.{WrittenCondition, called, condition_of_node}
use Rattle.lmn_flatten_plain.specs.Plains.{IsCond}
use Rattle.lmn_flatten.proofs.guard.condition.Goals as goal

pub returns-in-Kind : goal.returns-in-Kind
returns-in-Kind c = IfOk-weaker c.called.result _ _
    (λ made h r is. let P : WrittenCondition → Type 0 = λ w. IsCond r.words r.places r.names w made in subst P (ap (λ ts. called c.in-Kind.name ts) c.as_slice.ensures ∙ ap condition_of_node (sym c.in-Kind.is)) (h r is)) c.called.ensures

pub returns-in-Compare : goal.returns-in-Compare
returns-in-Compare c = IfOk-weaker c.compared.result _ _
    (λ made h r is. let P : WrittenCondition → Type 0 = λ w. IsCond r.words r.places r.names w made in subst P (ap condition_of_node (sym c.in-Compare.is)) (h r is)) c.compared.ensures

pub returns-in-Equal : goal.returns-in-Equal
returns-in-Equal c = IfOk-weaker c.equal.result _ _
    (λ made h r is. let P : WrittenCondition → Type 0 = λ w. IsCond r.words r.places r.names w made in subst P (ap condition_of_node (sym c.in-Equal.is)) (h r is)) c.equal.ensures

pub returns-in-Differ : goal.returns-in-Differ
returns-in-Differ c = IfOk-weaker c.different.result _ _
    (λ made h r is. let P : WrittenCondition → Type 0 = λ w. IsCond r.words r.places r.names w made in subst P (ap condition_of_node (sym c.in-Differ.is)) (h r is)) c.different.ensures
