use Rattle.std.proofs.Common.{◌≡◌, sym, ap, ◌∙◌, subst}
use Rattle.std.proofs.lemmas.Result.{IfOk-weaker}
use Rattle.lmn_parser.specs.Syntax.{Expr, expr_of, operation}
use Rattle.lmn_flatten_plain.specs.Plains.{IsExpr}
use Rattle.lmn_flatten.proofs.GuardLemmas.{expr_operation}
use Rattle.lmn_flatten.proofs.guard.+expression.Goals as goal

pub returns-in_ok-right-in-Op : goal.returns-in_ok-right-in-Op
returns-in_ok-right-in-Op t c = IfOk-weaker c.operation.result _ _
    (λ made is_made r is.
    let P : Expr → Type 0 = λ e. IsExpr r.words r.places r.names e made in
    let left : expr_of c.deref.result.now ≡ expr_of c.in-Op.left.value = ap expr_of c.deref.ensures in
    let right : expr_of c.deref-in-Op.result.now ≡ expr_of c.in-Op.right.value = ap expr_of c.deref-in-Op.ensures in
    subst P
    (ap (λ e. operation c.in-Op.op e (expr_of c.deref-in-Op.result.now)) left ∙ ap (λ e. operation c.in-Op.op (expr_of c.in-Op.left.value) e) right
    ∙ sym (expr_operation c.in-Op.op c.in-Op.left c.in-Op.right) ∙ ap expr_of (sym c.in-Op.is))
    (is_made r _ _ (c.in_ok-left-in-Op.ensures r is) (c.in_ok-right-in-Op.ensures r is)))
    c.operation.ensures
