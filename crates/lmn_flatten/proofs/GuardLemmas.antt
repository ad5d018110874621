-- Conditions one by one.
use Rattle.std.proofs.Common.{Box, Global, ◌≡◌, ℕ, ◌+◌, ◌<◌, List, [], ◌∷◌, ◌++◌, length, map, take, get_or, sym, ap, ◌∙◌, subst}
use Rattle.std.proofs.lemmas.List.{map-append, take_more}
use Rattle.std.specs.List.{AllZip}
use Rattle.lmn_base.specs.declared.guard.Arith.{Arith}
use Rattle.lmn_base.specs.declared.guard.Cond.{Cond}
use Rattle.lmn_parser.specs.declared.tree.CondNode.{CondNode}
use Rattle.lmn_parser.specs.declared.tree.ExprNode.{ExprNode}
use Rattle.lmn_parser.specs.declared.tree.ExprNode.TheFolds.{fold-roll-ExprNode}
use Rattle.lmn_parser.specs.declared.tree.ExprNode.TheOpen as open_expr
use Rattle.lmn_parser.specs.declared.tree.ExprNode.TheVariants as expr_variant
use Rattle.lmn_parser.specs.declared.tree.ExprNode.TheViews as view
use Rattle.lmn_parser.specs.Syntax.{Expr, WrittenCondition, condition_of_node, conditions_of, expr_of, expr_step, operation}
use Rattle.lmn_flatten.proofs.EachLemmas.{each_append}

-- one more condition is read
pub one_more_condition : (R : WrittenCondition → Cond → Type 0) (xs : List CondNode) (i : ℕ) (d x : CondNode) (cs cs1 : List Cond) (c : Cond) → i < length xs → x ≡ get_or xs i d
    → AllZip R (conditions_of (take i xs)) cs → R (condition_of_node x) c → cs1 ≡ cs ++ c ∷ [] → AllZip R (conditions_of (take (i + 1) xs)) cs1
one_more_condition R xs i d x cs cs1 c l e h k f =
    let P : List WrittenCondition → Type 0 = λ z. AllZip R z cs1 in
    let Q : List Cond → Type 0 = λ z. AllZip R (conditions_of (take i xs) ++ condition_of_node x ∷ []) z in
    let same : conditions_of (take i xs) ++ condition_of_node x ∷ [] ≡ conditions_of (take (i + 1) xs) = sym (map-append condition_of_node (take i xs) (x ∷ []))
    ∙ ap (map condition_of_node) (ap (λ y. take i xs ++ y ∷ []) e ∙ sym (take_more xs i d l)) in
    subst P same (subst Q (sym f) (each_append R (conditions_of (take i xs)) (condition_of_node x ∷ []) cs (c ∷ []) h (k, tt)))

-- a parsed operation is that one
pub expr_operation : (op : Arith) (l r : Box ExprNode Global) → expr_of (view.Op op l r) ≡ operation op (expr_of l.value) (expr_of r.value)
expr_operation op l r = ap expr_of (sym (expr_variant.rolls-Op op l r)) ∙ fold-roll-ExprNode Expr expr_step (open_expr.Op op l r)
