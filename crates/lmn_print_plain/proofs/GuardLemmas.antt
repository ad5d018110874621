-- Expressions.
use Rattle.std.proofs.Common.{◌≡◌, ℕ, List, ◌∷◌, ◌++◌, sym, ap, ◌∙◌}
use Rattle.std.proofs.Common.{Box, Global}
use Rattle.std.specs.Prelude.{codes}
use Rattle.lmn_base.specs.declared.guard.Arith.{Arith}
use Rattle.lmn_base.specs.declared.guard.Expr.{Expr}
use Rattle.lmn_base.specs.declared.guard.Expr as rolled
use Rattle.lmn_base.specs.declared.guard.Expr.TheOpen as opened
use Rattle.lmn_base.specs.declared.guard.Expr.TheFolds.{fold-roll-Expr}
use Rattle.lmn_base.specs.declared.guard.Expr.TheVariants.{Op}
use denote.Hole.Carrier
use Rattle.lmn_congruence.specs.Rules as tree
use Rattle.lmn_congruence.specs.Translation.{expression_of, expression_step}
use Rattle.lmn_flatten_plain.specs.Words.{text_of, operand_pieces, operator_pieces, side_pieces}
use Rattle.lmn_flatten_plain.proofs.LaidLines.{text_append}

-- an operation, in parentheses
pub in_parentheses : (op : Arith) (l r : tree.Expression)
    → codes "(" ++ (text_of (operand_pieces l) ++ (text_of (operator_pieces op) ++ (text_of (operand_pieces r) ++ codes ")"))) ≡ text_of (operand_pieces (tree.operation op l r))
in_parentheses op l r =
    ap (λ t. 40 ∷ t) (sym (text_append (operand_pieces l) _ ∙ ap (λ t. text_of (operand_pieces l) ++ t) (text_append (operator_pieces op) _ ∙ ap (λ t. text_of (operator_pieces op) ++ t) (text_append (operand_pieces r) _))))

-- a side of a comparison has no parentheses round it
pub without_parentheses : (op : Arith) (l r : tree.Expression)
    → text_of (operand_pieces l) ++ (text_of (operator_pieces op) ++ text_of (operand_pieces r)) ≡ text_of (side_pieces (tree.operation op l r))
without_parentheses op l r =
    sym (text_append (operand_pieces l) _ ∙ ap (λ t. text_of (operand_pieces l) ++ t) (text_append (operator_pieces op) _))

expression_op : (names : List tree.Name) (op : Arith) (l r : Box Expr Global) → expression_of names (Op op l r) ≡ tree.operation op (expression_of names l.value) (expression_of names r.value)
unfolding rolled.roll-Expr denote.Hole.Carrier.roll
expression_op names op l r = fold-roll-Expr tree.Expression (expression_step names) (opened.Op op l r)

operation_is : (names : List tree.Name) (e : Expr) (op : Arith) (l r : Box Expr Global) (x y : Expr) → e ≡ Op op l r → x ≡ l.value → y ≡ r.value
    → expression_of names e ≡ tree.operation op (expression_of names x) (expression_of names y)
operation_is names e op l r x y is ex ey =
    ap (expression_of names) is ∙ expression_op names op l r
    ∙ ap (λ z. tree.operation op (expression_of names z) (expression_of names r.value)) (sym ex)
    ∙ ap (λ z. tree.operation op (expression_of names x) (expression_of names z)) (sym ey)

-- the text of an operation as an operand
pub operand_text : (names : List tree.Name) (e : Expr) (op : Arith) (l r : Box Expr Global) (x y : Expr) (sign : List ℕ) → e ≡ Op op l r → x ≡ l.value → y ≡ r.value
    → sign ≡ text_of (operator_pieces op)
    → codes "(" ++ (text_of (operand_pieces (expression_of names x)) ++ (sign ++ (text_of (operand_pieces (expression_of names y)) ++ codes ")"))) ≡ text_of (operand_pieces (expression_of names e))
operand_text names e op l r x y sign is ex ey es =
    let a = text_of (operand_pieces (expression_of names x)) in
    let b = text_of (operand_pieces (expression_of names y)) in
    ap (λ t. codes "(" ++ (a ++ (t ++ (b ++ codes ")")))) es
    ∙ in_parentheses op (expression_of names x) (expression_of names y)
    ∙ ap (λ z. text_of (operand_pieces z)) (sym (operation_is names e op l r x y is ex ey))

-- and as a side
pub side_text : (names : List tree.Name) (e : Expr) (op : Arith) (l r : Box Expr Global) (x y : Expr) (sign : List ℕ) → e ≡ Op op l r → x ≡ l.value → y ≡ r.value
    → sign ≡ text_of (operator_pieces op)
    → text_of (operand_pieces (expression_of names x)) ++ (sign ++ text_of (operand_pieces (expression_of names y))) ≡ text_of (side_pieces (expression_of names e))
side_text names e op l r x y sign is ex ey es =
    let a = text_of (operand_pieces (expression_of names x)) in
    let b = text_of (operand_pieces (expression_of names y)) in
    ap (λ t. a ++ (t ++ b)) es
    ∙ without_parentheses op (expression_of names x) (expression_of names y)
    ∙ ap (λ z. text_of (side_pieces z)) (sym (operation_is names e op l r x y is ex ey))
