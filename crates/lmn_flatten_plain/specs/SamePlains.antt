-- Plains that are the same but for the addresses of boxes in conditions.
use Rattle.std.specs.Prelude.{ℤ, ◌≡◌, Box}
use Rattle.std.specs.declared.alloc.Global.{Global}
use Rattle.std.specs.List.{AllZip}
use Rattle.lmn_base.specs.declared.refusal.Pos.{Pos}
use Rattle.lmn_base.specs.declared.guard.Arith.{Arith}
use Rattle.lmn_base.specs.declared.guard.Cmp.{Cmp}
use Rattle.lmn_base.specs.declared.guard.Expr.{Expr}
use Rattle.lmn_base.specs.declared.guard.Expr.TheOpen as expr
use Rattle.lmn_base.specs.declared.guard.Expr.TheViews.{roll-Expr}
use Rattle.lmn_base.specs.declared.guard.Cond.{Cond}
use Rattle.lmn_base.specs.declared.guard.Cond.TheVariants as cond
use Rattle.lmn_base.specs.declared.level.CtxUse.{CtxUse}
use Rattle.lmn_base.specs.declared.rule.Plain.{Plain}
use Rattle.lmn_base.specs.declared.rule.RuleTree.{RuleTree}

pub data SameExpr : Expr → Expr → Type 0 where
  same_integer : (z : ℤ) → SameExpr (roll-Expr (expr.Int z)) (roll-Expr (expr.Int z))
  same_context : (u : CtxUse) → SameExpr (roll-Expr (expr.Ctx u)) (roll-Expr (expr.Ctx u))
  same_operation : (op : Arith) (a b c d : Box Expr Global) → SameExpr a.value c.value → SameExpr b.value d.value
      → SameExpr (roll-Expr (expr.Op op a b)) (roll-Expr (expr.Op op c d))

pub data SameCond : Cond → Cond → Type 0 where
  same_condition : {c : Cond} → SameCond c c
  same_comparison : {op : Cmp} {a b c d : Expr} {pos : Pos} → SameExpr a c → SameExpr b d → SameCond (cond.Compare op a b pos) (cond.Compare op c d pos)
  same_equation : {u : CtxUse} {a b : Expr} {pos : Pos} → SameExpr a b → SameCond (cond.Equal u a pos) (cond.Equal u b pos)

pub record SameRule (r s : RuleTree) : Type 0 where
  pub head : r.head ≡ s.head
  pub guard : AllZip SameCond r.guard s.guard
  pub body : r.body ≡ s.body
  pub links : r.links ≡ s.links
  pub pos : r.pos ≡ s.pos

pub record SamePlain (p q : Plain) : Type 0 where
  pub top : p.top ≡ q.top
  pub links : p.links ≡ q.links
  pub rules : AllZip SameRule p.rules q.rules
