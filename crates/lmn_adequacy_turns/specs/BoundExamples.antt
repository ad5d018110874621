-- What small guards bind.
use Rattle.std.specs.Prelude.{ℕ, ◌≡◌, false, pos, [], ◌∷◌, Some, None}
use Rattle.lmn_base.specs.declared.guard.Cond.TheVariants.{Equal}
use Rattle.lmn_base.specs.declared.guard.Expr.TheVariants as expr
use Rattle.lmn_base.specs.declared.level.CtxUse.{CtxUse}
use Rattle.lmn_base.specs.declared.refusal.Pos.{Pos}
use Rattle.lmn_store_heap.specs.Heap.{Heap}
use Rattle.lmn_solid_heads.specs.Guards.{Meaning}
use Rattle.lmn_adequacy_turns.specs.Bound.{bound_all}
use Rattle.lmn_base.specs.Graphs.{Port}

-- the context with a number
abbrev pub context : ℕ → Pos → CtxUse
context x p = record { name = x; closed = false; pos = p }

-- no name stands in the head, and each does, at one port
abbrev pub free : Meaning
free = record { part_of = λ x. None; bound_to = λ x. None }

abbrev pub held : Port → Meaning
held q = record { part_of = λ x. Some q; bound_to = λ x. None }

-- `$x = 3, $y = $x` binds $y to 3; where $x stands in the head it isn't bound.
pub record BindsFromLeft : Type 0 where
  pub bound : (h : Heap) (p : Pos) → (bound_all h free (Equal (context 20 p) (expr.Int (pos 3)) p ∷ Equal (context 21 p) (expr.Ctx (context 20 p)) p ∷ [])).bound_to 21 ≡ Some (pos 3)
  pub not_bound : (h : Heap) (p : Pos) (q : Port) → (bound_all h (held q) (Equal (context 20 p) (expr.Int (pos 3)) p ∷ [])).bound_to 20 ≡ None
