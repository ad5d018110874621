-- When a rule is lowered by a weighing.
use Rattle.std.specs.Prelude.{Bool, IsTrue, List, [], ◌∷◌, ◌<◌, ◌↔◌, if◌then◌else◌}
use Rattle.lmn_base.specs.declared.guard.Cmp.{Cmp}
use Rattle.lmn_congruence.specs.Orders.{Among, EachOnce}
use Rattle.lmn_congruence.specs.Rules.{Condition, Expression, Name, Rule, body_of, compares, equates, guard_of, head_of, int, is_kind}
use Rattle.lmn_reduction.specs.Firing.{typed_contexts}
use Rattle.lmn_adequacy.specs.Accepted.{UsedIn, all_contexts, closed_names}
use Rattle.lmn_weight.specs.Weights.{Weighing, level_weight}

-- A condition makes a context stand for an integer: it gives it the type `int`, computes with it, or binds it. With a
-- context of the head on its left `=` compares two parts, and computes with none.
pub data MakesInt (heads : List Name) (p : Name) : Condition → Type 0 where
  has_type : MakesInt heads p (is_kind int p)
  on_left : {c : Cmp} {e f : Expression} → UsedIn p e → MakesInt heads p (compares c e f)
  on_right : {c : Cmp} {e f : Expression} → UsedIn p f → MakesInt heads p (compares c e f)
  in_value : {q : Name} {e : Expression} → ¬ (Among q heads) → UsedIn p e → MakesInt heads p (equates q e)
  is_bound : {e : Expression} → ¬ (Among p heads) → MakesInt heads p (equates p e)

-- a context of a rule stands for an integer, by the guard
abbrev pub StandsForInt : Rule → Name → Type 0
StandsForInt r p = (c : Condition) × Among c (guard_of r) × MakesInt (typed_contexts (head_of r)) p c

-- the contexts that don't stand for integers
abbrev pub other_contexts : (Name → Bool) → List Name → List Name
other_contexts is_int [] = []
other_contexts is_int (p ∷ ps) = if is_int p then other_contexts is_int ps else p ∷ other_contexts is_int ps

-- A rule is lowered.
--   is_int, exactly   which contexts stand for integers
--   lighter           its body weighs less than its head
--   once              no other typed context stands twice in the body
--   once_closed       no closed context stands twice in the body
pub record Lowered (w : Weighing) (r : Rule) : Type 0 where
  pub is_int : Name → Bool
  pub exactly : (p : Name) → IsTrue (is_int p) ↔ StandsForInt r p
  pub lighter : level_weight w is_int (body_of r) < level_weight w is_int (head_of r)
  pub once : EachOnce (other_contexts is_int (typed_contexts (body_of r)))
  pub once_closed : EachOnce (closed_names (all_contexts (body_of r)))
