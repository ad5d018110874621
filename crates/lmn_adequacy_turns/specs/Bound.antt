-- The names that a guard binds, and the registers that hold their values.
use Rattle.std.specs.Prelude.{ℕ, ℤ, ◌≡◌, List, [], ◌∷◌, Option, Some, None}
use Rattle.lmn_base.specs.declared.guard.Cond.{Cond}
use Rattle.lmn_base.specs.declared.guard.Cond.TheVariants.{Kind, Compare, Equal, Differ}
use Rattle.lmn_base.specs.declared.rule.RuleTree.{RuleTree}
use Rattle.lmn_store_heap.specs.Heap.{Heap}
use Rattle.lmn_guards.specs.declared.plan.GuardPlan.{GuardPlan}
use Rattle.lmn_guards.specs.Values.{value}
use Rattle.lmn_solid_heads.specs.Embeddings.{meaning}
use Rattle.lmn_solid_heads.specs.Guards.{Meaning, bind, integer_named}
use Rattle.lmn_instr_code.specs.Running.{HeadRegisters, Succeeds}
use Rattle.lmn_compile_head.specs.Accepted.{head_items, rule_head_code, IsReady}
use Rattle.lmn_compile_body.specs.Accepted.{rule_body_names}
use Rattle.lmn_base.specs.Graphs.{Port}

-- `$x = E` binds $x, where it is no context of the head, to the value of E
abbrev pub bound_by : Option Port → Meaning → ℕ → Option ℤ → Meaning
bound_by (Some p) s x z = s
bound_by None s x None = s
bound_by None s x (Some z) = bind s x z

-- what names stand for when a guard has bound its own, from left to right
abbrev pub bound_all : Heap → Meaning → List Cond → Meaning
bound_all h s [] = s
bound_all h s (Kind n args pos ∷ cs) = bound_all h s cs
bound_all h s (Compare op left right pos ∷ cs) = bound_all h s cs
bound_all h s (Equal left right pos ∷ cs) = bound_all h (bound_by (s.part_of left.name) s left.name (value (integer_named h s) right)) cs
bound_all h s (Differ left right pos ∷ cs) = bound_all h s cs

-- Where the head code of an accepted rule succeeds, each name that its guard binds has its value, over the embedding, in
-- the register that the body reads.
abbrev pub BoundNames : Type 0
BoundNames = (table : List RuleTree) (r : RuleTree) (plan : GuardPlan) → IsReady table r plan → (h : Heap) (m : ℕ) (s : HeadRegisters) → Succeeds h (rule_head_code r plan) m s →
    (x : ℕ) (z : ℤ) → (bound_all h (meaning (head_items r plan) s.images) r.guard).bound_to x ≡ Some z → s.integer ((rule_body_names r plan).integer x) ≡ z
