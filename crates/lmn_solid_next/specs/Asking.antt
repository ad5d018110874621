-- A rule that is asked in a membrane, and what is found of it.
use Rattle.std.specs.Prelude.{ℕ, ◌≡◌, List, Some, slice_get}
use Rattle.lmn_base.specs.declared.rule.Plain.{Plain}
use Rattle.lmn_base.specs.declared.rule.RuleTree.{RuleTree}
use Rattle.lmn_base.specs.declared.solid.Solid.{Solid}
use Rattle.lmn_guards.specs.declared.plan.GuardPlan.{GuardPlan}
use Rattle.lmn_store_heap.specs.Heap.{IsMem, rules_in}
use Rattle.lmn_solid_heads.specs.Embeddings.{Images, IsLeast}
use Rattle.lmn_compile_head.specs.Accepted.{head_items}
use Rattle.lmn_congruence.specs.Rules.{Name}
use Rattle.lmn_congruence.specs.Translation.{region_of}
use Rattle.lmn_adequacy.specs.Next.{NextAt}
use Rattle.lmn_adequacy_turns.specs.Turning.{Leads}
use Rattle.lmn_solid_tables.specs.declared.flat.Flat.{Flat}
use Rattle.lmn_solid_tables.specs.Flats.{IsFlatOf, heap_of}
use Rattle.lmn_solid_next.specs.Choosing.{numbers_of}
use Rattle.lmn_solid_next.specs.Searching.{CanSearch, IsSolidBy}

-- The tables of a solid, with its names and rules, are searched.
pub record IsSearched (names : List Name) (plain : Plain) (plans : List GuardPlan) (s : Solid) (flat : Flat) : Type 0 where
  pub can : CanSearch names plain plans
  pub by : IsSolidBy names plain s
  pub is_flat : IsFlatOf s flat

-- The rule at a place of membrane m is asked.
pub record IsAsked (names : List Name) (plain : Plain) (plans : List GuardPlan) (s : Solid) (flat : Flat) (m place : ℕ) (rule : RuleTree) (plan : GuardPlan) : Type 0 where
  pub searched : IsSearched names plain plans s flat
  pub there : IsMem (heap_of flat) m
  pub number : ℕ
  pub stands : slice_get (rules_in (heap_of flat) m) place ≡ Some number
  pub is : slice_get plain.rules number ≡ Some rule
  pub plan_is : slice_get plans number ≡ Some plan

-- It fires there, and the next solid is this one.
pub record Fires (names : List Name) (plain : Plain) (s : Solid) (flat : Flat) (m place : ℕ) (rule : RuleTree) (plan : GuardPlan) (next : Solid) : Type 0 where
  pub found : Images
  pub least : IsLeast (heap_of flat) (head_items rule plan) rule.guard m found
  pub path : List ℕ
  pub leads : Leads (heap_of flat) m path 0
  pub next_at : NextAt path place (numbers_of (heap_of flat) rule plan found) (region_of names plain.rules s) (region_of names plain.rules next)
  pub by : IsSolidBy names plain next
