-- What holds of the rules of an accepted text.
use Rattle.std.specs.Prelude.{ℕ, ◌≡◌, List, slice_get, Some}
use Rattle.std.specs.List.{AllByRecursion}
use Rattle.lmn_base.specs.declared.rule.Plain.{Plain}
use Rattle.lmn_base.specs.declared.rule.RuleTree.{RuleTree}
use Rattle.lmn_base.specs.Levels.{leaves_of}
use Rattle.lmn_base.specs.Names.{IsNames, NamesPlain}
use Rattle.lmn_base.specs.WellMade.{IsWellMade}
use Rattle.lmn_congruence.specs.Rules.{Name}
use Rattle.lmn_guards.specs.declared.plan.GuardPlan.{GuardPlan}
use Rattle.lmn_compile_head.specs.Heads.{kind_in}
use Rattle.lmn_compile_head.specs.Tables.{HasFewLinks}
use Rattle.lmn_compile_body.specs.Accepted.{IsCompilable}
use Rattle.lmn_adequacy_heaps.specs.HeapRegions.{HeapReading}
use Rattle.lmn_adequacy_heaps.specs.Premises.{IsRule, HasTypes}
use Rattle.lmn_app_reading.specs.Texts.{IsAcceptedAs, LeavesNames}

-- Rule number k of a plain, and its plan.
pub record HasRule (plain : Plain) (plans : List GuardPlan) (k : ℕ) (r : RuleTree) (plan : GuardPlan) : Type 0 where
  pub rule : slice_get plain.rules k ≡ Some r
  pub plan_is : slice_get plans k ≡ Some plan

-- Of an accepted text:
--   made   its plain is well made
--   few    no atom of its top has too many links
--   whole  each rule is accepted and well made, with its plan, and no atom of it has too many links
--   types  each typed context of a head has the kind that its plan gives it
--   named  its plain has only names of the list that reading leaves
--   tree   each rule, as a tree of the calculus by that list, is one that a text may have
--   tree_by_names  the same by any list that holds the names of the plain
pub record AcceptedTexts : Type 0 where
  pub made : (text : List ℕ) (names : List Name) (plain : Plain) (plans : List GuardPlan) → IsAcceptedAs text names plain plans → IsWellMade plain
  pub few : (text : List ℕ) (names : List Name) (plain : Plain) (plans : List GuardPlan) → IsAcceptedAs text names plain plans → AllByRecursion HasFewLinks (leaves_of plain.top)
  pub whole : (text : List ℕ) (names : List Name) (plain : Plain) (plans : List GuardPlan) → IsAcceptedAs text names plain plans →
      (k : ℕ) (r : RuleTree) (plan : GuardPlan) → HasRule plain plans k r plan → IsCompilable plain.rules r plan
  pub types : (text : List ℕ) (names : List Name) (plain : Plain) (plans : List GuardPlan) → IsAcceptedAs text names plain plans →
      (k : ℕ) (r : RuleTree) (plan : GuardPlan) → HasRule plain plans k r plan → HasTypes (kind_in plan.kinds) r
  pub named : (text : List ℕ) (before names : List Name) (plain : Plain) (plans : List GuardPlan) → IsNames before → LeavesNames text before names →
      IsAcceptedAs text names plain plans → NamesPlain names plain
  pub tree : (text : List ℕ) (before names : List Name) (plain : Plain) (plans : List GuardPlan) → IsNames before → LeavesNames text before names →
      IsAcceptedAs text names plain plans → (reading : HeapReading) → reading.names ≡ names →
      (k : ℕ) (r : RuleTree) → slice_get plain.rules k ≡ Some r → IsRule reading r
  pub tree_by_names : (text : List ℕ) (names : List Name) (plain : Plain) (plans : List GuardPlan) → IsAcceptedAs text names plain plans →
      NamesPlain names plain → (reading : HeapReading) → reading.names ≡ names →
      (k : ℕ) (r : RuleTree) → slice_get plain.rules k ≡ Some r → IsRule reading r
