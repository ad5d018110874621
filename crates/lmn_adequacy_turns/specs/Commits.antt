-- A turn on a heap is one commit of the calculus.
use Rattle.std.specs.Prelude.{ℕ, ◌≡◌, ◌⊎◌, ◌<◌, Some, List, [], length, slice_get, All}
use Rattle.lmn_base.specs.Levels.{rules_of}
use Rattle.lmn_base.specs.declared.rule.Plain.{Plain}
use Rattle.lmn_base.specs.declared.rule.RuleTree.{RuleTree}
use Rattle.lmn_base.specs.WellMade.{IsWellMade}
use Rattle.lmn_guards.specs.declared.plan.GuardPlan.{GuardPlan}
use Rattle.lmn_store_heap.specs.Heap.{Heap, IsMem, rules_in}
use Rattle.lmn_store_heap.specs.Sound.{Forest, bare, mem, IsTree}
use Rattle.lmn_instr_code.specs.Running.{IsFirstSuccess}
use Rattle.lmn_compile_head.specs.Accepted.{head_items, rule_head_code}
use Rattle.lmn_compile_body.specs.Accepted.{IsCompilable, rule_body_code}
use Rattle.lmn_solid_bodies.specs.Running.{Registers, RunsBody}
use Rattle.lmn_solid_bodies.specs.Within.{HoldsRests}
use Rattle.lmn_reduction.specs.Commits.{Commit}
use Rattle.lmn_adequacy.specs.Choice.{Before}
use Rattle.lmn_adequacy.specs.Embedding.{EmbedsIn}
use Rattle.lmn_adequacy_heaps.specs.HeapRegions.{HeapReading, region_at}
use Rattle.lmn_adequacy_heaps.specs.Laws.{heap_process}
use Rattle.lmn_adequacy_heaps.specs.Numbers.{numbers_left}
use Rattle.lmn_adequacy_heaps.specs.Premises.{IsRead, HasForest, HasRules, IsRule}
use Rattle.lmn_adequacy_turns.specs.Turning.{HasNext, renumbered_reading}

-- Each rule of a table is one that a text may have, and the rules that stand in its body are of the table.
pub record IsTable (r : HeapReading) (table : List RuleTree) : Type 0 where
  pub rules : (k : ℕ) (rule : RuleTree) → slice_get table k ≡ Some rule → IsRule r rule
  pub inner : (k : ℕ) (rule : RuleTree) → slice_get table k ≡ Some rule → All (λ j. j < length table) (rules_of rule.body)

-- The rules of a well made plain are such a table, where each is one that a text may have.
abbrev pub PlainsAreTables : Type 0
PlainsAreTables = (plain : Plain) (r : HeapReading) → IsWellMade plain → ((k : ℕ) (rule : RuleTree) → slice_get plain.rules k ≡ Some rule → IsRule r rule) → IsTable r plain.rules

-- The heap h' has the next solid of that of h, by this rule, number `index` of membrane m, at the positions ns.
--   least     they are the first at which the rule embeds there
--   commits   the process of h' comes from that of h by one commit
--   rules     the rules of h' are of the table, so that the next turn can be made
pub record Turned (table : List RuleTree) (h : Heap) (r : HeapReading) (inner : Forest) (rule : RuleTree) (m index : ℕ) (ns : List ℕ) (h' : Heap) : Type 0 where
  pub next : HasNext h r inner rule m index ns h'
  pub least : (ks : List ℕ) → EmbedsIn next.path index ks (region_at h r h.root inner) → (ns ≡ ks) ⊎ Before ns ks
  pub commits : Commit (heap_process h r inner) (heap_process h' (renumbered_reading r next.again.number) next.again.forest)
  pub rules : IsTable r table → HasRules h' (renumbered_reading r next.again.number) table

-- Where the head code of a rule of a membrane first succeeds, its body code, run with the same registers, which hold what is left
-- where closed contexts stand, makes a turn, at the numbers of the images.
abbrev pub TurnsCommit : Type 0
TurnsCommit = (table : List RuleTree) (rule : RuleTree) (plan : GuardPlan) → IsCompilable table rule plan →
    (h : Heap) (r : HeapReading) (inner : Forest) → IsRead h r → IsTree h (mem h.root inner bare) → HasRules h r table →
    (m : ℕ) (mi : Forest) → IsMem h m → HasForest h m mi →
    (index k : ℕ) → slice_get (rules_in h m) index ≡ Some k → slice_get table k ≡ Some rule →
    (s : Registers) → IsFirstSuccess h (rule_head_code rule plan) m s.head → HoldsRests h s (head_items rule plan) → (h' : Heap) → RunsBody s (rule_body_code rule plan) h h' →
    Turned table h r inner rule m index (numbers_left h s.head.images 0 1 [] [] (head_items rule plan)) h'
