-- The tables of a solid, searched by a list of names, and what a rule that is asked meets.
use Rattle.std.proofs.Common.{ℕ, ◌<◌, List, length, arith}
use Rattle.lmn_base.specs.declared.rule.Plain.{Plain}
use Rattle.lmn_base.specs.declared.rule.RuleTree.{RuleTree}
use Rattle.lmn_base.specs.declared.solid.Solid.{Solid}
use Rattle.lmn_base.proofs.Lists.{get_there as get_some}
use Rattle.lmn_guards.specs.declared.plan.GuardPlan.{GuardPlan}
use Rattle.lmn_store_heap.specs.Heap.{Heap, rules_in}
use Rattle.lmn_store_heap.proofs.Common.{in_at as got_in}
use Rattle.lmn_compile_head.specs.Accepted.{AcceptedHeads}
use Rattle.lmn_congruence.specs.Rules as tree
use Rattle.lmn_adequacy_heaps.specs.HeapRegions.{HeapReading}
use Rattle.lmn_adequacy_choices.specs.Turns.{IsReadWith}
use Rattle.lmn_solid_tables.specs.declared.flat.Flat.{Flat}
use Rattle.lmn_solid_tables.specs.Flats.{FlatsAreRead, heap_of, reading_of}
use Rattle.lmn_solid_next.specs.Firing.{SearchedRulesMayFire}
use Rattle.lmn_solid_next.specs.Settling.{FlatsHaveRules}
use Rattle.lmn_solid_next.specs.Asking.{IsAsked, IsSearched}
use Rattle.lmn_receipt_search.specs.Turns.{AskedRules, CanBeSearched}

-- ---- how the tables are read

module _ (names : List tree.Name) (plain : Plain) (plans : List GuardPlan) (s : Solid) (flat : Flat) (w : IsSearched names plain plans s flat) where
  abbrev h : Heap
  h = heap_of flat

  abbrev r : HeapReading
  r = reading_of names plain.rules flat

  -- each rule of the plain has a plan
  pub planned : (k : ℕ) → k < length plain.rules → k < length plans
  planned k l = let many = w.can.whole.many in omega (arith, l, many)

  -- the tables are read by these names and rules
  pub read_with : FlatsAreRead → FlatsHaveRules → SearchedRulesMayFire → IsReadWith h r w.is_flat.inner plain.rules
  read_with reads have_rules may_fire = record {
    read = reads names plain.rules s flat w.is_flat w.by.named;
    tree = w.is_flat.tree;
    rules = record {
      known = λ m k i. let g = get_some plain.rules k (have_rules plain.rules s flat w.is_flat w.by.each_rule m k i) in (g.0, g.1, (may_fire names plain plans w.can s w.by flat w.is_flat k g.0 g.1).is_rule);
      read = λ k rule e. (may_fire names plain plans w.can s w.by flat w.is_flat k rule e).numbered;
    };
  }

-- ---- what a rule that is asked meets

can_be_searched : AcceptedHeads → (names : List tree.Name) (plain : Plain) (plans : List GuardPlan) (s : Solid) (flat : Flat) (m place : ℕ) (rule : RuleTree) (plan : GuardPlan) → IsAsked names plain plans s flat m place rule plan → CanBeSearched flat m rule plan
can_be_searched heads names plain plans s flat m place rule plan a =
    let ready = (a.searched.can.whole.whole a.number rule plan a.is a.plan_is).ready in
    record {
      valid = a.searched.is_flat.valid;
      there = a.there;
      room = (heads.room plain.rules rule plan ready).membranes;
      head = heads.head plain.rules rule plan ready;
    }

pub asked_rules : AcceptedHeads → FlatsHaveRules → AskedRules
asked_rules heads have_rules = record {
  known = λ names plain plans s flat m place number w e.
      let l = have_rules plain.rules s flat w.is_flat w.by.each_rule m number (got_in (rules_in (heap_of flat) m) place number e) in
      (l, planned names plain plans s flat w number l);
  searched = can_be_searched heads;
}
