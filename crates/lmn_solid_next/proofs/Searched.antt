-- What the law of a firing asks, of a solid with names and rules that can be searched.
use Rattle.std.proofs.Common.{ℕ, ◌≡◌, ◌<◌, List, ◌++◌, length, Some, All, sym, ap, subst, arith}
use Rattle.std.specs.Prelude.{slice_get}
use Rattle.std.specs.List.{flat_map}
use Rattle.std.specs.Option.{option_map}
use Rattle.std.proofs.lemmas.Option.{get_or_from_slice_get}
use Rattle.lmn_base.specs.declared.rule.Plain.{Plain}
use Rattle.lmn_base.specs.declared.rule.RuleTree.{RuleTree}
use Rattle.lmn_base.specs.declared.solid.Solid.{Solid}
use Rattle.lmn_base.specs.Levels.{rules_of}
use Rattle.lmn_base.specs.Names.{condition_names, level_names, rule_names}
use Rattle.lmn_base.proofs.Lists.{all_of_parts, all_of_right, get_below, get_there as get_some}
use Rattle.lmn_guards.specs.declared.plan.GuardPlan.{GuardPlan}
use Rattle.lmn_store_heap.specs.Heap.{Heap}
use Rattle.lmn_congruence.specs.Process.{Closed}
use Rattle.lmn_congruence.specs.Regions.{region_process}
use Rattle.lmn_congruence.specs.Rules.{Name}
use Rattle.lmn_congruence.proofs.NumberedRules.{rule_has_number}
use Rattle.lmn_congruence.proofs.TranslatedLinks.{solids_closed}
use Rattle.lmn_adequacy_heaps.specs.HeapRegions.{HeapReading}
use Rattle.lmn_adequacy_heaps.specs.Premises.{IsRead, IsRule}
use Rattle.lmn_adequacy_heaps.proofs.Results.{root_forest}
use Rattle.lmn_solid_tables.specs.Flats.{FlatsAreRead, IsFlatOf, heap_of, reading_of}
use Rattle.lmn_solid_tables.specs.declared.flat.Flat.{Flat}
use Rattle.lmn_solid_next.specs.Firing.{MayFire, SearchedRulesMayFire}
use Rattle.lmn_solid_next.specs.Searching.{CanSearch, IsSolidBy}
use Rattle.lmn_solid_next.specs.Settling.{FlatsHaveRules}

-- what holds of all elements holds of the one at a place
pub all_at : {A : Type 0} (P : A → Type 0) (xs : List A) (k : ℕ) (x : A) → slice_get xs k ≡ Some x → All P xs → P x
all_at P xs k x e h = subst P (get_or_from_slice_get xs k x x e) (h k x (get_below xs k x e))

module _ (reads : FlatsAreRead) (have_rules : FlatsHaveRules) (names : List Name) (plain : Plain) (plans : List GuardPlan) (can : CanSearch names plain plans) (s : Solid) (by : IsSolidBy names plain s) (flat : Flat) (w : IsFlatOf s flat) where
  abbrev h : Heap
  h = heap_of flat

  abbrev r : HeapReading
  r = reading_of names plain.rules flat

  -- a rule of the plain is one that a text may have
  pub allowed : (k : ℕ) (rule : RuleTree) → slice_get plain.rules k ≡ Some rule → IsRule r rule
  allowed k rule e = record {
    well_made = (let plan = get_some plans k (let l = get_below plain.rules k rule e in let m = can.whole.many in omega (arith, l, m)) in (can.whole.whole k rule plan.0 e plan.1).ready.made);
    known = all_at (λ q. All (λ n. n < length names) (rule_names q)) plain.rules k rule e (all_of_parts (λ n. n < length names) rule_names plain.rules by.named.1);
    accepted = can.allowed k rule e;
  }

  pub read : IsRead h r
  read = reads names plain.rules s flat w by.named

  pub may_fire : (k : ℕ) (rule : RuleTree) → slice_get plain.rules k ≡ Some rule → MayFire names plain flat w.inner k rule
  may_fire k rule e =
      let is_rule = allowed k rule e in
      let in_rules = can.made.rules_in_rules k rule e in
      let behind = all_of_right (λ j. (k < j) × (j < length plain.rules)) (rules_of rule.head) (rules_of rule.body) in_rules in
      let root = root_forest h w.inner w.tree in
      record {
        read = read;
        forms = root.forms;
        once = root.once;
        closed = subst (λ z. Closed (region_process z)) (sym (w.region names plain.rules)) (solids_closed names plain.rules s by.solid);
        is_rule = is_rule;
        numbered = rule_has_number names plain k rule can.made e;
        rules = (λ m j i. have_rules plain.rules s flat w by.each_rule m j i, λ i d l. (behind i d l).1);
        named = (
          λ a x q. read.known a x.functor (ap (option_map (λ y. y.functor)) q),
          all_of_right (λ n. n < length names) (level_names rule.head ++ flat_map condition_names rule.guard) (level_names rule.body) is_rule.known,
        );
      }

pub searched_rules_may_fire : FlatsAreRead → FlatsHaveRules → SearchedRulesMayFire
searched_rules_may_fire reads have_rules names plain plans can s by flat w k rule e = may_fire reads have_rules names plain plans can s by flat w k rule e
