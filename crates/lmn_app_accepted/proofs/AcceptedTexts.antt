-- What holds of the rules of an accepted text.
use Rattle.std.proofs.Common.{ℕ, zero, suc, ◌≡◌, ◌<◌, List, [], ◌∷◌, length, map, Some, All, sym, subst}
use Rattle.std.specs.Prelude.{slice_get}
use Rattle.std.specs.List.{flat_map, AllByRecursion, AllZip}
use Rattle.std.proofs.lemmas.List.Elements.{All-weaker}
use Rattle.std.proofs.lemmas.Option.{same_Some}
use Rattle.lmn_base.specs.declared.rule.Plain.{Plain}
use Rattle.lmn_base.specs.declared.rule.RuleTree.{RuleTree}
use Rattle.lmn_base.specs.Levels.{leaves_of, rules_of}
use Rattle.lmn_base.specs.Names.{IsNames, NamesPlain, level_names, rule_names}
use Rattle.lmn_base.specs.WellMade.{IsWellMade}
use Rattle.lmn_adequacy_heaps.specs.HeapRegions.{HeapReading}
use Rattle.lmn_adequacy_heaps.specs.Premises.{IsRule, HasTypes}
use Rattle.lmn_compile_body.specs.Accepted.{IsCompilable}
use Rattle.lmn_compile_head.specs.Heads.{kind_in}
use Rattle.lmn_compile_head.specs.Tables.{HasFewLinks}
use Rattle.lmn_congruence.specs.Rules.{Name}
use Rattle.lmn_guards.proofs.AcceptedLemmas.{in_order}
use Rattle.lmn_guards.specs.Accepted.{IsAcceptedRule}
use Rattle.lmn_guards.specs.declared.plan.GuardPlan.{GuardPlan}
use Rattle.lmn_guards.specs.Plans.{IsPlan}
use Rattle.lmn_lexer.specs.Laying.{words_of}
use Rattle.lmn_linkcheck.proofs.Tables.{rule_at}
use Rattle.lmn_parser.proofs.Fitting.{trees_fit}
use Rattle.lmn_app_reading.proofs.NamedPlains.{plains_are_named}
use Rattle.lmn_app_reading.proofs.Readings.{well_made}
use Rattle.lmn_app_reading.specs.Texts.{IsAcceptedAs, LeavesNames}
use Rattle.lmn_app_accepted.proofs.AcceptedRules.{accepted_tree}
use Rattle.lmn_app_accepted.proofs.FewLinks.{RuleHasFew, few_links, top_few}
use Rattle.lmn_app_accepted.proofs.PlanKinds.{at_index, plan_types}
use Rattle.lmn_app_accepted.specs.Rules.{HasRule, AcceptedTexts}
use Rattle.lmn_base.proofs.Lists.{all_of_left, all_of_right}

-- the plan at a place is that of the rule there
pub each_at : (rs : List RuleTree) (plans : List GuardPlan) (k : ℕ) (r : RuleTree) (plan : GuardPlan) → AllZip IsPlan rs plans → slice_get rs k ≡ Some r → slice_get plans k ≡ Some plan → IsPlan r plan
each_at [] [] zero r plan h e f = absurd (cc)
each_at [] [] (suc k) r plan h e f = absurd (cc)
each_at [] (q ∷ qs) k r plan h e f = absurd h
each_at (s ∷ rs) [] k r plan h e f = absurd h
each_at (s ∷ rs) (q ∷ qs) zero r plan h e f =
    let P : RuleTree → Type 0 = λ s. IsPlan s plan in
    let Q : GuardPlan → Type 0 = IsPlan s in
    subst P (same_Some s r e) (subst Q (same_Some q plan f) h.0)
each_at (s ∷ rs) (q ∷ qs) (suc k) r plan h e f = each_at rs qs k r plan h.1 e f

part_at : (P : ℕ → Type 0) (f : RuleTree → List ℕ) (rs : List RuleTree) (k : ℕ) (r : RuleTree) → All P (flat_map f rs) → slice_get rs k ≡ Some r → All P (f r)
part_at P f [] zero r h e = absurd (cc)
part_at P f [] (suc k) r h e = absurd (cc)
part_at P f (s ∷ rs) zero r h e = subst (λ s. All P (f s)) (same_Some s r e) (all_of_left P (f s) (flat_map f rs) h)
part_at P f (s ∷ rs) (suc k) r h e = part_at P f rs k r (all_of_right P (f s) (flat_map f rs) h) e

module _ (text : List ℕ) (names : List Name) (plain : Plain) (plans : List GuardPlan) (a : IsAcceptedAs text names plain plans) where
  made : IsWellMade plain
  made = well_made text names plain a.reads a.outside

  accepted_at : (k : ℕ) (r : RuleTree) → slice_get plain.rules k ≡ Some r → IsAcceptedRule plain.rules r
  accepted_at k r e = at_index (IsAcceptedRule plain.rules) plain.rules k r a.rules e

  whole : (k : ℕ) (r : RuleTree) (plan : GuardPlan) → HasRule plain plans k r plan → IsCompilable plain.rules r plan
  whole k r plan h =
      let reads = a.reads in
      let words = words_of text reads.tokens in
      let places = map (λ t. t.pos) reads.tokens in
      let fits = trees_fit reads.tokens reads.tree reads.reads.is_tree reads.within in
      let few = at_index (RuleHasFew words places names) plain.rules k r (few_links words places names reads.tree plain reads.is_plain fits) h.rule in
      record {
        ready = record {
          accepted = accepted_at k r h.rule;
          made = rule_at plain made k r h.rule;
          few_links = few.head;
          planned = each_at plain.rules plans k r plan a.planned h.rule h.plan_is;
        };
        few_links = few.body;
      }

  few : AllByRecursion HasFewLinks (leaves_of plain.top)
  few =
      let reads = a.reads in
      top_few (words_of text reads.tokens) (map (λ t. t.pos) reads.tokens) names reads.tree plain reads.is_plain (trees_fit reads.tokens reads.tree reads.reads.is_tree reads.within)

  types : (k : ℕ) (r : RuleTree) (plan : GuardPlan) → HasRule plain plans k r plan → HasTypes (kind_in plan.kinds) r
  types k r plan h =
      let order = in_order plain.rules r (accepted_at k r h.rule) in
      plan_types r plan (each_at plain.rules plans k r plan a.planned h.rule h.plan_is) order.has_type

  is_rule : NamesPlain names plain → (reading : HeapReading) → reading.names ≡ names → (k : ℕ) (r : RuleTree) → slice_get plain.rules k ≡ Some r → IsRule reading r
  is_rule named reading same k r e =
      let P : List Name → Type 0 = λ names. NamesPlain names plain in
      let here = subst P (sym same) named in
      let known = part_at (λ n. n < length reading.names) rule_names plain.rules k r (all_of_right (λ n. n < length reading.names) (level_names plain.top) (flat_map rule_names plain.rules) here.1) e in
      let numbers = All-weaker (λ j. (k < j) × (j < length plain.rules)) (λ j. j < length plain.rules) (λ j h. h.1) (rules_of r.head)
      (all_of_left (λ j. (k < j) × (j < length plain.rules)) (rules_of r.head) (rules_of r.body) (made.rules_in_rules k r e)) in
      record {
        well_made = rule_at plain made k r e;
        known = known;
        accepted = accepted_tree reading.names reading.rule here.0 plain.rules r (accepted_at k r e) (rule_at plain made k r e) numbers known;
      }

named : (text : List ℕ) (before names : List Name) (plain : Plain) (plans : List GuardPlan) → IsNames before → LeavesNames text before names
    → IsAcceptedAs text names plain plans → NamesPlain names plain
named text before names plain plans is left a = plains_are_named text before names plain is left a.reads

-- what is known of each accepted text
pub accepted_texts : AcceptedTexts
accepted_texts = record {
  made = made;
  few = few;
  whole = whole;
  types = types;
  named = named;
  tree = λ text before names plain plans is left a. is_rule text names plain plans a (named text before names plain plans is left a);
  tree_by_names = is_rule;
}
