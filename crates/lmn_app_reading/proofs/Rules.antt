-- What is asked of the rules of a plain, rule by rule.
use Rattle.std.proofs.Common.{◌≡◌, ℕ, zero, suc, ◌+◌, ◌<◌, ◌≤◌, List, [], ◌∷◌, ◌++◌, length, take, slice_get, Some, Result, Ok, Err, MatchResult, refl, sym, subst, ◌∙◌, arith}
use Rattle.std.specs.List.{AllByRecursion, flat_map, AllZip}
use Rattle.std.proofs.lemmas.List.{take_all}
use Rattle.std.proofs.lemmas.List.Elements.{All-append}
use Rattle.std.proofs.lemmas.Option.{same_Some, slice_get_within}
use Rattle.lmn_base.specs.declared.refusal.Refusal.{Refusal}
use Rattle.lmn_base.specs.declared.refusal.TextFault.{TextFault}
use Rattle.lmn_base.specs.declared.refusal.TextFault.TheVariants.{Refused, NoMemory}
use Rattle.lmn_base.specs.declared.rule.RuleTree.{RuleTree}
use Rattle.lmn_base.specs.Firsts.{Row, RefusedBy, NoneApplies, AnswersBy}
use Rattle.lmn_base.specs.Refusals.{IfRefused}
use Rattle.lmn_base_walks.specs.RuleCodes.{rule_rows}
use Rattle.lmn_base.specs.WellMade.{IsLinkedRule}
use Rattle.lmn_base.proofs.RowLemmas.{no_rows, none_before, none_behind, refused_later, refused_now, Nowhere}
use Rattle.lmn_guards.specs.Accepted.{IsAcceptedRule}
use Rattle.lmn_guards.specs.GuardCodes.{guard_rows}
use Rattle.lmn_guards.specs.Plans.{IsPlan}
use Rattle.lmn_guards.specs.declared.plan.GuardPlan.{GuardPlan}
use Rattle.lmn_app_reading.specs.Texts.{rows_of_rule}
use Rattle.lmn_base.proofs.Lists.{get_there as some_at}

-- rules of which nothing that is asked applies are accepted, where they are linked
pub rules_accepted : (table rules : List RuleTree) → ((k : ℕ) (r : RuleTree) → slice_get rules k ≡ Some r → IsLinkedRule r)
    → NoneApplies (flat_map (rows_of_rule table) rules) → AllByRecursion (IsAcceptedRule table) rules
rules_accepted table [] linked none = tt
rules_accepted table (r ∷ rs) linked none =
    let rest = flat_map (rows_of_rule table) rs in
    let here = none_before (rows_of_rule table r) rest none in (
      record { linked = linked 0 r refl; contexts = none_before (rule_rows table r) (guard_rows r) here; guard = none_behind (rule_rows table r) (guard_rows r) here },
      rules_accepted table rs (λ k. linked (suc k)) (none_behind (rows_of_rule table r) rest none),
    )

-- ---- one rule

module _ (table : List RuleTree) (number : ℕ) (seen : RuleTree) (x : Result (Unit {0}) Refusal) where
  pub rule_refused : (refusal : Refusal) → x ≡ Err refusal → (rule : RuleTree) → AnswersBy (rule_rows table rule) x → RefusedBy (rows_of_rule table rule) refusal
  rule_refused refusal e rule h =
      let P : Result (Unit {0}) Refusal → Type 0 = AnswersBy (rule_rows table rule) in
      refused_now (rule_rows table rule) (guard_rows rule) refusal (subst P e h)

  pub plan_found : (u : Unit {0}) (y : Result GuardPlan TextFault) → x ≡ Ok u → slice_get table number ≡ Some seen → AnswersBy (rule_rows table seen) x
      → MatchResult y (λ plan. NoneApplies (guard_rows seen) × IsPlan seen plan) (λ fault. IfRefused fault (RefusedBy (guard_rows seen)))
      → MatchResult y (λ plan. (rule : RuleTree) → slice_get table number ≡ Some rule → NoneApplies (rows_of_rule table rule) × IsPlan rule plan)
      (λ fault. IfRefused fault (λ refusal. (rule : RuleTree) → slice_get table number ≡ Some rule → RefusedBy (rows_of_rule table rule) refusal))
  plan_found u (Ok plan) e at a h = λ rule there.
      let P : Result (Unit {0}) Refusal → Type 0 = AnswersBy (rule_rows table seen) in
      let Q : RuleTree → Type 0 = λ r. NoneApplies (rows_of_rule table r) × IsPlan r plan in
      subst Q (same_Some seen rule (sym at ∙ there)) (All-append Nowhere (rule_rows table seen) (guard_rows seen) (subst P e a) h.0, h.1)
  plan_found u (Err (Refused refusal)) e at a h = λ rule there.
      let P : Result (Unit {0}) Refusal → Type 0 = AnswersBy (rule_rows table seen) in
      let Q : RuleTree → Type 0 = λ r. RefusedBy (rows_of_rule table r) refusal in
      subst Q (same_Some seen rule (sym at ∙ there)) (refused_later (rule_rows table seen) (guard_rows seen) refusal (subst P e a) h)
  plan_found u (Err NoMemory) e at a h = tt

-- ---- all rules

-- nothing that is asked of these rules applies, and these are their plans
pub record SoFar (table done : List RuleTree) (plans : List GuardPlan) : Type 0 where
  pub none : NoneApplies (flat_map (rows_of_rule table) done)
  pub planned : AllZip IsPlan done plans

module _ (table : List RuleTree) where
  abbrev rows : RuleTree → List Row
  rows = rows_of_rule table

  pub nothing_so_far : (plans : List GuardPlan) → plans ≡ [] → SoFar table [] plans
  nothing_so_far plans e = let P : List GuardPlan → Type 0 = AllZip IsPlan [] in record { none = no_rows; planned = subst P (sym e) tt }

  refused_in : (rules : List RuleTree) (i : ℕ) (refusal : Refusal) (rule : RuleTree) → NoneApplies (flat_map rows (take i rules)) → slice_get rules i ≡ Some rule
      → RefusedBy (rows rule) refusal → RefusedBy (flat_map rows rules) refusal
  refused_in [] i refusal rule none at h = absurd (let l = slice_get_within [] i rule at in omega arith)
  refused_in (r ∷ rs) zero refusal rule none at h =
      let P : RuleTree → Type 0 = λ x. RefusedBy (rows x) refusal in
      refused_now (rows r) (flat_map rows rs) refusal (subst P (sym (same_Some r rule at)) h)
  refused_in (r ∷ rs) (suc i) refusal rule none at h =
      refused_later (rows r) (flat_map rows rs) refusal (none_before (rows r) (flat_map rows (take i rs)) none)
      (refused_in rs i refusal rule (none_behind (rows r) (flat_map rows (take i rs)) none) at h)

  pub refused_at : (rules : List RuleTree) (plans : List GuardPlan) (i : ℕ) (fault : TextFault) → i < length rules → SoFar table (take i rules) plans
      → IfRefused fault (λ refusal. (rule : RuleTree) → slice_get rules i ≡ Some rule → RefusedBy (rows rule) refusal) → IfRefused fault (RefusedBy (flat_map rows rules))
  refused_at rules plans i (Refused refusal) l s h = let found = some_at rules i l in refused_in rules i refusal found.0 s.none found.1 (h found.0 found.1)
  refused_at rules plans i NoMemory l s h = tt

  none_more : (rules : List RuleTree) (i : ℕ) → i < length rules → NoneApplies (flat_map rows (take i rules))
      → ((rule : RuleTree) → slice_get rules i ≡ Some rule → NoneApplies (rows rule)) → NoneApplies (flat_map rows (take (suc i) rules))
  none_more [] i l none h = absurd (omega (arith, l))
  none_more (r ∷ rs) zero l none h = All-append Nowhere (rows r) [] (h r refl) no_rows
  none_more (r ∷ rs) (suc i) l none h =
      All-append Nowhere (rows r) (flat_map rows (take (suc i) rs)) (none_before (rows r) (flat_map rows (take i rs)) none)
      (none_more rs i (omega (arith, l)) (none_behind (rows r) (flat_map rows (take i rs)) none) h)

  each_more : (rules : List RuleTree) (i : ℕ) (plans : List GuardPlan) (plan : GuardPlan) → i < length rules → AllZip IsPlan (take i rules) plans
      → ((rule : RuleTree) → slice_get rules i ≡ Some rule → IsPlan rule plan) → AllZip IsPlan (take (suc i) rules) (plans ++ plan ∷ [])
  each_more [] i plans plan l e h = absurd (omega (arith, l))
  each_more (r ∷ rs) zero [] plan l e h = (h r refl, tt)
  each_more (r ∷ rs) zero (p ∷ ps) plan l e h = absurd e
  each_more (r ∷ rs) (suc i) [] plan l e h = absurd e
  each_more (r ∷ rs) (suc i) (p ∷ ps) plan l e h = (e.0, each_more rs i ps plan (omega (arith, l)) e.1 h)

  pub plans_more : (rules : List RuleTree) (i : ℕ) (plans more : List GuardPlan) (plan : GuardPlan) → i < length rules → SoFar table (take i rules) plans
      → ((rule : RuleTree) → slice_get rules i ≡ Some rule → NoneApplies (rows rule) × IsPlan rule plan) → more ≡ plans ++ plan ∷ [] → SoFar table (take (i + 1) rules) more
  plans_more rules i plans more plan l s h e =
      let P : List GuardPlan → Type 0 = AllZip IsPlan (take (suc i) rules) in
      let Q : ℕ → Type 0 = λ n. SoFar table (take n rules) more in
      let next : suc i ≡ i + 1 = omega arith in
      subst Q next (record {
        none = none_more rules i l s.none (λ rule at. let x = h rule at in x.0);
        planned = subst P (sym e) (each_more rules i plans plan l s.planned (λ rule at. let x = h rule at in x.1));
      })

  pub all_planned : (rules : List RuleTree) (i : ℕ) (plans : List GuardPlan) → length rules ≤ i → SoFar table (take i rules) plans
      → NoneApplies (flat_map rows rules) × AllZip IsPlan rules plans
  all_planned rules i plans l s =
      let P : List RuleTree → Type 0 = λ rs. NoneApplies (flat_map rows rs) × AllZip IsPlan rs plans in
      subst P (take_all i rules l) (s.none, s.planned)
