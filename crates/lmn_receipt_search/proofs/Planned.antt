-- The plans of rules that were accepted.
use Rattle.std.proofs.Common.{ℕ, ◌≡◌, ◌<◌, List, [], ◌∷◌, ◌++◌, length, take, sym, ap, subst, ◌+◌, ◌∙◌, arith}
use Rattle.std.proofs.lemmas.List.{take_more}
use Rattle.std.proofs.Math.ListN.{get_or}
use Rattle.std.specs.List.{AllZip}
use Rattle.lmn_base.proofs.Lists.{get_below, get_there as get_some}
use Rattle.lmn_base.specs.declared.rule.Plain.{Plain}
use Rattle.lmn_base.specs.declared.rule.RuleTree.{RuleTree}
use Rattle.lmn_guards.specs.Plans.{IsPlan}
use Rattle.lmn_guards.specs.declared.plan.GuardPlan.{GuardPlan}
use Rattle.lmn_congruence.specs.Rules.{Name}
use Rattle.lmn_compile_body.specs.Accepted.{IsCompilable}
use Rattle.lmn_solid_next.specs.Searching.{CanSearch}
use Rattle.lmn_app_accepted.proofs.Loadable.{as_many}
use Rattle.lmn_app_accepted.proofs.AcceptedTexts.{each_at}

-- one rule with its plan more
planned_more : (rs : List RuleTree) (plans : List GuardPlan) (r : RuleTree) (plan : GuardPlan) → AllZip IsPlan rs plans → IsPlan r plan → AllZip IsPlan (rs ++ r ∷ []) (plans ++ plan ∷ [])
planned_more [] [] r plan h p = (p, tt)
planned_more [] (q ∷ qs) r plan h p = absurd h
planned_more (s ∷ rs) [] r plan h p = absurd h
planned_more (s ∷ rs) (q ∷ qs) r plan h p = (h.0, planned_more rs qs r plan h.1 p)

-- Rules that can be searched with their plans can be searched with plans that are made anew.
pub by_made_plans : (names : List Name) (plain : Plain) (plans made : List GuardPlan) → CanSearch names plain plans → AllZip IsPlan plain.rules made → CanSearch names plain made
by_made_plans names plain plans made can are = record {
  made = can.made;
  whole = record {
    many = as_many plain.rules made are;
    whole = λ k r q e f.
        let l = get_below plain.rules k r e in
        let many = can.whole.many in
        let old = get_some plans k (omega (arith, l, many)) in
        let is : IsCompilable plain.rules r old.0 = can.whole.whole k r old.0 e old.1 in
        record {
          ready = record { accepted = is.ready.accepted; made = is.ready.made; few_links = is.ready.few_links; planned = each_at plain.rules made k r q are e f };
          few_links = is.few_links;
        };
  };
  allowed = can.allowed;
}

-- the rule at a place more
pub planned_next : (rs : List RuleTree) (i : ℕ) (d r : RuleTree) (plans after : List GuardPlan) (plan : GuardPlan) → i < length rs → r ≡ get_or rs i d → AllZip IsPlan (take i rs) plans → IsPlan r plan → after ≡ plans ++ plan ∷ [] →
    AllZip IsPlan (take (i + 1) rs) after
planned_next rs i d r plans after plan l e are is more =
    let front : take (i + 1) rs ≡ take i rs ++ r ∷ [] = take_more rs i d l ∙ ap (λ z. take i rs ++ z ∷ []) (sym e) in
    subst (λ xs. AllZip IsPlan xs after) (sym front) (subst (λ ps. AllZip IsPlan (take i rs ++ r ∷ []) ps) (sym more) (planned_more (take i rs) plans r plan are is))

-- the same of slices
pub by_made_slice : (names : List Name) (plain : Plain) (plans : List GuardPlan) (rs : List RuleTree) (made slice : List GuardPlan) → rs ≡ plain.rules → slice ≡ made → CanSearch names plain plans → AllZip IsPlan rs made → CanSearch names plain slice
by_made_slice names plain plans rs made slice e d can are =
    subst (CanSearch names plain) (sym d) (by_made_plans names plain plans made can (subst (λ xs. AllZip IsPlan xs made) e are))
