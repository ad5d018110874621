-- The plain of an accepted text can be loaded, and the list that reading leaves has its names.
use Rattle.std.proofs.Common.{ℕ, List, [], ◌∷◌, ◌≡◌, arith, length, refl}
use Rattle.std.specs.List.{AllZip}
use Rattle.lmn_base.specs.declared.rule.Plain.{Plain}
use Rattle.lmn_base.specs.declared.rule.RuleTree.{RuleTree}
use Rattle.lmn_base.specs.Names.{first_names}
use Rattle.lmn_compile_rules.specs.Compiled.{AreWhole}
use Rattle.lmn_congruence.specs.Rules.{Name}
use Rattle.lmn_guards.specs.Plans.{IsPlan}
use Rattle.lmn_guards.specs.declared.plan.GuardPlan.{GuardPlan}
use Rattle.lmn_linkcheck.proofs.LinkedLemmas.{no_fault_is_linked}
use Rattle.lmn_app_reading.specs.Texts.{IsAcceptedAs, LeavesNames}
use Rattle.lmn_schedule.specs.Held.{AreNames, CanBeLoaded, reading_by}
use Rattle.lmn_app_accepted.specs.Rules.{AcceptedTexts}
use Rattle.lmn_app_accepted.proofs.FirstNames.{first_are_names}

-- as many plans as rules, where each rule has its plan
pub as_many : (rs : List RuleTree) (plans : List GuardPlan) → AllZip IsPlan rs plans → length plans ≡ length rs
as_many [] [] h = refl
as_many [] (q ∷ qs) h = absurd h
as_many (r ∷ rs) [] h = absurd h
as_many (r ∷ rs) (q ∷ qs) h = omega (arith, as_many rs qs h.1)

module _ (accepted_texts : AcceptedTexts) (text : List ℕ) (names : List Name) (plain : Plain) (plans : List GuardPlan) (left : LeavesNames text first_names names) (r : IsAcceptedAs text names plain plans) where
  -- what a compiler asks of the rules
  pub rules_whole : AreWhole plain.rules plans
  rules_whole =
      record { many = as_many plain.rules plans r.planned; whole = λ k t plan e f. accepted_texts.whole text names plain plans r k t plan (record { rule = e; plan_is = f }) }

  -- what loading asks
  pub loadable : CanBeLoaded plain plans
  loadable =
      let made = accepted_texts.made text names plain plans r in
      let linked = (no_fault_is_linked plain made).0 r.links in
      record { made = made; closed = linked.process; plans_are = rules_whole }

  -- and what is asked of the names
  pub well_named : AreNames names plain
  well_named =
      let known = accepted_texts.named text first_names names plain plans first_are_names left r in
      record {
        begins = known.0;
        known = known;
        rules = λ number k rule e. accepted_texts.tree text first_names names plain plans first_are_names left r (reading_by names plain.rules number) refl k rule e;
      }
