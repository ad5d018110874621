-- What bounds a program by weights.
use Rattle.std.proofs.Common.{◌≡◌, ◌≤◌, ℕ, List, [], Option, Ok, Err, length, refl, sym, ap, subst, inl, inr, arith}
use Rattle.lmn_app_accepted.specs.Rules.{AcceptedTexts}
use Rattle.lmn_app_accepted.proofs.PlanKinds.{at_index}
use Rattle.lmn_base.specs.declared.refusal.Refusal.{Refusal}
use Rattle.lmn_base.specs.declared.rule.Plain.{Plain}
use Rattle.lmn_base.specs.Names.{IsNames}
use Rattle.lmn_weight.specs.Bounding.{IsAcceptedPlain, RulesAreSmall, TopsAreSmall, WeightsBound}
use Rattle.lmn_congruence.specs.Rules.{Name}
use Rattle.lmn_instr_reading.specs.Reading.{AddsNames}
use Rattle.lmn_guards.specs.Accepted.{IsAcceptedRule}
use Rattle.lmn_guards.specs.declared.plan.GuardPlan.{GuardPlan}
use Rattle.lmn_io.specs.Counts.{Faults}
use Rattle.lmn_io.specs.Writing.{WritesText}
use Rattle.lmn_io.proofs.TakingLemmas.{no_put}
use Rattle.lmn_weight.specs.declared.weights.Weights.{Weights}
use Rattle.lmn_weight.specs.Lines.{AreWeightsOf, IsFirstWrongWeightLine}
use Rattle.lmn_weight.specs.Plains.{EachLowered, IsFirstNotLowered, IsOfSize, level_weight}
use Rattle.lmn_app_words.specs.declared.command.PairKind.TheVariants.{Bound}
use Rattle.lmn_app_single.specs.declared.ending.Ending.TheVariants.{Done, WriteFault, SecondRefused}
use Rattle.lmn_app.specs.Bounds.{IsBound, bad_weight, bound_line, not_lowered}
use Rattle.lmn_app.specs.Runnings.{EndsByLine}
use Rattle.lmn_app.specs.Seconds.{ReadsBoth}
use Rattle.lmn_app_single.specs.Texts.{Accepts}
use Rattle.lmn_app_single.proofs.ListLemmas.{plain_named}

-- ---- what is asked of the plain of an accepted program

-- its rules can be weighed, and its process bounded
pub accepted_plain : AcceptedTexts → (program : List ℕ) (names : List Name) (plain : Plain) (plans : List GuardPlan) → Accepts program names plain plans → IsAcceptedPlain names plain plans
accepted_plain laws program names plain plans a =
    let read = a.accepted in
    record { made = laws.made program names plain plans read; named = plain_named laws program names plain plans a; rules = read.rules; planned = read.planned }

-- and few items of its top weigh, and of its rules
pub few_weigh : TopsAreSmall → RulesAreSmall → (program : List ℕ) (names : List Name) (plain : Plain) (plans : List GuardPlan) → Accepts program names plain plans → IsOfSize plain
few_weigh tops small program names plain plans a =
    let read = a.accepted in
    let top = tops program names plain read.reads in
    let short = a.short in
    record { top = omega (arith, top, short); rules = λ k r e. small plain.rules r (at_index (IsAcceptedRule plain.rules) plain.rules k r read.rules e) }

-- ---- how a bound ends

module _ (laws : AcceptedTexts) (weights_bound : WeightsBound) (program weights : List ℕ) (names : List Name) (plain : Plain) (plans : List GuardPlan) (a : Accepts program names plain plans) (later : List Name)
    (adds : AddsNames (length weights) names later) (once : IsNames later) where
  abbrev both : ReadsBoth program weights
  both = record { names = names; plain = plain; plans = plans; accepted = a; later = later; adds = adds; once = once }

  -- what the top weighs is a bound
  pub is_bound : (by : Weights) → AreWeightsOf later weights by → EachLowered by plain plans → (n : ℕ) → n ≡ level_weight by [] [] plain.top → IsBound program weights n
  is_bound by are lowered n weighs = record {
    of = both;
    by = by;
    are = are;
    lowered = lowered;
    weighs = weighs;
    bounds = λ first last commits settles chain.
        subst (λ m. commits ≤ m) (sym weighs) (weights_bound names plain plans by (accepted_plain laws program names plain plans a) lowered first last commits settles chain);
  }

  module _ (old new : Option (List ℕ)) (before after : Faults) where
    -- its line was written
    pub written_ended : {A E : Type 0} (x : A) (n : ℕ) → IsBound program weights n → WritesText {A = A} {E = E} (bound_line n) (Ok x) old before new after → EndsByLine Bound program weights Done old new before after
    written_ended x n bound written = ((bound_line n, (n, bound, refl), written.took _ refl), written.same)

    -- or a part of it
    pub part_ended : {A E : Type 0} (e : E) (n : ℕ) → IsBound program weights n → WritesText {A = A} {E = E} (bound_line n) (Err e) old before new after → EndsByLine Bound program weights WriteFault old new before after
    part_ended e n bound written = ((bound_line n, (n, bound, refl), written.prefix _ refl), written.rose)

  -- a line is wrong
  pub bad_ended : (r : Refusal) (x : Option (List ℕ)) (count : Faults) → IsFirstWrongWeightLine later weights r → EndsByLine Bound program weights (SecondRefused Bound r) x x count count
  bad_ended r x count wrong = (refl, bad_weight both wrong, inr (inl (ap (λ (q : Refusal). q.code) wrong.refused)), refl, no_put count)

  -- a rule isn't lowered
  pub not_lowered_ended : (by : Weights) → AreWeightsOf later weights by → (r : Refusal) (x : Option (List ℕ)) (count : Faults) → IsFirstNotLowered by plain plans r
      → EndsByLine Bound program weights (SecondRefused Bound r) x x count count
  not_lowered_ended by are r x count wrong = (refl, not_lowered both by are wrong, inr (inr (ap (λ (q : Refusal). q.code) wrong.refused)), refl, no_put count)
