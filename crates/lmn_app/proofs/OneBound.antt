-- Weights bound a program in one way, or are refused beside it in one way.
use Rattle.std.proofs.Common.{ℕ, zero, suc, ◌≡◌, ◌<◌, ◌≤◌, ◌&&◌, ◌⊎◌, inl, inr, Bool, true, false, List, [], ◌∷◌, Option, Some, None, length, slice_get, refl, sym, ap, subst, ◌∙◌, arith}
use Rattle.std.specs.Prelude.{IsTrue, nat_lt}
use Rattle.std.specs.List.{list_all, AllZip}
use Rattle.std.proofs.lemmas.Bool.{cases_lt}
use Rattle.std.proofs.lemmas.Option.{same_Some}
use Rattle.lmn_app_accepted.specs.Rules.{AcceptedTexts}
use Rattle.lmn_base.proofs.Lists.{get_below}
use Rattle.lmn_base.specs.declared.refusal.Refusal.{Refusal}
use Rattle.lmn_base.specs.declared.rule.Plain.{Plain}
use Rattle.lmn_base.specs.declared.rule.RuleTree.{RuleTree}
use Rattle.lmn_base.specs.Names.{IsNames}
use Rattle.lmn_base.specs.Levels.{contexts_of}
use Rattle.lmn_weight.proofs.Bounded.{pair_there}
use Rattle.lmn_weight.specs.Bounding.{WeightsBound}
use Rattle.lmn_congruence.specs.Rules.{Name}
use Rattle.lmn_instr_reading.specs.Reading.{AddsNames}
use Rattle.lmn_guards.specs.declared.plan.GuardPlan.{GuardPlan}
use Rattle.lmn_flatten_plain.specs.SamePlains.{SameRule}
use Rattle.lmn_app_reading.specs.Laws.{AreOne}
use Rattle.lmn_app_reading.proofs.OneRead.{one_acceptance}
use Rattle.lmn_weight.specs.declared.weights.Weights.{Weights}
use Rattle.lmn_weight.specs.Lines.{AreWeightsOf, IsFirstWrongWeightLine}
use Rattle.lmn_weight.specs.OneReading.{AlikeForPlains, OneTelling, OneWrongLine, StandsBehind, ToldNotWrong, ToldOrWrong, WeighPlainAlike}
use Rattle.lmn_weight.specs.Plains.{EachLowered, IsFirstNotLowered, closed_once, is_lowered, level_weight, stands_once}
use Rattle.lmn_app.specs.Bounds.{IsBound, IsWrongWeights, bad_weight, not_lowered}
use Rattle.lmn_app.specs.BoundLaws.{BoundNotRefused, BoundOrRefused, BoundWhereLowered, OneBound, OneWrongWeights}
use Rattle.lmn_app.specs.Seconds.{ReadsBoth}
use Rattle.lmn_app.proofs.BoundLemmas.{is_bound}
use Rattle.lmn_app_single.proofs.ListLemmas.{plain_named}
use Rattle.lmn_app.proofs.TextLemmas.{accepted_at, one_list}

-- ---- lowered rules

-- rules with one head and one body are lowered alike
same_lowered : (w : Weights) (r s : RuleTree) (plan : GuardPlan) → SameRule r s → is_lowered w r plan ≡ is_lowered w s plan
same_lowered w r s plan same =
    let head = same.head in
    let body = same.body in
    λ i. nat_lt (level_weight w plan.kinds plan.bound (body i)) (level_weight w plan.kinds plan.bound (head i))
    && (list_all (stands_once (body i)) plan.kinds && list_all (closed_once (body i)) (contexts_of (head i)))

-- each rule before a number is lowered, or a first one isn't
module _ (w : Weights) (p : Plain) (plans : List GuardPlan) where
  abbrev LoweredBefore : ℕ → Type 0
  LoweredBefore n = (k : ℕ) (r : RuleTree) (plan : GuardPlan) → k < n → slice_get p.rules k ≡ Some r → slice_get plans k ≡ Some plan → IsTrue (is_lowered w r plan)

  abbrev Before : ℕ → Type 0
  Before n = LoweredBefore n ⊎ ((refusal : Refusal) × IsFirstNotLowered w p plans refusal)

  one_more : (n : ℕ) → LoweredBefore n → ((r : RuleTree) (plan : GuardPlan) → slice_get p.rules n ≡ Some r → slice_get plans n ≡ Some plan → IsTrue (is_lowered w r plan)) → LoweredBefore (suc n)
  one_more n before here k r plan l e f = by (cases_lt k n)
    where
      by : (k < n) ⊎ (n ≤ k) → IsTrue (is_lowered w r plan)
      by (inl m) = before k r plan m e f
      by (inr m) =
          let same : k ≡ n = omega (arith, l, m) in
          here r plan (subst (λ j. slice_get p.rules j ≡ Some r) same e) (subst (λ j. slice_get plans j ≡ Some plan) same f)

  next_lowered : (n : ℕ) → LoweredBefore n → Before (suc n)
  next_lowered n before = by (slice_get p.rules n) refl (slice_get plans n) refl
    where
      at : (r : RuleTree) (plan : GuardPlan) → slice_get p.rules n ≡ Some r → slice_get plans n ≡ Some plan → (b : Bool) → is_lowered w r plan ≡ b → Before (suc n)
      at r plan e f true t = inl (one_more n before (λ s q g h. (let a = same_Some r s (sym e ∙ g) in let b = same_Some plan q (sym f ∙ h) in (λ i. is_lowered w (sym a i) (sym b i)) ∙ t)))
      at r plan e f false t = inr (
        record { code = 86; pos = r.pos },
        record { number = n; rule = r; plan = plan; is_rule = e; is_plan = f; not_lowered = t; before = λ k s g l. before k s g l; refused = refl },
      )

      by : (o : Option RuleTree) → slice_get p.rules n ≡ o → (q : Option GuardPlan) → slice_get plans n ≡ q → Before (suc n)
      by None e q f = inl (one_more n before (λ r plan g h. absurd (let z = sym e ∙ g in cc)))
      by (Some r) e None f = inl (one_more n before (λ s plan g h. absurd (let z = sym f ∙ h in cc)))
      by (Some r) e (Some plan) f = at r plan e f (is_lowered w r plan) refl

  lowered_before : (n : ℕ) → Before n
  lowered_before zero = inl (λ k r plan l e f. absurd (omega (arith, l)))
  lowered_before (suc n) = by (lowered_before n)
    where
      by : Before n → Before (suc n)
      by (inl before) = next_lowered n before
      by (inr found) = inr found

  -- each rule is lowered, or a first one isn't
  lowered_or_not : EachLowered w p plans ⊎ ((refusal : Refusal) × IsFirstNotLowered w p plans refusal)
  lowered_or_not = by (lowered_before (length p.rules))
    where
      by : Before (length p.rules) → EachLowered w p plans ⊎ ((refusal : Refusal) × IsFirstNotLowered w p plans refusal)
      by (inl before) = inl (λ k r plan e f. before k r plan (get_below p.rules k r e) e f)
      by (inr found) = inr found

-- ---- a program that is read beside weights twice

turned : {A B : Type 0} (R : A → B → Type 0) (xs : List A) (ys : List B) → AllZip R xs ys → AllZip (λ y x. R x y) ys xs
turned R [] [] h = tt
turned R [] (y ∷ ys) h = absurd h
turned R (x ∷ xs) [] h = absurd h
turned R (x ∷ xs) (y ∷ ys) h = (h.0, turned R xs ys h.1)

module _ (laws : AcceptedTexts) (telling : OneTelling) (alike : AlikeForPlains) (program weights : List ℕ) (a b : ReadsBoth program weights) where
  one_names : a.names ≡ b.names
  one_names = one_list program a.names b.names a.plain a.accepted.named b.accepted.named a.accepted.accepted.reads

  one : AreOne b.names a.plain b.plain a.plans b.plans
  one = one_acceptance program b.names a.plain b.plain a.plans b.plans (accepted_at program a.names b.names a.plain a.plans a.accepted.named b.accepted.named a.accepted.accepted) b.accepted.accepted

  first_behind : StandsBehind b.names a.later
  first_behind = record { most = length weights; adds = subst (λ ns. AddsNames (length weights) ns a.later) one_names a.adds; are_names = a.once }

  second_behind : StandsBehind b.names b.later
  second_behind = record { most = length weights; adds = b.adds; are_names = b.once }

  -- a rule of the second plain is the same in the first
  rule_there : (k : ℕ) (s : RuleTree) → slice_get b.plain.rules k ≡ Some s → (r : RuleTree) × (slice_get a.plain.rules k ≡ Some r) × SameRule r s
  rule_there k s e = let plain = one.plain in pair_there (λ y x. SameRule x y) b.plain.rules a.plain.rules k s (turned SameRule a.plain.rules b.plain.rules plain.rules) e

  plan_there : (k : ℕ) (plan : GuardPlan) → slice_get b.plans k ≡ Some plan → slice_get a.plans k ≡ Some plan
  plan_there k plan e = let plans = one.plans in ap (λ ps. slice_get ps k) plans ∙ e

  module _ (v w : Weights) (are : AreWeightsOf a.later weights v) (also : AreWeightsOf b.later weights w) where
    weigh : WeighPlainAlike b.plain v w
    weigh = alike b.names b.plain v w (plain_named laws program b.names b.plain b.plans b.accepted) (telling b.names a.later b.later first_behind second_behind weights v w are also)

    -- its top weighs the same
    top_weighs : level_weight v [] [] a.plain.top ≡ level_weight w [] [] b.plain.top
    top_weighs = let plain = one.plain in ap (level_weight v [] []) plain.top ∙ weigh.top

    -- and a rule of it is lowered by both, or by neither
    rule_lowered : (k : ℕ) (s : RuleTree) (plan : GuardPlan) → slice_get b.plain.rules k ≡ Some s → slice_get b.plans k ≡ Some plan
        → (r : RuleTree) × (slice_get a.plain.rules k ≡ Some r) × (slice_get a.plans k ≡ Some plan) × (is_lowered v r plan ≡ is_lowered w s plan) × (r.pos ≡ s.pos)
    rule_lowered k s plan e f =
        let there = rule_there k s e in
        let same = there.2 in
        (there.0, there.1, plan_there k plan f, same_lowered v there.0 s plan same ∙ weigh.rules k s plan e, same.pos)

    lowered_too : EachLowered v a.plain a.plans → EachLowered w b.plain b.plans
    lowered_too each k s plan e f = let r = rule_lowered k s plan e f in sym r.3 ∙ each k r.0 plan r.1 r.2

    -- no rule that isn't lowered stands where each is
    lowered_not_refused : (refusal : Refusal) → EachLowered v a.plain a.plans → IsFirstNotLowered w b.plain b.plans refusal → ⊥
    lowered_not_refused refusal each f = absurd (let z = sym (lowered_too each f.number f.rule f.plan f.is_rule f.is_plan) ∙ f.not_lowered in cc)

    -- nor before the first
    not_before : (refusal other : Refusal) (f : IsFirstNotLowered v a.plain a.plans refusal) (g : IsFirstNotLowered w b.plain b.plans other) → f.number ≤ g.number
    not_before refusal other f g = by (cases_lt g.number f.number)
      where
        by : (g.number < f.number) ⊎ (f.number ≤ g.number) → f.number ≤ g.number
        by (inr few) = few
        by (inl l) = absurd (
            let r = rule_lowered g.number g.rule g.plan g.is_rule g.is_plan in
            let z = sym (f.before g.number r.0 g.plan l r.1 r.2) ∙ r.3 ∙ g.not_lowered in
            cc
            )

    one_place : (refusal other : Refusal) (f : IsFirstNotLowered v a.plain a.plans refusal) (g : IsFirstNotLowered w b.plain b.plans other) → f.number ≡ g.number → refusal ≡ other
    one_place refusal other f g e =
        let r = rule_lowered g.number g.rule g.plan g.is_rule g.is_plan in
        let same : f.rule ≡ r.0 = same_Some f.rule r.0 (sym f.is_rule ∙ ap (slice_get a.plain.rules) e ∙ r.1) in
        let place : f.rule.pos ≡ g.rule.pos = ap (λ s. s.pos) same ∙ r.4 in
        f.refused ∙ ap (λ p. record { code = 86; pos = p }) place ∙ sym g.refused

-- ---- the laws

-- what they stand on
pub record Grounds : Type 0 where
  pub laws : AcceptedTexts
  pub bounds : WeightsBound
  pub telling : OneTelling
  pub right : ToldNotWrong
  pub line : OneWrongLine
  pub told : ToldOrWrong
  pub alike : AlikeForPlains

module _ (on : Grounds) where
  -- weights bound a program by one number at most
  pub one_bound : OneBound
  one_bound program weights n m f g = f.weighs ∙ top_weighs on.laws on.telling on.alike program weights f.of g.of f.by g.by f.are g.are ∙ sym g.weighs

  -- weights that bound it aren't refused beside it
  pub bound_not_refused : BoundNotRefused
  bound_not_refused program weights n refusal f (bad_weight of wrong) = on.right f.of.later of.later f.of.once of.once weights f.by refusal f.are wrong
  bound_not_refused program weights n refusal f (not_lowered of by are wrong) = lowered_not_refused on.laws on.telling on.alike program weights f.of of f.by by f.are are refusal f.lowered wrong

  -- they have one refusal at most
  pub one_wrong_weights : OneWrongWeights
  one_wrong_weights program weights refusal other (bad_weight a f) (bad_weight b g) = on.line a.later b.later a.once b.once weights refusal other f g
  one_wrong_weights program weights refusal other (bad_weight a f) (not_lowered b w are g) = absurd (on.right b.later a.later b.once a.once weights w refusal are f)
  one_wrong_weights program weights refusal other (not_lowered a v are f) (bad_weight b g) = absurd (on.right a.later b.later a.once b.once weights v other are g)
  one_wrong_weights program weights refusal other (not_lowered a v are f) (not_lowered b w also g) =
      let few = not_before on.laws on.telling on.alike program weights a b v w are also refusal other f g in
      let many = not_before on.laws on.telling on.alike program weights b a w v also are other refusal g f in
      one_place on.laws on.telling on.alike program weights a b v w are also refusal other f g (omega (arith, few, many))

  -- an accepted program is bounded by weights, or they are refused beside it
  pub bound_or_refused : BoundOrRefused
  bound_or_refused program weights (names, plain, plans, a, fits) = by (on.told names is weights)
    where
      is : IsNames names
      is = (plain_named on.laws program names plain plans a).0

      lowered : (later : List Name) → AddsNames (length weights) names later → IsNames later → (w : Weights) → AreWeightsOf later weights w → EachLowered w plain plans ⊎ ((refusal : Refusal) × IsFirstNotLowered w plain plans refusal)
          → ((n : ℕ) × IsBound program weights n) ⊎ ((refusal : Refusal) × IsWrongWeights program weights refusal)
      lowered later adds once w are (inl each) = inl (level_weight w [] [] plain.top, is_bound on.laws on.bounds program weights names plain plans a later adds once w are each (level_weight w [] [] plain.top) refl)
      lowered later adds once w are (inr (refusal, first)) = inr (refusal, not_lowered (record { names = names; plain = plain; plans = plans; accepted = a; later = later; adds = adds; once = once }) w are first)

      by : (later : List Name) × AddsNames (length weights) names later × IsNames later × (((w : Weights) × AreWeightsOf later weights w) ⊎ ((refusal : Refusal) × IsFirstWrongWeightLine later weights refusal))
          → ((n : ℕ) × IsBound program weights n) ⊎ ((refusal : Refusal) × IsWrongWeights program weights refusal)
      by (later, adds, once, inl (w, are)) = lowered later adds once w are (lowered_or_not w plain plans)
      by (later, adds, once, inr (refusal, wrong)) = inr (refusal, bad_weight (record { names = names; plain = plain; plans = plans; accepted = a; later = later; adds = adds; once = once }) wrong)

  -- they bound it exactly where every rule of it is lowered
  pub bound_where_lowered : BoundWhereLowered
  bound_where_lowered program weights of w are = (
    λ f. (let g = f.1 in lowered_too on.laws on.telling on.alike program weights g.of of g.by w g.are are g.lowered),
    λ each. (level_weight w [] [] of.plain.top, is_bound on.laws on.bounds program weights of.names of.plain of.plans of.accepted of.later of.adds of.once w are each (level_weight w [] [] of.plain.top) refl),
  )
