-- What holds of the examples.
use Rattle.std.proofs.Common.{ℕ, ◌≡◌, ◌≢◌, ◌<◌, List, [], length, All, Some, None, inl, refl, sym, ap, subst, ◌∙◌, arith}
use Rattle.std.specs.Prelude.{slice_get}
use Rattle.std.specs.List.{flat_map}
use Rattle.std.proofs.lemmas.List.Elements.{All-from_recursion, All-head}
use Rattle.lmn_base.specs.declared.rule.RuleTree.{RuleTree}
use Rattle.lmn_base.specs.declared.solid.Region.TheFolds.{fold-roll-Region}
use Rattle.lmn_base.specs.declared.solid.SolidAtom.{SolidAtom}
use Rattle.lmn_base.specs.Links.{EachTwice, NumbersLinks, no_more}
use Rattle.lmn_base.specs.Names.{label_names, rule_names}
use Rattle.lmn_base.specs.Solids.{atoms_of_region, atoms_step, connector, rules_step}
use Rattle.lmn_guards.specs.Values.{value_beside}
use Rattle.lmn_solid_next.specs.Examples.{IntegerOfNoName, NoIntegersAreTold, NoLinksAreNoMatch, NoRuleFires, NoRuleIsAsked, NoRulesCanBeSearched, NothingIsBy, NothingIsSearched, OneLinkIsOne, OtherRuleMayNotFire, PlanOfNoRule, RuleOfNoPlain, with_rules}

no_rule_there : (k : ℕ) (rules : List RuleTree) (rule : RuleTree) → rules ≡ [] → slice_get rules k ≡ Some rule → ⊥
no_rule_there k rules rule none e = let z : ◌≡◌ {A = List RuleTree} rules [] = none in absurd (let q : None ≡ Some rule = sym (ap (λ rs. slice_get rs k) z) ∙ e in cc)

pub no_rules_can_be_searched : NoRulesCanBeSearched
no_rules_can_be_searched names plain made none = record {
  made = made;
  whole = record { many = ap length (sym none); whole = λ k rule plan e q. absurd (no_rule_there k plain.rules rule none e) };
  allowed = λ k rule e. absurd (no_rule_there k plain.rules rule none e);
}

pub plan_of_no_rule : PlanOfNoRule
plan_of_no_rule names plain plan none can = let many = can.whole.many ∙ ap length none in omega (arith, many)

-- what stands in the solid
atoms_are : (rules : List ℕ) → atoms_of_region (with_rules rules).root ≡ []
atoms_are rules = fold-roll-Region (List SolidAtom) atoms_step _

pub nothing_is_by : NothingIsBy
nothing_is_by names plain is none = record {
  solid = record {
    arities = subst (All (λ a. length a.links ≡ a.functor.arity)) (sym (atoms_are [])) (All-from_recursion (λ (a : SolidAtom). length a.links ≡ a.functor.arity) [] tt);
    no_connector = subst (All (λ a. a.functor ≢ connector)) (sym (atoms_are [])) (All-from_recursion (λ (a : SolidAtom). a.functor ≢ connector) [] tt);
    closed = subst EachTwice (sym links_are) (λ x. inl refl);
    numbered = (0, subst (λ ls. NumbersLinks ls 0) (sym links_are) no_more);
  };
  each_rule = subst (All (λ k. k < length plain.rules)) (sym (fold-roll-Region (List ℕ) rules_step _)) (All-from_recursion (λ k. k < length plain.rules) [] tt);
  named = (
    is,
    subst (λ rs. All (λ n. n < length names) (flat_map rule_names rs)) (sym none) (All-from_recursion (λ n. n < length names) [] tt),
    subst (λ xs. All (λ n. n < length names) (flat_map (λ a. label_names a.functor.label) xs)) (sym (atoms_are [])) (All-from_recursion (λ n. n < length names) [] tt),
  );
}
  where
    links_are : flat_map (λ a. a.links) (atoms_of_region (with_rules []).root) ≡ []
    links_are = ap (flat_map (λ (a : SolidAtom). a.links)) (atoms_are [])

pub rule_of_no_plain : RuleOfNoPlain
rule_of_no_plain names plain k none by =
    let low = All-head (λ j. j < length plain.rules) k [] (subst (All (λ j. j < length plain.rules)) (fold-roll-Region (List ℕ) rules_step _) by.each_rule) in
    let many = ap length none in
    omega (arith, low, many)

pub no_rule_fires : NoRuleFires
no_rule_fires names plain s flat m place rule plan k none fires = rule_of_no_plain names plain k none fires.by

pub nothing_is_searched : NothingIsSearched
nothing_is_searched names plain flat made is none flat_of = record { can = no_rules_can_be_searched names plain made none; by = nothing_is_by names plain is none; is_flat = flat_of }

pub no_rule_is_asked : NoRuleIsAsked
no_rule_is_asked names plain plans s flat m place rule plan none a = no_rule_there a.number plain.rules rule none a.is

pub other_rule_may_not_fire : OtherRuleMayNotFire
other_rule_may_not_fire names plain flat inner j k m rule none i may = let low = may.rules.0 m k i in let many = ap length none in omega (arith, low, many)

pub no_integers_are_told : NoIntegersAreTold
no_integers_are_told h m found none x = sym (ap (λ ns. value_beside ns found.values.items x) none)

pub integer_of_no_name : IntegerOfNoName
integer_of_no_name h m z found names values tells =
    let e : None ≡ Some z = tells 7 ∙ (λ i. value_beside (names i) (values i) 7) in
    absurd (cc)

pub no_links_are_no_match : NoLinksAreNoMatch
no_links_are_no_match flat r rule plan f t c rest none has = let low = has.is.below 0 0 in omega (arith, low, none)

pub one_link_is_one : OneLinkIsOne
one_link_is_one names plain s flat m place rule plan f t x p q k l apart can = apart (sym (can.ports x p k) ∙ can.ports x q l)
