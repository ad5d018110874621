-- The code of one rule after the other.
use Rattle.std.proofs.Common.{ℕ, ◌≡◌, ◌+◌, List, [], ◌∷◌, ◌++◌, Some, None, length, length-append, inl, inr, ap, subst, sym, ◌∙◌}
use Rattle.std.specs.Prelude.{slice_get}
use Rattle.lmn_base.specs.declared.rule.RuleTree.{RuleTree}
use Rattle.lmn_guards.specs.declared.plan.GuardPlan.{GuardPlan}
use Rattle.lmn_instr_code.specs.declared.instr.Code.{Code}
use Rattle.lmn_compile_rules.specs.Compiled.{IsCompiled}
use Rattle.lmn_base.proofs.Lists.{get_either}

-- so many rules are compiled
pub record AreSoFar (table : List RuleTree) (plans : List GuardPlan) (k : ℕ) (codes : List Code) : Type 0 where
  pub many : length codes ≡ k
  pub each : (j : ℕ) (r : RuleTree) (plan : GuardPlan) (code : Code) →
      slice_get table j ≡ Some r → slice_get plans j ≡ Some plan → slice_get codes j ≡ Some code → IsCompiled r plan code

-- none is, to begin with
pub none_yet : (table : List RuleTree) (plans : List GuardPlan) (codes : List Code) → codes ≡ [] → AreSoFar table plans 0 codes
none_yet table plans codes e = record {
  many = ap length e;
  each = λ j r p c er ep ec. absurd (let n : None ≡ Some c = sym (ap (λ xs. slice_get xs j) e) ∙ ec in cc n);
}

-- and one more
pub one_more : (table : List RuleTree) (plans : List GuardPlan) (k : ℕ) (codes : List Code) (rule : RuleTree) (plan : GuardPlan) (code : Code) →
    slice_get table k ≡ Some rule → slice_get plans k ≡ Some plan → IsCompiled rule plan code → AreSoFar table plans k codes → AreSoFar table plans (k + 1) (codes ++ code ∷ [])
one_more table plans k codes rule plan code tr tp is so = record {
  many = length-append codes (code ∷ []) ∙ ap (λ n. n + 1) so.many;
  each = λ j r p c er ep ec. elim (get_either codes code j c ec) [
    | inl e ↦ so.each j r p c er ep e
    | inr e ↦ (let at : j ≡ k = e.0 ∙ so.many in
        let same : rule ≡ r = (let u : Some rule ≡ Some r = sym tr ∙ sym (ap (slice_get table) at) ∙ er in cc) in
        let own : plan ≡ p = (let u : Some plan ≡ Some p = sym tp ∙ sym (ap (slice_get plans) at) ∙ ep in cc) in
        subst (λ x. IsCompiled x p c) same (subst (λ x. IsCompiled rule x c) own (subst (λ x. IsCompiled rule plan x) e.1 is)))
  ];
}
