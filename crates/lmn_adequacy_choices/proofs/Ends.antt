-- Where no code of a rule succeeds, nothing embeds.
use Rattle.std.proofs.Common.{ℕ, zero, suc, ◌≡◌, List, [], ◌∷◌, Some, sym, ap, subst, ◌∙◌, arith}
use Rattle.std.specs.Prelude.{slice_get, slice_index_or}
use Rattle.std.proofs.lemmas.Option.{same_Some}
use Rattle.lmn_base.specs.declared.rule.RuleTree.{RuleTree}
use Rattle.lmn_guards.specs.declared.plan.GuardPlan.{GuardPlan}
use Rattle.lmn_store_heap.specs.Heap.{Heap, rules_in}
use Rattle.lmn_store_heap.specs.Sound.{Forest}
use Rattle.lmn_store_heap.proofs.Trees.{is_mem}
use Rattle.lmn_instr_code.specs.declared.instr.Code.{Code}
use Rattle.lmn_instr_code.specs.Running.{Succeeds}
use Rattle.lmn_compile_head.specs.Accepted.{IsReady, rule_head_code}
use Rattle.lmn_adequacy.specs.Laws.{StepsExactly}
use Rattle.lmn_adequacy_heaps.specs.HeapRegions.{HeapReading}
use Rattle.lmn_adequacy_heaps.proofs.Wholes.{closed_heap, all_accepted}
use Rattle.lmn_schedule_strategy.specs.Choosing.{CodeSucceeds, NoneIn}
use Rattle.lmn_adequacy_turns.specs.Ends.{AllPlanned, SomeCodeSucceeds, StepsByCode, IrreducibleByCode}
use Rattle.lmn_adequacy_choices.specs.Laws.{EndsByCode, NothingEmbeds}
use Rattle.lmn_adequacy_choices.specs.Turns.{membranes_in_preorder, tree_over, heap_region, HaveCodes, IsReadWith}
use Rattle.lmn_adequacy_choices.proofs.Codes.{coded}
use Rattle.lmn_base.proofs.Lists.{get_below, get_there as get_some}
use Rattle.lmn_base.specs.Lists.{In}

-- the plan with a number
abbrev plan_at : List GuardPlan → ℕ → GuardPlan
plan_at plans k = slice_index_or plans k (record { kinds = []; bound = [] })

plan_is : (plans : List GuardPlan) (k : ℕ) (plan : GuardPlan) → slice_get plans k ≡ Some plan → plan_at plans k ≡ plan
plan_is [] k plan e = absurd (cc)
plan_is (p ∷ plans) zero plan e = same_Some p plan e
plan_is (p ∷ plans) (suc k) plan e = plan_is plans k plan e

module _ (table : List RuleTree) (plans : List GuardPlan) (codes : List Code) (c : HaveCodes table plans codes) (h : Heap) (r : HeapReading) (inner : Forest) (w : IsReadWith h r inner table) where
  all_planned : AllPlanned table (plan_at plans)
  all_planned k rule is =
      let p = get_some plans k (omega (arith, get_below table k rule is, c.whole.many)) in
      subst (IsReady table rule) (sym (plan_is plans k p.0 p.1)) (c.whole.whole k rule p.0 is p.1).ready

  -- a code that succeeds in a membrane
  some_of : (m n : ℕ) → In m (membranes_in_preorder h inner) → In n (rules_in h m) → CodeSucceeds h codes m n → SomeCodeSucceeds h table (plan_at plans)
  some_of m n p i s =
      let u = coded h r table plans codes c w.rules m n i in
      let same : s.code ≡ u.code = same_Some s.code u.code (sym s.is ∙ u.code_is) in
      let path : s.code.head ≡ rule_head_code u.rule (plan_at plans n) = ap (λ z. z.head) same ∙ u.head ∙ ap (rule_head_code u.rule) (sym (plan_is plans n u.plan u.plan_is)) in
      record {
        membrane = m;
        in_place = is_mem h w.read.valid.sound (tree_over h inner) w.tree m p;
        number = n;
        stands = i;
        rule = u.rule;
        is = u.is;
        registers = s.registers;
        succeeds = subst (λ z. Succeeds h z m s.registers) path s.succeeds;
      }

  -- where none succeeds
  none_some : NoneIn h codes (membranes_in_preorder h inner) → SomeCodeSucceeds h table (plan_at plans) → ⊥
  none_some none s =
      let u = coded h r table plans codes c w.rules s.membrane s.number s.stands in
      let same : s.rule ≡ u.rule = same_Some s.rule u.rule (sym s.is ∙ u.is) in
      let path : rule_head_code s.rule (plan_at plans s.number) ≡ u.code.head = ap (λ z. rule_head_code z (plan_at plans s.number)) same ∙ ap (rule_head_code u.rule) (plan_is plans s.number u.plan u.plan_is) ∙ sym u.head in
      none s.membrane (w.tree.all s.membrane s.in_place) s.number s.stands
      (record { code = u.code; is = u.code_is; registers = s.registers; succeeds = subst (λ z. Succeeds h z s.membrane s.registers) path s.succeeds })

  pub nothing : StepsByCode → IrreducibleByCode → StepsExactly → EndsByCode codes h r inner
  nothing by_code ends exact =
      let steps = by_code h r table (plan_at plans) inner w.read w.tree w.rules all_planned in
      let end = ends h r table (plan_at plans) inner w.read w.tree w.rules all_planned in
      let embeds = exact (heap_region h r inner) (closed_heap h r inner w.read w.tree) (all_accepted h r table w.rules h.root inner) in
      record {
        embeds = ((λ none e. none_some none (steps.0 (embeds.1 e))), (λ no m p n i s. no (embeds.0 (steps.1 (some_of m n p i s)))));
        irreducible = ((λ none. end.1 (none_some none)), (λ q m p n i s. end.0 q (some_of m n p i s)));
        some = λ m n p i s. embeds.0 (steps.1 (some_of m n p i s));
      }

-- where no code succeeds nothing embeds
pub nothing_embeds : StepsByCode → IrreducibleByCode → StepsExactly → NothingEmbeds
nothing_embeds by_code ends exact table plans codes c h r inner w = nothing table plans codes c h r inner w by_code ends exact
