-- What the registers of a rule that is chosen hold of rests.
use Rattle.std.proofs.Common.{ℕ, ◌≡◌, ◌+◌, ◌<◌, List, map, refl, sym, subst, ◌∙◌, arith}
use Rattle.std.specs.Prelude.{not}
use Rattle.lmn_base.specs.Graphs.{Reached, Port}
use Rattle.lmn_base.specs.Lists.{In}
use Rattle.lmn_base.specs.declared.rule.RuleTree.{RuleTree}
use Rattle.lmn_guards.specs.declared.plan.GuardPlan.{GuardPlan}
use Rattle.lmn_store_heap.specs.Graphs.{atom_map}
use Rattle.lmn_store_heap.specs.Heap.{Heap, atoms_in}
use Rattle.lmn_store_heap.specs.Sound.{Valid}
use Rattle.lmn_congruence_splice.specs.Classes.{rising}
use Rattle.lmn_congruence_splice.proofs.EndLemmas.{mapped_alike}
use Rattle.lmn_instr_code.specs.declared.instr.Instr.{Instr}
use Rattle.lmn_instr_code.specs.Running.{HeadRegisters, IsFirstSuccess, atoms_set, membranes_set}
use Rattle.lmn_ground_parts.specs.Rests.{IsRest}
use Rattle.lmn_ground_parts.specs.Walks.{is_in}
use Rattle.lmn_solid_bodies.specs.Running.{Registers}
use Rattle.lmn_solid_bodies.specs.Within.{HoldsRests}
use Rattle.lmn_compile_head.specs.Accepted.{head_items, rule_head_code}
use Rattle.lmn_compile_body.specs.Accepted.{IsCompilable}
use Rattle.lmn_schedule_strategy.specs.Turns.{IsBesideCode, IsRestOf, HoldsRestsOf}

-- Where the registers of the first success of a rule hold the rests beside all that its head code sets, they hold what is left
-- in its membranes with closed contexts.
abbrev pub RestsOfRule : Type 0
RestsOfRule = (table : List RuleTree) (rule : RuleTree) (plan : GuardPlan) → IsCompilable table rule plan → (h : Heap) → Valid h → (m : ℕ) → (s : Registers) →
    IsFirstSuccess h (rule_head_code rule plan) m s.head → HoldsRestsOf h (rule_head_code rule plan) s → HoldsRests h s (head_items rule plan)

-- Registers that agree in all that code sets have the same rests beside it.
module _ (h : Heap) (code : List Instr) (s t : HeadRegisters) (same_atom : (k : ℕ) → k < atoms_set code → t.images.atom k ≡ s.images.atom k)
    (same_mem : (k : ℕ) → k < 1 + membranes_set code → t.images.membrane k ≡ s.images.membrane k) (same_part : (k : ℕ) → t.images.part k ≡ s.images.part k) where
  beside_so : (a : ℕ) → IsBesideCode h code s a → IsBesideCode h code t a
  beside_so a b = record {
    no_atom = λ k l e. b.no_atom k l (sym (same_atom k l) ∙ e);
    no_part = λ k l e. b.no_part k l (subst (λ (p : Port). Reached (atom_map h) p a) (same_part k) e);
  }

  beside_back : (a : ℕ) → IsBesideCode h code t a → IsBesideCode h code s a
  beside_back a b = record {
    no_atom = λ k l e. b.no_atom k l (same_atom k l ∙ e);
    no_part = λ k l e. b.no_part k l (subst (λ (p : Port). Reached (atom_map h) p a) (sym (same_part k)) e);
  }

  pub rest_so : (m : ℕ) → m < 1 + membranes_set code → (atoms membranes : List ℕ) → IsRestOf h code s m atoms membranes → IsRestOf h code t m atoms membranes
  rest_so m l atoms membranes w = (
    w.0,
    λ a i. (let both = w.1 a (subst (λ z. In a (atoms_in h z)) (same_mem m l) i) in (λ e. beside_so a (both.0 e), λ b. both.1 (beside_back a b))),
    subst (λ z. IsRest h z w.0 (λ x. not (is_in (map t.images.membrane (rising 0 (1 + membranes_set code))) x)) atoms membranes) (sym (same_mem m l))
        (subst (λ zs. IsRest h (s.images.membrane m) w.0 (λ x. not (is_in zs x)) atoms membranes)
        (sym (mapped_alike t.images.membrane s.images.membrane 0 (1 + membranes_set code) (λ k o. same_mem k (omega (arith, o))))) w.2),
  )
