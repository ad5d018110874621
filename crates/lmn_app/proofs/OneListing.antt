-- A text has one listing: rules that are the same but for the addresses of boxes in conditions have one code.
use Rattle.std.proofs.Common.{◌≡◌, ℕ, ◌++◌, List, [], ◌∷◌, length, Option, refl, sym, ap, ◌∙◌, subst}
use Rattle.std.specs.List.{AllZip}
use Rattle.lmn_base.specs.declared.guard.Cond.{Cond}
use Rattle.lmn_base.specs.declared.guard.Cond.TheVariants as condition
use Rattle.lmn_base.specs.declared.guard.Expr.{Expr}
use Rattle.lmn_base.specs.declared.guard.Expr.TheVariants as expr
use Rattle.lmn_base.specs.declared.rule.RuleTree.{RuleTree}
use Rattle.lmn_solid_bodies.specs.Code.{body_code}
use Rattle.lmn_solid_bodies.specs.Flattening.{body_items, context_membrane, rule_context_membrane}
use Rattle.lmn_compile_body.specs.Naming.{equal_registers, guard_registers}
use Rattle.lmn_compile_head.specs.Accepted.{head_items}
use Rattle.lmn_compile_head.specs.Bindings.{part_numbers}
use Rattle.lmn_congruence.specs.Rules.{Name}
use Rattle.lmn_guards.specs.declared.plan.GuardPlan.{GuardPlan}
use Rattle.lmn_instr_code.specs.HeadCode.{all_filled_code, bind_register, comparison, differ_parts_code, equal_code, guard_code, items_code, operation_code, part_named, parts_code, value_code}
use Rattle.lmn_instr_code.specs.declared.instr.Instr.TheVariants.{Commit}
use Rattle.lmn_compile_listing.specs.Listings.{code_listings, rule_code, rule_codes}
use Rattle.lmn_flatten_plain.specs.SamePlains.{SameCond, SameExpr, SameRule, same_comparison, same_condition, same_context, same_equation, same_integer, same_operation}
use Rattle.lmn_app_reading.specs.Texts.{IsAcceptedAs}
use Rattle.lmn_app_reading.proofs.OneRead.{one_acceptance}
use Rattle.lmn_solid_heads.specs.Guards.{context_alone, typed_number}
use Rattle.lmn_solid_heads.specs.Heads.{membranes_of, typed_contexts_of}
use Rattle.lmn_app.specs.ListingLaws.{OneListing}

-- ---- expressions

same_alone : {a b : Expr} → SameExpr a b → context_alone a ≡ context_alone b
same_alone (same_integer z) = refl
same_alone (same_context u) = refl
same_alone (same_operation op a b c d h g) = ap context_alone (expr.rolls-Op op a b) ∙ sym (ap context_alone (expr.rolls-Op op c d))

module _ (part : ℕ → Option ℕ) where
  same_value : (bound : ℕ → ℕ) {a b : Expr} → SameExpr a b → (v : ℕ) → value_code part bound a v ≡ value_code part bound b v
  same_value bound (same_integer z) v = refl
  same_value bound (same_context u) v = refl
  same_value bound (same_operation op a b c d h g) v =
      ap (λ e. value_code part bound e v) (expr.rolls-Op op a b)
      ∙ (λ i. operation_code op (same_value bound h v i) (λ w. same_value bound g w i))
      ∙ sym (ap (λ e. value_code part bound e v) (expr.rolls-Op op c d))

  -- ---- conditions, before what follows

  module _ (cs ds : List Cond) where
    condition_code : ((bound : ℕ → ℕ) (v : ℕ) → guard_code part bound v cs ≡ guard_code part bound v ds) → (bound : ℕ → ℕ) (v : ℕ) (c d : Cond) → SameCond c d
        → guard_code part bound v (c ∷ cs) ≡ guard_code part bound v (d ∷ ds)
    condition_code rest bound v (condition.Kind name args pos) _ same_condition = rest bound v
    condition_code rest bound v (condition.Compare op left right pos) _ same_condition =
        let a = value_code part bound left v in
        let b = value_code part bound right a.next in
        λ i. a.code ++ (b.code ++ (comparison op a.at b.at ∷ rest bound b.next i))
    condition_code rest bound v (condition.Equal left right pos) _ same_condition =
        let c = value_code part bound right v in
        λ i. equal_code (part left.name) (part_named part (context_alone right)) c (rest (bind_register bound left.name c.at) c.next i) (rest bound v i)
    condition_code rest bound v (condition.Differ left right pos) _ same_condition = λ i. differ_parts_code (part left.name) (part right.name) ++ rest bound v i
    condition_code rest bound v _ _ (same_comparison {op = op} h g) = λ i.
        (same_value bound h v i).code
        ++ ((same_value bound g (same_value bound h v i).next i).code
        ++ (comparison op (same_value bound h v i).at (same_value bound g (same_value bound h v i).next i).at
        ∷ rest bound (same_value bound g (same_value bound h v i).next i).next i))
    condition_code rest bound v _ _ (same_equation {u = u} h) = λ i.
        equal_code (part u.name) (part_named part (same_alone h i)) (same_value bound h v i)
        (rest (bind_register bound u.name (same_value bound h v i).at) (same_value bound h v i).next i) (rest bound v i)

    condition_registers : ((bound : ℕ → ℕ) (v : ℕ) → guard_registers part bound v cs ≡ guard_registers part bound v ds) → (bound : ℕ → ℕ) (v : ℕ) (c d : Cond) → SameCond c d
        → guard_registers part bound v (c ∷ cs) ≡ guard_registers part bound v (d ∷ ds)
    condition_registers rest bound v (condition.Kind name args pos) _ same_condition = rest bound v
    condition_registers rest bound v (condition.Compare op left right pos) _ same_condition = rest bound (value_code part bound right (value_code part bound left v).next).next
    condition_registers rest bound v (condition.Equal left right pos) _ same_condition =
        let c = value_code part bound right v in
        λ i. equal_registers (part left.name) (rest (bind_register bound left.name c.at) c.next i) (rest bound v i)
    condition_registers rest bound v (condition.Differ left right pos) _ same_condition = rest bound v
    condition_registers rest bound v _ _ (same_comparison h g) = λ i. rest bound (same_value bound g (same_value bound h v i).next i).next i
    condition_registers rest bound v _ _ (same_equation {u = u} h) = λ i.
        equal_registers (part u.name) (rest (bind_register bound u.name (same_value bound h v i).at) (same_value bound h v i).next i) (rest bound v i)

  -- ---- guards

  same_guard_code : (cs ds : List Cond) → AllZip SameCond cs ds → (bound : ℕ → ℕ) (v : ℕ) → guard_code part bound v cs ≡ guard_code part bound v ds
  same_guard_code [] [] h bound v = refl
  same_guard_code [] (d ∷ ds) h bound v = absurd h
  same_guard_code (c ∷ cs) [] h bound v = absurd h
  same_guard_code (c ∷ cs) (d ∷ ds) h bound v = condition_code cs ds (same_guard_code cs ds h.1) bound v c d h.0

  same_guard_registers : (cs ds : List Cond) → AllZip SameCond cs ds → (bound : ℕ → ℕ) (v : ℕ) → guard_registers part bound v cs ≡ guard_registers part bound v ds
  same_guard_registers [] [] h bound v = refl
  same_guard_registers [] (d ∷ ds) h bound v = absurd h
  same_guard_registers (c ∷ cs) [] h bound v = absurd h
  same_guard_registers (c ∷ cs) (d ∷ ds) h bound v = condition_registers cs ds (same_guard_registers cs ds h.1) bound v c d h.0

-- ---- rules

-- the rule with another guard
abbrev guarded : RuleTree → List Cond → RuleTree
guarded r cs = record { head = r.head; guard = cs; body = r.body; links = r.links; pos = r.pos }

same_guarded : (r : RuleTree) (plan : GuardPlan) (cs ds : List Cond) → AllZip SameCond cs ds → rule_code (guarded r cs) plan ≡ rule_code (guarded r ds) plan
same_guarded r plan cs ds h =
    let items = head_items r plan in
    λ i. record {
      head =
          items_code items 0 0 items
          ++ (parts_code items 0 (typed_contexts_of items)
          ++ (all_filled_code items 1 (membranes_of items)
          ++ (same_guard_code (typed_number (typed_contexts_of items) 0) cs ds h (λ x. 0) 0 i
          ++ (Commit ∷ []))));
      body =
          body_code items
          (body_items (record {
            part = part_numbers items;
            integer = same_guard_registers (part_numbers items) cs ds h (λ x. 0) 0 i;
            context = context_membrane r.head;
            rule_context = rule_context_membrane r.head;
          }) (length (membranes_of items)) r.body)
          (length r.links);
    }

-- the same rule has the same code
same_rule_code : (r s : RuleTree) (plan : GuardPlan) → SameRule r s → rule_code r plan ≡ rule_code s plan
same_rule_code r s plan h =
    (λ i. rule_code (record { head = h.head i; guard = r.guard; body = h.body i; links = h.links i; pos = h.pos i }) plan) ∙ same_guarded s plan r.guard s.guard h.guard

same_codes : (rs ss : List RuleTree) (plans : List GuardPlan) → AllZip SameRule rs ss → rule_codes rs plans ≡ rule_codes ss plans
same_codes [] [] plans h = refl
same_codes [] (s ∷ ss) plans h = absurd h
same_codes (r ∷ rs) [] plans h = absurd h
same_codes (r ∷ rs) (s ∷ ss) [] h = refl
same_codes (r ∷ rs) (s ∷ ss) (plan ∷ plans) h = λ i. same_rule_code r s plan h.0 i ∷ same_codes rs ss plans h.1 i

-- ---- listings

-- a text has one listing
pub one_listing : OneListing
one_listing text listing other p q =
    let a = p.accepted.accepted.reads in
    let b = q.accepted.accepted.reads in
    let names : p.names ≡ q.names = p.accepted.named a.tokens a.tree a.right a.reads a.within ∙ sym (q.accepted.named a.tokens a.tree a.right a.reads a.within) in
    let Q : List Name → Type 0 = λ ns. IsAcceptedAs text ns p.plain p.plans in
    let one = one_acceptance text q.names p.plain q.plain p.plans q.plans (subst Q names p.accepted.accepted) q.accepted.accepted in
    p.is ∙ (λ i. code_listings (names i) 0 (rule_codes p.plain.rules (one.plans i))) ∙ ap (code_listings q.names 0) (same_codes p.plain.rules q.plain.rules q.plans one.plain.rules) ∙ sym q.is
