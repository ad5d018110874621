-- In the code of accepted rules GETINT is of integers.
use Rattle.std.proofs.Common.{◌≡◌, ◌+◌, ◌==◌, ◌&&◌, ◌||◌, not, ℕ, zero, suc, Bool, true, false, if◌then◌else◌, List, [], ◌∷◌, ◌++◌, Option, Some, None, refl, sym, ap, ◌∙◌, subst, arith, true≢false}
use Rattle.std.specs.Prelude.{slice_get, Contains}
use Rattle.std.specs.List.{list_all, list_any}
use Rattle.std.proofs.lemmas.List.Folds.{list_all-append, list_any-append}
use Rattle.lmn_base.proofs.Lists.{some_is, none_is_not, contains_behind, contains_first}
use Rattle.lmn_base.proofs.Numbers.{equal_itself}
use Rattle.lmn_base.specs.Graphs.{Port}
use Rattle.lmn_base.specs.Items.{expression_items, condition_items, guard_items, rule_items, items_of, used}
use Rattle.lmn_base.specs.declared.item.Form.TheVariants as form
use Rattle.lmn_base.specs.declared.item.Item.TheVariants as item
use Rattle.lmn_base.specs.declared.level.CtxUse.{CtxUse}
use Rattle.lmn_base.specs.declared.rule.RuleTree.{RuleTree}
use Rattle.lmn_guards.specs.declared.plan.GuardPlan.{GuardPlan}
use Rattle.lmn_guards.specs.Accepted.{IsInOrder}
use Rattle.lmn_guards.specs.Plans.{IsPlan}
use Rattle.lmn_guards.specs.GuardCodes.{asks, type_of, in_head}
use Rattle.lmn_compile_head.specs.Accepted.{head_items}
use Rattle.lmn_compile_head.specs.Heads.{IsHead, IsNarrower, kind_in}
use Rattle.lmn_compile_head.proofs.HeadLeaves.{number_at, typed_leaf, number_of_leaf}
use Rattle.lmn_compile_head.proofs.HeadUses.{use_is_leaf, contained}
use Rattle.lmn_compile_head.proofs.PlanKinds.{narrower, kind_of_leaf}
use Rattle.lmn_compile_head.proofs.Places.{find_missed, stands_at}
use Rattle.std.proofs.lemmas.List.Folds.{list_any_at}
use Rattle.std.proofs.lemmas.List.Elements.{Contains-append_left, Contains-append_right}
use Rattle.lmn_base.specs.Uses.{has_use, is_some_place}
use Rattle.lmn_base.specs.declared.guard.Arith.{Arith}
use Rattle.lmn_base.specs.declared.guard.Arith.TheVariants as arithmetic
use Rattle.lmn_base.specs.declared.guard.Cmp.{Cmp}
use Rattle.lmn_base.specs.declared.guard.Cmp.TheVariants as cmp
use Rattle.lmn_base.specs.declared.guard.Cond.{Cond}
use Rattle.lmn_base.specs.declared.guard.Cond.TheVariants.{Kind, Compare, Equal, Differ}
use Rattle.lmn_base.specs.declared.guard.Expr.{Expr}
use Rattle.lmn_base.specs.declared.guard.Expr.TheVariants as expr
use Rattle.lmn_base.specs.declared.item.Item.{Item}
use Rattle.lmn_base.proofs.Common.{operation_items, in_left, in_right}
use Rattle.lmn_guards.proofs.WorkedGuards.{of_context}
use Rattle.lmn_guards.specs.declared.plan.TypeKind.{TypeKind}
use Rattle.lmn_guards.specs.declared.plan.TypeKind.TheVariants as kind
use Rattle.lmn_solid_heads.specs.declared.items.HeadItem.{HeadItem}
use Rattle.lmn_solid_heads.specs.Heads.{HeadAtom, HeadTyped, atoms_of, typed_contexts_of, membranes_of, at_atoms}
use Rattle.lmn_solid_heads.specs.Guards.{typed_number, context_alone}
use Rattle.lmn_instr_code.specs.declared.instr.Instr.{Instr}
use Rattle.lmn_instr_code.specs.declared.instr.Instr.TheVariants.{GetInt, Commit}
use Rattle.lmn_instr_code.specs.HeadCode.{Entry, Computed, find_port, found_code, items_code, parts_code, all_filled_code, operator_instruction, named_code, value_code, comparison, part_named, equal_code, differ_parts_code, bind_register, guard_code, head_code}
use Rattle.lmn_verify_code.specs.declared.found.FoundPart.{FoundPart}
use Rattle.lmn_verify_code.specs.Verified.{gets_integer, is_int_kind}
use Rattle.lmn_verify_compiled.proofs.Finding.{found_part, found_parts}
use Rattle.lmn_verify_compiled.proofs.HeadShapes.{is_check, looks_at_part, asks_membrane, all_items, parts, all_filled}

-- ---- code without GETINT

module _ (ps : List FoundPart) where
  abbrev pub Gets : List Instr → Type 0
  Gets xs = list_all (gets_integer ps) xs ≡ true

  gets_both : (xs ys : List Instr) → Gets xs → Gets ys → Gets (xs ++ ys)
  gets_both xs ys h g = list_all-append (gets_integer ps) xs ys ∙ (λ i. h i && g i)

  checked_gets : (i : Instr) → is_check i ≡ true → Gets (i ∷ [])
  checked_gets (GetInt v g) h = absurd (true≢false (sym h))
  checked_gets _ h = refl

  looked_gets : (i : Instr) → looks_at_part i ≡ true → Gets (i ∷ [])
  looked_gets (GetInt v g) h = absurd (true≢false (sym h))
  looked_gets _ h = refl

  asked_gets : (i : Instr) → asks_membrane i ≡ true → Gets (i ∷ [])
  asked_gets (GetInt v g) h = absurd (true≢false (sym h))
  asked_gets _ h = refl

  found_gets : (n : ℕ) (a : HeadAtom) (e : Option Entry) → Gets (found_code n a e)
  found_gets n a None = refl
  found_gets n a (Some e) = refl

  operation_gets : (o : Arith) (v w x : ℕ) → Gets (operator_instruction o v w x ∷ [])
  operation_gets arithmetic.Add v w x = refl
  operation_gets arithmetic.Sub v w x = refl
  operation_gets arithmetic.Mul v w x = refl
  operation_gets arithmetic.Div v w x = refl
  operation_gets arithmetic.Mod v w x = refl

  comparison_gets : (c : Cmp) (v w : ℕ) → Gets (comparison c v w ∷ [])
  comparison_gets cmp.Lt v w = refl
  comparison_gets cmp.Le v w = refl
  comparison_gets cmp.Gt v w = refl
  comparison_gets cmp.Ge v w = refl
  comparison_gets cmp.Eq v w = refl
  comparison_gets cmp.Ne v w = refl

  -- ---- guards

  -- a part with this number is an integer
  abbrev pub IsInteger : ℕ → Type 0
  IsInteger g = list_any (λ (p : FoundPart). (p.part == g) && is_int_kind p.kind) ps ≡ true

  -- each context of the head that is used is one
  module _ (part : ℕ → Option ℕ) where
    abbrev pub UsesIntegers : List Item → Type 0
    UsesIntegers is = (x g : ℕ) → part x ≡ Some g → has_use x is ≡ true → IsInteger g

    uses_left : (as' bs : List Item) → UsesIntegers (as' ++ bs) → UsesIntegers as'
    uses_left as' bs h x g e u = h x g e (in_left x as' bs u)

    uses_right : (as' bs : List Item) → UsesIntegers (as' ++ bs) → UsesIntegers bs
    uses_right as' bs h x g e u = h x g e (in_right x as' bs u)

    named_gets : (p : Option ℕ) (bound v : ℕ) → ((g : ℕ) → p ≡ Some g → IsInteger g) → Gets (named_code p bound v).code
    named_gets None bound v h = refl
    named_gets (Some g) bound v h = λ i. h g refl i && true

    value_gets : (bound : ℕ → ℕ) (e : Expr) (v : ℕ) → UsesIntegers (expression_items e) → Gets (value_code part bound e v).code
    value_gets bound (expr.Int z) v h = refl
    value_gets bound (expr.Ctx u) v h = named_gets (part u.name) (bound u.name) v (λ g e. h u.name g e (ap (has_use u.name) (of_context u) ∙ ap (λ b. is_some_place ((if b then u.pos ∷ [] else []) ++ [])) (equal_itself u.name)))
    value_gets bound (expr.Op' o p left q right) v h =
        let a = value_code part bound left v in
        let b = value_code part bound right a.next in
        let op = operator_instruction o b.next a.at b.at in
        let parts : UsesIntegers (expression_items left ++ expression_items right) = subst UsesIntegers (operation_items o p left q right) h in
        gets_both a.code (b.code ++ (op ∷ [])) (value_gets bound left v (uses_left (expression_items left) (expression_items right) parts))
        (gets_both b.code (op ∷ []) (value_gets bound right a.next (uses_right (expression_items left) (expression_items right) parts)) (operation_gets o b.next a.at b.at))

    -- the contexts whose values a condition computes
    abbrev pub ComputesIntegers : Cond → Type 0
    ComputesIntegers (Kind n args place) = Unit {0}
    ComputesIntegers (Compare op left right place) = UsesIntegers (expression_items left) × UsesIntegers (expression_items right)
    ComputesIntegers (Equal left right place) = part left.name ≡ None → UsesIntegers (expression_items right)
    ComputesIntegers (Differ left right place) = Unit {0}

    equal_gets : (left right : Option ℕ) (c : Computed) (xs ys : List Instr) → (left ≡ None → Gets c.code) → Gets xs → Gets ys → Gets (equal_code left right c xs ys)
    equal_gets None right c xs ys h a b = gets_both c.code xs (h refl) a
    equal_gets (Some l) None c xs ys h a b = b
    equal_gets (Some l) (Some r) c xs ys h a b = b

    differ_gets : (left right : Option ℕ) → Gets (differ_parts_code left right)
    differ_gets None right = refl
    differ_gets (Some g) None = refl
    differ_gets (Some g) (Some k) = refl

    guard_gets : (bound : ℕ → ℕ) (v : ℕ) (cs : List Cond) → ((c : Cond) → Contains cs c → ComputesIntegers c) → Gets (guard_code part bound v cs)
    guard_gets bound v [] h = refl
    guard_gets bound v (Kind n args place ∷ cs) h = guard_gets bound v cs (λ c i. h c (contains_behind (Kind n args place) cs c i))
    guard_gets bound v (Compare op left right place ∷ cs) h =
        let a = value_code part bound left v in
        let b = value_code part bound right a.next in
        let here = h (Compare op left right place) (contains_first (Compare op left right place) cs) in
        gets_both a.code _ (value_gets bound left v here.0) (gets_both b.code _ (value_gets bound right a.next here.1)
        (gets_both (comparison op a.at b.at ∷ []) (guard_code part bound b.next cs) (comparison_gets op a.at b.at) (guard_gets bound b.next cs (λ c i. h c (contains_behind (Compare op left right place) cs c i)))))
    guard_gets bound v (Equal left right place ∷ cs) h =
        let c = value_code part bound right v in
        let here = h (Equal left right place) (contains_first (Equal left right place) cs) in
        let later : (d : Cond) → Contains cs d → ComputesIntegers d = λ d i. h d (contains_behind (Equal left right place) cs d i) in
        equal_gets (part left.name) (part_named part (context_alone right)) c _ _ (λ none. value_gets bound right v (here none)) (guard_gets (bind_register bound left.name c.at) c.next cs later) (guard_gets bound v cs later)
    guard_gets bound v (Differ left right place ∷ cs) h =
        gets_both (differ_parts_code (part left.name) (part right.name)) _ (differ_gets (part left.name) (part right.name)) (guard_gets bound v cs (λ c i. h c (contains_behind (Differ left right place) cs c i)))

-- The code of a head gets integers alone, where each context is an integer that a condition computes with.
pub head_gets : (ps : List FoundPart) (items : List HeadItem) (guard : List Cond) → ((c : Cond) → Contains guard c → ComputesIntegers ps (typed_number (typed_contexts_of items) 0) c) → list_all (gets_integer ps) (head_code items guard) ≡ true
head_gets ps items guard h =
    gets_both ps (items_code items 0 0 items) _ (all_items (Gets ps) refl (gets_both ps) (found_gets ps) (checked_gets ps) items 0 0 items)
    (gets_both ps (parts_code items 0 (typed_contexts_of items)) _ (parts (Gets ps) refl (gets_both ps) (looked_gets ps) items 0 (typed_contexts_of items))
    (gets_both ps (all_filled_code items 1 (membranes_of items)) _ (all_filled (Gets ps) refl (gets_both ps) (asked_gets ps) items 1 (membranes_of items))
    (gets_both ps (guard_code (typed_number (typed_contexts_of items) 0) (λ x. 0) 0 guard) (Commit ∷ []) (guard_gets ps (typed_number (typed_contexts_of items) 0) (λ x. 0) 0 guard h) refl)))

-- ---- contexts of accepted rules

-- a typed context of the kind of integers is found as one
found_integer : (items : List HeadItem) (g : ℕ) (ts : List HeadTyped) (k : ℕ) (t : HeadTyped) → slice_get ts k ≡ Some t → t.kind ≡ kind.Int → (find_port t.link (at_atoms 0 (atoms_of items)) ≡ None → ⊥)
    → IsInteger (found_parts items g ts) (g + k)
found_integer items g [] k t e f held = absurd (cc)
found_integer items g (u ∷ ts) zero t e f held =
    let same : u ≡ t = cc in
    let start : g + 0 ≡ g = omega arith in
    subst (λ n. IsInteger (found_parts items g (u ∷ ts)) n) (sym start)
    (list_any-append (λ (p : FoundPart). (p.part == g) && is_int_kind p.kind) (found_part g u (find_port u.link (at_atoms 0 (atoms_of items)))) (found_parts items (g + 1) ts)
    ∙ ap (λ b. b || list_any (λ (p : FoundPart). (p.part == g) && is_int_kind p.kind) (found_parts items (g + 1) ts))
    (here (find_port u.link (at_atoms 0 (atoms_of items))) (subst (λ (v : HeadTyped). find_port v.link (at_atoms 0 (atoms_of items)) ≡ None → ⊥) (sym same) held) (subst (λ (v : HeadTyped). v.kind ≡ kind.Int) (sym same) f)))
  where
    here : (p : Option Port) → (p ≡ None → ⊥) → u.kind ≡ kind.Int → list_any (λ (q : FoundPart). (q.part == g) && is_int_kind q.kind) (found_part g u p) ≡ true
    here None n is = absurd (n refl)
    here (Some p) n is = λ i. (equal_itself g i && is_int_kind (is i)) || false
found_integer items g (u ∷ ts) (suc k) t e f held =
    let next : (g + 1) + k ≡ g + suc k = omega arith in
    subst (λ n. IsInteger (found_parts items g (u ∷ ts)) n) next
    (list_any-append (λ (p : FoundPart). (p.part == ((g + 1) + k)) && is_int_kind p.kind) (found_part g u (find_port u.link (at_atoms 0 (atoms_of items)))) (found_parts items (g + 1) ts)
    ∙ ap (λ b. list_any (λ (p : FoundPart). (p.part == ((g + 1) + k)) && is_int_kind p.kind) (found_part g u (find_port u.link (at_atoms 0 (atoms_of items)))) || b) (found_integer items (g + 1) ts k t e f held)
    ∙ last (list_any (λ (p : FoundPart). (p.part == ((g + 1) + k)) && is_int_kind p.kind) (found_part g u (find_port u.link (at_atoms 0 (atoms_of items))))))
  where
    last : (b : Bool) → (b || true) ≡ true
    last true = refl
    last false = refl

narrowest : (k : TypeKind) → IsNarrower k kind.Int → k ≡ kind.Int
narrowest kind.Int h = refl
narrowest kind.Unary h = absurd h
narrowest kind.Ground h = absurd h

module _ (table : List RuleTree) (r : RuleTree) (plan : GuardPlan) (order : IsInOrder table r) (is : IsPlan r plan) (head : IsHead (head_items r plan)) where
  abbrev all_parts : List FoundPart
  all_parts = found_parts (head_items r plan) 0 (typed_contexts_of (head_items r plan))

  abbrev numbers : ℕ → Option ℕ
  numbers = typed_number (typed_contexts_of (head_items r plan)) 0

  -- a context of the head that the guard asks to be an integer is found as one
  asked_integer : (x g : ℕ) → numbers x ≡ Some g → list_any (asks r.head kind.Int x) r.guard ≡ true → IsInteger all_parts g
  asked_integer x g e asked =
      let t = number_at (typed_contexts_of (head_items r plan)) 0 x g e in
      let l = typed_leaf (kind_in plan.kinds) r.head t.1 t.0 t.3 in
      let k = some_is (type_of r.head r.guard t.0.name) (order.has_type t.0.name l.0 l.1 l.2) in
      let known : kind_in plan.kinds t.0.name ≡ k.0 = ap (λ ts. kind_in ts t.0.name) is.kinds ∙ kind_of_leaf r.head r.guard t.0.name k.0 k.1 l.0 l.1 l.2 in
      let asked' : list_any (asks r.head kind.Int t.0.name) r.guard ≡ true = subst (λ y. list_any (asks r.head kind.Int y) r.guard ≡ true) (sym t.4) asked in
      let int : k.0 ≡ kind.Int = narrowest k.0 (narrower r.head r.guard t.0.name kind.Int k.0 asked' k.1) in
      let w = head.held t.1 t.0 t.3 in
      subst (λ n. IsInteger all_parts n) (sym t.2)
      (found_integer (head_items r plan) 0 (typed_contexts_of (head_items r plan)) t.1 t.0 t.3 (l.4 ∙ known ∙ int) (λ none. find_missed t.0.link (at_atoms 0 (atoms_of (head_items r plan))) w.0 none (stands_at (head_items r plan) t.0.link w.0 w.1)))

  -- one of the conditions asks
  one_asks : (x : ℕ) (c : Cond) → Contains r.guard c → asks r.head kind.Int x c ≡ true → list_any (asks r.head kind.Int x) r.guard ≡ true
  one_asks x c i a = list_any_at (asks r.head kind.Int x) r.guard i.0 c i.1 (ap (asks r.head kind.Int x) i.2 ∙ a)

  outside : (left : CtxUse) → Contains (rule_items r) (used form.Typed left) → numbers left.name ≡ None → in_head r.head left.name ≡ false
  outside left c none = by (in_head r.head left.name) refl
    where
      by : (b : Bool) → in_head r.head left.name ≡ b → b ≡ false
      by false e = refl
      by true e =
          let l = use_is_leaf r.head left.name e (λ v d named. order.one_form v (record { name = left.name; form = form.Typed; pos = left.pos })
          (Contains-append_left (items_of r.head) (guard_items r.guard ++ items_of r.body) (item.Context v) d) c named) in
          absurd (none_is_not (numbers left.name) none (number_of_leaf (kind_in plan.kinds) r.head left.name l.0 l.1 l.2))

  pub computes : (c : Cond) → Contains r.guard c → ComputesIntegers all_parts numbers c
  computes (Kind n args place) i = tt
  computes (Compare op left right place) i = (
    (λ x g e u. asked_integer x g e (one_asks x (Compare op left right place) i (in_left x (expression_items left) (expression_items right) u))),
    (λ x g e u. asked_integer x g e (one_asks x (Compare op left right place) i (in_right x (expression_items left) (expression_items right) u))),
  )
  computes (Equal left right place) i = λ none x g e u.
      asked_integer x g e (one_asks x (Equal left right place) i (λ j. not (outside left (Contains-append_right (items_of r.head) (guard_items r.guard ++ items_of r.body) (used form.Typed left)
      (Contains-append_left (guard_items r.guard) (items_of r.body) (used form.Typed left) (contained condition_items r.guard (Equal left right place) (used form.Typed left) i (contains_first (used form.Typed left) (expression_items right))))) none j) && u j))
  computes (Differ left right place) i = tt
