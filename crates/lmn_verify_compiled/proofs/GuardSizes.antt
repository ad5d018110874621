-- How many integers the code of a head computes.
use Rattle.std.proofs.Common.{◌≡◌, ◌≤◌, ◌+◌, ℕ, true, List, [], ◌∷◌, ◌++◌, Option, Some, None, refl, sym, arith, true≢false}
use Rattle.std.specs.Prelude.{sum_by}
use Rattle.std.proofs.lemmas.List.Sums.{sum_by-cons}
use Rattle.lmn_base_walks.specs.RuleCodes.{condition_tokens, expression_tokens}
use Rattle.lmn_base.specs.declared.guard.Cmp.{Cmp}
use Rattle.lmn_base.specs.declared.guard.Cmp.TheVariants as cmp
use Rattle.lmn_base.specs.declared.guard.Cond.{Cond}
use Rattle.lmn_base.specs.declared.guard.Cond.TheVariants.{Kind, Compare, Equal, Differ}
use Rattle.lmn_base.specs.declared.guard.Expr.{Expr}
use Rattle.lmn_base.specs.declared.guard.Expr.TheVariants as expr
use Rattle.lmn_solid_heads.specs.declared.items.HeadItem.{HeadItem}
use Rattle.lmn_solid_heads.specs.Heads.{HeadAtom, typed_contexts_of, membranes_of}
use Rattle.lmn_solid_heads.specs.Guards.{typed_number, context_alone}
use Rattle.lmn_instr_code.specs.declared.instr.Instr.{Instr}
use Rattle.lmn_instr_code.specs.declared.instr.Instr.TheVariants.{GetInt, Const, Add, Sub, Mul, Div, Mod, Commit}
use Rattle.lmn_instr_code.specs.HeadCode.{Entry, Computed, found_code, items_code, parts_code, all_filled_code, operator_instruction, named_code, value_code, comparison, part_named, equal_code, differ_parts_code, bind_register, guard_code, head_code}
use Rattle.lmn_machine.specs.Searching.{integers_set}
use Rattle.lmn_verify_compiled.proofs.HeadShapes.{is_check, looks_at_part, asks_membrane, all_items, parts, all_filled}
use Rattle.lmn_schedule_strategy.proofs.GuardIntegers.{differ_sets as differ_none, integers_both, operation_sets as one_operation}

-- code that computes none
abbrev NoInteger : List Instr → Type 0
NoInteger xs = integers_set xs ≡ 0

none_both : (xs ys : List Instr) → NoInteger xs → NoInteger ys → NoInteger (xs ++ ys)
none_both xs ys h g = let e = integers_both xs ys in omega (arith, e, h, g)

checked_none : (i : Instr) → is_check i ≡ true → NoInteger (i ∷ [])
checked_none (GetInt v g) h = absurd (true≢false (sym h))
checked_none (Const v z) h = absurd (true≢false (sym h))
checked_none (Add v w x) h = absurd (true≢false (sym h))
checked_none (Sub v w x) h = absurd (true≢false (sym h))
checked_none (Mul v w x) h = absurd (true≢false (sym h))
checked_none (Div v w x) h = absurd (true≢false (sym h))
checked_none (Mod v w x) h = absurd (true≢false (sym h))
checked_none _ h = refl

looked_none : (i : Instr) → looks_at_part i ≡ true → NoInteger (i ∷ [])
looked_none (GetInt v g) h = absurd (true≢false (sym h))
looked_none (Const v z) h = absurd (true≢false (sym h))
looked_none (Add v w x) h = absurd (true≢false (sym h))
looked_none (Sub v w x) h = absurd (true≢false (sym h))
looked_none (Mul v w x) h = absurd (true≢false (sym h))
looked_none (Div v w x) h = absurd (true≢false (sym h))
looked_none (Mod v w x) h = absurd (true≢false (sym h))
looked_none _ h = refl

asked_none : (i : Instr) → asks_membrane i ≡ true → NoInteger (i ∷ [])
asked_none (GetInt v g) h = absurd (true≢false (sym h))
asked_none (Const v z) h = absurd (true≢false (sym h))
asked_none (Add v w x) h = absurd (true≢false (sym h))
asked_none (Sub v w x) h = absurd (true≢false (sym h))
asked_none (Mul v w x) h = absurd (true≢false (sym h))
asked_none (Div v w x) h = absurd (true≢false (sym h))
asked_none (Mod v w x) h = absurd (true≢false (sym h))
asked_none _ h = refl

found_none : (n : ℕ) (a : HeadAtom) (e : Option Entry) → NoInteger (found_code n a e)
found_none n a None = refl
found_none n a (Some e) = refl

-- ---- guards

no_comparison : (c : Cmp) (v w : ℕ) (xs : List Instr) → integers_set (comparison c v w ∷ xs) ≡ integers_set xs
no_comparison cmp.Lt v w xs = refl
no_comparison cmp.Le v w xs = refl
no_comparison cmp.Gt v w xs = refl
no_comparison cmp.Ge v w xs = refl
no_comparison cmp.Eq v w xs = refl
no_comparison cmp.Ne v w xs = refl

named_few : (g : Option ℕ) (bound v : ℕ) → 1 + integers_set (named_code g bound v).code ≤ 2
named_few None bound v = omega arith
named_few (Some g) bound v = omega arith

-- two for each integer or context are enough, but for one
value_few : (part : ℕ → Option ℕ) (bound : ℕ → ℕ) (e : Expr) (v : ℕ) → 1 + integers_set (value_code part bound e v).code ≤ expression_tokens e + expression_tokens e
value_few part bound (expr.Int z) v = omega arith
value_few part bound (expr.Ctx u) v = named_few (part u.name) (bound u.name) v
value_few part bound (expr.Op' o p left q right) v =
    let a = value_code part bound left v in
    let b = value_code part bound right a.next in
    let op = operator_instruction o b.next a.at b.at in
    let ea = value_few part bound left v in
    let eb = value_few part bound right a.next in
    let eo = one_operation o b.next a.at b.at in
    let s1 = integers_both a.code (b.code ++ (op ∷ [])) in
    let s2 = integers_both b.code (op ∷ []) in
    operation_sum _ _ _ _ _ _ _ s1 s2 eo ea eb
  where
    operation_sum : (w a r b o s t : ℕ) → w ≡ a + r → r ≡ b + o → o ≡ 1 → 1 + a ≤ s + s → 1 + b ≤ t + t → 1 + w ≤ (s + t) + (s + t)
    operation_sum w a r b o s t s1 s2 eo ea eb = omega arith

equal_few : (left right : Option ℕ) (c : Computed) (xs ys : List Instr) (t n : ℕ) → 1 + integers_set c.code ≤ t + t → integers_set xs ≤ n → integers_set ys ≤ n → integers_set (equal_code left right c xs ys) ≤ (t + t) + n
equal_few None right c xs ys t n h a b = let e = integers_both c.code xs in omega (arith, e, h, a)
equal_few (Some l) None c xs ys t n h a b = omega (arith, b)
equal_few (Some l) (Some r) c xs ys t n h a b = let e : integers_set ys ≤ (t + t) + n = omega (arith, b) in e

guard_few : (part : ℕ → Option ℕ) (bound : ℕ → ℕ) (v : ℕ) (cs : List Cond) → integers_set (guard_code part bound v cs) ≤ sum_by condition_tokens cs + sum_by condition_tokens cs
guard_few part bound v [] = omega arith
guard_few part bound v (Kind n args place ∷ cs) = let s = sum_by-cons condition_tokens (Kind n args place) cs in let h = guard_few part bound v cs in omega (arith, s, h)
guard_few part bound v (Compare op left right place ∷ cs) =
    let a = value_code part bound left v in
    let b = value_code part bound right a.next in
    let rest = guard_code part bound b.next cs in
    let s = sum_by-cons condition_tokens (Compare op left right place) cs in
    let h = guard_few part bound b.next cs in
    let ea = value_few part bound left v in
    let eb = value_few part bound right a.next in
    let s1 = integers_both a.code (b.code ++ (comparison op a.at b.at ∷ rest)) in
    let s2 = integers_both b.code (comparison op a.at b.at ∷ rest) in
    let s3 = no_comparison op a.at b.at rest in
    compared_sum _ _ _ _ _ _ _ _ _ _ s1 s2 s3 ea eb h s
  where
    compared_sum : (w a u b x r s t n all : ℕ) → w ≡ a + u → u ≡ b + x → x ≡ r → 1 + a ≤ s + s → 1 + b ≤ t + t → r ≤ n + n → all ≡ (s + t) + n → w ≤ all + all
    compared_sum w a u b x r s t n all s1 s2 s3 ea eb h e = omega arith
guard_few part bound v (Equal left right place ∷ cs) =
    let c = value_code part bound right v in
    let s = sum_by-cons condition_tokens (Equal left right place) cs in
    let n = sum_by condition_tokens cs in
    let h = equal_few (part left.name) (part_named part (context_alone right)) c (guard_code part (bind_register bound left.name c.at) c.next cs) (guard_code part bound v cs) (expression_tokens right) (n + n)
    (value_few part bound right v) (guard_few part (bind_register bound left.name c.at) c.next cs) (guard_few part bound v cs) in
    equal_sum _ _ _ _ h s
  where
    equal_sum : (w t n all : ℕ) → w ≤ (t + t) + (n + n) → all ≡ (1 + t) + n → w ≤ all + all
    equal_sum w t n all h e = omega arith
guard_few part bound v (Differ left right place ∷ cs) =
    let s = sum_by-cons condition_tokens (Differ left right place) cs in
    let h = guard_few part bound v cs in
    let e = integers_both (differ_parts_code (part left.name) (part right.name)) (guard_code part bound v cs) in
    let none = differ_none (part left.name) (part right.name) in
    differ_sum _ _ _ _ _ e none h s
  where
    differ_sum : (w d r n all : ℕ) → w ≡ d + r → d ≡ 0 → r ≤ n + n → all ≡ 2 + n → w ≤ all + all
    differ_sum w d r n all e none h s = omega arith

-- The code of a head computes at most two integers for each integer or context of its guard.
pub head_computes_few : (items : List HeadItem) (guard : List Cond) → integers_set (head_code items guard) ≤ sum_by condition_tokens guard + sum_by condition_tokens guard
head_computes_few items guard =
    let is = items_code items 0 0 items in
    let ps = parts_code items 0 (typed_contexts_of items) in
    let fs = all_filled_code items 1 (membranes_of items) in
    let gs = guard_code (typed_number (typed_contexts_of items) 0) (λ x. 0) 0 guard in
    let e1 = all_items NoInteger refl none_both found_none checked_none items 0 0 items in
    let e2 = parts NoInteger refl none_both looked_none items 0 (typed_contexts_of items) in
    let e3 = all_filled NoInteger refl none_both asked_none items 1 (membranes_of items) in
    let e4 = guard_few (typed_number (typed_contexts_of items) 0) (λ x. 0) 0 guard in
    let s1 = integers_both is (ps ++ (fs ++ (gs ++ (Commit ∷ [])))) in
    let s2 = integers_both ps (fs ++ (gs ++ (Commit ∷ []))) in
    let s3 = integers_both fs (gs ++ (Commit ∷ [])) in
    let s4 = integers_both gs (Commit ∷ []) in
    head_sum _ _ _ _ _ _ _ _ _ s1 s2 s3 s4 e1 e2 e3 e4
  where
    head_sum : (w i r p u f v g n : ℕ) → w ≡ i + r → r ≡ p + u → u ≡ f + v → v ≡ g + 0 → i ≡ 0 → p ≡ 0 → f ≡ 0 → g ≤ n → w ≤ n
    head_sum w i r p u f v g n s1 s2 s3 s4 e1 e2 e3 e4 = omega arith
