-- The registers of the names that a guard binds are among those that its code sets.
use Rattle.std.proofs.Common.{ℕ, ◌≡◌, ◌<◌, ◌≤◌, ◌+◌, ◌⊎◌, inl, inr, List, [], ◌∷◌, ◌++◌, Option, Some, None, refl, sym, ap, ◌∙◌, arith}
use Rattle.std.specs.Prelude.{IsSome, Bool, true, false, ◌==◌, ◌||◌, if◌then◌else◌}
use Rattle.std.specs.List.{list_any}
use Rattle.std.proofs.lemmas.Bool.Decides.{Decides-eqb}
use Rattle.lmn_base.specs.declared.guard.Arith.{Arith}
use Rattle.lmn_base.specs.declared.guard.Arith.TheVariants as op
use Rattle.lmn_base.specs.declared.guard.Cmp.{Cmp}
use Rattle.lmn_base.specs.declared.guard.Cmp.TheVariants as cmp
use Rattle.lmn_base.specs.declared.guard.Expr.{Expr}
use Rattle.lmn_base.specs.declared.guard.Expr.TheVariants as expr
use Rattle.lmn_base.specs.declared.guard.Cond.{Cond}
use Rattle.lmn_base.specs.declared.guard.Cond.TheVariants.{Kind, Compare, Equal, Differ}
use Rattle.lmn_base_walks.specs.RuleCodes.{is_left_of}
use Rattle.lmn_solid_heads.specs.declared.items.HeadItem.{HeadItem}
use Rattle.lmn_solid_heads.specs.Heads.{HeadTyped, typed_contexts_of, membranes_of}
use Rattle.lmn_solid_heads.specs.Guards.{typed_number, context_alone}
use Rattle.lmn_instr_code.specs.declared.instr.Instr.{Instr}
use Rattle.lmn_instr_code.specs.declared.instr.Instr.TheVariants.{Commit}
use Rattle.lmn_instr_code.specs.HeadCode.{Computed, operator_instruction, named_code, value_code, comparison, part_named, equal_code, differ_parts_code, bind_register, guard_code, head_code, items_code, parts_code, all_filled_code}
use Rattle.lmn_compile_head.specs.Heads.{UsesKnown, EqualAllowed, IsGuard}
use Rattle.lmn_compile_body.specs.Naming.{equal_registers, guard_registers}
use Rattle.lmn_machine.specs.Searching.{integers_set}
use Rattle.lmn_machine.proofs.Stepping.{integers_more as one_more}
use Rattle.lmn_base.specs.Lists.{In}

-- ---- how many integers code sets

pub integers_both : (xs ys : List Instr) → integers_set (xs ++ ys) ≡ integers_set xs + integers_set ys
integers_both [] ys = omega arith
integers_both (x ∷ xs) ys =
    let a = one_more x (xs ++ ys) in
    let b = one_more x xs in
    let c = integers_both xs ys in
    omega (arith, a, b, c)

pub operation_sets : (o : Arith) (v w x : ℕ) → integers_set (operator_instruction o v w x ∷ []) ≡ 1
operation_sets op.Add v w x = refl
operation_sets op.Sub v w x = refl
operation_sets op.Mul v w x = refl
operation_sets op.Div v w x = refl
operation_sets op.Mod v w x = refl

comparison_sets : (c : Cmp) (v w : ℕ) → integers_set (comparison c v w ∷ []) ≡ 0
comparison_sets cmp.Lt v w = refl
comparison_sets cmp.Le v w = refl
comparison_sets cmp.Gt v w = refl
comparison_sets cmp.Ge v w = refl
comparison_sets cmp.Eq v w = refl
comparison_sets cmp.Ne v w = refl

pub differ_sets : (g k : Option ℕ) → integers_set (differ_parts_code g k) ≡ 0
differ_sets None k = refl
differ_sets (Some g) None = refl
differ_sets (Some g) (Some k) = refl

-- ---- the register of a value

-- the next register is behind those that are set, and the value is in one before it
record IsIn (v : ℕ) (c : Computed) : Type 0 where
  next : c.next ≡ v + integers_set c.code
  at : c.at < c.next

module _ (part : ℕ → Option ℕ) (bound : ℕ → ℕ) (known : List ℕ) where
  named_in : (x : ℕ) (p : Option ℕ) (v : ℕ) → IsSome p ⊎ In x known → ((y : ℕ) → In y known → bound y < v) → IsIn v (named_code p (bound x) v)
  named_in x None v (inl u) below = absurd (cc)
  named_in x None v (inr u) below = record { next = omega arith; at = below x u }
  named_in x (Some g) v u below = record { next = omega arith; at = omega arith }

  value_in : (e : Expr) (v : ℕ) → UsesKnown part known e → ((y : ℕ) → In y known → bound y < v) → IsIn v (value_code part bound e v)
  value_in (expr.Int z) v u below = record { next = omega arith; at = omega arith }
  value_in (expr.Ctx x) v u below = named_in x.name (part x.name) v u below
  value_in (expr.Op' o p left q right) v u below =
      let ca = value_code part bound left v in
      let cb = value_code part bound right ca.next in
      let a = value_in left v u.0 below in
      let an = a.next in
      let b = value_in right ca.next u.1 (λ y s. let l = below y s in omega (arith, l, an)) in
      let bn = b.next in
      let last = operation_sets o cb.next ca.at cb.at in
      let c = integers_both ca.code (cb.code ++ (operator_instruction o cb.next ca.at cb.at ∷ [])) in
      let d = integers_both cb.code (operator_instruction o cb.next ca.at cb.at ∷ []) in
      record { next = omega (arith, an, bn, last, c, d); at = omega arith }

-- ---- the registers of names

bound_if : (bound : ℕ → ℕ) (known : List ℕ) (x at v n y : ℕ) (b : Bool) → (y == x) ≡ b → ((z : ℕ) → In z known → bound z < v) → v ≤ n → at < n → In y (x ∷ known) → (if b then at else bound y) < n
bound_if bound known x at v n y true t below l k s = k
bound_if bound known x at v n y false t below l k (inl e) = let u = (Decides-eqb y x).1 (sym e) in absurd (cc)
bound_if bound known x at v n y false t below l k (inr s) = let r = below y s in omega (arith, r, l)

-- the name is bound before, or by these conditions
abbrev WillBe : ℕ → List ℕ → List Cond → Type 0
WillBe x known cs = In x known ⊎ (list_any (is_left_of x) cs ≡ true)

module _ (ts : List HeadTyped) (x : ℕ) (none : typed_number ts 0 x ≡ None) where
  abbrev part : ℕ → Option ℕ
  part = typed_number ts 0

  -- `=` binds the name on its left, if that is no typed context
  left_new : (name : ℕ) (known : List ℕ) (cs : List Cond) → In x known ⊎ (((name == x) || list_any (is_left_of x) cs) ≡ true) → WillBe x (name ∷ known) cs
  left_new name known cs (inl i) = inl (inr i)
  left_new name known cs (inr e) = by (name == x) refl e
    where
      by : (b : Bool) → (name == x) ≡ b → (b || list_any (is_left_of x) cs) ≡ true → WillBe x (name ∷ known) cs
      by true t e = inl (inl ((Decides-eqb name x).0 t))
      by false t e = inr e

  left_old : (name g : ℕ) (known : List ℕ) (cs : List Cond) → part name ≡ Some g → In x known ⊎ (((name == x) || list_any (is_left_of x) cs) ≡ true) → WillBe x known cs
  left_old name g known cs p (inl i) = inl i
  left_old name g known cs p (inr e) = by (name == x) refl e
    where
      by : (b : Bool) → (name == x) ≡ b → (b || list_any (is_left_of x) cs) ≡ true → WillBe x known cs
      by true t e =
          let same : name ≡ x = (Decides-eqb name x).0 t in
          let clash : Some g ≡ None = sym p ∙ (ap part same ∙ none) in
          absurd (cc)
      by false t e = inr e

  equal_in : (pl pr : Option ℕ) (c : Computed) (bcode ccode : List Instr) (bs cs : ℕ → ℕ) (v : ℕ) (Known Bound Compared : Type 0) → EqualAllowed pl pr Known Bound Compared →
      (pl ≡ None → Known → Bound → bs x < v + (integers_set c.code + integers_set bcode)) → ((g : ℕ) → pl ≡ Some g → Compared → cs x < v + integers_set ccode) →
      equal_registers pl bs cs x < v + integers_set (equal_code pl pr c bcode ccode)
  equal_in None pr c bcode ccode bs cs v Known Bound Compared a new old =
      let e = integers_both c.code bcode in let l = new refl a.0 a.1 in omega (arith, e, l)
  equal_in (Some g) None c bcode ccode bs cs v Known Bound Compared a new old = absurd a
  equal_in (Some g) (Some k) c bcode ccode bs cs v Known Bound Compared a new old = old g refl a

  register_in : (cs : List Cond) (v : ℕ) (known : List ℕ) (bound : ℕ → ℕ) → IsGuard ts known cs → ((y : ℕ) → In y known → bound y < v) → WillBe x known cs →
      guard_registers (typed_number ts 0) bound v cs x < v + integers_set (guard_code (typed_number ts 0) bound v cs)
  register_in [] v known bound is below (inl i) = let l = below x i in omega (arith, l)
  register_in [] v known bound is below (inr e) = absurd (cc)
  register_in (Kind n args pos ∷ cs) v known bound is below w = register_in cs v known bound is.1 below w
  register_in (Compare o left right pos ∷ cs) v known bound is below w =
      let ca = value_code part bound left v in
      let cb = value_code part bound right ca.next in
      let rest = guard_code part bound cb.next cs in
      let a = (value_in part bound known left v is.0.0 below).next in
      let more : (y : ℕ) → In y known → bound y < ca.next = λ y s. let l = below y s in omega (arith, l, a) in
      let b = (value_in part bound known right ca.next is.0.1 more).next in
      let c = integers_both ca.code (cb.code ++ (comparison o ca.at cb.at ∷ rest)) in
      let d = integers_both cb.code (comparison o ca.at cb.at ∷ rest) in
      let e = integers_both (comparison o ca.at cb.at ∷ []) rest in
      let f = comparison_sets o ca.at cb.at in
      let later = register_in cs cb.next known bound is.1 (λ y s. let l = below y s in omega (arith, l, a, b)) w in
      omega (arith, a, b, c, d, e, f, later)
  register_in (Equal left right pos ∷ cs) v known bound is below w =
      let c = value_code part bound right v in
      let next_code = guard_code part (bind_register bound left.name c.at) c.next cs in
      equal_in (part left.name) (part_named part (context_alone right)) c next_code (guard_code part bound v cs) (guard_registers part (bind_register bound left.name c.at) c.next cs) (guard_registers part bound v cs) v
      (UsesKnown part known right) (IsGuard ts (left.name ∷ known) cs) (IsGuard ts known cs) is
      (λ p uses later. (let i = value_in part bound known right v uses below in
      let n = i.next in
      let l = register_in cs c.next (left.name ∷ known) (bind_register bound left.name c.at) later
      (λ y s. bound_if bound known left.name c.at v c.next y (y == left.name) refl below (omega (arith, n)) i.at s) (left_new left.name known cs w) in
      omega (arith, n, l)))
      (λ g p later. register_in cs v known bound later below (left_old left.name g known cs p w))
  register_in (Differ left right pos ∷ cs) v known bound is below w =
      let a = integers_both (differ_parts_code (part left.name) (part right.name)) (guard_code part bound v cs) in
      let b = differ_sets (part left.name) (part right.name) in
      let later = register_in cs v known bound is.1 below w in
      omega (arith, a, b, later)

-- a name that the guard binds has a register that the head sets
pub bound_below : (items : List HeadItem) (guard : List Cond) (x : ℕ) → IsGuard (typed_contexts_of items) [] guard → typed_number (typed_contexts_of items) 0 x ≡ None → list_any (is_left_of x) guard ≡ true →
    guard_registers (typed_number (typed_contexts_of items) 0) (λ z. 0) 0 guard x < integers_set (head_code items guard)
bound_below items guard x is none left =
    let ts = typed_contexts_of items in
    let ps = parts_code items 0 ts in
    let fs = all_filled_code items 1 (membranes_of items) in
    let gs = guard_code (typed_number ts 0) (λ z. 0) 0 guard in
    let a = integers_both (items_code items 0 0 items) (ps ++ (fs ++ (gs ++ (Commit ∷ [])))) in
    let b = integers_both ps (fs ++ (gs ++ (Commit ∷ []))) in
    let c = integers_both fs (gs ++ (Commit ∷ [])) in
    let d = integers_both gs (Commit ∷ []) in
    let l = register_in ts x none guard 0 [] (λ z. 0) is (λ y i. absurd i) (inr left) in
    omega (arith, a, b, c, d, l)
