-- The code of a guard sets its integers in order.
use Rattle.std.proofs.Common.{ℕ, suc, ◌≡◌, ◌<◌, ◌≤◌, ◌+◌, ◌⊎◌, inl, inr, List, [], ◌∷◌, ◌++◌, Option, Some, None, refl, arith, sym, length, append_assoc}
use Rattle.std.specs.Prelude.{IsSome, sum_by, Bool, true, false, ◌==◌, if◌then◌else◌}
use Rattle.std.proofs.lemmas.Bool.Decides.{Decides-eqb}
use Rattle.std.proofs.lemmas.List.Sums.{sum_by-cons}
use Rattle.lmn_base.specs.declared.guard.Arith.{Arith}
use Rattle.lmn_base.specs.declared.guard.Arith.TheVariants as op
use Rattle.lmn_base.specs.declared.guard.Cmp.{Cmp}
use Rattle.lmn_base.specs.declared.guard.Cmp.TheVariants as cmp
use Rattle.lmn_base.specs.declared.guard.Expr.{Expr}
use Rattle.lmn_base.specs.declared.guard.Expr.TheVariants as expr
use Rattle.lmn_base.specs.declared.guard.Cond.{Cond}
use Rattle.lmn_base.specs.declared.guard.Cond.TheVariants.{Kind, Compare, Equal, Differ}
use Rattle.lmn_base_walks.specs.RuleCodes.{condition_tokens, expression_tokens}
use Rattle.lmn_solid_heads.specs.Heads.{HeadTyped}
use Rattle.lmn_solid_heads.specs.Guards.{typed_number, context_alone}
use Rattle.lmn_instr_code.specs.declared.instr.Instr.{Instr}
use Rattle.lmn_instr_code.specs.HeadCode.{Computed, operator_instruction, named_code, value_code, comparison, part_named, equal_code, differ_parts_code, bind_register, guard_code}
use Rattle.lmn_compile_head.specs.Heads.{UsesKnown, EqualAllowed, IsGuard}
use Rattle.lmn_machine_registers.specs.declared.stack.TheConstants.{ROOM}
use Rattle.lmn_machine.specs.Searching.{HeadInOrder}
use Rattle.lmn_base.specs.Lists.{In}

-- what is known of the registers of an expression: the value is in one before the next, and two for each integer or context
-- are enough
pub record Few (v tokens : ℕ) (c : Computed) : Type 0 where
  pub more : v ≤ c.next
  pub at : c.at < c.next
  pub few : c.next + 1 ≤ v + (tokens + tokens)

module _ (part : ℕ → Option ℕ) (bound : ℕ → ℕ) (known : List ℕ) where
  named_few : (x : ℕ) (p : Option ℕ) (v : ℕ) → IsSome p ⊎ In x known → ((y : ℕ) → In y known → bound y < v) → Few v 1 (named_code p (bound x) v)
  named_few x None v (inl u) below = absurd (cc)
  named_few x None v (inr u) below = record { more = omega arith; at = below x u; few = omega arith }
  named_few x (Some g) v u below = record { more = omega arith; at = omega arith; few = omega arith }

  value_few : (e : Expr) (v : ℕ) → UsesKnown part known e → ((y : ℕ) → In y known → bound y < v) → Few v (expression_tokens e) (value_code part bound e v)
  value_few (expr.Int z) v u below = record { more = omega arith; at = omega arith; few = omega arith }
  value_few (expr.Ctx x) v u below = named_few x.name (part x.name) v u below
  value_few (expr.Op' o p left q right) v u below =
      let a = value_few left v u.0 below in
      let am = a.more in
      let af = a.few in
      let b = value_few right (value_code part bound left v).next u.1 (λ y s. let l = below y s in omega (arith, l, am)) in
      let bm = b.more in
      let bf = b.few in
      record { more = omega (arith, am, bm); at = omega arith; few = omega (arith, af, bf) }

module _ (a m g : ℕ) where
  operation_order : (o : Arith) (v w x : ℕ) (ys : List Instr) → v < ROOM → w < v → x < v → HeadInOrder a m g (v + 1) ys → HeadInOrder a m g v (operator_instruction o v w x ∷ ys)
  operation_order op.Add v w x ys r l k o = (((refl, r), l, k), o)
  operation_order op.Sub v w x ys r l k o = (((refl, r), l, k), o)
  operation_order op.Mul v w x ys r l k o = (((refl, r), l, k), o)
  operation_order op.Div v w x ys r l k o = (((refl, r), l, k), o)
  operation_order op.Mod v w x ys r l k o = (((refl, r), l, k), o)

  comparison_order : (c : Cmp) (v w n : ℕ) (ys : List Instr) → v < n → w < n → HeadInOrder a m g n ys → HeadInOrder a m g n (comparison c v w ∷ ys)
  comparison_order cmp.Lt v w n ys l k o = ((l, k), o)
  comparison_order cmp.Le v w n ys l k o = ((l, k), o)
  comparison_order cmp.Gt v w n ys l k o = ((l, k), o)
  comparison_order cmp.Ge v w n ys l k o = ((l, k), o)
  comparison_order cmp.Eq v w n ys l k o = ((l, k), o)
  comparison_order cmp.Ne v w n ys l k o = ((l, k), o)

  module _ (part : ℕ → Option ℕ) (parts : (x k : ℕ) → part x ≡ Some k → k < g) where
    named_order : (x : ℕ) (p : Option ℕ) (b v : ℕ) (ys : List Instr) → part x ≡ p → (named_code p b v).next ≤ ROOM → HeadInOrder a m g (named_code p b v).next ys → HeadInOrder a m g v ((named_code p b v).code ++ ys)
    named_order x None b v ys e r o = o
    named_order x (Some k) b v ys e r o = (((refl, omega (arith, r)), parts x k e), o)

    value_order : (bound : ℕ → ℕ) (known : List ℕ) (e : Expr) (v : ℕ) (ys : List Instr) → UsesKnown part known e → ((y : ℕ) → In y known → bound y < v) → (value_code part bound e v).next ≤ ROOM →
        HeadInOrder a m g (value_code part bound e v).next ys → HeadInOrder a m g v ((value_code part bound e v).code ++ ys)
    value_order bound known (expr.Int z) v ys u below r o = ((refl, omega (arith, r)), o)
    value_order bound known (expr.Ctx x) v ys u below r o = named_order x.name (part x.name) (bound x.name) v ys refl r o
    value_order bound known (expr.Op' o p left q right) v ys u below r n =
        let ca = value_code part bound left v in
        let cb = value_code part bound right ca.next in
        let fa = value_few part bound known left v u.0 below in
        let am = fa.more in
        let more : (y : ℕ) → In y known → bound y < ca.next = λ y s. let l = below y s in omega (arith, l, am) in
        let fb = value_few part bound known right ca.next u.1 more in
        let bm = fb.more in
        let aa = fa.at in
        let ba = fb.at in
        let last = operation_order o cb.next ca.at cb.at ys (omega (arith, r)) (omega (arith, aa, bm)) ba n in
        let second = value_order bound known right ca.next (operator_instruction o cb.next ca.at cb.at ∷ ys) u.1 more (omega (arith, r)) last in
        rw (append_assoc ca.code (cb.code ++ (operator_instruction o cb.next ca.at cb.at ∷ [])) ys) (rw (append_assoc cb.code (operator_instruction o cb.next ca.at cb.at ∷ []) ys)
        (value_order bound known left v (cb.code ++ (operator_instruction o cb.next ca.at cb.at ∷ ys)) u.0 below (omega (arith, r, bm)) second))

    named_part : (o : Option ℕ) (k : ℕ) → part_named part o ≡ Some k → k < g
    named_part None k e = absurd (cc)
    named_part (Some x) k e = parts x k e

    equal_order : (pl pr : Option ℕ) (c : Computed) (v : ℕ) (next same ys : List Instr) (Known Bound Compared : Type 0) → ((k : ℕ) → pl ≡ Some k → k < g) → ((k : ℕ) → pr ≡ Some k → k < g) → EqualAllowed pl pr Known Bound Compared →
        (Known → Bound → HeadInOrder a m g v (c.code ++ (next ++ ys))) → (Compared → HeadInOrder a m g v (same ++ ys)) → HeadInOrder a m g v (equal_code pl pr c next same ++ ys)
    equal_order None pr c v next same ys Known Bound Compared l r u n s = rw append_assoc (n u.0 u.1)
    equal_order (Some k) None c v next same ys Known Bound Compared l r u n s = absurd u
    equal_order (Some k) (Some j) c v next same ys Known Bound Compared l r u n s = ((l k refl, r j refl), s u)

    differ_order : (pl pr : Option ℕ) (v : ℕ) (ys : List Instr) → ((k : ℕ) → pl ≡ Some k → k < g) → ((k : ℕ) → pr ≡ Some k → k < g) → HeadInOrder a m g v ys → HeadInOrder a m g v (differ_parts_code pl pr ++ ys)
    differ_order None pr v ys l r o = o
    differ_order (Some k) None v ys l r o = o
    differ_order (Some k) (Some j) v ys l r o = ((l k refl, r j refl), o)

  bind_below : (bound : ℕ → ℕ) (known : List ℕ) (x at v n y : ℕ) (b : Bool) → (y == x) ≡ b → ((z : ℕ) → In z known → bound z < v) → v ≤ n → at < n → In y (x ∷ known) → (if b then at else bound y) < n
  bind_below bound known x at v n y true t below l k s = k
  bind_below bound known x at v n y false t below l k (inl e) = let u = (Decides-eqb y x).1 (sym e) in absurd (cc)
  bind_below bound known x at v n y false t below l k (inr s) = let r = below y s in omega (arith, r, l)

  -- a typed context has a number below that of all
  number_by : (t : HeadTyped) (ts : List HeadTyped) (n x k : ℕ) (b : Bool) → (if b then Some n else typed_number ts (n + 1) x) ≡ Some k → (typed_number ts (n + 1) x ≡ Some k → k < (n + 1) + length ts) → k < n + suc (length ts)
  number_by t ts n x k true f later = let s : n ≡ k = cc in omega (arith, s)
  number_by t ts n x k false f later = let l = later f in omega (arith, l)

  number_below : (ts : List HeadTyped) (n x k : ℕ) → typed_number ts n x ≡ Some k → k < n + length ts
  number_below [] n x k e = absurd (cc)
  number_below (t ∷ ts) n x k e = number_by t ts n x k (t.name == x) e (λ f. number_below ts (n + 1) x k f)

  module _ (ts : List HeadTyped) (few : length ts ≤ g) where
    parts_below : (x k : ℕ) → typed_number ts 0 x ≡ Some k → k < g
    parts_below x k e = let l = number_below ts 0 x k e in omega (arith, l, few)

    pub guard_order : (cs : List Cond) (v : ℕ) (known : List ℕ) (bound : ℕ → ℕ) (ys : List Instr) → IsGuard ts known cs → ((x : ℕ) → In x known → bound x < v) → v + (sum_by condition_tokens cs + sum_by condition_tokens cs) ≤ ROOM →
        ((w : ℕ) → HeadInOrder a m g w ys) → HeadInOrder a m g v (guard_code (typed_number ts 0) bound v cs ++ ys)
    guard_order [] v known bound ys u below r o = o v
    guard_order (Kind n args pos ∷ cs) v known bound ys u below r o =
        let sum = sum_by-cons condition_tokens (Kind n args pos) cs in
        guard_order cs v known bound ys u.1 below (omega (arith, sum, r)) o
    guard_order (Compare c left right pos ∷ cs) v known bound ys u below r o =
        let part = typed_number ts 0 in
        let sum = sum_by-cons condition_tokens (Compare c left right pos) cs in
        let ca = value_code part bound left v in
        let cb = value_code part bound right ca.next in
        let rest = guard_code part bound cb.next cs in
        let fa = value_few part bound known left v u.0.0 below in
        let am = fa.more in
        let af = fa.few in
        let aa = fa.at in
        let more : (y : ℕ) → In y known → bound y < ca.next = λ y s. let l = below y s in omega (arith, l, am) in
        let fb = value_few part bound known right ca.next u.0.1 more in
        let bm = fb.more in
        let bf = fb.few in
        let later = guard_order cs cb.next known bound ys u.1 (λ y s. let l = below y s in omega (arith, l, am, bm)) (omega (arith, sum, r, af, bf)) o in
        let third = comparison_order c ca.at cb.at cb.next (rest ++ ys) (omega (arith, aa, bm)) fb.at later in
        let second = value_order part parts_below bound known right ca.next (comparison c ca.at cb.at ∷ (rest ++ ys)) u.0.1 more (omega (arith, sum, r, af, bf)) third in
        rw (append_assoc ca.code (cb.code ++ (comparison c ca.at cb.at ∷ rest)) ys) (rw (append_assoc cb.code (comparison c ca.at cb.at ∷ rest) ys)
        (value_order part parts_below bound known left v (cb.code ++ (comparison c ca.at cb.at ∷ (rest ++ ys))) u.0.0 below (omega (arith, sum, r, af, bf, bm)) second))
    guard_order (Equal left right pos ∷ cs) v known bound ys u below r o =
        let part = typed_number ts 0 in
        let sum = sum_by-cons condition_tokens (Equal left right pos) cs in
        let c = value_code part bound right v in
        equal_order part parts_below (part left.name) (part_named part (context_alone right)) c v (guard_code part (bind_register bound left.name c.at) c.next cs) (guard_code part bound v cs) ys
        (UsesKnown part known right) (IsGuard ts (left.name ∷ known) cs) (IsGuard ts known cs) (λ k e. parts_below left.name k e) (λ k e. named_part part parts_below (context_alone right) k e) u
        (λ uses later. (let f = value_few part bound known right v uses below in
        let fm = f.more in
        let ff = f.few in
        value_order part parts_below bound known right v (guard_code part (bind_register bound left.name c.at) c.next cs ++ ys) uses below (omega (arith, sum, r, ff))
        (guard_order cs c.next (left.name ∷ known) (bind_register bound left.name c.at) ys later (λ y s. bind_below bound known left.name c.at v c.next y (y == left.name) refl below f.more f.at s) (omega (arith, sum, r, ff)) o)))
        (λ later. guard_order cs v known bound ys later below (omega (arith, sum, r)) o)
    guard_order (Differ left right pos ∷ cs) v known bound ys u below r o =
        let part = typed_number ts 0 in
        let sum = sum_by-cons condition_tokens (Differ left right pos) cs in
        rw (append_assoc (differ_parts_code (part left.name) (part right.name)) (guard_code part bound v cs) ys)
        (differ_order part parts_below (part left.name) (part right.name) v (guard_code part bound v cs ++ ys) (λ k e. parts_below left.name k e) (λ k e. parts_below right.name k e) (guard_order cs v known bound ys u.1 below (omega (arith, sum, r)) o))
