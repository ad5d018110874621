-- How many registers the code of a head sets.
use Rattle.std.proofs.Common.{ℕ, suc, ◌≡◌, ◌+◌, List, [], ◌∷◌, ◌++◌, Option, Some, None, refl, arith, length, take, append_assoc, ◌∙◌}
use Rattle.lmn_base.specs.declared.guard.Arith.{Arith}
use Rattle.lmn_base.specs.declared.guard.Arith.TheVariants as op
use Rattle.lmn_base.specs.declared.guard.Cmp.{Cmp}
use Rattle.lmn_base.specs.declared.guard.Cmp.TheVariants as cmp
use Rattle.lmn_base.specs.declared.guard.Expr.{Expr}
use Rattle.lmn_base.specs.declared.guard.Expr.TheVariants as expr
use Rattle.lmn_base.specs.declared.guard.Cond.{Cond}
use Rattle.lmn_base.specs.declared.guard.Cond.TheVariants.{Kind, Compare, Equal, Differ}
use Rattle.lmn_guards.specs.declared.plan.TypeKind.{TypeKind}
use Rattle.lmn_guards.specs.declared.plan.TypeKind.TheVariants as kind
use Rattle.lmn_solid_heads.specs.declared.items.HeadItem.{HeadItem}
use Rattle.lmn_solid_heads.specs.declared.items.HeadItem.TheVariants.{Atom, Typed, Membrane}
use Rattle.lmn_solid_heads.specs.Heads.{HeadAtom, HeadTyped, HeadMembrane, atoms_of, typed_contexts_of, membranes_of, at_atoms}
use Rattle.lmn_solid_heads.specs.Guards.{typed_number, context_alone}
use Rattle.lmn_solid_heads.specs.Embeddings.{HasLink}
use Rattle.lmn_instr_code.specs.declared.instr.AtomPort.{AtomPort}
use Rattle.lmn_instr_code.specs.declared.instr.Instr.{Instr}
use Rattle.lmn_instr_code.specs.declared.instr.Instr.TheVariants.{AnyMem, IsInt, IsUnary, IsGround, IsClosed, Commit}
use Rattle.lmn_instr_code.specs.HeadCode.{Entry, Computed, items_code, atom_code, found_code, entry, differ_code, ports_code, differ_membrane_code, all_filled_code, find_port, operand, test_of, part_code, parts_code, operator_instruction, named_code, value_code, comparison, part_named, equal_code, differ_parts_code, bind_register, guard_code, head_code}
use Rattle.lmn_compile_head.specs.Heads.{IsHead}
use Rattle.lmn_compile_head.proofs.Places.{find_missed, stands_at}
use Rattle.lmn_instr_code.specs.Running.{membranes_set}
use Rattle.lmn_machine.specs.Searching.{parts_set}
use Rattle.lmn_machine_laws.proofs.Order.{PlainReads, ReadAll, FilledReads, FilledAll, take_short, differ_reads, ports_read, differ_membranes_read, all_filled_reads, AreSet, all_set}
use Rattle.lmn_base.specs.Graphs.{Port}

-- code that sets neither a membrane nor a typed context
record Quiet (xs : List Instr) : Type 0 where
  none : (ys : List Instr) → (membranes_set (xs ++ ys) ≡ membranes_set ys) × (parts_set (xs ++ ys) ≡ parts_set ys)

quiet_nothing : Quiet []
quiet_nothing = record { none = λ ys. (refl, refl) }

quiet_both : (xs ys : List Instr) → Quiet xs → Quiet ys → Quiet (xs ++ ys)
quiet_both xs ys a b = record { none = λ zs. (let u = a.none (ys ++ zs) in let v = b.none zs in rw append_assoc (u.0 ∙ v.0, u.1 ∙ v.1)) }

quiet_test : (a m g : ℕ) (i : Instr) → PlainReads a m g i → (ys : List Instr) → (membranes_set (i ∷ ys) ≡ membranes_set ys) × (parts_set (i ∷ ys) ≡ parts_set ys)
quiet_test a m g (AnyMem x y) r ys = absurd r
quiet_test a m g (IsInt x p y) r ys = absurd r
quiet_test a m g (IsUnary x p y) r ys = absurd r
quiet_test a m g (IsGround x p y) r ys = absurd r
quiet_test a m g _ r ys = (refl, refl)

quiet_tests : (a m g : ℕ) (xs : List Instr) → ReadAll a m g xs → Quiet xs
quiet_tests a m g [] r = quiet_nothing
quiet_tests a m g (i ∷ is) r = record { none = λ ys. (let u = quiet_test a m g i r.0 (is ++ ys) in let v = (quiet_tests a m g is r.1).none ys in (u.0 ∙ v.0, u.1 ∙ v.1)) }

quiet_filled : (a m g : ℕ) (i : Instr) → FilledReads a m g i → (ys : List Instr) → (membranes_set (i ∷ ys) ≡ membranes_set ys) × (parts_set (i ∷ ys) ≡ parts_set ys)
quiet_filled a m g (IsClosed x gs) r ys = (refl, refl)
quiet_filled a m g i r ys = quiet_test a m g i r ys

quiet_all_filled : (a m g : ℕ) (xs : List Instr) → FilledAll a m g xs → Quiet xs
quiet_all_filled a m g [] r = quiet_nothing
quiet_all_filled a m g (i ∷ is) r = record { none = λ ys. (let u = quiet_filled a m g i r.0 (is ++ ys) in let v = (quiet_all_filled a m g is r.1).none ys in (u.0 ∙ v.0, u.1 ∙ v.1)) }

quiet_found : (n : ℕ) (a : HeadAtom) (e : Option Entry) → Quiet (found_code n a e)
quiet_found n a None = record { none = λ ys. (refl, refl) }
quiet_found n a (Some e) = record { none = λ ys. (refl, refl) }

quiet_operation : (o : Arith) (v w x : ℕ) → Quiet (operator_instruction o v w x ∷ [])
quiet_operation op.Add v w x = record { none = λ ys. (refl, refl) }
quiet_operation op.Sub v w x = record { none = λ ys. (refl, refl) }
quiet_operation op.Mul v w x = record { none = λ ys. (refl, refl) }
quiet_operation op.Div v w x = record { none = λ ys. (refl, refl) }
quiet_operation op.Mod v w x = record { none = λ ys. (refl, refl) }

quiet_comparison : (c : Cmp) (v w : ℕ) → Quiet (comparison c v w ∷ [])
quiet_comparison cmp.Lt v w = record { none = λ ys. (refl, refl) }
quiet_comparison cmp.Le v w = record { none = λ ys. (refl, refl) }
quiet_comparison cmp.Gt v w = record { none = λ ys. (refl, refl) }
quiet_comparison cmp.Ge v w = record { none = λ ys. (refl, refl) }
quiet_comparison cmp.Eq v w = record { none = λ ys. (refl, refl) }
quiet_comparison cmp.Ne v w = record { none = λ ys. (refl, refl) }

quiet_named : (p : Option ℕ) (b v : ℕ) → Quiet (named_code p b v).code
quiet_named None b v = quiet_nothing
quiet_named (Some g) b v = record { none = λ ys. (refl, refl) }

quiet_value : (part : ℕ → Option ℕ) (bound : ℕ → ℕ) (e : Expr) (v : ℕ) → Quiet (value_code part bound e v).code
quiet_value part bound (expr.Int z) v = record { none = λ ys. (refl, refl) }
quiet_value part bound (expr.Ctx u) v = quiet_named (part u.name) (bound u.name) v
quiet_value part bound (expr.Op' o p left q right) v =
    let a = value_code part bound left v in
    let b = value_code part bound right a.next in
    quiet_both a.code (b.code ++ (operator_instruction o b.next a.at b.at ∷ [])) (quiet_value part bound left v)
    (quiet_both b.code (operator_instruction o b.next a.at b.at ∷ []) (quiet_value part bound right a.next) (quiet_operation o b.next a.at b.at))

quiet_equal : (g k : Option ℕ) (c : Computed) (bound compared : List Instr) → Quiet c.code → Quiet bound → Quiet compared → Quiet (equal_code g k c bound compared)
quiet_equal None k c bound compared s t u = quiet_both c.code bound s t
quiet_equal (Some g) None c bound compared s t u = u
quiet_equal (Some g) (Some k) c bound compared s t u = record { none = λ ys. (let v = u.none ys in (v.0, v.1)) }

quiet_differ : (g k : Option ℕ) → Quiet (differ_parts_code g k)
quiet_differ None k = quiet_nothing
quiet_differ (Some g) None = quiet_nothing
quiet_differ (Some g) (Some k) = record { none = λ ys. (refl, refl) }

quiet_guard : (part : ℕ → Option ℕ) (bound : ℕ → ℕ) (v : ℕ) (cs : List Cond) → Quiet (guard_code part bound v cs)
quiet_guard part bound v [] = quiet_nothing
quiet_guard part bound v (Kind n args pos ∷ cs) = quiet_guard part bound v cs
quiet_guard part bound v (Compare o left right pos ∷ cs) =
    let a = value_code part bound left v in
    let b = value_code part bound right a.next in
    let rest = guard_code part bound b.next cs in
    quiet_both a.code (b.code ++ (comparison o a.at b.at ∷ rest)) (quiet_value part bound left v)
    (quiet_both b.code (comparison o a.at b.at ∷ rest) (quiet_value part bound right a.next)
    (quiet_both (comparison o a.at b.at ∷ []) rest (quiet_comparison o a.at b.at) (quiet_guard part bound b.next cs)))
quiet_guard part bound v (Equal left right pos ∷ cs) =
    let c = value_code part bound right v in
    quiet_equal (part left.name) (part_named part (context_alone right)) c (guard_code part (bind_register bound left.name c.at) c.next cs) (guard_code part bound v cs)
    (quiet_value part bound right v) (quiet_guard part (bind_register bound left.name c.at) c.next cs) (quiet_guard part bound v cs)
quiet_guard part bound v (Differ left right pos ∷ cs) =
    quiet_both (differ_parts_code (part left.name) (part right.name)) (guard_code part bound v cs) (quiet_differ (part left.name) (part right.name)) (quiet_guard part bound v cs)

module _ (items : List HeadItem) (head : IsHead items) where
  quiet_atom : (n : ℕ) (a : HeadAtom) → Quiet (atom_code items n a)
  quiet_atom n a =
      let ds = differ_code n a 0 (take n (atoms_of items)) in
      let ps = ports_code items n a 0 a.links in
      let k = take_short items head n (atoms_of items) in
      quiet_both (found_code n a (entry items n a)) (ds ++ ps) (quiet_found n a (entry items n a))
      (quiet_both ds ps (quiet_tests (n + 1) 0 0 ds (differ_reads items head n 0 a 0 (take n (atoms_of items)) (omega (arith, k))))
      (quiet_tests (n + 1) (a.inside + 1) 0 ps (ports_read items head n (a.inside + 1) a 0 a.links (omega arith))))

  quiet_differs : (k : ℕ) (b : HeadMembrane) (j : ℕ) (ds : List HeadMembrane) → Quiet (differ_membrane_code k b j ds)
  quiet_differs k b j ds = let m = suc k + (j + length ds) in quiet_tests 0 m 0 (differ_membrane_code k b j ds) (differ_membranes_read items head 0 k m b j ds (omega arith) (omega arith))

  items_counted : (n i : ℕ) (xs : List HeadItem) (zs : List Instr) →
      (membranes_set (items_code items n i xs ++ zs) ≡ length (membranes_of xs) + membranes_set zs) × (parts_set (items_code items n i xs ++ zs) ≡ parts_set zs)
  items_counted n i [] zs = (omega arith, refl)
  items_counted n i (Atom f ls m ∷ xs) zs =
      let a : HeadAtom = record { functor = f; links = ls; inside = m } in
      let u = (quiet_atom n a).none (items_code items (n + 1) i xs ++ zs) in
      let v = items_counted (n + 1) i xs zs in
      rw (append_assoc (atom_code items n a) (items_code items (n + 1) i xs) zs) (u.0 ∙ v.0, u.1 ∙ v.1)
  items_counted n i (Typed p k l m ∷ xs) zs = items_counted n i xs zs
  items_counted n i (Membrane m c1 cl c2 ∷ xs) zs =
      let b : HeadMembrane = record { inside = m; has_context = c1; has_closed_context = cl; has_rule_context = c2 } in
      let ds = differ_membrane_code (i + 1) b 1 (take i (membranes_of items)) in
      let u = (quiet_differs (i + 1) b 1 (take i (membranes_of items))).none (items_code items n (i + 1) xs ++ zs) in
      let v = items_counted n (i + 1) xs zs in
      let w : membranes_set (ds ++ (items_code items n (i + 1) xs ++ zs)) ≡ length (membranes_of xs) + membranes_set zs = u.0 ∙ v.0 in
      rw (append_assoc ds (items_code items n (i + 1) xs) zs) (omega (arith, w), u.1 ∙ v.1)

  test_counted : (k : TypeKind) (g : ℕ) (p : AtomPort) (y : ℕ) (ys : List Instr) → (membranes_set (test_of k g p y ∷ ys) ≡ membranes_set ys) × (parts_set (test_of k g p y ∷ ys) ≡ 1 + parts_set ys)
  test_counted kind.Int g p y ys = (refl, refl)
  test_counted kind.Unary g p y ys = (refl, refl)
  test_counted kind.Ground g p y ys = (refl, refl)

  part_counted : (g : ℕ) (t : HeadTyped) (p : Port) (ys : List Instr) (fp : Option Port) → find_port t.link (at_atoms 0 (atoms_of items)) ≡ fp → HasLink items t.link p →
      (membranes_set (part_code g t fp ++ ys) ≡ membranes_set ys) × (parts_set (part_code g t fp ++ ys) ≡ 1 + parts_set ys)
  part_counted g t p ys None e has = absurd (find_missed t.link (at_atoms 0 (atoms_of items)) p e (stands_at items t.link p has))
  part_counted g t p ys (Some q) e has = test_counted t.kind g (operand q) t.inside ys

  parts_counted : (m g : ℕ) (ts : List HeadTyped) (ys : List Instr) → AreSet items head m ts → (membranes_set (parts_code items g ts ++ ys) ≡ membranes_set ys) × (parts_set (parts_code items g ts ++ ys) ≡ length ts + parts_set ys)
  parts_counted m g [] ys set = (refl, omega arith)
  parts_counted m g (t ∷ ts) ys set =
      let here = set 0 t refl in
      let one = part_code g t (find_port t.link (at_atoms 0 (atoms_of items))) in
      let u = part_counted g t here.1.0 (parts_code items (g + 1) ts ++ ys) (find_port t.link (at_atoms 0 (atoms_of items))) refl here.1.1 in
      let v = parts_counted m (g + 1) ts ys (λ n w e. set (suc n) w e) in
      let a = u.1 in
      let b = v.1 in
      rw (append_assoc one (parts_code items (g + 1) ts) ys) (u.0 ∙ v.0, omega (arith, a, b))

  -- the code of a head sets as many membranes and typed contexts as the head has
  pub head_counted : (guard : List Cond) → (membranes_set (head_code items guard) ≡ length (membranes_of items)) × (parts_set (head_code items guard) ≡ length (typed_contexts_of items))
  head_counted guard =
      let ts = typed_contexts_of items in
      let fs = all_filled_code items 1 (membranes_of items) in
      let gs = guard_code (typed_number ts 0) (λ x. 0) 0 guard in
      let a = items_counted 0 0 items (parts_code items 0 ts ++ (fs ++ (gs ++ (Commit ∷ [])))) in
      let b = parts_counted (1 + length (membranes_of items)) 0 ts (fs ++ (gs ++ (Commit ∷ []))) (all_set items head) in
      let n = length ts in
      let m = 1 + length (membranes_of items) in
      let f = quiet_all_filled 0 m n fs (all_filled_reads items head 0 m n 1 (membranes_of items) (omega arith) (omega arith)) in
      let c = f.none (gs ++ (Commit ∷ [])) in
      let d = (quiet_guard (typed_number ts 0) (λ x. 0) 0 guard).none (Commit ∷ []) in
      let z : membranes_set (fs ++ (gs ++ (Commit ∷ []))) ≡ 0 = c.0 ∙ d.0 in
      let y : parts_set (fs ++ (gs ++ (Commit ∷ []))) ≡ 0 = c.1 ∙ d.1 in
      let a0 = a.0 in
      let a1 = a.1 in
      let b0 = b.0 in
      let b1 = b.1 in
      (omega (arith, a0, b0, z), omega (arith, a1, b1, y))
