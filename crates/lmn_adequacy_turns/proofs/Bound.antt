-- The registers of bound names hold their values.
use Rattle.std.proofs.Common.{ℕ, ◌≡◌, inl, inr, List, [], ◌∷◌, ◌++◌, Option, Some, None, refl, sym, subst}
use Rattle.std.specs.Prelude.{ℤ, Bool, true, false, ◌==◌, if◌then◌else◌}
use Rattle.std.specs.Option.{option_map}
use Rattle.std.proofs.lemmas.Bool.Decides.{Decides-eqb}
use Rattle.lmn_base.specs.declared.guard.Cond.{Cond}
use Rattle.lmn_base.specs.declared.guard.Cond.TheVariants.{Kind, Compare, Equal, Differ}
use Rattle.lmn_store_heap.specs.Heap.{Heap}
use Rattle.lmn_guards.specs.Values.{value}
use Rattle.lmn_solid_heads.specs.declared.items.HeadItem.{HeadItem}
use Rattle.lmn_solid_heads.specs.Guards.{Meaning, bind, integer_named, context_alone, typed_number}
use Rattle.lmn_solid_heads.specs.Heads.{HeadTyped, typed_contexts_of, membranes_of}
use Rattle.lmn_instr_code.specs.declared.instr.Instr.{Instr}
use Rattle.lmn_instr_code.specs.declared.instr.Instr.TheVariants.{Commit}
use Rattle.lmn_instr_code.specs.Running.{HeadRegisters, HeadSize, AllHold, Succeeds, size_of_head}
use Rattle.lmn_instr_code.specs.HeadCode.{Computed, value_code, comparison, part_named, equal_code, differ_parts_code, bind_register, guard_code, head_code, items_code, parts_code, all_filled_code}
use Rattle.lmn_compile_head.specs.Accepted.{head_items, rule_head_code, AcceptedHeads}
use Rattle.lmn_compile_head.specs.Heads.{UsesKnown, EqualAllowed, IsGuard}
use Rattle.lmn_compile_head.proofs.Holding.{hold_front, hold_back}
use Rattle.lmn_compile_head.proofs.Values.{meant, value_is}
use Rattle.lmn_compile_body.specs.Naming.{equal_registers, guard_registers}
use Rattle.lmn_adequacy_turns.specs.Bound.{bound_by, bound_all, BoundNames}
use Rattle.lmn_base.specs.Lists.{In}

module _ (h : Heap) (c : HeadSize) (r : HeadRegisters) (ts : List HeadTyped) where
  -- what names are bound to stands in their registers
  abbrev Holds : Meaning → (ℕ → ℕ) → Type 0
  Holds s registers = (x : ℕ) (z : ℤ) → s.bound_to x ≡ Some z → r.integer (registers x) ≡ z

  equal_holds : (s : Meaning) (pl pr : Option ℕ) (cv : Computed) (bcode ccode : List Instr) (x : ℕ) (o : Option ℤ) (R : Meaning → (ℕ → ℕ) → Type 0) (bs cs : ℕ → ℕ) (Known Bound Compared : Type 0) →
      AllHold h c r (equal_code pl pr cv bcode ccode) → EqualAllowed pl pr Known Bound Compared → (Known → AllHold h c r cv.code → o ≡ Some (r.integer cv.at)) →
      (AllHold h c r bcode → Bound → R (bind s x (r.integer cv.at)) bs) → (AllHold h c r ccode → Compared → R s cs) →
      R (bound_by (option_map r.images.part pl) s x o) (equal_registers pl bs cs)
  equal_holds s None pr cv bcode ccode x o R bs cs Known Bound Compared a b is next same =
      let e = is b.0 (hold_front h c r cv.code bcode a) in
      subst (λ q. R (bound_by None s x q) bs) (sym e) (next (hold_back h c r cv.code bcode a) b.1)
  equal_holds s (Some g) None cv bcode ccode x o R bs cs Known Bound Compared a b is next same = absurd b
  equal_holds s (Some g) (Some k) cv bcode ccode x o R bs cs Known Bound Compared a b is next same = same a.1 b

  known_if : (bound : ℕ → ℕ) (bound_to : ℕ → Option ℤ) (known : List ℕ) (x w : ℕ) → ((y : ℕ) → In y known → bound_to y ≡ Some (r.integer (bound y))) →
      (y : ℕ) (b : Bool) → (y == x) ≡ b → In y (x ∷ known) → (if b then Some (r.integer w) else bound_to y) ≡ Some (r.integer (if b then w else bound y))
  known_if bound bound_to known x w f y true t s = refl
  known_if bound bound_to known x w f y false t (inl e) = let u = (Decides-eqb y x).1 (sym e) in absurd (cc)
  known_if bound bound_to known x w f y false t (inr s) = f y s

  holds_if : (bound : ℕ → ℕ) (bound_to : ℕ → Option ℤ) (w : ℕ) → ((y : ℕ) (z : ℤ) → bound_to y ≡ Some z → r.integer (bound y) ≡ z) →
      (y : ℕ) (z : ℤ) (b : Bool) → (if b then Some (r.integer w) else bound_to y) ≡ Some z → r.integer (if b then w else bound y) ≡ z
  holds_if bound bound_to w f y z true e = (cc)
  holds_if bound bound_to w f y z false e = f y z e

  registers_hold : (cs : List Cond) (v : ℕ) (known : List ℕ) (bound : ℕ → ℕ) (bound_to : ℕ → Option ℤ) → ((x : ℕ) → In x known → bound_to x ≡ Some (r.integer (bound x))) →
      ((x : ℕ) (z : ℤ) → bound_to x ≡ Some z → r.integer (bound x) ≡ z) → AllHold h c r (guard_code (typed_number ts 0) bound v cs) → IsGuard ts known cs →
      Holds (bound_all h (meant r.images (typed_number ts 0) bound_to) cs) (guard_registers (typed_number ts 0) bound v cs)
  registers_hold [] v known bound bound_to f g a i = g
  registers_hold (Kind n args pos ∷ cs) v known bound bound_to f g a i = registers_hold cs v known bound bound_to f g a i.1
  registers_hold (Compare o left right pos ∷ cs) v known bound bound_to f g a i =
      let ca = value_code (typed_number ts 0) bound left v in
      let cb = value_code (typed_number ts 0) bound right ca.next in
      let rest = guard_code (typed_number ts 0) bound cb.next cs in
      let later = hold_back h c r ca.code (cb.code ++ (comparison o ca.at cb.at ∷ rest)) a in
      let last = hold_back h c r cb.code (comparison o ca.at cb.at ∷ rest) later in
      registers_hold cs cb.next known bound bound_to f g last.1 i.1
  registers_hold (Equal left right pos ∷ cs) v known bound bound_to f g a i =
      let part = typed_number ts 0 in
      let cv = value_code part bound right v in
      let s = meant r.images part bound_to in
      equal_holds s (part left.name) (part_named part (context_alone right)) cv (guard_code part (bind_register bound left.name cv.at) cv.next cs) (guard_code part bound v cs) left.name
      (value (integer_named h s) right) (λ t registers. Holds (bound_all h t cs) registers) (guard_registers part (bind_register bound left.name cv.at) cv.next cs) (guard_registers part bound v cs)
      (UsesKnown part known right) (IsGuard ts (left.name ∷ known) cs) (IsGuard ts known cs) a i
      (λ u b. value_is h c r part bound bound_to known f right v b u)
      (λ b u. registers_hold cs cv.next (left.name ∷ known) (bind_register bound left.name cv.at) (λ y. if y == left.name then Some (r.integer cv.at) else bound_to y)
      (λ y w. known_if bound bound_to known left.name cv.at f y (y == left.name) refl w)
      (λ y z e. holds_if bound bound_to cv.at g y z (y == left.name) e) b u)
      (λ b u. registers_hold cs v known bound bound_to f g b u)
  registers_hold (Differ left right pos ∷ cs) v known bound bound_to f g a i =
      let part = typed_number ts 0 in
      registers_hold cs v known bound bound_to f g (hold_back h c r (differ_parts_code (part left.name) (part right.name)) (guard_code part bound v cs) a) i.1

-- the code of a guard holds where that of its head does
guard_held : (h : Heap) (items : List HeadItem) (guard : List Cond) (m : ℕ) (r : HeadRegisters) → Succeeds h (head_code items guard) m r →
    AllHold h (size_of_head (head_code items guard)) r (guard_code (typed_number (typed_contexts_of items) 0) (λ x. 0) 0 guard)
guard_held h items guard m r s =
    let c = size_of_head (head_code items guard) in
    let ps = parts_code items 0 (typed_contexts_of items) in
    let fs = all_filled_code items 1 (membranes_of items) in
    let gs = guard_code (typed_number (typed_contexts_of items) 0) (λ x. 0) 0 guard in
    let later = hold_back h c r (items_code items 0 0 items) (ps ++ (fs ++ (gs ++ (Commit ∷ [])))) s.all in
    let behind = hold_back h c r ps (fs ++ (gs ++ (Commit ∷ []))) later in
    hold_front h c r gs (Commit ∷ []) (hold_back h c r fs (gs ++ (Commit ∷ [])) behind)

-- the names that a guard binds have their integers
pub bound_names : AcceptedHeads → BoundNames
bound_names heads table r plan ready h m s succeeds x z e =
    let items = head_items r plan in
    registers_hold h (size_of_head (rule_head_code r plan)) s (typed_contexts_of items) r.guard 0 [] (λ x. 0) (λ x. None) (λ x u. absurd u) (λ x z e. absurd (cc))
    (guard_held h items r.guard m s succeeds) (heads.guard table r plan ready) x z e
