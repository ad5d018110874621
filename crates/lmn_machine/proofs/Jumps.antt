-- Failures that name choices.
use Rattle.std.proofs.Common.{ℕ, ℤ, ◌≡◌, ◌≢◌, ◌+◌, ◌<◌, ◌≤◌, inl, inr, List, [], ◌∷◌, Option, Some, None, refl, arith, ap, sym, subst, length, ◌∙◌}
use Rattle.std.specs.Prelude.{true, slice_get}
use Rattle.std.specs.Int.Bits.{bit_or, or_self}
use Rattle.std.proofs.lemmas.Bool.{cases_lt}
use Rattle.lmn_base.specs.declared.guard.Arith.{Arith}
use Rattle.lmn_base.specs.declared.guard.Arith.TheVariants as arithmetic
use Rattle.lmn_base.specs.declared.guard.Cmp.{Cmp}
use Rattle.lmn_base.specs.declared.guard.Cmp.TheVariants as cmp
use Rattle.lmn_base.specs.Graphs.{Port, SameGraph}
use Rattle.lmn_base.specs.Lists.{In}
use Rattle.lmn_base.proofs.Lists.{value_or, get_below, get_there}
use Rattle.lmn_base.proofs.Bits.{or_assoc}
use Rattle.lmn_guards.specs.Values.{result_of, Stand}
use Rattle.lmn_store_heap.specs.Heap.{Heap, functor_of, atoms_in, mems_in, rules_in, port_id}
use Rattle.lmn_store_heap.specs.Graphs.{atom_map}
use Rattle.lmn_solid_heads.specs.Guards.{integer_at}
use Rattle.lmn_solid_heads.specs.Embeddings.{partner, StandsWithin}
use Rattle.lmn_instr_code.specs.declared.instr.Instr.{Instr}
use Rattle.lmn_instr_code.specs.declared.instr.Instr.TheVariants.{FindAtom, Deref, Func, InMem, NeqAtom, Joined, NotIn, AnyMem, NeqMem, NMems, NoRules, NAtoms, IsInt, IsUnary, IsGround, EqGround, NeqGround, GetInt, Const, Add, Sub, Mul, Div, Mod, Lt, Le, Gt, Ge, Eq, Ne}
use Rattle.lmn_instr_code.specs.Running.{HeadRegisters, HeadSize, HasOthers, InstructionHolds, atoms_set, membranes_set}
use Rattle.lmn_machine_registers.specs.declared.registers.SetRegisters.{SetRegisters}
use Rattle.lmn_machine_registers.specs.Agreeing.{Agrees}
use Rattle.lmn_machine.specs.Searching.{AllSet, ChoosesNone, HeadInOrder, Stepped, parts_set, integers_set}
use Rattle.lmn_machine.specs.Jumping.{Within, AgreesOn, RestsWell, ReadsWithin, on_atom, on_membrane, on_part, on_integer}
use Rattle.lmn_machine.specs.declared.choices.Choices.{Choices}
use Rattle.lmn_machine.specs.declared.choices.Choices.TheVariants.{All, These}
use Rattle.lmn_machine.specs.declared.reasons.Reasons.{Reasons}
use Rattle.lmn_machine.proofs.Stepping.{agrees_before}

-- Sets of choices

-- no choice is among any
pub none_within : (e : Choices) → Within (These 0) e
none_within All = tt
none_within (These e) = refl

-- choices are among themselves
pub within_itself : (e : Choices) → Within e e
within_itself All = tt
within_itself (These d) = or_self d

-- what is among some is among more
pub within_on : (d e f : Choices) → Within d e → Within e f → Within d f
within_on d e All p q = tt
within_on All All (These f) p q = q
within_on All (These e) (These f) p q = absurd p
within_on (These d) All (These f) p q = absurd q
within_on (These d) (These e) (These f) p q = ap (λ x. bit_or d x) (sym q) ∙ (sym (or_assoc d e f) ∙ (ap (λ x. bit_or x f) p ∙ q))

-- the value at the other end is one
one_end : (a b i j : ℕ) → (let p : Option (ℕ × ℕ) = Some (a, i) in let q : Option (ℕ × ℕ) = Some (b, j) in p ≡ q) → a ≡ b
one_end a b i j e = ap (λ (o : Option (ℕ × ℕ)). value_or (λ (p : ℕ × ℕ). p.0) 0 o) e

one_value : {X : Type 0} (a b : X) → Some a ≡ Some b → a ≡ b
one_value a b e = ap (λ o. value_or (λ x. x) a o) e

module _ {A M : Type 0} (atom : A → ℕ) (membrane : M → ℕ) (h : Heap) (r : Reasons) where
  -- Registers that agree on choices

  -- what agrees on more agrees on less
  pub on_less : (d e : Choices) (g : SetRegisters A M) (s : HeadRegisters) → Within d e → AgreesOn atom membrane r e g s → AgreesOn atom membrane r d g s
  on_less d e g s w t = record {
    atoms = λ k a u v. t.atoms k a u (within_on (on_atom r k) d e v w);
    membranes = λ k m u v. t.membranes k m u (within_on (on_membrane r k) d e v w);
    parts = λ k p u v. t.parts k p u (within_on (on_part r k) d e v w);
    integers = λ k z u v. t.integers k z u (within_on (on_integer r k) d e v w);
  }

  -- what agrees with all that is set agrees on any choices
  pub agrees_on : (e : Choices) (g : SetRegisters A M) (s : HeadRegisters) → Agrees atom membrane g s → AgreesOn atom membrane r e g s
  agrees_on e g s t = record {
    atoms = λ k a u w. t.atoms k a u;
    membranes = λ k m u w. t.membranes k m u;
    parts = λ k p u w. t.parts k p u;
    integers = λ k z u w. t.integers k z u;
  }

  -- and what agrees on all choices agrees with all
  pub on_all : (g : SetRegisters A M) (s : HeadRegisters) → AgreesOn atom membrane r All g s → Agrees atom membrane g s
  on_all g s t = record {
    atoms = λ k a u. t.atoms k a u tt;
    membranes = λ k m u. t.membranes k m u tt;
    parts = λ k p u. t.parts k p u tt;
    integers = λ k z u. t.integers k z u tt;
  }

  -- registers with the values of those that are set
  abbrev written : SetRegisters A M → HeadRegisters → HeadRegisters
  written g s = record {
    images = record {
      atom = λ k. value_or atom (s.images.atom k) (slice_get g.atoms k);
      membrane = λ k. value_or membrane (s.images.membrane k) (slice_get g.membranes k);
      part = λ k. value_or (port_id atom) (s.images.part k) (slice_get g.parts k);
    };
    integer = λ k. value_or (λ z. z) (s.integer k) (slice_get g.integers k);
  }

  is_value : {X Y : Type 0} (f : X → Y) (y : Y) (o : Option X) (x : X) → o ≡ Some x → value_or f y o ≡ f x
  is_value f y o x e = ap (value_or f y) e

  written_agrees : (g : SetRegisters A M) (s : HeadRegisters) → Agrees atom membrane g (written g s)
  written_agrees g s = record {
    atoms = λ k a u. is_value atom (s.images.atom k) (slice_get g.atoms k) a u;
    membranes = λ k m u. is_value membrane (s.images.membrane k) (slice_get g.membranes k) m u;
    parts = λ k p u. is_value (port_id atom) (s.images.part k) (slice_get g.parts k) p u;
    integers = λ k z u. is_value (λ x. x) (s.integer k) (slice_get g.integers k) z u;
  }

  either : {X Y : Type 0} (f : X → Y) (y : Y) (o : Option X) → ((x : X) → o ≡ Some x → y ≡ f x) → y ≡ value_or f y o
  either f y None k = refl
  either f y (Some x) k = k x refl

  -- what rests on the choices is as it was
  atom_same : (e : Choices) (g : SetRegisters A M) (s : HeadRegisters) (k : ℕ) → AgreesOn atom membrane r e g s → Within (on_atom r k) e → s.images.atom k ≡ (written g s).images.atom k
  atom_same e g s k t w = either atom (s.images.atom k) (slice_get g.atoms k) (λ a u. t.atoms k a u w)

  membrane_same : (e : Choices) (g : SetRegisters A M) (s : HeadRegisters) (k : ℕ) → AgreesOn atom membrane r e g s → Within (on_membrane r k) e → s.images.membrane k ≡ (written g s).images.membrane k
  membrane_same e g s k t w = either membrane (s.images.membrane k) (slice_get g.membranes k) (λ a u. t.membranes k a u w)

  part_same : (e : Choices) (g : SetRegisters A M) (s : HeadRegisters) (k : ℕ) → AgreesOn atom membrane r e g s → Within (on_part r k) e → s.images.part k ≡ (written g s).images.part k
  part_same e g s k t w = either (port_id atom) (s.images.part k) (slice_get g.parts k) (λ a u. t.parts k a u w)

  integer_same : (e : Choices) (g : SetRegisters A M) (s : HeadRegisters) (k : ℕ) → AgreesOn atom membrane r e g s → Within (on_integer r k) e → s.integer k ≡ (written g s).integer k
  integer_same e g s k t w = either (λ z. z) (s.integer k) (slice_get g.integers k) (λ a u. t.integers k a u w)

  -- and what isn't set yet
  past_end : {X : Type 0} (xs : List X) (x : X) → slice_get xs (length xs) ≡ Some x → ⊥
  past_end xs x e = let l = get_below xs (length xs) x e in omega (arith, l)

  next_atom : (g : SetRegisters A M) (s : HeadRegisters) (k : ℕ) → k ≡ length g.atoms → s.images.atom k ≡ (written g s).images.atom k
  next_atom g s k e = either atom (s.images.atom k) (slice_get g.atoms k) (λ a u. absurd (past_end g.atoms a (ap (slice_get g.atoms) (sym e) ∙ u)))

  next_integer : (g : SetRegisters A M) (s : HeadRegisters) (k : ℕ) → k ≡ length g.integers → s.integer k ≡ (written g s).integer k
  next_integer g s k e = either (λ z. z) (s.integer k) (slice_get g.integers k) (λ a u. absurd (past_end g.integers a (ap (slice_get g.integers) (sym e) ∙ u)))

  operated : (o : Arith) (a b v a' b' v' : ℤ) → a ≡ a' → b ≡ b' → v ≡ v' → result_of o a b ≡ Some v → result_of o a' b' ≡ Some v'
  operated o a b v a' b' v' p q u e = sym (λ i. result_of o (p i) (q i)) ∙ (e ∙ ap (λ z. Some z) u)

  compared : (o : Cmp) (a b a' b' : ℤ) → a ≡ a' → b ≡ b' → Stand o a b → Stand o a' b'
  compared o a b a' b' p q e = subst (λ x. x) (λ i. Stand o (p i) (q i)) e

  joined : (a b a' b' i j : ℕ) → a ≡ a' → b ≡ b' → partner h (a, i) ≡ Some (b, j) → partner h (a', i) ≡ Some (b', j)
  joined a b a' b' i j p q e = ap (λ x. partner h (x, i)) (sym p) ∙ (e ∙ ap (λ x. Some (x, j)) q)

  -- An instruction that holds with no registers that agree with what is set holds with none that agree on what it reads.
  pub fails_on : (e : Choices) (g : SetRegisters A M) (c : HeadSize) (s : HeadRegisters) (i : Instr) → HeadInOrder (length g.atoms) (length g.membranes) (length g.parts) (length g.integers) (i ∷ []) → ReadsWithin r e i →
      AgreesOn atom membrane r e g s → ((t : HeadRegisters) → Agrees atom membrane g t → InstructionHolds h c t i → ⊥) → InstructionHolds h c s i → ⊥
  fails_on e g c s (Deref x p k) o w t denied u = denied (written g s) (written_agrees g s) (joined (s.images.atom p.atom) (s.images.atom x) ((written g s).images.atom p.atom) ((written g s).images.atom x) p.port k (atom_same e g s p.atom t w) (next_atom g s x o.0.0) u)
  fails_on e g c s (Func x f) o w t denied u = denied (written g s) (written_agrees g s) (subst (λ a. functor_of h a ≡ Some f) (atom_same e g s x t w) u)
  fails_on e g c s (InMem x y) o w t denied u = denied (written g s) (written_agrees g s) (subst (λ z. z) (λ i. In (atom_same e g s x t w.0 i) (atoms_in h (membrane_same e g s y t w.1 i))) u)
  fails_on e g c s (NeqAtom x y) o w t denied u = denied (written g s) (written_agrees g s) (subst (λ z. z) (λ i. atom_same e g s x t w.0 i ≢ atom_same e g s y t w.1 i) u)
  fails_on e g c s (Joined p q) o w t denied u = denied (written g s) (written_agrees g s) (joined (s.images.atom p.atom) (s.images.atom q.atom) ((written g s).images.atom p.atom) ((written g s).images.atom q.atom) p.port q.port (atom_same e g s p.atom t w.0) (atom_same e g s q.atom t w.1) u)
  fails_on e g c s (NotIn p y) o w t denied u = denied (written g s) (written_agrees g s) (subst (λ z. z) (λ i. (q : Port) → partner h (atom_same e g s p.atom t w.0 i, p.port) ≡ Some q → StandsWithin h q.0 (membrane_same e g s y t w.1 i) → ⊥) u)
  fails_on e g c s (NeqMem x y) o w t denied u = denied (written g s) (written_agrees g s) (subst (λ z. z) (λ i. membrane_same e g s x t w.0 i ≢ membrane_same e g s y t w.1 i) u)
  fails_on e g c s (NMems x n) o w t denied u = denied (written g s) (written_agrees g s) (subst (λ m. length (mems_in h m) ≡ n) (membrane_same e g s x t w) u)
  fails_on e g c s (NoRules x) o w t denied u = denied (written g s) (written_agrees g s) (subst (λ m. rules_in h m ≡ []) (membrane_same e g s x t w) u)
  fails_on e g c s (NAtoms x n []) o w t denied u = denied (written g s) (written_agrees g s) (subst (λ m. HasOthers (λ b. ⊥) n (atoms_in h m)) (membrane_same e g s x t w) u)
  fails_on e g c s (EqGround x y) o w t denied u = denied (written g s) (written_agrees g s) (subst (λ z. z) (λ i. SameGraph (atom_map h) (part_same e g s x t w.0 i) (atom_map h) (part_same e g s y t w.1 i)) u)
  fails_on e g c s (NeqGround x y) o w t denied u = denied (written g s) (written_agrees g s) (subst (λ z. z) (λ i. SameGraph (atom_map h) (part_same e g s x t w.0 i) (atom_map h) (part_same e g s y t w.1 i) → ⊥) u)
  fails_on e g c s (GetInt v x) o w t denied u = denied (written g s) (written_agrees g s) (ap (integer_at h) (sym (part_same e g s x t w)) ∙ (u ∙ ap (λ z. Some z) (next_integer g s v o.0.0.0)))
  fails_on e g c s (Add v x y) o w t denied u = denied (written g s) (written_agrees g s) (operated arithmetic.Add (s.integer x) (s.integer y) (s.integer v) ((written g s).integer x) ((written g s).integer y) ((written g s).integer v) (integer_same e g s x t w.0) (integer_same e g s y t w.1) (next_integer g s v o.0.0.0) u)
  fails_on e g c s (Sub v x y) o w t denied u = denied (written g s) (written_agrees g s) (operated arithmetic.Sub (s.integer x) (s.integer y) (s.integer v) ((written g s).integer x) ((written g s).integer y) ((written g s).integer v) (integer_same e g s x t w.0) (integer_same e g s y t w.1) (next_integer g s v o.0.0.0) u)
  fails_on e g c s (Mul v x y) o w t denied u = denied (written g s) (written_agrees g s) (operated arithmetic.Mul (s.integer x) (s.integer y) (s.integer v) ((written g s).integer x) ((written g s).integer y) ((written g s).integer v) (integer_same e g s x t w.0) (integer_same e g s y t w.1) (next_integer g s v o.0.0.0) u)
  fails_on e g c s (Div v x y) o w t denied u = denied (written g s) (written_agrees g s) (operated arithmetic.Div (s.integer x) (s.integer y) (s.integer v) ((written g s).integer x) ((written g s).integer y) ((written g s).integer v) (integer_same e g s x t w.0) (integer_same e g s y t w.1) (next_integer g s v o.0.0.0) u)
  fails_on e g c s (Mod v x y) o w t denied u = denied (written g s) (written_agrees g s) (operated arithmetic.Mod (s.integer x) (s.integer y) (s.integer v) ((written g s).integer x) ((written g s).integer y) ((written g s).integer v) (integer_same e g s x t w.0) (integer_same e g s y t w.1) (next_integer g s v o.0.0.0) u)
  fails_on e g c s (Lt x y) o w t denied u = denied (written g s) (written_agrees g s) (compared cmp.Lt (s.integer x) (s.integer y) ((written g s).integer x) ((written g s).integer y) (integer_same e g s x t w.0) (integer_same e g s y t w.1) u)
  fails_on e g c s (Le x y) o w t denied u = denied (written g s) (written_agrees g s) (compared cmp.Le (s.integer x) (s.integer y) ((written g s).integer x) ((written g s).integer y) (integer_same e g s x t w.0) (integer_same e g s y t w.1) u)
  fails_on e g c s (Gt x y) o w t denied u = denied (written g s) (written_agrees g s) (compared cmp.Gt (s.integer x) (s.integer y) ((written g s).integer x) ((written g s).integer y) (integer_same e g s x t w.0) (integer_same e g s y t w.1) u)
  fails_on e g c s (Ge x y) o w t denied u = denied (written g s) (written_agrees g s) (compared cmp.Ge (s.integer x) (s.integer y) ((written g s).integer x) ((written g s).integer y) (integer_same e g s x t w.0) (integer_same e g s y t w.1) u)
  fails_on e g c s (Eq x y) o w t denied u = denied (written g s) (written_agrees g s) (compared cmp.Eq (s.integer x) (s.integer y) ((written g s).integer x) ((written g s).integer y) (integer_same e g s x t w.0) (integer_same e g s y t w.1) u)
  fails_on e g c s (Ne x y) o w t denied u = denied (written g s) (written_agrees g s) (compared cmp.Ne (s.integer x) (s.integer y) ((written g s).integer x) ((written g s).integer y) (integer_same e g s x t w.0) (integer_same e g s y t w.1) u)
  fails_on e g c s _ o w t denied u = denied s (on_all g s (subst (λ d. AgreesOn atom membrane r d g s) w t)) u

  -- What an instruction sets is the same for all registers that agree on what it rests on. Here g are the registers before it,
  -- and t has their values.

  both_atom : (e : Choices) (g : SetRegisters A M) (s t : HeadRegisters) → AgreesOn atom membrane r e g s → Agrees atom membrane g t → (j : ℕ) → j < length g.atoms → Within (on_atom r j) e → s.images.atom j ≡ t.images.atom j
  both_atom e g s t a b j l w = let x = get_there g.atoms j l in a.atoms j x.0 x.1 w ∙ sym (b.atoms j x.0 x.1)

  both_membrane : (e : Choices) (g : SetRegisters A M) (s t : HeadRegisters) → AgreesOn atom membrane r e g s → Agrees atom membrane g t → (j : ℕ) → j < length g.membranes → Within (on_membrane r j) e → s.images.membrane j ≡ t.images.membrane j
  both_membrane e g s t a b j l w = let x = get_there g.membranes j l in a.membranes j x.0 x.1 w ∙ sym (b.membranes j x.0 x.1)

  both_part : (e : Choices) (g : SetRegisters A M) (s t : HeadRegisters) → AgreesOn atom membrane r e g s → Agrees atom membrane g t → (j : ℕ) → j < length g.parts → Within (on_part r j) e → s.images.part j ≡ t.images.part j
  both_part e g s t a b j l w = let x = get_there g.parts j l in a.parts j x.0 x.1 w ∙ sym (b.parts j x.0 x.1)

  both_integer : (e : Choices) (g : SetRegisters A M) (s t : HeadRegisters) → AgreesOn atom membrane r e g s → Agrees atom membrane g t → (j : ℕ) → j < length g.integers → Within (on_integer r j) e → s.integer j ≡ t.integer j
  both_integer e g s t a b j l w = let x = get_there g.integers j l in a.integers j x.0 x.1 w ∙ sym (b.integers j x.0 x.1)

  fresh_atom : (e : Choices) (g : SetRegisters A M) (s t : HeadRegisters) (c : HeadSize) (i : Instr) → ChoosesNone i → HeadInOrder (length g.atoms) (length g.membranes) (length g.parts) (length g.integers) (i ∷ []) → RestsWell r i →
      AgreesOn atom membrane r e g s → Agrees atom membrane g t → InstructionHolds h c s i → InstructionHolds h c t i →
      (j : ℕ) → length g.atoms ≤ j → j < length g.atoms + atoms_set (i ∷ []) → Within (on_atom r j) e → s.images.atom j ≡ t.images.atom j
  fresh_atom e g s t c (Deref x p k) n o w a b u v j l m d =
      let first = o.0.0 in
      let is : x ≡ j = omega (arith, first, l, m) in
      let old = both_atom e g s t a b p.atom o.0.1 (within_on (on_atom r p.atom) (on_atom r x) e w (subst (λ y. Within (on_atom r y) e) (sym is) d)) in
      subst (λ y. s.images.atom y ≡ t.images.atom y) is (one_end (s.images.atom x) (t.images.atom x) k k (sym u ∙ (ap (λ y. partner h (y, p.port)) old ∙ v)))
  fresh_atom e g s t c (FindAtom x y f) n o w a b u v j l m d = absurd n
  fresh_atom e g s t c _ n o w a b u v j l m d = absurd (omega (arith, l, m))

  fresh_membrane : (e : Choices) (g : SetRegisters A M) (s t : HeadRegisters) (i : Instr) → ChoosesNone i → (j : ℕ) → length g.membranes ≤ j → j < length g.membranes + membranes_set (i ∷ []) → s.images.membrane j ≡ t.images.membrane j
  fresh_membrane e g s t (AnyMem x y) n j l m = absurd n
  fresh_membrane e g s t _ n j l m = absurd (omega (arith, l, m))

  led_part : (e : Choices) (g : SetRegisters A M) (s t : HeadRegisters) (x a i j : ℕ) → x ≡ length g.parts → a < length g.atoms → Within (on_atom r a) (on_part r x) → AgreesOn atom membrane r e g s → Agrees atom membrane g t →
      partner h (s.images.atom a, i) ≡ Some (s.images.part x) → partner h (t.images.atom a, i) ≡ Some (t.images.part x) → length g.parts ≤ j → j < length g.parts + 1 → Within (on_part r j) e → s.images.part j ≡ t.images.part j
  led_part e g s t x a i j first below w p q u v l m d =
      let is : x ≡ j = omega (arith, first, l, m) in
      let old = both_atom e g s t p q a below (within_on (on_atom r a) (on_part r x) e w (subst (λ y. Within (on_part r y) e) (sym is) d)) in
      subst (λ y. s.images.part y ≡ t.images.part y) is (one_value (s.images.part x) (t.images.part x) (sym u ∙ (ap (λ y. partner h (y, i)) old ∙ v)))

  fresh_part : (e : Choices) (g : SetRegisters A M) (s t : HeadRegisters) (c : HeadSize) (i : Instr) → HeadInOrder (length g.atoms) (length g.membranes) (length g.parts) (length g.integers) (i ∷ []) → RestsWell r i →
      AgreesOn atom membrane r e g s → Agrees atom membrane g t → InstructionHolds h c s i → InstructionHolds h c t i →
      (j : ℕ) → length g.parts ≤ j → j < length g.parts + parts_set (i ∷ []) → Within (on_part r j) e → s.images.part j ≡ t.images.part j
  fresh_part e g s t c (IsInt x p y) o w a b u v j l m d = led_part e g s t x p.atom p.port j o.0.0.0.0 o.0.0.1 w a b u.held v.held l m d
  fresh_part e g s t c (IsUnary x p y) o w a b u v j l m d = led_part e g s t x p.atom p.port j o.0.0.0.0 o.0.0.1 w a b u.held v.held l m d
  fresh_part e g s t c (IsGround x p y) o w a b u v j l m d = led_part e g s t x p.atom p.port j o.0.0.0.0 o.0.0.1 w a b u.held v.held l m d
  fresh_part e g s t c _ o w a b u v j l m d = absurd (omega (arith, l, m))

  operated_same : (e : Choices) (g : SetRegisters A M) (s t : HeadRegisters) (o : Arith) (v x y j : ℕ) → v ≡ length g.integers → x < length g.integers → y < length g.integers → Within (on_integer r x) (on_integer r v) → Within (on_integer r y) (on_integer r v) →
      AgreesOn atom membrane r e g s → Agrees atom membrane g t → result_of o (s.integer x) (s.integer y) ≡ Some (s.integer v) → result_of o (t.integer x) (t.integer y) ≡ Some (t.integer v) →
      length g.integers ≤ j → j < length g.integers + 1 → Within (on_integer r j) e → s.integer j ≡ t.integer j
  operated_same e g s t o v x y j first left right wl wr a b u w l m d =
      let is : v ≡ j = omega (arith, first, l, m) in
      let on : Within (on_integer r v) e = subst (λ k. Within (on_integer r k) e) (sym is) d in
      let p = both_integer e g s t a b x left (within_on (on_integer r x) (on_integer r v) e wl on) in
      let q = both_integer e g s t a b y right (within_on (on_integer r y) (on_integer r v) e wr on) in
      subst (λ k. s.integer k ≡ t.integer k) is (one_value (s.integer v) (t.integer v) (sym u ∙ ((λ i. result_of o (p i) (q i)) ∙ w)))

  fresh_integer : (e : Choices) (g : SetRegisters A M) (s t : HeadRegisters) (c : HeadSize) (i : Instr) → HeadInOrder (length g.atoms) (length g.membranes) (length g.parts) (length g.integers) (i ∷ []) → RestsWell r i →
      AgreesOn atom membrane r e g s → Agrees atom membrane g t → InstructionHolds h c s i → InstructionHolds h c t i →
      (j : ℕ) → length g.integers ≤ j → j < length g.integers + integers_set (i ∷ []) → Within (on_integer r j) e → s.integer j ≡ t.integer j
  fresh_integer e g s t c (GetInt v x) o w a b u z j l m d =
      let first = o.0.0.0 in
      let is : v ≡ j = omega (arith, first, l, m) in
      let old = both_part e g s t a b x o.0.1 (within_on (on_part r x) (on_integer r v) e w (subst (λ k. Within (on_integer r k) e) (sym is) d)) in
      subst (λ k. s.integer k ≡ t.integer k) is (one_value (s.integer v) (t.integer v) (sym u ∙ (ap (integer_at h) old ∙ z)))
  fresh_integer e g s t c (Const v n) o w a b u z j l m d =
      let first = o.0.0 in
      let is : v ≡ j = omega (arith, first, l, m) in
      subst (λ k. s.integer k ≡ t.integer k) is (u ∙ sym z)
  fresh_integer e g s t c (Add v x y) o w a b u z j l m d = operated_same e g s t arithmetic.Add v x y j o.0.0.0 o.0.1 o.0.2 w.0 w.1 a b u z l m d
  fresh_integer e g s t c (Sub v x y) o w a b u z j l m d = operated_same e g s t arithmetic.Sub v x y j o.0.0.0 o.0.1 o.0.2 w.0 w.1 a b u z l m d
  fresh_integer e g s t c (Mul v x y) o w a b u z j l m d = operated_same e g s t arithmetic.Mul v x y j o.0.0.0 o.0.1 o.0.2 w.0 w.1 a b u z l m d
  fresh_integer e g s t c (Div v x y) o w a b u z j l m d = operated_same e g s t arithmetic.Div v x y j o.0.0.0 o.0.1 o.0.2 w.0 w.1 a b u z l m d
  fresh_integer e g s t c (Mod v x y) o w a b u z j l m d = operated_same e g s t arithmetic.Mod v x y j o.0.0.0 o.0.1 o.0.2 w.0 w.1 a b u z l m d
  fresh_integer e g s t c _ o w a b u z j l m d = absurd (omega (arith, l, m))

  past_by : (e : Choices) (g k : SetRegisters A M) (c : HeadSize) (s z : HeadRegisters) (i : Instr) → ChoosesNone i → HeadInOrder (length g.atoms) (length g.membranes) (length g.parts) (length g.integers) (i ∷ []) → RestsWell r i →
      Stepped atom membrane h g k true i → AgreesOn atom membrane r e g s → InstructionHolds h c s i → InstructionHolds h c z i → Agrees atom membrane k z → AgreesOn atom membrane r e k s
  past_by e g k c s z i n o w t a u v b = record {
    atoms = λ j x y d. atom_all j (get_below k.atoms j x y) d ∙ b.atoms j x y;
    membranes = λ j x y d. membrane_all j (get_below k.membranes j x y) d ∙ b.membranes j x y;
    parts = λ j x y d. part_all j (get_below k.parts j x y) d ∙ b.parts j x y;
    integers = λ j x y d. integer_all j (get_below k.integers j x y) d ∙ b.integers j x y;
  }
    where
      old : Agrees atom membrane g z
      old = agrees_before atom membrane h g k z t.extends b

      atom_all : (j : ℕ) → j < length k.atoms → Within (on_atom r j) e → s.images.atom j ≡ z.images.atom j
      atom_all j l d = elim (cases_lt j (length g.atoms)) [ inl m ↦ both_atom e g s z a old j m d | inr m ↦ fresh_atom e g s z c i n o w a old u v j m (let x = (t.sets refl).atoms in omega (arith, x, l)) d ]

      membrane_all : (j : ℕ) → j < length k.membranes → Within (on_membrane r j) e → s.images.membrane j ≡ z.images.membrane j
      membrane_all j l d = elim (cases_lt j (length g.membranes)) [ inl m ↦ both_membrane e g s z a old j m d | inr m ↦ fresh_membrane e g s z i n j m (let x = (t.sets refl).membranes in omega (arith, x, l)) ]

      part_all : (j : ℕ) → j < length k.parts → Within (on_part r j) e → s.images.part j ≡ z.images.part j
      part_all j l d = elim (cases_lt j (length g.parts)) [ inl m ↦ both_part e g s z a old j m d | inr m ↦ fresh_part e g s z c i o w a old u v j m (let x = (t.sets refl).parts in omega (arith, x, l)) d ]

      integer_all : (j : ℕ) → j < length k.integers → Within (on_integer r j) e → s.integer j ≡ z.integer j
      integer_all j l d = elim (cases_lt j (length g.integers)) [ inl m ↦ both_integer e g s z a old j m d | inr m ↦ fresh_integer e g s z c i o w a old u v j m (let x = (t.sets refl).integers in omega (arith, x, l)) d ]

  -- Behind an instruction that holds, registers agree on the same choices with what is set.
  pub on_past : (e : Choices) (g k : SetRegisters A M) (c : HeadSize) (s : HeadRegisters) (i : Instr) → ChoosesNone i → HeadInOrder (length g.atoms) (length g.membranes) (length g.parts) (length g.integers) (i ∷ []) → RestsWell r i →
      AllSet c (length g.atoms) (length g.membranes) i → Stepped atom membrane h g k true i → AgreesOn atom membrane r e g s → InstructionHolds h c s i → AgreesOn atom membrane r e k s
  on_past e g k c s i n o w set t a u = past_by e g k c s (written k s) i n o w t a u (t.holds refl c (written k s) set (written_agrees k s)) (written_agrees k s)
