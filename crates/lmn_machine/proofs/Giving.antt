-- Instructions that set a register of an integer.
use Rattle.std.proofs.Common.{ℕ, ℤ, ◌≡◌, ◌+◌, inl, inr, List, [], ◌∷◌, ◌++◌, Option, Some, None, refl, arith, ap, sym, subst, length, ◌∙◌, FitsSigned, w64}
use Rattle.std.specs.Prelude.{Bool, true, slice_get}
use Rattle.lmn_base.specs.declared.guard.Arith.TheVariants as arithmetic
use Rattle.lmn_store_heap.specs.Heap.{Heap, functor_of}
use Rattle.lmn_guards.specs.Values.{result_of}
use Rattle.lmn_guards.proofs.ValueLemmas.{cast, uncast}
use Rattle.lmn_solid_heads.specs.Guards.{integer_at, integer_of_functor}
use Rattle.lmn_instr_code.specs.declared.instr.Instr.{Instr}
use Rattle.lmn_instr_code.specs.declared.instr.Instr.TheVariants.{GetInt, Const, Add, Sub, Mul, Div, Mod}
use Rattle.lmn_instr_code.specs.Running.{HeadRegisters, HeadSize, InstructionHolds}
use Rattle.lmn_machine_registers.specs.declared.registers.SetRegisters.{SetRegisters}
use Rattle.lmn_machine_registers.specs.Agreeing.{Agrees}
use Rattle.lmn_machine.specs.Searching.{AreHeldWhole, Extends, Stepped, HeadInOrder, HasGiven}
use Rattle.lmn_machine.proofs.Stepping.{SetsSo, extends_itself, agrees_before}
use Rattle.lmn_machine.proofs.Choosing.{take_front}
use Rattle.lmn_base.proofs.Lists.{get_last, take_whole, get_either}
use Rattle.std.proofs.lemmas.List.{length_push}

-- one integer more is set
abbrev pub with_integer : {A M : Type 0} → SetRegisters A M → ℤ → SetRegisters A M
with_integer g z = record g { integers = g.integers ++ z ∷ [] }

module _ {A M : Type 0} (atom : A → ℕ) (membrane : M → ℕ) (h : Heap) where
  extends_integer : (g : SetRegisters A M) (z : ℤ) → Extends g (with_integer g z)
  extends_integer g z = record { atoms = take_whole g.atoms; membranes = take_whole g.membranes; parts = take_whole g.parts; integers = take_front g.integers (z ∷ []); copies = refl }

  agrees_integer : (g : SetRegisters A M) (z : ℤ) (s : HeadRegisters) → Agrees atom membrane g s → s.integer (length g.integers) ≡ z → Agrees atom membrane (with_integer g z) s
  agrees_integer g z s t e = record {
    atoms = t.atoms;
    membranes = t.membranes;
    parts = t.parts;
    integers = λ k x u. elim (get_either g.integers z k x u) [ inl v ↦ t.integers k x v | inr v ↦ ap s.integer v.0 ∙ (e ∙ v.1) ];
  }

  -- What an instruction gives is the integer of the next register exactly where it holds.
  abbrev GivesInteger : SetRegisters A M → Instr → Option ℤ → Type 0
  GivesInteger g i o = (c : HeadSize) (s : HeadRegisters) → Agrees atom membrane g s →
      (InstructionHolds h c s i → o ≡ Some (s.integer (length g.integers))) × (o ≡ Some (s.integer (length g.integers)) → InstructionHolds h c s i)

  integer_stepped : (g k : SetRegisters A M) (result : Bool) (i : Instr) (o : Option ℤ) → AreHeldWhole atom membrane h g →
      ((is : List Instr) → HeadInOrder (length g.atoms) (length g.membranes) (length g.parts) (length g.integers) (i ∷ is) → HeadInOrder (length g.atoms) (length g.membranes) (length g.parts) (length g.integers + 1) is) →
      SetsSo i 0 0 0 1 → GivesInteger g i o → HasGiven g k result o → Stepped atom membrane h g k result i
  integer_stepped g k result i None held next count means given = record {
    held = subst (λ l. AreHeldWhole atom membrane h l) (sym given.1) held;
    extends = subst (λ l. Extends g l) (sym given.1) (extends_itself atom membrane h g);
    holds = λ t. (let f = given.0 in absurd (cc));
    only = λ c s n a u. (let e = (means c s a).0 u in absurd (cc));
    sets = λ t. (let f = given.0 in absurd (cc));
    order = λ t. (let f = given.0 in absurd (cc));
  }
  integer_stepped g k result i (Some z) held next count means given = subst (λ b. Stepped atom membrane h g k b i) (sym given.0) (subst (λ l. Stepped atom membrane h g l true i) (sym given.1) stepped)
    where
      stepped : Stepped atom membrane h g (with_integer g z) true i
      stepped = record {
        held = record { atoms = held.atoms; membranes = held.membranes; parts = held.parts; whole = held.whole; listed = held.listed };
        extends = extends_integer g z;
        holds = λ t c s n a.
            (means c s (agrees_before atom membrane h g (with_integer g z) s (extends_integer g z) a)).1 (ap (λ x. Some x) (sym (a.integers (length g.integers) z (get_last g.integers z))));
        only = λ c s n a u. (let e = (means c s a).0 u in let v : s.integer (length g.integers) ≡ z = cc in (refl, agrees_integer g z s a v));
        sets = λ t. record {
          atoms = (let n = count.0 in omega (arith, n));
          membranes = (let n = count.1 in omega (arith, n));
          parts = (let n = count.2 in omega (arith, n));
          integers = (let n = count.3 in let l = length_push g.integers z in omega (arith, n, l));
        };
        order = λ t is u. subst (λ n. HeadInOrder (length g.atoms) (length g.membranes) (length g.parts) n is) (sym (length_push g.integers z)) (next is u);
      }

  binary : (f : ℤ → ℤ → Option ℤ) (g : SetRegisters A M) (s : HeadRegisters) (v w x : ℕ) (m n : ℤ) (o : Option ℤ) → Agrees atom membrane g s → slice_get g.integers w ≡ Some m → slice_get g.integers x ≡ Some n →
      v ≡ length g.integers → o ≡ f m n →
      (f (s.integer w) (s.integer x) ≡ Some (s.integer v) → o ≡ Some (s.integer (length g.integers))) × (o ≡ Some (s.integer (length g.integers)) → f (s.integer w) (s.integer x) ≡ Some (s.integer v))
  binary f g s v w x m n o t left right next e =
      let values : f (s.integer w) (s.integer x) ≡ o = ap (λ y. f y (s.integer x)) (t.integers w m left) ∙ (ap (λ y. f m y) (t.integers x n right) ∙ sym e) in
      let place : s.integer v ≡ s.integer (length g.integers) = ap s.integer next in
      (λ u. sym values ∙ (u ∙ ap (λ y. Some y) place), λ u. values ∙ (u ∙ ap (λ y. Some y) (sym place)))

  pub const_stepped : (g k : SetRegisters A M) (result : Bool) (i : Instr) (v : ℕ) (z : ℤ) → i ≡ Const v z → HeadInOrder (length g.atoms) (length g.membranes) (length g.parts) (length g.integers) (i ∷ []) → AreHeldWhole atom membrane h g →
      (o : Option ℤ) → o ≡ Some z → HasGiven g k result o → Stepped atom membrane h g k result i
  const_stepped g k result i v z e order held o value given =
      let u : HeadInOrder (length g.atoms) (length g.membranes) (length g.parts) (length g.integers) (Const v z ∷ []) = subst (λ j. HeadInOrder (length g.atoms) (length g.membranes) (length g.parts) (length g.integers) (j ∷ [])) e order in
      subst (λ j. Stepped atom membrane h g k result j) (sym e)
      (integer_stepped g k result (Const v z) (Some z) held (λ is w. w.1) (refl, refl, refl, refl)
      (λ c s t. (λ w. ap (λ x. Some x) (sym w ∙ ap s.integer u.0.0), λ w. (let y : z ≡ s.integer (length g.integers) = cc in ap s.integer u.0.0 ∙ sym y))) (subst (λ y. HasGiven g k result y) value given))

  pub get_stepped : (g k : SetRegisters A M) (result : Bool) (i : Instr) (v n : ℕ) (p : A × ℕ) (o : Option ℤ) → i ≡ GetInt v n → HeadInOrder (length g.atoms) (length g.membranes) (length g.parts) (length g.integers) (i ∷ []) → AreHeldWhole atom membrane h g →
      slice_get g.parts n ≡ Some p → o ≡ integer_of_functor (functor_of h (atom p.0)) → HasGiven g k result o → Stepped atom membrane h g k result i
  get_stepped g k result i v n p o e order held at value given =
      let u : HeadInOrder (length g.atoms) (length g.membranes) (length g.parts) (length g.integers) (GetInt v n ∷ []) = subst (λ j. HeadInOrder (length g.atoms) (length g.membranes) (length g.parts) (length g.integers) (j ∷ [])) e order in
      subst (λ j. Stepped atom membrane h g k result j) (sym e)
      (integer_stepped g k result (GetInt v n) o held (λ is w. w.1) (refl, refl, refl, refl)
      (λ c s t. (let values : integer_at h (s.images.part n) ≡ o = ap (λ q. integer_at h q) (t.parts n p at) ∙ sym value in
      let place : s.integer v ≡ s.integer (length g.integers) = ap s.integer u.0.0.0 in
      (λ w. sym values ∙ (w ∙ ap (λ y. Some y) place), λ w. values ∙ (w ∙ ap (λ y. Some y) (sym place))))) given)

  pub sum_stepped : (g k : SetRegisters A M) (result : Bool) (i : Instr) (v w x : ℕ) (m n : ℤ) (o : Option ℤ) → i ≡ Add v w x → HeadInOrder (length g.atoms) (length g.membranes) (length g.parts) (length g.integers) (i ∷ []) → AreHeldWhole atom membrane h g →
      slice_get g.integers w ≡ Some m → slice_get g.integers x ≡ Some n → FitsSigned w64 m → FitsSigned w64 n → o ≡ result_of arithmetic.Add (cast m) (cast n) → HasGiven g k result o → Stepped atom membrane h g k result i
  sum_stepped g k result i v w x m n o e order held left right fits_left fits_right value given =
      let u : HeadInOrder (length g.atoms) (length g.membranes) (length g.parts) (length g.integers) (Add v w x ∷ []) = subst (λ j. HeadInOrder (length g.atoms) (length g.membranes) (length g.parts) (length g.integers) (j ∷ [])) e order in
      subst (λ j. Stepped atom membrane h g k result j) (sym e)
      (integer_stepped g k result (Add v w x) o held (λ is w. w.1) (refl, refl, refl, refl) (λ c s t. binary (result_of arithmetic.Add) g s v w x m n o t left right u.0.0.0 (value ∙ uncast (result_of arithmetic.Add) m n fits_left fits_right)) given)

  pub difference_stepped : (g k : SetRegisters A M) (result : Bool) (i : Instr) (v w x : ℕ) (m n : ℤ) (o : Option ℤ) → i ≡ Sub v w x → HeadInOrder (length g.atoms) (length g.membranes) (length g.parts) (length g.integers) (i ∷ []) → AreHeldWhole atom membrane h g →
      slice_get g.integers w ≡ Some m → slice_get g.integers x ≡ Some n → FitsSigned w64 m → FitsSigned w64 n → o ≡ result_of arithmetic.Sub (cast m) (cast n) → HasGiven g k result o → Stepped atom membrane h g k result i
  difference_stepped g k result i v w x m n o e order held left right fits_left fits_right value given =
      let u : HeadInOrder (length g.atoms) (length g.membranes) (length g.parts) (length g.integers) (Sub v w x ∷ []) = subst (λ j. HeadInOrder (length g.atoms) (length g.membranes) (length g.parts) (length g.integers) (j ∷ [])) e order in
      subst (λ j. Stepped atom membrane h g k result j) (sym e)
      (integer_stepped g k result (Sub v w x) o held (λ is w. w.1) (refl, refl, refl, refl) (λ c s t. binary (result_of arithmetic.Sub) g s v w x m n o t left right u.0.0.0 (value ∙ uncast (result_of arithmetic.Sub) m n fits_left fits_right)) given)

  pub product_stepped : (g k : SetRegisters A M) (result : Bool) (i : Instr) (v w x : ℕ) (m n : ℤ) (o : Option ℤ) → i ≡ Mul v w x → HeadInOrder (length g.atoms) (length g.membranes) (length g.parts) (length g.integers) (i ∷ []) → AreHeldWhole atom membrane h g →
      slice_get g.integers w ≡ Some m → slice_get g.integers x ≡ Some n → FitsSigned w64 m → FitsSigned w64 n → o ≡ result_of arithmetic.Mul (cast m) (cast n) → HasGiven g k result o → Stepped atom membrane h g k result i
  product_stepped g k result i v w x m n o e order held left right fits_left fits_right value given =
      let u : HeadInOrder (length g.atoms) (length g.membranes) (length g.parts) (length g.integers) (Mul v w x ∷ []) = subst (λ j. HeadInOrder (length g.atoms) (length g.membranes) (length g.parts) (length g.integers) (j ∷ [])) e order in
      subst (λ j. Stepped atom membrane h g k result j) (sym e)
      (integer_stepped g k result (Mul v w x) o held (λ is w. w.1) (refl, refl, refl, refl) (λ c s t. binary (result_of arithmetic.Mul) g s v w x m n o t left right u.0.0.0 (value ∙ uncast (result_of arithmetic.Mul) m n fits_left fits_right)) given)

  pub quotient_stepped : (g k : SetRegisters A M) (result : Bool) (i : Instr) (v w x : ℕ) (m n : ℤ) (o : Option ℤ) → i ≡ Div v w x → HeadInOrder (length g.atoms) (length g.membranes) (length g.parts) (length g.integers) (i ∷ []) → AreHeldWhole atom membrane h g →
      slice_get g.integers w ≡ Some m → slice_get g.integers x ≡ Some n → FitsSigned w64 m → FitsSigned w64 n → o ≡ result_of arithmetic.Div (cast m) (cast n) → HasGiven g k result o → Stepped atom membrane h g k result i
  quotient_stepped g k result i v w x m n o e order held left right fits_left fits_right value given =
      let u : HeadInOrder (length g.atoms) (length g.membranes) (length g.parts) (length g.integers) (Div v w x ∷ []) = subst (λ j. HeadInOrder (length g.atoms) (length g.membranes) (length g.parts) (length g.integers) (j ∷ [])) e order in
      subst (λ j. Stepped atom membrane h g k result j) (sym e)
      (integer_stepped g k result (Div v w x) o held (λ is w. w.1) (refl, refl, refl, refl) (λ c s t. binary (result_of arithmetic.Div) g s v w x m n o t left right u.0.0.0 (value ∙ uncast (result_of arithmetic.Div) m n fits_left fits_right)) given)

  pub remainder_stepped : (g k : SetRegisters A M) (result : Bool) (i : Instr) (v w x : ℕ) (m n : ℤ) (o : Option ℤ) → i ≡ Mod v w x → HeadInOrder (length g.atoms) (length g.membranes) (length g.parts) (length g.integers) (i ∷ []) → AreHeldWhole atom membrane h g →
      slice_get g.integers w ≡ Some m → slice_get g.integers x ≡ Some n → FitsSigned w64 m → FitsSigned w64 n → o ≡ result_of arithmetic.Mod (cast m) (cast n) → HasGiven g k result o → Stepped atom membrane h g k result i
  remainder_stepped g k result i v w x m n o e order held left right fits_left fits_right value given =
      let u : HeadInOrder (length g.atoms) (length g.membranes) (length g.parts) (length g.integers) (Mod v w x ∷ []) = subst (λ j. HeadInOrder (length g.atoms) (length g.membranes) (length g.parts) (length g.integers) (j ∷ [])) e order in
      subst (λ j. Stepped atom membrane h g k result j) (sym e)
      (integer_stepped g k result (Mod v w x) o held (λ is w. w.1) (refl, refl, refl, refl) (λ c s t. binary (result_of arithmetic.Mod) g s v w x m n o t left right u.0.0.0 (value ∙ uncast (result_of arithmetic.Mod) m n fits_left fits_right)) given)
