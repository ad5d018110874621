-- Typed contexts of any number of atoms.
use Rattle.std.proofs.Common.{◌≡◌, ◌<◌, ℕ, zero, suc, List, [], ◌∷◌, Option, Some, refl, arith, ap, sym, subst, length, ◌∙◌}
use Rattle.std.specs.Prelude.{true, Bool, slice_get}
use Rattle.std.proofs.lemmas.Option.{slice_get_within}
use Rattle.lmn_base.specs.Graphs.{StandsWhole, SameGraph}
use Rattle.lmn_store_heap.specs.Heap.{Heap, atoms_in, link_of, port_id}
use Rattle.lmn_store_heap.specs.Graphs.{atom_map}
use Rattle.lmn_guards.specs.declared.plan.TypeKind.TheVariants as kind
use Rattle.lmn_instr_code.specs.declared.instr.AtomPort.{AtomPort}
use Rattle.lmn_instr_code.specs.declared.instr.Instr.{Instr}
use Rattle.lmn_instr_code.specs.declared.instr.Instr.TheVariants.{IsGround, NAtoms, IsClosed, EqGround, NeqGround}
use Rattle.lmn_instr_code.specs.Running.{HeadRegisters, HeadSize, InstructionHolds, IsContext, HasOthers, IsInSome, IsClosedRest}
use Rattle.lmn_machine_registers.specs.declared.registers.SetRegisters.{SetRegisters}
use Rattle.lmn_machine_registers.specs.Agreeing.{Agrees}
use Rattle.lmn_machine.specs.Searching.{AreHeldWhole, Stepped, HeadInOrder, HasGivenPart, IsWholeApart}
use Rattle.lmn_machine.specs.Outcomes.{IsEndWith}
use Rattle.lmn_store_heap.specs.Sound.{Sound}
use Rattle.lmn_machine.proofs.Stepping.{SetsSo, extends_itself, nothing_more}
use Rattle.lmn_machine.proofs.Lone.{GivesPart, part_stepped}

module _ {A M : Type 0} (atom : A → ℕ) (membrane : M → ℕ) (h : Heap) where
  from_context : (g : SetRegisters A M) (c x y : ℕ) (s : HeadRegisters) (p : AtomPort) (m : M) → c ≡ length g.atoms → Agrees atom membrane g s → slice_get g.membranes y ≡ Some m →
      IsContext h c s kind.Ground x p y → IsWholeApart atom h g.atoms (membrane m) (s.images.part x)
  from_context g c x y s p m n t place k = record {
    whole = subst (λ j. StandsWhole (atom_map h) (s.images.part x) j) (t.membranes y m place) k.whole;
    apart = λ b r. record { differ = λ j a e d. k.apart b j r (let w = slice_get_within g.atoms j a e in omega (arith, w, n)) (t.atoms j a e ∙ d) };
  }

  to_context : (g : SetRegisters A M) (c x y : ℕ) (s : HeadRegisters) (p : AtomPort) (m : M) → c ≡ length g.atoms → Agrees atom membrane g s → slice_get g.membranes y ≡ Some m →
      link_of h (s.images.atom p.atom) p.port ≡ Some (s.images.part x) → IsWholeApart atom h g.atoms (membrane m) (s.images.part x) → IsContext h c s kind.Ground x p y
  to_context g c x y s p m n t place e k = record {
    held = e;
    of_kind = tt;
    whole = subst (λ j. StandsWhole (atom_map h) (s.images.part x) j) (sym (t.membranes y m place)) k.whole;
    apart = λ b j r l d.
        (let there = get_there g.atoms j (subst (λ o. j < o) n l) in
        (k.apart b r).differ j there.0 there.1 (sym (t.atoms j there.0 there.1) ∙ d));
  }
    where
      get_there : (xs : List A) (j : ℕ) → j < length xs → (b : A) × (slice_get xs j ≡ Some b)
      get_there [] j l = absurd (omega (arith, l))
      get_there (x ∷ xs) zero l = (x, refl)
      get_there (x ∷ xs) (suc j) l = get_there xs j (omega (arith, l))

  ground_gives : (g : SetRegisters A M) (p : AtomPort) (y : ℕ) (a : A) (m : M) (o : Option (A × ℕ)) → slice_get g.atoms p.atom ≡ Some a → slice_get g.membranes y ≡ Some m → IsEndWith atom h (IsWholeApart atom h g.atoms (membrane m)) (atom a) p.port o →
      GivesPart atom membrane h g (IsGround (length g.parts) p y) o
  ground_gives g p y a m o from place t = λ c s n r. (
    λ k. t.only (s.images.part (length g.parts)) (subst (λ j. link_of h j p.port ≡ Some (s.images.part (length g.parts))) (r.atoms p.atom a from) k.held) (from_context g c.atoms (length g.parts) y s p m n r place k),
    λ e. to_context g c.atoms (length g.parts) y s p m n r place
        (subst (λ j. link_of h j p.port ≡ Some (s.images.part (length g.parts))) (sym (r.atoms p.atom a from)) (t.ends (s.images.part (length g.parts)) e)) (t.holds (s.images.part (length g.parts)) e),
  )

  pub ground_stepped : Sound h → (g k : SetRegisters A M) (result : Bool) (i : Instr) (x : ℕ) (p : AtomPort) (y : ℕ) (a : A) (m : M) (o : Option (A × ℕ)) → i ≡ IsGround x p y → HeadInOrder (length g.atoms) (length g.membranes) (length g.parts) (length g.integers) (i ∷ []) → AreHeldWhole atom membrane h g →
      slice_get g.atoms p.atom ≡ Some a → slice_get g.membranes y ≡ Some m → IsEndWith atom h (IsWholeApart atom h g.atoms (membrane m)) (atom a) p.port o → HasGivenPart g k result o → Stepped atom membrane h g k result i
  ground_stepped sound g k result i x p y a m o e order held from place t given =
      let u : HeadInOrder (length g.atoms) (length g.membranes) (length g.parts) (length g.integers) (IsGround x p y ∷ []) = subst (λ j. HeadInOrder (length g.atoms) (length g.membranes) (length g.parts) (length g.integers) (j ∷ [])) e order in
      subst (λ j. Stepped atom membrane h g k result j) (sym (e ∙ ap (λ j. IsGround j p y) u.0.0.0.0))
      (part_stepped atom membrane h sound g k result (IsGround (length g.parts) p y) p.atom a p.port (membrane m) o from (λ q u. (t.ends q u, t.holds q u)) held t.there (λ is w. w.1) (λ c w. w) (refl, refl, refl, refl) (ground_gives g p y a m o from place t) given)

  -- A test of two parts that are set: what it answers is whether their graphs are the same, or not.
  parts_stepped : (g : SetRegisters A M) (result : Bool) (i : Instr) (P : ℕ × ℕ → ℕ × ℕ → Type 0) (x y : ℕ) (p q : A × ℕ) → AreHeldWhole atom membrane h g → slice_get g.parts x ≡ Some p → slice_get g.parts y ≡ Some q → SetsSo i 0 0 0 0 →
      ((is : List Instr) → HeadInOrder (length g.atoms) (length g.membranes) (length g.parts) (length g.integers) (i ∷ is) → HeadInOrder (length g.atoms) (length g.membranes) (length g.parts) (length g.integers) is) →
      ((c : HeadSize) (s : HeadRegisters) → (InstructionHolds h c s i → P (s.images.part x) (s.images.part y)) × (P (s.images.part x) (s.images.part y) → InstructionHolds h c s i)) →
      ((result ≡ true → P (port_id atom p) (port_id atom q)) × (P (port_id atom p) (port_id atom q) → result ≡ true)) → Stepped atom membrane h g g result i
  parts_stepped g result i P x y p q held at_x at_y none next means given = record {
    held = held;
    extends = extends_itself atom membrane h g;
    holds = λ t c s n a. (means c s).1 (subst (λ u. P u (s.images.part y)) (sym (a.parts x p at_x)) (subst (λ u. P (port_id atom p) u) (sym (a.parts y q at_y)) (given.0 t)));
    only = λ c s n a u. (given.1 (subst (λ w. P w (port_id atom q)) (a.parts x p at_x) (subst (λ w. P (s.images.part x) w) (a.parts y q at_y) ((means c s).0 u))), a);
    sets = λ t. nothing_more atom membrane h g i none;
    order = λ t is o. next is o;
  }

  pub equal_stepped : (g : SetRegisters A M) (result : Bool) (i : Instr) (x y : ℕ) (p q : A × ℕ) → i ≡ EqGround x y → AreHeldWhole atom membrane h g → slice_get g.parts x ≡ Some p → slice_get g.parts y ≡ Some q →
      ((result ≡ true → SameGraph (atom_map h) (port_id atom p) (atom_map h) (port_id atom q)) × (SameGraph (atom_map h) (port_id atom p) (atom_map h) (port_id atom q) → result ≡ true)) → Stepped atom membrane h g g result i
  equal_stepped g result i x y p q e held at_x at_y given = subst (λ j. Stepped atom membrane h g g result j) (sym e)
      (parts_stepped g result (EqGround x y) (λ u w. SameGraph (atom_map h) u (atom_map h) w) x y p q held at_x at_y (refl, refl, refl, refl) (λ is o. o.1) (λ c s. (λ t. t, λ t. t)) given)

  pub differ_stepped : (g : SetRegisters A M) (result : Bool) (i : Instr) (x y : ℕ) (p q : A × ℕ) → i ≡ NeqGround x y → AreHeldWhole atom membrane h g → slice_get g.parts x ≡ Some p → slice_get g.parts y ≡ Some q →
      ((result ≡ true → SameGraph (atom_map h) (port_id atom p) (atom_map h) (port_id atom q) → ⊥) × ((SameGraph (atom_map h) (port_id atom p) (atom_map h) (port_id atom q) → ⊥) → result ≡ true)) → Stepped atom membrane h g g result i
  differ_stepped g result i x y p q e held at_x at_y given = subst (λ j. Stepped atom membrane h g g result j) (sym e)
      (parts_stepped g result (NeqGround x y) (λ u w. SameGraph (atom_map h) u (atom_map h) w → ⊥) x y p q held at_x at_y (refl, refl, refl, refl) (λ is o. o.1) (λ c s. (λ t. t, λ t. t)) given)

  pub others_stepped : (g : SetRegisters A M) (result : Bool) (i : Instr) (x n : ℕ) (gs xs : List ℕ) (m : M) → i ≡ NAtoms x n gs → xs ≡ gs → AreHeldWhole atom membrane h g → slice_get g.membranes x ≡ Some m →
      ((s : HeadRegisters) → Agrees atom membrane g s → (result ≡ true → HasOthers (IsInSome h s xs) n (atoms_in h (membrane m))) × (HasOthers (IsInSome h s xs) n (atoms_in h (membrane m)) → result ≡ true)) → Stepped atom membrane h g g result i
  others_stepped g result i x n gs xs m e same held at given = subst (λ j. Stepped atom membrane h g g result j) (sym e) (record {
    held = held;
    extends = extends_itself atom membrane h g;
    holds = λ t c s _ a. subst (λ k. HasOthers (IsInSome h s gs) n (atoms_in h k)) (sym (a.membranes x m at)) (subst (λ ks. HasOthers (IsInSome h s ks) n (atoms_in h (membrane m))) same ((given s a).0 t));
    only = λ c s _ a u. ((given s a).1 (subst (λ ks. HasOthers (IsInSome h s ks) n (atoms_in h (membrane m))) (sym same) (subst (λ k. HasOthers (IsInSome h s gs) n (atoms_in h k)) (a.membranes x m at) u)), a);
    sets = λ t. nothing_more atom membrane h g (NAtoms x n gs) (refl, refl, refl, refl);
    order = λ t is o. o.1;
  })

  pub closed_stepped : (g : SetRegisters A M) (result : Bool) (i : Instr) (x : ℕ) (gs xs : List ℕ) (m : M) → i ≡ IsClosed x gs → xs ≡ gs → AreHeldWhole atom membrane h g → slice_get g.membranes x ≡ Some m →
      ((c : HeadSize) (s : HeadRegisters) (y : ℕ) → c.atoms ≡ length g.atoms → c.membranes ≡ length g.membranes → Agrees atom membrane g s → s.images.membrane y ≡ membrane m →
      (result ≡ true → IsClosedRest h c s y xs) × (IsClosedRest h c s y xs → result ≡ true)) → Stepped atom membrane h g g result i
  closed_stepped g result i x gs xs m e same held at given = subst (λ j. Stepped atom membrane h g g result j) (sym e) (record {
    held = held;
    extends = extends_itself atom membrane h g;
    holds = λ t c s n a. subst (λ ks. IsClosedRest h c s x ks) same ((given c s x n.0 n.1 a (a.membranes x m at)).0 t);
    only = λ c s n a u. ((given c s x n.0 n.1 a (a.membranes x m at)).1 (subst (λ ks. IsClosedRest h c s x ks) (sym same) u), a);
    sets = λ t. nothing_more atom membrane h g (IsClosed x gs) (refl, refl, refl, refl);
    order = λ t is o. o.1;
  })
