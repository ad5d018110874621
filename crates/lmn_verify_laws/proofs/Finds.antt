-- What the head of code in order finds, by its numbers, and what holds of it where the instructions hold.
use Rattle.std.proofs.Common.{◌≡◌, ◌<◌, ◌+◌, ◌==◌, ◌∙◌, inl, inr, ℕ, true, List, [], ◌∷◌, ◌++◌, Some, refl, sym, subst, arith, true≢false}
use Rattle.std.specs.List.{AllByRecursion}
use Rattle.std.proofs.lemmas.Bool.{eqb-true}
use Rattle.lmn_base.specs.Lists.{In}
use Rattle.lmn_base.proofs.Lists.{all_append}
use Rattle.lmn_base.proofs.Truth.{and_true}
use Rattle.lmn_store_heap.specs.Heap.{Heap, functor_of, atoms_in, mems_in}
use Rattle.lmn_congruence_splice.specs.Splice.{IsOneOf}
use Rattle.lmn_compile_head.proofs.Holding.{EachFrom}
use Rattle.lmn_instr_code.specs.declared.instr.Instr.{Instr}
use Rattle.lmn_instr_code.specs.declared.instr.Instr.TheVariants.{FindAtom, Deref, Func, InMem, AnyMem, IsInt, IsUnary, IsGround, NAtoms, IsClosed, GetInt, Const, Add, Sub, Mul, Div, Mod}
use Rattle.lmn_instr_code.specs.Running.{HeadRegisters, HeadSize, InstructionHolds, AllHold, IsContext, atoms_set, membranes_set}
use Rattle.lmn_machine.specs.Searching.{HeadInOrder, parts_set}
use Rattle.lmn_verify_code.specs.declared.found.FoundAtom.{FoundAtom}
use Rattle.lmn_verify_code.specs.declared.found.FoundMembrane.{FoundMembrane}
use Rattle.lmn_verify_code.specs.declared.found.FoundPart.{FoundPart}
use Rattle.lmn_verify_code.specs.Verified.{atoms_found, membranes_found, parts_found, found_behind, looks_at, all_looked_at}

below_more : (g n : ℕ) (gs : List ℕ) → ((k : ℕ) → k < g → k < n) → AllByRecursion (λ k. k < g) gs → AllByRecursion (λ k. k < n) gs
below_more g n [] f h = tt
below_more g n (k ∷ gs) f h = (f k h.0, below_more g n gs f h.1)

-- ---- numbers

-- The registers set at last are A of atoms, M of membranes and G of typed contexts.
module _ (A M G : ℕ) where
  -- what is found with the number n
  abbrev pub IsAtomAt : ℕ → FoundAtom → Type 0
  IsAtomAt n x = (x.atom ≡ n) × (x.membrane < M)

  abbrev pub IsMembraneAt : ℕ → FoundMembrane → Type 0
  IsMembraneAt n x = (x.membrane ≡ n) × (x.inside < n)

  abbrev pub IsPartAt : ℕ → FoundPart → Type 0
  IsPartAt n x = (x.part ≡ n) × (x.membrane < M) × (x.port.atom < A)

  -- the typed contexts that an instruction names are set
  abbrev pub NamesSet : Instr → Type 0
  NamesSet (NAtoms m n gs) = AllByRecursion (λ k. k < G) gs
  NamesSet (IsClosed m gs) = AllByRecursion (λ k. k < G) gs
  NamesSet _ = Unit {0}

  -- All of it, where a atoms, m membranes and g typed contexts were found before.
  pub record Found (a m g : ℕ) (is : List Instr) : Type 0 where
    pub atoms : EachFrom IsAtomAt a (atoms_found is)
    pub membranes : EachFrom IsMembraneAt m (membranes_found is)
    pub parts : EachFrom IsPartAt g (parts_found is)
    pub names : AllByRecursion NamesSet is

  -- what the two instructions behind DEREF tell
  looked : (x a m g v : ℕ) (is : List Instr) → looks_at x is ≡ true → HeadInOrder a m g v is → (y : FoundAtom) × (found_behind x is ≡ y ∷ []) × (y.atom ≡ x) × (y.membrane < m)
  looked x a m g v [] e o = absurd (true≢false (sym e))
  looked x a m g v (Func b f ∷ []) e o = absurd (true≢false (sym e))
  looked x a m g v (Func b f ∷ (InMem d w ∷ is)) e o = (record { atom = x; functor = f; membrane = w }, refl, refl, o.1.0.1)
  looked x a m g v (Func b f ∷ (_ ∷ is)) e o = absurd (true≢false (sym e))
  looked x a m g v (_ ∷ is) e o = absurd (true≢false (sym e))

  -- Code in order finds all of it.
  pub found : (is : List Instr) (a m g v : ℕ) → HeadInOrder a m g v is → all_looked_at is ≡ true → a + atoms_set is ≡ A → m + membranes_set is ≡ M → g + parts_set is ≡ G → Found a m g is
  found [] a m g v o l ea em eg = record { atoms = tt; membranes = tt; parts = tt; names = tt }
  found (FindAtom x y f ∷ is) a m g v o l ea em eg =
      let n : a + (1 + atoms_set is) ≡ A = ea in
      let w = found is (a + 1) m g v o.1 l (omega (arith, n)) em eg in
      record { atoms = ((o.0.0, (let b = o.0.1 in omega (arith, b, em))), w.atoms); membranes = w.membranes; parts = w.parts; names = (tt, w.names) }
  found (Deref x p k ∷ is) a m g v o l ea em eg =
      let n : a + (1 + atoms_set is) ≡ A = ea in
      let s = and_true (looks_at x is) (all_looked_at is) l in
      let w = found is (a + 1) m g v o.1 s.1 (omega (arith, n)) em eg in
      let y = looked x (a + 1) m g v is s.0 o.1 in
      record {
        atoms = subst (λ z. EachFrom IsAtomAt a (z ++ atoms_found is)) (sym y.1) ((y.2 ∙ o.0.0, (let b = y.3 in omega (arith, b, em))), w.atoms);
        membranes = w.membranes;
        parts = w.parts;
        names = (tt, w.names);
      }
  found (AnyMem x y ∷ is) a m g v o l ea em eg =
      let n : m + (1 + membranes_set is) ≡ M = em in
      let w = found is a (m + 1) g v o.1 l ea (omega (arith, n)) eg in
      record { atoms = w.atoms; membranes = ((o.0.0, o.0.1), w.membranes); parts = w.parts; names = (tt, w.names) }
  found (IsInt x p y ∷ is) a m g v o l ea em eg =
      let n : g + (1 + parts_set is) ≡ G = eg in
      let w = found is a m (g + 1) v o.1 l ea em (omega (arith, n)) in
      record { atoms = w.atoms; membranes = w.membranes; parts = ((o.0.0.0.0, (let b = o.0.0.2 in omega (arith, b, em)), (let b = o.0.0.1 in omega (arith, b, ea))), w.parts); names = (tt, w.names) }
  found (IsUnary x p y ∷ is) a m g v o l ea em eg =
      let n : g + (1 + parts_set is) ≡ G = eg in
      let w = found is a m (g + 1) v o.1 l ea em (omega (arith, n)) in
      record { atoms = w.atoms; membranes = w.membranes; parts = ((o.0.0.0.0, (let b = o.0.0.2 in omega (arith, b, em)), (let b = o.0.0.1 in omega (arith, b, ea))), w.parts); names = (tt, w.names) }
  found (IsGround x p y ∷ is) a m g v o l ea em eg =
      let n : g + (1 + parts_set is) ≡ G = eg in
      let w = found is a m (g + 1) v o.1 l ea em (omega (arith, n)) in
      record { atoms = w.atoms; membranes = w.membranes; parts = ((o.0.0.0.0, (let b = o.0.0.2 in omega (arith, b, em)), (let b = o.0.0.1 in omega (arith, b, ea))), w.parts); names = (tt, w.names) }
  found (NAtoms x n gs ∷ is) a m g v o l ea em eg =
      let w = found is a m g v o.1 l ea em eg in
      record { atoms = w.atoms; membranes = w.membranes; parts = w.parts; names = (below_more g G gs (λ k b. omega (arith, b, eg)) o.0.1, w.names) }
  found (IsClosed x gs ∷ is) a m g v o l ea em eg =
      let w = found is a m g v o.1 l ea em eg in
      record { atoms = w.atoms; membranes = w.membranes; parts = w.parts; names = (below_more g G gs (λ k b. omega (arith, b, eg)) o.0.1, w.names) }
  found (GetInt x y ∷ is) a m g v o l ea em eg =
      let w = found is a m g (v + 1) o.1 l ea em eg in
      record { atoms = w.atoms; membranes = w.membranes; parts = w.parts; names = (tt, w.names) }
  found (Const x z ∷ is) a m g v o l ea em eg =
      let w = found is a m g (v + 1) o.1 l ea em eg in
      record { atoms = w.atoms; membranes = w.membranes; parts = w.parts; names = (tt, w.names) }
  found (Add x y z ∷ is) a m g v o l ea em eg =
      let w = found is a m g (v + 1) o.1 l ea em eg in
      record { atoms = w.atoms; membranes = w.membranes; parts = w.parts; names = (tt, w.names) }
  found (Sub x y z ∷ is) a m g v o l ea em eg =
      let w = found is a m g (v + 1) o.1 l ea em eg in
      record { atoms = w.atoms; membranes = w.membranes; parts = w.parts; names = (tt, w.names) }
  found (Mul x y z ∷ is) a m g v o l ea em eg =
      let w = found is a m g (v + 1) o.1 l ea em eg in
      record { atoms = w.atoms; membranes = w.membranes; parts = w.parts; names = (tt, w.names) }
  found (Div x y z ∷ is) a m g v o l ea em eg =
      let w = found is a m g (v + 1) o.1 l ea em eg in
      record { atoms = w.atoms; membranes = w.membranes; parts = w.parts; names = (tt, w.names) }
  found (Mod x y z ∷ is) a m g v o l ea em eg =
      let w = found is a m g (v + 1) o.1 l ea em eg in
      record { atoms = w.atoms; membranes = w.membranes; parts = w.parts; names = (tt, w.names) }
  found (_ ∷ is) a m g v o l ea em eg =
      let w = found is a m g v o.1 l ea em eg in
      record { atoms = w.atoms; membranes = w.membranes; parts = w.parts; names = (tt, w.names) }

-- ---- what holds

module _ (h : Heap) (c : HeadSize) (r : HeadRegisters) where
  -- each instruction of code holds
  pub holds_at : (is : List Instr) (i : Instr) → AllHold h c r is → IsOneOf i is → InstructionHolds h c r i
  holds_at [] i t o = absurd o
  holds_at (j ∷ is) i t (inl e) = subst (InstructionHolds h c r) e t.0
  holds_at (j ∷ is) i t (inr o) = holds_at is i t.1 o

  -- an atom has its functor and stands in its membrane
  abbrev pub AtomHolds : FoundAtom → Type 0
  AtomHolds x = (functor_of h (r.images.atom x.atom) ≡ Some x.functor) × In (r.images.atom x.atom) (atoms_in h (r.images.membrane x.membrane))

  abbrev pub MembraneHolds : FoundMembrane → Type 0
  MembraneHolds x = In (r.images.membrane x.membrane) (mems_in h (r.images.membrane x.inside))

  abbrev pub PartHolds : FoundPart → Type 0
  PartHolds x = IsContext h c.atoms r x.kind x.part x.port x.membrane

  looked_holds : (x : ℕ) (is : List Instr) → looks_at x is ≡ true → AllHold h c r is → AllByRecursion AtomHolds (found_behind x is)
  looked_holds x [] e t = tt
  looked_holds x (Func b f ∷ []) e t = tt
  looked_holds x (Func b f ∷ (InMem d w ∷ is)) e t =
      let s = and_true (b == x) (d == x) e in
      ((subst (λ z. functor_of h (r.images.atom z) ≡ Some f) (eqb-true b x s.0) t.0, subst (λ z. In (r.images.atom z) (atoms_in h (r.images.membrane w))) (eqb-true d x s.1) t.1.0), tt)
  looked_holds x (Func b f ∷ (_ ∷ is)) e t = tt
  looked_holds x (_ ∷ is) e t = tt

  -- Where all instructions hold, the atoms, membranes and typed contexts that are found do.
  pub atoms_hold : (is : List Instr) → all_looked_at is ≡ true → AllHold h c r is → AllByRecursion AtomHolds (atoms_found is)
  atoms_hold [] l t = tt
  atoms_hold (FindAtom x y f ∷ is) l t = ((t.0.1, t.0.0), atoms_hold is l t.1)
  atoms_hold (Deref x p k ∷ is) l t =
      let s = and_true (looks_at x is) (all_looked_at is) l in
      all_append AtomHolds (found_behind x is) (atoms_found is) (looked_holds x is s.0 t.1) (atoms_hold is s.1 t.1)
  atoms_hold (_ ∷ is) l t = atoms_hold is l t.1

  pub membranes_hold : (is : List Instr) → AllHold h c r is → AllByRecursion MembraneHolds (membranes_found is)
  membranes_hold [] t = tt
  membranes_hold (AnyMem x y ∷ is) t = (t.0, membranes_hold is t.1)
  membranes_hold (_ ∷ is) t = membranes_hold is t.1

  pub parts_hold : (is : List Instr) → AllHold h c r is → AllByRecursion PartHolds (parts_found is)
  parts_hold [] t = tt
  parts_hold (IsInt g p m ∷ is) t = (t.0, parts_hold is t.1)
  parts_hold (IsUnary g p m ∷ is) t = (t.0, parts_hold is t.1)
  parts_hold (IsGround g p m ∷ is) t = (t.0, parts_hold is t.1)
  parts_hold (_ ∷ is) t = parts_hold is t.1
