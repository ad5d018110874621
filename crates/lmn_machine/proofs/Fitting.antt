-- What is told of candidates by the code ahead.
use Rattle.std.proofs.Common.{ℕ, zero, suc, ◌≡◌, ◌<◌, ◌≤◌, inl, inr, List, [], ◌∷◌, Option, Some, None, refl, arith, ap, sym, subst, length, drop, ◌∙◌}
use Rattle.std.specs.Prelude.{false, slice_get, IfSome}
use Rattle.std.specs.Option.{option_map}
use Rattle.lmn_base.specs.declared.functor.Functor.{Functor}
use Rattle.lmn_base.specs.Lists.{In}
use Rattle.lmn_store_heap.specs.Lists.{after, from}
use Rattle.lmn_store_heap.specs.Heap.{Heap, link_of, atoms_in, mems_in}
use Rattle.lmn_store_heap.specs.Functors.{with_functor}
use Rattle.lmn_instr_code.specs.declared.instr.Instr.{Instr}
use Rattle.lmn_instr_code.specs.declared.instr.Instr.TheVariants.{FindAtom, AnyMem}
use Rattle.lmn_instr_code.specs.declared.instr.AtomPort.{AtomPort}
use Rattle.lmn_instr_code.specs.Running.{HeadRegisters, HeadSize, InstructionHolds, AllHold, port_of}
use Rattle.lmn_base.specs.Graphs.{Port}
use Rattle.lmn_solid_heads.specs.Embeddings.{partner}
use Rattle.lmn_store_heap.proofs.WithFunctor.{with_functor_in}
use Rattle.lmn_machine_registers.specs.declared.registers.SetRegisters.{SetRegisters}
use Rattle.lmn_machine_registers.specs.Agreeing.{Agrees}
use Rattle.lmn_machine.specs.Searching.{AreHeldWhole, Searched}
use Rattle.lmn_machine.specs.Asking.{AtomsFit, HoldsAsked, AsksFor, IsGuest}
use Rattle.lmn_machine.proofs.Stepping.{extends_itself}
use Rattle.lmn_machine.proofs.Choosing.{AtomsLeft, MembranesLeft, agrees_membrane, membrane_more}
use Rattle.lmn_machine.specs.Jumping.{with_membrane}

-- an instruction of code that holds as a whole holds
pub hold_behind : (h : Heap) (c : HeadSize) (s : HeadRegisters) (code : List Instr) (k at : ℕ) (i : Instr) → k ≤ at → slice_get code at ≡ Some i → AllHold h c s (drop k code) → InstructionHolds h c s i
hold_behind h c s [] k at i l e t = absurd (cc)
hold_behind h c s (x ∷ xs) zero zero i l e t = let d : x ≡ i = cc in subst (λ y. InstructionHolds h c s y) d t.0
hold_behind h c s (x ∷ xs) zero (suc at) i l e t = hold_behind h c s xs zero at i (omega arith) e t.1
hold_behind h c s (x ∷ xs) (suc k) zero i l e t = absurd (omega arith)
hold_behind h c s (x ∷ xs) (suc k) (suc at) i l e t = hold_behind h c s xs k at i (omega arith) e t

-- the end of a port in a register
pub led : {A : Type 0} (atom : A → ℕ) (h : Heap) (s : HeadRegisters) (p : AtomPort) (r q : Port) (a : A) → link_of h (atom a) p.port ≡ Some q → s.images.atom p.atom ≡ atom a → partner h (port_of s p) ≡ Some r → r ≡ q
led atom h s p r q a link e d =
    let t : link_of h (atom a) p.port ≡ Some r = ap (λ n. link_of h n p.port) (sym e) ∙ d in
    let u : Some q ≡ Some r = sym link ∙ t in
    let v : q ≡ r = cc in
    sym v

-- where no atom with a functor is first, none is there
pub none_first : (h : Heap) (f : Functor) (m : ℕ) → from None (with_functor h f (atoms_in h m)) ≡ with_functor h f (atoms_in h m) → HoldsAsked h (Some f) m → ⊥
none_first h f m e t = subst (λ xs. In t.0 xs) (sym e) (with_functor_in h f t.0 (atoms_in h m) t.2 t.1)

-- what is left from a candidate on, and isn't this one, is left from the next one on
pub left_behind : (x a : ℕ) (o : Option ℕ) (xs : List ℕ) → (x ≡ a → ⊥) → from o xs ≡ after a xs → In x (from (Some a) xs) → In x (from o xs)
left_behind x a o xs d e (inl u) = absurd (d (sym u))
left_behind x a o xs d e (inr u) = subst (λ ys. In x ys) (sym e) u

-- fewer are left from the next one on
pub fewer_behind : (a n : ℕ) (o : Option ℕ) (xs : List ℕ) → from o xs ≡ after a xs → length (from (Some a) xs) ≤ n → length (from o xs) ≤ n
fewer_behind a n o xs e l = let k : length (from o xs) ≡ length (after a xs) = ap length e in omega (arith, k, l)

pub smaller : (a : ℕ) (o r : Option ℕ) (xs : List ℕ) → from o xs ≡ after a xs → length (from r xs) ≤ length (from o xs) → length (from r xs) < length (from (Some a) xs)
smaller a o r xs e l = let k : length (from o xs) ≡ length (after a xs) = ap length e in omega (arith, k, l)

-- What is left of the membranes from one candidate on is left from another on, whenever they hold what is asked.
abbrev pub MembranesFit : {M : Type 0} → (M → ℕ) → Heap → Option Functor → ℕ → Option M → Option M → Type 0
MembranesFit membrane h asked m start r = (n : ℕ) → HoldsAsked h asked n → In n (from (option_map membrane start) (mems_in h m)) → In n (from (option_map membrane r) (mems_in h m))

module _ {A M : Type 0} (atom : A → ℕ) (membrane : M → ℕ) (h : Heap) where
  -- Candidates of which it is told that they fail are passed.
  pub atoms_fit : (g : SetRegisters A M) (code is : List Instr) (f : Functor) (y : ℕ) (m : M) (start r : Option A) → code ≡ FindAtom (length g.atoms) y f ∷ is → AtomsLeft atom membrane h g code f m start →
      AtomsFit atom membrane h g is f (membrane m) start r → AtomsLeft atom membrane h g code f m r
  atoms_fit g code is f y m start r e left fits = record {
    left = λ c s k a t.
        (let u : AllHold h c s (FindAtom (length g.atoms) y f ∷ is) = subst (λ k. AllHold h c s k) e t in
        fits c s a u.1 (left.left c s k a t));
  }

  -- what code asks for, it holds
  asked_holds : (g : SetRegisters A M) (code : List Instr) (at register : ℕ) (asked : Option Functor) → IfSome asked (λ f. AsksFor code at register f) → (c : HeadSize) (s : HeadRegisters) → AllHold h c s (drop at code) →
      HoldsAsked h asked (s.images.membrane register)
  asked_holds g code at register None t c s u = tt
  asked_holds g code at register (Some f) t c s u =
      let v = hold_behind h c s code at t.0 (FindAtom t.1 register f) t.2 t.3 u in
      (s.images.atom t.1, v.0, v.1)

  pub membranes_fit : (g : SetRegisters A M) (whole code : List Instr) (at y : ℕ) (m : M) (asked : Option Functor) (start r : Option M) → code ≡ AnyMem (length g.membranes) y ∷ drop at whole → MembranesLeft atom membrane h g code m start →
      IfSome asked (λ f. AsksFor whole at (length g.membranes) f) →
      MembranesFit membrane h asked (membrane m) start r → MembranesLeft atom membrane h g code m r
  membranes_fit g whole code at y m asked start r e left asks fits = record {
    left = λ c s k a t.
        (let u : AllHold h c s (AnyMem (length g.membranes) y ∷ drop at whole) = subst (λ k. AllHold h c s k) e t in
        fits (s.images.membrane (length g.membranes)) (asked_holds g whole at (length g.membranes) asked asks c s u.1) (left.left c s k a t));
  }

  -- Where the membrane is told by an atom that stands in it, it is the only candidate.
  pub record OnlyOne (g : SetRegisters A M) (code : List Instr) (r : Option M) : Type 0 where
    pub only : (c : HeadSize) (s : HeadRegisters) → Agrees atom membrane g s → AllHold h c s code → option_map membrane r ≡ Some (s.images.membrane (length g.membranes))

  pub only_home : (g : SetRegisters A M) (code is : List Instr) (y : ℕ) (m : M) (a : ℕ) (r : Option M) → code ≡ AnyMem (length g.membranes) y ∷ is → slice_get g.membranes y ≡ Some m →
      IsGuest atom membrane h g is (length g.membranes) a → ((n : ℕ) → In a (atoms_in h n) → In n (mems_in h (membrane m)) → option_map membrane r ≡ Some n) → OnlyOne g code r
  only_home g code is y m a r e at guest only = record {
    only = λ c s b t.
        (let u : AllHold h c s (AnyMem (length g.membranes) y ∷ is) = subst (λ k. AllHold h c s k) e t in
        let n = s.images.membrane (length g.membranes) in
        only n (guest c s b u.1) (subst (λ p. In n (mems_in h p)) (b.membranes y m at) u.0));
  }

  pub only_left : (g : SetRegisters A M) (code : List Instr) (m : M) (r : Option M) → OnlyOne g code r → MembranesLeft atom membrane h g code m r
  only_left g code m r o = record {
    left = λ c s k a t. subst (λ (x : Option ℕ). In (s.images.membrane (length g.membranes)) (from x (mems_in h (membrane m)))) (sym (o.only c s a t)) (inl refl);
  }

  none_only : (g : SetRegisters A M) (a : M) (n : ℕ) → option_map membrane (Some a) ≡ Some n → n ≡ membrane a
  none_only g a n e = cc

  -- where it fails, the code does
  pub only_fails : (g k : SetRegisters A M) (code is : List Instr) (y : ℕ) (a : M) → code ≡ AnyMem (length g.membranes) y ∷ is → AreHeldWhole atom membrane h g → OnlyOne g code (Some a) →
      Searched atom membrane h (with_membrane g a) k false is → Searched atom membrane h g g false code
  only_fails g k code is y a e held o t = record {
    held = held;
    extends = extends_itself atom membrane h g;
    sets = λ u. absurd (cc);
    found = λ u. absurd (cc);
    none = λ u c s l b v.
        (let w : AllHold h c s (AnyMem (length g.membranes) y ∷ is) = subst (λ k. AllHold h c s k) e v in
        t.none refl c s (membrane_more atom membrane h g a code is y c e l) (agrees_membrane atom membrane h g a s b (none_only g a (s.images.membrane (length g.membranes)) (o.only c s b v))) w.1);
  }
