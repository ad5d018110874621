-- Trying the candidates of a choice, where failures name choices.
use Rattle.std.proofs.Common.{ℕ, ◌≡◌, ◌<◌, ◌+◌, inl, inr, List, ◌∷◌, Option, Some, None, refl, arith, ap, sym, subst, length, drop, ◌∙◌}
use Rattle.std.specs.Prelude.{Bool, true, false, is_ok, ◌↔◌, slice_get, Result, Ok, Err}
use Rattle.std.specs.Option.{option_map}
use Rattle.lmn_base.specs.declared.functor.Functor.{Functor}
use Rattle.lmn_base.specs.Lists.{In}
use Rattle.lmn_base.proofs.Lists.{get_either, get_last}
use Rattle.lmn_store_heap.specs.Lists.{after, from}
use Rattle.lmn_store_heap.specs.Heap.{Heap, atoms_in, mems_in, link_of}
use Rattle.lmn_store_heap.specs.Functors.{with_functor}
use Rattle.lmn_instr_code.specs.declared.instr.Instr.{Instr}
use Rattle.lmn_instr_code.specs.declared.instr.Instr.TheVariants.{FindAtom, Deref, InMem, AnyMem}
use Rattle.lmn_instr_code.specs.declared.instr.AtomPort.{AtomPort}
use Rattle.lmn_instr_code.specs.Running.{HeadRegisters, HeadSize, AllHold}
use Rattle.lmn_machine_registers.specs.declared.registers.SetRegisters.{SetRegisters}
use Rattle.lmn_machine.specs.Searching.{AreHeldWhole, ChoosesNone, Extends, HeadInOrder, Searched, SetsAll, Stepped}
use Rattle.lmn_machine.specs.Jumping.{AgreesOn, Ended, HangsBy, Lasted, ReadsWithin, Refuted, RestsWell, Within, on_atom, on_membrane, with_atom, with_membrane}
use Rattle.lmn_machine.specs.declared.choices.Choices.{Choices}
use Rattle.lmn_machine.specs.declared.reasons.Reasons.{Reasons}
use Rattle.lmn_machine.proofs.Stepping.{Passed, ahead_set, extends_itself, extends_on, left_sets, passed_search}
use Rattle.lmn_machine.proofs.Calling.{order_first}
use Rattle.lmn_machine.proofs.Fitting.{hold_behind}
use Rattle.lmn_store_heap.proofs.WithFunctor.{with_functor_in}
use Rattle.lmn_machine.proofs.Choosing.{AtomsLeft, MembranesLeft, atom_more, membrane_more}
use Rattle.lmn_machine.proofs.Jumps.{agrees_on, fails_on, on_less, on_past, within_itself}

-- what is not among some is not what is among them
pub outside : (b : Bool) (P Q : Type 0) → ((b ≡ true) ↔ P) → b ≡ false → (Q → P) → Q → ⊥
outside b P Q e f k q = let t = e.1 (k q) in cc

module _ {A M : Type 0} (atom : A → ℕ) (membrane : M → ℕ) (h : Heap) where
  -- The search that may give up

  -- what a search says that doesn't give up, whatever patience is left
  pub lasted : (left : ℕ) (g k : SetRegisters A M) (result : Bool) (code : List Instr) → Searched atom membrane h g k result code → Lasted left atom membrane h g k result code
  lasted left g k result code t = record { held = t.held; extends = t.extends; found = λ u. t; searched = λ l. t }

  -- one that gives up
  pub given_up : (left : ℕ) (g k : SetRegisters A M) (code : List Instr) → left ≡ 0 → AreHeldWhole atom membrane h k → Extends g k → Lasted left atom membrane h g k false code
  given_up left g k code e held extends = record { held = held; extends = extends; found = λ u. absurd (cc); searched = λ l. absurd (omega (arith, e, l)) }

  -- one of which the failure is known where it doesn't
  pub lasted_by : (left : ℕ) (g k : SetRegisters A M) (code : List Instr) → AreHeldWhole atom membrane h k → Extends g k → (0 < left → Searched atom membrane h g k false code) → Lasted left atom membrane h g k false code
  lasted_by left g k code held extends t = record { held = held; extends = extends; found = λ u. absurd (cc); searched = t }

  -- behind what is passed
  pub passed_lasted : (left : ℕ) (g0 g k : SetRegisters A M) (code0 code : List Instr) (result : Bool) → Passed atom membrane h g0 g code0 code → Lasted left atom membrane h g k result code → Lasted left atom membrane h g0 k result code0
  passed_lasted left g0 g k code0 code result p t = record {
    held = t.held;
    extends = extends_on atom membrane h g0 g k p.extends t.extends;
    found = λ u. passed_search atom membrane h g0 g k code0 code result p (t.found u);
    searched = λ l. passed_search atom membrane h g0 g k code0 code result p (t.searched l);
  }

  -- nothing is passed of code
  pub passed_none : (g : SetRegisters A M) (code : List Instr) → AreHeldWhole atom membrane h g → HeadInOrder (length g.atoms) (length g.membranes) (length g.parts) (length g.integers) code → Passed atom membrane h g g code code
  passed_none g code held order = record {
    held = held;
    extends = extends_itself atom membrane h g;
    order = order;
    back = λ c s m a u. u;
    on = λ c s m a u. (a, u);
    count = refl;
    count_membranes = refl;
    same = λ s. refl;
    sets = λ k t. t;
  }

  module _ (r : Reasons) where
    -- What is passed of code, for registers that agree on choices.
    pub record PassedOn (g0 g : SetRegisters A M) (code0 code : List Instr) : Type 0 where
      pub on : (e : Choices) (c : HeadSize) (s : HeadRegisters) → SetsAll c g0 code0 → AgreesOn atom membrane r e g0 s → AllHold h c s code0 → AgreesOn atom membrane r e g s × AllHold h c s code

    pub passed_nothing : (g : SetRegisters A M) (code : List Instr) → PassedOn g g code code
    passed_nothing g code = record { on = λ e c s m a u. (a, u) }

    pub passed_one_on : (g0 g k : SetRegisters A M) (code0 is : List Instr) (i : Instr) → ChoosesNone i → RestsWell r i → Passed atom membrane h g0 g code0 (i ∷ is) → PassedOn g0 g code0 (i ∷ is) → Stepped atom membrane h g k true i → PassedOn g0 k code0 is
    passed_one_on g0 g k code0 is i n w p q t = record {
      on = λ e c s m a u. (let v = q.on e c s m a u in
          (on_past atom membrane h r e g k c s i n (order_first i (length g.atoms) (length g.membranes) (length g.parts) (length g.integers) is p.order) w (ahead_set atom membrane h g0 g code0 is i p c m) t v.0 v.1.0, v.1.1));
    }

    -- an instruction that fails names what it reads
    pub ended_failed : (g0 g k : SetRegisters A M) (e : Choices) (code0 is : List Instr) (i : Instr) → ReadsWithin r e i → Passed atom membrane h g0 g code0 (i ∷ is) → PassedOn g0 g code0 (i ∷ is) → Stepped atom membrane h g k false i → Ended atom membrane h r g0 k (Err e) code0
    ended_failed g0 g k e code0 is i w p q t = (
      t.held,
      extends_on atom membrane h g0 g k p.extends t.extends,
      λ c s m a u. (let v = q.on e c s m a u in
          fails_on atom membrane h r e g c s i (order_first i (length g.atoms) (length g.membranes) (length g.parts) (length g.integers) is p.order) w v.0
          (λ z b x. (let y = (t.only c z (ahead_set atom membrane h g0 g code0 is i p c m) b x).0 in cc)) v.1.0),
    )

    -- what the search behind what is passed answers is what it answers from there on
    pub ended_passed : (g0 g k : SetRegisters A M) (code0 code : List Instr) (result : Result (Unit {0}) Choices) → Passed atom membrane h g0 g code0 code → PassedOn g0 g code0 code → Ended atom membrane h r g k result code → Ended atom membrane h r g0 k result code0
    ended_passed g0 g k code0 code (Ok u) p q t = passed_search atom membrane h g0 g k code0 code true p t
    ended_passed g0 g k code0 code (Err e) p q t = (t.0, extends_on atom membrane h g0 g k p.extends t.1, λ c s m a u. (let v = q.on e c s m a u in t.2 c s (left_sets atom membrane h g0 g code0 code p c m) v.0 v.1))

    -- a failure is one of the plain search
    pub failed_plainly : (e : Choices) (g k : SetRegisters A M) (code : List Instr) → AreHeldWhole atom membrane h k → Extends g k → Refuted atom membrane h r e g code → Searched atom membrane h g k false code
    failed_plainly e g k code held extends denied = record {
      held = held;
      extends = extends;
      sets = λ u. absurd (cc);
      found = λ u. absurd (cc);
      none = λ u c s m a v. denied c s m (agrees_on atom membrane h r e g s a) v;
    }

    -- what the search that jumps back answers, as the plain one says it
    pub ended_plainly : (g k : SetRegisters A M) (result : Result (Unit {0}) Choices) (code : List Instr) (b : Bool) → b ≡ is_ok result → Ended atom membrane h r g k result code → Searched atom membrane h g k b code
    ended_plainly g k (Ok u) code b e t = subst (λ x. Searched atom membrane h g k x code) (sym e) t
    ended_plainly g k (Err d) code b e t = subst (λ x. Searched atom membrane h g k x code) (sym e) (failed_plainly d g k code t.0 t.1 t.2)

    -- Atoms

    on_atom_more : (e : Choices) (g : SetRegisters A M) (a : A) (s : HeadRegisters) → AgreesOn atom membrane r e g s → s.images.atom (length g.atoms) ≡ atom a → AgreesOn atom membrane r e (with_atom g a) s
    on_atom_more e g a s t q = record {
      atoms = λ k x u w. elim (get_either g.atoms a k x u) [ inl v ↦ t.atoms k x v w | inr v ↦ ap s.images.atom v.0 ∙ (q ∙ ap atom v.1) ];
      membranes = t.membranes;
      parts = t.parts;
      integers = t.integers;
    }

    past_atom : (e : Choices) (g : SetRegisters A M) (a : A) (s : HeadRegisters) → (Within (on_atom r (length g.atoms)) e → ⊥) → AgreesOn atom membrane r e g s → AgreesOn atom membrane r e (with_atom g a) s
    past_atom e g a s out t = record {
      atoms = λ k x u w. elim (get_either g.atoms a k x u) [ inl v ↦ t.atoms k x v w | inr v ↦ absurd (out (subst (λ n. Within (on_atom r n) e) v.0 w)) ];
      membranes = t.membranes;
      parts = t.parts;
      integers = t.integers;
    }

    -- a failure with one candidate that doesn't name the choice is one of the choice
    pub jump_atom : (e : Choices) (g : SetRegisters A M) (a : A) (code is : List Instr) (f : Functor) (y : ℕ) → code ≡ FindAtom (length g.atoms) y f ∷ is → (Within (on_atom r (length g.atoms)) e → ⊥) → Refuted atom membrane h r e (with_atom g a) is → Refuted atom membrane h r e g code
    jump_atom e g a code is f y q out denied c s m t all =
        let u : AllHold h c s (FindAtom (length g.atoms) y f ∷ is) = subst (λ k. AllHold h c s k) q all in
        denied c s (atom_more atom membrane h g a code is f y c q m) (past_atom e g a s out t) u.1

    -- a failure that the atom alone tells names its choice
    pub alone_atom : (g : SetRegisters A M) (a : A) (is : List Instr) → ((c : HeadSize) (s : HeadRegisters) → s.images.atom (length g.atoms) ≡ atom a → AllHold h c s is → ⊥) → Refuted atom membrane h r (on_atom r (length g.atoms)) (with_atom g a) is
    alone_atom g a is denied c s m t all = denied c s (t.atoms (length g.atoms) a (get_last g.atoms a) (within_itself (on_atom r (length g.atoms)))) all

    -- Registers that agree on these choices, and with which the code holds, have one of the candidates that are left.
    pub record AtomsLeftOn (e : Choices) (g : SetRegisters A M) (code : List Instr) (f : Functor) (m : M) (candidate : Option A) : Type 0 where
      pub left : (c : HeadSize) (s : HeadRegisters) → SetsAll c g code → AgreesOn atom membrane r e g s → AllHold h c s code →
          In (s.images.atom (length g.atoms)) (from (option_map atom candidate) (with_functor h f (atoms_in h (membrane m))))

    pub atoms_left : (e : Choices) (g : SetRegisters A M) (code : List Instr) (f : Functor) (m : M) (candidate : Option A) → AtomsLeftOn e g code f m candidate → AtomsLeft atom membrane h g code f m candidate
    atoms_left e g code f m candidate t = record { left = λ c s k a u. t.left c s k (agrees_on atom membrane h r e g s a) u }

    pub atoms_first_on : (e : Choices) (g : SetRegisters A M) (code is : List Instr) (f : Functor) (y : ℕ) (m : M) (o : Option A) → code ≡ FindAtom (length g.atoms) y f ∷ is → slice_get g.membranes y ≡ Some m → Within (on_membrane r y) e →
        from (option_map atom o) (with_functor h f (atoms_in h (membrane m))) ≡ with_functor h f (atoms_in h (membrane m)) → AtomsLeftOn e g code f m o
    atoms_first_on e g code is f y m o q at w all = record {
      left = λ c s k a t.
          (let u : AllHold h c s (FindAtom (length g.atoms) y f ∷ is) = subst (λ k. AllHold h c s k) q t in
          let place = a.membranes y m at w in
          let n = s.images.atom (length g.atoms) in
          let here : In n (atoms_in h (membrane m)) = subst (λ p. In n (atoms_in h p)) place u.0.0 in
          subst (λ xs. In n xs) (sym all) (with_functor_in h f n (atoms_in h (membrane m)) u.0.1 here));
    }

    pub atoms_next_on : (e d b : Choices) (g : SetRegisters A M) (code is : List Instr) (f : Functor) (y : ℕ) (m : M) (a : A) (o : Option A) → code ≡ FindAtom (length g.atoms) y f ∷ is → Within e b → Within d b →
        AtomsLeftOn e g code f m (Some a) → Refuted atom membrane h r d (with_atom g a) is →
        from (option_map atom o) (with_functor h f (atoms_in h (membrane m))) ≡ after (atom a) (with_functor h f (atoms_in h (membrane m))) → AtomsLeftOn b g code f m o
    atoms_next_on e d b g code is f y m a o q we wd left denied all = record {
      left = λ c s k t u.
          (let v : AllHold h c s (FindAtom (length g.atoms) y f ∷ is) = subst (λ k. AllHold h c s k) q u in
          elim (left.left c s k (on_less atom membrane h r e b g s we t) u) [
            | inl w ↦ absurd (denied c s (atom_more atom membrane h g a code is f y c q k) (on_atom_more d g a s (on_less atom membrane h r d b g s wd t) (sym w)) v.1)
            | inr w ↦ subst (λ xs. In (s.images.atom (length g.atoms)) xs) (sym all) w
          ]);
    }

    pub atoms_none_on : (e : Choices) (g : SetRegisters A M) (code : List Instr) (f : Functor) (m : M) → AreHeldWhole atom membrane h g → AtomsLeftOn e g code f m None → Ended atom membrane h r g g (Err e) code
    atoms_none_on e g code f m held left = (held, extends_itself atom membrane h g, λ c s k a t. left.left c s k a t)

    -- Membranes, likewise

    on_membrane_more : (e : Choices) (g : SetRegisters A M) (m : M) (s : HeadRegisters) → AgreesOn atom membrane r e g s → s.images.membrane (length g.membranes) ≡ membrane m → AgreesOn atom membrane r e (with_membrane g m) s
    on_membrane_more e g m s t q = record {
      atoms = t.atoms;
      membranes = λ k x u w. elim (get_either g.membranes m k x u) [ inl v ↦ t.membranes k x v w | inr v ↦ ap s.images.membrane v.0 ∙ (q ∙ ap membrane v.1) ];
      parts = t.parts;
      integers = t.integers;
    }

    past_membrane : (e : Choices) (g : SetRegisters A M) (m : M) (s : HeadRegisters) → (Within (on_membrane r (length g.membranes)) e → ⊥) → AgreesOn atom membrane r e g s → AgreesOn atom membrane r e (with_membrane g m) s
    past_membrane e g m s out t = record {
      atoms = t.atoms;
      membranes = λ k x u w. elim (get_either g.membranes m k x u) [ inl v ↦ t.membranes k x v w | inr v ↦ absurd (out (subst (λ n. Within (on_membrane r n) e) v.0 w)) ];
      parts = t.parts;
      integers = t.integers;
    }

    pub jump_membrane : (e : Choices) (g : SetRegisters A M) (m : M) (code is : List Instr) (y : ℕ) → code ≡ AnyMem (length g.membranes) y ∷ is → (Within (on_membrane r (length g.membranes)) e → ⊥) → Refuted atom membrane h r e (with_membrane g m) is → Refuted atom membrane h r e g code
    jump_membrane e g m code is y q out denied c s k t all =
        let u : AllHold h c s (AnyMem (length g.membranes) y ∷ is) = subst (λ k. AllHold h c s k) q all in
        denied c s (membrane_more atom membrane h g m code is y c q k) (past_membrane e g m s out t) u.1

    -- a failure that the membrane alone tells names its choice
    pub alone_membrane : (g : SetRegisters A M) (m : M) (is : List Instr) → ((c : HeadSize) (s : HeadRegisters) → s.images.membrane (length g.membranes) ≡ membrane m → AllHold h c s is → ⊥) → Refuted atom membrane h r (on_membrane r (length g.membranes)) (with_membrane g m) is
    alone_membrane g m is denied c s k t all = denied c s (t.membranes (length g.membranes) m (get_last g.membranes m) (within_itself (on_membrane r (length g.membranes)))) all

    pub record MembranesLeftOn (e : Choices) (g : SetRegisters A M) (code : List Instr) (m : M) (candidate : Option M) : Type 0 where
      pub left : (c : HeadSize) (s : HeadRegisters) → SetsAll c g code → AgreesOn atom membrane r e g s → AllHold h c s code →
          In (s.images.membrane (length g.membranes)) (from (option_map membrane candidate) (mems_in h (membrane m)))

    pub membranes_left : (e : Choices) (g : SetRegisters A M) (code : List Instr) (m : M) (candidate : Option M) → MembranesLeftOn e g code m candidate → MembranesLeft atom membrane h g code m candidate
    membranes_left e g code m candidate t = record { left = λ c s k a u. t.left c s k (agrees_on atom membrane h r e g s a) u }

    pub membranes_first_on : (e : Choices) (g : SetRegisters A M) (code is : List Instr) (y : ℕ) (m : M) (o : Option M) → code ≡ AnyMem (length g.membranes) y ∷ is → slice_get g.membranes y ≡ Some m → Within (on_membrane r y) e →
        from (option_map membrane o) (mems_in h (membrane m)) ≡ mems_in h (membrane m) → MembranesLeftOn e g code m o
    membranes_first_on e g code is y m o q at w all = record {
      left = λ c s k a t.
          (let u : AllHold h c s (AnyMem (length g.membranes) y ∷ is) = subst (λ k. AllHold h c s k) q t in
          let n = s.images.membrane (length g.membranes) in
          subst (λ xs. In n xs) (sym all) (subst (λ p. In n (mems_in h p)) (a.membranes y m at w) u.0));
    }

    pub membranes_next_on : (e d b : Choices) (g : SetRegisters A M) (code is : List Instr) (y : ℕ) (m a : M) (o : Option M) → code ≡ AnyMem (length g.membranes) y ∷ is → Within e b → Within d b →
        MembranesLeftOn e g code m (Some a) → Refuted atom membrane h r d (with_membrane g a) is →
        from (option_map membrane o) (mems_in h (membrane m)) ≡ after (membrane a) (mems_in h (membrane m)) → MembranesLeftOn b g code m o
    membranes_next_on e d b g code is y m a o q we wd left denied all = record {
      left = λ c s k t u.
          (let v : AllHold h c s (AnyMem (length g.membranes) y ∷ is) = subst (λ k. AllHold h c s k) q u in
          elim (left.left c s k (on_less atom membrane h r e b g s we t) u) [
            | inl w ↦ absurd (denied c s (membrane_more atom membrane h g a code is y c q k) (on_membrane_more d g a s (on_less atom membrane h r d b g s wd t) (sym w)) v.1)
            | inr w ↦ subst (λ xs. In (s.images.membrane (length g.membranes)) xs) (sym all) w
          ]);
    }

    pub membranes_none_on : (e : Choices) (g : SetRegisters A M) (code : List Instr) (m : M) → AreHeldWhole atom membrane h g → MembranesLeftOn e g code m None → Ended atom membrane h r g g (Err e) code
    membranes_none_on e g code m held left = (held, extends_itself atom membrane h g, λ c s k a t. left.left c s k a t)

    -- Where one membrane is the only candidate, for registers that agree on choices.
    pub record OnlyOneOn (e : Choices) (g : SetRegisters A M) (code : List Instr) (candidate : Option M) : Type 0 where
      pub only : (c : HeadSize) (s : HeadRegisters) → AgreesOn atom membrane r e g s → AllHold h c s code → option_map membrane candidate ≡ Some (s.images.membrane (length g.membranes))

    -- where a link leads into it from an atom that is set, it is told by that atom and the membrane in which it is looked for
    pub only_home_on : (e : Choices) (g : SetRegisters A M) (whole code : List Instr) (at y : ℕ) (m : M) (p : AtomPort) (a : A) (o : Option M) → code ≡ AnyMem (length g.membranes) y ∷ drop at whole → slice_get g.membranes y ≡ Some m → Within (on_membrane r y) e →
        slice_get g.atoms p.atom ≡ Some a → Within (on_atom r p.atom) e → HangsBy whole at (length g.membranes) p →
        ((q : ℕ × ℕ) (n : ℕ) → link_of h (atom a) p.port ≡ Some q → In q.0 (atoms_in h n) → In n (mems_in h (membrane m)) → option_map membrane o ≡ Some n) → OnlyOneOn e g code o
    only_home_on e g whole code at y m p a o q there wm set wa hangs only = record {
      only = λ c s t all.
          (let u : AllHold h c s (AnyMem (length g.membranes) y ∷ drop at whole) = subst (λ k. AllHold h c s k) q all in
          let n = s.images.membrane (length g.membranes) in
          let x = hangs.1 in
          let led = hold_behind h c s whole at hangs.0 (Deref x p hangs.2) hangs.3 hangs.4 u.1 in
          let inside = hold_behind h c s whole at (hangs.0 + 2) (InMem x (length g.membranes)) (let l = hangs.3 in omega (arith, l)) hangs.5 u.1 in
          let link : link_of h (atom a) p.port ≡ Some (s.images.atom x, hangs.2) = ap (λ b. link_of h b p.port) (sym (t.atoms p.atom a set wa)) ∙ led in
          only (s.images.atom x, hangs.2) n link inside (subst (λ b. In n (mems_in h b)) (t.membranes y m there wm) u.0));
    }

    pub only_left_on : (e : Choices) (g : SetRegisters A M) (code : List Instr) (m : M) (candidate : Option M) → OnlyOneOn e g code candidate → MembranesLeftOn e g code m candidate
    only_left_on e g code m candidate o = record {
      left = λ c s k a t. subst (λ (x : Option ℕ). In (s.images.membrane (length g.membranes)) (from x (mems_in h (membrane m)))) (sym (o.only c s a t)) (inl refl);
    }

    one_membrane : (a n : ℕ) → Some a ≡ Some n → n ≡ a
    one_membrane a n e = cc

    -- where it fails, the code does
    pub only_fails_on : (e d b : Choices) (g : SetRegisters A M) (code is : List Instr) (y : ℕ) (a : M) → code ≡ AnyMem (length g.membranes) y ∷ is → Within e b → Within d b → OnlyOneOn e g code (Some a) → Refuted atom membrane h r d (with_membrane g a) is → Refuted atom membrane h r b g code
    only_fails_on e d b g code is y a q we wd o denied c s k t all =
        let v : AllHold h c s (AnyMem (length g.membranes) y ∷ is) = subst (λ k. AllHold h c s k) q all in
        denied c s (membrane_more atom membrane h g a code is y c q k) (on_membrane_more d g a s (on_less atom membrane h r d b g s wd t) (one_membrane (membrane a) (s.images.membrane (length g.membranes)) (o.only c s (on_less atom membrane h r e b g s we t) all))) v.1
