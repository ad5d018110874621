-- Trying the candidates of a choice in order.
use Rattle.std.proofs.Common.{ℕ, ◌≡◌, ◌+◌, inl, inr, List, [], ◌∷◌, ◌++◌, Option, Some, None, refl, arith, ap, sym, subst, length, take, ◌∙◌}
use Rattle.std.specs.Prelude.{true, false, slice_get, IsSome}
use Rattle.std.specs.Option.{option_map}
use Rattle.lmn_base.specs.declared.functor.Functor.{Functor}
use Rattle.lmn_store_heap.specs.Lists.{after, from}
use Rattle.lmn_store_heap.specs.Heap.{Heap, HeapAtom, IsAtom, IsMem, functor_of, home_of, parent_of, atoms_in, mems_in}
use Rattle.lmn_store_heap.specs.Sound.{Listed}
use Rattle.lmn_store_heap.specs.Functors.{with_functor}
use Rattle.lmn_solid_heads.specs.Embeddings.{ListNotAfter, index_of}
use Rattle.lmn_instr_code.specs.declared.instr.Instr.{Instr}
use Rattle.lmn_instr_code.specs.declared.instr.Instr.TheVariants.{FindAtom, AnyMem}
use Rattle.lmn_instr_code.specs.Running.{HeadRegisters, HeadSize, AllHold, atoms_set, membranes_set, choices}
use Rattle.lmn_machine_registers.specs.declared.registers.SetRegisters.{SetRegisters}
use Rattle.lmn_machine_registers.specs.Agreeing.{Agrees}
use Rattle.lmn_machine.specs.Searching.{AreHeldWhole, Extends, SetsAll, Searched, SetsMore}
use Rattle.lmn_machine.specs.Jumping.{with_atom, with_membrane}
use Rattle.lmn_machine.proofs.Stepping.{extends_itself, agrees_before, extends_on}
use Rattle.lmn_store_heap.proofs.WithFunctor.{with_functor_in}
use Rattle.lmn_machine.proofs.Candidates.{index_after, index_behind}
use Rattle.lmn_base.proofs.Lists.{get_front, get_last, take_whole, get_either}
use Rattle.lmn_store_heap.proofs.Heights.{has_parent as mem_there, place_by_parent}
use Rattle.lmn_store_heap.proofs.Listing.{home_place as place_by_home}
use Rattle.lmn_base.specs.Lists.{In}
use Rattle.std.proofs.lemmas.List.{length_push}

-- the first part of a list is taken
pub take_front : {A : Type 0} (xs ys : List A) → take (length xs) (xs ++ ys) ≡ xs
take_front [] ys = refl
take_front (x ∷ xs) ys = ap (λ k. x ∷ k) (take_front xs ys)

-- an atom with a functor is there
pub atom_there : (o : Option HeapAtom) (f : Functor) → option_map (λ x. x.functor) o ≡ Some f → IsSome o
atom_there None f e = absurd (cc)
atom_there (Some x) f e = refl

-- where no part is set none is there
pub no_part : {X : Type 0} (xs : List X) → length xs ≡ 0 → (k : ℕ) (x : X) → slice_get xs k ≡ Some x → ⊥
no_part [] z k x e = cc
no_part (y ∷ ys) z k x e = omega (arith, z)

module _ {A M : Type 0} (atom : A → ℕ) (membrane : M → ℕ) (h : Heap) where
  -- One more register

  pub extends_atom : (g : SetRegisters A M) (a : A) → Extends g (with_atom g a)
  extends_atom g a = record { atoms = take_front g.atoms (a ∷ []); membranes = take_whole g.membranes; parts = take_whole g.parts; integers = take_whole g.integers; copies = refl }

  pub extends_membrane : (g : SetRegisters A M) (m : M) → Extends g (with_membrane g m)
  extends_membrane g m = record { atoms = take_whole g.atoms; membranes = take_front g.membranes (m ∷ []); parts = take_whole g.parts; integers = take_whole g.integers; copies = refl }

  pub agrees_atom : (g : SetRegisters A M) (a : A) (s : HeadRegisters) → Agrees atom membrane g s → s.images.atom (length g.atoms) ≡ atom a → Agrees atom membrane (with_atom g a) s
  agrees_atom g a s t e = record {
    atoms = λ k x u. elim (get_either g.atoms a k x u) [ inl v ↦ t.atoms k x v | inr v ↦ ap s.images.atom v.0 ∙ (e ∙ ap atom v.1) ];
    membranes = t.membranes;
    parts = t.parts;
    integers = t.integers;
  }

  pub agrees_membrane : (g : SetRegisters A M) (m : M) (s : HeadRegisters) → Agrees atom membrane g s → s.images.membrane (length g.membranes) ≡ membrane m → Agrees atom membrane (with_membrane g m) s
  agrees_membrane g m s t e = record {
    atoms = t.atoms;
    membranes = λ k x u. elim (get_either g.membranes m k x u) [ inl v ↦ t.membranes k x v | inr v ↦ ap s.images.membrane v.0 ∙ (e ∙ ap membrane v.1) ];
    parts = t.parts;
    integers = t.integers;
  }

  pub held_atom : (g : SetRegisters A M) (a : A) (f : Functor) → length g.parts ≡ 0 → AreHeldWhole atom membrane h g → functor_of h (atom a) ≡ Some f → AreHeldWhole atom membrane h (with_atom g a)
  held_atom g a f z t e = record {
    atoms = λ k x u. elim (get_either g.atoms a k x u) [ inl v ↦ t.atoms k x v | inr v ↦ subst (λ y. IsAtom h (atom y)) v.1 (atom_there (h.atoms (atom a)) f e) ];
    membranes = t.membranes;
    parts = t.parts;
    whole = λ k x u. absurd (no_part g.parts z k x u);
    listed = t.listed;
  }

  pub held_membrane : (g : SetRegisters A M) (m : M) (n : ℕ) → AreHeldWhole atom membrane h g → parent_of h (membrane m) ≡ Some n → AreHeldWhole atom membrane h (with_membrane g m)
  held_membrane g m n t e = record {
    atoms = t.atoms;
    membranes = λ k x u. elim (get_either g.membranes m k x u) [ inl v ↦ t.membranes k x v | inr v ↦ subst (λ y. IsMem h (membrane y)) v.1 (mem_there (h.mems (membrane m)) n e) ];
    parts = t.parts;
    whole = t.whole;
    listed = t.listed;
  }

  -- what is set at last is the same behind a choice
  pub atom_more : (g : SetRegisters A M) (a : A) (code is : List Instr) (f : Functor) (y : ℕ) (c : HeadSize) → code ≡ FindAtom (length g.atoms) y f ∷ is → SetsAll c g code → SetsAll c (with_atom g a) is
  atom_more g a code is f y c e k =
      let t : atoms_set code ≡ 1 + atoms_set is = ap atoms_set e in
      let l = length_push g.atoms a in
      let n = k.atoms in
      record { atoms = omega (arith, t, l, n); membranes = k.membranes ∙ ap (λ j. length g.membranes + j) (ap membranes_set e) }

  pub membrane_more : (g : SetRegisters A M) (m : M) (code is : List Instr) (y : ℕ) (c : HeadSize) → code ≡ AnyMem (length g.membranes) y ∷ is → SetsAll c g code → SetsAll c (with_membrane g m) is
  membrane_more g m code is y c e k =
      let t : membranes_set code ≡ 1 + membranes_set is = ap membranes_set e in
      let l = length_push g.membranes m in
      let n = k.membranes in
      record { atoms = k.atoms ∙ ap (λ j. length g.atoms + j) (ap atoms_set e); membranes = omega (arith, t, l, n) }

  -- Atoms. Registers that agree and with which the code holds have one of the candidates that are left.
  pub record AtomsLeft (g : SetRegisters A M) (code : List Instr) (f : Functor) (m : M) (candidate : Option A) : Type 0 where
    pub left : (c : HeadSize) (s : HeadRegisters) → SetsAll c g code → Agrees atom membrane g s → AllHold h c s code →
        In (s.images.atom (length g.atoms)) (from (option_map atom candidate) (with_functor h f (atoms_in h (membrane m))))

  pub atoms_first : (g : SetRegisters A M) (code is : List Instr) (f : Functor) (y : ℕ) (m : M) (r : Option A) → code ≡ FindAtom (length g.atoms) y f ∷ is → slice_get g.membranes y ≡ Some m →
      from (option_map atom r) (with_functor h f (atoms_in h (membrane m))) ≡ with_functor h f (atoms_in h (membrane m)) → AtomsLeft g code f m r
  atoms_first g code is f y m r e at all = record {
    left = λ c s k a t.
        (let u : AllHold h c s (FindAtom (length g.atoms) y f ∷ is) = subst (λ k. AllHold h c s k) e t in
        let place = a.membranes y m at in
        let n = s.images.atom (length g.atoms) in
        let here : In n (atoms_in h (membrane m)) = subst (λ p. In n (atoms_in h p)) place u.0.0 in
        subst (λ xs. In n xs) (sym all) (with_functor_in h f n (atoms_in h (membrane m)) u.0.1 here));
  }

  pub atoms_next : (g k : SetRegisters A M) (code is : List Instr) (f : Functor) (y : ℕ) (m : M) (a : A) (r : Option A) → code ≡ FindAtom (length g.atoms) y f ∷ is →
      AtomsLeft g code f m (Some a) → Searched atom membrane h (with_atom g a) k false is →
      from (option_map atom r) (with_functor h f (atoms_in h (membrane m))) ≡ after (atom a) (with_functor h f (atoms_in h (membrane m))) → AtomsLeft g code f m r
  atoms_next g k code is f y m a r e left none all = record {
    left = λ c s k t u.
        (let v : AllHold h c s (FindAtom (length g.atoms) y f ∷ is) = subst (λ k. AllHold h c s k) e u in
        elim (left.left c s k t u) [
          | inl w ↦ absurd (none.none refl c s (atom_more g a code is f y c e k) (agrees_atom g a s t (sym w)) v.1)
          | inr w ↦ subst (λ xs. In (s.images.atom (length g.atoms)) xs) (sym all) w
        ]);
  }

  pub atoms_none : (g : SetRegisters A M) (code : List Instr) (f : Functor) (m : M) → AreHeldWhole atom membrane h g → AtomsLeft g code f m None → Searched atom membrane h g g false code
  atoms_none g code f m held left = record {
    held = held;
    extends = extends_itself atom membrane h g;
    sets = λ u. absurd (cc);
    found = λ u. absurd (cc);
    none = λ u c s k a t. left.left c s k a t;
  }

  -- likewise where the registers of the last candidate are left
  pub atoms_gone : (g k : SetRegisters A M) (code : List Instr) (f : Functor) (m : M) → AreHeldWhole atom membrane h k → Extends g k → AtomsLeft g code f m None → Searched atom membrane h g k false code
  atoms_gone g k code f m held extends left = record {
    held = held;
    extends = extends;
    sets = λ u. absurd (cc);
    found = λ u. absurd (cc);
    none = λ u c s l a t. left.left c s l a t;
  }

  pub atoms_found : (g k : SetRegisters A M) (code is : List Instr) (f : Functor) (y : ℕ) (m : M) (a : A) → code ≡ FindAtom (length g.atoms) y f ∷ is → slice_get g.membranes y ≡ Some m → Listed h →
      home_of h (atom a) ≡ Some (membrane m) → functor_of h (atom a) ≡ Some f → AtomsLeft g code f m (Some a) → Searched atom membrane h (with_atom g a) k true is → Searched atom membrane h g k true code
  atoms_found g k code is f y m a e at listed home functor left t = record {
    held = t.held;
    extends = extends_on atom membrane h g (with_atom g a) k (extends_atom g a) t.extends;
    sets = λ u. subst (λ c. SetsMore g k c) (sym e) (record {
      atoms = (let n = (t.sets refl).atoms in let l = length_push g.atoms a in omega (arith, n, l));
      membranes = (t.sets refl).membranes;
      parts = (t.sets refl).parts;
      integers = (t.sets refl).integers;
    });
    found = λ u. record {
      holds = λ c s l v.
          (let w = agrees_before atom membrane h (with_atom g a) k s t.extends v in
          let n : s.images.atom (length g.atoms) ≡ atom a = w.atoms (length g.atoms) a (get_last g.atoms a) in
          let place : s.images.membrane y ≡ membrane m = w.membranes y m at in
          let here : In (s.images.atom (length g.atoms)) (atoms_in h (s.images.membrane y)) =
          subst (λ p. In p (atoms_in h (s.images.membrane y))) (sym n) (subst (λ p. In (atom a) (atoms_in h p)) (sym place) inside) in
          subst (λ k'. AllHold h c s k') (sym e) ((here, subst (λ p. functor_of h p ≡ Some f) (sym n) functor), (t.found refl).holds c s (atom_more g a code is f y c e l) v));
      first = λ c s v l b d w.
          (let bs = agrees_before atom membrane h (with_atom g a) k s t.extends b in
          let n : s.images.atom (length g.atoms) ≡ atom a = bs.atoms (length g.atoms) a (get_last g.atoms a) in
          let place : s.images.membrane y ≡ membrane m = bs.membranes y m at in
          let place' : v.images.membrane y ≡ membrane m = d.membranes y m at in
          let z : AllHold h c v (FindAtom (length g.atoms) y f ∷ is) = subst (λ k'. AllHold h c v k') e w in
          let index : index_of (s.images.atom (length g.atoms)) (atoms_in h (s.images.membrane y)) ≡ index_of (atom a) (atoms_in h (membrane m)) =
          ap (λ p. index_of p (atoms_in h (s.images.membrane y))) n ∙ ap (λ p. index_of (atom a) (atoms_in h p)) place in
          let index' : index_of (v.images.atom (length g.atoms)) (atoms_in h (v.images.membrane y)) ≡ index_of (v.images.atom (length g.atoms)) (atoms_in h (membrane m)) =
          ap (λ p. index_of (v.images.atom (length g.atoms)) (atoms_in h p)) place' in
          let order : ListNotAfter (choices h s (FindAtom (length g.atoms) y f ∷ is)) (choices h v (FindAtom (length g.atoms) y f ∷ is)) =
          elim (left.left c v l d w) [
            | inl q ↦ inr (index ∙ (ap (λ p. index_of p (atoms_in h (membrane m))) q ∙ sym index'), (t.found refl).first c s v (atom_more g a code is f y c e l) b (agrees_atom g a v d (sym q)) z.1)
            | inr q ↦ inl (let n = index_behind h f (atom a) (v.images.atom (length g.atoms)) (atoms_in h (membrane m)) (listed.atoms_once (membrane m)) q in omega (arith, n, index, index'))
          ] in
          subst (λ k'. ListNotAfter (choices h s k') (choices h v k')) (sym e) order);
    };
    none = λ u. absurd (cc);
  }
    where
      inside : In (atom a) (atoms_in h (membrane m))
      inside = (listed.atoms (membrane m) (atom a)).1 (place_by_home (h.atoms (atom a)) (membrane m) home)

  -- Membranes, likewise.
  pub record MembranesLeft (g : SetRegisters A M) (code : List Instr) (m : M) (candidate : Option M) : Type 0 where
    pub left : (c : HeadSize) (s : HeadRegisters) → SetsAll c g code → Agrees atom membrane g s → AllHold h c s code →
        In (s.images.membrane (length g.membranes)) (from (option_map membrane candidate) (mems_in h (membrane m)))

  pub membranes_first : (g : SetRegisters A M) (code is : List Instr) (y : ℕ) (m : M) (r : Option M) → code ≡ AnyMem (length g.membranes) y ∷ is → slice_get g.membranes y ≡ Some m →
      from (option_map membrane r) (mems_in h (membrane m)) ≡ mems_in h (membrane m) → MembranesLeft g code m r
  membranes_first g code is y m r e at all = record {
    left = λ c s k a t.
        (let u : AllHold h c s (AnyMem (length g.membranes) y ∷ is) = subst (λ k. AllHold h c s k) e t in
        let n = s.images.membrane (length g.membranes) in
        subst (λ xs. In n xs) (sym all) (subst (λ p. In n (mems_in h p)) (a.membranes y m at) u.0));
  }

  pub membranes_next : (g k : SetRegisters A M) (code is : List Instr) (y : ℕ) (m a : M) (r : Option M) → code ≡ AnyMem (length g.membranes) y ∷ is →
      MembranesLeft g code m (Some a) → Searched atom membrane h (with_membrane g a) k false is →
      from (option_map membrane r) (mems_in h (membrane m)) ≡ after (membrane a) (mems_in h (membrane m)) → MembranesLeft g code m r
  membranes_next g k code is y m a r e left none all = record {
    left = λ c s k t u.
        (let v : AllHold h c s (AnyMem (length g.membranes) y ∷ is) = subst (λ k. AllHold h c s k) e u in
        elim (left.left c s k t u) [
          | inl w ↦ absurd (none.none refl c s (membrane_more g a code is y c e k) (agrees_membrane g a s t (sym w)) v.1)
          | inr w ↦ subst (λ xs. In (s.images.membrane (length g.membranes)) xs) (sym all) w
        ]);
  }

  pub membranes_none : (g : SetRegisters A M) (code : List Instr) (m : M) → AreHeldWhole atom membrane h g → MembranesLeft g code m None → Searched atom membrane h g g false code
  membranes_none g code m held left = record {
    held = held;
    extends = extends_itself atom membrane h g;
    sets = λ u. absurd (cc);
    found = λ u. absurd (cc);
    none = λ u c s k a t. left.left c s k a t;
  }

  pub membranes_found : (g k : SetRegisters A M) (code is : List Instr) (y : ℕ) (m a : M) → code ≡ AnyMem (length g.membranes) y ∷ is → slice_get g.membranes y ≡ Some m → Listed h →
      parent_of h (membrane a) ≡ Some (membrane m) → MembranesLeft g code m (Some a) → Searched atom membrane h (with_membrane g a) k true is → Searched atom membrane h g k true code
  membranes_found g k code is y m a e at listed parent left t = record {
    held = t.held;
    extends = extends_on atom membrane h g (with_membrane g a) k (extends_membrane g a) t.extends;
    sets = λ u. subst (λ c. SetsMore g k c) (sym e) (record {
      atoms = (t.sets refl).atoms;
      membranes = (let n = (t.sets refl).membranes in let l = length_push g.membranes a in omega (arith, n, l));
      parts = (t.sets refl).parts;
      integers = (t.sets refl).integers;
    });
    found = λ u. record {
      holds = λ c s l v.
          (let w = agrees_before atom membrane h (with_membrane g a) k s t.extends v in
          let n : s.images.membrane (length g.membranes) ≡ membrane a = w.membranes (length g.membranes) a (get_last g.membranes a) in
          let place : s.images.membrane y ≡ membrane m = w.membranes y m (get_front g.membranes (a ∷ []) y m at) in
          let here : In (s.images.membrane (length g.membranes)) (mems_in h (s.images.membrane y)) =
          subst (λ p. In p (mems_in h (s.images.membrane y))) (sym n) (subst (λ p. In (membrane a) (mems_in h p)) (sym place) inside) in
          subst (λ k'. AllHold h c s k') (sym e) (here, (t.found refl).holds c s (membrane_more g a code is y c e l) v));
      first = λ c s v l b d w.
          (let bs = agrees_before atom membrane h (with_membrane g a) k s t.extends b in
          let n : s.images.membrane (length g.membranes) ≡ membrane a = bs.membranes (length g.membranes) a (get_last g.membranes a) in
          let place : s.images.membrane y ≡ membrane m = bs.membranes y m (get_front g.membranes (a ∷ []) y m at) in
          let place' : v.images.membrane y ≡ membrane m = d.membranes y m at in
          let z : AllHold h c v (AnyMem (length g.membranes) y ∷ is) = subst (λ k'. AllHold h c v k') e w in
          let index : index_of (s.images.membrane (length g.membranes)) (mems_in h (s.images.membrane y)) ≡ index_of (membrane a) (mems_in h (membrane m)) =
          ap (λ p. index_of p (mems_in h (s.images.membrane y))) n ∙ ap (λ p. index_of (membrane a) (mems_in h p)) place in
          let index' : index_of (v.images.membrane (length g.membranes)) (mems_in h (v.images.membrane y)) ≡ index_of (v.images.membrane (length g.membranes)) (mems_in h (membrane m)) =
          ap (λ p. index_of (v.images.membrane (length g.membranes)) (mems_in h p)) place' in
          let order : ListNotAfter (choices h s (AnyMem (length g.membranes) y ∷ is)) (choices h v (AnyMem (length g.membranes) y ∷ is)) =
          elim (left.left c v l d w) [
            | inl q ↦ inr (index ∙ (ap (λ p. index_of p (mems_in h (membrane m))) q ∙ sym index'), (t.found refl).first c s v (membrane_more g a code is y c e l) b (agrees_membrane g a v d (sym q)) z.1)
            | inr q ↦ inl (let n = index_after (membrane a) (v.images.membrane (length g.membranes)) (mems_in h (membrane m)) (listed.mems_once (membrane m)) q in omega (arith, n, index, index'))
          ] in
          subst (λ k'. ListNotAfter (choices h s k') (choices h v k')) (sym e) order);
    };
    none = λ u. absurd (cc);
  }
    where
      inside : In (membrane a) (mems_in h (membrane m))
      inside = (listed.mems (membrane m) (membrane a)).1 (place_by_parent (h.mems (membrane a)) (membrane m) parent)
