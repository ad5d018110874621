-- What instructions rouse.
use Rattle.std.proofs.Common.{ℕ, zero, suc, ◌≡◌, ◌<◌, ◌≤◌, ◌+◌, ◌⊎◌, inl, inr, List, [], ◌∷◌, ◌++◌, Option, Some, None, IsSome, refl, sym, ap, subst, ◌∙◌, length, arith}
use Rattle.std.specs.Prelude.{slice_get, take}
use Rattle.std.proofs.lemmas.Bool.{cases_eq}
use Rattle.lmn_base.specs.Graphs.{Port}
use Rattle.lmn_base.specs.declared.functor.Functor.{Functor}
use Rattle.lmn_store_heap.specs.Heap.{Heap, HeapAtom, IsAtom, home_of, link_of, functor_of, arity_of, partners_of}
use Rattle.lmn_store_heap.specs.Sound.{Sound}
use Rattle.lmn_store_heap.proofs.Replacing.{port_within}
use Rattle.lmn_instr_code.specs.declared.instr.Instr.{Instr}
use Rattle.lmn_instr_code.specs.declared.instr.Instr.TheVariants.{RemoveAtom, RemoveMem}
use Rattle.lmn_instr_pool.specs.Extents.{NoneFrom, Removes}
use Rattle.lmn_solid_bodies.specs.Running.{Registers}
use Rattle.lmn_machine_registers.specs.declared.registers.SetRegisters.{SetRegisters}
use Rattle.lmn_schedule_sleep.proofs.Marks.{ReadAlike, read_alike, homes, links}
use Rattle.lmn_ground.proofs.ListedLaws.{listed_kept}
use Rattle.lmn_machine_commit.specs.Registers.{AgreesWithCopies, AreHeld}
use Rattle.lmn_machine_commit.specs.Waking.{WakesAbove, Is, IsHome, IsPartnerHome, IsHomeBeside, Rouses, SomeRouses, IsRoused}
use Rattle.lmn_machine_commit.proofs.Rousing.{wakes_as, wakes_on, wakes_none}

-- ---- homes

pub home_wakes : (h k : Heap) (a m : ℕ) → home_of h a ≡ Some m → WakesAbove (Is m) h k → WakesAbove (IsHome h a) h k
home_wakes h k a m e w = wakes_as (Is m) (IsHome h a) h k (λ y q. e ∙ ap (λ z. Some z) (sym q)) (λ y q. let z : Some y ≡ Some m = sym q ∙ e in cc) w

pub no_home : (h : Heap) (a : ℕ) → home_of h a ≡ None → WakesAbove (IsHome h a) h h
no_home h a e = wakes_none (IsHome h a) h (λ y q. absurd (let z : Some y ≡ None = sym q ∙ e in cc))

abbrev port_or : Option Port → Port
port_or None = (0, 0)
port_or (Some p) = p

pub partner_wakes : (h k : Heap) (a i : ℕ) (c : Port) → link_of h a i ≡ Some c → WakesAbove (IsHome h c.0) h k → WakesAbove (IsPartnerHome h a i) h k
partner_wakes h k a i c e w = wakes_as (IsHome h c.0) (IsPartnerHome h a i) h k (λ y q. (c, e, q))
    (λ y q. let z : ◌≡◌ {A = Option Port} (Some q.0) (Some c) = sym q.1 ∙ e in subst (λ (p : Port). IsHome h p.0 y) (ap port_or z) q.2) w

pub no_partner : (h : Heap) (a i : ℕ) → link_of h a i ≡ None → WakesAbove (IsPartnerHome h a i) h h
no_partner h a i e = wakes_none (IsPartnerHome h a i) h (λ y q. absurd (let z : ◌≡◌ {A = Option Port} (Some q.0) None = sym q.1 ∙ e in cc))

module _ (h k : Heap) (same : ReadAlike h k) where
  pub arity_alike : (a : ℕ) → arity_of k a ≡ arity_of h a
  arity_alike a = ap (λ (o : Option HeapAtom). length (partners_of o)) (same.atoms a)

  pub atom_alike : (a : ℕ) → IsAtom h a → IsAtom k a
  atom_alike a i = subst (λ (o : Option HeapAtom). IsSome o) (sym (same.atoms a)) i

  home_back : (a y : ℕ) → IsHome k a y → IsHome h a y
  home_back a y q = sym (homes h k same a) ∙ q

  home_forth : (a y : ℕ) → IsHome h a y → IsHome k a y
  home_forth a y q = homes h k same a ∙ q

  partner_back : (a i y : ℕ) → IsPartnerHome k a i y → IsPartnerHome h a i y
  partner_back a i y q = (q.0, sym (links h k same a i) ∙ q.1, home_back q.0.0 y q.2)

  partner_forth : (a i y : ℕ) → IsPartnerHome h a i y → IsPartnerHome k a i y
  partner_forth a i y q = (q.0, links h k same a i ∙ q.1, home_forth q.0.0 y q.2)

  rouses_back : (r : Registers) (i : Instr) (y : ℕ) → Rouses k r i y → Rouses h r i y
  rouses_back r (RemoveAtom a) y (inl q) = inl (home_back (r.head.images.atom a) y q)
  rouses_back r (RemoveAtom a) y (inr q) = inr (q.0, partner_back (r.head.images.atom a) q.0 y q.1)
  rouses_back r (RemoveMem m) y q = q
  rouses_back r _ y q = absurd q

  rouses_forth : (r : Registers) (i : Instr) (y : ℕ) → Rouses h r i y → Rouses k r i y
  rouses_forth r (RemoveAtom a) y (inl q) = inl (home_forth (r.head.images.atom a) y q)
  rouses_forth r (RemoveAtom a) y (inr q) = inr (q.0, partner_forth (r.head.images.atom a) q.0 y q.1)
  rouses_forth r (RemoveMem m) y q = q
  rouses_forth r _ y q = absurd q

pub beside_first : (h k : Heap) (a : ℕ) → WakesAbove (IsHome h a) h k → WakesAbove (IsHomeBeside h a 0) h k
beside_first h k a w = wakes_as (IsHome h a) (IsHomeBeside h a 0) h k (λ y q. inl q) (λ y q. elim q [ inl e ↦ e | inr e ↦ absurd (let l = e.1 in omega (arith, l)) ]) w

pub beside_more : (h k l : Heap) (a n : ℕ) → WakesAbove (IsHomeBeside h a n) h k → WakesAbove (IsPartnerHome k a n) k l → WakesAbove (IsHomeBeside h a (n + 1)) h l
beside_more h k l a n w v =
    let same = read_alike h k w.alike in
    wakes_as (λ y. IsHomeBeside h a n y ⊎ IsPartnerHome k a n y) (IsHomeBeside h a (n + 1)) h l
    (λ y q. elim q [
      | inl e ↦ elim e [ inl f ↦ inl f | inr f ↦ inr (f.0, (let z = f.1 in omega (arith, z)), f.2) ]
      | inr e ↦ inr (n, omega arith, partner_back h k same a n y e)
    ])
    (λ y q. elim q [
      | inl e ↦ inl (inl e)
      | inr e ↦ elim (cases_eq e.0 n) [
        | inl s ↦ inr (partner_forth h k same a n y (subst (λ i. IsPartnerHome h a i y) s e.2))
        | inr d ↦ inl (inr (e.0, less e.0 e.1 d, e.2))
      ]
    ])
    (wakes_on (IsHomeBeside h a n) (IsPartnerHome k a n) h k l w v)
  where
    less : (i : ℕ) → i < n + 1 → (i ≡ n → ⊥) → i < n
    less i l d = grind (arith, l, d)

pub beside_all : (h k : Heap) (a n : ℕ) (f : Functor) → Sound h → functor_of h a ≡ Some f → n ≡ f.arity → WakesAbove (IsHomeBeside h a n) h k → WakesAbove (IsHomeBeside h a (arity_of h a)) h k
beside_all h k a n f s e q w = subst (λ i. WakesAbove (IsHomeBeside h a i) h k) (q ∙ sym (s.shaped.ports a f e)) w

-- ---- instructions

pub rouses_atom : (h k : Heap) (r : Registers) (i : Instr) (x a : ℕ) → i ≡ RemoveAtom x → r.head.images.atom x ≡ a → WakesAbove (IsHomeBeside h a (arity_of h a)) h k → WakesAbove (Rouses h r i) h k
rouses_atom h k r i x a e q w =
    subst (λ j. WakesAbove (Rouses h r j) h k) (sym e)
    (subst (λ b. WakesAbove (λ y. IsHome h b y ⊎ ((i : ℕ) × IsPartnerHome h b i y)) h k) (sym q)
    (wakes_as (IsHomeBeside h a (arity_of h a)) (λ y. IsHome h a y ⊎ ((i : ℕ) × IsPartnerHome h a i y)) h k
    (λ y u. elim u [ inl f ↦ inl f | inr f ↦ inr (f.0, f.2) ])
    (λ y u. elim u [ inl f ↦ inl f | inr f ↦ inr (f.0, port_within h a f.0 f.1.0 f.1.1, f.1) ]) w))

pub rouses_mem : (h k : Heap) (r : Registers) (i : Instr) (x m : ℕ) → i ≡ RemoveMem x → r.head.images.membrane x ≡ m → WakesAbove (Is m) h k → WakesAbove (Rouses h r i) h k
rouses_mem h k r i x m e q w =
    subst (λ j. WakesAbove (Rouses h r j) h k) (sym e) (wakes_as (Is m) (λ y. y ≡ r.head.images.membrane x) h k (λ y u. u ∙ sym q) (λ y u. u ∙ q) w)

none_roused : (h : Heap) (r : Registers) (i : Instr) → ((x : ℕ) → i ≡ RemoveAtom x → ⊥) → ((x : ℕ) → i ≡ RemoveMem x → ⊥) → (y : ℕ) → Rouses h r i y → ⊥
none_roused h r (RemoveAtom a) o p y q = o a refl
none_roused h r (RemoveMem m) o p y q = p m refl
none_roused h r _ o p y q = q

pub rouses_nothing : (h : Heap) (r : Registers) (i : Instr) → ((x : ℕ) → i ≡ RemoveAtom x → ⊥) → ((x : ℕ) → i ≡ RemoveMem x → ⊥) → WakesAbove (Rouses h r i) h h
rouses_nothing h r i o p = wakes_none (Rouses h r i) h (none_roused h r i o p)

-- ---- code

some_end : (h : Heap) (r : Registers) (xs : List Instr) (i : Instr) (y : ℕ) → SomeRouses h r (xs ++ i ∷ []) y → SomeRouses h r xs y ⊎ Rouses h r i y
some_end h r [] i y (inl q) = inr q
some_end h r [] i y (inr q) = absurd q
some_end h r (x ∷ xs) i y (inl q) = inl (inl q)
some_end h r (x ∷ xs) i y (inr q) = elim (some_end h r xs i y q) [ inl e ↦ inl (inr e) | inr e ↦ inr e ]

rouses_removes : (h : Heap) (r : Registers) (i : Instr) (y : ℕ) → Rouses h r i y → Removes i
rouses_removes h r (RemoveAtom a) y q = tt
rouses_removes h r (RemoveMem m) y q = tt
rouses_removes h r _ y q = absurd q

none_rouse : (h : Heap) (r : Registers) (xs : List Instr) → NoneFrom Removes 0 xs → (y : ℕ) → SomeRouses h r xs y → ⊥
none_rouse h r [] none y q = q
none_rouse h r (x ∷ xs) none y (inl q) = none 0 x (omega arith) refl (rouses_removes h r x y q)
none_rouse h r (x ∷ xs) none y (inr q) = none_rouse h r xs (λ i z l e. none (suc i) z (omega arith) e) y q

-- what code rouses is roused before the place from which on none takes something away by itself
some_within : (h : Heap) (r : Registers) (xs : List Instr) (n : ℕ) → NoneFrom Removes n xs → (y : ℕ) → SomeRouses h r xs y → SomeRouses h r (take n xs) y
some_within h r [] n none y q = absurd q
some_within h r (x ∷ xs) zero none y q = absurd (none_rouse h r (x ∷ xs) none y q)
some_within h r (x ∷ xs) (suc n) none y (inl q) = inl q
some_within h r (x ∷ xs) (suc n) none y (inr q) = inr (some_within h r xs n (λ i z l e. none (suc i) z (omega (arith, l)) e) y q)

some_whole : (h : Heap) (r : Registers) (xs : List Instr) (n : ℕ) (y : ℕ) → SomeRouses h r (take n xs) y → SomeRouses h r xs y
some_whole h r [] zero y q = q
some_whole h r [] (suc n) y q = q
some_whole h r (x ∷ xs) zero y q = absurd q
some_whole h r (x ∷ xs) (suc n) y (inl q) = inl q
some_whole h r (x ∷ xs) (suc n) y (inr q) = inr (some_whole h r xs n y q)

some_front : (h : Heap) (r : Registers) (xs : List Instr) (i : Instr) (y : ℕ) → SomeRouses h r xs y → SomeRouses h r (xs ++ i ∷ []) y
some_front h r (x ∷ xs) i y (inl q) = inl q
some_front h r (x ∷ xs) i y (inr q) = inr (some_front h r xs i y q)
some_front h r [] i y q = absurd q

some_last : (h : Heap) (r : Registers) (xs : List Instr) (i : Instr) (y : ℕ) → Rouses h r i y → SomeRouses h r (xs ++ i ∷ []) y
some_last h r [] i y q = inl q
some_last h r (x ∷ xs) i y q = inr (some_last h r xs i y q)

take_more : (xs : List Instr) (n : ℕ) (i : Instr) → slice_get xs n ≡ Some i → take (suc n) xs ≡ take n xs ++ i ∷ []
take_more [] n i e = absurd (cc)
take_more (x ∷ xs) zero i e = let s : x ≡ i = (cc) in ap (λ z. z ∷ []) s
take_more (x ∷ xs) (suc n) i e = ap (λ z. x ∷ z) (take_more xs n i e)

-- as many as there are, or more, are all
pub take_all : (xs : List Instr) (n : ℕ) → length xs ≤ n → take n xs ≡ xs
take_all [] zero l = refl
take_all [] (suc n) l = refl
take_all (x ∷ xs) zero l = absurd (omega (arith, l))
take_all (x ∷ xs) (suc n) l = ap (λ z. x ∷ z) (take_all xs n (omega (arith, l)))

module _ {A M : Type 0} (atom : A → ℕ) (membrane : M → ℕ) (set : SetRegisters A M) (h : Heap) where
  -- what the first instructions of code rouse wakes
  abbrev pub RousedSoFar : List Instr → Heap → Type 0
  RousedSoFar code k = (r : Registers) → AgreesWithCopies atom membrane set r → WakesAbove (IsRoused h r code) h k

  pub roused_first : (k : Heap) (m : M) → slice_get set.membranes 0 ≡ Some m → WakesAbove (Is (membrane m)) h k → RousedSoFar [] k
  roused_first k m e w r u =
      let q = u.membranes 0 m e in
      wakes_as (Is (membrane m)) (IsRoused h r []) h k (λ y p. inl (p ∙ sym q)) (λ y p. elim p [ inl f ↦ f ∙ q | inr f ↦ absurd f ]) w

  pub roused_more : (code : List Instr) (n : ℕ) (i : Instr) (k l : Heap) → slice_get code n ≡ Some i → RousedSoFar (take n code) k → ((r : Registers) → AgreesWithCopies atom membrane set r → WakesAbove (Rouses k r i) k l) → RousedSoFar (take (n + 1) code) l
  roused_more code n i k l e so step r u =
      let w = so r u in
      let same = read_alike h k w.alike in
      let z : take (n + 1) code ≡ take n code ++ i ∷ [] = ap (λ j. take j code) (let y : n + 1 ≡ suc n = omega arith in y) ∙ take_more code n i e in
      subst (λ is. WakesAbove (IsRoused h r is) h l) (sym z)
      (wakes_as (λ y. IsRoused h r (take n code) y ⊎ Rouses k r i y) (IsRoused h r (take n code ++ i ∷ [])) h l
      (λ y q. elim q [
        | inl f ↦ elim f [ inl p ↦ inl p | inr p ↦ inr (some_front h r (take n code) i y p) ]
        | inr f ↦ inr (some_last h r (take n code) i y (rouses_back h k same r i y f))
      ])
      (λ y q. elim q [
        | inl f ↦ inl (inl f)
        | inr f ↦ elim (some_end h r (take n code) i y f) [ inl p ↦ inl (inr p) | inr p ↦ inr (rouses_forth h k same r i y p) ]
      ])
      (wakes_on (IsRoused h r (take n code)) (Rouses k r i) h k l w (step r u)))

  -- code rouses what it does up to a place at which and behind which none takes something away by itself
  pub roused_front : (code : List Instr) (n i : ℕ) (k : Heap) → n ≤ i → NoneFrom Removes n code → RousedSoFar (take i code) k → RousedSoFar code k
  roused_front code n i k l none so r u =
      wakes_as (IsRoused h r (take i code)) (IsRoused h r code) h k
      (λ y p. elim p [ inl q ↦ inl q | inr q ↦ inr (some_whole h r code i y q) ])
      (λ y p. elim p [ inl q ↦ inl q | inr q ↦ inr (some_within h r code i (λ j x m e. none j x (omega (arith, l, m)) e) y q) ])
      (so r u)

  -- what is held in registers is so still
  pub held_alike : (k : Heap) → ReadAlike h k → AreHeld atom membrane h set → AreHeld atom membrane k set
  held_alike k same held = record {
    atoms = λ n a e. atom_alike h k same (atom a) (held.atoms n a e);
    membranes = λ n m e. same.stays (membrane m) (held.membranes n m e);
    parts = λ n p e. atom_alike h k same (atom p.0) (held.parts n p e);
    listed = listed_kept atom h set.listed k (λ a i. same.atoms a) held.listed;
  }
