-- Typed contexts of one atom.
use Rattle.std.proofs.Common.{ℕ, ℤ, zero, suc, ◌≡◌, ◌<◌, ◌≤◌, ◌+◌, inl, inr, List, [], ◌∷◌, ◌++◌, Option, Some, None, refl, arith, ap, sym, subst, length, ◌∙◌}
use Rattle.std.specs.Prelude.{Bool, true, false, slice_get, IfSome, ◌==◌, if◌then◌else◌, ◌⊎◌}
use Rattle.std.specs.Option.{option_map}
use Rattle.std.proofs.lemmas.Option.{slice_get_within}
use Rattle.lmn_base.specs.declared.functor.Functor.{Functor}
use Rattle.std.proofs.lemmas.Bool.Decides.{Decides-eqb}
use Rattle.lmn_base.specs.declared.functor.Label.{Label}
use Rattle.lmn_base.specs.declared.functor.Label.TheVariants.{Name, Int as Integer}
use Rattle.lmn_base.specs.Graphs.{Reached, at_root, across, StandsWhole}
use Rattle.lmn_store_heap.specs.Heap.{Heap, IsAtom, functor_of, link_of, partners_of, home_of, port_id}
use Rattle.lmn_store_heap.specs.Sound.{Sound}
use Rattle.lmn_store_heap.specs.Graphs.{atom_map}
use Rattle.lmn_guards.specs.declared.plan.TypeKind.TheVariants as kind
use Rattle.lmn_solid_heads.specs.Guards.{integer_at, integer_by, integer_of_functor, IsOfKindAt, IsUnaryPart}
use Rattle.lmn_instr_code.specs.declared.instr.AtomPort.{AtomPort}
use Rattle.lmn_instr_code.specs.declared.instr.Instr.{Instr}
use Rattle.lmn_instr_code.specs.declared.instr.Instr.TheVariants.{IsInt, IsUnary}
use Rattle.lmn_instr_code.specs.Running.{HeadRegisters, HeadSize, InstructionHolds, IsContext, port_of}
use Rattle.lmn_machine_registers.specs.declared.registers.SetRegisters.{SetRegisters}
use Rattle.lmn_machine_registers.specs.Agreeing.{Agrees}
use Rattle.lmn_machine.specs.Searching.{AreHeldWhole, Extends, AllSet, Stepped, HeadInOrder, HasGivenPart, AreApart, IsLone, IsWholeApart, IsHeldPart}
use Rattle.lmn_machine.specs.Outcomes.{IsEndWith}
use Rattle.lmn_machine.proofs.Stepping.{SetsSo, extends_itself, agrees_before}
use Rattle.lmn_machine.proofs.Choosing.{take_front}
use Rattle.lmn_base.proofs.Lists.{get_last, take_whole, get_either, link_within}
use Rattle.lmn_base.proofs.Numbers.{below_next2 as less_or_same}
use Rattle.std.proofs.lemmas.List.{length_push}

-- none of the first i handles is of an atom
pub record ApartUpTo {A : Type 0} (atom : A → ℕ) (handles : List A) (n i : ℕ) : Type 0 where
  pub differ : (k : ℕ) (b : A) → k < i → slice_get handles k ≡ Some b → atom b ≡ n → ⊥

-- an atom differs from none of no handles
pub apart_first : {A : Type 0} (atom : A → ℕ) (handles : List A) (n : ℕ) → ApartUpTo atom handles n 0
apart_first atom handles n = record { differ = λ k b l. absurd (omega (arith, l)) }

-- and from one more that isn't it
pub apart_next : {A : Type 0} (atom : A → ℕ) (handles : List A) (n i : ℕ) (x : A) → ApartUpTo atom handles n i → slice_get handles i ≡ Some x → (atom x ≡ n → ⊥) → ApartUpTo atom handles n (i + 1)
apart_next {A} atom handles n i x t here d = record { differ = λ k b l e. at k b e (less_or_same k i l) }
  where
    at : (k : ℕ) (b : A) → slice_get handles k ≡ Some b → (k < i) ⊎ (k ≡ i) → atom b ≡ n → ⊥
    at k b e (inl l) = t.differ k b l e
    at k b e (inr s) = λ u. d (let v : Some b ≡ Some x = sym e ∙ (ap (λ j. slice_get handles j) s ∙ here) in let w : b ≡ x = cc in ap atom (sym w) ∙ u)

-- and so from all
pub apart_all : {A : Type 0} (atom : A → ℕ) (handles : List A) (n i : ℕ) → length handles ≤ i → ApartUpTo atom handles n i → AreApart atom handles n
apart_all atom handles n i l t = record { differ = λ k b e. t.differ k b (let w = slice_get_within handles k b e in omega (arith, w, l)) e }

one : (b : Bool) (y z : ℤ) (n : ℕ) → (n == 1) ≡ b → (if b then Some y else None) ≡ Some z → n ≡ 1
one true y z n t e = (Decides-eqb n 1).0 t
one false y z n t e = absurd (cc)

module _ (h : Heap) (sound : Sound h) where
  -- the ports with links of an atom of arity 1
  only_port : (n i : ℕ) (q : ℕ × ℕ) → IsUnaryPart h (n, 0) → link_of h n i ≡ Some q → i ≡ 0
  only_port n i q u e =
      let l = link_within (partners_of (h.atoms n)) i q e in
      let a = sound.shaped.ports n u.0 u.1 in
      let one = u.2 in omega (arith, l, a, one)

  root_port : (p : ℕ × ℕ) (q : ℕ × ℕ) → IsUnaryPart h (q.0, 0) → link_of h p.0 p.1 ≡ Some q → q.1 ≡ 0
  root_port p q u e = only_port q.0 q.1 (p.0, p.1) u (sound.paired.back p.0 p.1 q.0 q.1 e)

  only_root : (q : ℕ × ℕ) (b : ℕ) → IsUnaryPart h (q.0, 0) → q.1 ≡ 0 → Reached (atom_map h) q b → b ≡ q.0
  only_root q b u z at_root = refl
  only_root q b u z (across {a = a} {b = b'} {i = i} {j = j} r ne e) =
      let s : a ≡ q.0 = only_root q a u z r in
      let l : link_of h q.0 i ≡ Some (b', j) = subst (λ n. link_of h n i ≡ Some (b', j)) s e in
      let p : i ≡ 0 = only_port q.0 i (b', j) u l in
      absurd (ne (let k : i ≡ q.1 = p ∙ sym z in same_port a i q s k))
    where
      same_port : (a i : ℕ) (q : ℕ × ℕ) → a ≡ q.0 → i ≡ q.1 → (a, i) ≡ q
      same_port a i q s k = ap (λ n. (n, i)) s ∙ ap (λ n. (q.0, n)) k

  -- such an atom is a part that stands whole
  lone_whole : (p q : ℕ × ℕ) (m : ℕ) → IsUnaryPart h (q.0, 0) → link_of h p.0 p.1 ≡ Some q → home_of h q.0 ≡ Some m → StandsWhole (atom_map h) q m
  lone_whole p q m u e home =
      let z = root_port p q u e in
      record {
        at_home = λ a r. subst (λ n. home_of h n ≡ Some m) (sym (only_root q a u z r)) home;
        no_other_end = λ a i f r g l ne. absurd (ne (
            let s = only_root q a u z r in
            let v : functor_of h q.0 ≡ Some f = subst (λ n. functor_of h n ≡ Some f) s g in
            let w : Some u.0 ≡ Some f = sym u.1 ∙ v in
            let x : u.0 ≡ f = cc in
            let y = ap (λ k. k.arity) x in
            let one = u.2 in
            let i0 : i ≡ q.1 = omega (arith, l, y, one, z) in
            ap (λ n. (n, i)) s ∙ ap (λ n. (q.0, n)) i0));
      }

module _ {A M : Type 0} (atom : A → ℕ) (membrane : M → ℕ) (h : Heap) where
  -- a typed context of arity 1, by the handles in the registers
  from_context : (g : SetRegisters A M) (c x y : ℕ) (s : HeadRegisters) (p : AtomPort) (m : M) → c ≡ length g.atoms → Agrees atom membrane g s → slice_get g.membranes y ≡ Some m →
      IsContext h c s kind.Unary x p y → IsLone atom h g.atoms (membrane m) (s.images.part x).0
  from_context g c x y s p m n t place k = record {
    unary = k.of_kind;
    home = k.whole.at_home (s.images.part x).0 at_root ∙ ap (λ j. Some j) (t.membranes y m place);
    apart = record { differ = λ j b e d. k.apart (s.images.part x).0 j at_root (let w = slice_get_within g.atoms j b e in omega (arith, w, n)) (t.atoms j b e ∙ d) };
  }

  to_context : Sound h → (g : SetRegisters A M) (c x y : ℕ) (s : HeadRegisters) (p : AtomPort) (m : M) → c ≡ length g.atoms → Agrees atom membrane g s → slice_get g.membranes y ≡ Some m →
      link_of h (s.images.atom p.atom) p.port ≡ Some (s.images.part x) → IsLone atom h g.atoms (membrane m) (s.images.part x).0 → IsContext h c s kind.Unary x p y
  to_context sound g c x y s p m n t place e k = record {
    held = e;
    of_kind = k.unary;
    whole = lone_whole h sound (port_of s p) (s.images.part x) (s.images.membrane y) k.unary e (k.home ∙ ap (λ j. Some j) (sym (t.membranes y m place)));
    apart = λ b j r l d.
        (let z = root_port h sound (port_of s p) (s.images.part x) k.unary e in
        let root = only_root h sound (s.images.part x) b k.unary z r in
        let there = get_there g.atoms j (subst (λ o. j < o) n l) in
        k.apart.differ j there.0 there.1 (sym (t.atoms j there.0 there.1) ∙ (d ∙ root)));
  }
    where
      get_there : (xs : List A) (j : ℕ) → j < length xs → (b : A) × (slice_get xs j ≡ Some b)
      get_there [] j l = absurd (omega (arith, l))
      get_there (x ∷ xs) zero l = (x, refl)
      get_there (x ∷ xs) (suc j) l = get_there xs j (omega (arith, l))

  pub integer_unary : (q : ℕ × ℕ) (z : ℤ) → integer_at h q ≡ Some z → IsUnaryPart h q
  integer_unary q z e = by_functor (functor_of h q.0) z e
    where
      with_arity : (l : Label) (n : ℕ) (z : ℤ) → integer_by l n ≡ Some z → n ≡ 1
      with_arity (Name k) n z e = absurd (cc)
      with_arity (Integer y) n z e = one (n == 1) y z n refl e

      by_functor : (o : Option Functor) (z : ℤ) → integer_of_functor o ≡ Some z → (f : Functor) × (o ≡ Some f) × (f.arity ≡ 1)
      by_functor None z e = absurd (cc)
      by_functor (Some f) z e = (f, refl, with_arity f.label f.arity z e)

  unary_to_int : (c x y : ℕ) (s : HeadRegisters) (p : AtomPort) (z : ℤ) → IsContext h c s kind.Unary x p y → integer_at h (s.images.part x) ≡ Some z → IsContext h c s kind.Int x p y
  unary_to_int c x y s p z k e = record { held = k.held; of_kind = (z, e); whole = k.whole; apart = k.apart }

  int_to_unary : (c x y : ℕ) (s : HeadRegisters) (p : AtomPort) → IsContext h c s kind.Int x p y → IsContext h c s kind.Unary x p y
  int_to_unary c x y s p k = record { held = k.held; of_kind = integer_unary (s.images.part x) k.of_kind.0 k.of_kind.1; whole = k.whole; apart = k.apart }

-- one part more is set
abbrev pub with_part : {A M : Type 0} → SetRegisters A M → A × ℕ → SetRegisters A M
with_part g p = record g { parts = g.parts ++ p ∷ [] }

module _ {A M : Type 0} (atom : A → ℕ) (membrane : M → ℕ) (h : Heap) where
  extends_part : (g : SetRegisters A M) (p : A × ℕ) → Extends g (with_part g p)
  extends_part g p = record { atoms = take_whole g.atoms; membranes = take_whole g.membranes; parts = take_front g.parts (p ∷ []); integers = take_whole g.integers; copies = refl }

  agrees_part : (g : SetRegisters A M) (p : A × ℕ) (s : HeadRegisters) → Agrees atom membrane g s → s.images.part (length g.parts) ≡ port_id atom p → Agrees atom membrane (with_part g p) s
  agrees_part g p s t e = record {
    atoms = t.atoms;
    membranes = t.membranes;
    parts = λ k x u. elim (get_either g.parts p k x u) [ inl v ↦ t.parts k x v | inr v ↦ ap s.images.part v.0 ∙ (e ∙ ap (port_id atom) v.1) ];
    integers = t.integers;
  }

  -- What an instruction gives is the root of the next part exactly where it holds.
  abbrev pub GivesPart : SetRegisters A M → Instr → Option (A × ℕ) → Type 0
  GivesPart g i o = (c : HeadSize) (s : HeadRegisters) → c.atoms ≡ length g.atoms → Agrees atom membrane g s →
      (InstructionHolds h c s i → option_map (port_id atom) o ≡ Some (s.images.part (length g.parts))) × (option_map (port_id atom) o ≡ Some (s.images.part (length g.parts)) → InstructionHolds h c s i)

  -- what is known of a part that was found from the port of an atom in registers
  abbrev pub FoundFrom : SetRegisters A M → A → ℕ → ℕ → Option (A × ℕ) → Type 0
  FoundFrom g a port m o = (q : ℕ × ℕ) → option_map (port_id atom) o ≡ Some q → (link_of h (atom a) port ≡ Some q) × IsWholeApart atom h g.atoms m q

  held_part : Sound h → (g : SetRegisters A M) (j : ℕ) (a : A) (port m : ℕ) (p : A × ℕ) → slice_get g.atoms j ≡ Some a → FoundFrom g a port m (Some p) → IsHeldPart atom h g.atoms p
  held_part sound g j a port m p e f =
      let q = f (port_id atom p) refl in record {
        port = link_within (partners_of (h.atoms (atom p.0))) p.1 (atom a, port) (sound.paired.back (atom a) port (atom p.0) p.1 q.0);
        holder = (j, port, (a, e, q.0));
        whole = (m, q.1.whole);
        apart = q.1.apart;
      }

  pub part_stepped : Sound h → (g k : SetRegisters A M) (result : Bool) (i : Instr) (j : ℕ) (a : A) (port m : ℕ) (o : Option (A × ℕ)) → slice_get g.atoms j ≡ Some a → FoundFrom g a port m o → AreHeldWhole atom membrane h g → IfSome o (λ p. IsAtom h (atom p.0)) →
      ((is : List Instr) → HeadInOrder (length g.atoms) (length g.membranes) (length g.parts) (length g.integers) (i ∷ is) → HeadInOrder (length g.atoms) (length g.membranes) (length g.parts + 1) (length g.integers) is) →
      ((c : HeadSize) → AllSet c (length g.atoms) (length g.membranes) i → c.atoms ≡ length g.atoms) → SetsSo i 0 0 1 0 → GivesPart g i o → HasGivenPart g k result o → Stepped atom membrane h g k result i
  part_stepped sound g k result i j a port m None from known held there next all count means given = record {
    held = subst (λ l. AreHeldWhole atom membrane h l) (sym given.1) held;
    extends = subst (λ l. Extends g l) (sym given.1) (extends_itself atom membrane h g);
    holds = λ t. (let f = given.0 in absurd (cc));
    only = λ c s n a u. (let e = (means c s (all c n) a).0 u in absurd (cc));
    sets = λ t. (let f = given.0 in absurd (cc));
    order = λ t. (let f = given.0 in absurd (cc));
  }
  part_stepped sound g k result i j a port m (Some p) from known held there next all count means given = subst (λ b. Stepped atom membrane h g k b i) (sym given.0) (subst (λ l. Stepped atom membrane h g l true i) (sym given.1) stepped)
    where
      stepped : Stepped atom membrane h g (with_part g p) true i
      stepped = record {
        held = record {
          atoms = held.atoms;
          membranes = held.membranes;
          parts = λ k x u. elim (get_either g.parts p k x u) [ inl v ↦ held.parts k x v | inr v ↦ subst (λ y. IsAtom h (atom y.0)) v.1 there ];
          whole = λ k x u. elim (get_either g.parts p k x u) [ inl v ↦ held.whole k x v | inr v ↦ subst (λ y. IsHeldPart atom h g.atoms y) v.1 (held_part sound g j a port m p from known) ];
          listed = held.listed;
        };
        extends = extends_part g p;
        holds = λ t c s n a.
            (means c s (all c n) (agrees_before atom membrane h g (with_part g p) s (extends_part g p) a)).1 (ap (λ x. Some x) (sym (a.parts (length g.parts) p (get_last g.parts p))));
        only = λ c s n a u. (let e = (means c s (all c n) a).0 u in let v : s.images.part (length g.parts) ≡ port_id atom p = cc in (refl, agrees_part g p s a v));
        sets = λ t. record {
          atoms = (let n = count.0 in omega (arith, n));
          membranes = (let n = count.1 in omega (arith, n));
          parts = (let n = count.2 in let l = length_push g.parts p in omega (arith, n, l));
          integers = (let n = count.3 in omega (arith, n));
        };
        order = λ t is u. subst (λ n. HeadInOrder (length g.atoms) (length g.membranes) n (length g.integers) is) (sym (length_push g.parts p)) (next is u);
      }

  -- an atom alone is a part that stands whole and apart
  lone_known : Sound h → (g : SetRegisters A M) (a : A) (port : ℕ) (m : M) (q : ℕ × ℕ) → link_of h (atom a) port ≡ Some q → IsLone atom h g.atoms (membrane m) q.0 → IsWholeApart atom h g.atoms (membrane m) q
  lone_known sound g a port m q l k = record {
    whole = lone_whole h sound (atom a, port) q (membrane m) k.unary l k.home;
    apart = λ b r. record { differ = λ j x u d. k.apart.differ j x u (d ∙ only_root h sound q b k.unary (root_port h sound (atom a, port) q k.unary l) r) };
  }

  unary_gives : Sound h → (g : SetRegisters A M) (p : AtomPort) (y : ℕ) (a : A) (m : M) (o : Option (A × ℕ)) → slice_get g.atoms p.atom ≡ Some a → slice_get g.membranes y ≡ Some m → IsEndWith atom h (λ q. IsLone atom h g.atoms (membrane m) q.0) (atom a) p.port o →
      GivesPart g (IsUnary (length g.parts) p y) o
  unary_gives sound g p y a m o from place t = λ c s n r. (
    λ k. t.only (s.images.part (length g.parts)) (subst (λ j. link_of h j p.port ≡ Some (s.images.part (length g.parts))) (r.atoms p.atom a from) k.held) (from_context atom membrane h g c.atoms (length g.parts) y s p m n r place k),
    λ e. to_context atom membrane h sound g c.atoms (length g.parts) y s p m n r place
        (subst (λ j. link_of h j p.port ≡ Some (s.images.part (length g.parts))) (sym (r.atoms p.atom a from)) (t.ends (s.images.part (length g.parts)) e)) (t.holds (s.images.part (length g.parts)) e),
  )

  int_gives : Sound h → (g : SetRegisters A M) (p : AtomPort) (y : ℕ) (a : A) (m : M) (o : Option (A × ℕ)) → slice_get g.atoms p.atom ≡ Some a → slice_get g.membranes y ≡ Some m →
      IsEndWith atom h (λ q. IsLone atom h g.atoms (membrane m) q.0 × IsOfKindAt h kind.Int q) (atom a) p.port o → GivesPart g (IsInt (length g.parts) p y) o
  int_gives sound g p y a m o from place t = λ c s n r. (
    λ k. t.only (s.images.part (length g.parts)) (subst (λ j. link_of h j p.port ≡ Some (s.images.part (length g.parts))) (r.atoms p.atom a from) k.held)
        (from_context atom membrane h g c.atoms (length g.parts) y s p m n r place (int_to_unary atom membrane h c.atoms (length g.parts) y s p k), k.of_kind),
    λ e. (let q = t.holds (s.images.part (length g.parts)) e in
        unary_to_int atom membrane h c.atoms (length g.parts) y s p q.1.0 (to_context atom membrane h sound g c.atoms (length g.parts) y s p m n r place
        (subst (λ j. link_of h j p.port ≡ Some (s.images.part (length g.parts))) (sym (r.atoms p.atom a from)) (t.ends (s.images.part (length g.parts)) e)) q.0) q.1.1),
  )

  pub unary_stepped : Sound h → (g k : SetRegisters A M) (result : Bool) (i : Instr) (x : ℕ) (p : AtomPort) (y : ℕ) (a : A) (m : M) (o : Option (A × ℕ)) → i ≡ IsUnary x p y → HeadInOrder (length g.atoms) (length g.membranes) (length g.parts) (length g.integers) (i ∷ []) → AreHeldWhole atom membrane h g →
      slice_get g.atoms p.atom ≡ Some a → slice_get g.membranes y ≡ Some m → IsEndWith atom h (λ q. IsLone atom h g.atoms (membrane m) q.0) (atom a) p.port o → HasGivenPart g k result o → Stepped atom membrane h g k result i
  unary_stepped sound g k result i x p y a m o e order held from place t given =
      let u : HeadInOrder (length g.atoms) (length g.membranes) (length g.parts) (length g.integers) (IsUnary x p y ∷ []) = subst (λ j. HeadInOrder (length g.atoms) (length g.membranes) (length g.parts) (length g.integers) (j ∷ [])) e order in
      subst (λ j. Stepped atom membrane h g k result j) (sym (e ∙ ap (λ j. IsUnary j p y) u.0.0.0.0))
      (part_stepped sound g k result (IsUnary (length g.parts) p y) p.atom a p.port (membrane m) o from (λ q e. (t.ends q e, lone_known sound g a p.port m q (t.ends q e) (t.holds q e))) held t.there (λ is w. w.1) (λ c w. w) (refl, refl, refl, refl) (unary_gives sound g p y a m o from place t) given)

  pub int_stepped : Sound h → (g k : SetRegisters A M) (result : Bool) (i : Instr) (x : ℕ) (p : AtomPort) (y : ℕ) (a : A) (m : M) (o : Option (A × ℕ)) → i ≡ IsInt x p y → HeadInOrder (length g.atoms) (length g.membranes) (length g.parts) (length g.integers) (i ∷ []) → AreHeldWhole atom membrane h g →
      slice_get g.atoms p.atom ≡ Some a → slice_get g.membranes y ≡ Some m → IsEndWith atom h (λ q. IsLone atom h g.atoms (membrane m) q.0 × IsOfKindAt h kind.Int q) (atom a) p.port o → HasGivenPart g k result o → Stepped atom membrane h g k result i
  int_stepped sound g k result i x p y a m o e order held from place t given =
      let u : HeadInOrder (length g.atoms) (length g.membranes) (length g.parts) (length g.integers) (IsInt x p y ∷ []) = subst (λ j. HeadInOrder (length g.atoms) (length g.membranes) (length g.parts) (length g.integers) (j ∷ [])) e order in
      subst (λ j. Stepped atom membrane h g k result j) (sym (e ∙ ap (λ j. IsInt j p y) u.0.0.0.0))
      (part_stepped sound g k result (IsInt (length g.parts) p y) p.atom a p.port (membrane m) o from (λ q e. (t.ends q e, lone_known sound g a p.port m q (t.ends q e) (t.holds q e).0)) held t.there (λ is w. w.1) (λ c w. w) (refl, refl, refl, refl) (int_gives sound g p y a m o from place t) given)
