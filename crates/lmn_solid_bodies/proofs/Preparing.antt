-- What the code of a body makes, with membranes: all of it waits.
use Rattle.std.proofs.Common.{ℕ, zero, suc, false, true, ◌≤◌, length, ◌+◌, ◌≡◌, ◌≢◌, ◌⊎◌, List, [], ◌∷◌, map, Option, Some, None, IsSome, refl, sym, ap, subst, ◌∙◌, inl, inr}
use Rattle.lmn_base.specs.declared.functor.Functor.{Functor}
use Rattle.lmn_store_heap.specs.Heap.{Heap, HeapAtom, HeapMem, new_atom, rules_in, rules_by, made_atom}
use Rattle.lmn_solid_bodies.specs.declared.items.BodyItem.{BodyItem}
use Rattle.lmn_solid_bodies.specs.declared.items.BodyItem.TheVariants.{Atom, Connector, Copy, Bound, Membrane, Rest, Rule, Rules}
use Rattle.lmn_solid_bodies.specs.Code.{making}
use Rattle.lmn_solid_bodies.specs.Running.{Registers, integer_functor, Prepares}
use Rattle.lmn_solid_bodies.specs.Added.{made_mems}
use Rattle.lmn_solid_bodies.proofs.Making.{made_at}
use Rattle.lmn_solid_bodies.proofs.MemsMade.{MemsMade, none_made, mems_made_after, made_one_mem, made_atom_mems, reserved_mems, mems_same}
use Rattle.lmn_solid_bodies.proofs.RestsMade.{IsClosed, HaveRestCopies, has_rest_on, brings_rest, has_rest}
use Rattle.lmn_solid_bodies.proofs.RestMems.{rest_mems, rest_long}
use Rattle.lmn_solid_bodies.proofs.Rooms.{HasRoom, room_as, rest_room, spare_after}
use Rattle.lmn_solid_bodies.specs.RestCopies.{RestCopy, RestCopies, AreAsLong}
use Rattle.lmn_solid_bodies.specs.Rules.{closed_rests}
use Rattle.lmn_solid_bodies.specs.Made.{new_atoms, copies_of}
use Rattle.lmn_solid_bodies.specs.Tied.{partners}
use Rattle.lmn_solid_bodies.specs.Names.{StandsPort}
use Rattle.lmn_solid_bodies.proofs.BodyPorts.{Written, AreCopied}
use Rattle.lmn_solid_bodies.proofs.Brought.{Brings, brought_old, brings_none, brings_after, brings_atom, brings_on, Whole, HasCopy, Old, old_on, brings_copied, has_copied, has_copy_on, link_at}
use Rattle.lmn_store_heap.specs.Sound.{Paired, Shaped, Sound}
use Rattle.lmn_congruence_splice.specs.Splice as splice
use Rattle.lmn_ground_parts.specs.Copies.{AllAtoms}
use Rattle.lmn_ground_parts.specs.Rests.{NoneLeaves}
use Rattle.lmn_base.specs.Graphs.{Port}
use Rattle.lmn_base.specs.Lists.{In}
use Rattle.lmn_store_heap.proofs.Common.{in_at as get_in}

-- The atoms of a heap and the line of those that wait are those of another heap.
pub record SameLines (s t : Heap) : Type 0 where
  pub atoms : s.atoms ≡ t.atoms
  pub line : s.new_atoms ≡ t.new_atoms

-- What the making part of code makes, from s to t: its atoms, with those of copies of parts of h, and its membranes. The next copy has
-- the number k.
pub record MakesAll (h s t : Heap) (r : Registers) (qs : RestCopies) (a m k : ℕ) (body : List BodyItem) : Type 0 where
  pub brings : Brings s t (new_atoms r qs a k body)
  pub written : Written t r a body
  pub copies : AreCopied h t r k body
  pub long : AreAsLong r qs body
  pub rests : HaveRestCopies h t r qs body
  pub mems : MemsMade s t (made_mems r qs m body)
  pub room : HasRoom r qs body s t

-- A heap in which the atoms of a body wait, and else nothing has changed; and colours of the ports of copies, beside those of h.
pub record Brought (d : Port → ℕ) (h : Heap) (r : Registers) (qs : RestCopies) (a : ℕ) (body : List BodyItem) : Type 0 where
  pub heap : Heap
  pub sound : Sound heap
  pub brings : Brings h heap (new_atoms r qs a 0 body)
  pub written : Written heap r a body
  pub copies : AreCopied h heap r 0 body
  pub long : AreAsLong r qs body
  pub rests : HaveRestCopies h heap r qs body
  pub mems : heap.mems ≡ h.mems
  pub new_mems : heap.new_mems ≡ h.new_mems
  pub root : heap.root ≡ h.root
  pub same : (p q : Port) → In p.0 (new_atoms r qs a 0 body) → partners heap p ≡ Some q → d q ≡ d p
  pub only : (p q x y : Port) → In p.0 (new_atoms r qs a 0 body) → In q.0 (new_atoms r qs a 0 body) → partners heap p ≡ Some x → partners heap q ≡ Some y → d p ≡ d q → (p ≡ q) ⊎ (partners heap p ≡ Some q)
  pub apart : (p q x : Port) → In p.0 (new_atoms r qs a 0 body) → partners heap p ≡ Some x → StandsPort h q → d p ≢ d q

-- what the making part of code makes: its atoms, as if only they were made, and its membranes
pub record AllPrepared (d : Port → ℕ) (h s : Heap) (r : Registers) (qs : RestCopies) (a m : ℕ) (body : List BodyItem) : Type 0 where
  pub free : Brought d h r qs a body
  pub atoms : SameLines s free.heap
  pub mems : MemsMade h s (made_mems r qs m body)
  pub room : HasRoom r qs body h s

-- an atom is made, and then the rest
atom_prepares : (r : Registers) (qs : RestCopies) (a m k : ℕ) (xs : List BodyItem) (h s u t : Heap) (x : ℕ) (f : Functor) → (s.atoms x ≡ None) × (u ≡ made_atom s x f) → MakesAll h u t r qs (a + 1) m k xs
    → Brings s t (x ∷ new_atoms r qs (a + 1) k xs) × (t.atoms x ≡ Some (new_atom f)) × MemsMade s t (made_mems r qs m xs)
atom_prepares r qs a m k xs h s u t x f w on =
    let b = subst (λ z. Brings s z (x ∷ [])) (sym w.1) (brings_atom s x f w.0) in
    let at : u.atoms x ≡ Some (new_atom f) = ap (λ (z : Heap). z.atoms x) w.1 ∙ made_at s x f in (
      brings_after s u t (x ∷ []) (new_atoms r qs (a + 1) k xs) b on.brings,
      (brought_old on.brings x (subst (λ (o : Option HeapAtom). IsSome o) (sym at) refl)).1 ∙ at,
      mems_made_after s u t [] (made_mems r qs m xs) (subst (λ z. MemsMade s z []) (sym w.1) (made_atom_mems s x f)) on.mems,
    )

-- what was there, when an atom is made
atom_old : (h s u : Heap) (x : ℕ) (f : Functor) → (s.atoms x ≡ None) × (u ≡ made_atom s x f) → Old h s → Paired s → Shaped s → Old h u × Paired u × Shaped u
atom_old h s u x f w old p q =
    let b = subst (λ z. Brings s z (x ∷ [])) (sym w.1) (brings_atom s x f w.0) in
    (old_on h old b, b.paired p, b.shaped q)

-- no atom is made
same_prepares : (r : Registers) (qs : RestCopies) (a m k : ℕ) (xs : List BodyItem) (h s u t : Heap) → u.atoms ≡ s.atoms → u.new_atoms ≡ s.new_atoms → Brings u t (new_atoms r qs a k xs) → Brings s t (new_atoms r qs a k xs)
same_prepares r qs a m k xs h s u t e f b = brings_after s u t [] (new_atoms r qs a k xs) (brings_on s s u [] e f (brings_none s)) b

same_old : (h s u : Heap) → u.atoms ≡ s.atoms → u.new_atoms ≡ s.new_atoms → Old h s → Paired s → Shaped s → Old h u × Paired u × Shaped u
same_old h s u e f old p q = let b = brings_on s s u [] e f (brings_none s) in (old_on h old b, b.paired p, b.shaped q)

-- a copy, and then the others
abbrev first_then : RestCopy → RestCopies → RestCopies
first_then p q zero = p
first_then p q (suc k) = q k

-- no copies
abbrev pub no_rests : RestCopies
no_rests k = record { atoms = []; membranes = [] }

-- What the making part of a body makes is all that the body lists, with copies of the parts, and of rests that no link leaves.
pub making_prepares : (r : Registers) (a m k : ℕ) (body : List BodyItem) (h : Heap) → Paired h → Shaped h → ((e : ℕ × ℕ) → splice.IsOneOf e (copies_of k body) → Whole h (r.head.images.part e.1))
    → ((of : ℕ) → splice.IsOneOf of (closed_rests body) → IsClosed h (r.left_atoms of)) → (s t : Heap) → Old h s → Paired s → Shaped s
    → Prepares r (making a m k body) s t → (qs : RestCopies) × MakesAll h s t r qs a m k body
making_prepares r a m k [] h hp hs whole closed s t old p q w = (
  no_rests,
  record {
    brings = subst (λ z. Brings s z []) (sym w) (brings_none s);
    written = λ e i. absurd i;
    copies = λ e i. absurd i;
    long = tt;
    rests = tt;
    mems = subst (λ z. MemsMade s z []) (sym w) (none_made s);
    room = tt;
  },
)
making_prepares r a m k (Atom functor links inside ∷ xs) h hp hs whole closed s t old p q w =
    let x = r.head.images.atom a in
    let o = atom_old h s w.0 x functor w.1 old p q in
    let on = making_prepares r (a + 1) m k xs h hp hs whole closed w.0 t o.0 o.1 o.2 w.2 in
    let v = atom_prepares r on.0 a m k xs h s w.0 t x functor w.1 on.1 in
    (on.0, record { brings = v.0; written = λ e i. elim i [ inl z ↦ subst (λ (y : ℕ × Functor). t.atoms y.0 ≡ Some (new_atom y.1)) z v.1 | inr j ↦ on.1.written e j ]; copies = on.1.copies; long = on.1.long; rests = on.1.rests; mems = v.2; room = room_as r on.0 xs s w.0 t (λ x. ap (λ (z : Heap). rules_in z x) w.1.1) on.1.room })
making_prepares r a m k (Bound integer link inside ∷ xs) h hp hs whole closed s t old p q w =
    let x = r.head.images.atom a in
    let f = integer_functor (r.head.integer integer) in
    let o = atom_old h s w.0 x f w.1 old p q in
    let on = making_prepares r (a + 1) m k xs h hp hs whole closed w.0 t o.0 o.1 o.2 w.2 in
    let v = atom_prepares r on.0 a m k xs h s w.0 t x f w.1 on.1 in
    (on.0, record { brings = v.0; written = λ e i. elim i [ inl z ↦ subst (λ (y : ℕ × Functor). t.atoms y.0 ≡ Some (new_atom y.1)) z v.1 | inr j ↦ on.1.written e j ]; copies = on.1.copies; long = on.1.long; rests = on.1.rests; mems = v.2; room = room_as r on.0 xs s w.0 t (λ x. ap (λ (z : Heap). rules_in z x) w.1.1) on.1.room })
making_prepares r a m k (Connector left right ∷ xs) h hp hs whole closed s t old p q w =
    let on = making_prepares r a m k xs h hp hs whole closed s t old p q w in
    (on.0, record { brings = on.1.brings; written = on.1.written; copies = on.1.copies; long = on.1.long; rests = on.1.rests; mems = on.1.mems; room = on.1.room })
making_prepares r a m k (Copy part link inside ∷ xs) h hp hs whole closed s t old p q w =
    let root = r.head.images.part part in
    let u = w.0 in
    let c = w.1.0 in
    let b : Brings s u (r.copied k) = subst (Brings s u) w.1.1 (brings_copied s u root (r.copy k) c) in
    let has : HasCopy h u root (r.copy k) (r.copied k) = subst (HasCopy h u root (r.copy k)) w.1.1 (has_copied s u root (r.copy k) c h hp hs (whole (k, part) (inl refl)) old (b.shaped q) p) in
    let on = making_prepares r a m (k + 1) xs h hp hs (λ e i. whole e (inr i)) closed u t (old_on h old b) (b.paired p) (b.shaped q) w.2 in (
      on.0,
      record {
        brings = brings_after s u t (r.copied k) (new_atoms r on.0 a (k + 1) xs) b on.1.brings;
        written = on.1.written;
        copies = λ e i. elim i [
          | inl z ↦ subst (λ (y : ℕ × ℕ). HasCopy h t (r.head.images.part y.1) (r.copy y.0) (r.copied y.0)) z (has_copy_on h root (r.copy k) (r.copied k) on.1.brings has)
          | inr j ↦ on.1.copies e j
        ];
        long = on.1.long;
        rests = on.1.rests;
        mems = mems_made_after s u t [] (made_mems r on.0 m xs) (mems_same s u c.beside.mems c.beside.new_mems c.beside.root) on.1.mems;
        room = room_as r on.0 xs s u t (λ x. ap (λ (f : ℕ → Option HeapMem). rules_by (f x)) c.beside.mems) on.1.room;
      },
    )
making_prepares r a m k (Membrane inside ∷ xs) h hp hs whole closed s t old p q w =
    let y = r.head.images.membrane m in
    let e = ap (λ (z : Heap). z.atoms) w.1.1 in
    let f = ap (λ (z : Heap). z.new_atoms) w.1.1 in
    let o = same_old h s w.0 e f old p q in
    let on = making_prepares r a (m + 1) k xs h hp hs whole closed w.0 t o.0 o.1 o.2 w.2 in (
      on.0,
      record {
        brings = same_prepares r on.0 a (m + 1) k xs h s w.0 t e f on.1.brings;
        written = on.1.written;
        copies = on.1.copies;
        long = on.1.long;
        rests = on.1.rests;
        mems = mems_made_after s w.0 t (y ∷ []) (made_mems r on.0 (m + 1) xs) (subst (λ z. MemsMade s z (y ∷ [])) (sym w.1.1) (made_one_mem s y w.1.0)) on.1.mems;
        room = room_as r on.0 xs s w.0 t (subst (λ z. MemsMade s z (y ∷ [])) (sym w.1.1) (made_one_mem s y w.1.0)).rules on.1.room;
      },
    )
making_prepares r a m k (Rest of false inside ∷ xs) h hp hs whole closed s t old p q w =
    let e = ap (λ (z : Heap). z.atoms) w.1 in
    let f = ap (λ (z : Heap). z.new_atoms) w.1 in
    let o = same_old h s w.0 e f old p q in
    let on = making_prepares r a m k xs h hp hs whole closed w.0 t o.0 o.1 o.2 w.2 in (
      on.0,
      record {
        brings = same_prepares r on.0 a m k xs h s w.0 t e f on.1.brings;
        written = on.1.written;
        copies = on.1.copies;
        long = on.1.long;
        rests = on.1.rests;
        mems = mems_made_after s w.0 t [] (made_mems r on.0 m xs) (subst (λ z. MemsMade s z []) (sym w.1) (none_made s)) on.1.mems;
        room = room_as r on.0 xs s w.0 t (λ x. ap (λ (z : Heap). rules_in z x) w.1) on.1.room;
      },
    )
making_prepares r a m k (Rest of true inside ∷ xs) h hp hs whole closed s t old p q w =
    let ats = r.left_atoms of in
    let ms = r.left_membranes of in
    let u = w.0 in
    let ys = w.1.0 in
    let ns = map (λ (e : ℕ × ℕ). e.0) w.1.1 in
    let c = w.1.2 in
    let is = closed of (inl refl) in
    let there : AllAtoms s ats = λ x i. subst (λ (o : Option HeapAtom). IsSome o) (sym (old x (is.there x i))) (is.there x i) in
    let stays : NoneLeaves s ats = λ x i y j l e. is.stays x i y j l (sym (ap (λ z. link_at z i) (old x (is.there x l))) ∙ e) in
    let b = brings_rest s u ats ms ys w.1.1 c p q there is.once stays in
    let has = has_rest s u ats ms ys w.1.1 c p q there is.once stays h is old in
    let on = making_prepares r a m k xs h hp hs whole (λ o i. closed o (inr i)) u t (old_on h old b) (b.paired p) (b.shaped q) w.2 in (
      first_then (record { atoms = ys; membranes = ns }) on.0,
      record {
        brings = brings_after s u t ys (new_atoms r on.0 a k xs) b on.1.brings;
        written = on.1.written;
        copies = on.1.copies;
        long = (rest_long s u ats ms ys w.1.1 c, on.1.long);
        rests = (has_rest_on h ats ys on.1.brings has, on.1.rests);
        mems = mems_made_after s u t ns (made_mems r on.0 m xs) (rest_mems s u ats ms ys w.1.1 c) on.1.mems;
        room = (
          λ v x y f g o. subst (λ z. length (rules_in s x) ≤ z) (sym (spare_after r a m k xs u t w.2 y ((rest_mems s u ats ms ys w.1.1 c).made y (get_in ns v y g)) o)) (rest_room s u ats ms ys w.1.1 c v x y f g),
          room_as r on.0 xs s u t (rest_mems s u ats ms ys w.1.1 c).rules on.1.room,
        );
      },
    )
making_prepares r a m k (Rule rule inside ∷ xs) h hp hs whole closed s t old p q w =
    let e = ap (λ (z : Heap). z.atoms) w.1.1 in
    let f = ap (λ (z : Heap). z.new_atoms) w.1.1 in
    let o = same_old h s w.0 e f old p q in
    let on = making_prepares r a m k xs h hp hs whole closed w.0 t o.0 o.1 o.2 w.2 in (
      on.0,
      record {
        brings = same_prepares r on.0 a m k xs h s w.0 t e f on.1.brings;
        written = on.1.written;
        copies = on.1.copies;
        long = on.1.long;
        rests = on.1.rests;
        mems = mems_made_after s w.0 t [] (made_mems r on.0 m xs) (subst (λ z. MemsMade s z []) (sym w.1.1) (reserved_mems s (r.head.images.membrane inside) w.1.0)) on.1.mems;
        room = room_as r on.0 xs s w.0 t (subst (λ z. MemsMade s z []) (sym w.1.1) (reserved_mems s (r.head.images.membrane inside) w.1.0)).rules on.1.room;
      },
    )
making_prepares r a m k (Rules of inside ∷ xs) h hp hs whole closed s t old p q w =
    let e = ap (λ (z : Heap). z.atoms) w.1.1 in
    let f = ap (λ (z : Heap). z.new_atoms) w.1.1 in
    let o = same_old h s w.0 e f old p q in
    let on = making_prepares r a m k xs h hp hs whole closed w.0 t o.0 o.1 o.2 w.2 in (
      on.0,
      record {
        brings = same_prepares r on.0 a m k xs h s w.0 t e f on.1.brings;
        written = on.1.written;
        copies = on.1.copies;
        long = on.1.long;
        rests = on.1.rests;
        mems = mems_made_after s w.0 t [] (made_mems r on.0 m xs) (subst (λ z. MemsMade s z []) (sym w.1.1) (reserved_mems s (r.head.images.membrane inside) w.1.0)) on.1.mems;
        room = room_as r on.0 xs s w.0 t (subst (λ z. MemsMade s z []) (sym w.1.1) (reserved_mems s (r.head.images.membrane inside) w.1.0)).rules on.1.room;
      },
    )
