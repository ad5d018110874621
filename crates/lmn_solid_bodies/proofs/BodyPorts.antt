-- The new ports of a body without membranes, and how often links stand at ports and in connectors.
use Rattle.std.proofs.Common.{ℕ, suc, ◌+◌, ◌<◌, ◌≤◌, ◌≡◌, ◌≢◌, ◌⊎◌, ◌==◌, Bool, true, false, cond, List, [], ◌∷◌, ◌++◌, map, length, Option, Some, None, refl, sym, ap, subst, ◌∙◌, inl, inr, arith}
use Rattle.std.proofs.lemmas.Bool.{cases_eq}
use Rattle.lmn_base.specs.declared.functor.Functor.{Functor}
use Rattle.lmn_store_heap.specs.Heap as heap
use Rattle.lmn_store_heap.proofs.ListLemmas.{each_in, in_left, in_right, apart, distinct_right}
use Rattle.lmn_solid_heads.specs.Heads.{Occurrence, times}
use Rattle.lmn_congruence_splice.specs.Splice.{IsOneOf, NoneTwice, both_links, ports, links}
use Rattle.lmn_solid_bodies.specs.declared.items.BodyItem.{BodyItem}
use Rattle.lmn_solid_bodies.specs.declared.items.BodyItem.TheVariants.{Atom, Connector, Copy, Bound, Membrane, Rest, Rule, Rules}
use Rattle.lmn_solid_bodies.specs.Items.{port_at, new_ports_from, new_ports, connectors, once_in, body_links, AllMade, NoCopies}
use Rattle.lmn_solid_bodies.specs.Running.{Registers, old_port, new_port, integer_functor}
use Rattle.lmn_solid_bodies.proofs.Coding.{at_heap}
use Rattle.lmn_solid_bodies.specs.Made.{made_of, new_atoms, copies_of}
use Rattle.lmn_solid_bodies.specs.RestCopies.{RestCopies, later}
use Rattle.lmn_solid_bodies.specs.Tied.{partners}
use Rattle.lmn_solid_bodies.proofs.Brought.{HasCopy}
use Rattle.lmn_solid_bodies.proofs.RestsMade.{HaveRestCopies}
use Rattle.lmn_store_heap.specs.Heap.{Heap, HeapAtom, new_atom, partners_of, arity_of}
use Rattle.std.proofs.lemmas.List.{length-replicate}
use Rattle.std.specs.Prelude.{slice_index_or}
use Rattle.lmn_solid_bodies.proofs.HeadPorts.{of_map}
use Rattle.lmn_base.specs.Graphs.{Port}
use Rattle.lmn_congruence.specs.Links.{one_if_same, places}
use Rattle.lmn_base.proofs.Common.{port_cases}
use Rattle.lmn_congruence.proofs.Counts.{none_if_apart as one_other}
use Rattle.lmn_congruence.proofs.TranslatedLinks.{places_append as often_append}
use Rattle.lmn_congruence_splice.proofs.Common.{in_append, in_back, in_front, links_append, ports_append, distinct_append}
use Rattle.lmn_store_heap.proofs.Common.{no_links, no_port}
use Rattle.lmn_base.specs.Lists.{In}
use Rattle.lmn_base.proofs.Lists.{in_either}

-- ports of two lists go to the heap one list after the other
pub heap_append : {P : Type 0} (f : P → Port) (xs ys : List (P × ℕ)) → at_heap f (xs ++ ys) ≡ at_heap f xs ++ at_heap f ys
heap_append f [] ys = refl
heap_append f (x ∷ xs) ys = ap (λ zs. (f x.0, x.1) ∷ zs) (heap_append f xs ys)

-- a port of a register that is listed with its link is listed as a port of the heap
pub heap_in : {P : Type 0} (f : P → Port) (e : P × ℕ) (xs : List (P × ℕ)) → IsOneOf e xs → IsOneOf {A = Port × ℕ} (f e.0, e.1) (at_heap f xs)
heap_in f e [] i = absurd i
heap_in {P = P} f e (x ∷ xs) (inl h) = inl (ap (λ (w : P × ℕ). (f w.0, w.1)) h)
heap_in f e (x ∷ xs) (inr i) = inr (heap_in f e xs i)

-- each port of the heap that is listed comes from one of a register
pub of_heap : {P : Type 0} (f : P → Port) (e : Port × ℕ) (xs : List (P × ℕ)) → IsOneOf e (at_heap f xs) → (x : P × ℕ) × IsOneOf x xs × (◌≡◌ {A = Port × ℕ} (f x.0, x.1) e)
of_heap f e [] i = absurd i
of_heap f e (x ∷ xs) (inl h) = (x, inl refl, h)
of_heap f e (x ∷ xs) (inr i) = let w = of_heap f e xs i in (w.0, inr w.1, w.2)

-- The new ports

-- the ports of one atom
one_atom : (r : Registers) (a i : ℕ) (xs : List ℕ) (e : Port × ℕ) → IsOneOf e (at_heap (new_port r) (new_ports_from a i xs)) → (e.0.0 ≡ r.head.images.atom a) × (e.0.1 < i + length xs) × (i ≤ e.0.1)
one_atom r a i [] e w = absurd w
one_atom r a i (x ∷ xs) e (inl h) = (
  sym (ap (λ (q : Port × ℕ). q.0.0) h),
  subst (λ z. z < i + suc (length xs)) (ap (λ (q : Port × ℕ). q.0.1) h) (omega arith),
  subst (λ z. i ≤ z) (ap (λ (q : Port × ℕ). q.0.1) h) (omega arith),
)
one_atom r a i (x ∷ xs) e (inr w) = let v = one_atom r a (i + 1) xs e w in (v.0, below v.1, above v.2)
  where
    below : e.0.1 < i + 1 + length xs → e.0.1 < i + suc (length xs)
    below h = omega arith

    above : i + 1 ≤ e.0.1 → i ≤ e.0.1
    above h = omega arith

one_atom_all : (r : Registers) (a i j : ℕ) (xs : List ℕ) → i ≤ j → j < i + length xs → IsOneOf {A = Port} (r.head.images.atom a, j) (ports (at_heap (new_port r) (new_ports_from a i xs)))
one_atom_all r a i j [] h g = absurd (off h g)
  where
    off : i ≤ j → j < i + 0 → ⊥
    off h g = omega arith
one_atom_all r a i j (x ∷ xs) h g = elim (cases_eq i j) [
  | inl e ↦ inl (λ t. (r.head.images.atom a, e t))
  | inr d ↦ inr (one_atom_all r a (i + 1) j xs (next h d) (less g))
]
  where
    next : i ≤ j → i ≢ j → i + 1 ≤ j
    next h d = grind arith

    less : j < i + suc (length xs) → j < i + 1 + length xs
    less g = omega arith

one_atom_once : (r : Registers) (a i : ℕ) (xs : List ℕ) → NoneTwice (ports (at_heap (new_port r) (new_ports_from a i xs)))
one_atom_once r a i [] = tt
one_atom_once r a i (x ∷ xs) = (
  (λ w. let v = of_map (λ (q : Port × ℕ). q.0) (r.head.images.atom a, i) (at_heap (new_port r) (new_ports_from a (i + 1) xs)) w in
      off (subst (λ z. i + 1 ≤ z) (ap (λ (q : Port). q.1) v.2) (one_atom r a (i + 1) xs v.0 v.1).2)),
  one_atom_once r a (i + 1) xs,
)
  where
    off : i + 1 ≤ i → ⊥
    off h = omega arith

-- a port of an atom that was made
made_port : (s : Heap) (x : ℕ) (f : Functor) → s.atoms x ≡ Some (new_atom f) → (p : Port) → p.0 ≡ x → p.1 < f.arity → (p.1 < arity_of s p.0) × (partners s p ≡ None)
made_port s x f e p q l =
    let at : s.atoms p.0 ≡ Some (new_atom f) = ap s.atoms q ∙ e in (
      subst (λ (o : Option HeapAtom). p.1 < length (partners_of o)) (sym at) (subst (λ k. p.1 < k) (sym (length-replicate f.arity no_port)) l),
      ap (λ (o : Option HeapAtom). slice_index_or (partners_of o) p.1 None) at ∙ no_links f.arity p.1,
    )

made_arity : (s : Heap) (x : ℕ) (f : Functor) → s.atoms x ≡ Some (new_atom f) → arity_of s x ≡ f.arity
made_arity s x f e = ap (λ (o : Option HeapAtom). length (partners_of o)) e ∙ length-replicate f.arity no_port

-- A new port is one of a new atom, and has no partner yet.
abbrev pub IsNewPort : Heap → List ℕ → Port → Type 0
IsNewPort s new p = In p.0 new × (p.1 < arity_of s p.0) × (partners s p ≡ None)

-- What was made in s stands there: written atoms, and copies of parts of h.
abbrev pub Written : Heap → Registers → ℕ → List BodyItem → Type 0
Written s r a body = (e : ℕ × Functor) → IsOneOf e (made_of r a body) → s.atoms e.0 ≡ Some (new_atom e.1)

-- each copy of a body is one of its part
abbrev pub AreCopied : Heap → Heap → Registers → ℕ → List BodyItem → Type 0
AreCopied h s r c body = (e : ℕ × ℕ) → IsOneOf e (copies_of c body) → HasCopy h s (r.head.images.part e.1) (r.copy e.0) (r.copied e.0)

-- each new port of a body is a port of a new atom
pub new_is : (r : Registers) (qs : RestCopies) (a c : ℕ) (body : List BodyItem) → AllMade body → (h s : Heap) → Written s r a body → AreCopied h s r c body → (e : Port × ℕ) → IsOneOf e (at_heap (new_port r) (new_ports a c body)) → IsNewPort s (new_atoms r qs a c body) e.0
new_is r qs a c [] w h s wr cp e i = absurd i
new_is r qs a c (Atom functor ls inside ∷ xs) w h s wr cp e i =
    elim (in_append e (at_heap (new_port r) (new_ports_from a 0 ls)) (at_heap (new_port r) (new_ports (a + 1) c xs)) (subst (IsOneOf e) (heap_append (new_port r) (new_ports_from a 0 ls) (new_ports (a + 1) c xs)) i)) [
      | inl j ↦ (let v = one_atom r a 0 ls e j in
          let u = made_port s (r.head.images.atom a) functor (wr (r.head.images.atom a, functor) (inl refl)) e.0 v.0 (subst (λ n. e.0.1 < n) w.0.0 (plain v.1)) in
          (inl (sym v.0), u.0, u.1))
      | inr j ↦ (let v = new_is r qs (a + 1) c xs w.1 h s (λ x k. wr x (inr k)) cp e j in (inr v.0, v.1, v.2))
    ]
  where
    plain : e.0.1 < 0 + length ls → e.0.1 < length ls
    plain h = omega arith
new_is r qs a c (Bound integer link inside ∷ xs) w h s wr cp e (inl q) =
    let u = made_port s (r.head.images.atom a) (integer_functor (r.head.integer integer)) (wr (r.head.images.atom a, integer_functor (r.head.integer integer)) (inl refl)) e.0 (sym (ap (λ (z : Port × ℕ). z.0.0) q))
    (subst (λ z. z < 1) (ap (λ (z : Port × ℕ). z.0.1) q) (omega arith)) in
    (inl (ap (λ (z : Port × ℕ). z.0.0) q), u.0, u.1)
new_is r qs a c (Bound integer link inside ∷ xs) w h s wr cp e (inr i) = let v = new_is r qs (a + 1) c xs w.1 h s (λ x k. wr x (inr k)) cp e i in (inr v.0, v.1, v.2)
new_is r qs a c (Connector left right ∷ xs) w h s wr cp e i = new_is r qs a c xs w.1 h s wr cp e i
new_is r qs a c (Copy part link inside ∷ xs) w h s wr cp e (inl q) =
    let k = cp (c, part) (inl refl) in
    let same : r.copy c ≡ e.0 = ap (λ (z : Port × ℕ). z.0) q in
    subst (IsNewPort s (r.copied c ++ new_atoms r qs a (c + 1) xs)) same (in_left (r.copy c).0 (r.copied c) (new_atoms r qs a (c + 1) xs) k.ours, k.port, k.free)
new_is r qs a c (Copy part link inside ∷ xs) w h s wr cp e (inr i) =
    let v = new_is r qs a (c + 1) xs w.1 h s wr (λ x k. cp x (inr k)) e i in (in_right e.0.0 (r.copied c) (new_atoms r qs a (c + 1) xs) v.0, v.1, v.2)
new_is r qs a c (Membrane inside ∷ xs) w h s wr cp e i = new_is r qs a c xs w.1 h s wr cp e i
new_is r qs a c (Rest of false inside ∷ xs) w h s wr cp e i = new_is r qs a c xs w.1 h s wr cp e i
new_is r qs a c (Rest of true inside ∷ xs) w h s wr cp e i =
    let v = new_is r (later qs) a c xs w.1 h s wr cp e i in (in_right e.0.0 (qs 0).atoms (new_atoms r (later qs) a c xs) v.0, v.1, v.2)
new_is r qs a c (Rule rule inside ∷ xs) w h s wr cp e i = new_is r qs a c xs w.1 h s wr cp e i
new_is r qs a c (Rules of inside ∷ xs) w h s wr cp e i = new_is r qs a c xs w.1 h s wr cp e i

-- a port of a new atom is a new port, or has a partner at a new atom
abbrev pub NewOrInside : Heap → Registers → RestCopies → ℕ → ℕ → List BodyItem → Port → Type 0
NewOrInside s r qs a c body p = IsOneOf p (ports (at_heap (new_port r) (new_ports a c body))) ⊎ ((q : Port) × In q.0 (new_atoms r qs a c body) × (partners s p ≡ Some q))

-- each port of a new atom is a new port, or stands inside a copy
pub new_all : (r : Registers) (qs : RestCopies) (a c : ℕ) (body : List BodyItem) → AllMade body → (h s : Heap) → Written s r a body → AreCopied h s r c body → HaveRestCopies h s r qs body → (p : Port) → In p.0 (new_atoms r qs a c body) → p.1 < arity_of s p.0 → NewOrInside s r qs a c body p
new_all r qs a c [] w h s wr cp rc p i l = absurd i
new_all r qs a c (Atom functor ls inside ∷ xs) w h s wr cp rc p (inl q) l =
    inl (subst (IsOneOf p) (sym (ap ports (heap_append (new_port r) (new_ports_from a 0 ls) (new_ports (a + 1) c xs)) ∙ ports_append (at_heap (new_port r) (new_ports_from a 0 ls)) (at_heap (new_port r) (new_ports (a + 1) c xs))))
    (in_front p (ports (at_heap (new_port r) (new_ports_from a 0 ls))) (ports (at_heap (new_port r) (new_ports (a + 1) c xs)))
    (subst (λ (z : Port). IsOneOf z (ports (at_heap (new_port r) (new_ports_from a 0 ls)))) (λ t. (q t, p.1))
    (one_atom_all r a 0 p.1 ls (omega arith) (plain p.1 (subst (λ n. p.1 < n) (ap (arity_of s) (sym q) ∙ made_arity s (r.head.images.atom a) functor (wr (r.head.images.atom a, functor) (inl refl)) ∙ sym w.0.0) l))))))
  where
    plain : (k : ℕ) → k < length ls → k < 0 + length ls
    plain k h = omega arith
new_all r qs a c (Atom functor ls inside ∷ xs) w h s wr cp rc p (inr i) l = elim (new_all r qs (a + 1) c xs w.1 h s (λ x k. wr x (inr k)) cp rc p i l) [
  | inl j ↦ inl (subst (IsOneOf p) (sym (ap ports (heap_append (new_port r) (new_ports_from a 0 ls) (new_ports (a + 1) c xs)) ∙ ports_append (at_heap (new_port r) (new_ports_from a 0 ls)) (at_heap (new_port r) (new_ports (a + 1) c xs))))
      (in_back p (ports (at_heap (new_port r) (new_ports_from a 0 ls))) (ports (at_heap (new_port r) (new_ports (a + 1) c xs))) j))
  | inr u ↦ inr (u.0, inr u.1, u.2)
]
new_all r qs a c (Bound integer link inside ∷ xs) w h s wr cp rc p (inl q) l =
    inl (inl (λ t. (q t, zero_port p.1 (subst (λ n. p.1 < n) (ap (arity_of s) (sym q) ∙ made_arity s (r.head.images.atom a) (integer_functor (r.head.integer integer)) (wr (r.head.images.atom a, integer_functor (r.head.integer integer)) (inl refl))) l) t)))
  where
    zero_port : (k : ℕ) → k < 1 → 0 ≡ k
    zero_port k h = omega arith
new_all r qs a c (Bound integer link inside ∷ xs) w h s wr cp rc p (inr i) l = elim (new_all r qs (a + 1) c xs w.1 h s (λ x k. wr x (inr k)) cp rc p i l) [
  | inl j ↦ inl (inr j)
  | inr u ↦ inr (u.0, inr u.1, u.2)
]
new_all r qs a c (Connector left right ∷ xs) w h s wr cp rc p i l = new_all r qs a c xs w.1 h s wr cp rc p i l
new_all r qs a c (Copy part link inside ∷ xs) w h s wr cp rc p i l = elim (in_either p.0 (r.copied c) (new_atoms r qs a (c + 1) xs) i) [
  | inl j ↦ elim (port_cases p (r.copy c)) [
    | inl e ↦ inl (inl (sym e))
    | inr d ↦ (let u = (cp (c, part) (inl refl)).inside p j l d in inr (u.0, in_left u.0.0 (r.copied c) (new_atoms r qs a (c + 1) xs) u.1, u.2))
  ]
  | inr j ↦ elim (new_all r qs a (c + 1) xs w.1 h s wr (λ x k. cp x (inr k)) rc p j l) [
    | inl v ↦ inl (inr v)
    | inr u ↦ inr (u.0, in_right u.0.0 (r.copied c) (new_atoms r qs a (c + 1) xs) u.1, u.2)
  ]
]
new_all r qs a c (Membrane inside ∷ xs) w h s wr cp rc p i l = new_all r qs a c xs w.1 h s wr cp rc p i l
new_all r qs a c (Rest of false inside ∷ xs) w h s wr cp rc p i l = new_all r qs a c xs w.1 h s wr cp rc p i l
new_all r qs a c (Rest of true inside ∷ xs) w h s wr cp rc p i l = elim (in_either p.0 (qs 0).atoms (new_atoms r (later qs) a c xs) i) [
  | inl j ↦ (let u = rc.0.inside p j l in inr (u.0, in_left u.0.0 (qs 0).atoms (new_atoms r (later qs) a c xs) u.1, u.2))
  | inr j ↦ elim (new_all r (later qs) a c xs w.1 h s wr cp rc.1 p j l) [
    | inl v ↦ inl v
    | inr u ↦ inr (u.0, in_right u.0.0 (qs 0).atoms (new_atoms r (later qs) a c xs) u.1, u.2)
  ]
]
new_all r qs a c (Rule rule inside ∷ xs) w h s wr cp rc p i l = new_all r qs a c xs w.1 h s wr cp rc p i l
new_all r qs a c (Rules of inside ∷ xs) w h s wr cp rc p i l = new_all r qs a c xs w.1 h s wr cp rc p i l

-- the numbers of atoms that are listed with their functors
abbrev pub numbers : List (ℕ × Functor) → List ℕ
numbers es = map (λ (e : ℕ × Functor). e.0) es

-- a written atom is a new one
pub written_new : (r : Registers) (qs : RestCopies) (a c : ℕ) (body : List BodyItem) (x : ℕ) (f : Functor) → IsOneOf {A = ℕ × Functor} (x, f) (made_of r a body) → In x (new_atoms r qs a c body)
written_new r qs a c [] x f i = absurd i
written_new r qs a c (Atom functor ls inside ∷ xs) x f (inl e) = inl (ap (λ (q : ℕ × Functor). q.0) e)
written_new r qs a c (Atom functor ls inside ∷ xs) x f (inr i) = inr (written_new r qs (a + 1) c xs x f i)
written_new r qs a c (Bound integer link inside ∷ xs) x f (inl e) = inl (ap (λ (q : ℕ × Functor). q.0) e)
written_new r qs a c (Bound integer link inside ∷ xs) x f (inr i) = inr (written_new r qs (a + 1) c xs x f i)
written_new r qs a c (Connector left right ∷ xs) x f i = written_new r qs a c xs x f i
written_new r qs a c (Copy part link inside ∷ xs) x f i = in_right x (r.copied c) (new_atoms r qs a (c + 1) xs) (written_new r qs a (c + 1) xs x f i)
written_new r qs a c (Membrane inside ∷ xs) x f i = written_new r qs a c xs x f i
written_new r qs a c (Rest of false inside ∷ xs) x f i = written_new r qs a c xs x f i
written_new r qs a c (Rest of true inside ∷ xs) x f i = in_right x (qs 0).atoms (new_atoms r (later qs) a c xs) (written_new r (later qs) a c xs x f i)
written_new r qs a c (Rule rule inside ∷ xs) x f i = written_new r qs a c xs x f i
written_new r qs a c (Rules of inside ∷ xs) x f i = written_new r qs a c xs x f i

-- in a body without copies only what is written is new
pub plain_new : (r : Registers) (qs : RestCopies) (a c : ℕ) (body : List BodyItem) → NoCopies body → new_atoms r qs a c body ≡ numbers (made_of r a body)
plain_new r qs a c [] s = refl
plain_new r qs a c (Atom functor links inside ∷ xs) s = ap (λ ys. r.head.images.atom a ∷ ys) (plain_new r qs (a + 1) c xs s)
plain_new r qs a c (Bound integer link inside ∷ xs) s = ap (λ ys. r.head.images.atom a ∷ ys) (plain_new r qs (a + 1) c xs s)
plain_new r qs a c (Connector left right ∷ xs) s = plain_new r qs a c xs s
plain_new r qs a c (Copy part link inside ∷ xs) s = absurd s
plain_new r qs a c (Membrane inside ∷ xs) s = plain_new r qs a c xs s
plain_new r qs a c (Rest of false inside ∷ xs) s = plain_new r qs a c xs s
plain_new r qs a c (Rest of true inside ∷ xs) s = absurd s
plain_new r qs a c (Rule rule inside ∷ xs) s = plain_new r qs a c xs s
plain_new r qs a c (Rules of inside ∷ xs) s = plain_new r qs a c xs s

-- an atom of a copy is a new one
pub copied_new : (r : Registers) (qs : RestCopies) (a c : ℕ) (body : List BodyItem) (e : ℕ × ℕ) (y : ℕ) → IsOneOf e (copies_of c body) → In y (r.copied e.0) → In y (new_atoms r qs a c body)
copied_new r qs a c [] e y i j = absurd i
copied_new r qs a c (Atom functor ls inside ∷ xs) e y i j = inr (copied_new r qs (a + 1) c xs e y i j)
copied_new r qs a c (Bound integer link inside ∷ xs) e y i j = inr (copied_new r qs (a + 1) c xs e y i j)
copied_new r qs a c (Connector left right ∷ xs) e y i j = copied_new r qs a c xs e y i j
copied_new r qs a c (Copy part link inside ∷ xs) e y (inl q) j = in_left y (r.copied c) (new_atoms r qs a (c + 1) xs) (subst (λ (z : ℕ × ℕ). In y (r.copied z.0)) (sym q) j)
copied_new r qs a c (Copy part link inside ∷ xs) e y (inr i) j = in_right y (r.copied c) (new_atoms r qs a (c + 1) xs) (copied_new r qs a (c + 1) xs e y i j)
copied_new r qs a c (Membrane inside ∷ xs) e y i j = copied_new r qs a c xs e y i j
copied_new r qs a c (Rest of false inside ∷ xs) e y i j = copied_new r qs a c xs e y i j
copied_new r qs a c (Rest of true inside ∷ xs) e y i j = in_right y (qs 0).atoms (new_atoms r (later qs) a c xs) (copied_new r (later qs) a c xs e y i j)
copied_new r qs a c (Rule rule inside ∷ xs) e y i j = copied_new r qs a c xs e y i j
copied_new r qs a c (Rules of inside ∷ xs) e y i j = copied_new r qs a c xs e y i j

-- no new port is named twice
pub new_ports_once : (r : Registers) (qs : RestCopies) (a c : ℕ) (body : List BodyItem) → AllMade body → (h s : Heap) → Written s r a body → AreCopied h s r c body → heap.Distinct (new_atoms r qs a c body) → NoneTwice (ports (at_heap (new_port r) (new_ports a c body)))
new_ports_once r qs a c [] w h s wr cp d = tt
new_ports_once r qs a c (Atom functor ls inside ∷ xs) w h s wr cp d =
    subst NoneTwice (sym (ap ports (heap_append (new_port r) (new_ports_from a 0 ls) (new_ports (a + 1) c xs)) ∙ ports_append (at_heap (new_port r) (new_ports_from a 0 ls)) (at_heap (new_port r) (new_ports (a + 1) c xs))))
    (distinct_append (ports (at_heap (new_port r) (new_ports_from a 0 ls))) (ports (at_heap (new_port r) (new_ports (a + 1) c xs))) (one_atom_once r a 0 ls) (new_ports_once r qs (a + 1) c xs w.1 h s (λ x k. wr x (inr k)) cp d.1)
    (λ p i j.
    let v = of_map (λ (q : Port × ℕ). q.0) p (at_heap (new_port r) (new_ports_from a 0 ls)) i in
    let u = of_map (λ (q : Port × ℕ). q.0) p (at_heap (new_port r) (new_ports (a + 1) c xs)) j in
    let x = new_is r qs (a + 1) c xs w.1 h s (λ x k. wr x (inr k)) cp u.0 u.1 in
    each_in (λ y. r.head.images.atom a ≢ y) (new_atoms r qs (a + 1) c xs) u.0.0.0 d.0 x.0
    (sym (one_atom r a 0 ls v.0 v.1).0 ∙ ap (λ (q : Port). q.0) (v.2 ∙ sym u.2))))
new_ports_once r qs a c (Bound integer link inside ∷ xs) w h s wr cp d = (
  (λ j. let u = of_map (λ (q : Port × ℕ). q.0) (r.head.images.atom a, 0) (at_heap (new_port r) (new_ports (a + 1) c xs)) j in
      let x = new_is r qs (a + 1) c xs w.1 h s (λ x k. wr x (inr k)) cp u.0 u.1 in
      each_in (λ y. r.head.images.atom a ≢ y) (new_atoms r qs (a + 1) c xs) u.0.0.0 d.0 x.0 (sym (ap (λ (q : Port). q.0) u.2))),
  new_ports_once r qs (a + 1) c xs w.1 h s (λ x k. wr x (inr k)) cp d.1,
)
new_ports_once r qs a c (Connector left right ∷ xs) w h s wr cp d = new_ports_once r qs a c xs w.1 h s wr cp d
new_ports_once r qs a c (Copy part link inside ∷ xs) w h s wr cp d = (
  (λ j. let u = of_map (λ (q : Port × ℕ). q.0) (r.copy c) (at_heap (new_port r) (new_ports a (c + 1) xs)) j in
      let x = new_is r qs a (c + 1) xs w.1 h s wr (λ x k. cp x (inr k)) u.0 u.1 in
      apart (r.copied c) (new_atoms r qs a (c + 1) xs) (r.copy c).0 u.0.0.0 d (cp (c, part) (inl refl)).ours x.0 (sym (ap (λ (q : Port). q.0) u.2))),
  new_ports_once r qs a (c + 1) xs w.1 h s wr (λ x k. cp x (inr k)) (distinct_right (r.copied c) (new_atoms r qs a (c + 1) xs) d),
)
new_ports_once r qs a c (Membrane inside ∷ xs) w h s wr cp d = new_ports_once r qs a c xs w.1 h s wr cp d
new_ports_once r qs a c (Rest of false inside ∷ xs) w h s wr cp d = new_ports_once r qs a c xs w.1 h s wr cp d
new_ports_once r qs a c (Rest of true inside ∷ xs) w h s wr cp d = new_ports_once r (later qs) a c xs w.1 h s wr cp (distinct_right (qs 0).atoms (new_atoms r (later qs) a c xs) d)
new_ports_once r qs a c (Rule rule inside ∷ xs) w h s wr cp d = new_ports_once r qs a c xs w.1 h s wr cp d
new_ports_once r qs a c (Rules of inside ∷ xs) w h s wr cp d = new_ports_once r qs a c xs w.1 h s wr cp d

-- Counts of links

one_atom_links : (r : Registers) (a i x : ℕ) (xs : List ℕ) → places x (links (at_heap (new_port r) (new_ports_from a i xs))) ≡ places x xs
one_atom_links r a i x [] = refl
one_atom_links r a i x (y ∷ xs) = ap (λ n. one_if_same x y + n) (one_atom_links r a (i + 1) x xs)

-- a link of a body has as many places in its connectors and ports as in its items
pub body_count : (r : Registers) (a c x : ℕ) (body : List BodyItem) → places x (both_links (connectors body)) + places x (links (at_heap (new_port r) (new_ports a c body))) ≡ places x (body_links body)
body_count r a c x [] = refl
body_count r a c x (Atom functor ls inside ∷ xs) =
    let e = ap (λ zs. places x (links zs)) (heap_append (new_port r) (new_ports_from a 0 ls) (new_ports (a + 1) c xs))
    ∙ ap (places x) (links_append (at_heap (new_port r) (new_ports_from a 0 ls)) (at_heap (new_port r) (new_ports (a + 1) c xs)))
    ∙ often_append x (links (at_heap (new_port r) (new_ports_from a 0 ls))) (links (at_heap (new_port r) (new_ports (a + 1) c xs))) in
    let g = often_append x ls (body_links xs) in
    omega (arith, e, g, one_atom_links r a 0 x ls, body_count r (a + 1) c x xs)
body_count r a c x (Bound integer link inside ∷ xs) = omega (arith, body_count r (a + 1) c x xs)
body_count r a c x (Connector left right ∷ xs) = omega (arith, body_count r a c x xs)
body_count r a c x (Copy part link inside ∷ xs) = omega (arith, body_count r a (c + 1) x xs)
body_count r a c x (Membrane inside ∷ xs) = body_count r a c x xs
body_count r a c x (Rest of closed inside ∷ xs) = body_count r a c x xs
body_count r a c x (Rule rule inside ∷ xs) = body_count r a c x xs
body_count r a c x (Rules of inside ∷ xs) = body_count r a c x xs

-- how often a link stands at places whose links stand once in a list
pub once_count : (r : Registers) (x : ℕ) (xs : List ℕ) (os : List Occurrence) → places x (links (at_heap (old_port r) (once_in xs os))) ≡ cond (times x xs == 1) (places x (map (λ (o : Occurrence). o.link) os)) 0
once_count r x xs [] = by (times x xs == 1)
  where
    by : (t : Bool) → ◌≡◌ {A = ℕ} 0 (cond t 0 0)
    by true = refl
    by false = refl
once_count r x xs (o ∷ os) = elim (cases_eq x o.link) [
  | inl e ↦ subst (λ z. places x (links (at_heap (old_port r) (cond (times z xs == 1) ((port_at o.port.0 o.port.1, o.link) ∷ once_in xs os) (once_in xs os))))
      ≡ cond (times x xs == 1) (one_if_same x o.link + places x (map (λ (o : Occurrence). o.link) os)) 0) e (same (times x xs == 1) (once_count r x xs os))
  | inr d ↦ other (times o.link xs == 1) (times x xs == 1) (one_other x o.link d) (once_count r x xs os)
]
  where
    same : (t : Bool) → places x (links (at_heap (old_port r) (once_in xs os))) ≡ cond t (places x (map (λ (o : Occurrence). o.link) os)) 0
        → places x (links (at_heap (old_port r) (cond t ((port_at o.port.0 o.port.1, o.link) ∷ once_in xs os) (once_in xs os))))
        ≡ cond t (one_if_same x o.link + places x (map (λ (o : Occurrence). o.link) os)) 0
    same true h = ap (λ n. one_if_same x o.link + n) h
    same false h = h

    other : (t u : Bool) → one_if_same x o.link ≡ 0 → places x (links (at_heap (old_port r) (once_in xs os))) ≡ cond u (places x (map (λ (o : Occurrence). o.link) os)) 0
        → places x (links (at_heap (old_port r) (cond t ((port_at o.port.0 o.port.1, o.link) ∷ once_in xs os) (once_in xs os))))
        ≡ cond u (one_if_same x o.link + places x (map (λ (o : Occurrence). o.link) os)) 0
    other true true z h = ap (λ n. one_if_same x o.link + n) h
    other true false z h = omega (arith, z, h)
    other false true z h = omega (arith, z, h)
    other false false z h = h
