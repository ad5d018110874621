-- The ports at which the links of a firing end: those of atoms that stay, new ones, and old ones that the head leaves.
use Rattle.std.proofs.Common.{ℕ, ◌+◌, ◌<◌, ◌≤◌, ◌≡◌, ◌≢◌, ◌⊎◌, ◌==◌, true, false, List, [], ◌∷◌, ◌++◌, map, length, Option, Some, refl, sym, ap, subst, ◌∙◌, inl, inr, arith}
use Rattle.std.proofs.lemmas.Bool.{cases_eq, cases_lt, eq-eqb, eqb-true}
use Rattle.std.specs.Prelude.{slice_get}
use Rattle.lmn_base.specs.Graphs.{Reached, at_root, across, Port}
use Rattle.lmn_base.specs.Lists.{In}
use Rattle.lmn_base.proofs.Common.{port_cases}
use Rattle.lmn_base.proofs.Lists.{get_below, get_there as get_some, in_either}
use Rattle.lmn_store_heap.specs.Heap.{Heap, Distinct, IsInPlace, arity_of}
use Rattle.lmn_store_heap.specs.Graphs.{atom_map}
use Rattle.lmn_store_heap.specs.Sound.{Valid}
use Rattle.lmn_store_heap.proofs.Common.{decide_in}
use Rattle.lmn_store_heap.proofs.ListLemmas.{apart, distinct_right, each_in, in_left, in_right}
use Rattle.lmn_solid_heads.specs.declared.items.HeadItem.{HeadItem}
use Rattle.lmn_solid_heads.specs.Heads as heads
use Rattle.lmn_solid_heads.specs.Heads.{HeadAtom, Occurrence, atoms_of, at_atoms, times, typed_contexts_of}
use Rattle.lmn_solid_heads.specs.Embeddings.{Lies, HasAtom, HasTyped, HasLink}
use Rattle.lmn_solid_heads.proofs.Common.{times_append, times_places as times_often}
use Rattle.lmn_congruence.specs.Links.{places}
use Rattle.lmn_congruence.proofs.TranslatedLinks.{places_append as often_append}
use Rattle.lmn_congruence_splice.specs.Classes.{rising}
use Rattle.lmn_congruence_splice.specs.Splice.{IsOneOf, NoneTwice, TwiceOrNever, both_links, ports, links}
use Rattle.lmn_congruence_splice.proofs.Common.{distinct_append, in_append, ports_append}
use Rattle.lmn_congruence_splice.proofs.EndLemmas.{in_rising}
use Rattle.lmn_congruence_splice.proofs.Joining.{same_some}
use Rattle.lmn_instr_code.specs.declared.instr.AtomPort.{AtomPort}
use Rattle.lmn_instr_code.specs.declared.instr.NewPort.{NewPort}
use Rattle.lmn_solid_bodies.specs.declared.items.BodyItem.{BodyItem}
use Rattle.lmn_solid_bodies.specs.declared.items.BodyItem.TheVariants.{Atom, Connector, Copy, Bound, Membrane, Rest, Rule, Rules}
use Rattle.lmn_solid_bodies.specs.Fired.{images_of}
use Rattle.lmn_solid_bodies.specs.Items.{port_at, new_ports_from, new_ports, old_ports, connectors, body_links}
use Rattle.lmn_solid_bodies.specs.Made.{new_atoms, copies_of}
use Rattle.lmn_solid_bodies.specs.Names.{StandsPort}
use Rattle.lmn_solid_bodies.specs.RestCopies.{RestCopies, later}
use Rattle.lmn_solid_bodies.specs.Rules.{AtomRule, PartAtoms}
use Rattle.lmn_solid_bodies.specs.Running.{Registers, old_port, new_port}
use Rattle.lmn_solid_bodies.specs.Tied.{partners}
use Rattle.lmn_solid_bodies.specs.Within.{dropped_atoms}
use Rattle.lmn_solid_bodies.proofs.BodyPorts.{body_count, heap_append, heap_in, of_heap, once_count}
use Rattle.lmn_solid_bodies.proofs.Coding.{at_heap}
use Rattle.lmn_solid_bodies.proofs.Finishing.{in_place_listed}
use Rattle.lmn_solid_bodies.proofs.Firing.{RestsHold, heap_in_of, of_heap_in, rising_below, typed_some, some_typed, stands_times, olds_once}
use Rattle.lmn_solid_bodies.proofs.HeadPorts.{at_atoms_in, at_atoms_once, in_at_atoms, in_map, of_map, of_once_in, once_in_of, other_port}
use Rattle.lmn_base.proofs.Truth.{total_two}

-- a port of an atom in place that isn't taken nor dropped
abbrev pub Stays : Heap → List ℕ → List ℕ → Port → Type 0
Stays h ts ds x = IsInPlace h x.0 × (x.1 < arity_of h x.0) × (In x.0 ts → ⊥) × (In x.0 ds → ⊥)

-- a new port of a body
abbrev pub IsNew : Registers → List HeadItem → List BodyItem → Port → Type 0
IsNew r head body x = (e : NewPort × ℕ) × IsOneOf e (new_ports (length (atoms_of head)) 0 body) × (new_port r e.0 ≡ x)

-- a port with a raw link
abbrev pub Raw : Heap → Registers → List HeadItem → List BodyItem → List ℕ → Port → Type 0
Raw h r head body ps x = Stays h (images_of r head ++ ps) (dropped_atoms r head) x ⊎ IsNew r head body x

-- ---- new ports

-- the ports of one written atom
one_atom : (r : Registers) (a i : ℕ) (xs : List ℕ) (e : Port × ℕ) → IsOneOf e (at_heap (new_port r) (new_ports_from a i xs)) → (e.0.0 ≡ r.head.images.atom a) × (i ≤ e.0.1)
one_atom r a i [] e w = absurd w
one_atom r a i (x ∷ xs) e (inl h) = (sym (ap (λ (q : Port × ℕ). q.0.0) h), subst (λ z. i ≤ z) (ap (λ (q : Port × ℕ). q.0.1) h) (omega arith))
one_atom r a i (x ∷ xs) e (inr w) = let v = one_atom r a (i + 1) xs e w in (v.0, above v.1)
  where
    above : i + 1 ≤ e.0.1 → i ≤ e.0.1
    above h = omega arith

one_atom_once : (r : Registers) (a i : ℕ) (xs : List ℕ) → NoneTwice (ports (at_heap (new_port r) (new_ports_from a i xs)))
one_atom_once r a i [] = tt
one_atom_once r a i (x ∷ xs) = (
  (λ w. let v = of_map (λ (q : Port × ℕ). q.0) (r.head.images.atom a, i) (at_heap (new_port r) (new_ports_from a (i + 1) xs)) w in
      off (subst (λ z. i + 1 ≤ z) (ap (λ (q : Port). q.1) v.2) (one_atom r a (i + 1) xs v.0 v.1).1)),
  one_atom_once r a (i + 1) xs,
)
  where
    off : i + 1 ≤ i → ⊥
    off h = omega arith

-- the root ports of copies are ports of these
abbrev pub CopiesOwn : Registers → ℕ → List BodyItem → Type 0
CopiesOwn r c body = (e : ℕ × ℕ) → IsOneOf e (copies_of c body) → In (r.copy e.0).0 (r.copied e.0)

-- a new port is one of a new atom
pub new_port_atom : (r : Registers) (qs : RestCopies) (a c : ℕ) (body : List BodyItem) → CopiesOwn r c body → (e : Port × ℕ) → IsOneOf e (at_heap (new_port r) (new_ports a c body)) → In e.0.0 (new_atoms r qs a c body)
new_port_atom r qs a c [] cp e i = absurd i
new_port_atom r qs a c (Atom functor ls inside ∷ xs) cp e i =
    elim (in_append e (at_heap (new_port r) (new_ports_from a 0 ls)) (at_heap (new_port r) (new_ports (a + 1) c xs)) (subst (IsOneOf e) (heap_append (new_port r) (new_ports_from a 0 ls) (new_ports (a + 1) c xs)) i)) [
      | inl j ↦ inl (sym (one_atom r a 0 ls e j).0)
      | inr j ↦ inr (new_port_atom r qs (a + 1) c xs cp e j)
    ]
new_port_atom r qs a c (Bound integer link inside ∷ xs) cp e (inl q) = inl (ap (λ (z : Port × ℕ). z.0.0) q)
new_port_atom r qs a c (Bound integer link inside ∷ xs) cp e (inr i) = inr (new_port_atom r qs (a + 1) c xs cp e i)
new_port_atom r qs a c (Connector left right ∷ xs) cp e i = new_port_atom r qs a c xs cp e i
new_port_atom r qs a c (Copy part link inside ∷ xs) cp e (inl q) =
    in_left e.0.0 (r.copied c) (new_atoms r qs a (c + 1) xs) (subst (λ z. In z (r.copied c)) (ap (λ (z : Port × ℕ). z.0.0) q) (cp (c, part) (inl refl)))
new_port_atom r qs a c (Copy part link inside ∷ xs) cp e (inr i) = in_right e.0.0 (r.copied c) (new_atoms r qs a (c + 1) xs) (new_port_atom r qs a (c + 1) xs (λ x k. cp x (inr k)) e i)
new_port_atom r qs a c (Membrane inside ∷ xs) cp e i = new_port_atom r qs a c xs cp e i
new_port_atom r qs a c (Rest of false inside ∷ xs) cp e i = new_port_atom r qs a c xs cp e i
new_port_atom r qs a c (Rest of true inside ∷ xs) cp e i = in_right e.0.0 (qs 0).atoms (new_atoms r (later qs) a c xs) (new_port_atom r (later qs) a c xs cp e i)
new_port_atom r qs a c (Rule rule inside ∷ xs) cp e i = new_port_atom r qs a c xs cp e i
new_port_atom r qs a c (Rules of inside ∷ xs) cp e i = new_port_atom r qs a c xs cp e i

-- no new port is named twice
pub new_ports_once : (r : Registers) (qs : RestCopies) (a c : ℕ) (body : List BodyItem) → CopiesOwn r c body → Distinct (new_atoms r qs a c body) → NoneTwice (ports (at_heap (new_port r) (new_ports a c body)))
new_ports_once r qs a c [] cp d = tt
new_ports_once r qs a c (Atom functor ls inside ∷ xs) cp d =
    subst NoneTwice (sym (ap ports (heap_append (new_port r) (new_ports_from a 0 ls) (new_ports (a + 1) c xs)) ∙ ports_append (at_heap (new_port r) (new_ports_from a 0 ls)) (at_heap (new_port r) (new_ports (a + 1) c xs))))
    (distinct_append (ports (at_heap (new_port r) (new_ports_from a 0 ls))) (ports (at_heap (new_port r) (new_ports (a + 1) c xs))) (one_atom_once r a 0 ls) (new_ports_once r qs (a + 1) c xs cp d.1)
    (λ p i j.
    let v = of_map (λ (q : Port × ℕ). q.0) p (at_heap (new_port r) (new_ports_from a 0 ls)) i in
    let u = of_map (λ (q : Port × ℕ). q.0) p (at_heap (new_port r) (new_ports (a + 1) c xs)) j in
    each_in (λ y. r.head.images.atom a ≢ y) (new_atoms r qs (a + 1) c xs) u.0.0.0 d.0 (new_port_atom r qs (a + 1) c xs cp u.0 u.1)
    (sym (one_atom r a 0 ls v.0 v.1).0 ∙ ap (λ (q : Port). q.0) (v.2 ∙ sym u.2))))
new_ports_once r qs a c (Bound integer link inside ∷ xs) cp d = (
  (λ j. let u = of_map (λ (q : Port × ℕ). q.0) (r.head.images.atom a, 0) (at_heap (new_port r) (new_ports (a + 1) c xs)) j in
      each_in (λ y. r.head.images.atom a ≢ y) (new_atoms r qs (a + 1) c xs) u.0.0.0 d.0 (new_port_atom r qs (a + 1) c xs cp u.0 u.1) (sym (ap (λ (q : Port). q.0) u.2))),
  new_ports_once r qs (a + 1) c xs cp d.1,
)
new_ports_once r qs a c (Connector left right ∷ xs) cp d = new_ports_once r qs a c xs cp d
new_ports_once r qs a c (Copy part link inside ∷ xs) cp d = (
  (λ j. let u = of_map (λ (q : Port × ℕ). q.0) (r.copy c) (at_heap (new_port r) (new_ports a (c + 1) xs)) j in
      apart (r.copied c) (new_atoms r qs a (c + 1) xs) (r.copy c).0 u.0.0.0 d (cp (c, part) (inl refl)) (new_port_atom r qs a (c + 1) xs (λ x k. cp x (inr k)) u.0 u.1) (sym (ap (λ (q : Port). q.0) u.2))),
  new_ports_once r qs a (c + 1) xs (λ x k. cp x (inr k)) (distinct_right (r.copied c) (new_atoms r qs a (c + 1) xs) d),
)
new_ports_once r qs a c (Membrane inside ∷ xs) cp d = new_ports_once r qs a c xs cp d
new_ports_once r qs a c (Rest of false inside ∷ xs) cp d = new_ports_once r qs a c xs cp d
new_ports_once r qs a c (Rest of true inside ∷ xs) cp d = new_ports_once r (later qs) a c xs cp (distinct_right (qs 0).atoms (new_atoms r (later qs) a c xs) d)
new_ports_once r qs a c (Rule rule inside ∷ xs) cp d = new_ports_once r qs a c xs cp d
new_ports_once r qs a c (Rules of inside ∷ xs) cp d = new_ports_once r qs a c xs cp d

-- ---- old ports

module _ (h : Heap) (valid : Valid h) (head : List HeadItem) (body : List BodyItem) (n m : ℕ) (r : Registers) (rule : AtomRule head body n) (em : Lies h head m r.head.images)
    (ps : List ℕ) (parts : PartAtoms h head r.head.images ps) (ds : List ℕ) (dr : RestsHold h r body (images_of r head ++ ps) ds) where
  abbrev N : ℕ
  N = length (atoms_of head)

  abbrev images : List ℕ
  images = map r.head.images.atom (rising 0 N)

  -- what is taken
  abbrev ns : List ℕ
  ns = map r.head.images.atom (rising 0 N) ++ ps

  abbrev pub news : List (Port × ℕ)
  news = at_heap (new_port r) (new_ports N 0 body)

  abbrev pub olds : List (Port × ℕ)
  olds = at_heap (old_port r) (old_ports head)

  abbrev wires : List (ℕ × ℕ)
  wires = connectors body

  -- a port that stays, or an old one
  abbrev pub Live : Port → Type 0
  Live p = Stays h ns ds p ⊎ IsOneOf p (ports olds)

  image_is : (a : ℕ) → In a images → (k : ℕ) × (k < N) × (r.head.images.atom k ≡ a)
  image_is a i = let w = of_map r.head.images.atom a (rising 0 N) (heap_in_of a images i) in (w.0, plain w.0 (rising_below N 0 w.0 w.1).1, w.2)
    where
      plain : (k : ℕ) → k < 0 + N → k < N
      plain k h = omega arith

  is_taken : (k : ℕ) → k < N → In (r.head.images.atom k) ns
  is_taken k b = in_left (r.head.images.atom k) images ps (of_heap_in (r.head.images.atom k) images (in_map r.head.images.atom k (rising 0 N) (in_rising N 0 k (omega arith) (plain b))))
    where
      plain : k < N → k < 0 + N
      plain h = omega arith

  head_in_place : (k : ℕ) → k < N → IsInPlace h (r.head.images.atom k)
  head_in_place k b = let a = get_some (atoms_of head) k b in in_place_listed h (r.head.images.membrane a.0.inside) (r.head.images.atom k) valid.sound.listed (em.atoms_placed k a.0 a.1)

  -- an atom of a part is no image, and is taken
  part_apart : (a k : ℕ) → In a ps → k < N → r.head.images.atom k ≡ a → ⊥
  part_apart a k i b e = let w = parts.are a i in (em.parts w.0 w.1 w.2).apart a w.3 (k, b, e)

  part_taken : (g : ℕ) (t : heads.HeadTyped) (a : ℕ) → HasTyped head g t → Reached (atom_map h) (r.head.images.part g) a → In a ns
  part_taken g t a w i = in_right a images ps (parts.all g t a w i)

  -- an old port: a head port whose link stands once in the head
  pub record OldPort (p : Port) : Type 0 where
    pub k : ℕ
    pub i : ℕ
    pub link : ℕ
    pub number : k < N
    pub is : ◌≡◌ {A = Port} (r.head.images.atom k, i) p
    pub stands : HasLink head link (k, i)
    pub once : times link (heads.links_of_head head) ≡ 1

  zero_plus : (k : ℕ) → 0 + k ≡ k
  zero_plus k = omega arith

  old_entry : (p : Port) → IsOneOf p (ports olds) → OldPort p
  old_entry p i =
      let v = of_map (λ (e : Port × ℕ). e.0) p olds i in
      let u = of_heap (old_port r) v.0 (old_ports head) v.1 in
      let q = once_in_of (heads.links_of_head head) (at_atoms 0 (atoms_of head)) u.0 u.1 in
      let a = at_atoms_in 0 (atoms_of head) q.0 q.1 in
      let number : q.0.port.0 ≡ a.k = a.number ∙ zero_plus a.k in
      record {
        k = a.k;
        i = q.0.port.1;
        link = q.0.link;
        number = get_below (atoms_of head) a.k a.atom a.is;
        is = ap (λ z. (r.head.images.atom z, q.0.port.1)) (sym number) ∙ ap (λ (e : AtomPort × ℕ). old_port r e.0) q.3 ∙ ap (λ (e : Port × ℕ). e.0) u.2 ∙ v.2;
        stands = (a.atom, a.is, a.link);
        once = q.2;
      }

  -- the register of an old port is one of the head
  pub old_register : (e : AtomPort × ℕ) → IsOneOf e (old_ports head) → e.0.atom < N
  old_register e i =
      let q = once_in_of (heads.links_of_head head) (at_atoms 0 (atoms_of head)) e i in
      let a = at_atoms_in 0 (atoms_of head) q.0 q.1 in
      subst (λ z. z < N) (sym (a.number ∙ zero_plus a.k) ∙ ap (λ (z : AtomPort × ℕ). z.0.atom) q.3) (get_below (atoms_of head) a.k a.atom a.is)

  -- an old port is one of an atom that is taken
  pub old_taken : (p : Port) → IsOneOf p (ports olds) → In p.0 ns
  old_taken p i = let o = old_entry p i in subst (λ z. In z ns) (ap (λ (q : Port). q.0) o.is) (is_taken o.k o.number)

  head_occurrence : (k i x : ℕ) → HasLink head x (k, i) → IsOneOf {A = Occurrence} (record { link = x; port = (k, i) }) (at_atoms 0 (atoms_of head))
  head_occurrence k i x w = subst (λ z. IsOneOf {A = Occurrence} (record { link = x; port = (z, i) }) (at_atoms 0 (atoms_of head))) (zero_plus k) (in_at_atoms 0 (atoms_of head) k i x w.0 w.1 w.2)

  is_old : (k i x : ℕ) → HasLink head x (k, i) → times x (heads.links_of_head head) ≡ 1 → IsOneOf {A = Port} (r.head.images.atom k, i) (ports olds)
  is_old k i x w once = in_map (λ (e : Port × ℕ). e.0) ((r.head.images.atom k, i), x) olds
      (heap_in (old_port r) (port_at k i, x) (old_ports head) (of_once_in (heads.links_of_head head) (at_atoms 0 (atoms_of head)) (record { link = x; port = (k, i) }) (head_occurrence k i x w) once))

  head_below : (o : Occurrence) → IsOneOf o (at_atoms 0 (atoms_of head)) → o.port.0 < N
  head_below o i = let a = at_atoms_in 0 (atoms_of head) o i in subst (λ z. z < N) (sym (a.number ∙ zero_plus a.k)) (get_below (atoms_of head) a.k a.atom a.is)

  -- no old port is named twice
  pub old_ports_once : NoneTwice (ports olds)
  old_ports_once = olds_once r N em.atoms_differ (heads.links_of_head head) (at_atoms 0 (atoms_of head)) (at_atoms_once 0 (atoms_of head)) head_below

  -- ---- links

  abbrev occs : List Occurrence
  occs = at_atoms 0 (atoms_of head)

  abbrev at_links : List ℕ
  at_links = map (λ (o : Occurrence). o.link) occs

  abbrev typed_links : List ℕ
  typed_links = map (λ (t : heads.HeadTyped). t.link) (typed_contexts_of head)

  -- how often a link stands in a head: at atoms, and at typed contexts
  head_times : (x : ℕ) → times x (heads.links_of_head head) ≡ times x at_links + times x typed_links
  head_times x = times_append x at_links typed_links

  at_some : (k i x : ℕ) → HasLink head x (k, i) → 1 ≤ times x at_links
  at_some k i x w = stands_times occs (record { link = x; port = (k, i) }) (head_occurrence k i x w)

  typed_twice : (g : ℕ) (t : heads.HeadTyped) → HasTyped head g t → 2 ≤ times t.link (heads.links_of_head head)
  typed_twice g t w =
      let p = rule.held g t w in
      let a = at_some p.0.0 p.0.1 t.link p.1 in
      let b = some_typed (typed_contexts_of head) g t w in
      let e = head_times t.link in
      omega arith

  once_at : (x : ℕ) → times x (heads.links_of_head head) ≡ 1 → places x at_links ≡ 1
  once_at x e = sym (times_often x at_links) ∙ by (cases_lt (times x typed_links) 1)
    where
      by : (times x typed_links < 1) ⊎ (1 ≤ times x typed_links) → times x at_links ≡ 1
      by (inl l) = let f = head_times x in omega arith
      by (inr l) = let w = typed_some x (typed_contexts_of head) l in let two = typed_twice w.0 w.1 w.2 in absurd (off (times w.1.link (heads.links_of_head head)) two (ap (λ z. times z (heads.links_of_head head)) w.3 ∙ e))
        where
          off : (k : ℕ) → 2 ≤ k → k ≡ 1 → ⊥
          off k h g = omega arith

  -- each link stands twice, or not at all, in connectors, at new ports and at old ones
  pub links_twice : TwiceOrNever (both_links wires ++ (links news ++ links olds))
  links_twice z = total_two _ (places z (both_links wires)) (places z (links news)) (places z (links olds)) (places z (body_links body)) (times z (heads.links_of_head head))
      (places z (map (λ (o : Occurrence). o.link) (at_atoms 0 (atoms_of head)))) (times z (heads.links_of_head head) == 1)
      (often_append z (both_links wires) (links news ++ links olds) ∙ ap (λ k. places z (both_links wires) + k) (often_append z (links news) (links olds)))
      (body_count r N 0 z body) (once_count r z (heads.links_of_head head) (at_atoms 0 (atoms_of head))) (once_at z)
      (eqb-true (times z (heads.links_of_head head)) 1)
      (λ e f. let g : true ≡ false = sym (eq-eqb (times z (heads.links_of_head head)) 1 f) ∙ e in absurd (cc))
      (elim (rule.linked z) [ inl e ↦ inl (ap (λ k. times z (heads.links_of_head head) + k) (sym (times_often z (body_links body))) ∙ e) | inr e ↦ inr (ap (λ k. times z (heads.links_of_head head) + k) (sym (times_often z (body_links body))) ∙ e) ])

  -- ---- partners

  arity_in : (k i : ℕ) → k < N → i < arity_of h (r.head.images.atom k) → (a : HeadAtom) × HasAtom head k a × (i < length a.links)
  arity_in k i b e = let a = get_some (atoms_of head) k b in
      (a.0, a.1, subst (λ z. i < z) (valid.sound.shaped.ports (r.head.images.atom k) a.0.functor (em.functors k a.0 a.1) ∙ sym (rule.head_made k a.0 a.1)) e)

  -- an old port stands in the heap, and each live port does
  pub live_stands : (p : Port) → Live p → StandsPort h p
  live_stands p (inl s) = (s.0, s.1)
  live_stands p (inr i) =
      let o = old_entry p i in
      let a = o.stands in
      subst (StandsPort h) o.is (
        head_in_place o.k o.number,
        subst (λ z. o.i < z) (rule.head_made o.k a.0 a.1 ∙ sym (valid.sound.shaped.ports (r.head.images.atom o.k) a.0.functor (em.functors o.k a.0 a.1))) (get_below a.0.links o.i o.link a.2),
      )

  -- no live port is one of a dropped atom
  drop_never : (q : Port) → In q.0 ds → (p : Port) → Live p → partners h q ≡ Some p → ⊥
  drop_never q i p l e =
      let j = dr.drop_stays q.0 q.1 p.0 p.1 i e in
      elim l [ inl s ↦ s.3 j | inr k ↦ dr.drop_apart p.0 j (old_taken p k) ]

  -- no live port is one of a part
  not_in_part : (g : ℕ) (t : heads.HeadTyped) → HasTyped head g t → (p : Port) → Live p → Reached (atom_map h) (r.head.images.part g) p.0 → ⊥
  not_in_part g t w p l i = elim l [
    | inl s ↦ s.2 (part_taken g t p.0 w i)
    | inr j ↦ (let o = old_entry p j in part_apart p.0 o.k (parts.all g t p.0 w i) o.number (ap (λ (q : Port). q.0) o.is))
  ]

  -- a live port that is an image of a port of the head has a link that stands once in the head
  live_once : (p : Port) → Live p → (k i x : ℕ) → HasLink head x (k, i) → p ≡ (r.head.images.atom k, i) → times x (heads.links_of_head head) ≡ 1
  live_once p l k i x has is_p =
      let below = get_below (atoms_of head) k has.0 has.1 in
      elim l [
        | inl s ↦ absurd (s.2 (subst (λ z. In z ns) (sym (ap (λ (q : Port). q.0) is_p)) (is_taken k below)))
        | inr j ↦ (let o = old_entry p j in
            let image : ◌≡◌ {A = Port} (r.head.images.atom o.k, o.i) (r.head.images.atom k, i) = o.is ∙ is_p in
            let same_k : o.k ≡ k = em.atoms_differ o.k k o.number below (ap (λ (q : Port). q.0) image) in
            let same_i : o.i ≡ i = ap (λ (q : Port). q.1) image in
            let same_atom = one_atom_of o.stands.0 has.0 (sym o.stands.1 ∙ ap (slice_get (atoms_of head)) same_k ∙ has.1) in
            let same_link = one_link o.link x (sym o.stands.2 ∙ (λ t. slice_get (same_atom t).links (same_i t)) ∙ has.2) in
            ap (λ z. times z (heads.links_of_head head)) (sym same_link) ∙ o.once)
      ]
    where
      one_atom_of : (x y : HeadAtom) → ◌≡◌ {A = Option HeadAtom} (Some x) (Some y) → x ≡ y
      one_atom_of x y e = (cc)

      one_link : (x y : ℕ) → ◌≡◌ {A = Option ℕ} (Some x) (Some y) → x ≡ y
      one_link x y e = (cc)

  -- the other end of a port of a part isn't live
  part_never : (q : Port) → In q.0 ps → (p : Port) → Live p → partners h q ≡ Some p → ⊥
  part_never q i p l e =
      let w = parts.are q.0 i in
      elim (port_cases q (r.head.images.part w.0)) [
        | inl root ↦ (let holder = rule.held w.0 w.1 w.2 in
            let back = valid.sound.paired.back (r.head.images.atom holder.0.0) holder.0.1 (r.head.images.part w.0).0 (r.head.images.part w.0).1 ((em.parts w.0 w.1 w.2).held holder.0 holder.1) in
            let is_p : p ≡ (r.head.images.atom holder.0.0, holder.0.1) = same_some p (r.head.images.atom holder.0.0, holder.0.1) (sym e ∙ ap (partners h) root ∙ back) in
            off (typed_twice w.0 w.1 w.2) (live_once p l holder.0.0 holder.0.1 w.1.link holder.1 is_p))
        | inr d ↦ not_in_part w.0 w.1 w.2 p l (across {a = q.0} {i = q.1} {j = p.1} w.3 d e)
      ]
    where
      off : {k : ℕ} → 2 ≤ k → k ≡ 1 → ⊥
      off {k = k} h g = omega arith

  -- a link that stands twice in the head joins two ports of the head, or holds a typed context
  never : (k i x : ℕ) → HasLink head x (k, i) → times x (heads.links_of_head head) ≢ 1 → (p : Port) → Live p → partners h (r.head.images.atom k, i) ≡ Some p → ⊥
  never k i x has more p l e = elim (cases_lt (times x typed_links) 1) [
    | inr typed ↦ (let w = typed_some x (typed_contexts_of head) typed in
        let held = (em.parts w.0 w.1 w.2).held (k, i) (subst (λ z. HasLink head z (k, i)) (sym w.3) has) in
        let is_p : p ≡ r.head.images.part w.0 = same_some p (r.head.images.part w.0) (sym e ∙ held) in
        not_in_part w.0 w.1 w.2 p l (subst (λ (z : Port). Reached (atom_map h) (r.head.images.part w.0) z.0) (sym is_p) at_root))
    | inl none ↦ (let occ = head_occurrence k i x has in
        let some = at_some k i x has in
        let w = other_port occs (at_atoms_once 0 (atoms_of head)) (record { link = x; port = (k, i) }) occ (two (times x (heads.links_of_head head)) (times x at_links) (times x typed_links) (head_times x) none more some) in
        let b = at_atoms_in 0 (atoms_of head) w.0 w.1 in
        let number : w.0.port.0 ≡ b.k = b.number ∙ zero_plus b.k in
        let has' : HasLink head x (b.k, w.0.port.1) = (b.atom, b.is, b.link ∙ ap (λ z. Some z) w.2) in
        let differ : ◌≢◌ {A = Port} (k, i) (b.k, w.0.port.1) = λ g. w.3 ((λ t. (number t, w.0.port.1)) ∙ sym g) in
        let join : ◌≡◌ {A = Option Port} (Some p) (Some (r.head.images.atom b.k, w.0.port.1)) = sym e ∙ em.joined x (k, i) (b.k, w.0.port.1) has has' differ in
        more (live_once p l b.k w.0.port.1 x has' (same_some p (r.head.images.atom b.k, w.0.port.1) join)))
  ]
    where
      two : (u v w : ℕ) → u ≡ v + w → w < 1 → u ≢ 1 → 1 ≤ v → 2 ≤ v
      two u v w e l d h = grind arith

  -- The port at the other end of a live port is live.
  pub other_lives : (p q : Port) → Live p → StandsPort h q → partners h q ≡ Some p → Live q
  other_lives p q l st e = elim (decide_in q.0 ns) [
    | inr o ↦ elim (decide_in q.0 ds) [ inr z ↦ inl (st.0, st.1, o, z) | inl i ↦ absurd (drop_never q i p l e) ]
    | inl i ↦ elim (in_either q.0 images ps i) [
      | inr j ↦ absurd (part_never q j p l e)
      | inl j ↦ (let k = image_is q.0 j in
          let a = arity_in k.0 q.1 k.1 (subst (λ z. q.1 < arity_of h z) (sym k.2) st.1) in
          let x = get_some a.0.links q.1 a.2 in
          let has : HasLink head x.0 (k.0, q.1) = (a.0, a.1, x.1) in
          let is_q : ◌≡◌ {A = Port} (r.head.images.atom k.0, q.1) q = λ t. (k.2 t, q.1) in
          elim (cases_eq (times x.0 (heads.links_of_head head)) 1) [
            | inl once ↦ inr (subst (λ z. IsOneOf z (ports olds)) is_q (is_old k.0 q.1 x.0 has once))
            | inr more ↦ absurd (never k.0 q.1 x.0 has more p l (ap (partners h) is_q ∙ e))
          ])
    ]
  ]
