-- The atoms that two firings of one rule make, side by side: their functors, and the links inside copies.
use Rattle.std.proofs.Common.{◌≡◌, ◌⊎◌, ◌∙◌, ◌+◌, ◌<◌, ℕ, zero, suc, true, false, List, [], ◌∷◌, length, map, Some, refl, sym, ap, subst, inl, inr, arith}
use Rattle.lmn_base.specs.declared.functor.Functor.{Functor}
use Rattle.lmn_base.specs.Graphs.{Port}
use Rattle.lmn_base.specs.Lists.{In}
use Rattle.lmn_base.proofs.Common.{port_cases}
use Rattle.lmn_base.proofs.Lists.{in_either, some_is}
use Rattle.lmn_store_heap.specs.Heap.{Distinct, Heap, arity_of, functor_of, link_of}
use Rattle.lmn_store_heap.specs.Sound.{Valid}
use Rattle.lmn_ground_parts.specs.Copies.{answer}
use Rattle.lmn_ground_parts.specs.Walks.{net, neighbour}
use Rattle.lmn_ground_parts.proofs.AnswerLaws.{answer_onto}
use Rattle.lmn_ground_parts.proofs.WalkLaws.{kept_seen, once}
use Rattle.lmn_instr_code.specs.declared.instr.NewPort.{NewPort}
use Rattle.lmn_instr_code.specs.declared.instr.NewPort.TheVariants as new
use Rattle.lmn_congruence_splice.specs.Splice.{IsOneOf}
use Rattle.lmn_congruence_splice.proofs.Common.{in_append, in_back, in_front}
use Rattle.lmn_solid_bodies.specs.declared.items.BodyItem.{BodyItem}
use Rattle.lmn_solid_bodies.specs.declared.items.BodyItem.TheVariants.{Atom, Bound, Connector, Copy, Membrane, Rest, Rule, Rules}
use Rattle.lmn_solid_bodies.specs.Items.{AllMade, new_ports, new_ports_from, port_at}
use Rattle.lmn_solid_bodies.specs.Made.{copies_of, made_of, new_atoms}
use Rattle.lmn_solid_bodies.specs.RestCopies.{AreCopiesIn, AreRestsCopied, RestCopies, RestCopy, later}
use Rattle.lmn_solid_bodies.specs.Rules.{closed_rests}
use Rattle.lmn_solid_bodies.specs.Running.{Registers, integer_functor, new_port}
use Rattle.lmn_solid_bodies.specs.Within.{IsCopyIn}
use Rattle.lmn_solid_bodies.proofs.AddedLemmas.{long_enough}
use Rattle.lmn_verify_renaming.specs.Renamed.{Renaming, SameButRoom, renamed, renamed_port}
use Rattle.lmn_verify_renaming.proofs.Numbers.{in_there, one_to_one}
use Rattle.lmn_verify_renaming.proofs.Agreeing.{Agree, RestAgrees}
use Rattle.lmn_verify_renaming.proofs.Mapped.{answer_there}
use Rattle.lmn_verify_renaming.proofs.FiringReading.{functor_is, link_kept}
use Rattle.lmn_verify_renaming.proofs.Standing.{port_from}
use Rattle.lmn_verify_renaming.proofs.Walking.{one_part}

-- each port of an atom that is written is one of its new ports
ports_of_written : (a k : ℕ) (ls : List ℕ) (i : ℕ) → i < length ls → (l : ℕ) × IsOneOf {A = NewPort × ℕ} (new.Atom (port_at a (k + i)), l) (new_ports_from a k ls)
ports_of_written a k [] i b = absurd (omega (arith, b))
ports_of_written a k (l ∷ ls) zero b = (let e : k ≡ k + 0 = omega arith in (l, inl (λ t. (new.Atom (port_at a (e t)), l))))
ports_of_written a k (l ∷ ls) (suc i) b =
    let w = ports_of_written a (k + 1) ls i (omega (arith, b)) in
    let e : k + 1 + i ≡ k + suc i = omega arith in
    (w.0, inr (subst (λ z. IsOneOf {A = NewPort × ℕ} (new.Atom (port_at a z), w.0) (new_ports_from a (k + 1) ls)) e w.1))

module _ (p : Renaming) (h k h' k' : Heap) (r s : Registers) where
  abbrev A : ℕ → ℕ
  A = p.atoms.to

  -- a written atom, with its functor, and its twin
  abbrev pub WrittenTwin : List (ℕ × Functor) → List (ℕ × Functor) → List (NewPort × ℕ) → ℕ → Type 0
  WrittenTwin mr ms news y = (j : ℕ) × (f : Functor) × (r.head.images.atom j ≡ y) × IsOneOf {A = ℕ × Functor} (y, f) mr × IsOneOf {A = ℕ × Functor} (A y, f) ms
      × ((i : ℕ) → i < f.arity → (l : ℕ) × IsOneOf {A = NewPort × ℕ} (new.Atom (port_at j i), l) news)

  -- an atom of the copy of a part
  abbrev pub CopiedTwin : List (ℕ × ℕ) → List (NewPort × ℕ) → ℕ → Type 0
  CopiedTwin cs news y = (d : ℕ) × (part : ℕ) × (link : ℕ) × IsOneOf {A = ℕ × ℕ} (d, part) cs × In y (r.copied d) × (s.copied d ≡ map A (r.copied d)) × IsOneOf {A = NewPort × ℕ} (new.Copy d, link) news

  -- an atom of the copy of a rest
  abbrev pub RestTwin : List ℕ → ℕ → Type 0
  RestTwin rs y = (of : ℕ) × (u : RestCopy) × (v : RestCopy) × IsOneOf of rs × In y u.atoms × RestAgrees p r s of u v × AreCopiesIn h h' (r.left_atoms of) u.atoms × AreCopiesIn k k' (s.left_atoms of) v.atoms

  abbrev pub Twin : List (ℕ × Functor) → List (ℕ × Functor) → List (ℕ × ℕ) → List (NewPort × ℕ) → List ℕ → ℕ → Type 0
  Twin mr ms cs news rs y = WrittenTwin mr ms news y ⊎ (CopiedTwin cs news y ⊎ RestTwin rs y)

  twin_on : (mr mr' ms ms' : List (ℕ × Functor)) (cs cs' : List (ℕ × ℕ)) (news news' : List (NewPort × ℕ)) (rs rs' : List ℕ) (y : ℕ)
      → ((e : ℕ × Functor) → IsOneOf e mr → IsOneOf e mr') → ((e : ℕ × Functor) → IsOneOf e ms → IsOneOf e ms') → ((e : ℕ × ℕ) → IsOneOf e cs → IsOneOf e cs')
      → ((e : NewPort × ℕ) → IsOneOf e news → IsOneOf e news') → ((e : ℕ) → IsOneOf e rs → IsOneOf e rs') → Twin mr ms cs news rs y → Twin mr' ms' cs' news' rs' y
  twin_on mr mr' ms ms' cs cs' news news' rs rs' y fr fs fc fn fe (inl (j, f, e, u, v, w)) =
      inl (j, f, e, fr (y, f) u, fs (A y, f) v, λ i b. (let z = w i b in (z.0, fn (new.Atom (port_at j i), z.0) z.1)))
  twin_on mr mr' ms ms' cs cs' news news' rs rs' y fr fs fc fn fe (inr (inl (d, part, link, u, v, e, w))) = inr (inl (d, part, link, fc (d, part) u, v, e, fn (new.Copy d, link) w))
  twin_on mr mr' ms ms' cs cs' news news' rs rs' y fr fs fc fn fe (inr (inr (of, u, v, w, i, ra, x, z))) = inr (inr (of, u, v, fe of w, i, ra, x, z))

  -- each new atom has its twin
  pub twin : (q t : RestCopies) (a c m : ℕ) (body : List BodyItem) → AllMade body → Agree p r s q t a c m body → ((v link inside : ℕ) → IsOneOf (Bound v link inside) body → s.head.integer v ≡ r.head.integer v)
      → AreRestsCopied h h' r q body → AreRestsCopied k k' s t body → (y : ℕ) → In y (new_atoms r q a c body) → Twin (made_of r a body) (made_of s a body) (copies_of c body) (new_ports a c body) (closed_rests body) y
  twin q t a c m [] made w ints xr xs' y i = absurd i
  twin q t a c m (Atom functor links inside ∷ xs) made w ints xr xs' y (inl e) =
      inl (
        a,
        functor,
        e,
        inl (λ z. (e z, functor)),
        inl (λ z. ((w.0 ∙ ap A e) z, functor)),
        λ i b. (let o = ports_of_written a 0 links i (subst (λ n. i < n) (sym made.0.0) b) in
            let plain : 0 + i ≡ i = omega arith in
            (o.0, in_front (new.Atom (port_at a i), o.0) (new_ports_from a 0 links) (new_ports (a + 1) c xs) (subst (λ z. IsOneOf {A = NewPort × ℕ} (new.Atom (port_at a z), o.0) (new_ports_from a 0 links)) plain o.1))),
      )
  twin q t a c m (Atom functor links inside ∷ xs) made w ints xr xs' y (inr j) =
      twin_on (made_of r (a + 1) xs) (made_of r a (Atom functor links inside ∷ xs)) (made_of s (a + 1) xs) (made_of s a (Atom functor links inside ∷ xs)) (copies_of c xs) (copies_of c xs)
      (new_ports (a + 1) c xs) (new_ports a c (Atom functor links inside ∷ xs)) (closed_rests xs) (closed_rests xs) y (λ e l. inr l) (λ e l. inr l) (λ e l. l)
      (λ e l. in_back e (new_ports_from a 0 links) (new_ports (a + 1) c xs) l) (λ e l. l) (twin q t (a + 1) c m xs made.1 w.2 (λ v l b o. ints v l b (inr o)) xr xs' y j)
  twin q t a c m (Bound integer link inside ∷ xs) made w ints xr xs' y (inl e) =
      let same = ints integer link inside (inl refl) in
      inl (
        a,
        integer_functor (r.head.integer integer),
        e,
        inl (λ z. (e z, integer_functor (r.head.integer integer))),
        inl (λ z. ((w.0 ∙ ap A e) z, integer_functor (same z))),
        λ i b. (let zero_port : 0 ≡ i = omega (arith, b) in (link, inl (λ z. (new.Atom (port_at a (zero_port z)), link)))),
      )
  twin q t a c m (Bound integer link inside ∷ xs) made w ints xr xs' y (inr j) =
      twin_on (made_of r (a + 1) xs) (made_of r a (Bound integer link inside ∷ xs)) (made_of s (a + 1) xs) (made_of s a (Bound integer link inside ∷ xs)) (copies_of c xs) (copies_of c xs)
      (new_ports (a + 1) c xs) (new_ports a c (Bound integer link inside ∷ xs)) (closed_rests xs) (closed_rests xs) y (λ e l. inr l) (λ e l. inr l) (λ e l. l)
      (λ e l. inr l) (λ e l. l) (twin q t (a + 1) c m xs made.1 w.2 (λ v l b o. ints v l b (inr o)) xr xs' y j)
  twin q t a c m (Connector l l' ∷ xs) made w ints xr xs' y i = twin q t a c m xs made.1 w (λ v l b o. ints v l b (inr o)) xr xs' y i
  twin q t a c m (Copy part link inside ∷ xs) made w ints xr xs' y i = elim (in_either y (r.copied c) (new_atoms r q a (c + 1) xs) i) [
    | inl j ↦ inr (inl (c, part, link, inl refl, j, w.0, inl refl))
    | inr j ↦ twin_on (made_of r a xs) (made_of r a xs) (made_of s a xs) (made_of s a xs) (copies_of (c + 1) xs) (copies_of c (Copy part link inside ∷ xs))
        (new_ports a (c + 1) xs) (new_ports a c (Copy part link inside ∷ xs)) (closed_rests xs) (closed_rests xs) y (λ e l. l) (λ e l. l) (λ e l. inr l) (λ e l. inr l) (λ e l. l)
        (twin q t a (c + 1) m xs made.1 w.2 (λ v l b o. ints v l b (inr o)) xr xs' y j)
  ]
  twin q t a c m (Membrane inside ∷ xs) made w ints xr xs' y i = twin q t a c (m + 1) xs made.1 w.2 (λ v l b o. ints v l b (inr o)) xr xs' y i
  twin q t a c m (Rest of false inside ∷ xs) made w ints xr xs' y i = twin q t a c m xs made.1 w.2 (λ v l b o. ints v l b (inr o)) xr xs' y i
  twin q t a c m (Rest of true inside ∷ xs) made w ints xr xs' y i = elim (in_either y (q 0).atoms (new_atoms r (later q) a c xs) i) [
    | inl j ↦ inr (inr (of, q 0, t 0, inl refl, j, w.2, xr.0, xs'.0))
    | inr j ↦ twin_on (made_of r a xs) (made_of r a xs) (made_of s a xs) (made_of s a xs) (copies_of c xs) (copies_of c xs)
        (new_ports a c xs) (new_ports a c xs) (closed_rests xs) (of ∷ closed_rests xs) y (λ e l. l) (λ e l. l) (λ e l. l) (λ e l. l) (λ e l. inr l)
        (twin (later q) (later t) a c m xs made.1 w.3 (λ v l b o. ints v l b (inr o)) xr.1 xs'.1 y j)
  ]
  twin q t a c m (Rule rule inside ∷ xs) made w ints xr xs' y i = twin q t a c m xs made.1 w.1 (λ v l b o. ints v l b (inr o)) xr xs' y i
  twin q t a c m (Rules of inside ∷ xs) made w ints xr xs' y i = twin q t a c m xs made.1 w.2 (λ v l b o. ints v l b (inr o)) xr xs' y i

  -- a new port has its twin
  abbrev pub NewThere : NewPort → Type 0
  NewThere e = new_port s e ≡ renamed_port A (new_port r e)

  -- new ports, where root ports of copies have their twins
  pub ports_there : (q t : RestCopies) (a c m : ℕ) (body : List BodyItem) → Agree p r s q t a c m body → ((e : ℕ × ℕ) → IsOneOf e (copies_of c body) → s.copy e.0 ≡ renamed_port A (r.copy e.0))
      → (e : NewPort × ℕ) → IsOneOf e (new_ports a c body) → NewThere e.0
  ports_there q t a c m [] w copies e i = absurd i
  ports_there q t a c m (Atom functor links inside ∷ xs) w copies e i = elim (in_append e (new_ports_from a 0 links) (new_ports (a + 1) c xs) i) [
    | inl j ↦ (let v = port_from a 0 links e j in subst NewThere (sym v.1) (λ z. (w.0 z, v.0)))
    | inr j ↦ ports_there q t (a + 1) c m xs w.2 copies e j
  ]
  ports_there q t a c m (Bound integer link inside ∷ xs) w copies e (inl u) = subst NewThere (ap (λ (z : NewPort × ℕ). z.0) u) (λ z. (w.0 z, 0))
  ports_there q t a c m (Bound integer link inside ∷ xs) w copies e (inr j) = ports_there q t (a + 1) c m xs w.2 copies e j
  ports_there q t a c m (Connector l l' ∷ xs) w copies e i = ports_there q t a c m xs w copies e i
  ports_there q t a c m (Copy part link inside ∷ xs) w copies e (inl u) = subst NewThere (ap (λ (z : NewPort × ℕ). z.0) u) (copies (c, part) (inl refl))
  ports_there q t a c m (Copy part link inside ∷ xs) w copies e (inr j) = ports_there q t a (c + 1) m xs w.2 (λ x l. copies x (inr l)) e j
  ports_there q t a c m (Membrane inside ∷ xs) w copies e i = ports_there q t a c (m + 1) xs w.2 copies e i
  ports_there q t a c m (Rest of false inside ∷ xs) w copies e i = ports_there q t a c m xs w.2 copies e i
  ports_there q t a c m (Rest of true inside ∷ xs) w copies e i = ports_there (later q) (later t) a c m xs w.3 copies e i
  ports_there q t a c m (Rule rule inside ∷ xs) w copies e i = ports_there q t a c m xs w.1 copies e i
  ports_there q t a c m (Rules of inside ∷ xs) w copies e i = ports_there q t a c m xs w.2 copies e i

-- ---- copies

module _ (p : Renaming) (h k : Heap) (alike : SameButRoom (renamed p h) k) (valid : Valid h) (h' k' : Heap) where
  abbrev P : ℕ → ℕ
  P = p.atoms.to

  -- an atom and its twin have one functor
  abbrev pub SameFunctor : ℕ → Type 0
  SameFunctor y = functor_of k' (P y) ≡ functor_of h' y

  -- a port whose link is taken to that of its twin
  abbrev pub Inner : ℕ → ℕ → Type 0
  Inner y i = (b : ℕ) × (j : ℕ) × (link_of h' y i ≡ Some (b, j)) × (link_of k' (P y) i ≡ Some (P b, j))

  -- The copy of a part.
  module _ (root copy copy' : Port) (ys ys' : List ℕ) (u : IsCopyIn h h' root copy ys) (v : IsCopyIn k k' (renamed_port P root) copy' ys') (same : ys' ≡ map P ys) where
    atoms_there : v.atoms ≡ map P u.atoms
    atoms_there = one_part p h k alike root u.atoms v.atoms u.part v.part

    answered : (a : ℕ) → In a u.atoms → answer v.atoms ys' (P a) ≡ P (answer u.atoms ys a)
    answered a i = (λ z. answer (atoms_there z) (same z) (P a)) ∙ answer_there p.atoms P u.atoms ys a (long_enough u.long) i

    first : In root.0 u.atoms
    first = kept_seen (arity_of h) (neighbour (net h) root (λ _. true)) u.part root.0 (inl refl)

    pub copy_there : copy' ≡ renamed_port P copy
    copy_there = v.entered ∙ (λ z. (answered root.0 first z, root.1)) ∙ ap (renamed_port P) (sym u.entered)

    part_once : Distinct u.atoms
    part_once = once (arity_of h) (neighbour (net h) root (λ _. true)) u.part (tt, tt)

    pub copy_functor : (y : ℕ) → In y ys → SameFunctor y
    copy_functor y i =
        let w = answer_onto u.atoms ys y (sym u.long) part_once i in
        let there : In (P w.0) v.atoms = subst (In (P w.0)) (sym atoms_there) (in_there p.atoms w.0 u.atoms w.1) in
        ap (λ z. functor_of k' (P z)) (sym w.2) ∙ ap (functor_of k') (sym (answered w.0 w.1)) ∙ v.functors (P w.0) there ∙ functor_is p h k alike w.0 ∙ sym (u.functors w.0 w.1) ∙ ap (functor_of h') w.2

    -- a port of the copy is its root port, or inside
    pub copy_port : (y : ℕ) → In y ys → (i : ℕ) → ((a : ℕ) → functor_of h' y ≡ functor_of h a → i < arity_of h a) → (◌≡◌ {A = Port} (y, i) copy) ⊎ Inner y i
    copy_port y c i below =
        let w = answer_onto u.atoms ys y (sym u.long) part_once c in
        let a = w.0 in
        let there : In (P a) v.atoms = subst (In (P a)) (sym atoms_there) (in_there p.atoms a u.atoms w.1) in
        elim (port_cases (a, i) root) [
          | inl e ↦ inl ((λ z. (sym w.2 z, i)) ∙ (λ z. (answer u.atoms ys (e z).0, (e z).1)) ∙ sym u.entered)
          | inr d ↦ (
              let full = some_is (link_of h a i) (valid.full a i (below a (ap (functor_of h') (sym w.2) ∙ u.functors a w.1))) in
              let q = full.0 in
              let one = u.inner a i q.0 q.1 w.1 d full.1 in
              let two = v.inner (P a) i (P q.0) q.1 there (λ e. d (λ z. (one_to_one p.atoms a root.0 (ap (λ (x : Port). x.0) e) z, (e z).1))) (link_kept p h k alike a i q.0 q.1 full.1) in
              inr (
                answer u.atoms ys q.0,
                q.1,
                ap (λ z. link_of h' z i) (sym w.2) ∙ one.1,
                ap (λ z. link_of k' (P z) i) (sym w.2) ∙ ap (λ z. link_of k' z i) (sym (answered a w.1)) ∙ two.1 ∙ (λ z. Some (answered q.0 one.0 z, q.1)),
              ))
        ]

  -- The copy of a rest.
  module _ (xs ys ys' : List ℕ) (u : AreCopiesIn h h' xs ys) (v : AreCopiesIn k k' (map P xs) ys') (same : ys' ≡ map P ys) (xs_once : Distinct xs) where
    rest_answered : (a : ℕ) → In a xs → answer (map P xs) ys' (P a) ≡ P (answer xs ys a)
    rest_answered a i = ap (λ zs. answer (map P xs) zs (P a)) same ∙ answer_there p.atoms P xs ys a (long_enough u.long) i

    pub rest_functor : (y : ℕ) → In y ys → SameFunctor y
    rest_functor y i =
        let w = answer_onto xs ys y (sym u.long) xs_once i in
        ap (λ z. functor_of k' (P z)) (sym w.2) ∙ ap (functor_of k') (sym (rest_answered w.0 w.1)) ∙ v.functors (P w.0) (in_there p.atoms w.0 xs w.1) ∙ functor_is p h k alike w.0 ∙ sym (u.functors w.0 w.1) ∙ ap (functor_of h') w.2

    pub rest_port : (y : ℕ) → In y ys → (i : ℕ) → ((a : ℕ) → functor_of h' y ≡ functor_of h a → i < arity_of h a) → Inner y i
    rest_port y c i below =
        let w = answer_onto xs ys y (sym u.long) xs_once c in
        let a = w.0 in
        let full = some_is (link_of h a i) (valid.full a i (below a (ap (functor_of h') (sym w.2) ∙ u.functors a w.1))) in
        let q = full.0 in
        let one = u.inner a i q.0 q.1 w.1 full.1 in
        let two = v.inner (P a) i (P q.0) q.1 (in_there p.atoms a xs w.1) (link_kept p h k alike a i q.0 q.1 full.1) in (
          answer xs ys q.0,
          q.1,
          ap (λ z. link_of h' z i) (sym w.2) ∙ one.1,
          ap (λ z. link_of k' (P z) i) (sym w.2) ∙ ap (λ z. link_of k' z i) (sym (rest_answered a w.1)) ∙ two.1 ∙ (λ z. Some (rest_answered q.0 one.0 z, q.1)),
        )
