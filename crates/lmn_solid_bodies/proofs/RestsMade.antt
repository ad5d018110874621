-- Copies of rests that are made and wait.
use Rattle.std.proofs.Common.{ℕ, true, false, ◌<◌, ◌≡◌, List, [], ◌∷◌, ◌++◌, length, Option, Some, None, IsSome, refl, sym, ap, subst, ◌∙◌, inl, arith}
use Rattle.std.proofs.lemmas.List.{length-replicate}
use Rattle.std.specs.Option.{option_map}
use Rattle.std.specs.Prelude.{slice_index_or}
use Rattle.lmn_base.specs.declared.functor.Functor.{Functor}
use Rattle.lmn_store_heap.specs.Heap.{Heap, HeapAtom, IsAtom, Distinct, waiting, new_atom, arity_of, functor_of, link_of, place_of, partners_of, made_mem, reserved}
use Rattle.lmn_store_heap.specs.Sound.{Paired, Shaped}
use Rattle.lmn_store_heap.specs.Splice.{joined_to}
use Rattle.lmn_store_heap.proofs.Replacing.{port_within}
use Rattle.lmn_store_heap.proofs.Shapes.{WellShaped, shaped_of, shaped_at, joined_shape}
use Rattle.lmn_store_heap.proofs.Common.{no_links, no_port, arity_linked}
use Rattle.lmn_ground_parts.specs.Walks.{HasPort}
use Rattle.lmn_ground_parts.specs.Copies.{AllAtoms, answer, made_like, moved, ports_of}
use Rattle.lmn_ground_parts.specs.Rests.{NoneLeaves, RestCopied, joined_as, all_joined_as, made_roomy}
use Rattle.lmn_ground_parts.proofs.AnswerLaws.{answer_in, answer_onto}
use Rattle.lmn_solid_bodies.specs.declared.items.BodyItem.{BodyItem}
use Rattle.lmn_solid_bodies.specs.declared.items.BodyItem.TheVariants.{Atom, Connector, Copy, Bound, Membrane, Rest, Rule, Rules}
use Rattle.lmn_solid_bodies.specs.Running.{Registers}
use Rattle.lmn_solid_bodies.specs.RestCopies.{RestCopies, later, AreCopiesIn}
use Rattle.lmn_solid_bodies.specs.Tied.{partners}
use Rattle.lmn_solid_bodies.proofs.Brought.{Brings, Old, brought_old, link_at, made_shapes}
use Rattle.lmn_solid_bodies.proofs.RestJoins.{Copying, all_view, all_copying, all_away, all_joins, ports_in, made_line, functor_linked, place_linked}
use Rattle.lmn_base.specs.Graphs.{Port}
use Rattle.lmn_base.specs.Lists.{In}
use Rattle.lmn_ground_parts.proofs.Common.{made_at, made_away, port_in as port_of}

-- Some atoms of h have copies in s. Each port of a copy has its partner among the copies.
pub record HasRestCopy (h s : Heap) (atoms copies : List ℕ) : Type 0 where
  pub is : AreCopiesIn h s atoms copies
  pub there : (y : ℕ) → In y copies → IsAtom s y
  pub from : (y : ℕ) → In y copies → (a : ℕ) × In a atoms × (functor_of s y ≡ functor_of h a)
  pub inside : (p : Port) → In p.0 copies → p.1 < arity_of s p.0 → (q : Port) × In q.0 copies × (partners s p ≡ Some q)

-- each copy of a rest that a body makes is one
abbrev pub HaveRestCopies : Heap → Heap → Registers → RestCopies → List BodyItem → Type 0
HaveRestCopies h s r q [] = Unit {0}
HaveRestCopies h s r q (Atom functor links inside ∷ xs) = HaveRestCopies h s r q xs
HaveRestCopies h s r q (Connector left right ∷ xs) = HaveRestCopies h s r q xs
HaveRestCopies h s r q (Copy part link inside ∷ xs) = HaveRestCopies h s r q xs
HaveRestCopies h s r q (Bound integer link inside ∷ xs) = HaveRestCopies h s r q xs
HaveRestCopies h s r q (Membrane inside ∷ xs) = HaveRestCopies h s r q xs
HaveRestCopies h s r q (Rest of false inside ∷ xs) = HaveRestCopies h s r q xs
HaveRestCopies h s r q (Rest of true inside ∷ xs) = HasRestCopy h s (r.left_atoms of) (q 0).atoms × HaveRestCopies h s r (later q) xs
HaveRestCopies h s r q (Rule rule inside ∷ xs) = HaveRestCopies h s r q xs
HaveRestCopies h s r q (Rules of inside ∷ xs) = HaveRestCopies h s r q xs

-- a copy stays when more is made
pub has_rest_on : {t u : Heap} {new : List ℕ} (h : Heap) (xs ys : List ℕ) → Brings t u new → HasRestCopy h t xs ys → HasRestCopy h u xs ys
has_rest_on {t = t} {u = u} h xs ys b k =
    let same : (y : ℕ) → In y ys → u.atoms y ≡ t.atoms y = λ y i. (brought_old b y (k.there y i)).1 in
    let at : (a : ℕ) → In a xs → In (answer xs ys a) ys = λ a i. answer_in xs ys a (omega (arith, k.is.long)) i in
    record {
      is = record {
        long = k.is.long;
        functors = λ a i. ap (option_map (λ (x : HeapAtom). x.functor)) (same (answer xs ys a) (at a i)) ∙ k.is.functors a i;
        inner = λ a i c j ia e. let w = k.is.inner a i c j ia e in (w.0, ap (λ q. link_at q i) (same (answer xs ys a) (at a ia)) ∙ w.1);
      };
      there = λ y i. subst (λ (o : Option HeapAtom). IsSome o) (sym (same y i)) (k.there y i);
      from = λ y i. let w = k.from y i in (w.0, w.1, ap (option_map (λ (x : HeapAtom). x.functor)) (same y i) ∙ w.2);
      inside = λ p i l. let w = k.inside p i (subst (λ (o : Option HeapAtom). p.1 < length (partners_of o)) (same p.0 i) l) in (w.0, w.1, ap (λ q. link_at q p.1) (same p.0 i) ∙ w.2);
    }

-- and so do all
pub have_rests_on : {t u : Heap} {new : List ℕ} (h : Heap) (r : Registers) (q : RestCopies) (body : List BodyItem) → Brings t u new → HaveRestCopies h t r q body → HaveRestCopies h u r q body
have_rests_on h r q [] b w = tt
have_rests_on h r q (Atom functor links inside ∷ xs) b w = have_rests_on h r q xs b w
have_rests_on h r q (Connector left right ∷ xs) b w = have_rests_on h r q xs b w
have_rests_on h r q (Copy part link inside ∷ xs) b w = have_rests_on h r q xs b w
have_rests_on h r q (Bound integer link inside ∷ xs) b w = have_rests_on h r q xs b w
have_rests_on h r q (Membrane inside ∷ xs) b w = have_rests_on h r q xs b w
have_rests_on h r q (Rest of false inside ∷ xs) b w = have_rests_on h r q xs b w
have_rests_on h r q (Rest of true inside ∷ xs) b w = (has_rest_on h (r.left_atoms of) (q 0).atoms b w.0, have_rests_on h r (later q) xs b w.1)
have_rests_on h r q (Rule rule inside ∷ xs) b w = have_rests_on h r q xs b w
have_rests_on h r q (Rules of inside ∷ xs) b w = have_rests_on h r q xs b w

-- Atoms of a heap that no link leaves: each of their ports has a partner.
pub record IsClosed (h : Heap) (xs : List ℕ) : Type 0 where
  pub there : AllAtoms h xs
  pub once : Distinct xs
  pub stays : NoneLeaves h xs
  pub full : (a i : ℕ) → In a xs → i < arity_of h a → IsSome (link_of h a i)

-- A copy of a rest is made

-- making membranes makes no atom
pub roomy_atoms : (s : Heap) (rooms : List (ℕ × ℕ)) → ((made_roomy s rooms).atoms ≡ s.atoms) × ((made_roomy s rooms).new_atoms ≡ s.new_atoms) × ((made_roomy s rooms).root ≡ s.root)
roomy_atoms s [] = (refl, refl, refl)
roomy_atoms s (e ∷ es) = roomy_atoms (reserved (made_mem s e.0) e.0 e.1) es

-- joining changes no line
pub joined_lines : (f : ℕ → ℕ) (s : Heap) (ps : List (ℕ × ℕ)) → ((all_joined_as f s ps).new_atoms ≡ s.new_atoms) × ((all_joined_as f s ps).mems ≡ s.mems) × ((all_joined_as f s ps).new_mems ≡ s.new_mems) × ((all_joined_as f s ps).root ≡ s.root)
joined_lines f s [] = (refl, refl, refl, refl)
joined_lines f s (p ∷ ps) = let w = joined_lines f (joined_as f s p) ps in let v = one (option_map (moved f) (link_of s p.0 p.1)) in (w.0 ∙ v.0, w.1 ∙ v.1, w.2 ∙ v.2, w.3 ∙ v.3)
  where
    one : (o : Option (ℕ × ℕ)) → ((joined_to s (f p.0) p.1 o).new_atoms ≡ s.new_atoms) × ((joined_to s (f p.0) p.1 o).mems ≡ s.mems) × ((joined_to s (f p.0) p.1 o).new_mems ≡ s.new_mems) × ((joined_to s (f p.0) p.1 o).root ≡ s.root)
    one None = (refl, refl, refl, refl)
    one (Some q) = (refl, refl, refl, refl)

joined_shapes : (f : ℕ → ℕ) (ps : List Port) (s : Heap) → ((c : ℕ) → WellShaped (s.atoms c)) → (c : ℕ) → WellShaped ((all_joined_as f s ps).atoms c)
joined_shapes f [] s w = w
joined_shapes f (p ∷ ps) s w = joined_shapes f ps (joined_as f s p) (one (option_map (moved f) (link_of s p.0 p.1)))
  where
    one : (o : Option Port) → (c : ℕ) → WellShaped ((joined_to s (f p.0) p.1 o).atoms c)
    one None = w
    one (Some q) = joined_shape s (f p.0) p.1 q.0 q.1 w

module _ (s t : Heap) (xs ms ys : List ℕ) (rooms : List (ℕ × ℕ)) (c : RestCopied s t xs ms ys rooms) (paired : Paired s) (shaped : Shaped s) (there : AllAtoms s xs) (once : Distinct xs) (stays : NoneLeaves s xs) where
  abbrev s1 : Heap
  s1 = made_roomy s rooms

  abbrev u : Heap
  u = made_like s1 xs ys

  abbrev f : ℕ → ℕ
  f = answer xs ys

  same_s1 : (a : ℕ) → s1.atoms a ≡ s.atoms a
  same_s1 a = ap (λ (g : ℕ → Option HeapAtom). g a) (roomy_atoms s rooms).0

  there1 : AllAtoms s1 xs
  there1 x i = subst (λ (o : Option HeapAtom). IsSome o) (sym (same_s1 x)) (there x i)

  new1 : Distinct ys × ((y : ℕ) → In y ys → s1.atoms y ≡ None)
  new1 = (c.new_atoms.0, λ y i. same_s1 y ∙ c.new_atoms.1 y i)

  not_new : (x : ℕ) → In x xs → In x ys → ⊥
  not_new x i j = let z : IsSome {T = HeapAtom} None = subst (λ (o : Option HeapAtom). IsSome o) (c.new_atoms.1 x j) (there x i) in absurd (cc)

  old_u : (a : ℕ) → (In a ys → ⊥) → u.atoms a ≡ s.atoms a
  old_u a o = made_away s1 xs ys a o ∙ same_s1 a

  -- a copy is a new atom with the functor of its original
  new_u : (a : ℕ) → In a xs → u.atoms (f a) ≡ option_map new_atom (functor_of s a)
  new_u a i = made_at s1 xs ys a there1 new1 once c.long i ∙ ap (λ (o : Option HeapAtom). option_map new_atom (option_map (λ (x : HeapAtom). x.functor) o)) (same_s1 a)

  functor_there : (a : ℕ) → In a xs → (g : Functor) × (functor_of s a ≡ Some g)
  functor_there a i = by (s.atoms a) (there a i)
    where
      by : (o : Option HeapAtom) → IsSome o → (g : Functor) × (option_map (λ (h : HeapAtom). h.functor) o ≡ Some g)
      by None i = absurd (cc)
      by (Some h) i = (h.functor, refl)

  origin : (y : ℕ) → In y ys → (a : ℕ) × In a xs × (f a ≡ y)
  origin y i = answer_onto xs ys y (sym c.long) once i

  new_at : (y : ℕ) → In y ys → (g : Functor) × (u.atoms y ≡ Some (new_atom g))
  new_at y i = let w = origin y i in let g = functor_there w.0 w.1 in (g.0, ap u.atoms (sym w.2) ∙ new_u w.0 w.1 ∙ ap (option_map new_atom) g.1)

  link_new : (y i : ℕ) → In y ys → link_of u y i ≡ None
  link_new y i k = let g = new_at y k in ap (λ (o : Option HeapAtom). slice_index_or (partners_of o) i None) g.1 ∙ no_links g.0.arity i

  link_old : (a i : ℕ) → (In a ys → ⊥) → link_of u a i ≡ link_of s a i
  link_old a i o = ap (λ q. link_at q i) (old_u a o)

  was_old : (a i b j : ℕ) → link_of u a i ≡ Some (b, j) → In a ys → ⊥
  was_old a i b j e k = let z : ◌≡◌ {A = Option Port} None (Some (b, j)) = sym (link_new a i k) ∙ e in absurd (cc)

  end_old : (b j a i : ℕ) → link_of s b j ≡ Some (a, i) → In b ys → ⊥
  end_old b j a i e k = let z : ◌≡◌ {A = Option Port} None (Some (a, i)) = sym (ap (λ q. link_at q j) (c.new_atoms.1 b k)) ∙ e in absurd (cc)

  paired_u : Paired u
  paired_u = record {
    back = λ a i b j e. (
        let old : link_of s a i ≡ Some (b, j) = sym (link_old a i (was_old a i b j e)) ∙ e in
        let back = paired.back a i b j old in
        link_old b j (end_old b j a i back) ∙ back);
    apart = λ a i e. paired.apart a i (sym (link_old a i (was_old a i a i e)) ∙ e);
  }

  arity_new : (a : ℕ) → In a xs → arity_of u (f a) ≡ arity_of s a
  arity_new a i = let g = functor_there a i in
      ap (λ (o : Option HeapAtom). length (partners_of o)) (new_u a i ∙ ap (option_map new_atom) g.1) ∙ length-replicate g.0.arity no_port ∙ sym (shaped.ports a g.0 g.1)

  copying_u : Copying u xs ys
  copying_u = record {
    paired = paired_u;
    once = once;
    copies_once = c.new_atoms.0;
    long = c.long;
    apart = not_new;
    arities = λ a i. arity_new a i ∙ sym (ap (λ (o : Option HeapAtom). length (partners_of o)) (old_u a (not_new a i)));
    closed = λ a i b j k e. stays a i b j k (sym (link_old a i (not_new a k)) ∙ e);
    joined = λ a i k. inl (link_new (f a) i (answer_in xs ys a (omega (arith, c.long)) k));
    alone = λ y i b j k e. let z : ◌≡◌ {A = Option Port} None (Some (b, j)) = sym (link_new y i k) ∙ e in absurd (cc);
  }

  within_xs : (p : Port) → HasPort p (ports_of u xs) → In p.0 xs
  within_xs p k = ports_in u xs xs (λ a i. i) p k

  copying_t : Copying t xs ys
  copying_t = subst (λ (z : Heap). Copying z xs ys) (sym c.is) (all_copying xs ys u (ports_of u xs) copying_u within_xs)

  away_t : (a : ℕ) → (In a ys → ⊥) → t.atoms a ≡ s.atoms a
  away_t a o = ap (λ (z : Heap). z.atoms a) c.is ∙ all_away xs ys u (ports_of u xs) copying_u within_xs a o ∙ old_u a o

  -- Its atoms wait, and else nothing has changed.
  pub brings_rest : Brings s t ys
  brings_rest = record {
    others = away_t;
    fresh = c.new_atoms.1;
    waits = λ y i. let g = new_at y i in
        ap (λ (z : Heap). place_of z y) c.is ∙ all_view (option_map (λ (x : HeapAtom). x.place)) place_linked f u (ports_of u xs) y ∙ ap (option_map (λ (x : HeapAtom). x.place)) g.1;
    once = c.new_atoms.0;
    line = ap (λ (z : Heap). z.new_atoms) c.is ∙ (joined_lines f u (ports_of u xs)).0 ∙ made_line s1 xs ys there1 new1 c.long ∙ ap (λ zs. zs ++ ys) (roomy_atoms s rooms).1;
    paired = λ p. copying_t.paired;
    shaped = λ p. subst Shaped (sym c.is) (shaped_of (all_joined_as f u (ports_of u xs)) (joined_shapes f (ports_of u xs) u (made_shapes xs ys s1 (λ a. subst WellShaped (sym (same_s1 a)) (shaped_at s p a)))));
  }

  module _ (h : Heap) (closed : IsClosed h xs) (old : Old h s) where
    link_h : (a i : ℕ) → In a xs → link_of s a i ≡ link_of h a i
    link_h a i k = ap (λ q. link_at q i) (old a (closed.there a k))

    functor_copy : (a : ℕ) → In a xs → functor_of t (f a) ≡ functor_of h a
    functor_copy a i =
        let g = functor_there a i in
        ap (λ (z : Heap). functor_of z (f a)) c.is ∙ all_view (option_map (λ (x : HeapAtom). x.functor)) functor_linked f u (ports_of u xs) (f a)
        ∙ ap (option_map (λ (x : HeapAtom). x.functor)) (new_u a i ∙ ap (option_map new_atom) g.1) ∙ sym g.1
        ∙ ap (option_map (λ (x : HeapAtom). x.functor)) (old a (closed.there a i))

    arity_copy : (a : ℕ) → In a xs → arity_of t (f a) ≡ arity_of h a
    arity_copy a i =
        ap (λ (z : Heap). arity_of z (f a)) c.is ∙ all_view (λ (o : Option HeapAtom). length (partners_of o)) arity_linked f u (ports_of u xs) (f a)
        ∙ arity_new a i ∙ ap (λ (o : Option HeapAtom). length (partners_of o)) (old a (closed.there a i))

    inner_copy : (a i b j : ℕ) → In a xs → link_of h a i ≡ Some (b, j) → In b xs × (link_of t (f a) i ≡ Some (f b, j))
    inner_copy a i b j k e =
        let in_s : link_of s a i ≡ Some (b, j) = link_h a i k ∙ e in
        let in_u : link_of u a i ≡ Some (b, j) = link_old a i (not_new a k) ∙ in_s in
        let w = all_joins xs ys u (ports_of u xs) copying_u within_xs a i (port_of u xs a i k (port_within u a i (b, j) in_u)) (subst (λ (o : Option Port). IsSome o) (sym in_u) refl) in
        let at : link_of t a i ≡ Some (b, j) = ap (λ q. link_at q i) (away_t a (not_new a k)) ∙ in_s in (
          closed.stays a i b j k e,
          ap (λ (z : Heap). link_of z (f a) i) c.is ∙ w.1 ∙ ap (option_map (moved f)) (ap (λ (z : Heap). link_of z a i) (sym c.is) ∙ at),
        )

    pub has_rest : HasRestCopy h t xs ys
    has_rest = record {
      is = record { long = c.long; functors = functor_copy; inner = inner_copy };
      there = λ y i. some_place (t.atoms y) (brings_rest.waits y i);
      from = λ y i. let w = origin y i in (w.0, w.1, ap (functor_of t) (sym w.2) ∙ functor_copy w.0 w.1);
      inside = λ p i l.
          let w = origin p.0 i in
          let l' : p.1 < arity_of h w.0 = subst (λ (k : ℕ). p.1 < k) (ap (arity_of t) (sym w.2) ∙ arity_copy w.0 w.1) l in
          inside_by p w.0 w.1 w.2 (link_of h w.0 p.1) refl (closed.full w.0 p.1 w.1 l');
    }
      where
        some_place : (o : Option HeapAtom) → option_map (λ x. x.place) o ≡ Some waiting → IsSome o
        some_place None e = absurd (cc)
        some_place (Some x) e = refl

        inside_by : (p : Port) (x : ℕ) → In x xs → f x ≡ p.0 → (o : Option Port) → link_of h x p.1 ≡ o → IsSome o → (q : Port) × In q.0 ys × (partners t p ≡ Some q)
        inside_by p x i e None g is = absurd (cc)
        inside_by p x i e (Some q) g is =
            let w = inner_copy x p.1 q.0 q.1 i g in (
              (f q.0, q.1),
              answer_in xs ys q.0 (omega (arith, c.long)) w.0,
              subst (λ (z : ℕ). link_of t z p.1 ≡ Some (f q.0, q.1)) e w.1,
            )
