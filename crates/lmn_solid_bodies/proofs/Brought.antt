-- Atoms that are made and wait, those of copies among them.
use Rattle.std.proofs.Common.{ℕ, zero, suc, ◌+◌, ◌<◌, ◌≡◌, ◌≢◌, ◌==◌, ◌&&◌, Bool, true, false, cond, List, [], ◌∷◌, ◌++◌, length, Option, Some, None, IsSome, refl, sym, ap, subst, ◌∙◌, inl, inr, arith}
use Rattle.std.proofs.lemmas.Bool.{eq-eqb, eqb-true}
use Rattle.std.proofs.lemmas.List.{append_assoc}
use Rattle.std.specs.Option.{option_map, option_and_then}
use Rattle.std.specs.Prelude.{slice_index_or}
use Rattle.lmn_base.specs.declared.functor.Functor.{Functor}
use Rattle.lmn_base.specs.Graphs.{Reached, at_root, across, Port}
use Rattle.lmn_store_heap.specs.Heap.{Heap, HeapAtom, within, waiting, top, partners_of, functor_of, arity_of, link_of, place_of, IsAtom, Distinct, made_atom}
use Rattle.lmn_store_heap.specs.Heap as heap
use Rattle.lmn_store_heap.specs.Sound.{Paired, Shaped, Listed}
use Rattle.lmn_store_heap.specs.Graphs.{atom_map}
use Rattle.lmn_store_heap.specs.Splice.{joined_to}
use Rattle.lmn_store_heap.proofs.ListLemmas.{in_left, in_right}
use Rattle.lmn_store_heap.proofs.Depths.{both_distinct}
use Rattle.lmn_store_heap.proofs.Replacing.{port_within}
use Rattle.lmn_store_heap.proofs.Shapes.{WellShaped, shaped_of, shaped_at, made_shape, joined_shape}
use Rattle.lmn_ground_parts.specs.Walks.{HasPort, Walk, ends, passes, finds, port_range, is_port, kept, net, neighbour, IsPartInDepth}
use Rattle.lmn_ground_parts.specs.Copies.{made_as, made_like, moved, joined_like, all_joined, ports_of, answer, copied, Copied}
use Rattle.lmn_ground_parts.proofs.WalkLaws.{only, once, closed, start_covers, kept_seen}
use Rattle.lmn_ground_parts.proofs.AnswerLaws.{answer_in, answer_onto}
use Rattle.lmn_solid_bodies.specs.Tied.{partners}
use Rattle.lmn_solid_bodies.specs.Within.{IsCopyIn}
use Rattle.lmn_solid_bodies.proofs.Making.{made_at, made_away, made_paired, made_shaped}
use Rattle.lmn_base.proofs.Common.{port_cases}
use Rattle.lmn_store_heap.proofs.Common.{decide_in as in_or_not, is_atom_at}
use Rattle.lmn_base.specs.Lists.{In}
use Rattle.lmn_base.proofs.Lists.{in_either, plus_nothing}

-- From s to t new atoms are made, and wait; each other atom is as it was.
pub record Brings (s t : Heap) (new : List ℕ) : Type 0 where
  pub others : (a : ℕ) → (In a new → ⊥) → t.atoms a ≡ s.atoms a
  pub fresh : (a : ℕ) → In a new → s.atoms a ≡ None
  pub waits : (a : ℕ) → In a new → place_of t a ≡ Some waiting
  pub once : Distinct new
  pub line : t.new_atoms ≡ s.new_atoms ++ new
  pub paired : Paired s → Paired t
  pub shaped : Shaped s → Shaped t

-- what is there isn't none
pub some_not_none : {X : Type 0} {A : Type 0} (x : A) (o : Option A) → o ≡ None → o ≡ Some x → X
some_not_none x o e f = let z : None ≡ Some x = sym e ∙ f in absurd (cc)

-- so it is of atoms
pub atom_not_none : {X : Type 0} (o : Option HeapAtom) → o ≡ None → IsSome o → X
atom_not_none o e i = let z : IsSome {T = HeapAtom} None = subst (λ (q : Option HeapAtom). IsSome q) e i in absurd (cc)

place_none : (o : Option HeapAtom) → o ≡ None → option_map (λ x. x.place) o ≡ None
place_none o e = ap (option_map (λ x. x.place)) e

-- what was there is no new atom, and stays
pub brought_old : {s t : Heap} {new : List ℕ} → Brings s t new → (a : ℕ) → IsAtom s a → (In a new → ⊥) × (t.atoms a ≡ s.atoms a)
brought_old {s = s} {new = new} b a is = let n : In a new → ⊥ = λ i. atom_not_none (s.atoms a) (b.fresh a i) is in (n, b.others a n)

-- a heap that stays as it is brings nothing
pub brings_none : (s : Heap) → Brings s s []
brings_none s = record {
  others = λ a o. refl;
  fresh = λ a i. absurd i;
  waits = λ a i. absurd i;
  once = tt;
  line = sym (plus_nothing s.new_atoms);
  paired = λ p. p;
  shaped = λ p. p;
}

-- what brings some and then others brings both
pub brings_after : (s t u : Heap) (n1 n2 : List ℕ) → Brings s t n1 → Brings t u n2 → Brings s u (n1 ++ n2)
brings_after s t u n1 n2 g h = record {
  others = λ a o. h.others a (λ i. o (in_right a n1 n2 i)) ∙ g.others a (λ i. o (in_left a n1 n2 i));
  fresh = λ a i. elim (in_or_not a n1) [
    | inl j ↦ g.fresh a j
    | inr o ↦ elim (in_either a n1 n2 i) [ inl j ↦ g.fresh a j | inr j ↦ sym (g.others a o) ∙ h.fresh a j ]
  ];
  waits = λ a i. elim (in_or_not a n2) [
    | inl j ↦ h.waits a j
    | inr o ↦ elim (in_either a n1 n2 i) [ inl j ↦ ap (option_map (λ (x : HeapAtom). x.place)) (h.others a o) ∙ g.waits a j | inr j ↦ h.waits a j ]
  ];
  once = both_distinct n1 n2 g.once h.once (λ a i j. some_not_none waiting (place_of t a) (place_none (t.atoms a) (h.fresh a j)) (g.waits a i));
  line = h.line ∙ ap (λ xs. xs ++ n2) g.line ∙ append_assoc s.new_atoms n1 n2;
  paired = λ p. h.paired (g.paired p);
  shaped = λ p. h.shaped (g.shaped p);
}

-- one atom
pub brings_atom : (s : Heap) (a : ℕ) (f : Functor) → s.atoms a ≡ None → Brings s (made_atom s a f) (a ∷ [])
brings_atom s a f free = record {
  others = λ b o. made_away s a f b (λ e. o (inl (sym e)));
  fresh = λ b i. elim i [ inl e ↦ ap s.atoms (sym e) ∙ free | inr v ↦ absurd v ];
  waits = λ b i. elim i [ inl e ↦ subst (λ z. place_of (made_atom s a f) z ≡ Some waiting) e (ap (option_map (λ (x : HeapAtom). x.place)) (made_at s a f)) | inr v ↦ absurd v ];
  once = (tt, tt);
  line = refl;
  paired = made_paired s a f free;
  shaped = made_shaped s a f free;
}

-- the same atoms and the same line
pub brings_on : (s t u : Heap) (new : List ℕ) → u.atoms ≡ t.atoms → u.new_atoms ≡ t.new_atoms → Brings s t new → Brings s u new
brings_on s t u new e f b = record {
  others = λ a o. ap (λ (k : ℕ → Option HeapAtom). k a) e ∙ b.others a o;
  fresh = b.fresh;
  waits = λ a i. ap (λ (k : ℕ → Option HeapAtom). option_map (λ (x : HeapAtom). x.place) (k a)) e ∙ b.waits a i;
  once = b.once;
  line = f ∙ b.line;
  paired = λ p. let q = b.paired p in subst (λ (k : ℕ → Option HeapAtom). Paired (record u { atoms = k })) (sym e) (record { back = q.back; apart = q.apart });
  shaped = λ p. let q = b.shaped p in subst (λ (k : ℕ → Option HeapAtom). Shaped (record u { atoms = k })) (sym e) (record { ports = q.ports; marks = q.marks });
}

-- lists and places stay together
pub brings_listed : (s t : Heap) (new : List ℕ) → Brings s t new → t.mems ≡ s.mems → t.new_mems ≡ s.new_mems → t.root ≡ s.root → Listed s → Listed t
brings_listed s t new b em en er h =
    subst (λ (k : ℕ). Listed (record t { root = k })) (sym er)
    (subst (λ (ms : List ℕ). Listed (record t { root = s.root; new_mems = ms })) (sym en)
    (subst (λ (f : ℕ → Option heap.HeapMem). Listed (record t { root = s.root; new_mems = s.new_mems; mems = f })) (sym em) here))
  where
    t0 : Heap
    t0 = record t { root = s.root; new_mems = s.new_mems; mems = s.mems }

    place_at : (a : ℕ) → IsAtom s a → place_of t a ≡ place_of s a
    place_at a is = ap (option_map (λ (x : HeapAtom). x.place)) (brought_old b a is).1

    placed_some : (o : Option HeapAtom) (p : heap.Place) → option_map (λ x. x.place) o ≡ Some p → IsSome o
    placed_some None p e = absurd (cc)
    placed_some (Some x) p e = refl

    same_place : (p : heap.Place) → (p ≡ waiting → ⊥) → (a : ℕ) → place_of t a ≡ Some p → place_of s a ≡ Some p
    same_place p d a e = elim (in_or_not a new) [
      | inl i ↦ absurd (d (let z : ◌≡◌ {A = Option heap.Place} (Some p) (Some waiting) = sym e ∙ b.waits a i in cc))
      | inr o ↦ sym (ap (option_map (λ (x : HeapAtom). x.place)) (b.others a o)) ∙ e
    ]

    later_place : (p : heap.Place) (a : ℕ) → place_of s a ≡ Some p → place_of t a ≡ Some p
    later_place p a e = place_at a (placed_some (s.atoms a) p e) ∙ e

    here : Listed t0
    here = record {
      atoms = λ m a. ((λ i. later_place (within m) a ((h.atoms m a).0 i)), (λ e. (h.atoms m a).1 (same_place (within m) (λ q. absurd (cc)) a e)));
      atoms_once = h.atoms_once;
      mems = h.mems;
      mems_once = h.mems_once;
      new_atoms = λ a. (
        (λ i. elim (in_either a s.new_atoms new (subst (In a) b.line i)) [ inl j ↦ later_place waiting a ((h.new_atoms a).0 j) | inr j ↦ b.waits a j ]),
        (λ e. subst (In a) (sym b.line) (elim (in_or_not a new) [
          | inl i ↦ in_right a s.new_atoms new i
          | inr o ↦ in_left a s.new_atoms new ((h.new_atoms a).1 (sym (ap (option_map (λ (x : HeapAtom). x.place)) (b.others a o)) ∙ e))
        ])),
      );
      new_atoms_once = subst Distinct (sym b.line) (both_distinct s.new_atoms new h.new_atoms_once b.once
          (λ a i j. some_not_none waiting (place_of s a) (place_none (s.atoms a) (b.fresh a j)) ((h.new_atoms a).0 i)));
      new_mems = h.new_mems;
      new_mems_once = h.new_mems_once;
      root = h.root;
      no_top = λ a e. h.no_top a (same_place top (λ q. absurd (cc)) a e);
      new_empty = h.new_empty;
    }

-- Copies

-- the shape of atoms stays when copies are made and joined
joined_shapes : (f : ℕ → ℕ) (root : Port) (ps : List Port) (s : Heap) → ((c : ℕ) → WellShaped (s.atoms c)) → (c : ℕ) → WellShaped ((all_joined f root s ps).atoms c)
joined_shapes f root [] s w = w
joined_shapes f root (p ∷ ps) s w = joined_shapes f root ps (joined_like f root s p) (one (is_port p root) (option_map (moved f) (link_of s p.0 p.1)))
  where
    one : (t : Bool) (o : Option Port) → (c : ℕ) → WellShaped ((cond t s (joined_to s (f p.0) p.1 o)).atoms c)
    one true o = w
    one false None = w
    one false (Some q) = joined_shape s (f p.0) p.1 q.0 q.1 w

-- so it does when copies are made
pub made_shapes : (xs ys : List ℕ) (s : Heap) → ((c : ℕ) → WellShaped (s.atoms c)) → (c : ℕ) → WellShaped ((made_like s xs ys).atoms c)
made_shapes [] ys s w = w
made_shapes (x ∷ xs) [] s w = w
made_shapes (x ∷ xs) (y ∷ ys) s w = made_shapes xs ys (made_as s y (functor_of s x)) (one (functor_of s x))
  where
    one : (o : Option Functor) → (c : ℕ) → WellShaped ((made_as s y o).atoms c)
    one None = w
    one (Some f) = made_shape s.atoms y f w

-- a walk doesn't leave by its root, and goes on from each other port that has a partner
none_at : (s : Heap) (p : Port) → neighbour (net s) p (λ _. true) p ≡ None
none_at s p = rw (eq-eqb p.0 p.0 refl) (rw (eq-eqb p.1 p.1 refl) refl)

leads : (s : Heap) (root p q : Port) → p ≢ root → link_of s p.0 p.1 ≡ Some q → neighbour (net s) root (λ _. true) p ≡ Some q.0
leads s root p q d e = ap (λ o. cond (is_port p root) None (option_and_then (kept (λ _. true)) o)) e ∙ by (is_port p root) refl
  where
    by : (t : Bool) → is_port p root ≡ t → cond t None (Some q.0) ≡ Some q.0
    by true f = absurd (d (one p.0 root.0 p.1 root.1 f))
      where
        one : (a b i j : ℕ) → ((a == b) && (i == j)) ≡ true → ◌≡◌ {A = Port} (a, i) (b, j)
        one a b i j f = two (a == b) (i == j) refl refl f
          where
            two : (u v : Bool) → (a == b) ≡ u → (i == j) ≡ v → (u && v) ≡ true → ◌≡◌ {A = Port} (a, i) (b, j)
            two true true e f g = λ k. (eqb-true a b e k, eqb-true i j f k)
            two true false e f g = absurd (cc)
            two false v e f g = absurd (cc)
    by false f = refl

-- atoms of a part are those that are reached
pub in_part : (s : Heap) (root : Port) (xs : List ℕ) → IsPartInDepth s root xs → (a : ℕ) → In a xs → Reached (atom_map s) root a
in_part s root xs part a i = only (net s).arity (neighbour (net s) root (λ _. true)) (Reached (atom_map s) root) step part
    (λ x j. elim j [ inl e ↦ subst (Reached (atom_map s) root) e at_root | inr v ↦ absurd v ])
    (λ p k. subst (Reached (atom_map s) root) (sym (port_atom root.0 0 ((net s).arity root.0) p k)) at_root) a i
  where
    port_atom : (a i n : ℕ) (p : Port) → HasPort p (port_range a i n) → p.0 ≡ a
    port_atom a i zero p k = absurd k
    port_atom a i (suc n) p (inl e) = ap (λ (q : Port). q.0) (sym e)
    port_atom a i (suc n) p (inr k) = port_atom a (i + 1) n p k

    step : (a i b : ℕ) → Reached (atom_map s) root a → neighbour (net s) root (λ _. true) (a, i) ≡ Some b → Reached (atom_map s) root b
    step a i b r e = elim (port_cases (a, i) root) [
      | inl o ↦ some_not_none b _ (ap (neighbour (net s) root (λ _. true)) o ∙ none_at s root) e
      | inr d ↦ by (is_port (a, i) root) (link_of s a i) refl d e
    ]
      where
        by : (t : Bool) (o : Option Port) → link_of s a i ≡ o → ◌≢◌ {A = Port} (a, i) root → cond t None (option_and_then (kept (λ _. true)) o) ≡ Some b → Reached (atom_map s) root b
        by true o f d e = absurd (cc)
        by false None f d e = absurd (cc)
        by false (Some q) f d e = let g : q.0 ≡ b = (cc) in subst (Reached (atom_map s) root) g (across {a = a} {b = q.0} {i = i} {j = q.1} r d f)

-- and all of them
pub part_all : (s : Heap) (root : Port) (xs : List ℕ) → Paired s → IsPartInDepth s root xs → (a : ℕ) → Reached (atom_map s) root a → In a xs
part_all s root xs p part a at_root = kept_seen (net s).arity (neighbour (net s) root (λ _. true)) part root.0 (inl refl)
part_all s root xs p part a (across {a = b} {i = i} {j = j} r d e) =
    let w = closed (net s).arity (neighbour (net s) root (λ _. true)) part (start_covers (net s).arity (neighbour (net s) root (λ _. true)) root.0)
    b i a (part_all s root xs p part b r) (port_within s b i (a, j) e) (leads s root (b, i) (a, j) d e) in
    elim w [ inl k ↦ k | inr v ↦ absurd v ]

-- A port of the heap at which a part is entered: each other port of the part's atoms has a partner.
pub record Whole (h : Heap) (root : Port) : Type 0 where
  pub atom : IsAtom h root.0
  pub port : root.1 < arity_of h root.0
  pub full : (a i : ℕ) → Reached (atom_map h) root a → i < arity_of h a → ◌≢◌ {A = Port} (a, i) root → IsSome (link_of h a i)

-- The part of h that is entered at a port has a copy in s, with these atoms. Each port of them but the root port, which is free, has its
-- partner among them.
pub record HasCopy (h s : Heap) (root copy : Port) (ys : List ℕ) : Type 0 where
  pub is : IsCopyIn h s root copy ys
  pub there : (y : ℕ) → In y ys → IsAtom s y
  pub from : (y : ℕ) → In y ys → (a : ℕ) × Reached (atom_map h) root a × (functor_of s y ≡ functor_of h a)
  pub ours : In copy.0 ys
  pub port : copy.1 < arity_of s copy.0
  pub free : partners s copy ≡ None
  pub inside : (p : Port) → In p.0 ys → p.1 < arity_of s p.0 → p ≢ copy → (q : Port) × In q.0 ys × (partners s p ≡ Some q)

abbrev pub link_at : Option HeapAtom → ℕ → Option Port
link_at o i = slice_index_or (partners_of o) i None

-- what was there before stays as it was
abbrev pub Old : Heap → Heap → Type 0
Old h s = (a : ℕ) → IsAtom h a → s.atoms a ≡ h.atoms a

-- what was there before stays as it was when more is brought
pub old_on : {s t : Heap} {new : List ℕ} (h : Heap) → Old h s → Brings s t new → Old h t
old_on {s = s} h old b a is = (brought_old b a (subst (λ (o : Option HeapAtom). IsSome o) (sym (old a is)) is)).1 ∙ old a is

-- Where a heap has the partners of h at the atoms of h, the same is reached, and it is of h.
module _ (h s : Heap) (root : Port) (paired : Paired h) (there : IsAtom h root.0) (same : (p : Port) → IsAtom h p.0 → partners s p ≡ partners h p) where
  pub other_end : (a i b j : ℕ) → link_of h a i ≡ Some (b, j) → IsAtom h b
  other_end a i b j e = is_atom_at h b j (port_within h b j (a, i) (paired.back a i b j e))

  pub reached_into : (a : ℕ) → Reached (atom_map s) root a → IsAtom h a × Reached (atom_map h) root a
  reached_into a at_root = (there, at_root)
  reached_into a (across {a = b} {i = i} {j = j} r d e) =
      let w = reached_into b r in
      let e' : link_of h b i ≡ Some (a, j) = sym (same (b, i) w.0) ∙ e in
      (other_end b i a j e', across {a = b} {i = i} {j = j} w.1 d e')

  pub reached_from : (a : ℕ) → Reached (atom_map h) root a → IsAtom h a × Reached (atom_map s) root a
  reached_from a at_root = (there, at_root)
  reached_from a (across {a = b} {i = i} {j = j} r d e) =
      let w = reached_from b r in
      (other_end b i a j e, across {a = b} {i = i} {j = j} w.1 d (same (b, i) w.0 ∙ e))

-- A copy that is made

module _ (s t : Heap) (root copy : Port) (c : Copied s t root copy) where
  abbrev xs : List ℕ
  xs = c.atoms

  abbrev ys : List ℕ
  ys = c.copies

  atoms_once : Distinct xs
  atoms_once = once (net s).arity (neighbour (net s) root (λ _. true)) c.part (tt, tt)

  origin : (y : ℕ) → In y ys → (x : ℕ) × In x xs × Reached (atom_map s) root x × (c.same.to x ≡ y)
  origin y i = let w = answer_onto xs ys y (sym c.long) atoms_once i in (w.0, w.1, in_part s root xs c.part w.0 w.1, c.answers w.0 ∙ w.2)

  -- joined ports of the copy are the images of joined ports
  joined_back : (a i b j : ℕ) → In a ys → link_of t a i ≡ Some (b, j)
      → (x : ℕ) × (z : ℕ) × Reached (atom_map s) root x × Reached (atom_map s) root z × (c.same.to x ≡ a) × (c.same.to z ≡ b) × (link_of s x i ≡ Some (z, j))
  joined_back a i b j k e =
      let x = origin a k in
      let z = origin b (c.beside.alone a i b j k e) in
      let e' : link_of t (c.same.to x.0) i ≡ Some (c.same.to z.0, j) = subst (λ (w : ℕ). link_of t w i ≡ Some (c.same.to z.0, j)) (sym x.3) (subst (λ (w : ℕ). link_of t a i ≡ Some (w, j)) (sym z.3) e) in
      (x.0, z.0, x.2, z.2, x.3, z.3, (c.same.joined x.0 z.0 i j x.2 z.2).1 e')

  copied_paired : Paired s → Paired t
  copied_paired p = record {
    back = λ a i b j e. elim (in_or_not a ys) [
      | inl k ↦ (let w = joined_back a i b j k e in
          subst (λ (u : ℕ). link_of t u j ≡ Some (a, i)) w.5 (subst (λ (u : ℕ). link_of t (c.same.to w.1) j ≡ Some (u, i)) w.4
          ((c.same.joined w.1 w.0 j i w.3 w.2).0 (p.back w.0 i w.1 j w.6))))
      | inr o ↦ (let e' : link_of s a i ≡ Some (b, j) = sym (ap (λ q. link_at q i) (c.beside.kept a o)) ∙ e in
          let back = p.back a i b j e' in
          let is = is_atom_at s b j (port_within s b j (a, i) back) in
          ap (λ q. link_at q j) (c.beside.kept b (λ k. atom_not_none (s.atoms b) (c.beside.fresh.1 b k) is)) ∙ back)
    ];
    apart = λ a i e. elim (in_or_not a ys) [
      | inl k ↦ (let w = joined_back a i a i k e in
          let same : w.0 ≡ w.1 = c.same.one_to_one w.0 w.1 w.2 w.3 (w.4 ∙ sym w.5) in
          p.apart w.0 i (subst (λ (u : ℕ). link_of s w.0 i ≡ Some (u, i)) (sym same) w.6))
      | inr o ↦ p.apart a i (sym (ap (λ q. link_at q i) (c.beside.kept a o)) ∙ e)
    ];
  }

  pub brings_copied : Brings s t ys
  brings_copied = record {
    others = c.beside.kept;
    fresh = c.beside.fresh.1;
    waits = c.beside.places;
    once = c.beside.fresh.0;
    line = c.beside.line;
    paired = copied_paired;
    shaped = λ p. subst Shaped (sym c.is) (shaped_of (copied s root xs ys) (joined_shapes (answer xs ys) root (ports_of (made_like s xs ys) xs) (made_like s xs ys) (made_shapes xs ys s (shaped_at s p))));
  }

  module _ (h : Heap) (paired : Paired h) (shaped : Shaped h) (whole : Whole h root) (old : Old h s) (shaped_t : Shaped t) (paired_s : Paired s) where
    link_old : (a i : ℕ) → IsAtom h a → link_of s a i ≡ link_of h a i
    link_old a i is = ap (λ q. link_at q i) (old a is)

    other_end_of : (a i b j : ℕ) → link_of h a i ≡ Some (b, j) → IsAtom h b
    other_end_of = other_end h s root paired whole.atom (λ p is. link_old p.0 p.1 is)

    -- what is reached is reached in h
    in_h : (a : ℕ) → Reached (atom_map s) root a → IsAtom h a × Reached (atom_map h) root a
    in_h = reached_into h s root paired whole.atom (λ p is. link_old p.0 p.1 is)

    same_next : (p : Port) → IsAtom h p.0 → neighbour (net s) root (λ _. true) p ≡ neighbour (net h) root (λ _. true) p
    same_next p is = ap (λ q. cond (is_port p root) None (option_and_then (kept (λ _. true)) q)) (link_old p.0 p.1 is)

    arity_old : (a : ℕ) → IsAtom h a → arity_of s a ≡ arity_of h a
    arity_old a is = ap (λ (q : Option HeapAtom). length (partners_of q)) (old a is)

    next_is : (p : Port) (b : ℕ) → neighbour (net h) root (λ _. true) p ≡ Some b → IsAtom h b
    next_is p b e = by (is_port p root) (link_of h p.0 p.1) refl e
      where
        by : (u : Bool) (o : Option Port) → link_of h p.0 p.1 ≡ o → cond u None (option_and_then (kept (λ _. true)) o) ≡ Some b → IsAtom h b
        by true o f e = absurd (cc)
        by false None f e = absurd (cc)
        by false (Some q) f e = let g : q.0 ≡ b = (cc) in subst (IsAtom h) g (other_end_of p.0 p.1 q.0 q.1 f)

    ports_there : (b i n : ℕ) (ps : List Port) → IsAtom h b → ((p : Port) → HasPort p ps → IsAtom h p.0) → (p : Port) → HasPort p (port_range b i n ++ ps) → IsAtom h p.0
    ports_there b i zero ps is r p k = r p k
    ports_there b i (suc n) ps is r p (inl e) = subst (λ (q : Port). IsAtom h q.0) e is
    ports_there b i (suc n) ps is r p (inr k) = ports_there b (i + 1) n ps is r p k

    walk_old : {seen all : List ℕ} {ps : List Port} → Walk (net s).arity (neighbour (net s) root (λ _. true)) seen ps all → ((p : Port) → HasPort p ps → IsAtom h p.0)
        → Walk (net h).arity (neighbour (net h) root (λ _. true)) seen ps all
    walk_old ends r = ends
    walk_old (passes {p = p} k w) r = passes (λ b e. k b (same_next p (r p (inl refl)) ∙ e)) (walk_old w (λ q i. r q (inr i)))
    walk_old {all = all} (finds {seen = seen} {ps = ps} {p = p} {b = b} e n w) r =
        let e' : neighbour (net h) root (λ _. true) p ≡ Some b = sym (same_next p (r p (inl refl))) ∙ e in
        let is = next_is p b e' in
        finds e' n (subst (λ (k : ℕ). Walk (net h).arity (neighbour (net h) root (λ _. true)) (seen ++ b ∷ []) (port_range b 0 k ++ ps) all) (arity_old b is)
        (walk_old w (ports_there b 0 ((net s).arity b) ps is (λ q i. r q (inr i)))))

    part_old : IsPartInDepth h root xs
    part_old = subst (λ (k : ℕ). Walk (net h).arity (neighbour (net h) root (λ _. true)) (root.0 ∷ []) (port_range root.0 0 k) xs) (arity_old root.0 whole.atom)
        (walk_old c.part (λ p k. ports_there root.0 0 ((net s).arity root.0) [] whole.atom (λ q v. absurd v) p (subst (HasPort p) (sym (no_more (port_range root.0 0 ((net s).arity root.0)))) k)))
      where
        no_more : (ps : List Port) → ps ++ [] ≡ ps
        no_more [] = refl
        no_more (p ∷ ps) = ap (λ qs. p ∷ qs) (no_more ps)

    functor_copy : (a : ℕ) → In a xs → functor_of t (answer xs ys a) ≡ functor_of h a
    functor_copy a i =
        let r = in_part s root xs c.part a i in
        ap (functor_of t) (sym (c.answers a)) ∙ c.same.functors a r ∙ ap (option_map (λ (x : HeapAtom). x.functor)) (old a (in_h a r).0)

    arity_copy : (a : ℕ) → In a xs → arity_of t (answer xs ys a) ≡ arity_of h a
    arity_copy a i = by (functor_of h a) refl (in_h a (in_part s root xs c.part a i)).0
      where
        by : (o : Option Functor) → functor_of h a ≡ o → IsAtom h a → arity_of t (answer xs ys a) ≡ arity_of h a
        by None e is = absurd (none (h.atoms a) e is)
          where
            none : (q : Option HeapAtom) → option_map (λ x. x.functor) q ≡ None → IsSome q → ⊥
            none None e is = absurd (cc)
            none (Some x) e is = absurd (cc)
        by (Some f) e is = shaped_t.ports (answer xs ys a) f (functor_copy a i ∙ e) ∙ sym (shaped.ports a f e)

    inner_copy : (a i b j : ℕ) → In a xs → ◌≢◌ {A = Port} (a, i) root → link_of h a i ≡ Some (b, j) → In b xs × (link_of t (answer xs ys a) i ≡ Some (answer xs ys b, j))
    inner_copy a i b j k d e =
        let r = in_part s root xs c.part a k in
        let e' : link_of s a i ≡ Some (b, j) = link_old a i (in_h a r).0 ∙ e in
        let rb : Reached (atom_map s) root b = across {a = a} {i = i} {j = j} r d e' in (
          part_all s root xs paired_s c.part b rb,
          subst (λ (u : ℕ). link_of t u i ≡ Some (answer xs ys b, j)) (c.answers a) (subst (λ (u : ℕ). link_of t (c.same.to a) i ≡ Some (u, j)) (c.answers b)
              ((c.same.joined a b i j r rb).0 e')),
        )

    root_in : In root.0 xs
    root_in = part_all s root xs paired_s c.part root.0 at_root

    copy_is : copy ≡ moved (answer xs ys) root
    copy_is = sym c.same.root ∙ (λ k. (c.answers root.0 k, root.1))

    pub has_copied : HasCopy h t root copy ys
    has_copied = record {
      is = record { atoms = xs; part = part_old; long = c.long; entered = copy_is; functors = functor_copy; inner = inner_copy };
      there = λ y i. some_place (t.atoms y) (c.beside.places y i);
      from = λ y i. let w = answer_onto xs ys y (sym c.long) atoms_once i in (w.0, (in_h w.0 (in_part s root xs c.part w.0 w.1)).1, ap (functor_of t) (sym w.2) ∙ functor_copy w.0 w.1);
      ours = subst (λ (p : Port). In p.0 ys) (sym copy_is) (answer_in xs ys root.0 (omega (arith, c.long)) root_in);
      port = subst (λ (p : Port). p.1 < arity_of t p.0) (sym copy_is) (subst (λ (k : ℕ). root.1 < k) (sym (arity_copy root.0 root_in)) whole.port);
      free = c.free;
      inside = λ p i l d.
          let w = answer_onto xs ys p.0 (sym c.long) atoms_once i in
          let l' : p.1 < arity_of h w.0 = subst (λ (k : ℕ). p.1 < k) (ap (arity_of t) (sym w.2) ∙ arity_copy w.0 w.1) l in
          let d' : ◌≢◌ {A = Port} (w.0, p.1) root = λ e. d ((λ k. (sym w.2 k, p.1)) ∙ ap (moved (answer xs ys)) e ∙ sym copy_is) in
          inside_by p w.0 w.1 w.2 d' (link_of h w.0 p.1) refl (whole.full w.0 p.1 (in_h w.0 (in_part s root xs c.part w.0 w.1)).1 l' d');
    }
      where
        some_place : (o : Option HeapAtom) → option_map (λ x. x.place) o ≡ Some waiting → IsSome o
        some_place None e = absurd (cc)
        some_place (Some x) e = refl

        inside_by : (p : Port) (x : ℕ) → In x xs → answer xs ys x ≡ p.0 → ◌≢◌ {A = Port} (x, p.1) root → (o : Option Port) → link_of h x p.1 ≡ o → IsSome o → (q : Port) × In q.0 ys × (partners t p ≡ Some q)
        inside_by p x i e d None f is = absurd (cc)
        inside_by p x i e d (Some q) f is =
            let w = inner_copy x p.1 q.0 q.1 i d f in (
              (answer xs ys q.0, q.1),
              answer_in xs ys q.0 (omega (arith, c.long)) w.0,
              subst (λ (u : ℕ). link_of t u p.1 ≡ Some (answer xs ys q.0, q.1)) e w.1,
            )

-- a copy stays when more is made
pub has_copy_on : {t u : Heap} {new : List ℕ} (h : Heap) (root copy : Port) (ys : List ℕ) → Brings t u new → HasCopy h t root copy ys → HasCopy h u root copy ys
has_copy_on {t = t} {u = u} h root copy ys b k =
    let same : (y : ℕ) → In y ys → u.atoms y ≡ t.atoms y = λ y i. (brought_old b y (k.there y i)).1 in
    let at : (a : ℕ) → In a k.is.atoms → In (answer k.is.atoms ys a) ys = λ a i. answer_in k.is.atoms ys a (omega (arith, k.is.long)) i in
    record {
      is = record {
        atoms = k.is.atoms;
        part = k.is.part;
        long = k.is.long;
        entered = k.is.entered;
        functors = λ a i. ap (option_map (λ (x : HeapAtom). x.functor)) (same (answer k.is.atoms ys a) (at a i)) ∙ k.is.functors a i;
        inner = λ a i b' j ia d e. let w = k.is.inner a i b' j ia d e in (w.0, ap (λ q. link_at q i) (same (answer k.is.atoms ys a) (at a ia)) ∙ w.1);
      };
      there = λ y i. subst (λ (o : Option HeapAtom). IsSome o) (sym (same y i)) (k.there y i);
      from = λ y i. let w = k.from y i in (w.0, w.1, ap (option_map (λ (x : HeapAtom). x.functor)) (same y i) ∙ w.2);
      ours = k.ours;
      port = subst (λ (o : Option HeapAtom). copy.1 < length (partners_of o)) (sym (same copy.0 k.ours)) k.port;
      free = ap (λ q. link_at q copy.1) (same copy.0 k.ours) ∙ k.free;
      inside = λ p i l d. let w = k.inside p i (subst (λ (o : Option HeapAtom). p.1 < length (partners_of o)) (same p.0 i) l) d in (w.0, w.1, ap (λ q. link_at q p.1) (same p.0 i) ∙ w.2);
    }
