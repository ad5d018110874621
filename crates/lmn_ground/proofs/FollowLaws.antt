-- Two parts in step.
use Rattle.std.proofs.Common.{◌≡◌, ◌≢◌, ◌⊎◌, ℕ, zero, suc, ◌+◌, ◌-◌, ◌*◌, ◌/◌, ◌<◌, ◌≤◌, Bool, true, false, List, [], ◌∷◌, ◌++◌, length, map, Option, Some, None, IsSome, refl, sym, ap, subst, ◌∙◌, inl, inr, arith, append_assoc, add-one}
use Rattle.std.specs.Option.{option_map}
use Rattle.std.specs.Prelude.{slice_index_or}
use Rattle.lmn_base.specs.declared.functor.Functor.{Functor}
use Rattle.lmn_base.specs.Graphs.{Reached, at_root, across, SameGraph}
use Rattle.lmn_store_heap.specs.Heap.{Heap, HeapAtom, marked, arity_of, link_of, functor_of, partners_of}
use Rattle.lmn_store_heap.specs.Sound.{Sound}
use Rattle.lmn_store_heap.specs.Graphs.{atom_map}
use Rattle.lmn_store_heap.proofs.ListLemmas.{in_left}
use Rattle.lmn_ground.specs.Marks.{first_place, entry_port, or_zero, back, first_marks, way, ports_behind, ports_ahead, OnWay, Sought}
use Rattle.lmn_ground.specs.Spread.{IsWhole, Numbered, Spreading, CleanPart, AreAtoms}
use Rattle.lmn_ground.specs.Follow.{SameEnd, Two, Following}
use Rattle.lmn_ground_parts.specs.Copies.{moved, answer}
use Rattle.lmn_ground_parts.proofs.WalkLaws.{determined, kept_seen, longer, past, found, in_last, holds_left, holds_right, holds_port}
use Rattle.lmn_ground.proofs.SoughtLaws.{top_in, port_left, next_root, next_none, next_link, not_root_next, same_port, sought_none, sought_root, sought_marked, sought_back, no_port_left}
use Rattle.lmn_ground.proofs.PaintLaws.{net_painted, mark_away, mark_here}
use Rattle.lmn_ground.proofs.SpreadLaws.{spreading_first, next_to, not_root, part_reached, way_now, spreading_on, entered, marks_there, entry_is, ahead_enter, ahead_here, nothing_ahead}
use Rattle.lmn_ground.proofs.GroundLaws.{part_atoms}
use Rattle.lmn_ground.proofs.EqualLaws.{walk_moved, same_or_not, agree_same}
use Rattle.lmn_ground_parts.proofs.AnswerLaws.{answer_here, answer_in, answer_one}
use Rattle.lmn_ground.proofs.NumberLaws.{begins, numbered_same, answer_grow, answer_new, answer_same, number_of_answer, answer_map, number_next}
use Rattle.lmn_ground_parts.specs.Walks.{port_range, neighbour, IsPartInDepth, HasPort, Net, net, ports_from, is_port, Walk, ends}
use Rattle.lmn_store_heap.proofs.Common.{decide_in as in_or_not, same_port as same_pair}
use Rattle.lmn_ground.proofs.PaintedAt.{paint_functor}
use Rattle.lmn_store_heap.proofs.Replacing.{port_within as link_inside}
use Rattle.lmn_base.specs.Lists.{In}
use Rattle.lmn_base.proofs.Lists.{in_snoc}

-- ports with nothing behind are these
pub to_none : (ps : List (ℕ × ℕ)) → ps ++ [] ≡ ps
to_none [] = refl
to_none (p ∷ ps) = ap (λ qs. p ∷ qs) (to_none ps)

arity_by : (s : Heap) (a b : ℕ) → Sound s → functor_of s a ≡ functor_of s b → arity_of s a ≡ arity_of s b
arity_by s a b h e = by (s.atoms a) refl (s.atoms b) refl
  where
    by : (o : Option HeapAtom) → s.atoms a ≡ o → (q : Option HeapAtom) → s.atoms b ≡ q → arity_of s a ≡ arity_of s b
    by None f None g = ap (λ (o : Option HeapAtom). length (partners_of o)) (f ∙ sym g)
    by None f (Some z) g =
        let k : ◌≡◌ {A = Option Functor} None (Some z.functor) = sym (ap (option_map (λ (t : HeapAtom). t.functor)) f) ∙ e ∙ ap (option_map (λ (t : HeapAtom). t.functor)) g in absurd (cc)
    by (Some z) f q g =
        let k : functor_of s a ≡ Some z.functor = ap (option_map (λ (t : HeapAtom). t.functor)) f in
        h.shaped.ports a z.functor k ∙ sym (h.shaped.ports b z.functor (sym e ∙ k))

link_beyond : (s : Heap) (a i : ℕ) → arity_of s a ≤ i → link_of s a i ≡ None
link_beyond s a i h = by (partners_of (s.atoms a)) i h
  where
    by : (xs : List (Option (ℕ × ℕ))) (i : ℕ) → length xs ≤ i → slice_index_or xs i None ≡ None
    by [] i h = refl
    by (x ∷ xs) zero h = absurd (omega arith)
    by (x ∷ xs) (suc i) h = by xs i (omega (arith, h))

port_of : (a i : ℕ) (root : ℕ × ℕ) → ◌≡◌ {A = ℕ × ℕ} (a, i) root → is_port (a, i) root ≡ true
port_of a i root e = by (is_port (a, i) root) refl
  where
    by : (t : Bool) → is_port (a, i) root ≡ t → is_port (a, i) root ≡ true
    by true f = f
    by false f = absurd (not_root a i root f e)

no_port : (a i : ℕ) (root : ℕ × ℕ) → (◌≡◌ {A = ℕ × ℕ} (a, i) root → ⊥) → is_port (a, i) root ≡ false
no_port a i root d = by (is_port (a, i) root) refl
  where
    by : (t : Bool) → is_port (a, i) root ≡ t → is_port (a, i) root ≡ false
    by true f = absurd (d (same_port a i root f))
    by false f = f

moved_all_ports : (f : ℕ → ℕ) (a i n : ℕ) → map (moved f) (port_range a i n) ≡ port_range (f a) i n
moved_all_ports f a i zero = refl
moved_all_ports f a i (suc n) = ap (λ ps. (f a, i) ∷ ps) (moved_all_ports f a (i + 1) n)

-- Equal parts, of one heap or of two, are walked alike.
pub walked : (s t : Heap) (x y : ℕ × ℕ) (xs : List ℕ) (g : SameGraph (atom_map s) x (atom_map t) y) → ((a : ℕ) → Reached (atom_map s) x a → arity_of t (g.to a) ≡ arity_of s a)
    → IsWhole s x None → IsPartInDepth s x xs → IsPartInDepth t y (map g.to xs)
walked s t x y xs g arities full part =
    let root_is : g.to x.0 ≡ y.0 = ap (λ (p : ℕ × ℕ). p.0) g.root in
    let w = walk_moved (net s).arity (net t).arity (neighbour (net s) x (λ _. true)) (neighbour (net t) y (λ _. true)) g.to (Reached (atom_map s) x) arities
    (λ a i b r e. end_kept a i b r e (not_root_next (net s) x (λ _. true) (a, i) b e) (link_of s a i) refl)
    (λ a i r e. none_kept a i r e (same_or_not (a, i) x) (link_of s a i) refl)
    (λ a i b r e. reach a i b r e (not_root_next (net s) x (λ _. true) (a, i) b e) (link_of s a i) refl)
    (λ a b r q e. g.one_to_one a b r q e)
    part (λ a k. at_start a k) (λ p k. from_root p (arity_of s x.0) 0 k) in
    subst (λ (a : ℕ). Walk (net t).arity (neighbour (net t) y (λ _. true)) (a ∷ []) (port_range a 0 (arity_of t a)) (map g.to xs)) root_is
    (subst (λ (n : ℕ). Walk (net t).arity (neighbour (net t) y (λ _. true)) (g.to x.0 ∷ []) (port_range (g.to x.0) 0 n) (map g.to xs)) (sym (arities x.0 at_root))
    (subst (λ (ps : List (ℕ × ℕ)). Walk (net t).arity (neighbour (net t) y (λ _. true)) (g.to x.0 ∷ []) ps (map g.to xs)) (moved_all_ports g.to x.0 0 (arity_of s x.0)) w))
  where
    at_start : (a : ℕ) → In a (x.0 ∷ []) → Reached (atom_map s) x a
    at_start a (inl e) = subst (Reached (atom_map s) x) e at_root
    at_start a (inr k) = absurd k

    from_root : (p : ℕ × ℕ) (n i : ℕ) → HasPort p (port_range x.0 i n) → Reached (atom_map s) x p.0
    from_root p zero i h = absurd h
    from_root p (suc n) i (inl e) = subst (λ (q : ℕ × ℕ). Reached (atom_map s) x q.0) e at_root
    from_root p (suc n) i (inr h) = from_root p n (i + 1) h

    reach : (a i b : ℕ) → Reached (atom_map s) x a → neighbour (net s) x (λ _. true) (a, i) ≡ Some b → is_port (a, i) x ≡ false → (o : Option (ℕ × ℕ)) → link_of s a i ≡ o → Reached (atom_map s) x b
    reach a i b r e f None l = let z = next_none (net s) x (λ _. true) a i l in absurd (cc)
    reach a i b r e f (Some q) l = subst (Reached (atom_map s) x) (next_link (net s) x (λ _. true) a i q.0 b q.1 l e) (across r (not_root a i x f) l)

    end_kept : (a i b : ℕ) → Reached (atom_map s) x a → neighbour (net s) x (λ _. true) (a, i) ≡ Some b → is_port (a, i) x ≡ false → (o : Option (ℕ × ℕ)) → link_of s a i ≡ o → neighbour (net t) y (λ _. true) (g.to a, i) ≡ Some (g.to b)
    end_kept a i b r e f None l = let z = next_none (net s) x (λ _. true) a i l in absurd (cc)
    end_kept a i b r e f (Some q) l =
        let same : q.0 ≡ b = next_link (net s) x (λ _. true) a i q.0 b q.1 l e in
        let rq : Reached (atom_map s) x q.0 = across r (not_root a i x f) l in
        let there = (g.joined a q.0 i q.1 r rq).0 l in
        let away : is_port (g.to a, i) y ≡ false = no_port (g.to a) i y (λ h.
        let u : g.to a ≡ g.to x.0 = ap (λ (p : ℕ × ℕ). p.0) h ∙ sym (ap (λ (p : ℕ × ℕ). p.0) g.root) in
        let a_is : a ≡ x.0 = g.one_to_one a x.0 r at_root u in
        let i_is : i ≡ x.1 = ap (λ (p : ℕ × ℕ). p.1) h ∙ sym (ap (λ (p : ℕ × ℕ). p.1) g.root) in
        not_root a i x f (λ m. (a_is m, i_is m))) in
        next_to (net t) y (λ _. true) (g.to a) i (g.to q.0) q.1 there away refl ∙ ap (λ (z : ℕ). Some (g.to z)) same

    none_kept : (a i : ℕ) → Reached (atom_map s) x a → neighbour (net s) x (λ _. true) (a, i) ≡ None → ((a, i) ≡ x) ⊎ ((a, i) ≡ x → ⊥) → (o : Option (ℕ × ℕ)) → link_of s a i ≡ o → neighbour (net t) y (λ _. true) (g.to a, i) ≡ None
    none_kept a i r e (inl h) o l =
        let u : g.to a ≡ y.0 = ap g.to (ap (λ (p : ℕ × ℕ). p.0) h) ∙ ap (λ (p : ℕ × ℕ). p.0) g.root in
        let v : i ≡ y.1 = ap (λ (p : ℕ × ℕ). p.1) h ∙ ap (λ (p : ℕ × ℕ). p.1) g.root in
        next_root (net t) y (λ _. true) (g.to a, i) (port_of (g.to a) i y (λ m. (u m, v m)))
    none_kept a i r e (inr d) (Some q) l = let z = next_to (net s) x (λ _. true) a i q.0 q.1 l (no_port a i x d) refl in absurd (cc)
    none_kept a i r e (inr d) None l = next_none (net t) y (λ _. true) (g.to a) i (link_beyond t (g.to a) i (subst (λ (n : ℕ). n ≤ i) (sym (arities a r)) (beyond (in_range i (arity_of s a)))))
      where
        in_range : (m n : ℕ) → (m < n) ⊎ (n ≤ m)
        in_range zero zero = inr (omega arith)
        in_range zero (suc n) = inl (omega arith)
        in_range (suc m) zero = inr (omega arith)
        in_range (suc m) (suc n) = elim (in_range m n) [ inl h ↦ inl (omega (arith, h)) | inr h ↦ inr (omega (arith, h)) ]

        beyond : (i < arity_of s a) ⊎ (arity_of s a ≤ i) → arity_of s a ≤ i
        beyond (inl h) = let is = subst (λ (o : Option (ℕ × ℕ)). IsSome o) l (full.ends a i r h d) in absurd (cc)
        beyond (inr h) = h

module _ (s : Heap) (x y : ℕ × ℕ) (xs ys : List ℕ) (sound : Sound s) (full : IsWhole s x None) (part : IsPartInDepth s x xs) (part' : IsPartInDepth s y ys) where
  -- one map of the atoms carries one list to the other
  pub carried : (g : SameGraph (atom_map s) x (atom_map s) y) → map g.to xs ≡ ys
  carried g = determined (net s).arity (neighbour (net s) y (λ _. true))
      (walked s s x y xs g (λ a r. arity_by s (g.to a) a sound (g.functors a r)) full part) part'

module _ (s : Heap) (x y : ℕ × ℕ) (xs ys : List ℕ) (two : Two s x y xs ys) where
  pub same_list : (g : SameGraph (atom_map s) x (atom_map s) y) → map g.to xs ≡ ys
  same_list g = carried s x y xs ys two.sound two.full two.part two.part' g

  module _ (now : Heap) (seen : List ℕ) (depth a c i count : ℕ) (w : Following s now x y xs ys seen depth a c i count) where
    nets : net now ≡ net s
    nets = ap net w.walk.is ∙ net_painted s w.walk.marks

    a_seen : In a seen
    a_seen = w.walk.way_seen a (top_in (net s) (first_marks now) depth a)

    short : length seen ≤ length ys
    short = let h = longer (net s).arity (neighbour (net s) x (λ _. true)) w.rest in let l = two.long in omega (arith, h, l)

    -- the answer of a port but the root isn't the root
    other_side : (k : ℕ) → ◌≢◌ {A = ℕ × ℕ} (a, k) x → ◌≢◌ {A = ℕ × ℕ} (c, k) y
    other_side k d h =
        let u : answer seen ys a ≡ answer seen ys x.0 = sym w.answers ∙ ap (λ (p : ℕ × ℕ). p.0) h ∙ sym w.root in
        let a_is : a ≡ x.0 = answer_one seen ys a x.0 short (part_atoms s y ys two.part').0 a_seen w.walk.first u in
        let k_is : k ≡ x.1 = ap (λ (p : ℕ × ℕ). p.1) h ∙ sym two.ports in
        d (λ m. (a_is m, k_is m))

    -- what is at the answer's port is in the other part
    pub end_in : (k d l : ℕ) → ◌≢◌ {A = ℕ × ℕ} (a, k) x → link_of now c k ≡ Some (d, l) → In d ys
    end_in k d l apart given =
        let link : link_of s c k ≡ Some (d, l) = subst (λ (n : Net). n.link c k ≡ Some (d, l)) nets given in
        let c_in : In c ys = subst (λ (z : ℕ). In z ys) (sym w.answers) (answer_in seen ys a short a_seen) in
        part_reached s y ys two.part' d (across (((part_atoms s y ys two.part').1 c).0 c_in) (other_side k apart) link)

    -- past a port behind which an atom was met
    pub follow_past : (b j d : ℕ) → i < arity_of now a → is_port (a, i) x ≡ false → link_of now a i ≡ Some (b, j) → j < arity_of now b → link_of now c i ≡ Some (d, j)
        → first_marks now b ≢ 0 → first_marks now b / 256 ≡ first_marks now d / 256 → Following s now x y xs ys seen depth a c (i + 1) count
    follow_past b j d low other given_link port given_end marked_b same =
        let link : link_of s a i ≡ Some (b, j) = subst (λ (n : Net). n.link a i ≡ Some (b, j)) nets given_link in
        let end : link_of s c i ≡ Some (d, j) = subst (λ (n : Net). n.link c i ≡ Some (d, j)) nets given_end in
        let i_low : i < (net s).arity a = subst (λ (n : Net). i < n.arity a) nets low in
        let d_in : In d ys = end_in i d j (not_root a i x other) given_end in
        let rb : Reached (atom_map s) x b = across (w.walk.reached a a_seen) (not_root a i x other) link in
        let b_seen : In b seen = seen_of b (w.walk.off b rb) marked_b in
        let b_is : answer seen ys b ≡ d = answer_same (first_marks now) 2 b d seen ys w.walk.numbers w.numbers b_seen d_in same in
        let split : ports_ahead (net s) (first_marks now) depth a i ≡ (a, i) ∷ ports_ahead (net s) (first_marks now) depth a (i + 1) = ap (λ ps. ps ++ ports_behind (net s) (first_marks now) depth a) (port_left (net s) a i i_low) in
        record {
          walk = spreading_on s x None now seen depth a i depth a (i + 1) count w.walk
              (sought_marked (net now) (first_marks now) x depth a i depth a i b j (sought_none (net now) (first_marks now) x depth a i (way_now s now x None seen depth a i count w.walk)) low given_link port marked_b) (omega (arith, low));
          numbers = w.numbers;
          rest = past (net s).arity (neighbour (net s) x (λ _. true)) (subst (λ (ps : List (ℕ × ℕ)). Walk (net s).arity (neighbour (net s) x (λ _. true)) seen ps xs) split w.rest)
              (λ z e. subst (λ (t : ℕ). In t seen) (next_link (net s) x (λ _. true) a i b z j link e) b_seen);
          answers = w.answers;
          root = w.root;
          agreed = λ p k q l. elim (w.agreed p k q l) [
            | inl m ↦ elim (subst (HasPort (p, k)) split m) [
              | inl h ↦ inr (inr (subst (λ (t : ℕ × ℕ). SameEnd s seen ys t.0 t.1) h (λ b' j' e. agrees b' j' (same_pair (sym link ∙ e)) b_seen (ap (λ (z : ℕ). link_of s z i) (sym w.answers) ∙ end ∙ ap (λ (z : ℕ). let r : Option (ℕ × ℕ) = Some (z, j) in r) (sym b_is)))))
              | inr h ↦ inl h
            ]
            | inr m ↦ inr m
          ];
          functors = w.functors;
        }
      where
        seen_of : (b : ℕ) → ((In b seen → ⊥) → first_marks now b ≡ 0) → first_marks now b ≢ 0 → In b seen
        seen_of b h v = elim (in_or_not b seen) [ inl k ↦ k | inr d ↦ absurd (v (h d)) ]

        agrees : (b' j' : ℕ) → (b ≡ b') × (j ≡ j') → In b seen → link_of s (answer seen ys a) i ≡ Some (answer seen ys b, j) → In b' seen × (link_of s (answer seen ys a) i ≡ Some (answer seen ys b', j'))
        agrees b' j' e k l = (subst (λ (z : ℕ). In z seen) e.0 k, l ∙ (λ m. Some (answer seen ys (e.0 m), e.1 m)))

    -- what an equality of the parts says of the ends of a port and of its answer
    pub must : (g : SameGraph (atom_map s) x (atom_map s) y) (p : ℕ) → In p seen → g.to p ≡ answer seen ys p
    must g p k =
        let r = begins (net s).arity (neighbour (net s) x (λ _. true)) w.rest in
        sym (answer_map g.to seen r.0 p k) ∙ ap (λ (zs : List ℕ). answer seen zs p) (ap (map g.to) (sym r.1) ∙ same_list g)

    pub must_end : (g : SameGraph (atom_map s) x (atom_map s) y) (k b j : ℕ) → ◌≢◌ {A = ℕ × ℕ} (a, k) x → link_of now a k ≡ Some (b, j) → link_of now c k ≡ Some (g.to b, j)
    must_end g k b j apart given =
        let link : link_of s a k ≡ Some (b, j) = subst (λ (n : Net). n.link a k ≡ Some (b, j)) nets given in
        let ra = w.walk.reached a a_seen in
        let there = (g.joined a b k j ra (across ra apart link)).0 link in
        subst (λ (n : Net). n.link c k ≡ Some (g.to b, j)) (sym nets) (ap (λ (z : ℕ). link_of s z k) (w.answers ∙ sym (must g a a_seen)) ∙ there)

    pub must_number : (g : SameGraph (atom_map s) x (atom_map s) y) (b : ℕ) → In b seen → first_marks now b / 256 ≡ first_marks now (g.to b) / 256
    must_number g b k = sym (ap (λ (z : ℕ). first_marks now z / 256) (must g b k) ∙ number_of_answer (first_marks now) 2 b seen ys w.walk.numbers w.numbers short k)

    pub must_next : (g : SameGraph (atom_map s) x (atom_map s) y) (b j : ℕ) → i < arity_of now a → is_port (a, i) x ≡ false → link_of now a i ≡ Some (b, j) → first_marks now b ≡ 0
        → first_marks now (g.to b) / 256 ≡ 2 + count
    must_next g b j low other given fresh =
        let link : link_of s a i ≡ Some (b, j) = subst (λ (n : Net). n.link a i ≡ Some (b, j)) nets given in
        let i_low : i < (net s).arity a = subst (λ (n : Net). i < n.arity a) nets low in
        let new : In b seen → ⊥ = λ k. let h = w.walk.on b k in absurd (omega (arith, h, fresh)) in
        let split : ports_ahead (net s) (first_marks now) depth a i ≡ (a, i) ∷ ports_ahead (net s) (first_marks now) depth a (i + 1) = ap (λ ps. ps ++ ports_behind (net s) (first_marks now) depth a) (port_left (net s) a i i_low) in
        let f = found (net s).arity (neighbour (net s) x (λ _. true)) (subst (λ (ps : List (ℕ × ℕ)). Walk (net s).arity (neighbour (net s) x (λ _. true)) seen ps xs) split w.rest) b (next_to (net s) x (λ _. true) a i b j link other refl) new in
        let r = begins (net s).arity (neighbour (net s) x (λ _. true)) f in
        let n = number_next (first_marks now) 2 b g.to seen r.0 (subst (Numbered (first_marks now) 2) (sym (same_list g) ∙ ap (map g.to) (r.1 ∙ append_assoc seen (b ∷ []) r.0)) w.numbers) in
        n ∙ ap (λ (m : ℕ). 2 + m) w.walk.counted

    -- past the root
    pub follow_root : i < arity_of now a → is_port (a, i) x ≡ true → Following s now x y xs ys seen depth a c (i + 1) count
    follow_root low is =
        let i_low : i < (net s).arity a = subst (λ (n : Net). i < n.arity a) nets low in
        let split : ports_ahead (net s) (first_marks now) depth a i ≡ (a, i) ∷ ports_ahead (net s) (first_marks now) depth a (i + 1) = ap (λ ps. ps ++ ports_behind (net s) (first_marks now) depth a) (port_left (net s) a i i_low) in
        record {
          walk = spreading_on s x None now seen depth a i depth a (i + 1) count w.walk
              (sought_root (net now) (first_marks now) x depth a i depth a i (sought_none (net now) (first_marks now) x depth a i (way_now s now x None seen depth a i count w.walk)) low is) (omega (arith, low));
          numbers = w.numbers;
          rest = past (net s).arity (neighbour (net s) x (λ _. true)) (subst (λ (ps : List (ℕ × ℕ)). Walk (net s).arity (neighbour (net s) x (λ _. true)) seen ps xs) split w.rest)
              (λ z e. let f = next_root (net s) x (λ _. true) (a, i) is in absurd (cc));
          answers = w.answers;
          root = w.root;
          agreed = λ p k q l. elim (w.agreed p k q l) [
            | inl m ↦ elim (subst (HasPort (p, k)) split m) [
              | inl h ↦ inr (inl (sym h ∙ same_port a i x is))
              | inr h ↦ inl h
            ]
            | inr m ↦ inr m
          ];
          functors = w.functors;
        }

    -- back on both sides
    pub follow_back : (d p k q : ℕ) → depth ≡ d + 1 → i ≡ arity_of now a → link_of now a (entry_port (first_marks now a)) ≡ Some (p, k) → link_of now c (entry_port (first_marks now a)) ≡ Some (q, k)
        → k < arity_of now p → first_marks now p / 256 ≡ first_marks now q / 256 → Following s now x y xs ys seen d p q (k + 1) count
    follow_back d p k q deep full given_link given_end low same = by (subst (λ (z : ℕ). Following s now x y xs ys seen z a c i count) (deep ∙ add-one d) w) (subst (λ (n : Net). i ≡ n.arity a) nets full)
        (subst (λ (n : Net). n.link a (entry_port (first_marks now a)) ≡ Some (p, k)) nets given_link)
      where
        by : Following s now x y xs ys seen (suc d) a c i count → i ≡ (net s).arity a → (net s).link a (entry_port (first_marks now a)) ≡ Some (p, k) → Following s now x y xs ys seen d p q (k + 1) count
        by u end link =
            let back_is : ◌≡◌ {A = ℕ × ℕ} (back (net s) (first_marks now) a) (p, k) = ap or_zero link in
            let now_is : ◌≡◌ {A = ℕ × ℕ} (back (net now) (first_marks now) a) (p, k) = ap or_zero given_link in
            let apart : ◌≢◌ {A = ℕ × ℕ} (a, entry_port (first_marks now a)) x = λ h. u.walk.on_way.3 (ap (λ (r : ℕ × ℕ). r.0) h) in
            let moved_on : ports_ahead (net s) (first_marks now) (suc d) a i ≡ ports_ahead (net s) (first_marks now) d p (k + 1) =
            ap (λ ps. ps ++ ports_behind (net s) (first_marks now) (suc d) a) (no_port_left (net s) a i end)
            ∙ ap (λ (r : ℕ × ℕ). ports_from (net s) r.0 (r.1 + 1) ++ ports_behind (net s) (first_marks now) d r.0) back_is in
            let p_seen : In p seen = u.walk.way_seen p (inr (subst (λ (r : ℕ × ℕ). In p (way (net s) (first_marks now) d r.0)) (sym back_is) (top_in (net s) (first_marks now) d p))) in
            let q_in : In q ys = end_in (entry_port (first_marks now a)) q k apart given_end in
            let s0 = sought_none (net now) (first_marks now) x (suc d) a i (way_now s now x None seen (suc d) a i count u.walk) in
            let s1 = sought_back (net now) (first_marks now) x (suc d) a i (suc d) d a i refl s0 full in
            record {
              walk = spreading_on s x None now seen (suc d) a i d p (k + 1) count u.walk
                  (subst (λ (r : ℕ × ℕ). Sought (net now) (first_marks now) x (suc d) a i d r.0 (r.1 + 1)) now_is s1) (omega (arith, low));
              numbers = u.numbers;
              rest = subst (λ (ps : List (ℕ × ℕ)). Walk (net s).arity (neighbour (net s) x (λ _. true)) seen ps xs) moved_on u.rest;
              answers = sym (answer_same (first_marks now) 2 p q seen ys u.walk.numbers u.numbers p_seen q_in same);
              root = u.root;
              agreed = λ p' k' m l. elim (u.agreed p' k' m l) [ inl h ↦ inl (subst (HasPort (p', k')) moved_on h) | inr h ↦ inr h ];
              functors = u.functors;
            }

    -- an atom and its answer are entered
    pub follow_enter : (to : Heap) (b j d : ℕ) → to ≡ marked now b 0 (512 + 256 * count + j) → Sound now → CleanPart s x → i < arity_of now a → is_port (a, i) x ≡ false
        → link_of now a i ≡ Some (b, j) → link_of now b j ≡ Some (a, i) → j < arity_of now b → j < 256 → link_of now c i ≡ Some (d, j)
        → first_marks now b ≡ 0 → first_marks now d / 256 ≡ 2 + count → functor_of now d ≡ functor_of now b
        → Following s to x y xs ys (seen ++ b ∷ []) (depth + 1) b d 0 (count + 1)
    follow_enter to b j d made sound clean low other given_link given_back given_port small given_end fresh number given_functor =
        let n : Net = net s in
        let v : ℕ → ℕ = first_marks now in
        let u : ℕ → ℕ = first_marks to in
        let i_low : i < n.arity a = subst (λ (z : Net). i < z.arity a) nets low in
        let link : link_of s a i ≡ Some (b, j) = subst (λ (z : Net). z.link a i ≡ Some (b, j)) nets given_link in
        let back_link : link_of s b j ≡ Some (a, i) = subst (λ (z : Net). z.link b j ≡ Some (a, i)) nets given_back in
        let end : link_of s c i ≡ Some (d, j) = subst (λ (z : Net). z.link c i ≡ Some (d, j)) nets given_end in
        let new : In b seen → ⊥ = λ k. let h = w.walk.on b k in absurd (omega (arith, h, fresh)) in
        let away : (z : ℕ) → z ≢ b → u z ≡ v z = λ z e. ap (λ (h : Heap). first_marks h z) made ∙ mark_away now b (512 + 256 * count + j) z e in
        let here : u b ≡ 512 + 256 * count + j = ap (λ (h : Heap). first_marks h b) made ∙ mark_here now b (512 + 256 * count + j) (marks_there now b sound (omega (arith, given_port))) in
        let same : (z : ℕ) → In z (way n v depth a) → u z ≡ v z = λ z k. away z (λ e. new (subst (λ (t : ℕ). In t seen) e (w.walk.way_seen z k))) in
        let mark : entry_port (u b) ≡ j = ap entry_port here ∙ entry_is count j small in
        let next_ahead = ahead_enter n v u depth a i b j same mark back_link in
        let here_ahead = ahead_here n v u depth a i b j same mark back_link i_low in
        let f = found n.arity (neighbour n x (λ _. true)) (subst (λ (ps : List (ℕ × ℕ)). Walk n.arity (neighbour n x (λ _. true)) seen ps xs) here_ahead w.rest) b (next_to n x (λ _. true) a i b j link other refl) new in
        let b_in : In b xs = kept_seen n.arity (neighbour n x (λ _. true)) f b (in_last b seen) in
        let d_in : In d ys = end_in i d j (not_root a i x other) given_end in
        let d_is : answer (seen ++ b ∷ []) ys b ≡ d = answer_new v 2 b d seen ys w.numbers d_in (number ∙ ap (λ (m : ℕ). 2 + m) (sym w.walk.counted)) new in
        let functor_is : functor_of s d ≡ functor_of s b = sym (functor_now d) ∙ given_functor ∙ functor_now b in
        let step : SameEnd s (seen ++ b ∷ []) ys a i = λ b' j' e. agrees b b' j j' d (same_pair (sym link ∙ e)) (in_last b seen) d_is
        (ap (λ (z : ℕ). link_of s z i) (answer_grow seen ys b a a_seen ∙ sym w.answers) ∙ end) in
        let ahead_to : ports_ahead n u (suc depth) b 0 ≡ port_range b 0 (n.arity b) ++ (ports_from n a (i + 1) ++ ports_behind n v depth a) = next_ahead in
        subst (λ (k : ℕ). Following s to x y xs ys (seen ++ b ∷ []) k b d 0 (count + 1)) (sym (add-one depth)) (record {
          walk = subst (λ (k : ℕ). Spreading s to x None (seen ++ b ∷ []) k b 0 (count + 1)) (add-one depth)
              (entered s now to x None seen depth a i b j count made w.walk sound clean low given_link given_back given_port small other fresh tt);
          numbers = numbered_same v u 2 ys w.numbers (λ z k. away z (λ e. two.apart b b_in (subst (λ (t : ℕ). In t ys) e k)));
          rest = subst (λ (ps : List (ℕ × ℕ)). Walk n.arity (neighbour n x (λ _. true)) (seen ++ b ∷ []) ps xs) (sym ahead_to) f;
          answers = sym d_is;
          root = answer_grow seen ys b x.0 w.walk.first ∙ w.root;
          agreed = λ p k q l. subst (λ (ps : List (ℕ × ℕ)). HasPort (p, k) ps ⊎ ((◌≡◌ {A = ℕ × ℕ} (p, k) x) ⊎ SameEnd s (seen ++ b ∷ []) ys p k)) (sym ahead_to)
              (elim (in_snoc p b seen q) [
                | inl old ↦ elim (w.agreed p k old l) [
                  | inl m ↦ elim (subst (HasPort (p, k)) here_ahead m) [
                    | inl h ↦ inr (inr (subst (λ (t : ℕ × ℕ). SameEnd s (seen ++ b ∷ []) ys t.0 t.1) h step))
                    | inr h ↦ inl (holds_right (p, k) (port_range b 0 (n.arity b)) (ports_from n a (i + 1) ++ ports_behind n v depth a) h)
                  ]
                  | inr (inl h) ↦ inr (inl h)
                  | inr (inr h) ↦ inr (inr (λ b' j' e. grows b p b' j' k old (h b' j' e)))
                ]
                | inr e ↦ inl (holds_left (p, k) (port_range b 0 (n.arity b)) (ports_from n a (i + 1) ++ ports_behind n v depth a)
                    (subst (λ (z : ℕ). HasPort (z, k) (port_range b 0 (n.arity b))) (sym e) (holds_port b 0 (n.arity b) k (omega arith) (let m : k < n.arity b = subst (λ (z : ℕ). k < n.arity z) e l in omega (arith, m)))))
              ]);
          functors = λ p q. elim (in_snoc p b seen q) [
            | inl old ↦ ap (functor_of s) (answer_grow seen ys b p old) ∙ w.functors p old
            | inr e ↦ subst (λ (z : ℕ). functor_of s (answer (seen ++ b ∷ []) ys z) ≡ functor_of s z) (sym e) (ap (functor_of s) d_is ∙ functor_is)
          ];
        })
      where
        agrees : (b b' j j' d : ℕ) → (b ≡ b') × (j ≡ j') → In b (seen ++ b ∷ []) → answer (seen ++ b ∷ []) ys b ≡ d → link_of s (answer (seen ++ b ∷ []) ys a) i ≡ Some (d, j)
            → In b' (seen ++ b ∷ []) × (link_of s (answer (seen ++ b ∷ []) ys a) i ≡ Some (answer (seen ++ b ∷ []) ys b', j'))
        agrees b b' j j' d e k f l = (subst (λ (z : ℕ). In z (seen ++ b ∷ [])) e.0 k, l ∙ (λ m. Some ((sym f ∙ ap (answer (seen ++ b ∷ []) ys) e.0) m, e.1 m)))

        grows : (b p b' j' k : ℕ) → In p seen → In b' seen × (link_of s (answer seen ys p) k ≡ Some (answer seen ys b', j')) → In b' (seen ++ b ∷ []) × (link_of s (answer (seen ++ b ∷ []) ys p) k ≡ Some (answer (seen ++ b ∷ []) ys b', j'))
        grows b p b' j' k old h = (in_left b' seen (b ∷ []) h.0, ap (λ (z : ℕ). link_of s z k) (answer_grow seen ys b p old) ∙ h.1 ∙ ap (λ (z : ℕ). let r : Option (ℕ × ℕ) = Some (z, j') in r) (sym (answer_grow seen ys b b' h.0)))

        functor_now : (z : ℕ) → functor_of now z ≡ functor_of s z
        functor_now z = ap (λ (h : Heap). functor_of h z) w.walk.is ∙ paint_functor first_place (w.walk.marks z) (s.atoms z)

    -- at the end the parts are equal
    pub follow_done : depth ≡ 0 → i ≡ arity_of now a → SameGraph (atom_map s) x (atom_map s) y
    follow_done zero_deep full =
        let end : i ≡ (net s).arity a = subst (λ (n : Net). i ≡ n.arity a) nets full in
        let none = nothing_ahead s x None (net s) (first_marks now) depth a i zero_deep end in
        let all : seen ≡ xs = determined (net s).arity (neighbour (net s) x (λ _. true)) ends (subst (λ (ps : List (ℕ × ℕ)). Walk (net s).arity (neighbour (net s) x (λ _. true)) seen ps xs) none w.rest) in
        let long : length seen ≡ length ys = ap length all ∙ two.long in
        agree_same s x y seen ys two.sound two.full (subst (AreAtoms s x) (sym all) (part_atoms s x xs two.part)) (part_atoms s y ys two.part') long w.root two.ports w.functors
        (λ p k. arity_by s (answer seen ys p) p two.sound (w.functors p k))
        (λ p k b j q d e. (agreed_end none p k b j q d e (w.agreed p k q (link_inside s p k (b, j) e))).1)
        (λ p k b j e. link_inside s p k (b, j) e)
      where
        agreed_end : ports_ahead (net s) (first_marks now) depth a i ≡ [] → (p k b j : ℕ) → In p seen → ◌≢◌ {A = ℕ × ℕ} (p, k) x → link_of s p k ≡ Some (b, j)
            → HasPort (p, k) (ports_ahead (net s) (first_marks now) depth a i) ⊎ ((◌≡◌ {A = ℕ × ℕ} (p, k) x) ⊎ SameEnd s seen ys p k) → In b seen × (link_of s (answer seen ys p) k ≡ Some (answer seen ys b, j))
        agreed_end none p k b j q d e (inl m) = absurd (subst (HasPort (p, k)) none m)
        agreed_end none p k b j q d e (inr (inl h)) = absurd (d h)
        agreed_end none p k b j q d e (inr (inr h)) = h b j e

  -- the two roots
  pub follow_first : (now : Heap) → Numbered (first_marks s) 2 ys → now ≡ marked s x.0 0 (512 + x.1) → CleanPart s x → x.1 < arity_of s x.0 → x.1 < 256
      → functor_of s y.0 ≡ functor_of s x.0 → Following s now x y xs ys (x.0 ∷ []) 0 x.0 y.0 0 1
  follow_first now numbers made clean port small functor =
      let away : (z : ℕ) → z ≢ x.0 → first_marks now z ≡ first_marks s z = λ z e. ap (λ (h : Heap). first_marks h z) made ∙ mark_away s x.0 (512 + x.1) z e in
      let x_in : In x.0 xs = kept_seen (net s).arity (neighbour (net s) x (λ _. true)) two.part x.0 (inl refl) in
      let r = begins (net s).arity (neighbour (net s) y (λ _. true)) two.part' in
      let root_is : answer (x.0 ∷ []) ys x.0 ≡ y.0 = ap (λ (zs : List ℕ). answer (x.0 ∷ []) zs x.0) r.1 ∙ answer_here x.0 y.0 [] r.0 x.0 refl in
      let start : ports_from (net s) x.0 0 ++ [] ≡ port_range x.0 0 (arity_of s x.0) = to_none (ports_from (net s) x.0 0) ∙ ap (λ (k : ℕ). port_range x.0 0 k) (let z : arity_of s x.0 - 0 ≡ arity_of s x.0 = omega arith in z) in
      record {
        walk = subst (λ (h : Heap). Spreading s h x None (x.0 ∷ []) 0 x.0 0 1) (sym made) (spreading_first s x None (512 + x.1) two.sound clean port tt (omega arith) (omega (arith, small)));
        numbers = numbered_same (first_marks s) (first_marks now) 2 ys numbers (λ z k. away z (λ e. two.apart x.0 x_in (subst (λ (t : ℕ). In t ys) e k)));
        rest = subst (λ (ps : List (ℕ × ℕ)). Walk (net s).arity (neighbour (net s) x (λ _. true)) (x.0 ∷ []) ps xs) (sym start) two.part;
        answers = sym root_is;
        root = root_is;
        agreed = λ p k q l. inl (subst (HasPort (p, k)) (sym start) (at_first p k q l));
        functors = λ p q. first_only p q root_is;
      }
    where
      at_first : (p k : ℕ) → In p (x.0 ∷ []) → k < arity_of s p → HasPort (p, k) (port_range x.0 0 (arity_of s x.0))
      at_first p k (inl e) l = subst (λ (z : ℕ). HasPort (z, k) (port_range x.0 0 (arity_of s x.0))) e (holds_port x.0 0 (arity_of s x.0) k (omega arith) (let m : k < arity_of s x.0 = subst (λ (z : ℕ). k < arity_of s z) (sym e) l in omega (arith, m)))
      at_first p k (inr i) l = absurd i

      first_only : (p : ℕ) → In p (x.0 ∷ []) → answer (x.0 ∷ []) ys x.0 ≡ y.0 → functor_of s (answer (x.0 ∷ []) ys p) ≡ functor_of s p
      first_only p (inl e) f = subst (λ (z : ℕ). functor_of s (answer (x.0 ∷ []) ys z) ≡ functor_of s z) e (ap (functor_of s) f ∙ functor)
      first_only p (inr i) f = absurd i

  module _ (now : Heap) (seen : List ℕ) (depth a c i count : ℕ) (w : Following s now x y xs ys seen depth a c i count) where
    pub follow_way : OnWay (net now) (first_marks now) x depth a
    follow_way = way_now s now x None seen depth a i count w.walk

    pub follow_here : i ≤ arity_of now a
    follow_here = subst (λ (n : Net). i ≤ n.arity a) (sym (nets now seen depth a c i count w)) w.walk.here

    pub follow_arity : arity_of now c ≡ arity_of now a
    follow_arity = ap (λ (n : Net). n.arity c) (nets now seen depth a c i count w) ∙ ap (arity_of s) w.answers ∙ arity_by s (answer seen ys a) a two.sound (w.functors a (a_seen now seen depth a c i count w)) ∙ sym (ap (λ (n : Net). n.arity a) (nets now seen depth a c i count w))

    pub entry_low : 0 < depth → entry_port (first_marks now a) < arity_of now a
    entry_low l = by depth follow_way l
      where
        by : (d : ℕ) → OnWay (net now) (first_marks now) x d a → 0 < d → entry_port (first_marks now a) < arity_of now a
        by zero o l = absurd (omega (arith, l))
        by (suc d) o l = o.1

    pub entry_apart : 0 < depth → ◌≢◌ {A = ℕ × ℕ} (a, entry_port (first_marks now a)) x
    entry_apart l h = by depth follow_way l
      where
        by : (d : ℕ) → OnWay (net now) (first_marks now) x d a → 0 < d → ⊥
        by zero o l = absurd (omega (arith, l))
        by (suc d) o l = o.3 (ap (λ (r : ℕ × ℕ). r.0) h)

    pub both_none : (k : ℕ) → k < arity_of now a → ◌≢◌ {A = ℕ × ℕ} (a, k) x → ((b j d : ℕ) → link_of now a k ≡ Some (b, j) → link_of now c k ≡ Some (d, j) → ⊥)
        → SameGraph (atom_map s) x (atom_map s) y → ⊥
    both_none k l apart h g = by (link_of s a k) refl (two.full.ends a k (w.walk.reached a (a_seen now seen depth a c i count w)) (subst (λ (n : Net). k < n.arity a) (nets now seen depth a c i count w) l) apart)
      where
        by : (o : Option (ℕ × ℕ)) → link_of s a k ≡ o → IsSome (link_of s a k) → ⊥
        by None e is = let is' = subst (λ (o : Option (ℕ × ℕ)). IsSome o) e is in absurd (cc)
        by (Some q) e is =
            let f : link_of now a k ≡ Some q = subst (λ (n : Net). n.link a k ≡ Some q) (sym (nets now seen depth a c i count w)) e in
            h q.0 q.1 (g.to q.0) f (must_end now seen depth a c i count w g k q.0 q.1 apart f)

    image : (g : SameGraph (atom_map s) x (atom_map s) y) (k b j d : ℕ) → ◌≢◌ {A = ℕ × ℕ} (a, k) x → link_of now a k ≡ Some (b, j) → link_of now c k ≡ Some (d, j) → g.to b ≡ d
    image g k b j d apart link end = (same_pair (sym (must_end now seen depth a c i count w g k b j apart link) ∙ end)).0

    pub number_differs : (k b j d : ℕ) → ◌≢◌ {A = ℕ × ℕ} (a, k) x → link_of now a k ≡ Some (b, j) → link_of now c k ≡ Some (d, j) → In b seen
        → (first_marks now b / 256 ≡ first_marks now d / 256 → ⊥) → SameGraph (atom_map s) x (atom_map s) y → ⊥
    number_differs k b j d apart link end b_in h g = h (must_number now seen depth a c i count w g b b_in ∙ ap (λ (z : ℕ). first_marks now z / 256) (image g k b j d apart link end))

    pub next_differs : (b j d : ℕ) → i < arity_of now a → is_port (a, i) x ≡ false → link_of now a i ≡ Some (b, j) → link_of now c i ≡ Some (d, j) → first_marks now b ≡ 0
        → (first_marks now d / 256 ≡ 2 + count → ⊥) → SameGraph (atom_map s) x (atom_map s) y → ⊥
    next_differs b j d low other link end fresh h g =
        h (ap (λ (z : ℕ). first_marks now z / 256) (sym (image g i b j d (not_root a i x other) link end)) ∙ must_next now seen depth a c i count w g b j low other link fresh)

    pub functor_differs : (b j d : ℕ) → is_port (a, i) x ≡ false → link_of now a i ≡ Some (b, j) → link_of now c i ≡ Some (d, j)
        → (functor_of now d ≡ functor_of now b → ⊥) → SameGraph (atom_map s) x (atom_map s) y → ⊥
    functor_differs b j d other link end h g =
        let link' : link_of s a i ≡ Some (b, j) = subst (λ (n : Net). n.link a i ≡ Some (b, j)) (nets now seen depth a c i count w) link in
        let rb : Reached (atom_map s) x b = across (w.walk.reached a (a_seen now seen depth a c i count w)) (not_root a i x other) link' in
        let same : (z : ℕ) → functor_of now z ≡ functor_of s z = λ z. ap (λ (t : Heap). functor_of t z) w.walk.is ∙ paint_functor first_place (w.walk.marks z) (s.atoms z) in
        h (ap (functor_of now) (sym (image g i b j d (not_root a i x other) link end)) ∙ same (g.to b) ∙ g.functors b rb ∙ sym (same b))

    pub marked_seen : (b j : ℕ) → is_port (a, i) x ≡ false → link_of now a i ≡ Some (b, j) → first_marks now b ≢ 0 → In b seen
    marked_seen b j other link v =
        let link' : link_of s a i ≡ Some (b, j) = subst (λ (n : Net). n.link a i ≡ Some (b, j)) (nets now seen depth a c i count w) link in
        elim (in_or_not b seen) [ inl k ↦ k | inr d ↦ absurd (v (w.walk.off b (across (w.walk.reached a (a_seen now seen depth a c i count w)) (not_root a i x other) link') d)) ]

    pub back_seen : (p k : ℕ) → 0 < depth → link_of now a (entry_port (first_marks now a)) ≡ Some (p, k) → In p seen
    back_seen p k l link = by depth w.walk.way_seen l (subst (λ (n : Net). n.link a (entry_port (first_marks now a)) ≡ Some (p, k)) (nets now seen depth a c i count w) link)
      where
        by : (d : ℕ) → ((z : ℕ) → In z (way (net s) (first_marks now) d a) → In z seen) → 0 < d → (net s).link a (entry_port (first_marks now a)) ≡ Some (p, k) → In p seen
        by zero h l e = absurd (omega (arith, l))
        by (suc d) h l e = h p (inr (subst (λ (r : ℕ × ℕ). In p (way (net s) (first_marks now) d r.0)) (sym (ap or_zero e)) (top_in (net s) (first_marks now) d p)))
