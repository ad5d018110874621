-- What was copied is equal to the part, stands beside everything else, and its atoms are in order.
use Rattle.std.proofs.Common.{◌≡◌, ℕ, zero, suc, ◌+◌, ◌<◌, ◌≤◌, List, [], ◌∷◌, ◌++◌, length, map, Option, Some, None, IsSome, Result, Ok, Err, refl, sym, ap, subst, ◌∙◌, inl, inr, arith, append_assoc, ◌≢◌}
use Rattle.std.proofs.lemmas.List.{length-replicate}
use Rattle.std.specs.Option.{option_map}
use Rattle.std.specs.Result.{IfOk, OnErr}
use Rattle.std.specs.Prelude.{slice_get, slice_index_or, replicate}
use Rattle.lmn_base.specs.declared.functor.Functor.{Functor}
use Rattle.lmn_base.specs.Graphs.{Reached, at_root, across, SameGraph}
use Rattle.lmn_store_heap.specs.Heap.{Heap, HeapAtom, waiting, IsAtom, with_link, new_atom, partners_of, marks_of, functor_of, link_of, arity_of, place_of, joined}
use Rattle.lmn_store_heap.specs.Conditions.{Alone}
use Rattle.lmn_store_heap.specs.Sound.{Paired, Sound}
use Rattle.lmn_store_heap.specs.Graphs.{atom_map}
use Rattle.lmn_ground.specs.Marks.{paint, painted, first_marks}
use Rattle.lmn_ground.specs.Spread.{IsWhole, Numbered}
use Rattle.lmn_ground.specs.Copies.{unmarked_all, Remains, NumbersAtoms, Made, Copying, Gathered}
use Rattle.lmn_ground_parts.specs.Copies.{made_as, made_like, moved, joined_like, all_joined, ports_of, copied, AreNew, AllAtoms, LeadsOut, Beside, Copied, answer}
use Rattle.lmn_ground.proofs.PaintLaws.{net_painted, is_painted}
use Rattle.lmn_ground.proofs.SpreadLaws.{part_reached}
use Rattle.lmn_ground.proofs.GroundLaws.{part_atoms}
use Rattle.lmn_ground_parts.proofs.AnswerLaws.{map_answer, answer_here, answer_in, answer_one, answer_onto}
use Rattle.lmn_ground.proofs.NumberLaws.{begins, numbered_same}
use Rattle.lmn_ground.proofs.FollowLaws.{walked}
use Rattle.lmn_ground.proofs.JoinLaws.{like_by, all_view, all_marks, all_copying, all_away, all_joins}
use Rattle.lmn_ground.proofs.CopyLaws.{length_map, made_new}
use Rattle.lmn_ground.proofs.PaintedLaws.{all_painted, ports_painted, made_painted, unmarked_painted}
use Rattle.lmn_ground_parts.specs.Walks.{port_range, IsPartInDepth, HasPort, Net, net}
use Rattle.lmn_store_heap.proofs.Common.{decide_in as in_or_not, no_links, no_port, same_port, has_functor, is_not}
use Rattle.lmn_store_heap.proofs.Replacing.{port_within as link_inside}
use Rattle.lmn_base.specs.Lists.{In}
use Rattle.lmn_ground_parts.proofs.Common.{made_at, made_away, one_new as as_new, one_there as as_there, port_in}

abbrev no_mark : ℕ
no_mark = 0

-- a new atom has no marks
pub no_marks : (n i : ℕ) → slice_index_or (replicate n no_mark) i no_mark ≡ no_mark
no_marks zero i = refl
no_marks (suc n) zero = refl
no_marks (suc n) (suc i) = no_marks n i

pub link_at : (s : Heap) (y i : ℕ) (f : Functor) → s.atoms y ≡ Some (new_atom f) → link_of s y i ≡ None
link_at s y i f e = ap (λ (o : Option HeapAtom). slice_index_or (partners_of o) i None) e ∙ no_links f.arity i

-- making changes no other part of the heap
made_rest : {X : Type 0} (view : Heap → X) → ((s : Heap) (y : ℕ) (o : Option Functor) → view (made_as s y o) ≡ view s) → (s : Heap) (xs ys : List ℕ) → view (made_like s xs ys) ≡ view s
made_rest view h s [] ys = refl
made_rest view h s (x ∷ xs) [] = refl
made_rest view h s (x ∷ xs) (y ∷ ys) = made_rest view h (made_as s y (functor_of s x)) xs ys ∙ h s y (functor_of s x)

made_line : (s : Heap) (xs ys : List ℕ) → AllAtoms s xs → AreNew s ys → length ys ≤ length xs → (made_like s xs ys).new_atoms ≡ s.new_atoms ++ ys
made_line s [] [] h n l = none s.new_atoms
  where
    none : (zs : List ℕ) → zs ≡ zs ++ []
    none [] = refl
    none (z ∷ zs) = ap (λ ws. z ∷ ws) (none zs)
made_line s [] (y ∷ ys) h n l = absurd (omega arith)
made_line s (x ∷ xs) [] h n l = none s.new_atoms
  where
    none : (zs : List ℕ) → zs ≡ zs ++ []
    none [] = refl
    none (z ∷ zs) = ap (λ ws. z ∷ ws) (none zs)
made_line s (x ∷ xs) (y ∷ ys) h n l =
    made_line (made_as s y (functor_of s x)) xs ys (as_there s y (functor_of s x) xs (λ w k. h w (inr k)) (n.1 y (inl refl))) (as_new s y (functor_of s x) ys n) (omega (arith, l))
    ∙ ap (λ zs. zs ++ ys) (let f = has_functor s x (h x (inl refl)) in ap (λ (o : Option Functor). (made_as s y o).new_atoms) f.1)
    ∙ append_assoc s.new_atoms (y ∷ []) ys

as_root : (s : Heap) (y : ℕ) (o : Option Functor) → (made_as s y o).root ≡ s.root
as_root s y None = refl
as_root s y (Some f) = refl

as_mems : (s : Heap) (y : ℕ) (o : Option Functor) → (made_as s y o).mems ≡ s.mems
as_mems s y None = refl
as_mems s y (Some f) = refl

as_new_mems : (s : Heap) (y : ℕ) (o : Option Functor) → (made_as s y o).new_mems ≡ s.new_mems
as_new_mems s y None = refl
as_new_mems s y (Some f) = refl

-- what was made, and not joined
pub made_beside : (s : Heap) (xs ys : List ℕ) → AllAtoms s xs → AreNew s ys → length ys ≤ length xs → Beside s (made_like s xs ys) ys
made_beside s xs ys h n l = record {
  fresh = n;
  line = made_line s xs ys h n l;
  places = λ y k. (let m = made_new s xs ys y h n l k in ap (option_map (λ (t : HeapAtom). t.place)) m.1);
  marks = λ y i k. (let m = made_new s xs ys y h n l k in ap (λ (o : Option HeapAtom). slice_index_or (marks_of o) i 0) m.1 ∙ no_marks (m.0.arity + 1) i);
  alone = λ y i b j k e. absurd (none y i b j k e);
  kept = λ a d. made_away s xs ys a d;
  root = made_rest (λ (t : Heap). t.root) as_root s xs ys;
  mems = made_rest (λ (t : Heap). t.mems) as_mems s xs ys;
  new_mems = made_rest (λ (t : Heap). t.new_mems) as_new_mems s xs ys;
}
  where
    none : (y i b j : ℕ) → In y ys → link_of (made_like s xs ys) y i ≡ Some (b, j) → ⊥
    none y i b j k e =
        let m = made_new s xs ys y h n l k in
        let g : ◌≡◌ {A = Option (ℕ × ℕ)} None (Some (b, j)) = sym (link_at (made_like s xs ys) y i m.0 m.1) ∙ e in
        absurd (cc)

-- joining changes no other part of the heap
all_rest : {X : Type 0} (view : Heap → X) → ((s : Heap) (a i b j : ℕ) → view (joined s a i b j) ≡ view s) → (f : ℕ → ℕ) (root : ℕ × ℕ) (s : Heap) (ps : List (ℕ × ℕ)) → view (all_joined f root s ps) ≡ view s
all_rest view h f root s [] = refl
all_rest view h f root s (p ∷ ps) = all_rest view h f root (joined_like f root s p) ps ∙ like_by f root s p (λ t. view t ≡ view s) (λ _. refl) (λ b j e g. h s (f p.0) p.1 (f b) j)

place_linked : (i : ℕ) (p : Option (ℕ × ℕ)) (o : Option HeapAtom) → option_map (λ (t : HeapAtom). t.place) (option_map (with_link i p) o) ≡ option_map (λ (t : HeapAtom). t.place) o
place_linked i p None = refl
place_linked i p (Some x) = refl

functor_linked : (i : ℕ) (p : Option (ℕ × ℕ)) (o : Option HeapAtom) → option_map (λ (t : HeapAtom). t.functor) (option_map (with_link i p) o) ≡ option_map (λ (t : HeapAtom). t.functor) o
functor_linked i p None = refl
functor_linked i p (Some x) = refl

-- A heap s, in which a part is to be copied; u is the heap in which the copies are made: s, perhaps with other marks.
module _ (s u : Heap) (root : ℕ × ℕ) (xs ys : List ℕ) (sound : Sound s) (sound' : Sound u) (nets : net u ≡ net s) (part : IsPartInDepth s root xs) (there : AllAtoms u xs) (fresh : AreNew u ys)
    (long : length ys ≡ length xs) (outside : LeadsOut s root) where
  abbrev made : Heap
  made = made_like u xs ys

  not_new : (x : ℕ) → In x xs → In x ys → ⊥
  not_new x i j = is_not u x x (there x i) (fresh.1 x j) refl

  pub made_kept : (c : ℕ) → (In c ys → ⊥) → made.atoms c ≡ u.atoms c
  made_kept c d = made_away u xs ys c d

  link_made : (c k : ℕ) → (In c ys → ⊥) → link_of made c k ≡ link_of s c k
  link_made c k d = ap (λ (o : Option HeapAtom). slice_index_or (partners_of o) k None) (made_kept c d) ∙ ap (λ (n : Net). n.link c k) nets

  link_new : (y k : ℕ) → In y ys → link_of made y k ≡ None
  link_new y k i = let m = made_new u xs ys y there fresh (omega (arith, long)) i in link_at made y k m.0 m.1

  linked_old : (a i b j : ℕ) → link_of made a i ≡ Some (b, j) → (In a ys → ⊥)
  linked_old a i b j e k = let g : ◌≡◌ {A = Option (ℕ × ℕ)} None (Some (b, j)) = sym (link_new a i k) ∙ e in absurd (cc)

  -- an atom with a partner is not new
  partner_old : (b j a i : ℕ) → link_of s b j ≡ Some (a, i) → (In b ys → ⊥)
  partner_old b j a i e k =
      let f : link_of u b j ≡ Some (a, i) = subst (λ (n : Net). n.link b j ≡ Some (a, i)) (sym nets) e in
      let g : ◌≡◌ {A = Option (ℕ × ℕ)} None (Some (a, i)) = sym (ap (λ (o : Option HeapAtom). slice_index_or (partners_of o) j None) (fresh.1 b k)) ∙ f in absurd (cc)

  made_paired : Paired made
  made_paired = record {
    back = λ a i b j e. (
        let old : link_of s a i ≡ Some (b, j) = sym (link_made a i (linked_old a i b j e)) ∙ e in
        let back = sound.paired.back a i b j old in
        link_made b j (partner_old b j a i back) ∙ back);
    apart = λ a i e. sound.paired.apart a i (sym (link_made a i (linked_old a i a i e)) ∙ e);
  }

  part_in : (a : ℕ) → Reached (atom_map s) root a → In a xs
  part_in a r = part_reached s root xs part a r

  in_part : (a : ℕ) → In a xs → Reached (atom_map s) root a
  in_part a i = ((part_atoms s root xs part).1 a).0 i

  arity_new : (a : ℕ) → In a xs → arity_of made (answer xs ys a) ≡ arity_of made a
  arity_new a i =
      let f = has_functor u a (there a i) in
      ap (λ (o : Option HeapAtom). length (partners_of o)) (made_at u xs ys a there fresh (part_atoms s root xs part).0 long i ∙ ap (option_map new_atom) f.1)
      ∙ length-replicate f.0.arity no_port
      ∙ sym (ap (λ (o : Option HeapAtom). length (partners_of o)) (made_kept a (not_new a i)) ∙ sound'.shaped.ports a f.0 f.1)

  pub copying_made : Copying made root xs ys
  copying_made = record {
    there = λ x k. subst (λ (o : Option HeapAtom). IsSome o) (sym (made_kept x (not_new x k))) (there x k);
    first = part_in root.0 at_root;
    paired = made_paired;
    once = (part_atoms s root xs part).0;
    copies_once = fresh.0;
    long = long;
    apart = not_new;
    arities = arity_new;
    closed = λ a i b j k d e. (
        let old : link_of s a i ≡ Some (b, j) = sym (link_made a i (not_new a k)) ∙ e in (
          part_in b (across (in_part a k) d old),
          λ same. outside a i (in_part a k) (ap (λ (p : ℕ × ℕ). link_of s p.0 p.1) (sym same) ∙ sound.paired.back a i b j old),
        ));
    joined = λ a i k. inl (link_new (answer xs ys a) i (answer_in xs ys a (omega (arith, long)) k));
  }

ports_within : (all : List ℕ) (x i n : ℕ) (ps : List (ℕ × ℕ)) (p : ℕ × ℕ) → In x all → (HasPort p ps → In p.0 all) → HasPort p (port_range x i n ++ ps) → In p.0 all
ports_within all x i zero ps p x_in h k = h k
ports_within all x i (suc n) ps p x_in h (inl e) = subst (λ (q : ℕ × ℕ). In q.0 all) e x_in
ports_within all x i (suc n) ps p x_in h (inr k) = ports_within all x (i + 1) n ps p x_in h k

pub ports_of_in : (s : Heap) (xs all : List ℕ) → ((x : ℕ) → In x xs → In x all) → (p : ℕ × ℕ) → HasPort p (ports_of s xs) → In p.0 all
ports_of_in s [] all h p k = absurd k
ports_of_in s (x ∷ xs) all h p k = ports_within all x 0 (arity_of s x) (ports_of s xs) p (h x (inl refl)) (λ m. ports_of_in s xs all (λ z i. h z (inr i)) p m) k

module _ (s : Heap) (root : ℕ × ℕ) (xs ys : List ℕ) (sound : Sound s) (full : IsWhole s root None) (part : IsPartInDepth s root xs) (there : AllAtoms s xs) (fresh : AreNew s ys)
    (long : length ys ≡ length xs) (outside : LeadsOut s root) where
  abbrev start : Heap
  start = made_like s xs ys

  abbrev t : Heap
  t = copied s root xs ys

  start_copying : Copying start root xs ys
  start_copying = copying_made s s root xs ys sound sound refl part there fresh long outside

  held : (p : ℕ × ℕ) → HasPort p (ports_of start xs) → In p.0 xs
  held p k = ports_of_in start xs xs (λ x i. i) p k

  end_copying : Copying t root xs ys
  end_copying = all_copying root xs ys start (ports_of start xs) start_copying held

  in_xs : (a : ℕ) → Reached (atom_map s) root a → In a xs
  in_xs a r = part_reached s root xs part a r

  reached : (a : ℕ) → In a xs → Reached (atom_map s) root a
  reached a i = ((part_atoms s root xs part).1 a).0 i

  one : (a b : ℕ) → In a xs → In b xs → answer xs ys a ≡ answer xs ys b → a ≡ b
  one a b i j e = answer_one xs ys a b (omega (arith, long)) fresh.0 i j e

  old_atom : (c : ℕ) → (In c ys → ⊥) → t.atoms c ≡ s.atoms c
  old_atom c d = all_away root xs ys start (ports_of start xs) start_copying held c d ∙ made_away s xs ys c d

  link_t : (a i : ℕ) → In a xs → link_of t a i ≡ link_of s a i
  link_t a i k = ap (λ (o : Option HeapAtom). slice_index_or (partners_of o) i None) (old_atom a (start_copying.apart a k))

  arity_t : (a : ℕ) → In a xs → arity_of t (answer xs ys a) ≡ arity_of s a
  arity_t a k = end_copying.arities a k ∙ ap (λ (o : Option HeapAtom). length (partners_of o)) (old_atom a (start_copying.apart a k))

  -- where the copy of a port leads
  forth : (a b i j : ℕ) → In a xs → In b xs → link_of s a i ≡ Some (b, j) → link_of t (answer xs ys a) i ≡ Some (answer xs ys b, j)
  forth a b i j k l e =
      let start_link : link_of start a i ≡ Some (b, j) = ap (λ (o : Option HeapAtom). slice_index_or (partners_of o) i None) (made_away s xs ys a (start_copying.apart a k)) ∙ e in
      let r = all_joins root xs ys start (ports_of start xs) start_copying held a i (port_in start xs a i k (link_inside start a i (b, j) start_link))
      (λ same. outside b j (reached b l) (ap (λ (p : ℕ × ℕ). link_of s p.0 p.1) (sym same) ∙ e)) (subst (λ (o : Option (ℕ × ℕ)). IsSome o) (sym start_link) refl) in
      r.2 ∙ ap (option_map (moved (answer xs ys))) (link_t a i k ∙ e)

  -- what the copy of a port leads to, the port leads to
  came : (a i : ℕ) (q : ℕ × ℕ) → In a xs → link_of t (answer xs ys a) i ≡ Some q
      → (◌≢◌ {A = ℕ × ℕ} (a, i) root) × ((p : ℕ × ℕ) × (link_of s a i ≡ Some p) × In p.0 xs × (◌≡◌ {A = ℕ × ℕ} (answer xs ys p.0, p.1) q))
  came a i q k e = elim (end_copying.joined a i k) [
    | inl n ↦ (let g : ◌≡◌ {A = Option (ℕ × ℕ)} None (Some q) = sym n ∙ e in absurd (cc))
    | inr r ↦ (r.0, by (link_of t a i) refl r.1 (sym r.2 ∙ e) r.0)
  ]
    where
      by : (o : Option (ℕ × ℕ)) → link_of t a i ≡ o → IsSome (link_of t a i) → option_map (moved (answer xs ys)) (link_of t a i) ≡ Some q → ◌≢◌ {A = ℕ × ℕ} (a, i) root
          → (p : ℕ × ℕ) × (link_of s a i ≡ Some p) × In p.0 xs × (◌≡◌ {A = ℕ × ℕ} (answer xs ys p.0, p.1) q)
      by None g is h d = let is' = subst (λ (o : Option (ℕ × ℕ)). IsSome o) g is in absurd (cc)
      by (Some p) g is h d =
          let h' : ◌≡◌ {A = Option (ℕ × ℕ)} (Some (answer xs ys p.0, p.1)) (Some q) = sym (ap (option_map (moved (answer xs ys))) g) ∙ h in
          let m = same_port h' in
          (p, sym (link_t a i k) ∙ g, (end_copying.closed a i p.0 p.1 k d g).0, λ z. (m.0 z, m.1 z))

  back : (a b i j : ℕ) → In a xs → In b xs → link_of t (answer xs ys a) i ≡ Some (answer xs ys b, j) → link_of s a i ≡ Some (b, j)
  back a b i j k l e =
      let h = came a i (answer xs ys b, j) k e in
      let m : h.1.0.0 ≡ b = one h.1.0.0 b h.1.2 l (ap (λ (p : ℕ × ℕ). p.0) h.1.3) in
      let n : h.1.0.1 ≡ j = ap (λ (p : ℕ × ℕ). p.1) h.1.3 in
      h.1.1 ∙ (λ z. Some (m z, n z))

  abbrev new_root : ℕ × ℕ
  new_root = (answer xs ys root.0, root.1)

  into : (a : ℕ) → Reached (atom_map s) root a → Reached (atom_map t) new_root (answer xs ys a)
  into a at_root = at_root
  into b (across {a = a} {i = i} {j = j} r d e) = across (into a r)
      (λ same. d (let g : a ≡ root.0 = one a root.0 (in_xs a r) (in_xs root.0 at_root) (ap (λ (p : ℕ × ℕ). p.0) same) in let h : i ≡ root.1 = ap (λ (p : ℕ × ℕ). p.1) same in λ z. (g z, h z)))
      (forth a b i j (in_xs a r) (in_xs b (across r d e)) e)

  onto : (y : ℕ) → Reached (atom_map t) new_root y → (a : ℕ) × Reached (atom_map s) root a × (answer xs ys a ≡ y)
  onto y at_root = (root.0, at_root, refl)
  onto y (across {a = c} {i = i} {j = j} r d e) =
      let h = onto c r in
      let e' : link_of t (answer xs ys h.0) i ≡ Some (y, j) = ap (λ (z : ℕ). link_of t z i) h.2 ∙ e in
      let w = came h.0 i (y, j) (in_xs h.0 h.1) e' in
      (w.1.0.0, across h.1 w.0 w.1.1, ap (λ (p : ℕ × ℕ). p.0) w.1.3)

  functor_t : (a : ℕ) → In a xs → functor_of t (answer xs ys a) ≡ functor_of s a
  functor_t a k =
      all_view (λ (o : Option HeapAtom). option_map (λ (x : HeapAtom). x.functor) o) functor_linked (answer xs ys) root start (ports_of start xs) (answer xs ys a)
      ∙ ap (option_map (λ (x : HeapAtom). x.functor)) (made_at s xs ys a there fresh (part_atoms s root xs part).0 long k) ∙ by (functor_of s a)
    where
      by : (o : Option Functor) → option_map (λ (x : HeapAtom). x.functor) (option_map new_atom o) ≡ o
      by None = refl
      by (Some f) = refl

  pub copied_same : SameGraph (atom_map s) root (atom_map t) new_root
  copied_same = record {
    to = answer xs ys;
    into = into;
    onto = onto;
    one_to_one = λ a b r q e. one a b (in_xs a r) (in_xs b q) e;
    functors = λ a r. functor_t a (in_xs a r);
    joined = λ a b i j r q. (forth a b i j (in_xs a r) (in_xs b q), back a b i j (in_xs a r) (in_xs b q));
    root = refl;
  }

  pub answers_are : (a : ℕ) → copied_same.to a ≡ answer xs ys a
  unfolding copied_same
  answers_are a = refl

  pub copied_part : IsPartInDepth t new_root ys
  unfolding copied_same
  copied_part = subst (IsPartInDepth t new_root) (map_answer xs ys (part_atoms s root xs part).0 long)
      (walked s t root new_root xs copied_same (λ a r. arity_t a (in_xs a r)) full part)

  pub copied_free : link_of t new_root.0 new_root.1 ≡ None
  copied_free = elim (end_copying.joined root.0 root.1 (in_xs root.0 at_root)) [ inl n ↦ n | inr r ↦ absurd (r.0 refl) ]

  pub copied_beside : Beside s t ys
  copied_beside =
      let m = made_beside s xs ys there fresh (omega (arith, long)) in
      record {
        fresh = fresh;
        line = all_rest (λ (h : Heap). h.new_atoms) (λ h a i b j. refl) (answer xs ys) root start (ports_of start xs) ∙ m.line;
        places = λ y k. all_view (λ (o : Option HeapAtom). option_map (λ (x : HeapAtom). x.place) o) place_linked (answer xs ys) root start (ports_of start xs) y ∙ m.places y k;
        marks = λ y i k. all_marks (answer xs ys) root start (ports_of start xs) y i ∙ m.marks y i k;
        alone = λ y i b j k e. (
            let h = answer_onto xs ys y (sym long) (part_atoms s root xs part).0 k in
            let w = came h.0 i (b, j) h.1 (ap (λ (z : ℕ). link_of t z i) h.2 ∙ e) in
            subst (λ (z : ℕ). In z ys) (ap (λ (p : ℕ × ℕ). p.0) w.1.3) (answer_in xs ys w.1.0.0 (omega (arith, long)) w.1.2));
        kept = old_atom;
        root = all_rest (λ (h : Heap). h.root) (λ h a i b j. refl) (answer xs ys) root start (ports_of start xs) ∙ m.root;
        mems = all_rest (λ (h : Heap). h.mems) (λ h a i b j. refl) (answer xs ys) root start (ports_of start xs) ∙ m.mems;
        new_mems = all_rest (λ (h : Heap). h.new_mems) (λ h a i b j. refl) (answer xs ys) root start (ports_of start xs) ∙ m.new_mems;
      }

-- the copy of the root's atom is the first
pub first_answer : {A : Type 0} (id : A → ℕ) (s : Heap) (root : ℕ × ℕ) (xs : List ℕ) (ys : List A) (c : A) → IsPartInDepth s root xs → slice_get ys 0 ≡ Some c → id c ≡ answer xs (map id ys) root.0
first_answer id s root xs [] c part e = absurd (cc)
first_answer id s root xs (y ∷ ys) c part e =
    let g : y ≡ c = (cc) in
    let r = begins (net s).arity _ part in
    subst (λ (zs : List ℕ). id c ≡ answer zs (id y ∷ map id ys) root.0) (sym r.1)
    (ap id (sym g) ∙ sym (answer_here root.0 (id y) r.0 (map id ys) root.0 refl))

-- a part has a first atom, and so have its copies
pub some_first : {A : Type 0} (id : A → ℕ) (s : Heap) (root : ℕ × ℕ) (xs ys : List A) → IsPartInDepth s root (map id xs) → length ys ≡ length xs → 0 < length ys
some_first id s root xs ys part e =
    let r = begins (net s).arity _ part in
    let l = ap (λ (zs : List ℕ). length zs) r.1 in
    let m = length_map id xs in
    omega (arith, l, m, e)

-- What a walk leaves: numbers in the marks of some atoms.
module _ (s now : Heap) (xs : List ℕ) (marks : NumbersAtoms s now xs) where
  pub numbers_there : AllAtoms now xs
  numbers_there x k = subst (λ (h : Heap). IsAtom h x) (sym marks.is) (is_painted s marks.marks x (marks.there x k))

  pub numbers_net : net now ≡ net s
  numbers_net = ap net marks.is ∙ net_painted s marks.marks

  no_atom_before : (y : ℕ) → now.atoms y ≡ None → s.atoms y ≡ None
  no_atom_before y e = by (marks.marks y) (s.atoms y) (sym (ap (λ (h : Heap). h.atoms y) marks.is) ∙ e)
    where
      by : (m : ℕ) (o : Option HeapAtom) → paint m o ≡ None → o ≡ None
      by zero o e = e
      by (suc m) None e = refl
      by (suc m) (Some h) e = absurd (cc)

  no_mark_new : (zs : List ℕ) → AreNew now zs → (y : ℕ) → In y zs → marks.marks y ≡ 0
  no_mark_new zs n y k = marks.outside y (λ i. is_not now y y (numbers_there y i) (n.1 y k) refl)

  pub new_before : (zs : List ℕ) → AreNew now zs → AreNew s zs
  new_before zs n = (n.0, λ y k. no_atom_before y (n.1 y k))

  pub old_marks : (zs : List ℕ) → AreNew now zs → (x : ℕ) → In x xs → first_marks (made_like s xs zs) x ≡ 0
  old_marks zs n x k =
      ap (λ (o : Option HeapAtom). slice_index_or (marks_of o) 0 0) (made_away s xs zs x (λ i. is_not now x x (numbers_there x k) (n.1 x i) refl)) ∙ marks.clean x k

  pub made_is : (to : Heap) (zs : List ℕ) → Made now to xs zs → to ≡ painted (made_like s xs zs) marks.marks
  made_is to zs m = m.is ∙ ap (λ (h : Heap). made_like h xs zs) marks.is ∙ made_painted s marks.marks xs zs (no_mark_new zs m.fresh)

  -- nothing was made
  pub remains_none : Remains s (unmarked_all now xs)
  remains_none =
      let e : unmarked_all now xs ≡ s = ap (λ (h : Heap). unmarked_all h xs) marks.is ∙ unmarked_painted s marks.marks xs marks.clean marks.outside in
      record {
        atoms = [];
        copies = [];
        there = λ x k. absurd k;
        is = e;
        beside = subst (λ (h : Heap). Beside s h []) (sym e) (made_beside s [] [] (λ x k. absurd k) (tt, λ y k. absurd k) (omega arith));
      }

  -- some copies were made
  pub remains_some : (to : Heap) (zs : List ℕ) → Made now to xs zs → Remains s (unmarked_all to xs)
  remains_some to zs m =
      let e : unmarked_all to xs ≡ made_like s xs zs = ap (λ (h : Heap). unmarked_all h xs) (made_is to zs m) ∙ unmarked_painted (made_like s xs zs) marks.marks xs (old_marks zs m.fresh) marks.outside in
      record {
        atoms = xs;
        copies = zs;
        there = marks.there;
        is = e;
        beside = subst (λ (h : Heap). Beside s h zs) (sym e) (made_beside s xs zs marks.there (new_before zs m.fresh) m.short);
      }

  pub made_there : (to : Heap) (zs : List ℕ) → Made now to xs zs → AllAtoms to xs
  made_there to zs m x k = subst (λ (h : Heap). IsAtom h x) (sym m.is)
      (subst (λ (o : Option HeapAtom). IsSome o) (sym (made_away now xs zs x (λ i. is_not now x x (numbers_there x k) (m.fresh.1 x i) refl))) (numbers_there x k))

  -- all copies were made
  module _ (root : ℕ × ℕ) (to : Heap) (ys : List ℕ) (made : Made now to xs ys) (found : Gathered s now root xs) (long : length ys ≡ length xs) (sound : Sound s) (sound' : Sound now)
      (outside : LeadsOut s root) where
    pub copies_ready : Copying to root xs ys
    copies_ready = subst (λ (h : Heap). Copying h root xs ys) (sym made.is) (copying_made s now root xs ys sound sound' numbers_net found.part numbers_there made.fresh long outside)

    pub copies_numbered : Numbered (first_marks to) 2 xs
    copies_numbered = subst (λ (h : Heap). Numbered (first_marks h) 2 xs) (sym made.is)
        (numbered_same (first_marks now) (first_marks (made_like now xs ys)) 2 xs found.numbers
        (λ z i. ap (λ (o : Option HeapAtom). slice_index_or (marks_of o) 0 0) (made_away now xs ys z (λ k. is_not now z z (numbers_there z i) (made.fresh.1 z k) refl))))

    module _ (end : Heap) (joined_is : end ≡ all_joined (answer xs ys) root to (ports_of to xs)) where
      pub joined_there : AllAtoms end xs
      joined_there x k = subst (λ (h : Heap). IsAtom h x) (sym joined_is)
          ((all_copying root xs ys to (ports_of to xs) copies_ready (λ p i. ports_of_in to xs xs (λ z m. m) p i)).there x k)

      pub copied_all : (full : IsWhole s root None) → Copied s (unmarked_all end xs) root (answer xs ys root.0, root.1)
      copied_all full =
          let fresh : AreNew s ys = new_before ys made.fresh in
          let e : end ≡ painted (copied s root xs ys) marks.marks =
          joined_is ∙ ap (λ (h : Heap). all_joined (answer xs ys) root h (ports_of h xs)) (made_is to ys made)
          ∙ ap (all_joined (answer xs ys) root (painted (made_like s xs ys) marks.marks)) (ports_painted (made_like s xs ys) marks.marks xs)
          ∙ all_painted (answer xs ys) root (made_like s xs ys) marks.marks (ports_of (made_like s xs ys) xs) in
          let f : unmarked_all end xs ≡ copied s root xs ys =
          ap (λ (h : Heap). unmarked_all h xs) e
          ∙ unmarked_painted (copied s root xs ys) marks.marks xs
          (λ x k. all_marks (answer xs ys) root (made_like s xs ys) (ports_of (made_like s xs ys) xs) x 0 ∙ old_marks ys made.fresh x k) marks.outside in
          let same = subst (λ (h : Heap). (g : SameGraph (atom_map s) root (atom_map h) (answer xs ys root.0, root.1)) × ((a : ℕ) → g.to a ≡ answer xs ys a)) (sym f)
          (copied_same s root xs ys sound full found.part marks.there fresh long outside, answers_are s root xs ys sound full found.part marks.there fresh long outside) in
          record {
            atoms = xs;
            copies = ys;
            part = found.part;
            is = f;
            beside = subst (λ (h : Heap). Beside s h ys) (sym f) (copied_beside s root xs ys sound full found.part marks.there fresh long outside);
            same = same.0;
            long = long;
            answers = same.1;
            in_order = subst (λ (h : Heap). IsPartInDepth h (answer xs ys root.0, root.1) ys) (sym f) (copied_part s root xs ys sound full found.part marks.there fresh long outside);
            free = subst (λ (h : Heap). link_of h (answer xs ys root.0) root.1 ≡ None) (sym f) (copied_free s root xs ys sound full found.part marks.there fresh long outside);
          }

-- Detached atoms are joined to detached atoms alone, if they were before.
beside_alone : (s t : Heap) (ys : List ℕ) → Beside s t ys → Alone s → Alone t
beside_alone s t ys d h a i b j place link = elim (in_or_not a ys) [
  | inl k ↦ d.places b (d.alone a i b j k link)
  | inr n ↦
      let was : place_of s b ≡ Some waiting = h a i b j (sym (ap (option_map (λ (x : HeapAtom). x.place)) (d.kept a n)) ∙ place) (sym (ap (λ (o : Option HeapAtom). slice_index_or (partners_of o) i None) (d.kept a n)) ∙ link) in
      ap (option_map (λ (x : HeapAtom). x.place)) (d.kept b (λ k. gone_by (s.atoms b) (d.fresh.1 b k) was)) ∙ was
]
  where
    gone_by : (o : Option HeapAtom) → o ≡ None → option_map (λ (x : HeapAtom). x.place) o ≡ Some waiting → ⊥
    gone_by None e f = absurd (cc)
    gone_by (Some x) e f = absurd (cc)

-- what waits is alone whether a copy was made or not
pub alone_after : {A E : Type 0} (s t u : Heap) (r : Result A E) (x : ℕ × ℕ) (y : A → ℕ × ℕ) → IfOk r (λ c. Copied s t x (y c)) → OnErr r (Remains s t) → u ≡ t → Alone s → Alone u
alone_after s t u (Ok c) x y h k e d = subst Alone (sym e) (beside_alone s t h.copies h.beside d)
alone_after s t u (Err n) x y h k e d = subst Alone (sym e) (beside_alone s t k.copies k.beside d)
