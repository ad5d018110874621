-- How often ports stand in the code of a head: by the pairs of places that a link has there.
use Rattle.std.proofs.Common.{◌≡◌, ◌<◌, ◌+◌, ◌==◌, ◌&&◌, ℕ, zero, suc, Bool, true, false, if◌then◌else◌, List, [], ◌∷◌, ◌++◌, refl, sym, ap, ◌∙◌, subst, arith, true≢false}
use Rattle.std.specs.Prelude.{Option, Some, None, slice_get, take}
use Rattle.std.proofs.lemmas.List.{append_assoc}
use Rattle.lmn_base.proofs.Lists.{plus_nothing}
use Rattle.lmn_base.proofs.Numbers.{equal_itself, not_equal}
use Rattle.lmn_base.specs.Graphs.{Port}
use Rattle.lmn_base.specs.declared.guard.Cond.{Cond}
use Rattle.lmn_store_heap.specs.Functors.{same_functor}
use Rattle.lmn_guards.specs.declared.plan.TypeKind.{TypeKind}
use Rattle.lmn_guards.specs.declared.plan.TypeKind.TheVariants as kind
use Rattle.lmn_solid_heads.specs.declared.items.HeadItem.{HeadItem}
use Rattle.lmn_solid_heads.specs.declared.items.HeadItem.TheVariants.{Atom, Typed, Membrane}
use Rattle.lmn_solid_heads.specs.Heads.{HeadAtom, HeadTyped, HeadMembrane, Occurrence, atoms_of, typed_contexts_of, membranes_of, at_ports, at_atoms, links_of_head, times, outermost}
use Rattle.lmn_solid_heads.specs.Guards.{typed_number}
use Rattle.lmn_solid_heads.specs.Embeddings.{HasAtom}
use Rattle.lmn_instr_code.specs.declared.instr.NewPort.{NewPort}
use Rattle.lmn_instr_code.specs.declared.instr.NewPort.TheVariants as new
use Rattle.lmn_instr_code.specs.declared.instr.Instr.{Instr}
use Rattle.lmn_instr_code.specs.declared.instr.Instr.TheVariants.{Deref, Joined, NotIn, NeqAtom, NeqMem, IsInt, IsUnary, IsGround, NewLink, Relink, Unify, Commit}
use Rattle.lmn_instr_code.specs.HeadCode.{Entry, entry, entry_or, entry_from, find_port, operand, occurrences_before, open_code, joined_code, port_code, is_entry, test_of, part_code, found_code, differ_code, ports_code, atom_code, differ_membrane_code, membrane_code, items_code, parts_code, all_filled_code, guard_code, head_code}
use Rattle.lmn_compile_head.proofs.Places.{occurs, entry_stands}
use Rattle.lmn_verify_code.specs.Verified.{places}
use Rattle.lmn_verify_compiled.proofs.HeadShapes.{asks_membrane, is_of_guard, all_filled, guards}
use Rattle.lmn_verify_compiled.proofs.Counting.{stands, stands_append, stands_none, none_both}

-- ---- lists

-- what is found in front is found in the whole
pub find_front : (x : ℕ) (os more : List Occurrence) (p : Port) → find_port x os ≡ Some p → find_port x (os ++ more) ≡ Some p
find_front x [] more p e = absurd (cc)
find_front x (o ∷ os) more p e = by (o.link == x) e (find_front x os more p)
  where
    by : (b : Bool) → (if b then Some o.port else find_port x os) ≡ Some p → (find_port x os ≡ Some p → find_port x (os ++ more) ≡ Some p) → (if b then Some o.port else find_port x (os ++ more)) ≡ Some p
    by true e later = e
    by false e later = later e

-- the ports of an atom, one by one
ports_next : (n k : ℕ) (xs : List ℕ) (i x : ℕ) → slice_get xs i ≡ Some x → at_ports n k (take (suc i) xs) ≡ at_ports n k (take i xs) ++ occurs x (n, k + i) ∷ []
ports_next n k [] i x e = absurd (cc)
ports_next n k (y ∷ ys) zero x e = let same : y ≡ x = cc in let here : k ≡ k + 0 = omega arith in λ t. occurs (same t) (n, here t) ∷ []
ports_next n k (y ∷ ys) (suc i) x e =
    let next : (k + 1) + i ≡ k + suc i = omega arith in
    ap (λ os. occurs y (n, k) ∷ os) (ports_next n (k + 1) ys i x e ∙ ap (λ j. at_ports n (k + 1) (take i ys) ++ occurs x (n, j) ∷ []) next)

-- the atoms of a head, one by one
atoms_next : (m : ℕ) (as' : List HeadAtom) (n : ℕ) (a : HeadAtom) → slice_get as' n ≡ Some a → at_atoms m (take (suc n) as') ≡ at_atoms m (take n as') ++ at_ports (m + n) 0 a.links
atoms_next m [] n a e = absurd (cc)
atoms_next m (b ∷ bs) zero a e =
    let same : b ≡ a = cc in
    let here : m ≡ m + 0 = omega arith in
    plus_nothing (at_ports m 0 b.links) ∙ (λ t. at_ports (here t) 0 (same t).links)
atoms_next m (b ∷ bs) (suc n) a e =
    let next : (m + 1) + n ≡ m + suc n = omega arith in
    ap (λ os. at_ports m 0 b.links ++ os) (atoms_next (m + 1) bs n a e)
    ∙ sym (append_assoc (at_ports m 0 b.links) (at_atoms (m + 1) (take n bs)) (at_ports ((m + 1) + n) 0 a.links))
    ∙ ap (λ k. (at_ports m 0 b.links ++ at_atoms (m + 1) (take n bs)) ++ at_ports k 0 a.links) next

-- what stands before a port, and it, stands before the next
before_next : (items : List HeadItem) (n : ℕ) (a : HeadAtom) (i x : ℕ) → slice_get a.links i ≡ Some x → occurrences_before items n a (i + 1) ≡ occurrences_before items n a i ++ occurs x (n, i) ∷ []
before_next items n a i x e =
    let first = at_atoms 0 (take n (atoms_of items)) in
    let number : i + 1 ≡ suc i = omega arith in
    let here : 0 + i ≡ i = omega arith in
    ap (λ k. first ++ at_ports n 0 (take k a.links)) number
    ∙ ap (λ os. first ++ os) (ports_next n 0 a.links i x e ∙ ap (λ j. at_ports n 0 (take i a.links) ++ occurs x (n, j) ∷ []) here)
    ∙ sym (append_assoc first (at_ports n 0 (take i a.links)) (occurs x (n, i) ∷ []))

-- ---- pairs

module _ (t : NewPort → Bool) where
  -- 1 where a port of the head passes
  abbrev pub hit : Port → ℕ
  hit p = if t (new.Atom (operand p)) then 1 else 0

  -- of a port and of the one that its link stood at before
  abbrev pub joins : Port → Option Port → ℕ
  joins p None = 0
  joins p (Some q) = hit q + hit p

  -- of each port whose link stood before, and of the first such place
  abbrev pub pairs : List Occurrence → List Occurrence → ℕ
  pairs before [] = 0
  pairs before (o ∷ os) = joins o.port (find_port o.link before) + pairs (before ++ o ∷ []) os

  pub pairs_append : (before xs ys : List Occurrence) → pairs before (xs ++ ys) ≡ pairs before xs + pairs (before ++ xs) ys
  pairs_append before [] ys = let e = ap (λ b. pairs b ys) (plus_nothing before) in omega (arith, e)
  pairs_append before (x ∷ xs) ys =
      let e = pairs_append (before ++ x ∷ []) xs ys in
      let f = ap (λ b. pairs b ys) (append_assoc before (x ∷ []) xs) in
      omega (arith, e, f)

  -- 1 where the place of a typed context's link passes
  abbrev pub part_hit : Option Port → ℕ
  part_hit None = 0
  part_hit (Some q) = hit q

  abbrev pub part_hits : List Occurrence → List HeadTyped → ℕ
  part_hits os [] = 0
  part_hits os (u ∷ us) = part_hit (find_port u.link os) + part_hits os us

  -- ---- code without places

  abbrev None' : List Instr → Type 0
  None' xs = stands t xs ≡ 0

  asks_none : (i : Instr) → asks_membrane i ≡ true → places i ≡ []
  asks_none (Deref _ _ _) h = absurd (true≢false (sym h))
  asks_none (Joined _ _) h = absurd (true≢false (sym h))
  asks_none (IsInt _ _ _) h = absurd (true≢false (sym h))
  asks_none (IsUnary _ _ _) h = absurd (true≢false (sym h))
  asks_none (IsGround _ _ _) h = absurd (true≢false (sym h))
  asks_none (NewLink _ _) h = absurd (true≢false (sym h))
  asks_none (Relink _ _) h = absurd (true≢false (sym h))
  asks_none (Unify _ _) h = absurd (true≢false (sym h))
  asks_none _ h = refl

  guard_none : (i : Instr) → is_of_guard i ≡ true → places i ≡ []
  guard_none (Deref _ _ _) h = absurd (true≢false (sym h))
  guard_none (Joined _ _) h = absurd (true≢false (sym h))
  guard_none (IsInt _ _ _) h = absurd (true≢false (sym h))
  guard_none (IsUnary _ _ _) h = absurd (true≢false (sym h))
  guard_none (IsGround _ _ _) h = absurd (true≢false (sym h))
  guard_none (NewLink _ _) h = absurd (true≢false (sym h))
  guard_none (Relink _ _) h = absurd (true≢false (sym h))
  guard_none (Unify _ _) h = absurd (true≢false (sym h))
  guard_none _ h = refl

  differ : (n : ℕ) (a : HeadAtom) (k : ℕ) (bs : List HeadAtom) → None' (differ_code n a k bs)
  differ n a k [] = refl
  differ n a k (b ∷ bs) = none_both t (if (b.inside == a.inside) && same_functor b.functor a.functor then NeqAtom n k ∷ [] else []) (differ_code n a (k + 1) bs) (by ((b.inside == a.inside) && same_functor b.functor a.functor)) (differ n a (k + 1) bs)
    where
      by : (s : Bool) → None' (if s then NeqAtom n k ∷ [] else [])
      by true = refl
      by false = refl

  differ_membrane : (k : ℕ) (b : HeadMembrane) (j : ℕ) (cs : List HeadMembrane) → None' (differ_membrane_code k b j cs)
  differ_membrane k b j [] = refl
  differ_membrane k b j (c ∷ cs) = none_both t (if c.inside == b.inside then NeqMem k j ∷ [] else []) (differ_membrane_code k b (j + 1) cs) (by (c.inside == b.inside)) (differ_membrane k b (j + 1) cs)
    where
      by : (s : Bool) → None' (if s then NeqMem k j ∷ [] else [])
      by true = refl
      by false = refl

  module _ (items : List HeadItem) where
    opened : (n : ℕ) (a : HeadAtom) (i x : ℕ) → None' (open_code items n a i x)
    opened n a i x = by (a.inside == 0) (times x (links_of_head items) == 1)
      where
        by : (s u : Bool) → None' (if s then [] else if u then NotIn (operand (n, i)) (outermost (membranes_of items) a.inside) ∷ [] else [])
        by true u = refl
        by false true = refl
        by false false = refl

    joined : (n : ℕ) (a : HeadAtom) (i x : ℕ) (p : Option Port) → stands t (joined_code items n a i x p) ≡ joins (n, i) p
    joined n a i x None = opened n a i x
    joined n a i x (Some q) = two (hit (n, i)) (hit q)
      where
        two : (k m : ℕ) → k + (m + 0) ≡ m + k
        two k m = omega arith

    -- a port by which the atom isn't found
    port : (n : ℕ) (a : HeadAtom) (i x : ℕ) → is_entry i (entry items n a) ≡ false → stands t (port_code items n a i x) ≡ joins (n, i) (find_port x (occurrences_before items n a i))
    port n a i x e = ap (λ b. stands t (if b then [] else joined_code items n a i x (find_port x (occurrences_before items n a i)))) e ∙ joined n a i x (find_port x (occurrences_before items n a i))

    abbrev Behind : List ℕ → ℕ → List ℕ → Type 0
    Behind links i xs = (k y : ℕ) → slice_get xs k ≡ Some y → slice_get links (i + k) ≡ Some y

    behind_next : (links : List ℕ) (i x : ℕ) (xs : List ℕ) → Behind links i (x ∷ xs) → Behind links (i + 1) xs
    behind_next links i x xs h k y e = let next : i + suc k ≡ (i + 1) + k = omega arith in subst (λ j. slice_get links j ≡ Some y) next (h (suc k) y e)

    behind_first : (links : List ℕ) (i x : ℕ) (xs : List ℕ) → Behind links i (x ∷ xs) → slice_get links i ≡ Some x
    behind_first links i x xs h = let here : i + 0 ≡ i = omega arith in subst (λ j. slice_get links j ≡ Some x) here (h 0 x refl)

    -- the pairs of ports from one on
    abbrev from : ℕ → HeadAtom → ℕ → List ℕ → ℕ
    from n a i xs = pairs (occurrences_before items n a i) (at_ports n i xs)

    from_next : (n : ℕ) (a : HeadAtom) (i x : ℕ) (xs : List ℕ) → Behind a.links i (x ∷ xs) → from n a i (x ∷ xs) ≡ joins (n, i) (find_port x (occurrences_before items n a i)) + from n a (i + 1) xs
    from_next n a i x xs h = ap (λ b. joins (n, i) (find_port x (occurrences_before items n a i)) + pairs b (at_ports n (i + 1) xs)) (sym (before_next items n a i x (behind_first a.links i x xs h)))

    -- behind the port by which the atom is found
    later : (n : ℕ) (a : HeadAtom) (e : Entry) (i : ℕ) (xs : List ℕ) → entry items n a ≡ Some e → e.0 < i → Behind a.links i xs → stands t (ports_code items n a i xs) ≡ from n a i xs
    later n a e i [] s l h = refl
    later n a e i (x ∷ xs) s l h =
        let other : is_entry i (entry items n a) ≡ false = ap (is_entry i) s ∙ not_equal e.0 i (λ q. absurd (omega (arith, l, q))) in
        let here = port n a i x other in
        let more = later n a e (i + 1) xs s (omega (arith, l)) (behind_next a.links i x xs h) in
        let all = stands_append t (port_code items n a i x) (ports_code items n a (i + 1) xs) in
        let goal = from_next n a i x xs h in
        omega (arith, here, more, all, goal)

    late_entry : (earlier : List Occurrence) (i : ℕ) (xs : List ℕ) (e : Option Entry) → entry_from earlier (i + 1) xs ≡ e → is_entry i e ≡ false
    late_entry earlier i xs None s = refl
    late_entry earlier i xs (Some e) s = let w = entry_stands earlier (i + 1) xs e s in let q = w.3 in not_equal e.0 i (λ r. absurd (omega (arith, q, r)))

    -- from the first port on, with what finds the atom
    with_found : (n : ℕ) (a : HeadAtom) (i : ℕ) (xs : List ℕ) → entry items n a ≡ entry_from (at_atoms 0 (take n (atoms_of items))) i xs → Behind a.links i xs
        → stands t (found_code n a (entry items n a)) + stands t (ports_code items n a i xs) ≡ from n a i xs
    with_found n a i [] s h = ap (λ e. stands t (found_code n a e) + 0) s
    with_found n a i (x ∷ xs) s h = by (find_port x earlier) refl (with_found n a (i + 1) xs)
      where
        earlier : List Occurrence
        earlier = at_atoms 0 (take n (atoms_of items))

        all : stands t (ports_code items n a i (x ∷ xs)) ≡ stands t (port_code items n a i x) + stands t (ports_code items n a (i + 1) xs)
        all = stands_append t (port_code items n a i x) (ports_code items n a (i + 1) xs)

        goal : from n a i (x ∷ xs) ≡ joins (n, i) (find_port x (occurrences_before items n a i)) + from n a (i + 1) xs
        goal = from_next n a i x xs h

        by : (f : Option Port) → find_port x (at_atoms 0 (take n (atoms_of items))) ≡ f
            → (entry items n a ≡ entry_from (at_atoms 0 (take n (atoms_of items))) (i + 1) xs → Behind a.links (i + 1) xs → stands t (found_code n a (entry items n a)) + stands t (ports_code items n a (i + 1) xs) ≡ from n a (i + 1) xs)
            → stands t (found_code n a (entry items n a)) + stands t (ports_code items n a i (x ∷ xs)) ≡ from n a i (x ∷ xs)
        by None f rest =
            let found : entry items n a ≡ entry_from (at_atoms 0 (take n (atoms_of items))) (i + 1) xs = s ∙ ap (λ o. entry_or i o (entry_from (at_atoms 0 (take n (atoms_of items))) (i + 1) xs)) f in
            let other = late_entry (at_atoms 0 (take n (atoms_of items))) i xs (entry items n a) (sym found) in
            let here = port n a i x other in
            let more = rest found (behind_next a.links i x xs h) in
            omega (arith, here, more, all, goal)
        by (Some p) f rest =
            let found : entry items n a ≡ Some (i, p) = s ∙ ap (λ o. entry_or i o (entry_from (at_atoms 0 (take n (atoms_of items))) (i + 1) xs)) f in
            let code : stands t (found_code n a (entry items n a)) ≡ hit p + (hit (n, i) + 0) = ap (λ e. stands t (found_code n a e)) found in
            let none : stands t (port_code items n a i x) ≡ 0 =
            ap (λ b. stands t (if b then [] else joined_code items n a i x (find_port x (occurrences_before items n a i)))) (ap (is_entry i) found ∙ equal_itself i) in
            let more = later n a (i, p) (i + 1) xs found (omega arith) (behind_next a.links i x xs h) in
            let first : joins (n, i) (find_port x (occurrences_before items n a i)) ≡ hit p + hit (n, i) =
            ap (joins (n, i)) (find_front x (at_atoms 0 (take n (atoms_of items))) (at_ports n 0 (take i a.links)) p f) in
            omega (arith, code, none, more, all, goal, first)

    atom : (n : ℕ) (a : HeadAtom) → stands t (atom_code items n a) ≡ pairs (at_atoms 0 (take n (atoms_of items))) (at_ports n 0 a.links)
    atom n a =
        let ds = differ_code n a 0 (take n (atoms_of items)) in
        let ps = ports_code items n a 0 a.links in
        let e1 = stands_append t (found_code n a (entry items n a)) (ds ++ ps) in
        let e2 = stands_append t ds ps in
        let e3 = differ n a 0 (take n (atoms_of items)) in
        let e4 = with_found n a 0 a.links refl (λ k y e. let same : k ≡ 0 + k = omega arith in subst (λ j. slice_get a.links j ≡ Some y) same e) in
        let e5 = ap (λ b. pairs b (at_ports n 0 a.links)) (plus_nothing (at_atoms 0 (take n (atoms_of items)))) in
        omega (arith, e1, e2, e3, e4, e5)

    membrane : (i : ℕ) (b : HeadMembrane) → None' (membrane_code items i b)
    membrane i b = differ_membrane (i + 1) b 1 (take i (membranes_of items))

    of_items : (n i : ℕ) (xs : List HeadItem) → ((k : ℕ) (b : HeadAtom) → slice_get (atoms_of xs) k ≡ Some b → HasAtom items (n + k) b)
        → stands t (items_code items n i xs) ≡ pairs (at_atoms 0 (take n (atoms_of items))) (at_atoms n (atoms_of xs))
    of_items n i [] h = refl
    of_items n i (Atom f ls m ∷ xs) h =
        let a : HeadAtom = record { functor = f; links = ls; inside = m } in
        let here : n + 0 ≡ n = omega arith in
        let at : HasAtom items n a = subst (λ k. HasAtom items k a) here (h 0 a refl) in
        let number : n + 1 ≡ suc n = omega arith in
        let same : 0 + n ≡ n = omega arith in
        let rest = of_items (n + 1) i xs (λ k b e. let next : n + suc k ≡ (n + 1) + k = omega arith in subst (λ j. HasAtom items j b) next (h (suc k) b e)) in
        let before : at_atoms 0 (take (n + 1) (atoms_of items)) ≡ at_atoms 0 (take n (atoms_of items)) ++ at_ports n 0 ls =
        ap (λ k. at_atoms 0 (take k (atoms_of items))) number ∙ atoms_next 0 (atoms_of items) n a at ∙ ap (λ k. at_atoms 0 (take n (atoms_of items)) ++ at_ports k 0 ls) same in
        let e1 = stands_append t (atom_code items n a) (items_code items (n + 1) i xs) in
        let e2 = atom n a in
        let e3 = ap (λ b. pairs b (at_atoms (n + 1) (atoms_of xs))) before in
        let e4 = pairs_append (at_atoms 0 (take n (atoms_of items))) (at_ports n 0 ls) (at_atoms (n + 1) (atoms_of xs)) in
        omega (arith, rest, e1, e2, e3, e4)
    of_items n i (Typed p k l m ∷ xs) h = of_items n i xs h
    of_items n i (Membrane m c d r ∷ xs) h =
        let b : HeadMembrane = record { inside = m; has_context = c; has_closed_context = d; has_rule_context = r } in
        let e1 = stands_append t (membrane_code items i b) (items_code items n (i + 1) xs) in
        let e2 = membrane i b in
        let e3 = of_items n (i + 1) xs h in
        omega (arith, e1, e2, e3)

    part : (g : ℕ) (u : HeadTyped) (p : Option Port) → stands t (part_code g u p) ≡ part_hit p
    part g u None = refl
    part g u (Some q) = by u.kind
      where
        nothing_more : (k : ℕ) → k + 0 ≡ k
        nothing_more k = omega arith

        by : (k : TypeKind) → stands t (test_of k g (operand q) u.inside ∷ []) ≡ hit q
        by kind.Int = nothing_more (hit q)
        by kind.Unary = nothing_more (hit q)
        by kind.Ground = nothing_more (hit q)

    parts : (g : ℕ) (us : List HeadTyped) → stands t (parts_code items g us) ≡ part_hits (at_atoms 0 (atoms_of items)) us
    parts g [] = refl
    parts g (u ∷ us) =
        let p = find_port u.link (at_atoms 0 (atoms_of items)) in
        let e1 = stands_append t (part_code g u p) (parts_code items (g + 1) us) in
        let e2 = part g u p in
        let e3 = parts (g + 1) us in
        omega (arith, e1, e2, e3)

    -- How often ports stand in the code of a head.
    pub head_stands : (guard : List Cond) → stands t (head_code items guard) ≡ pairs [] (at_atoms 0 (atoms_of items)) + part_hits (at_atoms 0 (atoms_of items)) (typed_contexts_of items)
    head_stands guard =
        let is = items_code items 0 0 items in
        let ps = parts_code items 0 (typed_contexts_of items) in
        let fs = all_filled_code items 1 (membranes_of items) in
        let gs = guard_code (typed_number (typed_contexts_of items) 0) (λ x. 0) 0 guard in
        let Q : List Instr → Type 0 = λ xs. stands t xs ≡ 0 in
        let e1 = of_items 0 0 items (λ k b e. let same : k ≡ 0 + k = omega arith in subst (λ j. HasAtom items j b) same e) in
        let e2 = parts 0 (typed_contexts_of items) in
        let e3 = all_filled Q refl (none_both t) (λ i h. stands_none t i (asks_none i h)) items 1 (membranes_of items) in
        let e4 = guards Q refl (none_both t) (λ i h. stands_none t i (guard_none i h)) (typed_number (typed_contexts_of items) 0) (λ x. 0) 0 guard in
        let s1 = stands_append t is (ps ++ (fs ++ (gs ++ (Commit ∷ [])))) in
        let s2 = stands_append t ps (fs ++ (gs ++ (Commit ∷ []))) in
        let s3 = stands_append t fs (gs ++ (Commit ∷ [])) in
        let s4 = stands_append t gs (Commit ∷ []) in
        omega (arith, e1, e2, e3, e4, s1, s2, s3, s4)
