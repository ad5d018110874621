-- Each port that code names is one of its atom.
use Rattle.std.proofs.Common.{◌≡◌, ◌<◌, ◌+◌, ◌==◌, ◌&&◌, ℕ, zero, suc, Bool, true, false, if◌then◌else◌, List, [], ◌∷◌, ◌++◌, length, map, inl, inr, refl, sym, ap, ◌∙◌, subst, arith, true≢false}
use Rattle.std.specs.Prelude.{Option, Some, None, slice_get, take}
use Rattle.std.specs.List.{list_all, AllByRecursion}
use Rattle.std.proofs.lemmas.List.Folds.{list_all-append}
use Rattle.lmn_base.proofs.Lists.{get_below}
use Rattle.lmn_base.specs.Graphs.{Port}
use Rattle.lmn_base.specs.declared.guard.Cond.{Cond}
use Rattle.lmn_store_heap.specs.Functors.{same_functor}
use Rattle.lmn_guards.specs.declared.plan.TypeKind.{TypeKind}
use Rattle.lmn_guards.specs.declared.plan.TypeKind.TheVariants as kind
use Rattle.lmn_solid_heads.specs.declared.items.HeadItem.{HeadItem}
use Rattle.lmn_solid_heads.specs.declared.items.HeadItem.TheVariants.{Atom, Typed, Membrane}
use Rattle.lmn_solid_heads.specs.Heads.{HeadAtom, HeadTyped, HeadMembrane, Occurrence, atoms_of, typed_contexts_of, membranes_of, at_ports, at_atoms, links_of_head, times, outermost}
use Rattle.lmn_solid_heads.specs.Guards.{typed_number}
use Rattle.lmn_solid_heads.specs.Embeddings.{HasAtom, HasLink}
use Rattle.lmn_congruence_splice.specs.Classes.{class_of, ends_of_class, rising}
use Rattle.lmn_instr_code.specs.declared.instr.AtomPort.{AtomPort}
use Rattle.lmn_instr_code.specs.declared.instr.NewPort.{NewPort}
use Rattle.lmn_instr_code.specs.declared.instr.NewPort.TheVariants as new
use Rattle.lmn_instr_code.specs.declared.instr.Instr.{Instr}
use Rattle.lmn_instr_code.specs.declared.instr.Instr.TheVariants.{RemoveAtom, RemovePart, RemoveMem, Deref, Joined, NotIn, NeqAtom, NeqMem, IsInt, IsUnary, IsGround, DropCells, NewLink, Relink, Unify, Commit, Proceed}
use Rattle.lmn_instr_code.specs.HeadCode.{Entry, entry, find_port, operand, occurrences_before, open_code, joined_code, port_code, is_entry, test_of, part_code, found_code, differ_code, ports_code, atom_code, differ_membrane_code, membrane_code, items_code, parts_code, all_filled_code, guard_code, head_code}
use Rattle.lmn_solid_bodies.specs.declared.items.BodyItem.{BodyItem}
use Rattle.lmn_solid_bodies.specs.declared.items.BodyItem.TheVariants as item
use Rattle.lmn_solid_bodies.specs.Code.{removals, making, drops, link_code, links_code, body_code}
use Rattle.lmn_solid_bodies.specs.Items.{new_ports, new_ports_from, old_ports, connectors, AllMade}
use Rattle.lmn_solid_bodies.specs.Rules.{NestedRule}
use Rattle.lmn_solid_bodies.proofs.HeadPorts.{once_in_of, at_atoms_in}
use Rattle.lmn_compile_head.proofs.Places.{Has, has_front, has_back, has_either, occurs, find_found, before_stands, at_stands, entry_stands}
use Rattle.lmn_verify_code.specs.Verified.{named_ports, has_port}
use Rattle.lmn_verify_compiled.proofs.HeadShapes.{asks_membrane, is_of_guard, all_filled, guards}
use Rattle.lmn_verify_compiled.proofs.Resting.{all_from_each, ends_all}
use Rattle.lmn_verify_compiled.proofs.Arities.{made_arities, all_arities, IsPortOf, port_of, head_arity, body_arity}

-- Each port that code names is one of an atom with as many ports.
abbrev pub Named : List ℕ → List Instr → Type 0
Named ns xs = list_all (λ i. list_all (has_port ns) (named_ports i)) xs ≡ true

module _ (ns : List ℕ) where
  both : (xs ys : List Instr) → Named ns xs → Named ns ys → Named ns (xs ++ ys)
  both xs ys h g = list_all-append (λ i. list_all (has_port ns) (named_ports i)) xs ys ∙ (λ t. h t && g t)

  none_one : (i : Instr) → named_ports i ≡ [] → Named ns (i ∷ [])
  none_one i e = ap (λ ps. list_all (has_port ns) ps && true) e

  asks_none : (i : Instr) → asks_membrane i ≡ true → named_ports i ≡ []
  asks_none (Deref _ _ _) h = absurd (true≢false (sym h))
  asks_none (Joined _ _) h = absurd (true≢false (sym h))
  asks_none (NotIn _ _) h = absurd (true≢false (sym h))
  asks_none (IsInt _ _ _) h = absurd (true≢false (sym h))
  asks_none (IsUnary _ _ _) h = absurd (true≢false (sym h))
  asks_none (IsGround _ _ _) h = absurd (true≢false (sym h))
  asks_none (NewLink _ _) h = absurd (true≢false (sym h))
  asks_none (Relink _ _) h = absurd (true≢false (sym h))
  asks_none (Unify _ _) h = absurd (true≢false (sym h))
  asks_none _ h = refl

  guard_none : (i : Instr) → is_of_guard i ≡ true → named_ports i ≡ []
  guard_none (Deref _ _ _) h = absurd (true≢false (sym h))
  guard_none (Joined _ _) h = absurd (true≢false (sym h))
  guard_none (NotIn _ _) h = absurd (true≢false (sym h))
  guard_none (IsInt _ _ _) h = absurd (true≢false (sym h))
  guard_none (IsUnary _ _ _) h = absurd (true≢false (sym h))
  guard_none (IsGround _ _ _) h = absurd (true≢false (sym h))
  guard_none (NewLink _ _) h = absurd (true≢false (sym h))
  guard_none (Relink _ _) h = absurd (true≢false (sym h))
  guard_none (Unify _ _) h = absurd (true≢false (sym h))
  guard_none _ h = refl

  -- ---- a head

  differ : (n : ℕ) (a : HeadAtom) (k : ℕ) (bs : List HeadAtom) → Named ns (differ_code n a k bs)
  differ n a k [] = refl
  differ n a k (b ∷ bs) = both (if (b.inside == a.inside) && same_functor b.functor a.functor then NeqAtom n k ∷ [] else []) (differ_code n a (k + 1) bs) (by ((b.inside == a.inside) && same_functor b.functor a.functor)) (differ n a (k + 1) bs)
    where
      by : (t : Bool) → Named ns (if t then NeqAtom n k ∷ [] else [])
      by true = refl
      by false = refl

  differ_membrane : (k : ℕ) (b : HeadMembrane) (j : ℕ) (cs : List HeadMembrane) → Named ns (differ_membrane_code k b j cs)
  differ_membrane k b j [] = refl
  differ_membrane k b j (c ∷ cs) = both (if c.inside == b.inside then NeqMem k j ∷ [] else []) (differ_membrane_code k b (j + 1) cs) (by (c.inside == b.inside)) (differ_membrane k b (j + 1) cs)
    where
      by : (t : Bool) → Named ns (if t then NeqMem k j ∷ [] else [])
      by true = refl
      by false = refl

  -- what occurs at the first atoms occurs at all
  in_whole : (n m : ℕ) (as' : List HeadAtom) (o : Occurrence) → Has o (at_atoms m (take n as')) → Has o (at_atoms m as')
  in_whole zero m as' o h = absurd h
  in_whole (suc n) m [] o h = h
  in_whole (suc n) m (a ∷ as') o h = elim (has_either o (at_ports m 0 a.links) (at_atoms (m + 1) (take n as')) h) [
    | inl i ↦ has_front o (at_ports m 0 a.links) (at_atoms (m + 1) as') i
    | inr i ↦ has_back o (at_ports m 0 a.links) (at_atoms (m + 1) as') (in_whole n (m + 1) as' o i)
  ]

  module _ (items : List HeadItem) (all : (x : ℕ) (p : Port) → HasLink items x p → IsPortOf ns p.0 p.1) where
    opened : (n : ℕ) (a : HeadAtom) (i x : ℕ) → IsPortOf ns n i → Named ns (open_code items n a i x)
    opened n a i x own = by (a.inside == 0) (times x (links_of_head items) == 1)
      where
        by : (s t : Bool) → Named ns (if s then [] else if t then NotIn (operand (n, i)) (outermost (membranes_of items) a.inside) ∷ [] else [])
        by true t = refl
        by false true = λ t. (own t && true) && true
        by false false = refl

    joined : (n : ℕ) (a : HeadAtom) (i x : ℕ) (p : Option Port) → IsPortOf ns n i → ((q : Port) → p ≡ Some q → IsPortOf ns q.0 q.1) → Named ns (joined_code items n a i x p)
    joined n a i x None own h = opened n a i x own
    joined n a i x (Some q) own h = let other = h q refl in λ t. (own t && (other t && true)) && true

    ports : (n : ℕ) (a : HeadAtom) (i : ℕ) (xs : List ℕ) → HasAtom items n a → ((j : ℕ) → j < i + length xs → IsPortOf ns n j) → Named ns (ports_code items n a i xs)
    ports n a i [] at own = refl
    ports n a i (x ∷ xs) at own =
        both (port_code items n a i x) (ports_code items n a (i + 1) xs) (by (is_entry i (entry items n a))) (ports n a (i + 1) xs at (λ j l. own j (omega (arith, l))))
      where
        by : (t : Bool) → Named ns (if t then [] else joined_code items n a i x (find_port x (occurrences_before items n a i)))
        by true = refl
        by false = joined n a i x (find_port x (occurrences_before items n a i)) (own i (omega arith))
            (λ q e. all x q (before_stands items n i a (occurs x q) at (find_found x (occurrences_before items n a i) q e)).0)

    found : (n : ℕ) (a : HeadAtom) (e : Option Entry) → ((w : Entry) → e ≡ Some w → IsPortOf ns w.1.0 w.1.1 × IsPortOf ns n w.0) → Named ns (found_code n a e)
    found n a None h = refl
    found n a (Some w) h = let g = h w refl in let there = g.0 in let here = g.1 in λ t. (there t && (here t && true)) && true

    atom : (n : ℕ) (a : HeadAtom) → HasAtom items n a → Named ns (atom_code items n a)
    atom n a at =
        let own : (j x : ℕ) → slice_get a.links j ≡ Some x → IsPortOf ns n j = λ j x e. all x (n, j) (a, at, e) in
        both (found_code n a (entry items n a)) (differ_code n a 0 (take n (atoms_of items)) ++ ports_code items n a 0 a.links)
        (found n a (entry items n a) (λ w e.
        let s = entry_stands (at_atoms 0 (take n (atoms_of items))) 0 a.links w e in
        let first = find_found s.1 (at_atoms 0 (take n (atoms_of items))) w.1 s.4 in
        let place : w.0 ≡ s.0 = (let q = s.3 in omega (arith, q)) in
        let there = all s.1 w.1 (earlier_stands n s.1 w.1 first) in
        (there, subst (λ k. IsPortOf ns n k) (sym place) (own s.0 s.1 s.2))))
        (both (differ_code n a 0 (take n (atoms_of items))) (ports_code items n a 0 a.links) (differ n a 0 (take n (atoms_of items)))
        (ports n a 0 a.links at (λ j l. let w = there_is a.links j (omega (arith, l)) in own j w.0 w.1)))
      where
        there_is : (xs : List ℕ) (j : ℕ) → j < length xs → (x : ℕ) × (slice_get xs j ≡ Some x)
        there_is [] j l = absurd (omega (arith, l))
        there_is (x ∷ xs) zero l = (x, refl)
        there_is (x ∷ xs) (suc j) l = there_is xs j (omega (arith, l))

        earlier_stands : (n x : ℕ) (p : Port) → Has (occurs x p) (at_atoms 0 (take n (atoms_of items))) → HasLink items x p
        earlier_stands n x p h = at_stands items (occurs x p) (in_whole n 0 (atoms_of items) (occurs x p) h)

    membrane : (i : ℕ) (b : HeadMembrane) → Named ns (membrane_code items i b)
    membrane i b = differ_membrane (i + 1) b 1 (take i (membranes_of items))

    of_items : (n i : ℕ) (xs : List HeadItem) → ((k : ℕ) (b : HeadAtom) → slice_get (atoms_of xs) k ≡ Some b → HasAtom items (n + k) b) → Named ns (items_code items n i xs)
    of_items n i [] h = refl
    of_items n i (Atom f ls m ∷ xs) h =
        let a : HeadAtom = record { functor = f; links = ls; inside = m } in
        let here : n + 0 ≡ n = omega arith in
        both (atom_code items n a) (items_code items (n + 1) i xs) (atom n a (subst (λ k. HasAtom items k a) here (h 0 a refl)))
        (of_items (n + 1) i xs (λ k b e. let next : n + suc k ≡ (n + 1) + k = omega arith in subst (λ j. HasAtom items j b) next (h (suc k) b e)))
    of_items n i (Typed p k l m ∷ xs) h = of_items n i xs h
    of_items n i (Membrane m c d r ∷ xs) h =
        let b : HeadMembrane = record { inside = m; has_context = c; has_closed_context = d; has_rule_context = r } in
        both (membrane_code items i b) (items_code items n (i + 1) xs) (membrane i b) (of_items n (i + 1) xs h)

    part : (g : ℕ) (t : HeadTyped) (p : Option Port) → ((q : Port) → p ≡ Some q → IsPortOf ns q.0 q.1) → Named ns (part_code g t p)
    part g t None h = refl
    part g t (Some q) h = let there = h q refl in by t.kind there
      where
        by : (k : TypeKind) → IsPortOf ns q.0 q.1 → Named ns (test_of k g (operand q) t.inside ∷ [])
        by kind.Int there = λ s. (there s && true) && true
        by kind.Unary there = λ s. (there s && true) && true
        by kind.Ground there = λ s. (there s && true) && true

    parts : (g : ℕ) (ts : List HeadTyped) → Named ns (parts_code items g ts)
    parts g [] = refl
    parts g (t ∷ ts) =
        both (part_code g t (find_port t.link (at_atoms 0 (atoms_of items)))) (parts_code items (g + 1) ts)
        (part g t (find_port t.link (at_atoms 0 (atoms_of items))) (λ q e. all t.link q (at_stands items (occurs t.link q) (find_found t.link (at_atoms 0 (atoms_of items)) q e))))
        (parts (g + 1) ts)

    -- The ports that the code of a head names are of its atoms.
    pub head_named : (guard : List Cond) → Named ns (head_code items guard)
    head_named guard =
        let ps = parts_code items 0 (typed_contexts_of items) in
        let fs = all_filled_code items 1 (membranes_of items) in
        let gs = guard_code (typed_number (typed_contexts_of items) 0) (λ x. 0) 0 guard in
        let Q : List Instr → Type 0 = λ xs. Named ns xs in
        both (items_code items 0 0 items) (ps ++ (fs ++ (gs ++ (Commit ∷ []))))
        (of_items 0 0 items (λ k b e. let same : k ≡ 0 + k = omega arith in subst (λ j. HasAtom items j b) same e))
        (both ps (fs ++ (gs ++ (Commit ∷ []))) (parts 0 (typed_contexts_of items))
        (both fs (gs ++ (Commit ∷ [])) (all_filled Q refl both (λ i h. none_one i (asks_none i h)) items 1 (membranes_of items))
        (both gs (Commit ∷ []) (guards Q refl both (λ i h. none_one i (guard_none i h)) (typed_number (typed_contexts_of items) 0) (λ x. 0) 0 guard) refl)))

  -- ---- a body

  each_none : (f : ℕ → Instr) → ((k : ℕ) → named_ports (f k) ≡ []) → (ks : List ℕ) → Named ns (map f ks)
  each_none f h [] = refl
  each_none f h (k ∷ ks) = both (f k ∷ []) (map f ks) (none_one (f k) (h k)) (each_none f h ks)

  making_none : (a m c : ℕ) (body : List BodyItem) → Named ns (making a m c body)
  making_none a m c [] = refl
  making_none a m c (item.Atom functor links inside ∷ xs) = making_none (a + 1) m c xs
  making_none a m c (item.Connector left right ∷ xs) = making_none a m c xs
  making_none a m c (item.Copy part link inside ∷ xs) = making_none a m (c + 1) xs
  making_none a m c (item.Bound integer link inside ∷ xs) = making_none (a + 1) m c xs
  making_none a m c (item.Membrane inside ∷ xs) = making_none a (m + 1) c xs
  making_none a m c (item.Rest of true inside ∷ xs) = making_none a m c xs
  making_none a m c (item.Rest of false inside ∷ xs) = making_none a m c xs
  making_none a m c (item.Rule rule inside ∷ xs) = making_none a m c xs
  making_none a m c (item.Rules of inside ∷ xs) = making_none a m c xs

  drops_none : (k : ℕ) (bs : List HeadMembrane) → Named ns (drops k bs)
  drops_none k [] = refl
  drops_none k (b ∷ bs) = both (if b.has_closed_context then DropCells k ∷ [] else []) (drops (k + 1) bs) (by b.has_closed_context) (drops_none (k + 1) bs)
    where
      by : (t : Bool) → Named ns (if t then DropCells k ∷ [] else [])
      by true = refl
      by false = refl

  tie : (ps : List NewPort) (hs : List AtomPort) → AllByRecursion (λ p. has_port ns p ≡ true) ps → AllByRecursion (λ (h : AtomPort). has_port ns (new.Atom h) ≡ true) hs → Named ns (link_code ps hs)
  tie [] [] p h = refl
  tie [] (x ∷ []) p h = refl
  tie [] (x ∷ y ∷ []) p h = let one = h.0 in let two = h.1.0 in λ t. (one t && (two t && true)) && true
  tie [] (x ∷ y ∷ z ∷ hs) p h = refl
  tie (x ∷ []) [] p h = refl
  tie (x ∷ []) (y ∷ []) p h = let one = p.0 in let two = h.0 in λ t. (one t && (two t && true)) && true
  tie (x ∷ []) (y ∷ z ∷ hs) p h = refl
  tie (x ∷ y ∷ []) [] p h = let one = p.0 in let two = p.1.0 in λ t. (one t && (two t && true)) && true
  tie (x ∷ y ∷ []) (z ∷ hs) p h = refl
  tie (x ∷ y ∷ z ∷ ps) hs p h = refl

  abbrev AllNew : List (NewPort × ℕ) → Type 0
  AllNew es = AllByRecursion (λ (e : NewPort × ℕ). has_port ns e.0 ≡ true) es

  abbrev AllOld : List (AtomPort × ℕ) → Type 0
  AllOld es = AllByRecursion (λ (e : AtomPort × ℕ). has_port ns (new.Atom e.0) ≡ true) es

  ties : (m : ℕ → ℕ) (news : List (NewPort × ℕ)) (olds : List (AtomPort × ℕ)) (zs : List ℕ) → AllNew news → AllOld olds → Named ns (links_code m news olds zs)
  ties m news olds [] n o = refl
  ties m news olds (z ∷ zs) n o =
      both (link_code (ends_of_class m z news) (ends_of_class m z olds)) (links_code m news olds zs)
      (tie (ends_of_class m z news) (ends_of_class m z olds) (ends_all (λ p. has_port ns p ≡ true) m z news n) (ends_all (λ (h : AtomPort). has_port ns (new.Atom h) ≡ true) m z olds o))
      (ties m news olds zs n o)

  made_from : (a i : ℕ) (links : List ℕ) (es : List (NewPort × ℕ)) → ((j : ℕ) → j < i + length links → IsPortOf ns a j) → AllNew es → AllNew (new_ports_from a i links ++ es)
  made_from a i [] es own h = h
  made_from a i (x ∷ xs) es own h = (own i (omega arith), made_from a (i + 1) xs es (λ j l. own j (omega (arith, l))) h)

  -- how many ports the atoms have that are made from register a on
  abbrev MadeAt : ℕ → List ℕ → Type 0
  MadeAt a vs = (k v : ℕ) → slice_get vs k ≡ Some v → slice_get ns (a + k) ≡ Some v

  made_here : (a v : ℕ) (vs : List ℕ) → MadeAt a (v ∷ vs) → slice_get ns a ≡ Some v
  made_here a v vs h = let e : a + 0 ≡ a = omega arith in subst (λ k. slice_get ns k ≡ Some v) e (h 0 v refl)

  made_later : (a v : ℕ) (vs : List ℕ) → MadeAt a (v ∷ vs) → MadeAt (a + 1) vs
  made_later a v vs h k w e = let next : a + suc k ≡ (a + 1) + k = omega arith in subst (λ j. slice_get ns j ≡ Some w) next (h (suc k) w e)

  all_new : (a c : ℕ) (body : List BodyItem) → AllMade body → MadeAt a (made_arities body) → AllNew (new_ports a c body)
  all_new a c [] w h = tt
  all_new a c (item.Atom functor links inside ∷ xs) w h =
      let at = made_here a functor.arity (made_arities xs) h in
      let many = w.0.0 in
      made_from a 0 links (new_ports (a + 1) c xs) (λ j l. port_of ns a j functor.arity at (omega (arith, l, many))) (all_new (a + 1) c xs w.1 (made_later a functor.arity (made_arities xs) h))
  all_new a c (item.Connector left right ∷ xs) w h = all_new a c xs w.1 h
  all_new a c (item.Copy part link inside ∷ xs) w h = (refl, all_new a (c + 1) xs w.1 h)
  all_new a c (item.Bound integer link inside ∷ xs) w h = (port_of ns a 0 1 (made_here a 1 (made_arities xs) h) (omega arith), all_new (a + 1) c xs w.1 (made_later a 1 (made_arities xs) h))
  all_new a c (item.Membrane inside ∷ xs) w h = all_new a c xs w.1 h
  all_new a c (item.Rest of closed inside ∷ xs) w h = all_new a c xs w.1 h
  all_new a c (item.Rule rule inside ∷ xs) w h = all_new a c xs w.1 h
  all_new a c (item.Rules of inside ∷ xs) w h = all_new a c xs w.1 h

  all_old : (items : List HeadItem) → ((x : ℕ) (p : Port) → HasLink items x p → IsPortOf ns p.0 p.1) → AllOld (old_ports items)
  all_old items all = all_from_each (λ (e : AtomPort × ℕ). has_port ns (new.Atom e.0) ≡ true) (old_ports items) (λ e i.
      let w = once_in_of (links_of_head items) (at_atoms 0 (atoms_of items)) e i in
      let at = at_atoms_in 0 (atoms_of items) w.0 w.1 in
      let number : w.0.port.0 ≡ at.k = (let q = at.number in omega (arith, q)) in
      let here : HasLink items w.0.link w.0.port = (at.atom, subst (λ k. HasAtom items k at.atom) (sym number) at.is, at.link) in
      let port = all w.0.link w.0.port here in
      subst (λ (q : AtomPort × ℕ). IsPortOf ns q.0.atom q.0.port) w.3 port)

  -- The ports that the code of a body names are of atoms that it makes, or of its head.
  pub body_named : (items : List HeadItem) (body : List BodyItem) (n : ℕ) → ((x : ℕ) (p : Port) → HasLink items x p → IsPortOf ns p.0 p.1) → AllMade body → MadeAt (length (atoms_of items)) (made_arities body) → Named ns (body_code items body n)
  body_named items body n all made at =
      let a = length (atoms_of items) in
      let b = 1 + length (membranes_of items) in
      let ds = drops 1 (membranes_of items) in
      let ls = links_code (class_of (connectors body)) (new_ports a 0 body) (old_ports items) (rising 0 n) in
      let as' = map RemoveAtom (rising 0 (length (atoms_of items))) in
      let gs = map RemovePart (rising 0 (length (typed_contexts_of items))) in
      let ms = map RemoveMem (rising 1 (length (membranes_of items))) in
      both (removals items) (making a b 0 body ++ (ds ++ (ls ++ (Proceed ∷ []))))
      (both as' (gs ++ ms) (each_none RemoveAtom (λ k. refl) (rising 0 (length (atoms_of items)))) (both gs ms (each_none RemovePart (λ k. refl) (rising 0 (length (typed_contexts_of items)))) (each_none RemoveMem (λ k. refl) (rising 1 (length (membranes_of items))))))
      (both (making a b 0 body) (ds ++ (ls ++ (Proceed ∷ []))) (making_none a b 0 body)
      (both ds (ls ++ (Proceed ∷ [])) (drops_none 1 (membranes_of items))
      (both ls (Proceed ∷ []) (ties (class_of (connectors body)) (new_ports a 0 body) (old_ports items) (rising 0 n) (all_new a 0 body made at) (all_old items all)) refl)))

-- Each port that the code of a rule names is one of its atom.
pub ports_named : (items : List HeadItem) (guard : List Cond) (body : List BodyItem) (n : ℕ) → NestedRule items body n → Named (all_arities items body) (head_code items guard ++ body_code items body n)
ports_named items guard body n rule =
    let ns = all_arities items body in
    let all : (x : ℕ) (p : Port) → HasLink items x p → IsPortOf ns p.0 p.1 = λ x p h.
    let many = rule.atoms.head_made p.0 h.0 h.1 in
    let l = get_below h.0.links p.1 x h.2 in
    port_of ns p.0 p.1 h.0.functor.arity (head_arity items body p.0 h.0 h.1) (omega (arith, many, l)) in
    both ns (head_code items guard) (body_code items body n) (head_named ns items all guard)
    (body_named ns items body n all rule.atoms.made (λ k v e. body_arity items body k ∙ e))
