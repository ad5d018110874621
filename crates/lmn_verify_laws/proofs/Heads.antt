-- Where the head of verified code succeeds, its flat head lies.
use Rattle.std.proofs.Common.{◌≡◌, ◌≢◌, ◌<◌, ◌≤◌, ◌+◌, ◌==◌, ◌&&◌, ◌⊎◌, ◌∙◌, inl, inr, ℕ, zero, suc, Bool, true, false, not, List, [], ◌∷◌, ◌++◌, map, length, Some, refl, sym, ap, subst, arith, true≢false}
use Rattle.std.specs.Prelude.{slice_get, count_by, nat_lt, if◌then◌else◌}
use Rattle.std.specs.List.{AllByRecursion, list_any}
use Rattle.std.proofs.lemmas.Bool.{cases_order, eqb-true, eq-eqb, leb-true}
use Rattle.std.proofs.lemmas.List.Recursion.{is_count_by}
use Rattle.lmn_base.specs.Graphs.{Port, Reached, StandsWhole}
use Rattle.lmn_base.specs.Lists.{In}
use Rattle.lmn_base.proofs.Lists.{get_front, get_below, get_there}
use Rattle.lmn_base.proofs.Numbers.{equal_itself, unequal_when}
use Rattle.lmn_base.proofs.Truth.{and_true, cond_plus, either_true, first_true, second_true, not_false, not_true}
use Rattle.lmn_store_heap.specs.Functors.{same_functor}
use Rattle.lmn_store_heap.specs.Graphs.{atom_map}
use Rattle.lmn_store_heap.specs.Heap.{Heap, Distinct, functor_of, atoms_in, mems_in, rules_in}
use Rattle.lmn_store_heap.specs.Sound.{Valid}
use Rattle.lmn_store_heap.proofs.Heights.{valid_no_loop}
use Rattle.lmn_store_heap.proofs.Pigeonholes.{has_all}
use Rattle.lmn_store_heap.proofs.WithFunctor.{functor_same}
use Rattle.lmn_congruence_splice.specs.Splice.{IsOneOf}
use Rattle.lmn_congruence_splice.proofs.Common.{in_append, each_is}
use Rattle.lmn_solid_heads.specs.declared.items.HeadItem.{HeadItem}
use Rattle.lmn_solid_heads.specs.Heads.{HeadAtom, HeadTyped, HeadMembrane, atoms_of, typed_contexts_of, membranes_of, links_of_head, times}
use Rattle.lmn_solid_heads.specs.Embeddings.{Lies, HasAtom, HasTyped, HasMembrane, HasLink, IsAtomImage, IsMembraneImage, IsInPart, IsInRest, IsPartOf, partner, port_image}
use Rattle.lmn_solid_heads.specs.Guards.{IsOfKindAt}
use Rattle.lmn_compile_head.specs.Heads.{EachInside, IsHead}
use Rattle.lmn_compile_head.proofs.Holding.{EachFrom, each_at_first}
use Rattle.lmn_compile_head.proofs.Nesting.{one_home, membranes_apart, top_outside}
use Rattle.lmn_compile_head.proofs.Pigeons.{images_inside, images_length, images_are, images_distinct}
use Rattle.lmn_instr_code.specs.declared.instr.AtomPort.{AtomPort}
use Rattle.lmn_instr_code.specs.declared.instr.NewPort.{NewPort}
use Rattle.lmn_instr_code.specs.declared.instr.NewPort.TheVariants as new
use Rattle.lmn_instr_code.specs.declared.instr.Code.{Code}
use Rattle.lmn_instr_code.specs.declared.instr.Instr.{Instr}
use Rattle.lmn_instr_code.specs.declared.instr.Instr.TheVariants.{Deref, NeqAtom, NeqMem, Joined, NAtoms, NMems, IsClosed, NewLink, Relink}
use Rattle.lmn_instr_code.specs.HeadCode.{number_inside}
use Rattle.lmn_instr_code.specs.Running.{HeadRegisters, HeadSize, InstructionHolds, IsInSome, IsLeftIn, HasOthers, Succeeds, size_of_head, atoms_set, membranes_set, port_of}
use Rattle.lmn_machine.specs.Searching.{parts_set}
use Rattle.lmn_verify_code.specs.declared.found.FoundAtom.{FoundAtom}
use Rattle.lmn_verify_code.specs.declared.found.FoundMembrane.{FoundMembrane}
use Rattle.lmn_verify_code.specs.declared.found.FoundPart.{FoundPart}
use Rattle.lmn_verify_code.specs.Verified.{IsVerified, are_apart, are_apart_membranes, atoms_found, counts_atoms, counts_membranes, finds_closed, is_closed, is_counted, is_made, is_neq_atom, is_neq_membrane, membranes_found, names_parts, nothing_left, parts_found, port_of_register, ports_of, rest_dropped}
use Rattle.lmn_verify_laws.specs.Flat.{membrane_item, flat_head, link_in, linked_by}
use Rattle.lmn_verify_laws.specs.Laws.{VerifiedHeadsLie}
use Rattle.lmn_verify_laws.proofs.Finds.{AtomHolds, IsMembraneAt, IsPartAt, MembraneHolds, NamesSet, PartHolds, atoms_hold, holds_at, membranes_hold, parts_hold}
use Rattle.lmn_verify_laws.proofs.InOrder.{is_of_body}
use Rattle.lmn_verify_laws.proofs.Items.{all_found, atom_count, atoms_counted, parts_counted, typed_link, atom_found, atoms_are, head_atom, head_membrane, head_port, head_typed, link_found, membrane_count, membrane_found_at, membranes_are, typed_are, typed_found}
use Rattle.lmn_verify_laws.proofs.Links.{LinksBoth, atom_port_is, links_both, one_instruction, part_ports, stands_at}
use Rattle.lmn_verify_laws.proofs.Listed.{all_is, any_is, counted_one, counted_some, get_image, get_one, two_are}
use Rattle.lmn_verify_laws.proofs.Ready.{body_is, membranes_counted}

-- ---- counts

-- items inside are those counted
number_counted : {A B : Type 0} (inside : B → ℕ) (f : A → B) (k : ℕ) (xs : List A) → number_inside inside k (map f xs) ≡ count_by (λ x. inside (f x) == k) xs
number_counted inside f k xs = is_count_by (λ ys. number_inside inside k (map f ys)) (λ x. inside (f x) == k) refl (λ x ys. cond_plus (inside (f x) == k) (number_inside inside k (map f ys))) xs

-- ---- tests of instructions

counts_atoms_is : (as' : List FoundAtom) (ps : List FoundPart) (m : ℕ) (i : Instr) → counts_atoms as' ps m i ≡ true →
    (n : ℕ) × (gs : List ℕ) × (i ≡ NAtoms m n gs) × (n ≡ count_by (λ a. a.membrane == m) as') × (names_parts m gs ps ≡ true)
counts_atoms_is as' ps m (NAtoms x n gs) e =
    let s = and_true (x == m) ((n == count_by (λ a. a.membrane == m) as') && names_parts m gs ps) e in
    let t = and_true (n == count_by (λ a. a.membrane == m) as') (names_parts m gs ps) s.1 in
    (n, gs, ap (λ y. NAtoms y n gs) (eqb-true x m s.0), eqb-true n (count_by (λ a. a.membrane == m) as') t.0, t.1)
counts_atoms_is as' ps m _ e = absurd (true≢false (sym e))

counts_membranes_is : (ms : List FoundMembrane) (m : ℕ) (i : Instr) → counts_membranes ms m i ≡ true → (n : ℕ) × (i ≡ NMems m n) × (n ≡ count_by (λ b. b.inside == m) ms)
counts_membranes_is ms m (NMems x n) e =
    let s = and_true (x == m) (n == count_by (λ b. b.inside == m) ms) e in
    (n, ap (λ y. NMems y n) (eqb-true x m s.0), eqb-true n (count_by (λ b. b.inside == m) ms) s.1)
counts_membranes_is ms m _ e = absurd (true≢false (sym e))

finds_closed_is : (ps : List FoundPart) (m : ℕ) (i : Instr) → finds_closed ps m i ≡ true → (gs : List ℕ) × (i ≡ IsClosed m gs) × (names_parts m gs ps ≡ true)
finds_closed_is ps m (IsClosed x gs) e =
    let s = and_true (x == m) (names_parts m gs ps) e in
    (gs, ap (λ y. IsClosed y gs) (eqb-true x m s.0), s.1)
finds_closed_is ps m _ e = absurd (true≢false (sym e))

-- no instruction of a body links two ports of the head, but those that tie
not_in_body : (n h k : ℕ) (i : Instr) (p q : AtomPort) → p.atom < n → q.atom < n → LinksBoth p q i → is_of_body n h k i ≡ true → ⊥
not_in_body n h k (Deref a u j) p q l m b e = true≢false (sym e)
not_in_body n h k (Joined u w) p q l m b e = true≢false (sym e)
not_in_body n h k (NewLink u w) p q l m b e = by b
  where
    made : is_made n u ≡ true
    made = first_true (is_made n u) (is_made n w) e

    at : (o : AtomPort) → o.atom < n → u ≡ new.Atom o → ⊥
    at o l s = let t = leb-true n o.atom (subst (λ z. is_made n z ≡ true) s made) in omega (arith, l, t)

    by : (u ≡ new.Atom p) ⊎ (u ≡ new.Atom q) → ⊥
    by (inl s) = at p l s
    by (inr s) = at q m s
not_in_body n h k (Relink u w) p q l m b e = by b
  where
    made : is_made n u ≡ true
    made = first_true (is_made n u) (nat_lt w.atom n) e

    at : (o : AtomPort) → o.atom < n → u ≡ new.Atom o → ⊥
    at o l s = let t = leb-true n o.atom (subst (λ z. is_made n z ≡ true) s made) in omega (arith, l, t)

    by : (u ≡ new.Atom p) ⊎ (u ≡ new.Atom q) → ⊥
    by (inl s) = at p l s
    by (inr s) = at q m s
not_in_body n h k _ p q l m b e = b

-- ---- membranes alone

no_links : (code : Code) (ms : List FoundMembrane) → links_of_head (map (membrane_item code) ms) ≡ []
no_links code [] = refl
no_links code (m ∷ ms) = no_links code ms

no_typed : (code : Code) (ms : List FoundMembrane) → typed_contexts_of (map (membrane_item code) ms) ≡ []
no_typed code [] = refl
no_typed code (m ∷ ms) = no_typed code ms

bare_listed : (code : Code) (ms : List FoundMembrane) → membranes_of (map (membrane_item code) ms) ≡ map (head_membrane code) ms
bare_listed code [] = refl
bare_listed code (m ∷ ms) = ap (λ l. head_membrane code m ∷ l) (bare_listed code ms)

each_inside : (A M G : ℕ) (code : Code) (n i : ℕ) (ms : List FoundMembrane) → n ≡ suc i → EachFrom (IsMembraneAt A M G) n ms → EachInside i (map (membrane_item code) ms)
each_inside A M G code n i [] s e = tt
each_inside A M G code n i (m ∷ ms) s e = ((let l = e.0.1 in omega (arith, l, s)), each_inside A M G code (n + 1) (i + 1) ms (omega (arith, s)) e.1)

bare_head : (code : Code) (k : ℕ) → IsVerified code k → IsHead (map (membrane_item code) (membranes_found code.head))
bare_head code k v = record {
  inside = each_inside (atoms_set code.head) (1 + membranes_set code.head) (parts_set code.head) code 1 0 (membranes_found code.head) refl (all_found code k v).membranes;
  at_most_twice = λ x. subst (λ l. times x l ≤ 2) (sym (no_links code (membranes_found code.head))) (omega arith);
  held = λ n t e. absurd (let s : slice_get [] n ≡ Some t = subst (λ l. slice_get l n ≡ Some t) (no_typed code (membranes_found code.head)) e in cc);
}

-- ---- where the head succeeds

module _ (code : Code) (k : ℕ) (v : IsVerified code k) (h : Heap) (valid : Valid h) (m : ℕ) (r : HeadRegisters) (succeeds : Succeeds h code.head m r) where
  abbrev c : HeadSize
  c = size_of_head code.head

  abbrev items : List HeadItem
  items = flat_head code

  functors : (n : ℕ) (x : HeadAtom) → HasAtom items n x → functor_of h (r.images.atom n) ≡ Some x.functor
  functors n x e =
      let w = atom_found code k v n x e in
      let t = each_is (AtomHolds h c r) (atoms_found code.head) w.0 (atoms_hold h c r code.head v.looked_at succeeds.all) (get_one (atoms_found code.head) n w.0 w.1) in
      subst (λ z. functor_of h (r.images.atom z) ≡ Some x.functor) w.3 (t.0 ∙ ap (λ (y : HeadAtom). Some y.functor) w.2)

  atoms_placed : (n : ℕ) (x : HeadAtom) → HasAtom items n x → In (r.images.atom n) (atoms_in h (r.images.membrane x.inside))
  atoms_placed n x e =
      let w = atom_found code k v n x e in
      let t = each_is (AtomHolds h c r) (atoms_found code.head) w.0 (atoms_hold h c r code.head v.looked_at succeeds.all) (get_one (atoms_found code.head) n w.0 w.1) in
      subst (λ z. In (r.images.atom z) (atoms_in h (r.images.membrane x.inside))) w.3 (subst (λ (y : HeadAtom). In (r.images.atom w.0.atom) (atoms_in h (r.images.membrane y.inside))) w.2 t.1)

  placed : (i : ℕ) (b : HeadMembrane) → slice_get (membranes_of items) i ≡ Some b → In (r.images.membrane (suc i)) (mems_in h (r.images.membrane b.inside))
  placed i b e =
      let w = membrane_found_at code k v i b e in
      let t = each_is (MembraneHolds h c r) (membranes_found code.head) w.0 (membranes_hold h c r code.head succeeds.all) (get_one (membranes_found code.head) i w.0 w.1) in
      subst (λ z. In (r.images.membrane z) (mems_in h (r.images.membrane b.inside))) w.3 (subst (λ (y : HeadMembrane). In (r.images.membrane w.0.membrane) (mems_in h (r.images.membrane y.inside))) w.2 t)

  membranes_placed : (j : ℕ) (b : HeadMembrane) → HasMembrane items j b → In (r.images.membrane j) (mems_in h (r.images.membrane b.inside))
  membranes_placed j b e = subst (λ z. In (r.images.membrane z) (mems_in h (r.images.membrane b.inside))) (sym e.1) (placed e.0 b e.2)

  neq_membrane : (i : Instr) (x y : ℕ) → is_neq_membrane x y i ≡ true → InstructionHolds h c r i → r.images.membrane x ≡ r.images.membrane y → ⊥
  neq_membrane (NeqMem a b) x y e t s = elim (either_true ((a == x) && (b == y)) ((a == y) && (b == x)) e) [
    | inl f ↦ (let u = and_true (a == x) (b == y) f in t ((λ j. r.images.membrane (eqb-true a x u.0 j)) ∙ s ∙ (λ j. r.images.membrane (sym (eqb-true b y u.1) j))))
    | inr f ↦ (let u = and_true (a == y) (b == x) f in t ((λ j. r.images.membrane (eqb-true a y u.0 j)) ∙ sym s ∙ (λ j. r.images.membrane (sym (eqb-true b x u.1) j))))
  ]
  neq_membrane _ x y e t s = true≢false (sym e)

  neq_atom : (i : Instr) (x y : ℕ) → is_neq_atom x y i ≡ true → InstructionHolds h c r i → r.images.atom x ≡ r.images.atom y → ⊥
  neq_atom (NeqAtom a b) x y e t s = elim (either_true ((a == x) && (b == y)) ((a == y) && (b == x)) e) [
    | inl f ↦ (let u = and_true (a == x) (b == y) f in t ((λ j. r.images.atom (eqb-true a x u.0 j)) ∙ s ∙ (λ j. r.images.atom (sym (eqb-true b y u.1) j))))
    | inr f ↦ (let u = and_true (a == y) (b == x) f in t ((λ j. r.images.atom (eqb-true a y u.0 j)) ∙ sym s ∙ (λ j. r.images.atom (sym (eqb-true b x u.1) j))))
  ]
  neq_atom _ x y e t s = true≢false (sym e)

  level_membranes_differ : (i j : ℕ) (b d : HeadMembrane) → slice_get (membranes_of items) i ≡ Some b → slice_get (membranes_of items) j ≡ Some d → j < i → d.inside ≡ b.inside → r.images.membrane (suc i) ≢ r.images.membrane (suc j)
  level_membranes_differ i j b d e f l same s =
      let x = membrane_found_at code k v i b e in
      let y = membrane_found_at code k v j d f in
      let inside : y.0.inside ≡ x.0.inside = ap (λ (z : HeadMembrane). z.inside) y.2 ∙ same ∙ sym (ap (λ (z : HeadMembrane). z.inside) x.2) in
      elim (either_true (not (y.0.inside == x.0.inside)) (list_any (is_neq_membrane y.0.membrane x.0.membrane) code.head) (two_are (are_apart_membranes code.head) (membranes_found code.head) v.apart_membranes j i y.0 x.0 l y.1 x.1)) [
        | inl t ↦ unequal_when y.0.inside x.0.inside (not_true (y.0.inside == x.0.inside) t) inside
        | inr t ↦ (let w = any_is (is_neq_membrane y.0.membrane x.0.membrane) code.head t in
            neq_membrane w.0 y.0.membrane x.0.membrane w.2 (holds_at h c r code.head w.0 succeeds.all w.1) ((λ u. r.images.membrane (y.3 u)) ∙ sym s ∙ (λ u. r.images.membrane (sym x.3 u))))
      ]

  abbrev bare : List HeadItem
  bare = map (membrane_item code) (membranes_found code.head)

  bare_same : membranes_of bare ≡ membranes_of items
  bare_same = bare_listed code (membranes_found code.head) ∙ sym (membranes_are code)

  bare_get : (i : ℕ) (b : HeadMembrane) → slice_get (membranes_of bare) i ≡ Some b → slice_get (membranes_of items) i ≡ Some b
  bare_get i b e = subst (λ l. slice_get l i ≡ Some b) bare_same e

  apart : (i j : ℕ) → i ≤ length (membranes_of items) → j ≤ length (membranes_of items) → r.images.membrane i ≡ r.images.membrane j → i ≡ j
  apart i j l n e =
      membranes_apart h valid.sound.listed bare (bare_head code k v) (valid_no_loop h valid) r.images (λ i b e. placed i b (bare_get i b e)) (λ i j b d e f. level_membranes_differ i j b d (bare_get i b e) (bare_get j d f))
      i j (subst (λ z. i ≤ length z) (sym bare_same) l) (subst (λ z. j ≤ length z) (sym bare_same) n) e

  outside : (j : ℕ) → j ≤ length (membranes_of items) → In (r.images.membrane 0) (mems_in h (r.images.membrane j)) → ⊥
  outside j l i =
      top_outside h valid.sound.listed bare (bare_head code k v) (valid_no_loop h valid) r.images (λ i b e. placed i b (bare_get i b e)) (λ i j b d e f. level_membranes_differ i j b d (bare_get i b e) (bare_get j d f))
      j (subst (λ z. j ≤ length z) (sym bare_same) l) i

  membranes_differ : (n j : ℕ) → n < length (membranes_of items) → j < length (membranes_of items) → r.images.membrane (suc n) ≡ r.images.membrane (suc j) → n ≡ j
  membranes_differ n j l i e = let t = apart (suc n) (suc j) (omega (arith, l)) (omega (arith, i)) e in omega (arith, t)

  in_head : (x : ℕ) → x < 1 + membranes_set code.head → x ≤ length (membranes_of items)
  in_head x l = let a = membrane_count code in let b = membranes_counted code.head in omega (arith, l, a, b)

  earlier_differs : (n j : ℕ) → j < n → n < length (atoms_of items) → r.images.atom n ≡ r.images.atom j → ⊥
  earlier_differs n j l i e =
      let a = get_there (atoms_of items) n i in
      let b = get_there (atoms_of items) j (omega (arith, l, i)) in
      let x = atom_found code k v n a.0 a.1 in
      let y = atom_found code k v j b.0 b.1 in
      let home : In (r.images.atom n) (atoms_in h (r.images.membrane b.0.inside)) = subst (λ z. In z (atoms_in h (r.images.membrane b.0.inside))) (sym e) (atoms_placed j b.0 b.1) in
      let level = one_home h valid.sound.listed (r.images.atom n) (r.images.membrane b.0.inside) (r.images.membrane a.0.inside) home (atoms_placed n a.0 a.1) in
      let ia = ap (λ (z : HeadAtom). z.inside) x.2 in
      let ib = ap (λ (z : HeadAtom). z.inside) y.2 in
      let same = apart b.0.inside a.0.inside (in_head b.0.inside (subst (λ z. z < 1 + membranes_set code.head) ib y.4)) (in_head a.0.inside (subst (λ z. z < 1 + membranes_set code.head) ia x.4)) level in
      let fa = functors n a.0 a.1 in
      let fb : functor_of h (r.images.atom n) ≡ Some b.0.functor = subst (λ z. functor_of h z ≡ Some b.0.functor) (sym e) (functors j b.0 b.1) in
      let ff : b.0.functor ≡ a.0.functor = (let g : Some b.0.functor ≡ Some a.0.functor = sym fb ∙ fa in cc) in
      let fs : y.0.functor ≡ x.0.functor = ap (λ (z : HeadAtom). z.functor) y.2 ∙ ff ∙ sym (ap (λ (z : HeadAtom). z.functor) x.2) in
      let functors_same : same_functor y.0.functor x.0.functor ≡ true = subst (λ z. same_functor y.0.functor z ≡ true) fs (functor_same y.0.functor) in
      let membranes_same : (y.0.membrane == x.0.membrane) ≡ true = eq-eqb y.0.membrane x.0.membrane (ib ∙ same ∙ sym ia) in
      let both : (same_functor y.0.functor x.0.functor && (y.0.membrane == x.0.membrane)) ≡ true = (λ u. functors_same u && membranes_same u) in
      elim (either_true (not (same_functor y.0.functor x.0.functor && (y.0.membrane == x.0.membrane))) (list_any (is_neq_atom y.0.atom x.0.atom) code.head) (two_are (are_apart code.head) (atoms_found code.head) v.apart j n y.0 x.0 l y.1 x.1)) [
        | inl t ↦ true≢false (sym both ∙ not_true _ t)
        | inr t ↦ (let w = any_is (is_neq_atom y.0.atom x.0.atom) code.head t in
            neq_atom w.0 y.0.atom x.0.atom w.2 (holds_at h c r code.head w.0 succeeds.all w.1) ((λ u. r.images.atom (y.3 u)) ∙ sym e ∙ (λ u. r.images.atom (sym x.3 u))))
      ]

  atoms_differ : (n j : ℕ) → n < length (atoms_of items) → j < length (atoms_of items) → r.images.atom n ≡ r.images.atom j → n ≡ j
  atoms_differ n j l i e = elim (cases_order n j) [
    | inl s ↦ s
    | inr t ↦ elim t [ inl s ↦ absurd (earlier_differs j n s i (sym e)) | inr s ↦ absurd (earlier_differs n j s l e) ]
  ]

  -- ---- links

  partner_in_head : (i : Instr) (p q : AtomPort) → LinksBoth p q i → InstructionHolds h c r i → partner h (port_of r p) ≡ Some (port_of r q)
  partner_in_head (Deref a u j) p q (inl b) t = subst (λ z. partner h (port_of r p) ≡ Some (port_of r z)) b.1 (subst (λ z. partner h (port_of r z) ≡ Some (r.images.atom a, j)) b.0 t)
  partner_in_head (Deref a u j) p q (inr b) t =
      subst (λ z. partner h (port_of r z) ≡ Some (port_of r q)) b.1 (subst (λ z. partner h (r.images.atom a, j) ≡ Some (port_of r z)) b.0 (valid.sound.paired.back (r.images.atom u.atom) u.port (r.images.atom a) j t))
  partner_in_head (Joined u w) p q (inl b) t = subst (λ z. partner h (port_of r p) ≡ Some (port_of r z)) b.1 (subst (λ z. partner h (port_of r z) ≡ Some (port_of r w)) b.0 t)
  partner_in_head (Joined u w) p q (inr b) t =
      subst (λ z. partner h (port_of r z) ≡ Some (port_of r q)) b.1 (subst (λ z. partner h (port_of r w) ≡ Some (port_of r z)) b.0 (valid.sound.paired.back (r.images.atom u.atom) u.port (r.images.atom w.atom) w.port t))
  partner_in_head (NewLink u w) p q b t = absurd t
  partner_in_head (Relink u w) p q b t = absurd t
  partner_in_head _ p q b t = absurd b

  joined : (x : ℕ) (p q : Port) → HasLink items x p → HasLink items x q → p ≢ q → partner h (port_image r.images p) ≡ Some (port_image r.images q)
  joined x p q s t d =
      let a = link_found code k v x p s in
      let b = link_found code k v x q t in
      let is = code.head ++ code.body in
      let P : NewPort = new.Atom (port_of_register p.0 p.1) in
      let Q : NewPort = new.Atom (port_of_register q.0 q.1) in
      let u = stands_at is (ports_of code) P v.once (head_port code k v p.0 p.1 a.0 a.1 a.2) in
      let w = stands_at is (ports_of code) Q v.once (head_port code k v q.0 q.1 b.0 b.1 b.2) in
      let up : IsOneOf (P, x) (linked_by (u.0 + u.0) u.1) = subst (λ z. IsOneOf (P, z) (linked_by (u.0 + u.0) u.1)) a.3 u.3 in
      let wq : IsOneOf (Q, x) (linked_by (w.0 + w.0) w.1) = subst (λ z. IsOneOf (Q, z) (linked_by (w.0 + w.0) w.1)) b.3 w.3 in
      let one = one_instruction is u.0 w.0 x u.1 w.1 P Q u.2 w.2 up wq in
      let uq : IsOneOf (Q, x) (linked_by (u.0 + u.0) u.1) = subst (λ z. IsOneOf (Q, x) (linked_by (u.0 + u.0) z)) (sym one.1) (subst (λ z. IsOneOf (Q, x) (linked_by (z + z) w.1)) (sym one.0) wq) in
      let both = links_both (u.0 + u.0) x u.1 (port_of_register p.0 p.1) (port_of_register q.0 q.1) up uq (λ e. d (λ j. ((e j).atom, (e j).port))) in
      elim (in_append u.1 code.head code.body (get_one is u.0 u.1 u.2)) [
        | inl o ↦ partner_in_head u.1 (port_of_register p.0 p.1) (port_of_register q.0 q.1) both (holds_at h c r code.head u.1 succeeds.all o)
        | inr o ↦ absurd (not_in_body (length (atoms_found code.head)) (1 + length (membranes_found code.head)) k u.1 (port_of_register p.0 p.1) (port_of_register q.0 q.1)
            (get_below (atoms_found code.head) p.0 a.0 a.1) (get_below (atoms_found code.head) q.0 b.0 b.1) both (all_is _ code.body u.1 (body_is code k v) o))
      ]

  -- ---- parts

  parts : (g : ℕ) (t : HeadTyped) → HasTyped items g t → IsPartOf h items r.images g t
  parts g t e =
      let w = typed_link code k v g t e in
      let x = w.0 in
      let at = w.1 in
      let hold = each_is (PartHolds h c r) (parts_found code.head) x (parts_hold h c r code.head succeeds.all) (get_one (parts_found code.head) g x w.3) in
      let kinds = ap (λ (z : HeadTyped). z.kind) w.7 in
      let insides = ap (λ (z : HeadTyped). z.inside) w.7 in
      let root : r.images.part x.part ≡ r.images.part g = ap r.images.part w.6 in
      let is = code.head ++ code.body in
      let P : NewPort = new.Atom x.port in
      let get = get_front code.head code.body at w.2 w.4 in
      let here : IsOneOf (P, at + at) (linked_by (at + at) w.2) = subst (λ l. IsOneOf {A = NewPort × ℕ} (P, at + at) l) (sym (part_ports (at + at) w.2 x w.5)) (inl refl) in
      let held : (p : Port) → HasLink items t.link p → partner h (port_image r.images p) ≡ Some (r.images.part g) = λ p s.
      (let a = link_found code k v t.link p s in
      let Q : NewPort = new.Atom (port_of_register p.0 p.1) in
      let number : link_in code Q ≡ at + at = a.3 ∙ w.8 in
      let u = stands_at is (ports_of code) Q v.once (head_port code k v p.0 p.1 a.0 a.1 a.2) in
      let uq : IsOneOf (Q, at + at) (linked_by (u.0 + u.0) u.1) = subst (λ z. IsOneOf (Q, z) (linked_by (u.0 + u.0) u.1)) number u.3 in
      let same = one_instruction is at u.0 (at + at) w.2 u.1 P Q get u.2 here uq in
      let there : IsOneOf (Q, at + at) (linked_by (at + at) w.2) = subst (λ z. IsOneOf (Q, at + at) (linked_by (at + at) z)) (sym same.1) (subst (λ z. IsOneOf (Q, at + at) (linked_by (z + z) u.1)) (sym same.0) uq) in
      let port = only_one P Q (at + at) (subst (λ l. IsOneOf {A = NewPort × ℕ} (Q, at + at) l) (part_ports (at + at) w.2 x w.5) there) in
      subst (λ z. partner h (port_of r z) ≡ Some (r.images.part g)) (atom_port_is x.port (port_of_register p.0 p.1) port) (hold.held ∙ ap Some root)) in
      record {
        held = held;
        of_kind = subst (λ z. IsOfKindAt h z (r.images.part g)) kinds (subst (λ z. IsOfKindAt h x.kind z) root hold.of_kind);
        whole = subst (λ z. StandsWhole (atom_map h) (r.images.part g) (r.images.membrane z)) insides (subst (λ z. StandsWhole (atom_map h) z (r.images.membrane x.membrane)) root hold.whole);
        apart = λ b s o. hold.apart b o.0 (subst (λ z. Reached (atom_map h) z b) (sym root) s) (let n = atoms_counted code.head v.looked_at in let a = atom_count code in let l = o.1 in omega (arith, n, a, l)) o.2;
      }
    where
      only_one : (p q : NewPort) (x : ℕ) → IsOneOf {A = NewPort × ℕ} (q, x) ((p, x) ∷ []) → p ≡ q
      only_one p q x (inl s) = λ j. (s j).0
      only_one p q x (inr s) = absurd s

  -- ---- parts that are named

  some_one : (gs : List ℕ) (b : ℕ) → IsInSome h r gs b → (g : ℕ) × IsOneOf g gs × Reached (atom_map h) (r.images.part g) b
  some_one [] b s = absurd s
  some_one (g ∷ gs) b (inl s) = (g, inl refl, s)
  some_one (g ∷ gs) b (inr s) = let w = some_one gs b s in (w.0, inr w.1, w.2)

  one_some : (gs : List ℕ) (b g : ℕ) → IsOneOf g gs → Reached (atom_map h) (r.images.part g) b → IsInSome h r gs b
  one_some [] b g i s = i
  one_some (x ∷ gs) b g (inl e) s = inl (subst (λ z. Reached (atom_map h) (r.images.part z) b) (sym e) s)
  one_some (x ∷ gs) b g (inr i) s = inr (one_some gs b g i s)

  abbrev named_test : ℕ → List ℕ → FoundPart → Bool
  named_test n gs p = count_by (λ g. g == p.part) gs == (if p.membrane == n then 1 else 0)

  named_inside : (n : ℕ) (gs : List ℕ) (p : FoundPart) → named_test n gs p ≡ true → IsOneOf p.part gs → p.membrane ≡ n
  named_inside n gs p e i = by (p.membrane == n) refl (eqb-true (count_by (λ g. g == p.part) gs) (if p.membrane == n then 1 else 0) e)
    where
      by : (b : Bool) → (p.membrane == n) ≡ b → count_by (λ g. g == p.part) gs ≡ (if b then 1 else 0) → p.membrane ≡ n
      by true t c = eqb-true p.membrane n t
      by false t c = absurd (counted_one (λ g. g == p.part) gs p.part i (equal_itself p.part) c)

  inside_named : (n : ℕ) (gs : List ℕ) (p : FoundPart) → named_test n gs p ≡ true → p.membrane ≡ n → IsOneOf p.part gs
  inside_named n gs p e s = by (p.membrane == n) (eq-eqb p.membrane n s) (eqb-true (count_by (λ g. g == p.part) gs) (if p.membrane == n then 1 else 0) e)
    where
      by : (b : Bool) → b ≡ true → count_by (λ g. g == p.part) gs ≡ (if b then 1 else 0) → IsOneOf p.part gs
      by true t c = let w = counted_some (λ g. g == p.part) gs 0 c in subst (λ z. IsOneOf z gs) (eqb-true w.0 p.part w.2) w.1
      by false t c = absurd (true≢false (sym t))

  named_out : (n : ℕ) (gs : List ℕ) → names_parts n gs (parts_found code.head) ≡ true → AllByRecursion (λ j. j < parts_set code.head) gs → (b : ℕ) → IsInSome h r gs b → IsInPart h items r.images n b
  named_out n gs named below b s =
      let o = some_one gs b s in
      let count = parts_counted code.head in
      let l = each_is (λ j. j < parts_set code.head) gs o.0 below o.1 in
      let p = get_there (parts_found code.head) o.0 (omega (arith, l, count)) in
      let t : HasTyped items o.0 (head_typed code p.0) = subst (λ z. slice_get z o.0 ≡ Some (head_typed code p.0)) (sym (typed_are code)) (get_image (head_typed code) (parts_found code.head) o.0 p.0 p.1) in
      let number = part_number o.0 p.0 p.1 in
      let inside = named_inside n gs p.0 (all_is (named_test n gs) (parts_found code.head) p.0 named (get_one (parts_found code.head) o.0 p.0 p.1)) (subst (λ z. IsOneOf z gs) (sym number) o.1) in
      (o.0, head_typed code p.0, t, inside, o.2)
    where
      part_number : (g : ℕ) (p : FoundPart) → slice_get (parts_found code.head) g ≡ Some p → p.part ≡ g
      part_number g p e = (each_at_first (IsPartAt (atoms_set code.head) (1 + membranes_set code.head) (parts_set code.head)) (parts_found code.head) g p (all_found code k v).parts e).0

  named_in : (n : ℕ) (gs : List ℕ) → names_parts n gs (parts_found code.head) ≡ true → (b : ℕ) → IsInPart h items r.images n b → IsInSome h r gs b
  named_in n gs named b u =
      let w = typed_found code k v u.0 u.1 u.2 in
      let inside : w.0.membrane ≡ n = ap (λ (z : HeadTyped). z.inside) w.2 ∙ u.3 in
      let one = inside_named n gs w.0 (all_is (named_test n gs) (parts_found code.head) w.0 named (get_one (parts_found code.head) u.0 w.0 w.1)) inside in
      one_some gs b u.0 (subst (λ z. IsOneOf z gs) w.3 one) u.4

  -- ---- membranes without others

  -- where a membrane has no context all that it holds is counted
  counted : (n : ℕ) (b : HeadMembrane) → HasMembrane items n b → b.has_context ≡ false → is_counted code.head n ≡ true
  counted n b e bare =
      let w = membrane_found_at code k v e.0 b e.2 in
      let nothing : nothing_left code w.0.membrane ≡ true = not_false (nothing_left code w.0.membrane) (ap (λ (z : HeadMembrane). z.has_context) w.2 ∙ bare) in
      subst (λ z. is_counted code.head z ≡ true) (w.3 ∙ sym e.1) (first_true (is_counted code.head w.0.membrane) _ nothing)

  from_zero : (f : ℕ → ℕ) (i j : ℕ) → f (0 + i) ≡ f (0 + j) → f i ≡ f j
  from_zero f i j e = let u : i ≡ 0 + i = omega arith in let w : 0 + j ≡ j = omega arith in ap f u ∙ (e ∙ ap f w)

  no_other_atom : (n : ℕ) (x : HeadMembrane) (b : ℕ) → HasMembrane items n x → x.has_context ≡ false → In b (atoms_in h (r.images.membrane n)) → IsAtomImage items r.images b ⊎ IsInPart h items r.images n b
  no_other_atom n x b e bare s =
      let both = counted n x e bare in
      let any = any_is (counts_atoms (atoms_found code.head) (parts_found code.head) n) code.head (first_true (list_any (counts_atoms (atoms_found code.head) (parts_found code.head) n) code.head) _ both) in
      let is = counts_atoms_is (atoms_found code.head) (parts_found code.head) n any.0 any.2 in
      let one : IsOneOf (NAtoms n is.0 is.1) code.head = subst (λ z. IsOneOf z code.head) is.2 any.1 in
      let o : HasOthers (IsInSome h r is.1) is.0 (atoms_in h (r.images.membrane n)) = holds_at h c r code.head (NAtoms n is.0 is.1) succeeds.all one in
      let out = named_out n is.1 is.4 (each_is (NamesSet (atoms_set code.head) (1 + membranes_set code.head) (parts_set code.head)) code.head (NAtoms n is.0 is.1) (all_found code k v).names one) in
      let images = images_inside (λ (a : HeadAtom). a.inside) r.images.atom n 0 (atoms_of items) in
      let size : length images ≡ number_inside (λ (a : HeadAtom). a.inside) n (atoms_of items) = images_length (λ (a : HeadAtom). a.inside) r.images.atom n 0 (atoms_of items) in
      let number : number_inside (λ (a : HeadAtom). a.inside) n (atoms_of items) ≡ is.0 =
      ap (λ l. number_inside (λ (a : HeadAtom). a.inside) n l) (atoms_are code) ∙ number_counted (λ (a : HeadAtom). a.inside) (head_atom code) n (atoms_found code.head) ∙ sym is.3 in
      let differ : Distinct images = images_distinct (λ (a : HeadAtom). a.inside) r.images.atom n 0 (atoms_of items) (λ i j l u w. atoms_differ i j l u (from_zero r.images.atom i j w)) in
      let among : (y : ℕ) → In y images → In y o.others = λ y i.
      (let at = images_are (λ (a : HeadAtom). a.inside) r.images.atom n 0 y (atoms_of items) i in
      let z : 0 + at.0 ≡ at.0 = omega arith in
      let image : r.images.atom at.0 ≡ y = ap r.images.atom (sym z) ∙ at.4 in
      let home : In y (atoms_in h (r.images.membrane n)) = subst (λ q. In y (atoms_in h (r.images.membrane q))) at.3
      (subst (λ u. In u (atoms_in h (r.images.membrane at.1.inside))) image (atoms_placed at.0 at.1 at.2)) in
      elim (o.rest y home) [
        | inl u ↦ u
        | inr u ↦ (let p = out y u in absurd ((parts p.0 p.1 p.2).apart y p.4 (at.0, get_below (atoms_of items) at.0 at.1 at.2, image)))
      ]) in
      elim (o.rest b s) [
        | inl u ↦ (let at = images_are (λ (a : HeadAtom). a.inside) r.images.atom n 0 b (atoms_of items) (has_all images o.others differ among (let q = o.count in omega (arith, size, number, q)) b u) in
            let z : 0 + at.0 ≡ at.0 = omega arith in
            inl (at.0, get_below (atoms_of items) at.0 at.1 at.2, ap r.images.atom (sym z) ∙ at.4))
        | inr u ↦ inr (out b u)
      ]

  no_other_membrane : (n : ℕ) (x : HeadMembrane) (b : ℕ) → HasMembrane items n x → x.has_context ≡ false → In b (mems_in h (r.images.membrane n)) → IsMembraneImage items r.images b
  no_other_membrane n x b e bare s =
      let both = counted n x e bare in
      let any = any_is (counts_membranes (membranes_found code.head) n) code.head (second_true (list_any (counts_atoms (atoms_found code.head) (parts_found code.head) n) code.head) (list_any (counts_membranes (membranes_found code.head) n) code.head) both) in
      let is = counts_membranes_is (membranes_found code.head) n any.0 any.2 in
      let size : length (mems_in h (r.images.membrane n)) ≡ is.0 = holds_at h c r code.head (NMems n is.0) succeeds.all (subst (λ z. IsOneOf z code.head) is.1 any.1) in
      let f : ℕ → ℕ = λ i. r.images.membrane (suc i) in
      let images = images_inside (λ (a : HeadMembrane). a.inside) f n 0 (membranes_of items) in
      let count : length images ≡ number_inside (λ (a : HeadMembrane). a.inside) n (membranes_of items) = images_length (λ (a : HeadMembrane). a.inside) f n 0 (membranes_of items) in
      let number : number_inside (λ (a : HeadMembrane). a.inside) n (membranes_of items) ≡ is.0 =
      ap (λ l. number_inside (λ (a : HeadMembrane). a.inside) n l) (membranes_are code) ∙ number_counted (λ (a : HeadMembrane). a.inside) (head_membrane code) n (membranes_found code.head) ∙ sym is.2 in
      let differ : Distinct images = images_distinct (λ (a : HeadMembrane). a.inside) f n 0 (membranes_of items) (λ i j l u w. membranes_differ i j l u (from_zero f i j w)) in
      let among : (y : ℕ) → In y images → In y (mems_in h (r.images.membrane n)) = λ y i.
      (let at = images_are (λ (a : HeadMembrane). a.inside) f n 0 y (membranes_of items) i in
      let z : 0 + at.0 ≡ at.0 = omega arith in
      subst (λ q. In y (mems_in h (r.images.membrane q))) at.3 (subst (λ u. In u (mems_in h (r.images.membrane at.1.inside))) (ap f (sym z) ∙ at.4) (placed at.0 at.1 at.2))) in
      let at = images_are (λ (a : HeadMembrane). a.inside) f n 0 b (membranes_of items) (has_all images (mems_in h (r.images.membrane n)) differ among (omega (arith, size, number, count)) b s) in
      let z : 0 + at.0 ≡ at.0 = omega arith in
      (at.0, get_below (membranes_of items) at.0 at.1 at.2, ap f (sym z) ∙ at.4)

  -- ---- closed rests

  closed : (n : ℕ) (x : HeadMembrane) (b i : ℕ) (p : Port) → HasMembrane items n x → x.has_closed_context ≡ true → IsInRest h items r.images n b → partner h (b, i) ≡ Some p → IsInRest h items r.images n p.0
  closed n x b i p e z u q =
      let w = membrane_found_at code k v e.0 x e.2 in
      let dropped : rest_dropped code w.0.membrane ≡ true = ap (λ (y : HeadMembrane). y.has_closed_context) w.2 ∙ z in
      let tested : is_closed code.head n ≡ true = subst (λ y. is_closed code.head y ≡ true) (w.3 ∙ sym e.1) (first_true (is_closed code.head w.0.membrane) _ (second_true _ _ dropped)) in
      let any = any_is (finds_closed (parts_found code.head) n) code.head tested in
      let is = finds_closed_is (parts_found code.head) n any.0 any.2 in
      let one : IsOneOf (IsClosed n is.0) code.head = subst (λ y. IsOneOf y code.head) is.1 any.1 in
      let stays = holds_at h c r code.head (IsClosed n is.0) succeeds.all one in
      let names = each_is (NamesSet (atoms_set code.head) (1 + membranes_set code.head) (parts_set code.head)) code.head (IsClosed n is.0) (all_found code k v).names one in
      rest_of is.0 is.2 names p.0 (stays b i p (left_of is.0 is.2 names b u) q)
    where
      atoms_same : atoms_set code.head ≡ length (atoms_of items)
      atoms_same = sym (atom_count code ∙ atoms_counted code.head v.looked_at)

      below : n ≤ length (membranes_of items)
      below = let l = get_below (membranes_of items) e.0 x e.2 in let s = e.1 in omega (arith, l, s)

      register : (j d : ℕ) → j < 1 + membranes_set code.head → r.images.membrane j ≡ d → In d (mems_in h (r.images.membrane n)) → (IsMembraneImage items r.images d → ⊥) → ⊥
      register zero d l s o away = outside n below (subst (λ z. In z (mems_in h (r.images.membrane n))) (sym s) o)
      register (suc j) d l s o away = away (j, (let a = membrane_count code in let b = membranes_counted code.head in omega (arith, l, a, b)), s)

      rest_of : (gs : List ℕ) → names_parts n gs (parts_found code.head) ≡ true → AllByRecursion (λ j. j < parts_set code.head) gs → (b : ℕ) → IsLeftIn h c r n gs b → IsInRest h items r.images n b
      rest_of gs named names b (inl w) = inl (w.0, (λ u. w.1 u.0 (subst (λ z. u.0 < z) (sym atoms_same) u.1) u.2), (λ u. w.2 (named_in n gs named b u)))
      rest_of gs named names b (inr w) = inr (w.0, w.1, (λ u. w.2 (suc u.0) (let l = u.1 in let a = membrane_count code in let b = membranes_counted code.head in omega (arith, l, a, b)) u.2), w.3)

      left_of : (gs : List ℕ) → names_parts n gs (parts_found code.head) ≡ true → AllByRecursion (λ j. j < parts_set code.head) gs → (b : ℕ) → IsInRest h items r.images n b → IsLeftIn h c r n gs b
      left_of gs named names b (inl w) = inl (w.0, (λ j l s. w.1 (j, subst (λ z. j < z) atoms_same l, s)), (λ u. w.2 (named_out n gs named names b u)))
      left_of gs named names b (inr w) = inr (w.0, w.1, (λ j l s. register j w.0 l s w.1 w.2), w.3)

  no_rule : (n : ℕ) (x : HeadMembrane) → HasMembrane items n x → x.has_rule_context ≡ false → rules_in h (r.images.membrane n) ≡ []
  no_rule n x e bare =
      let w = membrane_found_at code k v e.0 x e.2 in
      absurd (true≢false (ap (λ (z : HeadMembrane). z.has_rule_context) w.2 ∙ bare))

  -- The flat head lies.
  pub lies : Lies h items m r.images
  lies = record {
    here = succeeds.here;
    atoms_differ = atoms_differ;
    membranes_differ = membranes_differ;
    functors = functors;
    atoms_placed = atoms_placed;
    membranes_placed = membranes_placed;
    joined = joined;
    no_other_atom = no_other_atom;
    no_other_membrane = no_other_membrane;
    no_rule = no_rule;
    closed = closed;
    parts = parts;
  }

-- Heads of verified code lie where they succeed.
pub verified_heads_lie : VerifiedHeadsLie
verified_heads_lie code k v h m r valid place succeeds = lies code k v h valid m r succeeds
