-- The membranes form a tree after a firing.
use Rattle.std.proofs.Common.{ℕ, suc, ◌+◌, ◌<◌, ◌≤◌, ◌≡◌, ◌≢◌, ◌⊎◌, ◌==◌, Bool, true, false, cond, List, [], ◌∷◌, ◌++◌, map, length, Option, Some, None, IsSome, refl, sym, ap, subst, ◌∙◌, inl, inr, arith}
use Rattle.std.proofs.lemmas.Bool.{cases_eq, cases_lt, eq-eqb, eqb-true}
use Rattle.std.proofs.lemmas.List.{append_assoc}
use Rattle.std.specs.Option.{option_map}
use Rattle.lmn_base.specs.Solids.{connector}
use Rattle.lmn_store_heap.specs.Heap as heap
use Rattle.lmn_store_heap.specs.Conditions.{Ready}
use Rattle.lmn_store_heap.specs.Heap.{Heap, HeapAtom, HeapMem, top, within, gone, mem_place_of, atoms_in, mems_in, functor_of, IsMem, IsInPlace, IsMemInPlace, Distinct, finished}
use Rattle.lmn_store_heap.specs.Sound.{Forest, flat, Valid, Sound}
use Rattle.lmn_store_heap.proofs.ListLemmas.{in_left, in_right}
use Rattle.lmn_store_heap.proofs.Finish.{finish_valid}
use Rattle.lmn_solid_heads.specs.declared.items.HeadItem.{HeadItem}
use Rattle.lmn_solid_heads.specs.Heads.{HeadMembrane, atoms_of, membranes_of}
use Rattle.lmn_solid_heads.specs.Embeddings.{Lies, HasMembrane, index_of}
use Rattle.lmn_solid_bodies.specs.declared.items.BodyItem.{BodyItem}
use Rattle.lmn_solid_bodies.specs.declared.items.BodyItem.TheVariants.{Atom, Connector, Copy, Bound, Membrane, Rest, Rule, Rules}
use Rattle.lmn_solid_bodies.specs.Running.{Registers, DoesAll}
use Rattle.lmn_solid_bodies.specs.Names.{Names}
use Rattle.lmn_solid_bodies.specs.Added.{if_inside, added_mems, moved_mems, made_mems}
use Rattle.lmn_solid_bodies.specs.RestCopies.{RestCopy, RestCopies, later as later_copies, rest_membranes, copied_membrane, copied_into, given, IsAsLong, AreAsLong}
use Rattle.lmn_solid_bodies.proofs.AddedLemmas.{AreWholeRests, long_enough}
use Rattle.lmn_solid_bodies.proofs.RestGrowing.{in_given}
use Rattle.lmn_solid_bodies.proofs.Held.{Held}
use Rattle.lmn_store_heap.specs.Sound.{Listed}
use Rattle.lmn_store_heap.proofs.ListLemmas.{each_in, apart, distinct_left, distinct_right}
use Rattle.lmn_ground_parts.specs.Copies.{answer}
use Rattle.lmn_ground_parts.proofs.AnswerLaws.{answer_here, answer_on, answer_in}
use Rattle.lmn_congruence_splice.specs.Splice.{IsOneOf}
use Rattle.lmn_solid_bodies.specs.Rules.{AtomRule, Goes, Exists, Nests, HeadNests, PartAtoms, closed_rests}
use Rattle.lmn_solid_bodies.specs.Within.{membrane_images, dropped_atoms, removed_mems}
use Rattle.lmn_solid_bodies.proofs.Committing.{in_withouts_of}
use Rattle.lmn_solid_bodies.proofs.Below.{index_most, index_in, index_split, index_front, preorder, later}
use Rattle.lmn_solid_bodies.proofs.Firing.{new_plain}
use Rattle.lmn_solid_bodies.proofs.Growing.{some_there}
use Rattle.lmn_solid_bodies.proofs.MakingParts.{moved_within}
use Rattle.lmn_solid_bodies.proofs.Preparing.{AllPrepared}
use Rattle.lmn_store_heap.proofs.Heights.{mem_of_list}
use Rattle.lmn_store_heap.proofs.Ranks.{tree, tree_forms, tree_once, tree_all}
use Rattle.lmn_solid_bodies.proofs.Nesting as nesting
use Rattle.lmn_base.specs.Graphs.{Port}
use Rattle.lmn_store_heap.specs.Lists.{without_all}
use Rattle.lmn_store_heap.proofs.Common.{decide_in}
use Rattle.lmn_solid_bodies.specs.Code.{making, drops}
use Rattle.lmn_base.specs.Lists.{In}
use Rattle.lmn_base.proofs.Lists.{in_either}
use Rattle.lmn_base.proofs.Numbers.{not_equal}
use Rattle.lmn_base.proofs.Common.{of_map}

-- Membranes that are added

in_if : (r : Registers) (x inside : ℕ) (ns : List ℕ) (b : ℕ) → In b (if_inside r x inside ns) → In b ns × (r.head.images.membrane inside ≡ x)
in_if r x inside ns b i = by (r.head.images.membrane inside == x) refl i
  where
    by : (t : Bool) → (r.head.images.membrane inside == x) ≡ t → In b (cond t ns []) → In b ns × (r.head.images.membrane inside ≡ x)
    by true e i = (i, eqb-true (r.head.images.membrane inside) x e)
    by false e i = absurd i

-- An added membrane b of x: it is made, and x is the top or made before it; or it is left of a membrane that moves, and x
-- is the top or made.
abbrev Came : Registers → (ℕ → List ℕ) → ℕ → List ℕ → List BodyItem → ℕ → ℕ → Type 0
Came r left home all body x b =
    (In b all × ((x ≡ home) ⊎ (In x all × (index_of x all < index_of b all)))) ⊎ ((k : ℕ) × In k (moved_mems r body) × In b (left k) × ((x ≡ home) ⊎ In x all))

-- the number of what stands behind a front
index_behind : (x : ℕ) (before ys zs : List ℕ) → (In x before → ⊥) → In x ys → index_of x (before ++ (ys ++ zs)) ≡ length before + index_of x ys
index_behind x [] ys zs o i = in_front ys i ∙ zero_plus (index_of x ys)
  where
    zero_plus : (n : ℕ) → n ≡ 0 + n
    zero_plus n = omega arith

    in_front : (ys : List ℕ) → In x ys → index_of x (ys ++ zs) ≡ index_of x ys
    in_front [] i = absurd i
    in_front (y ∷ ys) (inl e) = rw (eq-eqb y x e) refl
    in_front (y ∷ ys) (inr i) = by (y == x) (in_front ys i)
      where
        by : (t : Bool) → index_of x (ys ++ zs) ≡ index_of x ys → cond t 0 (suc (index_of x (ys ++ zs))) ≡ cond t 0 (suc (index_of x ys))
        by true e = refl
        by false e = ap suc e
index_behind x (b ∷ before) ys zs o i = rw (not_equal b x (λ e. o (inl e))) (ap suc (index_behind x before ys zs (λ j. o (inr j)) i) ∙ suc_plus (length before) (index_of x ys))
  where
    suc_plus : (a b : ℕ) → suc (a + b) ≡ suc a + b
    suc_plus a b = omega arith

-- answers stand where what they answer stands
index_answer : (xs ys : List ℕ) (a : ℕ) → Distinct xs → Distinct ys → length ys ≡ length xs → In a xs → index_of (answer xs ys a) ys ≡ index_of a xs
index_answer [] ys a d e l i = absurd i
index_answer (x ∷ xs) [] a d e l i = absurd (omega (arith, l))
index_answer (x ∷ xs) (y ∷ ys) a d e l i = elim (cases_eq x a) [
  | inl q ↦ ap (λ z. index_of z (y ∷ ys)) (answer_here x y xs ys a q) ∙ rw (eq-eqb y y refl) (sym (rw (eq-eqb x a q) refl))
  | inr n ↦ (let j = rest i n in
      let at = answer_in xs ys a (omega (arith, l)) j in
      ap (λ z. index_of z (y ∷ ys)) (answer_on x y xs ys a n) ∙ rw (not_equal y (answer xs ys a) (λ q. each_in (λ z. y ≢ z) ys (answer xs ys a) e.0 at q))
      (ap suc (index_answer xs ys a d.1 e.1 (omega (arith, l)) j) ∙ sym (rw (not_equal x a n) refl)))
]
  where
    rest : In a (x ∷ xs) → (x ≡ a → ⊥) → In a xs
    rest (inl q) n = absurd (n q)
    rest (inr j) n = j

-- of each copied rest a membrane comes before those that stand in it
abbrev pub InOrder : Registers → (ℕ → List ℕ) → List BodyItem → Type 0
InOrder r left body = (of : ℕ) → IsOneOf of (closed_rests body) → (k j : ℕ) → In k (r.left_membranes of) → In j (left k) → index_of k (r.left_membranes of) < index_of j (r.left_membranes of)

-- into more membranes
into_more : (y home : ℕ) (done more : List ℕ) → ((z : ℕ) → In z done → In z more) → (y ≡ home) ⊎ In y done → (y ≡ home) ⊎ In y more
into_more y home done more sub (inl e) = inl e
into_more y home done more sub (inr i) = inr (sub y i)

both_more : (done more : List ℕ) (z : ℕ) → ((y : ℕ) → In y done → In y more) → (y : ℕ) → In y (done ++ z ∷ []) → In y (more ++ z ∷ [])
both_more done more z sub y i = elim (in_either y done (z ∷ []) i) [ inl j ↦ in_left y more (z ∷ []) (sub y j) | inr j ↦ in_right y more (z ∷ []) j ]

nests_more : (r : Registers) (home : ℕ) (done more : List ℕ) (m : ℕ) (xs : List BodyItem) → ((y : ℕ) → In y done → In y more) → Nests r home done m xs → Nests r home more m xs
nests_more r home done more m [] sub w = tt
nests_more r home done more m (Atom functor links inside ∷ xs) sub w = (into_more (r.head.images.membrane inside) home done more sub w.0, nests_more r home done more m xs sub w.1)
nests_more r home done more m (Connector l l' ∷ xs) sub w = nests_more r home done more m xs sub w
nests_more r home done more m (Copy part link inside ∷ xs) sub w = (into_more (r.head.images.membrane inside) home done more sub w.0, nests_more r home done more m xs sub w.1)
nests_more r home done more m (Bound integer link inside ∷ xs) sub w = (into_more (r.head.images.membrane inside) home done more sub w.0, nests_more r home done more m xs sub w.1)
nests_more r home done more m (Membrane inside ∷ xs) sub w = (into_more (r.head.images.membrane inside) home done more sub w.0, nests_more r home (done ++ r.head.images.membrane m ∷ []) (more ++ r.head.images.membrane m ∷ []) (m + 1) xs (λ y i. both_more done more (r.head.images.membrane m) sub y i) w.1)
nests_more r home done more m (Rest of closed inside ∷ xs) sub w = (into_more (r.head.images.membrane inside) home done more sub w.0, nests_more r home done more m xs sub w.1)
nests_more r home done more m (Rule rule inside ∷ xs) sub w = (into_more (r.head.images.membrane inside) home done more sub w.0, nests_more r home done more m xs sub w.1)
nests_more r home done more m (Rules of inside ∷ xs) sub w = (into_more (r.head.images.membrane inside) home done more sub w.0, nests_more r home done more m xs sub w.1)

-- what the copy of a rest adds to a membrane stands behind it in the list of what is made
pub rest_comes : (r : Registers) (p : RestCopy) (of inside : ℕ) (left : ℕ → List ℕ) (home : ℕ) (all : List ℕ) → Distinct all → (done more : List ℕ) → all ≡ done ++ (p.membranes ++ more) → IsAsLong r of p → Distinct (r.left_membranes of)
    → (In (r.head.images.membrane of) (r.left_membranes of) → ⊥) → ((k j : ℕ) → In k (rest_membranes r of) → In j (left k) → In j (r.left_membranes of))
    → ((k j : ℕ) → In k (r.left_membranes of) → In j (left k) → index_of k (r.left_membranes of) < index_of j (r.left_membranes of)) → (r.head.images.membrane inside ≡ home) ⊎ In (r.head.images.membrane inside) done
    → (x b : ℕ) → In b (given (λ k. map (copied_membrane r of p) (left k)) (copied_into r of inside p) (rest_membranes r of) x) → In b all × ((x ≡ home) ⊎ (In x all × (index_of x all < index_of b all)))
rest_comes r p of inside left home all d done more e lo once outside into_mems ordered target x b j =
    let lm = r.left_membranes of in
    let u = in_given (λ k. map (copied_membrane r of p) (left k)) (copied_into r of inside p) (rest_membranes r of) x b j in
    let v = of_map (copied_membrane r of p) b (left u.0) u.3 in
    let z : In v.0 lm = into_mems u.0 v.0 u.1 v.1 in
    let in_new : In b p.membranes = subst (λ y. In y p.membranes) v.2 (answer_in lm p.membranes v.0 (long_enough lo.1) z) in
    (subst (In b) (sym e) (in_right b done (p.membranes ++ more) (in_left b p.membranes more in_new)), placed u.0 u.1 u.2 v.0 v.1 v.2 z in_new)
  where
    new_once : Distinct p.membranes
    new_once = distinct_left p.membranes more (distinct_right done (p.membranes ++ more) (subst Distinct e d))

    behind : (y : ℕ) → In y p.membranes → index_of y all ≡ length done + index_of y p.membranes
    behind y i = ap (index_of y) e ∙ index_behind y done p.membranes more (λ q. apart done (p.membranes ++ more) y y (subst Distinct e d) q (in_left y p.membranes more i) refl) i

    placed : (k : ℕ) → In k (rest_membranes r of) → copied_into r of inside p k ≡ x → (j : ℕ) → In j (left k) → copied_membrane r of p j ≡ b → In j (r.left_membranes of) → In b p.membranes
        → (x ≡ home) ⊎ (In x all × (index_of x all < index_of b all))
    placed k (inl f) to j l g z in_new = elim target [
      | inl t ↦ inl (sym (here f) ∙ t)
      | inr t ↦ inr (
        subst (In x) (sym e) (in_left x done (p.membranes ++ more) (subst (λ y. In y done) (here f) t)),
        (let before : index_of x all < length done = subst (λ zs. index_of x zs < length done) (sym e) (index_front x done (p.membranes ++ more) (subst (λ y. In y done) (here f) t)) in
            let at = behind b in_new in omega (arith, before, at)),
      )
    ]
      where
        here : r.head.images.membrane of ≡ k → r.head.images.membrane inside ≡ x
        here f = sym (answer_here (r.head.images.membrane of) (r.head.images.membrane inside) (r.left_membranes of) p.membranes k f) ∙ to
    placed k (inr f) to j l g z in_new =
        let x_is : copied_membrane r of p k ≡ x = sym (answer_on (r.head.images.membrane of) (r.head.images.membrane inside) (r.left_membranes of) p.membranes k (λ q. outside (subst (λ y. In y (r.left_membranes of)) (sym q) f))) ∙ to in
        let x_new : In x p.membranes = subst (λ y. In y p.membranes) x_is (answer_in (r.left_membranes of) p.membranes k (long_enough lo.1) f) in
        let order = ordered k j f l in
        let ix : index_of x p.membranes ≡ index_of k (r.left_membranes of) = ap (λ y. index_of y p.membranes) (sym x_is) ∙ index_answer (r.left_membranes of) p.membranes k once new_once lo.1 f in
        let ib : index_of b p.membranes ≡ index_of j (r.left_membranes of) = ap (λ y. index_of y p.membranes) (sym g) ∙ index_answer (r.left_membranes of) p.membranes j once new_once lo.1 z in
        let ax = behind x x_new in
        let ab = behind b in_new in
        inr (subst (In x) (sym e) (in_right x done (p.membranes ++ more) (in_left x p.membranes more x_new)), omega (arith, order, ix, ib, ax, ab))

came_from : (r : Registers) (qs : RestCopies) (atoms left : ℕ → List ℕ) (home : ℕ) (all : List ℕ) → Distinct all → (done : List ℕ) (m : ℕ) (body : List BodyItem) → AreAsLong r qs body → AreWholeRests r atoms left body → InOrder r left body
    → ((of : ℕ) → IsOneOf of (closed_rests body) → Distinct (r.left_membranes of)) → all ≡ done ++ made_mems r qs m body → Nests r home done m body
    → (x b : ℕ) → In b (added_mems r qs left m body x) → Came r left home all body x b
came_from r qs atoms left home all d done m [] lo wh od on e w x b i = absurd i
came_from r qs atoms left home all d done m (Atom functor links inside ∷ xs) lo wh od on e w x b i = came_from r qs atoms left home all d done m xs lo wh od on e w.1 x b i
came_from r qs atoms left home all d done m (Connector l l' ∷ xs) lo wh od on e w x b i = came_from r qs atoms left home all d done m xs lo wh od on e w x b i
came_from r qs atoms left home all d done m (Copy part link inside ∷ xs) lo wh od on e w x b i = came_from r qs atoms left home all d done m xs lo wh od on e w.1 x b i
came_from r qs atoms left home all d done m (Bound integer link inside ∷ xs) lo wh od on e w x b i = came_from r qs atoms left home all d done m xs lo wh od on e w.1 x b i
came_from r qs atoms left home all d done m (Membrane inside ∷ xs) lo wh od on e w x b i =
    elim (in_either b (if_inside r x inside (r.head.images.membrane m ∷ [])) (added_mems r qs left (m + 1) xs x) i) [
      | inl j ↦ (let u = in_if r x inside (r.head.images.membrane m ∷ []) b j in elim u.0 [
        | inl q ↦ inl (
          subst (In b) (sym e) (in_right b done (r.head.images.membrane m ∷ made_mems r qs (m + 1) xs) (inl q)),
          elim w.0 [
            | inl t ↦ inl (sym u.1 ∙ t)
            | inr t ↦ inr (place t u.1 q)
          ],
        )
        | inr v ↦ absurd v
      ])
      | inr j ↦ came_from r qs atoms left home all d (done ++ r.head.images.membrane m ∷ []) (m + 1) xs lo wh od on (e ∙ sym (append_assoc done (r.head.images.membrane m ∷ []) (made_mems r qs (m + 1) xs))) w.1 x b j
    ]
  where
    place : In (r.head.images.membrane inside) done → r.head.images.membrane inside ≡ x → r.head.images.membrane m ≡ b → In x all × (index_of x all < index_of b all)
    place t same q =
        let in_done : In x done = subst (λ z. In z done) same t in
        let at : index_of b all ≡ length done = subst (λ z. index_of z all ≡ length done) q
        (subst (λ zs. index_of (r.head.images.membrane m) zs ≡ length done) (sym e) (index_split done (r.head.images.membrane m) (made_mems r qs (m + 1) xs) (subst Distinct e d))) in
        let before : index_of x all < length done = subst (λ zs. index_of x zs < length done) (sym e) (index_front x done (r.head.images.membrane m ∷ made_mems r qs (m + 1) xs) in_done) in
        (subst (In x) (sym e) (in_left x done (r.head.images.membrane m ∷ made_mems r qs (m + 1) xs) in_done), omega arith)
came_from r qs atoms left home all d done m (Rest of false inside ∷ xs) lo wh od on e w x b i =
    elim (in_either b (if_inside r x inside (left (r.head.images.membrane of))) (added_mems r qs left m xs x) i) [
      | inl j ↦ (let u = in_if r x inside (left (r.head.images.membrane of)) b j in
          inr (
            r.head.images.membrane of,
            inl refl,
            u.0,
            elim w.0 [
              | inl t ↦ inl (sym u.1 ∙ t)
              | inr t ↦ inr (subst (In x) (sym e) (in_left x done (made_mems r qs m xs) (subst (λ z. In z done) u.1 t)))
            ],
          ))
      | inr j ↦ elim (came_from r qs atoms left home all d done m xs lo wh od on e w.1 x b j) [ inl v ↦ inl v | inr v ↦ inr (v.0, inr v.1, v.2, v.3) ]
    ]
came_from r qs atoms left home all d done m (Rest of true inside ∷ xs) lo wh od on e w x b i =
    let p = qs 0 in
    let later_mems = made_mems r (later_copies qs) m xs in
    let G = given (λ k. map (copied_membrane r of p) (left k)) (copied_into r of inside p) (rest_membranes r of) x in
    let whole = wh of (inl refl) in
    elim (in_either b G (added_mems r (later_copies qs) left m xs x) i) [
      | inl j ↦ inl (rest_comes r p of inside left home all d done later_mems e lo.0 (on of (inl refl)) whole.outside whole.into_mems (od of (inl refl)) w.0 x b j)
      | inr j ↦ elim (came_from r (later_copies qs) atoms left home all d (done ++ p.membranes) m xs lo.1 (λ o l. wh o (inr l)) (λ o l. od o (inr l)) (λ o l. on o (inr l)) (e ∙ sym (append_assoc done p.membranes later_mems)) (nests_more r home done (done ++ p.membranes) m xs (λ y l. in_left y done p.membranes l) w.1) x b j) [ inl v ↦ inl v | inr v ↦ inr v ]
    ]
came_from r qs atoms left home all d done m (Rule rule inside ∷ xs) lo wh od on e w x b i = came_from r qs atoms left home all d done m xs lo wh od on e w.1 x b i
came_from r qs atoms left home all d done m (Rules of inside ∷ xs) lo wh od on e w x b i = came_from r qs atoms left home all d done m xs lo wh od on e w.1 x b i

module _ (h : Heap) (valid : Valid h) (head : List HeadItem) (body : List BodyItem) (n m : ℕ) (r : Registers) (qs : RestCopies) (rule : AtomRule head body n)
    (em : Lies h head m r.head.images) (stand : IsMemInPlace h m) (c : Port → ℕ) (names : Names h c)
    (goes : Goes r (removed_mems r head) (Exists h r qs head body) body)
    (contexts : (k : ℕ) (b : HeadMembrane) → HasMembrane head k b → b.has_context ≡ true → b.has_closed_context ≡ false → In (r.head.images.membrane k) (moved_mems r body))
    (ps : List ℕ) (parts : PartAtoms h head r.head.images ps) (hs : Held h valid head body m r ps)
    (s : Heap) (pr : AllPrepared c h s r qs (length (atoms_of head)) (1 + length (membranes_of head)) body)
    (nests : Nests r m [] (1 + length (membranes_of head)) body) (listed_s : Listed s) (head_nests : HeadNests head) where
  abbrev pub K : ℕ
  K = length (membranes_of head)

  abbrev pub nm : List ℕ
  nm = made_mems r qs (1 + K) body

  abbrev pub f : Forest
  f = valid.tree.0

  abbrev pub idx : ℕ → ℕ
  idx = preorder h valid

  pub child_later : (p x : ℕ) → In x (mems_in h p) → idx p < idx x
  child_later = later h valid

  pub removed_later : (x : ℕ) → In x (removed_mems r head) → idx m < idx x
  removed_later = hs.removed_later

  -- ranks

  pub old : (x : ℕ) → In x nm → IsMem h x → ⊥
  old x i is = let z : IsSome {T = HeapMem} None = subst (λ (o : Option HeapMem). IsSome o) (pr.mems.fresh x i) is in absurd (cc)

  abbrev pub rank_by : (x : ℕ) → In x nm ⊎ (In x nm → ⊥) → (idx m < idx x) ⊎ (idx x ≤ idx m) → ℕ
  rank_by x (inl i) t = idx m + 1 + index_of x nm
  rank_by x (inr o) (inl l) = idx x + length nm
  rank_by x (inr o) (inr g) = idx x

  abbrev pub rank : ℕ → ℕ
  rank x = rank_by x (decide_in x nm) (cases_lt (idx m) (idx x))

  pub made_rank : (x : ℕ) → In x nm → rank x ≡ idx m + 1 + index_of x nm
  made_rank x i = by (decide_in x nm)
    where
      by : (t : In x nm ⊎ (In x nm → ⊥)) → rank_by x t (cases_lt (idx m) (idx x)) ≡ idx m + 1 + index_of x nm
      by (inl j) = refl
      by (inr o) = absurd (o i)

  pub high_rank : (x : ℕ) → (In x nm → ⊥) → idx m < idx x → rank x ≡ idx x + length nm
  high_rank x o h = by (decide_in x nm) (cases_lt (idx m) (idx x))
    where
      off : (a b : ℕ) → a < b → b ≤ a → ⊥
      off a b l g = omega arith

      by : (t : In x nm ⊎ (In x nm → ⊥)) (u : (idx m < idx x) ⊎ (idx x ≤ idx m)) → rank_by x t u ≡ idx x + length nm
      by (inl j) u = absurd (o j)
      by (inr q) (inl l) = refl
      by (inr q) (inr g) = absurd (off (idx m) (idx x) h g)

  low_rank : (x : ℕ) → (In x nm → ⊥) → idx x ≤ idx m → rank x ≡ idx x
  low_rank x o h = by (decide_in x nm) (cases_lt (idx m) (idx x))
    where
      off : (a b : ℕ) → a < b → b ≤ a → ⊥
      off a b l g = omega arith

      by : (t : In x nm ⊎ (In x nm → ⊥)) (u : (idx m < idx x) ⊎ (idx x ≤ idx m)) → rank_by x t u ≡ idx x
      by (inl j) u = absurd (o j)
      by (inr q) (inl l) = absurd (off (idx m) (idx x) l h)
      by (inr q) (inr g) = refl

  pub old_up : (p x : ℕ) → (In p nm → ⊥) → (In x nm → ⊥) → idx p < idx x → rank p < rank x
  old_up p x op ox h = elim (cases_lt (idx m) (idx p)) [
    | inl lp ↦ (let a = high_rank p op lp in let b = high_rank x ox (omega arith) in omega arith)
    | inr gp ↦ (let a = low_rank p op gp in elim (cases_lt (idx m) (idx x)) [
      | inl lx ↦ (let b = high_rank x ox lx in omega arith)
      | inr gx ↦ (let b = low_rank x ox gx in omega arith)
    ])
  ]

  home_is_mem : IsMem h m
  home_is_mem = by (h.mems m) stand
    where
      by : (o : Option HeapMem) → heap.IsTopOrWithin (option_map (λ x. x.place) o) → IsSome o
      by None i = absurd i
      by (Some x) i = refl

  pub home_rank : rank m ≡ idx m
  home_rank = low_rank m (λ i. old m i home_is_mem) (omega arith)

  pub into_rank : (x : ℕ) → (x ≡ m) ⊎ In x nm → rank x ≤ idx m + length nm
  into_rank x (inl e) = let a : rank x ≡ idx m = ap rank e ∙ home_rank in omega arith
  into_rank x (inr i) = let a = made_rank x i in let b = index_in x nm i in omega arith

  most_rank : (x : ℕ) → rank x ≤ length (flat f) + 1 + length nm
  most_rank x = by (decide_in x nm) (cases_lt (idx m) (idx x)) (index_most x nm) (index_most x (flat f)) (index_most m (flat f))
    where
      by : (t : In x nm ⊎ (In x nm → ⊥)) (u : (idx m < idx x) ⊎ (idx x ≤ idx m)) → index_of x nm ≤ length nm → idx x ≤ length (flat f) → idx m ≤ length (flat f) → rank_by x t u ≤ length (flat f) + 1 + length nm
      by (inl j) u a b e = omega arith
      by (inr q) (inl l) a b e = omega arith
      by (inr q) (inr g) a b e = omega arith

  module _ (t3 : Heap) (run : DoesAll r (making (length (atoms_of head)) (1 + length (membranes_of head)) 0 body)
      (nesting.t2 h valid head body n m r qs rule em stand c names goes contexts ps parts hs s pr nests listed_s) t3) (t4 : Heap) (drop_run : DoesAll r (drops 1 (membranes_of head)) t3 t4) where
    abbrev v : Heap
    v = nesting.v h valid head body n m r qs rule em stand c names goes contexts ps parts hs s pr nests listed_s t3 run t4 drop_run

    abbrev ks : List ℕ
    ks = membrane_images r head

    pub left_old : (p x : ℕ) → In x (without_all ks (mems_in h p)) → In x (mems_in h p)
    left_old p x i = (in_withouts_of ks (mems_in h p) x (valid.sound.listed.mems_once p) i).0

    pub child_old : (p x : ℕ) → In x (mems_in h p) → In x nm → ⊥
    child_old p x i j = old x j (by (h.mems x) ((valid.sound.listed.mems p x).0 i))
      where
        by : (o : Option HeapMem) → option_map (λ y. y.place) o ≡ Some (within p) → IsSome o
        by None e = absurd (cc)
        by (Some y) e = refl

    -- a membrane has a greater rank than the one that it stands in
    up : (p x : ℕ) → In x (mems_in v p) → rank p < rank x
    up p x i = elim (decide_in p (removed_mems r head)) [
      | inl k ↦ absurd (subst (In x) (nesting.removed_empty h valid head body n m r qs rule em stand c names goes contexts ps parts hs s pr nests listed_s t3 run t4 drop_run p k).1 i)
      | inr o ↦ elim (in_either x (without_all ks (mems_in h p)) (added_mems r qs (λ q. without_all ks (mems_in h q)) (1 + K) body p)
          (subst (In x) (nesting.mems_v h valid head body n m r qs rule em stand c names goes contexts ps parts hs s pr nests listed_s t3 run t4 drop_run p o) i)) [
            | inl j ↦ (let child = left_old p x j in old_up p x (λ q. old p q (mem_of_list h p x child)) (child_old p x child) (child_later p x child))
            | inr j ↦ elim (came_from r qs (λ q. without_all (nesting.ns h valid head body n m r qs rule em stand c names goes contexts ps parts hs s pr nests listed_s) (atoms_in h q)) (λ q. without_all ks (mems_in h q)) m nm pr.mems.once [] (1 + K) body pr.free.long hs.whole
                (λ of o k j l q. hs.order of o k j l (left_old k j q)) (λ of o. hs.lms_once of o) refl nests p x j) [
                  | inl w ↦ (let a = made_rank x w.0 in elim w.1 [
                    | inl e ↦ (let b : rank p ≡ idx m = ap rank e ∙ home_rank in omega arith)
                    | inr u ↦ (let b = made_rank p u.0 in let l = u.1 in omega arith)
                  ])
                  | inr w ↦ (let child = left_old w.0 x w.2 in
                      let below = removed_later w.0 (moved_within r (removed_mems r head) (Exists h r qs head body) body goes w.0 w.1) in
                      let later = child_later w.0 x child in
                      let a = high_rank x (child_old w.0 x child) (omega arith) in
                      let b = into_rank p w.3 in
                      omega arith)
                ]
          ]
    ]

    module _ (sound : Sound v) where
      root_there : IsMem v v.root
      root_there =
          let e : v.root ≡ h.root = (nesting.same h valid head body n m r qs rule em stand c names goes contexts ps parts hs s pr nests listed_s t3 run t4 drop_run).root
          ∙ (nesting.dsh h valid head body n m r qs rule em stand c names goes contexts ps parts hs s pr nests listed_s t3 run t4 drop_run).same.root
          ∙ (nesting.gr h valid head body n m r qs rule em stand c names goes contexts ps parts hs s pr nests listed_s t3 run).same.root
          ∙ (nesting.sh h valid head body n m r qs rule em stand c names goes contexts ps parts hs s pr nests listed_s).same.root ∙ pr.mems.root in
          subst (IsMem v) (sym e) (subst (λ (g : ℕ → Option HeapMem). IsSome (g h.root)) (sym (nesting.same h valid head body n m r qs rule em stand c names goes contexts ps parts hs s pr nests listed_s t3 run t4 drop_run).mems)
          (some_there (t3.mems h.root) (t4.mems h.root) ((nesting.dsh h valid head body n m r qs rule em stand c names goes contexts ps parts hs s pr nests listed_s t3 run t4 drop_run).there h.root)
          (some_there ((nesting.t2 h valid head body n m r qs rule em stand c names goes contexts ps parts hs s pr nests listed_s).mems h.root) (t3.mems h.root) ((nesting.gr h valid head body n m r qs rule em stand c names goes contexts ps parts hs s pr nests listed_s t3 run).there h.root)
          (some_there (s.mems h.root) ((nesting.t2 h valid head body n m r qs rule em stand c names goes contexts ps parts hs s pr nests listed_s).mems h.root) ((nesting.sh h valid head body n m r qs rule em stand c names goes contexts ps parts hs s pr nests listed_s).there h.root)
          (pr.mems.there h.root root_h)))))
        where
          root_h : IsMem h h.root
          root_h = by (h.mems h.root) ((valid.sound.listed.root h.root).1 refl)
            where
              by : (o : Option HeapMem) → option_map (λ y. y.place) o ≡ Some top → IsSome o
              by None e = absurd (cc)
              by (Some y) e = refl

      ready_here : Ready v
      ready_here = nesting.ready_v h valid head body n m r qs rule em stand c names goes contexts ps parts hs s pr nests listed_s t3 run t4 drop_run sound

      abbrev most : ℕ
      most = length (flat f) + 1 + length nm

      empty : (q : ℕ) → mem_place_of v q ≡ Some gone → mems_in v q ≡ []
      empty q e = (ready_here.empty q e).1

      -- no atom that stands is a connector
      plain : (a : ℕ) → IsInPlace v a → functor_of v a ≢ Some connector
      plain a i e = elim (nesting.stands_v h valid head body n m r qs rule em stand c names goes contexts ps parts hs s pr nests listed_s t3 run t4 drop_run sound a i) [
        | inl w ↦ (let j = nesting.s_old h valid head body n m r qs rule em stand c names goes contexts ps parts hs s pr nests listed_s t3 run t4 drop_run sound a w.0 in
            valid.no_connector a j (sym (nesting.functors_v h valid head body n m r qs rule em stand c names goes contexts ps parts hs s pr nests listed_s t3 run t4 drop_run sound a
            ∙ nesting.kept_s h valid head body n m r qs rule em stand c names goes contexts ps parts hs s pr nests listed_s t3 run t4 drop_run sound a j) ∙ e))
        | inr j ↦ new_plain h valid head body n m r qs rule em stand c names pr.free ps parts (dropped_atoms r head) hs.rests a j
            (sym (nesting.functors_v h valid head body n m r qs rule em stand c names goes contexts ps parts hs s pr nests listed_s t3 run t4 drop_run sound a ∙ ap (λ (g : ℕ → Option HeapAtom). option_map (λ x. x.functor) (g a)) pr.atoms.atoms) ∙ e)
      ]

      -- The heap is valid again.
      pub valid_after : Valid (finished v)
      valid_after = finish_valid v sound ready_here
          (tree v sound.listed rank most (λ x i. most_rank x) up root_there empty ready_here.no_mems)
          (tree_forms v sound.listed rank most (λ x i. most_rank x) up root_there empty ready_here.no_mems)
          (tree_once v sound.listed rank most (λ x i. most_rank x) up root_there empty ready_here.no_mems)
          (tree_all v sound.listed rank most (λ x i. most_rank x) up root_there empty ready_here.no_mems)
          plain
