-- Rests that stand apart can be dropped in any order, and the heap after that is one.
use Rattle.std.proofs.Common.{◌≡◌, ◌≢◌, ◌⊎◌, ◌∙◌, inl, inr, ℕ, Bool, true, false, not, List, [], ◌∷◌, ◌++◌, map, Option, Some, None, refl, sym, ap, subst, if◌then◌else◌}
use Rattle.std.specs.Option.{option_map}
use Rattle.lmn_base.specs.Lists.{In}
use Rattle.lmn_base.proofs.Lists.{in_either}
use Rattle.lmn_store_heap.specs.Heap.{Heap, HeapMem, Distinct, atoms_in, gone, mem_place_of, mems_in}
use Rattle.lmn_store_heap.specs.Sound.{Forest, Listed, flat}
use Rattle.lmn_store_heap.proofs.Heights.{parent_is}
use Rattle.lmn_store_heap.proofs.ListLemmas.{each_in}
use Rattle.lmn_store_heap.proofs.Trees.{At, around, find_at, in_here, split_at}
use Rattle.lmn_compile_head.proofs.Nesting.{home_is, one_home, one_parent}
use Rattle.lmn_ground_parts.specs.Rests.{IsContent, all_mems_taken, atoms_of_all, keep, rest_taken}
use Rattle.lmn_ground.proofs.DropLaws.{all_dropped, atoms_left, but, dropped, dropped_none, is_out, mem_dropped, mems_dropped, mems_left, onto, onto_either, onto_first, onto_second, same_dropped}
use Rattle.lmn_ground.proofs.RestLaws.{all_in, keep_in}
use Rattle.lmn_solid_bodies.specs.RestCopies.{rest_membranes}
use Rattle.lmn_solid_bodies.specs.Running.{Registers, DoesAll}
use Rattle.lmn_solid_bodies.proofs.Contents.{content_on}
use Rattle.lmn_machine_commit.specs.Committing.{Runs}
use Rattle.lmn_instr_code.specs.declared.instr.Instr.TheVariants.{DropCells}

but_same : (D xs : List ℕ) → ((a : ℕ) → In a xs → In a D → ⊥) → but D xs ≡ xs
but_same D [] f = refl
but_same D (x ∷ xs) f = ap (λ (t : Bool). if not t then x ∷ but D xs else but D xs) (is_out x D (f x (inl refl))) ∙ ap (λ l. x ∷ l) (but_same D xs (λ a i. f a (inr i)))

place_left : (w : Heap) (D N : List ℕ) (n : ℕ) → (In n N → ⊥) → mem_place_of (dropped w D N) n ≡ mem_place_of w n
place_left w D N n d = ap (λ t. option_map (λ (x : HeapMem). x.place) (option_map (mem_dropped D N t) (w.mems n))) (is_out n N d) ∙ by (w.mems n)
  where
    by : (o : Option HeapMem) → option_map (λ (x : HeapMem). x.place) (option_map (mem_dropped D N false) o) ≡ option_map (λ (x : HeapMem). x.place) o
    by None = refl
    by (Some x) = refl

module _ (r : Registers) (w : Heap) (listed : Listed w) (C : ℕ → Type 0) (apart : (i j : ℕ) → C i → C j → i ≢ j → (q : ℕ) → In q (rest_membranes r i) → In q (rest_membranes r j) → ⊥)
    (once : (i : ℕ) → C i → Distinct (r.left_atoms i)) where
  abbrev at : ℕ → ℕ
  at k = r.head.images.membrane k

  -- all of a rest stands in its membrane
  abbrev pub Full : ℕ → Type 0
  Full k = IsContent w (at k) (r.left_atoms k) (r.left_membranes k)

  -- and this is taken
  abbrev pub Whole : ℕ → Type 0
  Whole k = (mem_place_of w (at k) ≡ Some gone) × Full k

  home_in : (k : ℕ) → Full k → (a : ℕ) → In a (r.left_atoms k) → (q : ℕ) × In q (rest_membranes r k) × In a (atoms_in w q)
  home_in k c a i = elim (in_either a (keep (λ _. true) (atoms_in w (at k))) (atoms_of_all w (r.left_membranes k)) (subst (In a) c.in_order i)) [
    | inl j ↦ (at k, inl refl, keep_in (λ _. true) (atoms_in w (at k)) a j)
    | inr j ↦ (let u = all_in w (r.left_membranes k) a j in (u.0, inr u.1, u.2))
  ]

  -- a membrane of a rest stands in one of it
  round_in : (k : ℕ) → Full k → (n : ℕ) → In n (r.left_membranes k) → (q : ℕ) × In q (rest_membranes r k) × In n (mems_in w q)
  round_in k c n i =
      let u = find_at c.forest n (subst (In n) c.preorder i) in
      let q = around w c.forest (keep (λ _. true) (mems_in w (at k))) n u.0 u.1 u.2 c.forms u.3 in
      elim q.case [
        | inl v ↦ (at k, inl refl, keep_in (λ _. true) (mems_in w (at k)) n (subst (In n) (sym v.1.1) (in_here n v.1.0 q.ls)))
        | inr v ↦ (v.p, inr (inside v.p v.inner v.beside v.further v.at), subst (In n) (sym v.list) (in_here n v.before q.ls))
      ]
    where
      inside : (x : ℕ) (j b : Forest) (o : List ℕ) → At c.forest x j b o → In x (r.left_membranes k)
      inside x j b o a = let t = split_at c.forest x j b o a in subst (In x) (sym c.preorder) (subst (In x) (sym t.1) (in_here x t.0 (flat j ++ (flat b ++ o))))

  -- These atoms and membranes are of rests that are done, each of which stands in its membrane.
  record Taken (done : List ℕ) (X Y : List ℕ) : Type 0 where
    atoms : (a : ℕ) → In a X → (j : ℕ) × In j done × In a (r.left_atoms j)
    mems : (n : ℕ) → In n Y → (j : ℕ) × In j done × In n (r.left_membranes j)
    full : (j : ℕ) → In j done → C j × Full j

  module _ (done X Y : List ℕ) (t : Taken done X Y) (k : ℕ) (ck : C k) (new : In k done → ⊥) where
    other : (j : ℕ) → In j done → j ≢ k
    other j i e = new (subst (λ z. In z done) e i)

    atoms_keep : (q : ℕ) → In q (rest_membranes r k) → atoms_in (dropped w X Y) q ≡ atoms_in w q
    atoms_keep q h = atoms_left w listed X Y q ∙ but_same X (atoms_in w q) (λ a i x.
        let u = t.atoms a x in
        let v = t.full u.0 u.1 in
        let p = home_in u.0 v.1 a u.2 in
        apart u.0 k v.0 ck (other u.0 u.1) q (subst (λ z. In z (rest_membranes r u.0)) (one_home w listed a p.0 q p.2 i) p.1) h)

    mems_keep : (q : ℕ) → In q (rest_membranes r k) → mems_in (dropped w X Y) q ≡ mems_in w q
    mems_keep q h = mems_left w listed X Y q ∙ but_same Y (mems_in w q) (λ n i y.
        let u = t.mems n y in
        let v = t.full u.0 u.1 in
        let p = round_in u.0 v.1 n u.2 in
        apart u.0 k v.0 ck (other u.0 u.1) q (subst (λ z. In z (rest_membranes r u.0)) (one_parent w listed n p.0 q p.2 i) p.1) h)

    place_keep : mem_place_of (dropped w X Y) (at k) ≡ mem_place_of w (at k)
    place_keep = place_left w X Y (at k) (λ y. let u = t.mems (at k) y in let v = t.full u.0 u.1 in apart u.0 k v.0 ck (other u.0 u.1) (at k) (inr u.2) (inl refl))

    -- a rest that stands in its membrane in the one heap does so in the other
    back : IsContent (dropped w X Y) (at k) (r.left_atoms k) (r.left_membranes k) → Full k
    back c = content_on (dropped w X Y) w (at k) (r.left_atoms k) (r.left_membranes k) (λ q h. (sym (atoms_keep q h), sym (mems_keep q h))) c

    forth : Full k → IsContent (dropped w X Y) (at k) (r.left_atoms k) (r.left_membranes k)
    forth c = content_on w (dropped w X Y) (at k) (r.left_atoms k) (r.left_membranes k) (λ q h. (atoms_keep q h, mems_keep q h)) c

    module _ (c : Full k) where
      step : rest_taken (dropped w X Y) (r.left_atoms k) (r.left_membranes k) ≡ dropped w (onto (r.left_atoms k) X) (onto (r.left_membranes k) Y)
      step =
          ap (λ z. all_mems_taken z (r.left_membranes k)) (all_dropped w listed X Y (r.left_atoms k) (once k ck) (λ a i.
          let p = home_in k c a i in (
            (λ x. let u = t.atoms a x in let v = t.full u.0 u.1 in let q = home_in u.0 v.1 a u.2 in
                apart u.0 k v.0 ck (other u.0 u.1) q.0 q.1 (subst (λ z. In z (rest_membranes r k)) (one_home w listed a p.0 q.0 p.2 q.2) p.1)),
            (p.0, home_is w listed a p.0 p.2),
          )))
          ∙ mems_dropped w listed (onto (r.left_atoms k) X) Y (r.left_membranes k) c.once (λ n i.
          let p = round_in k c n i in (
            (λ y. let u = t.mems n y in let v = t.full u.0 u.1 in apart u.0 k v.0 ck (other u.0 u.1) n (inr u.2) (inr i)),
            (p.0, parent_is w listed n p.0 p.2),
          ))

      more : Taken (k ∷ done) (onto (r.left_atoms k) X) (onto (r.left_membranes k) Y)
      more = record {
        atoms = λ a i. elim (onto_either (r.left_atoms k) X a i) [ inl j ↦ (k, inl refl, j) | inr j ↦ (let u = t.atoms a j in (u.0, inr u.1, u.2)) ];
        mems = λ n i. elim (onto_either (r.left_membranes k) Y n i) [ inl j ↦ (k, inl refl, j) | inr j ↦ (let u = t.mems n j in (u.0, inr u.1, u.2)) ];
        full = λ j i. elim i [ inl e ↦ subst (λ z. C z × Full z) e (ck, c) | inr p ↦ t.full j p ];
      }

  abbrev atoms_onto : List ℕ → List ℕ → List ℕ
  atoms_onto [] X = X
  atoms_onto (k ∷ ks) X = atoms_onto ks (onto (r.left_atoms k) X)

  abbrev mems_onto : List ℕ → List ℕ → List ℕ
  mems_onto [] Y = Y
  mems_onto (k ∷ ks) Y = mems_onto ks (onto (r.left_membranes k) Y)

  abbrev AllNew : List ℕ → List ℕ → Type 0
  AllNew done ks = (k : ℕ) → In k ks → C k × (In k done → ⊥)

  next_new : (k : ℕ) (ks done : List ℕ) → Distinct (k ∷ ks) → AllNew done (k ∷ ks) → AllNew (k ∷ done) ks
  next_new k ks done d n j i = ((n j (inr i)).0, λ p. elim p [ inl e ↦ each_in (λ y. k ≢ y) ks j d.0 i e | inr q ↦ (n j (inr i)).1 q ])

  -- Where rests can be dropped in one order, each stands in its membrane, which is taken.
  learn : (ks done X Y : List ℕ) → Distinct ks → AllNew done ks → Taken done X Y → Runs r (map DropCells ks) (dropped w X Y) → (k : ℕ) → In k ks → Whole k
  learn [] done X Y d n t u k i = absurd i
  learn (k ∷ ks) done X Y d n t u j i =
      let ck = (n k (inl refl)).0 in
      let c = back done X Y t k ck (n k (inl refl)).1 u.0.1 in
      let rest = u.2 (rest_taken (dropped w X Y) (r.left_atoms k) (r.left_membranes k)) (u.0.1, refl) in
      let later = learn ks (k ∷ done) (onto (r.left_atoms k) X) (onto (r.left_membranes k) Y) d.1 (next_new k ks done d n) (more done X Y t k ck (n k (inl refl)).1 c)
      (subst (Runs r (map DropCells ks)) (step done X Y t k ck (n k (inl refl)).1 c) rest) in
      elim i [ inl e ↦ subst Whole e (sym (place_keep done X Y t k ck (n k (inl refl)).1) ∙ u.0.0, c) | inr p ↦ later j p ]

  -- Where rests were dropped in one order, each stood in its membrane.
  learn_done : (ks done X Y : List ℕ) → Distinct ks → AllNew done ks → Taken done X Y → (u : Heap) → DoesAll r (map DropCells ks) (dropped w X Y) u → (k : ℕ) → In k ks → Full k
  learn_done [] done X Y d n t u run k i = absurd i
  learn_done (k ∷ ks) done X Y d n t u run j i =
      let ck = (n k (inl refl)).0 in
      let c = back done X Y t k ck (n k (inl refl)).1 run.1.0 in
      let later = learn_done ks (k ∷ done) (onto (r.left_atoms k) X) (onto (r.left_membranes k) Y) d.1 (next_new k ks done d n) (more done X Y t k ck (n k (inl refl)).1 c) u
      (subst (λ z. DoesAll r (map DropCells ks) z u) (run.1.1 ∙ step done X Y t k ck (n k (inl refl)).1 c) run.2) in
      elim i [ inl e ↦ subst Full e c | inr p ↦ later j p ]

  -- Such rests can be dropped in any order.
  can : (ks done X Y : List ℕ) → Distinct ks → AllNew done ks → ((k : ℕ) → In k ks → Whole k) → Taken done X Y → Runs r (map DropCells ks) (dropped w X Y)
  can [] done X Y d n c t = tt
  can (k ∷ ks) done X Y d n c t =
      let ck = (n k (inl refl)).0 in
      let here = (c k (inl refl)).1 in (
        (place_keep done X Y t k ck (n k (inl refl)).1 ∙ (c k (inl refl)).0, forth done X Y t k ck (n k (inl refl)).1 here),
        tt,
        λ u run. subst (Runs r (map DropCells ks)) (sym (run.1 ∙ step done X Y t k ck (n k (inl refl)).1 here))
            (can ks (k ∷ done) (onto (r.left_atoms k) X) (onto (r.left_membranes k) Y) d.1 (next_new k ks done d n) (λ j i. c j (inr i)) (more done X Y t k ck (n k (inl refl)).1 here)),
      )

  -- And what it does is told by its numbers.
  does_is : (ks done X Y : List ℕ) → Distinct ks → AllNew done ks → ((k : ℕ) → In k ks → Full k) → Taken done X Y → (u : Heap) → DoesAll r (map DropCells ks) (dropped w X Y) u → u ≡ dropped w (atoms_onto ks X) (mems_onto ks Y)
  does_is [] done X Y d n c t u run = run
  does_is (k ∷ ks) done X Y d n c t u run =
      let ck = (n k (inl refl)).0 in
      let here = c k (inl refl) in
      does_is ks (k ∷ done) (onto (r.left_atoms k) X) (onto (r.left_membranes k) Y) d.1 (next_new k ks done d n) (λ j i. c j (inr i)) (more done X Y t k ck (n k (inl refl)).1 here) u
      (subst (λ z. DoesAll r (map DropCells ks) z u) (run.1.1 ∙ step done X Y t k ck (n k (inl refl)).1 here) run.2)

  is_done : (ks done X Y : List ℕ) → Distinct ks → AllNew done ks → ((k : ℕ) → In k ks → Full k) → Taken done X Y → DoesAll r (map DropCells ks) (dropped w X Y) (dropped w (atoms_onto ks X) (mems_onto ks Y))
  is_done [] done X Y d n c t = refl
  is_done (k ∷ ks) done X Y d n c t =
      let ck = (n k (inl refl)).0 in
      let here = c k (inl refl) in
      let e = step done X Y t k ck (n k (inl refl)).1 here in (
        dropped w (onto (r.left_atoms k) X) (onto (r.left_membranes k) Y),
        (forth done X Y t k ck (n k (inl refl)).1 here, sym e),
        is_done ks (k ∷ done) (onto (r.left_atoms k) X) (onto (r.left_membranes k) Y) d.1 (next_new k ks done d n) (λ j i. c j (inr i)) (more done X Y t k ck (n k (inl refl)).1 here),
      )

  -- what is taken in the end
  in_atoms : (ks X : List ℕ) (a : ℕ) → In a (atoms_onto ks X) → ((k : ℕ) × In k ks × In a (r.left_atoms k)) ⊎ In a X
  in_atoms [] X a i = inr i
  in_atoms (k ∷ ks) X a i = elim (in_atoms ks (onto (r.left_atoms k) X) a i) [
    | inl u ↦ inl (u.0, inr u.1, u.2)
    | inr j ↦ elim (onto_either (r.left_atoms k) X a j) [ inl p ↦ inl (k, inl refl, p) | inr p ↦ inr p ]
  ]

  kept_atoms : (ks X : List ℕ) (a : ℕ) → In a X → In a (atoms_onto ks X)
  kept_atoms [] X a i = i
  kept_atoms (k ∷ ks) X a i = kept_atoms ks (onto (r.left_atoms k) X) a (onto_second (r.left_atoms k) X a i)

  of_atoms : (ks X : List ℕ) (k a : ℕ) → In k ks → In a (r.left_atoms k) → In a (atoms_onto ks X)
  of_atoms [] X k a i j = absurd i
  of_atoms (y ∷ ks) X k a (inl e) j = kept_atoms ks (onto (r.left_atoms y) X) a (onto_first (r.left_atoms y) X a (subst (λ z. In a (r.left_atoms z)) (sym e) j))
  of_atoms (y ∷ ks) X k a (inr i) j = of_atoms ks (onto (r.left_atoms y) X) k a i j

  in_mems : (ks Y : List ℕ) (a : ℕ) → In a (mems_onto ks Y) → ((k : ℕ) × In k ks × In a (r.left_membranes k)) ⊎ In a Y
  in_mems [] Y a i = inr i
  in_mems (k ∷ ks) Y a i = elim (in_mems ks (onto (r.left_membranes k) Y) a i) [
    | inl u ↦ inl (u.0, inr u.1, u.2)
    | inr j ↦ elim (onto_either (r.left_membranes k) Y a j) [ inl p ↦ inl (k, inl refl, p) | inr p ↦ inr p ]
  ]

  kept_mems : (ks Y : List ℕ) (a : ℕ) → In a Y → In a (mems_onto ks Y)
  kept_mems [] Y a i = i
  kept_mems (k ∷ ks) Y a i = kept_mems ks (onto (r.left_membranes k) Y) a (onto_second (r.left_membranes k) Y a i)

  of_mems : (ks Y : List ℕ) (k a : ℕ) → In k ks → In a (r.left_membranes k) → In a (mems_onto ks Y)
  of_mems [] Y k a i j = absurd i
  of_mems (y ∷ ks) Y k a (inl e) j = kept_mems ks (onto (r.left_membranes y) Y) a (onto_first (r.left_membranes y) Y a (subst (λ z. In a (r.left_membranes z)) (sym e) j))
  of_mems (y ∷ ks) Y k a (inr i) j = of_mems ks (onto (r.left_membranes y) Y) k a i j

  -- Rests that can be dropped in one order can be dropped in another, and what is dropped in one order could be in another, with one
  -- heap in the end.
  module _ (js ks : List ℕ) (dj : Distinct js) (dk : Distinct ks) (cs : (k : ℕ) → In k ks → C k) (there : (k : ℕ) → In k js → In k ks) (back' : (k : ℕ) → In k ks → In k js) where
    nothing : Taken [] [] []
    nothing = record { atoms = λ a i. absurd i; mems = λ n i. absurd i; full = λ j i. absurd i }

    all_whole : Runs r (map DropCells ks) w → (k : ℕ) → In k ks → Whole k
    all_whole u = learn ks [] [] [] dk (λ k i. (cs k i, λ j. j)) nothing (subst (Runs r (map DropCells ks)) (sym (dropped_none w)) u)

    pub runs_any : Runs r (map DropCells ks) w → Runs r (map DropCells js) w
    runs_any u = subst (Runs r (map DropCells js)) (dropped_none w) (can js [] [] [] dj (λ k i. (cs k (there k i), λ j. j)) (λ k i. all_whole u k (there k i)) nothing)

    pub does_any : (u : Heap) → DoesAll r (map DropCells js) w u → DoesAll r (map DropCells ks) w u
    does_any u run =
        let start = subst (λ z. DoesAll r (map DropCells js) z u) (sym (dropped_none w)) run in
        let full = learn_done js [] [] [] dj (λ k i. (cs k (there k i), λ j. j)) nothing u start in
        let one = does_is js [] [] [] dj (λ k i. (cs k (there k i), λ j. j)) full nothing u start in
        let two = is_done ks [] [] [] dk (λ k i. (cs k i, λ j. j)) (λ k i. full k (back' k i)) nothing in
        let same = same_dropped w (atoms_onto ks []) (atoms_onto js []) (mems_onto ks []) (mems_onto js [])
        (λ a i. elim (in_atoms ks [] a i) [ inl p ↦ of_atoms js [] p.0 a (back' p.0 p.1) p.2 | inr p ↦ absurd p ])
        (λ a i. elim (in_atoms js [] a i) [ inl p ↦ of_atoms ks [] p.0 a (there p.0 p.1) p.2 | inr p ↦ absurd p ])
        (λ a i. elim (in_mems ks [] a i) [ inl p ↦ of_mems js [] p.0 a (back' p.0 p.1) p.2 | inr p ↦ absurd p ])
        (λ a i. elim (in_mems js [] a i) [ inl p ↦ of_mems ks [] p.0 a (there p.0 p.1) p.2 | inr p ↦ absurd p ]) in
        subst (λ z. DoesAll r (map DropCells ks) z u) (dropped_none w) (subst (DoesAll r (map DropCells ks) (dropped w [] [])) (same ∙ sym one) two)
