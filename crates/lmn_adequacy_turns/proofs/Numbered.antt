-- Two maps of the items of a head whose images have the same numbers are one.
use Rattle.std.proofs.Common.{ℕ, zero, suc, ◌≡◌, ◌≢◌, ◌+◌, ◌<◌, ◌≤◌, ◌==◌, Bool, true, false, List, [], ◌∷◌, ◌++◌, length, Some, refl, sym, ap, subst, ◌∙◌, inl, inr, arith}
use Rattle.std.specs.Prelude.{slice_get}
use Rattle.std.proofs.lemmas.Bool.{cases_eq, eq-eqb}
use Rattle.lmn_base.specs.declared.guard.Cond.{Cond}
use Rattle.lmn_base.specs.declared.functor.Functor.{Functor}
use Rattle.lmn_store_heap.specs.Heap.{Heap, atoms_in, mems_in}
use Rattle.lmn_store_heap.specs.Lists.{without, without_all}
use Rattle.lmn_store_heap.proofs.ListLemmas.{in_without}
use Rattle.lmn_solid_heads.specs.declared.items.HeadItem.{HeadItem}
use Rattle.lmn_solid_heads.specs.declared.items.HeadItem.TheVariants.{Atom, Typed, Membrane}
use Rattle.lmn_solid_heads.specs.Heads.{HeadAtom, HeadMembrane, atoms_of, membranes_of}
use Rattle.lmn_solid_heads.specs.Embeddings.{Images, Embeds, HasAtom, index_of}
use Rattle.lmn_compile_head.specs.Heads.{EachInside}
use Rattle.lmn_adequacy_heaps.specs.Numbers.{numbers_left}
use Rattle.lmn_base.proofs.Numbers.{not_equal as apart_test}
use Rattle.lmn_base.specs.Lists.{In}
use Rattle.lmn_base.proofs.Lists.{in_either}

-- what is in a list and has the index of another number is that number
index_same : (a b : ℕ) (xs : List ℕ) → In a xs → index_of a xs ≡ index_of b xs → a ≡ b
index_same a b [] i e = absurd i
index_same a b (x ∷ xs) i e = elim (cases_eq x a) [
  | inl p ↦ elim (cases_eq x b) [
    | inl q ↦ sym p ∙ q
    | inr q ↦ (let s : (x == a) ≡ true = eq-eqb x a p in let t : (x == b) ≡ false = apart_test x b q in
        let z : 0 ≡ suc (index_of b xs) = rw s at (rw t at e) in absurd (omega (arith, z)))
  ]
  | inr p ↦ (let s : (x == a) ≡ false = apart_test x a p in elim (cases_eq x b) [
    | inl q ↦ (let t : (x == b) ≡ true = eq-eqb x b q in let z : suc (index_of a xs) ≡ 0 = rw s at (rw t at e) in absurd (omega (arith, z)))
    | inr q ↦ (let t : (x == b) ≡ false = apart_test x b q in
        let z : suc (index_of a xs) ≡ suc (index_of b xs) = rw s at (rw t at e) in
        index_same a b xs (elim i [ inl w ↦ absurd (p w) | inr w ↦ w ]) (omega (arith, z)))
  ])
]

in_without_all : (bs xs : List ℕ) (a : ℕ) → In a xs → ((b : ℕ) → In b bs → b ≢ a) → In a (without_all bs xs)
in_without_all [] xs a i o = i
in_without_all (b ∷ bs) xs a i o = in_without_all bs (without b xs) a (in_without b a xs i (λ e. o b (inl refl) (sym e))) (λ c j. o c (inr j))

-- The images of these items are in their lists and different, and none of them was taken before.
pub record Fresh (h : Heap) (f : Images) (n k : ℕ) (as' ms : List ℕ) (xs : List HeadItem) : Type 0 where
  pub atoms : (j : ℕ) (a : HeadAtom) → HasAtom xs j a → In (f.atom (n + j)) (atoms_in h (f.membrane a.inside))
  pub atoms_new : (b j : ℕ) → In b as' → j < length (atoms_of xs) → b ≢ f.atom (n + j)
  pub atoms_differ : (i j : ℕ) → i < length (atoms_of xs) → j < length (atoms_of xs) → f.atom (n + i) ≡ f.atom (n + j) → i ≡ j
  pub mems : (j : ℕ) (b : HeadMembrane) → slice_get (membranes_of xs) j ≡ Some b → In (f.membrane (k + j)) (mems_in h (f.membrane b.inside))
  pub mems_new : (b j : ℕ) → In b ms → j < length (membranes_of xs) → b ≢ f.membrane (k + j)
  pub mems_differ : (i j : ℕ) → i < length (membranes_of xs) → j < length (membranes_of xs) → f.membrane (k + i) ≡ f.membrane (k + j) → i ≡ j

fresh_atom : (h : Heap) (f : Images) (n k : ℕ) (as' ms : List ℕ) {fu : Functor} {ls : List ℕ} {i : ℕ} {xs : List HeadItem} → Fresh h f n k as' ms (Atom fu ls i ∷ xs) → Fresh h f (n + 1) k (as' ++ f.atom n ∷ []) ms xs
fresh_atom h f n k as' ms {fu} {ls} {i} {xs} p = record {
  atoms = λ j a e. let z : n + suc j ≡ (n + 1) + j = omega arith in subst (λ w. In (f.atom w) (atoms_in h (f.membrane a.inside))) z (p.atoms (suc j) a e);
  atoms_new = λ b j q l. let z : n + suc j ≡ (n + 1) + j = omega arith in let y : n + 0 ≡ n = omega arith in elim (in_either b as' (f.atom n ∷ []) q) [
    | inl u ↦ subst (λ w. b ≢ f.atom w) z (p.atoms_new b (suc j) u (omega (arith, l)))
    | inr u ↦ elim u [
      | inl e ↦ (λ w. let s = p.atoms_differ 0 (suc j) (omega arith) (omega (arith, l)) (ap f.atom y ∙ e ∙ w ∙ ap f.atom (sym z)) in omega (arith, s))
      | inr v ↦ absurd v
    ]
  ];
  atoms_differ = λ u v l k' e. let zu : n + suc u ≡ (n + 1) + u = omega arith in let zv : n + suc v ≡ (n + 1) + v = omega arith in
      let s = p.atoms_differ (suc u) (suc v) (omega (arith, l)) (omega (arith, k')) (ap f.atom zu ∙ e ∙ ap f.atom (sym zv)) in omega (arith, s);
  mems = p.mems;
  mems_new = p.mems_new;
  mems_differ = p.mems_differ;
}

fresh_membrane : (h : Heap) (f : Images) (n k : ℕ) (as' ms : List ℕ) {i : ℕ} {c cl rc : Bool} {xs : List HeadItem} → Fresh h f n k as' ms (Membrane i c cl rc ∷ xs) → Fresh h f n (k + 1) as' (ms ++ f.membrane k ∷ []) xs
fresh_membrane h f n k as' ms p = record {
  atoms = p.atoms;
  atoms_new = p.atoms_new;
  atoms_differ = p.atoms_differ;
  mems = λ j b e. let z : k + suc j ≡ (k + 1) + j = omega arith in subst (λ w. In (f.membrane w) (mems_in h (f.membrane b.inside))) z (p.mems (suc j) b e);
  mems_new = λ b j q l. let z : k + suc j ≡ (k + 1) + j = omega arith in let y : k + 0 ≡ k = omega arith in elim (in_either b ms (f.membrane k ∷ []) q) [
    | inl u ↦ subst (λ w. b ≢ f.membrane w) z (p.mems_new b (suc j) u (omega (arith, l)))
    | inr u ↦ elim u [
      | inl e ↦ (λ w. let s = p.mems_differ 0 (suc j) (omega arith) (omega (arith, l)) (ap f.membrane y ∙ e ∙ w ∙ ap f.membrane (sym z)) in omega (arith, s))
      | inr v ↦ absurd v
    ]
  ];
  mems_differ = λ u v l k' e. let zu : k + suc u ≡ (k + 1) + u = omega arith in let zv : k + suc v ≡ (k + 1) + v = omega arith in
      let s = p.mems_differ (suc u) (suc v) (omega (arith, l)) (omega (arith, k')) (ap f.membrane zu ∙ e ∙ ap f.membrane (sym zv)) in omega (arith, s);
}

heads_same : (x y : ℕ) (xs ys : List ℕ) → (x ∷ xs) ≡ (y ∷ ys) → (x ≡ y) × (xs ≡ ys)
heads_same x y xs ys e = (cc, cc)

-- the images of items are the same
pub record SameImages (f g : Images) (n k : ℕ) (xs : List HeadItem) : Type 0 where
  pub atoms : (j : ℕ) → j < length (atoms_of xs) → f.atom (n + j) ≡ g.atom (n + j)
  pub mems : (j : ℕ) → j < length (membranes_of xs) → f.membrane (k + j) ≡ g.membrane (k + j)

-- the numbers of images that agree on earlier membranes are the same
pub same_images : (h : Heap) (f g : Images) (i n k : ℕ) (as' ms : List ℕ) (xs : List HeadItem) → k ≡ i + 1 → EachInside i xs → ((j : ℕ) → j ≤ i → f.membrane j ≡ g.membrane j) → Fresh h f n k as' ms xs →
    numbers_left h f n k as' ms xs ≡ numbers_left h g n k as' ms xs → SameImages f g n k xs
same_images h f g i n k as' ms [] q e m p s = record { atoms = λ j l. absurd (omega (arith, l)); mems = λ j l. absurd (omega (arith, l)) }
same_images h f g i n k as' ms (Atom fu ls inside ∷ xs) q e m p s =
    let home = m inside e.0 in
    let first = heads_same _ _ _ _ s in
    let y : n + 0 ≡ n = omega arith in
    let here : In (f.atom n) (without_all as' (atoms_in h (f.membrane inside))) = in_without_all as' (atoms_in h (f.membrane inside)) (f.atom n)
    (subst (λ w. In (f.atom w) (atoms_in h (f.membrane inside))) y (p.atoms 0 (record { functor = fu; links = ls; inside = inside }) refl)) (λ b j w. p.atoms_new b 0 j (omega arith) (w ∙ ap f.atom (sym y))) in
    let same = index_same (f.atom n) (g.atom n) (without_all as' (atoms_in h (f.membrane inside))) here (first.0 ∙ ap (λ z. index_of (g.atom n) (without_all as' (atoms_in h z))) (sym home)) in
    let rest = same_images h f g i (n + 1) k (as' ++ f.atom n ∷ []) ms xs q e.1 m (fresh_atom h f n k as' ms p)
    (first.1 ∙ ap (λ z. numbers_left h g (n + 1) k (as' ++ z ∷ []) ms xs) (sym same)) in
    record {
      atoms = λ j l. by j l same (λ u v. rest.atoms u v);
      mems = rest.mems;
    }
  where
    by : (j : ℕ) → j < suc (length (atoms_of xs)) → f.atom n ≡ g.atom n → ((u : ℕ) → u < length (atoms_of xs) → f.atom ((n + 1) + u) ≡ g.atom ((n + 1) + u)) → f.atom (n + j) ≡ g.atom (n + j)
    by zero l same rest = let y : n ≡ n + 0 = omega arith in subst (λ w. f.atom w ≡ g.atom w) y same
    by (suc j) l same rest = let z : (n + 1) + j ≡ n + suc j = omega arith in subst (λ w. f.atom w ≡ g.atom w) z (rest j (omega (arith, l)))
same_images h f g i n k as' ms (Typed x kd l inside ∷ xs) q e m p s =
    let rest = same_images h f g i n k as' ms xs q e.1 m (record { atoms = p.atoms; atoms_new = p.atoms_new; atoms_differ = p.atoms_differ; mems = p.mems; mems_new = p.mems_new; mems_differ = p.mems_differ }) s in
    record { atoms = rest.atoms; mems = rest.mems }
same_images h f g i n k as' ms (Membrane inside c cl rc ∷ xs) q e m p s =
    let home = m inside e.0 in
    let first = heads_same _ _ _ _ s in
    let y : k + 0 ≡ k = omega arith in
    let here : In (f.membrane k) (without_all ms (mems_in h (f.membrane inside))) = in_without_all ms (mems_in h (f.membrane inside)) (f.membrane k)
    (subst (λ w. In (f.membrane w) (mems_in h (f.membrane inside))) y (p.mems 0 (record { inside = inside; has_context = c; has_closed_context = cl; has_rule_context = rc }) refl)) (λ b j w. p.mems_new b 0 j (omega arith) (w ∙ ap f.membrane (sym y))) in
    let same = index_same (f.membrane k) (g.membrane k) (without_all ms (mems_in h (f.membrane inside))) here (first.0 ∙ ap (λ z. index_of (g.membrane k) (without_all ms (mems_in h z))) (sym home)) in
    let more : (j : ℕ) → j ≤ i + 1 → f.membrane j ≡ g.membrane j = λ j l. elim (cases_eq j k) [ inl w ↦ subst (λ z. f.membrane z ≡ g.membrane z) (sym w) same | inr w ↦ m j (omega (arith, l, w, q)) ] in
    let rest = same_images h f g (i + 1) n (k + 1) as' (ms ++ f.membrane k ∷ []) xs (omega (arith, q)) e.1 more (fresh_membrane h f n k as' ms p)
    (first.1 ∙ ap (λ z. numbers_left h g n (k + 1) as' (ms ++ z ∷ []) xs) (sym same)) in
    record {
      atoms = rest.atoms;
      mems = λ j l. by j l same (λ u v. rest.mems u v);
    }
  where
    by : (j : ℕ) → j < suc (length (membranes_of xs)) → f.membrane k ≡ g.membrane k → ((u : ℕ) → u < length (membranes_of xs) → f.membrane ((k + 1) + u) ≡ g.membrane ((k + 1) + u)) → f.membrane (k + j) ≡ g.membrane (k + j)
    by zero l same rest = let y : k ≡ k + 0 = omega arith in subst (λ w. f.membrane w ≡ g.membrane w) y same
    by (suc j) l same rest = let z : (k + 1) + j ≡ k + suc j = omega arith in subst (λ w. f.membrane w ≡ g.membrane w) z (rest j (omega (arith, l)))

-- an embedding's images are so
pub embedding_fresh : (h : Heap) (items : List HeadItem) (guard : List Cond) (m : ℕ) (f : Images) → Embeds h items guard m f → Fresh h f 0 1 [] [] items
embedding_fresh h items guard m f e = record {
  atoms = λ j a q. let z : j ≡ 0 + j = omega arith in subst (λ w. In (f.atom w) (atoms_in h (f.membrane a.inside))) z (e.lies.atoms_placed j a q);
  atoms_new = λ b j i l. absurd i;
  atoms_differ = λ i j l k q. let zi : i ≡ 0 + i = omega arith in let zj : j ≡ 0 + j = omega arith in e.lies.atoms_differ i j l k (ap f.atom zi ∙ q ∙ ap f.atom (sym zj));
  mems = λ j b q. let z : suc j ≡ 1 + j = omega arith in subst (λ w. In (f.membrane w) (mems_in h (f.membrane b.inside))) z (e.lies.membranes_placed (suc j) b (j, refl, q));
  mems_new = λ b j i l. absurd i;
  mems_differ = λ i j l k q. let zi : suc i ≡ 1 + i = omega arith in let zj : suc j ≡ 1 + j = omega arith in e.lies.membranes_differ i j l k (ap f.membrane zi ∙ q ∙ ap f.membrane (sym zj));
}
