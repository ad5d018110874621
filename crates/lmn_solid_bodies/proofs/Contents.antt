-- What a rest leaves to a membrane is all that stands in it, when what is taken has been taken out.
use Rattle.std.proofs.Common.{ℕ, suc, ◌+◌, ◌≤◌, ◌≡◌, ◌≢◌, Bool, true, false, cond, List, [], ◌∷◌, ◌++◌, Some, refl, sym, ap, subst, ◌∙◌, inl, inr, arith}
use Rattle.std.proofs.lemmas.Bool.{cases_eq, eq-eqb}
use Rattle.std.specs.Prelude.{slice_get, ◌↔◌}
use Rattle.lmn_store_heap.specs.Heap.{Heap, Distinct, gone, mem_place_of, atoms_in, mems_in, without}
use Rattle.lmn_store_heap.specs.Lists.{without_all}
use Rattle.lmn_store_heap.specs.Sound.{Forms}
use Rattle.lmn_store_heap.proofs.ListLemmas.{each_in, in_left, in_right, apart, distinct_left, distinct_right, withouts_nothing as without_all_nothing}
use Rattle.lmn_store_heap.proofs.Common.{decide_in}
use Rattle.lmn_store_heap.proofs.Groves.{forms_frame, without_absent as absent}
use Rattle.lmn_ground_parts.specs.Rests.{IsRest, IsContent, atoms_of_all, keep, rest_taken}
use Rattle.lmn_solid_heads.specs.Heads.{HeadMembrane}
use Rattle.lmn_instr_code.specs.declared.instr.Instr.TheVariants.{DropCells}
use Rattle.lmn_solid_bodies.specs.Code.{drops}
use Rattle.lmn_solid_bodies.specs.Conditions.{CanRun}
use Rattle.lmn_solid_bodies.specs.RestCopies.{rest_membranes}
use Rattle.lmn_solid_bodies.specs.Running.{Registers}
use Rattle.lmn_solid_bodies.specs.Within.{left_of_closed}
use Rattle.lmn_solid_bodies.proofs.Drops.{in_less, shrunk_rest, still_one, still_one_mem}
use Rattle.lmn_solid_bodies.proofs.Removing.{Shrunk, InOneList, MemInOneList}
use Rattle.lmn_base.specs.Lists.{In}
use Rattle.lmn_base.proofs.Numbers.{not_equal}
use Rattle.lmn_ground_parts.proofs.Common.{keep_all}
use Rattle.lmn_solid_heads.proofs.Common.{without_none}

-- of a list without repeats what is taken out is left out,
pub without_all_here : (ns : List ℕ) (x : ℕ) (xs : List ℕ) → (In x xs → ⊥) → In x ns → without_all ns (x ∷ xs) ≡ without_all ns xs
without_all_here [] x xs o i = absurd i
without_all_here (n ∷ ns) x xs o i = elim (cases_eq x n) [
  | inl e ↦ ap (without_all ns) (here e)
  | inr d ↦ ap (without_all ns) (there d) ∙ without_all_here ns x (without n xs) (λ j. o (less xs j)) (elim i [ inl e ↦ absurd (d (sym e)) | inr j ↦ j ])
]
  where
    here : x ≡ n → without n (x ∷ xs) ≡ without n xs
    here e = rw (eq-eqb x n e) (sym (absent n xs (λ j. o (subst (λ z. In z xs) (sym e) j))))

    there : x ≢ n → without n (x ∷ xs) ≡ x ∷ without n xs
    there d = rw (not_equal x n d) refl

    less : (xs : List ℕ) → In x (without n xs) → In x xs
    less xs j = in_less (n ∷ []) xs x j

-- and what is not taken out stays
pub without_all_there : (ns : List ℕ) (x : ℕ) (xs : List ℕ) → (In x ns → ⊥) → without_all ns (x ∷ xs) ≡ x ∷ without_all ns xs
without_all_there [] x xs o = refl
without_all_there (n ∷ ns) x xs o = ap (without_all ns) (there (λ e. o (inl (sym e)))) ∙ without_all_there ns x (without n xs) (λ i. o (inr i))
  where
    there : x ≢ n → without n (x ∷ xs) ≡ x ∷ without n xs
    there d = rw (not_equal x n d) refl

-- what is kept is what isn't taken out
pub keep_without : (test : ℕ → Bool) (ns xs : List ℕ) → Distinct xs → ((x : ℕ) → In x xs → (test x ≡ true) ↔ (In x ns → ⊥)) → without_all ns xs ≡ keep test xs
keep_without test ns [] d w = without_all_nothing ns
keep_without test ns (x ∷ xs) d w = by (test x) refl (keep_without test ns xs d.1 (λ y i. w y (inr i)))
  where
    by : (t : Bool) → test x ≡ t → without_all ns xs ≡ keep test xs → without_all ns (x ∷ xs) ≡ cond t (x ∷ keep test xs) (keep test xs)
    by true e on = without_all_there ns x xs ((w x (inl refl)).0 e) ∙ ap (λ zs. x ∷ zs) on
    by false e on = without_all_here ns x xs (λ i. each_in (λ z. x ≢ z) xs x d.0 i refl) (elim (decide_in x ns) [ inl i ↦ i | inr o ↦ absurd (let g : false ≡ true = sym e ∙ (w x (inl refl)).1 o in cc) ]) ∙ on

all_same : (s t : Heap) (ks : List ℕ) → ((q : ℕ) → In q ks → atoms_in t q ≡ atoms_in s q) → atoms_of_all s ks ≡ atoms_of_all t ks
all_same s t [] e = refl
all_same s t (k ∷ ks) e = let here = e k (inl refl) in let rest = all_same s t ks (λ q i. e q (inr i)) in λ v. sym here v ++ rest v

-- A rest is a content where its membrane holds only what is kept.
pub content_rest : (s t : Heap) (m : ℕ) (left left_m : ℕ → Bool) (atoms membranes : List ℕ) → IsRest s m left left_m atoms membranes → atoms_in t m ≡ keep left (atoms_in s m) → mems_in t m ≡ keep left_m (mems_in s m)
    → ((q : ℕ) → In q membranes → (atoms_in t q ≡ atoms_in s q) × (mems_in t q ≡ mems_in s q)) → IsContent t m atoms membranes
content_rest s t m left left_m atoms membranes c a b same = record {
  forest = c.forest;
  forms = subst (Forms t c.forest) (sym (keep_all (mems_in t m) ∙ b)) (forms_frame s t c.forest (keep left_m (mems_in s m)) (λ q i. (same q (subst (In q) (sym c.preorder) i)).1) c.forms);
  preorder = c.preorder;
  once = c.once;
  outside = c.outside;
  in_order = c.in_order ∙ (λ v. sym (keep_all (atoms_in t m) ∙ a) v ++ all_same s t membranes (λ q i. (same q i).0) v);
}

-- A content stands as it did where its lists are as they were.
pub content_on : (s t : Heap) (m : ℕ) (atoms membranes : List ℕ) → ((q : ℕ) → In q (m ∷ membranes) → (atoms_in t q ≡ atoms_in s q) × (mems_in t q ≡ mems_in s q)) → IsContent s m atoms membranes → IsContent t m atoms membranes
content_on s t m atoms membranes same c = content_rest s t m (λ _. true) (λ _. true) atoms membranes c ((same m (inl refl)).0 ∙ sym (keep_all (atoms_in s m))) ((same m (inl refl)).1 ∙ sym (keep_all (mems_in s m))) (λ q i. same q (inr i))

-- Rests that stand apart can be dropped one after the other.
pub drops_can : (r : Registers) (C : ℕ → Type 0) (k : ℕ) (bs : List HeadMembrane) (s : Heap) → ((j : ℕ) (b : HeadMembrane) → slice_get bs j ≡ Some b → b.has_closed_context ≡ true → C (k + j))
    → Distinct (left_of_closed r.left_atoms k bs) → Distinct (left_of_closed r.left_membranes k bs) → InOneList s (left_of_closed r.left_atoms k bs) → MemInOneList s (left_of_closed r.left_membranes k bs)
    → ((i : ℕ) → k ≤ i → C i → (mem_place_of s (r.head.images.membrane i) ≡ Some gone) × IsContent s (r.head.images.membrane i) (r.left_atoms i) (r.left_membranes i))
    → ((i j : ℕ) → C i → C j → i ≢ j → (a x : ℕ) → In a (r.left_atoms i) → In x (rest_membranes r j) → In a (atoms_in s x) → ⊥)
    → ((i j : ℕ) → C i → C j → i ≢ j → (y x : ℕ) → In y (r.left_membranes i) → In x (rest_membranes r j) → In y (mems_in s x) → ⊥)
    → ((i j : ℕ) → C i → C j → In (r.head.images.membrane j) (r.left_membranes i) → ⊥) → CanRun r (drops k bs) s
drops_can r C k [] s at da dm w v content apart_atoms apart_mems out = tt
drops_can r C k (b ∷ bs) s at da dm w v content apart_atoms apart_mems out =
    by b.has_closed_context refl da dm w v (λ s' da' dm' w' v' content' aa am. drops_can r C (k + 1) bs s' (λ j d e c. subst C (next k j) (at (suc j) d e c)) da' dm' w' v' content' aa am out)
  where
    next : (k j : ℕ) → k + suc j ≡ k + 1 + j
    next k j = omega arith

    here : (k : ℕ) → k + 0 ≡ k
    here k = omega arith

    less : (k i : ℕ) → k + 1 ≤ i → k ≤ i
    less k i l = omega arith

    other : (k i : ℕ) → k + 1 ≤ i → k ≡ i → ⊥
    other k i l e = omega arith

    a1 : List ℕ
    a1 = r.left_atoms k

    m1 : List ℕ
    m1 = r.left_membranes k

    a2 : List ℕ
    a2 = left_of_closed r.left_atoms (k + 1) bs

    m2 : List ℕ
    m2 = left_of_closed r.left_membranes (k + 1) bs

    by : (c : Bool) → b.has_closed_context ≡ c → Distinct (cond c (r.left_atoms k) [] ++ left_of_closed r.left_atoms (k + 1) bs) → Distinct (cond c (r.left_membranes k) [] ++ left_of_closed r.left_membranes (k + 1) bs)
        → InOneList s (cond c (r.left_atoms k) [] ++ left_of_closed r.left_atoms (k + 1) bs) → MemInOneList s (cond c (r.left_membranes k) [] ++ left_of_closed r.left_membranes (k + 1) bs)
        → ((s' : Heap) → Distinct (left_of_closed r.left_atoms (k + 1) bs) → Distinct (left_of_closed r.left_membranes (k + 1) bs) → InOneList s' (left_of_closed r.left_atoms (k + 1) bs) → MemInOneList s' (left_of_closed r.left_membranes (k + 1) bs)
        → ((i : ℕ) → k + 1 ≤ i → C i → (mem_place_of s' (r.head.images.membrane i) ≡ Some gone) × IsContent s' (r.head.images.membrane i) (r.left_atoms i) (r.left_membranes i))
        → ((i j : ℕ) → C i → C j → i ≢ j → (a x : ℕ) → In a (r.left_atoms i) → In x (rest_membranes r j) → In a (atoms_in s' x) → ⊥)
        → ((i j : ℕ) → C i → C j → i ≢ j → (y x : ℕ) → In y (r.left_membranes i) → In x (rest_membranes r j) → In y (mems_in s' x) → ⊥) → CanRun r (drops (k + 1) bs) s')
        → CanRun r (cond c (DropCells k ∷ []) [] ++ drops (k + 1) bs) s
    by false e da dm w v on = on s da dm w v (λ i l c. content i (less k i l) c) apart_atoms apart_mems
    by true e da dm w v on =
        let ck : C k = subst C (here k) (at 0 b refl e) in
        let u = rest_taken s a1 m1 in
        let g : Shrunk s u a1 m1 = shrunk_rest a1 m1 s (distinct_left a1 a2 da) (distinct_left m1 m2 dm) (λ a i. w a (in_left a a1 a2 i)) (λ x i. v x (in_left x m1 m2 i)) in (
          content k (omega arith) ck,
          λ t run. subst (CanRun r (drops (k + 1) bs)) (sym run.1) (on u (distinct_right a1 a2 da) (distinct_right m1 m2 dm)
              (still_one s u a1 m1 a2 g (λ a i j. apart a1 a2 a a da j i refl) (λ a i. w a (in_right a a1 a2 i)))
              (still_one_mem s u a1 m1 m2 g (λ x i j. apart m1 m2 x x dm j i refl) (λ x i. v x (in_right x m1 m2 i)))
              (λ i l c. let was = content i (less k i l) c in (
                g.places (r.head.images.membrane i) (λ j. out k i ck c j) ∙ was.0,
                content_on s u (r.head.images.membrane i) (r.left_atoms i) (r.left_membranes i)
                    (λ q j. (
                      g.atoms q ∙ without_none a1 (atoms_in s q) (λ a x y. apart_atoms k i ck c (other k i l) a q x j y),
                      g.mems q ∙ without_none m1 (mems_in s q) (λ a x y. apart_mems k i ck c (other k i l) a q x j y),
                    ))
                    was.1,
              ))
              (λ i j p q d a x f l z. apart_atoms i j p q d a x f l (in_less a1 (atoms_in s x) a (subst (In a) (g.atoms x) z)))
              (λ i j p q d a x f l z. apart_mems i j p q d a x f l (in_less m1 (mems_in s x) a (subst (In a) (g.mems x) z)))),
        )
