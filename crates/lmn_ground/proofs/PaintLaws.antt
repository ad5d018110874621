-- What marks change of a heap, and that they change no walk.
use Rattle.std.proofs.Common.{◌≡◌, ◌≢◌, ℕ, zero, suc, ◌+◌, ◌<◌, ◌==◌, Bool, true, false, cond, List, [], ◌∷◌, ◌++◌, length, Option, Some, None, IsSome, refl, sym, ap, subst, ◌∙◌, inl, inr, arith}
use Rattle.std.proofs.lemmas.Bool.{cases_eq, eqb-true}
use Rattle.std.proofs.lemmas.List.{get_or-set_same}
use Rattle.std.specs.Option.{option_map}
use Rattle.std.specs.Prelude.{slice_set, slice_index_or}
use Rattle.lmn_store_heap.specs.Heap.{Heap, HeapAtom, IsAtom, alter, with_mark, marked, partners_of, marks_of, arity_of}
use Rattle.lmn_store_heap.proofs.Listing.{alter_at, alter_away}
use Rattle.lmn_ground_parts.specs.Walks.{Net, net, ports_from, is_in}
use Rattle.lmn_ground.specs.Marks.{first_place, paint, painted, first_marks, entry_port, or_zero, back, way, ports_behind, OnWay}
use Rattle.lmn_store_heap.proofs.Common.{same_atoms as same_painted}
use Rattle.lmn_ground.proofs.PaintedAt.{paint_links, is_paint}
use Rattle.lmn_base.specs.Lists.{In}

-- marks don't change how ports are joined
pub net_painted : (s : Heap) (v : ℕ → ℕ) → net (painted s v) ≡ net s
net_painted s v = λ i. record {
  arity = λ a. (ap length (paint_links first_place (v a) (s.atoms a))) i;
  link = λ a k. (ap (λ xs. slice_index_or xs k None) (paint_links first_place (v a) (s.atoms a))) i;
}

paint_is : (v : ℕ) (o : Option HeapAtom) → IsSome (paint v o) → IsSome o
paint_is zero o i = i
paint_is (suc v) None i = absurd (cc)
paint_is (suc v) (Some x) i = refl

-- what is an atom with marks is one
pub painted_is : (s : Heap) (v : ℕ → ℕ) (a : ℕ) → IsAtom (painted s v) a → IsAtom s a
painted_is s v a i = paint_is (v a) (s.atoms a) i

-- what is an atom is one with marks
pub is_painted : (s : Heap) (v : ℕ → ℕ) (a : ℕ) → IsAtom s a → IsAtom (painted s v) a
is_painted s v a i = is_paint first_place (v a) (s.atoms a) i

set_twice : (xs : List ℕ) (v w : ℕ) → slice_set (slice_set xs 0 v) 0 w ≡ slice_set xs 0 w
set_twice [] v w = refl
set_twice (x ∷ xs) v w = refl

set_same : (xs : List ℕ) → slice_index_or xs 0 0 ≡ 0 → slice_set xs 0 0 ≡ xs
set_same [] e = refl
set_same (x ∷ xs) e = ap (λ y. y ∷ xs) (sym e)

-- one mark more
pub painted_marked : (s : Heap) (v : ℕ → ℕ) (b m : ℕ) → 0 < m → marked (painted s v) b 0 m ≡ painted s (alter v b (λ _. m))
painted_marked s v b zero l = absurd (omega arith)
painted_marked s v b (suc m) l = same_painted s _ _ (λ a. elim (cases_eq a b) [
  | inl e ↦ subst (λ (z : ℕ). alter (painted s v).atoms b (option_map (with_mark 0 (suc m))) z ≡ paint (alter v b (λ _. suc m) z) (s.atoms z)) (sym e)
      (alter_at (painted s v).atoms b (option_map (with_mark 0 (suc m))) ∙ by (v b) (s.atoms b) ∙ ap (λ (w : ℕ). paint w (s.atoms b)) (sym (alter_at v b (λ _. suc m))))
  | inr d ↦ alter_away (painted s v).atoms b (option_map (with_mark 0 (suc m))) a d ∙ ap (λ (w : ℕ). paint w (s.atoms a)) (sym (alter_away v b (λ _. suc m) a d))
])
  where
    by : (w : ℕ) (o : Option HeapAtom) → option_map (with_mark 0 (suc m)) (paint w o) ≡ option_map (with_mark 0 (suc m)) o
    by zero o = refl
    by (suc w) None = refl
    by (suc w) (Some x) = ap (λ (xs : List ℕ). Some (record x { marks = xs })) (set_twice x.marks (suc w) (suc m))

-- one mark cleared
pub painted_cleared : (s : Heap) (v : ℕ → ℕ) (b : ℕ) → first_marks s b ≡ 0 → marked (painted s v) b 0 0 ≡ painted s (alter v b (λ _. 0))
painted_cleared s v b z = same_painted s _ _ (λ a. elim (cases_eq a b) [
  | inl e ↦ subst (λ (x : ℕ). alter (painted s v).atoms b (option_map (with_mark 0 0)) x ≡ paint (alter v b (λ _. 0) x) (s.atoms x)) (sym e)
      (alter_at (painted s v).atoms b (option_map (with_mark 0 0)) ∙ by (v b) (s.atoms b) z ∙ ap (λ (w : ℕ). paint w (s.atoms b)) (sym (alter_at v b (λ _. 0))))
  | inr d ↦ alter_away (painted s v).atoms b (option_map (with_mark 0 0)) a d ∙ ap (λ (w : ℕ). paint w (s.atoms a)) (sym (alter_away v b (λ _. 0) a d))
])
  where
    by : (w : ℕ) (o : Option HeapAtom) → slice_index_or (marks_of o) 0 0 ≡ 0 → option_map (with_mark 0 0) (paint w o) ≡ o
    by zero None z = refl
    by zero (Some x) z = ap (λ (xs : List ℕ). Some (record x { marks = xs })) (set_same x.marks z)
    by (suc w) None z = refl
    by (suc w) (Some x) z = ap (λ (xs : List ℕ). Some (record x { marks = xs })) (set_twice x.marks (suc w) 0 ∙ set_same x.marks z)

-- other marks elsewhere change no way back
module _ (n : Net) (v w : ℕ → ℕ) where
  back_same : (a : ℕ) → w a ≡ v a → back n w a ≡ back n v a
  back_same a e = ap (λ (m : ℕ). or_zero (n.link a (entry_port m))) e

  pub way_same : (d a : ℕ) → ((x : ℕ) → In x (way n v d a) → w x ≡ v x) → way n w d a ≡ way n v d a
  way_same zero a h = refl
  way_same (suc d) a h = ap (λ xs. a ∷ xs) (ap (λ (p : ℕ × ℕ). way n w d p.0) (back_same a (h a (inl refl))) ∙ way_same d (back n v a).0 (λ x i. h x (inr i)))

  pub behind_same : (d a : ℕ) → ((x : ℕ) → In x (way n v d a) → w x ≡ v x) → ports_behind n w d a ≡ ports_behind n v d a
  behind_same zero a h = refl
  behind_same (suc d) a h =
      ap (λ (p : ℕ × ℕ). ports_from n p.0 (p.1 + 1) ++ ports_behind n w d p.0) (back_same a (h a (inl refl)))
      ∙ ap (λ (ps : List (ℕ × ℕ)). ports_from n (back n v a).0 ((back n v a).1 + 1) ++ ps) (behind_same d (back n v a).0 (λ x i. h x (inr i)))

  pub on_way_same : (root : ℕ × ℕ) (d a : ℕ) → ((x : ℕ) → In x (way n v d a) → w x ≡ v x) → OnWay n v root d a → OnWay n w root d a
  on_way_same root zero a h o = o
  on_way_same root (suc d) a h o =
      let e : w a ≡ v a = h a (inl refl) in
      let r = on_way_same root d (back n v a).0 (λ x i. h x (inr i)) o.4 in
      subst (λ (m : ℕ). let p : ℕ × ℕ = or_zero (n.link a (entry_port m)) in
      (n.link a (entry_port m) ≡ Some p) × (entry_port m < n.arity a) × (p.1 < n.arity p.0) × (a ≡ root.0 → ⊥) × OnWay n w root d p.0) (sym e)
      (o.0, o.1, o.2, o.3, r)

-- a number that passes the test stands in the list
pub in_is : (a : ℕ) (xs : List ℕ) → is_in xs a ≡ true → In a xs
in_is a [] e = absurd (cc)
in_is a (x ∷ xs) e = by (x == a) refl (in_is a xs) e
  where
    by : (t : Bool) → (x == a) ≡ t → (is_in xs a ≡ true → In a xs) → cond t true (is_in xs a) ≡ true → In a (x ∷ xs)
    by true f r e = inl (eqb-true x a f)
    by false f r e = inr (r e)

-- the first marks after a mark was set
pub mark_here : (s : Heap) (b m : ℕ) → 0 < length (marks_of (s.atoms b)) → first_marks (marked s b 0 m) b ≡ m
mark_here s b m l = ap (λ (o : Option HeapAtom). slice_index_or (marks_of o) 0 0) (alter_at s.atoms b (option_map (with_mark 0 m))) ∙ by (s.atoms b) l
  where
    by : (o : Option HeapAtom) → 0 < length (marks_of o) → slice_index_or (marks_of (option_map (with_mark 0 m) o)) 0 0 ≡ m
    by None l = absurd (omega arith)
    by (Some x) l = get_or-set_same x.marks 0 m 0 l

-- a mark at one atom leaves the marks of others
pub mark_away : (s : Heap) (b m x : ℕ) → x ≢ b → first_marks (marked s b 0 m) x ≡ first_marks s x
mark_away s b m x d = ap (λ (o : Option HeapAtom). slice_index_or (marks_of o) 0 0) (alter_away s.atoms b (option_map (with_mark 0 m)) x d)

-- and leaves how ports are joined
pub net_marked : (s : Heap) (b k m : ℕ) → net (marked s b k m) ≡ net s
net_marked s b k m = λ i. record {
  arity = λ a. (ap length (links a)) i;
  link = λ a j. (ap (λ xs. slice_index_or xs j None) (links a)) i;
}
  where
    by : (o : Option HeapAtom) → partners_of (option_map (with_mark k m) o) ≡ partners_of o
    by None = refl
    by (Some x) = refl

    links : (a : ℕ) → partners_of ((marked s b k m).atoms a) ≡ partners_of (s.atoms a)
    links a = elim (cases_eq a b) [
      | inl e ↦ subst (λ (z : ℕ). partners_of (alter s.atoms b (option_map (with_mark k m)) z) ≡ partners_of (s.atoms z)) (sym e)
          (ap partners_of (alter_at s.atoms b (option_map (with_mark k m))) ∙ by (s.atoms b))
      | inr d ↦ ap partners_of (alter_away s.atoms b (option_map (with_mark k m)) a d)
    ]

-- an atom with a port is there
pub with_port : (s : Heap) (a : ℕ) → 0 < arity_of s a → IsAtom s a
with_port s a l = by (s.atoms a) l
  where
    by : (o : Option HeapAtom) → 0 < length (partners_of o) → IsSome o
    by None l = absurd (omega arith)
    by (Some x) l = refl
