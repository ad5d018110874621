-- Taking atoms while the marks are taken back.
use Rattle.std.proofs.Common.{false, ◌≡◌, ◌≢◌, ℕ, zero, suc, ◌+◌, ◌<◌, ◌≤◌, Bool, List, [], ◌∷◌, ◌++◌, length, Option, Some, None, IsSome, refl, sym, ap, subst, ◌∙◌, inl, inr, arith}
use Rattle.std.proofs.lemmas.Bool.{cases_eq}
use Rattle.std.specs.Option.{option_map, option_and_then}
use Rattle.std.specs.Prelude.{slice_index_or}
use Rattle.lmn_store_heap.specs.Graphs.{atom_map}
use Rattle.lmn_ground.proofs.WipeLaws.{b_reached}
use Rattle.lmn_store_heap.specs.Heap.{link_of, Heap, HeapAtom, Distinct, IsAtom, IsInPlace, alter, gone, home_by, with_place, with_mark, partners_of, marks_of, marked, taken, atom_out, home_of, taken_all}
use Rattle.lmn_store_heap.proofs.Listing.{alter_at, alter_away}
use Rattle.lmn_ground.specs.Marks.{first_place, paint, painted, first_marks, way, ports_ahead, OnWay}
use Rattle.lmn_ground.specs.Spread.{Spread, Wiping}
use Rattle.lmn_ground_parts.proofs.WalkLaws.{kept_seen}
use Rattle.lmn_ground.proofs.PaintLaws.{net_painted}
use Rattle.lmn_ground.proofs.PaintedAt.{paint_home}
use Rattle.lmn_ground_parts.specs.Walks.{neighbour, is_port, Net, net, is_in, Walk}
use Rattle.lmn_store_heap.proofs.Common.{decide_in as in_or_not}
use Rattle.lmn_base.specs.Lists.{In}
use Rattle.lmn_ground.proofs.OwnLaws.{reached_same}

-- what taking leaves as it is
kept_by : {X : Type 0} (view : Option HeapAtom → X) → ((o : Option HeapAtom) → view (option_map (with_place gone) o) ≡ view o) → (s : Heap) (b a : ℕ) → view ((taken s b).atoms a) ≡ view (s.atoms a)
kept_by view h s b a = elim (cases_eq a b) [
  | inl e ↦ subst (λ (z : ℕ). view (alter s.atoms b (option_map (with_place gone)) z) ≡ view (s.atoms z)) (sym e)
      (ap view (alter_at s.atoms b (option_map (with_place gone))) ∙ h (s.atoms b))
  | inr d ↦ ap view (alter_away s.atoms b (option_map (with_place gone)) a d)
]

links_taken : (o : Option HeapAtom) → partners_of (option_map (with_place gone) o) ≡ partners_of o
links_taken None = refl
links_taken (Some x) = refl

marks_taken : (o : Option HeapAtom) → marks_of (option_map (with_place gone) o) ≡ marks_of o
marks_taken None = refl
marks_taken (Some x) = refl

-- ports stay joined when an atom is taken
pub net_taken : (s : Heap) (b : ℕ) → net (taken s b) ≡ net s
net_taken s b = λ i. record {
  arity = λ a. (ap length (kept_by partners_of links_taken s b a)) i;
  link = λ a k. (ap (λ xs. slice_index_or xs k None) (kept_by partners_of links_taken s b a)) i;
}

-- and marks stay
pub firsts_taken : (s : Heap) (b : ℕ) → first_marks (taken s b) ≡ first_marks s
firsts_taken s b = λ i a. (ap (λ xs. slice_index_or xs 0 0) (kept_by marks_of marks_taken s b a)) i

-- marks and taking don't depend on each other
pub painted_taken : (s : Heap) (v : ℕ → ℕ) (b : ℕ) → taken (painted s v) b ≡ painted (taken s b) v
painted_taken s v b = λ i. record (taken s b) {
  atoms = λ a. (at a) i;
  mems = ap (λ (h : Option ℕ). atom_out s.mems h b) (paint_home first_place (v b) (s.atoms b)) i;
}
  where
    by : (m : ℕ) (o : Option HeapAtom) → option_map (with_place gone) (paint m o) ≡ paint m (option_map (with_place gone) o)
    by zero o = refl
    by (suc m) None = refl
    by (suc m) (Some x) = refl

    at : (a : ℕ) → alter (painted s v).atoms b (option_map (with_place gone)) a ≡ paint (v a) (alter s.atoms b (option_map (with_place gone)) a)
    at a = elim (cases_eq a b) [
      | inl e ↦ subst (λ (z : ℕ). alter (painted s v).atoms b (option_map (with_place gone)) z ≡ paint (v z) (alter s.atoms b (option_map (with_place gone)) z)) (sym e)
          (alter_at (painted s v).atoms b (option_map (with_place gone)) ∙ by (v b) (s.atoms b) ∙ ap (paint (v b)) (sym (alter_at s.atoms b (option_map (with_place gone)))))
      | inr d ↦ alter_away (painted s v).atoms b (option_map (with_place gone)) a d ∙ ap (paint (v a)) (sym (alter_away s.atoms b (option_map (with_place gone)) a d))
    ]

-- one more is taken at the end
pub taken_snoc : (s : Heap) (xs : List ℕ) (b : ℕ) → taken_all s (xs ++ b ∷ []) ≡ taken (taken_all s xs) b
taken_snoc s [] b = refl
taken_snoc s (x ∷ xs) b = taken_snoc (taken s x) xs b

-- another atom keeps its home
pub home_away : (s : Heap) (a b : ℕ) → b ≢ a → home_of (taken s a) b ≡ home_of s b
home_away s a b d = ap (option_and_then (λ (x : HeapAtom). home_by x.place)) (alter_away s.atoms a (option_map (with_place gone)) b d)

-- other atoms keep their homes
pub home_kept : (s : Heap) (xs : List ℕ) (b : ℕ) → (In b xs → ⊥) → home_of (taken_all s xs) b ≡ home_of s b
home_kept s [] b d = refl
home_kept s (x ∷ xs) b d = home_kept (taken s x) xs b (λ k. d (inr k)) ∙ home_away s x b (λ e. d (inl (sym e)))

-- and all do when one is marked
pub home_marked : (s : Heap) (a k m b : ℕ) → home_of (marked s a k m) b ≡ home_of s b
home_marked s a k m b = elim (cases_eq b a) [
  | inl e ↦ subst (λ (z : ℕ). home_of (marked s a k m) z ≡ home_of s z) (sym e)
      (ap (option_and_then (λ (x : HeapAtom). home_by x.place)) (alter_at s.atoms a (option_map (with_mark k m))) ∙ by (s.atoms a))
  | inr d ↦ ap (option_and_then (λ (x : HeapAtom). home_by x.place)) (alter_away s.atoms a (option_map (with_mark k m)) b d)
]
  where
    by : (o : Option HeapAtom) → option_and_then (λ (x : HeapAtom). home_by x.place) (option_map (with_mark k m) o) ≡ option_and_then (λ (x : HeapAtom). home_by x.place) o
    by None = refl
    by (Some x) = refl

-- The walk doesn't see that an atom is taken.
pub wiping_taken : (before now : Heap) (root : ℕ × ℕ) (seen met : List ℕ) (depth a i left b : ℕ) → Wiping before now root seen met depth a i left
    → Wiping (taken before b) (taken now b) root seen met depth a i left
wiping_taken before now root seen met depth a i left b t =
    let e = sym (net_taken before b) in
    let f = sym (firsts_taken now b) in
    let g = sym (firsts_taken before b) in
    record {
      marks = t.marks;
      is = ap (λ (s : Heap). taken s b) t.is ∙ painted_taken before t.marks b;
      clean = λ x k. subst (λ (v : ℕ → ℕ). v x ≡ 0) g (t.clean x k);
      ports = λ x k. subst (λ (n : Net). 0 < n.arity x) e (t.ports x k);
      outside = t.outside;
      wiped = λ x k d. t.wiped x k (λ m. d (subst (λ (n : Net). In x (way n (first_marks (taken now b)) depth a)) e (subst (λ (v : ℕ → ℕ). In x (way (net before) v depth a)) f m)));
      high = λ x k d. subst (λ (v : ℕ → ℕ). 512 ≤ v x) f (t.high x k d);
      low = λ x k. subst (λ (v : ℕ → ℕ). v x < 512) f (t.low x k);
      reached = λ x k. reached_same (atom_map before) (atom_map (taken before b)) root (λ c l. ap (λ (n : Net). n.link c l) e) x (t.reached x k);
      off = λ x p d. subst (λ (v : ℕ → ℕ). v x < 512) f (t.off x (reached_same (atom_map (taken before b)) (atom_map before) root (λ c l. ap (λ (n : Net). n.link c l) (sym e)) x p) d);
      here = subst (λ (n : Net). i ≤ n.arity a) e t.here;
      on_way = subst (λ (n : Net). OnWay n (first_marks (taken now b)) root depth a) e (subst (λ (v : ℕ → ℕ). OnWay (net before) v root depth a) f t.on_way);
      once = subst (λ (n : Net). Distinct (way n (first_marks (taken now b)) depth a)) e (subst (λ (v : ℕ → ℕ). Distinct (way (net before) v depth a)) f t.once);
      way_met = λ x k. t.way_met x (subst (λ (v : ℕ → ℕ). In x (way (net before) v depth a)) (sym f) (subst (λ (n : Net). In x (way n (first_marks (taken now b)) depth a)) (sym e) k));
      first = t.first;
      rest = subst (λ (n : Net). Walk n.arity (neighbour n root (is_in seen)) met (ports_ahead n (first_marks (taken now b)) depth a i) seen) e
          (subst (λ (v : ℕ → ℕ). Walk (net before).arity (neighbour (net before) root (is_in seen)) met (ports_ahead (net before) v depth a i) seen) f t.rest);
      few = t.few;
      deep = t.deep;
    }

module _ (before0 : Heap) (root : ℕ × ℕ) (seen met : List ℕ) (now : Heap) (depth a i left : ℕ) (t : Wiping (taken_all before0 met) now root seen met depth a i left) where
  -- an atom that is entered is still in place
  pub still_placed : (to : Heap) (b j : ℕ) → to ≡ marked now b 0 (256 + j) → link_of now a i ≡ Some (b, j) → is_port (a, i) root ≡ false → 512 ≤ first_marks now b → ((x : ℕ) → In x seen → IsInPlace before0 x) → IsInPlace to b
  still_placed to b j made given_link other marked_high placed =
      let e : net now ≡ net (taken_all before0 met) = ap net t.is ∙ net_painted (taken_all before0 met) t.marks in
      let link : link_of (taken_all before0 met) a i ≡ Some (b, j) = subst (λ (x : Net). x.link a i ≡ Some (b, j)) e given_link in
      let new : In b met → ⊥ = λ k. let h = t.low b k in absurd (omega (arith, h, marked_high)) in
      let b_seen : In b seen = elim (in_or_not b seen) [ inl k ↦ k | inr d ↦ (let h = t.off b (b_reached (taken_all before0 met) root now seen met depth a i left t link other) d in absurd (omega (arith, h, marked_high))) ] in
      subst (λ (o : Option ℕ). IsSome o) (sym (ap (λ (s : Heap). home_of s b) made ∙ home_marked now b 0 (256 + j) b ∙ ap (λ (s : Heap). home_of s b) t.is
      ∙ paint_home first_place (t.marks b) ((taken_all before0 met).atoms b) ∙ home_kept before0 met b new)) (placed b b_seen)

-- an atom that is taken is still there
pub there_taken : (mid to : Heap) (b : ℕ) → to ≡ taken mid b → IsAtom mid b → IsAtom to b
there_taken mid to b e i = subst (λ (s : Heap). IsAtom s b) (sym e) (subst (λ (o : Option HeapAtom). IsSome o) (sym (alter_at mid.atoms b (option_map (with_place gone)))) (by (mid.atoms b) i))
  where
    by : (o : Option HeapAtom) → IsSome o → IsSome (option_map (with_place gone) o)
    by None i = absurd (cc)
    by (Some x) i = refl

-- a walk has seen the root
pub root_seen : (before start : Heap) (root : ℕ × ℕ) (count : ℕ) (all : Bool) → (t : Spread before start root count all) → In root.0 t.seen
root_seen before start root count all t = kept_seen _ _ t.walked root.0 (inl refl)

-- which is in place, marked or not
pub root_placed : (before start : Heap) (root : ℕ × ℕ) (count : ℕ) (all : Bool) → (t : Spread before start root count all) → IsInPlace before root.0
    → (to : Heap) → to ≡ marked start root.0 0 (256 + root.1) → IsInPlace to root.0
root_placed before start root count all t is to made =
    subst (λ (o : Option ℕ). IsSome o) (sym (ap (λ (s : Heap). home_of s root.0) made ∙ home_marked start root.0 0 (256 + root.1) root.0 ∙ ap (λ (s : Heap). home_of s root.0) t.is
    ∙ paint_home first_place (t.marks root.0) (before.atoms root.0))) is
