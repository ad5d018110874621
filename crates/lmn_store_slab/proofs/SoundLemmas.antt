-- A table stays sound where a number leaves a list or joins one.
use Rattle.std.proofs.Common.{◌≡◌, ◌≢◌, ◌⊎◌, ℕ, zero, suc, ◌<◌, ◌≤◌, List, [], ◌∷◌, ◌++◌, length, map, Option, Some, None, refl, sym, ap, subst, ◌∙◌, inl, inr, arith}
use Rattle.std.proofs.lemmas.List.{get_or-set_same, get_or-set_other, length-set, map-set}
use Rattle.std.proofs.lemmas.Bool.{cases_eq}
use Rattle.std.specs.Prelude.{slice_set}
use Rattle.lmn_store_slab.specs.declared.node.Node.{Node}
use Rattle.lmn_store_slab.specs.declared.node.Ends.{Ends}
use Rattle.lmn_store_slab.specs.Lines.{free_node, no_ends, node, ends_of_list, with_next, with_prev, with_first, with_last, RunsThrough, walk, numbers_of_list, Line, WellLinked}
use Rattle.lmn_store_slab.proofs.RunLemmas.{frame, split, last_in, next_other}
use Rattle.lmn_store_slab.proofs.Moves.{left_other, leaves, joins, with_end, length-with_next, length-with_prev}
use Rattle.lmn_store_heap.specs.Lists.{Distinct, without}
use Rattle.lmn_store_heap.proofs.ListLemmas.{each_in, each_of, in_left, in_right, apart, short, in_split, without_at, in_without}
use Rattle.lmn_base.specs.Lists.{In}
use Rattle.std.specs.List.{AllByRecursion}
use Rattle.lmn_base.proofs.Lists.{in_snoc}
use Rattle.lmn_store_heap.proofs.Listing.{distinct_snoc}

-- to walk along a run gives its list
pub walk_is : (f : ℕ → Node) (b : Option ℕ) (n : ℕ) (first : Option ℕ) (xs : List ℕ) (last : Option ℕ) → RunsThrough f b first xs last None → length xs ≤ n → walk f n first ≡ xs
walk_is f b zero first [] last r h = refl
walk_is f b (suc n) first [] last r h = rw r.0 refl
walk_is f b zero first (x ∷ xs) last r h = absurd (omega arith)
walk_is f b (suc n) first (x ∷ xs) last r h = rw r.0 (ap (λ ys. x ∷ ys) (walk_is f (Some x) n (f x).next xs last r.2 (omega arith)))

-- the nodes of a list are nodes
pub within : (ns : List Node) (l : ℕ) (xs : List ℕ) → AllByRecursion (λ x. (x < length ns) × ((node ns x).home ≡ Some l)) xs → AllByRecursion (λ x. x < length ns) xs
within ns l [] e = tt
within ns l (x ∷ xs) e = (e.0.0, within ns l xs e.1)

-- a linked list is what the nodes lead to
pub line_is : (ns : List Node) (l : ℕ) (e : Ends) (xs : List ℕ) → Line ns l e xs → numbers_of_list ns e ≡ xs
line_is ns l e xs h = walk_is (node ns) None (length ns) e.first xs e.last h.runs (short (length ns) xs h.distinct (within ns l xs h.each))

home_set : (ns : List Node) (q z : ℕ) (v : Node) → v.home ≡ (node ns q).home → (node (slice_set ns q v) z).home ≡ (node ns z).home
home_set [] q z v h = refl
home_set (m ∷ ns) zero zero v h = h
home_set (m ∷ ns) zero (suc z) v h = refl
home_set (m ∷ ns) (suc q) zero v h = refl
home_set (m ∷ ns) (suc q) (suc z) v h = home_set ns q z v h

home_next : (ns : List Node) (p n : Option ℕ) (z : ℕ) → (node (with_next ns p n) z).home ≡ (node ns z).home
home_next ns None n z = refl
home_next ns (Some q) n z = home_set ns q z (record (node ns q) { next = n }) refl

home_prev : (ns : List Node) (p n : Option ℕ) (z : ℕ) → (node (with_prev ns p n) z).home ≡ (node ns z).home
home_prev ns None n z = refl
home_prev ns (Some q) n z = home_set ns q z (record (node ns q) { prev = n }) refl

distinct_drop : (ys : List ℕ) (x : ℕ) (zs : List ℕ) → Distinct (ys ++ (x ∷ zs)) → Distinct (ys ++ zs)
distinct_drop [] x zs d = d.1
distinct_drop (y ∷ ys) x zs d = (each_of _ (ys ++ zs) (λ a i. each_in (λ z. y ≢ z) (ys ++ (x ∷ zs)) a d.0 (still ys a i)), distinct_drop ys x zs d.1)
  where
    still : (us : List ℕ) (a : ℕ) → In a (us ++ zs) → In a (us ++ (x ∷ zs))
    still [] a i = inr i
    still (u ∷ us) a (inl e) = inl e
    still (u ∷ us) a (inr i) = inr (still us a i)

each_drop : (P : ℕ → Type 0) (ys : List ℕ) (x : ℕ) (zs : List ℕ) → AllByRecursion P (ys ++ (x ∷ zs)) → AllByRecursion P (ys ++ zs)
each_drop P [] x zs e = e.1
each_drop P (y ∷ ys) x zs e = (e.0, each_drop P ys x zs e.1)

-- the others of a list without repeats are not this one
pub not_it : (ys : List ℕ) (x : ℕ) (zs : List ℕ) (z : ℕ) → Distinct (ys ++ (x ∷ zs)) → In z (ys ++ zs) → z ≢ x
not_it [] x zs z d i same = each_in (λ v. x ≢ v) zs z d.0 i (sym same)
not_it (y ∷ ys) x zs z d (inl e) same = apart (y ∷ ys) (x ∷ zs) y x d (inl refl) (inl refl) (e ∙ same)
not_it (y ∷ ys) x zs z d (inr i) same = not_it ys x zs z d.1 i same

-- two functions that agree on all but one give the same lists but at it
set_map_same : (g h : Ends → List ℕ) (es : List Ends) (l : ℕ) (v : List ℕ) → ((k : ℕ) → k < length es → k ≢ l → g (ends_of_list es k) ≡ h (ends_of_list es k)) → slice_set (map g es) l v ≡ slice_set (map h es) l v
set_map_same g h [] l v same = refl
set_map_same g h (e ∷ es) zero v same = ap (λ u. v ∷ u) (map_same es (λ k w. same (suc k) (omega arith) (λ z. omega arith)))
  where
    map_same : (us : List Ends) → ((k : ℕ) → k < length us → g (ends_of_list us k) ≡ h (ends_of_list us k)) → map g us ≡ map h us
    map_same [] s = refl
    map_same (u ∷ us) s = let a : g u ≡ h u = s 0 (omega arith) in rw a (ap (λ w. h u ∷ w) (map_same us (λ k w. s (suc k) (omega arith))))
set_map_same g h (e ∷ es) (suc l) v same =
    let a : g e ≡ h e = same 0 (omega arith) (λ z. omega arith) in
    rw a (ap (λ w. h e ∷ w) (set_map_same g h es l v (λ k w d. same (suc k) (omega arith) (λ z. d (omega arith)))))

-- A number leaves the list l.
module _ (ns : List Node) (es : List Ends) (l x : ℕ) (s : WellLinked ns es) (lt : l < length es) (there : In x (numbers_of_list ns (ends_of_list es l))) where
  abbrev pub p_of : Option ℕ
  p_of = (node ns x).prev

  abbrev pub n_of : Option ℕ
  n_of = (node ns x).next

  abbrev pub nodes_left : List Node
  nodes_left = slice_set (with_prev (with_next ns p_of n_of) n_of p_of) x free_node

  abbrev pub end_left : Ends
  end_left = with_last (with_first (ends_of_list es l) p_of n_of) n_of p_of

  pub length_left : length nodes_left ≡ length ns
  length_left = length-set (with_prev (with_next ns p_of n_of) n_of p_of) x _ ∙ length-with_prev (with_next ns p_of n_of) n_of p_of ∙ length-with_next ns p_of n_of

  -- the neighbours are of the same list
  pub mates : (q : ℕ) → (p_of ≡ Some q) ⊎ (n_of ≡ Some q) → (node ns q).home ≡ Some l
  mates q near =
      let line = s.line l lt in
      let cut = in_split x (numbers_of_list ns (ends_of_list es l)) there in
      let runs : RunsThrough (node ns) None (ends_of_list es l).first (cut.0 ++ (x ∷ cut.1)) (ends_of_list es l).last None = rw cut.2 at line.runs in
      let parts = split (node ns) None (ends_of_list es l).first cut.0 (x ∷ cut.1) (ends_of_list es l).last None runs in
      let each : AllByRecursion (λ u. (u < length ns) × ((node ns u).home ≡ Some l)) (cut.0 ++ (x ∷ cut.1)) = rw cut.2 at line.each in
      by cut.0 cut.1 parts.0 (ends_of_list es l).first (ends_of_list es l).last parts.1 parts.2 parts.3.2 parts.3.1 each near
    where
      by : (ys zs : List ℕ) (p first last m : Option ℕ) → RunsThrough (node ns) None first ys p m → RunsThrough (node ns) (Some x) n_of zs last None → p_of ≡ p
          → AllByRecursion (λ u. (u < length ns) × ((node ns u).home ≡ Some l)) (ys ++ (x ∷ zs)) → (p_of ≡ Some q) ⊎ (n_of ≡ Some q) → (node ns q).home ≡ Some l
      by [] zs p first last m a b same each (inl e) = absurd (let h : Some q ≡ None = sym e ∙ same ∙ a.1 in cc)
      by (y ∷ ys) zs p first last m a b same each (inl e) =
          let u = last_in (node ns) None first y ys p m a in
          let h : u.0 ≡ q = (let k : Some u.0 ≡ Some q = sym u.1 ∙ sym same ∙ e in cc) in
          (each_in (λ w. (w < length ns) × ((node ns w).home ≡ Some l)) ((y ∷ ys) ++ (x ∷ zs)) q each (in_left q (y ∷ ys) (x ∷ zs) (subst (λ w. In w (y ∷ ys)) h u.2))).1
      by ys [] p first last m a b same each (inr e) = absurd (let h : Some q ≡ None = sym e ∙ b.0 in cc)
      by ys (z ∷ zs) p first last m a b same each (inr e) =
          let h : z ≡ q = (let k : Some z ≡ Some q = sym b.0 ∙ e in cc) in
          (each_in (λ w. (w < length ns) × ((node ns w).home ≡ Some l)) (ys ++ (x ∷ z ∷ zs)) q each (in_right q ys (x ∷ z ∷ zs) (inr (inl h)))).1

  -- a number of another list keeps its node
  kept : (z k : ℕ) → k ≢ l → (node ns z).home ≡ Some k → node nodes_left z ≡ node ns z
  kept z k other home =
      let line = s.line l lt in
      let own : (node ns x).home ≡ Some l = (each_in (λ u. (u < length ns) × ((node ns u).home ≡ Some l)) (numbers_of_list ns (ends_of_list es l)) x line.each there).1 in
      let clash : (w : ℕ) → (node ns w).home ≡ Some l → z ≢ w = λ w e same. other (let h : Some k ≡ Some l = sym home ∙ rw same e in cc) in
      left_other ns x p_of n_of z (clash x own) (λ e. clash z (mates z (inl e)) refl) (λ e. clash z (mates z (inr e)) refl)

  homes_left : (z : ℕ) → z ≢ x → (node nodes_left z).home ≡ (node ns z).home
  homes_left z d =
      ap (λ (u : Node). u.home) (get_or-set_other (with_prev (with_next ns p_of n_of) n_of p_of) x z free_node free_node d)
      ∙ home_prev (with_next ns p_of n_of) n_of p_of z ∙ home_next ns p_of n_of z

  line_left : Line nodes_left l end_left (without x (numbers_of_list ns (ends_of_list es l)))
  line_left =
      let line = s.line l lt in
      let cut = in_split x (numbers_of_list ns (ends_of_list es l)) there in
      let xs = numbers_of_list ns (ends_of_list es l) in
      let d : Distinct (cut.0 ++ (x ∷ cut.1)) = subst Distinct cut.2 line.distinct in
      let each : AllByRecursion (λ u. (u < length ns) × ((node ns u).home ≡ Some l)) (cut.0 ++ (x ∷ cut.1)) = subst (AllByRecursion (λ u. (u < length ns) × ((node ns u).home ≡ Some l))) cut.2 line.each in
      let runs : RunsThrough (node ns) None (ends_of_list es l).first (cut.0 ++ (x ∷ cut.1)) (ends_of_list es l).last None = subst (λ u. RunsThrough (node ns) None (ends_of_list es l).first u (ends_of_list es l).last None) cut.2 line.runs in
      let is : without x xs ≡ cut.0 ++ cut.1 = ap (without x) cut.2 ∙ without_at cut.0 x cut.1 d in
      let away : (z : ℕ) → In z (cut.0 ++ cut.1) → z ≢ x = λ z i. not_it cut.0 x cut.1 z d i in
      subst (Line nodes_left l end_left) (sym is) (record {
        runs = leaves ns (ends_of_list es l) cut.0 x cut.1 d (within ns l _ each) runs;
        each = each_of _ (cut.0 ++ cut.1) (λ z i.
            let was = each_in (λ u. (u < length ns) × ((node ns u).home ≡ Some l)) (cut.0 ++ cut.1) z (each_drop _ cut.0 x cut.1 each) i in
            (rw length_left was.0, homes_left z (away z i) ∙ was.1));
        distinct = distinct_drop cut.0 x cut.1 d;
      })

  abbrev pub ends_left : List Ends
  ends_left = slice_set es l end_left

  same_line : (k : ℕ) → k < length es → k ≢ l → Line nodes_left k (ends_of_list es k) (numbers_of_list ns (ends_of_list es k))
  same_line k w other =
      let line = s.line k w in
      let home : (z : ℕ) → In z (numbers_of_list ns (ends_of_list es k)) → (z < length ns) × ((node ns z).home ≡ Some k) = λ z i.
      each_in (λ u. (u < length ns) × ((node ns u).home ≡ Some k)) (numbers_of_list ns (ends_of_list es k)) z line.each i in
      let same : (z : ℕ) → In z (numbers_of_list ns (ends_of_list es k)) → node nodes_left z ≡ node ns z = λ z i. kept z k other (home z i).1 in
      record {
        runs = frame (node ns) (node nodes_left) None (ends_of_list es k).first (numbers_of_list ns (ends_of_list es k)) (ends_of_list es k).last None (each_of _ _ same) line.runs;
        each = each_of _ (numbers_of_list ns (ends_of_list es k)) (λ z i. (rw length_left (home z i).0, ap (λ (u : Node). u.home) (same z i) ∙ (home z i).1));
        distinct = line.distinct;
      }

  -- what each list is
  pub now_here : numbers_of_list nodes_left end_left ≡ without x (numbers_of_list ns (ends_of_list es l))
  now_here = line_is nodes_left l end_left _ line_left

  pub now_other : (k : ℕ) → k < length es → k ≢ l → numbers_of_list nodes_left (ends_of_list es k) ≡ numbers_of_list ns (ends_of_list es k)
  now_other k w other = line_is nodes_left k (ends_of_list es k) _ (same_line k w other)

  pub lists_left : map (numbers_of_list nodes_left) ends_left ≡ slice_set (map (numbers_of_list ns) es) l (without x (numbers_of_list ns (ends_of_list es l)))
  lists_left =
      map-set (numbers_of_list nodes_left) es l end_left ∙ ap (slice_set (map (numbers_of_list nodes_left) es) l) now_here
      ∙ set_map_same (numbers_of_list nodes_left) (numbers_of_list ns) es l (without x (numbers_of_list ns (ends_of_list es l))) now_other

  ends_at : ends_of_list ends_left l ≡ end_left
  ends_at = get_or-set_same es l end_left no_ends lt

  ends_off : (k : ℕ) → k ≢ l → ends_of_list ends_left k ≡ ends_of_list es k
  ends_off k d = get_or-set_other es l k end_left no_ends d

  homes_now : (z k : ℕ) → (node nodes_left z).home ≡ Some k → (k < length ends_left) × In z (numbers_of_list nodes_left (ends_of_list ends_left k))
  homes_now z k h =
      let line = s.line l lt in
      let inside : x < length ns = (each_in (λ u. (u < length ns) × ((node ns u).home ≡ Some l)) (numbers_of_list ns (ends_of_list es l)) x line.each there).0 in
      let free : node nodes_left x ≡ free_node = get_or-set_same (with_prev (with_next ns p_of n_of) n_of p_of) x free_node free_node
      (rw (length-with_prev (with_next ns p_of n_of) n_of p_of, length-with_next ns p_of n_of) inside) in
      elim (cases_eq z x) [
        | inl same ↦ absurd (let e : Some k ≡ None = sym h ∙ rw same (ap (λ (u : Node). u.home) free) in cc)
        | inr d ↦
            let was = s.homes z k (sym (homes_left z d) ∙ h) in
            let size : length ends_left ≡ length es = length-set es l end_left in (
              rw size was.0,
              elim (cases_eq k l) [
                | inl same ↦ rw (same, ends_at, now_here) (in_without x z (numbers_of_list ns (ends_of_list es l)) (rw same at was.1) d)
                | inr other ↦ rw (ends_off k other, now_other k was.0 other) was.1
              ],
            )
      ]

  pub sound_left : WellLinked nodes_left ends_left
  sound_left = record {
    line = λ k w. elim (cases_eq k l) [
      | inl same ↦ rw (same, ends_at, now_here) line_left
      | inr other ↦ let w' : k < length es = rw (length-set es l end_left) at w in rw (ends_off k other, now_other k w' other) (same_line k w' other)
    ];
    homes = homes_now;
  }

-- A free number joins the list l at its end.
module _ (ns : List Node) (es : List Ends) (l x : ℕ) (s : WellLinked ns es) (lt : l < length es) (inside : x < length ns) (free : (node ns x).home ≡ None) where
  abbrev pub nodes_in : List Node
  nodes_in = with_end ns l x (ends_of_list es l).last

  abbrev pub end_in : Ends
  end_in = record (with_first (ends_of_list es l) (ends_of_list es l).last (Some x)) { last = Some x }

  abbrev pub ends_in : List Ends
  ends_in = slice_set es l end_in

  abbrev first_nodes : List Node
  first_nodes = slice_set ns x (record { prev = (ends_of_list es l).last; next = None; home = Some l })

  pub length_in : length nodes_in ≡ length ns
  length_in = length-with_next first_nodes (ends_of_list es l).last (Some x) ∙ length-set ns x _

  home_in : (z : ℕ) → z ≢ x → (node nodes_in z).home ≡ (node ns z).home
  home_in z d = home_next first_nodes (ends_of_list es l).last (Some x) z ∙ ap (λ (u : Node). u.home) (get_or-set_other ns x z (record { prev = (ends_of_list es l).last; next = None; home = Some l }) free_node d)

  home_of_x : (node nodes_in x).home ≡ Some l
  home_of_x = home_next first_nodes (ends_of_list es l).last (Some x) x ∙ ap (λ (u : Node). u.home) (get_or-set_same ns x (record { prev = (ends_of_list es l).last; next = None; home = Some l }) free_node inside)

  mine : (k z : ℕ) → k < length es → In z (numbers_of_list ns (ends_of_list es k)) → (z < length ns) × ((node ns z).home ≡ Some k)
  mine k z w i = each_in (λ u. (u < length ns) × ((node ns u).home ≡ Some k)) (numbers_of_list ns (ends_of_list es k)) z (s.line k w).each i

  not_x : (k z : ℕ) → (node ns z).home ≡ Some k → z ≢ x
  not_x k z h same = let e : Some k ≡ None = sym h ∙ rw same free in cc

  pub last_mine : (xs : List ℕ) (first last : Option ℕ) (q : ℕ) → RunsThrough (node ns) None first xs last None → last ≡ Some q → In q xs
  last_mine [] first last q r e = absurd (let h : Some q ≡ None = sym e ∙ r.1 in cc)
  last_mine (y ∷ ys) first last q r e =
      let u = last_in (node ns) None first y ys last None r in
      subst (λ w. In w (y ∷ ys)) (let h : Some u.0 ≡ Some q = sym u.1 ∙ e in cc) u.2

  kept_in : (z k : ℕ) → k ≢ l → (node ns z).home ≡ Some k → node nodes_in z ≡ node ns z
  kept_in z k other h =
      next_other first_nodes (ends_of_list es l).last (Some x) z (λ e.
      let own = mine l z lt (last_mine (numbers_of_list ns (ends_of_list es l)) (ends_of_list es l).first (ends_of_list es l).last z (s.line l lt).runs e) in
      other (let same : Some k ≡ Some l = sym h ∙ own.1 in cc))
      ∙ get_or-set_other ns x z (record { prev = (ends_of_list es l).last; next = None; home = Some l }) free_node (not_x k z h)

  line_in : Line nodes_in l end_in (numbers_of_list ns (ends_of_list es l) ++ x ∷ [])
  line_in =
      let xs = numbers_of_list ns (ends_of_list es l) in
      let line = s.line l lt in
      let fresh : In x xs → ⊥ = λ i. not_x l x (mine l x lt i).1 refl in
      record {
        runs = joins ns (ends_of_list es l) xs l x line.distinct (each_of _ xs (λ z i. (mine l z lt i).0)) inside fresh line.runs;
        each = each_of _ (xs ++ x ∷ []) (λ z i. elim (in_snoc z x xs i) [
          | inl j ↦ (rw length_in (mine l z lt j).0, home_in z (not_x l z (mine l z lt j).1) ∙ (mine l z lt j).1)
          | inr e ↦ rw e (rw length_in inside, home_of_x)
        ]);
        distinct = distinct_snoc x xs line.distinct fresh;
      }

  same_line_in : (k : ℕ) → k < length es → k ≢ l → Line nodes_in k (ends_of_list es k) (numbers_of_list ns (ends_of_list es k))
  same_line_in k w other =
      let line = s.line k w in
      let same : (z : ℕ) → In z (numbers_of_list ns (ends_of_list es k)) → node nodes_in z ≡ node ns z = λ z i. kept_in z k other (mine k z w i).1 in
      record {
        runs = frame (node ns) (node nodes_in) None (ends_of_list es k).first (numbers_of_list ns (ends_of_list es k)) (ends_of_list es k).last None (each_of _ _ same) line.runs;
        each = each_of _ (numbers_of_list ns (ends_of_list es k)) (λ z i. (rw length_in (mine k z w i).0, ap (λ (u : Node). u.home) (same z i) ∙ (mine k z w i).1));
        distinct = line.distinct;
      }

  pub now_in : numbers_of_list nodes_in end_in ≡ numbers_of_list ns (ends_of_list es l) ++ x ∷ []
  now_in = line_is nodes_in l end_in _ line_in

  pub now_other_in : (k : ℕ) → k < length es → k ≢ l → numbers_of_list nodes_in (ends_of_list es k) ≡ numbers_of_list ns (ends_of_list es k)
  now_other_in k w other = line_is nodes_in k (ends_of_list es k) _ (same_line_in k w other)

  pub lists_in : map (numbers_of_list nodes_in) ends_in ≡ slice_set (map (numbers_of_list ns) es) l (numbers_of_list ns (ends_of_list es l) ++ x ∷ [])
  lists_in =
      map-set (numbers_of_list nodes_in) es l end_in ∙ ap (slice_set (map (numbers_of_list nodes_in) es) l) now_in
      ∙ set_map_same (numbers_of_list nodes_in) (numbers_of_list ns) es l (numbers_of_list ns (ends_of_list es l) ++ x ∷ []) now_other_in

  ends_at_in : ends_of_list ends_in l ≡ end_in
  ends_at_in = get_or-set_same es l end_in no_ends lt

  ends_off_in : (k : ℕ) → k ≢ l → ends_of_list ends_in k ≡ ends_of_list es k
  ends_off_in k d = get_or-set_other es l k end_in no_ends d

  homes_in : (z k : ℕ) → (node nodes_in z).home ≡ Some k → (k < length ends_in) × In z (numbers_of_list nodes_in (ends_of_list ends_in k))
  homes_in z k h =
      let size : length ends_in ≡ length es = length-set es l end_in in
      elim (cases_eq z x) [
        | inl same ↦
            let own : k ≡ l = (let e : Some k ≡ Some l = sym h ∙ rw same home_of_x in cc) in
            (rw (size, own) lt, rw (own, ends_at_in, now_in, same) (in_right x (numbers_of_list ns (ends_of_list es l)) (x ∷ []) (inl refl)))
        | inr d ↦
            let was = s.homes z k (sym (home_in z d) ∙ h) in (
              rw size was.0,
              elim (cases_eq k l) [
                | inl same ↦ rw (same, ends_at_in, now_in) (in_left z (numbers_of_list ns (ends_of_list es l)) (x ∷ []) (rw same at was.1))
                | inr other ↦ rw (ends_off_in k other, now_other_in k was.0 other) was.1
              ],
            )
      ]

  pub sound_in : WellLinked nodes_in ends_in
  sound_in = record {
    line = λ k w. elim (cases_eq k l) [
      | inl same ↦ rw (same, ends_at_in, now_in) line_in
      | inr other ↦ let w' : k < length es = rw (length-set es l end_in) at w in rw (ends_off_in k other, now_other_in k w' other) (same_line_in k w' other)
    ];
    homes = homes_in;
  }
