-- The walk by marks, step by step.
use Rattle.std.proofs.Common.{◌*◌, ◌/◌, ◌≡◌, ◌≢◌, ◌⊎◌, ◌↔◌, ℕ, zero, suc, ◌+◌, ◌-◌, ◌<◌, ◌≤◌, ◌==◌, ◌&&◌, Bool, true, false, cond, List, [], ◌∷◌, ◌++◌, length, Option, Some, None, IsSome, refl, sym, ap, subst, ◌∙◌, inl, inr, arith, length-append, add-one}
use Rattle.std.proofs.lemmas.Bool.{eq-eqb, eqb-true}
use Rattle.std.proofs.lemmas.List.{get_or-set_other}
use Rattle.std.specs.Option.{option_and_then}
use Rattle.std.specs.Prelude.{slice_index_or}
use Rattle.lmn_base.specs.Graphs.{Reached, at_root, across}
use Rattle.lmn_store_heap.specs.Heap.{Heap, HeapAtom, alter, IsAtom, marked, arity_of, link_of, marks_of, mark_of, own_mark, PortsUnmarked}
use Rattle.lmn_store_heap.specs.Sound.{Sound, AtMost}
use Rattle.lmn_store_heap.specs.Graphs.{atom_map}
use Rattle.lmn_store_heap.proofs.ListLemmas.{in_left}
use Rattle.lmn_store_heap.proofs.Listing.{alter_away, distinct_snoc}
use Rattle.lmn_store_heap.proofs.Pigeonholes.{not_longer}
use Rattle.lmn_ground.specs.Marks.{first_place, paint, painted, first_marks, entry_port, or_zero, back, way, ports_behind, ports_ahead, OnWay, Sought}
use Rattle.lmn_ground.specs.Spread.{Numbered, CleanPart, AtomFits, IsWhole, Spread, Spreading}
use Rattle.lmn_ground.specs.Stands.{IsTrail}
use Rattle.lmn_ground_parts.proofs.WalkLaws.{holds_left, holds_right, holds_port, in_last, all_seen, closed, start_covers, kept_seen}
use Rattle.lmn_ground.proofs.SoughtLaws.{top_in, port_left, no_port_left}
use Rattle.lmn_ground.proofs.PaintLaws.{net_painted, painted_marked, way_same, behind_same, on_way_same, in_is, mark_here, mark_away, net_marked, with_port, is_painted}
use Rattle.lmn_ground.proofs.PaintedAt.{paint_home, painted_none}
use Rattle.lmn_ground_parts.specs.Walks.{port_range, neighbour, IsPartInDepth, HasPort, Net, net, ports_from, kept, is_port, is_in, Walk, ends, finds}
use Rattle.lmn_store_heap.proofs.Common.{decide_in as in_or_not}
use Rattle.lmn_store_heap.proofs.Replacing.{port_within as link_inside}
use Rattle.lmn_base.specs.Lists.{In}
use Rattle.lmn_base.proofs.Lists.{in_snoc}
use Rattle.lmn_ground_parts.proofs.AnswerLaws.{is_in_true}

-- a neighbour is one of those inside
pub next_in : (n : Net) (root : ℕ × ℕ) (seen : List ℕ) (p : ℕ × ℕ) (b : ℕ) → neighbour n root (is_in seen) p ≡ Some b → In b seen
next_in n root seen p b e = by (is_port p root) e
  where
    kept_in : (t : Bool) (c : ℕ) → is_in seen c ≡ t → cond t (Some c) None ≡ Some b → In b seen
    kept_in true c h e = let s : c ≡ b = (cc) in subst (λ (x : ℕ). In x seen) s (in_is c seen h)
    kept_in false c h e = absurd (cc)

    to : (o : Option (ℕ × ℕ)) → option_and_then (kept (is_in seen)) o ≡ Some b → In b seen
    to None e = absurd (cc)
    to (Some q) e = kept_in (is_in seen q.0) q.0 refl e

    by : (t : Bool) → cond t None (option_and_then (kept (is_in seen)) (n.link p.0 p.1)) ≡ Some b → In b seen
    by true e = absurd (cc)
    by false e = to (n.link p.0 p.1) e

-- a partner inside is a neighbour
pub next_to : (n : Net) (root : ℕ × ℕ) (inside : ℕ → Bool) (a i b j : ℕ) → n.link a i ≡ Some (b, j) → is_port (a, i) root ≡ false → inside b ≡ true
    → neighbour n root inside (a, i) ≡ Some b
next_to n root inside a i b j e f g = rw (f, e, g) refl

-- a port that doesn't pass the test is not the root
pub not_root : (a i : ℕ) (root : ℕ × ℕ) → is_port (a, i) root ≡ false → ◌≢◌ {A = ℕ × ℕ} (a, i) root
not_root a i root e same =
    let f : a ≡ root.0 = ap (λ (p : ℕ × ℕ). p.0) same in
    let g : i ≡ root.1 = ap (λ (p : ℕ × ℕ). p.1) same in
    let t : is_port (a, i) root ≡ true = rw (eq-eqb a root.0 f, eq-eqb i root.1 g) refl in
    absurd (cc)

-- fitting, whatever is painted
fits_mark : (m k : ℕ) (o : Option HeapAtom) → 0 < k → slice_index_or (marks_of (paint m o)) k 0 ≡ slice_index_or (marks_of o) k 0
fits_mark zero k o l = refl
fits_mark (suc m) k None l = refl
fits_mark (suc m) k (Some x) l = get_or-set_other x.marks 0 k (suc m) 0 (let d : k ≢ 0 = λ e. absurd (omega arith) in d)

own_painted : (s : Heap) (v : ℕ → ℕ) (a : ℕ) → 0 < arity_of s a → own_mark (painted s v) a ≡ own_mark s a
own_painted s v a l =
    ap (λ (n : Net). mark_of (painted s v) a (n.arity a)) (net_painted s v) ∙ fits_mark (v a) (arity_of s a) (s.atoms a) l

-- an atom fits with marks where it does without
pub fits_painted : (s : Heap) (v : ℕ → ℕ) (home : Option ℕ) (a : ℕ) → 0 < arity_of s a → AtomFits (painted s v) home a → AtomFits s home a
fits_painted s v None a l f = tt
fits_painted s v (Some m) a l f = (sym (paint_home first_place (v a) (s.atoms a)) ∙ f.0, λ e. f.1 (own_painted s v a l ∙ e))

-- and the other way round
pub painted_fits : (s : Heap) (v : ℕ → ℕ) (home : Option ℕ) (a : ℕ) → 0 < arity_of s a → AtomFits s home a → AtomFits (painted s v) home a
painted_fits s v None a l f = tt
painted_fits s v (Some m) a l f = (paint_home first_place (v a) (s.atoms a) ∙ f.0, λ e. f.1 (sym (own_painted s v a l) ∙ e))

-- an atom with ports has a mark for each
pub marks_there : (s : Heap) (a : ℕ) → Sound s → 0 < arity_of s a → 0 < length (marks_of (s.atoms a))
marks_there s a h l = let e = h.shaped.marks a (with_port s a l) in omega (arith, e)

-- a mark elsewhere leaves one that is 0
pub alter_zero : (v : ℕ → ℕ) (b m x : ℕ) → x ≢ b → v x ≡ 0 → alter v b (λ _. m) x ≡ 0
alter_zero v b m x d e = alter_away v b (λ _. m) x d ∙ e

-- The ways on the two sides of entering an atom.
module _ (n : Net) (v w : ℕ → ℕ) (depth a i b j : ℕ) (same : (x : ℕ) → In x (way n v depth a) → w x ≡ v x) (mark : entry_port (w b) ≡ j) (link : n.link b j ≡ Some (a, i)) where
  pub back_is : back n w b ≡ (a, i)
  back_is = ap (λ (k : ℕ). or_zero (n.link b k)) mark ∙ ap or_zero link

  pub way_enter : way n w (suc depth) b ≡ b ∷ way n v depth a
  way_enter = ap (λ (p : ℕ × ℕ). b ∷ way n w depth p.0) back_is ∙ ap (λ xs. b ∷ xs) (way_same n v w depth a same)

  pub behind_enter : ports_behind n w (suc depth) b ≡ ports_from n a (i + 1) ++ ports_behind n v depth a
  behind_enter = ap (λ (p : ℕ × ℕ). ports_from n p.0 (p.1 + 1) ++ ports_behind n w depth p.0) back_is
      ∙ ap (λ ps. ports_from n a (i + 1) ++ ps) (behind_same n v w depth a same)

  pub ahead_enter : ports_ahead n w (suc depth) b 0 ≡ port_range b 0 (n.arity b) ++ (ports_from n a (i + 1) ++ ports_behind n v depth a)
  ahead_enter = ap (λ (k : ℕ). port_range b 0 k ++ ports_behind n w (suc depth) b) (let z : n.arity b - 0 ≡ n.arity b = omega arith in z)
      ∙ ap (λ ps. port_range b 0 (n.arity b) ++ ps) behind_enter

  pub ahead_here : i < n.arity a → ports_ahead n v depth a i ≡ (a, i) ∷ (ports_from n a (i + 1) ++ ports_behind n v depth a)
  ahead_here l = ap (λ ps. ps ++ ports_behind n v depth a) (port_left n a i l)

  pub on_way_enter : (root : ℕ × ℕ) → i < n.arity a → j < n.arity b → (b ≡ root.0 → ⊥) → OnWay n v root depth a → OnWay n w root (suc depth) b
  on_way_enter root l m d o =
      subst (λ (k : ℕ). let p : ℕ × ℕ = or_zero (n.link b k) in
      (n.link b k ≡ Some p) × (k < n.arity b) × (p.1 < n.arity p.0) × (b ≡ root.0 → ⊥) × OnWay n w root depth p.0) (sym mark)
      (subst (λ (q : Option (ℕ × ℕ)). let p : ℕ × ℕ = or_zero q in
      (q ≡ Some p) × (j < n.arity b) × (p.1 < n.arity p.0) × (b ≡ root.0 → ⊥) × OnWay n w root depth p.0) (sym link)
      (refl, m, l, d, on_way_same n v w root depth a same o))

-- a mark tells the port of entry
pub entry_is : (k j : ℕ) → j < 256 → entry_port (512 + 256 * k + j) ≡ j
entry_is k j l = omega arith

number_is : (k j : ℕ) → j < 256 → (512 + 256 * k + j) / 256 ≡ 2 + k
number_is k j l = omega arith

pub numbered_snoc : (v w : ℕ → ℕ) (k b : ℕ) (xs : List ℕ) → Numbered v k xs → ((x : ℕ) → In x xs → w x ≡ v x) → w b / 256 ≡ k + length xs → Numbered w k (xs ++ b ∷ [])
numbered_snoc v w k b [] n h e = (omega (arith, e), tt)
numbered_snoc v w k b (x ∷ xs) n h e = (ap (λ (m : ℕ). m / 256) (h x (inl refl)) ∙ n.0, numbered_snoc v w (suc k) b xs n.1 (λ z i. h z (inr i)) (omega (arith, e)))

module _ (before : Heap) (root : ℕ × ℕ) (home : Option ℕ) where
  -- the root is marked
  pub spreading_first : (m : ℕ) → Sound before → CleanPart before root → root.1 < arity_of before root.0 → AtomFits before home root.0 → 512 ≤ m → m / 256 ≡ 2
      → Spreading before (marked before root.0 0 m) root home (root.0 ∷ []) 0 root.0 0 1
  spreading_first m sound clean port fit high two =
      let l : 0 < arity_of before root.0 = omega arith in
      record {
        marks = alter (λ _. 0) root.0 (λ _. m);
        is = ap (λ (s : Heap). marked s root.0 0 m) (sym (painted_none first_place before (λ _. 0) (λ a. refl))) ∙ painted_marked before (λ _. 0) root.0 m (omega arith);
        outside = λ x d. alter_away (λ _. 0) root.0 (λ _. m) x (λ e. d (inl (sym e)));
        on = λ x k. subst (λ (z : ℕ). 512 ≤ first_marks (marked before root.0 0 m) z) (only x k) (rw (mark_here before root.0 m (marks_there before root.0 sound l)) high);
        off = λ x p d. mark_away before root.0 m x (λ e. d (inl (sym e))) ∙ clean x p;
        clean = λ x k. subst (λ (z : ℕ). first_marks before z ≡ 0) (only x k) (clean root.0 at_root);
        ports = λ x k. subst (λ (z : ℕ). 0 < arity_of before z) (only x k) l;
        counted = refl;
        numbers = (ap (λ (v : ℕ). v / 256) (mark_here before root.0 m (marks_there before root.0 sound l)) ∙ two, tt);
        once = (tt, tt);
        fits = λ x k. subst (λ (z : ℕ). AtomFits before home z) (only x k) fit;
        reached = λ x k. subst (λ (z : ℕ). Reached (atom_map before) root z) (only x k) at_root;
        first = inl refl;
        here = omega arith;
        on_way = refl;
        way_seen = λ x k. k;
        deep = omega arith;
        joined = λ x k s l. inl (holds_left (x, k) (ports_from (net before) root.0 0) [] (subst (λ (z : ℕ). HasPort (z, k) (ports_from (net before) root.0 0)) (only x s)
            (holds_port root.0 0 (arity_of before root.0 - 0) k (omega arith) (let q : k < arity_of before root.0 = subst (λ (z : ℕ). k < arity_of before z) (sym (only x s)) l in omega (arith, q)))));
        walks = λ inside all h w. subst (λ (ps : List (ℕ × ℕ)). Walk (net before).arity (neighbour (net before) root inside) (root.0 ∷ []) ps all) start w;
      }
    where
      only : (x : ℕ) → In x (root.0 ∷ []) → root.0 ≡ x
      only x (inl e) = e
      only x (inr k) = absurd k

      no_more : (ps : List (ℕ × ℕ)) → ps ++ [] ≡ ps
      no_more [] = refl
      no_more (p ∷ ps) = ap (λ qs. p ∷ qs) (no_more ps)

      start : ports_from (net before) root.0 0 ++ [] ≡ port_range root.0 0 (arity_of before root.0)
      start = no_more (ports_from (net before) root.0 0) ∙ ap (λ (k : ℕ). port_range root.0 0 k) (let z : arity_of before root.0 - 0 ≡ arity_of before root.0 = omega arith in z)

  -- the walk goes on to the next port that has to be looked at
  pub spreading_on : (now : Heap) (seen : List ℕ) (depth a i deep b j count : ℕ) → Spreading before now root home seen depth a i count
      → Sought (net now) (first_marks now) root depth a i deep b j → j ≤ arity_of now b → Spreading before now root home seen deep b j count
  spreading_on now seen depth a i deep b j count t given l =
      let e : net now ≡ net before = ap net t.is ∙ net_painted before t.marks in
      let s : Sought (net before) (first_marks now) root depth a i deep b j = subst (λ (n : Net). Sought n (first_marks now) root depth a i deep b j) e given in
      let l' : j ≤ (net before).arity b = subst (λ (n : Net). j ≤ n.arity b) e l in
      record {
        marks = t.marks;
        is = t.is;
        outside = t.outside;
        on = t.on;
        off = t.off;
        clean = t.clean;
        ports = t.ports;
        counted = t.counted;
        numbers = t.numbers;
        once = t.once;
        fits = t.fits;
        reached = t.reached;
        first = t.first;
        here = l';
        on_way = s.on_way;
        way_seen = λ x k. t.way_seen x (s.within x k);
        deep = (let h = s.higher in let h' = t.deep in omega (arith, h, h'));
        joined = λ x k p q. elim (t.joined x k p q) [ inl m ↦ s.passed (x, k) m | inr m ↦ inr m ];
        walks = λ inside all h w. t.walks inside all h (s.walks inside seen all t.way_seen (λ c k x l i r e v. elim (in_or_not x seen) [ inl q ↦ q | inr d ↦ absurd (v (t.off x (across (t.reached c i) (not_root c k root r) e) d)) ]) w);
      }

  -- an atom is entered
  pub spreading_enter : (now : Heap) (seen : List ℕ) (depth a i b j count : ℕ) → Spreading before now root home seen depth a i count → Sound now
      → i < arity_of now a → link_of now a i ≡ Some (b, j) → link_of now b j ≡ Some (a, i) → j < arity_of now b → j < 256
      → is_port (a, i) root ≡ false → first_marks now b ≡ 0 → first_marks before b ≡ 0 → AtomFits before home b
      → Spreading before (marked now b 0 (512 + 256 * count + j)) root home (seen ++ b ∷ []) (depth + 1) b 0 (count + 1)
  spreading_enter now seen depth a i b j count t sound low given_link given_back given_port small other fresh was fit =
      let e : net now ≡ net before = ap net t.is ∙ net_painted before t.marks in
      let n : Net = net before in
      let v : ℕ → ℕ = first_marks now in
      let to : Heap = marked now b 0 (512 + 256 * count + j) in
      let w : ℕ → ℕ = first_marks to in
      let i_low : i < n.arity a = subst (λ (x : Net). i < x.arity a) e low in
      let link : n.link a i ≡ Some (b, j) = subst (λ (x : Net). x.link a i ≡ Some (b, j)) e given_link in
      let back_link : n.link b j ≡ Some (a, i) = subst (λ (x : Net). x.link b j ≡ Some (a, i)) e given_back in
      let j_low : j < n.arity b = subst (λ (x : Net). j < x.arity b) e given_port in
      let some_port : 0 < n.arity b = omega arith in
      let new : In b seen → ⊥ = λ k. let h = t.on b k in absurd (omega (arith, h, fresh)) in
      let here : w b ≡ 512 + 256 * count + j = mark_here now b (512 + 256 * count + j) (marks_there now b sound (omega arith)) in
      let away : (x : ℕ) → In x seen → w x ≡ v x = λ x k. mark_away now b (512 + 256 * count + j) x (λ same. new (subst (λ (z : ℕ). In z seen) same k)) in
      let same : (x : ℕ) → In x (way n v depth a) → w x ≡ v x = λ x k. away x (t.way_seen x k) in
      let mark : entry_port (w b) ≡ j = ap entry_port here ∙ entry_is count j small in
      let from_seen : In a seen = t.way_seen a (top_in n v depth a) in
      let next_ahead = ahead_enter n v w depth a i b j same mark back_link in
      let here_ahead = ahead_here n v w depth a i b j same mark back_link i_low in
      subst (λ (d : ℕ). Spreading before to root home (seen ++ b ∷ []) d b 0 (count + 1)) (sym (add-one depth)) (record {
        marks = alter t.marks b (λ _. 512 + 256 * count + j);
        is = ap (λ (s : Heap). marked s b 0 (512 + 256 * count + j)) t.is ∙ painted_marked before t.marks b (512 + 256 * count + j) (omega arith);
        outside = λ x d. alter_zero t.marks b (512 + 256 * count + j) x (λ s. d (subst (λ (z : ℕ). In z (seen ++ b ∷ [])) (sym s) (in_last b seen))) (t.outside x (λ k. d (in_left x seen (b ∷ []) k)));
        on = λ x k. elim (in_snoc x b seen k) [
          | inl old ↦ (let h = t.on x old in subst (λ (z : ℕ). 512 ≤ z) (sym (away x old)) h)
          | inr s ↦ subst (λ (z : ℕ). 512 ≤ w z) (sym s) (subst (λ (z : ℕ). 512 ≤ z) (sym here) (omega arith))
        ];
        off = λ x p d. mark_away now b (512 + 256 * count + j) x (λ s. d (subst (λ (z : ℕ). In z (seen ++ b ∷ [])) (sym s) (in_last b seen))) ∙ t.off x p (λ k. d (in_left x seen (b ∷ []) k));
        clean = λ x k. elim (in_snoc x b seen k) [ inl old ↦ t.clean x old | inr s ↦ subst (λ (z : ℕ). first_marks before z ≡ 0) (sym s) was ];
        ports = λ x k. elim (in_snoc x b seen k) [ inl old ↦ t.ports x old | inr s ↦ subst (λ (z : ℕ). 0 < arity_of before z) (sym s) some_port ];
        counted = (let c = t.counted in let h = length-append seen (b ∷ []) in omega (arith, c, h));
        numbers = numbered_snoc v w 2 b seen t.numbers away (ap (λ (m : ℕ). m / 256) here ∙ number_is count j small ∙ ap (λ (m : ℕ). 2 + m) (sym t.counted));
        once = distinct_snoc b seen t.once new;
        fits = λ x k. elim (in_snoc x b seen k) [ inl old ↦ t.fits x old | inr s ↦ subst (λ (z : ℕ). AtomFits before home z) (sym s) fit ];
        reached = λ x k. elim (in_snoc x b seen k) [
          | inl old ↦ t.reached x old
          | inr s ↦ subst (λ (z : ℕ). Reached (atom_map before) root z) (sym s) (across (t.reached a from_seen) (not_root a i root other) link)
        ];
        first = in_left root.0 seen (b ∷ []) t.first;
        here = omega arith;
        on_way = on_way_enter n v w depth a i b j same mark back_link root i_low j_low (λ s. new (subst (λ (z : ℕ). In z seen) (sym s) t.first)) t.on_way;
        way_seen = λ x k. by_way n seen b x (way n v depth a) (λ z m. t.way_seen z m) (subst (λ (xs : List ℕ). In x xs) (way_enter n v w depth a i b j same mark back_link) k);
        deep = (let h = t.deep in omega (arith, h));
        joined = λ x k s l. subst (λ (ps : List (ℕ × ℕ)). HasPort (x, k) ps ⊎ ((◌≡◌ {A = ℕ × ℕ} (x, k) root) ⊎ IsSome (link_of before x k))) (sym next_ahead)
            (elim (in_snoc x b seen s) [
              | inl old ↦ elim (t.joined x k old l) [
                | inl m ↦ elim (subst (HasPort (x, k)) here_ahead m) [
                  | inl p ↦ inr (inr (subst (λ (q : ℕ × ℕ). IsSome (link_of before q.0 q.1)) p (is_some (link_of before a i) (b, j) link)))
                  | inr q ↦ inl (holds_right (x, k) (port_range b 0 (n.arity b)) (ports_from n a (i + 1) ++ ports_behind n v depth a) q)
                ]
                | inr m ↦ inr m
              ]
              | inr p ↦ inl (holds_left (x, k) (port_range b 0 (n.arity b)) (ports_from n a (i + 1) ++ ports_behind n v depth a)
                  (subst (λ (z : ℕ). HasPort (z, k) (port_range b 0 (n.arity b))) (sym p) (holds_port b 0 (n.arity b) k (omega arith) (let q : k < n.arity b = subst (λ (z : ℕ). k < n.arity z) p l in omega (arith, q)))))
            ]);
        walks = λ inside all h walk. t.walks inside all (λ x k. h x (in_left x seen (b ∷ []) k))
            (subst (λ (ps : List (ℕ × ℕ)). Walk n.arity (neighbour n root inside) seen ps all) (sym here_ahead)
            (finds (next_to n root inside a i b j link other (h b (in_last b seen))) new
            (subst (λ (ps : List (ℕ × ℕ)). Walk n.arity (neighbour n root inside) (seen ++ b ∷ []) ps all) next_ahead walk)));
      })
    where
      by_way : (n : Net) (seen : List ℕ) (b x : ℕ) (xs : List ℕ) → ((z : ℕ) → In z xs → In z seen) → In x (b ∷ xs) → In x (seen ++ b ∷ [])
      by_way n seen b x xs h (inl e) = subst (λ (z : ℕ). In z (seen ++ b ∷ [])) e (in_last b seen)
      by_way n seen b x xs h (inr k) = in_left x seen (b ∷ []) (h x k)

      is_some : (o : Option (ℕ × ℕ)) (p : ℕ × ℕ) → o ≡ Some p → IsSome o
      is_some None p e = absurd (cc)
      is_some (Some q) p e = refl

  -- what was found so far is all that is found among itself
  pub spread_some : (now : Heap) (seen : List ℕ) (depth a i count : ℕ) → Spreading before now root home seen depth a i count → Spread before now root count false
  spread_some now seen depth a i count t = record {
    marks = t.marks;
    seen = seen;
    is = t.is;
    outside = t.outside;
    on = t.on;
    off = t.off;
    clean = t.clean;
    ports = t.ports;
    counted = t.counted;
    numbers = t.numbers;
    reached = t.reached;
    walked = t.walks (is_in seen) seen (λ x k. is_in_true x seen k)
        (all_seen _ _ seen (ports_ahead (net before) (first_marks now) depth a i) (λ p b h e. next_in (net before) root seen p b e));
    whole = λ e. absurd (cc);
  }

  -- at the end it is the whole part
  pub nothing_ahead : (n : Net) (v : ℕ → ℕ) (depth a i : ℕ) → depth ≡ 0 → i ≡ n.arity a → ports_ahead n v depth a i ≡ []
  nothing_ahead n v zero a i d e = ap (λ ps. ps ++ []) (no_port_left n a i e)
  nothing_ahead n v (suc depth) a i d e = absurd (omega arith)

  pub whole_part : (now : Heap) (seen : List ℕ) (depth a i count : ℕ) → (t : Spreading before now root home seen depth a i count) → depth ≡ 0 → i ≡ arity_of now a → IsPartInDepth before root seen
  whole_part now seen depth a i count t d given =
      let e : net now ≡ net before = ap net t.is ∙ net_painted before t.marks in
      let f : i ≡ (net before).arity a = subst (λ (n : Net). i ≡ n.arity a) e given in
      t.walks (λ _. true) seen (λ x k. refl)
      (subst (λ (ps : List (ℕ × ℕ)). Walk (net before).arity (neighbour (net before) root (λ _. true)) seen ps seen) (sym (nothing_ahead (net before) (first_marks now) depth a i d f)) ends)

  pub spread_all : (now : Heap) (seen : List ℕ) (depth a i count : ℕ) → Spreading before now root home seen depth a i count → depth ≡ 0 → i ≡ arity_of now a → Spread before now root count true
  unfolding spread_some
  spread_all now seen depth a i count t d f =
      let s = spread_some now seen depth a i count t in
      record {
        marks = s.marks;
        seen = s.seen;
        is = s.is;
        outside = s.outside;
        on = s.on;
        off = s.off;
        clean = s.clean;
        ports = s.ports;
        counted = s.counted;
        numbers = s.numbers;
        reached = s.reached;
        walked = s.walked;
        whole = λ _. whole_part now seen depth a i count t d f;
      }

  -- the atoms are those of the list, where it has room for them
  pub some_listed : {A : Type 0} (id : A → ℕ) (trail : List A) (now : Heap) (seen : List ℕ) (depth a i count : ℕ) → Spreading before now root home seen depth a i count
      → IsTrail id trail count seen → (t : Spread before now root count false) × IsTrail id trail count t.seen
  unfolding spread_some
  some_listed id trail now seen depth a i count t r = (spread_some now seen depth a i count t, r)

  pub all_listed : {A : Type 0} (id : A → ℕ) (trail : List A) (now : Heap) (seen : List ℕ) (depth a i count : ℕ) → Spreading before now root home seen depth a i count
      → depth ≡ 0 → i ≡ arity_of now a → IsTrail id trail count seen → (t : Spread before now root count true) × IsTrail id trail count t.seen
  unfolding spread_some spread_all
  all_listed id trail now seen depth a i count t d f r = (spread_all now seen depth a i count t d f, r)

-- the whole part is exactly what is reached
pub part_reached : (s : Heap) (root : ℕ × ℕ) (all : List ℕ) → IsPartInDepth s root all → (a : ℕ) → Reached (atom_map s) root a → In a all
part_reached s root all w a at_root = kept_seen _ _ w root.0 (inl refl)
part_reached s root all w b (across {a = a} {i = i} {j = j} r d e) =
    let l = link_inside s a i (b, j) e in
    by (closed (net s).arity (neighbour (net s) root (λ _. true)) w (start_covers (net s).arity (neighbour (net s) root (λ _. true)) root.0) a i b (part_reached s root all w a r) l (next_to (net s) root (λ _. true) a i b j e (is_other a i root d) refl))
  where
    by : In b all ⊎ HasPort (a, i) [] → In b all
    by (inl k) = k
    by (inr k) = absurd k

    is_other : (a i : ℕ) (root : ℕ × ℕ) → (◌≡◌ {A = ℕ × ℕ} (a, i) root → ⊥) → is_port (a, i) root ≡ false
    is_other a i root d = both (a == root.0) (i == root.1) refl refl
      where
        both : (s t : Bool) → (a == root.0) ≡ s → (i == root.1) ≡ t → (s && t) ≡ false
        both true true e f = absurd (d (let e' : a ≡ root.0 = eqb-true a root.0 e in let f' : i ≡ root.1 = eqb-true i root.1 f in λ k. (e' k, f' k)))
        both true false e f = refl
        both false t e f = refl

-- at the end of a walk the part is whole
pub part_fits : (before now : Heap) (root : ℕ × ℕ) (home : Option ℕ) (seen : List ℕ) (depth a i count : ℕ) → Spreading before now root home seen depth a i count → depth ≡ 0 → i ≡ arity_of now a → IsWhole before root home
part_fits before now root home seen depth a i count t d given =
    let part = whole_part before root home now seen depth a i count t d given in
    let e : net now ≡ net before = ap net t.is ∙ net_painted before t.marks in
    let f : i ≡ (net before).arity a = subst (λ (n : Net). i ≡ n.arity a) e given in
    let none = nothing_ahead before root home (net before) (first_marks now) depth a i d f in
    record {
      atoms = λ x r. t.fits x (part_reached before root seen part x r);
      ends = λ x k r l o. elim (t.joined x k (part_reached before root seen part x r) l) [
        | inl m ↦ absurd (subst (HasPort (x, k)) none m)
        | inr (inl same) ↦ absurd (o same)
        | inr (inr m) ↦ m
      ];
    }

-- the walk stops at an atom that doesn't fit, or at a port that isn't joined
pub unfit : (before now : Heap) (root : ℕ × ℕ) (home : Option ℕ) (seen : List ℕ) (depth a i b j count : ℕ) → Spreading before now root home seen depth a i count
    → link_of now a i ≡ Some (b, j) → is_port (a, i) root ≡ false → (AtomFits before home b → ⊥) → IsWhole before root home → ⊥
unfit before now root home seen depth a i b j count t given other bad f =
    let e : net now ≡ net before = ap net t.is ∙ net_painted before t.marks in
    let link : link_of before a i ≡ Some (b, j) = subst (λ (x : Net). x.link a i ≡ Some (b, j)) e given in
    bad (f.atoms b (across (t.reached a (t.way_seen a (top_in (net before) (first_marks now) depth a))) (not_root a i root other) link))

-- a port without a partner isn't met in a whole part
pub unjoined : (before now : Heap) (root : ℕ × ℕ) (home : Option ℕ) (seen : List ℕ) (depth a i count : ℕ) → Spreading before now root home seen depth a i count
    → link_of now a i ≡ None → i < arity_of now a → is_port (a, i) root ≡ false → IsWhole before root home → ⊥
unjoined before now root home seen depth a i count t given low other f =
    let e : net now ≡ net before = ap net t.is ∙ net_painted before t.marks in
    let none : link_of before a i ≡ None = subst (λ (x : Net). x.link a i ≡ None) e given in
    let l : i < arity_of before a = subst (λ (x : Net). i < x.arity a) e low in
    by (link_of before a i) none (f.ends a i (t.reached a (t.way_seen a (top_in (net before) (first_marks now) depth a))) l (not_root a i root other))
  where
    by : (o : Option (ℕ × ℕ)) → o ≡ None → IsSome o → ⊥
    by None e i = absurd (cc)
    by (Some x) e i = absurd (cc)

-- the way back, read on the heap as it stands
pub way_now : (before now : Heap) (root : ℕ × ℕ) (home : Option ℕ) (seen : List ℕ) (depth a i count : ℕ) → Spreading before now root home seen depth a i count → OnWay (net now) (first_marks now) root depth a
way_now before now root home seen depth a i count t =
    let e : net now ≡ net before = ap net t.is ∙ net_painted before t.marks in
    subst (λ (n : Net). OnWay n (first_marks now) root depth a) (sym e) t.on_way

-- an atom that fits in the marked heap fits in the heap
pub fits_before : (before now : Heap) (root : ℕ × ℕ) (home : Option ℕ) (seen : List ℕ) (depth a i b k count : ℕ) → Spreading before now root home seen depth a i count → k < arity_of now b
    → AtomFits now home b ↔ AtomFits before home b
fits_before before now root home seen depth a i b k count t given =
    let e : net now ≡ net before = ap net t.is ∙ net_painted before t.marks in
    let l : k < arity_of before b = subst (λ (x : Net). k < x.arity b) e given in (
      λ f. fits_painted before t.marks home b (omega arith) (subst (λ (s : Heap). AtomFits s home b) t.is f),
      λ f. subst (λ (s : Heap). AtomFits s home b) (sym t.is) (painted_fits before t.marks home b (omega arith) f),
    )

-- the partner of a port that is met is reached
pub reached_next : (before now : Heap) (root : ℕ × ℕ) (home : Option ℕ) (seen : List ℕ) (depth a i b j count : ℕ) → Spreading before now root home seen depth a i count
    → link_of now a i ≡ Some (b, j) → is_port (a, i) root ≡ false → Reached (atom_map before) root b
reached_next before now root home seen depth a i b j count t given other =
    let e : net now ≡ net before = ap net t.is ∙ net_painted before t.marks in
    let link : link_of before a i ≡ Some (b, j) = subst (λ (x : Net). x.link a i ≡ Some (b, j)) e given in
    across (t.reached a (t.way_seen a (top_in (net before) (first_marks now) depth a))) (not_root a i root other) link

-- a marked atom with ports is there
pub first_there : (s : Heap) (b k m : ℕ) → 0 < arity_of s b → IsAtom (marked s b k m) b
first_there s b k m l = with_port (marked s b k m) b (subst (λ (n : Net). 0 < n.arity b) (sym (net_marked s b k m)) l)

-- and one more
pub few_next : (before now : Heap) (root : ℕ × ℕ) (home : Option ℕ) (seen : List ℕ) (depth a i b count m : ℕ) → Spreading before now root home seen depth a i count → AtMost m now
    → IsAtom now b → first_marks now b ≡ 0 → count + 1 ≤ m
few_next before now root home seen depth a i b count m t f is fresh =
    let new : In b seen → ⊥ = λ k. let h = t.on b k in absurd (omega (arith, h, fresh)) in
    let h = not_longer (seen ++ b ∷ []) f.atoms (distinct_snoc b seen t.once new) (λ x k. elim (in_snoc x b seen k) [
      | inl old ↦ f.all_atoms x (subst (λ (s : Heap). IsAtom s x) (sym t.is) (is_painted before t.marks x (with_port before x (t.ports x old))))
      | inr s ↦ f.all_atoms x (subst (λ (z : ℕ). IsAtom now z) (sym s) is)
    ]) in
    let c = t.counted in
    let g = f.few in
    let l = length-append seen (b ∷ []) in
    omega (arith, h, c, g, l)

-- an atom with ports is there when another is marked
pub there_after : (now to : Heap) (b k m j : ℕ) → to ≡ marked now b k m → j < arity_of now b → IsAtom to b
there_after now to b k m j e l = subst (λ (s : Heap). IsAtom s b) (sym e) (first_there now b k m (omega arith))

-- a walk that enters an atom goes on from its first port
pub entered : (before now to : Heap) (root : ℕ × ℕ) (home : Option ℕ) (seen : List ℕ) (depth a i b j count : ℕ) → to ≡ marked now b 0 (512 + 256 * count + j) → Spreading before now root home seen depth a i count → Sound now → CleanPart before root
    → i < arity_of now a → link_of now a i ≡ Some (b, j) → link_of now b j ≡ Some (a, i) → j < arity_of now b → j < 256
    → is_port (a, i) root ≡ false → first_marks now b ≡ 0 → AtomFits now home b
    → Spreading before to root home (seen ++ b ∷ []) (depth + 1) b 0 (count + 1)
entered before now to root home seen depth a i b j count e t sound clean low link back port small other fresh fit =
    let f = (fits_before before now root home seen depth a i b j count t port).0 fit in
    let z = clean b (reached_next before now root home seen depth a i b j count t link other) in
    subst (λ (s : Heap). Spreading before s root home (seen ++ b ∷ []) (depth + 1) b 0 (count + 1)) (sym e)
    (spreading_enter before root home now seen depth a i b j count t sound low link back port small other fresh z f)

-- an atom with a port has it when another atom is marked
pub port_after : (now to : Heap) (b k m a i : ℕ) → to ≡ marked now b k m → i < arity_of now a → i < arity_of to a
port_after now to b k m a i e l = subst (λ (n : Net). i < n.arity a) (sym (ap net e ∙ net_marked now b k m)) l

-- and is there
pub there_beside : (now to : Heap) (b k m a i : ℕ) → to ≡ marked now b k m → i < arity_of now a → IsAtom to a
there_beside now to b k m a i e l = with_port to a (let h = port_after now to b k m a i e l in omega (arith, h))

-- from an atom that was entered the walk goes back to the port from which it was
pub entered_back : (now to : Heap) (a i b j count : ℕ) → to ≡ marked now b 0 (512 + 256 * count + j) → Sound now → link_of now b j ≡ Some (a, i) → j < arity_of now b → j < 256
    → back (net to) (first_marks to) b ≡ (a, i)
entered_back now to a i b j count e sound link port small =
    let here : first_marks to b ≡ 512 + 256 * count + j = ap (λ (s : Heap). first_marks s b) e ∙ mark_here now b (512 + 256 * count + j) (marks_there now b sound (omega (arith, port))) in
    ap (λ (n : Net). back n (first_marks to) b) (ap net e ∙ net_marked now b 0 (512 + 256 * count + j))
    ∙ ap (λ (k : ℕ). or_zero (link_of now b k)) (ap entry_port here ∙ entry_is count j small) ∙ ap or_zero link

-- an atom on the way is marked
pub way_marked : (before now : Heap) (root : ℕ × ℕ) (home : Option ℕ) (seen : List ℕ) (depth a i count : ℕ) → Spreading before now root home seen depth a i count → first_marks now a ≢ 0
way_marked before now root home seen depth a i count t z = let h = t.on a (t.way_seen a (top_in (net before) (first_marks now) depth a)) in absurd (omega (arith, h, z))

-- and is when another one is marked
pub way_stays : (now to : Heap) (a b k : ℕ) → to ≡ marked now b 0 k → first_marks now a ≢ 0 → first_marks now b ≡ 0 → first_marks to a ≢ 0
way_stays now to a b k e high fresh z =
    high (sym (mark_away now b k a (λ s. high (ap (first_marks now) s ∙ fresh))) ∙ sym (ap (λ (s : Heap). first_marks s a) e) ∙ z)

-- a reached atom has a port
pub reached_port : (s : Heap) (root : ℕ × ℕ) → Sound s → root.1 < arity_of s root.0 → (a : ℕ) → Reached (atom_map s) root a → 0 < arity_of s a
reached_port s root h l a at_root = omega arith
reached_port s root h l b (across {a = a} {i = i} {j = j} r d e) = let k = link_inside s b j (a, i) (h.paired.back a i b j e) in omega (arith, k)

-- where no port is marked the part is clean
pub clean_part : (s : Heap) (root : ℕ × ℕ) → Sound s → root.1 < arity_of s root.0 → PortsUnmarked s → CleanPart s root
clean_part s root h l c a r = c a 0 (reached_port s root h l a r)
