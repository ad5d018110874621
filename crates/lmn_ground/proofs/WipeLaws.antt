-- The second walk, which takes the marks back.
use Rattle.std.proofs.Common.{◌≡◌, ◌≢◌, ℕ, zero, suc, ◌+◌, ◌-◌, ◌*◌, ◌<◌, ◌≤◌, Bool, true, false, List, [], ◌∷◌, ◌++◌, length, Option, Some, None, refl, sym, ap, subst, ◌∙◌, inl, inr, arith, length-append, add-one}
use Rattle.std.proofs.lemmas.Bool.{cases_eq}
use Rattle.lmn_base.specs.Graphs.{Reached, across}
use Rattle.lmn_store_heap.specs.Graphs.{atom_map}
use Rattle.lmn_store_heap.specs.Heap.{Heap, Distinct, alter, marked, arity_of, link_of}
use Rattle.lmn_store_heap.specs.Sound.{Sound}
use Rattle.lmn_store_heap.proofs.ListLemmas.{in_left, each_in, each_of}
use Rattle.lmn_store_heap.proofs.Listing.{alter_at}
use Rattle.lmn_ground.specs.Marks.{first_place, first_marks, entry_port, or_zero, back, way, ports_behind, ports_ahead, OnWay}
use Rattle.lmn_ground.specs.Spread.{Spread, Wiping}
use Rattle.lmn_ground_parts.proofs.WalkLaws.{in_last, determined, kept_seen, longer, past, found}
use Rattle.lmn_ground.proofs.SoughtLaws.{top_in, port_left, no_port_left, next_root, next_none, next_link, weight, weight_back, weight_past, length-ports}
use Rattle.lmn_ground.proofs.PaintLaws.{net_painted, painted_marked, painted_cleared, way_same, behind_same, on_way_same, mark_here, mark_away, net_marked}
use Rattle.lmn_ground.proofs.PaintedAt.{painted_none}
use Rattle.lmn_ground.proofs.SpreadLaws.{not_root, next_in, next_to, marks_there, alter_zero, way_enter, ahead_enter, ahead_here, on_way_enter, behind_enter}
use Rattle.lmn_ground_parts.specs.Walks.{port_range, neighbour, Net, net, ports_from, is_port, is_in, Walk, ends}
use Rattle.lmn_ground.proofs.FollowLaws.{to_none}
use Rattle.lmn_store_heap.proofs.Common.{decide_in as in_or_not}
use Rattle.lmn_base.specs.Lists.{In}
use Rattle.lmn_base.proofs.Lists.{in_snoc}
use Rattle.lmn_ground_parts.proofs.AnswerLaws.{is_in_true}

-- a mark that is wiped still tells the port of entry
pub entry_wiped : (j : ℕ) → j < 256 → entry_port (256 + j) ≡ j
entry_wiped j l = omega arith

module _ (before : Heap) (root : ℕ × ℕ) where
  pub wiping_first : (start now : Heap) (count : ℕ) (all : Bool) → (t : Spread before start root count all) → Sound start → root.1 < arity_of start root.0 → root.1 < 256
      → now ≡ marked start root.0 0 (256 + root.1) → Wiping before now root t.seen (root.0 ∷ []) 0 root.0 0 (count - 1)
  wiping_first start now count all t sound port small e =
      let f : net start ≡ net before = ap net t.is ∙ net_painted before t.marks in
      let l : root.1 < arity_of before root.0 = subst (λ (n : Net). root.1 < n.arity root.0) f port in
      let here : first_marks now root.0 ≡ 256 + root.1 = ap (λ (s : Heap). first_marks s root.0) e ∙ mark_here start root.0 (256 + root.1) (marks_there start root.0 sound (omega (arith, port))) in
      let away : (x : ℕ) → x ≢ root.0 → first_marks now x ≡ first_marks start x = λ x d. ap (λ (s : Heap). first_marks s x) e ∙ mark_away start root.0 (256 + root.1) x d in
      let root_seen : In root.0 t.seen = kept_seen _ _ t.walked root.0 (inl refl) in
      record {
        marks = alter t.marks root.0 (λ _. 256 + root.1);
        is = e ∙ ap (λ (s : Heap). marked s root.0 0 (256 + root.1)) t.is ∙ painted_marked before t.marks root.0 (256 + root.1) (omega arith);
        clean = t.clean;
        ports = t.ports;
        reached = t.reached;
        outside = λ x d. alter_zero t.marks root.0 (256 + root.1) x (λ s. d (subst (λ (z : ℕ). In z t.seen) (sym s) root_seen)) (t.outside x d);
        wiped = λ x k d. absurd (d k);
        high = λ x k d. subst (λ (z : ℕ). 512 ≤ z) (sym (away x (λ s. d (inl (sym s))))) (t.on x k);
        low = λ x k. by x k here;
        off = λ x p d. let z = away x (λ s. d (subst (λ (y : ℕ). In y t.seen) (sym s) root_seen)) ∙ t.off x p d in omega (arith, z);
        here = omega arith;
        on_way = refl;
        once = (tt, tt);
        way_met = λ x k. k;
        first = inl refl;
        rest = subst (λ (ps : List (ℕ × ℕ)). Walk (net before).arity (neighbour (net before) root (is_in t.seen)) (root.0 ∷ []) ps t.seen) (sym begin) t.walked;
        few = (let h = longer _ _ t.walked in let c = t.counted in omega (arith, h, c));
        deep = omega arith;
      }
    where
      by : (x : ℕ) → In x (root.0 ∷ []) → first_marks now root.0 ≡ 256 + root.1 → first_marks now x < 512
      by x (inl s) h = subst (λ (z : ℕ). first_marks now z < 512) s (omega (arith, h, small))
      by x (inr k) h = absurd k

      begin : ports_from (net before) root.0 0 ++ [] ≡ port_range root.0 0 (arity_of before root.0)
      begin = to_none (ports_from (net before) root.0 0) ∙ ap (λ (k : ℕ). port_range root.0 0 k) (let z : arity_of before root.0 - 0 ≡ arity_of before root.0 = omega arith in z)

  module _ (now : Heap) (seen met : List ℕ) (depth a i left : ℕ) (t : Wiping before now root seen met depth a i left) where
    -- what a port of the walk leads to is reached
    pub b_reached : {b j : ℕ} → (net before).link a i ≡ Some (b, j) → is_port (a, i) root ≡ false → Reached (atom_map before) root b
    b_reached link other = across (t.reached a (kept_seen (net before).arity (neighbour (net before) root (is_in seen)) t.rest a (t.way_met a (top_in (net before) (first_marks now) depth a)))) (not_root a i root other) link

    -- past a port behind which nothing is to be wiped
    pub wiping_past : i < arity_of now a → ((b j : ℕ) → link_of now a i ≡ Some (b, j) → is_port (a, i) root ≡ false → first_marks now b < 512) → Wiping before now root seen met depth a (i + 1) left
    wiping_past low given =
        let e : net now ≡ net before = ap net t.is ∙ net_painted before t.marks in
        let l : i < (net before).arity a = subst (λ (n : Net). i < n.arity a) e low in
        let h : (b j : ℕ) → (net before).link a i ≡ Some (b, j) → is_port (a, i) root ≡ false → first_marks now b < 512 =
        subst (λ (n : Net). (b j : ℕ) → n.link a i ≡ Some (b, j) → is_port (a, i) root ≡ false → first_marks now b < 512) e given in
        record {
          marks = t.marks;
          is = t.is;
          clean = t.clean;
          ports = t.ports;
          reached = t.reached;
          outside = t.outside;
          wiped = t.wiped;
          high = t.high;
          low = t.low;
          off = t.off;
          here = omega (arith, l);
          on_way = t.on_way;
          once = t.once;
          way_met = t.way_met;
          first = t.first;
          rest = past _ _ (subst (λ (ps : List (ℕ × ℕ)). Walk (net before).arity (neighbour (net before) root (is_in seen)) met ps seen)
              (ap (λ ps. ps ++ ports_behind (net before) (first_marks now) depth a) (port_split l)) t.rest)
              (λ b k. met_or (is_port (a, i) root) refl (net_link a i) refl b k h);
          few = t.few;
          deep = t.deep;
        }
      where
        net_link : ℕ → ℕ → Option (ℕ × ℕ)
        net_link x k = (net before).link x k

        port_split : i < (net before).arity a → ports_from (net before) a i ≡ (a, i) ∷ ports_from (net before) a (i + 1)
        port_split l = port_left (net before) a i l

        met_or : (r : Bool) → is_port (a, i) root ≡ r → (o : Option (ℕ × ℕ)) → (net before).link a i ≡ o → (b : ℕ) → neighbour (net before) root (is_in seen) (a, i) ≡ Some b
            → ((b j : ℕ) → (net before).link a i ≡ Some (b, j) → is_port (a, i) root ≡ false → first_marks now b < 512) → In b met
        met_or true r o f b k h = let z = next_root (net before) root (is_in seen) (a, i) r in absurd (cc)
        met_or false r None f b k h = let z = next_none (net before) root (is_in seen) a i f in absurd (cc)
        met_or false r (Some q) f b k h = elim (in_or_not b met) [
          | inl m ↦ m
          | inr d ↦
              let s : q.0 ≡ b = next_link (net before) root (is_in seen) a i q.0 b q.1 f k in
              let low' = subst (λ (z : ℕ). first_marks now z < 512) s (h q.0 q.1 f r) in
              let high' = t.high b (next_in (net before) root seen (a, i) b k) d in
              absurd (omega (arith, low', high'))
        ]

    -- an atom is entered
    pub wiping_enter : (to : Heap) (b j : ℕ) → to ≡ marked now b 0 (256 + j) → Sound now → i < arity_of now a → link_of now a i ≡ Some (b, j) → link_of now b j ≡ Some (a, i)
        → j < arity_of now b → j < 256 → is_port (a, i) root ≡ false → 512 ≤ first_marks now b → Wiping before to root seen (met ++ b ∷ []) (depth + 1) b 0 (left - 1)
    wiping_enter to b j made sound low given_link given_back given_port small other marked_high =
        let e : net now ≡ net before = ap net t.is ∙ net_painted before t.marks in
        let n : Net = net before in
        let v : ℕ → ℕ = first_marks now in
        let w : ℕ → ℕ = first_marks to in
        let i_low : i < n.arity a = subst (λ (x : Net). i < x.arity a) e low in
        let link : n.link a i ≡ Some (b, j) = subst (λ (x : Net). x.link a i ≡ Some (b, j)) e given_link in
        let back_link : n.link b j ≡ Some (a, i) = subst (λ (x : Net). x.link b j ≡ Some (a, i)) e given_back in
        let j_low : j < n.arity b = subst (λ (x : Net). j < x.arity b) e given_port in
        let some_port : 0 < n.arity b = omega arith in
        let new : In b met → ⊥ = λ k. let h = t.low b k in absurd (omega (arith, h, marked_high)) in
        let b_seen : In b seen = elim (in_or_not b seen) [ inl k ↦ k | inr d ↦ (let h = t.off b (b_reached link other) d in absurd (omega (arith, h, marked_high))) ] in
        let here : w b ≡ 256 + j = ap (λ (s : Heap). first_marks s b) made ∙ mark_here now b (256 + j) (marks_there now b sound (omega (arith, given_port))) in
        let away : (x : ℕ) → x ≢ b → w x ≡ v x = λ x d. ap (λ (s : Heap). first_marks s x) made ∙ mark_away now b (256 + j) x d in
        let old_away : (x : ℕ) → In x met → x ≢ b = λ x k s. new (subst (λ (z : ℕ). In z met) s k) in
        let same : (x : ℕ) → In x (way n v depth a) → w x ≡ v x = λ x k. away x (old_away x (t.way_met x k)) in
        let mark : entry_port (w b) ≡ j = ap entry_port here ∙ entry_wiped j small in
        let the_way = way_enter n v w depth a i b j same mark back_link in
        let next_ahead = ahead_enter n v w depth a i b j same mark back_link in
        let here_ahead = ahead_here n v w depth a i b j same mark back_link i_low in
        let walked = found n.arity (neighbour n root (is_in seen)) (subst (λ (ps : List (ℕ × ℕ)). Walk n.arity (neighbour n root (is_in seen)) met ps seen) here_ahead t.rest) b
        (next_to n root (is_in seen) a i b j link other (is_in_true b seen b_seen)) new in
        let grown = length-append met (b ∷ []) in
        let most = longer n.arity (neighbour n root (is_in seen)) walked in
        subst (λ (d : ℕ). Wiping before to root seen (met ++ b ∷ []) d b 0 (left - 1)) (sym (add-one depth)) (record {
          marks = alter t.marks b (λ _. 256 + j);
          is = made ∙ ap (λ (s : Heap). marked s b 0 (256 + j)) t.is ∙ painted_marked before t.marks b (256 + j) (omega arith);
          clean = t.clean;
          ports = t.ports;
          reached = t.reached;
          outside = λ x d. alter_zero t.marks b (256 + j) x (λ s. d (subst (λ (z : ℕ). In z seen) (sym s) b_seen)) (t.outside x d);
          wiped = λ x k d. elim (in_snoc x b met k) [
            | inl old ↦ alter_zero t.marks b (256 + j) x (old_away x old) (t.wiped x old (λ m. d (subst (In x) (sym the_way) (inr m))))
            | inr s ↦ absurd (d (subst (In x) (sym the_way) (inl (sym s))))
          ];
          high = λ x k d. subst (λ (z : ℕ). 512 ≤ z) (sym (away x (λ s. d (subst (λ (z : ℕ). In z (met ++ b ∷ [])) (sym s) (in_last b met))))) (t.high x k (λ m. d (in_left x met (b ∷ []) m)));
          low = λ x k. elim (in_snoc x b met k) [
            | inl old ↦ subst (λ (z : ℕ). z < 512) (sym (away x (old_away x old))) (t.low x old)
            | inr s ↦ subst (λ (z : ℕ). w z < 512) (sym s) (subst (λ (z : ℕ). z < 512) (sym here) (omega (arith, small)))
          ];
          off = λ x p d. subst (λ (z : ℕ). z < 512) (sym (away x (λ s. d (subst (λ (z : ℕ). In z seen) (sym s) b_seen)))) (t.off x p d);
          here = omega arith;
          on_way = on_way_enter n v w depth a i b j same mark back_link root i_low j_low (λ s. new (subst (λ (z : ℕ). In z met) (sym s) t.first)) t.on_way;
          once = subst Distinct (sym the_way) (each_of (λ (x : ℕ). b ≢ x) (way n v depth a) (λ x k s. old_away x (t.way_met x k) (sym s)), t.once);
          way_met = λ x k. way_met_after b x (way n v depth a) (λ z m. t.way_met z m) (subst (In x) the_way k);
          first = in_left root.0 met (b ∷ []) t.first;
          rest = subst (λ (ps : List (ℕ × ℕ)). Walk n.arity (neighbour n root (is_in seen)) (met ++ b ∷ []) ps seen) (sym next_ahead) walked;
          few = (let f = t.few in omega (arith, grown, most, f));
          deep = (let f = t.deep in omega (arith, grown, f));
        })
      where
        way_met_after : (b x : ℕ) (xs : List ℕ) → ((z : ℕ) → In z xs → In z met) → In x (b ∷ xs) → In x (met ++ b ∷ [])
        way_met_after b x xs h (inl s) = subst (λ (z : ℕ). In z (met ++ b ∷ [])) s (in_last b met)
        way_met_after b x xs h (inr k) = in_left x met (b ∷ []) (h x k)

    -- some atom is left where one is entered
    pub some_left : (b j : ℕ) → i < arity_of now a → link_of now a i ≡ Some (b, j) → j < arity_of now b → is_port (a, i) root ≡ false → 512 ≤ first_marks now b → 1 ≤ left
    some_left b j low given_link given_port other marked_high =
        let e : net now ≡ net before = ap net t.is ∙ net_painted before t.marks in
        let n : Net = net before in
        let i_low : i < n.arity a = subst (λ (x : Net). i < x.arity a) e low in
        let link : n.link a i ≡ Some (b, j) = subst (λ (x : Net). x.link a i ≡ Some (b, j)) e given_link in
        let j_low : j < n.arity b = subst (λ (x : Net). j < x.arity b) e given_port in
        let new : In b met → ⊥ = λ k. let h = t.low b k in absurd (omega (arith, h, marked_high)) in
        let b_seen : In b seen = elim (in_or_not b seen) [ inl k ↦ k | inr d ↦ (let h = t.off b (b_reached link other) d in absurd (omega (arith, h, marked_high))) ] in
        let here_ahead : ports_ahead n (first_marks now) depth a i ≡ (a, i) ∷ (ports_from n a (i + 1) ++ ports_behind n (first_marks now) depth a) = ap (λ ps. ps ++ ports_behind n (first_marks now) depth a) (port_left n a i i_low) in
        let walked = found n.arity (neighbour n root (is_in seen)) (subst (λ (ps : List (ℕ × ℕ)). Walk n.arity (neighbour n root (is_in seen)) met ps seen) here_ahead t.rest) b
        (next_to n root (is_in seen) a i b j link other (is_in_true b seen b_seen)) new in
        let grown = length-append met (b ∷ []) in
        let most = longer n.arity (neighbour n root (is_in seen)) walked in
        let f = t.few in
        omega (arith, grown, most, f)

    -- back from an atom, whose mark is taken back
    pub wiping_leave : (to : Heap) (d : ℕ) → to ≡ marked now a 0 0 → Sound now → depth ≡ d + 1 → i ≡ arity_of now a
        → Wiping before to root seen met d (back (net now) (first_marks now) a).0 ((back (net now) (first_marks now) a).1 + 1) left
    wiping_leave to d made sound depth_is full =
        let e : net now ≡ net before = ap net t.is ∙ net_painted before t.marks in
        subst (λ (n : Net). Wiping before to root seen met d (back n (first_marks now) a).0 ((back n (first_marks now) a).1 + 1) left) (sym e)
        (by (subst (λ (z : ℕ). Wiping before now root seen met z a i left) (depth_is ∙ add-one d) t) (subst (λ (n : Net). i ≡ n.arity a) e full))
      where
        n : Net
        n = net before

        by : Wiping before now root seen met (suc d) a i left → i ≡ (net before).arity a
            → Wiping before to root seen met d (back (net before) (first_marks now) a).0 ((back (net before) (first_marks now) a).1 + 1) left
        by u end =
            let v : ℕ → ℕ = first_marks now in
            let w : ℕ → ℕ = first_marks to in
            let p : ℕ × ℕ = back (net before) v a in
            let a_met : In a met = u.way_met a (inl refl) in
            let a_seen : In a seen = kept_seen (net before).arity (neighbour (net before) root (is_in seen)) u.rest a a_met in
            let some : 0 < arity_of now a = subst (λ (x : Net). 0 < x.arity a) (sym (ap net u.is ∙ net_painted before u.marks)) (u.ports a a_seen) in
            let here : w a ≡ 0 = ap (λ (s : Heap). first_marks s a) made ∙ mark_here now a 0 (marks_there now a sound some) in
            let away : (x : ℕ) → x ≢ a → w x ≡ v x = λ x d. ap (λ (s : Heap). first_marks s x) made ∙ mark_away now a 0 x d in
            let apart : (x : ℕ) → In x (way (net before) v d p.0) → x ≢ a = λ x k s. each_in (λ (z : ℕ). a ≢ z) (way (net before) v d p.0) x u.once.0 k (sym s) in
            let same : (x : ℕ) → In x (way (net before) v d p.0) → w x ≡ v x = λ x k. away x (apart x k) in
            let the_way = way_same (net before) v w d p.0 same in
            let less = u.deep in
            record {
              marks = alter u.marks a (λ _. 0);
              is = made ∙ ap (λ (s : Heap). marked s a 0 0) u.is ∙ painted_cleared before u.marks a (u.clean a a_seen);
              clean = u.clean;
              ports = u.ports;
              reached = u.reached;
              outside = λ x k. alter_zero u.marks a 0 x (λ s. k (subst (λ (z : ℕ). In z seen) (sym s) a_seen)) (u.outside x k);
              wiped = λ x k out. elim (cases_eq x a) [
                | inl s ↦ subst (λ (z : ℕ). alter u.marks a (λ _. 0) z ≡ 0) (sym s) (alter_at u.marks a (λ _. 0))
                | inr s ↦ alter_zero u.marks a 0 x s (u.wiped x k (λ m. not_both x m s (λ r. out (subst (In x) (sym the_way) r))))
              ];
              high = λ x k out. subst (λ (z : ℕ). 512 ≤ z) (sym (away x (λ s. out (subst (λ (z : ℕ). In z met) (sym s) a_met)))) (u.high x k out);
              low = λ x k. elim (cases_eq x a) [
                | inl s ↦ subst (λ (z : ℕ). w z < 512) (sym s) (subst (λ (z : ℕ). z < 512) (sym here) (omega arith))
                | inr s ↦ subst (λ (z : ℕ). z < 512) (sym (away x s)) (u.low x k)
              ];
              off = λ x q out. subst (λ (z : ℕ). z < 512) (sym (away x (λ s. out (subst (λ (z : ℕ). In z seen) (sym s) a_seen)))) (u.off x q out);
              here = (let h = u.on_way.2 in omega (arith, h));
              on_way = on_way_same (net before) v w root d p.0 same u.on_way.4;
              once = subst Distinct (sym the_way) u.once.1;
              way_met = λ x k. u.way_met x (inr (subst (In x) the_way k));
              first = u.first;
              rest = subst (λ (ps : List (ℕ × ℕ)). Walk (net before).arity (neighbour (net before) root (is_in seen)) met (ports_from (net before) p.0 (p.1 + 1) ++ ps) seen) (sym (behind_same (net before) v w d p.0 same))
                  (subst (λ (ps : List (ℕ × ℕ)). Walk (net before).arity (neighbour (net before) root (is_in seen)) met (ps ++ ports_behind (net before) v (suc d) a) seen) (no_port_left (net before) a i end) u.rest);
              few = u.few;
              deep = omega (arith, less);
            }
          where
            not_both : (x : ℕ) → In x (way (net before) (first_marks now) (suc d) a) → (x ≡ a → ⊥) → (In x (way (net before) (first_marks now) d (back (net before) (first_marks now) a).0) → ⊥) → ⊥
            not_both x (inl s) k r = k (sym s)
            not_both x (inr m) k r = r m

    -- at the end every mark is as it was
    pub wiping_last : (to : Heap) → to ≡ marked now a 0 0 → depth ≡ 0 → i ≡ arity_of now a → to ≡ before
    wiping_last to made zero_deep full =
        let e : net now ≡ net before = ap net t.is ∙ net_painted before t.marks in
        by (subst (λ (z : ℕ). Wiping before now root seen met z a i left) zero_deep t) (subst (λ (n : Net). i ≡ n.arity a) e full)
      where
        by : Wiping before now root seen met 0 a i left → i ≡ (net before).arity a → to ≡ before
        by u end =
            let all_met : met ≡ seen = determined (net before).arity (neighbour (net before) root (is_in seen)) ends
            (subst (λ (ps : List (ℕ × ℕ)). Walk (net before).arity (neighbour (net before) root (is_in seen)) met (ps ++ []) seen) (no_port_left (net before) a i end) u.rest) in
            let a_seen : In a seen = subst (In a) all_met (u.way_met a (inl refl)) in
            made ∙ ap (λ (s : Heap). marked s a 0 0) u.is ∙ painted_cleared before u.marks a (u.clean a a_seen)
            ∙ painted_none first_place before (alter u.marks a (λ _. 0)) (λ x. elim (cases_eq x a) [
              | inl s ↦ subst (λ (z : ℕ). alter u.marks a (λ _. 0) z ≡ 0) (sym s) (alter_at u.marks a (λ _. 0))
              | inr s ↦ alter_zero u.marks a 0 x s (elim (in_or_not x seen) [
                | inl k ↦ u.wiped x (subst (In x) (sym all_met) k) (λ m. only x m s)
                | inr k ↦ u.outside x k
              ])
            ])
          where
            only : (x : ℕ) → In x (a ∷ []) → (x ≡ a → ⊥) → ⊥
            only x (inl q) k = k (sym q)
            only x (inr q) k = q

    pub wipe_way : OnWay (net now) (first_marks now) root depth a
    wipe_way = subst (λ (n : Net). OnWay n (first_marks now) root depth a) (sym (ap net t.is ∙ net_painted before t.marks)) t.on_way

    pub wipe_here : i ≤ arity_of now a
    wipe_here = subst (λ (n : Net). i ≤ n.arity a) (sym (ap net t.is ∙ net_painted before t.marks)) t.here

    pub wipe_deep : depth + 1 ≤ length seen
    wipe_deep = let f = t.few in let d = t.deep in omega (arith, f, d)

    pub lighter_leave : (to : Heap) (d : ℕ) → to ≡ marked now a 0 0 → depth ≡ d + 1
        → weight (net to) (first_marks to) d (back (net now) (first_marks now) a).0 ((back (net now) (first_marks now) a).1 + 1) < weight (net now) (first_marks now) depth a i
    lighter_leave to d made depth_is =
        subst (λ (x : Net). weight x (first_marks to) d (back (net now) (first_marks now) a).0 ((back (net now) (first_marks now) a).1 + 1) < weight (net now) (first_marks now) depth a i)
        (sym (ap net made ∙ net_marked now a 0 0))
        (by (subst (λ (z : ℕ). Distinct (way (net before) (first_marks now) z a)) (depth_is ∙ add-one d) t.once) (ap net t.is ∙ net_painted before t.marks))
      where
        by : Distinct (way (net before) (first_marks now) (suc d) a) → net now ≡ net before
            → weight (net now) (first_marks to) d (back (net now) (first_marks now) a).0 ((back (net now) (first_marks now) a).1 + 1) < weight (net now) (first_marks now) depth a i
        by given e =
            let n : Net = net now in
            let v : ℕ → ℕ = first_marks now in
            let w : ℕ → ℕ = first_marks to in
            let o : Distinct (way n v (suc d) a) = subst (λ (x : Net). Distinct (way x v (suc d) a)) (sym e) given in
            let same : (x : ℕ) → In x (way n v d (back n v a).0) → w x ≡ v x = λ x k. ap (λ (s : Heap). first_marks s x) made
            ∙ mark_away now a 0 x (λ s. each_in (λ (z : ℕ). a ≢ z) (way n v d (back n v a).0) x o.0 k (sym s)) in
            let l = ap length (behind_same n v w d (back n v a).0 same) in
            let b = weight_back n v depth d a i (depth_is ∙ add-one d) in
            omega (arith, l, b)

    pub lighter_enter : (to : Heap) (b j : ℕ) → to ≡ marked now b 0 (256 + j) → Sound now → i < arity_of now a → link_of now b j ≡ Some (a, i) → j < arity_of now b → j < 256 → arity_of now b < 256 → 1 ≤ left → 512 ≤ first_marks now b
        → (left - 1) * 256 + weight (net to) (first_marks to) (depth + 1) b 0 < left * 256 + weight (net now) (first_marks now) depth a i
    lighter_enter to b j made sound low link port small few_ports some marked_high =
        subst (λ (x : Net). (left - 1) * 256 + weight x (first_marks to) (depth + 1) b 0 < left * 256 + weight (net now) (first_marks now) depth a i) (sym (ap net made ∙ net_marked now b 0 (256 + j)))
        (subst (λ (z : ℕ). (left - 1) * 256 + weight (net now) (first_marks to) z b 0 < left * 256 + weight (net now) (first_marks now) depth a i) (sym (add-one depth)) (by (ap net t.is ∙ net_painted before t.marks)))
      where
        by : net now ≡ net before → (left - 1) * 256 + weight (net now) (first_marks to) (suc depth) b 0 < left * 256 + weight (net now) (first_marks now) depth a i
        by e =
            let n : Net = net now in
            let v : ℕ → ℕ = first_marks now in
            let w : ℕ → ℕ = first_marks to in
            let new : In b met → ⊥ = λ k. let h = t.low b k in absurd (omega (arith, h, marked_high)) in
            let here : w b ≡ 256 + j = ap (λ (s : Heap). first_marks s b) made ∙ mark_here now b (256 + j) (marks_there now b sound (omega (arith, port))) in
            let same : (x : ℕ) → In x (way n v depth a) → w x ≡ v x = λ x k. ap (λ (s : Heap). first_marks s x) made
            ∙ mark_away now b (256 + j) x (λ s. new (subst (λ (z : ℕ). In z met) s (t.way_met x (subst (λ (y : Net). In x (way y v depth a)) e k)))) in
            let mark : entry_port (w b) ≡ j = ap entry_port here ∙ entry_wiped j small in
            let l = ap length (behind_enter n v w depth a i b j same mark link) in
            let m = length-append (ports_from n a (i + 1)) (ports_behind n v depth a) in
            let k = length-ports a (i + 1) (n.arity a - (i + 1)) in
            omega (arith, l, m, k, low, few_ports, some)

-- a walk has counted the root
pub some_count : (before start : Heap) (root : ℕ × ℕ) (count : ℕ) (all : Bool) → Spread before start root count all → 1 ≤ count
some_count before start root count all t = let h = longer _ _ t.walked in let c = t.counted in omega (arith, h, c)

-- of two marks with one number the one with the higher port is higher
pub heavier : (k m n : ℕ) → m < n → k * 256 + m < k * 256 + n
heavier k m n h = omega (arith, h)

module _ (before now : Heap) (root : ℕ × ℕ) (seen met : List ℕ) (depth a i left : ℕ) (to : Heap) (d b j : ℕ)
    (number : b ≡ (back (net now) (first_marks now) a).0) (port : j ≡ (back (net now) (first_marks now) a).1 + 1) (made : to ≡ marked now a 0 0) (depth_is : depth ≡ d + 1) where
  pub left_to : Wiping before now root seen met depth a i left → Sound now → i ≡ arity_of now a → Wiping before to root seen met d b j left
  left_to t sound full =
      subst (λ (x : ℕ). Wiping before to root seen met d x j left) (sym number)
      (subst (λ (x : ℕ). Wiping before to root seen met d (back (net now) (first_marks now) a).0 x left) (sym port) (wiping_leave before root now seen met depth a i left t to d made sound depth_is full))

  pub left_lighter : Wiping before now root seen met depth a i left → left * 256 + weight (net to) (first_marks to) d b j < left * 256 + weight (net now) (first_marks now) depth a i
  left_lighter t =
      subst (λ (x : ℕ). left * 256 + weight (net to) (first_marks to) d x j < left * 256 + weight (net now) (first_marks now) depth a i) (sym number)
      (subst (λ (x : ℕ). left * 256 + weight (net to) (first_marks to) d (back (net now) (first_marks now) a).0 x < left * 256 + weight (net now) (first_marks now) depth a i) (sym port)
      (heavier left _ _ (lighter_leave before root now seen met depth a i left t to d made depth_is)))

-- from an atom that was entered anew the walk goes back to the port from which it was
pub wiped_back : (now to : Heap) (a i b j : ℕ) → to ≡ marked now b 0 (256 + j) → Sound now → link_of now b j ≡ Some (a, i) → j < arity_of now b → j < 256 → back (net to) (first_marks to) b ≡ (a, i)
wiped_back now to a i b j e sound link port small =
    let here : first_marks to b ≡ 256 + j = ap (λ (s : Heap). first_marks s b) e ∙ mark_here now b (256 + j) (marks_there now b sound (omega (arith, port))) in
    ap (λ (n : Net). back n (first_marks to) b) (ap net e ∙ net_marked now b 0 (256 + j))
    ∙ ap (λ (k : ℕ). or_zero (link_of now b k)) (ap entry_port here ∙ entry_wiped j small) ∙ ap or_zero link

-- An atom with one port is left when it is entered.
module _ (before now to : Heap) (root : ℕ × ℕ) (seen met : List ℕ) (deep depth b a i left : ℕ) (t : Wiping before now root seen met deep b 0 left) (sound : Sound now) (made : to ≡ marked now b 0 0)
    (one : arity_of now b ≡ 1) (is : back (net now) (first_marks now) b ≡ (a, i)) (depth_is : deep ≡ depth + 1) where
  leaf_past : Wiping before now root seen met deep b 1 left
  leaf_past = wiping_past before root now seen met deep b 0 left t (subst (λ (k : ℕ). 0 < k) (sym one) (omega arith)) low
    where
      at_first : (k : ℕ) (p : ℕ × ℕ) → k < 1 → link_of now b k ≡ Some p → link_of now b 0 ≡ Some p
      at_first zero p l f = f
      at_first (suc k) p l f = absurd (omega (arith, l))

      below : Wiping before now root seen met (suc depth) b 0 left → first_marks now (back (net now) (first_marks now) b).0 < 512
      below u = u.low (back (net now) (first_marks now) b).0
          (subst (λ (n : Net). In (back n (first_marks now) b).0 met) (sym (ap net u.is ∙ net_painted before u.marks))
          (u.way_met (back (net before) (first_marks now) b).0 (inr (top_in (net before) (first_marks now) depth (back (net before) (first_marks now) b).0))))

      low : (x y : ℕ) → link_of now b 0 ≡ Some (x, y) → is_port (b, 0) root ≡ false → first_marks now x < 512
      low x y e o =
          let w : OnWay (net now) (first_marks now) root (suc depth) b = subst (λ (z : ℕ). OnWay (net now) (first_marks now) root z b) (depth_is ∙ add-one depth) (wipe_way before root now seen met deep b 0 left t) in
          let link = at_first (entry_port (first_marks now b)) (back (net now) (first_marks now) b) (subst (λ (z : ℕ). entry_port (first_marks now b) < z) one w.1) w.0 in
          let same : (back (net now) (first_marks now) b).0 ≡ x = ap (λ (q : Option (ℕ × ℕ)). (or_zero q).0) (sym link ∙ e) in
          subst (λ (z : ℕ). first_marks now z < 512) same (below (subst (λ (z : ℕ). Wiping before now root seen met z b 0 left) (depth_is ∙ add-one depth) t))

  pub leaf_left : Wiping before to root seen met depth a (i + 1) left
  leaf_left = left_to before now root seen met deep b 1 left to depth a (i + 1) (sym (ap (λ (p : ℕ × ℕ). p.0) is)) (ap (λ (p : ℕ × ℕ). p.1 + 1) (sym is)) made depth_is leaf_past sound (sym one)

  pub leaf_lighter : weight (net to) (first_marks to) depth a (i + 1) ≤ weight (net now) (first_marks now) deep b 0
  leaf_lighter =
      let l = left_lighter before now root seen met deep b 1 left to depth a (i + 1) (sym (ap (λ (p : ℕ × ℕ). p.0) is)) (ap (λ (p : ℕ × ℕ). p.1 + 1) (sym is)) made depth_is leaf_past in
      let w = weight_past (net now) (first_marks now) deep b 0 (subst (λ (k : ℕ). 0 < k) (sym one) (omega arith)) in
      omega (arith, l, w)
