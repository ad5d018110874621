-- Two parts in step: what each step of the comparison needs.
use Rattle.std.proofs.Common.{◌≡◌, ℕ, suc, ◌+◌, ◌-◌, ◌*◌, ◌/◌, ◌%◌, ◌<◌, ◌≤◌, true, false, List, length, Option, Some, None, sym, ap, subst, ◌∙◌, arith, length-append, add-one, ◌≢◌}
use Rattle.lmn_base.specs.Graphs.{SameGraph}
use Rattle.lmn_store_heap.specs.Heap.{Heap, IsAtom, marked, arity_of, link_of}
use Rattle.lmn_store_heap.specs.Sound.{Sound}
use Rattle.lmn_store_heap.specs.Graphs.{atom_map}
use Rattle.lmn_ground_parts.specs.Walks.{Net, net, ports_from, is_port}
use Rattle.lmn_ground.specs.Marks.{first_marks, entry_port, or_zero, back, way, ports_behind}
use Rattle.lmn_ground.specs.Spread.{Spread, Spreading}
use Rattle.lmn_ground.specs.Follow.{Two, Following}
use Rattle.lmn_ground.proofs.SoughtLaws.{weight, weight_back, length-ports, root_port, other_port}
use Rattle.lmn_ground.proofs.PaintLaws.{net_painted, mark_here, mark_away, net_marked, painted_is, is_painted}
use Rattle.lmn_ground.proofs.SpreadLaws.{marks_there, entry_is, behind_enter, spread_some}
use Rattle.lmn_ground.proofs.WipeLaws.{heavier}
use Rattle.lmn_ground.proofs.FollowLaws.{follow_back, follow_arity, follow_way, follow_here, entry_low, entry_apart, both_none, number_differs, back_seen}
use Rattle.lmn_base.specs.Lists.{In}

-- going back makes the weight smaller
pub back_lighter : (n : Net) (v : ℕ → ℕ) (m depth d a i p k e : ℕ) → e ≡ v a → depth ≡ d + 1 → n.link a (e % 256) ≡ Some (p, k)
    → m * 256 + weight n v d p (k + 1) < m * 256 + weight n v depth a i
back_lighter n v m depth d a i p k e h deep link =
    let is : ◌≡◌ {A = ℕ × ℕ} (back n v a) (p, k) = ap or_zero (subst (λ (z : ℕ). n.link a (z % 256) ≡ Some (p, k)) h link) in
    heavier m _ _ (subst (λ (r : ℕ × ℕ). weight n v d r.0 (r.1 + 1) < weight n v depth a i) is (weight_back n v depth d a i (deep ∙ add-one d)))

-- entering an atom makes the number of free atoms smaller
pub enter_lighter : (s now to : Heap) (x : ℕ × ℕ) (home : Option ℕ) (seen : List ℕ) (depth a i b j count m : ℕ) → to ≡ marked now b 0 (512 + 256 * count + j) → Spreading s now x home seen depth a i count
    → Sound now → i < arity_of now a → link_of now b j ≡ Some (a, i) → j < arity_of now b → j < 256 → arity_of now b < 256 → first_marks now b ≡ 0 → count + 1 ≤ m
    → (m - (count + 1)) * 256 + weight (net to) (first_marks to) (depth + 1) b 0 < (m - count) * 256 + weight (net now) (first_marks now) depth a i
enter_lighter s now to x home seen depth a i b j count m made t sound low link port small few_ports fresh few =
    subst (λ (n : Net). (m - (count + 1)) * 256 + weight n (first_marks to) (depth + 1) b 0 < (m - count) * 256 + weight (net now) (first_marks now) depth a i) (sym (ap net made ∙ net_marked now b 0 (512 + 256 * count + j)))
    (subst (λ (z : ℕ). (m - (count + 1)) * 256 + weight (net now) (first_marks to) z b 0 < (m - count) * 256 + weight (net now) (first_marks now) depth a i) (sym (add-one depth)) (by (ap net t.is ∙ net_painted s t.marks)))
  where
    by : net now ≡ net s → (m - (count + 1)) * 256 + weight (net now) (first_marks to) (suc depth) b 0 < (m - count) * 256 + weight (net now) (first_marks now) depth a i
    by e =
        let n : Net = net now in
        let v : ℕ → ℕ = first_marks now in
        let w : ℕ → ℕ = first_marks to in
        let new : In b seen → ⊥ = λ k. let h = t.on b k in absurd (omega (arith, h, fresh)) in
        let here : w b ≡ 512 + 256 * count + j = ap (λ (h : Heap). first_marks h b) made ∙ mark_here now b (512 + 256 * count + j) (marks_there now b sound (omega (arith, port))) in
        let same : (z : ℕ) → In z (way n v depth a) → w z ≡ v z = λ z k. ap (λ (h : Heap). first_marks h z) made
        ∙ mark_away now b (512 + 256 * count + j) z (λ f. new (subst (λ (y : ℕ). In y seen) f (t.way_seen z (subst (λ (y : Net). In z (way y v depth a)) e k)))) in
        let mark : entry_port (w b) ≡ j = ap entry_port here ∙ entry_is count j small in
        let l = ap length (behind_enter n v w depth a i b j same mark link) in
        let p = length-append (ports_from n a (i + 1)) (ports_behind n v depth a) in
        let k = length-ports a (i + 1) (n.arity a - (i + 1)) in
        omega (arith, l, p, k, low, few_ports, few)

-- an atom stays one while others are marked
pub still_there : (s now to : Heap) (x y : ℕ × ℕ) (xs ys seen seen' : List ℕ) (depth a c i count depth' a' c' i' count' z : ℕ) → Following s now x y xs ys seen depth a c i count
    → Following s to x y xs ys seen' depth' a' c' i' count' → IsAtom now z → IsAtom to z
still_there s now to x y xs ys seen seen' depth a c i count depth' a' c' i' count' z w u is =
    subst (λ (h : Heap). IsAtom h z) (sym u.walk.is) (is_painted s u.walk.marks z (painted_is s w.walk.marks z (subst (λ (h : Heap). IsAtom h z) w.walk.is is)))

-- atoms stay while two parts are compared
pub there_first : (s to : Heap) (x y : ℕ × ℕ) (xs ys seen : List ℕ) (depth a c i count z : ℕ) → Following s to x y xs ys seen depth a c i count → IsAtom s z → IsAtom to z
there_first s to x y xs ys seen depth a c i count z u is = subst (λ (h : Heap). IsAtom h z) (sym u.walk.is) (is_painted s u.walk.marks z is)

module _ (s now : Heap) (x y : ℕ × ℕ) (xs ys seen : List ℕ) (depth a c i count : ℕ) (two : Two s x y xs ys) (w : Following s now x y xs ys seen depth a c i count) where
  pub compare_some : Spread s now x count false
  compare_some = spread_some s x (None) now seen depth a i count w.walk

  pub end_here : arity_of now c ≡ arity_of now a
  end_here = follow_arity s x y xs ys two now seen depth a c i count w

  pub port_here : i ≤ arity_of now a
  port_here = follow_here s x y xs ys two now seen depth a c i count w

  pub at_root : depth ≡ 0 → i ≡ x.1 → is_port (a, i) x ≡ true
  at_root e p = root_port (net now) (first_marks now) x depth a i (follow_way s x y xs ys two now seen depth a c i count w) e p

  pub not_at_root : ((depth ≡ 0) × (i ≡ x.1) → ⊥) → is_port (a, i) x ≡ false
  not_at_root d = other_port (net now) (first_marks now) x depth a i (follow_way s x y xs ys two now seen depth a c i count w) d

  module _ (e : ℕ) (mark : e ≡ first_marks now a) (deep : 0 < depth) where
    pub entry_here : e % 256 < arity_of now a
    entry_here = subst (λ (z : ℕ). z % 256 < arity_of now a) (sym mark) (entry_low s x y xs ys two now seen depth a c i count w deep)

    pub entry_end : e % 256 < arity_of now c
    entry_end = subst (λ (n : ℕ). e % 256 < n) (sym end_here) entry_here

    apart : ◌≢◌ {A = ℕ × ℕ} (a, e % 256) x
    apart = subst (λ (z : ℕ). ◌≢◌ {A = ℕ × ℕ} (a, z % 256) x) (sym mark) (entry_apart s x y xs ys two now seen depth a c i count w deep)

    pub back_on : (d p k q : ℕ) → depth ≡ d + 1 → i ≡ arity_of now a → link_of now a (e % 256) ≡ Some (p, k) → link_of now c (e % 256) ≡ Some (q, k)
        → k < arity_of now p → first_marks now p / 256 ≡ first_marks now q / 256 → Following s now x y xs ys seen d p q (k + 1) count
    back_on d p k q h full link end low same = follow_back s x y xs ys two now seen depth a c i count w d p k q h full
        (subst (λ (z : ℕ). link_of now a (z % 256) ≡ Some (p, k)) mark link) (subst (λ (z : ℕ). link_of now c (z % 256) ≡ Some (q, k)) mark end) low same

    pub back_differs : (p k q : ℕ) → link_of now a (e % 256) ≡ Some (p, k) → link_of now c (e % 256) ≡ Some (q, k)
        → (first_marks now p / 256 ≡ first_marks now q / 256 → ⊥) → SameGraph (atom_map s) x (atom_map s) y → ⊥
    back_differs p k q link end h g = number_differs s x y xs ys two now seen depth a c i count w (e % 256) p k q apart link end
        (back_seen s x y xs ys two now seen depth a c i count w p k deep (subst (λ (z : ℕ). link_of now a (z % 256) ≡ Some (p, k)) mark link)) h g

    pub back_none : ((b j d : ℕ) → link_of now a (e % 256) ≡ Some (b, j) → link_of now c (e % 256) ≡ Some (d, j) → ⊥) → SameGraph (atom_map s) x (atom_map s) y → ⊥
    back_none h g = both_none s x y xs ys two now seen depth a c i count w (e % 256) entry_here apart h g
