-- Where an accepted rule embeds, each link of its raw process has two places, where the copies have links from any number on that is
-- above the links of the region and of what stands beside it.
use Rattle.std.proofs.Common.{ℕ, List, sym, subst, inl, inr, arith, ◌≡◌, ◌+◌, ◌≤◌, ◌<◌, ◌⊎◌, [], ◌∙◌}
use Rattle.lmn_congruence.specs.LinkedRules.{level_occurrences}
use Rattle.lmn_congruence.specs.Process.{Closed, Linked, Process, nothing, occurrences, pair, renamed, together}
use Rattle.lmn_congruence.specs.Regions.{Region, region_process}
use Rattle.lmn_congruence.specs.Rules.{Leaf, Levels, Rule, body_of, guard_of, head_of, level, no_rule}
use Rattle.lmn_congruence.specs.UpToOrder.{Reordered, r_beside, r_chain, r_regroup, r_swap, r_unit}
use Rattle.lmn_reduction.specs.Assignments.{Assignment}
use Rattle.lmn_reduction.specs.Firing.{typed_contexts}
use Rattle.lmn_reduction.specs.Guards.{GuardHolds}
use Rattle.lmn_congruence.proofs.LinkMaps.{closed_linked}
use Rattle.lmn_congruence.proofs.Renaming.{occurrences_image, occurrences_none}
use Rattle.lmn_congruence.proofs.Reordered.{r_right, reordered_count}
use Rattle.lmn_adequacy.specs.Accepted.{Accepted, all_contexts, open_names}
use Rattle.lmn_adequacy.specs.Loose.{Plain}
use Rattle.lmn_adequacy.proofs.Accepting.{accepted_head}
use Rattle.lmn_adequacy.proofs.Bodies.{Copied, context_places, context_places_shuffle, LevelMade}
use Rattle.lmn_adequacy.proofs.Heads.{HeadLevel}
use Rattle.lmn_adequacy.proofs.Images.{image_at_least}
use Rattle.lmn_adequacy.proofs.LiteralHeads.{HeadInstance, head_instance}
use Rattle.lmn_adequacy.proofs.RawProcesses.{head_wires, made}
use Rattle.lmn_adequacy.proofs.Skeleton.{LevelSkeleton, Parity, even, odd, parity, place}
use Rattle.lmn_adequacy.proofs.Wires.{at_most_two, even_less, even_zero_or_two, places_enough, same_parity, wires_exact, zero_or_two_even}
use Rattle.lmn_congruence_splice.specs.Splice.{of_rule, of_solid}
use Rattle.lmn_congruence_splice.proofs.Fusions.{apart_rule as even_not_odd, solid_once as odd_differs}
use Rattle.lmn_adequacy.proofs.Closing.{even_closed, odd_level}

-- ---- the raw process

-- q places in the image of the head, n in the head, w at connectors, b in the body, c of which contexts have
odd_closed : (L N q n w c b k o h i j : ℕ) → (d : Copied N k L c b) → n ≡ c + (h + h) → n + w ≤ q → q + (i + i) ≡ (n + w) + (j + j)
    → (q + o ≡ 0) ⊎ (q + o ≡ 2) → (N ≤ L → q + o ≡ 0) → (b + (w + o) ≡ 0) ⊎ (b + (w + o) ≡ 2)
odd_closed L N q n w c b k o h i j d e f g m a =
    let s = zero_or_two_even (q + o) m in
    let v = even_less (c + (w + o)) (h + j) (s.0 + i) (omega (arith, e, g, s.1)) in
    let u = even_zero_or_two (c + (w + o)) v.0 (omega (arith, e, f, at_most_two (q + o) m)) v.1 in
    go d.whole u
  where
    go : (d.copies ≡ 0) ⊎ ((d.copies ≡ 2) × (N ≤ L) × (L < k)) → (c + (w + o) ≡ 0) ⊎ (c + (w + o) ≡ 2) → (b + (w + o) ≡ 0) ⊎ (b + (w + o) ≡ 2)
    go (inl z) u = subst (λ x. (x ≡ 0) ⊎ (x ≡ 2)) (omega (arith, d.is, z)) u
    go (inr z) u = inr (omega (arith, d.is, z.0, e, f, a z.1))

module _ (r : Rule) (a : Accepted r) (t : Assignment) (p : Plain t) (g : GuardHolds (typed_contexts (head_of r)) t (guard_of r)) (leaves : List Leaf) (membranes : Levels)
    (is : head_of r ≡ level leaves membranes [] [] no_rule) (m rest : Region) (u : LevelSkeleton t p leaves membranes m rest) (O : Process) (closed : Closed (pair (region_process m) O))
    (N : ℕ) (above : (L : ℕ) → N ≤ L → occurrences L (pair (region_process m) O) ≡ 0) where
  abbrev head : Process
  head = pair (together u.first) (pair (together u.second) (pair nothing (pair nothing nothing)))

  head_order : Reordered (pair (renamed (place t p) head) (region_process rest)) (region_process m)
  head_order = r_chain (r_beside (r_chain r_regroup (r_chain (r_right (r_chain r_unit r_unit)) (r_chain r_swap r_unit)))) u.order

  head_linked : Linked head
  head_linked =
      let l : Linked (pair (region_process m) O) = closed_linked closed in
      record { at_most_twice = λ z. omega (arith, image_at_least (place t p) z head, reordered_count head_order (place t p z), l.at_most_twice (place t p z)) }

  head_here : HeadInstance (made t) (level leaves membranes [] [] no_rule) head
  head_here = head_instance u.leaf_instances u.membrane_instances

  head_ground : HeadLevel t (level leaves membranes [] [] no_rule)
  head_ground = subst (HeadLevel t) is ((accepted_head r a).1 t g)

  head_count : (x : ℕ) → occurrences (of_rule x) head ≡ level_occurrences x (head_of r)
  head_count x = subst (λ k. occurrences (of_rule x) head ≡ level_occurrences x k) (sym is) (omega (arith, u.count x))

  module _ (made_body : LevelMade t p (body_of r) N) (bound : ℕ) (bounded : (x : ℕ) → bound ≤ x → level_occurrences x (head_of r) ≡ 0) where
    abbrev B : Process
    B = made_body.process

    abbrev W : Process
    W = head_wires t (head_of r) bound

    abbrev raw : Process
    raw = pair made_body.process (pair (head_wires t (head_of r) bound) (renamed of_solid (region_process rest)))

    not_solid : (x : ℕ) (P : Process) → occurrences (of_rule x) (renamed of_solid P) ≡ 0
    not_solid x P = occurrences_none of_solid (of_rule x) P (λ y o q. even_not_odd x y (sym q))

    solid_count : (L : ℕ) (P : Process) → occurrences (of_solid L) (renamed of_solid P) ≡ occurrences L P
    solid_count L P = occurrences_image of_solid L P (λ z o e. odd_differs z L e)

    even_links : (x : ℕ) → (occurrences (of_rule x) (pair raw (renamed of_solid O)) ≡ 0) ⊎ (occurrences (of_rule x) (pair raw (renamed of_solid O)) ≡ 2)
    even_links x = subst (λ k. (k ≡ 0) ⊎ (k ≡ 2)) (omega (arith, made_body.count x, wires_exact t (head_of r) bound bounded x, not_solid x (region_process rest), not_solid x O)) (even_closed (level_occurrences x (head_of r)) (level_occurrences x (body_of r)) (a.linked x))

    odd_links : (L : ℕ) → (occurrences (of_solid L) (pair raw (renamed of_solid O)) ≡ 0) ⊎ (occurrences (of_solid L) (pair raw (renamed of_solid O)) ≡ 2)
    odd_links L =
        let c = context_places t p L (open_names (all_contexts (body_of r))) in
        let q = occurrences L (renamed (place t p) head) in
        let o = occurrences L (region_process rest) + occurrences L O in
        let e = odd_level t p L head_here head_ground head_linked in
        let k : context_places t p L (open_names (all_contexts (level leaves membranes [] [] no_rule))) ≡ c = subst (λ l. context_places t p L (open_names (all_contexts l)) ≡ c) is (context_places_shuffle t p L a.kept) in
        let s = same_parity t (head_of r) bound bounded p head head_count head_linked L in
        let w = places_enough t (head_of r) bound bounded p head head_count head_linked L in
        let d : q + occurrences L (region_process rest) ≡ occurrences L (region_process m) = reordered_count head_order L in
        let i : q + o ≡ occurrences L (pair (region_process m) O) = omega (arith, d) in
        let j = odd_closed L N q (occurrences (of_solid L) head) (occurrences (of_solid L) W) c (occurrences (of_solid L) B) made_body.next o e.half s.0 s.1 (made_body.odd L)
        (omega (arith, e.is, k)) w s.2 (subst (λ n. (n ≡ 0) ⊎ (n ≡ 2)) (sym i) (closed L)) (λ b. i ∙ above L b) in
        subst (λ n. (n ≡ 0) ⊎ (n ≡ 2)) (omega (arith, solid_count L (region_process rest), solid_count L O)) j

    pub raw_closes_above : Closed (pair raw (renamed of_solid O))
    raw_closes_above z = go (parity z)
      where
        go : Parity z → (occurrences z (pair raw (renamed of_solid O)) ≡ 0) ⊎ (occurrences z (pair raw (renamed of_solid O)) ≡ 2)
        go (even x e) = subst (λ k. (occurrences k (pair raw (renamed of_solid O)) ≡ 0) ⊎ (occurrences k (pair raw (renamed of_solid O)) ≡ 2)) (sym e) (even_links x)
        go (odd x e) = subst (λ k. (occurrences k (pair raw (renamed of_solid O)) ≡ 0) ⊎ (occurrences k (pair raw (renamed of_solid O)) ≡ 2)) (sym e) (odd_links x)
