-- From where a head lies in a region to a step.
use Rattle.std.proofs.Common.{ℕ, zero, suc, cond, eqb, ltb, Bool, true, false, List, map, refl, sym, ap, subst, inl, inr, arith, ◌≡◌, ◌≢◌, ◌+◌, ◌≤◌, ◌<◌, ◌⊎◌, [], ◌∷◌, ◌∙◌, ◌-◌}
use Rattle.lmn_congruence.specs.Congruence.{Congruent, back, chain, same}
use Rattle.lmn_congruence.specs.FreeLinks.{link_bound, one_if_once, sum_below}
use Rattle.lmn_congruence.specs.Fused.{Joins, NoConnector, fused}
use Rattle.lmn_congruence.specs.LinkedRules.{level_occurrences}
use Rattle.lmn_congruence.specs.Orders.{Put, here, there}
use Rattle.lmn_congruence.specs.Process.{Closed, Linked, Process, nothing, occurrences, pair, renamed, rule, together}
use Rattle.lmn_congruence.specs.Regions.{Region, Regions, SolidAtom, region, region_process}
use Rattle.lmn_congruence.specs.Rules.{Leaf, Levels, Rule, body_of, closed_context, guard_of, head_of, level, no_rule, open_context}
use Rattle.lmn_congruence.specs.UpToOrder.{Reordered, r_back, r_beside, r_chain, r_regroup, r_same, r_swap, r_unit}
use Rattle.lmn_reduction.specs.Assignments.{Assignment, Proper}
use Rattle.lmn_reduction.specs.Firing.{Fires, fires, typed_contexts}
use Rattle.lmn_reduction.specs.Guards.{GuardHolds}
use Rattle.lmn_reduction.specs.Instances.{Instance}
use Rattle.lmn_reduction.specs.Steps.{Step, beside as derived_beside, leaf, up_to}
use Rattle.lmn_congruence.proofs.Carried.{fused_agree}
use Rattle.lmn_congruence.proofs.Counts.{Alike, linked_both, same_free}
use Rattle.lmn_congruence.proofs.Crossings.{occurrences_above, occurs_below}
use Rattle.lmn_congruence.proofs.LinkMaps.{joins_plain}
use Rattle.lmn_reduction.proofs.Merges.{row}
use Rattle.lmn_reduction.proofs.Redexes.{moved_assignment, moved_guard, moved_instance, moved_proper, no_rule_renamed}
use Rattle.lmn_congruence.proofs.Renaming.{occurrences_image, occurrences_none}
use Rattle.lmn_congruence.proofs.Reordered.{r_right, reordered_congruent, reordered_count}
use Rattle.lmn_congruence.proofs.Solids.{put_together, region_plain}
use Rattle.lmn_congruence.proofs.Totals.{highest}
use Rattle.lmn_adequacy.specs.Loose.{Plain}
use Rattle.lmn_adequacy.proofs.Embedding.{same_guard}
use Rattle.lmn_adequacy.proofs.Ends.{AllMembranes}
use Rattle.lmn_adequacy.proofs.Exposing.{KeepsCounts, exposed_congruent, kept_ends, low_count, low_not_in_head, low_or_new, new_wires, row_count, wires}
use Rattle.lmn_adequacy.proofs.Images.{fused_renamed, image_at_least, joins_renamed, reordered_fused, row_vanishes}
use Rattle.lmn_adequacy.proofs.LiteralHeads.{as_instance, closed_image, head_instance}
use Rattle.lmn_adequacy.proofs.Orders.{r_over}
use Rattle.lmn_adequacy.proofs.RawProcesses.{head_wires, made}
use Rattle.lmn_adequacy.proofs.Skeleton.{LevelSkeleton, Parity, even, odd, parity, place, place_rule, place_solid}
use Rattle.lmn_adequacy.proofs.Wires.{at_most_two, even_less, once_below, same_parity, wires_exact, wires_join, wires_vanish, zero_or_two_even}
use Rattle.lmn_congruence_splice.specs.Splice.{of_rule, of_solid}
use Rattle.lmn_congruence_splice.proofs.Fusions.{apart_rule as even_not_odd, rule_once as even_differs, solid_once as odd_differs}

made_proper : (t : Assignment) → Plain t → Proper (made t)
made_proper t p = record {
  links_differ = even_differs;
  no_rule = λ q. no_rule_renamed of_solid odd_differs (t.context_of q) (p.no_rule q);
  links_apart = λ q x f. zero_not_one (sym (occurrences_none of_solid (of_rule x) (t.context_of (open_context q)) (λ y o e. even_not_odd x y (sym e))) ∙ f);
  closed = λ q. closed_image of_solid (t.context_of (closed_context q)) (λ x y o o' e. odd_differs x y e) (p.closed q);
  root_is_free = p.root_is_free;
}
  where
    zero_not_one : ¬ (◌≡◌ {A = ℕ} 0 1)
    zero_not_one = omega arith

-- a rule steps out of its region
pub rule_out : (xs : List SolidAtom) (ms : Regions) {r : Rule} {rs rs' : List Rule} → Put r rs' rs → Reordered (region_process (region xs ms rs)) (pair (rule r) (region_process (region xs ms rs')))
rule_out xs ms p = r_chain (r_right (r_chain (r_right (r_back (put_together (put_rule p)))) r_over)) r_over
  where
    put_rule : {r : Rule} {rs rs' : List Rule} → Put r rs' rs → Put (rule r) (map rule rs') (map rule rs)
    put_rule here = here
    put_rule (there k) = there (put_rule k)

add_differs : (K x y : ℕ) → x + K ≡ y + K → x ≡ y
add_differs K x y e = omega (arith, e)

-- ---- what the firing makes, read as the raw process

-- the link of the raw process, for a link of what the firing makes
abbrev pub raw_link : ℕ → ℕ → ℕ
raw_link K z = cond (ltb z K) (of_solid z) (z - K)

-- a new link is told from its number above the bound
pub raw_new : (K x : ℕ) → raw_link K (x + K) ≡ x
raw_new K x = go (x + K) (of_solid (x + K)) (x + K - K) (omega arith) ∙ omega arith
  where
    go : (z m n : ℕ) → K ≤ z → cond (ltb z K) m n ≡ n
    go z m n b = grind arith

-- and one below the bound is of the solid
pub raw_low : (K z : ℕ) → z < K → raw_link K z ≡ of_solid z
raw_low K z b = go (of_solid z) (z - K) b
  where
    go : (m n : ℕ) → z < K → cond (ltb z K) m n ≡ m
    go m n b = grind arith

-- a process of the solid's own links
pub kept_fused : (v : ℕ → ℕ) (K : ℕ) (P : Process) → link_bound P ≤ K → fused (λ z. v (raw_link K z)) P ≡ fused v (renamed of_solid P)
kept_fused v K P b = fused_agree (λ z. v (raw_link K z)) (λ z. v (of_solid z)) P (λ x o. ap v (raw_low K x (omega (arith, occurs_below P x o, b)))) ∙ sym (fused_renamed v of_solid P)

-- ---- a rule beside an instance of its head

module _ (t : Assignment) (p : Plain t) (r : Rule) (leaves : List Leaf) (membranes : Levels) (bare : head_of r ≡ level leaves membranes [] [] no_rule) (guard : GuardHolds (typed_contexts (head_of r)) t (guard_of r))
    (m : Region) (xs : List SolidAtom) (ms : Regions) (rs rs' : List Rule) (u : LevelSkeleton t p leaves membranes m (region xs ms rs)) (stands : Put r rs' rs) (l : Linked (region_process m)) (above : ℕ) where
  abbrev pub none_left : Process
  none_left = pair nothing (pair nothing nothing)

  abbrev pub head : Process
  head = pair (together u.first) (pair (together u.second) none_left)

  abbrev pub left : Process
  left = region_process (region xs ms rs)

  abbrev pub left_out : Process
  left_out = region_process (region xs ms rs')

  abbrev pub at : ℕ → ℕ
  at = place t p

  -- a number above all links
  abbrev pub K : ℕ
  K = above + (link_bound left + sum_below (link_bound head) (λ y. suc (at y)))

  pub head_order : Reordered (pair (renamed at head) left) (region_process m)
  head_order = r_chain (r_beside (r_chain r_regroup (r_chain (r_right (r_chain r_unit r_unit)) (r_chain r_swap r_unit)))) u.order

  pub placed_linked : Linked (pair (renamed at head) left)
  placed_linked = record { at_most_twice = λ z. subst (λ k. k ≤ 2) (sym (reordered_count head_order z)) (l.at_most_twice z) }

  pub head_linked : Linked head
  head_linked = record { at_most_twice = λ z. omega (arith, image_at_least at z head, placed_linked.at_most_twice (at z)) }

  pub head_plain : NoConnector head
  head_plain = (u.plain.0, (u.plain.1, (tt, (tt, tt))))

  head_kept : AllMembranes (KeepsCounts at) head
  head_kept = (u.kept.0, (u.kept.1, (tt, (tt, tt))))

  pub rest_plain : NoConnector left
  rest_plain = region_plain (region xs ms rs)

  pub high : link_bound left ≤ K
  high = omega arith

  pub low : (y : ℕ) → y < link_bound head → at y < K
  low y b = omega (arith, highest (link_bound head) at y b)

  abbrev pub connectors : Process
  connectors = row (wires head at K (link_bound head))

  exposes : Congruent (pair (renamed (λ x. x + K) head) (pair connectors left)) (region_process m)
  exposes = exposed_congruent head left at K head_plain rest_plain head_linked high low (region_process m) l (kept_ends head left at K head_plain rest_plain head_linked high low head head_plain head_kept) head_order

  pub ready_order : Reordered (pair (renamed (λ x. x + K) head) (pair connectors left)) (pair (pair (renamed (λ x. x + K) head) (rule r)) (pair connectors left_out))
  ready_order = r_chain (r_right (r_chain (r_right (rule_out xs ms stands)) r_over)) r_regroup

  abbrev pub after : Process → Process
  after B = pair (pair (renamed (λ x. x + K) B) (rule r)) (pair connectors left_out)

  fires_here : (B : Process) → Instance (made t) (body_of r) B → Fires r (renamed (λ x. x + K) head) (renamed (λ x. x + K) B)
  fires_here B i = record {
    matches = record {
      assignment = moved_assignment (λ x. x + K) (add_differs K) (made t);
      proper = moved_proper (λ x. x + K) (add_differs K) (made t) (made_proper t p);
      guard = moved_guard (λ x. x + K) (add_differs K) (typed_contexts (head_of r)) (made t) (same_guard of_rule (λ q. renamed of_solid (t.context_of q)) t.rules_of (typed_contexts (head_of r)) t guard);
      head = subst (λ k. Instance (moved_assignment (λ x. x + K) (add_differs K) (made t)) k (renamed (λ x. x + K) head)) (sym bare) (moved_instance (λ x. x + K) (add_differs K) (made t) (as_instance (made t) (head_instance u.leaf_instances u.membrane_instances)));
    };
    body = moved_instance (λ x. x + K) (add_differs K) (made t) i;
  }

  -- The rule fires on an instance of its head, beside what is left of the region.
  pub steps_to : (B : Process) → Instance (made t) (body_of r) B → Linked (after B) → Step (region_process m) (after B)
  steps_to B i k =
      let d = reordered_congruent ready_order (linked_both exposes).0 in
      let n = (linked_both d).1 in
      up_to (chain (back exposes) d) (derived_beside (leaf (fires (fires_here B i)) (first n) (first k)) n k) (same k)
    where
      first : {P Q : Process} → Linked (pair P Q) → Linked P
      first q = record { at_most_twice = λ z. omega (arith, q.at_most_twice z) }

  -- ---- the links of what the firing makes

  head_count : (x : ℕ) → occurrences (of_rule x) head ≡ level_occurrences x (head_of r)
  head_count x = subst (λ k. occurrences (of_rule x) head ≡ level_occurrences x k) (sym bare) (omega (arith, u.count x))

  pub left_count : (z : ℕ) → occurrences z left ≡ occurrences z left_out
  left_count z = omega (arith, reordered_count (rule_out xs ms stands) z)

  new_in_body : (B : Process) (x : ℕ) → occurrences (x + K) (renamed (λ x. x + K) B) ≡ occurrences x B
  new_in_body B x = occurrences_image (λ x. x + K) x B (λ z o e. add_differs K z x e)

  low_not_in_body : (B : Process) (z : ℕ) → z < K → occurrences z (renamed (λ x. x + K) B) ≡ 0
  low_not_in_body B z b = occurrences_none (λ x. x + K) z B (λ x o. above_it x)
    where
      above_it : (x : ℕ) → x + K ≢ z
      above_it x = omega arith

  new_in_connectors : (x : ℕ) → occurrences (x + K) connectors ≡ cond (eqb (occurrences x head) 1) 1 0
  new_in_connectors x = row_count head at K (link_bound head) (x + K) ∙ new_wires head left at K head_plain rest_plain head_linked high low x

  module _ (B O : Process) (bound : ℕ) (bounded : (x : ℕ) → bound ≤ x → level_occurrences x (head_of r) ≡ 0)
      (closed : Closed (pair (region_process m) O)) (raw_closed : Closed (pair (pair B (pair (head_wires t (head_of r) bound) (renamed of_solid left))) (renamed of_solid O))) (outside : link_bound O ≤ above) where
    abbrev H⁺ : Process
    H⁺ = head_wires t (head_of r) bound

    odd_in_left : (y : ℕ) (P : Process) → occurrences (of_solid y) (renamed of_solid P) ≡ occurrences y P
    odd_in_left y P = occurrences_image of_solid y P (λ z o e. odd_differs z y e)

    not_solid : (x : ℕ) (P : Process) → occurrences (of_rule x) (renamed of_solid P) ≡ 0
    not_solid x P = occurrences_none of_solid (of_rule x) P (λ y o q. even_not_odd x y (sym q))

    even_sum : (b c k : ℕ) → c ≤ 2 → b ≤ 2 → b + c ≡ k + k → (b + one_if_once c ≡ 0) ⊎ (b + one_if_once c ≡ 2)
    even_sum b c k l m e = grind arith

    -- a link of the instance of the head with one place has a connector, and with it two places in what the firing makes
    new_closed : (z : ℕ) → Parity z → (occurrences z B + one_if_once (occurrences z head) ≡ 0) ⊎ (occurrences z B + one_if_once (occurrences z head) ≡ 2)
    new_closed z (even x e) =
        subst (λ i. (occurrences i B + one_if_once (occurrences i head) ≡ 0) ⊎ (occurrences i B + one_if_once (occurrences i head) ≡ 2)) (sym e)
        (subst (λ k. (k ≡ 0) ⊎ (k ≡ 2)) (omega (arith, wires_exact t (head_of r) bound bounded x, ap one_if_once (head_count x), not_solid x left, not_solid x O)) (raw_closed (of_rule x)))
    new_closed z (odd y e) =
        let s = same_parity t (head_of r) bound bounded p head head_count head_linked y in
        let R = pair (pair B (pair H⁺ (renamed of_solid left))) (renamed of_solid O) in
        let a = zero_or_two_even (occurrences (of_solid y) R) (raw_closed (of_solid y)) in
        let b = zero_or_two_even (occurrences y (pair (region_process m) O)) (closed y) in
        let d : occurrences y (renamed at head) + occurrences y left ≡ occurrences y (region_process m) = reordered_count head_order y in
        let f = even_less (occurrences (of_solid y) B + occurrences (of_solid y) head) (occurrences (of_solid y) H⁺ + (occurrences y left + (occurrences y O + s.1))) (a.0 + (b.0 + s.0))
        (omega (arith, s.2, a.1, b.1, d, odd_in_left y left, odd_in_left y O)) in
        subst (λ i. (occurrences i B + one_if_once (occurrences i head) ≡ 0) ⊎ (occurrences i B + one_if_once (occurrences i head) ≡ 2)) (sym e)
        (even_sum (occurrences (of_solid y) B) (occurrences (of_solid y) head) f.0 (head_linked.at_most_twice (of_solid y)) (omega (arith, at_most_two (occurrences (of_solid y) R) (raw_closed (of_solid y)))) f.1)

    same_places : (e m o : ℕ) → e ≤ m → Alike e m → (m + o ≡ 0) ⊎ (m + o ≡ 2) → (e + o ≡ 0) ⊎ (e + o ≡ 2)
    same_places e m o l a c = grind arith

    -- another link has as many places as in the exposed process, which is congruent to that of the region
    low_closed : (z : ℕ) → z < K → (occurrences z (pair (after B) O) ≡ 0) ⊎ (occurrences z (pair (after B) O) ≡ 2)
    low_closed z b =
        let E = pair (renamed (λ x. x + K) head) (pair connectors left) in
        let c = low_count head left at K head_plain rest_plain head_linked high low z b in
        let d = low_not_in_head head left at K head_plain rest_plain head_linked high low z b in
        let e : occurrences z (renamed at head) + occurrences z left ≡ occurrences z (region_process m) = reordered_count head_order z in
        let k = same_places (occurrences z E) (occurrences z (region_process m)) (occurrences z O) (omega (arith, c, e)) (same_free exposes z) (closed z) in
        subst (λ n. (n ≡ 0) ⊎ (n ≡ 2)) (omega (arith, d, low_not_in_body B z b, left_count z)) k

    -- Each link of what the firing makes has two places, where this is so in the raw process.
    pub after_closed : Closed (pair (after B) O)
    after_closed z = go (low_or_new head left at K head_plain rest_plain head_linked high low z)
      where
        new : (x : ℕ) → (occurrences (x + K) (pair (after B) O) ≡ 0) ⊎ (occurrences (x + K) (pair (after B) O) ≡ 2)
        new x =
            let a : occurrences (x + K) left ≡ 0 = occurrences_above (x + K) left (omega arith) in
            let b : occurrences (x + K) O ≡ 0 = occurrences_above (x + K) O (omega (arith, outside)) in
            subst (λ k. (k ≡ 0) ⊎ (k ≡ 2)) (omega (arith, new_in_body B x, new_in_connectors x, left_count (x + K), a, b)) (new_closed x (parity x))

        go : (z < K) ⊎ ((x : ℕ) × (z ≡ x + K)) → (occurrences z (pair (after B) O) ≡ 0) ⊎ (occurrences z (pair (after B) O) ≡ 2)
        go (inl b) = low_closed z b
        go (inr e) = subst (λ k. (occurrences k (pair (after B) O) ≡ 0) ⊎ (occurrences k (pair (after B) O) ≡ 2)) (sym e.1) (new e.0)

  -- ---- what the firing makes is read as the raw process

  module _ (B : Process) (bound : ℕ) (bounded : (x : ℕ) → bound ≤ x → level_occurrences x (head_of r) ≡ 0) (v : ℕ → ℕ) (joined : Joins v (pair B (pair (head_wires t (head_of r) bound) (renamed of_solid left)))) where
    abbrev V : ℕ → ℕ
    V z = v (raw_link K z)

    one_join : (n : ℕ) → occurrences n head ≡ 1 → Parity n → v n ≡ v (of_solid (at n))
    one_join n o (even x e) =
        let k : level_occurrences x (head_of r) ≡ 1 = sym (head_count x) ∙ ap (λ i. occurrences i head) (sym e) ∙ o in
        ap v e ∙ wires_join t (head_of r) v bound x joined.1.0 (once_below t (head_of r) bound bounded x k) k ∙ ap (λ i. v (of_solid i)) (sym (place_rule t p x) ∙ ap at (sym e))
    one_join n o (odd y e) = ap v e ∙ ap (λ i. v (of_solid i)) (sym (place_solid t p y) ∙ ap at (sym e))

    connectors_join : (n : ℕ) → n ≤ link_bound head → Joins V (row (wires head at K n))
    connectors_join zero b = tt
    connectors_join (suc n) b =
        go (eqb (occurrences n head) 1) (λ e. ap v (raw_new K n) ∙ one_join n (is_one (occurrences n head) e) (parity n) ∙ ap v (sym (raw_low K (at n) (low n b)))) (connectors_join n (omega arith))
      where
        is_one : (k : ℕ) → ◌≡◌ {A = ℕ} (cond (eqb k 1) 1 0) 1 → k ≡ 1
        is_one k e = grind arith

        go : (b : Bool) → (◌≡◌ {A = ℕ} (cond b 1 0) 1 → V (n + K) ≡ V (at n)) → Joins V (row (wires head at K n)) → Joins V (row (cond b ((n + K, at n) ∷ wires head at K n) (wires head at K n)))
        go true h j = (h refl, j)
        go false h j = j

    pub joins_here : Joins V (after B)
    joins_here = ((joins_renamed v V (λ x. x + K) (λ x. ap v (raw_new K x)) B joined.0, tt), (connectors_join (link_bound head) (omega arith), joins_plain V left_out (region_plain (region xs ms rs'))))

    pub order_here : Reordered (fused V (after B)) (fused v (pair B (pair (head_wires t (head_of r) bound) (renamed of_solid left))))
    order_here =
        let b : fused V (renamed (λ x. x + K) B) ≡ fused v B = fused_renamed V (λ x. x + K) B ∙ fused_agree (λ x. V (x + K)) v B (λ x o. ap v (raw_new K x)) in
        let c : Reordered (fused V connectors) (fused v (head_wires t (head_of r) bound)) = r_chain (row_vanishes V (wires head at K (link_bound head))) (r_back (wires_vanish t (head_of r) v bound)) in
        let d : Reordered (pair (rule r) (fused V left_out)) (fused v (renamed of_solid left)) = r_chain (r_back (reordered_fused V (rule_out xs ms stands))) (r_same (kept_fused v K left high)) in
        r_chain (r_back r_regroup) (r_chain (r_beside (r_same b)) (r_right (r_chain r_regroup (r_chain (r_beside r_swap) (r_chain (r_back r_regroup) (r_chain (r_beside c) (r_right d)))))))
