-- A region that holds the images of a head is congruent to an instance of the head with links of its own, beside wires.
use Rattle.std.proofs.Common.{ℕ, zero, suc, cond, eqb, ltb, Bool, true, false, List, refl, sym, ap, subst, inl, inr, arith, ◌≡◌, ◌≢◌, ◌+◌, ◌≤◌, ◌<◌, ◌⊎◌, [], ◌∷◌, ◌∙◌, ◌-◌}
use Rattle.lmn_congruence.specs.Congruence.{Congruent}
use Rattle.lmn_congruence.specs.FreeNumber.{free_number}
use Rattle.lmn_congruence.specs.FreeLinks.{link_bound, one_if_free, one_if_once, sum_below}
use Rattle.lmn_congruence.specs.Fused.{Joins, NoConnector, fused}
use Rattle.lmn_congruence.specs.LinkMaps.{SameCrossings}
use Rattle.lmn_congruence.specs.Links.{one_if_same}
use Rattle.lmn_congruence.specs.Process.{Linked, Process, atom, connector, membrane, nothing, occurrences, pair, renamed, rule}
use Rattle.lmn_congruence.specs.UpToOrder.{Reordered, r_beside, r_chain, r_same, r_unit}
use Rattle.lmn_congruence.proofs.Counts.{Occurs}
use Rattle.lmn_congruence.proofs.Crossings.{free_number_below, occurrences_above, occurs_below}
use Rattle.lmn_congruence.proofs.FreeNumbers.{free_total}
use Rattle.lmn_congruence.proofs.FewestCrossings.{all_images, image_count, image_pick, with_image}
use Rattle.lmn_congruence.proofs.LinkMaps.{Leaves, fused_is_renamed, joins_plain, two_occurrences}
use Rattle.lmn_reduction.proofs.Merges.{row}
use Rattle.lmn_congruence.proofs.Renaming.{occurrences_image, occurrences_none, renamed_agree, renamed_id}
use Rattle.lmn_congruence.proofs.Reordered.{r_right, reordered_count}
use Rattle.lmn_reduction.proofs.SettledForms.{reads_congruent}
use Rattle.lmn_congruence.proofs.Totals.{highest, total_at_most, total_same, total_zero}
use Rattle.lmn_adequacy.proofs.Ends.{AllMembranes}
use Rattle.lmn_adequacy.proofs.Images.{no_connector_renamed, renamed_renamed, row_vanishes}
use Rattle.lmn_base.proofs.Numbers.{same_or_not}

-- H is a process whose links are those of a head, w its map into the solid, and K lies above all links.
-- Each link of the head has a new name x + K, and a wire to w x where it stands once in the head.
module _ (H : Process) (w : ℕ → ℕ) (K : ℕ) where
  abbrev pub wires : ℕ → List (ℕ × ℕ)
  wires zero = []
  wires (suc n) = cond (eqb (occurrences n H) 1) ((n + K, w n) ∷ wires n) (wires n)

  abbrev pub wire_places : ℕ → ℕ → ℕ
  wire_places z x = cond (eqb (occurrences x H) 1) (one_if_same z (x + K) + one_if_same z (w x)) 0

  pub row_count : (n z : ℕ) → occurrences z (row (wires n)) ≡ sum_below n (wire_places z)
  row_count zero z = refl
  row_count (suc n) z = go (eqb (occurrences n H) 1) (row_count n z)
    where
      go : (b : Bool) → occurrences z (row (wires n)) ≡ sum_below n (wire_places z)
          → occurrences z (row (cond b ((n + K, w n) ∷ wires n) (wires n))) ≡ cond b (one_if_same z (n + K) + one_if_same z (w n)) 0 + sum_below n (wire_places z)
      go true i = omega (arith, i)
      go false i = omega (arith, i)

  -- below K the wires stand in for the images
  wires_low : (n z : ℕ) → z < K → sum_below n (wire_places z) ≤ sum_below n (with_image w z (λ y. occurrences y H))
  wires_low n z b = total_at_most n (wire_places z) (with_image w z (λ y. occurrences y H)) (λ x. at x (occurrences x H) (w x))
    where
      at : (x m k : ℕ) → cond (eqb m 1) (one_if_same z (x + K) + one_if_same z k) 0 ≤ cond (eqb k z) m 0
      at x m k = grind arith

  -- from K on there is one wire where the link stands once
  wires_high : (n x : ℕ) → ((y : ℕ) → y < n → w y < K) → x < n → sum_below n (wire_places (x + K)) ≡ cond (eqb (occurrences x H) 1) 1 0
  wires_high n x low b = total_same n (wire_places (x + K)) (λ y. cond (eqb x y) (cond (eqb (occurrences x H) 1) 1 0) 0) (λ y c. at y (low y c) (same_or_not x y)) ∙ image_pick n x (cond (eqb (occurrences x H) 1) 1 0) b
    where
      same_here : (m k x : ℕ) → k < K → cond (eqb m 1) (one_if_same (x + K) (x + K) + one_if_same (x + K) k) 0 ≡ cond (eqb x x) (cond (eqb m 1) 1 0) 0
      same_here m k x c = grind arith

      other : (m k y : ℕ) → k < K → x ≢ y → (n : ℕ) → cond (eqb m 1) (one_if_same (x + K) (y + K) + one_if_same (x + K) k) 0 ≡ cond (eqb x y) n 0
      other m k y c d n = grind arith

      at : (y : ℕ) → w y < K → (x ≡ y) ⊎ (x ≢ y) → wire_places (x + K) y ≡ cond (eqb x y) (cond (eqb (occurrences x H) 1) 1 0) 0
      at y c (inl e) = rw (← e) (same_here (occurrences x H) (w x) x (rw e c))
      at y c (inr d) = other (occurrences y H) (w y) y c d (cond (eqb (occurrences x H) 1) 1 0)

  wires_past : (n x : ℕ) → ((y : ℕ) → y < n → w y < K) → n ≤ x → sum_below n (wire_places (x + K)) ≡ 0
  wires_past n x low b = total_same n (wire_places (x + K)) (λ y. 0) (λ y c. at (occurrences y H) (w y) y (low y c) (apart y c)) ∙ total_zero n (λ y. 0) (λ y. refl)
    where
      apart : (y : ℕ) → y < n → x ≢ y
      apart y c e = absurd (go (subst (λ k. k < n) (sym e) c))
        where
          go : ¬ (x < n)
          go = omega arith

      at : (m k y : ℕ) → k < K → x ≢ y → cond (eqb m 1) (one_if_same (x + K) (y + K) + one_if_same (x + K) k) 0 ≡ 0
      at m k y c d = grind arith

-- ---- the exposed process

-- a map that leaves each link of a process without connectors leaves the process
pub fused_stays : (v : ℕ → ℕ) (P : Process) → NoConnector P → ((x : ℕ) → Occurs x P → v x ≡ x) → fused v P ≡ P
fused_stays v P n h = fused_is_renamed v P n ∙ renamed_agree v (λ x. x) P h ∙ renamed_id P

-- and its crossings
pub ends_stay : (v : ℕ → ℕ) (P : Process) → NoConnector P → ((x : ℕ) → Occurs x P → v x ≡ x) → SameCrossings v P
ends_stay v nothing n h = tt
ends_stay v (connector x y) n h = tt
ends_stay v (atom a xs) n h = tt
ends_stay v (pair P Q) n h = (ends_stay v P n.0 (λ x o. h x (left (occurrences x P) (occurrences x Q) o)), ends_stay v Q n.1 (λ x o. h x (right (occurrences x P) (occurrences x Q) o)))
  where
    left : (m n : ℕ) → m ≢ 0 → m + n ≢ 0
    left m n o = grind arith

    right : (m n : ℕ) → n ≢ 0 → m + n ≢ 0
    right m n o = grind arith
ends_stay v (membrane P) n h = (ap free_number (fused_stays v P n h), ends_stay v P n h)
ends_stay v (rule r) n h = tt

module _ (H Z : Process) (w : ℕ → ℕ) (K : ℕ) (plain : NoConnector H) (plain_rest : NoConnector Z) (linked_head : Linked H)
    (high : link_bound Z ≤ K) (low : (y : ℕ) → y < link_bound H → w y < K) where
  abbrev pub anew : ℕ → ℕ
  anew x = x + K

  abbrev pub home : ℕ → ℕ
  home z = cond (ltb z K) z (w (z - K))

  pub home_new : (x : ℕ) → home (anew x) ≡ w x
  home_new x = past (x + K) (w (x + K - K)) (omega arith) ∙ ap w (omega arith)
    where
      past : (z k : ℕ) → K ≤ z → cond (ltb z K) z k ≡ k
      past z k b = grind arith

  pub home_low : (z : ℕ) → z < K → home z ≡ z
  home_low z b = below z (w (z - K)) b
    where
      below : (z k : ℕ) → z < K → cond (ltb z K) z k ≡ z
      below z k b = grind arith

  abbrev pub exposed : Process
  exposed = pair (renamed anew H) (pair (row (wires H w K (link_bound H))) Z)

  pub wires_join : (n : ℕ) → n ≤ link_bound H → Joins home (row (wires H w K n))
  wires_join zero b = tt
  wires_join (suc n) b = go (eqb (occurrences n H) 1) (wires_join n (omega arith))
    where
      go : (t : Bool) → Joins home (row (wires H w K n)) → Joins home (row (cond t ((n + K, w n) ∷ wires H w K n) (wires H w K n)))
      go true j = (home_new n ∙ sym (home_low (w n) (low n b)), j)
      go false j = j

  row_ends : (ps : List (ℕ × ℕ)) → SameCrossings home (row ps)
  row_ends [] = tt
  row_ends (p ∷ ps) = (tt, row_ends ps)

  rest_stays : (x : ℕ) → Occurs x Z → home x ≡ x
  rest_stays x o = home_low x (omega (arith, occurs_below Z x o))

  head_image : fused home (renamed anew H) ≡ renamed w H
  head_image = fused_is_renamed home (renamed anew H) (no_connector_renamed anew H plain) ∙ renamed_renamed home anew H ∙ renamed_agree (λ x. home (anew x)) w H (λ x o. home_new x)

  exposed_order : Reordered (fused home exposed) (pair (renamed w H) Z)
  exposed_order = r_chain (r_beside (r_same head_image)) (r_right (r_chain (r_beside (row_vanishes home (wires H w K (link_bound H)))) (r_chain r_unit (r_same (fused_stays home Z plain_rest rest_stays)))))

  -- how often a link occurs in the exposed process
  pub new_in_head : (x : ℕ) → occurrences (anew x) (renamed anew H) ≡ occurrences x H
  new_in_head x = occurrences_image anew x H (λ z o e. omega arith)

  pub low_not_in_head : (z : ℕ) → z < K → occurrences z (renamed anew H) ≡ 0
  low_not_in_head z b = occurrences_none anew z H (λ x o. above x)
    where
      above : (x : ℕ) → x + K ≢ z
      above x = omega arith

  pub new_wires : (x : ℕ) → sum_below (link_bound H) (wire_places H w K (x + K)) ≡ cond (eqb (occurrences x H) 1) 1 0
  new_wires x = go (below_or_from x (link_bound H))
    where
      below_or_from : (x n : ℕ) → (x < n) ⊎ (n ≤ x)
      below_or_from x n = grind arith

      none_there : (m : ℕ) → m ≡ 0 → ◌≡◌ {A = ℕ} 0 (cond (eqb m 1) 1 0)
      none_there m e = grind arith

      go : (x < link_bound H) ⊎ (link_bound H ≤ x) → sum_below (link_bound H) (wire_places H w K (x + K)) ≡ cond (eqb (occurrences x H) 1) 1 0
      go (inl b) = wires_high H w K (link_bound H) x low b
      go (inr b) = wires_past H w K (link_bound H) x low b ∙ none_there (occurrences x H) (occurrences_above x H b)

  -- a new link occurs twice or not at all
  new_count : (x : ℕ) → occurrences (x + K) exposed ≡ occurrences x H + cond (eqb (occurrences x H) 1) 1 0
  new_count x = omega (arith, new_in_head x, row_count H w K (link_bound H) (x + K), new_wires x, occurrences_above (x + K) Z (omega arith))

  -- another link occurs at most as often as in the solid
  pub low_count : (z : ℕ) → z < K → occurrences z exposed ≤ occurrences z (pair (renamed w H) Z)
  low_count z b = omega (arith, low_not_in_head z b, row_count H w K (link_bound H) z, wires_low H w K (link_bound H) z b, image_count (link_bound H) w z H (omega arith))

  even_count : (m : ℕ) → m ≤ 2 → m + cond (eqb m 1) 1 0 ≤ 2
  even_count m b = grind arith

  never_one : (m : ℕ) → m ≤ 2 → m + cond (eqb m 1) 1 0 ≢ 1
  never_one m b = grind arith

  pub low_or_new : (z : ℕ) → (z < K) ⊎ ((x : ℕ) × (z ≡ x + K))
  low_or_new z = go (cases z K)
    where
      cases : (z K : ℕ) → (z < K) ⊎ (K ≤ z)
      cases z K = grind arith

      go : (z < K) ⊎ (K ≤ z) → (z < K) ⊎ ((x : ℕ) × (z ≡ x + K))
      go (inl b) = inl b
      go (inr b) = inr (z - K, omega arith)

  exposed_linked : Linked (pair (renamed w H) Z) → Linked exposed
  exposed_linked l = record { at_most_twice = λ z. go z (low_or_new z) }
    where
      go : (z : ℕ) → (z < K) ⊎ ((x : ℕ) × (z ≡ x + K)) → occurrences z exposed ≤ 2
      go z (inl b) = omega (arith, low_count z b, l.at_most_twice z)
      go z (inr e) = subst (λ k. occurrences k exposed ≤ 2) (sym e.1) (subst (λ k. k ≤ 2) (sym (new_count e.0)) (even_count (occurrences e.0 H) (linked_head.at_most_twice e.0)))

  exposed_leaves : Leaves home exposed
  exposed_leaves z f = go (low_or_new z)
    where
      go : (z < K) ⊎ ((x : ℕ) × (z ≡ x + K)) → home z ≡ z
      go (inl b) = home_low z b
      go (inr e) = absurd (never_one (occurrences e.0 H) (linked_head.at_most_twice e.0) (sym (new_count e.0) ∙ (ap (λ k. occurrences k exposed) (sym e.1) ∙ f)))

  -- A solid that holds the images of a head is congruent to a process that holds an instance of the head,
  -- with a link of its own for each link of the head, and wires.
  pub exposed_congruent : (N : Process) → Linked N → SameCrossings home (renamed anew H) → Reordered (pair (renamed w H) Z) N → Congruent exposed N
  exposed_congruent N l ends o =
      let k : Linked (pair (renamed w H) Z) = record { at_most_twice = λ z. rw (reordered_count o z) (l.at_most_twice z) } in
      reads_congruent exposed N (exposed_linked k) l (record {
        to = home;
        leaves = exposed_leaves;
        joins = (joins_plain home (renamed anew H) (no_connector_renamed anew H plain), (wires_join (link_bound H) (omega arith), joins_plain home Z plain_rest));
        order = r_chain exposed_order o;
        crossings = (ends, (row_ends (wires H w K (link_bound H)), ends_stay home Z plain_rest rest_stays));
      })

-- ---- maps that merge no links

-- each link of a process occurs as often as its image in the image
abbrev pub KeepsCounts : (ℕ → ℕ) → Process → Type 0
KeepsCounts w P = (x : ℕ) → Occurs x P → occurrences (w x) (renamed w P) ≡ occurrences x P

-- a link with a given image, or none
pub data Source (w : ℕ → ℕ) (P : Process) (z : ℕ) : Type 0 where
  found : (x : ℕ) → Occurs x P → w x ≡ z → Source w P z
  missing : ((x : ℕ) → Occurs x P → w x ≢ z) → Source w P z

-- a link below n with a given image, or none
pub data SourceBelow (w : ℕ → ℕ) (P : Process) (z n : ℕ) : Type 0 where
  found_below : (x : ℕ) → Occurs x P → w x ≡ z → SourceBelow w P z n
  missing_below : ((x : ℕ) → x < n → Occurs x P → w x ≢ z) → SourceBelow w P z n

search_source : (w : ℕ → ℕ) (P : Process) (z n : ℕ) → SourceBelow w P z n
search_source w P z zero = missing_below (λ x b. absurd (go x b))
  where
    go : (x : ℕ) → ¬ (x < 0)
    go x = omega arith
search_source w P z (suc n) = go (search_source w P z n) (same_or_not (occurrences n P) 0) (same_or_not (w n) z)
  where
    last : (x : ℕ) → x < suc n → x ≢ n → x < n
    last x b d = grind arith

    skip : ((x : ℕ) → x < n → Occurs x P → w x ≢ z) → (Occurs n P → w n ≢ z) → (x : ℕ) → x < suc n → Occurs x P → w x ≢ z
    skip h k x b o = step (same_or_not x n)
      where
        step : (x ≡ n) ⊎ (x ≢ n) → w x ≢ z
        step (inl e) = λ q. k (λ r. o (ap (λ i. occurrences i P) e ∙ r)) (sym (ap w e) ∙ q)
        step (inr d) = h x (last x b d) o

    go : SourceBelow w P z n → (occurrences n P ≡ 0) ⊎ (occurrences n P ≢ 0) → (w n ≡ z) ⊎ (w n ≢ z) → SourceBelow w P z (suc n)
    go (found_below x o e) a b = found_below x o e
    go (missing_below h) (inl a) b = missing_below (skip h (λ o. absurd (o a)))
    go (missing_below h) (inr a) (inl b) = found_below n a b
    go (missing_below h) (inr a) (inr b) = missing_below (skip h (λ o. b))

-- each link is the image of one that occurs, or of none
pub source : (w : ℕ → ℕ) (P : Process) (z : ℕ) → Source w P z
source w P z = go (search_source w P z (link_bound P))
  where
    go : SourceBelow w P z (link_bound P) → Source w P z
    go (found_below x o e) = found x o e
    go (missing_below h) = missing (λ x o. h x (occurs_below P x o) o)

not_occurring : (P : Process) (y : ℕ) → occurrences y P ≡ 0 → one_if_free P y ≡ 0
not_occurring P y e = ap one_if_once e

-- where each link keeps its occurrences the free links are as many
pub free_number_kept : (w : ℕ → ℕ) (P : Process) → KeepsCounts w P → free_number (renamed w P) ≡ free_number P
free_number_kept w P k =
    let n = link_bound P in
    let Q = renamed w P in
    let N = link_bound Q + sum_below n (λ y. suc (w y)) in
    sym (free_number_below N Q (omega arith)) ∙ total_same N (one_if_free Q) (λ z. sum_below n (with_image w z (one_if_free P))) (λ z b. at z (source w P z)) ∙ all_images N n w (one_if_free P) (λ y b. omega (arith, highest n w y b)) ∙ free_total P
  where
    one_alone : (m n k : ℕ) → n ≢ 0 → k ≡ m → ¬ (m + n ≤ k)
    one_alone m n k o e = omega arith

    alone : (x y : ℕ) → Occurs x P → Occurs y P → w x ≡ w y → (x ≡ y) ⊎ (x ≢ y) → x ≡ y
    alone x y o o' e (inl p) = p
    alone x y o o' e (inr d) = absurd (one_alone (occurrences x P) (occurrences y P) (occurrences (w x) (renamed w P)) o' (k x o) (two_occurrences w x y P d e))

    no_places : (b : Bool) (m : ℕ) → m ≡ 0 → cond b m 0 ≡ 0
    no_places true m e = e
    no_places false m e = refl

    other_colour : (a z m : ℕ) → a ≢ z → cond (eqb a z) m 0 ≡ 0
    other_colour a z m d = grind arith

    own : (a z m : ℕ) → a ≡ z → cond (eqb a z) m 0 ≡ m
    own a z m e = grind arith

    pick : (z x y : ℕ) → Occurs x P → w x ≡ z → (occurrences y P ≡ 0) ⊎ (occurrences y P ≢ 0) → (x ≡ y) ⊎ (x ≢ y) → with_image w z (one_if_free P) y ≡ cond (eqb x y) (one_if_free P x) 0
    pick z x y o e s (inl q) = own (w y) z (one_if_free P y) (ap w (sym q) ∙ e) ∙ ap (one_if_free P) (sym q) ∙ sym (own x y (one_if_free P x) q)
    pick z x y o e (inl r) (inr d) = no_places (eqb (w y) z) (one_if_free P y) (not_occurring P y r) ∙ sym (other_colour x y (one_if_free P x) d)
    pick z x y o e (inr r) (inr d) = other_colour (w y) z (one_if_free P y) (λ q. d (alone x y o r (e ∙ sym q) (inr d))) ∙ sym (other_colour x y (one_if_free P x) d)

    none_of : (z y : ℕ) → ((x : ℕ) → Occurs x P → w x ≢ z) → (occurrences y P ≡ 0) ⊎ (occurrences y P ≢ 0) → with_image w z (one_if_free P) y ≡ 0
    none_of z y h (inl r) = no_places (eqb (w y) z) (one_if_free P y) (not_occurring P y r)
    none_of z y h (inr r) = other_colour (w y) z (one_if_free P y) (h y r)

    at : (z : ℕ) → Source w P z → one_if_free (renamed w P) z ≡ sum_below (link_bound P) (with_image w z (one_if_free P))
    at z (found x o e) =
        ap one_if_once (ap (λ i. occurrences i (renamed w P)) (sym e) ∙ k x o)
        ∙ sym (total_same (link_bound P) (with_image w z (one_if_free P)) (λ y. cond (eqb x y) (one_if_free P x) 0) (λ y b. pick z x y o e (same_or_not (occurrences y P) 0) (same_or_not x y)) ∙ image_pick (link_bound P) x (one_if_free P x) (occurs_below P x o))
    at z (missing h) = ap one_if_once (occurrences_none w z P h) ∙ sym (total_zero (link_bound P) (with_image w z (one_if_free P)) (λ y. none_of z y h (same_or_not (occurrences y P) 0)))

-- A head whose membranes keep the counts of their links may be exposed.
pub kept_ends : (H Z : Process) (w : ℕ → ℕ) (K : ℕ) (plain : NoConnector H) (plain_rest : NoConnector Z) (linked_head : Linked H) (high : link_bound Z ≤ K) (low : (y : ℕ) → y < link_bound H → w y < K)
    → (P : Process) → NoConnector P → AllMembranes (λ C. KeepsCounts w C) P → SameCrossings (home H Z w K plain plain_rest linked_head high low) (renamed (anew H Z w K plain plain_rest linked_head high low) P)
kept_ends H Z w K plain plain_rest linked_head high low nothing n k = tt
kept_ends H Z w K plain plain_rest linked_head high low (connector x y) n k = tt
kept_ends H Z w K plain plain_rest linked_head high low (atom a xs) n k = tt
kept_ends H Z w K plain plain_rest linked_head high low (pair P Q) n k =
    (kept_ends H Z w K plain plain_rest linked_head high low P n.0 k.0, kept_ends H Z w K plain plain_rest linked_head high low Q n.1 k.1)
kept_ends H Z w K plain plain_rest linked_head high low (membrane P) n k =
    let u = anew H Z w K plain plain_rest linked_head high low in
    let v = home H Z w K plain plain_rest linked_head high low in
    let e : fused v (renamed u P) ≡ renamed w P = fused_is_renamed v (renamed u P) (no_connector_renamed u P n) ∙ renamed_renamed v u P ∙ renamed_agree (λ x. v (u x)) w P (λ x o. home_new H Z w K plain plain_rest linked_head high low x) in
    (ap free_number e ∙ free_number_kept w P k.0 ∙ sym (free_number_kept u P (λ x o. occurrences_image u x P (λ z o' q. omega arith))), kept_ends H Z w K plain plain_rest linked_head high low P n k.1)
kept_ends H Z w K plain plain_rest linked_head high low (rule r) n k = tt
