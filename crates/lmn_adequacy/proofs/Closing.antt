-- Where an accepted rule embeds, each link of its raw process has two places.
use Rattle.std.proofs.Common.{ℕ, ℤ, List, refl, sym, ap, subst, inl, inr, arith, ◌≡◌, ◌≢◌, ◌+◌, ◌≤◌, ◌<◌, ◌⊎◌, [], ◌∷◌, ◌∙◌}
use Rattle.lmn_congruence.specs.FreeLinks.{link_bound, one_if_once}
use Rattle.lmn_congruence.specs.LinkedRules.{level_occurrences}
use Rattle.lmn_congruence.specs.Links.{one_if_same}
use Rattle.lmn_congruence.specs.Orders.{Among, at_head, further, OneByOne, no_pairs, pair_and}
use Rattle.lmn_congruence.specs.Process.{Closed, Linked, Process, nothing, occurrences, pair, renamed, together}
use Rattle.lmn_congruence.specs.Regions.{Region, region_process}
use Rattle.lmn_congruence.specs.Rules.{Condition, Leaf, Level, Levels, Name, Rule, body_of, compares, differs, equates, guard_of, head_of, is_kind, level, no_rule, rules_list, unknown}
use Rattle.lmn_congruence.specs.UpToOrder.{Reordered, r_beside, r_chain, r_regroup, r_swap, r_unit}
use Rattle.lmn_reduction.specs.Assignments.{Assignment}
use Rattle.lmn_reduction.specs.Firing.{typed_contexts, typed_contexts_in, typed_leaves}
use Rattle.lmn_reduction.specs.Guards.{GuardHolds, alike, binds, condition_and}
use Rattle.lmn_reduction.specs.Instances.{of_atom, of_connector, of_typed, LeafInstance}
use Rattle.lmn_reduction.proofs.Copies.{IsRootedCopy, rooted}
use Rattle.lmn_reduction.specs.Parts.{IsGround, IsInteger, Rooted, an_integer}
use Rattle.lmn_congruence.proofs.Counts.{linked_inside, linked_left, linked_right}
use Rattle.lmn_congruence.proofs.Crossings.{occurrences_above}
use Rattle.lmn_congruence.proofs.LinkMaps.{closed_linked}
use Rattle.lmn_congruence.proofs.Renaming.{occurrences_image, occurrences_none}
use Rattle.lmn_congruence.proofs.Reordered.{r_right, reordered_count}
use Rattle.lmn_adequacy.specs.Accepted.{Accepted, all_contexts, contexts_in, left_sides, open_names}
use Rattle.lmn_adequacy.specs.Loose.{Plain}
use Rattle.lmn_adequacy.proofs.Accepting.{accepted_head, integer_ground, typed_ground}
use Rattle.lmn_adequacy.proofs.Bodies.{Copied, Whole, context_places, context_places_shuffle, open_places_append, odd_contexts, odd_not_even, LevelMade}
use Rattle.lmn_adequacy.proofs.Embedding.{EvenMore, not_one_even}
use Rattle.lmn_adequacy.proofs.Exposing.{Source, found, missing, source}
use Rattle.lmn_adequacy.proofs.Heads.{HeadLeaves, HeadLevel, HeadLevels}
use Rattle.lmn_adequacy.proofs.Images.{image_at_least, no_link_rule_contexts}
use Rattle.lmn_adequacy.proofs.LiteralHeads.{HeadInstance, HeadInstances, head_and, head_instance, no_head}
use Rattle.lmn_adequacy.proofs.Orders.{either}
use Rattle.lmn_adequacy.proofs.RawProcesses.{head_wires, made}
use Rattle.lmn_adequacy.proofs.Skeleton.{LevelSkeleton, Parity, even, odd, parity, place}
use Rattle.lmn_adequacy.proofs.Wires.{IsEven, at_most_two, even_less, even_zero_or_two, places_enough, same_parity, wires_exact, zero_or_two_even}
use Rattle.lmn_congruence_splice.specs.Splice.{of_rule, of_solid}
use Rattle.lmn_congruence.proofs.Common.{among_apart as among_append}
use Rattle.lmn_congruence.proofs.TranslatedLinks.{no_link_in_rules as no_link_rules}
use Rattle.lmn_congruence_splice.proofs.Fusions.{apart_rule as even_not_odd, solid_once as odd_differs}

-- ---- the links of the region in an instance of the head

pub odd_copy : (g : Rooted) (y L : ℕ) (P : Process) → IsGround g → IsRootedCopy g (of_rule y) P → Linked P → IsEven (occurrences (of_solid L) P)
odd_copy g y L P i c l = go (source c.to g.process (of_solid L))
  where
    not_root : (z : ℕ) → c.to z ≡ of_solid L → z ≢ g.root
    not_root z e f = absurd (even_not_odd y L (sym c.root ∙ ap c.to (sym f) ∙ e))

    go : Source c.to g.process (of_solid L) → IsEven (occurrences (of_solid L) P)
    go (found z o e) =
        let n : occurrences (c.to z) (renamed c.to g.process) ≡ occurrences z g.process = occurrences_image c.to z g.process (λ z' o' q. c.one_to_one z' z o' o q) in
        let m : occurrences (of_solid L) P ≡ occurrences z g.process = ap (occurrences (of_solid L)) c.is ∙ ap (λ k. occurrences k (renamed c.to g.process)) (sym e) ∙ n in
        not_one_even (occurrences (of_solid L) P) (λ f. not_root z e (i.nothing_else_free z (sym m ∙ f))) (l.at_most_twice (of_solid L))
    go (missing h) = (0, ap (occurrences (of_solid L)) c.is ∙ occurrences_none c.to (of_solid L) g.process h)

module _ (t : Assignment) (p : Plain t) where
  -- the leaves of an instance of the head have each link of the region an even number of times
  pub odd_leaves : (L : ℕ) {ls : List Leaf} {Ps : List Process} → OneByOne (LeafInstance (made t)) ls Ps → HeadLeaves t ls → Linked (together Ps) → IsEven (occurrences (of_solid L) (together Ps))
  odd_leaves L no_pairs a l = (0, refl)
  odd_leaves L (pair_and (of_atom {xs = ys}) j) a l = let i = odd_leaves L j a (linked_right l) in (i.0, omega (arith, odd_not_even t p L ys, i.1))
  odd_leaves L (pair_and of_connector j) a l = absurd a
  odd_leaves L (pair_and (of_typed {p = q} {x = y} {P = P} c root) j) a l =
      let i = odd_leaves L j a.1 (linked_right l) in
      let k = odd_copy (t.typed_of q) y L P a.0 (rooted (t.typed_of q) (of_rule y) P c root) (linked_left l) in
      (k.0 + i.0, omega (arith, k.1, i.1))

  mutual
    -- so has the instance of a level, but for what stands at the links of its contexts
    pub odd_level : (L : ℕ) {l : Level} {C : Process} → HeadInstance (made t) l C → HeadLevel t l → Linked C → EvenMore (occurrences (of_solid L) C) (context_places t p L (open_names (all_contexts l)))
    odd_level L (head_instance {membranes = membranes} {contexts = ps} {rule_contexts = qs} {rules = rs} i j) a l =
        let m = odd_leaves L i a.0 (linked_left l) in
        let n = odd_levels L j a.1 (linked_left (linked_right l)) in
        let k = odd_contexts t p L ps in
        record {
          half = m.0 + n.half + k.half;
          is = omega (arith, m.1, n.is, k.is, open_places_append t p L ps (contexts_in membranes), no_link_rule_contexts (made t) (of_solid L) qs, no_link_rules (of_solid L) (rules_list rs));
        }

    -- and those of the levels inside
    pub odd_levels : (L : ℕ) {ls : Levels} {Qs : List Process} → HeadInstances (made t) ls Qs → HeadLevels t ls → Linked (together Qs) → EvenMore (occurrences (of_solid L) (together Qs)) (context_places t p L (open_names (contexts_in ls)))
    odd_levels L no_head a l = record { half = 0; is = refl }
    odd_levels L (head_and {l = k} {ls = ks} i j) a l =
        let m = odd_level L i a.0 (linked_inside (linked_left l)) in
        let n = odd_levels L j a.1 (linked_right l) in
        record { half = m.half + n.half; is = omega (arith, m.is, n.is, open_places_append t p L (all_contexts k) (contexts_in ks)) }

-- ---- what typed contexts stand for has no link in more than two places

copy_whole : (g : Rooted) (x : ℕ) (P : Process) → IsGround g → IsRootedCopy g x P → Linked P → Whole g
copy_whole g x P i c l z d = go (occurrences z g.process) (λ f. d (i.nothing_else_free z f)) (omega (arith, image_at_least c.to z g.process, subst (λ k. occurrences (c.to z) k ≤ 2) c.is (l.at_most_twice (c.to z))))
  where
    go : (n : ℕ) → n ≢ 1 → n ≤ 2 → (n ≡ 0) ⊎ (n ≡ 2)
    go n d b = grind arith

module _ (t s : Assignment) (same_typed : (q : Name) → s.typed_of q ≡ t.typed_of q) where
  leaves_whole : {ls : List Leaf} {Ps : List Process} → OneByOne (LeafInstance s) ls Ps → HeadLeaves t ls → Linked (together Ps) → (q : Name) → Among q (typed_leaves ls) → Whole (t.typed_of q)
  leaves_whole no_pairs a l q k = elim k [ ]
  leaves_whole (pair_and of_atom j) a l q k = leaves_whole j a (linked_right l) q k
  leaves_whole (pair_and of_connector j) a l q k = absurd a
  leaves_whole (pair_and (of_typed {p = o} {x = x} {P = P} c root) j) a l q at_head = copy_whole (t.typed_of o) (s.link_of x) P a.0 (subst (λ g. IsRootedCopy g (s.link_of x) P) (same_typed o) (rooted (s.typed_of o) (s.link_of x) P c root)) (linked_left l)
  leaves_whole (pair_and (of_typed c root) j) a l q (further k) = leaves_whole j a.1 (linked_right l) q k

  mutual
    level_whole : {l : Level} {C : Process} → HeadInstance s l C → HeadLevel t l → Linked C → (q : Name) → Among q (typed_contexts l) → Whole (t.typed_of q)
    level_whole (head_instance {leaves = leaves} {membranes = membranes} i j) a l q k = either (among_append (typed_leaves leaves) (typed_contexts_in membranes) k) (leaves_whole i a.0 (linked_left l) q) (levels_whole j a.1 (linked_left (linked_right l)) q)

    levels_whole : {ls : Levels} {Qs : List Process} → HeadInstances s ls Qs → HeadLevels t ls → Linked (together Qs) → (q : Name) → Among q (typed_contexts_in ls) → Whole (t.typed_of q)
    levels_whole no_head a l q k = elim k [ ]
    levels_whole (head_and {l = l'} {ls = ls} i j) a l q k = either (among_append (typed_contexts l') (typed_contexts_in ls) k) (level_whole i a.0 (linked_inside (linked_left l)) q) (levels_whole j a.1 (linked_right l) q)

integer_whole : (n : ℤ) (g : Rooted) → IsInteger n g → Whole g
integer_whole n g (an_integer {x = x}) z d = inl (none z x d)
  where
    none : (z x : ℕ) → z ≢ x → one_if_same z x + 0 ≡ 0
    none z x d = grind arith

-- a name on the left of `=` is of the head, or it is bound to an integer
left_side : (heads : List Name) (t : Assignment) {q : Name} (cs : List Condition) → Among q (left_sides cs) → GuardHolds heads t cs → Among q heads ⊎ ((n : ℤ) × IsInteger n (t.typed_of q))
left_side heads t [] a g = elim a [ ]
left_side heads t (is_kind k p ∷ cs) a (condition_and h g) = left_side heads t cs a g
left_side heads t (compares c e f ∷ cs) a (condition_and h g) = left_side heads t cs a g
left_side heads t (equates p e ∷ cs) at_head (condition_and (binds n v i) g) = inr (_, i)
left_side heads t (equates p e ∷ cs) at_head (condition_and (alike b c g g' s) k) = inl b
left_side heads t (equates p e ∷ cs) (further a) (condition_and h g) = left_side heads t cs a g
left_side heads t (differs p q ∷ cs) a (condition_and h g) = left_side heads t cs a g
left_side heads t (unknown n ps ∷ cs) a (condition_and h g) = left_side heads t cs a g

-- where the guard holds and what the typed contexts of the head stand for is whole, so is what those of the body stand for
pub body_whole : {r : Rule} → Accepted r → (t : Assignment) → GuardHolds (typed_contexts (head_of r)) t (guard_of r) → ((q : Name) → Among q (typed_contexts (head_of r)) → Whole (t.typed_of q)) → (q : Name) → Among q (typed_contexts (body_of r)) → Whole (t.typed_of q)
body_whole {r} a t g w q k = either (a.known q k) (w q) (λ b. either (left_side (typed_contexts (head_of r)) t (guard_of r) b g) (w q) (λ i. integer_whole i.0 (t.typed_of q) i.1))

-- where the guard of an accepted rule holds each typed context of its body stands for a ground part
pub body_ground : {r : Rule} → Accepted r → (t : Assignment) → GuardHolds (typed_contexts (head_of r)) t (guard_of r) → (q : Name) → Among q (typed_contexts (body_of r)) → IsGround (t.typed_of q)
body_ground {r} a t g q k =
    either (a.known q k) (typed_ground a t g q) (λ b. either (left_side (typed_contexts (head_of r)) t (guard_of r) b g) (typed_ground a t g q) (λ i. integer_ground i.0 (t.typed_of q) i.1))

-- ---- the raw process

pub even_closed : (h b : ℕ) → (h + b ≡ 0) ⊎ (h + b ≡ 2) → (b + one_if_once h ≡ 0) ⊎ (b + one_if_once h ≡ 2)
even_closed h b e = grind arith

-- q places in the image of the head, n in the head, w at connectors, b in the body, c of which contexts have
odd_closed : (L N q n w c b k o h i j : ℕ) → (d : Copied N k L c b) → n ≡ c + (h + h) → n + w ≤ q → q + (i + i) ≡ (n + w) + (j + j)
    → (q + o ≡ 0) ⊎ (q + o ≡ 2) → (N ≤ L → q + o ≡ 0) → (b + (w + o) ≡ 0) ⊎ (b + (w + o) ≡ 2)
odd_closed L N q n w c b k o h i j d e f g m a =
    let s = zero_or_two_even (q + o) m in
    let v = even_less (c + (w + o)) (h + j) (s.0 + i) (omega (arith, e, g, s.1)) in
    let u = even_zero_or_two (c + (w + o)) v.0 (omega (arith, e, f, at_most_two (q + o) m)) v.1 in
    go d.whole u
  where
    go : (d.copies ≡ 0) ⊎ ((d.copies ≡ 2) × (N ≤ L) × (L < k)) → (c + (w + o) ≡ 0) ⊎ (c + (w + o) ≡ 2) → (b + (w + o) ≡ 0) ⊎ (b + (w + o) ≡ 2)
    go (inl z) u = subst (λ x. (x ≡ 0) ⊎ (x ≡ 2)) (omega (arith, d.is, z)) u
    go (inr z) u = inr (omega (arith, d.is, z.0, e, f, a z.1))

module _ (r : Rule) (a : Accepted r) (t : Assignment) (p : Plain t) (g : GuardHolds (typed_contexts (head_of r)) t (guard_of r)) (leaves : List Leaf) (membranes : Levels)
    (is : head_of r ≡ level leaves membranes [] [] no_rule) (m rest : Region) (u : LevelSkeleton t p leaves membranes m rest) (O : Process) (closed : Closed (pair (region_process m) O)) where
  abbrev head : Process
  head = pair (together u.first) (pair (together u.second) (pair nothing (pair nothing nothing)))

  head_order : Reordered (pair (renamed (place t p) head) (region_process rest)) (region_process m)
  head_order = r_chain (r_beside (r_chain r_regroup (r_chain (r_right (r_chain r_unit r_unit)) (r_chain r_swap r_unit)))) u.order

  head_linked : Linked head
  head_linked =
      let l : Linked (pair (region_process m) O) = closed_linked closed in
      record { at_most_twice = λ z. omega (arith, image_at_least (place t p) z head, reordered_count head_order (place t p z), l.at_most_twice (place t p z)) }

  head_here : HeadInstance (made t) (level leaves membranes [] [] no_rule) head
  head_here = head_instance u.leaf_instances u.membrane_instances

  head_ground : HeadLevel t (level leaves membranes [] [] no_rule)
  head_ground = subst (HeadLevel t) is ((accepted_head r a).1 t g)

  head_count : (x : ℕ) → occurrences (of_rule x) head ≡ level_occurrences x (head_of r)
  head_count x = subst (λ k. occurrences (of_rule x) head ≡ level_occurrences x k) (sym is) (omega (arith, u.count x))

  pub head_whole : (q : Name) → Among q (typed_contexts (head_of r)) → Whole (t.typed_of q)
  head_whole q k = level_whole t (made t) (λ q. refl) head_here head_ground head_linked q (subst (λ l. Among q (typed_contexts l)) is k)

  abbrev N : ℕ
  N = link_bound (region_process m) + link_bound O

  module _ (made_body : LevelMade t p (body_of r) (link_bound (region_process m) + link_bound O)) (bound : ℕ) (bounded : (x : ℕ) → bound ≤ x → level_occurrences x (head_of r) ≡ 0) where
    abbrev B : Process
    B = made_body.process

    abbrev W : Process
    W = head_wires t (head_of r) bound

    abbrev raw : Process
    raw = pair made_body.process (pair (head_wires t (head_of r) bound) (renamed of_solid (region_process rest)))

    not_solid : (x : ℕ) (P : Process) → occurrences (of_rule x) (renamed of_solid P) ≡ 0
    not_solid x P = occurrences_none of_solid (of_rule x) P (λ y o q. even_not_odd x y (sym q))

    solid_count : (L : ℕ) (P : Process) → occurrences (of_solid L) (renamed of_solid P) ≡ occurrences L P
    solid_count L P = occurrences_image of_solid L P (λ z o e. odd_differs z L e)

    even_links : (x : ℕ) → (occurrences (of_rule x) (pair raw (renamed of_solid O)) ≡ 0) ⊎ (occurrences (of_rule x) (pair raw (renamed of_solid O)) ≡ 2)
    even_links x = subst (λ k. (k ≡ 0) ⊎ (k ≡ 2)) (omega (arith, made_body.count x, wires_exact t (head_of r) bound bounded x, not_solid x (region_process rest), not_solid x O)) (even_closed (level_occurrences x (head_of r)) (level_occurrences x (body_of r)) (a.linked x))

    odd_links : (L : ℕ) → (occurrences (of_solid L) (pair raw (renamed of_solid O)) ≡ 0) ⊎ (occurrences (of_solid L) (pair raw (renamed of_solid O)) ≡ 2)
    odd_links L =
        let c = context_places t p L (open_names (all_contexts (body_of r))) in
        let q = occurrences L (renamed (place t p) head) in
        let o = occurrences L (region_process rest) + occurrences L O in
        let e = odd_level t p L head_here head_ground head_linked in
        let k : context_places t p L (open_names (all_contexts (level leaves membranes [] [] no_rule))) ≡ c = subst (λ l. context_places t p L (open_names (all_contexts l)) ≡ c) is (context_places_shuffle t p L a.kept) in
        let s = same_parity t (head_of r) bound bounded p head head_count head_linked L in
        let w = places_enough t (head_of r) bound bounded p head head_count head_linked L in
        let d : q + occurrences L (region_process rest) ≡ occurrences L (region_process m) = reordered_count head_order L in
        let i : q + o ≡ occurrences L (pair (region_process m) O) = omega (arith, d) in
        let j = odd_closed L N q (occurrences (of_solid L) head) (occurrences (of_solid L) W) c (occurrences (of_solid L) B) made_body.next o e.half s.0 s.1 (made_body.odd L)
        (omega (arith, e.is, k)) w s.2 (subst (λ n. (n ≡ 0) ⊎ (n ≡ 2)) (sym i) (closed L)) (λ b. i ∙ occurrences_above L (pair (region_process m) O) b) in
        subst (λ n. (n ≡ 0) ⊎ (n ≡ 2)) (omega (arith, solid_count L (region_process rest), solid_count L O)) j

    pub raw_closes : Closed (pair raw (renamed of_solid O))
    raw_closes z = go (parity z)
      where
        go : Parity z → (occurrences z (pair raw (renamed of_solid O)) ≡ 0) ⊎ (occurrences z (pair raw (renamed of_solid O)) ≡ 2)
        go (even x e) = subst (λ k. (occurrences k (pair raw (renamed of_solid O)) ≡ 0) ⊎ (occurrences k (pair raw (renamed of_solid O)) ≡ 2)) (sym e) (even_links x)
        go (odd x e) = subst (λ k. (occurrences k (pair raw (renamed of_solid O)) ≡ 0) ⊎ (occurrences k (pair raw (renamed of_solid O)) ≡ 2)) (sym e) (odd_links x)
