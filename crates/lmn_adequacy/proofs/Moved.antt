-- Processes that differ by a map of links which leaves the free ones. Such maps are put together over what stands side by
-- side.
use Rattle.std.proofs.Common.{ℕ, cond, eqb, List, map, refl, sym, ap, subst, inl, inr, arith, ◌≡◌, ◌≢◌, ◌+◌, ◌≤◌, ◌⊎◌, [], ◌∷◌, ◌++◌, ◌∙◌}
use Rattle.std.proofs.lemmas.List.{append-nil}
use Rattle.lmn_congruence.specs.Fused.{Joins, fused}
use Rattle.lmn_congruence.specs.Plains.{SolidOf, fused_leaves, fused_level, fused_levels, leaf_process, level_process, levels_processes}
use Rattle.lmn_congruence.specs.Process.{Free, Linked, Process, atom, connector, membrane, nothing, occurrences, pair, renamed, rule, together}
use Rattle.lmn_congruence.specs.Regions.{Region, Regions, SolidAtom, no_region, region, region_and}
use Rattle.lmn_congruence.specs.Rules.{Leaf, Level, Levels, Rule, atom_leaf, connector_leaf, level, level_and, no_level, rules_list, typed_leaf}
use Rattle.lmn_congruence.specs.Same.{IsRenamed}
use Rattle.lmn_congruence.proofs.Counts.{Occurs}
use Rattle.lmn_reduction.proofs.OneSolid.{solid_is_one}
use Rattle.lmn_congruence.proofs.Renaming.{renamed_agree, renamed_id}
use Rattle.lmn_adequacy.proofs.Images.{fused_renamed}
use Rattle.lmn_adequacy.proofs.ReadRegions.{append_regions, joined, region_from}
use Rattle.lmn_base.proofs.Numbers.{same_or_not, left_not_zero, right_not_zero}

-- a process is another with its bound links renamed
pub record Moved (P P' : Process) : Type 0 where
  pub to : ℕ → ℕ
  pub is : P' ≡ renamed to P
  pub stays : (z : ℕ) → Free z P → to z ≡ z

-- and so are some processes, by one map
pub record MovedList (Ps Ps' : List Process) : Type 0 where
  pub to : ℕ → ℕ
  pub is : Ps' ≡ map (renamed to) Ps
  pub stays : (z : ℕ) → Free z (together Ps) → to z ≡ z

-- and so are two lists of processes, by one map
pub record MovedLists (Ps Ps' Qs Qs' : List Process) : Type 0 where
  pub to : ℕ → ℕ
  pub first : Ps' ≡ map (renamed to) Ps
  pub second : Qs' ≡ map (renamed to) Qs
  pub stays : (z : ℕ) → Free z (pair (together Ps) (together Qs)) → to z ≡ z

-- ---- two maps in one

abbrev blend : (ℕ → ℕ) → (ℕ → ℕ) → (ℕ → ℕ) → ℕ → ℕ
blend m a b z = cond (eqb (m z) 0) (b z) (a z)

module _ (P Q : Process) (a b : ℕ → ℕ) (l : Linked (pair P Q)) (f : (z : ℕ) → Free z P → a z ≡ z) (g : (z : ℕ) → Free z Q → b z ≡ z) where
  abbrev both : ℕ → ℕ
  both = blend (λ z. occurrences z P) a b

  chosen : (m x y : ℕ) → m ≢ 0 → cond (eqb m 0) x y ≡ y
  chosen m x y d = grind arith

  other : (m x y : ℕ) → m ≡ 0 → cond (eqb m 0) x y ≡ x
  other m x y e = grind arith

  one_each : (m n : ℕ) → m ≢ 0 → n ≢ 0 → m + n ≤ 2 → m ≡ 1
  one_each m n d e b = grind arith

  at_first : (z : ℕ) → Occurs z P → both z ≡ a z
  at_first z o = chosen (occurrences z P) (b z) (a z) o

  at_second : (z : ℕ) → Occurs z Q → both z ≡ b z
  at_second z o = go (same_or_not (occurrences z P) 0)
    where
      flip : (m n : ℕ) → m + n ≤ 2 → n + m ≤ 2
      flip m n k = omega (arith, k)

      go : (occurrences z P ≡ 0) ⊎ (occurrences z P ≢ 0) → both z ≡ b z
      go (inl e) = other (occurrences z P) (b z) (a z) e
      go (inr d) =
          let k = l.at_most_twice z in
          let e : occurrences z P ≡ 1 = one_each (occurrences z P) (occurrences z Q) d o k in
          let e' : occurrences z Q ≡ 1 = one_each (occurrences z Q) (occurrences z P) o d (flip (occurrences z P) (occurrences z Q) k) in
          chosen (occurrences z P) (b z) (a z) d ∙ f z e ∙ sym (g z e')

  both_stay : (z : ℕ) → occurrences z P + occurrences z Q ≡ 1 → both z ≡ z
  both_stay z e = go (same_or_not (occurrences z P) 0)
    where
      not_none : (m n : ℕ) → m + n ≡ 1 → m ≢ 0 → m ≡ 1
      not_none m n e d = grind arith

      go : (occurrences z P ≡ 0) ⊎ (occurrences z P ≢ 0) → both z ≡ z
      go (inl p) = other (occurrences z P) (b z) (a z) p ∙ g z (omega (arith, p, e))
      go (inr d) = chosen (occurrences z P) (b z) (a z) d ∙ f z (not_none (occurrences z P) (occurrences z Q) e d)

-- two processes beside each other are moved by one map, where they are linked
pub moved_pair : {P P' Q Q' : Process} → Moved P P' → Moved Q Q' → Linked (pair P Q) → Moved (pair P Q) (pair P' Q')
moved_pair {P} {P'} {Q} {Q'} u v l = record {
  to = both P Q u.to v.to l u.stays v.stays;
  is = cc (u.is ∙ sym (renamed_agree (both P Q u.to v.to l u.stays v.stays) u.to P (λ z o. at_first P Q u.to v.to l u.stays v.stays z o)), v.is ∙ sym (renamed_agree (both P Q u.to v.to l u.stays v.stays) v.to Q (λ z o. at_second P Q u.to v.to l u.stays v.stays z o)));
  stays = λ z e. both_stay P Q u.to v.to l u.stays v.stays z e;
}

-- a membrane is moved with its content
pub moved_inside : {P P' : Process} → Moved P P' → Moved (membrane P) (membrane P')
moved_inside u = record { to = u.to; is = ap membrane u.is; stays = u.stays }

-- a process is moved to itself
pub moved_same : {P P' : Process} → P ≡ P' → Moved P P'
moved_same {P} e = record { to = λ z. z; is = sym e ∙ sym (renamed_id P); stays = λ z f. refl }

-- ---- lists

occurrences_append : (z : ℕ) (Ps Qs : List Process) → occurrences z (together (Ps ++ Qs)) ≡ occurrences z (together Ps) + occurrences z (together Qs)
occurrences_append z [] Qs = omega arith
occurrences_append z (P ∷ Ps) Qs = omega (arith, occurrences_append z Ps Qs)

-- lists of processes that are linked together are linked side by side
pub linked_append : (Ps Qs : List Process) → Linked (together (Ps ++ Qs)) → Linked (pair (together Ps) (together Qs))
linked_append Ps Qs l = record { at_most_twice = λ z. omega (arith, occurrences_append z Ps Qs, l.at_most_twice z) }

agree_list : (f g : ℕ → ℕ) (Ps : List Process) → ((z : ℕ) → Occurs z (together Ps) → f z ≡ g z) → map (renamed f) Ps ≡ map (renamed g) Ps
agree_list f g [] h = refl
agree_list f g (P ∷ Ps) h = cc (renamed_agree f g P (λ z o. h z (left_not_zero (occurrences z P) (occurrences z (together Ps)) o)), agree_list f g Ps (λ z o. h z (right_not_zero (occurrences z P) (occurrences z (together Ps)) o)))

map_append : (f : Process → Process) (Ps Qs : List Process) → map f (Ps ++ Qs) ≡ map f Ps ++ map f Qs
map_append f [] Qs = refl
map_append f (P ∷ Ps) Qs = ap (λ k. f P ∷ k) (map_append f Ps Qs)

-- two lists of processes are moved by one map
pub moved_append : {Ps Ps' Qs Qs' : List Process} → MovedList Ps Ps' → MovedList Qs Qs' → Linked (together (Ps ++ Qs)) → MovedList (Ps ++ Qs) (Ps' ++ Qs')
moved_append {Ps} {Ps'} {Qs} {Qs'} u v k =
    let P = together Ps in
    let Q = together Qs in
    let l = linked_append Ps Qs k in
    let w : ℕ → ℕ = both P Q u.to v.to l u.stays v.stays in
    let e : Ps' ≡ map (renamed w) Ps = u.is ∙ sym (agree_list w u.to Ps (λ z o. at_first P Q u.to v.to l u.stays v.stays z o)) in
    let f : Qs' ≡ map (renamed w) Qs = v.is ∙ sym (agree_list w v.to Qs (λ z o. at_second P Q u.to v.to l u.stays v.stays z o)) in
    record {
      to = w;
      is = cc (e, f) ∙ sym (map_append (renamed w) Ps Qs);
      stays = λ z g. both_stay P Q u.to v.to l u.stays v.stays z (sym (occurrences_append z Ps Qs) ∙ g);
    }

-- a list of processes is moved to itself
pub moved_list_same : {Ps Ps' : List Process} → Ps ≡ Ps' → MovedList Ps Ps'
moved_list_same {Ps} e = record { to = λ z. z; is = sym e ∙ sym (same_list Ps); stays = λ z f. refl }
  where
    same_list : (Ps : List Process) → map (renamed (λ z. z)) Ps ≡ Ps
    same_list [] = refl
    same_list (P ∷ Ps) = cc (renamed_id P, same_list Ps)

-- a process is moved as a list of one
pub moved_one : {P P' : Process} → Moved P P' → MovedList (P ∷ []) (P' ∷ [])
moved_one {P} u = record { to = u.to; is = ap (λ k. k ∷ []) u.is; stays = λ z f. u.stays z (omega (arith, f)) }

-- and as the first of a list
pub moved_cons : {P P' : Process} {Ps Ps' : List Process} → Moved P P' → MovedList Ps Ps' → Linked (together (P ∷ Ps)) → MovedList (P ∷ Ps) (P' ∷ Ps')
moved_cons u v l = moved_append (moved_one u) v l

-- processes that are renamed are renamed together
pub renamed_list : (f : ℕ → ℕ) (Ps : List Process) → together (map (renamed f) Ps) ≡ renamed f (together Ps)
renamed_list f [] = refl
renamed_list f (P ∷ Ps) = ap (pair (renamed f P)) (renamed_list f Ps)

-- processes that are moved are moved together
pub moved_together : {Ps Ps' : List Process} → MovedList Ps Ps' → Moved (together Ps) (together Ps')
moved_together {Ps} u = record { to = u.to; is = ap together u.is ∙ renamed_list u.to Ps; stays = u.stays }

-- two lists that are each moved are moved by one map
pub moved_beside : {Ps Ps' Qs Qs' : List Process} → MovedList Ps Ps' → MovedList Qs Qs' → Linked (pair (together Ps) (together Qs)) → MovedLists Ps Ps' Qs Qs'
moved_beside {Ps} {Ps'} {Qs} {Qs'} u v l =
    let P = together Ps in
    let Q = together Qs in
    let w : ℕ → ℕ = both P Q u.to v.to l u.stays v.stays in
    record {
      to = w;
      first = u.is ∙ sym (agree_list w u.to Ps (λ z o. at_first P Q u.to v.to l u.stays v.stays z o));
      second = v.is ∙ sym (agree_list w v.to Qs (λ z o. at_second P Q u.to v.to l u.stays v.stays z o));
      stays = λ z g. both_stay P Q u.to v.to l u.stays v.stays z g;
    }

-- two pairs of lists that are moved are moved by one map, one behind the other
pub moved_behind : {Ps Ps' Qs Qs' Rs Rs' Ss Ss' : List Process} → MovedLists Ps Ps' Qs Qs' → MovedLists Rs Rs' Ss Ss' → Linked (pair (together (Ps ++ Rs)) (together (Qs ++ Ss))) → MovedLists (Ps ++ Rs) (Ps' ++ Rs') (Qs ++ Ss) (Qs' ++ Ss')
moved_behind {Ps} {Ps'} {Qs} {Qs'} {Rs} {Rs'} {Ss} {Ss'} u v k =
    let P = pair (together Ps) (together Qs) in
    let Q = pair (together Rs) (together Ss) in
    let l : Linked (pair P Q) = record { at_most_twice = λ z. omega (arith, occurrences_append z Ps Rs, occurrences_append z Qs Ss, k.at_most_twice z) } in
    let w : ℕ → ℕ = both P Q u.to v.to l u.stays v.stays in
    let f : (z : ℕ) → Occurs z P → w z ≡ u.to z = λ z o. at_first P Q u.to v.to l u.stays v.stays z o in
    let g : (z : ℕ) → Occurs z Q → w z ≡ v.to z = λ z o. at_second P Q u.to v.to l u.stays v.stays z o in
    let a : Ps' ≡ map (renamed w) Ps = u.first ∙ sym (agree_list w u.to Ps (λ z o. f z (in_left (occurrences z (together Ps)) (occurrences z (together Qs)) o))) in
    let b : Qs' ≡ map (renamed w) Qs = u.second ∙ sym (agree_list w u.to Qs (λ z o. f z (in_right (occurrences z (together Ps)) (occurrences z (together Qs)) o))) in
    let c : Rs' ≡ map (renamed w) Rs = v.first ∙ sym (agree_list w v.to Rs (λ z o. g z (in_left (occurrences z (together Rs)) (occurrences z (together Ss)) o))) in
    let d : Ss' ≡ map (renamed w) Ss = v.second ∙ sym (agree_list w v.to Ss (λ z o. g z (in_right (occurrences z (together Rs)) (occurrences z (together Ss)) o))) in
    record {
      to = w;
      first = cc (a, c) ∙ sym (map_append (renamed w) Ps Rs);
      second = cc (b, d) ∙ sym (map_append (renamed w) Qs Ss);
      stays = λ z e. both_stay P Q u.to v.to l u.stays v.stays z (omega (arith, occurrences_append z Ps Rs, occurrences_append z Qs Ss, e));
    }
  where
    in_left : (m n : ℕ) → m ≢ 0 → m + n ≢ 0
    in_left m n d = grind arith

    in_right : (m n : ℕ) → n ≢ 0 → m + n ≢ 0
    in_right m n d = grind arith

-- two lists are moved to themselves
pub moved_lists_same : {Ps Ps' Qs Qs' : List Process} → Ps ≡ Ps' → Qs ≡ Qs' → MovedLists Ps Ps' Qs Qs'
unfolding moved_list_same
moved_lists_same {Ps} {Ps'} {Qs} {Qs'} e f =
    let u = moved_list_same e in
    let v = moved_list_same f in
    record { to = λ z. z; first = u.is; second = v.is; stays = λ z g. refl }

-- ---- the solids of two levels whose processes differ so

append_no_regions : (ms : Regions) → append_regions ms no_region ≡ ms
append_no_regions no_region = refl
append_no_regions (region_and m ms) = ap (region_and m) (append_no_regions ms)

leaves_read : (v : ℕ → ℕ) (ls : List Leaf) → region_from (fused v (together (map leaf_process ls))) ≡ region (fused_leaves v ls) no_region []
leaves_read v [] = refl
leaves_read v (atom_leaf a xs ∷ ls) = ap (joined (region (record { label = a; links = map v xs } ∷ []) no_region [])) (leaves_read v ls)
leaves_read v (connector_leaf x y ∷ ls) = ap (joined (region [] no_region [])) (leaves_read v ls)
leaves_read v (typed_leaf p x ∷ ls) = ap (joined (region [] no_region [])) (leaves_read v ls)

rules_read : (v : ℕ → ℕ) (rs : List Rule) → region_from (fused v (together (map rule rs))) ≡ region [] no_region rs
rules_read v [] = refl
rules_read v (r ∷ rs) = ap (joined (region [] no_region (r ∷ []))) (rules_read v rs)

three_joined : (A B C : Region) (xs : List SolidAtom) (ms : Regions) (rs : List Rule) → A ≡ region xs no_region [] → B ≡ region [] ms [] → C ≡ region [] no_region rs → joined A (joined B C) ≡ region xs ms rs
three_joined A B C xs ms rs e f g = rw (e, f, g) (cc (append-nil xs, append_no_regions ms))

mutual
  level_read : (v : ℕ → ℕ) (l : Level) → region_from (fused v (level_process l)) ≡ fused_level v l
  level_read v (level leaves membranes contexts rule_contexts rules) =
      three_joined (region_from (fused v (together (map leaf_process leaves)))) (region_from (fused v (together (levels_processes membranes)))) (region_from (fused v (together (map rule (rules_list rules)))))
      (fused_leaves v leaves) (fused_levels v membranes) (rules_list rules) (leaves_read v leaves) (levels_read v membranes) (rules_read v (rules_list rules))

  levels_read : (v : ℕ → ℕ) (ls : Levels) → region_from (fused v (together (levels_processes ls))) ≡ region [] (fused_levels v ls) []
  levels_read v no_level = refl
  levels_read v (level_and l ls) = cc (level_read v l, levels_read v ls)

-- the solids of levels that are moved differ by a renaming
pub moved_solid : {L L' : Level} {S S' : Region} → Moved (level_process L) (level_process L') → SolidOf L S → SolidOf L' S' → IsRenamed S S'
moved_solid {L} {L'} {S} {S'} u s s' =
    let w : ℕ → ℕ = λ z. s'.to (u.to z) in
    let e : fused s'.to (level_process L') ≡ fused w (level_process L) = ap (fused s'.to) u.is ∙ fused_renamed s'.to u.to (level_process L) in
    let is : S' ≡ fused_level w L = s'.is ∙ sym (level_read s'.to L') ∙ ap region_from e ∙ level_read w L in
    solid_is_one L S S' s (record { closed_top = s.closed_top; to = w; joins = joins_from s'.to u.to (level_process L) (subst (Joins s'.to) u.is s'.joins); is = is; closed = s'.closed })
  where
    joins_from : (v f : ℕ → ℕ) (P : Process) → Joins v (renamed f P) → Joins (λ z. v (f z)) P
    joins_from v f nothing j = tt
    joins_from v f (connector x y) j = j
    joins_from v f (atom a xs) j = tt
    joins_from v f (pair P Q) j = (joins_from v f P j.0, joins_from v f Q j.1)
    joins_from v f (membrane P) j = joins_from v f P j
    joins_from v f (rule r) j = tt
