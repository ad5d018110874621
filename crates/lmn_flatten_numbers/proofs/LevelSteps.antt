-- Loops that give new links to each of some parts.
use Rattle.std.proofs.Common.{◌≡◌, ℕ, zero, suc, ◌+◌, ◌<◌, ◌≤◌, List, [], ◌∷◌, ◌++◌, map, length, set, get_or, take, drop, slice_get, Some, All, refl, sym, ap, ◌∙◌, subst, arith}
use Rattle.std.specs.List.{flat_map}
use Rattle.std.proofs.lemmas.Option.{get_or_from_slice_get}
use Rattle.std.proofs.lemmas.List.{take_more, take_all, map-append, append-nil, length-set, take_more_set, drop-set-lt}
use Rattle.std.proofs.lemmas.Grind.{drop_more_same}
use Rattle.std.proofs.lemmas.List.Concat.{flat_map-append}
use Rattle.std.proofs.lemmas.List.Elements.{All-nil, All-cons, All-head, All-tail}
use Rattle.lmn_base.specs.declared.level.Leaf.{Leaf}
use Rattle.lmn_base.specs.declared.level.Level.{Level, out-Level}
use Rattle.lmn_base.specs.declared.level.Level.TheFolds.{fold_out-Level}
use Rattle.lmn_base.specs.declared.level.Level.TheViews.{roll-Level}
use Rattle.lmn_base.specs.declared.level.Occ.{Occ}
use Rattle.lmn_base.specs.Levels.{leaves_of, occurrences_of_leaf, links_of, link_numbers}
use Rattle.lmn_base_walks.proofs.ItemLemmas.{leaves_apart}
use Rattle.lmn_flatten_numbers.specs.declared.numbering.Numbering.{Numbering}
use Rattle.lmn_flatten_numbers.specs.Numberings.{IsNumbering, FollowsNumbering, GivesNumbers}
use Rattle.lmn_flatten_numbers.specs.Renumbered.{renumbered_occurrence, renumbered_leaf, renumbered, renumbered_step}
use Rattle.lmn_flatten_numbers.proofs.NumberSteps.{gives_none, gives_more, agrees_before}
use Rattle.lmn_base.proofs.Common.{levels_in as number_of_levels, membrane_smaller}
use Rattle.lmn_base.proofs.Lists.{same_behind}

-- The first i of the parts xs have got their numbers, and ys are the parts now. `f` renames a part, and `g` lists its
-- links.
pub record Renumbers {A : Type 0} (f : (ℕ → ℕ) → A → A) (g : A → List ℕ) (t u : Numbering) (i : ℕ) (xs ys : List A) : Type 0 where
  pub gives : GivesNumbers (flat_map g (take i xs)) t u
  pub size : length ys ≡ length xs
  pub done : (to : ℕ → ℕ) → FollowsNumbering to u → take i ys ≡ map (f to) (take i xs)
  pub rest : drop i ys ≡ drop i xs

-- what holds of all numbers of two lists holds of all of the first
pub all_left : (S : ℕ → Type 0) (xs ys : List ℕ) → All S (xs ++ ys) → All S xs
all_left S [] ys h = All-nil S
all_left S (x ∷ xs) ys h = All-cons S x xs (All-head S x (xs ++ ys) h) (all_left S xs ys (All-tail S x (xs ++ ys) h))

-- and of all of the second
pub all_right : (S : ℕ → Type 0) (xs ys : List ℕ) → All S (xs ++ ys) → All S ys
all_right S [] ys h = h
all_right S (x ∷ xs) ys h = all_right S xs ys (All-tail S x (xs ++ ys) h)

module _ {A : Type 0} (f : (ℕ → ℕ) → A → A) (g : A → List ℕ) where
  pub renumbers_start : (t : Numbering) (xs : List A) → IsNumbering t → Renumbers f g t t 0 xs xs
  renumbers_start t xs v = record { gives = gives_none t v; size = refl; done = λ to a. refl; rest = refl }

  -- the links of the next part have keys
  pub renumbers_within : (t u : Numbering) (i : ℕ) (xs ys : List A) (d : A) → i < length xs → Renumbers f g t u i xs ys
      → All (λ k. k < length t.numbers) (flat_map g xs) → All (λ k. k < length u.numbers) (g (get_or ys i d))
  renumbers_within t u i xs ys d l r all =
      let P : List A → Type 0 = λ zs. All (λ k. k < length t.numbers) (flat_map g zs) in
      let Q : ℕ → Type 0 = λ n. All (λ k. k < n) (g (get_or ys i d)) in
      let R : A → Type 0 = λ a. All (λ k. k < length t.numbers) (g a) in
      let keys = r.gives.keys in
      subst Q (sym keys) (subst R (sym (same_behind i xs ys d r.rest)) (part (λ k. k < length t.numbers) i xs d l all))
    where
      part : (S : ℕ → Type 0) (i : ℕ) (xs : List A) (d : A) → i < length xs → All S (flat_map g xs) → All S (g (get_or xs i d))
      part S i [] d l h = absurd (omega (arith, l))
      part S zero (x ∷ xs) d l h = all_left S (g x) (flat_map g xs) h
      part S (suc i) (x ∷ xs) d l h = part S i xs d (omega (arith, l)) (all_right S (g x) (flat_map g xs) h)

  -- the next part has got its numbers
  pub renumbers_next : (t u v : Numbering) (i : ℕ) (xs ys : List A) (y d : A) → i < length xs → Renumbers f g t u i xs ys
      → GivesNumbers (g (get_or ys i d)) u v → ((to : ℕ → ℕ) → FollowsNumbering to v → y ≡ f to (get_or ys i d)) → Renumbers f g t v (i + 1) xs (set ys i y)
  renumbers_next t u v i xs ys y d l r h e =
      let same = same_behind i xs ys d r.rest in
      let P : List ℕ → Type 0 = λ ks. GivesNumbers ks t v in
      let Q : A → Type 0 = λ a. GivesNumbers (g a) u v in
      let size = r.size in
      let within : i < length ys = omega (arith, l, size) in
      record {
        gives = subst P (sym (next_links i xs d l)) (gives_more (flat_map g (take i xs)) (g (get_or xs i d)) t u v r.gives (subst Q same h));
        size = length-set ys i y ∙ r.size;
        done = λ to a.
            take_more_set ys i y within ∙ ap (λ zs. zs ++ y ∷ []) (r.done to (agrees_before (g (get_or ys i d)) u v to h a))
            ∙ ap (λ z. map (f to) (take i xs) ++ z ∷ []) (e to a ∙ ap (f to) same)
            ∙ sym (ap (map (f to)) (take_more xs i d l) ∙ map-append (f to) (take i xs) (get_or xs i d ∷ []));
        rest = drop-set-lt (i + 1) ys i y (omega arith) ∙ drop_more_same ys xs i r.rest;
      }
    where
      next_links : (i : ℕ) (xs : List A) (d : A) → i < length xs → flat_map g (take (i + 1) xs) ≡ flat_map g (take i xs) ++ g (get_or xs i d)
      next_links i xs d l =
          ap (flat_map g) (take_more xs i d l) ∙ flat_map-append g (take i xs) (get_or xs i d ∷ [])
          ∙ ap (λ ks. flat_map g (take i xs) ++ ks) (append-nil (g (get_or xs i d)))

  -- every part has got its numbers
  pub renumbers_links : (t u : Numbering) (i : ℕ) (xs ys : List A) → length xs ≤ i → Renumbers f g t u i xs ys → GivesNumbers (flat_map g xs) t u
  renumbers_links t u i xs ys l r = let P : List A → Type 0 = λ zs. GivesNumbers (flat_map g zs) t u in subst P (take_all i xs l) r.gives

  pub renumbers_parts : (t u : Numbering) (i : ℕ) (xs ys : List A) → length xs ≤ i → Renumbers f g t u i xs ys → (to : ℕ → ℕ) → FollowsNumbering to u → ys ≡ map (f to) xs
  renumbers_parts t u i xs ys l r to a =
      let size = r.size in
      sym (take_all i ys (omega (arith, l, size))) ∙ r.done to a ∙ ap (map (f to)) (take_all i xs l)

-- ---- what stands in a level

-- a level with new links
pub renumbered_out : (to : ℕ → ℕ) (l : Level) → renumbered to l ≡ roll-Level (let o = out-Level l in record {
  leaves = map (renumbered_leaf to) o.leaves;
  membranes = map (renumbered to) o.membranes;
  contexts = o.contexts;
  rule_contexts = o.rule_contexts;
  rules = o.rules;
})
renumbered_out to l = fold_out-Level Level (renumbered_step to) l

-- its links are those of its leaves and then those of its membranes
pub links_apart : (l : Level) → links_of l ≡ link_numbers (flat_map occurrences_of_leaf (out-Level l).leaves) ++ flat_map links_of (out-Level l).membranes
links_apart l =
    ap (λ ls. link_numbers (flat_map occurrences_of_leaf ls)) (leaves_apart l)
    ∙ ap link_numbers (flat_map-append occurrences_of_leaf (out-Level l).leaves (flat_map leaves_of (out-Level l).membranes))
    ∙ map-append (λ (o : Occ). o.link) (flat_map occurrences_of_leaf (out-Level l).leaves) (flat_map occurrences_of_leaf (flat_map leaves_of (out-Level l).membranes))
    ∙ ap (λ ks. link_numbers (flat_map occurrences_of_leaf (out-Level l).leaves) ++ ks) (below (out-Level l).membranes)
  where
    below : (ls : List Level) → link_numbers (flat_map occurrences_of_leaf (flat_map leaves_of ls)) ≡ flat_map links_of ls
    below [] = refl
    below (l ∷ ls) =
        ap link_numbers (flat_map-append occurrences_of_leaf (leaves_of l) (flat_map leaves_of ls))
        ∙ map-append (λ (o : Occ). o.link) (flat_map occurrences_of_leaf (leaves_of l)) (flat_map occurrences_of_leaf (flat_map leaves_of ls))
        ∙ ap (λ ks. links_of l ++ ks) (below ls)

-- the links of occurrences, one by one, and of leaves, leaf by leaf
pub links_one : (os : List Occ) → link_numbers os ≡ flat_map (λ o. o.link ∷ []) os
links_one [] = refl
links_one (o ∷ os) = ap (λ ks. o.link ∷ ks) (links_one os)

-- the links of leaves, leaf by leaf
pub links_by_leaf : (ls : List Leaf) → link_numbers (flat_map occurrences_of_leaf ls) ≡ flat_map (λ leaf. link_numbers (occurrences_of_leaf leaf)) ls
links_by_leaf [] = refl
links_by_leaf (l ∷ ls) =
    map-append (λ (o : Occ). o.link) (occurrences_of_leaf l) (flat_map occurrences_of_leaf ls) ∙ ap (λ ks. link_numbers (occurrences_of_leaf l) ++ ks) (links_by_leaf ls)

-- ---- the loop over the occurrences of an atom

module _ (t u : Numbering) (i n : ℕ) (xs ys : List Occ) (o : Occ) (l : i < n) (e : n ≡ length xs) (read : slice_get ys i ≡ Some o)
    (r : Renumbers renumbered_occurrence (λ o. o.link ∷ []) t u i xs ys) where
  here : get_or ys i o ≡ o
  here = get_or_from_slice_get ys i o o read

  within : i < length xs
  within = omega (arith, l, e)

  pub link_within : All (λ k. k < length t.numbers) (link_numbers xs) → o.link < length u.numbers
  link_within all =
      let P : List ℕ → Type 0 = All (λ k. k < length t.numbers) in
      let Q : Occ → Type 0 = λ o. All (λ k. k < length u.numbers) (o.link ∷ []) in
      let one = renumbers_within renumbered_occurrence (λ o. o.link ∷ []) t u i xs ys o within r (subst P (links_one xs) all) in
      All-head (λ k. k < length u.numbers) o.link [] (subst Q here one)

  pub link_next : (v : Numbering) (x : ℕ) (zs : List Occ) → GivesNumbers (o.link ∷ []) u v → ((to : ℕ → ℕ) → FollowsNumbering to v → x ≡ to o.link)
      → zs ≡ set ys i (record { link = x; pos = o.pos }) → Renumbers renumbered_occurrence (λ o. o.link ∷ []) t v (i + 1) xs zs
  link_next v x zs g h w =
      let P : List Occ → Type 0 = λ zs. Renumbers renumbered_occurrence (λ o. o.link ∷ []) t v (i + 1) xs zs in
      let Q : Occ → Type 0 = λ o. GivesNumbers (o.link ∷ []) u v in
      subst P (sym w) (renumbers_next renumbered_occurrence (λ o. o.link ∷ []) t u v i xs ys (record { link = x; pos = o.pos }) o within r (subst Q (sym here) g)
      (λ to a. ap (λ y. record { link = y; pos = o.pos }) (h to a) ∙ sym (ap (renumbered_occurrence to) here)))

-- all links of a leaf have got their numbers
pub links_given : (t u : Numbering) (i n : ℕ) (xs ys : List Occ) → n ≤ i → n ≡ length xs → Renumbers renumbered_occurrence (λ o. o.link ∷ []) t u i xs ys → GivesNumbers (link_numbers xs) t u
links_given t u i n xs ys l e r =
    let P : List ℕ → Type 0 = λ ks. GivesNumbers ks t u in
    subst P (sym (links_one xs)) (renumbers_links renumbered_occurrence (λ o. o.link ∷ []) t u i xs ys (omega (arith, l, e)) r)

-- ---- the loop over the leaves of a level

-- the links of a leaf are within the bounds
pub leaf_within : (t u : Numbering) (i : ℕ) (xs ys : List Leaf) (d : Leaf) → i < length xs → Renumbers renumbered_leaf (λ leaf. link_numbers (occurrences_of_leaf leaf)) t u i xs ys
    → All (λ k. k < length t.numbers) (link_numbers (flat_map occurrences_of_leaf xs)) → All (λ k. k < length u.numbers) (link_numbers (occurrences_of_leaf (get_or ys i d)))
leaf_within t u i xs ys d l r all =
    let P : List ℕ → Type 0 = All (λ k. k < length t.numbers) in
    renumbers_within renumbered_leaf (λ leaf. link_numbers (occurrences_of_leaf leaf)) t u i xs ys d l r (subst P (links_by_leaf xs) all)

-- all links of leaves have got their numbers
pub leaves_given : (t u : Numbering) (i : ℕ) (xs ys : List Leaf) → length xs ≤ i → Renumbers renumbered_leaf (λ leaf. link_numbers (occurrences_of_leaf leaf)) t u i xs ys
    → GivesNumbers (link_numbers (flat_map occurrences_of_leaf xs)) t u
leaves_given t u i xs ys l r =
    let P : List ℕ → Type 0 = λ ks. GivesNumbers ks t u in
    subst P (sym (links_by_leaf xs)) (renumbers_links renumbered_leaf (λ leaf. link_numbers (occurrences_of_leaf leaf)) t u i xs ys l r)

-- ---- a level, once its leaves and membranes have got their numbers

module _ (t u v : Numbering) (l : Level) (leaves : List Leaf) (membranes : List Level) (e : leaves ≡ (out-Level l).leaves) (f : membranes ≡ (out-Level l).membranes) where
  pub leaves_within : All (λ k. k < length t.numbers) (links_of l) → All (λ k. k < length t.numbers) (link_numbers (flat_map occurrences_of_leaf leaves))
  leaves_within all =
      let P : List ℕ → Type 0 = All (λ k. k < length t.numbers) in
      let Q : List Leaf → Type 0 = λ ls. All (λ k. k < length t.numbers) (link_numbers (flat_map occurrences_of_leaf ls)) in
      subst Q (sym e) (all_left (λ k. k < length t.numbers) (link_numbers (flat_map occurrences_of_leaf (out-Level l).leaves)) (flat_map links_of (out-Level l).membranes) (subst P (links_apart l) all))

  pub membranes_within : GivesNumbers (link_numbers (flat_map occurrences_of_leaf leaves)) t u → All (λ k. k < length t.numbers) (links_of l) → All (λ k. k < length u.numbers) (flat_map links_of membranes)
  membranes_within g all =
      let P : List ℕ → Type 0 = All (λ k. k < length t.numbers) in
      let Q : List Level → Type 0 = λ ls. All (λ k. k < length t.numbers) (flat_map links_of ls) in
      let R : ℕ → Type 0 = λ n. All (λ k. k < n) (flat_map links_of membranes) in
      let keys = g.keys in
      subst R (sym keys) (subst Q (sym f)
      (all_right (λ k. k < length t.numbers) (link_numbers (flat_map occurrences_of_leaf (out-Level l).leaves)) (flat_map links_of (out-Level l).membranes) (subst P (links_apart l) all)))

  pub level_given : GivesNumbers (link_numbers (flat_map occurrences_of_leaf leaves)) t u → GivesNumbers (flat_map links_of membranes) u v → GivesNumbers (links_of l) t v
  level_given g h =
      let P : List ℕ → Type 0 = λ ks. GivesNumbers ks t v in
      subst P (sym (links_apart l ∙ ap (λ ls. link_numbers (flat_map occurrences_of_leaf ls) ++ flat_map links_of (out-Level l).membranes) (sym e) ∙ ap (λ ls. link_numbers (flat_map occurrences_of_leaf leaves) ++ flat_map links_of ls) (sym f)))
      (gives_more (link_numbers (flat_map occurrences_of_leaf leaves)) (flat_map links_of membranes) t u v g h)

  pub level_renumbered : (new_leaves : List Leaf) (new_membranes : List Level) → GivesNumbers (flat_map links_of membranes) u v
      → ((to : ℕ → ℕ) → FollowsNumbering to u → new_leaves ≡ map (renumbered_leaf to) leaves) → ((to : ℕ → ℕ) → FollowsNumbering to v → new_membranes ≡ map (renumbered to) membranes)
      → (to : ℕ → ℕ) → FollowsNumbering to v → roll-Level (let o = out-Level l in record {
        leaves = new_leaves;
        membranes = new_membranes;
        contexts = o.contexts;
        rule_contexts = o.rule_contexts;
        rules = o.rules;
      }) ≡ renumbered to l
  level_renumbered new_leaves new_membranes g h i to a =
      let o = out-Level l in
      let left = h to (agrees_before (flat_map links_of membranes) u v to g a) ∙ ap (map (renumbered_leaf to)) e in
      let right = i to a ∙ ap (map (renumbered to)) f in
      ap (λ ls. roll-Level (record { leaves = ls; membranes = new_membranes; contexts = o.contexts; rule_contexts = o.rule_contexts; rules = o.rules })) left
      ∙ ap (λ ls. roll-Level (record { leaves = map (renumbered_leaf to) o.leaves; membranes = ls; contexts = o.contexts; rule_contexts = o.rule_contexts; rules = o.rules })) right
      ∙ sym (renumbered_out to l)

-- ---- the loop over the membranes of a level

module _ (t u : Numbering) (i : ℕ) (xs ys : List Level) (x : Level) (l : i < length xs) (read : x ≡ get_or ys i x) (r : Renumbers renumbered links_of t u i xs ys) where
  pub membrane_within : All (λ k. k < length t.numbers) (flat_map links_of xs) → All (λ k. k < length u.numbers) (links_of x)
  membrane_within all =
      let P : Level → Type 0 = λ y. All (λ k. k < length u.numbers) (links_of y) in
      subst P (sym read) (renumbers_within renumbered links_of t u i xs ys x l r all)

  pub membrane_next : (v : Numbering) (y : Level) → GivesNumbers (links_of x) u v → ((to : ℕ → ℕ) → FollowsNumbering to v → y ≡ renumbered to x) → Renumbers renumbered links_of t v (i + 1) xs (set ys i y)
  membrane_next v y g h =
      let P : Level → Type 0 = λ z. GivesNumbers (links_of z) u v in
      renumbers_next renumbered links_of t u v i xs ys y x l r (subst P read g) (λ to a. h to a ∙ ap (renumbered to) read)

-- the next membrane is smaller than the level
pub membrane_below : (size : ℕ) (l : Level) (i : ℕ) (xs : List Level) (x : Level) → i < length xs → x ≡ get_or xs i x → xs ≡ (out-Level l).membranes
    → number_of_levels l ≡ size → number_of_levels x < size
membrane_below size l i xs x h read e whole =
    let P : Level → Type 0 = λ y. number_of_levels y < number_of_levels l in
    let Q : List Level → Type 0 = λ ms. i < length ms in
    let R : ℕ → Type 0 = λ n. number_of_levels x < n in
    subst R whole (subst P (sym (read ∙ ap (λ ms. get_or ms i x) e)) (membrane_smaller l x i (subst Q e h)))

-- the same in the loop that changes the membranes
pub next_smaller : (size : ℕ) (l : Level) (t u : Numbering) (i : ℕ) (xs ys : List Level) (x : Level) → i < length xs → x ≡ get_or ys i x → Renumbers renumbered links_of t u i xs ys
    → xs ≡ (out-Level l).membranes → number_of_levels l ≡ size → number_of_levels x < size
next_smaller size l t u i xs ys x h read r e whole = membrane_below size l i xs x h (read ∙ same_behind i xs ys x r.rest) e whole
