-- Occurrences counted one after another.
use Rattle.std.proofs.Common.{◌≡◌, ℕ, zero, suc, ◌+◌, ◌<◌, ◌≤◌, ◌⊎◌, inl, inr, ◌==◌, Bool, if◌then◌else◌, List, [], ◌∷◌, ◌++◌, map, filter, length, set, get_or, take, slice_get, Some, All, refl, sym, ap, ◌∙◌, subst, arith}
use Rattle.std.specs.List.{flat_map}
use Rattle.std.proofs.lemmas.List.{take_more, take_all, map-append, append-nil, append_assoc, length-set, length-append, get_or_default}
use Rattle.std.proofs.lemmas.List.Concat.{flat_map-append}
use Rattle.std.proofs.lemmas.List.Elements.{filter-append, All-head}
use Rattle.std.proofs.lemmas.Option.{same_Some}
use Rattle.lmn_base.specs.declared.level.Leaf.{Leaf}
use Rattle.lmn_base.specs.declared.level.Level.{Level, out-Level}
use Rattle.lmn_base.specs.declared.level.Occ.{Occ}
use Rattle.lmn_base.specs.declared.refusal.Pos.{Pos}
use Rattle.lmn_base.specs.Levels.{leaves_of, occurrences_of_leaf, occurrences_of, links_of, link_numbers}
use Rattle.lmn_base_walks.proofs.ItemLemmas.{leaves_apart, flat_map-flat_map}
use Rattle.lmn_flatten_numbers.specs.declared.tally.Tally.{Tally}
use Rattle.lmn_flatten_numbers.specs.Tallies.{IsTally, places_among, AreTallies, CountsOccurrences}
use Rattle.lmn_flatten_numbers.proofs.LevelSteps.{all_left, all_right}
use Rattle.lmn_flatten_numbers.proofs.NumberSteps.{same_or_other, read_same, read_other}
use Rattle.lmn_base.proofs.Numbers.{equal_itself as is_itself, unequal}
use Rattle.lmn_base.proofs.Lists.{get_either}

-- ---- where a link stands among more occurrences

among_more : (x : ℕ) (os ps : List Occ) → places_among x (os ++ ps) ≡ places_among x os ++ places_among x ps
among_more x os ps = ap (map (λ (o : Occ). o.pos)) (filter-append (λ (o : Occ). o.link == x) os ps) ∙ map-append (λ (o : Occ). o.pos) (filter (λ o. o.link == x) os) (filter (λ o. o.link == x) ps)

abbrev kept : Occ → Bool → List Pos
kept o t = map (λ (o : Occ). o.pos) (if t then o ∷ [] else [])

here : (o : Occ) → places_among o.link (o ∷ []) ≡ o.pos ∷ []
here o = ap (kept o) (is_itself o.link)

elsewhere : (x : ℕ) (o : Occ) → (x ≡ o.link → ⊥) → places_among x (o ∷ []) ≡ []
elsewhere x o h = ap (kept o) (unequal o.link x (λ e. h (sym e)))

-- ---- counting

-- no places counted leave the tallies
pub counts_none : (t : List Tally) → CountsOccurrences [] t t
counts_none t = record {
  keys = refl;
  more = λ before h. let P : List Occ → Type 0 = λ os. AreTallies os t in subst P (sym (append-nil before)) h;
}

-- places counted and then others are both counted
pub counts_more : (os ps : List Occ) (t u v : List Tally) → CountsOccurrences os t u → CountsOccurrences ps u v → CountsOccurrences (os ++ ps) t v
counts_more os ps t u v g h = record {
  keys = h.keys ∙ g.keys;
  more = λ before i. let P : List Occ → Type 0 = λ os. AreTallies os v in subst P (append_assoc before os ps) (h.more (before ++ os) (g.more before i));
}

-- one place more
pub counts_one : (o : Occ) (old new : List Tally) (t u : Tally) → slice_get old o.link ≡ Some t → ((ps : List Pos) → IsTally ps t → IsTally (ps ++ o.pos ∷ []) u)
    → new ≡ set old o.link u → CountsOccurrences (o ∷ []) old new
counts_one o old new t u read step e =
    let P : List Tally → Type 0 = λ ts. CountsOccurrences (o ∷ []) old ts in
    subst P (sym e) (record { keys = length-set old o.link u; more = λ before h x v r. go before h x v r (same_or_other x o.link) })
  where
    go : (before : List Occ) → AreTallies before old → (x : ℕ) (v : Tally) → slice_get (set old o.link u) x ≡ Some v → (x ≡ o.link) ⊎ (x ≡ o.link → ⊥) → IsTally (places_among x (before ++ o ∷ [])) v
    go before h x v r (inl f) =
        let Q : ℕ → Type 0 = λ y. slice_get (set old o.link u) y ≡ Some v in
        let is : v ≡ u = same_Some v u (sym (subst Q f r) ∙ read_same old o.link u t read) in
        let R : Tally → Type 0 = λ w. IsTally (places_among o.link before ++ o.pos ∷ []) w in
        let S : List Pos → Type 0 = λ ps. IsTally ps v in
        let T : ℕ → Type 0 = λ y. IsTally (places_among y (before ++ o ∷ [])) v in
        subst T (sym f) (subst S (sym (among_more o.link before (o ∷ []) ∙ ap (λ ps. places_among o.link before ++ ps) (here o))) (subst R (sym is) (step (places_among o.link before) (h o.link t read))))
    go before h x v r (inr f) =
        let S : List Pos → Type 0 = λ ps. IsTally ps v in
        subst S (sym (among_more x before (o ∷ []) ∙ ap (λ ps. places_among x before ++ ps) (elsewhere x o f) ∙ append-nil (places_among x before)))
        (h x v (sym (read_other old o.link x u f) ∙ r))

-- ---- loops over parts, each with its occurrences

module _ {A : Type 0} (g : A → List Occ) where
  pub parts_more : (t u v : List Tally) (i : ℕ) (xs : List A) (x : A) → i < length xs → x ≡ get_or xs i x → CountsOccurrences (flat_map g (take i xs)) t u → CountsOccurrences (g x) u v → CountsOccurrences (flat_map g (take (i + 1) xs)) t v
  parts_more t u v i xs x l read h k =
      let P : List Occ → Type 0 = λ os. CountsOccurrences os t v in
      let next : flat_map g (take (i + 1) xs) ≡ flat_map g (take i xs) ++ g x =
      ap (flat_map g) (take_more xs i x l) ∙ flat_map-append g (take i xs) (get_or xs i x ∷ []) ∙ ap (λ os. flat_map g (take i xs) ++ os) (append-nil (g (get_or xs i x)) ∙ ap g (sym read)) in
      subst P (sym next) (counts_more (flat_map g (take i xs)) (g x) t u v h k)

  pub parts_all : (t u : List Tally) (i : ℕ) (xs : List A) → length xs ≤ i → CountsOccurrences (flat_map g (take i xs)) t u → CountsOccurrences (flat_map g xs) t u
  parts_all t u i xs l h = let P : List A → Type 0 = λ ys. CountsOccurrences (flat_map g ys) t u in subst P (take_all i xs l) h

  pub parts_within : (t u : List Tally) (i : ℕ) (xs : List A) (x : A) → i < length xs → x ≡ get_or xs i x → CountsOccurrences (flat_map g (take i xs)) t u
      → All (λ k. k < length t) (link_numbers (flat_map g xs)) → All (λ k. k < length u) (link_numbers (g x))
  parts_within t u i xs x l read h all =
      let P : ℕ → Type 0 = λ n. All (λ k. k < n) (link_numbers (g x)) in
      let Q : A → Type 0 = λ y. All (λ k. k < length t) (link_numbers (g y)) in
      let keys = h.keys in
      subst P (sym keys) (subst Q (sym read) (part (λ k. k < length t) i xs x l all))
    where
      links_append : (os ps : List Occ) → link_numbers (os ++ ps) ≡ link_numbers os ++ link_numbers ps
      links_append os ps = map-append (λ (o : Occ). o.link) os ps

      part : (S : ℕ → Type 0) (i : ℕ) (xs : List A) (d : A) → i < length xs → All S (link_numbers (flat_map g xs)) → All S (link_numbers (g (get_or xs i d)))
      part S i [] d l h = absurd (omega (arith, l))
      part S zero (x ∷ xs) d l h = let P : List ℕ → Type 0 = All S in all_left S (link_numbers (g x)) (link_numbers (flat_map g xs)) (subst P (links_append (g x) (flat_map g xs)) h)
      part S (suc i) (x ∷ xs) d l h =
          let P : List ℕ → Type 0 = All S in part S i xs d (omega (arith, l)) (all_right S (link_numbers (g x)) (link_numbers (flat_map g xs)) (subst P (links_append (g x) (flat_map g xs)) h))

-- ---- a level

-- the places of a level are its own and those of its membranes
pub occurrences_apart : (l : Level) → occurrences_of l ≡ flat_map occurrences_of_leaf (out-Level l).leaves ++ flat_map occurrences_of (out-Level l).membranes
occurrences_apart l =
    ap (flat_map occurrences_of_leaf) (leaves_apart l) ∙ flat_map-append occurrences_of_leaf (out-Level l).leaves (flat_map leaves_of (out-Level l).membranes)
    ∙ ap (λ os. flat_map occurrences_of_leaf (out-Level l).leaves ++ os) (flat_map-flat_map occurrences_of_leaf leaves_of (out-Level l).membranes)

module _ (t u v : List Tally) (l : Level) (leaves : List Leaf) (membranes : List Level) (e : leaves ≡ (out-Level l).leaves) (f : membranes ≡ (out-Level l).membranes) where
  whole : occurrences_of l ≡ flat_map occurrences_of_leaf leaves ++ flat_map occurrences_of membranes
  whole = occurrences_apart l ∙ ap (λ ls. flat_map occurrences_of_leaf ls ++ flat_map occurrences_of (out-Level l).membranes) (sym e) ∙ ap (λ ls. flat_map occurrences_of_leaf leaves ++ flat_map occurrences_of ls) (sym f)

  links_whole : links_of l ≡ link_numbers (flat_map occurrences_of_leaf leaves) ++ link_numbers (flat_map occurrences_of membranes)
  links_whole = ap link_numbers whole ∙ map-append (λ (o : Occ). o.link) (flat_map occurrences_of_leaf leaves) (flat_map occurrences_of membranes)

  pub level_counted : CountsOccurrences (flat_map occurrences_of_leaf leaves) t u → CountsOccurrences (flat_map occurrences_of membranes) u v → CountsOccurrences (occurrences_of l) t v
  level_counted g h =
      let P : List Occ → Type 0 = λ os. CountsOccurrences os t v in
      subst P (sym whole) (counts_more (flat_map occurrences_of_leaf leaves) (flat_map occurrences_of membranes) t u v g h)

  pub leaves_counted_within : All (λ k. k < length t) (links_of l) → All (λ k. k < length t) (link_numbers (flat_map occurrences_of_leaf leaves))
  leaves_counted_within all = let P : List ℕ → Type 0 = All (λ k. k < length t) in all_left (λ k. k < length t) (link_numbers (flat_map occurrences_of_leaf leaves)) (link_numbers (flat_map occurrences_of membranes)) (subst P links_whole all)

  pub membranes_counted_within : CountsOccurrences (flat_map occurrences_of_leaf leaves) t u → All (λ k. k < length t) (links_of l) → All (λ k. k < length u) (link_numbers (flat_map occurrences_of membranes))
  membranes_counted_within g all =
      let P : List ℕ → Type 0 = All (λ k. k < length t) in
      let Q : ℕ → Type 0 = λ n. All (λ k. k < n) (link_numbers (flat_map occurrences_of membranes)) in
      let keys = g.keys in
      subst Q (sym keys) (all_right (λ k. k < length t) (link_numbers (flat_map occurrences_of_leaf leaves)) (link_numbers (flat_map occurrences_of membranes)) (subst P links_whole all))

-- ---- no occurrences

-- at first there are no tallies
pub no_tally : (t : List Tally) → t ≡ [] → (length t ≡ 0) × AreTallies [] t
no_tally t e = (ap length e, λ x u r. let P : List Tally → Type 0 = λ ts. slice_get ts x ≡ Some u in absurd (nothing x u (subst P e r)))
  where
    nothing : (x : ℕ) (u : Tally) → slice_get [] x ≡ Some u → ⊥
    nothing x u r = cc

-- one tally more that tells of nothing
pub next_tally : (n : ℕ) (old new : List Tally) (t : Tally) → IsTally [] t → new ≡ old ++ t ∷ [] → (length old ≡ n) × AreTallies [] old → (length new ≡ n + 1) × AreTallies [] new
next_tally n old new t h e k =
    let size = length-append old (t ∷ []) in
    let whole = ap length e in
    let was = k.0 in
    (omega (arith, size, whole, was), λ x u r. let P : List Tally → Type 0 = λ ts. slice_get ts x ≡ Some u in go x u (get_either old t x u (subst P e r)))
  where
    go : (x : ℕ) (u : Tally) → (slice_get old x ≡ Some u) ⊎ ((x ≡ length old) × (t ≡ u)) → IsTally [] u
    go x u (inl r) = k.1 x u r
    go x u (inr f) = let P : Tally → Type 0 = IsTally [] in subst P f.1 h

-- the tallies of a level
pub level_tallies : (n : ℕ) (old new : List Tally) (os : List Occ) → (length old ≡ n) × AreTallies [] old → CountsOccurrences os old new → (length new ≡ n) × AreTallies os new
level_tallies n old new os h c = (c.keys ∙ h.0, c.more [] h.1)

-- ---- the loop over the occurrences of an atom

ones : (os : List Occ) → flat_map (λ o. o ∷ []) os ≡ os
ones [] = refl
ones (o ∷ os) = ap (λ ps. o ∷ ps) (ones os)

module _ (t u : List Tally) (i : ℕ) (os : List Occ) where
  pub link_counted_within : (d : Occ) → i < length os → CountsOccurrences (flat_map (λ o. o ∷ []) (take i os)) t u → All (λ k. k < length t) (link_numbers os) → (get_or os i d).link < length u
  link_counted_within d l h all =
      let P : List Occ → Type 0 = λ ps. All (λ k. k < length t) (link_numbers ps) in
      All-head (λ k. k < length u) (get_or os i d).link [] (parts_within (λ o. o ∷ []) t u i os (get_or os i d) l (get_or_default os i d (get_or os i d) l) h (subst P (sym (ones os)) all))

  pub link_counted : (v : List Tally) (d : Occ) → i < length os → CountsOccurrences (flat_map (λ o. o ∷ []) (take i os)) t u → CountsOccurrences (get_or os i d ∷ []) u v → CountsOccurrences (flat_map (λ o. o ∷ []) (take (i + 1) os)) t v
  link_counted v d l h k = parts_more (λ o. o ∷ []) t u v i os (get_or os i d) l (get_or_default os i d (get_or os i d) l) h k

  pub links_counted : length os ≤ i → CountsOccurrences (flat_map (λ o. o ∷ []) (take i os)) t u → CountsOccurrences os t u
  links_counted l h = let P : List Occ → Type 0 = λ ps. CountsOccurrences ps t u in subst P (ones os) (parts_all (λ o. o ∷ []) t u i os l h)
