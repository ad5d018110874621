-- Bounds of the links of some parts.
use Rattle.std.proofs.Common.{◌≡◌, ℕ, ◌+◌, ◌<◌, ◌≤◌, List, [], ◌∷◌, ◌++◌, length, get_or, take, All, sym, ap, ◌∙◌, subst}
use Rattle.std.specs.List.{flat_map}
use Rattle.std.proofs.lemmas.List.{take_more, take_all, append-nil}
use Rattle.std.proofs.lemmas.List.Concat.{flat_map-append}
use Rattle.std.proofs.lemmas.List.Elements.{All-append, All-cons, All-nil}
use Rattle.lmn_base.specs.declared.level.Leaf.{Leaf}
use Rattle.lmn_base.specs.declared.level.Level.{Level, out-Level}
use Rattle.lmn_base.specs.declared.level.Occ.{Occ}
use Rattle.lmn_base.specs.Levels.{occurrences_of_leaf, links_of, link_numbers}
use Rattle.lmn_flatten_numbers.proofs.LevelSteps.{links_apart, links_one, links_by_leaf}

module _ (n : ℕ) where
  abbrev Below : List ℕ → Type 0
  Below ks = All (λ k. k < n) ks

  module _ {A : Type 0} (g : A → List ℕ) where
    bound_next : (i : ℕ) (xs : List A) (d : A) → i < length xs → Below (flat_map g (take i xs)) → Below (g (get_or xs i d)) → Below (flat_map g (take (i + 1) xs))
    bound_next i xs d l h k =
        let next : flat_map g (take (i + 1) xs) ≡ flat_map g (take i xs) ++ g (get_or xs i d) =
        ap (flat_map g) (take_more xs i d l) ∙ flat_map-append g (take i xs) (get_or xs i d ∷ []) ∙ ap (λ ks. flat_map g (take i xs) ++ ks) (append-nil (g (get_or xs i d))) in
        subst Below (sym next) (All-append (λ k. k < n) (flat_map g (take i xs)) (g (get_or xs i d)) h k)

  pub link_bound : (i : ℕ) (os : List Occ) (d : Occ) → i < length os → Below (link_numbers (take i os)) → (get_or os i d).link < n → Below (link_numbers (take (i + 1) os))
  link_bound i os d l h k =
      subst Below (sym (links_one (take (i + 1) os)))
      (bound_next (λ o. o.link ∷ []) i os d l (subst Below (links_one (take i os)) h) (All-cons (λ k. k < n) (get_or os i d).link [] k (All-nil (λ k. k < n))))

  pub links_bound : (i : ℕ) (os : List Occ) → length os ≤ i → Below (link_numbers (take i os)) → Below (link_numbers os)
  links_bound i os l h = let P : List Occ → Type 0 = λ ps. Below (link_numbers ps) in subst P (take_all i os l) h

  pub leaf_bound : (i : ℕ) (ls : List Leaf) (x : Leaf) → i < length ls → x ≡ get_or ls i x → Below (link_numbers (flat_map occurrences_of_leaf (take i ls))) → Below (link_numbers (occurrences_of_leaf x))
      → Below (link_numbers (flat_map occurrences_of_leaf (take (i + 1) ls)))
  leaf_bound i ls x l e h k =
      let P : Leaf → Type 0 = λ y. Below (link_numbers (occurrences_of_leaf y)) in
      subst Below (sym (links_by_leaf (take (i + 1) ls))) (bound_next (λ leaf. link_numbers (occurrences_of_leaf leaf)) i ls x l (subst Below (links_by_leaf (take i ls)) h) (subst P e k))

  pub membrane_bound : (i : ℕ) (ls : List Level) (x : Level) → i < length ls → x ≡ get_or ls i x → Below (flat_map links_of (take i ls)) → Below (links_of x) → Below (flat_map links_of (take (i + 1) ls))
  membrane_bound i ls x l e h k = let P : Level → Type 0 = λ y. Below (links_of y) in bound_next links_of i ls x l h (subst P e k)

  pub level_bound : (level : Level) (i j : ℕ) (leaves : List Leaf) (membranes : List Level) → leaves ≡ (out-Level level).leaves → membranes ≡ (out-Level level).membranes
      → length leaves ≤ i → length membranes ≤ j → Below (link_numbers (flat_map occurrences_of_leaf (take i leaves))) → Below (flat_map links_of (take j membranes)) → Below (links_of level)
  level_bound level i j leaves membranes e f l m h k =
      let P : List Leaf → Type 0 = λ ls. Below (link_numbers (flat_map occurrences_of_leaf ls)) in
      let Q : List Level → Type 0 = λ ls. Below (flat_map links_of ls) in
      subst Below (sym (links_apart level))
      (All-append (λ k. k < n) (link_numbers (flat_map occurrences_of_leaf (out-Level level).leaves)) (flat_map links_of (out-Level level).membranes)
      (subst P (take_all i leaves l ∙ e) h) (subst Q (take_all j membranes m ∙ f) k))
