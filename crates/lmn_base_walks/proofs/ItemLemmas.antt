-- What stands in a level, and what is found there.
use Rattle.std.proofs.Common.{ℕ, ◌≡◌, ◌+◌, ◌<◌, ◌≤◌, List, [], ◌∷◌, ◌++◌, length, take, get_or, refl, sym, ap, subst, ◌∙◌}
use Rattle.std.specs.List.{flat_map}
use Rattle.std.proofs.lemmas.List.{take_all, append_assoc}
use Rattle.std.proofs.lemmas.List.Concat.{flat_map-append}
use Rattle.std.proofs.lemmas.List.Folds.{flat_map-map}
use Rattle.lmn_base.specs.declared.item.Item.{Item}
use Rattle.lmn_base.specs.declared.level.Level.{Level, out-Level}
use Rattle.lmn_base.specs.declared.level.Leaf.{Leaf}
use Rattle.lmn_base.specs.Levels.{leaves_of}
use Rattle.lmn_base.specs.declared.level.Level.TheFolds.{fold_out-Level}
use Rattle.lmn_base.specs.declared.question.Found.{Found}
use Rattle.lmn_base.specs.declared.refusal.Pos.{Pos}
use Rattle.lmn_base.specs.Firsts.{IsFound}
use Rattle.lmn_base.specs.Items.{own_items, items_of}
use Rattle.lmn_base.proofs.FirstLemmas.{next_piece, found_all}
use Rattle.lmn_base.specs.declared.level.Level.TheOpen.{Level-F}
use Rattle.lmn_base.specs.declared.level.Level.TheViews.{roll-Level, out-roll-Level}

-- the items of a level are its own and then those of its membranes
pub items_apart : (l : Level) → items_of l ≡ own_items (out-Level l) ++ flat_map items_of (out-Level l).membranes
items_apart l = fold_out-Level (List Item) (λ l. own_items l ++ flat_map (λ inner. inner) l.membranes) l ∙ ap (λ is. own_items (out-Level l) ++ is) (flat_map-map (λ inner. inner) items_of (out-Level l).membranes)

-- the items of a level, by its lists
pub listed_items : (l : Level-F Level) → items_of (roll-Level l) ≡ own_items l ++ flat_map items_of l.membranes
listed_items l = items_apart (roll-Level l) ∙ ap (λ o. own_items o ++ flat_map items_of o.membranes) (out-roll-Level l)

-- of each of what each gives, at once or in two steps
pub flat_map-flat_map : {X Y Z : Type 0} (f : Y → List Z) (h : X → List Y) (xs : List X) → flat_map f (flat_map h xs) ≡ flat_map (λ x. flat_map f (h x)) xs
flat_map-flat_map f h [] = refl
flat_map-flat_map f h (x ∷ xs) = flat_map-append f (h x) (flat_map h xs) ∙ ap (λ l. flat_map f (h x) ++ l) (flat_map-flat_map f h xs)

-- the same of leaves
pub leaves_apart : (l : Level) → leaves_of l ≡ (out-Level l).leaves ++ flat_map leaves_of (out-Level l).membranes
leaves_apart l = fold_out-Level (List Leaf) (λ l. l.leaves ++ flat_map (λ inner. inner) l.membranes) l ∙ ap (λ xs. (out-Level l).leaves ++ xs) (flat_map-map (λ inner. inner) leaves_of (out-Level l).membranes)

-- What is found in a level, once all its membranes were asked. `all` is what stands in a level at every depth, and `own`
-- what stands in it itself.
module _ {A : Type 0} (places : A → List Pos) (all own : Level → List A) (apart : (l : Level) → all l ≡ own l ++ flat_map all (out-Level l).membranes) where
  pub found_everywhere : (l : Level) (inner : List Level) (i : ℕ) (found : Found) → inner ≡ (out-Level l).membranes → length inner ≤ i
      → IsFound (flat_map places (own l) ++ flat_map (λ x. flat_map places (all x)) (take i inner)) found → IsFound (flat_map places (all l)) found
  found_everywhere l inner i found e end h =
      let whole : flat_map places (all l) ≡ flat_map places (own l) ++ flat_map (λ x. flat_map places (all x)) (take i inner) =
      ap (flat_map places) (apart l) ∙ flat_map-append places (own l) (flat_map all (out-Level l).membranes)
      ∙ ap (λ ps. flat_map places (own l) ++ ps) (flat_map-flat_map places all (out-Level l).membranes)
      ∙ ap (λ ls. flat_map places (own l) ++ flat_map (λ x. flat_map places (all x)) ls) (sym e ∙ sym (take_all i inner end))
      in subst (λ ps. IsFound ps found) (sym whole) h

-- what is found among a level's own items and those of all its membranes is found in the level
pub found_in_level : (places : Item → List Pos) (l : Level) (inner : List Level) (i : ℕ) (found : Found) → inner ≡ (out-Level l).membranes → length inner ≤ i
    → IsFound (flat_map places (own_items (out-Level l)) ++ flat_map (λ x. flat_map places (items_of x)) (take i inner)) found → IsFound (flat_map places (items_of l)) found
found_in_level places = found_everywhere places items_of (λ l. own_items (out-Level l)) items_apart

-- what is found among a level's own leaves and those of all its membranes is found in the level
pub found_in_leaves : (places : Leaf → List Pos) (l : Level) (inner : List Level) (i : ℕ) (found : Found) → inner ≡ (out-Level l).membranes → length inner ≤ i
    → IsFound (flat_map places (out-Level l).leaves ++ flat_map (λ x. flat_map places (leaves_of x)) (take i inner)) found → IsFound (flat_map places (leaves_of l)) found
found_in_leaves places = found_everywhere places leaves_of (λ l. (out-Level l).leaves) leaves_apart

-- behind what was found before
pub found_next_behind : {X : Type 0} (own : List Pos) (f : X → List Pos) (xs : List X) (i : ℕ) (d : X) (found : Found) → i < length xs
    → IsFound ((own ++ flat_map f (take i xs)) ++ f (get_or xs i d)) found → IsFound (own ++ flat_map f (take (i + 1) xs)) found
found_next_behind own f xs i d found within h = subst (λ ps. IsFound (own ++ ps) found) (sym (next_piece f xs i d within)) (subst (λ ps. IsFound ps found) (append_assoc own (flat_map f (take i xs)) (f (get_or xs i d))) h)

-- what is found in lists of items, once all were asked
pub found_joined : {X : Type 0} (places : Item → List Pos) (items : X → List Item) (xs : List X) (i : ℕ) (found : Found) → length xs ≤ i
    → IsFound (flat_map (λ x. flat_map places (items x)) (take i xs)) found → IsFound (flat_map places (flat_map items xs)) found
found_joined places items xs i found end h = subst (λ ps. IsFound ps found) (sym (flat_map-flat_map places items xs)) (found_all (λ x. flat_map places (items x)) xs i found end h)
