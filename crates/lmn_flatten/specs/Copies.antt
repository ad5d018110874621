-- How often links stand in a part of a head, and its copy.
use Rattle.std.specs.Prelude.{ℕ, ◌≡◌, ◌+◌, ◌==◌, ◌≤◌, min, if◌then◌else◌, List, ◌++◌, map, flat_map, length, count_by, slice_get, slice_index_or, Some}
use Rattle.lmn_base.specs.declared.level.Leaf.{Leaf}
use Rattle.lmn_base.specs.declared.level.Level.{Level}
use Rattle.lmn_base.specs.Levels.{occurrences_of_leaf, links_of}
use Rattle.lmn_flatten_plain.specs.Keys.{IsLinkIn, IsKey}
use Rattle.lmn_flatten_plain.specs.Links.{Link, fresh}
use Rattle.lmn_flatten_plain.specs.Parts.{Parts, fresh_copy}
use Rattle.lmn_flatten.specs.Built.{IsPartOfLevel}
use Rattle.lmn_flatten.specs.Glossaries.{Reading}
use Rattle.lmn_flatten.specs.Scopes.{IsScope}
use Rattle.lmn_flatten.specs.declared.part.Part.{Part}
use Rattle.lmn_flatten.specs.declared.scope.Scope.{Scope}

abbrev pub links_of_leaf : Leaf → List ℕ
links_of_leaf l = map (λ o. o.link) (occurrences_of_leaf l)

abbrev pub links_of_levels : List Level → List ℕ
links_of_levels ls = flat_map links_of ls

abbrev pub often : ℕ → List ℕ → ℕ
often x xs = count_by (λ y. x == y) xs

-- These links were counted: each has its number of places more than before, and none more than 3.
pub record CountsPlaces (xs : List ℕ) (old new : List ℕ) : Type 0 where
  pub size : length new ≡ length old
  pub counted : (x n : ℕ) → slice_get old x ≡ Some n → n ≤ 3 → slice_get new x ≡ Some (min 3 (n + often x xs))

-- the link that stands for another one
abbrev pub new_link : List ℕ → ℕ → ℕ
new_link links x = slice_index_or links x x

-- Each link that was counted twice has a fresh one, and each other link itself.
pub record Freshens (r : Reading) (keys : List Link) (counts new : List ℕ) (s : Scope) : Type 0 where
  pub more : List Link
  pub scope : IsScope r (keys ++ more) s
  pub only : (a : Link) → IsLinkIn a more → (b : Link) × (a ≡ fresh b)
  pub links : (x n : ℕ) (a : Link) → slice_get counts x ≡ Some n → IsKey keys a x → IsKey (keys ++ more) (if n == 2 then fresh a else a) (new_link new x)

-- A link that was counted twice has a fresh one, and another link itself.
pub record IsFreshOrSame (r : Reading) (keys : List Link) (a : Link) (n new : ℕ) (s : Scope) : Type 0 where
  pub more : List Link
  pub scope : IsScope r (keys ++ more) s
  pub only : (b : Link) → IsLinkIn b more → b ≡ fresh a
  pub key : IsKey (keys ++ more) (if n == 2 then fresh a else a) new

-- no link of the list is fresh
abbrev pub NoneFresh : List Link → Type 0
NoneFresh keys = (a : Link) → IsLinkIn (fresh a) keys → ⊥

-- A part is copied with fresh links for those that stand twice in it.
pub record Copies (r : Reading) (keys : List Link) (p : Parts) (copy : Part) (s : Scope) : Type 0 where
  pub more : List Link
  pub scope : IsScope r (keys ++ more) s
  pub only : (a : Link) → IsLinkIn a more → (b : Link) × (a ≡ fresh b)
  pub is_copy : IsPartOfLevel r.names (IsKey (keys ++ more)) (fresh_copy p) copy
