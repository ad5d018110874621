-- The numbers that links have got so far.
use Rattle.std.specs.Prelude.{ℕ, suc, ◌≡◌, ◌+◌, ◌^◌, ◌<◌, List, [], ◌∷◌, map, length, slice_get, Option, Some, None, All}
use Rattle.lmn_base.specs.Links.{Numbers}
use Rattle.lmn_flatten_numbers.specs.declared.numbering.Numbering.{Numbering}

-- how many keys have no number
abbrev pub keys_left : List (Option ℕ) → ℕ
keys_left [] = 0
keys_left (None ∷ ns) = suc (keys_left ns)
keys_left (Some n ∷ ns) = keys_left ns

-- the link with this key has this number
abbrev pub HasNumber : Numbering → ℕ → ℕ → Type 0
HasNumber t key n = slice_get t.numbers key ≡ Some (Some n)

-- Different links have different numbers, all of them below `count`, and there are as many numbers left as keys.
pub record IsNumbering (t : Numbering) : Type 0 where
  pub below : (key n : ℕ) → HasNumber t key n → n < t.count
  pub apart : (key other n : ℕ) → HasNumber t key n → HasNumber t other n → key ≡ other
  pub left : t.count + keys_left t.numbers ≡ length t.numbers
  pub fits : length t.numbers < 2 ^ 32

-- no link has a number yet
pub record IsNewNumbering (size : ℕ) (t : Numbering) : Type 0 where
  pub valid : IsNumbering t
  pub keys : length t.numbers ≡ size
  pub none : t.count ≡ 0

-- `to` is a link's number, where it has one
abbrev pub FollowsNumbering : (ℕ → ℕ) → Numbering → Type 0
FollowsNumbering to t = (key n : ℕ) → HasNumber t key n → to key ≡ n

-- Links occur, in this order: those that have no number get the next ones.
pub record GivesNumbers (links : List ℕ) (old new : Numbering) : Type 0 where
  pub valid : IsNumbering new
  pub keys : length new.numbers ≡ length old.numbers
  pub kept : (key n : ℕ) → HasNumber old key n → HasNumber new key n
  pub numbered : All (λ key. (n : ℕ) × HasNumber new key n) links
  pub order : (to : ℕ → ℕ) → FollowsNumbering to new → Numbers old.count (map to links) new.count
