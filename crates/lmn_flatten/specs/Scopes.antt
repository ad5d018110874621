-- The links that a scope has met.
use Rattle.std.specs.Prelude.{ℕ, ◌≡◌, List, ◌∷◌, ◌++◌, length, slice_get, Some, None}
use Rattle.std.specs.BTreeMap.{get}
use Rattle.std.specs.Ordering.{nat_cmp}
use Rattle.lmn_congruence.specs.Rules.{Name}
use Rattle.lmn_flatten_plain.specs.Keys.{IsLinkIn, IsKey}
use Rattle.lmn_flatten_plain.specs.Links.{Link, written, made, fresh}
use Rattle.lmn_flatten.specs.Glossaries.{Reading}
use Rattle.lmn_flatten.specs.declared.scope.Scope.{Scope}

-- These links have been met, in this order, each once, and a link that is written is found by the number of its name.
pub record IsScope (r : Reading) (keys : List Link) (s : Scope) : Type 0 where
  pub count : s.count ≡ length keys
  pub apart : (x : ℕ) (a : Link) → slice_get keys x ≡ Some a → IsKey keys a x
  pub found : (k x : ℕ) (n : Name) → get nat_cmp s.written k ≡ Some x → slice_get r.links k ≡ Some n → IsKey keys (written n) x
  pub absent : (k : ℕ) (n : Name) → get nat_cmp s.written k ≡ None → slice_get r.links k ≡ Some n → IsLinkIn (written n) keys → ⊥

-- a link that is written, or one that is made at a way of this kind
abbrev pub IsWrittenOrMade : (List ℕ → Type 0) → Link → Type 0
IsWrittenOrMade Z (written n) = Unit {0}
IsWrittenOrMade Z (made v) = Z v
IsWrittenOrMade Z (fresh a) = ⊥

-- no link of the list is made at a way of this kind
abbrev pub Clear : (List ℕ → Type 0) → List Link → Type 0
Clear Z keys = (v : List ℕ) → IsLinkIn (made v) keys → Z v → ⊥

-- More links were met, each of which is written, or made at a way of this kind.
pub record Meets (r : Reading) (Z : List ℕ → Type 0) (keys : List Link) (s : Scope) : Type 0 where
  pub more : List Link
  pub scope : IsScope r (keys ++ more) s
  pub only : (a : Link) → IsLinkIn a more → IsWrittenOrMade Z a

-- a way is another one, or leads on from it
abbrev pub Below : List ℕ → List ℕ → Type 0
Below way v = (u : List ℕ) × (v ≡ u ++ way)

-- a way leads on from another one
abbrev pub Under : List ℕ → List ℕ → Type 0
Under way v = (k : ℕ) × Below (k ∷ way) v

-- no way
abbrev pub NoWay : List ℕ → Type 0
NoWay v = ⊥
