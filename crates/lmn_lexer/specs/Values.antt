-- What the bytes of a token spell.
use Rattle.std.specs.Prelude.{◌≤◌, ℕ, ℤ, Bool, length, pos, neg_ℤ, ◌-◌, ◌==◌, if◌then◌else◌, List, [], ◌∷◌, take, drop}
use Rattle.lmn_lexer.specs.declared.token.Token.{Token}
use Rattle.lmn_lexer.specs.Spelling.{Spells}
use Rattle.lmn_lexer.specs.Faults.{TokenFault, value_behind}

-- the bytes of a token in its text
abbrev pub bytes_of : List ℕ → Token → List ℕ
bytes_of text t = take (t.end - t.start) (drop t.start text)

-- the integer that a token spells
abbrev pub integer_of : List ℕ → ℤ
integer_of [] = pos 0
integer_of (b ∷ bs) = if b == 45 then neg_ℤ (pos (value_behind 0 bs)) else pos (value_behind 0 (b ∷ bs))

-- The token stands in the text, its bytes spell its kind, and nothing is wrong with it.
pub record IsSound (text : List ℕ) (t : Token) : Type 0 where
  pub minus : Bool
  pub forth : t.start ≤ t.end
  pub within : t.end ≤ length text
  pub spells : Spells minus t.kind (bytes_of text t)
  pub right : (code : ℕ) → TokenFault t.kind (bytes_of text t) (drop t.end text) code → ⊥

-- the integer below 0 of this size, or 0, as the contract of a private function tells it
abbrev pub minus_of : ℕ → ℤ
minus_of n = neg_ℤ (pos n)
