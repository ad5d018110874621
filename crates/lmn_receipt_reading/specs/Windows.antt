-- What is at hand of a text that is read line by line.
use Rattle.std.specs.Prelude.{ℕ, ◌≡◌, ◌⊎◌, ◌++◌, ◌∷◌, List}

-- The window is the front of the text, and it holds a line feed with a byte behind it.
pub record IsFront (text window : List ℕ) : Type 0 where
  pub line : List ℕ
  pub byte : ℕ
  pub behind : List ℕ
  pub more : List ℕ
  pub holds : window ≡ line ++ (10 ∷ (byte ∷ behind))
  pub begins : text ≡ window ++ more

-- The window is all of the text; or where that may be cut, such a front of it.
abbrev pub IsWindow : Type 0 → (text window : List ℕ) → Type 0
IsWindow cuts text window = (window ≡ text) ⊎ (cuts × IsFront text window)

-- a text holds a line feed with a byte behind it
pub record HasLine (text : List ℕ) : Type 0 where
  pub line : List ℕ
  pub byte : ℕ
  pub behind : List ℕ
  pub holds : text ≡ line ++ (10 ∷ (byte ∷ behind))

-- what is at hand of a text: what was met last, and what is ahead
pub record AtHand : Type 0 where
  pub last : List ℕ
  pub ahead : List ℕ
