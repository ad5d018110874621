-- What stands between tokens and means nothing: separators and comments.
use Rattle.std.specs.Prelude.{◌≡◌, ℕ, ◌==◌, true, not, ⊤, List, [], ◌∷◌, ◌++◌, codes}
use Rattle.std.specs.Char.{is_ascii_whitespace}
use Rattle.lmn_lexer.specs.Spelling.{AllPass}

-- the part stands somewhere in the text
abbrev pub OccursIn : List ℕ → List ℕ → Type 0
OccursIn part text = (before : List ℕ) × (after : List ℕ) × (text ≡ before ++ (part ++ after))

-- the text is at its end, or a line feed stands first
abbrev pub EndsLine : List ℕ → Type 0
EndsLine [] = ⊤
EndsLine (b ∷ bs) = b ≡ 10

-- The bytes, with the text after them, are one separator (space, tab, line feed, form feed, carriage return) or one
-- comment: `%` or `//` up to the line feed or the end of the text, or `/*` up to the next `*/`.
pub data Gap : List ℕ → List ℕ → Type 0 where
  separator : (b : ℕ) (after : List ℕ) → is_ascii_whitespace b ≡ true → Gap (b ∷ []) after
  percent : (line after : List ℕ) → AllPass (λ b. not (b == 10)) line → EndsLine after → Gap (codes "%" ++ line) after
  slashes : (line after : List ℕ) → AllPass (λ b. not (b == 10)) line → EndsLine after → Gap (codes "//" ++ line) after
  block : (inside after : List ℕ) → ¬ (OccursIn (codes "*/") (inside ++ codes "*")) → Gap (codes "/*" ++ (inside ++ codes "*/")) after

-- no line feed is among the bytes, as laws tell it
abbrev pub NoLineFeed : List ℕ → Type 0
NoLineFeed bs = AllPass (λ b. not (b == 10)) bs
