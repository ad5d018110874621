-- Which traces are chains: texts of solids, each next one by a firing that some choice of the membrane asked first gives.
use Rattle.std.specs.Prelude.{◌≡◌, ◌<◌, ◌+◌, ◌⊎◌, ⊤, ℕ, List, [], ◌∷◌, ◌++◌, codes, length, map}
use Rattle.std.specs.List.{concat}
use Rattle.lmn_base.specs.declared.refusal.Refusal.{Refusal}
use Rattle.lmn_congruence.specs.Regions.{Region}
use Rattle.lmn_flatten_plain.specs.SolidLines.{as_level}
use Rattle.lmn_flatten_plain.specs.Words.{line_of}
use Rattle.lmn_adequacy.specs.Choice.{NextFrom, paths}
use Rattle.lmn_adequacy.specs.Embedding.{HasEmbedding}
use Rattle.lmn_adequacy.specs.Numbered.{IsNumbered}
use Rattle.lmn_app_runs.specs.Runs.{end_line}

-- the plain line of a solid
abbrev pub line_of_solid : Region → List ℕ
line_of_solid S = line_of (as_level S)

-- S' is the next solid of S where some membrane of S is asked first; its links are numbered in printed order.
pub record Continues (S S' : Region) : Type 0 where
  pub from : ℕ
  pub one_of_them : from < length (paths S)
  pub next : NextFrom from S S'
  pub numbered : IsNumbered S'

-- solids from S on, each of which continues the one before: those before the last one, and the last one
pub data Continued (S : Region) : List Region → Region → Type 0 where
  begun : Continued S [] S
  continued : {before : List Region} {S' S'' : Region} → Continued S before S' → Continues S' S'' → Continued S (before ++ S' ∷ []) S''

-- The trace begins with the lines of solids from S on, and this is behind them.
pub record BeginsChain (S : Region) (trace : List ℕ) (before : List Region) (last : Region) (rest : List ℕ) : Type 0 where
  pub solids : Continued S before last
  pub is : trace ≡ concat (map line_of_solid (before ++ last ∷ [])) ++ rest

-- ---- the end

-- the words of an end: `irreducible` where nothing embeds, and one of the others where that isn't so
abbrev pub IsEndWord : Region → List ℕ → Type 0
IsEndWord S word = ((word ≡ codes "irreducible") × ¬ (HasEmbedding S))
    ⊎ (((word ≡ codes "budget") ⊎ (word ≡ codes "full") ⊎ (word ≡ codes "no memory")) × ¬ (¬ (HasEmbedding S)))

-- The trace is the lines of n + 1 solids from S on and the end line, and nothing else.
pub record IsChain (S : Region) (trace : List ℕ) (n : ℕ) : Type 0 where
  pub before : List Region
  pub last : Region
  pub word : List ℕ
  pub begins : BeginsChain S trace before last (end_line word n)
  pub ends : IsEndWord last word
  pub count : length before ≡ n

-- ---- what is wrong

-- at the beginning of a line
abbrev pub at_line : ℕ → ℕ → Refusal
at_line code line = record { code = code; pos = record { line = line; column = 1 } }

-- a line is there, and it doesn't begin with `%`
abbrev pub IsProcessThere : List ℕ → Type 0
IsProcessThere [] = ⊥
IsProcessThere (byte ∷ rest) = ¬ (byte ≡ 37)

-- no line is there, or one that begins with `%`
abbrev pub IsEndThere : List ℕ → Type 0
IsEndThere [] = ⊤
IsEndThere (byte ∷ rest) = byte ≡ 37

-- What is wrong in a trace, and where:
--   no_first_line  it doesn't begin with the line of S
--   no_next_line   behind the lines of solids a process line follows, and it isn't that of a solid that continues the last one
--   no_end_line   behind them it ends, or an end line follows, and that isn't the end line that is due and the last of all
pub data IsWrongTrace (S : Region) (trace : List ℕ) (refusal : Refusal) : Type 0 where
  no_first_line : ((rest : List ℕ) → ¬ (trace ≡ line_of_solid S ++ rest)) → refusal ≡ at_line 61 1 → IsWrongTrace S trace refusal
  no_next_line : (before : List Region) (last : Region) (rest : List ℕ) → BeginsChain S trace before last rest → IsProcessThere rest
      → ((S' : Region) (more : List ℕ) → Continues last S' → ¬ (rest ≡ line_of_solid S' ++ more))
      → refusal ≡ at_line 61 (length before + 2) → IsWrongTrace S trace refusal
  no_end_line : (before : List Region) (last : Region) (rest : List ℕ) → BeginsChain S trace before last rest → IsEndThere rest
      → ((word : List ℕ) → IsEndWord last word → ¬ (rest ≡ end_line word (length before)))
      → refusal ≡ at_line 62 (length before + 2) → IsWrongTrace S trace refusal
