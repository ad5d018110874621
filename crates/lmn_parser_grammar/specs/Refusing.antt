-- Which token refuses a text, and why, for any language: `IsInLanguage` says which lists of kinds are its programs.
use Rattle.std.specs.Prelude.{◌≡◌, ℕ, List, [], ◌∷◌, ◌++◌, length, ◌⊎◌}
use Rattle.lmn_parser_grammar.specs.Limits.{TooDeep, TooManyArguments}
use Rattle.lmn_lexer.specs.declared.token.Kind.{Kind}

-- some program begins with these kinds
abbrev pub BeginsProgram : (List Kind → Type 0) → List Kind → Type 0
BeginsProgram IsInLanguage u = (rest : List Kind) × IsInLanguage (u ++ rest)

-- no token passes a limit
abbrev pub IsWithin : List Kind → Type 0
IsWithin u = (before : List Kind) (token : Kind) (rest : List Kind) → u ≡ before ++ token ∷ rest → ¬ (TooDeep before token) × ¬ (TooManyArguments before token)

-- The token at the place, counted from 0, is the first that refuses, by this code: it isn't expected behind those before it, or it is,
-- and passes a limit, of brackets and operators or else of arguments.
pub record IsRefused (IsInLanguage : List Kind → Type 0) (kinds : List Kind) (place : ℕ) (code : ℕ) : Type 0 where
  pub before : List Kind
  pub token : Kind
  pub rest : List Kind
  pub split : kinds ≡ before ++ token ∷ rest
  pub is_there : place ≡ length before
  pub begins : BeginsProgram IsInLanguage before
  pub within : IsWithin before
  pub refuses : ((code ≡ 10) × (BeginsProgram IsInLanguage (before ++ token ∷ []) → ⊥))
      ⊎ (BeginsProgram IsInLanguage (before ++ token ∷ []) × (((code ≡ 11) × TooDeep before token) ⊎ ((code ≡ 12) × ¬ (TooDeep before token) × TooManyArguments before token)))

-- why a token refuses, as laws tell it
abbrev pub Refuses : (List Kind → Type 0) → ℕ → List Kind → Kind → Type 0
Refuses IsInLanguage code before token =
    ((code ≡ 10) × (BeginsProgram IsInLanguage (before ++ token ∷ []) → ⊥))
    ⊎ (BeginsProgram IsInLanguage (before ++ token ∷ []) × (((code ≡ 11) × TooDeep before token) ⊎ ((code ≡ 12) × ¬ (TooDeep before token) × TooManyArguments before token)))
