-- The laws of refusals and limits.
use Rattle.std.specs.Prelude.{◌≡◌, ◌≤◌, ◌+◌, ℕ, zero, suc, List, [], ◌∷◌, ◌++◌, ◌⊎◌}
use Rattle.lmn_parser_grammar.specs.Grammar.{Derives, program, Ref, TermPart}
use Rattle.lmn_parser_grammar.specs.Limits.{IsAtomName, Open, Side, TermNext, most_brackets, most_operators, most_arguments, most_term_arguments}
use Rattle.lmn_parser_grammar.specs.Refusing.{IsWithin, IsRefused}
use Rattle.lmn_lexer.specs.declared.token.Kind.{Kind}
use Rattle.lmn_lexer.specs.declared.token.Kind.TheVariants.{End, LParen, Comma}

-- a list of kinds is refused at one place and by one code at most
abbrev pub OneRefusedPlace : Type 0
OneRefusedPlace = (kinds : List Kind) (p q c d : ℕ) → IsRefused (Derives program) kinds p c → IsRefused (Derives program) kinds q d → (p ≡ q) × (c ≡ d)

-- what is refused derives no program within the limits
abbrev pub RefusedDeriveNothing : Type 0
RefusedDeriveNothing = (kinds : List Kind) (p c : ℕ) → IsRefused (Derives program) kinds p c → Derives program kinds → IsWithin kinds → ⊥

-- what ends with 'End' derives a program within the limits, or is refused
abbrev pub DerivedOrRefused : Type 0
DerivedOrRefused = (kinds : List Kind) → (Derives program (kinds ++ End ∷ []) × IsWithin (kinds ++ End ∷ []))
    ⊎ ((p : ℕ) × (c : ℕ) × IsRefused (Derives program) (kinds ++ End ∷ []) p c)

-- within the limits no more brackets are open than may be
abbrev pub BracketsWithin : Type 0
BracketsWithin = (u : List Kind) → IsWithin u → ¬ (Open (most_brackets + 1) u)

-- within the limits no side has more operators than it may have
abbrev pub OperatorsWithin : Type 0
OperatorsWithin = (u : List Kind) → IsWithin u → ¬ (Side (most_operators + 1) u)

-- a term, and n more with commas before them
abbrev pub TermsWithCommas : ℕ → List Kind → Type 0
TermsWithCommas zero w = Derives (Ref TermPart) w
TermsWithCommas (suc n) w = (u : List Kind) × (v : List Kind) × (w ≡ u ++ Comma ∷ v) × Derives (Ref TermPart) u × TermsWithCommas n v

-- within the limits an atom has no more arguments than it may have, and one that is a term one fewer
abbrev pub ArgumentsWithin : Type 0
ArgumentsWithin = (before arguments behind : List Kind) (name : Kind) (n : ℕ) → IsAtomName before name → TermsWithCommas n arguments →
    IsWithin (before ++ name ∷ LParen ∷ (arguments ++ behind)) → (n + 1 ≤ most_arguments) × (TermNext before → n + 1 ≤ most_term_arguments)
