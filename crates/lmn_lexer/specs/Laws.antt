-- Laws of cutting.
use Rattle.std.specs.Prelude.{◌≡◌, ◌≤◌, ◌+◌, ◌⊎◌, ℕ, true, ⊤, List, [], ◌∷◌, ◌++◌, length}
use Rattle.std.specs.List.{AllByRecursion}
use Rattle.lmn_base.specs.declared.refusal.Refusal.{Refusal}
use Rattle.lmn_lexer.specs.declared.token.Token.{Token}
use Rattle.lmn_lexer.specs.declared.token.Kind.TheVariants.{End}
use Rattle.lmn_lexer.specs.Cutting.{Cuts, token_at}
use Rattle.lmn_lexer.specs.Values.{IsSound}
use Rattle.lmn_lexer.specs.Faults.{IsLexicalFault, NothingWrong}
use Rattle.lmn_lexer.specs.Laying.{Word, last_word, words_of, Laid, IsRight}

-- a text is cut in at most one way
abbrev pub OneCut : Type 0
OneCut = (text : List ℕ) (tokens others : List Token) → Cuts text tokens → Cuts text others → tokens ≡ others

-- a text has at most one first fault
abbrev pub OneFirstFault : Type 0
OneFirstFault = (text : List ℕ) (refusal other : Refusal) → IsLexicalFault text refusal → IsLexicalFault text other → refusal ≡ other

-- a text is cut and nothing is wrong in it, or it has a refusal
abbrev pub CutOrRefused : Type 0
CutOrRefused = (text : List ℕ) → ((tokens : List Token) × Cuts text tokens × NothingWrong text) ⊎ ((refusal : Refusal) × IsLexicalFault text refusal)

-- a text with a first fault isn't without one
abbrev pub RefusedIsWrong : Type 0
RefusedIsWrong = (text : List ℕ) (refusal : Refusal) → IsLexicalFault text refusal → NothingWrong text → ⊥

-- each token begins at or behind a place and the end of the one before it
abbrev pub InOrder : ℕ → List Token → Type 0
InOrder from [] = ⊤
InOrder from (t ∷ ts) = (from ≤ t.start) × (t.start ≤ t.end) × InOrder t.end ts

-- the tokens of a text stand one behind the other
abbrev pub SpansInOrder : Type 0
SpansInOrder = (text : List ℕ) (tokens : List Token) → Cuts text tokens → InOrder 0 tokens

-- The last token is the end of the text. Where nothing is wrong in it, the others are sound, so no other is an end.
abbrev pub TokensAreSound : Type 0
TokensAreSound = (text : List ℕ) (tokens : List Token) → Cuts text tokens → NothingWrong text
    → (but_end : List Token) × AllByRecursion (IsSound text) but_end × (tokens ≡ but_end ++ token_at End text [] ∷ [])

-- there are no more tokens than bytes, but for the end
abbrev pub FewTokens : Type 0
FewTokens = (text : List ℕ) (tokens : List Token) → Cuts text tokens → length tokens ≤ length text + 1

-- a text that is laid out as words is cut into them, and where each of them is right, nothing is wrong in it
abbrev pub LaidTextsAreCut : Type 0
LaidTextsAreCut = (text : List ℕ) (words : List Word) → Laid true text words
    → (tokens : List Token) × Cuts text tokens × (words_of text tokens ≡ words ++ last_word ∷ []) × (AllByRecursion IsRight words → NothingWrong text)
