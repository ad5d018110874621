-- The kinds of tokens.
use Rattle.std.specs.Prelude.{◌≡◌, List, [], ◌∷◌, ◌++◌, map}
use Rattle.lmn_lexer.specs.declared.token.Kind.{Kind}
use Rattle.lmn_lexer.specs.declared.token.Kind.TheVariants.{End}
use Rattle.lmn_lexer.specs.declared.token.Token.{Token}

-- the kinds of tokens
abbrev pub kinds_of : List Token → List Kind
kinds_of ts = map (λ t. t.kind) ts

-- the last token is `End`
abbrev pub EndsWithEnd : List Token → Type 0
EndsWithEnd ts = (before : List Kind) × (kinds_of ts ≡ before ++ End ∷ [])
