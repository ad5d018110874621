-- The list of names of a small text.
use Rattle.std.specs.Prelude.{◌≡◌, List, [], ◌∷◌, ◌++◌, codes}
use Rattle.lmn_base.specs.Names.{first_names}
use Rattle.lmn_flatten.specs.NameLists.{names_read}
use Rattle.lmn_lexer.specs.declared.token.Kind.TheVariants.{Name, Quoted, Link, Int, Context}
use Rattle.lmn_lexer.specs.Laying.{Word}

-- some words of `b(X,$p), 'int', 5, b`
abbrev pub some_words : List Word
some_words =
    record { kind = Name; bytes = codes "b" }
    ∷ record { kind = Link; bytes = codes "X" }
    ∷ record { kind = Context; bytes = codes "$p" }
    ∷ record { kind = Quoted; bytes = codes "'int'" }
    ∷ record { kind = Int; bytes = codes "5" }
    ∷ record { kind = Name; bytes = codes "b" }
    ∷ []

-- A name that stands twice, or is held before, is put once; links and integers have none.
abbrev pub SomeNames : Type 0
SomeNames = names_read first_names some_words ≡ first_names ++ (codes "." ∷ codes "[]" ∷ codes "+" ∷ codes "b" ∷ codes "p" ∷ [])
