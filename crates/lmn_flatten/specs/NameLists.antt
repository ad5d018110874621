-- The list of names once a text is read.
use Rattle.std.specs.Prelude.{Bool, true, false, if◌then◌else◌, List, [], ◌∷◌, ◌++◌, codes, bytes_eq}
use Rattle.std.specs.List.{list_any, fold}
use Rattle.lmn_congruence.specs.Rules as tree
use Rattle.lmn_lexer.specs.declared.token.Kind.{Kind}
use Rattle.lmn_lexer.specs.declared.token.Kind.TheVariants.{Name, Quoted, Mod, Context, RuleCtx}
use Rattle.lmn_lexer.specs.Laying.{Word}
use Rattle.lmn_flatten_plain.specs.Meanings.{name_spelled}

-- A name goes to the end of a list that doesn't hold it.
abbrev pub with_name : List tree.Name → tree.Name → List tree.Name
with_name names name = if list_any (bytes_eq name) names then names else names ++ name ∷ []

-- words of these kinds spell the name of an atom, a context or a rule context
abbrev pub has_name : Kind → Bool
has_name Name = true
has_name Quoted = true
has_name Mod = true
has_name Context = true
has_name RuleCtx = true
has_name _ = false

-- the list with the name of a word
abbrev pub with_word : List tree.Name → Word → List tree.Name
with_word names w = if has_name w.kind then with_name names (name_spelled w.kind w.bytes) else names

-- the names that abbreviations bring in, and behind them those of the words
abbrev pub names_read : List tree.Name → List Word → List tree.Name
names_read names words = fold with_word (with_name (with_name (with_name names (codes ".")) (codes "[]")) (codes "+")) words

-- the list with the names of some words, as the contracts of private functions tell it
abbrev pub with_words : List tree.Name → List Word → List tree.Name
with_words = fold with_word
