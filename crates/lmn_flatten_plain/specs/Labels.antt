-- How a label is printed.
use Rattle.std.specs.Prelude.{ℕ, List}
use Rattle.std.specs.Fmt.{signed_decimal}
use Rattle.lmn_congruence.specs.Rules.{Label, named, integer}
use Rattle.lmn_lexer.specs.NameText.{name_text}

-- a name so, and an integer in decimal, with `-` before a negative one
abbrev pub label_text : Label → List ℕ
label_text (named name) = name_text name
label_text (integer z) = signed_decimal z
