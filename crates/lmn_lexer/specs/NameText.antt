-- How a name is printed: bare where it may be, and else in quotes.
use Rattle.lmn_lexer.specs.Spelling.{is_bare_name}
use Rattle.std.specs.List.{flat_map}
use Rattle.std.specs.Prelude.{List, [], codes, if◌then◌else◌, ℕ, ◌==◌, ◌∷◌, ◌++◌}

-- a name in quotes; a quote in it stands twice
abbrev pub quoted : List ℕ → List ℕ
quoted name = codes "'" ++ (flat_map (λ b. if b == 39 then codes "''" else b ∷ []) name ++ codes "'")

-- a name, bare where it may be
abbrev pub name_text : List ℕ → List ℕ
name_text name = if is_bare_name name then name else quoted name

-- a byte between quotes, as laws and contracts of private functions tell it
abbrev pub quoted_byte : ℕ → List ℕ
quoted_byte b = if b == 39 then codes "''" else b ∷ []
