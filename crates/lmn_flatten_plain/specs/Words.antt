-- The plain form in which a process is printed: words, and the spaces between them. It is given by the trees of the
-- calculus, in which a rule is written out wherever it stands.
use Rattle.std.specs.Prelude.{ℕ, ℤ, if◌then◌else◌, List, [], ◌∷◌, ◌++◌, map, flat_map, codes, bytes_eq}
use Rattle.std.specs.Fmt.{signed_decimal}
use Rattle.lmn_base.specs.declared.guard.Arith.{Arith}
use Rattle.lmn_base.specs.declared.guard.Cmp.{Cmp}
use Rattle.lmn_base.specs.declared.guard.Arith.TheVariants.{Add, Sub, Mul, Div, Mod}
use Rattle.lmn_base.specs.declared.guard.Cmp.TheVariants.{Lt, Le, Gt, Ge, Eq, Ne}
use Rattle.lmn_congruence.specs.Rules.{Name, Label, named, integer, Leaf, atom_leaf, connector_leaf, typed_leaf, Expression, number, value_of, operation, Kind, int, unary, grounded, Condition, is_kind, compares, equates, differs, unknown, Context, open_context, closed_context, Level, level, Levels, no_level, level_and, Rule, rule_of, Rules, no_rule, rule_and}
use Rattle.lmn_lexer.specs.declared.token.Kind.{Kind as TokenKind}
use Rattle.lmn_lexer.specs.declared.token.Kind.TheVariants as kind
use Rattle.lmn_lexer.specs.Laying.{Word}
use Rattle.lmn_lexer.specs.NameText.{name_text}
use Rattle.lmn_lexer.specs.Spelling.{is_bare_name}
use Rattle.lmn_flatten_plain.specs.Numerals.{numeral}

-- a word, or a space
pub data Piece : Type 0 where
  word : TokenKind → List ℕ → Piece
  space : Piece

-- the text of a piece
abbrev pub piece_text : Piece → List ℕ
piece_text (word kind bytes) = bytes
piece_text space = codes " "

-- the text, and the words alone
abbrev pub text_of : List Piece → List ℕ
text_of = flat_map piece_text

abbrev pub words_in : List Piece → List Word
words_in [] = []
words_in (word kind bytes ∷ ps) = record { kind = kind; bytes = bytes } ∷ words_in ps
words_in (space ∷ ps) = words_in ps

-- the parts in order, and what stands between two of them
abbrev pub joined_by : List Piece → List (List Piece) → List Piece
joined_by between [] = []
joined_by between (p ∷ []) = p
joined_by between (p ∷ q ∷ ps) = p ++ (between ++ joined_by between (q ∷ ps))

-- as `a, b`
abbrev pub with_commas : List (List Piece) → List Piece
with_commas ps = joined_by (word kind.Comma (codes ",") ∷ space ∷ []) ps

-- in parentheses, as `(a, b)`, where there are any
abbrev pub parenthesized : List (List Piece) → List Piece
parenthesized [] = []
parenthesized (p ∷ ps) = word kind.LParen (codes "(") ∷ (with_commas (p ∷ ps) ++ word kind.RParen (codes ")") ∷ [])

-- with a space on each side
abbrev pub spaced : TokenKind → List ℕ → List Piece
spaced kind bytes = space ∷ word kind bytes ∷ space ∷ []

-- Names, integers and links.

-- a name is bare where a text spells it so, and else in quotes
abbrev pub name_piece : Name → Piece
name_piece name = word (if is_bare_name name then (if bytes_eq name (codes "mod") then kind.Mod else kind.Name) else kind.Quoted) (name_text name)

abbrev pub label_piece : Label → Piece
label_piece (named name) = name_piece name
label_piece (integer z) = word kind.Int (signed_decimal z)

abbrev pub link_piece : ℕ → Piece
link_piece x = word kind.Link (codes "L" ++ numeral x)

abbrev pub context_piece : Name → Piece
context_piece name = word kind.Context (codes "$" ++ name)

-- `$p` and `$p[]`
abbrev pub untyped_pieces : Context → List Piece
untyped_pieces (open_context name) = context_piece name ∷ []
untyped_pieces (closed_context name) = context_piece name ∷ word kind.LBracket (codes "[") ∷ word kind.RBracket (codes "]") ∷ []

-- Leaves: `p(L0, L1)`, `L0 = L1` and `$x[L0]`.

abbrev pub leaf_pieces : Leaf → List Piece
leaf_pieces (atom_leaf l xs) = label_piece l ∷ parenthesized (map (λ x. link_piece x ∷ []) xs)
leaf_pieces (connector_leaf x y) = link_piece x ∷ (spaced kind.Equal (codes "=") ++ link_piece y ∷ [])
leaf_pieces (typed_leaf p x) = context_piece p ∷ word kind.LBracket (codes "[") ∷ link_piece x ∷ word kind.RBracket (codes "]") ∷ []

-- Conditions.

abbrev pub operator_pieces : Arith → List Piece
operator_pieces Add = spaced kind.Plus (codes "+")
operator_pieces Sub = spaced kind.Minus (codes "-")
operator_pieces Mul = spaced kind.Star (codes "*")
operator_pieces Div = spaced kind.Slash (codes "/")
operator_pieces Mod = spaced kind.Mod (codes "mod")

abbrev pub comparison_pieces : Cmp → List Piece
comparison_pieces Lt = spaced kind.Less (codes "<")
comparison_pieces Le = spaced kind.LessEq (codes "=<")
comparison_pieces Gt = spaced kind.Greater (codes ">")
comparison_pieces Ge = spaced kind.GreaterEq (codes ">=")
comparison_pieces Eq = spaced kind.NumEq (codes "=:=")
comparison_pieces Ne = spaced kind.NumNe (codes "=\\=")

-- an operand: an operation stands in parentheses
abbrev pub operand_pieces : Expression → List Piece
operand_pieces (number z) = word kind.Int (signed_decimal z) ∷ []
operand_pieces (value_of name) = context_piece name ∷ []
operand_pieces (operation op l r) =
    word kind.LParen (codes "(") ∷ (operand_pieces l ++ (operator_pieces op ++ (operand_pieces r ++ word kind.RParen (codes ")") ∷ [])))

-- a whole side: no parentheses round it
abbrev pub side_pieces : Expression → List Piece
side_pieces (operation op l r) = operand_pieces l ++ (operator_pieces op ++ operand_pieces r)
side_pieces e = operand_pieces e

abbrev pub kind_name : Kind → Name
kind_name int = codes "int"
kind_name unary = codes "unary"
kind_name grounded = codes "ground"

abbrev pub condition_pieces : Condition → List Piece
condition_pieces (is_kind k name) = name_piece (kind_name k) ∷ parenthesized ((context_piece name ∷ []) ∷ [])
condition_pieces (compares op l r) = side_pieces l ++ (comparison_pieces op ++ side_pieces r)
condition_pieces (equates name e) = context_piece name ∷ (spaced kind.Equal (codes "=") ++ side_pieces e)
condition_pieces (differs m n) = context_piece m ∷ (spaced kind.Differ (codes "\\=") ++ context_piece n ∷ [])
condition_pieces (unknown name ns) = name_piece name ∷ parenthesized (map (λ n. context_piece n ∷ []) ns)

abbrev pub guard_pieces : List Condition → List Piece
guard_pieces [] = []
guard_pieces (c ∷ cs) = with_commas (map condition_pieces (c ∷ cs)) ++ spaced kind.Bar (codes "|")

-- Levels and rules.

abbrev mutual
  -- the items of a level: leaves, membranes, contexts, rule contexts and rules
  pub level_pieces : Level → List (List Piece)
  level_pieces (level leaves membranes contexts rule_contexts rules) =
      map leaf_pieces leaves
      ++ (levels_pieces membranes
      ++ (map untyped_pieces contexts ++ (map (λ n. word kind.RuleCtx (codes "@" ++ n) ∷ []) rule_contexts ++ rules_pieces rules)))

  pub levels_pieces : Levels → List (List Piece)
  levels_pieces no_level = []
  levels_pieces (level_and l ls) =
      (word kind.LBrace (codes "{") ∷ (with_commas (level_pieces l) ++ word kind.RBrace (codes "}") ∷ [])) ∷ levels_pieces ls

  -- as `(a, a :- b)`
  pub rule_pieces : Rule → List Piece
  rule_pieces (rule_of head guard body) =
      word kind.LParen (codes "(")
      ∷ (with_commas (level_pieces head)
      ++ (spaced kind.Arrow (codes ":-") ++ (guard_pieces guard ++ (with_commas (level_pieces body) ++ word kind.RParen (codes ")") ∷ []))))

  pub rules_pieces : Rules → List (List Piece)
  rules_pieces no_rule = []
  rules_pieces (rule_and r rs) = rule_pieces r ∷ rules_pieces rs

-- The top: a full stop behind each item, a space between two, and a line feed.
abbrev pub line_of_items : List (List Piece) → List ℕ
line_of_items items = text_of (joined_by (space ∷ []) (map (λ i. i ++ word kind.Dot (codes ".") ∷ []) items)) ++ codes "\n"

-- ---- parts of these, as laws and contracts of private functions tell them

-- the name of a link
abbrev pub link_name : ℕ → Name
link_name x = codes "L" ++ numeral x

-- the kind of the word of a name
abbrev pub name_kind : Name → TokenKind
name_kind name = if is_bare_name name then (if bytes_eq name (codes "mod") then kind.Mod else kind.Name) else kind.Quoted

abbrev pub rule_context_piece : Name → Piece
rule_context_piece name = word kind.RuleCtx (codes "@" ++ name)

-- the links of an atom, and the contexts of a condition
abbrev pub links_pieces : List ℕ → List Piece
links_pieces xs = parenthesized (map (λ x. link_piece x ∷ []) xs)

abbrev pub contexts_pieces : List Name → List Piece
contexts_pieces ns = parenthesized (map (λ n. context_piece n ∷ []) ns)

-- items with their full stops, the line but for its line feed, and the line
abbrev pub with_full_stops : List (List Piece) → List Piece
with_full_stops items = joined_by (space ∷ []) (map (λ i. i ++ word kind.Dot (codes ".") ∷ []) items)

abbrev pub top_pieces : Level → List Piece
top_pieces l = with_full_stops (level_pieces l)

abbrev pub line_of : Level → List ℕ
line_of l = line_of_items (level_pieces l)

-- an integer
abbrev pub integer_piece : ℤ → Piece
integer_piece z = word kind.Int (signed_decimal z)
