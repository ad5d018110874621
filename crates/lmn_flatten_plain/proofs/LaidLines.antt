-- A printed line is laid out as its words.
use Rattle.std.proofs.Common.{◌≡◌, ℕ, ℤ, FitsSigned, w64, ◌+◌, ◌%◌, ◌<◌, ◌==◌, Bool, true, false, not, if◌then◌else◌, List, [], ◌∷◌, ◌++◌, map, refl, sym, ap, ◌∙◌, subst, arith, Decides, true≢false}
use Rattle.std.specs.Prelude.{codes, bytes_eq}
use Rattle.std.specs.Char.{is_ascii_digit}
use Rattle.std.specs.Fmt.{signed_decimal}
use Rattle.std.specs.List.{AllByRecursion}
use Rattle.std.proofs.lemmas.Bool.Decides.{nat_tests}
use Rattle.std.proofs.lemmas.List.{append_assoc, append-nil}
use Rattle.std.proofs.lemmas.Slice.Eq.{bytes_eq-Decides}
use Rattle.lmn_base.specs.declared.guard.Arith.{Arith}
use Rattle.lmn_base.specs.declared.guard.Cmp.{Cmp}
use Rattle.lmn_base.specs.declared.guard.Arith.TheVariants.{Add, Sub, Mul, Div, Mod}
use Rattle.lmn_base.specs.declared.guard.Cmp.TheVariants.{Lt, Le, Gt, Ge, Eq, Ne}
use Rattle.lmn_congruence.specs.Rules as tree
use Rattle.lmn_lexer.specs.declared.token.Kind.{Kind}
use Rattle.lmn_lexer.specs.declared.token.Kind.TheVariants as kind
use Rattle.lmn_lexer.specs.Cutting.{is_operand}
use Rattle.lmn_lexer.specs.Faults.{BeginsFraction}
use Rattle.lmn_lexer.specs.Laying.{Word, Laid, all_laid, separator, word as one_word, MayFollow, NoneStandsFirst}
use Rattle.lmn_lexer.specs.Spelling.{Spells, AllPass, goes_on, IsQuoted, byte, nothing, is_bare_name}
use Rattle.lmn_flatten_plain.proofs.Decimals.{integer_spelled, numeral_by_steps, passes_more}
use Rattle.lmn_flatten_plain.proofs.LabelWords.{bare_word, quotes_of}
use Rattle.lmn_flatten_plain.specs.Numerals.{numeral}
use Rattle.lmn_flatten_plain.specs.Words.{Piece, word, space, text_of, words_in, with_commas, with_full_stops, spaced, name_kind, name_piece, link_name, link_piece, context_piece, untyped_pieces, rule_context_piece, links_pieces, leaf_pieces, operator_pieces, comparison_pieces, operand_pieces, side_pieces, kind_name, contexts_pieces, condition_pieces, guard_pieces, level_pieces, levels_pieces, rule_pieces, rules_pieces, top_pieces, line_of}
use Rattle.lmn_flatten_plain.specs.Spelled.{LabelSpelled, IsContextName, LeafSpelled, ExpressionSpelled, ConditionSpelled, UntypedSpelled, LevelSpelled, LevelsSpelled, RuleSpelled, RulesSpelled}
use Rattle.lmn_flatten_plain.proofs.ReadGuards.{words_behind}
use Rattle.lmn_lexer.specs.NameText.{quoted}
use Rattle.lmn_base.proofs.Lists.{head_is, tail_is}
use Rattle.lmn_base.proofs.Numbers.{unequal_when}

-- the text of pieces is that of each part
pub text_append : (ps qs : List Piece) → text_of (ps ++ qs) ≡ text_of ps ++ text_of qs
text_append [] qs = refl
text_append (word k b ∷ ps) qs = ap (λ t. b ++ t) (text_append ps qs) ∙ sym (append_assoc b (text_of ps) (text_of qs))
text_append (space ∷ ps) qs = ap (λ t. 32 ∷ t) (text_append ps qs)

-- the text of pieces joined is that of the first and then that of the second
pub text_behind : (ps qs : List Piece) (rest : List ℕ) → text_of (ps ++ qs) ++ rest ≡ text_of ps ++ (text_of qs ++ rest)
text_behind ps qs rest = ap (λ t. t ++ rest) (text_append ps qs) ∙ append_assoc (text_of ps) (text_of qs) rest

-- the same text is laid out as the same words
pub laid_as : {minus : Bool} {text other : List ℕ} {ws vs : List Word} → text ≡ other → ws ≡ vs → Laid minus other vs → Laid minus text ws
laid_as {minus} {text} {other} {ws} {vs} e f h =
    let P : List ℕ → Type 0 = λ t. Laid minus t ws in
    let Q : List Word → Type 0 = λ us. Laid minus other us in
    subst P (sym e) (subst Q (sym f) h)

-- what may stand behind the text of a label
abbrev pub IsBehind : List ℕ → Type 0
IsBehind after = NoneStandsFirst goes_on after × NoneStandsFirst (λ b. b == 39) after × NoneStandsFirst is_ascii_digit after × ¬ (BeginsFraction after)

-- a text that may stand behind a name or an integer, and is laid out whether a `-` may begin an integer or not
pub record Goes (rest : List ℕ) (ws : List Word) : Type 0 where
  pub behind : IsBehind rest
  pub laid : (minus : Bool) → Laid minus rest ws

-- the pieces are laid out before such a text
abbrev pub CanLay : List Piece → Type 0
CanLay ps = (rest : List ℕ) (ws : List Word) → Goes rest ws → Laid true (text_of ps ++ rest) (words_in ps ++ ws)

no_fraction : (b : ℕ) (rest : List ℕ) → (b == 46) ≡ false → BeginsFraction (b ∷ rest) → ⊥
no_fraction b rest h f = unequal_when b 46 h (head_is f.2)

-- what may stand behind a name or an integer, by its first byte
pub byte_behind : (b : ℕ) (rest : List ℕ) → goes_on b ≡ false → (b == 39) ≡ false → is_ascii_digit b ≡ false → (b == 46) ≡ false → IsBehind (b ∷ rest)
byte_behind b rest e f g h = (e, f, g, no_fraction b rest h)

-- signs

space_laid : {rest : List ℕ} {ws : List Word} {minus : Bool} → Laid minus rest ws → Laid minus (32 ∷ rest) ws
space_laid h = separator refl h

-- a comma may stand behind a name, and then any text that is laid out
pub comma_goes : {rest : List ℕ} {ws : List Word} → Laid true rest ws → Goes (44 ∷ 32 ∷ rest) (record { kind = kind.Comma; bytes = codes "," } ∷ ws)
comma_goes {rest} h = record {
  behind = byte_behind 44 (32 ∷ rest) refl refl refl refl;
  laid = λ minus. one_word {bytes = codes ","} refl refl tt (space_laid h);
}

-- `)` may
pub close_goes : {rest : List ℕ} {ws : List Word} → Goes rest ws → Goes (41 ∷ rest) (record { kind = kind.RParen; bytes = codes ")" } ∷ ws)
close_goes {rest} g = record {
  behind = byte_behind 41 rest refl refl refl refl;
  laid = λ minus. one_word {bytes = codes ")"} refl refl tt (g.laid false);
}

-- `]` may stand behind a name, and then what may stand behind one
pub bracket_goes : {rest : List ℕ} {ws : List Word} → Goes rest ws → Goes (93 ∷ rest) (record { kind = kind.RBracket; bytes = codes "]" } ∷ ws)
bracket_goes {rest} g = record {
  behind = byte_behind 93 rest refl refl refl refl;
  laid = λ minus. one_word {bytes = codes "]"} refl refl tt (g.laid false);
}

brace_goes : {rest : List ℕ} {ws : List Word} → Goes rest ws → Goes (125 ∷ rest) (record { kind = kind.RBrace; bytes = codes "}" } ∷ ws)
brace_goes {rest} g = record {
  behind = byte_behind 125 rest refl refl refl refl;
  laid = λ minus. one_word {bytes = codes "}"} refl refl tt (g.laid true);
}

-- and so may a word with a space on each side
pub spaced_goes : (k : Kind) (bytes : List ℕ) {rest : List ℕ} {ws : List Word} → ((minus : Bool) → Spells minus k bytes) → MayFollow k (32 ∷ rest)
    → is_operand k ≡ false → Laid true rest ws → Goes (text_of (spaced k bytes) ++ rest) (record { kind = k; bytes = bytes } ∷ ws)
spaced_goes k bytes {rest} {ws} s f o h =
    let P : Bool → Type 0 = λ t. Laid (not t) (32 ∷ rest) ws in
    record {
      behind = byte_behind 32 ((bytes ++ 32 ∷ []) ++ rest) refl refl refl refl;
      laid = λ minus. space_laid (one_word (append_assoc bytes (32 ∷ []) rest) (s minus) f (subst P (sym o) (space_laid h)));
    }

-- a word, and pieces behind it
pub word_then : (k : Kind) (bytes : List ℕ) (ps : List Piece) (rest : List ℕ) (ws : List Word) → Spells true k bytes → ((after : List ℕ) → IsBehind after → MayFollow k after)
    → Goes (text_of ps ++ rest) (words_in ps ++ ws) → Laid true (text_of (word k bytes ∷ ps) ++ rest) (words_in (word k bytes ∷ ps) ++ ws)
word_then k bytes ps rest ws s f g = one_word (append_assoc bytes (text_of ps) rest) s (f (text_of ps ++ rest) g.behind) (g.laid (not (is_operand k)))

-- a word is laid out
pub word_can : (k : Kind) (bytes : List ℕ) → Spells true k bytes → ((after : List ℕ) → IsBehind after → MayFollow k after) → CanLay (word k bytes ∷ [])
word_can k bytes s f rest ws g = word_then k bytes [] rest ws s f g

-- parts with commas
pub commas_laid : (pss : List (List Piece)) → AllByRecursion CanLay pss → (rest : List ℕ) (ws : List Word) → Goes rest ws
    → Laid true (text_of (with_commas pss) ++ rest) (words_in (with_commas pss) ++ ws)
commas_laid [] h rest ws g = g.laid true
commas_laid (ps ∷ []) h rest ws g = h.0 rest ws g
commas_laid (ps ∷ qs ∷ pss) h rest ws g =
    let more = word kind.Comma (codes ",") ∷ space ∷ with_commas (qs ∷ pss) in
    laid_as (text_behind ps more rest) (words_behind ps more ws) (h.0 _ _ (comma_goes (commas_laid (qs ∷ pss) h.1 rest ws g)))

-- parts with commas, in parentheses
pub arguments_goes : (pss : List (List Piece)) → AllByRecursion CanLay pss → {rest : List ℕ} {ws : List Word} → Goes rest ws
    → Goes (text_of (word kind.LParen (codes "(") ∷ (with_commas pss ++ word kind.RParen (codes ")") ∷ [])) ++ rest)
    (words_in (word kind.LParen (codes "(") ∷ (with_commas pss ++ word kind.RParen (codes ")") ∷ [])) ++ ws)
arguments_goes pss h {rest} {ws} g =
    let close = word kind.RParen (codes ")") ∷ [] in
    record {
      behind = byte_behind 40 (text_of (with_commas pss ++ close) ++ rest) refl refl refl refl;
      laid = λ minus. one_word {bytes = codes "("} refl refl tt
          (laid_as (text_behind (with_commas pss) close rest) (words_behind (with_commas pss) close ws) (commas_laid pss h _ _ (close_goes g)));
    }

-- Words.

digit_goes_on : (n : ℕ) → n < 10 → goes_on (48 + n) ≡ true
digit_goes_on n h = grind (arith, nat_tests)

abbrev Passes : ℕ → List ℕ → Type 0
Passes n ds = AllPass goes_on ds

numeral_passes : (n : ℕ) → AllPass goes_on (numeral n)
numeral_passes n =
    numeral_by_steps Passes (λ m e. (digit_goes_on m e, tt)) (λ m ds e p. passes_more goes_on ds (48 + m % 10) p (digit_goes_on (m % 10) (omega arith))) n

-- a link is laid out
pub link_can : (x : ℕ) → CanLay (link_piece x ∷ [])
link_can x = word_can kind.Link (link_name x) (refl, numeral_passes x) (λ after b. b.0)

context_can : (name : tree.Name) → IsContextName name → CanLay (context_piece name ∷ [])
context_can name h = word_can kind.Context (codes "$" ++ name) (refl, h) (λ after b. b.0)

rule_context_can : (name : tree.Name) → IsContextName name → CanLay (rule_context_piece name ∷ [])
rule_context_can name h = word_can kind.RuleCtx (codes "@" ++ name) (refl, h) (λ after b. b.0)

-- a word of this kind is spelled, and may stand before what may stand behind it
pub record IsLaid (k : Kind) (bytes : List ℕ) : Type 0 where
  pub spells : Spells true k bytes
  pub follows : (after : List ℕ) → IsBehind after → MayFollow k after

-- a name is laid out, in quotes where it must be
pub name_laid : (name : tree.Name) → LabelSpelled (tree.named name) → IsLaid (name_kind name) (if is_bare_name name then name else quoted name)
name_laid name h = go (is_bare_name name) (bytes_eq name (codes "mod")) refl (bytes_eq-Decides name (codes "mod"))
  where
    go : (bare same : Bool) → is_bare_name name ≡ bare → Decides same (name ≡ codes "mod")
        → IsLaid (if bare then (if same then kind.Mod else kind.Name) else kind.Quoted) (if bare then name else quoted name)
    go true true e d = record { spells = d.0 refl; follows = λ after b. b.0 }
    go true false e d = record { spells = (bare_word name e, λ m. let k : false ≡ true = d.1 m in absurd (cc)); follows = λ after b. b.0 }
    go false same e d =
        let q : IsQuoted (quoted name) name = record { inside = _; stands = refl; quotes = quotes_of h.1 } in
        record { spells = (name, q); follows = λ after b. b.1 }

-- an integer is laid out
pub integer_laid : (z : ℤ) → FitsSigned w64 z → IsLaid kind.Int (signed_decimal z)
integer_laid z h = let s = integer_spelled z h in record { spells = s.spells; follows = λ after b. (b.2, b.3) }

-- Leaves.

links_can : (xs : List ℕ) → AllByRecursion CanLay (map (λ y. link_piece y ∷ []) xs)
links_can [] = tt
links_can (x ∷ xs) = (link_can x, links_can xs)

links_go : (xs : List ℕ) (rest : List ℕ) (ws : List Word) → Goes rest ws
    → Goes (text_of (links_pieces xs) ++ rest) (words_in (links_pieces xs) ++ ws)
links_go [] rest ws g = g
links_go (x ∷ xs) rest ws g = arguments_goes (map (λ y. link_piece y ∷ []) (x ∷ xs)) (links_can (x ∷ xs)) g

bracketed_goes : (x : ℕ) (rest : List ℕ) (ws : List Word) → Goes rest ws
    → Goes (text_of (word kind.LBracket (codes "[") ∷ link_piece x ∷ word kind.RBracket (codes "]") ∷ []) ++ rest)
    (words_in (word kind.LBracket (codes "[") ∷ link_piece x ∷ word kind.RBracket (codes "]") ∷ []) ++ ws)
bracketed_goes x rest ws g =
    let more = text_of (link_piece x ∷ word kind.RBracket (codes "]") ∷ []) ++ rest in
    let inside = word_then kind.Link (link_name x) (word kind.RBracket (codes "]") ∷ []) rest ws (refl, numeral_passes x) (λ after b. b.0) (bracket_goes g) in
    record { behind = byte_behind 91 more refl refl refl refl; laid = λ minus. one_word {bytes = codes "["} refl refl refl inside }

empty_goes : (rest : List ℕ) (ws : List Word) → Goes rest ws
    → Goes (text_of (word kind.LBracket (codes "[") ∷ word kind.RBracket (codes "]") ∷ []) ++ rest)
    (words_in (word kind.LBracket (codes "[") ∷ word kind.RBracket (codes "]") ∷ []) ++ ws)
empty_goes rest ws g =
    let close = word kind.RBracket (codes "]") ∷ [] in
    let b = bracket_goes g in
    record { behind = byte_behind 91 (text_of close ++ rest) refl refl refl refl; laid = λ minus. one_word {bytes = codes "["} refl refl refl (b.laid _) }

leaf_can : (l : tree.Leaf) → LeafSpelled l → CanLay (leaf_pieces l)
leaf_can (tree.atom_leaf (tree.named name) xs) h rest ws g =
    let w = name_laid name h.0 in
    word_then (name_kind name) (if is_bare_name name then name else quoted name) (links_pieces xs) rest ws w.spells w.follows (links_go xs rest ws g)
leaf_can (tree.atom_leaf (tree.integer z) xs) h rest ws g =
    let w = integer_laid z h.0 in
    word_then kind.Int (signed_decimal z) (links_pieces xs) rest ws w.spells w.follows (links_go xs rest ws g)
leaf_can (tree.connector_leaf x y) h rest ws g =
    let sign = spaced kind.Equal (codes "=") in
    word_then kind.Link (link_name x) (sign ++ link_piece y ∷ []) rest ws (refl, numeral_passes x) (λ after b. b.0)
    (spaced_goes kind.Equal (codes "=") (λ minus. refl) refl refl (link_can y rest ws g))
leaf_can (tree.typed_leaf name x) h rest ws g =
    word_then kind.Context (codes "$" ++ name) (word kind.LBracket (codes "[") ∷ link_piece x ∷ word kind.RBracket (codes "]") ∷ []) rest ws
    (refl, h) (λ after b. b.0) (bracketed_goes x rest ws g)

-- Conditions.

abbrev Operator : List Piece → Type 0
Operator ps = (rest : List ℕ) (ws : List Word) → Laid true rest ws → Goes (text_of ps ++ rest) (words_in ps ++ ws)

operator_goes : (op : Arith) → Operator (operator_pieces op)
operator_goes Add rest ws h = spaced_goes kind.Plus (codes "+") (λ minus. refl) refl refl h
operator_goes Sub rest ws h = spaced_goes kind.Minus (codes "-") (λ minus. refl) refl refl h
operator_goes Mul rest ws h = spaced_goes kind.Star (codes "*") (λ minus. refl) refl refl h
operator_goes Div rest ws h = spaced_goes kind.Slash (codes "/") (λ minus. refl) refl refl h
operator_goes Mod rest ws h = spaced_goes kind.Mod (codes "mod") (λ minus. refl) refl refl h

comparison_goes : (op : Cmp) → Operator (comparison_pieces op)
comparison_goes Lt rest ws h = spaced_goes kind.Less (codes "<") (λ minus. refl) refl refl h
comparison_goes Le rest ws h = spaced_goes kind.LessEq (codes "=<") (λ minus. refl) refl refl h
comparison_goes Gt rest ws h = spaced_goes kind.Greater (codes ">") (λ minus. refl) refl refl h
comparison_goes Ge rest ws h = spaced_goes kind.GreaterEq (codes ">=") (λ minus. refl) refl refl h
comparison_goes Eq rest ws h = spaced_goes kind.NumEq (codes "=:=") (λ minus. refl) refl refl h
comparison_goes Ne rest ws h = spaced_goes kind.NumNe (codes "=\\=") (λ minus. refl) refl refl h

between_can : (ps sign qs : List Piece) → CanLay ps → Operator sign → CanLay qs → CanLay (ps ++ (sign ++ qs))
between_can ps sign qs h o k rest ws g =
    laid_as (text_behind ps (sign ++ qs) rest ∙ ap (λ t. text_of ps ++ t) (text_behind sign qs rest))
    (words_behind ps (sign ++ qs) ws ∙ ap (λ us. words_in ps ++ us) (words_behind sign qs ws)) (h _ _ (o _ _ (k rest ws g)))

operand_can : (e : tree.Expression) → ExpressionSpelled e → CanLay (operand_pieces e)
operand_can (tree.number z) h rest ws g = let w = integer_laid z h in word_can kind.Int (signed_decimal z) w.spells w.follows rest ws g
operand_can (tree.value_of name) h rest ws g = context_can name h rest ws g
operand_can (tree.operation op l r) h rest ws g =
    let close = word kind.RParen (codes ")") ∷ [] in
    let inside = operand_pieces l ++ (operator_pieces op ++ operand_pieces r) in
    let all = between_can (operand_pieces l) (operator_pieces op) (operand_pieces r) (operand_can l h.0) (operator_goes op) (operand_can r h.1) _ _ (close_goes g) in
    let same : operand_pieces l ++ (operator_pieces op ++ (operand_pieces r ++ close)) ≡ inside ++ close =
    sym (append_assoc (operand_pieces l) (operator_pieces op ++ operand_pieces r) close ∙ ap (λ ps. operand_pieces l ++ ps) (append_assoc (operator_pieces op) (operand_pieces r) close)) in
    one_word {bytes = codes "("} refl refl tt
    (laid_as (ap (λ ps. text_of ps ++ rest) same ∙ text_behind inside close rest) (ap (λ ps. words_in ps ++ ws) same ∙ words_behind inside close ws) all)

side_can : (e : tree.Expression) → ExpressionSpelled e → CanLay (side_pieces e)
side_can (tree.number z) h = operand_can (tree.number z) h
side_can (tree.value_of name) h = context_can name h
side_can (tree.operation op l r) h =
    between_can (operand_pieces l) (operator_pieces op) (operand_pieces r) (operand_can l h.0) (operator_goes op) (operand_can r h.1)

contexts_can : (ns : List tree.Name) → AllByRecursion IsContextName ns → AllByRecursion CanLay (map (λ n. context_piece n ∷ []) ns)
contexts_can [] h = tt
contexts_can (n ∷ ns) h = (context_can n h.0, contexts_can ns h.1)

contexts_go : (ns : List tree.Name) → AllByRecursion IsContextName ns → (rest : List ℕ) (ws : List Word) → Goes rest ws
    → Goes (text_of (contexts_pieces ns) ++ rest) (words_in (contexts_pieces ns) ++ ws)
contexts_go [] h rest ws g = g
contexts_go (n ∷ ns) h rest ws g = arguments_goes (map (λ m. context_piece m ∷ []) (n ∷ ns)) (contexts_can (n ∷ ns) h) g

called_can : (name : tree.Name) (ns : List tree.Name) → LabelSpelled (tree.named name) → AllByRecursion IsContextName ns → CanLay (name_piece name ∷ contexts_pieces ns)
called_can name ns h k rest ws g =
    let w = name_laid name h in
    word_then (name_kind name) (if is_bare_name name then name else quoted name) (contexts_pieces ns) rest ws w.spells w.follows (contexts_go ns k rest ws g)

-- the name of a type can be spelled
pub kind_spelled : (k : tree.Kind) → LabelSpelled (tree.named (kind_name k))
kind_spelled tree.int = (codes "int", byte refl (byte refl (byte refl nothing)))
kind_spelled tree.unary = (codes "unary", byte refl (byte refl (byte refl (byte refl (byte refl nothing)))))
kind_spelled tree.grounded = (codes "ground", byte refl (byte refl (byte refl (byte refl (byte refl (byte refl nothing))))))

condition_can : (c : tree.Condition) → ConditionSpelled c → CanLay (condition_pieces c)
condition_can (tree.is_kind k name) h = called_can (kind_name k) (name ∷ []) (kind_spelled k) (h, tt)
condition_can (tree.unknown name ns) h = called_can name ns h.0 h.1
condition_can (tree.compares op l r) h =
    between_can (side_pieces l) (comparison_pieces op) (side_pieces r) (side_can l h.0) (comparison_goes op) (side_can r h.1)
condition_can (tree.equates name e) h =
    between_can (context_piece name ∷ []) (spaced kind.Equal (codes "=")) (side_pieces e) (context_can name h.0)
    (λ rest ws l. spaced_goes kind.Equal (codes "=") (λ minus. refl) refl refl l) (side_can e h.1)
condition_can (tree.differs m n) h =
    between_can (context_piece m ∷ []) (spaced kind.Differ (codes "\\=")) (context_piece n ∷ []) (context_can m h.0)
    (λ rest ws l. spaced_goes kind.Differ (codes "\\=") (λ minus. refl) refl refl l) (context_can n h.1)

conditions_can : (cs : List tree.Condition) → AllByRecursion ConditionSpelled cs → AllByRecursion CanLay (map condition_pieces cs)
conditions_can [] h = tt
conditions_can (c ∷ cs) h = (condition_can c h.0, conditions_can cs h.1)

guard_laid : (cs : List tree.Condition) → AllByRecursion ConditionSpelled cs → (rest : List ℕ) (ws : List Word) → Laid true rest ws
    → Laid true (text_of (guard_pieces cs) ++ rest) (words_in (guard_pieces cs) ++ ws)
guard_laid [] h rest ws l = l
guard_laid (c ∷ cs) h rest ws l =
    let bar = spaced kind.Bar (codes "|") in
    let list = with_commas (map condition_pieces (c ∷ cs)) in
    laid_as (text_behind list bar rest) (words_behind list bar ws)
    (commas_laid (map condition_pieces (c ∷ cs)) (conditions_can (c ∷ cs) h) _ _ (spaced_goes kind.Bar (codes "|") (λ minus. refl) tt refl l))

-- Levels and rules.

-- lists of pieces that are laid out, joined, are
pub both_can : (pss qss : List (List Piece)) → AllByRecursion CanLay pss → AllByRecursion CanLay qss → AllByRecursion CanLay (pss ++ qss)
both_can [] qss h k = k
both_can (ps ∷ pss) qss h k = (h.0, both_can pss qss h.1 k)

leaves_can : (ls : List tree.Leaf) → AllByRecursion LeafSpelled ls → AllByRecursion CanLay (map leaf_pieces ls)
leaves_can [] h = tt
leaves_can (l ∷ ls) h = (leaf_can l h.0, leaves_can ls h.1)

one_untyped_can : (c : tree.Context) → UntypedSpelled c → CanLay (untyped_pieces c)
one_untyped_can (tree.open_context name) h rest ws g = context_can name h rest ws g
one_untyped_can (tree.closed_context name) h rest ws g =
    word_then kind.Context (codes "$" ++ name) (word kind.LBracket (codes "[") ∷ word kind.RBracket (codes "]") ∷ []) rest ws (refl, h) (λ after b. b.0) (empty_goes rest ws g)

untyped_can : (cs : List tree.Context) → AllByRecursion UntypedSpelled cs → AllByRecursion CanLay (map untyped_pieces cs)
untyped_can [] h = tt
untyped_can (c ∷ cs) h = (one_untyped_can c h.0, untyped_can cs h.1)

rule_contexts_can : (ns : List tree.Name) → AllByRecursion IsContextName ns → AllByRecursion CanLay (map (λ n. rule_context_piece n ∷ []) ns)
rule_contexts_can [] h = tt
rule_contexts_can (n ∷ ns) h = (rule_context_can n h.0, rule_contexts_can ns h.1)

-- a membrane of items that are laid out is laid out
pub braces_can : (pss : List (List Piece)) → AllByRecursion CanLay pss → CanLay (word kind.LBrace (codes "{") ∷ (with_commas pss ++ word kind.RBrace (codes "}") ∷ []))
braces_can pss h rest ws g =
    let close = word kind.RBrace (codes "}") ∷ [] in
    one_word {bytes = codes "{"} refl refl tt
    (laid_as (text_behind (with_commas pss) close rest) (words_behind (with_commas pss) close ws) (commas_laid pss h _ _ (brace_goes g)))

rule_laid : (heads bodies : List (List Piece)) (guard : List tree.Condition) → AllByRecursion CanLay heads → AllByRecursion ConditionSpelled guard
    → AllByRecursion CanLay bodies
    → CanLay (word kind.LParen (codes "(") ∷ (with_commas heads ++ (spaced kind.Arrow (codes ":-") ++ (guard_pieces guard ++ (with_commas bodies ++ word kind.RParen (codes ")") ∷ [])))))
rule_laid heads bodies guard h c b rest ws g =
    let close = word kind.RParen (codes ")") ∷ [] in
    let arrow = spaced kind.Arrow (codes ":-") in
    let last = with_commas bodies ++ close in
    let body = laid_as (text_behind (with_commas bodies) close rest) (words_behind (with_commas bodies) close ws) (commas_laid bodies b _ _ (close_goes g)) in
    let behind = laid_as (text_behind (guard_pieces guard) last rest) (words_behind (guard_pieces guard) last ws) (guard_laid guard c _ _ body) in
    let more = arrow ++ (guard_pieces guard ++ last) in
    one_word {bytes = codes "("} refl refl tt
    (laid_as (text_behind (with_commas heads) more rest) (words_behind (with_commas heads) more ws)
    (commas_laid heads h _ _ (spaced_goes kind.Arrow (codes ":-") (λ minus. refl) tt refl behind)))

mutual
  level_can : (l : tree.Level) → LevelSpelled l → AllByRecursion CanLay (level_pieces l)
  level_can (tree.level ls ms ns os rs) h =
      both_can (map leaf_pieces ls) _ (leaves_can ls h.0)
      (both_can (levels_pieces ms) _ (levels_can ms h.1)
      (both_can (map untyped_pieces ns) _ (untyped_can ns h.2)
      (both_can (map (λ n. rule_context_piece n ∷ []) os) (rules_pieces rs) (rule_contexts_can os h.3) (rules_can rs h.4))))

  levels_can : (ms : tree.Levels) → LevelsSpelled ms → AllByRecursion CanLay (levels_pieces ms)
  levels_can tree.no_level h = tt
  levels_can (tree.level_and m ms) h = (braces_can (level_pieces m) (level_can m h.0), levels_can ms h.1)

  rule_can : (r : tree.Rule) → RuleSpelled r → CanLay (rule_pieces r)
  rule_can (tree.rule_of head guard body) h = rule_laid (level_pieces head) (level_pieces body) guard (level_can head h.0) h.1 (level_can body h.2)

  pub rules_can : (rs : tree.Rules) → RulesSpelled rs → AllByRecursion CanLay (rules_pieces rs)
  rules_can tree.no_rule h = tt
  rules_can (tree.rule_and r rs) h = (rule_can r h.0, rules_can rs h.1)

-- The line.

dot_goes : (b : ℕ) {rest : List ℕ} {ws : List Word} → is_ascii_digit b ≡ false → Laid true (b ∷ rest) ws
    → Goes (46 ∷ b ∷ rest) (record { kind = kind.Dot; bytes = codes "." } ∷ ws)
dot_goes b {rest} e h = record {
  behind = (refl, refl, refl, λ f. no_digit b rest e f);
  laid = λ minus. one_word {bytes = codes "."} refl refl tt h;
}
  where
    no_digit : (b : ℕ) (rest : List ℕ) → is_ascii_digit b ≡ false → BeginsFraction (46 ∷ b ∷ rest) → ⊥
    no_digit b rest e f = absurd (true≢false (sym f.3 ∙ sym (ap is_ascii_digit (head_is (tail_is f.2))) ∙ e))

-- a line of items that are laid out is laid out
pub top_laid : (pss : List (List Piece)) → AllByRecursion CanLay pss → Laid true (text_of (with_full_stops pss) ++ codes "\n") (words_in (with_full_stops pss) ++ [])
top_laid [] h = separator refl all_laid
top_laid (ps ∷ []) h =
    let dot = word kind.Dot (codes ".") ∷ [] in
    laid_as (text_behind ps dot (codes "\n")) (words_behind ps dot []) (h.0 _ _ (dot_goes 10 refl (separator refl all_laid)))
top_laid (ps ∷ qs ∷ pss) h =
    let dot = word kind.Dot (codes ".") ∷ [] in
    let more = with_full_stops (qs ∷ pss) in
    laid_as (text_behind (ps ++ dot) (space ∷ more) (codes "\n") ∙ text_behind ps dot (text_of (space ∷ more) ++ codes "\n"))
    (words_behind (ps ++ dot) (space ∷ more) [] ∙ words_behind ps dot (words_in more ++ []))
    (h.0 _ _ (dot_goes 32 refl (space_laid (top_laid (qs ∷ pss) h.1))))

-- the line of a level is laid out as its words
pub line_laid : (l : tree.Level) → LevelSpelled l → Laid true (line_of l) (words_in (top_pieces l))
line_laid l h = laid_as refl (sym (append-nil (words_in (top_pieces l)))) (top_laid (level_pieces l) (level_can l h))
