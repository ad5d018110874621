-- The integers of a printed line are in range, and where its names are short it is right.
use Rattle.std.proofs.Common.{ℕ, ℤ, ◌≡◌, ◌≤◌, FitsSigned, w64, Bool, true, false, if◌then◌else◌, List, [], ◌∷◌, ◌++◌, map, length, refl, sym, ap, subst, arith}
use Rattle.std.specs.Prelude.{codes, bytes_eq}
use Rattle.std.specs.Fmt.{signed_decimal}
use Rattle.std.specs.List.{AllByRecursion}
use Rattle.lmn_base.specs.declared.guard.Arith.{Arith}
use Rattle.lmn_base.specs.declared.guard.Cmp.{Cmp}
use Rattle.lmn_base.specs.declared.guard.Arith.TheVariants.{Add, Sub, Mul, Div, Mod}
use Rattle.lmn_base.specs.declared.guard.Cmp.TheVariants.{Lt, Le, Gt, Ge, Eq, Ne}
use Rattle.lmn_base.specs.Limits.{longest_name}
use Rattle.lmn_congruence.specs.Rules as tree
use Rattle.lmn_lexer.specs.declared.token.Kind.TheVariants as kind
use Rattle.lmn_lexer.specs.Faults.{SpelledInRange, TooLong}
use Rattle.lmn_lexer.specs.Laying.{Word, IsRight, last_word}
use Rattle.lmn_lexer.specs.Spelling.{IsQuoted, is_bare_name}
use Rattle.lmn_lexer.proofs.FaultLemmas.{quoted_size}
use Rattle.lmn_flatten_plain.proofs.Decimals.{integer_spelled}
use Rattle.lmn_flatten_plain.specs.Words.{Piece, word, space, words_in, with_commas, with_full_stops, spaced, name_kind, link_name, link_piece, context_piece, untyped_pieces, rule_context_piece, links_pieces, leaf_pieces, operator_pieces, comparison_pieces, operand_pieces, side_pieces, kind_name, contexts_pieces, condition_pieces, guard_pieces, level_pieces, levels_pieces, rule_pieces, rules_pieces, top_pieces}
use Rattle.lmn_flatten_plain.specs.Spelled.{LabelSpelled, IsContextName, LeafSpelled, ExpressionSpelled, ConditionSpelled, UntypedSpelled, LevelSpelled, LevelsSpelled, RuleSpelled, RulesSpelled}
use Rattle.lmn_flatten_plain.proofs.LaidLines.{kind_spelled, name_laid}
use Rattle.lmn_flatten_plain.proofs.LabelWords.{name_means, quotes_of}
use Rattle.lmn_flatten_plain.specs.Laws.{LabelsReadBack, NamesAreShort}
use Rattle.lmn_flatten_plain.specs.Texts.{IntegersInRange}
use Rattle.lmn_flatten_plain.proofs.ReadGuards.{words_append}
use Rattle.lmn_lexer.specs.NameText.{quoted}
use Rattle.lmn_base.proofs.Lists.{all_append, all_left}

-- a word that is an integer is in range
abbrev InRange : Word → Type 0
InRange w = w.kind ≡ kind.Int → SpelledInRange w.bytes

-- each integer among the words of the pieces is in range
abbrev pub Right : List Piece → Type 0
Right ps = IntegersInRange (words_in ps)

-- right pieces joined are right
pub both_right : (ps qs : List Piece) → Right ps → Right qs → Right (ps ++ qs)
both_right ps qs h k =
    let P : List Word → Type 0 = IntegersInRange in
    subst P (sym (words_append ps qs)) (all_append InRange (words_in ps) (words_in qs) h k)

-- and with commas between them
pub commas_right : (pss : List (List Piece)) → AllByRecursion Right pss → Right (with_commas pss)
commas_right [] h = tt
commas_right (ps ∷ []) h = h.0
commas_right (ps ∷ qs ∷ pss) h =
    both_right ps (word kind.Comma (codes ",") ∷ space ∷ with_commas (qs ∷ pss)) h.0 ((λ i. absurd (cc)), commas_right (qs ∷ pss) h.1)

-- and with full stops
pub stops_right : (pss : List (List Piece)) → AllByRecursion Right pss → Right (with_full_stops pss)
stops_right [] h = tt
stops_right (ps ∷ []) h = both_right ps (word kind.Dot (codes ".") ∷ []) h.0 ((λ i. absurd (cc)), tt)
stops_right (ps ∷ qs ∷ pss) h =
    both_right (ps ++ word kind.Dot (codes ".") ∷ []) (space ∷ with_full_stops (qs ∷ pss)) (both_right ps (word kind.Dot (codes ".") ∷ []) h.0 ((λ i. absurd (cc)), tt))
    (stops_right (qs ∷ pss) h.1)

-- Words.

-- a link is right
pub link_right : (x : ℕ) → InRange (record { kind = kind.Link; bytes = link_name x })
link_right x = λ i. absurd (cc)

context_right : (name : tree.Name) → IsContextName name → InRange (record { kind = kind.Context; bytes = codes "$" ++ name })
context_right name h = λ i. absurd (cc)

rule_context_right : (name : tree.Name) → IsContextName name → InRange (record { kind = kind.RuleCtx; bytes = codes "@" ++ name })
rule_context_right name h = λ i. absurd (cc)

-- and a name, in quotes where it must be
pub name_right : (name : tree.Name) → LabelSpelled (tree.named name) → InRange (record { kind = name_kind name; bytes = if is_bare_name name then name else quoted name })
name_right name h = go (is_bare_name name) (bytes_eq name (codes "mod"))
  where
    go : (bare same : Bool) → InRange (record { kind = if bare then (if same then kind.Mod else kind.Name) else kind.Quoted; bytes = if bare then name else quoted name })
    go true true = λ i. absurd (cc)
    go true false = λ i. absurd (cc)
    go false same = λ i. absurd (cc)

-- and it isn't too long where it is short
name_short : (name : tree.Name) → LabelSpelled (tree.named name) → length name ≤ longest_name → ¬ (TooLong (name_kind name) (if is_bare_name name then name else quoted name))
name_short name h short = go (is_bare_name name) (bytes_eq name (codes "mod"))
  where
    go : (bare same : Bool) → ¬ (TooLong (if bare then (if same then kind.Mod else kind.Name) else kind.Quoted) (if bare then name else quoted name))
    go true true = λ x. x
    go true false = λ long. omega (arith, short, long)
    go false same =
        let q : IsQuoted (quoted name) name = record { inside = _; stands = refl; quotes = quotes_of h.1 } in
        λ long. omega (arith, short, quoted_size (quoted name) name q, quoted_size (quoted name) long.0 long.1, long.2)

-- and an integer
pub integer_right : (z : ℤ) → FitsSigned w64 z → InRange (record { kind = kind.Int; bytes = signed_decimal z })
integer_right z h = let s = integer_spelled z h in λ e. s.in_range

-- Leaves.

links_right : (xs : List ℕ) → AllByRecursion Right (map (λ y. link_piece y ∷ []) xs)
links_right [] = tt
links_right (x ∷ xs) = ((link_right x, tt), links_right xs)

-- right pieces in parentheses, with commas between them, are right
pub in_parentheses : (pss : List (List Piece)) → AllByRecursion Right pss → Right (word kind.LParen (codes "(") ∷ (with_commas pss ++ word kind.RParen (codes ")") ∷ []))
in_parentheses pss h =
    ((λ i. absurd (cc)), both_right (with_commas pss) (word kind.RParen (codes ")") ∷ []) (commas_right pss h) ((λ i. absurd (cc)), tt))

all_links_right : (xs : List ℕ) → Right (links_pieces xs)
all_links_right [] = tt
all_links_right (x ∷ xs) = in_parentheses (map (λ y. link_piece y ∷ []) (x ∷ xs)) (links_right (x ∷ xs))

leaf_right : (l : tree.Leaf) → LeafSpelled l → Right (leaf_pieces l)
leaf_right (tree.atom_leaf (tree.named name) xs) h = (name_right name h.0, all_links_right xs)
leaf_right (tree.atom_leaf (tree.integer z) xs) h = (integer_right z h.0, all_links_right xs)
leaf_right (tree.connector_leaf x y) h = (link_right x, ((λ i. absurd (cc)), (link_right y, tt)))
leaf_right (tree.typed_leaf name x) h = (context_right name h, ((λ i. absurd (cc)), (link_right x, ((λ i. absurd (cc)), tt))))

-- Conditions.

operator_right : (op : Arith) → Right (operator_pieces op)
operator_right Add = ((λ i. absurd (cc)), tt)
operator_right Sub = ((λ i. absurd (cc)), tt)
operator_right Mul = ((λ i. absurd (cc)), tt)
operator_right Div = ((λ i. absurd (cc)), tt)
operator_right Mod = ((λ i. absurd (cc)), tt)

comparison_right : (op : Cmp) → Right (comparison_pieces op)
comparison_right Lt = ((λ i. absurd (cc)), tt)
comparison_right Le = ((λ i. absurd (cc)), tt)
comparison_right Gt = ((λ i. absurd (cc)), tt)
comparison_right Ge = ((λ i. absurd (cc)), tt)
comparison_right Eq = ((λ i. absurd (cc)), tt)
comparison_right Ne = ((λ i. absurd (cc)), tt)

three_right : (ps qs rs : List Piece) → Right ps → Right qs → Right rs → Right (ps ++ (qs ++ rs))
three_right ps qs rs h k l = both_right ps (qs ++ rs) h (both_right qs rs k l)

operand_right : (e : tree.Expression) → ExpressionSpelled e → Right (operand_pieces e)
operand_right (tree.number z) h = (integer_right z h, tt)
operand_right (tree.value_of name) h = (context_right name h, tt)
operand_right (tree.operation op l r) h = (
  (λ i. absurd (cc)),
  three_right (operand_pieces l) (operator_pieces op) (operand_pieces r ++ word kind.RParen (codes ")") ∷ []) (operand_right l h.0) (operator_right op)
      (both_right (operand_pieces r) (word kind.RParen (codes ")") ∷ []) (operand_right r h.1) ((λ i. absurd (cc)), tt)),
)

side_right : (e : tree.Expression) → ExpressionSpelled e → Right (side_pieces e)
side_right (tree.number z) h = (integer_right z h, tt)
side_right (tree.value_of name) h = (context_right name h, tt)
side_right (tree.operation op l r) h = three_right (operand_pieces l) (operator_pieces op) (operand_pieces r) (operand_right l h.0) (operator_right op) (operand_right r h.1)

contexts_right : (ns : List tree.Name) → AllByRecursion IsContextName ns → AllByRecursion Right (map (λ n. context_piece n ∷ []) ns)
contexts_right [] h = tt
contexts_right (n ∷ ns) h = ((context_right n h.0, tt), contexts_right ns h.1)

rule_contexts_right : (ns : List tree.Name) → AllByRecursion IsContextName ns → AllByRecursion Right (map (λ n. rule_context_piece n ∷ []) ns)
rule_contexts_right [] h = tt
rule_contexts_right (n ∷ ns) h = ((rule_context_right n h.0, tt), rule_contexts_right ns h.1)

all_contexts_right : (ns : List tree.Name) → AllByRecursion IsContextName ns → Right (contexts_pieces ns)
all_contexts_right [] h = tt
all_contexts_right (n ∷ ns) h = in_parentheses (map (λ m. context_piece m ∷ []) (n ∷ ns)) (contexts_right (n ∷ ns) h)

condition_right : (c : tree.Condition) → ConditionSpelled c → Right (condition_pieces c)
condition_right (tree.is_kind k name) h = (name_right (kind_name k) (kind_spelled k), all_contexts_right (name ∷ []) (h, tt))
condition_right (tree.unknown name ns) h = (name_right name h.0, all_contexts_right ns h.1)
condition_right (tree.compares op l r) h = three_right (side_pieces l) (comparison_pieces op) (side_pieces r) (side_right l h.0) (comparison_right op) (side_right r h.1)
condition_right (tree.equates name e) h = (context_right name h.0, ((λ i. absurd (cc)), side_right e h.1))
condition_right (tree.differs m n) h = (context_right m h.0, ((λ i. absurd (cc)), (context_right n h.1, tt)))

conditions_right : (cs : List tree.Condition) → AllByRecursion ConditionSpelled cs → AllByRecursion Right (map condition_pieces cs)
conditions_right [] h = tt
conditions_right (c ∷ cs) h = (condition_right c h.0, conditions_right cs h.1)

guard_right : (cs : List tree.Condition) → AllByRecursion ConditionSpelled cs → Right (guard_pieces cs)
guard_right [] h = tt
guard_right (c ∷ cs) h =
    both_right (with_commas (map condition_pieces (c ∷ cs))) (spaced kind.Bar (codes "|")) (commas_right (map condition_pieces (c ∷ cs)) (conditions_right (c ∷ cs) h))
    ((λ i. absurd (cc)), tt)

-- Levels and rules.

leaves_right : (ls : List tree.Leaf) → AllByRecursion LeafSpelled ls → AllByRecursion Right (map leaf_pieces ls)
leaves_right [] h = tt
leaves_right (l ∷ ls) h = (leaf_right l h.0, leaves_right ls h.1)

one_untyped_right : (c : tree.Context) → UntypedSpelled c → Right (untyped_pieces c)
one_untyped_right (tree.open_context name) h = (context_right name h, tt)
one_untyped_right (tree.closed_context name) h = (context_right name h, ((λ i. absurd (cc)), ((λ i. absurd (cc)), tt)))

untyped_right : (cs : List tree.Context) → AllByRecursion UntypedSpelled cs → AllByRecursion Right (map untyped_pieces cs)
untyped_right [] h = tt
untyped_right (c ∷ cs) h = (one_untyped_right c h.0, untyped_right cs h.1)

mutual
  level_right : (l : tree.Level) → LevelSpelled l → AllByRecursion Right (level_pieces l)
  level_right (tree.level ls ms ns os rs) h =
      all_append Right (map leaf_pieces ls) _ (leaves_right ls h.0)
      (all_append Right (levels_pieces ms) _ (levels_right ms h.1)
      (all_append Right (map untyped_pieces ns) _ (untyped_right ns h.2)
      (all_append Right (map (λ n. rule_context_piece n ∷ []) os) (rules_pieces rs) (rule_contexts_right os h.3) (rules_right rs h.4))))

  levels_right : (ms : tree.Levels) → LevelsSpelled ms → AllByRecursion Right (levels_pieces ms)
  levels_right tree.no_level h = tt
  levels_right (tree.level_and m ms) h =
      (((λ i. absurd (cc)), both_right (with_commas (level_pieces m)) (word kind.RBrace (codes "}") ∷ []) (commas_right (level_pieces m) (level_right m h.0)) ((λ i. absurd (cc)), tt)), levels_right ms h.1)

  rule_right : (r : tree.Rule) → RuleSpelled r → Right (rule_pieces r)
  rule_right (tree.rule_of head guard body) h = (
    (λ i. absurd (cc)),
    three_right (with_commas (level_pieces head)) (spaced kind.Arrow (codes ":-"))
        (guard_pieces guard ++ (with_commas (level_pieces body) ++ word kind.RParen (codes ")") ∷ [])) (commas_right (level_pieces head) (level_right head h.0))
        ((λ i. absurd (cc)), tt)
        (three_right (guard_pieces guard) (with_commas (level_pieces body)) (word kind.RParen (codes ")") ∷ []) (guard_right guard h.1)
        (commas_right (level_pieces body) (level_right body h.2)) ((λ i. absurd (cc)), tt)),
  )

  pub rules_right : (rs : tree.Rules) → RulesSpelled rs → AllByRecursion Right (rules_pieces rs)
  rules_right tree.no_rule h = tt
  rules_right (tree.rule_and r rs) h = (rule_right r h.0, rules_right rs h.1)

-- a label is spelled by its text, and reads back
pub labels_read_back : LabelsReadBack
labels_read_back (tree.named name) h = (name_kind name, refl, (name_laid name h).spells, name_right name h, name_short name h, name_means name)
labels_read_back (tree.integer z) h = let s = integer_spelled z h in (kind.Int, refl, s.spells, integer_right z h, (λ short long. long), ap tree.integer s.value)

-- each integer of the line of a level is in range
pub line_right : (l : tree.Level) → LevelSpelled l → IntegersInRange (words_in (top_pieces l))
line_right l h = stops_right (level_pieces l) (level_right l h)

-- words whose integers are in range and whose names are short are right
all_right : (ws : List Word) → IntegersInRange ws → NamesAreShort ws → AllByRecursion IsRight ws
all_right [] h short = tt
all_right (w ∷ ws) h short = ((h.0, short.0), all_right ws h.1 short.1)

-- and so are those of a text, before the last one
pub text_right : (ws found : List Word) → found ≡ ws ++ last_word ∷ [] → IntegersInRange ws → NamesAreShort found → AllByRecursion IsRight ws
text_right ws found is h short =
    let P : List Word → Type 0 = NamesAreShort in all_right ws h (all_left (λ w. ¬ (TooLong w.kind w.bytes)) ws (last_word ∷ []) (subst P is short))
