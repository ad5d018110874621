-- What is written by names without a line feed has none.
use Rattle.std.proofs.Common.{ℕ, ℤ, pos, negsuc, suc, ◌≡◌, ◌≢◌, ◌+◌, ◌%◌, ◌==◌, Bool, true, false, if◌then◌else◌, List, [], ◌∷◌, ◌++◌, Some, map, flat_map, codes, refl, sym, ap, ◌∙◌, subst, arith, true≢false}
use Rattle.std.specs.List.{AllByRecursion}
use Rattle.std.specs.Fmt.{signed_decimal}
use Rattle.std.proofs.lemmas.Option.{slice_get-get_or}
use Rattle.lmn_base.specs.declared.guard.Arith.{Arith}
use Rattle.lmn_base.specs.declared.guard.Cmp.{Cmp}
use Rattle.lmn_base.specs.declared.guard.Arith.TheVariants.{Add, Sub, Mul, Div, Mod}
use Rattle.lmn_base.specs.declared.guard.Cmp.TheVariants.{Lt, Le, Gt, Ge, Eq, Ne}
use Rattle.lmn_base.proofs.Lists.{all_append}
use Rattle.lmn_base.proofs.Numbers.{unequal_when}
use Rattle.lmn_congruence.specs.Rules as tree
use Rattle.lmn_congruence.specs.Rules.{Name, Leaf, atom_leaf, connector_leaf, typed_leaf, named, integer, Expression, number, value_of, operation, int, unary, grounded, Condition, is_kind, compares, equates, differs, unknown, Context, open_context, closed_context, Level, level, Levels, no_level, level_and, Rule, rule_of, Rules, no_rule, rule_and}
use Rattle.lmn_lexer.specs.declared.token.Kind.{Kind}
use Rattle.lmn_lexer.specs.declared.token.Kind.TheVariants as kind
use Rattle.lmn_lexer.specs.NameText.{name_text, quoted, quoted_byte}
use Rattle.lmn_lexer.specs.Spelling.{is_bare_name}
use Rattle.lmn_flatten_plain.specs.NamesHeld.{ConditionHeld, ExpressionHeld, Held, LeafHeld, LevelHeld, LevelsHeld, RuleHeld, RulesHeld, UntypedHeld}
use Rattle.lmn_flatten_plain.specs.Numerals.{numeral}
use Rattle.lmn_flatten_plain.specs.Words.{Piece, comparison_pieces, condition_pieces, context_piece, contexts_pieces, guard_pieces, joined_by, kind_name, leaf_pieces, level_pieces, levels_pieces, link_name, link_piece, links_pieces, name_kind, operand_pieces, operator_pieces, rule_context_piece, rule_pieces, rules_pieces, side_pieces, space, spaced, text_of, untyped_pieces, with_commas, word}
use Rattle.lmn_flatten_plain.proofs.Decimals.{numeral_by_steps}
use Rattle.lmn_flatten_plain.proofs.LaidLines.{text_append}
use Rattle.lmn_receipt_chain.specs.Bytes.{NoFeed}
use Rattle.lmn_receipt_chain.proofs.LineBytes.{digits_quiet}
use Rattle.lmn_receipt_search.specs.Feeds.{NamesWithout, has_feed}

abbrev pub Quiet : List Piece → Type 0
Quiet ps = NoFeed (text_of ps)

-- ---- bytes

-- bytes that pass a test
pub unfed : (bs : List ℕ) → has_feed bs ≡ false → NoFeed bs
unfed [] e = tt
unfed (b ∷ bs) e = by (b == 10) refl (unfed bs) e
  where
    by : (t : Bool) → (b == 10) ≡ t → (has_feed bs ≡ false → NoFeed bs) → (if t then true else has_feed bs) ≡ false → NoFeed (b ∷ bs)
    by true q r e = absurd (true≢false e)
    by false q r e = (unequal_when b 10 q, r e)

-- an integer
pub integer_quiet : (z : ℤ) → NoFeed (signed_decimal z)
integer_quiet (pos n) = digits_quiet n
integer_quiet (negsuc n) = ((λ e. omega (arith, e)), digits_quiet (suc n))

numeral_quiet : (n : ℕ) → NoFeed (numeral n)
numeral_quiet n =
    numeral_by_steps (λ m ds. NoFeed ds) (λ m l. ((λ e. omega (arith, e)), tt))
    (λ m ds l h. all_append (λ b. b ≢ 10) ds ((48 + m % 10) ∷ []) h ((λ e. omega (arith, e)), tt)) n

link_quiet : (x : ℕ) → NoFeed (link_name x)
link_quiet x = ((λ e. omega (arith, e)), numeral_quiet x)

-- a name, bare or in quotes
quotes_quiet : (name : List ℕ) → NoFeed name → NoFeed (flat_map quoted_byte name)
quotes_quiet [] h = tt
quotes_quiet (b ∷ bs) h = all_append (λ c. c ≢ 10) (quoted_byte b) (flat_map quoted_byte bs) (by (b == 39)) (quotes_quiet bs h.1)
  where
    by : (t : Bool) → NoFeed (if t then codes "''" else b ∷ [])
    by true = unfed (codes "''") refl
    by false = (h.0, tt)

pub name_quiet : (name : Name) → NoFeed name → NoFeed (name_text name)
name_quiet name h = by (is_bare_name name)
  where
    by : (b : Bool) → NoFeed (if b then name else quoted name)
    by true = h
    by false = ((λ e. omega (arith, e)), all_append (λ c. c ≢ 10) (flat_map quoted_byte name) (codes "'") (quotes_quiet name h) (unfed (codes "'") refl))

sign_quiet : (sign : ℕ) (name : Name) → sign ≢ 10 → NoFeed name → NoFeed (sign ∷ name)
sign_quiet sign name d h = (d, h)

-- a name of the list
pub held_quiet : (names : List Name) → NamesWithout names → (name : Name) → Held names name → NoFeed name
held_quiet names without name h = without h.0 name (slice_get-get_or names h.0 name h.1 ∙ ap Some h.2)

-- ---- pieces

pub word_first : (k : Kind) (bytes : List ℕ) (ps : List Piece) → NoFeed bytes → Quiet ps → Quiet (word k bytes ∷ ps)
word_first k bytes ps h q = all_append (λ b. b ≢ 10) bytes (text_of ps) h q

fixed : (k : Kind) (bytes : List ℕ) (ps : List Piece) → has_feed bytes ≡ false → Quiet ps → Quiet (word k bytes ∷ ps)
fixed k bytes ps e q = word_first k bytes ps (unfed bytes e) q

space_first : (ps : List Piece) → Quiet ps → Quiet (space ∷ ps)
space_first ps q = ((λ e. omega (arith, e)), q)

pub both : (ps qs : List Piece) → Quiet ps → Quiet qs → Quiet (ps ++ qs)
both ps qs h k = subst NoFeed (sym (text_append ps qs)) (all_append (λ b. b ≢ 10) (text_of ps) (text_of qs) h k)

pub joined : (between : List Piece) → Quiet between → (pss : List (List Piece)) → AllByRecursion Quiet pss → Quiet (joined_by between pss)
joined between b [] h = tt
joined between b (p ∷ []) h = h.0
joined between b (p ∷ q ∷ ps) h = both p (between ++ joined_by between (q ∷ ps)) h.0 (both between (joined_by between (q ∷ ps)) b (joined between b (q ∷ ps) h.1))

pub commas : (pss : List (List Piece)) → AllByRecursion Quiet pss → Quiet (with_commas pss)
commas = joined (word kind.Comma (codes ",") ∷ space ∷ []) (fixed kind.Comma (codes ",") (space ∷ []) refl (space_first [] tt))

spaced_quiet : (k : Kind) (bytes : List ℕ) → has_feed bytes ≡ false → Quiet (spaced k bytes)
spaced_quiet k bytes e = space_first (word k bytes ∷ space ∷ []) (fixed k bytes (space ∷ []) e (space_first [] tt))

close : Quiet (word kind.RParen (codes ")") ∷ [])
close = fixed kind.RParen (codes ")") [] refl tt

in_parentheses : (pss : List (List Piece)) → AllByRecursion Quiet pss → Quiet (word kind.LParen (codes "(") ∷ (with_commas pss ++ word kind.RParen (codes ")") ∷ []))
in_parentheses pss h = fixed kind.LParen (codes "(") (with_commas pss ++ word kind.RParen (codes ")") ∷ []) refl (both (with_commas pss) (word kind.RParen (codes ")") ∷ []) (commas pss h) close)

each_link : (xs : List ℕ) → AllByRecursion Quiet (map (λ y. link_piece y ∷ []) xs)
each_link [] = tt
each_link (x ∷ xs) = (word_first kind.Link (link_name x) [] (link_quiet x) tt, each_link xs)

pub links_quiet : (xs : List ℕ) → Quiet (links_pieces xs)
links_quiet [] = tt
links_quiet (x ∷ xs) = in_parentheses (map (λ y. link_piece y ∷ []) (x ∷ xs)) (each_link (x ∷ xs))

integer_word : (z : ℤ) (ps : List Piece) → Quiet ps → Quiet (word kind.Int (signed_decimal z) ∷ ps)
integer_word z ps q = word_first kind.Int (signed_decimal z) ps (integer_quiet z) q

operator_quiet : (o : Arith) → Quiet (operator_pieces o)
operator_quiet Add = spaced_quiet kind.Plus (codes "+") refl
operator_quiet Sub = spaced_quiet kind.Minus (codes "-") refl
operator_quiet Mul = spaced_quiet kind.Star (codes "*") refl
operator_quiet Div = spaced_quiet kind.Slash (codes "/") refl
operator_quiet Mod = spaced_quiet kind.Mod (codes "mod") refl

comparison_quiet : (c : Cmp) → Quiet (comparison_pieces c)
comparison_quiet Lt = spaced_quiet kind.Less (codes "<") refl
comparison_quiet Le = spaced_quiet kind.LessEq (codes "=<") refl
comparison_quiet Gt = spaced_quiet kind.Greater (codes ">") refl
comparison_quiet Ge = spaced_quiet kind.GreaterEq (codes ">=") refl
comparison_quiet Eq = spaced_quiet kind.NumEq (codes "=:=") refl
comparison_quiet Ne = spaced_quiet kind.NumNe (codes "=\\=") refl

kind_quiet : (k : tree.Kind) → NoFeed (kind_name k)
kind_quiet int = unfed (codes "int") refl
kind_quiet unary = unfed (codes "unary") refl
kind_quiet grounded = unfed (codes "ground") refl

-- ---- trees whose names are those of a list

module _ (names : List Name) (quiet : (name : Name) → Held names name → NoFeed name) where
  context_first : (name : Name) (ps : List Piece) → Held names name → Quiet ps → Quiet (context_piece name ∷ ps)
  context_first name ps h q = word_first kind.Context (codes "$" ++ name) ps (sign_quiet 36 name (λ e. omega (arith, e)) (quiet name h)) q

  name_first : (name : Name) (ps : List Piece) → NoFeed name → Quiet ps → Quiet (word (name_kind name) (name_text name) ∷ ps)
  name_first name ps h q = word_first (name_kind name) (name_text name) ps (name_quiet name h) q

  leaf_quiet : (l : Leaf) → LeafHeld names l → Quiet (leaf_pieces l)
  leaf_quiet (atom_leaf (named n) xs) h = name_first n (links_pieces xs) (quiet n h) (links_quiet xs)
  leaf_quiet (atom_leaf (integer z) xs) h = integer_word z (links_pieces xs) (links_quiet xs)
  leaf_quiet (connector_leaf x y) h =
      word_first kind.Link (link_name x) (spaced kind.Equal (codes "=") ++ link_piece y ∷ []) (link_quiet x)
      (both (spaced kind.Equal (codes "=")) (link_piece y ∷ []) (spaced_quiet kind.Equal (codes "=") refl) (word_first kind.Link (link_name y) [] (link_quiet y) tt))
  leaf_quiet (typed_leaf p x) h =
      context_first p (word kind.LBracket (codes "[") ∷ link_piece x ∷ word kind.RBracket (codes "]") ∷ []) h
      (fixed kind.LBracket (codes "[") (link_piece x ∷ word kind.RBracket (codes "]") ∷ []) refl
      (word_first kind.Link (link_name x) (word kind.RBracket (codes "]") ∷ []) (link_quiet x) (fixed kind.RBracket (codes "]") [] refl tt)))

  leaves_quiet : (ls : List Leaf) → AllByRecursion (LeafHeld names) ls → AllByRecursion Quiet (map leaf_pieces ls)
  leaves_quiet [] h = tt
  leaves_quiet (l ∷ ls) h = (leaf_quiet l h.0, leaves_quiet ls h.1)

  operand_quiet : (e : Expression) → ExpressionHeld names e → Quiet (operand_pieces e)
  operand_quiet (number z) h = integer_word z [] tt
  operand_quiet (value_of n) h = context_first n [] h tt
  operand_quiet (operation o l r) h =
      let right = operand_pieces r ++ word kind.RParen (codes ")") ∷ [] in
      fixed kind.LParen (codes "(") (operand_pieces l ++ (operator_pieces o ++ right)) refl
      (both (operand_pieces l) (operator_pieces o ++ right) (operand_quiet l h.0)
      (both (operator_pieces o) right (operator_quiet o) (both (operand_pieces r) (word kind.RParen (codes ")") ∷ []) (operand_quiet r h.1) close)))

  side_quiet : (e : Expression) → ExpressionHeld names e → Quiet (side_pieces e)
  side_quiet (number z) h = integer_word z [] tt
  side_quiet (value_of n) h = context_first n [] h tt
  side_quiet (operation o l r) h =
      both (operand_pieces l) (operator_pieces o ++ operand_pieces r) (operand_quiet l h.0) (both (operator_pieces o) (operand_pieces r) (operator_quiet o) (operand_quiet r h.1))

  each_context : (ns : List Name) → AllByRecursion (Held names) ns → AllByRecursion Quiet (map (λ m. context_piece m ∷ []) ns)
  each_context [] h = tt
  each_context (n ∷ ns) h = (context_first n [] h.0 tt, each_context ns h.1)

  contexts_quiet : (ns : List Name) → AllByRecursion (Held names) ns → Quiet (contexts_pieces ns)
  contexts_quiet [] h = tt
  contexts_quiet (n ∷ ns) h = in_parentheses (map (λ m. context_piece m ∷ []) (n ∷ ns)) (each_context (n ∷ ns) h)

  condition_quiet : (c : Condition) → ConditionHeld names c → Quiet (condition_pieces c)
  condition_quiet (is_kind k n) h = name_first (kind_name k) (contexts_pieces (n ∷ [])) (kind_quiet k) (contexts_quiet (n ∷ []) (h, tt))
  condition_quiet (compares c l r) h =
      both (side_pieces l) (comparison_pieces c ++ side_pieces r) (side_quiet l h.0) (both (comparison_pieces c) (side_pieces r) (comparison_quiet c) (side_quiet r h.1))
  condition_quiet (equates n e) h =
      context_first n (spaced kind.Equal (codes "=") ++ side_pieces e) h.0 (both (spaced kind.Equal (codes "=")) (side_pieces e) (spaced_quiet kind.Equal (codes "=") refl) (side_quiet e h.1))
  condition_quiet (differs m n) h =
      context_first m (spaced kind.Differ (codes "\\=") ++ context_piece n ∷ []) h.0
      (both (spaced kind.Differ (codes "\\=")) (context_piece n ∷ []) (spaced_quiet kind.Differ (codes "\\=") refl) (context_first n [] h.1 tt))
  condition_quiet (unknown n ns) h = name_first n (contexts_pieces ns) (quiet n h.0) (contexts_quiet ns h.1)

  conditions_quiet : (cs : List Condition) → AllByRecursion (ConditionHeld names) cs → AllByRecursion Quiet (map condition_pieces cs)
  conditions_quiet [] h = tt
  conditions_quiet (c ∷ cs) h = (condition_quiet c h.0, conditions_quiet cs h.1)

  guard_quiet : (cs : List Condition) → AllByRecursion (ConditionHeld names) cs → Quiet (guard_pieces cs)
  guard_quiet [] h = tt
  guard_quiet (c ∷ cs) h =
      both (with_commas (map condition_pieces (c ∷ cs))) (spaced kind.Bar (codes "|")) (commas (map condition_pieces (c ∷ cs)) (conditions_quiet (c ∷ cs) h)) (spaced_quiet kind.Bar (codes "|") refl)

  untyped_quiet : (c : Context) → UntypedHeld names c → Quiet (untyped_pieces c)
  untyped_quiet (open_context n) h = context_first n [] h tt
  untyped_quiet (closed_context n) h =
      context_first n (word kind.LBracket (codes "[") ∷ word kind.RBracket (codes "]") ∷ []) h
      (fixed kind.LBracket (codes "[") (word kind.RBracket (codes "]") ∷ []) refl (fixed kind.RBracket (codes "]") [] refl tt))

  each_untyped : (cs : List Context) → AllByRecursion (UntypedHeld names) cs → AllByRecursion Quiet (map untyped_pieces cs)
  each_untyped [] h = tt
  each_untyped (c ∷ cs) h = (untyped_quiet c h.0, each_untyped cs h.1)

  each_rule_context : (ns : List Name) → AllByRecursion (Held names) ns → AllByRecursion Quiet (map (λ n. rule_context_piece n ∷ []) ns)
  each_rule_context [] h = tt
  each_rule_context (n ∷ ns) h = (word_first kind.RuleCtx (codes "@" ++ n) [] (sign_quiet 64 n (λ e. omega (arith, e)) (quiet n h.0)) tt, each_rule_context ns h.1)

  mutual
    level_quiet : (l : Level) → LevelHeld names l → AllByRecursion Quiet (level_pieces l)
    level_quiet (level leaves membranes contexts rule_contexts rules) h =
        let cs = map untyped_pieces contexts in
        let os = map (λ n. rule_context_piece n ∷ []) rule_contexts in
        all_append Quiet (map leaf_pieces leaves) (levels_pieces membranes ++ (cs ++ (os ++ rules_pieces rules))) (leaves_quiet leaves h.0)
        (all_append Quiet (levels_pieces membranes) (cs ++ (os ++ rules_pieces rules)) (levels_quiet membranes h.1)
        (all_append Quiet cs (os ++ rules_pieces rules) (each_untyped contexts h.2) (all_append Quiet os (rules_pieces rules) (each_rule_context rule_contexts h.3) (rules_quiet rules h.4))))

    levels_quiet : (ls : Levels) → LevelsHeld names ls → AllByRecursion Quiet (levels_pieces ls)
    levels_quiet no_level h = tt
    levels_quiet (level_and l ls) h = (
      fixed kind.LBrace (codes "{") (with_commas (level_pieces l) ++ word kind.RBrace (codes "}") ∷ []) refl
          (both (with_commas (level_pieces l)) (word kind.RBrace (codes "}") ∷ []) (commas (level_pieces l) (level_quiet l h.0)) (fixed kind.RBrace (codes "}") [] refl tt)),
      levels_quiet ls h.1,
    )

    pub rule_quiet : (r : Rule) → RuleHeld names r → Quiet (rule_pieces r)
    rule_quiet (rule_of head guard body) h =
        let right = with_commas (level_pieces body) ++ word kind.RParen (codes ")") ∷ [] in
        fixed kind.LParen (codes "(") (with_commas (level_pieces head) ++ (spaced kind.Arrow (codes ":-") ++ (guard_pieces guard ++ right))) refl
        (both (with_commas (level_pieces head)) (spaced kind.Arrow (codes ":-") ++ (guard_pieces guard ++ right)) (commas (level_pieces head) (level_quiet head h.0))
        (both (spaced kind.Arrow (codes ":-")) (guard_pieces guard ++ right) (spaced_quiet kind.Arrow (codes ":-") refl)
        (both (guard_pieces guard) right (guard_quiet guard h.1) (both (with_commas (level_pieces body)) (word kind.RParen (codes ")") ∷ []) (commas (level_pieces body) (level_quiet body h.2)) close))))

    rules_quiet : (rs : Rules) → RulesHeld names rs → AllByRecursion Quiet (rules_pieces rs)
    rules_quiet no_rule h = tt
    rules_quiet (rule_and r rs) h = (rule_quiet r h.0, rules_quiet rs h.1)
