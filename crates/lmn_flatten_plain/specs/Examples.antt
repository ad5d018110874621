-- Expansions and printed lines of small texts.
use Rattle.std.specs.Prelude.{ℕ, ◌≡◌, List, [], ◌∷◌, map, codes, pos, negsuc}
use Rattle.lmn_base.specs.declared.guard.Arith.TheVariants.{Add, Mul}
use Rattle.lmn_base.specs.declared.refusal.Pos.{Pos}
use Rattle.lmn_congruence.specs.Rules as tree
use Rattle.lmn_congruence.specs.Rules.{named, integer, only_leaves}
use Rattle.lmn_lexer.specs.declared.token.Kind.TheVariants as kind
use Rattle.lmn_lexer.specs.Laying.{Word}
use Rattle.lmn_parser.specs.Syntax.{atom, link, list, membrane, no_term, term_and, atom_item, no_item, item_and, process, rule, no_clause, clause_and}
use Rattle.lmn_flatten_plain.specs.Links.{Link, written, made, fresh, Use}
use Rattle.lmn_flatten_plain.specs.Expanded.{atom_leaf, level, no_level, level_and}
use Rattle.lmn_flatten_plain.specs.Parts.{level_from_parts}
use Rattle.lmn_flatten_plain.specs.Expansion.{parts_of}
use Rattle.lmn_flatten_plain.specs.Words.{link_name, text_of, rule_pieces, line_of}
use Rattle.lmn_parser.specs.TreeExamples.{place_of_token}

abbrev name_word : List ℕ → Word
name_word bytes = record { kind = kind.Name; bytes = bytes }

abbrev link_word : List ℕ → Word
link_word bytes = record { kind = kind.Link; bytes = bytes }

abbrev sign : Word
sign = record { kind = kind.Comma; bytes = codes "," }

abbrev stands : Link → Pos → Use
stands a p = record { link = a; pos = p }

-- d([1,X]) is `d(A), '.'(B,C,A), 1(B), '.'(X,D,C), '[]'(D)`.
abbrev pub AList : Type 0
AList =
    let words = name_word (codes "d") ∷ sign ∷ sign ∷ record { kind = kind.Int; bytes = codes "1" } ∷ sign ∷ link_word (codes "X") ∷ sign ∷ sign ∷ [] in
    let places = place_of_token 0 ∷ place_of_token 1 ∷ place_of_token 2 ∷ place_of_token 3 ∷ place_of_token 4 ∷ place_of_token 5 ∷ place_of_token 6 ∷ place_of_token 7 ∷ [] in
    let tree = clause_and (process (item_and (atom_item 0 (term_and (list (term_and (atom 3 no_term) (term_and (link 5) no_term))) no_term)) no_item)) no_clause in
    let A = made (0 ∷ 0 ∷ 0 ∷ []) in
    let B = made (0 ∷ 0 ∷ 0 ∷ 0 ∷ 0 ∷ []) in
    let C = made (1 ∷ 0 ∷ 0 ∷ 0 ∷ 0 ∷ []) in
    let D = made (1 ∷ 0 ∷ 0 ∷ 0 ∷ []) in
    (parts_of words places tree).leaves
    ≡ atom_leaf (named (codes "d")) (stands A (place_of_token 0) ∷ []) (place_of_token 0)
    ∷ atom_leaf (named (codes ".")) (stands B (place_of_token 0) ∷ stands C (place_of_token 0) ∷ stands A (place_of_token 0) ∷ []) (place_of_token 0)
    ∷ atom_leaf (integer (pos 1)) (stands B (place_of_token 0) ∷ []) (place_of_token 3)
    ∷ atom_leaf (named (codes ".")) (stands (written (codes "X")) (place_of_token 5) ∷ stands D (place_of_token 0) ∷ stands C (place_of_token 0) ∷ []) (place_of_token 0)
    ∷ atom_leaf (named (codes "[]")) (stands D (place_of_token 0) ∷ []) (place_of_token 0)
    ∷ []

-- p({a}) is `p(A), {'+'(A), a}`.
abbrev pub AMembrane : Type 0
AMembrane =
    let words = name_word (codes "p") ∷ sign ∷ sign ∷ name_word (codes "a") ∷ sign ∷ sign ∷ [] in
    let places = place_of_token 0 ∷ place_of_token 1 ∷ place_of_token 2 ∷ place_of_token 3 ∷ place_of_token 4 ∷ place_of_token 5 ∷ [] in
    let inside = clause_and (process (item_and (atom_item 3 no_term) no_item)) no_clause in
    let tree = clause_and (process (item_and (atom_item 0 (term_and (membrane inside) no_term)) no_item)) no_clause in
    let A = made (0 ∷ 0 ∷ 0 ∷ []) in
    level_from_parts (parts_of words places tree)
    ≡ level (atom_leaf (named (codes "p")) (stands A (place_of_token 0) ∷ []) (place_of_token 0) ∷ [])
    (level_and (level (atom_leaf (named (codes "+")) (stands A (place_of_token 0) ∷ []) (place_of_token 0) ∷ atom_leaf (named (codes "a")) [] (place_of_token 3) ∷ []) no_level [] [] []) no_level)
    [] [] []

-- a(X,X) \ b :- c. is `a(X,X), b :- a(Y,Y), c.`, Y being fresh.
abbrev pub AKeptHead : Type 0
AKeptHead =
    let words = name_word (codes "a") ∷ sign ∷ link_word (codes "X") ∷ sign ∷ link_word (codes "X") ∷ sign ∷ sign ∷ name_word (codes "b") ∷ sign ∷ name_word (codes "c") ∷ [] in
    let places = place_of_token 0 ∷ place_of_token 1 ∷ place_of_token 2 ∷ place_of_token 3 ∷ place_of_token 4 ∷ place_of_token 5 ∷ place_of_token 6 ∷ place_of_token 7 ∷ place_of_token 8 ∷ place_of_token 9 ∷ [] in
    let kept = item_and (atom_item 0 (term_and (link 2) (term_and (link 4) no_term))) no_item in
    let taken = item_and (atom_item 7 no_term) no_item in
    let body = item_and (atom_item 9 no_term) no_item in
    let X = written (codes "X") in
    (parts_of words places (clause_and (rule kept taken [] body (place_of_token 0)) no_clause)).table
    ≡ record {
      head = level (atom_leaf (named (codes "a")) (stands X (place_of_token 2) ∷ stands X (place_of_token 4) ∷ []) (place_of_token 0) ∷ atom_leaf (named (codes "b")) [] (place_of_token 7) ∷ []) no_level [] [] [];
      guard = [];
      body = level (atom_leaf (named (codes "a")) (stands (fresh X) (place_of_token 2) ∷ stands (fresh X) (place_of_token 4) ∷ []) (place_of_token 0) ∷ atom_leaf (named (codes "c")) [] (place_of_token 9) ∷ []) no_level [] [] [];
      pos = place_of_token 0;
    } ∷ []

abbrev p_of : ℕ → tree.Leaf
p_of x = tree.atom_leaf (named (codes "p")) (x ∷ [])

-- a rule with a guard
abbrev pub AGuard : Type 0
AGuard =
    text_of (rule_pieces (tree.rule_of (only_leaves (p_of 0 ∷ tree.typed_leaf (codes "x") 0 ∷ p_of 1 ∷ tree.typed_leaf (codes "y") 1 ∷ []))
    (tree.equates (codes "z") (tree.operation Add (tree.value_of (codes "x")) (tree.operation Mul (tree.number (pos 2)) (tree.value_of (codes "y")))) ∷ [])
    (only_leaves (p_of 2 ∷ tree.typed_leaf (codes "z") 2 ∷ []))))
    ≡ codes "(p(L0), $x[L0], p(L1), $y[L1] :- $z = $x + (2 * $y) | p(L2), $z[L2])"

-- a line with a membrane, a rule with contexts and an empty body
abbrev pub ALine : Type 0
ALine =
    line_of (tree.level (tree.atom_leaf (named (codes "it's")) (0 ∷ []) ∷ [])
    (tree.level_and (only_leaves (tree.atom_leaf (integer (negsuc 4)) (0 ∷ []) ∷ [])) tree.no_level) [] []
    (tree.rule_and (tree.rule_of (tree.level [] (tree.level_and (tree.level [] tree.no_level (tree.open_context (codes "p") ∷ tree.closed_context (codes "q") ∷ []) (codes "r" ∷ []) tree.no_rule) tree.no_level) [] [] tree.no_rule) [] (only_leaves []))
    tree.no_rule))
    ≡ codes "'it''s'(L0). {-5(L0)}. ({$p, $q[], @r} :- ).\n"

-- links with numbers of one, two and three digits
abbrev pub LinkNames : Type 0
LinkNames = map link_name (0 ∷ 70 ∷ 128 ∷ []) ≡ codes "L0" ∷ codes "L70" ∷ codes "L128" ∷ []
