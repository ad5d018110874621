-- The trees of small texts.
use Rattle.std.specs.Prelude.{ℕ, ◌+◌, List, [], ◌∷◌}
use Rattle.lmn_base.specs.declared.guard.Arith.TheVariants.{Sub}
use Rattle.lmn_base.specs.declared.refusal.Pos.{Pos}
use Rattle.lmn_lexer.specs.declared.token.Kind.{Kind}
use Rattle.lmn_lexer.specs.declared.token.Kind.TheVariants.{Name, Link, Int, Context, End, LParen, RParen, LBracket, RBracket, LBrace, RBrace, Comma, Dot, Arrow, AtAt, Bar, Backslash, Equal, Plus, Minus}
use Rattle.lmn_lexer.specs.declared.token.Token.{Token}
use Rattle.lmn_parser.specs.Syntax.{integer, operation, equal, link, atom, list_onto, no_term, term_and, Item, atom_item, membrane_item, context_item, closed_item, bracketed, plus_link, group, equation, Items, no_item, item_and, process, rule, Clauses, no_clause, clause_and}
use Rattle.lmn_parser.specs.Trees.{IsProgram}

-- the place of a token that stands n places from the left
abbrev pub place_of_token : ℕ → Pos
place_of_token n = record { line = 1; column = n + 1 }

-- tokens of these kinds, one a place, from the place n on
abbrev pub tokens_from : ℕ → List Kind → List Token
tokens_from n [] = []
tokens_from n (k ∷ ks) = record { kind = k; start = n; end = n + 1; pos = place_of_token n } ∷ tokens_from (n + 1) ks

abbrev IsText : List Kind → Clauses → Type 0
IsText ks tree = IsProgram (tokens_from 0 ks) tree

abbrev plain : ℕ → Item
plain p = atom_item p no_term

abbrev only : Item → Items
only x = item_and x no_item

-- a \ b :- $x = 1 - 2 - 3 | c.
abbrev pub KeptHead : Type 0
KeptHead = IsText (Name ∷ Backslash ∷ Name ∷ Arrow ∷ Context ∷ Equal ∷ Int ∷ Minus ∷ Int ∷ Minus ∷ Int ∷ Bar ∷ Name ∷ Dot ∷ End ∷ [])
    (clause_and (rule (only (plain 0)) (only (plain 2)) (equal 4 (operation Sub (operation Sub (integer 6) (integer 8)) (integer 10)) 5 ∷ []) (only (plain 12)) (place_of_token 0)) no_clause)

-- a. n @@ :- b(), +X
abbrev pub NamedRule : Type 0
NamedRule = IsText (Name ∷ Dot ∷ Name ∷ AtAt ∷ Arrow ∷ Name ∷ LParen ∷ RParen ∷ Comma ∷ Plus ∷ Link ∷ End ∷ [])
    (clause_and (process (only (plain 0))) (clause_and (rule no_item no_item [] (item_and (plain 5) (only (plus_link 9))) (place_of_token 2)) no_clause))

-- (a). {b.}, X = [1 | Y]
abbrev pub NestedParts : Type 0
NestedParts = IsText (LParen ∷ Name ∷ RParen ∷ Dot ∷ LBrace ∷ Name ∷ Dot ∷ RBrace ∷ Comma ∷ Link ∷ Equal ∷ LBracket ∷ Int ∷ Bar ∷ Link ∷ RBracket ∷ End ∷ [])
    (clause_and (process (only (group (process (only (plain 1))))))
    (clause_and (process (item_and (membrane_item (clause_and (process (only (plain 5))) no_clause))
    (only (equation (link 9) 10 (list_onto (term_and (atom 12 no_term) no_term) (link 14)))))) no_clause))

-- {$p[]}, $q[X], $r :- a
abbrev pub Contexts : Type 0
Contexts = IsText (LBrace ∷ Context ∷ LBracket ∷ RBracket ∷ RBrace ∷ Comma ∷ Context ∷ LBracket ∷ Link ∷ RBracket ∷ Comma ∷ Context ∷ Arrow ∷ Name ∷ End ∷ [])
    (clause_and (rule no_item
    (item_and (membrane_item (clause_and (process (only (closed_item 1))) no_clause)) (item_and (bracketed 6 8) (only (context_item 11)))) [] (only (plain 13)) (place_of_token 0)) no_clause)
