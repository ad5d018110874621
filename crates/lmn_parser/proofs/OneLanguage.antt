-- The trees and the grammar have the same programs, and refuse the same.
use Rattle.std.proofs.Common.{◌≡◌, ℕ, List, [], ◌∷◌, refl, sym, ap, subst}
use Rattle.lmn_parser_grammar.specs.Grammar.{Derives, program}
use Rattle.lmn_parser_grammar.specs.Refusing.{IsRefused, IsWithin}
use Rattle.lmn_parser_grammar.proofs.Refusals.{refused_alike, refused_is_none}
use Rattle.lmn_lexer.specs.declared.token.Kind.{Kind}
use Rattle.lmn_lexer.specs.declared.token.Token.{Token}
use Rattle.lmn_parser.specs.Faults.{AreKindsOfProgram}
use Rattle.lmn_parser.specs.Parsing.{kinds_of}
use Rattle.lmn_parser.specs.Syntax.{Clauses}
use Rattle.lmn_parser.specs.Trees.{IsProgram}
use Rattle.lmn_parser.proofs.TreeWords.{trees_derive}
use Rattle.lmn_parser.proofs.TreesExist.{trees_exist}

-- tokens that are a tree are a program of the grammar
pub program_derived : (kinds : List Kind) → AreKindsOfProgram kinds → Derives program kinds
program_derived kinds (tokens, tree, e, h) = let D : List Kind → Type 0 = Derives program in subst D e (trees_derive tokens tree h)

-- some tokens of these kinds
abbrev tokens_of : List Kind → List Token
tokens_of [] = []
tokens_of (k ∷ kinds) = record { kind = k; start = 0; end = 0; pos = record { line = 1; column = 1 } } ∷ tokens_of kinds

kinds_are : (kinds : List Kind) → kinds_of (tokens_of kinds) ≡ kinds
kinds_are [] = refl
kinds_are (k ∷ kinds) = ap (λ z. k ∷ z) (kinds_are kinds)

-- tokens that are a program of the grammar are a tree
pub derived_program : (kinds : List Kind) → Derives program kinds → AreKindsOfProgram kinds
derived_program kinds d =
    let e = kinds_are kinds in
    let D : List Kind → Type 0 = Derives program in
    let t = trees_exist (tokens_of kinds) (subst D (sym e) d) in
    (tokens_of kinds, t.0, e, t.1)

-- What the grammar refuses the trees refuse.
pub refused_by_trees : (kinds : List Kind) (place code : ℕ) → IsRefused (Derives program) kinds place code → IsRefused AreKindsOfProgram kinds place code
refused_by_trees = refused_alike (Derives program) AreKindsOfProgram derived_program program_derived

-- What is refused is no tree within the limits.
pub refused_no_tree : (tokens : List Token) (tree : Clauses) (place code : ℕ) → IsRefused AreKindsOfProgram (kinds_of tokens) place code → IsProgram tokens tree → IsWithin (kinds_of tokens) → ⊥
refused_no_tree tokens tree place code r h w = refused_is_none AreKindsOfProgram (kinds_of tokens) place code r (tokens, tree, refl, h) w
