-- Which token a name or the name of an atom is.
use Rattle.std.proofs.Common.{◌≡◌, ℕ, true, List, Option, Some, None, slice_get, ◌⊎◌, inl, inr, refl}
use Rattle.lmn_base.proofs.Truth.{false_not_true as clash}
use Rattle.lmn_parser_grammar.specs.Grammar.{name}
use Rattle.lmn_parser_grammar.specs.Factored.{atom_name}
use Rattle.lmn_parser_grammar.specs.Reading.{begins}
use Rattle.lmn_lexer.specs.declared.token.Kind.{Kind}
use Rattle.lmn_lexer.specs.declared.token.Kind.TheVariants.{Name, Quoted, Mod, Int}
use Rattle.lmn_lexer.specs.declared.token.Token.{Token}
use Rattle.lmn_parser.specs.Parsing.{kinds_of}
use Rattle.lmn_parser.specs.Trees.{At, NameAt}

which_name : (o : Option Kind) → begins name o ≡ true → (o ≡ Some Name) ⊎ (o ≡ Some Quoted) ⊎ (o ≡ Some Mod)
which_name None h = absurd (clash h)
which_name (Some Name) h = inl refl
which_name (Some Quoted) h = inr (inl refl)
which_name (Some Mod) h = inr (inr refl)
which_name (Some _) h = absurd (clash h)

which_atom : (o : Option Kind) → begins atom_name o ≡ true → ((o ≡ Some Name) ⊎ (o ≡ Some Quoted) ⊎ (o ≡ Some Mod)) ⊎ (o ≡ Some Int)
which_atom None h = absurd (clash h)
which_atom (Some Name) h = inl (inl refl)
which_atom (Some Quoted) h = inl (inr (inl refl))
which_atom (Some Mod) h = inl (inr (inr refl))
which_atom (Some Int) h = inr refl
which_atom (Some _) h = absurd (clash h)

-- where a name may begin one stands
pub name_at : (ts : List Token) (p : ℕ) → begins name (slice_get (kinds_of ts) p) ≡ true → NameAt ts p
name_at ts p h = which_name (slice_get (kinds_of ts) p) h

-- where an atom may begin a name or an integer stands
pub atom_at : (ts : List Token) (p : ℕ) → begins atom_name (slice_get (kinds_of ts) p) ≡ true → NameAt ts p ⊎ At ts p Int
atom_at ts p h = which_atom (slice_get (kinds_of ts) p) h
