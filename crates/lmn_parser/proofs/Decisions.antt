-- What is read where none of several tokens stands.
use Rattle.std.proofs.Common.{◌≡◌, ℕ, ◌+◌, false, List, [], ◌∷◌, slice_get, Some, refl, sym, ◌∙◌, ap, arith}
use Rattle.lmn_parser_grammar.specs.Grammar.{Tok, Ref, SumPart, TermPart, fact, item}
use Rattle.lmn_parser_grammar.specs.Factored.{atom_name}
use Rattle.lmn_parser_grammar.specs.Reading.{Owed, nexts, stop_at, begins}
use Rattle.lmn_lexer.specs.declared.token.Kind.{Kind}
use Rattle.lmn_lexer.specs.declared.token.Kind.TheVariants.{Name, Quoted, Mod, Link, Int, Context, RuleCtx, LParen, RParen, LBracket, LBrace, Plus}
use Rattle.lmn_parser_grammar.proofs.Stops.{alike, dead_at}
use Rattle.lmn_base.proofs.Truth.{false_not_true as clash}

-- two tokens on, counted in one step or in two
pub two_behind : (ts : List Kind) (p : ℕ) (s : List Owed) → stop_at ts (p + 1 + 1) s ≡ stop_at ts (p + 2) s
two_behind ts p s = let e : p + 1 + 1 ≡ p + 2 = omega arith in ap (λ n. stop_at ts n s) e

-- and two behind and one further three
pub three_behind : (ts : List Kind) (p : ℕ) (s : List Owed) → stop_at ts (p + 2 + 1) s ≡ stop_at ts (p + 3) s
three_behind ts p s = let e : p + 2 + 1 ≡ p + 3 = omega arith in ap (λ n. stop_at ts n s) e

-- an operand that is neither integer nor context is in parentheses
pub fact_round : (ts : List Kind) (p : ℕ) (κ : Owed) → (slice_get ts p ≡ Some Int → ⊥) → (slice_get ts p ≡ Some Context → ⊥) →
    stop_at ts p ((fact ∷ κ) ∷ []) ≡ stop_at ts p ((Tok LParen ∷ Ref SumPart ∷ Tok RParen ∷ κ) ∷ [])
fact_round ts p κ a b = alike ts p _ _ go
  where
    go : (t : Kind) → slice_get ts p ≡ Some t → nexts ((fact ∷ κ) ∷ []) t ≡ nexts ((Tok LParen ∷ Ref SumPart ∷ Tok RParen ∷ κ) ∷ []) t
    go Int h = absurd (a h)
    go Context h = absurd (b h)
    go _ h = refl

-- no term begins with another token
pub term_other : (ts : List Kind) (p : ℕ) (κ : Owed) → (slice_get ts p ≡ Some Link → ⊥) → (slice_get ts p ≡ Some Context → ⊥) → (slice_get ts p ≡ Some LBrace → ⊥) →
    (slice_get ts p ≡ Some LBracket → ⊥) → begins atom_name (slice_get ts p) ≡ false → stop_at ts p ((Ref TermPart ∷ κ) ∷ []) ≡ p
term_other ts p κ l c m b a = dead_at ts p _ go
  where
    go : (t : Kind) → slice_get ts p ≡ Some t → nexts ((Ref TermPart ∷ κ) ∷ []) t ≡ []
    go Link h = absurd (l h)
    go Context h = absurd (c h)
    go LBrace h = absurd (m h)
    go LBracket h = absurd (b h)
    go Name h = absurd (clash (sym a ∙ ap (begins atom_name) h))
    go Quoted h = absurd (clash (sym a ∙ ap (begins atom_name) h))
    go Mod h = absurd (clash (sym a ∙ ap (begins atom_name) h))
    go Int h = absurd (clash (sym a ∙ ap (begins atom_name) h))
    go _ h = refl

-- and no item
pub item_other : (ts : List Kind) (p : ℕ) (κ : Owed) → (slice_get ts p ≡ Some RuleCtx → ⊥) → (slice_get ts p ≡ Some Plus → ⊥) → (slice_get ts p ≡ Some LParen → ⊥) → (slice_get ts p ≡ Some Context → ⊥) →
    begins atom_name (slice_get ts p) ≡ false → (slice_get ts p ≡ Some LBrace → ⊥) → (slice_get ts p ≡ Some Link → ⊥) → (slice_get ts p ≡ Some LBracket → ⊥) → stop_at ts p ((item ∷ κ) ∷ []) ≡ p
item_other ts p κ r s g c a m l b = dead_at ts p _ go
  where
    go : (t : Kind) → slice_get ts p ≡ Some t → nexts ((item ∷ κ) ∷ []) t ≡ []
    go RuleCtx h = absurd (r h)
    go Plus h = absurd (s h)
    go LParen h = absurd (g h)
    go Context h = absurd (c h)
    go LBrace h = absurd (m h)
    go Link h = absurd (l h)
    go LBracket h = absurd (b h)
    go Name h = absurd (clash (sym a ∙ ap (begins atom_name) h))
    go Quoted h = absurd (clash (sym a ∙ ap (begins atom_name) h))
    go Mod h = absurd (clash (sym a ∙ ap (begins atom_name) h))
    go Int h = absurd (clash (sym a ∙ ap (begins atom_name) h))
    go _ h = refl
