-- Places up to a last `End`.
use Rattle.std.proofs.Common.{◌≡◌, ◌≢◌, ℕ, zero, suc, ◌<◌, ◌≤◌, Bool, true, false, List, [], ◌∷◌, ◌++◌, length, slice_get, get_or, option_map, Some, refl, sym, ◌∙◌, ap, arith, if◌then◌else◌}
use Rattle.lmn_parser_grammar.specs.Reading.{is_kind}
use Rattle.lmn_lexer.specs.declared.token.Kind.{Kind}
use Rattle.lmn_lexer.specs.declared.token.Kind.TheVariants.{Context, End}
use Rattle.lmn_parser_grammar.proofs.Stops.{unlike, same_some as same}
use Rattle.std.proofs.lemmas.Option.{slice_get-map, slice_get-get_or}
use Rattle.lmn_lexer.specs.declared.token.Token.{Token}
use Rattle.lmn_parser.specs.Parsing.{kinds_of}
use Rattle.lmn_parser.specs.Outcomes.{reach}

not_end : (k : Kind) → k ≢ End → is_kind End k ≡ false
not_end k h = unlike End k (λ e. h (sym e))

last_counts : (b : Bool) → b ≡ false → 0 < (if b then 0 else 1)
last_counts true h = cc
last_counts false h = omega arith

-- a token that isn't the end is within reach
pub token_inside : (ts : List Kind) (p : ℕ) (k : Kind) → slice_get ts p ≡ Some k → k ≢ End → p < reach ts
token_inside [] p k h n = cc
token_inside (x ∷ []) zero k h n = last_counts (is_kind End x) (ap (is_kind End) (same x k h) ∙ not_end k n)
token_inside (x ∷ []) (suc p) k h n = cc
token_inside (x ∷ y ∷ ts) zero k h n = omega arith
token_inside (x ∷ y ∷ ts) (suc p) k h n = let i = token_inside (y ∷ ts) p k h n in omega (arith, i)

-- no more is within reach than there are tokens
pub reach_within : (ts : List Kind) → reach ts ≤ length ts
reach_within [] = omega arith
reach_within (x ∷ []) = go (is_kind End x)
  where
    go : (b : Bool) → (if b then 0 else 1) ≤ 1
    go true = omega arith
    go false = omega arith
reach_within (x ∷ y ∷ ts) = let i = reach_within (y ∷ ts) in omega (arith, i)

-- each place before the last is within reach
pub before_last : (ts : List Kind) (p : ℕ) → p < length ts → p ≤ reach ts
before_last [] p h = omega (arith, h)
before_last (x ∷ []) p h = go (is_kind End x)
  where
    go : (b : Bool) → p ≤ (if b then 0 else 1)
    go true = omega (arith, h)
    go false = omega (arith, h)
before_last (x ∷ y ∷ ts) zero h = omega arith
before_last (x ∷ y ∷ ts) (suc p) h = let i = before_last (y ∷ ts) p (omega (arith, h)) in omega (arith, i)

-- before `End` all is within reach
pub reach_of_ended : (ts : List Kind) → reach (ts ++ End ∷ []) ≡ length ts
reach_of_ended [] = refl
reach_of_ended (x ∷ []) = refl
reach_of_ended (x ∷ y ∷ ts) = ap suc (reach_of_ended (y ∷ ts))

-- a context is not the end
pub context_not_end : Context ≢ End
context_not_end h = cc

-- the kind at a place is that of the token
pub kind_there : (ts : List Token) (p : ℕ) (d : Token) → p < length ts → slice_get (kinds_of ts) p ≡ Some (get_or ts p d).kind
kind_there ts p d h = slice_get-map (λ t. t.kind) ts p ∙ ap (option_map (λ t. t.kind)) (slice_get-get_or ts p d h)
