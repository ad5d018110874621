-- The spans of tokens.
use Rattle.std.proofs.Common.{ℕ, ◌+◌, ◌≤◌, List, [], ◌∷◌, ◌++◌, length, sym, subst, arith}
use Rattle.std.proofs.lemmas.List.{length-append}
use Rattle.lmn_lexer.specs.declared.token.Kind.TheVariants.{End}
use Rattle.lmn_lexer.specs.declared.token.Token.{Token}
use Rattle.lmn_lexer.specs.Cutting.{Cutting, Reaches, start, onward, token_at}
use Rattle.lmn_lexer.specs.Laws.{InOrder, SpansInOrder}
use Rattle.lmn_lexer.proofs.OneCut.{Step, gap_step, token_step, step_of}

-- the tokens stand in order from a place on, and the last ends at or before another
abbrev Within : ℕ → List Token → ℕ → Type 0
Within from [] to = from ≤ to
Within from (t ∷ ts) to = (from ≤ t.start) × (t.start ≤ t.end) × Within t.end ts to

within_more : (from to more : ℕ) (ts : List Token) → to ≤ more → Within from ts to → Within from ts more
within_more from to more [] l h = omega arith
within_more from to more (t ∷ ts) l h = (h.0, h.1, within_more t.end to more ts l h.2)

within_add : (from to : ℕ) (ts : List Token) (t : Token) → to ≤ t.start → t.start ≤ t.end → Within from ts to → Within from (ts ++ t ∷ []) t.end
within_add from to [] t a b h = (omega arith, b, omega arith)
within_add from to (u ∷ ts) t a b h = (h.0, h.1, within_add u.end to ts t a b h.2)

in_order : (from to : ℕ) (ts : List Token) → Within from ts to → InOrder from ts
in_order from to [] h = tt
in_order from to (t ∷ ts) h = (h.0, h.1, in_order t.end to ts h.2)

reached_within : {text : List ℕ} {c : Cutting} → Reaches text c → Within 0 c.tokens (length c.before)
reached_within start = omega arith
reached_within (onward {c = c} {d = d} h s) = go (step_of s) (reached_within h)
  where
    go : Step c d → Within 0 c.tokens (length c.before) → Within 0 d.tokens (length d.before)
    go (gap_step bytes after x g p) w =
        let size = length-append c.before bytes in
        let Q : Cutting → Type 0 = λ z. Within 0 z.tokens (length z.before) in
        subst Q (sym p) (within_more 0 (length c.before) (length (c.before ++ bytes)) c.tokens (omega arith) w)
    go (token_step kind bytes after t p) w =
        let size = length-append c.before bytes in
        let Q : Cutting → Type 0 = λ z. Within 0 z.tokens (length z.before) in
        let R : ℕ → Type 0 = Within 0 (c.tokens ++ token_at kind c.before bytes ∷ []) in
        subst Q (sym p) (subst R (sym size) (within_add 0 (length c.before) c.tokens (token_at kind c.before bytes) (omega arith) (omega arith) w))

-- each token begins at the end of the one before it or behind
pub spans_in_order : SpansInOrder
spans_in_order text tokens c =
    let P : List Token → Type 0 = InOrder 0 in
    let last = within_add 0 (length text) c.but_end (token_at End text []) (omega arith) (omega arith) (reached_within c.cut) in
    subst P (sym c.with_end) (in_order 0 (length text + 0) (c.but_end ++ token_at End text [] ∷ []) last)
