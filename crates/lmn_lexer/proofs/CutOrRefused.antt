-- A text is cut and nothing is wrong in it, or it has a refusal.
use Rattle.std.proofs.Common.{◌≡◌, ◌≢◌, ℕ, zero, suc, ◌+◌, ◌<◌, ◌≤◌, ◌^◌, ◌-◌, Bool, true, false, List, [], ◌∷◌, length, take, drop, ◌⊎◌, inl, inr, ⊎_elim, refl, ap, arith}
use Rattle.std.specs.Char.{is_ascii_digit}
use Rattle.std.proofs.lemmas.Bool.Decides.{leb_tells, eqb_tells}
use Rattle.lmn_base.specs.Limits.{longest_name}
use Rattle.lmn_base.specs.declared.refusal.Refusal.{Refusal}
use Rattle.lmn_lexer.specs.declared.token.Kind.{Kind}
use Rattle.lmn_lexer.specs.declared.token.Kind.TheVariants.{Name, Quoted, Mod, Link, Int, Context, RuleCtx, End, LParen, RParen, LBracket, RBracket, LBrace, RBrace, Comma, Dot, Arrow, AtAt, Bar, Backslash, Equal, Less, LessEq, Greater, GreaterEq, NumEq, NumNe, Differ, Plus, Minus, Star, Slash}
use Rattle.lmn_lexer.specs.declared.token.Token.{Token}
use Rattle.lmn_lexer.specs.declared.piece.Piece.{Piece}
use Rattle.lmn_lexer.specs.declared.piece.Piece.TheVariants as piece
use Rattle.lmn_lexer.specs.Spelling.{IsQuoted}
use Rattle.lmn_lexer.specs.Cutting.{Cuts, minus_behind}
use Rattle.lmn_lexer.specs.Faults.{IsLexicalFault, NothingWrong, TokenFault, TooLong, SpelledInRange, BeginsFraction, value_behind, integer_out_of_range, long_name, floating_point}
use Rattle.lmn_lexer.specs.Scanning.{piece_of}
use Rattle.lmn_lexer.specs.Scanners.{IsCut}
use Rattle.lmn_lexer.specs.Laws.{CutOrRefused}
use Rattle.lmn_lexer.proofs.FaultLemmas.{quoted_size, token_right}
use Rattle.lmn_lexer.proofs.ScannedText.{cut_nothing, gap_bytes, token_bytes, quoted_bytes, gap_cut, token_cut, wrong_cut, fault_cut, whole_cut}
use Rattle.lmn_base.proofs.Numbers.{less_decided}
use Rattle.lmn_base.proofs.Truth.{Decided}

most_decided : (m n : ℕ) → Decided (m ≤ n)
most_decided m n = elim (leb_tells m n) [ inl h ↦ inl (h.1) | inr h ↦ inr (λ l. let less = h.1 in omega (arith, l)) ]

range_decided : (bytes : List ℕ) → Decided (SpelledInRange bytes)
range_decided [] = inr (λ h. h)
range_decided (b ∷ bs) = by (eqb_tells b 45) (most_decided (value_behind 0 bs) (2 ^ 63)) (most_decided (value_behind 0 (b ∷ bs)) (2 ^ 63 - 1))
  where
    by : {P Q : Type 0} → (P × (b ≡ 45)) ⊎ (Q × (b ≢ 45)) → Decided (value_behind 0 bs ≤ 2 ^ 63) → Decided (value_behind 0 (b ∷ bs) ≤ 2 ^ 63 - 1) → Decided (SpelledInRange (b ∷ bs))
    by (inl e) (inl h) k = inl (inl (e.1, h))
    by (inl e) (inr n) k = inr (λ r. ⊎_elim (λ x. n x.1) (λ x. x.0 e.1) r)
    by (inr e) h (inl k) = inl (inr (e.1, k))
    by (inr e) h (inr n) = inr (λ r. ⊎_elim (λ x. e.1 x.0) (λ x. n x.1) r)

fraction_decided : (after : List ℕ) → Decided (BeginsFraction after)
fraction_decided [] = inr (λ h. absurd (let e = h.2 in cc))
fraction_decided (b ∷ []) = inr (λ h. absurd (let e = h.2 in cc))
fraction_decided (b ∷ d ∷ more) = by (eqb_tells b 46) (is_ascii_digit d) refl
  where
    by : {P Q : Type 0} → (P × (b ≡ 46)) ⊎ (Q × (b ≢ 46)) → (t : Bool) → is_ascii_digit d ≡ t → Decided (BeginsFraction (b ∷ d ∷ more))
    by (inl e) true h = inl (d, more, ap (λ x. x ∷ d ∷ more) e.1, h)
    by (inl e) false h = inr (λ f. absurd (let same = f.2 in let digit = f.3 in cc))
    by (inr e) t h = inr (λ f. e.1 (let same = f.2 in cc))

abbrev FaultDecided : Kind → List ℕ → List ℕ → Type 0
FaultDecided kind bytes after = ((code : ℕ) × TokenFault kind bytes after code) ⊎ ((code : ℕ) → TokenFault kind bytes after code → ⊥)

by_length : (kind : Kind) (bytes after : List ℕ) → ¬ (kind ≡ Int) → Decided (TooLong kind bytes) → FaultDecided kind bytes after
by_length kind bytes after k (inl l) = inl (5, long_name l)
by_length kind bytes after k (inr n) = inr (token_right kind bytes after k n)

integer_decided : (bytes after : List ℕ) → Decided (BeginsFraction after) → Decided (SpelledInRange bytes) → FaultDecided Int bytes after
integer_decided bytes after (inl f) r = inl (6, floating_point refl f)
integer_decided bytes after (inr n) (inr m) = inl (4, integer_out_of_range refl n m)
integer_decided bytes after (inr n) (inl r) = inr right
  where
    right : (code : ℕ) → TokenFault Int bytes after code → ⊥
    right _ (integer_out_of_range e g m) = m r
    right _ (long_name l) = l
    right _ (floating_point e f) = n f

quoted_decided : (bytes : List ℕ) → (name : List ℕ) × IsQuoted bytes name → Decided (TooLong Quoted bytes)
quoted_decided bytes (name, q) = elim (less_decided longest_name (length name)) [
  | inl h ↦ inl (name, q, h)
  | inr n ↦ inr (λ l. n (let one = quoted_size bytes name q in let other = quoted_size bytes l.0 l.1 in let long = l.2 in omega arith))
]

fault_decided : (kind : Kind) (bytes after : List ℕ) → (kind ≡ Quoted → (name : List ℕ) × IsQuoted bytes name) → FaultDecided kind bytes after
fault_decided Name bytes after q = by_length Name bytes after (λ e. absurd (cc)) (less_decided longest_name (length bytes))
fault_decided Quoted bytes after q = by_length Quoted bytes after (λ e. absurd (cc)) (quoted_decided bytes (q refl))
fault_decided Mod bytes after q = by_length Mod bytes after (λ e. absurd (cc)) (inr (λ l. l))
fault_decided Link bytes after q = by_length Link bytes after (λ e. absurd (cc)) (less_decided longest_name (length bytes))
fault_decided Int bytes after q = integer_decided bytes after (fraction_decided after) (range_decided bytes)
fault_decided Context bytes after q = by_length Context bytes after (λ e. absurd (cc)) (less_decided (1 + longest_name) (length bytes))
fault_decided RuleCtx bytes after q = by_length RuleCtx bytes after (λ e. absurd (cc)) (less_decided (1 + longest_name) (length bytes))
fault_decided End bytes after q = by_length End bytes after (λ e. absurd (cc)) (inr (λ l. l))
fault_decided LParen bytes after q = by_length LParen bytes after (λ e. absurd (cc)) (inr (λ l. l))
fault_decided RParen bytes after q = by_length RParen bytes after (λ e. absurd (cc)) (inr (λ l. l))
fault_decided LBracket bytes after q = by_length LBracket bytes after (λ e. absurd (cc)) (inr (λ l. l))
fault_decided RBracket bytes after q = by_length RBracket bytes after (λ e. absurd (cc)) (inr (λ l. l))
fault_decided LBrace bytes after q = by_length LBrace bytes after (λ e. absurd (cc)) (inr (λ l. l))
fault_decided RBrace bytes after q = by_length RBrace bytes after (λ e. absurd (cc)) (inr (λ l. l))
fault_decided Comma bytes after q = by_length Comma bytes after (λ e. absurd (cc)) (inr (λ l. l))
fault_decided Dot bytes after q = by_length Dot bytes after (λ e. absurd (cc)) (inr (λ l. l))
fault_decided Arrow bytes after q = by_length Arrow bytes after (λ e. absurd (cc)) (inr (λ l. l))
fault_decided AtAt bytes after q = by_length AtAt bytes after (λ e. absurd (cc)) (inr (λ l. l))
fault_decided Bar bytes after q = by_length Bar bytes after (λ e. absurd (cc)) (inr (λ l. l))
fault_decided Backslash bytes after q = by_length Backslash bytes after (λ e. absurd (cc)) (inr (λ l. l))
fault_decided Equal bytes after q = by_length Equal bytes after (λ e. absurd (cc)) (inr (λ l. l))
fault_decided Less bytes after q = by_length Less bytes after (λ e. absurd (cc)) (inr (λ l. l))
fault_decided LessEq bytes after q = by_length LessEq bytes after (λ e. absurd (cc)) (inr (λ l. l))
fault_decided Greater bytes after q = by_length Greater bytes after (λ e. absurd (cc)) (inr (λ l. l))
fault_decided GreaterEq bytes after q = by_length GreaterEq bytes after (λ e. absurd (cc)) (inr (λ l. l))
fault_decided NumEq bytes after q = by_length NumEq bytes after (λ e. absurd (cc)) (inr (λ l. l))
fault_decided NumNe bytes after q = by_length NumNe bytes after (λ e. absurd (cc)) (inr (λ l. l))
fault_decided Differ bytes after q = by_length Differ bytes after (λ e. absurd (cc)) (inr (λ l. l))
fault_decided Plus bytes after q = by_length Plus bytes after (λ e. absurd (cc)) (inr (λ l. l))
fault_decided Minus bytes after q = by_length Minus bytes after (λ e. absurd (cc)) (inr (λ l. l))
fault_decided Star bytes after q = by_length Star bytes after (λ e. absurd (cc)) (inr (λ l. l))
fault_decided Slash bytes after q = by_length Slash bytes after (λ e. absurd (cc)) (inr (λ l. l))

abbrev Answer : List ℕ → Type 0
Answer text = ((tokens : List Token) × Cuts text tokens × NothingWrong text) ⊎ ((refusal : Refusal) × IsLexicalFault text refusal)

-- a text that is cut up to a place, with so many bytes left at most
from_place : (n : ℕ) (text : List ℕ) (at : ℕ) (tokens : List Token) → IsCut text at tokens → length text ≤ at + n → Answer text
from_place zero text at tokens c h = let whole = whole_cut text at tokens c (omega arith) in inl (_, whole.0, whole.1)
from_place (suc n) text at tokens c h = by (leb_tells (length text) at) (λ next more d s. from_place n text next more d s)
  where
    on_fault : (kind : Kind) (k : ℕ) → at < length text → piece_of (minus_behind tokens) (drop at text) ≡ piece.Token kind k → ((next : ℕ) (more : List Token) → IsCut text next more → length text ≤ next + n → Answer text)
        → FaultDecided kind (take k (drop at text)) (drop k (drop at text)) → Answer text
    on_fault kind k l e again (inl f) = inr (_, fault_cut text at k tokens kind f.0 c l e f.1)
    on_fault kind k l e again (inr none) =
        let some = (token_bytes (minus_behind tokens) kind text at k l e).0 in
        again (at + k) _ (token_cut text at k tokens kind c l e none) (omega arith)

    step : (p : Piece) → at < length text → piece_of (minus_behind tokens) (drop at text) ≡ p → ((next : ℕ) (more : List Token) → IsCut text next more → length text ≤ next + n → Answer text) → Answer text
    step (piece.Gap k) l e again =
        let some = (gap_bytes (minus_behind tokens) text at k l e).0 in
        again (at + k) tokens (gap_cut text at k tokens c l e) (omega arith)
    step (piece.Token kind k) l e again =
        on_fault kind k l e again (fault_decided kind (take k (drop at text)) (drop k (drop at text)) (quoted_bytes (minus_behind tokens) text at k kind l e))
    step (piece.Wrong code k) l e again = inr (_, wrong_cut text at k tokens code c l e)

    by : {P Q : Type 0} → (P × (length text ≤ at)) ⊎ (Q × (at < length text)) → ((next : ℕ) (more : List Token) → IsCut text next more → length text ≤ next + n → Answer text) → Answer text
    by (inl w) again = let whole = whole_cut text at tokens c w.1 in inl (_, whole.0, whole.1)
    by (inr l) again = step (piece_of (minus_behind tokens) (drop at text)) l.1 refl again

-- a text is cut and nothing is wrong in it, or it has a refusal
pub cut_or_refused : CutOrRefused
cut_or_refused text = from_place (length text) text 0 [] (cut_nothing text) (omega arith)
