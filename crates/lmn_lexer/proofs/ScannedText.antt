-- A scanner's steps along a text.
use Rattle.std.proofs.Common.{◌≡◌, ℕ, ◌+◌, ◌<◌, ◌≤◌, Bool, List, [], ◌∷◌, ◌++◌, length, take, drop, ◌⊎◌, inl, inr, refl, sym, ap, ◌∙◌, subst, arith}
use Rattle.std.proofs.Math.Seq.{take-add}
use Rattle.std.proofs.lemmas.List.{take-append-drop, length-take-le, length-drop, drop-drop, take_all, append-nil, drop_all}
use Rattle.lmn_lexer.specs.declared.token.Kind.{Kind}
use Rattle.lmn_lexer.specs.declared.token.Kind.TheVariants.{End, Quoted}
use Rattle.lmn_lexer.specs.declared.token.Token.{Token}
use Rattle.lmn_lexer.specs.declared.piece.Piece.TheVariants as piece
use Rattle.lmn_lexer.specs.Spelling.{Spells, IsQuoted}
use Rattle.lmn_lexer.specs.Cutting.{Cutting, BeginsToken, CutsOff, gap, token, Reaches, start, onward, Cuts, minus_behind, token_at, place}
use Rattle.lmn_lexer.specs.Faults.{Wrong, wrong_token, WrongAt, TokenFault, IsLexicalFault, NothingWrong}
use Rattle.lmn_lexer.specs.Scanning.{piece_of}
use Rattle.lmn_lexer.specs.Scanners.{cut_at, IsCut}
use Rattle.lmn_lexer.proofs.Found.{IsGap, Stands}
use Rattle.lmn_lexer.proofs.Determined.{gap_found, token_stands, token_found, wrong_found, gap_not_wrong, token_not_wrong, nothing_wrong}
use Rattle.lmn_lexer.proofs.OneCut.{before_step, same_or_earlier, reached_within}
use Rattle.lmn_base.proofs.Lists.{length_taken as cut_length}

-- at the front nothing is cut off yet
pub cut_nothing : (text : List ℕ) → IsCut text 0 []
cut_nothing text = record { within = omega arith; reached = start; right = λ c code skipped h l. absurd (omega arith) }

-- what stands at a place of a text

rest_some : (text : List ℕ) (at : ℕ) → at < length text → 0 < length (drop at text)
rest_some text at h = let size = length-drop at text in omega arith

gap_in : (minus : Bool) (rest : List ℕ) (n : ℕ) → 0 < length rest → piece_of minus rest ≡ piece.Gap n → IsGap rest n
gap_in minus [] n h e = absurd (omega arith)
gap_in minus (b ∷ bs) n h e = gap_found minus b bs n e

stands_in : (minus : Bool) (kind : Kind) (rest : List ℕ) (n : ℕ) → 0 < length rest → piece_of minus rest ≡ piece.Token kind n → Stands minus kind rest n
stands_in minus kind [] n h e = absurd (omega arith)
stands_in minus kind (b ∷ bs) n h e = token_stands minus kind b bs n e

token_in : (minus : Bool) (kind : Kind) (rest : List ℕ) (n : ℕ) → 0 < length rest → piece_of minus rest ≡ piece.Token kind n → BeginsToken minus kind (take n rest) (drop n rest) rest
token_in minus kind [] n h e = absurd (omega arith)
token_in minus kind (b ∷ bs) n h e = token_found minus kind b bs n e

wrong_in : (minus : Bool) (rest : List ℕ) (code n : ℕ) → 0 < length rest → piece_of minus rest ≡ piece.Wrong code n → (n ≤ length rest) × Wrong minus rest code (take n rest)
wrong_in minus [] code n h e = absurd (omega arith)
wrong_in minus (b ∷ bs) code n h e = wrong_found minus b bs code n e

-- how many bytes it has

-- a gap has some bytes, all in the text
pub gap_bytes : (minus : Bool) (text : List ℕ) (at n : ℕ) → at < length text → piece_of minus (drop at text) ≡ piece.Gap n → (0 < n) × (at + n ≤ length text)
gap_bytes minus text at n h e =
    let g = gap_in minus (drop at text) n (rest_some text at h) e in
    let size = length-drop at text in
    let within = g.within in
    (g.some, omega arith)

-- and so has a token
pub token_bytes : (minus : Bool) (kind : Kind) (text : List ℕ) (at n : ℕ) → at < length text → piece_of minus (drop at text) ≡ piece.Token kind n → (0 < n) × (at + n ≤ length text)
token_bytes minus kind text at n h e =
    let g = stands_in minus kind (drop at text) n (rest_some text at h) e in
    let size = length-drop at text in
    let within = g.within in
    (g.some, omega arith)

-- what is skipped before something wrong is in the text
pub wrong_bytes : (minus : Bool) (text : List ℕ) (at code n : ℕ) → at < length text → piece_of minus (drop at text) ≡ piece.Wrong code n → at + n ≤ length text
wrong_bytes minus text at code n h e =
    let w = wrong_in minus (drop at text) code n (rest_some text at h) e in
    let size = length-drop at text in
    let within = w.0 in
    omega arith

-- the bytes of a quoted name are quoted
pub quoted_bytes : (minus : Bool) (text : List ℕ) (at n : ℕ) (kind : Kind) → at < length text → piece_of minus (drop at text) ≡ piece.Token kind n → kind ≡ Quoted
    → (name : List ℕ) × IsQuoted (take n (drop at text)) name
quoted_bytes minus text at n kind h e q =
    let s = stands_in minus kind (drop at text) n (rest_some text at h) e in
    let P : Kind → Type 0 = λ k. Spells minus k (take n (drop at text)) in
    subst P q s.spells

-- a step

-- Where nothing is wrong at a cutting, nothing is before the end of its next step.
right_on : (text : List ℕ) (at n : ℕ) (tokens more : List Token) → IsCut text at tokens → at + n ≤ length text → CutsOff (cut_at text at tokens) (cut_at text (at + n) more)
    → ((code : ℕ) (skipped : List ℕ) → WrongAt (cut_at text at tokens) code skipped → ⊥) → IsCut text (at + n) more
right_on text at n tokens more c within step here = record {
  within = within;
  reached = onward c.reached step;
  right = λ d code skipped reached less wrong. go d code skipped wrong reached (before_step c.reached reached step (let size = cut_length text (at + n) within in omega arith));
}
  where
    go : (d : Cutting) (code : ℕ) (skipped : List ℕ) → WrongAt d code skipped → Reaches text d → (d ≡ cut_at text at tokens) ⊎ (length d.before < length (take at text)) → ⊥
    go d code skipped wrong reached (inl e) = let P : Cutting → Type 0 = λ x. WrongAt x code skipped in here code skipped (subst P e wrong)
    go d code skipped wrong reached (inr l) = c.right d code skipped reached (let size = cut_length text at c.within in omega arith) wrong

-- a gap is passed without a token
pub gap_cut : (text : List ℕ) (at n : ℕ) (tokens : List Token) → IsCut text at tokens → at < length text → piece_of (minus_behind tokens) (drop at text) ≡ piece.Gap n
    → IsCut text (at + n) tokens
gap_cut text at n tokens c h e =
    let g = gap_in (minus_behind tokens) (drop at text) n (rest_some text at h) e in
    let split = sym (take-append-drop n (drop at text)) in
    let step : CutsOff (cut_at text at tokens) (record { before = take at text ++ take n (drop at text); tokens = tokens; rest = drop n (drop at text) }) = gap split g.gap in
    let P : Cutting → Type 0 = CutsOff (cut_at text at tokens) in
    let end = ap (λ b. record { before = b; tokens = tokens; rest = drop n (drop at text) }) (sym (take-add at n text))
    ∙ ap (λ r. record { before = take (at + n) text; tokens = tokens; rest = r }) (drop-drop n at text) in
    right_on text at n tokens tokens c (gap_bytes (minus_behind tokens) text at n h e).1 (subst P end step) (λ code skipped w. gap_not_wrong split g.gap w)

-- a token without a fault is cut off
pub token_cut : (text : List ℕ) (at n : ℕ) (tokens : List Token) (kind : Kind) → IsCut text at tokens → at < length text → piece_of (minus_behind tokens) (drop at text) ≡ piece.Token kind n
    → ((code : ℕ) → TokenFault kind (take n (drop at text)) (drop n (drop at text)) code → ⊥)
    → IsCut text (at + n) (tokens ++ token_at kind (take at text) (take n (drop at text)) ∷ [])
token_cut text at n tokens kind c h e none =
    let t = token_in (minus_behind tokens) kind (drop at text) n (rest_some text at h) e in
    let added = tokens ++ token_at kind (take at text) (take n (drop at text)) ∷ [] in
    let step : CutsOff (cut_at text at tokens) (record { before = take at text ++ take n (drop at text); tokens = added; rest = drop n (drop at text) }) = token t in
    let P : Cutting → Type 0 = CutsOff (cut_at text at tokens) in
    let end = ap (λ b. record { before = b; tokens = added; rest = drop n (drop at text) }) (sym (take-add at n text))
    ∙ ap (λ r. record { before = take (at + n) text; tokens = added; rest = r }) (drop-drop n at text) in
    right_on text at n tokens added c (token_bytes (minus_behind tokens) kind text at n h e).1 (subst P end step) (λ code skipped w. token_not_wrong t none w)

-- the token as the scanner makes it
pub token_made : (text : List ℕ) (at n : ℕ) (kind : Kind) → at + n ≤ length text
    → token_at kind (take at text) (take n (drop at text)) ≡ record { kind = kind; start = at; end = at + n; pos = place (take at text) }
token_made text at n kind h =
    let before = cut_length text at (omega arith) in
    let rest = length-drop at text in
    let bytes = length-take-le n (drop at text) (omega arith) in
    ap (λ m. record { kind = kind; start = m; end = m + length (take n (drop at text)); pos = place (take at text) }) before
    ∙ ap (λ m. record { kind = kind; start = at; end = at + m; pos = place (take at text) }) bytes

-- a refusal

refused_at : (text : List ℕ) (at : ℕ) (tokens : List Token) (code : ℕ) (skipped : List ℕ) → IsCut text at tokens → WrongAt (cut_at text at tokens) code skipped
    → IsLexicalFault text (record { code = code; pos = place (take at text ++ skipped) })
refused_at text at tokens code skipped c w = record {
  cutting = cut_at text at tokens;
  skipped = skipped;
  reached = c.reached;
  wrong = w;
  placed = refl;
  first = λ d other passed reached less. c.right d other passed reached (let size = cut_length text at c.within in omega arith);
}

-- something wrong behind what was cut is the first fault
pub wrong_cut : (text : List ℕ) (at n : ℕ) (tokens : List Token) (code : ℕ) → IsCut text at tokens → at < length text → piece_of (minus_behind tokens) (drop at text) ≡ piece.Wrong code n
    → IsLexicalFault text (record { code = code; pos = place (take at text ++ take n (drop at text)) })
wrong_cut text at n tokens code c h e = refused_at text at tokens code (take n (drop at text)) c (wrong_in (minus_behind tokens) (drop at text) code n (rest_some text at h) e).1

-- and so is the fault of a token
pub fault_cut : (text : List ℕ) (at n : ℕ) (tokens : List Token) (kind : Kind) (code : ℕ) → IsCut text at tokens → at < length text → piece_of (minus_behind tokens) (drop at text) ≡ piece.Token kind n
    → TokenFault kind (take n (drop at text)) (drop n (drop at text)) code → IsLexicalFault text (record { code = code; pos = place (take at text) })
fault_cut text at n tokens kind code c h e f =
    let t = token_in (minus_behind tokens) kind (drop at text) n (rest_some text at h) e in
    let P : List ℕ → Type 0 = λ before. IsLexicalFault text (record { code = code; pos = place before }) in
    subst P (append-nil (take at text)) (refused_at text at tokens code [] c (wrong_token kind (take n (drop at text)) (drop n (drop at text)) code t f))

-- the whole text

-- what is cut off to its end is the whole text, with `End` behind it, and nothing is wrong
pub whole_cut : (text : List ℕ) (at : ℕ) (tokens : List Token) → IsCut text at tokens → length text ≤ at
    → Cuts text (tokens ++ record { kind = End; start = at; end = at; pos = place (take at text) } ∷ []) × NothingWrong text
whole_cut text at tokens c h =
    let equal : at ≡ length text = let within = c.within in omega arith in
    let all : take at text ≡ text = take_all at text h in
    let nothing : drop at text ≡ [] = drop_all at text h in
    let P : Cutting → Type 0 = Reaches text in
    let cut = subst P (ap (λ b. record { before = b; tokens = tokens; rest = drop at text }) all ∙ ap (λ r. record { before = text; tokens = tokens; rest = r }) nothing) c.reached in
    let end : record { kind = End; start = at; end = at; pos = place (take at text) } ≡ token_at End text [] =
    ap (λ n. record { kind = End; start = n; end = n; pos = place (take at text) }) equal
    ∙ ap (λ b. record { kind = End; start = length text; end = length text; pos = place b }) all
    ∙ ap (λ n. record { kind = End; start = length text; end = n; pos = place text }) (omega arith) in (
      record { but_end = tokens; cut = cut; with_end = ap (λ t. tokens ++ t ∷ []) end },
      λ d code skipped reached wrong. go d code skipped reached wrong (same_or_earlier cut reached),
    )
  where
    go : (d : Cutting) (code : ℕ) (skipped : List ℕ) → Reaches text d → WrongAt d code skipped
        → (record { before = text; tokens = tokens; rest = [] } ≡ d) ⊎ (length text < length d.before) ⊎ (length d.before < length text) → ⊥
    go d code skipped reached wrong (inl e) = let Q : Cutting → Type 0 = λ x. WrongAt x code skipped in nothing_wrong (subst Q (sym e) wrong)
    go d code skipped reached wrong (inr (inl l)) = absurd (let size = reached_within reached in omega arith)
    go d code skipped reached wrong (inr (inr l)) = c.right d code skipped reached (let within = c.within in omega arith) wrong
