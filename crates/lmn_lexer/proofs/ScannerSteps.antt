-- The steps of a scanner.
use Rattle.std.proofs.Common.{◌≡◌, ℕ, ◌+◌, ◌<◌, ◌≤◌, ◌==◌, true, not, List, [], ◌∷◌, ◌++◌, length, take, drop, refl, sym, ap, ◌∙◌, subst, arith}
use Rattle.std.specs.Prelude.{count_by}
use Rattle.std.proofs.lemmas.List.{length-take-le, length-drop}
use Rattle.std.proofs.Math.Seq.{take-add}
use Rattle.lmn_base.specs.declared.refusal.Pos.{Pos}
use Rattle.lmn_lexer.specs.declared.token.Kind.{Kind}
use Rattle.lmn_lexer.specs.declared.token.Kind.TheVariants.{Quoted}
use Rattle.lmn_lexer.specs.declared.token.Token.{Token}
use Rattle.lmn_lexer.specs.declared.scanner.Scanner.{Scanner}
use Rattle.lmn_lexer.specs.declared.piece.Piece.{Piece}
use Rattle.lmn_lexer.specs.declared.piece.Piece.TheVariants as piece
use Rattle.lmn_lexer.specs.Spelling.{IsQuoted}
use Rattle.lmn_lexer.specs.Cutting.{minus_behind, is_operand, token_at, place, column_behind}
use Rattle.lmn_lexer.specs.Faults.{TokenFault, IsLexicalFault, NothingWrong}
use Rattle.lmn_lexer.specs.Scanning.{piece_of}
use Rattle.lmn_lexer.specs.Scanners.{IsCut, IsScanned}
use Rattle.lmn_lexer.proofs.Places.{place-append, place_within}
use Rattle.lmn_lexer.proofs.ScannedText.{cut_nothing, gap_bytes, token_bytes, wrong_bytes, quoted_bytes, gap_cut, token_cut, token_made, wrong_cut, fault_cut, whole_cut}

-- n bytes of what is left stand within the text, and so do the places behind them
pub record StandsIn (text : List ℕ) (s : Scanner) (rest : List ℕ) (n : ℕ) : Type 0 where
  pub within : n ≤ length rest
  pub size : n ≡ length (take n rest)
  pub at : s.at + n ≤ length text
  pub line : s.pos.line + length (take n rest) ≤ 1 + length text
  pub column : s.pos.column + length (take n rest) ≤ 1 + length text

stands_in : (text : List ℕ) (s : Scanner) (rest : List ℕ) (n : ℕ) → IsScanned text s → rest ≡ drop s.at text → s.at + n ≤ length text → StandsIn text s rest n
stands_in text s rest n h e w =
    let left = ap length e ∙ length-drop s.at text in
    let within : n ≤ length rest = omega arith in
    let bytes = length-take-le n rest within in
    let before = length-take-le s.at text h.cut.within in
    let places = place_within (take s.at text) in
    let line = ap (λ p. p.line) h.placed in
    let column = ap (λ p. p.column) h.placed in
    record { within = within; size = sym bytes; at = w; line = omega (arith, places.0); column = omega (arith, places.1) }

found_at : (text : List ℕ) (s : Scanner) (rest : List ℕ) (p : Piece) → IsScanned text s → rest ≡ drop s.at text → p ≡ piece_of s.minus rest → piece_of (minus_behind s.tokens) (drop s.at text) ≡ p
found_at text s rest p h e f = sym (f ∙ ap (piece_of s.minus) e ∙ ap (λ m. piece_of m (drop s.at text)) h.minus)

-- a gap stands where the scanner is
pub gap_stands : (text : List ℕ) (s : Scanner) (rest : List ℕ) (n : ℕ) → IsScanned text s → s.at < length text → rest ≡ drop s.at text → piece.Gap n ≡ piece_of s.minus rest → StandsIn text s rest n
gap_stands text s rest n h l e f = stands_in text s rest n h e (gap_bytes (minus_behind s.tokens) text s.at n l (found_at text s rest (piece.Gap n) h e f)).1

-- and so a token
pub token_stands : (text : List ℕ) (s : Scanner) (rest : List ℕ) (n : ℕ) (kind : Kind) → IsScanned text s → s.at < length text → rest ≡ drop s.at text → piece.Token kind n ≡ piece_of s.minus rest → StandsIn text s rest n
token_stands text s rest n kind h l e f = stands_in text s rest n h e (token_bytes (minus_behind s.tokens) kind text s.at n l (found_at text s rest (piece.Token kind n) h e f)).1

-- and what is skipped before something wrong
pub wrong_stands : (text : List ℕ) (s : Scanner) (rest : List ℕ) (n code : ℕ) → IsScanned text s → s.at < length text → rest ≡ drop s.at text → piece.Wrong code n ≡ piece_of s.minus rest → StandsIn text s rest n
wrong_stands text s rest n code h l e f = stands_in text s rest n h e (wrong_bytes (minus_behind s.tokens) text s.at code n l (found_at text s rest (piece.Wrong code n) h e f))

-- at the front nothing is scanned
pub nothing_scanned : (text : List ℕ) (tokens : List Token) → tokens ≡ [] → IsScanned text (record { at = 0; pos = record { line = 1; column = 1 }; minus = true; tokens = tokens })
nothing_scanned text tokens e =
    let P : List Token → Type 0 = λ t. IsScanned text (record { at = 0; pos = record { line = 1; column = 1 }; minus = true; tokens = t }) in
    subst P (sym e) (record { cut = cut_nothing text; placed = refl; minus = refl })

-- a scanner that went on behind bytes
pub record Passes (s t : Scanner) (bytes : List ℕ) : Type 0 where
  pub at : t.at ≡ s.at + length bytes
  pub line : t.pos.line ≡ s.pos.line + count_by (λ b. b == 10) bytes
  pub column : t.pos.column ≡ column_behind s.pos.column bytes

-- the place behind n bytes of what is left
place_on : (text : List ℕ) (at n : ℕ) (p q : Pos) (rest : List ℕ) → p ≡ place (take at text) → rest ≡ drop at text
    → q.line ≡ p.line + count_by (λ b. b == 10) (take n rest) → q.column ≡ column_behind p.column (take n rest) → q ≡ place (take at text ++ take n (drop at text))
place_on text at n p q rest e r l c =
    let P : List ℕ → Type 0 = λ x. q ≡ place (take at text ++ take n x) in
    let line = l ∙ ap (λ z. z.line + count_by (λ b. b == 10) (take n rest)) e in
    let column = c ∙ ap (λ z. column_behind z.column (take n rest)) e in
    subst P r
    (ap (λ m. record { line = m; column = q.column }) line
    ∙ ap (λ m. record { line = (place (take at text)).line + count_by (λ b. b == 10) (take n rest); column = m }) column
    ∙ sym (place-append (take at text) (take n rest)))

passed : (text : List ℕ) (s t : Scanner) (rest : List ℕ) (n : ℕ) → IsScanned text s → rest ≡ drop s.at text → StandsIn text s rest n → Passes s t (take n rest)
    → (t.at ≡ s.at + n) × (t.pos ≡ place (take t.at text))
passed text s t rest n h e w p =
    let size = w.size in
    let at : t.at ≡ s.at + n = p.at ∙ ap (λ m. s.at + m) (sym size) in
    (at, place_on text s.at n s.pos t.pos rest h.placed e p.line p.column ∙ ap place (sym (take-add s.at n text) ∙ ap (λ m. take m text) (sym at)))

-- a gap is passed
pub gap_scanned : (text : List ℕ) (s t : Scanner) (rest : List ℕ) (n : ℕ) → IsScanned text s → s.at < length text → rest ≡ drop s.at text → piece.Gap n ≡ piece_of s.minus rest
    → Passes s t (take n rest) → t.tokens ≡ s.tokens → t.minus ≡ s.minus → IsScanned text t × (s.at < t.at)
gap_scanned text s t rest n h l e f p tokens minus =
    let found = found_at text s rest (piece.Gap n) h e f in
    let on = passed text s t rest n h e (gap_stands text s rest n h l e f) p in
    let some = (gap_bytes (minus_behind s.tokens) text s.at n l found).0 in
    let P : List Token → Type 0 = IsCut text t.at in
    let Q : ℕ → Type 0 = λ m. IsCut text m s.tokens in (
      record {
        cut = subst P (sym tokens) (subst Q (sym on.0) (gap_cut text s.at n s.tokens h.cut l found));
        placed = on.1;
        minus = minus ∙ h.minus ∙ ap minus_behind (sym tokens);
      },
      omega (arith, on.0),
    )

-- a `-` may begin an integer behind a token that is no operand
pub minus_last : (tokens : List Token) (t : Token) → minus_behind (tokens ++ t ∷ []) ≡ not (is_operand t.kind)
minus_last [] t = refl
minus_last (u ∷ []) t = refl
minus_last (u ∷ v ∷ tokens) t = minus_last (v ∷ tokens) t

-- a token without a fault is passed, and listed
pub token_scanned : (text : List ℕ) (s t : Scanner) (rest : List ℕ) (n : ℕ) (kind : Kind) → IsScanned text s → s.at < length text → rest ≡ drop s.at text → piece.Token kind n ≡ piece_of s.minus rest
    → ((code : ℕ) → TokenFault kind (take n rest) (drop n rest) code → ⊥) → Passes s t (take n rest)
    → t.tokens ≡ s.tokens ++ record { kind = kind; start = s.at; end = s.at + n; pos = s.pos } ∷ [] → t.minus ≡ not (is_operand kind) → IsScanned text t × (s.at < t.at)
token_scanned text s t rest n kind h l e f none p tokens minus =
    let found = found_at text s rest (piece.Token kind n) h e f in
    let on = passed text s t rest n h e (token_stands text s rest n kind h l e f) p in
    let bytes = token_bytes (minus_behind s.tokens) kind text s.at n l found in
    let N : List ℕ → Type 0 = λ x. (code : ℕ) → TokenFault kind (take n x) (drop n x) code → ⊥ in
    let made = ap (λ q. s.tokens ++ record { kind = kind; start = s.at; end = s.at + n; pos = q } ∷ []) h.placed ∙ ap (λ u. s.tokens ++ u ∷ []) (sym (token_made text s.at n kind bytes.1)) in
    let P : List Token → Type 0 = IsCut text t.at in
    let Q : ℕ → Type 0 = λ m. IsCut text m (s.tokens ++ token_at kind (take s.at text) (take n (drop s.at text)) ∷ []) in (
      record {
        cut = subst P (sym (tokens ∙ made)) (subst Q (sym on.0) (token_cut text s.at n s.tokens kind h.cut l found (subst N e none)));
        placed = on.1;
        minus = minus ∙ sym (ap minus_behind tokens ∙ minus_last s.tokens (record { kind = kind; start = s.at; end = s.at + n; pos = s.pos }));
      },
      omega (arith, on.0, bytes.0),
    )

-- something wrong refuses the text, at the place behind what is skipped
pub wrong_refused : (text : List ℕ) (s : Scanner) (rest : List ℕ) (n code : ℕ) (q : Pos) → IsScanned text s → s.at < length text → rest ≡ drop s.at text → piece.Wrong code n ≡ piece_of s.minus rest
    → q.line ≡ s.pos.line + count_by (λ b. b == 10) (take n rest) → q.column ≡ column_behind s.pos.column (take n rest) → IsLexicalFault text (record { code = code; pos = q })
wrong_refused text s rest n code q h l e f line column =
    let P : Pos → Type 0 = λ z. IsLexicalFault text (record { code = code; pos = z }) in
    subst P (sym (place_on text s.at n s.pos q rest h.placed e line column)) (wrong_cut text s.at n s.tokens code h.cut l (found_at text s rest (piece.Wrong code n) h e f))

-- and so does the fault of a token, at its own place
pub fault_refused : (text : List ℕ) (s : Scanner) (rest : List ℕ) (n code : ℕ) (kind : Kind) → IsScanned text s → s.at < length text → rest ≡ drop s.at text → piece.Token kind n ≡ piece_of s.minus rest
    → TokenFault kind (take n rest) (drop n rest) code → IsLexicalFault text (record { code = code; pos = s.pos })
fault_refused text s rest n code kind h l e f fault =
    let P : Pos → Type 0 = λ z. IsLexicalFault text (record { code = code; pos = z }) in
    let F : List ℕ → Type 0 = λ x. TokenFault kind (take n x) (drop n x) code in
    subst P (sym h.placed) (fault_cut text s.at n s.tokens kind code h.cut l (found_at text s rest (piece.Token kind n) h e f) (subst F e fault))

-- a quoted name is quoted
pub quoted_there : (text : List ℕ) (s : Scanner) (rest : List ℕ) (n : ℕ) (kind : Kind) → IsScanned text s → s.at < length text → rest ≡ drop s.at text → piece.Token kind n ≡ piece_of s.minus rest
    → kind ≡ Quoted → (name : List ℕ) × IsQuoted (take n rest) name
quoted_there text s rest n kind h l e f q =
    let P : List ℕ → Type 0 = λ x. (name : List ℕ) × IsQuoted (take n x) name in
    subst P (sym e) (quoted_bytes (minus_behind s.tokens) text s.at n kind l (found_at text s rest (piece.Token kind n) h e f) q)

-- at the end of the text nothing is wrong
pub all_right : (text : List ℕ) (s : Scanner) → IsScanned text s → length text ≤ s.at → NothingWrong text
all_right text s h l = (whole_cut text s.at s.tokens h.cut l).1
