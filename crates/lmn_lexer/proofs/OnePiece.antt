-- One thing alone stands at the front of a text.
use Rattle.std.proofs.Common.{◌≡◌, ◌≢◌, ℕ, ◌+◌, ◌<◌, ◌≤◌, ◌==◌, Bool, true, false, not, ◌&&◌, if◌then◌else◌, List, [], ◌∷◌, ◌++◌, length, take, drop, suc, Option, Some, None, inl, inr, refl, sym, ap, ◌∙◌, subst, arith, bytes_eq}
use Rattle.std.specs.Prelude.{codes}
use Rattle.std.specs.List.{prefix_len}
use Rattle.std.specs.Char.{is_ascii_lowercase, is_ascii_digit}
use Rattle.std.proofs.lemmas.List.{take-append-drop, take_at, append-nil, length-append, length-take-le}
use Rattle.std.proofs.lemmas.Slice.Eq.{bytes_eq-Decides}
use Rattle.lmn_lexer.specs.declared.token.Kind.{Kind}
use Rattle.lmn_lexer.specs.declared.token.Kind.TheVariants.{Name, Quoted, Mod, Link, Int, Context, RuleCtx, End, LParen, RParen, LBracket, RBracket, LBrace, RBrace, Comma, Dot, Arrow, AtAt, Bar, Backslash, Equal, Less, LessEq, Greater, GreaterEq, NumEq, NumNe, Differ, Plus, Minus, Star, Slash}
use Rattle.lmn_lexer.specs.declared.piece.Piece.{Piece}
use Rattle.lmn_lexer.specs.declared.piece.Piece.TheVariants as piece
use Rattle.lmn_lexer.specs.Spelling.{goes_on, begins_link, begins_context, is_quotable, AllPass, IsSpelledWith, IsWord, IsDigits, Quotes, nothing, quote, byte, IsQuoted, Spells}
use Rattle.lmn_lexer.specs.Gaps.{Gap, separator, percent, slashes, block, OccursIn, EndsLine, NoLineFeed}
use Rattle.lmn_lexer.specs.Cutting.{BeginsToken}
use Rattle.lmn_lexer.specs.Scanning.{follows, first_passes, word_bytes, digit_bytes, line_bytes, later, close_at, word_kind, lowercase_at, minus_at, quoted_behind, sign_piece, piece_of}
use Rattle.lmn_lexer.proofs.Runs.{if_case, run_exact}
use Rattle.lmn_lexer.specs.Laying.{NoneStandsFirst}
use Rattle.lmn_lexer.proofs.ScanLemmas.{quoted_steps, quoted_byte_next}
use Rattle.lmn_lexer.proofs.Found.{Stands, IsPiece, found, IsClose, close_found, context_goes_on}
use Rattle.lmn_lexer.proofs.Exact.{IsFree, Covers, covered, lower_piece, link_piece, digit_piece, context_not_at, quote_not_line}
use Rattle.lmn_base.proofs.Numbers.{equal_when, unequal}
use Rattle.lmn_base.proofs.Truth.{and_true as both_true}

-- bytes that spell a kind are found as that kind

run_all : (test : ℕ → Bool) (bs : List ℕ) → AllPass test bs → prefix_len test bs ≡ length bs
run_all test bs h = sym (ap (prefix_len test) (append-nil bs)) ∙ run_exact test bs [] h tt

alone_name : (minus : Bool) (b : ℕ) (bs : List ℕ) (kind : Kind) → is_ascii_lowercase b ≡ true → AllPass goes_on bs → word_kind (b ∷ bs) ≡ kind
    → piece_of minus (b ∷ bs) ≡ piece.Token kind (length (b ∷ bs))
alone_name minus b bs kind low h k =
    let n : 1 + word_bytes bs ≡ length (b ∷ bs) = let r = run_all goes_on bs h in omega arith in
    let all : take (length (b ∷ bs)) (b ∷ bs) ≡ b ∷ bs = ap (take (length (b ∷ bs))) (sym (append-nil (b ∷ bs))) ∙ take_at (b ∷ bs) [] (length (b ∷ bs)) refl in
    lower_piece minus b bs low
    ∙ ap (λ m. piece.Token (word_kind (take m (b ∷ bs))) m) n
    ∙ ap (λ bytes. piece.Token (word_kind bytes) (length (b ∷ bs))) all
    ∙ ap (λ found. piece.Token found (length (b ∷ bs))) k

-- a word that isn't `mod` is a name
pub not_mod : (bytes : List ℕ) → bytes ≢ codes "mod" → word_kind bytes ≡ Name
not_mod bytes h = if_case (λ kind. kind ≡ Name) (bytes_eq bytes (codes "mod")) Mod Name (λ e. absurd (h ((bytes_eq-Decides bytes (codes "mod")).0 e))) (λ e. refl)

-- a word behind a sign
alone_behind : (kind : Kind) (first more : ℕ → Bool) (bs : List ℕ) (wrong : Piece) → ((b : ℕ) → first b ≡ true → more b ≡ true) → IsSpelledWith first more bs
    → (if first_passes first bs then piece.Token kind (1 + prefix_len more bs) else wrong) ≡ piece.Token kind (suc (length bs))
alone_behind kind first more [] wrong sub h = absurd h
alone_behind kind first more (b ∷ bs) wrong sub h =
    let r = run_all more (b ∷ bs) (sub b h.0, h.1) in
    ap (λ t. if t then piece.Token kind (1 + prefix_len more (b ∷ bs)) else wrong) h.0 ∙ ap (λ m. piece.Token kind m) (omega arith)

alone_digits : (minus : Bool) (bytes : List ℕ) → IsDigits bytes → piece_of minus bytes ≡ piece.Token Int (length bytes)
alone_digits minus [] h = absurd h
alone_digits minus (b ∷ bs) h = let r = run_all is_ascii_digit bs h.1 in digit_piece minus b bs h.0 ∙ ap (λ m. piece.Token Int m) (omega arith)

alone_integer : (minus : Bool) (bytes : List ℕ) → Spells minus Int bytes → piece_of minus bytes ≡ piece.Token Int (length bytes)
alone_integer minus [] h = absurd h
alone_integer minus (b ∷ bs) (inl h) = alone_digits minus (b ∷ bs) h
alone_integer minus (b ∷ bs) (inr (m, e, h)) =
    ap (λ x. piece_of minus (x ∷ bs)) e
    ∙ ap (λ t. if t && first_passes is_ascii_digit bs then piece.Token Int (1 + digit_bytes bs) else piece.Token Minus 1) m
    ∙ alone_behind Int is_ascii_digit is_ascii_digit bs (piece.Token Minus 1) (λ c h. h) h

alone_name_word : (minus : Bool) (bytes : List ℕ) → Spells minus Name bytes → piece_of minus bytes ≡ piece.Token Name (length bytes)
alone_name_word minus [] h = absurd h.0
alone_name_word minus (b ∷ bs) h = alone_name minus b bs Name h.0.0 h.0.1 (not_mod (b ∷ bs) h.1)

alone_link : (minus : Bool) (bytes : List ℕ) → Spells minus Link bytes → piece_of minus bytes ≡ piece.Token Link (length bytes)
alone_link minus [] h = absurd h
alone_link minus (b ∷ bs) h = let r = run_all goes_on bs h.1 in link_piece minus b bs h.0 ∙ ap (λ m. piece.Token Link m) (omega arith)

alone_context : (minus : Bool) (bytes : List ℕ) → Spells minus Context bytes → piece_of minus bytes ≡ piece.Token Context (length bytes)
alone_context minus [] h = absurd h
alone_context minus (b ∷ bs) (e, h) = ap (λ x. piece_of minus (x ∷ bs)) e ∙ alone_behind Context begins_context goes_on bs (piece.Wrong 2 0) context_goes_on h

not_at : (bs : List ℕ) → IsWord begins_context bs → follows 64 bs ≡ false
not_at [] h = refl
not_at (b ∷ bs) h = context_not_at b h.0

alone_rule_context : (minus : Bool) (bytes : List ℕ) → Spells minus RuleCtx bytes → piece_of minus bytes ≡ piece.Token RuleCtx (length bytes)
alone_rule_context minus [] h = absurd h
alone_rule_context minus (b ∷ bs) (e, h) =
    ap (λ x. piece_of minus (x ∷ bs)) e
    ∙ ap (λ t. if t then piece.Token AtAt 2 else (if first_passes begins_context bs then piece.Token RuleCtx (1 + word_bytes bs) else piece.Wrong 2 0)) (not_at bs h)
    ∙ alone_behind RuleCtx begins_context goes_on bs (piece.Wrong 2 0) context_goes_on h

-- how a name in quotes goes on behind what stands between quotes
pub quoted_past : {inside name : List ℕ} → Quotes inside name → (n : ℕ) (rest : List ℕ) → quoted_behind n (inside ++ rest) ≡ quoted_behind (n + length inside) rest
quoted_past nothing n rest = ap (λ m. quoted_behind m rest) (omega arith)
quoted_past (quote {bs = bs} h) n rest = quoted_past h (n + 2) rest ∙ ap (λ m. quoted_behind m rest) (omega arith)
quoted_past (byte {b = b} {bs = bs} e h) n rest =
    let not_line = quote_not_line b e in
    quoted_steps n b (bs ++ rest) ∙ quoted_byte_next n b (bs ++ rest) not_line.0 not_line.1 e
    ∙ quoted_past h (n + 1) rest ∙ ap (λ m. quoted_behind m rest) (omega arith)

alone_quoted : (minus : Bool) (bytes name : List ℕ) → IsQuoted bytes name → piece_of minus bytes ≡ piece.Token Quoted (length bytes)
alone_quoted minus bytes name q =
    let size = length-append q.inside (39 ∷ []) in
    let long : 1 + length q.inside + 1 ≡ length bytes = let l = ap length q.stands in omega arith in
    ap (piece_of minus) q.stands ∙ quoted_past q.quotes 1 (39 ∷ []) ∙ ap (λ m. piece.Token Quoted m) long

alone_sign : (minus : Bool) (kind : Kind) (bytes sign : List ℕ) → bytes ≡ sign → piece_of minus sign ≡ piece.Token kind (length sign) → piece_of minus bytes ≡ piece.Token kind (length bytes)
alone_sign minus kind bytes sign e h = let P : List ℕ → Type 0 = λ x. piece_of minus x ≡ piece.Token kind (length x) in subst P (sym e) h

minus_alone : (minus : Bool) → minus_at minus [] ≡ piece.Token Minus 1
minus_alone true = refl
minus_alone false = refl

alone : (minus : Bool) (kind : Kind) (bytes : List ℕ) → Spells minus kind bytes → piece_of minus bytes ≡ piece.Token kind (length bytes)
alone minus Name bytes h = alone_name_word minus bytes h
alone minus Quoted bytes (name, q) = alone_quoted minus bytes name q
alone minus Mod bytes h = alone_sign minus Mod bytes (codes "mod") h refl
alone minus Link bytes h = alone_link minus bytes h
alone minus Int bytes h = alone_integer minus bytes h
alone minus Context bytes h = alone_context minus bytes h
alone minus RuleCtx bytes h = alone_rule_context minus bytes h
alone minus End bytes h = absurd h
alone minus LParen bytes h = alone_sign minus LParen bytes (codes "(") h refl
alone minus RParen bytes h = alone_sign minus RParen bytes (codes ")") h refl
alone minus LBracket bytes h = alone_sign minus LBracket bytes (codes "[") h refl
alone minus RBracket bytes h = alone_sign minus RBracket bytes (codes "]") h refl
alone minus LBrace bytes h = alone_sign minus LBrace bytes (codes "{") h refl
alone minus RBrace bytes h = alone_sign minus RBrace bytes (codes "}") h refl
alone minus Comma bytes h = alone_sign minus Comma bytes (codes ",") h refl
alone minus Dot bytes h = alone_sign minus Dot bytes (codes ".") h refl
alone minus Arrow bytes h = alone_sign minus Arrow bytes (codes ":-") h refl
alone minus AtAt bytes h = alone_sign minus AtAt bytes (codes "@@") h refl
alone minus Bar bytes h = alone_sign minus Bar bytes (codes "|") h refl
alone minus Backslash bytes h = alone_sign minus Backslash bytes (codes "\\") h refl
alone minus Equal bytes h = alone_sign minus Equal bytes (codes "=") h refl
alone minus Less bytes h = alone_sign minus Less bytes (codes "<") h refl
alone minus LessEq bytes h = alone_sign minus LessEq bytes (codes "=<") h refl
alone minus Greater bytes h = alone_sign minus Greater bytes (codes ">") h refl
alone minus GreaterEq bytes h = alone_sign minus GreaterEq bytes (codes ">=") h refl
alone minus NumEq bytes h = alone_sign minus NumEq bytes (codes "=:=") h refl
alone minus NumNe bytes h = alone_sign minus NumNe bytes (codes "=\\=") h refl
alone minus Differ bytes h = alone_sign minus Differ bytes (codes "\\=") h refl
alone minus Plus bytes h = alone_sign minus Plus bytes (codes "+") h refl
alone minus Minus bytes h = alone_sign minus Minus bytes (codes "-") h (minus_alone minus)
alone minus Star bytes h = alone_sign minus Star bytes (codes "*") h refl
alone minus Slash bytes h = alone_sign minus Slash bytes (codes "/") h refl

same_token : {kind other : Kind} {n m : ℕ} → piece.Token kind n ≡ piece.Token other m → (kind ≡ other) × (n ≡ m)
same_token h = (cc, cc)

-- a token that begins a text is found
pub token_piece : {minus : Bool} {kind : Kind} {bytes after text : List ℕ} → BeginsToken minus kind bytes after text → piece_of minus text ≡ piece.Token kind (length bytes)
token_piece {minus = minus} {kind = kind} {bytes = bytes} {after = after} {text = text} t =
    let P : List ℕ → Type 0 = λ x. Covers (length bytes) (IsFree kind after x) (piece_of minus x) in
    go text t (piece_of minus text) refl (subst P (sym t.stands) (covered minus kind bytes after t.spells))
  where
    free : (text : List ℕ) → BeginsToken minus kind bytes after text → IsFree kind after text
    free text t = record { closed = t.closed; no_line_comment = t.no_line_comment; no_block_comment = t.no_block_comment; no_inline_code = t.no_inline_code }

    same : (text : List ℕ) → BeginsToken minus kind bytes after text → (other : Kind) (n : ℕ) → Stands minus other text n → length bytes ≤ n → piece.Token other n ≡ piece.Token kind (length bytes)
    same text t other n s l =
        let long = t.longest other (take n text) (drop n text) s.spells (sym (take-append-drop n text)) in
        let size = length-take-le n text s.within in
        let equal : n ≡ length bytes = omega arith in
        let whole : take n text ≡ bytes = ap (take n) t.stands ∙ take_at bytes after n (sym equal) in
        let Q : List ℕ → Type 0 = Spells minus other in
        let kinds = same_token (sym (alone minus other bytes (subst Q whole s.spells)) ∙ alone minus kind bytes t.spells) in
        ap (λ k. piece.Token k n) kinds.0 ∙ ap (λ m. piece.Token kind m) equal

    go : (text : List ℕ) → BeginsToken minus kind bytes after text → (p : Piece) → piece_of minus text ≡ p → Covers (length bytes) (IsFree kind after text) p → p ≡ piece.Token kind (length bytes)
    go text t (piece.Gap n) e c = absurd (c (free text t))
    go text t (piece.Wrong code n) e c = absurd (c.0 (free text t))
    go [] t (piece.Token other n) e c = cc
    go (b ∷ bs) t (piece.Token other n) e c = let R : Piece → Type 0 = IsPiece minus (b ∷ bs) in same (b ∷ bs) t other n (subst R e (found minus b bs)) c

-- gaps

stops_line : (after : List ℕ) → EndsLine after → NoneStandsFirst (λ b. not (b == 10)) after
stops_line [] h = tt
stops_line (b ∷ bs) h = ap (λ x. not (x == 10)) h

holds_on : (b : ℕ) (bs : List ℕ) → OccursIn (codes "*/") bs → OccursIn (codes "*/") (b ∷ bs)
holds_on b bs (before, after, e) = (b ∷ before, after, ap (λ x. b ∷ x) e)

close_of : (inside after : List ℕ) → ¬ (OccursIn (codes "*/") (inside ++ codes "*")) → close_at ((inside ++ codes "*/") ++ after) ≡ Some (length inside)
close_of [] after h = refl
close_of (b ∷ bs) after h =
    ap (λ t. if t then Some 0 else later 1 (close_at ((bs ++ codes "*/") ++ after))) (not_here ((b == 42) && follows 47 ((bs ++ codes "*/") ++ after)) refl)
    ∙ ap (later 1) (close_of bs after (λ k. h (holds_on b (bs ++ codes "*") k)))
    ∙ ap Some (omega arith)
  where
    clash : (bs : List ℕ) → ¬ (OccursIn (codes "*/") (b ∷ (bs ++ codes "*"))) → b ≡ 42 → follows 47 ((bs ++ codes "*/") ++ after) ≡ true → ⊥
    clash [] h e f = absurd (cc)
    clash (c ∷ cs) h e f = h ([], cs ++ codes "*", ap (λ x. x ∷ c ∷ (cs ++ codes "*")) e ∙ ap (λ x. 42 ∷ x ∷ (cs ++ codes "*")) (equal_when c 47 f))

    not_here : (t : Bool) → ((b == 42) && follows 47 ((bs ++ codes "*/") ++ after)) ≡ t → ((b == 42) && follows 47 ((bs ++ codes "*/") ++ after)) ≡ false
    not_here false e = e
    not_here true e = let both = both_true (b == 42) (follows 47 ((bs ++ codes "*/") ++ after)) e in absurd (clash bs h (equal_when b 42 both.0) both.1)

line_length : (line after : List ℕ) → NoLineFeed line → EndsLine after → line_bytes (line ++ after) ≡ length line
line_length line after h e = run_exact (λ b. not (b == 10)) line after h (stops_line after e)

-- a gap is found as one
pub gap_piece : {bytes after : List ℕ} (minus : Bool) → Gap bytes after → piece_of minus (bytes ++ after) ≡ piece.Gap (length bytes)
gap_piece minus (separator b after h) =
    ap (λ t. if t then piece.Gap 1 else (if is_ascii_lowercase b then lowercase_at (b ∷ after)
    else (if begins_link b then piece.Token Link (1 + word_bytes after) else (if is_ascii_digit b then piece.Token Int (1 + digit_bytes after) else sign_piece minus b after)))) h
gap_piece minus (percent line after h e) = let l = line_length line after h e in ap piece.Gap (omega arith)
gap_piece minus (slashes line after h e) = let l = line_length line after h e in ap piece.Gap (omega arith)
gap_piece minus (block inside after h) =
    let size = length-append inside (codes "*/") in
    ap (λ o. elim o [ None ↦ piece.Wrong 3 0 | Some n ↦ piece.Gap (n + 4) ]) (close_of inside after h) ∙ ap piece.Gap (omega arith)

-- faults of names in quotes and of comments

-- a byte that can't stand in quotes is found as wrong, where it stands
pub bad_quoted_piece : {inside name : List ℕ} (minus : Bool) (b : ℕ) (after : List ℕ) → Quotes inside name → is_quotable b ≡ false → b ≢ 39 → b ≢ 10
    → piece_of minus (39 ∷ (inside ++ b ∷ after)) ≡ piece.Wrong 2 (length (39 ∷ inside))
bad_quoted_piece {inside = inside} minus b after q not_quotable x y =
    let n = 1 + length inside in
    quoted_past q 1 (b ∷ after) ∙ quoted_steps n b after
    ∙ ap (λ t. if t then (if follows 39 after then quoted_behind (n + 2) (drop 1 after) else piece.Token Quoted (n + 1))
    else (if b == 10 then piece.Wrong 3 0 else (if is_quotable b then quoted_behind (n + 1) after else piece.Wrong 2 n))) (unequal b 39 x)
    ∙ ap (λ t. if t then piece.Wrong 3 0 else (if is_quotable b then quoted_behind (n + 1) after else piece.Wrong 2 n)) (unequal b 10 y)
    ∙ ap (λ t. if t then quoted_behind (n + 1) after else piece.Wrong 2 n) not_quotable
    ∙ ap (λ m. piece.Wrong 2 m) (omega arith)

open_rest : (n : ℕ) (after : List ℕ) → EndsLine after → quoted_behind n after ≡ piece.Wrong 3 0
open_rest n [] h = refl
open_rest n (b ∷ bs) h = ap (λ x. quoted_behind n (x ∷ bs)) h ∙ quoted_steps n 10 bs

-- quotes that aren't closed are found as wrong
pub open_quote_piece : {inside name : List ℕ} (minus : Bool) (after : List ℕ) → Quotes inside name → EndsLine after → piece_of minus (39 ∷ (inside ++ after)) ≡ piece.Wrong 3 0
open_quote_piece {inside = inside} minus after q e = quoted_past q 1 after ∙ open_rest (1 + length inside) after e

-- and so is a comment that isn't
pub open_comment_piece : (minus : Bool) (inside : List ℕ) → ¬ (OccursIn (codes "*/") inside) → piece_of minus (codes "/*" ++ inside) ≡ piece.Wrong 3 0
open_comment_piece minus inside h = ap (λ o. elim o [ None ↦ piece.Wrong 3 0 | Some n ↦ piece.Gap (n + 4) ]) (go (close_at inside) refl (close_found inside))
  where
    go : (o : Option ℕ) → close_at inside ≡ o → IsClose inside o → close_at inside ≡ None
    go None e c = e
    go (Some n) e c = absurd (h (c.inside, c.after, c.stands))

-- a token has some byte
pub token_some : {minus : Bool} {kind : Kind} {bytes after text : List ℕ} → BeginsToken minus kind bytes after text → 0 < length bytes
token_some {minus = minus} {kind = kind} {bytes = bytes} {text = text} t = go text (token_piece t)
  where
    go : (text : List ℕ) → piece_of minus text ≡ piece.Token kind (length bytes) → 0 < length bytes
    go [] e = absurd (cc)
    go (b ∷ bs) e = let P : Piece → Type 0 = IsPiece minus (b ∷ bs) in (subst P e (found minus b bs)).some
