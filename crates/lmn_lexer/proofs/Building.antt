-- How a text whose parts are known is cut, part by part.
use Rattle.std.proofs.Common.{◌≡◌, ℕ, ◌+◌, ◌==◌, Bool, true, false, not, if◌then◌else◌, List, [], ◌∷◌, ◌++◌, length, take, drop, inl, inr, refl, sym, ap, ◌∙◌, subst, arith}
use Rattle.std.specs.Prelude.{codes}
use Rattle.std.proofs.lemmas.Bool.Decides.{nat_tests}
use Rattle.std.specs.List.{prefix_len}
use Rattle.std.specs.Char.{is_ascii_lowercase, is_ascii_digit, is_ascii_whitespace}
use Rattle.std.proofs.lemmas.List.{length-append, append_assoc, take_at, take-append-drop, length-take-le}
use Rattle.lmn_lexer.specs.declared.token.Kind.{Kind}
use Rattle.lmn_lexer.specs.declared.token.Kind.TheVariants.{Name, Quoted, Mod, Link, Int, Context, RuleCtx, LParen, RParen, LBracket, RBracket, LBrace, RBrace, Comma, Dot, Arrow, AtAt, Bar, Equal, Less, LessEq, Greater, GreaterEq, NumEq, NumNe, Differ, Plus, Minus, Star, Slash}
use Rattle.lmn_lexer.specs.declared.token.Token.{Token}
use Rattle.lmn_lexer.specs.declared.piece.Piece.TheVariants as piece
use Rattle.lmn_lexer.specs.Spelling.{goes_on, begins_link, begins_context, IsWord, IsWordBehind, IsDigits, IsIntegerSpelling, IsQuoted, Spells}
use Rattle.lmn_lexer.specs.Gaps.{separator}
use Rattle.lmn_lexer.specs.Cutting.{BeginsToken, gap, token, Reaches, onward, minus_behind, token_at}
use Rattle.lmn_lexer.specs.Scanning.{digit_bytes, word_kind, quoted_behind, piece_of}
use Rattle.lmn_lexer.proofs.Runs.{run_exact}
use Rattle.lmn_lexer.specs.Laying.{NoneStandsFirst, Separated, MayFollow}
use Rattle.lmn_lexer.proofs.Exact.{lower_piece, link_piece, digit_piece, context_not_at}
use Rattle.lmn_lexer.proofs.OnePiece.{not_mod, quoted_past, gap_piece}
use Rattle.lmn_lexer.proofs.Determined.{token_stands, token_found, same_front}
use Rattle.lmn_lexer.proofs.Found.{context_goes_on}

-- steps

-- white space is cut off
pub blank_off : {text before rest after : List ℕ} {tokens : List Token} (b : ℕ)
    → Reaches text (record { before = before; tokens = tokens; rest = rest }) → rest ≡ b ∷ after → is_ascii_whitespace b ≡ true
    → Reaches text (record { before = before ++ b ∷ []; tokens = tokens; rest = after })
blank_off {after = after} b h e s = onward h (gap e (separator b after s))

token_begins : (minus : Bool) (kind : Kind) (bytes after text : List ℕ) → text ≡ bytes ++ after
    → piece_of minus text ≡ piece.Token kind (length bytes) → BeginsToken minus kind bytes after text
token_begins minus kind bytes after [] e p = absurd (cc)
token_begins minus kind bytes after (b ∷ bs) e p =
    let t = token_found minus kind b bs (length bytes) p in
    let s = token_stands minus kind b bs (length bytes) p in
    let size = length-take-le (length bytes) (b ∷ bs) s.within in
    let same = same_front (take-append-drop (length bytes) (b ∷ bs) ∙ e) size in
    let P : List ℕ → Type 0 = λ x. BeginsToken minus kind x (drop (length bytes) (b ∷ bs)) (b ∷ bs) in
    let Q : List ℕ → Type 0 = λ x. BeginsToken minus kind bytes x (b ∷ bs) in
    subst Q same.1 (subst P same.0 t)

-- and so is a token
pub token_off : {text before rest : List ℕ} {tokens : List Token} (kind : Kind) (bytes after : List ℕ)
    → Reaches text (record { before = before; tokens = tokens; rest = rest })
    → rest ≡ bytes ++ after → piece_of (minus_behind tokens) rest ≡ piece.Token kind (length bytes)
    → Reaches text (record { before = before ++ bytes; tokens = tokens ++ token_at kind before bytes ∷ []; rest = after })
token_off {rest = rest} {tokens = tokens} kind bytes after h e p = onward h (token (token_begins (minus_behind tokens) kind bytes after rest e p))

-- what stands first

-- these bytes are found as a token of this kind
abbrev pub IsFirst : Bool → Kind → List ℕ → List ℕ → Type 0
IsFirst minus kind bytes after = piece_of minus (bytes ++ after) ≡ piece.Token kind (length bytes)

-- white space at the front is a gap of one byte
pub blank_first : (minus : Bool) (b : ℕ) (after : List ℕ) → is_ascii_whitespace b ≡ true → piece_of minus (b ∷ after) ≡ piece.Gap 1
blank_first minus b after s = gap_piece minus (separator b after s)

-- a name that isn't quoted
name_first : (minus : Bool) (bytes after : List ℕ) → IsWord is_ascii_lowercase bytes → NoneStandsFirst goes_on after → IsFirst minus (word_kind bytes) bytes after
name_first minus [] after h s = absurd h
name_first minus (b ∷ bs) after h s =
    let run = run_exact goes_on bs after h.1 s in
    let n : 1 + prefix_len goes_on (bs ++ after) ≡ length (b ∷ bs) = omega arith in
    lower_piece minus b (bs ++ after) h.0
    ∙ ap (λ m. piece.Token (word_kind (take m (b ∷ (bs ++ after)))) m) n
    ∙ ap (λ x. piece.Token (word_kind x) (length (b ∷ bs))) (take_at (b ∷ bs) after (length (b ∷ bs)) refl)

-- the same, or `mod`
word_text : (minus : Bool) (kind : Kind) (bytes after : List ℕ) → IsWord is_ascii_lowercase bytes → word_kind bytes ≡ kind → NoneStandsFirst goes_on after
    → IsFirst minus kind bytes after
word_text minus kind bytes after h k s = name_first minus bytes after h s ∙ ap (λ x. piece.Token x (length bytes)) k

-- digits
digits_first : (minus : Bool) (bytes after : List ℕ) → IsDigits bytes → NoneStandsFirst is_ascii_digit after → IsFirst minus Int bytes after
digits_first minus [] after h s = absurd h
digits_first minus (b ∷ bs) after h s =
    let run = run_exact is_ascii_digit bs after h.1 s in
    digit_piece minus b (bs ++ after) h.0 ∙ ap (λ m. piece.Token Int m) (omega arith)

-- a `-` and digits, where it may begin an integer
negative_first : (bytes after : List ℕ) → IsDigits bytes → NoneStandsFirst is_ascii_digit after → IsFirst true Int (45 ∷ bytes) after
negative_first [] after h s = absurd h
negative_first (b ∷ bs) after h s =
    let run = run_exact is_ascii_digit (b ∷ bs) after (h.0, h.1) s in
    ap (λ t. if t then piece.Token Int (1 + digit_bytes (b ∷ (bs ++ after))) else piece.Token Minus 1) h.0 ∙ ap (λ m. piece.Token Int m) (omega arith)

integer_first : (minus : Bool) (bytes after : List ℕ) → IsIntegerSpelling minus bytes → NoneStandsFirst is_ascii_digit after → IsFirst minus Int bytes after
integer_first minus [] after h s = absurd h
integer_first minus (b ∷ bs) after (inl h) s = digits_first minus (b ∷ bs) after h s
integer_first minus (b ∷ bs) after (inr (m, e, h)) s =
    ap (λ x. piece_of minus (x ∷ (bs ++ after))) e ∙ ap (λ x. piece_of x (45 ∷ (bs ++ after))) m ∙ negative_first bs after h s

closed_here : (n : ℕ) (after : List ℕ) → NoneStandsFirst (λ b. b == 39) after → quoted_behind n (39 ∷ after) ≡ piece.Token Quoted (n + 1)
closed_here n [] h = refl
closed_here n (c ∷ cs) h = ap (λ t. if t then quoted_behind (n + 2) cs else piece.Token Quoted (n + 1)) h

-- a name in quotes
quoted_first : (minus : Bool) (bytes name after : List ℕ) → IsQuoted bytes name → NoneStandsFirst (λ b. b == 39) after → IsFirst minus Quoted bytes after
quoted_first minus bytes name after q h =
    let size = length-append q.inside (39 ∷ []) in
    let long : 1 + length q.inside + 1 ≡ length bytes = let l = ap length q.stands in omega arith in
    ap (λ x. piece_of minus (x ++ after)) q.stands ∙ ap (λ x. piece_of minus (39 ∷ x)) (append_assoc q.inside (39 ∷ []) after)
    ∙ quoted_past q.quotes 1 (39 ∷ after) ∙ closed_here (1 + length q.inside) after h ∙ ap (λ m. piece.Token Quoted m) long

-- a sign
sign_first : (minus : Bool) (kind : Kind) (bytes sign after : List ℕ) → bytes ≡ sign → IsFirst minus kind sign after → IsFirst minus kind bytes after
sign_first minus kind bytes sign after e h = let P : List ℕ → Type 0 = λ x. IsFirst minus kind x after in subst P (sym e) h

-- a link
link_first : (minus : Bool) (bytes after : List ℕ) → IsWord begins_link bytes → NoneStandsFirst goes_on after → IsFirst minus Link bytes after
link_first minus [] after h s = absurd h
link_first minus (b ∷ bs) after h s =
    let run = run_exact goes_on bs after h.1 s in
    link_piece minus b (bs ++ after) h.0 ∙ ap (λ m. piece.Token Link m) (omega arith)

-- the bytes of a context behind its sign
context_run : (b : ℕ) (bs after : List ℕ) → IsWord begins_context (b ∷ bs) → NoneStandsFirst goes_on after
    → 1 + prefix_len goes_on (b ∷ (bs ++ after)) ≡ 1 + length (b ∷ bs)
context_run b bs after h s = ap (λ m. 1 + m) (run_exact goes_on (b ∷ bs) after (context_goes_on b h.0, h.1) s)

context_first : (minus : Bool) (bytes after : List ℕ) → IsWordBehind 36 begins_context bytes → NoneStandsFirst goes_on after → IsFirst minus Context bytes after
context_first minus [] after h s = absurd h
context_first minus (c ∷ []) after h s = absurd h.1
context_first minus (c ∷ b ∷ bs) after h s =
    ap (λ x. piece_of minus (x ∷ b ∷ (bs ++ after))) h.0
    ∙ ap (λ t. if t then piece.Token Context (1 + prefix_len goes_on (b ∷ (bs ++ after))) else piece.Wrong 2 0) h.1.0
    ∙ ap (λ m. piece.Token Context m) (let run = context_run b bs after h.1 s in omega arith)

rule_context_first : (minus : Bool) (bytes after : List ℕ) → IsWordBehind 64 begins_context bytes → NoneStandsFirst goes_on after → IsFirst minus RuleCtx bytes after
rule_context_first minus [] after h s = absurd h
rule_context_first minus (c ∷ []) after h s = absurd h.1
rule_context_first minus (c ∷ b ∷ bs) after h s =
    let long = piece.Token RuleCtx (1 + prefix_len goes_on (b ∷ (bs ++ after))) in
    ap (λ x. piece_of minus (x ∷ b ∷ (bs ++ after))) h.0
    ∙ ap (λ t. if t then piece.Token AtAt 2 else (if begins_context b then long else piece.Wrong 2 0)) (context_not_at b h.1.0)
    ∙ ap (λ t. if t then long else piece.Wrong 2 0) h.1.0
    ∙ ap (λ m. piece.Token RuleCtx m) (let run = context_run b bs after h.1 s in omega arith)

-- a separator is no other byte, and no digit
separator_not : (c n : ℕ) → not (is_ascii_whitespace c) ≡ false → is_ascii_whitespace n ≡ false → (c == n) ≡ false
separator_not c n h k = grind (arith, nat_tests)

separator_no_digit : (c : ℕ) → not (is_ascii_whitespace c) ≡ false → is_ascii_digit c ≡ false
separator_no_digit c h = grind (arith, nat_tests)

equal_first : (minus : Bool) (after : List ℕ) → Separated after → IsFirst minus Equal (codes "=") after
equal_first minus [] h = refl
equal_first minus (c ∷ cs) h = rw (separator_not c 60 h refl) (rw (separator_not c 58 h refl) (rw (separator_not c 92 h refl) refl))

greater_first : (minus : Bool) (after : List ℕ) → Separated after → IsFirst minus Greater (codes ">") after
greater_first minus [] h = refl
greater_first minus (c ∷ cs) h = rw (separator_not c 61 h refl) refl

slash_first : (minus : Bool) (after : List ℕ) → Separated after → IsFirst minus Slash (codes "/") after
slash_first minus [] h = refl
slash_first minus (c ∷ cs) h = rw (separator_not c 47 h refl) (rw (separator_not c 42 h refl) refl)

minus_first : (minus : Bool) (after : List ℕ) → Separated after → IsFirst minus Minus (codes "-") after
minus_first true [] h = refl
minus_first false [] h = refl
minus_first true (c ∷ cs) h = rw (separator_no_digit c h) refl
minus_first false (c ∷ cs) h = refl

bracket_first : (minus : Bool) (after : List ℕ) → NoneStandsFirst (λ b. b == 58) after → IsFirst minus LBracket (codes "[") after
bracket_first minus [] h = refl
bracket_first minus (c ∷ cs) h = rw h refl

-- a word with what may stand behind it
pub word_first : (minus : Bool) (kind : Kind) (bytes after : List ℕ) → Spells minus kind bytes → MayFollow kind after → IsFirst minus kind bytes after
word_first minus Name bytes after h m = word_text minus Name bytes after h.0 (not_mod bytes h.1) m
word_first minus Mod bytes after h m =
    sign_first minus Mod bytes (codes "mod") after h (word_text minus Mod (codes "mod") after (refl, (refl, (refl, tt))) refl m)
word_first minus Quoted bytes after (name, q) m = quoted_first minus bytes name after q m
word_first minus Int bytes after h m = integer_first minus bytes after h m.0
word_first minus LParen bytes after h m = sign_first minus LParen bytes (codes "(") after h refl
word_first minus RParen bytes after h m = sign_first minus RParen bytes (codes ")") after h refl
word_first minus Comma bytes after h m = sign_first minus Comma bytes (codes ",") after h refl
word_first minus Dot bytes after h m = sign_first minus Dot bytes (codes ".") after h refl
word_first minus Arrow bytes after h m = sign_first minus Arrow bytes (codes ":-") after h refl
word_first minus Link bytes after h m = link_first minus bytes after h m
word_first minus Context bytes after h m = context_first minus bytes after h m
word_first minus RuleCtx bytes after h m = rule_context_first minus bytes after h m
word_first minus LBracket bytes after h m = sign_first minus LBracket bytes (codes "[") after h (bracket_first minus after m)
word_first minus RBracket bytes after h m = sign_first minus RBracket bytes (codes "]") after h refl
word_first minus LBrace bytes after h m = sign_first minus LBrace bytes (codes "{") after h refl
word_first minus RBrace bytes after h m = sign_first minus RBrace bytes (codes "}") after h refl
word_first minus Bar bytes after h m = sign_first minus Bar bytes (codes "|") after h refl
word_first minus Equal bytes after h m = sign_first minus Equal bytes (codes "=") after h (equal_first minus after m)
word_first minus Less bytes after h m = sign_first minus Less bytes (codes "<") after h refl
word_first minus LessEq bytes after h m = sign_first minus LessEq bytes (codes "=<") after h refl
word_first minus Greater bytes after h m = sign_first minus Greater bytes (codes ">") after h (greater_first minus after m)
word_first minus GreaterEq bytes after h m = sign_first minus GreaterEq bytes (codes ">=") after h refl
word_first minus NumEq bytes after h m = sign_first minus NumEq bytes (codes "=:=") after h refl
word_first minus NumNe bytes after h m = sign_first minus NumNe bytes (codes "=\\=") after h refl
word_first minus Differ bytes after h m = sign_first minus Differ bytes (codes "\\=") after h refl
word_first minus Plus bytes after h m = sign_first minus Plus bytes (codes "+") after h refl
word_first minus Minus bytes after h m = sign_first minus Minus bytes (codes "-") after h (minus_first minus after m)
word_first minus Star bytes after h m = sign_first minus Star bytes (codes "*") after h refl
word_first minus Slash bytes after h m = sign_first minus Slash bytes (codes "/") after h (slash_first minus after m)
word_first minus _ bytes after h m = absurd m
