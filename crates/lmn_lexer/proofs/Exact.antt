-- What stands at the front of a text is found.
use Rattle.std.proofs.Common.{◌≡◌, ℕ, ◌+◌, ◌<◌, ◌≤◌, ◌==◌, Bool, true, false, ◌&&◌, if◌then◌else◌, List, [], ◌∷◌, ◌++◌, length, take, drop, suc, Option, Some, None, inl, inr, refl, sym, ap, ◌∙◌, subst, arith}
use Rattle.std.specs.Prelude.{codes}
use Rattle.std.specs.List.{prefix_len}
use Rattle.std.specs.Char.{is_ascii_whitespace, is_ascii_lowercase, is_ascii_digit}
use Rattle.std.proofs.lemmas.Bool.Decides.{nat_tests}
use Rattle.std.proofs.lemmas.List.{append_assoc, length-append}
use Rattle.lmn_lexer.specs.declared.token.Kind.{Kind}
use Rattle.lmn_lexer.specs.declared.token.Kind.TheVariants.{Name, Quoted, Mod, Link, Int, Context, RuleCtx, End, LParen, RParen, LBracket, RBracket, LBrace, RBrace, Comma, Dot, Arrow, AtAt, Bar, Backslash, Equal, Less, LessEq, Greater, GreaterEq, NumEq, NumNe, Differ, Plus, Minus, Star, Slash}
use Rattle.lmn_lexer.specs.declared.piece.Piece.{Piece}
use Rattle.lmn_lexer.specs.declared.piece.Piece.TheVariants as piece
use Rattle.lmn_lexer.specs.Spelling.{goes_on, begins_link, begins_context, is_quotable, AllPass, IsSpelledWith, IsWord, IsDigits, Quotes, nothing, quote, byte, Spells}
use Rattle.lmn_lexer.specs.Scanning.{follows, first_passes, word_bytes, digit_bytes, close_at, word_kind, lowercase_at, slash_at, quoted_behind, equal_at, bracket_at, sign_piece, piece_of}
use Rattle.lmn_lexer.proofs.Runs.{if_case, run_at_least}
use Rattle.lmn_lexer.proofs.ScanLemmas.{quoted_steps, quoted_byte_next}
use Rattle.lmn_lexer.proofs.Found.{found, context_goes_on}
use Rattle.lmn_base.specs.Lists.{Begins}
use Rattle.lmn_base.proofs.Numbers.{equal_when}

-- words and numbers by their first byte

-- a small letter begins a name
pub lower_piece : (minus : Bool) (b : ℕ) (bs : List ℕ) → is_ascii_lowercase b ≡ true → piece_of minus (b ∷ bs) ≡ lowercase_at (b ∷ bs)
lower_piece minus b bs h =
    let space : is_ascii_whitespace b ≡ false = grind (arith, nat_tests) in
    ap (λ t. if t then piece.Gap 1 else (if is_ascii_lowercase b then lowercase_at (b ∷ bs)
    else (if begins_link b then piece.Token Link (1 + word_bytes bs) else (if is_ascii_digit b then piece.Token Int (1 + digit_bytes bs) else sign_piece minus b bs)))) space
    ∙ ap (λ t. if t then lowercase_at (b ∷ bs)
    else (if begins_link b then piece.Token Link (1 + word_bytes bs) else (if is_ascii_digit b then piece.Token Int (1 + digit_bytes bs) else sign_piece minus b bs))) h

-- a capital letter or `_` begins a link, up to the end of the word
pub link_piece : (minus : Bool) (b : ℕ) (bs : List ℕ) → begins_link b ≡ true → piece_of minus (b ∷ bs) ≡ piece.Token Link (1 + word_bytes bs)
link_piece minus b bs h =
    let space : is_ascii_whitespace b ≡ false = grind (arith, nat_tests) in
    let low : is_ascii_lowercase b ≡ false = grind (arith, nat_tests) in
    ap (λ t. if t then piece.Gap 1 else (if is_ascii_lowercase b then lowercase_at (b ∷ bs)
    else (if begins_link b then piece.Token Link (1 + word_bytes bs) else (if is_ascii_digit b then piece.Token Int (1 + digit_bytes bs) else sign_piece minus b bs)))) space
    ∙ ap (λ t. if t then lowercase_at (b ∷ bs)
    else (if begins_link b then piece.Token Link (1 + word_bytes bs) else (if is_ascii_digit b then piece.Token Int (1 + digit_bytes bs) else sign_piece minus b bs))) low
    ∙ ap (λ t. if t then piece.Token Link (1 + word_bytes bs) else (if is_ascii_digit b then piece.Token Int (1 + digit_bytes bs) else sign_piece minus b bs)) h

-- a digit begins an integer, up to the last digit
pub digit_piece : (minus : Bool) (b : ℕ) (bs : List ℕ) → is_ascii_digit b ≡ true → piece_of minus (b ∷ bs) ≡ piece.Token Int (1 + digit_bytes bs)
digit_piece minus b bs h =
    let space : is_ascii_whitespace b ≡ false = grind (arith, nat_tests) in
    let low : is_ascii_lowercase b ≡ false = grind (arith, nat_tests) in
    let link : begins_link b ≡ false = grind (arith, nat_tests) in
    ap (λ t. if t then piece.Gap 1 else (if is_ascii_lowercase b then lowercase_at (b ∷ bs)
    else (if begins_link b then piece.Token Link (1 + word_bytes bs) else (if is_ascii_digit b then piece.Token Int (1 + digit_bytes bs) else sign_piece minus b bs)))) space
    ∙ ap (λ t. if t then lowercase_at (b ∷ bs)
    else (if begins_link b then piece.Token Link (1 + word_bytes bs) else (if is_ascii_digit b then piece.Token Int (1 + digit_bytes bs) else sign_piece minus b bs))) low
    ∙ ap (λ t. if t then piece.Token Link (1 + word_bytes bs) else (if is_ascii_digit b then piece.Token Int (1 + digit_bytes bs) else sign_piece minus b bs)) link
    ∙ ap (λ t. if t then piece.Token Int (1 + digit_bytes bs) else sign_piece minus b bs) h

-- no longer token is spelled

-- what keeps bytes that spell a kind from being a token
pub record IsFree (kind : Kind) (after text : List ℕ) : Type 0 where
  pub closed : kind ≡ Quoted → ¬ (Begins (codes "'") after)
  pub no_line_comment : ¬ (Begins (codes "//") text)
  pub no_block_comment : ¬ (Begins (codes "/*") text)
  pub no_inline_code : ¬ (Begins (codes "[:") text)

-- A token of at least n bytes is found; a gap or a fault only where the bytes aren't free.
abbrev pub Covers : ℕ → Type 0 → Piece → Type 0
Covers n Free (piece.Token kind m) = n ≤ m
Covers n Free (piece.Gap m) = ¬ Free
Covers n Free (piece.Wrong code m) = ¬ Free × (code ≡ 2 → m ≡ 0 → ⊥)

abbrev Covered : Bool → Kind → List ℕ → List ℕ → Type 0
Covered minus kind bytes after = Covers (length bytes) (IsFree kind after (bytes ++ after)) (piece_of minus (bytes ++ after))

word_covered : (minus : Bool) (kind : Kind) (b : ℕ) (bs after : List ℕ) (found : Kind) (test : ℕ → Bool) → AllPass test bs
    → piece_of minus (b ∷ (bs ++ after)) ≡ piece.Token found (1 + prefix_len test (bs ++ after)) → Covered minus kind (b ∷ bs) after
word_covered minus kind b bs after found test h e =
    let P : Piece → Type 0 = Covers (length (b ∷ bs)) (IsFree kind after (b ∷ (bs ++ after))) in
    let more = run_at_least test bs after h in
    subst P (sym e) (omega arith)

literal : (minus : Bool) (kind : Kind) (bytes sign after : List ℕ) → bytes ≡ sign → Covered minus kind sign after → Covered minus kind bytes after
literal minus kind bytes sign after e h = let P : List ℕ → Type 0 = λ x. Covered minus kind x after in subst P (sym e) h

two_cases : (n : ℕ) (Free : Type 0) (t : Bool) (one two : Kind) (k m : ℕ) → n ≤ k → n ≤ m → Covers n Free (if t then piece.Token two m else piece.Token one k)
two_cases n Free t one two k m h g = if_case (Covers n Free) t (piece.Token two m) (piece.Token one k) (λ e. g) (λ e. h)

begins_of : (b : ℕ) (bs : List ℕ) → follows b bs ≡ true → Begins (b ∷ []) bs
begins_of b [] h = absurd (let e = h in cc)
begins_of b (c ∷ cs) h = (cs, ap (λ x. x ∷ cs) (equal_when c b h))

block_covers : (n : ℕ) (Free : Type 0) (o : Option ℕ) → ¬ Free → Covers n Free (elim o [ None ↦ piece.Wrong 3 0 | Some m ↦ piece.Gap (m + 4) ])
block_covers n Free None h = (h, λ e z. omega arith)
block_covers n Free (Some m) h = h

slash_covers : (after : List ℕ) → Covers 1 (IsFree Slash after (47 ∷ after)) (slash_at after)
slash_covers after =
    let P : Piece → Type 0 = Covers 1 (IsFree Slash after (47 ∷ after)) in
    if_case P (follows 47 after) _ _
    (λ e f. let b = begins_of 47 after e in f.no_line_comment (b.0, ap (λ x. 47 ∷ x) b.1))
    (λ e1. if_case P (follows 42 after) _ _
    (λ e. let b = begins_of 42 after e in block_covers 1 (IsFree Slash after (47 ∷ after)) (close_at (drop 1 after)) (λ f. f.no_block_comment (b.0, ap (λ x. 47 ∷ x) b.1)))
    (λ e2. omega arith))

bracket_covers : (after : List ℕ) → Covers 1 (IsFree LBracket after (91 ∷ after)) (bracket_at after)
bracket_covers after =
    if_case (Covers 1 (IsFree LBracket after (91 ∷ after))) (follows 58 after) _ _
    (λ e. (λ f. let b = begins_of 58 after e in f.no_inline_code (b.0, ap (λ x. 91 ∷ x) b.1), λ c z. omega arith))
    (λ e. omega arith)

equal_covers : (Free : Type 0) (after : List ℕ) → Covers 1 Free (equal_at after)
equal_covers Free after =
    let P : Piece → Type 0 = Covers 1 Free in
    if_case P (follows 60 after) _ _ (λ e. omega arith) (λ e1.
    if_case P (follows 58 after && follows 61 (drop 1 after)) _ _ (λ e. omega arith) (λ e2.
    if_case P (follows 92 after && follows 61 (drop 1 after)) _ _ (λ e. omega arith) (λ e3. omega arith)))

-- a name in quotes of which n bytes are read has more, or a fault behind its first byte
abbrev Quotish : ℕ → Type 0 → Piece → Type 0
Quotish n Free (piece.Token kind m) = n < m
Quotish n Free (piece.Gap m) = ⊥
Quotish n Free (piece.Wrong code m) = ¬ Free × (code ≡ 2 → m ≡ 0 → ⊥)

quotish : (n m : ℕ) (Free : Type 0) (p : Piece) → n ≤ m → Quotish m Free p → Quotish n Free p
quotish n m Free (piece.Token kind k) l h = omega arith
quotish n m Free (piece.Gap k) l h = h
quotish n m Free (piece.Wrong code k) l h = h

quoted_on : (n : ℕ) (Free : Type 0) (rest : List ℕ) → 0 < n → ¬ Free → Quotish n Free (quoted_behind n rest)
quoted_on n Free [] s f = (f, λ c z. omega arith)
quoted_on n Free (b ∷ []) s f =
    let P : Piece → Type 0 = Quotish n Free in
    if_case P (b == 39) _ _ (λ e. omega arith) (λ x.
    if_case P (b == 10) _ _ (λ e. (f, λ c z. omega arith)) (λ y.
    if_case P (is_quotable b) _ _ (λ e. (f, λ c z. omega arith)) (λ z. (f, λ c z. omega arith))))
quoted_on n Free (b ∷ c ∷ cs) s f =
    let P : Piece → Type 0 = Quotish n Free in
    if_case P (b == 39) _ _
    (λ e. if_case P (c == 39) _ _ (λ g. quotish n (n + 2) Free (quoted_behind (n + 2) cs) (omega arith) (quoted_on (n + 2) Free cs (omega arith) f)) (λ g. omega arith))
    (λ x. if_case P (b == 10) _ _ (λ e. (f, λ c z. omega arith)) (λ y.
    if_case P (is_quotable b) _ _ (λ e. quotish n (n + 1) Free (quoted_behind (n + 1) (c ∷ cs)) (omega arith) (quoted_on (n + 1) Free (c ∷ cs) (omega arith) f)) (λ z. (f, λ c z. omega arith))))

covers_less : (n m : ℕ) (Free : Type 0) (p : Piece) → n ≤ m → Covers m Free p → Covers n Free p
covers_less n m Free (piece.Token kind k) l h = omega arith
covers_less n m Free (piece.Gap k) l h = h
covers_less n m Free (piece.Wrong code k) l h = h

quotish_covers : (n m : ℕ) (Free : Type 0) (p : Piece) → n ≤ m + 1 → Quotish m Free p → Covers n Free p
quotish_covers n m Free (piece.Token kind k) l h = omega arith
quotish_covers n m Free (piece.Gap k) l h = absurd h
quotish_covers n m Free (piece.Wrong code k) l h = h

-- a byte that may stand in quotes is no quote and no line feed
pub quote_not_line : (b : ℕ) → is_quotable b ≡ true → ((b == 39) ≡ false) × ((b == 10) ≡ false)
quote_not_line b h = (grind (arith, nat_tests), grind (arith, nat_tests))

quoted_covers : {inside name : List ℕ} → Quotes inside name → (n : ℕ) (Free : Type 0) (after : List ℕ) → (Begins (codes "'") after → ¬ Free) → 0 < n
    → Covers (n + length inside + 1) Free (quoted_behind n (inside ++ 39 ∷ after))
quoted_covers nothing n Free [] f s = omega arith
quoted_covers nothing n Free (c ∷ cs) f s =
    if_case (Covers (n + 0 + 1) Free) (c == 39) (quoted_behind (n + 2) cs) (piece.Token Quoted (n + 1))
    (λ e. quotish_covers (n + 0 + 1) (n + 2) Free (quoted_behind (n + 2) cs) (omega arith) (quoted_on (n + 2) Free cs (omega arith) (f (cs, ap (λ x. x ∷ cs) (equal_when c 39 e)))))
    (λ e. omega arith)
quoted_covers (quote {bs = bs} {name = name} h) n Free after f s =
    covers_less (n + suc (suc (length bs)) + 1) (n + 2 + length bs + 1) Free (quoted_behind (n + 2) (bs ++ 39 ∷ after)) (omega arith) (quoted_covers h (n + 2) Free after f (omega arith))
quoted_covers (byte {b = b} {bs = bs} {name = name} e h) n Free after f s =
    let P : Piece → Type 0 = Covers (n + suc (length bs) + 1) Free in
    let not_line = quote_not_line b e in
    let next = quoted_steps n b (bs ++ 39 ∷ after) ∙ quoted_byte_next n b (bs ++ 39 ∷ after) not_line.0 not_line.1 e in
    subst P (sym next) (covers_less (n + suc (length bs) + 1) (n + 1 + length bs + 1) Free (quoted_behind (n + 1) (bs ++ 39 ∷ after)) (omega arith) (quoted_covers h (n + 1) Free after f (omega arith)))

quoted_covered : (minus : Bool) (inside name after : List ℕ) → Quotes inside name → Covered minus Quoted (39 ∷ (inside ++ 39 ∷ [])) after
quoted_covered minus inside name after q =
    let Free = IsFree Quoted after (39 ∷ ((inside ++ 39 ∷ []) ++ after)) in
    let P : List ℕ → Type 0 = λ x. Covers (1 + length inside + 1) Free (quoted_behind 1 x) in
    let size = length-append inside (39 ∷ []) in
    covers_less (length (39 ∷ (inside ++ 39 ∷ []))) (1 + length inside + 1) Free (quoted_behind 1 ((inside ++ 39 ∷ []) ++ after)) (omega arith)
    (subst P (sym (append_assoc inside (39 ∷ []) after)) (quoted_covers q 1 Free after (λ b f. f.closed refl b) (omega arith)))

-- a word behind a sign
sign_covered : (minus : Bool) (kind : Kind) (sign : ℕ) (first more : ℕ → Bool) (bs after : List ℕ) (found : Kind) (wrong : Piece) → ((b : ℕ) → first b ≡ true → more b ≡ true)
    → IsSpelledWith first more bs → piece_of minus (sign ∷ (bs ++ after)) ≡ (if first_passes first (bs ++ after) then piece.Token found (1 + prefix_len more (bs ++ after)) else wrong)
    → Covered minus kind (sign ∷ bs) after
sign_covered minus kind sign first more [] after found wrong sub h e = absurd h
sign_covered minus kind sign first more (b ∷ bs) after found wrong sub h e =
    let P : Piece → Type 0 = Covers (length (sign ∷ b ∷ bs)) (IsFree kind after (sign ∷ b ∷ (bs ++ after))) in
    let long = run_at_least more (b ∷ bs) after (sub b h.0, h.1) in
    subst P (sym (e ∙ ap (λ t. if t then piece.Token found (1 + prefix_len more (b ∷ (bs ++ after))) else wrong) h.0)) (omega arith)

-- a byte that begins the name of a context is no `@`
pub context_not_at : (b : ℕ) → begins_context b ≡ true → (b == 64) ≡ false
context_not_at b h = grind (arith, nat_tests)

rule_context_covered : (minus : Bool) (bs after : List ℕ) → IsWord begins_context bs → Covered minus RuleCtx (64 ∷ bs) after
rule_context_covered minus [] after h = absurd h
rule_context_covered minus (b ∷ bs) after h =
    sign_covered minus RuleCtx 64 begins_context goes_on (b ∷ bs) after RuleCtx (piece.Wrong 2 0) context_goes_on h
    (ap (λ t. if t then piece.Token AtAt 2 else (if first_passes begins_context (b ∷ (bs ++ after)) then piece.Token RuleCtx (1 + word_bytes (b ∷ (bs ++ after))) else piece.Wrong 2 0)) (context_not_at b h.0))

minus_covered : (minus : Bool) (bs after : List ℕ) → minus ≡ true → IsDigits bs → Covered minus Int (45 ∷ bs) after
minus_covered minus bs after m h =
    sign_covered minus Int 45 is_ascii_digit is_ascii_digit bs after Int (piece.Token Minus 1) (λ b e. e) h
    (ap (λ t. if t && first_passes is_ascii_digit (bs ++ after) then piece.Token Int (1 + digit_bytes (bs ++ after)) else piece.Token Minus 1) m)

covered_word : (minus : Bool) (kind : Kind) (bytes after : List ℕ) (first : ℕ → Bool)
    → ((b : ℕ) (bs : List ℕ) → first b ≡ true → (found : Kind) × (piece_of minus (b ∷ bs) ≡ piece.Token found (1 + word_bytes bs))) → IsWord first bytes → Covered minus kind bytes after
covered_word minus kind [] after first make h = absurd h
covered_word minus kind (b ∷ bs) after first make h =
    let made = make b (bs ++ after) h.0 in
    word_covered minus kind b bs after made.0 goes_on h.1 made.1

covered_digits : (minus : Bool) (bytes after : List ℕ) → IsDigits bytes → Covered minus Int bytes after
covered_digits minus [] after h = absurd h
covered_digits minus (b ∷ bs) after h = word_covered minus Int b bs after Int is_ascii_digit h.1 (digit_piece minus b (bs ++ after) h.0)

covered_integer : (minus : Bool) (bytes after : List ℕ) → Spells minus Int bytes → Covered minus Int bytes after
covered_integer minus [] after h = absurd h
covered_integer minus (b ∷ bs) after (inl h) = covered_digits minus (b ∷ bs) after h
covered_integer minus (b ∷ bs) after (inr (m, e, h)) = literal minus Int (b ∷ bs) (45 ∷ bs) after (ap (λ x. x ∷ bs) e) (minus_covered minus bs after m h)

covered_context : (minus : Bool) (bytes after : List ℕ) → Spells minus Context bytes → Covered minus Context bytes after
covered_context minus [] after h = absurd h
covered_context minus (b ∷ bs) after (e, h) =
    literal minus Context (b ∷ bs) (36 ∷ bs) after (ap (λ x. x ∷ bs) e) (sign_covered minus Context 36 begins_context goes_on bs after Context (piece.Wrong 2 0) context_goes_on h refl)

covered_rule_context : (minus : Bool) (bytes after : List ℕ) → Spells minus RuleCtx bytes → Covered minus RuleCtx bytes after
covered_rule_context minus [] after h = absurd h
covered_rule_context minus (b ∷ bs) after (e, h) = literal minus RuleCtx (b ∷ bs) (64 ∷ bs) after (ap (λ x. x ∷ bs) e) (rule_context_covered minus bs after h)

-- the bytes of each kind of token are found as that token
pub covered : (minus : Bool) (kind : Kind) (bytes after : List ℕ) → Spells minus kind bytes → Covered minus kind bytes after
covered minus Name bytes after h = covered_word minus Name bytes after is_ascii_lowercase (λ b bs e. (word_kind (take (1 + word_bytes bs) (b ∷ bs)), lower_piece minus b bs e)) h.0
covered minus Quoted bytes after (name, q) = literal minus Quoted bytes (39 ∷ (q.inside ++ 39 ∷ [])) after q.stands (quoted_covered minus q.inside name after q.quotes)
covered minus Mod bytes after h = literal minus Mod bytes (codes "mod") after h (covered_word minus Mod (codes "mod") after is_ascii_lowercase (λ b bs e. (word_kind (take (1 + word_bytes bs) (b ∷ bs)), lower_piece minus b bs e)) (refl, (refl, (refl, tt))))
covered minus Link bytes after h = covered_word minus Link bytes after begins_link (λ b bs e. (Link, link_piece minus b bs e)) h
covered minus Int bytes after h = covered_integer minus bytes after h
covered minus Context bytes after h = covered_context minus bytes after h
covered minus RuleCtx bytes after h = covered_rule_context minus bytes after h
covered minus End bytes after h = absurd h
covered minus LParen bytes after h = literal minus LParen bytes (codes "(") after h (omega arith)
covered minus RParen bytes after h = literal minus RParen bytes (codes ")") after h (omega arith)
covered minus LBracket bytes after h = literal minus LBracket bytes (codes "[") after h (bracket_covers after)
covered minus RBracket bytes after h = literal minus RBracket bytes (codes "]") after h (omega arith)
covered minus LBrace bytes after h = literal minus LBrace bytes (codes "{") after h (omega arith)
covered minus RBrace bytes after h = literal minus RBrace bytes (codes "}") after h (omega arith)
covered minus Comma bytes after h = literal minus Comma bytes (codes ",") after h (omega arith)
covered minus Dot bytes after h = literal minus Dot bytes (codes ".") after h (omega arith)
covered minus Arrow bytes after h = literal minus Arrow bytes (codes ":-") after h (omega arith)
covered minus AtAt bytes after h = literal minus AtAt bytes (codes "@@") after h (omega arith)
covered minus Bar bytes after h = literal minus Bar bytes (codes "|") after h (omega arith)
covered minus Backslash bytes after h = literal minus Backslash bytes (codes "\\") after h (two_cases 1 (IsFree Backslash after (92 ∷ after)) (follows 61 after) Backslash Differ 1 2 (omega arith) (omega arith))
covered minus Equal bytes after h = literal minus Equal bytes (codes "=") after h (equal_covers (IsFree Equal after (61 ∷ after)) after)
covered minus Less bytes after h = literal minus Less bytes (codes "<") after h (omega arith)
covered minus LessEq bytes after h = literal minus LessEq bytes (codes "=<") after h (omega arith)
covered minus Greater bytes after h = literal minus Greater bytes (codes ">") after h (two_cases 1 (IsFree Greater after (62 ∷ after)) (follows 61 after) Greater GreaterEq 1 2 (omega arith) (omega arith))
covered minus GreaterEq bytes after h = literal minus GreaterEq bytes (codes ">=") after h (omega arith)
covered minus NumEq bytes after h = literal minus NumEq bytes (codes "=:=") after h (omega arith)
covered minus NumNe bytes after h = literal minus NumNe bytes (codes "=\\=") after h (omega arith)
covered minus Differ bytes after h = literal minus Differ bytes (codes "\\=") after h (omega arith)
covered minus Plus bytes after h = literal minus Plus bytes (codes "+") after h (omega arith)
covered minus Minus bytes after h = literal minus Minus bytes (codes "-") after h (two_cases 1 (IsFree Minus after (45 ∷ after)) (minus && first_passes is_ascii_digit after) Minus Int 1 (1 + digit_bytes after) (omega arith) (omega arith))
covered minus Star bytes after h = literal minus Star bytes (codes "*") after h (omega arith)
covered minus Slash bytes after h = literal minus Slash bytes (codes "/") after h (slash_covers after)
