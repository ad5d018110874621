-- What is found at the front of a text is there.
use Rattle.std.proofs.Common.{◌≡◌, ◌≢◌, ℕ, ◌+◌, ◌<◌, ◌≤◌, ◌==◌, Bool, true, false, cond, not, ◌&&◌, if◌then◌else◌, List, [], ◌∷◌, ◌++◌, length, take, drop, suc, Option, Some, None, ◌⊎◌, inl, inr, refl, sym, ap, ◌∙◌, subst, arith, bytes_eq}
use Rattle.std.specs.Prelude.{codes}
use Rattle.std.specs.List.{prefix_len}
use Rattle.std.specs.Char.{is_ascii_whitespace, is_ascii_lowercase, is_ascii_digit}
use Rattle.std.proofs.lemmas.Bool.Decides.{nat_tests}
use Rattle.std.proofs.lemmas.List.{take-append-drop, take_at, drop_at, append_assoc, length-append, length-take-le}
use Rattle.std.proofs.lemmas.Slice.Eq.{bytes_eq-Decides}
use Rattle.std.proofs.lemmas.List.Sums.{prefix_len-le-length}
use Rattle.lmn_lexer.specs.declared.token.Kind.{Kind}
use Rattle.lmn_lexer.specs.declared.token.Kind.TheVariants.{Name, Quoted, Mod, Link, Int, Context, RuleCtx, LParen, RParen, RBracket, LBrace, RBrace, Comma, Dot, Arrow, AtAt, Bar, Backslash, Equal, Less, LessEq, Greater, GreaterEq, NumEq, NumNe, Differ, Plus, Minus, Star}
use Rattle.lmn_lexer.specs.declared.piece.Piece.{Piece}
use Rattle.lmn_lexer.specs.declared.piece.Piece.TheVariants as piece
use Rattle.lmn_lexer.specs.Spelling.{goes_on, begins_link, begins_context, is_quotable, IsSpelledWith, Quotes, nothing, quote, byte, Spells}
use Rattle.lmn_lexer.specs.Gaps.{Gap, separator, percent, slashes, block, OccursIn, EndsLine, NoLineFeed}
use Rattle.lmn_lexer.specs.Faults.{Wrong, bad_quoted_byte, open_quote, open_comment, string, inline_code, hyperlink}
use Rattle.lmn_lexer.specs.Scanning.{follows, first_passes, word_bytes, digit_bytes, line_bytes, later, close_at, lowercase_at, context_at, at_sign_at, minus_at, block_at, slash_at, quoted_behind, equal_at, colon_at, bracket_at, greater_at, backslash_at, sign_at, sign_piece, piece_of}
use Rattle.lmn_lexer.proofs.Runs.{if_case, run_is}
use Rattle.lmn_lexer.specs.Laying.{NoneStandsFirst}
use Rattle.lmn_base.specs.Lists.{Begins}
use Rattle.lmn_base.proofs.Numbers.{equal_when, unequal_when}
use Rattle.lmn_base.proofs.Truth.{and_false, and_true as both_true}
use Rattle.lmn_base.proofs.Lists.{head_is, tail_is}

-- a byte that begins the name of a context may go on in it
pub context_goes_on : (b : ℕ) → begins_context b ≡ true → goes_on b ≡ true
context_goes_on b h = grind (arith, nat_tests)

-- a token of n bytes stands at the front
pub record Stands (minus : Bool) (kind : Kind) (text : List ℕ) (n : ℕ) : Type 0 where
  pub some : 0 < n
  pub within : n ≤ length text
  pub spells : Spells minus kind (take n text)
  pub closed : kind ≡ Quoted → ¬ (Begins (codes "'") (drop n text))
  pub no_line_comment : ¬ (Begins (codes "//") text)
  pub no_block_comment : ¬ (Begins (codes "/*") text)
  pub no_inline_code : ¬ (Begins (codes "[:") text)

-- a gap of so many bytes stands at the front
pub record IsGap (text : List ℕ) (n : ℕ) : Type 0 where
  pub some : 0 < n
  pub within : n ≤ length text
  pub gap : Gap (take n text) (drop n text)

-- a first byte that begins neither a separator nor `%`, a name in quotes, a string or a hyperlink
pub record IsBadFirst (b code n : ℕ) : Type 0 where
  pub not_space : is_ascii_whitespace b ≡ false
  pub not_percent : b ≢ 37
  pub not_string : b ≢ 34
  pub not_hyperlink : b ≢ 33
  pub not_quote : b ≢ 39
  pub code_is : code ≡ 2
  pub at_first : n ≡ 0

-- something wrong stands at the front
abbrev pub IsWrong : Bool → List ℕ → ℕ → ℕ → Type 0
IsWrong minus [] code n = ⊥
IsWrong minus (b ∷ bs) code n = IsBadFirst b code n ⊎ ((n ≤ length (b ∷ bs)) × Wrong minus (b ∷ bs) code (take n (b ∷ bs)))

-- such a piece stands at the front
abbrev pub IsPiece : Bool → List ℕ → Piece → Type 0
IsPiece minus text (piece.Gap n) = IsGap text n
IsPiece minus text (piece.Token kind n) = Stands minus kind text n
IsPiece minus text (piece.Wrong code n) = IsWrong minus text code n

-- a token that isn't a name in quotes, and doesn't begin with `/` or `[`
plain : (minus : Bool) (kind : Kind) (b : ℕ) (bs : List ℕ) (n : ℕ) → 0 < n → n ≤ length (b ∷ bs) → Spells minus kind (take n (b ∷ bs))
    → ¬ (kind ≡ Quoted) → ¬ (b ≡ 47) → ¬ (b ≡ 91) → IsPiece minus (b ∷ bs) (piece.Token kind n)
plain minus kind b bs n some within spells q s c = record {
  some = some;
  within = within;
  spells = spells;
  closed = λ e. absurd (q e);
  no_line_comment = λ h. s (head_is h.1);
  no_block_comment = λ h. s (head_is h.1);
  no_inline_code = λ h. c (head_is h.1);
}

follows_is : (b : ℕ) (bs : List ℕ) → follows b bs ≡ true → (rest : List ℕ) × (bs ≡ b ∷ rest)
follows_is b [] h = absurd (let e = h in cc)
follows_is b (c ∷ cs) h = (cs, ap (λ x. x ∷ cs) (equal_when c b h))

not_follows : (b : ℕ) (bs : List ℕ) → follows b bs ≡ false → ¬ (Begins (b ∷ []) bs)
not_follows b [] h k = absurd (let e = k.1 in cc)
not_follows b (c ∷ cs) h k = unequal_when c b h (head_is k.1)

-- what is known of a first byte that begins no separator, word or number, when the signs by themselves are asked
pub record IsOther (b : ℕ) : Type 0 where
  pub not_space : is_ascii_whitespace b ≡ false
  pub not_percent : b ≢ 37
  pub not_quote : b ≢ 39
  pub not_slash : b ≢ 47
  pub not_bracket : b ≢ 91

one_sign : (minus : Bool) (kind : Kind) (b : ℕ) (bs : List ℕ) (sign : ℕ) → IsOther b → (b == sign) ≡ true → Spells minus kind (sign ∷ []) → ¬ (kind ≡ Quoted)
    → IsPiece minus (b ∷ bs) (piece.Token kind 1)
one_sign minus kind b bs sign o e spells q =
    let P : ℕ → Type 0 = λ x. Spells minus kind (x ∷ []) in
    plain minus kind b bs 1 (omega arith) (omega arith) (subst P (sym (equal_when b sign e)) spells) q o.not_slash o.not_bracket

sign_found : (minus : Bool) (b : ℕ) (bs : List ℕ) → IsOther b → IsPiece minus (b ∷ bs) (sign_at b)
sign_found minus b bs o =
    let P : Piece → Type 0 = IsPiece minus (b ∷ bs) in
    if_case P (b == 40) _ _ (λ e. one_sign minus LParen b bs 40 o e refl (λ q. cc)) (λ e1.
    if_case P (b == 41) _ _ (λ e. one_sign minus RParen b bs 41 o e refl (λ q. cc)) (λ e2.
    if_case P (b == 93) _ _ (λ e. one_sign minus RBracket b bs 93 o e refl (λ q. cc)) (λ e3.
    if_case P (b == 123) _ _ (λ e. one_sign minus LBrace b bs 123 o e refl (λ q. cc)) (λ e4.
    if_case P (b == 125) _ _ (λ e. one_sign minus RBrace b bs 125 o e refl (λ q. cc)) (λ e5.
    if_case P (b == 44) _ _ (λ e. one_sign minus Comma b bs 44 o e refl (λ q. cc)) (λ e6.
    if_case P (b == 46) _ _ (λ e. one_sign minus Dot b bs 46 o e refl (λ q. cc)) (λ e7.
    if_case P (b == 124) _ _ (λ e. one_sign minus Bar b bs 124 o e refl (λ q. cc)) (λ e8.
    if_case P (b == 60) _ _ (λ e. one_sign minus Less b bs 60 o e refl (λ q. cc)) (λ e9.
    if_case P (b == 43) _ _ (λ e. one_sign minus Plus b bs 43 o e refl (λ q. cc)) (λ e10.
    if_case P (b == 42) _ _ (λ e. one_sign minus Star b bs 42 o e refl (λ q. cc)) (λ e11.
    if_case P (b == 34) _ _ (λ e. inr (omega arith, string bs (ap (λ x. x ∷ bs) (equal_when b 34 e)))) (λ e12.
    if_case P (b == 33) _ _ (λ e. inr (omega arith, hyperlink bs (ap (λ x. x ∷ bs) (equal_when b 33 e)))) (λ e13.
    inl (record { not_space = o.not_space; not_percent = o.not_percent; not_string = unequal_when b 34 e12; not_hyperlink = unequal_when b 33 e13; not_quote = o.not_quote; code_is = refl; at_first = refl }))))))))))))))

-- a sign of one byte, and one of two or three that begins with it
two_signs : (minus : Bool) (b : ℕ) (one two : Kind) (second : ℕ) (bs : List ℕ) → Spells minus one (b ∷ []) → Spells minus two (b ∷ second ∷ []) → ¬ (one ≡ Quoted) → ¬ (two ≡ Quoted)
    → ¬ (b ≡ 47) → ¬ (b ≡ 91) → IsPiece minus (b ∷ bs) (if follows second bs then piece.Token two 2 else piece.Token one 1)
two_signs minus b one two second bs h k q r s c =
    if_case (IsPiece minus (b ∷ bs)) (follows second bs) _ _
    (λ e. let f = follows_is second bs e in
    let P : List ℕ → Type 0 = λ x. IsPiece minus (b ∷ x) (piece.Token two 2) in
    subst P (sym f.1) (plain minus two b (second ∷ f.0) 2 (omega arith) (omega arith) k r s c))
    (λ e. plain minus one b bs 1 (omega arith) (omega arith) h q s c)

bad_first : (minus : Bool) (b : ℕ) (bs : List ℕ) → is_ascii_whitespace b ≡ false → b ≢ 37 → b ≢ 34 → b ≢ 33 → b ≢ 39 → IsPiece minus (b ∷ bs) (piece.Wrong 2 0)
bad_first minus b bs s p t h q = inl (record { not_space = s; not_percent = p; not_string = t; not_hyperlink = h; not_quote = q; code_is = refl; at_first = refl })

colon_found : (minus : Bool) (bs : List ℕ) → IsPiece minus (58 ∷ bs) (colon_at bs)
colon_found minus bs =
    if_case (IsPiece minus (58 ∷ bs)) (follows 45 bs) _ _
    (λ e. let f = follows_is 45 bs e in
    let P : List ℕ → Type 0 = λ x. IsPiece minus (58 ∷ x) (piece.Token Arrow 2) in
    subst P (sym f.1) (plain minus Arrow 58 (45 ∷ f.0) 2 (omega arith) (omega arith) refl (λ q. cc) (λ q. cc) (λ q. cc)))
    (λ e. bad_first minus 58 bs refl (λ q. cc) (λ q. cc) (λ q. cc) (λ q. cc))

three_signs : (minus : Bool) (b : ℕ) (kind : Kind) (second third : ℕ) (bs : List ℕ) → (follows second bs && follows third (drop 1 bs)) ≡ true
    → Spells minus kind (b ∷ second ∷ third ∷ []) → ¬ (kind ≡ Quoted) → ¬ (b ≡ 47) → ¬ (b ≡ 91) → IsPiece minus (b ∷ bs) (piece.Token kind 3)
three_signs minus b kind second third bs e h q s c =
    let both = both_true (follows second bs) (follows third (drop 1 bs)) e in
    let f = follows_is second bs both.0 in
    let g = follows_is third f.0 (sym (ap (λ x. follows third (drop 1 x)) f.1) ∙ both.1) in
    let P : List ℕ → Type 0 = λ x. IsPiece minus (b ∷ x) (piece.Token kind 3) in
    subst P (sym (f.1 ∙ ap (λ x. second ∷ x) g.1)) (plain minus kind b (second ∷ third ∷ g.0) 3 (omega arith) (omega arith) h q s c)

equal_found : (minus : Bool) (bs : List ℕ) → IsPiece minus (61 ∷ bs) (equal_at bs)
equal_found minus bs =
    let P : Piece → Type 0 = IsPiece minus (61 ∷ bs) in
    if_case P (follows 60 bs) _ _
    (λ e. let f = follows_is 60 bs e in
    let Q : List ℕ → Type 0 = λ x. IsPiece minus (61 ∷ x) (piece.Token LessEq 2) in
    subst Q (sym f.1) (plain minus LessEq 61 (60 ∷ f.0) 2 (omega arith) (omega arith) refl (λ q. cc) (λ q. cc) (λ q. cc)))
    (λ e1.
    if_case P (follows 58 bs && follows 61 (drop 1 bs)) _ _ (λ e. three_signs minus 61 NumEq 58 61 bs e refl (λ q. cc) (λ q. cc) (λ q. cc)) (λ e2.
    if_case P (follows 92 bs && follows 61 (drop 1 bs)) _ _ (λ e. three_signs minus 61 NumNe 92 61 bs e refl (λ q. cc) (λ q. cc) (λ q. cc)) (λ e3.
    plain minus Equal 61 bs 1 (omega arith) (omega arith) refl (λ q. cc) (λ q. cc) (λ q. cc))))

-- words and numbers

-- a token of one byte and a run behind it
behind_first : (minus : Bool) (kind : Kind) (b : ℕ) (bs : List ℕ) (n : ℕ) → n ≤ length bs → Spells minus kind (b ∷ take n bs)
    → ¬ (kind ≡ Quoted) → ¬ (b ≡ 47) → ¬ (b ≡ 91) → IsPiece minus (b ∷ bs) (piece.Token kind (1 + n))
behind_first minus kind b bs n within spells q s c =
    let P : ℕ → Type 0 = λ m. IsPiece minus (b ∷ bs) (piece.Token kind m) in
    let more : suc n ≡ 1 + n = omega arith in
    subst P more (plain minus kind b bs (suc n) (omega arith) (omega arith) spells q s c)

run_front : (first more : ℕ → Bool) → ((b : ℕ) → first b ≡ true → more b ≡ true) → (bs : List ℕ) → first_passes first bs ≡ true → IsSpelledWith first more (take (prefix_len more bs) bs)
run_front first more sub [] e = absurd (let h = e in cc)
run_front first more sub (b ∷ bs) e =
    let P : Bool → Type 0 = λ t. IsSpelledWith first more (take (cond t (1 + prefix_len more bs) 0) (b ∷ bs)) in
    let Q : ℕ → Type 0 = λ n. IsSpelledWith first more (take n (b ∷ bs)) in
    let one : suc (prefix_len more bs) ≡ 1 + prefix_len more bs = omega arith in
    let whole : IsSpelledWith first more (b ∷ take (prefix_len more bs) bs) = (e, (run_is more bs).passes) in
    subst P (sym (sub b e)) (subst Q one whole)

word_found : (minus : Bool) (b : ℕ) (bs : List ℕ) → is_ascii_lowercase b ≡ true → IsPiece minus (b ∷ bs) (lowercase_at (b ∷ bs))
word_found minus b bs low =
    let n = word_bytes bs in
    let within : n ≤ length bs = prefix_len-le-length goes_on bs in
    let not_slash : ¬ (b ≡ 47) = λ e. grind (arith, nat_tests) in
    let not_bracket : ¬ (b ≡ 91) = λ e. grind (arith, nat_tests) in
    let one : suc n ≡ 1 + n = omega arith in
    let bytes : take (1 + n) (b ∷ bs) ≡ b ∷ take n bs = ap (λ m. take m (b ∷ bs)) (sym one) in
    let decides = bytes_eq-Decides (take (1 + n) (b ∷ bs)) (codes "mod") in
    if_case (λ kind. IsPiece minus (b ∷ bs) (piece.Token kind (1 + n))) (bytes_eq (take (1 + n) (b ∷ bs)) (codes "mod")) Mod Name
    (λ e. behind_first minus Mod b bs n within (sym bytes ∙ decides.0 e) (λ q. cc) not_slash not_bracket)
    (λ e. behind_first minus Name b bs n within ((low, (run_is goes_on bs).passes), λ same. absurd (let t = decides.1 (bytes ∙ same) in cc)) (λ q. cc) not_slash not_bracket)

link_found : (minus : Bool) (b : ℕ) (bs : List ℕ) → begins_link b ≡ true → IsPiece minus (b ∷ bs) (piece.Token Link (1 + word_bytes bs))
link_found minus b bs e =
    let not_slash : ¬ (b ≡ 47) = λ q. grind (arith, nat_tests) in
    let not_bracket : ¬ (b ≡ 91) = λ q. grind (arith, nat_tests) in
    behind_first minus Link b bs (word_bytes bs) (prefix_len-le-length goes_on bs) (e, (run_is goes_on bs).passes) (λ q. cc) not_slash not_bracket

int_found : (minus : Bool) (b : ℕ) (bs : List ℕ) → is_ascii_digit b ≡ true → IsPiece minus (b ∷ bs) (piece.Token Int (1 + digit_bytes bs))
int_found minus b bs e =
    let not_slash : ¬ (b ≡ 47) = λ q. grind (arith, nat_tests) in
    let not_bracket : ¬ (b ≡ 91) = λ q. grind (arith, nat_tests) in
    behind_first minus Int b bs (digit_bytes bs) (prefix_len-le-length is_ascii_digit bs) (inl (e, (run_is is_ascii_digit bs).passes)) (λ q. cc) not_slash not_bracket

minus_found : (minus : Bool) (bs : List ℕ) → IsPiece minus (45 ∷ bs) (minus_at minus bs)
minus_found minus bs =
    if_case (IsPiece minus (45 ∷ bs)) (minus && first_passes is_ascii_digit bs) _ _
    (λ e. let both = both_true minus (first_passes is_ascii_digit bs) e in
    behind_first minus Int 45 bs (digit_bytes bs) (prefix_len-le-length is_ascii_digit bs)
    (inr (both.0, refl, run_front is_ascii_digit is_ascii_digit (λ b h. h) bs both.1)) (λ q. cc) (λ q. cc) (λ q. cc))
    (λ e. plain minus Minus 45 bs 1 (omega arith) (omega arith) refl (λ q. cc) (λ q. cc) (λ q. cc))

context_found : (minus : Bool) (bs : List ℕ) → IsPiece minus (36 ∷ bs) (context_at bs)
context_found minus bs =
    if_case (IsPiece minus (36 ∷ bs)) (first_passes begins_context bs) _ _
    (λ e. behind_first minus Context 36 bs (word_bytes bs) (prefix_len-le-length goes_on bs) (refl, run_front begins_context goes_on context_goes_on bs e) (λ q. cc) (λ q. cc) (λ q. cc))
    (λ e. bad_first minus 36 bs refl (λ q. cc) (λ q. cc) (λ q. cc) (λ q. cc))

at_sign_found : (minus : Bool) (bs : List ℕ) → IsPiece minus (64 ∷ bs) (at_sign_at bs)
at_sign_found minus bs =
    if_case (IsPiece minus (64 ∷ bs)) (follows 64 bs) _ _
    (λ e. let f = follows_is 64 bs e in
    let Q : List ℕ → Type 0 = λ x. IsPiece minus (64 ∷ x) (piece.Token AtAt 2) in
    subst Q (sym f.1) (plain minus AtAt 64 (64 ∷ f.0) 2 (omega arith) (omega arith) refl (λ q. cc) (λ q. cc) (λ q. cc)))
    (λ e1. if_case (IsPiece minus (64 ∷ bs)) (first_passes begins_context bs) _ _
    (λ e. behind_first minus RuleCtx 64 bs (word_bytes bs) (prefix_len-le-length goes_on bs) (refl, run_front begins_context goes_on context_goes_on bs e) (λ q. cc) (λ q. cc) (λ q. cc))
    (λ e. bad_first minus 64 bs refl (λ q. cc) (λ q. cc) (λ q. cc) (λ q. cc)))

greater_found : (minus : Bool) (bs : List ℕ) → IsPiece minus (62 ∷ bs) (greater_at bs)
greater_found minus bs = two_signs minus 62 Greater GreaterEq 61 bs refl refl (λ q. cc) (λ q. cc) (λ q. cc) (λ q. cc)

backslash_found : (minus : Bool) (bs : List ℕ) → IsPiece minus (92 ∷ bs) (backslash_at bs)
backslash_found minus bs = two_signs minus 92 Backslash Differ 61 bs refl refl (λ q. cc) (λ q. cc) (λ q. omega arith) (λ q. omega arith)

bracket_found : (minus : Bool) (bs : List ℕ) → IsPiece minus (91 ∷ bs) (bracket_at bs)
bracket_found minus bs =
    if_case (IsPiece minus (91 ∷ bs)) (follows 58 bs) _ _
    (λ e. let f = follows_is 58 bs e in inr (omega arith, inline_code f.0 (ap (λ x. 91 ∷ x) f.1)))
    (λ e. record {
      some = omega arith;
      within = omega arith;
      spells = refl;
      closed = λ q. cc;
      no_line_comment = λ h. absurd (let g = h.1 in cc);
      no_block_comment = λ h. absurd (let g = h.1 in cc);
      no_inline_code = λ h. not_follows 58 bs e (h.0, tail_is h.1);
    })

-- comments

not_line_feed : (b : ℕ) → not (b == 10) ≡ false → b ≡ 10
not_line_feed b h = grind (arith, nat_tests)

ends_line : (after : List ℕ) → NoneStandsFirst (λ b. not (b == 10)) after → EndsLine after
ends_line [] h = tt
ends_line (b ∷ bs) h = not_line_feed b h

-- bytes and what is behind them
gap_of : (minus : Bool) (text bytes after : List ℕ) (n : ℕ) → text ≡ bytes ++ after → length bytes ≡ n → 0 < n → Gap bytes after → IsPiece minus text (piece.Gap n)
gap_of minus text bytes after n e l some g =
    let P : List ℕ → Type 0 = λ x. Gap x (drop n text) in
    let Q : List ℕ → Type 0 = λ x. Gap bytes x in
    let front : take n text ≡ bytes = ap (take n) e ∙ take_at bytes after n l in
    let back : drop n text ≡ after = ap (drop n) e ∙ drop_at bytes after n l in
    let size : length text ≡ length bytes + length after = ap length e ∙ length-append bytes after in
    record { some = some; within = omega arith; gap = subst P (sym front) (subst Q (sym back) g) }

line_found : (minus : Bool) (sign bs : List ℕ) → ((line after : List ℕ) → NoLineFeed line → EndsLine after → Gap (sign ++ line) after) → 0 < length sign
    → IsPiece minus (sign ++ bs) (piece.Gap (length sign + line_bytes bs))
line_found minus sign bs make some =
    let run = run_is (λ b. not (b == 10)) bs in
    let n = line_bytes bs in
    let within : n ≤ length bs = prefix_len-le-length (λ b. not (b == 10)) bs in
    gap_of minus (sign ++ bs) (sign ++ take n bs) (drop n bs) (length sign + n)
    (ap (λ x. sign ++ x) (sym (take-append-drop n bs)) ∙ sym (append_assoc sign (take n bs) (drop n bs)))
    (length-append sign (take n bs) ∙ ap (λ m. length sign + m) (length-take-le n bs within)) (omega arith)
    (make (take n bs) (drop n bs) run.passes (ends_line (drop n bs) run.stops))

nothing_holds : ¬ (OccursIn (codes "*/") [])
nothing_holds ([], after, h) = absurd (cc)
nothing_holds (b ∷ before, after, h) = absurd (cc)

one_byte : ¬ (OccursIn (codes "*/") (codes "*"))
one_byte ([], after, h) = absurd (let t = tail_is h in cc)
one_byte (b ∷ [], after, h) = absurd (let t = tail_is h in cc)
one_byte (b ∷ c ∷ before, after, h) = absurd (let t = tail_is h in cc)

-- the first `*/` of a text
pub record Closes (text : List ℕ) (n : ℕ) : Type 0 where
  pub inside : List ℕ
  pub after : List ℕ
  pub stands : text ≡ inside ++ (codes "*/" ++ after)
  pub place : length inside ≡ n
  pub first : ¬ (OccursIn (codes "*/") (inside ++ codes "*"))

-- the end of a comment stands there, or nowhere
abbrev pub IsClose : List ℕ → Option ℕ → Type 0
IsClose text None = ¬ (OccursIn (codes "*/") text)
IsClose text (Some n) = Closes text n

holds_not : (b : ℕ) (bs : List ℕ) → ((b == 42) && follows 47 bs) ≡ false → ¬ (OccursIn (codes "*/") bs) → ¬ (OccursIn (codes "*/") (b ∷ bs))
holds_not b bs e none ([], after, h) = absurd (close_clash b bs after e h)
  where
    close_clash : (b : ℕ) (bs after : List ℕ) → ((b == 42) && follows 47 bs) ≡ false → b ∷ bs ≡ 42 ∷ 47 ∷ after → ⊥
    close_clash b bs after e h =
        let P : ℕ → Type 0 = λ x. ((x == 42) && follows 47 bs) ≡ false in
        let Q : List ℕ → Type 0 = λ x. ((42 == 42) && follows 47 x) ≡ false in
        let clash = subst Q (tail_is h) (subst P (head_is h) e) in
        cc
holds_not b bs e none (c ∷ before, after, h) = none (before, after, tail_is h)

close_step : (b : ℕ) (bs : List ℕ) (o : Option ℕ) → ((b == 42) && follows 47 bs) ≡ false → IsClose bs o → IsClose (b ∷ bs) (later 1 o)
close_step b bs None e h = holds_not b bs e h
close_step b bs (Some n) e h = record {
  inside = b ∷ h.inside;
  after = h.after;
  stands = ap (λ x. b ∷ x) h.stands;
  place = ap (λ m. suc m) h.place ∙ omega arith;
  first = holds_not b (h.inside ++ codes "*") (not_closed h.inside h.stands) h.first;
}
  where
    not_closed : (inside : List ℕ) → bs ≡ inside ++ (codes "*/" ++ h.after) → ((b == 42) && follows 47 (inside ++ codes "*")) ≡ false
    not_closed [] s = and_false (b == 42)
    not_closed (c ∷ cs) s = sym (ap (λ x. (b == 42) && follows 47 x) s) ∙ e

-- what is found is the end of the comment
pub close_found : (text : List ℕ) → IsClose text (close_at text)
close_found [] = λ h. nothing_holds h
close_found (b ∷ bs) =
    if_case (IsClose (b ∷ bs)) ((b == 42) && follows 47 bs) (Some 0) (later 1 (close_at bs))
    (λ e. let both = both_true (b == 42) (follows 47 bs) e in
    let f = follows_is 47 bs both.1 in
    record {
      inside = [];
      after = f.0;
      stands = ap (λ x. x ∷ bs) (equal_when b 42 both.0) ∙ ap (λ x. 42 ∷ x) f.1;
      place = refl;
      first = one_byte;
    })
    (λ e. close_step b bs (close_at bs) e (close_found bs))

block_piece : (minus : Bool) (bs : List ℕ) (o : Option ℕ) → IsClose bs o → IsPiece minus (47 ∷ 42 ∷ bs) (elim o [ None ↦ piece.Wrong 3 0 | Some n ↦ piece.Gap (n + 4) ])
block_piece minus bs None h = inr (omega arith, open_comment bs refl h)
block_piece minus bs (Some n) h =
    gap_of minus (47 ∷ 42 ∷ bs) (codes "/*" ++ (h.inside ++ codes "*/")) h.after (n + 4)
    (ap (λ x. 47 ∷ 42 ∷ x) (h.stands ∙ sym (append_assoc h.inside (codes "*/") h.after)))
    (let size = length-append h.inside (codes "*/") in let place = h.place in omega arith)
    (omega arith)
    (block h.inside h.after h.first)

slash_found : (minus : Bool) (bs : List ℕ) → IsPiece minus (47 ∷ bs) (slash_at bs)
slash_found minus bs =
    let P : Piece → Type 0 = IsPiece minus (47 ∷ bs) in
    if_case P (follows 47 bs) _ _
    (λ e. let f = follows_is 47 bs e in
    let Q : List ℕ → Type 0 = λ x. IsPiece minus (47 ∷ x) (piece.Gap (1 + line_bytes x)) in
    let R : ℕ → Type 0 = λ n. IsPiece minus (47 ∷ 47 ∷ f.0) (piece.Gap n) in
    subst Q (sym f.1) (subst R (omega arith) (line_found minus (47 ∷ 47 ∷ []) f.0 slashes (omega arith))))
    (λ e1. if_case P (follows 42 bs) _ _
    (λ e. let f = follows_is 42 bs e in
    let Q : List ℕ → Type 0 = λ x. IsPiece minus (47 ∷ x) (block_at (drop 1 x)) in
    subst Q (sym f.1) (block_piece minus f.0 (close_at f.0) (close_found f.0)))
    (λ e2. record {
      some = omega arith;
      within = omega arith;
      spells = refl;
      closed = λ q. cc;
      no_line_comment = λ h. not_follows 47 bs e1 (h.0, tail_is h.1);
      no_block_comment = λ h. not_follows 42 bs e2 (h.0, tail_is h.1);
      no_inline_code = λ h. absurd (let g = h.1 in cc);
    }))

percent_found : (minus : Bool) (bs : List ℕ) → IsPiece minus (37 ∷ bs) (piece.Gap (1 + line_bytes bs))
percent_found minus bs = line_found minus (37 ∷ []) bs percent (omega arith)

-- names in quotes

-- two quoted parts one after the other are quoted
pub quotes_append : {xs ys names others : List ℕ} → Quotes xs names → Quotes ys others → Quotes (xs ++ ys) (names ++ others)
quotes_append nothing k = k
quotes_append (quote h) k = quote (quotes_append h k)
quotes_append (byte e h) k = byte e (quotes_append h k)

-- so far: the text begins with a quote and these bytes, n bytes together
pub record InQuotes (text rest : List ℕ) (n : ℕ) : Type 0 where
  pub inside : List ℕ
  pub name : List ℕ
  pub quotes : Quotes inside name
  pub stands : text ≡ 39 ∷ (inside ++ rest)
  pub size : n ≡ 1 + length inside

quotes_on : {text rest : List ℕ} {n : ℕ} (more others : List ℕ) → InQuotes text (more ++ rest) n → Quotes more others → InQuotes text rest (n + length more)
quotes_on {rest = rest} more others h k = record {
  inside = h.inside ++ more;
  name = h.name ++ others;
  quotes = quotes_append h.quotes k;
  stands = h.stands ∙ ap (λ x. 39 ∷ x) (sym (append_assoc h.inside more rest));
  size = let size = h.size in let sum = length-append h.inside more in omega arith;
}

in_text : (minus : Bool) (text : List ℕ) (code n : ℕ) (b : ℕ) (bs : List ℕ) → text ≡ b ∷ bs → n ≤ length text → Wrong minus text code (take n text) → IsPiece minus text (piece.Wrong code n)
in_text minus [] code n b bs e l w = absurd (cc)
in_text minus (c ∷ cs) code n b bs e l w = inr (l, w)

open_found : (minus : Bool) (text rest : List ℕ) (n : ℕ) → InQuotes text rest n → EndsLine rest → IsPiece minus text (piece.Wrong 3 0)
open_found minus text rest n h ends = in_text minus text 3 0 39 (h.inside ++ rest) h.stands (omega arith) (open_quote h.inside h.name rest h.stands h.quotes ends)

bad_found : (minus : Bool) (text : List ℕ) (b : ℕ) (bs : List ℕ) (n : ℕ) → InQuotes text (b ∷ bs) n → is_quotable b ≡ false → b ≢ 39 → b ≢ 10 → IsPiece minus text (piece.Wrong 2 n)
bad_found minus text b bs n h q x y =
    let front : take n text ≡ 39 ∷ h.inside = ap (take n) h.stands ∙ take_at (39 ∷ h.inside) (b ∷ bs) n (let size = h.size in omega arith) in
    let P : List ℕ → Type 0 = λ skipped. Wrong minus text 2 skipped in
    let size = h.size in
    let length_text : length text ≡ length (39 ∷ h.inside) + length (b ∷ bs) = ap length h.stands ∙ length-append (39 ∷ h.inside) (b ∷ bs) in
    in_text minus text 2 n 39 (h.inside ++ b ∷ bs) h.stands (omega arith) (subst P (sym front) (bad_quoted_byte b h.inside h.name bs h.stands h.quotes q x y))

closed_found : (minus : Bool) (text bs : List ℕ) (n : ℕ) → InQuotes text (39 ∷ bs) n → ¬ (Begins (codes "'") bs) → IsPiece minus text (piece.Token Quoted (n + 1))
closed_found minus text bs n h after =
    let whole = 39 ∷ (h.inside ++ 39 ∷ []) in
    let split : text ≡ whole ++ bs = h.stands ∙ ap (λ x. 39 ∷ x) (sym (append_assoc h.inside (39 ∷ []) bs)) in
    let count = length-append h.inside (39 ∷ []) in
    let size = h.size in
    let long : length whole ≡ n + 1 = omega arith in
    let front : take (n + 1) text ≡ whole = ap (take (n + 1)) split ∙ take_at whole bs (n + 1) long in
    let back : drop (n + 1) text ≡ bs = ap (drop (n + 1)) split ∙ drop_at whole bs (n + 1) long in
    let sum : length text ≡ length whole + length bs = ap length split ∙ length-append whole bs in
    let P : List ℕ → Type 0 = λ x. ¬ (Begins (codes "'") x) in
    record {
      some = omega arith;
      within = omega arith;
      spells = (h.name, record { inside = h.inside; stands = front; quotes = h.quotes });
      closed = λ q. subst P (sym back) after;
      no_line_comment = λ k. absurd (let g : 39 ≡ 47 = head_is (sym h.stands ∙ k.1) in cc);
      no_block_comment = λ k. absurd (let g : 39 ≡ 47 = head_is (sym h.stands ∙ k.1) in cc);
      no_inline_code = λ k. absurd (let g : 39 ≡ 91 = head_is (sym h.stands ∙ k.1) in omega arith);
    }

not_first : (b c : ℕ) (cs : List ℕ) → (c == b) ≡ false → ¬ (Begins (b ∷ []) (c ∷ cs))
not_first b c cs e h = unequal_when c b e (head_is h.1)

byte_on : {text rest : List ℕ} {n b : ℕ} → InQuotes text (b ∷ rest) n → is_quotable b ≡ true → InQuotes text rest (n + 1)
byte_on {b = b} h e = quotes_on (b ∷ []) (b ∷ []) h (byte e nothing)

in_quotes : (minus : Bool) (text rest : List ℕ) (n : ℕ) → InQuotes text rest n → IsPiece minus text (quoted_behind n rest)
in_quotes minus text [] n h = open_found minus text [] n h tt
in_quotes minus text (b ∷ []) n h =
    let P : Piece → Type 0 = IsPiece minus text in
    if_case P (b == 39) _ _
    (λ e. let Q : ℕ → Type 0 = λ x. InQuotes text (x ∷ []) n in closed_found minus text [] n (subst Q (equal_when b 39 e) h) (λ k. absurd (let g = k.1 in cc)))
    (λ x. if_case P (b == 10) _ _
    (λ e. open_found minus text (b ∷ []) n h (equal_when b 10 e))
    (λ y. if_case P (is_quotable b) _ _
    (λ e. open_found minus text [] (n + 1) (byte_on h e) tt)
    (λ z. bad_found minus text b [] n h z (unequal_when b 39 x) (unequal_when b 10 y))))
in_quotes minus text (b ∷ c ∷ cs) n h =
    let P : Piece → Type 0 = IsPiece minus text in
    if_case P (b == 39) _ _
    (λ e. let Q : ℕ → Type 0 = λ x. InQuotes text (x ∷ c ∷ cs) n in
    let here = subst Q (equal_when b 39 e) h in
    if_case P (c == 39) _ _
    (λ f. let R : ℕ → Type 0 = λ x. InQuotes text (39 ∷ x ∷ cs) n in
    in_quotes minus text cs (n + 2) (quotes_on (39 ∷ 39 ∷ []) (39 ∷ []) (subst R (equal_when c 39 f) here) (quote nothing)))
    (λ f. closed_found minus text (c ∷ cs) n here (not_first 39 c cs f)))
    (λ x. if_case P (b == 10) _ _
    (λ e. open_found minus text (b ∷ c ∷ cs) n h (equal_when b 10 e))
    (λ y. if_case P (is_quotable b) _ _
    (λ e. in_quotes minus text (c ∷ cs) (n + 1) (byte_on h e))
    (λ z. bad_found minus text b (c ∷ cs) n h z (unequal_when b 39 x) (unequal_when b 10 y))))

quoted_found : (minus : Bool) (bs : List ℕ) → IsPiece minus (39 ∷ bs) (quoted_behind 1 bs)
quoted_found minus bs = in_quotes minus (39 ∷ bs) bs 1 (record { inside = []; name = []; quotes = nothing; stands = refl; size = refl })

-- all together

first_is : (minus : Bool) (b sign : ℕ) (bs : List ℕ) (found : Piece) → (b == sign) ≡ true → IsPiece minus (sign ∷ bs) found → IsPiece minus (b ∷ bs) found
first_is minus b sign bs found e h = let P : ℕ → Type 0 = λ x. IsPiece minus (x ∷ bs) found in subst P (sym (equal_when b sign e)) h

sign_piece_found : (minus : Bool) (b : ℕ) (bs : List ℕ) → is_ascii_whitespace b ≡ false → IsPiece minus (b ∷ bs) (sign_piece minus b bs)
sign_piece_found minus b bs s =
    let P : Piece → Type 0 = IsPiece minus (b ∷ bs) in
    if_case P (b == 37) _ _ (λ e. first_is minus b 37 bs (piece.Gap (1 + line_bytes bs)) e (percent_found minus bs)) (λ percent_not.
    if_case P (b == 47) _ _ (λ e. first_is minus b 47 bs (slash_at bs) e (slash_found minus bs)) (λ slash_not.
    if_case P (b == 39) _ _ (λ e. first_is minus b 39 bs (quoted_behind 1 bs) e (quoted_found minus bs)) (λ quote_not.
    if_case P (b == 36) _ _ (λ e. first_is minus b 36 bs (context_at bs) e (context_found minus bs)) (λ e4.
    if_case P (b == 64) _ _ (λ e. first_is minus b 64 bs (at_sign_at bs) e (at_sign_found minus bs)) (λ e5.
    if_case P (b == 45) _ _ (λ e. first_is minus b 45 bs (minus_at minus bs) e (minus_found minus bs)) (λ e6.
    if_case P (b == 61) _ _ (λ e. first_is minus b 61 bs (equal_at bs) e (equal_found minus bs)) (λ e7.
    if_case P (b == 58) _ _ (λ e. first_is minus b 58 bs (colon_at bs) e (colon_found minus bs)) (λ e8.
    if_case P (b == 91) _ _ (λ e. first_is minus b 91 bs (bracket_at bs) e (bracket_found minus bs)) (λ bracket_not.
    if_case P (b == 62) _ _ (λ e. first_is minus b 62 bs (greater_at bs) e (greater_found minus bs)) (λ e10.
    if_case P (b == 92) _ _ (λ e. first_is minus b 92 bs (backslash_at bs) e (backslash_found minus bs)) (λ e11.
    sign_found minus b bs (record {
      not_space = s;
      not_percent = unequal_when b 37 percent_not;
      not_quote = unequal_when b 39 quote_not;
      not_slash = unequal_when b 47 slash_not;
      not_bracket = unequal_when b 91 bracket_not;
    }))))))))))))

-- the piece that is found stands at the front
pub found : (minus : Bool) (b : ℕ) (bs : List ℕ) → IsPiece minus (b ∷ bs) (piece_of minus (b ∷ bs))
found minus b bs =
    let P : Piece → Type 0 = IsPiece minus (b ∷ bs) in
    if_case P (is_ascii_whitespace b) _ _ (λ e. gap_of minus (b ∷ bs) (b ∷ []) bs 1 refl refl (omega arith) (separator b bs e)) (λ s.
    if_case P (is_ascii_lowercase b) _ _ (λ e. word_found minus b bs e) (λ e2.
    if_case P (begins_link b) _ _ (λ e. link_found minus b bs e) (λ e3.
    if_case P (is_ascii_digit b) _ _ (λ e. int_found minus b bs e) (λ e4.
    sign_piece_found minus b bs s))))
