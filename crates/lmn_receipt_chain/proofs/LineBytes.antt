-- The bytes of a printed line: one line feed, the last, and no `%` at the front.
use Rattle.std.proofs.Common.{ℕ, zero, suc, ◌≡◌, ◌≢◌, ◌+◌, ◌/◌, ◌%◌, ◌==◌, if◌then◌else◌, inl, inr, Bool, true, false, List, [], ◌∷◌, ◌++◌, refl, sym, subst, codes, ap, ◌∙◌, append_assoc, true≢false, arith}
use Rattle.std.specs.Char.{is_ascii_digit, is_ascii_lowercase}
use Rattle.std.specs.Fmt.{digit_glyph, digits, digits_onto}
use Rattle.std.specs.List.{AllByRecursion}
use Rattle.lmn_base.proofs.Lists.{all_append, head_is, tail_is}
use Rattle.lmn_congruence.specs.Rules.{Level}
use Rattle.lmn_lexer.specs.declared.token.Kind.{Kind}
use Rattle.lmn_lexer.specs.declared.token.Kind.TheVariants.{Name, Quoted, Mod, Link, Int, Context, RuleCtx, End, LParen, RParen, LBracket, RBracket, LBrace, RBrace, Comma, Dot, Arrow, AtAt, Bar, Backslash, Equal, Less, LessEq, Greater, GreaterEq, NumEq, NumNe, Differ, Plus, Minus, Star, Slash}
use Rattle.lmn_lexer.specs.Laying.{Laid, Word, all_laid, separator, word as laid_word}
use Rattle.lmn_lexer.specs.Spelling.{AllPass, IsDigits, IsIntegerSpelling, IsQuoted, IsWord, IsWordBehind, Quotes, Spells, begins_context, begins_link, byte, goes_on, is_quotable, nothing, quote}
use Rattle.lmn_flatten_plain.proofs.LaidLines.{line_laid}
use Rattle.lmn_flatten_plain.specs.Spelled.{LevelSpelled}
use Rattle.lmn_receipt_chain.specs.Bytes.{NoFeed}
use Rattle.lmn_flatten_plain.specs.Words.{Piece, line_of, space, text_of, top_pieces, word, words_in}

-- the first byte, if there is one, isn't `%`
abbrev pub NoPercent : List ℕ → Type 0
NoPercent [] = Unit {0}
NoPercent (b ∷ bs) = b ≢ 37

-- ---- words

-- a byte of a class isn't one that isn't of it
not_of : (test : ℕ → Bool) (k b : ℕ) → test k ≡ false → test b ≡ true → b ≢ k
not_of test k b none h e = true≢false (sym h ∙ ap test e ∙ none)

-- nor is one that is another
other_than : (n k b : ℕ) → n ≢ k → b ≡ n → b ≢ k
other_than n k b differ is e = differ (sym is ∙ e)

-- bytes of a class in which the line feed isn't
pass_no_feed : (test : ℕ → Bool) → test 10 ≡ false → (bs : List ℕ) → AllPass test bs → NoFeed bs
pass_no_feed test none [] h = tt
pass_no_feed test none (b ∷ bs) h = (not_of test 10 b none h.0, pass_no_feed test none bs h.1)

word_no_feed : (first : ℕ → Bool) → first 10 ≡ false → (bytes : List ℕ) → IsWord first bytes → NoFeed bytes
word_no_feed first none [] h = absurd h
word_no_feed first none (b ∷ bs) h = (not_of first 10 b none h.0, pass_no_feed goes_on refl bs h.1)

word_no_percent : (first : ℕ → Bool) → first 37 ≡ false → (bytes : List ℕ) → IsWord first bytes → NoPercent bytes
word_no_percent first none [] h = absurd h
word_no_percent first none (b ∷ bs) h = not_of first 37 b none h.0

digits_no_feed : (bytes : List ℕ) → IsDigits bytes → NoFeed bytes
digits_no_feed [] h = absurd h
digits_no_feed (b ∷ bs) h = pass_no_feed is_ascii_digit refl (b ∷ bs) h

quotes_no_feed : {inside name : List ℕ} → Quotes inside name → NoFeed inside
quotes_no_feed nothing = tt
quotes_no_feed (quote q) = ((λ e. absurd (cc)), ((λ e. absurd (cc)), quotes_no_feed q))
quotes_no_feed (byte {b = b} p q) = (not_of is_quotable 10 b refl p, quotes_no_feed q)

quoted_no_feed : (bytes name : List ℕ) → IsQuoted bytes name → NoFeed bytes
quoted_no_feed bytes name q =
    subst NoFeed (sym q.stands) ((λ e. absurd (cc)), all_append (λ b. b ≢ 10) q.inside (39 ∷ []) (quotes_no_feed q.quotes) ((λ e. absurd (cc)), tt))

quoted_no_percent : (bytes name : List ℕ) → IsQuoted bytes name → NoPercent bytes
quoted_no_percent bytes name q = subst NoPercent (sym q.stands) (λ e. omega (arith, e))

behind_no_feed : (sign : ℕ) → sign ≢ 10 → (bytes : List ℕ) → IsWordBehind sign begins_context bytes → NoFeed bytes
behind_no_feed sign other [] h = absurd h
behind_no_feed sign other (b ∷ bs) h = (other_than sign 10 b other h.0, word_no_feed begins_context refl bs h.1)

behind_no_percent : (sign : ℕ) → sign ≢ 37 → (bytes : List ℕ) → IsWordBehind sign begins_context bytes → NoPercent bytes
behind_no_percent sign other [] h = absurd h
behind_no_percent sign other (b ∷ bs) h = other_than sign 37 b other h.0

integer_no_feed : (minus : Bool) (bytes : List ℕ) → IsIntegerSpelling minus bytes → NoFeed bytes
integer_no_feed minus [] h = absurd h
integer_no_feed minus (b ∷ bs) (inl h) = digits_no_feed (b ∷ bs) h
integer_no_feed minus (b ∷ bs) (inr h) = (other_than 45 10 b (λ e. absurd (cc)) h.1, digits_no_feed bs h.2)

integer_no_percent : (minus : Bool) (bytes : List ℕ) → IsIntegerSpelling minus bytes → NoPercent bytes
integer_no_percent minus [] h = absurd h
integer_no_percent minus (b ∷ bs) (inl h) = not_of is_ascii_digit 37 b refl h.0
integer_no_percent minus (b ∷ bs) (inr h) = other_than 45 37 b (λ e. omega (arith, e)) h.1

-- no token has a line feed in it,
pub spelled_no_feed : (minus : Bool) (kind : Kind) (bytes : List ℕ) → Spells minus kind bytes → NoFeed bytes
spelled_no_feed minus Name bytes h = word_no_feed is_ascii_lowercase refl bytes h.0
spelled_no_feed minus Quoted bytes h = quoted_no_feed bytes h.0 h.1
spelled_no_feed minus Link bytes h = word_no_feed begins_link refl bytes h
spelled_no_feed minus Int bytes h = integer_no_feed minus bytes h
spelled_no_feed minus Context bytes h = behind_no_feed 36 (λ e. absurd (cc)) bytes h
spelled_no_feed minus RuleCtx bytes h = behind_no_feed 64 (λ e. absurd (cc)) bytes h
spelled_no_feed minus End bytes h = absurd h
spelled_no_feed minus LParen bytes h = subst NoFeed (sym h) ((λ e. absurd (cc)), tt)
spelled_no_feed minus RParen bytes h = subst NoFeed (sym h) ((λ e. absurd (cc)), tt)
spelled_no_feed minus LBracket bytes h = subst NoFeed (sym h) ((λ e. absurd (cc)), tt)
spelled_no_feed minus RBracket bytes h = subst NoFeed (sym h) ((λ e. absurd (cc)), tt)
spelled_no_feed minus LBrace bytes h = subst NoFeed (sym h) ((λ e. absurd (cc)), tt)
spelled_no_feed minus RBrace bytes h = subst NoFeed (sym h) ((λ e. absurd (cc)), tt)
spelled_no_feed minus Comma bytes h = subst NoFeed (sym h) ((λ e. absurd (cc)), tt)
spelled_no_feed minus Dot bytes h = subst NoFeed (sym h) ((λ e. absurd (cc)), tt)
spelled_no_feed minus Arrow bytes h = subst NoFeed (sym h) ((λ e. absurd (cc)), ((λ e. absurd (cc)), tt))
spelled_no_feed minus AtAt bytes h = subst NoFeed (sym h) ((λ e. absurd (cc)), ((λ e. absurd (cc)), tt))
spelled_no_feed minus Bar bytes h = subst NoFeed (sym h) ((λ e. absurd (cc)), tt)
spelled_no_feed minus Backslash bytes h = subst NoFeed (sym h) ((λ e. absurd (cc)), tt)
spelled_no_feed minus Equal bytes h = subst NoFeed (sym h) ((λ e. absurd (cc)), tt)
spelled_no_feed minus Less bytes h = subst NoFeed (sym h) ((λ e. absurd (cc)), tt)
spelled_no_feed minus LessEq bytes h = subst NoFeed (sym h) ((λ e. absurd (cc)), ((λ e. absurd (cc)), tt))
spelled_no_feed minus Greater bytes h = subst NoFeed (sym h) ((λ e. absurd (cc)), tt)
spelled_no_feed minus GreaterEq bytes h = subst NoFeed (sym h) ((λ e. absurd (cc)), ((λ e. absurd (cc)), tt))
spelled_no_feed minus NumEq bytes h = subst NoFeed (sym h) ((λ e. absurd (cc)), ((λ e. absurd (cc)), ((λ e. absurd (cc)), tt)))
spelled_no_feed minus NumNe bytes h = subst NoFeed (sym h) ((λ e. absurd (cc)), ((λ e. absurd (cc)), ((λ e. absurd (cc)), tt)))
spelled_no_feed minus Differ bytes h = subst NoFeed (sym h) ((λ e. absurd (cc)), ((λ e. absurd (cc)), tt))
spelled_no_feed minus Plus bytes h = subst NoFeed (sym h) ((λ e. absurd (cc)), tt)
spelled_no_feed minus Minus bytes h = subst NoFeed (sym h) ((λ e. absurd (cc)), tt)
spelled_no_feed minus Star bytes h = subst NoFeed (sym h) ((λ e. absurd (cc)), tt)
spelled_no_feed minus Slash bytes h = subst NoFeed (sym h) ((λ e. absurd (cc)), tt)
spelled_no_feed minus Mod bytes h = subst NoFeed (sym h) ((λ e. absurd (cc)), ((λ e. absurd (cc)), ((λ e. absurd (cc)), tt)))

-- and none begins with `%`
pub spelled_no_percent : (minus : Bool) (kind : Kind) (bytes : List ℕ) → Spells minus kind bytes → NoPercent bytes
spelled_no_percent minus Name bytes h = word_no_percent is_ascii_lowercase refl bytes h.0
spelled_no_percent minus Quoted bytes h = quoted_no_percent bytes h.0 h.1
spelled_no_percent minus Link bytes h = word_no_percent begins_link refl bytes h
spelled_no_percent minus Int bytes h = integer_no_percent minus bytes h
spelled_no_percent minus Context bytes h = behind_no_percent 36 (λ e. omega (arith, e)) bytes h
spelled_no_percent minus RuleCtx bytes h = behind_no_percent 64 (λ e. omega (arith, e)) bytes h
spelled_no_percent minus End bytes h = absurd h
spelled_no_percent minus LParen bytes h = subst NoPercent (sym h) (λ e. omega (arith, e))
spelled_no_percent minus RParen bytes h = subst NoPercent (sym h) (λ e. omega (arith, e))
spelled_no_percent minus LBracket bytes h = subst NoPercent (sym h) (λ e. omega (arith, e))
spelled_no_percent minus RBracket bytes h = subst NoPercent (sym h) (λ e. omega (arith, e))
spelled_no_percent minus LBrace bytes h = subst NoPercent (sym h) (λ e. omega (arith, e))
spelled_no_percent minus RBrace bytes h = subst NoPercent (sym h) (λ e. omega (arith, e))
spelled_no_percent minus Comma bytes h = subst NoPercent (sym h) (λ e. omega (arith, e))
spelled_no_percent minus Dot bytes h = subst NoPercent (sym h) (λ e. omega (arith, e))
spelled_no_percent minus Arrow bytes h = subst NoPercent (sym h) (λ e. omega (arith, e))
spelled_no_percent minus AtAt bytes h = subst NoPercent (sym h) (λ e. omega (arith, e))
spelled_no_percent minus Bar bytes h = subst NoPercent (sym h) (λ e. omega (arith, e))
spelled_no_percent minus Backslash bytes h = subst NoPercent (sym h) (λ e. omega (arith, e))
spelled_no_percent minus Equal bytes h = subst NoPercent (sym h) (λ e. omega (arith, e))
spelled_no_percent minus Less bytes h = subst NoPercent (sym h) (λ e. omega (arith, e))
spelled_no_percent minus LessEq bytes h = subst NoPercent (sym h) (λ e. omega (arith, e))
spelled_no_percent minus Greater bytes h = subst NoPercent (sym h) (λ e. omega (arith, e))
spelled_no_percent minus GreaterEq bytes h = subst NoPercent (sym h) (λ e. omega (arith, e))
spelled_no_percent minus NumEq bytes h = subst NoPercent (sym h) (λ e. omega (arith, e))
spelled_no_percent minus NumNe bytes h = subst NoPercent (sym h) (λ e. omega (arith, e))
spelled_no_percent minus Differ bytes h = subst NoPercent (sym h) (λ e. omega (arith, e))
spelled_no_percent minus Plus bytes h = subst NoPercent (sym h) (λ e. omega (arith, e))
spelled_no_percent minus Minus bytes h = subst NoPercent (sym h) (λ e. omega (arith, e))
spelled_no_percent minus Star bytes h = subst NoPercent (sym h) (λ e. omega (arith, e))
spelled_no_percent minus Slash bytes h = subst NoPercent (sym h) (λ e. omega (arith, e))
spelled_no_percent minus Mod bytes h = subst NoPercent (sym h) (λ e. omega (arith, e))

-- each word is spelled as its kind asks
abbrev IsSpelled : Word → Type 0
IsSpelled w = (minus : Bool) × Spells minus w.kind w.bytes

laid_spelled : {minus : Bool} {text : List ℕ} {words : List Word} → Laid minus text words → AllByRecursion IsSpelled words
laid_spelled all_laid = tt
laid_spelled (separator w l) = laid_spelled l
laid_spelled {minus} (laid_word e s m l) = ((minus, s), laid_spelled l)

-- ---- lines

pieces_no_feed : (ps : List Piece) → AllByRecursion IsSpelled (words_in ps) → NoFeed (text_of ps)
pieces_no_feed [] h = tt
pieces_no_feed (word kind bytes ∷ ps) h = all_append (λ b. b ≢ 10) bytes (text_of ps) (spelled_no_feed h.0.0 kind bytes h.0.1) (pieces_no_feed ps h.1)
pieces_no_feed (space ∷ ps) h = ((λ e. absurd (cc)), pieces_no_feed ps h)

front_no_percent : (bytes more : List ℕ) → NoPercent bytes → NoPercent more → NoPercent (bytes ++ more)
front_no_percent [] more h k = k
front_no_percent (b ∷ bs) more h k = h

pieces_no_percent : (ps : List Piece) (more : List ℕ) → AllByRecursion IsSpelled (words_in ps) → NoPercent more → NoPercent (text_of ps ++ more)
pieces_no_percent [] more h k = k
pieces_no_percent (word kind bytes ∷ ps) more h k =
    subst NoPercent (sym (append_assoc bytes (text_of ps) more)) (front_no_percent bytes (text_of ps ++ more) (spelled_no_percent h.0.0 kind bytes h.0.1) (pieces_no_percent ps more h.1 k))
pieces_no_percent (space ∷ ps) more h k = λ e. omega (arith, e)

-- the line of a level that a text can spell has a line feed at its end alone
pub line_no_feed : (l : Level) → LevelSpelled l → NoFeed (text_of (top_pieces l))
line_no_feed l h = pieces_no_feed (top_pieces l) (laid_spelled (line_laid l h))

-- and doesn't begin with `%`
pub line_no_percent : (l : Level) → LevelSpelled l → NoPercent (line_of l)
line_no_percent l h = pieces_no_percent (top_pieces l) (codes "\n") (laid_spelled (line_laid l h)) (λ e. omega (arith, e))

-- what stands before the first line feed of a text is one
pub first_line_one : (u v r s : List ℕ) → NoFeed u → NoFeed v → u ++ (10 ∷ r) ≡ v ++ (10 ∷ s) → (u ≡ v) × (r ≡ s)
first_line_one [] [] r s h k e = (refl, tail_is e)
first_line_one [] (y ∷ v) r s h k e = absurd (k.0 (sym (head_is e)))
first_line_one (x ∷ u) [] r s h k e = absurd (h.0 (head_is e))
first_line_one (x ∷ u) (y ∷ v) r s h k e =
    let one = first_line_one u v r s h.1 k.1 (tail_is e) in
    (λ i. head_is e i ∷ one.0 i, one.1)

-- ---- numbers

glyph : (d : ℕ) → digit_glyph false d ≢ 10
glyph d = by _
  where
    by : (b : Bool) → (if b then 48 + d else 87 + d) ≢ 10
    by true e = omega (arith, e)
    by false e = omega (arith, e)

onto : (k n : ℕ) (acc : List ℕ) → NoFeed acc → NoFeed (digits_onto k 10 false n acc)
onto zero n acc h = h
onto (suc k) n acc h = by (n / 10 == 0) (onto k (n / 10) (digit_glyph false (n % 10) ∷ acc) (glyph (n % 10), h))
  where
    by : (b : Bool) → NoFeed (digits_onto k 10 false (n / 10) (digit_glyph false (n % 10) ∷ acc))
        → NoFeed (if b then digit_glyph false (n % 10) ∷ acc else digits_onto k 10 false (n / 10) (digit_glyph false (n % 10) ∷ acc))
    by true r = (glyph (n % 10), h)
    by false r = r

-- the digits of a number have no line feed among them
pub digits_quiet : (n : ℕ) → NoFeed (digits 10 false n)
unfolding digits
digits_quiet n = onto 64 n [] tt
