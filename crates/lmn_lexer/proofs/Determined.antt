-- At a place a text goes on in one way, or one fault stands there.
use Rattle.std.proofs.Common.{◌≡◌, ◌≢◌, ℕ, ◌≤◌, Bool, true, false, List, [], ◌∷◌, ◌++◌, length, take, drop, ◌⊎◌, inl, inr, refl, sym, ap, ◌∙◌, subst, arith}
use Rattle.std.specs.Char.{is_ascii_whitespace}
use Rattle.std.proofs.lemmas.Bool.Decides.{nat_tests}
use Rattle.std.proofs.lemmas.List.{take-append-drop, take_at, drop_at, length-take-le}
use Rattle.lmn_lexer.specs.declared.token.Kind.{Kind}
use Rattle.lmn_lexer.specs.declared.token.Kind.TheVariants.{Int, LBracket, Slash}
use Rattle.lmn_lexer.specs.declared.piece.Piece.{Piece}
use Rattle.lmn_lexer.specs.declared.piece.Piece.TheVariants as piece
use Rattle.lmn_lexer.specs.Gaps.{Gap, separator, percent, slashes, block}
use Rattle.lmn_lexer.specs.Cutting.{BeginsToken}
use Rattle.lmn_lexer.specs.Faults.{Wrong, bad_byte, bad_quoted_byte, open_quote, open_comment, wrong_token, string, inline_code, hyperlink, BeginsNoToken, TooLong, TokenFault, integer_out_of_range, long_name, floating_point, has_its_own}
use Rattle.lmn_lexer.specs.Scanning.{piece_of}
use Rattle.lmn_lexer.proofs.Found.{Stands, IsGap, IsPiece, found}
use Rattle.lmn_lexer.proofs.Exact.{IsFree, Covers, covered}
use Rattle.lmn_lexer.proofs.OnePiece.{token_piece, gap_piece, bad_quoted_piece, open_quote_piece, open_comment_piece}
use Rattle.lmn_base.proofs.Lists.{head_is}

-- a byte without a row of its own

no_row : (b : ℕ) → is_ascii_whitespace b ≡ false → b ≢ 37 → b ≢ 34 → b ≢ 33 → b ≢ 39 → has_its_own b ≡ false
no_row b s p t h q = grind (arith, nat_tests)

record NoRow (b : ℕ) : Type 0 where
  space : is_ascii_whitespace b ≡ false
  percent : b ≢ 37
  string : b ≢ 34
  hyperlink : b ≢ 33
  quote : b ≢ 39

row_parts : (b : ℕ) → has_its_own b ≡ false → NoRow b
row_parts b h = record {
  space = grind (arith, nat_tests);
  percent = λ e. grind (arith, nat_tests);
  string = λ e. grind (arith, nat_tests);
  hyperlink = λ e. grind (arith, nat_tests);
  quote = λ e. grind (arith, nat_tests);
}

-- what is found is there

-- where a gap is found one stands
pub gap_found : (minus : Bool) (b : ℕ) (bs : List ℕ) (n : ℕ) → piece_of minus (b ∷ bs) ≡ piece.Gap n → IsGap (b ∷ bs) n
gap_found minus b bs n e = let P : Piece → Type 0 = IsPiece minus (b ∷ bs) in subst P e (found minus b bs)

-- and where a token is found one stands
pub token_stands : (minus : Bool) (kind : Kind) (b : ℕ) (bs : List ℕ) (n : ℕ) → piece_of minus (b ∷ bs) ≡ piece.Token kind n → Stands minus kind (b ∷ bs) n
token_stands minus kind b bs n e = let P : Piece → Type 0 = IsPiece minus (b ∷ bs) in subst P e (found minus b bs)

-- which begins there by its rule
pub token_found : (minus : Bool) (kind : Kind) (b : ℕ) (bs : List ℕ) (n : ℕ) → piece_of minus (b ∷ bs) ≡ piece.Token kind n
    → BeginsToken minus kind (take n (b ∷ bs)) (drop n (b ∷ bs)) (b ∷ bs)
token_found minus kind b bs n e =
    let s = token_stands minus kind b bs n e in
    let size = length-take-le n (b ∷ bs) s.within in
    record {
      stands = sym (take-append-drop n (b ∷ bs));
      spells = s.spells;
      longest = λ other longer behind spells stands.
          let P : List ℕ → Type 0 = λ x. Covers (length longer) (IsFree other behind x) (piece_of minus x) in
          let Q : Piece → Type 0 = Covers (length longer) (IsFree other behind (b ∷ bs)) in
          let least : length longer ≤ n = subst Q e (subst P (sym stands) (covered minus other longer behind spells)) in
          omega arith;
      closed = s.closed;
      no_line_comment = s.no_line_comment;
      no_block_comment = s.no_block_comment;
      no_inline_code = s.no_inline_code;
    }

no_token : (minus : Bool) (text : List ℕ) (code n : ℕ) → piece_of minus text ≡ piece.Wrong code n → code ≡ 2 → n ≡ 0 → BeginsNoToken minus text
no_token minus text code n e c z kind bytes after spells stands =
    let P : List ℕ → Type 0 = λ x. Covers (length bytes) (IsFree kind after x) (piece_of minus x) in
    let Q : Piece → Type 0 = Covers (length bytes) (IsFree kind after text) in
    let wrong = subst Q e (subst P (sym stands) (covered minus kind bytes after spells)) in
    wrong.1 c z

-- where something wrong is found it is wrong
pub wrong_found : (minus : Bool) (b : ℕ) (bs : List ℕ) (code n : ℕ) → piece_of minus (b ∷ bs) ≡ piece.Wrong code n
    → (n ≤ length (b ∷ bs)) × Wrong minus (b ∷ bs) code (take n (b ∷ bs))
wrong_found minus b bs code n e = let P : Piece → Type 0 = IsPiece minus (b ∷ bs) in go (subst P e (found minus b bs))
  where
    go : IsPiece minus (b ∷ bs) (piece.Wrong code n) → (n ≤ length (b ∷ bs)) × Wrong minus (b ∷ bs) code (take n (b ∷ bs))
    go (inr h) = h
    go (inl h) =
        let Q : ℕ → Type 0 = λ c. Wrong minus (b ∷ bs) c (take n (b ∷ bs)) in
        let R : ℕ → Type 0 = λ m. Wrong minus (b ∷ bs) 2 (take m (b ∷ bs)) in
        let zero_is = h.at_first in (
          omega arith,
          subst Q (sym h.code_is) (subst R (sym h.at_first)
              (bad_byte b bs refl (no_row b h.not_space h.not_percent h.not_string h.not_hyperlink h.not_quote) (no_token minus (b ∷ bs) code n e h.code_is h.at_first))),
        )

-- what is there is found

-- a token at the front has a fault
pub record IsTokenFault (minus : Bool) (text : List ℕ) (code : ℕ) (skipped : List ℕ) : Type 0 where
  pub kind : Kind
  pub bytes : List ℕ
  pub after : List ℕ
  pub token : BeginsToken minus kind bytes after text
  pub fault : TokenFault kind bytes after code
  pub none_skipped : skipped ≡ []

gap_first : {bytes after : List ℕ} → Gap bytes after → (b : ℕ) (bs : List ℕ) → bytes ++ after ≡ b ∷ bs → (is_ascii_whitespace b ≡ true) ⊎ (b ≡ 37) ⊎ (b ≡ 47)
gap_first (separator c after h) b bs e = inl (ap is_ascii_whitespace (sym (head_is e)) ∙ h)
gap_first (percent line after h g) b bs e = inr (inl (sym (head_is e)))
gap_first (slashes line after h g) b bs e = inr (inr (sym (head_is e)))
gap_first (block inside after h) b bs e = inr (inr (sym (head_is e)))

slash_spells : (minus : Bool) (b : ℕ) (bs : List ℕ) → b ≡ 47 → BeginsNoToken minus (b ∷ bs) → ⊥
slash_spells minus b bs e none = none Slash (47 ∷ []) bs refl (ap (λ x. x ∷ bs) e)

-- only this fault can stand at such a byte
bad_byte_alone : (minus : Bool) (b : ℕ) (bs : List ℕ) (code : ℕ) (skipped : List ℕ) → b ≢ 34 → b ≢ 33 → b ≢ 39 → BeginsNoToken minus (b ∷ bs)
    → Wrong minus (b ∷ bs) code skipped → (code ≡ 2) × (skipped ≡ [])
bad_byte_alone minus b bs _ _ string_not link_not quote_not none (bad_byte c after e r n) = (refl, refl)
bad_byte_alone minus b bs _ _ string_not link_not quote_not none (bad_quoted_byte c inside name after e q n x y) = absurd (quote_not (head_is e))
bad_byte_alone minus b bs _ _ string_not link_not quote_not none (open_quote inside name after e q l) = absurd (quote_not (head_is e))
bad_byte_alone minus b bs _ _ string_not link_not quote_not none (open_comment inside e h) = absurd (slash_spells minus b bs (head_is e) none)
bad_byte_alone minus b bs _ _ string_not link_not quote_not none (wrong_token kind bytes after code t f) = absurd (none kind bytes after t.spells t.stands)
bad_byte_alone minus b bs _ _ string_not link_not quote_not none (string after e) = absurd (string_not (head_is e))
bad_byte_alone minus b bs _ _ string_not link_not quote_not none (inline_code after e) = absurd (none LBracket (91 ∷ []) (58 ∷ after) refl e)
bad_byte_alone minus b bs _ _ string_not link_not quote_not none (hyperlink after e) = absurd (link_not (head_is e))

bad_byte_piece : (minus : Bool) (b : ℕ) (bs : List ℕ) → is_ascii_whitespace b ≡ false → b ≢ 37 → b ≢ 34 → b ≢ 33 → b ≢ 39 → BeginsNoToken minus (b ∷ bs)
    → piece_of minus (b ∷ bs) ≡ piece.Wrong 2 0
bad_byte_piece minus b bs space percent_not string_not link_not quote_not none = go (piece_of minus (b ∷ bs)) refl
  where
    gap_not : (is_ascii_whitespace b ≡ true) ⊎ (b ≡ 37) ⊎ (b ≡ 47) → ⊥
    gap_not (inl h) = cc
    gap_not (inr (inl h)) = percent_not h
    gap_not (inr (inr h)) = slash_spells minus b bs h none

    go : (p : Piece) → piece_of minus (b ∷ bs) ≡ p → piece_of minus (b ∷ bs) ≡ piece.Wrong 2 0
    go (piece.Gap n) e = absurd (gap_not (gap_first (gap_found minus b bs n e).gap b bs (take-append-drop n (b ∷ bs))))
    go (piece.Token kind n) e = let t = token_found minus kind b bs n e in absurd (none kind _ _ t.spells t.stands)
    go (piece.Wrong code n) e =
        let w = wrong_found minus b bs code n e in
        let alone = bad_byte_alone minus b bs code (take n (b ∷ bs)) string_not link_not quote_not none w.1 in
        let size = length-take-le n (b ∷ bs) w.0 in
        let nothing = ap length alone.1 in
        let zero_is : n ≡ 0 = omega arith in
        e ∙ ap (λ c. piece.Wrong c n) alone.0 ∙ ap (λ m. piece.Wrong 2 m) zero_is

-- what is wrong is found as such, or is the fault of a token
pub fault_piece : {minus : Bool} {text : List ℕ} {code : ℕ} {skipped : List ℕ} → Wrong minus text code skipped
    → (piece_of minus text ≡ piece.Wrong code (length skipped)) ⊎ IsTokenFault minus text code skipped
fault_piece {minus = minus} (bad_byte b after e r n) =
    let P : List ℕ → Type 0 = BeginsNoToken minus in
    let o = row_parts b r in
    inl (ap (piece_of minus) e ∙ bad_byte_piece minus b after o.space o.percent o.string o.hyperlink o.quote (subst P e n))
fault_piece {minus = minus} (bad_quoted_byte b inside name after e q n x y) = inl (ap (piece_of minus) e ∙ bad_quoted_piece minus b after q n x y)
fault_piece {minus = minus} (open_quote inside name after e q l) = inl (ap (piece_of minus) e ∙ open_quote_piece minus after q l)
fault_piece {minus = minus} (open_comment inside e h) = inl (ap (piece_of minus) e ∙ open_comment_piece minus inside h)
fault_piece (wrong_token kind bytes after code t f) = inr (record { kind = kind; bytes = bytes; after = after; token = t; fault = f; none_skipped = refl })
fault_piece {minus = minus} (string after e) = inl (ap (piece_of minus) e)
fault_piece {minus = minus} (inline_code after e) = inl (ap (piece_of minus) e)
fault_piece {minus = minus} (hyperlink after e) = inl (ap (piece_of minus) e)

-- one alone

-- two lists that are cut at the same length have the same parts
pub same_front : {xs ys us vs : List ℕ} → xs ++ ys ≡ us ++ vs → length xs ≡ length us → (xs ≡ us) × (ys ≡ vs)
same_front {xs = xs} {ys = ys} {us = us} {vs = vs} e l = (
  sym (take_at xs ys (length xs) refl) ∙ ap (take (length xs)) e ∙ take_at us vs (length xs) (sym l),
  sym (drop_at xs ys (length xs) refl) ∙ ap (drop (length xs)) e ∙ drop_at us vs (length xs) (sym l),
)

-- at one place one gap begins
pub one_gap : {xs ys us vs : List ℕ} → xs ++ ys ≡ us ++ vs → Gap xs ys → Gap us vs → (xs ≡ us) × (ys ≡ vs)
one_gap {xs = xs} {us = us} e g h =
    let pieces : piece.Gap (length xs) ≡ piece.Gap (length us) = sym (gap_piece true g) ∙ ap (piece_of true) e ∙ gap_piece true h in
    same_front e cc

-- two tokens are the same
pub record SameToken (kind : Kind) (xs ys : List ℕ) (other : Kind) (us vs : List ℕ) : Type 0 where
  pub kinds : kind ≡ other
  pub bytes : xs ≡ us
  pub rests : ys ≡ vs

-- at one place one token begins
pub one_token : {minus : Bool} {kind other : Kind} {xs ys us vs text : List ℕ} → BeginsToken minus kind xs ys text → BeginsToken minus other us vs text → SameToken kind xs ys other us vs
one_token {kind = kind} {other = other} {xs = xs} {us = us} t o =
    let pieces : piece.Token kind (length xs) ≡ piece.Token other (length us) = sym (token_piece t) ∙ token_piece o in
    let parts = same_front (sym t.stands ∙ o.stands) cc in
    record { kinds = cc; bytes = parts.0; rests = parts.1 }

-- and not both
pub gap_or_token : {minus : Bool} {kind : Kind} {xs ys us vs text : List ℕ} → text ≡ xs ++ ys → Gap xs ys → BeginsToken minus kind us vs text → ⊥
gap_or_token {minus = minus} {kind = kind} {xs = xs} {us = us} e g t =
    let pieces : piece.Gap (length xs) ≡ piece.Token kind (length us) = sym (gap_piece minus g) ∙ ap (piece_of minus) (sym e) ∙ token_piece t in
    cc

int_not_long : (kind : Kind) (bytes : List ℕ) → kind ≡ Int → TooLong kind bytes → ⊥
int_not_long kind bytes e l = let P : Kind → Type 0 = λ k. TooLong k bytes in subst P e l

one_code : {kind : Kind} {bytes after : List ℕ} {code other : ℕ} → TokenFault kind bytes after code → TokenFault kind bytes after other → code ≡ other
one_code (integer_out_of_range k f r) (integer_out_of_range k' f' r') = refl
one_code (integer_out_of_range k f r) (long_name l) = absurd (int_not_long _ _ k l)
one_code (integer_out_of_range k f r) (floating_point k' g) = absurd (f g)
one_code (long_name l) (integer_out_of_range k f r) = absurd (int_not_long _ _ k l)
one_code (long_name l) (long_name m) = refl
one_code (long_name l) (floating_point k g) = absurd (int_not_long _ _ k l)
one_code (floating_point k g) (integer_out_of_range k' f r) = absurd (f g)
one_code (floating_point k g) (long_name l) = absurd (int_not_long _ _ k l)
one_code (floating_point k g) (floating_point k' g') = refl

wrong_front : {minus : Bool} {text : List ℕ} {code : ℕ} {skipped : List ℕ} → Wrong minus text code skipped → (rest : List ℕ) × (text ≡ skipped ++ rest)
wrong_front {text = text} (bad_byte b after e r n) = (text, refl)
wrong_front (bad_quoted_byte b inside name after e q n x y) = (b ∷ after, e)
wrong_front {text = text} (open_quote inside name after e q l) = (text, refl)
wrong_front {text = text} (open_comment inside e h) = (text, refl)
wrong_front {text = text} (wrong_token kind bytes after code t f) = (text, refl)
wrong_front {text = text} (string after e) = (text, refl)
wrong_front {text = text} (inline_code after e) = (text, refl)
wrong_front {text = text} (hyperlink after e) = (text, refl)

-- at one place one thing is wrong
pub one_fault : {minus : Bool} {text : List ℕ} {code other : ℕ} {skipped passed : List ℕ} → Wrong minus text code skipped → Wrong minus text other passed → (code ≡ other) × (skipped ≡ passed)
one_fault {minus = minus} {text = text} {code = code} {other = other} {skipped = skipped} {passed = passed} w v = go (fault_piece w) (fault_piece v)
  where
    go : (piece_of minus text ≡ piece.Wrong code (length skipped)) ⊎ IsTokenFault minus text code skipped
        → (piece_of minus text ≡ piece.Wrong other (length passed)) ⊎ IsTokenFault minus text other passed → (code ≡ other) × (skipped ≡ passed)
    go (inl e) (inl f) =
        let pieces : piece.Wrong code (length skipped) ≡ piece.Wrong other (length passed) = sym e ∙ f in
        (cc, (same_front (sym (wrong_front w).1 ∙ (wrong_front v).1) cc).0)
    go (inl e) (inr g) = absurd (let pieces = sym e ∙ token_piece g.token in cc)
    go (inr g) (inl e) = absurd (let pieces = sym e ∙ token_piece g.token in cc)
    go (inr g) (inr h) =
        let same = one_token g.token h.token in
        let P : Kind → Type 0 = λ k. TokenFault k h.bytes h.after code in
        let Q : List ℕ → Type 0 = λ x. TokenFault g.kind x h.after code in
        let R : List ℕ → Type 0 = λ x. TokenFault g.kind g.bytes x code in
        (one_code (subst P same.kinds (subst Q same.bytes (subst R same.rests g.fault))) h.fault, g.none_skipped ∙ sym h.none_skipped)

-- a gap is not wrong
pub gap_not_wrong : {minus : Bool} {xs ys text : List ℕ} {code : ℕ} {skipped : List ℕ} → text ≡ xs ++ ys → Gap xs ys → Wrong minus text code skipped → ⊥
gap_not_wrong {minus = minus} {xs = xs} {text = text} {code = code} {skipped = skipped} e g w = go (fault_piece w)
  where
    go : (piece_of minus text ≡ piece.Wrong code (length skipped)) ⊎ IsTokenFault minus text code skipped → ⊥
    go (inl f) = let pieces : piece.Gap (length xs) ≡ piece.Wrong code (length skipped) = sym (gap_piece minus g) ∙ ap (piece_of minus) (sym e) ∙ f in cc
    go (inr f) = gap_or_token e g f.token

-- nor a token without a fault
pub token_not_wrong : {minus : Bool} {kind : Kind} {xs ys text : List ℕ} {code : ℕ} {skipped : List ℕ} → BeginsToken minus kind xs ys text
    → ((found : ℕ) → TokenFault kind xs ys found → ⊥) → Wrong minus text code skipped → ⊥
token_not_wrong {minus = minus} {kind = kind} {xs = xs} {ys = ys} {text = text} {code = code} {skipped = skipped} t none w = go (fault_piece w)
  where
    go : (piece_of minus text ≡ piece.Wrong code (length skipped)) ⊎ IsTokenFault minus text code skipped → ⊥
    go (inl f) = let pieces : piece.Token kind (length xs) ≡ piece.Wrong code (length skipped) = sym (token_piece t) ∙ f in cc
    go (inr f) =
        let same = one_token t f.token in
        let P : Kind → Type 0 = λ k. TokenFault k f.bytes f.after code in
        let Q : List ℕ → Type 0 = λ x. TokenFault kind x f.after code in
        let R : List ℕ → Type 0 = λ x. TokenFault kind xs x code in
        none code (subst R (sym same.rests) (subst Q (sym same.bytes) (subst P (sym same.kinds) f.fault)))

-- nothing is wrong at the end of a text
pub nothing_wrong : {minus : Bool} {code : ℕ} {skipped : List ℕ} → Wrong minus [] code skipped → ⊥
nothing_wrong (bad_byte b after e r n) = cc
nothing_wrong (bad_quoted_byte b inside name after e q n x y) = cc
nothing_wrong (open_quote inside name after e q l) = cc
nothing_wrong (open_comment inside e h) = cc
nothing_wrong (wrong_token kind bytes after code t f) = let e = token_piece t in cc
nothing_wrong (string after e) = cc
nothing_wrong (inline_code after e) = cc
nothing_wrong (hyperlink after e) = cc
