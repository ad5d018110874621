-- What two texts begin with alike, gone through byte by byte.
use Rattle.std.proofs.Common.{ℕ, zero, suc, ◌≡◌, ◌∙◌, ◌+◌, ◌≤◌, Bool, true, false, not, List, [], ◌∷◌, Some, drop, length, refl, sym, ap, arith}
use Rattle.std.specs.Char.{is_ascii_digit}
use Rattle.std.specs.Prelude.{cond, ◌==◌, if◌then◌else◌, slice_get}
use Rattle.lmn_base.proofs.Lists.{drop_get}
use Rattle.lmn_base.proofs.Numbers.{equal_itself, unequal}
use Rattle.lmn_receipt_chain.specs.Alike.{alike, blurred, times}

-- ---- a byte of a text

-- a digit is left out,
pub at_digit : (xs : List ℕ) (i b : ℕ) → slice_get xs i ≡ Some b → is_ascii_digit b ≡ true → blurred (drop (i + 1) xs) ≡ blurred (drop i xs)
at_digit xs i b e d = sym (ap blurred (drop_get i xs b e) ∙ by (is_ascii_digit b) d)
  where
    by : (t : Bool) → t ≡ true → cond (not t) (b ∷ blurred (drop (i + 1) xs)) (blurred (drop (i + 1) xs)) ≡ blurred (drop (i + 1) xs)
    by true d = refl
    by false d = absurd (cc)

-- each other byte isn't,
pub at_byte : (xs : List ℕ) (i b : ℕ) → slice_get xs i ≡ Some b → is_ascii_digit b ≡ false → blurred (drop i xs) ≡ b ∷ blurred (drop (i + 1) xs)
at_byte xs i b e d = ap blurred (drop_get i xs b e) ∙ by (is_ascii_digit b) d
  where
    by : (t : Bool) → t ≡ false → cond (not t) (b ∷ blurred (drop (i + 1) xs)) (blurred (drop (i + 1) xs)) ≡ b ∷ blurred (drop (i + 1) xs)
    by false d = refl
    by true d = absurd (cc)

-- and at the end there is none.
pub at_end : (xs : List ℕ) (k : ℕ) → length xs ≤ k → blurred (drop k xs) ≡ []
at_end [] zero l = refl
at_end [] (suc k) l = refl
at_end (x ∷ xs) zero l = absurd (omega (arith, l))
at_end (x ∷ xs) (suc k) l = at_end xs k (omega (arith, l))

-- ---- two texts

module _ (brace : ℕ) where
  same_first : (b : ℕ) (xs ys : List ℕ) → times brace (alike (b ∷ xs) (b ∷ ys)) ≡ times brace (b ∷ []) + times brace (alike xs ys)
  same_first b xs ys = by (b == b) (equal_itself b)
    where
      by : (t : Bool) → t ≡ true → times brace (if t then b ∷ alike xs ys else []) ≡ times brace (b ∷ []) + times brace (alike xs ys)
      by true e = omega arith
      by false e = absurd (cc)

  other_first : (b c : ℕ) (xs ys : List ℕ) → (b ≡ c → ⊥) → times brace (alike (b ∷ xs) (c ∷ ys)) ≡ 0
  other_first b c xs ys d = by (b == c) (unequal b c d)
    where
      by : (t : Bool) → t ≡ false → times brace (if t then b ∷ alike xs ys else []) ≡ 0
      by false e = refl
      by true e = absurd (cc)

  none_right : (xs : List ℕ) → times brace (alike xs []) ≡ 0
  none_right [] = refl
  none_right (x ∷ xs) = refl

  -- So far: behind these places is left what isn't counted.
  pub record Compared (left right : List ℕ) (left_at right_at count : ℕ) : Type 0 where
    pub left_within : left_at ≤ length left
    pub right_within : right_at ≤ length right
    pub same : count + times brace (alike (blurred (drop left_at left)) (blurred (drop right_at right))) ≡ times brace (alike (blurred left) (blurred right))

  pub compared_first : (left right : List ℕ) → Compared left right 0 0 0
  compared_first left right = record { left_within = omega arith; right_within = omega arith; same = omega arith }

  module _ (left right : List ℕ) (left_at right_at count : ℕ) (so : Compared left right left_at right_at count) where
    -- where one byte more is the same,
    pub compared_more : (byte other left_behind right_behind more : ℕ) → blurred (drop left_at left) ≡ byte ∷ blurred (drop left_behind left) → left_behind ≤ length left
        → blurred (drop right_at right) ≡ other ∷ blurred (drop right_behind right) → right_behind ≤ length right → other ≡ byte → more ≡ count + times brace (byte ∷ []) → Compared left right left_behind right_behind more
    compared_more byte other left_behind right_behind more l in_left r in_right is counted =
        let both : times brace (alike (blurred (drop left_at left)) (blurred (drop right_at right))) ≡ times brace (alike (byte ∷ blurred (drop left_behind left)) (byte ∷ blurred (drop right_behind right))) =
        (λ i. times brace (alike (l i) ((r ∙ ap (λ z. z ∷ blurred (drop right_behind right)) is) i))) in
        let first = same_first byte (blurred (drop left_behind left)) (blurred (drop right_behind right)) in
        let same = so.same in
        record { left_within = in_left; right_within = in_right; same = omega (arith, both, first, same, counted) }

    -- and where one of the texts ends, or the next bytes aren't the same.
    pub left_ends : blurred (drop left_at left) ≡ [] → count ≡ times brace (alike (blurred left) (blurred right))
    left_ends e =
        let none : times brace (alike (blurred (drop left_at left)) (blurred (drop right_at right))) ≡ 0 = ap (λ z. times brace (alike z (blurred (drop right_at right)))) e in
        let same = so.same in
        omega (arith, none, same)

    pub right_ends : blurred (drop right_at right) ≡ [] → count ≡ times brace (alike (blurred left) (blurred right))
    right_ends e =
        let none = ap (λ z. times brace (alike (blurred (drop left_at left)) z)) e ∙ none_right (blurred (drop left_at left)) in
        let same = so.same in
        omega (arith, none, same)

    pub bytes_differ : (byte other left_behind right_behind : ℕ) → blurred (drop left_at left) ≡ byte ∷ blurred (drop left_behind left) → blurred (drop right_at right) ≡ other ∷ blurred (drop right_behind right)
        → (other ≡ byte → ⊥) → count ≡ times brace (alike (blurred left) (blurred right))
    bytes_differ byte other left_behind right_behind l r d =
        let none = (λ i. times brace (alike (l i) (r i))) ∙ other_first byte other (blurred (drop left_behind left)) (blurred (drop right_behind right)) (λ e. d (sym e)) in
        let same = so.same in
        omega (arith, none, same)
