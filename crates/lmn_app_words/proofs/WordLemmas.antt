-- What single words are: numbers, names of options, values.
use Rattle.std.proofs.Common.{◌≡◌, ℕ, suc, ◌+◌, ◌<◌, ◌≤◌, ◌^◌, ◌==◌, ◌&&◌, not, nat_le, Bool, true, false, if◌then◌else◌, cond, [], ◌∷◌, ◌++◌, length, take, drop, Option, Some, None, Result, Ok, Err, option_map, option_and_then, OkIff, bytes_eq, codes, inl, inr, refl, sym, ap, ◌∙◌, subst, arith}
use Rattle.std.specs.List.{list_all}
use Rattle.std.specs.Result.{result_ok}
use Rattle.std.specs.Char.{digit_value}
use Rattle.std.specs.Str.Parse.{AllDigits, IsNumeral, digits_value, without_leading_plus}
use Rattle.std.proofs.lemmas.Bool.{le-leb, leb-true, eq-eqb, eqb-true, and_from}
use Rattle.std.proofs.lemmas.Option.{none-some, same_Some, option_and_then_some}
use Rattle.std.proofs.lemmas.Str.{digit_value_digit}
use Rattle.std.proofs.lemmas.Str.Parse.{digit_from_value, digits_value_short, numerals_by_value, tells_digits}
use Rattle.lmn_app_words.specs.declared.setting.Setting.{Setting}
use Rattle.lmn_app_words.specs.declared.setting.Setting.TheVariants as set
use Rattle.lmn_app_words.specs.declared.setting.Flag.{Flag}
use Rattle.lmn_app_words.specs.declared.setting.Flag.TheVariants as flag
use Rattle.lmn_app_words.specs.declared.setting.Valued.{Valued}
use Rattle.lmn_app_words.specs.declared.setting.Valued.TheVariants as valued
use Rattle.lmn_app_words.specs.declared.setting.OrderName.{OrderName}
use Rattle.lmn_app_words.specs.declared.setting.OrderName.TheVariants as name
use Rattle.lmn_app_words.specs.Forms.{CommandWord, IsFileName, IsNumber, flag_word, order_word, Sets}
use Rattle.lmn_app_words.specs.Hearing.{begins_with, is_file_name, is_digit, number_written, number_from, order_named, flag_named, option_named, setting_of, equals_at}
use Rattle.lmn_base.proofs.Numbers.{unequal as not_same}
use Rattle.lmn_base.proofs.Truth.{first_true as and_first, not_true as not_false, second_true as and_second, bool_cases}
use Rattle.std.proofs.lemmas.Slice.Eq.{bytes_eq-Decides}

-- words that pass the test are the same
pub is_bytes : (w v : CommandWord) → bytes_eq w v ≡ true → w ≡ v
is_bytes w v e = (bytes_eq-Decides w v).0 e

-- ---- tests and options

-- from false being true anything follows
pub false_true : {P : Type 0} → false ≡ true → P
false_true e = absurd (cc)

-- a choice that gives a value gives that of one side
pub if_some : {A P : Type 0} (b : Bool) (x y : Option A) (r : A) → (if b then x else y) ≡ Some r → (b ≡ true → x ≡ Some r → P) → (b ≡ false → y ≡ Some r → P) → P
if_some true x y r e then' else' = then' refl e
if_some false x y r e then' else' = else' refl e

-- a change that gives a value gives that of one
pub map_some : {A B P : Type 0} (f : A → B) (o : Option A) (y : B) → option_map f o ≡ Some y → ((x : A) → o ≡ Some x → f x ≡ y → P) → P
map_some f None y e k = absurd (none-some y e)
map_some f (Some x) y e k = k x refl (same_Some (f x) y e)

-- where the first answers, the second decides
pub then_some : {A B : Type 0} (f : A → Option B) (o : Option A) (x : A) (r : Option B) → o ≡ Some x → f x ≡ r → option_and_then f o ≡ r
then_some f o x r e g = ap (option_and_then f) e ∙ g

-- ---- numbers

digit_below : (b : ℕ) → is_digit b ≡ true → digit_value b < 10
digit_below b e =
    let low = leb-true 48 b (and_first (nat_le 48 b) (nat_le b 57) e) in
    let high = leb-true b 57 (and_second (nat_le 48 b) (nat_le b 57) e) in
    omega (arith, digit_value_digit b (low, high), high)

below_digit : (b : ℕ) → digit_value b < 10 → is_digit b ≡ true
below_digit b h =
    let r = digit_from_value b h in
    and_from (nat_le 48 b) (nat_le b 57) (le-leb 48 b r.0) (le-leb b 57 r.1)

all_below : (w : CommandWord) → list_all is_digit w ≡ true → AllDigits 10 w
all_below [] e = tt
all_below (b ∷ w) e = (digit_below b (and_first (is_digit b) (list_all is_digit w) e), all_below w (and_second (is_digit b) (list_all is_digit w) e))

below_all : (w : CommandWord) → AllDigits 10 w → list_all is_digit w ≡ true
below_all [] h = refl
below_all (b ∷ w) h = and_from (is_digit b) (list_all is_digit w) (below_digit b h.0) (below_all w h.1)

number_if : (w : CommandWord) (n : ℕ) (a b c : Bool) → (if not a && (b && c) then Some (digits_value 10 w) else None) ≡ Some n → (a ≡ false) × (b ≡ true) × (c ≡ true) × (digits_value 10 w ≡ n)
number_if w n false true true e = (refl, refl, refl, same_Some (digits_value 10 w) n e)
number_if w n false true false e = absurd (none-some n e)
number_if w n false false c e = absurd (none-some n e)
number_if w n true b c e = absurd (none-some n e)

not_empty : (w : CommandWord) → (length w == 0) ≡ false → 0 < length w
not_empty [] e = false_true (sym e)
not_empty (b ∷ w) e = omega arith

has_some : (w : CommandWord) → 0 < length w → (length w == 0) ≡ false
has_some [] h = absurd (omega (arith, h))
has_some (b ∷ w) h = not_same (length (b ∷ w)) 0 (λ e. omega (arith, e))

-- what is read as a number is 1 to 19 digits
pub number_told : (w : CommandWord) (n : ℕ) → number_written w ≡ Some n → IsNumeral 10 w × (length w ≤ 19) × (digits_value 10 w ≡ n)
number_told w n e =
    let t = number_if w n (length w == 0) (nat_le (length w) 19) (list_all is_digit w) e in
    ((not_empty w t.0, all_below w t.2), leb-true (length w) 19 t.1, t.3)

number_if_true : (w : CommandWord) (a b c : Bool) → a ≡ false → b ≡ true → c ≡ true → (if not a && (b && c) then Some (digits_value 10 w) else None) ≡ Some (digits_value 10 w)
number_if_true w false true true e f g = refl
number_if_true w false true false e f g = false_true g
number_if_true w false false c e f g = false_true f
number_if_true w true b c e f g = false_true (sym e)

-- and 1 to 19 digits are read
pub number_read : (w : CommandWord) → IsNumeral 10 w → length w ≤ 19 → number_written w ≡ Some (digits_value 10 w)
number_read w h l = number_if_true w (length w == 0) (nat_le (length w) 19) (list_all is_digit w) (has_some w h.0) (le-leb (length w) 19 l) (below_all w h.1)

-- without a plus in front the text is as it is
no_plus : (w : CommandWord) → begins_with 43 w ≡ false → without_leading_plus w ≡ w
no_plus [] e = refl
no_plus (b ∷ w) e = go (b == 43) e
  where
    go : (t : Bool) → t ≡ false → drop (if t then 1 else 0) (b ∷ w) ≡ b ∷ w
    go true e = false_true (sym e)
    go false e = refl

digits_fit : (w : CommandWord) → AllDigits 10 w → length w ≤ 19 → digits_value 10 w < 2 ^ 64
digits_fit w h l =
    let short : digits_value 10 w < 10000000000000000000 = digits_value_short (numerals_by_value (AllDigits 10) tells_digits) w 19 h l in
    omega (arith, short)

number_parsed_at : {E : Type 0} (w v : CommandWord) (r : Result ℕ E) → v ≡ w → length w ≤ 19 → OkIff r (IsNumeral 10 v × (digits_value 10 v < 2 ^ 64)) (digits_value 10 v) → result_ok r ≡ number_written w
number_parsed_at w v (Ok n) same l h =
    let P : CommandWord → Type 0 = λ x. (IsNumeral 10 x × (digits_value 10 x < 2 ^ 64)) × (n ≡ digits_value 10 x) in
    let k : P w = subst P same h in
    ap Some k.1 ∙ sym (number_read w k.0.0 l)
number_parsed_at w v (Err e) same l h = go (number_written w) refl
  where
    go : (o : Option ℕ) → number_written w ≡ o → None ≡ o
    go None f = refl
    go (Some n) f = absurd (
        let t = number_told w n f in
        let P : CommandWord → Type 0 = λ x. IsNumeral 10 x × (digits_value 10 x < 2 ^ 64) in
        h (subst P (sym same) (t.0, digits_fit w t.0.1 l)))

-- what `parse` answers of a short word without a plus in front
pub number_parsed : {E : Type 0} (w : CommandWord) (r : Result ℕ E) → length w ≤ 19 → begins_with 43 w ≡ false
    → OkIff r (IsNumeral 10 (without_leading_plus w) × (digits_value 10 (without_leading_plus w) < 2 ^ 64)) (digits_value 10 (without_leading_plus w)) → result_ok r ≡ number_written w
number_parsed w r l e h = number_parsed_at w (without_leading_plus w) r (no_plus w e) l h

-- a number from a range is a number and in it
pub number_from_told : (least most : ℕ) (w : CommandWord) (n : ℕ) → number_from least most w ≡ Some n → IsNumber least most w n
number_from_told least most w n e = option_and_then_some (λ m. if nat_le least m && nat_le m most then Some m else None) (number_written w) n e (λ m is answers.
    let t = number_told w m is in
    if_some (nat_le least m && nat_le m most) (Some m) None n answers
    (λ both same.
    let here : m ≡ n = same_Some m n same in
    let P : ℕ → Type 0 = IsNumber least most w in
    subst P here (t.0, t.1, t.2, leb-true least m (and_first (nat_le least m) (nat_le m most) both), leb-true m most (and_second (nat_le least m) (nat_le m most) both)))
    (λ f g. absurd (none-some n g)))

-- a number in range is read
pub number_from_read : (least most : ℕ) (w : CommandWord) (n : ℕ) → IsNumber least most w n → number_from least most w ≡ Some n
number_from_read least most w n h =
    then_some (λ m. if nat_le least m && nat_le m most then Some m else None) (number_written w) n (Some n)
    (number_read w h.0 h.1 ∙ ap Some h.2)
    (ap (λ b. if b then Some n else None) (and_from (nat_le least n) (nat_le n most) (le-leb least n h.3) (le-leb n most h.4)))

-- ---- names

-- the name of an option with a value
abbrev pub option_word : Valued → CommandWord
option_word valued.Budget = codes "--budget"
option_word valued.Size = codes "--size"
option_word valued.Order = codes "--order"
option_word valued.Seed = codes "--seed"

-- a word that is read as a flag is its word
pub flag_told : (w : CommandWord) (f : Flag) → flag_named w ≡ Some f → w ≡ flag_word f
flag_told w f e =
    if_some (bytes_eq w (codes "--trace")) _ _ f e (λ t s. is_bytes w _ t ∙ ap flag_word (same_Some flag.Trace f s)) (λ no e.
    if_some (bytes_eq w (codes "--folded")) _ _ f e (λ t s. is_bytes w _ t ∙ ap flag_word (same_Some flag.Folded f s)) (λ no e.
    absurd (none-some f e)))

-- and one that is read as an option
pub option_told : (w : CommandWord) (o : Valued) → option_named w ≡ Some o → w ≡ option_word o
option_told w o e =
    if_some (bytes_eq w (codes "--budget")) _ _ o e (λ t s. is_bytes w _ t ∙ ap option_word (same_Some valued.Budget o s)) (λ f e.
    if_some (bytes_eq w (codes "--size")) _ _ o e (λ t s. is_bytes w _ t ∙ ap option_word (same_Some valued.Size o s)) (λ f e.
    if_some (bytes_eq w (codes "--order")) _ _ o e (λ t s. is_bytes w _ t ∙ ap option_word (same_Some valued.Order o s)) (λ f e.
    if_some (bytes_eq w (codes "--seed")) _ _ o e (λ t s. is_bytes w _ t ∙ ap option_word (same_Some valued.Seed o s)) (λ f e.
    absurd (none-some o e)))))

order_told : (w : CommandWord) (o : OrderName) → order_named w ≡ Some o → w ≡ order_word o
order_told w o e =
    if_some (bytes_eq w (codes "first")) _ _ o e (λ t s. is_bytes w _ t ∙ ap order_word (same_Some name.First o s)) (λ f e.
    if_some (bytes_eq w (codes "turn")) _ _ o e (λ t s. is_bytes w _ t ∙ ap order_word (same_Some name.Turn o s)) (λ f e.
    if_some (bytes_eq w (codes "seed")) _ _ o e (λ t s. is_bytes w _ t ∙ ap order_word (same_Some name.Seed o s)) (λ f e.
    absurd (none-some o e))))

-- the word of an order is read as that order
pub order_read : (o : OrderName) → order_named (order_word o) ≡ Some o
order_read name.First = refl
order_read name.Turn = refl
order_read name.Seed = refl

-- what an option sets with a value
pub setting_told : (o : Valued) (value : CommandWord) (s : Setting) → setting_of o value ≡ Some s → Sets (option_word o) value s
setting_told valued.Budget value s e = map_some set.Budget (number_from 0 9223372036854775807 value) s e (λ n is same.
    subst (Sets (option_word valued.Budget) value) same (refl, number_from_told 0 9223372036854775807 value n is))
setting_told valued.Size value s e = map_some set.Size (number_from 1 4294967295 value) s e (λ n is same.
    subst (Sets (option_word valued.Size) value) same (refl, number_from_told 1 4294967295 value n is))
setting_told valued.Order value s e = map_some set.Order (order_named value) s e (λ o is same.
    subst (Sets (option_word valued.Order) value) same (refl, order_told value o is))
setting_told valued.Seed value s e = map_some set.Seed (number_from 0 9223372036854775807 value) s e (λ n is same.
    subst (Sets (option_word valued.Seed) value) same (refl, number_from_told 0 9223372036854775807 value n is))

-- what sets something is one of the options
pub setting_read : (option value : CommandWord) (s : Setting) → Sets option value s → (o : Valued) × (option ≡ option_word o) × (setting_of o value ≡ Some s)
setting_read option value (set.Flag f) h = absurd h
setting_read option value (set.Budget n) h = (valued.Budget, h.0, ap (option_map set.Budget) (number_from_read 0 9223372036854775807 value n h.1))
setting_read option value (set.Size n) h = (valued.Size, h.0, ap (option_map set.Size) (number_from_read 1 4294967295 value n h.1))
setting_read option value (set.Order kind) h = (valued.Order, h.0, ap (option_map set.Order) (ap order_named h.1 ∙ order_read kind))
setting_read option value (set.Seed n) h = (valued.Seed, h.0, ap (option_map set.Seed) (number_from_read 0 9223372036854775807 value n h.1))

-- ---- files

-- a word that is read as a file is one
pub file_told : (w : CommandWord) → is_file_name w ≡ true → IsFileName w
file_told [] e = false_true e
file_told (b ∷ w) e = λ is. false_true (sym (not_false (b == 45) e) ∙ eq-eqb b 45 is)

-- and the other way round
pub file_read_is : (w : CommandWord) → IsFileName w → is_file_name w ≡ true
file_read_is [] h = absurd h
file_read_is (b ∷ w) h = elim (bool_cases (b == 45)) [
  | inl e ↦ absurd (h (eqb-true b 45 e))
  | inr e ↦ ap not e
]

-- ---- cut at `=`

cut_step : (b : ℕ) (w : CommandWord) (j : ℕ) → ((j ≡ length w → ⊥) → w ≡ take j w ++ (61 ∷ drop (j + 1) w))
    → (suc j ≡ length (b ∷ w) → ⊥) → b ∷ w ≡ take (suc j) (b ∷ w) ++ (61 ∷ drop (suc j + 1) (b ∷ w))
cut_step b w j more h =
    let P : ℕ → Type 0 = λ m. b ∷ w ≡ take (suc j) (b ∷ w) ++ (61 ∷ drop m (b ∷ w)) in
    let next : suc (j + 1) ≡ suc j + 1 = omega arith in
    subst P next (ap (λ x. b ∷ x) (more (λ e. h (ap suc e))))

-- a word with an `=` is what stands before the first, that, and what stands behind it
pub cut_told : (w : CommandWord) → (equals_at w ≡ length w → ⊥) → w ≡ take (equals_at w) w ++ (61 ∷ drop (equals_at w + 1) w)
cut_told [] h = absurd (h refl)
cut_told (b ∷ w) h = elim (bool_cases (b == 61)) [
  | inl e ↦ let at : equals_at (b ∷ w) ≡ 0 = ap (λ t. cond (not t) (1 + equals_at w) 0) e in
      let P : ℕ → Type 0 = λ k. b ∷ w ≡ take k (b ∷ w) ++ (61 ∷ drop (k + 1) (b ∷ w)) in
      subst P (sym at) (ap (λ x. x ∷ w) (eqb-true b 61 e))
  | inr e ↦ let at : equals_at (b ∷ w) ≡ suc (equals_at w) = ap (λ t. cond (not t) (1 + equals_at w) 0) e ∙ omega arith in
      let P : ℕ → Type 0 = λ k. (k ≡ length (b ∷ w) → ⊥) → b ∷ w ≡ take k (b ∷ w) ++ (61 ∷ drop (k + 1) (b ∷ w)) in
      subst P (sym at) (cut_step b w (equals_at w) (cut_told w)) h
]
