-- The words of names, how they are spelled and what they mean.
use Rattle.std.proofs.Common.{◌≡◌, ℕ, ◌-◌, ◌==◌, ◌&&◌, Bool, true, false, not, if◌then◌else◌, List, [], ◌∷◌, ◌++◌, length, take, drop, inl, inr, refl, sym, ap, ◌∙◌, subst, arith}
use Rattle.std.specs.Prelude.{codes, bytes_eq}
use Rattle.std.specs.Char.{is_ascii_lowercase}
use Rattle.std.specs.List.{flat_map, list_all}
use Rattle.std.proofs.lemmas.Bool.Decides.{nat_tests}
use Rattle.std.proofs.lemmas.List.{take_at, length-append}
use Rattle.lmn_congruence.specs.Rules.{Name as NameOf, named}
use Rattle.lmn_lexer.specs.declared.token.Kind.TheVariants.{Name, Quoted, Mod}
use Rattle.lmn_lexer.specs.declared.token.Token.{Token}
use Rattle.lmn_lexer.specs.Spelling.{AllPass, IsQuoted, IsWord, Quotes, byte, goes_on, nothing, quote, is_bare_name}
use Rattle.lmn_parser.specs.Trees.{At, NameAt}
use Rattle.lmn_flatten_plain.specs.Meanings.{undoubled, name_spelled, label_spelled}
use Rattle.lmn_flatten_plain.specs.Words.{name_kind}
use Rattle.lmn_lexer.specs.NameText.{quoted, quoted_byte}
use Rattle.lmn_base.proofs.Truth.{and_true as both_true}

-- a bare name

all_pass : (test : ℕ → Bool) (bs : List ℕ) → list_all test bs ≡ true → AllPass test bs
all_pass test [] h = tt
all_pass test (b ∷ bs) h = let both = both_true (test b) (list_all test bs) h in (both.0, all_pass test bs both.1)

-- is a word
pub bare_word : (name : NameOf) → is_bare_name name ≡ true → IsWord is_ascii_lowercase name
bare_word [] h = absurd (cc)
bare_word (b ∷ bs) h = let both = both_true (is_ascii_lowercase b) (list_all goes_on bs) h in (both.0, all_pass goes_on bs both.1)

-- a name in quotes

not_quote : (a b : Bool) → (a && not b) ≡ true → b ≡ false
not_quote true true h = cc
not_quote true false h = refl
not_quote false b h = absurd (cc)

-- where a name can stand between quotes, it does with each quote twice
pub quotes_of : {inside name : List ℕ} → Quotes inside name → Quotes (flat_map quoted_byte name) name
quotes_of nothing = nothing
quotes_of (quote q) = quote (quotes_of q)
quotes_of (byte {b = b} {name = name} e q) =
    let P : List ℕ → Type 0 = λ x. Quotes (x ++ flat_map quoted_byte name) (b ∷ name) in
    subst P (sym (ap (λ t. if t then codes "''" else b ∷ []) (not_quote _ (b == 39) e))) (byte e (quotes_of q))

-- quotes that stand twice, taken back

undoubled_other : (b : ℕ) (bs : List ℕ) → (b == 39) ≡ false → undoubled (b ∷ bs) ≡ b ∷ undoubled bs
undoubled_other b [] h = refl
undoubled_other b (c ∷ bs) h = ap (λ t. if t then b ∷ undoubled bs else b ∷ undoubled (c ∷ bs)) h

is_quote : (b : ℕ) → (b == 39) ≡ true → b ≡ 39
is_quote b h = grind (arith, nat_tests)

undoubled_byte : (b : ℕ) (bs : List ℕ) (t : Bool) → (b == 39) ≡ t → undoubled (quoted_byte b ++ bs) ≡ b ∷ undoubled bs
undoubled_byte b bs true h = ap (λ t. undoubled ((if t then codes "''" else b ∷ []) ++ bs)) h ∙ ap (λ c. c ∷ undoubled bs) (sym (is_quote b h))
undoubled_byte b bs false h = ap (λ t. undoubled ((if t then codes "''" else b ∷ []) ++ bs)) h ∙ undoubled_other b bs h

undoubled_quoted : (name : NameOf) → undoubled (flat_map quoted_byte name) ≡ name
undoubled_quoted [] = refl
undoubled_quoted (b ∷ name) = undoubled_byte b (flat_map quoted_byte name) (b == 39) refl ∙ ap (λ bs. b ∷ bs) (undoubled_quoted name)

between : (name : NameOf) → name_spelled Quoted (quoted name) ≡ name
between name =
    let inside = flat_map quoted_byte name in
    let size = length-append inside (39 ∷ []) in
    ap undoubled (take_at inside (39 ∷ []) (length (39 ∷ (inside ++ 39 ∷ [])) - 2) (omega arith)) ∙ undoubled_quoted name

undoubled_name : {inside name : List ℕ} → Quotes inside name → undoubled inside ≡ name
undoubled_name nothing = refl
undoubled_name (quote h) = ap (λ z. 39 ∷ z) (undoubled_name h)
undoubled_name (byte {b = b} {bs = bs} e h) = undoubled_other b bs (not_quote _ (b == 39) e) ∙ ap (λ z. b ∷ z) (undoubled_name h)

-- a name in quotes is the one that stands between them
pub quoted_name : (bytes : List ℕ) (name : NameOf) → IsQuoted bytes name → name_spelled Quoted bytes ≡ name
quoted_name bytes name q =
    let size = ap length q.stands in
    let sum = length-append q.inside (39 ∷ []) in
    let n : length q.inside ≡ length bytes - 2 = omega arith in
    ap (λ x. undoubled (take (length bytes - 2) (drop 1 x))) q.stands ∙ ap undoubled (take_at q.inside (39 ∷ []) (length bytes - 2) n) ∙ undoubled_name q.quotes

-- a bare name, `mod` too

mod_or_name : (name : NameOf) (t : Bool) → label_spelled (if t then Mod else Name) name ≡ named name
mod_or_name name true = refl
mod_or_name name false = refl

name_means_by : (name : NameOf) (bare m : Bool) → label_spelled (if bare then (if m then Mod else Name) else Quoted) (if bare then name else quoted name) ≡ named name
name_means_by name true m = mod_or_name name m
name_means_by name false m = ap named (between name)

-- the word of a name means the name
pub name_means : (name : NameOf) → label_spelled (name_kind name) (if is_bare_name name then name else quoted name) ≡ named name
name_means name = name_means_by name (is_bare_name name) (bytes_eq name (codes "mod"))

spelled_by : (name : NameOf) (bare m : Bool) → name_spelled (if bare then (if m then Mod else Name) else Quoted) (if bare then name else quoted name) ≡ name
spelled_by name true true = refl
spelled_by name true false = refl
spelled_by name false m = between name

-- a name, in quotes where it must be, spells itself
pub name_spells : (name : NameOf) → name_spelled (name_kind name) (if is_bare_name name then name else quoted name) ≡ name
name_spells name = spelled_by name (is_bare_name name) (bytes_eq name (codes "mod"))

name_at_by : (ts : List Token) (p : ℕ) (bare m : Bool) → At ts p (if bare then (if m then Mod else Name) else Quoted) → NameAt ts p
name_at_by ts p true true h = inr (inr h)
name_at_by ts p true false h = inl h
name_at_by ts p false m h = inr (inl h)

-- a token of that kind is a name
pub name_is_at : (ts : List Token) (p : ℕ) (name : NameOf) → At ts p (name_kind name) → NameAt ts p
name_is_at ts p name h = name_at_by ts p (is_bare_name name) (bytes_eq name (codes "mod")) h
