-- The names that reading leaves stand in a line, and are few.
use Rattle.std.proofs.Common.{◌≡◌, ◌≢◌, ℕ, ◌+◌, ◌≤◌, Bool, true, false, if◌then◌else◌, List, [], ◌∷◌, ◌++◌, drop, length, refl, sym, subst, arith}
use Rattle.std.specs.Prelude.{codes, bytes_eq}
use Rattle.std.specs.Char.{is_ascii_lowercase}
use Rattle.std.specs.List.{AllByRecursion, list_any}
use Rattle.std.proofs.lemmas.Bool.Decides.{nat_tests}
use Rattle.std.proofs.lemmas.List.{length-append}
use Rattle.lmn_base.specs.Limits.{longest_name}
use Rattle.lmn_base.specs.Names.{first_names}
use Rattle.lmn_base.proofs.Lists.{all_append}
use Rattle.lmn_congruence.specs.Rules as tree
use Rattle.lmn_flatten.specs.NameLists.{has_name, with_name, with_word, with_words, names_read}
use Rattle.lmn_lexer.specs.Cutting.{Cuts, token_at}
use Rattle.lmn_lexer.specs.Faults.{NothingWrong, TokenFault, long_name}
use Rattle.lmn_lexer.specs.Laying.{Word, words_of}
use Rattle.lmn_lexer.specs.Spelling.{AllPass, IsWord, Quotes, Spells, begins_context, byte, goes_on, is_quotable, nothing, quote}
use Rattle.lmn_lexer.specs.Values.{IsSound, bytes_of}
use Rattle.lmn_lexer.specs.declared.token.Kind.{Kind}
use Rattle.lmn_lexer.specs.declared.token.Kind.TheVariants as kind
use Rattle.lmn_lexer.specs.declared.token.Token.{Token}
use Rattle.lmn_lexer.proofs.SoundTokens.{tokens_are_sound}
use Rattle.lmn_flatten_plain.specs.Meanings.{name_spelled}
use Rattle.lmn_flatten_plain.proofs.LabelWords.{quoted_name}
use Rattle.lmn_verify_listing.specs.Lines.{HasNo}
use Rattle.lmn_verify_listing.proofs.Places.{has_no_by_test}
use Rattle.lmn_verify_compiled.specs.ListedTables.{ArePlainNames}
use Rattle.lmn_base.proofs.Numbers.{at_most_by_not as at_most}

-- a name that stands in a line
abbrev IsPlainName : List ℕ → Type 0
IsPlainName name = (length name ≤ 255) × HasNo 10 name

-- ---- words

small_no_feed : (b : ℕ) → is_ascii_lowercase b ≡ true → b ≢ 10
small_no_feed b h = grind (arith, nat_tests)

context_no_feed : (b : ℕ) → begins_context b ≡ true → b ≢ 10
context_no_feed b h = grind (arith, nat_tests)

word_no_feed : (b : ℕ) → goes_on b ≡ true → b ≢ 10
word_no_feed b h = grind (arith, nat_tests)

quotable_no_feed : (b : ℕ) → is_quotable b ≡ true → b ≢ 10
quotable_no_feed b h = grind (arith, nat_tests)

all_no_feed : (bs : List ℕ) → AllPass goes_on bs → HasNo 10 bs
all_no_feed [] h = tt
all_no_feed (b ∷ bs) h = (word_no_feed b h.0, all_no_feed bs h.1)

name_no_feed : (bs : List ℕ) → IsWord is_ascii_lowercase bs → HasNo 10 bs
name_no_feed [] h = absurd h
name_no_feed (b ∷ bs) h = (small_no_feed b h.0, all_no_feed bs h.1)

context_word : (bs : List ℕ) → IsWord begins_context bs → HasNo 10 bs
context_word [] h = absurd h
context_word (b ∷ bs) h = (context_no_feed b h.0, all_no_feed bs h.1)

quoted_no_feed : {inside name : List ℕ} → Quotes inside name → HasNo 10 name
quoted_no_feed nothing = tt
quoted_no_feed (quote q) = ((λ e. absurd (omega (arith, e))), quoted_no_feed q)
quoted_no_feed (byte {b = b} h q) = (quotable_no_feed b h, quoted_no_feed q)

-- what a word spells that has a name
spelled_plain : (minus : Bool) (k : Kind) (bytes after : List ℕ) → Spells minus k bytes → ((code : ℕ) → TokenFault k bytes after code → ⊥) → has_name k ≡ true → IsPlainName (name_spelled k bytes)
spelled_plain minus kind.Name bytes after s right n = (at_most (length bytes) longest_name (λ l. right 5 (long_name l)), name_no_feed bytes s.0)
spelled_plain minus kind.Quoted bytes after s right n =
    subst IsPlainName (sym (quoted_name bytes s.0 s.1)) (at_most (length s.0) longest_name (λ l. right 5 (long_name (s.0, s.1, l))), quoted_no_feed s.1.quotes)
spelled_plain minus kind.Mod bytes after s right n = subst IsPlainName (sym s) (omega arith, has_no_by_test 10 (codes "mod") refl)
spelled_plain minus kind.Context [] after s right n = absurd s
spelled_plain minus kind.Context (b ∷ bs) after s right n = (at_most (length bs) longest_name (λ l. right 5 (long_name (omega (arith, l)))), context_word bs s.1)
spelled_plain minus kind.RuleCtx [] after s right n = absurd s
spelled_plain minus kind.RuleCtx (b ∷ bs) after s right n = (at_most (length bs) longest_name (λ l. right 5 (long_name (omega (arith, l)))), context_word bs s.1)
spelled_plain minus _ bytes after s right n = absurd (cc)

-- ---- lists

-- the name of a word, where it has one
abbrev IsPlainWord : Word → Type 0
IsPlainWord w = has_name w.kind ≡ true → IsPlainName (name_spelled w.kind w.bytes)

sound_plain : (text : List ℕ) (ts : List Token) → AllByRecursion (IsSound text) ts → AllByRecursion IsPlainWord (words_of text (ts ++ token_at kind.End text [] ∷ []))
sound_plain text [] h = ((λ n. absurd (cc)), tt)
sound_plain text (t ∷ ts) h =
    let s = h.0 in
    ((λ n. spelled_plain s.minus t.kind (bytes_of text t) (drop t.end text) s.spells s.right n), sound_plain text ts h.1)

added_plain : (names : List tree.Name) (name : tree.Name) → ArePlainNames names → IsPlainName name → ArePlainNames (with_name names name)
added_plain names name h p = on (list_any (bytes_eq name) names)
  where
    on : (t : Bool) → ArePlainNames (if t then names else names ++ name ∷ [])
    on true = h
    on false = all_append IsPlainName names (name ∷ []) h (p, tt)

word_plain : (names : List tree.Name) (w : Word) → ArePlainNames names → IsPlainWord w → ArePlainNames (with_word names w)
word_plain names w h p = on (has_name w.kind) p
  where
    on : (t : Bool) → (t ≡ true → IsPlainName (name_spelled w.kind w.bytes)) → ArePlainNames (if t then with_name names (name_spelled w.kind w.bytes) else names)
    on true q = added_plain names (name_spelled w.kind w.bytes) h (q refl)
    on false q = h

words_plain : (names : List tree.Name) (ws : List Word) → ArePlainNames names → AllByRecursion IsPlainWord ws → ArePlainNames (with_words names ws)
words_plain names [] h p = h
words_plain names (w ∷ ws) h p = words_plain (with_word names w) ws (word_plain names w h p.0) p.1

first_plain : ArePlainNames first_names
first_plain = (
  (omega arith, has_no_by_test 10 (codes "=") refl),
  (
    (omega arith, has_no_by_test 10 (codes "int") refl),
    (
      (omega arith, has_no_by_test 10 (codes "unary") refl),
      ((omega arith, has_no_by_test 10 (codes "ground") refl), tt),
    ),
  ),
)

-- the names that reading leaves stand in a line
pub read_plain : (text : List ℕ) (tokens : List Token) → Cuts text tokens → NothingWrong text → ArePlainNames (names_read first_names (words_of text tokens))
read_plain text tokens cut none =
    let sound = tokens_are_sound text tokens cut none in
    let words = subst (λ ts. AllByRecursion IsPlainWord (words_of text ts)) (sym sound.2) (sound_plain text sound.0 sound.1) in
    let cell = added_plain first_names (codes ".") first_plain (omega arith, has_no_by_test 10 (codes ".") refl) in
    let empty = added_plain (with_name first_names (codes ".")) (codes "[]") cell (omega arith, has_no_by_test 10 (codes "[]") refl) in
    let plus = added_plain (with_name (with_name first_names (codes ".")) (codes "[]")) (codes "+") empty (omega arith, has_no_by_test 10 (codes "+") refl) in
    words_plain (with_name (with_name (with_name first_names (codes ".")) (codes "[]")) (codes "+")) (words_of text tokens) plus words

-- ---- how many

added_few : (names : List tree.Name) (name : tree.Name) → length (with_name names name) ≤ length names + 1
added_few names name = on (list_any (bytes_eq name) names)
  where
    on : (t : Bool) → length (if t then names else names ++ name ∷ []) ≤ length names + 1
    on true = omega arith
    on false = let e = length-append names (name ∷ []) in omega (arith, e)

word_few : (names : List tree.Name) (w : Word) → length (with_word names w) ≤ length names + 1
word_few names w = on (has_name w.kind)
  where
    on : (t : Bool) → length (if t then with_name names (name_spelled w.kind w.bytes) else names) ≤ length names + 1
    on true = added_few names (name_spelled w.kind w.bytes)
    on false = omega arith

words_few : (names : List tree.Name) (ws : List Word) → length (with_words names ws) ≤ length names + length ws
words_few names [] = omega arith
words_few names (w ∷ ws) = let a = word_few names w in let b = words_few (with_word names w) ws in omega (arith, a, b)

-- reading leaves few names more than there are words
pub read_few : (ws : List Word) → length (names_read first_names ws) ≤ 7 + length ws
read_few ws =
    let cell = with_name first_names (codes ".") in
    let empty = with_name cell (codes "[]") in
    let a = added_few first_names (codes ".") in
    let b = added_few cell (codes "[]") in
    let c = added_few empty (codes "+") in
    let d = words_few (with_name empty (codes "+")) ws in
    omega (arith, a, b, c, d)
