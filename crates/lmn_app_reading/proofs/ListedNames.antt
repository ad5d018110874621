-- The list of names that reading leaves: it is one still, and holds the names of the tokens and those that abbreviations bring in.
use Rattle.std.proofs.Common.{◌≡◌, ℕ, zero, suc, ◌<◌, Bool, true, false, if◌then◌else◌, List, [], ◌∷◌, ◌++◌, length, slice_get, Some, Contains, Decides, refl, sym, ◌∙◌, subst, arith, true≢false}
use Rattle.std.specs.Prelude.{bytes_eq, codes}
use Rattle.std.specs.Cmp.Lexicographic.{nat_list_eq_equiv}
use Rattle.std.specs.List.{list_any}
use Rattle.std.proofs.lemmas.List.Elements.{Contains-append_left, Contains-append_right}
use Rattle.std.proofs.lemmas.Map.Views.{list_any-from_Contains, Contains-from_any}
use Rattle.std.proofs.lemmas.Option.{same_Some, slice_get_within}
use Rattle.std.proofs.lemmas.Slice.Eq.{bytes_eq-Decides}
use Rattle.lmn_base.specs.Names.{IsNames}
use Rattle.lmn_base.proofs.HeldNames.{one_more}
use Rattle.lmn_congruence.specs.Rules.{Name}
use Rattle.lmn_flatten.specs.NameLists.{has_name, names_read, with_name, with_word, with_words}
use Rattle.lmn_lexer.specs.Laying.{Word, word_of, words_of}
use Rattle.lmn_lexer.specs.declared.token.Token.{Token}
use Rattle.lmn_flatten_plain.specs.Meanings.{name_spelled}
use Rattle.lmn_flatten_plain.specs.Plains.{number_of}

-- ---- names that are put stay

-- names stay when one is put in
pub name_kept : (names : List Name) (m n : Name) → Contains names n → Contains (with_name names m) n
name_kept names m n h = go (list_any (bytes_eq m) names)
  where
    go : (b : Bool) → Contains (if b then names else names ++ m ∷ []) n
    go true = h
    go false = Contains-append_left names (m ∷ []) n h

word_kept : (names : List Name) (w : Word) (n : Name) → Contains names n → Contains (with_word names w) n
word_kept names w n h = go (has_name w.kind)
  where
    go : (b : Bool) → Contains (if b then with_name names (name_spelled w.kind w.bytes) else names) n
    go true = name_kept names (name_spelled w.kind w.bytes) n h
    go false = h

-- and when those of words are
pub words_kept : (names : List Name) (ws : List Word) (n : Name) → Contains names n → Contains (with_words names ws) n
words_kept names [] n h = h
words_kept names (w ∷ ws) n h = words_kept (with_word names w) ws n (word_kept names w n h)

-- a name that is put in is there
pub name_there : (names : List Name) (n : Name) → Contains (with_name names n) n
name_there names n = go (list_any (bytes_eq n) names) refl
  where
    go : (b : Bool) → list_any (bytes_eq n) names ≡ b → Contains (if b then names else names ++ n ∷ []) n
    go true e = Contains-from_any (λ x y. (bytes_eq-Decides x y).0) n names e
    go false e = Contains-append_right names (n ∷ []) n (0, omega arith, refl)

word_there : (names : List Name) (w : Word) → has_name w.kind ≡ true → Contains (with_word names w) (name_spelled w.kind w.bytes)
word_there names w h = go (has_name w.kind) h
  where
    go : (b : Bool) → b ≡ true → Contains (if b then with_name names (name_spelled w.kind w.bytes) else names) (name_spelled w.kind w.bytes)
    go true e = name_there names (name_spelled w.kind w.bytes)
    go false e = absurd (cc)

-- the name of each token of a kind with a name
pub words_there : (text : List ℕ) (names : List Name) (ts : List Token) (p : ℕ) (t : Token) → slice_get ts p ≡ Some t → has_name t.kind ≡ true
    → let w = word_of text t in Contains (with_words names (words_of text ts)) (name_spelled w.kind w.bytes)
words_there text names [] p t at h = absurd (let l = slice_get_within [] p t at in omega arith)
words_there text names (u ∷ ts) zero t at h =
    let P : Token → Type 0 = λ v. Contains (with_words names (words_of text (v ∷ ts))) (let w = word_of text t in name_spelled w.kind w.bytes) in
    let w = word_of text t in
    subst P (sym (same_Some u t at)) (words_kept (with_word names w) (words_of text ts) (name_spelled w.kind w.bytes) (word_there names w h))
words_there text names (u ∷ ts) (suc p) t at h = words_there text (with_word names (word_of text u)) ts p t at h

-- ---- the list is a list of names still

name_added : (names : List Name) (n : Name) → IsNames names → IsNames (with_name names n)
name_added names n is = go (list_any (bytes_eq n) names) refl
  where
    go : (b : Bool) → list_any (bytes_eq n) names ≡ b → IsNames (if b then names else names ++ n ∷ [])
    go true e = is
    go false e = one_more names n is (λ there. true≢false (sym (list_any-from_Contains nat_list_eq_equiv n names there) ∙ e))

word_added : (names : List Name) (w : Word) → IsNames names → IsNames (with_word names w)
word_added names w is = go (has_name w.kind)
  where
    go : (b : Bool) → IsNames (if b then with_name names (name_spelled w.kind w.bytes) else names)
    go true = name_added names (name_spelled w.kind w.bytes) is
    go false = is

words_added : (names : List Name) (ws : List Word) → IsNames names → IsNames (with_words names ws)
words_added names [] is = is
words_added names (w ∷ ws) is = words_added (with_word names w) ws (word_added names w is)

-- ---- what the list holds

-- a list of names that holds those of some tokens, and those that abbreviations and equations bring in
pub record HoldsNames (text : List ℕ) (tokens : List Token) (names : List Name) : Type 0 where
  pub is : IsNames names
  pub cell : Contains names (codes ".")
  pub empty : Contains names (codes "[]")
  pub plus : Contains names (codes "+")
  pub equals : Contains names (codes "=")
  pub token : (p : ℕ) (t : Token) → slice_get tokens p ≡ Some t → has_name t.kind ≡ true → let w = word_of text t in Contains names (name_spelled w.kind w.bytes)

first_there : (names : List Name) → IsNames names → Contains names (codes "=")
first_there names is =
    let P : List Name → Type 0 = λ ns. Contains ns (codes "=") in
    subst P (sym is.begins.1) (0, omega arith, refl)

-- the list of names that reading leaves has the names of the text
pub names_held : (text : List ℕ) (tokens : List Token) (before : List Name) → IsNames before → HoldsNames text tokens (names_read before (words_of text tokens))
names_held text tokens before is =
    let a = with_name before (codes ".") in
    let b = with_name a (codes "[]") in
    let c = with_name b (codes "+") in
    let ws = words_of text tokens in
    record {
      is = words_added c ws (name_added b (codes "+") (name_added a (codes "[]") (name_added before (codes ".") is)));
      cell = words_kept c ws _ (name_kept b (codes "+") _ (name_kept a (codes "[]") _ (name_there before (codes "."))));
      empty = words_kept c ws _ (name_kept b (codes "+") _ (name_there a (codes "[]")));
      plus = words_kept c ws _ (name_there b (codes "+"));
      equals = words_kept c ws _ (name_kept b (codes "+") _ (name_kept a (codes "[]") _ (name_kept before (codes ".") _ (first_there before is))));
      token = λ p t at h. words_there text c tokens p t at h;
    }

-- ---- numbers of names

-- a name that a list holds has the number of one of its places
pub number_below : (names : List Name) (n : Name) → Contains names n → number_of names n < length names
number_below [] n (k, within, is) = absurd (omega (arith, within))
number_below (m ∷ ns) n there = go (bytes_eq m n) (bytes_eq-Decides m n) there (number_below ns n)
  where
    go : (b : Bool) → Decides b (m ≡ n) → Contains (m ∷ ns) n → (Contains ns n → number_of ns n < length ns) → (if b then 0 else suc (number_of ns n)) < length (m ∷ ns)
    go true d h more = omega arith
    go false d (zero, within, is) more = absurd (true≢false (sym (d.1 is)))
    go false d (suc k, within, is) more = let l = more (k, omega (arith, within), is) in omega (arith, l)
