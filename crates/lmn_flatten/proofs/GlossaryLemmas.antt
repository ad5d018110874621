-- Words, their labels and the lists of names.
use Rattle.std.proofs.Common.{◌≡◌, ℕ, zero, suc, ◌+◌, ◌^◌, ◌<◌, ◌≤◌, ◌⊎◌, inl, inr, Bool, true, false, if◌then◌else◌, List, [], ◌∷◌, ◌++◌, map, length, take, drop, get_or, slice_get, Some, Contains, Decides, refl, sym, ap, ◌∙◌, subst, arith, true≢false}
use Rattle.std.specs.Prelude.{bytes_eq, Result, Ok, Err, IfOk, OnOk, OnErr, codes, slice_index_or}
use Rattle.std.specs.List.{AllByRecursion, list_any, AllZip}
use Rattle.std.specs.Cmp.Lexicographic.{nat_list_eq_equiv}
use Rattle.std.proofs.lemmas.List.{append_assoc, append-nil, length-append, take_all, take_more, map_push}
use Rattle.std.proofs.lemmas.Map.Views.{list_any-from_Contains, Contains-from_any}
use Rattle.std.proofs.lemmas.Option.{same_Some, slice_get_within}
use Rattle.std.proofs.lemmas.Result.{IfOk-weaker}
use Rattle.std.proofs.lemmas.Slice.Eq.{bytes_eq-Decides}
use Rattle.lmn_base.specs.declared.functor.Label.{Label}
use Rattle.lmn_base.specs.declared.functor.Label.TheVariants as base
use Rattle.lmn_base.specs.declared.refusal.Refusal.{Refusal}
use Rattle.lmn_base.specs.Firsts.{AnswersBy, NoneApplies, RefusedBy, Row}
use Rattle.lmn_base.specs.Limits.{longest_name}
use Rattle.lmn_base.specs.Names.{first_names, IsNames}
use Rattle.lmn_congruence.specs.Rules as tree
use Rattle.lmn_lexer.specs.declared.token.Kind.{Kind}
use Rattle.lmn_lexer.specs.declared.token.Kind.TheVariants.{Name, Quoted, Mod, Link, Int, Context, RuleCtx, End}
use Rattle.lmn_lexer.specs.declared.token.Token.{Token}
use Rattle.lmn_lexer.specs.Cutting.{Cuts, token_at}
use Rattle.lmn_lexer.specs.Laying.{Word, word_of, words_of, last_word}
use Rattle.lmn_lexer.specs.Faults.{TokenFault, integer_out_of_range, long_name, floating_point, NothingWrong}
use Rattle.lmn_lexer.specs.Spelling.{Spells, IsQuoted}
use Rattle.lmn_lexer.specs.Values.{bytes_of, IsSound}
use Rattle.lmn_lexer.proofs.SoundTokens.{tokens_are_sound}
use Rattle.lmn_flatten_plain.specs.Meanings.{label_spelled, word_at, label_at, nowhere}
use Rattle.lmn_flatten_plain.specs.Plains.{number_of, numbered_label}
use Rattle.lmn_flatten_plain.proofs.LabelWords.{quoted_name}
use Rattle.lmn_flatten_plain.proofs.Ranges.{in_range}
use Rattle.lmn_base.specs.declared.memory.NoMemory.{NoMemory}
use Rattle.lmn_flatten.specs.Glossaries.{Reading, IsLabel, IsMeaning, IsGlossary, AreEntries, HasEntries, IsRightWord, IsRightToken, GrowsBy, reading_of}
use Rattle.lmn_flatten.specs.NameLists.{names_read, with_name, with_word, with_words}
use Rattle.lmn_flatten.specs.declared.glossary.Entry.{Entry}
use Rattle.lmn_flatten.specs.declared.glossary.Glossary.{Glossary}
use Rattle.lmn_flatten.specs.declared.glossary.Meaning.{Meaning}
use Rattle.lmn_flatten.specs.declared.glossary.Meaning.TheVariants as meaning
use Rattle.lmn_flatten.proofs.EachLemmas.{each_append, each_at, each_by, each_length}
use Rattle.lmn_flatten.proofs.ScopeLemmas.{one_place}
use Rattle.lmn_base.proofs.Lists.{get_there as some_at}
use Rattle.lmn_base.proofs.Numbers.{at_most_by_not as at_most}

-- ---- numbers of names

number_there : (ns : List tree.Name) (k : ℕ) (n : tree.Name) → slice_get ns k ≡ Some n → slice_get ns (number_of ns n) ≡ Some n
number_there [] k n h = absurd (let l = slice_get_within [] k n h in omega arith)
number_there (m ∷ ns) k n h = go (bytes_eq m n) (bytes_eq-Decides m n) k h (λ j g. number_there ns j n g)
  where
    go : (t : Bool) → Decides t (m ≡ n) → (k : ℕ) → slice_get (m ∷ ns) k ≡ Some n → ((j : ℕ) → slice_get ns j ≡ Some n → slice_get ns (number_of ns n) ≡ Some n)
        → slice_get (m ∷ ns) (if t then 0 else suc (number_of ns n)) ≡ Some n
    go true d k h more = ap Some (d.0 refl)
    go false d zero h more = absurd (true≢false (sym (d.1 (same_Some m n h))))
    go false d (suc k) h more = more k h

-- the number of a name is its place
pub number_is : (ns : List tree.Name) → IsNames ns → (k : ℕ) (n : tree.Name) → slice_get ns k ≡ Some n → k ≡ number_of ns n
number_is ns is k n h = one_place ns is k (number_of ns n) n h (number_there ns k n h)

-- a label by its number
pub label_is : (ns : List tree.Name) → IsNames ns → (l : tree.Label) (x : Label) → IsLabel ns l x → x ≡ numbered_label ns (λ a. 0) l
label_is ns is (tree.named n) x h = h.1 ∙ ap base.Name (number_is ns is h.0 n h.2)
label_is ns is (tree.integer z) x h = h

-- ---- lists of names that grow

-- a list that stays grows by nothing
pub grows_not : (ns : List tree.Name) → GrowsBy 0 ns ns
grows_not ns = record { more = []; grown = sym (append-nil ns); few = omega arith }

-- what grows twice grows by both
pub grows_more : {m n : ℕ} (a b c : List tree.Name) → GrowsBy m a b → GrowsBy n b c → GrowsBy (m + n) a c
grows_more a b c h k = record {
  more = h.more ++ k.more;
  grown = k.grown ∙ ap (λ l. l ++ k.more) h.grown ∙ append_assoc a h.more k.more;
  few = omega (arith, length-append h.more k.more, h.few, k.few);
}

-- what grew by so many at most grew by more at most
pub grows_less : {m n : ℕ} (a b : List tree.Name) → m ≤ n → GrowsBy m a b → GrowsBy n a b
grows_less a b l h = record { more = h.more; grown = h.grown; few = omega (arith, l, h.few) }

-- a list that grew by so many at most has at most so many more
pub grown_length : {n : ℕ} (a b : List tree.Name) → GrowsBy n a b → length b ≤ length a + n
grown_length a b h = omega (arith, ap length h.grown, length-append a h.more, h.few)

-- a name that is put in is one more, or none
pub grows_put : (old new : List tree.Name) (name : tree.Name) → (Contains old name → new ≡ old) → (¬ (Contains old name) → new ≡ old ++ name ∷ []) → GrowsBy 1 old new
grows_put old new name held absent = by (list_any (bytes_eq name) old) refl
  where
    by : (b : Bool) → list_any (bytes_eq name) old ≡ b → GrowsBy 1 old new
    by true e =
        let there = Contains-from_any (λ x y. (bytes_eq-Decides x y).0) name old e in
        subst (GrowsBy 1 old) (sym (held there)) (grows_less old old (omega arith) (grows_not old))
    by false e =
        let none : ¬ (Contains old name) = λ there. true≢false (sym (list_any-from_Contains nat_list_eq_equiv name old there) ∙ e) in
        record { more = name ∷ []; grown = absent none; few = omega arith }

-- a name is put where the list doesn't hold it
pub with_put : (old new : List tree.Name) (name : tree.Name) (r : Result ℕ NoMemory) → OnOk r (Contains old name → new ≡ old)
    → OnOk r (¬ (Contains old name) → new ≡ old ++ name ∷ []) → OnOk r (new ≡ with_name old name)
with_put old new name (Err e) held absent = tt
with_put old new name (Ok k) held absent = by (list_any (bytes_eq name) old) refl
  where
    by : (b : Bool) → list_any (bytes_eq name) old ≡ b → new ≡ (if b then old else old ++ name ∷ [])
    by true e = held (Contains-from_any (λ x y. (bytes_eq-Decides x y).0) name old e)
    by false e = absent (λ there. true≢false (sym (list_any-from_Contains nat_list_eq_equiv name old there) ∙ e))

with_more : (names : List tree.Name) (ws : List Word) (w : Word) → with_words names (ws ++ w ∷ []) ≡ with_word (with_words names ws) w
with_more names [] w = refl
with_more names (v ∷ ws) w = with_more (with_word names v) ws w

-- the names of one word more
words_more : (text : List ℕ) (names0 names names' : List tree.Name) (i : ℕ) (tokens : List Token) (d t : Token) → i < length tokens → t ≡ get_or tokens i d
    → names ≡ with_words names0 (words_of text (take i tokens)) → names' ≡ with_word names (word_of text t) → names' ≡ with_words names0 (words_of text (take (i + 1) tokens))
words_more text names0 names names' i tokens d t l at h k =
    let whole = ap (words_of text) (take_more tokens i d l ∙ ap (λ z. take i tokens ++ z ∷ []) (sym at)) ∙ map_push (word_of text) (take i tokens) t in
    k ∙ ap (λ ns. with_word ns (word_of text t)) h ∙ sym (with_more names0 (words_of text (take i tokens)) (word_of text t)) ∙ ap (with_words names0) (sym whole)

-- three names and then those of the words
pub names_chain : (a b c d e : List tree.Name) (text : List ℕ) (tokens seen : List Token) → seen ≡ tokens → b ≡ with_name a (codes ".") → c ≡ with_name b (codes "[]")
    → d ≡ with_name c (codes "+") → e ≡ with_words d (words_of text seen) → e ≡ names_read a (words_of text tokens)
names_chain a b c d e text tokens seen same f g h i =
    i ∙ ap (λ ts. with_words d (words_of text ts)) same
    ∙ ap (λ ns. with_words ns (words_of text tokens)) (h ∙ ap (λ ns. with_name ns (codes "+")) (g ∙ ap (λ ns. with_name ns (codes "[]")) f))

front : (xs ys : List tree.Name) (k : ℕ) (n : tree.Name) → slice_get xs k ≡ Some n → slice_get (xs ++ ys) k ≡ Some n
front [] ys k n h = absurd (let l = slice_get_within [] k n h in omega arith)
front (x ∷ xs) ys zero n h = h
front (x ∷ xs) ys (suc k) n h = front xs ys k n h

-- names keep their places
pub place_grown : {m : ℕ} (old new : List tree.Name) (k : ℕ) (n : tree.Name) → GrowsBy m old new → slice_get old k ≡ Some n → slice_get new k ≡ Some n
place_grown old new k n g h = let P : List tree.Name → Type 0 = λ ns. slice_get ns k ≡ Some n in subst P (sym g.grown) (front old g.more k n h)

-- ---- right words

some_byte : (minus : Bool) (bytes : List ℕ) → Spells minus Context bytes ⊎ Spells minus RuleCtx bytes → 1 ≤ length bytes
some_byte minus [] (inl h) = absurd h
some_byte minus [] (inr h) = absurd h
some_byte minus (b ∷ bs) h = omega arith

right_word : (minus : Bool) (kind : Kind) (bytes after : List ℕ) → Spells minus kind bytes → ((code : ℕ) → TokenFault kind bytes after code → ⊥)
    → IsRightWord kind bytes
right_word minus Name bytes after s right = at_most (length bytes) longest_name (λ l. right 5 (long_name l))
right_word minus Mod bytes after s right = let e = ap length s in omega arith
right_word minus Link bytes after s right = at_most (length bytes) longest_name (λ l. right 5 (long_name l))
right_word minus Quoted bytes after s right = (s.0, s.1, at_most (length s.0) longest_name (λ l. right 5 (long_name (s.0, s.1, l))))
right_word minus Context bytes after s right = (some_byte minus bytes (inl s), at_most (length bytes) (1 + longest_name) (λ l. right 5 (long_name (omega (arith, l)))))
right_word minus RuleCtx bytes after s right = (some_byte minus bytes (inr s), at_most (length bytes) (1 + longest_name) (λ l. right 5 (long_name (omega (arith, l)))))
right_word minus Int bytes after s right = in_range bytes
    (λ out. right 4 (integer_out_of_range refl (λ fraction. right 6 (floating_point refl fraction)) out))
right_word minus _ bytes after s right = tt

right_token : (text : List ℕ) (t : Token) → IsSound text t → IsRightToken text t
right_token text t s = record {
  forth = s.forth;
  within = s.within;
  right = right_word s.minus t.kind (bytes_of text t) (drop t.end text) s.spells s.right;
}

right_tokens : (text : List ℕ) (before : List Token) → AllByRecursion (IsSound text) before → AllByRecursion (IsRightToken text) (before ++ token_at End text [] ∷ [])
right_tokens text [] h = (record { forth = omega arith; within = omega arith; right = tt }, tt)
right_tokens text (t ∷ before) h = (right_token text t h.0, right_tokens text before h.1)

-- the tokens of a text without a fault are right
pub tokens_are_right : (text : List ℕ) (tokens : List Token) → NothingWrong text → Cuts text tokens → AllByRecursion (IsRightToken text) tokens
tokens_are_right text tokens none cut =
    let sound = tokens_are_sound text tokens cut none in
    let P : List Token → Type 0 = AllByRecursion (IsRightToken text) in
    subst P (sym sound.2) (right_tokens text sound.0 sound.1)

-- ---- labels

-- the entry of a label names it
pub entry_label : (r : Reading) (g : Glossary) (p : ℕ) (e : Entry) (l : Label) → IsGlossary r g → slice_get g.entries p ≡ Some e → e.meaning ≡ meaning.Label l
    → l ≡ numbered_label r.names (λ a. 0) (label_at r.words r.places p)
entry_label r g p e l is at m =
    let P : Meaning → Type 0 = IsMeaning r.names r.links (word_at r.words r.places p) in
    label_is r.names is.names (label_at r.words r.places p) l (subst P m (is.entries p e at).1)

-- a quoted name isn't too long
pub quoted_short : (kind : Kind) (bytes seen name all : List ℕ) → kind ≡ Quoted → IsRightWord kind bytes → seen ≡ bytes → IsQuoted seen name → all ≡ name
    → length all ≤ longest_name
quoted_short kind bytes seen name all e right s q a =
    let P : Kind → Type 0 = λ k. IsRightWord k bytes in
    let Q : List ℕ → Type 0 = λ b. IsQuoted b name in
    let short = subst P e right in
    let same = ap length (sym (quoted_name bytes name (subst Q s q)) ∙ quoted_name bytes short.0 short.1) in
    omega (arith, same, short.2, ap length a)

-- and means itself without its quotes
pub quoted_meaning : (r : Result Meaning NoMemory) (names links : List tree.Name) (kind : Kind) (bytes seen name all : List ℕ) → kind ≡ Quoted → seen ≡ bytes
    → IsQuoted seen name → all ≡ name
    → IfOk r (λ made. (ls : List tree.Name) (word : Word) → label_spelled word.kind word.bytes ≡ tree.named all → IsMeaning names ls word made)
    → IfOk r (λ made. IsMeaning names links (record { kind = kind; bytes = bytes }) made)
quoted_meaning r names links kind bytes seen name all e s q a h =
    let Q : List ℕ → Type 0 = λ b. IsQuoted b name in
    let same : label_spelled kind bytes ≡ tree.named all = ap (λ k. label_spelled k bytes) e ∙ ap tree.named (quoted_name bytes name (subst Q s q) ∙ sym a) in
    IfOk-weaker r _ _ (λ made more. more links (record { kind = kind; bytes = bytes }) same) h

-- and is put into the list so
pub quoted_put : (r : Result Meaning NoMemory) (old new : List tree.Name) (kind : Kind) (bytes seen name all : List ℕ) → kind ≡ Quoted → seen ≡ bytes
    → IsQuoted seen name → all ≡ name → OnOk r (new ≡ with_name old all) → OnOk r (new ≡ with_word old (record { kind = kind; bytes = bytes }))
quoted_put (Err e) old new kind bytes seen name all k s q a h = tt
quoted_put (Ok m) old new kind bytes seen name all k s q a h =
    let Q : List ℕ → Type 0 = λ b. IsQuoted b name in
    h ∙ ap (with_name old) (a ∙ sym (quoted_name bytes name (subst Q s q))) ∙ sym (ap (λ z. with_word old (record { kind = z; bytes = bytes })) k)

-- ---- entries of tokens

-- the entry of a token
abbrev pub IsEntry : List ℕ → List tree.Name → List tree.Name → Token → Entry → Type 0
IsEntry text names links t e = (e.pos ≡ t.pos) × IsMeaning names links (word_of text t) e.meaning

-- the entries of the first tokens
pub record SoFar (text : List ℕ) (names0 names links0 links : List tree.Name) (i : ℕ) (done : List Token) (es : List Entry) : Type 0 where
  pub names_grown : GrowsBy i names0 names
  pub names_are : names ≡ with_words names0 (words_of text done)
  pub links_grown : GrowsBy i links0 links
  pub entries : AllZip (IsEntry text names links) done es

-- meanings stay when the lists grow
pub meaning_grown : {m n : ℕ} (names names' links links' : List tree.Name) (w : Word) (x : Meaning) → GrowsBy m names names' → GrowsBy n links links'
    → IsMeaning names links w x → IsMeaning names' links' w x
meaning_grown names names' links links' w (meaning.Label l) g k h = by (label_spelled w.kind w.bytes) h
  where
    by : (s : tree.Label) → IsLabel names s l → IsLabel names' s l
    by (tree.named n) h = (h.0, h.1, place_grown names names' h.0 n g h.2)
    by (tree.integer z) h = h
meaning_grown names names' links links' w (meaning.Link x) g k h = place_grown links links' x w.bytes k h
meaning_grown names names' links links' w meaning.Sign g k h = tt

-- the entry of one more token
pub so_far_next : (text : List ℕ) (names0 names names' links0 links links' : List tree.Name) (i : ℕ) (tokens : List Token) (d t : Token) (es es' : List Entry) (m : Meaning) (e : Entry)
    → i < length tokens → t ≡ get_or tokens i d → SoFar text names0 names links0 links i (take i tokens) es → GrowsBy 1 names names' → GrowsBy 1 links links'
    → names' ≡ with_word names (word_of text t) → IsMeaning names' links' (word_of text t) m → e ≡ record { meaning = m; pos = t.pos } → es' ≡ es ++ e ∷ []
    → SoFar text names0 names' links0 links' (i + 1) (take (i + 1) tokens) es'
so_far_next text names0 names names' links0 links links' i tokens d t es es' m e l at h g k put is same pushed =
    let P : Token → Type 0 = λ z. AllZip (IsEntry text names' links') (take i tokens ++ z ∷ []) (es ++ e ∷ []) in
    let Q : List Token → Type 0 = λ z. AllZip (IsEntry text names' links') z (es ++ e ∷ []) in
    let R : List Entry → Type 0 = λ z. AllZip (IsEntry text names' links') (take (i + 1) tokens) z in
    let S : Entry → Type 0 = IsEntry text names' links' t in
    record {
      names_grown = grows_more names0 names names' h.names_grown g;
      names_are = words_more text names0 names names' i tokens d t l at h.names_are put;
      links_grown = grows_more links0 links links' h.links_grown k;
      entries = subst R (sym pushed) (subst Q (sym (take_more tokens i d l)) (subst P at
          (each_append (IsEntry text names' links') (take i tokens) (t ∷ []) es (e ∷ [])
          (each_by (IsEntry text names links) (IsEntry text names' links') (λ u x d. (d.0, meaning_grown names names' links links' (word_of text u) x.meaning g k d.1)) (take i tokens) es h.entries)
          (subst S (sym same) (refl, is), tt))));
    }

map_at : {A B : Type 0} (f : A → B) (xs : List A) (p : ℕ) (x : A) (d : B) → slice_get xs p ≡ Some x → slice_index_or (map f xs) p d ≡ f x
map_at f [] p x d h = absurd (let l = slice_get_within [] p x h in omega arith)
map_at f (y ∷ xs) zero x d h = ap f (same_Some y x h)
map_at f (y ∷ xs) (suc p) x d h = map_at f xs p x d h

-- entries of all tokens are those of the text
pub are_entries : (text : List ℕ) (tokens : List Token) (names links : List tree.Name) (es : List Entry) → AllZip (IsEntry text names links) tokens es
    → AreEntries (reading_of text tokens names links) es
are_entries text tokens names links es h p e at =
    let there = some_at tokens p (omega (arith, slice_get_within es p e at, each_length (IsEntry text names links) tokens es h)) in
    let t = there.0 in
    let is = each_at (IsEntry text names links) tokens es p t e h there.1 at in
    let P : Word → Type 0 = λ w. IsMeaning names links w e.meaning in (
      is.0 ∙ sym (map_at (λ (t : Token). t.pos) tokens p t nowhere there.1),
      subst P (sym (map_at (word_of text) tokens p t last_word there.1)) is.1,
    )

-- so it is at the end
pub has_entries : (text : List ℕ) (tokens : List Token) (names0 names links0 links : List tree.Name) (i : ℕ) (es : List Entry) → length tokens ≤ i
    → IsNames names → IsNames links → SoFar text names0 names links0 links i (take i tokens) es → HasEntries text tokens names es
has_entries text tokens names0 names links0 links i es l n k h =
    let P : List Token → Type 0 = λ z. AllZip (IsEntry text names links) z es in
    (links, n, k, are_entries text tokens names links es (subst P (take_all i tokens l) h.entries))

-- and the names of the text are in the list
pub names_done : (text : List ℕ) (tokens : List Token) (names0 names links0 links : List tree.Name) (i : ℕ) (es : List Entry) → length tokens ≤ i
    → SoFar text names0 names links0 links i (take i tokens) es → names ≡ with_words names0 (words_of text tokens)
names_done text tokens names0 names links0 links i es l h = h.names_are ∙ ap (λ ts. with_words names0 (words_of text ts)) (take_all i tokens l)

-- at first there are no entries
pub nothing_so_far : (text : List ℕ) (names links : List tree.Name) (tokens : List Token) (es : List Entry) → es ≡ [] → SoFar text names names links links 0 (take 0 tokens) es
nothing_so_far text names links tokens es e =
    let P : List Entry → Type 0 = λ z. AllZip (IsEntry text names links) [] z in
    record { names_grown = grows_not names; names_are = refl; links_grown = grows_not links; entries = subst P (sym e) tt }

-- a name that is put in grows the list by one at most, also for want of memory
pub put_grows : (old new : List tree.Name) (name : tree.Name) (r : Result ℕ NoMemory) → OnOk r (Contains old name → new ≡ old)
    → OnOk r (¬ (Contains old name) → new ≡ old ++ name ∷ []) → OnErr r (new ≡ old) → GrowsBy 1 old new
put_grows old new name (Ok k) held absent err = grows_put old new name held absent
put_grows old new name (Err e) held absent err = subst (GrowsBy 1 old) (sym err) (grows_less old old (omega arith) (grows_not old))

-- the names that abbreviations bring in, and then those of the text
pub read_glossary : (text : List ℕ) (tokens : List Token) (names1 names2 names3 names : List tree.Name) (g : Glossary) {m k l : ℕ} → HasEntries text tokens names g.entries
    → slice_get names1 g.cell ≡ Some (codes ".") → slice_get names2 g.empty ≡ Some (codes "[]") → slice_get names3 g.plus ≡ Some (codes "+")
    → GrowsBy m names1 names2 → GrowsBy k names2 names3 → GrowsBy l names3 names
    → (links : List tree.Name) × IsGlossary (reading_of text tokens names links) g
read_glossary text tokens names1 names2 names3 names g h cell empty plus a b c = (
  h.0,
  record {
    entries = h.3;
    cell = place_grown names3 names g.cell (codes ".") c (place_grown names2 names3 g.cell (codes ".") b (place_grown names1 names2 g.cell (codes ".") a cell));
    empty = place_grown names3 names g.empty (codes "[]") c (place_grown names2 names3 g.empty (codes "[]") b empty);
    plus = place_grown names3 names g.plus (codes "+") c plus;
    names = h.1;
    links = h.2;
  },
)

-- three names and those of the tokens grow it by so many at most
pub grows_four : (a b c d e : List tree.Name) (tokens seen : List Token) → seen ≡ tokens → GrowsBy 1 a b → GrowsBy 1 b c → GrowsBy 1 c d → GrowsBy (length seen) d e
    → GrowsBy (length tokens + 3) a e
grows_four a b c d e tokens seen same g h i j =
    grows_less a e (omega (arith, ap length same)) (grows_more a d e (grows_more a c d (grows_more a b c g h) i) j)

-- links have room where names have
pub room_for_links : (names : List tree.Name) (tokens seen : List Token) → IsNames names → seen ≡ tokens → length names + (length tokens + 3) ≤ 2 ^ 32 → 4 + length seen ≤ 2 ^ 32
room_for_links names tokens seen is same room =
    let b = is.begins in
    omega (arith, room, ap length same, ap length b.1, length-append first_names b.0)

-- ---- answers by rows of refusals

-- where the answer is no refusal no row applies
pub accepted_when : (rows : List Row) (x : Result (Unit {0}) Refusal) (v : Unit {0}) → x ≡ Ok v → AnswersBy rows x → NoneApplies rows
accepted_when rows x v e h = let P : Result (Unit {0}) Refusal → Type 0 = AnswersBy rows in subst P e h

-- where it is one the rows refuse so
pub refused_when : (rows : List Row) (x : Result (Unit {0}) Refusal) (refusal : Refusal) → x ≡ Err refusal → AnswersBy rows x → RefusedBy rows refusal
refused_when rows x refusal e h = let P : Result (Unit {0}) Refusal → Type 0 = AnswersBy rows in subst P e h
