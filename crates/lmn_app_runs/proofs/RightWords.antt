-- A text can spell what the tokens of a right text mean, and the list of names that reading leaves holds their names.
use Rattle.std.proofs.Common.{◌≡◌, ℕ, zero, suc, pos, ◌-◌, ◌≤◌, ◌^◌, ◌==◌, Bool, true, false, if◌then◌else◌, List, [], ◌∷◌, ◌++◌, drop, slice_get, Some, refl, sym, ap, ◌∙◌, subst, inl, inr, arith}
use lib.Dec.{le→leb, lt→ltb}
use Rattle.std.specs.Prelude.{Contains, codes, option_map}
use Rattle.std.specs.Char.{is_ascii_lowercase}
use Rattle.std.specs.List.{AllByRecursion}
use Rattle.std.proofs.lemmas.Bool.Decides.{nat_tests}
use Rattle.std.proofs.lemmas.Option.{get_or_from_slice_get, same_Some, slice_get-map}
use Rattle.lmn_base.specs.declared.refusal.Pos.{Pos}
use Rattle.lmn_base.specs.Names.{IsNames}
use Rattle.lmn_congruence.specs.Rules as tree
use Rattle.lmn_guards.specs.Values as guards
use Rattle.lmn_lexer.specs.Cutting.{Cuts, token_at as token_of}
use Rattle.lmn_lexer.specs.Faults.{SpelledInRange, NothingWrong, TokenFault, floating_point, integer_out_of_range, value_behind}
use Rattle.lmn_lexer.specs.Laying.{Word, last_word, word_of, words_of}
use Rattle.lmn_lexer.specs.Spelling.{AllPass, IsWord, Quotes, Spells, byte, goes_on, is_quotable, nothing}
use Rattle.lmn_lexer.specs.Values.{IsSound, bytes_of, integer_of, minus_of}
use Rattle.lmn_lexer.specs.declared.token.Kind.{Kind}
use Rattle.lmn_lexer.specs.declared.token.Kind.TheVariants as kind
use Rattle.lmn_lexer.specs.declared.token.Token.{Token}
use Rattle.lmn_lexer.proofs.SoundTokens.{tokens_are_sound}
use Rattle.lmn_parser.specs.Trees.{At, NameAt}
use Rattle.lmn_flatten_plain.specs.Meanings.{label_at, label_spelled, name_at, name_spelled, word_at}
use Rattle.lmn_flatten_plain.specs.Spelled.{IsContextName, LabelSpelled}
use Rattle.lmn_flatten_plain.proofs.LabelWords.{quoted_name}
use Rattle.lmn_flatten_plain.proofs.Ranges.{in_range}
use Rattle.lmn_flatten_plain.proofs.Standing.{token_there}
use Rattle.lmn_app_runs.specs.Texts.{HasName, HoldsTokenNames}
use Rattle.lmn_app_runs.proofs.GoodLevels.{fits}
use Rattle.lmn_app_runs.proofs.SpelledParts.{IntegerAt, RightTokens}
use Rattle.lmn_app_runs.proofs.SpelledRules.{IsContext, IsLabel}

-- ---- words

small_quotable : (b : ℕ) → is_ascii_lowercase b ≡ true → is_quotable b ≡ true
small_quotable b h = grind (arith, nat_tests)

word_quotable : (b : ℕ) → goes_on b ≡ true → is_quotable b ≡ true
word_quotable b h = grind (arith, nat_tests)

stand_for_themselves : (bs : List ℕ) → AllPass goes_on bs → Quotes bs bs
stand_for_themselves [] h = nothing
stand_for_themselves (b ∷ bs) h = byte (word_quotable b h.0) (stand_for_themselves bs h.1)

name_quotes : (bs : List ℕ) → IsWord is_ascii_lowercase bs → Quotes bs bs
name_quotes [] h = absurd h
name_quotes (b ∷ bs) h = byte (small_quotable b h.0) (stand_for_themselves bs h.1)

abbrev NameSpelled : List ℕ → Type 0
NameSpelled name = LabelSpelled (tree.named name)

-- what a word spells is right: a name that a text can spell, or an integer of 64 bits
abbrev SpellsWell : Kind → List ℕ → Type 0
SpellsWell kind.Name bytes = NameSpelled (name_spelled kind.Name bytes)
SpellsWell kind.Quoted bytes = NameSpelled (name_spelled kind.Quoted bytes)
SpellsWell kind.Mod bytes = NameSpelled (name_spelled kind.Mod bytes)
SpellsWell kind.Context bytes = IsContextName (name_spelled kind.Context bytes)
SpellsWell kind.RuleCtx bytes = IsContextName (name_spelled kind.RuleCtx bytes)
SpellsWell kind.Int bytes = SpelledInRange bytes
SpellsWell _ bytes = Unit {0}

spells_well : (minus : Bool) (k : Kind) (bytes after : List ℕ) → Spells minus k bytes → ((code : ℕ) → TokenFault k bytes after code → ⊥) → SpellsWell k bytes
spells_well minus kind.Name bytes after s right = (bytes, name_quotes bytes s.0)
spells_well minus kind.Quoted bytes after s right =
    let q = s.1 in
    subst NameSpelled (sym (quoted_name bytes s.0 q)) (q.inside, q.quotes)
spells_well minus kind.Mod bytes after s right = subst NameSpelled (sym s) (codes "mod", byte refl (byte refl (byte refl nothing)))
spells_well minus kind.Context [] after s right = absurd s
spells_well minus kind.Context (b ∷ bs) after s right = s.1
spells_well minus kind.RuleCtx [] after s right = absurd s
spells_well minus kind.RuleCtx (b ∷ bs) after s right = s.1
spells_well minus kind.Int bytes after s right = in_range bytes (λ out. right 4 (integer_out_of_range refl (λ fraction. right 6 (floating_point refl fraction)) out))
spells_well minus _ bytes after s right = tt

-- an integer in range
minus_in_range : (n : ℕ) → n ≤ 2 ^ 63 → guards.InRange (minus_of n)
minus_in_range zero h = (record { le = tt }, record { lt = lt→ltb 0 (2 ^ 63) (omega arith) })
minus_in_range (suc n) h = (record { le = le→leb n (2 ^ 63 - 1) (omega (arith, h)) }, record { lt = tt })

integer_in_range : (bytes : List ℕ) → SpelledInRange bytes → guards.InRange (integer_of bytes)
integer_in_range [] h = absurd h
integer_in_range (b ∷ bs) h = go (b == 45) refl h
  where
    go : (t : Bool) → (b == 45) ≡ t → SpelledInRange (b ∷ bs) → guards.InRange (if t then minus_of (value_behind 0 bs) else pos (value_behind 0 (b ∷ bs)))
    go true e (inl (same, l)) = minus_in_range (value_behind 0 bs) l
    go true e (inr (other, l)) = absurd (other (grind (arith, nat_tests, e)))
    go false e (inl (same, l)) = absurd (let no : ¬ (b ≡ 45) = grind (arith, nat_tests, e) in no same)
    go false e (inr (other, l)) = (record { le = tt }, record { lt = lt→ltb (value_behind 0 (b ∷ bs)) (2 ^ 63) (omega (arith, l)) })

-- ---- tokens

sound_at : (text : List ℕ) (before : List Token) (p : ℕ) (t : Token) → AllByRecursion (IsSound text) before → slice_get (before ++ token_of kind.End text [] ∷ []) p ≡ Some t → SpellsWell t.kind (bytes_of text t)
sound_at text [] zero t h e = let P : Token → Type 0 = λ t. SpellsWell t.kind (bytes_of text t) in subst P (same_Some _ t e) tt
sound_at text [] (suc zero) t h e = absurd (cc)
sound_at text [] (suc (suc p)) t h e = absurd (cc)
sound_at text (u ∷ before) zero t h e =
    let s = h.0 in
    let P : Token → Type 0 = λ t. SpellsWell t.kind (bytes_of text t) in
    subst P (same_Some u t e) (spells_well s.minus u.kind (bytes_of text u) (drop u.end text) s.spells s.right)
sound_at text (u ∷ before) (suc p) t h e = sound_at text before p t h.1 e

module _ (text : List ℕ) (tokens : List Token) (cut : Cuts text tokens) (none : NothingWrong text) (places : List Pos) (names : List tree.Name) (is : IsNames names) (holds : HoldsTokenNames names text tokens) where
  abbrev words : List Word
  words = words_of text tokens

  right_at : (p : ℕ) (t : Token) → slice_get tokens p ≡ Some t → SpellsWell t.kind (bytes_of text t)
  right_at p t e =
      let sound = tokens_are_sound text tokens cut none in
      sound_at text sound.0 p t sound.1 (ap (λ ts. slice_get ts p) (sym sound.2) ∙ e)

  -- the token at a place: its word, what it means, and that its name is held
  record TokenHere (p : ℕ) (k : Kind) : Type 0 where
    pub bytes : List ℕ
    pub word : word_at words places p ≡ record { kind = k; bytes = bytes }
    pub right : SpellsWell k bytes
    pub held : HasName k → Contains names (name_spelled k bytes)

  token_here : (p : ℕ) (k : Kind) → At tokens p k → TokenHere p k
  token_here p k h =
      let there = token_there (slice_get tokens p) k (sym (slice_get-map (λ (t : Token). t.kind) tokens p) ∙ h) in
      let t = there.0 in
      let bytes = bytes_of text t in
      let word = get_or_from_slice_get words p (word_of text t) last_word (slice_get-map (word_of text) tokens p ∙ ap (option_map (word_of text)) there.1) in
      let P : Kind → Type 0 = λ k. SpellsWell k bytes in
      let Q : Kind → Type 0 = λ k. HasName k → Contains names (name_spelled k bytes) in
      record {
        bytes = bytes;
        word = word ∙ ap (λ k. record { kind = k; bytes = bytes }) there.2;
        right = subst P there.2 (right_at p t there.1);
        held = subst Q there.2 (holds.token p t there.1);
      }

  name_here : (p : ℕ) (k : Kind) → At tokens p k → ((bytes : List ℕ) → SpellsWell k bytes → Contains names (name_spelled k bytes) → IsLabel names is (label_spelled k bytes)) → HasName k
      → IsLabel names is (label_at words places p)
  name_here p k h means named =
      let t = token_here p k h in
      let P : Word → Type 0 = λ w. IsLabel names is (label_spelled w.kind w.bytes) in
      subst P (sym t.word) (means t.bytes t.right (t.held named))

  label_here : (p : ℕ) → NameAt tokens p → IsLabel names is (label_at words places p)
  label_here p (inl h) = name_here p kind.Name h (λ bytes r c. (r, c)) tt
  label_here p (inr (inl h)) = name_here p kind.Quoted h (λ bytes r c. (r, c)) tt
  label_here p (inr (inr h)) = name_here p kind.Mod h (λ bytes r c. (r, c)) tt

  number_here : (p : ℕ) → At tokens p kind.Int → IsLabel names is (label_at words places p) × IntegerAt (IsLabel names is) (IsContext names is) words places p
  number_here p h =
      let t = token_here p kind.Int h in
      let P : Word → Type 0 = λ w. IsLabel names is (label_spelled w.kind w.bytes) in
      let Q : Word → Type 0 = λ w. guards.InRange (integer_of w.bytes) in
      let range = integer_in_range t.bytes t.right in
      (subst P (sym t.word) (fits (integer_of t.bytes) range), subst Q (sym t.word) range)

  context_here : (p : ℕ) (k : Kind) → At tokens p k → (SpellsWell k ≡ λ bytes. IsContextName (name_spelled k bytes)) → HasName k → IsContext names is (name_at words places p)
  context_here p k h means named =
      let t = token_here p k h in
      let P : Word → Type 0 = λ w. IsContext names is (name_spelled w.kind w.bytes) in
      subst P (sym t.word) ((subst (λ (f : List ℕ → Type 0). f t.bytes) means t.right), t.held named)

  -- what the tokens mean may stand
  pub right_tokens : RightTokens (IsLabel names is) (IsContext names is) words places tokens
  right_tokens = record {
    cell = ((codes ".", byte refl nothing), holds.cell);
    empty = ((codes "[]", byte refl (byte refl nothing)), holds.empty);
    plus = ((codes "+", byte refl nothing), holds.plus);
    equals = ((codes "=", byte refl nothing), holds.equals);
    label = label_here;
    number = number_here;
    context = λ p h. context_here p kind.Context h refl tt;
    rule_context = λ p h. context_here p kind.RuleCtx h refl tt;
  }
