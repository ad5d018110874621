-- Words that stand at a place among the words of all tokens.
use Rattle.std.proofs.Common.{◌≡◌, ℕ, zero, suc, ◌+◌, List, [], ◌∷◌, drop, map, slice_get, option_map, Option, Some, None, refl, ◌∙◌, ap, subst, arith}
use Rattle.std.proofs.lemmas.Option.{slice_get-map, get_or_from_slice_get}
use Rattle.lmn_base.specs.declared.refusal.Pos.{Pos}
use Rattle.lmn_lexer.specs.declared.token.Kind.{Kind}
use Rattle.lmn_lexer.specs.declared.token.Token.{Token}
use Rattle.lmn_lexer.specs.Laying.{Word, last_word}
use Rattle.lmn_parser.specs.Parsing.{kinds_of}
use Rattle.lmn_parser.specs.Trees.{At}
use Rattle.lmn_flatten_plain.specs.Meanings.{word_at}
use Rattle.lmn_base.proofs.Lists.{head_is, tail_is}

front_get : (ws : List Word) (p : ℕ) (w : Word) (vs : List Word) → drop p ws ≡ w ∷ vs → slice_get ws p ≡ Some w
front_get [] zero w vs h = absurd (cc)
front_get [] (suc p) w vs h = absurd (cc)
front_get (x ∷ ws) zero w vs h = ap Some (head_is h)
front_get (x ∷ ws) (suc p) w vs h = front_get ws p w vs h

drop_next : (ws : List Word) (p : ℕ) (w : Word) (vs : List Word) → drop p ws ≡ w ∷ vs → drop (p + 1) ws ≡ vs
drop_next ws p w vs h = let e : p + 1 ≡ suc p = omega arith in ap (λ n. drop n ws) e ∙ go ws p h
  where
    go : (ws : List Word) (p : ℕ) → drop p ws ≡ w ∷ vs → drop (suc p) ws ≡ vs
    go [] zero h = absurd (cc)
    go [] (suc p) h = absurd (cc)
    go (x ∷ ws) zero h = tail_is h
    go (x ∷ ws) (suc p) h = go ws p h

module _ (tokens : List Token) (words : List Word) where
  -- the tokens have the kinds of the words
  pub record SameKinds : Type 0 where
    pub kinds : kinds_of tokens ≡ map (λ w. w.kind) words

  -- from the place on, these words stand
  pub record Stands (p : ℕ) (ws : List Word) : Type 0 where
    pub left : drop p words ≡ ws

  pub stands_as : {p : ℕ} {ws vs : List Word} → ws ≡ vs → Stands p ws → Stands p vs
  stands_as e s = record { left = s.left ∙ e }

  pub stands_at : {p q : ℕ} {ws : List Word} → p ≡ q → Stands p ws → Stands q ws
  stands_at {ws = ws} e s = let P : ℕ → Type 0 = λ n. Stands n ws in subst P e s

module _ {tokens : List Token} {words : List Word} (same : SameKinds tokens words) where
  pub kind_at : {p : ℕ} {kind : Kind} {bytes : List ℕ} {ws : List Word} → Stands tokens words p (record { kind = kind; bytes = bytes } ∷ ws) → At tokens p kind
  kind_at {p} {kind} {bytes} {ws} s =
      let w : Word = record { kind = kind; bytes = bytes } in
      ap (λ ks. slice_get ks p) same.kinds ∙ slice_get-map (λ (v : Word). v.kind) words p ∙ ap (option_map (λ v. v.kind)) (front_get words p w ws s.left)

  pub behind : {p : ℕ} {w : Word} {ws : List Word} → Stands tokens words p (w ∷ ws) → Stands tokens words (p + 1) ws
  behind {p} {w} {ws} s = record { left = drop_next words p w ws s.left }

  pub word_here : (places : List Pos) {p : ℕ} {w : Word} {ws : List Word} → Stands tokens words p (w ∷ ws) → word_at words places p ≡ w
  word_here places {p} {w} {ws} s = get_or_from_slice_get words p w last_word (front_get words p w ws s.left)

-- a token of a kind, where there is one
pub token_there : (o : Option Token) (k : Kind) → option_map (λ (t : Token). t.kind) o ≡ Some k → (t : Token) × (o ≡ Some t) × (t.kind ≡ k)
token_there None k h = absurd (cc)
token_there (Some t) k h = (t, refl, cc)
