-- The tokens of a text in which nothing is wrong.
use Rattle.std.proofs.Common.{◌≡◌, ℕ, ◌+◌, ◌-◌, Bool, List, [], ◌∷◌, ◌++◌, length, take, drop, refl, sym, ap, ◌∙◌, subst, arith}
use Rattle.std.specs.List.{AllByRecursion}
use Rattle.std.proofs.lemmas.List.{append_assoc, length-append, take_at, drop_at}
use Rattle.lmn_lexer.specs.declared.token.Kind.{Kind}
use Rattle.lmn_lexer.specs.declared.token.Token.{Token}
use Rattle.lmn_lexer.specs.Spelling.{Spells}
use Rattle.lmn_lexer.specs.Cutting.{Cutting, Reaches, start, onward, minus_behind, token_at}
use Rattle.lmn_lexer.specs.Faults.{wrong_token, TokenFault, NothingWrong}
use Rattle.lmn_lexer.specs.Values.{bytes_of, IsSound}
use Rattle.lmn_lexer.specs.Laws.{TokensAreSound}
use Rattle.lmn_lexer.proofs.OneCut.{Step, gap_step, token_step, step_of, reached_whole}

-- what holds of each token and of one more holds of all
pub all_add : (P : Token → Type 0) (ts : List Token) (t : Token) → AllByRecursion P ts → P t → AllByRecursion P (ts ++ t ∷ [])
all_add P [] t h k = (k, tt)
all_add P (u ∷ ts) t h k = (h.0, all_add P ts t h.1 k)

-- the bytes of a token
pub bytes_here : (text before bytes after : List ℕ) (kind : Kind) → text ≡ before ++ (bytes ++ after) → bytes_of text (token_at kind before bytes) ≡ bytes
bytes_here text before bytes after kind e =
    let n : length before + length bytes - length before ≡ length bytes = omega arith in
    let behind : drop (length before) text ≡ bytes ++ after = ap (drop (length before)) e ∙ drop_at before (bytes ++ after) (length before) refl in
    ap (λ m. take m (drop (length before) text)) n ∙ ap (take (length bytes)) behind ∙ take_at bytes after (length bytes) refl

-- a token where it stands
sound_here : (text before bytes after : List ℕ) (kind : Kind) (minus : Bool) → text ≡ before ++ (bytes ++ after) → Spells minus kind bytes
    → ((code : ℕ) → TokenFault kind bytes after code → ⊥) → IsSound text (token_at kind before bytes)
sound_here text before bytes after kind minus e spells right =
    let here = bytes_here text before bytes after kind e in
    let whole = e ∙ sym (append_assoc before bytes after) in
    let sum = length-append before bytes in
    let rest : drop (length before + length bytes) text ≡ after = ap (drop (length before + length bytes)) whole ∙ drop_at (before ++ bytes) after (length before + length bytes) sum in
    let size = ap length e ∙ length-append before (bytes ++ after) in
    let sizes = length-append bytes after in
    let P : List ℕ → Type 0 = Spells minus kind in
    let Q : List ℕ → Type 0 = λ x. (code : ℕ) → TokenFault kind x (drop (length before + length bytes) text) code → ⊥ in
    let R : List ℕ → Type 0 = λ x. (code : ℕ) → TokenFault kind bytes x code → ⊥ in
    record {
      minus = minus;
      forth = omega arith;
      within = omega arith;
      spells = subst P (sym here) spells;
      right = subst Q (sym here) (subst R (sym rest) right);
    }

sound_so_far : {text : List ℕ} {c : Cutting} → NothingWrong text → Reaches text c → AllByRecursion (IsSound text) c.tokens
sound_so_far none start = tt
sound_so_far {text = text} none (onward {c = c} {d = d} h s) = go (step_of s) (sound_so_far none h)
  where
    go : Step c d → AllByRecursion (IsSound text) c.tokens → AllByRecursion (IsSound text) d.tokens
    go (gap_step bytes after x g p) all = let Q : Cutting → Type 0 = λ z. AllByRecursion (IsSound text) z.tokens in subst Q (sym p) all
    go (token_step kind bytes after t p) all =
        let Q : Cutting → Type 0 = λ z. AllByRecursion (IsSound text) z.tokens in
        let right = λ (code : ℕ) (f : TokenFault kind bytes after code). none c code [] h (wrong_token kind bytes after code t f) in
        let sound = sound_here text c.before bytes after kind (minus_behind c.tokens) (sym (reached_whole h) ∙ ap (λ r. c.before ++ r) t.stands) t.spells right in
        subst Q (sym p) (all_add (IsSound text) c.tokens (token_at kind c.before bytes) all sound)

-- the tokens before the end are sound, where nothing is wrong
pub tokens_are_sound : TokensAreSound
tokens_are_sound text tokens c none = (c.but_end, sound_so_far none c.cut, c.with_end)
