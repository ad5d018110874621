-- A text is cut in one way.
use Rattle.std.proofs.Common.{◌≡◌, ℕ, ◌<◌, ◌≤◌, List, [], ◌∷◌, ◌++◌, length, ◌⊎◌, inl, inr, refl, sym, ap, ◌∙◌, subst, arith}
use Rattle.std.proofs.lemmas.List.{length-append, append_assoc}
use Rattle.lmn_lexer.specs.declared.token.Kind.{Kind}
use Rattle.lmn_lexer.specs.declared.token.Kind.TheVariants.{End}
use Rattle.lmn_lexer.specs.declared.token.Token.{Token}
use Rattle.lmn_lexer.specs.Gaps.{Gap, separator, percent, slashes, block}
use Rattle.lmn_lexer.specs.Cutting.{Cutting, BeginsToken, CutsOff, gap, token, Reaches, start, onward, minus_behind, token_at, place}
use Rattle.lmn_lexer.specs.Faults.{WrongAt}
use Rattle.lmn_lexer.specs.Laws.{OneCut, OneFirstFault, RefusedIsWrong}
use Rattle.lmn_lexer.proofs.OnePiece.{token_some}
use Rattle.lmn_lexer.proofs.Determined.{one_gap, one_token, gap_or_token, one_fault}

-- what one step cuts off
pub data Step (c d : Cutting) : Type 0 where
  gap_step : (bytes after : List ℕ) → c.rest ≡ bytes ++ after → Gap bytes after → d ≡ record { before = c.before ++ bytes; tokens = c.tokens; rest = after } → Step c d
  token_step : (kind : Kind) (bytes after : List ℕ) → BeginsToken (minus_behind c.tokens) kind bytes after c.rest
      → d ≡ record { before = c.before ++ bytes; tokens = c.tokens ++ token_at kind c.before bytes ∷ []; rest = after } → Step c d

-- whatever is cut off is cut off by such a step
pub step_of : {c d : Cutting} → CutsOff c d → Step c d
step_of (gap {bytes = bytes} {after = after} e g) = gap_step bytes after e g refl
step_of (token {kind = kind} {bytes = bytes} {after = after} t) = token_step kind bytes after t refl

one_step : {c d e : Cutting} → Step c d → Step c e → d ≡ e
one_step {c = c} (gap_step bytes after x g p) (gap_step others behind y h q) =
    let same = one_gap (sym x ∙ y) g h in
    p ∙ ap (λ b. record { before = c.before ++ b; tokens = c.tokens; rest = after }) same.0
    ∙ ap (λ r. record { before = c.before ++ others; tokens = c.tokens; rest = r }) same.1 ∙ sym q
one_step (gap_step bytes after x g p) (token_step kind others behind t q) = absurd (gap_or_token x g t)
one_step (token_step kind others behind t q) (gap_step bytes after x g p) = absurd (gap_or_token x g t)
one_step {c = c} (token_step kind bytes after t p) (token_step other others behind u q) =
    let same = one_token t u in
    p ∙ ap (λ k. record { before = c.before ++ bytes; tokens = c.tokens ++ token_at k c.before bytes ∷ []; rest = after }) same.kinds
    ∙ ap (λ b. record { before = c.before ++ b; tokens = c.tokens ++ token_at other c.before b ∷ []; rest = after }) same.bytes
    ∙ ap (λ r. record { before = c.before ++ others; tokens = c.tokens ++ token_at other c.before others ∷ []; rest = r }) same.rests ∙ sym q

gap_some : {bytes after : List ℕ} → Gap bytes after → 0 < length bytes
gap_some (separator b after h) = omega arith
gap_some (percent line after h e) = omega arith
gap_some (slashes line after h e) = omega arith
gap_some (block inside after h) = omega arith

-- the bytes of a step
pub step_longer : {c d : Cutting} → Step c d → length c.before < length d.before
step_longer {c = c} (gap_step bytes after x g p) =
    let size = length-append c.before bytes in
    let some = gap_some g in
    let whole = ap (λ z. length z.before) p in
    omega arith
step_longer {c = c} (token_step kind bytes after t p) =
    let size = length-append c.before bytes in
    let some = token_some t in
    let whole = ap (λ z. length z.before) p in
    omega arith

step_rest : {c d : Cutting} → Step c d → c.rest ≡ [] → ⊥
step_rest (gap_step [] after x g p) e = absurd (let some = gap_some g in omega arith)
step_rest (gap_step (b ∷ bs) after x g p) e = absurd (let z = sym x ∙ e in cc)
step_rest (token_step kind [] after t p) e = absurd (let some = token_some t in omega arith)
step_rest (token_step kind (b ∷ bs) after t p) e = absurd (let z = sym t.stands ∙ e in cc)

-- steps one after the other
data Steps (c : Cutting) : Cutting → Type 0 where
  stay : Steps c c
  then_on : {d e : Cutting} → Steps c d → Step d e → Steps c e

abbrev First : Cutting → Cutting → Type 0
First c e = (c ≡ e) ⊎ ((d : Cutting) × Step c d × Steps d e)

first_step : {c e : Cutting} → Steps c e → First c e
first_step stay = inl refl
first_step {c = c} (then_on {d = d} {e = e} h s) = go (first_step h)
  where
    go : First c d → First c e
    go (inl p) = let P : Cutting → Type 0 = λ x. Step x e in inr (e, subst P (sym p) s, stay)
    go (inr (m, t, k)) = inr (m, t, then_on k s)

from_here : {c d e : Cutting} → c ≡ d → Steps c e → Steps d e
from_here {e = e} p h = let P : Cutting → Type 0 = λ x. Steps x e in subst P p h

comparable : {s c d : Cutting} → Steps s c → Steps s d → Steps c d ⊎ Steps d c
comparable stay k = inl k
comparable {d = d} (then_on {d = b} {e = c} h s) k = go (comparable h k)
  where
    split : First b d → Steps c d ⊎ Steps d c
    split (inl p) = inr (from_here p (then_on stay s))
    split (inr (m, t, more)) = inl (from_here (one_step t s) more)

    go : Steps b d ⊎ Steps d b → Steps c d ⊎ Steps d c
    go (inl more) = split (first_step more)
    go (inr more) = inr (then_on more s)

abbrev begin : List ℕ → Cutting
begin text = record { before = []; tokens = []; rest = text }

steps_of : {text : List ℕ} {c : Cutting} → Reaches text c → Steps (begin text) c
steps_of start = stay
steps_of (onward h s) = then_on (steps_of h) (step_of s)

steps_longer : {c d : Cutting} → Steps c d → length c.before ≤ length d.before
steps_longer stay = omega arith
steps_longer (then_on h s) = let more = steps_longer h in let one = step_longer s in omega arith

longer_or_same : {c d : Cutting} → Steps c d → (c ≡ d) ⊎ (length c.before < length d.before)
longer_or_same {c = c} {d = d} h = go (first_step h)
  where
    go : First c d → (c ≡ d) ⊎ (length c.before < length d.before)
    go (inl p) = inl p
    go (inr (m, s, more)) = let one = step_longer s in let rest = steps_longer more in inr (omega arith)

-- Of two cuttings of one text the one with fewer bytes before it stands before the other.
pub same_or_earlier : {text : List ℕ} {c d : Cutting} → Reaches text c → Reaches text d → (c ≡ d) ⊎ (length c.before < length d.before) ⊎ (length d.before < length c.before)
same_or_earlier {c = c} {d = d} h k = go (comparable (steps_of h) (steps_of k))
  where
    forth : (c ≡ d) ⊎ (length c.before < length d.before) → (c ≡ d) ⊎ (length c.before < length d.before) ⊎ (length d.before < length c.before)
    forth (inl p) = inl p
    forth (inr l) = inr (inl l)

    back : (d ≡ c) ⊎ (length d.before < length c.before) → (c ≡ d) ⊎ (length c.before < length d.before) ⊎ (length d.before < length c.before)
    back (inl p) = inl (sym p)
    back (inr l) = inr (inr l)

    go : Steps c d ⊎ Steps d c → (c ≡ d) ⊎ (length c.before < length d.before) ⊎ (length d.before < length c.before)
    go (inl more) = forth (longer_or_same more)
    go (inr more) = back (longer_or_same more)

-- What stands before the end of a step stands before its beginning, or is that.
pub before_step : {text : List ℕ} {c d e : Cutting} → Reaches text c → Reaches text d → CutsOff c e → length d.before < length e.before → (d ≡ c) ⊎ (length d.before < length c.before)
before_step {c = c} {d = d} {e = e} h k s l = go (comparable (steps_of h) (steps_of k))
  where
    split : First c d → (d ≡ c) ⊎ (length d.before < length c.before)
    split (inl p) = inl (sym p)
    split (inr (m, t, more)) =
        let rest = steps_longer more in
        let same = ap (λ z. length z.before) (one_step t (step_of s)) in
        absurd (omega arith)

    go : Steps c d ⊎ Steps d c → (d ≡ c) ⊎ (length d.before < length c.before)
    go (inl more) = split (first_step more)
    go (inr more) = longer_or_same more

-- a text that is cut whole is cut so wherever
ended : {c d : Cutting} → Steps c d → c.rest ≡ [] → c ≡ d
ended {c = c} {d = d} h e = go (first_step h)
  where
    go : First c d → c ≡ d
    go (inl p) = p
    go (inr (m, s, more)) = absurd (step_rest s e)

-- a text is cut in one way at most
pub one_cut : OneCut
one_cut text tokens others a b = go (comparable (steps_of a.cut) (steps_of b.cut))
  where
    whole : (c d : Cutting) → c ≡ d → (xs ys : List Token) → xs ≡ c.tokens ++ token_at End text [] ∷ [] → ys ≡ d.tokens ++ token_at End text [] ∷ [] → xs ≡ ys
    whole c d p xs ys e f = e ∙ ap (λ z. z.tokens ++ token_at End text [] ∷ []) p ∙ sym f

    go : Steps (record { before = text; tokens = a.but_end; rest = [] }) (record { before = text; tokens = b.but_end; rest = [] })
        ⊎ Steps (record { before = text; tokens = b.but_end; rest = [] }) (record { before = text; tokens = a.but_end; rest = [] }) → tokens ≡ others
    go (inl h) = whole _ _ (ended h refl) tokens others a.with_end b.with_end
    go (inr h) = whole _ _ (sym (ended h refl)) tokens others a.with_end b.with_end

-- a text has at most one first fault
pub one_refusal : OneFirstFault
one_refusal text r q a b = go (same_or_earlier a.reached b.reached)
  where
    same : a.cutting ≡ b.cutting → r ≡ q
    same p =
        let P : Cutting → Type 0 = λ c. WrongAt c q.code b.skipped in
        let faults = one_fault a.wrong (subst P (sym p) b.wrong) in
        let places = a.placed ∙ ap (λ c. place (c.before ++ a.skipped)) p ∙ ap (λ s. place (b.cutting.before ++ s)) faults.1 ∙ sym b.placed in
        ap (λ code. record { code = code; pos = r.pos }) faults.0 ∙ ap (λ pos. record { code = q.code; pos = pos }) places

    go : (a.cutting ≡ b.cutting) ⊎ (length a.cutting.before < length b.cutting.before) ⊎ (length b.cutting.before < length a.cutting.before) → r ≡ q
    go (inl p) = same p
    go (inr (inl l)) = absurd (b.first a.cutting r.code a.skipped a.reached l a.wrong)
    go (inr (inr l)) = absurd (a.first b.cutting q.code b.skipped b.reached l b.wrong)

-- a text with a first fault isn't without one
pub refused_is_wrong : RefusedIsWrong
refused_is_wrong text r a none = none a.cutting r.code a.skipped a.reached a.wrong

-- What is cut off and what is left are the text.
pub reached_whole : {text : List ℕ} {c : Cutting} → Reaches text c → c.before ++ c.rest ≡ text
reached_whole start = refl
reached_whole {text = text} (onward {c = c} {d = d} h s) = go (step_of s) (reached_whole h)
  where
    go : Step c d → c.before ++ c.rest ≡ text → d.before ++ d.rest ≡ text
    go (gap_step bytes after x g p) e = ap (λ z. z.before ++ z.rest) p ∙ append_assoc c.before bytes after ∙ ap (λ r. c.before ++ r) (sym x) ∙ e
    go (token_step kind bytes after t p) e = ap (λ z. z.before ++ z.rest) p ∙ append_assoc c.before bytes after ∙ ap (λ r. c.before ++ r) (sym t.stands) ∙ e

-- no more is cut off than the text has
pub reached_within : {text : List ℕ} {c : Cutting} → Reaches text c → length c.before ≤ length text
reached_within {c = c} h = let whole = ap length (reached_whole h) in let sum = length-append c.before c.rest in omega arith
