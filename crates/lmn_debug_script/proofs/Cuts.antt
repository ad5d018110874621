-- How texts are cut into lines.
use Rattle.std.proofs.Common.{ℕ, suc, ◌≡◌, ◌+◌, inl, inr, List, [], ◌∷◌, ◌++◌, length, refl, sym, ap, subst, ◌∙◌}
use Rattle.std.specs.List.{AllByRecursion}
use Rattle.std.proofs.lemmas.List.{append-nil}
use Rattle.lmn_base.proofs.Lists.{all_append, all_left, all_right, head_is, tail_is}
use Rattle.lmn_base.specs.declared.refusal.Refusal.{Refusal}
use Rattle.lmn_lexer.specs.Gaps.{EndsLine}
use Rattle.lmn_instr_reading.specs.Lines.{IsOneLine, joined}
use Rattle.lmn_debug_script.specs.Scripts.{AreLines, IsFirstWrong, MayStand}
use Rattle.lmn_instr_reading.proofs.LinesCommon.{feed_within, joined_first}

-- ---- first lines

-- a text has one first line
first_line : (u v rest more : List ℕ) → IsOneLine u → IsOneLine v → EndsLine rest → u ++ rest ≡ v ++ 10 ∷ more → (u ≡ v) × (rest ≡ 10 ∷ more)
first_line [] [] rest more h k e q = (refl, q)
first_line [] (y ∷ v) rest more h k e q = absurd (k.0 (subst EndsLine q e))
first_line (x ∷ u) [] rest more h k e q = absurd (h.0 (head_is q))
first_line (x ∷ u) (y ∷ v) rest more h k e q =
    let r = first_line u v rest more h.1 k.1 e (tail_is q) in
    (λ i. head_is q i ∷ r.0 i, r.1)

-- and one that ends the text
last_line : (u v rest : List ℕ) → IsOneLine v → EndsLine rest → u ++ rest ≡ v → u ≡ v
last_line u v [] k e q = sym (append-nil u) ∙ q
last_line u v (b ∷ more) k e q = absurd (feed_within u more (subst (λ x. IsOneLine (u ++ x ∷ more)) e (subst IsOneLine (sym q) k)))

-- one line isn't cut
line_uncut : (line : List ℕ) (lines : List (List ℕ)) (rest last : List ℕ) → IsOneLine last → joined (line ∷ lines) ++ rest ≡ last → ⊥
line_uncut line lines rest last h e = feed_within line (joined lines ++ rest) (subst IsOneLine (sym e ∙ joined_first line lines rest) h)

-- two cuts of a text have one first line
same_first : (line other : List ℕ) (lines others : List (List ℕ)) (rest more : List ℕ) → IsOneLine line → IsOneLine other → joined (line ∷ lines) ++ rest ≡ joined (other ∷ others) ++ more
    → (line ≡ other) × (joined lines ++ rest ≡ joined others ++ more)
same_first line other lines others rest more h k e =
    let r = first_line line other (10 ∷ (joined lines ++ rest)) (joined others ++ more) h k refl (sym (joined_first line lines rest) ∙ e ∙ joined_first other others more) in
    (r.0, tail_is r.1)

-- ---- whole texts

-- a text is cut into lines and a last one, which may be empty, in one way
cut_once : (ls ms : List (List ℕ)) (u v : List ℕ) → AllByRecursion IsOneLine ls → AllByRecursion IsOneLine ms → IsOneLine u → IsOneLine v → joined ls ++ u ≡ joined ms ++ v → (ls ≡ ms) × (u ≡ v)
cut_once [] [] u v h k a b e = (refl, e)
cut_once [] (m ∷ ms) u v h k a b e = absurd (line_uncut m ms v u a (sym e))
cut_once (l ∷ ls) [] u v h k a b e = absurd (line_uncut l ls u v b e)
cut_once (l ∷ ls) (m ∷ ms) u v h k a b e =
    let r = same_first l m ls ms u v h.0 k.0 e in
    let s = cut_once ls ms u v h.1 k.1 a b r.1 in
    (λ i. r.0 i ∷ s.0 i, s.1)

-- lines, and a last one, where it isn't empty
pub with_last : List (List ℕ) → List ℕ → List (List ℕ)
with_last front [] = front
with_last front (b ∷ bs) = front ++ (b ∷ bs) ∷ []

-- A text cut into lines and a last one, which may be empty.
pub record Whole (lines : List (List ℕ)) (text : List ℕ) : Type 0 where
  pub front : List (List ℕ)
  pub last : List ℕ
  pub are : lines ≡ with_last front last
  pub apart : AllByRecursion IsOneLine front
  pub one : IsOneLine last
  pub is : joined front ++ last ≡ text

-- the lines of a text are such a cut
pub whole : (lines : List (List ℕ)) (text : List ℕ) → AllByRecursion IsOneLine lines → AreLines lines text → Whole lines text
unfolding with_last
whole lines text h (inl e) = record { front = lines; last = []; are = refl; apart = h; one = tt; is = append-nil (joined lines) ∙ e }
whole lines text h (inr (front, [], are, some, e)) = absurd (some refl)
whole lines text h (inr (front, b ∷ bs, are, some, e)) =
    let both : AllByRecursion IsOneLine (front ++ (b ∷ bs) ∷ []) = subst (AllByRecursion IsOneLine) are h in
    record { front = front; last = b ∷ bs; are = are; apart = all_left IsOneLine front ((b ∷ bs) ∷ []) both; one = (all_right IsOneLine front ((b ∷ bs) ∷ []) both).0; is = e }

-- and each such cut has the lines of a text
pub lines_of : (front : List (List ℕ)) (last : List ℕ) → AllByRecursion IsOneLine front → IsOneLine last → AllByRecursion IsOneLine (with_last front last) × AreLines (with_last front last) (joined front ++ last)
unfolding with_last
lines_of front [] h k = (h, inl (sym (append-nil (joined front))))
lines_of front (b ∷ bs) h k = (all_append IsOneLine front ((b ∷ bs) ∷ []) h (k, tt), inr (front, b ∷ bs, refl, (λ e. absurd (cc)), refl))

-- so a text has one list of lines
pub lines_once : (lines others : List (List ℕ)) (text : List ℕ) → AllByRecursion IsOneLine lines → AllByRecursion IsOneLine others → AreLines lines text → AreLines others text → lines ≡ others
lines_once lines others text h k a b =
    let v = whole lines text h a in
    let w = whole others text k b in
    let r = cut_once v.front w.front v.last w.last v.apart w.apart v.one w.one (v.is ∙ sym w.is) in
    v.are ∙ (λ i. with_last (r.0 i) (r.1 i)) ∙ sym w.are

-- ---- lines that may stand

-- what holds of each line of a text holds of the last one
pub all_last : (P : List ℕ → Type 0) → P [] → (front : List (List ℕ)) (last : List ℕ) → AllByRecursion P (with_last front last) → AllByRecursion P front × P last
unfolding with_last
all_last P none front [] h = (h, none)
all_last P none front (b ∷ bs) h = (all_left P front ((b ∷ bs) ∷ []) h, (all_right P front ((b ∷ bs) ∷ []) h).0)

-- and the other way round
pub last_all : (P : List ℕ → Type 0) (front : List (List ℕ)) (last : List ℕ) → AllByRecursion P front → P last → AllByRecursion P (with_last front last)
unfolding with_last
last_all P front [] h k = h
last_all P front (b ∷ bs) h k = all_append P front ((b ∷ bs) ∷ []) h (k, tt)

-- where each line of a text has a property, each line at which a cut stops has it
holds_at : (P : List ℕ → Type 0) (ls front : List (List ℕ)) (line rest last : List ℕ) → AllByRecursion IsOneLine ls → IsOneLine line → EndsLine rest → AllByRecursion IsOneLine front → IsOneLine last
    → AllByRecursion P front → P last → joined ls ++ (line ++ rest) ≡ joined front ++ last → P line
holds_at P [] [] line rest last hs h e ks k all end q = subst P (sym (last_line line last rest k e q)) end
holds_at P [] (f ∷ front) line rest last hs h e ks k all end q = subst P (sym (first_line line f rest (joined front ++ last) h ks.0 e (q ∙ joined_first f front last)).0) all.0
holds_at P (l ∷ ls) [] line rest last hs h e ks k all end q = absurd (line_uncut l ls (line ++ rest) last k q)
holds_at P (l ∷ ls) (f ∷ front) line rest last hs h e ks k all end q =
    holds_at P ls front line rest last hs.1 h e ks.1 k all.1 end (same_first l f ls front (line ++ rest) last hs.0 ks.0 q).1

-- two cuts that stop at the first line that lacks a property are of one length
one_length : (P : List ℕ → Type 0) (ls ms : List (List ℕ)) (u v r s : List ℕ) → AllByRecursion IsOneLine ls → AllByRecursion IsOneLine ms → IsOneLine u → IsOneLine v → EndsLine r → EndsLine s
    → AllByRecursion P ls → AllByRecursion P ms → ¬ (P u) → ¬ (P v) → joined ls ++ (u ++ r) ≡ joined ms ++ (v ++ s) → length ls ≡ length ms
one_length P [] [] u v r s hs ks h k d e all more a b q = refl
one_length P [] (m ∷ ms) u v r s hs ks h k d e all more a b q =
    absurd (a (subst P (sym (first_line u m r (joined ms ++ (v ++ s)) h ks.0 d (q ∙ joined_first m ms (v ++ s))).0) more.0))
one_length P (l ∷ ls) [] u v r s hs ks h k d e all more a b q =
    absurd (b (subst P (sym (first_line v l s (joined ls ++ (u ++ r)) k hs.0 e (sym q ∙ joined_first l ls (u ++ r))).0) all.0))
one_length P (l ∷ ls) (m ∷ ms) u v r s hs ks h k d e all more a b q =
    ap suc (one_length P ls ms u v r s hs.1 ks.1 h k d e all.1 more.1 a b (same_first l m ls ms (u ++ r) (v ++ s) hs.0 ks.0 q).1)

-- no line is wrong where all may stand
pub none_wrong : (lines : List (List ℕ)) (text : List ℕ) (refusal : Refusal) → AllByRecursion IsOneLine lines → AreLines lines text → AllByRecursion MayStand lines → IsFirstWrong text refusal → ⊥
none_wrong lines text refusal h a may w =
    let v = whole lines text h a in
    let all = all_last MayStand (inl refl) v.front v.last (subst (AllByRecursion MayStand) v.are may) in
    w.wrong (holds_at MayStand w.lines v.front w.line w.rest v.last w.apart w.one w.ends v.apart v.one all.0 all.1 (w.text_is ∙ sym v.is))

-- and one line is the first
pub one_wrong : (text : List ℕ) (refusal other : Refusal) → IsFirstWrong text refusal → IsFirstWrong text other → refusal ≡ other
one_wrong text refusal other v w =
    let same = one_length MayStand v.lines w.lines v.line w.line v.rest w.rest v.apart w.apart v.one w.one v.ends w.ends v.may w.may v.wrong w.wrong (v.text_is ∙ sym w.text_is) in
    v.refused ∙ ap (λ n. record { code = 71; pos = record { line = n + 1; column = 1 } }) same ∙ sym w.refused
