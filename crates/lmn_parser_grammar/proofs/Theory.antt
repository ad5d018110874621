-- What reading owes after a token is what completes the tokens read.
use Rattle.std.proofs.Common.{◌≡◌, ℕ, zero, suc, Bool, true, false, List, [], ◌∷◌, ◌++◌, refl, sym, ◌∙◌, ap, subst, ◌⊎◌, inl, inr, append_assoc, ◌&&◌, ◌||◌, if◌then◌else◌, get_or}
use Rattle.std.proofs.lemmas.Bool.{eqb-true, eq-eqb, and_from, or_right}
use Rattle.lmn_parser_grammar.specs.Grammar.{Exp, Tok, Seq, Alt, Opt, Many, Within, Ref, Bracket, opener, closer, Part, TermPart, SumPart, ClausePart, ClausesPart, part_expression, Derives, here, both, left, right, without, with, no_more, one_more, inside, by}
use Rattle.lmn_parser_grammar.specs.Reading.{Owed, kind_number, is_kind, owed_after, next, nexts, may_be_empty, empty_part}
use Rattle.lmn_lexer.specs.declared.token.Kind.{Kind}
use Rattle.lmn_lexer.specs.declared.token.Kind.TheVariants.{Name, Quoted, Mod, Link, Int, Context, RuleCtx, End, LParen, RParen, LBracket, RBracket, LBrace, RBrace, Comma, Dot, Arrow, AtAt, Bar, Backslash, Equal, Less, LessEq, Greater, GreaterEq, NumEq, NumNe, Differ, Plus, Minus, Star, Slash}
use Rattle.lmn_base.proofs.Truth.{and_true, either_true as or_true}

-- lists that are the same begin and go on alike
pub cons_same : (a b : Kind) (x y : List Kind) → a ∷ x ≡ b ∷ y → (a ≡ b) × (x ≡ y)
cons_same a b x y h = (cc, cc)

-- Kinds with one number are one kind.
abbrev all_kinds : List Kind
all_kinds = Name ∷ Quoted ∷ Mod ∷ Link ∷ Int ∷ Context ∷ RuleCtx ∷ End ∷ LParen ∷ RParen ∷ LBracket ∷ RBracket ∷ LBrace ∷ RBrace
    ∷ Comma ∷ Dot ∷ Arrow ∷ AtAt ∷ Bar ∷ Backslash ∷ Equal ∷ Less ∷ LessEq ∷ Greater ∷ GreaterEq ∷ NumEq ∷ NumNe ∷ Differ ∷ Plus ∷ Minus ∷ Star ∷ Slash ∷ []

numbered : (t : Kind) → get_or all_kinds (kind_number t) End ≡ t
numbered Name = refl
numbered _ = refl

-- kinds with one number are one
pub same_number : (k t : Kind) → kind_number k ≡ kind_number t → k ≡ t
same_number k t h = sym (numbered k) ∙ ap (λ n. get_or all_kinds n End) h ∙ numbered t

-- kinds that pass the test are one
pub same_kind : (k t : Kind) → is_kind k t ≡ true → k ≡ t
same_kind k t h = same_number k t (eqb-true (kind_number k) (kind_number t) h)

-- a kind passes the test against itself
pub is_itself : (k t : Kind) → k ≡ t → is_kind k t ≡ true
is_itself k t h = eq-eqb (kind_number k) (kind_number t) (ap kind_number h)

-- the row is one of these
abbrev pub IsIn : Owed → List Owed → Type 0
IsIn κ [] = ⊥
IsIn κ (x ∷ s) = (κ ≡ x) ⊎ IsIn κ s

in_left : (κ : Owed) (s s' : List Owed) → IsIn κ s → IsIn κ (s ++ s')
in_left κ [] s' h = absurd h
in_left κ (x ∷ s) s' (inl h) = inl h
in_left κ (x ∷ s) s' (inr h) = inr (in_left κ s s' h)

in_right : (κ : Owed) (s s' : List Owed) → IsIn κ s' → IsIn κ (s ++ s')
in_right κ [] s' h = h
in_right κ (x ∷ s) s' h = inr (in_right κ s s' h)

in_either : (κ : Owed) (s s' : List Owed) → IsIn κ (s ++ s') → IsIn κ s ⊎ IsIn κ s'
in_either κ [] s' h = inr h
in_either κ (x ∷ s) s' (inl h) = inl (inl h)
in_either κ (x ∷ s) s' (inr h) = elim (in_either κ s s' h) [ inl a ↦ inl (inr a) | inr b ↦ inr b ]

empty_left : (e : Exp) → may_be_empty e ≡ true → Derives e []
empty_left (Tok k) h = cc
empty_left (Seq a b) h = let p = and_true (may_be_empty a) (may_be_empty b) h in both a b [] [] [] refl (empty_left a p.0) (empty_left b p.1)
empty_left (Alt a b) h = elim (or_true (may_be_empty a) (may_be_empty b) h) [ inl x ↦ left a b [] (empty_left a x) | inr y ↦ right a b [] (empty_left b y) ]
empty_left (Opt a) h = without a
empty_left (Many a) h = no_more a
empty_left (Within b a) h = cc
empty_left (Ref TermPart) h = cc
empty_left (Ref SumPart) h = cc
empty_left (Ref ClausePart) h = cc
empty_left (Ref ClausesPart) h = by ClausesPart [] (without _)

-- the kinds are spelled by the expressions, one after the other
abbrev pub DerivesAll : List Exp → List Kind → Type 0
DerivesAll [] w = w ≡ []
DerivesAll (e ∷ κ) w = (u : List Kind) × (v : List Kind) × (w ≡ u ++ v) × Derives e u × DerivesAll κ v

-- the same tokens are derived
pub derives_along : (κ : Owed) (a b : List Kind) → a ≡ b → DerivesAll κ a → DerivesAll κ b
derives_along κ a b e h = let P : List Kind → Type 0 = λ x. DerivesAll κ x in subst P e h

-- one of the rows that are owed derives the tokens
abbrev pub Found : List Owed → List Kind → Type 0
Found s w = (κ : Owed) × IsIn κ s × DerivesAll κ w

-- a token derives itself alone
pub of_tok : (k : Kind) (u : List Kind) → Derives (Tok k) u → u ≡ k ∷ []
of_tok _ _ (here k) = refl

-- Soundness: what is owed after t, with t before it, is derived.
two : (a b : Exp) (κ : Owed) (w : List Kind) → DerivesAll (a ∷ b ∷ κ) w → DerivesAll (Seq a b ∷ κ) w
two a b κ w (u, v, e, da, (x, y, e', db, dk)) = (u ++ x, y, e ∙ ap (λ z. u ++ z) e' ∙ sym (append_assoc u x y), both a b u x (u ++ x) refl da db, dk)

two_many : (a : Exp) (κ : Owed) (w : List Kind) → DerivesAll (a ∷ Many a ∷ κ) w → DerivesAll (Many a ∷ κ) w
two_many a κ w (u, v, e, da, (x, y, e', db, dk)) = (u ++ x, y, e ∙ ap (λ z. u ++ z) e' ∙ sym (append_assoc u x y), one_more a u x (u ++ x) refl da db, dk)

tok_case : (k t : Kind) (κ : Owed) (w : List Kind) (κ' : Owed) (b : Bool) → is_kind k t ≡ b → IsIn κ' (if b then κ ∷ [] else []) → DerivesAll κ' w → DerivesAll (Tok k ∷ κ) (t ∷ w)
tok_case k t κ w κ' false e h d = absurd h
tok_case k t κ w κ' true e (inr h) d = absurd h
tok_case k t κ w κ' true e (inl h) d =
    let P : Owed → Type 0 = λ x. DerivesAll x w in
    let Q : Kind → Type 0 = λ x. Derives (Tok k) (x ∷ []) in
    (t ∷ [], w, refl, subst Q (same_kind k t e) (here k), subst P h d)

closed : (b : Bracket) (a : Exp) (κ : Owed) (w : List Kind) → DerivesAll (a ∷ Tok (closer b) ∷ κ) w → DerivesAll (Within b a ∷ κ) (opener b ∷ w)
closed b a κ w (u, v, e, da, (x, y, e', db, dk)) = (
  opener b ∷ (u ++ closer b ∷ []),
  y,
  ap (λ z. opener b ∷ z) (e ∙ ap (λ z. u ++ z) (e' ∙ ap (λ z. z ++ y) (of_tok (closer b) x db)) ∙ sym (append_assoc u (closer b ∷ []) y)),
  inside b a u (opener b ∷ (u ++ closer b ∷ [])) refl da,
  dk,
)

within_case : (b : Bracket) (a : Exp) (t : Kind) (κ : Owed) (w : List Kind) (κ' : Owed) (is : Bool) → is_kind (opener b) t ≡ is →
    IsIn κ' (if is then (a ∷ Tok (closer b) ∷ κ) ∷ [] else []) → DerivesAll κ' w → DerivesAll (Within b a ∷ κ) (t ∷ w)
within_case b a t κ w κ' false e h d = absurd h
within_case b a t κ w κ' true e (inr h) d = absurd h
within_case b a t κ w κ' true e (inl h) d =
    let P : Owed → Type 0 = λ x. DerivesAll x w in
    let Q : Kind → Type 0 = λ x. DerivesAll (Within b a ∷ κ) (x ∷ w) in
    subst Q (same_kind (opener b) t e) (closed b a κ w (subst P h d))

in_optional : (κ : Owed) (b : Bool) (s : List Owed) → IsIn κ (elim b [ true ↦ s | false ↦ [] ]) → (b ≡ true) × IsIn κ s
in_optional κ true s h = (refl, h)
in_optional κ false s h = absurd h

optional_in : (κ : Owed) (b : Bool) (s : List Owed) → b ≡ true → IsIn κ s → IsIn κ (elim b [ true ↦ s | false ↦ [] ])
optional_in κ true s e h = h
optional_in κ false s e h = cc

-- what may be owed behind a token derives the rest of what is owed before it
pub sound : (f : ℕ) (e : Exp) (κ : Owed) (t : Kind) (w : List Kind) (κ' : Owed) → IsIn κ' (owed_after f e κ t) → DerivesAll κ' w → DerivesAll (e ∷ κ) (t ∷ w)
sound f (Tok k) κ t w κ' i d = tok_case k t κ w κ' (is_kind k t) refl i d
sound f (Seq a b) κ t w κ' i d = elim (in_either κ' (owed_after f a (b ∷ κ) t) _ i) [
  | inl h ↦ two a b κ (t ∷ w) (sound f a (b ∷ κ) t w κ' h d)
  | inr h ↦ let o = in_optional κ' (may_be_empty a) (owed_after f b κ t) h in two a b κ (t ∷ w) ([], t ∷ w, refl, empty_left a o.0, sound f b κ t w κ' o.1 d)
]
sound f (Alt a b) κ t w κ' i d = elim (in_either κ' (owed_after f a κ t) (owed_after f b κ t) i) [
  | inl h ↦ let r = sound f a κ t w κ' h d in (r.0, r.1, r.2, left a b r.0 r.3, r.4)
  | inr h ↦ let r = sound f b κ t w κ' h d in (r.0, r.1, r.2, right a b r.0 r.3, r.4)
]
sound f (Opt a) κ t w κ' i d = let r = sound f a κ t w κ' i d in (r.0, r.1, r.2, with a r.0 r.3, r.4)
sound f (Many a) κ t w κ' i d = two_many a κ (t ∷ w) (sound f a (Many a ∷ κ) t w κ' i d)
sound f (Within b a) κ t w κ' i d = within_case b a t κ w κ' (is_kind (opener b) t) refl i d
sound zero (Ref n) κ t w κ' i d = absurd i
sound (suc f) (Ref n) κ t w κ' i d = let r = sound f (part_expression n) κ t w κ' i d in (r.0, r.1, r.2, by n r.0 r.3, r.4)

-- so it is for a row
pub sound_next : (κ : Owed) (t : Kind) (w : List Kind) (κ' : Owed) → IsIn κ' (next κ t) → DerivesAll κ' w → DerivesAll κ (t ∷ w)
sound_next [] t w κ' i d = absurd i
sound_next (e ∷ κ) t w κ' i d = elim (in_either κ' (owed_after 3 e κ t) _ i) [
  | inl h ↦ sound 3 e κ t w κ' h d
  | inr h ↦ let o = in_optional κ' (may_be_empty e) (next κ t) h in ([], t ∷ w, refl, empty_left e o.0, sound_next κ t w κ' o.1 d)
]

-- Completeness: what a derivation has behind t is owed after t.
-- enough look-ups to see each first token
abbrev fits : ℕ → Exp → Bool
fits f (Tok k) = true
fits f (Seq a b) = fits f a && elim (may_be_empty a) [ true ↦ fits f b | false ↦ true ]
fits f (Alt a b) = fits f a && fits f b
fits f (Opt a) = fits f a
fits f (Many a) = fits f a
fits f (Within b a) = true
fits zero (Ref n) = false
fits (suc f) (Ref n) = fits f (part_expression n)

true_optional : (a b : Bool) → b ≡ true → elim a [ true ↦ b | false ↦ true ] ≡ true
true_optional true b h = h
true_optional false b h = refl

optional_true : (a b : Bool) → elim a [ true ↦ b | false ↦ true ] ≡ true → a ≡ true → b ≡ true
optional_true true b h g = h
optional_true false b h g = cc

all_fit : (e : Exp) → fits 3 e ≡ true
all_fit (Tok k) = refl
all_fit (Seq a b) = and_from (fits 3 a) _ (all_fit a) (true_optional (may_be_empty a) (fits 3 b) (all_fit b))
all_fit (Alt a b) = and_from (fits 3 a) (fits 3 b) (all_fit a) (all_fit b)
all_fit (Opt a) = all_fit a
all_fit (Many a) = all_fit a
all_fit (Within b a) = refl
all_fit (Ref TermPart) = refl
all_fit (Ref SumPart) = refl
all_fit (Ref ClausePart) = refl
all_fit (Ref ClausesPart) = refl

append_nil_left : (u v : List Kind) → u ++ v ≡ [] → u ≡ []
append_nil_left [] v h = refl
append_nil_left (x ∷ u) v h = cc

append_nil_right : (u v : List Kind) → u ++ v ≡ [] → v ≡ []
append_nil_right [] v h = h
append_nil_right (x ∷ u) v h = cc

part_empty : (n : Part) → may_be_empty (part_expression n) ≡ empty_part n
part_empty TermPart = refl
part_empty SumPart = refl
part_empty ClausePart = refl
part_empty ClausesPart = refl

-- what derives nothing may be empty
pub empty_right : (e : Exp) (u : List Kind) → Derives e u → u ≡ [] → may_be_empty e ≡ true
empty_right _ _ (here k) h = cc
empty_right _ _ (both a b u v w e da db) h = and_from (may_be_empty a) (may_be_empty b) (empty_right a u da (append_nil_left u v (sym e ∙ h))) (empty_right b v db (append_nil_right u v (sym e ∙ h)))
empty_right _ _ (left a b w d) h = ap (λ x. x || may_be_empty b) (empty_right a w d h)
empty_right _ _ (right a b w d) h = or_right (may_be_empty a) (may_be_empty b) (empty_right b w d h)
empty_right _ _ (without a) h = refl
empty_right _ _ (with a w d) h = refl
empty_right _ _ (no_more a) h = refl
empty_right _ _ (one_more a u v w e da dm) h = refl
empty_right _ _ (inside b a u w e d) h = cc
empty_right _ _ (by n w d) h = sym (part_empty n) ∙ empty_right (part_expression n) w d h

found_left : (s s' : List Owed) (w : List Kind) → Found s w → Found (s ++ s') w
found_left s s' w (κ, i, d) = (κ, in_left κ s s' i, d)

found_right : (s s' : List Owed) (w : List Kind) → Found s' w → Found (s ++ s') w
found_right s s' w (κ, i, d) = (κ, in_right κ s s' i, d)

found_optional : (b : Bool) (s : List Owed) (w : List Kind) → b ≡ true → Found s w → Found (elim b [ true ↦ s | false ↦ [] ]) w
found_optional b s w e (κ, i, d) = (κ, optional_in κ b s e i, d)

-- the first token of two parts is in the first, or the first is empty
split : (t : Kind) (u' u v : List Kind) → u ++ v ≡ t ∷ u' → ((u ≡ []) × (v ≡ t ∷ u')) ⊎ ((x : List Kind) × (u ≡ t ∷ x) × (u' ≡ x ++ v))
split t u' [] v h = inl (refl, h)
split t u' (y ∷ u) v h = inr (u, cc, cc)

along : (s : List Owed) (a b : List Kind) → a ≡ b → Found s a → Found s b
along s a b e h = let P : List Kind → Type 0 = λ x. Found s x in subst P e h

head_of : (k t : Kind) (u : List Kind) → k ∷ [] ≡ t ∷ u → k ≡ t
head_of k t u h = cc

tail_of : (k t : Kind) (u : List Kind) → k ∷ [] ≡ t ∷ u → [] ≡ u
tail_of k t u h = cc

tok_found : (b : Bool) (κ : Owed) (w : List Kind) → b ≡ true → DerivesAll κ w → Found (if b then κ ∷ [] else []) w
tok_found true κ w e d = (κ, inl refl, d)
tok_found false κ w e d = cc

-- a word of an expression that begins with the token goes on in one of the ways that the expression owes then
pub complete : (f : ℕ) (e : Exp) (u : List Kind) → Derives e u → fits f e ≡ true → (t : Kind) (u' : List Kind) → u ≡ t ∷ u' →
    (κ : Owed) (v : List Kind) → DerivesAll κ v → Found (owed_after f e κ t) (u' ++ v)
complete f _ _ (here k) ok t u' h κ v d = along _ _ _ (ap (λ z. z ++ v) (tail_of k t u' h)) (tok_found (is_kind k t) κ v (is_itself k t (head_of k t u' h)) d)
complete f _ _ (both a b u1 u2 w e da db) ok t u' h κ v d =
    let p = and_true (fits f a) _ ok in
    elim (split t u' u1 u2 (sym e ∙ h)) [
      | inl x ↦ found_right (owed_after f a (b ∷ κ) t) _ (u' ++ v) (found_optional (may_be_empty a) (owed_after f b κ t) (u' ++ v) (empty_right a u1 da x.0)
          (complete f b u2 db (optional_true (may_be_empty a) (fits f b) p.1 (empty_right a u1 da x.0)) t u' x.1 κ v d))
      | inr x ↦ found_left (owed_after f a (b ∷ κ) t) _ (u' ++ v) (along _ _ _ (sym (append_assoc x.0 u2 v) ∙ ap (λ z. z ++ v) (sym x.2))
          (complete f a u1 da p.0 t x.0 x.1 (b ∷ κ) (u2 ++ v) (u2, v, refl, db, d)))
    ]
complete f _ _ (left a b w da) ok t u' h κ v d = found_left (owed_after f a κ t) (owed_after f b κ t) (u' ++ v) (complete f a w da (and_true (fits f a) (fits f b) ok).0 t u' h κ v d)
complete f _ _ (right a b w db) ok t u' h κ v d = found_right (owed_after f a κ t) (owed_after f b κ t) (u' ++ v) (complete f b w db (and_true (fits f a) (fits f b) ok).1 t u' h κ v d)
complete f _ _ (without a) ok t u' h κ v d = cc
complete f _ _ (with a w da) ok t u' h κ v d = complete f a w da ok t u' h κ v d
complete f _ _ (no_more a) ok t u' h κ v d = cc
complete f _ _ (one_more a u1 u2 w e da dm) ok t u' h κ v d =
    elim (split t u' u1 u2 (sym e ∙ h)) [
      | inl x ↦ complete f (Many a) u2 dm ok t u' x.1 κ v d
      | inr x ↦ along _ _ _ (sym (append_assoc x.0 u2 v) ∙ ap (λ z. z ++ v) (sym x.2))
          (complete f a u1 da ok t x.0 x.1 (Many a ∷ κ) (u2 ++ v) (u2, v, refl, dm, d))
    ]
complete f _ _ (inside b a x w e da) ok t u' h κ v d =
    let p = cons_same (opener b) t (x ++ closer b ∷ []) u' (sym e ∙ h) in
    along _ _ _ (sym (append_assoc x (closer b ∷ []) v) ∙ ap (λ z. z ++ v) p.1)
    (tok_found (is_kind (opener b) t) (a ∷ Tok (closer b) ∷ κ) (x ++ closer b ∷ v) (is_itself (opener b) t p.0) (x, closer b ∷ v, refl, da, (closer b ∷ [], v, refl, here (closer b), d)))
complete zero _ _ (by n w da) ok t u' h κ v d = cc
complete (suc f) _ _ (by n w da) ok t u' h κ v d = complete f (part_expression n) w da ok t u' h κ v d

-- so it is for a row
pub complete_next : (κ : Owed) (t : Kind) (w : List Kind) → DerivesAll κ (t ∷ w) → Found (next κ t) w
complete_next [] t w d = cc
complete_next (e ∷ κ) t w (u, v, q, de, dk) = elim (split t w u v (sym q)) [
  | inl x ↦ found_right (owed_after 3 e κ t) _ w (found_optional (may_be_empty e) (next κ t) w (empty_right e u de x.0) (complete_next κ t w (derives_along κ v (t ∷ w) x.1 dk)))
  | inr x ↦ found_left (owed_after 3 e κ t) _ w (along _ _ _ (sym x.2) (complete 3 e u de (all_fit e) t x.0 x.1 κ v dk))
]

-- and for several rows
pub complete_nexts : (s : List Owed) (t : Kind) (w : List Kind) → Found s (t ∷ w) → Found (nexts s t) w
complete_nexts [] t w (κ, i, d) = absurd i
complete_nexts (x ∷ s) t w (κ, inl e, d) = let P : Owed → Type 0 = λ k. DerivesAll k (t ∷ w) in found_left (next x t) (nexts s t) w (complete_next x t w (subst P e d))
complete_nexts (x ∷ s) t w (κ, inr i, d) = found_right (next x t) (nexts s t) w (complete_nexts s t w (κ, i, d))

-- what may be owed behind a token by several rows derives the rest
pub sound_nexts : (s : List Owed) (t : Kind) (w : List Kind) → Found (nexts s t) w → Found s (t ∷ w)
sound_nexts [] t w (κ, i, d) = absurd i
sound_nexts (x ∷ s) t w (κ, i, d) = elim (in_either κ (next x t) (nexts s t) i) [
  | inl h ↦ (x, inl refl, sound_next x t w κ h d)
  | inr h ↦ let r = sound_nexts s t w (κ, h, d) in (r.0, inr r.1, r.2)
]

-- Each expression derives something.
completed : (e : Exp) → (w : List Kind) × Derives e w
completed (Tok k) = (k ∷ [], here k)
completed (Seq a b) = let x = completed a in let y = completed b in (x.0 ++ y.0, both a b x.0 y.0 (x.0 ++ y.0) refl x.1 y.1)
completed (Alt a b) = let x = completed a in (x.0, left a b x.0 x.1)
completed (Opt a) = ([], without a)
completed (Many a) = ([], no_more a)
completed (Within b a) = let x = completed a in (opener b ∷ (x.0 ++ closer b ∷ []), inside b a x.0 _ refl x.1)
completed (Ref TermPart) = (Link ∷ [], by TermPart _ (left _ _ _ (here Link)))
completed (Ref SumPart) = (Int ∷ [], by SumPart _ (both _ _ (Int ∷ []) [] _ refl (both _ _ (Int ∷ []) [] _ refl (left _ _ _ (here Int)) (no_more _)) (no_more _)))
completed (Ref ClausePart) = (RuleCtx ∷ [], by ClausePart _ (right _ _ _ (both _ _ (RuleCtx ∷ []) [] _ refl (right _ _ _ (right _ _ _ (right _ _ _ (right _ _ _ (left _ _ _ (here RuleCtx)))))) (no_more _))))
completed (Ref ClausesPart) = ([], by ClausesPart _ (without _))

-- each row derives some word
pub all_completed : (κ : Owed) → (w : List Kind) × DerivesAll κ w
all_completed [] = ([], refl)
all_completed (e ∷ κ) = let x = completed e in let y = all_completed κ in (x.0 ++ y.0, (x.0, y.0, refl, x.1, y.1))
