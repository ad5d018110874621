-- The first token outside brackets that ends a guard or a clause, and what a derived word does to it.
use Rattle.std.proofs.Common.{◌≡◌, ℕ, zero, suc, Bool, true, false, ◌&&◌, List, [], ◌∷◌, ◌++◌, Option, Some, None, refl, ◌∙◌, ap, append_assoc}
use Rattle.lmn_parser_grammar.specs.Grammar.{Exp, Tok, Seq, Alt, Opt, Many, Within, Ref, Bracket, Round, Square, Curly, opener, closer, Part, TermPart, SumPart, ClausePart, ClausesPart, part_expression, Derives, here, both, left, right, without, with, no_more, one_more, inside, by}
use Rattle.lmn_lexer.specs.declared.token.Kind.{Kind}
use Rattle.lmn_lexer.specs.declared.token.Kind.TheVariants.{End, LParen, RParen, LBracket, RBracket, LBrace, RBrace, Dot, Bar}
use Rattle.lmn_base.proofs.Truth.{and_true, false_not_true as clash}

-- what a token does to the number of open brackets, and whether it ends something outside of them
pub data Role : Type 0 where
  Opens : Role
  Closes : Role
  Ends : Role
  Stays : Role

-- what a token does to brackets
abbrev pub role : Kind → Role
role LParen = Opens
role LBracket = Opens
role LBrace = Opens
role RParen = Closes
role RBracket = Closes
role RBrace = Closes
role Dot = Ends
role Bar = Ends
role End = Ends
role _ = Stays

-- the first token that stands loose, by what the first of all does to brackets
abbrev pub loose_step : Role → ℕ → Kind → (ℕ → Option Kind) → Option Kind
loose_step Opens n t f = f (suc n)
loose_step Closes zero t f = Some t
loose_step Closes (suc n) t f = f n
loose_step Ends zero t f = Some t
loose_step Ends (suc n) t f = f (suc n)
loose_step Stays n t f = f n

-- inside n brackets
abbrev pub first_loose : ℕ → List Kind → Option Kind
first_loose n [] = None
first_loose n (t ∷ w) = loose_step (role t) n t (λ m. first_loose m w)

abbrev calm_role : ℕ → Role → Bool
calm_role n Opens = false
calm_role n Closes = false
calm_role zero Ends = false
calm_role (suc n) Ends = true
calm_role n Stays = true

abbrev calm_part : ℕ → Part → Bool
calm_part zero TermPart = true
calm_part zero SumPart = true
calm_part zero ClausePart = false
calm_part zero ClausesPart = false
calm_part (suc n) m = true

-- inside n brackets no word of the expression holds a loose token
abbrev pub calm : ℕ → Exp → Bool
calm n (Tok k) = calm_role n (role k)
calm n (Seq a b) = calm n a && calm n b
calm n (Alt a b) = calm n a && calm n b
calm n (Opt a) = calm n a
calm n (Many a) = calm n a
calm n (Within b a) = calm (suc n) a
calm n (Ref m) = calm_part n m

meaning_calm : (n : ℕ) (m : Part) → calm_part n m ≡ true → calm n (part_expression m) ≡ true
meaning_calm zero TermPart h = refl
meaning_calm zero SumPart h = refl
meaning_calm zero ClausePart h = absurd (clash h)
meaning_calm zero ClausesPart h = absurd (clash h)
meaning_calm (suc n) TermPart h = refl
meaning_calm (suc n) SumPart h = refl
meaning_calm (suc n) ClausePart h = refl
meaning_calm (suc n) ClausesPart h = refl

tok_calm : (n : ℕ) (r : Role) (t : Kind) (f : ℕ → Option Kind) → calm_role n r ≡ true → loose_step r n t f ≡ f n
tok_calm n Opens t f h = absurd (clash h)
tok_calm n Closes t f h = absurd (clash h)
tok_calm zero Ends t f h = absurd (clash h)
tok_calm (suc n) Ends t f h = refl
tok_calm n Stays t f h = refl

opened : (b : Bracket) (n : ℕ) (w : List Kind) → first_loose n (opener b ∷ w) ≡ first_loose (suc n) w
opened Round n w = refl
opened Square n w = refl
opened Curly n w = refl

closed : (b : Bracket) (n : ℕ) (w : List Kind) → first_loose (suc n) (closer b ∷ w) ≡ first_loose n w
closed Round n w = refl
closed Square n w = refl
closed Curly n w = refl

-- what an expression derives has no loose token, so the first one stands behind it
pub calm_keeps : (n : ℕ) (e : Exp) (u : List Kind) → Derives e u → calm n e ≡ true → (v : List Kind) → first_loose n (u ++ v) ≡ first_loose n v
calm_keeps n _ _ (here k) h v = tok_calm n (role k) k (λ m. first_loose m v) h
calm_keeps n _ _ (both a b x y w e da db) h v =
    let c = and_true (calm n a) (calm n b) h in
    ap (λ z. first_loose n (z ++ v)) e ∙ ap (first_loose n) (append_assoc x y v) ∙ calm_keeps n a x da c.0 (y ++ v) ∙ calm_keeps n b y db c.1 v
calm_keeps n _ _ (left a b w d) h v = calm_keeps n a w d (and_true (calm n a) (calm n b) h).0 v
calm_keeps n _ _ (right a b w d) h v = calm_keeps n b w d (and_true (calm n a) (calm n b) h).1 v
calm_keeps n _ _ (without a) h v = refl
calm_keeps n _ _ (with a w d) h v = calm_keeps n a w d h v
calm_keeps n _ _ (no_more a) h v = refl
calm_keeps n _ _ (one_more a x y w e da dm) h v =
    ap (λ z. first_loose n (z ++ v)) e ∙ ap (first_loose n) (append_assoc x y v) ∙ calm_keeps n a x da h (y ++ v) ∙ calm_keeps n (Many a) y dm h v
calm_keeps n _ _ (inside b a x w e d) h v =
    ap (λ z. first_loose n (z ++ v)) e ∙ opened b n ((x ++ closer b ∷ []) ++ v) ∙ ap (first_loose (suc n)) (append_assoc x (closer b ∷ []) v)
    ∙ calm_keeps (suc n) a x d h (closer b ∷ v) ∙ closed b n v
calm_keeps n _ _ (by m w d) h v = calm_keeps n (part_expression m) w d (meaning_calm n m h) v
