-- Tables of refusals, row by row.
use Rattle.std.proofs.Common.{◌≡◌, ◌⊎◌, inl, inr, List, [], ◌∷◌, ◌++◌, Result, Ok, Err, Option, Some, None, is_some, refl, sym, subst, ◌∙◌, arith}
use Rattle.std.proofs.lemmas.List.Elements.{All-head, All-tail, All-cons, All-nil, All-append}
use Rattle.lmn_base.specs.declared.refusal.Pos.{Pos}
use Rattle.lmn_base.specs.declared.refusal.Refusal.{Refusal}
use Rattle.lmn_base.specs.Firsts.{FirstAt, IsFirst, Row, RefusedBy, by_this, by_later, NoneApplies, AnswersBy}
use Rattle.lmn_base.specs.FirstLaws.{OneRefusalOfRows, NoneOrRefused}
use Rattle.lmn_base.specs.Uses.{is_some_place}
use Rattle.lmn_base.proofs.FirstLemmas.{first_is_one}

-- of no places none is the first
pub nowhere : (p : Pos) → ¬ (FirstAt [] p)
nowhere p f = absurd (omega (arith, f.one_of_them.1))

-- a refusal by a row and those behind it
by_first : (row : Row) (rows : List Row) (a : Refusal) → RefusedBy (row ∷ rows) a → ((FirstAt row.places a.pos × (a.code ≡ row.code)) ⊎ ((row.places ≡ []) × RefusedBy rows a))
by_first row rows a (by_this f) = inl (f, refl)
by_first row rows a (by_later r) = inr (refl, r)

-- by its rows a table refuses in one way at most
pub one_refusal : OneRefusalOfRows
one_refusal [] a b r s = elim r [ ]
one_refusal (row ∷ rows) a b r s = both (one_refusal rows a b) (by_first row rows a r) (by_first row rows b s)
  where
    both : (RefusedBy rows a → RefusedBy rows b → a ≡ b) → ((FirstAt row.places a.pos × (a.code ≡ row.code)) ⊎ ((row.places ≡ []) × RefusedBy rows a)) → ((FirstAt row.places b.pos × (b.code ≡ row.code)) ⊎ ((row.places ≡ []) × RefusedBy rows b)) → a ≡ b
    both rest (inl p) (inl q) = λ i. record { code = (p.1 ∙ sym q.1) i; pos = first_is_one row.places a.pos b.pos p.0 q.0 i }
    both rest (inl p) (inr q) = absurd (nowhere a.pos (subst (λ ps. FirstAt ps a.pos) q.0 p.0))
    both rest (inr p) (inl q) = absurd (nowhere b.pos (subst (λ ps. FirstAt ps b.pos) p.0 q.0))
    both rest (inr p) (inr q) = rest p.1 q.1

-- the row applies nowhere
abbrev pub Nowhere : Row → Type 0
Nowhere row = row.places ≡ []

-- a table of which no row applies refuses nothing
pub none_or_refused : NoneOrRefused
none_or_refused [] a none r = elim r [ ]
none_or_refused (row ∷ rows) a none r = by (none_or_refused rows a (All-tail Nowhere row rows none)) (by_first row rows a r)
  where
    by : (RefusedBy rows a → ⊥) → ((FirstAt row.places a.pos × (a.code ≡ row.code)) ⊎ ((row.places ≡ []) × RefusedBy rows a)) → ⊥
    by rest (inl p) = nowhere a.pos (subst (λ ps. FirstAt ps a.pos) (All-head Nowhere row rows none) p.0)
    by rest (inr p) = rest p.1

-- ---- answers

-- a refusal by the first rows is one by all of them
pub refused_now : (rows more : List Row) (a : Refusal) → RefusedBy rows a → RefusedBy (rows ++ more) a
refused_now [] more a r = elim r [ ]
refused_now (row ∷ rows) more a r = by (refused_now rows more a) (by_first row rows a r)
  where
    by : (RefusedBy rows a → RefusedBy (rows ++ more) a) → ((FirstAt row.places a.pos × (a.code ≡ row.code)) ⊎ ((row.places ≡ []) × RefusedBy rows a)) → RefusedBy (row ∷ (rows ++ more)) a
    by rest (inl p) = subst (λ n. RefusedBy (row ∷ (rows ++ more)) (record { code = n; pos = a.pos })) (sym p.1) (by_this p.0)
    by rest (inr p) = subst (λ ps. RefusedBy (record { code = row.code; places = ps } ∷ (rows ++ more)) a) (sym p.0) (by_later (rest p.1))

-- where none of the first rows applies, a refusal by the others is one by all
pub refused_later : (rows more : List Row) (a : Refusal) → NoneApplies rows → RefusedBy more a → RefusedBy (rows ++ more) a
refused_later [] more a none r = r
refused_later (row ∷ rows) more a none r =
    subst (λ ps. RefusedBy (record { code = row.code; places = ps } ∷ (rows ++ more)) a) (sym (All-head Nowhere row rows none)) (by_later (refused_later rows more a (All-tail Nowhere row rows none) r))

-- the rows before apply nowhere, and what is answered by those behind
pub answers_later : {A : Type 0} (rows more : List Row) (answer : Result A Refusal) → NoneApplies rows → AnswersBy more answer → AnswersBy (rows ++ more) answer
answers_later rows more (Ok u) none h = All-append Nowhere rows more none h
answers_later rows more (Err a) none h = refused_later rows more a none h

-- of no rows none applies
pub no_rows : NoneApplies []
no_rows = All-nil Nowhere

-- where none of two lists of rows joined applies none of the first does
pub none_before : (rows more : List Row) → NoneApplies (rows ++ more) → NoneApplies rows
none_before [] more h = no_rows
none_before (row ∷ rows) more h = All-cons Nowhere row rows (All-head Nowhere row (rows ++ more) h) (none_before rows more (All-tail Nowhere row (rows ++ more) h))

-- and none of the second
pub none_behind : (rows more : List Row) → NoneApplies (rows ++ more) → NoneApplies more
none_behind [] more h = h
none_behind (row ∷ rows) more h = none_behind rows more (All-tail Nowhere row (rows ++ more) h)

-- a row without a place doesn't apply
pub one_row : (row : Row) → row.places ≡ [] → NoneApplies (row ∷ [])
one_row row e = All-cons Nowhere row [] e no_rows

-- there is a first place exactly where there is a place
pub somewhere_first : (ps : List Pos) (first : Option Pos) → IsFirst ps first → is_some first ≡ is_some_place ps
somewhere_first [] None h = refl
somewhere_first [] (Some p) h = absurd (nowhere p h)
somewhere_first (q ∷ ps) None h = absurd (cc)
somewhere_first (q ∷ ps) (Some p) h = refl
