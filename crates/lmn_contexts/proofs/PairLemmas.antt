-- Two contexts of one membrane, an outer membrane being asked before those in it.
use Rattle.std.proofs.Common.{ℕ, suc, ◌≡◌, ◌+◌, ◌<◌, true, cond, List, [], ◌∷◌, ◌++◌, length, drop, get_or, Option, Some, None, refl, sym, ap, subst, ◌∙◌, add-one}
use Rattle.std.specs.List.{flat_map}
use Rattle.std.specs.Option.{option_or}
use Rattle.std.proofs.lemmas.Option.{same_Some}
use Rattle.std.proofs.Math.Seq.{drop-cons}
use Rattle.std.proofs.lemmas.List.Folds.{flat_map-map}
use Rattle.lmn_base.specs.declared.level.Level.{Level, out-Level}
use Rattle.lmn_base.specs.declared.level.Level.TheFolds.{fold_out-Level}
use Rattle.lmn_base.specs.declared.refusal.Pos.{Pos}
use Rattle.lmn_base.specs.Firsts.{FirstAt, IsFirst}
use Rattle.lmn_base_walks.specs.RuleCodes.{seconds, seconds_by_membrane, first_with_some}
use Rattle.lmn_base.specs.Uses.{is_some_place}
use Rattle.lmn_base.proofs.RowLemmas.{nowhere}

seconds_apart : (l : Level) → seconds_by_membrane l ≡ seconds (out-Level l) ∷ flat_map seconds_by_membrane (out-Level l).membranes
seconds_apart l = fold_out-Level (List (List Pos)) (λ l. (seconds l ∷ []) ++ flat_map (λ inner. inner) l.membranes) l ∙ ap (λ xs. seconds (out-Level l) ∷ xs) (flat_map-map (λ inner. inner) seconds_by_membrane (out-Level l).membranes)

joined : (xs ys : List (List Pos)) → first_with_some (xs ++ ys) ≡ cond (is_some_place (first_with_some xs)) (first_with_some xs) (first_with_some ys)
joined [] ys = refl
joined ([] ∷ xs) ys = joined xs ys
joined ((p ∷ ps) ∷ xs) ys = refl

-- where there is a first place there is one
pub is_somewhere : (ps : List Pos) (p : Pos) → FirstAt ps p → is_some_place ps ≡ true
is_somewhere [] p f = absurd (nowhere p f)
is_somewhere (q ∷ ps) p f = refl

first_found : (xs ys : List (List Pos)) (p : Pos) → FirstAt (first_with_some xs) p → first_with_some (xs ++ ys) ≡ first_with_some xs
first_found xs ys p f = joined xs ys ∙ ap (λ b. cond b (first_with_some xs) (first_with_some ys)) (is_somewhere (first_with_some xs) p f)

none_found : (xs ys : List (List Pos)) → first_with_some xs ≡ [] → first_with_some (xs ++ ys) ≡ first_with_some ys
none_found xs ys e = joined xs ys ∙ ap (λ ps. cond (is_some_place ps) (first_with_some xs) (first_with_some ys)) e

behind_none : (ps : List Pos) (more : List (List Pos)) → ps ≡ [] → first_with_some (ps ∷ more) ≡ first_with_some more
behind_none ps more e = ap (λ qs. first_with_some (qs ∷ more)) e

at_first : (ps : List Pos) (more : List (List Pos)) (p : Pos) → FirstAt ps p → first_with_some (ps ∷ more) ≡ ps
at_first ps more p f = ap (λ b. cond b ps (first_with_some more)) (is_somewhere ps p f)

module _ (ms : List Level) (i : ℕ) (x : Level) (within : i < length ms) (at : x ≡ get_or ms i x) where
  abbrev left : ℕ → List (List Pos)
  left n = flat_map seconds_by_membrane (drop n ms)

  abbrev inside : List (List Pos)
  inside = flat_map seconds_by_membrane (out-Level x).membranes

  here : left i ≡ seconds (out-Level x) ∷ (inside ++ left (i + 1))
  here =
      let front : drop i ms ≡ x ∷ drop (i + 1) ms = rw add-one (drop-cons ms i x within ∙ ap (λ y. y ∷ drop (suc i) ms) (sym at)) in
      ap (flat_map seconds_by_membrane) front ∙ ap (λ ps. ps ++ left (i + 1)) (seconds_apart x)

  pub in_itself : (p : Pos) → FirstAt (seconds (out-Level x)) p → FirstAt (first_with_some (left i)) p
  in_itself p f = subst (λ ps. FirstAt ps p) (sym (ap first_with_some here ∙ at_first (seconds (out-Level x)) (inside ++ left (i + 1)) p f)) f

  pub in_inner : (p : Pos) → seconds (out-Level x) ≡ [] → FirstAt (first_with_some inside) p → FirstAt (first_with_some (left i)) p
  in_inner p e f =
      subst (λ ps. FirstAt ps p) (sym (ap first_with_some here ∙ behind_none (seconds (out-Level x)) (inside ++ left (i + 1)) e ∙ first_found inside (left (i + 1)) p f)) f

  pub in_neither : seconds (out-Level x) ≡ [] → first_with_some inside ≡ [] → first_with_some (left (i + 1)) ≡ first_with_some (left i)
  in_neither e f = sym (ap first_with_some here ∙ behind_none (seconds (out-Level x)) (inside ++ left (i + 1)) e ∙ none_found inside (left (i + 1)) f)

  -- the first of two answers is that of the membrane itself, where there is one
  pub in_one_of : (own below : Option Pos) (p : Pos) → IsFirst (seconds (out-Level x)) own → IsFirst (first_with_some inside) below → option_or own below ≡ Some p → FirstAt (first_with_some (left i)) p
  in_one_of None None p a b e = absurd (cc)
  in_one_of None (Some q) p a b e = in_inner p a (subst (FirstAt (first_with_some inside)) (same_Some q p e) b)
  in_one_of (Some q) below p a b e = in_itself p (subst (FirstAt (seconds (out-Level x))) (same_Some q p e) a)

  pub in_none_of : (own below : Option Pos) → IsFirst (seconds (out-Level x)) own → IsFirst (first_with_some inside) below → option_or own below ≡ None → first_with_some (left (i + 1)) ≡ first_with_some (left i)
  in_none_of None None a b e = in_neither a b
  in_none_of None (Some q) a b e = absurd (cc)
  in_none_of (Some q) below a b e = absurd (cc)
