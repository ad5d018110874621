-- What a body adds to a membrane of the copy of a rest is what this copy adds.
use Rattle.std.proofs.Common.{ℕ, suc, ◌≡◌, ◌≢◌, ◌⊎◌, ◌+◌, ◌<◌, ◌≤◌, true, false, List, [], ◌∷◌, ◌++◌, refl, sym, ap, subst, ◌∙◌, inl, inr, arith}
use Rattle.std.proofs.lemmas.Bool.{cases_eq}
use Rattle.std.proofs.lemmas.List.{append-nil}
use Rattle.lmn_base.specs.Lists.{In}
use Rattle.lmn_store_heap.specs.Lists.{Distinct}
use Rattle.lmn_store_heap.proofs.ListLemmas.{apart, distinct_left, distinct_right, each_in, in_left, in_right}
use Rattle.lmn_congruence_splice.specs.Splice.{IsOneOf}
use Rattle.lmn_solid_bodies.specs.declared.items.BodyItem.{BodyItem}
use Rattle.lmn_solid_bodies.specs.declared.items.BodyItem.TheVariants.{Atom, Connector, Copy, Bound, Membrane, Rest, Rule, Rules}
use Rattle.lmn_solid_bodies.specs.Added.{made_mems}
use Rattle.lmn_solid_bodies.specs.RestCopies.{RestCopies, AreAsLong, IsAsLong}
use Rattle.lmn_solid_bodies.specs.Rules.{WellPlaced, closed_rests}
use Rattle.lmn_solid_bodies.specs.Running.{Registers}
use Rattle.lmn_adequacy_turns.proofs.Adders.{Adder, Away, EachRest, Misses, at, closed_past, each_rest, each_rest_of, from_copy, many, past, rest_copy}
use Rattle.lmn_adequacy_turns.proofs.MadeMembers.{in_made}

apart_in : (xs ys : List ℕ) (y : ℕ) → Distinct (xs ++ ys) → In y xs → In y ys → ⊥
apart_in xs ys y d i j = apart xs ys y y d i j refl

-- ---- where items are written

-- the membrane in which each item is written
abbrev pub Insides : (ℕ → Type 0) → List BodyItem → Type 0
Insides U [] = Unit {0}
Insides U (Atom functor links inside ∷ xs) = U inside × Insides U xs
Insides U (Connector left right ∷ xs) = Insides U xs
Insides U (Copy part link inside ∷ xs) = U inside × Insides U xs
Insides U (Bound integer link inside ∷ xs) = U inside × Insides U xs
Insides U (Membrane inside ∷ xs) = U inside × Insides U xs
Insides U (Rest of false inside ∷ xs) = U inside × Insides U xs
Insides U (Rest of true inside ∷ xs) = U inside × Insides U xs
Insides U (Rule rule inside ∷ xs) = U inside × Insides U xs
Insides U (Rules of inside ∷ xs) = U inside × Insides U xs

stands : (k m high n inside : ℕ) → (inside ≡ 0) ⊎ ((k < inside) × (inside < m)) → m + n ≤ high → (inside ≡ 0) ⊎ ((1 + k ≤ inside) × (inside < high))
stands k m high n inside (inl e) l = inl e
stands k m high n inside (inr e) l = inr (omega (arith, e.0), omega (arith, e.1, l))

-- items stand in the membrane of the rule and in those that are written
pub insides_placed : (k m high : ℕ) (xs : List BodyItem) → WellPlaced k m xs → m + many xs ≤ high → Insides (λ j. (j ≡ 0) ⊎ ((1 + k ≤ j) × (j < high))) xs
insides_placed k m high [] w l = tt
insides_placed k m high (Atom functor links inside ∷ xs) w l = (stands k m high (many xs) inside w.0 l, insides_placed k m high xs w.1 l)
insides_placed k m high (Connector left right ∷ xs) w l = insides_placed k m high xs w l
insides_placed k m high (Copy part link inside ∷ xs) w l = (stands k m high (many xs) inside w.0 l, insides_placed k m high xs w.1 l)
insides_placed k m high (Bound integer link inside ∷ xs) w l = (stands k m high (many xs) inside w.0 l, insides_placed k m high xs w.1 l)
insides_placed k m high (Membrane inside ∷ xs) w l = (stands k m high (suc (many xs)) inside w.0 l, insides_placed k (m + 1) high xs w.1 (omega (arith, l)))
insides_placed k m high (Rest of false inside ∷ xs) w l = (stands k m high (many xs) inside w.2 l, insides_placed k m high xs w.3 l)
insides_placed k m high (Rest of true inside ∷ xs) w l = (stands k m high (many xs) inside w.1 l, insides_placed k m high xs w.2 l)
insides_placed k m high (Rule rule inside ∷ xs) w l = (stands k m high (many xs) inside w.0 l, insides_placed k m high xs w.1 l)
insides_placed k m high (Rules of inside ∷ xs) w l = (stands k m high (many xs) inside w.1 l, insides_placed k m high xs w.2 l)

-- a membrane that is none of these is missed
pub misses_of : (s : Registers) (U : ℕ → Type 0) (y : ℕ) → ((j : ℕ) → U j → at s j ≢ y) → (xs : List BodyItem) → Insides U xs → Misses s y xs
misses_of s U y o [] i = tt
misses_of s U y o (Atom functor links inside ∷ xs) i = (o inside i.0, misses_of s U y o xs i.1)
misses_of s U y o (Connector left right ∷ xs) i = (tt, misses_of s U y o xs i)
misses_of s U y o (Copy part link inside ∷ xs) i = (o inside i.0, misses_of s U y o xs i.1)
misses_of s U y o (Bound integer link inside ∷ xs) i = (o inside i.0, misses_of s U y o xs i.1)
misses_of s U y o (Membrane inside ∷ xs) i = (o inside i.0, misses_of s U y o xs i.1)
misses_of s U y o (Rest of false inside ∷ xs) i = (o inside i.0, misses_of s U y o xs i.1)
misses_of s U y o (Rest of true inside ∷ xs) i = (o inside i.0, misses_of s U y o xs i.1)
misses_of s U y o (Rule rule inside ∷ xs) i = (o inside i.0, misses_of s U y o xs i.1)
misses_of s U y o (Rules of inside ∷ xs) i = (o inside i.0, misses_of s U y o xs i.1)

-- ---- copies

-- each copy of a rest is as long as the rest
pub each_long : (s : Registers) (q : RestCopies) (t : ℕ) (xs : List BodyItem) → AreAsLong s (from_copy q t) xs → EachRest (λ u of inside. IsAsLong s of (rest_copy q u)) t xs
each_long s q t [] w = tt
each_long s q t (Atom functor links inside ∷ xs) w = each_long s q t xs w
each_long s q t (Connector left right ∷ xs) w = each_long s q t xs w
each_long s q t (Copy part link inside ∷ xs) w = each_long s q t xs w
each_long s q t (Bound integer link inside ∷ xs) w = each_long s q t xs w
each_long s q t (Membrane inside ∷ xs) w = each_long s q t xs w
each_long s q t (Rest of false inside ∷ xs) w = each_long s q t xs w
each_long s q t (Rest of true inside ∷ xs) w = (w.0, each_long s q (suc t) xs w.1)
each_long s q t (Rule rule inside ∷ xs) w = each_long s q t xs w
each_long s q t (Rules of inside ∷ xs) w = each_long s q t xs w

-- its membranes are made
pub each_made : (s : Registers) (q : RestCopies) (t n : ℕ) (xs : List BodyItem) → EachRest (λ u of inside. (y : ℕ) → In y (rest_copy q u).membranes → In y (made_mems s (from_copy q t) n xs)) t xs
each_made s q t n [] = tt
each_made s q t n (Atom functor links inside ∷ xs) = each_made s q t n xs
each_made s q t n (Connector left right ∷ xs) = each_made s q t n xs
each_made s q t n (Copy part link inside ∷ xs) = each_made s q t n xs
each_made s q t n (Bound integer link inside ∷ xs) = each_made s q t n xs
each_made s q t n (Membrane inside ∷ xs) = each_rest (λ u of inside. (y : ℕ) → In y (rest_copy q u).membranes → In y (made_mems s (from_copy q t) (n + 1) xs)) (λ u of inside. (y : ℕ) → In y (rest_copy q u).membranes → In y (at s n ∷ made_mems s (from_copy q t) (n + 1) xs))
    (λ u of i f y l. inr (f y l)) t xs (each_made s q t (n + 1) xs)
each_made s q t n (Rest of false inside ∷ xs) = each_made s q t n xs
each_made s q t n (Rest of true inside ∷ xs) =
    let ms = (rest_copy q t).membranes in
    let others = made_mems s (from_copy q (suc t)) n xs in (
      λ y i. in_left y ms others i,
      each_rest (λ u of inside. (y : ℕ) → In y (rest_copy q u).membranes → In y (made_mems s (from_copy q (suc t)) n xs)) (λ u of inside. (y : ℕ) → In y (rest_copy q u).membranes → In y (made_mems s (from_copy q t) n (Rest of true inside ∷ xs)))
          (λ u of' i f y l. in_right y ms others (f y l)) (suc t) xs (each_made s q (suc t) n xs),
    )
each_made s q t n (Rule rule inside ∷ xs) = each_made s q t n xs
each_made s q t n (Rules of inside ∷ xs) = each_made s q t n xs

-- no membrane that is written is one of them
pub each_apart : (s : Registers) (q : RestCopies) (t n : ℕ) (xs : List BodyItem) → Distinct (made_mems s (from_copy q t) n xs) → EachRest (λ u of inside. (j : ℕ) → n ≤ j → j < n + many xs → In (at s j) (rest_copy q u).membranes → ⊥) t xs
each_apart s q t n [] d = tt
each_apart s q t n (Atom functor links inside ∷ xs) d = each_apart s q t n xs d
each_apart s q t n (Connector left right ∷ xs) d = each_apart s q t n xs d
each_apart s q t n (Copy part link inside ∷ xs) d = each_apart s q t n xs d
each_apart s q t n (Bound integer link inside ∷ xs) d = each_apart s q t n xs d
each_apart s q t n (Membrane inside ∷ xs) d =
    each_rest_of (λ u of inside. (j : ℕ) → n + 1 ≤ j → j < (n + 1) + many xs → In (at s j) (rest_copy q u).membranes → ⊥) (λ u of inside. (y : ℕ) → In y (rest_copy q u).membranes → In y (made_mems s (from_copy q t) (n + 1) xs))
    (λ u of inside. (j : ℕ) → n ≤ j → j < n + suc (many xs) → In (at s j) (rest_copy q u).membranes → ⊥)
    (λ u of i f g j a b l. elim (cases_eq j n) [
      | inl e ↦ each_in (λ y. at s n ≢ y) (made_mems s (from_copy q t) (n + 1) xs) (at s j) d.0 (g (at s j) l) (ap (at s) (sym e))
      | inr e ↦ f j (omega (arith, a, e)) (omega (arith, b)) l
    ]) t xs (each_apart s q t (n + 1) xs d.1) (each_made s q t (n + 1) xs)
each_apart s q t n (Rest of false inside ∷ xs) d = each_apart s q t n xs d
each_apart s q t n (Rest of true inside ∷ xs) d =
    let ms = (rest_copy q t).membranes in
    let others = made_mems s (from_copy q (suc t)) n xs in
    (λ j a b l. apart_in ms others (at s j) d l (in_made s (from_copy q (suc t)) n xs j a b), each_apart s q (suc t) n xs (distinct_right ms others d))
each_apart s q t n (Rule rule inside ∷ xs) d = each_apart s q t n xs d
each_apart s q t n (Rules of inside ∷ xs) d = each_apart s q t n xs d

-- the membranes of one are different
pub each_once : (s : Registers) (q : RestCopies) (t n : ℕ) (xs : List BodyItem) → Distinct (made_mems s (from_copy q t) n xs) → EachRest (λ u of inside. Distinct (rest_copy q u).membranes) t xs
each_once s q t n [] d = tt
each_once s q t n (Atom functor links inside ∷ xs) d = each_once s q t n xs d
each_once s q t n (Connector left right ∷ xs) d = each_once s q t n xs d
each_once s q t n (Copy part link inside ∷ xs) d = each_once s q t n xs d
each_once s q t n (Bound integer link inside ∷ xs) d = each_once s q t n xs d
each_once s q t n (Membrane inside ∷ xs) d = each_once s q t (n + 1) xs d.1
each_once s q t n (Rest of false inside ∷ xs) d = each_once s q t n xs d
each_once s q t n (Rest of true inside ∷ xs) d =
    let ms = (rest_copy q t).membranes in
    let others = made_mems s (from_copy q (suc t)) n xs in
    (distinct_left ms others d, each_once s q (suc t) n xs (distinct_right ms others d))
each_once s q t n (Rule rule inside ∷ xs) d = each_once s q t n xs d
each_once s q t n (Rules of inside ∷ xs) d = each_once s q t n xs d

-- no two have a membrane in common
abbrev pub Disjoint : RestCopies → ℕ → List BodyItem → Type 0
Disjoint q t [] = Unit {0}
Disjoint q t (Atom functor links inside ∷ xs) = Disjoint q t xs
Disjoint q t (Connector left right ∷ xs) = Disjoint q t xs
Disjoint q t (Copy part link inside ∷ xs) = Disjoint q t xs
Disjoint q t (Bound integer link inside ∷ xs) = Disjoint q t xs
Disjoint q t (Membrane inside ∷ xs) = Disjoint q t xs
Disjoint q t (Rest of false inside ∷ xs) = Disjoint q t xs
Disjoint q t (Rest of true inside ∷ xs) = EachRest (λ u of' inside'. (y : ℕ) → In y (rest_copy q t).membranes → In y (rest_copy q u).membranes → ⊥) (suc t) xs × Disjoint q (suc t) xs
Disjoint q t (Rule rule inside ∷ xs) = Disjoint q t xs
Disjoint q t (Rules of inside ∷ xs) = Disjoint q t xs

-- so it is, since no membrane is made twice
pub disjoint : (s : Registers) (q : RestCopies) (t n : ℕ) (xs : List BodyItem) → Distinct (made_mems s (from_copy q t) n xs) → Disjoint q t xs
disjoint s q t n [] d = tt
disjoint s q t n (Atom functor links inside ∷ xs) d = disjoint s q t n xs d
disjoint s q t n (Connector left right ∷ xs) d = disjoint s q t n xs d
disjoint s q t n (Copy part link inside ∷ xs) d = disjoint s q t n xs d
disjoint s q t n (Bound integer link inside ∷ xs) d = disjoint s q t n xs d
disjoint s q t n (Membrane inside ∷ xs) d = disjoint s q t (n + 1) xs d.1
disjoint s q t n (Rest of false inside ∷ xs) d = disjoint s q t n xs d
disjoint s q t n (Rest of true inside ∷ xs) d =
    let ms = (rest_copy q t).membranes in
    let others = made_mems s (from_copy q (suc t)) n xs in (
      each_rest (λ u of' inside'. (y : ℕ) → In y (rest_copy q u).membranes → In y (made_mems s (from_copy q (suc t)) n xs)) (λ u of' inside'. (y : ℕ) → In y (rest_copy q t).membranes → In y (rest_copy q u).membranes → ⊥)
          (λ u of' i f y l r. apart_in ms others y d l (f y r)) (suc t) xs (each_made s q (suc t) n xs),
      disjoint s q (suc t) n xs (distinct_right ms others d),
    )
disjoint s q t n (Rule rule inside ∷ xs) d = disjoint s q t n xs d
disjoint s q t n (Rules of inside ∷ xs) d = disjoint s q t n xs d

-- each is of a closed context of the body
pub each_of_body : (P : ℕ → Type 0) (t : ℕ) (xs : List BodyItem) → ((of : ℕ) → IsOneOf of (closed_rests xs) → P of) → EachRest (λ u of inside. P of) t xs
each_of_body P t [] f = tt
each_of_body P t (Atom functor links inside ∷ xs) f = each_of_body P t xs f
each_of_body P t (Connector left right ∷ xs) f = each_of_body P t xs f
each_of_body P t (Copy part link inside ∷ xs) f = each_of_body P t xs f
each_of_body P t (Bound integer link inside ∷ xs) f = each_of_body P t xs f
each_of_body P t (Membrane inside ∷ xs) f = each_of_body P t xs f
each_of_body P t (Rest of false inside ∷ xs) f = each_of_body P t xs f
each_of_body P t (Rest of true inside ∷ xs) f = (f of (inl refl), each_of_body P (suc t) xs (λ k i. f k (inr i)))
each_of_body P t (Rule rule inside ∷ xs) f = each_of_body P t xs f
each_of_body P t (Rules of inside ∷ xs) f = each_of_body P t xs f

-- each goes to a membrane in which items are written
pub each_inside : (U : ℕ → Type 0) (t : ℕ) (xs : List BodyItem) → Insides U xs → EachRest (λ u of inside. U inside) t xs
each_inside U t [] i = tt
each_inside U t (Atom functor links inside ∷ xs) i = each_inside U t xs i.1
each_inside U t (Connector left right ∷ xs) i = each_inside U t xs i
each_inside U t (Copy part link inside ∷ xs) i = each_inside U t xs i.1
each_inside U t (Bound integer link inside ∷ xs) i = each_inside U t xs i.1
each_inside U t (Membrane inside ∷ xs) i = each_inside U t xs i.1
each_inside U t (Rest of false inside ∷ xs) i = each_inside U t xs i.1
each_inside U t (Rest of true inside ∷ xs) i = (i.0, each_inside U (suc t) xs i.1)
each_inside U t (Rule rule inside ∷ xs) i = each_inside U t xs i.1
each_inside U t (Rules of inside ∷ xs) i = each_inside U t xs i.1

-- ---- what is added

module _ {X : Type 0} (s : Registers) (q : RestCopies) (A : Adder s q X) (U : ℕ → Type 0) where
  -- a copy is as long as its rest, and no membrane in which an item is written is one of it
  abbrev pub Clear : ℕ → ℕ → ℕ → Type 0
  Clear u of inside = IsAsLong s of (rest_copy q u) × ((j : ℕ) → U j → In (at s j) (rest_copy q u).membranes → ⊥)

  -- to a membrane of a copy these items add what the copy adds
  abbrev pub AddsAlone : ℕ → ℕ → ℕ → List BodyItem → ℕ → ℕ → ℕ → Type 0
  AddsAlone t n k xs u of inside = (y : ℕ) → In y (rest_copy q u).membranes → A.adds t n k xs y ≡ A.rest of inside (rest_copy q u) y

  off : (u of inside y : ℕ) → Clear u of inside → In y (rest_copy q u).membranes → (j : ℕ) → U j → at s j ≢ y
  off u of inside y f l j uj e = f.1 j uj (subst (λ z. In z (rest_copy q u).membranes) (sym e) l)

  -- an item that copies no rest in front
  step : (t n k : ℕ) (i : BodyItem) (xs : List BodyItem) → closed_past t (i ∷ []) ≡ t → ((y : ℕ) → ((j : ℕ) → U j → at s j ≢ y) → Misses s y (i ∷ []) × EachRest (Away s q y) t (i ∷ [])) →
      EachRest Clear t xs → EachRest (AddsAlone t (n + many (i ∷ [])) (past k (i ∷ [])) xs) t xs → EachRest (AddsAlone t n k (i ∷ xs)) t xs
  step t n k i xs same miss clear ih =
      each_rest_of Clear (AddsAlone t (n + many (i ∷ [])) (past k (i ∷ [])) xs) (AddsAlone t n k (i ∷ xs)) (λ u of inside f w y l.
      (let m = miss y (off u of inside y f l) in
      A.both t n k (i ∷ []) xs y ∙ ap (λ z. z ++ A.adds (closed_past t (i ∷ [])) (n + many (i ∷ [])) (past k (i ∷ [])) xs y) (A.missed t n k (i ∷ []) y m.0 m.1)
      ∙ ap (λ z. A.adds z (n + many (i ∷ [])) (past k (i ∷ [])) xs y) same ∙ w y l)) t xs clear ih

  pub alone : (t n k : ℕ) (xs : List BodyItem) → Insides U xs → EachRest Clear t xs → Disjoint q t xs → EachRest (AddsAlone t n k xs) t xs
  alone t n k [] i c d = tt
  alone t n k (Atom functor links inside ∷ xs) i c d = step t n k (Atom functor links inside) xs refl (λ y o. ((o inside i.0, tt), tt)) c (alone t (n + 0) k xs i.1 c d)
  alone t n k (Connector left right ∷ xs) i c d = step t n k (Connector left right) xs refl (λ y o. ((tt, tt), tt)) c (alone t (n + 0) k xs i c d)
  alone t n k (Copy part link inside ∷ xs) i c d = step t n k (Copy part link inside) xs refl (λ y o. ((o inside i.0, tt), tt)) c (alone t (n + 0) (k + 1) xs i.1 c d)
  alone t n k (Bound integer link inside ∷ xs) i c d = step t n k (Bound integer link inside) xs refl (λ y o. ((o inside i.0, tt), tt)) c (alone t (n + 0) k xs i.1 c d)
  alone t n k (Membrane inside ∷ xs) i c d = step t n k (Membrane inside) xs refl (λ y o. ((o inside i.0, tt), tt)) c (alone t (n + 1) k xs i.1 c d)
  alone t n k (Rest of false inside ∷ xs) i c d = step t n k (Rest of false inside) xs refl (λ y o. ((o inside i.0, tt), tt)) c (alone t (n + 0) k xs i.1 c d)
  alone t n k (Rest of true inside ∷ xs) i c d =
      let mine = A.rest of inside (rest_copy q t) in
      let ih = alone (suc t) n k xs i.1 c.1 d.1 in
      let Others : ℕ → ℕ → ℕ → Type 0 = λ u of' inside'. (y : ℕ) → In y (rest_copy q t).membranes → In y (rest_copy q u).membranes → ⊥ in
      let both = each_rest_of Clear Others (λ u of' inside'. Clear u of' inside' × Others u of' inside') (λ u of' inside' a b. (a, b)) (suc t) xs c.1 d.0 in (
        λ y l. A.rest_first t n k of inside xs y
            ∙ ap (λ z. A.rest of inside (rest_copy q t) y ++ z)
            (A.missed (suc t) n k xs y (misses_of s U y (off t of inside y c.0 l) xs i.1) (each_rest (λ u of' inside'. Clear u of' inside' × Others u of' inside') (Away s q y) (λ u of' inside' f. (f.0.0, f.1 y l)) (suc t) xs both))
            ∙ append-nil (A.rest of inside (rest_copy q t) y),
        each_rest_of (λ u of' inside'. Clear u of' inside' × Others u of' inside') (AddsAlone (suc t) n k xs) (AddsAlone t n k (Rest of true inside ∷ xs)) (λ u of' inside' f w y l.
            A.rest_first t n k of inside xs y ∙ ap (λ z. z ++ A.adds (suc t) n k xs y) (A.rest_missed t of inside y (off u of' inside' y f.0 l inside i.0) (c.0.0, λ r. f.1 y r l)) ∙ w y l) (suc t) xs both ih,
      )
  alone t n k (Rule rule inside ∷ xs) i c d = step t n k (Rule rule inside) xs refl (λ y o. ((o inside i.0, tt), tt)) c (alone t (n + 0) k xs i.1 c d)
  alone t n k (Rules of inside ∷ xs) i c d = step t n k (Rules of inside) xs refl (λ y o. ((o inside i.0, tt), tt)) c (alone t (n + 0) k xs i.1 c d)
