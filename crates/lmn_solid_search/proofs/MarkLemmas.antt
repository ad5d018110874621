-- What marks tell behind a change.
use Rattle.std.proofs.Common.{◌≡◌, ◌∙◌, ℕ, zero, suc, ◌+◌, ◌<◌, Bool, List, [], ◌∷◌, ◌++◌, length, map, replicate, slice_set, drop, Option, Some, None, if◌then◌else◌, refl, ap, arith}
use Rattle.lmn_base.proofs.Numbers.{equal_itself, unequal}
use Rattle.lmn_solid_search.specs.declared.marks.Mark.{Mark}
use Rattle.lmn_solid_search.specs.Marks.{NoneLater, never, shown}

-- no mark of an earlier round is shown,
unshown : (round : ℕ) (mark : Mark) → mark.round < round → shown round mark ≡ None
unshown round mark l = ap (λ (b : Bool). if b then Some mark.number else None) (unequal mark.round round (λ e. omega (arith, e, l)))

-- so none is in the next round,
pub later_shown : (round : ℕ) (xs : List Mark) → NoneLater round xs → map (shown (round + 1)) xs ≡ map (λ (_ : Option ℕ). None) (map (shown round) xs)
later_shown round [] h = refl
later_shown round (x ∷ xs) h = λ i. unshown (round + 1) x (omega (arith, h.0)) i ∷ later_shown round xs h.1 i

-- and none is of a later one
pub none_later : (round : ℕ) (xs : List Mark) → NoneLater round xs → NoneLater (round + 1) xs
none_later round [] h = tt
none_later round (x ∷ xs) h = (omega (arith, h.0), none_later round xs h.1)

-- marks of no round show nothing in the first,
pub never_told : (n : ℕ) → map (shown 1) (replicate n never) ≡ replicate n None
never_told zero = refl
never_told (suc n) = ap (λ xs. None ∷ xs) (never_told n)

pub never_later : (n : ℕ) → NoneLater 1 (replicate n never)
never_later zero = tt
never_later (suc n) = (omega arith, never_later n)

-- whatever they stand in the place of
pub never_shown : (round : ℕ) (xs : List Mark) → map (shown 1) (replicate (length xs) never) ≡ map (λ (_ : Option ℕ). None) (map (shown round) xs)
never_shown round [] = refl
never_shown round (x ∷ xs) = ap (λ ys. None ∷ ys) (never_shown round xs)

-- a mark of the round is shown where it is set
pub set_shown : (round number : ℕ) (xs : List Mark) (place : ℕ)
    → map (shown round) (slice_set xs place (record { round = round; number = number })) ≡ slice_set (map (shown round) xs) place (Some number)
set_shown round number [] place = refl
set_shown round number (x ∷ xs) zero = ap (λ (b : Bool). (if b then Some number else None) ∷ map (shown round) xs) (equal_itself round)
set_shown round number (x ∷ xs) (suc place) = ap (λ ys. shown round x ∷ ys) (set_shown round number xs place)

-- of a list of which the first marks were replaced by marks of no round, one more is
forgotten : (i : ℕ) (xs : List Mark) → i < length xs → slice_set (replicate i never ++ drop i xs) i never ≡ replicate (suc i) never ++ drop (suc i) xs
forgotten i [] l = absurd (omega (arith, l))
forgotten zero (x ∷ xs) l = refl
forgotten (suc i) (x ∷ xs) l = ap (λ ys. never ∷ ys) (forgotten i xs (omega (arith, l)))

pub one_forgotten : (i : ℕ) (xs ys : List Mark) → ys ≡ replicate i never ++ drop i xs → i < length xs → slice_set ys i never ≡ replicate (i + 1) never ++ drop (i + 1) xs
one_forgotten i xs ys is l =
    let next : suc i ≡ i + 1 = omega arith in
    ap (λ zs. slice_set zs i never) is ∙ forgotten i xs l ∙ ap (λ k. replicate k never ++ drop k xs) next
