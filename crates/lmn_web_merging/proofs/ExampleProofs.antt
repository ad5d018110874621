-- What holds of the examples.
use Rattle.std.proofs.Common.{◌≡◌, ◌≢◌, ℕ, [], ◌∷◌, Option, Some, None, refl, sym, ap, subst, inl, inr, arith}
use Rattle.std.proofs.lemmas.Bool.{cases_eq}
use Rattle.std.specs.Prelude.{unwrap_or}
use Rattle.std.specs.Option.{option_map}
use Rattle.lmn_base.proofs.Numbers.{not_equal}
use Rattle.lmn_web.specs.Webs.{WebCell, home_of, with_home}
use Rattle.lmn_web_merging.specs.Examples.{apart, merged, OtherKeeps, OwnIsKept, KeptIsSeen, LenderIsEmpty, LenderIsSeen, RetiredIsNotSeen, AllHasMoved, NothingHasMoved}

-- a cell keeps the lists of a membrane to which it is joined
pub other_keeps : OtherKeeps
other_keeps = refl

-- a membrane that isn't joined keeps its own
pub own_is_kept : OwnIsKept
own_is_kept = refl

-- what is kept for a membrane is seen in it
pub kept_is_seen : KeptIsSeen
kept_is_seen = (refl, refl)

-- and not in the one that keeps it
pub lender_is_empty : LenderIsEmpty
lender_is_empty = refl

-- which is seen
pub lender_is_seen : LenderIsSeen
lender_is_seen = refl

-- until it retires
pub retired_is_not_seen : RetiredIsNotSeen
retired_is_not_seen = refl

-- P of the three cells and of none
each : (P : ℕ → Option WebCell → Option WebCell → Type 0) → P 0 (apart 0) (merged 0) → P 1 (apart 1) (merged 1) → P 2 (apart 2) (merged 2) → ((m : ℕ) → P m None None) → (m : ℕ) → P m (apart m) (merged m)
each P a b c d m = elim (cases_eq m 0) [
  | inl e ↦ subst (λ z. P z (apart z) (merged z)) (sym e) a
  | inr x ↦ elim (cases_eq m 1) [
    | inl e ↦ subst (λ z. P z (apart z) (merged z)) (sym e) b
    | inr y ↦ elim (cases_eq m 2) [
      | inl e ↦ subst (λ z. P z (apart z) (merged z)) (sym e) c
      | inr z ↦ rw (not_equal m 0 x, not_equal m 1 y, not_equal m 2 z) (d m)
    ]
  ]
]

-- all went over
pub all_has_moved : AllHasMoved
all_has_moved = record {
  source_marks = 0 ∷ 0 ∷ [];
  source_mark = refl;
  source = refl;
  target_marks = 0 ∷ 0 ∷ [];
  target_mark = refl;
  target_own = λ e. e;
  target = refl;
  moved = each (λ x o q. home_of o ≡ Some 0 → q ≡ option_map (with_home (Some 1)) o) (λ e. absurd cc) (λ e. absurd cc) (λ e. refl) (λ x e. absurd cc);
  others = each (λ x o q. x ≢ 0 → x ≢ 1 → home_of o ≢ Some 0 → q ≡ o) (λ d f g. absurd (d refl)) (λ d f g. absurd (f refl)) (λ d f g. absurd (g refl)) (λ x d f g. refl);
}

-- an atom that is where it was has not gone over
pub nothing_has_moved : NothingHasMoved
nothing_has_moved s = let e : 0 ≡ 1 = ap (λ (o : Option WebCell). unwrap_or (home_of o) 0) (s.moved 2 refl) in absurd (omega (arith, e))
