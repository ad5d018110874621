-- What is still to be written of a whole text.
use Rattle.std.proofs.Common.{◌≡◌, ℕ, zero, suc, ◌+◌, ◌<◌, ◌≤◌, Bool, true, List, [], ◌∷◌, ◌++◌, map, drop, length, Option, Some, refl, sym, ap, ◌∙◌, arith}
use Rattle.std.specs.Prelude.{slice_index_or}
use Rattle.std.proofs.lemmas.List.{append-nil, append_assoc}
use Rattle.lmn_store_heap.specs.Lists.{from, after}
use Rattle.lmn_io.specs.Gathering.{SinkState, Adds}
use Rattle.lmn_io.proofs.TakingLemmas.{adds_as, adds_more, adds_nothing}
use Rattle.lmn_print_plain.specs.Rows.{between_if, in_row}

-- of a whole text all was written but for what is left
pub record Due (whole left : List ℕ) (before now : SinkState) : Type 0 where
  pub written : List ℕ
  pub adds : Adds written before now
  pub rest : whole ≡ written ++ left

-- at first the whole text is due
pub due_first : (whole : List ℕ) (o : SinkState) → Due whole whole o o
due_first whole o = record { written = []; adds = adds_nothing o; rest = refl }

-- the next piece was written
pub due_next : (whole left piece more : List ℕ) (before mid after : SinkState) → left ≡ piece ++ more → Due whole left before mid → Adds piece mid after → Due whole more before after
due_next whole left piece more before mid after e d h = record {
  written = d.written ++ piece;
  adds = adds_more d.written piece before mid after d.adds h;
  rest = d.rest ∙ ap (λ z. d.written ++ z) e ∙ sym (append_assoc d.written piece more);
}

-- what is left has another form
pub due_as : (whole left same : List ℕ) (before now : SinkState) → left ≡ same → Due whole left before now → Due whole same before now
due_as whole left same before now e d = record { written = d.written; adds = d.adds; rest = d.rest ∙ ap (λ z. d.written ++ z) e }

-- nothing is left
pub due_last : (whole : List ℕ) (before now : SinkState) → Due whole [] before now → Adds whole before now
due_last whole before now d = adds_as (sym (d.rest ∙ append-nil d.written)) d.adds

-- the last piece was written
pub due_end : (whole left : List ℕ) (before mid now : SinkState) → Due whole left before mid → Adds left mid now → Adds whole before now
due_end whole left before mid now d h = adds_as (sym d.rest) (adds_more d.written left before mid now d.adds h)

-- One item more of a row that is gone through by `first` and `next`.
pub row_step : (s : List ℕ) (any : Bool) (f : ℕ → List ℕ) (a : ℕ) (next : Option ℕ) (xs whole : List ℕ) (before o1 o2 o3 : SinkState) → from next xs ≡ after a xs
    → Due whole (in_row s any (map f (from (Some a) xs))) before o1 → Adds (between_if s any) o1 o2 → Adds (f a) o2 o3
    → Due whole (in_row s true (map f (from next xs))) before o3
row_step s any f a next xs whole before o1 o2 o3 e d h k =
    due_as whole (in_row s true (map f (after a xs))) (in_row s true (map f (from next xs))) before o3 (ap (λ ys. in_row s true (map f ys)) (sym e))
    (due_next whole (f a ++ in_row s true (map f (after a xs))) (f a) (in_row s true (map f (after a xs))) before o2 o3 refl
    (due_next whole (in_row s any (map f (from (Some a) xs))) (between_if s any) (f a ++ in_row s true (map f (after a xs))) before o1 o2 refl d h) k)

-- from the next on there are fewer
pub fewer_left : (a : ℕ) (next : Option ℕ) (xs : List ℕ) → from next xs ≡ after a xs → length (from next xs) < length (from (Some a) xs)
fewer_left a next xs e = let u : length (from next xs) ≡ length (after a xs) = ap length e in omega (arith, u)

-- One item more of a row that is gone through by its places.
dropped_here : (xs : List ℕ) (i : ℕ) → i < length xs → drop i xs ≡ slice_index_or xs i 0 ∷ drop (suc i) xs
dropped_here [] i h = absurd (omega (arith, h))
dropped_here (x ∷ xs) zero h = refl
dropped_here (x ∷ xs) (suc i) h = dropped_here xs i (omega (arith, h))

dropped_at : (xs : List ℕ) (i : ℕ) → i < length xs → drop i xs ≡ slice_index_or xs i 0 ∷ drop (i + 1) xs
dropped_at xs i h = dropped_here xs i h ∙ ap (λ j. slice_index_or xs i 0 ∷ drop j xs) (let e : suc i ≡ i + 1 = omega arith in e)

-- one item more is written
pub place_step : (s : List ℕ) (any : Bool) (f : ℕ → List ℕ) (x i : ℕ) (xs whole : List ℕ) (before o1 o2 o3 : SinkState) → i < length xs → slice_index_or xs i 0 ≡ x
    → Due whole (in_row s any (map f (drop i xs))) before o1 → Adds (between_if s any) o1 o2 → Adds (f x) o2 o3
    → Due whole (in_row s true (map f (drop (i + 1) xs))) before o3
place_step s any f x i xs whole before o1 o2 o3 l e d h k =
    let rest = in_row s true (map f (drop (i + 1) xs)) in
    let at : in_row s any (map f (drop i xs)) ≡ between_if s any ++ (f x ++ rest) = ap (λ ys. in_row s any (map f ys)) (dropped_at xs i l ∙ ap (λ y. y ∷ drop (i + 1) xs) e) in
    due_next whole (f x ++ rest) (f x) rest before o2 o3 refl (due_next whole (in_row s any (map f (drop i xs))) (between_if s any) (f x ++ rest) before o1 o2 at d h) k

dropped_all : (xs : List ℕ) (i : ℕ) → length xs ≤ i → drop i xs ≡ []
dropped_all [] zero h = refl
dropped_all [] (suc i) h = refl
dropped_all (x ∷ xs) zero h = absurd (omega (arith, h))
dropped_all (x ∷ xs) (suc i) h = dropped_all xs i (omega (arith, h))

-- behind the last the whole is written
pub places_end : (s : List ℕ) (any : Bool) (f : ℕ → List ℕ) (i : ℕ) (xs whole : List ℕ) (before now : SinkState) → length xs ≤ i
    → Due whole (in_row s any (map f (drop i xs))) before now → Adds whole before now
places_end s any f i xs whole before now l d = due_last whole before now (due_as whole _ [] before now (ap (λ ys. in_row s any (map f ys)) (dropped_all xs i l)) d)
