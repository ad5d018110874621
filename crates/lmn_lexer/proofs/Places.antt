-- Places behind bytes.
use Rattle.std.proofs.Common.{◌≡◌, ℕ, ◌+◌, ◌≤◌, ◌==◌, Bool, true, false, if◌then◌else◌, List, [], ◌∷◌, ◌++◌, length, refl, ap, ◌∙◌, arith, suc}
use Rattle.std.specs.Prelude.{count_by}
use Rattle.std.proofs.lemmas.List.Sums.{count_by-le-length}
use Rattle.lmn_lexer.specs.Cutting.{column_behind, place}
use Rattle.lmn_lexer.proofs.Runs.{count-append}

column_behind-append : (column : ℕ) (xs ys : List ℕ) → column_behind column (xs ++ ys) ≡ column_behind (column_behind column xs) ys
column_behind-append column [] ys = refl
column_behind-append column (b ∷ xs) ys = go (b == 10) (column_behind-append 1 xs ys) (column_behind-append (column + 1) xs ys)
  where
    go : (t : Bool) → column_behind 1 (xs ++ ys) ≡ column_behind (column_behind 1 xs) ys → column_behind (column + 1) (xs ++ ys) ≡ column_behind (column_behind (column + 1) xs) ys
        → (if t then column_behind 1 (xs ++ ys) else column_behind (column + 1) (xs ++ ys)) ≡ column_behind (if t then column_behind 1 xs else column_behind (column + 1) xs) ys
    go true h k = h
    go false h k = k

-- the place behind more bytes
pub place-append : (before bytes : List ℕ) → place (before ++ bytes) ≡ record { line = (place before).line + count_by (λ b. b == 10) bytes; column = column_behind (place before).column bytes }
place-append before bytes =
    ap (λ n. record { line = n; column = column_behind 1 (before ++ bytes) }) (let counts = count-append (λ b. b == 10) before bytes in omega arith)
    ∙ ap (λ n. record { line = (place before).line + count_by (λ b. b == 10) bytes; column = n }) (column_behind-append 1 before bytes)

column_within : (column : ℕ) (bytes : List ℕ) → column_behind column bytes ≤ column + length bytes
column_within column [] = omega arith
column_within column (b ∷ bs) = go (b == 10) (column_within 1 bs) (column_within (column + 1) bs)
  where
    go : (t : Bool) → column_behind 1 bs ≤ 1 + length bs → column_behind (column + 1) bs ≤ column + 1 + length bs
        → (if t then column_behind 1 bs else column_behind (column + 1) bs) ≤ column + suc (length bs)
    go true h k = omega arith
    go false h k = omega arith

-- line and column are at most one more than the bytes before
pub place_within : (before : List ℕ) → ((place before).line ≤ 1 + length before) × ((place before).column ≤ 1 + length before)
place_within before = (let counts = count_by-le-length (λ b. b == 10) before in omega arith, column_within 1 before)
