-- What the order in which names are put determines.
use Rattle.std.specs.Prelude.{ℕ, ◌≡◌, ◌≢◌, List, [], ◌∷◌, AllPairs, codes, map, slice_index_or}
use Rattle.lmn_instr_reading.specs.Reading.{AddsNames, NumbersNames}

-- Two lists in which no name stands twice, and which go on from one list, are one where the same names were put in order.
abbrev pub ListsInOrderAreOne : Type 0
ListsInOrderAreOne =
    (k l : ℕ) (before later other : List (List ℕ)) (ns ms : List ℕ) → AddsNames k before later → AddsNames l before other
    → AllPairs (λ m n. m ≢ n) later → AllPairs (λ m n. m ≢ n) other → NumbersNames before ns later → NumbersNames before ms other
    → map (λ n. slice_index_or later n []) ns ≡ map (λ n. slice_index_or other n []) ms → later ≡ other

-- Behind `=`, the names `b` and `a` were put in this order, and `b` once more. They weren't in the other, nor was `b` alone.
abbrev pub some_names : List (List ℕ)
some_names = codes "=" ∷ codes "b" ∷ codes "a" ∷ []

abbrev pub NameOrderExamples : Type 0
NameOrderExamples =
    NumbersNames (codes "=" ∷ []) (1 ∷ 0 ∷ 2 ∷ 1 ∷ []) some_names × (¬ (NumbersNames (codes "=" ∷ []) (2 ∷ 1 ∷ []) some_names))
    × (¬ (NumbersNames (codes "=" ∷ []) (1 ∷ 0 ∷ []) some_names))
