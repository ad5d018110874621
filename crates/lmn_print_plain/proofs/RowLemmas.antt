-- Rows of items, item by item.
use Rattle.std.proofs.Common.{◌≡◌, ℕ, ◌+◌, ◌<◌, ◌≤◌, Bool, true, false, List, [], ◌∷◌, ◌++◌, map, take, length, get_or, refl, sym, ap, ◌∙◌}
use Rattle.std.specs.Prelude.{codes}
use Rattle.std.proofs.lemmas.List.{take_more, take_all, map-append, append-nil, append_assoc}
use Rattle.lmn_io.specs.Gathering.{SinkState, Adds}
use Rattle.lmn_io.proofs.TakingLemmas.{adds_as, adds_more, adds_nothing}
use Rattle.lmn_flatten_plain.specs.Words.{Piece, text_of, with_commas}
use Rattle.lmn_print_plain.specs.Rows.{between_if, in_row, any_behind}
use Rattle.lmn_flatten_plain.proofs.LaidLines.{text_append}

-- where an item stands before, one stands behind
stays : {X : Type 0} (xs : List X) → any_behind true xs ≡ true
stays [] = refl
stays (x ∷ xs) = refl

-- a row and then another one
pub row_append : (s : List ℕ) (any : Bool) (ts us : List (List ℕ)) → in_row s any (ts ++ us) ≡ in_row s any ts ++ in_row s (any_behind any ts) us
row_append s any [] us = refl
row_append s any (t ∷ ts) us =
    ap (λ z. between_if s any ++ (t ++ z)) (row_append s true ts us ∙ ap (λ b. in_row s true ts ++ in_row s b us) (stays ts))
    ∙ ap (λ z. between_if s any ++ z) (sym (append_assoc t (in_row s true ts) (in_row s true us)))
    ∙ sym (append_assoc (between_if s any) (t ++ in_row s true ts) (in_row s true us))

-- the items may be counted in any form
pub any_map : {X Y : Type 0} (f : X → Y) (any : Bool) (xs : List X) → any_behind any (map f xs) ≡ any_behind any xs
any_map f any [] = refl
any_map f any (x ∷ xs) = refl

any_more : {X : Type 0} (any : Bool) (xs : List X) (x : X) → any_behind any (xs ++ x ∷ []) ≡ true
any_more any [] x = refl
any_more any (y ∷ xs) x = refl

-- The first i items of a list were added behind others, and `now` says whether an item stands.
abbrev pub InRow : {X : Type 0} → List ℕ → Bool → (X → List ℕ) → List X → ℕ → Bool → SinkState → SinkState → Type 0
InRow s any f xs i now before after = Adds (in_row s any (map f (take i xs))) before after × (now ≡ any_behind any (take i xs))

-- at first none
pub row_first : {X : Type 0} (s : List ℕ) (any : Bool) (f : X → List ℕ) (xs : List X) (o : SinkState) → InRow s any f xs 0 any o o
row_first s any f xs o = (adds_nothing o, refl)

-- then one more
pub row_next : {X : Type 0} (s : List ℕ) (any : Bool) (f : X → List ℕ) (xs : List X) (i : ℕ) (x d : X) (now : Bool) (before mid between after : SinkState)
    → i < length xs → x ≡ get_or xs i d → InRow s any f xs i now before mid → Adds (between_if s now) mid between → Adds (f x) between after
    → InRow s any f xs (i + 1) true before after
row_next s any f xs i x d now before mid between after within is row first then' =
    let more : take (i + 1) xs ≡ take i xs ++ x ∷ [] = take_more xs i d within ∙ ap (λ y. take i xs ++ y ∷ []) (sym is) in
    let here : any_behind any (map f (take i xs)) ≡ now = any_map f any (take i xs) ∙ sym row.1 in
    let whole : in_row s any (map f (take (i + 1) xs)) ≡ in_row s any (map f (take i xs)) ++ (between_if s now ++ f x) =
    ap (λ ys. in_row s any (map f ys)) more
    ∙ ap (in_row s any) (map-append f (take i xs) (x ∷ []))
    ∙ row_append s any (map f (take i xs)) (f x ∷ [])
    ∙ ap (λ b. in_row s any (map f (take i xs)) ++ (between_if s b ++ (f x ++ []))) here
    ∙ ap (λ z. in_row s any (map f (take i xs)) ++ (between_if s now ++ z)) (append-nil (f x))
    in (
      adds_as (sym whole) (adds_more (in_row s any (map f (take i xs))) (between_if s now ++ f x) before mid after row.0 (adds_more (between_if s now) (f x) mid between after first then')),
      sym (ap (any_behind any) more ∙ any_more any (take i xs) x),
    )

-- the same where the item is read from the list
pub row_at : {X : Type 0} (s : List ℕ) (any : Bool) (f : X → List ℕ) (xs : List X) (i : ℕ) (d : X) (now : Bool) (before mid between after : SinkState)
    → i < length xs → InRow s any f xs i now before mid → Adds (between_if s now) mid between → Adds (f (get_or xs i d)) between after
    → InRow s any f xs (i + 1) true before after
row_at s any f xs i d now before mid between after within row first then' = row_next s any f xs i (get_or xs i d) d now before mid between after within refl row first then'

-- at last all
pub row_all : {X : Type 0} (s : List ℕ) (any : Bool) (f : X → List ℕ) (xs : List X) (i : ℕ) (now : Bool) (before after : SinkState)
    → length xs ≤ i → InRow s any f xs i now before after → Adds (in_row s any (map f xs)) before after × (now ≡ any_behind any xs)
row_all s any f xs i now before after end row =
    let whole = take_all i xs end in
    (adds_as (ap (λ ys. in_row s any (map f ys)) whole) row.0, row.1 ∙ ap (any_behind any) whole)

-- Pieces and their text.

-- items with commas are a row
pub comma_row : (ps : List (List Piece)) → text_of (with_commas ps) ≡ in_row (codes ", ") false (map text_of ps)
comma_row [] = refl
comma_row (p ∷ []) = sym (append-nil (text_of p))
comma_row (p ∷ q ∷ ps) = text_append p _ ∙ ap (λ z. text_of p ++ (44 ∷ (32 ∷ z))) (comma_row (q ∷ ps))
