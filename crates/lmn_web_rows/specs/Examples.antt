-- Rows of small stores, for examples.
use Rattle.std.specs.Prelude.{ℕ, true, List, ◌++◌, [], ◌∷◌, None, replicate}
use Rattle.lmn_web_rows.specs.Rows.{Item, Row, blank, numbered}

-- a row in use
abbrev pub used : ℕ → List Item → Row
used n is = record { at = n; items = is; live = true }

-- eight words, none of which was written but the number
abbrev pub with_number : ℕ → List Item
with_number i = replicate 7 blank ++ numbered i None ∷ []
