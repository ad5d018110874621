-- Rows that fill blocks.
use Rattle.std.specs.Prelude.{◌≡◌, ℕ, ◌*◌, ◌^◌, List, [], ◌∷◌}
use Rattle.lmn_web_rows.specs.Rows.{Row, first_rows, later_rows, AreSideBySide}

-- the rows of some blocks, block by block: those of each lie side by side and fill it
abbrev pub AreTiled : List ℕ → List Row → Type 0
AreTiled [] rs = rs ≡ []
AreTiled (b ∷ bs) rs = AreSideBySide (b * 2 ^ 18) (2 ^ 18) (first_rows (2 ^ 18) rs) × AreTiled bs (later_rows (2 ^ 18) rs)
