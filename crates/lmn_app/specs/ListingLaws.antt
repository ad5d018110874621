-- The law of listings.
use Rattle.std.specs.Prelude.{ℕ, ◌≡◌, List}
use Rattle.lmn_app_single.specs.Writing.{IsListing}

-- A text has one listing at most: two plains of it differ in the addresses of boxes alone, and no code has these.
abbrev pub OneListing : Type 0
OneListing = (text listing other : List ℕ) → IsListing text listing → IsListing text other → listing ≡ other
