-- Verified codes, as those of a table of rules are, have a listing that is read.
use Rattle.lmn_base.specs.Limits.{longest_name}
use Rattle.std.specs.Prelude.{ℕ, ◌≤◌, ◌^◌, List, length}
use Rattle.std.specs.List.{AllByRecursion}
use Rattle.lmn_instr_code.specs.declared.instr.Code.{Code}
use Rattle.lmn_instr_code.specs.Listings.{HasCode}
use Rattle.lmn_schedule_strategy.specs.Turns.{IsTableCode}
use Rattle.lmn_verify_listing.specs.Lines.{HasNo}
use Rattle.lmn_verify_listing.specs.Listings.{AreListed, listings_from}
use Rattle.lmn_verify_code.specs.Verified.{IsVerified}
use Rattle.lmn_verify_compiled.specs.Kept.{IsKeptCode}

-- Each name of a list has at most 255 bytes, and no line feed.
abbrev pub ArePlainNames : List (List ℕ) → Type 0
ArePlainNames names = AllByRecursion (λ name. (length name ≤ longest_name) × HasNo 10 name) names

-- Verified codes of which a listing keeps all numbers have a listing, with names that stand in a line.
abbrev pub VerifiedAreListed : Type 0
VerifiedAreListed =
    (names : List (List ℕ)) (codes : List Code) → AllByRecursion (λ c. IsVerified c (length codes)) codes → length codes ≤ 2 ^ 32 → AllByRecursion IsKeptCode codes
    → AllByRecursion (HasCode names) codes → ArePlainNames names → AreListed (length codes) names codes (listings_from names 0 codes)

-- So have the codes of each table of accepted rules.
abbrev pub TablesAreListed : Type 0
TablesAreListed =
    (names : List (List ℕ)) (codes : List Code) → IsTableCode codes → length codes ≤ 2 ^ 32 → AllByRecursion IsKeptCode codes
    → AllByRecursion (HasCode names) codes → ArePlainNames names → AreListed (length codes) names codes (listings_from names 0 codes)
