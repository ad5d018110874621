-- What is written of compiled rules is a listing that is read as their codes.
use Rattle.std.specs.Prelude.{ℕ, ◌≡◌, ◌<◌, ◌^◌, List, length}
use Rattle.std.specs.List.{AllByRecursion}
use Rattle.lmn_base.specs.Names.{HasNames, plain_names}
use Rattle.lmn_base.specs.WellMade.{IsWellMade}
use Rattle.lmn_base.specs.declared.rule.Plain.{Plain}
use Rattle.lmn_guards.specs.declared.plan.GuardPlan.{GuardPlan}
use Rattle.lmn_instr_reading.specs.Reading.{AddsNames}
use Rattle.lmn_instr_code.specs.declared.instr.Code.{Code}
use Rattle.lmn_compile_rules.specs.Compiled.{AreWhole}
use Rattle.lmn_compile_listing.specs.Listings.{rule_codes, rule_listings}
use Rattle.lmn_verify_listing.specs.Listings.{AreListed, IsRefusedListing}
use Rattle.lmn_verify_compiled.specs.Kept.{IsKeptCode}
use Rattle.lmn_verify_compiled.specs.ListedTables.{ArePlainNames}
use Rattle.lmn_verify_compiled.specs.OneReading.{NamesOnce}

-- The rules of a plain can be listed with their plans and these names.
--   made    the plain is well made
--   whole   each rule is accepted, with its plan
--   named   the list has the names of the plain
--   short   and these stand in a line
--   few     the number of a rule has 32 bits
--   kept    a listing keeps all numbers of the codes
pub record CanBeListed (names : List (List ℕ)) (p : Plain) (plans : List GuardPlan) : Type 0 where
  pub made : IsWellMade p
  pub whole : AreWhole p.rules plans
  pub named : HasNames names (plain_names p)
  pub short : ArePlainNames names
  pub few : length p.rules < 2 ^ 32
  pub kept : AllByRecursion IsKeptCode (rule_codes p.rules plans)

-- What is written of them are the listings of their codes.
abbrev pub CompiledAreListed : Type 0
CompiledAreListed =
    (names : List (List ℕ)) (p : Plain) (plans : List GuardPlan) → CanBeListed names p plans → AreListed (length p.rules) names (rule_codes p.rules plans) (rule_listings names p.rules plans)

-- So codes that are read of it, where names are put behind these, are theirs,
abbrev pub CompiledAreRead : Type 0
CompiledAreRead =
    (names : List (List ℕ)) (p : Plain) (plans : List GuardPlan) (k : ℕ) (later : List (List ℕ)) (codes : List Code) → CanBeListed names p plans → NamesOnce later → AddsNames k names later
    → AreListed (length p.rules) later codes (rule_listings names p.rules plans) → rule_codes p.rules plans ≡ codes

-- and it isn't refused.
abbrev pub CompiledIsNotRefused : Type 0
CompiledIsNotRefused =
    (names : List (List ℕ)) (p : Plain) (plans : List GuardPlan) (k : ℕ) (later : List (List ℕ)) (code line : ℕ) → CanBeListed names p plans → NamesOnce later → AddsNames k names later
    → IsRefusedListing (length p.rules) names later (rule_listings names p.rules plans) code line → ⊥
