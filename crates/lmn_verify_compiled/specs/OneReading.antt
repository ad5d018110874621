-- A listing is the listing of one list of codes.
use Rattle.std.specs.Prelude.{ℕ, ◌≡◌, ◌≢◌, ◌<◌, ◌^◌, List, AllPairs}
use Rattle.std.specs.List.{AllByRecursion, flat_map}
use Rattle.lmn_instr_reading.specs.Reading.{AddsNames, NumbersNames}
use Rattle.lmn_instr_code.specs.declared.instr.Code.{Code}
use Rattle.lmn_verify_code.specs.Operands.{code_names}
use Rattle.lmn_verify_code.specs.Verified.{IsVerified}
use Rattle.lmn_verify_listing.specs.Listings.{AreListed, IsRefusedListing}

-- no name stands twice in a list
abbrev pub NamesOnce : List (List ℕ) → Type 0
NamesOnce names = AllPairs (λ a b. a ≢ b) names

-- Codes of which a text is the listings are one, where no name stands twice in the list.
abbrev pub ListedCodesAreOne : Type 0
ListedCodesAreOne =
    (n : ℕ) (names : List (List ℕ)) (cs ds : List Code) (text : List ℕ) → n < 2 ^ 32 → NamesOnce names → AreListed n names cs text → AreListed n names ds text → cs ≡ ds

-- So codes that are listed by some names are those that are read where names are put behind these.
abbrev pub ListedCodesAreRead : Type 0
ListedCodesAreRead =
    (n k : ℕ) (names later : List (List ℕ)) (cs ds : List Code) (text : List ℕ) → n < 2 ^ 32 → NamesOnce later → AddsNames k names later
    → AreListed n names cs text → AreListed n later ds text → cs ≡ ds

-- And the names are one too, where those of the codes are put in their order behind some that are held.
abbrev pub ListedNamesAreOne : Type 0
ListedNamesAreOne =
    (n k l : ℕ) (names later other : List (List ℕ)) (cs ds : List Code) (text : List ℕ) → n < 2 ^ 32 → NamesOnce later → NamesOnce other
    → AddsNames k names later → AddsNames l names other → NumbersNames names (flat_map code_names cs) later → NumbersNames names (flat_map code_names ds) other
    → AreListed n later cs text → AreListed n other ds text → later ≡ other

-- And where each of them is verified the listing isn't refused.
abbrev pub VerifiedIsNotRefused : Type 0
VerifiedIsNotRefused =
    (n k : ℕ) (names later : List (List ℕ)) (cs : List Code) (text : List ℕ) (code line : ℕ) → n < 2 ^ 32 → NamesOnce later → AddsNames k names later
    → AreListed n names cs text → AllByRecursion (λ c. IsVerified c n) cs → IsRefusedListing n names later text code line → ⊥
