-- When a text is the listings of verified codes, and why another is refused.
use Rattle.std.specs.Prelude.{ℕ, ◌≡◌, ◌≢◌, ◌+◌, Bool, true, false, List, [], ◌∷◌, ◌++◌, Some, length, slice_get, take}
use Rattle.std.specs.List.{AllByRecursion, flat_map}
use Rattle.lmn_instr_reading.specs.Reading.{NumbersNames}
use Rattle.lmn_instr_code.specs.declared.instr.Code.{Code}
use Rattle.lmn_instr_code.specs.declared.instr.Instr.{Instr}
use Rattle.lmn_instr_code.specs.declared.instr.Instr.TheVariants.{Commit, Proceed}
use Rattle.lmn_instr_code.specs.Listings.{line, code_listing, HasCode}
use Rattle.lmn_verify_code.specs.Operands.{code_names}
use Rattle.lmn_verify_code.specs.Verified.{IsVerified}
use Rattle.lmn_instr_code.specs.Words.{opcode_of}
use Rattle.lmn_instr_code.specs.Opcodes.{is_in_head}
use Rattle.lmn_verify_listing.specs.Lines.{HasShortNames, FitsInstr, IsWholeLine, IsWrongLine}

-- instructions of a head or of a body, of which the one that ends it is the last and no other
pub record IsBlock (in_head : Bool) (last : Instr) (code : List Instr) : Type 0 where
  pub front : List Instr
  pub are : code ≡ front ++ last ∷ []
  pub of : AllByRecursion (λ i. (is_in_head (opcode_of i) ≡ in_head) × FitsInstr i) front
  pub others : AllByRecursion (λ i. opcode_of i ≢ opcode_of last) front

-- a head and a body
abbrev pub IsWholeCode : Code → Type 0
IsWholeCode code = IsBlock true Commit code.head × IsBlock false Proceed code.body

-- a name has at most 255 bytes, and no name has a line feed
abbrev pub HasPlainLine : List (List ℕ) → Instr → Type 0
HasPlainLine names i = HasShortNames names i × IsWholeLine (line names i)

-- so it is with each line of a code
abbrev pub HasPlainLines : List (List ℕ) → Code → Type 0
HasPlainLines names code = AllByRecursion (HasPlainLine names) code.head × AllByRecursion (HasPlainLine names) code.body

-- the listings of codes, of which the first has this number
abbrev pub listings_from : List (List ℕ) → ℕ → List Code → List ℕ
listings_from names k [] = []
listings_from names k (code ∷ codes) = code_listing names code k ++ listings_from names (k + 1) codes

-- The text is the listings of these codes of n rules, numbered from 0 and one behind the other.
pub record AreListed (n : ℕ) (names : List (List ℕ)) (codes : List Code) (text : List ℕ) : Type 0 where
  pub many : length codes ≡ n
  pub whole : AllByRecursion IsWholeCode codes
  pub named : AllByRecursion (HasCode names) codes
  pub plain : AllByRecursion (HasPlainLines names) codes
  pub are : listings_from names 0 codes ≡ text

-- how many lines the listing of a code has
abbrev pub lines_of : Code → ℕ
lines_of code = 1 + length code.head + length code.body

abbrev pub lines_of_all : List Code → ℕ
lines_of_all [] = 0
lines_of_all (code ∷ codes) = lines_of code + lines_of_all codes

-- The code of rule j is the first that isn't verified, and line k is the first of its listing.
pub record IsFirstUnverified (n : ℕ) (codes : List Code) (k : ℕ) : Type 0 where
  pub rule : ℕ
  pub code : Code
  pub is : slice_get codes rule ≡ Some code
  pub unverified : IsVerified code n → ⊥
  pub earlier : AllByRecursion (λ c. IsVerified c n) (take rule codes)
  pub number : k ≡ 1 + lines_of_all (take rule codes)

-- The text is refused: by 81 at a line that doesn't stand in its place, or by 82 where it is the listings of codes, whose names were
-- put behind those before in the order in which they stand in it.
pub data IsRefusedListing (n : ℕ) (before later : List (List ℕ)) (listing : List ℕ) : ℕ → ℕ → Type 0 where
  not_a_listing : {k : ℕ} → IsWrongLine n listing k → IsRefusedListing n before later listing 81 k
  not_verified : {k : ℕ} (codes : List Code) → AreListed n later codes listing → NumbersNames before (flat_map code_names codes) later → IsFirstUnverified n codes k
      → IsRefusedListing n before later listing 82 k
