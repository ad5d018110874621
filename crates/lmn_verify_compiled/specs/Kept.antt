-- Code of which a listing keeps all numbers.
use Rattle.std.specs.Prelude.{ℕ, ◌≤◌, ◌<◌, ◌^◌, List}
use Rattle.std.specs.List.{AllByRecursion}
use Rattle.lmn_instr_reading.specs.Reading.{IsIn64Bits}
use Rattle.lmn_instr_code.specs.declared.instr.Code.{Code}
use Rattle.lmn_instr_code.specs.declared.instr.Instr.{Instr}
use Rattle.lmn_instr_code.specs.declared.words.Operand.{Operand}
use Rattle.lmn_instr_code.specs.declared.words.Operand.TheVariants.{Functor as Of, Number, Constant}
use Rattle.lmn_instr_code.specs.Words.{operands}
use Rattle.lmn_verify_listing.specs.Forms.{FitsLabel}
use Rattle.lmn_verify_code.specs.Verified.{IsVerified}
use Rattle.lmn_verify_listing.specs.Listings.{IsWholeCode}

-- A functor has an arity of 8 bits, and as label a name with a number of 32 bits or an integer of 64; a number and a constant have
-- 64 bits.
abbrev pub IsKept : Operand → Type 0
IsKept (Of f) = FitsLabel f.label × (f.arity < 2 ^ 8)
IsKept (Number n) = n < 2 ^ 64
IsKept (Constant z) = IsIn64Bits z
IsKept _ = Unit {0}

-- so it is with each operand of some instructions
abbrev pub AreKept : List Instr → Type 0
AreKept is = AllByRecursion (λ i. AllByRecursion IsKept (operands i)) is

-- and of a code
abbrev pub IsKeptCode : Code → Type 0
IsKeptCode code = AreKept code.head × AreKept code.body

-- Verified code of which a listing keeps all numbers is a head and a body that can be listed.
abbrev pub VerifiedIsWhole : Type 0
VerifiedIsWhole = (code : Code) (k : ℕ) → k ≤ 2 ^ 32 → IsVerified code k → IsKeptCode code → IsWholeCode code
