use Rattle.std.proofs.Common.{◌<◌, ◌^◌, ℕ, ℤ, pos, negsuc, List, sym, ap, ◌∙◌, subst, w64}
use Rattle.std.specs.Result.{result_ok}
use Rattle.std.specs.Str.{IsAscii}
use Rattle.std.specs.Int.RustNames.{FitsSigned}
use Rattle.std.proofs.lemmas.Fmt.{parse-signed_decimal, IsAscii-signed}
use Rattle.std.proofs.lemmas.Str.{IsUtf8-from_ascii}
use lib.Signed.{mag}
use Rattle.lmn_instr_reading.specs.Reading.{IsIn64Bits}
use Rattle.lmn_instr_reading.proofs.reading.integer_in.Goals as goal

small : (z : ℤ) → IsIn64Bits z → mag z < 2 ^ 63
small (pos n) h = h
small (negsuc n) h = h

fits : (z : ℤ) → IsIn64Bits z → FitsSigned w64 z
fits z h = record { sfits = small z h }

pub returns-in-Ok : goal.returns-in-Ok
returns-in-Ok c = λ z low e.
    c.ok.ensures.value ∙ ap result_ok (parse-signed_decimal w64 z _ _ (fits z low) (small z low) (c.in-Ok.ensures.cases.0 ∙ sym e) c.parse.ensures.value.0)

pub returns-in-Err : goal.returns-in-Err
returns-in-Err c = λ z low e.
    absurd (c.in-Err.ensures.cases.0 (IsUtf8-from_ascii _ (subst (λ (t : List ℕ). IsAscii t) e (IsAscii-signed z (small z low)))))
