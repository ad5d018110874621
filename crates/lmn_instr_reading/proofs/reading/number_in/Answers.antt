use Rattle.std.proofs.Common.{ℕ, List, sym, ap, ◌∙◌, subst}
use Rattle.std.specs.Result.{result_ok}
use Rattle.std.specs.Str.{IsAscii}
use Rattle.std.proofs.lemmas.Fmt.{parse-decimal, IsAscii-decimal}
use Rattle.std.proofs.lemmas.Str.{IsUtf8-from_ascii}
use Rattle.lmn_instr_reading.proofs.reading.number_in.Goals as goal

pub returns-in-Ok : goal.returns-in-Ok
returns-in-Ok c = λ n low e.
    c.ok.ensures.value ∙ ap result_ok (parse-decimal 64 n _ _ low low (c.in-Ok.ensures.cases.0 ∙ sym e) c.parse.ensures.value.0)

pub returns-in-Err : goal.returns-in-Err
returns-in-Err c = λ n low e.
    absurd (c.in-Err.ensures.cases.0 (IsUtf8-from_ascii _ (subst (λ (t : List ℕ). IsAscii t) e (IsAscii-decimal n low))))
