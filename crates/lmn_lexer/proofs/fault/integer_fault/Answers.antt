use Rattle.std.proofs.Common.{refl}
use Rattle.lmn_lexer.specs.Faults.{floating_point, integer_out_of_range}
use Rattle.lmn_lexer.proofs.fault.integer_fault.Goals as goal

pub returns-then-begins_fraction : goal.returns-then-begins_fraction
returns-then-begins_fraction c = floating_point refl (c.begins_fraction.ensures.0 c.if-begins_fraction.true)

pub returns : goal.returns
returns c = integer_out_of_range refl (λ h. absurd (let t = c.begins_fraction.ensures.1 h in let f = c.if-begins_fraction.false in cc))
    (λ h. absurd (let t = c.is_in_range.ensures.1 h in let f = c.if-is_in_range.false in cc))
