use Rattle.std.proofs.Common.{◌∙◌, refl, sym}
use Rattle.lmn_receipt_search.proofs.next.limit_in.Goals as goal

pub returns-then-is_left_out : goal.returns-then-is_left_out
returns-then-is_left_out c unset = let both = sym c.if-is_left_out.true ∙ c.is_left_out.ensures ∙ unset in absurd (cc)

pub returns-else-is_left_out : goal.returns-else-is_left_out
returns-else-is_left_out c unset = refl
