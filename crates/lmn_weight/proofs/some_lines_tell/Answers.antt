use Rattle.lmn_weight.proofs.LineExamples.{some_have_text, three_are_told, wide_has_no_text, wide_is_wrong}
use Rattle.lmn_weight.proofs.some_lines_tell.Goals as goal

pub returns : goal.returns
returns c = record { three = three_are_told; wide = wide_is_wrong; text = some_have_text; no_text = wide_has_no_text }
