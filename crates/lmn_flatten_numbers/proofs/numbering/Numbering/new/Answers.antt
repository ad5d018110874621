use Rattle.std.proofs.Common.{◌≡◌, ◌∙◌, ap, replicate, None, arith}
use Rattle.lmn_flatten_numbers.proofs.NumberSteps.{new_numbering}
use Rattle.lmn_flatten_numbers.proofs.numbering.Numbering.new.Goals as goal

pub returns : goal.returns
returns c = let same : c.loop.counter ≡ c.args.keys = omega arith in new_numbering c.args.keys c.loop.numbers (c.loop.invariant ∙ ap (λ n. replicate n None) same) (omega arith)
