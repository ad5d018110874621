use Rattle.std.proofs.Common.{◌≡◌, ◌∙◌, ap, replicate, None, arith}
use Rattle.lmn_flatten_numbers.proofs.NumberSteps.{new_numbering}
use Rattle.lmn_solid_settle.proofs.numbers.Numbers.new.Goals as goal

pub returns-clause-none : goal.returns-clause-none
returns-clause-none c =
    let l = c.loop-test.false in
    let k = c.loop.auto.counter-end in
    let f = c.ranges.links.fits in
    let same : c.loop.counter ≡ c.args.links = omega (arith, l, k) in
    new_numbering c.args.links c.loop.numbers (c.loop.invariant ∙ ap (λ n. replicate n None) same) (omega (arith, f))
