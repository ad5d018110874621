use Rattle.std.proofs.Common.{arith}
use Rattle.lmn_receipt_chain.proofs.AlikeLemmas.{bytes_differ, compared_first, compared_more, left_ends, right_ends}
use Rattle.lmn_receipt_chain.proofs.alike.braces_alike.Goals as goal

pub loop-next-init : goal.loop-next-init
loop-next-init c = compared_first c.args.brace c.args.left.now c.args.right.now

pub loop-next-smaller : goal.loop-next-smaller
loop-next-smaller c = let s = c.in-Some.ensures.some in let low = s.0 in let high = s.1 in omega (arith, low, high)

pub returns-in_default-next_byte : goal.returns-in_default-next_byte
returns-in_default-next_byte c = right_ends c.args.brace c.args.left.now c.args.right.now c.loop-next.left_at c.loop-next.right_at c.loop-next.count c.loop-next.invariant (c.next_byte-in-Some.ensures.none c.in_default-next_byte.is)

pub returns-then-other-next : goal.returns-then-other-next
returns-then-other-next c =
    bytes_differ c.args.brace c.args.left.now c.args.right.now c.loop-next.left_at c.loop-next.right_at c.loop-next.count c.loop-next.invariant c.in-Some.next.byte c.in-Some-next_byte.other.byte c.in-Some.next.behind c.in-Some-next_byte.other.behind
    c.in-Some.ensures.some.2 c.in-Some-next_byte.ensures.some.2 c.if-other-next.true

pub loop-next-preserved : goal.loop-next-preserved
loop-next-preserved c =
    compared_more c.args.brace c.args.left.now c.args.right.now c.loop-next.left_at c.loop-next.right_at c.loop-next.count c.loop-next.invariant c.in-Some.next.byte c.in-Some-next_byte.other.byte c.in-Some.next.behind c.in-Some-next_byte.other.behind c.in_ok-count.count
    c.in-Some.ensures.some.2 c.in-Some.ensures.some.1 c.in-Some-next_byte.ensures.some.2 c.in-Some-next_byte.ensures.some.1 c.if-other-next.false c.in_ok-count.ensures

pub returns : goal.returns
returns c = left_ends c.args.brace c.args.left.now c.args.right.now c.loop-next.left_at c.loop-next.right_at c.loop-next.count c.loop-next.invariant (c.next_byte.ensures.none c.in_default.is)
