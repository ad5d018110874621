use Rattle.std.proofs.Common.{◌≡◌, ◌++◌, map, take}
use Rattle.lmn_receipt_line.proofs.counting.push_inner.Given as goal

-- the membranes so far wait
abbrev pub invariant-loop-inner : goal.invariant-loop-inner
invariant-loop-inner l = map (λ r. r.now) l.waiting.items ≡ map (λ r. r.now) l.fn.waiting.items ++ take l.inner-index l.inner-items
