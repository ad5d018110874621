use Rattle.std.proofs.Common.{◌≡◌, length, Some}
use Rattle.lmn_solid_settle.specs.Raw.{RawRegion, laid, settled}
use Rattle.lmn_solid_settle.proofs.LaidParts.{AreBelow, put_together}
use Rattle.lmn_solid_settle.proofs.assembling.assemble.Given as goal

abbrev pub invariant-loop-part : goal.invariant-loop-part
invariant-loop-part l =
    AreBelow l.parts.items × ((r : RawRegion) → l.fn.membranes.items ≡ laid 0 0 r → put_together l.parts.items ≡ Some (settled (λ x. x) r))

abbrev pub decreases-loop-part : goal.decreases-loop-part
decreases-loop-part l = length l.parts.items
