use Rattle.std.proofs.Common.{◌≡◌, ℕ, List, [], ◌∷◌, arith, refl}
use Rattle.lmn_io.proofs.laws.parts_are_told.Goals as goal

pub returns-clause-measured : goal.returns-clause-measured
returns-clause-measured c = ((omega arith, refl), λ h. let e = h.1 in omega (arith, e))

pub returns-clause-part : goal.returns-clause-part
returns-clause-part c = ((omega arith, refl), λ h. let e : [] ≡ 98 ∷ [] = h.1 in cc)
