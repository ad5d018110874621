use Rattle.std.proofs.Common.{◌≡◌, arith, refl}
use Rattle.lmn_store_slab.proofs.examples.sizes_are_told.Goals as goal

pub returns-clause-alike : goal.returns-clause-alike
returns-clause-alike c = record { lists = refl; size = refl }

pub returns-clause-differ : goal.returns-clause-differ
returns-clause-differ c = λ s. let e : 2 ≡ 1 = s.lists in omega (arith, e)
