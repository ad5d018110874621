-- The names that a set holds, by their bytes and in their order.
use Rattle.std.specs.Prelude.{ℕ, List, map}
use Rattle.std.specs.declared.vec.Vec.{Vec}
use Rattle.std.specs.declared.alloc.Global.{Global}
use Rattle.indexmap.specs.IndexSet.{IndexSet}

abbrev pub names_in : {S : Type 0} → IndexSet (Vec ℕ Global) S → List (List ℕ)
names_in set = map (λ v. v.items) set.keys
