-- Words of private functions: what a walk back does to the atoms that it meets.
use Rattle.std.specs.Prelude.{ℕ, ◌<◌, ◌^◌, List}
use Rattle.lmn_base.specs.Lists.{In}
use Rattle.lmn_store_heap.specs.Heap.{Heap, IsInPlace, arity_of, marked, taken, taken_all}
use Rattle.lmn_ground.specs.Rests.{own_marked}
use Rattle.lmn_ground.specs.declared.wipe.Deed.{Deed}
use Rattle.lmn_ground.specs.declared.wipe.Deed.TheVariants.{Leave, Take, SetOwn}

-- what is done to one atom
abbrev pub done : Deed → ℕ → Heap → Heap
done Leave a s = s
done Take a s = taken s a
done (SetOwn v) a s = marked s a (arity_of s a) v

-- what is done to these atoms, one after the other
abbrev pub all_done : Deed → List ℕ → Heap → Heap
all_done Leave xs s = s
all_done Take xs s = taken_all s xs
all_done (SetOwn v) xs s = own_marked v xs s

-- these atoms are in place, where they are to be taken, and a mark that they are to have is small
abbrev pub CanDo : Deed → List ℕ → Heap → Type 0
CanDo Leave xs s = Unit {0}
CanDo Take xs s = (a : ℕ) → In a xs → IsInPlace s a
CanDo (SetOwn v) xs s = v < 2 ^ 56
