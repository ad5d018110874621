-- What a counting store keeps. Its invariant and contracts of private functions alone cite these words.
use Rattle.std.specs.Prelude.{ℕ, ◌≡◌, ◌≢◌, ◌+◌, ◌↔◌, ◌&&◌, Bool, true, false, List, length, Option, Some, None, IfSome, MatchOption}
use Rattle.lmn_base.specs.declared.functor.Functor.{Functor}
use Rattle.lmn_base.specs.Lists.{In}
use Rattle.lmn_store_heap.specs.Functors.{same_functor}
use Rattle.lmn_store_heap.specs.Heap.{HeapAtom, Place, top, within, waiting, gone}
use Rattle.lmn_store_heap.specs.Lists.{Distinct}
use Rattle.lmn_debug_counting.specs.declared.tally.Tally.{Tally}

-- whether a place is in a membrane
abbrev pub is_within : Place → Bool
is_within top = false
is_within (within m) = true
is_within waiting = false
is_within gone = false

-- whether there is an atom that stands in a membrane and has the functor
abbrev pub stands_as : Functor → Option HeapAtom → Bool
stands_as f None = false
stands_as f (Some x) = is_within x.place && same_functor x.functor f

-- the list has all these atoms, each once
pub record AreThose (atoms : ℕ → Option HeapAtom) (f : Functor) (xs : List ℕ) : Type 0 where
  pub once : Distinct xs
  pub all : (a : ℕ) → In a xs ↔ (stands_as f (atoms a) ≡ true)

-- Where something is kept, its count is the length of a list of all atoms that stand in membranes and have its functor.
abbrev pub IsKept : (ℕ → Option HeapAtom) → Option Tally → Type 0
IsKept atoms None = Unit {0}
IsKept atoms (Some t) = (xs : List ℕ) → AreThose atoms t.functor xs → t.count ≡ length xs

-- an atom of a functor more
pub record GainsOne (f : Functor) (old new : Tally) : Type 0 where
  pub functor : new.functor ≡ old.functor
  pub one : f ≡ old.functor → new.count ≡ old.count + 1
  pub other : f ≢ old.functor → new.count ≡ old.count

-- an atom of a functor fewer
pub record LosesOne (f : Functor) (old new : Tally) : Type 0 where
  pub functor : new.functor ≡ old.functor
  pub one : f ≡ old.functor → new.count + 1 ≡ old.count
  pub other : f ≢ old.functor → new.count ≡ old.count

-- what is kept, if anything is, where such an atom comes,
abbrev pub Gains : Option Functor → Option Tally → Option Tally → Type 0
Gains g old new = IfSome new (λ t. MatchOption old ⊥ (λ s. IfSome g (λ f. GainsOne f s t)))

-- and where it goes
abbrev pub Loses : Option Functor → Option Tally → Option Tally → Type 0
Loses g old new = IfSome new (λ t. MatchOption old ⊥ (λ s. IfSome g (λ f. LosesOne f s t)))
