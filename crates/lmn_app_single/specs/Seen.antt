-- What is seen of a shelf and of a sink before and after a call.
use Rattle.std.specs.Prelude.{ℕ, List, Option}
use Rattle.lmn_io.specs.Counts.{Faults}
use Rattle.lmn_io.specs.Texts.{Fetch}

-- What is seen of a shelf: the bytes under each name and the fetches that it was asked for, where it tells them, and the count of faults of
-- each name.
pub record ShelfSeen : Type 0 where
  pub told : Option (List ℕ → Option (List ℕ))
  pub asked : Option (List Fetch)
  pub faults : List ℕ → ℕ

-- what is seen of a sink: the bytes that it took, where it tells them, and what it counts
pub record SinkSeen : Type 0 where
  pub told : Option (List ℕ)
  pub faults : Faults

-- by the words of the traits
abbrev pub shelf_seen : {F : Type 0} → (F → Option (List ℕ → Option (List ℕ))) → (F → Option (List Fetch)) → (F → List ℕ → ℕ) → F → ShelfSeen
shelf_seen told asked faults shelf = record { told = told shelf; asked = asked shelf; faults = faults shelf }

abbrev pub sink_seen : {O : Type 0} → (O → Option (List ℕ)) → (O → Faults) → O → SinkSeen
sink_seen told faults sink = record { told = told sink; faults = faults sink }
