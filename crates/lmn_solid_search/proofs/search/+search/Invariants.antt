use Rattle.std.proofs.Common.{◌≡◌, ◌+◌, ◌*◌, ℕ, suc, take, length}
use Rattle.lmn_base.specs.Lists.{In}
use Rattle.lmn_solid_tables.specs.Flats.{heap_of}
use Rattle.lmn_solid_search.specs.Choosing.{Allowed, CanBe, Chooses, IsNew, with_atom, with_membrane}
use Rattle.lmn_solid_search.specs.Holding.{HasRoom}
use Rattle.lmn_solid_search.specs.Reasoning.{Agrees, IsAmong}
use Rattle.lmn_solid_search.specs.declared.placed.Placed.{Placed}
use Rattle.lmn_solid_search.proofs.search.+search.Given as goal

abbrev pub decreases-try_atom : goal.decreases-try_atom
decreases-try_atom l = 3 * length l.rest.now + 1

abbrev pub decreases-try_atoms : goal.decreases-try_atoms
decreases-try_atoms l = 3 * length l.rest.now + 2

abbrev pub decreases-try_membrane : goal.decreases-try_membrane
decreases-try_membrane l = 3 * length l.rest.now + 1

abbrev pub decreases-try_membranes : goal.decreases-try_membranes
decreases-try_membranes l = 3 * length l.rest.now + 2

abbrev pub decreases-search : goal.decreases-search
decreases-search l = 3 * length l.items.now

abbrev pub invariant-try_atoms-loop-choice : goal.invariant-try_atoms-loop-choice
invariant-try_atoms-loop-choice l = record {
  same : l.placed ≡ l.fn.placed;
  room : HasRoom (heap_of l.flat) l.room;
  inside : (k : ℕ) → l.inside ≡ suc k → IsAmong k l.reasons.membranes;
  none : (a : ℕ) → In a (take l.choice-index l.choices) → (q r : Placed) → Agrees l.reasons l.fn.placed q → Allowed (heap_of l.flat) l.head q l.functor a → Chooses (heap_of l.flat) l.head l.rest (with_atom q a) r → CanBe (heap_of l.flat) l.head l.guard r → ⊥;
}

abbrev pub invariant-try_membranes-loop-choice : goal.invariant-try_membranes-loop-choice
invariant-try_membranes-loop-choice l = record {
  same : l.placed ≡ l.fn.placed;
  room : HasRoom (heap_of l.flat) l.room;
  inside : (k : ℕ) → l.inside ≡ suc k → IsAmong k l.reasons.membranes;
  none : (a : ℕ) → In a (take l.choice-index l.choices) → (q r : Placed) → Agrees l.reasons l.fn.placed q → IsNew q a → Chooses (heap_of l.flat) l.head l.rest (with_membrane q a) r → CanBe (heap_of l.flat) l.head l.guard r → ⊥;
}
