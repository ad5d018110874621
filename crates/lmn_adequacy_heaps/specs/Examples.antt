-- What the laws ask of heaps, on a small heap: `{a(X)}, b(X)`.
use Rattle.std.specs.Prelude.{ℕ, ◌<◌, ◌≤◌, List, length}
use Rattle.lmn_base.specs.Names.{IsNames}
use Rattle.lmn_store_heap.specs.Examples.{across}
use Rattle.lmn_store_heap.specs.Solid.{IsNaming}
use Rattle.lmn_store_heap.specs.Sound.{bare, mem}
use Rattle.lmn_congruence.specs.Rules.{Name, Rule}
use Rattle.lmn_adequacy_heaps.specs.Premises.{IsRead, HasForest}

-- It can be read with names enough, since the names of its atoms have the numbers 8 and 9, and with fewer it can't.
abbrev pub AcrossIsRead : Type 0
AcrossIsRead = (name : ℕ → ℕ → ℕ) (names : List Name) (rule : ℕ → Rule) → IsNaming across name → IsNames names →
    (9 < length names → IsRead across (record { name = name; names = names; rule = rule }))
    × (length names ≤ 9 → IsRead across (record { name = name; names = names; rule = rule }) → ⊥)

-- The root has one membrane, the membrane 1, with none in it; so the empty forest isn't that of the root.
abbrev pub AcrossHasItsForest : Type 0
AcrossHasItsForest = HasForest across 0 (mem 1 bare bare) × (HasForest across 0 bare → ⊥)
