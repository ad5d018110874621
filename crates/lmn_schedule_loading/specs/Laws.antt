-- Laws of loading, each the contract of a function with an empty body.
use Rattle.std.specs.Prelude.{ℕ, ◌<◌, List, length}
use Rattle.lmn_base.specs.declared.rule.Plain.{Plain}
use Rattle.lmn_base.specs.WellMade.{IsWellMade}
use Rattle.lmn_congruence.specs.Rules.{Name}
use Rattle.lmn_congruence.specs.Translation.{plain_process, solid_process}
use Rattle.lmn_store_heap.specs.Heap.{Heap, lone_root, rules_in}
use Rattle.lmn_store_heap.specs.Examples.{across}
use Rattle.lmn_reduction.specs.Commits.{Settles}
use Rattle.lmn_schedule_loading.specs.Loaded.{IsEmpty, IsLoaded}
use Rattle.lmn_base.specs.Lists.{In}

-- The process of a plain settles to that of the solid that is loaded, by each list of names.
abbrev pub LoadingSettles : Type 0
LoadingSettles = (names : List Name) (p : Plain) (s : Heap) → IsWellMade p → (l : IsLoaded p s) →
    Settles (plain_process names p) (solid_process names p.rules l.solid)

-- Each rule of a membrane that is loaded is one of the plain's table.
abbrev pub LoadedRules : Type 0
LoadedRules = (p : Plain) (s : Heap) → IsWellMade p → IsLoaded p s → (m k : ℕ) → In k (rules_in s m) → k < length p.rules

-- A new store is empty, and that of `{a(X)}, b(X)` is not.
abbrev pub EmptyStores : Type 0
EmptyStores = IsEmpty lone_root × (IsEmpty across → ⊥)
