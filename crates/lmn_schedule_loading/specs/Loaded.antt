-- What a store holds when the process of a plain is loaded.
use Rattle.std.specs.Prelude.{ℕ, ◌≡◌, ◌+◌, ◌-◌, ◌^◌, ◌<◌, ◌≤◌, min, Bool, false, not, List, [], length, map, sum, None, if◌then◌else◌}
use Rattle.lmn_base.specs.declared.level.Leaf.{Leaf}
use Rattle.lmn_base.specs.declared.level.Leaf.TheVariants.{Atom, Typed}
use Rattle.lmn_base.specs.declared.level.Level.{Level}
use Rattle.lmn_base.specs.declared.level.Level.TheOpen.{Level-F}
use Rattle.lmn_base.specs.declared.level.Level.TheFolds.{fold-Level}
use Rattle.lmn_base.specs.declared.rule.Plain.{Plain}
use Rattle.lmn_base.specs.declared.solid.Solid.{Solid}
use Rattle.lmn_base.specs.Solids.{item_count, is_connector}
use Rattle.lmn_congruence.specs.SolidsOfPlains.{IsSolidOf}
use Rattle.lmn_store_heap.specs.Heap.{Heap, IsMem, mark_of, rules_in}
use Rattle.lmn_store_heap.specs.Sound.{Valid}
use Rattle.lmn_store_heap.specs.Solid.{HasSolid}
use Rattle.lmn_schedule_loading.specs.declared.loading.LoadFault.{LoadFault}
use Rattle.lmn_schedule_loading.specs.declared.loading.LoadFault.TheVariants.{Size, NoMemory}

-- the root alone, without rules
pub record IsEmpty (s : Heap) : Type 0 where
  pub no_atom : (a : ℕ) → s.atoms a ≡ None
  pub only_root : (m : ℕ) → IsMem s m → m ≡ s.root
  pub no_rule : rules_in s s.root ≡ []

-- The heap is valid and has no mark on an atom, and its solid is that of the plain: its lists in their order, without the
-- connectors.
pub record IsLoaded (p : Plain) (s : Heap) : Type 0 where
  pub valid : Valid s
  pub unmarked : (a i : ℕ) → mark_of s a i ≡ 0
  pub solid : Solid
  pub of_heap : HasSolid s solid
  pub of_plain : IsSolidOf p solid

-- an atom that is no connector
abbrev pub stands : Leaf → Bool
stands (Atom functor links pos) = not (is_connector functor)
stands (Typed name link pos) = false

abbrev pub one_if_atom : Leaf → ℕ
one_if_atom l = if stands l then 1 else 0

abbrev pub atoms_among : List Leaf → ℕ
atoms_among ls = sum (map one_if_atom ls)

-- The items of a level without its connectors: its atoms, membranes and rules, and those inside its membranes.
abbrev pub loaded_step : Level-F ℕ → ℕ
loaded_step l = atoms_among l.leaves + (length l.membranes + (length l.rules + sum l.membranes))

abbrev pub loaded_items : Level → ℕ
loaded_items = fold-Level ℕ loaded_step

-- When each fault may come, by the items of the plain's solid.
abbrev pub LoadCauses : Plain → ℕ → LoadFault → Type 0
LoadCauses p size (Size k) = (s : Solid) → IsSolidOf p s → (size < item_count s) × (k ≡ min (item_count s) (2 ^ 64 - 1))
LoadCauses p size NoMemory = (s : Solid) → IsSolidOf p s → item_count s ≤ size
