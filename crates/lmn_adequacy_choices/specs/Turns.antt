-- A turn by code on a heap, and what it is in the calculus.
use Rattle.std.specs.Prelude.{ℕ, ◌≡◌, List, Some, slice_get}
use Rattle.lmn_base.specs.declared.rule.RuleTree.{RuleTree}
use Rattle.lmn_guards.specs.declared.plan.GuardPlan.{GuardPlan}
use Rattle.lmn_store_heap.specs.Heap.{Heap}
use Rattle.lmn_store_heap.specs.Sound.{Forest, bare, mem, flat, IsTree}
use Rattle.lmn_instr_code.specs.declared.instr.Code.{Code}
use Rattle.lmn_instr_code.specs.Running.{IsFirstSuccess}
use Rattle.lmn_solid_bodies.specs.Running.{Registers}
use Rattle.lmn_congruence.specs.Regions.{Region}
use Rattle.lmn_congruence.specs.Same.{IsRenamed}
use Rattle.lmn_reduction.specs.Commits.{Commit}
use Rattle.lmn_adequacy.specs.Choice.{ChosenFrom, NextFrom}
use Rattle.lmn_adequacy.specs.Numbered.{IsNumbered}
use Rattle.lmn_adequacy_heaps.specs.HeapRegions.{HeapReading, region_at}
use Rattle.lmn_adequacy_heaps.specs.Laws.{heap_process}
use Rattle.lmn_adequacy_heaps.specs.Premises.{IsRead, HasRules}
use Rattle.lmn_schedule_strategy.specs.Choosing.{IsFirstIn, asked}
use Rattle.lmn_schedule_strategy.specs.Turns.{HoldsRestsOf}
use Rattle.lmn_compile_rules.specs.Compiled.{AreWhole, AreCompiled}
use Rattle.lmn_adequacy_turns.specs.Commits.{IsTable}
use Rattle.lmn_adequacy_turns.specs.Turning.{Leads, renumbered_reading}
use Rattle.lmn_base.specs.Graphs.{Port}

-- the tree of a heap, by the forest in its root
abbrev pub tree_over : Heap → Forest → Forest
tree_over h inner = mem h.root inner bare

-- its membranes in preorder, the root first
abbrev pub membranes_in_preorder : Heap → Forest → List ℕ
membranes_in_preorder h inner = flat (tree_over h inner)

-- its region
abbrev pub heap_region : Heap → HeapReading → Forest → Region
heap_region h r inner = region_at h r h.root inner

-- Rules of a table, each whole with its plan, and their codes.
pub record HaveCodes (table : List RuleTree) (plans : List GuardPlan) (codes : List Code) : Type 0 where
  pub whole : AreWhole table plans
  pub compiled : AreCompiled table plans codes

-- A heap between commits, with rules of a table, and how it is read.
--   read    it is valid, its links have numbers, and its names stand in the list
--   tree    its membranes are its root with this forest in it
--   rules   its rules are of the table
pub record IsReadWith (h : Heap) (r : HeapReading) (inner : Forest) (table : List RuleTree) : Type 0 where
  pub read : IsRead h r
  pub tree : IsTree h (tree_over h inner)
  pub rules : HasRules h r table

-- Where membranes are asked from a number on, this code is that of the first rule whose head code succeeds, and the registers are
-- those of its first success, with the rests beside it.
pub record IsChosen (from : ℕ) (codes : List Code) (h : Heap) (inner : Forest) (code : Code) (s : Registers) : Type 0 where
  pub membrane : ℕ
  pub place : ℕ
  pub number : ℕ
  pub chosen : IsFirstIn h codes (asked from (tree_over h inner)) membrane place number
  pub is : slice_get codes number ≡ Some code
  pub first : IsFirstSuccess h code.head membrane s.head
  pub rests : HoldsRestsOf h code.head s

-- The strategy of the calculus chooses the rule at a place of membrane m: its path leads there. There is a next region, with its
-- links numbered in printed order.
pub record IsChoice (from : ℕ) (h : Heap) (r : HeapReading) (inner : Forest) (m place : ℕ) : Type 0 where
  pub path : List ℕ
  pub positions : List ℕ
  pub leads : Leads h m path h.root
  pub chosen : ChosenFrom from (heap_region h r inner) path place positions
  pub has_next : (after : Region) × NextFrom from (heap_region h r inner) after × IsNumbered after

-- A heap is read with other numbers of its links, those of printed order.
pub record IsNumberedAnew (h : Heap) (r : HeapReading) (inner : Forest) (table : List RuleTree) : Type 0 where
  pub number : Port → ℕ
  pub again : IsReadWith h (renumbered_reading r number) inner table
  pub renamed : IsRenamed (heap_region h r inner) (heap_region h (renumbered_reading r number) inner)
  pub numbered : IsNumbered (heap_region h (renumbered_reading r number) inner)

-- The heap h' is the next one, as the calculus says.
--   again     it is read with other numbers of its links, and the same names and rules, so that the next turn can be made
--   numbered  they are those of printed order
--   next      its region is the next one, by what the strategy chooses where membranes are asked from a number on
--   commit    its process comes by one commit
pub record IsNextHeap (from : ℕ) (h : Heap) (r : HeapReading) (inner : Forest) (table : List RuleTree) (h' : Heap) : Type 0 where
  pub number : Port → ℕ
  pub forest : Forest
  pub again : IsReadWith h' (renumbered_reading r number) forest table
  pub of_table : IsTable (renumbered_reading r number) table
  pub numbered : IsNumbered (heap_region h' (renumbered_reading r number) forest)
  pub next : NextFrom from (heap_region h r inner) (heap_region h' (renumbered_reading r number) forest)
  pub commit : Commit (heap_process h r inner) (heap_process h' (renumbered_reading r number) forest)
