-- The laws of the strategy by code.
use Rattle.std.specs.Prelude.{ℕ, ◌≡◌, ◌↔◌, List, [], ◌∷◌, length}
use Rattle.lmn_base.specs.declared.rule.RuleTree.{RuleTree}
use Rattle.lmn_guards.specs.declared.plan.GuardPlan.{GuardPlan}
use Rattle.lmn_store_heap.specs.Heap.{Heap, rules_in}
use Rattle.lmn_store_heap.specs.Sound.{Forest, IsTree, Valid}
use Rattle.lmn_instr_code.specs.declared.instr.Code.{Code}
use Rattle.lmn_solid_bodies.specs.Running.{Registers, RunsBody}
use Rattle.lmn_solid_bodies.specs.Stopping.{SameButSpares}
use Rattle.lmn_schedule_sleep.specs.Quiet.{SameButMarks}
use Rattle.lmn_machine.specs.Costs.{Leaves}
use Rattle.lmn_congruence.specs.Regions.{Region, item_count_of_region}
use Rattle.lmn_reduction.specs.Commits.{Irreducible}
use Rattle.lmn_adequacy.specs.Choice.{NextFrom, paths, asked_paths}
use Rattle.lmn_adequacy.specs.Embedding.{EmbedsIn, HasEmbedding}
use Rattle.lmn_adequacy.specs.Numbered.{IsNumbered}
use Rattle.lmn_adequacy.specs.Runs.{Chooser, Turn}
use Rattle.lmn_adequacy_heaps.specs.HeapRegions.{HeapReading}
use Rattle.lmn_adequacy_heaps.specs.Laws.{heap_process}
use Rattle.lmn_adequacy_heaps.specs.Premises.{IsRead}
use Rattle.lmn_schedule_strategy.specs.Choosing.{CodeSucceeds, NoneIn, NoneOf, asked as asked_on_heap}
use Rattle.lmn_schedule_strategy.specs.Counting.{AsksRules}
use Rattle.lmn_adequacy_turns.specs.Commits.{IsTable}
use Rattle.lmn_adequacy_turns.specs.Turning.{Leads, renumbered_reading}
use Rattle.lmn_adequacy_choices.specs.Counting.{AsksRulesOf}
use Rattle.lmn_adequacy_choices.specs.Turns.{tree_over, membranes_in_preorder, heap_region, HaveCodes, IsReadWith, IsChosen, IsChoice, IsNextHeap, IsNumberedAnew}
use Rattle.lmn_base.specs.Lists.{In}

-- Two lists are as long, and what has one number in both is related.
pub data EachWith {A B : Type 0} (R : A → B → Type 0) : List A → List B → Type 0 where
  each_none : EachWith R [] []
  each_and : {x : A} {y : B} {xs : List A} {ys : List B} → R x y → EachWith R xs ys → EachWith R (x ∷ xs) (y ∷ ys)

-- The paths of the calculus and the membranes of the heap have the same numbers.
--   numbers   the path with a number leads to the membrane with this number
--   many      there are as many
--   asked     so they are asked in the same order, from each number on
--   one       and one path leads to each membrane
pub record SameNumbers (h : Heap) (r : HeapReading) (inner : Forest) : Type 0 where
  pub numbers : EachWith (λ path m. Leads h m path h.root) (paths (heap_region h r inner)) (membranes_in_preorder h inner)
  pub many : length (paths (heap_region h r inner)) ≡ length (membranes_in_preorder h inner)
  pub asked : (from : ℕ) → EachWith (λ path m. Leads h m path h.root) (asked_paths from (heap_region h r inner)) (asked_on_heap from (tree_over h inner))
  pub one : (m : ℕ) (path other : List ℕ) → Leads h m path h.root → Leads h m other h.root → path ≡ other

abbrev pub MembranesAreNumberedAlike : Type 0
MembranesAreNumberedAlike = (h : Heap) (r : HeapReading) (inner : Forest) → IsTree h (tree_over h inner) → SameNumbers h r inner

-- What the codes of a table say of a heap.
--   embeds       none succeeds in any membrane exactly where no rule embeds
--   irreducible  and exactly where the process is irreducible
--   some         where one succeeds, a rule embeds
pub record EndsByCode (codes : List Code) (h : Heap) (r : HeapReading) (inner : Forest) : Type 0 where
  pub embeds : NoneIn h codes (membranes_in_preorder h inner) ↔ (¬ (HasEmbedding (heap_region h r inner)))
  pub irreducible : NoneIn h codes (membranes_in_preorder h inner) ↔ Irreducible (heap_process h r inner)
  pub some : (m n : ℕ) → In m (membranes_in_preorder h inner) → In n (rules_in h m) → CodeSucceeds h codes m n → HasEmbedding (heap_region h r inner)

abbrev pub NothingEmbeds : Type 0
NothingEmbeds = (table : List RuleTree) (plans : List GuardPlan) (codes : List Code) → HaveCodes table plans codes →
    (h : Heap) (r : HeapReading) (inner : Forest) → IsReadWith h r inner table → EndsByCode codes h r inner

-- Nor does any rule embed in one membrane, to which a path leads, where no code of its rules succeeds in it.
abbrev pub NothingEmbedsThere : Type 0
NothingEmbedsThere = (table : List RuleTree) (plans : List GuardPlan) (codes : List Code) → HaveCodes table plans codes →
    (h : Heap) (r : HeapReading) (inner : Forest) → IsReadWith h r inner table → (m : ℕ) (path : List ℕ) → Leads h m path h.root → NoneOf h codes m (rules_in h m) →
    (k : ℕ) (f : List ℕ) → ¬ (EmbedsIn path k f (heap_region h r inner))

-- What is chosen by code is chosen by the calculus,
abbrev pub ChoicesAlike : Type 0
ChoicesAlike = (table : List RuleTree) (plans : List GuardPlan) (codes : List Code) → HaveCodes table plans codes →
    (h : Heap) (r : HeapReading) (inner : Forest) → IsReadWith h r inner table →
    (from : ℕ) (code : Code) (s : Registers) (c : IsChosen from codes h inner code s) → IsChoice from h r inner c.membrane c.place

-- the run of its body code leaves the next heap,
abbrev pub ChoicesAgree : Type 0
ChoicesAgree = (table : List RuleTree) (plans : List GuardPlan) (codes : List Code) → HaveCodes table plans codes →
    (h : Heap) (r : HeapReading) (inner : Forest) → IsReadWith h r inner table → IsTable r table →
    (from : ℕ) (code : Code) (s : Registers) → IsChosen from codes h inner code s →
    (h' : Heap) → RunsBody s code.body h h' → IsNextHeap from h r inner table h'

-- and its cost is the number of items of the region of that heap, however this is read.
abbrev pub CostsAreItems : Type 0
CostsAreItems = (table : List RuleTree) (plans : List GuardPlan) (codes : List Code) → HaveCodes table plans codes →
    (h : Heap) (r : HeapReading) (inner : Forest) → IsReadWith h r inner table →
    (from : ℕ) (code : Code) (s : Registers) → IsChosen from codes h inner code s → (h' : Heap) → RunsBody s code.body h h' →
    (r' : HeapReading) (inner' : Forest) → IsRead h' r' → IsTree h' (tree_over h' inner') →
    (k : ℕ) → Leaves h s code.body k ↔ (item_count_of_region (heap_region h' r' inner') ≡ k)

-- So before anything runs, what is chosen has a next region with as many items as its cost tells, numbered in printed order.
abbrev pub CostsAreTold : Type 0
CostsAreTold = (table : List RuleTree) (plans : List GuardPlan) (codes : List Code) → HaveCodes table plans codes →
    (h : Heap) (r : HeapReading) (inner : Forest) → IsReadWith h r inner table → IsTable r table →
    (from : ℕ) (code : Code) (s : Registers) → IsChosen from codes h inner code s →
    (k : ℕ) → Leaves h s code.body k → (S' : Region) × NextFrom from (heap_region h r inner) S' × IsNumbered S' × (item_count_of_region S' ≡ k)

-- The links of a heap can have the numbers of printed order.
abbrev pub HeapsAreNumbered : Type 0
HeapsAreNumbered = (h : Heap) (r : HeapReading) (inner : Forest) (table : List RuleTree) → IsReadWith h r inner table → IsNumberedAnew h r inner table

-- As many rules are asked by code, until one succeeds, as are asked in the region, until one embeds.
abbrev pub RulesAreAskedAlike : Type 0
RulesAreAskedAlike = (table : List RuleTree) (plans : List GuardPlan) (codes : List Code) → HaveCodes table plans codes →
    (h : Heap) (r : HeapReading) (inner : Forest) → IsReadWith h r inner table →
    (from n : ℕ) → AsksRules h codes (asked_on_heap from (tree_over h inner)) n → AsksRulesOf (heap_region h r inner) (asked_paths from (heap_region h r inner)) n

-- Room for more rules is no part of what is read: a heap that differs in it alone is read alike, and has the same region.
abbrev pub SparesAreNotRead : Type 0
SparesAreNotRead = (h h' : Heap) (r : HeapReading) (inner : Forest) (table : List RuleTree) → SameButSpares h h' → Valid h' → IsReadWith h r inner table →
    IsReadWith h' r inner table × (heap_region h' r inner ≡ heap_region h r inner)

-- Nor are marks of membranes.
abbrev pub MarksAreNotRead : Type 0
MarksAreNotRead = (h h' : Heap) (r : HeapReading) (inner : Forest) (table : List RuleTree) → SameButMarks h h' → Valid h → IsReadWith h r inner table →
    IsReadWith h' r inner table × (heap_region h' r inner ≡ heap_region h r inner)

-- Where a chooser gives the number of the membrane that is asked first, by the number of commits and that of membranes, a next
-- region that is numbered comes by a turn of the strategy.
abbrev pub TurnsAreOfChooser : Type 0
TurnsAreOfChooser = (chooser : Chooser) (n : ℕ) (h : Heap) (r : HeapReading) (inner : Forest) → IsTree h (tree_over h inner) →
    (S' : Region) → NextFrom (chooser n (length (membranes_in_preorder h inner))) (heap_region h r inner) S' → IsNumbered S' → Turn chooser n (heap_region h r inner) S'

-- What a turn by code is in the calculus, where membranes are asked from a number on.
--   none    where no code succeeds nothing embeds, and the process is irreducible
--   embeds, some    what is chosen by code embeds, and is what the strategy chooses
--   next    a run of its body code leaves the next heap, for which all of this holds again
--   told    before it runs, there is a next region with as many items as its cost tells
--   items   and the region of the heap that its run leaves has so many
pub record TurnsAgree (table : List RuleTree) (plans : List GuardPlan) (codes : List Code) (from : ℕ) (h : Heap) (r : HeapReading) (inner : Forest) : Type 0 where
  pub none : NoneIn h codes (membranes_in_preorder h inner) → (¬ (HasEmbedding (heap_region h r inner))) × Irreducible (heap_process h r inner)
  pub embeds : (code : Code) (s : Registers) → IsChosen from codes h inner code s → HasEmbedding (heap_region h r inner)
  pub some : (code : Code) (s : Registers) (c : IsChosen from codes h inner code s) → IsChoice from h r inner c.membrane c.place
  pub next : (code : Code) (s : Registers) → IsChosen from codes h inner code s →
      (h' : Heap) → RunsBody s code.body h h' → IsNextHeap from h r inner table h'
  pub told : (code : Code) (s : Registers) → IsChosen from codes h inner code s →
      (k : ℕ) → Leaves h s code.body k → (S' : Region) × NextFrom from (heap_region h r inner) S' × IsNumbered S' × (item_count_of_region S' ≡ k)
  pub items : (code : Code) (s : Registers) → IsChosen from codes h inner code s → (h' : Heap) → RunsBody s code.body h h' →
      (n : IsNextHeap from h r inner table h') (k : ℕ) → Leaves h s code.body k → item_count_of_region (heap_region h' (renumbered_reading r n.number) n.forest) ≡ k

abbrev pub TurnsAreAlike : Type 0
TurnsAreAlike = (table : List RuleTree) (plans : List GuardPlan) (codes : List Code) → HaveCodes table plans codes →
    (h : Heap) (r : HeapReading) (inner : Forest) → IsReadWith h r inner table → IsTable r table → (from : ℕ) → TurnsAgree table plans codes from h r inner
