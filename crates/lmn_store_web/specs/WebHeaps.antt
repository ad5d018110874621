-- The heap that a store over a web stands for.
use Rattle.std.specs.Prelude.{ℕ, ◌==◌, ◌||◌, Bool, List, [], Option, Some, None, length, slice_index_or, unwrap_or, if◌then◌else◌}
use Rattle.std.specs.Option.{option_and_then}
use Rattle.lmn_store_heap.specs.Heap.{Heap, HeapAtom, HeapMem, Place, top, within, waiting, gone, alter, new_mem, mem_with_place}
use Rattle.lmn_store_counts.specs.RuleLists.{RuleList}
use Rattle.lmn_web_cells.specs.Rows.{Row}
use Rattle.lmn_web.specs.declared.kind.CellKind.{CellKind}
use Rattle.lmn_web.specs.declared.kind.CellKind.TheVariants.{Atom, Membrane}
use Rattle.lmn_web.specs.Webs.{WebCell, cells_in}
use Rattle.lmn_web_merging.specs.Keepers.{merged_by}
use Rattle.lmn_store_web.specs.Labels.{label_by}

-- The cell of the root, and two cells that are no membranes of the heap: in the lists of one stands what waits, in those of the other what is gone; and whether integers are filed by their values.
pub record Posts : Type 0 where
  pub root : ℕ
  pub waiting : ℕ
  pub gone : ℕ
  pub by_value : Bool

-- where an item is that has this home
abbrev pub place_at : Posts → Option ℕ → Place
place_at p None = top
place_at p (Some b) = if b == p.waiting then waiting else if b == p.gone then gone else within b

abbrev pub atom_by : Posts → WebCell → HeapAtom
atom_by p c = record { functor = record { label = label_by c.label; arity = length c.partners }; links = c.partners; marks = c.marks; place = place_at p c.home }

abbrev pub if_atom : {X : Type 0} → CellKind → X → Option X
if_atom Atom x = Some x
if_atom Membrane x = None

abbrev pub if_membrane : {X : Type 0} → CellKind → X → Option X
if_membrane Atom x = None
if_membrane Membrane x = Some x

-- the cells that are atoms
abbrev pub atoms_of : Posts → (ℕ → Option WebCell) → ℕ → Option HeapAtom
atoms_of p w a = option_and_then (λ (c : WebCell). if_atom c.kind (atom_by p c)) (w a)

abbrev pub no_rules : RuleList
no_rules = record { numbers = []; spare = 0 }

-- the rules at a place of a table
abbrev pub rules_at : List (Option RuleList) → ℕ → RuleList
rules_at table i = unwrap_or (slice_index_or table i None) no_rules

-- The label of a membrane is the place of its rules.
abbrev pub mem_by : Posts → List (Option RuleList) → WebCell → HeapMem
mem_by p table c = record { atoms = c.atoms; mems = c.membranes; rules = (rules_at table c.label).numbers; spare = (rules_at table c.label).spare; mark = slice_index_or c.marks 0 0; place = place_at p c.home }

-- the number is that of a cell in whose lists stands what waits or is gone
abbrev pub is_post : Posts → ℕ → Bool
is_post p m = (m == p.waiting) || (m == p.gone)

-- the cells that are membranes of the heap
abbrev pub mems_of : Posts → List (Option RuleList) → (ℕ → Option WebCell) → ℕ → Option HeapMem
mems_of p table w m = if is_post p m then None else option_and_then (λ (c : WebCell). if_membrane c.kind (mem_by p table c)) (w m)

abbrev pub heap_by : Posts → List (Option RuleList) → (ℕ → Option WebCell) → Heap
heap_by p table w = record {
  root = p.root;
  atoms = atoms_of p w;
  mems = mems_of p table w;
  new_atoms = cells_in w p.waiting Atom;
  new_mems = cells_in w p.waiting Membrane;
}

-- what a store over a web keeps
pub record KeptWeb : Type 0 where
  pub web : List Row
  pub table : List (Option RuleList)
  pub posts : Posts

abbrev pub heap_of : KeptWeb → Heap
heap_of k = heap_by k.posts k.table (merged_by k.web)

-- nothing but a root of this number
abbrev pub alone : ℕ → Heap
alone r = record {
  root = r;
  atoms = λ _. None;
  mems = alter (λ _. None) r (λ _. Some (mem_with_place top new_mem));
  new_atoms = [];
  new_mems = [];
}
