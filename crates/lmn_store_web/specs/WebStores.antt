-- Words of the invariant of a store over a web.
use Rattle.std.specs.Prelude.{◌≡◌, ◌≢◌, ◌↔◌, ◌⊎◌, ℕ, ◌+◌, List, [], Option, Some, None, IsSome, map, slice_index_or}
use Rattle.lmn_store_counts.specs.RuleLists.{RuleList}
use Rattle.lmn_store_counts.specs.Counts.{HasCounts}
use Rattle.lmn_web_cells.specs.CellIds.{cell_id}
use Rattle.lmn_web.specs.declared.kind.CellKind.{CellKind}
use Rattle.lmn_web.specs.declared.kind.CellKind.TheVariants.{Atom, Membrane}
use Rattle.lmn_web.specs.Webs.{WebCell, FilesNone, kind_at, home_at, arity_at, cells_in, web_label}
use Rattle.lmn_web_merging.specs.Keepers.{merged_by, port_mark, LENT}
use Rattle.lmn_store_web.specs.Labels.{IsLabelNumber}
use Rattle.lmn_store_web_preorder.specs.Indexed.{IsNested}
use Rattle.lmn_store_web.specs.WebHeaps.{Posts, KeptWeb, heap_of, atoms_of, mems_of}
use Rattle.lmn_store_web.specs.Indexes.{IsIndexed, key_of}
use Rattle.lmn_store_web.specs.declared.web_store.WebStore.TheInside.{Inside}

-- the membrane m has rules at this place of the table
abbrev pub HasRules : List (Option RuleList) → (ℕ → Option WebCell) → ℕ → ℕ → Type 0
HasRules table w m i = (web_label w m ≡ Some i) × IsSome (slice_index_or table i None)

-- The posts are three membranes, and all else has a home. No membrane has ports, and each has rules of its own. All rules of the table are those of a membrane. Labels of atoms are in range. The cells of what waits and of what is gone file no atoms. Nothing stands in a membrane that waits, and neither it nor a post has had a keeper. One whose cell is lent is gone.
pub record IsStored (p : Posts) (table : List (Option RuleList)) (w : ℕ → Option WebCell) : Type 0 where
  pub root : kind_at w p.root ≡ Membrane
  pub waiting : kind_at w p.waiting ≡ Membrane
  pub gone : kind_at w p.gone ≡ Membrane
  pub root_waits : p.root ≢ p.waiting
  pub root_goes : p.root ≢ p.gone
  pub apart : p.waiting ≢ p.gone
  pub homeless : (x : ℕ) → IsSome (w x) → (home_at w x ≡ None) ↔ ((x ≡ p.root) ⊎ (x ≡ p.waiting) ⊎ (x ≡ p.gone))
  pub portless : (m : ℕ) → kind_at w m ≡ Membrane → arity_at w m ≡ 0
  pub labels : (a l : ℕ) → kind_at w a ≡ Atom → web_label w a ≡ Some l → IsLabelNumber p.by_value l
  pub rules : (m : ℕ) → kind_at w m ≡ Membrane → m ≢ p.waiting → m ≢ p.gone → (i : ℕ) × HasRules table w m i
  pub own_rules : (m n i : ℕ) → IsSome (mems_of p table w m) → IsSome (mems_of p table w n) → web_label w m ≡ Some i → web_label w n ≡ Some i → m ≡ n
  pub used : (i : ℕ) → IsSome (slice_index_or table i None) → (m : ℕ) × IsSome (mems_of p table w m) × (web_label w m ≡ Some i)
  pub files : (m : ℕ) → (m ≡ p.waiting) ⊎ (m ≡ p.gone) → FilesNone w m
  pub bare : (m : ℕ) (k : CellKind) → home_at w m ≡ Some p.waiting → cells_in w m k ≡ []
  pub plain : (m : ℕ) → kind_at w m ≡ Membrane → (m ≡ p.waiting) ⊎ (m ≡ p.gone) ⊎ (home_at w m ≡ Some p.waiting) → port_mark w m ≡ 0
  pub lent : (m : ℕ) → kind_at w m ≡ Membrane → port_mark w m ≡ LENT → home_at w m ≡ Some p.gone

-- what holds of a store over a web at every moment
pub record AlwaysStored (k : KeptWeb) (n m s : ℕ) : Type 0 where
  pub stored : IsStored k.posts k.table (merged_by k.web)
  pub counts : HasCounts (atoms_of k.posts (merged_by k.web)) (mems_of k.posts k.table (merged_by k.web)) n m s

abbrev pub kept_by : Inside → KeptWeb
kept_by s = record { web = s.web; table = s.rules.slots; posts = record { root = cell_id s.root; waiting = cell_id s.waiting; gone = cell_id s.gone; by_value = s.by_value } }

-- what is kept without the index, with how many atoms and how many membranes and rules there are, and the index
pub record IsKept (s : Inside) : Type 0 where
  pub atoms : ℕ
  pub mems : ℕ
  pub sum : atoms + mems + s.spare_count ≡ s.count
  pub store : AlwaysStored (kept_by s) atoms mems s.spare_count
  pub index : IsIndexed (IsNested s.index) (map cell_id s.mems.items) (key_of (merged_by s.web)) (heap_of (kept_by s))
