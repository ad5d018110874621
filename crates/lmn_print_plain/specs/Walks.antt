-- The walk over the membranes of a store that writes them. Public contracts cite `AreTexts` of these words, and what `IsLineWith` says by them.
use Rattle.std.specs.Prelude.{ℕ, ◌≡◌, ◌+◌, ◌≤◌, ◌^◌, Bool, true, false, List, [], ◌∷◌, ◌++◌, codes, length}
use Rattle.lmn_base.specs.declared.rule.RuleTree.{RuleTree}
use Rattle.lmn_congruence.specs.Rules.{Name}
use Rattle.lmn_store_heap.specs.Heap.{Heap, IsMem, atoms_in, mems_in, rules_in}
use Rattle.lmn_store_heap.specs.Sound.{Forest, bare, mem, flat, Forms}
use Rattle.lmn_io.specs.Gathering.{SinkState, Adds}
use Rattle.lmn_print_plain.specs.Rows.{in_row, any_behind}
use Rattle.lmn_print_plain.specs.Stored.{atom_texts, rule_texts}

-- the texts of the atoms and of the rules of each membrane
pub record Texts : Type 0 where
  pub atoms : ℕ → List (List ℕ)
  pub rules : ℕ → List (List ℕ)

-- those of a heap, where the texts of atoms are given
abbrev pub texts_with : (ℕ → List (List ℕ)) → List Name → List RuleTree → Heap → Texts
texts_with atoms names table s = record { atoms = atoms; rules = rule_texts names table s }

-- the texts that are given for each membrane of a heap are some of those that `Are` tells for it
abbrev pub AreTexts : Heap → (ℕ → List (List ℕ) → Type 0) → (ℕ → List (List ℕ)) → Type 0
AreTexts s Are atoms = (m : ℕ) → IsMem s m → Are m (atoms m)

-- those of a heap whose marks tell the numbers of links
abbrev pub texts_in : List Name → List RuleTree → Heap → Texts
texts_in names table s = texts_with (atom_texts names s) names table s

-- whether a membrane has an atom, and whether it has an atom or a membrane
abbrev pub has_atoms : Texts → ℕ → Bool
has_atoms t m = any_behind false (t.atoms m)

abbrev pub has_atoms_or_membranes : Texts → ℕ → List (List ℕ) → Bool
has_atoms_or_membranes t m inside = any_behind (has_atoms t m) inside

-- the items of a membrane, by the texts of the membranes in it
abbrev pub items_text : Texts → List ℕ → ℕ → List (List ℕ) → List ℕ
items_text t between m inside =
    in_row between false (t.atoms m) ++ (in_row between (has_atoms t m) inside ++ in_row between (has_atoms_or_membranes t m inside) (t.rules m))

-- the membranes of a forest, each in braces
abbrev pub members : Texts → Forest → List (List ℕ)
members t bare = []
members t (mem m inner rest) = (codes "{" ++ (items_text t (codes ", ") m (members t inner) ++ codes "}")) ∷ members t rest

-- The way from a membrane to the root: the membranes round it, each with the forest that stands behind it in its list.
pub data Way : Type 0 where
  top : Way
  inside : ℕ → Forest → Way → Way

-- how many membranes are round it
abbrev pub membranes_round : Way → ℕ
membranes_round top = 0
membranes_round (inside p beside way) = membranes_round way + 1

-- what stands between two items of the membrane at the end of a way
abbrev pub between : Way → List ℕ
between top = codes ". "
between (inside p beside way) = codes ", "

-- m stands in its list before the membranes of a forest, and the membranes round it stand so too
abbrev pub StandsBeside : Heap → ℕ → Forest → Way → Type 0
StandsBeside s m beside top = (m ≡ s.root) × (beside ≡ bare)
StandsBeside s m beside (inside p beside' way) =
    (before : List ℕ) × (ls : List ℕ) × (mems_in s p ≡ before ++ (m ∷ ls)) × Forms s beside ls × StandsBeside s p beside' way

-- how many membranes of a forest, and of those behind a way, there are
abbrev pub size : Forest → ℕ
size f = length (flat f)

abbrev pub membranes_behind : Way → ℕ
membranes_behind top = 0
membranes_behind (inside p beside way) = size beside + membranes_behind way

-- where the walk stands, in how many membranes, with what is in this one and what is behind it
pub record Position (s : Heap) (m depth : ℕ) : Type 0 where
  pub inner : Forest
  pub beside : Forest
  pub way : Way
  pub forms : Forms s inner (mems_in s m)
  pub stands : StandsBeside s m beside way
  pub deep : depth ≡ membranes_round way
  pub few : membranes_round way + 1 + (size inner + size beside + membranes_behind way) ≤ 2 ^ 48

-- the same where what is in it was written
pub record Leaving (s : Heap) (m depth : ℕ) : Type 0 where
  pub beside : Forest
  pub way : Way
  pub stands : StandsBeside s m beside way
  pub deep : depth ≡ membranes_round way
  pub few : membranes_round way + 1 + (size beside + membranes_behind way) ≤ 2 ^ 48

-- what is to be written from the end of a membrane on
abbrev pub closing : Texts → Way → Forest → List ℕ
closing t top beside = []
closing t (inside p beside' way) beside =
    codes "}" ++ (in_row (between way) true (members t beside) ++ (in_row (between way) true (t.rules p) ++ closing t way beside'))

-- what is to be written from the beginning of a membrane on, from behind its atoms, and from behind its membranes, where
-- `any` says whether an item stands before its rules
abbrev pub from_atoms : Texts → {s : Heap} {m depth : ℕ} → Position s m depth → List ℕ
from_atoms t {m = m} p = items_text t (between p.way) m (members t p.inner) ++ closing t p.way p.beside

abbrev pub from_membranes : Texts → {s : Heap} {m depth : ℕ} → Position s m depth → List ℕ
from_membranes t {m = m} p =
    in_row (between p.way) (has_atoms t m) (members t p.inner)
    ++ (in_row (between p.way) (has_atoms_or_membranes t m (members t p.inner)) (t.rules m) ++ closing t p.way p.beside)

abbrev pub from_rules : Texts → {s : Heap} {m depth : ℕ} → Bool → Leaving s m depth → List ℕ
from_rules t {m = m} any p = in_row (between p.way) any (t.rules m) ++ closing t p.way p.beside

-- how many membranes the walk has still to enter
abbrev pub membranes_ahead : {s : Heap} {m depth : ℕ} → Position s m depth → ℕ
membranes_ahead p = size p.inner + size p.beside + membranes_behind p.way

abbrev pub left_behind : {s : Heap} {m depth : ℕ} → Leaving s m depth → ℕ
left_behind p = size p.beside + membranes_behind p.way

-- The walk went on to another membrane: it wrote what was left but for what is left from there on.
pub record WalksOn (t : Texts) (s : Heap) (left : List ℕ) (more m depth : ℕ) (old new : SinkState) : Type 0 where
  pub position : Position s m depth
  pub written : List ℕ
  pub adds : Adds written old new
  pub rest : left ≡ written ++ from_atoms t position
  pub fewer : membranes_ahead position + 1 ≤ more

-- the items of the root
abbrev pub tree_text : Texts → Forest → List ℕ
tree_text t bare = []
tree_text t (mem m inner rest) = items_text t (codes ". ") m (members t inner)

-- whether anything stands in a membrane of a heap
abbrev pub has_any : Heap → ℕ → Bool
has_any s m = any_behind (any_behind (any_behind false (atoms_in s m)) (mems_in s m)) (rules_in s m)
