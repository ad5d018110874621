-- Words of the invariant of a web, and of private functions: how its cells are listed and indexed.
use Rattle.std.specs.Prelude.{◌≡◌, true, ℕ, ◌+◌, ◌==◌, ◌<◌, ◌^◌, List, [], ◌∷◌, length, Option, Some, None, IsSome, if◌then◌else◌, replicate}
use Rattle.lmn_base.specs.Lists.{In}
use Rattle.lmn_web_cells.specs.Cells.{HeldCell, numbers_of, ports_of, no_port, with_link, with_number}
use Rattle.lmn_web_cells.specs.Ports.{Reaches, Paired}
use Rattle.lmn_web_cells.specs.Runs.{link_in, Line}
use Rattle.lmn_web_cells.specs.Links.{HOME, LEADERS}
use Rattle.lmn_web.specs.declared.kind.CellKind.{CellKind}
use Rattle.lmn_web.specs.declared.kind.CellKind.TheVariants.{Atom}
use Rattle.lmn_web.specs.Kinds.{FILED, kind_by}
use Rattle.lmn_web.specs.Classes.{files, ClassTree, AreClassed}
use Rattle.lmn_web.specs.Webs.{number_in, count_number, list_link, list_in}
use Rattle.lmn_web_cells.specs.Numbers.{INDEX, ARITY, KIND, HIGH, LOW}

-- how many numbers a cell has that tells its kind by this number
abbrev pub numbers_by : ℕ → ℕ
numbers_by kind = if kind == 0 then 6 else 8

-- such a cell in which nothing is set but its index
abbrev pub blank_by : ℕ → ℕ → ℕ → HeldCell
blank_by index kind ports = record { links = replicate 8 None; numbers = 0 ∷ 0 ∷ index ∷ 0 ∷ 0 ∷ 0 ∷ (if kind == 0 then [] else 0 ∷ 0 ∷ []); ports = replicate ports no_port }

-- a cell with these numbers
abbrev pub described : ℕ → ℕ → ℕ → ℕ → HeldCell → HeldCell
described arity kind high low c = with_number LOW low (with_number HIGH high (with_number KIND kind (with_number ARITY arity c)))

-- what a cell stands for; where there is none, an atom
abbrev pub cell_kind : (ℕ → Option HeldCell) → ℕ → CellKind
cell_kind f b = kind_by (number_in f b KIND)

-- these are the lists of the cells, and each cell with a home stands in the list of its kind
pub record IsListed (f : ℕ → Option HeldCell) (lists : ℕ → CellKind → List ℕ) : Type 0 where
  pub line : (m : ℕ) (k : CellKind) → (cell_kind f m ≡ Atom → ⊥) → Line f m (list_link k) (lists m k)
  pub count : (m : ℕ) (k : CellKind) → number_in f m (count_number k) ≡ length (lists m k)
  pub kinds : (m x : ℕ) (k : CellKind) → In x (lists m k) → cell_kind f x ≡ k
  pub homes : (m x : ℕ) → link_in f x HOME ≡ Some m → IsSome (f m) × In x (lists m (cell_kind f x))
  pub bare : (m : ℕ) (k : CellKind) → cell_kind f m ≡ Atom → lists m k ≡ []

-- a web has at most so many cells: their indexes are below that
abbrev pub most_cells : ℕ
most_cells = 2 ^ 32

-- each cell has an index of its own, below a limit
pub record IsWeb (f : ℕ → Option HeldCell) (limit : ℕ) : Type 0 where
  pub indexed : (b : ℕ) → IsSome (f b) → number_in f b INDEX < limit
  pub single : (a b : ℕ) → IsSome (f a) → IsSome (f b) → number_in f a INDEX ≡ number_in f b INDEX → a ≡ b
  pub arity : (b : ℕ) → IsSome (f b) → number_in f b ARITY ≡ length (ports_of (f b))
  pub few : (b : ℕ) → length (ports_of (f b)) < 256
  pub numbers : (b : ℕ) → IsSome (f b) → length (numbers_of (f b)) ≡ numbers_by (number_in f b KIND)
  pub reaches : Reaches f
  pub paired : Paired f
  pub listed : IsListed f (list_in f)

-- the atoms of each membrane that files them are linked by class, a membrane files them only where the class of its label is 0, and the lower half of each label is below 2 ^ 64
pub record IsClassed (f : ℕ → Option HeldCell) (lists : ℕ → CellKind → List ℕ) : Type 0 where
  pub classes : (m : ℕ) → files f m Atom ≡ true → (t : ClassTree) × AreClassed f m (lists m Atom) t
  pub filing : (m : ℕ) → number_in f m KIND ≡ FILED → number_in f m HIGH ≡ 0
  pub low : (b : ℕ) → number_in f b LOW < 2 ^ 64

-- a web whose atoms are linked by class
pub record IsClassedWeb (f : ℕ → Option HeldCell) (limit : ℕ) : Type 0 where
  pub web : IsWeb f limit
  pub classed : IsClassed f (list_in f)

-- each cell tells how many ports it has, and has the numbers of its kind
pub record AreSized (f : ℕ → Option HeldCell) : Type 0 where
  pub arity : (b : ℕ) → IsSome (f b) → number_in f b ARITY ≡ length (ports_of (f b))
  pub numbers : (b : ℕ) → IsSome (f b) → length (numbers_of (f b)) ≡ numbers_by (number_in f b KIND)

-- g is f without the cells of a list
pub record Without (f g : ℕ → Option HeldCell) (xs : List ℕ) : Type 0 where
  pub gone : (b : ℕ) → In b xs → g b ≡ None
  pub others : (b : ℕ) → (In b xs → ⊥) → g b ≡ f b

-- a membrane with no atom
abbrev pub bare_atoms : HeldCell → HeldCell
bare_atoms c = with_number (count_number Atom) 0 (with_link LEADERS None (with_link (list_link Atom + 1) None (with_link (list_link Atom) None c)))
