-- What a web holds, as its calls see it, and how cells stand for that.
use Rattle.std.specs.Prelude.{◌≡◌, ◌≢◌, ◌==◌, ◌&&◌, Bool, false, ℕ, zero, suc, ◌+◌, ◌*◌, ◌/◌, ◌^◌, ◌<◌, List, [], ◌∷◌, ◌++◌, length, map, filter, Option, Some, None, IsSome, slice_index_or, slice_set, replicate, unwrap_or}
use Rattle.std.specs.Option.{option_map}
use Rattle.lmn_store_heap.specs.Heap.{alter}
use Rattle.lmn_base.specs.Lists.{In}
use Rattle.lmn_store_heap.specs.Lists.{Distinct, without}
use Rattle.lmn_web_cells.specs.Cells.{HeldPort, HeldCell, cells_by, numbers_of}
use Rattle.lmn_web_cells.specs.Ports.{partner_by}
use Rattle.lmn_web_cells.specs.Runs.{link_in, put_before}
use Rattle.lmn_web_cells.specs.Links.{HOME, NEXT, ATOMS, MEMBRANES}
use Rattle.lmn_web_cells.specs.Numbers.{KIND, HIGH, LOW, FIRST_MARK, ATOM_COUNT, MEMBRANE_COUNT}
use Rattle.lmn_web_cells.specs.Rows.{Row}
use Rattle.lmn_web.specs.declared.kind.CellKind.{CellKind}
use Rattle.lmn_web.specs.declared.kind.CellKind.TheVariants.{Atom, Membrane}
use Rattle.lmn_web.specs.Kinds.{kind_by}

-- A cell: its label, its kind, the partner of each port, the mark of each port and then its own, the membrane in a list of which it stands, and its own lists.
pub record WebCell : Type 0 where
  pub label : ℕ
  pub kind : CellKind
  pub partners : List (Option (ℕ × ℕ))
  pub marks : List ℕ
  pub home : Option ℕ
  pub atoms : List ℕ
  pub membranes : List ℕ

-- Reading

abbrev pub partners_of : Option WebCell → List (Option (ℕ × ℕ))
partners_of None = []
partners_of (Some c) = c.partners

abbrev pub marks_of : Option WebCell → List ℕ
marks_of None = []
marks_of (Some c) = c.marks

-- the other end of a port
abbrev pub partner_at : (ℕ → Option WebCell) → ℕ → ℕ → Option (ℕ × ℕ)
partner_at w a i = slice_index_or (partners_of (w a)) i None

-- how many ports a cell has
abbrev pub arity_at : (ℕ → Option WebCell) → ℕ → ℕ
arity_at w a = length (partners_of (w a))

-- what the cell of a number stands for; where there is none, an atom
abbrev pub web_kind : Option WebCell → CellKind
web_kind None = Atom
web_kind (Some c) = c.kind

abbrev pub kind_at : (ℕ → Option WebCell) → ℕ → CellKind
kind_at w a = web_kind (w a)

abbrev pub home_of : Option WebCell → Option ℕ
home_of None = None
home_of (Some c) = c.home

-- the membrane in a list of which a cell stands
abbrev pub home_at : (ℕ → Option WebCell) → ℕ → Option ℕ
home_at w a = home_of (w a)

abbrev pub cells_of : Option WebCell → CellKind → List ℕ
cells_of None k = []
cells_of (Some c) Atom = c.atoms
cells_of (Some c) Membrane = c.membranes

-- the list of a kind of a membrane
abbrev pub cells_in : (ℕ → Option WebCell) → ℕ → CellKind → List ℕ
cells_in w m k = cells_of (w m) k

-- the label of a cell
abbrev pub web_label : (ℕ → Option WebCell) → ℕ → Option ℕ
web_label w a = option_map (λ c. c.label) (w a)

-- the cell has this label and so many ports
abbrev pub is_labelled : (ℕ → Option WebCell) → ℕ → ℕ → ℕ → Bool
is_labelled w label n a = unwrap_or (option_map (λ k. k == label) (web_label w a)) false && (arity_at w a == n)

-- those of a list that have this label and so many ports, in their order
abbrev pub with_label : (ℕ → Option WebCell) → ℕ → ℕ → List ℕ → List ℕ
with_label w label n xs = filter (is_labelled w label n) xs

-- the class of a label: its upper half
abbrev pub label_class : ℕ → ℕ
label_class label = label / 2 ^ 64

-- a membrane whose atoms aren't filed by class: its label has another class than 0
abbrev pub FilesNone : (ℕ → Option WebCell) → ℕ → Type 0
FilesNone w m = (l : ℕ) → web_label w m ≡ Some l → label_class l ≢ 0

-- the cell's label has this class, and the cell so many ports
abbrev pub is_classed : (ℕ → Option WebCell) → ℕ → ℕ → ℕ → Bool
is_classed w class n a = unwrap_or (option_map (λ k. label_class k == class) (web_label w a)) false && (arity_at w a == n)

-- those of a list of which this holds, in their order
abbrev pub with_class : (ℕ → Option WebCell) → ℕ → ℕ → List ℕ → List ℕ
with_class w class n xs = filter (is_classed w class n) xs

-- a cell that may be freed: no partner, no home, and nothing in its lists
pub record IsLoose (w : ℕ → Option WebCell) (a : ℕ) : Type 0 where
  pub there : IsSome (w a)
  pub alone : (i : ℕ) → partner_at w a i ≡ None
  pub homeless : home_at w a ≡ None
  pub empty : (k : CellKind) → cells_in w a k ≡ []

-- each cell with a home stands once in that home's list of its kind, and in no other list; an atom has nothing in its lists
pub record StandOnce (w : ℕ → Option WebCell) : Type 0 where
  pub once : (m : ℕ) (k : CellKind) → Distinct (cells_in w m k)
  pub homes : (m x : ℕ) (k : CellKind) → In x (cells_in w m k) → (home_at w x ≡ Some m) × (kind_at w x ≡ k) × (x ≢ m)
  pub listed : (m x : ℕ) → home_at w x ≡ Some m → In x (cells_in w m (kind_at w x))
  pub bare : (m : ℕ) (k : CellKind) → kind_at w m ≡ Atom → cells_in w m k ≡ []

-- each partner is a port that has this port as its partner, and no port is its own
pub record IsPaired (w : ℕ → Option WebCell) : Type 0 where
  pub reaches : (a i b j : ℕ) → partner_at w a i ≡ Some (b, j) → j < arity_at w b
  pub back : (a i b j : ℕ) → partner_at w a i ≡ Some (b, j) → partner_at w b j ≡ Some (a, i)
  pub apart : (a i : ℕ) → partner_at w a i ≡ Some (a, i) → ⊥

-- What calls do

-- a cell that was just made
abbrev pub new_cell : ℕ → ℕ → CellKind → WebCell
new_cell l n k = record { label = l; kind = k; partners = replicate n None; marks = replicate n 0 ++ 0 ∷ []; home = None; atoms = []; membranes = [] }

abbrev pub with_partner : ℕ → Option (ℕ × ℕ) → WebCell → WebCell
with_partner i p c = record c { partners = slice_set c.partners i p }

abbrev pub with_mark : ℕ → ℕ → WebCell → WebCell
with_mark i n c = record c { marks = slice_set c.marks i n }

-- a port with this partner
abbrev pub linked : (ℕ → Option WebCell) → ℕ → ℕ → Option (ℕ × ℕ) → ℕ → Option WebCell
linked w a i p = alter w a (option_map (with_partner i p))

-- the former partner of a port has none
abbrev pub cleared : (ℕ → Option WebCell) → Option (ℕ × ℕ) → ℕ → Option WebCell
cleared w None = w
cleared w (Some p) = linked w p.0 p.1 None

-- two ports become partners; a former partner of either has none
abbrev pub joined : (ℕ → Option WebCell) → ℕ → ℕ → ℕ → ℕ → ℕ → Option WebCell
joined w a i b j = linked (linked (cleared (cleared w (partner_at w a i)) (partner_at w b j)) a i (Some (b, j))) b j (Some (a, i))

-- a port and its partner have none
abbrev pub parted : (ℕ → Option WebCell) → ℕ → ℕ → ℕ → Option WebCell
parted w a i = linked (cleared w (partner_at w a i)) a i None

abbrev pub with_home : Option ℕ → WebCell → WebCell
with_home h c = record c { home = h }

abbrev pub with_list : CellKind → List ℕ → WebCell → WebCell
with_list Atom xs c = record c { atoms = xs }
with_list Membrane xs c = record c { membranes = xs }

-- x has another home, and the list of m for its kind is another
abbrev pub relisted : (ℕ → Option WebCell) → ℕ → ℕ → Option ℕ → List ℕ → ℕ → Option WebCell
relisted w m x h xs = alter (alter w x (option_map (with_home h))) m (option_map (with_list (kind_at w x) xs))

-- x stands at the end of the list of m for its kind
abbrev pub added_last : (ℕ → Option WebCell) → ℕ → ℕ → ℕ → Option WebCell
added_last w m x = relisted w m x (Some m) (cells_in w m (kind_at w x) ++ x ∷ [])

-- x stands directly before a in that list
abbrev pub added_before : (ℕ → Option WebCell) → ℕ → ℕ → ℕ → ℕ → Option WebCell
added_before w m a x = relisted w m x (Some m) (put_before x a (cells_in w m (kind_at w x)))

-- x, which stood in a list of m, stands in none
abbrev pub unlinked : (ℕ → Option WebCell) → ℕ → ℕ → ℕ → Option WebCell
unlinked w m x = relisted w m x None (without x (cells_in w m (kind_at w x)))

-- v is w without the atoms of m
pub record WithoutAtoms (w v : ℕ → Option WebCell) (m : ℕ) : Type 0 where
  pub gone : (a : ℕ) → In a (cells_in w m Atom) → v a ≡ None
  pub others : (b : ℕ) → (In b (cells_in w m Atom) → ⊥) → b ≢ m → v b ≡ w b
  pub home : v m ≡ option_map (with_list Atom []) (w m)

-- How cells stand for that

-- the numbers that say how long the two lists are
abbrev pub count_number : CellKind → ℕ
count_number Atom = ATOM_COUNT
count_number Membrane = MEMBRANE_COUNT

-- the links at which they begin; the next ones lead to their ends
abbrev pub list_link : CellKind → ℕ
list_link Atom = ATOMS
list_link Membrane = MEMBRANES

abbrev pub number_in : (ℕ → Option HeldCell) → ℕ → ℕ → ℕ
number_in f b k = slice_index_or (numbers_of (f b)) k 0

-- the label by its two halves
abbrev pub label_by : ℕ → ℕ → ℕ
label_by high low = high * 2 ^ 64 + low

-- what a cell with these lists stands for; its first mark is a number, and each further one stands with the port before its own
abbrev pub web_cell : (CellKind → List ℕ) → HeldCell → WebCell
web_cell lists c = record {
  label = label_by (slice_index_or c.numbers HIGH 0) (slice_index_or c.numbers LOW 0);
  kind = kind_by (slice_index_or c.numbers KIND 0);
  partners = map partner_by c.ports;
  marks = slice_index_or c.numbers FIRST_MARK 0 ∷ map (λ (p : HeldPort). p.mark) c.ports;
  home = slice_index_or c.links HOME None;
  atoms = lists Atom;
  membranes = lists Membrane;
}

-- so many numbers, each behind the one before
abbrev pub walked : (ℕ → Option ℕ) → ℕ → Option ℕ → List ℕ
walked next zero first = []
walked next (suc n) None = []
walked next (suc n) (Some a) = a ∷ walked next n (next a)

-- the list that begins at a link of a membrane, as long as the membrane says
abbrev pub list_in : (ℕ → Option HeldCell) → ℕ → CellKind → List ℕ
list_in f m k = walked (λ a. link_in f a NEXT) (number_in f m (count_number k)) (link_in f m (list_link k))

-- the cells, with these lists
abbrev pub web_with : (ℕ → Option HeldCell) → (ℕ → CellKind → List ℕ) → ℕ → Option WebCell
web_with f lists b = option_map (web_cell (lists b)) (f b)

abbrev pub web_of : (ℕ → Option HeldCell) → ℕ → Option WebCell
web_of f = web_with f (list_in f)

abbrev pub web_by : List Row → ℕ → Option WebCell
web_by rows = web_of (cells_by rows)
