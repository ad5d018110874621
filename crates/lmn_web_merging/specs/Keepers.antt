-- A web in which the lists of a membrane may be kept by another cell: what it holds, seen through that.
use Rattle.std.specs.Prelude.{◌≡◌, ◌≢◌, ◌==◌, Bool, false, ℕ, List, [], ◌∷◌, ◌++◌, Option, Some, None, slice_index_or, if◌then◌else◌}
use Rattle.std.specs.Option.{option_map}
use Rattle.lmn_web_cells.specs.Rows.{Row}
use Rattle.lmn_web.specs.declared.kind.CellKind.{CellKind}
use Rattle.lmn_web.specs.declared.kind.CellKind.TheVariants.{Atom, Membrane}
use Rattle.lmn_web.specs.Webs.{WebCell, kind_at, home_at, partner_at, marks_of, cells_in, with_home, web_by}

-- where the port of a membrane leads, and else the cell itself
abbrev pub led_from : CellKind → ℕ → Option (ℕ × ℕ) → ℕ
led_from Atom x p = x
led_from Membrane x None = x
led_from Membrane x (Some p) = p.0

-- The cell that keeps the lists of a membrane: that to which its port is joined, or itself. Of a cell that keeps lists it is the membrane to which they belong.
abbrev pub keeper : (ℕ → Option WebCell) → ℕ → ℕ
keeper w x = led_from (kind_at w x) x (partner_at w x 0)

-- The mark of the port of a membrane: 0, or another where its port is or was joined.
abbrev pub port_mark : (ℕ → Option WebCell) → ℕ → ℕ
port_mark w x = slice_index_or (marks_of (w x)) 1 0

-- that of a membrane whose cell keeps the lists of another that is there
abbrev pub LENT : ℕ
LENT = 3

-- that of a membrane that is there no more, but for that its cell keeps the lists of another
abbrev pub RETIRED : ℕ
RETIRED = 2

abbrev pub retires : CellKind → List ℕ → Bool
retires Atom ms = false
retires Membrane ms = slice_index_or ms 1 0 == RETIRED

-- a membrane that is there no more
abbrev pub is_retired : Option WebCell → Bool
is_retired None = false
is_retired (Some c) = retires c.kind c.marks

-- the ports of a membrane aren't seen
abbrev pub seen_partners : CellKind → List (Option (ℕ × ℕ)) → List (Option (ℕ × ℕ))
seen_partners Atom ps = ps
seen_partners Membrane ps = []

-- nor is the mark of its port, where it is 0
abbrev pub seen_marks : CellKind → List ℕ → List ℕ
seen_marks Atom ms = ms
seen_marks Membrane ms = if slice_index_or ms 1 0 == 0 then slice_index_or ms 0 0 ∷ [] else ms

-- a cell with these lists, where each home is that of which it keeps the lists
abbrev pub seen_cell : (ℕ → ℕ) → List ℕ → List ℕ → WebCell → WebCell
seen_cell keep xs ys c = record {
  label = c.label;
  kind = c.kind;
  partners = seen_partners c.kind c.partners;
  marks = seen_marks c.kind c.marks;
  home = option_map keep c.home;
  atoms = xs;
  membranes = ys;
}

abbrev pub looked_at : (ℕ → ℕ) → List ℕ → List ℕ → Option WebCell → Option WebCell
looked_at keep xs ys o = if is_retired o then None else option_map (seen_cell keep xs ys) o

-- what a web holds, seen through its keepers
abbrev pub seen : (ℕ → Option WebCell) → ℕ → Option WebCell
seen w x = looked_at (keeper w) (cells_in w (keeper w x) Atom) (cells_in w (keeper w x) Membrane) (w x)

abbrev pub merged_by : List Row → ℕ → Option WebCell
merged_by rows = seen (web_by rows)

-- a cell with other marks and other lists
abbrev pub relisted_both : List ℕ → List ℕ → List ℕ → WebCell → WebCell
relisted_both ms xs ys c = record c { marks = ms; atoms = xs; membranes = ys }

-- v is w where what stood in m stands at the ends of the lists of n; the first marks of the two are as they were, and the cell of n isn't lent where it wasn't before
pub record MovesAll (w v : ℕ → Option WebCell) (m n : ℕ) : Type 0 where
  pub source_marks : List ℕ
  pub source_mark : slice_index_or source_marks 0 0 ≡ slice_index_or (marks_of (w m)) 0 0
  pub source : v m ≡ option_map (relisted_both source_marks [] []) (w m)
  pub target_marks : List ℕ
  pub target_mark : slice_index_or target_marks 0 0 ≡ slice_index_or (marks_of (w n)) 0 0
  pub target_own : slice_index_or target_marks 1 0 ≡ LENT → port_mark w n ≡ LENT
  pub target : v n ≡ option_map (relisted_both target_marks (cells_in w n Atom ++ cells_in w m Atom) (cells_in w n Membrane ++ cells_in w m Membrane)) (w n)
  pub moved : (x : ℕ) → home_at w x ≡ Some m → v x ≡ option_map (with_home (Some n)) (w x)
  pub others : (x : ℕ) → x ≢ m → x ≢ n → home_at w x ≢ Some m → v x ≡ w x
