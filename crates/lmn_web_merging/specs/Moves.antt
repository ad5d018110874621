-- Words of the invariant of a merging web, and of private functions: what holds of keepers, and what a merge does step by step.
use Rattle.std.specs.Prelude.{◌≡◌, ◌≢◌, ◌⊎◌, true, false, ℕ, List, [], ◌++◌, length, Option, Some, None, slice_index_or}
use Rattle.std.specs.Option.{option_map}
use Rattle.lmn_base.specs.Lists.{In}
use Rattle.lmn_store_heap.specs.Lists.{without}
use Rattle.lmn_web.specs.declared.kind.CellKind.{CellKind}
use Rattle.lmn_web.specs.declared.kind.CellKind.TheVariants.{Membrane}
use Rattle.lmn_web.specs.Webs.{WebCell, kind_at, home_at, arity_at, partner_at, marks_of, cells_in, with_home, with_list, StandOnce}
use Rattle.lmn_web_merging.specs.Keepers.{keeper, port_mark, is_retired, seen, LENT, RETIRED}

-- Ports of membranes join them with membranes, by one port each. A membrane that has a keeper tells so, and of two that are there one tells that its cell is lent. One that is there no more stands nowhere, and the lists of its keeper are empty. No membrane stands in a list of its own.
pub record AreKept (w : ℕ → Option WebCell) : Type 0 where
  pub joined : (m i b j : ℕ) → kind_at w m ≡ Membrane → partner_at w m i ≡ Some (b, j) → (i ≡ 0) × (j ≡ 0) × (kind_at w b ≡ Membrane)
  pub ports : (m : ℕ) → kind_at w m ≡ Membrane → arity_at w m ≡ 1
  pub marks : (m : ℕ) → kind_at w m ≡ Membrane → length (marks_of (w m)) ≡ 2
  pub told : (m : ℕ) → keeper w m ≢ m → kind_at w m ≡ Membrane → port_mark w m ≢ 0
  pub lent : (m : ℕ) → keeper w m ≢ m → kind_at w m ≡ Membrane → is_retired (w m) ≡ false → is_retired (w (keeper w m)) ≡ false → (port_mark w m ≡ LENT) ⊎ (port_mark w (keeper w m) ≡ LENT)
  pub homeless : (m : ℕ) → is_retired (w m) ≡ true → home_at w m ≡ None
  pub bare : (m : ℕ) (k : CellKind) → is_retired (w m) ≡ true → cells_in w (keeper w m) k ≡ []
  pub apart : (m : ℕ) → home_at w m ≢ Some (keeper w m)

-- v is w where x, which stood in a list of m, stands in that of n for its kind, which is another now
pub record Goes (w v : ℕ → Option WebCell) (m n x : ℕ) (all : List ℕ) : Type 0 where
  pub left : x ≢ m
  pub came : x ≢ n
  pub apart : m ≢ n
  pub moved : v x ≡ option_map (with_home (Some n)) (w x)
  pub source : v m ≡ option_map (with_list (kind_at w x) (without x (cells_in w m (kind_at w x)))) (w m)
  pub target : v n ≡ option_map (with_list (kind_at w x) all) (w n)
  pub others : (y : ℕ) → y ≢ x → y ≢ m → y ≢ n → v y ≡ w y

-- v is w where some cells that stood in the list of m for a kind have gone to that of n; these are the two lists now
pub record Moves (w v : ℕ → Option WebCell) (m n : ℕ) (k : CellKind) (gone rest all : List ℕ) : Type 0 where
  pub source : v m ≡ option_map (with_list k rest) (w m)
  pub target : v n ≡ option_map (with_list k all) (w n)
  pub moved : (x : ℕ) → In x gone → v x ≡ option_map (with_home (Some n)) (w x)
  pub others : (x : ℕ) → x ≢ m → x ≢ n → (In x gone → ⊥) → v x ≡ w x

-- so far as cells went from the first on, to the end of the other list
pub record SendsLast (w v : ℕ → Option WebCell) (m n : ℕ) (k : CellKind) : Type 0 where
  pub gone : List ℕ
  pub rest : List ℕ
  pub own : cells_in w m k ≡ gone ++ rest
  pub moves : Moves w v m n k gone rest (cells_in w n k ++ gone)

-- so far as they went from the last on, before those of the other list
pub record SendsFirst (w v : ℕ → Option WebCell) (m n : ℕ) (k : CellKind) : Type 0 where
  pub gone : List ℕ
  pub rest : List ℕ
  pub own : cells_in w m k ≡ rest ++ gone
  pub moves : Moves w v m n k gone rest (gone ++ cells_in w n k)

-- a cell with these lists
abbrev pub with_lists : List ℕ → List ℕ → WebCell → WebCell
with_lists xs ys c = record c { atoms = xs; membranes = ys }

-- v is w where what stood in m stands in n, whose lists are these now
pub record Relists (w v : ℕ → Option WebCell) (m n : ℕ) (xs ys : List ℕ) : Type 0 where
  pub source : v m ≡ option_map (with_lists [] []) (w m)
  pub target : v n ≡ option_map (with_lists xs ys) (w n)
  pub moved : (x : ℕ) → home_at w x ≡ Some m → v x ≡ option_map (with_home (Some n)) (w x)
  pub others : (x : ℕ) → x ≢ m → x ≢ n → home_at w x ≢ Some m → v x ≡ w x

-- The lists of m may go over to n, whose lists are empty, as are those that its cell keeps; where m has a keeper, that is there no more.
pub record MayTrade (w : ℕ → Option WebCell) (m n : ℕ) : Type 0 where
  pub kept : AreKept w
  pub source : kind_at w m ≡ Membrane
  pub source_there : is_retired (w m) ≡ false
  pub target : kind_at w n ≡ Membrane
  pub target_there : is_retired (w n) ≡ false
  pub apart : m ≢ n
  pub given : (k : ℕ) → partner_at w m 0 ≡ Some (k, 0) → is_retired (w k) ≡ true
  pub empty : (k : CellKind) → cells_in w (keeper w n) k ≡ []
  pub idle : (k : CellKind) → cells_in w n k ≡ []
  pub outside : home_at w n ≢ Some (keeper w m)

-- v is w where n keeps its own lists, which are empty: its keeper keeps its own too, or is there no more
pub record LetsGo (w v : ℕ → Option WebCell) (n : ℕ) : Type 0 where
  pub kept : AreKept v
  pub seen_same : seen v ≡ seen w
  pub alone : partner_at v n 0 ≡ None
  pub kind : kind_at v n ≡ Membrane
  pub there : is_retired (v n) ≡ false
  pub empty : (k : CellKind) → cells_in v n k ≡ []
  pub homes : (y : ℕ) → home_at v y ≡ home_at w y
  pub others : (y : ℕ) → y ≢ n → y ≢ keeper w n → v y ≡ w y

-- The lists of m may go over to n, which has no keeper and whose lists are empty; where m has a keeper, that is there no more.
pub record Trades (w : ℕ → Option WebCell) (m n : ℕ) : Type 0 where
  pub kept : AreKept w
  pub once : StandOnce w
  pub source : kind_at w m ≡ Membrane
  pub source_there : is_retired (w m) ≡ false
  pub target : kind_at w n ≡ Membrane
  pub target_there : is_retired (w n) ≡ false
  pub apart : m ≢ n
  pub alone : partner_at w n 0 ≡ None
  pub given : (k : ℕ) → partner_at w m 0 ≡ Some (k, 0) → is_retired (w k) ≡ true
  pub empty : (k : CellKind) → cells_in w n k ≡ []
  pub inside : home_at w m ≢ Some n
  pub outside : home_at w n ≢ Some (keeper w m)

-- a cell with other partners and other marks
abbrev pub redone : List (Option (ℕ × ℕ)) → List ℕ → WebCell → WebCell
redone ps ms c = record c { partners = ps; marks = ms }

-- o is q but for its partners and its marks
abbrev pub Like : Option WebCell → Option WebCell → Type 0
Like o q = (ps : List (Option (ℕ × ℕ))) × (ms : List ℕ) × (o ≡ option_map (redone ps ms) q)

-- What was traded: n and the keeper of m are joined now, m to nothing where it isn't that keeper itself, and they tell so; nothing else has changed.
pub record Traded (w v : ℕ → Option WebCell) (m n b : ℕ) : Type 0 where
  pub like : (y : ℕ) → Like (v y) (w y)
  pub others : (y : ℕ) → y ≢ m → y ≢ n → y ≢ b → v y ≡ w y
  pub arity : (y : ℕ) → arity_at v y ≡ arity_at w y
  pub marks : (y : ℕ) → length (marks_of (v y)) ≡ length (marks_of (w y))
  pub first : (y : ℕ) → slice_index_or (marks_of (v y)) 0 0 ≡ slice_index_or (marks_of (w y)) 0 0
  pub target : partner_at v n 0 ≡ Some (b, 0)
  pub kept : partner_at v b 0 ≡ Some (n, 0)
  pub source : m ≢ b → partner_at v m 0 ≡ None
  pub target_told : port_mark v n ≡ 1
  pub source_told : m ≡ b → port_mark v m ≡ LENT
  pub kept_told : m ≢ b → port_mark v b ≡ RETIRED
  pub source_same : m ≢ b → port_mark v m ≡ port_mark w m
