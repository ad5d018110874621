-- Walks that are kept in the first marks of atoms.
use Rattle.std.specs.Prelude.{ℕ, zero, suc, ◌≡◌, ◌≢◌, ◌⊎◌, ◌<◌, ◌≤◌, ◌+◌, ◌-◌, ◌*◌, ◌/◌, ◌%◌, Bool, false, List, [], ◌∷◌, ◌++◌, Option, Some, None, IsSome, length}
use Rattle.std.specs.Option.{option_map}
use Rattle.lmn_store_heap.specs.Heap.{Heap, HeapAtom, with_mark, mark_of, Distinct}
use Rattle.lmn_ground_parts.specs.Walks.{neighbour, HasPort, Net, ports_from, is_port, Walk}
use Rattle.lmn_base.specs.Lists.{In}

-- the atom with another mark at a place; 0 stands for the one that it has
abbrev pub paint_at : (HeapAtom → ℕ) → ℕ → Option HeapAtom → Option HeapAtom
paint_at place zero x = x
paint_at place (suc v) x = option_map (λ y. with_mark (place y) (suc v) y) x

abbrev pub painted_at : (HeapAtom → ℕ) → Heap → (ℕ → ℕ) → Heap
painted_at place s marks = record s { atoms = λ a. paint_at place (marks a) (s.atoms a) }

-- the place of the first mark
abbrev pub first_place : HeapAtom → ℕ
first_place x = 0

-- other first marks
abbrev pub paint : ℕ → Option HeapAtom → Option HeapAtom
paint v x = paint_at first_place v x

abbrev pub painted : Heap → (ℕ → ℕ) → Heap
painted s marks = painted_at first_place s marks

abbrev pub first_marks : Heap → ℕ → ℕ
first_marks s a = mark_of s a 0

-- A mark holds the port by which an atom was entered, and above it a number: 1 where the walk back has entered the atom anew, and
-- one from 2 on where it was found, as the atom with the number n in its walk.
abbrev pub entry_port : ℕ → ℕ
entry_port v = v % 256

abbrev pub entry_number : ℕ → ℕ
entry_number v = v / 256

abbrev pub anew_mark : ℕ → ℕ
anew_mark port = 256 + port

abbrev pub found_mark : ℕ → ℕ → ℕ
found_mark n port = 512 + 256 * n + port

-- each mark of a walk is at least this, and none of the walk back is
abbrev pub least_found : ℕ
least_found = 512

-- the own mark of an atom that registers name
abbrev pub matched_mark : ℕ
matched_mark = 1

abbrev pub or_zero : Option (ℕ × ℕ) → ℕ × ℕ
or_zero None = (0, 0)
or_zero (Some p) = p

-- the port from which an atom was entered
abbrev pub back : Net → (ℕ → ℕ) → ℕ → ℕ × ℕ
back n marks a = or_zero (n.link a (entry_port (marks a)))

-- the atoms on the way back to the root, this one first
abbrev pub way : Net → (ℕ → ℕ) → ℕ → ℕ → List ℕ
way n marks zero a = a ∷ []
way n marks (suc depth) a = a ∷ way n marks depth (back n marks a).0

-- the ports on the way back that are still to be gone through
abbrev pub ports_behind : Net → (ℕ → ℕ) → ℕ → ℕ → List (ℕ × ℕ)
ports_behind n marks zero a = []
ports_behind n marks (suc depth) a = ports_from n (back n marks a).0 ((back n marks a).1 + 1) ++ ports_behind n marks depth (back n marks a).0

-- the way back from this atom leads to the root
abbrev pub OnWay : Net → (ℕ → ℕ) → ℕ × ℕ → ℕ → ℕ → Type 0
OnWay n marks root zero a = a ≡ root.0
OnWay n marks root (suc depth) a =
    (n.link a (entry_port (marks a)) ≡ Some (back n marks a))
    × (entry_port (marks a) < n.arity a)
    × ((back n marks a).1 < n.arity (back n marks a).0)
    × (a ≡ root.0 → ⊥)
    × OnWay n marks root depth (back n marks a).0

-- the ports that are still to be gone through, from port i of the atom a on
abbrev pub ports_ahead : Net → (ℕ → ℕ) → ℕ → ℕ → ℕ → List (ℕ × ℕ)
ports_ahead n marks depth a i = ports_from n a i ++ ports_behind n marks depth a

-- how much is still to be gone through: the ports, and the steps back
abbrev pub weight : Net → (ℕ → ℕ) → ℕ → ℕ → ℕ → ℕ
weight n marks depth a i = length (ports_behind n marks depth a) + depth + (n.arity a - i)

-- From port i of the atom a a walk has gone on to port j of the atom b, and met no atom that isn't marked.
pub record Sought (n : Net) (marks : ℕ → ℕ) (root : ℕ × ℕ) (depth a i deep b j : ℕ) : Type 0 where
  pub on_way : OnWay n marks root deep b
  pub higher : deep ≤ depth
  pub within : (x : ℕ) → In x (way n marks deep b) → In x (way n marks depth a)
  pub once : Distinct (way n marks depth a) → Distinct (way n marks deep b)
  pub passed : (p : ℕ × ℕ) → HasPort p (ports_ahead n marks depth a i) → HasPort p (ports_ahead n marks deep b j) ⊎ ((p ≡ root) ⊎ IsSome (n.link p.0 p.1))
  pub walks : (inside : ℕ → Bool) (seen all : List ℕ) → ((x : ℕ) → In x (way n marks depth a) → In x seen)
      → ((c k x l : ℕ) → In c seen → is_port (c, k) root ≡ false → n.link c k ≡ Some (x, l) → marks x ≢ 0 → In x seen)
      → Walk n.arity (neighbour n root inside) seen (ports_ahead n marks deep b j) all → Walk n.arity (neighbour n root inside) seen (ports_ahead n marks depth a i) all

-- A walk stands where it has to be looked at: at its end, or at a port that isn't the root and leads to no marked atom.
pub record Halts (n : Net) (marks : ℕ → ℕ) (root : ℕ × ℕ) (depth a i : ℕ) : Type 0 where
  pub inside : i ≤ n.arity a
  pub end : i ≡ n.arity a → depth ≡ 0
  pub apart : i < n.arity a → is_port (a, i) root ≡ false
  pub fresh : (b j : ℕ) → n.link a i ≡ Some (b, j) → marks b ≡ 0
