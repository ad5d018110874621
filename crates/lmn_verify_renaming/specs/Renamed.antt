-- A heap of which the atoms and membranes have other numbers.
use Rattle.std.specs.Prelude.{ℕ, ◌≡◌, map}
use Rattle.std.specs.Option.{option_map}
use Rattle.lmn_store_heap.specs.Heap.{Heap, HeapAtom, HeapMem, Place, top, within, waiting, gone}

-- Other numbers for all numbers, and the way back.
pub record Numbering : Type 0 where
  pub to : ℕ → ℕ
  pub back : ℕ → ℕ
  pub there : (x : ℕ) → back (to x) ≡ x
  pub again : (y : ℕ) → to (back y) ≡ y

-- those of atoms and those of membranes
pub record Renaming : Type 0 where
  pub atoms : Numbering
  pub mems : Numbering

-- the way back
abbrev pub inverse : Renaming → Renaming
inverse r = record {
  atoms = record { to = r.atoms.back; back = r.atoms.to; there = r.atoms.again; again = r.atoms.there };
  mems = record { to = r.mems.back; back = r.mems.to; there = r.mems.again; again = r.mems.there };
}

-- a port of the atom with the other number
abbrev pub renamed_port : (ℕ → ℕ) → ℕ × ℕ → ℕ × ℕ
renamed_port to p = (to p.0, p.1)

-- a place in the membrane with the other number
abbrev pub renamed_place : (ℕ → ℕ) → Place → Place
renamed_place to top = top
renamed_place to (within m) = within (to m)
renamed_place to waiting = waiting
renamed_place to gone = gone

abbrev pub renamed_atom : (atom membrane : ℕ → ℕ) → HeapAtom → HeapAtom
renamed_atom atom membrane x = record {
  functor = x.functor;
  links = map (option_map (renamed_port atom)) x.links;
  marks = x.marks;
  place = renamed_place membrane x.place;
}

abbrev pub renamed_mem : (atom membrane : ℕ → ℕ) → HeapMem → HeapMem
renamed_mem atom membrane x = record {
  atoms = map atom x.atoms;
  mems = map membrane x.mems;
  rules = x.rules;
  spare = x.spare;
  mark = x.mark;
  place = renamed_place membrane x.place;
}

-- The heap with the other numbers.
abbrev pub renamed : Renaming → Heap → Heap
renamed r s = record {
  root = r.mems.to s.root;
  atoms = λ a. option_map (renamed_atom r.atoms.to r.mems.to) (s.atoms (r.atoms.back a));
  mems = λ m. option_map (renamed_mem r.atoms.to r.mems.to) (s.mems (r.mems.back m));
  new_atoms = map r.atoms.to s.new_atoms;
  new_mems = map r.mems.to s.new_mems;
}

-- a membrane with this room for more rules, and this mark
abbrev pub with_room : ℕ → ℕ → HeapMem → HeapMem
with_room spare mark x = record x { spare = spare; mark = mark }

-- t is s but for room for rules and marks of membranes
pub record SameButRoom (s t : Heap) : Type 0 where
  pub root : t.root ≡ s.root
  pub atoms : (a : ℕ) → t.atoms a ≡ s.atoms a
  pub mems : (m : ℕ) → (spare mark : ℕ) × (t.mems m ≡ option_map (with_room spare mark) (s.mems m))
  pub new_atoms : t.new_atoms ≡ s.new_atoms
  pub new_mems : t.new_mems ≡ s.new_mems
