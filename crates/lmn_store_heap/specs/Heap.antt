-- What a store of atoms in membranes holds, by numbers of atoms and membranes, and what each call does to it.
use Rattle.std.specs.Prelude.{ℕ, ◌==◌, ◌+◌, ◌-◌, List, [], ◌∷◌, ◌++◌, Option, Some, None, IsSome, if◌then◌else◌, length, slice_set, slice_index_or, replicate, ◌<◌, ◌≡◌}
use Rattle.std.specs.Option.{option_map, option_and_then}
use Rattle.lmn_base.specs.declared.functor.Functor.{Functor}
pub use Rattle.lmn_store_heap.specs.Lists.{from, after, without, Distinct}

-- where an item is: the root, in the list of a membrane, made and not yet placed, taken out and not yet freed
pub data Place : Type 0 where
  top : Place
  within : ℕ → Place
  waiting : Place
  gone : Place

-- an atom that isn't freed; the marks are those of its ports and then its own
pub record HeapAtom : Type 0 where
  pub functor : Functor
  pub links : List (Option (ℕ × ℕ))
  pub marks : List ℕ
  pub place : Place

-- a membrane that isn't freed
pub record HeapMem : Type 0 where
  pub atoms : List ℕ
  pub mems : List ℕ
  pub rules : List ℕ
  pub spare : ℕ
  pub mark : ℕ
  pub place : Place

-- A number names an atom, a membrane, or nothing. The two lines are of what waits, first made first.
pub record Heap : Type 0 where
  pub root : ℕ
  pub atoms : ℕ → Option HeapAtom
  pub mems : ℕ → Option HeapMem
  pub new_atoms : List ℕ
  pub new_mems : List ℕ

-- f with another answer at k
abbrev pub alter : {X : Type 0} → (ℕ → X) → ℕ → (X → X) → ℕ → X
alter f k g j = if j == k then g (f j) else f j

-- Reading

-- the number names an atom that isn't freed
abbrev pub IsAtom : Heap → ℕ → Type 0
IsAtom s a = IsSome (s.atoms a)

-- the number names a membrane that isn't freed
abbrev pub IsMem : Heap → ℕ → Type 0
IsMem s m = IsSome (s.mems m)

-- the functor of an atom
abbrev pub functor_of : Heap → ℕ → Option Functor
functor_of s a = option_map (λ x. x.functor) (s.atoms a)

-- the partners of an atom's ports, by index
abbrev pub partners_of : Option HeapAtom → List (Option (ℕ × ℕ))
partners_of None = []
partners_of (Some x) = x.links

-- the marks of an atom: of its ports, then its own
abbrev pub marks_of : Option HeapAtom → List ℕ
marks_of None = []
marks_of (Some x) = x.marks

-- how many ports an atom has
abbrev pub arity_of : Heap → ℕ → ℕ
arity_of s a = length (partners_of (s.atoms a))

-- the port to which a port is joined
abbrev pub link_of : Heap → ℕ → ℕ → Option (ℕ × ℕ)
link_of s a i = slice_index_or (partners_of (s.atoms a)) i None

-- one mark of an atom
abbrev pub mark_of : Heap → ℕ → ℕ → ℕ
mark_of s a i = slice_index_or (marks_of (s.atoms a)) i 0

-- the membrane that a place names
abbrev pub home_by : Place → Option ℕ
home_by top = None
home_by (within m) = Some m
home_by waiting = None
home_by gone = None

-- where an atom is
abbrev pub place_of : Heap → ℕ → Option Place
place_of s a = option_map (λ x. x.place) (s.atoms a)

-- where a membrane is
abbrev pub mem_place_of : Heap → ℕ → Option Place
mem_place_of s m = option_map (λ x. x.place) (s.mems m)

-- the membrane in whose list an atom stands
abbrev pub home_of : Heap → ℕ → Option ℕ
home_of s a = option_and_then (λ x. home_by x.place) (s.atoms a)

-- the membrane in whose list a membrane stands
abbrev pub parent_of : Heap → ℕ → Option ℕ
parent_of s m = option_and_then (λ x. home_by x.place) (s.mems m)

-- the atom stands in a membrane's list
abbrev pub IsInPlace : Heap → ℕ → Type 0
IsInPlace s a = IsSome (home_of s a)

-- in a membrane's list, so not the root
abbrev pub IsPlacedMem : Heap → ℕ → Type 0
IsPlacedMem s m = IsSome (parent_of s m)

-- the place is that of the root or in a membrane's list
abbrev pub IsTopOrWithin : Option Place → Type 0
IsTopOrWithin None = ⊥
IsTopOrWithin (Some top) = Unit {0}
IsTopOrWithin (Some (within m)) = Unit {0}
IsTopOrWithin (Some waiting) = ⊥
IsTopOrWithin (Some gone) = ⊥

-- the root, or in a membrane's list
abbrev pub IsMemInPlace : Heap → ℕ → Type 0
IsMemInPlace s m = IsTopOrWithin (mem_place_of s m)

-- the atoms in a membrane, if there is one
abbrev pub atoms_by : Option HeapMem → List ℕ
atoms_by None = []
atoms_by (Some x) = x.atoms

-- the membranes in a membrane
abbrev pub mems_by : Option HeapMem → List ℕ
mems_by None = []
mems_by (Some x) = x.mems

-- the rules of a membrane, by number
abbrev pub rules_by : Option HeapMem → List ℕ
rules_by None = []
rules_by (Some x) = x.rules

-- the room that a membrane has for more rules
abbrev pub spare_by : Option HeapMem → ℕ
spare_by None = 0
spare_by (Some x) = x.spare

-- the mark of a membrane
abbrev pub mem_mark_by : Option HeapMem → ℕ
mem_mark_by None = 0
mem_mark_by (Some x) = x.mark

-- the atoms in the membrane of a number, in the order of its list
abbrev pub atoms_in : Heap → ℕ → List ℕ
atoms_in s m = atoms_by (s.mems m)

-- the membranes in it, in order
abbrev pub mems_in : Heap → ℕ → List ℕ
mems_in s m = mems_by (s.mems m)

-- its rules, in order
abbrev pub rules_in : Heap → ℕ → List ℕ
rules_in s m = rules_by (s.mems m)

-- the room that it has for more rules
abbrev pub spare_of : Heap → ℕ → ℕ
spare_of s m = spare_by (s.mems m)

-- its mark
abbrev pub mem_mark_of : Heap → ℕ → ℕ
mem_mark_of s m = mem_mark_by (s.mems m)

-- a port named by numbers
abbrev pub port_id : {A : Type 0} → (A → ℕ) → A × ℕ → ℕ × ℕ
port_id id p = (id p.0, p.1)

-- Changes of one item

-- an atom at a place
abbrev pub with_place : Place → HeapAtom → HeapAtom
with_place h x = record x { place = h }

-- an atom with a partner at a port, or none
abbrev pub with_link : ℕ → Option (ℕ × ℕ) → HeapAtom → HeapAtom
with_link i p x = record x { links = slice_set x.links i p }

-- an atom with another mark
abbrev pub with_mark : ℕ → ℕ → HeapAtom → HeapAtom
with_mark i v x = record x { marks = slice_set x.marks i v }

-- a membrane at a place
abbrev pub mem_with_place : Place → HeapMem → HeapMem
mem_with_place h x = record x { place = h }

-- a membrane with its list of atoms changed
abbrev pub mem_with_atoms : (List ℕ → List ℕ) → HeapMem → HeapMem
mem_with_atoms f x = record x { atoms = f x.atoms }

-- a membrane with its list of membranes changed
abbrev pub mem_with_mems : (List ℕ → List ℕ) → HeapMem → HeapMem
mem_with_mems f x = record x { mems = f x.mems }

-- a membrane with another mark
abbrev pub mem_with_mark : ℕ → HeapMem → HeapMem
mem_with_mark v x = record x { mark = v }

-- a membrane with this much room for more rules
abbrev pub mem_with_spare : ℕ → HeapMem → HeapMem
mem_with_spare n x = record x { spare = n }

-- rules at the end, taken from the spare ones
abbrev pub mem_with_rules : List ℕ → HeapMem → HeapMem
mem_with_rules ks x = record x { rules = x.rules ++ ks; spare = x.spare - length ks }

-- a new atom: detached, no port joined, every mark 0
abbrev pub new_atom : Functor → HeapAtom
new_atom f = record { functor = f; links = replicate f.arity None; marks = replicate (f.arity + 1) 0; place = waiting }

-- a new membrane: detached and empty, its mark 0
abbrev pub new_mem : HeapMem
new_mem = record { atoms = []; mems = []; rules = []; spare = 0; mark = 0; place = waiting }

-- The calls

-- a mark of an atom is set
abbrev pub marked : Heap → ℕ → ℕ → ℕ → Heap
marked s a slot v = record s { atoms = alter s.atoms a (option_map (with_mark slot v)) }

-- the mark of a membrane is set
abbrev pub mem_marked : Heap → ℕ → ℕ → Heap
mem_marked s m v = record s { mems = alter s.mems m (option_map (mem_with_mark v)) }

-- a detached atom more, last in the line
abbrev pub made_atom : Heap → ℕ → Functor → Heap
made_atom s a f = record s {
  atoms = alter s.atoms a (λ _. Some (new_atom f));
  new_atoms = s.new_atoms ++ a ∷ [];
}

-- a detached membrane more, last in the line
abbrev pub made_mem : Heap → ℕ → Heap
made_mem s m = record s {
  mems = alter s.mems m (λ _. Some new_mem);
  new_mems = s.new_mems ++ m ∷ [];
}

-- a membrane has room for so many more rules
abbrev pub reserved : Heap → ℕ → ℕ → Heap
reserved s m n = record s { mems = alter s.mems m (option_map (mem_with_spare n)) }

-- Freeing is by the place: an item stays unless it waits, or unless it is gone.
abbrev pub unless_waiting : HeapAtom → Option HeapAtom
unless_waiting x = elim x.place as (λ p. Option HeapAtom) [ top ↦ Some x | within m ↦ Some x | waiting ↦ None | gone ↦ Some x ]

abbrev pub unless_gone : HeapAtom → Option HeapAtom
unless_gone x = elim x.place as (λ p. Option HeapAtom) [ top ↦ Some x | within m ↦ Some x | waiting ↦ Some x | gone ↦ None ]

abbrev pub mem_unless_waiting : HeapMem → Option HeapMem
mem_unless_waiting x = elim x.place as (λ p. Option HeapMem) [ top ↦ Some x | within m ↦ Some x | waiting ↦ None | gone ↦ Some x ]

abbrev pub mem_unless_gone : HeapMem → Option HeapMem
mem_unless_gone x = elim x.place as (λ p. Option HeapMem) [ top ↦ Some x | within m ↦ Some x | waiting ↦ Some x | gone ↦ None ]

-- what is detached is freed
abbrev pub discarded : Heap → Heap
discarded s = record s {
  atoms = λ a. option_and_then unless_waiting (s.atoms a);
  mems = λ m. option_and_then mem_unless_waiting (s.mems m);
  new_atoms = [];
  new_mems = [];
}

-- what is taken is freed
abbrev pub finished : Heap → Heap
finished s = record s {
  atoms = λ a. option_and_then unless_gone (s.atoms a);
  mems = λ m. option_and_then mem_unless_gone (s.mems m);
}

-- the detached atom a goes to the end of m's atoms
abbrev pub placed : Heap → ℕ → ℕ → Heap
placed s m a = record s {
  atoms = alter s.atoms a (option_map (with_place (within m)));
  mems = alter s.mems m (option_map (mem_with_atoms (λ xs. xs ++ a ∷ [])));
  new_atoms = after a s.new_atoms;
}

-- the detached membrane n goes to the end of m's membranes
abbrev pub placed_mem : Heap → ℕ → ℕ → Heap
placed_mem s m n = record s {
  mems = alter (alter s.mems n (option_map (mem_with_place (within m)))) m (option_map (mem_with_mems (λ xs. xs ++ n ∷ [])));
  new_mems = after n s.new_mems;
}

-- an atom leaves the list of its home
abbrev pub atom_out : (ℕ → Option HeapMem) → Option ℕ → ℕ → ℕ → Option HeapMem
atom_out mems None a = mems
atom_out mems (Some m) a = alter mems m (option_map (mem_with_atoms (without a)))

-- a membrane leaves the list of its parent
abbrev pub mem_out : (ℕ → Option HeapMem) → Option ℕ → ℕ → ℕ → Option HeapMem
mem_out mems None n = mems
mem_out mems (Some m) n = alter mems m (option_map (mem_with_mems (without n)))

-- an atom is taken: it leaves its list and keeps its links
abbrev pub taken : Heap → ℕ → Heap
taken s a = record s {
  atoms = alter s.atoms a (option_map (with_place gone));
  mems = atom_out s.mems (home_of s a) a;
}

-- a membrane is taken: it leaves its list and keeps what stands in it
abbrev pub taken_mem : Heap → ℕ → Heap
taken_mem s n = record s {
  mems = alter (mem_out s.mems (parent_of s n) n) n (option_map (mem_with_place gone));
}

-- what stood in one membrane stands in another
abbrev pub sent : ℕ → ℕ → Place → Place
sent m n top = top
sent m n (within k) = if k == m then within n else within k
sent m n waiting = waiting
sent m n gone = gone

-- an atom whose home m becomes n
abbrev pub atom_sent : ℕ → ℕ → HeapAtom → HeapAtom
atom_sent m n x = record x { place = sent m n x.place }

-- a membrane whose parent m becomes n
abbrev pub mem_sent : ℕ → ℕ → HeapMem → HeapMem
mem_sent m n x = record x { place = sent m n x.place }

-- a membrane in which nothing stands
abbrev pub emptied : HeapMem → HeapMem
emptied x = record x { atoms = []; mems = [] }

-- a membrane with these atoms and membranes more
abbrev pub filled : List ℕ → List ℕ → HeapMem → HeapMem
filled xs ys x = record x { atoms = x.atoms ++ xs; mems = x.mems ++ ys }

-- what stands in m goes to the ends of the lists of n
abbrev pub moved_all : Heap → ℕ → ℕ → Heap
moved_all s m n = record s {
  atoms = λ a. option_map (atom_sent m n) (s.atoms a);
  mems = λ k. option_map (mem_sent m n) (alter (alter s.mems m (option_map emptied)) n (option_map (filled (atoms_in s m) (mems_in s m))) k);
}

-- a rule more in a membrane
abbrev pub rule_added : Heap → ℕ → ℕ → Heap
rule_added s m k = record s { mems = alter s.mems m (option_map (mem_with_rules (k ∷ []))) }

-- the rules of m also go to the end of those of n
abbrev pub rules_copied : Heap → ℕ → ℕ → Heap
rules_copied s m n = record s { mems = alter s.mems n (option_map (mem_with_rules (rules_in s m))) }

-- a port with this partner
abbrev pub linked : (ℕ → Option HeapAtom) → ℕ → ℕ → Option (ℕ × ℕ) → ℕ → Option HeapAtom
linked atoms a i p = alter atoms a (option_map (with_link i p))

-- the former partner of a port has none
abbrev pub cleared : (ℕ → Option HeapAtom) → Option (ℕ × ℕ) → ℕ → Option HeapAtom
cleared atoms None = atoms
cleared atoms (Some p) = linked atoms p.0 p.1 None

-- The ports (a, i) and (b, j) become partners; a former partner of either has none.
abbrev pub joined : Heap → ℕ → ℕ → ℕ → ℕ → Heap
joined s a i b j = record s {
  atoms = linked (linked (cleared (cleared s.atoms (link_of s a i)) (link_of s b j)) a i (Some (b, j))) b j (Some (a, i));
}

-- nothing but the root, which is the membrane 0
abbrev pub lone_root : Heap
lone_root = record {
  root = 0;
  atoms = λ _. None;
  mems = alter (λ _. None) 0 (λ _. Some (mem_with_place top new_mem));
  new_atoms = [];
  new_mems = [];
}

-- every mark of a port is 0
abbrev pub PortsUnmarked : Heap → Type 0
PortsUnmarked s = (a i : ℕ) → i < arity_of s a → mark_of s a i ≡ 0

-- every mark of an atom is 0
abbrev pub Unmarked : Heap → Type 0
Unmarked s = (a i : ℕ) → mark_of s a i ≡ 0

-- the own mark of an atom
abbrev pub own_mark : Heap → ℕ → ℕ
own_mark s a = mark_of s a (arity_of s a)

-- these atoms are taken, one after the other
abbrev pub taken_all : Heap → List ℕ → Heap
taken_all s [] = s
taken_all s (a ∷ xs) = taken_all (taken s a) xs
