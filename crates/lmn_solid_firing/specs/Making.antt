-- What a firing makes, part by part.
use Rattle.std.specs.Prelude.{ℕ, ℤ, ◌≡◌, Bool, true, false, ◌+◌, ◌==◌, if◌then◌else◌, List, [], ◌∷◌, ◌++◌, map, flat_map, length, Option, Some, None}
use Rattle.std.specs.List.{AllByRecursion}
use Rattle.lmn_base.specs.Lists.{In}
use Rattle.lmn_base.specs.Solids.{connector}
use Rattle.lmn_base.specs.declared.functor.Functor.{Functor}
use Rattle.lmn_base.specs.declared.level.CtxUse.{CtxUse}
use Rattle.lmn_base.specs.declared.level.Leaf.{Leaf}
use Rattle.lmn_base.specs.declared.level.Leaf.TheVariants as leaf
use Rattle.lmn_base.specs.declared.level.Level.{Level}
use Rattle.lmn_base.specs.declared.level.Level.TheOpen.{Level-F}
use Rattle.lmn_base.specs.declared.level.Level.TheFolds.{fold-Level}
use Rattle.lmn_base.specs.declared.solid.SolidAtom.{SolidAtom}
use Rattle.lmn_solid_bodies.specs.Flattening.{membrane_named}
use Rattle.lmn_solid_bodies.specs.Running.{integer_functor}
use Rattle.lmn_store_heap.specs.Functors.{same_functor}
use Rattle.lmn_store_heap.specs.Heap.{Heap, IsAtom, IsMem, atoms_in, mems_in, rules_in}
use Rattle.lmn_store_heap.specs.Solid.{solid_atoms_at}
use Rattle.lmn_store_heap.specs.Sound.{Forest, bare, mem, Forms}
use Rattle.lmn_ground_parts.specs.Walks.{is_in}
use Rattle.lmn_solid_settle.specs.Raw.{RawRegion, RawRegions, no_raw, raw, raw_and, laid, settled_atom, size}
use Rattle.lmn_solid_settle.specs.declared.settling.RawMembrane.{RawMembrane}
use Rattle.lmn_solid_tables.specs.Flats.{heap_of, link_at}
use Rattle.lmn_solid_tables.specs.declared.flat.Flat.{Flat}
use Rattle.lmn_solid_firing.specs.declared.match_.Match.{Match}
use Rattle.lmn_solid_firing.specs.declared.match_.Part.{Part}
use Rattle.lmn_solid_firing.specs.declared.writing.Writing.{Writing}
use Rattle.lmn_solid_firing.specs.declared.writing.Writing.TheVariants.{Shifted, Rooted}

-- ---- links and atoms

-- what a link is written as
abbrev pub written : Writing → ℕ → ℕ
written (Shifted by) y = by + y
written (Rooted root link by) y = if y == root then link else by + y

-- atoms of the solid, their links written
abbrev pub written_atoms : Flat → Writing → List ℕ → List SolidAtom
written_atoms flat w xs = map (settled_atom (written w)) (solid_atoms_at (heap_of flat) (link_at flat) xs)

-- the numbers of a list that aren't in another one
abbrev pub left_of : List ℕ → List ℕ → List ℕ
left_of taken [] = []
left_of taken (x ∷ xs) = if is_in taken x then left_of taken xs else (x ∷ left_of taken xs)

-- ---- membranes

-- a membrane with its atoms and rules
abbrev pub lone : Flat → Writing → ℕ → ℕ → RawMembrane
lone flat w around m = record { around = around; atoms = written_atoms flat w (atoms_in (heap_of flat) m); rules = rules_in (heap_of flat) m }

-- the membranes of a forest with all that stands in them
abbrev pub raws_at : Flat → Writing → Forest → RawRegions
raws_at flat w bare = no_raw
raws_at flat w (mem m inner rest) = raw_and (raw (written_atoms flat w (atoms_in (heap_of flat) m)) (raws_at flat w inner) (rules_in (heap_of flat) m)) (raws_at flat w rest)

-- membranes with the number of the one around them, the last one first
abbrev pub entered : ℕ → List ℕ → List (ℕ × ℕ)
entered around [] = []
entered around (m ∷ ms) = entered around ms ++ (m, around) ∷ []

-- ---- what a match names is there

-- the atoms of a part are atoms
abbrev pub HasAtoms : Heap → Part → Type 0
HasAtoms h p = (a : ℕ) → In a p.atoms → IsAtom h a

-- names stand for membranes that are there
abbrev pub AreThere : Heap → List (ℕ × ℕ) → Type 0
AreThere h names = AllByRecursion (λ e. IsMem h e.1) names

pub record IsReadyFor (flat : Flat) (t : Match) : Type 0 where
  pub parts : AllByRecursion (HasAtoms (heap_of flat)) t.parts
  pub contexts : AreThere (heap_of flat) t.contexts
  pub rule_contexts : AreThere (heap_of flat) t.rule_contexts

-- the membranes that a head leaves of each membrane are these forests
abbrev pub LeftForms : Flat → Match → (ℕ → Forest) → Type 0
LeftForms flat t left = (x : ℕ) → IsMem (heap_of flat) x → Forms (heap_of flat) (left x) (left_of t.membranes (mems_in (heap_of flat) x))

-- ---- leaves

-- an atom of a body, unless it is a connector
abbrev pub body_atom : Bool → Functor → List ℕ → List SolidAtom
body_atom true functor (x ∷ y ∷ []) = []
body_atom _ functor links = (record { functor = functor; links = links }) ∷ []

-- the connector, if it is one
abbrev pub pair_of : Bool → List ℕ → List (ℕ × ℕ)
pair_of true (x ∷ y ∷ []) = (x, y) ∷ []
pair_of _ links = []

-- the integer to which a name is bound, held by a link
abbrev pub integer_atoms : List (ℕ × ℤ) → ℕ → ℕ → List SolidAtom
integer_atoms [] name link = []
integer_atoms (e ∷ es) name link = if e.0 == name then (record { functor = integer_functor e.1; links = link ∷ [] }) ∷ [] else integer_atoms es name link

-- a copy of the part of a typed context of the head, held by a link, or else an integer
abbrev pub typed_atoms : Flat → List Part → List (ℕ × ℤ) → ℕ → ℕ → ℕ → List SolidAtom
typed_atoms flat [] integers name link next = integer_atoms integers name link
typed_atoms flat (p ∷ ps) integers name link next =
    if p.name == name then written_atoms flat (Rooted p.link link next) p.atoms else typed_atoms flat ps integers name link next

-- where the links of the copy behind it are
abbrev pub typed_next : ℕ → List Part → ℕ → ℕ → ℕ
typed_next links [] name next = next
typed_next links (p ∷ ps) name next = if p.name == name then next + links else typed_next links ps name next

abbrev pub leaf_atoms : Flat → Match → ℕ → Leaf → List SolidAtom
leaf_atoms flat t next (leaf.Atom functor links pos) = body_atom (same_functor functor connector) functor (map (λ o. t.links + o.link) links)
leaf_atoms flat t next (leaf.Typed name o pos) = typed_atoms flat t.parts t.integers name (t.links + o.link) next

abbrev pub leaf_next : Match → Leaf → ℕ → ℕ
leaf_next t (leaf.Atom functor links pos) next = next
leaf_next t (leaf.Typed name o pos) next = typed_next t.links t.parts name next

abbrev pub leaves_atoms : Flat → Match → ℕ → List Leaf → List SolidAtom
leaves_atoms flat t next [] = []
leaves_atoms flat t next (x ∷ xs) = leaf_atoms flat t next x ++ leaves_atoms flat t (leaf_next t x next) xs

abbrev pub leaves_next : Match → List Leaf → ℕ → ℕ
leaves_next t [] next = next
leaves_next t (x ∷ xs) next = leaves_next t xs (leaf_next t x next)

-- the connectors among leaves
abbrev pub leaf_pairs : Match → Leaf → List (ℕ × ℕ)
leaf_pairs t (leaf.Atom functor links pos) = pair_of (same_functor functor connector) (map (λ o. t.links + o.link) links)
leaf_pairs t (leaf.Typed name o pos) = []

abbrev pub pairs_of : Match → List Leaf → List (ℕ × ℕ)
pairs_of t [] = []
pairs_of t (x ∷ xs) = leaf_pairs t x ++ pairs_of t xs

-- ---- contexts

-- how the links of what an untyped context stands for are written: those of a closed one from a number of their own
abbrev pub context_writing : Bool → ℕ → Writing
context_writing true next = Shifted next
context_writing false next = Shifted 0

abbrev pub context_next : ℕ → Bool → ℕ → ℕ
context_next links true next = next + links
context_next links false next = next

abbrev pub contexts_next : ℕ → List CtxUse → ℕ → ℕ
contexts_next links [] next = next
contexts_next links (u ∷ us) next = contexts_next links us (context_next links u.closed next)

-- the atoms for which untyped contexts stand
abbrev pub context_atoms : Flat → Match → ℕ → List CtxUse → List SolidAtom
context_atoms flat t next [] = []
context_atoms flat t next (u ∷ us) =
    written_atoms flat (context_writing u.closed next) (left_of t.atoms (atoms_in (heap_of flat) (membrane_named t.contexts u.name)))
    ++ context_atoms flat t (context_next t.links u.closed next) us

abbrev pub raws_append : RawRegions → RawRegions → RawRegions
raws_append no_raw ns = ns
raws_append (raw_and m ms) ns = raw_and m (raws_append ms ns)

-- and the membranes
abbrev pub context_membranes : Flat → Match → (ℕ → Forest) → ℕ → List CtxUse → RawRegions
context_membranes flat t left next [] = no_raw
context_membranes flat t left next (u ∷ us) =
    raws_append (raws_at flat (context_writing u.closed next) (left (membrane_named t.contexts u.name))) (context_membranes flat t left (context_next t.links u.closed next) us)

-- the rules for which rule contexts stand
abbrev pub rules_named : Flat → Match → List CtxUse → List ℕ
rules_named flat t [] = []
rules_named flat t (u ∷ us) = rules_in (heap_of flat) (membrane_named t.rule_contexts u.name) ++ rules_named flat t us

-- ---- levels

-- What a level makes, where the next copy has its links from a number on.
--   atoms       its own, those of its untyped contexts included
--   start, own  where the copies of its untyped contexts begin, and where the copies in its membranes do
--   rules       its own
--   membranes   given these two numbers
--   after       where the copies behind the level begin, given the second
pub record LevelMade : Type 0 where
  pub atoms : ℕ → List SolidAtom
  pub start : ℕ → ℕ
  pub own : ℕ → ℕ
  pub rules : List ℕ
  pub membranes : ℕ → ℕ → RawRegions
  pub after : ℕ → ℕ

-- a membrane with these lists, and its row in the table
abbrev pub level_region : LevelMade → ℕ → RawRegion
level_region b next = raw (b.atoms next) (b.membranes (b.start next) (b.own next)) b.rules

abbrev pub level_row : ℕ → LevelMade → ℕ → RawMembrane
level_row around b next = record { around = around; atoms = b.atoms next; rules = b.rules }

-- membranes one behind the other
abbrev pub made_membranes : ℕ → List LevelMade → RawRegions
made_membranes next [] = no_raw
made_membranes next (b ∷ bs) = raw_and (level_region b next) (made_membranes (b.after (b.own next)) bs)

abbrev pub after_membranes : ℕ → List LevelMade → ℕ
after_membranes next [] = next
after_membranes next (b ∷ bs) = after_membranes (b.after (b.own next)) bs

abbrev pub level_step : Flat → Match → (ℕ → Forest) → Level-F LevelMade → LevelMade
level_step flat t left l = record {
  atoms = λ next. leaves_atoms flat t next l.leaves ++ context_atoms flat t (leaves_next t l.leaves next) l.contexts;
  start = λ next. leaves_next t l.leaves next;
  own = λ next. contexts_next t.links l.contexts (leaves_next t l.leaves next);
  rules = l.rules ++ rules_named flat t l.rule_contexts;
  membranes = λ start next. raws_append (made_membranes next l.membranes) (context_membranes flat t left start l.contexts);
  after = λ next. after_membranes next l.membranes;
}

abbrev pub level_made : Flat → Match → (ℕ → Forest) → Level → LevelMade
level_made flat t left = fold-Level LevelMade (level_step flat t left)

-- the connectors of a level
abbrev pub level_pairs : Match → Level → List (ℕ × ℕ)
level_pairs t = fold-Level (List (ℕ × ℕ)) (λ l. pairs_of t l.leaves ++ flat_map (λ inner. inner) l.membranes)

-- ---- the whole region

-- the membrane in which the rule fires: what the head leaves, and then what the body makes
abbrev pub home_row : Flat → Match → ℕ → LevelMade → ℕ → RawMembrane
home_row flat t around b next = record {
  around = around;
  atoms = written_atoms flat (Shifted 0) (left_of t.atoms (atoms_in (heap_of flat) t.home)) ++ b.atoms next;
  rules = rules_in (heap_of flat) t.home ++ b.rules;
}

abbrev pub home_region : Flat → Match → (ℕ → Forest) → LevelMade → ℕ → RawRegion
home_region flat t left b next =
    raw (written_atoms flat (Shifted 0) (left_of t.atoms (atoms_in (heap_of flat) t.home)) ++ b.atoms next)
    (raws_append (raws_at flat (Shifted 0) (left t.home)) (b.membranes (b.start next) (b.own next)))
    (rules_in (heap_of flat) t.home ++ b.rules)

-- the membranes of a forest, and a membrane with them in it, where one membrane is another region
abbrev pub fired_regions : Flat → ℕ → RawRegion → Forest → RawRegions
fired_regions flat home made bare = no_raw
fired_regions flat home made (mem m inner rest) =
    raw_and (if m == home then made else raw (written_atoms flat (Shifted 0) (atoms_in (heap_of flat) m)) (fired_regions flat home made inner) (rules_in (heap_of flat) m)) (fired_regions flat home made rest)

abbrev pub fired_region : Flat → ℕ → RawRegion → ℕ → Forest → RawRegion
fired_region flat home made m inner =
    if m == home then made else raw (written_atoms flat (Shifted 0) (atoms_in (heap_of flat) m)) (fired_regions flat home made inner) (rules_in (heap_of flat) m)

-- where the copies of a body end, if it has been made
abbrev pub Ends : Flat → Match → (ℕ → Forest) → Level → ℕ → Option ℕ → Type 0
Ends flat t left body start None = Unit {0}
Ends flat t left body start (Some end) = end ≡ (level_made flat t left body).after ((level_made flat t left body).own start)

-- What a firing makes: the table of the region, the connectors of the head and then those of the body, and a number above those of all
-- links. The copies have their links from `start` on.
pub record IsMade (flat : Flat) (t : Match) (left : ℕ → Forest) (inner : Forest) (body : Level) (start : ℕ) (wires : List (ℕ × ℕ)) (rows : List RawMembrane) (pairs : List (ℕ × ℕ)) (links : ℕ) : Type 0 where
  pub membranes : rows ≡ laid 0 0 (fired_region flat t.home (home_region flat t left (level_made flat t left body) start) 0 inner)
  pub connectors : pairs ≡ wires ++ level_pairs t body
  pub bound : links ≡ (level_made flat t left body).after ((level_made flat t left body).own start)

-- ---- the stack

-- what waits adds to the table: the last one first
abbrev pub pending_size : List (RawRegion × ℕ) → ℕ
pending_size [] = 0
pending_size (w ∷ ws) = pending_size ws + size w.0

abbrev pub pending : List (RawRegion × ℕ) → ℕ → List RawMembrane
pending [] n = []
pending (w ∷ ws) n = pending ws n ++ laid w.1 (n + pending_size ws) w.0

-- regions stand for membranes on the stack, each with the same number around it
abbrev pub Stand : (ℕ → RawRegion → Type 0) → List (ℕ × ℕ) → List (RawRegion × ℕ) → Type 0
Stand P [] [] = Unit {0}
Stand P [] (w ∷ ws) = ⊥
Stand P (e ∷ es) [] = ⊥
Stand P (e ∷ es) (w ∷ ws) = P e.0 w.0 × (e.1 ≡ w.1) × Stand P es ws

-- a region is this membrane after the firing
abbrev pub IsFired : Flat → ℕ → RawRegion → ℕ → RawRegion → Type 0
IsFired flat home made m R = (inner : Forest) × Forms (heap_of flat) inner (mems_in (heap_of flat) m) × (R ≡ fired_region flat home made m inner)

-- the rows and what waits are the whole table
abbrev pub WaitsFor : Flat → ℕ → RawRegion → List RawMembrane → List (ℕ × ℕ) → List RawMembrane → Type 0
WaitsFor flat home made rows es all = (ws : List (RawRegion × ℕ)) × Stand (IsFired flat home made) es ws × (rows ++ pending ws (length rows) ≡ all)
