-- What the code of a body means on a heap.
--
-- Code runs twice. First all that it makes is made, and waits: only this takes memory, so it may be given up and
-- nothing has changed. Then the instructions do the rest in their order, and can't fail: taking out, placing what waits,
-- moving, tying, freeing.
use Rattle.std.specs.Prelude.{ℕ, ℤ, ◌≡◌, ◌↔◌, List, [], ◌∷◌, ◌++◌, map, None, Some}
use Rattle.lmn_base.specs.declared.functor.Functor.{Functor}
use Rattle.lmn_base.specs.declared.functor.Label.TheVariants.{Int}
use Rattle.lmn_base.specs.Graphs.{Reached, Port}
use Rattle.lmn_store_heap.specs.Heap.{Heap, Distinct, from, made_atom, made_mem, reserved, taken, taken_mem, placed, placed_mem, moved_all, rule_added, rules_copied, finished, taken_all}
use Rattle.lmn_store_heap.specs.Graphs.{atom_map}
use Rattle.lmn_ground_parts.specs.Copies.{Copied}
use Rattle.lmn_ground_parts.specs.Rests.{CopyWaits, IsContent, RestCopied, rest_placed, rest_taken}
use Rattle.lmn_congruence_splice.specs.Ties.{newlink, relink, unify}
use Rattle.lmn_instr_code.specs.declared.instr.AtomPort.{AtomPort}
use Rattle.lmn_instr_code.specs.declared.instr.NewPort.{NewPort}
use Rattle.lmn_instr_code.specs.declared.instr.NewPort.TheVariants as new
use Rattle.lmn_instr_code.specs.declared.instr.Instr.{Instr}
use Rattle.lmn_instr_code.specs.Running.{HeadRegisters, port_of}
use Rattle.lmn_instr_code.specs.declared.instr.Instr.TheVariants.{RemoveAtom, RemovePart, RemoveMem, NewAtom, NewInt, NewMem, CopyGround, MoveCells, CopyCells, LoadRule, CopyRules, DropCells, NewLink, Relink, Unify, Proceed}
use Rattle.lmn_solid_bodies.specs.Tied.{tied}
use Rattle.lmn_base.specs.Lists.{In}

-- What the registers hold. Each is set once, so code is read with all of them at once.
--   head      those of head code: atoms, membranes, typed contexts and integers. On from the atoms and membranes of the
--             head they hold those that the body makes
--   copy      the root port of each copy
--   copied    its atoms, in the order of their line, which is the depth-first order of the part
--   left_atoms, left_membranes    what is left in each membrane of the head, at every depth, in the order of a rest
pub record Registers : Type 0 where
  pub head : HeadRegisters
  pub copy : ℕ → Port
  pub copied : ℕ → List ℕ
  pub left_atoms : ℕ → List ℕ
  pub left_membranes : ℕ → List ℕ

abbrev pub old_port : Registers → AtomPort → Port
old_port r p = port_of r.head p

abbrev pub new_port : Registers → NewPort → Port
new_port r (new.Atom p) = (r.head.images.atom p.atom, p.port)
new_port r (new.Copy c) = r.copy c

-- the functor of an integer atom
abbrev pub integer_functor : ℤ → Functor
integer_functor z = record { label = Int z; arity = 1 }

-- atoms of the line go to membranes: each pair is a membrane and an atom
abbrev pub all_placed : Heap → List (ℕ × ℕ) → Heap
all_placed s [] = s
all_placed s (e ∷ es) = all_placed (placed s e.0 e.1) es

-- A copy of the part that is entered at a port: its root port, and its atoms, which wait at the end of the line in the
-- depth-first order of the part.
abbrev pub IsCopied : Heap → Port → Port → List ℕ → Heap → Type 0
IsCopied s root copy atoms t = (c : Copied s t root copy) × (c.copies ≡ atoms)

-- A copy of what is left in a membrane of the head: its atoms and membranes wait.
abbrev pub IsRestCopied : Registers → ℕ → Heap → Heap → Type 0
IsRestCopied r m s t = (copies : List ℕ) × (rooms : List (ℕ × ℕ)) × RestCopied s t (r.left_atoms m) (r.left_membranes m) copies rooms

-- It is what is left in the membrane, and its copy, which is first in the lines, goes to another membrane.
abbrev pub IsRestPlaced : Registers → ℕ → ℕ → Heap → Heap → Type 0
IsRestPlaced r m n s t =
    let from = r.head.images.membrane m in
    let to = r.head.images.membrane n in
    (copies : List ℕ) × (new_membranes : List ℕ) × CopyWaits s from to (r.left_atoms m) (r.left_membranes m) copies new_membranes
    × (t ≡ rest_placed s from to (r.left_atoms m) (r.left_membranes m) copies new_membranes)

-- What an instruction makes, where it makes something; those of a head are of no body.
abbrev pub Makes : Registers → Instr → Heap → Heap → Type 0
Makes r (RemoveAtom a) s t = t ≡ s
Makes r (RemovePart g) s t = t ≡ s
Makes r (RemoveMem m) s t = t ≡ s
Makes r (NewAtom a m f) s t = (s.atoms (r.head.images.atom a) ≡ None) × (t ≡ made_atom s (r.head.images.atom a) f)
Makes r (NewInt a m v) s t = (s.atoms (r.head.images.atom a) ≡ None) × (t ≡ made_atom s (r.head.images.atom a) (integer_functor (r.head.integer v)))
Makes r (NewMem m n) s t = (s.mems (r.head.images.membrane m) ≡ None) × (t ≡ made_mem s (r.head.images.membrane m))
Makes r (CopyGround c m g) s t = IsCopied s (r.head.images.part g) (r.copy c) (r.copied c) t
Makes r (MoveCells m n) s t = t ≡ s
Makes r (CopyCells m n) s t = IsRestCopied r m s t
Makes r (LoadRule m k) s t = (n : ℕ) × (t ≡ reserved s (r.head.images.membrane m) n)
Makes r (CopyRules m n) s t = (k : ℕ) × (t ≡ reserved s (r.head.images.membrane n) k)
Makes r (DropCells m) s t = t ≡ s
Makes r (NewLink p q) s t = t ≡ s
Makes r (Relink p h) s t = t ≡ s
Makes r (Unify g h) s t = t ≡ s
Makes r Proceed s t = t ≡ s
Makes r _ s t = ⊥

-- What an instruction does when all is made.
abbrev pub Does : Registers → Instr → Heap → Heap → Type 0
Does r (RemoveAtom a) s t = t ≡ taken s (r.head.images.atom a)
Does r (RemovePart g) s t =
    (ns : List ℕ) × Distinct ns × ((b : ℕ) → In b ns ↔ Reached (atom_map s) (r.head.images.part g) b) × (t ≡ taken_all s ns)
Does r (RemoveMem m) s t = t ≡ taken_mem s (r.head.images.membrane m)
Does r (NewAtom a m f) s t = (from (Some (r.head.images.atom a)) s.new_atoms ≡ s.new_atoms) × (t ≡ placed s (r.head.images.membrane m) (r.head.images.atom a))
Does r (NewInt a m v) s t = (from (Some (r.head.images.atom a)) s.new_atoms ≡ s.new_atoms) × (t ≡ placed s (r.head.images.membrane m) (r.head.images.atom a))
Does r (NewMem m n) s t = (from (Some (r.head.images.membrane m)) s.new_mems ≡ s.new_mems) × (t ≡ placed_mem s (r.head.images.membrane n) (r.head.images.membrane m))
Does r (CopyGround c m g) s t =
    (rest : List ℕ) × (s.new_atoms ≡ r.copied c ++ rest) × (t ≡ all_placed s (map (λ a. (r.head.images.membrane m, a)) (r.copied c)))
Does r (MoveCells m n) s t = t ≡ moved_all s (r.head.images.membrane m) (r.head.images.membrane n)
Does r (CopyCells m n) s t = IsRestPlaced r m n s t
Does r (LoadRule m k) s t = t ≡ rule_added s (r.head.images.membrane m) k
Does r (CopyRules m n) s t = t ≡ rules_copied s (r.head.images.membrane m) (r.head.images.membrane n)
Does r (DropCells m) s t =
    IsContent s (r.head.images.membrane m) (r.left_atoms m) (r.left_membranes m) × (t ≡ rest_taken s (r.left_atoms m) (r.left_membranes m))
Does r (NewLink p q) s t = t ≡ tied s (newlink (new_port r p) (new_port r q))
Does r (Relink p h) s t = t ≡ tied s (relink (new_port r p) (old_port r h))
Does r (Unify g h) s t = t ≡ tied s (unify (old_port r g) (old_port r h))
Does r Proceed s t = t ≡ finished s
Does r _ s t = ⊥

-- what the instructions of code make, one after the other
abbrev pub Prepares : Registers → List Instr → Heap → Heap → Type 0
Prepares r [] s t = t ≡ s
Prepares r (i ∷ is) s u = (t : Heap) × Makes r i s t × Prepares r is t u

-- what the instructions of code do, one after the other
abbrev pub DoesAll : Registers → List Instr → Heap → Heap → Type 0
DoesAll r [] s t = t ≡ s
DoesAll r (i ∷ is) s u = (t : Heap) × Does r i s t × DoesAll r is t u

-- the code of a body run with these registers
abbrev pub RunsBody : Registers → List Instr → Heap → Heap → Type 0
RunsBody r code s u = (t : Heap) × Prepares r code s t × DoesAll r code t u
