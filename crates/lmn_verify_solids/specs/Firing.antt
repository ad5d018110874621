-- What the commit of a code leaves of a graph: its atoms and membranes keep their numbers, and what the body makes has new ones.
use Rattle.std.specs.Prelude.{ℕ, ◌≡◌, ◌≢◌, ◌<◌, ◌+◌, ◌↔◌, ◌⊎◌, List, [], ◌∷◌, ◌++◌, flat_map, length, map, None, Some, IsSome, true}
use Rattle.std.specs.List.{AllByRecursion}
use Rattle.lmn_base.specs.declared.solid.Region.{Region}
use Rattle.lmn_base.specs.Graphs.{Reached, Port}
use Rattle.lmn_base.specs.Lists.{In}
use Rattle.lmn_store_heap.specs.Lists.{Distinct, without_all}
use Rattle.lmn_ground_parts.specs.Copies.{answer, moved}
use Rattle.lmn_ground_parts.specs.Walks.{FoundInside}
use Rattle.lmn_congruence_splice.specs.Classes.{rising}
use Rattle.lmn_instr_code.specs.declared.instr.Code.{Code}
use Rattle.lmn_instr_code.specs.declared.instr.Instr.{Instr}
use Rattle.lmn_instr_code.specs.declared.instr.Instr.TheVariants.{NewAtom, NewInt, NewMem, CopyGround, MoveCells, CopyCells, LoadRule, CopyRules, DropCells, NewLink, Relink, Unify}
use Rattle.lmn_instr_code.specs.Running.{HeadRegisters, atoms_set, membranes_set}
use Rattle.lmn_solid_bodies.specs.Added.{if_inside}
use Rattle.lmn_solid_bodies.specs.RestCopies.{RestCopies, RestCopy, copied_atom, copied_into, copied_membrane, given, later, rest_membranes}
use Rattle.lmn_solid_bodies.specs.Running.{Registers, integer_functor, new_port, old_port}
use Rattle.lmn_verify_solids.specs.Graphs.{Graph, IsPort, Stand, net}
use Rattle.lmn_verify_solids.specs.Heads.{parts_set}

-- ---- what a head takes and leaves

-- an atom is in a register of atoms that head code sets, or in one of its parts
abbrev pub IsTaken : Graph → List Instr → HeadRegisters → ℕ → Type 0
IsTaken g head r a = ((k : ℕ) × (k < atoms_set head) × (r.images.atom k ≡ a)) ⊎ ((x : ℕ) × (x < parts_set head) × Reached g.map (r.images.part x) a)

-- these are the membranes of a list and those in them, in preorder
abbrev pub AreWithin : Graph → List ℕ → List ℕ → Type 0
AreWithin g ms all = (rs : List Region) × Stand g (λ a i. 0) ms all rs

-- the membranes that head code has found
abbrev pub found : List Instr → Registers → List ℕ
found head r = map r.head.images.membrane (rising 1 (membranes_set head))

-- These are the atoms that the head takes, and the registers hold the rest of each membrane that it sets: its atoms that aren't taken, and its
-- membranes in no register, with all that is in these.
pub record LeavesRests (g : Graph) (head : List Instr) (r : Registers) (taken : List ℕ) : Type 0 where
  pub takes : (a : ℕ) → In a taken ↔ IsTaken g head r.head a
  pub membranes : (m : ℕ) → m < 1 + membranes_set head → AreWithin g (without_all (r.head.images.membrane 0 ∷ found head r) (g.membranes (r.head.images.membrane m))) (r.left_membranes m)
  pub once : (m : ℕ) → m < 1 + membranes_set head → Distinct (rest_membranes r m)
  pub atoms : (m : ℕ) → m < 1 + membranes_set head →
      r.left_atoms m ≡ without_all taken (g.atoms (r.head.images.membrane m)) ++ flat_map g.atoms (r.left_membranes m)

-- what is left in the membranes that a body drops
abbrev pub dropped : (ℕ → List ℕ) → List Instr → List ℕ
dropped left [] = []
dropped left (DropCells m ∷ is) = left m ++ dropped left is
dropped left (_ ∷ is) = dropped left is

-- the membranes that are there no more: those that the head has found, and those that the body drops
abbrev pub removed : Code → Registers → List ℕ
removed code r = found code.head r ++ dropped r.left_membranes code.body

-- ---- what a body makes

-- What membrane x gets, in the order of the instructions: atoms, where `left` is left in each membrane,
abbrev pub added_atoms : Registers → (ℕ → List ℕ) → RestCopies → List Instr → ℕ → List ℕ
added_atoms r left q [] x = []
added_atoms r left q (NewAtom a m f ∷ is) x = if_inside r x m (r.head.images.atom a ∷ []) ++ added_atoms r left q is x
added_atoms r left q (NewInt a m v ∷ is) x = if_inside r x m (r.head.images.atom a ∷ []) ++ added_atoms r left q is x
added_atoms r left q (CopyGround c m p ∷ is) x = if_inside r x m (r.copied c) ++ added_atoms r left q is x
added_atoms r left q (MoveCells m n ∷ is) x = if_inside r x n (left (r.head.images.membrane m)) ++ added_atoms r left q is x
added_atoms r left q (CopyCells m n ∷ is) x =
    given (λ k. map (copied_atom r m (q 0)) (left k)) (copied_into r m n (q 0)) (rest_membranes r m) x ++ added_atoms r left (later q) is x
added_atoms r left q (_ ∷ is) x = added_atoms r left q is x

-- membranes,
abbrev pub added_membranes : Registers → (ℕ → List ℕ) → RestCopies → List Instr → ℕ → List ℕ
added_membranes r left q [] x = []
added_membranes r left q (NewMem m n ∷ is) x = if_inside r x n (r.head.images.membrane m ∷ []) ++ added_membranes r left q is x
added_membranes r left q (MoveCells m n ∷ is) x = if_inside r x n (left (r.head.images.membrane m)) ++ added_membranes r left q is x
added_membranes r left q (CopyCells m n ∷ is) x =
    given (λ k. map (copied_membrane r m (q 0)) (left k)) (copied_into r m n (q 0)) (rest_membranes r m) x ++ added_membranes r left (later q) is x
added_membranes r left q (_ ∷ is) x = added_membranes r left q is x

-- and rules, where `rules` stand in each membrane
abbrev pub added_rules : Registers → (ℕ → List ℕ) → RestCopies → List Instr → ℕ → List ℕ
added_rules r rules q [] x = []
added_rules r rules q (LoadRule m k ∷ is) x = if_inside r x m (k ∷ []) ++ added_rules r rules q is x
added_rules r rules q (CopyRules m n ∷ is) x = if_inside r x n (rules (r.head.images.membrane m)) ++ added_rules r rules q is x
added_rules r rules q (CopyCells m n ∷ is) x = given rules (copied_into r m n (q 0)) (r.left_membranes m) x ++ added_rules r rules (later q) is x
added_rules r rules q (_ ∷ is) x = added_rules r rules q is x

-- the atoms and the membranes that are made
abbrev pub new_atoms : Registers → RestCopies → List Instr → List ℕ
new_atoms r q [] = []
new_atoms r q (NewAtom a m f ∷ is) = r.head.images.atom a ∷ new_atoms r q is
new_atoms r q (NewInt a m v ∷ is) = r.head.images.atom a ∷ new_atoms r q is
new_atoms r q (CopyGround c m p ∷ is) = r.copied c ++ new_atoms r q is
new_atoms r q (CopyCells m n ∷ is) = (q 0).atoms ++ new_atoms r (later q) is
new_atoms r q (_ ∷ is) = new_atoms r q is

abbrev pub new_membranes : Registers → RestCopies → List Instr → List ℕ
new_membranes r q [] = []
new_membranes r q (NewMem m n ∷ is) = r.head.images.membrane m ∷ new_membranes r q is
new_membranes r q (CopyCells m n ∷ is) = (q 0).membranes ++ new_membranes r (later q) is
new_membranes r q (_ ∷ is) = new_membranes r q is

-- Atoms have copies: each has its functor, and is joined as it is, but for what is joined to the port `root`.
pub record AreCopied (g g' : Graph) (root : Port → Type 0) (atoms copies : List ℕ) : Type 0 where
  pub long : length copies ≡ length atoms
  pub functors : (a : ℕ) → In a atoms → g'.map.functor (answer atoms copies a) ≡ g.map.functor a
  pub inner : (p q : Port) → In p.0 atoms → (root p → ⊥) → g.map.partner p ≡ Some q →
      In q.0 atoms × (g'.map.partner (moved (answer atoms copies) p) ≡ Some (moved (answer atoms copies) q))

-- A part has a copy: its atoms, depth first from the port at which it is entered, have those of the copy, which is entered at its root's copy.
abbrev pub IsPartCopied : Graph → Graph → Port → Port → List ℕ → Type 0
IsPartCopied g g' root copy copied =
    (atoms : List ℕ) × FoundInside (net g) root (λ _. true) atoms × AreCopied g g' (λ p. p ≡ root) atoms copied × (copy ≡ moved (answer atoms copied) root)

-- each instruction that copies a rest has such a copy
abbrev pub EachRest : (ℕ → RestCopy → Type 0) → RestCopies → List Instr → Type 0
EachRest P q [] = Unit {0}
EachRest P q (CopyCells m n ∷ is) = P m (q 0) × EachRest P (later q) is
EachRest P q (_ ∷ is) = EachRest P q is

-- What an instruction leaves, where ports have these numbers: the atom that it makes has its functor, its copy is one, and the ports that it
-- ties have one number. RELINK and UNIFY tie what the ports of the head were joined to, which have the same numbers.
abbrev pub Makes : Graph → Graph → Registers → (Port → ℕ) → Instr → Type 0
Makes g g' r number (NewAtom a m f) = g'.map.functor (r.head.images.atom a) ≡ Some f
Makes g g' r number (NewInt a m v) = g'.map.functor (r.head.images.atom a) ≡ Some (integer_functor (r.head.integer v))
Makes g g' r number (CopyGround c m p) = IsPartCopied g g' (r.head.images.part p) (r.copy c) (r.copied c)
Makes g g' r number (NewLink p q) = number (new_port r p) ≡ number (new_port r q)
Makes g g' r number (Relink p q) = number (new_port r p) ≡ number (old_port r q)
Makes g g' r number (Unify p q) = number (old_port r p) ≡ number (old_port r q)
Makes g g' r number _ = Unit {0}

-- A code is committed: g is the graph before, g' the one after.
--   number, old     ports have numbers, before and after: two that are joined in g have one number,
--   new, apart      and two ports of g' have one number exactly where they are joined
--   each, copies, rests    what each instruction makes, copies and ties; the copies of rests
--   functors        an atom that stays keeps its functor
--   atoms_new, membranes_new, atoms_once, membranes_once    what is made is new, and each of it has a number of its own
--   atoms, membranes, rules    the lists of each membrane that isn't removed: what stays, in its order, and then what it gets
pub record Fires (code : Code) (g : Graph) (r : Registers) (taken : List ℕ) (g' : Graph) : Type 0 where
  pub number : Port → ℕ
  pub old : (p q : Port) → g.map.partner p ≡ Some q → number p ≡ number q
  pub new : (p q : Port) → g'.map.partner p ≡ Some q → number p ≡ number q
  pub apart : (p q : Port) → IsPort g' p → IsPort g' q → number p ≡ number q → (p ≡ q) ⊎ (g'.map.partner p ≡ Some q)
  pub each : AllByRecursion (Makes g g' r number) code.body
  pub copies : RestCopies
  pub rests : EachRest (λ m p. AreCopied g g' (λ _. ⊥) (r.left_atoms m) p.atoms × (length p.membranes ≡ length (r.left_membranes m))) copies code.body
  pub functors : (a : ℕ) → IsSome (g.map.home a) → (In a taken → ⊥) → (In a (dropped r.left_atoms code.body) → ⊥) → g'.map.functor a ≡ g.map.functor a
  pub atoms_new : (a : ℕ) → In a (new_atoms r copies code.body) → (g.map.functor a ≡ None) × IsSome (g'.map.home a)
  pub atoms_once : Distinct (new_atoms r copies code.body)
  pub membranes_new : (x : ℕ) → In x (new_membranes r copies code.body) → (g.round x ≡ None) × (x ≢ g.root)
  pub membranes_once : Distinct (new_membranes r copies code.body)
  pub atoms : (x : ℕ) → (In x (removed code r) → ⊥) →
      g'.atoms x ≡ without_all taken (g.atoms x) ++ added_atoms r (λ k. without_all taken (g.atoms k)) copies code.body x
  pub membranes : (x : ℕ) → (In x (removed code r) → ⊥) →
      g'.membranes x ≡ without_all (found code.head r) (g.membranes x) ++ added_membranes r (λ k. without_all (found code.head r) (g.membranes k)) copies code.body x
  pub rules : (x : ℕ) → (In x (removed code r) → ⊥) → g'.rules x ≡ g.rules x ++ added_rules r g.rules copies code.body x
  pub root : g'.root ≡ g.root
