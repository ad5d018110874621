-- When the code of a rule may be run, whatever rule it is of: each register is set before it is read, each port is one of
-- its atom, and what the head takes apart the body puts together again.
use Rattle.lmn_base.specs.Limits.{most_atom_registers, most_copy_registers, most_head_items, most_integer_registers, most_membrane_registers, most_part_registers}
use Rattle.std.specs.Prelude.{ℕ, ◌≡◌, ◌≤◌, ◌+◌, ◌==◌, ◌&&◌, ◌||◌, not, nat_lt, nat_le, Bool, true, false, if◌then◌else◌, List, [], ◌∷◌, ◌++◌, length, map, drop, slice_index_or, count_by, Option, Some, None, filter_map}
use Rattle.std.specs.List.{flat_map, list_all, list_any}
use Rattle.lmn_base.specs.Solids.{connector}
use Rattle.lmn_store_heap.specs.Functors.{same_functor}
use Rattle.lmn_guards.specs.declared.plan.TypeKind.{TypeKind}
use Rattle.lmn_guards.specs.declared.plan.TypeKind.TheVariants as kind
use Rattle.lmn_congruence_splice.specs.Classes.{rising}
use Rattle.lmn_instr_code.specs.declared.instr.AtomPort.{AtomPort}
use Rattle.lmn_instr_code.specs.declared.instr.NewPort.{NewPort}
use Rattle.lmn_instr_code.specs.declared.instr.NewPort.TheVariants as new
use Rattle.lmn_instr_code.specs.declared.instr.Code.{Code}
use Rattle.lmn_instr_code.specs.declared.instr.Instr.{Instr}
use Rattle.lmn_instr_code.specs.declared.instr.Instr.TheVariants.{FindAtom, Deref, Func, InMem, NeqAtom, Joined, NotIn, AnyMem, NeqMem, IsInt, IsUnary, IsGround, NAtoms, NMems, IsClosed, GetInt, Commit, RemoveAtom, RemovePart, RemoveMem, NewAtom, NewInt, NewMem, CopyGround, MoveCells, CopyCells, LoadRule, CopyRules, DropCells, NewLink, Relink, Unify, Proceed}
use Rattle.lmn_verify_code.specs.declared.found.RegisterCounts.{RegisterCounts}
use Rattle.lmn_verify_code.specs.declared.found.FoundAtom.{FoundAtom}
use Rattle.lmn_verify_code.specs.declared.found.FoundMembrane.{FoundMembrane}
use Rattle.lmn_verify_code.specs.declared.found.FoundPart.{FoundPart}
use Rattle.lmn_instr_code.specs.declared.words.Operand.{Operand}
use Rattle.lmn_instr_code.specs.declared.words.Operand.TheVariants.{Atom, Membrane, Part, Integer, Copy, Port}
use Rattle.lmn_instr_code.specs.Opcodes.{form_of, is_in_head}
use Rattle.lmn_instr_code.specs.Words.{operands, opcode_of}

-- ---- registers

-- the instruction sets a register, that of its first operand
abbrev pub sets_register : Instr → Bool
sets_register i = (form_of (opcode_of i)).sets

-- the register is the next of its kind, and there is one: there are so many as the limits say
abbrev pub is_next : RegisterCounts → Operand → Bool
is_next c (Atom a) = (a == c.atoms) && nat_lt a most_atom_registers
is_next c (Membrane m) = (m == c.membranes) && nat_lt m most_membrane_registers
is_next c (Part g) = (g == c.parts) && nat_lt g most_part_registers
is_next c (Integer v) = (v == c.integers) && nat_lt v most_integer_registers
is_next c (Copy x) = (x == c.copies) && nat_lt x most_copy_registers
is_next c _ = false

-- the register of an operand is set
abbrev pub is_set : RegisterCounts → Operand → Bool
is_set c (Atom a) = nat_lt a c.atoms
is_set c (Membrane m) = nat_lt m c.membranes
is_set c (Part g) = nat_lt g c.parts
is_set c (Integer v) = nat_lt v c.integers
is_set c (Copy x) = nat_lt x c.copies
is_set c (Port p) = nat_lt p.atom c.atoms
is_set c _ = true

-- with one more register
abbrev pub with_one : RegisterCounts → Operand → RegisterCounts
with_one c (Atom a) = record c { atoms = c.atoms + 1 }
with_one c (Membrane m) = record c { membranes = c.membranes + 1 }
with_one c (Part g) = record c { parts = c.parts + 1 }
with_one c (Integer v) = record c { integers = c.integers + 1 }
with_one c (Copy x) = record c { copies = c.copies + 1 }
with_one c _ = c

-- The first of these operands is set by the instruction, where it sets one, and all others are set before.
abbrev pub uses_in_order : Bool → RegisterCounts → List Operand → Bool
uses_in_order sets c [] = true
uses_in_order sets c (o ∷ os) = (if sets then is_next c o else is_set c o) && list_all (is_set c) os

abbrev pub after_one : Bool → RegisterCounts → List Operand → RegisterCounts
after_one sets c [] = c
after_one sets c (o ∷ os) = if sets then with_one c o else c

-- the registers that are set behind an instruction
abbrev pub after : RegisterCounts → Instr → RegisterCounts
after c i = after_one (sets_register i) c (operands i)

-- Code sets registers in the order of their numbers, and reads none that isn't set.
abbrev pub in_order : RegisterCounts → List Instr → Bool
in_order c [] = true
in_order c (i ∷ is) = uses_in_order (sets_register i) c (operands i) && in_order (after c i) is

-- at first that of the membrane is set in which the rule stands
abbrev pub at_first : RegisterCounts
at_first = record { atoms = 0; membranes = 1; parts = 0; integers = 0; copies = 0 }

-- the registers that are set behind code
abbrev pub after_all : RegisterCounts → List Instr → RegisterCounts
after_all c [] = c
after_all c (i ∷ is) = after_all (after c i) is

-- ---- what a head finds

-- what DEREF into the register a finds is told by the FUNC and the INMEM behind it
abbrev pub found_behind : ℕ → List Instr → List FoundAtom
found_behind a (Func b f ∷ (InMem c m ∷ is)) = record { atom = a; functor = f; membrane = m } ∷ []
found_behind a _ = []

-- the atom that an instruction finds, with these behind it
abbrev pub found_first : Instr → List Instr → List FoundAtom
found_first (FindAtom a m f) is = record { atom = a; functor = f; membrane = m } ∷ []
found_first (Deref a p k) is = found_behind a is
found_first _ is = []

-- the atoms
abbrev pub atoms_found : List Instr → List FoundAtom
atoms_found [] = []
atoms_found (i ∷ is) = found_first i is ++ atoms_found is

-- the membranes
abbrev pub membrane_found : Instr → Option FoundMembrane
membrane_found (AnyMem m n) = Some (record { membrane = m; inside = n })
membrane_found _ = None

abbrev pub membranes_found : List Instr → List FoundMembrane
membranes_found head = filter_map membrane_found head

-- the typed contexts
abbrev pub part_found : Instr → Option FoundPart
part_found (IsInt g p m) = Some (record { part = g; kind = kind.Int; port = p; membrane = m })
part_found (IsUnary g p m) = Some (record { part = g; kind = kind.Unary; port = p; membrane = m })
part_found (IsGround g p m) = Some (record { part = g; kind = kind.Ground; port = p; membrane = m })
part_found _ = None

abbrev pub parts_found : List Instr → List FoundPart
parts_found head = filter_map part_found head

-- FUNC and INMEM of the register a stand first
abbrev pub looks_at : ℕ → List Instr → Bool
looks_at a (Func b f ∷ (InMem c m ∷ is)) = (b == a) && (c == a)
looks_at a _ = false

-- DEREF is directly followed by FUNC and INMEM of its register
abbrev pub is_looked_at : Instr → List Instr → Bool
is_looked_at (Deref a p k) is = looks_at a is
is_looked_at _ is = true

abbrev pub all_looked_at : List Instr → Bool
all_looked_at [] = true
all_looked_at (i ∷ is) = is_looked_at i is && all_looked_at is

-- it finds an atom or a membrane
abbrev pub finds : Instr → Bool
finds (FindAtom _ _ _) = true
finds (Deref _ _ _) = true
finds (AnyMem _ _) = true
finds _ = false

-- it looks at a typed context, counts what a membrane holds, or asks whether a link leaves the rest of one
abbrev pub surveys : Instr → Bool
surveys (IsInt _ _ _) = true
surveys (IsUnary _ _ _) = true
surveys (IsGround _ _ _) = true
surveys (NAtoms _ _ _) = true
surveys (NMems _ _) = true
surveys (IsClosed _ _) = true
surveys _ = false

-- what finds stands before what surveys
abbrev pub finds_first : List Instr → Bool
finds_first [] = true
finds_first (i ∷ is) = (not (surveys i) || not (list_any finds is)) && finds_first is

abbrev pub is_int_kind : TypeKind → Bool
is_int_kind kind.Int = true
is_int_kind _ = false

-- GETINT is of a typed context that is an integer
abbrev pub gets_integer : List FoundPart → Instr → Bool
gets_integer parts (GetInt v g) = list_any (λ p. (p.part == g) && is_int_kind p.kind) parts
gets_integer parts _ = true

-- nothing stands in a list
abbrev pub is_empty : List Instr → Bool
is_empty [] = true
is_empty (i ∷ is) = false

abbrev pub is_commit : Instr → Bool
is_commit Commit = true
is_commit _ = false

abbrev pub is_proceed : Instr → Bool
is_proceed Proceed = true
is_proceed _ = false

-- an instruction of a head other than COMMIT
abbrev pub is_of_head : Instr → Bool
is_of_head i = is_in_head (opcode_of i) && not (is_commit i)

-- Instructions of a head, and COMMIT, which ends it and stands once.
abbrev pub is_head : List Instr → Bool
is_head [] = false
is_head (i ∷ is) = if is_commit i then is_empty is else (is_of_head i && is_head is)

-- NEQATOM of the two registers, in either order
abbrev pub is_neq_atom : ℕ → ℕ → Instr → Bool
is_neq_atom a b (NeqAtom x y) = ((x == a) && (y == b)) || ((x == b) && (y == a))
is_neq_atom a b _ = false

abbrev pub is_neq_membrane : ℕ → ℕ → Instr → Bool
is_neq_membrane m n (NeqMem x y) = ((x == m) && (y == n)) || ((x == n) && (y == m))
is_neq_membrane m n _ = false

-- Two atoms of one functor in one membrane are told apart by NEQATOM,
abbrev pub are_apart : List Instr → FoundAtom → FoundAtom → Bool
are_apart head a b = not (same_functor a.functor b.functor && (a.membrane == b.membrane)) || list_any (is_neq_atom a.atom b.atom) head

-- and two membranes in one by NEQMEM.
abbrev pub are_apart_membranes : List Instr → FoundMembrane → FoundMembrane → Bool
are_apart_membranes head m n = not (m.inside == n.inside) || list_any (is_neq_membrane m.membrane n.membrane) head

-- a test passes of each item of a list and each later one
abbrev pub each_two : {A : Type 0} → (A → A → Bool) → List A → Bool
each_two test [] = true
each_two test (x ∷ xs) = list_all (test x) xs && each_two test xs

-- ---- ports

-- how many ports the atom has that an instruction makes
abbrev pub arity_made : Instr → Option ℕ
arity_made (NewAtom a m f) = Some f.arity
arity_made (NewInt a m v) = Some 1
arity_made _ = None

-- how many ports the atom in each register has
abbrev pub arities : Code → List ℕ
arities code = map (λ a. a.functor.arity) (atoms_found code.head) ++ filter_map arity_made code.body

-- a port of an atom register
abbrev pub port_of_register : ℕ → ℕ → AtomPort
port_of_register a i = record { atom = a; port = i }

-- The places of ports and copies at which an instruction says where they lead.
abbrev pub places : Instr → List NewPort
places (Deref a p k) = new.Atom p ∷ (new.Atom (port_of_register a k) ∷ [])
places (Joined p q) = new.Atom p ∷ (new.Atom q ∷ [])
places (IsInt g p m) = new.Atom p ∷ []
places (IsUnary g p m) = new.Atom p ∷ []
places (IsGround g p m) = new.Atom p ∷ []
places (NewLink p q) = p ∷ (q ∷ [])
places (Relink p q) = p ∷ (new.Atom q ∷ [])
places (Unify p q) = new.Atom p ∷ (new.Atom q ∷ [])
places _ = []

-- all ports that it names
abbrev pub named_ports : Instr → List NewPort
named_ports (NotIn p m) = new.Atom p ∷ []
named_ports i = places i

-- the atom in its register has the port
abbrev pub has_port : List ℕ → NewPort → Bool
has_port ns (new.Atom p) = nat_lt p.port (slice_index_or ns p.atom 0)
has_port ns (new.Copy c) = true

abbrev pub same_port : NewPort → NewPort → Bool
same_port (new.Atom p) (new.Atom q) = (p.atom == q.atom) && (p.port == q.port)
same_port (new.Copy c) (new.Copy d) = c == d
same_port _ _ = false

-- the ports of the atoms in registers, of which the first has the number a, with these numbers of ports
abbrev pub ports_of_registers : ℕ → List ℕ → List NewPort
ports_of_registers a [] = []
ports_of_registers a (n ∷ ns) = map (λ i. new.Atom (port_of_register a i)) (rising 0 n) ++ ports_of_registers (a + 1) ns

abbrev pub is_copy : Instr → Bool
is_copy (CopyGround c m g) = true
is_copy _ = false

-- all ports of atom registers, and all copies
abbrev pub ports_of : Code → List NewPort
ports_of code = ports_of_registers 0 (arities code) ++ map new.Copy (rising 0 (count_by is_copy code.body))

-- ---- bodies

-- The registers of what a head holds: atoms, typed contexts, and membranes besides that of the rule.
abbrev pub held : Code → List Operand
held code =
    map Atom (rising 0 (length (atoms_found code.head)))
    ++ (map Part (rising 0 (length (parts_found code.head))) ++ map Membrane (rising 1 (length (membranes_found code.head))))

-- the instruction takes out what this register holds
abbrev pub removes : Instr → Operand → Bool
removes (RemoveAtom a) (Atom b) = a == b
removes (RemovePart g) (Part h) = g == h
removes (RemoveMem m) (Membrane n) = m == n
removes _ _ = false

-- code begins by taking out what these registers hold, in this order
abbrev pub takes_out : List Operand → List Instr → Bool
takes_out [] is = true
takes_out (o ∷ os) [] = false
takes_out (o ∷ os) (i ∷ is) = removes i o && takes_out os is

-- a membrane is that of the rule, or one that the body makes, where the head has h registers of membranes
abbrev pub is_open : ℕ → ℕ → Bool
is_open h m = (m == 0) || nat_le h m

-- a membrane is one that the head has found
abbrev pub is_removed : ℕ → ℕ → Bool
is_removed h m = nat_lt 0 m && nat_lt m h

-- An instruction that makes, moves or copies something, into an open membrane, and out of a removed one. No atom is a connector, and
-- there are k rules.
abbrev pub makes : ℕ → ℕ → Instr → Bool
makes h k (NewAtom a m f) = is_open h m && not (same_functor f connector)
makes h k (NewInt a m v) = is_open h m
makes h k (NewMem m n) = is_open h n
makes h k (CopyGround c m g) = is_open h m
makes h k (MoveCells m n) = is_removed h m && is_open h n
makes h k (CopyCells m n) = is_removed h m && is_open h n
makes h k (LoadRule m n) = is_open h m && nat_lt n k
makes h k (CopyRules m n) = is_removed h m && is_open h n
makes h k _ = false

-- a port that the body makes, where the head has a registers of atoms
abbrev pub is_made : ℕ → NewPort → Bool
is_made a (new.Atom p) = nat_le a p.atom
is_made a (new.Copy c) = true

-- An instruction that ties ports that are made and ports of the head.
abbrev pub ties : ℕ → Instr → Bool
ties a (NewLink p q) = is_made a p && is_made a q
ties a (Relink p q) = is_made a p && nat_lt q.atom a
ties a (Unify p q) = nat_lt p.atom a && nat_lt q.atom a
ties a _ = false

-- Instructions that tie, where the head has a registers of atoms, and PROCEED, which ends the body and stands once.
abbrev pub ties_and_ends : ℕ → List Instr → Bool
ties_and_ends a [] = false
ties_and_ends a (i ∷ is) = if is_proceed i then is_empty is else (ties a i && ties_and_ends a is)

-- DROPCELLS of what is left in a removed membrane
abbrev pub drops : ℕ → Instr → Bool
drops h (DropCells m) = is_removed h m
drops h _ = false

-- Instructions that drop, and behind them such that tie.
abbrev pub drops_and_ties : ℕ → ℕ → List Instr → Bool
drops_and_ties h a [] = false
drops_and_ties h a (i ∷ is) = if drops h i then drops_and_ties h a is else ties_and_ends a (i ∷ is)

-- Instructions that make, move or copy, behind them such that drop, and then such that tie.
abbrev pub makes_and_ties : ℕ → ℕ → ℕ → List Instr → Bool
makes_and_ties h k a [] = false
makes_and_ties h k a (i ∷ is) = if makes h k i then makes_and_ties h k a is else drops_and_ties h a (i ∷ is)

-- these are the numbers of the typed contexts in membrane m, each once
abbrev pub names_parts : ℕ → List ℕ → List FoundPart → Bool
names_parts m gs parts = list_all (λ p. count_by (λ g. g == p.part) gs == (if p.membrane == m then 1 else 0)) parts

-- NATOMS of membrane m with the number of its atoms and exactly its typed contexts
abbrev pub counts_atoms : List FoundAtom → List FoundPart → ℕ → Instr → Bool
counts_atoms atoms parts m (NAtoms x n gs) = (x == m) && ((n == count_by (λ a. a.membrane == m) atoms) && names_parts m gs parts)
counts_atoms atoms parts m _ = false

-- NMEMS of membrane m with the number of its membranes
abbrev pub counts_membranes : List FoundMembrane → ℕ → Instr → Bool
counts_membranes membranes m (NMems x n) = (x == m) && (n == count_by (λ b. b.inside == m) membranes)
counts_membranes membranes m _ = false

-- the head counts all that the membrane m holds
abbrev pub is_counted : List Instr → ℕ → Bool
is_counted head m = list_any (counts_atoms (atoms_found head) (parts_found head) m) head && list_any (counts_membranes (membranes_found head) m) head

-- ISCLOSED of membrane m with exactly its typed contexts
abbrev pub finds_closed : List FoundPart → ℕ → Instr → Bool
finds_closed parts m (IsClosed x gs) = (x == m) && names_parts m gs parts
finds_closed parts m _ = false

-- the head tells that no link leaves the rest of membrane m
abbrev pub is_closed : List Instr → ℕ → Bool
is_closed head m = list_any (finds_closed (parts_found head) m) head

-- NATOMS or NMEMS of membrane m, whatever the number
abbrev pub is_count_of : ℕ → Instr → Bool
is_count_of m (NAtoms x n gs) = x == m
is_count_of m (NMems x n) = x == m
is_count_of m _ = false

-- ISCLOSED of membrane m, whatever the typed contexts
abbrev pub asks_closed : ℕ → Instr → Bool
asks_closed m (IsClosed x gs) = x == m
asks_closed m _ = false

-- what is left in membrane m is moved, copied or dropped
abbrev pub moves : ℕ → Instr → Bool
moves m (MoveCells x y) = x == m
moves m _ = false

abbrev pub copies_rest : ℕ → Instr → Bool
copies_rest m (CopyCells x y) = x == m
copies_rest m _ = false

abbrev pub drops_rest : ℕ → Instr → Bool
drops_rest m (DropCells x) = x == m
drops_rest m _ = false

-- what it holds is counted: nothing is left
abbrev pub nothing_left : Code → ℕ → Bool
nothing_left code m =
    is_counted code.head m && (not (list_any (asks_closed m) code.head) && (not (list_any (moves m) code.body) && (not (list_any (copies_rest m) code.body) && not (list_any (drops_rest m) code.body))))

-- what is left is moved, once
abbrev pub rest_moved : Code → ℕ → Bool
rest_moved code m =
    (count_by (moves m) code.body == 1) && (not (list_any (is_count_of m) code.head) && (not (list_any (asks_closed m) code.head) && (not (list_any (copies_rest m) code.body) && not (list_any (drops_rest m) code.body))))

-- no link leaves what is left, and it is dropped, once; before that it may have been copied
abbrev pub rest_dropped : Code → ℕ → Bool
rest_dropped code m =
    (count_by (drops_rest m) code.body == 1) && (is_closed code.head m && (not (list_any (is_count_of m) code.head) && not (list_any (moves m) code.body)))

-- ---- verified code

-- The code of a rule where there are k rules is verified.
--   order            it sets registers in the order of their numbers, and reads none that isn't set
--   looked_at        each DEREF is directly followed by FUNC and INMEM of its register
--   first            atoms and membranes are found before typed contexts are looked at, anything is counted, and before it
--                    is asked whether a link leaves a rest
--   integers         GETINT is of an integer
--   few              the head finds at most as many atoms and membranes as it may have items
--   ports            each port that is named is one of its atom
--   head             it is instructions of a head, and COMMIT ends it and stands once
--   apart            atoms of one functor in one membrane are told apart
--   apart_membranes  and membranes in one
--   taken            the body takes out all that the head holds
--   rest             Then it makes, moves and copies, into membranes that stay and out of removed ones; its rules are there,
--                    and no atom is a connector. Then it drops rests of removed membranes. Then it ties ports that are made to each other, or to what a port of the head was
--                    joined to, or two such. PROCEED ends it and stands once.
--   emptied          each membrane that is taken out is empty then, for one of three reasons, each of which shuts out the others
--   once             each port of each atom register, and each copy, stands in exactly one place: in DEREF or JOINED, before a
--                    typed context, or in what ties. So the port before a typed context is in no other test, and the two
--                    ports of one tie differ.
pub record IsVerified (code : Code) (k : ℕ) : Type 0 where
  pub order : in_order at_first (code.head ++ code.body) ≡ true
  pub looked_at : all_looked_at code.head ≡ true
  pub first : finds_first code.head ≡ true
  pub integers : list_all (gets_integer (parts_found code.head)) code.head ≡ true
  pub few : length (atoms_found code.head) + length (membranes_found code.head) ≤ most_head_items
  pub ports : list_all (λ i. list_all (has_port (arities code)) (named_ports i)) (code.head ++ code.body) ≡ true
  pub head : is_head code.head ≡ true
  pub apart : each_two (are_apart code.head) (atoms_found code.head) ≡ true
  pub apart_membranes : each_two (are_apart_membranes code.head) (membranes_found code.head) ≡ true
  pub taken : takes_out (held code) code.body ≡ true
  pub rest : makes_and_ties (1 + length (membranes_found code.head)) k (length (atoms_found code.head)) (drop (length (held code)) code.body) ≡ true
  pub emptied : list_all (λ b. nothing_left code b.membrane || (rest_moved code b.membrane || rest_dropped code b.membrane)) (membranes_found code.head) ≡ true
  pub once : list_all (λ p. count_by (same_port p) (flat_map places (code.head ++ code.body)) == 1) (ports_of code) ≡ true

-- ---- parts of these, as laws and contracts of private functions tell them

-- each of these ports stands in exactly one place
abbrev pub stand_once : List NewPort → List NewPort → Bool
stand_once stands ports = list_all (λ p. count_by (same_port p) stands == 1) ports

-- the registers of a atoms, of g typed contexts, and of m membranes besides that of the rule
abbrev pub registers_held : ℕ → ℕ → ℕ → List Operand
registers_held a g m = map Atom (rising 0 a) ++ (map Part (rising 0 g) ++ map Membrane (rising 1 m))

-- a membrane that is taken out is empty then
abbrev pub is_emptied : Code → FoundMembrane → Bool
is_emptied code m = nothing_left code m.membrane || (rest_moved code m.membrane || rest_dropped code m.membrane)
