-- What the code of a head means. Each instruction is a condition on all registers at once, since each register is set by
-- one instruction: code succeeds with registers that meet all of its instructions.
use Rattle.std.specs.Prelude.{ℕ, ℤ, ◌≡◌, ◌≢◌, ◌<◌, ◌+◌, ◌⊎◌, List, [], ◌∷◌, Some, length}
use Rattle.lmn_base.specs.declared.guard.Arith.TheVariants as arith
use Rattle.lmn_base.specs.declared.guard.Cmp.TheVariants as cmp
use Rattle.lmn_base.specs.Graphs.{Reached, StandsWhole, SameGraph, Port}
use Rattle.lmn_store_heap.specs.Heap.{Heap, Distinct, functor_of, atoms_in, mems_in, rules_in}
use Rattle.lmn_store_heap.specs.Graphs.{atom_map}
use Rattle.lmn_guards.specs.declared.plan.TypeKind.{TypeKind}
use Rattle.lmn_guards.specs.declared.plan.TypeKind.TheVariants as kind
use Rattle.lmn_guards.specs.Values.{result_of, Stand}
use Rattle.lmn_solid_heads.specs.Guards.{IsOfKindAt, integer_at}
use Rattle.lmn_solid_heads.specs.Embeddings.{Images, partner, StandsWithin, index_of, ListNotAfter}
use Rattle.lmn_instr_code.specs.declared.instr.AtomPort.{AtomPort}
use Rattle.lmn_instr_code.specs.declared.instr.Instr.{Instr}
use Rattle.lmn_instr_code.specs.declared.instr.Instr.TheVariants.{FindAtom, Deref, Func, InMem, NeqAtom, Joined, NotIn, AnyMem, NeqMem, IsInt, IsUnary, IsGround, NAtoms, NMems, NoRules, IsClosed, EqGround, NeqGround, GetInt, Const, Add, Sub, Mul, Div, Mod, Lt, Le, Gt, Ge, Eq, Ne, Commit}
use Rattle.lmn_base.specs.Lists.{In}

-- what head code sets and body code reads: the registers of atoms, membranes and typed contexts, and those of
-- integers
pub record HeadRegisters : Type 0 where
  pub images : Images
  pub integer : ℕ → ℤ

abbrev pub port_of : HeadRegisters → AtomPort → Port
port_of r p = (r.images.atom p.atom, p.port)

-- What stands at the other end of a port is a context of a kind in a membrane, apart from the first n atom registers.
pub record IsContext (h : Heap) (n : ℕ) (r : HeadRegisters) (k : TypeKind) (g : ℕ) (p : AtomPort) (m : ℕ) : Type 0 where
  pub held : partner h (port_of r p) ≡ Some (r.images.part g)
  pub of_kind : IsOfKindAt h k (r.images.part g)
  pub whole : StandsWhole (atom_map h) (r.images.part g) (r.images.membrane m)
  pub apart : (b k : ℕ) → Reached (atom_map h) (r.images.part g) b → k < n → r.images.atom k ≡ b → ⊥

-- an atom is one of the parts in these registers
abbrev pub IsInSome : Heap → HeadRegisters → List ℕ → ℕ → Type 0
IsInSome h r [] b = ⊥
IsInSome h r (g ∷ gs) b = Reached (atom_map h) (r.images.part g) b ⊎ IsInSome h r gs b

-- a list has n numbers that are different and haven't a property, and else only numbers that have it
pub record HasOthers (P : ℕ → Type 0) (n : ℕ) (xs : List ℕ) : Type 0 where
  pub others : List ℕ
  pub differ : Distinct others
  pub count : length others ≡ n
  pub there : (b : ℕ) → In b others → In b xs
  pub apart : (b : ℕ) → In b others → P b → ⊥
  pub rest : (b : ℕ) → In b xs → In b others ⊎ P b

-- how many registers of atoms, and of membranes, a head has; of membranes that of the rule's own is the first
pub record HeadSize : Type 0 where
  pub atoms : ℕ
  pub membranes : ℕ

-- An atom is one of the rest of the membrane in register m, at any depth: it stands in that membrane and is in no atom
-- register nor in one of these parts, or it stands in a membrane there that is in no register.
abbrev pub IsLeftIn : Heap → HeadSize → HeadRegisters → ℕ → List ℕ → ℕ → Type 0
IsLeftIn h n r m gs b =
    (In b (atoms_in h (r.images.membrane m)) × ((k : ℕ) → k < n.atoms → r.images.atom k ≡ b → ⊥) × (IsInSome h r gs b → ⊥))
    ⊎ ((c : ℕ) × In c (mems_in h (r.images.membrane m)) × ((k : ℕ) → k < n.membranes → r.images.membrane k ≡ c → ⊥) × StandsWithin h b c)

-- no link leaves that rest
abbrev pub IsClosedRest : Heap → HeadSize → HeadRegisters → ℕ → List ℕ → Type 0
IsClosedRest h n r m gs = (b i : ℕ) (p : Port) → IsLeftIn h n r m gs b → partner h (b, i) ≡ Some p → IsLeftIn h n r m gs p.0

-- An instruction of a head of this size holds.
abbrev pub InstructionHolds : Heap → HeadSize → HeadRegisters → Instr → Type 0
InstructionHolds h n r (FindAtom a m f) = In (r.images.atom a) (atoms_in h (r.images.membrane m)) × (functor_of h (r.images.atom a) ≡ Some f)
InstructionHolds h n r (Deref a p k) = partner h (port_of r p) ≡ Some (r.images.atom a, k)
InstructionHolds h n r (Func a f) = functor_of h (r.images.atom a) ≡ Some f
InstructionHolds h n r (InMem a m) = In (r.images.atom a) (atoms_in h (r.images.membrane m))
InstructionHolds h n r (NeqAtom a b) = r.images.atom a ≢ r.images.atom b
InstructionHolds h n r (Joined p q) = partner h (port_of r p) ≡ Some (port_of r q)
InstructionHolds h n r (NotIn p m) = (q : Port) → partner h (port_of r p) ≡ Some q → StandsWithin h q.0 (r.images.membrane m) → ⊥
InstructionHolds h n r (AnyMem m k) = In (r.images.membrane m) (mems_in h (r.images.membrane k))
InstructionHolds h n r (NeqMem m k) = r.images.membrane m ≢ r.images.membrane k
InstructionHolds h n r (IsInt g p m) = IsContext h n.atoms r kind.Int g p m
InstructionHolds h n r (IsUnary g p m) = IsContext h n.atoms r kind.Unary g p m
InstructionHolds h n r (IsGround g p m) = IsContext h n.atoms r kind.Ground g p m
InstructionHolds h n r (NAtoms m c gs) = HasOthers (IsInSome h r gs) c (atoms_in h (r.images.membrane m))
InstructionHolds h n r (NMems m c) = length (mems_in h (r.images.membrane m)) ≡ c
InstructionHolds h n r (NoRules m) = rules_in h (r.images.membrane m) ≡ []
InstructionHolds h n r (IsClosed m gs) = IsClosedRest h n r m gs
InstructionHolds h n r (EqGround g k) = SameGraph (atom_map h) (r.images.part g) (atom_map h) (r.images.part k)
InstructionHolds h n r (NeqGround g k) = SameGraph (atom_map h) (r.images.part g) (atom_map h) (r.images.part k) → ⊥
InstructionHolds h n r (GetInt v g) = integer_at h (r.images.part g) ≡ Some (r.integer v)
InstructionHolds h n r (Const v z) = r.integer v ≡ z
InstructionHolds h n r (Add v w x) = result_of arith.Add (r.integer w) (r.integer x) ≡ Some (r.integer v)
InstructionHolds h n r (Sub v w x) = result_of arith.Sub (r.integer w) (r.integer x) ≡ Some (r.integer v)
InstructionHolds h n r (Mul v w x) = result_of arith.Mul (r.integer w) (r.integer x) ≡ Some (r.integer v)
InstructionHolds h n r (Div v w x) = result_of arith.Div (r.integer w) (r.integer x) ≡ Some (r.integer v)
InstructionHolds h n r (Mod v w x) = result_of arith.Mod (r.integer w) (r.integer x) ≡ Some (r.integer v)
InstructionHolds h n r (Lt v w) = Stand cmp.Lt (r.integer v) (r.integer w)
InstructionHolds h n r (Le v w) = Stand cmp.Le (r.integer v) (r.integer w)
InstructionHolds h n r (Gt v w) = Stand cmp.Gt (r.integer v) (r.integer w)
InstructionHolds h n r (Ge v w) = Stand cmp.Ge (r.integer v) (r.integer w)
InstructionHolds h n r (Eq v w) = Stand cmp.Eq (r.integer v) (r.integer w)
InstructionHolds h n r (Ne v w) = Stand cmp.Ne (r.integer v) (r.integer w)
InstructionHolds h n r Commit = Unit {0}
InstructionHolds h n r _ = ⊥

abbrev pub AllHold : Heap → HeadSize → HeadRegisters → List Instr → Type 0
AllHold h n r [] = Unit {0}
AllHold h n r (i ∷ is) = InstructionHolds h n r i × AllHold h n r is

-- how many atom registers code sets
abbrev pub atoms_set : List Instr → ℕ
atoms_set [] = 0
atoms_set (FindAtom a m f ∷ is) = 1 + atoms_set is
atoms_set (Deref a p k ∷ is) = 1 + atoms_set is
atoms_set (_ ∷ is) = atoms_set is

-- how many membrane registers
abbrev pub membranes_set : List Instr → ℕ
membranes_set [] = 0
membranes_set (AnyMem m k ∷ is) = 1 + membranes_set is
membranes_set (_ ∷ is) = membranes_set is

-- the size of the head that has this code
abbrev pub size_of_head : List Instr → HeadSize
size_of_head code = record { atoms = atoms_set code; membranes = 1 + membranes_set code }

-- which candidate each FINDATOM and ANYMEM takes: its number in the list of the membrane
abbrev pub choices : Heap → HeadRegisters → List Instr → List ℕ
choices h r [] = []
choices h r (FindAtom a m f ∷ is) = index_of (r.images.atom a) (atoms_in h (r.images.membrane m)) ∷ choices h r is
choices h r (AnyMem m k ∷ is) = index_of (r.images.membrane m) (mems_in h (r.images.membrane k)) ∷ choices h r is
choices h r (_ ∷ is) = choices h r is

-- head code succeeds in a membrane with these registers
pub record Succeeds (h : Heap) (code : List Instr) (m : ℕ) (r : HeadRegisters) : Type 0 where
  pub here : r.images.membrane 0 ≡ m
  pub all : AllHold h (size_of_head code) r code

-- Its first success is the one with the least candidates, the earlier instructions deciding first: candidates are tried
-- in list order, and a test that fails goes back to the last instruction that has a further candidate.
pub record IsFirstSuccess (h : Heap) (code : List Instr) (m : ℕ) (r : HeadRegisters) : Type 0 where
  pub succeeds : Succeeds h code m r
  pub first : (s : HeadRegisters) → Succeeds h code m s → ListNotAfter (choices h r code) (choices h s code)
