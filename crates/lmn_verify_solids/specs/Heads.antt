-- What the code of a head means on a graph. Each instruction is a condition on all registers at once, since each register is set by
-- one instruction: code succeeds with registers that meet all of its instructions.
use Rattle.std.specs.Prelude.{ℕ, ℤ, ◌≡◌, ◌≢◌, ◌<◌, ◌+◌, ◌⊎◌, List, [], ◌∷◌, ◌++◌, Option, Some, length, slice_get, take}
use Rattle.lmn_base.specs.declared.functor.Functor.{Functor}
use Rattle.lmn_base.specs.declared.guard.Arith.TheVariants as arith
use Rattle.lmn_base.specs.declared.guard.Cmp.TheVariants as cmp
use Rattle.lmn_base.specs.Graphs.{Reached, StandsWhole, SameGraph, Port}
use Rattle.lmn_base.specs.Lists.{In}
use Rattle.lmn_guards.specs.declared.plan.TypeKind.{TypeKind}
use Rattle.lmn_guards.specs.declared.plan.TypeKind.TheVariants as kind
use Rattle.lmn_guards.specs.Values.{result_of, Stand}
use Rattle.lmn_solid_heads.specs.Embeddings.{index_of, ListNotAfter}
use Rattle.lmn_solid_heads.specs.Guards.{integer_of_functor}
use Rattle.lmn_instr_code.specs.declared.instr.AtomPort.{AtomPort}
use Rattle.lmn_instr_code.specs.declared.instr.Code.{Code}
use Rattle.lmn_instr_code.specs.declared.instr.Instr.{Instr}
use Rattle.lmn_instr_code.specs.declared.instr.Instr.TheVariants.{FindAtom, Deref, Func, InMem, NeqAtom, Joined, NotIn, AnyMem, NeqMem, IsInt, IsUnary, IsGround, NAtoms, NMems, NoRules, IsClosed, EqGround, NeqGround, GetInt, Const, Add, Sub, Mul, Div, Mod, Lt, Le, Gt, Ge, Eq, Ne, Commit}
use Rattle.lmn_instr_code.specs.Running.{HeadRegisters, HeadSize, HasOthers, port_of, size_of_head}
use Rattle.lmn_verify_solids.specs.Graphs.{Graph, StandsWithin}

-- the integer that a part is, if it is one
abbrev pub integer_at : Graph → Port → Option ℤ
integer_at g p = integer_of_functor (g.map.functor p.0)

-- The part entered at a port is of a kind. That a ground part stands whole is said elsewhere.
abbrev pub IsOfKind : Graph → TypeKind → Port → Type 0
IsOfKind g kind.Int p = (z : ℤ) × (integer_at g p ≡ Some z)
IsOfKind g kind.Unary p = (f : Functor) × (g.map.functor p.0 ≡ Some f) × (f.arity ≡ 1)
IsOfKind g kind.Ground p = Unit {0}

-- What stands at the other end of a port is a context of a kind in a membrane, apart from the first n atom registers.
abbrev pub IsContext : Graph → ℕ → HeadRegisters → TypeKind → ℕ → AtomPort → ℕ → Type 0
IsContext g n r k x p m =
    (g.map.partner (port_of r p) ≡ Some (r.images.part x)) × IsOfKind g k (r.images.part x) × StandsWhole g.map (r.images.part x) (r.images.membrane m)
    × ((b k : ℕ) → Reached g.map (r.images.part x) b → k < n → r.images.atom k ≡ b → ⊥)

-- an atom is one of the parts in these registers
abbrev pub IsInSome : Graph → HeadRegisters → List ℕ → ℕ → Type 0
IsInSome g r [] b = ⊥
IsInSome g r (x ∷ xs) b = Reached g.map (r.images.part x) b ⊎ IsInSome g r xs b

-- An atom is one of the rest of the membrane in register m, at any depth: it stands in that membrane and is in no atom
-- register nor in one of these parts, or it stands in a membrane there that is in no register.
abbrev pub IsLeftIn : Graph → HeadSize → HeadRegisters → ℕ → List ℕ → ℕ → Type 0
IsLeftIn g n r m xs b =
    (In b (g.atoms (r.images.membrane m)) × ((k : ℕ) → k < n.atoms → r.images.atom k ≡ b → ⊥) × (IsInSome g r xs b → ⊥))
    ⊎ ((c : ℕ) × In c (g.membranes (r.images.membrane m)) × ((k : ℕ) → k < n.membranes → r.images.membrane k ≡ c → ⊥) × StandsWithin g b c)

-- An instruction of a head of this size holds.
abbrev pub InstructionHolds : Graph → HeadSize → HeadRegisters → Instr → Type 0
InstructionHolds g n r (FindAtom a m f) = In (r.images.atom a) (g.atoms (r.images.membrane m)) × (g.map.functor (r.images.atom a) ≡ Some f)
InstructionHolds g n r (Deref a p k) = g.map.partner (port_of r p) ≡ Some (r.images.atom a, k)
InstructionHolds g n r (Func a f) = g.map.functor (r.images.atom a) ≡ Some f
InstructionHolds g n r (InMem a m) = In (r.images.atom a) (g.atoms (r.images.membrane m))
InstructionHolds g n r (NeqAtom a b) = r.images.atom a ≢ r.images.atom b
InstructionHolds g n r (Joined p q) = g.map.partner (port_of r p) ≡ Some (port_of r q)
InstructionHolds g n r (NotIn p m) = (q : Port) → g.map.partner (port_of r p) ≡ Some q → StandsWithin g q.0 (r.images.membrane m) → ⊥
InstructionHolds g n r (AnyMem m k) = In (r.images.membrane m) (g.membranes (r.images.membrane k))
InstructionHolds g n r (NeqMem m k) = r.images.membrane m ≢ r.images.membrane k
InstructionHolds g n r (IsInt x p m) = IsContext g n.atoms r kind.Int x p m
InstructionHolds g n r (IsUnary x p m) = IsContext g n.atoms r kind.Unary x p m
InstructionHolds g n r (IsGround x p m) = IsContext g n.atoms r kind.Ground x p m
InstructionHolds g n r (NAtoms m c xs) = HasOthers (IsInSome g r xs) c (g.atoms (r.images.membrane m))
InstructionHolds g n r (NMems m c) = length (g.membranes (r.images.membrane m)) ≡ c
InstructionHolds g n r (NoRules m) = g.rules (r.images.membrane m) ≡ []
InstructionHolds g n r (IsClosed m xs) = (b i : ℕ) (p : Port) → IsLeftIn g n r m xs b → g.map.partner (b, i) ≡ Some p → IsLeftIn g n r m xs p.0
InstructionHolds g n r (EqGround x y) = SameGraph g.map (r.images.part x) g.map (r.images.part y)
InstructionHolds g n r (NeqGround x y) = SameGraph g.map (r.images.part x) g.map (r.images.part y) → ⊥
InstructionHolds g n r (GetInt v x) = integer_at g (r.images.part x) ≡ Some (r.integer v)
InstructionHolds g n r (Const v z) = r.integer v ≡ z
InstructionHolds g n r (Add v w x) = result_of arith.Add (r.integer w) (r.integer x) ≡ Some (r.integer v)
InstructionHolds g n r (Sub v w x) = result_of arith.Sub (r.integer w) (r.integer x) ≡ Some (r.integer v)
InstructionHolds g n r (Mul v w x) = result_of arith.Mul (r.integer w) (r.integer x) ≡ Some (r.integer v)
InstructionHolds g n r (Div v w x) = result_of arith.Div (r.integer w) (r.integer x) ≡ Some (r.integer v)
InstructionHolds g n r (Mod v w x) = result_of arith.Mod (r.integer w) (r.integer x) ≡ Some (r.integer v)
InstructionHolds g n r (Lt v w) = Stand cmp.Lt (r.integer v) (r.integer w)
InstructionHolds g n r (Le v w) = Stand cmp.Le (r.integer v) (r.integer w)
InstructionHolds g n r (Gt v w) = Stand cmp.Gt (r.integer v) (r.integer w)
InstructionHolds g n r (Ge v w) = Stand cmp.Ge (r.integer v) (r.integer w)
InstructionHolds g n r (Eq v w) = Stand cmp.Eq (r.integer v) (r.integer w)
InstructionHolds g n r (Ne v w) = Stand cmp.Ne (r.integer v) (r.integer w)
InstructionHolds g n r Commit = Unit {0}
InstructionHolds g n r _ = ⊥

abbrev pub AllHold : Graph → HeadSize → HeadRegisters → List Instr → Type 0
AllHold g n r [] = Unit {0}
AllHold g n r (i ∷ is) = InstructionHolds g n r i × AllHold g n r is

-- head code succeeds in a membrane with these registers
abbrev pub Succeeds : Graph → List Instr → ℕ → HeadRegisters → Type 0
Succeeds g code m r = (r.images.membrane 0 ≡ m) × AllHold g (size_of_head code) r code

-- which candidate each FINDATOM and ANYMEM takes: its number in the list of the membrane
abbrev pub choices : Graph → HeadRegisters → List Instr → List ℕ
choices g r [] = []
choices g r (FindAtom a m f ∷ is) = index_of (r.images.atom a) (g.atoms (r.images.membrane m)) ∷ choices g r is
choices g r (AnyMem m k ∷ is) = index_of (r.images.membrane m) (g.membranes (r.images.membrane k)) ∷ choices g r is
choices g r (_ ∷ is) = choices g r is

-- Its first success is the one with the least candidates, the earlier instructions deciding first: candidates are tried
-- in list order, and a test that fails goes back to the last instruction that has a further candidate.
abbrev pub IsFirstSuccess : Graph → List Instr → ℕ → HeadRegisters → Type 0
IsFirstSuccess g code m r = Succeeds g code m r × ((s : HeadRegisters) → Succeeds g code m s → ListNotAfter (choices g r code) (choices g s code))

-- how many registers of typed contexts code sets
abbrev pub parts_set : List Instr → ℕ
parts_set [] = 0
parts_set (IsInt x p m ∷ is) = 1 + parts_set is
parts_set (IsUnary x p m ∷ is) = 1 + parts_set is
parts_set (IsGround x p m ∷ is) = 1 + parts_set is
parts_set (_ ∷ is) = parts_set is

-- ---- which rule is chosen

-- none of these rules has a code that succeeds in membrane m,
abbrev pub NoneOf : Graph → List Code → ℕ → List ℕ → Type 0
NoneOf g codes m rules = (n : ℕ) → In n rules → (code : Code) (r : HeadRegisters) → slice_get codes n ≡ Some code → Succeeds g code.head m r → ⊥

-- and no rule of these membranes has
abbrev pub NoneIn : Graph → List Code → List ℕ → Type 0
NoneIn g codes ms = (m : ℕ) → In m ms → NoneOf g codes m (g.rules m)

-- Where membranes are asked in this order, and of each its rules in the order of their list, this code is the first that succeeds, in
-- this membrane and with these registers.
pub record IsChosen (g : Graph) (codes : List Code) (ms : List ℕ) (code : Code) (m : ℕ) (r : HeadRegisters) : Type 0 where
  pub earlier : List ℕ
  pub later : List ℕ
  pub order : ms ≡ earlier ++ m ∷ later
  pub none : NoneIn g codes earlier
  pub place : ℕ
  pub rule : ℕ
  pub stands : slice_get (g.rules m) place ≡ Some rule
  pub none_before : NoneOf g codes m (take place (g.rules m))
  pub is : slice_get codes rule ≡ Some code
  pub first : IsFirstSuccess g code.head m r
