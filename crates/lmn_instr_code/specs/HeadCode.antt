-- The code of the head of a rule. Registers are numbered in the order of the head's items, typed contexts in theirs. The
-- code first finds the atoms and membranes, in the order of the items, an item of a membrane behind its membrane. Behind
-- them come the tests of the typed contexts, those of what else a membrane holds, the guard, and COMMIT.
use Rattle.std.specs.Prelude.{ℕ, ◌+◌, ◌==◌, ◌&&◌, Bool, false, if◌then◌else◌, List, [], ◌∷◌, ◌++◌, Option, Some, None, take}
use Rattle.lmn_base.specs.declared.guard.Arith.{Arith}
use Rattle.lmn_base.specs.declared.guard.Arith.TheVariants as arith
use Rattle.lmn_base.specs.declared.guard.Cmp.{Cmp}
use Rattle.lmn_base.specs.declared.guard.Cmp.TheVariants as cmp
use Rattle.lmn_base.specs.declared.guard.Expr.{Expr}
use Rattle.lmn_base.specs.declared.guard.Expr.TheVariants as expr
use Rattle.lmn_base.specs.declared.guard.Cond.{Cond}
use Rattle.lmn_base.specs.declared.guard.Cond.TheVariants.{Kind, Compare, Equal, Differ}
use Rattle.lmn_store_heap.specs.Functors.{same_functor}
use Rattle.lmn_guards.specs.declared.plan.TypeKind.{TypeKind}
use Rattle.lmn_guards.specs.declared.plan.TypeKind.TheVariants as kind
use Rattle.lmn_solid_heads.specs.declared.items.HeadItem.{HeadItem}
use Rattle.lmn_solid_heads.specs.declared.items.HeadItem.TheVariants.{Atom, Typed, Membrane}
use Rattle.lmn_solid_heads.specs.Heads.{HeadAtom, HeadTyped, HeadMembrane, Occurrence, atoms_of, typed_contexts_of, membranes_of, at_ports, at_atoms, links_of_head, times, outermost}
use Rattle.lmn_solid_heads.specs.Guards.{typed_number, context_alone}
use Rattle.lmn_instr_code.specs.declared.instr.AtomPort.{AtomPort}
use Rattle.lmn_instr_code.specs.declared.instr.Instr.{Instr}
use Rattle.lmn_instr_code.specs.declared.instr.Instr.TheVariants.{FindAtom, Deref, Func, InMem, NeqAtom, Joined, NotIn, AnyMem, NeqMem, IsInt, IsUnary, IsGround, NAtoms, NMems, NoRules, IsClosed, EqGround, NeqGround, GetInt, Const, Add, Sub, Mul, Div, Mod, Lt, Le, Gt, Ge, Eq, Ne, Commit}
use Rattle.lmn_base.specs.Graphs.{Port}

-- a port of the head, as an operand
abbrev pub operand : Port → AtomPort
operand p = record { atom = p.0; port = p.1 }

-- where a link stands first
abbrev pub find_port : ℕ → List Occurrence → Option Port
find_port x [] = None
find_port x (o ∷ os) = if o.link == x then Some o.port else find_port x os

-- what stands before port i of an atom with number n: the ports of the earlier atoms, and its own earlier ports
abbrev pub occurrences_before : List HeadItem → ℕ → HeadAtom → ℕ → List Occurrence
occurrences_before items n a i = at_atoms 0 (take n (atoms_of items)) ++ at_ports n 0 (take i a.links)

-- a port of an atom, and the port of an earlier atom to which its link leads
abbrev pub Entry : Type 0
Entry = ℕ × Port

-- this port, if its link stands at an earlier atom, or else a later one
abbrev pub entry_or : ℕ → Option Port → Option Entry → Option Entry
entry_or i None later = later
entry_or i (Some p) later = Some (i, p)

-- the lowest port, from i on, whose link also stands at an earlier atom
abbrev pub entry_from : List Occurrence → ℕ → List ℕ → Option Entry
entry_from earlier i [] = None
entry_from earlier i (x ∷ xs) = entry_or i (find_port x earlier) (entry_from earlier (i + 1) xs)

-- the lowest argument of atom number n whose link also stands at an earlier atom, and the first place of that link
abbrev pub entry : List HeadItem → ℕ → HeadAtom → Option Entry
entry items n a = entry_from (at_atoms 0 (take n (atoms_of items))) 0 a.links

-- An atom is found among the atoms of its membrane by its functor, or by its lowest argument whose link also stands at an
-- earlier atom: then DEREF goes from the link's place there to this argument, and FUNC and INMEM look at what it found.
abbrev pub found_code : ℕ → HeadAtom → Option Entry → List Instr
found_code n a None = FindAtom n a.inside a.functor ∷ []
found_code n a (Some e) = Deref n (operand e.1) e.0 ∷ (Func n a.functor ∷ (InMem n a.inside ∷ []))

-- NEQATOM against each of these atoms, the first of which has the number k, that has the level and the functor of a
abbrev pub differ_code : ℕ → HeadAtom → ℕ → List HeadAtom → List Instr
differ_code n a k [] = []
differ_code n a k (b ∷ bs) =
    (if (b.inside == a.inside) && same_functor b.functor a.functor then NeqAtom n k ∷ [] else []) ++ differ_code n a (k + 1) bs

-- an atom is found by its port i
abbrev pub is_entry : ℕ → Option Entry → Bool
is_entry i None = false
is_entry i (Some e) = e.0 == i

-- a port whose link stands at no earlier port: inside a membrane, a link that occurs once in the head leads out of the
-- outermost one
abbrev pub open_code : List HeadItem → ℕ → HeadAtom → ℕ → ℕ → List Instr
open_code items n a i x =
    if a.inside == 0 then []
    else if times x (links_of_head items) == 1 then NotIn (operand (n, i)) (outermost (membranes_of items) a.inside) ∷ []
    else []

-- a port by which its atom isn't found: its link is joined to its earlier place, if it has one
abbrev pub joined_code : List HeadItem → ℕ → HeadAtom → ℕ → ℕ → Option Port → List Instr
joined_code items n a i x None = open_code items n a i x
joined_code items n a i x (Some p) = Joined (operand (n, i)) (operand p) ∷ []

-- the code of a port, at most one instruction; the port by which its atom is found has none
abbrev pub port_code : List HeadItem → ℕ → HeadAtom → ℕ → ℕ → List Instr
port_code items n a i x =
    if is_entry i (entry items n a) then [] else joined_code items n a i x (find_port x (occurrences_before items n a i))

-- of the ports from i on, by rising index
abbrev pub ports_code : List HeadItem → ℕ → HeadAtom → ℕ → List ℕ → List Instr
ports_code items n a i [] = []
ports_code items n a i (x ∷ xs) = port_code items n a i x ++ ports_code items n a (i + 1) xs

-- the code of atom number n
abbrev pub atom_code : List HeadItem → ℕ → HeadAtom → List Instr
atom_code items n a =
    found_code n a (entry items n a) ++ (differ_code n a 0 (take n (atoms_of items)) ++ ports_code items n a 0 a.links)

-- NEQMEM against each of these membranes, the first of which has the number j, that has the level of b
abbrev pub differ_membrane_code : ℕ → HeadMembrane → ℕ → List HeadMembrane → List Instr
differ_membrane_code k b j [] = []
differ_membrane_code k b j (c ∷ cs) =
    (if c.inside == b.inside then NeqMem k j ∷ [] else []) ++ differ_membrane_code k b (j + 1) cs

-- the code of the membrane with index i
abbrev pub membrane_code : List HeadItem → ℕ → HeadMembrane → List Instr
membrane_code items i b = AnyMem (i + 1) b.inside ∷ differ_membrane_code (i + 1) b 1 (take i (membranes_of items))

-- The atoms and membranes, in the order of the head; the first atom of the list has the number n, the first membrane
-- the index i.
abbrev pub items_code : List HeadItem → ℕ → ℕ → List HeadItem → List Instr
items_code items n i [] = []
items_code items n i (Atom functor links inside ∷ xs) =
    atom_code items n (record { functor = functor; links = links; inside = inside }) ++ items_code items (n + 1) i xs
items_code items n i (Typed name kind link inside ∷ xs) = items_code items n i xs
items_code items n i (Membrane inside has_context has_closed_context has_rule_context ∷ xs) =
    membrane_code items i (record { inside = inside; has_context = has_context; has_closed_context = has_closed_context; has_rule_context = has_rule_context }) ++ items_code items n (i + 1) xs

-- the test of a typed context by its kind, the narrowest that the guard asks
abbrev pub test_of : TypeKind → ℕ → AtomPort → ℕ → Instr
test_of kind.Int g p m = IsInt g p m
test_of kind.Unary g p m = IsUnary g p m
test_of kind.Ground g p m = IsGround g p m

-- of the typed context with number g, at the place of the link that holds it
abbrev pub part_code : ℕ → HeadTyped → Option Port → List Instr
part_code g t None = []
part_code g t (Some p) = test_of t.kind g (operand p) t.inside ∷ []

-- each typed context, the first of which has the number g
abbrev pub parts_code : List HeadItem → ℕ → List HeadTyped → List Instr
parts_code items g [] = []
parts_code items g (t ∷ ts) = part_code g t (find_port t.link (at_atoms 0 (atoms_of items))) ++ parts_code items (g + 1) ts

-- how many items of a list are written in membrane number k
abbrev pub number_inside : {A : Type 0} → (A → ℕ) → ℕ → List A → ℕ
number_inside inside k [] = 0
number_inside inside k (a ∷ as') = (if inside a == k then 1 else 0) + number_inside inside k as'

-- the numbers of the typed contexts that are written in membrane number k; the first of the list has the number g
abbrev pub parts_inside : ℕ → ℕ → List HeadTyped → List ℕ
parts_inside k g [] = []
parts_inside k g (t ∷ ts) = (if t.inside == k then g ∷ [] else []) ++ parts_inside k (g + 1) ts

-- Membrane number k holds nothing else: without an untyped context no other atom, but for those of its typed contexts, and
-- no other membrane; without a rule context no rule. With a closed context no link leaves its rest.
abbrev pub filled_code : List HeadItem → ℕ → HeadMembrane → List Instr
filled_code items k b =
    (if b.has_context then []
    else NAtoms k (number_inside (λ a. a.inside) k (atoms_of items)) (parts_inside k 0 (typed_contexts_of items)) ∷ (NMems k (number_inside (λ b. b.inside) k (membranes_of items)) ∷ []))
    ++ ((if b.has_rule_context then [] else NoRules k ∷ [])
    ++ (if b.has_closed_context then IsClosed k (parts_inside k 0 (typed_contexts_of items)) ∷ [] else []))

-- of each membrane, the first of which has the number k
abbrev pub all_filled_code : List HeadItem → ℕ → List HeadMembrane → List Instr
all_filled_code items k [] = []
all_filled_code items k (b ∷ bs) = filled_code items k b ++ all_filled_code items (k + 1) bs

-- Code that computes an integer into register `at`; the next register that isn't used yet is `next`.
pub record Computed : Type 0 where
  pub code : List Instr
  pub at : ℕ
  pub next : ℕ

-- the instruction of an operator, with its register and those of its operands
abbrev pub operator_instruction : Arith → ℕ → ℕ → ℕ → Instr
operator_instruction arith.Add v w x = Add v w x
operator_instruction arith.Sub v w x = Sub v w x
operator_instruction arith.Mul v w x = Mul v w x
operator_instruction arith.Div v w x = Div v w x
operator_instruction arith.Mod v w x = Mod v w x

-- an integer of the head by its part, or one that is bound
abbrev pub named_code : Option ℕ → ℕ → ℕ → Computed
named_code None bound v = record { code = []; at = bound; next = v }
named_code (Some g) bound v = record { code = GetInt v g ∷ []; at = v; next = v + 1 }

-- the left operand comes first; `right` is the code of the right one from a register on
abbrev pub operation_code : Arith → Computed → (ℕ → Computed) → Computed
operation_code o a right =
    let b = right a.next in
    record { code = a.code ++ (b.code ++ (operator_instruction o b.next a.at b.at ∷ [])); at = b.next; next = b.next + 1 }

-- The code of an expression from register v on. `part` gives the number of a typed context by its name, `bound` the register
-- of a name that is bound. Each constant is loaded by CONST, each occurrence of a context of the head by GETINT, and a bound
-- name has its register.
abbrev pub value_code : (ℕ → Option ℕ) → (ℕ → ℕ) → Expr → ℕ → Computed
value_code part bound (expr.Int z) v = record { code = Const v z ∷ []; at = v; next = v + 1 }
value_code part bound (expr.Ctx u) v = named_code (part u.name) (bound u.name) v
value_code part bound (expr.Op' o p left q right) v = operation_code o (value_code part bound left v) (value_code part bound right)

-- the instruction of a comparison, with the registers of its sides
abbrev pub comparison : Cmp → ℕ → ℕ → Instr
comparison cmp.Lt v w = Lt v w
comparison cmp.Le v w = Le v w
comparison cmp.Gt v w = Gt v w
comparison cmp.Ge v w = Ge v w
comparison cmp.Eq v w = Eq v w
comparison cmp.Ne v w = Ne v w

-- the number of the typed context that an expression is, if it is one
abbrev pub part_named : (ℕ → Option ℕ) → Option ℕ → Option ℕ
part_named part None = None
part_named part (Some x) = part x

-- The code of `=`: the left side is new and is bound to what is computed, or both sides are parts, which are compared.
-- `bound` is what follows in the first case, `compared` in the second.
abbrev pub equal_code : Option ℕ → Option ℕ → Computed → List Instr → List Instr → List Instr
equal_code None right c bound compared = c.code ++ bound
equal_code (Some g) None c bound compared = compared
equal_code (Some g) (Some k) c bound compared = EqGround g k ∷ compared

-- the code of `\=`
abbrev pub differ_parts_code : Option ℕ → Option ℕ → List Instr
differ_parts_code None right = []
differ_parts_code (Some g) None = []
differ_parts_code (Some g) (Some k) = NeqGround g k ∷ []

-- registers of names, with name x in register w
abbrev pub bind_register : (ℕ → ℕ) → ℕ → ℕ → ℕ → ℕ
bind_register bound x w y = if y == x then w else bound y

-- The conditions from left to right, where v is the next integer register. `part` gives the number of a typed context of the
-- head by its name, and `bound` the register of a name that is bound: such a name has no instruction of its own, since what
-- computes its value has filled its register. A condition on a type is met by the tests of the typed contexts.
abbrev pub guard_code : (ℕ → Option ℕ) → (ℕ → ℕ) → ℕ → List Cond → List Instr
guard_code part bound v [] = []
guard_code part bound v (Kind n args pos ∷ cs) = guard_code part bound v cs
guard_code part bound v (Compare op left right pos ∷ cs) =
    let a = value_code part bound left v in
    let b = value_code part bound right a.next in
    a.code ++ (b.code ++ (comparison op a.at b.at ∷ guard_code part bound b.next cs))
guard_code part bound v (Equal left right pos ∷ cs) =
    let c = value_code part bound right v in
    equal_code (part left.name) (part_named part (context_alone right)) c
    (guard_code part (bind_register bound left.name c.at) c.next cs) (guard_code part bound v cs)
guard_code part bound v (Differ left right pos ∷ cs) = differ_parts_code (part left.name) (part right.name) ++ guard_code part bound v cs

-- The code of a head with these items and this guard.
abbrev pub head_code : List HeadItem → List Cond → List Instr
head_code items guard =
    items_code items 0 0 items
    ++ (parts_code items 0 (typed_contexts_of items)
    ++ (all_filled_code items 1 (membranes_of items)
    ++ (guard_code (typed_number (typed_contexts_of items) 0) (λ x. 0) 0 guard
    ++ (Commit ∷ []))))
