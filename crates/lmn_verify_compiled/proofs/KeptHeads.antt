-- A listing keeps all numbers of the code of a head, where it keeps those of its atoms and of its guard.
use Rattle.std.proofs.Common.{ℕ, suc, ◌+◌, ◌<◌, ◌≤◌, ◌^◌, List, [], ◌∷◌, ◌++◌, length, take, Option, Some, None, arith}
use Rattle.std.specs.Prelude.{Bool, true, false, ◌==◌, ◌&&◌, if◌then◌else◌}
use Rattle.std.specs.List.{AllByRecursion}
use Rattle.lmn_base.specs.declared.guard.Arith.{Arith}
use Rattle.lmn_base.specs.declared.guard.Arith.TheVariants as op
use Rattle.lmn_base.specs.declared.guard.Cmp.{Cmp}
use Rattle.lmn_base.specs.declared.guard.Cmp.TheVariants as cmp
use Rattle.lmn_base.specs.declared.guard.Expr.{Expr}
use Rattle.lmn_base.specs.declared.guard.Expr.TheVariants as expr
use Rattle.lmn_base.specs.declared.guard.Cond.{Cond}
use Rattle.lmn_base.specs.declared.guard.Cond.TheVariants.{Kind, Compare, Equal, Differ}
use Rattle.lmn_store_heap.specs.Functors.{same_functor}
use Rattle.lmn_guards.specs.declared.plan.TypeKind.{TypeKind}
use Rattle.lmn_guards.specs.declared.plan.TypeKind.TheVariants as kind
use Rattle.lmn_solid_heads.specs.declared.items.HeadItem.{HeadItem}
use Rattle.lmn_solid_heads.specs.declared.items.HeadItem.TheVariants.{Atom, Typed, Membrane}
use Rattle.lmn_solid_heads.specs.Heads.{HeadAtom, HeadTyped, HeadMembrane, atoms_of, typed_contexts_of, membranes_of, at_atoms, links_of_head, times, outermost}
use Rattle.lmn_solid_heads.specs.Guards.{typed_number, context_alone}
use Rattle.lmn_instr_code.specs.declared.instr.AtomPort.{AtomPort}
use Rattle.lmn_instr_code.specs.declared.instr.Instr.{Instr}
use Rattle.lmn_instr_code.specs.declared.instr.Instr.TheVariants.{NeqAtom, NotIn, NeqMem, NAtoms, NMems, NoRules, IsClosed, Commit}
use Rattle.lmn_instr_code.specs.HeadCode.{items_code, atom_code, found_code, Entry, entry, differ_code, ports_code, port_code, joined_code, open_code, find_port, occurrences_before, is_entry, membrane_code, differ_membrane_code, parts_code, part_code, test_of, filled_code, all_filled_code, number_inside, parts_inside, head_code, operand, operator_instruction, comparison, named_code, value_code, equal_code, part_named, differ_parts_code, bind_register, guard_code}
use Rattle.lmn_instr_code.specs.HeadCode.{entry_or, entry_from}
use Rattle.lmn_base.specs.Graphs.{Port}
use Rattle.lmn_base.specs.Limits.{most_links}
use Rattle.lmn_instr_reading.specs.Reading.{IsIn64Bits}
use Rattle.lmn_solid_heads.specs.Heads.{Occurrence}
use Rattle.lmn_instr_code.specs.declared.words.Operand.TheVariants as operand_of
use Rattle.lmn_instr_code.specs.Words.{operands}
use Rattle.lmn_verify_compiled.specs.Kept.{IsKept, AreKept}

-- a listing keeps the operands of an instruction
abbrev pub KeptInstr : Instr → Type 0
KeptInstr i = AllByRecursion IsKept (operands i)

-- of two lists in one
pub both : (xs ys : List Instr) → AreKept xs → AreKept ys → AreKept (xs ++ ys)
both [] ys p q = q
both (x ∷ xs) ys p q = (p.0, both xs ys p.1 q)

-- and of a list that stands or doesn't
pub if_kept : (b : Bool) (xs : List Instr) → AreKept xs → AreKept (if b then xs else [])
if_kept true xs p = p
if_kept false xs p = tt

unless_kept : (b : Bool) (xs : List Instr) → AreKept xs → AreKept (if b then [] else xs)
unless_kept true xs p = tt
unless_kept false xs p = p

-- ---- atoms

-- an entry is one of so many ports
abbrev IsBelow : ℕ → Option Entry → Type 0
IsBelow n None = Unit {0}
IsBelow n (Some e) = e.0 < n

or_below : (n i : ℕ) (p : Option Port) (later : Option Entry) → i < n → IsBelow n later → IsBelow n (entry_or i p later)
or_below n i None later l h = h
or_below n i (Some p) later l h = l

from_below : (n : ℕ) (earlier : List Occurrence) (i : ℕ) (xs : List ℕ) → i + length xs ≤ n → IsBelow n (entry_from earlier i xs)
from_below n earlier i [] l = tt
from_below n earlier i (x ∷ xs) l = or_below n i (find_port x earlier) (entry_from earlier (i + 1) xs) (omega (arith, l)) (from_below n earlier (i + 1) xs (omega (arith, l)))

found_kept : (n : ℕ) (a : HeadAtom) (e : Option Entry) → IsBelow most_links e → IsKept (operand_of.Functor a.functor) → AreKept (found_code n a e)
found_kept n a None l h = ((tt, (tt, (h, tt))), tt)
found_kept n a (Some e) l h = ((tt, (tt, (omega (arith, l), tt))), ((tt, (h, tt)), ((tt, (tt, tt)), tt)))

differ_kept : (n : ℕ) (a : HeadAtom) (k : ℕ) (bs : List HeadAtom) → AreKept (differ_code n a k bs)
differ_kept n a k [] = tt
differ_kept n a k (b ∷ bs) =
    let t = (b.inside == a.inside) && same_functor b.functor a.functor in
    both (if t then NeqAtom n k ∷ [] else []) (differ_code n a (k + 1) bs) (if_kept t (NeqAtom n k ∷ []) ((tt, (tt, tt)), tt)) (differ_kept n a (k + 1) bs)

open_kept : (items : List HeadItem) (n : ℕ) (a : HeadAtom) (i x : ℕ) → AreKept (open_code items n a i x)
open_kept items n a i x =
    let is = NotIn (operand (n, i)) (outermost (membranes_of items) a.inside) ∷ [] in
    unless_kept (a.inside == 0) (if times x (links_of_head items) == 1 then is else []) (if_kept (times x (links_of_head items) == 1) is ((tt, (tt, tt)), tt))

joined_kept : (items : List HeadItem) (n : ℕ) (a : HeadAtom) (i x : ℕ) (p : Option Port) → AreKept (joined_code items n a i x p)
joined_kept items n a i x None = open_kept items n a i x
joined_kept items n a i x (Some p) = ((tt, (tt, tt)), tt)

ports_kept : (items : List HeadItem) (n : ℕ) (a : HeadAtom) (i : ℕ) (xs : List ℕ) → AreKept (ports_code items n a i xs)
ports_kept items n a i [] = tt
ports_kept items n a i (x ∷ xs) =
    let p = find_port x (occurrences_before items n a i) in
    both (port_code items n a i x) (ports_code items n a (i + 1) xs)
    (unless_kept (is_entry i (entry items n a)) (joined_code items n a i x p) (joined_kept items n a i x p)) (ports_kept items n a (i + 1) xs)

atom_kept : (items : List HeadItem) (n : ℕ) (a : HeadAtom) → IsKept (operand_of.Functor a.functor) → length a.links ≤ most_links → AreKept (atom_code items n a)
atom_kept items n a h few =
    let earlier = take n (atoms_of items) in
    let below = from_below most_links (at_atoms 0 earlier) 0 a.links (omega (arith, few)) in
    both (found_code n a (entry items n a)) (differ_code n a 0 earlier ++ ports_code items n a 0 a.links) (found_kept n a (entry items n a) below h)
    (both (differ_code n a 0 earlier) (ports_code items n a 0 a.links) (differ_kept n a 0 earlier) (ports_kept items n a 0 a.links))

-- ---- membranes

differ_membranes_kept : (k : ℕ) (b : HeadMembrane) (j : ℕ) (ds : List HeadMembrane) → AreKept (differ_membrane_code k b j ds)
differ_membranes_kept k b j [] = tt
differ_membranes_kept k b j (d ∷ ds) =
    let t = d.inside == b.inside in
    both (if t then NeqMem k j ∷ [] else []) (differ_membrane_code k b (j + 1) ds) (if_kept t (NeqMem k j ∷ []) ((tt, (tt, tt)), tt)) (differ_membranes_kept k b (j + 1) ds)

-- no more are counted than there are
counted : {A : Type 0} (inside : A → ℕ) (k : ℕ) (xs : List A) → number_inside inside k xs ≤ length xs
counted inside k [] = omega arith
counted inside k (x ∷ xs) = on (inside x == k) (counted inside k xs)
  where
    on : (t : Bool) → number_inside inside k xs ≤ length xs → (if t then 1 else 0) + number_inside inside k xs ≤ suc (length xs)
    on true l = omega (arith, l)
    on false l = omega (arith, l)

few_atoms : (xs : List HeadItem) → length (atoms_of xs) ≤ length xs
few_atoms [] = omega arith
few_atoms (Atom f ls m ∷ xs) = let l = few_atoms xs in omega (arith, l)
few_atoms (Typed p k l m ∷ xs) = let l = few_atoms xs in omega (arith, l)
few_atoms (Membrane m a b c ∷ xs) = let l = few_atoms xs in omega (arith, l)

few_membranes : (xs : List HeadItem) → length (membranes_of xs) ≤ length xs
few_membranes [] = omega arith
few_membranes (Atom f ls m ∷ xs) = let l = few_membranes xs in omega (arith, l)
few_membranes (Typed p k l m ∷ xs) = let l = few_membranes xs in omega (arith, l)
few_membranes (Membrane m a b c ∷ xs) = let l = few_membranes xs in omega (arith, l)

atoms_counted : (k n : ℕ) (gs : List ℕ) → n < 2 ^ 64 → KeptInstr (NAtoms k n gs)
atoms_counted k n [] few = (tt, (few, tt))
atoms_counted k n (g ∷ gs) few = let h = atoms_counted k n gs few in (tt, (few, (tt, h.1.1)))

rest_closed : (k : ℕ) (gs : List ℕ) → KeptInstr (IsClosed k gs)
rest_closed k [] = (tt, tt)
rest_closed k (g ∷ gs) = let h = rest_closed k gs in (tt, (tt, h.1))

filled_kept : (items : List HeadItem) → length items < 2 ^ 15 → (k : ℕ) (b : HeadMembrane) → AreKept (filled_code items k b)
filled_kept items few k b =
    let gs = parts_inside k 0 (typed_contexts_of items) in
    let many = number_inside (λ a. a.inside) k (atoms_of items) in
    let is = NAtoms k many gs ∷ (NMems k (number_inside (λ b. b.inside) k (membranes_of items)) ∷ []) in
    let held = number_inside (λ b. b.inside) k (membranes_of items) in
    let atoms = counted (λ (a : HeadAtom). a.inside) k (atoms_of items) in
    let all_atoms = few_atoms items in
    let membranes = counted (λ (b : HeadMembrane). b.inside) k (membranes_of items) in
    let all_membranes = few_membranes items in
    let closed = IsClosed k gs ∷ [] in
    both (if b.has_context then [] else is) ((if b.has_rule_context then [] else NoRules k ∷ []) ++ (if b.has_closed_context then closed else []))
    (unless_kept b.has_context is (atoms_counted k many gs (omega (arith, atoms, all_atoms, few)), ((tt, (omega (arith, membranes, all_membranes, few), tt)), tt)))
    (both (if b.has_rule_context then [] else NoRules k ∷ []) (if b.has_closed_context then closed else [])
    (unless_kept b.has_rule_context (NoRules k ∷ []) ((tt, tt), tt)) (if_kept b.has_closed_context closed (rest_closed k gs, tt)))

all_filled_kept : (items : List HeadItem) → length items < 2 ^ 15 → (k : ℕ) (bs : List HeadMembrane) → AreKept (all_filled_code items k bs)
all_filled_kept items few k [] = tt
all_filled_kept items few k (b ∷ bs) = both (filled_code items k b) (all_filled_code items (k + 1) bs) (filled_kept items few k b) (all_filled_kept items few (k + 1) bs)

-- ---- typed contexts

test_kept : (k : TypeKind) (g : ℕ) (p : AtomPort) (m : ℕ) → KeptInstr (test_of k g p m)
test_kept kind.Int g p m = (tt, (tt, (tt, tt)))
test_kept kind.Unary g p m = (tt, (tt, (tt, tt)))
test_kept kind.Ground g p m = (tt, (tt, (tt, tt)))

part_kept : (g : ℕ) (t : HeadTyped) (p : Option Port) → AreKept (part_code g t p)
part_kept g t None = tt
part_kept g t (Some p) = (test_kept t.kind g (operand p) t.inside, tt)

parts_kept : (items : List HeadItem) (g : ℕ) (ts : List HeadTyped) → AreKept (parts_code items g ts)
parts_kept items g [] = tt
parts_kept items g (t ∷ ts) =
    let p = find_port t.link (at_atoms 0 (atoms_of items)) in
    both (part_code g t p) (parts_code items (g + 1) ts) (part_kept g t p) (parts_kept items (g + 1) ts)

-- ---- the guard

operation_kept : (o : Arith) (v w x : ℕ) → KeptInstr (operator_instruction o v w x)
operation_kept op.Add v w x = (tt, (tt, (tt, tt)))
operation_kept op.Sub v w x = (tt, (tt, (tt, tt)))
operation_kept op.Mul v w x = (tt, (tt, (tt, tt)))
operation_kept op.Div v w x = (tt, (tt, (tt, tt)))
operation_kept op.Mod v w x = (tt, (tt, (tt, tt)))

comparison_kept : (c : Cmp) (v w : ℕ) → KeptInstr (comparison c v w)
comparison_kept cmp.Lt v w = (tt, (tt, tt))
comparison_kept cmp.Le v w = (tt, (tt, tt))
comparison_kept cmp.Gt v w = (tt, (tt, tt))
comparison_kept cmp.Ge v w = (tt, (tt, tt))
comparison_kept cmp.Eq v w = (tt, (tt, tt))
comparison_kept cmp.Ne v w = (tt, (tt, tt))

named_kept : (g : Option ℕ) (bound v : ℕ) → AreKept (named_code g bound v).code
named_kept None bound v = tt
named_kept (Some g) bound v = ((tt, (tt, tt)), tt)

-- each integer of an expression has 64 bits
abbrev pub KeptExpr : Expr → Type 0
KeptExpr (expr.Int z) = IsIn64Bits z
KeptExpr (expr.Ctx u) = Unit {0}
KeptExpr (expr.Op' o p left q right) = KeptExpr left × KeptExpr right

-- and each of a condition
abbrev pub KeptCond : Cond → Type 0
KeptCond (Kind n args pos) = Unit {0}
KeptCond (Compare o left right pos) = KeptExpr left × KeptExpr right
KeptCond (Equal left right pos) = KeptExpr right
KeptCond (Differ left right pos) = Unit {0}

value_kept : (part : ℕ → Option ℕ) (bound : ℕ → ℕ) (e : Expr) (v : ℕ) → KeptExpr e → AreKept (value_code part bound e v).code
value_kept part bound (expr.Int z) v h = ((tt, (h, tt)), tt)
value_kept part bound (expr.Ctx u) v h = named_kept (part u.name) (bound u.name) v
value_kept part bound (expr.Op' o p left q right) v h =
    let a = value_code part bound left v in
    let b = value_code part bound right a.next in
    both a.code (b.code ++ (operator_instruction o b.next a.at b.at ∷ [])) (value_kept part bound left v h.0)
    (both b.code (operator_instruction o b.next a.at b.at ∷ []) (value_kept part bound right a.next h.1) (operation_kept o b.next a.at b.at, tt))

equal_kept : (left right : Option ℕ) (part : ℕ → Option ℕ) (bound : ℕ → ℕ) (e : Expr) (v : ℕ) (bs cs : List Instr) → KeptExpr e → AreKept bs → AreKept cs →
    AreKept (equal_code left right (value_code part bound e v) bs cs)
equal_kept None right part bound e v bs cs k p q = both (value_code part bound e v).code bs (value_kept part bound e v k) p
equal_kept (Some g) None part bound e v bs cs k p q = q
equal_kept (Some g) (Some j) part bound e v bs cs k p q = ((tt, (tt, tt)), q)

differ_parts_kept : (left right : Option ℕ) → AreKept (differ_parts_code left right)
differ_parts_kept None right = tt
differ_parts_kept (Some g) None = tt
differ_parts_kept (Some g) (Some k) = ((tt, (tt, tt)), tt)

guard_kept : (part : ℕ → Option ℕ) (bound : ℕ → ℕ) (v : ℕ) (cs : List Cond) → AllByRecursion KeptCond cs → AreKept (guard_code part bound v cs)
guard_kept part bound v [] h = tt
guard_kept part bound v (Kind n args pos ∷ cs) h = guard_kept part bound v cs h.1
guard_kept part bound v (Compare o left right pos ∷ cs) h =
    let a = value_code part bound left v in
    let b = value_code part bound right a.next in
    let rest = comparison o a.at b.at ∷ guard_code part bound b.next cs in
    both a.code (b.code ++ rest) (value_kept part bound left v h.0.0)
    (both b.code rest (value_kept part bound right a.next h.0.1) (comparison_kept o a.at b.at, guard_kept part bound b.next cs h.1))
guard_kept part bound v (Equal left right pos ∷ cs) h =
    let c = value_code part bound right v in
    let later = bind_register bound left.name c.at in
    equal_kept (part left.name) (part_named part (context_alone right)) part bound right v (guard_code part later c.next cs) (guard_code part bound v cs) h.0
    (guard_kept part later c.next cs h.1) (guard_kept part bound v cs h.1)
guard_kept part bound v (Differ left right pos ∷ cs) h =
    both (differ_parts_code (part left.name) (part right.name)) (guard_code part bound v cs) (differ_parts_kept (part left.name) (part right.name)) (guard_kept part bound v cs h.1)

-- ---- the whole head

-- a listing keeps the functor of an item, if it is an atom, which hasn't too many links
abbrev pub KeptItem : HeadItem → Type 0
KeptItem (Atom functor links inside) = IsKept (operand_of.Functor functor) × (length links ≤ most_links)
KeptItem (Typed name kind link inside) = Unit {0}
KeptItem (Membrane inside has_context has_closed_context has_rule_context) = Unit {0}

items_kept : (items : List HeadItem) (n i : ℕ) (xs : List HeadItem) → AllByRecursion KeptItem xs → AreKept (items_code items n i xs)
items_kept items n i [] h = tt
items_kept items n i (Atom f ls m ∷ xs) h =
    let a : HeadAtom = record { functor = f; links = ls; inside = m } in
    both (atom_code items n a) (items_code items (n + 1) i xs) (atom_kept items n a h.0.0 h.0.1) (items_kept items (n + 1) i xs h.1)
items_kept items n i (Typed p k l m ∷ xs) h = items_kept items n i xs h.1
items_kept items n i (Membrane m c1 cl c2 ∷ xs) h =
    let b : HeadMembrane = record { inside = m; has_context = c1; has_closed_context = cl; has_rule_context = c2 } in
    both (membrane_code items i b) (items_code items n (i + 1) xs) ((tt, (tt, tt)), differ_membranes_kept (i + 1) b 1 (take i (membranes_of items))) (items_kept items n (i + 1) xs h.1)

-- so it keeps the code
pub head_kept : (items : List HeadItem) (guard : List Cond) → length items < 2 ^ 15 → AllByRecursion KeptCond guard → AllByRecursion KeptItem items → AreKept (head_code items guard)
head_kept items guard few asked h =
    let ps = parts_code items 0 (typed_contexts_of items) in
    let fs = all_filled_code items 1 (membranes_of items) in
    let part = typed_number (typed_contexts_of items) 0 in
    let gs = guard_code part (λ x. 0) 0 guard in
    let last : AreKept (Commit ∷ []) = (tt, tt) in
    both (items_code items 0 0 items) (ps ++ (fs ++ (gs ++ (Commit ∷ [])))) (items_kept items 0 0 items h)
    (both ps (fs ++ (gs ++ (Commit ∷ []))) (parts_kept items 0 (typed_contexts_of items))
    (both fs (gs ++ (Commit ∷ [])) (all_filled_kept items few 1 (membranes_of items))
    (both gs (Commit ∷ []) (guard_kept part (λ x. 0) 0 guard asked) last)))
