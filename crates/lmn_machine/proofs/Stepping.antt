-- Steps of the machine, and what is passed so far.
use Rattle.std.proofs.Common.{ℕ, ℤ, zero, suc, ◌≡◌, ◌≤◌, ◌+◌, List, [], ◌∷◌, Some, refl, arith, ap, sym, subst, length, take, drop, ◌∙◌}
use Rattle.std.specs.Prelude.{Bool, true, false, slice_get, ◌<◌}
use Rattle.std.specs.List.{AllByRecursion}
use Rattle.lmn_base.specs.declared.functor.Functor.{Functor}
use Rattle.lmn_store_heap.specs.Heap.{Heap}
use Rattle.lmn_solid_heads.specs.Embeddings.{ListNotAfter}
use Rattle.lmn_instr_code.specs.declared.instr.AtomPort.{AtomPort}
use Rattle.lmn_instr_code.specs.declared.instr.Instr.{Instr}
use Rattle.lmn_instr_code.specs.declared.instr.Instr.TheVariants.{FindAtom, Deref, Func, InMem, NeqAtom, Joined, NotIn, AnyMem, NeqMem, IsInt, IsUnary, IsGround, NAtoms, NMems, NoRules, IsClosed, EqGround, NeqGround, GetInt, Const, Add, Sub, Mul, Div, Mod, Lt, Le, Gt, Ge, Eq, Ne, Commit}
use Rattle.lmn_instr_code.specs.Running.{HeadRegisters, HeadSize, InstructionHolds, AllHold, atoms_set, membranes_set, choices}
use Rattle.lmn_instr_pool.specs.Extents.{Acts, NoneFrom}
use Rattle.lmn_machine_registers.specs.declared.registers.SetRegisters.{SetRegisters}
use Rattle.lmn_machine_registers.specs.Agreeing.{Agrees}
use Rattle.lmn_machine.specs.Searching.{AreHeldWhole, Compares, Extends, SetsAll, AllSet, TestsSetRegisters, Searched, Stepped, ChoosesNone, HeadInOrder, SetsMore, parts_set, integers_set}
use Rattle.lmn_machine.specs.Outcomes.{ComparesIntegers}
use Rattle.lmn_base.proofs.Lists.{take_whole as take_all}

-- tests set no register

check_order : (i : Instr) (a m g v : ℕ) (is : List Instr) → TestsSetRegisters a m v i → HeadInOrder a m g v (i ∷ is) → HeadInOrder a m g v is
check_order (FindAtom x y f) a m g v is r o = absurd r
check_order (AnyMem x y) a m g v is r o = absurd r
check_order (Deref x p e) a m g v is r o = absurd r
check_order (IsInt x p y) a m g v is r o = absurd r
check_order (IsUnary x p y) a m g v is r o = absurd r
check_order (IsGround x p y) a m g v is r o = absurd r
check_order (EqGround x y) a m g v is r o = absurd r
check_order (NeqGround x y) a m g v is r o = absurd r
check_order (NAtoms x n gs) a m g v is r o = absurd r
check_order (IsClosed x gs) a m g v is r o = absurd r
check_order (GetInt x y) a m g v is r o = absurd r
check_order (Const x z) a m g v is r o = absurd r
check_order (Add x y z) a m g v is r o = absurd r
check_order (Sub x y z) a m g v is r o = absurd r
check_order (Mul x y z) a m g v is r o = absurd r
check_order (Div x y z) a m g v is r o = absurd r
check_order (Mod x y z) a m g v is r o = absurd r
check_order _ a m g v is r o = o.1

-- an instruction of a head in order that is none of these compares integers
pub left_over : (i : Instr) (a m g v : ℕ) → HeadInOrder a m g v (i ∷ []) →
    ((x y : ℕ) (f : Functor) → i ≡ FindAtom x y f → ⊥) → ((x y : ℕ) → i ≡ AnyMem x y → ⊥) → ((x : ℕ) (p : AtomPort) (e : ℕ) → i ≡ Deref x p e → ⊥) →
    ((x : ℕ) (p : AtomPort) (y : ℕ) → i ≡ IsInt x p y → ⊥) → ((x : ℕ) (p : AtomPort) (y : ℕ) → i ≡ IsUnary x p y → ⊥) →
    ((x : ℕ) (p : AtomPort) (y : ℕ) → i ≡ IsGround x p y → ⊥) → ((x y : ℕ) → i ≡ EqGround x y → ⊥) → ((x y : ℕ) → i ≡ NeqGround x y → ⊥) →
    ((x n : ℕ) (gs : List ℕ) → i ≡ NAtoms x n gs → ⊥) → ((x : ℕ) (gs : List ℕ) → i ≡ IsClosed x gs → ⊥) → ((x y : ℕ) → i ≡ GetInt x y → ⊥) →
    ((x : ℕ) (z : ℤ) → i ≡ Const x z → ⊥) → ((x y z : ℕ) → i ≡ Add x y z → ⊥) → ((x y z : ℕ) → i ≡ Sub x y z → ⊥) → ((x y z : ℕ) → i ≡ Mul x y z → ⊥) →
    ((x y z : ℕ) → i ≡ Div x y z → ⊥) → ((x y z : ℕ) → i ≡ Mod x y z → ⊥) → ((x : ℕ) (f : Functor) → i ≡ Func x f → ⊥) →
    ((x y : ℕ) → i ≡ InMem x y → ⊥) → ((x y : ℕ) → i ≡ NeqAtom x y → ⊥) → ((p q : AtomPort) → i ≡ Joined p q → ⊥) → ((x y : ℕ) → i ≡ NeqMem x y → ⊥) →
    ((x n : ℕ) → i ≡ NMems x n → ⊥) → ((x : ℕ) → i ≡ NoRules x → ⊥) → ((p : AtomPort) (x : ℕ) → i ≡ NotIn p x → ⊥) → ComparesIntegers i
left_over (FindAtom x y f) a m g v o h0 h1 h2 h3 h4 h5 h6 h7 h8 h9 h10 h11 h12 h13 h14 h15 h16 h17 h18 h19 h20 h21 h22 h23 h24 = absurd (h0 x y f refl)
left_over (AnyMem x y) a m g v o h0 h1 h2 h3 h4 h5 h6 h7 h8 h9 h10 h11 h12 h13 h14 h15 h16 h17 h18 h19 h20 h21 h22 h23 h24 = absurd (h1 x y refl)
left_over (Deref x p e) a m g v o h0 h1 h2 h3 h4 h5 h6 h7 h8 h9 h10 h11 h12 h13 h14 h15 h16 h17 h18 h19 h20 h21 h22 h23 h24 = absurd (h2 x p e refl)
left_over (IsInt x p y) a m g v o h0 h1 h2 h3 h4 h5 h6 h7 h8 h9 h10 h11 h12 h13 h14 h15 h16 h17 h18 h19 h20 h21 h22 h23 h24 = absurd (h3 x p y refl)
left_over (IsUnary x p y) a m g v o h0 h1 h2 h3 h4 h5 h6 h7 h8 h9 h10 h11 h12 h13 h14 h15 h16 h17 h18 h19 h20 h21 h22 h23 h24 = absurd (h4 x p y refl)
left_over (IsGround x p y) a m g v o h0 h1 h2 h3 h4 h5 h6 h7 h8 h9 h10 h11 h12 h13 h14 h15 h16 h17 h18 h19 h20 h21 h22 h23 h24 = absurd (h5 x p y refl)
left_over (EqGround x y) a m g v o h0 h1 h2 h3 h4 h5 h6 h7 h8 h9 h10 h11 h12 h13 h14 h15 h16 h17 h18 h19 h20 h21 h22 h23 h24 = absurd (h6 x y refl)
left_over (NeqGround x y) a m g v o h0 h1 h2 h3 h4 h5 h6 h7 h8 h9 h10 h11 h12 h13 h14 h15 h16 h17 h18 h19 h20 h21 h22 h23 h24 = absurd (h7 x y refl)
left_over (NAtoms x n gs) a m g v o h0 h1 h2 h3 h4 h5 h6 h7 h8 h9 h10 h11 h12 h13 h14 h15 h16 h17 h18 h19 h20 h21 h22 h23 h24 = absurd (h8 x n gs refl)
left_over (IsClosed x gs) a m g v o h0 h1 h2 h3 h4 h5 h6 h7 h8 h9 h10 h11 h12 h13 h14 h15 h16 h17 h18 h19 h20 h21 h22 h23 h24 = absurd (h9 x gs refl)
left_over (GetInt x y) a m g v o h0 h1 h2 h3 h4 h5 h6 h7 h8 h9 h10 h11 h12 h13 h14 h15 h16 h17 h18 h19 h20 h21 h22 h23 h24 = absurd (h10 x y refl)
left_over (Const x z) a m g v o h0 h1 h2 h3 h4 h5 h6 h7 h8 h9 h10 h11 h12 h13 h14 h15 h16 h17 h18 h19 h20 h21 h22 h23 h24 = absurd (h11 x z refl)
left_over (Add x y z) a m g v o h0 h1 h2 h3 h4 h5 h6 h7 h8 h9 h10 h11 h12 h13 h14 h15 h16 h17 h18 h19 h20 h21 h22 h23 h24 = absurd (h12 x y z refl)
left_over (Sub x y z) a m g v o h0 h1 h2 h3 h4 h5 h6 h7 h8 h9 h10 h11 h12 h13 h14 h15 h16 h17 h18 h19 h20 h21 h22 h23 h24 = absurd (h13 x y z refl)
left_over (Mul x y z) a m g v o h0 h1 h2 h3 h4 h5 h6 h7 h8 h9 h10 h11 h12 h13 h14 h15 h16 h17 h18 h19 h20 h21 h22 h23 h24 = absurd (h14 x y z refl)
left_over (Div x y z) a m g v o h0 h1 h2 h3 h4 h5 h6 h7 h8 h9 h10 h11 h12 h13 h14 h15 h16 h17 h18 h19 h20 h21 h22 h23 h24 = absurd (h15 x y z refl)
left_over (Mod x y z) a m g v o h0 h1 h2 h3 h4 h5 h6 h7 h8 h9 h10 h11 h12 h13 h14 h15 h16 h17 h18 h19 h20 h21 h22 h23 h24 = absurd (h16 x y z refl)
left_over (Func x f) a m g v o h0 h1 h2 h3 h4 h5 h6 h7 h8 h9 h10 h11 h12 h13 h14 h15 h16 h17 h18 h19 h20 h21 h22 h23 h24 = absurd (h17 x f refl)
left_over (InMem x y) a m g v o h0 h1 h2 h3 h4 h5 h6 h7 h8 h9 h10 h11 h12 h13 h14 h15 h16 h17 h18 h19 h20 h21 h22 h23 h24 = absurd (h18 x y refl)
left_over (NeqAtom x y) a m g v o h0 h1 h2 h3 h4 h5 h6 h7 h8 h9 h10 h11 h12 h13 h14 h15 h16 h17 h18 h19 h20 h21 h22 h23 h24 = absurd (h19 x y refl)
left_over (Joined p q) a m g v o h0 h1 h2 h3 h4 h5 h6 h7 h8 h9 h10 h11 h12 h13 h14 h15 h16 h17 h18 h19 h20 h21 h22 h23 h24 = absurd (h20 p q refl)
left_over (NeqMem x y) a m g v o h0 h1 h2 h3 h4 h5 h6 h7 h8 h9 h10 h11 h12 h13 h14 h15 h16 h17 h18 h19 h20 h21 h22 h23 h24 = absurd (h21 x y refl)
left_over (NMems x n) a m g v o h0 h1 h2 h3 h4 h5 h6 h7 h8 h9 h10 h11 h12 h13 h14 h15 h16 h17 h18 h19 h20 h21 h22 h23 h24 = absurd (h22 x n refl)
left_over (NoRules x) a m g v o h0 h1 h2 h3 h4 h5 h6 h7 h8 h9 h10 h11 h12 h13 h14 h15 h16 h17 h18 h19 h20 h21 h22 h23 h24 = absurd (h23 x refl)
left_over (NotIn p x) a m g v o h0 h1 h2 h3 h4 h5 h6 h7 h8 h9 h10 h11 h12 h13 h14 h15 h16 h17 h18 h19 h20 h21 h22 h23 h24 = absurd (h24 p x refl)
left_over (Lt x y) a m g v o h0 h1 h2 h3 h4 h5 h6 h7 h8 h9 h10 h11 h12 h13 h14 h15 h16 h17 h18 h19 h20 h21 h22 h23 h24 = tt
left_over (Le x y) a m g v o h0 h1 h2 h3 h4 h5 h6 h7 h8 h9 h10 h11 h12 h13 h14 h15 h16 h17 h18 h19 h20 h21 h22 h23 h24 = tt
left_over (Gt x y) a m g v o h0 h1 h2 h3 h4 h5 h6 h7 h8 h9 h10 h11 h12 h13 h14 h15 h16 h17 h18 h19 h20 h21 h22 h23 h24 = tt
left_over (Ge x y) a m g v o h0 h1 h2 h3 h4 h5 h6 h7 h8 h9 h10 h11 h12 h13 h14 h15 h16 h17 h18 h19 h20 h21 h22 h23 h24 = tt
left_over (Eq x y) a m g v o h0 h1 h2 h3 h4 h5 h6 h7 h8 h9 h10 h11 h12 h13 h14 h15 h16 h17 h18 h19 h20 h21 h22 h23 h24 = tt
left_over (Ne x y) a m g v o h0 h1 h2 h3 h4 h5 h6 h7 h8 h9 h10 h11 h12 h13 h14 h15 h16 h17 h18 h19 h20 h21 h22 h23 h24 = tt
left_over Commit a m g v o h0 h1 h2 h3 h4 h5 h6 h7 h8 h9 h10 h11 h12 h13 h14 h15 h16 h17 h18 h19 h20 h21 h22 h23 h24 = tt
left_over _ a m g v o h0 h1 h2 h3 h4 h5 h6 h7 h8 h9 h10 h11 h12 h13 h14 h15 h16 h17 h18 h19 h20 h21 h22 h23 h24 = absurd o.0

-- a comparison, in order, reads registers that are set
pub comparison_reads : (i : Instr) (a m g v : ℕ) → ComparesIntegers i → HeadInOrder a m g v (i ∷ []) → Compares v i
comparison_reads (Lt x y) a m g v t o = o.0
comparison_reads (Le x y) a m g v t o = o.0
comparison_reads (Gt x y) a m g v t o = o.0
comparison_reads (Ge x y) a m g v t o = o.0
comparison_reads (Eq x y) a m g v t o = o.0
comparison_reads (Ne x y) a m g v t o = o.0
comparison_reads Commit a m g v t o = tt
comparison_reads _ a m g v t o = absurd t

-- and it is a test of registers that are set
pub compares_tests : (i : Instr) (a m g v : ℕ) → ComparesIntegers i → HeadInOrder a m g v (i ∷ []) → TestsSetRegisters a m v i
compares_tests (Lt x y) a m g v t o = o.0
compares_tests (Le x y) a m g v t o = o.0
compares_tests (Gt x y) a m g v t o = o.0
compares_tests (Ge x y) a m g v t o = o.0
compares_tests (Eq x y) a m g v t o = o.0
compares_tests (Ne x y) a m g v t o = o.0
compares_tests Commit a m g v t o = tt
compares_tests _ a m g v t o = absurd t

-- what is set when an instruction is run that speaks of all registers of a head is all that its code sets
all_set : (c : HeadSize) (a m g v : ℕ) (i : Instr) (is : List Instr) → c.atoms ≡ a + atoms_set (i ∷ is) → c.membranes ≡ m + membranes_set (i ∷ is) → HeadInOrder a m g v (i ∷ is) → AllSet c a m i
all_set c a m g v (IsInt x p y) is e f o = let n = o.0.1 in omega (arith, e, n)
all_set c a m g v (IsUnary x p y) is e f o = let n = o.0.1 in omega (arith, e, n)
all_set c a m g v (IsGround x p y) is e f o = let n = o.0.1 in omega (arith, e, n)
all_set c a m g v (IsClosed x gs) is e f o = let n = o.0.2 in let k = o.0.3 in (omega (arith, e, n), omega (arith, f, k))
all_set c a m g v _ is e f o = tt

sets_more : (i : Instr) (is : List Instr) → atoms_set (i ∷ is) ≡ atoms_set (i ∷ []) + atoms_set is
sets_more (FindAtom x y f) is = omega arith
sets_more (Deref x p k) is = omega arith
sets_more _ is = omega arith

membranes_more : (i : Instr) (is : List Instr) → membranes_set (i ∷ is) ≡ membranes_set (i ∷ []) + membranes_set is
membranes_more (AnyMem x y) is = omega arith
membranes_more _ is = omega arith

parts_more : (i : Instr) (is : List Instr) → parts_set (i ∷ is) ≡ parts_set (i ∷ []) + parts_set is
parts_more (IsInt x p y) is = omega arith
parts_more (IsUnary x p y) is = omega arith
parts_more (IsGround x p y) is = omega arith
parts_more _ is = omega arith

-- code sets the integers that its first instruction sets, and then those of the others
pub integers_more : (i : Instr) (is : List Instr) → integers_set (i ∷ is) ≡ integers_set (i ∷ []) + integers_set is
integers_more (GetInt x y) is = omega arith
integers_more (Const x z) is = omega arith
integers_more (Add x y z) is = omega arith
integers_more (Sub x y z) is = omega arith
integers_more (Mul x y z) is = omega arith
integers_more (Div x y z) is = omega arith
integers_more (Mod x y z) is = omega arith
integers_more _ is = omega arith

-- what neither asks nor does anything is COMMIT
no_act : (i : Instr) → (Acts i → ⊥) → i ≡ Commit
no_act Commit none = refl
no_act _ none = absurd (none tt)

get_drop : (xs : List Instr) (i k : ℕ) → slice_get (drop i xs) k ≡ slice_get xs (i + k)
get_drop xs zero k = let e : k ≡ 0 + k = omega arith in ap (slice_get xs) e
get_drop [] (suc i) k = refl
get_drop (x ∷ xs) (suc i) k = let e : suc (i + k) ≡ suc i + k = omega arith in get_drop xs i k ∙ ap (slice_get (x ∷ xs)) e

-- what an instruction sets: so many atoms, membranes, typed contexts and integers
abbrev pub SetsSo : Instr → ℕ → ℕ → ℕ → ℕ → Type 0
SetsSo i a m g v = (atoms_set (i ∷ []) ≡ a) × (membranes_set (i ∷ []) ≡ m) × (parts_set (i ∷ []) ≡ g) × (integers_set (i ∷ []) ≡ v)

test_sets_none : (a m v : ℕ) (i : Instr) → TestsSetRegisters a m v i → SetsSo i 0 0 0 0
test_sets_none a m v (FindAtom x y f) r = absurd r
test_sets_none a m v (Deref x p k) r = absurd r
test_sets_none a m v (AnyMem x y) r = absurd r
test_sets_none a m v (IsInt x p y) r = absurd r
test_sets_none a m v (IsUnary x p y) r = absurd r
test_sets_none a m v (IsGround x p y) r = absurd r
test_sets_none a m v (GetInt x y) r = absurd r
test_sets_none a m v (Const x z) r = absurd r
test_sets_none a m v (Add x y z) r = absurd r
test_sets_none a m v (Sub x y z) r = absurd r
test_sets_none a m v (Mul x y z) r = absurd r
test_sets_none a m v (Div x y z) r = absurd r
test_sets_none a m v (Mod x y z) r = absurd r
test_sets_none a m v _ r = (refl, refl, refl, refl)

choice_none : (h : Heap) (s : HeadRegisters) (i : Instr) (is : List Instr) → ChoosesNone i → choices h s (i ∷ is) ≡ choices h s is
choice_none h s (FindAtom x y f) is n = absurd n
choice_none h s (AnyMem x y) is n = absurd n
choice_none h s _ is n = refl

-- an instruction in order sets the next register
pub deref_is : (i : Instr) (x : ℕ) (p : AtomPort) (e a m n v : ℕ) → i ≡ Deref x p e → HeadInOrder a m n v (i ∷ []) → i ≡ Deref a p e
deref_is i x p e a m n v t o = let u : HeadInOrder a m n v (Deref x p e ∷ []) = subst (λ j. HeadInOrder a m n v (j ∷ [])) t o in t ∙ ap (λ y. Deref y p e) u.0.0

pub integer_is : (i : Instr) (x : ℕ) (p : AtomPort) (y a m n v : ℕ) → i ≡ IsInt x p y → HeadInOrder a m n v (i ∷ []) → i ≡ IsInt n p y
integer_is i x p y a m n v t o = let u : HeadInOrder a m n v (IsInt x p y ∷ []) = subst (λ j. HeadInOrder a m n v (j ∷ [])) t o in t ∙ ap (λ j. IsInt j p y) u.0.0.0.0

pub unary_is : (i : Instr) (x : ℕ) (p : AtomPort) (y a m n v : ℕ) → i ≡ IsUnary x p y → HeadInOrder a m n v (i ∷ []) → i ≡ IsUnary n p y
unary_is i x p y a m n v t o = let u : HeadInOrder a m n v (IsUnary x p y ∷ []) = subst (λ j. HeadInOrder a m n v (j ∷ [])) t o in t ∙ ap (λ j. IsUnary j p y) u.0.0.0.0

pub ground_is : (i : Instr) (x : ℕ) (p : AtomPort) (y a m n v : ℕ) → i ≡ IsGround x p y → HeadInOrder a m n v (i ∷ []) → i ≡ IsGround n p y
ground_is i x p y a m n v t o = let u : HeadInOrder a m n v (IsGround x p y ∷ []) = subst (λ j. HeadInOrder a m n v (j ∷ [])) t o in t ∙ ap (λ j. IsGround j p y) u.0.0.0.0

pub get_is : (i : Instr) (x y a m n v : ℕ) → i ≡ GetInt x y → HeadInOrder a m n v (i ∷ []) → i ≡ GetInt v y
get_is i x y a m n v t o = let u : HeadInOrder a m n v (GetInt x y ∷ []) = subst (λ j. HeadInOrder a m n v (j ∷ [])) t o in t ∙ ap (λ j. GetInt j y) u.0.0.0

pub constant_is : (i : Instr) (x : ℕ) (z : ℤ) (a m n v : ℕ) → i ≡ Const x z → HeadInOrder a m n v (i ∷ []) → i ≡ Const v z
constant_is i x z a m n v t o = let u : HeadInOrder a m n v (Const x z ∷ []) = subst (λ j. HeadInOrder a m n v (j ∷ [])) t o in t ∙ ap (λ j. Const j z) u.0.0

pub sum_is : (i : Instr) (x y z a m n v : ℕ) → i ≡ Add x y z → HeadInOrder a m n v (i ∷ []) → i ≡ Add v y z
sum_is i x y z a m n v t o = let u : HeadInOrder a m n v (Add x y z ∷ []) = subst (λ j. HeadInOrder a m n v (j ∷ [])) t o in t ∙ ap (λ j. Add j y z) u.0.0.0

pub difference_is : (i : Instr) (x y z a m n v : ℕ) → i ≡ Sub x y z → HeadInOrder a m n v (i ∷ []) → i ≡ Sub v y z
difference_is i x y z a m n v t o = let u : HeadInOrder a m n v (Sub x y z ∷ []) = subst (λ j. HeadInOrder a m n v (j ∷ [])) t o in t ∙ ap (λ j. Sub j y z) u.0.0.0

pub product_is : (i : Instr) (x y z a m n v : ℕ) → i ≡ Mul x y z → HeadInOrder a m n v (i ∷ []) → i ≡ Mul v y z
product_is i x y z a m n v t o = let u : HeadInOrder a m n v (Mul x y z ∷ []) = subst (λ j. HeadInOrder a m n v (j ∷ [])) t o in t ∙ ap (λ j. Mul j y z) u.0.0.0

pub quotient_is : (i : Instr) (x y z a m n v : ℕ) → i ≡ Div x y z → HeadInOrder a m n v (i ∷ []) → i ≡ Div v y z
quotient_is i x y z a m n v t o = let u : HeadInOrder a m n v (Div x y z ∷ []) = subst (λ j. HeadInOrder a m n v (j ∷ [])) t o in t ∙ ap (λ j. Div j y z) u.0.0.0

pub remainder_is : (i : Instr) (x y z a m n v : ℕ) → i ≡ Mod x y z → HeadInOrder a m n v (i ∷ []) → i ≡ Mod v y z
remainder_is i x y z a m n v t o = let u : HeadInOrder a m n v (Mod x y z ∷ []) = subst (λ j. HeadInOrder a m n v (j ∷ [])) t o in t ∙ ap (λ j. Mod j y z) u.0.0.0

module _ {A M : Type 0} (atom : A → ℕ) (membrane : M → ℕ) (h : Heap) where
  pub extends_itself : (g : SetRegisters A M) → Extends g g
  extends_itself g = record { atoms = take_all g.atoms; membranes = take_all g.membranes; parts = take_all g.parts; integers = take_all g.integers; copies = refl }

  -- an instruction that sets nothing
  pub nothing_more : (g : SetRegisters A M) (i : Instr) → SetsSo i 0 0 0 0 → SetsMore g g (i ∷ [])
  nothing_more g i n = let a = n.0 in let m = n.1 in let p = n.2 in let v = n.3 in record { atoms = omega (arith, a); membranes = omega (arith, m); parts = omega (arith, p); integers = omega (arith, v) }

  -- an instruction, and the code behind it
  sets_then : (g k l : SetRegisters A M) (i : Instr) (is : List Instr) → SetsMore g k (i ∷ []) → SetsMore k l is → SetsMore g l (i ∷ is)
  sets_then g k l i is s t = record {
    atoms = (let a = s.atoms in let b = t.atoms in let c = sets_more i is in omega (arith, a, b, c));
    membranes = (let a = s.membranes in let b = t.membranes in let c = membranes_more i is in omega (arith, a, b, c));
    parts = (let a = s.parts in let b = t.parts in let c = parts_more i is in omega (arith, a, b, c));
    integers = (let a = s.integers in let b = t.integers in let c = integers_more i is in omega (arith, a, b, c));
  }

  pub check_stepped : (g : SetRegisters A M) (result : Bool) (i : Instr) → AreHeldWhole atom membrane h g → TestsSetRegisters (length g.atoms) (length g.membranes) (length g.integers) i →
      ((c : HeadSize) (s : HeadRegisters) → Agrees atom membrane g s → (result ≡ true → InstructionHolds h c s i) × (InstructionHolds h c s i → result ≡ true)) → Stepped atom membrane h g g result i
  check_stepped g result i held r f = record {
    held = held;
    extends = extends_itself g;
    holds = λ t c s n a. (f c s a).0 t;
    only = λ c s n a t. ((f c s a).1 t, a);
    sets = λ t. nothing_more g i (test_sets_none (length g.atoms) (length g.membranes) (length g.integers) i r);
    order = λ t is o. check_order i (length g.atoms) (length g.membranes) (length g.parts) (length g.integers) is r o;
  }

  -- What is passed of code, with the registers g0 at first and g now: the rest decides.
  pub record Passed (g0 g : SetRegisters A M) (code0 code : List Instr) : Type 0 where
    pub held : AreHeldWhole atom membrane h g
    pub extends : Extends g0 g
    pub order : HeadInOrder (length g.atoms) (length g.membranes) (length g.parts) (length g.integers) code
    pub back : (c : HeadSize) (s : HeadRegisters) → SetsAll c g0 code0 → Agrees atom membrane g s → AllHold h c s code → AllHold h c s code0
    pub on : (c : HeadSize) (s : HeadRegisters) → SetsAll c g0 code0 → Agrees atom membrane g0 s → AllHold h c s code0 → Agrees atom membrane g s × AllHold h c s code
    pub count : length g0.atoms + atoms_set code0 ≡ length g.atoms + atoms_set code
    pub count_membranes : length g0.membranes + membranes_set code0 ≡ length g.membranes + membranes_set code
    pub same : (s : HeadRegisters) → choices h s code0 ≡ choices h s code
    pub sets : (k : SetRegisters A M) → SetsMore g k code → SetsMore g0 k code0

  get_take : {X : Type 0} (n k : ℕ) (x : X) (xs : List X) → slice_get (take n xs) k ≡ Some x → slice_get xs k ≡ Some x
  get_take zero k x xs e = absurd (cc)
  get_take (suc n) k x [] e = e
  get_take (suc n) zero x (y ∷ xs) e = e
  get_take (suc n) (suc k) x (y ∷ xs) e = get_take n k x xs e

  pub agrees_before : (g k : SetRegisters A M) (s : HeadRegisters) → Extends g k → Agrees atom membrane k s → Agrees atom membrane g s
  agrees_before g k s e a = record {
    atoms = λ i x t. a.atoms i x (get_take (length g.atoms) i x k.atoms (subst (λ xs. slice_get xs i ≡ Some x) (sym e.atoms) t));
    membranes = λ i x t. a.membranes i x (get_take (length g.membranes) i x k.membranes (subst (λ xs. slice_get xs i ≡ Some x) (sym e.membranes) t));
    parts = λ i x t. a.parts i x (get_take (length g.parts) i x k.parts (subst (λ xs. slice_get xs i ≡ Some x) (sym e.parts) t));
    integers = λ i x t. a.integers i x (get_take (length g.integers) i x k.integers (subst (λ xs. slice_get xs i ≡ Some x) (sym e.integers) t));
  }

  take_length : {X : Type 0} (n : ℕ) (xs ys : List X) → take n xs ≡ ys → length ys ≤ length xs
  take_length zero xs ys e = let t : length ys ≡ 0 = ap length (sym e) in omega arith
  take_length (suc n) [] ys e = let t : length ys ≡ 0 = ap length (sym e) in omega arith
  take_length (suc n) (x ∷ xs) [] e = omega arith
  take_length (suc n) (x ∷ xs) (y ∷ ys) e = let k = take_length n xs ys (tail_same e) in omega (arith, k)
    where
      tail_same : x ∷ take n xs ≡ y ∷ ys → take n xs ≡ ys
      tail_same t = cc

  take_take : {X : Type 0} (n m : ℕ) (xs : List X) → n ≤ m → take n (take m xs) ≡ take n xs
  take_take zero m xs l = refl
  take_take (suc n) zero xs l = absurd (omega arith)
  take_take (suc n) (suc m) [] l = refl
  take_take (suc n) (suc m) (x ∷ xs) l = ap (λ k. x ∷ k) (take_take n m xs (omega arith))

  takes_on : {X : Type 0} (xs ys zs : List X) → take (length xs) ys ≡ xs → take (length ys) zs ≡ ys → take (length xs) zs ≡ xs
  takes_on xs ys zs e f = sym (take_take (length xs) (length ys) zs (take_length (length xs) ys xs e)) ∙ (ap (λ k. take (length xs) k) f ∙ e)

  pub extends_on : (g k l : SetRegisters A M) → Extends g k → Extends k l → Extends g l
  extends_on g k l e f = record {
    atoms = takes_on g.atoms k.atoms l.atoms e.atoms f.atoms;
    membranes = takes_on g.membranes k.membranes l.membranes e.membranes f.membranes;
    parts = takes_on g.parts k.parts l.parts e.parts f.parts;
    integers = takes_on g.integers k.integers l.integers e.integers f.integers;
    copies = f.copies ∙ e.copies;
  }

  -- what is set at last by all of the code is so by what is left of it
  pub left_sets : (g0 g : SetRegisters A M) (code0 code : List Instr) → Passed g0 g code0 code → (c : HeadSize) → SetsAll c g0 code0 → SetsAll c g code
  left_sets g0 g code0 code p c n = record { atoms = n.atoms ∙ p.count; membranes = n.membranes ∙ p.count_membranes }

  -- the instruction ahead knows the numbers of atom and of membrane registers
  pub ahead_set : (g0 g : SetRegisters A M) (code0 is : List Instr) (i : Instr) → Passed g0 g code0 (i ∷ is) → (c : HeadSize) → SetsAll c g0 code0 → AllSet c (length g.atoms) (length g.membranes) i
  ahead_set g0 g code0 is i p c n = let s = left_sets g0 g code0 (i ∷ is) p c n in all_set c (length g.atoms) (length g.membranes) (length g.parts) (length g.integers) i is s.atoms s.membranes p.order

  pub passed_one : (g0 g k : SetRegisters A M) (code0 is : List Instr) (i : Instr) → ChoosesNone i → Passed g0 g code0 (i ∷ is) → Stepped atom membrane h g k true i → Passed g0 k code0 is
  passed_one g0 g k code0 is i n p t = record {
    held = t.held;
    extends = extends_on g0 g k p.extends t.extends;
    order = t.order refl is p.order;
    back = λ c s m a u. p.back c s m (agrees_before g k s t.extends a) (t.holds refl c s (ahead_set g0 g code0 is i p c m) a, u);
    on = λ c s m a u. (let v = p.on c s m a u in ((t.only c s (ahead_set g0 g code0 is i p c m) v.0 v.1.0).1, v.1.1));
    sets = λ l s. p.sets l (sets_then g k l i is (t.sets refl) s);
    count = (let a = p.count in let b = (t.sets refl).atoms in let d = sets_more i is in omega (arith, a, b, d));
    count_membranes = (let a = p.count_membranes in let b = (t.sets refl).membranes in let d = membranes_more i is in omega (arith, a, b, d));
    same = λ s. p.same s ∙ choice_none h s i is n;
  }

  pub failed : (g0 g k : SetRegisters A M) (code0 is : List Instr) (i : Instr) → Passed g0 g code0 (i ∷ is) → Stepped atom membrane h g k false i → Searched atom membrane h g0 k false code0
  failed g0 g k code0 is i p t = record {
    held = t.held;
    extends = extends_on g0 g k p.extends t.extends;
    sets = λ u. absurd (cc);
    found = λ u. absurd (cc);
    none = λ u c s m a v. (let w = p.on c s m a v in let z = (t.only c s (ahead_set g0 g code0 is i p c m) w.0 w.1.0).0 in cc);
  }

  pub passed_all : (g0 g : SetRegisters A M) (code0 : List Instr) → Passed g0 g code0 [] → Searched atom membrane h g0 g true code0
  passed_all g0 g code0 p = record {
    held = p.held;
    extends = p.extends;
    sets = λ u. p.sets g (record { atoms = omega arith; membranes = omega arith; parts = omega arith; integers = omega arith });
    found = λ u. record {
      holds = λ c s m a. p.back c s m a tt;
      first = λ c s t m a b v. subst (λ cs. ListNotAfter cs (choices h t code0)) (sym (p.same s)) tt;
    };
    none = λ u. absurd (cc);
  }

  pub passed_search : (g0 g k : SetRegisters A M) (code0 code : List Instr) (result : Bool) → Passed g0 g code0 code → Searched atom membrane h g k result code → Searched atom membrane h g0 k result code0
  passed_search g0 g k code0 code result p t = record {
    held = t.held;
    extends = extends_on g0 g k p.extends t.extends;
    sets = λ u. p.sets k (t.sets u);
    found = λ u. record {
      holds = λ c s m a. p.back c s m (agrees_before g k s t.extends a) ((t.found u).holds c s (left_sets g0 g code0 code p c m) a);
      first = λ c s v m a b w. (let z = p.on c v m b w in
          subst (λ cs. ListNotAfter cs (choices h v code0)) (sym (p.same s)) (subst (λ cs. ListNotAfter (choices h s code) cs) (sym (p.same v)) ((t.found u).first c s v (left_sets g0 g code0 code p c m) a z.0 z.1)));
    };
    none = λ u c s m a v. (let w = p.on c s m a v in t.none u c s (left_sets g0 g code0 code p c m) w.0 w.1);
  }

  commits_pass : (g0 g : SetRegisters A M) (code0 left : List Instr) → ((k : ℕ) (x : Instr) → slice_get left k ≡ Some x → Acts x → ⊥) → Passed g0 g code0 left → Passed g0 g code0 []
  commits_pass g0 g code0 [] none p = p
  commits_pass g0 g code0 (x ∷ xs) none p =
      let q : Passed g0 g code0 (Commit ∷ xs) = subst (λ i. Passed g0 g code0 (i ∷ xs)) (no_act x (none 0 x refl)) p in
      commits_pass g0 g code0 xs (λ k y e. none (suc k) y e)
      (passed_one g0 g g code0 xs Commit tt q (check_stepped g true Commit q.held tt (λ c s a. (λ t. tt, λ t. refl))))

  -- where all code from a place on is COMMIT, and all before is passed, the search is at its end
  pub passed_end : (g0 g : SetRegisters A M) (code0 code : List Instr) (n i : ℕ) → n ≤ i → NoneFrom Acts n code → Passed g0 g code0 (drop i code) → Searched atom membrane h g0 g true code0
  passed_end g0 g code0 code n i past none p = passed_all g0 g code0 (commits_pass g0 g code0 (drop i code) (λ k x e. none (i + k) x (omega (arith, past)) (sym (get_drop code i k) ∙ e)) p)
