-- The code of accepted rules sets its registers in order.
use Rattle.std.proofs.Common.{◌≡◌, ◌<◌, ◌≤◌, ◌+◌, ◌==◌, ◌&&◌, ℕ, true, List, [], ◌∷◌, ◌++◌, map, refl, sym, ◌∙◌, arith}
use Rattle.std.specs.Prelude.{nat_lt}
use Rattle.std.specs.List.{AllByRecursion, list_all}
use Rattle.std.proofs.lemmas.Bool.{lt-ltb}
use Rattle.lmn_base.proofs.Numbers.{equal_itself}
use Rattle.lmn_instr_code.specs.declared.instr.NewPort.{NewPort}
use Rattle.lmn_instr_code.specs.declared.instr.NewPort.TheVariants as new
use Rattle.lmn_instr_code.specs.declared.instr.Instr.{Instr}
use Rattle.lmn_instr_code.specs.declared.instr.Instr.TheVariants.{FindAtom, Deref, Func, InMem, NeqAtom, Joined, NotIn, AnyMem, NeqMem, IsInt, IsUnary, IsGround, NAtoms, NMems, NoRules, IsClosed, EqGround, NeqGround, GetInt, Const, Add, Sub, Mul, Div, Mod, Lt, Le, Gt, Ge, Eq, Ne, Commit, RemoveAtom, RemovePart, RemoveMem, NewAtom, NewInt, NewMem, CopyGround, MoveCells, CopyCells, LoadRule, CopyRules, DropCells, NewLink, Relink, Unify, Proceed}
use Rattle.lmn_instr_code.specs.Running.{atoms_set, membranes_set}
use Rattle.lmn_machine_commit.specs.Preparing.{BodyInOrder, UsesPort, atoms_made, membranes_made, copies_made}
use Rattle.lmn_machine.specs.Searching.{HeadInOrder, parts_set, integers_set}
use Rattle.lmn_verify_code.specs.declared.found.RegisterCounts.{RegisterCounts}
use Rattle.lmn_instr_code.specs.declared.words.Operand.TheVariants.{Part}
use Rattle.lmn_instr_code.specs.Words.{port_operand}
use Rattle.lmn_verify_code.specs.Verified.{is_set, in_order}

-- so many registers are set
abbrev pub counts : ℕ → ℕ → ℕ → ℕ → ℕ → RegisterCounts
counts a m g v c = record { atoms = a; membranes = m; parts = g; integers = v; copies = c }

next : (x a n : ℕ) → x ≡ a → a < n → ((x == a) && nat_lt x n) ≡ true
next x a n e l = (λ i. (e i == a) && nat_lt (e i) n) ∙ (λ i. equal_itself a i && lt-ltb a n l i)

parts_are_set : (a m g v c : ℕ) (gs : List ℕ) → AllByRecursion (λ k. k < g) gs → list_all (is_set (counts a m g v c)) (map Part gs) ≡ true
parts_are_set a m g v c [] h = refl
parts_are_set a m g v c (k ∷ gs) h = λ i. lt-ltb k g h.0 i && parts_are_set a m g v c gs h.1 i

-- ---- heads

-- Code of a head that sets its registers in order for the machine does so here, where all that it sets have numbers; behind it
-- may stand more.
pub head_in_order : (is ys : List Instr) (a m g v A M G V : ℕ) → HeadInOrder a m g v is → a + atoms_set is ≡ A → m + membranes_set is ≡ M → g + parts_set is ≡ G → v + integers_set is ≡ V
    → A ≤ 1152 → M ≤ 1153 → G ≤ 128 → V ≤ 512 → in_order (counts A M G V 0) ys ≡ true → in_order (counts a m g v 0) (is ++ ys) ≡ true
head_in_order [] ys a m g v A M G V o ea em eg ev la lm lg lv r =
    let fa : a ≡ A = omega (arith, ea) in
    let fm : m ≡ M = omega (arith, em) in
    let fg : g ≡ G = omega (arith, eg) in
    let fv : v ≡ V = omega (arith, ev) in
    (λ i. in_order (counts (fa i) (fm i) (fg i) (fv i) 0) ys) ∙ r
head_in_order (FindAtom x y f ∷ is) ys a m g v A M G V o ea em eg ev la lm lg lv r =
    let t : a + (1 + atoms_set is) ≡ A = ea in
    let e : (a + 1) + atoms_set is ≡ A = omega (arith, t) in
    let rest = head_in_order is ys (a + 1) m g v A M G V o.1 e em eg ev la lm lg lv r in
    λ i. (next x a 1152 o.0.0 (omega (arith, t, la)) i && (lt-ltb y m o.0.1 i && true)) && rest i
head_in_order (Deref x p k ∷ is) ys a m g v A M G V o ea em eg ev la lm lg lv r =
    let t : a + (1 + atoms_set is) ≡ A = ea in
    let e : (a + 1) + atoms_set is ≡ A = omega (arith, t) in
    let rest = head_in_order is ys (a + 1) m g v A M G V o.1 e em eg ev la lm lg lv r in
    λ i. (next x a 1152 o.0.0 (omega (arith, t, la)) i && (lt-ltb p.atom a o.0.1 i && true)) && rest i
head_in_order (AnyMem x y ∷ is) ys a m g v A M G V o ea em eg ev la lm lg lv r =
    let t : m + (1 + membranes_set is) ≡ M = em in
    let e : (m + 1) + membranes_set is ≡ M = omega (arith, t) in
    let rest = head_in_order is ys a (m + 1) g v A M G V o.1 ea e eg ev la lm lg lv r in
    λ i. (next x m 1153 o.0.0 (omega (arith, t, lm)) i && (lt-ltb y m o.0.1 i && true)) && rest i
head_in_order (IsInt x p y ∷ is) ys a m g v A M G V o ea em eg ev la lm lg lv r =
    let t : g + (1 + parts_set is) ≡ G = eg in
    let e : (g + 1) + parts_set is ≡ G = omega (arith, t) in
    let rest = head_in_order is ys a m (g + 1) v A M G V o.1 ea em e ev la lm lg lv r in
    λ i. (next x g 128 o.0.0.0.0 (omega (arith, t, lg)) i && (lt-ltb p.atom a o.0.0.1 i && (lt-ltb y m o.0.0.2 i && true))) && rest i
head_in_order (IsUnary x p y ∷ is) ys a m g v A M G V o ea em eg ev la lm lg lv r =
    let t : g + (1 + parts_set is) ≡ G = eg in
    let e : (g + 1) + parts_set is ≡ G = omega (arith, t) in
    let rest = head_in_order is ys a m (g + 1) v A M G V o.1 ea em e ev la lm lg lv r in
    λ i. (next x g 128 o.0.0.0.0 (omega (arith, t, lg)) i && (lt-ltb p.atom a o.0.0.1 i && (lt-ltb y m o.0.0.2 i && true))) && rest i
head_in_order (IsGround x p y ∷ is) ys a m g v A M G V o ea em eg ev la lm lg lv r =
    let t : g + (1 + parts_set is) ≡ G = eg in
    let e : (g + 1) + parts_set is ≡ G = omega (arith, t) in
    let rest = head_in_order is ys a m (g + 1) v A M G V o.1 ea em e ev la lm lg lv r in
    λ i. (next x g 128 o.0.0.0.0 (omega (arith, t, lg)) i && (lt-ltb p.atom a o.0.0.1 i && (lt-ltb y m o.0.0.2 i && true))) && rest i
head_in_order (NAtoms x n gs ∷ is) ys a m g v A M G V o ea em eg ev la lm lg lv r =
    let rest = head_in_order is ys a m g v A M G V o.1 ea em eg ev la lm lg lv r in
    λ i. (lt-ltb x m o.0.0 i && (parts_are_set a m g v 0 gs o.0.1 i)) && rest i
head_in_order (IsClosed x gs ∷ is) ys a m g v A M G V o ea em eg ev la lm lg lv r =
    let rest = head_in_order is ys a m g v A M G V o.1 ea em eg ev la lm lg lv r in
    λ i. (lt-ltb x m o.0.0 i && (parts_are_set a m g v 0 gs o.0.1 i)) && rest i
head_in_order (EqGround x y ∷ is) ys a m g v A M G V o ea em eg ev la lm lg lv r =
    let rest = head_in_order is ys a m g v A M G V o.1 ea em eg ev la lm lg lv r in
    λ i. (lt-ltb x g o.0.0 i && (lt-ltb y g o.0.1 i && true)) && rest i
head_in_order (NeqGround x y ∷ is) ys a m g v A M G V o ea em eg ev la lm lg lv r =
    let rest = head_in_order is ys a m g v A M G V o.1 ea em eg ev la lm lg lv r in
    λ i. (lt-ltb x g o.0.0 i && (lt-ltb y g o.0.1 i && true)) && rest i
head_in_order (GetInt x y ∷ is) ys a m g v A M G V o ea em eg ev la lm lg lv r =
    let t : v + (1 + integers_set is) ≡ V = ev in
    let e : (v + 1) + integers_set is ≡ V = omega (arith, t) in
    let rest = head_in_order is ys a m g (v + 1) A M G V o.1 ea em eg e la lm lg lv r in
    λ i. (next x v 512 o.0.0.0 (omega (arith, t, lv)) i && (lt-ltb y g o.0.1 i && true)) && rest i
head_in_order (Const x z ∷ is) ys a m g v A M G V o ea em eg ev la lm lg lv r =
    let t : v + (1 + integers_set is) ≡ V = ev in
    let e : (v + 1) + integers_set is ≡ V = omega (arith, t) in
    let rest = head_in_order is ys a m g (v + 1) A M G V o.1 ea em eg e la lm lg lv r in
    λ i. (next x v 512 o.0.0 (omega (arith, t, lv)) i && true) && rest i
head_in_order (Add x y z ∷ is) ys a m g v A M G V o ea em eg ev la lm lg lv r =
    let t : v + (1 + integers_set is) ≡ V = ev in
    let e : (v + 1) + integers_set is ≡ V = omega (arith, t) in
    let rest = head_in_order is ys a m g (v + 1) A M G V o.1 ea em eg e la lm lg lv r in
    λ i. (next x v 512 o.0.0.0 (omega (arith, t, lv)) i && (lt-ltb y v o.0.1 i && (lt-ltb z v o.0.2 i && true))) && rest i
head_in_order (Sub x y z ∷ is) ys a m g v A M G V o ea em eg ev la lm lg lv r =
    let t : v + (1 + integers_set is) ≡ V = ev in
    let e : (v + 1) + integers_set is ≡ V = omega (arith, t) in
    let rest = head_in_order is ys a m g (v + 1) A M G V o.1 ea em eg e la lm lg lv r in
    λ i. (next x v 512 o.0.0.0 (omega (arith, t, lv)) i && (lt-ltb y v o.0.1 i && (lt-ltb z v o.0.2 i && true))) && rest i
head_in_order (Mul x y z ∷ is) ys a m g v A M G V o ea em eg ev la lm lg lv r =
    let t : v + (1 + integers_set is) ≡ V = ev in
    let e : (v + 1) + integers_set is ≡ V = omega (arith, t) in
    let rest = head_in_order is ys a m g (v + 1) A M G V o.1 ea em eg e la lm lg lv r in
    λ i. (next x v 512 o.0.0.0 (omega (arith, t, lv)) i && (lt-ltb y v o.0.1 i && (lt-ltb z v o.0.2 i && true))) && rest i
head_in_order (Div x y z ∷ is) ys a m g v A M G V o ea em eg ev la lm lg lv r =
    let t : v + (1 + integers_set is) ≡ V = ev in
    let e : (v + 1) + integers_set is ≡ V = omega (arith, t) in
    let rest = head_in_order is ys a m g (v + 1) A M G V o.1 ea em eg e la lm lg lv r in
    λ i. (next x v 512 o.0.0.0 (omega (arith, t, lv)) i && (lt-ltb y v o.0.1 i && (lt-ltb z v o.0.2 i && true))) && rest i
head_in_order (Mod x y z ∷ is) ys a m g v A M G V o ea em eg ev la lm lg lv r =
    let t : v + (1 + integers_set is) ≡ V = ev in
    let e : (v + 1) + integers_set is ≡ V = omega (arith, t) in
    let rest = head_in_order is ys a m g (v + 1) A M G V o.1 ea em eg e la lm lg lv r in
    λ i. (next x v 512 o.0.0.0 (omega (arith, t, lv)) i && (lt-ltb y v o.0.1 i && (lt-ltb z v o.0.2 i && true))) && rest i
head_in_order (Func x f ∷ is) ys a m g v A M G V o ea em eg ev la lm lg lv r =
    let rest = head_in_order is ys a m g v A M G V o.1 ea em eg ev la lm lg lv r in
    λ i. (lt-ltb x a o.0 i && true) && rest i
head_in_order (InMem x y ∷ is) ys a m g v A M G V o ea em eg ev la lm lg lv r =
    let rest = head_in_order is ys a m g v A M G V o.1 ea em eg ev la lm lg lv r in
    λ i. (lt-ltb x a o.0.0 i && (lt-ltb y m o.0.1 i && true)) && rest i
head_in_order (NeqAtom x y ∷ is) ys a m g v A M G V o ea em eg ev la lm lg lv r =
    let rest = head_in_order is ys a m g v A M G V o.1 ea em eg ev la lm lg lv r in
    λ i. (lt-ltb x a o.0.0 i && (lt-ltb y a o.0.1 i && true)) && rest i
head_in_order (Joined p q ∷ is) ys a m g v A M G V o ea em eg ev la lm lg lv r =
    let rest = head_in_order is ys a m g v A M G V o.1 ea em eg ev la lm lg lv r in
    λ i. (lt-ltb p.atom a o.0.0 i && (lt-ltb q.atom a o.0.1 i && true)) && rest i
head_in_order (NotIn p y ∷ is) ys a m g v A M G V o ea em eg ev la lm lg lv r =
    let rest = head_in_order is ys a m g v A M G V o.1 ea em eg ev la lm lg lv r in
    λ i. (lt-ltb p.atom a o.0.0 i && (lt-ltb y m o.0.1 i && true)) && rest i
head_in_order (NeqMem x y ∷ is) ys a m g v A M G V o ea em eg ev la lm lg lv r =
    let rest = head_in_order is ys a m g v A M G V o.1 ea em eg ev la lm lg lv r in
    λ i. (lt-ltb x m o.0.0 i && (lt-ltb y m o.0.1 i && true)) && rest i
head_in_order (NMems x n ∷ is) ys a m g v A M G V o ea em eg ev la lm lg lv r =
    let rest = head_in_order is ys a m g v A M G V o.1 ea em eg ev la lm lg lv r in
    λ i. (lt-ltb x m o.0 i && true) && rest i
head_in_order (NoRules x ∷ is) ys a m g v A M G V o ea em eg ev la lm lg lv r =
    let rest = head_in_order is ys a m g v A M G V o.1 ea em eg ev la lm lg lv r in
    λ i. (lt-ltb x m o.0 i && true) && rest i
head_in_order (Lt x y ∷ is) ys a m g v A M G V o ea em eg ev la lm lg lv r =
    let rest = head_in_order is ys a m g v A M G V o.1 ea em eg ev la lm lg lv r in
    λ i. (lt-ltb x v o.0.0 i && (lt-ltb y v o.0.1 i && true)) && rest i
head_in_order (Le x y ∷ is) ys a m g v A M G V o ea em eg ev la lm lg lv r =
    let rest = head_in_order is ys a m g v A M G V o.1 ea em eg ev la lm lg lv r in
    λ i. (lt-ltb x v o.0.0 i && (lt-ltb y v o.0.1 i && true)) && rest i
head_in_order (Gt x y ∷ is) ys a m g v A M G V o ea em eg ev la lm lg lv r =
    let rest = head_in_order is ys a m g v A M G V o.1 ea em eg ev la lm lg lv r in
    λ i. (lt-ltb x v o.0.0 i && (lt-ltb y v o.0.1 i && true)) && rest i
head_in_order (Ge x y ∷ is) ys a m g v A M G V o ea em eg ev la lm lg lv r =
    let rest = head_in_order is ys a m g v A M G V o.1 ea em eg ev la lm lg lv r in
    λ i. (lt-ltb x v o.0.0 i && (lt-ltb y v o.0.1 i && true)) && rest i
head_in_order (Eq x y ∷ is) ys a m g v A M G V o ea em eg ev la lm lg lv r =
    let rest = head_in_order is ys a m g v A M G V o.1 ea em eg ev la lm lg lv r in
    λ i. (lt-ltb x v o.0.0 i && (lt-ltb y v o.0.1 i && true)) && rest i
head_in_order (Ne x y ∷ is) ys a m g v A M G V o ea em eg ev la lm lg lv r =
    let rest = head_in_order is ys a m g v A M G V o.1 ea em eg ev la lm lg lv r in
    λ i. (lt-ltb x v o.0.0 i && (lt-ltb y v o.0.1 i && true)) && rest i
head_in_order (Commit ∷ is) ys a m g v A M G V o ea em eg ev la lm lg lv r =
    let rest = head_in_order is ys a m g v A M G V o.1 ea em eg ev la lm lg lv r in
    rest
head_in_order (_ ∷ is) ys a m g v A M G V o ea em eg ev la lm lg lv r = absurd o.0

-- ---- bodies

-- what instructions add up to
abbrev pub total : (Instr → ℕ) → List Instr → ℕ
total f [] = 0
total f (i ∷ is) = f i + total f is

-- the register of a port is set
port_is_set : (a m g v c : ℕ) (p : NewPort) → UsesPort a c p → is_set (counts a m g v c) (port_operand p) ≡ true
port_is_set a m g v c (new.Atom p) h = lt-ltb p.atom a h
port_is_set a m g v c (new.Copy x) h = lt-ltb x c h

-- the same numbers, however they are added
as_many : (is : List Instr) (a b m n c d g v : ℕ) → a ≡ b → m ≡ n → c ≡ d → in_order (counts a m g v c) is ≡ true → in_order (counts b n g v d) is ≡ true
as_many is a b m n c d g v ea em ec r = (λ i. in_order (counts (sym ea i) (sym em i) g v (sym ec i)) is) ∙ r

-- So does the code of a body.
pub body_in_order : (is : List Instr) (a m g v c : ℕ) → BodyInOrder a m g v c is → a + total atoms_made is ≤ 1152 → m + total membranes_made is ≤ 1153 → c + total copies_made is ≤ 1024
    → in_order (counts a m g v c) is ≡ true
body_in_order [] a m g v c o la lm lc = refl
body_in_order (NewAtom x y f ∷ is) a m g v c o la lm lc =
    let ta : a + (1 + total atoms_made is) ≤ 1152 = la in
    let tm : m + (0 + total membranes_made is) ≤ 1153 = lm in
    let tc : c + (0 + total copies_made is) ≤ 1024 = lc in
    let zm : m + 0 ≡ m = omega arith in
    let zc : c + 0 ≡ c = omega arith in
    let rest = as_many is (a + 1) (a + 1) (m + 0) m (c + 0) c g v refl zm zc (body_in_order is (a + 1) (m + 0) g v (c + 0) o.1 (omega (arith, ta)) (omega (arith, tm)) (omega (arith, tc))) in
    λ i. (next x a 1152 o.0.0.0 (omega (arith, ta)) i && (lt-ltb y m o.0.1 i && true)) && rest i
body_in_order (NewInt x y z ∷ is) a m g v c o la lm lc =
    let ta : a + (1 + total atoms_made is) ≤ 1152 = la in
    let tm : m + (0 + total membranes_made is) ≤ 1153 = lm in
    let tc : c + (0 + total copies_made is) ≤ 1024 = lc in
    let zm : m + 0 ≡ m = omega arith in
    let zc : c + 0 ≡ c = omega arith in
    let rest = as_many is (a + 1) (a + 1) (m + 0) m (c + 0) c g v refl zm zc (body_in_order is (a + 1) (m + 0) g v (c + 0) o.1 (omega (arith, ta)) (omega (arith, tm)) (omega (arith, tc))) in
    λ i. (next x a 1152 o.0.0.0 (omega (arith, ta)) i && (lt-ltb y m o.0.1 i && (lt-ltb z v o.0.2 i && true))) && rest i
body_in_order (NewMem x y ∷ is) a m g v c o la lm lc =
    let ta : a + (0 + total atoms_made is) ≤ 1152 = la in
    let tm : m + (1 + total membranes_made is) ≤ 1153 = lm in
    let tc : c + (0 + total copies_made is) ≤ 1024 = lc in
    let za : a + 0 ≡ a = omega arith in
    let zc : c + 0 ≡ c = omega arith in
    let rest = as_many is (a + 0) a (m + 1) (m + 1) (c + 0) c g v za refl zc (body_in_order is (a + 0) (m + 1) g v (c + 0) o.1 (omega (arith, ta)) (omega (arith, tm)) (omega (arith, tc))) in
    λ i. (next x m 1153 o.0.0.0 (omega (arith, tm)) i && (lt-ltb y m o.0.1 i && true)) && rest i
body_in_order (CopyGround x y z ∷ is) a m g v c o la lm lc =
    let ta : a + (0 + total atoms_made is) ≤ 1152 = la in
    let tm : m + (0 + total membranes_made is) ≤ 1153 = lm in
    let tc : c + (1 + total copies_made is) ≤ 1024 = lc in
    let za : a + 0 ≡ a = omega arith in
    let zm : m + 0 ≡ m = omega arith in
    let rest = as_many is (a + 0) a (m + 0) m (c + 1) (c + 1) g v za zm refl (body_in_order is (a + 0) (m + 0) g v (c + 1) o.1 (omega (arith, ta)) (omega (arith, tm)) (omega (arith, tc))) in
    λ i. (next x c 1024 o.0.0.0 (omega (arith, tc)) i && (lt-ltb y m o.0.1 i && (lt-ltb z g o.0.2 i && true))) && rest i
body_in_order (RemoveAtom x ∷ is) a m g v c o la lm lc =
    let ta : a + (0 + total atoms_made is) ≤ 1152 = la in
    let tm : m + (0 + total membranes_made is) ≤ 1153 = lm in
    let tc : c + (0 + total copies_made is) ≤ 1024 = lc in
    let za : a + 0 ≡ a = omega arith in
    let zm : m + 0 ≡ m = omega arith in
    let zc : c + 0 ≡ c = omega arith in
    let rest = as_many is (a + 0) a (m + 0) m (c + 0) c g v za zm zc (body_in_order is (a + 0) (m + 0) g v (c + 0) o.1 (omega (arith, ta)) (omega (arith, tm)) (omega (arith, tc))) in
    λ i. (lt-ltb x a o.0 i && true) && rest i
body_in_order (RemovePart x ∷ is) a m g v c o la lm lc =
    let ta : a + (0 + total atoms_made is) ≤ 1152 = la in
    let tm : m + (0 + total membranes_made is) ≤ 1153 = lm in
    let tc : c + (0 + total copies_made is) ≤ 1024 = lc in
    let za : a + 0 ≡ a = omega arith in
    let zm : m + 0 ≡ m = omega arith in
    let zc : c + 0 ≡ c = omega arith in
    let rest = as_many is (a + 0) a (m + 0) m (c + 0) c g v za zm zc (body_in_order is (a + 0) (m + 0) g v (c + 0) o.1 (omega (arith, ta)) (omega (arith, tm)) (omega (arith, tc))) in
    λ i. (lt-ltb x g o.0 i && true) && rest i
body_in_order (RemoveMem x ∷ is) a m g v c o la lm lc =
    let ta : a + (0 + total atoms_made is) ≤ 1152 = la in
    let tm : m + (0 + total membranes_made is) ≤ 1153 = lm in
    let tc : c + (0 + total copies_made is) ≤ 1024 = lc in
    let za : a + 0 ≡ a = omega arith in
    let zm : m + 0 ≡ m = omega arith in
    let zc : c + 0 ≡ c = omega arith in
    let rest = as_many is (a + 0) a (m + 0) m (c + 0) c g v za zm zc (body_in_order is (a + 0) (m + 0) g v (c + 0) o.1 (omega (arith, ta)) (omega (arith, tm)) (omega (arith, tc))) in
    λ i. (lt-ltb x m o.0 i && true) && rest i
body_in_order (MoveCells x y ∷ is) a m g v c o la lm lc =
    let ta : a + (0 + total atoms_made is) ≤ 1152 = la in
    let tm : m + (0 + total membranes_made is) ≤ 1153 = lm in
    let tc : c + (0 + total copies_made is) ≤ 1024 = lc in
    let za : a + 0 ≡ a = omega arith in
    let zm : m + 0 ≡ m = omega arith in
    let zc : c + 0 ≡ c = omega arith in
    let rest = as_many is (a + 0) a (m + 0) m (c + 0) c g v za zm zc (body_in_order is (a + 0) (m + 0) g v (c + 0) o.1 (omega (arith, ta)) (omega (arith, tm)) (omega (arith, tc))) in
    λ i. (lt-ltb x m o.0.0 i && (lt-ltb y m o.0.1 i && true)) && rest i
body_in_order (CopyCells x y ∷ is) a m g v c o la lm lc =
    let ta : a + (0 + total atoms_made is) ≤ 1152 = la in
    let tm : m + (0 + total membranes_made is) ≤ 1153 = lm in
    let tc : c + (0 + total copies_made is) ≤ 1024 = lc in
    let za : a + 0 ≡ a = omega arith in
    let zm : m + 0 ≡ m = omega arith in
    let zc : c + 0 ≡ c = omega arith in
    let rest = as_many is (a + 0) a (m + 0) m (c + 0) c g v za zm zc (body_in_order is (a + 0) (m + 0) g v (c + 0) o.1 (omega (arith, ta)) (omega (arith, tm)) (omega (arith, tc))) in
    λ i. (lt-ltb x m o.0.0 i && (lt-ltb y m o.0.1 i && true)) && rest i
body_in_order (CopyRules x y ∷ is) a m g v c o la lm lc =
    let ta : a + (0 + total atoms_made is) ≤ 1152 = la in
    let tm : m + (0 + total membranes_made is) ≤ 1153 = lm in
    let tc : c + (0 + total copies_made is) ≤ 1024 = lc in
    let za : a + 0 ≡ a = omega arith in
    let zm : m + 0 ≡ m = omega arith in
    let zc : c + 0 ≡ c = omega arith in
    let rest = as_many is (a + 0) a (m + 0) m (c + 0) c g v za zm zc (body_in_order is (a + 0) (m + 0) g v (c + 0) o.1 (omega (arith, ta)) (omega (arith, tm)) (omega (arith, tc))) in
    λ i. (lt-ltb x m o.0.0 i && (lt-ltb y m o.0.1 i && true)) && rest i
body_in_order (LoadRule x k ∷ is) a m g v c o la lm lc =
    let ta : a + (0 + total atoms_made is) ≤ 1152 = la in
    let tm : m + (0 + total membranes_made is) ≤ 1153 = lm in
    let tc : c + (0 + total copies_made is) ≤ 1024 = lc in
    let za : a + 0 ≡ a = omega arith in
    let zm : m + 0 ≡ m = omega arith in
    let zc : c + 0 ≡ c = omega arith in
    let rest = as_many is (a + 0) a (m + 0) m (c + 0) c g v za zm zc (body_in_order is (a + 0) (m + 0) g v (c + 0) o.1 (omega (arith, ta)) (omega (arith, tm)) (omega (arith, tc))) in
    λ i. (lt-ltb x m o.0 i && true) && rest i
body_in_order (DropCells x ∷ is) a m g v c o la lm lc =
    let ta : a + (0 + total atoms_made is) ≤ 1152 = la in
    let tm : m + (0 + total membranes_made is) ≤ 1153 = lm in
    let tc : c + (0 + total copies_made is) ≤ 1024 = lc in
    let za : a + 0 ≡ a = omega arith in
    let zm : m + 0 ≡ m = omega arith in
    let zc : c + 0 ≡ c = omega arith in
    let rest = as_many is (a + 0) a (m + 0) m (c + 0) c g v za zm zc (body_in_order is (a + 0) (m + 0) g v (c + 0) o.1 (omega (arith, ta)) (omega (arith, tm)) (omega (arith, tc))) in
    λ i. (lt-ltb x m o.0 i && true) && rest i
body_in_order (NewLink p q ∷ is) a m g v c o la lm lc =
    let ta : a + (0 + total atoms_made is) ≤ 1152 = la in
    let tm : m + (0 + total membranes_made is) ≤ 1153 = lm in
    let tc : c + (0 + total copies_made is) ≤ 1024 = lc in
    let za : a + 0 ≡ a = omega arith in
    let zm : m + 0 ≡ m = omega arith in
    let zc : c + 0 ≡ c = omega arith in
    let rest = as_many is (a + 0) a (m + 0) m (c + 0) c g v za zm zc (body_in_order is (a + 0) (m + 0) g v (c + 0) o.1 (omega (arith, ta)) (omega (arith, tm)) (omega (arith, tc))) in
    λ i. (port_is_set a m g v c p o.0.0 i && (port_is_set a m g v c q o.0.1 i && true)) && rest i
body_in_order (Relink p h ∷ is) a m g v c o la lm lc =
    let ta : a + (0 + total atoms_made is) ≤ 1152 = la in
    let tm : m + (0 + total membranes_made is) ≤ 1153 = lm in
    let tc : c + (0 + total copies_made is) ≤ 1024 = lc in
    let za : a + 0 ≡ a = omega arith in
    let zm : m + 0 ≡ m = omega arith in
    let zc : c + 0 ≡ c = omega arith in
    let rest = as_many is (a + 0) a (m + 0) m (c + 0) c g v za zm zc (body_in_order is (a + 0) (m + 0) g v (c + 0) o.1 (omega (arith, ta)) (omega (arith, tm)) (omega (arith, tc))) in
    λ i. (port_is_set a m g v c p o.0.0 i && (lt-ltb h.atom a o.0.1 i && true)) && rest i
body_in_order (Unify p h ∷ is) a m g v c o la lm lc =
    let ta : a + (0 + total atoms_made is) ≤ 1152 = la in
    let tm : m + (0 + total membranes_made is) ≤ 1153 = lm in
    let tc : c + (0 + total copies_made is) ≤ 1024 = lc in
    let za : a + 0 ≡ a = omega arith in
    let zm : m + 0 ≡ m = omega arith in
    let zc : c + 0 ≡ c = omega arith in
    let rest = as_many is (a + 0) a (m + 0) m (c + 0) c g v za zm zc (body_in_order is (a + 0) (m + 0) g v (c + 0) o.1 (omega (arith, ta)) (omega (arith, tm)) (omega (arith, tc))) in
    λ i. (lt-ltb p.atom a o.0.0 i && (lt-ltb h.atom a o.0.1 i && true)) && rest i
body_in_order (Proceed ∷ is) a m g v c o la lm lc =
    let ta : a + (0 + total atoms_made is) ≤ 1152 = la in
    let tm : m + (0 + total membranes_made is) ≤ 1153 = lm in
    let tc : c + (0 + total copies_made is) ≤ 1024 = lc in
    let za : a + 0 ≡ a = omega arith in
    let zm : m + 0 ≡ m = omega arith in
    let zc : c + 0 ≡ c = omega arith in
    let rest = as_many is (a + 0) a (m + 0) m (c + 0) c g v za zm zc (body_in_order is (a + 0) (m + 0) g v (c + 0) o.1 (omega (arith, ta)) (omega (arith, tm)) (omega (arith, tc))) in
    rest
body_in_order (_ ∷ is) a m g v c o la lm lc = absurd o.0
