-- Code whose registers are set in order, as it is verified, is so for the machine.
use Rattle.std.proofs.Common.{◌≡◌, ◌<◌, ◌≤◌, ◌+◌, ◌==◌, ◌&&◌, ◌⊎◌, inl, inr, ℕ, Bool, true, false, not, List, [], ◌∷◌, ◌++◌, map, refl, sym, subst, arith, true≢false}
use Rattle.std.specs.Prelude.{nat_lt}
use Rattle.std.specs.List.{AllByRecursion, list_all, list_any}
use Rattle.std.proofs.lemmas.Bool.{ltb-true, eqb-true}
use Rattle.lmn_base.specs.Solids.{connector}
use Rattle.lmn_base.proofs.Truth.{and_true, first_true, second_true, not_true}
use Rattle.lmn_store_heap.specs.Functors.{same_functor}
use Rattle.lmn_instr_code.specs.declared.instr.NewPort.{NewPort}
use Rattle.lmn_instr_code.specs.declared.instr.NewPort.TheVariants as new
use Rattle.lmn_instr_code.specs.declared.instr.Instr.{Instr}
use Rattle.lmn_instr_code.specs.declared.instr.Instr.TheVariants.{FindAtom, Deref, Func, InMem, NeqAtom, Joined, NotIn, AnyMem, NeqMem, IsInt, IsUnary, IsGround, NAtoms, NMems, NoRules, IsClosed, EqGround, NeqGround, GetInt, Const, Add, Sub, Mul, Div, Mod, Lt, Le, Gt, Ge, Eq, Ne, Commit, RemoveAtom, RemovePart, RemoveMem, NewAtom, NewInt, NewMem, CopyGround, MoveCells, CopyCells, LoadRule, CopyRules, DropCells, NewLink, Relink, Unify, Proceed}
use Rattle.lmn_instr_code.specs.Running.{atoms_set, membranes_set}
use Rattle.lmn_machine_registers.specs.declared.stack.TheConstants.{ROOM}
use Rattle.lmn_machine_commit.specs.Preparing.{BodyInOrder, UsesPort}
use Rattle.lmn_machine.specs.Searching.{HeadInOrder, parts_set, integers_set}
use Rattle.lmn_machine.specs.Costs.{IsTold}
use Rattle.lmn_schedule_strategy.specs.Turns.{Loads}
use Rattle.lmn_verify_code.specs.declared.found.RegisterCounts.{RegisterCounts}
use Rattle.lmn_instr_code.specs.declared.words.Operand.TheVariants.{Part}
use Rattle.lmn_instr_code.specs.Words.{port_operand}
use Rattle.lmn_verify_code.specs.Verified.{is_set, in_order, is_head, finds, finds_first, is_open, is_removed, is_made}

-- so many registers are set
abbrev pub counts : ℕ → ℕ → ℕ → ℕ → ℕ → RegisterCounts
counts a m g v c = record { atoms = a; membranes = m; parts = g; integers = v; copies = c }

-- ---- tests taken apart

next_of : (x a n : ℕ) → ((x == a) && nat_lt x n) ≡ true → (x ≡ a) × (x < n)
next_of x a n e = let t = and_true (x == a) (nat_lt x n) e in (eqb-true x a t.0, ltb-true x n t.1)

one : (p r : Bool) → ((p && true) && r) ≡ true → (p ≡ true) × (r ≡ true)
one true r e = (refl, e)
one false r e = absurd (true≢false (sym e))

two : (p q r : Bool) → ((p && (q && true)) && r) ≡ true → (p ≡ true) × (q ≡ true) × (r ≡ true)
two true true r e = (refl, refl, e)
two true false r e = absurd (true≢false (sym e))
two false q r e = absurd (true≢false (sym e))

three : (p q s r : Bool) → ((p && (q && (s && true))) && r) ≡ true → (p ≡ true) × (q ≡ true) × (s ≡ true) × (r ≡ true)
three true true true r e = (refl, refl, refl, e)
three true true false r e = absurd (true≢false (sym e))
three true false s r e = absurd (true≢false (sym e))
three false q s r e = absurd (true≢false (sym e))

some : (p q r : Bool) → ((p && q) && r) ≡ true → (p ≡ true) × (q ≡ true) × (r ≡ true)
some true true r e = (refl, refl, e)
some true false r e = absurd (true≢false (sym e))
some false q r e = absurd (true≢false (sym e))

room : (a n x : ℕ) → x ≡ a → x < n → n ≤ 2048 → a < ROOM
room a n x e l m = omega (arith, e, l, m)

none_before : (g : ℕ) → (g ≡ 0) ⊎ (true ≡ false) → g ≡ 0
none_before g (inl e) = e
none_before g (inr e) = absurd (true≢false e)

parts_set_before : (a m g v c : ℕ) (gs : List ℕ) → list_all (is_set (counts a m g v c)) (map Part gs) ≡ true → AllByRecursion (λ k. k < g) gs
parts_set_before a m g v c [] e = tt
parts_set_before a m g v c (k ∷ gs) e = let t = and_true (nat_lt k g) (list_all (is_set (counts a m g v c)) (map Part gs)) e in (ltb-true k g t.0, parts_set_before a m g v c gs t.1)

-- code in which no atom and no membrane is found
none_found : (is : List Instr) → list_any finds is ≡ false → (atoms_set is ≡ 0) × (membranes_set is ≡ 0)
none_found [] e = (refl, refl)
none_found (FindAtom _ _ _ ∷ is) e = absurd (true≢false e)
none_found (Deref _ _ _ ∷ is) e = absurd (true≢false e)
none_found (AnyMem _ _ ∷ is) e = absurd (true≢false e)
none_found (_ ∷ is) e = none_found is e

-- ---- heads
-- Code of a head that is in order, and finds what it finds before it surveys, is in order for the machine; what stands behind it is
-- in order where its registers are set. Where a typed context was found before, it finds nothing more.
pub head_in_order : (is ys : List Instr) (a m g v : ℕ) → in_order (counts a m g v 0) (is ++ ys) ≡ true → is_head is ≡ true → finds_first is ≡ true → (g ≡ 0) ⊎ (list_any finds is ≡ false)
    → HeadInOrder a m g v is × (in_order (counts (a + atoms_set is) (m + membranes_set is) (g + parts_set is) (v + integers_set is) 0) ys ≡ true)
head_in_order [] ys a m g v o h fi s = absurd (true≢false (sym h))
head_in_order (FindAtom x y f ∷ is) ys a m g v o h fi s =
    let t = two ((x == a) && nat_lt x 1152) (nat_lt y m) (in_order (counts (a + 1) m g v 0) (is ++ ys)) o in
    let u = next_of x a 1152 t.0 in
    let z = none_before g s in
    let r = head_in_order is ys (a + 1) m g v t.2 h fi (inl z) in
    let e : (a + 1) + atoms_set is ≡ a + (1 + atoms_set is) = omega arith in
    (((u.0, ltb-true y m t.1, room a 1152 x u.0 u.1 (omega arith), z), r.0), subst (λ n. in_order (counts n (m + membranes_set is) (g + parts_set is) (v + integers_set is) 0) ys ≡ true) e r.1)
head_in_order (Deref x p k ∷ is) ys a m g v o h fi s =
    let t = two ((x == a) && nat_lt x 1152) (nat_lt p.atom a) (in_order (counts (a + 1) m g v 0) (is ++ ys)) o in
    let u = next_of x a 1152 t.0 in
    let z = none_before g s in
    let r = head_in_order is ys (a + 1) m g v t.2 h fi (inl z) in
    let e : (a + 1) + atoms_set is ≡ a + (1 + atoms_set is) = omega arith in
    (((u.0, ltb-true p.atom a t.1, room a 1152 x u.0 u.1 (omega arith), z), r.0), subst (λ n. in_order (counts n (m + membranes_set is) (g + parts_set is) (v + integers_set is) 0) ys ≡ true) e r.1)
head_in_order (AnyMem x y ∷ is) ys a m g v o h fi s =
    let t = two ((x == m) && nat_lt x 1153) (nat_lt y m) (in_order (counts a (m + 1) g v 0) (is ++ ys)) o in
    let u = next_of x m 1153 t.0 in
    let z = none_before g s in
    let r = head_in_order is ys a (m + 1) g v t.2 h fi (inl z) in
    let e : (m + 1) + membranes_set is ≡ m + (1 + membranes_set is) = omega arith in
    (((u.0, ltb-true y m t.1, room m 1153 x u.0 u.1 (omega arith)), r.0), subst (λ n. in_order (counts (a + atoms_set is) n (g + parts_set is) (v + integers_set is) 0) ys ≡ true) e r.1)
head_in_order (IsInt x p y ∷ is) ys a m g v o h fi s =
    let t = three ((x == g) && nat_lt x 128) (nat_lt p.atom a) (nat_lt y m) (in_order (counts a m (g + 1) v 0) (is ++ ys)) o in
    let u = next_of x g 128 t.0 in
    let w = and_true (not (list_any finds is)) (finds_first is) fi in
    let n = not_true (list_any finds is) w.0 in
    let r = head_in_order is ys a m (g + 1) v t.3 h w.1 (inr n) in
    let e : (g + 1) + parts_set is ≡ g + (1 + parts_set is) = omega arith in
    (((((u.0, room g 128 x u.0 u.1 (omega arith)), ltb-true p.atom a t.1, ltb-true y m t.2), (none_found is n).0), r.0), subst (λ n. in_order (counts (a + atoms_set is) (m + membranes_set is) n (v + integers_set is) 0) ys ≡ true) e r.1)
head_in_order (IsUnary x p y ∷ is) ys a m g v o h fi s =
    let t = three ((x == g) && nat_lt x 128) (nat_lt p.atom a) (nat_lt y m) (in_order (counts a m (g + 1) v 0) (is ++ ys)) o in
    let u = next_of x g 128 t.0 in
    let w = and_true (not (list_any finds is)) (finds_first is) fi in
    let n = not_true (list_any finds is) w.0 in
    let r = head_in_order is ys a m (g + 1) v t.3 h w.1 (inr n) in
    let e : (g + 1) + parts_set is ≡ g + (1 + parts_set is) = omega arith in
    (((((u.0, room g 128 x u.0 u.1 (omega arith)), ltb-true p.atom a t.1, ltb-true y m t.2), (none_found is n).0), r.0), subst (λ n. in_order (counts (a + atoms_set is) (m + membranes_set is) n (v + integers_set is) 0) ys ≡ true) e r.1)
head_in_order (IsGround x p y ∷ is) ys a m g v o h fi s =
    let t = three ((x == g) && nat_lt x 128) (nat_lt p.atom a) (nat_lt y m) (in_order (counts a m (g + 1) v 0) (is ++ ys)) o in
    let u = next_of x g 128 t.0 in
    let w = and_true (not (list_any finds is)) (finds_first is) fi in
    let n = not_true (list_any finds is) w.0 in
    let r = head_in_order is ys a m (g + 1) v t.3 h w.1 (inr n) in
    let e : (g + 1) + parts_set is ≡ g + (1 + parts_set is) = omega arith in
    (((((u.0, room g 128 x u.0 u.1 (omega arith)), ltb-true p.atom a t.1, ltb-true y m t.2), (none_found is n).0), r.0), subst (λ n. in_order (counts (a + atoms_set is) (m + membranes_set is) n (v + integers_set is) 0) ys ≡ true) e r.1)
head_in_order (NAtoms x n gs ∷ is) ys a m g v o h fi s =
    let t = some (nat_lt x m) (list_all (is_set (counts a m g v 0)) (map Part gs)) (in_order (counts a m g v 0) (is ++ ys)) o in
    let w = and_true (not (list_any finds is)) (finds_first is) fi in
    let n = not_true (list_any finds is) w.0 in
    let r = head_in_order is ys a m g v t.2 h w.1 s in
    (((ltb-true x m t.0, parts_set_before a m g v 0 gs t.1), r.0), r.1)
head_in_order (IsClosed x gs ∷ is) ys a m g v o h fi s =
    let t = some (nat_lt x m) (list_all (is_set (counts a m g v 0)) (map Part gs)) (in_order (counts a m g v 0) (is ++ ys)) o in
    let w = and_true (not (list_any finds is)) (finds_first is) fi in
    let n = not_true (list_any finds is) w.0 in
    let r = head_in_order is ys a m g v t.2 h w.1 s in
    (((ltb-true x m t.0, parts_set_before a m g v 0 gs t.1, (none_found is n).0, (none_found is n).1), r.0), r.1)
head_in_order (EqGround x y ∷ is) ys a m g v o h fi s =
    let t = two (nat_lt x g) (nat_lt y g) (in_order (counts a m g v 0) (is ++ ys)) o in
    let r = head_in_order is ys a m g v t.2 h fi s in
    (((ltb-true x g t.0, ltb-true y g t.1), r.0), r.1)
head_in_order (NeqGround x y ∷ is) ys a m g v o h fi s =
    let t = two (nat_lt x g) (nat_lt y g) (in_order (counts a m g v 0) (is ++ ys)) o in
    let r = head_in_order is ys a m g v t.2 h fi s in
    (((ltb-true x g t.0, ltb-true y g t.1), r.0), r.1)
head_in_order (GetInt x y ∷ is) ys a m g v o h fi s =
    let t = two ((x == v) && nat_lt x 512) (nat_lt y g) (in_order (counts a m g (v + 1) 0) (is ++ ys)) o in
    let u = next_of x v 512 t.0 in
    let r = head_in_order is ys a m g (v + 1) t.2 h fi s in
    let e : (v + 1) + integers_set is ≡ v + (1 + integers_set is) = omega arith in
    ((((u.0, room v 512 x u.0 u.1 (omega arith)), ltb-true y g t.1), r.0), subst (λ n. in_order (counts (a + atoms_set is) (m + membranes_set is) (g + parts_set is) n 0) ys ≡ true) e r.1)
head_in_order (Const x z ∷ is) ys a m g v o h fi s =
    let t = one ((x == v) && nat_lt x 512) (in_order (counts a m g (v + 1) 0) (is ++ ys)) o in
    let u = next_of x v 512 t.0 in
    let r = head_in_order is ys a m g (v + 1) t.1 h fi s in
    let e : (v + 1) + integers_set is ≡ v + (1 + integers_set is) = omega arith in
    (((u.0, room v 512 x u.0 u.1 (omega arith)), r.0), subst (λ n. in_order (counts (a + atoms_set is) (m + membranes_set is) (g + parts_set is) n 0) ys ≡ true) e r.1)
head_in_order (Add x y z ∷ is) ys a m g v o h fi s =
    let t = three ((x == v) && nat_lt x 512) (nat_lt y v) (nat_lt z v) (in_order (counts a m g (v + 1) 0) (is ++ ys)) o in
    let u = next_of x v 512 t.0 in
    let r = head_in_order is ys a m g (v + 1) t.3 h fi s in
    let e : (v + 1) + integers_set is ≡ v + (1 + integers_set is) = omega arith in
    ((((u.0, room v 512 x u.0 u.1 (omega arith)), ltb-true y v t.1, ltb-true z v t.2), r.0), subst (λ n. in_order (counts (a + atoms_set is) (m + membranes_set is) (g + parts_set is) n 0) ys ≡ true) e r.1)
head_in_order (Sub x y z ∷ is) ys a m g v o h fi s =
    let t = three ((x == v) && nat_lt x 512) (nat_lt y v) (nat_lt z v) (in_order (counts a m g (v + 1) 0) (is ++ ys)) o in
    let u = next_of x v 512 t.0 in
    let r = head_in_order is ys a m g (v + 1) t.3 h fi s in
    let e : (v + 1) + integers_set is ≡ v + (1 + integers_set is) = omega arith in
    ((((u.0, room v 512 x u.0 u.1 (omega arith)), ltb-true y v t.1, ltb-true z v t.2), r.0), subst (λ n. in_order (counts (a + atoms_set is) (m + membranes_set is) (g + parts_set is) n 0) ys ≡ true) e r.1)
head_in_order (Mul x y z ∷ is) ys a m g v o h fi s =
    let t = three ((x == v) && nat_lt x 512) (nat_lt y v) (nat_lt z v) (in_order (counts a m g (v + 1) 0) (is ++ ys)) o in
    let u = next_of x v 512 t.0 in
    let r = head_in_order is ys a m g (v + 1) t.3 h fi s in
    let e : (v + 1) + integers_set is ≡ v + (1 + integers_set is) = omega arith in
    ((((u.0, room v 512 x u.0 u.1 (omega arith)), ltb-true y v t.1, ltb-true z v t.2), r.0), subst (λ n. in_order (counts (a + atoms_set is) (m + membranes_set is) (g + parts_set is) n 0) ys ≡ true) e r.1)
head_in_order (Div x y z ∷ is) ys a m g v o h fi s =
    let t = three ((x == v) && nat_lt x 512) (nat_lt y v) (nat_lt z v) (in_order (counts a m g (v + 1) 0) (is ++ ys)) o in
    let u = next_of x v 512 t.0 in
    let r = head_in_order is ys a m g (v + 1) t.3 h fi s in
    let e : (v + 1) + integers_set is ≡ v + (1 + integers_set is) = omega arith in
    ((((u.0, room v 512 x u.0 u.1 (omega arith)), ltb-true y v t.1, ltb-true z v t.2), r.0), subst (λ n. in_order (counts (a + atoms_set is) (m + membranes_set is) (g + parts_set is) n 0) ys ≡ true) e r.1)
head_in_order (Mod x y z ∷ is) ys a m g v o h fi s =
    let t = three ((x == v) && nat_lt x 512) (nat_lt y v) (nat_lt z v) (in_order (counts a m g (v + 1) 0) (is ++ ys)) o in
    let u = next_of x v 512 t.0 in
    let r = head_in_order is ys a m g (v + 1) t.3 h fi s in
    let e : (v + 1) + integers_set is ≡ v + (1 + integers_set is) = omega arith in
    ((((u.0, room v 512 x u.0 u.1 (omega arith)), ltb-true y v t.1, ltb-true z v t.2), r.0), subst (λ n. in_order (counts (a + atoms_set is) (m + membranes_set is) (g + parts_set is) n 0) ys ≡ true) e r.1)
head_in_order (Func x f ∷ is) ys a m g v o h fi s =
    let t = one (nat_lt x a) (in_order (counts a m g v 0) (is ++ ys)) o in
    let r = head_in_order is ys a m g v t.1 h fi s in
    ((ltb-true x a t.0, r.0), r.1)
head_in_order (InMem x y ∷ is) ys a m g v o h fi s =
    let t = two (nat_lt x a) (nat_lt y m) (in_order (counts a m g v 0) (is ++ ys)) o in
    let r = head_in_order is ys a m g v t.2 h fi s in
    (((ltb-true x a t.0, ltb-true y m t.1), r.0), r.1)
head_in_order (NeqAtom x y ∷ is) ys a m g v o h fi s =
    let t = two (nat_lt x a) (nat_lt y a) (in_order (counts a m g v 0) (is ++ ys)) o in
    let r = head_in_order is ys a m g v t.2 h fi s in
    (((ltb-true x a t.0, ltb-true y a t.1), r.0), r.1)
head_in_order (Joined p q ∷ is) ys a m g v o h fi s =
    let t = two (nat_lt p.atom a) (nat_lt q.atom a) (in_order (counts a m g v 0) (is ++ ys)) o in
    let r = head_in_order is ys a m g v t.2 h fi s in
    (((ltb-true p.atom a t.0, ltb-true q.atom a t.1), r.0), r.1)
head_in_order (NotIn p y ∷ is) ys a m g v o h fi s =
    let t = two (nat_lt p.atom a) (nat_lt y m) (in_order (counts a m g v 0) (is ++ ys)) o in
    let r = head_in_order is ys a m g v t.2 h fi s in
    (((ltb-true p.atom a t.0, ltb-true y m t.1), r.0), r.1)
head_in_order (NeqMem x y ∷ is) ys a m g v o h fi s =
    let t = two (nat_lt x m) (nat_lt y m) (in_order (counts a m g v 0) (is ++ ys)) o in
    let r = head_in_order is ys a m g v t.2 h fi s in
    (((ltb-true x m t.0, ltb-true y m t.1), r.0), r.1)
head_in_order (NMems x n ∷ is) ys a m g v o h fi s =
    let t = one (nat_lt x m) (in_order (counts a m g v 0) (is ++ ys)) o in
    let w = and_true (not (list_any finds is)) (finds_first is) fi in
    let n = not_true (list_any finds is) w.0 in
    let r = head_in_order is ys a m g v t.1 h w.1 s in
    ((ltb-true x m t.0, r.0), r.1)
head_in_order (NoRules x ∷ is) ys a m g v o h fi s =
    let t = one (nat_lt x m) (in_order (counts a m g v 0) (is ++ ys)) o in
    let r = head_in_order is ys a m g v t.1 h fi s in
    ((ltb-true x m t.0, r.0), r.1)
head_in_order (Lt x y ∷ is) ys a m g v o h fi s =
    let t = two (nat_lt x v) (nat_lt y v) (in_order (counts a m g v 0) (is ++ ys)) o in
    let r = head_in_order is ys a m g v t.2 h fi s in
    (((ltb-true x v t.0, ltb-true y v t.1), r.0), r.1)
head_in_order (Le x y ∷ is) ys a m g v o h fi s =
    let t = two (nat_lt x v) (nat_lt y v) (in_order (counts a m g v 0) (is ++ ys)) o in
    let r = head_in_order is ys a m g v t.2 h fi s in
    (((ltb-true x v t.0, ltb-true y v t.1), r.0), r.1)
head_in_order (Gt x y ∷ is) ys a m g v o h fi s =
    let t = two (nat_lt x v) (nat_lt y v) (in_order (counts a m g v 0) (is ++ ys)) o in
    let r = head_in_order is ys a m g v t.2 h fi s in
    (((ltb-true x v t.0, ltb-true y v t.1), r.0), r.1)
head_in_order (Ge x y ∷ is) ys a m g v o h fi s =
    let t = two (nat_lt x v) (nat_lt y v) (in_order (counts a m g v 0) (is ++ ys)) o in
    let r = head_in_order is ys a m g v t.2 h fi s in
    (((ltb-true x v t.0, ltb-true y v t.1), r.0), r.1)
head_in_order (Eq x y ∷ is) ys a m g v o h fi s =
    let t = two (nat_lt x v) (nat_lt y v) (in_order (counts a m g v 0) (is ++ ys)) o in
    let r = head_in_order is ys a m g v t.2 h fi s in
    (((ltb-true x v t.0, ltb-true y v t.1), r.0), r.1)
head_in_order (Ne x y ∷ is) ys a m g v o h fi s =
    let t = two (nat_lt x v) (nat_lt y v) (in_order (counts a m g v 0) (is ++ ys)) o in
    let r = head_in_order is ys a m g v t.2 h fi s in
    (((ltb-true x v t.0, ltb-true y v t.1), r.0), r.1)
head_in_order (Commit ∷ []) ys a m g v o h fi s =
    let ea : a ≡ a + 0 = omega arith in
    let em : m ≡ m + 0 = omega arith in
    let eg : g ≡ g + 0 = omega arith in
    let ev : v ≡ v + 0 = omega arith in
    ((tt, tt), subst (λ n. in_order (counts n (m + 0) (g + 0) (v + 0) 0) ys ≡ true) ea (subst (λ n. in_order (counts a n (g + 0) (v + 0) 0) ys ≡ true) em (subst (λ n. in_order (counts a m n (v + 0) 0) ys ≡ true) eg (subst (λ n. in_order (counts a m g n 0) ys ≡ true) ev o))))
head_in_order (Commit ∷ (i ∷ is)) ys a m g v o h fi s = absurd (true≢false (sym h))
head_in_order (_ ∷ is) ys a m g v o h fi s = absurd (true≢false (sym h))

-- ---- bodies

-- An instruction of a body that takes out, makes, drops, ties or ends, where the head has n registers of atoms and h of membranes,
-- and there are k rules.
abbrev pub is_of_body : ℕ → ℕ → ℕ → Instr → Bool
is_of_body n h k (RemoveAtom _) = true
is_of_body n h k (RemovePart _) = true
is_of_body n h k (RemoveMem m) = nat_lt m h
is_of_body n h k (NewAtom _ m f) = is_open h m && not (same_functor f connector)
is_of_body n h k (NewInt _ m _) = is_open h m
is_of_body n h k (NewMem _ m) = is_open h m
is_of_body n h k (CopyGround _ m _) = is_open h m
is_of_body n h k (MoveCells m t) = is_removed h m && is_open h t
is_of_body n h k (CopyCells m t) = is_removed h m && is_open h t
is_of_body n h k (LoadRule m j) = is_open h m && nat_lt j k
is_of_body n h k (CopyRules m t) = is_removed h m && is_open h t
is_of_body n h k (DropCells m) = is_removed h m
is_of_body n h k (NewLink p q) = is_made n p && is_made n q
is_of_body n h k (Relink p q) = is_made n p && nat_lt q.atom n
is_of_body n h k (Unify p q) = nat_lt p.atom n && nat_lt q.atom n
is_of_body n h k Proceed = true
is_of_body n h k _ = false

-- a removed membrane is among those of the head
removed_below : (h m : ℕ) → is_removed h m ≡ true → m < h
removed_below h m e = ltb-true m h (and_true (nat_lt 0 m) (nat_lt m h) e).1

port_set_before : (a m g v c : ℕ) (p : NewPort) → is_set (counts a m g v c) (port_operand p) ≡ true → UsesPort a c p
port_set_before a m g v c (new.Atom p) e = ltb-true p.atom a e
port_set_before a m g v c (new.Copy x) e = ltb-true x c e

-- code in order stays so where the numbers are others of the same value
pub as_many : (is : List Instr) (a b m n c d g v : ℕ) → a ≡ b → m ≡ n → c ≡ d → BodyInOrder a m g v c is → BodyInOrder b n g v d is
as_many is a b m n c d g v ea em ec h = subst (λ x. BodyInOrder x n g v d is) ea (subst (λ x. BodyInOrder a x g v d is) em (subst (λ x. BodyInOrder a m g v x is) ec h))

-- What is read to tell the cost is set, and rules are among k.
pub told_and_loaded : (n h k g : ℕ) (is : List Instr) (a m v c : ℕ) → list_all (is_of_body n h k) is ≡ true → in_order (counts a m g v c) is ≡ true → AllByRecursion (IsTold h g) is × AllByRecursion (Loads (λ j. j < k)) is × BodyInOrder a m g v c is
told_and_loaded n h k g [] a m v c b o = (tt, tt, tt)
told_and_loaded n h k g (RemoveAtom x ∷ is) a m v c b o =
    let t = one (nat_lt x a) (in_order (counts a m g v c) is) o in
    let r = told_and_loaded n h k g is a m v c b t.1 in
    ((tt, r.0), (tt, r.1), (ltb-true x a t.0, as_many is a (a + 0) m (m + 0) c (c + 0) g v (omega arith) (omega arith) (omega arith) r.2))
told_and_loaded n h k g (RemovePart x ∷ is) a m v c b o =
    let t = one (nat_lt x g) (in_order (counts a m g v c) is) o in
    let r = told_and_loaded n h k g is a m v c b t.1 in
    ((ltb-true x g t.0, r.0), (tt, r.1), (ltb-true x g t.0, as_many is a (a + 0) m (m + 0) c (c + 0) g v (omega arith) (omega arith) (omega arith) r.2))
told_and_loaded n h k g (RemoveMem x ∷ is) a m v c b o =
    let t = one (nat_lt x m) (in_order (counts a m g v c) is) o in
    let w = and_true (nat_lt x h) (list_all (is_of_body n h k) is) b in
    let r = told_and_loaded n h k g is a m v c w.1 t.1 in
    ((ltb-true x h w.0, r.0), (tt, r.1), (ltb-true x m t.0, as_many is a (a + 0) m (m + 0) c (c + 0) g v (omega arith) (omega arith) (omega arith) r.2))
told_and_loaded n h k g (NewAtom x y f ∷ is) a m v c b o =
    let t = two ((x == a) && nat_lt x 1152) (nat_lt y m) (in_order (counts (a + 1) m g v c) is) o in
    let w = and_true (is_open h y && not (same_functor f connector)) (list_all (is_of_body n h k) is) b in
    let r = told_and_loaded n h k g is (a + 1) m v c w.1 t.2 in
    let u = next_of x a 1152 t.0 in
    ((tt, r.0), (tt, r.1), (((u.0, room a 1152 x u.0 u.1 (omega arith)), ltb-true y m t.1), as_many is (a + 1) (a + 1) m (m + 0) c (c + 0) g v refl (omega arith) (omega arith) r.2))
told_and_loaded n h k g (NewInt x y z ∷ is) a m v c b o =
    let t = three ((x == a) && nat_lt x 1152) (nat_lt y m) (nat_lt z v) (in_order (counts (a + 1) m g v c) is) o in
    let w = and_true (is_open h y) (list_all (is_of_body n h k) is) b in
    let r = told_and_loaded n h k g is (a + 1) m v c w.1 t.3 in
    let u = next_of x a 1152 t.0 in
    ((tt, r.0), (tt, r.1), (((u.0, room a 1152 x u.0 u.1 (omega arith)), ltb-true y m t.1, ltb-true z v t.2), as_many is (a + 1) (a + 1) m (m + 0) c (c + 0) g v refl (omega arith) (omega arith) r.2))
told_and_loaded n h k g (NewMem x y ∷ is) a m v c b o =
    let t = two ((x == m) && nat_lt x 1153) (nat_lt y m) (in_order (counts a (m + 1) g v c) is) o in
    let w = and_true (is_open h y) (list_all (is_of_body n h k) is) b in
    let r = told_and_loaded n h k g is a (m + 1) v c w.1 t.2 in
    let u = next_of x m 1153 t.0 in
    ((tt, r.0), (tt, r.1), (((u.0, room m 1153 x u.0 u.1 (omega arith)), ltb-true y m t.1), as_many is a (a + 0) (m + 1) (m + 1) c (c + 0) g v (omega arith) refl (omega arith) r.2))
told_and_loaded n h k g (CopyGround x y z ∷ is) a m v c b o =
    let t = three ((x == c) && nat_lt x 1024) (nat_lt y m) (nat_lt z g) (in_order (counts a m g v (c + 1)) is) o in
    let w = and_true (is_open h y) (list_all (is_of_body n h k) is) b in
    let r = told_and_loaded n h k g is a m v (c + 1) w.1 t.3 in
    let u = next_of x c 1024 t.0 in
    ((ltb-true z g t.2, r.0), (tt, r.1), (((u.0, room c 1024 x u.0 u.1 (omega arith)), ltb-true y m t.1, ltb-true z g t.2), as_many is a (a + 0) m (m + 0) (c + 1) (c + 1) g v (omega arith) (omega arith) refl r.2))
told_and_loaded n h k g (MoveCells x y ∷ is) a m v c b o =
    let t = two (nat_lt x m) (nat_lt y m) (in_order (counts a m g v c) is) o in
    let w = and_true (is_removed h x && is_open h y) (list_all (is_of_body n h k) is) b in
    let r = told_and_loaded n h k g is a m v c w.1 t.2 in
    ((tt, r.0), (tt, r.1), ((ltb-true x m t.0, ltb-true y m t.1), as_many is a (a + 0) m (m + 0) c (c + 0) g v (omega arith) (omega arith) (omega arith) r.2))
told_and_loaded n h k g (CopyCells x y ∷ is) a m v c b o =
    let t = two (nat_lt x m) (nat_lt y m) (in_order (counts a m g v c) is) o in
    let w = and_true (is_removed h x && is_open h y) (list_all (is_of_body n h k) is) b in
    let r = told_and_loaded n h k g is a m v c w.1 t.2 in
    ((removed_below h x (first_true (is_removed h x) (is_open h y) w.0), r.0), (tt, r.1), ((ltb-true x m t.0, ltb-true y m t.1), as_many is a (a + 0) m (m + 0) c (c + 0) g v (omega arith) (omega arith) (omega arith) r.2))
told_and_loaded n h k g (LoadRule x k2 ∷ is) a m v c b o =
    let t = one (nat_lt x m) (in_order (counts a m g v c) is) o in
    let w = and_true (is_open h x && nat_lt k2 k) (list_all (is_of_body n h k) is) b in
    let r = told_and_loaded n h k g is a m v c w.1 t.1 in
    ((tt, r.0), (ltb-true k2 k (second_true (is_open h x) (nat_lt k2 k) w.0), r.1), (ltb-true x m t.0, as_many is a (a + 0) m (m + 0) c (c + 0) g v (omega arith) (omega arith) (omega arith) r.2))
told_and_loaded n h k g (CopyRules x y ∷ is) a m v c b o =
    let t = two (nat_lt x m) (nat_lt y m) (in_order (counts a m g v c) is) o in
    let w = and_true (is_removed h x && is_open h y) (list_all (is_of_body n h k) is) b in
    let r = told_and_loaded n h k g is a m v c w.1 t.2 in
    ((removed_below h x (first_true (is_removed h x) (is_open h y) w.0), r.0), (tt, r.1), ((ltb-true x m t.0, ltb-true y m t.1), as_many is a (a + 0) m (m + 0) c (c + 0) g v (omega arith) (omega arith) (omega arith) r.2))
told_and_loaded n h k g (DropCells x ∷ is) a m v c b o =
    let t = one (nat_lt x m) (in_order (counts a m g v c) is) o in
    let w = and_true (is_removed h x) (list_all (is_of_body n h k) is) b in
    let r = told_and_loaded n h k g is a m v c w.1 t.1 in
    ((removed_below h x w.0, r.0), (tt, r.1), (ltb-true x m t.0, as_many is a (a + 0) m (m + 0) c (c + 0) g v (omega arith) (omega arith) (omega arith) r.2))
told_and_loaded n h k g (NewLink p q ∷ is) a m v c b o =
    let t = two (is_set (counts a m g v c) (port_operand p)) (is_set (counts a m g v c) (port_operand q)) (in_order (counts a m g v c) is) o in
    let w = and_true (is_made n p && is_made n q) (list_all (is_of_body n h k) is) b in
    let r = told_and_loaded n h k g is a m v c w.1 t.2 in
    ((tt, r.0), (tt, r.1), ((port_set_before a m g v c p t.0, port_set_before a m g v c q t.1), as_many is a (a + 0) m (m + 0) c (c + 0) g v (omega arith) (omega arith) (omega arith) r.2))
told_and_loaded n h k g (Relink p q ∷ is) a m v c b o =
    let t = two (is_set (counts a m g v c) (port_operand p)) (nat_lt q.atom a) (in_order (counts a m g v c) is) o in
    let w = and_true (is_made n p && nat_lt q.atom n) (list_all (is_of_body n h k) is) b in
    let r = told_and_loaded n h k g is a m v c w.1 t.2 in
    ((tt, r.0), (tt, r.1), ((port_set_before a m g v c p t.0, ltb-true q.atom a t.1), as_many is a (a + 0) m (m + 0) c (c + 0) g v (omega arith) (omega arith) (omega arith) r.2))
told_and_loaded n h k g (Unify p q ∷ is) a m v c b o =
    let t = two (nat_lt p.atom a) (nat_lt q.atom a) (in_order (counts a m g v c) is) o in
    let w = and_true (nat_lt p.atom n && nat_lt q.atom n) (list_all (is_of_body n h k) is) b in
    let r = told_and_loaded n h k g is a m v c w.1 t.2 in
    ((tt, r.0), (tt, r.1), ((ltb-true p.atom a t.0, ltb-true q.atom a t.1), as_many is a (a + 0) m (m + 0) c (c + 0) g v (omega arith) (omega arith) (omega arith) r.2))
told_and_loaded n h k g (Proceed ∷ is) a m v c b o =
    let r = told_and_loaded n h k g is a m v c b o in
    ((tt, r.0), (tt, r.1), (tt, as_many is a (a + 0) m (m + 0) c (c + 0) g v (omega arith) (omega arith) (omega arith) r.2))
told_and_loaded n h k g (_ ∷ is) a m v c b o = absurd (true≢false (sym b))
