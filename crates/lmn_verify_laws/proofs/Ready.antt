-- Verified code sets its registers in order, reads none that isn't set, and loads rules that are there.
use Rattle.std.proofs.Common.{◌≡◌, ◌<◌, ◌≤◌, ◌+◌, ◌&&◌, inl, ℕ, zero, suc, Bool, true, false, List, [], ◌∷◌, ◌++◌, map, length, drop, refl, sym, ◌∙◌, subst, arith, true≢false}
use Rattle.std.specs.Prelude.{if◌then◌else◌}
use Rattle.std.specs.List.{AllByRecursion, list_all}
use Rattle.std.proofs.lemmas.Bool.{lt-ltb, eqb-true}
use Rattle.lmn_base.proofs.Truth.{and_true}
use Rattle.lmn_base.proofs.Lists.{all_append}
use Rattle.lmn_congruence_splice.specs.Classes.{rising}
use Rattle.lmn_instr_code.specs.declared.instr.Code.{Code}
use Rattle.lmn_instr_code.specs.declared.instr.Instr.{Instr}
use Rattle.lmn_instr_code.specs.declared.instr.Instr.TheVariants.{AnyMem, RemoveAtom, RemovePart, RemoveMem, NewAtom, NewInt, NewMem, CopyGround, MoveCells, CopyCells, LoadRule, CopyRules, DropCells, NewLink, Relink, Unify, Proceed}
use Rattle.lmn_instr_code.specs.Running.{atoms_set, membranes_set}
use Rattle.lmn_machine.specs.Searching.{parts_set, integers_set}
use Rattle.lmn_machine.specs.Costs.{IsTold}
use Rattle.lmn_instr_code.specs.declared.words.Operand.{Operand}
use Rattle.lmn_instr_code.specs.declared.words.Operand.TheVariants.{Atom, Membrane, Part, Integer, Copy, Port, Functor as Of, Number, Constant}
use Rattle.lmn_verify_code.specs.Verified.{IsVerified, in_order, atoms_found, membranes_found, parts_found, registers_held, held, removes, takes_out, is_empty, is_proceed, makes, ties, drops, ties_and_ends, drops_and_ties, makes_and_ties}
use Rattle.lmn_verify_laws.specs.Laws.{VerifiedIsInOrder}
use Rattle.lmn_verify_laws.proofs.InOrder.{counts, is_of_body, head_in_order, told_and_loaded}

-- a head finds as many membranes as it sets registers
pub membranes_counted : (is : List Instr) → length (membranes_found is) ≡ membranes_set is
membranes_counted [] = refl
membranes_counted (AnyMem m n ∷ is) = let r = membranes_counted is in let s : suc (length (membranes_found is)) ≡ 1 + membranes_set is = omega (arith, r) in s
membranes_counted (_ ∷ is) = membranes_counted is

-- ---- what a body takes out

-- a membrane register that is named is among the first h
abbrev pub Below : ℕ → Operand → Type 0
Below h (Membrane m) = m < h
Below h _ = Unit {0}

atoms_below : (h a n : ℕ) → AllByRecursion (Below h) (map Atom (rising a n))
atoms_below h a zero = tt
atoms_below h a (suc n) = (tt, atoms_below h (suc a) n)

parts_below : (h g n : ℕ) → AllByRecursion (Below h) (map Part (rising g n))
parts_below h g zero = tt
parts_below h g (suc n) = (tt, parts_below h (suc g) n)

membranes_below : (h m n : ℕ) → m + n ≤ h → AllByRecursion (Below h) (map Membrane (rising m n))
membranes_below h m zero l = tt
membranes_below h m (suc n) l = (omega (arith, l), membranes_below h (suc m) n (omega (arith, l)))

held_below : (a g m : ℕ) → AllByRecursion (Below (1 + m)) (registers_held a g m)
held_below a g m =
    all_append (Below (1 + m)) (map Atom (rising 0 a)) (map Part (rising 0 g) ++ map Membrane (rising 1 m)) (atoms_below (1 + m) 0 a)
    (all_append (Below (1 + m)) (map Part (rising 0 g)) (map Membrane (rising 1 m)) (parts_below (1 + m) 0 g) (membranes_below (1 + m) 1 m (omega arith)))

one_removed : (n h k : ℕ) (i : Instr) (o : Operand) → removes i o ≡ true → Below h o → is_of_body n h k i ≡ true
one_removed n h k (RemoveAtom a) o e b = refl
one_removed n h k (RemovePart g) o e b = refl
one_removed n h k (RemoveMem m) (Membrane o) e b = lt-ltb m h (subst (λ x. x < h) (sym (eqb-true m o e)) b)
one_removed n h k (RemoveMem m) (Atom _) e b = absurd (true≢false (sym e))
one_removed n h k (RemoveMem m) (Part _) e b = absurd (true≢false (sym e))
one_removed n h k (RemoveMem m) (Integer _) e b = absurd (true≢false (sym e))
one_removed n h k (RemoveMem m) (Copy _) e b = absurd (true≢false (sym e))
one_removed n h k (RemoveMem m) (Port _) e b = absurd (true≢false (sym e))
one_removed n h k (RemoveMem m) (Of _) e b = absurd (true≢false (sym e))
one_removed n h k (RemoveMem m) (Number _) e b = absurd (true≢false (sym e))
one_removed n h k (RemoveMem m) (Constant _) e b = absurd (true≢false (sym e))
one_removed n h k _ o e b = absurd (true≢false (sym e))

all_removed : (n h k : ℕ) (os : List Operand) (is : List Instr) → takes_out os is ≡ true → AllByRecursion (Below h) os → list_all (is_of_body n h k) (drop (length os) is) ≡ true → list_all (is_of_body n h k) is ≡ true
all_removed n h k [] is e b r = r
all_removed n h k (o ∷ os) [] e b r = absurd (true≢false (sym e))
all_removed n h k (o ∷ os) (i ∷ is) e b r =
    let t = and_true (removes i o) (takes_out os is) e in
    let x = one_removed n h k i o t.0 b.0 in
    let y = all_removed n h k os is t.1 b.1 r in
    λ j. x j && y j

-- ---- what it does then

made_is : (n h k : ℕ) (i : Instr) → makes h k i ≡ true → is_of_body n h k i ≡ true
made_is n h k (NewAtom _ _ _) e = e
made_is n h k (NewInt _ _ _) e = e
made_is n h k (NewMem _ _) e = e
made_is n h k (CopyGround _ _ _) e = e
made_is n h k (MoveCells _ _) e = e
made_is n h k (CopyCells _ _) e = e
made_is n h k (LoadRule _ _) e = e
made_is n h k (CopyRules _ _) e = e
made_is n h k _ e = absurd (true≢false (sym e))

dropped_is : (n h k : ℕ) (i : Instr) → drops h i ≡ true → is_of_body n h k i ≡ true
dropped_is n h k (DropCells m) e = e
dropped_is n h k _ e = absurd (true≢false (sym e))

tied_is : (n h k : ℕ) (i : Instr) → ties n i ≡ true → is_of_body n h k i ≡ true
tied_is n h k (NewLink _ _) e = e
tied_is n h k (Relink _ _) e = e
tied_is n h k (Unify _ _) e = e
tied_is n h k _ e = absurd (true≢false (sym e))

proceeds_is : (n h k : ℕ) (i : Instr) → is_proceed i ≡ true → is_of_body n h k i ≡ true
proceeds_is n h k Proceed e = refl
proceeds_is n h k _ e = absurd (true≢false (sym e))

nothing_is : (n h k : ℕ) (is : List Instr) → is_empty is ≡ true → list_all (is_of_body n h k) is ≡ true
nothing_is n h k [] e = refl
nothing_is n h k (i ∷ is) e = absurd (true≢false (sym e))

all_tied : (n h k : ℕ) (is : List Instr) → ties_and_ends n is ≡ true → list_all (is_of_body n h k) is ≡ true
all_tied n h k [] e = absurd (true≢false (sym e))
all_tied n h k (i ∷ is) e = by (is_proceed i) refl e (all_tied n h k is)
  where
    by : (b : Bool) → is_proceed i ≡ b → (if b then is_empty is else (ties n i && ties_and_ends n is)) ≡ true → (ties_and_ends n is ≡ true → list_all (is_of_body n h k) is ≡ true) → list_all (is_of_body n h k) (i ∷ is) ≡ true
    by true p e rest = let x = proceeds_is n h k i p in let y = nothing_is n h k is e in λ j. x j && y j
    by false p e rest = let t = and_true (ties n i) (ties_and_ends n is) e in let x = tied_is n h k i t.0 in let y = rest t.1 in λ j. x j && y j

all_dropped : (n h k : ℕ) (is : List Instr) → drops_and_ties h n is ≡ true → list_all (is_of_body n h k) is ≡ true
all_dropped n h k [] e = absurd (true≢false (sym e))
all_dropped n h k (i ∷ is) e = by (drops h i) refl e (all_dropped n h k is)
  where
    by : (b : Bool) → drops h i ≡ b → (if b then drops_and_ties h n is else ties_and_ends n (i ∷ is)) ≡ true → (drops_and_ties h n is ≡ true → list_all (is_of_body n h k) is ≡ true) → list_all (is_of_body n h k) (i ∷ is) ≡ true
    by true p e rest = let x = dropped_is n h k i p in let y = rest e in λ j. x j && y j
    by false p e rest = all_tied n h k (i ∷ is) e

all_made : (n h k : ℕ) (is : List Instr) → makes_and_ties h k n is ≡ true → list_all (is_of_body n h k) is ≡ true
all_made n h k [] e = absurd (true≢false (sym e))
all_made n h k (i ∷ is) e = by (makes h k i) refl e (all_made n h k is)
  where
    by : (b : Bool) → makes h k i ≡ b → (if b then makes_and_ties h k n is else drops_and_ties h n (i ∷ is)) ≡ true → (makes_and_ties h k n is ≡ true → list_all (is_of_body n h k) is ≡ true) → list_all (is_of_body n h k) (i ∷ is) ≡ true
    by true p e rest = let x = made_is n h k i p in let y = rest e in λ j. x j && y j
    by false p e rest = all_dropped n h k (i ∷ is) e

-- ---- all of a code

-- Each instruction of a verified body takes out, makes, drops, ties or ends.
pub body_is : (code : Code) (k : ℕ) → IsVerified code k → list_all (is_of_body (length (atoms_found code.head)) (1 + length (membranes_found code.head)) k) code.body ≡ true
body_is code k v =
    let n = length (atoms_found code.head) in
    let h = 1 + length (membranes_found code.head) in
    all_removed n h k (held code) code.body v.taken (held_below n (length (parts_found code.head)) (length (membranes_found code.head))) (all_made n h k (drop (length (held code)) code.body) v.rest)

-- Verified code is in order.
pub verified_is_in_order : VerifiedIsInOrder
verified_is_in_order code k v =
    let a = atoms_set code.head in
    let m = membranes_set code.head in
    let g = parts_set code.head in
    let n = integers_set code.head in
    let w = head_in_order code.head code.body 0 1 0 0 v.order v.head v.first (inl refl) in
    let za : a ≡ 0 + a = omega arith in
    let zg : g ≡ 0 + g = omega arith in
    let zn : n ≡ 0 + n = omega arith in
    let behind : in_order (counts a (1 + m) g n 0) code.body ≡ true = (λ i. in_order (counts (za i) (1 + m) (zg i) (zn i) 0) code.body) ∙ w.1 in
    let u = told_and_loaded (length (atoms_found code.head)) (1 + length (membranes_found code.head)) k g code.body a (1 + m) n 0 (body_is code k v) behind in
    record {
      head = w.0;
      ready = record { order = u.2; told = subst (λ x. AllByRecursion (IsTold (1 + x) g) code.body) (membranes_counted code.head) u.0 };
      loads = u.1;
    }
