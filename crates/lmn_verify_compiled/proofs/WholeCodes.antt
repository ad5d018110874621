-- Verified code is whole code, where its numbers have as many bits as are kept of them.
use Rattle.std.proofs.Common.{◌≡◌, ◌≢◌, ◌≤◌, ◌<◌, ◌+◌, ◌^◌, ◌==◌, ◌&&◌, ℕ, zero, suc, Bool, true, false, if◌then◌else◌, List, [], ◌∷◌, ◌++◌, length, map, refl, sym, ap, ◌∙◌, subst, arith, true≢false}
use Rattle.std.specs.Prelude.{nat_lt, slice_index_or, drop, filter_map}
use Rattle.std.specs.List.{list_all, AllByRecursion}
use Rattle.std.proofs.lemmas.List.Folds.{list_all-append}
use Rattle.lmn_base.proofs.Lists.{all_left, all_right, all_append}
use Rattle.lmn_base.proofs.Numbers.{equal_when, is_less}
use Rattle.lmn_base.proofs.Truth.{and_true}
use Rattle.lmn_instr_code.specs.declared.instr.AtomPort.{AtomPort}
use Rattle.lmn_instr_code.specs.declared.instr.NewPort.{NewPort}
use Rattle.lmn_instr_code.specs.declared.instr.NewPort.TheVariants as new
use Rattle.lmn_instr_code.specs.declared.instr.Code.{Code}
use Rattle.lmn_instr_code.specs.declared.instr.Instr.{Instr}
use Rattle.lmn_instr_code.specs.declared.instr.Instr.TheVariants.{FindAtom, Deref, Func, InMem, NeqAtom, Joined, NotIn, AnyMem, NeqMem, IsInt, IsUnary, IsGround, NAtoms, NMems, NoRules, IsClosed, EqGround, NeqGround, GetInt, Const, Add, Sub, Mul, Div, Mod, Lt, Le, Gt, Ge, Eq, Ne, Commit, RemoveAtom, RemovePart, RemoveMem, NewAtom, NewInt, NewMem, CopyGround, MoveCells, CopyCells, LoadRule, CopyRules, DropCells, NewLink, Relink, Unify, Proceed}
use Rattle.lmn_verify_code.specs.declared.found.RegisterCounts.{RegisterCounts}
use Rattle.lmn_verify_code.specs.declared.found.FoundAtom.{FoundAtom}
use Rattle.lmn_instr_code.specs.declared.opcode.Opcode.{Opcode}
use Rattle.lmn_instr_code.specs.declared.opcode.Opcode.TheVariants as opcode
use Rattle.lmn_instr_code.specs.declared.opcode.Kind.TheVariants as kind
use Rattle.lmn_instr_code.specs.declared.words.Operand.{Operand}
use Rattle.lmn_instr_code.specs.declared.words.Operand.TheVariants.{Atom, Membrane, Part, Integer, Copy, Port, Functor as Of, Number, Constant}
use Rattle.lmn_instr_code.specs.Words.{operands, port_operand, opcode_of}
use Rattle.lmn_instr_code.specs.Opcodes.{is_in_head}
use Rattle.lmn_verify_listing.specs.Forms.{FitsKind}
use Rattle.lmn_verify_listing.specs.Lines.{FitsInstr}
use Rattle.lmn_verify_listing.specs.Listings.{IsBlock}
use Rattle.lmn_verify_code.specs.Verified.{IsVerified, sets_register, is_next, is_set, with_one, uses_in_order, after_one, after, in_order, at_first, found_behind, found_first, atoms_found, membranes_found, is_of_head, is_empty, is_commit, is_proceed, is_head, arity_made, arities, port_of_register, named_ports, has_port, removes, takes_out, held, makes, ties, ties_and_ends, drops_and_ties, makes_and_ties}
use Rattle.lmn_verify_code.specs.Verified as verified
use Rattle.lmn_verify_compiled.specs.Kept.{IsKept, AreKept, IsKeptCode, VerifiedIsWhole}
use Rattle.lmn_verify_code.proofs.Common.{proceed_is}

-- ---- registers

-- the number of a register has 16 bits
abbrev Register : Operand → Type 0
Register (Atom a) = a < 2 ^ 16
Register (Membrane m) = m < 2 ^ 16
Register (Part g) = g < 2 ^ 16
Register (Integer v) = v < 2 ^ 16
Register (Copy c) = c < 2 ^ 16
Register (Port p) = p.atom < 2 ^ 16
Register (Of f) = Unit {0}
Register (Number n) = Unit {0}
Register (Constant z) = Unit {0}

abbrev AreRegisters : Instr → Type 0
AreRegisters i = AllByRecursion Register (operands i)

-- no more registers than there are
record Within (c : RegisterCounts) : Type 0 where
  pub atoms : c.atoms ≤ 1152
  pub membranes : c.membranes ≤ 1153
  pub parts : c.parts ≤ 128
  pub integers : c.integers ≤ 512
  pub copies : c.copies ≤ 1024

set_fits : (c : RegisterCounts) → Within c → (o : Operand) → is_set c o ≡ true → Register o
set_fits c w (Atom a) e = let l = is_less a c.atoms e in let k = w.atoms in omega (arith, l, k)
set_fits c w (Membrane m) e = let l = is_less m c.membranes e in let k = w.membranes in omega (arith, l, k)
set_fits c w (Part g) e = let l = is_less g c.parts e in let k = w.parts in omega (arith, l, k)
set_fits c w (Integer v) e = let l = is_less v c.integers e in let k = w.integers in omega (arith, l, k)
set_fits c w (Copy x) e = let l = is_less x c.copies e in let k = w.copies in omega (arith, l, k)
set_fits c w (Port p) e = let l = is_less p.atom c.atoms e in let k = w.atoms in omega (arith, l, k)
set_fits c w (Of f) e = tt
set_fits c w (Number n) e = tt
set_fits c w (Constant z) e = tt

next_fits : (c : RegisterCounts) → Within c → (o : Operand) → is_next c o ≡ true → Register o × Within (with_one c o)
next_fits c w (Atom a) e =
    let b = and_true (a == c.atoms) (nat_lt a 1152) e in let same = equal_when a c.atoms b.0 in let l = is_less a 1152 b.1 in
    (omega (arith, l), record { atoms = omega (arith, l, same); membranes = w.membranes; parts = w.parts; integers = w.integers; copies = w.copies })
next_fits c w (Membrane m) e =
    let b = and_true (m == c.membranes) (nat_lt m 1153) e in let same = equal_when m c.membranes b.0 in let l = is_less m 1153 b.1 in
    (omega (arith, l), record { atoms = w.atoms; membranes = omega (arith, l, same); parts = w.parts; integers = w.integers; copies = w.copies })
next_fits c w (Part g) e =
    let b = and_true (g == c.parts) (nat_lt g 128) e in let same = equal_when g c.parts b.0 in let l = is_less g 128 b.1 in
    (omega (arith, l), record { atoms = w.atoms; membranes = w.membranes; parts = omega (arith, l, same); integers = w.integers; copies = w.copies })
next_fits c w (Integer v) e =
    let b = and_true (v == c.integers) (nat_lt v 512) e in let same = equal_when v c.integers b.0 in let l = is_less v 512 b.1 in
    (omega (arith, l), record { atoms = w.atoms; membranes = w.membranes; parts = w.parts; integers = omega (arith, l, same); copies = w.copies })
next_fits c w (Copy x) e =
    let b = and_true (x == c.copies) (nat_lt x 1024) e in let same = equal_when x c.copies b.0 in let l = is_less x 1024 b.1 in
    (omega (arith, l), record { atoms = w.atoms; membranes = w.membranes; parts = w.parts; integers = w.integers; copies = omega (arith, l, same) })
next_fits c w (Port p) e = absurd (true≢false (sym e))
next_fits c w (Of f) e = absurd (true≢false (sym e))
next_fits c w (Number n) e = absurd (true≢false (sym e))
next_fits c w (Constant z) e = absurd (true≢false (sym e))

all_set : (c : RegisterCounts) → Within c → (os : List Operand) → list_all (is_set c) os ≡ true → AllByRecursion Register os
all_set c w [] e = tt
all_set c w (o ∷ os) e = let b = and_true (is_set c o) (list_all (is_set c) os) e in (set_fits c w o b.0, all_set c w os b.1)

used : (sets : Bool) (c : RegisterCounts) (os : List Operand) → Within c → uses_in_order sets c os ≡ true → AllByRecursion Register os × Within (after_one sets c os)
used sets c [] w e = (tt, w)
used true c (o ∷ os) w e = let b = and_true (is_next c o) (list_all (is_set c) os) e in let n = next_fits c w o b.0 in ((n.0, all_set c w os b.1), n.1)
used false c (o ∷ os) w e = let b = and_true (is_set c o) (list_all (is_set c) os) e in ((set_fits c w o b.0, all_set c w os b.1), w)

-- code that sets its registers in order
ordered : (c : RegisterCounts) (is : List Instr) → Within c → in_order c is ≡ true → AllByRecursion AreRegisters is
ordered c [] w e = tt
ordered c (i ∷ is) w e =
    let b = and_true (uses_in_order (sets_register i) c (operands i)) (in_order (after c i) is) e in
    let u = used (sets_register i) c (operands i) w b.0 in
    (u.0, ordered (after c i) is u.1 b.1)

-- ---- ports

abbrev AreSmall : List ℕ → Type 0
AreSmall ns = AllByRecursion (λ n. n < 2 ^ 8) ns

index_small : (ns : List ℕ) (a : ℕ) → AreSmall ns → slice_index_or ns a 0 < 2 ^ 8
index_small [] a h = omega arith
index_small (n ∷ ns) zero h = h.0
index_small (n ∷ ns) (suc a) h = index_small ns a h.1

behind_small : (a : ℕ) (is : List Instr) → AreKept is → AllByRecursion (λ (b : FoundAtom). b.functor.arity < 2 ^ 8) (found_behind a is)
behind_small a [] k = tt
behind_small a (Func b f ∷ []) k = tt
behind_small a (Func b f ∷ (InMem c m ∷ is)) k = (k.0.1.0.1, tt)
behind_small a (Func b f ∷ (_ ∷ is)) k = tt
behind_small a (_ ∷ is) k = tt

found_small : (is : List Instr) → AreKept is → AreSmall (map (λ (b : FoundAtom). b.functor.arity) (atoms_found is))
found_small is k = mapped (atoms_found is) (found is k)
  where
    mapped : (as' : List FoundAtom) → AllByRecursion (λ (b : FoundAtom). b.functor.arity < 2 ^ 8) as' → AreSmall (map (λ (b : FoundAtom). b.functor.arity) as')
    mapped [] h = tt
    mapped (a ∷ as') h = (h.0, mapped as' h.1)

    first : (i : Instr) (is : List Instr) → AllByRecursion IsKept (operands i) → AreKept is → AllByRecursion (λ (b : FoundAtom). b.functor.arity < 2 ^ 8) (found_first i is)
    first (FindAtom a m f) is k more = (k.1.1.0.1, tt)
    first (Deref a p j) is k more = behind_small a is more
    first _ is k more = tt

    found : (is : List Instr) → AreKept is → AllByRecursion (λ (b : FoundAtom). b.functor.arity < 2 ^ 8) (atoms_found is)
    found [] k = tt
    found (i ∷ is) k = all_append (λ (b : FoundAtom). b.functor.arity < 2 ^ 8) (found_first i is) (atoms_found is) (first i is k.0 k.1) (found is k.1)

made_small : (is : List Instr) → AreKept is → AreSmall (filter_map arity_made is)
made_small [] k = tt
made_small (NewAtom a m f ∷ is) k = (k.0.1.1.0.1, made_small is k.1)
made_small (NewInt a m v ∷ is) k = (omega arith, made_small is k.1)
made_small (_ ∷ is) k = made_small is k.1

-- ---- instructions

-- a rule has a number of 32 bits
abbrev RuleFits : Instr → Type 0
RuleFits (LoadRule m n) = n < 2 ^ 32
RuleFits _ = Unit {0}

parts_fit : (gs : List ℕ) → AllByRecursion Register (map Part gs) → AllByRecursion (λ g. g < 2 ^ 16) gs
parts_fit [] h = tt
parts_fit (g ∷ gs) h = (h.0, parts_fit gs h.1)

module _ (ns : List ℕ) (small : AreSmall ns) where
  port_fits : (p : AtomPort) → has_port ns (new.Atom p) ≡ true → p.port < 2 ^ 8
  port_fits p e = let l = is_less p.port (slice_index_or ns p.atom 0) e in let s = index_small ns p.atom small in omega (arith, l, s)

  new_fits : (p : NewPort) → Register (port_operand p) → has_port ns p ≡ true → FitsKind kind.NewPort (port_operand p)
  new_fits (new.Atom p) r e = (r, port_fits p e)
  new_fits (new.Copy c) r e = r

  fits_instr : (i : Instr) → AreRegisters i → AllByRecursion IsKept (operands i) → list_all (has_port ns) (named_ports i) ≡ true → RuleFits i → FitsInstr i
  fits_instr (FindAtom a m f) r k h u = record { first = Atom a; second = Membrane m; third = Of f; parts = []; fits = record { first = r.0; second = r.1.0; third = k.1.1.0; few = λ e. refl; parts = tt }; are = refl }
  fits_instr (Deref a p j) r k h u = record { first = Atom a; second = Port p; third = Number j; parts = []; fits = record { first = r.0; second = (r.1.0, port_fits p ((and_true _ _ h).0)); third = port_fits (port_of_register a j) ((and_true _ _ (and_true _ _ h).1).0); few = λ e. refl; parts = tt }; are = refl }
  fits_instr (Func a f) r k h u = record { first = Atom a; second = Of f; third = Number 0; parts = []; fits = record { first = r.0; second = k.1.0; third = tt; few = λ e. refl; parts = tt }; are = refl }
  fits_instr (InMem a m) r k h u = record { first = Atom a; second = Membrane m; third = Number 0; parts = []; fits = record { first = r.0; second = r.1.0; third = tt; few = λ e. refl; parts = tt }; are = refl }
  fits_instr (NeqAtom a b) r k h u = record { first = Atom a; second = Atom b; third = Number 0; parts = []; fits = record { first = r.0; second = r.1.0; third = tt; few = λ e. refl; parts = tt }; are = refl }
  fits_instr (Joined p q) r k h u = record { first = Port p; second = Port q; third = Number 0; parts = []; fits = record { first = (r.0, port_fits p ((and_true _ _ h).0)); second = (r.1.0, port_fits q ((and_true _ _ (and_true _ _ h).1).0)); third = tt; few = λ e. refl; parts = tt }; are = refl }
  fits_instr (NotIn p m) r k h u = record { first = Port p; second = Membrane m; third = Number 0; parts = []; fits = record { first = (r.0, port_fits p ((and_true _ _ h).0)); second = r.1.0; third = tt; few = λ e. refl; parts = tt }; are = refl }
  fits_instr (AnyMem m n) r k h u = record { first = Membrane m; second = Membrane n; third = Number 0; parts = []; fits = record { first = r.0; second = r.1.0; third = tt; few = λ e. refl; parts = tt }; are = refl }
  fits_instr (NeqMem m n) r k h u = record { first = Membrane m; second = Membrane n; third = Number 0; parts = []; fits = record { first = r.0; second = r.1.0; third = tt; few = λ e. refl; parts = tt }; are = refl }
  fits_instr (IsInt g p m) r k h u = record { first = Part g; second = Port p; third = Membrane m; parts = []; fits = record { first = r.0; second = (r.1.0, port_fits p ((and_true _ _ h).0)); third = r.1.1.0; few = λ e. refl; parts = tt }; are = refl }
  fits_instr (IsUnary g p m) r k h u = record { first = Part g; second = Port p; third = Membrane m; parts = []; fits = record { first = r.0; second = (r.1.0, port_fits p ((and_true _ _ h).0)); third = r.1.1.0; few = λ e. refl; parts = tt }; are = refl }
  fits_instr (IsGround g p m) r k h u = record { first = Part g; second = Port p; third = Membrane m; parts = []; fits = record { first = r.0; second = (r.1.0, port_fits p ((and_true _ _ h).0)); third = r.1.1.0; few = λ e. refl; parts = tt }; are = refl }
  fits_instr (NAtoms m n gs) r k h u = record { first = Membrane m; second = Number n; third = Number 0; parts = gs; fits = record { first = r.0; second = k.1.0; third = tt; few = λ e. absurd (true≢false e); parts = parts_fit gs r.1.1 }; are = refl }
  fits_instr (NMems m n) r k h u = record { first = Membrane m; second = Number n; third = Number 0; parts = []; fits = record { first = r.0; second = k.1.0; third = tt; few = λ e. refl; parts = tt }; are = refl }
  fits_instr (NoRules m) r k h u = record { first = Membrane m; second = Number 0; third = Number 0; parts = []; fits = record { first = r.0; second = tt; third = tt; few = λ e. refl; parts = tt }; are = refl }
  fits_instr (IsClosed m gs) r k h u = record { first = Membrane m; second = Number 0; third = Number 0; parts = gs; fits = record { first = r.0; second = tt; third = tt; few = λ e. absurd (true≢false e); parts = parts_fit gs r.1 }; are = refl }
  fits_instr (EqGround g g2) r k h u = record { first = Part g; second = Part g2; third = Number 0; parts = []; fits = record { first = r.0; second = r.1.0; third = tt; few = λ e. refl; parts = tt }; are = refl }
  fits_instr (NeqGround g g2) r k h u = record { first = Part g; second = Part g2; third = Number 0; parts = []; fits = record { first = r.0; second = r.1.0; third = tt; few = λ e. refl; parts = tt }; are = refl }
  fits_instr (GetInt v g) r k h u = record { first = Integer v; second = Part g; third = Number 0; parts = []; fits = record { first = r.0; second = r.1.0; third = tt; few = λ e. refl; parts = tt }; are = refl }
  fits_instr (Const v z) r k h u = record { first = Integer v; second = Constant z; third = Number 0; parts = []; fits = record { first = r.0; second = k.1.0; third = tt; few = λ e. refl; parts = tt }; are = refl }
  fits_instr (Add v w x) r k h u = record { first = Integer v; second = Integer w; third = Integer x; parts = []; fits = record { first = r.0; second = r.1.0; third = r.1.1.0; few = λ e. refl; parts = tt }; are = refl }
  fits_instr (Sub v w x) r k h u = record { first = Integer v; second = Integer w; third = Integer x; parts = []; fits = record { first = r.0; second = r.1.0; third = r.1.1.0; few = λ e. refl; parts = tt }; are = refl }
  fits_instr (Mul v w x) r k h u = record { first = Integer v; second = Integer w; third = Integer x; parts = []; fits = record { first = r.0; second = r.1.0; third = r.1.1.0; few = λ e. refl; parts = tt }; are = refl }
  fits_instr (Div v w x) r k h u = record { first = Integer v; second = Integer w; third = Integer x; parts = []; fits = record { first = r.0; second = r.1.0; third = r.1.1.0; few = λ e. refl; parts = tt }; are = refl }
  fits_instr (Mod v w x) r k h u = record { first = Integer v; second = Integer w; third = Integer x; parts = []; fits = record { first = r.0; second = r.1.0; third = r.1.1.0; few = λ e. refl; parts = tt }; are = refl }
  fits_instr (Lt v w) r k h u = record { first = Integer v; second = Integer w; third = Number 0; parts = []; fits = record { first = r.0; second = r.1.0; third = tt; few = λ e. refl; parts = tt }; are = refl }
  fits_instr (Le v w) r k h u = record { first = Integer v; second = Integer w; third = Number 0; parts = []; fits = record { first = r.0; second = r.1.0; third = tt; few = λ e. refl; parts = tt }; are = refl }
  fits_instr (Gt v w) r k h u = record { first = Integer v; second = Integer w; third = Number 0; parts = []; fits = record { first = r.0; second = r.1.0; third = tt; few = λ e. refl; parts = tt }; are = refl }
  fits_instr (Ge v w) r k h u = record { first = Integer v; second = Integer w; third = Number 0; parts = []; fits = record { first = r.0; second = r.1.0; third = tt; few = λ e. refl; parts = tt }; are = refl }
  fits_instr (Eq v w) r k h u = record { first = Integer v; second = Integer w; third = Number 0; parts = []; fits = record { first = r.0; second = r.1.0; third = tt; few = λ e. refl; parts = tt }; are = refl }
  fits_instr (Ne v w) r k h u = record { first = Integer v; second = Integer w; third = Number 0; parts = []; fits = record { first = r.0; second = r.1.0; third = tt; few = λ e. refl; parts = tt }; are = refl }
  fits_instr Commit r k h u = record { first = Number 0; second = Number 0; third = Number 0; parts = []; fits = record { first = tt; second = tt; third = tt; few = λ e. refl; parts = tt }; are = refl }
  fits_instr (RemoveAtom a) r k h u = record { first = Atom a; second = Number 0; third = Number 0; parts = []; fits = record { first = r.0; second = tt; third = tt; few = λ e. refl; parts = tt }; are = refl }
  fits_instr (RemovePart g) r k h u = record { first = Part g; second = Number 0; third = Number 0; parts = []; fits = record { first = r.0; second = tt; third = tt; few = λ e. refl; parts = tt }; are = refl }
  fits_instr (RemoveMem m) r k h u = record { first = Membrane m; second = Number 0; third = Number 0; parts = []; fits = record { first = r.0; second = tt; third = tt; few = λ e. refl; parts = tt }; are = refl }
  fits_instr (NewAtom a m f) r k h u = record { first = Atom a; second = Membrane m; third = Of f; parts = []; fits = record { first = r.0; second = r.1.0; third = k.1.1.0; few = λ e. refl; parts = tt }; are = refl }
  fits_instr (NewInt a m v) r k h u = record { first = Atom a; second = Membrane m; third = Integer v; parts = []; fits = record { first = r.0; second = r.1.0; third = r.1.1.0; few = λ e. refl; parts = tt }; are = refl }
  fits_instr (NewMem m n) r k h u = record { first = Membrane m; second = Membrane n; third = Number 0; parts = []; fits = record { first = r.0; second = r.1.0; third = tt; few = λ e. refl; parts = tt }; are = refl }
  fits_instr (CopyGround c m g) r k h u = record { first = Copy c; second = Membrane m; third = Part g; parts = []; fits = record { first = r.0; second = r.1.0; third = r.1.1.0; few = λ e. refl; parts = tt }; are = refl }
  fits_instr (MoveCells m n) r k h u = record { first = Membrane m; second = Membrane n; third = Number 0; parts = []; fits = record { first = r.0; second = r.1.0; third = tt; few = λ e. refl; parts = tt }; are = refl }
  fits_instr (CopyCells m n) r k h u = record { first = Membrane m; second = Membrane n; third = Number 0; parts = []; fits = record { first = r.0; second = r.1.0; third = tt; few = λ e. refl; parts = tt }; are = refl }
  fits_instr (LoadRule m n) r k h u = record { first = Membrane m; second = Number n; third = Number 0; parts = []; fits = record { first = r.0; second = u; third = tt; few = λ e. refl; parts = tt }; are = refl }
  fits_instr (CopyRules m n) r k h u = record { first = Membrane m; second = Membrane n; third = Number 0; parts = []; fits = record { first = r.0; second = r.1.0; third = tt; few = λ e. refl; parts = tt }; are = refl }
  fits_instr (DropCells m) r k h u = record { first = Membrane m; second = Number 0; third = Number 0; parts = []; fits = record { first = r.0; second = tt; third = tt; few = λ e. refl; parts = tt }; are = refl }
  fits_instr (NewLink p q) r k h u = record { first = port_operand p; second = port_operand q; third = Number 0; parts = []; fits = record { first = new_fits p r.0 ((and_true _ _ h).0); second = new_fits q r.1.0 ((and_true _ _ (and_true _ _ h).1).0); third = tt; few = λ e. refl; parts = tt }; are = refl }
  fits_instr (Relink p q) r k h u = record { first = port_operand p; second = Port q; third = Number 0; parts = []; fits = record { first = new_fits p r.0 ((and_true _ _ h).0); second = (r.1.0, port_fits q ((and_true _ _ (and_true _ _ h).1).0)); third = tt; few = λ e. refl; parts = tt }; are = refl }
  fits_instr (Unify p q) r k h u = record { first = Port p; second = Port q; third = Number 0; parts = []; fits = record { first = (r.0, port_fits p ((and_true _ _ h).0)); second = (r.1.0, port_fits q ((and_true _ _ (and_true _ _ h).1).0)); third = tt; few = λ e. refl; parts = tt }; are = refl }
  fits_instr Proceed r k h u = record { first = Number 0; second = Number 0; third = Number 0; parts = []; fits = record { first = tt; second = tt; third = tt; few = λ e. refl; parts = tt }; are = refl }

  all_fit : (is : List Instr) → AllByRecursion AreRegisters is → AreKept is → list_all (λ i. list_all (has_port ns) (named_ports i)) is ≡ true → AllByRecursion RuleFits is → AllByRecursion FitsInstr is
  all_fit [] r k h u = tt
  all_fit (i ∷ is) r k h u =
      let b = and_true (list_all (has_port ns) (named_ports i)) (list_all (λ i. list_all (has_port ns) (named_ports i)) is) h in
      (fits_instr i r.0 k.0 b.0 u.0, all_fit is r.1 k.1 b.1 u.1)

-- ---- a head

abbrev is_commit_name : Opcode → Bool
is_commit_name opcode.Commit = true
is_commit_name _ = false

abbrev is_proceed_name : Opcode → Bool
is_proceed_name opcode.Proceed = true
is_proceed_name _ = false

-- an instruction of a head, or of a body, that doesn't end it
abbrev InFront : Bool → Opcode → Instr → Type 0
InFront in_head last i = (is_in_head (opcode_of i) ≡ in_head) × (opcode_of i ≢ last) × RuleFits i

record Ends (in_head : Bool) (last : Instr) (is : List Instr) : Type 0 where
  pub front : List Instr
  pub are : is ≡ front ++ last ∷ []
  pub of : AllByRecursion (InFront in_head (opcode_of last)) front

one_more : (in_head : Bool) (last i : Instr) (is : List Instr) → InFront in_head (opcode_of last) i → Ends in_head last is → Ends in_head last (i ∷ is)
one_more in_head last i is h e = record { front = i ∷ e.front; are = ap (λ t. i ∷ t) e.are; of = (h, e.of) }

last_one : (in_head : Bool) (last i : Instr) (is : List Instr) → i ≡ last → is_empty is ≡ true → Ends in_head last (i ∷ is)
last_one in_head last i [] e n = record { front = []; are = ap (λ t. t ∷ []) e; of = tt }
last_one in_head last i (j ∷ is) e n = absurd (true≢false (sym n))

of_head : (i : Instr) → is_of_head i ≡ true → InFront true opcode.Commit i
of_head (FindAtom _ _ _) e = (refl, (λ q. true≢false (sym (ap is_commit_name q))), tt)
of_head (Deref _ _ _) e = (refl, (λ q. true≢false (sym (ap is_commit_name q))), tt)
of_head (Func _ _) e = (refl, (λ q. true≢false (sym (ap is_commit_name q))), tt)
of_head (InMem _ _) e = (refl, (λ q. true≢false (sym (ap is_commit_name q))), tt)
of_head (NeqAtom _ _) e = (refl, (λ q. true≢false (sym (ap is_commit_name q))), tt)
of_head (Joined _ _) e = (refl, (λ q. true≢false (sym (ap is_commit_name q))), tt)
of_head (NotIn _ _) e = (refl, (λ q. true≢false (sym (ap is_commit_name q))), tt)
of_head (AnyMem _ _) e = (refl, (λ q. true≢false (sym (ap is_commit_name q))), tt)
of_head (NeqMem _ _) e = (refl, (λ q. true≢false (sym (ap is_commit_name q))), tt)
of_head (IsInt _ _ _) e = (refl, (λ q. true≢false (sym (ap is_commit_name q))), tt)
of_head (IsUnary _ _ _) e = (refl, (λ q. true≢false (sym (ap is_commit_name q))), tt)
of_head (IsGround _ _ _) e = (refl, (λ q. true≢false (sym (ap is_commit_name q))), tt)
of_head (NAtoms _ _ _) e = (refl, (λ q. true≢false (sym (ap is_commit_name q))), tt)
of_head (NMems _ _) e = (refl, (λ q. true≢false (sym (ap is_commit_name q))), tt)
of_head (NoRules _) e = (refl, (λ q. true≢false (sym (ap is_commit_name q))), tt)
of_head (IsClosed _ _) e = (refl, (λ q. true≢false (sym (ap is_commit_name q))), tt)
of_head (EqGround _ _) e = (refl, (λ q. true≢false (sym (ap is_commit_name q))), tt)
of_head (NeqGround _ _) e = (refl, (λ q. true≢false (sym (ap is_commit_name q))), tt)
of_head (GetInt _ _) e = (refl, (λ q. true≢false (sym (ap is_commit_name q))), tt)
of_head (Const _ _) e = (refl, (λ q. true≢false (sym (ap is_commit_name q))), tt)
of_head (Add _ _ _) e = (refl, (λ q. true≢false (sym (ap is_commit_name q))), tt)
of_head (Sub _ _ _) e = (refl, (λ q. true≢false (sym (ap is_commit_name q))), tt)
of_head (Mul _ _ _) e = (refl, (λ q. true≢false (sym (ap is_commit_name q))), tt)
of_head (Div _ _ _) e = (refl, (λ q. true≢false (sym (ap is_commit_name q))), tt)
of_head (Mod _ _ _) e = (refl, (λ q. true≢false (sym (ap is_commit_name q))), tt)
of_head (Lt _ _) e = (refl, (λ q. true≢false (sym (ap is_commit_name q))), tt)
of_head (Le _ _) e = (refl, (λ q. true≢false (sym (ap is_commit_name q))), tt)
of_head (Gt _ _) e = (refl, (λ q. true≢false (sym (ap is_commit_name q))), tt)
of_head (Ge _ _) e = (refl, (λ q. true≢false (sym (ap is_commit_name q))), tt)
of_head (Eq _ _) e = (refl, (λ q. true≢false (sym (ap is_commit_name q))), tt)
of_head (Ne _ _) e = (refl, (λ q. true≢false (sym (ap is_commit_name q))), tt)
of_head _ e = absurd (true≢false (sym e))

commit_is : (i : Instr) → is_commit i ≡ true → i ≡ Commit
commit_is Commit e = refl
commit_is _ e = absurd (true≢false (sym e))

head_ends : (is : List Instr) → is_head is ≡ true → Ends true Commit is
head_ends [] e = absurd (true≢false (sym e))
head_ends (i ∷ is) e = by (is_commit i) refl e (head_ends is)
  where
    by : (b : Bool) → is_commit i ≡ b → (if b then is_empty is else (is_of_head i && is_head is)) ≡ true → (is_head is ≡ true → Ends true Commit is) → Ends true Commit (i ∷ is)
    by true c e later = last_one true Commit i is (commit_is i c) e
    by false c e later = let b = and_true (is_of_head i) (is_head is) e in one_more true Commit i is (of_head i b.0) (later b.1)

-- ---- a body

module _ (h k a : ℕ) (few : k ≤ 2 ^ 32) where
  made : (i : Instr) → makes h k i ≡ true → InFront false opcode.Proceed i
  made (NewAtom _ _ _) e = (refl, (λ q. true≢false (sym (ap is_proceed_name q))), tt)
  made (NewInt _ _ _) e = (refl, (λ q. true≢false (sym (ap is_proceed_name q))), tt)
  made (NewMem _ _) e = (refl, (λ q. true≢false (sym (ap is_proceed_name q))), tt)
  made (CopyGround _ _ _) e = (refl, (λ q. true≢false (sym (ap is_proceed_name q))), tt)
  made (MoveCells _ _) e = (refl, (λ q. true≢false (sym (ap is_proceed_name q))), tt)
  made (CopyCells _ _) e = (refl, (λ q. true≢false (sym (ap is_proceed_name q))), tt)
  made (CopyRules _ _) e = (refl, (λ q. true≢false (sym (ap is_proceed_name q))), tt)
  made (LoadRule m n) e = (refl, (λ q. true≢false (sym (ap is_proceed_name q))), (let l = is_less n k (and_true (verified.is_open h m) (nat_lt n k) e).1 in omega (arith, l, few)))
  made _ e = absurd (true≢false (sym e))

  dropping : (i : Instr) → verified.drops h i ≡ true → InFront false opcode.Proceed i
  dropping (DropCells m) e = (refl, (λ q. true≢false (sym (ap is_proceed_name q))), tt)
  dropping _ e = absurd (true≢false (sym e))

  tying : (i : Instr) → ties a i ≡ true → InFront false opcode.Proceed i
  tying (NewLink _ _) e = (refl, (λ q. true≢false (sym (ap is_proceed_name q))), tt)
  tying (Relink _ _) e = (refl, (λ q. true≢false (sym (ap is_proceed_name q))), tt)
  tying (Unify _ _) e = (refl, (λ q. true≢false (sym (ap is_proceed_name q))), tt)
  tying _ e = absurd (true≢false (sym e))

  ties_end : (is : List Instr) → ties_and_ends a is ≡ true → Ends false Proceed is
  ties_end [] e = absurd (true≢false (sym e))
  ties_end (i ∷ is) e = by (is_proceed i) refl e (ties_end is)
    where
      by : (b : Bool) → is_proceed i ≡ b → (if b then is_empty is else (ties a i && ties_and_ends a is)) ≡ true → (ties_and_ends a is ≡ true → Ends false Proceed is) → Ends false Proceed (i ∷ is)
      by true c e later = last_one false Proceed i is (proceed_is i c) e
      by false c e later = let b = and_true (ties a i) (ties_and_ends a is) e in one_more false Proceed i is (tying i b.0) (later b.1)

  drops_end : (is : List Instr) → drops_and_ties h a is ≡ true → Ends false Proceed is
  drops_end [] e = absurd (true≢false (sym e))
  drops_end (i ∷ is) e = by (verified.drops h i) refl e (drops_end is)
    where
      by : (b : Bool) → verified.drops h i ≡ b → (if b then drops_and_ties h a is else ties_and_ends a (i ∷ is)) ≡ true → (drops_and_ties h a is ≡ true → Ends false Proceed is) → Ends false Proceed (i ∷ is)
      by true c e later = one_more false Proceed i is (dropping i c) (later e)
      by false c e later = ties_end (i ∷ is) e

  makes_end : (is : List Instr) → makes_and_ties h k a is ≡ true → Ends false Proceed is
  makes_end [] e = absurd (true≢false (sym e))
  makes_end (i ∷ is) e = by (makes h k i) refl e (makes_end is)
    where
      by : (b : Bool) → makes h k i ≡ b → (if b then makes_and_ties h k a is else drops_and_ties h a (i ∷ is)) ≡ true → (makes_and_ties h k a is ≡ true → Ends false Proceed is) → Ends false Proceed (i ∷ is)
      by true c e later = one_more false Proceed i is (made i c) (later e)
      by false c e later = drops_end (i ∷ is) e

  removing : (i : Instr) (o : Operand) → removes i o ≡ true → InFront false opcode.Proceed i
  removing (RemoveAtom x) o e = (refl, (λ q. true≢false (sym (ap is_proceed_name q))), tt)
  removing (RemovePart x) o e = (refl, (λ q. true≢false (sym (ap is_proceed_name q))), tt)
  removing (RemoveMem x) o e = (refl, (λ q. true≢false (sym (ap is_proceed_name q))), tt)
  removing _ o e = absurd (true≢false (sym e))

  body_ends : (os : List Operand) (is : List Instr) → takes_out os is ≡ true → makes_and_ties h k a (drop (length os) is) ≡ true → Ends false Proceed is
  body_ends [] is t e = makes_end is e
  body_ends (o ∷ os) [] t e = absurd (true≢false (sym t))
  body_ends (o ∷ os) (i ∷ is) t e = let b = and_true (removes i o) (takes_out os is) t in one_more false Proceed i is (removing i o b.0) (body_ends os is b.1 e)

-- ---- the whole

rules_fit : (in_head : Bool) (last : Opcode) (is : List Instr) → AllByRecursion (InFront in_head last) is → AllByRecursion RuleFits is
rules_fit in_head last [] h = tt
rules_fit in_head last (i ∷ is) h = (h.0.2, rules_fit in_head last is h.1)

block : (in_head : Bool) (last : Instr) (is : List Instr) (e : Ends in_head last is) → AllByRecursion FitsInstr is → IsBlock in_head last is
block in_head last is e f =
    let inner = all_left FitsInstr e.front (last ∷ []) (subst (AllByRecursion FitsInstr) e.are f) in
    record { front = e.front; are = e.are; of = both e.front e.of inner; others = apart e.front e.of }
  where
    both : (xs : List Instr) → AllByRecursion (InFront in_head (opcode_of last)) xs → AllByRecursion FitsInstr xs → AllByRecursion (λ i. (is_in_head (opcode_of i) ≡ in_head) × FitsInstr i) xs
    both [] h g = tt
    both (x ∷ xs) h g = ((h.0.0, g.0), both xs h.1 g.1)

    apart : (xs : List Instr) → AllByRecursion (InFront in_head (opcode_of last)) xs → AllByRecursion (λ i. opcode_of i ≢ opcode_of last) xs
    apart [] h = tt
    apart (x ∷ xs) h = (h.0.1, apart xs h.1)

-- what verified code is
record Cut (code : Code) : Type 0 where
  pub head : Ends true Commit code.head
  pub body : Ends false Proceed code.body
  pub head_fits : AllByRecursion FitsInstr code.head
  pub body_fits : AllByRecursion FitsInstr code.body

cut : (code : Code) (k : ℕ) → k ≤ 2 ^ 32 → IsVerified code k → IsKeptCode code → Cut code
cut code k few verified kept =
    let first : Within at_first = record { atoms = omega arith; membranes = omega arith; parts = omega arith; integers = omega arith; copies = omega arith } in
    let registers = ordered at_first (code.head ++ code.body) first verified.order in
    let small : AreSmall (arities code) = all_append (λ n. n < 2 ^ 8) (map (λ (a : FoundAtom). a.functor.arity) (atoms_found code.head)) (filter_map arity_made code.body) (found_small code.head kept.0) (made_small code.body kept.1) in
    let ports = and_true (list_all (λ i. list_all (has_port (arities code)) (named_ports i)) code.head) (list_all (λ i. list_all (has_port (arities code)) (named_ports i)) code.body)
    (sym (list_all-append (λ i. list_all (has_port (arities code)) (named_ports i)) code.head code.body) ∙ verified.ports) in
    let head = head_ends code.head verified.head in
    let body = body_ends (1 + length (membranes_found code.head)) k (length (atoms_found code.head)) few (held code) code.body verified.taken verified.rest in
    let head_rules = subst (AllByRecursion RuleFits) (sym head.are) (all_append RuleFits head.front (Commit ∷ []) (rules_fit true opcode.Commit head.front head.of) (tt, tt)) in
    let body_rules = subst (AllByRecursion RuleFits) (sym body.are) (all_append RuleFits body.front (Proceed ∷ []) (rules_fit false opcode.Proceed body.front body.of) (tt, tt)) in
    let head_fits = all_fit (arities code) small code.head (all_left AreRegisters code.head code.body registers) kept.0 ports.0 head_rules in
    let body_fits = all_fit (arities code) small code.body (all_right AreRegisters code.head code.body registers) kept.1 ports.1 body_rules in
    record { head = head; body = body; head_fits = head_fits; body_fits = body_fits }

pub verified_is_whole : VerifiedIsWhole
verified_is_whole code k few verified kept = let w = cut code k few verified kept in (block true Commit code.head w.head w.head_fits, block false Proceed code.body w.body w.body_fits)

-- All numbers of verified code fit.
pub verified_fits : (code : Code) (k : ℕ) → k ≤ 2 ^ 32 → IsVerified code k → IsKeptCode code → AllByRecursion FitsInstr code.head × AllByRecursion FitsInstr code.body
verified_fits code k few verified kept = let w = cut code k few verified kept in (w.head_fits, w.body_fits)
