-- Code, instruction by instruction: which registers it uses, and how many rules it needs room for.
use Rattle.std.proofs.Common.{ℕ, zero, suc, ◌≡◌, ◌<◌, ◌≤◌, ◌+◌, List, [], ◌∷◌, ◌++◌, ◌⊎◌, inl, inr, Some, arith, ap, subst, take, ◌∙◌}
use Rattle.std.specs.Prelude.{slice_get}
use Rattle.lmn_instr_code.specs.declared.instr.NewPort.{NewPort}
use Rattle.lmn_instr_code.specs.declared.instr.NewPort.TheVariants as new
use Rattle.lmn_instr_code.specs.declared.instr.Instr.{Instr}
use Rattle.lmn_instr_code.specs.declared.instr.Instr.TheVariants.{RemoveAtom, RemovePart, RemoveMem, NewAtom, NewInt, NewMem, CopyGround, MoveCells, CopyCells, LoadRule, CopyRules, DropCells, NewLink, Relink, Unify, Proceed}
use Rattle.lmn_solid_bodies.specs.Running.{Registers}
use Rattle.lmn_machine_commit.specs.Preparing.{Uses, UsesPort, AllUse, UsesInOrder, needed, needed_by, atoms_made, membranes_made, copies_made}

-- Lists

take_suc : {A : Type 0} (k : ℕ) (xs : List A) (x : A) → slice_get xs k ≡ Some x → take (suc k) xs ≡ take k xs ++ x ∷ []
take_suc k [] x e = absurd (cc)
take_suc zero (y ∷ xs) x e = let t : y ≡ x = cc in ap (λ w. w ∷ []) t
take_suc (suc k) (y ∷ xs) x e = ap (λ ys. y ∷ ys) (take_suc k xs x e)

-- one more taken is what was taken, and what stands there
pub take_get : {A : Type 0} (k : ℕ) (xs : List A) (x : A) → slice_get xs k ≡ Some x → take (k + 1) xs ≡ take k xs ++ x ∷ []
take_get k xs x e = let t : k + 1 ≡ suc k = omega arith in ap (λ n. take n xs) t ∙ take_suc k xs x e

-- what stands in a longer list stands in the list, or is the new one
pub get_either : {A : Type 0} (xs : List A) (y : A) (k : ℕ) (x : A) → slice_get (xs ++ y ∷ []) k ≡ Some x → (slice_get xs k ≡ Some x) ⊎ (y ≡ x)
get_either [] y zero x e = inr (cc)
get_either [] y (suc k) x e = absurd (cc)
get_either (z ∷ xs) y zero x e = inl e
get_either (z ∷ xs) y (suc k) x e = get_either xs y k x e

-- Registers that code uses

port_more : (a b c d : ℕ) → a ≤ b → c ≤ d → (p : NewPort) → UsesPort a c p → UsesPort b d p
port_more a b c d l k (new.Atom p) u = let v : p.atom < a = u in omega (arith, v)
port_more a b c d l k (new.Copy x) u = let v : x < c = u in omega (arith, v)

uses_more : (a b m n g c d : ℕ) → a ≤ b → m ≤ n → c ≤ d → (i : Instr) → Uses a m g c i → Uses b n g d i
uses_more a b m n g c d l k e (RemoveAtom x) u = let v : x < a = u in omega (arith, v)
uses_more a b m n g c d l k e (RemovePart x) u = u
uses_more a b m n g c d l k e (RemoveMem x) u = let v : x < m = u in omega (arith, v)
uses_more a b m n g c d l k e (NewAtom x y f) u = let v = u.0 in let w = u.1 in (omega (arith, v), omega (arith, w))
uses_more a b m n g c d l k e (NewInt x y z) u = let v = u.0 in let w = u.1 in (omega (arith, v), omega (arith, w))
uses_more a b m n g c d l k e (NewMem x y) u = let v = u.0 in let w = u.1 in (omega (arith, v), omega (arith, w))
uses_more a b m n g c d l k e (CopyGround x y z) u = let v = u.0 in let w = u.1 in (omega (arith, v), omega (arith, w), u.2)
uses_more a b m n g c d l k e (MoveCells x y) u = let v = u.0 in let w = u.1 in (omega (arith, v), omega (arith, w))
uses_more a b m n g c d l k e (CopyCells x y) u = let v = u.0 in let w = u.1 in (omega (arith, v), omega (arith, w))
uses_more a b m n g c d l k e (DropCells x) u = let v : x < m = u in omega (arith, v)
uses_more a b m n g c d l k e (LoadRule x y) u = let v : x < m = u in omega (arith, v)
uses_more a b m n g c d l k e (CopyRules x y) u = let v = u.0 in let w = u.1 in (omega (arith, v), omega (arith, w))
uses_more a b m n g c d l k e (NewLink p q) u = (port_more a b c d l e p u.0, port_more a b c d l e q u.1)
uses_more a b m n g c d l k e (Relink p h) u = let w = u.1 in (port_more a b c d l e p u.0, omega (arith, w))
uses_more a b m n g c d l k e (Unify p h) u = let v = u.0 in let w = u.1 in (omega (arith, v), omega (arith, w))
uses_more a b m n g c d l k e Proceed u = tt
uses_more a b m n g c d l k e _ u = absurd u

-- instructions that use registers below some bounds use them below higher ones
pub all_use_more : (a b m n g c d : ℕ) → a ≤ b → m ≤ n → c ≤ d → (is : List Instr) → AllUse a m g c is → AllUse b n g d is
all_use_more a b m n g c d l k e [] u = tt
all_use_more a b m n g c d l k e (i ∷ is) u = (uses_more a b m n g c d l k e i u.0, all_use_more a b m n g c d l k e is u.1)

-- and so with one more
pub use_one_more : (a m g c : ℕ) (is : List Instr) (i : Instr) → AllUse a m g c is → Uses a m g c i → AllUse a m g c (is ++ i ∷ [])
use_one_more a m g c [] i u v = (v, tt)
use_one_more a m g c (j ∷ is) i u v = (u.0, use_one_more a m g c is i u.1 v)

-- what an instruction reads and sets it uses, when it has set it
pub reads_uses : (a m g v c : ℕ) (i : Instr) → UsesInOrder a m g v c i → Uses (a + atoms_made i) (m + membranes_made i) g (c + copies_made i) i
reads_uses a m g v c (NewAtom x y f) u = let e = u.0.0 in let w = u.1 in (omega (arith, e), omega (arith, w))
reads_uses a m g v c (NewInt x y z) u = let e = u.0.0 in let w = u.1 in (omega (arith, e), omega (arith, w))
reads_uses a m g v c (NewMem x y) u = let e = u.0.0 in let w = u.1 in (omega (arith, e), omega (arith, w))
reads_uses a m g v c (CopyGround x y z) u = let e = u.0.0 in let w = u.1 in (omega (arith, e), omega (arith, w), u.2)
reads_uses a m g v c (RemoveAtom x) u = uses_more a (a + 0) m (m + 0) g c (c + 0) (omega arith) (omega arith) (omega arith) (RemoveAtom x) u
reads_uses a m g v c (RemovePart x) u = u
reads_uses a m g v c (RemoveMem x) u = uses_more a (a + 0) m (m + 0) g c (c + 0) (omega arith) (omega arith) (omega arith) (RemoveMem x) u
reads_uses a m g v c (MoveCells x y) u = uses_more a (a + 0) m (m + 0) g c (c + 0) (omega arith) (omega arith) (omega arith) (MoveCells x y) u
reads_uses a m g v c (CopyCells x y) u = uses_more a (a + 0) m (m + 0) g c (c + 0) (omega arith) (omega arith) (omega arith) (CopyCells x y) u
reads_uses a m g v c (DropCells x) u = uses_more a (a + 0) m (m + 0) g c (c + 0) (omega arith) (omega arith) (omega arith) (DropCells x) u
reads_uses a m g v c (LoadRule x y) u = uses_more a (a + 0) m (m + 0) g c (c + 0) (omega arith) (omega arith) (omega arith) (LoadRule x y) u
reads_uses a m g v c (CopyRules x y) u = uses_more a (a + 0) m (m + 0) g c (c + 0) (omega arith) (omega arith) (omega arith) (CopyRules x y) u
reads_uses a m g v c (NewLink p q) u = uses_more a (a + 0) m (m + 0) g c (c + 0) (omega arith) (omega arith) (omega arith) (NewLink p q) u
reads_uses a m g v c (Relink p h) u = uses_more a (a + 0) m (m + 0) g c (c + 0) (omega arith) (omega arith) (omega arith) (Relink p h) u
reads_uses a m g v c (Unify p h) u = uses_more a (a + 0) m (m + 0) g c (c + 0) (omega arith) (omega arith) (omega arith) (Unify p h) u
reads_uses a m g v c Proceed u = tt
reads_uses a m g v c _ u = absurd u

-- an instruction of code that uses registers
pub use_at : (a m g c k n : ℕ) (is : List Instr) (i : Instr) → AllUse a m g c (take n is) → k < n → slice_get is k ≡ Some i → Uses a m g c i
use_at a m g c k n [] i u l e = absurd (cc)
use_at a m g c k zero (j ∷ is) i u l e = absurd (omega arith)
use_at a m g c zero (suc n) (j ∷ is) i u l e = let t : j ≡ i = cc in subst (λ x. Uses a m g c x) t u.0
use_at a m g c (suc k) (suc n) (j ∷ is) i u l e = use_at a m g c k n is i u.1 (omega arith) e

-- Room for rules

-- one instruction more needs room of its own
pub needed_more : (r : Registers) (rules : ℕ → List ℕ) (is : List Instr) (i : Instr) (x : ℕ) → needed r rules (is ++ i ∷ []) x ≡ needed r rules is x + needed_by r rules i x
needed_more r rules [] i x = omega arith
needed_more r rules (j ∷ is) i x = let t = needed_more r rules is i x in omega (arith, t)

-- each instruction uses registers below the bounds
pub used_at : (a m g c k : ℕ) (is : List Instr) (i : Instr) → AllUse a m g c is → slice_get is k ≡ Some i → Uses a m g c i
used_at a m g c k [] i u e = absurd (cc)
used_at a m g c zero (j ∷ is) i u e = let t : j ≡ i = cc in subst (λ x. Uses a m g c x) t u.0
used_at a m g c (suc k) (j ∷ is) i u e = used_at a m g c k is i u.1 e
