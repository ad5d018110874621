-- The code ahead.
use Rattle.std.proofs.Common.{sym, ℕ, ℤ, not, zero, suc, ◌≡◌, ◌<◌, ◌≤◌, ◌+◌, List, [], ◌∷◌, ◌++◌, Option, Some, None, refl, arith, ap, subst, length, take, drop, ◌∙◌}
use Rattle.std.specs.Prelude.{Bool, true, slice_get, IfSome}
use Rattle.lmn_base.specs.declared.functor.Functor.{Functor}
use Rattle.lmn_instr_code.specs.declared.instr.Instr.{Instr}
use Rattle.lmn_instr_code.specs.declared.instr.Instr.TheVariants.{FindAtom, Deref, AnyMem, IsInt, IsUnary, IsGround, NAtoms, IsClosed, EqGround, NeqGround, GetInt, Const, Add, Sub, Mul, Div, Mod}
use Rattle.lmn_ground.specs.declared.listing.PartList.{PartList}
use Rattle.lmn_machine.specs.Searching.{HeadInOrder, Extends, ListsNone}
use Rattle.std.specs.Option.{option_map, is_some}
use Rattle.lmn_store_heap.specs.Lists.{from, after}
use Rattle.lmn_store_heap.specs.Functors.{with_functor}
use Rattle.lmn_store_heap.specs.Heap.{Heap, atoms_in, mems_in, functor_of, home_of, parent_of}
use Rattle.lmn_machine_registers.specs.declared.registers.PartCopy.{PartCopy}
use Rattle.lmn_machine_registers.specs.declared.registers.SetRegisters.{SetRegisters}
use Rattle.lmn_machine_registers.specs.declared.stack.TheConstants.{ROOM}
use Rattle.lmn_machine.specs.Jumping.{with_atom, with_membrane}

-- what stands at a place, by another name
pub read_at : {A : Type 0} (xs : List A) (i : ℕ) (x y : A) → slice_get xs i ≡ Some x → x ≡ y → slice_get xs i ≡ Some y
read_at xs i x y e s = e ∙ ap (λ w. Some w) s

-- nothing is left behind the last
pub drop_none : {A : Type 0} (xs : List A) (i : ℕ) → length xs ≤ i → drop i xs ≡ []
drop_none [] zero l = refl
drop_none [] (suc i) l = refl
drop_none (x ∷ xs) zero l = absurd (omega arith)
drop_none (x ∷ xs) (suc i) l = drop_none xs i (omega arith)

-- what the order of the registers says of the instruction ahead
pub atom_ahead : (a m g v x y : ℕ) (f : Functor) (left is : List Instr) → left ≡ FindAtom x y f ∷ is → HeadInOrder a m g v left → ((x ≡ a) × (y < m) × (a < ROOM) × (g ≡ 0)) × HeadInOrder (a + 1) m g v is
atom_ahead a m g v x y f left is e o = subst (λ k. HeadInOrder a m g v k) e o

-- code in order is so in its first instruction
pub order_first : (i : Instr) (a m g v : ℕ) (is : List Instr) → HeadInOrder a m g v (i ∷ is) → HeadInOrder a m g v (i ∷ [])
order_first (FindAtom x y f) a m g v is o = (o.0, tt)
order_first (Deref x p k) a m g v is o = (o.0, tt)
order_first (AnyMem x y) a m g v is o = (o.0, tt)
order_first (IsInt x p y) a m g v is o = ((o.0.0, refl), tt)
order_first (IsUnary x p y) a m g v is o = ((o.0.0, refl), tt)
order_first (IsGround x p y) a m g v is o = ((o.0.0, refl), tt)
order_first (NAtoms x n gs) a m g v is o = (o.0, tt)
order_first (IsClosed x gs) a m g v is o = ((o.0.0, o.0.1, refl, refl), tt)
order_first (EqGround x y) a m g v is o = (o.0, tt)
order_first (NeqGround x y) a m g v is o = (o.0, tt)
order_first (GetInt x y) a m g v is o = (o.0, tt)
order_first (Const x z) a m g v is o = (o.0, tt)
order_first (Add x y z) a m g v is o = (o.0, tt)
order_first (Sub x y z) a m g v is o = (o.0, tt)
order_first (Mul x y z) a m g v is o = (o.0, tt)
order_first (Div x y z) a m g v is o = (o.0, tt)
order_first (Mod x y z) a m g v is o = (o.0, tt)
order_first _ a m g v is o = (o.0, tt)

-- an instruction that chooses a membrane sets the next register
pub membrane_ahead : (a m g v x y : ℕ) (left is : List Instr) → left ≡ AnyMem x y ∷ is → HeadInOrder a m g v left → ((x ≡ m) × (y < m) × (m < ROOM)) × HeadInOrder a (m + 1) g v is
membrane_ahead a m g v x y left is e o = subst (λ k. HeadInOrder a m g v k) e o

-- what holds of the value of an option, if there is one

-- two things that hold of a value, if any, hold of it together
pub if_both : {A : Type 0} (P Q : A → Type 0) (o : Option A) → IfSome o P → IfSome o Q → IfSome o (λ a. P a × Q a)
if_both P Q None p q = tt
if_both P Q (Some a) p q = (p, q)

-- what is the same as something known is that
pub if_same : {A B : Type 0} (F : A → B) (a : A) (v : B) (o : Option A) → IfSome o (λ b. F b ≡ F a) → F a ≡ v → IfSome o (λ b. F b ≡ v)
if_same F a v None p e = tt
if_same F a v (Some b) p e = p ∙ e

-- where no value is there is none
pub none_is : {A : Type 0} (o : Option A) → ((a : A) → o ≡ Some a → ⊥) → o ≡ None
none_is None d = refl
none_is (Some a) d = absurd (d a refl)

-- what is told to be none is none
pub told_none : {A : Type 0} (o : Option A) (b : Bool) → is_some o ≡ not b → b ≡ true → o ≡ None
told_none None b e t = refl
told_none (Some x) b e t = let f : true ≡ not true = e ∙ ap not t in absurd (cc)

-- with other atoms, with other membranes
abbrev pub having_atoms : {A M : Type 0} → SetRegisters A M → List A → SetRegisters A M
having_atoms t xs = record { atoms = xs; membranes = t.membranes; parts = t.parts; integers = t.integers; copies = t.copies; listed = t.listed }

-- registers with these membranes
abbrev pub having_membranes : {A M : Type 0} → SetRegisters A M → List M → SetRegisters A M
having_membranes t xs = record { atoms = t.atoms; membranes = xs; parts = t.parts; integers = t.integers; copies = t.copies; listed = t.listed }

-- the registers after one more, and after a search that is taken back
pub one_more : {A M : Type 0} (s t : SetRegisters A M) (a : A) (xs : List A) → t ≡ s → xs ≡ t.atoms ++ a ∷ [] → having_atoms t xs ≡ with_atom s a
one_more {A} {M} s t a xs e f =
    let R : List A → SetRegisters A M = λ ys. having_atoms t ys in
    ap R f ∙ ap (λ u. with_atom u a) e

-- one membrane more is set
pub one_membrane_more : {A M : Type 0} (s t : SetRegisters A M) (m : M) (xs : List M) → t ≡ s → xs ≡ t.membranes ++ m ∷ [] → having_membranes t xs ≡ with_membrane s m
one_membrane_more {A} {M} s t m xs e f =
    let R : List M → SetRegisters A M = λ ys. having_membranes t ys in
    ap R f ∙ ap (λ u. with_membrane u m) e

-- registers that were set further are taken back
pub taken_back : {A M : Type 0} (s k r : SetRegisters A M) (n m p v : ℕ) → n ≡ length s.atoms → m ≡ length s.membranes → p ≡ length s.parts → v ≡ length s.integers → Extends s k → ListsNone s →
    r ≡ record { atoms = take n k.atoms; membranes = take m k.membranes; parts = take p k.parts; integers = take v k.integers; copies = k.copies; listed = record { port = 0; atoms = [] } } → r ≡ s
taken_back {A} {M} s k r n m p v e f i j x none t =
    let nothing : PartList A = record { port = 0; atoms = [] } in
    let R : List A → List M → List (A × ℕ) → List ℤ → List (PartCopy A) → SetRegisters A M = λ as' ms ps zs cs. record { atoms = as'; membranes = ms; parts = ps; integers = zs; copies = cs; listed = nothing } in
    let a : take n k.atoms ≡ s.atoms = ap (λ o. take o k.atoms) e ∙ x.atoms in
    let b : take m k.membranes ≡ s.membranes = ap (λ o. take o k.membranes) f ∙ x.membranes in
    let c : take p k.parts ≡ s.parts = ap (λ o. take o k.parts) i ∙ x.parts in
    let d : take v k.integers ≡ s.integers = ap (λ o. take o k.integers) j ∙ x.integers in
    t ∙ (ap (λ ys. R ys (take m k.membranes) (take p k.parts) (take v k.integers) k.copies) a ∙ (ap (λ ys. R s.atoms ys (take p k.parts) (take v k.integers) k.copies) b
    ∙ (ap (λ ys. R s.atoms s.membranes ys (take v k.integers) k.copies) c ∙ (ap (λ ys. R s.atoms s.membranes s.parts ys k.copies) d ∙ (ap (λ ys. R s.atoms s.membranes s.parts s.integers ys) x.copies ∙ ap (λ l. record s { listed = l }) (sym none))))))

-- no register
abbrev pub nothing_set : {A M : Type 0} → SetRegisters A M
nothing_set = record { atoms = []; membranes = []; parts = []; integers = []; copies = []; listed = record { port = 0; atoms = [] } }

-- what is told of the next candidate, in a heap that is the same
pub next_same : {A : Type 0} (atom : A → ℕ) (h k : Heap) (a : A) (o : Option A) → k ≡ h →
    ((m : ℕ) (f : Functor) → home_of k (atom a) ≡ Some m → functor_of k (atom a) ≡ Some f → from (option_map atom o) (with_functor k f (atoms_in k m)) ≡ after (atom a) (with_functor k f (atoms_in k m))) →
    IfSome o (λ b. functor_of k (atom b) ≡ functor_of k (atom a)) → IfSome o (λ b. home_of k (atom b) ≡ home_of k (atom a)) →
    ((m : ℕ) (f : Functor) → home_of h (atom a) ≡ Some m → functor_of h (atom a) ≡ Some f → from (option_map atom o) (with_functor h f (atoms_in h m)) ≡ after (atom a) (with_functor h f (atoms_in h m)))
    × IfSome o (λ b. functor_of h (atom b) ≡ functor_of h (atom a)) × IfSome o (λ b. home_of h (atom b) ≡ home_of h (atom a))
next_same {A} atom h k a o e l f p = (
  subst (λ (s : Heap). (m : ℕ) (f : Functor) → home_of s (atom a) ≡ Some m → functor_of s (atom a) ≡ Some f → from (option_map atom o) (with_functor s f (atoms_in s m)) ≡ after (atom a) (with_functor s f (atoms_in s m))) e l,
  subst (λ (s : Heap). IfSome o (λ b. functor_of s (atom b) ≡ functor_of s (atom a))) e f,
  subst (λ (s : Heap). IfSome o (λ b. home_of s (atom b) ≡ home_of s (atom a))) e p,
)

-- the next membrane stands in the same one
pub next_mem_same : {M : Type 0} (membrane : M → ℕ) (h k : Heap) (n : M) (o : Option M) → k ≡ h →
    ((m : ℕ) → parent_of k (membrane n) ≡ Some m → from (option_map membrane o) (mems_in k m) ≡ after (membrane n) (mems_in k m)) → IfSome o (λ b. parent_of k (membrane b) ≡ parent_of k (membrane n)) →
    ((m : ℕ) → parent_of h (membrane n) ≡ Some m → from (option_map membrane o) (mems_in h m) ≡ after (membrane n) (mems_in h m)) × IfSome o (λ b. parent_of h (membrane b) ≡ parent_of h (membrane n))
next_mem_same {M} membrane h k n o e l p = (
  subst (λ (s : Heap). (m : ℕ) → parent_of s (membrane n) ≡ Some m → from (option_map membrane o) (mems_in s m) ≡ after (membrane n) (mems_in s m)) e l,
  subst (λ (s : Heap). IfSome o (λ b. parent_of s (membrane b) ≡ parent_of s (membrane n))) e p,
)
