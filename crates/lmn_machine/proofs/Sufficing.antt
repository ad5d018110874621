-- Why a membrane holds too few items.
use Rattle.std.proofs.Common.{ℕ, zero, suc, ◌≡◌, ◌≢◌, ◌+◌, ◌<◌, ◌≤◌, inl, inr, List, [], ◌∷◌, Option, Some, refl, arith, ap, sym, subst, length, drop, ◌∙◌}
use Rattle.std.specs.Prelude.{Bool, true, false, if◌then◌else◌}
use Rattle.lmn_base.specs.declared.functor.Functor.{Functor}
use Rattle.lmn_base.specs.Lists.{In}
use Rattle.lmn_base.proofs.Lists.{get_below}
use Rattle.lmn_store_heap.specs.Lists.{after, from}
use Rattle.lmn_store_heap.specs.Heap.{Heap, atoms_in, mems_in}
use Rattle.lmn_store_heap.specs.Functors.{with_functor}
use Rattle.lmn_store_heap.proofs.ListLemmas.{each_of}
use Rattle.lmn_store_heap.proofs.Pigeonholes.{not_longer}
use Rattle.lmn_instr_code.specs.declared.instr.Instr.{Instr}
use Rattle.lmn_instr_code.specs.declared.instr.Instr.TheVariants.{FindAtom, NeqAtom, AnyMem, NeqMem}
use Rattle.lmn_instr_code.specs.Running.{HeadRegisters, HeadSize, AllHold}
use Rattle.lmn_machine.specs.Enough.{IsWanted, Takes, TakesApart, TakesMore, TellsApart, holding, image, is_empty, there_are}
use Rattle.lmn_machine.specs.declared.enough.Kind.{Kind}
use Rattle.lmn_machine.specs.declared.enough.Kind.TheVariants.{Atoms, Membranes}
use Rattle.lmn_machine.specs.declared.enough.Want.{Want}
use Rattle.lmn_store_heap.proofs.WithFunctor.{with_functor_in}
use Rattle.lmn_machine.proofs.Fitting.{hold_behind}

-- what is told apart differs
differ : (kind : Kind) (h : Heap) (c : HeadSize) (s : HeadRegisters) (code : List Instr) (at j x y : ℕ) → at ≤ j → TellsApart kind code j x y → AllHold h c s (drop at code) → image kind s x ≢ image kind s y
differ Atoms h c s code at j x y l e u = hold_behind h c s code at j (NeqAtom x y) l e u
differ Membranes h c s code at j x y l e u = hold_behind h c s code at j (NeqMem x y) l e u

not_empty : (a : ℕ) (xs : List ℕ) → In a xs → is_empty xs ≡ true → ⊥
not_empty a [] i e = i
not_empty a (x ∷ xs) i e = cc

holding_by : (h : Heap) (f : Functor) (n a m : ℕ) (ms : List ℕ) (t : Bool) → is_empty (with_functor h f (atoms_in h m)) ≡ t → (In n ms → In n (holding h f ms)) → In a (with_functor h f (atoms_in h n)) → In n (m ∷ ms) →
    In n (if t then holding h f ms else m ∷ holding h f ms)
holding_by h f n a m ms true e g k (inl s) = absurd (not_empty a (with_functor h f (atoms_in h m)) (subst (λ x. In a (with_functor h f (atoms_in h x))) (sym s) k) e)
holding_by h f n a m ms true e g k (inr s) = g s
holding_by h f n a m ms false e g k (inl s) = inl s
holding_by h f n a m ms false e g k (inr s) = inr (g s)

holding_in : (h : Heap) (f : Functor) (n a : ℕ) (ms : List ℕ) → In a (with_functor h f (atoms_in h n)) → In n ms → In n (holding h f ms)
holding_in h f n a [] k i = i
holding_in h f n a (m ∷ ms) k i = holding_by h f n a m ms (is_empty (with_functor h f (atoms_in h m))) refl (holding_in h f n a ms k) k i

-- what is taken and wanted is there
there : (kind : Kind) (h : Heap) (c : HeadSize) (s : HeadRegisters) (code : List Instr) (at j m x place : ℕ) (f : Functor) → at ≤ j → Takes kind code j m f x → IsWanted kind code j f x → s.images.membrane m ≡ place → AllHold h c s (drop at code) →
    In (image kind s x) (there_are h kind f place)
there Atoms h c s code at j m x place f l t w e u =
    let here = hold_behind h c s code at j (FindAtom x m f) l t u in
    with_functor_in h f (s.images.atom x) (atoms_in h place) here.1 (subst (λ k. In (s.images.atom x) (atoms_in h k)) e here.0)
there Membranes h c s code at j m x place f l t w e u =
    let here = hold_behind h c s code at j (AnyMem x m) l t u in
    let behind = w.2 in
    let asked = hold_behind h c s code at w.0 (FindAtom w.1 x f) (omega (arith, l, behind)) w.3 u in
    holding_in h f (s.images.membrane x) (s.images.atom w.1) (mems_in h place) (with_functor_in h f (s.images.atom w.1) (atoms_in h (s.images.membrane x)) asked.1 asked.0)
    (subst (λ k. In (s.images.membrane x) (mems_in h k)) e here)

-- before the first place none is taken
pub takes_nothing : (code : List Instr) (at : ℕ) (w : Want) → TakesApart code at at w 0
takes_nothing code at w h c s u = ([], tt, refl, λ a i. absurd i)

-- one place further
pub takes_on : (code : List Instr) (at place n k : ℕ) (w : Want) → at ≤ place → TakesApart code at place w n → TakesMore code at place w k → TakesApart code at (place + 1) w (n + k)
takes_on code at place n zero w l p q h c s u =
    let t = p h c s u in
    let count = t.2 in
    (t.0, t.1, omega (arith, count), λ a i. (let v = t.3 a i in let before = v.3 in (v.0, v.1, v.2, omega (arith, before), v.4, v.5, v.6)))
takes_on code at place n (suc k) w l p q h c s u =
    let t = p h c s u in
    let count = t.2 in
    let one = q.0 in
    let x = q.1.0 in (
      image w.kind s x ∷ t.0,
      (
        each_of (λ y. image w.kind s x ≢ y) t.0 (λ a i. (let v = t.3 a i in let told = q.1.3 v.0 v.1 v.2 v.3 v.4 in let behind = told.1 in
            λ e. differ w.kind h c s code at told.0 x v.1 (omega (arith, l, behind)) told.2 u (e ∙ v.6))),
        t.1,
      ),
      omega (arith, count, one),
      λ a i. elim i [
        | inl e ↦ (place, x, l, omega arith, q.1.1, q.1.2, sym e)
        | inr j ↦ (let v = t.3 a j in let before = v.3 in (v.0, v.1, v.2, omega (arith, before), v.4, v.5, v.6))
      ],
    )

taken_within : (kind : Kind) (code : List Instr) (k m x : ℕ) (f : Functor) → Takes kind code k m f x → k < length code
taken_within Atoms code k m x f e = get_below code k (FindAtom x m f) e
taken_within Membranes code k m x f e = get_below code k (AnyMem x m) e

-- behind the last place nothing is taken
pub takes_whole : (code : List Instr) (at place n : ℕ) (w : Want) → TakesApart code at place w n → TakesApart code at (length code) w n
takes_whole code at place n w p h c s u =
    let t = p h c s u in
    (t.0, t.1, t.2, λ a i. (let v = t.3 a i in (v.0, v.1, v.2, taken_within w.kind code v.0 w.membrane v.1 w.functor v.4, v.4, v.5, v.6)))

-- where a membrane holds fewer, code doesn't succeed with it
pub too_few : (h : Heap) (c : HeadSize) (s : HeadRegisters) (code : List Instr) (at end n place : ℕ) (w : Want) → TakesApart code at end w n → length (there_are h w.kind w.functor place) < n →
    s.images.membrane w.membrane ≡ place → AllHold h c s (drop at code) → ⊥
too_few h c s code at end n place w p less e u =
    let t = p h c s u in
    let count = t.2 in
    let most = not_longer t.0 (there_are h w.kind w.functor place) t.1 (λ a i. (let v = t.3 a i in
    subst (λ b. In b (there_are h w.kind w.functor place)) (sym v.6) (there w.kind h c s code at v.0 w.membrane v.1 place w.functor v.2 v.4 v.5 e u))) in
    omega (arith, count, most, less)

-- a walk along a list
pub walked_on : (step a : ℕ) (o : Option ℕ) (xs : List ℕ) → step + length (from (Some a) xs) ≡ length xs → from o xs ≡ after a xs → step + 1 + length (from o xs) ≡ length xs
walked_on step a o xs e f = let k : length (from o xs) ≡ length (after a xs) = ap length f in omega (arith, e, k)

holding_more_by : (m : ℕ) (xs : List ℕ) (t : Bool) → length (if t then xs else m ∷ xs) ≡ length (if t then [] else m ∷ []) + length xs
holding_more_by m xs true = omega arith
holding_more_by m xs false = omega arith

-- and along one of membranes, of which those count that hold an atom with a functor
pub held_on : (h : Heap) (f : Functor) (found one a all : ℕ) (o : Option ℕ) (xs : List ℕ) → found + length (holding h f (from (Some a) xs)) ≡ all → one ≡ length (holding h f (a ∷ [])) → from o xs ≡ after a xs → found + one + length (holding h f (from o xs)) ≡ all
held_on h f found one a all o xs e is g =
    let k : length (holding h f (from o xs)) ≡ length (holding h f (after a xs)) = ap (λ ys. length (holding h f ys)) g in
    let m : length (holding h f (a ∷ after a xs)) ≡ length (holding h f (a ∷ [])) + length (holding h f (after a xs)) = holding_more_by a (holding h f (after a xs)) (is_empty (with_functor h f (atoms_in h a))) in
    omega (arith, e, is, k, m)
