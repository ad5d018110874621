-- On which choices registers rest, by cases of an instruction.
use Rattle.std.proofs.Common.{ℕ, ◌≡◌, ◌<◌, ◌≤◌, ◌+◌, List, [], ◌∷◌, Some, refl, arith, ap, inl, inr, sym, subst, length, ◌∙◌}
use Rattle.std.specs.Prelude.{slice_get}
use Rattle.std.proofs.lemmas.Bool.{cases_lt}
use Rattle.lmn_base.proofs.Lists.{get_below}
use Rattle.lmn_instr_code.specs.declared.instr.Instr.{Instr}
use Rattle.lmn_instr_code.specs.declared.instr.Instr.TheVariants.{Deref, Func, InMem, NeqAtom, Joined, NotIn, NeqMem, NMems, NoRules, NAtoms, EqGround, NeqGround, GetInt, Add, Sub, Mul, Div, Mod, Lt, Le, Gt, Ge, Eq, Ne}
use Rattle.lmn_machine.specs.Jumping.{AllRestWell, ReadsWithin, RestsWell, Within, on_membrane}
use Rattle.lmn_machine.specs.declared.choices.Choices.{Choices}
use Rattle.lmn_machine.specs.declared.choices.Choices.TheVariants.{All}
use Rattle.lmn_machine.specs.declared.reasons.Reasons.{Reasons}

-- what any instruction reads rests on all choices
pub reads_all : (r : Reasons) (i : Instr) → ReadsWithin r All i
reads_all r (Deref x p k) = tt
reads_all r (Func x f) = tt
reads_all r (InMem x y) = (tt, tt)
reads_all r (NeqAtom x y) = (tt, tt)
reads_all r (Joined p q) = (tt, tt)
reads_all r (NotIn p y) = (tt, tt)
reads_all r (NeqMem x y) = (tt, tt)
reads_all r (NMems x n) = tt
reads_all r (NoRules x) = tt
reads_all r (NAtoms x n []) = tt
reads_all r (NAtoms x n (g ∷ gs)) = refl
reads_all r (EqGround x y) = (tt, tt)
reads_all r (NeqGround x y) = (tt, tt)
reads_all r (GetInt v x) = tt
reads_all r (Add v x y) = (tt, tt)
reads_all r (Sub v x y) = (tt, tt)
reads_all r (Mul v x y) = (tt, tt)
reads_all r (Div v x y) = (tt, tt)
reads_all r (Mod v x y) = (tt, tt)
reads_all r (Lt x y) = (tt, tt)
reads_all r (Le x y) = (tt, tt)
reads_all r (Gt x y) = (tt, tt)
reads_all r (Ge x y) = (tt, tt)
reads_all r (Eq x y) = (tt, tt)
reads_all r (Ne x y) = (tt, tt)
reads_all r _ = refl

-- NATOMS without parts reads its membrane
pub reads_bare : (r : Reasons) (e : Choices) (x n : ℕ) (gs : List ℕ) → length gs ≡ 0 → Within (on_membrane r x) e → ReadsWithin r e (NAtoms x n gs)
reads_bare r e x n [] l w = w
reads_bare r e x n (g ∷ gs) l w = absurd (omega (arith, l))

-- so far each instruction of code rests well
abbrev pub RestSoFar : Reasons → List Instr → ℕ → Type 0
RestSoFar r code n = (k : ℕ) (i : Instr) → k < n → slice_get code k ≡ Some i → RestsWell r i

-- before the first none is there
pub rest_first : (r : Reasons) (code : List Instr) → RestSoFar r code 0
rest_first r code k i l e = absurd (omega (arith, l))

-- and one more
pub rest_more : (r : Reasons) (code : List Instr) (n : ℕ) (i : Instr) → RestSoFar r code n → slice_get code n ≡ Some i → RestsWell r i → RestSoFar r code (n + 1)
rest_more r code n i before at well k j l e = elim (cases_lt k n) [
  | inl m ↦ before k j m e
  | inr m ↦ (let q : n ≡ k = omega (arith, l, m) in let t : Some i ≡ Some j = sym at ∙ (ap (slice_get code) q ∙ e) in let u : i ≡ j = cc in subst (λ x. RestsWell r x) u well)
]

-- all are, at the end
pub rest_all : (r : Reasons) (code : List Instr) (n : ℕ) → RestSoFar r code n → length code ≤ n → AllRestWell r code
rest_all r code n t l k i e = t k i (let b = get_below code k i e in omega (arith, b, l)) e
