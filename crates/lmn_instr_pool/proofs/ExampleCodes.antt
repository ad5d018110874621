-- What is told of a code, by examples.
use Rattle.std.proofs.Common.{ℕ, zero, suc, ◌≡◌, ◌<◌, ◌≤◌, Some, refl, arith, sym, subst}
use Rattle.std.specs.Prelude.{slice_get}
use Rattle.lmn_instr_code.specs.declared.instr.Instr.{Instr}
use Rattle.lmn_instr_code.specs.declared.instr.Instr.TheVariants.{Commit, NoRules, RemoveAtom, NewMem, Proceed}
use Rattle.lmn_instr_pool.specs.Extents.{Acts, Makes, Removes}
use Rattle.lmn_instr_pool.specs.Examples.{ActionsEnd, MakingBegins, RemovalsEnd, asking, making, removing}

behind : (i : ℕ) (x : Instr) → 1 ≤ i → slice_get removing i ≡ Some x → Removes x → ⊥
behind zero x l e p = omega (arith, l)
behind (suc zero) x l e p = let same : Proceed ≡ x = cc in subst Removes (sym same) p
behind (suc (suc i)) x l e p = absurd (cc)

pub removals_end : RemovalsEnd
removals_end = (behind, λ none. none 0 (RemoveAtom 0) (omega arith) refl tt)

before : (i : ℕ) (x : Instr) → i < 1 → slice_get making i ≡ Some x → Makes x → ⊥
before zero x l e p = let same : Proceed ≡ x = cc in subst Makes (sym same) p
before (suc i) x l e p = omega (arith, l)

pub making_begins : MakingBegins
making_begins = (before, λ none. none 1 (NewMem 1 0) (omega arith) refl tt)

at_end : (i : ℕ) (x : Instr) → 1 ≤ i → slice_get asking i ≡ Some x → Acts x → ⊥
at_end zero x l e p = omega (arith, l)
at_end (suc zero) x l e p = let same : Commit ≡ x = cc in subst Acts (sym same) p
at_end (suc (suc i)) x l e p = absurd (cc)

pub actions_end : ActionsEnd
actions_end = (at_end, λ none. none 0 (NoRules 0) (omega arith) refl tt)
