-- Two runs of codes from one solid are one.
use Rattle.std.proofs.Common.{◌≡◌, ◌<◌, ◌≤◌, ℕ, List, refl, sym, subst, inl, inr, arith}
use Rattle.lmn_base.proofs.Numbers.{in_order}
use Rattle.lmn_base.specs.declared.solid.Solid.{Solid}
use Rattle.lmn_instr_code.specs.declared.instr.Code.{Code}
use Rattle.lmn_reduction.specs.Chains.{Chain, no_step, step_after}
use Rattle.lmn_app_runs.specs.declared.stop.Stop.{Stop}
use Rattle.lmn_app_runs.specs.declared.stop.Stop.TheVariants as stop
use Rattle.lmn_verify_solids.specs.Turns.{CodeNext}
use Rattle.lmn_verify_turns.specs.Laws.{AreVerified, ChoicesAreOne, OneNext}
use Rattle.lmn_verify_coded.specs.Laws.{CameToEnd, SolidRunsAreOne}
use Rattle.lmn_verify_coded.specs.Solids.{RunStopped, StopsAt}

module _ (one : OneNext) (law : ChoicesAreOne) (codes : List Code) (verified : AreVerified codes) (budget size : ℕ) where
  -- after as many commits both are at one solid
  at_one : (S : Solid) {n m : ℕ} {T U : Solid} → Chain (CodeNext codes size) S n T → Chain (CodeNext codes size) S m U → n ≡ m → T ≡ U
  at_one S no_step no_step e = refl
  at_one S no_step (step_after {n = m} c r) e = absurd (omega (arith, e))
  at_one S (step_after {n = n} c r) no_step e = absurd (omega (arith, e))
  at_one S (step_after {n = n} {y = x} {z = T} c r) (step_after {n = m} {y = y} {z = U} d s) e =
      let before = at_one S c d (omega (arith, e)) in
      one codes verified size size y T U (subst (λ z. CodeNext codes size z T) before r) s

  -- where a run stopped before the budget, nothing is committed
  no_next : (n : ℕ) (S T : Solid) (why : Stop) → CameToEnd why → StopsAt codes budget size n S why → n < budget → CodeNext codes size S T → ⊥
  no_next n S T stop.Irreducible had w l r = (law codes verified S).no_choice w.1 r.0
  no_next n S T stop.Budget had w l r = let e = w.0 in absurd (omega (arith, e, l))
  no_next n S T stop.Full had w l r = let large = w.2 in let fits = r.1 in let same = (law codes verified S).one_left w.1 r.0 in absurd (omega (arith, large, fits, same))
  no_next n S T stop.NoMemory had w l r = had

  within : (n : ℕ) (S : Solid) (why : Stop) → StopsAt codes budget size n S why → n ≤ budget
  within n S stop.Irreducible w = w.0
  within n S stop.Budget w = let e = w.0 in omega (arith, e)
  within n S stop.Full w = let l = w.0 in omega (arith, l)
  within n S stop.NoMemory w = let l = w.0 in omega (arith, l)

  -- so no run has more commits than one that stopped
  no_more : (S : Solid) (n : ℕ) (why : Stop) → CameToEnd why → (x : RunStopped codes budget size S n why) → (m : ℕ) (U : Solid) → Chain (CodeNext codes size) S m U → m ≤ budget → n < m → ⊥
  no_more S n why had x m U no_step l d = absurd (omega (arith, d))
  no_more S n why had x m U (step_after {n = j} {y = y} c r) l d = elim (in_order n j) [
    | inl e ↦ no_next n x.last U why had x.stops (omega (arith, l, e)) (subst (λ z. CodeNext codes size z U) (sym (at_one S x.run c e)) r)
    | inr o ↦ elim o [
      | inl below ↦ no_more S n why had x j y c (omega (arith, l)) below
      | inr above ↦ absurd (omega (arith, above, d))
    ]
  ]

  -- a run stops at a solid for one reason
  one_reason : (n : ℕ) (S : Solid) (why other : Stop) → CameToEnd why → CameToEnd other → StopsAt codes budget size n S why → StopsAt codes budget size n S other → why ≡ other
  one_reason n S stop.Irreducible stop.Irreducible had too w v = refl
  one_reason n S stop.Irreducible stop.Budget had too w v = absurd ((law codes verified S).no_success w.1 v.1)
  one_reason n S stop.Irreducible stop.Full had too w v = absurd ((law codes verified S).no_choice w.1 v.1)
  one_reason n S stop.Budget stop.Irreducible had too w v = absurd ((law codes verified S).no_success v.1 w.1)
  one_reason n S stop.Budget stop.Budget had too w v = refl
  one_reason n S stop.Budget stop.Full had too w v = let e = w.0 in let l = v.0 in absurd (omega (arith, e, l))
  one_reason n S stop.Full stop.Irreducible had too w v = absurd ((law codes verified S).no_choice v.1 w.1)
  one_reason n S stop.Full stop.Budget had too w v = let e = v.0 in let l = w.0 in absurd (omega (arith, e, l))
  one_reason n S stop.Full stop.Full had too w v = refl
  one_reason n S why stop.NoMemory had too w v = absurd too
  one_reason n S stop.NoMemory other had too w v = absurd had

-- Two runs from one solid are one.
pub solid_runs_are_one : OneNext → ChoicesAreOne → SolidRunsAreOne
solid_runs_are_one one law codes verified budget size S n m why other had too x y =
    let count : n ≡ m = elim (in_order n m) [
      | inl e ↦ e
      | inr o ↦ elim o [
        | inl l ↦ absurd (no_more one law codes verified budget size S n why had x m y.last y.run (within one law codes verified budget size m y.last other y.stops) l)
        | inr l ↦ absurd (no_more one law codes verified budget size S m other too y n x.last x.run (within one law codes verified budget size n x.last why x.stops) l)
      ]
    ] in
    let last = at_one one law codes verified budget size S x.run y.run count in (
      count,
      one_reason one law codes verified budget size m y.last why other had too (subst (λ T. StopsAt codes budget size m T why) last (subst (λ k. StopsAt codes budget size k x.last why) count x.stops)) y.stops,
      last,
    )
