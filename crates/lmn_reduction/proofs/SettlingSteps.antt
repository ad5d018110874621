-- Settling steps keep free links, lower the links across membranes by two, and carry maps of links.
use Rattle.std.proofs.Common.{ℕ, suc, ◌≡◌, ◌≢◌, ◌+◌, refl, sym, ◌∙◌, ap, arith}
use Rattle.lmn_congruence.specs.UpToOrder.{r_back}
use Rattle.lmn_congruence.specs.FreeNumber.{free_number}
use Rattle.lmn_congruence.specs.FreeLinks.{one_if_once, one_if_free}
use Rattle.lmn_congruence.proofs.Reordered.{nothing_out}
use Rattle.lmn_congruence.proofs.Carried.{Carries, carried_as, carried_chain, carried_inside, carried_beside, congruence_carries}
use Rattle.lmn_congruence.specs.Process.{Process, connector, pair, membrane, occurrences, Free, Linked}
use Rattle.lmn_reduction.specs.Steps.{Derived, leaf, beside, inside, up_to, Settling, out, into, SettlingStep}
use Rattle.lmn_reduction.specs.Commits.{SettlesTowards, already, step_and}
use Rattle.lmn_reduction.specs.Laws.{StepsAreLinked, SettlingStepsAreLinked}
use Rattle.lmn_congruence.proofs.Counts.{Alike, flip_alike, count_first, count_second, same_free, alike_sum, linked_both}
use Rattle.lmn_congruence.proofs.Crossings.{free_number_two, free_number_alike, crossings, same_crossings, passed_other}

-- both sides of a derivation are linked
pub linked_derived : {L : Process → Process → Type 0} {P Q : Process} → Derived L P Q → Linked P × Linked Q
linked_derived (leaf s l l') = (l, l')
linked_derived (beside d l l') = (l, l')
linked_derived (inside d) = let i = linked_derived d in (record { at_most_twice = i.0.at_most_twice }, record { at_most_twice = i.1.at_most_twice })
linked_derived (up_to c d e) = ((linked_both c).0, (linked_both e).1)

-- both sides of a step are linked
pub steps_linked : StepsAreLinked
steps_linked P Q d = linked_derived d

-- and both of a settling step
pub settling_steps_linked : SettlingStepsAreLinked
settling_steps_linked P Q d = linked_derived d

-- a connector that crosses a membrane leaves each link as often as it was
pub settling_count : {P Q : Process} → Settling P Q → (z : ℕ) → occurrences z P ≡ occurrences z Q
settling_count (out x y d f g) z = refl
settling_count (into x y d f g) z = refl

-- a settling step keeps the free links
pub same_free_settling : {P Q : Process} → SettlingStep P Q → (z : ℕ) → Alike (occurrences z P) (occurrences z Q)
same_free_settling (leaf s l l') z = let e = settling_count s z in record { there = (λ p. omega arith); back_again = (λ p. omega arith) }
same_free_settling (beside {P = P} {P' = P'} {Q = Q} d l l') z = alike_sum (occurrences z P) (occurrences z P') (occurrences z Q) (same_free_settling d z) (l.at_most_twice z) (l'.at_most_twice z)
same_free_settling (inside d) z = same_free_settling d z
same_free_settling (up_to c d e) z =
    let i = same_free c z in let j = same_free_settling d z in let k = same_free e z in
    record { there = (λ p. k.there (j.there (i.there p))); back_again = (λ p. i.back_again (j.back_again (k.back_again p))) }

-- two links that occur once more and were not there are two free links more
pub two_less : (m n : ℕ) → suc m ≡ 1 → suc n ≡ 1 → one_if_once (suc m) + one_if_once (suc n) ≡ one_if_once m + one_if_once n + 2
two_less m n e k = grind arith

-- two free links that occur once more are two less
pub two_more : (m n : ℕ) → m ≡ 1 → n ≡ 1 → one_if_once m + one_if_once n ≡ one_if_once (suc m) + one_if_once (suc n) + 2
two_more m n e k = grind arith

-- a connector of two links that are free beside P adds two to the number of free links
pub free_number_out : (x y : ℕ) (P : Process) → x ≢ y → Free x (pair (connector x y) P) → Free y (pair (connector x y) P) → free_number (pair (connector x y) P) ≡ free_number P + 2
free_number_out x y P d f g =
    let a = count_first x y (occurrences x P) d in
    let b = count_second x y (occurrences y P) d in
    let Q = pair (connector x y) P in
    let s : one_if_free Q x + one_if_free Q y ≡ one_if_free P x + one_if_free P y + 2 = rw (a, b) (two_less (occurrences x P) (occurrences y P) (sym a ∙ f) (sym b ∙ g)) in
    omega (arith, free_number_two x y P Q d (λ z p q. ap one_if_once (passed_other x y z (occurrences z P) p q)), s)

-- a connector of two free links that enters makes both of them bound
pub free_number_into : (x y : ℕ) (P : Process) → x ≢ y → Free x P → Free y P → free_number P ≡ free_number (pair (connector x y) P) + 2
free_number_into x y P d f g =
    let a = count_first x y (occurrences x P) d in
    let b = count_second x y (occurrences y P) d in
    let Q = pair (connector x y) P in
    let s : one_if_free P x + one_if_free P y ≡ one_if_free Q x + one_if_free Q y + 2 = rw (a, b) (two_more (occurrences x P) (occurrences y P) f g) in
    omega (arith, free_number_two x y P Q d (λ z p q. ap one_if_once (passed_other x y z (occurrences z P) p q)), s)

-- a settling step lowers the number of links that cross the walls by two
abbrev pub Lowers : Process → Process → Type 0
Lowers P Q = crossings P ≡ crossings Q + 2

-- so a connector that crosses a membrane lowers the crossings by two
pub settling_lowers : {P Q : Process} → Settling P Q → Lowers P Q
settling_lowers (out {P = P} x y d f g) = rw (free_number_out x y P d f g) (omega arith)
settling_lowers (into {P = P} x y d f g) = rw (free_number_into x y P d f g) (omega arith)

-- and so does a settling step
pub step_lowers : {P Q : Process} → SettlingStep P Q → Lowers P Q
step_lowers (leaf s l l') = settling_lowers s
step_lowers (beside d l l') = let i = step_lowers d in omega arith
step_lowers (inside {P = P} {P' = P'} d) = let i = step_lowers d in rw (free_number_alike P P' (same_free_settling d)) (omega arith)
step_lowers (up_to c d e) = omega (arith, step_lowers d, same_crossings c, same_crossings e)

-- ---- maps of links are carried, both ways

leaf_carries : {P Q : Process} → Settling P Q → Carries P Q × Carries Q P
leaf_carries (out {P = P} x y d f g) = (
  carried_as (membrane (pair (connector x y) P)) (pair (connector x y) (membrane P)) (λ v k. k) (λ v. nothing_out),
  carried_as (pair (connector x y) (membrane P)) (membrane (pair (connector x y) P)) (λ v k. k) (λ v. r_back nothing_out),
)
leaf_carries (into {P = P} x y d f g) = (
  carried_as (pair (connector x y) (membrane P)) (membrane (pair (connector x y) P)) (λ v k. k) (λ v. r_back nothing_out),
  carried_as (membrane (pair (connector x y) P)) (pair (connector x y) (membrane P)) (λ v k. k) (λ v. nothing_out),
)

-- both sides of a settling step are fused alike
pub step_carries : {P Q : Process} → SettlingStep P Q → Carries P Q × Carries Q P
step_carries (leaf s l l') = leaf_carries s
step_carries (beside {P = P} {P' = P'} {Q = Q} d l l') =
    let i = step_carries d in
    (carried_beside P P' Q (same_free_settling d) l l' i.0, carried_beside P' P Q (λ z. flip_alike (occurrences z P) (occurrences z P') (same_free_settling d z)) l' l i.1)
step_carries (inside {P = P} {P' = P'} d) = let i = step_carries d in (carried_inside P P' i.0, carried_inside P' P i.1)
step_carries (up_to {P = P} {P' = P'} {Q' = Q'} {Q = Q} d s e) =
    let i = congruence_carries d in
    let j = step_carries s in
    let k = congruence_carries e in (
      carried_chain P P' Q (λ z. (same_free d z).there) i.0 (carried_chain P' Q' Q (λ z. (same_free_settling s z).there) j.0 k.0),
      carried_chain Q P' P (λ z h. (same_free_settling s z).back_again ((same_free e z).back_again h)) (carried_chain Q Q' P' (λ z. (same_free e z).back_again) k.1 j.1) i.1,
    )

-- settling steps leave the same links free
pub towards_alike : {P Q : Process} → SettlesTowards P Q → (z : ℕ) → Alike (occurrences z P) (occurrences z Q)
towards_alike (already c) z = same_free c z
towards_alike (step_and s t) z =
    let i = same_free_settling s z in
    let j = towards_alike t z in
    record { there = (λ e. j.there (i.there e)); back_again = (λ e. i.back_again (j.back_again e)) }

-- and both sides are fused alike
pub towards_carries : {P Q : Process} → SettlesTowards P Q → Carries P Q × Carries Q P
towards_carries (already c) = congruence_carries c
towards_carries (step_and {P = P} {Q = Q} {S = S} s t) =
    let i = step_carries s in
    let j = towards_carries t in
    (carried_chain P Q S (λ z. (same_free_settling s z).there) i.0 j.0, carried_chain S Q P (λ z. (towards_alike t z).back_again) j.1 i.1)
