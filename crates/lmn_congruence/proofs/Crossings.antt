-- The links that cross membranes.
use Rattle.std.proofs.Common.{ℕ, suc, ◌≡◌, ◌≢◌, ◌+◌, ◌≤◌, ◌<◌, ◌⊎◌, List, [], ◌∷◌, refl, sym, ◌∙◌, ap, inl, inr, zero-add, arith}
use Rattle.lmn_congruence.specs.Links.{one_if_same, places}
use Rattle.lmn_congruence.specs.Process.{Process, nothing, connector, atom, pair, membrane, rule, occurrences, Fresh, Linked, substitute}
use Rattle.lmn_congruence.specs.Congruence.{Congruent, unit, swap, regroup, rename, beside, inside, loop, turn, absorb, pass, same, back, chain, IsAtomProcess, a_connector, an_atom, ExactlyOneFree}
use Rattle.lmn_congruence.specs.FreeNumber.{free_number}
use Rattle.lmn_congruence.specs.FreeLinks.{sum_below, above_all, link_bound, one_if_once, one_if_free}
use Rattle.lmn_congruence.proofs.Counts.{Occurs, count_first, count_second, Alike, same_free, fresh_differs, occurrences_old, occurrences_new, occurrences_other}
use Rattle.lmn_congruence.proofs.Totals.{total_same, total_two, total_past}
use Rattle.lmn_congruence.proofs.FreeNumbers.{free_total}
use Rattle.lmn_base.proofs.Numbers.{below_or_from}

-- a link above all of a list has no place there
pub places_above : (x : ℕ) (xs : List ℕ) → above_all xs ≤ x → places x xs ≡ 0
places_above x [] b = refl
places_above x (y ∷ ys) b = let i = places_above x ys (omega arith) in grind arith

-- a link at the bound of a process or above doesn't occur in it
pub occurrences_above : (x : ℕ) (P : Process) → link_bound P ≤ x → occurrences x P ≡ 0
occurrences_above x nothing b = refl
occurrences_above x (connector y z) b = grind arith
occurrences_above x (atom a ys) b = places_above x ys b
occurrences_above x (pair P Q) b = omega (arith, occurrences_above x P (omega arith), occurrences_above x Q (omega arith))
occurrences_above x (membrane P) b = occurrences_above x P b
occurrences_above x (rule r) b = refl

-- a link that occurs is below the bound
pub occurs_below : (P : Process) (x : ℕ) → Occurs x P → x < link_bound P
occurs_below P x o = go (below_or_from x (link_bound P))
  where
    go : (x < link_bound P) ⊎ (link_bound P ≤ x) → x < link_bound P
    go (inl c) = c
    go (inr c) = absurd (o (occurrences_above x P c))

-- the free links of a process are those below any bound of its links
pub free_number_below : (n : ℕ) (P : Process) → link_bound P ≤ n → sum_below n (one_if_free P) ≡ free_number P
free_number_below n P b = total_past (link_bound P) n (one_if_free P) b (λ z c. ap one_if_once (occurrences_above z P c)) ∙ free_total P

-- counts that are alike count the same free links
pub one_if_free_alike : (m n : ℕ) → Alike m n → one_if_once m ≡ one_if_once n
one_if_free_alike m n a = grind arith

-- processes with the same free links have as many of them
pub free_number_alike : (P Q : Process) → ((x : ℕ) → Alike (occurrences x P) (occurrences x Q)) → free_number P ≡ free_number Q
free_number_alike P Q h =
    sym (free_number_below (link_bound P + link_bound Q) P (omega arith))
    ∙ total_same (link_bound P + link_bound Q) (one_if_free P) (one_if_free Q) (λ z b. one_if_free_alike (occurrences z P) (occurrences z Q) (h z))
    ∙ free_number_below (link_bound P + link_bound Q) Q (omega arith)

-- processes in which links occur equally often have as many free links
pub same_number : (P Q : Process) → ((z : ℕ) → occurrences z P ≡ occurrences z Q) → free_number P ≡ free_number Q
same_number P Q h = free_number_alike P Q (λ z. let e = h z in record { there = (λ p. omega arith); back_again = (λ p. omega arith) })

-- where two processes have the same free links but at two links
pub free_number_two : (x y : ℕ) (P Q : Process) → x ≢ y → ((z : ℕ) → z ≢ x → z ≢ y → one_if_free P z ≡ one_if_free Q z) → free_number P + (one_if_free Q x + one_if_free Q y) ≡ free_number Q + (one_if_free P x + one_if_free P y)
free_number_two x y P Q d h =
    let n = suc x + suc y + link_bound P + link_bound Q in
    rw (← free_number_below n P (omega arith)) (rw (← free_number_below n Q (omega arith)) (total_two n x y (one_if_free P) (one_if_free Q) d (omega arith) (omega arith) h))

-- a fresh link put for another leaves as many free links
pub free_number_renamed : (x y : ℕ) (P : Process) → y ≢ x → Fresh y P → free_number (substitute y x P) ≡ free_number P
free_number_renamed x y P d n =
    let Q = substitute y x P in
    let o : occurrences x Q ≡ 0 = occurrences_old y x P d in
    let i : occurrences y Q ≡ occurrences x P = occurrences_new y x P d ∙ (rw n (zero-add (occurrences x P))) in
    let t = free_number_two x y P Q (λ e. d (sym e)) (λ z p q. ap one_if_once (sym (occurrences_other y x z P d p q))) in
    omega (arith, t, ap one_if_once o, ap one_if_once i, ap one_if_once n)

-- the number of links that cross a membrane, summed over all membranes
abbrev pub crossings : Process → ℕ
crossings nothing = 0
crossings (connector x y) = 0
crossings (atom a xs) = 0
crossings (pair P Q) = crossings P + crossings Q
crossings (membrane P) = free_number P + crossings P
crossings (rule r) = 0

-- a fresh link put for another leaves as many crossings
pub crossings_renamed : (x y : ℕ) (P : Process) → y ≢ x → Fresh y P → crossings (substitute y x P) ≡ crossings P
crossings_renamed x y nothing d n = refl
crossings_renamed x y (connector z z') d n = refl
crossings_renamed x y (atom a xs) d n = refl
crossings_renamed x y (pair P Q) d n = omega (arith, crossings_renamed x y P d (omega arith), crossings_renamed x y Q d (omega arith))
crossings_renamed x y (membrane P) d n = rw (free_number_renamed x y P d n, crossings_renamed x y P d n) refl
crossings_renamed x y (rule r) d n = refl

-- an atom or a connector has no crossings
pub crossings_atom : (P : Process) → IsAtomProcess P → crossings P ≡ 0
crossings_atom P a_connector = refl
crossings_atom P an_atom = refl

-- an atom or a connector stays one under a substitution
pub atom_replaced : (x y : ℕ) (P : Process) → IsAtomProcess P → IsAtomProcess (substitute y x P)
atom_replaced x y P a_connector = a_connector
atom_replaced x y P an_atom = an_atom

-- links of which exactly one is free differ
pub passed_apart : (x y : ℕ) (P : Process) → ExactlyOneFree x y P → x ≢ y
passed_apart x y P (inl e) = λ q. e.1 (rw (← q) e.0)
passed_apart x y P (inr e) = λ q. e.1 (rw q e.0)

-- two equal links don't count at a third
pub passed_other : (x y z n : ℕ) → z ≢ x → z ≢ y → n ≡ one_if_same z x + one_if_same z y + n
passed_other x y z n p q = grind arith

-- of two links one occurs once, and after a connector of the two it is the other
pub passed_counts : (m n : ℕ) → (m ≡ 1) × (n ≢ 1) ⊎ (n ≡ 1) × (m ≢ 1) → suc m ≤ 2 → suc n ≤ 2 → one_if_once (suc m) + one_if_once (suc n) ≡ one_if_once m + one_if_once n
passed_counts m n e k l = grind arith

-- a connector of a free link and another one leaves as many of the two free
pub passed_sum : (x y : ℕ) (P : Process) → ExactlyOneFree x y P → Linked (pair (connector x y) P) → one_if_free (pair (connector x y) P) x + one_if_free (pair (connector x y) P) y ≡ one_if_free P x + one_if_free P y
passed_sum x y P e l =
    let d : x ≢ y = passed_apart x y P e in
    let a = count_first x y (occurrences x P) d in
    let b = count_second x y (occurrences y P) d in
    rw (a, b) (passed_counts (occurrences x P) (occurrences y P) e (rw (← a) (l.at_most_twice x)) (rw (← b) (l.at_most_twice y)))

-- so a connector that goes through a membrane leaves its crossings
pub free_number_passed : (x y : ℕ) (P : Process) → ExactlyOneFree x y P → Linked (pair (connector x y) P) → free_number (pair (connector x y) P) ≡ free_number P
free_number_passed x y P e l =
    let Q = pair (connector x y) P in
    let d : x ≢ y = passed_apart x y P e in
    let t = free_number_two x y P Q d (λ z p q. ap one_if_once (passed_other x y z (occurrences z P) p q)) in
    omega (arith, t, passed_sum x y P e l)

-- congruence keeps the number of links that cross each wall
pub same_crossings : {P Q : Process} → Congruent P Q → crossings P ≡ crossings Q
same_crossings (unit l) = omega arith
same_crossings (swap l) = omega arith
same_crossings (regroup l) = omega arith
same_crossings (rename {P = P} x y l f n) = sym (crossings_renamed x y P (fresh_differs x y P f n) n)
same_crossings (beside d l l') = omega (arith, same_crossings d)
same_crossings (inside {P = P} {P' = P'} d) = rw (free_number_alike P P' (same_free d), same_crossings d) refl
same_crossings loop = refl
same_crossings turn = refl
same_crossings (absorb {P = P} x y a f l) = omega (arith, crossings_atom P a, crossings_atom (substitute y x P) (atom_replaced x y P a))
same_crossings (pass {P = P} x y e l) = rw (free_number_passed x y P e l) (omega arith)
same_crossings (same l) = refl
same_crossings (back d) = sym (same_crossings d)
same_crossings (chain d e) = same_crossings d ∙ same_crossings e
