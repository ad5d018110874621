-- Small derivations, and tests of closed terms.
use Rattle.std.proofs.Common.{ℕ, zero, suc, ◌≡◌, ◌≢◌, ◌≤◌, ◌<◌, ◌⊎◌, Bool, true, false, eqb, leb, ◌&&◌, ◌||◌, List, [], ◌∷◌, ◌++◌, refl, ap, inl, inr, arith}
use Rattle.std.specs.Prelude.{IsTrue}
use Rattle.std.proofs.lemmas.Bool.{false≢true}
use Rattle.lmn_congruence.specs.Process.{Process, nothing, connector, atom, pair, membrane, rule, occurrences, Fresh, Local, Linked, Closed, together}
use Rattle.lmn_congruence.specs.Congruence.{Congruent, unit, swap, chain}
use Rattle.lmn_congruence.specs.FreeLinks.{link_bound}
use Rattle.lmn_congruence.specs.Fused.{fused}
use Rattle.lmn_congruence.specs.UpToOrder.{Reordered, r_unit, r_swap, r_regroup, r_beside, r_inside, r_same, r_back, r_chain}
use Rattle.lmn_congruence.proofs.Crossings.{occurrences_above, crossings}
use Rattle.lmn_congruence.proofs.Reordered.{reordered_congruent, r_right}
use Rattle.lmn_congruence.proofs.LinkMaps.{closed_leaves, closed_linked}
use Rattle.lmn_reduction.proofs.SettledForms.{reads_congruent, all_join}
use Rattle.lmn_congruence.proofs.FewestCrossings.{same_crossings_each}
use Rattle.lmn_base.proofs.Numbers.{same_or_not, below_or_from}

-- zero is not one
pub zero_not_one : ¬ (◌≡◌ {A = ℕ} 0 1)
zero_not_one = omega arith

-- ---- a test of each link below the greatest

-- a test that each number below n passes
abbrev pub all_below : ℕ → (ℕ → Bool) → Bool
all_below zero t = true
all_below (suc n) t = t n && all_below n t

and_first : (a b : Bool) → IsTrue (a && b) → IsTrue a
and_first true b h = refl
and_first false b h = h

and_second : (a b : Bool) → IsTrue (a && b) → IsTrue b
and_second true b h = h
and_second false b h = absurd (false≢true h)

tested : (n : ℕ) (t : ℕ → Bool) → IsTrue (all_below n t) → (z : ℕ) → z < n → IsTrue (t z)
tested zero t h z b = absurd (go b)
  where
    go : ¬ (z < 0)
    go = omega arith
tested (suc n) t h z b = go (same_or_not z n) (λ c. tested n t (and_second (t n) (all_below n t) h) z c)
  where
    go : (z ≡ n) ⊎ (z ≢ n) → (z < n → IsTrue (t z)) → IsTrue (t z)
    go (inl e) i = rw e (and_first (t n) (all_below n t) h)
    go (inr e) i = i (omega arith)

zero_or_two : (n : ℕ) → IsTrue (eqb n 0 || eqb n 2) → (n ≡ 0) ⊎ (n ≡ 2)
zero_or_two n h = grind arith

at_most_two : (n : ℕ) → IsTrue (leb n 2) → n ≤ 2
at_most_two n h = grind arith

-- a process is linked where each link below its bound occurs twice at most
pub linked_by : {P : Process} → IsTrue (all_below (link_bound P) (λ z. leb (occurrences z P) 2)) → Linked P
linked_by {P = P} h = record { at_most_twice = λ z. go z (below_or_from z (link_bound P)) }
  where
    go : (z : ℕ) → (z < link_bound P) ⊎ (link_bound P ≤ z) → occurrences z P ≤ 2
    go z (inl b) = at_most_two (occurrences z P) (tested (link_bound P) (λ z. leb (occurrences z P) 2) h z b)
    go z (inr b) = rw (occurrences_above z P b) (omega arith)

-- a process is closed where each link below its bound occurs twice or never
pub closed_by : (P : Process) → IsTrue (all_below (link_bound P) (λ z. eqb (occurrences z P) 0 || eqb (occurrences z P) 2)) → Closed P
closed_by P h = λ z. go z (below_or_from z (link_bound P))
  where
    go : (z : ℕ) → (z < link_bound P) ⊎ (link_bound P ≤ z) → Fresh z P ⊎ Local z P
    go z (inl b) = zero_or_two (occurrences z P) (tested (link_bound P) (λ z. eqb (occurrences z P) 0 || eqb (occurrences z P) 2) h z b)
    go z (inr b) = inl (occurrences_above z P b)

-- ---- congruence by grouping, and by a map of links

-- nothing beside a process on its right may go
pub no_right : {P : Process} → Linked P → Congruent (pair P nothing) P
no_right {P = P} l = let m : Linked (pair P nothing) = record { at_most_twice = λ z. omega (arith, l.at_most_twice z) } in chain (swap m) (unit l)

-- what stands side by side, at every depth
abbrev pub spread : Process → List Process
spread nothing = []
spread (connector x y) = connector x y ∷ []
spread (atom a xs) = atom a xs ∷ []
spread (pair P Q) = spread P ++ spread Q
spread (membrane P) = membrane (together (spread P)) ∷ []
spread (rule r) = rule r ∷ []

-- two lists of processes joined are both side by side, up to grouping
pub together_append : (Ps Qs : List Process) → Reordered (together (Ps ++ Qs)) (pair (together Ps) (together Qs))
together_append [] Qs = r_back r_unit
together_append (P ∷ Ps) Qs = r_chain (r_right (together_append Ps Qs)) r_regroup

-- a process is itself beside nothing, up to order
pub alone : {P : Process} → Reordered P (pair P nothing)
alone = r_chain (r_back r_unit) r_swap

together_spread : (P : Process) → Reordered P (together (spread P))
together_spread nothing = r_same refl
together_spread (connector x y) = alone
together_spread (atom a xs) = alone
together_spread (pair P Q) = r_chain (r_beside (together_spread P)) (r_chain (r_right (together_spread Q)) (r_back (together_append (spread P) (spread Q))))
together_spread (membrane P) = r_chain (r_inside (together_spread P)) alone
together_spread (rule r) = alone

same_spread : {P Q : Process} → spread P ≡ spread Q → Reordered P Q
same_spread {P = P} {Q = Q} e = r_chain (together_spread P) (r_chain (r_same (ap together e)) (r_back (together_spread Q)))

-- processes with the same pieces in the same order are congruent
pub regrouped : {P Q : Process} → spread P ≡ spread Q → Linked P → Congruent P Q
regrouped e l = reordered_congruent (same_spread e) l

-- closed processes that are alike when all links are one, with no link too many across a membrane
pub by_one_link : {P N : Process} → Closed P → Linked N → crossings (fused (λ n. 0) P) ≡ crossings P → spread (fused (λ n. 0) P) ≡ spread N → Congruent P N
by_one_link {P = P} {N = N} c l k e =
    let j = all_join P in
    reads_congruent P N (closed_linked c) l (record { to = λ n. 0; leaves = closed_leaves (λ n. 0) P c; joins = j; order = same_spread e; crossings = same_crossings_each (λ n. 0) P j (closed_linked c) k })
