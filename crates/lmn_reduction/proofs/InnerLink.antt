-- `{a(X), b(X)}. {a(X), b(Y)} :- c(X,Y).` is irreducible: congruence keeps the rules and the number of links
-- across membranes, which is 0, and an instance of the head has two.
use Rattle.std.proofs.Common.{ℕ, ◌≡◌, ◌≢◌, ◌+◌, ◌≤◌, [], ◌∷◌, refl, sym, ◌∙◌, ap, subst, arith}
use Rattle.lmn_congruence.specs.Orders.{no_pairs, pair_and}
use Rattle.lmn_congruence.specs.Links.{one_if_same}
use Rattle.lmn_congruence.specs.Process.{Process, atom, membrane, rule, occurrences, together}
use Rattle.lmn_congruence.specs.Rules.{Rule, head_of}
use Rattle.lmn_congruence.specs.FreeNumber.{free_number}
use Rattle.lmn_congruence.specs.FreeLinks.{link_bound, one_if_once, one_if_free}
use Rattle.lmn_reduction.specs.Assignments.{Assignment, Proper}
use Rattle.lmn_reduction.specs.Instances.{Instance, instance, of_atom, no_membrane, membrane_and}
use Rattle.lmn_reduction.specs.Firing.{Matches}
use Rattle.lmn_reduction.specs.Steps.{Step}
use Rattle.lmn_reduction.specs.Redexes.{HasRedex, at_top, in_membrane}
use Rattle.lmn_reduction.specs.Examples.{label_a, label_b, join_from_membrane, InnerLinkStays}
use Rattle.lmn_congruence.proofs.Totals.{total_includes}
use Rattle.lmn_congruence.proofs.FreeNumbers.{free_total}
use Rattle.lmn_congruence.proofs.Crossings.{occurs_below, crossings, same_crossings}
use Rattle.lmn_reduction.proofs.SettledProcesses.{no_connector_settled}
use Rattle.lmn_reduction.proofs.Derivations.{zero_not_one}
use Rattle.lmn_congruence.proofs.KeptRules.{AllRules, kept_rules}
use Rattle.lmn_reduction.proofs.Redexes.{step_shows}
use Rattle.lmn_base.proofs.Numbers.{not_zero_if_one}

-- ---- the links across the membrane of an instance of the head

one_free : (x y : ℕ) (C : Process) → x ≢ y → ((z : ℕ) → occurrences z C ≡ one_if_same z x + one_if_same z y) → free_number C ≢ 0
one_free x y C d h = not_zero (one_if_free C x) (free_number C) (ap one_if_once f)
    (omega (arith, total_includes (link_bound C) (one_if_free C) x (occurs_below C x (not_zero_if_one (occurrences x C) f)), free_total C))
  where
    first_one : (x y : ℕ) → x ≢ y → one_if_same x x + one_if_same x y ≡ 1
    first_one x y d = grind arith

    f : occurrences x C ≡ 1
    f = h x ∙ first_one x y d

    not_zero : (k n : ℕ) → k ≡ 1 → k ≤ n → n ≢ 0
    not_zero k n e label_b = omega arith

crossed : (t : Assignment) (A : Process) → Proper t → Instance t (head_of join_from_membrane) A → crossings A ≢ 0
crossed t A p (instance no_pairs (membrane_and {P = C} (instance (pair_and of_atom (pair_and of_atom no_pairs)) no_membrane no_pairs) no_membrane) no_pairs) =
    λ e. one_free (t.link_of 0) (t.link_of 1) C (λ q. zero_not_one (p.links_differ 0 1 q)) (λ z. omega arith) (omega arith)

matched : (r : Rule) (A : Process) → r ≡ join_from_membrane → Matches r A → crossings A ≢ 0
matched r A q = subst (λ k. Matches k A → crossings A ≢ 0) (sym q) (λ m. crossed m.assignment A m.proper m.head)

redex_crossed : {P : Process} → HasRedex P → AllRules (λ r. r ≡ join_from_membrane) P → crossings P ≢ 0
redex_crossed (at_top {r = r} {A = A} m) h = λ e. matched r A h.0.1 m (omega arith)
redex_crossed (in_membrane d) h = λ e. redex_crossed d h.0 (omega arith)

inner_link : Process
inner_link = together (membrane (together (atom label_a (0 ∷ []) ∷ atom label_b (0 ∷ []) ∷ [])) ∷ rule join_from_membrane ∷ [])

no_step : (Q : Process) → ¬ (Step inner_link Q)
unfolding inner_link
no_step Q s =
    let k = step_shows s in
    redex_crossed k.redex ((kept_rules (λ r. r ≡ join_from_membrane) k.congruent).0 ((tt, (tt, tt)), (refl, tt))) (sym (same_crossings k.congruent))

-- a link that stays inside a membrane doesn't match two that leave it
pub inner_link_stays : InnerLinkStays
unfolding inner_link
inner_link_stays = (no_step, no_connector_settled inner_link ((tt, (tt, tt)), (tt, tt)))
