-- A script orders a session over a program, or is refused.
use Rattle.std.proofs.Common.{◌≤◌, ℕ, List, inl, inr, arith}
use Rattle.lmn_app_accepted.specs.Rules.{AcceptedTexts}
use Rattle.lmn_base.specs.declared.rule.Plain.{Plain}
use Rattle.lmn_base.specs.declared.solid.Solid.{Solid}
use Rattle.lmn_base.specs.Solids.{item_count}
use Rattle.lmn_congruence.specs.Rules.{Name}
use Rattle.lmn_congruence.specs.SolidsOfPlains.{IsSolidOf}
use Rattle.lmn_congruence.proofs.SolidsOfPlains.{solids_of_plains}
use Rattle.lmn_congruence.proofs.TranslatedItems.{items_kept}
use Rattle.lmn_guards.specs.declared.plan.GuardPlan.{GuardPlan}
use Rattle.lmn_app_runs.specs.Laws.{solid_of}
use Rattle.lmn_debug_script.specs.Laws.{HasOrders, SomeOrdersOrWrong}
use Rattle.lmn_app.specs.DebugLaws.{SessionOrRefused}
use Rattle.lmn_app.specs.Debugs.{IsSession, session_size}
use Rattle.lmn_app_single.specs.Texts.{Accepts}
use Rattle.lmn_app_single.proofs.ListLemmas.{plain_named}
use Rattle.lmn_app_single.proofs.PlainRegions.{region_is_numbered, solid_with_items}

-- an accepted program has a session by the orders that a script has behind its names
session_by : AcceptedTexts → (program script : List ℕ) (names : List Name) (plain : Plain) (plans : List GuardPlan) → Accepts program names plain plans → (s : Solid) → IsSolidOf plain s → item_count s ≤ session_size
    → HasOrders names script → IsSession program script
session_by laws program script names plain plans a s i few h =
    let made = laws.made program names plain plans a.accepted in
    record {
      of = record { names = names; plain = plain; plans = plans; accepted = a; later = h.later; adds = h.added; once = h.are };
      solid = solid_of names plain s;
      of_plain = solids_of_plains names plain s made i;
      numbered = region_is_numbered names plain made s i;
      few = omega (arith, few, items_kept names plain.rules s);
      orders = h.orders;
      are = h.ordered;
    }

pub session_or_refused : AcceptedTexts → SomeOrdersOrWrong → SessionOrRefused
session_or_refused laws some program script (names, plain, plans, a, (S, of, few)) =
    let made = laws.made program names plain plans a.accepted in
    let s = solid_with_items names plain made S of in
    let small : item_count s.0 ≤ session_size = omega (arith, few, s.2) in
    elim (some names script (plain_named laws program names plain plans a).0) [
      | inl has ↦ inl (session_by laws program script names plain plans a s.0 s.1 small has)
      | inr wrong ↦ inr wrong
    ]
