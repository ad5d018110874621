-- What obeys a script beside a program.
use Rattle.std.proofs.Common.{◌≡◌, ◌≤◌, ◌<◌, ℕ, List, Option, Some, Result, Ok, Err, length, refl, sym, subst, inr, arith}
use Rattle.lmn_app_accepted.specs.Loading.{AcceptedAreNamed, AcceptedAreNamedBehind}
use Rattle.lmn_adequacy.proofs.PlainSolids.{solids_of_plains_exist}
use Rattle.lmn_base.specs.declared.rule.Plain.{Plain}
use Rattle.lmn_base.specs.declared.solid.Solid.{Solid}
use Rattle.lmn_base.specs.Names.{IsNames}
use Rattle.lmn_base.specs.Solids.{item_count}
use Rattle.lmn_congruence.specs.Plains.{SolidOf}
use Rattle.lmn_congruence.specs.Regions.{item_count_of_region}
use Rattle.lmn_congruence.specs.Rules.{Name}
use Rattle.lmn_congruence.specs.SolidsOfPlains.{IsSolidOf}
use Rattle.lmn_congruence.specs.Translation.{top_of}
use Rattle.lmn_congruence.proofs.SolidsOfPlains.{solids_of_plains}
use Rattle.lmn_congruence.proofs.TranslatedItems.{items_kept}
use Rattle.lmn_debug.specs.Courses.{course}
use Rattle.lmn_debug.specs.Debugged.{CountsObeyed, Debugged}
use Rattle.lmn_debug.specs.declared.debugging.DebugFault.{DebugFault}
use Rattle.lmn_debug.specs.declared.debugging.DebugFault.TheVariants as session
use Rattle.lmn_instr_reading.specs.Reading.{AddsNames}
use Rattle.lmn_guards.specs.declared.plan.GuardPlan.{GuardPlan}
use Rattle.lmn_store_heap.specs.Heap.{Heap}
use Rattle.lmn_io.specs.Counts.{Faults}
use Rattle.lmn_schedule_loading.specs.Loaded.{LoadCauses}
use Rattle.lmn_schedule_loading.specs.declared.loading.LoadFault.TheVariants.{Size}
use Rattle.lmn_order.specs.declared.order.Order.TheVariants.{First}
use Rattle.lmn_order.specs.Orders.{chosen}
use Rattle.lmn_app_runs.specs.Laws.{solid_of}
use Rattle.lmn_schedule.specs.Held.{AreNames, CanBeLoaded, HoldsSolid}
use Rattle.lmn_debug_script.specs.declared.order.Order.{Order}
use Rattle.lmn_debug_script.specs.Scripts.{AreOrdersOf}
use Rattle.lmn_app_words.specs.declared.command.PairKind.TheVariants.{Debug}
use Rattle.lmn_app_words.specs.Forms.{Pair, to_pair}
use Rattle.lmn_app_single.specs.declared.ending.Ending.TheVariants.{Refused}
use Rattle.lmn_app.specs.Debugs.{IsSession, session_size}
use Rattle.lmn_app.specs.Outcomes.{RequestEnded}
use Rattle.lmn_app.specs.Pairs.{HasProgram, most_items_of_pair}
use Rattle.lmn_app.specs.Runnings.{EndsDebugged, obeyed_as}
use Rattle.lmn_app.specs.Seconds.{ReadsBoth}
use Rattle.lmn_app_single.specs.Texts.{Accepts, IsRefusal, IsTooLarge, at_start, too_large}
use Rattle.lmn_app_single.specs.Writing.{IsToldAnd, told_under}
use Rattle.lmn_app.proofs.PairLemmas.{has_session}
use Rattle.lmn_app.proofs.RequestLemmas.{pair_refused}

-- few items of a heap that holds the solid of a plain, where few are of each of its solids
pub few_held : (names : List Name) (plain : Plain) (h : Heap) (size : ℕ) → ((s : Solid) → IsSolidOf plain s → item_count s ≤ size) → (held : HoldsSolid names plain h) → item_count_of_region held.solid ≤ size
few_held names plain h size few held =
    let from = held.from in
    let one = few from.0 from.1 in
    subst (λ S. item_count_of_region S ≤ size) (sym from.2) (omega (arith, one, items_kept names plain.rules from.0))

-- an accepted program of which an engine holds the solid is that of `debug`
abbrev pub loaded_program : AcceptedAreNamed → (p : Pair) (texts : Option (List ℕ → Option (List ℕ))) (program : List ℕ) → IsToldAnd (told_under texts p.file) (λ found. found ≡ program)
    → (names : List Name) (plain : Plain) (plans : List GuardPlan) → Accepts program names plain plans → p.kind ≡ Debug → (h : Heap) → ((by : List Name) → AreNames by plain → HoldsSolid by plain h)
    → ((s : Solid) → IsSolidOf plain s → item_count s ≤ session_size) → HasProgram p texts
loaded_program named p texts program told names plain plans a kind h holds few =
    let held = holds names (named program names plain plans a.named a.accepted) in
    has_session p texts program told names plain plans a kind (held.solid, held.of_plain, few_held names plain h session_size few held)

-- ---- a session

module _ (behind : AcceptedAreNamedBehind) (program script : List ℕ) (names : List Name) (plain : Plain) (plans : List GuardPlan) (a : Accepts program names plain plans) (later : List Name)
    (adds : AddsNames (length script) names later) (once : IsNames later) where
  abbrev both : ReadsBoth program script
  both = record { names = names; plain = plain; plans = plans; accepted = a; later = later; adds = adds; once = once }

  named : AreNames later plain × (top_of later plain ≡ top_of names plain)
  named = subst (λ xs. AreNames xs plain × (top_of xs plain ≡ top_of names plain)) (sym adds.are) (behind program names adds.more plain plans a.named a.accepted (subst IsNames adds.are once))

  -- the list behind the script has the names of the program
  pub named_later : AreNames later plain
  named_later = let n = named in n.0

  module _ (h : Heap) (few : (s : Solid) → IsSolidOf plain s → item_count s ≤ session_size) (held : HoldsSolid later plain h) (orders : List Order) (are : AreOrdersOf later script orders) where
    abbrev the_session : IsSession program script
    the_session =
        let holds = held.holds in
        let n = named in
        record {
          of = both;
          solid = held.solid;
          of_plain = subst (λ t. SolidOf t held.solid) n.1 held.of_plain;
          numbered = holds.numbered;
          few = few_held later plain h session_size few held;
          orders = orders;
          are = are;
        }

    -- its orders ended so
    pub debugged_ended : {A : Type 0} (end : Result A DebugFault) (old new : Option (List ℕ)) (before after : Faults) → Debugged later (course (chosen First) session_size held.solid) orders end old new
        → CountsObeyed end before after → EndsDebugged program script (obeyed_as end) old new before after
    debugged_ended (Ok done) old new before after d counts = ((d.0, (the_session, d.1), d.2), counts)
    debugged_ended (Err session.NoMemory) old new before after d counts = (inr (d.0, (the_session, d.1), d.2), counts)
    debugged_ended (Err session.Failed) old new before after d counts = ((d.0, (the_session, d.1), d.2), counts)

-- a program whose process has too many items is refused
pub large_refused : (p : Pair) (texts : Option (List ℕ → Option (List ℕ))) (program : List ℕ) (names : List Name) (plain : Plain) (plans : List GuardPlan) (k : ℕ) → most_items_of_pair p.kind ≡ Some session_size → Accepts program names plain plans
    → IsToldAnd (told_under texts p.file) (λ found. found ≡ program) → CanBeLoaded plain plans → LoadCauses plain session_size (Size k) → (x : Option (List ℕ)) (count : Faults) (f g : List ℕ → ℕ)
    → RequestEnded (to_pair p) (Refused (at_start 50)) texts x x count count f g
large_refused p texts program names plain plans k kind a told can causes x count f g =
    let s = solids_of_plains_exist plain can.made can.closed in
    let large = causes s.0 s.1 in
    let more : session_size < item_count_of_region (solid_of names plain s.0) = omega (arith, large.0, items_kept names plain.rules s.0) in
    let is_large : IsTooLarge (Some session_size) names plain = (solid_of names plain s.0, solids_of_plains names plain s.0 can.made s.1, more) in
    pair_refused p (at_start 50) texts x count f g
    (record { text = program; is_told = told; refused = subst (λ size. IsRefusal size program (at_start 50)) (sym kind) (too_large names plain plans a is_large refl); code = refl })
