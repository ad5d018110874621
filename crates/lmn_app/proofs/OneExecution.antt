-- A run by the listing that is written of a program is a run of the program.
use Rattle.std.proofs.Common.{◌≡◌, ◌≤◌, ◌*◌, ◌++◌, ◌∙◌, ℕ, zero, suc, List, [], ◌∷◌, Some, length, slice_get, refl, sym, ap, subst, inl, inr, arith}
use Rattle.std.specs.declared.alloc.Global.{Global}
use Rattle.std.proofs.lemmas.Option.{same_Some}
use Rattle.lmn_app_accepted.proofs.Loadable.{loadable}
use Rattle.lmn_app_accepted.specs.Loading.{AcceptedAreNamedBehind}
use Rattle.lmn_base.specs.declared.rule.RuleTree.{RuleTree}
use Rattle.lmn_base.specs.Names.{IsNames}
use Rattle.lmn_adequacy_heaps.specs.Laws.{SolidsAreRegions}
use Rattle.lmn_verify_coded.specs.Laws.{HeapsRunAsSolids, IsValidHeapOf, TablesRunAsRules, given_by_codes}
use Rattle.lmn_compile_rules.specs.Compiled.{AreCompiled}
use Rattle.lmn_congruence.specs.Plains.{SolidOf}
use Rattle.lmn_congruence.specs.Translation.{top_of}
use Rattle.lmn_app_drive.specs.Driving.{Drove, stop_end}
use Rattle.lmn_app_runs.specs.Runs.{end_line, word_of_stop}
use Rattle.lmn_app_runs.specs.declared.stop.Stop.{Stop}
use Rattle.lmn_app_runs.specs.declared.stop.Stop.TheVariants as stop
use Rattle.lmn_base.specs.declared.solid.Solid.{Solid}
use Rattle.lmn_base.specs.Solids.{item_count}
use Rattle.lmn_congruence.specs.SolidsOfPlains.{IsSolidOf}
use Rattle.lmn_store_heap.specs.Heap.{Heap}
use Rattle.lmn_store_heap.specs.Sound.{Valid}
use Rattle.lmn_schedule_loading.specs.Loaded.{IsLoaded}
use Rattle.lmn_schedule_strategy.specs.Quieting.{AllAwake}
use Rattle.lmn_verify_coded.specs.Runs.{Executed}
use Rattle.lmn_guards.specs.declared.plan.GuardPlan.{GuardPlan}
use Rattle.lmn_instr_code.specs.declared.instr.Code.{Code}
use Rattle.lmn_compile_listing.specs.Listings.{rule_code, rule_codes, rule_listings}
use Rattle.lmn_verify_compiled.specs.Laws.{AcceptedCanBeListed}
use Rattle.lmn_schedule_loading.specs.Laws.{LoadedRules, LoadingSettles}
use Rattle.lmn_schedule.specs.Held.{AreNames}
use Rattle.lmn_schedule.proofs.Loaded.{can_run, holds_solid}
use Rattle.lmn_adequacy_turns.specs.Commits.{PlainsAreTables}
use Rattle.lmn_verify_compiled.specs.CompiledListings.{CompiledAreRead, CompiledIsNotRefused}
use Rattle.lmn_verify_listing.specs.Listings.{AreListed, IsRefusedListing}
use Rattle.lmn_app_single.specs.declared.task.Task.TheVariants as task
use Rattle.lmn_app.specs.ExecLaws.{CompiledIsNotWrong, CompiledRunsAsRun}
use Rattle.lmn_app.specs.Executions.{ReadsCodes, executed_size, run_by_default}
use Rattle.lmn_app_single.specs.Outcomes.{Output}
use Rattle.lmn_app.specs.Runnings.{HeapsAreExecuted, coded_input}
use Rattle.lmn_app_single.specs.Writing.{IsListing, WritesRun}
use Rattle.lmn_app_single.proofs.DriveLemmas.{driven_writes}
use Rattle.lmn_app.proofs.ExecLemmas.{all_verified}
use Rattle.lmn_app.proofs.OneListing.{one_listing}
use Rattle.lmn_app_single.proofs.PlainRegions.{solid_with_region}
use Rattle.lmn_app_single.proofs.RunLemmas.{Laws}

-- the laws that it takes
pub record Grounds : Type 0 where
  pub laws : Laws
  pub behind : AcceptedAreNamedBehind
  pub settles : LoadingSettles
  pub rules : LoadedRules
  pub tables : PlainsAreTables
  pub alike : SolidsAreRegions
  pub codes : TablesRunAsRules
  pub read : CompiledAreRead
  pub listed : AcceptedCanBeListed

-- the code of a rule with its plan
code_at : (table : List RuleTree) (plans : List GuardPlan) (k : ℕ) (r : RuleTree) (plan : GuardPlan) (code : Code) → slice_get table k ≡ Some r → slice_get plans k ≡ Some plan
    → slice_get (rule_codes table plans) k ≡ Some code → rule_code r plan ≡ code
code_at [] plans k r plan code a b e = absurd (cc)
code_at (t ∷ table) [] k r plan code a b e = absurd (cc)
code_at (t ∷ table) (p ∷ plans) zero r plan code a b e = (λ i. rule_code (sym (same_Some t r a) i) (sym (same_Some p plan b) i)) ∙ same_Some (rule_code t p) code e
code_at (t ∷ table) (p ∷ plans) (suc k) r plan code a b e = code_at table plans k r plan code a b e

codes_compiled : (table : List RuleTree) (plans : List GuardPlan) → length (rule_codes table plans) ≡ length table → AreCompiled table plans (rule_codes table plans)
codes_compiled table plans many = record {
  many = many;
  each = λ k r plan code a b e. let is = code_at table plans k r plan code a b e in record { head = sym (ap (λ (c : Code). c.head) is); body = sym (ap (λ (c : Code). c.body) is) };
}

-- what is written by a listing of the program, over a heap, is what a run of it writes
compiled_writes : Grounds → (alloc : Global) (program listing : List ℕ) (of : ReadsCodes program listing) (first : Heap) → IsLoaded of.plain first → AllAwake first
    → ((s : Solid) → IsSolidOf of.plain s → item_count s ≤ executed_size) → (n : ℕ) (last : Heap) → Valid last → (why : Stop) (written : List ℕ)
    → Executed (coded_input of.later of.plain of.codes first) n last (stop_end why) (Some []) (Some written) → IsListing program listing
    → WritesRun run_by_default (Some (Some program)) why (Some []) (Some written)
compiled_writes g alloc program listing of first loaded awake few n last valid why written ran is =
    let laws = g.laws in
    let a = of.accepted in
    let adds = of.adds in
    let short = a.short in
    let can = g.listed program of.names of.plain of.plans (omega (arith, short)) a.named a.accepted in
    let once = of.once in
    let are = of.are in
    let named = subst (λ xs. AreNames xs of.plain × (top_of xs of.plain ≡ top_of of.names of.plain)) (sym adds.are)
    (g.behind program of.names adds.more of.plain of.plans a.named a.accepted (subst IsNames adds.are once)) in
    let load = loadable laws.accepted program of.names of.plain of.plans a.named a.accepted in
    let held = holds_solid g.settles g.rules g.tables g.alike of.later of.plain first load.made loaded named.0 in
    let holds = held.holds in
    let same : listing ≡ rule_listings of.names of.plain.rules of.plans =
    one_listing program listing (rule_listings of.names of.plain.rules of.plans) is (record { names = of.names; plain = of.plain; plans = of.plans; accepted = a; is = refl }) in
    let codes : rule_codes of.plain.rules of.plans ≡ of.codes =
    g.read of.names of.plain of.plans (3 * length listing) of.later of.codes can once.once adds (subst (AreListed (length of.plain.rules) of.later of.codes) same are) in
    let compiled : AreCompiled of.plain.rules of.plans of.codes =
    subst (AreCompiled of.plain.rules of.plans) codes (codes_compiled of.plain.rules of.plans (ap length codes ∙ are.many)) in
    let turn = can_run g.rules of.plain of.plans of.codes first executed_size load.made load.plans_are loaded compiled (omega arith) awake in
    let input = coded_input of.later of.plain of.codes first in
    let drove = g.codes input held.solid turn holds n last (stop_end why) (Some []) (Some written) valid ran in
    let s = solid_with_region of.names of.plain load.made held.solid (subst (λ t. SolidOf t held.solid) named.1 held.of_plain) holds.numbered in
    driven_writes alloc laws run_by_default program of.names of.plain of.plans a s.0 s.1 (few s.0 s.1) of.later n last why (Some []) (Some written)
    (subst (λ S. Drove (given_by_codes input S) n last (stop_end why) (Some []) (Some written)) s.2 drove)

-- What was run of the codes of a listing is an execution.
pub heaps_are_executed : Grounds → HeapsRunAsSolids → HeapsAreExecuted
heaps_are_executed g solids alloc program listing of first loaded awake few n last end old new valid e =
    let are = of.are in
    let here : IsValidHeapOf first loaded.solid = record { valid = loaded.valid; unmarked = loaded.unmarked; solid = loaded.of_heap } in
    let x = solids (coded_input of.later of.plain of.codes first) (all_verified (length of.plain.rules) of.codes are.many of.verified) loaded.solid here n last end old new e in
    let written = e.line ++ end_line (word_of_stop e.why) n in
    record {
      why = e.why;
      written = written;
      executed = record {
        of = of;
        first = loaded.solid;
        of_plain = loaded.of_plain;
        few = few loaded.solid loaded.of_plain;
        commits = n;
        ran = x.0;
        is = ap (λ l. l ++ end_line (word_of_stop e.why) n) x.1;
        as_run = λ is. compiled_writes g alloc program listing of first loaded awake few n last valid e.why written
            (record { why = e.why; stopped = e.stopped; line = e.line; is_line = e.is_line; wrote = inl (refl, refl) }) is;
      };
      wrote = e.wrote;
    }

-- so what is written by a listing of the program is what a run of it writes
pub compiled_runs_as_run : CompiledRunsAsRun
compiled_runs_as_run program listing written stop.Irreducible ending e is x = subst (λ d. Output (task.Run run_by_default) d (Some (Some program)) (Some []) (Some written)) (sym e) (x.as_run is)
compiled_runs_as_run program listing written stop.Budget ending e is x = subst (λ d. Output (task.Run run_by_default) d (Some (Some program)) (Some []) (Some written)) (sym e) (x.as_run is)
compiled_runs_as_run program listing written stop.Full ending e is x = subst (λ d. Output (task.Run run_by_default) d (Some (Some program)) (Some []) (Some written)) (sym e) (x.as_run is)
compiled_runs_as_run program listing written stop.NoMemory ending e is x = subst (λ d. Output (task.Run run_by_default) d (Some (Some program)) (Some []) (Some written)) (sym e) (inr (x.as_run is))

-- and that listing isn't refused
pub compiled_is_not_wrong : AcceptedCanBeListed → CompiledIsNotRefused → CompiledIsNotWrong
compiled_is_not_wrong listed refused program listing refusal is x =
    let a = x.accepted in
    let short = a.short in
    let can = listed program x.names x.plain x.plans (omega (arith, short)) a.named a.accepted in
    let same : listing ≡ rule_listings x.names x.plain.rules x.plans =
    one_listing program listing (rule_listings x.names x.plain.rules x.plans) is (record { names = x.names; plain = x.plain; plans = x.plans; accepted = a; is = refl }) in
    refused x.names x.plain x.plans (3 * length listing) x.later refusal.code refusal.pos.line can x.once.once x.adds
    (subst (λ text. IsRefusedListing (length x.plain.rules) x.names x.later text refusal.code refusal.pos.line) same x.wrong)
