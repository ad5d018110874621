-- The code of each accepted rule is verified, clause by clause.
use Rattle.std.proofs.Common.{◌≡◌, ◌<◌, ℕ, suc, true, List, [], ◌∷◌, length, refl, sym, subst, arith}
use Rattle.std.specs.Prelude.{Some, slice_get, All}
use Rattle.std.specs.List.{AllByRecursion}
use Rattle.lmn_base.proofs.Lists.{get_below, get_there}
use Rattle.lmn_base.specs.Levels.{rules_of}
use Rattle.lmn_instr_code.specs.declared.instr.Code.{Code}
use Rattle.lmn_compile_head.specs.Accepted.{head_items, AcceptedHeads}
use Rattle.lmn_compile_body.specs.Accepted.{AcceptedNested}
use Rattle.lmn_machine_laws.specs.AcceptedCode.{AcceptedInOrder, AcceptedSetsItems}
use Rattle.lmn_schedule_strategy.specs.Turns.{BodiesAreReady}
use Rattle.lmn_verify_code.specs.Verified.{IsVerified, all_looked_at, finds_first, is_head, each_two, are_apart, are_apart_membranes, atoms_found, membranes_found}
use Rattle.lmn_verify_compiled.specs.AcceptedCodes.{AcceptedIsVerified, TablesAreVerified}
use Rattle.lmn_verify_compiled.proofs.HeadShapes.{head_code_is_head, head_code_looks, head_code_finds_first}
use Rattle.lmn_verify_compiled.proofs.Apart.{head_code_tells_apart, head_code_tells_membranes_apart}
use Rattle.lmn_verify_compiled.proofs.Accepted.{accepted_is_verified_for, accepted_bodies_rest}
use Rattle.lmn_verify_compiled.proofs.AcceptedPorts.{accepted_names_ports}
use Rattle.lmn_verify_compiled.proofs.AcceptedOnce.{accepted_stands_once}
use Rattle.lmn_verify_compiled.proofs.AcceptedEmptied.{accepted_is_emptied}

pub accepted_is_verified : AcceptedHeads → AcceptedNested → AcceptedInOrder → AcceptedSetsItems → BodiesAreReady → AcceptedIsVerified
accepted_is_verified heads nested head_order sets bodies table r plan code k whole compiled rules =
    let items = head_items r plan in
    let most = accepted_is_verified_for heads head_order sets bodies table r plan code whole compiled in
    record {
      order = most.order;
      looked_at = subst (λ t. all_looked_at t ≡ true) (sym compiled.head) (head_code_looks items r.guard);
      first = subst (λ t. finds_first t ≡ true) (sym compiled.head) (head_code_finds_first items r.guard);
      integers = most.integers;
      few = most.few;
      ports = accepted_names_ports nested table r plan code whole compiled;
      head = subst (λ t. is_head t ≡ true) (sym compiled.head) (head_code_is_head items r.guard);
      apart = subst (λ t. each_two (are_apart t) (atoms_found t) ≡ true) (sym compiled.head) (head_code_tells_apart items r.guard);
      apart_membranes = subst (λ t. each_two (are_apart_membranes t) (membranes_found t) ≡ true) (sym compiled.head) (head_code_tells_membranes_apart items r.guard);
      taken = most.taken;
      rest = accepted_bodies_rest heads nested table r plan code k whole compiled rules;
      emptied = accepted_is_emptied nested table r plan code whole compiled;
      once = accepted_stands_once heads nested table r plan code whole compiled;
    }

-- what holds of that with each number holds of all
each : (P : Code → Type 0) (xs : List Code) → ((k : ℕ) (x : Code) → slice_get xs k ≡ Some x → P x) → AllByRecursion P xs
each P [] h = tt
each P (x ∷ xs) h = (h 0 x refl, each P xs (λ k y e. h (suc k) y e))

pub tables_are_verified : AcceptedIsVerified → TablesAreVerified
tables_are_verified accepted codes is = each (λ c. IsVerified c (length codes)) codes (λ k code e.
    let many = is.compiled.many in
    let plans = is.whole.many in
    let below = get_below codes k code e in
    let r = get_there is.table k (omega (arith, many, below)) in
    let plan = get_there is.plans k (omega (arith, many, plans, below)) in
    let rules = subst (λ n. All (λ j. j < n) (rules_of r.0.body)) (sym many) (is.inner k r.0 r.1) in
    accepted is.table r.0 plan.0 code (length codes) (is.whole.whole k r.0 plan.0 r.1 plan.1) (is.compiled.each k r.0 plan.0 code r.1 plan.1 e) rules)
