-- A firing of an embedded rule, anywhere in a solid, as a step.
use Rattle.std.proofs.Common.{ℕ, List, sym, subst, arith, ◌≡◌, ◌≤◌, ◌⊎◌, []}
use Rattle.lmn_congruence.specs.Congruence.{same}
use Rattle.lmn_congruence.specs.FreeLinks.{link_bound}
use Rattle.lmn_congruence.specs.Fused.{Joins, fused}
use Rattle.lmn_congruence.specs.LinkedRules.{level_occurrences}
use Rattle.lmn_congruence.specs.Orders.{Put}
use Rattle.lmn_congruence.specs.Process.{Closed, Linked, Process, membrane, nothing, occurrences, pair, renamed}
use Rattle.lmn_congruence.specs.Regions.{Region, Regions, SolidAtom, region, region_process}
use Rattle.lmn_congruence.specs.Rules.{Leaf, Levels, Rule, body_of, guard_of, head_of, level, no_rule}
use Rattle.lmn_congruence.specs.UpToOrder.{Reordered, r_back, r_beside, r_chain, r_inside, r_regroup, r_same, r_swap}
use Rattle.lmn_reduction.specs.Assignments.{Assignment}
use Rattle.lmn_reduction.specs.Commits.{Commit, Settles, already}
use Rattle.lmn_reduction.specs.Firing.{typed_contexts}
use Rattle.lmn_reduction.specs.Guards.{GuardHolds}
use Rattle.lmn_reduction.specs.Instances.{Instance}
use Rattle.lmn_reduction.specs.Steps.{Step, beside as derived_beside, inside as derived_inside, up_to}
use Rattle.lmn_congruence.proofs.Counts.{linked_as, linked_both, linked_left}
use Rattle.lmn_congruence.proofs.LinkMaps.{closed_leaves, closed_linked, joins_plain}
use Rattle.lmn_reduction.proofs.Plains.{solids_settled}
use Rattle.lmn_congruence.proofs.Reordered.{r_right, reordered_congruent, reordered_count}
use Rattle.lmn_reduction.proofs.SettledForms.{settles_fused}
use Rattle.lmn_reduction.proofs.SettledProcesses.{towards_joined}
use Rattle.lmn_congruence.proofs.Solids.{put_together, region_plain}
use Rattle.lmn_adequacy.specs.Embedding.{AllRules, TakenRegion}
use Rattle.lmn_adequacy.specs.Loose.{LevelImages, Plain, level_images}
use Rattle.lmn_adequacy.proofs.Firings.{K, after, after_closed, joins_here, kept_fused, order_here, raw_link, steps_to}
use Rattle.lmn_adequacy.proofs.Heads.{Bare, region_there, rule_there}
use Rattle.lmn_adequacy.proofs.Orders.{region_put}
use Rattle.lmn_adequacy.proofs.RawProcesses.{FusesTo, NextUpToOrder, Raw, head_wires, made, raw_below, raw_here}
use Rattle.lmn_adequacy.proofs.Skeleton.{level_skeleton}
use Rattle.lmn_congruence_splice.specs.Splice.{of_solid}

-- What a firing that gives the raw process P makes of the process of S, beside O.
pub record Made (S : Region) (P O : Process) : Type 0 where
  pub process : Process
  pub number : ℕ
  pub above : link_bound O ≤ number
  pub step : Step (region_process S) process
  pub linked : Linked (pair process O)
  pub closed : Closed (pair process O)
  pub joins : (v : ℕ → ℕ) → Joins v P → Joins (λ z. v (raw_link number z)) process
  pub order : (v : ℕ → ℕ) → Joins v P → Reordered (fused (λ z. v (raw_link number z)) process) (fused v P)

fired : (t : Assignment) (p : Plain t) (r : Rule) (leaves : List Leaf) (membranes : Levels) (bare : head_of r ≡ level leaves membranes [] [] no_rule) (guard : GuardHolds (typed_contexts (head_of r)) t (guard_of r))
    {f : List ℕ} {xs : List SolidAtom} {ms : Regions} {rs rs' : List Rule} {rest : Region} → LevelImages t (level leaves membranes [] [] no_rule) f (region xs ms rs) rest → Put r rs' rs
    → (B : Process) → Instance (made t) (body_of r) B → (bound : ℕ) → ((x : ℕ) → bound ≤ x → level_occurrences x (head_of r) ≡ 0) → (O : Process) → Closed (pair (region_process (region xs ms rs)) O)
    → Closed (pair (pair B (pair (head_wires t (head_of r) bound) (renamed of_solid (region_process rest)))) (renamed of_solid O))
    → Made (region xs ms rs) (pair B (pair (head_wires t (head_of r) bound) (renamed of_solid (region_process rest)))) O
fired t p r leaves membranes bare guard {rs' = rs'} (level_images {xs = xs} {xs'' = ys} {ms = ms} {ms' = ns} {rs = rs} i j k) stands B is_body bound bounded O c d =
    let S = region xs ms rs in
    let u = level_skeleton t p (level_images {contexts = []} {rule_contexts = []} {rules = no_rule} {rs = rs} i j k) in
    let w : Linked (pair (region_process S) O) = closed_linked c in
    let l : Linked (region_process S) = linked_left w in
    let d' : Closed (pair (after t p r leaves membranes bare guard S ys ns rs rs' u stands l (link_bound O) B) O) = after_closed t p r leaves membranes bare guard S ys ns rs rs' u stands l (link_bound O) B O bound bounded c d (omega arith) in
    let a : Linked (pair (after t p r leaves membranes bare guard S ys ns rs rs' u stands l (link_bound O) B) O) = closed_linked d' in
    record {
      process = after t p r leaves membranes bare guard S ys ns rs rs' u stands l (link_bound O) B;
      number = K t p r leaves membranes bare guard S ys ns rs rs' u stands l (link_bound O);
      above = omega arith;
      step = steps_to t p r leaves membranes bare guard S ys ns rs rs' u stands l (link_bound O) B is_body (linked_left a);
      linked = a;
      closed = d';
      joins = λ v j. joins_here t p r leaves membranes bare guard S ys ns rs rs' u stands l (link_bound O) B bound bounded v j;
      order = λ v j. order_here t p r leaves membranes bare guard S ys ns rs rs' u stands l (link_bound O) B bound bounded v j;
    }

-- a process in which each link occurs as often as in a closed one is closed
pub closed_as : (P Q : Process) → ((z : ℕ) → occurrences z P ≡ occurrences z Q) → Closed P → Closed Q
closed_as P Q h c = λ z. subst (λ k. (k ≡ 0) ⊎ (k ≡ 2)) (h z) (c z)

-- a membrane steps out of its region
pub region_out : (xs : List SolidAtom) (rs : List Rule) {n : ℕ} {m : Region} {ms ms' : Regions} → TakenRegion n m ms ms' → Reordered (region_process (region xs ms rs)) (pair (membrane (region_process m)) (region_process (region xs ms' rs)))
region_out xs rs k = r_chain (r_right (r_chain (r_beside (r_back (put_together (region_put k)))) (r_back r_regroup))) (r_chain r_regroup (r_chain (r_beside r_swap) (r_back r_regroup)))

-- Each firing of an embedded rule is a step, to a process that is read as the raw one.
pub raw_made : {S : Region} {P : Process} → Raw S P → AllRules Bare S → (O : Process) → Closed (pair (region_process S) O) → Closed (pair P (renamed of_solid O)) → Made S P O
raw_made (raw_here {r = r} {f = f} {xs = xs} {ms = ms} {rs = rs} {rs' = rs'} {P = P} F stands) h O c d =
    let b = rule_there Bare h.0 stands in
    let e = F.at in
    let i : LevelImages e.assignment (level b.leaves b.membranes [] [] no_rule) f (region xs ms rs) e.rest = subst (λ k. LevelImages e.assignment k f (region xs ms rs) e.rest) b.is e.images in
    subst (λ Q. Made (region xs ms rs) Q O) (sym F.is) (fired e.assignment e.plain r b.leaves b.membranes b.is e.guard i stands F.body F.is_body F.bound F.bounded O c (subst (λ Q. Closed (pair Q (renamed of_solid O))) F.is d))
raw_made (raw_below {m = m} {xs = xs} {ms = ms} {ms' = ms'} {rs = rs} {P = P} k R) h O c d =
    let S = region xs ms rs in
    let Q = region_process (region xs ms' rs) in
    let out = region_out xs rs k in
    let c' : Closed (pair (region_process m) (pair Q O)) = closed_as (pair (region_process S) O) (pair (region_process m) (pair Q O)) (λ z. omega (arith, reordered_count out z)) c in
    let d' : Closed (pair P (renamed of_solid (pair Q O))) = closed_as (pair (pair (membrane P) (renamed of_solid Q)) (renamed of_solid O)) (pair P (renamed of_solid (pair Q O))) (λ z. omega arith) d in
    let i = raw_made R (region_there Bare h.1 k) (pair Q O) c' d' in
    let w : Linked (pair (region_process S) O) = closed_linked c in
    let l : Linked (region_process S) = linked_left w in
    let e = reordered_congruent out l in
    let a : Linked (pair (membrane i.process) Q) = record { at_most_twice = λ z. omega (arith, i.linked.at_most_twice z) } in
    let low : link_bound Q ≤ i.number = omega (arith, i.above) in
    record {
      process = pair (membrane i.process) Q;
      number = i.number;
      above = omega (arith, i.above);
      step = up_to e (derived_beside (derived_inside i.step) (linked_both e).1 a) (same a);
      linked = record { at_most_twice = λ z. omega (arith, i.linked.at_most_twice z) };
      closed = closed_as (pair i.process (pair Q O)) (pair (pair (membrane i.process) Q) O) (λ z. omega arith) i.closed;
      joins = λ v j. (i.joins v j.0, joins_plain (λ z. v (raw_link i.number z)) Q (region_plain (region xs ms' rs)));
      order = λ v j. r_chain (r_beside (r_inside (i.order v j.0))) (r_right (r_same (kept_fused v i.number Q low)));
    }

-- ---- the law of firing

-- a closed process is closed beside nothing
pub beside_nothing : (P : Process) → Closed P → Closed (pair P nothing)
beside_nothing P c = closed_as P (pair P nothing) (λ z. omega arith) c

-- what a firing makes of a solid, beside nothing
pub next_made : (S S' : Region) → Closed (region_process S) → AllRules Bare S → (n : NextUpToOrder S S') → Made S n.raw nothing
next_made S S' c h n = raw_made n.fires h nothing (beside_nothing (region_process S) c) (beside_nothing n.raw n.closed)

-- Where a firing gives a raw process in which each link has two places, a step is possible.
pub next_steps : (S S' : Region) → Closed (region_process S) → AllRules Bare S → NextUpToOrder S S' → (Q : Process) × Step (region_process S) Q
next_steps S S' c h n = let m = next_made S S' c h n in (m.process, m.step)

-- What the firing makes settles to the next solid.
pub made_settles : (S S' : Region) (P : Process) (m : Made S P nothing) → FusesTo P S' → Settles m.process (region_process S')
made_settles S S' P m f =
    let c : Closed m.process = closed_as (pair m.process nothing) m.process (λ z. omega arith) m.closed in
    let v : ℕ → ℕ = λ z. f.to (raw_link m.number z) in
    let o : Reordered (fused v m.process) (region_process S') = r_chain (m.order f.to f.joins) f.order in
    let l : Linked (region_process S') = closed_linked f.closed in
    let k : Linked (fused v m.process) = linked_as (λ z. sym (reordered_count o z)) l in
    let s = settles_fused v m.process (closed_linked c) (m.joins f.to f.joins) (closed_leaves v m.process c) k in
    record { settled = solids_settled S'; towards = towards_joined s.towards (already (reordered_congruent o k)) }

-- The firing is a commit.
pub next_commits : (S S' : Region) → Closed (region_process S) → AllRules Bare S → NextUpToOrder S S' → Commit (region_process S) (region_process S')
next_commits S S' c h n = let m = next_made S S' c h n in record { between = m.process; step = m.step; settles = made_settles S S' n.raw m n.fuses }
