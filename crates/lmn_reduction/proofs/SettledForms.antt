-- A closed process settles, in one way up to congruence, and to what one map of links makes of it.
use Rattle.std.proofs.Common.{ℕ, ◌≡◌, ◌+◌, List, [], ◌∷◌, refl, sym, ◌∙◌, arith}
use Rattle.lmn_congruence.specs.Process.{Process, nothing, connector, atom, membrane, rule, pair, occurrences, Linked, Closed}
use Rattle.lmn_congruence.specs.Congruence.{Congruent, back, chain}
use Rattle.lmn_congruence.specs.Fused.{NoConnector, Joins, fused}
use Rattle.lmn_congruence.specs.UpToOrder.{Reordered, r_same, r_back, r_chain}
use Rattle.lmn_congruence.specs.LinkMaps.{ReadsByMap}
use Rattle.lmn_reduction.specs.Commits.{Settles, SettlesTowards, already}
use Rattle.lmn_reduction.specs.Laws.{CongruentByOneMap}
use Rattle.lmn_congruence.proofs.Counts.{count_first, count_second, linked_as}
use Rattle.lmn_congruence.proofs.Reordered.{reordered_congruent, reordered_count}
use Rattle.lmn_congruence.proofs.LinkMaps.{Leaves, closed_leaves, closed_linked, joins_plain, fused_id, fused_plain, plain_congruent, congruent_reads}
use Rattle.lmn_reduction.proofs.SettlingSteps.{towards_alike, towards_carries}
use Rattle.lmn_reduction.proofs.SettledProcesses.{same_crossings_settled, no_connector_settled, settled_congruent, towards_linked, towards_closed, towards_joined}
use Rattle.lmn_reduction.proofs.Merges.{row, Open, normal, Merges, merges_settle, merges_join, one_merge, drop_unit}

-- a process without connectors to which P goes by settling steps
pub record SettledForm (P : Process) : Type 0 where
  pub form : Process
  pub plain : NoConnector form
  pub towards : SettlesTowards P form

-- no connector is left over where a map joins the connectors and leaves the free links
no_wires : (v : ℕ → ℕ) (P C : Process) (ws : List (ℕ × ℕ)) → Linked P → Joins v P → Leaves v P → NoConnector C → Open ws C → Merges P (pair (row ws) C) → SettledForm P
no_wires v P C [] l j s n o m = record { form = C; plain = n; towards = merges_settle (merges_join m (one_merge drop_unit)) l }
no_wires v P C (p ∷ ps) l j s n o m =
    let V = row ps in
    let W = pair (pair (connector p.0 p.1) V) C in
    let t : SettlesTowards P W = merges_settle m l in
    let k = (towards_carries t).0 v j in
    let f : occurrences p.0 W ≡ 1 = omega (arith, count_first p.0 p.1 (occurrences p.0 V + occurrences p.0 C) o.0, o.1) in
    let g : occurrences p.1 W ≡ 1 = omega (arith, count_second p.0 p.1 (occurrences p.1 V + occurrences p.1 C) o.0, o.2) in
    let f' = (towards_alike t p.0).back_again f in
    let g' = (towards_alike t p.1).back_again g in
    absurd (o.0 (sym (k.agrees p.0 f' ∙ s p.0 f') ∙ k.joins.0.0 ∙ k.agrees p.1 g' ∙ s p.1 g'))

settled_form : (v : ℕ → ℕ) (P : Process) → Linked P → Joins v P → Leaves v P → SettledForm P
settled_form v P l j s = let r = (normal P l).1 in no_wires v P r.core r.wires l j s r.plain r.opens r.merges

-- ---- what one map of links makes of a process

-- the forms without connectors to which P goes are what the map makes of it
towards_fused : (v : ℕ → ℕ) (P X : Process) → Joins v P → Leaves v P → Linked (fused v P) → SettlesTowards P X → NoConnector X → Congruent X (fused v P)
towards_fused v P X j s l t n =
    let i = (towards_carries t).0 v j in
    let stays : Leaves i.to X = λ x f. let g = (towards_alike t x).back_again f in i.agrees x g ∙ s x g in
    chain (plain_congruent i.to X n (towards_linked t) stays (linked_as (reordered_count i.order) l)) (back (reordered_congruent i.order l))

-- a process settles to itself fused by a map that joins its connectors and leaves its free links
pub settles_fused : (v : ℕ → ℕ) (P : Process) → Linked P → Joins v P → Leaves v P → Linked (fused v P) → Settles P (fused v P)
settles_fused v P l j s k =
    let f = settled_form v P l j s in
    record { settled = no_connector_settled (fused v P) (fused_plain v P); towards = towards_joined f.towards (already (towards_fused v P f.form j s k f.towards f.plain)) }

-- a process that reads as N is congruent to it
pub reads_congruent : (P N : Process) → Linked P → Linked N → ReadsByMap P N → Congruent P N
reads_congruent P N l n r =
    let k : Linked (fused r.to P) = linked_as (λ z. sym (reordered_count r.order z)) n in
    chain (settled_congruent (same_crossings_settled r.to P r.joins r.crossings) (settles_fused r.to P l r.joins r.leaves k).towards) (reordered_congruent r.order k)

-- a linked process is congruent to one without connectors exactly where one map of links reads it so
pub congruent_by_one_map : CongruentByOneMap
congruent_by_one_map P N l k n = ((λ c. congruent_reads P N n c), (λ r. reads_congruent P N l k r))

-- ---- closed processes

-- the map to one link joins all connectors
pub all_join : (P : Process) → Joins (λ x. 0) P
all_join nothing = tt
all_join (connector x y) = refl
all_join (atom a xs) = tt
all_join (pair P Q) = (all_join P, all_join Q)
all_join (membrane P) = all_join P
all_join (rule r) = tt

-- each closed process has a settled form
pub closed_form : (P : Process) → Closed P → SettledForm P
closed_form P c = settled_form (λ x. 0) P (closed_linked c) (all_join P) (closed_leaves (λ x. 0) P c)

-- and settles
pub closed_settles : (P : Process) → Closed P → (Q : Process) × Settles P Q
closed_settles P c = let f = closed_form P c in (f.form, record { settled = no_connector_settled f.form f.plain; towards = f.towards })

-- a form without connectors is read back by a map of the links of P
pub read_back : (P N : Process) → NoConnector N → SettlesTowards P N → (v : ℕ → ℕ) × Joins v P × Reordered (fused v P) N
read_back P N n t = let i = (towards_carries t).1 (λ x. x) (joins_plain (λ x. x) N n) in (i.to, i.joins, r_chain (r_back i.order) (r_same (fused_id N n)))

-- two forms without connectors of one closed process
forms_congruent : (P N X : Process) → Closed P → NoConnector N → NoConnector X → SettlesTowards P N → SettlesTowards P X → Congruent X N
forms_congruent P N X c n n' t t' =
    let v = read_back P N n t in
    let k : Linked (fused v.0 P) = linked_as (λ z. sym (reordered_count v.2 z)) (towards_linked t) in
    chain (towards_fused v.0 P X v.1 (closed_leaves v.0 P c) k t' n') (reordered_congruent v.2 k)

-- in one way, up to congruence
pub settles_once : (P Q Q' : Process) → Closed P → Settles P Q → Settles P Q' → Congruent Q Q'
settles_once P Q Q' c s s' =
    let f = closed_form Q (towards_closed s.towards c) in
    let f' = closed_form Q' (towards_closed s'.towards c) in
    let i = forms_congruent P f'.form f.form c f'.plain f.plain (towards_joined s'.towards f'.towards) (towards_joined s.towards f.towards) in
    chain (settled_congruent s.settled f.towards) (chain i (back (settled_congruent s'.settled f'.towards)))
