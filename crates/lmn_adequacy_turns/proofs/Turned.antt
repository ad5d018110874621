-- Each turn of a rule of a heap is one commit.
use Rattle.std.proofs.Common.{ℕ, ◌<◌, length, refl, sym, subst, ◌∙◌, inl, inr}
use Rattle.std.proofs.lemmas.Option.{same_Some}
use Rattle.lmn_base.specs.declared.rule.RuleTree.{RuleTree}
use Rattle.lmn_store_heap.specs.Heap.{rules_in}
use Rattle.lmn_compile_head.specs.Accepted.{AcceptedHeads, AcceptedLeast}
use Rattle.lmn_adequacy.specs.Embedding.{EmbedsAt}
use Rattle.lmn_compile_head.specs.Heads.{kind_in}
use Rattle.lmn_adequacy.specs.Laws.{FiringsCommit}
use Rattle.std.proofs.lemmas.List.Elements.{All-contains}
use Rattle.lmn_base.specs.Levels.{rules_of}
use Rattle.lmn_adequacy_heaps.specs.HeapRegions.{HeapReading, region_at}
use Rattle.lmn_adequacy_heaps.specs.Laws.{EmbedsAlike, LeastAlike}
use Rattle.lmn_adequacy_heaps.specs.Premises.{IsRule}
use Rattle.lmn_adequacy_heaps.proofs.Wholes.{closed_heap, all_accepted}
use Rattle.lmn_adequacy_turns.specs.Turning.{TurnIsNext, renumbered_reading}
use Rattle.lmn_adequacy_turns.specs.Bound.{BoundNames}
use Rattle.lmn_adequacy_turns.specs.Commits.{TurnsCommit}
use Rattle.lmn_adequacy_turns.proofs.Embedded.{ordered, ordered_is, numbers_at}
use Rattle.lmn_adequacy_turns.proofs.Leading.{led, embeds_there}
use Rattle.lmn_adequacy_turns.proofs.PlanTypes.{plan_types}
use Rattle.lmn_base.specs.Graphs.{Port}
use Rattle.lmn_base.proofs.Lists.{get_there as get_some}
use Rattle.lmn_store_heap.proofs.Common.{in_at as got_in}

-- a rule is as it was where links have other numbers
pub read_as : (r : HeapReading) (number : Port → ℕ) (rule : RuleTree) → IsRule r rule → IsRule (renumbered_reading r number) rule
read_as r number rule k = record { well_made = k.well_made; known = k.known; accepted = k.accepted }

-- the body code of the rule whose head code first succeeds makes a turn
pub turns_commit : TurnIsNext → AcceptedHeads → AcceptedLeast → BoundNames → EmbedsAlike → LeastAlike → FiringsCommit → TurnsCommit
turns_commit is_next head_law least_law bound_law alike first_alike commit table rule plan whole h r inner read tr has m mi there forest index k stands is_at s first rests h' runs =
    let known = has.known m k (got_in (rules_in h m) index k stands) in
    let same = same_Some known.0 rule (sym known.1 ∙ is_at) in
    let is_rule = subst (λ z. IsRule r z) same known.2 in
    let e = ordered head_law least_law alike bound_law table rule plan whole.ready h r read is_rule m mi forest s first in
    let is = ordered_is head_law least_law alike bound_law table rule plan whole.ready h r read is_rule m mi forest s first in
    let ns = numbers_at head_law least_law alike bound_law table rule plan whole.ready h r read is_rule m mi forest s first in
    let next = is_next table rule plan whole h r inner read tr is_rule m mi there forest index k stands (has.read k rule is_at) s first rests ns e is h' runs in
    let least = (first_alike h r m mi (kind_in plan.kinds) rule read forest is_rule (plan_types table rule plan whole.ready) ns).0
    (s.head.images, least_law.least table rule plan h m s.head whole.ready read.valid first, refl) in
    record {
      next = next;
      least = λ ks e. least.1 ks (subst (λ z. EmbedsAt z ks (region_at h r m mi)) (has.read k rule is_at)
          (embeds_there h r m mi index k ks stands (led h r next.leads inner mi tr.forms.2 forest.forms index ks e)));
      commits = commit (region_at h r h.root inner) (region_at h' (renumbered_reading r next.again.number) h'.root next.again.forest) (closed_heap h r inner read tr) (all_accepted h r table has h.root inner)
          (record { path = next.path; number = index; positions = ns; next = next.next });
      rules = λ t. record {
        known = λ x j i. elim (next.again.rules x j i) [
          | inl w ↦ (let u = has.known w.0 j w.1 in (u.0, u.1, read_as r next.again.number u.0 u.2))
          | inr w ↦ (let u = get_some table j (All-contains (λ z. z < length table) (rules_of rule.body) j (t.inner k rule is_at) w) in (u.0, u.1, read_as r next.again.number u.0 (t.rules j u.0 u.1)))
        ];
        read = has.read;
      };
    }
