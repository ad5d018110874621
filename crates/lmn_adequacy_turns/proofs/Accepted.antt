-- The laws of head code and of body code of accepted rules, one after the other.
use Rattle.std.proofs.Common.{ℕ, List, ◌++◌, length}
use Rattle.lmn_base.specs.declared.rule.RuleTree.{RuleTree}
use Rattle.lmn_guards.specs.declared.plan.GuardPlan.{GuardPlan}
use Rattle.lmn_store_heap.specs.Heap.{Heap}
use Rattle.lmn_compile_head.specs.Accepted.{head_items, AcceptedLeast}
use Rattle.lmn_compile_body.specs.Accepted.{IsCompilable, rule_body_items, rule_body_code, AcceptedNested}
use Rattle.lmn_solid_bodies.specs.Fired.{images_of}
use Rattle.lmn_solid_bodies.specs.Running.{Registers, RunsBody}
use Rattle.lmn_solid_bodies.proofs.Laws.{body_fires_within, body_can_run}
use Rattle.lmn_solid_bodies.proofs.SolidWithin.{firing_leaves_solid, firing_leaves_atoms, copies_in_solid}
use Rattle.lmn_solid_bodies.proofs.SolidRests.{rests_in_solid}
use Rattle.lmn_solid_bodies.proofs.Parts.{part_hangs}
use Rattle.lmn_adequacy_turns.specs.Accepted.{Finds, Fired, AcceptedFires}
use Rattle.lmn_base.specs.Graphs.{Port}

fired : AcceptedLeast → AcceptedNested → (table : List RuleTree) (r : RuleTree) (plan : GuardPlan) → IsCompilable table r plan →
    (h : Heap) (m : ℕ) (s : Registers) (c : Port → ℕ) → Finds r plan h m s c → (h' : Heap) → RunsBody s (rule_body_code r plan) h h' → Fired r plan h m s c h'
fired heads bodies table r plan whole h m s c finds h' runs =
    let head = head_items r plan in
    let body = rule_body_items r plan in
    let rule = bodies table r plan whole in
    let least = heads.least table r plan h m s.head whole.ready finds.valid finds.first in
    let f = body_fires_within head body (length r.links) rule s h finds.valid m least.embeds.lies finds.rests finds.placed c finds.named h' runs in
    record {
      least = least;
      parts = f.0;
      are = f.1;
      valid = f.2;
      fires = f.3;
      solid = firing_leaves_solid head body (length r.links) rule s h finds.valid m least.embeds.lies finds.rests finds.placed c finds.named f.0 f.1 h' f.3;
      atoms = λ plain. firing_leaves_atoms head body (length r.links) rule plain s h finds.valid m least.embeds.lies finds.rests finds.placed c finds.named f.0 f.1 h' f.3;
      copies = λ e i. let t = rule.atoms.copied e i in
          copies_in_solid h finds.valid c finds.named s head body (images_of s head ++ f.0) h' f.2 f.3 e i (part_hangs h finds.valid head body (length r.links) m s rule.atoms least.embeds.lies e.1 t.0 t.1);
      rests = rests_in_solid head body (length r.links) rule s h finds.valid m least.embeds.lies finds.rests finds.placed c finds.named f.0 f.1 h' f.2 f.3;
    }

-- where the head code of an accepted rule succeeds its body code fires it
pub accepted_fires : AcceptedLeast → AcceptedNested → AcceptedFires
accepted_fires heads bodies = record {
  fires = fired heads bodies;
  can_run = λ table r plan whole h m s c finds t prepared spares.
      let least = heads.least table r plan h m s.head whole.ready finds.valid finds.first in
      body_can_run (head_items r plan) (rule_body_items r plan) (length r.links) (bodies table r plan whole) s h finds.valid m least.embeds.lies finds.rests finds.placed c finds.named t prepared spares;
}
