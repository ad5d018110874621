use Rattle.std.proofs.Common.{◌≡◌, Some, [], length, subst, sym}
use Rattle.std.specs.Prelude.{◌↔◌, ◌≢◌, ℕ, IsTrue}
use Rattle.lmn_store_heap.specs.Heap.{rules_in}
use Rattle.lmn_instr_code.specs.declared.instr.Instr.TheVariants.{NoRules}
use Rattle.lmn_machine.proofs.Telling.{tested}
use Rattle.lmn_machine.proofs.steps.ask_no_rule.Goals as goal

pub returns : goal.returns
returns g c =
    tested g.S.LinkStore.atom_id g.S.LinkStore.mem_id (g.S.LinkStore.heap c.args.store.now) c.args.set.now c.has_no_rule.result c.outcome_of.result (NoRules c.args.membrane) c.requires tt c.requires.order.0
    (λ n s a. subst (λ k. IsTrue c.has_no_rule.result ↔ (rules_in (g.S.LinkStore.heap c.args.store.now) (k) ≡ [])) (sym (a.membranes _ _ c.at-asked.ensures)) (c.has_no_rule.ensures)) c.outcome_of.ensures
