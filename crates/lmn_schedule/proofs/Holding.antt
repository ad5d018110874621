-- Each heap that an engine can turn holds a solid.
use Rattle.std.proofs.Common.{refl, subst, arith}
use Rattle.lmn_base.proofs.Lists.{get_there}
use Rattle.lmn_congruence.proofs.NumberedRules.{rule_has_number}
use Rattle.lmn_store_heap.specs.Sound.{IsTree}
use Rattle.lmn_adequacy_heaps.specs.Laws.{HeapsAreNamed}
use Rattle.lmn_adequacy_heaps.specs.Premises.{IsRead, HasRules}
use Rattle.lmn_adequacy_choices.specs.Laws.{HeapsAreNumbered}
use Rattle.lmn_adequacy_choices.specs.Turns.{heap_region}
use Rattle.lmn_adequacy_turns.specs.Commits.{PlainsAreTables}
use Rattle.lmn_adequacy_turns.specs.Turning.{renumbered_reading}
use Rattle.lmn_adequacy_turns.proofs.Leavings.{root_tree}
use Rattle.lmn_schedule.specs.Held.{HeapsHoldSolids, reading_by}

-- its links have numbers, those of printed order, and its rules are of the table
pub heaps_hold_solids : HeapsAreNamed → HeapsAreNumbered → PlainsAreTables → HeapsHoldSolids
heaps_hold_solids named numbered tables names plain h codes size well ns run known =
    let name = named h run.turn.valid in
    let r = reading_by names plain.rules name.0 in
    let tree = run.turn.valid.tree in
    let root = root_tree h tree.0 tree.1 in
    let read : IsRead h r = record { valid = run.turn.valid; naming = name.1; names = ns.begins; known = known } in
    let rules : HasRules h r plain.rules = record {
      known = λ m k i. (let below = run.turn.of_table m k i in
          let many = run.compiled.many in
          let rule = get_there plain.rules k (omega (arith, below, many)) in
          (rule.0, rule.1, ns.rules name.0 k rule.0 rule.1));
      read = λ k rule e. rule_has_number names plain k rule well e;
    } in
    let again = numbered h r root.0 plain.rules (record { read = read; tree = subst (IsTree h) root.1 tree.1; rules = rules }) in (
      heap_region h (renumbered_reading r again.number) root.0,
      record {
        number = λ a i. again.number (a, i);
        inner = root.0;
        read = again.again.read;
        tree = again.again.tree;
        rules = again.again.rules;
        keeps = tables plain (reading_by names plain.rules (λ a i. again.number (a, i))) well (ns.rules (λ a i. again.number (a, i)));
        is = refl;
        numbered = again.numbered;
      },
    )
