use Rattle.std.proofs.Common.{rules, ℕ, ◌<◌, ◌≤◌, ◌-◌, ◌+◌, arith, sym, ap, ◌∙◌, subst}
use Rattle.lmn_io.proofs.TakingLemmas.{adds_as, adds_more}
use Rattle.lmn_print_plain.specs.Stored.{number_by_mark}
use Rattle.lmn_print_folding.specs.Events.{events_text, opening}
use Rattle.lmn_print_folding.proofs.FewTurns.{few_turns}
use Rattle.lmn_print_folding.proofs.PrintedItems.{items_are_walked}
use Rattle.lmn_print_folding.proofs.WalkLemmas.{term_ends}
use Rattle.lmn_print_folding.proofs.WritingLemmas.{left_first, left_link, left_term, left_end, left_all, left_few}
use Rattle.lmn_print_folding.proofs.terms.add_item.Goals as goal

pub loop-at-init : goal.loop-at-init
loop-at-init g c =
    let h = g.S.LinkStore.heap c.args.store.now in
    record { atom = c.requires.atom; walk = left_first c.args.names.now h (number_by_mark h) (g.S.LinkStore.atom_id c.args.item) _; few = omega arith; low = omega arith }

pub behind_term-at-requires-clause-ports : goal.behind_term-at-requires-clause-ports
behind_term-at-requires-clause-ports g c =
    let h = g.S.LinkStore.heap c.args.store.now in
    let v = items_are_walked c.args.names.now h (number_by_mark h) (g.S.LinkStore.atom_id c.args.item) c.requires.printed.0 c.requires.valid c.requires.item c.requires.printed.1 in
    let w = c.loop-at.invariant.walk v.0 v.1 in
    term_ends h (g.S.LinkStore.atom_id c.loop-at.at.atom) c.loop-at.at.port w.0 w.1 (subst (λ n. n ≤ c.loop-at.at.port) c.arguments.ensures c.if-at-arguments.false) (sym c.is_item.ensures ∙ c.if-is_item.false)

pub loop-at-preserved-in-Some : goal.loop-at-preserved-in-Some
loop-at-preserved-in-Some g c =
    let h = g.S.LinkStore.heap c.args.store.now in
    let item = g.S.LinkStore.atom_id c.args.item in
    let v = items_are_walked c.args.names.now h (number_by_mark h) item c.requires.printed.0 c.requires.valid c.requires.item c.requires.printed.1 in
    let walk = left_term c.args.names.now h (number_by_mark h) item _ _ _ _ (g.S.LinkStore.atom_id c.loop-at.at.atom) c.loop-at.at.port (g.S.LinkStore.atom_id c.in-Some.term) c.loop-at.turns c.loop-at.invariant.walk
    (subst (λ n. c.loop-at.at.port < n) c.arguments.ensures c.if-at-arguments.true) (sym c.in-Some.ensures.term) c.add_before.ensures c.add_opening-in-Some.ensures in
    let most = few_turns h c.requires.valid.sound.paired c.root-root.ensures.few item 0 v.0 c.requires.atom v.1 in
    let low = left_few c.args.names.now h (number_by_mark h) item _ _ _ _ (c.loop-at.turns + 1) walk v.0 v.1 in
    record { atom = c.in-Some.ensures.atom; walk = walk; few = omega (arith, most, low); low = omega arith }

pub loop-at-preserved-in-None : goal.loop-at-preserved-in-None
loop-at-preserved-in-None g c =
    let h = g.S.LinkStore.heap c.args.store.now in
    record {
      atom = c.loop-at.invariant.atom;
      walk = left_link c.args.names.now h (number_by_mark h) (g.S.LinkStore.atom_id c.args.item) _ _ _ _ (g.S.LinkStore.atom_id c.loop-at.at.atom) c.loop-at.at.port c.loop-at.turns c.saturating_sub.result c.loop-at.invariant.walk
          (subst (λ n. c.loop-at.at.port < n) c.arguments.ensures c.if-at-arguments.true) (sym c.in-None.ensures.term) (c.saturating_sub.ensures ∙ ap (λ (x : ℕ). x - 1) c.mark.ensures) c.add_before.ensures c.add_link.ensures;
      few = c.loop-at.invariant.few;
      low = search rules;
    }

pub loop-at-preserved : goal.loop-at-preserved
loop-at-preserved g c =
    let h = g.S.LinkStore.heap c.args.store.now in
    let item = g.S.LinkStore.atom_id c.args.item in
    let b = c.behind_term-at.ensures.port in
    let v = items_are_walked c.args.names.now h (number_by_mark h) item c.requires.printed.0 c.requires.valid c.requires.item c.requires.printed.1 in
    let walk = left_end c.args.names.now h (number_by_mark h) item _ _ _ (g.S.LinkStore.atom_id c.loop-at.at.atom) c.loop-at.at.port (g.S.LinkStore.atom_id c.behind_term-at.result.atom) b.0 c.behind_term-at.result.port c.loop-at.turns c.loop-at.invariant.walk
    (subst (λ n. n ≤ c.loop-at.at.port) c.arguments.ensures c.if-at-arguments.false) (sym c.is_item.ensures ∙ c.if-is_item.false) b.1 b.2 c.add_closing.ensures in
    let most = few_turns h c.requires.valid.sound.paired c.root-root.ensures.few item 0 v.0 c.requires.atom v.1 in
    let low = left_few c.args.names.now h (number_by_mark h) item _ _ _ _ (c.loop-at.turns + 1) walk v.0 v.1 in
    record { atom = c.behind_term-at.ensures.atom; walk = walk; few = omega (arith, most, low); low = c.behind_term-at.ensures.small }

pub returns-then-is_item : goal.returns-then-is_item
returns-then-is_item g c = λ i p.
    let h = g.S.LinkStore.heap c.args.store.now in
    let item = g.S.LinkStore.atom_id c.args.item in
    let v = items_are_walked c.args.names.now h (number_by_mark h) item i c.requires.valid c.requires.item p in
    adds_as v.2 (adds_more (opening c.args.names.now h item) (events_text c.args.names.now h (number_by_mark h) v.0) _ _ _ c.add_opening.ensures
    (left_all c.args.names.now h (number_by_mark h) item _ _ _ (g.S.LinkStore.atom_id c.loop-at.at.atom) c.loop-at.at.port c.loop-at.turns c.loop-at.invariant.walk
    (subst (λ n. n ≤ c.loop-at.at.port) c.arguments.ensures c.if-at-arguments.false) (sym c.is_item.ensures ∙ c.if-is_item.true) c.add_closing.ensures v.0 v.1))
