use Rattle.std.proofs.Common.{rules, ◌<◌, ◌≤◌, refl, arith, sym, ◌∙◌, subst}
use Rattle.lmn_print_folding.specs.Marks.{argument_count}
use Rattle.lmn_print_folding.proofs.FewTurns.{few_turns}
use Rattle.lmn_print_folding.proofs.PrintedWalks.{term_is}
use Rattle.lmn_print_folding.proofs.WalkLemmas.{arguments_low, term_ends}
use Rattle.lmn_print_folding.proofs.BelowLemmas.{arguments_same, term_same, items_same, marking_first, marking_link, marking_term, marking_end, marking_all}
use Rattle.lmn_print_folding.proofs.ItemWalks.{item_walk}
use Rattle.lmn_print_folding.proofs.OwnMarks.{arity_same, last_same, atom_same, atom_before, changes_none, changes_more}
use Rattle.lmn_print_folding.proofs.items_walk.mark_below.Goals as goal

pub loop-at-init : goal.loop-at-init
loop-at-init g c =
    let s = g.S.LinkStore.heap c.args.store.now in
    record {
      atom = c.requires.atom;
      valid = c.requires.valid;
      marks = changes_none s;
      items = λ a. refl;
      walk = λ es w. marking_first s (g.S.LinkStore.atom_id c.args.item) es w;
      few = omega arith;
      low = omega arith;
    }

pub arguments-requires : goal.arguments-requires
arguments-requires g c = atom_same (g.S.LinkStore.heap c.args.store.now) (g.S.LinkStore.heap c.loop-at.store) c.loop-at.invariant.marks (g.S.LinkStore.atom_id c.loop-at.at.atom) c.loop-at.invariant.atom

pub term_at-requires-clause-atom : goal.term_at-requires-clause-atom
term_at-requires-clause-atom g c = atom_same (g.S.LinkStore.heap c.args.store.now) (g.S.LinkStore.heap c.loop-at.store) c.loop-at.invariant.marks (g.S.LinkStore.atom_id c.loop-at.at.atom) c.loop-at.invariant.atom

pub term_at-requires-clause-port : goal.term_at-requires-clause-port
term_at-requires-clause-port g c =
    let t = g.S.LinkStore.heap c.loop-at.store in
    let at = g.S.LinkStore.atom_id c.loop-at.at.atom in
    let low : c.loop-at.at.port < argument_count t at = subst (λ n. c.loop-at.at.port < n) c.arguments.ensures c.if-at-arguments.true in
    let most = arguments_low t at in
    omega (arith, low, most)

pub is_item-requires : goal.is_item-requires
is_item-requires g c = atom_same (g.S.LinkStore.heap c.args.store.now) (g.S.LinkStore.heap c.loop-at.store) c.loop-at.invariant.marks (g.S.LinkStore.atom_id c.loop-at.at.atom) c.loop-at.invariant.atom

pub behind_term-at-requires-clause-atom : goal.behind_term-at-requires-clause-atom
behind_term-at-requires-clause-atom g c = atom_same (g.S.LinkStore.heap c.args.store.now) (g.S.LinkStore.heap c.loop-at.store) c.loop-at.invariant.marks (g.S.LinkStore.atom_id c.loop-at.at.atom) c.loop-at.invariant.atom

pub behind_term-at-requires-clause-ports : goal.behind_term-at-requires-clause-ports
behind_term-at-requires-clause-ports g c =
    let s = g.S.LinkStore.heap c.args.store.now in
    let t = g.S.LinkStore.heap c.loop-at.store in
    let at = g.S.LinkStore.atom_id c.loop-at.at.atom in
    let r = c.loop-at.invariant.marks in
    let items = c.loop-at.invariant.items in
    let d = item_walk s c.requires.valid.sound.paired c.root-root.ensures.few (g.S.LinkStore.atom_id c.args.item) c.requires.atom c.requires.item in
    let w = c.loop-at.invariant.walk d.walk d.is in
    let high = subst (λ n. n ≤ c.loop-at.at.port) (c.arguments.ensures ∙ arguments_same s t r items at) c.if-at-arguments.false in
    let ports = term_ends s at c.loop-at.at.port w.left w.walk high (sym (items at) ∙ sym c.is_item.ensures ∙ c.if-is_item.false) in
    let same = arity_same s t r at in
    omega (arith, ports, same)

pub loop-at-preserved-in-Some : goal.loop-at-preserved-in-Some
loop-at-preserved-in-Some g c =
    let s = g.S.LinkStore.heap c.args.store.now in
    let t = g.S.LinkStore.heap c.loop-at.store in
    let u = g.S.LinkStore.heap c.set_own_mark.new.store in
    let item = g.S.LinkStore.atom_id c.args.item in
    let at = g.S.LinkStore.atom_id c.loop-at.at.atom in
    let term = g.S.LinkStore.atom_id c.in-Some.term in
    let i = c.loop-at.at.port in
    let r = c.loop-at.invariant.marks in
    let items = c.loop-at.invariant.items in
    let set = c.set_own_mark.ensures.set in
    let low = subst (λ n. i < n) (c.arguments.ensures ∙ arguments_same s t r items at) c.if-at-arguments.true in
    let is = sym (term_same s t r items at i) ∙ sym c.in-Some.ensures.term in
    let d = item_walk s c.requires.valid.sound.paired c.root-root.ensures.few item c.requires.atom c.requires.item in
    let most = few_turns s c.requires.valid.sound.paired c.root-root.ensures.few item 0 d.walk c.requires.atom d.is in
    let room = (marking_term s t u at i term c.loop-at.turns d.walk (c.loop-at.invariant.walk d.walk d.is) low is set).few in
    record {
      atom = atom_before s t r term c.in-Some.ensures.atom;
      valid = c.set_own_mark.ensures.valid;
      marks = changes_more s t u r set.marks;
      items = items_same s t u term set (term_is s at i term is).3 items;
      walk = λ es w. marking_term s t u at i term c.loop-at.turns es (c.loop-at.invariant.walk es w) low is set;
      few = omega (arith, most, room);
      low = omega arith;
    }

pub loop-at-preserved-in-None : goal.loop-at-preserved-in-None
loop-at-preserved-in-None g c =
    let s = g.S.LinkStore.heap c.args.store.now in
    let t = g.S.LinkStore.heap c.loop-at.store in
    let at = g.S.LinkStore.atom_id c.loop-at.at.atom in
    let r = c.loop-at.invariant.marks in
    let items = c.loop-at.invariant.items in
    let low = subst (λ n. c.loop-at.at.port < n) (c.arguments.ensures ∙ arguments_same s t r items at) c.if-at-arguments.true in
    record {
      atom = c.loop-at.invariant.atom;
      valid = c.loop-at.invariant.valid;
      marks = r;
      items = items;
      walk = λ es w. marking_link s t at c.loop-at.at.port c.loop-at.turns es (c.loop-at.invariant.walk es w) low (sym (term_same s t r items at c.loop-at.at.port) ∙ sym c.in-None.ensures.term);
      few = c.loop-at.invariant.few;
      low = search rules;
    }

pub loop-at-preserved : goal.loop-at-preserved
loop-at-preserved g c =
    let s = g.S.LinkStore.heap c.args.store.now in
    let t = g.S.LinkStore.heap c.loop-at.store in
    let item = g.S.LinkStore.atom_id c.args.item in
    let at = g.S.LinkStore.atom_id c.loop-at.at.atom in
    let p = g.S.LinkStore.atom_id c.behind_term-at.result.atom in
    let r = c.loop-at.invariant.marks in
    let items = c.loop-at.invariant.items in
    let b = c.behind_term-at.ensures.port in
    let high = subst (λ n. n ≤ c.loop-at.at.port) (c.arguments.ensures ∙ arguments_same s t r items at) c.if-at-arguments.false in
    let no = sym (items at) ∙ sym c.is_item.ensures ∙ c.if-is_item.false in
    let last = last_same s t r at (p, b.0) b.2 in
    let d = item_walk s c.requires.valid.sound.paired c.root-root.ensures.few item c.requires.atom c.requires.item in
    let most = few_turns s c.requires.valid.sound.paired c.root-root.ensures.few item 0 d.walk c.requires.atom d.is in
    let room = (marking_end s t at c.loop-at.at.port p b.0 c.behind_term-at.result.port c.loop-at.turns d.walk (c.loop-at.invariant.walk d.walk d.is) high no b.1 last).few in
    record {
      atom = atom_before s t r p c.behind_term-at.ensures.atom;
      valid = c.loop-at.invariant.valid;
      marks = r;
      items = items;
      walk = λ es w. marking_end s t at c.loop-at.at.port p b.0 c.behind_term-at.result.port c.loop-at.turns es (c.loop-at.invariant.walk es w) high no b.1 last;
      few = omega (arith, most, room);
      low = c.behind_term-at.ensures.small;
    }

pub returns-then-is_item-clause-valid : goal.returns-then-is_item-clause-valid
returns-then-is_item-clause-valid g c = c.loop-at.invariant.valid

pub returns-then-is_item-clause-terms : goal.returns-then-is_item-clause-terms
returns-then-is_item-clause-terms g c =
    let s = g.S.LinkStore.heap c.args.store.now in
    let t = g.S.LinkStore.heap c.loop-at.store in
    let item = g.S.LinkStore.atom_id c.args.item in
    let at = g.S.LinkStore.atom_id c.loop-at.at.atom in
    let r = c.loop-at.invariant.marks in
    let items = c.loop-at.invariant.items in
    let d = item_walk s c.requires.valid.sound.paired c.root-root.ensures.few item c.requires.atom c.requires.item in
    marking_all s t c.requires.valid.sound.paired item at c.loop-at.at.port c.loop-at.turns c.requires.item d r (c.loop-at.invariant.walk d.walk d.is)
    (subst (λ n. n ≤ c.loop-at.at.port) (c.arguments.ensures ∙ arguments_same s t r items at) c.if-at-arguments.false) (sym (items at) ∙ sym c.is_item.ensures ∙ c.if-is_item.true)
