use Rattle.std.proofs.Common.{rules, ◌<◌, ◌≤◌, ◌-◌, ◌+◌, arith, sym, ap, ◌∙◌, subst}
use Rattle.lmn_store_heap.specs.Heap.{arity_of, link_of}
use Rattle.lmn_print_plain.proofs.KeptLemmas.{valid_same}
use Rattle.lmn_print_plain.proofs.MarkLemmas.{arity_same, atom_same, atom_before, link_same, remarks_none, remarks_more}
use Rattle.lmn_print_folding.specs.Marks.{argument_count}
use Rattle.lmn_print_folding.proofs.FewTurns.{few_turns}
use Rattle.lmn_print_folding.proofs.NumberedWalks.{item_same, arguments_same, term_same, numbers_first, numbers_link, numbers_term, numbers_end, numbers_all, numbers_room, numbers_turns}
use Rattle.lmn_print_folding.proofs.WalkLemmas.{arguments_low, term_ends}
use Rattle.lmn_print_folding.proofs.numbers.number_item.Goals as goal

pub loop-at-init : goal.loop-at-init
loop-at-init g c =
    let s = g.S.LinkStore.heap c.args.store.now in
    record { atom = c.requires.atom; marks = remarks_none s; walk = numbers_first s (g.S.LinkStore.atom_id c.args.item) c.args.count; few = omega arith; low = omega arith }

pub arguments-requires : goal.arguments-requires
arguments-requires g c = atom_same (g.S.LinkStore.heap c.args.store.now) (g.S.LinkStore.heap c.loop-at.store) c.loop-at.invariant.marks (g.S.LinkStore.atom_id c.loop-at.at.atom) c.loop-at.invariant.atom

pub term_at-requires-clause-atom : goal.term_at-requires-clause-atom
term_at-requires-clause-atom g c = atom_same (g.S.LinkStore.heap c.args.store.now) (g.S.LinkStore.heap c.loop-at.store) c.loop-at.invariant.marks (g.S.LinkStore.atom_id c.loop-at.at.atom) c.loop-at.invariant.atom

pub term_at-requires-clause-port : goal.term_at-requires-clause-port
term_at-requires-clause-port g c =
    let t = g.S.LinkStore.heap c.loop-at.store in
    let at = g.S.LinkStore.atom_id c.loop-at.at.atom in
    let low : c.loop-at.at.port < argument_count t at = subst (λ n. c.loop-at.at.port < n) c.arguments.ensures c.if-at-arguments.true in
    let most = arguments_low t at in
    omega (arith, low, most)

pub is_item-requires : goal.is_item-requires
is_item-requires g c = atom_same (g.S.LinkStore.heap c.args.store.now) (g.S.LinkStore.heap c.loop-at.store) c.loop-at.invariant.marks (g.S.LinkStore.atom_id c.loop-at.at.atom) c.loop-at.invariant.atom

pub number_port-numbered-requires-clause-atom : goal.number_port-numbered-requires-clause-atom
number_port-numbered-requires-clause-atom g c = atom_same (g.S.LinkStore.heap c.args.store.now) (g.S.LinkStore.heap c.loop-at.store) c.loop-at.invariant.marks (g.S.LinkStore.atom_id c.loop-at.at.atom) c.loop-at.invariant.atom

pub number_port-numbered-requires-clause-port : goal.number_port-numbered-requires-clause-port
number_port-numbered-requires-clause-port g c =
    let t = g.S.LinkStore.heap c.loop-at.store in
    let at = g.S.LinkStore.atom_id c.loop-at.at.atom in
    let low : c.loop-at.at.port < argument_count t at = subst (λ n. c.loop-at.at.port < n) c.arguments.ensures c.if-at-arguments.true in
    let most = arguments_low t at in
    omega (arith, low, most)

pub number_port-numbered-requires-clause-count : goal.number_port-numbered-requires-clause-count
number_port-numbered-requires-clause-count g c =
    let small : c.loop-at.at.port < 255 = omega arith in
    let room =
    numbers_room (g.S.LinkStore.heap c.args.store.now) (g.S.LinkStore.atom_id c.args.item) c.args.count (g.S.LinkStore.heap c.loop-at.store) (g.S.LinkStore.atom_id c.loop-at.at.atom) c.loop-at.at.port c.loop-at.numbered c.loop-at.turns c.requires.valid.sound.paired
    c.loop-at.invariant.walk small c.requires.walk.0 c.requires.walk.1 in
    let most = c.requires.walk.2 in
    omega (arith, room, most)

pub behind_term-at-requires-clause-valid : goal.behind_term-at-requires-clause-valid
behind_term-at-requires-clause-valid g c = valid_same (g.S.LinkStore.heap c.args.store.now) (g.S.LinkStore.heap c.loop-at.store) c.loop-at.invariant.marks c.root-sound.ensures.sound c.requires.valid

pub behind_term-at-requires-clause-atom : goal.behind_term-at-requires-clause-atom
behind_term-at-requires-clause-atom g c = atom_same (g.S.LinkStore.heap c.args.store.now) (g.S.LinkStore.heap c.loop-at.store) c.loop-at.invariant.marks (g.S.LinkStore.atom_id c.loop-at.at.atom) c.loop-at.invariant.atom

pub behind_term-at-requires-clause-ports : goal.behind_term-at-requires-clause-ports
behind_term-at-requires-clause-ports g c =
    let s = g.S.LinkStore.heap c.args.store.now in
    let t = g.S.LinkStore.heap c.loop-at.store in
    let at = g.S.LinkStore.atom_id c.loop-at.at.atom in
    let r = c.loop-at.invariant.marks in
    let w = c.loop-at.invariant.walk c.requires.walk.0 c.requires.walk.1 in
    let high = subst (λ n. n ≤ c.loop-at.at.port) (c.arguments.ensures ∙ arguments_same s t r at) c.if-at-arguments.false in
    let ports = term_ends s at c.loop-at.at.port w.0 w.1 high (sym (item_same s t r at) ∙ sym c.is_item.ensures ∙ c.if-is_item.false) in
    let same = arity_same s t r at in
    omega (arith, ports, same)

pub loop-at-preserved-in-Some : goal.loop-at-preserved-in-Some
loop-at-preserved-in-Some g c =
    let s = g.S.LinkStore.heap c.args.store.now in
    let t = g.S.LinkStore.heap c.loop-at.store in
    let item = g.S.LinkStore.atom_id c.args.item in
    let at = g.S.LinkStore.atom_id c.loop-at.at.atom in
    let r = c.loop-at.invariant.marks in
    let low = subst (λ n. c.loop-at.at.port < n) (c.arguments.ensures ∙ arguments_same s t r at) c.if-at-arguments.true in
    let small : c.loop-at.at.port < 255 = omega arith in
    let walk = numbers_term s item c.args.count t at c.loop-at.at.port (g.S.LinkStore.atom_id c.in-Some.term) c.loop-at.numbered c.loop-at.turns c.requires.valid.sound.paired c.loop-at.invariant.walk small low (sym (term_same s t r at c.loop-at.at.port) ∙ sym c.in-Some.ensures.term) in
    let most = few_turns s c.requires.valid.sound.paired c.root-root.ensures.few item 0 c.requires.walk.0 c.requires.atom c.requires.walk.1 in
    let room = numbers_turns s item c.args.count t (g.S.LinkStore.atom_id c.in-Some.term) 0 c.loop-at.numbered (c.loop-at.turns + 1) walk c.requires.walk.0 c.requires.walk.1 in
    record { atom = atom_before s t r (g.S.LinkStore.atom_id c.in-Some.term) c.in-Some.ensures.atom; marks = r; walk = walk; few = omega (arith, most, room); low = omega arith }

pub loop-at-preserved-in-None : goal.loop-at-preserved-in-None
loop-at-preserved-in-None g c =
    let s = g.S.LinkStore.heap c.args.store.now in
    let t = g.S.LinkStore.heap c.loop-at.store in
    let u = g.S.LinkStore.heap c.number_port-numbered.new.store in
    let at = g.S.LinkStore.atom_id c.loop-at.at.atom in
    let r = c.loop-at.invariant.marks in
    let low = subst (λ n. c.loop-at.at.port < n) (c.arguments.ensures ∙ arguments_same s t r at) c.if-at-arguments.true in
    record {
      atom = c.loop-at.invariant.atom;
      marks = remarks_more s t u r c.number_port-numbered.ensures.marks;
      walk = numbers_link s (g.S.LinkStore.atom_id c.args.item) c.args.count t u at c.loop-at.at.port c.loop-at.numbered c.number_port-numbered.result c.loop-at.turns r c.loop-at.invariant.walk low
          (sym (term_same s t r at c.loop-at.at.port) ∙ sym c.in-None.ensures.term) c.number_port-numbered.ensures.numbers c.number_port-numbered.ensures.few;
      few = c.loop-at.invariant.few;
      low = search rules;
    }

pub loop-at-preserved : goal.loop-at-preserved
loop-at-preserved g c =
    let s = g.S.LinkStore.heap c.args.store.now in
    let t = g.S.LinkStore.heap c.loop-at.store in
    let item = g.S.LinkStore.atom_id c.args.item in
    let at = g.S.LinkStore.atom_id c.loop-at.at.atom in
    let p = g.S.LinkStore.atom_id c.behind_term-at.result.atom in
    let r = c.loop-at.invariant.marks in
    let b = c.behind_term-at.ensures.port in
    let high = subst (λ n. n ≤ c.loop-at.at.port) (c.arguments.ensures ∙ arguments_same s t r at) c.if-at-arguments.false in
    let walk = numbers_end s item c.args.count t at c.loop-at.at.port p b.0 c.behind_term-at.result.port c.loop-at.numbered c.loop-at.turns c.loop-at.invariant.walk c.loop-at.invariant.low high
    (sym (item_same s t r at) ∙ sym c.is_item.ensures ∙ c.if-is_item.false) b.1 (sym (link_same s t r at (arity_of s at - 1)) ∙ ap (λ k. link_of t at (k - 1)) (sym (arity_same s t r at)) ∙ b.2) in
    let most = few_turns s c.requires.valid.sound.paired c.root-root.ensures.few item 0 c.requires.walk.0 c.requires.atom c.requires.walk.1 in
    let room = numbers_turns s item c.args.count t p c.behind_term-at.result.port c.loop-at.numbered (c.loop-at.turns + 1) walk c.requires.walk.0 c.requires.walk.1 in
    record { atom = atom_before s t r p c.behind_term-at.ensures.atom; marks = r; walk = walk; few = omega (arith, most, room); low = c.behind_term-at.ensures.small }

pub returns-then-is_item-clause-marks : goal.returns-then-is_item-clause-marks
returns-then-is_item-clause-marks g c = c.loop-at.invariant.marks

pub returns-then-is_item-clause-numbers : goal.returns-then-is_item-clause-numbers
returns-then-is_item-clause-numbers g c = λ es w.
    let s = g.S.LinkStore.heap c.args.store.now in
    let t = g.S.LinkStore.heap c.loop-at.store in
    let at = g.S.LinkStore.atom_id c.loop-at.at.atom in
    let r = c.loop-at.invariant.marks in
    (numbers_all s (g.S.LinkStore.atom_id c.args.item) c.args.count t at c.loop-at.at.port c.loop-at.numbered c.loop-at.turns c.requires.valid.sound.paired c.loop-at.invariant.walk c.loop-at.invariant.low
    (subst (λ n. n ≤ c.loop-at.at.port) (c.arguments.ensures ∙ arguments_same s t r at) c.if-at-arguments.false) (sym (item_same s t r at) ∙ sym c.is_item.ensures ∙ c.if-is_item.true) es w).0

pub returns-then-is_item-clause-few : goal.returns-then-is_item-clause-few
returns-then-is_item-clause-few g c = λ es w.
    let s = g.S.LinkStore.heap c.args.store.now in
    let t = g.S.LinkStore.heap c.loop-at.store in
    let at = g.S.LinkStore.atom_id c.loop-at.at.atom in
    let r = c.loop-at.invariant.marks in
    (numbers_all s (g.S.LinkStore.atom_id c.args.item) c.args.count t at c.loop-at.at.port c.loop-at.numbered c.loop-at.turns c.requires.valid.sound.paired c.loop-at.invariant.walk c.loop-at.invariant.low
    (subst (λ n. n ≤ c.loop-at.at.port) (c.arguments.ensures ∙ arguments_same s t r at) c.if-at-arguments.false) (sym (item_same s t r at) ∙ sym c.is_item.ensures ∙ c.if-is_item.true) es w).1
