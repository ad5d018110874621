use Rattle.std.proofs.Common.{map, drop}
use Rattle.lmn_store_heap.specs.Heap.{rules_in}
use Rattle.lmn_io.specs.Gathering.{output}
use Rattle.lmn_congruence.specs.Translation.{numbered_rule}
use Rattle.lmn_flatten_plain.specs.Words.{rule_pieces, text_of}
use Rattle.lmn_print_plain.specs.Rows.{in_row}
use Rattle.lmn_print_plain.specs.Stored.{rule_texts}
use Rattle.lmn_print_plain.proofs.DueLemmas.{Due}
use Rattle.lmn_print_plain.proofs.stored.add_rules.Given as goal

abbrev pub invariant-loop-i : goal.invariant-loop-i
invariant-loop-i g l =
    let h = g.S.LinkStore.heap l.store in
    let m = g.S.LinkStore.mem_id l.mem in
    Due (in_row l.between l.before (rule_texts l.names l.table h m)) (in_row l.between l.any (map (λ k. text_of (rule_pieces (numbered_rule l.names l.table k))) (drop l.i (rules_in h m))))
    (output l.initial.buffer (g.O.Sink.told l.initial.out) (g.O.Sink.faults l.initial.out)) (output l.buffer (g.O.Sink.told l.out) (g.O.Sink.faults l.out))
