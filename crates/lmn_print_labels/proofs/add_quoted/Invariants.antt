use Rattle.std.proofs.Common.{take}
use Rattle.std.specs.List.{flat_map}
use Rattle.lmn_io.specs.Gathering.{Adds, output}
use Rattle.lmn_print_labels.proofs.add_quoted.Given as goal
use Rattle.lmn_lexer.specs.NameText.{quoted_byte}

abbrev pub invariant-loop-byte : goal.invariant-loop-byte
invariant-loop-byte g l =
    let told = g.O.Sink.told in
    let faults = g.O.Sink.faults in
    Adds (flat_map quoted_byte (take l.byte-index l.name)) (output l.initial.buffer (told l.initial.out) (faults l.initial.out)) (output l.buffer (told l.out) (faults l.out))
