use Rattle.std.proofs.Common.{take}
use Rattle.std.specs.List.{flat_map}
use Rattle.lmn_io.specs.Gathering.{Adds, output}
use Rattle.lmn_instr_code.specs.Listings.{line}
use Rattle.lmn_compile_listing.proofs.listing.add_head_lines.Given as goal

abbrev pub invariant-loop-i : goal.invariant-loop-i
invariant-loop-i g l =
    let told = g.O.Sink.told in
    let faults = g.O.Sink.faults in
    Adds (flat_map (line l.names) (take l.i l.code)) (output l.initial.buffer (told l.initial.out) (faults l.initial.out)) (output l.buffer (told l.out) (faults l.out))
