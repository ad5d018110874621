use Rattle.std.proofs.Common.{take, ◌++◌}
use Rattle.std.specs.Prelude.{codes}
use Rattle.std.specs.List.{flat_map}
use Rattle.lmn_io.specs.Gathering.{Adds, output}
use Rattle.lmn_instr_code.specs.declared.words.Operand.TheVariants.{Part}
use Rattle.lmn_instr_code.specs.Listings.{operand_text}
use Rattle.lmn_instr_code.proofs.listing.add_parts.Given as goal

abbrev pub invariant-loop-part : goal.invariant-loop-part
invariant-loop-part g l =
    let told = g.O.Sink.told in
    let faults = g.O.Sink.faults in
    Adds (flat_map (λ part. codes " " ++ operand_text l.names (Part part)) (take l.part-index l.parts)) (output l.initial.buffer (told l.initial.out) (faults l.initial.out)) (output l.buffer (told l.out) (faults l.out))
