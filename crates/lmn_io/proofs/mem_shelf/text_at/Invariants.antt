use Rattle.std.proofs.Common.{◌≡◌, drop}
use Rattle.lmn_io.specs.Texts.{text_named}
use Rattle.lmn_io.proofs.mem_shelf.text_at.Given as goal

abbrev pub invariant-loop-i : goal.invariant-loop-i
invariant-loop-i l = text_named (drop l.i l.names) (drop l.i l.texts) l.name ≡ text_named l.names l.texts l.name
