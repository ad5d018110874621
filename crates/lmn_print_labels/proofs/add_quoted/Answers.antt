use Rattle.std.specs.Prelude.{codes}
use Rattle.std.specs.List.{flat_map}
use Rattle.lmn_io.proofs.TakingLemmas.{adds_all, adds_as, adds_more, adds_next}
use Rattle.lmn_print_labels.proofs.add_quoted.Goals as goal
use Rattle.lmn_lexer.specs.NameText.{quoted_byte}

pub loop-byte-preserved : goal.loop-byte-preserved
loop-byte-preserved g c =
    adds_next quoted_byte c.args.name.now c.loop-byte.byte-index 0 _ _ _ c.loop-byte-test.true c.loop-byte.invariant (adds_as c.quoted_byte.ensures c.add-in-loop-byte.ensures)

pub returns : goal.returns
returns g c =
    adds_more (codes "'") _ _ _ _ c.add.ensures
    (adds_more (flat_map quoted_byte c.args.name.now) (codes "'") _ _ _ (adds_all quoted_byte _ _ c.loop-byte-test.false c.loop-byte.invariant) c.add-2.ensures)
