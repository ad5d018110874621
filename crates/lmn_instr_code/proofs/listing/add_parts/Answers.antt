use Rattle.std.proofs.Common.{sym, ◌++◌}
use Rattle.std.specs.Prelude.{codes}
use Rattle.std.proofs.lemmas.List.Folds.{flat_map-map}
use Rattle.lmn_io.proofs.TakingLemmas.{adds_all, adds_as, adds_more, adds_next}
use Rattle.lmn_instr_code.specs.declared.words.Operand.TheVariants.{Part}
use Rattle.lmn_instr_code.specs.Listings.{operand_text}
use Rattle.lmn_instr_code.proofs.listing.add_parts.Goals as goal

pub loop-part-preserved : goal.loop-part-preserved
loop-part-preserved g c =
    adds_next (λ part. codes " " ++ operand_text c.args.names.now (Part part)) c.args.parts.now c.loop-part.part-index _ _ _ _ c.loop-part-test.true c.loop-part.invariant
    (adds_more (codes " ") _ _ _ _ c.add.ensures c.add_operand.ensures)

pub returns : goal.returns
returns g c =
    adds_as (sym (flat_map-map (λ o. codes " " ++ operand_text c.args.names.now o) (λ part. Part part) c.args.parts.now))
    (adds_all (λ part. codes " " ++ operand_text c.args.names.now (Part part)) _ _ c.loop-part-test.false c.loop-part.invariant)
