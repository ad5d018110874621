use Rattle.std.proofs.Common.{sym, arith}
use Rattle.std.specs.Prelude.{codes}
use Rattle.lmn_io.proofs.TakingLemmas.{adds_as, adds_more}
use Rattle.lmn_flatten_plain.proofs.Decimals.{numeral_is_decimal}
use Rattle.lmn_print_plain.proofs.labels.add_link.Goals as goal

pub returns : goal.returns
returns g c = adds_more (codes "L") _ _ _ _ c.add.ensures (adds_as (sym (numeral_is_decimal c.args.link (omega arith))) c.add_number.ensures)
