use Rattle.lmn_store_slab.specs.Kept.{heap_of}
use Rattle.lmn_test_rows.proofs.MadeLemmas.{rule_made, made_same}
use Rattle.lmn_test_rows.proofs.making.add_rule.Goals as goal

pub returns : goal.returns
returns g c = made_same _ _ c.add_rule.ensures (rule_made (heap_of c.make_room.new.store) c.args.m c.args.rule c.make_room.ensures)
