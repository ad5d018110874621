use Rattle.lmn_store_slab.specs.Kept.{heap_of}
use Rattle.lmn_test_rows.proofs.MadeLemmas.{ports_joined, made_same}
use Rattle.lmn_test_rows.proofs.making.join.Goals as goal

pub returns : goal.returns
returns g c = made_same _ _ c.join.ensures (ports_joined (heap_of c.args.store.now) c.args.a c.args.i c.args.b c.args.j c.requires)
