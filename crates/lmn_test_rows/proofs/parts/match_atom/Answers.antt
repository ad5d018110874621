use Rattle.lmn_store_slab.specs.Kept.{heap_of}
use Rattle.std.proofs.Common.{sym}
use Rattle.lmn_test_rows.proofs.PartLemmas.{clean_own}
use Rattle.lmn_test_rows.proofs.parts.match_atom.Goals as goal

pub returns : goal.returns
returns g c = clean_own (heap_of c.args.store.now) (heap_of c.set_mark.new.self) _ _ _ c.set_mark.ensures (sym (c.root-root.ensures.sound.shaped.ports _ _ c.functor-own.ensures)) c.requires
