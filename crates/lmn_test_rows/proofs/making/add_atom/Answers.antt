use Rattle.std.proofs.Common.{ℕ, ◌≡◌}
use Rattle.std.proofs.lemmas.Result.{IfOk-at_ok}
use Rattle.lmn_store_heap.specs.Heap.{made_atom}
use Rattle.lmn_store_slab.specs.Kept.{heap_of}
use Rattle.lmn_test_rows.proofs.MadeLemmas.{atom_made, made_same}
use Rattle.lmn_test_rows.proofs.making.add_atom.Goals as goal

pub place-requires : goal.place-requires
place-requires g c =
    made_same (made_atom (heap_of c.args.store.now) _ c.args.functor) _
    (IfOk-at_ok (λ (a : ℕ). heap_of c.make_atom.new.self ≡ made_atom (heap_of c.args.store.now) a c.args.functor) c.expect.ensures c.make_atom.ensures.ok)
    (atom_made (heap_of c.args.store.now) _ c.args.functor (c.is_connector.ensures search) c.requires)
