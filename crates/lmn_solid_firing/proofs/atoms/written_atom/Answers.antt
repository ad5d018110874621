use Rattle.lmn_solid_tables.specs.Flats.{link_at}
use Rattle.lmn_solid_firing.specs.Making.{written}
use Rattle.lmn_solid_firing.proofs.Links.{link_more}
use Rattle.lmn_solid_firing.proofs.atoms.written_atom.Goals as goal

pub loop-index-preserved : goal.loop-index-preserved
loop-index-preserved c =
    link_more (written c.args.writing.now) (link_at c.args.flat.now) c.args.atom c.loop-index.index c.functor-functor.result.arity c.link.result c.in_ok-link.field-0 c.loop-index.links c.push.new.self _
    c.loop-index-test.true c.link.ensures c.in_ok-link.ensures c.in_ok-push.ensures.ok c.loop-index.invariant
