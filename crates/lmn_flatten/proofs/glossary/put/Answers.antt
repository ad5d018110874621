use Rattle.lmn_flatten.proofs.GlossaryLemmas.{put_grows, with_put}
use Rattle.lmn_flatten.proofs.glossary.put.Goals as goal

pub returns-clause-grows : goal.returns-clause-grows
returns-clause-grows c = put_grows c.args.names.now c.put.new.self c.args.name.now c.put.result c.put.ensures.held c.put.ensures.new c.put.ensures.err

pub returns-clause-names : goal.returns-clause-names
returns-clause-names c = with_put c.args.names.now c.put.new.self c.args.name.now c.put.result c.put.ensures.held c.put.ensures.new
