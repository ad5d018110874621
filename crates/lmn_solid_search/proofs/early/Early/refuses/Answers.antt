use Rattle.std.proofs.Common.{◌∙◌, rules, sym, w64}
use Rattle.std.proofs.lemmas.Int.{to_z-of_z}
use Rattle.lmn_solid_search.specs.Foretelling.{on_name}
use Rattle.lmn_solid_search.proofs.ForetellingLemmas.{rests_more, stand_apart}
use Rattle.lmn_solid_search.proofs.PairingLemmas.{port_differs}
use Rattle.lmn_solid_search.proofs.early.Early.refuses.Goals as goal

pub returns-else-stand_so : goal.returns-else-stand_so
returns-else-stand_so c = (
  c.in-Some.m,
  c.in-Some-second.n,
  sym c.value-first.ensures ∙ c.in-Some.is,
  sym c.value-second.ensures ∙ c.in-Some-second.is,
  stand_apart c.args.op c.in-Some.m _ c.in-Some-second.n _ (to_z-of_z w64 c.in-Some.m (search rules)) (to_z-of_z w64 c.in-Some-second.n (search rules)) (port_differs c.stand_so.ensures.1 c.if-stand_so.false),
  rests_more (on_name c.args.self.now) c.args.left.now c.read_by-mine.result c.with.result c.with.ensures.these c.read_by-mine.ensures,
  rests_more (on_name c.args.self.now) c.args.right.now c.read_by-others.result c.with.result c.with.ensures.those c.read_by-others.ensures,
)
