use Rattle.std.proofs.Common.{List, refl, subst}
use Rattle.std.specs.List.{AllZip}
use Rattle.lmn_parser.specs.Syntax.{conditions_of}
use Rattle.lmn_parser.specs.declared.tree.CondNode.{CondNode}
use Rattle.lmn_flatten_plain.specs.Plains.{IsCond}
use Rattle.lmn_flatten.proofs.walk.numbered.Goals as goal

pub returns : goal.returns
returns c = (
  c.in_ok-links.ensures,
  refl,
  λ r is.
      let P : List CondNode → Type 0 = λ z. AllZip (IsCond r.words r.places r.names) (conditions_of z) c.in_ok-guard.guard in
      subst P c.as_slice.ensures (c.in_ok-guard.ensures r is),
)
