use Rattle.std.proofs.Common.{◌≡◌, ◌++◌, ◌∙◌, ap, length, sym, subst}
use Rattle.std.proofs.lemmas.Result.{IfOk-weaker}
use Rattle.lmn_base.specs.Levels.{leaves_of}
use Rattle.lmn_congruence.specs.SolidsOfPlains.{IsSolidOf}
use Rattle.lmn_schedule_loading.specs.Joining.{connectors_of_leaves}
use Rattle.lmn_solid_settle.specs.Levels.{raw_of_level}
use Rattle.lmn_solid_settle.specs.Raw.{CanSettle, IsSettled, laid}
use Rattle.lmn_solid_settle.proofs.PlainSolids.{can_settle, is_solid_of}
use Rattle.lmn_solid_settle.proofs.plains.solid_of.Goals as goal

pub settle-requires : goal.settle-requires
settle-requires c =
    let p = c.args.plain.now in
    let number : c.in-Ok.links ≡ length p.links = c.in-Ok.ensures.1 ∙ c.len.ensures in
    let pairs : c.as_slice.result.now ≡ connectors_of_leaves (leaves_of p.top) = c.as_slice.ensures ∙ c.in_ok-add_level.ensures.connectors ∙ ap (λ es. es ++ connectors_of_leaves (leaves_of p.top)) c.new-connectors.ensures in (
      raw_of_level p.top,
      c.in_ok-add_level.ensures.membranes ∙ ap (λ ms. ms ++ laid 0 (length ms) (raw_of_level p.top)) c.new-membranes.ensures.items,
      subst (λ es. CanSettle (raw_of_level p.top) es c.in-Ok.links) (sym pairs) (can_settle p c.requires.made c.requires.closed c.in-Ok.links number),
    )

pub returns : goal.returns
returns c =
    let p = c.args.plain.now in
    let r = raw_of_level p.top in
    let number : c.in-Ok.links ≡ length p.links = c.in-Ok.ensures.1 ∙ c.len.ensures in
    let pairs : c.as_slice.result.now ≡ connectors_of_leaves (leaves_of p.top) = c.as_slice.ensures ∙ c.in_ok-add_level.ensures.connectors ∙ ap (λ es. es ++ connectors_of_leaves (leaves_of p.top)) c.new-connectors.ensures in
    let laid_so = c.in_ok-add_level.ensures.membranes ∙ ap (λ ms. ms ++ laid 0 (length ms) r) c.new-membranes.ensures.items in
    let can = can_settle p c.requires.made c.requires.closed c.in-Ok.links number in
    IfOk-weaker c.settle.result (IsSettled r c.as_slice.result.now) (IsSolidOf p)
    (λ s h. is_solid_of p c.requires.made c.requires.closed s (subst (λ es. IsSettled r es s) pairs h))
    (c.settle.ensures r laid_so (subst (λ es. CanSettle r es c.in-Ok.links) (sym pairs) can))
