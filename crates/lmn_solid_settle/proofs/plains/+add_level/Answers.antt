use Rattle.std.proofs.Common.{[], ◌∷◌, ◌++◌, ◌∙◌, ap, sym, append-nil}
use Rattle.std.specs.List.{flat_map}
use Rattle.std.proofs.lemmas.List.{take_all}
use Rattle.lmn_base.specs.declared.level.Level.{out-Level}
use Rattle.lmn_congruence.specs.SolidsOfPlains.{fused_leaf}
use Rattle.lmn_schedule_loading.proofs.PlainLinks.{all_connectors}
use Rattle.lmn_schedule_loading.specs.Joining.{connectors_of_leaves, leaf_pairs}
use Rattle.lmn_solid_settle.proofs.PlainSolids.{connectors_next, laid_next, laid_whole, pieces_next}
use Rattle.lmn_solid_settle.proofs.plains.+add_level.Goals as goal

pub loop-leaf-init : goal.loop-leaf-init
loop-leaf-init t c = (c.new-atoms.ensures, sym (append-nil c.args.connectors.now))

pub loop-leaf-preserved : goal.loop-leaf-preserved
loop-leaf-preserved t c = (
  pieces_next (fused_leaf (λ x. x)) [] c.loop-leaf.atoms c.add_leaf.new.atoms c.as_slice-leaf-items.result.now c.loop-leaf.leaf-index c.leaf-item.result c.loop-leaf-test.true c.leaf-item.is
      c.loop-leaf.invariant.0 c.in_ok-add_leaf.ensures.atoms,
  pieces_next leaf_pairs c.args.connectors.now c.loop-leaf.connectors c.add_leaf.new.connectors c.as_slice-leaf-items.result.now c.loop-leaf.leaf-index c.leaf-item.result c.loop-leaf-test.true c.leaf-item.is
      c.loop-leaf.invariant.1 c.in_ok-add_leaf.ensures.connectors,
)

pub loop-inner-init : goal.loop-inner-init
loop-inner-init t c =
    let all = take_all c.loop-leaf.leaf-index c.as_slice-leaf-items.result.now c.loop-leaf-test.false ∙ c.as_slice-leaf-items.ensures in
    let atoms = c.loop-leaf.invariant.0 ∙ ap (flat_map (fused_leaf (λ x. x))) all in
    let rules = c.in_ok-rules.ensures ∙ c.as_slice.ensures in (
      c.in_ok-push.ensures.items ∙ (λ i. c.args.membranes.now.items ++ record { around = c.args.around; atoms = atoms i; rules = rules i } ∷ []),
      c.loop-leaf.invariant.1 ∙ ap (λ xs. c.args.connectors.now ++ connectors_of_leaves xs) (all ∙ sym (append-nil (out-Level c.args.level.now).leaves)),
    )

pub loop-inner-preserved : goal.loop-inner-preserved
loop-inner-preserved t c = (
  laid_next c.args.around c.len-number.result (out-Level c.args.level.now) c.args.membranes.now.items c.loop-inner.membranes.items c.add_level.new.membranes.items c.as_slice-inner-items.result.now
      c.loop-inner.inner-index c.inner-item.result c.loop-inner-test.true c.inner-item.is (c.len-number.ensures ∙ c.args.membranes.now.ok.0) c.loop-inner.invariant.0 c.in_ok-add_level.ensures.membranes,
  connectors_next c.args.connectors.now c.loop-inner.connectors c.add_level.new.connectors (out-Level c.args.level.now).leaves c.as_slice-inner-items.result.now
      c.loop-inner.inner-index c.inner-item.result c.loop-inner-test.true c.inner-item.is c.loop-inner.invariant.1 c.in_ok-add_level.ensures.connectors,
)

pub returns-clause-membranes : goal.returns-clause-membranes
returns-clause-membranes t c =
    laid_whole c.args.around c.args.level.now c.args.membranes.now.items c.loop-inner.membranes.items c.as_slice-inner-items.result.now c.loop-inner.inner-index
    c.as_slice-inner-items.ensures c.loop-inner-test.false c.loop-inner.invariant.0

pub returns-clause-connectors : goal.returns-clause-connectors
returns-clause-connectors t c =
    all_connectors c.args.connectors.now c.loop-inner.connectors c.args.level.now c.as_slice-inner-items.result.now c.loop-inner.inner-index c.as_slice-inner-items.ensures c.loop-inner-test.false
    c.loop-inner.invariant.1
