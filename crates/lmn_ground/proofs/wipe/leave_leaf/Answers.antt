use Rattle.std.proofs.Common.{ℕ, ◌+◌, ◌≤◌, sym, subst, ◌∙◌}
use Rattle.lmn_ground_parts.specs.Walks.{net}
use Rattle.lmn_ground.specs.Marks.{first_marks, weight}
use Rattle.lmn_ground.specs.Spread.{Wiping}
use Rattle.lmn_ground.proofs.SpreadLaws.{there_beside}
use Rattle.lmn_ground.proofs.WipeLaws.{leaf_left, leaf_lighter}
use Rattle.lmn_ground.proofs.wipe.leave_leaf.Goals as goal

pub returns-then-arity-eq1-clause-atom : goal.returns-then-arity-eq1-clause-atom
returns-then-arity-eq1-clause-atom g c = there_beside _ _ _ _ _ _ _ c.set_mark.ensures c.requires.from.1

pub returns-then-arity-eq1-clause-on : goal.returns-then-arity-eq1-clause-on
returns-then-arity-eq1-clause-on g c = record {
  walk = λ before seen met left t.
      (let s = g.S.LinkStore.heap c.args.store.now in
      let u = subst (λ (k : ℕ). Wiping before s (g.S.LinkStore.atom_id c.args.root.0, c.args.root.1) seen met c.args.down.depth (g.S.LinkStore.atom_id c.args.down.atom) k left) c.requires.entered.first t in
      leaf_left before s (g.S.LinkStore.heap c.set_mark.new.self) (g.S.LinkStore.atom_id c.args.root.0, c.args.root.1) seen met c.args.down.depth c.args.from.depth (g.S.LinkStore.atom_id c.args.down.atom) (g.S.LinkStore.atom_id c.args.from.atom) c.args.from.port left u
      c.arity.ensures.sound c.set_mark.ensures (sym c.arity.ensures.arity ∙ c.if-arity-eq1.true) c.requires.entered.entry c.requires.entered.deeper);
  lighter = λ before seen met left t.
      (let s = g.S.LinkStore.heap c.args.store.now in
      let u = subst (λ (k : ℕ). Wiping before s (g.S.LinkStore.atom_id c.args.root.0, c.args.root.1) seen met c.args.down.depth (g.S.LinkStore.atom_id c.args.down.atom) k left) c.requires.entered.first t in
      subst (λ (k : ℕ). weight (net (g.S.LinkStore.heap c.set_mark.new.self)) (first_marks (g.S.LinkStore.heap c.set_mark.new.self)) c.args.from.depth (g.S.LinkStore.atom_id c.args.from.atom) (c.args.from.port + 1) ≤ weight (net s) (first_marks s) c.args.down.depth (g.S.LinkStore.atom_id c.args.down.atom) k)
      (sym c.requires.entered.first)
      (leaf_lighter before s (g.S.LinkStore.heap c.set_mark.new.self) (g.S.LinkStore.atom_id c.args.root.0, c.args.root.1) seen met c.args.down.depth c.args.from.depth (g.S.LinkStore.atom_id c.args.down.atom) (g.S.LinkStore.atom_id c.args.from.atom) c.args.from.port left u
      c.arity.ensures.sound c.set_mark.ensures (sym c.arity.ensures.arity ∙ c.if-arity-eq1.true) c.requires.entered.entry c.requires.entered.deeper));
}
