-- A level with its links renamed.
use Rattle.std.specs.Prelude.{ℕ, map}
use Rattle.lmn_base.specs.declared.level.Leaf.{Leaf}
use Rattle.lmn_base.specs.declared.level.Leaf.TheVariants.{Atom, Typed}
use Rattle.lmn_base.specs.declared.level.Level.{Level}
use Rattle.lmn_base.specs.declared.level.Level.TheOpen.{Level-F}
use Rattle.lmn_base.specs.declared.level.Level.TheFolds.{fold-Level}
use Rattle.lmn_base.specs.declared.level.Level.TheViews.{roll-Level}
use Rattle.lmn_base.specs.declared.level.Occ.{Occ}

-- each link is renamed by `to`
module _ (to : ℕ → ℕ) where
  abbrev pub renumbered_occurrence : Occ → Occ
  renumbered_occurrence o = record { link = to o.link; pos = o.pos }

  abbrev pub renumbered_leaf : Leaf → Leaf
  renumbered_leaf (Atom functor links pos) = Atom functor (map renumbered_occurrence links) pos
  renumbered_leaf (Typed name link pos) = Typed name (renumbered_occurrence link) pos

  -- the leaves of a level get new links, its membranes have got them, and the rest stays
  abbrev pub renumbered_step : Level-F Level → Level
  renumbered_step l = roll-Level (record {
    leaves = map renumbered_leaf l.leaves;
    membranes = l.membranes;
    contexts = l.contexts;
    rule_contexts = l.rule_contexts;
    rules = l.rules;
  })

  abbrev pub renumbered : Level → Level
  renumbered = fold-Level Level renumbered_step
