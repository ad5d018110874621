-- A level as a process that isn't settled. Contracts of private functions alone cite these words.
use Rattle.std.specs.Prelude.{List, [], ◌∷◌}
use Rattle.std.specs.List.{flat_map}
use Rattle.lmn_base.specs.declared.level.Level.{Level}
use Rattle.lmn_base.specs.declared.level.Level.TheFolds.{fold-Level}
use Rattle.lmn_base.specs.declared.level.Level.TheOpen.{Level-F}
use Rattle.lmn_congruence.specs.SolidsOfPlains.{fused_leaf}
use Rattle.lmn_solid_settle.specs.Raw.{RawRegion, RawRegions, no_raw, raw, raw_and}

abbrev pub raws : List RawRegion → RawRegions
raws [] = no_raw
raws (r ∷ rs) = raw_and r (raws rs)

-- its atoms that are no connectors, its membranes and rules, every list in its order
abbrev pub raw_step : Level-F RawRegion → RawRegion
raw_step l = raw (flat_map (fused_leaf (λ x. x)) l.leaves) (raws l.membranes) l.rules

abbrev pub raw_of_level : Level → RawRegion
raw_of_level = fold-Level RawRegion raw_step
