use Rattle.std.proofs.Common.{refl}
use Rattle.lmn_solid_search.proofs.ForetellingLemmas.{name_apart, none_told, unplaced}
use Rattle.lmn_solid_search.proofs.early.Early.forget.Goals as goal

pub returns-then-is_some : goal.returns-then-is_some
returns-then-is_some c =
    λ x z at. absurd (none_told c.clear.new.self.items c.clear-then-is_some.new.self.items x z c.clear.ensures.items at)

pub returns-else-is_some : goal.returns-else-is_some
returns-else-is_some c =
    λ x z at. (name_apart c.args.self.now.names.items c.args.self.now.values.items c.args.name x z (unplaced c.args.self.now.names.items c.as_slice.result.now c.args.name c.place_in.result c.is_some.result c.as_slice.ensures.value c.place_in.ensures c.is_some.ensures c.if-is_some.false) at, at, refl)
