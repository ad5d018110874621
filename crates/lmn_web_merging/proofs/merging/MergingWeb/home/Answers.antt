use Rattle.std.proofs.Common.{◌≡◌, List, Some, None, IsSome, sym, ap, subst, ◌∙◌}
use Rattle.std.specs.Option.{option_map}
use Rattle.lmn_web_cells.specs.Rows.{Row}
use Rattle.lmn_web_cells.specs.CellIds.{cell_id}
use Rattle.lmn_web.specs.Webs.{web_by, home_at}
use Rattle.lmn_web_merging.specs.Keepers.{keeper, merged_by}
use Rattle.lmn_web_merging.proofs.Seen.{seen_there, seen_home, home_seen}
use Rattle.lmn_web_merging.proofs.Sending.{home_is_membrane}
use Rattle.lmn_web_merging.proofs.merging.MergingWeb.home.Goals as goal

pub home-requires : goal.home-requires
home-requires c = (seen_there (web_by c.self.inside.web) (cell_id c.args.c) (subst (λ (z : List Row). IsSome (merged_by z (cell_id c.args.c))) (sym c.self.view_is) c.requires)).0

pub keeper_of-requires-clause-membrane : goal.keeper_of-requires-clause-membrane
keeper_of-requires-clause-membrane c = home_is_membrane (web_by c.self.inside.web) c.listed.ensures (cell_id c.args.c) (cell_id c.in-Some.home) (c.home.ensures ∙ ap (option_map cell_id) c.in-Some.is)

pub keeper_of-requires-clause-ports : goal.keeper_of-requires-clause-ports
keeper_of-requires-clause-ports c = c.self.invariant.ports (cell_id c.in-Some.home) (home_is_membrane (web_by c.self.inside.web) c.listed.ensures (cell_id c.args.c) (cell_id c.in-Some.home) (c.home.ensures ∙ ap (option_map cell_id) c.in-Some.is))

pub returns-in-None : goal.returns-in-None
returns-in-None c = subst (λ (z : List Row). home_at (merged_by z) (cell_id c.args.c) ≡ None) c.self.view_is
    (seen_home (web_by c.self.inside.web) c.paired.ensures c.self.invariant (cell_id c.args.c) ∙ ap (option_map (keeper (web_by c.self.inside.web))) (c.home.ensures ∙ ap (option_map cell_id) c.in-None.is))

pub returns-in-Some : goal.returns-in-Some
returns-in-Some c = subst (λ (z : List Row). home_at (merged_by z) (cell_id c.args.c) ≡ Some (cell_id c.keeper_of.result)) c.self.view_is
    (home_seen (web_by c.self.inside.web) c.paired.ensures c.self.invariant (cell_id c.args.c) (cell_id c.in-Some.home) (c.home.ensures ∙ ap (option_map cell_id) c.in-Some.is) ∙ ap (λ z. Some z) (sym c.keeper_of.ensures))
