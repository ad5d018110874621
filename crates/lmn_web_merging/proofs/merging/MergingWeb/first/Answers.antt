use Rattle.std.proofs.Common.{◌≡◌, List, Some, IfSome, sym, ap, subst, ◌∙◌}
use Rattle.std.specs.Option.{option_map}
use Rattle.lmn_store_heap.specs.Lists.{from}
use Rattle.lmn_web_cells.specs.Rows.{Row}
use Rattle.lmn_web_cells.specs.CellIds.{cell_id}
use Rattle.lmn_web.specs.declared.kind.CellKind.TheVariants.{Membrane}
use Rattle.lmn_web.specs.Webs.{web_by, kind_at, home_at, cells_in}
use Rattle.lmn_web_merging.specs.Keepers.{keeper, seen, merged_by}
use Rattle.lmn_web_merging.proofs.Seen.{seen_membrane, seen_cells, keeper_kind, home_seen, back}
use Rattle.lmn_web_merging.proofs.Sending.{home_of_first}
use Rattle.lmn_web_merging.proofs.merging.MergingWeb.first.Goals as goal

pub keeper_of-requires-clause-membrane : goal.keeper_of-requires-clause-membrane
keeper_of-requires-clause-membrane c = (seen_membrane (web_by c.self.inside.web) (cell_id c.args.home) (subst (λ (z : List Row). kind_at (merged_by z) (cell_id c.args.home) ≡ Membrane) (sym c.self.view_is) c.requires)).0

pub keeper_of-requires-clause-ports : goal.keeper_of-requires-clause-ports
keeper_of-requires-clause-ports c = c.self.invariant.ports (cell_id c.args.home) (seen_membrane (web_by c.self.inside.web) (cell_id c.args.home) (subst (λ (z : List Row). kind_at (merged_by z) (cell_id c.args.home) ≡ Membrane) (sym c.self.view_is) c.requires)).0

pub first-requires : goal.first-requires
first-requires c =
    let w = web_by c.self.inside.web in let m = cell_id c.args.home in let a = c.self.invariant in let r = c.paired.ensures in
    let t = seen_membrane (web_by c.self.inside.web) (cell_id c.args.home) (subst (λ (z : List Row). kind_at (merged_by z) (cell_id c.args.home) ≡ Membrane) (sym c.self.view_is) c.requires) in
    let k : cell_id c.keeper_of.result ≡ keeper w m = c.keeper_of.ensures in
    (ap (kind_at w) k ∙ keeper_kind w r a m t.0)

pub returns-clause-list : goal.returns-clause-list
returns-clause-list c =
    let w = web_by c.self.inside.web in let m = cell_id c.args.home in let a = c.self.invariant in let r = c.paired.ensures in
    let t = seen_membrane (web_by c.self.inside.web) (cell_id c.args.home) (subst (λ (z : List Row). kind_at (merged_by z) (cell_id c.args.home) ≡ Membrane) (sym c.self.view_is) c.requires) in
    let k : cell_id c.keeper_of.result ≡ keeper w m = c.keeper_of.ensures in
    let o = option_map cell_id c.first.result in
    subst (λ (z : List Row). from o (cells_in (merged_by z) m c.args.kind) ≡ cells_in (merged_by z) m c.args.kind) c.self.view_is
    (subst (λ us. from o us ≡ us) (ap (λ z. cells_in w z c.args.kind) k ∙ sym (seen_cells w r a m c.args.kind)) c.first.ensures.list)

pub returns-clause-home : goal.returns-clause-home
returns-clause-home c =
    let w = web_by c.self.inside.web in let m = cell_id c.args.home in let a = c.self.invariant in let r = c.paired.ensures in
    let t = seen_membrane (web_by c.self.inside.web) (cell_id c.args.home) (subst (λ (z : List Row). kind_at (merged_by z) (cell_id c.args.home) ≡ Membrane) (sym c.self.view_is) c.requires) in
    let k : cell_id c.keeper_of.result ≡ keeper w m = c.keeper_of.ensures in
    subst (λ (z : List Row). IfSome c.first.result (λ x. home_at (merged_by z) (cell_id x) ≡ Some m)) c.self.view_is
    (home_of_first cell_id c.first.result (λ x. home_at w x ≡ Some (cell_id c.keeper_of.result)) (λ x. home_at (seen w) x ≡ Some m) (λ x e. home_seen w r a x (keeper w m) (e ∙ ap (λ z. Some z) k) ∙ ap (λ z. Some z) (back w r a m)) c.first.ensures.home)
