use Rattle.std.proofs.Common.{◌≡◌, ℕ, List, sym, ap, subst, ◌∙◌, length}
use Rattle.lmn_web_cells.specs.Rows.{Row}
use Rattle.lmn_web_cells.specs.CellIds.{cell_id}
use Rattle.lmn_web.specs.declared.kind.CellKind.TheVariants.{Membrane}
use Rattle.lmn_web.specs.Webs.{web_by, kind_at, cells_in}
use Rattle.lmn_web_merging.specs.Keepers.{keeper, merged_by}
use Rattle.lmn_web_merging.proofs.Seen.{seen_membrane, seen_cells, keeper_kind}
use Rattle.lmn_web_merging.proofs.merging.MergingWeb.count.Goals as goal

pub keeper_of-requires-clause-membrane : goal.keeper_of-requires-clause-membrane
keeper_of-requires-clause-membrane c = (seen_membrane (web_by c.self.inside.web) (cell_id c.args.home) (subst (λ (z : List Row). kind_at (merged_by z) (cell_id c.args.home) ≡ Membrane) (sym c.self.view_is) c.requires)).0

pub keeper_of-requires-clause-ports : goal.keeper_of-requires-clause-ports
keeper_of-requires-clause-ports c = c.self.invariant.ports (cell_id c.args.home) (seen_membrane (web_by c.self.inside.web) (cell_id c.args.home) (subst (λ (z : List Row). kind_at (merged_by z) (cell_id c.args.home) ≡ Membrane) (sym c.self.view_is) c.requires)).0

pub count-requires : goal.count-requires
count-requires c =
    let w = web_by c.self.inside.web in let m = cell_id c.args.home in let a = c.self.invariant in let r = c.paired.ensures in
    let t = seen_membrane (web_by c.self.inside.web) (cell_id c.args.home) (subst (λ (z : List Row). kind_at (merged_by z) (cell_id c.args.home) ≡ Membrane) (sym c.self.view_is) c.requires) in
    let k : cell_id c.keeper_of.result ≡ keeper w m = c.keeper_of.ensures in
    (ap (kind_at w) k ∙ keeper_kind w r a m t.0)

pub returns : goal.returns
returns c =
    let w = web_by c.self.inside.web in let m = cell_id c.args.home in let a = c.self.invariant in let r = c.paired.ensures in
    let t = seen_membrane (web_by c.self.inside.web) (cell_id c.args.home) (subst (λ (z : List Row). kind_at (merged_by z) (cell_id c.args.home) ≡ Membrane) (sym c.self.view_is) c.requires) in
    let k : cell_id c.keeper_of.result ≡ keeper w m = c.keeper_of.ensures in
    subst (λ (z : List Row). c.count.result ≡ length (cells_in (merged_by z) m c.args.kind)) c.self.view_is
    (c.count.ensures ∙ ap (λ (us : List ℕ). length us) (ap (λ z. cells_in w z c.args.kind) k ∙ sym (seen_cells w r a m c.args.kind)))
