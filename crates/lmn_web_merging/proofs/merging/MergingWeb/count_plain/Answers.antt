use Rattle.std.proofs.Common.{◌≡◌, ℕ, List, sym, ap, subst, ◌∙◌, length}
use Rattle.lmn_web_cells.specs.Rows.{Row}
use Rattle.lmn_web_cells.specs.CellIds.{cell_id}
use Rattle.lmn_web.specs.declared.kind.CellKind.TheVariants.{Membrane}
use Rattle.lmn_web.specs.Webs.{web_by, kind_at, cells_in}
use Rattle.lmn_web_merging.specs.Keepers.{keeper, port_mark, merged_by}
use Rattle.lmn_web_merging.proofs.Seen.{seen_membrane, seen_cells, keeper_kind, seen_port_mark}
use Rattle.lmn_web_merging.proofs.merging.MergingWeb.count_plain.Goals as goal

pub self_kept-requires-clause-membrane : goal.self_kept-requires-clause-membrane
self_kept-requires-clause-membrane c = (seen_membrane (web_by c.self.inside.web) (cell_id c.args.home) (subst (λ (z : List Row). kind_at (merged_by z) (cell_id c.args.home) ≡ Membrane) (sym c.self.view_is) c.requires.membrane)).0

pub self_kept-requires-clause-kept : goal.self_kept-requires-clause-kept
self_kept-requires-clause-kept c = c.self.invariant

pub self_kept-requires-clause-plain : goal.self_kept-requires-clause-plain
self_kept-requires-clause-plain c =
    let w = web_by c.self.inside.web in let m = cell_id c.args.home in let n = seen_membrane w m (subst (λ (z : List Row). kind_at (merged_by z) m ≡ Membrane) (sym c.self.view_is) c.requires.membrane) in
    sym (seen_port_mark w m n.0 n.1) ∙ subst (λ (z : List Row). port_mark (merged_by z) m ≡ 0) (sym c.self.view_is) c.requires.plain

pub count-requires : goal.count-requires
count-requires c =
    let w = web_by c.self.inside.web in let m = cell_id c.args.home in let a = c.self.invariant in let r = c.paired.ensures in
    let t = seen_membrane (web_by c.self.inside.web) (cell_id c.args.home) (subst (λ (z : List Row). kind_at (merged_by z) (cell_id c.args.home) ≡ Membrane) (sym c.self.view_is) c.requires.membrane) in
    let k : cell_id c.self_kept.result ≡ keeper w m = c.self_kept.ensures in
    (ap (kind_at w) k ∙ keeper_kind w r a m t.0)

pub returns : goal.returns
returns c =
    let w = web_by c.self.inside.web in let m = cell_id c.args.home in let a = c.self.invariant in let r = c.paired.ensures in
    let t = seen_membrane (web_by c.self.inside.web) (cell_id c.args.home) (subst (λ (z : List Row). kind_at (merged_by z) (cell_id c.args.home) ≡ Membrane) (sym c.self.view_is) c.requires.membrane) in
    let k : cell_id c.self_kept.result ≡ keeper w m = c.self_kept.ensures in
    subst (λ (z : List Row). c.count.result ≡ length (cells_in (merged_by z) m c.args.kind)) c.self.view_is
    (c.count.ensures ∙ ap (λ (us : List ℕ). length us) (ap (λ z. cells_in w z c.args.kind) k ∙ sym (seen_cells w r a m c.args.kind)))
