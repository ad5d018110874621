use Rattle.std.proofs.Common.{◌≡◌, List, Some, IfSome, sym, ap, subst, ◌∙◌}
use Rattle.std.specs.Option.{option_map}
use Rattle.lmn_store_heap.specs.Lists.{from}
use Rattle.lmn_web_cells.specs.Rows.{Row}
use Rattle.lmn_web_cells.specs.CellIds.{cell_id}
use Rattle.lmn_web.specs.declared.kind.CellKind.TheVariants.{Membrane}
use Rattle.lmn_web.specs.Webs.{web_by, kind_at, home_at, cells_in}
use Rattle.lmn_web_merging.specs.Keepers.{keeper, port_mark, seen, merged_by}
use Rattle.lmn_web_merging.proofs.Seen.{seen_membrane, seen_cells, keeper_kind, home_seen, back, seen_port_mark}
use Rattle.lmn_web_merging.proofs.Sending.{home_of_first}
use Rattle.lmn_web_merging.proofs.merging.MergingWeb.first_plain.Goals as goal

pub self_kept-requires-clause-membrane : goal.self_kept-requires-clause-membrane
self_kept-requires-clause-membrane c = (seen_membrane (web_by c.self.inside.web) (cell_id c.args.home) (subst (λ (z : List Row). kind_at (merged_by z) (cell_id c.args.home) ≡ Membrane) (sym c.self.view_is) c.requires.membrane)).0

pub self_kept-requires-clause-kept : goal.self_kept-requires-clause-kept
self_kept-requires-clause-kept c = c.self.invariant

pub self_kept-requires-clause-plain : goal.self_kept-requires-clause-plain
self_kept-requires-clause-plain c =
    let w = web_by c.self.inside.web in let m = cell_id c.args.home in let n = seen_membrane w m (subst (λ (z : List Row). kind_at (merged_by z) m ≡ Membrane) (sym c.self.view_is) c.requires.membrane) in
    sym (seen_port_mark w m n.0 n.1) ∙ subst (λ (z : List Row). port_mark (merged_by z) m ≡ 0) (sym c.self.view_is) c.requires.plain

pub first-requires : goal.first-requires
first-requires c =
    let w = web_by c.self.inside.web in let m = cell_id c.args.home in let a = c.self.invariant in let r = c.paired.ensures in
    let t = seen_membrane (web_by c.self.inside.web) (cell_id c.args.home) (subst (λ (z : List Row). kind_at (merged_by z) (cell_id c.args.home) ≡ Membrane) (sym c.self.view_is) c.requires.membrane) in
    let k : cell_id c.self_kept.result ≡ keeper w m = c.self_kept.ensures in
    (ap (kind_at w) k ∙ keeper_kind w r a m t.0)

pub returns-clause-list : goal.returns-clause-list
returns-clause-list c =
    let w = web_by c.self.inside.web in let m = cell_id c.args.home in let a = c.self.invariant in let r = c.paired.ensures in
    let t = seen_membrane (web_by c.self.inside.web) (cell_id c.args.home) (subst (λ (z : List Row). kind_at (merged_by z) (cell_id c.args.home) ≡ Membrane) (sym c.self.view_is) c.requires.membrane) in
    let k : cell_id c.self_kept.result ≡ keeper w m = c.self_kept.ensures in
    let o = option_map cell_id c.first.result in
    subst (λ (z : List Row). from o (cells_in (merged_by z) m c.args.kind) ≡ cells_in (merged_by z) m c.args.kind) c.self.view_is
    (subst (λ us. from o us ≡ us) (ap (λ z. cells_in w z c.args.kind) k ∙ sym (seen_cells w r a m c.args.kind)) c.first.ensures.list)

pub returns-clause-home : goal.returns-clause-home
returns-clause-home c =
    let w = web_by c.self.inside.web in let m = cell_id c.args.home in let a = c.self.invariant in let r = c.paired.ensures in
    let t = seen_membrane (web_by c.self.inside.web) (cell_id c.args.home) (subst (λ (z : List Row). kind_at (merged_by z) (cell_id c.args.home) ≡ Membrane) (sym c.self.view_is) c.requires.membrane) in
    let k : cell_id c.self_kept.result ≡ keeper w m = c.self_kept.ensures in
    subst (λ (z : List Row). IfSome c.first.result (λ x. home_at (merged_by z) (cell_id x) ≡ Some m)) c.self.view_is
    (home_of_first cell_id c.first.result (λ x. home_at w x ≡ Some (cell_id c.self_kept.result)) (λ x. home_at (seen w) x ≡ Some m) (λ x e. home_seen w r a x (keeper w m) (e ∙ ap (λ z. Some z) k) ∙ ap (λ z. Some z) (back w r a m)) c.first.ensures.home)
