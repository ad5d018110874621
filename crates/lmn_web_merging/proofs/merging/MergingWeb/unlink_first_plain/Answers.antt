use Rattle.std.proofs.Common.{◌≡◌, List, Some, refl, sym, ap, subst, ◌∙◌}
use Rattle.lmn_store_heap.specs.Lists.{from}
use Rattle.lmn_web_cells.specs.Rows.{Row}
use Rattle.lmn_web_cells.specs.CellIds.{cell_id}
use Rattle.lmn_web.specs.declared.kind.CellKind.TheVariants.{Membrane}
use Rattle.lmn_web.specs.Webs.{FilesNone, web_by, kind_at, home_at, cells_in, unlinked}
use Rattle.lmn_web.proofs.ListedLemmas.{from_in}
use Rattle.lmn_web_merging.specs.Keepers.{keeper, port_mark, seen, merged_by}
use Rattle.lmn_web_merging.specs.Moves.{AreKept}
use Rattle.lmn_web_merging.proofs.Seen.{seen_membrane, seen_cells, seen_once, keeper_kind, seen_port_mark}
use Rattle.lmn_web_merging.proofs.Labelled.{files_under, unlinked_both}
use Rattle.lmn_web_merging.proofs.merging.MergingWeb.unlink_first_plain.Goals as goal

pub self_kept-keeper-requires-clause-membrane : goal.self_kept-keeper-requires-clause-membrane
self_kept-keeper-requires-clause-membrane c = (seen_membrane (web_by c.self.inside.web) (cell_id c.args.home) (subst (λ (z : List Row). kind_at (merged_by z) (cell_id c.args.home) ≡ Membrane) (sym c.self.view_is) c.requires.membrane)).0

pub self_kept-keeper-requires-clause-kept : goal.self_kept-keeper-requires-clause-kept
self_kept-keeper-requires-clause-kept c = c.self.invariant

pub self_kept-keeper-requires-clause-plain : goal.self_kept-keeper-requires-clause-plain
self_kept-keeper-requires-clause-plain c =
    let w = web_by c.self.inside.web in let m = cell_id c.args.home in let n = seen_membrane w m (subst (λ (z : List Row). kind_at (merged_by z) m ≡ Membrane) (sym c.self.view_is) c.requires.membrane) in
    sym (seen_port_mark w m n.0 n.1) ∙ subst (λ (z : List Row). port_mark (merged_by z) m ≡ 0) (sym c.self.view_is) c.requires.plain

pub unlink_first_unfiled-requires-clause-membrane : goal.unlink_first_unfiled-requires-clause-membrane
unlink_first_unfiled-requires-clause-membrane c =
    let w = web_by c.self.inside.web in let x = cell_id c.args.c in let m = cell_id c.args.home in let a = c.self.invariant in let r = c.paired.ensures in
    let n = seen_membrane w m (subst (λ (z : List Row). kind_at (merged_by z) m ≡ Membrane) (sym c.self.view_is) c.requires.membrane) in
    let q : cell_id c.self_kept-keeper.result ≡ keeper w m = c.self_kept-keeper.ensures in
    ap (kind_at w) q ∙ keeper_kind w r a m n.0

pub unlink_first_unfiled-requires-clause-first : goal.unlink_first_unfiled-requires-clause-first
unlink_first_unfiled-requires-clause-first c =
    let w = web_by c.self.inside.web in let x = cell_id c.args.c in let m = cell_id c.args.home in let a = c.self.invariant in let r = c.paired.ensures in
    let n = seen_membrane w m (subst (λ (z : List Row). kind_at (merged_by z) m ≡ Membrane) (sym c.self.view_is) c.requires.membrane) in
    let q : cell_id c.self_kept-keeper.result ≡ keeper w m = c.self_kept-keeper.ensures in
    let first : from (Some x) (cells_in (seen w) m c.args.kind) ≡ cells_in (seen w) m c.args.kind =
    subst (λ (z : List Row). from (Some x) (cells_in (merged_by z) m c.args.kind) ≡ cells_in (merged_by z) m c.args.kind) (sym c.self.view_is) c.requires.first in
    subst (λ us. from (Some x) us ≡ us) (seen_cells w r a m c.args.kind ∙ ap (λ z. cells_in w z c.args.kind) (sym q)) first

pub unlink_first_unfiled-requires-clause-files : goal.unlink_first_unfiled-requires-clause-files
unlink_first_unfiled-requires-clause-files c =
    let w = web_by c.self.inside.web in let x = cell_id c.args.c in let m = cell_id c.args.home in let a = c.self.invariant in let r = c.paired.ensures in
    let n = seen_membrane w m (subst (λ (z : List Row). kind_at (merged_by z) m ≡ Membrane) (sym c.self.view_is) c.requires.membrane) in
    let q : cell_id c.self_kept-keeper.result ≡ keeper w m = c.self_kept-keeper.ensures in
    let plain = subst (λ (z : List Row). port_mark (merged_by z) m ≡ 0) (sym c.self.view_is) c.requires.plain in
    subst (FilesNone w) (sym q) (files_under w a m n.0 n.1 plain (subst (λ (z : List Row). FilesNone (merged_by z) m) (sym c.self.view_is) c.requires.files))

pub invariant_of-self : goal.invariant_of-self
invariant_of-self c =
    let w = web_by c.self.inside.web in let x = cell_id c.args.c in let m = cell_id c.args.home in let a = c.self.invariant in let r = c.paired.ensures in
    let n = seen_membrane w m (subst (λ (z : List Row). kind_at (merged_by z) m ≡ Membrane) (sym c.self.view_is) c.requires.membrane) in
    let q : cell_id c.self_kept-keeper.result ≡ keeper w m = c.self_kept-keeper.ensures in
    let first : from (Some x) (cells_in (seen w) m c.args.kind) ≡ cells_in (seen w) m c.args.kind =
    subst (λ (z : List Row). from (Some x) (cells_in (merged_by z) m c.args.kind) ≡ cells_in (merged_by z) m c.args.kind) (sym c.self.view_is) c.requires.first in
    let home : home_at (seen w) x ≡ Some m = ((seen_once w r a c.listed.ensures).homes m x c.args.kind (from_in (Some x) (cells_in (seen w) m c.args.kind) first x refl)).0 in
    let b = unlinked_both w c.listed.ensures r a x m home in
    subst AreKept (sym (c.unlink_first_unfiled.ensures ∙ ap (λ z. unlinked w z x) q)) b.0

pub returns : goal.returns
returns c =
    let w = web_by c.self.inside.web in let x = cell_id c.args.c in let m = cell_id c.args.home in let a = c.self.invariant in let r = c.paired.ensures in
    let n = seen_membrane w m (subst (λ (z : List Row). kind_at (merged_by z) m ≡ Membrane) (sym c.self.view_is) c.requires.membrane) in
    let q : cell_id c.self_kept-keeper.result ≡ keeper w m = c.self_kept-keeper.ensures in
    let first : from (Some x) (cells_in (seen w) m c.args.kind) ≡ cells_in (seen w) m c.args.kind =
    subst (λ (z : List Row). from (Some x) (cells_in (merged_by z) m c.args.kind) ≡ cells_in (merged_by z) m c.args.kind) (sym c.self.view_is) c.requires.first in
    let home : home_at (seen w) x ≡ Some m = ((seen_once w r a c.listed.ensures).homes m x c.args.kind (from_in (Some x) (cells_in (seen w) m c.args.kind) first x refl)).0 in
    let b = unlinked_both w c.listed.ensures r a x m home in
    ap seen (c.unlink_first_unfiled.ensures ∙ ap (λ z. unlinked w z x) q) ∙ b.1 ∙ ap (λ (z : List Row). unlinked (merged_by z) m x) c.self.view_is
