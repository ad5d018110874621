use Rattle.std.proofs.Common.{◌≡◌, List, None, IsSome, sym, ap, subst, ◌∙◌, inr}
use Rattle.lmn_web_cells.specs.Rows.{Row}
use Rattle.lmn_web_cells.specs.CellIds.{cell_id}
use Rattle.lmn_web.specs.declared.kind.CellKind.TheVariants.{Membrane}
use Rattle.lmn_web.specs.Webs.{FilesNone, web_by, kind_at, home_at, added_last}
use Rattle.lmn_web_merging.specs.Keepers.{keeper, port_mark, seen, merged_by}
use Rattle.lmn_web_merging.specs.Moves.{AreKept}
use Rattle.lmn_web_merging.proofs.Seen.{seen_there, seen_kind, seen_membrane, keeper_kind, no_home_under, seen_port_mark}
use Rattle.lmn_web_merging.proofs.Labelled.{added_both, files_under}
use Rattle.lmn_web_merging.proofs.merging.MergingWeb.add_last_plain.Goals as goal

pub self_kept-keeper-requires-clause-membrane : goal.self_kept-keeper-requires-clause-membrane
self_kept-keeper-requires-clause-membrane c =
    let w = web_by c.self.inside.web in let x = cell_id c.args.c in let m = cell_id c.args.home in let a = c.self.invariant in let r = c.paired.ensures in
    let t = seen_there w x (subst (λ (z : List Row). IsSome (merged_by z x)) (sym c.self.view_is) c.requires.there) in
    let k = sym (seen_kind w x t.1) ∙ subst (λ (z : List Row). kind_at (merged_by z) x ≡ c.args.kind) (sym c.self.view_is) c.requires.kind in
    let n = seen_membrane w m (subst (λ (z : List Row). kind_at (merged_by z) m ≡ Membrane) (sym c.self.view_is) c.requires.membrane) in
    let plain = subst (λ (z : List Row). port_mark (merged_by z) m ≡ 0) (sym c.self.view_is) c.requires.plain in
    n.0

pub self_kept-keeper-requires-clause-kept : goal.self_kept-keeper-requires-clause-kept
self_kept-keeper-requires-clause-kept c = c.self.invariant

pub self_kept-keeper-requires-clause-plain : goal.self_kept-keeper-requires-clause-plain
self_kept-keeper-requires-clause-plain c =
    let w = web_by c.self.inside.web in let m = cell_id c.args.home in let n = seen_membrane w m (subst (λ (z : List Row). kind_at (merged_by z) m ≡ Membrane) (sym c.self.view_is) c.requires.membrane) in
    sym (seen_port_mark w m n.0 n.1) ∙ subst (λ (z : List Row). port_mark (merged_by z) m ≡ 0) (sym c.self.view_is) c.requires.plain

pub add_last_unfiled-requires-clause-there : goal.add_last_unfiled-requires-clause-there
add_last_unfiled-requires-clause-there c =
    let w = web_by c.self.inside.web in let x = cell_id c.args.c in let m = cell_id c.args.home in let a = c.self.invariant in let r = c.paired.ensures in
    let t = seen_there w x (subst (λ (z : List Row). IsSome (merged_by z x)) (sym c.self.view_is) c.requires.there) in
    let k = sym (seen_kind w x t.1) ∙ subst (λ (z : List Row). kind_at (merged_by z) x ≡ c.args.kind) (sym c.self.view_is) c.requires.kind in
    let n = seen_membrane w m (subst (λ (z : List Row). kind_at (merged_by z) m ≡ Membrane) (sym c.self.view_is) c.requires.membrane) in
    let plain = subst (λ (z : List Row). port_mark (merged_by z) m ≡ 0) (sym c.self.view_is) c.requires.plain in
    let q : cell_id c.self_kept-keeper.result ≡ keeper w m = c.self_kept-keeper.ensures in
    let b = added_both w r a x m t.1 n.0 n.1 c.requires.differ (λ _. inr plain) in
    t.0

pub add_last_unfiled-requires-clause-kind : goal.add_last_unfiled-requires-clause-kind
add_last_unfiled-requires-clause-kind c =
    let w = web_by c.self.inside.web in let x = cell_id c.args.c in let m = cell_id c.args.home in let a = c.self.invariant in let r = c.paired.ensures in
    let t = seen_there w x (subst (λ (z : List Row). IsSome (merged_by z x)) (sym c.self.view_is) c.requires.there) in
    let k = sym (seen_kind w x t.1) ∙ subst (λ (z : List Row). kind_at (merged_by z) x ≡ c.args.kind) (sym c.self.view_is) c.requires.kind in
    let n = seen_membrane w m (subst (λ (z : List Row). kind_at (merged_by z) m ≡ Membrane) (sym c.self.view_is) c.requires.membrane) in
    let plain = subst (λ (z : List Row). port_mark (merged_by z) m ≡ 0) (sym c.self.view_is) c.requires.plain in
    let q : cell_id c.self_kept-keeper.result ≡ keeper w m = c.self_kept-keeper.ensures in
    let b = added_both w r a x m t.1 n.0 n.1 c.requires.differ (λ _. inr plain) in
    k

pub add_last_unfiled-requires-clause-homeless : goal.add_last_unfiled-requires-clause-homeless
add_last_unfiled-requires-clause-homeless c =
    let w = web_by c.self.inside.web in let x = cell_id c.args.c in let m = cell_id c.args.home in let a = c.self.invariant in let r = c.paired.ensures in
    let t = seen_there w x (subst (λ (z : List Row). IsSome (merged_by z x)) (sym c.self.view_is) c.requires.there) in
    let k = sym (seen_kind w x t.1) ∙ subst (λ (z : List Row). kind_at (merged_by z) x ≡ c.args.kind) (sym c.self.view_is) c.requires.kind in
    let n = seen_membrane w m (subst (λ (z : List Row). kind_at (merged_by z) m ≡ Membrane) (sym c.self.view_is) c.requires.membrane) in
    let plain = subst (λ (z : List Row). port_mark (merged_by z) m ≡ 0) (sym c.self.view_is) c.requires.plain in
    let q : cell_id c.self_kept-keeper.result ≡ keeper w m = c.self_kept-keeper.ensures in
    let b = added_both w r a x m t.1 n.0 n.1 c.requires.differ (λ _. inr plain) in
    no_home_under w r a x (subst (λ (z : List Row). home_at (merged_by z) x ≡ None) (sym c.self.view_is) c.requires.homeless)

pub add_last_unfiled-requires-clause-membrane : goal.add_last_unfiled-requires-clause-membrane
add_last_unfiled-requires-clause-membrane c =
    let w = web_by c.self.inside.web in let x = cell_id c.args.c in let m = cell_id c.args.home in let a = c.self.invariant in let r = c.paired.ensures in
    let t = seen_there w x (subst (λ (z : List Row). IsSome (merged_by z x)) (sym c.self.view_is) c.requires.there) in
    let k = sym (seen_kind w x t.1) ∙ subst (λ (z : List Row). kind_at (merged_by z) x ≡ c.args.kind) (sym c.self.view_is) c.requires.kind in
    let n = seen_membrane w m (subst (λ (z : List Row). kind_at (merged_by z) m ≡ Membrane) (sym c.self.view_is) c.requires.membrane) in
    let plain = subst (λ (z : List Row). port_mark (merged_by z) m ≡ 0) (sym c.self.view_is) c.requires.plain in
    let q : cell_id c.self_kept-keeper.result ≡ keeper w m = c.self_kept-keeper.ensures in
    let b = added_both w r a x m t.1 n.0 n.1 c.requires.differ (λ _. inr plain) in
    ap (kind_at w) q ∙ keeper_kind w r a m n.0

pub add_last_unfiled-requires-clause-differ : goal.add_last_unfiled-requires-clause-differ
add_last_unfiled-requires-clause-differ c =
    let w = web_by c.self.inside.web in let x = cell_id c.args.c in let m = cell_id c.args.home in let a = c.self.invariant in let r = c.paired.ensures in
    let t = seen_there w x (subst (λ (z : List Row). IsSome (merged_by z x)) (sym c.self.view_is) c.requires.there) in
    let k = sym (seen_kind w x t.1) ∙ subst (λ (z : List Row). kind_at (merged_by z) x ≡ c.args.kind) (sym c.self.view_is) c.requires.kind in
    let n = seen_membrane w m (subst (λ (z : List Row). kind_at (merged_by z) m ≡ Membrane) (sym c.self.view_is) c.requires.membrane) in
    let plain = subst (λ (z : List Row). port_mark (merged_by z) m ≡ 0) (sym c.self.view_is) c.requires.plain in
    let q : cell_id c.self_kept-keeper.result ≡ keeper w m = c.self_kept-keeper.ensures in
    let b = added_both w r a x m t.1 n.0 n.1 c.requires.differ (λ _. inr plain) in
    λ e. b.0 (e ∙ q)

pub add_last_unfiled-requires-clause-files : goal.add_last_unfiled-requires-clause-files
add_last_unfiled-requires-clause-files c =
    let w = web_by c.self.inside.web in let m = cell_id c.args.home in let a = c.self.invariant in
    let n = seen_membrane w m (subst (λ (z : List Row). kind_at (merged_by z) m ≡ Membrane) (sym c.self.view_is) c.requires.membrane) in
    let plain = subst (λ (z : List Row). port_mark (merged_by z) m ≡ 0) (sym c.self.view_is) c.requires.plain in
    let files = subst (λ (z : List Row). FilesNone (merged_by z) m) (sym c.self.view_is) c.requires.files in
    subst (FilesNone w) (sym c.self_kept-keeper.ensures) (files_under w a m n.0 n.1 plain files)

pub invariant_of-self : goal.invariant_of-self
invariant_of-self c =
    let w = web_by c.self.inside.web in let x = cell_id c.args.c in let m = cell_id c.args.home in let a = c.self.invariant in let r = c.paired.ensures in
    let t = seen_there w x (subst (λ (z : List Row). IsSome (merged_by z x)) (sym c.self.view_is) c.requires.there) in
    let k = sym (seen_kind w x t.1) ∙ subst (λ (z : List Row). kind_at (merged_by z) x ≡ c.args.kind) (sym c.self.view_is) c.requires.kind in
    let n = seen_membrane w m (subst (λ (z : List Row). kind_at (merged_by z) m ≡ Membrane) (sym c.self.view_is) c.requires.membrane) in
    let plain = subst (λ (z : List Row). port_mark (merged_by z) m ≡ 0) (sym c.self.view_is) c.requires.plain in
    let q : cell_id c.self_kept-keeper.result ≡ keeper w m = c.self_kept-keeper.ensures in
    let b = added_both w r a x m t.1 n.0 n.1 c.requires.differ (λ _. inr plain) in
    subst AreKept (sym (c.add_last_unfiled.ensures ∙ ap (λ z. added_last w z x) q)) b.1

pub returns : goal.returns
returns c =
    let w = web_by c.self.inside.web in let x = cell_id c.args.c in let m = cell_id c.args.home in let a = c.self.invariant in let r = c.paired.ensures in
    let t = seen_there w x (subst (λ (z : List Row). IsSome (merged_by z x)) (sym c.self.view_is) c.requires.there) in
    let k = sym (seen_kind w x t.1) ∙ subst (λ (z : List Row). kind_at (merged_by z) x ≡ c.args.kind) (sym c.self.view_is) c.requires.kind in
    let n = seen_membrane w m (subst (λ (z : List Row). kind_at (merged_by z) m ≡ Membrane) (sym c.self.view_is) c.requires.membrane) in
    let plain = subst (λ (z : List Row). port_mark (merged_by z) m ≡ 0) (sym c.self.view_is) c.requires.plain in
    let q : cell_id c.self_kept-keeper.result ≡ keeper w m = c.self_kept-keeper.ensures in
    let b = added_both w r a x m t.1 n.0 n.1 c.requires.differ (λ _. inr plain) in
    ap seen (c.add_last_unfiled.ensures ∙ ap (λ z. added_last w z x) q) ∙ b.2 ∙ ap (λ (z : List Row). added_last (merged_by z) m x) c.self.view_is
