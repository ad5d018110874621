use Rattle.std.proofs.Common.{ℕ, Some, IsSome, Option, sym, ap, subst, ◌∙◌}
use Rattle.lmn_web_cells.specs.CellIds.{cell_id}
use Rattle.lmn_web.specs.Webs.{WebCell, home_at, kind_at, web_label, added_last}
use Rattle.lmn_web_merging.specs.Keepers.{merged_by, port_mark}
use Rattle.lmn_web_merging.proofs.Sending.{home_some, out_kinds, out_there, out_homeless}
use Rattle.lmn_store_web.proofs.SendLemmas.{out_labels, out_marks, sends}
use Rattle.lmn_store_web.proofs.sending.send_plain.Goals as goal
use Rattle.lmn_base.proofs.Lists.{some_is}

pub add_last_plain-requires-clause-there : goal.add_last_plain-requires-clause-there
add_last_plain-requires-clause-there c =
    let w = merged_by c.args.web.now in let x = cell_id c.args.c in
    let h = some_is (home_at w x) c.requires.listed in
    subst (λ (f : ℕ → Option WebCell). IsSome (f x)) (sym (c.unlink.ensures h.0 h.1)) (out_there w h.0 0 x (c.listed.ensures.homes h.0 x (kind_at w x) (c.listed.ensures.listed h.0 x h.1)).2 (home_some (w x) c.requires.listed))

pub add_last_plain-requires-clause-homeless : goal.add_last_plain-requires-clause-homeless
add_last_plain-requires-clause-homeless c =
    let w = merged_by c.args.web.now in let x = cell_id c.args.c in
    let h = some_is (home_at w x) c.requires.listed in
    ap (λ (f : ℕ → Option WebCell). home_at f x) (c.unlink.ensures h.0 h.1) ∙ out_homeless w h.0 0 x (c.listed.ensures.homes h.0 x (kind_at w x) (c.listed.ensures.listed h.0 x h.1)).2

pub add_last_plain-requires-clause-kind : goal.add_last_plain-requires-clause-kind
add_last_plain-requires-clause-kind c =
    let w = merged_by c.args.web.now in let x = cell_id c.args.c in
    let h = some_is (home_at w x) c.requires.listed in
    ap (λ (f : ℕ → Option WebCell). kind_at f x) (c.unlink.ensures h.0 h.1) ∙ out_kinds w h.0 0 x x ∙ c.requires.kind

pub add_last_plain-requires-clause-membrane : goal.add_last_plain-requires-clause-membrane
add_last_plain-requires-clause-membrane c =
    let w = merged_by c.args.web.now in let x = cell_id c.args.c in
    let h = some_is (home_at w x) c.requires.listed in
    ap (λ (f : ℕ → Option WebCell). kind_at f (cell_id c.args.home)) (c.unlink.ensures h.0 h.1) ∙ out_kinds w h.0 0 x (cell_id c.args.home) ∙ c.requires.membrane

pub add_last_plain-requires-clause-plain : goal.add_last_plain-requires-clause-plain
add_last_plain-requires-clause-plain c =
    let w = merged_by c.args.web.now in let x = cell_id c.args.c in let n = cell_id c.args.home in
    let h = some_is (home_at w x) c.requires.listed in
    ap (λ (f : ℕ → Option WebCell). port_mark f n) (c.unlink.ensures h.0 h.1) ∙ out_marks w h.0 x n ∙ c.requires.plain

pub add_last_plain-requires-clause-files : goal.add_last_plain-requires-clause-files
add_last_plain-requires-clause-files c l e =
    let w = merged_by c.args.web.now in let x = cell_id c.args.c in let n = cell_id c.args.home in
    let h = some_is (home_at w x) c.requires.listed in
    c.requires.files l (sym (ap (λ (f : ℕ → Option WebCell). web_label f n) (c.unlink.ensures h.0 h.1) ∙ out_labels w h.0 x n) ∙ e)

pub returns : goal.returns
returns c m e =
    let w = merged_by c.args.web.now in let x = cell_id c.args.c in
    sends w m (cell_id c.args.home) x (c.listed.ensures.homes m x (kind_at w x) (c.listed.ensures.listed m x e)).2 c.requires.differ (λ q. c.requires.elsewhere (e ∙ ap Some q)) (merged_by c.add_last_plain.new.self)
    (c.add_last_plain.ensures ∙ ap (λ (f : ℕ → Option WebCell). added_last f (cell_id c.args.home) x) (c.unlink.ensures m e))
