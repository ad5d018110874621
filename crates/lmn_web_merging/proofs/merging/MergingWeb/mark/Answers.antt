use Rattle.std.proofs.Common.{◌≡◌, ◌≤◌, List, IsSome, sym, subst, ◌∙◌}
use Rattle.std.specs.Prelude.{slice_index_or}
use Rattle.lmn_web_cells.specs.Rows.{Row}
use Rattle.lmn_web_cells.specs.CellIds.{cell_id}
use Rattle.lmn_web.specs.Webs.{web_by, arity_at, marks_of}
use Rattle.lmn_web_merging.specs.Keepers.{merged_by}
use Rattle.lmn_web_merging.proofs.Seen.{seen_there}
use Rattle.lmn_web_merging.proofs.Labelled.{slot_within, mark_seen}
use Rattle.lmn_web_merging.proofs.merging.MergingWeb.mark.Goals as goal

pub mark-requires-clause-there : goal.mark-requires-clause-there
mark-requires-clause-there c = (seen_there (web_by c.self.inside.web) (cell_id c.args.c) (subst (λ (z : List Row). IsSome (merged_by z (cell_id c.args.c))) (sym c.self.view_is) c.requires.there)).0

pub mark-requires-clause-slot : goal.mark-requires-clause-slot
mark-requires-clause-slot c =
    let w = web_by c.self.inside.web in let x = cell_id c.args.c in
    slot_within w x c.args.slot (seen_there (web_by c.self.inside.web) (cell_id c.args.c) (subst (λ (z : List Row). IsSome (merged_by z (cell_id c.args.c))) (sym c.self.view_is) c.requires.there)).1 (subst (λ (z : List Row). c.args.slot ≤ arity_at (merged_by z) x) (sym c.self.view_is) c.requires.slot)

pub returns : goal.returns
returns c =
    let w = web_by c.self.inside.web in let x = cell_id c.args.c in
    subst (λ (z : List Row). c.mark.result ≡ slice_index_or (marks_of (merged_by z x)) c.args.slot 0) c.self.view_is
    (c.mark.ensures ∙ sym (mark_seen w x c.args.slot (seen_there (web_by c.self.inside.web) (cell_id c.args.c) (subst (λ (z : List Row). IsSome (merged_by z (cell_id c.args.c))) (sym c.self.view_is) c.requires.there)).1 (subst (λ (z : List Row). c.args.slot ≤ arity_at (merged_by z) x) (sym c.self.view_is) c.requires.slot)))
