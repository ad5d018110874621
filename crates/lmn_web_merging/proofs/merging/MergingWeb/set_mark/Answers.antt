use Rattle.std.proofs.Common.{◌≤◌, List, IsSome, sym, ap, subst, ◌∙◌}
use Rattle.std.specs.Option.{option_map}
use Rattle.lmn_store_heap.specs.Heap.{alter}
use Rattle.lmn_web_cells.specs.Rows.{Row}
use Rattle.lmn_web_cells.specs.CellIds.{cell_id}
use Rattle.lmn_web.specs.Webs.{web_by, arity_at, with_mark}
use Rattle.lmn_web_merging.specs.Keepers.{seen, merged_by}
use Rattle.lmn_web_merging.specs.Moves.{AreKept}
use Rattle.lmn_web_merging.proofs.Seen.{seen_there}
use Rattle.lmn_web_merging.proofs.Labelled.{slot_within, marked_both}
use Rattle.lmn_web_merging.proofs.merging.MergingWeb.set_mark.Goals as goal

pub set_mark-requires-clause-there : goal.set_mark-requires-clause-there
set_mark-requires-clause-there c = (seen_there (web_by c.self.inside.web) (cell_id c.args.c) (subst (λ (z : List Row). IsSome (merged_by z (cell_id c.args.c))) (sym c.self.view_is) c.requires.there)).0

pub set_mark-requires-clause-slot : goal.set_mark-requires-clause-slot
set_mark-requires-clause-slot c =
    let w = web_by c.self.inside.web in let x = cell_id c.args.c in
    slot_within w x c.args.slot (seen_there (web_by c.self.inside.web) (cell_id c.args.c) (subst (λ (z : List Row). IsSome (merged_by z (cell_id c.args.c))) (sym c.self.view_is) c.requires.there)).1 (subst (λ (z : List Row). c.args.slot ≤ arity_at (merged_by z) x) (sym c.self.view_is) c.requires.slot)

pub invariant_of-self : goal.invariant_of-self
invariant_of-self c =
    let w = web_by c.self.inside.web in let x = cell_id c.args.c in
    subst AreKept (sym c.set_mark.ensures) (marked_both w c.self.invariant x c.args.slot c.args.v (seen_there (web_by c.self.inside.web) (cell_id c.args.c) (subst (λ (z : List Row). IsSome (merged_by z (cell_id c.args.c))) (sym c.self.view_is) c.requires.there)).1 (subst (λ (z : List Row). c.args.slot ≤ arity_at (merged_by z) x) (sym c.self.view_is) c.requires.slot)).0

pub returns : goal.returns
returns c =
    let w = web_by c.self.inside.web in let x = cell_id c.args.c in
    ap seen c.set_mark.ensures ∙ (marked_both w c.self.invariant x c.args.slot c.args.v (seen_there (web_by c.self.inside.web) (cell_id c.args.c) (subst (λ (z : List Row). IsSome (merged_by z (cell_id c.args.c))) (sym c.self.view_is) c.requires.there)).1 (subst (λ (z : List Row). c.args.slot ≤ arity_at (merged_by z) x) (sym c.self.view_is) c.requires.slot)).1
    ∙ ap (λ (z : List Row). alter (merged_by z) x (option_map (with_mark c.args.slot c.args.v))) c.self.view_is
