use Rattle.std.proofs.Common.{◌≡◌, ℕ, Some, None, Option, sym, ap, subst, ◌∙◌}
use Rattle.lmn_store_heap.specs.Heap.{alter}
use Rattle.lmn_web_cells.specs.CellIds.{cell_id}
use Rattle.lmn_web.specs.Webs.{WebCell, home_at, kind_at, partner_at, IsLoose}
use Rattle.lmn_web_merging.specs.Keepers.{merged_by}
use Rattle.lmn_web_merging.proofs.Sending.{home_some}
use Rattle.lmn_store_web.proofs.FreeLemmas.{some_none, drops, loose}
use Rattle.lmn_store_web.proofs.freeing.free_cell.Goals as goal
use Rattle.lmn_base.proofs.Lists.{some_is}

pub unlink-requires-clause-listed : goal.unlink-requires-clause-listed
unlink-requires-clause-listed c = c.requires.listed

pub unlink-requires-clause-kind : goal.unlink-requires-clause-kind
unlink-requires-clause-kind c = c.requires.kind

pub free-requires : goal.free-requires
free-requires c =
    let w = merged_by c.args.web.now in let x = cell_id c.args.c in
    let h = some_is (home_at w x) c.requires.listed in
    subst (λ (f : ℕ → Option WebCell). IsLoose f x) (sym (c.unlink.ensures h.0 h.1))
    (loose w h.0 x (c.listed.ensures.homes h.0 x (kind_at w x) (c.listed.ensures.listed h.0 x h.1)).2 (home_some (w x) c.requires.listed) c.requires.alone c.requires.empty)

pub returns-clause-drops : goal.returns-clause-drops
returns-clause-drops c m e =
    let w = merged_by c.args.web.now in let x = cell_id c.args.c in
    drops w m x (c.listed.ensures.homes m x (kind_at w x) (c.listed.ensures.listed m x e)).2 (merged_by c.free.new.self) (c.free.ensures ∙ ap (λ (f : ℕ → Option WebCell). alter f x (λ _. None)) (c.unlink.ensures m e))

pub returns-clause-strange : goal.returns-clause-strange
returns-clause-strange c a i b j e q =
    let w = merged_by c.args.web.now in
    let back : partner_at w b j ≡ Some (a, i) = c.paired.ensures.back a i b j e in
    some_none (a, i) (sym back ∙ ap (λ k. partner_at w k j) q ∙ c.requires.alone j)
