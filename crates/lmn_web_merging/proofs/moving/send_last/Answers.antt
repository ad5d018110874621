use Rattle.std.proofs.Common.{◌≡◌, ℕ, ◌∷◌, ◌++◌, [], Some, IsSome, Option, sym, ap, subst, ◌∙◌}
use Rattle.lmn_web_cells.specs.CellIds.{cell_id}
use Rattle.lmn_web.specs.Webs.{WebCell, web_by, home_at, kind_at, cells_in, unlinked, added_last, relisted}
use Rattle.lmn_web_merging.proofs.Sending.{home_some, out_there, out_homeless, out_kind, out_kinds, list_u, goes}
use Rattle.lmn_web_merging.proofs.moving.send_last.Goals as goal
use Rattle.lmn_base.proofs.Lists.{some_is}

pub add_last-requires-clause-there : goal.add_last-requires-clause-there
add_last-requires-clause-there c =
    let w = web_by c.args.web.now in let x = cell_id c.args.c in
    let h = some_is (home_at w x) c.requires.listed in
    subst (λ (f : ℕ → Option WebCell). IsSome (f x)) (sym (c.unlink.ensures h.0 h.1)) (out_there w h.0 0 x (c.listed.ensures.homes h.0 x (kind_at w x) (c.listed.ensures.listed h.0 x h.1)).2 (home_some (w x) c.requires.listed))

pub add_last-requires-clause-homeless : goal.add_last-requires-clause-homeless
add_last-requires-clause-homeless c =
    let w = web_by c.args.web.now in let x = cell_id c.args.c in
    let h = some_is (home_at w x) c.requires.listed in
    ap (λ (f : ℕ → Option WebCell). home_at f x) (c.unlink.ensures h.0 h.1) ∙ out_homeless w h.0 0 x (c.listed.ensures.homes h.0 x (kind_at w x) (c.listed.ensures.listed h.0 x h.1)).2

pub add_last-requires-clause-kind : goal.add_last-requires-clause-kind
add_last-requires-clause-kind c =
    let w = web_by c.args.web.now in let x = cell_id c.args.c in
    let h = some_is (home_at w x) c.requires.listed in
    ap (λ (f : ℕ → Option WebCell). kind_at f x) (c.unlink.ensures h.0 h.1) ∙ out_kinds w h.0 0 x x ∙ c.requires.kind

pub add_last-requires-clause-membrane : goal.add_last-requires-clause-membrane
add_last-requires-clause-membrane c =
    let w = web_by c.args.web.now in let x = cell_id c.args.c in
    let h = some_is (home_at w x) c.requires.listed in
    ap (λ (f : ℕ → Option WebCell). kind_at f (cell_id c.args.home)) (c.unlink.ensures h.0 h.1) ∙ out_kinds w h.0 0 x (cell_id c.args.home) ∙ c.requires.membrane

pub returns : goal.returns
returns c m e =
    let w = web_by c.args.web.now in let x = cell_id c.args.c in let n = cell_id c.args.home in let u = unlinked w m x in
    let left = (c.listed.ensures.homes m x (kind_at w x) (c.listed.ensures.listed m x e)).2 in
    let apart : ◌≡◌ {A = ℕ} m n → ⊥ = λ q. c.requires.elsewhere (e ∙ ap Some q) in
    let list : cells_in u n (kind_at u x) ++ x ∷ [] ≡ cells_in w n c.args.kind ++ x ∷ [] = ap (λ us. us ++ x ∷ []) (list_u w m n x left c.requires.differ apart (kind_at u x) ∙ ap (cells_in w n) (out_kind w m n x left ∙ c.requires.kind)) in
    goes w m n x left c.requires.differ apart (cells_in w n c.args.kind ++ x ∷ []) (web_by c.add_last.new.self)
    (c.add_last.ensures ∙ ap (λ (f : ℕ → Option WebCell). added_last f n x) (c.unlink.ensures m e) ∙ ap (relisted u n x (Some n)) list)
