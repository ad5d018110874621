use Rattle.std.proofs.Common.{◌≡◌, ℕ, ◌∷◌, ◌++◌, [], Some, IsSome, Option, refl, sym, ap, subst, ◌∙◌}
use Rattle.std.specs.Option.{option_map}
use Rattle.lmn_store_heap.specs.Lists.{from}
use Rattle.lmn_web_cells.specs.Runs.{put_before}
use Rattle.lmn_web.proofs.ListedLemmas.{from_in}
use Rattle.lmn_web_cells.specs.CellIds.{cell_id}
use Rattle.lmn_web.specs.Webs.{WebCell, web_by, home_at, kind_at, cells_in, unlinked, added_last, added_before, relisted}
use Rattle.lmn_web_merging.proofs.Sending.{home_some, out_there, out_homeless, out_kind, out_kinds, list_u, goes, put_first}
use Rattle.lmn_web_merging.proofs.moving.send_first.Goals as goal
use Rattle.lmn_base.proofs.Lists.{some_is}

pub add_last-requires-clause-there : goal.add_last-requires-clause-there
add_last-requires-clause-there c =
    let w = web_by c.args.web.now in let x = cell_id c.args.c in
    let h = some_is (home_at w x) c.requires.listed in
    subst (λ (f : ℕ → Option WebCell). IsSome (f x)) (sym (c.unlink.ensures h.0 h.1)) (out_there w h.0 0 x (c.listed.ensures.homes h.0 x (kind_at w x) (c.listed.ensures.listed h.0 x h.1)).2 (home_some (w x) c.requires.listed))

pub add_last-requires-clause-homeless : goal.add_last-requires-clause-homeless
add_last-requires-clause-homeless c =
    let w = web_by c.args.web.now in let x = cell_id c.args.c in
    let h = some_is (home_at w x) c.requires.listed in
    ap (λ (f : ℕ → Option WebCell). home_at f x) (c.unlink.ensures h.0 h.1) ∙ out_homeless w h.0 0 x (c.listed.ensures.homes h.0 x (kind_at w x) (c.listed.ensures.listed h.0 x h.1)).2

pub add_last-requires-clause-kind : goal.add_last-requires-clause-kind
add_last-requires-clause-kind c =
    let w = web_by c.args.web.now in let x = cell_id c.args.c in
    let h = some_is (home_at w x) c.requires.listed in
    ap (λ (f : ℕ → Option WebCell). kind_at f x) (c.unlink.ensures h.0 h.1) ∙ out_kinds w h.0 0 x x ∙ c.requires.kind

pub add_last-requires-clause-membrane : goal.add_last-requires-clause-membrane
add_last-requires-clause-membrane c =
    let w = web_by c.args.web.now in let x = cell_id c.args.c in
    let h = some_is (home_at w x) c.requires.listed in
    ap (λ (f : ℕ → Option WebCell). kind_at f (cell_id c.args.home)) (c.unlink.ensures h.0 h.1) ∙ out_kinds w h.0 0 x (cell_id c.args.home) ∙ c.requires.membrane

pub first-requires : goal.first-requires
first-requires c =
    let w = web_by c.args.web.now in let x = cell_id c.args.c in
    let h = some_is (home_at w x) c.requires.listed in
    (ap (λ (f : ℕ → Option WebCell). kind_at f (cell_id c.args.home)) (c.unlink.ensures h.0 h.1) ∙ out_kinds w h.0 0 x (cell_id c.args.home) ∙ c.requires.membrane)

pub add_before-requires-clause-there : goal.add_before-requires-clause-there
add_before-requires-clause-there c =
    let w = web_by c.args.web.now in let x = cell_id c.args.c in
    let h = some_is (home_at w x) c.requires.listed in
    subst (λ (f : ℕ → Option WebCell). IsSome (f x)) (sym (c.unlink.ensures h.0 h.1)) (out_there w h.0 0 x (c.listed.ensures.homes h.0 x (kind_at w x) (c.listed.ensures.listed h.0 x h.1)).2 (home_some (w x) c.requires.listed))

pub add_before-requires-clause-homeless : goal.add_before-requires-clause-homeless
add_before-requires-clause-homeless c =
    let w = web_by c.args.web.now in let x = cell_id c.args.c in
    let h = some_is (home_at w x) c.requires.listed in
    ap (λ (f : ℕ → Option WebCell). home_at f x) (c.unlink.ensures h.0 h.1) ∙ out_homeless w h.0 0 x (c.listed.ensures.homes h.0 x (kind_at w x) (c.listed.ensures.listed h.0 x h.1)).2

pub add_before-requires-clause-home : goal.add_before-requires-clause-home
add_before-requires-clause-home c = subst (λ (o : Option ℕ). IsSome o) (sym c.in-Some.ensures.home) refl

pub add_before-requires-clause-differ : goal.add_before-requires-clause-differ
add_before-requires-clause-differ c e = c.requires.differ (let z : Some (cell_id c.args.c) ≡ Some (cell_id c.args.home) = sym e ∙ c.in-Some.ensures.home in cc)

pub add_before-requires-clause-kind : goal.add_before-requires-clause-kind
add_before-requires-clause-kind c =
    let w = web_by c.args.web.now in let x = cell_id c.args.c in let n = cell_id c.args.home in let v = web_by c.unlink.new.self in
    let h = some_is (home_at w x) c.requires.listed in
    (c.listed-2.ensures.homes n (cell_id c.in-Some.first) c.args.kind (from_in (Some (cell_id c.in-Some.first)) (cells_in v n c.args.kind) c.in-Some.ensures.list (cell_id c.in-Some.first) refl)).1
    ∙ sym (ap (λ (f : ℕ → Option WebCell). kind_at f x) (c.unlink.ensures h.0 h.1) ∙ out_kinds w h.0 0 x x ∙ c.requires.kind)

pub returns-in-None : goal.returns-in-None
returns-in-None c m e =
    let w = web_by c.args.web.now in let x = cell_id c.args.c in let n = cell_id c.args.home in let u = unlinked w m x in let v = web_by c.unlink.new.self in
    let left = (c.listed.ensures.homes m x (kind_at w x) (c.listed.ensures.listed m x e)).2 in
    let apart : ◌≡◌ {A = ℕ} m n → ⊥ = λ q. c.requires.elsewhere (e ∙ ap Some q) in
    let none : cells_in v n c.args.kind ≡ [] = sym (subst (λ o. from (option_map cell_id o) (cells_in v n c.args.kind) ≡ cells_in v n c.args.kind) c.in-None.is c.first.ensures.list) in
    let here : cells_in u n c.args.kind ≡ [] = ap (λ (f : ℕ → Option WebCell). cells_in f n c.args.kind) (sym (c.unlink.ensures m e)) ∙ none in
    let same : cells_in u n (kind_at u x) ≡ [] = ap (cells_in u n) (out_kind w m n x left ∙ c.requires.kind) ∙ here in
    let was : cells_in w n c.args.kind ≡ [] = sym (list_u w m n x left c.requires.differ apart c.args.kind) ∙ here in
    let list : cells_in u n (kind_at u x) ++ x ∷ [] ≡ x ∷ cells_in w n c.args.kind = ap (λ us. us ++ x ∷ []) same ∙ ap (λ us. x ∷ us) (sym was) in
    goes w m n x left c.requires.differ apart (x ∷ cells_in w n c.args.kind) (web_by c.add_last.new.self)
    (c.add_last.ensures ∙ ap (λ (f : ℕ → Option WebCell). added_last f n x) (c.unlink.ensures m e) ∙ ap (relisted u n x (Some n)) list)

pub returns-in-Some : goal.returns-in-Some
returns-in-Some c m e =
    let w = web_by c.args.web.now in let x = cell_id c.args.c in let n = cell_id c.args.home in let u = unlinked w m x in let v = web_by c.unlink.new.self in let d = cell_id c.in-Some.first in
    let left = (c.listed.ensures.homes m x (kind_at w x) (c.listed.ensures.listed m x e)).2 in
    let apart : ◌≡◌ {A = ℕ} m n → ⊥ = λ q. c.requires.elsewhere (e ∙ ap Some q) in
    let first : from (Some d) (cells_in u n c.args.kind) ≡ cells_in u n c.args.kind = subst (λ (f : ℕ → Option WebCell). from (Some d) (cells_in f n c.args.kind) ≡ cells_in f n c.args.kind) (c.unlink.ensures m e) c.in-Some.ensures.list in
    let list : put_before x d (cells_in u n (kind_at u x)) ≡ x ∷ cells_in w n c.args.kind =
    ap (λ k. put_before x d (cells_in u n k)) (out_kind w m n x left ∙ c.requires.kind) ∙ put_first x d (cells_in u n c.args.kind) first ∙ ap (λ us. x ∷ us) (list_u w m n x left c.requires.differ apart c.args.kind) in
    goes w m n x left c.requires.differ apart (x ∷ cells_in w n c.args.kind) (web_by c.add_before.new.self)
    (c.add_before.ensures n c.in-Some.ensures.home ∙ ap (λ (f : ℕ → Option WebCell). added_before f n d x) (c.unlink.ensures m e) ∙ ap (relisted u n x (Some n)) list)
