use Rattle.std.proofs.Common.{◌≡◌, ℕ, ◌∷◌, Option, Some, None, IsSome, sym, ap, subst, ◌∙◌}
use Rattle.std.specs.Option.{option_map}
use Rattle.lmn_web_cells.specs.Cells.{HeldCell, cells_by, IsLinkWord, link_of}
use Rattle.lmn_web_cells.specs.CellIds.{cell_id}
use Rattle.lmn_web.specs.Classes.{key_by, key_in, place_in, top, begun, lengthened, Refiled}
use Rattle.lmn_web.proofs.ListedLemmas.{some_there}
use Rattle.lmn_web.proofs.ClassSteps.{last_found, first_alive, first_some, holder_alive, holder_word, filed_begun, filed_longer}
use Rattle.lmn_web.proofs.classes.file_last.Goals as goal

pub own_key-key-requires : goal.own_key-key-requires
own_key-key-requires c = c.requires.2.there_c

pub find-found-requires-clause-tree : goal.find-found-requires-clause-tree
find-found-requires-clause-tree c = let r = c.requires in let a = r.2 in (r.1, a.classed.tree, a.classed.sorted, λ l i. a.kinds l (a.classed.inside l i))

pub begin-requires-clause-holder : goal.begin-requires-clause-holder
begin-requires-clause-holder c =
    let f = cells_by c.args.cells.now in let m = cell_id c.args.m in let x = cell_id c.args.c in let p = key_in f x in
    let kp : key_by c.own_key-key.result ≡ p = c.own_key-key.ensures.class in
    let r = c.requires in let t = r.1 in let a = r.2 in
    let found = c.find-found.ensures.place t a.classed.tree in
    let hold : cell_id c.find-found.result.holder ≡ (place_in f p m t).holder = found.0 ∙ ap (λ q. (place_in f q m t).holder) kp in
    subst (λ z. IsSome (f z)) (sym hold) (holder_alive f m x r.0 t a p)

pub begin-requires-clause-word : goal.begin-requires-clause-word
begin-requires-clause-word c =
    let f = cells_by c.args.cells.now in let m = cell_id c.args.m in let x = cell_id c.args.c in let p = key_in f x in
    let kp : key_by c.own_key-key.result ≡ p = c.own_key-key.ensures.class in
    let r = c.requires in let t = r.1 in let a = r.2 in
    let found = c.find-found.ensures.place t a.classed.tree in
    let hold : cell_id c.find-found.result.holder ≡ (place_in f p m t).holder = found.0 ∙ ap (λ q. (place_in f q m t).holder) kp in
    let link : link_of c.find-found.result.word ≡ (place_in f p m t).link = found.1 ∙ ap (λ q. (place_in f q m t).link) kp in
    subst (λ z. IsLinkWord (f z) c.find-found.result.word) (sym hold) (holder_word f m x r.0 t a p c.find-found.result.word c.find-found.ensures.word link)

pub target-first-requires-clause-there : goal.target-first-requires-clause-there
target-first-requires-clause-there c =
    let f = cells_by c.args.cells.now in let m = cell_id c.args.m in let x = cell_id c.args.c in let p = key_in f x in
    let kp : key_by c.own_key-key.result ≡ p = c.own_key-key.ensures.class in
    let r = c.requires in let t = r.1 in let a = r.2 in
    let l = cell_id c.in-Some.last in
    let hung : top (place_in f p m t).tree ≡ Some l = ap (λ q. top (place_in f q m t).tree) (sym kp) ∙ sym (c.find-found.ensures.place t a.classed.tree).2 ∙ ap (option_map cell_id) c.in-Some.is in
    (last_found f m x r.0 t a p l hung).alive

pub lengthen-requires-clause-holder : goal.lengthen-requires-clause-holder
lengthen-requires-clause-holder c =
    let f = cells_by c.args.cells.now in let m = cell_id c.args.m in let x = cell_id c.args.c in let p = key_in f x in
    let kp : key_by c.own_key-key.result ≡ p = c.own_key-key.ensures.class in
    let r = c.requires in let t = r.1 in let a = r.2 in
    let found = c.find-found.ensures.place t a.classed.tree in
    let hold : cell_id c.find-found.result.holder ≡ (place_in f p m t).holder = found.0 ∙ ap (λ q. (place_in f q m t).holder) kp in
    subst (λ z. IsSome (f z)) (sym hold) (holder_alive f m x r.0 t a p)

pub lengthen-requires-clause-word : goal.lengthen-requires-clause-word
lengthen-requires-clause-word c =
    let f = cells_by c.args.cells.now in let m = cell_id c.args.m in let x = cell_id c.args.c in let p = key_in f x in
    let kp : key_by c.own_key-key.result ≡ p = c.own_key-key.ensures.class in
    let r = c.requires in let t = r.1 in let a = r.2 in
    let found = c.find-found.ensures.place t a.classed.tree in
    let hold : cell_id c.find-found.result.holder ≡ (place_in f p m t).holder = found.0 ∙ ap (λ q. (place_in f q m t).holder) kp in
    let link : link_of c.find-found.result.word ≡ (place_in f p m t).link = found.1 ∙ ap (λ q. (place_in f q m t).link) kp in
    subst (λ z. IsLinkWord (f z) c.find-found.result.word) (sym hold) (holder_word f m x r.0 t a p c.find-found.result.word c.find-found.ensures.word link)

pub lengthen-requires-clause-last : goal.lengthen-requires-clause-last
lengthen-requires-clause-last c =
    let f = cells_by c.args.cells.now in let m = cell_id c.args.m in let x = cell_id c.args.c in let p = key_in f x in
    let kp : key_by c.own_key-key.result ≡ p = c.own_key-key.ensures.class in
    let r = c.requires in let t = r.1 in let a = r.2 in
    let l = cell_id c.in-Some.last in
    let hung : top (place_in f p m t).tree ≡ Some l = ap (λ q. top (place_in f q m t).tree) (sym kp) ∙ sym (c.find-found.ensures.place t a.classed.tree).2 ∙ ap (option_map cell_id) c.in-Some.is in
    (last_found f m x r.0 t a p l hung).alive

pub lengthen-requires-clause-first : goal.lengthen-requires-clause-first
lengthen-requires-clause-first c =
    let f = cells_by c.args.cells.now in let m = cell_id c.args.m in let x = cell_id c.args.c in let p = key_in f x in
    let kp : key_by c.own_key-key.result ≡ p = c.own_key-key.ensures.class in
    let r = c.requires in let t = r.1 in let a = r.2 in
    let l = cell_id c.in-Some.last in
    let hung : top (place_in f p m t).tree ≡ Some l = ap (λ q. top (place_in f q m t).tree) (sym kp) ∙ sym (c.find-found.ensures.place t a.classed.tree).2 ∙ ap (option_map cell_id) c.in-Some.is in
    first_alive f m x r.0 t a p l hung (cell_id c.target-first.result) (c.target-first.ensures)

pub returns-in-None : goal.returns-in-None
returns-in-None c xs t xs' a fresh one =
    let f = cells_by c.args.cells.now in let m = cell_id c.args.m in let x = cell_id c.args.c in let p = key_in f x in
    let kp : key_by c.own_key-key.result ≡ p = c.own_key-key.ensures.class in
    let found = c.find-found.ensures.place t a.classed.tree in
    let hold : cell_id c.find-found.result.holder ≡ (place_in f p m t).holder = found.0 ∙ ap (λ q. (place_in f q m t).holder) kp in
    let link : link_of c.find-found.result.word ≡ (place_in f p m t).link = found.1 ∙ ap (λ q. (place_in f q m t).link) kp in
    let none : top (place_in f p m t).tree ≡ None = ap (λ q. top (place_in f q m t).tree) (sym kp) ∙ sym found.2 ∙ ap (option_map cell_id) c.in-None.is in
    subst (λ (g : ℕ → Option HeldCell). Refiled f g m (x ∷ xs) p xs') (sym (c.begin.ensures ∙ (λ i. begun f (hold i) (link i) x))) (filed_begun f c.whole.ensures m x xs t xs' a fresh one none)

pub returns-in-Some : goal.returns-in-Some
returns-in-Some c xs t xs' a fresh one =
    let f = cells_by c.args.cells.now in let m = cell_id c.args.m in let x = cell_id c.args.c in let p = key_in f x in
    let kp : key_by c.own_key-key.result ≡ p = c.own_key-key.ensures.class in
    let found = c.find-found.ensures.place t a.classed.tree in
    let hold : cell_id c.find-found.result.holder ≡ (place_in f p m t).holder = found.0 ∙ ap (λ q. (place_in f q m t).holder) kp in
    let link : link_of c.find-found.result.word ≡ (place_in f p m t).link = found.1 ∙ ap (λ q. (place_in f q m t).link) kp in
    let l = cell_id c.in-Some.last in
    let hung : top (place_in f p m t).tree ≡ Some l = ap (λ q. top (place_in f q m t).tree) (sym kp) ∙ sym (c.find-found.ensures.place t a.classed.tree).2 ∙ ap (option_map cell_id) c.in-Some.is in
    let d = cell_id c.target-first.result in
    subst (λ (g : ℕ → Option HeldCell). Refiled f g m (x ∷ xs) p xs') (sym (c.lengthen.ensures ∙ (λ i. lengthened f m (hold i) (link i) l d x))) (filed_longer f c.whole.ensures m x xs t xs' a fresh one l d hung (c.target-first.ensures))

pub target-first-requires-clause-leads : goal.target-first-requires-clause-leads
target-first-requires-clause-leads c =
    let r = c.requires in let t = r.1 in let a = r.2 in
    let f = cells_by c.args.cells.now in let m = cell_id c.args.m in let x = cell_id c.args.c in let p = key_in f x in
    let kp : key_by c.own_key-key.result ≡ p = c.own_key-key.ensures.class in
    let l = cell_id c.in-Some.last in
    let hung : top (place_in f p m t).tree ≡ Some l = ap (λ q. top (place_in f q m t).tree) (sym kp) ∙ sym (c.find-found.ensures.place t a.classed.tree).2 ∙ ap (option_map cell_id) c.in-Some.is in
    some_there _ (λ e. first_some f m x r.0 t a p l hung e)
