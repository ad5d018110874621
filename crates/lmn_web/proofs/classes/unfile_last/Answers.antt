use Rattle.std.proofs.Common.{◌≡◌, ◌<◌, ℕ, Option, IsSome, sym, ap, subst, ◌∙◌}
use Rattle.lmn_web_cells.specs.Cells.{HeldCell, cells_by, IsLinkWord, link_of}
use Rattle.lmn_web_cells.specs.CellIds.{cell_id}
use Rattle.lmn_web.specs.Classes.{key_by, key_in, place_in, shortened, dropped, Refiled}
use Rattle.lmn_web.proofs.ListedLemmas.{if_some}
use Rattle.lmn_web.proofs.ClassLemmas.{lowest_there}
use Rattle.lmn_web.proofs.ClassSteps.{begins_tree, below_is, filed_shorter, filed_dropped, prev_alive, prev_inside, next_alive, even_there, may_other, holder_alive, holder_word}
use Rattle.lmn_web.proofs.classes.unfile_last.Goals as goal

pub own_key-key-requires : goal.own_key-key-requires
own_key-key-requires c = c.requires.classes.2.there_c

pub find-found-requires-clause-tree : goal.find-found-requires-clause-tree
find-found-requires-clause-tree c = let r = c.requires.classes in let a = r.2 in (r.1, a.classed.tree, a.classed.sorted, λ l i. a.kinds l (a.classed.inside l i))

pub is_last-requires-clause-there : goal.is_last-requires-clause-there
is_last-requires-clause-there c =
    let f = cells_by c.args.cells.now in let m = cell_id c.args.m in let x = cell_id c.args.c in
    let r = c.requires.classes in let t = r.1 in let a = r.2 in
    prev_alive f m x r.0 t a r.3 (cell_id c.args.prev) c.requires.prev

pub is_last-requires-clause-even : goal.is_last-requires-clause-even
is_last-requires-clause-even c d e =
    let f = cells_by c.args.cells.now in let m = cell_id c.args.m in let x = cell_id c.args.c in
    let r = c.requires.classes in let t = r.1 in let a = r.2 in
    let q = prev_inside f m x r.0 t a r.3 (cell_id c.args.prev) c.requires.prev in
    even_there f m (cell_id c.args.prev) r.0 t (may_other f m x r.0 t a (cell_id c.args.prev) q.0) q.0 d e

pub lowest-leaf-requires-clause-there : goal.lowest-leaf-requires-clause-there
lowest-leaf-requires-clause-there c =
    c.requires.classes.2.there_c

pub lowest-leaf-requires-clause-tree : goal.lowest-leaf-requires-clause-tree
lowest-leaf-requires-clause-tree c =
    let f = cells_by c.args.cells.now in let m = cell_id c.args.m in let x = cell_id c.args.c in
    let r = c.requires.classes in let t = r.1 in let a = r.2 in
    let w = begins_tree f m x r.0 t a r.3 c.requires.last in let b = below_is f m x r.0 t a x w.0 w.1 w.2 in
    (w.0, w.1, b.0, b.1, b.2, b.3, b.4)

pub shorten-requires-clause-holder : goal.shorten-requires-clause-holder
shorten-requires-clause-holder c =
    let f = cells_by c.args.cells.now in let m = cell_id c.args.m in let x = cell_id c.args.c in let p = key_in f x in
    let kp : key_by c.own_key-key.result ≡ p = c.own_key-key.ensures.class in
    let r = c.requires.classes in let t = r.1 in let a = r.2 in
    let found = c.find-found.ensures.place t a.classed.tree in
    let hold : cell_id c.find-found.result.holder ≡ (place_in f p m t).holder = found.0 ∙ ap (λ q. (place_in f q m t).holder) kp in
    subst (λ z. IsSome (f z)) (sym hold) (holder_alive f m x r.0 t a p)

pub shorten-requires-clause-word : goal.shorten-requires-clause-word
shorten-requires-clause-word c =
    let f = cells_by c.args.cells.now in let m = cell_id c.args.m in let x = cell_id c.args.c in let p = key_in f x in
    let kp : key_by c.own_key-key.result ≡ p = c.own_key-key.ensures.class in
    let r = c.requires.classes in let t = r.1 in let a = r.2 in
    let found = c.find-found.ensures.place t a.classed.tree in
    let hold : cell_id c.find-found.result.holder ≡ (place_in f p m t).holder = found.0 ∙ ap (λ q. (place_in f q m t).holder) kp in
    let link : link_of c.find-found.result.word ≡ (place_in f p m t).link = found.1 ∙ ap (λ q. (place_in f q m t).link) kp in
    subst (λ z. IsLinkWord (f z) c.find-found.result.word) (sym hold) (holder_word f m x r.0 t a p c.find-found.result.word c.find-found.ensures.word link)

pub shorten-requires-clause-c : goal.shorten-requires-clause-c
shorten-requires-clause-c c =
    c.requires.classes.2.there_c

pub drop_class-requires-clause-holder : goal.drop_class-requires-clause-holder
drop_class-requires-clause-holder c =
    let f = cells_by c.args.cells.now in let m = cell_id c.args.m in let x = cell_id c.args.c in let p = key_in f x in
    let kp : key_by c.own_key-key.result ≡ p = c.own_key-key.ensures.class in
    let r = c.requires.classes in let t = r.1 in let a = r.2 in
    let found = c.find-found.ensures.place t a.classed.tree in
    let hold : cell_id c.find-found.result.holder ≡ (place_in f p m t).holder = found.0 ∙ ap (λ q. (place_in f q m t).holder) kp in
    subst (λ z. IsSome (f z)) (sym hold) (holder_alive f m x r.0 t a p)

pub drop_class-requires-clause-word : goal.drop_class-requires-clause-word
drop_class-requires-clause-word c =
    let f = cells_by c.args.cells.now in let m = cell_id c.args.m in let x = cell_id c.args.c in let p = key_in f x in
    let kp : key_by c.own_key-key.result ≡ p = c.own_key-key.ensures.class in
    let r = c.requires.classes in let t = r.1 in let a = r.2 in
    let found = c.find-found.ensures.place t a.classed.tree in
    let hold : cell_id c.find-found.result.holder ≡ (place_in f p m t).holder = found.0 ∙ ap (λ q. (place_in f q m t).holder) kp in
    let link : link_of c.find-found.result.word ≡ (place_in f p m t).link = found.1 ∙ ap (λ q. (place_in f q m t).link) kp in
    subst (λ z. IsLinkWord (f z) c.find-found.result.word) (sym hold) (holder_word f m x r.0 t a p c.find-found.result.word c.find-found.ensures.word link)

pub drop_class-requires-clause-c : goal.drop_class-requires-clause-c
drop_class-requires-clause-c c =
    c.requires.classes.2.there_c

pub shorten-requires-clause-prev : goal.shorten-requires-clause-prev
shorten-requires-clause-prev c =
    let f = cells_by c.args.cells.now in let m = cell_id c.args.m in let x = cell_id c.args.c in
    let r = c.requires.classes in let t = r.1 in let a = r.2 in
    prev_alive f m x r.0 t a r.3 (cell_id c.args.prev) c.requires.prev

pub shorten-requires-clause-first : goal.shorten-requires-clause-first
shorten-requires-clause-first c =
    let f = cells_by c.args.cells.now in let m = cell_id c.args.m in let x = cell_id c.args.c in
    let r = c.requires.classes in let t = r.1 in let a = r.2 in
    next_alive f m x r.0 t a r.3 (cell_id c.args.next) c.requires.next

pub drop_class-requires-clause-leaf : goal.drop_class-requires-clause-leaf
drop_class-requires-clause-leaf c =
    let f = cells_by c.args.cells.now in let m = cell_id c.args.m in let x = cell_id c.args.c in
    let r = c.requires.classes in let t = r.1 in let a = r.2 in
    let w = begins_tree f m x r.0 t a r.3 c.requires.last in let b = below_is f m x r.0 t a x w.0 w.1 w.2 in
    let low = c.lowest-leaf.ensures w.0 w.1 b.0 b.1 in
    if_some cell_id c.lowest-leaf.result.last (λ q. IsSome (f q) × IsSome (f (cell_id c.lowest-leaf.result.holder)) × (c.lowest-leaf.result.word < 7)) (λ q e.
    let there = lowest_there f x w.0 w.1 b.0 b.1 a.there_c q (sym low.2 ∙ e) in
    (there.0, subst (λ z. IsSome (f z)) (sym low.0) there.1, subst (λ k. k < 7) (sym low.1) there.2))

pub returns-then-is_last : goal.returns-then-is_last
returns-then-is_last c xs t xs' a i one =
    let f = cells_by c.args.cells.now in let m = cell_id c.args.m in let x = cell_id c.args.c in let p = key_in f x in
    let kp : key_by c.own_key-key.result ≡ p = c.own_key-key.ensures.class in
    let found = c.find-found.ensures.place t a.classed.tree in
    let hold : cell_id c.find-found.result.holder ≡ (place_in f p m t).holder = found.0 ∙ ap (λ q. (place_in f q m t).holder) kp in
    let link : link_of c.find-found.result.word ≡ (place_in f p m t).link = found.1 ∙ ap (λ q. (place_in f q m t).link) kp in
    let w = begins_tree f m x xs t a i c.requires.last in let b = below_is f m x xs t a x w.0 w.1 w.2 in
    let low = c.lowest-leaf.ensures w.0 w.1 b.0 b.1 in
    subst (λ (g : ℕ → Option HeldCell). Refiled f g m xs p xs') (sym (c.drop_class.ensures ∙ (λ y. dropped f (hold y) (link y) x (low.0 y) (low.1 y) (low.2 y))))
    (filed_dropped f c.whole.ensures m x xs t xs' a i one (cell_id c.args.prev) c.requires.last c.requires.prev (sym c.is_last.ensures ∙ c.if-is_last.true) w.0 w.1 w.2)

pub returns-else-is_last : goal.returns-else-is_last
returns-else-is_last c xs t xs' a i one =
    let f = cells_by c.args.cells.now in let m = cell_id c.args.m in let x = cell_id c.args.c in let p = key_in f x in
    let kp : key_by c.own_key-key.result ≡ p = c.own_key-key.ensures.class in
    let found = c.find-found.ensures.place t a.classed.tree in
    let hold : cell_id c.find-found.result.holder ≡ (place_in f p m t).holder = found.0 ∙ ap (λ q. (place_in f q m t).holder) kp in
    let link : link_of c.find-found.result.word ≡ (place_in f p m t).link = found.1 ∙ ap (λ q. (place_in f q m t).link) kp in
    let q = cell_id c.args.prev in let n = cell_id c.args.next in
    subst (λ (g : ℕ → Option HeldCell). Refiled f g m xs p xs') (sym (c.shorten.ensures ∙ (λ y. shortened f (hold y) (link y) x q n)))
    (filed_shorter f c.whole.ensures m x xs t xs' a i one q n c.requires.last c.requires.prev c.requires.next (sym c.is_last.ensures ∙ c.if-is_last.false))
