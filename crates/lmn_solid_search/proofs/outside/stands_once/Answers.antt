use Rattle.std.proofs.Common.{◌∙◌, List, map, ap, arith}
use Rattle.lmn_solid_heads.specs.Heads.{times}
use Rattle.lmn_solid_search.specs.Placing.{links_in}
use Rattle.lmn_solid_search.specs.declared.head.AtomItem.{AtomItem}
use Rattle.lmn_solid_search.specs.declared.head.TypedItem.{TypedItem}
use Rattle.lmn_solid_search.proofs.OutsideLemmas.{times_both, once_both}
use Rattle.lmn_solid_search.proofs.outside.stands_once.Goals as goal

pub count_at_atoms-at_atoms-requires : goal.count_at_atoms-at_atoms-requires
count_at_atoms-at_atoms-requires c =
    let e = times_both c.args.link c.args.head.now in
    let l = c.requires in
    let n = ap (λ (xs : List AtomItem). times c.args.link (links_in xs)) c.as_slice.ensures in
    omega (arith, e, l, n)

pub count_at_typed-at_typed-requires : goal.count_at_typed-at_typed-requires
count_at_typed-at_typed-requires c =
    let e = times_both c.args.link c.args.head.now in
    let l = c.requires in
    let n = ap (λ (xs : List TypedItem). times c.args.link (map (λ t. t.link) xs)) c.as_slice-2.ensures in
    omega (arith, e, l, n)

pub overflow_add-result : goal.overflow_add-result
overflow_add-result c =
    let e = times_both c.args.link c.args.head.now in
    let l = c.requires in
    let n = c.count_at_atoms-at_atoms.ensures ∙ ap (λ (xs : List AtomItem). times c.args.link (links_in xs)) c.as_slice.ensures in
    let m = c.count_at_typed-at_typed.ensures ∙ ap (λ (xs : List TypedItem). times c.args.link (map (λ t. t.link) xs)) c.as_slice-2.ensures in
    omega (arith, e, l, n, m)

pub returns : goal.returns
returns c = once_both c.args.link c.args.head.now c.count_at_atoms-at_atoms.result c.count_at_typed-at_typed.result
    (c.count_at_atoms-at_atoms.ensures ∙ ap (λ (xs : List AtomItem). times c.args.link (links_in xs)) c.as_slice.ensures)
    (c.count_at_typed-at_typed.ensures ∙ ap (λ (xs : List TypedItem). times c.args.link (map (λ t. t.link) xs)) c.as_slice-2.ensures)
