use Rattle.std.proofs.Common.{◌≡◌, Some, IfSome, sym, ap, subst, ◌∙◌}
use Rattle.std.specs.Option.{option_map}
use Rattle.lmn_base.specs.Lists.{In}
use Rattle.lmn_store_heap.specs.Lists.{from, after}
use Rattle.lmn_web_cells.specs.CellIds.{cell_id}
use Rattle.lmn_web.specs.declared.kind.CellKind.TheVariants.{Atom}
use Rattle.lmn_web.specs.Webs.{web_by, cells_in, home_at, arity_at, is_labelled, with_label, label_class, with_class}
use Rattle.lmn_web.proofs.SeekLemmas.{next_some, label_here, label_within}
use Rattle.lmn_web.proofs.web.Web.next_with.Goals as goal
use Rattle.lmn_store_heap.proofs.Filters.{filter_after}

pub seek-requires : goal.seek-requires
seek-requires c =
    let w = web_by c.args.self.now in let m = cell_id c.home_of-home.result in let x = cell_id c.args.c in let cells = cells_in w m Atom in
    let home : home_at w x ≡ Some m = c.home_of-home.ensures in
    let class = label_class c.label.result in let all = with_class w class c.arity.result cells in let r = option_map cell_id c.next_of_class.result in
    let next : from r all ≡ after x all = subst (λ n. from r (with_class w class n cells) ≡ after x (with_class w class n cells)) (sym c.arity.ensures) (c.next_of_class.ensures.list m c.label.result home c.label.ensures) in
    next_some cell_id c.next_of_class.result x all next

pub returns-clause-list : goal.returns-clause-list
returns-clause-list c n label at named =
    let w = web_by c.args.self.now in let m = cell_id c.home_of-home.result in let x = cell_id c.args.c in let cells = cells_in w m Atom in
    let home : home_at w x ≡ Some m = c.home_of-home.ensures in
    let class = label_class c.label.result in let all = with_class w class c.arity.result cells in let r = option_map cell_id c.next_of_class.result in
    let next : from r all ≡ after x all = subst (λ n. from r (with_class w class n cells) ≡ after x (with_class w class n cells)) (sym c.arity.ensures) (c.next_of_class.ensures.list m c.label.result home c.label.ensures) in
    let same : n ≡ m = let e : Some n ≡ Some m = sym at ∙ home in cc in
    let called : label ≡ c.label.result = let e : Some label ≡ Some c.label.result = sym named ∙ c.label.ensures in cc in
    let s = option_map cell_id c.seek.result in
    let found : from s (with_label w c.label.result c.arity.result all) ≡ after x (with_label w c.label.result c.arity.result all) =
    c.seek.ensures.list ∙ ap (with_label w c.label.result c.arity.result) next ∙ sym (filter_after (is_labelled w c.label.result c.arity.result) x all (label_here w x c.label.result c.arity.result c.label.ensures c.arity.ensures)) in
    let found_all = subst (λ us. from s us ≡ after x us) (label_within w c.label.result c.arity.result cells) found in
    subst (λ z. from s (with_label w label (arity_at w x) (cells_in w z Atom)) ≡ after x (with_label w label (arity_at w x) (cells_in w z Atom))) (sym same)
    (subst (λ z. from s (with_label w z (arity_at w x) cells) ≡ after x (with_label w z (arity_at w x) cells)) (sym called)
    (subst (λ z. from s (with_label w c.label.result z cells) ≡ after x (with_label w c.label.result z cells)) c.arity.ensures found_all))

pub returns-clause-there : goal.returns-clause-there
returns-clause-there c n at =
    let w = web_by c.args.self.now in let m = cell_id c.home_of-home.result in let x = cell_id c.args.c in
    let home : home_at w x ≡ Some m = c.home_of-home.ensures in
    let same : n ≡ m = let e : Some n ≡ Some m = sym at ∙ home in cc in
    subst (λ z. IfSome c.seek.result (λ d. In (cell_id d) (cells_in w z Atom))) (sym same) c.seek.ensures.there
