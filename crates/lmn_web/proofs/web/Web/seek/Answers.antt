use Rattle.std.proofs.Common.{◌≡◌, ◌<◌, ℕ, Option, Some, IsSome, refl, sym, subst, ◌∙◌, length}
use Rattle.std.specs.Option.{option_map}
use Rattle.lmn_store_heap.specs.Lists.{from, after}
use Rattle.lmn_web_cells.specs.CellIds.{cell_id}
use Rattle.lmn_web.specs.declared.kind.CellKind.TheVariants.{Atom}
use Rattle.lmn_web.specs.Webs.{web_by, cells_in, is_labelled, label_class, is_classed, with_class}
use Rattle.lmn_web.proofs.SeekLemmas.{Seeks, seeks_start, seeks_next, seeks_found, class_here, homed}
use Rattle.lmn_web.proofs.web.Web.seek.Goals as goal
use Rattle.lmn_store_heap.proofs.Filters.{in_filter}

pub loop-at-init : goal.loop-at-init
loop-at-init c = seeks_start cell_id _ _ c.args.start c.requires

pub next_of_class-at-requires-clause-home : goal.next_of_class-at-requires-clause-home
next_of_class-at-requires-clause-home c =
    let w = web_by c.args.self.now in let m = cell_id c.args.home in let a = cell_id c.in-Some.c in let cells = cells_in w m Atom in let class = label_class c.args.label in let all = with_class w class c.args.arity cells in
    let s : Seeks (is_labelled w c.args.label c.args.arity) all (option_map cell_id c.args.start) (Some a) = rw c.in-Some.is at c.loop-at.invariant in
    let among = in_filter (is_classed w class c.args.arity) a cells (s.there a refl) in
    let h = c.listed.ensures.homes m a Atom among.0 in
    subst (λ (o : Option ℕ). IsSome o) (sym h.0) refl

pub next_of_class-at-requires-clause-atom : goal.next_of_class-at-requires-clause-atom
next_of_class-at-requires-clause-atom c =
    let w = web_by c.args.self.now in let m = cell_id c.args.home in let a = cell_id c.in-Some.c in let cells = cells_in w m Atom in let class = label_class c.args.label in let all = with_class w class c.args.arity cells in
    let s : Seeks (is_labelled w c.args.label c.args.arity) all (option_map cell_id c.args.start) (Some a) = rw c.in-Some.is at c.loop-at.invariant in
    let among = in_filter (is_classed w class c.args.arity) a cells (s.there a refl) in
    (c.listed.ensures.homes m a Atom among.0).1

pub has_label-requires : goal.has_label-requires
has_label-requires c =
    let w = web_by c.args.self.now in let m = cell_id c.args.home in let a = cell_id c.in-Some.c in let cells = cells_in w m Atom in let class = label_class c.args.label in let all = with_class w class c.args.arity cells in
    let s : Seeks (is_labelled w c.args.label c.args.arity) all (option_map cell_id c.args.start) (Some a) = rw c.in-Some.is at c.loop-at.invariant in
    let among = in_filter (is_classed w class c.args.arity) a cells (s.there a refl) in
    homed w a m (c.listed.ensures.homes m a Atom among.0).0

pub returns-then-has_label-clause-list : goal.returns-then-has_label-clause-list
returns-then-has_label-clause-list c =
    let w = web_by c.args.self.now in let m = cell_id c.args.home in let a = cell_id c.in-Some.c in let cells = cells_in w m Atom in let class = label_class c.args.label in let all = with_class w class c.args.arity cells in
    let s : Seeks (is_labelled w c.args.label c.args.arity) all (option_map cell_id c.args.start) (Some a) = rw c.in-Some.is at c.loop-at.invariant in
    let among = in_filter (is_classed w class c.args.arity) a cells (s.there a refl) in
    let k = class_here w a class c.args.arity among.1 in
    seeks_found _ all _ a s (sym (c.has_label.ensures k.0 c.args.arity k.1 k.2 k.3) ∙ c.if-has_label.true)

pub returns-then-has_label-clause-there : goal.returns-then-has_label-clause-there
returns-then-has_label-clause-there c =
    let w = web_by c.args.self.now in let m = cell_id c.args.home in let a = cell_id c.in-Some.c in let cells = cells_in w m Atom in let class = label_class c.args.label in let all = with_class w class c.args.arity cells in
    let s : Seeks (is_labelled w c.args.label c.args.arity) all (option_map cell_id c.args.start) (Some a) = rw c.in-Some.is at c.loop-at.invariant in
    let among = in_filter (is_classed w class c.args.arity) a cells (s.there a refl) in
    among.0

pub loop-at-smaller : goal.loop-at-smaller
loop-at-smaller c =
    let w = web_by c.args.self.now in let m = cell_id c.args.home in let a = cell_id c.in-Some.c in let cells = cells_in w m Atom in let class = label_class c.args.label in let all = with_class w class c.args.arity cells in
    let s : Seeks (is_labelled w c.args.label c.args.arity) all (option_map cell_id c.args.start) (Some a) = rw c.in-Some.is at c.loop-at.invariant in
    let among = in_filter (is_classed w class c.args.arity) a cells (s.there a refl) in
    let h = c.listed.ensures.homes m a Atom among.0 in let k = class_here w a class c.args.arity among.1 in let r = option_map cell_id c.next_of_class-at.result in
    let next : from r all ≡ after a all = subst (λ q. from r (with_class w q c.args.arity cells) ≡ after a (with_class w q c.args.arity cells)) k.2
    (subst (λ n. from r (with_class w (label_class k.0) n cells) ≡ after a (with_class w (label_class k.0) n cells)) k.3 (c.next_of_class-at.ensures.list m k.0 h.0 k.1)) in
    subst (λ o. length (from r all) < length (from (option_map cell_id o) all)) (sym c.in-Some.is) (seeks_next _ all _ _ a s (sym (c.has_label.ensures k.0 c.args.arity k.1 k.2 k.3) ∙ c.if-has_label.false) next).1

pub loop-at-preserved : goal.loop-at-preserved
loop-at-preserved c =
    let w = web_by c.args.self.now in let m = cell_id c.args.home in let a = cell_id c.in-Some.c in let cells = cells_in w m Atom in let class = label_class c.args.label in let all = with_class w class c.args.arity cells in
    let s : Seeks (is_labelled w c.args.label c.args.arity) all (option_map cell_id c.args.start) (Some a) = rw c.in-Some.is at c.loop-at.invariant in
    let among = in_filter (is_classed w class c.args.arity) a cells (s.there a refl) in
    let h = c.listed.ensures.homes m a Atom among.0 in let k = class_here w a class c.args.arity among.1 in let r = option_map cell_id c.next_of_class-at.result in
    let next : from r all ≡ after a all = subst (λ q. from r (with_class w q c.args.arity cells) ≡ after a (with_class w q c.args.arity cells)) k.2
    (subst (λ n. from r (with_class w (label_class k.0) n cells) ≡ after a (with_class w (label_class k.0) n cells)) k.3 (c.next_of_class-at.ensures.list m k.0 h.0 k.1)) in
    (seeks_next _ all _ _ a s (sym (c.has_label.ensures k.0 c.args.arity k.1 k.2 k.3) ∙ c.if-has_label.false) next).0

pub returns-clause-list : goal.returns-clause-list
returns-clause-list c =
    let w = web_by c.args.self.now in let all = with_class w (label_class c.args.label) c.args.arity (cells_in w (cell_id c.args.home) Atom) in
    let s : Seeks (is_labelled w c.args.label c.args.arity) all (option_map cell_id c.args.start) _ = rw c.in_default.is at c.loop-at.invariant in
    s.rest
