use Rattle.std.proofs.Common.{◌≡◌, ℕ, List, [], sym, subst, arith}
use Rattle.std.specs.Option.{option_map}
use Rattle.lmn_base.specs.Lists.{In}
use Rattle.lmn_store_heap.specs.Lists.{from}
use Rattle.lmn_web_cells.specs.Rows.{Row}
use Rattle.lmn_web_cells.specs.Cells.{cells_by}
use Rattle.lmn_web_cells.specs.CellIds.{cell_id}
use Rattle.lmn_web.specs.declared.kind.CellKind.TheVariants.{Atom, Membrane}
use Rattle.lmn_web.specs.Webs.{web_by, cells_in, list_in, kind_at, is_classed, with_class}
use Rattle.lmn_web.specs.Indexes.{cell_kind}
use Rattle.lmn_web.specs.Classes.{of_class}
use Rattle.lmn_web.proofs.ListedLemmas.{no_atom_by, from_in, if_some}
use Rattle.lmn_web.proofs.ClassReads.{class_list, none_classed}
use Rattle.lmn_web.proofs.RelistLemmas.{membrane_there}
use Rattle.lmn_web.proofs.Filing.{filed_membrane}
use Rattle.lmn_web.proofs.web.Web.first_of_class.Goals as goal
use Rattle.lmn_store_heap.proofs.Filters.{in_filter}

pub key_of-requires : goal.key_of-requires
key_of-requires c = let low = c.if-class-ge-CLASSES.false in omega (arith, low)

pub returns-then-class-ge-CLASSES-clause-list : goal.returns-then-class-ge-CLASSES-clause-list
returns-then-class-ge-CLASSES-clause-list c =
    let m = cell_id c.args.home in let high = c.if-class-ge-CLASSES.true in
    sym (subst (λ (z : List Row). with_class (web_by z) c.args.class c.args.arity (cells_in (web_by z) m Atom) ≡ []) c.self.view_is
    (none_classed (cells_by c.self.inside.cells) _ c.self.invariant c.small_classes.ensures m c.args.class c.args.arity (omega (arith, high))))

pub first_in-requires-clause-classes : goal.first_in-requires-clause-classes
first_in-requires-clause-classes c sure = c.self.invariant.classed.classes (cell_id c.args.home) sure

pub first_in-requires-clause-kinds : goal.first_in-requires-clause-kinds
first_in-requires-clause-kinds c x i = c.self.invariant.web.listed.kinds (cell_id c.args.home) x Atom i

pub first_in-requires-clause-line : goal.first_in-requires-clause-line
first_in-requires-clause-line c =
    let f = cells_by c.self.inside.cells in let m = cell_id c.args.home in let W = c.self.invariant in
    let membrane : cell_kind f m ≡ Atom → ⊥ = no_atom_by f (list_in f) m (subst (λ (z : List Row). kind_at (web_by z) m ≡ Membrane) (sym c.self.view_is) c.requires) in
    W.web.listed.line m Atom membrane

pub returns-clause-list : goal.returns-clause-list
returns-clause-list c =
    let f = cells_by c.self.inside.cells in let m = cell_id c.args.home in let W = c.self.invariant in
    let r = option_map cell_id c.first_in.result in let p : ℕ × ℕ = (c.args.class, c.args.arity) in
    let begins : from r (of_class f p (list_in f m Atom)) ≡ of_class f p (list_in f m Atom) = subst (λ q. from r (of_class f q (list_in f m Atom)) ≡ of_class f q (list_in f m Atom)) c.key_of.ensures.class c.first_in.ensures in
    let list : from r (with_class (web_by c.args.self.now) c.args.class c.args.arity (cells_in (web_by c.args.self.now) m Atom)) ≡ with_class (web_by c.args.self.now) c.args.class c.args.arity (cells_in (web_by c.args.self.now) m Atom) =
    subst (λ (z : List Row). from r (with_class (web_by z) c.args.class c.args.arity (cells_in (web_by z) m Atom)) ≡ with_class (web_by z) c.args.class c.args.arity (cells_in (web_by z) m Atom)) c.self.view_is
    (subst (λ us. from r us ≡ us) (sym (class_list f _ W m c.args.class c.args.arity)) begins) in
    list

pub returns-clause-there : goal.returns-clause-there
returns-clause-there c =
    let f = cells_by c.self.inside.cells in let m = cell_id c.args.home in let W = c.self.invariant in
    let r = option_map cell_id c.first_in.result in let p : ℕ × ℕ = (c.args.class, c.args.arity) in
    let begins : from r (of_class f p (list_in f m Atom)) ≡ of_class f p (list_in f m Atom) = subst (λ q. from r (of_class f q (list_in f m Atom)) ≡ of_class f q (list_in f m Atom)) c.key_of.ensures.class c.first_in.ensures in
    let list : from r (with_class (web_by c.args.self.now) c.args.class c.args.arity (cells_in (web_by c.args.self.now) m Atom)) ≡ with_class (web_by c.args.self.now) c.args.class c.args.arity (cells_in (web_by c.args.self.now) m Atom) =
    subst (λ (z : List Row). from r (with_class (web_by z) c.args.class c.args.arity (cells_in (web_by z) m Atom)) ≡ with_class (web_by z) c.args.class c.args.arity (cells_in (web_by z) m Atom)) c.self.view_is
    (subst (λ us. from r us ≡ us) (sym (class_list f _ W m c.args.class c.args.arity)) begins) in
    let w = web_by c.args.self.now in
    if_some cell_id c.first_in.result (λ q. In q (cells_in w m Atom)) (λ q e. (in_filter (is_classed w c.args.class c.args.arity) q (cells_in w m Atom) (from_in r (with_class w c.args.class c.args.arity (cells_in w m Atom)) list q e)).0)

pub first_in-requires-clause-there : goal.first_in-requires-clause-there
first_in-requires-clause-there c =
    let f = cells_by c.self.inside.cells in let m = cell_id c.args.home in
    membrane_there f m (no_atom_by f (list_in f) m (subst (λ (z : List Row). kind_at (web_by z) m ≡ Membrane) (sym c.self.view_is) c.requires))

pub first_in-requires-clause-membrane : goal.first_in-requires-clause-membrane
first_in-requires-clause-membrane c sure =
    let f = cells_by c.self.inside.cells in let m = cell_id c.args.home in
    filed_membrane f _ m c.self.invariant.web (membrane_there f m (no_atom_by f (list_in f) m (subst (λ (z : List Row). kind_at (web_by z) m ≡ Membrane) (sym c.self.view_is) c.requires))) sure
