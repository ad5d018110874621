use Rattle.std.proofs.Common.{◌≡◌, ◌≢◌, ◌∷◌, ◌∙◌, ℕ, ◌<◌, List, Some, rules, slice_get, subst, sym, w64}
use Rattle.std.proofs.lemmas.Int.{to_z-of_z}
use Rattle.lmn_solid_tables.specs.Flats.{heap_of, port_by}
use Rattle.lmn_solid_search.specs.declared.head.AtomItem.{AtomItem}
use Rattle.lmn_solid_search.specs.declared.head.TypedItem.{TypedItem}
use Rattle.lmn_solid_search.proofs.ForetellingLemmas.{kind_refused, parts_more}
use Rattle.lmn_solid_search.proofs.PairingLemmas.{port_differs}
use Rattle.lmn_solid_search.proofs.PartsLemmas.{entry_there}
use Rattle.lmn_solid_search.proofs.early.Early.add.Goals as goal

pub is_of_kind-requires : goal.is_of_kind-requires
is_of_kind-requires c =
    entry_there (heap_of c.args.flat.now) c.as_slice-atoms.result.now c.args.images.now c.at-item.result.now.link (port_by c.in-Some.entry.port) c.requires.valid (c.in-Some.entry.number, c.in-Some.ensures.0, c.in-Some.ensures.1, c.in-Some.ensures.3)

pub integer_of-requires : goal.integer_of-requires
integer_of-requires c =
    entry_there (heap_of c.args.flat.now) c.as_slice-atoms.result.now c.args.images.now c.at-item.result.now.link (port_by c.in-Some.entry.port) c.requires.valid (c.in-Some.entry.number, c.in-Some.ensures.0, c.in-Some.ensures.1, c.in-Some.ensures.3)

pub returns-then-not-is_of_kind-clause-refused : goal.returns-then-not-is_of_kind-clause-refused
returns-then-not-is_of_kind-clause-refused c =
    kind_refused (heap_of c.args.flat.now) c.args.head.now c.args.images.now c.args.number c.in-Some.entry.number c.at-item.result.now c.in-Some.ensures.0 (port_by c.in-Some.entry.port) c.one.result c.at-item.ensures c.requires.number (subst (λ (xs : List AtomItem). slice_get xs c.in-Some.entry.number ≡ Some c.in-Some.ensures.0) c.as_slice-atoms.ensures c.in-Some.ensures.1) c.in-Some.ensures.2 c.in-Some.ensures.3 c.one.ensures (port_differs c.is_of_kind.ensures.1 c.if-not-is_of_kind.true)

pub returns-in_ok-bind-in-Some-integer_of-clause-told : goal.returns-in_ok-bind-in-Some-integer_of-clause-told
returns-in_ok-bind-in-Some-integer_of-clause-told c =
    parts_more (heap_of c.args.flat.now) c.args.head.now c.args.images.now c.args.number c.in-Some.entry.number c.at-item.result.now c.in-Some.ensures.0 (port_by c.in-Some.entry.port) c.one-in-Some-integer_of.result c.at-item.ensures c.requires.number (subst (λ (xs : List AtomItem). slice_get xs c.in-Some.entry.number ≡ Some c.in-Some.ensures.0) c.as_slice-atoms.ensures c.in-Some.ensures.1) c.in-Some.ensures.2 c.in-Some.ensures.3 c.one-in-Some-integer_of.ensures c.args.self.now c.bind.new.self c.in-Some-integer_of.integer
    (subst (λ (ts : List TypedItem). (k : ℕ) (t u : TypedItem) → k < c.args.number → slice_get ts k ≡ Some u → slice_get ts c.args.number ≡ Some t → u.name ≢ t.name) c.as_slice-typed.ensures (c.is_first.ensures c.if-not-is_first.false))
    (sym c.integer_of.ensures ∙ c.in-Some-integer_of.is) c.in_ok-bind-in-Some-integer_of.ensures.names
    (subst (λ z. c.bind.new.self.values.items ≡ z ∷ c.args.self.now.values.items) (to_z-of_z w64 c.in-Some-integer_of.integer (search rules)) c.in_ok-bind-in-Some-integer_of.ensures.values) c.in_ok-bind-in-Some-integer_of.ensures.rests
