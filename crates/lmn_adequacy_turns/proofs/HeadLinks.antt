-- The ports at which the links of a head stand.
use Rattle.std.proofs.Common.{ℕ, suc, ◌≡◌, ◌+◌, ◌≤◌, List, [], ◌∷◌, map, Some, refl, sym, ap, subst, ◌∙◌, inl, inr, arith}
use Rattle.std.specs.Prelude.{slice_get}
use Rattle.std.proofs.lemmas.Bool.{cases_eq}
use Rattle.lmn_adequacy_heaps.proofs.Occurrences.{times_parts}
use Rattle.lmn_congruence.specs.Links.{places}
use Rattle.lmn_solid_heads.specs.declared.items.HeadItem.{HeadItem}
use Rattle.lmn_solid_heads.specs.Heads.{HeadTyped, Occurrence, at_atoms, atoms_of as atoms_of_head, typed_contexts_of, links_of_head, times}
use Rattle.lmn_solid_heads.specs.Embeddings.{HasLink}
use Rattle.lmn_congruence_splice.specs.Splice as splice
use Rattle.lmn_instr_code.specs.declared.instr.AtomPort.{AtomPort}
use Rattle.lmn_compile_head.specs.Heads.{IsHead}
use Rattle.lmn_solid_bodies.specs.Items.{old_ports, port_at}
use Rattle.lmn_solid_bodies.proofs.HeadPorts.{at_atoms_in, in_at_atoms, of_once_in}
use Rattle.lmn_base.specs.Graphs.{Port}
use Rattle.lmn_congruence.proofs.Counts.{none_if_apart as apart_none}

some_occurrence : (x : ℕ) (os : List Occurrence) → 1 ≤ places x (map (λ o. o.link) os) → (o : Occurrence) × splice.IsOneOf o os × (o.link ≡ x)
some_occurrence x [] l = absurd (omega (arith, l))
some_occurrence x (o ∷ os) l = elim (cases_eq x o.link) [
  | inl e ↦ (o, inl refl, sym e)
  | inr d ↦ (let u = some_occurrence x os (let z = apart_none x o.link d in omega (arith, l, z)) in (u.0, inr u.1, u.2))
]

some_typed : (x : ℕ) (ts : List HeadTyped) → 1 ≤ places x (map (λ t. t.link) ts) → (n : ℕ) × (t : HeadTyped) × (slice_get ts n ≡ Some t) × (t.link ≡ x)
some_typed x [] l = absurd (omega (arith, l))
some_typed x (t ∷ ts) l = elim (cases_eq x t.link) [
  | inl e ↦ (0, t, refl, sym e)
  | inr d ↦ (let u = some_typed x ts (let z = apart_none x t.link d in omega (arith, l, z)) in (suc u.0, u.1, u.2, u.3))
]

-- a link that stands in a head stands at a port of it
pub has_port : (items : List HeadItem) → IsHead items → (x : ℕ) → times x (links_of_head items) ≡ 1 → (p : Port) × HasLink items x p
has_port items is x one = elim (cases_eq (places x (map (λ o. o.link) (at_atoms 0 (atoms_of_head items)))) 0) [
  | inl z ↦ (let u = some_typed x (typed_contexts_of items) (omega (arith, one, z, times_parts x items)) in
      let w = is.held u.0 u.1 u.2 in (w.0, subst (λ y. HasLink items y w.0) u.3 w.1))
  | inr d ↦ (let u = some_occurrence x (at_atoms 0 (atoms_of_head items)) (omega (arith, d)) in
      let w = at_atoms_in 0 (atoms_of_head items) u.0 u.1 in
      ((w.k, u.0.port.1), (w.atom, w.is, w.link ∙ ap (λ z. Some z) u.2)))
]

-- and where it stands once, it is at an old port
pub is_old : (items : List HeadItem) (x : ℕ) (p : Port) → times x (links_of_head items) ≡ 1 → HasLink items x p → splice.IsOneOf {A = AtomPort × ℕ} (port_at p.0 p.1, x) (old_ports items)
is_old items x p one k =
    let z : 0 + p.0 ≡ p.0 = omega arith in
    let there = subst (λ n. splice.IsOneOf {A = Occurrence} (record { link = x; port = (n, p.1) }) (at_atoms 0 (atoms_of_head items))) z (in_at_atoms 0 (atoms_of_head items) p.0 p.1 x k.0 k.1 k.2) in
    of_once_in (links_of_head items) (at_atoms 0 (atoms_of_head items)) (record { link = x; port = p }) there one
