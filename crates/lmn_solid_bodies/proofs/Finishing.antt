-- What was taken is freed: the heap is valid, and its links keep their numbers.
use Rattle.std.proofs.Common.{ℕ, ◌<◌, ◌≡◌, [], Option, Some, None, IsSome, refl, sym, ap, subst, ◌∙◌, inl, inr}
use Rattle.std.specs.Option.{option_map, option_and_then}
use Rattle.std.specs.Prelude.{slice_index_or, length}
use Rattle.lmn_store_heap.specs.Heap.{Heap, HeapAtom, Place, top, within, waiting, gone, home_by, link_of, partners_of, place_of, mem_place_of, atoms_in, mems_in, IsInPlace, unless_gone, finished}
use Rattle.lmn_store_heap.specs.Sound.{Listed}
use Rattle.lmn_store_heap.specs.Conditions.{Ready}
use Rattle.lmn_store_heap.proofs.Replacing.{port_within}
use Rattle.lmn_congruence_splice.specs.Ports.{Coloured}
use Rattle.lmn_congruence_splice.proofs.Joining.{same_some}
use Rattle.lmn_solid_bodies.specs.Tied.{partners}
use Rattle.lmn_solid_bodies.specs.Names.{StandsPort, Names}
use Rattle.lmn_base.specs.Graphs.{Port}
use Rattle.lmn_store_heap.proofs.Common.{place_home}
use Rattle.lmn_base.specs.Lists.{In}

-- an atom in place stands in some membrane
pub within_of : (s : Heap) (a : ℕ) → IsInPlace s a → (m : ℕ) × (place_of s a ≡ Some (within m))
within_of s a i = by (s.atoms a) i
  where
    place : (x : HeapAtom) (p : Place) → x.place ≡ p → IsSome (home_by p) → (m : ℕ) × (Some x.place ≡ Some (within m))
    place x top e i = absurd (cc)
    place x (within m) e i = (m, ap (λ z. Some z) e)
    place x waiting e i = absurd (cc)
    place x gone e i = absurd (cc)

    by : (o : Option HeapAtom) → IsSome (option_and_then (λ x. home_by x.place) o) → (m : ℕ) × (option_map (λ x. x.place) o ≡ Some (within m))
    by None i = absurd (cc)
    by (Some x) i = place x x.place refl i

-- what stands in a membrane is in place
pub in_place_within : (s : Heap) (a m : ℕ) → place_of s a ≡ Some (within m) → IsInPlace s a
in_place_within s a m e = subst (λ (o : Option ℕ). IsSome o) (sym (place_home s a m e)) refl

-- an atom that a membrane lists is in place
pub in_place_listed : (s : Heap) (m a : ℕ) → Listed s → In a (atoms_in s m) → IsInPlace s a
in_place_listed s m a h i = in_place_within s a m ((h.atoms m a).0 i)

-- an atom in place stays as it is
pub stands_on : (s : Heap) (a : ℕ) → IsInPlace s a → (finished s).atoms a ≡ s.atoms a
stands_on s a i = let w = within_of s a i in by (s.atoms a) w.0 w.1
  where
    place : (x : HeapAtom) (m : ℕ) → x.place ≡ within m → unless_gone x ≡ Some x
    place x m e = rw e refl

    by : (o : Option HeapAtom) (m : ℕ) → option_map (λ x. x.place) o ≡ Some (within m) → option_and_then unless_gone o ≡ o
    by None m e = refl
    by (Some x) m e = place x m (cc)

-- an atom in place after it was in place before
pub stood_before : (s : Heap) (a : ℕ) → IsInPlace (finished s) a → IsInPlace s a
stood_before s a i = let w = within_of (finished s) a i in by (s.atoms a) w.0 w.1
  where
    place : (x : HeapAtom) (p : Place) (m : ℕ) → x.place ≡ p → option_map (λ y. y.place) (unless_gone x) ≡ Some (within m) → IsSome (home_by x.place)
    place x top m e w = absurd (let g : Some top ≡ Some (within m) = sym (ap (λ z. Some z) e) ∙ sym (ap (λ (o : Option HeapAtom). option_map (λ y. y.place) o) (kept x top e (λ q. absurd (cc)))) ∙ w in cc)
      where
        kept : (x : HeapAtom) (p : Place) → x.place ≡ p → (p ≡ gone → ⊥) → unless_gone x ≡ Some x
        kept x top e d = rw e refl
        kept x (within m) e d = rw e refl
        kept x waiting e d = rw e refl
        kept x gone e d = absurd (d refl)
    place x (within k) m e w = rw e refl
    place x waiting m e w = absurd (let g : Some waiting ≡ Some (within m) = sym (ap (λ z. Some z) e) ∙ sym (ap (λ (o : Option HeapAtom). option_map (λ y. y.place) o) kept) ∙ w in cc)
      where
        kept : unless_gone x ≡ Some x
        kept = rw e refl
    place x gone m e w = absurd (let g : None ≡ Some (within m) = sym (ap (λ (o : Option HeapAtom). option_map (λ y. y.place) o) lost) ∙ w in cc)
      where
        lost : unless_gone x ≡ None
        lost = rw e refl

    by : (o : Option HeapAtom) (m : ℕ) → option_map (λ y. y.place) (option_and_then unless_gone o) ≡ Some (within m) → IsSome (option_and_then (λ x. home_by x.place) o)
    by None m e = absurd (cc)
    by (Some x) m e = place x x.place m refl e

-- Live ports are those of the atoms in place.
module _ (v : Heap) (F : Port → Type 0) (c : Port → ℕ) (col : Coloured c F (partners v))
    (into : (p : Port) → StandsPort v p → F p) (back : (p : Port) → F p → StandsPort v p) where
  pub named : Names v c
  named = record {
    partner = λ p l. let w = col.partner p (into p l) in (w.0, back w.0 w.1, w.2, w.3, w.4);
    only = λ p q lp lq. col.only p q (into p lp) (into q lq);
  }

  pub ready : ((m : ℕ) → mem_place_of v m ≡ Some gone → (atoms_in v m ≡ []) × (mems_in v m ≡ [])) → v.new_atoms ≡ [] → v.new_mems ≡ [] → Ready v
  ready empty na nm = record {
    empty = empty;
    full = λ a i l h. let w = named.partner (a, i) (l, h) in subst (λ (o : Option Port). IsSome o) (sym w.2) refl;
    kept = λ a i b j l e g. let w = named.partner (a, i) (l, port_within v a i (b, j) e) in
        let same : w.0 ≡ (b, j) = same_some w.0 (b, j) (sym w.2 ∙ e) in
        let u = within_of v b (subst (λ (q : Port). IsInPlace v q.0) same w.1.0) in
        let z : Some (within u.0) ≡ Some gone = sym u.1 ∙ g in absurd (cc);
    no_atoms = na;
    no_mems = nm;
  }

  finished_link : (a i : ℕ) → IsInPlace v a → link_of (finished v) a i ≡ link_of v a i
  finished_link a i l = ap (λ (o : Option HeapAtom). slice_index_or (partners_of o) i None) (stands_on v a l)

  before : (p : Port) → StandsPort (finished v) p → StandsPort v p
  before p l = let i = stood_before v p.0 l.0 in (i, subst (λ (o : Option HeapAtom). p.1 < length (partners_of o)) (stands_on v p.0 i) l.1)

  after : (p : Port) → StandsPort v p → StandsPort (finished v) p
  after p l = (
    subst (λ (o : Option HeapAtom). IsSome (option_and_then (λ x. home_by x.place) o)) (sym (stands_on v p.0 l.0)) l.0,
    subst (λ (o : Option HeapAtom). p.1 < length (partners_of o)) (sym (stands_on v p.0 l.0)) l.1,
  )

  -- the links of the heap that is left have the same numbers
  pub names_left : Names (finished v) c
  names_left = record {
    partner = λ p l. let b = before p l in let w = named.partner p b in (w.0, after w.0 w.1, finished_link p.0 p.1 b.0 ∙ w.2, w.3, w.4);
    only = λ p q lp lq e. elim (named.only p q (before p lp) (before q lq) e) [ inl f ↦ inl f | inr f ↦ inr (finished_link p.0 p.1 (before p lp).0 ∙ f) ];
  }
