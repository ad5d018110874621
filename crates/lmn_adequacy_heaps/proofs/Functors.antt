-- The functor of an atom is known from what the atom is read as.
use Rattle.std.proofs.Common.{ℕ, zero, suc, ◌≡◌, List, ◌++◌, length, Option, Some, None, refl, sym, ap, ◌∙◌, arith}
use Rattle.std.specs.Prelude.{IsSome}
use Rattle.lmn_base.specs.declared.functor.Functor.{Functor}
use Rattle.lmn_base.specs.declared.functor.Label.{Label}
use Rattle.lmn_base.specs.declared.functor.Label.TheVariants.{Name as ByName, Int as ByInt}
use Rattle.lmn_base.specs.Names.{IsNames, HasNames, label_names}
use Rattle.lmn_store_heap.specs.Heap.{Heap, HeapAtom, IsAtom, functor_of}
use Rattle.lmn_congruence.specs.Rules as tree
use Rattle.lmn_congruence.specs.Translation.{label_of}
use Rattle.lmn_congruence.proofs.TranslatedNames.{labels_apart}
use Rattle.lmn_adequacy_heaps.specs.HeapRegions.{HeapReading}
use Rattle.lmn_adequacy_heaps.proofs.Pieces.{atom_at, atom_by}
use Rattle.lmn_store_heap.proofs.Common.{length_numbered as numbered_length}

-- the names of two labels stand in the list
pub both_names : (names : List tree.Name) (k l : Label) → HasNames names (label_names k) → HasNames names (label_names l) → HasNames names (label_names k ++ label_names l)
both_names names (ByName m) l a b zero d j = a zero d (omega arith)
both_names names (ByName m) l a b (suc i) d j = b i d (omega (arith, j))
both_names names (ByInt z) l a b i d j = b i d j

-- an atom that is read as a functor's has that functor
pub functor_read : (h : Heap) (r : HeapReading) (b : ℕ) (fu : Functor) (ys zs : List ℕ) → IsAtom h b → IsNames r.names → ((g : Functor) → functor_of h b ≡ Some g → HasNames r.names (label_names g.label)) → HasNames r.names (label_names fu.label) →
    atom_at h r b ≡ record { label = label_of r.names fu.label; links = zs } → length zs ≡ fu.arity → functor_of h b ≡ Some fu
functor_read h r b fu ys zs s i a k e n = by (h.atoms b) refl s
  where
    by : (o : Option HeapAtom) → h.atoms b ≡ o → IsSome o → functor_of h b ≡ Some fu
    by None q s = absurd (cc)
    by (Some y) q s =
        let g : functor_of h b ≡ Some y.functor = rw q refl in
        let e' : atom_by r b (Some y) ≡ record { label = label_of r.names fu.label; links = zs } = rw q at e in
        let l : y.functor.label ≡ fu.label = labels_apart r.names y.functor.label fu.label i (both_names r.names y.functor.label fu.label (a y.functor g) k) (ap (λ z. z.label) e') in
        let m : y.functor.arity ≡ fu.arity = sym (numbered_length r.name b 0 y.functor.arity) ∙ ap (λ z. length z.links) e' ∙ n in
        g ∙ ap Some (λ j. record { label = l j; arity = m j })
