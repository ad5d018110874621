-- Marks at one place of each atom change nothing but marks.
use Rattle.std.proofs.Common.{◌≡◌, ℕ, zero, suc, Option, Some, None, IsSome, refl, ap}
use Rattle.std.specs.Option.{option_map, option_and_then}
use Rattle.std.specs.Prelude.{slice_index_or}
use Rattle.lmn_store_heap.specs.Heap.{Heap, HeapAtom, partners_of, home_by}
use Rattle.lmn_store_heap.specs.Graphs.{atom_map}
use Rattle.lmn_store_heap.proofs.Common.{same_atoms}
use Rattle.lmn_ground.specs.Marks.{paint_at, painted_at}

module _ (place : HeapAtom → ℕ) where
  pub paint_links : (v : ℕ) (o : Option HeapAtom) → partners_of (paint_at place v o) ≡ partners_of o
  paint_links zero o = refl
  paint_links (suc v) None = refl
  paint_links (suc v) (Some x) = refl

  pub paint_functor : (v : ℕ) (o : Option HeapAtom) → option_map (λ x. x.functor) (paint_at place v o) ≡ option_map (λ x. x.functor) o
  paint_functor zero o = refl
  paint_functor (suc v) None = refl
  paint_functor (suc v) (Some x) = refl

  pub paint_home : (v : ℕ) (o : Option HeapAtom) → option_and_then (λ x. home_by x.place) (paint_at place v o) ≡ option_and_then (λ x. home_by x.place) o
  paint_home zero o = refl
  paint_home (suc v) None = refl
  paint_home (suc v) (Some x) = refl

  pub is_paint : (v : ℕ) (o : Option HeapAtom) → IsSome o → IsSome (paint_at place v o)
  is_paint zero o i = i
  is_paint (suc v) None i = absurd (cc)
  is_paint (suc v) (Some x) i = refl

  -- the graph is as it was
  pub map_painted : (h : Heap) (v : ℕ → ℕ) → atom_map (painted_at place h v) ≡ atom_map h
  map_painted h v = λ i. record {
    functor = λ z. paint_functor (v z) (h.atoms z) i;
    partner = λ p. (ap (λ xs. slice_index_or xs p.1 None) (paint_links (v p.0) (h.atoms p.0))) i;
    home = λ z. paint_home (v z) (h.atoms z) i;
  }

  pub painted_none : (h : Heap) (v : ℕ → ℕ) → ((a : ℕ) → v a ≡ 0) → painted_at place h v ≡ h
  painted_none h v e = same_atoms h _ _ (λ a. ap (λ (w : ℕ). paint_at place w (h.atoms a)) (e a))
