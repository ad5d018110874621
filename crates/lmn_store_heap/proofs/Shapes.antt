-- The calls keep the ports and marks of atoms as many as they were, and the partners of most.
use Rattle.std.proofs.Common.{◌≡◌, ℕ, zero, suc, ◌+◌, length, Option, Some, None, IsSome, refl, sym, ap, subst, ◌∙◌, inl, inr}
use Rattle.std.proofs.lemmas.Bool.{cases_eq}
use Rattle.std.proofs.lemmas.List.{length-set, length-replicate}
use Rattle.std.specs.Option.{option_map}
use Rattle.std.specs.Prelude.{slice_index_or, replicate}
use Rattle.lmn_base.specs.declared.functor.Functor.{Functor}
use Rattle.lmn_store_heap.specs.Heap.{Heap, HeapAtom, Place, alter, partners_of, marks_of, link_of, with_place, with_link, with_mark, new_atom, made_atom, linked, cleared, joined}
use Rattle.lmn_store_heap.specs.Sound.{Paired, Shaped}
use Rattle.lmn_store_heap.proofs.Listing.{alter_at, alter_away, same_paired}

-- ports as the functor says, and one mark more
abbrev pub WellShaped : Option HeapAtom → Type 0
WellShaped None = Unit {0}
WellShaped (Some x) = (length x.links ≡ x.functor.arity) × (length x.marks ≡ length x.links + 1)

-- a heap is shaped where each atom is
pub shaped_of : (s : Heap) → ((a : ℕ) → WellShaped (s.atoms a)) → Shaped s
shaped_of s h = record { ports = λ a f e. ports (s.atoms a) f (h a) e; marks = λ a is. marks (s.atoms a) (h a) is }
  where
    ports : (o : Option HeapAtom) (f : Functor) → WellShaped o → option_map (λ x. x.functor) o ≡ Some f → length (partners_of o) ≡ f.arity
    ports None f w e = absurd (cc)
    ports (Some x) f w e = let g : x.functor ≡ f = (cc) in w.0 ∙ ap (λ (z : Functor). z.arity) g

    marks : (o : Option HeapAtom) → WellShaped o → IsSome o → length (marks_of o) ≡ length (partners_of o) + 1
    marks None w is = absurd (cc)
    marks (Some x) w is = w.1

-- in a shaped heap each atom has its shape
pub shaped_at : (s : Heap) → Shaped s → (a : ℕ) → WellShaped (s.atoms a)
shaped_at s h a = by (s.atoms a) (λ f e. h.ports a f e) (λ is. h.marks a is)
  where
    by : (o : Option HeapAtom) → ((f : Functor) → option_map (λ x. x.functor) o ≡ Some f → length (partners_of o) ≡ f.arity) → (IsSome o → length (marks_of o) ≡ length (partners_of o) + 1) → WellShaped o
    by None p m = tt
    by (Some x) p m = (p x.functor refl, m refl)

-- a change of an atom that keeps its shape
abbrev pub KeepsShape : (HeapAtom → HeapAtom) → Type 0
KeepsShape h = (x : HeapAtom) → WellShaped (Some x) → WellShaped (Some (h x))

-- a change that keeps the shape of an atom keeps that of all
pub shape_alter : (f : ℕ → Option HeapAtom) (a : ℕ) (h : HeapAtom → HeapAtom) → KeepsShape h → ((b : ℕ) → WellShaped (f b)) → (b : ℕ) → WellShaped (alter f a (option_map h) b)
shape_alter f a h k w b = elim (cases_eq b a) [
  | inl e ↦ subst (λ z. WellShaped (alter f a (option_map h) z)) (sym e) (subst WellShaped (sym (alter_at f a (option_map h))) (by (f a) (w a)))
  | inr d ↦ subst WellShaped (sym (alter_away f a (option_map h) b d)) (w b)
]
  where
    by : (o : Option HeapAtom) → WellShaped o → WellShaped (option_map h o)
    by None w = tt
    by (Some x) w = k x w

-- places, links and marks can be changed
pub place_shape : (P : Place) → KeepsShape (with_place P)
place_shape P x w = w

-- a partner keeps the shape
pub link_shape : (i : ℕ) (p : Option (ℕ × ℕ)) → KeepsShape (with_link i p)
link_shape i p x w = (length-set x.links i p ∙ w.0, w.1 ∙ ap (λ n. n + 1) (sym (length-set x.links i p)))

-- a mark keeps the shape
pub mark_shape : (i v : ℕ) → KeepsShape (with_mark i v)
mark_shape i v x w = (w.0, length-set x.marks i v ∙ w.1)

-- a port gets or loses a partner
pub linked_shape : (f : ℕ → Option HeapAtom) (a i : ℕ) (p : Option (ℕ × ℕ)) → ((b : ℕ) → WellShaped (f b)) → (b : ℕ) → WellShaped (linked f a i p b)
linked_shape f a i p w = shape_alter f a (with_link i p) (link_shape i p) w

-- the loss of a partner keeps the shape
pub cleared_shape : (f : ℕ → Option HeapAtom) (p : Option (ℕ × ℕ)) → ((b : ℕ) → WellShaped (f b)) → (b : ℕ) → WellShaped (cleared f p b)
cleared_shape f None w = w
cleared_shape f (Some p) w = linked_shape f p.0 p.1 None w

-- `join`
pub joined_shape : (s : Heap) (a i b j : ℕ) → ((c : ℕ) → WellShaped (s.atoms c)) → (c : ℕ) → WellShaped ((joined s a i b j).atoms c)
joined_shape s a i b j w =
    linked_shape (linked (cleared (cleared s.atoms (link_of s a i)) (link_of s b j)) a i (Some (b, j))) b j (Some (a, i))
    (linked_shape (cleared (cleared s.atoms (link_of s a i)) (link_of s b j)) a i (Some (b, j))
    (cleared_shape (cleared s.atoms (link_of s a i)) (link_of s b j) (cleared_shape s.atoms (link_of s a i) w)))

-- `make_atom`
pub made_shape : (f : ℕ → Option HeapAtom) (a : ℕ) (g : Functor) → ((b : ℕ) → WellShaped (f b)) → (b : ℕ) → WellShaped (alter f a (λ _. Some (new_atom g)) b)
made_shape f a g w b = elim (cases_eq b a) [
  | inl e ↦ subst (λ z. WellShaped (alter f a (λ _. Some (new_atom g)) z)) (sym e) (subst WellShaped (sym (alter_at f a (λ _. Some (new_atom g))))
      (length-replicate g.arity (no_port), length-replicate (g.arity + 1) 0 ∙ ap (λ n. n + 1) (sym (length-replicate g.arity no_port))))
  | inr d ↦ subst WellShaped (sym (alter_away f a (λ _. Some (new_atom g)) b d)) (w b)
]
  where
    no_port : Option (ℕ × ℕ)
    no_port = None

-- `make_atom`
pub made_paired : (s : Heap) (a : ℕ) (f : Functor) → s.atoms a ≡ None → Paired s → Paired (made_atom s a f)
made_paired s a f fresh = same_paired s (made_atom s a f) (λ x i. elim (cases_eq x a) [
  | inl e ↦ subst (λ z. link_of (made_atom s a f) z i ≡ link_of s z i) (sym e)
      (ap (λ (o : Option HeapAtom). slice_index_or (partners_of o) i None) (alter_at s.atoms a (λ _. Some (new_atom f))) ∙ none f.arity i
      ∙ sym (ap (λ (o : Option HeapAtom). slice_index_or (partners_of o) i None) fresh))
  | inr d ↦ ap (λ (o : Option HeapAtom). slice_index_or (partners_of o) i None) (alter_away s.atoms a (λ _. Some (new_atom f)) x d)
])
  where
    no_port : Option (ℕ × ℕ)
    no_port = None

    none : (n i : ℕ) → slice_index_or (replicate n no_port) i None ≡ None
    none zero i = refl
    none (suc n) zero = refl
    none (suc n) (suc i) = none n i
