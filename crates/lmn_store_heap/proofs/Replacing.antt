-- Ports that have a partner, heaps in which nothing waits, and functors, which joining keeps.
use Rattle.std.proofs.Common.{◌≡◌, ◌⊎◌, ℕ, zero, suc, ◌<◌, List, [], ◌∷◌, length, Option, Some, None, IsSome, refl, sym, subst, ◌∙◌, inl, inr, arith}
use Rattle.std.specs.Option.{option_map, option_and_then}
use Rattle.std.specs.Prelude.{slice_index_or}
use Rattle.lmn_store_heap.specs.Heap.{Heap, HeapAtom, HeapMem, Place, top, waiting, home_by, place_of, mem_place_of, partners_of, link_of, arity_of, functor_of, with_link, linked, cleared, joined}
use Rattle.lmn_store_heap.specs.Sound.{Listed, AllInPlace}
use Rattle.lmn_store_heap.proofs.Listing.{alter_keeps}
use Rattle.lmn_base.specs.Lists.{In}

-- a port that has a partner is one
pub port_within : (s : Heap) (x i : ℕ) (p : ℕ × ℕ) → link_of s x i ≡ Some p → i < arity_of s x
port_within s x i p e = by (partners_of (s.atoms x)) i e
  where
    by : (xs : List (Option (ℕ × ℕ))) (i : ℕ) → slice_index_or xs i None ≡ Some p → i < length xs
    by [] i e = absurd (cc)
    by (y ∷ ys) zero e = omega arith
    by (y ∷ ys) (suc i) e = let r = by ys i e in omega arith

-- in a settled heap nothing waits
pub no_waiting : (s : Heap) → Listed s → AllInPlace s → s.new_atoms ≡ []
no_waiting s h q = by s.new_atoms (λ a i. (h.new_atoms a).0 i)
  where
    never : (o : Option HeapAtom) → option_map (λ x. x.place) o ≡ Some waiting → (IsSome o → IsSome (option_and_then (λ x. home_by x.place) o)) → ⊥
    never None e g = absurd (cc)
    never (Some x) e g = let w : x.place ≡ waiting = (cc) in let n : IsSome (home_by waiting) = subst (λ p. IsSome (home_by p)) w (g refl) in absurd (cc)

    by : (xs : List ℕ) → ((a : ℕ) → In a xs → place_of s a ≡ Some waiting) → xs ≡ []
    by [] f = refl
    by (a ∷ xs) f = absurd (never (s.atoms a) (f a (inl refl)) (q.atoms a))

mem_standing : (o : Option HeapMem) (P : Place) → option_map (λ x. x.place) o ≡ Some P → (home_by P ≡ None) → (P ≡ top → ⊥)
    → (IsSome o → (option_map (λ x. x.place) o ≡ Some top) ⊎ IsSome (option_and_then (λ x. home_by x.place) o)) → ⊥
mem_standing None P e n d g = absurd (cc)
mem_standing (Some x) P e n d g = let w : x.place ≡ P = (cc) in
    elim (g refl) [
      | inl t ↦ d (let u : Some P ≡ Some top = sym e ∙ t in cc)
      | inr t ↦ (let u : IsSome (home_by P) = subst (λ p. IsSome (home_by p)) w t in let z : IsSome {T = ℕ} None = subst (λ (o : Option ℕ). IsSome o) n u in absurd (cc))
    ]

-- where all is in place no membrane waits
pub no_waiting_mems : (s : Heap) → Listed s → AllInPlace s → s.new_mems ≡ []
no_waiting_mems s h q = by s.new_mems (λ a i. (h.new_mems a).0 i)
  where
    by : (xs : List ℕ) → ((a : ℕ) → In a xs → mem_place_of s a ≡ Some waiting) → xs ≡ []
    by [] f = refl
    by (a ∷ xs) f = absurd (mem_standing (s.mems a) waiting (f a (inl refl)) refl (λ e. absurd (cc)) (q.mems a))

linked_functor : (f : ℕ → Option HeapAtom) (a i : ℕ) (p : Option (ℕ × ℕ)) (b : ℕ) → option_map (λ x. x.functor) (linked f a i p b) ≡ option_map (λ x. x.functor) (f b)
linked_functor f a i p b = alter_keeps f a (option_map (with_link i p)) (λ o. option_map (λ x. x.functor) o) by b
  where
    by : (x : Option HeapAtom) → option_map (λ y. y.functor) (option_map (with_link i p) x) ≡ option_map (λ y. y.functor) x
    by None = refl
    by (Some x) = refl

cleared_functor : (f : ℕ → Option HeapAtom) (p : Option (ℕ × ℕ)) (b : ℕ) → option_map (λ x. x.functor) (cleared f p b) ≡ option_map (λ x. x.functor) (f b)
cleared_functor f None b = refl
cleared_functor f (Some p) b = linked_functor f p.0 p.1 None b

-- `join` changes no functor
pub joined_functor : (s : Heap) (a i b j c : ℕ) → functor_of (joined s a i b j) c ≡ functor_of s c
joined_functor s a i b j c =
    linked_functor (linked (cleared (cleared s.atoms (link_of s a i)) (link_of s b j)) a i (Some (b, j))) b j (Some (a, i)) c
    ∙ linked_functor (cleared (cleared s.atoms (link_of s a i)) (link_of s b j)) a i (Some (b, j)) c
    ∙ cleared_functor (cleared s.atoms (link_of s a i)) (link_of s b j) c ∙ cleared_functor s.atoms (link_of s a i) c
