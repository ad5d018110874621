-- What partners don't change stays when ports are joined.
use Rattle.std.proofs.Common.{◌≡◌, ℕ, Option, Some, None, refl, sym, ap, subst, ◌∙◌, inl, inr}
use Rattle.std.proofs.lemmas.Bool.{cases_eq}
use Rattle.std.specs.Option.{option_map}
use Rattle.lmn_store_heap.specs.Heap.{Heap, HeapAtom, with_link, link_of, linked, cleared, joined}
use Rattle.lmn_store_heap.proofs.Listing.{alter_at, alter_away}

module _ {X : Type 0} (view : Option HeapAtom → X) (h : (i : ℕ) (p : Option (ℕ × ℕ)) (o : Option HeapAtom) → view (option_map (with_link i p) o) ≡ view o) where
  -- a port gets a partner
  pub linked_view : (f : ℕ → Option HeapAtom) (a i : ℕ) (p : Option (ℕ × ℕ)) (c : ℕ) → view (linked f a i p c) ≡ view (f c)
  linked_view f a i p c = elim (cases_eq c a) [
    | inl e ↦ subst (λ (z : ℕ). view (linked f a i p z) ≡ view (f z)) (sym e) (ap view (alter_at f a (option_map (with_link i p))) ∙ h i p (f a))
    | inr d ↦ ap view (alter_away f a (option_map (with_link i p)) c d)
  ]

  -- one that was a partner loses it
  pub cleared_view : (f : ℕ → Option HeapAtom) (q : Option (ℕ × ℕ)) (c : ℕ) → view (cleared f q c) ≡ view (f c)
  cleared_view f None c = refl
  cleared_view f (Some q) c = linked_view f q.0 q.1 None c

  -- two ports are joined
  pub joined_view : (s : Heap) (a i b j c : ℕ) → view ((joined s a i b j).atoms c) ≡ view (s.atoms c)
  joined_view s a i b j c =
      linked_view (linked (cleared (cleared s.atoms (link_of s a i)) (link_of s b j)) a i (Some (b, j))) b j (Some (a, i)) c
      ∙ linked_view (cleared (cleared s.atoms (link_of s a i)) (link_of s b j)) a i (Some (b, j)) c
      ∙ cleared_view (cleared s.atoms (link_of s a i)) (link_of s b j) c ∙ cleared_view s.atoms (link_of s a i) c
