-- First marks are taken back after a copy was made: making and joining don't see them.
use Rattle.std.proofs.Common.{◌≡◌, ℕ, zero, suc, Bool, true, false, cond, List, [], ◌∷◌, ◌++◌, Option, Some, None, refl, sym, ap, subst, ◌∙◌, inl, inr}
use Rattle.std.proofs.lemmas.Bool.{cases_eq}
use Rattle.std.specs.Option.{option_map}
use Rattle.lmn_base.specs.declared.functor.Functor.{Functor}
use Rattle.lmn_store_heap.specs.Heap.{Heap, HeapAtom, alter, with_link, new_atom, functor_of, link_of, arity_of, linked, cleared, joined, made_atom}
use Rattle.lmn_store_heap.specs.Splice.{joined_to}
use Rattle.lmn_store_heap.proofs.Listing.{alter_at, alter_away}
use Rattle.lmn_ground.specs.Marks.{first_place, paint, painted, first_marks}
use Rattle.lmn_ground.specs.Copies.{unmarked_all}
use Rattle.lmn_ground_parts.specs.Copies.{made_as, made_like, moved, joined_like, all_joined, ports_of}
use Rattle.lmn_ground.proofs.PaintLaws.{net_painted, painted_cleared}
use Rattle.lmn_ground.proofs.PaintedAt.{paint_functor, painted_none}
use Rattle.lmn_ground_parts.specs.Walks.{port_range, Net, is_port}
use Rattle.lmn_base.specs.Lists.{In}

-- atoms with first marks
abbrev over : (ℕ → ℕ) → (ℕ → Option HeapAtom) → ℕ → Option HeapAtom
over v f c = paint (v c) (f c)

link_painted : (v i : ℕ) (p : Option (ℕ × ℕ)) (o : Option HeapAtom) → option_map (with_link i p) (paint v o) ≡ paint v (option_map (with_link i p) o)
link_painted zero i p o = refl
link_painted (suc v) i p None = refl
link_painted (suc v) i p (Some x) = refl

linked_at : (v : ℕ → ℕ) (f : ℕ → Option HeapAtom) (a i : ℕ) (p : Option (ℕ × ℕ)) (c : ℕ) → linked (over v f) a i p c ≡ over v (linked f a i p) c
linked_at v f a i p c = elim (cases_eq c a) [
  | inl e ↦ subst (λ (z : ℕ). linked (over v f) a i p z ≡ over v (linked f a i p) z) (sym e)
      (alter_at (over v f) a (option_map (with_link i p)) ∙ link_painted (v a) i p (f a) ∙ ap (paint (v a)) (sym (alter_at f a (option_map (with_link i p)))))
  | inr d ↦ alter_away (over v f) a (option_map (with_link i p)) c d ∙ ap (paint (v c)) (sym (alter_away f a (option_map (with_link i p)) c d))
]

linked_over : (v : ℕ → ℕ) (f : ℕ → Option HeapAtom) (a i : ℕ) (p : Option (ℕ × ℕ)) → linked (over v f) a i p ≡ over v (linked f a i p)
linked_over v f a i p = λ k c. (linked_at v f a i p c) k

cleared_over : (v : ℕ → ℕ) (f : ℕ → Option HeapAtom) (q : Option (ℕ × ℕ)) → cleared (over v f) q ≡ over v (cleared f q)
cleared_over v f None = refl
cleared_over v f (Some q) = linked_over v f q.0 q.1 None

joined_over : (v : ℕ → ℕ) (f : ℕ → Option HeapAtom) (p q : Option (ℕ × ℕ)) (a i b j : ℕ)
    → linked (linked (cleared (cleared (over v f) p) q) a i (Some (b, j))) b j (Some (a, i)) ≡ over v (linked (linked (cleared (cleared f p) q) a i (Some (b, j))) b j (Some (a, i)))
joined_over v f p q a i b j =
    ap (λ (g : ℕ → Option HeapAtom). linked (linked (cleared g q) a i (Some (b, j))) b j (Some (a, i))) (cleared_over v f p)
    ∙ ap (λ (g : ℕ → Option HeapAtom). linked (linked g a i (Some (b, j))) b j (Some (a, i))) (cleared_over v (cleared f p) q)
    ∙ ap (λ (g : ℕ → Option HeapAtom). linked g b j (Some (a, i))) (linked_over v (cleared (cleared f p) q) a i (Some (b, j)))
    ∙ linked_over v (linked (cleared (cleared f p) q) a i (Some (b, j))) b j (Some (a, i))

link_same : (s : Heap) (v : ℕ → ℕ) (a i : ℕ) → link_of (painted s v) a i ≡ link_of s a i
link_same s v a i = ap (λ (n : Net). n.link a i) (net_painted s v)

joined_painted : (s : Heap) (v : ℕ → ℕ) (a i b j : ℕ) → joined (painted s v) a i b j ≡ painted (joined s a i b j) v
joined_painted s v a i b j = ap (λ (f : ℕ → Option HeapAtom). let t : Heap = record s { atoms = f } in t)
    (ap (λ (p : Option (ℕ × ℕ)). linked (linked (cleared (cleared (over v s.atoms) p) (link_of (painted s v) b j)) a i (Some (b, j))) b j (Some (a, i))) (link_same s v a i)
    ∙ ap (λ (q : Option (ℕ × ℕ)). linked (linked (cleared (cleared (over v s.atoms) (link_of s a i)) q) a i (Some (b, j))) b j (Some (a, i))) (link_same s v b j)
    ∙ joined_over v s.atoms (link_of s a i) (link_of s b j) a i b j)

like_painted : (f : ℕ → ℕ) (root : ℕ × ℕ) (s : Heap) (v : ℕ → ℕ) (p : ℕ × ℕ) → joined_like f root (painted s v) p ≡ painted (joined_like f root s p) v
like_painted f root s v p =
    ap (λ (o : Option (ℕ × ℕ)). cond (is_port p root) (painted s v) (joined_to (painted s v) (f p.0) p.1 (option_map (moved f) o))) (link_same s v p.0 p.1)
    ∙ by (is_port p root) (option_map (moved f) (link_of s p.0 p.1))
  where
    by : (t : Bool) (o : Option (ℕ × ℕ)) → cond t (painted s v) (joined_to (painted s v) (f p.0) p.1 o) ≡ painted (cond t s (joined_to s (f p.0) p.1 o)) v
    by true o = refl
    by false None = refl
    by false (Some q) = joined_painted s v (f p.0) p.1 q.0 q.1

-- marks and joined ports don't depend on each other
pub all_painted : (f : ℕ → ℕ) (root : ℕ × ℕ) (s : Heap) (v : ℕ → ℕ) (ps : List (ℕ × ℕ)) → all_joined f root (painted s v) ps ≡ painted (all_joined f root s ps) v
all_painted f root s v [] = refl
all_painted f root s v (p ∷ ps) = ap (λ (t : Heap). all_joined f root t ps) (like_painted f root s v p) ∙ all_painted f root (joined_like f root s p) v ps

-- the ports of atoms stay with marks
pub ports_painted : (s : Heap) (v : ℕ → ℕ) (xs : List ℕ) → ports_of (painted s v) xs ≡ ports_of s xs
ports_painted s v [] = refl
ports_painted s v (a ∷ xs) = ap (λ (n : Net). port_range a 0 (n.arity a) ++ ports_of (painted s v) xs) (net_painted s v) ∙ ap (λ (ps : List (ℕ × ℕ)). port_range a 0 (arity_of s a) ++ ps) (ports_painted s v xs)

as_painted : (s : Heap) (v : ℕ → ℕ) (y : ℕ) (o : Option Functor) → v y ≡ 0 → made_as (painted s v) y o ≡ painted (made_as s y o) v
as_painted s v y None z = refl
as_painted s v y (Some f) z = λ k. record (made_atom s y f) { atoms = λ c. (at c) k }
  where
    at : (c : ℕ) → alter (over v s.atoms) y (λ _. Some (new_atom f)) c ≡ over v (alter s.atoms y (λ _. Some (new_atom f))) c
    at c = elim (cases_eq c y) [
      | inl e ↦ subst (λ (x : ℕ). alter (over v s.atoms) y (λ _. Some (new_atom f)) x ≡ over v (alter s.atoms y (λ _. Some (new_atom f))) x) (sym e)
          (alter_at (over v s.atoms) y (λ _. Some (new_atom f)) ∙ ap (λ (m : ℕ). paint m (Some (new_atom f))) (sym z) ∙ ap (paint (v y)) (sym (alter_at s.atoms y (λ _. Some (new_atom f)))))
      | inr d ↦ alter_away (over v s.atoms) y (λ _. Some (new_atom f)) c d ∙ ap (paint (v c)) (sym (alter_away s.atoms y (λ _. Some (new_atom f)) c d))
    ]

-- copies are made alike with marks
pub made_painted : (s : Heap) (v : ℕ → ℕ) (xs ys : List ℕ) → ((y : ℕ) → In y ys → v y ≡ 0) → made_like (painted s v) xs ys ≡ painted (made_like s xs ys) v
made_painted s v [] ys z = refl
made_painted s v (x ∷ xs) [] z = refl
made_painted s v (x ∷ xs) (y ∷ ys) z =
    ap (λ (t : Heap). made_like t xs ys) (ap (made_as (painted s v) y) (paint_functor first_place (v x) (s.atoms x)) ∙ as_painted s v y (functor_of s x) (z y (inl refl)))
    ∙ made_painted (made_as s y (functor_of s x)) v xs ys (λ w k. z w (inr k))

-- a heap whose marks are cleared is as before
pub unmarked_painted : (s : Heap) (v : ℕ → ℕ) (xs : List ℕ) → ((x : ℕ) → In x xs → first_marks s x ≡ 0) → ((x : ℕ) → (In x xs → ⊥) → v x ≡ 0) → unmarked_all (painted s v) xs ≡ s
unmarked_painted s v [] h out = painted_none first_place s v (λ a. out a (λ k. k))
unmarked_painted s v (x ∷ xs) h out =
    ap (λ (t : Heap). unmarked_all t xs) (painted_cleared s v x (h x (inl refl)))
    ∙ unmarked_painted s (alter v x (λ _. 0)) xs (λ z k. h z (inr k)) (λ z n. elim (cases_eq z x) [
      | inl e ↦ subst (λ (w : ℕ). alter v x (λ _. 0) w ≡ 0) (sym e) (alter_at v x (λ _. 0))
      | inr d ↦ alter_away v x (λ _. 0) z d ∙ out z (λ k. not_in z n d k)
    ])
  where
    not_in : (z : ℕ) → (In z xs → ⊥) → (z ≡ x → ⊥) → In z (x ∷ xs) → ⊥
    not_in z n d (inl e) = d (sym e)
    not_in z n d (inr k) = n k
