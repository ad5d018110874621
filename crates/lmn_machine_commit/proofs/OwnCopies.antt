-- A rest is copied while own marks are set: making and joining don't see them.
use Rattle.std.proofs.Common.{◌≡◌, ℕ, zero, suc, List, [], ◌∷◌, ◌++◌, Option, Some, None, sym, refl, ap, subst, ◌∙◌, inl, inr}
use Rattle.std.proofs.lemmas.Bool.{cases_eq}
use Rattle.std.proofs.lemmas.List.{length-set}
use Rattle.std.specs.Option.{option_map}
use Rattle.lmn_base.specs.declared.functor.Functor.{Functor}
use Rattle.lmn_base.specs.Graphs.{AtomMap}
use Rattle.lmn_store_heap.specs.Heap.{Heap, HeapAtom, alter, with_link, with_mark, new_atom, functor_of, link_of, arity_of, linked, cleared, joined, made_atom, made_mem, reserved}
use Rattle.lmn_store_heap.specs.Splice.{joined_to}
use Rattle.lmn_store_heap.proofs.Listing.{alter_at, alter_away}
use Rattle.lmn_ground.specs.Marks.{paint_at}
use Rattle.lmn_ground.proofs.PaintedAt.{paint_functor, map_painted}
use Rattle.lmn_machine_commit.specs.OwnMarks.{own_place, own_painted}
use Rattle.lmn_ground_parts.specs.Copies.{answer, made_as, made_like, moved, ports_of}
use Rattle.lmn_ground_parts.specs.Rests.{made_roomy, joined_as, all_joined_as, rest_copied}
use Rattle.lmn_ground_parts.specs.Walks.{port_range}
use Rattle.lmn_base.specs.Lists.{In}
use Rattle.lmn_machine_commit.proofs.Owning.{arity_painted as arity_same}

-- atoms with own marks
abbrev over : (ℕ → ℕ) → (ℕ → Option HeapAtom) → ℕ → Option HeapAtom
over v f c = paint_at own_place (v c) (f c)

link_painted : (v i : ℕ) (p : Option (ℕ × ℕ)) (o : Option HeapAtom) → option_map (with_link i p) (paint_at own_place v o) ≡ paint_at own_place v (option_map (with_link i p) o)
link_painted zero i p o = refl
link_painted (suc v) i p None = refl
link_painted (suc v) i p (Some x) = ap (λ (k : ℕ). Some (with_link i p (with_mark k (suc v) x))) (sym (length-set x.links i p))

linked_at : (v : ℕ → ℕ) (f : ℕ → Option HeapAtom) (a i : ℕ) (p : Option (ℕ × ℕ)) (c : ℕ) → linked (over v f) a i p c ≡ over v (linked f a i p) c
linked_at v f a i p c = elim (cases_eq c a) [
  | inl e ↦ subst (λ (z : ℕ). linked (over v f) a i p z ≡ over v (linked f a i p) z) (sym e)
      (alter_at (over v f) a (option_map (with_link i p)) ∙ link_painted (v a) i p (f a) ∙ ap (paint_at own_place (v a)) (sym (alter_at f a (option_map (with_link i p)))))
  | inr d ↦ alter_away (over v f) a (option_map (with_link i p)) c d ∙ ap (paint_at own_place (v c)) (sym (alter_away f a (option_map (with_link i p)) c d))
]

linked_over : (v : ℕ → ℕ) (f : ℕ → Option HeapAtom) (a i : ℕ) (p : Option (ℕ × ℕ)) → linked (over v f) a i p ≡ over v (linked f a i p)
linked_over v f a i p = λ k c. (linked_at v f a i p c) k

cleared_over : (v : ℕ → ℕ) (f : ℕ → Option HeapAtom) (q : Option (ℕ × ℕ)) → cleared (over v f) q ≡ over v (cleared f q)
cleared_over v f None = refl
cleared_over v f (Some q) = linked_over v f q.0 q.1 None

joined_over : (v : ℕ → ℕ) (f : ℕ → Option HeapAtom) (p q : Option (ℕ × ℕ)) (a i b j : ℕ)
    → linked (linked (cleared (cleared (over v f) p) q) a i (Some (b, j))) b j (Some (a, i)) ≡ over v (linked (linked (cleared (cleared f p) q) a i (Some (b, j))) b j (Some (a, i)))
joined_over v f p q a i b j =
    ap (λ (g : ℕ → Option HeapAtom). linked (linked (cleared g q) a i (Some (b, j))) b j (Some (a, i))) (cleared_over v f p)
    ∙ ap (λ (g : ℕ → Option HeapAtom). linked (linked g a i (Some (b, j))) b j (Some (a, i))) (cleared_over v (cleared f p) q)
    ∙ ap (λ (g : ℕ → Option HeapAtom). linked g b j (Some (a, i))) (linked_over v (cleared (cleared f p) q) a i (Some (b, j)))
    ∙ linked_over v (linked (cleared (cleared f p) q) a i (Some (b, j))) b j (Some (a, i))

link_same : (s : Heap) (v : ℕ → ℕ) (a i : ℕ) → link_of (own_painted s v) a i ≡ link_of s a i
link_same s v a i = ap (λ (n : AtomMap). n.partner (a, i)) (map_painted own_place s v)

joined_painted : (s : Heap) (v : ℕ → ℕ) (a i b j : ℕ) → joined (own_painted s v) a i b j ≡ own_painted (joined s a i b j) v
joined_painted s v a i b j = ap (λ (f : ℕ → Option HeapAtom). let t : Heap = record s { atoms = f } in t)
    (ap (λ (p : Option (ℕ × ℕ)). linked (linked (cleared (cleared (over v s.atoms) p) (link_of (own_painted s v) b j)) a i (Some (b, j))) b j (Some (a, i))) (link_same s v a i)
    ∙ ap (λ (q : Option (ℕ × ℕ)). linked (linked (cleared (cleared (over v s.atoms) (link_of s a i)) q) a i (Some (b, j))) b j (Some (a, i))) (link_same s v b j)
    ∙ joined_over v s.atoms (link_of s a i) (link_of s b j) a i b j)

one_joined : (f : ℕ → ℕ) (s : Heap) (v : ℕ → ℕ) (p : ℕ × ℕ) → joined_as f (own_painted s v) p ≡ own_painted (joined_as f s p) v
one_joined f s v p = ap (λ (o : Option (ℕ × ℕ)). joined_to (own_painted s v) (f p.0) p.1 (option_map (moved f) o)) (link_same s v p.0 p.1) ∙ by (option_map (moved f) (link_of s p.0 p.1))
  where
    by : (o : Option (ℕ × ℕ)) → joined_to (own_painted s v) (f p.0) p.1 o ≡ own_painted (joined_to s (f p.0) p.1 o) v
    by None = refl
    by (Some q) = joined_painted s v (f p.0) p.1 q.0 q.1

all_joined : (f : ℕ → ℕ) (s : Heap) (v : ℕ → ℕ) (ps : List (ℕ × ℕ)) → all_joined_as f (own_painted s v) ps ≡ own_painted (all_joined_as f s ps) v
all_joined f s v [] = refl
all_joined f s v (p ∷ ps) = ap (λ (t : Heap). all_joined_as f t ps) (one_joined f s v p) ∙ all_joined f (joined_as f s p) v ps

ports_same : (s : Heap) (v : ℕ → ℕ) (xs : List ℕ) → ports_of (own_painted s v) xs ≡ ports_of s xs
ports_same s v [] = refl
ports_same s v (a ∷ xs) = ap (λ (n : ℕ). port_range a 0 n ++ ports_of (own_painted s v) xs) (arity_same s v a) ∙ ap (λ (ps : List (ℕ × ℕ)). port_range a 0 (arity_of s a) ++ ps) (ports_same s v xs)

as_painted : (s : Heap) (v : ℕ → ℕ) (y : ℕ) (o : Option Functor) → v y ≡ 0 → made_as (own_painted s v) y o ≡ own_painted (made_as s y o) v
as_painted s v y None z = refl
as_painted s v y (Some f) z = λ k. record (made_atom s y f) { atoms = λ c. (at c) k }
  where
    at : (c : ℕ) → alter (over v s.atoms) y (λ _. Some (new_atom f)) c ≡ over v (alter s.atoms y (λ _. Some (new_atom f))) c
    at c = elim (cases_eq c y) [
      | inl e ↦ subst (λ (x : ℕ). alter (over v s.atoms) y (λ _. Some (new_atom f)) x ≡ over v (alter s.atoms y (λ _. Some (new_atom f))) x) (sym e)
          (alter_at (over v s.atoms) y (λ _. Some (new_atom f)) ∙ ap (λ (m : ℕ). paint_at own_place m (Some (new_atom f))) (sym z) ∙ ap (paint_at own_place (v y)) (sym (alter_at s.atoms y (λ _. Some (new_atom f)))))
      | inr d ↦ alter_away (over v s.atoms) y (λ _. Some (new_atom f)) c d ∙ ap (paint_at own_place (v c)) (sym (alter_away s.atoms y (λ _. Some (new_atom f)) c d))
    ]

-- copies of atoms are made alike with own marks
pub made_own : (s : Heap) (v : ℕ → ℕ) (xs ys : List ℕ) → ((y : ℕ) → In y ys → v y ≡ 0) → made_like (own_painted s v) xs ys ≡ own_painted (made_like s xs ys) v
made_own s v [] ys z = refl
made_own s v (x ∷ xs) [] z = refl
made_own s v (x ∷ xs) (y ∷ ys) z =
    ap (λ (t : Heap). made_like t xs ys) (ap (made_as (own_painted s v) y) (paint_functor own_place (v x) (s.atoms x)) ∙ as_painted s v y (functor_of s x) (z y (inl refl)))
    ∙ made_own (made_as s y (functor_of s x)) v xs ys (λ w k. z w (inr k))

-- and so are membranes
pub roomy_own : (s : Heap) (v : ℕ → ℕ) (rooms : List (ℕ × ℕ)) → made_roomy (own_painted s v) rooms ≡ own_painted (made_roomy s rooms) v
roomy_own s v [] = refl
roomy_own s v (e ∷ es) = roomy_own (reserved (made_mem s e.0) e.0 e.1) v es

-- A rest is copied alike with own marks.
pub copied_own : (s : Heap) (v : ℕ → ℕ) (xs ys : List ℕ) (rooms : List (ℕ × ℕ)) → ((y : ℕ) → In y ys → v y ≡ 0) → rest_copied (own_painted s v) xs rooms ys ≡ own_painted (rest_copied s xs rooms ys) v
copied_own s v xs ys rooms z =
    let t = made_roomy s rooms in
    let like = made_like t xs ys in
    let made : made_like (made_roomy (own_painted s v) rooms) xs ys ≡ own_painted like v = ap (λ (u : Heap). made_like u xs ys) (roomy_own s v rooms) ∙ made_own t v xs ys z in
    ap (λ (u : Heap). all_joined_as (answer xs ys) u (ports_of u xs)) made
    ∙ ap (λ (ps : List (ℕ × ℕ)). all_joined_as (answer xs ys) (own_painted like v) ps) (ports_same like v xs)
    ∙ all_joined (answer xs ys) like v (ports_of like xs)
