-- Two ports that are joined are joined once more, and nothing changes.
use Rattle.std.proofs.Common.{◌≡◌, ◌≢◌, ℕ, zero, suc, false, List, [], ◌∷◌, Option, Some, None, IsSome, refl, sym, ap, subst, ◌∙◌, inl, inr}
use Rattle.std.proofs.lemmas.Bool.{cases_eq}
use Rattle.std.specs.Option.{option_map}
use Rattle.std.specs.Prelude.{slice_index_or, slice_set}
use Rattle.lmn_base.specs.Lists.{In}
use Rattle.lmn_store_heap.specs.Heap.{Heap, HeapAtom, with_link, partners_of, link_of, linked, cleared, joined}
use Rattle.lmn_store_heap.proofs.Listing.{alter_at, alter_away}
use Rattle.lmn_store_heap.proofs.Ports.{SamePort}
use Rattle.lmn_ground.specs.Copies.{Copying}
use Rattle.lmn_ground_parts.specs.Copies.{moved, joined_like, answer}
use Rattle.lmn_ground_parts.specs.Walks.{is_port}
use Rattle.lmn_ground.proofs.JoinLaws.{like_some, copies_differ}

-- ---- places of lists that are set

set_twice : {A : Type 0} (xs : List A) (k : ℕ) (v w : A) → slice_set (slice_set xs k v) k w ≡ slice_set xs k w
set_twice [] k v w = refl
set_twice (x ∷ xs) zero v w = refl
set_twice (x ∷ xs) (suc k) v w = ap (λ ys. x ∷ ys) (set_twice xs k v w)

set_swap : {A : Type 0} (xs : List A) (k l : ℕ) (v w : A) → k ≢ l → slice_set (slice_set xs k v) l w ≡ slice_set (slice_set xs l w) k v
set_swap [] k l v w d = refl
set_swap (x ∷ xs) zero zero v w d = absurd (d refl)
set_swap (x ∷ xs) zero (suc l) v w d = refl
set_swap (x ∷ xs) (suc k) zero v w d = refl
set_swap (x ∷ xs) (suc k) (suc l) v w d = ap (λ ys. x ∷ ys) (set_swap xs k l v w (λ e. d (ap suc e)))

set_same : {A : Type 0} (xs : List A) (k : ℕ) (v w : A) → slice_index_or xs k w ≡ v → slice_set xs k v ≡ xs
set_same [] k v w e = refl
set_same (x ∷ xs) zero v w e = ap (λ y. y ∷ xs) (sym e)
set_same (x ∷ xs) (suc k) v w e = ap (λ ys. x ∷ ys) (set_same xs k v w e)

-- ---- ports whose partners are set

linked_twice : (f : ℕ → Option HeapAtom) (a i : ℕ) (p q : Option (ℕ × ℕ)) → linked (linked f a i p) a i q ≡ linked f a i q
linked_twice f a i p q = λ k x. (at x) k
  where
    by : (o : Option HeapAtom) → option_map (with_link i q) (option_map (with_link i p) o) ≡ option_map (with_link i q) o
    by None = refl
    by (Some y) = ap (λ (xs : List (Option (ℕ × ℕ))). Some (record y { links = xs })) (set_twice y.links i p q)

    at : (x : ℕ) → linked (linked f a i p) a i q x ≡ linked f a i q x
    at x = elim (cases_eq x a) [
      | inl e ↦ subst (λ (z : ℕ). linked (linked f a i p) a i q z ≡ linked f a i q z) (sym e)
          (alter_at (linked f a i p) a (option_map (with_link i q)) ∙ ap (option_map (with_link i q)) (alter_at f a (option_map (with_link i p))) ∙ by (f a) ∙ sym (alter_at f a (option_map (with_link i q))))
      | inr d ↦ alter_away (linked f a i p) a (option_map (with_link i q)) x d ∙ alter_away f a (option_map (with_link i p)) x d ∙ sym (alter_away f a (option_map (with_link i q)) x d)
    ]

linked_swap : (f : ℕ → Option HeapAtom) (a i : ℕ) (p : Option (ℕ × ℕ)) (b j : ℕ) (q : Option (ℕ × ℕ)) → (SamePort a i b j → ⊥) → linked (linked f a i p) b j q ≡ linked (linked f b j q) a i p
linked_swap f a i p b j q d = λ k x. (at x) k
  where
    G : Option HeapAtom → Option HeapAtom
    G = option_map (with_link i p)

    H : Option HeapAtom → Option HeapAtom
    H = option_map (with_link j q)

    by : i ≢ j → (o : Option HeapAtom) → option_map (with_link j q) (option_map (with_link i p) o) ≡ option_map (with_link i p) (option_map (with_link j q) o)
    by n None = refl
    by n (Some y) = ap (λ (xs : List (Option (ℕ × ℕ))). Some (record y { links = xs })) (set_swap y.links i j p q n)

    at : (x : ℕ) → linked (linked f a i p) b j q x ≡ linked (linked f b j q) a i p x
    at x = elim (cases_eq x a) [
      | inl e ↦ elim (cases_eq x b) [
        | inl g ↦
            let n : i ≢ j = λ h. d (sym e ∙ g, h) in
            subst (λ (z : ℕ). linked (linked f z i p) b j q x ≡ linked (linked f b j q) z i p x) e
            (subst (λ (z : ℕ). linked (linked f x i p) z j q x ≡ linked (linked f z j q) x i p x) g
            (alter_at (linked f x i p) x (option_map (with_link j q)) ∙ ap (option_map (with_link j q)) (alter_at f x (option_map (with_link i p))) ∙ by n (f x)
            ∙ sym (alter_at (linked f x j q) x (option_map (with_link i p)) ∙ ap (option_map (with_link i p)) (alter_at f x (option_map (with_link j q))))))
        | inr n ↦
            subst (λ (z : ℕ). linked (linked f z i p) b j q x ≡ linked (linked f b j q) z i p x) e
            (alter_away (linked f x i p) b (option_map (with_link j q)) x n ∙ alter_at f x (option_map (with_link i p))
            ∙ sym (alter_at (linked f b j q) x (option_map (with_link i p)) ∙ ap (option_map (with_link i p)) (alter_away f b (option_map (with_link j q)) x n)))
      ]
      | inr m ↦ elim (cases_eq x b) [
        | inl g ↦
            subst (λ (z : ℕ). linked (linked f a i p) z j q x ≡ linked (linked f z j q) a i p x) g
            (alter_at (linked f a i p) x (option_map (with_link j q)) ∙ ap (option_map (with_link j q)) (alter_away f a (option_map (with_link i p)) x m)
            ∙ sym (alter_away (linked f x j q) a (option_map (with_link i p)) x m ∙ alter_at f x (option_map (with_link j q))))
        | inr n ↦ alter_away (linked f a i p) b (option_map (with_link j q)) x n ∙ alter_away f a (option_map (with_link i p)) x m
            ∙ sym (alter_away (linked f b j q) a (option_map (with_link i p)) x m ∙ alter_away f b (option_map (with_link j q)) x n)
      ]
    ]

linked_same : (f : ℕ → Option HeapAtom) (a i : ℕ) (p : Option (ℕ × ℕ)) → slice_index_or (partners_of (f a)) i None ≡ p → linked f a i p ≡ f
linked_same f a i p h = λ k x. (at x) k
  where
    by : (o : Option HeapAtom) → slice_index_or (partners_of o) i None ≡ p → option_map (with_link i p) o ≡ o
    by None e = refl
    by (Some y) e = ap (λ (xs : List (Option (ℕ × ℕ))). Some (record y { links = xs })) (set_same y.links i p None e)

    at : (x : ℕ) → linked f a i p x ≡ f x
    at x = elim (cases_eq x a) [
      | inl e ↦ subst (λ (z : ℕ). linked f a i p z ≡ f z) (sym e) (alter_at f a (option_map (with_link i p)) ∙ by (f a) h)
      | inr d ↦ alter_away f a (option_map (with_link i p)) x d
    ]

-- two ports that are joined are joined once more
joined_again : (s : Heap) (a i b j : ℕ) → link_of s a i ≡ Some (b, j) → link_of s b j ≡ Some (a, i) → (SamePort a i b j → ⊥) → joined s a i b j ≡ s
joined_again s a i b j e g d = λ k. record s { atoms = all k }
  where
    there : linked (linked (cleared (cleared s.atoms (Some (b, j))) (Some (a, i))) a i (Some (b, j))) b j (Some (a, i)) ≡ s.atoms
    there =
        ap (λ (f : ℕ → Option HeapAtom). linked f b j (Some (a, i))) (linked_twice (linked s.atoms b j None) a i None (Some (b, j)))
        ∙ linked_swap (linked s.atoms b j None) a i (Some (b, j)) b j (Some (a, i)) d
        ∙ ap (λ (f : ℕ → Option HeapAtom). linked f a i (Some (b, j))) (linked_twice s.atoms b j None (Some (a, i)) ∙ linked_same s.atoms b j (Some (a, i)) g)
        ∙ linked_same s.atoms a i (Some (b, j)) e

    all : (joined s a i b j).atoms ≡ s.atoms
    all =
        ap (λ (o : Option (ℕ × ℕ)). linked (linked (cleared (cleared s.atoms o) (link_of s b j)) a i (Some (b, j))) b j (Some (a, i))) e
        ∙ ap (λ (o : Option (ℕ × ℕ)). linked (linked (cleared (cleared s.atoms (Some (b, j))) o) a i (Some (b, j))) b j (Some (a, i))) g
        ∙ there

-- a port whose copy has a partner needs no more
pub port_again : (s : Heap) (root : ℕ × ℕ) (xs ys : List ℕ) (a i c : ℕ) → Copying s root xs ys → In a xs → is_port (a, i) root ≡ false → c ≡ answer xs ys a → IsSome (link_of s c i)
    → s ≡ joined_like (answer xs ys) root s (a, i)
port_again s root xs ys a i c t a_in other is some =
    let has : IsSome (link_of s (answer xs ys a) i) = subst (λ (z : ℕ). IsSome (link_of s z i)) is some in
    elim (t.joined a i a_in) [
      | inl none ↦ absurd (let h = subst (λ (o : Option (ℕ × ℕ)). IsSome o) none has in absurd (cc))
      | inr r ↦ by (link_of s a i) refl r.1 r.2
    ]
  where
    by : (o : Option (ℕ × ℕ)) → link_of s a i ≡ o → IsSome (link_of s a i) → link_of s (answer xs ys a) i ≡ option_map (moved (answer xs ys)) (link_of s a i) → s ≡ joined_like (answer xs ys) root s (a, i)
    by None e is l = absurd (let h = subst (λ (o : Option (ℕ × ℕ)). IsSome o) e is in absurd (cc))
    by (Some q) e is l =
        let link : link_of s (answer xs ys a) i ≡ Some (answer xs ys q.0, q.1) = l ∙ ap (option_map (moved (answer xs ys))) e in
        sym (like_some (answer xs ys) root s a i q.0 q.1 other e
        ∙ joined_again s (answer xs ys a) i (answer xs ys q.0) q.1 link (t.paired.back (answer xs ys a) i (answer xs ys q.0) q.1 link)
        (λ m. copies_differ s root xs ys t a i a_in q.0 q.1 other e (let p : ◌≡◌ {A = ℕ × ℕ} (answer xs ys a, i) (answer xs ys q.0, q.1) = λ k. (m.0 k, m.1 k) in p)))
