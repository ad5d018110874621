-- Copies of atoms that no link leaves are made, and joined as these.
use Rattle.std.proofs.Common.{◌≡◌, ◌⊎◌, ℕ, zero, suc, ◌+◌, ◌<◌, List, [], ◌∷◌, ◌++◌, length, Option, Some, None, IsSome, refl, sym, ap, subst, ◌∙◌, inl, inr, arith}
use Rattle.std.proofs.lemmas.List.{append_assoc}
use Rattle.std.specs.Option.{option_map}
use Rattle.std.specs.Prelude.{slice_index_or}
use Rattle.lmn_base.specs.declared.functor.Functor.{Functor}
use Rattle.lmn_store_heap.specs.Heap.{Heap, HeapAtom, Distinct, with_link, partners_of, functor_of, link_of, arity_of, joined}
use Rattle.lmn_store_heap.specs.Sound.{Paired}
use Rattle.lmn_store_heap.specs.Splice.{joined_to}
use Rattle.lmn_store_heap.proofs.Ports.{SamePort, same_port, joined_arity, joined_a, joined_b, joined_other, joined_paired}
use Rattle.lmn_store_heap.proofs.Replacing.{port_within}
use Rattle.lmn_store_heap.proofs.Common.{same_port as same_pair, has_functor}
use Rattle.lmn_ground_parts.specs.Walks.{port_range, HasPort}
use Rattle.lmn_ground_parts.specs.Copies.{AllAtoms, AreNew, made_as, made_like, moved, answer, ports_of}
use Rattle.lmn_ground_parts.specs.Rests.{joined_as, all_joined_as}
use Rattle.lmn_ground_parts.proofs.AnswerLaws.{answer_in, answer_one}
use Rattle.lmn_base.specs.Lists.{In}
use Rattle.lmn_ground_parts.proofs.Common.{either_port, ports_in as range_in, joined_away, one_new, one_there}
use Rattle.lmn_ground_parts.proofs.JoinViews.{joined_view}

-- ---- what joining leaves as it is

module _ {X : Type 0} (view : Option HeapAtom → X) (h : (i : ℕ) (p : Option (ℕ × ℕ)) (o : Option HeapAtom) → view (option_map (with_link i p) o) ≡ view o) where
  -- what partners don't change stays when ports are joined
  pub all_view : (f : ℕ → ℕ) (s : Heap) (ps : List (ℕ × ℕ)) (c : ℕ) → view ((all_joined_as f s ps).atoms c) ≡ view (s.atoms c)
  all_view f s [] c = refl
  all_view f s (p ∷ ps) c = all_view f (joined_as f s p) ps c ∙ one (option_map (moved f) (link_of s p.0 p.1))
    where
      one : (o : Option (ℕ × ℕ)) → view ((joined_to s (f p.0) p.1 o).atoms c) ≡ view (s.atoms c)
      one None = refl
      one (Some q) = joined_view view h s (f p.0) p.1 q.0 q.1 c

-- Nothing is done, or two copies are joined.
as_by : (f : ℕ → ℕ) (s : Heap) (p : ℕ × ℕ) (P : Heap → Type 0) → (link_of s p.0 p.1 ≡ None → P s) → ((b j : ℕ) → link_of s p.0 p.1 ≡ Some (b, j) → P (joined s (f p.0) p.1 (f b) j)) → P (joined_as f s p)
as_by f s p P same step = by (link_of s p.0 p.1) refl
  where
    by : (o : Option (ℕ × ℕ)) → link_of s p.0 p.1 ≡ o → P (joined_to s (f p.0) p.1 (option_map (moved f) o))
    by None g = same g
    by (Some q) g = step q.0 q.1 g

-- ---- ports of copies

-- A port has a partner, and the copy of the port the copy of this partner.
abbrev pub CopyIsJoined : Heap → (ℕ → ℕ) → ℕ → ℕ → Type 0
CopyIsJoined s f a i = IsSome (link_of s a i) × (link_of s (f a) i ≡ option_map (moved f) (link_of s a i))

-- The atoms ys are copies of the atoms xs, of which some ports are joined as these.
pub record Copying (s : Heap) (xs ys : List ℕ) : Type 0 where
  pub paired : Paired s
  pub once : Distinct xs
  pub copies_once : Distinct ys
  pub long : length ys ≡ length xs
  pub apart : (x : ℕ) → In x xs → In x ys → ⊥
  pub arities : (a : ℕ) → In a xs → arity_of s (answer xs ys a) ≡ arity_of s a
  pub closed : (a i b j : ℕ) → In a xs → link_of s a i ≡ Some (b, j) → In b xs
  pub joined : (a i : ℕ) → In a xs → (link_of s (answer xs ys a) i ≡ None) ⊎ CopyIsJoined s (answer xs ys) a i
  pub alone : (y i b j : ℕ) → In y ys → link_of s y i ≡ Some (b, j) → In b ys

module _ (s : Heap) (xs ys : List ℕ) (t : Copying s xs ys) where
  copy_in : (x : ℕ) → In x xs → In (answer xs ys x) ys
  copy_in x i = answer_in xs ys x (let l = t.long in omega (arith, l)) i

  copy_one : (x y : ℕ) → In x xs → In y xs → answer xs ys x ≡ answer xs ys y → x ≡ y
  copy_one x y i j e = answer_one xs ys x y (let l = t.long in omega (arith, l)) t.copies_once i j e

  -- where a port of a copy leads
  points : (x k y l : ℕ) → In x xs → link_of s x k ≡ Some (y, l) → (c m : ℕ) → link_of s (answer xs ys x) k ≡ Some (c, m) → SamePort c m (answer xs ys y) l
  points x k y l i e c m g = elim (t.joined x k i) [
    | inl n ↦ (let h : ◌≡◌ {A = Option (ℕ × ℕ)} None (Some (c, m)) = sym n ∙ g in absurd (cc))
    | inr r ↦ same_pair (sym g ∙ r.1 ∙ ap (option_map (moved (answer xs ys))) e)
  ]

  -- two copies are joined
  module _ (a i : ℕ) (a_in : In a xs) (b j : ℕ) (link : link_of s a i ≡ Some (b, j)) where
    b_in : In b xs
    b_in = t.closed a i b j a_in link

    -- both copies have the port
    ports_there : (i < arity_of s (answer xs ys a)) × (j < arity_of s (answer xs ys b))
    ports_there = (
      subst (λ (n : ℕ). i < n) (sym (t.arities a a_in)) (port_within s a i (b, j) link),
      subst (λ (n : ℕ). j < n) (sym (t.arities b b_in)) (port_within s b j (a, i) (t.paired.back a i b j link)),
    )

    differ : SamePort (answer xs ys a) i (answer xs ys b) j → ⊥
    differ e =
        let g : b ≡ a = copy_one b a b_in a_in (sym e.0) in
        let h : j ≡ i = sym e.1 in
        t.paired.apart a i (link ∙ (λ k. Some (g k, h k)))

    abbrev next : Heap
    next = joined s (answer xs ys a) i (answer xs ys b) j

    as_was : (c k : ℕ) → (SamePort c k (answer xs ys a) i → ⊥) → (SamePort c k (answer xs ys b) j → ⊥) → link_of next c k ≡ link_of s c k
    as_was c k na nb = elim (joined_other s (answer xs ys a) i (answer xs ys b) j ports_there.0 ports_there.1 differ c k na nb) [
      | inl w ↦ absurd (elim w.0 [
        | inl e ↦ nb (points a i b j a_in link c k e)
        | inr e ↦ na (points b j a i b_in (t.paired.back a i b j link) c k e)
      ])
      | inr w ↦ w.2
    ]

    away : (c : ℕ) → (In c ys → ⊥) → next.atoms c ≡ s.atoms c
    away c n = joined_away s (answer xs ys a) i (answer xs ys b) j c
        (λ e. n (subst (λ (z : ℕ). In z ys) (sym e) (copy_in a a_in)))
        (λ e. n (subst (λ (z : ℕ). In z ys) (sym e) (copy_in b b_in)))
        (λ p g e. n (subst (λ (z : ℕ). In z ys) (sym (e ∙ (points a i b j a_in link p.0 p.1 g).0)) (copy_in b b_in)))
        (λ p g e. n (subst (λ (z : ℕ). In z ys) (sym (e ∙ (points b j a i b_in (t.paired.back a i b j link) p.0 p.1 g).0)) (copy_in a a_in)))

    link_kept : (x k : ℕ) → In x xs → link_of next x k ≡ link_of s x k
    link_kept x k x_in = ap (λ (o : Option HeapAtom). slice_index_or (partners_of o) k None) (away x (t.apart x x_in))

    -- the two ports are joined as those that they are copied from
    both_joined : CopyIsJoined next (answer xs ys) a i × CopyIsJoined next (answer xs ys) b j
    both_joined =
        let back_link = t.paired.back a i b j link in (
          (
            subst (λ (o : Option (ℕ × ℕ)). IsSome o) (sym (link_kept a i a_in ∙ link)) refl,
            joined_a s (answer xs ys a) i (answer xs ys b) j ports_there.0 ports_there.1 differ ∙ sym (ap (option_map (moved (answer xs ys))) (link_kept a i a_in ∙ link)),
          ),
          (
            subst (λ (o : Option (ℕ × ℕ)). IsSome o) (sym (link_kept b j b_in ∙ back_link)) refl,
            joined_b s (answer xs ys a) i (answer xs ys b) j ports_there.0 ports_there.1 differ ∙ sym (ap (option_map (moved (answer xs ys))) (link_kept b j b_in ∙ back_link)),
          ),
        )

    joined_here : (x k c l : ℕ) → In x xs → In c xs → SamePort (answer xs ys x) k (answer xs ys c) l → CopyIsJoined next (answer xs ys) c l → CopyIsJoined next (answer xs ys) x k
    joined_here x k c l x_in c_in e =
        let g : x ≡ c = copy_one x c x_in c_in e.0 in
        let h : k ≡ l = e.1 in
        subst (λ (p : ℕ × ℕ). CopyIsJoined next (answer xs ys) p.0 p.1) (λ m. let r : ℕ × ℕ = ((sym g) m, (sym h) m) in r)

    -- a port of a copy is one of the two, or neither
    joined_or_other : (x k : ℕ) → In x xs → CopyIsJoined next (answer xs ys) x k ⊎ ((SamePort (answer xs ys x) k (answer xs ys a) i → ⊥) × (SamePort (answer xs ys x) k (answer xs ys b) j → ⊥))
    joined_or_other x k x_in = elim (same_port (answer xs ys x) k (answer xs ys a) i) [
      | inl e ↦ inl (joined_here x k a i x_in a_in e both_joined.0)
      | inr na ↦ elim (same_port (answer xs ys x) k (answer xs ys b) j) [ inl e ↦ inl (joined_here x k b j x_in b_in e both_joined.1) | inr nb ↦ inr (na, nb) ]
    ]

    -- a joined port stays joined
    stays : (x k : ℕ) → In x xs → CopyIsJoined s (answer xs ys) x k → CopyIsJoined next (answer xs ys) x k
    stays x k x_in r = elim (joined_or_other x k x_in) [
      | inl e ↦ e
      | inr n ↦ (
        subst (λ (o : Option (ℕ × ℕ)). IsSome o) (sym (link_kept x k x_in)) r.0,
        as_was (answer xs ys x) k n.0 n.1 ∙ r.1 ∙ ap (option_map (moved (answer xs ys))) (sym (link_kept x k x_in)),
      )
    ]

    port_joined : (x k : ℕ) → In x xs → (link_of next (answer xs ys x) k ≡ None) ⊎ CopyIsJoined next (answer xs ys) x k
    port_joined x k x_in = elim (joined_or_other x k x_in) [
      | inl e ↦ inr e
      | inr n ↦ elim (t.joined x k x_in) [ inl e ↦ inl (as_was (answer xs ys x) k n.0 n.1 ∙ e) | inr r ↦ inr (stays x k x_in r) ]
    ]

    -- copies are joined to copies alone
    still_alone : (y k c l : ℕ) → In y ys → link_of next y k ≡ Some (c, l) → In c ys
    still_alone y k c l y_in e = elim (same_port y k (answer xs ys a) i) [
      | inl p ↦ subst (λ (z : ℕ). In z ys) (same_pair (sym (joined_a s (answer xs ys a) i (answer xs ys b) j ports_there.0 ports_there.1 differ) ∙ (λ m. link_of next (sym p.0 m) (sym p.1 m)) ∙ e)).0 (copy_in b b_in)
      | inr na ↦ elim (same_port y k (answer xs ys b) j) [
        | inl p ↦ subst (λ (z : ℕ). In z ys) (same_pair (sym (joined_b s (answer xs ys a) i (answer xs ys b) j ports_there.0 ports_there.1 differ) ∙ (λ m. link_of next (sym p.0 m) (sym p.1 m)) ∙ e)).0 (copy_in a a_in)
        | inr nb ↦ t.alone y k c l y_in (sym (as_was y k na nb) ∙ e)
      ]
    ]

    still : Copying next xs ys
    still = record {
      paired = joined_paired s (answer xs ys a) i (answer xs ys b) j ports_there.0 ports_there.1 differ t.paired;
      once = t.once;
      copies_once = t.copies_once;
      long = t.long;
      apart = t.apart;
      arities = λ x k. joined_arity s (answer xs ys a) i (answer xs ys b) j ports_there.0 ports_there.1 differ (answer xs ys x) ∙ t.arities x k ∙ sym (joined_arity s (answer xs ys a) i (answer xs ys b) j ports_there.0 ports_there.1 differ x);
      closed = λ x k y l x_in e. t.closed x k y l x_in (sym (link_kept x k x_in) ∙ e);
      joined = port_joined;
      alone = still_alone;
    }

  -- one port
  module _ (a i : ℕ) (a_in : In a xs) where
    as_copying : Copying (joined_as (answer xs ys) s (a, i)) xs ys
    as_copying = as_by (answer xs ys) s (a, i) (λ h. Copying h xs ys) (λ _. t) (λ b j g. still a i a_in b j g)

    as_away : (c : ℕ) → (In c ys → ⊥) → (joined_as (answer xs ys) s (a, i)).atoms c ≡ s.atoms c
    as_away c n = as_by (answer xs ys) s (a, i) (λ h. h.atoms c ≡ s.atoms c) (λ _. refl) (λ b j g. away a i a_in b j g c n)

    as_stays : (x k : ℕ) → In x xs → CopyIsJoined s (answer xs ys) x k → CopyIsJoined (joined_as (answer xs ys) s (a, i)) (answer xs ys) x k
    as_stays x k x_in r = as_by (answer xs ys) s (a, i) (λ h. CopyIsJoined h (answer xs ys) x k) (λ _. r) (λ b j g. stays a i a_in b j g x k x_in r)

    as_joins : IsSome (link_of s a i) → CopyIsJoined (joined_as (answer xs ys) s (a, i)) (answer xs ys) a i
    as_joins is = as_by (answer xs ys) s (a, i) (λ h. CopyIsJoined h (answer xs ys) a i) (λ e. absurd (none e)) (λ b j g. (both_joined a i a_in b j g).0)
      where
        none : link_of s a i ≡ None → ⊥
        none e = let is' = subst (λ (o : Option (ℕ × ℕ)). IsSome o) e is in absurd (cc)

-- many ports
module _ (xs ys : List ℕ) where
  pub all_copying : (s : Heap) (ps : List (ℕ × ℕ)) → Copying s xs ys → ((p : ℕ × ℕ) → HasPort p ps → In p.0 xs) → Copying (all_joined_as (answer xs ys) s ps) xs ys
  all_copying s [] t h = t
  all_copying s (p ∷ ps) t h = all_copying (joined_as (answer xs ys) s p) ps (as_copying s xs ys t p.0 p.1 (h p (inl refl))) (λ q k. h q (inr k))

  pub all_away : (s : Heap) (ps : List (ℕ × ℕ)) → Copying s xs ys → ((p : ℕ × ℕ) → HasPort p ps → In p.0 xs) → (c : ℕ) → (In c ys → ⊥) → (all_joined_as (answer xs ys) s ps).atoms c ≡ s.atoms c
  all_away s [] t h c n = refl
  all_away s (p ∷ ps) t h c n =
      all_away (joined_as (answer xs ys) s p) ps (as_copying s xs ys t p.0 p.1 (h p (inl refl))) (λ q k. h q (inr k)) c n ∙ as_away s xs ys t p.0 p.1 (h p (inl refl)) c n

  all_stays : (s : Heap) (ps : List (ℕ × ℕ)) → Copying s xs ys → ((p : ℕ × ℕ) → HasPort p ps → In p.0 xs) → (x k : ℕ) → In x xs → CopyIsJoined s (answer xs ys) x k
      → CopyIsJoined (all_joined_as (answer xs ys) s ps) (answer xs ys) x k
  all_stays s [] t h x k i r = r
  all_stays s (p ∷ ps) t h x k i r =
      all_stays (joined_as (answer xs ys) s p) ps (as_copying s xs ys t p.0 p.1 (h p (inl refl))) (λ q m. h q (inr m)) x k i (as_stays s xs ys t p.0 p.1 (h p (inl refl)) x k i r)

  -- each of these ports has its copy joined
  pub all_joins : (s : Heap) (ps : List (ℕ × ℕ)) → Copying s xs ys → ((p : ℕ × ℕ) → HasPort p ps → In p.0 xs) → (a i : ℕ) → HasPort (a, i) ps → IsSome (link_of s a i)
      → CopyIsJoined (all_joined_as (answer xs ys) s ps) (answer xs ys) a i
  all_joins s [] t h a i k is = absurd k
  all_joins s (p ∷ ps) t h a i (inl e) is =
      let a_in : In a xs = h (a, i) (inl e) in
      all_stays (joined_as (answer xs ys) s p) ps (as_copying s xs ys t p.0 p.1 (h p (inl refl))) (λ q m. h q (inr m)) a i a_in
      (subst (λ (q : ℕ × ℕ). CopyIsJoined (joined_as (answer xs ys) s q) (answer xs ys) a i) (sym e) (as_joins s xs ys t a i a_in is))
  all_joins s (p ∷ ps) t h a i (inr k) is =
      all_joins (joined_as (answer xs ys) s p) ps (as_copying s xs ys t p.0 p.1 (h p (inl refl))) (λ q m. h q (inr m)) a i k
      (subst (λ (o : Option (ℕ × ℕ)). IsSome o) (sym (ap (λ (o : Option HeapAtom). slice_index_or (partners_of o) i None) (as_away s xs ys t p.0 p.1 (h p (inl refl)) a (t.apart a (h (a, i) (inr k)))))) is)

-- ---- the ports of atoms

pub ports_in : (s : Heap) (xs zs : List ℕ) → ((a : ℕ) → In a zs → In a xs) → (p : ℕ × ℕ) → HasPort p (ports_of s zs) → In p.0 xs
ports_in s xs [] sub p k = absurd k
ports_in s xs (z ∷ zs) sub p k = elim (either_port z 0 (arity_of s z) (ports_of s zs) p k) [
  | inl j ↦ range_in xs z 0 (arity_of s z) (sub z (inl refl)) p j
  | inr j ↦ ports_in s xs zs (λ a i. sub a (inr i)) p j
]

-- ---- copies are made

-- the line gets them, and membranes stay
pub made_line : (s : Heap) (xs ys : List ℕ) → AllAtoms s xs → AreNew s ys → length ys ≡ length xs → (made_like s xs ys).new_atoms ≡ s.new_atoms ++ ys
made_line s [] [] h n l = nothing s.new_atoms
  where
    nothing : (zs : List ℕ) → zs ≡ zs ++ []
    nothing [] = refl
    nothing (z ∷ zs) = ap (λ ws. z ∷ ws) (nothing zs)
made_line s [] (y ∷ ys) h n l = absurd (omega arith)
made_line s (x ∷ xs) [] h n l = absurd (omega arith)
made_line s (x ∷ xs) (y ∷ ys) h n l =
    let f = has_functor s x (h x (inl refl)) in
    made_line (made_as s y (functor_of s x)) xs ys (one_there s y (functor_of s x) xs (λ w k. h w (inr k)) (n.1 y (inl refl))) (one_new s y (functor_of s x) ys n) (omega (arith, l))
    ∙ ap (λ zs. zs ++ ys) (one_line f.0 (functor_of s x) f.1) ∙ append_assoc s.new_atoms (y ∷ []) ys
  where
    one_line : (f : Functor) (o : Option Functor) → o ≡ Some f → (made_as s y o).new_atoms ≡ s.new_atoms ++ y ∷ []
    one_line f None e = absurd (cc)
    one_line f (Some g) e = refl

pub functor_linked : (i : ℕ) (p : Option (ℕ × ℕ)) (o : Option HeapAtom) → option_map (λ (x : HeapAtom). x.functor) (option_map (with_link i p) o) ≡ option_map (λ (x : HeapAtom). x.functor) o
functor_linked i p None = refl
functor_linked i p (Some x) = refl

pub place_linked : (i : ℕ) (p : Option (ℕ × ℕ)) (o : Option HeapAtom) → option_map (λ (x : HeapAtom). x.place) (option_map (with_link i p) o) ≡ option_map (λ (x : HeapAtom). x.place) o
place_linked i p None = refl
place_linked i p (Some x) = refl
