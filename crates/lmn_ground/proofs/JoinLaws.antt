-- The copies of ports are joined, one after the other.
use Rattle.std.proofs.Common.{◌≡◌, ◌≢◌, ◌⊎◌, ℕ, ◌<◌, Bool, true, false, cond, List, [], ◌∷◌, ◌++◌, length, Option, Some, None, IsSome, refl, sym, ap, subst, ◌∙◌, inl, inr, arith}
use Rattle.std.specs.Option.{option_map}
use Rattle.std.specs.Prelude.{slice_index_or}
use Rattle.lmn_store_heap.specs.Heap.{Heap, HeapAtom, with_link, partners_of, marks_of, mark_of, link_of, arity_of, joined}
use Rattle.lmn_store_heap.specs.Splice.{joined_to}
use Rattle.lmn_store_heap.proofs.Ports.{SamePort, same_port, joined_arity, joined_a, joined_b, joined_other, joined_paired}
use Rattle.lmn_ground.specs.Marks.{first_marks}
use Rattle.lmn_ground.specs.Spread.{Numbered}
use Rattle.lmn_ground.specs.Copies.{CopyIsJoined, Copying}
use Rattle.lmn_ground_parts.specs.Copies.{moved, joined_like, all_joined, answer}
use Rattle.lmn_ground_parts.proofs.AnswerLaws.{answer_in, answer_one}
use Rattle.lmn_ground.proofs.SoughtLaws.{same_port as is_root_port}
use Rattle.lmn_ground.proofs.SpreadLaws.{not_root}
use Rattle.lmn_ground.proofs.NumberLaws.{numbered_same}
use Rattle.lmn_ground_parts.specs.Walks.{HasPort, is_port}
use Rattle.lmn_store_heap.proofs.Replacing.{port_within as link_inside}
use Rattle.lmn_base.specs.Lists.{In}
use Rattle.lmn_store_heap.proofs.Common.{same_port as same_pair, arity_linked}
use Rattle.lmn_ground_parts.proofs.Common.{joined_away}
use Rattle.lmn_ground_parts.proofs.JoinViews.{joined_view}

-- Nothing is done, or two copies are joined.
pub like_by : (f : ℕ → ℕ) (root : ℕ × ℕ) (s : Heap) (p : ℕ × ℕ) (P : Heap → Type 0)
    → ((is_port p root ≡ true) ⊎ (link_of s p.0 p.1 ≡ None) → P s)
    → ((b j : ℕ) → is_port p root ≡ false → link_of s p.0 p.1 ≡ Some (b, j) → P (joined s (f p.0) p.1 (f b) j))
    → P (joined_like f root s p)
like_by f root s p P same step = by (is_port p root) refl (link_of s p.0 p.1) refl
  where
    by : (t : Bool) → is_port p root ≡ t → (o : Option (ℕ × ℕ)) → link_of s p.0 p.1 ≡ o → P (cond t s (joined_to s (f p.0) p.1 (option_map (moved f) o)))
    by true e o g = same (inl e)
    by false e None g = same (inr g)
    by false e (Some q) g = step q.0 q.1 e g

-- what partners don't change stays when ports are joined
pub all_view : {X : Type 0} (view : Option HeapAtom → X) → ((i : ℕ) (p : Option (ℕ × ℕ)) (o : Option HeapAtom) → view (option_map (with_link i p) o) ≡ view o)
    → (f : ℕ → ℕ) (root : ℕ × ℕ) (s : Heap) (ps : List (ℕ × ℕ)) (c : ℕ) → view ((all_joined f root s ps).atoms c) ≡ view (s.atoms c)
all_view view h f root s [] c = refl
all_view view h f root s (p ∷ ps) c = all_view view h f root (joined_like f root s p) ps c
    ∙ like_by f root s p (λ t. view (t.atoms c) ≡ view (s.atoms c)) (λ _. refl) (λ b j e g. joined_view view h s (f p.0) p.1 (f b) j c)

module _ (s : Heap) (root : ℕ × ℕ) (xs ys : List ℕ) (t : Copying s root xs ys) where
  pub copy_in : (x : ℕ) → In x xs → In (answer xs ys x) ys
  copy_in x i = answer_in xs ys x (let l = t.long in omega (arith, l)) i

  copy_one : (x y : ℕ) → In x xs → In y xs → answer xs ys x ≡ answer xs ys y → x ≡ y
  copy_one x y i j e = answer_one xs ys x y (let l = t.long in omega (arith, l)) t.copies_once i j e

  -- where a port of a copy leads
  points : (x k y l : ℕ) → In x xs → link_of s x k ≡ Some (y, l) → (c m : ℕ) → link_of s (answer xs ys x) k ≡ Some (c, m) → SamePort c m (answer xs ys y) l
  points x k y l i e c m g = elim (t.joined x k i) [
    | inl n ↦ (let h : ◌≡◌ {A = Option (ℕ × ℕ)} None (Some (c, m)) = sym n ∙ g in absurd (cc))
    | inr r ↦ same_pair (sym g ∙ r.2 ∙ ap (option_map (moved (answer xs ys))) e)
  ]

  -- two copies are joined
  module _ (a i : ℕ) (a_in : In a xs) (b j : ℕ) (other : is_port (a, i) root ≡ false) (link : link_of s a i ≡ Some (b, j)) where
    -- the atom behind a port is one of the part
    pub b_in : In b xs
    b_in = (t.closed a i b j a_in (not_root a i root other) link).0

    -- both copies have the port
    pub ports_there : (i < arity_of s (answer xs ys a)) × (j < arity_of s (answer xs ys b))
    ports_there = (
      subst (λ (n : ℕ). i < n) (sym (t.arities a a_in)) (link_inside s a i (b, j) link),
      subst (λ (n : ℕ). j < n) (sym (t.arities b b_in)) (link_inside s b j (a, i) (t.paired.back a i b j link)),
    )

    differ : SamePort (answer xs ys a) i (answer xs ys b) j → ⊥
    differ e =
        let g : b ≡ a = copy_one b a b_in a_in (sym e.0) in
        let h : j ≡ i = sym e.1 in
        t.paired.apart a i (link ∙ (λ k. Some (g k, h k)))

    pub copies_differ : ◌≢◌ {A = ℕ × ℕ} (answer xs ys a, i) (answer xs ys b, j)
    copies_differ e = differ (ap (λ (p : ℕ × ℕ). p.0) e, ap (λ (p : ℕ × ℕ). p.1) e)

    abbrev next : Heap
    next = joined s (answer xs ys a) i (answer xs ys b) j

    as_was : (c k : ℕ) → (SamePort c k (answer xs ys a) i → ⊥) → (SamePort c k (answer xs ys b) j → ⊥) → link_of next c k ≡ link_of s c k
    as_was c k na nb = elim (joined_other s (answer xs ys a) i (answer xs ys b) j ports_there.0 ports_there.1 differ c k na nb) [
      | inl w ↦ absurd (elim w.0 [
        | inl e ↦ nb (points a i b j a_in link c k e)
        | inr e ↦ na (points b j a i b_in (t.paired.back a i b j link) c k e)
      ])
      | inr w ↦ w.2
    ]

    away : (c : ℕ) → (In c ys → ⊥) → next.atoms c ≡ s.atoms c
    away c n = joined_away s (answer xs ys a) i (answer xs ys b) j c
        (λ e. n (subst (λ (z : ℕ). In z ys) (sym e) (copy_in a a_in)))
        (λ e. n (subst (λ (z : ℕ). In z ys) (sym e) (copy_in b b_in)))
        (λ p g e. n (subst (λ (z : ℕ). In z ys) (sym (e ∙ (points a i b j a_in link p.0 p.1 g).0)) (copy_in b b_in)))
        (λ p g e. n (subst (λ (z : ℕ). In z ys) (sym (e ∙ (points b j a i b_in (t.paired.back a i b j link) p.0 p.1 g).0)) (copy_in a a_in)))

    link_kept : (x k : ℕ) → In x xs → link_of next x k ≡ link_of s x k
    link_kept x k x_in = ap (λ (o : Option HeapAtom). slice_index_or (partners_of o) k None) (away x (t.apart x x_in))

    -- the two ports are joined as those that they are copied from
    both_joined : CopyIsJoined next root (answer xs ys) a i × CopyIsJoined next root (answer xs ys) b j
    both_joined =
        let back_link = t.paired.back a i b j link in (
          (
            not_root a i root other,
            subst (λ (o : Option (ℕ × ℕ)). IsSome o) (sym (link_kept a i a_in ∙ link)) refl,
            joined_a s (answer xs ys a) i (answer xs ys b) j ports_there.0 ports_there.1 differ ∙ sym (ap (option_map (moved (answer xs ys))) (link_kept a i a_in ∙ link)),
          ),
          (
            (t.closed a i b j a_in (not_root a i root other) link).1,
            subst (λ (o : Option (ℕ × ℕ)). IsSome o) (sym (link_kept b j b_in ∙ back_link)) refl,
            joined_b s (answer xs ys a) i (answer xs ys b) j ports_there.0 ports_there.1 differ ∙ sym (ap (option_map (moved (answer xs ys))) (link_kept b j b_in ∙ back_link)),
          ),
        )

    joined_as : (x k c l : ℕ) → In x xs → In c xs → SamePort (answer xs ys x) k (answer xs ys c) l → CopyIsJoined next root (answer xs ys) c l → CopyIsJoined next root (answer xs ys) x k
    joined_as x k c l x_in c_in e =
        let g : x ≡ c = copy_one x c x_in c_in e.0 in
        let h : k ≡ l = e.1 in
        subst (λ (p : ℕ × ℕ). CopyIsJoined next root (answer xs ys) p.0 p.1) (λ m. let r : ℕ × ℕ = ((sym g) m, (sym h) m) in r)

    -- a port of a copy is one of the two, or neither
    joined_or_other : (x k : ℕ) → In x xs → CopyIsJoined next root (answer xs ys) x k ⊎ ((SamePort (answer xs ys x) k (answer xs ys a) i → ⊥) × (SamePort (answer xs ys x) k (answer xs ys b) j → ⊥))
    joined_or_other x k x_in = elim (same_port (answer xs ys x) k (answer xs ys a) i) [
      | inl e ↦ inl (joined_as x k a i x_in a_in e both_joined.0)
      | inr na ↦ elim (same_port (answer xs ys x) k (answer xs ys b) j) [ inl e ↦ inl (joined_as x k b j x_in b_in e both_joined.1) | inr nb ↦ inr (na, nb) ]
    ]

    -- a joined port stays joined
    stays : (x k : ℕ) → In x xs → CopyIsJoined s root (answer xs ys) x k → CopyIsJoined next root (answer xs ys) x k
    stays x k x_in r = elim (joined_or_other x k x_in) [
      | inl e ↦ e
      | inr n ↦ (
        r.0,
        subst (λ (o : Option (ℕ × ℕ)). IsSome o) (sym (link_kept x k x_in)) r.1,
        as_was (answer xs ys x) k n.0 n.1 ∙ r.2 ∙ ap (option_map (moved (answer xs ys))) (sym (link_kept x k x_in)),
      )
    ]

    port_joined : (x k : ℕ) → In x xs → (link_of next (answer xs ys x) k ≡ None) ⊎ CopyIsJoined next root (answer xs ys) x k
    port_joined x k x_in = elim (joined_or_other x k x_in) [
      | inl e ↦ inr e
      | inr n ↦ elim (t.joined x k x_in) [ inl e ↦ inl (as_was (answer xs ys x) k n.0 n.1 ∙ e) | inr r ↦ inr (stays x k x_in r) ]
    ]

    still : Copying next root xs ys
    still = record {
      there = λ x k. subst (λ (o : Option HeapAtom). IsSome o) (sym (away x (t.apart x k))) (t.there x k);
      first = t.first;
      paired = joined_paired s (answer xs ys a) i (answer xs ys b) j ports_there.0 ports_there.1 differ t.paired;
      once = t.once;
      copies_once = t.copies_once;
      long = t.long;
      apart = t.apart;
      arities = λ x k. joined_arity s (answer xs ys a) i (answer xs ys b) j ports_there.0 ports_there.1 differ (answer xs ys x) ∙ t.arities x k ∙ sym (joined_arity s (answer xs ys a) i (answer xs ys b) j ports_there.0 ports_there.1 differ x);
      closed = λ x k y l x_in d e. t.closed x k y l x_in d (sym (link_kept x k x_in) ∙ e);
      joined = port_joined;
    }

  -- one port
  module _ (a i : ℕ) (a_in : In a xs) where
    pub like_copying : Copying (joined_like (answer xs ys) root s (a, i)) root xs ys
    like_copying = like_by (answer xs ys) root s (a, i) (λ h. Copying h root xs ys) (λ _. t) (λ b j e g. still a i a_in b j e g)

    pub like_away : (c : ℕ) → (In c ys → ⊥) → (joined_like (answer xs ys) root s (a, i)).atoms c ≡ s.atoms c
    like_away c n = like_by (answer xs ys) root s (a, i) (λ h. h.atoms c ≡ s.atoms c) (λ _. refl) (λ b j e g. away a i a_in b j e g c n)

    like_stays : (x k : ℕ) → In x xs → CopyIsJoined s root (answer xs ys) x k → CopyIsJoined (joined_like (answer xs ys) root s (a, i)) root (answer xs ys) x k
    like_stays x k x_in r = like_by (answer xs ys) root s (a, i) (λ h. CopyIsJoined h root (answer xs ys) x k) (λ _. r) (λ b j e g. stays a i a_in b j e g x k x_in r)

    like_joins : ◌≢◌ {A = ℕ × ℕ} (a, i) root → IsSome (link_of s a i) → CopyIsJoined (joined_like (answer xs ys) root s (a, i)) root (answer xs ys) a i
    like_joins d is = like_by (answer xs ys) root s (a, i) (λ h. CopyIsJoined h root (answer xs ys) a i) (λ w. absurd (none w)) (λ b j e g. (both_joined a i a_in b j e g).0)
      where
        none : (is_port (a, i) root ≡ true) ⊎ (link_of s a i ≡ None) → ⊥
        none (inl e) = d (is_root_port a i root e)
        none (inr e) = let is' = subst (λ (o : Option (ℕ × ℕ)). IsSome o) e is in absurd (cc)

-- a port is joined as its original is
pub like_some : (f : ℕ → ℕ) (root : ℕ × ℕ) (s : Heap) (a i b j : ℕ) → is_port (a, i) root ≡ false → link_of s a i ≡ Some (b, j) → joined_like f root s (a, i) ≡ joined s (f a) i (f b) j
like_some f root s a i b j e g = rw (e, g) refl

-- ports of two lists are joined one list after the other
pub all_append : (f : ℕ → ℕ) (root : ℕ × ℕ) (s : Heap) (ps qs : List (ℕ × ℕ)) → all_joined f root s (ps ++ qs) ≡ all_joined f root (all_joined f root s ps) qs
all_append f root s [] qs = refl
all_append f root s (p ∷ ps) qs = all_append f root (joined_like f root s p) ps qs

-- an atom keeps its marks with another partner
pub marks_linked : (i : ℕ) (p : Option (ℕ × ℕ)) (o : Option HeapAtom) → marks_of (option_map (with_link i p) o) ≡ marks_of o
marks_linked i p None = refl
marks_linked i p (Some x) = refl

-- and so do all when ports are joined
pub all_marks : (f : ℕ → ℕ) (root : ℕ × ℕ) (s : Heap) (ps : List (ℕ × ℕ)) (c k : ℕ) → mark_of (all_joined f root s ps) c k ≡ mark_of s c k
all_marks f root s ps c k = ap (λ (xs : List ℕ). slice_index_or xs k 0) (all_view marks_of marks_linked f root s ps c)

-- and so do all
pub all_arity : (f : ℕ → ℕ) (root : ℕ × ℕ) (s : Heap) (ps : List (ℕ × ℕ)) (c : ℕ) → arity_of (all_joined f root s ps) c ≡ arity_of s c
all_arity f root s ps c = all_view (λ (o : Option HeapAtom). length (partners_of o)) arity_linked f root s ps c

-- also when one port is joined
pub like_arity : (f : ℕ → ℕ) (root : ℕ × ℕ) (s : Heap) (p : ℕ × ℕ) (c : ℕ) → arity_of (joined_like f root s p) c ≡ arity_of s c
like_arity f root s p c = all_arity f root s (p ∷ []) c

-- marks tell the same numbers then
pub like_numbers : (f : ℕ → ℕ) (root : ℕ × ℕ) (s : Heap) (p : ℕ × ℕ) (k : ℕ) (xs : List ℕ) → Numbered (first_marks s) k xs → Numbered (first_marks (joined_like f root s p)) k xs
like_numbers f root s p k xs n = numbered_same (first_marks s) (first_marks (joined_like f root s p)) k xs n (λ z i. all_marks f root s (p ∷ []) z 0)

-- and when all are joined
pub all_numbers : (f : ℕ → ℕ) (root : ℕ × ℕ) (s : Heap) (ps : List (ℕ × ℕ)) (k : ℕ) (xs : List ℕ) → Numbered (first_marks s) k xs → Numbered (first_marks (all_joined f root s ps)) k xs
all_numbers f root s ps k xs n = numbered_same (first_marks s) (first_marks (all_joined f root s ps)) k xs n (λ z i. all_marks f root s ps z 0)

-- many ports
module _ (root : ℕ × ℕ) (xs ys : List ℕ) where
  pub all_copying : (s : Heap) (ps : List (ℕ × ℕ)) → Copying s root xs ys → ((p : ℕ × ℕ) → HasPort p ps → In p.0 xs) → Copying (all_joined (answer xs ys) root s ps) root xs ys
  all_copying s [] t h = t
  all_copying s (p ∷ ps) t h = all_copying (joined_like (answer xs ys) root s p) ps (like_copying s root xs ys t p.0 p.1 (h p (inl refl))) (λ q k. h q (inr k))

  pub all_away : (s : Heap) (ps : List (ℕ × ℕ)) → Copying s root xs ys → ((p : ℕ × ℕ) → HasPort p ps → In p.0 xs) → (c : ℕ) → (In c ys → ⊥)
      → (all_joined (answer xs ys) root s ps).atoms c ≡ s.atoms c
  all_away s [] t h c n = refl
  all_away s (p ∷ ps) t h c n =
      all_away (joined_like (answer xs ys) root s p) ps (like_copying s root xs ys t p.0 p.1 (h p (inl refl))) (λ q k. h q (inr k)) c n
      ∙ like_away s root xs ys t p.0 p.1 (h p (inl refl)) c n

  all_stays : (s : Heap) (ps : List (ℕ × ℕ)) → Copying s root xs ys → ((p : ℕ × ℕ) → HasPort p ps → In p.0 xs) → (x k : ℕ) → In x xs → CopyIsJoined s root (answer xs ys) x k
      → CopyIsJoined (all_joined (answer xs ys) root s ps) root (answer xs ys) x k
  all_stays s [] t h x k i r = r
  all_stays s (p ∷ ps) t h x k i r =
      all_stays (joined_like (answer xs ys) root s p) ps (like_copying s root xs ys t p.0 p.1 (h p (inl refl))) (λ q m. h q (inr m)) x k i
      (like_stays s root xs ys t p.0 p.1 (h p (inl refl)) x k i r)

  -- each of these ports but the root has its copy joined
  pub all_joins : (s : Heap) (ps : List (ℕ × ℕ)) → Copying s root xs ys → ((p : ℕ × ℕ) → HasPort p ps → In p.0 xs) → (a i : ℕ) → HasPort (a, i) ps
      → ◌≢◌ {A = ℕ × ℕ} (a, i) root → IsSome (link_of s a i) → CopyIsJoined (all_joined (answer xs ys) root s ps) root (answer xs ys) a i
  all_joins s [] t h a i k d is = absurd k
  all_joins s (p ∷ ps) t h a i (inl e) d is =
      let a_in : In a xs = h (a, i) (inl e) in
      all_stays (joined_like (answer xs ys) root s p) ps (like_copying s root xs ys t p.0 p.1 (h p (inl refl))) (λ q m. h q (inr m)) a i a_in
      (subst (λ (q : ℕ × ℕ). CopyIsJoined (joined_like (answer xs ys) root s q) root (answer xs ys) a i) (sym e) (like_joins s root xs ys t a i a_in d is))
  all_joins s (p ∷ ps) t h a i (inr k) d is =
      all_joins (joined_like (answer xs ys) root s p) ps (like_copying s root xs ys t p.0 p.1 (h p (inl refl))) (λ q m. h q (inr m)) a i k d
      (subst (λ (o : Option (ℕ × ℕ)). IsSome o) (sym (ap (λ (o : Option HeapAtom). slice_index_or (partners_of o) i None) (like_away s root xs ys t p.0 p.1 (h p (inl refl)) a (t.apart a (h (a, i) (inr k)))))) is)
