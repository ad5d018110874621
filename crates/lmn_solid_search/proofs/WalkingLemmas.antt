-- What walks find.
use Rattle.std.proofs.Common.{◌≡◌, ◌≢◌, ◌∙◌, ℕ, zero, suc, ◌+◌, ◌<◌, ◌≤◌, List, [], ◌∷◌, ◌++◌, length, map, slice_get, slice_set, Option, Some, None, is_some, Bool, true, false, refl, sym, ap, subst, inl, inr, arith, OnOk, Result, ◌⊎◌, length-append}
use Rattle.std.proofs.lemmas.Option.{same_Some}
use Rattle.std.proofs.lemmas.Result.{on_ok_weaker}
use Rattle.std.proofs.lemmas.Bool.{cases_eq}
use Rattle.lmn_base.specs.Lists.{In}
use Rattle.lmn_base.specs.Graphs.{Reached, at_root, across, Port}
use Rattle.lmn_base.proofs.Lists.{in_snoc, get_front, get_there, get_set as get_set_here, get_set_away}
use Rattle.lmn_store_heap.specs.Heap.{Heap, IsAtom, arity_of, link_of}
use Rattle.lmn_store_heap.specs.Sound.{Valid}
use Rattle.lmn_store_heap.specs.Graphs.{atom_map}
use Rattle.lmn_store_heap.proofs.Common.{in_at, position, linked_atom}
use Rattle.lmn_store_heap.proofs.ListLemmas.{in_left, in_right}
use Rattle.lmn_store_heap.proofs.Replacing.{port_within}
use Rattle.lmn_solid_search.specs.Walking.{IsMarked, unmarked, Tells, Notes, Walking, WalkingAt, Leads, Gathering, GatheringAt, IsGathered}

-- one place fewer has no number, where one is set
pub one_marked : (marks : List (Option ℕ)) (p n : ℕ) → slice_get marks p ≡ Some None → suc (unmarked (slice_set marks p (Some n))) ≡ unmarked marks
one_marked [] p n e = absurd (cc)
one_marked (None ∷ marks) zero n e = refl
one_marked (Some m ∷ marks) zero n e = let g : Some m ≡ None = same_Some _ _ e in absurd (cc)
one_marked (None ∷ marks) (suc p) n e = ap suc (one_marked marks p n e)
one_marked (Some m ∷ marks) (suc p) n e = one_marked marks p n e

pub length_set : {A : Type 0} (xs : List A) (p : ℕ) (v : A) → length (slice_set xs p v) ≡ length xs
length_set [] p v = refl
length_set (x ∷ xs) zero v = refl
length_set (x ∷ xs) (suc p) v = ap suc (length_set xs p v)

-- ---- a number is added

-- where it was there before
pub was_noted : (marks : List (Option ℕ)) (xs : List ℕ) (p : ℕ) (has : Bool) → p < length marks → ((n : Option ℕ) → slice_get marks p ≡ Some n → has ≡ is_some n) → has ≡ true → Notes marks xs p marks xs
was_noted marks xs p has l h e = record {
  tells = λ t. t;
  there = λ t. t.listed p (by (get_there marks p l));
  front = λ k a g. g;
  kept = λ a i. i;
  new = λ a i d. i;
  longer = omega arith;
}
  where
    by : ((n : Option ℕ) × (slice_get marks p ≡ Some n)) → IsMarked marks p
    by (Some n, g) = (n, g)
    by (None, g) = let z = h None g in absurd (cc)

-- and where it is new
pub is_noted : (marks marks' : List (Option ℕ)) (xs xs' : List ℕ) (p : ℕ) (has : Bool) → p < length marks → ((n : Option ℕ) → slice_get marks p ≡ Some n → has ≡ is_some n) → has ≡ false
    → xs' ≡ xs ++ p ∷ [] → marks' ≡ slice_set marks p (Some 0) → Notes marks xs p marks' xs'
is_noted marks marks' xs xs' p has l h e list_is marks_is =
    subst (λ (ms : List (Option ℕ)). Notes marks xs p ms xs') (sym marks_is)
    (subst (λ (ys : List ℕ). Notes marks xs p (slice_set marks p (Some 0)) ys) (sym list_is) (record {
      tells = λ t. record {
        marked = λ a i. marked t a (in_snoc a p xs i);
        listed = λ a m. listed t a m (cases_eq a p);
        total = (
            let one = one_marked marks p 0 free in
            let long = length-append xs (p ∷ []) in
            let same = length_set marks p (Some 0) in
            let all = t.total in
            omega (arith, one, long, same, all));
      };
      there = λ t. in_right p xs (p ∷ []) (inl refl);
      front = λ k a g. get_front xs (p ∷ []) k a g;
      kept = λ a i. in_left a xs (p ∷ []) i;
      new = λ a i d. elim (in_snoc a p xs i) [ inl j ↦ j | inr same ↦ absurd (d same) ];
      longer = (let long = length-append xs (p ∷ []) in omega (arith, long));
    }))
  where
    by : ((n : Option ℕ) × (slice_get marks p ≡ Some n)) → slice_get marks p ≡ Some None
    by (None, g) = g
    by (Some n, g) = let z = h (Some n) g in absurd (cc)

    free : slice_get marks p ≡ Some None
    free = by (get_there marks p l)

    marked : Tells marks xs → (a : ℕ) → (In a xs ⊎ (a ≡ p)) → IsMarked (slice_set marks p (Some 0)) a
    marked t a (inr same) = (0, subst (λ (b : ℕ). slice_get (slice_set marks p (Some 0)) b ≡ Some (Some 0)) (sym same) (get_set_here marks p (Some 0) l))
    marked t a (inl i) = elim (cases_eq a p) [
      | inl same ↦ (0, subst (λ (b : ℕ). slice_get (slice_set marks p (Some 0)) b ≡ Some (Some 0)) (sym same) (get_set_here marks p (Some 0) l))
      | inr d ↦ (let m = t.marked a i in (m.0, get_set_away marks p (Some 0) a d ∙ m.1))
    ]

    listed : Tells marks xs → (a : ℕ) → IsMarked (slice_set marks p (Some 0)) a → ((a ≡ p) ⊎ (a ≢ p)) → In a (xs ++ p ∷ [])
    listed t a m (inl same) = in_right a xs (p ∷ []) (inl (sym same))
    listed t a m (inr d) = in_left a xs (p ∷ []) (t.listed a (m.0, sym (get_set_away marks p (Some 0) a d) ∙ m.1))

-- the marks behind a clearing
abbrev pub blank : List (Option ℕ) → List (Option ℕ)
blank = map (λ _. None)

-- nothing is told at first
pub no_marks : (marks : List (Option ℕ)) (a n : ℕ) → slice_get (blank marks) a ≡ Some (Some n) → ⊥
no_marks [] a n e = absurd (cc)
no_marks (m ∷ marks) zero n e = let g : None ≡ Some n = same_Some _ _ e in absurd (cc)
no_marks (m ∷ marks) (suc a) n e = no_marks marks a n e

pub all_unmarked : (marks : List (Option ℕ)) → unmarked (blank marks) ≡ length (blank marks)
all_unmarked [] = refl
all_unmarked (m ∷ marks) = ap suc (all_unmarked marks)

pub tells_nothing : (marks marks' : List (Option ℕ)) → marks' ≡ blank marks → Tells marks' []
tells_nothing marks marks' e = subst (λ (ms : List (Option ℕ)). Tells ms []) (sym e) (record {
  marked = λ a i. absurd i;
  listed = λ a m. absurd (no_marks marks a m.0 m.1);
  total = (let h = all_unmarked marks in omega (arith, h));
})

-- as many places stay
pub cleared_length : (marks marks' : List (Option ℕ)) → marks' ≡ blank marks → length marks' ≡ length marks
cleared_length marks marks' e = ap length e ∙ by marks
  where
    by : (ms : List (Option ℕ)) → length (blank ms) ≡ length ms
    by [] = refl
    by (m ∷ ms) = ap suc (by ms)

pub set_length : (marks marks' : List (Option ℕ)) (p n : ℕ) → marks' ≡ slice_set marks p (Some n) → length marks' ≡ length marks
set_length marks marks' p n e = ap length e ∙ length_set marks p (Some n)

-- ---- walks

module _ (S R : ℕ → Type 0) (Next : ℕ → ℕ → ℕ → Type 0) where
  -- a walk finds a number more
  pub noting : (marks marks' : List (Option ℕ)) (xs xs' : List ℕ) (k p : ℕ) → Notes marks xs p marks' xs' → R p → Walking S R Next marks xs k → Walking S R Next marks' xs' k
  noting marks marks' xs xs' k p n r w = record {
    tells = n.tells w.tells;
    within = (let l = w.within in let m = n.longer in omega (arith, l, m));
    right = λ a i. elim (cases_eq a p) [ inl same ↦ subst R (sym same) r | inr d ↦ w.right a (n.new a i d) ];
    started = λ a s. n.kept a (w.started a s);
    done = λ j a i b l g h. n.kept b (w.done j a i b l (before j a l g) h);
  }
    where
      same_at : (j a b : ℕ) → slice_get xs' j ≡ Some a → slice_get xs j ≡ Some b → slice_get xs j ≡ Some a
      same_at j a b g h = h ∙ sym (n.front j b h) ∙ g

      before : (j a : ℕ) → j < k → slice_get xs' j ≡ Some a → slice_get xs j ≡ Some a
      before j a l g = let m = w.within in let there = get_there xs j (omega (arith, l, m)) in same_at j a there.0 g there.1

  pub noting_at : (marks marks' : List (Option ℕ)) (xs xs' : List ℕ) (k a i p : ℕ) → Notes marks xs p marks' xs' → Next a i p → ((b : ℕ) → Next a i b → b ≡ p) → R p
      → WalkingAt S R Next marks xs k a i → WalkingAt S R Next marks' xs' k a (i + 1)
  noting_at marks marks' xs xs' k a i p n next only r w = record {
    walking = noting marks marks' xs xs' k p n r w.walking;
    at = n.front k a w.at;
    before = λ j b l h. elim (cases_eq j i) [
      | inl same ↦ subst (λ (c : ℕ). In c xs') (sym (only b (subst (λ (m : ℕ). Next a m b) same h))) (n.there w.walking.tells)
      | inr d ↦ n.kept b (w.before j b (omega (arith, l, d)) h)
    ];
  }

  -- a way that leads nowhere
  pub skipping_at : (marks : List (Option ℕ)) (xs : List ℕ) (k a i : ℕ) → ((b : ℕ) → Next a i b → ⊥) → WalkingAt S R Next marks xs k a i → WalkingAt S R Next marks xs k a (i + 1)
  skipping_at marks xs k a i none w = record {
    walking = w.walking;
    at = w.at;
    before = λ j b l h. elim (cases_eq j i) [
      | inl same ↦ absurd (none b (subst (λ (m : ℕ). Next a m b) same h))
      | inr d ↦ w.before j b (omega (arith, l, d)) h
    ];
  }

  -- and has gone all its ways
  pub leaving : (marks : List (Option ℕ)) (xs : List ℕ) (k a n : ℕ) → ((i b : ℕ) → Next a i b → i < n) → WalkingAt S R Next marks xs k a n → Walking S R Next marks xs (k + 1)
  leaving marks xs k a n few w = record {
    tells = w.walking.tells;
    within = (let l = below xs k a w.at in omega (arith, l));
    right = w.walking.right;
    started = w.walking.started;
    done = λ j c i b l g h. elim (cases_eq j k) [
      | inl same ↦
          let e : Some c ≡ Some a = sym g ∙ subst (λ (m : ℕ). slice_get xs m ≡ Some a) (sym same) w.at in
          let h' : Next a i b = subst (λ (m : ℕ). Next m i b) (same_Some _ _ e) h in
          w.before i b (few i b h') h'
      | inr d ↦ w.walking.done j c i b (omega (arith, l, d)) g h
    ];
  }
    where
      below : (ys : List ℕ) (m x : ℕ) → slice_get ys m ≡ Some x → m < length ys
      below [] m x e = absurd (cc)
      below (y ∷ ys) zero x e = omega arith
      below (y ∷ ys) (suc m) x e = let l = below ys m x e in omega (arith, l)

  -- nothing is found at first
  pub setting_out : (marks marks' : List (Option ℕ)) (xs : List ℕ) (p : ℕ) → Tells marks [] → Notes marks [] p marks' xs → R p → ((a : ℕ) → S a → p ≡ a) → Walking S R Next marks' xs 0
  setting_out marks marks' xs p t n r only = record {
    tells = n.tells t;
    within = omega arith;
    right = λ a i. elim (cases_eq a p) [ inl same ↦ subst R (sym same) r | inr d ↦ absurd (n.new a i d) ];
    started = λ a s. subst (λ (b : ℕ). In b xs) (only a s) (n.there t);
    done = λ j a i b l g h. absurd (omega (arith, l));
  }

  -- what is found is all in the end
  pub closed_at_end : (marks : List (Option ℕ)) (xs : List ℕ) (k a i b : ℕ) → length xs ≤ k → Walking S R Next marks xs k → In a xs → Next a i b → In b xs
  closed_at_end marks xs k a i b l w i' h = let p = position xs a i' in w.done p.0 a i b (omega (arith, l, below xs p.0 a p.1)) p.1 h
    where
      below : (ys : List ℕ) (m x : ℕ) → slice_get ys m ≡ Some x → m < length ys
      below [] m x e = absurd (cc)
      below (y ∷ ys) zero x e = omega arith
      below (y ∷ ys) (suc m) x e = let l = below ys m x e in omega (arith, l)

-- ---- parts

-- a link leads to an atom
pub linked_to : (h : Heap) (a i : ℕ) (p : ℕ × ℕ) → Valid h → link_of h a i ≡ Some p → IsAtom h p.0
linked_to h a i p v e = linked_atom h p.0 p.1 (v.sound.paired.back a i p.0 p.1 e)

-- what the walk finds is a part
pub gathered : (h : Heap) (root : Port) (marks : List (Option ℕ)) (xs : List ℕ) (k : ℕ) → length xs ≤ k → Gathering h root marks xs k → IsGathered h root marks xs
gathered h root marks xs k l w = record { tells = w.tells; reached = w.right; all = all }
  where
    all : (a : ℕ) → Reached (atom_map h) root a → In a xs
    all a at_root = w.started root.0 refl
    all a (across {a = b} {i = i} {j = j} r d e) = closed_at_end (λ a. root.0 ≡ a) (Reached (atom_map h) root) (Leads h root) marks xs k b i a l w (all b r) (d, (j, e))

-- the root's port isn't followed
pub skipped : (h : Heap) (root : Port) (marks : List (Option ℕ)) (xs : List ℕ) (k a i : ℕ) → ◌≡◌ {A = ℕ × ℕ} (a, i) root → GatheringAt h root marks xs k a i → GatheringAt h root marks xs k a (i + 1)
skipped h root marks xs k a i e = skipping_at (λ a. root.0 ≡ a) (Reached (atom_map h) root) (Leads h root) marks xs k a i (λ b n. n.0 e)

-- each other one is
pub followed : (h : Heap) (root : Port) (marks marks' : List (Option ℕ)) (xs xs' : List ℕ) (k a i : ℕ) (p : ℕ × ℕ) {T E : Type 0} (result : Result T E) {same : Bool} → link_of h a i ≡ Some p
    → (◌≡◌ {A = ℕ × ℕ} (a, i) root → same ≡ true) → same ≡ false → OnOk result (Notes marks xs p.0 marks' xs') → GatheringAt h root marks xs k a i → OnOk result (GatheringAt h root marks' xs' k a (i + 1))
followed h root marks marks' xs xs' k a i p result e same away n w = on_ok_weaker result (λ m. noting_at (λ a. root.0 ≡ a) (Reached (atom_map h) root) (Leads h root) marks marks' xs xs' k a i p.0 m next only (across (w.walking.right a (in_at xs k a w.at)) next.0 e) w) n
  where
    next : Leads h root a i p.0
    next = ((λ g. let z = same g in let y = away in absurd (cc)), (p.1, e))

    only : (b : ℕ) → Leads h root a i b → b ≡ p.0
    only b (d, (j, g)) = ap (λ (q : ℕ × ℕ). q.0) (same_Some _ _ (sym g ∙ e))

-- what is reached is an atom
pub reached_atom : (h : Heap) (root : Port) (a : ℕ) → Valid h → IsAtom h root.0 → Reached (atom_map h) root a → IsAtom h a
reached_atom h root a v r at_root = r
reached_atom h root a v r (across {a = b} {i = i} {j = j} q d e) = linked_to h b i (a, j) v e

-- an atom has a port where a link leads on
pub all_followed : (h : Heap) (root : Port) (marks : List (Option ℕ)) (xs : List ℕ) (k a n : ℕ) → n ≡ arity_of h a → GatheringAt h root marks xs k a n → Gathering h root marks xs (k + 1)
all_followed h root marks xs k a n e = leaving (λ a. root.0 ≡ a) (Reached (atom_map h) root) (Leads h root) marks xs k a n
    (λ i b next. (let l = port_within h a i (b, next.1.0) next.1.1 in omega (arith, e, l)))

pub part_begun : (h : Heap) (root : Port) (marks marks' marks'' : List (Option ℕ)) (xs ys : List ℕ) → marks' ≡ blank marks → xs ≡ [] → Notes marks' xs root.0 marks'' ys → Gathering h root marks'' ys 0
part_begun h root marks marks' marks'' xs ys e list n = setting_out (λ a. root.0 ≡ a) (Reached (atom_map h) root) (Leads h root) marks' marks'' ys root.0
    (tells_nothing marks marks' e) (subst (λ (zs : List ℕ). Notes marks' zs root.0 marks'' ys) list n) at_root (λ a s. s)

-- a loop over the ports has gone all ways
pub followed_so_far : (h : Heap) (root : Port) (marks : List (Option ℕ)) (xs : List ℕ) (k a i n : ℕ) → n ≡ arity_of h a → i ≤ n → n ≤ i → GatheringAt h root marks xs k a i → Gathering h root marks xs (k + 1)
followed_so_far h root marks xs k a i n e l d w = all_followed h root marks xs k a i (omega (arith, e, l, d)) w
