-- Lists and forests of which the numbers are others.
use Rattle.std.proofs.Common.{◌≡◌, ◌∙◌, ◌==◌, ◌+◌, ◌≤◌, ℕ, suc, Bool, true, false, if◌then◌else◌, not, List, [], ◌∷◌, ◌++◌, Some, length, map, refl, sym, ap, subst, inl, inr, arith}
use Rattle.std.specs.Prelude.{slice_get}
use Rattle.std.proofs.lemmas.Bool.{cases_eq}
use Rattle.lmn_base.specs.Lists.{In}
use Rattle.lmn_base.proofs.Lists.{head_is, join_maps, map_append, tail_is}
use Rattle.lmn_store_heap.specs.Heap.{Heap, Distinct, atoms_in, mems_in}
use Rattle.lmn_store_heap.specs.Lists.{without_all}
use Rattle.lmn_store_heap.specs.Sound.{Forest, Forms, bare, flat, mem}
use Rattle.lmn_store_heap.proofs.Common.{decide_in}
use Rattle.lmn_store_heap.proofs.ListLemmas.{in_left, in_right}
use Rattle.lmn_ground_parts.specs.Copies.{answer}
use Rattle.lmn_ground_parts.specs.Rests.{atoms_of_all, keep}
use Rattle.lmn_ground_parts.specs.Walks.{is_in}
use Rattle.lmn_ground_parts.proofs.AnswerLaws.{answer_here, answer_on, is_in_true}
use Rattle.lmn_solid_heads.specs.Heads.{HeadMembrane}
use Rattle.lmn_solid_bodies.specs.RestCopies.{given}
use Rattle.lmn_solid_bodies.specs.Within.{left_of_closed}
use Rattle.lmn_solid_bodies.proofs.Contents.{keep_without}
use Rattle.lmn_solid_bodies.proofs.Dropping.{not_in, out_of}
use Rattle.lmn_verify_renaming.specs.Renamed.{Numbering}
use Rattle.lmn_verify_renaming.proofs.Numbers.{distinct_there, kept_test, one_to_one}

module _ (n : Numbering) where
  -- what is in a list
  pub is_in_there : (xs : List ℕ) (a : ℕ) → is_in (map n.to xs) (n.to a) ≡ is_in xs a
  is_in_there [] a = refl
  is_in_there (x ∷ xs) a = λ i. if sym (kept_test n x a) i then true else is_in_there xs a i

  -- what is kept of a list
  pub keep_there : (t u : ℕ → Bool) (xs : List ℕ) → ((x : ℕ) → In x xs → u (n.to x) ≡ t x) → keep u (map n.to xs) ≡ map n.to (keep t xs)
  keep_there t u [] h = refl
  keep_there t u (x ∷ xs) h =
      let on = keep_there t u xs (λ y j. h y (inr j)) in
      (λ i. if h x (inl refl) i then n.to x ∷ on i else on i) ∙ by (t x)
    where
      by : (b : Bool) → (if b then n.to x ∷ map n.to (keep t xs) else map n.to (keep t xs)) ≡ map n.to (if b then x ∷ keep t xs else keep t xs)
      by true = refl
      by false = refl

  -- what is left of a list without others
  pub without_there : (ns ms xs : List ℕ) → Distinct xs → ((a : ℕ) → In a xs → In a ns → In (n.to a) ms) → ((a : ℕ) → In a xs → In (n.to a) ms → In a ns)
      → without_all ms (map n.to xs) ≡ map n.to (without_all ns xs)
  without_there ns ms xs d there back =
      keep_without (λ x. not (is_in ms x)) ms (map n.to xs) (distinct_there n xs d) (λ x i. (not_in ms x, out_of ms x))
      ∙ keep_there (λ x. not (is_in ns x)) (λ x. not (is_in ms x)) xs same
      ∙ sym (ap (map n.to) (keep_without (λ x. not (is_in ns x)) ns xs d (λ x i. (not_in ns x, out_of ns x))))
    where
      same : (x : ℕ) → In x xs → not (is_in ms (n.to x)) ≡ not (is_in ns x)
      same x i = elim (decide_in x ns) [
        | inl j ↦ ap not (is_in_true (n.to x) ms (there x i j) ∙ sym (is_in_true x ns j))
        | inr o ↦ out_of ms (n.to x) (λ j. o (back x i j)) ∙ sym (out_of ns x o)
      ]

  -- what stands where a number stands in another list
  pub answer_there : (f : ℕ → ℕ) (xs ys : List ℕ) (a : ℕ) → length xs ≤ length ys → In a xs → answer (map n.to xs) (map f ys) (n.to a) ≡ f (answer xs ys a)
  answer_there f [] ys a l i = absurd i
  answer_there f (x ∷ xs) [] a l i = absurd (omega (arith, l))
  answer_there f (x ∷ xs) (y ∷ ys) a l i = elim (cases_eq x a) [
    | inl e ↦ answer_here (n.to x) (f y) (map n.to xs) (map f ys) (n.to a) (ap n.to e) ∙ ap f (sym (answer_here x y xs ys a e))
    | inr d ↦ answer_on (n.to x) (f y) (map n.to xs) (map f ys) (n.to a) (λ e. d (one_to_one n x a e))
        ∙ answer_there f xs ys a (omega (arith, l)) (rest i d) ∙ ap f (sym (answer_on x y xs ys a d))
  ]
    where
      rest : In a (x ∷ xs) → (x ≡ a → ⊥) → In a xs
      rest (inl e) d = absurd (d e)
      rest (inr k) d = k

  -- what some give to one
  pub given_there : (f : ℕ → ℕ) (list list' : ℕ → List ℕ) (to to' : ℕ → ℕ) (ks : List ℕ) (x : ℕ) → ((k : ℕ) → In k ks → list' (n.to k) ≡ map f (list k))
      → ((k : ℕ) → In k ks → to' (n.to k) ≡ n.to (to k)) → given list' to' (map n.to ks) (n.to x) ≡ map f (given list to ks x)
  given_there f list list' to to' [] x lists goes = refl
  given_there f list list' to to' (k ∷ ks) x lists goes =
      join_maps f (if to k == x then list k else []) (given list to ks x) first (given_there f list list' to to' ks x (λ j i. lists j (inr i)) (λ j i. goes j (inr i)))
    where
      by : (t : Bool) → (if t then map f (list k) else []) ≡ map f (if t then list k else [])
      by true = refl
      by false = refl

      first : (if to' (n.to k) == n.to x then list' (n.to k) else []) ≡ map f (if to k == x then list k else [])
      first =
          let test : (to' (n.to k) == n.to x) ≡ (to k == x) = ap (λ z. z == n.to x) (goes k (inl refl)) ∙ sym (kept_test n (to k) x) in
          (λ i. if test i then lists k (inl refl) i else []) ∙ by (to k == x)

-- the membranes of a forest
pub flats_there : (n : Numbering) (h k : Heap) (f g : Forest) (xs : List ℕ) → ((m : ℕ) → In m (flat f) → mems_in k (n.to m) ≡ map n.to (mems_in h m))
    → Forms h f xs → Forms k g (map n.to xs) → flat g ≡ map n.to (flat f)
flats_there n h k bare bare xs same w v = refl
flats_there n h k bare (mem m i b) xs same w (others, are, into, beside) = let e : [] ≡ m ∷ others = sym (ap (map n.to) w) ∙ are in absurd (cc e)
flats_there n h k (mem m i b) bare xs same (others, are, into, beside) v = let e : n.to m ∷ map n.to others ≡ [] = sym (ap (map n.to) are) ∙ v in absurd (cc e)
flats_there n h k (mem m i b) (mem y j d) xs same (others, are, into, beside) (more, are', into', beside') =
    let e : n.to m ∷ map n.to others ≡ y ∷ more = sym (ap (map n.to) are) ∙ are' in
    let first : n.to m ≡ y = head_is e in
    let inner = flats_there n h k i j (mems_in h m) (λ z l. same z (inr (in_left z (flat i) (flat b) l))) into
    (subst (Forms k j) (ap (mems_in k) (sym first) ∙ same m (inl refl)) into') in
    let rest = flats_there n h k b d others (λ z l. same z (inr (in_right z (flat i) (flat b) l))) beside (subst (Forms k d) (sym (tail_is e)) beside') in
    (λ t. sym first t ∷ (inner t ++ rest t)) ∙ sym (ap (λ zs. n.to m ∷ zs) (map_append n.to (flat i) (flat b)))

-- the atoms of some membranes
pub all_atoms_there : (f g : ℕ → ℕ) (h k : Heap) (ms : List ℕ) → ((m : ℕ) → In m ms → atoms_in k (g m) ≡ map f (atoms_in h m)) → atoms_of_all k (map g ms) ≡ map f (atoms_of_all h ms)
all_atoms_there f g h k [] same = refl
all_atoms_there f g h k (m ∷ ms) same = join_maps f (atoms_in h m) (atoms_of_all h ms) (same m (inl refl)) (all_atoms_there f g h k ms (λ x i. same x (inr i)))

-- what is left in membranes with closed contexts
pub closed_there : (f : ℕ → ℕ) (left left' : ℕ → List ℕ) (k : ℕ) (bs : List HeadMembrane)
    → ((j : ℕ) (b : HeadMembrane) → slice_get bs j ≡ Some b → b.has_closed_context ≡ true → left' (k + j) ≡ map f (left (k + j))) → left_of_closed left' k bs ≡ map f (left_of_closed left k bs)
closed_there f left left' k [] same = refl
closed_there f left left' k (b ∷ bs) same =
    join_maps f (if b.has_closed_context then left k else []) (left_of_closed left (k + 1) bs) (by b.has_closed_context refl)
    (closed_there f left left' (k + 1) bs (λ j c e t. subst (λ z. left' z ≡ map f (left z)) (next j) (same (suc j) c e t)))
  where
    next : (j : ℕ) → k + suc j ≡ k + 1 + j
    next j = omega arith

    here : k + 0 ≡ k
    here = omega arith

    by : (t : Bool) → b.has_closed_context ≡ t → (if t then left' k else []) ≡ map f (if t then left k else [])
    by true e = subst (λ z. left' z ≡ map f (left z)) here (same 0 b refl e)
    by false e = refl
