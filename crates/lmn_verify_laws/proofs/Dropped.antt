-- What the body of verified code drops are the rests that its flat rule drops, in some order.
use Rattle.std.proofs.Common.{◌≡◌, ◌≢◌, ◌≤◌, ◌+◌, ◌||◌, ◌==◌, ◌∙◌, inl, inr, ℕ, zero, suc, Bool, true, false, cond, List, [], ◌∷◌, ◌++◌, map, length, Some, refl, sym, ap, subst, arith, true≢false}
use Rattle.std.specs.Prelude.{slice_get, count_by, sum, if◌then◌else◌}
use Rattle.std.specs.List.{list_all}
use Rattle.std.proofs.lemmas.Bool.{cases_eq, eqb-true, eq-eqb}
use Rattle.lmn_base.specs.Lists.{In}
use Rattle.lmn_base.proofs.Numbers.{equal_itself}
use Rattle.lmn_base.proofs.Truth.{and_true, either_true}
use Rattle.lmn_store_heap.specs.Heap.{Heap, Distinct, without}
use Rattle.lmn_store_heap.proofs.Common.{in_of_without}
use Rattle.lmn_store_heap.proofs.Listing.{distinct_without}
use Rattle.lmn_store_heap.proofs.ListLemmas.{each_in, each_of, in_right, in_without}
use Rattle.lmn_congruence_splice.specs.Classes.{rising}
use Rattle.lmn_congruence_splice.specs.Splice.{IsOneOf}
use Rattle.lmn_congruence_splice.proofs.Common.{in_append, in_front, in_back}
use Rattle.lmn_solid_heads.specs.Heads.{HeadMembrane, atoms_of, membranes_of, typed_contexts_of}
use Rattle.lmn_solid_heads.specs.Embeddings.{HasMembrane}
use Rattle.lmn_solid_bodies.specs.Code.{drops as body_drops}
use Rattle.lmn_solid_bodies.specs.Running.{Registers}
use Rattle.lmn_solid_bodies.proofs.HeadPorts.{of_map}
use Rattle.lmn_machine.specs.Costs.{InAll, TakesItems}
use Rattle.lmn_instr_code.specs.declared.instr.Code.{Code}
use Rattle.lmn_instr_code.specs.declared.instr.Instr.{Instr}
use Rattle.lmn_instr_code.specs.declared.instr.Instr.TheVariants.{RemoveAtom, RemovePart, RemoveMem, DropCells, Proceed}
use Rattle.lmn_store_heap.specs.Heap.{rules_in}
use Rattle.lmn_verify_code.specs.declared.found.FoundMembrane.{FoundMembrane}
use Rattle.lmn_verify_code.specs.Verified.{IsVerified, drops, drops_rest, makes, membranes_found, nothing_left, rest_dropped, rest_moved}
use Rattle.lmn_verify_laws.specs.Flat.{flat_head}
use Rattle.lmn_verify_laws.proofs.Exchanged.{is_tie}
use Rattle.lmn_verify_laws.proofs.Items.{head_membrane, membrane_found_at}
use Rattle.lmn_verify_laws.proofs.Listed.{all_is, counted_some, passing, passing_counted, passing_one, passing_some}
use Rattle.lmn_verify_laws.proofs.Rules.{counted_tests, dropped_tests, head_at, moved_tests, of_body, removed_is, some_passes}
use Rattle.lmn_verify_laws.proofs.Shape.{HasShape, made_code, shape, taken_code}

-- ---- in rising order

-- the numbers of the membranes with closed contexts, of which the first has the number k
abbrev pub closed_numbers : ℕ → List HeadMembrane → List ℕ
closed_numbers k [] = []
closed_numbers k (b ∷ bs) = (if b.has_closed_context then k ∷ [] else []) ++ closed_numbers (k + 1) bs

-- what a body drops in rising order, by these numbers
pub drops_numbered : (k : ℕ) (bs : List HeadMembrane) → body_drops k bs ≡ map DropCells (closed_numbers k bs)
drops_numbered k [] = refl
drops_numbered k (b ∷ bs) = by b.has_closed_context (drops_numbered (k + 1) bs)
  where
    by : (c : Bool) → body_drops (k + 1) bs ≡ map DropCells (closed_numbers (k + 1) bs) → (if c then DropCells k ∷ [] else []) ++ body_drops (k + 1) bs ≡ map DropCells ((if c then k ∷ [] else []) ++ closed_numbers (k + 1) bs)
    by true e = ap (λ l. DropCells k ∷ l) e
    by false e = e

-- such a number is that of a membrane with a closed context
pub closed_at : (k : ℕ) (bs : List HeadMembrane) (n : ℕ) → In n (closed_numbers k bs) → (i : ℕ) × (b : HeadMembrane) × (slice_get bs i ≡ Some b) × (b.has_closed_context ≡ true) × (n ≡ k + i)
closed_at k [] n o = absurd o
closed_at k (b ∷ bs) n o = by b.has_closed_context refl o (closed_at (k + 1) bs n)
  where
    later : (i : ℕ) × (c : HeadMembrane) × (slice_get bs i ≡ Some c) × (c.has_closed_context ≡ true) × (n ≡ (k + 1) + i) → (i : ℕ) × (c : HeadMembrane) × (slice_get (b ∷ bs) i ≡ Some c) × (c.has_closed_context ≡ true) × (n ≡ k + i)
    later w = (suc w.0, w.1, w.2, w.3, let e = w.4 in omega (arith, e))

    by : (c : Bool) → b.has_closed_context ≡ c → In n ((if c then k ∷ [] else []) ++ closed_numbers (k + 1) bs) → (In n (closed_numbers (k + 1) bs) → (i : ℕ) × (c : HeadMembrane) × (slice_get bs i ≡ Some c) × (c.has_closed_context ≡ true) × (n ≡ (k + 1) + i)) →
        (i : ℕ) × (c : HeadMembrane) × (slice_get (b ∷ bs) i ≡ Some c) × (c.has_closed_context ≡ true) × (n ≡ k + i)
    by true e (inl s) more = (0, b, refl, e, let z : k ≡ k + 0 = omega arith in sym s ∙ z)
    by true e (inr o) more = later (more o)
    by false e o more = later (more o)

-- and the number of each of them is one
pub at_closed : (k : ℕ) (bs : List HeadMembrane) (i : ℕ) (b : HeadMembrane) → slice_get bs i ≡ Some b → b.has_closed_context ≡ true → In (k + i) (closed_numbers k bs)
at_closed k [] i b e c = absurd (cc)
at_closed k (d ∷ bs) zero b e c =
    let same : b ≡ d = (let s : Some d ≡ Some b = e in cc) in
    let z : k ≡ k + 0 = omega arith in
    subst (λ n. In n (closed_numbers k (d ∷ bs))) z (by d.has_closed_context (ap (λ (z : HeadMembrane). z.has_closed_context) (sym same) ∙ c))
  where
    by : (t : Bool) → t ≡ true → In k ((if t then k ∷ [] else []) ++ closed_numbers (k + 1) bs)
    by true e = inl refl
    by false e = absurd (true≢false (sym e))
at_closed k (d ∷ bs) (suc i) b e c =
    let z : (k + 1) + i ≡ k + suc i = omega arith in
    in_right (k + suc i) (if d.has_closed_context then k ∷ [] else []) (closed_numbers (k + 1) bs) (subst (λ n. In n (closed_numbers (k + 1) bs)) z (at_closed (k + 1) bs i b e c))

-- none of them stands twice
pub closed_distinct : (k : ℕ) (bs : List HeadMembrane) → Distinct (closed_numbers k bs)
closed_distinct k [] = tt
closed_distinct k (b ∷ bs) = by b.has_closed_context (closed_distinct (k + 1) bs)
  where
    by : (c : Bool) → Distinct (closed_numbers (k + 1) bs) → Distinct ((if c then k ∷ [] else []) ++ closed_numbers (k + 1) bs)
    by true d = (each_of (λ z. k ≢ z) (closed_numbers (k + 1) bs) (λ z i e. let w = closed_at (k + 1) bs z i in let f = w.4 in omega (arith, e, f)), d)
    by false d = d

-- ---- in any order

-- the membranes whose rests code drops
abbrev pub drop_numbers : List Instr → List ℕ
drop_numbers [] = []
drop_numbers (DropCells m ∷ is) = m ∷ drop_numbers is
drop_numbers (_ ∷ is) = drop_numbers is

numbered_drops : (h : ℕ) (is : List Instr) → list_all (drops h) is ≡ true → is ≡ map DropCells (drop_numbers is)
numbered_drops h [] e = refl
numbered_drops h (DropCells m ∷ is) e = ap (λ l. DropCells m ∷ l) (numbered_drops h is (and_true (drops h (DropCells m)) (list_all (drops h) is) e).1)
numbered_drops h (_ ∷ is) e = absurd (true≢false (sym e))

numbers_in : (js : List ℕ) (n : ℕ) → In n js → IsOneOf (DropCells n) (map DropCells js)
numbers_in [] n i = absurd i
numbers_in (j ∷ js) n (inl e) = inl (ap DropCells e)
numbers_in (j ∷ js) n (inr i) = inr (numbers_in js n i)

abbrev number_or : ℕ → Instr → ℕ
number_or d (DropCells m) = m
number_or d _ = d

in_numbers : (js : List ℕ) (n : ℕ) → IsOneOf (DropCells n) (map DropCells js) → In n js
in_numbers [] n i = absurd i
in_numbers (j ∷ js) n (inl e) = inl (ap (number_or n) e)
in_numbers (j ∷ js) n (inr i) = inr (in_numbers js n i)

numbers_distinct : (js : List ℕ) → ((n : ℕ) → passing (drops_rest n) (map DropCells js) ≤ 1) → Distinct js
numbers_distinct [] f = tt
numbers_distinct (j ∷ js) f = (
  each_of (λ z. j ≢ z) js (λ z i e. twice j js (f j) (passing_one (drops_rest j) (map DropCells js) (DropCells j) (numbers_in js j (subst (λ y. In y js) (sym e) i)) (equal_itself j))),
  numbers_distinct js (λ n. less n j js (f n)),
)
  where
    twice : (j : ℕ) (js : List ℕ) → passing (drops_rest j) (map DropCells (j ∷ js)) ≤ 1 → passing (drops_rest j) (map DropCells js) ≢ 0 → ⊥
    twice j js l d = by (j == j) (equal_itself j) l
      where
        by : (t : Bool) → t ≡ true → cond t (1 + passing (drops_rest j) (map DropCells js)) (passing (drops_rest j) (map DropCells js)) ≤ 1 → ⊥
        by true e l = d (omega (arith, l))
        by false e l = true≢false (sym e)

    less : (n j : ℕ) (js : List ℕ) → passing (drops_rest n) (map DropCells (j ∷ js)) ≤ 1 → passing (drops_rest n) (map DropCells js) ≤ 1
    less n j js l = by (j == n) l
      where
        by : (t : Bool) → cond t (1 + passing (drops_rest n) (map DropCells js)) (passing (drops_rest n) (map DropCells js)) ≤ 1 → passing (drops_rest n) (map DropCells js) ≤ 1
        by true l = omega (arith, l)
        by false l = l

passing_of_parts : (test : Instr → Bool) (xs ys : List Instr) → passing test (xs ++ ys) ≡ passing test xs + passing test ys
passing_of_parts test [] ys = omega arith
passing_of_parts test (x ∷ xs) ys = by (test x) (passing_of_parts test xs ys)
  where
    by : (b : Bool) → passing test (xs ++ ys) ≡ passing test xs + passing test ys → cond b (1 + passing test (xs ++ ys)) (passing test (xs ++ ys)) ≡ cond b (1 + passing test xs) (passing test xs) + passing test ys
    by true e = omega (arith, e)
    by false e = e

-- ---- sums

abbrev total : (ℕ → ℕ) → List ℕ → ℕ
total f [] = 0
total f (x ∷ xs) = f x + total f xs

total_without : (f : ℕ → ℕ) (x : ℕ) (xs : List ℕ) → Distinct xs → In x xs → total f xs ≡ f x + total f (without x xs)
total_without f x [] d i = absurd i
total_without f x (y ∷ ys) d i = by (y == x) refl i (total_without f x ys d.1)
  where
    by : (b : Bool) → (y == x) ≡ b → In x (y ∷ ys) → (In x ys → total f ys ≡ f x + total f (without x ys)) → f y + total f ys ≡ f x + total f (if b then ys else y ∷ without x ys)
    by true e j more = ap (λ z. f z + total f ys) (eqb-true y x e)
    by false e (inl s) more = absurd (true≢false (sym (eq-eqb y x s) ∙ e))
    by false e (inr j) more = let u = more j in omega (arith, u)

without_not : (x : ℕ) (xs : List ℕ) → Distinct xs → In x (without x xs) → ⊥
without_not x [] d i = i
without_not x (y ∷ ys) d i = by (y == x) refl i (without_not x ys d.1)
  where
    by : (b : Bool) → (y == x) ≡ b → In x (if b then ys else y ∷ without x ys) → (In x (without x ys) → ⊥) → ⊥
    by true e j more = each_in (λ z. y ≢ z) ys x d.0 j (eqb-true y x e)
    by false e (inl s) more = true≢false (sym (eq-eqb y x s) ∙ e)
    by false e (inr j) more = more j

-- Lists of the same different numbers have one sum.
total_same : (f : ℕ → ℕ) (js ks : List ℕ) → Distinct js → Distinct ks → ((n : ℕ) → In n js → In n ks) → ((n : ℕ) → In n ks → In n js) → total f js ≡ total f ks
total_same f [] [] dj dk to from = refl
total_same f [] (k ∷ ks) dj dk to from = absurd (from k (inl refl))
total_same f (j ∷ js) ks dj dk to from =
    let u = total_without f j ks dk (to j (inl refl)) in
    let w = total_same f js (without j ks) dj.1 (distinct_without j ks dk) (λ n i. in_without j n ks (to n (inr i)) (λ e. each_in (λ z. j ≢ z) js n dj.0 i (sym e)))
    (λ n i. elim (from n (in_of_without j n ks i)) [ inl e ↦ absurd (without_not j ks dk (subst (λ z. In z (without j ks)) (sym e) i)) | inr p ↦ p ]) in
    omega (arith, u, w)

module _ (h : Heap) (r : Registers) where
  takes_sum : (f : ℕ → ℕ) → ((m : ℕ) → f m ≡ length (r.left_atoms m) + sum (map (λ k. 1 + length (rules_in h k)) (r.left_membranes m))) → (ks : List ℕ) (n : ℕ) → InAll (TakesItems h r) (map DropCells ks) n → n ≡ total f ks
  takes_sum f g [] n w = w
  takes_sum f g (k ∷ ks) n w = let u = takes_sum f g ks w.1 w.2.1 in let a = w.2.0 in let b = g k in let e = w.2.2 in omega (arith, u, a, b, e)

  sum_takes : (f : ℕ → ℕ) → ((m : ℕ) → f m ≡ length (r.left_atoms m) + sum (map (λ k. 1 + length (rules_in h k)) (r.left_membranes m))) → (ks : List ℕ) → InAll (TakesItems h r) (map DropCells ks) (total f ks)
  sum_takes f g [] = refl
  sum_takes f g (k ∷ ks) = (f k, total f ks, (g k, sum_takes f g ks, refl))

  pub takes_any : (js ks : List ℕ) → Distinct js → Distinct ks → ((n : ℕ) → In n js → In n ks) → ((n : ℕ) → In n ks → In n js) → (n : ℕ) → InAll (TakesItems h r) (map DropCells ks) n → InAll (TakesItems h r) (map DropCells js) n
  takes_any js ks dj dk to from n w =
      let f : ℕ → ℕ = λ m. length (r.left_atoms m) + sum (map (λ k. 1 + length (rules_in h k)) (r.left_membranes m)) in
      let e = takes_sum f (λ m. refl) ks n w in
      subst (InAll (TakesItems h r) (map DropCells js)) (total_same f js ks dj dk to from ∙ sym e) (sum_takes f (λ m. refl) js)

-- ---- verified code

abbrev is_drop : Instr → Bool
is_drop (DropCells m) = true
is_drop _ = false

module _ (code : Code) (k : ℕ) (v : IsVerified code k) where
  abbrev S : HasShape code k v
  S = shape code k v

  abbrev pub js : List ℕ
  js = drop_numbers S.dropped

  abbrev pub ks : List ℕ
  ks = closed_numbers 1 (membranes_of (flat_head code))

  pub dropped_is : S.dropped ≡ map DropCells js
  dropped_is = numbered_drops (1 + length (membranes_found code.head)) S.dropped S.drops_all

  in_body : (n : ℕ) → In n js → IsOneOf (DropCells n) code.body
  in_body n i =
      let here = subst (λ l. IsOneOf (DropCells n) l) (sym dropped_is) (numbers_in js n i) in
      subst (λ l. IsOneOf (DropCells n) l) (sym S.whole)
      (in_back (DropCells n) (taken_code code k v) (made_code code k v ++ (S.dropped ++ (S.tied ++ (Proceed ∷ []))))
      (in_back (DropCells n) (made_code code k v) (S.dropped ++ (S.tied ++ (Proceed ∷ []))) (in_front (DropCells n) S.dropped (S.tied ++ (Proceed ∷ [])) here)))

  -- what is dropped is the rest of a membrane with a closed context
  closed_of : (n : ℕ) → IsOneOf (DropCells n) code.body → (m : FoundMembrane) × (m.membrane ≡ n) × HasMembrane (flat_head code) n (head_membrane code m) × (rest_dropped code n ≡ true)
  closed_of n o =
      let w = head_at code k v n (removed_is (length (membranes_found code.head)) n (of_body code k v (DropCells n) o)) in
      let all : (nothing_left code n || (rest_moved code n || rest_dropped code n)) ≡ true = subst (λ z. (nothing_left code z || (rest_moved code z || rest_dropped code z)) ≡ true) w.1 w.3 in
      let rest : rest_dropped code n ≡ true = elim (either_true (nothing_left code n) (rest_moved code n || rest_dropped code n) all) [
        | inl t ↦ absurd (some_passes (drops_rest n) code.body (DropCells n) o (equal_itself n) (counted_tests code n t).4)
        | inr t ↦ elim (either_true (rest_moved code n) (rest_dropped code n) t) [ inl u ↦ absurd (some_passes (drops_rest n) code.body (DropCells n) o (equal_itself n) (moved_tests code n u).4) | inr u ↦ u ]
      ] in
      (w.0, w.1, w.2, rest)

  pub there : (n : ℕ) → In n js → In n ks
  there n i =
      let w = closed_of n (in_body n i) in
      let closed : (head_membrane code w.0).has_closed_context ≡ true = ap (rest_dropped code) w.1 ∙ w.3 in
      let e = w.2.1 in
      let z : 1 + w.2.0 ≡ n = omega (arith, e) in
      subst (λ x. In x ks) z (at_closed 1 (membranes_of (flat_head code)) w.2.0 (head_membrane code w.0) w.2.2 closed)

  not_removed : (n : ℕ) → IsOneOf (DropCells n) (taken_code code k v) → ⊥
  not_removed n o =
      let a = rising 0 (length (atoms_of (flat_head code))) in
      let g = rising 0 (length (typed_contexts_of (flat_head code))) in
      let m = rising 1 (length (membranes_of (flat_head code))) in
      elim (in_append (DropCells n) (map RemoveAtom a) (map RemovePart g ++ map RemoveMem m) o) [
        | inl u ↦ (let w = of_map RemoveAtom (DropCells n) a u in true≢false (sym (ap is_drop w.2)))
        | inr u ↦ elim (in_append (DropCells n) (map RemovePart g) (map RemoveMem m) u) [
          | inl t ↦ (let w = of_map RemovePart (DropCells n) g t in true≢false (sym (ap is_drop w.2)))
          | inr t ↦ (let w = of_map RemoveMem (DropCells n) m t in true≢false (sym (ap is_drop w.2)))
        ]
      ]

  only_dropped : (n : ℕ) → IsOneOf (DropCells n) code.body → IsOneOf (DropCells n) S.dropped
  only_dropped n o =
      let P = Proceed ∷ [] in
      elim (in_append (DropCells n) (taken_code code k v) (made_code code k v ++ (S.dropped ++ (S.tied ++ P))) (subst (λ l. IsOneOf (DropCells n) l) S.whole o)) [
        | inl u ↦ absurd (not_removed n u)
        | inr u ↦ elim (in_append (DropCells n) (made_code code k v) (S.dropped ++ (S.tied ++ P)) u) [
          | inl t ↦ absurd (true≢false (sym (all_is (makes (1 + length (membranes_found code.head)) k) (made_code code k v) (DropCells n) S.makes_all t)))
          | inr t ↦ elim (in_append (DropCells n) S.dropped (S.tied ++ P) t) [
            | inl w ↦ w
            | inr w ↦ elim (in_append (DropCells n) S.tied P w) [
              | inl z ↦ absurd (true≢false (sym (all_is is_tie S.tied (DropCells n) S.ties_all z)))
              | inr z ↦ absurd (last n z)
            ]
          ]
        ]
      ]
    where
      last : (n : ℕ) → IsOneOf (DropCells n) (Proceed ∷ []) → ⊥
      last n (inl e) = true≢false (sym (ap is_drop e))
      last n (inr i) = i

  is_dropped : (n : ℕ) (i : Instr) → drops_rest n i ≡ true → i ≡ DropCells n
  is_dropped n (DropCells m) e = ap DropCells (eqb-true m n e)
  is_dropped n _ e = absurd (true≢false (sym e))

  pub back : (n : ℕ) → In n ks → In n js
  back n i =
      let w = closed_at 1 (membranes_of (flat_head code)) n i in
      let m = membrane_found_at code k v w.0 w.1 w.2 in
      let e = w.4 in
      let f = m.3 in
      let number : m.0.membrane ≡ n = omega (arith, e, f) in
      let dropped : rest_dropped code m.0.membrane ≡ true = ap (λ (z : HeadMembrane). z.has_closed_context) m.2 ∙ w.3 in
      let one = counted_some (drops_rest m.0.membrane) code.body 0 (eqb-true (count_by (drops_rest m.0.membrane) code.body) 1 (dropped_tests code m.0.membrane dropped).0) in
      let there : IsOneOf (DropCells m.0.membrane) code.body = subst (λ z. IsOneOf z code.body) (is_dropped m.0.membrane one.0 one.2) one.1 in
      subst (λ z. In z js) number (in_numbers js m.0.membrane (subst (λ l. IsOneOf (DropCells m.0.membrane) l) dropped_is (only_dropped m.0.membrane there)))

  once_dropped : (n : ℕ) → passing (drops_rest n) code.body ≤ 1
  once_dropped n = elim (cases_eq (passing (drops_rest n) code.body) 0) [
    | inl e ↦ omega (arith, e)
    | inr d ↦ (let w = passing_some (drops_rest n) code.body d in
        let u = closed_of n (subst (λ z. IsOneOf z code.body) (is_dropped n w.0 w.2) w.1) in
        let c = eqb-true (count_by (drops_rest n) code.body) 1 (dropped_tests code n u.3).0 in
        let p = passing_counted (drops_rest n) code.body in
        omega (arith, c, p))
  ]

  pub js_distinct : Distinct js
  js_distinct = numbers_distinct js (λ n.
      (let P = Proceed ∷ [] in
      let a = passing_of_parts (drops_rest n) (taken_code code k v) (made_code code k v ++ (S.dropped ++ (S.tied ++ P))) in
      let b = passing_of_parts (drops_rest n) (made_code code k v) (S.dropped ++ (S.tied ++ P)) in
      let c = passing_of_parts (drops_rest n) S.dropped (S.tied ++ P) in
      let d = ap (passing (drops_rest n)) S.whole in
      let e = ap (passing (drops_rest n)) dropped_is in
      let l = once_dropped n in
      omega (arith, a, b, c, d, e, l)))

  pub ks_distinct : Distinct ks
  ks_distinct = closed_distinct 1 (membranes_of (flat_head code))

  pub rising_is : body_drops 1 (membranes_of (flat_head code)) ≡ map DropCells ks
  rising_is = drops_numbered 1 (membranes_of (flat_head code))

  -- the numbers of rests that are dropped are those of membranes with closed contexts
  pub closed_number : (n : ℕ) → In n ks → (b : HeadMembrane) × HasMembrane (flat_head code) n b × (b.has_closed_context ≡ true)
  closed_number n i = let w = closed_at 1 (membranes_of (flat_head code)) n i in (w.1, (w.0, (let e = w.4 in omega (arith, e)), w.2), w.3)
