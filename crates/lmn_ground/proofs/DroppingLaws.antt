-- What stands in a membrane, and how it is taken on the way through it.
use Rattle.std.proofs.Common.{◌≡◌, ◌≢◌, ◌⊎◌, ℕ, suc, ◌+◌, ◌<◌, ◌≤◌, ◌^◌, ◌==◌, not, List, [], ◌∷◌, ◌++◌, length, true, false, Bool, Option, Some, None, refl, sym, ap, subst, ◌∙◌, inl, inr, arith, if◌then◌else◌}
use Rattle.std.proofs.lemmas.Bool.{eq-eqb}
use Rattle.std.proofs.lemmas.List.{append_assoc, length-append}
use Rattle.lmn_store_heap.specs.Heap.{Heap, Distinct, IsMem, after, from, within, parent_of, atoms_in, mems_in, taken_all, taken_mem, own_mark}
use Rattle.lmn_store_heap.specs.Sound.{AtMost, Forest, bare, mem, flat, Forms, Sound}
use Rattle.lmn_store_heap.proofs.Common.{decide_in, place_home}
use Rattle.lmn_store_heap.proofs.Heights.{parent_is, parent_place}
use Rattle.lmn_store_heap.proofs.ListLemmas.{each_in, each_of, in_left, in_right, in_split}
use Rattle.lmn_store_heap.proofs.Trees.{At, after_at, after_split, around, find_at, in_here, mem_by, split_at, tail_of}
use Rattle.lmn_base.specs.Lists.{In}
use Rattle.lmn_base.proofs.Lists.{in_either}
use Rattle.lmn_base.proofs.Numbers.{not_equal as apart_test}
use Rattle.lmn_ground_parts.specs.Walks.{is_in}
use Rattle.lmn_ground_parts.specs.Rests.{IsContent, atoms_of_all, keep, rest_taken}
use Rattle.lmn_ground.specs.Rests.{IsLeft}
use Rattle.lmn_ground.proofs.RestLaws.{all_in, atoms_once, in_all, keep_distinct, keep_in, rest_found, rest_is}
use Rattle.lmn_ground.proofs.DropLaws.{all_dropped, atoms_left, but, but_in, but_nothing, but_out, dropped, dropped_none, mem_taken_dropped, mems_left, onto, onto_either, onto_first, onto_second, parent_gone, parent_left, rest_dropped, same_dropped, still_mem}
use Rattle.lmn_ground_parts.proofs.Common.{keep_all}
use Rattle.lmn_store_heap.proofs.Groves.{list_inside}

-- what is behind one that is behind another is less
pub less_behind : (n k : ℕ) (xs : List ℕ) → Distinct xs → In k (after n xs) → length (after k xs) < length (after n xs)
less_behind n k xs d i =
    let t = tail_of n xs in
    let w = in_split k (after n xs) i in
    let e : xs ≡ (t.0 ++ w.0) ++ (k ∷ w.1) = t.1 ∙ ap (λ zs. t.0 ++ zs) w.2 ∙ sym (append_assoc t.0 w.0 (k ∷ w.1)) in
    let here : after k xs ≡ w.1 = ap (after k) e ∙ after_split k (t.0 ++ w.0) w.1 (subst Distinct e d) in
    let a = ap length here in
    let b = ap length w.2 ∙ length-append w.0 (k ∷ w.1) in
    omega (arith, a, b)

-- what is behind one is no more than all
pub behind_few : (n : ℕ) (xs : List ℕ) → length (after n xs) ≤ length xs
behind_few n xs = let t = tail_of n xs in let a = ap length t.1 ∙ length-append t.0 (after n xs) in omega (arith, a)

-- What stands in a membrane.
module _ (s : Heap) (sound : Sound s) (m : ℕ) (atoms ms : List ℕ) (r : IsContent s m atoms ms) where
  -- the membrane itself, or one in it
  abbrev pub Here : ℕ → Type 0
  Here n = (n ≡ m) ⊎ In n ms

  -- the same, told by the marks that nothing has
  pub as_left : (xs : List ℕ) × IsLeft s m [] xs ms
  as_left = (
    keep (λ a. own_mark s a == 0) (atoms_in s m) ++ atoms_of_all s ms,
    record {
      forest = r.forest;
      forms = r.forms;
      preorder = r.preorder;
      once = r.once;
      outside = r.outside;
      in_order = refl;
    },
  )

  -- the membranes in it, as a function of the heap
  pub found_is : AtMost (2 ^ 48) s → rest_found s m [] ≡ ms
  found_is few = let w = as_left in rest_is s sound few m [] w.0 ms w.1

  tops : Forms s r.forest (mems_in s m)
  tops = subst (Forms s r.forest) (keep_all (mems_in s m)) r.forms

  flat_once : Distinct (flat r.forest)
  flat_once = subst Distinct r.preorder r.once

  -- none of them stands twice
  pub all_once : Distinct (m ∷ ms)
  all_once = (each_of (λ z. m ≢ z) ms (λ z i e. r.outside (subst (λ x. In x ms) (sym e) i)), r.once)

  -- what is behind the membrane itself, and behind one in it
  pub after_top : after m (m ∷ ms) ≡ ms
  after_top = rw (eq-eqb m m refl) refl

  pub after_inner : (n : ℕ) → In n ms → after n (m ∷ ms) ≡ after n ms
  after_inner n i = rw (apart_test m n (λ e. r.outside (subst (λ x. In x ms) (sym e) i))) refl

  -- a membrane stands behind the one round it
  pub child_behind : (n k : ℕ) → Here n → In k (mems_in s n) → In k (after n (m ∷ ms))
  child_behind n k (inl e) i =
      subst (λ z. In k (after z (m ∷ ms))) (sym e) (subst (In k) (sym after_top) (subst (In k) (sym r.preorder) (list_inside s r.forest (mems_in s m) tops k (subst (λ z. In k (mems_in s z)) e i))))
  child_behind n k (inr p) i =
      let w = find_at r.forest n (subst (In n) r.preorder p) in
      let q = around s r.forest (keep (λ _. true) (mems_in s m)) n w.0 w.1 w.2 r.forms w.3 in
      let e : after n ms ≡ flat w.0 ++ (flat w.1 ++ w.2) = ap (after n) r.preorder ∙ after_at r.forest n w.0 w.1 w.2 flat_once w.3 in
      subst (In k) (sym (after_inner n p ∙ e)) (in_left k (flat w.0) (flat w.1 ++ w.2) (list_inside s w.0 (mems_in s n) q.inner k i))

  -- and it is one of these
  pub child_in : (n k : ℕ) → Here n → In k (mems_in s n) → In k ms
  child_in n k h i = by h (child_behind n k h i)
    where
      by : Here n → In k (after n (m ∷ ms)) → In k ms
      by (inl e) j = subst (In k) after_top (subst (λ z. In k (after z (m ∷ ms))) e j)
      by (inr p) j = let t = tail_of n ms in subst (In k) (sym t.1) (in_right k t.0 (after n ms) (subst (In k) (after_inner n p) j))

  -- and one stands round it
  pub round_of : (n : ℕ) → In n ms → (k : ℕ) × (parent_of s n ≡ Some k) × Here k
  round_of n p =
      let w = find_at r.forest n (subst (In n) r.preorder p) in
      let q = around s r.forest (keep (λ _. true) (mems_in s m)) n w.0 w.1 w.2 r.forms w.3 in
      elim q.case [
        | inl c ↦ (m, parent_is s sound.listed n m (keep_in (λ _. true) (mems_in s m) n (subst (In n) (sym c.1.1) (in_here n c.1.0 q.ls))), inl refl)
        | inr c ↦ (c.p, parent_is s sound.listed n c.p (subst (In n) (sym c.list) (in_here n c.before q.ls)), inr (inside c.p c.inner c.beside c.further c.at))
      ]
    where
      inside : (x : ℕ) (i b : Forest) (o : List ℕ) → At r.forest x i b o → In x ms
      inside x i b o a = let w = split_at r.forest x i b o a in subst (In x) (sym r.preorder) (subst (In x) (sym w.1) (in_here x w.0 (flat i ++ (flat b ++ o))))

  -- each of them is a membrane
  pub is_mem : IsMem s m → (n : ℕ) → Here n → IsMem s n
  is_mem h n (inl e) = subst (IsMem s) (sym e) h
  is_mem h n (inr p) = let w = round_of n p in mem_by s n (within w.0) (parent_place s n w.0 w.1)

  -- each atom in them is one of these
  pub atom_in : (n a : ℕ) → Here n → In a (atoms_in s n) → In a atoms
  atom_in n a (inl e) i =
      subst (In a) (sym r.in_order) (in_left a (keep (λ _. true) (atoms_in s m)) (atoms_of_all s ms) (subst (In a) (sym (keep_all (atoms_in s m))) (subst (λ z. In a (atoms_in s z)) e i)))
  atom_in n a (inr p) i = subst (In a) (sym r.in_order) (in_right a (keep (λ _. true) (atoms_in s m)) (atoms_of_all s ms) (in_all s ms n a p i))

  -- and each of these stands in one of them
  pub home_in : (a : ℕ) → In a atoms → (k : ℕ) × Here k × In a (atoms_in s k)
  home_in a i = elim (in_either a (keep (λ _. true) (atoms_in s m)) (atoms_of_all s ms) (subst (In a) r.in_order i)) [
    | inl j ↦ (m, inl refl, keep_in (λ _. true) (atoms_in s m) a j)
    | inr j ↦ (let w = all_in s ms a j in (w.0, inr w.1, w.2))
  ]

  -- what is closed and has the membranes in it has all
  pub all_under : (N : List ℕ) → ((k : ℕ) → In k (mems_in s m) → In k N) → ((n k : ℕ) → In n N → In k (mems_in s n) → In k N) → (n : ℕ) → In n ms → In n N
  all_under N first closed n i = under r.forest (mems_in s m) tops first n (subst (In n) r.preorder i)
    where
      under : (f : Forest) (ls : List ℕ) → Forms s f ls → ((x : ℕ) → In x ls → In x N) → (x : ℕ) → In x (flat f) → In x N
      under bare ls F c x i = absurd i
      under (mem k inner rest) ls F c x (inl e) = c x (subst (In x) (sym F.1) (inl e))
      under (mem k inner rest) ls F c x (inr j) = elim (in_either x (flat inner) (flat rest) j) [
        | inl p ↦ under inner (mems_in s k) F.2 (λ y q. closed k y (c k (subst (In k) (sym F.1) (inl refl))) q) x p
        | inr p ↦ under rest F.0 F.3 (λ y q. c y (subst (In y) (sym F.1) (inr q))) x p
      ]

-- Some atoms and membranes of a membrane are taken; a membrane is taken only when it is empty.
pub record Dropping (s h : Heap) (m : ℕ) (atoms ms : List ℕ) (at : ℕ) : Type 0 where
  pub gone_atoms : List ℕ
  pub gone_mems : List ℕ
  pub is : h ≡ dropped s gone_atoms gone_mems
  pub of_atoms : (a : ℕ) → In a gone_atoms → In a atoms
  pub of_mems : (n : ℕ) → In n gone_mems → In n ms
  pub no_atoms : (n a : ℕ) → In n gone_mems → In a (atoms_in s n) → In a gone_atoms
  pub no_mems : (n k : ℕ) → In n gone_mems → In k (mems_in s n) → In k gone_mems
  pub here : (at ≡ m) ⊎ In at ms
  pub stays : In at gone_mems → ⊥

-- the same where the atoms of the stand are taken
abbrev pub Emptied : Heap → Heap → ℕ → List ℕ → List ℕ → ℕ → Type 0
Emptied s h m atoms ms at = (d : Dropping s h m atoms ms at) × ((a : ℕ) → In a (atoms_in s at) → In a d.gone_atoms)

-- so much for each membrane of a list that isn't taken
abbrev pub held : ℕ → Option ℕ → ℕ → ℕ
held w None n = n
held w (Some k) n = w + n

abbrev pub weight : ℕ → Heap → List ℕ → ℕ
weight w h [] = 0
weight w h (n ∷ ns) = held w (parent_of h n) (weight w h ns)

-- how far the way still is
abbrev pub way_left : Heap → Heap → ℕ → ℕ → ℕ
way_left s h m at = weight (suc (length (rest_found s m []))) h (rest_found s m []) + length (after at (m ∷ rest_found s m []))

weight_same : (w : ℕ) (h k : Heap) (ns : List ℕ) → ((n : ℕ) → In n ns → parent_of h n ≡ parent_of k n) → weight w h ns ≡ weight w k ns
weight_same w h k [] e = refl
weight_same w h k (n ∷ ns) e = (λ i. held w (e n (inl refl) i) (weight_same w h k ns (λ x j. e x (inr j)) i))

weight_less : (w : ℕ) (h k : Heap) (n p : ℕ) (ns : List ℕ) → Distinct ns → In n ns → parent_of h n ≡ Some p → parent_of k n ≡ None → ((x : ℕ) → x ≢ n → parent_of h x ≡ parent_of k x) → weight w h ns ≡ w + weight w k ns
weight_less w h k n p [] d i e f g = absurd i
weight_less w h k n p (x ∷ xs) d (inl q) e f g =
    let a : parent_of h x ≡ Some p = ap (parent_of h) q ∙ e in
    let b : parent_of k x ≡ None = ap (parent_of k) q ∙ f in
    let c = weight_same w h k xs (λ y j. g y (λ z. each_in (λ u. x ≢ u) xs y d.0 j (q ∙ sym z))) in
    ap (λ o. held w o (weight w h xs)) a ∙ ap (λ z. w + z) c ∙ ap (λ o. w + held w o (weight w k xs)) (sym b)
weight_less w h k n p (x ∷ xs) d (inr j) e f g =
    let a = g x (λ q. each_in (λ u. x ≢ u) xs n d.0 j q) in
    ap (λ o. held w o (weight w h xs)) a ∙ ap (held w (parent_of k x)) (weight_less w h k n p xs d.1 j e f g) ∙ by (parent_of k x) (weight w k xs)
  where
    by : (o : Option ℕ) (z : ℕ) → held w o (w + z) ≡ w + held w o z
    by None z = refl
    by (Some q) z = omega arith

-- On the way.
module _ (s : Heap) (sound : Sound s) (few : AtMost (2 ^ 48) s) (m : ℕ) (there : IsMem s m) (atoms ms : List ℕ) (r : IsContent s m atoms ms) where
  -- nothing is taken at first
  pub starts : Dropping s s m atoms ms m
  starts = record {
    gone_atoms = [];
    gone_mems = [];
    is = sym (dropped_none s);
    of_atoms = λ a i. absurd i;
    of_mems = λ a i. absurd i;
    no_atoms = λ n a i. absurd i;
    no_mems = λ n a i. absurd i;
    here = inl refl;
    stays = λ i. i;
  }

  -- the stand is there, and so is the membrane itself
  pub stands : (h : Heap) (at : ℕ) → Dropping s h m atoms ms at → IsMem h at
  stands h at d = subst (λ z. IsMem z at) (sym d.is) (still_mem s sound.listed d.gone_atoms d.gone_mems at (is_mem s sound m atoms ms r there at d.here))

  pub stands_outer : (h : Heap) (at : ℕ) → Dropping s h m atoms ms at → IsMem h m
  stands_outer h at d = subst (λ z. IsMem z m) (sym d.is) (still_mem s sound.listed d.gone_atoms d.gone_mems m there)

  -- the atoms of the stand are taken
  pub empties : (h k : Heap) (at : ℕ) → Dropping s h m atoms ms at → k ≡ taken_all h (atoms_in h at) → Emptied s k m atoms ms at
  empties h k at d e =
      let D = d.gone_atoms in
      let N = d.gone_mems in
      let xs = but D (atoms_in s at) in (
        record {
          gone_atoms = onto xs D;
          gone_mems = N;
          is = e ∙ ap (λ z. taken_all z (atoms_in z at)) d.is ∙ ap (taken_all (dropped s D N)) (atoms_left s sound.listed D N at)
              ∙ all_dropped s sound.listed D N xs (keep_distinct (λ x. not (is_in D x)) (atoms_in s at) (sound.listed.atoms_once at))
              (λ a i. (but_out D (atoms_in s at) a i, (at, place_home s a at ((sound.listed.atoms at a).0 (keep_in (λ x. not (is_in D x)) (atoms_in s at) a i)))));
          of_atoms = λ a i. elim (onto_either xs D a i) [
            | inl j ↦ atom_in s sound m atoms ms r at a d.here (keep_in (λ x. not (is_in D x)) (atoms_in s at) a j)
            | inr j ↦ d.of_atoms a j
          ];
          of_mems = d.of_mems;
          no_atoms = λ n a i j. onto_second xs D a (d.no_atoms n a i j);
          no_mems = d.no_mems;
          here = d.here;
          stays = d.stays;
        },
        λ a i. elim (decide_in a D) [
          | inl j ↦ onto_second xs D a j
          | inr o ↦ onto_first xs D a (but_in D (atoms_in s at) a i o)
        ],
      )

  -- and then the stand is there still
  pub stands_emptied : (h k : Heap) (at : ℕ) → Dropping s h m atoms ms at → k ≡ taken_all h (atoms_in h at) → IsMem k at
  stands_emptied h k at d e = let w = empties h k at d e in stands k at w.0

  -- a step in
  pub goes_in : (h : Heap) (at n : ℕ) → Dropping s h m atoms ms at → from (Some n) (mems_in h at) ≡ mems_in h at → Dropping s h m atoms ms n
  goes_in h at n d e =
      let i : In n (but d.gone_mems (mems_in s at)) = subst (In n) (ap (λ z. mems_in z at) d.is ∙ mems_left s sound.listed d.gone_atoms d.gone_mems at) (subst (In n) e (inl refl)) in
      record {
        gone_atoms = d.gone_atoms;
        gone_mems = d.gone_mems;
        is = d.is;
        of_atoms = d.of_atoms;
        of_mems = d.of_mems;
        no_atoms = d.no_atoms;
        no_mems = d.no_mems;
        here = inr (child_in s sound m atoms ms r at n d.here (keep_in (λ x. not (is_in d.gone_mems x)) (mems_in s at) n i));
        stays = but_out d.gone_mems (mems_in s at) n i;
      }

  empty_here : (h : Heap) (at : ℕ) (d : Dropping s h m atoms ms at) → from None (mems_in h at) ≡ mems_in h at → (k : ℕ) → In k (mems_in s at) → In k d.gone_mems
  empty_here h at d e = but_nothing d.gone_mems (mems_in s at) (sym (ap (λ z. mems_in z at) d.is ∙ mems_left s sound.listed d.gone_atoms d.gone_mems at) ∙ sym e)

  in_place : (h : Heap) (at p : ℕ) (d : Dropping s h m atoms ms at) → parent_of h at ≡ Some p → parent_of s at ≡ Some p
  in_place h at p d e = sym (parent_left s sound.listed d.gone_atoms d.gone_mems at d.stays) ∙ ap (λ z. parent_of z at) (sym d.is) ∙ e

  inner_one : (at : ℕ) → at ≢ m → (at ≡ m) ⊎ In at ms → In at ms
  inner_one at d (inl e) = absurd (d e)
  inner_one at d (inr i) = i

  -- a step out
  pub goes_out : (h k : Heap) (at p : ℕ) → Emptied s h m atoms ms at → at ≢ m → from None (mems_in h at) ≡ mems_in h at → parent_of h at ≡ Some p → k ≡ taken_mem h at → Dropping s k m atoms ms p
  goes_out h k at p w apart e f t =
      let d = w.0 in
      let D = d.gone_atoms in
      let N = d.gone_mems in
      let up = in_place h at p d f in
      let inside : In at ms = inner_one at apart d.here in
      let round = round_of s sound m atoms ms r at inside in
      let same : round.0 ≡ p = (let q : Some round.0 ≡ Some p = sym round.1 ∙ up in cc) in
      let child : In at (mems_in s p) = (sound.listed.mems p at).1 (parent_place s at p up) in
      record {
        gone_atoms = D;
        gone_mems = at ∷ N;
        is = t ∙ ap (λ z. taken_mem z at) d.is ∙ mem_taken_dropped s sound.listed D N at p d.stays up;
        of_atoms = d.of_atoms;
        of_mems = λ n i. elim i [ inl q ↦ subst (λ z. In z ms) q inside | inr j ↦ d.of_mems n j ];
        no_atoms = λ n a i j. elim i [ inl q ↦ w.1 a (subst (λ z. In a (atoms_in s z)) (sym q) j) | inr o ↦ d.no_atoms n a o j ];
        no_mems = λ n x i j. inr (elim i [ inl q ↦ empty_here h at d e x (subst (λ z. In x (mems_in s z)) (sym q) j) | inr o ↦ d.no_mems n x o j ]);
        here = subst (λ z. (z ≡ m) ⊎ In z ms) same round.2;
        stays = λ i. elim i [
          | inl q ↦ no_loop at inside (subst (λ z. In at (mems_in s z)) (sym q) child)
          | inr j ↦ d.stays (d.no_mems p at j child)
        ];
      }
    where
      no_loop : (n : ℕ) → In n ms → In n (mems_in s n) → ⊥
      no_loop n i j = let l = less_behind n n (m ∷ ms) (all_once s sound m atoms ms r) (child_behind s sound m atoms ms r n n (inr i) j) in omega (arith, l)

  -- there is a membrane round the stand
  pub not_out : (h : Heap) (at : ℕ) → Dropping s h m atoms ms at → at ≢ m → parent_of h at ≡ None → ⊥
  not_out h at d apart e =
      let round = round_of s sound m atoms ms r at (inner_one at apart d.here) in
      let up : parent_of h at ≡ Some round.0 = ap (λ z. parent_of z at) d.is ∙ parent_left s sound.listed d.gone_atoms d.gone_mems at d.stays ∙ round.1 in
      let q : Some round.0 ≡ None = sym up ∙ e in
      cc

  -- at the end all is taken
  pub all_gone : (h : Heap) → Emptied s h m atoms ms m → from None (mems_in h m) ≡ mems_in h m → h ≡ rest_taken s atoms ms
  all_gone h w e =
      let d = w.0 in
      let all : (n : ℕ) → In n ms → In n d.gone_mems = all_under s sound m atoms ms r d.gone_mems (empty_here h m d e) d.no_mems in
      let atom : (a : ℕ) → In a atoms → In a d.gone_atoms = λ a i. (let v = home_in s sound m atoms ms r a i in elim v.1 [
        | inl q ↦ w.1 a (subst (λ z. In a (atoms_in s z)) q v.2)
        | inr j ↦ d.no_atoms v.0 a (all v.0 j) v.2
      ]) in
      d.is
      ∙ same_dropped s d.gone_atoms (onto atoms []) d.gone_mems (onto ms []) (λ a i. onto_first atoms [] a (d.of_atoms a i)) (λ a i. elim (onto_either atoms [] a i) [ inl j ↦ atom a j | inr j ↦ absurd j ])
      (λ n i. onto_first ms [] n (d.of_mems n i)) (λ n i. elim (onto_either ms [] n i) [ inl j ↦ all n j | inr j ↦ absurd j ])
      ∙ sym (rest_dropped s sound.listed atoms ms (atoms_once s sound m (λ _. true) (λ _. true) atoms ms r)
      (λ a i. let v = home_in s sound m atoms ms r a i in (v.0, place_home s a v.0 ((sound.listed.atoms v.0 a).0 v.2)))
      r.once (λ n i. let v = round_of s sound m atoms ms r n i in (v.0, v.1)))

  found : rest_found s m [] ≡ ms
  found = found_is s sound m atoms ms r few

  parents_kept : (h k : Heap) (D D' N : List ℕ) → h ≡ dropped s D N → k ≡ dropped s D' N → (x : ℕ) → parent_of h x ≡ parent_of k x
  parents_kept h k D D' N e f x = ap (λ z. parent_of z x) e ∙ by (decide_in x N) ∙ ap (λ z. parent_of z x) (sym f)
    where
      by : (In x N) ⊎ (In x N → ⊥) → parent_of (dropped s D N) x ≡ parent_of (dropped s D' N) x
      by (inl i) = parent_gone s sound.listed D N x i ∙ sym (parent_gone s sound.listed D' N x i)
      by (inr o) = parent_left s sound.listed D N x o ∙ sym (parent_left s sound.listed D' N x o)

  parents_more : (D N : List ℕ) (n x : ℕ) → x ≢ n → parent_of (dropped s D N) x ≡ parent_of (dropped s D (n ∷ N)) x
  parents_more D N n x d = by (decide_in x N)
    where
      by : (In x N) ⊎ (In x N → ⊥) → parent_of (dropped s D N) x ≡ parent_of (dropped s D (n ∷ N)) x
      by (inl i) = parent_gone s sound.listed D N x i ∙ sym (parent_gone s sound.listed D (n ∷ N) x (inr i))
      by (inr o) = parent_left s sound.listed D N x o ∙ sym (parent_left s sound.listed D (n ∷ N) x (λ i. elim i [ inl q ↦ d (sym q) | inr j ↦ o j ]))

  -- less is left behind a step in
  pub less_in : (h k : Heap) (at n : ℕ) → Dropping s h m atoms ms at → k ≡ taken_all h (atoms_in h at) → from (Some n) (mems_in k at) ≡ mems_in k at → way_left s k m n < way_left s h m at
  unfolding empties
  less_in h k at n d t e =
      let w = empties h k at d t in
      let D' = w.0.gone_atoms in
      let i : In n (but d.gone_mems (mems_in s at)) = subst (In n) (ap (λ z. mems_in z at) w.0.is ∙ mems_left s sound.listed D' d.gone_mems at) (subst (In n) e (inl refl)) in
      let j = child_behind s sound m atoms ms r at n d.here (keep_in (λ x. not (is_in d.gone_mems x)) (mems_in s at) n i) in
      let less = less_behind at n (m ∷ ms) (all_once s sound m atoms ms r) j in
      let same = weight_same (suc (length ms)) h k ms (λ x p. parents_kept h k d.gone_atoms D' d.gone_mems d.is w.0.is x) in
      subst (λ zs. weight (suc (length zs)) k zs + length (after n (m ∷ zs)) < weight (suc (length zs)) h zs + length (after at (m ∷ zs))) (sym found) (omega (arith, less, same))

  -- and behind a step out
  pub less_out : (h k l : Heap) (at p : ℕ) → Dropping s h m atoms ms at → k ≡ taken_all h (atoms_in h at) → at ≢ m → parent_of k at ≡ Some p → l ≡ taken_mem k at → way_left s l m p < way_left s h m at
  unfolding empties
  less_out h k l at p d t apart f u =
      let w = empties h k at d t in
      let D' = w.0.gone_atoms in
      let N = d.gone_mems in
      let up = in_place k at p w.0 f in
      let inside : In at ms = inner_one at apart d.here in
      let is : l ≡ dropped s D' (at ∷ N) = u ∙ ap (λ z. taken_mem z at) w.0.is ∙ mem_taken_dropped s sound.listed D' N at p d.stays up in
      let same = weight_same (suc (length ms)) h k ms (λ x i. parents_kept h k d.gone_atoms D' N d.is w.0.is x) in
      let none : parent_of l at ≡ None = ap (λ z. parent_of z at) is ∙ parent_gone s sound.listed D' (at ∷ N) at (inl refl) in
      let more = weight_less (suc (length ms)) k l at p ms r.once inside f none (λ x q. ap (λ z. parent_of z x) w.0.is ∙ parents_more D' N at x q ∙ ap (λ z. parent_of z x) (sym is)) in
      subst (λ zs. weight (suc (length zs)) l zs + length (after p (m ∷ zs)) < weight (suc (length zs)) h zs + length (after at (m ∷ zs))) (sym found) (step (weight (suc (length ms)) l ms) (length ms) _ _ _ _ same more (short p) refl)
    where
      short : (p : ℕ) → length (after p (m ∷ ms)) ≤ length ms
      short p = by (m == p)
        where
          by : (t : Bool) → length (if t then ms else after p ms) ≤ length ms
          by true = omega arith
          by false = behind_few p ms

      step : (x n a b wh wk : ℕ) → wh ≡ wk → wk ≡ suc n + x → a ≤ n → b ≡ b → x + a < wh + b
      step x n a b wh wk e f g _ = omega (arith, e, f, g)
