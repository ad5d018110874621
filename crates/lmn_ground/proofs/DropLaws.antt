-- All that is in a membrane is taken, in any order.
use Rattle.std.proofs.Common.{◌≡◌, ◌≢◌, ◌⊎◌, ℕ, ◌==◌, not, List, [], ◌∷◌, true, false, Bool, Option, Some, None, IsSome, refl, sym, ap, subst, ◌∙◌, inl, inr, if◌then◌else◌}
use Rattle.std.proofs.lemmas.Bool.{cases_eq, eq-eqb}
use Rattle.std.specs.Option.{option_map, option_and_then}
use Rattle.std.specs.Prelude.{IfSome}
use Rattle.lmn_store_heap.specs.Heap.{Heap, HeapAtom, HeapMem, gone, home_by, alter, with_place, mem_with_place, mem_with_atoms, mem_with_mems, without, after, from, Distinct, IsMem, home_of, parent_of, atoms_in, mems_in, atoms_by, mems_by, taken, taken_all, taken_mem, atom_out, mem_out}
use Rattle.lmn_store_heap.specs.Sound.{Listed}
use Rattle.lmn_store_heap.proofs.Common.{decide_in, from_here}
use Rattle.lmn_store_heap.proofs.Listing.{alter_at, home_is, without_first}
use Rattle.lmn_store_heap.proofs.Heights.{parent_place}
use Rattle.lmn_store_heap.proofs.ListLemmas.{each_in}
use Rattle.lmn_base.specs.Lists.{In}
use Rattle.lmn_base.proofs.Numbers.{not_equal as apart_test}
use Rattle.lmn_ground_parts.specs.Walks.{is_in}
use Rattle.lmn_ground_parts.specs.Rests.{keep, all_mems_taken, rest_taken}
use Rattle.lmn_ground_parts.proofs.AnswerLaws.{is_in_true}
use Rattle.lmn_ground.proofs.PaintLaws.{in_is}
use Rattle.lmn_ground.proofs.TakeLaws.{home_away}
use Rattle.lmn_ground.proofs.RestLaws.{keep_in}
use Rattle.lmn_store_heap.proofs.Groves.{without_absent as without_out}

-- what is not among these
abbrev pub but : List ℕ → List ℕ → List ℕ
but gone_ones xs = keep (λ x. not (is_in gone_ones x)) xs

-- a membrane from whose lists these atoms and membranes are taken, and which may be taken itself
abbrev pub mem_dropped : List ℕ → List ℕ → Bool → HeapMem → HeapMem
mem_dropped D N t x = record x { atoms = but D x.atoms; mems = but N x.mems; place = if t then gone else x.place }

-- these atoms and membranes are taken, whatever the order
abbrev pub dropped : Heap → List ℕ → List ℕ → Heap
dropped s D N = record s {
  atoms = λ a. if is_in D a then option_map (with_place gone) (s.atoms a) else s.atoms a;
  mems = λ n. option_map (mem_dropped D N (is_in N n)) (s.mems n);
}

-- what isn't in a list is told by the test
pub is_out : (a : ℕ) (xs : List ℕ) → (In a xs → ⊥) → is_in xs a ≡ false
is_out a xs d = by (is_in xs a) refl
  where
    by : (t : Bool) → is_in xs a ≡ t → t ≡ false
    by true e = absurd (d (in_is a xs e))
    by false e = refl

-- and the other way
pub out_is : (a : ℕ) (xs : List ℕ) → is_in xs a ≡ false → In a xs → ⊥
out_is a xs e i = let f = is_in_true a xs i in (cc)

-- what is left is not among these
pub but_out : (D xs : List ℕ) (a : ℕ) → In a (but D xs) → In a D → ⊥
but_out D [] a i j = i
but_out D (x ∷ xs) a i j = by (is_in D x) refl (λ k. but_out D xs a k j) i
  where
    by : (t : Bool) → is_in D x ≡ t → (In a (but D xs) → ⊥) → In a (if not t then x ∷ but D xs else but D xs) → ⊥
    by true e k q = k q
    by false e k (inl q) = out_is a D (ap (is_in D) (sym q) ∙ e) j
    by false e k (inr q) = k q

-- what is not among these is left
pub but_in : (D xs : List ℕ) (a : ℕ) → In a xs → (In a D → ⊥) → In a (but D xs)
but_in D [] a i d = i
but_in D (x ∷ xs) a i d = by (is_in D x) refl (λ k. but_in D xs a k d) i
  where
    by : (t : Bool) → is_in D x ≡ t → (In a xs → In a (but D xs)) → In a (x ∷ xs) → In a (if not t then x ∷ but D xs else but D xs)
    by true e k (inl q) = absurd (d (subst (λ z. In z D) q (in_is x D e)))
    by true e k (inr q) = k q
    by false e k (inl q) = inl q
    by false e k (inr q) = inr (k q)

-- where nothing is left all are among these
pub but_nothing : (D xs : List ℕ) → but D xs ≡ [] → (a : ℕ) → In a xs → In a D
but_nothing D xs e a i = elim (decide_in a D) [
  | inl j ↦ j
  | inr d ↦ absurd (subst (In a) e (but_in D xs a i d))
]

-- one more is taken, which isn't there
pub but_away : (D xs : List ℕ) (a : ℕ) → (In a xs → ⊥) → but (a ∷ D) xs ≡ but D xs
but_away D [] a d = refl
but_away D (x ∷ xs) a d =
    let e : (a == x) ≡ false = apart_test a x (λ q. d (inl (sym q))) in
    rw e (by (is_in D x) (but_away D xs a (λ i. d (inr i))))
  where
    by : (t : Bool) → but (a ∷ D) xs ≡ but D xs → (if not t then x ∷ but (a ∷ D) xs else but (a ∷ D) xs) ≡ (if not t then x ∷ but D xs else but D xs)
    by true r = r
    by false r = ap (λ zs. x ∷ zs) r

-- one more is taken
pub but_more : (D xs : List ℕ) (a : ℕ) → Distinct xs → but (a ∷ D) xs ≡ without a (but D xs)
but_more D [] a d = refl
but_more D (x ∷ xs) a d = elim (cases_eq a x) [
  | inl e ↦ (let out : In a xs → ⊥ = λ i. each_in (λ z. x ≢ z) xs a d.0 i (sym e) in
      let t : (a == x) ≡ true = eq-eqb a x e in
      let u : (x == a) ≡ true = eq-eqb x a (sym e) in
      rw t (here (is_in D x) u out (but_away D xs a out)))
  | inr f ↦ (let t : (a == x) ≡ false = apart_test a x f in
      let u : (x == a) ≡ false = apart_test x a (λ q. f (sym q)) in
      rw t (there (is_in D x) u (but_more D xs a d.1)))
]
  where
    here : (t : Bool) → (x == a) ≡ true → (In a xs → ⊥) → but (a ∷ D) xs ≡ but D xs → but (a ∷ D) xs ≡ without a (if not t then x ∷ but D xs else but D xs)
    here true u out r = r ∙ sym (without_out a (but D xs) (λ i. out (keep_in (λ z. not (is_in D z)) xs a i)))
    here false u out r = rw u r

    there : (t : Bool) → (x == a) ≡ false → but (a ∷ D) xs ≡ without a (but D xs)
        → (if not t then x ∷ but (a ∷ D) xs else but (a ∷ D) xs) ≡ without a (if not t then x ∷ but D xs else but D xs)
    there true u r = r
    there false u r = rw u (ap (λ zs. x ∷ zs) r)

-- where nothing is taken all is left
pub but_none : (xs : List ℕ) → but [] xs ≡ xs
but_none [] = refl
but_none (x ∷ xs) = ap (λ zs. x ∷ zs) (but_none xs)

-- the heap in which nothing is taken
pub dropped_none : (s : Heap) → dropped s [] [] ≡ s
dropped_none s = λ i. record s { mems = λ n. (at (s.mems n)) i }
  where
    at : (o : Option HeapMem) → option_map (mem_dropped [] [] false) o ≡ o
    at None = refl
    at (Some x) = λ i. Some (record x { atoms = but_none x.atoms i; mems = but_none x.mems i })

-- the same atoms and membranes are taken
pub same_dropped : (s : Heap) (D D' N N' : List ℕ) → ((a : ℕ) → In a D → In a D') → ((a : ℕ) → In a D' → In a D) → ((n : ℕ) → In n N → In n N') → ((n : ℕ) → In n N' → In n N) → dropped s D N ≡ dropped s D' N'
same_dropped s D D' N N' f g h k =
    let d : is_in D ≡ is_in D' = λ i a. same_test a D D' (f a) (g a) i in
    let n : is_in N ≡ is_in N' = λ i a. same_test a N N' (h a) (k a) i in
    λ i. record s {
      atoms = λ a. if d i a then option_map (with_place gone) (s.atoms a) else s.atoms a;
      mems = λ m. option_map {T = HeapMem} (λ x. record x { atoms = keep (λ a. not (d i a)) x.atoms; mems = keep (λ z. not (n i z)) x.mems; place = if n i m then gone else x.place }) (s.mems m);
    }
  where
    same_test : (a : ℕ) (xs ys : List ℕ) → (In a xs → In a ys) → (In a ys → In a xs) → is_in xs a ≡ is_in ys a
    same_test a xs ys f g = elim (decide_in a xs) [
      | inl i ↦ is_in_true a xs i ∙ sym (is_in_true a ys (f i))
      | inr d ↦ is_out a xs d ∙ sym (is_out a ys (λ i. d (g i)))
    ]

-- One more is taken.
module _ (s : Heap) (listed : Listed s) (D N : List ℕ) where
  -- what the heap says of an atom and a membrane that aren't taken
  pub home_left : (a : ℕ) → (In a D → ⊥) → home_of (dropped s D N) a ≡ home_of s a
  home_left a d = ap (λ t. option_and_then (λ (x : HeapAtom). home_by x.place) (if t then option_map (with_place gone) (s.atoms a) else s.atoms a)) (is_out a D d)

  -- the same of a membrane
  pub parent_left : (n : ℕ) → (In n N → ⊥) → parent_of (dropped s D N) n ≡ parent_of s n
  parent_left n d = ap (λ t. option_and_then (λ (x : HeapMem). home_by x.place) (option_map (mem_dropped D N t) (s.mems n))) (is_out n N d) ∙ by (s.mems n)
    where
      by : (o : Option HeapMem) → option_and_then (λ (x : HeapMem). home_by x.place) (option_map (mem_dropped D N false) o) ≡ option_and_then (λ (x : HeapMem). home_by x.place) o
      by None = refl
      by (Some x) = refl

  -- one that is taken has none round it
  pub parent_gone : (n : ℕ) → In n N → parent_of (dropped s D N) n ≡ None
  parent_gone n i = ap (λ t. option_and_then (λ (x : HeapMem). home_by x.place) (option_map (mem_dropped D N t) (s.mems n))) (is_in_true n N i) ∙ by (s.mems n)
    where
      by : (o : Option HeapMem) → option_and_then (λ (x : HeapMem). home_by x.place) (option_map (mem_dropped D N true) o) ≡ None
      by None = refl
      by (Some x) = refl

  -- the lists of a membrane
  pub atoms_left : (m : ℕ) → atoms_in (dropped s D N) m ≡ but D (atoms_in s m)
  atoms_left m = by (is_in N m) (s.mems m)
    where
      by : (t : Bool) (o : Option HeapMem) → atoms_by (option_map (mem_dropped D N t) o) ≡ but D (atoms_by o)
      by t None = refl
      by t (Some x) = refl

  pub mems_left : (m : ℕ) → mems_in (dropped s D N) m ≡ but N (mems_in s m)
  mems_left m = by (is_in N m) (s.mems m)
    where
      by : (t : Bool) (o : Option HeapMem) → mems_by (option_map (mem_dropped D N t) o) ≡ but N (mems_by o)
      by t None = refl
      by t (Some x) = refl

  -- no membrane is freed
  pub still_mem : (m : ℕ) → IsMem s m → IsMem (dropped s D N) m
  still_mem m h = by (is_in N m) (s.mems m) h
    where
      by : (t : Bool) (o : Option HeapMem) → IsSome o → IsSome (option_map (mem_dropped D N t) o)
      by t None h = h
      by t (Some x) h = refl

  -- an atom is taken
  pub taken_dropped : (a k : ℕ) → (In a D → ⊥) → home_of s a ≡ Some k → taken (dropped s D N) a ≡ dropped s (a ∷ D) N
  taken_dropped a k d e =
      ap (λ (h : Option ℕ). record (dropped s D N) { atoms = alter (dropped s D N).atoms a (option_map (with_place gone)); mems = atom_out (dropped s D N).mems h a }) (home_left a d ∙ e)
      ∙ (λ i. record s { atoms = λ j. (atom_at j) i; mems = λ j. (mem_at j) i })
    where
      twice : (t : Bool) (o : Option HeapAtom) → option_map (with_place gone) (if t then option_map (with_place gone) o else o) ≡ option_map (with_place gone) o
      twice true None = refl
      twice true (Some x) = refl
      twice false o = refl

      atom_at : (j : ℕ) → alter (dropped s D N).atoms a (option_map (with_place gone)) j ≡ (dropped s (a ∷ D) N).atoms j
      atom_at j = elim (cases_eq j a) [
        | inl q ↦ (let t : (j == a) ≡ true = eq-eqb j a q in
            let u : (a == j) ≡ true = eq-eqb a j (sym q) in
            rw (t, u) (twice (is_in D j) (s.atoms j)))
        | inr f ↦ (let t : (j == a) ≡ false = apart_test j a f in
            let u : (a == j) ≡ false = apart_test a j (λ q. f (sym q)) in
            rw (t, u) refl)
      ]

      lists : (j : ℕ) → Distinct (atoms_in s j) × ((In a (atoms_in s j)) → j ≡ k)
      lists j = (listed.atoms_once j, λ i. let p = home_is s a k e in let q = (listed.atoms j a).0 i in cc)

      mem_at : (j : ℕ) → alter (dropped s D N).mems k (option_map (mem_with_atoms (without a))) j ≡ (dropped s (a ∷ D) N).mems j
      mem_at j = elim (cases_eq j k) [
        | inl q ↦ (let t : (j == k) ≡ true = eq-eqb j k q in rw t (here (is_in N j) (s.mems j) (lists j).0))
        | inr f ↦ (let t : (j == k) ≡ false = apart_test j k f in rw t (there (is_in N j) (s.mems j) (λ i. f ((lists j).1 i))))
      ]
        where
          here : (t : Bool) (o : Option HeapMem) → Distinct (atoms_by o) → option_map (mem_with_atoms (without a)) (option_map (mem_dropped D N t) o) ≡ option_map (mem_dropped (a ∷ D) N t) o
          here t None h = refl
          here t (Some x) h = λ i. Some (record x { atoms = (sym (but_more D x.atoms a h)) i; mems = but N x.mems; place = if t then gone else x.place })

          there : (t : Bool) (o : Option HeapMem) → (In a (atoms_by o) → ⊥) → option_map (mem_dropped D N t) o ≡ option_map (mem_dropped (a ∷ D) N t) o
          there t None h = refl
          there t (Some x) h = λ i. Some (record x { atoms = (sym (but_away D x.atoms a h)) i; mems = but N x.mems; place = if t then gone else x.place })

  -- a membrane is taken
  pub mem_taken_dropped : (n k : ℕ) → (In n N → ⊥) → parent_of s n ≡ Some k → taken_mem (dropped s D N) n ≡ dropped s D (n ∷ N)
  mem_taken_dropped n k d e =
      ap (λ (h : Option ℕ). record (dropped s D N) { mems = alter (mem_out (dropped s D N).mems h n) n (option_map (mem_with_place gone)) }) (parent_left n d ∙ e)
      ∙ (λ i. record (dropped s D N) { mems = λ j. (mem_at j) i })
    where
      lists : (j : ℕ) → Distinct (mems_in s j) × ((In n (mems_in s j)) → j ≡ k)
      lists j = (listed.mems_once j, λ i. let p = parent_place s n k e in let q = (listed.mems j n).0 i in cc)

      out : (j : ℕ) → mem_out (dropped s D N).mems (Some k) n j ≡ option_map (mem_dropped D (n ∷ N) (is_in N j)) (s.mems j)
      out j = elim (cases_eq j k) [
        | inl q ↦ (let t : (j == k) ≡ true = eq-eqb j k q in rw t (here (is_in N j) (s.mems j) (lists j).0))
        | inr f ↦ (let t : (j == k) ≡ false = apart_test j k f in rw t (there (is_in N j) (s.mems j) (λ i. f ((lists j).1 i))))
      ]
        where
          here : (t : Bool) (o : Option HeapMem) → Distinct (mems_by o) → option_map (mem_with_mems (without n)) (option_map (mem_dropped D N t) o) ≡ option_map (mem_dropped D (n ∷ N) t) o
          here t None h = refl
          here t (Some x) h = λ i. Some (record x { atoms = but D x.atoms; mems = (sym (but_more N x.mems n h)) i; place = if t then gone else x.place })

          there : (t : Bool) (o : Option HeapMem) → (In n (mems_by o) → ⊥) → option_map (mem_dropped D N t) o ≡ option_map (mem_dropped D (n ∷ N) t) o
          there t None h = refl
          there t (Some x) h = λ i. Some (record x { atoms = but D x.atoms; mems = (sym (but_away N x.mems n h)) i; place = if t then gone else x.place })

      mem_at : (j : ℕ) → alter (mem_out (dropped s D N).mems (Some k) n) n (option_map (mem_with_place gone)) j ≡ (dropped s D (n ∷ N)).mems j
      mem_at j = elim (cases_eq j n) [
        | inl q ↦ (let t : (j == n) ≡ true = eq-eqb j n q in
            let u : (n == j) ≡ true = eq-eqb n j (sym q) in
            rw t (rw u (ap (option_map (mem_with_place gone)) (out j) ∙ twice (is_in N j) (s.mems j))))
        | inr f ↦ (let t : (j == n) ≡ false = apart_test j n f in
            let u : (n == j) ≡ false = apart_test n j (λ q. f (sym q)) in
            rw t (rw u (out j)))
      ]
        where
          twice : (t : Bool) (o : Option HeapMem) → option_map (mem_with_place gone) (option_map (mem_dropped D (n ∷ N) t) o) ≡ option_map (mem_dropped D (n ∷ N) true) o
          twice t None = refl
          twice t (Some x) = refl

-- a list before another one, the last first
abbrev pub onto : List ℕ → List ℕ → List ℕ
onto [] D = D
onto (x ∷ xs) D = onto xs (x ∷ D)

-- what is in one of the two is in both, and the other way
pub onto_second : (xs D : List ℕ) (a : ℕ) → In a D → In a (onto xs D)
onto_second [] D a i = i
onto_second (x ∷ xs) D a i = onto_second xs (x ∷ D) a (inr i)

pub onto_first : (xs D : List ℕ) (a : ℕ) → In a xs → In a (onto xs D)
onto_first [] D a i = absurd i
onto_first (x ∷ xs) D a (inl e) = onto_second xs (x ∷ D) a (inl e)
onto_first (x ∷ xs) D a (inr i) = onto_first xs (x ∷ D) a i

pub onto_either : (xs D : List ℕ) (a : ℕ) → In a (onto xs D) → In a xs ⊎ In a D
onto_either [] D a i = inr i
onto_either (x ∷ xs) D a i = elim (onto_either xs (x ∷ D) a i) [
  | inl j ↦ inl (inr j)
  | inr j ↦ (elim j [ inl e ↦ inl (inl e) | inr k ↦ inr k ])
]

-- atoms that stand in lists are taken, one after the other
pub all_dropped : (s : Heap) (listed : Listed s) (D N xs : List ℕ) → Distinct xs → ((a : ℕ) → In a xs → (In a D → ⊥) × ((k : ℕ) × (home_of s a ≡ Some k))) → taken_all (dropped s D N) xs ≡ dropped s (onto xs D) N
all_dropped s listed D N [] d f = refl
all_dropped s listed D N (x ∷ xs) d f =
    let w = f x (inl refl) in
    ap (λ h. taken_all h xs) (taken_dropped s listed D N x w.1.0 w.0 w.1.1)
    ∙ all_dropped s listed (x ∷ D) N xs d.1 (λ a i. let v = f a (inr i) in (no_more a i v.0, v.1))
  where
    no_more : (a : ℕ) → In a xs → (In a D → ⊥) → In a (x ∷ D) → ⊥
    no_more a i o (inl e) = each_in (λ z. x ≢ z) xs a d.0 i e
    no_more a i o (inr j) = o j

-- and membranes
pub mems_dropped : (s : Heap) (listed : Listed s) (D N xs : List ℕ) → Distinct xs → ((n : ℕ) → In n xs → (In n N → ⊥) × ((k : ℕ) × (parent_of s n ≡ Some k))) → all_mems_taken (dropped s D N) xs ≡ dropped s D (onto xs N)
mems_dropped s listed D N [] d f = refl
mems_dropped s listed D N (x ∷ xs) d f =
    let w = f x (inl refl) in
    ap (λ h. all_mems_taken h xs) (mem_taken_dropped s listed D N x w.1.0 w.0 w.1.1)
    ∙ mems_dropped s listed D (x ∷ N) xs d.1 (λ a i. let v = f a (inr i) in (no_more a i v.0, v.1))
  where
    no_more : (a : ℕ) → In a xs → (In a N → ⊥) → In a (x ∷ N) → ⊥
    no_more a i o (inl e) = each_in (λ z. x ≢ z) xs a d.0 i e
    no_more a i o (inr j) = o j

-- a rest is taken, told without an order
pub rest_dropped : (s : Heap) (listed : Listed s) (atoms ms : List ℕ) → Distinct atoms → ((a : ℕ) → In a atoms → (k : ℕ) × (home_of s a ≡ Some k)) → Distinct ms → ((n : ℕ) → In n ms → (k : ℕ) × (parent_of s n ≡ Some k))
    → rest_taken s atoms ms ≡ dropped s (onto atoms []) (onto ms [])
rest_dropped s listed atoms ms d f e g =
    ap (λ h. all_mems_taken (taken_all h atoms) ms) (sym (dropped_none s))
    ∙ ap (λ h. all_mems_taken h ms) (all_dropped s listed [] [] atoms d (λ a i. (λ j. j, f a i)))
    ∙ mems_dropped s listed (onto atoms []) [] ms e (λ n i. (λ j. j, g n i))

-- Atoms are taken from the front of a list.

-- what a list is when its first atom is taken
pub behind_first : (h : Heap) (m a : ℕ) → home_of h a ≡ Some m → from (Some a) (atoms_in h m) ≡ atoms_in h m → atoms_in (taken h a) m ≡ after a (atoms_in h m)
behind_first h m a e f =
    ap (λ (o : Option ℕ). atoms_by (atom_out h.mems o a m)) e ∙ ap atoms_by (alter_at h.mems m (option_map (mem_with_atoms (without a)))) ∙ by (h.mems m) ∙ without_first a (atoms_in h m) f
  where
    by : (o : Option HeapMem) → atoms_by (option_map (mem_with_atoms (without a)) o) ≡ without a (atoms_by o)
    by None = refl
    by (Some x) = refl

-- the next one is the first then
pub next_first : (h t : Heap) (m a : ℕ) (o : Option ℕ) → t ≡ taken h a → home_of h a ≡ Some m → from (Some a) (atoms_in h m) ≡ atoms_in h m → from o (atoms_in h m) ≡ after a (atoms_in h m) → from o (atoms_in t m) ≡ atoms_in t m
next_first h t m a o u e f n = subst (λ zs. from o zs ≡ zs) (sym (ap (λ z. atoms_in z m) u ∙ behind_first h m a e f)) (by o n)
  where
    by : (o : Option ℕ) → from o (atoms_in h m) ≡ after a (atoms_in h m) → from o (after a (atoms_in h m)) ≡ after a (atoms_in h m)
    by None q = q
    by (Some b) q = subst (λ zs. from (Some b) zs ≡ zs) q (from_here b (after b (atoms_in h m)))

-- what is left gives the same
pub left_taken : (h t : Heap) (m a : ℕ) → t ≡ taken h a → home_of h a ≡ Some m → from (Some a) (atoms_in h m) ≡ atoms_in h m → taken_all t (atoms_in t m) ≡ taken_all h (atoms_in h m)
left_taken h t m a u e f =
    ap (λ z. taken_all z (atoms_in z m)) u ∙ ap (taken_all (taken h a)) (behind_first h m a e f) ∙ ap (taken_all h) f

-- the next one stands where it stood
pub next_home : {A : Type 0} (id : A → ℕ) (h t : Heap) (m a : ℕ) (o : Option A) → Distinct (atoms_in h m) → t ≡ taken h a → home_of h a ≡ Some m → from (Some a) (atoms_in h m) ≡ atoms_in h m
    → from (option_map id o) (atoms_in h m) ≡ after a (atoms_in h m) → IfSome o (λ b. home_of h (id b) ≡ home_of h a) → IfSome o (λ b. home_of t (id b) ≡ Some m)
next_home id h t m a None d u e f n k = k
next_home id h t m a (Some b) d u e f n k =
    let i : In (id b) (after a (atoms_in h m)) = subst (In (id b)) n (inl refl) in
    let once : Distinct (a ∷ after a (atoms_in h m)) = subst Distinct (sym f) d in
    ap (λ z. home_of z (id b)) u ∙ home_away h a (id b) (λ q. each_in (λ z. a ≢ z) (after a (atoms_in h m)) (id b) once.0 i (sym q)) ∙ k ∙ e

-- none stands twice in what is left
pub next_once : (h t : Heap) (m a : ℕ) → Distinct (atoms_in h m) → t ≡ taken h a → home_of h a ≡ Some m → from (Some a) (atoms_in h m) ≡ atoms_in h m → Distinct (atoms_in t m)
next_once h t m a d u e f =
    let once : Distinct (a ∷ after a (atoms_in h m)) = subst Distinct (sym f) d in
    subst Distinct (sym (ap (λ z. atoms_in z m) u ∙ behind_first h m a e f)) once.1
