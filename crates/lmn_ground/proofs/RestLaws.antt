-- The order of a rest: what comes next.
use Rattle.std.proofs.Common.{◌≡◌, ◌≢◌, ◌⊎◌, ℕ, ◌<◌, ◌-◌, ◌^◌, not, List, [], ◌∷◌, ◌++◌, length, true, false, Bool, Option, Some, None, refl, sym, ap, subst, ◌∙◌, inl, inr, arith, if◌then◌else◌}
use Rattle.std.proofs.lemmas.List.{append_assoc, length-append}
use Rattle.std.specs.Option.{option_map}
use Rattle.std.specs.Prelude.{IfSome}
use Rattle.lmn_store_heap.specs.Heap.{Heap, within, parent_of, home_of, atoms_in, mems_in, IsMem, Distinct, from, after}
use Rattle.lmn_store_heap.specs.Sound.{Forest, bare, mem, flat, Forms, Sound, AtMost}
use Rattle.lmn_store_heap.specs.Trees.{forest_of}
use Rattle.lmn_store_heap.proofs.Trees.{At, Left, Round, Inside, around, after_at, after_split, find_at, from_next, in_here, next_in, parent_by, mem_by, split_at, tail_of}
use Rattle.lmn_store_heap.proofs.ListLemmas.{each_in, in_left, in_right, in_split}
use Rattle.lmn_store_heap.proofs.Listing.{home_is}
use Rattle.lmn_store_heap.proofs.Depths.{both_distinct, forest_is as forest_found}
use Rattle.lmn_store_heap.proofs.Pigeonholes.{not_longer}
use Rattle.lmn_base.specs.Lists.{In}
use Rattle.lmn_base.proofs.Lists.{in_either, plus_nothing}
use Rattle.std.specs.List.{AllByRecursion}
use Rattle.lmn_ground_parts.specs.Rests.{IsRest, atoms_of_all, keep}
use Rattle.lmn_ground_parts.specs.Walks.{is_in}
use Rattle.lmn_ground.specs.Rests.{IsLeft}
use Rattle.lmn_store_heap.proofs.Common.{from_here}

-- what is kept of a list is in it, and once
pub keep_in : (p : ℕ → Bool) (xs : List ℕ) (x : ℕ) → In x (keep p xs) → In x xs
keep_in p [] x i = absurd i
keep_in p (y ∷ ys) x i = by (p y) (keep_in p ys x) i
  where
    by : (t : Bool) → (In x (keep p ys) → In x ys) → In x (if t then y ∷ keep p ys else keep p ys) → In x (y ∷ ys)
    by true k (inl q) = inl q
    by true k (inr q) = inr (k q)
    by false k q = inr (k q)

-- an element that isn't kept
pub keep_past : (p : ℕ → Bool) (x : ℕ) (xs : List ℕ) → p x ≡ false → keep p (x ∷ xs) ≡ keep p xs
keep_past p x xs e = rw e refl

-- one that is
pub keep_here : (p : ℕ → Bool) (x : ℕ) (xs : List ℕ) → p x ≡ true → keep p (x ∷ xs) ≡ x ∷ keep p xs
keep_here p x xs e = rw e refl

pub keep_append : (p : ℕ → Bool) (xs ys : List ℕ) → keep p (xs ++ ys) ≡ keep p xs ++ keep p ys
keep_append p [] ys = refl
keep_append p (x ∷ xs) ys = by (p x) (keep_append p xs ys)
  where
    by : (t : Bool) → keep p (xs ++ ys) ≡ keep p xs ++ keep p ys
        → (if t then x ∷ keep p (xs ++ ys) else keep p (xs ++ ys)) ≡ (if t then x ∷ keep p xs else keep p xs) ++ keep p ys
    by true r = ap (λ zs. x ∷ zs) r
    by false r = r

-- nothing is kept twice
pub keep_distinct : (p : ℕ → Bool) (ys : List ℕ) → Distinct ys → Distinct (keep p ys)
keep_distinct p [] d = tt
keep_distinct p (y ∷ ys) d = by (p y) (keep_distinct p ys d.1)
  where
    all : (zs : List ℕ) → ((z : ℕ) → In z zs → y ≢ z) → AllByRecursion (λ z. y ≢ z) zs
    all [] f = tt
    all (z ∷ zs) f = (f z (inl refl), all zs (λ v i. f v (inr i)))

    by : (t : Bool) → Distinct (keep p ys) → Distinct (if t then y ∷ keep p ys else keep p ys)
    by true r = (all (keep p ys) (λ z i. each_in (λ z. y ≢ z) ys z d.0 (keep_in p ys z i)), r)
    by false r = r

-- behind an element that is kept is what is kept of what is behind it
pub keep_after : (p : ℕ → Bool) (x : ℕ) (xs : List ℕ) → Distinct xs → In x (keep p xs) → after x (keep p xs) ≡ keep p (after x xs)
keep_after p x xs d i =
    let s = in_split x xs (keep_in p xs x i) in
    let here : after x xs ≡ s.1 = ap (after x) s.2 ∙ after_split x s.0 s.1 (subst Distinct s.2 d) in
    let e : keep p xs ≡ keep p s.0 ++ keep p (x ∷ s.1) = ap (keep p) s.2 ∙ keep_append p s.0 (x ∷ s.1) in
    let one : keep p (x ∷ s.1) ≡ x ∷ keep p s.1 = keep_here p x s.1 (kept xs i) in
    let whole : keep p xs ≡ keep p s.0 ++ (x ∷ keep p s.1) = e ∙ ap (λ zs. keep p s.0 ++ zs) one in
    ap (after x) whole ∙ after_split x (keep p s.0) (keep p s.1) (subst Distinct whole (keep_distinct p xs d)) ∙ ap (keep p) (sym here)
  where
    kept : (ys : List ℕ) → In x (keep p ys) → p x ≡ true
    kept [] i = absurd i
    kept (y ∷ ys) i = by (p y) refl (kept ys) i
      where
        by : (t : Bool) → p y ≡ t → (In x (keep p ys) → p x ≡ true) → In x (if t then y ∷ keep p ys else keep p ys) → p x ≡ true
        by true e k (inl q) = ap p (sym q) ∙ e
        by true e k (inr q) = k q
        by false e k q = k q

-- the next one of a list is the first of what is left
pub goes_on : (a : ℕ) (o : Option ℕ) (xs ys : List ℕ) → Distinct xs → after a xs ≡ ys → from o ys ≡ ys → from o xs ≡ after a xs
goes_on a None xs ys d e h = h ∙ sym e
goes_on a (Some b) xs ys d e h = from_next a b xs (after b ys) d (e ∙ sym h)

-- what begins with its first goes on with more behind it
pub from_front : (o : Option ℕ) (b : ℕ) (xs ys : List ℕ) → o ≡ Some b → from o xs ≡ xs → from o (xs ++ ys) ≡ xs ++ ys
from_front o b xs ys e h = subst (λ z. from z (xs ++ ys) ≡ xs ++ ys) (sym e)
    (let w : b ∷ after b xs ≡ xs = subst (λ z. from z xs ≡ xs) e h in
    subst (λ zs. from (Some b) (zs ++ ys) ≡ zs ++ ys) w (from_here b (after b xs ++ ys)))

-- less is left behind the next one
pub less_left : (o o' : Option ℕ) (n : ℕ) (xs : List ℕ) → o ≡ Some n → from o' xs ≡ after n xs → length (from o' xs) < length (from o xs)
less_left o o' n xs s f = let a = ap length f in let b = ap (λ z. length (from z xs)) s in omega (arith, a, b)

-- the same in a list that is known by another word
pub less_left_of : (all ms : List ℕ) (o o' : Option ℕ) (n : ℕ) → all ≡ ms → o ≡ Some n → from o' ms ≡ after n ms → length (from o' all) < length (from o all)
less_left_of all ms o o' n e s f = subst (λ zs. length (from o' zs) < length (from o zs)) (sym e) (less_left o o' n ms s f)

-- the next one is in the list
pub next_is_in : {M : Type 0} (id : M → ℕ) (P : List ℕ → List ℕ → Type 0) (m : ℕ) (o : Option M) → ((xs ms : List ℕ) → P xs ms → from (option_map id o) ms ≡ after m ms)
    → IfSome o (λ n. (xs ms : List ℕ) → P xs ms → In (id n) ms)
next_is_in id P m None h = tt
next_is_in id P m (Some n) h = λ xs ms p. next_in m (id n) ms (h xs ms p)

-- and so is the first
pub first_is_in : {M : Type 0} (id : M → ℕ) (P : List ℕ → List ℕ → Type 0) (o : Option M) → ((xs ms : List ℕ) → P xs ms → from (option_map id o) ms ≡ ms)
    → IfSome o (λ n. (xs ms : List ℕ) → P xs ms → In (id n) ms)
first_is_in id P None h = tt
first_is_in id P (Some n) h = λ xs ms p. subst (In (id n)) (h xs ms p) (inl refl)

-- the same of atoms
pub atoms_next_in : {M : Type 0} (id : M → ℕ) (P : List ℕ → List ℕ → Type 0) (a : ℕ) (o : Option M) → ((xs ms : List ℕ) → P xs ms → from (option_map id o) xs ≡ after a xs)
    → IfSome o (λ n. (xs ms : List ℕ) → P xs ms → In (id n) xs)
atoms_next_in id P a None h = tt
atoms_next_in id P a (Some n) h = λ xs ms p. next_in a (id n) xs (h xs ms p)

pub atoms_first_in : {M : Type 0} (id : M → ℕ) (P : List ℕ → List ℕ → Type 0) (o : Option M) → ((xs ms : List ℕ) → P xs ms → from (option_map id o) xs ≡ xs)
    → IfSome o (λ n. (xs ms : List ℕ) → P xs ms → In (id n) xs)
atoms_first_in id P None h = tt
atoms_first_in id P (Some n) h = λ xs ms p. subst (In (id n)) (h xs ms p) (inl refl)

-- The atoms of membranes, one after the other.

-- an atom of some membranes is in one of them
pub all_in : (s : Heap) (ms : List ℕ) (a : ℕ) → In a (atoms_of_all s ms) → (m : ℕ) × In m ms × In a (atoms_in s m)
all_in s [] a i = absurd i
all_in s (m ∷ ms) a i = elim (in_either a (atoms_in s m) (atoms_of_all s ms) i) [
  | inl j ↦ (m, inl refl, j)
  | inr j ↦ (let r = all_in s ms a j in (r.0, inr r.1, r.2))
]

pub in_all : (s : Heap) (ms : List ℕ) (m a : ℕ) → In m ms → In a (atoms_in s m) → In a (atoms_of_all s ms)
in_all s [] m a i j = absurd i
in_all s (k ∷ ms) m a (inl e) j = in_left a (atoms_in s k) (atoms_of_all s ms) (subst (λ n. In a (atoms_in s n)) (sym e) j)
in_all s (k ∷ ms) m a (inr i) j = in_right a (atoms_in s k) (atoms_of_all s ms) (in_all s ms m a i j)

-- each of them stands there once
pub all_once : (s : Heap) → Sound s → (ms : List ℕ) → Distinct ms → Distinct (atoms_of_all s ms)
all_once s sound [] d = tt
all_once s sound (m ∷ ms) d =
    both_distinct (atoms_in s m) (atoms_of_all s ms) (sound.listed.atoms_once m) (all_once s sound ms d.1) (λ a i j.
    let r = all_in s ms a j in
    let here = (sound.listed.atoms m a).0 i in
    let there = (sound.listed.atoms r.0 a).0 r.2 in
    let same : m ≡ r.0 = cc in
    each_in (λ n. m ≢ n) ms r.0 d.0 r.1 same)

pub all_append : (s : Heap) (xs ys : List ℕ) → atoms_of_all s (xs ++ ys) ≡ atoms_of_all s xs ++ atoms_of_all s ys
all_append s [] ys = refl
all_append s (x ∷ xs) ys = ap (λ zs. atoms_in s x ++ zs) (all_append s xs ys) ∙ sym (append_assoc (atoms_in s x) (atoms_of_all s xs) (atoms_of_all s ys))

-- the first atom in a membrane, or none
pub first_here : (s : Heap) (o : Option ℕ) (m a : ℕ) (ms all : List ℕ) → o ≡ Some m → from (Some a) (atoms_in s m) ≡ atoms_in s m → atoms_of_all s (from o ms) ≡ all → from (Some a) all ≡ all
first_here s o m a ms all e h f =
    subst (λ zs. from (Some a) zs ≡ zs) (ap (λ z. atoms_of_all s (from z ms)) (sym e) ∙ f) (from_front (Some a) a (atoms_in s m) (atoms_of_all s (after m ms)) refl h)

pub none_here : (s : Heap) (o o' : Option ℕ) (m : ℕ) (ms all : List ℕ) → o ≡ Some m → [] ≡ atoms_in s m → atoms_of_all s (from o ms) ≡ all → from o' ms ≡ after m ms → atoms_of_all s (from o' ms) ≡ all
none_here s o o' m ms all e h f n =
    ap (atoms_of_all s) n ∙ ap (λ zs. zs ++ atoms_of_all s (after m ms)) h ∙ ap (λ z. atoms_of_all s (from z ms)) (sym e) ∙ f

pub none_behind : (s : Heap) (o : Option ℕ) (ms all : List ℕ) → o ≡ None → atoms_of_all s (from o ms) ≡ all → [] ≡ all
none_behind s o ms all e f = ap (λ z. atoms_of_all s (from z ms)) (sym e) ∙ f

-- a forest has something in its list or nothing in it
pub bare_of : (s : Heap) (g : Forest) (ls : List ℕ) → Forms s g ls → ls ≡ [] → flat g ≡ []
bare_of s bare ls F e = refl
bare_of s (mem k i b) ls F e = absurd (let h : k ∷ F.0 ≡ [] = sym F.1 ∙ e in cc)

first_of_forest : (s : Heap) (g : Forest) (ls : List ℕ) (n : ℕ) (zs : List ℕ) → Forms s g ls → ls ≡ n ∷ zs → (ws : List ℕ) × (flat g ≡ n ∷ ws)
first_of_forest s bare ls n zs F e = absurd (let h : [] ≡ n ∷ zs = sym F ∙ e in cc)
first_of_forest s (mem k i b) ls n zs F e = let h : k ∷ F.0 ≡ n ∷ zs = sym F.1 ∙ e in let same : k ≡ n = (cc) in (flat i ++ flat b, ap (λ z. z ∷ (flat i ++ flat b)) same)

-- the first of a list of membranes is the first of its forest
pub first_flat : (s : Heap) (g : Forest) (ls : List ℕ) (o : Option ℕ) → Forms s g ls → from o ls ≡ ls → from o (flat g) ≡ flat g
first_flat s g ls None F e = sym (bare_of s g ls F (sym e))
first_flat s g ls (Some n) F e = let w = first_of_forest s g ls n (after n ls) F (sym e) in
    ap (λ z. from (Some n) z) w.1 ∙ from_here n w.0 ∙ sym w.1

module _ (s : Heap) (sound : Sound s) (m : ℕ) (left_atom left_membrane : ℕ → Bool) where
  abbrev pub tops : List ℕ
  tops = keep left_membrane (mems_in s m)

  module _ (atoms ms : List ℕ) (r : IsRest s m left_atom left_membrane atoms ms) where
    flat_once : Distinct (flat r.forest)
    flat_once = subst Distinct r.preorder r.once

    in_flat : (x : ℕ) → In x ms → In x (flat r.forest)
    in_flat x i = subst (In x) r.preorder i

    of_flat : (x : ℕ) → In x (flat r.forest) → In x ms
    of_flat x i = subst (In x) (sym r.preorder) i

    at_in : (x : ℕ) (i b : Forest) (o : List ℕ) → At r.forest x i b o → In x (flat r.forest)
    at_in x i b o a = let w = split_at r.forest x i b o a in subst (In x) (sym w.1) (in_here x w.0 (flat i ++ (flat b ++ o)))

    -- nothing is in x
    pub begins : (x : ℕ) → In x ms → mems_in s x ≡ [] → Left r.forest x x
    begins x p e =
        let w = find_at r.forest x (in_flat x p) in
        let q = around s r.forest tops x w.0 w.1 w.2 r.forms w.3 in
        record {
          inner = w.0;
          beside = w.1;
          out = w.2;
          here = w.3;
          left = after_at r.forest x w.0 w.1 w.2 flat_once w.3 ∙ ap (λ z. z ++ (flat w.1 ++ w.2)) (bare_of s w.0 (mems_in s x) q.inner e);
        }

    -- the first membrane in x
    pub enters : (x n : ℕ) → In x ms → from (Some n) (mems_in s x) ≡ mems_in s x → from (Some n) ms ≡ after x ms
    enters x n p e =
        let w = find_at r.forest x (in_flat x p) in
        let q = around s r.forest tops x w.0 w.1 w.2 r.forms w.3 in
        let g = first_of_forest s w.0 (mems_in s x) n (after n (mems_in s x)) q.inner (sym e) in
        subst (λ zs. from (Some n) zs ≡ after x zs) (sym r.preorder)
        (from_next x n (flat r.forest) (g.0 ++ (flat w.1 ++ w.2)) flat_once (after_at r.forest x w.0 w.1 w.2 flat_once w.3 ∙ ap (λ z. z ++ (flat w.1 ++ w.2)) g.1))

    -- the first membrane of the rest
    pub first_of_rest : (o : Option ℕ) → from o tops ≡ tops → from o ms ≡ ms
    first_of_rest o e = subst (λ zs. from o zs ≡ zs) (sym r.preorder) (first_flat s r.forest tops o r.forms e)

    -- `at` is behind x with all that is in it
    module _ (x at : ℕ) (l : Left r.forest x at) where
      whole : Round s r.forest tops at l.inner l.beside l.out
      whole = around s r.forest tops at l.inner l.beside l.out r.forms l.here

      is_top : (before : List ℕ) → tops ≡ before ++ (at ∷ whole.ls) → parent_of s at ≡ Some m
      is_top before e =
          parent_by s at (within m) ((sound.listed.mems m at).0 (keep_in left_membrane (mems_in s m) at (subst (In at) (sym e) (in_here at before whole.ls))))

      is_inside : (c : Inside s r.forest at whole.ls l.inner l.beside l.out) → parent_of s at ≡ Some c.p
      is_inside c = parent_by s at (within c.p) ((sound.listed.mems c.p at).0 (subst (In at) (sym c.list) (in_here at c.before whole.ls)))

      -- the membrane round `at`, where that is in the rest
      round : (p : ℕ) → p ≢ m → parent_of s at ≡ Some p → (c : Inside s r.forest at whole.ls l.inner l.beside l.out) × (c.p ≡ p)
      round p d e = elim whole.case [
        | inl c ↦ absurd (d (let g : Some p ≡ Some m = sym e ∙ is_top c.1.0 c.1.1 in cc))
        | inr c ↦ (c, let g : Some c.p ≡ Some p = sym (is_inside c) ∙ e in cc)
      ]

      rest_of : (c : Inside s r.forest at whole.ls l.inner l.beside l.out) → after at (mems_in s c.p) ≡ whole.ls
      rest_of c = ap (after at) c.list ∙ after_split at c.before whole.ls (subst Distinct c.list (sound.listed.mems_once c.p))

      pub climbs : (p : ℕ) → p ≢ m → parent_of s at ≡ Some p → from None (mems_in s p) ≡ after at (mems_in s p) → Left r.forest x p
      climbs p d e none =
          let w = round p d e in
          let c = w.0 in
          let no : whole.ls ≡ [] = sym (rest_of c) ∙ ap (λ z. after at (mems_in s z)) w.1 ∙ sym none in
          record {
            inner = c.inner;
            beside = c.beside;
            out = c.further;
            here = subst (λ z. At r.forest z c.inner c.beside c.further) w.1 c.at;
            left = l.left ∙ ap (λ z. z ++ l.out) (bare_of s l.beside whole.ls whole.beside no) ∙ c.past;
          }

      pub found : (p n : ℕ) → p ≢ m → parent_of s at ≡ Some p → from (Some n) (mems_in s p) ≡ after at (mems_in s p) → from (Some n) ms ≡ after x ms
      found p n d e some =
          let w = round p d e in
          let c = w.0 in
          let list : whole.ls ≡ n ∷ after n (mems_in s p) = sym (rest_of c) ∙ ap (λ z. after at (mems_in s z)) w.1 ∙ sym some in
          let g = first_of_forest s l.beside whole.ls n (after n (mems_in s p)) whole.beside list in
          subst (λ zs. from (Some n) zs ≡ after x zs) (sym r.preorder)
          (from_next x n (flat r.forest) (g.0 ++ l.out) flat_once (l.left ∙ ap (λ z. z ++ l.out) g.1))

      -- `at` stands in the membrane itself: what comes next is the next that is left in its list
      pub found_top : (o : Option ℕ) → parent_of s at ≡ Some m → from o (keep left_membrane (after at (mems_in s m))) ≡ keep left_membrane (after at (mems_in s m)) → from o ms ≡ after x ms
      found_top o e h = elim whole.case [
        | inl c ↦ (let before = c.1.0 in
            let list = c.1.1 in
            let here : In at tops = subst (In at) (sym list) (in_here at before whole.ls) in
            let ls : keep left_membrane (after at (mems_in s m)) ≡ whole.ls =
            sym (keep_after left_membrane at (mems_in s m) (sound.listed.mems_once m) here) ∙ ap (after at) list
            ∙ after_split at before whole.ls (subst Distinct list (keep_distinct left_membrane (mems_in s m) (sound.listed.mems_once m))) in
            let first : from o (flat l.beside) ≡ flat l.beside = first_flat s l.beside whole.ls o whole.beside (subst (λ zs. from o zs ≡ zs) ls h) in
            let left : after x (flat r.forest) ≡ flat l.beside = l.left ∙ ap (λ z. flat l.beside ++ z) c.0 ∙ plus_nothing (flat l.beside) in
            subst (λ zs. from o zs ≡ after x zs) (sym r.preorder) (goes_on x o (flat r.forest) (flat l.beside) flat_once left first))
        | inr c ↦ absurd (let g : Some c.p ≡ Some m = sym (is_inside c) ∙ e in
            let same : c.p ≡ m = cc in
            r.outside (of_flat m (subst (λ z. In z (flat r.forest)) same (at_in c.p c.inner c.beside c.further c.at))))
      ]

      -- and it has one round it
      pub not_top : parent_of s at ≡ None → ⊥
      not_top e = elim whole.case [
        | inl c ↦ (let g : Some m ≡ None = sym (is_top c.1.0 c.1.1) ∙ e in cc)
        | inr c ↦ (let g : Some c.p ≡ None = sym (is_inside c) ∙ e in cc)
      ]

      pub lower : (p : ℕ) → p ≢ m → parent_of s at ≡ Some p → length ms - length (after p ms) < length ms - length (after at ms)
      lower p d e =
          let w = round p d e in
          let c = w.0 in
          let f = flat r.forest in
          subst (λ zs. length zs - length (after p zs) < length zs - length (after at zs)) (sym r.preorder)
          (let here = ap length (after_at r.forest at l.inner l.beside l.out flat_once l.here) in
          let up = ap length (after_at r.forest c.p c.inner c.beside c.further flat_once c.at) in
          let same = ap (λ z. length (after z f)) w.1 in
          let past = ap length c.past in
          let a1 = length-append (flat l.inner) (flat l.beside ++ l.out) in
          let a2 = length-append (flat l.beside) l.out in
          let a3 = length-append (flat c.inner) (flat c.beside ++ c.further) in
          let u = tail_of p f in
          let a4 = ap length u.1 ∙ length-append u.0 (after p f) in
          let less = c.less in
          omega arith)

    -- an atom of the rest stands in the membrane itself, or in one of the rest
    atom_in : (a : ℕ) → In a atoms → (In a (keep left_atom (atoms_in s m))) ⊎ ((n : ℕ) × In n ms × In a (atoms_in s n))
    atom_in a i = elim (in_either a (keep left_atom (atoms_in s m)) (atoms_of_all s ms) (subst (In a) r.in_order i)) [
      | inl j ↦ inl j
      | inr j ↦ inr (all_in s ms a j)
    ]

    home_list : (a n k : ℕ) → home_of s a ≡ Some n → In a (atoms_in s k) → k ≡ n
    home_list a n k e i = let p = home_is s a n e in let q = (sound.listed.atoms k a).0 i in cc

    pub atoms_once : Distinct atoms
    atoms_once = subst Distinct (sym r.in_order)
        (both_distinct (keep left_atom (atoms_in s m)) (atoms_of_all s ms) (keep_distinct left_atom (atoms_in s m) (sound.listed.atoms_once m)) (all_once s sound ms r.once) (λ a i j.
        let w = all_in s ms a j in
        let p = (sound.listed.atoms m a).0 (keep_in left_atom (atoms_in s m) a i) in
        let q = (sound.listed.atoms w.0 a).0 w.2 in
        let same : w.0 ≡ m = cc in
        r.outside (subst (λ z. In z ms) same w.1)))

    pub home_in_rest : (a n : ℕ) → In a atoms → home_of s a ≡ Some n → n ≢ m → In n ms
    home_in_rest a n i e d = elim (atom_in a i) [
      | inl j ↦ absurd (d (sym (home_list a n m e (keep_in left_atom (atoms_in s m) a j))))
      | inr w ↦ subst (λ z. In z ms) (home_list a n w.0 e w.2) w.1
    ]

    -- behind an atom of the membrane itself
    behind_own : (a : ℕ) → In a atoms → home_of s a ≡ Some m → after a atoms ≡ keep left_atom (after a (atoms_in s m)) ++ atoms_of_all s ms
    behind_own a i e =
        let own = keep left_atom (atoms_in s m) in
        let j : In a own = elim (atom_in a i) [ inl j ↦ j | inr w ↦ absurd (r.outside (subst (λ z. In z ms) (home_list a m w.0 e w.2) w.1)) ] in
        let p = in_split a own j in
        let whole : atoms ≡ p.0 ++ (a ∷ (p.1 ++ atoms_of_all s ms)) = r.in_order ∙ ap (λ zs. zs ++ atoms_of_all s ms) p.2 ∙ append_assoc p.0 (a ∷ p.1) (atoms_of_all s ms) in
        let here : after a own ≡ p.1 = ap (after a) p.2 ∙ after_split a p.0 p.1 (subst Distinct p.2 (keep_distinct left_atom (atoms_in s m) (sound.listed.atoms_once m))) in
        ap (after a) whole ∙ after_split a p.0 (p.1 ++ atoms_of_all s ms) (subst Distinct whole atoms_once)
        ∙ ap (λ zs. zs ++ atoms_of_all s ms) (sym here ∙ keep_after left_atom a (atoms_in s m) (sound.listed.atoms_once m) j)

    -- behind an atom of a membrane of the rest
    behind_inner : (a n : ℕ) → In n ms → home_of s a ≡ Some n → after a atoms ≡ after a (atoms_in s n) ++ atoms_of_all s (after n ms)
    behind_inner a n k e =
        let i = (sound.listed.atoms n a).1 (home_is s a n e) in
        let p = in_split n ms k in
        let q = in_split a (atoms_in s n) i in
        let own = keep left_atom (atoms_in s m) in
        let before = atoms_of_all s p.0 in
        let post = atoms_of_all s p.1 in
        let end : after n ms ≡ p.1 = ap (after n) p.2 ∙ after_split n p.0 p.1 (subst Distinct p.2 r.once) in
        let here : after a (atoms_in s n) ≡ q.1 = ap (after a) q.2 ∙ after_split a q.0 q.1 (subst Distinct q.2 (sound.listed.atoms_once n)) in
        let inner : atoms_of_all s ms ≡ (before ++ q.0) ++ (a ∷ (q.1 ++ post)) =
        ap (atoms_of_all s) p.2 ∙ all_append s p.0 (n ∷ p.1) ∙ ap (λ zs. before ++ (zs ++ post)) q.2
        ∙ ap (λ zs. before ++ zs) (append_assoc q.0 (a ∷ q.1) post) ∙ sym (append_assoc before q.0 (a ∷ (q.1 ++ post))) in
        let whole : atoms ≡ (own ++ (before ++ q.0)) ++ (a ∷ (q.1 ++ post)) =
        r.in_order ∙ ap (λ zs. own ++ zs) inner ∙ sym (append_assoc own (before ++ q.0) (a ∷ (q.1 ++ post))) in
        ap (after a) whole ∙ after_split a (own ++ (before ++ q.0)) (q.1 ++ post) (subst Distinct whole atoms_once)
        ∙ ap (λ zs. zs ++ post) (sym here) ∙ ap (λ zs. after a (atoms_in s n) ++ atoms_of_all s zs) (sym end)

    -- the next atom: in the membrane itself
    pub next_own : (a b : ℕ) (o : Option ℕ) → In a atoms → home_of s a ≡ Some m → from o (atoms_in s m) ≡ after a (atoms_in s m)
        → from (Some b) (keep left_atom (from o (atoms_in s m))) ≡ keep left_atom (from o (atoms_in s m)) → from (Some b) atoms ≡ after a atoms
    next_own a b o i e n h =
        let left = keep left_atom (after a (atoms_in s m)) in
        goes_on a (Some b) atoms (left ++ atoms_of_all s ms) atoms_once (behind_own a i e)
        (from_front (Some b) b left (atoms_of_all s ms) refl (subst (λ zs. from (Some b) (keep left_atom zs) ≡ keep left_atom zs) n h))

    -- behind the last one there, those of the membranes
    pub past_own : (a : ℕ) (o : Option ℕ) (o' k : Option ℕ) → In a atoms → home_of s a ≡ Some m → from o (atoms_in s m) ≡ after a (atoms_in s m)
        → [] ≡ keep left_atom (from o (atoms_in s m)) → from k ms ≡ ms → from o' (atoms_of_all s (from k ms)) ≡ atoms_of_all s (from k ms) → from o' atoms ≡ after a atoms
    past_own a o o' k i e n none f h =
        goes_on a o' atoms (atoms_of_all s ms) atoms_once (behind_own a i e ∙ ap (λ zs. zs ++ atoms_of_all s ms) (ap (keep left_atom) (sym n) ∙ sym none))
        (subst (λ zs. from o' (atoms_of_all s zs) ≡ atoms_of_all s zs) f h)

    -- in a membrane of the rest
    pub next_inner : (a n b : ℕ) → In a atoms → home_of s a ≡ Some n → n ≢ m → from (Some b) (atoms_in s n) ≡ after a (atoms_in s n) → from (Some b) atoms ≡ after a atoms
    next_inner a n b i e d h =
        let left = after a (atoms_in s n) in
        let more = atoms_of_all s (after n ms) in
        goes_on a (Some b) atoms (left ++ more) atoms_once (behind_inner a n (home_in_rest a n i e d) e)
        (subst (λ zs. from (Some b) (zs ++ more) ≡ zs ++ more) h (from_here b (after b (atoms_in s n) ++ more)))

    -- behind the last one there
    pub past_inner : (a n : ℕ) (o k : Option ℕ) → In a atoms → home_of s a ≡ Some n → n ≢ m → [] ≡ after a (atoms_in s n) → from k ms ≡ after n ms
        → from o (atoms_of_all s (from k ms)) ≡ atoms_of_all s (from k ms) → from o atoms ≡ after a atoms
    past_inner a n o k i e d none f h =
        goes_on a o atoms (atoms_of_all s (after n ms)) atoms_once (behind_inner a n (home_in_rest a n i e d) e ∙ ap (λ zs. zs ++ atoms_of_all s (after n ms)) (sym none))
        (subst (λ zs. from o (atoms_of_all s zs) ≡ atoms_of_all s zs) f h)

    -- the first atom: in the membrane itself, or in those of the rest
    pub first_own : (b : ℕ) (o : Option ℕ) → from o (atoms_in s m) ≡ atoms_in s m → from (Some b) (keep left_atom (from o (atoms_in s m))) ≡ keep left_atom (from o (atoms_in s m)) → from (Some b) atoms ≡ atoms
    first_own b o e h =
        subst (λ zs. from (Some b) zs ≡ zs) (sym r.in_order)
        (from_front (Some b) b (keep left_atom (atoms_in s m)) (atoms_of_all s ms) refl (subst (λ zs. from (Some b) (keep left_atom zs) ≡ keep left_atom zs) e h))

    pub first_inner : (o o' k : Option ℕ) → from o (atoms_in s m) ≡ atoms_in s m → [] ≡ keep left_atom (from o (atoms_in s m)) → from k ms ≡ ms
        → from o' (atoms_of_all s (from k ms)) ≡ atoms_of_all s (from k ms) → from o' atoms ≡ atoms
    first_inner o o' k e none f h =
        subst (λ zs. from o' zs ≡ zs) (ap (atoms_of_all s) f ∙ ap (λ zs. zs ++ atoms_of_all s ms) (none ∙ ap (keep left_atom) e) ∙ sym r.in_order) h

-- the membranes of a rest, as a function of the heap
pub rest_found : Heap → ℕ → List ℕ → List ℕ
rest_found s m out = flat (forest_of s (2 ^ 48) (keep (λ n. not (is_in out n)) (mems_in s m)))

pub rest_is : (s : Heap) → Sound s → AtMost (2 ^ 48) s → (m : ℕ) (out atoms ms : List ℕ) → IsLeft s m out atoms ms → rest_found s m out ≡ ms
unfolding rest_found
rest_is s sound few m out atoms ms r =
    let inside : (x : ℕ) → In x ms → In x few.mems = λ x i. few.all_mems x (member x i) in
    let short = not_longer ms few.mems r.once inside in
    let most = few.few in
    let e = ap length r.preorder in
    ap flat (forest_found s (2 ^ 48) r.forest (keep (λ n. not (is_in out n)) (mems_in s m)) r.forms (omega (arith, short, most, e))) ∙ sym r.preorder
  where
    member : (x : ℕ) → In x ms → IsMem s x
    member x i =
        let w = find_at r.forest x (subst (In x) r.preorder i) in
        let q = around s r.forest (keep (λ n. not (is_in out n)) (mems_in s m)) x w.0 w.1 w.2 r.forms w.3 in
        elim q.case [
          | inl c ↦ mem_by s x (within m) ((sound.listed.mems m x).0 (keep_in (λ n. not (is_in out n)) (mems_in s m) x (subst (In x) (sym c.1.1) (in_here x c.1.0 q.ls))))
          | inr c ↦ mem_by s x (within c.p) ((sound.listed.mems c.p x).0 (subst (In x) (sym c.list) (in_here x c.before q.ls)))
        ]
