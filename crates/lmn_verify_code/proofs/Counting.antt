-- Tables of ports, of copies and of pairs of registers tell what they are to tell.
use Rattle.std.proofs.Common.{◌≡◌, ◌<◌, ◌≤◌, ◌+◌, ◌≢◌, ◌⊎◌, inl, inr, ℕ, Bool, true, false, ◌==◌, ◌&&◌, ◌||◌, if◌then◌else◌, cond, List, [], ◌∷◌, length, get_or, set, min, replicate, refl, sym, ap, ◌∙◌, arith, subst}
use Rattle.std.specs.Prelude.{nat_lt, count_by}
use Rattle.std.specs.List.{list_any}
use Rattle.std.proofs.lemmas.List.{length-set, length-replicate, get_or-replicate, get_or-set_same, get_or-set_other}
use Rattle.std.proofs.lemmas.Grind.{get_or-set_at}
use Rattle.std.proofs.lemmas.List.Sums.{sum_by-cons}
use Rattle.std.proofs.lemmas.Bool.Decides.{nat_tests}
use Rattle.lmn_base.proofs.Truth.{and_false}
use Rattle.lmn_base.proofs.Numbers.{at_most_by_test, equal_itself, not_equal, same_or_not}
use Rattle.lmn_instr_code.specs.declared.instr.Instr.{Instr}
use Rattle.lmn_instr_code.specs.declared.instr.Instr.TheVariants.{NeqAtom, NeqMem}
use Rattle.lmn_instr_code.specs.declared.instr.NewPort.{NewPort}
use Rattle.lmn_instr_code.specs.declared.instr.NewPort.TheVariants as new
use Rattle.lmn_verify_code.specs.Verified.{same_port, port_of_register, is_neq_atom, is_neq_membrane}
use Rattle.lmn_verify_code.specs.Counted.{told_all, counted, port_counted, copy_counted, TellsPorts, TellsCopies, place_of, marked, atoms_marked, membranes_marked, TellsPairs}

-- ---- counts

-- a count of at most two at its own place
counted_same : (c : List ℕ) (k n : ℕ) → k < length c → get_or c k 2 ≡ min 2 n → get_or (counted c k) k 2 ≡ min 2 (n + 1)
counted_same c k n l e = go (nat_lt (get_or c k 2) 2) refl
  where
    go : (b : Bool) → nat_lt (get_or c k 2) 2 ≡ b → get_or (if b then set c k (get_or c k 2 + 1) else c) k 2 ≡ min 2 (n + 1)
    go true t = get_or-set_same c k (get_or c k 2 + 1) 2 l ∙ grind (arith, nat_tests, e, t)
    go false t = grind (arith, nat_tests, e, t)

-- another count stays
counted_other : (c : List ℕ) (k j : ℕ) → j ≢ k → get_or (counted c k) j 2 ≡ get_or c j 2
counted_other c k j n = go (nat_lt (get_or c k 2) 2)
  where
    go : (b : Bool) → get_or (if b then set c k (get_or c k 2 + 1) else c) j 2 ≡ get_or c j 2
    go true = get_or-set_other c k j (get_or c k 2 + 1) 2 n
    go false = refl

counted_length : (c : List ℕ) (k : ℕ) → length (counted c k) ≡ length c
counted_length c k = go (nat_lt (get_or c k 2) 2)
  where
    go : (b : Bool) → length (if b then set c k (get_or c k 2 + 1) else c) ≡ length c
    go true = length-set c k (get_or c k 2 + 1)
    go false = refl

-- a table that is changed item by item has at a place how often a test holds, up to two
module _ {A : Type 0} (tell : List ℕ → A → List ℕ) (test : A → Bool) (k : ℕ) (keeps : (c : List ℕ) (x : A) → length (tell c x) ≡ length c)
    (step : (c : List ℕ) (x : A) (n : ℕ) → k < length c → get_or c k 2 ≡ min 2 n → get_or (tell c x) k 2 ≡ min 2 (n + cond (test x) 1 0)) where
  all_counted : (c : List ℕ) (xs : List A) (n : ℕ) → k < length c → get_or c k 2 ≡ min 2 n → get_or (told_all tell c xs) k 2 ≡ min 2 (n + count_by test xs)
  all_counted c [] n l e = e ∙ ap (min 2) (omega arith)
  all_counted c (x ∷ xs) n l e =
      let more = all_counted (tell c x) xs (n + cond (test x) 1 0) (subst (λ m. k < m) (sym (keeps c x)) l) (step c x n l e) in
      let parts : n + cond (test x) 1 0 + count_by test xs ≡ n + (cond (test x) 1 0 + count_by test xs) = omega arith in
      more ∙ ap (min 2) (parts ∙ ap (λ m. n + m) (sym (sum_by-cons (λ y. cond (test y) 1 0) x xs)))

  all_length : (c : List ℕ) (xs : List A) → length (told_all tell c xs) ≡ length c
  all_length c [] = refl
  all_length c (x ∷ xs) = all_length (tell c x) xs ∙ keeps c x

-- one of at most two
is_one : (m n : ℕ) → m ≡ min 2 n → (m == 1) ≡ (n == 1)
is_one m n e = grind (arith, nat_tests, e)

-- a place that is this one has one more
counted_at : (c : List ℕ) (k j n : ℕ) → j ≡ k → j < length c → get_or c j 2 ≡ min 2 n → get_or (counted c k) j 2 ≡ min 2 (n + 1)
counted_at c k j n same l e = subst (λ m. get_or (counted c m) j 2 ≡ min 2 (n + 1)) same (counted_same c j n l e)

-- ---- pairs

or_true : (g : Bool) → (g || true) ≡ true
or_true true = refl
or_true false = refl

or_false : (g : Bool) → (g || false) ≡ g
or_false true = refl
or_false false = refl

-- two places are one where both numbers are
places_apart : (a p b q : ℕ) → p < 256 → q < 256 → place_of a p ≡ place_of b q → (a ≡ b) × (p ≡ q)
places_apart a p b q l m e = (omega (arith, l, m, e), omega (arith, l, m, e))

-- the place of two numbers is that of two others, or it isn't
pub data PlaceIs (a p b q : ℕ) : Type 0 where
  same : a ≡ b → p ≡ q → ((b == a) && (q == p)) ≡ true → PlaceIs a p b q
  other : place_of a p ≢ place_of b q → ((b == a) && (q == p)) ≡ false → PlaceIs a p b q

place_is : (a p b q : ℕ) → p < 256 → q < 256 → PlaceIs a p b q
place_is a p b q l m = go (same_or_not a b) (same_or_not p q)
  where
    go : (a ≡ b) ⊎ (a ≢ b) → (p ≡ q) ⊎ (p ≢ q) → PlaceIs a p b q
    go (inl e) (inl f) = same e f ((λ j. (b == e j) && (q == f j)) ∙ (λ j. equal_itself b j && equal_itself q j))
    go (inl e) (inr n) = other (λ h. n (places_apart a p b q l m h).1) (ap (λ t. (b == a) && t) (not_equal q p (λ f. n (sym f))) ∙ and_false (b == a))
    go (inr n) f = other (λ h. n (places_apart a p b q l m h).0) (ap (λ t. t && (q == p)) (not_equal b a (λ e. n (sym e))))

mark_length : (c : List Bool) (x y : ℕ) → length (marked c x y) ≡ length c
mark_length c x y = go (nat_lt y 256)
  where
    go : (b : Bool) → length (if b then set c (place_of x y) true else c) ≡ length c
    go true = length-set c (place_of x y) true
    go false = refl

-- a mark is at the place of its numbers, and nowhere else
mark_tells : (c : List Bool) (x y a b : ℕ) → b < 256 → place_of a b < length c → get_or (marked c x y) (place_of a b) false ≡ (get_or c (place_of a b) false || ((x == a) && (y == b)))
mark_tells c x y a b l h = go (nat_lt y 256) refl
  where
    told : PlaceIs a b x y → get_or (set c (place_of x y) true) (place_of a b) false ≡ (get_or c (place_of a b) false || ((x == a) && (y == b)))
    told (same e f t) =
        let at : place_of a b ≡ place_of x y = λ j. place_of (e j) (f j) in
        get_or-set_at c (place_of x y) (place_of a b) true false at (subst (λ k. k < length c) at h) ∙ sym (ap (λ t. get_or c (place_of a b) false || t) t ∙ or_true (get_or c (place_of a b) false))
    told (other n t) = get_or-set_other c (place_of x y) (place_of a b) true false n ∙ sym (ap (λ t. get_or c (place_of a b) false || t) t ∙ or_false (get_or c (place_of a b) false))

    go : (t : Bool) → nat_lt y 256 ≡ t → get_or (if t then set c (place_of x y) true else c) (place_of a b) false ≡ (get_or c (place_of a b) false || ((x == a) && (y == b)))
    go true t = told (place_is a b x y l (grind (arith, nat_tests, t)))
    go false t =
        let far : 256 ≤ y = at_most_by_test y 256 t in
        sym (ap (λ t. get_or c (place_of a b) false || ((x == a) && t)) (not_equal y b (λ e. omega (arith, e, far, l))) ∙ ap (λ t. get_or c (place_of a b) false || t) (and_false (x == a)) ∙ or_false (get_or c (place_of a b) false))

either_order : (g p q r : Bool) → ((g || p) || (q && r)) ≡ (g || (p || (r && q)))
either_order true p q r = refl
either_order false true q r = refl
either_order false false true true = refl
either_order false false true false = refl
either_order false false false true = refl
either_order false false false false = refl

-- two numbers that are marked in both orders
both_tell : (c : List Bool) (x y a b : ℕ) → b < 256 → place_of a b < length c
    → get_or (marked (marked c x y) y x) (place_of a b) false ≡ (get_or c (place_of a b) false || (((x == a) && (y == b)) || ((x == b) && (y == a))))
both_tell c x y a b l h =
    mark_tells (marked c x y) y x a b l (subst (λ m. place_of a b < m) (sym (mark_length c x y)) h) ∙ ap (λ g. g || ((y == a) && (x == b))) (mark_tells c x y a b l h)
    ∙ either_order (get_or c (place_of a b) false) ((x == a) && (y == b)) (y == a) (x == b)

or_assoc : (a b c : Bool) → ((a || b) || c) ≡ (a || (b || c))
or_assoc true b c = refl
or_assoc false b c = refl

-- a table that is marked item by item has at a place whether a test holds of some
module _ {A : Type 0} (tell : List Bool → A → List Bool) (test : A → Bool) (k : ℕ) (keeps : (c : List Bool) (x : A) → length (tell c x) ≡ length c)
    (step : (c : List Bool) (x : A) → k < length c → get_or (tell c x) k false ≡ (get_or c k false || test x)) where
  all_marked : (c : List Bool) (xs : List A) → k < length c → get_or (told_all tell c xs) k false ≡ (get_or c k false || list_any test xs)
  all_marked c [] l = sym (or_false (get_or c k false))
  all_marked c (x ∷ xs) l =
      all_marked (tell c x) xs (subst (λ m. k < m) (sym (keeps c x)) l) ∙ ap (λ g. g || list_any test xs) (step c x l) ∙ or_assoc (get_or c k false) (test x) (list_any test xs)

  all_kept : (c : List Bool) (xs : List A) → length (told_all tell c xs) ≡ length c
  all_kept c [] = refl
  all_kept c (x ∷ xs) = all_kept (tell c x) xs ∙ keeps c x

-- ---- the tables

abbrev is_at : ℕ → ℕ → NewPort → Bool
is_at a p = same_port (new.Atom (port_of_register a p))

port_keeps : (c : List ℕ) (x : NewPort) → length (port_counted c x) ≡ length c
port_keeps c (new.Copy q) = refl
port_keeps c (new.Atom q) = go (nat_lt q.port 256)
  where
    go : (b : Bool) → length (if b then counted c (place_of q.atom q.port) else c) ≡ length c
    go true = counted_length c (place_of q.atom q.port)
    go false = refl

none_more : (n : ℕ) → min 2 n ≡ min 2 (n + 0)
none_more n = ap (min 2) (omega arith)

port_step : (a p : ℕ) → p < 256 → (c : List ℕ) (x : NewPort) (n : ℕ) → place_of a p < length c → get_or c (place_of a p) 2 ≡ min 2 n
    → get_or (port_counted c x) (place_of a p) 2 ≡ min 2 (n + cond (is_at a p x) 1 0)
port_step a p l c (new.Copy q) n h e = e ∙ none_more n
port_step a p l c (new.Atom q) n h e = go (nat_lt q.port 256) refl
  where
    told : PlaceIs q.atom q.port a p → get_or (counted c (place_of q.atom q.port)) (place_of a p) 2 ≡ min 2 (n + cond (is_at a p (new.Atom q)) 1 0)
    told (same f g t) = counted_at c (place_of q.atom q.port) (place_of a p) n (λ j. place_of (sym f j) (sym g j)) h e ∙ ap (λ t. min 2 (n + cond t 1 0)) (sym t)
    told (other m t) = counted_other c (place_of q.atom q.port) (place_of a p) (λ f. m (sym f)) ∙ e ∙ none_more n ∙ ap (λ t. min 2 (n + cond t 1 0)) (sym t)

    go : (t : Bool) → nat_lt q.port 256 ≡ t → get_or (if t then counted c (place_of q.atom q.port) else c) (place_of a p) 2 ≡ min 2 (n + cond (is_at a p (new.Atom q)) 1 0)
    go true t = told (place_is q.atom q.port a p (grind (arith, nat_tests, t)) l)
    go false t =
        let far : 256 ≤ q.port = at_most_by_test q.port 256 t in
        e ∙ none_more n ∙ ap (λ t. min 2 (n + cond t 1 0)) (sym (ap (λ t. (a == q.atom) && t) (not_equal p q.port (λ f. omega (arith, f, far, l))) ∙ and_false (a == q.atom)))

none_below : (n i : ℕ) → i < n → get_or (replicate n 0) i 2 ≡ min 2 0
none_below n i l = get_or-replicate n i 0 2 l ∙ omega arith

-- the table of ports tells which stand once
pub ports_tell : (size : ℕ) (xs : List NewPort) (counts : List ℕ) → counts ≡ told_all port_counted (replicate size 0) xs → TellsPorts xs counts
ports_tell size xs counts is a p l h =
    let small : place_of a p < length (replicate size 0) = subst (λ m. place_of a p < m) (ap length is ∙ all_length port_counted (is_at a p) (place_of a p) port_keeps (port_step a p l) (replicate size 0) xs) h in
    let count = count_by (is_at a p) xs in
    let from : 0 + count ≡ count = omega arith in
    is_one (get_or counts (place_of a p) 2) count
    (ap (λ c. get_or c (place_of a p) 2) is
    ∙ all_counted port_counted (is_at a p) (place_of a p) port_keeps (port_step a p l) (replicate size 0) xs 0 small (none_below size (place_of a p) (subst (λ m. place_of a p < m) (length-replicate size 0) small)) ∙ ap (min 2) from)

copy_keeps : (c : List ℕ) (x : NewPort) → length (copy_counted c x) ≡ length c
copy_keeps c (new.Atom q) = refl
copy_keeps c (new.Copy q) = counted_length c q

copy_step : (k : ℕ) (c : List ℕ) (x : NewPort) (n : ℕ) → k < length c → get_or c k 2 ≡ min 2 n → get_or (copy_counted c x) k 2 ≡ min 2 (n + cond (same_port (new.Copy k) x) 1 0)
copy_step k c (new.Atom q) n h e = e ∙ none_more n
copy_step k c (new.Copy q) n h e = go (same_or_not k q)
  where
    go : (k ≡ q) ⊎ (k ≢ q) → get_or (counted c q) k 2 ≡ min 2 (n + cond (k == q) 1 0)
    go (inl f) = counted_at c q k n f h e ∙ ap (λ t. min 2 (n + cond t 1 0)) (sym (ap (λ m. m == q) f ∙ equal_itself q))
    go (inr m) = counted_other c q k m ∙ e ∙ none_more n ∙ ap (λ t. min 2 (n + cond t 1 0)) (sym (not_equal k q m))

-- and that of copies which of these do
pub copies_tell : (size : ℕ) (xs : List NewPort) (counts : List ℕ) → counts ≡ told_all copy_counted (replicate size 0) xs → TellsCopies xs counts
copies_tell size xs counts is k h =
    let test = same_port (new.Copy k) in
    let small : k < length (replicate size 0) = subst (λ m. k < m) (ap length is ∙ all_length copy_counted test k copy_keeps (copy_step k) (replicate size 0) xs) h in
    let from : 0 + count_by test xs ≡ count_by test xs = omega arith in
    is_one (get_or counts k 2) (count_by test xs)
    (ap (λ c. get_or c k 2) is ∙ all_counted copy_counted test k copy_keeps (copy_step k) (replicate size 0) xs 0 small (none_below size k (subst (λ m. k < m) (length-replicate size 0) small)) ∙ ap (min 2) from)

both_length : (c : List Bool) (x y : ℕ) → length (marked (marked c x y) y x) ≡ length c
both_length c x y = mark_length (marked c x y) y x ∙ mark_length c x y

atoms_keep : (c : List Bool) (i : Instr) → length (atoms_marked c i) ≡ length c
atoms_keep c (NeqAtom x y) = both_length c x y
atoms_keep c _ = refl

atoms_step : (a b : ℕ) → b < 256 → (c : List Bool) (i : Instr) → place_of a b < length c → get_or (atoms_marked c i) (place_of a b) false ≡ (get_or c (place_of a b) false || is_neq_atom a b i)
atoms_step a b l c (NeqAtom x y) h = both_tell c x y a b l h
atoms_step a b l c _ h = sym (or_false (get_or c (place_of a b) false))

membranes_keep : (c : List Bool) (i : Instr) → length (membranes_marked c i) ≡ length c
membranes_keep c (NeqMem x y) = both_length c x y
membranes_keep c _ = refl

membranes_step : (a b : ℕ) → b < 256 → (c : List Bool) (i : Instr) → place_of a b < length c → get_or (membranes_marked c i) (place_of a b) false ≡ (get_or c (place_of a b) false || is_neq_membrane a b i)
membranes_step a b l c (NeqMem x y) h = both_tell c x y a b l h
membranes_step a b l c _ h = sym (or_false (get_or c (place_of a b) false))

-- a table that is marked instruction by instruction tells of which two registers code has one
pairs_tell : (tell : List Bool → Instr → List Bool) (is_neq : ℕ → ℕ → Instr → Bool) → ((c : List Bool) (i : Instr) → length (tell c i) ≡ length c)
    → ((a b : ℕ) → b < 256 → (c : List Bool) (i : Instr) → place_of a b < length c → get_or (tell c i) (place_of a b) false ≡ (get_or c (place_of a b) false || is_neq a b i))
    → (size : ℕ) (code : List Instr) (pairs : List Bool) → pairs ≡ told_all tell (replicate size false) code → TellsPairs is_neq code pairs
pairs_tell tell is_neq keeps step size code pairs is a b l h =
    let none = replicate size false in
    let small : place_of a b < length none = subst (λ m. place_of a b < m) (ap length is ∙ all_kept tell (is_neq a b) (place_of a b) keeps (step a b l) none code) h in
    ap (λ c. get_or c (place_of a b) false) is ∙ all_marked tell (is_neq a b) (place_of a b) keeps (step a b l) none code small
    ∙ ap (λ g. g || list_any (is_neq a b) code) (get_or-replicate size (place_of a b) false false (subst (λ m. place_of a b < m) (length-replicate size false) small))

-- the table of atoms tells of which two a head has NEQATOM,
pub atoms_tell : (size : ℕ) (code : List Instr) (pairs : List Bool) → pairs ≡ told_all atoms_marked (replicate size false) code → TellsPairs is_neq_atom code pairs
atoms_tell = pairs_tell atoms_marked is_neq_atom atoms_keep atoms_step

-- and that of membranes of which two it has NEQMEM
pub membranes_tell : (size : ℕ) (code : List Instr) (pairs : List Bool) → pairs ≡ told_all membranes_marked (replicate size false) code → TellsPairs is_neq_membrane code pairs
membranes_tell = pairs_tell membranes_marked is_neq_membrane membranes_keep membranes_step
