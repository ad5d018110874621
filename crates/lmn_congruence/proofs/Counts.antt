-- How often links occur, in lists and in processes.
use Rattle.std.proofs.Common.{ℕ, suc, ◌≡◌, ◌≢◌, ◌+◌, ◌≤◌, ◌<◌, ◌⊎◌, List, [], ◌∷◌, map, refl, ap, inl, inr, arith}
use Rattle.lmn_congruence.specs.Links.{one_if_same, places}
use Rattle.lmn_congruence.specs.Process.{Process, nothing, connector, atom, pair, membrane, rule, occurrences, replace, Free, Local, Fresh, Linked, substitute}
use Rattle.lmn_congruence.specs.Congruence.{Congruent, unit, swap, regroup, rename, beside, inside, loop, turn, absorb, pass, same, back, chain}
use Rattle.lmn_base.proofs.Numbers.{same_or_not}

-- equal links count one
pub one_if_equal : (x y : ℕ) → x ≡ y → one_if_same x y ≡ 1
one_if_equal x y e = grind arith

-- different links count nothing
pub none_if_apart : (x y : ℕ) → x ≢ y → one_if_same x y ≡ 0
none_if_apart x y d = grind arith

-- links that are equal have equal images, so images count where links do
pub one_least : (f : ℕ → ℕ) (x y : ℕ) → one_if_same x y ≤ one_if_same (f x) (f y)
one_least f x y = go (same_or_not x y)
  where
    go : (x ≡ y) ⊎ (x ≢ y) → one_if_same x y ≤ one_if_same (f x) (f y)
    go (inl e) = omega (arith, one_if_equal x y e, one_if_equal (f x) (f y) (ap f e))
    go (inr d) = omega (arith, none_if_apart x y d)

-- a number below another isn't that
pub less_apart : (x n : ℕ) → x < n → x ≢ n
less_apart x n l = grind arith

-- a link that replaces: what is counted
pub places_replaced : (new old x : ℕ) (xs : List ℕ) → new ≢ old → x ≢ old → x ≢ new → places x (map (replace new old) xs) ≡ places x xs
places_replaced new old x [] n p q = refl
places_replaced new old x (y ∷ ys) n p q = grind (arith, places_replaced new old x ys n p q)

-- the old link has no place where the new one was put for it
pub places_old : (new old : ℕ) (xs : List ℕ) → new ≢ old → places old (map (replace new old) xs) ≡ 0
places_old new old [] n = refl
places_old new old (y ∷ ys) n = grind (arith, places_old new old ys n)

-- the new link has its own places and those of the old one
pub places_new : (new old : ℕ) (xs : List ℕ) → new ≢ old → places new (map (replace new old) xs) ≡ places new xs + places old xs
places_new new old [] n = refl
places_new new old (y ∷ ys) n = grind (arith, places_new new old ys n)

-- a link put for another counts for both
pub one_new : (new old z : ℕ) → new ≢ old → one_if_same new (replace new old z) ≡ one_if_same new z + one_if_same old z
one_new new old z n = grind arith

-- a comparison of two links counts one at most
pub one_bound : (x y : ℕ) → one_if_same x y ≤ 1
one_bound x y = grind arith

-- the two links of a connector
pub count_first : (x y n : ℕ) → x ≢ y → one_if_same x x + one_if_same x y + n ≡ suc n
count_first x y n d = grind arith

-- of two different links only the second counts where the second is asked for
pub count_second : (x y n : ℕ) → x ≢ y → one_if_same y x + one_if_same y y + n ≡ suc n
count_second x y n d = grind arith

-- the same for processes
pub occurrences_other : (new old x : ℕ) (P : Process) → new ≢ old → x ≢ old → x ≢ new → occurrences x (substitute new old P) ≡ occurrences x P
occurrences_other new old x nothing n p q = refl
occurrences_other new old x (connector y z) n p q = grind arith
occurrences_other new old x (atom a ys) n p q = places_replaced new old x ys n p q
occurrences_other new old x (pair P Q) n p q = omega (arith, occurrences_other new old x P n p q, occurrences_other new old x Q n p q)
occurrences_other new old x (membrane P) n p q = occurrences_other new old x P n p q
occurrences_other new old x (rule r) n p q = refl

-- the old link doesn't occur after a substitution
pub occurrences_old : (new old : ℕ) (P : Process) → new ≢ old → occurrences old (substitute new old P) ≡ 0
occurrences_old new old nothing n = refl
occurrences_old new old (connector y z) n = grind arith
occurrences_old new old (atom a ys) n = places_old new old ys n
occurrences_old new old (pair P Q) n = omega (arith, occurrences_old new old P n, occurrences_old new old Q n)
occurrences_old new old (membrane P) n = occurrences_old new old P n
occurrences_old new old (rule r) n = refl

-- and the new one occurs as often as both did
pub occurrences_new : (new old : ℕ) (P : Process) → new ≢ old → occurrences new (substitute new old P) ≡ occurrences new P + occurrences old P
occurrences_new new old nothing n = refl
occurrences_new new old (connector y z) n = omega (arith, one_new new old y n, one_new new old z n)
occurrences_new new old (atom a ys) n = places_new new old ys n
occurrences_new new old (pair P Q) n = omega (arith, occurrences_new new old P n, occurrences_new new old Q n)
occurrences_new new old (membrane P) n = occurrences_new new old P n
occurrences_new new old (rule r) n = refl

-- how often each link occurs after a substitution
pub data Replaced (new old x : ℕ) (P : Process) : Type 0 where
  is_old : x ≡ old → occurrences x (substitute new old P) ≡ 0 → Replaced new old x P
  is_new : x ≡ new → occurrences x (substitute new old P) ≡ occurrences new P + occurrences old P → Replaced new old x P
  is_other : x ≢ old → x ≢ new → occurrences x (substitute new old P) ≡ occurrences x P → Replaced new old x P

-- how often each link occurs after a substitution by another link
pub replaced : (new old x : ℕ) (P : Process) → new ≢ old → Replaced new old x P
replaced new old x P n = go (same_or_not x old) (same_or_not x new)
  where
    go : (x ≡ old) ⊎ (x ≢ old) → (x ≡ new) ⊎ (x ≢ new) → Replaced new old x P
    go (inl e) s = is_old e (rw e (occurrences_old new old P n))
    go (inr e) (inl f) = is_new f (rw f (occurrences_new new old P n))
    go (inr e) (inr f) = is_other e f (occurrences_other new old x P n e f)

-- a fresh link is not a local one
pub fresh_differs : (x y : ℕ) (P : Process) → Local x P → Fresh y P → y ≢ x
fresh_differs x y P f n = grind arith

-- a fresh link put for a local one keeps each link at two places at most
pub renamed_bound : (x y z : ℕ) (P : Process) → Linked P → Local x P → Fresh y P → occurrences z (substitute y x P) ≤ 2
renamed_bound x y z P l f n = go (replaced y x z P (fresh_differs x y P f n))
  where
    go : Replaced y x z P → occurrences z (substitute y x P) ≤ 2
    go (is_old e q) = omega arith
    go (is_new e q) = omega arith
    go (is_other e e' q) = omega (arith, l.at_most_twice z)

-- in X=Y, P with X free in P the two links differ
pub apart : (x y : ℕ) (P : Process) → Free x P → Linked (pair (connector x y) P) → y ≢ x
apart x y P f l = let b = l.at_most_twice x in grind arith

-- the absorbing of a connector keeps each link at two places at most
pub absorbed_bound : (x y z : ℕ) (P : Process) → Free x P → Linked (pair (connector x y) P) → occurrences z (substitute y x P) ≤ 2
absorbed_bound x y z P f l = go (replaced y x z P (apart x y P f l))
  where
    go : Replaced y x z P → occurrences z (substitute y x P) ≤ 2
    go (is_old e q) = omega arith
    go (is_new e q) = omega (arith, l.at_most_twice y, one_if_equal y y refl)
    go (is_other e e' q) = omega (arith, l.at_most_twice z)

-- parts of a linked process are linked
pub linked_left : {P Q : Process} → Linked (pair P Q) → Linked P
linked_left l = record { at_most_twice = λ z. omega (arith, l.at_most_twice z) }

-- what stands beside another in a linked process is linked
pub linked_right : {P Q : Process} → Linked (pair P Q) → Linked Q
linked_right l = record { at_most_twice = λ z. omega (arith, l.at_most_twice z) }

-- the content of a linked membrane is linked
pub linked_inside : {P : Process} → Linked (membrane P) → Linked P
linked_inside l = record { at_most_twice = l.at_most_twice }

-- a process in which each link occurs as often as in a linked one is linked
pub linked_as : {P Q : Process} → ((z : ℕ) → occurrences z P ≡ occurrences z Q) → Linked P → Linked Q
linked_as h l = record { at_most_twice = λ z. rw (← h z) (l.at_most_twice z) }

-- both sides of a congruence are linked
pub linked_both : {P Q : Process} → Congruent P Q → Linked P × Linked Q
linked_both (unit l) = (record { at_most_twice = λ x. omega (arith, l.at_most_twice x) }, l)
linked_both (swap l) = (l, record { at_most_twice = λ x. omega (arith, l.at_most_twice x) })
linked_both (regroup l) = (l, record { at_most_twice = λ x. omega (arith, l.at_most_twice x) })
linked_both (rename {P = P} x y l f n) = (l, record { at_most_twice = λ z. renamed_bound x y z P l f n })
linked_both (beside d l l') = (l, l')
linked_both (inside d) = let i = linked_both d in (record { at_most_twice = i.0.at_most_twice }, record { at_most_twice = i.1.at_most_twice })
linked_both (loop {x = y}) = (record { at_most_twice = λ x. omega (arith, one_bound x y) }, record { at_most_twice = λ x. omega arith })
linked_both (turn {x = y} {y = z}) = (record { at_most_twice = λ x. omega (arith, one_bound x y, one_bound x z) }, record { at_most_twice = λ x. omega (arith, one_bound x y, one_bound x z) })
linked_both (absorb {P = P} x y a f l) = (l, record { at_most_twice = λ z. absorbed_bound x y z P f l })
linked_both (pass x y e l) = (record { at_most_twice = l.at_most_twice }, record { at_most_twice = l.at_most_twice })
linked_both (same l) = (l, l)
linked_both (back d) = ((linked_both d).1, (linked_both d).0)
linked_both (chain d e) = ((linked_both d).0, (linked_both e).1)

-- two counts are alike: both one, or neither
pub record Alike (m n : ℕ) : Type 0 where
  pub there : m ≡ 1 → n ≡ 1
  pub back_again : n ≡ 1 → m ≡ 1

-- likeness of counts goes both ways
pub flip_alike : (m n : ℕ) → Alike m n → Alike n m
flip_alike m n a = record { there = a.back_again; back_again = a.there }

-- counts stay alike with the same added, while no sum is above two
pub alike_sum : (m n k : ℕ) → Alike m n → m + k ≤ 2 → n + k ≤ 2 → Alike (m + k) (n + k)
alike_sum m n k a p q = grind arith

-- a fresh link put for a local one leaves the same links free
pub renamed_alike : (x y z : ℕ) (P : Process) → Linked P → Local x P → Fresh y P → Alike (occurrences z P) (occurrences z (substitute y x P))
renamed_alike x y z P l f n = go (replaced y x z P (fresh_differs x y P f n))
  where
    go : Replaced y x z P → Alike (occurrences z P) (occurrences z (substitute y x P))
    go (is_old e q) = grind arith
    go (is_new e q) = grind arith
    go (is_other e e' q) = grind arith

-- a loop has no free link
pub loop_alike : (y z : ℕ) → Alike (one_if_same z y + one_if_same z y) 0
loop_alike y z = grind arith

-- the absorbing of a connector leaves the same links free
pub absorb_alike : (x y z : ℕ) (P : Process) → Free x P → Linked (pair (connector x y) P) → Alike (one_if_same z x + one_if_same z y + occurrences z P) (occurrences z (substitute y x P))
absorb_alike x y z P f l = go (replaced y x z P (apart x y P f l))
  where
    n : y ≢ x
    n = apart x y P f l

    b : one_if_same z x + one_if_same z y + occurrences z P ≤ 2
    b = l.at_most_twice z

    go : Replaced y x z P → Alike (one_if_same z x + one_if_same z y + occurrences z P) (occurrences z (substitute y x P))
    go (is_old e q) = grind arith
    go (is_new e q) = grind arith
    go (is_other e e' q) = grind arith

-- congruent processes have the same free links
pub same_free : {P Q : Process} → Congruent P Q → (x : ℕ) → Alike (occurrences x P) (occurrences x Q)
same_free (unit {P = P} l) z = record { there = (λ e. omega arith); back_again = (λ e. omega arith) }
same_free (swap {P = P} {Q = Q} l) z = record { there = (λ e. omega arith); back_again = (λ e. omega arith) }
same_free (regroup l) z = record { there = (λ e. omega arith); back_again = (λ e. omega arith) }
same_free (rename {P = P} x y l f n) z = renamed_alike x y z P l f n
same_free (beside {P = P} {P' = P'} {Q = Q} d l l') z = alike_sum (occurrences z P) (occurrences z P') (occurrences z Q) (same_free d z) (l.at_most_twice z) (l'.at_most_twice z)
same_free (inside d) z = same_free d z
same_free (loop {x = y}) z = loop_alike y z
same_free (turn {x = x} {y = y}) z = record { there = (λ e. omega arith); back_again = (λ e. omega arith) }
same_free (absorb {P = P} x y a f l) z = absorb_alike x y z P f l
same_free (pass x y e l) z = record { there = (λ e. e); back_again = (λ e. e) }
same_free (same l) z = record { there = (λ e. e); back_again = (λ e. e) }
same_free (back d) z = let i = same_free d z in record { there = i.back_again; back_again = i.there }
same_free (chain d e) z = let i = same_free d z in let j = same_free e z in record { there = (λ e. j.there (i.there e)); back_again = (λ e. i.back_again (j.back_again e)) }

-- ---- links that occur

-- the link occurs in the process
abbrev pub Occurs : ℕ → Process → Type 0
Occurs x P = occurrences x P ≢ 0

-- a link has a place in a list that begins with it
pub in_head : (x : ℕ) (xs : List ℕ) → places x (x ∷ xs) ≢ 0
in_head x xs = grind arith

-- and in a list that goes on with one where it has
pub in_tail : (x z : ℕ) (xs : List ℕ) → places z xs ≢ 0 → places z (x ∷ xs) ≢ 0
in_tail x z xs n = grind arith

-- the first link of a connector occurs in it
pub first_in : (x y : ℕ) → one_if_same x x + one_if_same x y ≢ 0
first_in x y = grind arith

-- and the second
pub second_in : (x y : ℕ) → one_if_same y x + one_if_same y y ≢ 0
second_in x y = grind arith

-- what occurs twice occurs
pub occurs_twice : (n : ℕ) → n ≡ 2 → n ≢ 0
occurs_twice n e = grind arith

-- two renamings one after the other, where they agree with a third on the links of a list
pub map_after : (f g h : ℕ → ℕ) (xs : List ℕ) → ((x : ℕ) → places x xs ≢ 0 → f (g x) ≡ h x) → map f (map g xs) ≡ map h xs
map_after f g h [] e = refl
map_after f g h (x ∷ xs) e = cc (e x (in_head x xs), map_after f g h xs (λ z n. e z (in_tail x z xs n)))

-- maps that agree on a list give one list
pub map_agree : (g h : ℕ → ℕ) (xs : List ℕ) → ((x : ℕ) → places x xs ≢ 0 → g x ≡ h x) → map g xs ≡ map h xs
map_agree g h [] e = refl
map_agree g h (x ∷ xs) e = cc (e x (in_head x xs), map_agree g h xs (λ z n. e z (in_tail x z xs n)))

-- at the old link stands the new one
pub replaced_here : (new old : ℕ) → replace new old old ≡ new
replaced_here new old = grind arith

-- any other link stays
pub replaced_other : (new old x : ℕ) → x ≢ old → replace new old x ≡ x
replaced_other new old x e = grind arith
