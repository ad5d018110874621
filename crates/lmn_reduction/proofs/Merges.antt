-- Every process goes, by congruence and settling steps that bring in no new link, to connectors beside a process without any.
use Rattle.std.proofs.Common.{ℕ, zero, suc, ◌≡◌, ◌≢◌, ◌+◌, ◌≤◌, ◌⊎◌, List, [], ◌∷◌, ◌++◌, length, map, refl, sym, ◌∙◌, ap, inl, inr, arith}
use Rattle.lmn_congruence.specs.Links.{one_if_same, places}
use Rattle.lmn_congruence.specs.Process.{Process, nothing, connector, atom, pair, membrane, rule, occurrences, replace, Free, Fresh, Linked, substitute}
use Rattle.lmn_congruence.specs.Congruence.{Congruent, unit, swap, regroup, beside, inside, loop, turn, absorb, pass, same, back, IsAtomProcess, a_connector, an_atom}
use Rattle.lmn_reduction.specs.Steps.{leaf, beside as derived_beside, inside as derived_inside, out, into, SettlingStep}
use Rattle.lmn_reduction.specs.Commits.{SettlesTowards, already, step_and}
use Rattle.lmn_congruence.proofs.Counts.{one_if_equal, count_first, count_second, Replaced, is_old, is_new, is_other, replaced}
use Rattle.lmn_congruence.specs.Fused.{NoConnector}
use Rattle.lmn_reduction.proofs.SettledProcesses.{settle_after}
use Rattle.lmn_base.proofs.Numbers.{same_or_not}

-- one step that brings in no link
pub data Merge : Process → Process → Type 0 where
  drop_unit : {P : Process} → Merge (pair nothing P) P
  add_unit : {P : Process} → Merge P (pair nothing P)
  exchange : {P Q : Process} → Merge (pair P Q) (pair Q P)
  group_left : {P Q S : Process} → Merge (pair P (pair Q S)) (pair (pair P Q) S)
  group_right : {P Q S : Process} → Merge (pair (pair P Q) S) (pair P (pair Q S))
  vanish : {x : ℕ} → Merge (connector x x) nothing
  turn_round : {x y : ℕ} → Merge (connector x y) (connector y x)
  fuse : {P : Process} (x y : ℕ) → IsAtomProcess P → Free x P → y ≢ x → Merge (pair (connector x y) P) (substitute y x P)
  leave : {P : Process} (x y : ℕ) → x ≢ y → Fresh x P → Fresh y P → Merge (membrane (pair (connector x y) P)) (pair (connector x y) (membrane P))
  enter : {P : Process} (x y : ℕ) → x ≢ y → Free x P → Free y P → Merge (pair (connector x y) (membrane P)) (membrane (pair (connector x y) P))
  enter_half : {P : Process} (x y : ℕ) → x ≢ y → Free x P → ¬ (Free y P) → Merge (pair (connector x y) (membrane P)) (membrane (pair (connector x y) P))
  merge_beside : {P P' Q : Process} → Merge P P' → Merge (pair P Q) (pair P' Q)
  merge_inside : {P P' : Process} → Merge P P' → Merge (membrane P) (membrane P')

absorbed_at : (x y z : ℕ) (P : Process) → Free x P → y ≢ x → Replaced y x z P → occurrences z (substitute y x P) ≤ one_if_same z x + one_if_same z y + occurrences z P
absorbed_at x y z P f n (is_old e q) = omega arith
absorbed_at x y z P f n (is_new e q) = omega (arith, one_if_equal z y e, ap (λ k. occurrences k P) e)
absorbed_at x y z P f n (is_other e e' q) = omega arith

absorbed : (x y z : ℕ) (P : Process) → Free x P → y ≢ x → occurrences z (substitute y x P) ≤ one_if_same z x + one_if_same z y + occurrences z P
absorbed x y z P f n = absorbed_at x y z P f n (replaced y x z P n)

-- a merge makes no link occur more often
pub merge_shrinks : {P Q : Process} → Merge P Q → (z : ℕ) → occurrences z Q ≤ occurrences z P
merge_shrinks drop_unit z = omega arith
merge_shrinks add_unit z = omega arith
merge_shrinks exchange z = omega arith
merge_shrinks group_left z = omega arith
merge_shrinks group_right z = omega arith
merge_shrinks vanish z = omega arith
merge_shrinks turn_round z = omega arith
merge_shrinks (fuse {P = P} x y a f n) z = absorbed x y z P f n
merge_shrinks (leave x y d f g) z = omega arith
merge_shrinks (enter x y d f g) z = omega arith
merge_shrinks (enter_half x y d f g) z = omega arith
merge_shrinks (merge_beside d) z = omega (arith, merge_shrinks d z)
merge_shrinks (merge_inside d) z = merge_shrinks d z

-- what a linked process is merged to is linked
pub merge_linked : {P Q : Process} → Merge P Q → Linked P → Linked Q
merge_linked d l = record { at_most_twice = λ z. omega (arith, merge_shrinks d z, l.at_most_twice z) }

-- each such step is a congruence or a settling step
pub merge_is : {P Q : Process} → Merge P Q → Linked P → Congruent P Q ⊎ SettlingStep P Q
merge_is (drop_unit {P = P}) l = inl (unit (record { at_most_twice = λ z. omega (arith, l.at_most_twice z) }))
merge_is add_unit l = inl (back (unit l))
merge_is exchange l = inl (swap l)
merge_is group_left l = inl (regroup l)
merge_is group_right l = inl (back (regroup (record { at_most_twice = λ z. omega (arith, l.at_most_twice z) })))
merge_is vanish l = inl loop
merge_is turn_round l = inl turn
merge_is (fuse x y a f n) l = inl (absorb x y a f l)
merge_is (leave {P = P} x y d f g) l =
    inr (leaf (out x y d (count_first x y (occurrences x P) d ∙ ap suc f) (count_second x y (occurrences y P) d ∙ ap suc g)) l (record { at_most_twice = λ z. omega (arith, l.at_most_twice z) }))
merge_is (enter x y d f g) l = inr (leaf (into x y d f g) l (record { at_most_twice = λ z. omega (arith, l.at_most_twice z) }))
merge_is (enter_half x y d f g) l = inl (back (pass x y (inl (f, g)) (record { at_most_twice = λ z. omega (arith, l.at_most_twice z) })))
merge_is (merge_beside {P = P} {P' = P'} {Q = Q} d) l =
    elim (merge_is d (record { at_most_twice = λ z. omega (arith, l.at_most_twice z) })) [ inl c ↦ inl (beside c l (merge_linked (merge_beside d) l)) | inr s ↦ inr (derived_beside s l (merge_linked (merge_beside d) l)) ]
merge_is (merge_inside d) l =
    elim (merge_is d (record { at_most_twice = l.at_most_twice })) [ inl c ↦ inl (inside c) | inr s ↦ inr (derived_inside s) ]

-- merges one after the other
pub data Merges : Process → Process → Type 0 where
  done : {P : Process} → Merges P P
  then : {P Q S : Process} → Merge P Q → Merges Q S → Merges P S

-- one merge is merges
pub one_merge : {P Q : Process} → Merge P Q → Merges P Q
one_merge d = then d done

-- merges and then merges are merges
pub merges_join : {P Q S : Process} → Merges P Q → Merges Q S → Merges P S
merges_join done e = e
merges_join (then d ds) e = then d (merges_join ds e)

-- merges on the left of a process
pub merges_beside : {P P' : Process} (Q : Process) → Merges P P' → Merges (pair P Q) (pair P' Q)
merges_beside Q done = done
merges_beside Q (then d ds) = then (merge_beside d) (merges_beside Q ds)

-- and on its right
pub merges_right : {Q Q' : Process} (P : Process) → Merges Q Q' → Merges (pair P Q) (pair P Q')
merges_right P ds = then exchange (merges_join (merges_beside P ds) (one_merge exchange))

-- and in a membrane
pub merges_inside : {P P' : Process} → Merges P P' → Merges (membrane P) (membrane P')
merges_inside done = done
merges_inside (then d ds) = then (merge_inside d) (merges_inside ds)

-- merges make no link occur more often
pub merges_shrink : {P Q : Process} → Merges P Q → (z : ℕ) → occurrences z Q ≤ occurrences z P
merges_shrink done z = omega arith
merges_shrink (then d ds) z = omega (arith, merge_shrinks d z, merges_shrink ds z)

-- merges of a linked process are settling steps
pub merges_settle : {P Q : Process} → Merges P Q → Linked P → SettlesTowards P Q
merges_settle done l = already (same l)
merges_settle (then d ds) l =
    elim (merge_is d l) [ inl c ↦ settle_after c (merges_settle ds (merge_linked d l)) | inr s ↦ step_and s (merges_settle ds (merge_linked d l)) ]

-- ---- a connector is pushed to the one place of its link

-- a link that isn't there is replaced without a change
pub substitute_absent : (new old : ℕ) (P : Process) → Fresh old P → substitute new old P ≡ P
substitute_absent new old nothing f = refl
substitute_absent new old (connector x y) f = cc (replace_absent_first new old x y f, replace_absent_second new old x y f)
  where
    replace_absent_first : (new old x y : ℕ) → one_if_same old x + one_if_same old y ≡ 0 → replace new old x ≡ x
    replace_absent_first new old x y f = grind arith

    replace_absent_second : (new old x y : ℕ) → one_if_same old x + one_if_same old y ≡ 0 → replace new old y ≡ y
    replace_absent_second new old x y f = grind arith
substitute_absent new old (atom a xs) f = ap (atom a) (map_absent new old xs f)
  where
    head_absent : (new old x n : ℕ) → one_if_same old x + n ≡ 0 → replace new old x ≡ x
    head_absent new old x n f = grind arith

    map_absent : (new old : ℕ) (xs : List ℕ) → places old xs ≡ 0 → map (replace new old) xs ≡ xs
    map_absent new old [] f = refl
    map_absent new old (x ∷ xs) f = cc (head_absent new old x (places old xs) f, map_absent new old xs (omega arith))
substitute_absent new old (pair P Q) f = cc (substitute_absent new old P (omega arith), substitute_absent new old Q (omega arith))
substitute_absent new old (membrane P) f = cc (substitute_absent new old P f)
substitute_absent new old (rule r) f = refl

one_side : (m n : ℕ) → m + n ≡ 1 → (m ≡ 1) × (n ≡ 0) ⊎ (m ≡ 0) × (n ≡ 1)
one_side m n e = grind arith

-- what is merged to a process is merged to one that is the same
pub merges_along : {P Q S : Process} → Merges P Q → Q ≡ S → Merges P S
merges_along {P = P} d e = rw (← e) d

push_pair : (x y : ℕ) (P Q : Process) → (Free x P → Merges (pair (connector x y) P) (substitute y x P)) → (Free x Q → Merges (pair (connector x y) Q) (substitute y x Q))
    → (Free x P × Fresh x Q) ⊎ (Fresh x P × Free x Q) → Merges (pair (connector x y) (pair P Q)) (pair (substitute y x P) (substitute y x Q))
push_pair x y P Q i j (inl e) = merges_along (then group_left (merges_beside Q (i e.0))) (ap (pair (substitute y x P)) (sym (substitute_absent y x Q e.1)))
push_pair x y P Q i j (inr e) =
    merges_along (merges_join (merges_right (connector x y) (one_merge exchange)) (then group_left (merges_join (merges_beside P (j e.1)) (one_merge exchange))))
    (ap (λ k. pair k (substitute y x Q)) (sym (substitute_absent y x P e.0)))

push_inside : (x y : ℕ) (P : Process) → y ≢ x → Free x P → Merges (pair (connector x y) P) (substitute y x P) → (occurrences y P ≡ 1) ⊎ (occurrences y P ≢ 1) → Merges (pair (connector x y) (membrane P)) (membrane (substitute y x P))
push_inside x y P n f i (inl e) = then (enter x y (λ q. n (sym q)) f e) (merges_inside i)
push_inside x y P n f i (inr e) = then (enter_half x y (λ q. n (sym q)) f e) (merges_inside i)

-- a connector of a free link is merged into the process by a substitution
pub push : (x y : ℕ) (P : Process) → Free x P → y ≢ x → Merges (pair (connector x y) P) (substitute y x P)
push x y nothing f n = absurd (go f)
  where
    go : ¬ (◌≡◌ {A = ℕ} 0 1)
    go = omega arith
push x y (connector z z') f n = one_merge (fuse x y a_connector f n)
push x y (atom a xs) f n = one_merge (fuse x y an_atom f n)
push x y (pair P Q) f n = push_pair x y P Q (λ g. push x y P g n) (λ g. push x y Q g n) (one_side (occurrences x P) (occurrences x Q) f)
push x y (membrane P) f n = push_inside x y P n f (push x y P f n) (same_or_not (occurrences y P) 1)
push x y (rule r) f n = absurd (go f)
  where
    go : ¬ (◌≡◌ {A = ℕ} 0 1)
    go = omega arith

-- ---- all connectors, one after the other

-- some connectors side by side
abbrev pub row : List (ℕ × ℕ) → Process
row [] = nothing
row (p ∷ ps) = pair (connector p.0 p.1) (row ps)

-- the two links of each connector differ, and stand neither in what comes after it nor in C
abbrev pub Open : List (ℕ × ℕ) → Process → Type 0
Open [] C = Unit {0}
Open (p ∷ ps) C = (p.0 ≢ p.1) × Fresh p.0 (pair (row ps) C) × Fresh p.1 (pair (row ps) C) × Open ps C

-- what a process without connectors and a row of connectors comes to
pub record Gathered (P : Process) (k : ℕ) : Type 0 where
  pub wires : List (ℕ × ℕ)
  pub core : Process
  pub plain : NoConnector core
  pub merges : Merges P (pair (row wires) core)
  pub opens : Open wires core
  pub few : length wires ≤ k

gathered_from : {P Q : Process} {k k' : ℕ} → Merges P Q → k' ≤ k → Gathered Q k' → Gathered P k
gathered_from d b r = record { wires = r.wires; core = r.core; plain = r.plain; merges = merges_join d r.merges; opens = r.opens; few = omega (arith, r.few) }

abbrev replace_wires : ℕ → ℕ → List (ℕ × ℕ) → List (ℕ × ℕ)
replace_wires new old [] = []
replace_wires new old (p ∷ ps) = (replace new old p.0, replace new old p.1) ∷ replace_wires new old ps

replace_wires_row : (new old : ℕ) (ps : List (ℕ × ℕ)) → substitute new old (row ps) ≡ row (replace_wires new old ps)
replace_wires_row new old [] = refl
replace_wires_row new old (p ∷ ps) = ap (pair (connector (replace new old p.0) (replace new old p.1))) (replace_wires_row new old ps)

replace_wires_length : (new old : ℕ) (ps : List (ℕ × ℕ)) → length (replace_wires new old ps) ≡ length ps
replace_wires_length new old [] = refl
replace_wires_length new old (p ∷ ps) = ap suc (replace_wires_length new old ps)

no_connector_substituted : (new old : ℕ) (P : Process) → NoConnector P → NoConnector (substitute new old P)
no_connector_substituted new old nothing n = tt
no_connector_substituted new old (connector x y) n = n
no_connector_substituted new old (atom a xs) n = tt
no_connector_substituted new old (pair P Q) n = (no_connector_substituted new old P n.0, no_connector_substituted new old Q n.1)
no_connector_substituted new old (membrane P) n = no_connector_substituted new old P n
no_connector_substituted new old (rule r) n = tt

linked_merged : {P Q : Process} → Merges P Q → Linked P → Linked Q
linked_merged d l = record { at_most_twice = λ z. omega (arith, merges_shrink d z, l.at_most_twice z) }

abbrev Gathers : ℕ → Type 0
Gathers n = (ps : List (ℕ × ℕ)) (C : Process) → length ps ≤ n → NoConnector C → Linked (pair (row ps) C) → Gathered (pair (row ps) C) n

-- after a push the connectors are gathered again
push_again : (n x y : ℕ) (ps : List (ℕ × ℕ)) (C : Process) → Gathers n → length ps ≤ n → NoConnector C → Free x (pair (row ps) C) → y ≢ x → Linked (pair (connector x y) (pair (row ps) C)) → Gathered (pair (connector x y) (pair (row ps) C)) (suc n)
push_again n x y ps C again b plain f d l =
    let e : substitute y x (pair (row ps) C) ≡ pair (row (replace_wires y x ps)) (substitute y x C) = ap (λ k. pair k (substitute y x C)) (replace_wires_row y x ps) in
    let m = merges_along (push x y (pair (row ps) C) f d) e in
    gathered_from m (omega arith) (again (replace_wires y x ps) (substitute y x C) (rw (replace_wires_length y x ps) b) (no_connector_substituted y x C plain) (linked_merged m l))

zero_or_one : (n : ℕ) → n ≤ 1 → (n ≡ 0) ⊎ (n ≡ 1)
zero_or_one n b = grind arith

open_wire : (n x y : ℕ) (ps : List (ℕ × ℕ)) (C : Process) → length ps ≤ n → NoConnector C → Open ps C → x ≢ y → Fresh x (pair (row ps) C) → Fresh y (pair (row ps) C) → Gathered (pair (connector x y) (pair (row ps) C)) (suc n)
open_wire n x y ps C b plain o d f g =
    record {
      wires = (x, y) ∷ ps;
      core = C;
      plain = plain;
      merges = one_merge group_left;
      opens = (d, f, g, o);
      few = omega (arith, b);
    }

turned : {x y : ℕ} {P : Process} → Linked (pair (connector x y) P) → Linked (pair (connector y x) P)
turned l = record { at_most_twice = λ z. omega (arith, l.at_most_twice z) }

add_wire : (n x y : ℕ) (ps : List (ℕ × ℕ)) (C : Process) → Gathers n → length ps ≤ n → NoConnector C → Open ps C → Linked (pair (connector x y) (pair (row ps) C))
    → (x ≡ y) ⊎ (x ≢ y) → Gathered (pair (connector x y) (pair (row ps) C)) (suc n)
add_wire n x y ps C again b plain o l (inl e) =
    gathered_from (rw e (then (merge_beside vanish) (one_merge drop_unit))) (omega arith) (record { wires = ps; core = C; plain = plain; merges = done; opens = o; few = b })
add_wire n x y ps C again b plain o l (inr d) =
    elim (zero_or_one (occurrences x W) (omega (arith, count_first x y (occurrences x W) d, l.at_most_twice x))) [
      | inl f ↦ elim (zero_or_one (occurrences y W) (omega (arith, count_second x y (occurrences y W) d, l.at_most_twice y))) [
        | inl g ↦ open_wire n x y ps C b plain o d f g
        | inr g ↦ gathered_from (one_merge (merge_beside turn_round)) (omega arith) (push_again n y x ps C again b plain g d (turned l))
      ]
      | inr f ↦ push_again n x y ps C again b plain f (λ q. d (sym q)) l
    ]
  where
    W : Process
    W = pair (row ps) C

gather : (n : ℕ) → Gathers n
gather n [] C b plain l = record { wires = []; core = C; plain = plain; merges = done; opens = tt; few = omega arith }
gather zero (p ∷ ps) C b plain l = absurd (none_left (length ps) b)
  where
    none_left : (k : ℕ) → ¬ (suc k ≤ 0)
    none_left k = omega arith
gather (suc n) (p ∷ ps) C b plain l =
    let m : Linked (pair (row ps) C) = record { at_most_twice = λ z. omega (arith, l.at_most_twice z) } in
    let r = gather n ps C (omega (arith, b)) plain m in
    let e = then group_right (merges_right (connector p.0 p.1) r.merges) in
    gathered_from e (omega arith) (add_wire n p.0 p.1 r.wires r.core (gather n) r.few r.plain r.opens (linked_merged e l) (same_or_not p.0 p.1))

-- ---- every process

wires_join : (ps qs : List (ℕ × ℕ)) → Merges (pair (row ps) (row qs)) (row (ps ++ qs))
wires_join [] qs = one_merge drop_unit
wires_join (p ∷ ps) qs = then group_right (merges_right (connector p.0 p.1) (wires_join ps qs))

cross : (P Q S T : Process) → Merges (pair (pair P Q) (pair S T)) (pair (pair P S) (pair Q T))
cross P Q S T =
    then group_right (merges_join (merges_right P (then group_left (merges_join (merges_beside T (one_merge exchange)) (one_merge group_right)))) (one_merge group_left))

pull : (ps : List (ℕ × ℕ)) (C : Process) → Open ps C → Merges (membrane (pair (row ps) C)) (pair (row ps) (membrane C))
pull [] C o = then (merge_inside drop_unit) (one_merge add_unit)
pull (p ∷ ps) C o =
    then (merge_inside group_right) (then (leave p.0 p.1 o.0 o.1 o.2) (merges_join (merges_right (connector p.0 p.1) (pull ps C o.3)) (one_merge group_left)))

open_pulled : (ps : List (ℕ × ℕ)) (C : Process) → Open ps C → Open ps (membrane C)
open_pulled [] C o = tt
open_pulled (p ∷ ps) C o = (o.0, o.1, o.2, open_pulled ps C o.3)

-- a process is merged to some connectors and a process without any
abbrev pub NormalForm : Process → Type 0
NormalForm P = (k : ℕ) × Gathered P k

normal_pair : (P Q : Process) → Linked (pair P Q) → NormalForm P → NormalForm Q → NormalForm (pair P Q)
normal_pair P Q l i j =
    let r = i.1 in let s = j.1 in
    let ws = r.wires ++ s.wires in
    let C = pair r.core s.core in
    let V : Process = row r.wires in
    let W : Process = row s.wires in
    let a = merges_join (merges_beside Q r.merges) (merges_join (merges_right (pair V r.core) s.merges) (merges_join (cross V r.core W s.core) (merges_beside C (wires_join r.wires s.wires)))) in
    (length ws, gathered_from a (omega arith) (gather (length ws) ws C (omega arith) (r.plain, s.plain) (linked_merged a l)))

-- so it is for each linked process
pub normal : (P : Process) → Linked P → NormalForm P
normal nothing l = (0, record { wires = []; core = nothing; plain = tt; merges = one_merge add_unit; opens = tt; few = omega arith })
normal (connector x y) l =
    let a = then add_unit (then exchange (then add_unit (one_merge exchange))) in
    (1, gathered_from a (omega arith) (gather 1 ((x, y) ∷ []) nothing (omega arith) tt (linked_merged a l)))
normal (atom a xs) l = (0, record { wires = []; core = atom a xs; plain = tt; merges = one_merge add_unit; opens = tt; few = omega arith })
normal (pair P Q) l =
    normal_pair P Q l (normal P (record { at_most_twice = λ z. omega (arith, l.at_most_twice z) })) (normal Q (record { at_most_twice = λ z. omega (arith, l.at_most_twice z) }))
normal (membrane P) l =
    let i = normal P (record { at_most_twice = l.at_most_twice }) in
    let r = i.1 in
    (i.0, record { wires = r.wires; core = membrane r.core; plain = r.plain; merges = merges_join (merges_inside r.merges) (pull r.wires r.core r.opens); opens = open_pulled r.wires r.core r.opens; few = r.few })
normal (rule r) l = (0, record { wires = []; core = rule r; plain = tt; merges = one_merge add_unit; opens = tt; few = omega arith })
