-- Local links may be renamed all at once.
use Rattle.std.proofs.Common.{ℕ, zero, suc, ◌≡◌, ◌≢◌, ◌+◌, ◌≤◌, ◌<◌, ◌⊎◌, cond, eqb, ltb, List, [], ◌∷◌, map, refl, sym, ◌∙◌, ap, inl, inr, arith}
use Rattle.std.proofs.lemmas.List.{map-id}
use Rattle.lmn_congruence.specs.Links.{one_if_same, places}
use Rattle.lmn_congruence.specs.Process.{Process, nothing, connector, atom, pair, membrane, rule, occurrences, replace, Free, Local, Linked, substitute, renamed, OneToOneOn}
use Rattle.lmn_congruence.specs.Congruence.{Congruent, rename, same, chain}
use Rattle.lmn_congruence.proofs.Counts.{one_if_equal, none_if_apart, less_apart, linked_both, Occurs, in_head, in_tail, first_in, second_in, occurs_twice, map_after, map_agree, replaced_here, replaced_other}
use Rattle.lmn_congruence.specs.FreeLinks.{sum_below, link_bound}
use Rattle.lmn_congruence.proofs.Totals.{highest}
use Rattle.lmn_congruence.proofs.Crossings.{occurs_below}
use Rattle.lmn_base.proofs.Numbers.{same_or_not, below_or_from, left_not_zero, right_not_zero, not_zero_if_one, three_ways, below_not_above}

-- two renamings one after the other, where they agree with a third on the links of the process
pub substitute_renamed : (new old : ℕ) (g h : ℕ → ℕ) (P : Process) → ((x : ℕ) → Occurs x P → replace new old (g x) ≡ h x) → substitute new old (renamed g P) ≡ renamed h P
substitute_renamed new old g h nothing e = refl
substitute_renamed new old g h (connector x y) e = cc (e x (first_in x y), e y (second_in x y))
substitute_renamed new old g h (atom a xs) e = ap (atom a) (map_after (replace new old) g h xs e)
substitute_renamed new old g h (pair P Q) e =
    cc (substitute_renamed new old g h P (λ x n. e x (left_not_zero (occurrences x P) (occurrences x Q) n)), substitute_renamed new old g h Q (λ x n. e x (right_not_zero (occurrences x P) (occurrences x Q) n)))
substitute_renamed new old g h (membrane P) e = cc (substitute_renamed new old g h P e)
substitute_renamed new old g h (rule r) e = refl

-- maps that agree on the links of a process rename it alike
pub renamed_agree : (g h : ℕ → ℕ) (P : Process) → ((x : ℕ) → Occurs x P → g x ≡ h x) → renamed g P ≡ renamed h P
renamed_agree g h nothing e = refl
renamed_agree g h (connector x y) e = cc (e x (first_in x y), e y (second_in x y))
renamed_agree g h (atom a xs) e = ap (atom a) (map_agree g h xs e)
renamed_agree g h (pair P Q) e =
    cc (renamed_agree g h P (λ x n. e x (left_not_zero (occurrences x P) (occurrences x Q) n)), renamed_agree g h Q (λ x n. e x (right_not_zero (occurrences x P) (occurrences x Q) n)))
renamed_agree g h (membrane P) e = cc (renamed_agree g h P e)
renamed_agree g h (rule r) e = refl

-- renamed by the map that changes nothing a process is itself
pub renamed_id : (P : Process) → renamed (λ x. x) P ≡ P
renamed_id nothing = refl
renamed_id (connector x y) = refl
renamed_id (atom a xs) = ap (atom a) (map-id xs)
renamed_id (pair P Q) = cc (renamed_id P, renamed_id Q)
renamed_id (membrane P) = cc (renamed_id P)
renamed_id (rule r) = refl

-- how often the image of a link occurs, where no other link goes there
one_image : (h : ℕ → ℕ) (x z : ℕ) → (h z ≡ h x → z ≡ x) → one_if_same (h x) (h z) ≡ one_if_same x z
one_image h x z e = go (same_or_not x z) (same_or_not (h x) (h z))
  where
    go : (x ≡ z) ⊎ (x ≢ z) → (h x ≡ h z) ⊎ (h x ≢ h z) → one_if_same (h x) (h z) ≡ one_if_same x z
    go (inl p) k = one_if_equal (h x) (h z) (ap h p) ∙ sym (one_if_equal x z p)
    go (inr p) (inl q) = absurd (p (sym (e (sym q))))
    go (inr p) (inr q) = none_if_apart (h x) (h z) q ∙ sym (none_if_apart x z p)

places_image : (h : ℕ → ℕ) (x : ℕ) (zs : List ℕ) → ((z : ℕ) → places z zs ≢ 0 → h z ≡ h x → z ≡ x) → places (h x) (map h zs) ≡ places x zs
places_image h x [] e = refl
places_image h x (z ∷ zs) e = omega (arith, one_image h x z (e z (in_head z zs)), places_image h x zs (λ y n. e y (in_tail z y zs n)))

-- an image that comes from one link alone occurs as often as that
pub occurrences_image : (h : ℕ → ℕ) (x : ℕ) (P : Process) → ((z : ℕ) → Occurs z P → h z ≡ h x → z ≡ x) → occurrences (h x) (renamed h P) ≡ occurrences x P
occurrences_image h x nothing e = refl
occurrences_image h x (connector y z) e = omega (arith, one_image h x y (e y (first_in y z)), one_image h x z (e z (second_in y z)))
occurrences_image h x (atom a zs) e = places_image h x zs e
occurrences_image h x (pair P Q) e =
    omega (arith, occurrences_image h x P (λ z n. e z (left_not_zero (occurrences z P) (occurrences z Q) n)), occurrences_image h x Q (λ z n. e z (right_not_zero (occurrences z P) (occurrences z Q) n)))
occurrences_image h x (membrane P) e = occurrences_image h x P e
occurrences_image h x (rule r) e = refl

-- a link to which nothing goes
places_none : (h : ℕ → ℕ) (x : ℕ) (zs : List ℕ) → ((z : ℕ) → places z zs ≢ 0 → h z ≢ x) → places x (map h zs) ≡ 0
places_none h x [] e = refl
places_none h x (z ∷ zs) e = omega (arith, none_if_apart x (h z) (λ q. e z (in_head z zs) (sym q)), places_none h x zs (λ y n. e y (in_tail z y zs n)))

-- what is no image of a link of the process doesn't occur after the renaming
pub occurrences_none : (h : ℕ → ℕ) (x : ℕ) (P : Process) → ((z : ℕ) → Occurs z P → h z ≢ x) → occurrences x (renamed h P) ≡ 0
occurrences_none h x nothing e = refl
occurrences_none h x (connector y z) e = omega (arith, none_if_apart x (h y) (λ q. e y (first_in y z) (sym q)), none_if_apart x (h z) (λ q. e z (second_in y z) (sym q)))
occurrences_none h x (atom a zs) e = places_none h x zs e
occurrences_none h x (pair P Q) e =
    omega (arith, occurrences_none h x P (λ z n. e z (left_not_zero (occurrences z P) (occurrences z Q) n)), occurrences_none h x Q (λ z n. e z (right_not_zero (occurrences z P) (occurrences z Q) n)))
occurrences_none h x (membrane P) e = occurrences_none h x P e
occurrences_none h x (rule r) e = refl

-- ---- one renaming after another

-- From the renaming a the renaming b is reached link by link.
pub record Movable (a b : ℕ → ℕ) (P : Process) : Type 0 where
  pub one_a : OneToOneOn a P
  pub one_b : OneToOneOn b P
  pub free_stay : (x : ℕ) → Free x P → a x ≡ b x
  pub local_fresh : (x y : ℕ) → Local x P → Occurs y P → a y ≢ b x

-- b below n, and a from there on
abbrev mixed : ℕ → (ℕ → ℕ) → (ℕ → ℕ) → ℕ → ℕ
mixed n a b x = cond (ltb x n) (b x) (a x)

mixed_below : (n : ℕ) (a b : ℕ → ℕ) (x : ℕ) → x < n → mixed n a b x ≡ b x
mixed_below n a b x l = grind arith

mixed_from : (n : ℕ) (a b : ℕ → ℕ) (x : ℕ) → n ≤ x → mixed n a b x ≡ a x
mixed_from n a b x l = grind arith

how_often : (n : ℕ) → n ≤ 2 → (n ≡ 0) ⊎ ((n ≡ 1) ⊎ (n ≡ 2))
how_often n l = grind arith

module _ (a b : ℕ → ℕ) (P : Process) (m : Movable a b P) (l : Linked P) where
  -- a link below n, at its new name, is not the old name of n
  new_not_old : (x n : ℕ) → x < n → Occurs x P → Occurs n P → b x ≢ a n
  new_not_old x n c o o' = go (how_often (occurrences x P) (l.at_most_twice x))
    where
      go : (occurrences x P ≡ 0) ⊎ ((occurrences x P ≡ 1) ⊎ (occurrences x P ≡ 2)) → b x ≢ a n
      go (inl e) = absurd (o e)
      go (inr (inl e)) = λ q. less_apart x n c (m.one_a x n o o' (m.free_stay x e ∙ q))
      go (inr (inr e)) = λ q. m.local_fresh x n e o' (sym q)

  mixed_image : (n z : ℕ) → Occurs n P → Occurs z P → mixed n a b z ≡ a n → z ≡ n
  mixed_image n z o o' e = go (below_or_from z n)
    where
      go : (z < n) ⊎ (n ≤ z) → z ≡ n
      go (inl c) = absurd (new_not_old z n c o' o (sym (mixed_below n a b z c) ∙ e))
      go (inr c) = m.one_a z n o' o (sym (mixed_from n a b z c) ∙ e)

  mixed_not_new : (n z : ℕ) → Local n P → Occurs z P → mixed n a b z ≢ b n
  mixed_not_new n z f o = go (below_or_from z n)
    where
      go : (z < n) ⊎ (n ≤ z) → mixed n a b z ≢ b n
      go (inl c) = λ e. less_apart z n c (m.one_b z n o (occurs_twice (occurrences n P) f) (sym (mixed_below n a b z c) ∙ e))
      go (inr c) = λ e. m.local_fresh n z f o (sym (mixed_from n a b z c) ∙ e)

  stays_next : (n x : ℕ) → x ≢ n → mixed n a b x ≡ mixed (suc n) a b x
  stays_next n x d = go (three_ways x n)
    where
      go : (x < n) ⊎ ((x ≡ n) ⊎ (n < x)) → mixed n a b x ≡ mixed (suc n) a b x
      go (inl c) = mixed_below n a b x c ∙ sym (mixed_below (suc n) a b x (omega arith))
      go (inr (inl e)) = absurd (d e)
      go (inr (inr c)) = mixed_from n a b x (omega arith) ∙ sym (mixed_from (suc n) a b x c)

  next_here : (n : ℕ) → mixed (suc n) a b n ≡ b n
  next_here n = mixed_below (suc n) a b n (omega arith)

  from_here : (n : ℕ) → mixed n a b n ≡ a n
  from_here n = mixed_from n a b n (omega arith)

  replaced_next : (n x : ℕ) → Local n P → Occurs x P → replace (b n) (a n) (mixed n a b x) ≡ mixed (suc n) a b x
  replaced_next n x f o = go (same_or_not x n)
    where
      go : (x ≡ n) ⊎ (x ≢ n) → replace (b n) (a n) (mixed n a b x) ≡ mixed (suc n) a b x
      go (inl e) = rw (e, from_here n, replaced_here (b n) (a n)) (sym (next_here n))
      go (inr d) = replaced_other (b n) (a n) (mixed n a b x) (λ q. d (mixed_image n x (occurs_twice (occurrences n P) f) o q)) ∙ stays_next n x d

  move_one : (n : ℕ) → Linked (renamed (mixed n a b) P) → Congruent (renamed (mixed n a b) P) (renamed (mixed (suc n) a b) P)
  move_one n k = go (how_often (occurrences n P) (l.at_most_twice n))
    where
      unchanged : ((x : ℕ) → Occurs x P → mixed n a b x ≡ mixed (suc n) a b x) → Congruent (renamed (mixed n a b) P) (renamed (mixed (suc n) a b) P)
      unchanged e = rw (← renamed_agree (mixed n a b) (mixed (suc n) a b) P e) (same k)

      free : occurrences n P ≡ 1 → (x : ℕ) → (x ≡ n) ⊎ (x ≢ n) → mixed n a b x ≡ mixed (suc n) a b x
      free f x (inl e) = rw e (from_here n ∙ m.free_stay n f ∙ sym (next_here n))
      free f x (inr d) = stays_next n x d

      moved : Local n P → Congruent (renamed (mixed n a b) P) (renamed (mixed (suc n) a b) P)
      moved f =
          let o = occurs_twice (occurrences n P) f in
          let i = occurrences_image (mixed n a b) n P (λ z o' e. mixed_image n z o o' (e ∙ from_here n)) in
          let j : Local (a n) (renamed (mixed n a b) P) = ap (λ k. occurrences k (renamed (mixed n a b) P)) (sym (from_here n)) ∙ i ∙ f in
          let g = occurrences_none (mixed n a b) (b n) P (λ z o'. mixed_not_new n z f o') in
          rw (← substitute_renamed (b n) (a n) (mixed n a b) (mixed (suc n) a b) P (λ x o'. replaced_next n x f o')) (rename (a n) (b n) k j g)

      go : (occurrences n P ≡ 0) ⊎ ((occurrences n P ≡ 1) ⊎ (occurrences n P ≡ 2)) → Congruent (renamed (mixed n a b) P) (renamed (mixed (suc n) a b) P)
      go (inl e) = unchanged (λ x o. stays_next n x (λ q. o (ap (λ k. occurrences k P) q ∙ e)))
      go (inr (inl e)) = unchanged (λ x o. free e x (same_or_not x n))
      go (inr (inr e)) = moved e

  move_up_to : (n : ℕ) → Linked (renamed (mixed 0 a b) P) → Congruent (renamed (mixed 0 a b) P) (renamed (mixed n a b) P)
  move_up_to zero k = same k
  move_up_to (suc n) k = let c = move_up_to n k in chain c (move_one n (linked_both c).1)

  pub move : Linked (renamed a P) → Congruent (renamed a P) (renamed b P)
  move k =
      let start : renamed (mixed 0 a b) P ≡ renamed a P = renamed_agree (mixed 0 a b) a P (λ x o. mixed_from 0 a b x (omega arith)) in
      let end : renamed (mixed (link_bound P) a b) P ≡ renamed b P = renamed_agree (mixed (link_bound P) a b) b P (λ x o. mixed_below (link_bound P) a b x (occurs_below P x o)) in
      rw (← start, ← end) (move_up_to (link_bound P) (rw start k))

-- ---- a renaming that is one to one and leaves the free links

-- each link that is not free moved up by K
abbrev pub moved_away : ℕ → Process → ℕ → ℕ
moved_away K P x = cond (eqb (occurrences x P) 1) x (x + K)

-- a free link stays
pub away_free : (K x : ℕ) (P : Process) → Free x P → moved_away K P x ≡ x
away_free K x P f = rw f refl

-- a link that is not free is moved
pub away_local : (K x : ℕ) (P : Process) → occurrences x P ≢ 1 → moved_away K P x ≡ x + K
away_local K x P f = grind arith

-- no two links of a process with links below K are moved to one
pub away_apart : (K : ℕ) (P : Process) → ((x : ℕ) → Occurs x P → x < K) → (x y : ℕ) → moved_away K P x ≡ moved_away K P y → x ≡ y
away_apart K P above x y e = go (same_or_not (occurrences x P) 1) (same_or_not (occurrences y P) 1)
  where
    low : (x : ℕ) → Free x P → x < K
    low x f = above x (not_zero_if_one (occurrences x P) f)

    go : Free x P ⊎ (occurrences x P ≢ 1) → Free y P ⊎ (occurrences y P ≢ 1) → x ≡ y
    go (inl f) (inl g) = sym (away_free K x P f) ∙ e ∙ away_free K y P g
    go (inl f) (inr g) = absurd (below_not_above K x y (low x f) (sym (away_free K x P f) ∙ e ∙ away_local K y P g))
    go (inr f) (inl g) = absurd (below_not_above K y x (low y g) (sym (away_free K y P g) ∙ sym e ∙ away_local K x P f))
    go (inr f) (inr g) = let q : x + K ≡ y + K = sym (away_local K x P f) ∙ e ∙ away_local K y P g in omega arith

module _ (K : ℕ) (P : Process) (l : Linked P) (above : (x : ℕ) → Occurs x P → x < K) where
  free_or_not : (x : ℕ) → Free x P ⊎ (occurrences x P ≢ 1)
  free_or_not x = same_or_not (occurrences x P) 1

  away_one : OneToOneOn (moved_away K P) P
  away_one x y o o' e = away_apart K P above x y e

  local_not_free : (x : ℕ) → Local x P → occurrences x P ≢ 1
  local_not_free x f = λ e. absurd (two_one (sym f ∙ e))
    where
      two_one : ¬ (◌≡◌ {A = ℕ} 2 1)
      two_one = omega arith

  away_first : Movable (λ x. x) (moved_away K P) P
  away_first = record {
    one_a = λ x y o o' e. e;
    one_b = away_one;
    free_stay = λ x f. sym (away_free K x P f);
    local_fresh = λ x y f o e. below_not_above K y x (above y o) (e ∙ away_local K x P (local_not_free x f));
  }

  module _ (f : ℕ → ℕ) (one : OneToOneOn f P) (stay : (x : ℕ) → Free x P → f x ≡ x) (low : (x : ℕ) → Occurs x P → f x < K) where
    away_then : Movable (moved_away K P) f P
    away_then = record {
      one_a = away_one;
      one_b = one;
      free_stay = λ x e. away_free K x P e ∙ sym (stay x e);
      local_fresh = λ x y e o q. go x y e o q (free_or_not y);
    }
      where
        go : (x y : ℕ) → Local x P → Occurs y P → moved_away K P y ≡ f x → Free y P ⊎ (occurrences y P ≢ 1) → ⊥
        go x y e o q (inl g) =
            let p : y ≡ x = one y x o (occurs_twice (occurrences x P) e) (stay y g ∙ sym (away_free K y P g) ∙ q) in
            local_not_free x e (sym (ap (λ k. occurrences k P) p) ∙ g)
        go x y e o q (inr g) = below_not_above K (f x) y (low x (occurs_twice (occurrences x P) e)) (sym q ∙ away_local K y P g)

    rename_below : Congruent P (renamed f P)
    rename_below =
        let i = move (λ x. x) (moved_away K P) P away_first l (rw (renamed_id P) l) in
        let j = move (moved_away K P) f P away_then l (linked_both i).1 in
        chain (rw (renamed_id P) at i) j

-- Local links may be renamed all at once.
pub rename_all : (f : ℕ → ℕ) (P : Process) → Linked P → OneToOneOn f P → ((x : ℕ) → Free x P → f x ≡ x) → Congruent P (renamed f P)
rename_all f P l one stay =
    rename_below (link_bound P + sum_below (link_bound P) (λ y. suc (f y))) P l (λ x o. omega (arith, occurs_below P x o)) f one stay
    (λ x o. omega (arith, highest (link_bound P) f x (occurs_below P x o)))
