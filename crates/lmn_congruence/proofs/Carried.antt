-- A map of links that joins connectors is carried along a congruence, and gives the same process up to order.
use Rattle.std.proofs.Common.{ℕ, ◌≡◌, ◌≢◌, ◌+◌, ◌≤◌, ◌⊎◌, cond, eqb, refl, sym, ◌∙◌, ap, inl, inr, arith}
use Rattle.lmn_congruence.specs.Process.{Process, nothing, connector, atom, pair, membrane, rule, occurrences, replace, Free, Fresh, Linked, substitute}
use Rattle.lmn_congruence.specs.Congruence.{Congruent, unit, swap, regroup, rename, beside, inside, loop, turn, absorb, pass, same, back, chain}
use Rattle.lmn_congruence.specs.Fused.{Joins, fused}
use Rattle.lmn_congruence.specs.UpToOrder.{Reordered, r_unit, r_swap, r_regroup, r_beside, r_inside, r_same, r_back, r_chain}
use Rattle.lmn_congruence.proofs.Counts.{Alike, flip_alike, same_free, fresh_differs, apart, occurrences_old, first_in, second_in, map_agree, map_after, replaced_here, replaced_other}
use Rattle.lmn_congruence.proofs.Reordered.{nothing_out}
use Rattle.lmn_base.proofs.Numbers.{same_or_not, left_not_zero, right_not_zero, not_zero_if_one}

-- maps that agree on the links of a process
pub joins_agree : (u v : ℕ → ℕ) (P : Process) → ((z : ℕ) → occurrences z P ≢ 0 → u z ≡ v z) → Joins v P → Joins u P
joins_agree u v nothing h j = tt
joins_agree u v (connector x y) h j = h x (first_in x y) ∙ j ∙ sym (h y (second_in x y))
joins_agree u v (atom a xs) h j = tt
joins_agree u v (pair P Q) h j = (
  joins_agree u v P (λ z n. h z (left_not_zero (occurrences z P) (occurrences z Q) n)) j.0,
  joins_agree u v Q (λ z n. h z (right_not_zero (occurrences z P) (occurrences z Q) n)) j.1,
)
joins_agree u v (membrane P) h j = joins_agree u v P h j
joins_agree u v (rule r) h j = tt

-- maps that agree on the links of a process fuse it alike
pub fused_agree : (u v : ℕ → ℕ) (P : Process) → ((z : ℕ) → occurrences z P ≢ 0 → u z ≡ v z) → fused u P ≡ fused v P
fused_agree u v nothing h = refl
fused_agree u v (connector x y) h = refl
fused_agree u v (atom a xs) h = ap (atom a) (map_agree u v xs h)
fused_agree u v (pair P Q) h =
    cc (fused_agree u v P (λ z n. h z (left_not_zero (occurrences z P) (occurrences z Q) n)), fused_agree u v Q (λ z n. h z (right_not_zero (occurrences z P) (occurrences z Q) n)))
fused_agree u v (membrane P) h = cc (fused_agree u v P h)
fused_agree u v (rule r) h = refl

-- a map after a substitution, and before it
joins_after : (v : ℕ → ℕ) (new old : ℕ) (P : Process) → Joins (λ z. v (replace new old z)) P → Joins v (substitute new old P)
joins_after v new old nothing j = tt
joins_after v new old (connector x y) j = j
joins_after v new old (atom a xs) j = tt
joins_after v new old (pair P Q) j = (joins_after v new old P j.0, joins_after v new old Q j.1)
joins_after v new old (membrane P) j = joins_after v new old P j
joins_after v new old (rule r) j = tt

joins_before : (v : ℕ → ℕ) (new old : ℕ) (P : Process) → Joins v (substitute new old P) → Joins (λ z. v (replace new old z)) P
joins_before v new old nothing j = tt
joins_before v new old (connector x y) j = j
joins_before v new old (atom a xs) j = tt
joins_before v new old (pair P Q) j = (joins_before v new old P j.0, joins_before v new old Q j.1)
joins_before v new old (membrane P) j = joins_before v new old P j
joins_before v new old (rule r) j = tt

fused_substituted : (v : ℕ → ℕ) (new old : ℕ) (P : Process) → fused v (substitute new old P) ≡ fused (λ z. v (replace new old z)) P
fused_substituted v new old nothing = refl
fused_substituted v new old (connector x y) = refl
fused_substituted v new old (atom a xs) = ap (atom a) (map_after v (replace new old) (λ z. v (replace new old z)) xs (λ x n. refl))
fused_substituted v new old (pair P Q) = cc (fused_substituted v new old P, fused_substituted v new old Q)
fused_substituted v new old (membrane P) = cc (fused_substituted v new old P)
fused_substituted v new old (rule r) = refl

-- ---- what is carried

-- a map of Q that agrees with v on the free links of P, and fuses Q to the same process up to order
pub record Carried (v : ℕ → ℕ) (P Q : Process) : Type 0 where
  pub to : ℕ → ℕ
  pub joins : Joins to Q
  pub agrees : (z : ℕ) → Free z P → to z ≡ v z
  pub order : Reordered (fused v P) (fused to Q)

-- each map that joins the connectors of P has one of Q that fuses Q to the same process up to order
abbrev pub Carries : Process → Process → Type 0
Carries P Q = (v : ℕ → ℕ) → Joins v P → Carried v P Q

-- so it is where each map that joins the connectors of P joins those of Q and fuses both alike
pub carried_as : (P Q : Process) → ((v : ℕ → ℕ) → Joins v P → Joins v Q) → ((v : ℕ → ℕ) → Reordered (fused v P) (fused v Q)) → Carries P Q
carried_as P Q h o = λ v j. record { to = v; joins = h v j; agrees = λ z f. refl; order = o v }

-- from P to Q and on to S
pub carried_chain : (P Q S : Process) → ((z : ℕ) → Free z P → Free z Q) → Carries P Q → Carries Q S → Carries P S
carried_chain P Q S f i j = λ v k.
    let a = i v k in
    let b = j a.to a.joins in
    record { to = b.to; joins = b.joins; agrees = λ z e. b.agrees z (f z e) ∙ a.agrees z e; order = r_chain a.order b.order }

-- and within a membrane
pub carried_inside : (P Q : Process) → Carries P Q → Carries (membrane P) (membrane Q)
carried_inside P Q i = λ v k. let a = i v k in record { to = a.to; joins = a.joins; agrees = a.agrees; order = r_inside a.order }

-- put an image at one link
abbrev put : (ℕ → ℕ) → ℕ → ℕ → ℕ → ℕ
put v x k z = cond (eqb z x) k (v z)

put_here : (v : ℕ → ℕ) (x k : ℕ) → put v x k x ≡ k
put_here v x k = grind arith

put_other : (v : ℕ → ℕ) (x k z : ℕ) → z ≢ x → put v x k z ≡ v z
put_other v x k z n = grind arith

carried_rename : (x y : ℕ) (P : Process) → y ≢ x → Fresh y P → Carries P (substitute y x P)
carried_rename x y P d n = λ v k.
    let u = put v y (v x) in
    let same_there : (z : ℕ) → occurrences z P ≢ 0 → u (replace y x z) ≡ v z = λ z o. at v z o (same_or_not z x) in
    record {
      to = u;
      joins = joins_after u y x P (joins_agree (λ z. u (replace y x z)) v P same_there k);
      agrees = λ z f. put_other v y (v x) z (λ e. not_zero_if_one (occurrences z P) f (rw e n));
      order = r_same (sym (fused_substituted u y x P ∙ fused_agree (λ z. u (replace y x z)) v P same_there));
    }
  where
    at : (v : ℕ → ℕ) (z : ℕ) → occurrences z P ≢ 0 → (z ≡ x) ⊎ (z ≢ x) → put v y (v x) (replace y x z) ≡ v z
    at v z o (inl e) = rw (e, replaced_here y x) (put_here v y (v x))
    at v z o (inr e) = rw (replaced_other y x z e) (put_other v y (v x) z (λ q. o (rw q n)))

carried_back : (x y : ℕ) (P : Process) → y ≢ x → Carries (substitute y x P) P
carried_back x y P d = λ v k. record {
  to = λ z. v (replace y x z);
  joins = joins_before v y x P k;
  agrees = λ z f. ap v (replaced_other y x z (λ e. not_zero_if_one (occurrences z (substitute y x P)) f (rw e (occurrences_old y x P d))));
  order = r_same (fused_substituted v y x P);
}

carried_absorb : (x y : ℕ) (P : Process) → y ≢ x → Carries (pair (connector x y) P) (substitute y x P)
carried_absorb x y P d = λ v k.
    let same_there : (z : ℕ) → occurrences z P ≢ 0 → v (replace y x z) ≡ v z = λ z o. at v z k.0 (same_or_not z x) in
    record {
      to = v;
      joins = joins_after v y x P (joins_agree (λ z. v (replace y x z)) v P same_there k.1);
      agrees = λ z f. refl;
      order = r_chain r_unit (r_same (sym (fused_substituted v y x P ∙ fused_agree (λ z. v (replace y x z)) v P same_there)));
    }
  where
    at : (v : ℕ → ℕ) (z : ℕ) → v x ≡ v y → (z ≡ x) ⊎ (z ≢ x) → v (replace y x z) ≡ v z
    at v z k (inl e) = rw (e, replaced_here y x) (sym k)
    at v z k (inr e) = ap v (replaced_other y x z e)

carried_expose : (x y : ℕ) (P : Process) → y ≢ x → Carries (substitute y x P) (pair (connector x y) P)
carried_expose x y P d = λ v k. record {
  to = λ z. v (replace y x z);
  joins = (ap v (replaced_here y x ∙ sym (replaced_other y x y d)), joins_before v y x P k);
  agrees = λ z f. ap v (replaced_other y x z (λ e. not_zero_if_one (occurrences z (substitute y x P)) f (rw e (occurrences_old y x P d))));
  order = r_chain (r_same (fused_substituted v y x P)) (r_back r_unit);
}

beside_case : (p p' q m n : ℕ) → Alike p p' → p' + q ≤ 2 → q ≢ 0 → (p ≡ 1 → n ≡ m) → cond (eqb p' 0) m n ≡ m
beside_case p p' q m n a b o g = go (same_or_not p' 0)
  where
    go : (p' ≡ 0) ⊎ (p' ≢ 0) → cond (eqb p' 0) m n ≡ m
    go (inl e) = rw e refl
    go (inr e) = let one : p' ≡ 1 = omega arith in rw (one, g (a.back_again one)) refl

free_case : (p p' q m n : ℕ) → Alike p p' → p' + q ≤ 2 → p + q ≡ 1 → (p ≡ 1 → n ≡ m) → cond (eqb p' 0) m n ≡ m
free_case p p' q m n a b e g = go (same_or_not p' 0) (same_or_not p 1)
  where
    go : (p' ≡ 0) ⊎ (p' ≢ 0) → (p ≡ 1) ⊎ (p ≢ 1) → cond (eqb p' 0) m n ≡ m
    go (inl f) k = rw f refl
    go (inr f) (inl k) = rw (a.there k, g k) refl
    go (inr f) (inr k) = let one : p' ≡ 1 = omega arith in absurd (k (a.back_again one))

-- beside a process that shares links with it
pub carried_beside : (P P' Q : Process) → ((z : ℕ) → Alike (occurrences z P) (occurrences z P')) → Linked (pair P Q) → Linked (pair P' Q) → Carries P P' → Carries (pair P Q) (pair P' Q)
carried_beside P P' Q f l l' i = λ v k.
    let a = i v k.0 in
    let u : ℕ → ℕ = λ z. cond (eqb (occurrences z P') 0) (v z) (a.to z) in
    let here : (z : ℕ) → occurrences z P' ≢ 0 → u z ≡ a.to z = λ z o. there z (v z) (a.to z) o in
    let beside_it : (z : ℕ) → occurrences z Q ≢ 0 → u z ≡ v z = λ z o. beside_case (occurrences z P) (occurrences z P') (occurrences z Q) (v z) (a.to z) (f z) (l'.at_most_twice z) o (a.agrees z) in
    record {
      to = u;
      joins = (joins_agree u a.to P' here a.joins, joins_agree u v Q beside_it k.1);
      agrees = λ z e. free_case (occurrences z P) (occurrences z P') (occurrences z Q) (v z) (a.to z) (f z) (l'.at_most_twice z) e (a.agrees z);
      order = r_chain (r_beside a.order) (r_same (sym (paired (fused_agree u a.to P' here) (fused_agree u v Q beside_it))));
    }
  where
    there : (z m n : ℕ) → occurrences z P' ≢ 0 → cond (eqb (occurrences z P') 0) m n ≡ n
    there z m n o = grind arith

    paired : {X X' Y Y' : Process} → X ≡ X' → Y ≡ Y' → pair X Y ≡ pair X' Y'
    paired e f = cc (e, f)

-- congruence carries maps, both ways
pub congruence_carries : {P Q : Process} → Congruent P Q → Carries P Q × Carries Q P
congruence_carries (unit {P = P} l) = (carried_as (pair nothing P) P (λ v k. k.1) (λ v. r_unit), carried_as P (pair nothing P) (λ v k. (tt, k)) (λ v. r_back r_unit))
congruence_carries (swap {P = P} {Q = Q} l) = (carried_as (pair P Q) (pair Q P) (λ v k. (k.1, k.0)) (λ v. r_swap), carried_as (pair Q P) (pair P Q) (λ v k. (k.1, k.0)) (λ v. r_swap))
congruence_carries (regroup {P = P} {Q = Q} {S = S} l) = (
  carried_as (pair P (pair Q S)) (pair (pair P Q) S) (λ v k. ((k.0, k.1.0), k.1.1)) (λ v. r_regroup),
  carried_as (pair (pair P Q) S) (pair P (pair Q S)) (λ v k. (k.0.0, (k.0.1, k.1))) (λ v. r_back r_regroup),
)
congruence_carries (rename {P = P} x y l f n) = let d = fresh_differs x y P f n in (carried_rename x y P d n, carried_back x y P d)
congruence_carries (beside {P = P} {P' = P'} {Q = Q} d l l') =
    let i = congruence_carries d in
    (carried_beside P P' Q (same_free d) l l' i.0, carried_beside P' P Q (λ z. flip_alike (occurrences z P) (occurrences z P') (same_free d z)) l' l i.1)
congruence_carries (inside {P = P} {P' = P'} d) = let i = congruence_carries d in (carried_inside P P' i.0, carried_inside P' P i.1)
congruence_carries (loop {x = x}) = (carried_as (connector x x) nothing (λ v k. tt) (λ v. r_same refl), carried_as nothing (connector x x) (λ v k. refl) (λ v. r_same refl))
congruence_carries (turn {x = x} {y = y}) = (carried_as (connector x y) (connector y x) (λ v k. sym k) (λ v. r_same refl), carried_as (connector y x) (connector x y) (λ v k. sym k) (λ v. r_same refl))
congruence_carries (absorb {P = P} x y a f l) = let d = apart x y P f l in (carried_absorb x y P d, carried_expose x y P d)
congruence_carries (pass {P = P} x y e l) = (
  carried_as (membrane (pair (connector x y) P)) (pair (connector x y) (membrane P)) (λ v k. k) (λ v. nothing_out),
  carried_as (pair (connector x y) (membrane P)) (membrane (pair (connector x y) P)) (λ v k. k) (λ v. r_back nothing_out),
)
congruence_carries (same {P = P} l) = (carried_as P P (λ v k. k) (λ v. r_same refl), carried_as P P (λ v k. k) (λ v. r_same refl))
congruence_carries (back d) = let i = congruence_carries d in (i.1, i.0)
congruence_carries (chain {P = P} {Q = Q} {S = S} d e) =
    let i = congruence_carries d in
    let j = congruence_carries e in
    (carried_chain P Q S (λ z. (same_free d z).there) i.0 j.0, carried_chain S Q P (λ z. (same_free e z).back_again) j.1 i.1)
