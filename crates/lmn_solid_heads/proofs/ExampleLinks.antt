-- Links of heads in small heaps.
use Rattle.std.proofs.Common.{true, false, false, ℕ, zero, suc, ◌≡◌, ◌≢◌, ◌⊎◌, [], ◌∷◌, Option, Some, None, slice_get, refl, sym, ◌∙◌, ap, subst, inl, inr, arith}
use Rattle.std.proofs.lemmas.Option.{same_Some}
use Rattle.lmn_base.specs.declared.functor.Functor.{Functor}
use Rattle.lmn_base.specs.declared.functor.Label.{Label}
use Rattle.lmn_base.specs.declared.functor.Label.TheVariants.{Name, Int}
use Rattle.lmn_store_heap.specs.Conditions.{Above}
use Rattle.lmn_store_heap.specs.Heap.{atoms_in, functor_of, link_of, mems_in, rules_in}
use Rattle.lmn_solid_heads.specs.Embeddings.{Images, Lies, Embeds, HasAtom, HasLink, IsAtomImage, StandsWithin}
use Rattle.lmn_solid_heads.specs.Examples.{a_of_arity, b_of_arity, a_joined_to_b, a_with_b, c_between, LinksJoin, a_apart_from_b, through_the_wall, a_beside_b, a_with_b_inside, LinksLeave, LinksMayStay}
use Rattle.lmn_solid_heads.specs.Heads.{HeadAtom, HeadMembrane, membranes_of, outermost}
use Rattle.lmn_solid_heads.proofs.Found.{found_none, found_one}
use Rattle.lmn_base.specs.Graphs.{Port}
use Rattle.lmn_base.specs.Lists.{In}

-- ---- names

abbrev name_by : Label → ℕ
name_by (Name n) = n
name_by (Int z) = 0

abbrev name_in : Option Functor → ℕ
name_in None = 0
name_in (Some f) = name_by f.label

-- functors that are the same have one name
pub not_a_name : (n k : ℕ) (x y : Option Functor) → x ≡ y → name_in x ≡ n → name_in y ≡ k → n ≡ k
not_a_name n k x y e p q = sym p ∙ ap name_in e ∙ q

-- 5 is not 4
pub four_five : ◌≡◌ {A = ℕ} 5 4 → ⊥
four_five e = cc e

-- ---- `a(X), b(X)`

-- the link stands at two ports
joined_ports : {x : ℕ} (p : Port) → HasLink a_joined_to_b x p → (p ≡ (0, 0)) ⊎ (p ≡ (1, 0))
joined_ports (zero, zero) h = inl refl
joined_ports (suc zero, zero) h = inr refl
joined_ports {x} (zero, suc j) h = absurd (found_none j (subst (λ w. slice_get w.links (suc j) ≡ Some x) (sym (same_Some _ _ h.1)) h.2))
joined_ports {x} (suc zero, suc j) h = absurd (found_none j (subst (λ w. slice_get w.links (suc j) ≡ Some x) (sym (same_Some _ _ h.1)) h.2))
joined_ports (suc (suc n), j) h = absurd (found_none n h.1)

pub true_or_false : true ≡ false → ⊥
true_or_false e = cc e

-- each item at the item with its number
abbrev pub as_they_are : Images
as_they_are = record { atom = λ n. n; membrane = λ k. k; part = λ n. (0, 0) }

joins : Embeds a_with_b a_joined_to_b [] 0 as_they_are
joins = record {
  lies = record {
    here = refl;
    atoms_differ = λ n k i j e. e;
    membranes_differ = λ n k i. absurd (omega (arith, i));
    functors = functors;
    atoms_placed = placed;
    membranes_placed = λ k n h. absurd (found_none h.0 h.2);
    joined = λ x p q h k d. ends p q d (joined_ports p h) (joined_ports q k);
    no_other_atom = λ k n y h. absurd (found_none h.0 h.2);
    no_other_membrane = λ k n y h. absurd (found_none h.0 h.2);
    no_rule = λ k n h. absurd (found_none h.0 h.2);
    closed = λ k n b i p h. absurd (found_none h.0 h.2);
    parts = λ n t h. absurd (found_none n h);
  };
  outside = λ n i x s p h l o inside. absurd (inside (at_top n s h));
  holds = tt;
}
  where
    functors : (n : ℕ) (s : HeadAtom) → HasAtom a_joined_to_b n s → functor_of a_with_b n ≡ Some s.functor
    functors zero s h = ap (λ w. Some w.functor) (same_Some _ _ h)
    functors (suc zero) s h = ap (λ w. Some w.functor) (same_Some _ _ h)
    functors (suc (suc n)) s h = absurd (found_none n h)

    at_top : (n : ℕ) (s : HeadAtom) → HasAtom a_joined_to_b n s → s.inside ≡ 0
    at_top zero s h = sym (ap (λ w. w.inside) (same_Some _ _ h))
    at_top (suc zero) s h = sym (ap (λ w. w.inside) (same_Some _ _ h))
    at_top (suc (suc n)) s h = absurd (found_none n h)

    two : (n : ℕ) (s : HeadAtom) → HasAtom a_joined_to_b n s → In n (0 ∷ 1 ∷ [])
    two zero s h = inl refl
    two (suc zero) s h = inr (inl refl)
    two (suc (suc n)) s h = absurd (found_none n h)

    placed : (n : ℕ) (s : HeadAtom) → HasAtom a_joined_to_b n s → In n (atoms_in a_with_b s.inside)
    placed n s h = rw (at_top n s h) (two n s h)

    ends : (p q : Port) → p ≢ q → (p ≡ (0, 0)) ⊎ (p ≡ (1, 0)) → (q ≡ (0, 0)) ⊎ (q ≡ (1, 0)) → link_of a_with_b p.0 p.1 ≡ Some q
    ends p q d (inl e) (inl e') = absurd (d (e ∙ sym e'))
    ends p q d (inl e) (inr e') = rw (e, e') refl
    ends p q d (inr e) (inl e') = rw (e, e') refl
    ends p q d (inr e) (inr e') = absurd (d (e ∙ sym e'))

not_between : (f : Images) → Embeds c_between a_joined_to_b [] 0 f → ⊥
not_between f e = names (of_b (first (f.atom 0) (e.lies.functors 0 _ refl)) (e.lies.joined 0 (0, 0) (1, 0) (_, refl, refl) (_, refl, refl) apart)) (e.lies.functors 1 _ refl)
  where
    apart : ◌≢◌ {A = Port} (0, 0) (1, 0)
    apart d = cc (ap (λ p. p.0) d)

    -- `a_of_arity` lies at atom 0
    first : (n : ℕ) → functor_of c_between n ≡ Some (a_of_arity 1) → n ≡ 0
    first zero q = refl
    first (suc zero) q = absurd (four_five (not_a_name 5 4 _ _ q refl refl))
    first (suc (suc zero)) q = absurd (six_four (not_a_name 6 4 _ _ q refl refl))
      where
        six_four : ◌≡◌ {A = ℕ} 6 4 → ⊥
        six_four e = cc e
    first (suc (suc (suc n))) q = absurd (cc q)

    of_b : f.atom 0 ≡ 0 → link_of c_between (f.atom 0) 0 ≡ Some (f.atom 1, 0) → f.atom 1 ≡ 2
    of_b d q = sym (ap (λ p. p.0) (same_Some (2, 0) (f.atom 1, 0) (subst (λ n. link_of c_between n 0 ≡ Some (f.atom 1, 0)) d q)))

    names : f.atom 1 ≡ 2 → functor_of c_between (f.atom 1) ≡ Some (b_of_arity 1) → ⊥
    names d q = six_five (not_a_name 6 5 _ _ (subst (λ n. functor_of c_between n ≡ Some (b_of_arity 1)) d q) refl refl)
      where
        six_five : ◌≡◌ {A = ℕ} 6 5 → ⊥
        six_five e = cc e

-- in the example two atoms of a head are joined
pub links_join : LinksJoin
links_join = ((as_they_are, joins), (λ l. not_between l.0 l.1))

-- ---- `{a(X)}, b(Y)`

-- each link stands at one port
one_port : {x : ℕ} (p : Port) → HasLink a_apart_from_b x p → ((x ≡ 0) × (p ≡ (0, 0))) ⊎ ((x ≡ 1) × (p ≡ (1, 0)))
one_port {x} (zero, zero) h = inl (sym (same_Some 0 x (subst (λ w. slice_get w.links 0 ≡ Some x) (sym (same_Some _ _ h.1)) h.2)), refl)
one_port {x} (suc zero, zero) h = inr (sym (same_Some 1 x (subst (λ w. slice_get w.links 0 ≡ Some x) (sym (same_Some _ _ h.1)) h.2)), refl)
one_port {x} (zero, suc j) h = absurd (found_none j (subst (λ w. slice_get w.links (suc j) ≡ Some x) (sym (same_Some _ _ h.1)) h.2))
one_port {x} (suc zero, suc j) h = absurd (found_none j (subst (λ w. slice_get w.links (suc j) ≡ Some x) (sym (same_Some _ _ h.1)) h.2))
one_port {x} (suc (suc n), j) h = absurd (found_none n h.1)

leaves : Embeds through_the_wall a_apart_from_b [] 0 as_they_are
leaves = record {
  lies = record {
    here = refl;
    atoms_differ = λ n k i j e. e;
    membranes_differ = λ n k i j e. omega (arith, e);
    functors = functors;
    atoms_placed = placed;
    membranes_placed = λ k n h. inner h.0 k n h.1 (found_one h.0 h.2);
    joined = λ x p q h k d. absurd (d (alone x p q (one_port p h) (one_port q k)));
    no_other_atom = λ k n y h c q. inl (only_a h.0 k n y h.1 (found_one h.0 h.2) q);
    no_other_membrane = λ k n y h c q. absurd (nothing_in h.0 k n y h.1 (found_one h.0 h.2) q);
    no_rule = λ k n h c. no_rules h.0 k n h.1 (found_one h.0 h.2);
    closed = λ k n b i p h c. absurd (true_or_false (sym c ∙ sym (ap (λ w. w.has_closed_context) (found_one h.0 h.2).1)));
    parts = λ n t h. absurd (found_none n h);
  };
  outside = λ n i x s p h l o inside q w. away n i s p h inside q w;
  holds = tt;
}
  where
    functors : (n : ℕ) (s : HeadAtom) → HasAtom a_apart_from_b n s → functor_of through_the_wall n ≡ Some s.functor
    functors zero s h = ap (λ w. Some w.functor) (same_Some _ _ h)
    functors (suc zero) s h = ap (λ w. Some w.functor) (same_Some _ _ h)
    functors (suc (suc n)) s h = absurd (found_none n h)

    placed : (n : ℕ) (s : HeadAtom) → HasAtom a_apart_from_b n s → In n (atoms_in through_the_wall s.inside)
    placed zero s h = subst (λ w. In 0 (atoms_in through_the_wall w.inside)) (same_Some _ _ h) (inl refl)
    placed (suc zero) s h = subst (λ w. In 1 (atoms_in through_the_wall w.inside)) (same_Some _ _ h) (inl refl)
    placed (suc (suc n)) s h = absurd (found_none n h)

    inner : (i k : ℕ) (n : HeadMembrane) → k ≡ suc i → (i ≡ 0) × (record { inside = 0; has_context = false; has_closed_context = false; has_rule_context = false } ≡ n) → In k (mems_in through_the_wall n.inside)
    inner i k n e d = rw (e, d.0) (subst (λ w. In 1 (mems_in through_the_wall w.inside)) d.1 (inl refl))

    alone : (x : ℕ) (p q : Port) → ((x ≡ 0) × (p ≡ (0, 0))) ⊎ ((x ≡ 1) × (p ≡ (1, 0))) → ((x ≡ 0) × (q ≡ (0, 0))) ⊎ ((x ≡ 1) × (q ≡ (1, 0))) → p ≡ q
    alone x p q (inl u) (inl w) = u.1 ∙ sym w.1
    alone x p q (inl u) (inr w) = absurd (omega (arith, u.0, w.0))
    alone x p q (inr u) (inl w) = absurd (omega (arith, u.0, w.0))
    alone x p q (inr u) (inr w) = u.1 ∙ sym w.1

    -- nothing in the root stands in the membrane
    root_outside : (k : ℕ) → Above through_the_wall k 1 0 → ⊥
    root_outside zero e = omega (arith, e)
    root_outside (suc k) u = cc u.1

    away : (n i : ℕ) (s : HeadAtom) (p : Port) → HasAtom a_apart_from_b n s → s.inside ≢ 0 → link_of through_the_wall n i ≡ Some p → StandsWithin through_the_wall p.0 (outermost (membranes_of a_apart_from_b) s.inside) → ⊥
    away zero zero s p h d q w =
        let at : StandsWithin through_the_wall 1 1 = subst (λ o. StandsWithin through_the_wall o.0 1) (sym (same_Some (1, 0) p q)) (subst (λ v. StandsWithin through_the_wall p.0 (outermost (membranes_of a_apart_from_b) v.inside)) (sym (same_Some _ _ h)) w) in
        root_outside at.1 (subst (λ m. Above through_the_wall at.1 1 m) (sym (same_Some 0 at.0 at.2)) at.3)
    away zero (suc i) s p h d q w = cc q
    away (suc zero) i s p h d q w = d (sym (ap (λ v. v.inside) (same_Some _ _ h)))
    away (suc (suc n)) i s p h d q w = found_none n h

    only_a : (i k : ℕ) (n : HeadMembrane) (y : ℕ) → k ≡ suc i → (i ≡ 0) × (record { inside = 0; has_context = false; has_closed_context = false; has_rule_context = false } ≡ n) → In y (atoms_in through_the_wall k) → IsAtomImage a_apart_from_b as_they_are y
    only_a i k n y e d q = by (subst (λ w. In y (atoms_in through_the_wall w)) (e ∙ ap suc d.0) q)
      where
        by : In y (0 ∷ []) → IsAtomImage a_apart_from_b as_they_are y
        by (inl r) = (0, omega arith, r)
        by (inr r) = absurd r

    nothing_in : (i k : ℕ) (n : HeadMembrane) (y : ℕ) → k ≡ suc i → (i ≡ 0) × (record { inside = 0; has_context = false; has_closed_context = false; has_rule_context = false } ≡ n) → In y (mems_in through_the_wall k) → ⊥
    nothing_in i k n y e d q = subst (λ w. In y (mems_in through_the_wall w)) (e ∙ ap suc d.0) q

    no_rules : (i k : ℕ) (n : HeadMembrane) → k ≡ suc i → (i ≡ 0) × (record { inside = 0; has_context = false; has_closed_context = false; has_rule_context = false } ≡ n) → rules_in through_the_wall k ≡ []
    no_rules i k n e d = rw (e, d.0) refl

not_inside : (f : Images) → Embeds a_with_b_inside a_beside_b [] 0 f → ⊥
not_inside f e = e.outside 0 0 0 _ (1, 0) refl refl refl one_not_zero (rw atom refl) (rw membrane (1, 0, refl, refl))
  where
    one_not_zero : ◌≢◌ {A = ℕ} 1 0
    one_not_zero = omega arith

    membrane : f.membrane 1 ≡ 1
    membrane = one (subst (λ m. In (f.membrane 1) (mems_in a_with_b_inside m)) e.lies.here (e.lies.membranes_placed 1 _ (0, refl, refl)))
      where
        one : {n : ℕ} → In n (1 ∷ []) → n ≡ 1
        one (inl r) = sym r
        one (inr r) = absurd r

    first : (n : ℕ) → functor_of a_with_b_inside n ≡ Some (a_of_arity 1) → n ≡ 0
    first zero q = refl
    first (suc zero) q = absurd (four_five (not_a_name 5 4 _ _ q refl refl))
    first (suc (suc n)) q = absurd (cc q)

    atom : f.atom 0 ≡ 0
    atom = first (f.atom 0) (e.lies.functors 0 _ refl)

-- in the example a link leaves a membrane
pub links_leave : LinksLeave
links_leave = ((as_they_are, leaves), (λ l. not_inside l.0 l.1))

-- ---- `{a(X), b(X)}`, where the items of `{a(X), b(Y)}` lie

each_port : {x : ℕ} (p : Port) → HasLink a_beside_b x p → ((x ≡ 0) × (p ≡ (0, 0))) ⊎ ((x ≡ 1) × (p ≡ (1, 0)))
each_port {x} (zero, zero) h = inl (sym (same_Some _ _ (subst (λ w. slice_get w.links 0 ≡ Some x) (sym (same_Some _ _ h.1)) h.2)), refl)
each_port {x} (suc zero, zero) h = inr (sym (same_Some _ _ (subst (λ w. slice_get w.links 0 ≡ Some x) (sym (same_Some _ _ h.1)) h.2)), refl)
each_port {x} (zero, suc j) h = absurd (found_none j (subst (λ w. slice_get w.links (suc j) ≡ Some x) (sym (same_Some _ _ h.1)) h.2))
each_port {x} (suc zero, suc j) h = absurd (found_none j (subst (λ w. slice_get w.links (suc j) ≡ Some x) (sym (same_Some _ _ h.1)) h.2))
each_port (suc (suc n), j) h = absurd (found_none n h.1)

stays : Lies a_with_b_inside a_beside_b 0 as_they_are
stays = record {
  here = refl;
  atoms_differ = λ n k i j e. e;
  membranes_differ = λ n k i j e. omega (arith, e);
  functors = functors;
  atoms_placed = placed;
  membranes_placed = λ k n h. inner h.0 k n h.1 (found_one h.0 h.2);
  joined = λ x p q h k d. absurd (d (alone x p q (each_port p h) (each_port q k)));
  no_other_atom = λ k n y h c q. inl (only_two h.0 k n y h.1 (found_one h.0 h.2) q);
  no_other_membrane = λ k n y h c q. absurd (nothing_in h.0 k n y h.1 (found_one h.0 h.2) q);
  no_rule = λ k n h c. no_rules h.0 k n h.1 (found_one h.0 h.2);
  closed = λ k n b i p h c. absurd (true_or_false (sym c ∙ sym (ap (λ w. w.has_closed_context) (found_one h.0 h.2).1)));
  parts = λ n t h. absurd (found_none n h);
}
  where
    functors : (n : ℕ) (s : HeadAtom) → HasAtom a_beside_b n s → functor_of a_with_b_inside n ≡ Some s.functor
    functors zero s h = ap (λ w. Some w.functor) (same_Some _ _ h)
    functors (suc zero) s h = ap (λ w. Some w.functor) (same_Some _ _ h)
    functors (suc (suc n)) s h = absurd (found_none n h)

    placed : (n : ℕ) (s : HeadAtom) → HasAtom a_beside_b n s → In n (atoms_in a_with_b_inside s.inside)
    placed zero s h = subst (λ w. In 0 (atoms_in a_with_b_inside w.inside)) (same_Some _ _ h) (inl refl)
    placed (suc zero) s h = subst (λ w. In 1 (atoms_in a_with_b_inside w.inside)) (same_Some _ _ h) (inr (inl refl))
    placed (suc (suc n)) s h = absurd (found_none n h)

    inner : (i k : ℕ) (n : HeadMembrane) → k ≡ suc i → (i ≡ 0) × (record { inside = 0; has_context = false; has_closed_context = false; has_rule_context = false } ≡ n) → In k (mems_in a_with_b_inside n.inside)
    inner i k n e d = rw (e, d.0) (subst (λ w. In 1 (mems_in a_with_b_inside w.inside)) d.1 (inl refl))

    alone : (x : ℕ) (p q : Port) → ((x ≡ 0) × (p ≡ (0, 0))) ⊎ ((x ≡ 1) × (p ≡ (1, 0))) → ((x ≡ 0) × (q ≡ (0, 0))) ⊎ ((x ≡ 1) × (q ≡ (1, 0))) → p ≡ q
    alone x p q (inl u) (inl w) = u.1 ∙ sym w.1
    alone x p q (inl u) (inr w) = absurd (omega (arith, u.0, w.0))
    alone x p q (inr u) (inl w) = absurd (omega (arith, u.0, w.0))
    alone x p q (inr u) (inr w) = u.1 ∙ sym w.1

    only_two : (i k : ℕ) (n : HeadMembrane) (y : ℕ) → k ≡ suc i → (i ≡ 0) × (record { inside = 0; has_context = false; has_closed_context = false; has_rule_context = false } ≡ n) → In y (atoms_in a_with_b_inside k) → IsAtomImage a_beside_b as_they_are y
    only_two i k n y e d q = by (subst (λ w. In y (atoms_in a_with_b_inside w)) (e ∙ ap suc d.0) q)
      where
        by : In y (0 ∷ 1 ∷ []) → IsAtomImage a_beside_b as_they_are y
        by (inl r) = (0, omega arith, r)
        by (inr (inl r)) = (1, omega arith, r)
        by (inr (inr r)) = absurd r

    nothing_in : (i k : ℕ) (n : HeadMembrane) (y : ℕ) → k ≡ suc i → (i ≡ 0) × (record { inside = 0; has_context = false; has_closed_context = false; has_rule_context = false } ≡ n) → In y (mems_in a_with_b_inside k) → ⊥
    nothing_in i k n y e d q = subst (λ w. In y (mems_in a_with_b_inside w)) (e ∙ ap suc d.0) q

    no_rules : (i k : ℕ) (n : HeadMembrane) → k ≡ suc i → (i ≡ 0) × (record { inside = 0; has_context = false; has_closed_context = false; has_rule_context = false } ≡ n) → rules_in a_with_b_inside k ≡ []
    no_rules i k n e d = rw (e, d.0) refl

-- a head may lie where it doesn't embed
pub links_may_stay : LinksMayStay
links_may_stay = ((as_they_are, stays), (λ l. not_inside l.0 l.1))
