-- Parts of heads in small heaps.
use Rattle.std.proofs.Common.{ℕ, zero, suc, ◌≡◌, ◌≢◌, ◌<◌, ◌<ℤ◌, ◌⊎◌, ℤ, pos, [], ◌∷◌, Some, slice_get, refl, sym, ◌∙◌, ap, subst, inl, inr, arith}
use Rattle.std.specs.Prelude.{IsSome}
use Rattle.std.proofs.lemmas.Option.{same_Some}
use Rattle.lmn_base.specs.declared.functor.Functor.{Functor}
use Rattle.lmn_base.specs.Graphs.{Reached, at_root, across, StandsWhole, SameGraph, Port}
use Rattle.lmn_store_heap.specs.Graphs.{atom_map}
use Rattle.lmn_store_heap.specs.Heap.{atoms_in, functor_of, home_of, link_of}
use Rattle.lmn_guards.specs.declared.plan.TypeKind.TheVariants as kind
use Rattle.lmn_solid_heads.specs.Embeddings.{Images, Embeds, IsPartOf}
use Rattle.lmn_solid_heads.specs.Examples.{a_of_arity, b_of_arity, integer, a_of_ground, joined_twice, PartsHaveNoImage, a_of_int, below_three, a_with_number, integer_inside, GuardsAskParts, straight_heap, crossed_heap, HeapPortsAreTold}
use Rattle.lmn_solid_heads.specs.Guards.{integer_at}
use Rattle.lmn_solid_heads.specs.Heads.{HeadAtom, HeadTyped}
use Rattle.lmn_solid_heads.proofs.Found.{found_none, found_one}
use Rattle.lmn_solid_heads.proofs.ExampleLinks.{four_five, not_a_name}
use Rattle.lmn_base.specs.Lists.{In}
use Rattle.lmn_base.proofs.Numbers.{one_is_not_zero as one_not_zero}

other_index : (n i j : ℕ) → i ≢ j → ◌≢◌ {A = Port} (n, i) (n, j)
other_index n i j d e = d (ap (λ p. p.1) e)

-- ---- a part that comes back

two_atoms : (n i m j : ℕ) → link_of joined_twice n i ≡ Some (m, j) → (m ≡ 0) ⊎ (m ≡ 1)
two_atoms zero zero m j q = inr (sym (ap (λ p. p.0) (same_Some (1, 0) (m, j) q)))
two_atoms zero (suc zero) m j q = inr (sym (ap (λ p. p.0) (same_Some (1, 1) (m, j) q)))
two_atoms zero (suc (suc i)) m j q = absurd (cc q)
two_atoms (suc zero) zero m j q = inl (sym (ap (λ p. p.0) (same_Some (0, 0) (m, j) q)))
two_atoms (suc zero) (suc zero) m j q = inl (sym (ap (λ p. p.0) (same_Some (0, 1) (m, j) q)))
two_atoms (suc zero) (suc (suc i)) m j q = absurd (cc q)
two_atoms (suc (suc n)) i m j q = absurd (cc q)

reached_two : {n : ℕ} → Reached (atom_map joined_twice) (1, 0) n → (n ≡ 0) ⊎ (n ≡ 1)
reached_two at_root = inr refl
reached_two (across {a = n} {b = m} {i = i} {j = j} r d q) = two_atoms n i m j q

twice_whole : StandsWhole (atom_map joined_twice) (1, 0) 0
twice_whole = record { at_home = λ n r. home n (reached_two r); no_other_end = λ n i f r q l d. joined n i f (reached_two r) q l }
  where
    home : (n : ℕ) → (n ≡ 0) ⊎ (n ≡ 1) → home_of joined_twice n ≡ Some 0
    home n (inl e) = rw e refl
    home n (inr e) = rw e refl

    below : (i : ℕ) (f : Functor) → f.arity ≡ 2 → i < f.arity → (i ≡ 0) ⊎ (i ≡ 1)
    below i f e l = grind (arith, e, l)

    some_at : (n i : ℕ) → (n ≡ 0) ⊎ (n ≡ 1) → (i ≡ 0) ⊎ (i ≡ 1) → IsSome (link_of joined_twice n i)
    some_at n i (inl e) (inl d) = rw (e, d) refl
    some_at n i (inl e) (inr d) = rw (e, d) refl
    some_at n i (inr e) (inl d) = rw (e, d) refl
    some_at n i (inr e) (inr d) = rw (e, d) refl

    arity : (n : ℕ) (f : Functor) → (n ≡ 0) ⊎ (n ≡ 1) → functor_of joined_twice n ≡ Some f → f.arity ≡ 2
    arity n f (inl e) q = sym (ap (λ w. w.arity) (same_Some (a_of_arity 2) f (subst (λ m. functor_of joined_twice m ≡ Some f) e q)))
    arity n f (inr e) q = sym (ap (λ w. w.arity) (same_Some (b_of_arity 2) f (subst (λ m. functor_of joined_twice m ≡ Some f) e q)))

    joined : (n i : ℕ) (f : Functor) → (n ≡ 0) ⊎ (n ≡ 1) → functor_of joined_twice n ≡ Some f → i < f.arity → IsSome (link_of joined_twice n i)
    joined n i f e q l = some_at n i e (below i f (arity n f e q) l)

image_in_part : (f : Images) → Embeds joined_twice a_of_ground [] 0 f → ⊥
image_in_part f e = (e.lies.parts 0 _ refl).apart 0 (rw (sym part) (across at_root (other_index 1 1 0 one_not_zero) refl)) (0, omega arith, atom)
  where
    first : (n : ℕ) → functor_of joined_twice n ≡ Some (a_of_arity 2) → n ≡ 0
    first zero q = refl
    first (suc zero) q = absurd (four_five (not_a_name 5 4 _ _ q refl refl))
    first (suc (suc n)) q = absurd (cc q)

    atom : f.atom 0 ≡ 0
    atom = first (f.atom 0) (e.lies.functors 0 _ refl)

    part : ◌≡◌ {A = Port} (1, 0) (f.part 0)
    part = same_Some (1, 0) (f.part 0) (subst (λ n. link_of joined_twice n 0 ≡ Some (f.part 0)) atom ((e.lies.parts 0 _ refl).held (0, 0) (_, refl, refl)))

-- in the example a whole part has an atom of the head in it, so the head doesn't embed
pub parts_have_no_image : PartsHaveNoImage
parts_have_no_image = (twice_whole, (λ l. image_in_part l.0 l.1))

-- ---- a number below three

part_behind : Images
part_behind = record { atom = λ n. n; membrane = λ k. k; part = λ n. (1, 0) }

alone : (k : ℕ) {n : ℕ} → Reached (atom_map (a_with_number k)) (1, 0) n → n ≡ 1
alone k at_root = refl
alone k (across {a = n} {b = m} {i = i} {j = j} r d q) = absurd (no_other i (subst (λ w. ◌≢◌ {A = Port} (w, i) (1, 0)) (alone k r) d) (subst (λ w. link_of (a_with_number k) w i ≡ Some (m, j)) (alone k r) q))
  where
    no_other : (i : ℕ) → ◌≢◌ {A = Port} (1, i) (1, 0) → link_of (a_with_number k) 1 i ≡ Some (m, j) → ⊥
    no_other zero d q = d refl
    no_other (suc i) d q = cc q

number_whole : (k : ℕ) → StandsWhole (atom_map (a_with_number k)) (1, 0) 0
number_whole k = record { at_home = λ n r. rw (alone k r) refl; no_other_end = λ n i f r q l d. absurd (no_port i f (subst (λ w. functor_of (a_with_number k) w ≡ Some f) (alone k r) q) l (subst (λ w. ◌≢◌ {A = Port} (w, i) (1, 0)) (alone k r) d)) }
  where
    no_port : (i : ℕ) (f : Functor) → functor_of (a_with_number k) 1 ≡ Some f → i < f.arity → ◌≢◌ {A = Port} (1, i) (1, 0) → ⊥
    no_port zero f q l d = d refl
    no_port (suc i) f q l d = absurd (let one : f.arity ≡ 1 = sym (ap (λ w. w.arity) (same_Some (integer k) f q)) in omega (arith, one, l))

abbrev the_atom : HeadAtom
the_atom = record { functor = a_of_arity 1; links = 0 ∷ []; inside = 0 }

abbrev the_part : HeadTyped
the_part = record { name = 7; kind = kind.Int; link = 0; inside = 0 }

lies : Embeds (a_with_number 2) a_of_int below_three 0 part_behind
unfolding part_behind
lies = record {
  lies = record {
    here = refl;
    atoms_differ = λ n k i j e. e;
    membranes_differ = λ n k i. absurd (omega (arith, i));
    functors = λ n s h. functors n s (found_one n h);
    atoms_placed = λ n s h. placed n s (found_one n h);
    membranes_placed = λ k n h. absurd (found_none h.0 h.2);
    joined = λ x p q h k d. absurd (d (one_port x p h.0 (found_one p.0 h.1) h.2 ∙ sym (one_port x q k.0 (found_one q.0 k.1) k.2)));
    no_other_atom = λ k n y h. absurd (found_none h.0 h.2);
    no_other_membrane = λ k n y h. absurd (found_none h.0 h.2);
    no_rule = λ k n h. absurd (found_none h.0 h.2);
    closed = λ k n b i p h. absurd (found_none h.0 h.2);
    parts = λ n t h. part n t (found_one n h);
  };
  outside = λ n i x s p h l o inside. absurd (inside (sym (ap (λ w. w.inside) (found_one n h).1)));
  holds = ((pos 2, pos 3, refl, refl, two_three), tt);
}
  where
    two_three : pos 2 <ℤ pos 3
    two_three = grind arith

    functors : (n : ℕ) (s : HeadAtom) → (n ≡ 0) × (the_atom ≡ s) → functor_of (a_with_number 2) n ≡ Some s.functor
    functors n s u = rw (u.0, sym u.1) refl

    placed : (n : ℕ) (s : HeadAtom) → (n ≡ 0) × (the_atom ≡ s) → In n (atoms_in (a_with_number 2) s.inside)
    placed n s u = rw (u.0, sym u.1) (inl refl)

    one_port : (x : ℕ) (p : Port) (s : HeadAtom) → (p.0 ≡ 0) × (the_atom ≡ s) → slice_get s.links p.1 ≡ Some x → p ≡ (0, 0)
    one_port x p s u l = rw (u.0, (found_one p.1 (subst (λ w. slice_get w.links p.1 ≡ Some x) (sym u.1) l)).0) refl

    part : (n : ℕ) (t : HeadTyped) → (n ≡ 0) × (the_part ≡ t) → IsPartOf (a_with_number 2) a_of_int part_behind n t
    part n t u = subst (IsPartOf (a_with_number 2) a_of_int part_behind n) u.1 (record {
      held = λ p h. held p (one_port 0 p h.0 (found_one p.0 h.1) h.2);
      of_kind = (pos 2, refl);
      whole = number_whole 2;
      apart = λ y r i. absurd (omega (arith, alone 2 r, i.1, i.2));
    })
      where
        held : (p : Port) → p ≡ (0, 0) → link_of (a_with_number 2) p.0 p.1 ≡ Some (1, 0)
        held p e = rw e refl

five_not_below : (f : Images) → Embeds (a_with_number 5) a_of_int below_three 0 f → ⊥
five_not_below f e = by e.holds.0
  where
    first : (n : ℕ) → functor_of (a_with_number 5) n ≡ Some (a_of_arity 1) → n ≡ 0
    first zero q = refl
    first (suc zero) q = absurd (zero_four (not_a_name 0 4 _ _ q refl refl))
      where
        zero_four : ◌≡◌ {A = ℕ} 0 4 → ⊥
        zero_four e = cc e
    first (suc (suc n)) q = absurd (cc q)

    part : ◌≡◌ {A = Port} (1, 0) (f.part 0)
    part = same_Some (1, 0) (f.part 0) (subst (λ n. link_of (a_with_number 5) n 0 ≡ Some (f.part 0)) (first (f.atom 0) (e.lies.functors 0 _ refl)) ((e.lies.parts 0 _ refl).held (0, 0) (_, refl, refl)))

    by : ((m n : ℤ) × (integer_at (a_with_number 5) (f.part 0) ≡ Some m) × (Some (pos 3) ≡ Some n) × (m <ℤ n)) → ⊥
    by u =
        let five : pos 5 ≡ u.0 = same_Some (pos 5) u.0 (subst (λ p. integer_at (a_with_number 5) p ≡ Some u.0) (sym part) u.2) in
        let three : pos 3 ≡ u.1 = same_Some (pos 3) u.1 u.3 in
        not_less (rw (five, three) u.4)
      where
        not_less : pos 5 <ℤ pos 3 → ⊥
        not_less l = absurd (grind (arith, l))

-- ---- a part in another membrane

not_whole : StandsWhole (atom_map integer_inside) (1, 0) 0 → ⊥
not_whole w = one_not_zero (same_Some 1 0 (w.at_home 1 at_root))

not_here : (f : Images) → Embeds integer_inside a_of_int [] 0 f → ⊥
not_here f e = not_whole (subst (λ p. StandsWhole (atom_map integer_inside) p 0) (sym part) (subst (StandsWhole (atom_map integer_inside) (f.part 0)) e.lies.here (e.lies.parts 0 _ refl).whole))
  where
    first : (n : ℕ) → functor_of integer_inside n ≡ Some (a_of_arity 1) → n ≡ 0
    first zero q = refl
    first (suc zero) q = absurd (zero_four (not_a_name 0 4 _ _ q refl refl))
      where
        zero_four : ◌≡◌ {A = ℕ} 0 4 → ⊥
        zero_four e = cc e
    first (suc (suc n)) q = absurd (cc q)

    part : ◌≡◌ {A = Port} (1, 0) (f.part 0)
    part = same_Some (1, 0) (f.part 0) (subst (λ n. link_of integer_inside n 0 ≡ Some (f.part 0)) (first (f.atom 0) (e.lies.functors 0 _ refl)) ((e.lies.parts 0 _ refl).held (0, 0) (_, refl, refl)))

-- in the example the guard asks of a part
pub guards_ask_parts : GuardsAskParts
guards_ask_parts = ((part_behind, lies), (λ l. five_not_below l.0 l.1), not_whole, (λ l. not_here l.0 l.1))

-- ---- rooted graphs

itself : SameGraph (atom_map straight_heap) (1, 0) (atom_map straight_heap) (1, 0)
itself = record {
  to = λ n. n;
  into = λ n r. r;
  onto = λ n r. (n, r, refl);
  one_to_one = λ n m r s e. e;
  functors = λ n r. refl;
  joined = λ n m i j r s. ((λ e. e), (λ e. e));
  root = refl;
}

not_crossed : SameGraph (atom_map straight_heap) (1, 0) (atom_map crossed_heap) (1, 0) → ⊥
not_crossed s = one_not_zero (ap (λ p. p.1) (same_Some (2, 1) (s.to 2, 0) (subst (λ n. link_of crossed_heap n 1 ≡ Some (s.to 2, 0)) (ap (λ p. p.0) s.root) ((s.joined 1 2 1 0 at_root second).0 refl))))
  where
    second : Reached (atom_map straight_heap) (1, 0) 2
    second = across at_root (other_index 1 1 0 one_not_zero) refl

-- in the example two parts that join other ports differ
pub ports_are_told : HeapPortsAreTold
ports_are_told = (itself, not_crossed)
