-- Registers that hold an embedding, with new numbers beyond those of the head.
use Rattle.std.proofs.Common.{ℕ, zero, suc, ◌≡◌, ◌+◌, ◌<◌, ◌≤◌, List, [], ◌∷◌, length, Some, refl, sym, ap, subst, ◌∙◌, inl, inr, arith}
use Rattle.std.specs.Prelude.{slice_get}
use Rattle.lmn_base.specs.declared.guard.Cond.{Cond}
use Rattle.lmn_base.specs.Graphs.{StandsWhole}
use Rattle.lmn_store_heap.specs.Graphs.{atom_map}
use Rattle.lmn_store_heap.specs.Heap.{Heap, atoms_in, functor_of, mems_in, rules_in}
use Rattle.lmn_solid_heads.specs.declared.items.HeadItem.{HeadItem}
use Rattle.lmn_solid_heads.specs.declared.items.HeadItem.TheVariants.{Atom, Typed, Membrane}
use Rattle.lmn_solid_heads.specs.Heads.{HeadAtom, HeadMembrane, atoms_of, membranes_of, outermost}
use Rattle.lmn_solid_heads.specs.Embeddings.{Embeds, HasAtom, HasMembrane, Images, IsInRest, IsLeast, StandsWithin, ListNotAfter, index_of, partner, positions}
use Rattle.lmn_compile_head.specs.Heads.{EachInside, IsHead}
use Rattle.lmn_compile_head.proofs.Nesting.{atoms_nested, membranes_nested}
use Rattle.lmn_base.proofs.Lists.{get_below}
use Rattle.lmn_base.specs.Lists.{In}
use Rattle.lmn_compile_head.proofs.Common.{outer_less, typed_inside as typed_nested}

-- ---- numbers

-- the numbers of a map below k, and from there on new ones, each second one from b on
abbrev pub raised : ℕ → ℕ → (ℕ → ℕ) → ℕ → ℕ
raised zero b f n = b + (n + n)
raised (suc k) b f zero = f zero
raised (suc k) b f (suc n) = raised k (b + 2) (λ i. f (suc i)) n

-- registers below the bound keep their numbers
pub raised_below : (k b : ℕ) (f : ℕ → ℕ) (n : ℕ) → n < k → raised k b f n ≡ f n
raised_below zero b f n l = absurd (omega (arith, l))
raised_below (suc k) b f zero l = refl
raised_below (suc k) b f (suc n) l = raised_below k (b + 2) (λ i. f (suc i)) n (omega (arith, l))

-- and those above get fresh ones
pub raised_above : (k b : ℕ) (f : ℕ → ℕ) (n : ℕ) → k ≤ n → raised k b f n ≡ b + (n + n)
raised_above zero b f n l = refl
raised_above (suc k) b f zero l = absurd (omega (arith, l))
raised_above (suc k) b f (suc n) l = let u = raised_above k (b + 2) (λ i. f (suc i)) n (omega (arith, l)) in omega (arith, u)

-- ---- where items of a head stand

-- ---- the same embedding

module _ (h : Heap) (items : List HeadItem) (head : IsHead items) (f : Images) (atom membrane : ℕ → ℕ)
    (same_atom : (n : ℕ) → n < length (atoms_of items) → atom n ≡ f.atom n) (same_mem : (k : ℕ) → k < 1 + length (membranes_of items) → membrane k ≡ f.membrane k) where
  -- the images with these atoms and membranes
  abbrev pub other : Images
  other = record { atom = atom; membrane = membrane; part = f.part }

  at_atom : (n : ℕ) (a : HeadAtom) → HasAtom items n a → atom n ≡ f.atom n
  at_atom n a w = same_atom n (get_below (atoms_of items) n a w)

  at_mem : (k : ℕ) (b : HeadMembrane) → HasMembrane items k b → membrane k ≡ f.membrane k
  at_mem k b w = let l = get_below (membranes_of items) w.0 b w.2 in let e = w.1 in same_mem k (omega (arith, l, e))

  nested : (j : ℕ) (b : HeadMembrane) → slice_get (membranes_of items) j ≡ Some b → b.inside ≤ j
  nested = membranes_nested items head.inside

  in_mem : (k : ℕ) → k ≤ length (membranes_of items) → membrane k ≡ f.membrane k
  in_mem k l = same_mem k (omega (arith, l))

  -- the rest of a head membrane is the same
  rest_so : (k : ℕ) (b : HeadMembrane) → HasMembrane items k b → (x : ℕ) → IsInRest h items f k x → IsInRest h items other k x
  rest_so k b w x u = elim u [
    | inl z ↦ inl (subst (λ y. In x (atoms_in h y)) (sym (at_mem k b w)) z.0, λ i. z.1 (i.0, i.1, sym (same_atom i.0 i.1) ∙ i.2), z.2)
    | inr z ↦ inr (z.0, subst (λ y. In z.0 (mems_in h y)) (sym (at_mem k b w)) z.1, λ i. (let l = i.1 in z.2 (i.0, i.1, sym (same_mem (suc i.0) (omega (arith, l))) ∙ i.2)), z.3)
  ]

  rest_back : (k : ℕ) (b : HeadMembrane) → HasMembrane items k b → (x : ℕ) → IsInRest h items other k x → IsInRest h items f k x
  rest_back k b w x u = elim u [
    | inl z ↦ inl (subst (λ y. In x (atoms_in h y)) (at_mem k b w) z.0, λ i. z.1 (i.0, i.1, same_atom i.0 i.1 ∙ i.2), z.2)
    | inr z ↦ inr (z.0, subst (λ y. In z.0 (mems_in h y)) (at_mem k b w) z.1, λ i. (let l = i.1 in z.2 (i.0, i.1, same_mem (suc i.0) (omega (arith, l)) ∙ i.2)), z.3)
  ]

  pub embeds_so : (guard : List Cond) (m : ℕ) → Embeds h items guard m f → Embeds h items guard m other
  embeds_so guard m e = record {
    lies = record {
      here = in_mem 0 (omega arith) ∙ e.lies.here;
      atoms_differ = λ n k l o q. e.lies.atoms_differ n k l o (sym (same_atom n l) ∙ q ∙ same_atom k o);
      membranes_differ = λ n k l o q. e.lies.membranes_differ n k l o (sym (same_mem (suc n) (omega (arith, l))) ∙ q ∙ same_mem (suc k) (omega (arith, o)));
      functors = λ n a w. subst (λ z. functor_of h z ≡ Some a.functor) (sym (at_atom n a w)) (e.lies.functors n a w);
      atoms_placed = λ n a w. subst (λ z. In z (atoms_in h (membrane a.inside))) (sym (at_atom n a w))
          (subst (λ z. In (f.atom n) (atoms_in h z)) (sym (in_mem a.inside (atoms_nested items head.inside n a w))) (e.lies.atoms_placed n a w));
      membranes_placed = λ k b w.
          let l = nested w.0 b w.2 in let l' = get_below (membranes_of items) w.0 b w.2 in
          subst (λ z. In z (mems_in h (membrane b.inside))) (sym (at_mem k b w))
          (subst (λ z. In (f.membrane k) (mems_in h z)) (sym (in_mem b.inside (omega (arith, l, l')))) (e.lies.membranes_placed k b w));
      joined = λ x p q u v d. ap (λ z. partner h (z, p.1)) (at_atom p.0 u.0 u.1) ∙ e.lies.joined x p q u v d ∙ ap (λ z. Some (z, q.1)) (sym (at_atom q.0 v.0 v.1));
      no_other_atom = λ k b x w c i. elim (e.lies.no_other_atom k b x w c (subst (λ z. In x (atoms_in h z)) (at_mem k b w) i)) [
        | inl z ↦ inl (z.0, z.1, same_atom z.0 z.1 ∙ z.2)
        | inr z ↦ inr z
      ];
      no_other_membrane = λ k b x w c i.
          let z = e.lies.no_other_membrane k b x w c (subst (λ y. In x (mems_in h y)) (at_mem k b w) i) in
          let l = z.1 in (z.0, z.1, same_mem (suc z.0) (omega (arith, l)) ∙ z.2);
      no_rule = λ k b w c. subst (λ z. rules_in h z ≡ []) (sym (at_mem k b w)) (e.lies.no_rule k b w c);
      closed = λ k b x i p w c u q. rest_so k b w p.0 (e.lies.closed k b x i p w c (rest_back k b w x u) q);
      parts = λ n t w.
          let p = e.lies.parts n t w in
          record {
            held = λ q l. ap (λ z. partner h (z, q.1)) (at_atom q.0 l.0 l.1) ∙ p.held q l;
            of_kind = p.of_kind;
            whole = subst (λ z. StandsWhole (atom_map h) (f.part n) z) (sym (in_mem t.inside (let l = typed_nested 0 items head.inside n t w in omega (arith, l)))) p.whole;
            apart = λ b g i. p.apart b g (i.0, i.1, sym (same_atom i.0 i.1) ∙ i.2);
          };
    };
    outside = λ n i x a p w l t o q g.
        let r = outer_less (length (membranes_of items)) (membranes_of items) a.inside nested in let r' = atoms_nested items head.inside n a w in
        e.outside n i x a p w l t o (ap (λ z. partner h (z, i)) (sym (at_atom n a w)) ∙ q)
        (subst (λ z. StandsWithin h p.0 z) (in_mem (outermost (membranes_of items) a.inside) (omega (arith, r, r'))) g);
    holds = e.holds;
  }

  positions_so : (n i : ℕ) (xs : List HeadItem) → EachInside i xs → n + length (atoms_of xs) ≤ length (atoms_of items) → i + length (membranes_of xs) ≤ length (membranes_of items) →
      positions h other n (i + 1) xs ≡ positions h f n (i + 1) xs
  positions_so n i [] w l o = refl
  positions_so n i (Atom g ls m ∷ xs) w l o =
      let here : m ≤ i = w.0 in
      let a = same_atom n (omega (arith, l)) in
      let b = in_mem m (omega (arith, here, o)) in
      let on = positions_so (n + 1) i xs w.1 (omega (arith, l)) o in
      λ t. index_of (a t) (atoms_in h (b t)) ∷ on t
  positions_so n i (Typed p k x m ∷ xs) w l o = positions_so n i xs w.1 l o
  positions_so n i (Membrane m c cl rc ∷ xs) w l o =
      let here : m ≤ i = w.0 in
      let a = same_mem (i + 1) (omega (arith, o)) in
      let b = in_mem m (omega (arith, here, o)) in
      let on = positions_so n (i + 1) xs w.1 l (omega (arith, o)) in
      λ t. index_of (a t) (mems_in h (b t)) ∷ on t

  pub least_so : (guard : List Cond) (m : ℕ) → IsLeast h items guard m f → IsLeast h items guard m other
  least_so guard m e =
      let p : positions h other 0 1 items ≡ positions h f 0 1 items = positions_so 0 0 items head.inside (omega arith) (omega arith) in
      record { embeds = embeds_so guard m e.embeds; least = λ g k. subst (λ z. ListNotAfter z (positions h g 0 1 items)) (sym p) (e.least g k) }
