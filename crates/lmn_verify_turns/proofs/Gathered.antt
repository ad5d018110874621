-- Where a head lies, its images stand, and the atoms of its parts can be listed.
use Rattle.std.proofs.Common.{ℕ, zero, suc, ◌≡◌, ◌∙◌, ◌<◌, ◌≤◌, ◌⊎◌, List, [], ◌∷◌, length, Option, Some, IsSome, refl, sym, subst, inl, inr, arith}
use Rattle.lmn_base.specs.Graphs.{Reached}
use Rattle.lmn_base.specs.Lists.{In}
use Rattle.lmn_base.proofs.Lists.{get_below, get_there}
use Rattle.lmn_base.proofs.Numbers.{same_or_not}
use Rattle.lmn_store_heap.specs.Graphs.{atom_map}
use Rattle.lmn_store_heap.specs.Heap.{Heap, IsInPlace, atoms_in}
use Rattle.lmn_store_heap.specs.Lists.{Distinct}
use Rattle.lmn_store_heap.specs.Sound.{Valid}
use Rattle.lmn_store_heap.proofs.Common.{decide_in, place_home}
use Rattle.lmn_store_heap.proofs.ListLemmas.{each_of}
use Rattle.lmn_ground.specs.Spread.{AreAtoms}
use Rattle.lmn_solid_heads.specs.declared.items.HeadItem.{HeadItem}
use Rattle.lmn_solid_heads.specs.Embeddings.{HasTyped, Images, Lies}
use Rattle.lmn_solid_heads.specs.Heads.{HeadTyped, atoms_of, typed_contexts_of}
use Rattle.lmn_solid_bodies.specs.Rules.{PartAtoms}
use Rattle.lmn_solid_bodies.proofs.Finishing.{in_place_listed, within_of}
use Rattle.lmn_machine_laws.proofs.Finite.{part_listed}

-- the members of both lists, each once
gather : (xs ps : List ℕ) → Distinct ps → (zs : List ℕ) × Distinct zs × ((a : ℕ) → In a zs → In a xs ⊎ In a ps) × ((a : ℕ) → In a xs ⊎ In a ps → In a zs)
gather [] ps d = (ps, d, (λ a i. inr i), (λ a i. elim i [ inl j ↦ absurd j | inr j ↦ j ]))
gather (x ∷ xs) ps d =
    let on = gather xs ps d in
    elim (decide_in x on.0) [
      | inl there ↦ (
        on.0,
        on.1,
        (λ a i. elim (on.2 a i) [ inl j ↦ inl (inr j) | inr j ↦ inr j ]),
        (λ a i. elim i [ inl j ↦ elim j [ inl e ↦ subst (λ z. In z on.0) e there | inr k ↦ on.3 a (inl k) ] | inr j ↦ on.3 a (inr j) ]),
      )
      | inr out ↦ (
        x ∷ on.0,
        (each_of (λ y. x ≡ y → ⊥) on.0 (λ a i e. out (subst (λ z. In z on.0) (sym e) i)), on.1),
        (λ a i. elim i [ inl e ↦ inl (inl e) | inr k ↦ elim (on.2 a k) [ inl j ↦ inl (inr j) | inr j ↦ inr j ] ]),
        (λ a i. elim i [ inl j ↦ elim j [ inl e ↦ inl e | inr k ↦ inr (on.3 a (inl k)) ] | inr j ↦ inr (on.3 a (inr j)) ]),
      )
    ]

one_some : (x y : ℕ) → ◌≡◌ {A = Option ℕ} (Some x) (Some y) → x ≡ y
one_some x y e = (cc)

module _ (h : Heap) (valid : Valid h) (head : List HeadItem) (m : ℕ) (f : Images) (em : Lies h head m f) where
  -- each image of an atom stands in its place
  pub image_stands : (k : ℕ) → k < length (atoms_of head) → IsInPlace h (f.atom k)
  image_stands k l = let x = get_there (atoms_of head) k l in in_place_listed h (f.membrane x.0.inside) (f.atom k) valid.sound.listed (em.atoms_placed k x.0 x.1)

  -- the atoms of one part, which all stand in one membrane
  one_part : (g : ℕ) (t : HeadTyped) → HasTyped head g t → (xs : List ℕ) × AreAtoms h (f.part g) xs
  one_part g t w =
      let home = f.membrane t.inside in
      part_listed h (f.part g) (atoms_in h home) (λ a p.
      let at = (em.parts g t w).whole.at_home a p in
      let stands : IsInPlace h a = subst (λ (o : Option ℕ). IsSome o) (sym at) refl in
      let v = within_of h a stands in
      let same = one_some v.0 home (sym (place_home h a v.0 v.1) ∙ at) in
      subst (λ z. In a (atoms_in h z)) same ((valid.sound.listed.atoms v.0 a).1 v.1))

  -- those of the first n parts, each once
  record Listed (n : ℕ) (ps : List ℕ) : Type 0 where
    pub once : Distinct ps
    pub are : (a : ℕ) → In a ps → (g : ℕ) × (t : HeadTyped) × HasTyped head g t × Reached (atom_map h) (f.part g) a
    pub all : (g : ℕ) (t : HeadTyped) (a : ℕ) → g < n → HasTyped head g t → Reached (atom_map h) (f.part g) a → In a ps

  listed : (n : ℕ) → n ≤ length (typed_contexts_of head) → (ps : List ℕ) × Listed n ps
  listed zero l = ([], record { once = tt; are = λ a i. absurd i; all = λ g t a k. absurd (omega (arith, k)) })
  listed (suc n) l =
      let before = listed n (omega (arith, l)) in
      let x = get_there (typed_contexts_of head) n (omega (arith, l)) in
      let part = one_part n x.0 x.1 in
      let both = gather part.0 before.0 before.1.once in (
        both.0,
        record {
          once = both.1;
          are = λ a i. elim (both.2 a i) [ inl j ↦ (n, x.0, x.1, (part.1.1 a).0 j) | inr j ↦ before.1.are a j ];
          all = λ g t a k w r. both.3 a (elim (same_or_not g n) [
            | inl e ↦ inl ((part.1.1 a).1 (subst (λ z. Reached (atom_map h) (f.part z) a) e r))
            | inr d ↦ inr (before.1.all g t a (omega (arith, k, d)) w r)
          ]);
        },
      )

  -- The atoms of the parts of the head.
  pub part_atoms : (ps : List ℕ) × PartAtoms h head f ps
  part_atoms = let all = listed (length (typed_contexts_of head)) (omega arith) in (all.0, record { once = all.1.once; are = all.1.are; all = λ g t a w r. all.1.all g t a (get_below (typed_contexts_of head) g t w) w r })
