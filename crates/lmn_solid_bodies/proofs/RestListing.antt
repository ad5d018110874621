-- The copy of a rest goes to its place: lists and places stay together.
use Rattle.std.proofs.Common.{ℕ, ◌≡◌, ◌≢◌, List, [], ◌∷◌, ◌++◌, map, Some, IsSome, refl, sym, ap, subst, ◌∙◌, inl, inr}
use Rattle.std.proofs.lemmas.List.{append_assoc}
use Rattle.std.specs.Option.{option_map}
use Rattle.lmn_store_heap.specs.Heap as heap
use Rattle.lmn_store_heap.specs.Heap.{Heap, within, waiting, alter, mem_with_mems, mem_with_place, mem_with_rules, mem_place_of, parent_of, atoms_in, mems_in, rules_in, placed, placed_mem, rules_copied}
use Rattle.lmn_store_heap.specs.Sound.{Listed, Forest, bare, mem, flat, Forms}
use Rattle.lmn_store_heap.proofs.ListLemmas.{in_left, in_right}
use Rattle.lmn_store_heap.proofs.Listing.{placed_listed, same_mem_place}
use Rattle.lmn_store_heap.proofs.MemListing.{placed_mem_listed}
use Rattle.lmn_ground_parts.specs.Copies.{answer}
use Rattle.lmn_ground_parts.specs.Rests.{CopyWaits, atoms_placed, copy_round, membrane_placed, membranes_placed, rest_placed}
use Rattle.lmn_solid_bodies.specs.Running.{all_placed}
use Rattle.lmn_store_heap.proofs.ListOps.{change_keeps, change_away, place_by, there_by}
use Rattle.lmn_solid_bodies.proofs.Growing.{Grown, grown_placed, grown_all_placed, some_there, only_at}
use Rattle.lmn_solid_bodies.proofs.MemListing.{same_lists_listed, place_after}
use Rattle.lmn_solid_bodies.proofs.RestGrowing.{Places, Placing, copies_in, copies_same, grown_membrane, placing_on, parent_as, placed_pairs, all_atoms, all_membranes, placing as rest_placing, cm_m, forms, of_flat}
use Rattle.lmn_base.specs.Lists.{In}
use Rattle.lmn_store_heap.proofs.Common.{from_here as first_from}

-- From s to t some membranes are placed, and atoms: lists and places stay together, and no other membrane changes its place.
pub record Settles (s t : Heap) (new : List ℕ) : Type 0 where
  pub listed : Listed t
  pub others : (x : ℕ) → (In x new → ⊥) → mem_place_of t x ≡ mem_place_of s x
  pub waits : (x : ℕ) → mem_place_of t x ≡ Some waiting → mem_place_of s x ≡ Some waiting × (In x new → ⊥)

-- atoms are placed
pub atoms_settle : (n : ℕ) (xs : List ℕ) (s : Heap) → (rest : List ℕ) → s.new_atoms ≡ xs ++ rest → IsSome (s.mems n) → (mem_place_of s n ≡ Some waiting → ⊥) → Listed s → Settles s (all_placed s (map (λ a. (n, a)) xs)) []
atoms_settle n [] s rest e is wait h = record { listed = h; others = λ x o. refl; waits = λ x q. (q, λ i. i) }
atoms_settle n (a ∷ xs) s rest e is wait h =
    let t = placed s n a in
    let same : (x : ℕ) → mem_place_of t x ≡ mem_place_of s x = same_mem_place s.mems n (λ zs. zs ++ a ∷ []) in
    let gr = grown_placed [] s n a (λ i. i) is in
    let on = atoms_settle n xs t rest (gr.line (xs ++ rest) e) (some_there (s.mems n) (t.mems n) (gr.there n) is) (λ q. wait (sym (same n) ∙ q))
    (placed_listed s n a h is wait (subst (λ zs. heap.from (Some a) zs ≡ zs) (sym e) (first_from a (xs ++ rest)))) in
    record { listed = on.listed; others = λ x o. on.others x o ∙ same x; waits = λ x q. (sym (same x) ∙ (on.waits x q).0, λ i. i) }

-- the parent of each membrane is among those done before it
abbrev Rounds : Heap → List ℕ → List ℕ → Type 0
Rounds s done [] = Unit {0}
Rounds s done (k ∷ zs) = ((p : ℕ) × (parent_of s k ≡ Some p) × In p done) × Rounds s (k ∷ done) zs

rounds_as : (s t : Heap) (done zs : List ℕ) → ((k : ℕ) → In k zs → parent_of t k ≡ parent_of s k) → Rounds s done zs → Rounds t done zs
rounds_as s t done [] e w = tt
rounds_as s t done (k ∷ zs) e w = ((w.0.0, e k (inl refl) ∙ w.0.1, w.0.2), rounds_as s t (k ∷ done) zs (λ j i. e j (inr i)) w.1)

-- so it is in preorder
rounds_forest : (s : Heap) (f : Forest) (roots : List ℕ) (p : ℕ) (done more : List ℕ) → Forms s f roots → ((k : ℕ) → In k roots → parent_of s k ≡ Some p)
    → ((q k : ℕ) → In q (flat f) → In k (mems_in s q) → parent_of s k ≡ Some q) → In p done
    → ((later : List ℕ) → ((x : ℕ) → In x done → In x later) → Rounds s later more) → Rounds s done (flat f ++ more)
rounds_forest s bare roots p done more are_forms home homes i then = then done (λ x j. j)
rounds_forest s (mem k inner rest) roots p done more (others, are, forms_in, forms_rest) home homes i then = (
  (p, home k (subst (In k) (sym are) (inl refl)), i),
  subst (Rounds s (k ∷ done)) (sym (append_assoc (flat inner) (flat rest) more))
      (rounds_forest s inner (mems_in s k) k (k ∷ done) (flat rest ++ more) forms_in (λ j l. homes k j (inl refl) l) (λ q j l. homes q j (inr (front q l))) (inl refl)
      (λ later sub. rounds_forest s rest others p later more forms_rest (λ j l. home j (subst (In j) (sym are) (inr l))) (λ q j l. homes q j (inr (back q l))) (sub p (inr i))
      (λ last sub'. then last (λ x j. sub' x (sub x (inr j)))))),
)
  where
    front : (q : ℕ) → In q (flat inner) → In q (flat inner ++ flat rest)
    front q l = in_left q (flat inner) (flat rest) l

    back : (q : ℕ) → In q (flat rest) → In q (flat inner ++ flat rest)
    back q l = in_right q (flat inner) (flat rest) l

module _ (ks : List ℕ) (copy cm : ℕ → ℕ) where
  -- membrane by membrane
  membranes_settle : (zs done : List ℕ) (s : Heap) → Placing ks copy cm zs s → Rounds s done zs → ((x : ℕ) → In x done → mem_place_of s (cm x) ≡ Some waiting → ⊥) → Listed s
      → (rest : List ℕ) × (s.new_atoms ≡ copies_in s copy zs ++ rest) → (rest : List ℕ) × (s.new_mems ≡ map cm zs ++ rest) → Settles s (membranes_placed cm copy s zs) (map cm zs)
  membranes_settle [] done s pl rounds ready h line mem_line = record { listed = h; others = λ x o. refl; waits = λ x q. (q, λ i. i) }
  membranes_settle (k ∷ zs) done s pl rounds ready h line mem_line =
      let n = cm k in
      let p = copy_round cm (parent_of s k) in
      let w = rounds.0 in
      let is_p : cm w.0 ≡ p = ap (copy_round cm) (sym w.1) in
      let v = pl.round k (inl refl) in
      let same_parent : cm v.0 ≡ p = ap (copy_round cm) (sym v.1) in
      let t = membrane_placed cm copy s k in
      let g = grown_membrane ks copy cm k s (first_placing pl) in
      let s1 = placed_mem s p n in
      let there_p : IsSome (s.mems p) = subst (λ z. IsSome (s.mems z)) same_parent v.3 in
      let h1 = placed_mem_listed s p n h there_p (λ q. ready w.0 w.2 (subst (λ z. mem_place_of s z ≡ Some waiting) (sym is_p) q)) (subst (λ ws. heap.from (Some n) ws ≡ ws) (sym mem_line.1) (first_from n (map cm zs ++ mem_line.0))) in
      let f = mem_with_rules (rules_in s1 k) in
      let s2 = rules_copied s1 k n in
      let h2 : Listed s2 = same_lists_listed s1 n f (λ x. (refl, refl, refl)) h1 in
      let place2 : (x : ℕ) → mem_place_of s2 x ≡ mem_place_of s1 x = change_keeps place_by s1.mems n f (λ x. refl) in
      let n_now : mem_place_of s2 n ≡ Some waiting → ⊥ = λ q. (place_after s p n n (sym (place2 n) ∙ q)).1 refl in
      let there_n : IsSome (s2.mems n) = there_after s p n k (pl.target k (inl refl)).1 in
      let three = atoms_settle n (map copy (atoms_in s k)) s2 (copies_in s copy zs ++ line.0) (line.1 ∙ append_assoc (map copy (atoms_in s k)) (copies_in s copy zs) line.0) there_n n_now h2 in
      let listed_t : Listed t = subst Listed (sym (placed_pairs copy n (atoms_in s k) s2)) three.listed in
      let place3 : (x : ℕ) → mem_place_of t x ≡ mem_place_of s2 x = λ x. ap (λ (z : Heap). mem_place_of z x) (placed_pairs copy n (atoms_in s k) s2) ∙ three.others x (λ i. i) in
      let waits_t : (x : ℕ) → mem_place_of t x ≡ Some waiting → (mem_place_of s x ≡ Some waiting) × (x ≢ n) = λ x q. place_after s p n x (sym (place2 x) ∙ sym (place3 x) ∙ q) in
      let others_t : (x : ℕ) → x ≢ n → mem_place_of t x ≡ mem_place_of s x = λ x d. place3 x ∙ place2 x
      ∙ change_keeps place_by (alter s.mems n (option_map (mem_with_place (within p)))) p (mem_with_mems (λ ws. ws ++ n ∷ [])) (λ y. refl) x ∙ change_away place_by s.mems n (mem_with_place (within p)) x d in
      let kept : (j : ℕ) → In j zs → In j ks = λ j i. pl.kept j (inr i) in
      let on = membranes_settle zs (k ∷ done) t (placing_on ks copy cm zs s t _ _ _ _ _ g (record { kept = kept; round = λ j i. pl.round j (inr i); target = λ j i. pl.target j (inr i) }))
      (rounds_as s t (k ∷ done) zs (λ j i. parent_as ks copy cm s t j (g.places j (kept j i) (λ _ a e. a))) rounds.1)
      (λ x i q. elim i [ inl e ↦ (waits_t (cm x) q).1 (ap cm (sym e)) | inr j ↦ ready x j (waits_t (cm x) q).0 ]) listed_t (
        line.0,
        g.line (copies_in s copy zs ++ line.0) (line.1 ∙ append_assoc (map copy (atoms_in s k)) (copies_in s copy zs) line.0)
            ∙ ap (λ ws. ws ++ line.0) (sym (copies_same s t copy zs (λ j i. g.head_atoms j (kept j i) (λ v. v)))),
      )
      (mem_line.0, g.mem_line (map cm zs ++ mem_line.0) mem_line.1) in
      record {
        listed = on.listed;
        others = λ x o. on.others x (λ i. o (inr i)) ∙ others_t x (λ e. o (inl (sym e)));
        waits = λ x q. let u = on.waits x q in let b = waits_t x u.0 in (b.0, λ i. elim i [ inl e ↦ b.1 (sym e) | inr j ↦ u.1 j ]);
      }
    where
      first_placing : Placing ks copy cm (k ∷ zs) s → Placing ks copy cm (k ∷ []) s
      first_placing pl = record { kept = λ j i. elim i [ inl e ↦ pl.kept j (inl e) | inr v ↦ absurd v ]; round = λ j i. elim i [ inl e ↦ pl.round j (inl e) | inr v ↦ absurd v ]; target = λ j i. elim i [ inl e ↦ pl.target j (inl e) | inr v ↦ absurd v ] }

      there_after : (s : Heap) (p n k : ℕ) → IsSome (s.mems n) → IsSome ((rules_copied (placed_mem s p n) k n).mems n)
      there_after s p n k is = some_there (s.mems n) ((rules_copied (placed_mem s p n) k n).mems n)
          (change_keeps there_by (placed_mem s p n).mems n (mem_with_rules (rules_in (placed_mem s p n) k)) (λ x. refl) n
          ∙ change_keeps there_by (alter s.mems n (option_map (mem_with_place (within p)))) p (mem_with_mems (λ ws. ws ++ n ∷ [])) (λ y. refl) n ∙ change_keeps there_by s.mems n (mem_with_place (within p)) (λ y. refl) n) is

-- the whole rest
pub rest_settles : (ks : List ℕ) (s : Heap) (m n : ℕ) (atoms membranes copies new : List ℕ) (c : CopyWaits s m n atoms membranes copies new) (pl : Places ks s m n atoms membranes new)
    → (mem_place_of s n ≡ Some waiting → ⊥) → Listed s → Settles s (rest_placed s m n atoms membranes copies new) new
rest_settles ks s m n atoms membranes copies new c pl wait h =
    let cp = answer atoms copies in
    let cm = answer (m ∷ membranes) (n ∷ new) in
    let first = map cp (atoms_in s m) in
    let t0 = all_placed s (map (λ y. (n, y)) first) in
    let t = atoms_placed cp s n (atoms_in s m) in
    let eq : t ≡ t0 = placed_pairs cp n (atoms_in s m) s in
    let g0 = subst (λ z. Grown ks s z [] first [] (only_at n first) (λ x. []) (λ x. [])) (sym eq) (grown_all_placed ks n first s pl.target.0 pl.target.1) in
    let placing = rest_placing ks s m n atoms membranes copies new c pl in
    let pieces = all_atoms ks s m n atoms membranes copies new c pl in
    let here : s.new_atoms ≡ first ++ (copies_in s cp membranes ++ c.line.0) = c.line.1 ∙ ap (λ zs. zs ++ c.line.0) (sym pieces) ∙ append_assoc first (copies_in s cp membranes) c.line.0 in
    let one = atoms_settle n first s (copies_in s cp membranes ++ c.line.0) here pl.target.1 wait h in
    let kept : (k : ℕ) → In k membranes → In k ks = λ k i. pl.kept k (inr i) in
    let place_t : (x : ℕ) → mem_place_of t x ≡ mem_place_of s x = λ x. ap (λ (z : Heap). mem_place_of z x) eq ∙ one.others x (λ i. i) in
    let f = c.content.forest in
    let rounds_s : Rounds s (m ∷ []) membranes = subst (Rounds s (m ∷ [])) (nothing (flat f) ∙ sym c.content.preorder)
    (rounds_forest s f (mems_in s m) m (m ∷ []) [] (forms ks s m n atoms membranes copies new c pl) (λ k i. pl.homes m k (inl refl) i)
    (λ q k i j. pl.homes q k (inr (of_flat ks s m n atoms membranes copies new c pl q i)) j) (inl refl) (λ later sub. tt)) in
    let names = all_membranes ks s m n atoms membranes copies new c pl in
    let on = membranes_settle ks cp cm membranes (m ∷ []) t (placing_on ks cp cm membranes s t first [] (only_at n first) (λ x. []) (λ x. []) g0 placing)
    (rounds_as s t (m ∷ []) membranes (λ k i. parent_as ks cp cm s t k (place_t k)) rounds_s)
    (λ x i q. elim i [ inl e ↦ wait (subst (λ z. mem_place_of s z ≡ Some waiting) (ap cm (sym e) ∙ cm_m ks s m n atoms membranes copies new c pl) (sym (place_t (cm x)) ∙ q)) | inr v ↦ absurd v ])
    (subst Listed (sym eq) one.listed)
    (c.line.0, g0.line (copies_in s cp membranes ++ c.line.0) here ∙ ap (λ zs. zs ++ c.line.0) (sym (copies_same s t cp membranes (λ k i. g0.head_atoms k (kept k i) (λ v. v)))))
    (c.line_of_membranes.0, g0.mem_line (new ++ c.line_of_membranes.0) c.line_of_membranes.1 ∙ ap (λ zs. zs ++ c.line_of_membranes.0) (sym names)) in
    record {
      listed = on.listed;
      others = λ x o. on.others x (λ i. o (subst (In x) names i)) ∙ place_t x;
      waits = λ x q. let u = on.waits x q in (sym (place_t x) ∙ u.0, λ i. u.1 (subst (In x) (sym names) i));
    }
  where
    nothing : (zs : List ℕ) → zs ++ [] ≡ zs
    nothing [] = refl
    nothing (z ∷ zs) = ap (λ ws. z ∷ ws) (nothing zs)
