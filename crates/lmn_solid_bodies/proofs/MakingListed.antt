-- Lists and places stay together while a body is prepared, and while its making part is done.
use Rattle.std.proofs.Common.{ℕ, false, ◌+◌, ◌≡◌, ◌≢◌, ◌⊎◌, true, List, [], ◌∷◌, ◌++◌, map, Some, IsSome, refl, sym, subst, ◌∙◌, inl, inr}
use Rattle.std.proofs.lemmas.Bool.{cases_eq, eq-eqb}
use Rattle.std.proofs.lemmas.List.{append_assoc}
use Rattle.lmn_store_heap.specs.Heap as heap
use Rattle.lmn_store_heap.specs.Heap.{Heap, waiting, mem_place_of, parent_of, Distinct, placed, placed_mem, moved_all, taken_mem}
use Rattle.lmn_store_heap.specs.Sound.{Listed}
use Rattle.lmn_store_heap.proofs.ListLemmas.{each_in}
use Rattle.lmn_store_heap.proofs.Listing.{made_listed, placed_listed, same_mem_place}
use Rattle.lmn_solid_bodies.specs.declared.items.BodyItem.{BodyItem}
use Rattle.lmn_solid_bodies.specs.declared.items.BodyItem.TheVariants.{Atom, Connector, Copy, Bound, Membrane, Rest, Rule, Rules}
use Rattle.lmn_solid_bodies.specs.Code.{making}
use Rattle.lmn_solid_bodies.specs.Running.{Registers, integer_functor, Prepares, DoesAll}
use Rattle.lmn_solid_bodies.specs.Added.{made_mems, source_mems}
use Rattle.lmn_solid_bodies.specs.Rules.{Into}
use Rattle.lmn_solid_bodies.specs.Running.{all_placed}
use Rattle.lmn_solid_bodies.proofs.Brought.{brings_listed, brings_copied}
use Rattle.lmn_solid_bodies.proofs.MakingParts.{Made, made_on, rest_made, rest_on}
use Rattle.lmn_solid_bodies.proofs.RestGrowing.{grown_rest}
use Rattle.lmn_solid_bodies.proofs.RestListing.{rest_settles}
use Rattle.lmn_ground_parts.specs.Rests.{rest_placed}
use Rattle.lmn_store_heap.proofs.ListOps.{change_keeps, place_by, there_by, out_place}
use Rattle.lmn_solid_bodies.proofs.Growing.{Grown, grown_placed, grown_all_placed, grown_placed_mem, grown_moved, grown_rules, only_at, some_there}
use Rattle.lmn_solid_bodies.proofs.Removing.{all_taken_mems, place_parent}
use Rattle.lmn_solid_bodies.proofs.MemsMade.{made_one_mem}
use Rattle.lmn_solid_bodies.proofs.RestMems.{rest_listed}
use Rattle.lmn_solid_bodies.specs.RestCopies.{RestCopies, later, rest_membranes, copied_atom, copied_membrane, copied_into, given}
use Rattle.lmn_solid_bodies.proofs.MemListing.{same_lists_listed, place_after, waits_before}
use Rattle.lmn_store_heap.proofs.MemListing.{made_mem_listed, taken_mem_listed, placed_mem_listed}
use Rattle.lmn_store_heap.proofs.MoveListing.{moved_all_listed}
use Rattle.lmn_store_heap.proofs.Heights.{parent_place}
use Rattle.lmn_base.specs.Lists.{In}
use Rattle.lmn_base.proofs.Lists.{in_either}

-- What prepares keeps lists and places together.
pub prepares_listed : (r : Registers) (a m c : ℕ) (body : List BodyItem) → (s t : Heap) → Listed s → Prepares r (making a m c body) s t → Listed t
prepares_listed r a m c [] s t h w = subst Listed (sym w) h
prepares_listed r a m c (Atom functor links inside ∷ xs) s t h w =
    prepares_listed r (a + 1) m c xs w.0 t (subst Listed (sym w.1.1) (made_listed s (r.head.images.atom a) functor h w.1.0)) w.2
prepares_listed r a m c (Bound integer link inside ∷ xs) s t h w =
    prepares_listed r (a + 1) m c xs w.0 t (subst Listed (sym w.1.1) (made_listed s (r.head.images.atom a) (integer_functor (r.head.integer integer)) h w.1.0)) w.2
prepares_listed r a m c (Connector left right ∷ xs) s t h w = prepares_listed r a m c xs s t h w
prepares_listed r a m c (Copy part link inside ∷ xs) s t h w =
    let k = w.1.0 in
    prepares_listed r a m (c + 1) xs w.0 t (brings_listed s w.0 k.copies (brings_copied s w.0 (r.head.images.part part) (r.copy c) k) k.beside.mems k.beside.new_mems k.beside.root h) w.2
prepares_listed r a m c (Membrane inside ∷ xs) s t h w =
    let one = made_one_mem s (r.head.images.membrane m) w.1.0 in
    prepares_listed r a (m + 1) c xs w.0 t (subst Listed (sym w.1.1) (made_mem_listed s (r.head.images.membrane m) h w.1.0)) w.2
prepares_listed r a m c (Rest of false inside ∷ xs) s t h w = prepares_listed r a m c xs w.0 t (subst Listed (sym w.1) h) w.2
prepares_listed r a m c (Rest of true inside ∷ xs) s t h w = prepares_listed r a m c xs w.0 t (rest_listed s w.0 (r.left_atoms of) (r.left_membranes of) w.1.0 w.1.1 w.1.2 h) w.2
prepares_listed r a m c (Rule rule inside ∷ xs) s t h w =
    prepares_listed r a m c xs w.0 t (subst Listed (sym w.1.1) (same_lists_listed s (r.head.images.membrane inside) (heap.mem_with_spare w.1.0) (λ x. (refl, refl, refl)) h)) w.2
prepares_listed r a m c (Rules of inside ∷ xs) s t h w =
    prepares_listed r a m c xs w.0 t (subst Listed (sym w.1.1) (same_lists_listed s (r.head.images.membrane inside) (heap.mem_with_spare w.1.0) (λ x. (refl, refl, refl)) h)) w.2

-- membranes that are taken keep lists and places together
pub taken_mems_listed : (ks : List ℕ) (s : Heap) → Listed s → Distinct ks → ((k : ℕ) → In k ks → (p : ℕ) × (parent_of s k ≡ Some p)) → Listed (all_taken_mems s ks)
taken_mems_listed [] s h d w = h
taken_mems_listed (k ∷ ks) s h d w =
    let v = w k (inl refl) in
    taken_mems_listed ks (taken_mem s k) (taken_mem_listed s v.0 k h v.1) d.1 (λ b i. let u = w b (inr i) in
    (u.0, place_parent (taken_mem s k) b u.0 (out_place s k b (λ e. each_in (λ z. k ≢ z) ks b d.0 i (sym e)) ∙ parent_place s b u.0 u.1)))

-- Membranes that are there and don't wait.
abbrev pub Ready : ℕ → List ℕ → List ℕ → Heap → Type 0
Ready home done ks s = (x : ℕ) → (x ≡ home) ⊎ In x done ⊎ In x ks → IsSome (s.mems x) × (mem_place_of s x ≡ Some waiting → ⊥)

still : (home : ℕ) (done ks : List ℕ) (s t : Heap) → Ready home done ks s → ((x : ℕ) → there_by (t.mems x) ≡ there_by (s.mems x)) → ((x : ℕ) → mem_place_of t x ≡ Some waiting → mem_place_of s x ≡ Some waiting) → Ready home done ks t
still home done ks s t rd e w x i = let v = rd x i in (some_there (s.mems x) (t.mems x) (e x) v.0, λ q. v.1 (w x q))

of_into : (r : Registers) (home : ℕ) (done ks : List ℕ) (inside : ℕ) → Into r home done inside → (r.head.images.membrane inside ≡ home) ⊎ In (r.head.images.membrane inside) done ⊎ In (r.head.images.membrane inside) ks
of_into r home done ks inside (inl e) = inl e
of_into r home done ks inside (inr i) = inr (inl i)

-- the atoms of a copy are placed
copies_listed : (home : ℕ) (done ks : List ℕ) (y : ℕ) (xs : List ℕ) (s : Heap) → (rest : List ℕ) → s.new_atoms ≡ xs ++ rest → (In y ks → ⊥) → IsSome (s.mems y) → (mem_place_of s y ≡ Some waiting → ⊥)
    → Ready home done ks s → Listed s → Ready home done ks (all_placed s (map (λ a. (y, a)) xs)) × Listed (all_placed s (map (λ a. (y, a)) xs))
copies_listed home done ks y [] s rest e o is wait rd h = (rd, h)
copies_listed home done ks y (a ∷ xs) s rest e o is wait rd h =
    let t = placed s y a in
    let gr = grown_placed ks s y a o is in
    let same : (x : ℕ) → mem_place_of t x ≡ mem_place_of s x = same_mem_place s.mems y (λ zs. zs ++ a ∷ []) in
    copies_listed home done ks y xs t rest (gr.line (xs ++ rest) e) o (some_there (s.mems y) (t.mems y) (gr.there y) is) (λ q. wait (sym (same y) ∙ q))
    (still home done ks s t rd gr.there (λ x q. sym (same x) ∙ q))
    (placed_listed s y a h is wait (subst (λ zs. heap.from (Some a) zs ≡ zs) (sym e) (first_from a (xs ++ rest))))
  where
    first_from : (a : ℕ) (zs : List ℕ) → heap.from (Some a) (a ∷ zs) ≡ a ∷ zs
    first_from a zs = rw (eq-eqb a a refl) refl

-- The making part of a commit keeps lists and places together.
pub making_listed : (r : Registers) (qs : RestCopies) (home : ℕ) (ks : List ℕ) (E : ℕ → Type 0) (done : List ℕ) (a m c : ℕ) (body : List BodyItem) (s t : Heap) → Made r qs ks E home done a m c body s
    → Ready home done ks s → Listed s → DoesAll r (making a m c body) s t → Listed t
making_listed r qs home ks E done a m c [] s t mk rd h w = subst Listed (sym w) h
making_listed r qs home ks E done a m c (Connector left right ∷ xs) s t mk rd h w =
    making_listed r qs home ks E done a m c xs s t (record { there = mk.there; goes = mk.goes; nests = mk.nests; long = mk.long; line = mk.line; mem_line = mk.mem_line; made = mk.made; once = mk.once; home_apart = mk.home_apart; inside = mk.inside; atoms_once = mk.atoms_once }) rd h w
making_listed r qs home ks E done a m c (Atom functor links inside ∷ xs) s t mk rd h w =
    let y = r.head.images.membrane inside in
    let x = r.head.images.atom a in
    let at = rd y (of_into r home done ks inside mk.nests.0) in
    let gr = grown_placed ks s y x mk.goes.0.0 at.0 in
    let g = subst (λ z. Grown ks s z [] (x ∷ []) [] (only_at y (x ∷ [])) (λ v. []) (λ v. [])) (sym w.1.1) gr in
    making_listed r qs home ks E done (a + 1) m c xs w.0 t
    (made_on r qs ks E home done (a + 1) m c xs s w.0 [] (x ∷ []) [] (only_at y (x ∷ [])) (λ v. []) (λ v. []) g (λ v i j. i) mk.there mk.goes.1 mk.nests.1 mk.long mk.line mk.mem_line mk.made mk.once mk.home_apart mk.inside mk.atoms_once)
    (subst (Ready home done ks) (sym w.1.1) (still home done ks s (placed s y x) rd gr.there (λ v e. sym (same_mem_place s.mems y (λ zs. zs ++ x ∷ []) v) ∙ e)))
    (subst Listed (sym w.1.1) (placed_listed s y x h at.0 at.1 w.1.0)) w.2
making_listed r qs home ks E done a m c (Bound integer link inside ∷ xs) s t mk rd h w =
    let y = r.head.images.membrane inside in
    let x = r.head.images.atom a in
    let at = rd y (of_into r home done ks inside mk.nests.0) in
    let gr = grown_placed ks s y x mk.goes.0.0 at.0 in
    let g = subst (λ z. Grown ks s z [] (x ∷ []) [] (only_at y (x ∷ [])) (λ v. []) (λ v. [])) (sym w.1.1) gr in
    making_listed r qs home ks E done (a + 1) m c xs w.0 t
    (made_on r qs ks E home done (a + 1) m c xs s w.0 [] (x ∷ []) [] (only_at y (x ∷ [])) (λ v. []) (λ v. []) g (λ v i j. i) mk.there mk.goes.1 mk.nests.1 mk.long mk.line mk.mem_line mk.made mk.once mk.home_apart mk.inside mk.atoms_once)
    (subst (Ready home done ks) (sym w.1.1) (still home done ks s (placed s y x) rd gr.there (λ v e. sym (same_mem_place s.mems y (λ zs. zs ++ x ∷ []) v) ∙ e)))
    (subst Listed (sym w.1.1) (placed_listed s y x h at.0 at.1 w.1.0)) w.2
making_listed r qs home ks E done a m c (Copy part link inside ∷ xs) s t mk rd h w =
    let y = r.head.images.membrane inside in
    let at = rd y (of_into r home done ks inside mk.nests.0) in
    let gr = grown_all_placed ks y (r.copied c) s mk.goes.0.0 at.0 in
    let g = subst (λ z. Grown ks s z [] (r.copied c) [] (only_at y (r.copied c)) (λ v. []) (λ v. [])) (sym w.1.2) gr in
    let all = copies_listed home done ks y (r.copied c) s w.1.0 w.1.1 mk.goes.0.0 at.0 at.1 rd h in
    making_listed r qs home ks E done a m (c + 1) xs w.0 t
    (made_on r qs ks E home done a m (c + 1) xs s w.0 [] (r.copied c) [] (only_at y (r.copied c)) (λ v. []) (λ v. []) g (λ v i j. i) mk.there mk.goes.1 mk.nests.1 mk.long mk.line mk.mem_line mk.made mk.once mk.home_apart mk.inside mk.atoms_once)
    (subst (Ready home done ks) (sym w.1.2) all.0) (subst Listed (sym w.1.2) all.1) w.2
making_listed r qs home ks E done a m c (Membrane inside ∷ xs) s t mk rd h w =
    let y = r.head.images.membrane inside in
    let z = r.head.images.membrane m in
    let at = rd y (of_into r home done ks inside mk.nests.0) in
    let new = mk.made z (inl refl) in
    let gr = grown_placed_mem ks s y z mk.goes.0.0 new.0 at.0 in
    let g = subst (λ q. Grown ks s q [] [] (z ∷ []) (λ v. []) (only_at y (z ∷ [])) (λ v. [])) (sym w.1.1) gr in
    making_listed r qs home ks E (done ++ z ∷ []) a (m + 1) c xs w.0 t
    (made_on r qs ks E home (done ++ z ∷ []) a (m + 1) c xs s w.0 [] [] (z ∷ []) (λ v. []) (only_at y (z ∷ [])) (λ v. []) g (λ v i j. i) mk.there mk.goes.1 mk.nests.1 mk.long mk.line mk.mem_line (λ v i. mk.made v (inr i))
    (subst Distinct (sym (append_assoc done (z ∷ []) (made_mems r qs (m + 1) xs))) mk.once) (λ i. mk.home_apart (inr i)) mk.inside mk.atoms_once)
    (subst (Ready home (done ++ z ∷ []) ks) (sym w.1.1) (λ x i. elim (cases_eq x z) [
      | inl e ↦ (subst (λ q. IsSome ((placed_mem s y z).mems q)) (sym e) (some_there (s.mems z) ((placed_mem s y z).mems z) (gr.there z) (mk.there z new.1)), λ q. (place_after s y z x q).1 e)
      | inr d ↦ still home done ks s (placed_mem s y z) rd gr.there (λ q e. (place_after s y z q e).0) x (elim i [
        | inl e ↦ inl e
        | inr j ↦ elim j [
          | inl k ↦ elim (in_either x done (z ∷ []) k) [ inl l ↦ inr (inl l) | inr l ↦ elim l [ inl e ↦ absurd (d (sym e)) | inr v ↦ absurd v ] ]
          | inr k ↦ inr (inr k)
        ]
      ])
    ]))
    (subst Listed (sym w.1.1) (placed_mem_listed s y z h at.0 at.1 w.1.0)) w.2
making_listed r qs home ks E done a m c (Rest of false inside ∷ xs) s t mk rd h w =
    let y = r.head.images.membrane inside in
    let k = r.head.images.membrane of in
    let at = rd y (of_into r home done ks inside mk.nests.0) in
    let from = rd k (inr (inr mk.goes.0)) in
    let gr = grown_moved ks s k y mk.goes.0 mk.goes.3.0 from.0 at.0 in
    let g = subst (λ q. Grown ks s q (k ∷ []) [] [] (only_at y (heap.atoms_in s k)) (only_at y (heap.mems_in s k)) (λ v. [])) (sym w.1) gr in
    making_listed r qs home ks E done a m c xs w.0 t
    (made_on r qs ks E home done a m c xs s w.0 (k ∷ []) [] [] (only_at y (heap.atoms_in s k)) (only_at y (heap.mems_in s k)) (λ v. []) g
    (λ x i j. elim i [ inl e ↦ mk.goes.2 (subst (λ z. In z (source_mems r xs)) (sym e) j) | inr v ↦ v ]) mk.there mk.goes.4 mk.nests.1 mk.long mk.line mk.mem_line mk.made mk.once mk.home_apart mk.inside mk.atoms_once)
    (subst (Ready home done ks) (sym w.1) (still home done ks s (moved_all s k y) rd gr.there (waits_before s k y)))
    (subst Listed (sym w.1) (moved_all_listed s k y (λ e. mk.goes.3.0 (subst (λ q. In q ks) e mk.goes.0)) at.0 at.1 h)) w.2
making_listed r qs home ks E done a m c (Rest of true inside ∷ xs) s t mk rd h w =
    let y = r.head.images.membrane inside in
    let k = r.head.images.membrane of in
    let p = qs 0 in
    let at = rd y (of_into r home done ks inside mk.nests.0) in
    let v = rest_made r qs ks E home done a m c of inside xs s w.0 mk w.1 in
    let gr = grown_rest ks s k y (r.left_atoms of) (r.left_membranes of) p.atoms p.membranes v.waits v.places in
    let A = given (λ z. map (copied_atom r of p) (heap.atoms_in s z)) (copied_into r of inside p) (rest_membranes r of) in
    let M = given (λ z. map (copied_membrane r of p) (heap.mems_in s z)) (copied_into r of inside p) (rest_membranes r of) in
    let R = given (heap.rules_in s) (copied_into r of inside p) (r.left_membranes of) in
    let set = rest_settles ks s k y (r.left_atoms of) (r.left_membranes of) p.atoms p.membranes v.waits v.places at.1 h in
    making_listed r (later qs) home ks E done a m c xs w.0 t
    (rest_on r qs ks E home done a m c of inside xs s w.0 mk A M R (subst (λ q. Grown ks s q [] p.atoms p.membranes A M R) (sym v.is) gr))
    (subst (Ready home done ks) (sym v.is) (still home done ks s (rest_placed s k y (r.left_atoms of) (r.left_membranes of) p.atoms p.membranes) rd gr.there (λ x q. (set.waits x q).0)))
    (subst Listed (sym v.is) set.listed) w.2
making_listed r qs home ks E done a m c (Rule rule inside ∷ xs) s t mk rd h w =
    let y = r.head.images.membrane inside in
    let rs = rule ∷ [] in
    let f = heap.mem_with_rules rs in
    let at = rd y (of_into r home done ks inside mk.nests.0) in
    let gr = grown_rules ks s y rs mk.goes.0.0 at.0 in
    let g = subst (λ q. Grown ks s q [] [] [] (λ v. []) (λ v. []) (only_at y rs)) (sym w.1) gr in
    making_listed r qs home ks E done a m c xs w.0 t
    (made_on r qs ks E home done a m c xs s w.0 [] [] [] (λ v. []) (λ v. []) (only_at y rs) g (λ v i j. i) mk.there mk.goes.1 mk.nests.1 mk.long mk.line mk.mem_line mk.made mk.once mk.home_apart mk.inside mk.atoms_once)
    (subst (Ready home done ks) (sym w.1) (still home done ks s (heap.rule_added s y rule) rd (change_keeps there_by s.mems y f (λ x. refl)) (λ x e. sym (change_keeps place_by s.mems y f (λ x. refl) x) ∙ e)))
    (subst Listed (sym w.1) (same_lists_listed s y f (λ x. (refl, refl, refl)) h)) w.2
making_listed r qs home ks E done a m c (Rules of inside ∷ xs) s t mk rd h w =
    let y = r.head.images.membrane inside in
    let rs = heap.rules_in s (r.head.images.membrane of) in
    let f = heap.mem_with_rules rs in
    let at = rd y (of_into r home done ks inside mk.nests.0) in
    let gr = grown_rules ks s y rs mk.goes.1.0 at.0 in
    let g = subst (λ q. Grown ks s q [] [] [] (λ v. []) (λ v. []) (only_at y rs)) (sym w.1) gr in
    making_listed r qs home ks E done a m c xs w.0 t
    (made_on r qs ks E home done a m c xs s w.0 [] [] [] (λ v. []) (λ v. []) (only_at y rs) g (λ v i j. i) mk.there mk.goes.2 mk.nests.1 mk.long mk.line mk.mem_line mk.made mk.once mk.home_apart mk.inside mk.atoms_once)
    (subst (Ready home done ks) (sym w.1) (still home done ks s (heap.rules_copied s (r.head.images.membrane of) y) rd (change_keeps there_by s.mems y f (λ x. refl)) (λ x e. sym (change_keeps place_by s.mems y f (λ x. refl) x) ∙ e)))
    (subst Listed (sym w.1) (same_lists_listed s y f (λ x. (refl, refl, refl)) h)) w.2
