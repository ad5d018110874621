-- From where a head lies in a region to an instance of the head: links of the rule have even numbers, those of the region odd ones.
use Rattle.std.proofs.Common.{ℕ, zero, suc, cond, eqb, List, map, refl, sym, ap, subst, inl, inr, arith, ◌≡◌, ◌≢◌, ◌+◌, ◌≤◌, ◌⊎◌, [], ◌∷◌, ◌∙◌}
use Rattle.lmn_congruence.specs.Orders.{OneByOne, no_pairs, pair_and}
use Rattle.lmn_congruence.specs.Fused.{NoConnector}
use Rattle.lmn_congruence.specs.LinkedRules.{leaves_occurrences, level_occurrences, levels_occurrences}
use Rattle.lmn_congruence.specs.Links.{one_if_same, places}
use Rattle.lmn_congruence.specs.Process.{Free, OneToOneOn, Process, atom, connector, membrane, nothing, occurrences, pair, renamed, rule, together}
use Rattle.lmn_congruence.specs.Regions.{Region, Regions, SolidAtom, atom_process, region_process, regions_processes}
use Rattle.lmn_congruence.specs.Rules.{Context, Leaf, Level, Levels, Name, Rule, Rules, level, level_and, rules_list}
use Rattle.lmn_congruence.specs.UpToOrder.{Reordered, r_back, r_beside, r_chain, r_inside, r_regroup, r_same, r_unit}
use Rattle.lmn_reduction.specs.Assignments.{Assignment}
use Rattle.lmn_reduction.specs.Instances.{of_atom, rules_of_contexts, LeafInstance}
use Rattle.lmn_reduction.proofs.Copies.{IsRootedCopy, typed_by}
use Rattle.lmn_reduction.specs.Parts.{IsGround, OnlyAtoms, Rooted}
use Rattle.lmn_congruence.proofs.Counts.{Occurs}
use Rattle.lmn_congruence.proofs.LinkMaps.{two_occurrences}
use Rattle.lmn_congruence.proofs.Renaming.{occurrences_image, occurrences_none, renamed_agree, renamed_id}
use Rattle.lmn_congruence.proofs.Reordered.{r_right, reordered_count}
use Rattle.lmn_congruence.proofs.Solids.{put_map, put_together}
use Rattle.lmn_adequacy.specs.Embedding.{AtomImages, IsPart, KeepsLinks, TakenRegion, TypedParts, image_and, no_image, no_part, no_part_of_atom, part_and, typed_later}
use Rattle.lmn_adequacy.specs.Loose.{LevelImages, MembraneImages, Plain, filling, level_images, membrane_image_and, no_membrane_image}
use Rattle.lmn_adequacy.proofs.Embedding.{part_order}
use Rattle.lmn_adequacy.proofs.Ends.{AllMembranes}
use Rattle.lmn_adequacy.proofs.Exposing.{KeepsCounts}
use Rattle.lmn_adequacy.proofs.Images.{atoms_plain, no_connector_renamed, no_link_rule_contexts, renamed_renamed}
use Rattle.lmn_adequacy.proofs.LiteralHeads.{HeadInstances, head_and, head_instance, no_head}
use Rattle.lmn_adequacy.proofs.Orders.{atoms_joined, merged_shuffle, r_both, r_over, region_put, shuffled_atoms, taken_put}
use Rattle.lmn_adequacy.proofs.RawProcesses.{made}
use Rattle.lmn_congruence_splice.specs.Splice.{of_rule, of_solid}
use Rattle.lmn_base.proofs.Numbers.{same_or_not}
use Rattle.lmn_congruence.proofs.TranslatedLinks.{no_link_in_rules as no_link_rules}
use Rattle.lmn_congruence_splice.proofs.Fusions.{apart_rule as even_not_odd, rule_once as even_differs, solid_once as odd_differs}

-- ---- even and odd numbers

-- one map of links at even numbers, another at odd ones
abbrev pub by_parity : (ℕ → ℕ) → (ℕ → ℕ) → ℕ → ℕ
by_parity f g zero = f 0
by_parity f g (suc zero) = g 0
by_parity f g (suc (suc n)) = by_parity (λ x. f (suc x)) (λ x. g (suc x)) n

-- the first map holds at links of the rule
pub at_even : (f g : ℕ → ℕ) (x : ℕ) → by_parity f g (of_rule x) ≡ f x
at_even f g zero = refl
at_even f g (suc x) = let e : suc x + suc x ≡ suc (suc (x + x)) = omega arith in ap (by_parity f g) e ∙ at_even (λ x. f (suc x)) (λ x. g (suc x)) x

-- and the second at links of the solid
pub at_odd : (f g : ℕ → ℕ) (x : ℕ) → by_parity f g (of_solid x) ≡ g x
at_odd f g zero = refl
at_odd f g (suc x) = let e : suc (suc x + suc x) ≡ suc (suc (suc (x + x))) = omega arith in ap (by_parity f g) e ∙ at_odd (λ x. f (suc x)) (λ x. g (suc x)) x

-- a raw link is one of the rule, or one of the solid
pub data Parity (z : ℕ) : Type 0 where
  even : (x : ℕ) → z ≡ of_rule x → Parity z
  odd : (x : ℕ) → z ≡ of_solid x → Parity z

next_parity : {z : ℕ} → Parity z → Parity (suc z)
next_parity (even x e) = odd x (ap suc e)
next_parity {z = z} (odd x e) = even (suc x) (omega (arith, e))

-- each raw link is one of the rule or one of the solid
pub parity : (z : ℕ) → Parity z
parity zero = even 0 refl
parity (suc z) = next_parity (parity z)

module _ (t : Assignment) (plain_t : Plain t) where
  abbrev pub T : Assignment
  T = made t

  -- the link of the region at the place of a link of the instance
  abbrev pub place : ℕ → ℕ
  place = by_parity t.link_of (λ x. x)

  pub place_rule : (x : ℕ) → place (of_rule x) ≡ t.link_of x
  place_rule x = at_even t.link_of (λ x. x) x

  pub place_solid : (x : ℕ) → place (of_solid x) ≡ x
  place_solid x = at_odd t.link_of (λ x. x) x

  placed_links : (ys : List ℕ) → map place (map of_rule ys) ≡ map t.link_of ys
  placed_links [] = refl
  placed_links (y ∷ ys) = cc (place_rule y, placed_links ys)

  pub placed_process : (P : Process) → renamed place (renamed of_solid P) ≡ P
  placed_process P = renamed_renamed place of_solid P ∙ renamed_agree (λ x. place (of_solid x)) (λ x. x) P (λ x o. place_solid x) ∙ renamed_id P

  -- ---- the copy of a typed part

  abbrev pub copy_map : Rooted → (ℕ → ℕ) → ℕ → ℕ → ℕ
  copy_map g f x y = cond (eqb y g.root) (of_rule x) (of_solid (f y))

  pub copy_root : (g : Rooted) (f : ℕ → ℕ) (x y : ℕ) → y ≡ g.root → copy_map g f x y ≡ of_rule x
  copy_root g f x y e = go (of_rule x) (of_solid (f y)) y g.root e
    where
      go : (m n y r : ℕ) → y ≡ r → cond (eqb y r) m n ≡ m
      go m n y r e = grind arith

  pub copy_other : (g : Rooted) (f : ℕ → ℕ) (x y : ℕ) → y ≢ g.root → copy_map g f x y ≡ of_solid (f y)
  copy_other g f x y e = go (of_rule x) (of_solid (f y)) y g.root e
    where
      go : (m n y r : ℕ) → y ≢ r → cond (eqb y r) m n ≡ n
      go m n y r e = grind arith

  copy_place : (g : Rooted) (f : ℕ → ℕ) (x y : ℕ) → f g.root ≡ t.link_of x → place (copy_map g f x y) ≡ f y
  copy_place g f x y e = go (same_or_not y g.root)
    where
      go : (y ≡ g.root) ⊎ (y ≢ g.root) → place (copy_map g f x y) ≡ f y
      go (inl q) = ap place (copy_root g f x y q) ∙ place_rule x ∙ sym e ∙ ap f (sym q)
      go (inr d) = ap place (copy_other g f x y d) ∙ place_solid (f y)

  pub copy_one : (g : Rooted) (f : ℕ → ℕ) (x : ℕ) → OneToOneOn f g.process → OneToOneOn (copy_map g f x) g.process
  copy_one g f x one = λ y z o o' e. go y z o o' e (same_or_not y g.root) (same_or_not z g.root)
    where
      go : (y z : ℕ) → occurrences y g.process ≢ 0 → occurrences z g.process ≢ 0 → copy_map g f x y ≡ copy_map g f x z → (y ≡ g.root) ⊎ (y ≢ g.root) → (z ≡ g.root) ⊎ (z ≢ g.root) → y ≡ z
      go y z o o' e (inl q) (inl r) = q ∙ sym r
      go y z o o' e (inl q) (inr r) = absurd (even_not_odd x (f z) (sym (copy_root g f x y q) ∙ e ∙ copy_other g f x z r))
      go y z o o' e (inr q) (inl r) = absurd (even_not_odd x (f y) (sym (copy_root g f x z r) ∙ sym e ∙ copy_other g f x y q))
      go y z o o' e (inr q) (inr r) = one y z o o' (odd_differs (f y) (f z) (sym (copy_other g f x y q) ∙ e ∙ copy_other g f x z r))

  pub copy_count : (g : Rooted) (f : ℕ → ℕ) (x z : ℕ) → Free g.root g.process → OneToOneOn f g.process → occurrences (of_rule z) (renamed (copy_map g f x) g.process) ≡ one_if_same z x
  copy_count g f x z free one = go (same_or_not z x)
    where
      same_link : (m n : ℕ) → m ≡ n → one_if_same m n ≡ 1
      same_link m n e = grind arith

      other : (m n : ℕ) → m ≢ n → one_if_same m n ≡ 0
      other m n d = grind arith

      one_occurs : (n : ℕ) → n ≡ 1 → n ≢ 0
      one_occurs n p = grind arith

      not_there : z ≢ x → (y : ℕ) → copy_map g f x y ≢ of_rule z
      not_there d y = at (same_or_not y g.root)
        where
          at : (y ≡ g.root) ⊎ (y ≢ g.root) → copy_map g f x y ≢ of_rule z
          at (inl q) = λ e. d (even_differs z x (sym e ∙ copy_root g f x y q))
          at (inr r) = λ e. even_not_odd z (f y) (sym e ∙ copy_other g f x y r)

      go : (z ≡ x) ⊎ (z ≢ x) → occurrences (of_rule z) (renamed (copy_map g f x) g.process) ≡ one_if_same z x
      go (inl e) =
          let r = copy_root g f x g.root refl in
          ap (λ k. occurrences k (renamed (copy_map g f x) g.process)) (ap of_rule e ∙ sym r)
          ∙ occurrences_image (copy_map g f x) g.root g.process (λ y o q. copy_one g f x one y g.root o (one_occurs (occurrences g.root g.process) free) q)
          ∙ free ∙ sym (same_link z x e)
      go (inr d) = occurrences_none (copy_map g f x) (of_rule z) g.process (λ y o. not_there d y) ∙ sym (other z x d)

  copy_order : (g : Rooted) (x : ℕ) (part : List SolidAtom) → IsGround g → (i : IsPart g (t.link_of x) part) → Reordered (renamed place (renamed (copy_map g i.to x) g.process)) (together (map atom_process part))
  copy_order g x part ground i =
      let e : renamed place (renamed (copy_map g i.to x) g.process) ≡ renamed i.to g.process = renamed_renamed place (copy_map g i.to x) g.process ∙ renamed_agree (λ y. place (copy_map g i.to x y)) i.to g.process (λ y o. copy_place g i.to x y i.root) in
      r_chain (r_same e) (part_order i.to g.process part ground.only_atoms i.atoms)

  -- ---- the leaves

  abbrev images_of : {ls : List Leaf} {ns : List ℕ} {xs xs' : List SolidAtom} → AtomImages t ls ns xs xs' → Process
  images_of no_image = nothing
  images_of (image_and {a = a} {ys = ys} k i) = pair (atom a (map t.link_of ys)) (images_of i)
  images_of (typed_later i) = images_of i

  abbrev parts_of : {ls : List Leaf} {xs xs' : List SolidAtom} → TypedParts t ls xs xs' → Process
  parts_of no_part = nothing
  parts_of (no_part_of_atom j) = parts_of j
  parts_of (part_and {part = part} g i q j) = pair (together (map atom_process part)) (parts_of j)

  images_order : {ls : List Leaf} {ns : List ℕ} {xs xs' : List SolidAtom} (i : AtomImages t ls ns xs xs') → Reordered (pair (images_of i) (together (map atom_process xs'))) (together (map atom_process xs))
  images_order no_image = r_unit
  images_order (image_and k i) = r_chain (r_back r_regroup) (r_chain (r_right (images_order i)) (put_together (put_map atom_process (taken_put k))))
  images_order (typed_later i) = images_order i

  abbrev same_atom : SolidAtom → SolidAtom
  same_atom a = a

  parts_order : {ls : List Leaf} {xs xs' : List SolidAtom} (j : TypedParts t ls xs xs') → Reordered (pair (parts_of j) (together (map atom_process xs'))) (together (map atom_process xs))
  parts_order no_part = r_unit
  parts_order (no_part_of_atom j) = parts_order j
  parts_order (part_and {part = part} {xs' = ys} g i q j) =
      r_chain (r_back r_regroup) (r_chain (r_right (parts_order j)) (r_chain (atoms_joined part ys) (shuffled_atoms same_atom (merged_shuffle q))))

  pub record LeavesSkeleton (ls : List Leaf) (I J : Process) : Type 0 where
    pub processes : List Process
    pub instances : OneByOne (LeafInstance T) ls processes
    pub order : Reordered (renamed place (together processes)) (pair I J)
    pub plain : NoConnector (together processes)
    pub count : (x : ℕ) → occurrences (of_rule x) (together processes) ≡ leaves_occurrences x ls
    pub flat : AllMembranes (KeepsCounts place) (together processes)

  pub places_even : (x : ℕ) (ys : List ℕ) → places (of_rule x) (map of_rule ys) ≡ places x ys
  places_even x [] = refl
  places_even x (y ∷ ys) = omega (arith, one_even x y (same_or_not x y), places_even x ys)
    where
      same_link : (m n : ℕ) → m ≡ n → one_if_same m n ≡ 1
      same_link m n e = grind arith

      other : (m n : ℕ) → m ≢ n → one_if_same m n ≡ 0
      other m n d = grind arith

      one_even : (x y : ℕ) → (x ≡ y) ⊎ (x ≢ y) → one_if_same (of_rule x) (of_rule y) ≡ one_if_same x y
      one_even x y (inl e) = same_link (of_rule x) (of_rule y) (ap of_rule e) ∙ sym (same_link x y e)
      one_even x y (inr d) = other (of_rule x) (of_rule y) (λ e. d (even_differs x y e)) ∙ sym (other x y d)

  only_atoms_flat : (H : Process → Type 0) (f : ℕ → ℕ) (P : Process) → OnlyAtoms P → AllMembranes H (renamed f P)
  only_atoms_flat H f nothing o = absurd o
  only_atoms_flat H f (connector x y) o = absurd o
  only_atoms_flat H f (atom a xs) o = tt
  only_atoms_flat H f (pair P Q) o = (only_atoms_flat H f P o.0, only_atoms_flat H f Q o.1)
  only_atoms_flat H f (membrane P) o = absurd o
  only_atoms_flat H f (rule r) o = absurd o

  leaves_skeleton : {ls : List Leaf} {ns : List ℕ} {xs xs' ys ys' : List SolidAtom} (i : AtomImages t ls ns xs xs') (j : TypedParts t ls ys ys') → LeavesSkeleton ls (images_of i) (parts_of j)
  leaves_skeleton no_image no_part = record { processes = []; instances = no_pairs; order = r_back r_unit; plain = tt; count = λ x. refl; flat = tt }
  leaves_skeleton (image_and {a = a} {ys = zs} k i) (no_part_of_atom j) =
      let u = leaves_skeleton i j in
      record {
        processes = atom a (map of_rule zs) ∷ u.processes;
        instances = pair_and of_atom u.instances;
        order = r_chain (r_both (r_same (ap (atom a) (placed_links zs))) u.order) r_regroup;
        plain = (tt, u.plain);
        count = λ x. omega (arith, places_even x zs, u.count x);
        flat = (tt, u.flat);
      }
  leaves_skeleton (typed_later {x = x} i) (part_and {p = p} {part = part} g y q j) =
      let u = leaves_skeleton i j in
      let G = t.typed_of p in
      let P : Process = renamed (copy_map G y.to x) G.process in
      let c : IsRootedCopy G (of_rule x) P = record { to = copy_map G y.to x; one_to_one = copy_one G y.to x y.one_to_one; root = copy_root G y.to x G.root refl; is = refl } in
      record {
        processes = P ∷ u.processes;
        instances = pair_and (typed_by c) u.instances;
        order = r_chain (r_both (copy_order G x part g y) u.order) r_over;
        plain = (no_connector_renamed (copy_map G y.to x) G.process (atoms_plain G.process g.only_atoms), u.plain);
        count = λ z. omega (arith, copy_count G y.to x z g.root_is_free y.one_to_one, u.count z);
        flat = (only_atoms_flat (KeepsCounts place) (copy_map G y.to x) G.process g.only_atoms, u.flat);
      }

  -- ---- contexts and rules

  kept_solid_at : (D : Process) → KeepsCounts place (renamed of_solid D)
  kept_solid_at D = λ z o. go z o (parity z)
    where
      go : (z : ℕ) → Occurs z (renamed of_solid D) → Parity z → occurrences (place z) (renamed place (renamed of_solid D)) ≡ occurrences z (renamed of_solid D)
      go z o (even x e) = absurd (o (ap (λ k. occurrences k (renamed of_solid D)) e ∙ occurrences_none of_solid (of_rule x) D (λ y o' q. even_not_odd x y (sym q))))
      go z o (odd x e) =
          ap (occurrences (place z)) (placed_process D) ∙ ap (λ k. occurrences k D) (ap place e ∙ place_solid x)
          ∙ sym (occurrences_image of_solid x D (λ y o' q. odd_differs y x q)) ∙ ap (λ k. occurrences k (renamed of_solid D)) (sym e)

  kept_solid : (P : Process) → AllMembranes (KeepsCounts place) (renamed of_solid P)
  kept_solid nothing = tt
  kept_solid (connector x y) = tt
  kept_solid (atom a xs) = tt
  kept_solid (pair P Q) = (kept_solid P, kept_solid Q)
  kept_solid (membrane P) = (kept_solid_at P, kept_solid P)
  kept_solid (rule r) = tt

  placed_contexts : (ps : List Context) → renamed place (together (map T.context_of ps)) ≡ together (map t.context_of ps)
  placed_contexts [] = refl
  placed_contexts (p ∷ ps) = cc (placed_process (t.context_of p), placed_contexts ps)

  placed_rules : (rs : List Rule) → renamed place (together (map rule rs)) ≡ together (map rule rs)
  placed_rules [] = refl
  placed_rules (r ∷ rs) = ap (pair (rule r)) (placed_rules rs)

  placed_rule_contexts : (rs : List Name) → renamed place (together (rules_of_contexts T rs)) ≡ together (rules_of_contexts t rs)
  placed_rule_contexts [] = refl
  placed_rule_contexts (r ∷ rs) = cc (placed_rules (t.rules_of r), placed_rule_contexts rs)

  placed_filling : (ps : List Context) (qs : List Name) (rs : Rules) → renamed place (filling T ps qs rs) ≡ filling t ps qs rs
  placed_filling ps qs rs = cc (placed_contexts ps, placed_rule_contexts qs, placed_rules (rules_list rs))

  plain_contexts : (ps : List Context) → NoConnector (together (map T.context_of ps))
  plain_contexts [] = tt
  plain_contexts (p ∷ ps) = (no_connector_renamed of_solid (t.context_of p) (plain_t.no_connector p), plain_contexts ps)

  plain_rules : (rs : List Rule) → NoConnector (together (map rule rs))
  plain_rules [] = tt
  plain_rules (r ∷ rs) = (tt, plain_rules rs)

  plain_rule_contexts : (rs : List Name) → NoConnector (together (rules_of_contexts T rs))
  plain_rule_contexts [] = tt
  plain_rule_contexts (r ∷ rs) = (plain_rules (t.rules_of r), plain_rule_contexts rs)

  flat_contexts : (ps : List Context) → AllMembranes (KeepsCounts place) (together (map T.context_of ps))
  flat_contexts [] = tt
  flat_contexts (p ∷ ps) = (kept_solid (t.context_of p), flat_contexts ps)

  flat_rules : (rs : List Rule) → AllMembranes (KeepsCounts place) (together (map rule rs))
  flat_rules [] = tt
  flat_rules (r ∷ rs) = (tt, flat_rules rs)

  flat_rule_contexts : (rs : List Name) → AllMembranes (KeepsCounts place) (together (rules_of_contexts T rs))
  flat_rule_contexts [] = tt
  flat_rule_contexts (r ∷ rs) = (flat_rules (t.rules_of r), flat_rule_contexts rs)

  pub no_even_contexts : (x : ℕ) (ps : List Context) → occurrences (of_rule x) (together (map T.context_of ps)) ≡ 0
  no_even_contexts x [] = refl
  no_even_contexts x (p ∷ ps) = omega (arith, occurrences_none of_solid (of_rule x) (t.context_of p) (λ y o q. even_not_odd x y (sym q)), no_even_contexts x ps)

  -- ---- the counts of the links of a head membrane

  keeps_counts : (l : Level) (C : Process) (m : Region) → Reordered (renamed place C) (region_process m) → ((x : ℕ) → occurrences (of_rule x) C ≡ level_occurrences x l) → KeepsLinks t l m → KeepsCounts place C
  keeps_counts l C m d n k = λ z o. go z o (parity z)
    where
      at_rule : (x : ℕ) → Occurs (of_rule x) C → occurrences (place (of_rule x)) (renamed place C) ≡ occurrences (of_rule x) C
      at_rule x o =
          ap (λ i. occurrences i (renamed place C)) (place_rule x) ∙ reordered_count d (t.link_of x)
          ∙ k.as_often x (λ e. o (n x ∙ e)) ∙ sym (n x)

      at_rule_is : (x z : ℕ) → z ≡ of_rule x → Occurs z C → occurrences (place z) (renamed place C) ≡ occurrences z C
      at_rule_is x z e o = subst (λ i. occurrences (place i) (renamed place C) ≡ occurrences i C) (sym e) (at_rule x (subst (λ i. Occurs i C) e o))

      not_both : (m n k : ℕ) → m + n ≤ k → k ≡ m → n ≡ 0
      not_both m n k b e = omega (arith, b, e)

      apart : (x y z z' : ℕ) → z' ≡ of_rule x → z ≡ of_solid y → z' ≢ z
      apart x y z z' e f = λ q. even_not_odd x y (sym e ∙ q ∙ f)

      only : (y z z' : ℕ) → z ≡ of_solid y → Occurs z C → Occurs z' C → place z' ≡ place z → Parity z' → z' ≡ z
      only y z z' e o o' q (even x f) =
          absurd (o (not_both (occurrences z' C) (occurrences z C) (occurrences (place z') (renamed place C)) (two_occurrences place z' z C (apart x y z z' f e) q) (at_rule_is x z' f o')))
      only y z z' e o o' q (odd x f) = f ∙ ap of_solid (sym (place_solid x) ∙ ap place (sym f) ∙ q ∙ ap place e ∙ place_solid y) ∙ sym e

      go : (z : ℕ) → Occurs z C → Parity z → occurrences (place z) (renamed place C) ≡ occurrences z C
      go z o (even x e) = at_rule_is x z e o
      go z o (odd y e) = occurrences_image place z C (λ z' o' q. only y z z' e o o' q (parity z'))

  -- ---- levels

  r_four : {P Q X M R : Process} → Reordered (pair (pair P Q) (pair X (pair M R))) (pair (pair P X) (pair (pair Q M) R))
  r_four = r_chain (r_back r_regroup) (r_chain (r_right r_over) (r_chain r_regroup (r_right r_regroup)))

  pub record LevelSkeleton (leaves : List Leaf) (membranes : Levels) (m rest : Region) : Type 0 where
    pub first : List Process
    pub second : List Process
    pub leaf_instances : OneByOne (LeafInstance T) leaves first
    pub membrane_instances : HeadInstances T membranes second
    pub order : Reordered (pair (renamed place (pair (together first) (together second))) (region_process rest)) (region_process m)
    pub plain : NoConnector (pair (together first) (together second))
    pub count : (x : ℕ) → occurrences (of_rule x) (pair (together first) (together second)) ≡ leaves_occurrences x leaves + levels_occurrences x membranes
    pub kept : AllMembranes (KeepsCounts place) (pair (together first) (together second))

  pub record MembranesSkeleton (ls : Levels) (ms rest : Regions) : Type 0 where
    pub processes : List Process
    pub instances : HeadInstances T ls processes
    pub order : Reordered (pair (renamed place (together processes)) (together (regions_processes rest))) (together (regions_processes ms))
    pub plain : NoConnector (together processes)
    pub count : (x : ℕ) → occurrences (of_rule x) (together processes) ≡ levels_occurrences x ls
    pub kept : AllMembranes (KeepsCounts place) (together processes)

  membrane_added : (leaves : List Leaf) (membranes ls : Levels) (contexts : List Context) (rule_contexts : List Name) (rules : Rules) (n : ℕ) (m rest : Region) (ms ms' ms'' : Regions) → TakenRegion n m ms ms'
      → LevelSkeleton leaves membranes m rest → KeepsLinks t (level leaves membranes contexts rule_contexts rules) m → Reordered (filling t contexts rule_contexts rules) (region_process rest)
      → MembranesSkeleton ls ms' ms'' → MembranesSkeleton (level_and (level leaves membranes contexts rule_contexts rules) ls) ms ms''
  membrane_added leaves membranes ls contexts rule_contexts rules n m rest ms ms' ms'' k u e f w =
      let F = filling T contexts rule_contexts rules in
      let C : Process = pair (together u.first) (pair (together u.second) F) in
      let d : Reordered (renamed place C) (region_process m) = r_chain r_regroup (r_chain (r_right (r_chain (r_same (placed_filling contexts rule_contexts rules)) f)) u.order) in
      let c : (x : ℕ) → occurrences (of_rule x) C ≡ leaves_occurrences x leaves + levels_occurrences x membranes =
      λ x. counted (occurrences (of_rule x) (together u.first)) (occurrences (of_rule x) (together u.second)) (occurrences (of_rule x) (together (map T.context_of contexts)))
      (occurrences (of_rule x) (together (rules_of_contexts T rule_contexts))) (occurrences (of_rule x) (together (map rule (rules_list rules)))) (leaves_occurrences x leaves + levels_occurrences x membranes)
      (u.count x) (no_even_contexts x contexts) (no_link_rule_contexts T (of_rule x) rule_contexts) (no_link_rules (of_rule x) (rules_list rules)) in
      record {
        processes = membrane C ∷ w.processes;
        instances = head_and (head_instance u.leaf_instances u.membrane_instances) w.instances;
        order = r_chain (r_back r_regroup) (r_chain (r_both (r_inside d) w.order) (put_together (region_put k)));
        plain = ((u.plain.0, (u.plain.1, (plain_contexts contexts, (plain_rule_contexts rule_contexts, plain_rules (rules_list rules))))), w.plain);
        count = λ x. omega (arith, c x, w.count x);
        kept = ((keeps_counts (level leaves membranes contexts rule_contexts rules) C m d c e, (u.kept.0, (u.kept.1, (flat_contexts contexts, (flat_rule_contexts rule_contexts, flat_rules (rules_list rules)))))), w.kept);
      }
    where
      counted : (a b c d e n : ℕ) → a + b ≡ n → c ≡ 0 → d ≡ 0 → e ≡ 0 → a + (b + (c + (d + e))) ≡ n
      counted a b c d e n p q r s = omega (arith, p, q, r, s)

  mutual
    pub level_skeleton : {leaves : List Leaf} {membranes : Levels} {contexts : List Context} {rule_contexts : List Name} {rules : Rules} {ns : List ℕ} {m rest : Region}
        → LevelImages t (level leaves membranes contexts rule_contexts rules) ns m rest → LevelSkeleton leaves membranes m rest
    level_skeleton (level_images i j k) =
        let u = leaves_skeleton i j in
        let w = membranes_skeleton k in
        record {
          first = u.processes;
          second = w.processes;
          leaf_instances = u.instances;
          membrane_instances = w.instances;
          order = r_chain r_four (r_both (r_chain (r_beside u.order) (r_chain (r_back r_regroup) (r_chain (r_right (parts_order j)) (images_order i)))) (r_beside w.order));
          plain = (u.plain, w.plain);
          count = λ x. omega (arith, u.count x, w.count x);
          kept = (u.flat, w.kept);
        }

    pub membranes_skeleton : {ls : Levels} {ns : List ℕ} {ms rest : Regions} → MembraneImages t ls ns ms rest → MembranesSkeleton ls ms rest
    membranes_skeleton no_membrane_image = record { processes = []; instances = no_head; order = r_unit; plain = tt; count = λ x. refl; kept = tt }
    membranes_skeleton (membrane_image_and {leaves = leaves} {membranes = membranes} {ls = ls} {contexts = contexts} {rule_contexts = rule_contexts} {rules = rules} {n = n} {m = m} {rest = rest} {ms = ms} {ms' = ms'} {ms'' = ms''} k d e f g) =
        membrane_added leaves membranes ls contexts rule_contexts rules n m rest ms ms' ms'' k (level_skeleton d) e f (membranes_skeleton g)
