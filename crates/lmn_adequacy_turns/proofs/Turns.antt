-- A firing on a heap is a next region of the calculus.
use Rattle.std.proofs.Common.{ℕ, zero, suc, ◌≡◌, ◌≢◌, ◌⊎◌, ◌+◌, ◌<◌, ◌≤◌, List, [], ◌∷◌, ◌++◌, map, length, Option, Some, None, refl, sym, ap, subst, ◌∙◌, inl, inr, arith}
use Rattle.std.proofs.lemmas.List.{map-append}
use Rattle.lmn_base.specs.declared.solid.SolidAtom.{SolidAtom}
use Rattle.lmn_store_heap.specs.Heap.{Heap, HeapMem, IsMem, atoms_in, mems_in, rules_in, atoms_by, mems_by, rules_by}
use Rattle.lmn_store_heap.specs.Lists.{Distinct, without_all}
use Rattle.lmn_store_heap.specs.Solid.{solid_atoms_at}
use Rattle.lmn_store_heap.specs.Sound.{Forest, bare, mem, flat, Forms}
use Rattle.lmn_store_heap.proofs.ListLemmas.{each_in, in_left, withouts_nothing}
use Rattle.std.proofs.lemmas.List.{append-nil}
use Rattle.lmn_solid_heads.specs.Heads.{membranes_of}
use Rattle.std.specs.Prelude.{Bool, true, false, cond, ◌==◌}
use Rattle.lmn_congruence.specs.FreeLinks.{link_bound}
use Rattle.lmn_congruence.specs.Fused.{Joins}
use Rattle.lmn_congruence.specs.LinkedRules.{level_occurrences}
use Rattle.lmn_congruence.specs.Plains.{fused_leaves, fused_level, fused_levels, leaf_process, level_process, levels_processes}
use Rattle.lmn_congruence.specs.Process.{together}
use Rattle.lmn_congruence.specs.Regions as region
use Rattle.lmn_congruence.specs.Regions.{Region, region_process}
use Rattle.lmn_congruence.specs.Rules as tree
use Rattle.lmn_congruence.specs.Same.{renamed_atom, renamed_regions}
use Rattle.lmn_congruence.specs.Translation.{levels, rules as listed_rules, solid_atom_of}
use Rattle.lmn_adequacy.specs.Embedding.{EmbedsAt, Taken}
use Rattle.lmn_adequacy.specs.Next.{MadeLevel, fires_here, kept_atoms, kept_membranes, raw_level, wire_leaves}
use Rattle.lmn_solid_heads.specs.declared.items.HeadItem.{HeadItem}
use Rattle.lmn_solid_heads.proofs.HeadTrees.{Head, size}
use Rattle.lmn_solid_bodies.specs.declared.items.BodyItem.{BodyItem}
use Rattle.lmn_solid_bodies.specs.Added.{made_mems}
use Rattle.lmn_solid_bodies.specs.Fired.{linked_by}
use Rattle.lmn_solid_bodies.specs.Flattening.{BodyNames}
use Rattle.lmn_solid_bodies.specs.Items.{connectors}
use Rattle.lmn_congruence_splice.specs.Splice as splice
use Rattle.lmn_solid_bodies.specs.Running.{Registers}
use Rattle.lmn_solid_bodies.specs.Within.{membrane_images, dropped_mems, removed_mems, FiresWithin, left_solid, rest_solid}
use Rattle.lmn_solid_bodies.specs.RestCopies.{RestCopy, RestCopies, IsAsLong, copied_atom, copied_membrane, rest_membranes}
use Rattle.lmn_solid_bodies.specs.Rules.{WellPlaced, closed_rests}
use Rattle.lmn_adequacy_heaps.specs.HeapRegions.{HeapReading, atoms_at, regions_at, region_at}
use Rattle.lmn_compile_body.proofs.BodyTrees.{flat_body}
use Rattle.lmn_adequacy_turns.specs.Turning.{stays}
use Rattle.lmn_adequacy_turns.specs.Standing.{StandAs, none_stands, one_stands}
use Rattle.lmn_adequacy_turns.proofs.Standings.{stand_both}
use Rattle.lmn_adequacy_turns.proofs.Adders.{Adder, at, many, Away, EachRest, copy_in, each_rest, each_rest_of, gives_copied, gives_inner, gives_none, gives_own, gives_own_inner, rest_copy, rest_mems, rest_rules, solid_adds, mems_adds, rules_adds, atoms_adder, mems_adder, rules_adder}
use Rattle.lmn_adequacy_turns.proofs.CopyMaps.{read_linked, renamed_twice}
use Rattle.lmn_adequacy_turns.proofs.RestMaps.{RestKnown}
use Rattle.lmn_adequacy_turns.proofs.RestsAlone.{AddsAlone, Clear, Disjoint, Insides, alone, disjoint, each_apart, each_inside, each_long, each_made, each_of_body, each_once, insides_placed}
use Rattle.lmn_adequacy_turns.proofs.Locals.{after_level, body_misses, closed_after_level, many_flat}
use Rattle.lmn_adequacy_turns.proofs.Bodies.{fused_both, fused_kept, BodyAgrees}
use Rattle.lmn_adequacy_turns.proofs.MadeLevels.{level_stands, level_leaves, level_membranes, level_rules, level_makes}
use Rattle.lmn_adequacy_turns.proofs.CopyLinks.{Block, block_one, block_above, code}
use Rattle.lmn_adequacy_turns.proofs.OwnLinks.{OwnLevel, own_made, raw_own}
use Rattle.lmn_adequacy_turns.proofs.Kept.{CopiedAs, Untouched, copies_stand, kept_atoms_join, kept_membranes_join}
use Rattle.lmn_adequacy_turns.proofs.MadeMembers.{in_made, made_apart}
use Rattle.lmn_adequacy_turns.proofs.Paths.{Firing, from_root}
use Rattle.lmn_adequacy_turns.proofs.Connectors.{level_joins, wires_join, leaves_join_both, levels_join_both, AllFit}
use Rattle.lmn_base.specs.Graphs.{Port}
use Rattle.lmn_congruence_splice.specs.Splice.{of_rule, of_solid}
use Rattle.lmn_base.proofs.Lists.{map_twice, none_is_not, plus_nothing}
use Rattle.lmn_congruence.proofs.Common.{rules_join, rules_listed}
use Rattle.lmn_adequacy.specs.Accepted.{Accepted}
use Rattle.lmn_adequacy_heaps.proofs.HeadTrees.{tree_of}
use Rattle.lmn_base.specs.Lists.{In}
use Rattle.lmn_base.proofs.Lists.{in_either}
use Rattle.lmn_solid_heads.proofs.Common.{without_none as withouts_absent}

-- The atoms of each membrane after a firing, copies included: what is left, then what is added, raw links at their images by a map.
abbrev pub FiredTo : (h : Heap) (c : Port → ℕ) (s : Registers) (q : RestCopies) (head : List HeadItem) (body : List BodyItem) (taken : List ℕ) (h' : Heap) (name : ℕ → ℕ → ℕ) (to : ℕ → ℕ) (copy : ℕ → List SolidAtom) → Type 0
FiredTo h c s q head body taken h' name to copy =
    let left = left_solid h c taken (λ z. to (of_solid z)) in
    let rest = rest_solid h' (λ p. name p.0 p.1) s (λ k. without_all taken (atoms_in h k)) in
    (x : ℕ) → (In x (removed_mems s head) → ⊥) → solid_atoms_at h' name (atoms_in h' x) ≡ left x ++ solid_adds s q left copy rest (λ z. to (of_rule z)) 0 0 body x

-- Where a firing takes place.
--   at_home             the rule's membrane, which is there
--   images_there, images_below   the images of the head's membranes are there, inside it
--   images_home         each stands in the rule's membrane or in another image
--   fresh, once         what the body makes is new, each once
--   taken_home          what is taken stands in the rule's membrane or in an image
pub record Placing (h : Heap) (s : Registers) (images made taken : List ℕ) (m : ℕ) (mi : Forest) : Type 0 where
  pub at_home : at s 0 ≡ m
  pub there : IsMem h m
  pub formed : Forms h mi (mems_in h m)
  pub apart : Distinct (m ∷ flat mi)
  pub images_there : (x : ℕ) → In x images → IsMem h x
  pub images_below : (x : ℕ) → In x images → In x (flat mi)
  pub images_home : (x y : ℕ) → In x images → In x (mems_in h y) → In y (m ∷ images)
  pub fresh : (x : ℕ) → In x made → h.mems x ≡ None
  pub once : Distinct made
  pub taken_home : (a y : ℕ) → In a taken → In a (atoms_in h y) → In y (m ∷ images)

nothing_there : (o : Option HeapMem) → o ≡ None → (atoms_by o ≡ []) × (mems_by o ≡ []) × (rules_by o ≡ [])
nothing_there None e = (refl, refl, refl)
nothing_there (Some x) e = absurd (cc)

module _ (h h' : Heap) (r : HeapReading) (s : Registers) (head : List HeadItem) (bn : BodyNames) (hd : Head) (low : ℕ) (taken : List ℕ)
    (f : FiresWithin h (λ p. r.name p.0 p.1) s head (flat_body bn 0 low hd) taken h') (to : ℕ → ℕ) (limit : ℕ) (copy : ℕ → List SolidAtom) (part : ℕ → ℕ → List region.SolidAtom)
    (joined : (e : ℕ × ℕ) → splice.IsOneOf e (connectors (flat_body bn 0 low hd)) → to (of_rule e.0) ≡ to (of_rule e.1))
    (fired : FiredTo h (λ p. r.name p.0 p.1) s f.rests head (flat_body bn 0 low hd) taken h' (λ a i. f.number (a, i)) to copy)
    (low_is : low ≡ 1 + length (membranes_of head)) (m : ℕ) (mi : Forest)
    (p : Placing h s (membrane_images s head) (made_mems s f.rests low (flat_body bn 0 low hd)) taken m mi)
    (w : Placing h s (removed_mems s head) (made_mems s f.rests low (flat_body bn 0 low hd)) taken m mi) (placed : WellPlaced (length (membranes_of head)) low (flat_body bn 0 low hd)) where
  abbrev B : List BodyItem
  B = flat_body bn 0 low hd

  -- the membranes that are removed
  abbrev ks : List ℕ
  ks = removed_mems s head

  -- the atoms that the head leaves of a membrane
  abbrev pub left_ids : ℕ → List ℕ
  left_ids k = without_all taken (atoms_in h k)

  -- what a copy of a rest adds to the atoms of the solid
  abbrev pub rest_at : ℕ → ℕ → RestCopy → ℕ → List SolidAtom
  rest_at = rest_solid h' f.number s (λ k. without_all taken (atoms_in h k))

  pub rest_at_none : (t of inside x : ℕ) → at s inside ≢ x → Away s f.rests x t of inside → rest_at of inside (rest_copy f.rests t) x ≡ []
  rest_at_none t of inside x d a = ap (solid_atoms_at h' (λ a i. f.number (a, i))) (gives_none s of inside (rest_copy f.rests t) a.0 (λ k. map (copied_atom s of (rest_copy f.rests t)) (left_ids k)) x d a.1)

  abbrev pub name_after : ℕ → ℕ → ℕ
  name_after a i = f.number (a, i)

  abbrev r' : HeapReading
  r' = record { name = λ a i. f.number (a, i); names = r.names; rule = r.rule }

  -- what the head leaves of a membrane: atoms, each link at its image, and membranes
  abbrev pub left : ℕ → List SolidAtom
  left = left_solid h (λ p. r.name p.0 p.1) taken (λ z. to (of_solid z))

  abbrev pub left_mems : ℕ → List ℕ
  left_mems x = without_all (membrane_images s head) (mems_in h x)

  atoms_after : (x : ℕ) → (In x ks → ⊥) → atoms_at h' r' (atoms_in h' x) ≡ map (solid_atom_of r.names) (left x) ++ map (solid_atom_of r.names) (solid_adds s f.rests left copy rest_at (λ z. to (of_rule z)) 0 0 B x)
  atoms_after x o = ap (map (solid_atom_of r.names)) (fired x o) ∙ map-append (solid_atom_of r.names) (left x) (solid_adds s f.rests left copy rest_at (λ z. to (of_rule z)) 0 0 B x)

  mems_after : (x : ℕ) → (In x ks → ⊥) → mems_in h' x ≡ left_mems x ++ mems_adds s f.rests left_mems 0 low B x
  mems_after x o = subst (λ n. mems_in h' x ≡ left_mems x ++ mems_adds s f.rests left_mems 0 n B x) (sym low_is) (f.mems x o)

  -- what is left of a membrane, as it is read
  pub left_read : (x : ℕ) → map (solid_atom_of r.names) (left x) ≡ map (renamed_atom (λ z. to (of_solid z))) (atoms_at h r (without_all taken (atoms_in h x)))
  left_read x =
      let as' = solid_atoms_at h r.name (without_all taken (atoms_in h x)) in
      map_twice (solid_atom_of r.names) (linked_by (λ z. to (of_solid z))) as' ∙ sym (map_twice (renamed_atom (λ z. to (of_solid z))) (solid_atom_of r.names) as')

  -- ---- registers

  many_is : many B ≡ size hd
  many_is = many_flat bn 0 low hd

  is_made : (j : ℕ) → low ≤ j → j < low + size hd → In (at s j) (made_mems s f.rests low B)
  is_made j a b = in_made s f.rests low B j a (omega (arith, b, many_is))

  pub regions_apart : (j k : ℕ) → (j ≡ 0) ⊎ ((low ≤ j) × (j < low + size hd)) → (k ≡ 0) ⊎ ((low ≤ k) × (k < low + size hd)) → at s j ≡ at s k → j ≡ k
  regions_apart j k (inl a) (inl b) e = a ∙ sym b
  regions_apart j k (inl a) (inr b) e = absurd (none_is_not (h.mems m) (ap h.mems (sym p.at_home ∙ ap (at s) (sym a) ∙ e) ∙ p.fresh (at s k) (is_made k b.0 b.1)) p.there)
  regions_apart j k (inr a) (inl b) e = absurd (none_is_not (h.mems m) (ap h.mems (sym p.at_home ∙ ap (at s) (sym b) ∙ sym e) ∙ p.fresh (at s j) (is_made j a.0 a.1)) p.there)
  regions_apart j k (inr a) (inr b) e = made_apart s f.rests low B p.once j k a.0 (omega (arith, a.1, many_is)) b.0 (omega (arith, b.1, many_is)) e

  old_apart : (x : ℕ) → IsMem h x → (j : ℕ) → low ≤ j → j < low + size hd → at s j ≢ x
  old_apart x i j a b e = none_is_not (h.mems x) (ap h.mems (sym e) ∙ p.fresh (at s j) (is_made j a b)) i

  made_not_image : (j : ℕ) → low ≤ j → j < low + size hd → In (at s j) ks → ⊥
  made_not_image j a b i = none_is_not (h.mems (at s j)) (p.fresh (at s j) (is_made j a b)) (w.images_there (at s j) i)

  -- what stands in a made membrane is what the body adds
  empty : (j : ℕ) → low ≤ j → j < low + size hd → (atoms_in h (at s j) ≡ []) × (mems_in h (at s j) ≡ []) × (rules_in h (at s j) ≡ [])
  empty j a b = nothing_there (h.mems (at s j)) (p.fresh (at s j) (is_made j a b))

  made_atoms_are : (j : ℕ) → low ≤ j → j < low + size hd → atoms_at h' r' (atoms_in h' (at s j)) ≡ map (solid_atom_of r.names) (solid_adds s f.rests left copy rest_at (λ z. to (of_rule z)) 0 0 B (at s j))
  made_atoms_are j a b =
      let none : left (at s j) ≡ [] = ap (λ xs. map (linked_by (λ z. to (of_solid z))) (solid_atoms_at h r.name xs)) (ap (without_all taken) (empty j a b).0 ∙ withouts_nothing taken) in
      atoms_after (at s j) (made_not_image j a b) ∙ ap (λ xs. map (solid_atom_of r.names) xs ++ map (solid_atom_of r.names) (solid_adds s f.rests left copy rest_at (λ z. to (of_rule z)) 0 0 B (at s j))) none

  made_mems_are : (j : ℕ) → low ≤ j → j < low + size hd → mems_in h' (at s j) ≡ mems_adds s f.rests left_mems 0 low B (at s j)
  made_mems_are j a b =
      mems_after (at s j) (made_not_image j a b) ∙ ap (λ xs. xs ++ mems_adds s f.rests left_mems 0 low B (at s j)) (ap (without_all (membrane_images s head)) (empty j a b).1 ∙ withouts_nothing (membrane_images s head))

  made_rules_are : (j : ℕ) → low ≤ j → j < low + size hd → rules_in h' (at s j) ≡ rules_adds s f.rests (rules_in h) 0 B (at s j)
  made_rules_are j a b = f.rules (at s j) (made_not_image j a b) ∙ ap (λ xs. xs ++ rules_adds s f.rests (rules_in h) 0 B (at s j)) (empty j a b).2

  -- ---- copies of rests

  abbrev Used : ℕ → Type 0
  Used j = (j ≡ 0) ⊎ ((low ≤ j) × (j < low + size hd))

  -- What is known of each copy of a rest: it is as long as its rest, its membranes are new and different, and none is one of a register.
  pub record RestClear (t of inside : ℕ) : Type 0 where
    pub long : IsAsLong s of (rest_copy f.rests t)
    pub made : (y : ℕ) → In y (rest_copy f.rests t).membranes → In y (made_mems s f.rests low (flat_body bn 0 low hd))
    pub apart : (j : ℕ) → (j ≡ 0) ⊎ ((low ≤ j) × (j < low + size hd)) → In (at s j) (rest_copy f.rests t).membranes → ⊥
    pub once : Distinct (rest_copy f.rests t).membranes

  pub rests_clear : EachRest RestClear 0 B
  rests_clear =
      let long = each_long s f.rests 0 B f.rests_long in
      let made = each_made s f.rests 0 low B in
      let far = each_apart s f.rests 0 low B p.once in
      let once = each_once s f.rests 0 low B p.once in
      let Long : ℕ → ℕ → ℕ → Type 0 = λ t of inside. IsAsLong s of (rest_copy f.rests t) in
      let Made : ℕ → ℕ → ℕ → Type 0 = λ t of inside. (y : ℕ) → In y (rest_copy f.rests t).membranes → In y (made_mems s f.rests low B) in
      let Far : ℕ → ℕ → ℕ → Type 0 = λ t of inside. (j : ℕ) → low ≤ j → j < low + many B → In (at s j) (rest_copy f.rests t).membranes → ⊥ in
      let Once : ℕ → ℕ → ℕ → Type 0 = λ t of inside. Distinct (rest_copy f.rests t).membranes in
      let a = each_rest_of Long Made (λ t of inside. Long t of inside × Made t of inside) (λ t of inside x y. (x, y)) 0 B long made in
      let b = each_rest_of Far Once (λ t of inside. Far t of inside × Once t of inside) (λ t of inside x y. (x, y)) 0 B far once in
      each_rest_of (λ t of inside. Long t of inside × Made t of inside) (λ t of inside. Far t of inside × Once t of inside) RestClear (λ t of inside x y. record {
        long = x.0;
        made = x.1;
        apart = λ j u l. elim u [
          | inl e ↦ none_is_not (h.mems m) (ap h.mems (sym p.at_home ∙ ap (at s) (sym e)) ∙ p.fresh (at s j) (x.1 (at s j) l)) p.there
          | inr v ↦ y.0 j v.0 (omega (arith, v.1, many_is)) l
        ];
        once = y.1;
      }) 0 B a b

  -- no copied membrane is one of a register, or one that was there
  pub away_used : (j : ℕ) → (j ≡ 0) ⊎ ((low ≤ j) × (j < low + size hd)) → (t of inside : ℕ) → RestClear t of inside → Away s f.rests (at s j) t of inside
  away_used j u t of inside c = (c.long, c.apart j u)

  away_old : (y : ℕ) → IsMem h y → EachRest (Away s f.rests y) 0 B
  away_old y i = each_rest RestClear (Away s f.rests y) (λ t of inside c. (c.long, λ l. none_is_not (h.mems y) (p.fresh y (c.made y l)) i)) 0 B rests_clear

  -- ---- what stays

  pub untouched : (y : ℕ) → IsMem h y → (In y (m ∷ removed_mems s head) → ⊥) → Untouched h h' r name_after to y
  untouched y i o =
      let d : at s 0 ≢ y = λ e. o (inl (sym p.at_home ∙ e)) in
      let misses = body_misses bn s y 0 low hd d (old_apart y i) in
      let away = away_old y i in
      let outside : In y ks → ⊥ = λ j. o (inr j) in
      let none = (atoms_adder s f.rests left copy rest_at (λ z. to (of_rule z)) rest_at_none).missed 0 low 0 B y misses away in
      record {
        atoms = atoms_after y outside
            ∙ ap (λ xs. map (solid_atom_of r.names) (left y) ++ map (solid_atom_of r.names) xs) none ∙ append-nil (map (solid_atom_of r.names) (left y)) ∙ left_read y
            ∙ ap (λ xs. map (renamed_atom (λ z. to (of_solid z))) (atoms_at h r xs)) (withouts_absent taken (atoms_in h y) (λ a j k. o (w.taken_home a y j k)));
        mems = mems_after y outside
            ∙ ap (λ xs. left_mems y ++ xs) ((mems_adder s f.rests left_mems).missed 0 low 0 B y misses away) ∙ plus_nothing (left_mems y)
            ∙ withouts_absent (membrane_images s head) (mems_in h y) (λ x j k. o (w.images_home x y (in_left x (membrane_images s head) (dropped_mems s head) j) k));
        rules = f.rules y outside ∙ ap (λ xs. rules_in h y ++ xs) ((rules_adder s f.rests (rules_in h)).missed 0 low 0 B y misses away) ∙ plus_nothing (rules_in h y);
      }

  -- ---- what stands in copies of rests

  -- E t takes links of the rest to those of copy number t; the raw links of this copy are told in CopyLinks.
  --   known      what is known of the copies in the solid
  --   goes       the map of raw links takes those of copies as E does
  --   outside, once, inner, into     of each rest that is copied: its own membrane is outside of it, its membranes are different, none is
  --                                  one of the head, and what is left in its membranes is of it
  module _ (E : ℕ → ℕ → ℕ) (n : ℕ) (known : EachRest (RestKnown h h' (λ p. r.name p.0 p.1) f.number (λ k. without_all taken (atoms_in h k)) s f.rests E n) 0 (flat_body bn 0 low hd))
      (goes : (t y : ℕ) → of_solid t < n → to (of_solid (limit + code (of_solid t) y)) ≡ E t y)
      (outside : (of : ℕ) → splice.IsOneOf of (closed_rests (flat_body bn 0 low hd)) → In (at s of) (s.left_membranes of) → ⊥)
      (once : (of : ℕ) → splice.IsOneOf of (closed_rests (flat_body bn 0 low hd)) → Distinct (s.left_membranes of))
      (inner_out : (of : ℕ) → splice.IsOneOf of (closed_rests (flat_body bn 0 low hd)) → (k : ℕ) → In k (s.left_membranes of) → In k (m ∷ membrane_images s head) → ⊥)
      (into_rest : (of : ℕ) → splice.IsOneOf of (closed_rests (flat_body bn 0 low hd)) → (k x : ℕ) → In k (rest_membranes s of) → In x (without_all (membrane_images s head) (mems_in h k)) → In x (s.left_membranes of)) where
    abbrev own : ℕ → ℕ → ℕ
    own t y = limit + code (of_solid t) y

    -- Copy number t of the rest of membrane `of` of the head, which goes to the membrane `inside`, is with each link at its image what
    -- the body adds there.
    pub record RestStands (t of inside : ℕ) : Type 0 where
      pub atoms : map (renamed_atom (λ z. to (of_solid z))) (map (renamed_atom (λ y. limit + code (of_solid t) y)) (atoms_at h r (without_all taken (atoms_in h (at s of))))) ≡ map (solid_atom_of r.names) (rest_at of inside (rest_copy f.rests t) (at s inside))
      pub membranes : (F : Forest) → Forms h F (left_mems (at s of)) → StandAs h' (record { name = λ a i. f.number (a, i); names = r.names; rule = r.rule }) (rest_mems s left_mems of inside (rest_copy f.rests t) (at s inside))
          (fused_levels to (levels (kept_membranes (renamed_regions (λ y. limit + code (of_solid t) y) (regions_at h r F)))))
      pub rules : rest_rules s (rules_in h) of inside (rest_copy f.rests t) (at s inside) ≡ []

    -- the membranes in which items are written, by the numbers of their registers
    abbrev Written : ℕ → Type 0
    Written j = (j ≡ 0) ⊎ ((1 + length (membranes_of head) ≤ j) × (j < low + size hd))

    used : (j : ℕ) → Written j → Used j
    used j (inl e) = inl e
    used j (inr v) = inr (omega (arith, v.0, low_is), v.1)

    insides : Insides Written B
    insides = insides_placed (length (membranes_of head)) low (low + size hd) B placed (omega (arith, many_is))

    abbrev SolidAdder : Adder s f.rests SolidAtom
    SolidAdder = atoms_adder s f.rests left copy rest_at (λ z. to (of_rule z)) rest_at_none

    abbrev MemsAdder : Adder s f.rests ℕ
    MemsAdder = mems_adder s f.rests left_mems

    abbrev RulesAdder : Adder s f.rests ℕ
    RulesAdder = rules_adder s f.rests (rules_in h)

    clear : {X : Type 0} (A : Adder s f.rests X) → EachRest (Clear s f.rests A Written) 0 B
    clear A = each_rest RestClear (Clear s f.rests A Written) (λ t of inside c. (c.long, λ j u. c.apart j (used j u))) 0 B rests_clear

    apart_copies : Disjoint f.rests 0 B
    apart_copies = disjoint s f.rests 0 low B p.once

    -- all that is known of a copy
    pub record RestFacts (t of inside : ℕ) : Type 0 where
      pub clear_of : RestClear t of inside
      pub known_of : RestKnown h h' (λ p. r.name p.0 p.1) f.number (λ k. without_all taken (atoms_in h k)) s f.rests E n t of inside
      pub written : Written inside
      pub of_body : splice.IsOneOf of (closed_rests B)
      pub solid_alone : (y : ℕ) → In y (rest_copy f.rests t).membranes → solid_adds s f.rests left copy rest_at (λ z. to (of_rule z)) 0 0 B y ≡ rest_at of inside (rest_copy f.rests t) y
      pub mems_alone : (y : ℕ) → In y (rest_copy f.rests t).membranes → mems_adds s f.rests left_mems 0 low B y ≡ rest_mems s left_mems of inside (rest_copy f.rests t) y
      pub rules_alone : (y : ℕ) → In y (rest_copy f.rests t).membranes → rules_adds s f.rests (rules_in h) 0 B y ≡ rest_rules s (rules_in h) of inside (rest_copy f.rests t) y

    rests_facts : EachRest RestFacts 0 B
    rests_facts =
        let S = alone s f.rests SolidAdder Written 0 low 0 B insides (clear SolidAdder) apart_copies in
        let M = alone s f.rests MemsAdder Written 0 low 0 B insides (clear MemsAdder) apart_copies in
        let R = alone s f.rests RulesAdder Written 0 low 0 B insides (clear RulesAdder) apart_copies in
        let I = each_inside Written 0 B insides in
        let O = each_of_body (λ of. splice.IsOneOf of (closed_rests B)) 0 B (λ of i. i) in
        let PS = AddsAlone s f.rests SolidAdder Written 0 low 0 B in
        let PM = AddsAlone s f.rests MemsAdder Written 0 low 0 B in
        let PR = AddsAlone s f.rests RulesAdder Written 0 low 0 B in
        let PK : ℕ → ℕ → ℕ → Type 0 = RestKnown h h' (λ p. r.name p.0 p.1) f.number (λ k. without_all taken (atoms_in h k)) s f.rests E n in
        let PI : ℕ → ℕ → ℕ → Type 0 = λ t of inside. Written inside in
        let PO : ℕ → ℕ → ℕ → Type 0 = λ t of inside. splice.IsOneOf of (closed_rests B) in
        let a = each_rest_of PS PM (λ t of inside. PS t of inside × PM t of inside) (λ t of inside x y. (x, y)) 0 B S M in
        let b = each_rest_of PR PK (λ t of inside. PR t of inside × PK t of inside) (λ t of inside x y. (x, y)) 0 B R known in
        let c = each_rest_of PI PO (λ t of inside. PI t of inside × PO t of inside) (λ t of inside x y. (x, y)) 0 B I O in
        let d = each_rest_of (λ t of inside. PS t of inside × PM t of inside) (λ t of inside. PR t of inside × PK t of inside) (λ t of inside. ((PS t of inside × PM t of inside) × (PR t of inside × PK t of inside))) (λ t of inside x y. (x, y)) 0 B a b in
        let e = each_rest_of RestClear (λ t of inside. PI t of inside × PO t of inside) (λ t of inside. RestClear t of inside × (PI t of inside × PO t of inside)) (λ t of inside x y. (x, y)) 0 B rests_clear c in
        each_rest_of (λ t of inside. ((PS t of inside × PM t of inside) × (PR t of inside × PK t of inside))) (λ t of inside. RestClear t of inside × (PI t of inside × PO t of inside)) RestFacts (λ t of inside x y. record {
          clear_of = y.0;
          known_of = x.1.1;
          written = y.1.0;
          of_body = y.1.1;
          solid_alone = x.0.0;
          mems_alone = x.0.1;
          rules_alone = x.1.0;
        }) 0 B d e

    module _ (t of inside : ℕ) (facts : RestFacts t of inside) where
      long : IsAsLong s of (rest_copy f.rests t)
      long = facts.clear_of.long

      far : In (at s inside) (rest_copy f.rests t).membranes → ⊥
      far = facts.clear_of.apart inside (used inside facts.written)

      out : In (at s of) (s.left_membranes of) → ⊥
      out = outside of facts.of_body

      -- the copied atoms of a membrane of the rest
      copied_atoms : (k : ℕ) → In k (rest_membranes s of) →
          map (renamed_atom (λ z. to (of_solid z))) (map (renamed_atom (λ y. limit + code (of_solid t) y)) (atoms_at h r (without_all taken (atoms_in h k)))) ≡ map (solid_atom_of r.names) (solid_atoms_at h' name_after (map (copied_atom s of (rest_copy f.rests t)) (left_ids k)))
      copied_atoms k i =
          renamed_twice (λ z. to (of_solid z)) (own t) (E t) (λ y. goes t y facts.known_of.below) (atoms_at h r (left_ids k))
          ∙ sym (read_linked r.names (E t) (solid_atoms_at h r.name (left_ids k))) ∙ ap (map (solid_atom_of r.names)) (sym (facts.known_of.are k i))

      abbrev to_copy : ℕ → ℕ
      to_copy = copied_membrane s of (rest_copy f.rests t)

      -- a membrane of the rest has a copy
      copied_as : (k : ℕ) → In k (s.left_membranes of) → CopiedAs h h' r name_after to (own t) to_copy k
      copied_as k i =
          let y = copied_membrane s of (rest_copy f.rests t) k in
          let there = copy_in s of inside (rest_copy f.rests t) long k i in
          let fresh = p.fresh y (facts.clear_of.made y there) in
          let kept : In y ks → ⊥ = λ l. none_is_not (h.mems y) fresh (w.images_there y l) in
          let nothing = nothing_there (h.mems y) fresh in
          let o = inner_out of facts.of_body k i in
          let all_atoms = withouts_absent taken (atoms_in h k) (λ a j l. o (p.taken_home a k j l)) in
          let all_mems = withouts_absent (membrane_images s head) (mems_in h k) (λ x j l. o (p.images_home x k j l)) in
          let gives = gives_copied s of inside (rest_copy f.rests t) long out far (once of facts.of_body) facts.clear_of.once k i in
          let none : left y ≡ [] = ap (λ xs. map (linked_by (λ z. to (of_solid z))) (solid_atoms_at h r.name xs)) (ap (without_all taken) nothing.0 ∙ withouts_nothing taken) in
          let no_mems : left_mems y ≡ [] = ap (without_all (membrane_images s head)) nothing.1 ∙ withouts_nothing (membrane_images s head) in
          record {
            atoms = atoms_after y kept ∙ ap (λ xs. map (solid_atom_of r.names) xs ++ map (solid_atom_of r.names) (solid_adds s f.rests left copy rest_at (λ z. to (of_rule z)) 0 0 B y)) none
                ∙ ap (map (solid_atom_of r.names)) (facts.solid_alone y there ∙ ap (solid_atoms_at h' name_after) (gives (λ j. map (copied_atom s of (rest_copy f.rests t)) (left_ids j))))
                ∙ sym (copied_atoms k (inr i)) ∙ ap (λ xs. map (renamed_atom (λ z. to (of_solid z))) (map (renamed_atom (own t)) (atoms_at h r xs))) all_atoms;
            mems = mems_after y kept ∙ ap (λ xs. xs ++ mems_adds s f.rests left_mems 0 low B y) no_mems ∙ facts.mems_alone y there ∙ gives (λ j. map (copied_membrane s of (rest_copy f.rests t)) (left_mems j)) ∙ ap (map to_copy) all_mems;
            rules = f.rules y kept ∙ ap (λ xs. xs ++ rules_adds s f.rests (rules_in h) 0 B y) nothing.2 ∙ facts.rules_alone y there
                ∙ gives_inner s of inside (rest_copy f.rests t) long out far (once of facts.of_body) facts.clear_of.once k i (rules_in h);
          }

      -- what stands in a forest of what is left is of the rest
      of_rest : (F : Forest) (ms : List ℕ) → Forms h F ms → ((z : ℕ) → In z ms → In z (s.left_membranes of)) → (x : ℕ) → In x (flat F) → In x (s.left_membranes of)
      of_rest bare ms F g x i = absurd i
      of_rest (mem k i rest) ms F g x q =
          let here = g k (subst (In k) (sym F.1) (inl refl)) in
          elim q [
            | inl e ↦ subst (λ z. In z (s.left_membranes of)) e here
            | inr j ↦ elim (in_either x (flat i) (flat rest) j) [
              | inl l ↦ of_rest i (mems_in h k) F.2 (λ z v. into_rest of facts.of_body k z (inr here) (subst (In z) (sym (withouts_absent (membrane_images s head) (mems_in h k) (λ y j l. inner_out of facts.of_body k here (p.images_home y k j l)))) v)) x l
              | inr l ↦ of_rest rest F.0 F.3 (λ z v. g z (subst (In z) (sym F.1) (inr v))) x l
            ]
          ]

      rest_stands : RestStands t of inside
      rest_stands = record {
        atoms = copied_atoms (at s of) (inl refl) ∙ ap (map (solid_atom_of r.names)) (sym (ap (solid_atoms_at h' name_after) (gives_own s of inside (rest_copy f.rests t) long out far (λ j. map (copied_atom s of (rest_copy f.rests t)) (left_ids j)))));
        membranes = λ F forms. subst (λ xs. StandAs h' r' xs (fused_levels to (levels (kept_membranes (renamed_regions (λ y. limit + code (of_solid t) y) (regions_at h r F))))))
            (sym (gives_own s of inside (rest_copy f.rests t) long out far (λ j. map (copied_membrane s of (rest_copy f.rests t)) (left_mems j))))
            (copies_stand h h' r name_after to (own t) to_copy F (left_mems (at s of)) forms (λ x i. copied_as x (of_rest F (left_mems (at s of)) forms (λ z v. into_rest of facts.of_body (at s of) z (inl refl) v) x i)));
        rules = gives_own_inner s of inside (rest_copy f.rests t) long out far (rules_in h);
      }

    -- so it is with each copy
    pub rests_stand : EachRest RestStands 0 B
    rests_stand = each_rest RestFacts RestStands rest_stands 0 B rests_facts

  -- ---- where the rule fires

  -- a region is what the head leaves of the rule's membrane
  pub record LeavesRest (rest : Region) : Type 0 where
    pub atoms : List region.SolidAtom
    pub membranes : region.Regions
    pub rules : List tree.Rule
    pub is : rest ≡ region.region atoms membranes rules
    pub atoms_are : map (renamed_atom (λ z. to (of_solid z))) atoms ≡ map (solid_atom_of r.names) (left m)
    pub membranes_are : StandAs h' (record { name = λ a i. f.number (a, i); names = r.names; rule = r.rule }) (left_mems m) (fused_levels to (levels (kept_membranes membranes)))
    pub rules_are : rules ≡ map r.rule (rules_in h m)

  module _ (rule : tree.Rule) (accepted : Accepted rule) (ns : List ℕ) (number : ℕ) (others : List tree.Rule) (stands : Taken number rule (map r.rule (rules_in h m)) others)
      (body_is : tree.body_of rule ≡ tree_of r.names r.rule hd) (e : EmbedsAt rule ns (region_at h r m mi)) (rest : LeavesRest e.rest)
      (agrees : BodyAgrees h h' r (record { name = λ a i. f.number (a, i); names = r.names; rule = r.rule }) s bn e.contents left left_mems to limit copy part f.rests rest_at 0 low 0 0 hd)
      (fit : AllFit r.names r.rule bn e.contents to hd)
      (wires : (x : ℕ) → level_occurrences x (tree.head_of rule) ≡ 1 → to (of_rule x) ≡ to (of_solid (e.contents.link_of x))) where
    home_not_image : In m ks → ⊥
    home_not_image i = each_in (λ v. m ≢ v) (flat mi) m p.apart.0 (w.images_below m i) refl

    abbrev outs : List tree.Leaf
    outs = level_leaves h h' r name_after s bn e.contents left left_mems to limit copy part f.rests rest_at rest_at_none 0 0 hd

    abbrev inner : List tree.Level
    inner = level_membranes h h' r name_after s bn e.contents left left_mems to limit copy part f.rests rest_at rest_at_none 0 0 hd

    abbrev rs : List tree.Rule
    rs = level_rules h h' r name_after s bn e.contents left left_mems to limit copy part f.rests rest_at rest_at_none hd

    raw_stands : (R : Region) (w : List tree.Leaf) → LeavesRest R → fused_leaves to w ≡ [] → StandAs h' r' (m ∷ []) (region.region_and (fused_level to (raw_level R w outs inner rs)) region.no_region)
    raw_stands R w R' none =
        let L = level_stands h h' r name_after s bn e.contents left left_mems to limit copy part f.rests rest_at rest_at_none B low (low + size hd) regions_apart made_atoms_are made_mems_are made_rules_are RestClear away_used hd 0 low 0 0 rests_clear (inl refl) (omega arith) (omega (arith, low_is)) (omega arith) agrees
        (λ j w. refl) (λ j w. refl) (λ j w. refl) in
        let xs = R'.atoms in
        let ms = R'.membranes in
        let atoms : atoms_at h' r' (atoms_in h' m) ≡ fused_leaves to (kept_atoms xs ++ (w ++ outs)) =
        atoms_after m home_not_image
        ∙ (λ k. (sym R'.atoms_are ∙ sym (fused_kept to xs)) k ++ (ap (λ x. map (solid_atom_of r.names) (solid_adds s f.rests left copy rest_at (λ z. to (of_rule z)) 0 0 B x)) (sym p.at_home) ∙ sym L.atoms) k)
        ∙ ap (λ ys. fused_leaves to (kept_atoms xs) ++ ys) (sym (fused_both to w outs ∙ ap (λ ys. ys ++ fused_leaves to outs) none))
        ∙ sym (fused_both to (kept_atoms xs) (w ++ outs)) in
        let inside : StandAs h' r' (mems_in h' m) (fused_levels to (levels (kept_membranes ms ++ inner))) =
        subst (λ ys. StandAs h' r' ys (fused_levels to (levels (kept_membranes ms ++ inner)))) (sym (mems_after m home_not_image))
        (stand_both h' r' to (left_mems m) (mems_adds s f.rests left_mems 0 low B m) (kept_membranes ms) inner R'.membranes_are (subst (λ x. StandAs h' r' (mems_adds s f.rests left_mems 0 low B x) (fused_levels to (levels inner))) p.at_home L.membranes)) in
        let rules : map r.rule (rules_in h' m) ≡ tree.rules_list (listed_rules (R'.rules ++ rs)) =
        ap (map r.rule) (f.rules m home_not_image) ∙ map-append r.rule (rules_in h m) (rules_adds s f.rests (rules_in h) 0 B m)
        ∙ (λ k. sym R'.rules_are k ++ (ap (λ x. map r.rule (rules_adds s f.rests (rules_in h) 0 B x)) (sym p.at_home) ∙ sym L.rules) k)
        ∙ sym (rules_listed (R'.rules ++ rs)) in
        let here : StandAs h' r' (m ∷ []) (region.region_and (region.region (atoms_at h' r' (atoms_in h' m)) (fused_levels to (levels (kept_membranes ms ++ inner))) (map r.rule (rules_in h' m))) region.no_region) = one_stands {m = m} {ns = []} inside none_stands in
        subst (λ (z : Region). StandAs h' r' (m ∷ []) (region.region_and (fused_level to (raw_level z w outs inner rs)) region.no_region)) (sym R'.is)
        (subst (λ z. StandAs h' r' (m ∷ []) (region.region_and z region.no_region)) (λ k. region.region (atoms k) (fused_levels to (levels (kept_membranes ms ++ inner))) (rules k)) here)

    no_atoms : (g : ℕ → ℕ) (l : tree.Level) (n : ℕ) → fused_leaves to (wire_leaves g l n) ≡ []
    no_atoms g l zero = refl
    no_atoms g l (suc n) = by (no_atoms g l n) (level_occurrences n l == 1)
      where
        by : fused_leaves to (wire_leaves g l n) ≡ [] → (b : Bool) → fused_leaves to (cond b (tree.connector_leaf (of_rule n) (of_solid (g n)) ∷ wire_leaves g l n) (wire_leaves g l n)) ≡ []
        by rest true = rest
        by rest false = rest

    raw_joins : (R : Region) → LeavesRest R → (w outs : List tree.Leaf) (inner : List tree.Level) (rs : List tree.Rule) → Joins to (together (map leaf_process w)) → Joins to (together (map leaf_process outs)) → Joins to (together (levels_processes (levels inner))) →
        Joins to (level_process (raw_level R w outs inner rs))
    raw_joins R R' w outs inner rs a b c =
        subst (λ (z : Region). Joins to (level_process (raw_level z w outs inner rs))) (sym R'.is) (
          leaves_join_both to (kept_atoms R'.atoms) (w ++ outs) (kept_atoms_join to R'.atoms) (leaves_join_both to w outs a b),
          (levels_join_both to (kept_membranes R'.membranes) inner (kept_membranes_join to R'.membranes) c, rules_join to (tree.rules_list (listed_rules (R'.rules ++ rs)))),
        )

    -- the rule fires in its membrane
    pub fires_at_home : Firing h h' r name_after to number ns m limit m mi
    fires_at_home O closed below =
        let own = level_makes h h' r name_after s bn e.contents left left_mems to limit copy part f.rests rest_at rest_at_none 0 low 0 0 hd agrees in
        let makes = own_made e.contents (Block limit) own in
        let w = raw_own (Block limit) rule ns (region_at h r m mi) accepted e O closed 0 (after_level bn 0 hd) 0 (closed_after_level 0 hd) outs inner rs
        (subst (λ l. OwnLevel e.contents (Block limit) 0 (after_level bn 0 hd) 0 (closed_after_level 0 hd) l outs inner rs) (sym body_is) own) (λ i n L u v. block_one limit i n L u v)
        (λ i L u. block_above (link_bound (region_process (region_at h r m mi)) + link_bound O) limit i L below u) in
        let W = wire_leaves e.contents.link_of (tree.head_of rule) w.bound in
        let j = level_joins r.names r.rule bn e.contents to 0 low hd fit joined makes in
        record {
          path = [];
          leads = stays;
          raw = raw_level e.rest W outs inner rs;
          fires = fires_here stands (record { at = e; outs = outs; made_membranes = inner; made_rules = rs; makes = subst (λ l. MadeLevel e.contents l outs inner rs) (sym body_is) makes; bound = w.bound; bounded = w.bounded; is = refl });
          closed = w.closed;
          stands = raw_stands e.rest W rest (no_atoms e.contents.link_of (tree.head_of rule) w.bound);
          joins = raw_joins e.rest rest W outs inner rs (wires_join to e.contents.link_of (tree.head_of rule) w.bound wires) j.0 j.1;
        }

    -- and from the root
    pub fires_in_tree : (inner : Forest) → Forms h inner (mems_in h h.root) → Distinct (h.root ∷ flat inner) → In m (h.root ∷ flat inner) → ((y : ℕ) → In y (h.root ∷ flat inner) → IsMem h y) →
        Firing h h' r name_after to number ns m limit h.root inner
    fires_in_tree inner F d i all =
        from_root h h' r name_after to number ns m limit mi p.formed fires_at_home h.root inner F d (λ y j o. untouched y (all y j) (λ v. elim v [ inl e ↦ o (inl e) | inr k ↦ o (inr (w.images_below y k)) ])) i
