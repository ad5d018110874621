-- Parts of a heap and ground parts of the calculus.
use Rattle.std.proofs.Common.{ℕ, ◌≡◌, ◌≢◌, List, [], ◌∷◌, map, refl, sym, ap, subst, inl, inr, arith}
use Rattle.lmn_base.specs.Graphs.{Reached, at_root, across, StandsWhole, Port}
use Rattle.lmn_store_heap.specs.Heap.{Heap, IsAtom, atoms_in}
use Rattle.lmn_store_heap.specs.Graphs.{atom_map}
use Rattle.lmn_store_heap.specs.Lists.{Distinct}
use Rattle.lmn_store_heap.proofs.ListLemmas.{each_in, each_of}
use Rattle.lmn_store_heap.proofs.Listing.{home_is}
use Rattle.lmn_congruence.specs.Orders.{Put, Shuffle, none, more, here, there}
use Rattle.lmn_congruence.specs.Regions.{SolidAtom}
use Rattle.lmn_congruence.specs.Rules.{Label}
use Rattle.lmn_reduction.specs.Parts.{Rooted, IsGround, EqualParts, atoms_at_top}
use Rattle.lmn_congruence.proofs.Solids.{put_map}
use Rattle.lmn_adequacy.specs.Embedding.{Merged, merged_none, from_first, from_second}
use Rattle.lmn_adequacy_heaps.specs.HeapRegions.{HeapReading, atoms_at}
use Rattle.lmn_adequacy_heaps.specs.Premises.{IsRead}
use Rattle.lmn_adequacy_heaps.specs.Parts.{IsGroundPart, HasPart, WholePartsAreGround, GroundPartsStandWhole, EqualPartsAlike}
use Rattle.lmn_adequacy_heaps.proofs.Pieces.{atom_at, atoms_each}
use Rattle.lmn_adequacy_heaps.proofs.Counting.{list_atoms}
use Rattle.lmn_adequacy_heaps.proofs.Forests.{home_in}
use Rattle.lmn_store_heap.proofs.PartLists.{PartList, part_list, all_of_part}
use Rattle.lmn_adequacy_heaps.proofs.GroundParts.{labelled, atoms_beside, only_atoms_beside, rooted_at, part_is_ground}
use Rattle.lmn_adequacy_heaps.proofs.PartsBack.{root_inside, is_shut, each_reached, all_inside, stands_whole}
use Rattle.lmn_adequacy_heaps.proofs.SameParts.{Renames, counted, count, same_flipped, same_chained, same_ground}
use Rattle.lmn_adequacy_heaps.proofs.SameWholes.{WholePart, same_into, same_back}
use Rattle.lmn_base.proofs.Lists.{map_itself as same_links}
use Rattle.lmn_store_heap.proofs.Common.{decide_in}
use Rattle.lmn_base.specs.Lists.{In}
use Rattle.std.specs.List.{AllByRecursion}

-- ---- atoms taken out of a list, in its order

-- the elements of one list that stand in another
pub record Picked (ss us : List ℕ) : Type 0 where
  pub part : List ℕ
  pub rest : List ℕ
  pub merged : Merged part rest us
  pub once : Distinct part
  pub from : (a : ℕ) → In a part → In a ss × In a us
  pub to : (a : ℕ) → In a ss → In a us → In a part

-- so each list has them
pub picked : (ss us : List ℕ) → Distinct us → Picked ss us
picked ss [] d = record { part = []; rest = []; merged = merged_none; once = tt; from = λ a k. absurd k; to = λ a k m. m }
picked ss (u ∷ us) d =
    let w = picked ss us d.1 in
    elim (decide_in u ss) [
      | inl k ↦ record {
        part = u ∷ w.part;
        rest = w.rest;
        merged = from_first w.merged;
        once = (each_of (λ y. u ≢ y) w.part (λ a m. each_in (λ y. u ≢ y) us a d.0 (w.from a m).1), w.once);
        from = λ a m. elim m [ inl e ↦ (subst (λ z. In z ss) e k, inl e) | inr n ↦ ((w.from a n).0, inr (w.from a n).1) ];
        to = λ a m n. elim n [ inl e ↦ inl e | inr o ↦ inr (w.to a m o) ];
      }
      | inr n ↦ record {
        part = w.part;
        rest = u ∷ w.rest;
        merged = from_second w.merged;
        once = w.once;
        from = λ a m. ((w.from a m).0, inr (w.from a m).1);
        to = λ a m o. elim o [ inl e ↦ absurd (n (subst (λ z. In z ss) (sym e) m)) | inr i ↦ w.to a m i ];
      }
    ]

as_they_are : (bs : List SolidAtom) → Shuffle (λ (a : Label × List ℕ) (b : SolidAtom). record { label = a.0; links = map (λ x. x) a.1 } ≡ b) (map labelled bs) bs
as_they_are [] = none
as_they_are (b ∷ bs) = more (λ i. record { label = b.label; links = same_links b.links i }) (as_they_are bs) here

-- lists that match still do when the right one is changed one by one
pub shuffle_right : {A B C : Type 0} {R : A → B → Type 0} {S : A → C → Type 0} (f : B → C) {as' : List A} {bs : List B} → Shuffle R as' bs → ((a : A) (b : B) → R a b → S a (f b)) → Shuffle S as' (map f bs)
shuffle_right f none h = none
shuffle_right f (more {x = x} {y = y} e s p) h = more (h x y e) (shuffle_right f s h) (put_map f p)

-- nothing is matched with nothing
pub none_left : {A B : Type 0} {R : A → B → Type 0} {as' : List A} {bs : List B} → Shuffle R as' bs → bs ≡ [] → as' ≡ []
none_left none e = refl
none_left (more w s p) e = absurd (not_put p e)
  where
    not_put : {C : Type 0} {y : C} {ys zs : List C} → Put y ys zs → zs ≡ [] → ⊥
    not_put here e = cc
    not_put (there p) e = cc

module _ (h : Heap) (r : HeapReading) (read : IsRead h r) where
  atoms_are : (part : List ℕ) → ((a : ℕ) → In a part → IsAtom h a) → AllByRecursion (IsAtom h) part
  atoms_are part k = each_of (IsAtom h) part k

  listed_atom : (m a : ℕ) → In a (atoms_in h m) → IsAtom h a
  listed_atom m a k = each_in (IsAtom h) (atoms_in h m) a (list_atoms h read.valid m) k

  -- ---- from the calculus

  module _ (m : ℕ) (root : Port) (x : ℕ) (xs : List ℕ) (g : Rooted) (p : IsGroundPart h r m root (x ∷ xs) g) where
    -- the atoms of a part are atoms
    pub each_atom : AllByRecursion (IsAtom h) (x ∷ xs)
    each_atom = atoms_are (x ∷ xs) (λ a k. listed_atom m a (p.inside a k))

    -- a part as atoms side by side
    pub graph_of_part : EqualParts g (rooted_at h r root x xs)
    graph_of_part = record {
      to = p.is.to;
      one_to_one = p.is.one_to_one;
      roots = p.is.root;
      atoms = subst (Shuffle (Renames p.is.to) (atoms_at_top g.process)) (sym (atoms_beside (atom_at h r x) (map (atom_at h r) xs)))
          (shuffle_right {S = Renames p.is.to} labelled (subst (Shuffle (λ a b. record { label = a.0; links = map p.is.to a.1 } ≡ b) (atoms_at_top g.process)) (atoms_each h r (x ∷ xs) each_atom) p.is.atoms) (λ a b e. ap labelled e));
    }

    ground_there : IsGround (rooted_at h r root x xs)
    ground_there = same_ground g (rooted_at h r root x xs) p.ground.only_atoms graph_of_part (only_atoms_beside (atom_at h r x) (map (atom_at h r) xs)) p.ground

    graph_back : EqualParts (rooted_at h r root x xs) g
    graph_back = same_flipped g (rooted_at h r root x xs) p.ground.only_atoms graph_of_part (only_atoms_beside (atom_at h r x) (map (atom_at h r) xs)) p.ground.root_is_free

    -- a ground part is what is reached through its root
    pub reached_there : HasPart h root (x ∷ xs)
    reached_there a = (
      each_reached h r read.valid read.naming root p.holder p.link x xs p.once each_atom p.away ground_there a,
      all_inside h r read.valid read.naming root p.holder p.link x xs p.once each_atom p.away ground_there a,
    )

    whole_there : StandsWhole (atom_map h) root m
    whole_there = stands_whole h r read.valid read.naming root p.holder p.link x xs p.once each_atom p.away ground_there m (λ a k. home_in h read.valid m a (p.inside a k))

    as_whole : WholePart h root
    as_whole = record {
      list = record {
        first = x;
        others = xs;
        once = p.once;
        reached = λ a. (reached_there a).0;
        start = root_inside h r read.valid read.naming root p.holder p.link x xs p.once each_atom p.away ground_there;
        shut = is_shut h r read.valid read.naming root p.holder p.link x xs p.once each_atom p.away ground_there;
      };
      atoms = each_atom;
      holder = p.holder;
      link = p.link;
      away = p.away;
    }

  -- a ground part has an atom
  pub some_atom : (m : ℕ) (root : Port) (g : Rooted) → IsGroundPart h r m root [] g → ⊥
  some_atom m root g p =
      let e = none_left p.is.atoms refl in
      let c = counted g.root g.process p.ground.only_atoms in
      let z : count g.root (atoms_at_top g.process) ≡ 0 = ap (count g.root) e in
      omega (arith, c, z, p.ground.root_is_free)

-- a ground part stands whole
pub ground_parts_stand_whole : GroundPartsStandWhole
ground_parts_stand_whole h r m root [] g read p = absurd (some_atom h r read m root g p)
ground_parts_stand_whole h r m root (x ∷ xs) g read p = (whole_there h r read m root x xs g p, reached_there h r read m root x xs g p)

-- two parts are equal on both sides or on neither
pub equal_parts_alike : EqualPartsAlike
unfolding as_whole
equal_parts_alike h r m n p q [] other g k read a b = absurd (some_atom h r read m p g a)
equal_parts_alike h r m n p q (x ∷ xs) [] g k read a b = absurd (some_atom h r read n q k b)
equal_parts_alike h r m n p q (x ∷ xs) (y ∷ ys) g k read a b =
    let P = as_whole h r read m p x xs g a in
    let Q = as_whole h r read n q y ys k b in
    let gp : Rooted = rooted_at h r p x xs in
    let gq : Rooted = rooted_at h r q y ys in
    let op = only_atoms_beside (atom_at h r x) (map (atom_at h r) xs) in
    let oq = only_atoms_beside (atom_at h r y) (map (atom_at h r) ys) in (
      (λ s. same_chained g gp k a.ground.only_atoms op (graph_of_part h r read m p x xs g a)
          (same_chained gp gq k op oq (same_into h r read.valid read.naming p q P Q s) (graph_back h r read n q y ys k b))),
      (λ s. same_back h r read.valid read.naming p q P Q read.names read.known
          (same_chained gp g gq op a.ground.only_atoms (graph_back h r read m p x xs g a)
          (same_chained g k gq a.ground.only_atoms b.ground.only_atoms s (graph_of_part h r read n q y ys k b)))),
    )

-- ---- from the heap

-- a part that stands whole is ground
pub whole_parts_are_ground : WholePartsAreGround
whole_parts_are_ground h r m root holder xs read whole link outside once has =
    let v = read.valid in
    let l = part_list h v root m whole in
    let w = picked (l.first ∷ l.others) xs once in
    let reached : (a : ℕ) → In a w.part → Reached (atom_map h) root a = λ a k. l.reached a (w.from a k).0 in
    let holds : (a : ℕ) → Reached (atom_map h) root a → In a w.part = λ a k. w.to a (all_of_part h root (l.first ∷ l.others) l.start l.shut a k) (has a k) in
    let stands : (a : ℕ) → In a w.part → In a (atoms_in h m) = λ a k. (v.sound.listed.atoms m a).1 (home_is h a m (whole.at_home a (reached a k))) in
    let g = by w.part w.once reached holds stands in
    (w.part, w.rest, g.0, w.merged, (λ a. (reached a, holds a)), g.1)
  where
    by : (part : List ℕ) → Distinct part → ((a : ℕ) → In a part → Reached (atom_map h) root a) → ((a : ℕ) → Reached (atom_map h) root a → In a part) → ((a : ℕ) → In a part → In a (atoms_in h m)) →
        (g : Rooted) × IsGroundPart h r m root part g
    by [] d reached holds stands = absurd (holds root.0 at_root)
    by (x ∷ ys) d reached holds stands =
        let atoms : AllByRecursion (IsAtom h) (x ∷ ys) = atoms_are h r read (x ∷ ys) (λ a k. listed_atom h r read m a (stands a k)) in
        let away : In holder.0 (x ∷ ys) → ⊥ = λ k. outside (reached holder.0 k) in
        let l : PartList h root = record {
          first = x;
          others = ys;
          once = d;
          reached = reached;
          start = holds root.0 at_root;
          shut = λ a i b j k c e. holds b (across (reached a k) c e);
        } in (
          rooted_at h r root x ys,
          record {
            once = d;
            inside = stands;
            holder = holder;
            link = link;
            away = away;
            ground = part_is_ground h r read.valid read.naming root holder link l atoms away;
            is = record {
              only_atoms = only_atoms_beside (atom_at h r x) (map (atom_at h r) ys);
              to = λ y. y;
              one_to_one = λ y z l m e. e;
              root = refl;
              atoms = subst (λ z. Shuffle (λ (a : Label × List ℕ) (b : SolidAtom). record { label = a.0; links = map (λ y. y) a.1 } ≡ b) z (atoms_at h r (x ∷ ys))) (sym (atoms_beside (atom_at h r x) (map (atom_at h r) ys)))
                  (subst (Shuffle (λ (a : Label × List ℕ) (b : SolidAtom). record { label = a.0; links = map (λ y. y) a.1 } ≡ b) (map labelled (map (atom_at h r) (x ∷ ys)))) (sym (atoms_each h r (x ∷ ys) atoms))
                  (as_they_are (map (atom_at h r) (x ∷ ys))));
            };
          },
        )
