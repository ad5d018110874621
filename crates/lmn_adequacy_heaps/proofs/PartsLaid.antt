-- The parts of typed contexts, given as lists of atoms, are taken out of a list that has their atoms.
use Rattle.std.proofs.Common.{ℕ, ◌≡◌, ◌+◌, List, [], ◌∷◌, map, Some, refl, sym, ap, subst, ◌∙◌, inl, inr, arith}
use Rattle.lmn_store_heap.specs.Heap.{Heap, IsAtom, atoms_in, link_of}
use Rattle.lmn_store_heap.specs.Lists.{Distinct}
use Rattle.lmn_store_heap.proofs.ListLemmas.{each_in, each_of, in_left, in_right, apart, distinct_left, distinct_right}
use Rattle.lmn_congruence.specs.Links.{one_if_same}
use Rattle.lmn_congruence.specs.Orders.{Put, there, Shuffle, none, more, here}
use Rattle.lmn_congruence.specs.Regions.{SolidAtom}
use Rattle.lmn_congruence.specs.Rules.{Label, Leaf, Name, atom_leaf, typed_leaf}
use Rattle.lmn_congruence.proofs.Shuffles.{shuffle_chain}
use Rattle.lmn_reduction.specs.Parts.{IsGround, Rooted}
use Rattle.lmn_adequacy.specs.Embedding.{IsPart, Merged}
use Rattle.lmn_adequacy_heaps.specs.HeapRegions.{HeapReading, atoms_at}
use Rattle.lmn_adequacy_heaps.specs.Premises.{IsRead}
use Rattle.lmn_adequacy_heaps.specs.Parts.{IsGroundPart}
use Rattle.lmn_adequacy_heaps.proofs.Pieces.{atom_at, atoms_each}
use Rattle.lmn_adequacy_heaps.proofs.Counting.{weigh_same, list_atoms}
use Rattle.lmn_adequacy_heaps.proofs.Forests.{find_in, some_of}
use Rattle.lmn_adequacy_heaps.proofs.Matchings.{matching, shuffle_mapped}
use Rattle.lmn_adequacy_heaps.proofs.PartLaws.{picked}
use Rattle.lmn_adequacy_heaps.proofs.PartsOut.{PartsOut, parts_none, parts_atom, parts_typed, flattened, merged_either, merged_once}
use Rattle.lmn_base.specs.Graphs.{Port}
use Rattle.lmn_base.proofs.Lists.{weigh, weigh_append}
use Rattle.lmn_base.specs.Lists.{In}

-- ---- the same atoms in another order

weigh_put : (w : ℕ → ℕ) {y : ℕ} {ys zs : List ℕ} → Put y ys zs → weigh w zs ≡ w y + weigh w ys
weigh_put w here = refl
weigh_put w (there p) = omega (arith, weigh_put w p)

-- a list in another order weighs the same
pub weigh_shuffled : (w : ℕ → ℕ) {xs ys : List ℕ} → Shuffle (λ (a b : ℕ). a ≡ b) xs ys → weigh w xs ≡ weigh w ys
weigh_shuffled w none = refl
weigh_shuffled w (more e s p) = omega (arith, ap w e, weigh_shuffled w s, weigh_put w p)

shuffled_in : {xs ys : List ℕ} → Shuffle (λ (a b : ℕ). a ≡ b) xs ys → (a : ℕ) → In a ys → In a xs
shuffled_in {xs} {ys} s a k = find_in a xs (omega (arith, weigh_shuffled (one_if_same a) s, weigh_same a xs, weigh_same a ys, some_of a ys k))

-- the atoms of a part in the order of a list that has them
part_taken_out : (g : ℕ → SolidAtom) (part xs : List ℕ) (G : Rooted) (x : ℕ) → IsPart G x (map g part) → Distinct part → Distinct xs → ((a : ℕ) → In a part → In a xs) →
    (other : List ℕ) × (rest : List ℕ) × Merged other rest xs × Shuffle (λ (a b : ℕ). a ≡ b) part other × IsPart G x (map g other)
part_taken_out g part xs G x p d once has =
    let w = picked part xs once in
    let same : Shuffle (λ (a b : ℕ). a ≡ b) part w.part = matching (λ x. x) part w.part d w.once (λ x k. w.to x k (has x k)) (λ x y k l e. e) (λ y k. (y, (w.from y k).0, refl)) in (
      w.part,
      w.rest,
      w.merged,
      same,
      record {
        only_atoms = p.only_atoms;
        to = p.to;
        one_to_one = p.one_to_one;
        root = p.root;
        atoms = shuffle_chain (λ a b c e f. e ∙ f) p.atoms (map g w.part) (shuffle_mapped {S = λ a b. a ≡ b} g same (λ x y k e. ap g e));
      },
    )

-- ---- the parts of leaves

-- each typed context of the leaves has a part of its link
pub data GivenParts (g : ℕ → SolidAtom) (link_of : ℕ → ℕ) (typed_of : Name → Rooted) : List Leaf → List (List ℕ) → Type 0 where
  given_none : GivenParts g link_of typed_of [] []
  given_atom : {a : Label} {ys : List ℕ} {ls : List Leaf} {parts : List (List ℕ)} → GivenParts g link_of typed_of ls parts → GivenParts g link_of typed_of (atom_leaf a ys ∷ ls) parts
  given_typed : {p : Name} {x : ℕ} {ls : List Leaf} {part : List ℕ} {parts : List (List ℕ)} →
      IsGround (typed_of p) → IsPart (typed_of p) (link_of x) (map g part) → GivenParts g link_of typed_of ls parts → GivenParts g link_of typed_of (typed_leaf p x ∷ ls) (part ∷ parts)

-- the same parts, each in the order of a list, taken out of it
pub record LaidParts (g : ℕ → SolidAtom) (link_of : ℕ → ℕ) (typed_of : Name → Rooted) (ls : List Leaf) (given : List (List ℕ)) (xs : List ℕ) : Type 0 where
  pub parts : List (List ℕ)
  pub rest : List ℕ
  pub out : PartsOut g link_of typed_of ls parts xs rest
  pub same : (w : ℕ → ℕ) → weigh w (flattened parts) ≡ weigh w (flattened given)

-- parts without a common atom are taken out of a list that has them
pub lay_parts : (g : ℕ → SolidAtom) (link_of : ℕ → ℕ) (typed_of : Name → Rooted) {ls : List Leaf} {parts : List (List ℕ)} (xs : List ℕ) → GivenParts g link_of typed_of ls parts → Distinct xs → Distinct (flattened parts) →
    ((a : ℕ) → In a (flattened parts) → In a xs) → LaidParts g link_of typed_of ls parts xs
lay_parts g link_of' typed_of xs given_none d e has = record { parts = []; rest = xs; out = parts_none; same = λ w. refl }
lay_parts g link_of' typed_of xs (given_atom k) d e has = let u = lay_parts g link_of' typed_of xs k d e has in record { parts = u.parts; rest = u.rest; out = parts_atom u.out; same = u.same }
lay_parts g link_of' typed_of xs (given_typed {p = p} {x = x} {part = part} {parts = parts} ground is k) d e has =
    let w = part_taken_out g part xs (typed_of p) (link_of' x) is (distinct_left part (flattened parts) e) d (λ a i. has a (in_left a part (flattened parts) i)) in
    let u = lay_parts g link_of' typed_of w.1 k (merged_once w.2 d) (distinct_right part (flattened parts) e) (λ a i. elim (merged_either w.2 a (has a (in_right a part (flattened parts) i))) [
      | inl j ↦ absurd (apart part (flattened parts) a a e (shuffled_in w.3 a j) i refl)
      | inr j ↦ j
    ]) in
    record {
      parts = w.0 ∷ u.parts;
      rest = u.rest;
      out = parts_typed ground w.4 w.2 u.out;
      same = λ f. let s = u.same f in omega (arith, s, weigh_shuffled f w.3, weigh_append f w.0 (flattened u.parts), weigh_append f part (flattened parts));
    }

-- ---- the parts of a heap

module _ (h : Heap) (r : HeapReading) (read : IsRead h r) where
  -- a ground part, by the numbers of its atoms
  pub as_read : (m : ℕ) (root : Port) (part : List ℕ) (g : Rooted) → IsGroundPart h r m root part g → IsPart g (r.name root.0 root.1) (map (atom_at h r) part)
  as_read m root part g p =
      subst (IsPart g (r.name root.0 root.1)) (atoms_each h r part (each_of (IsAtom h) part (λ a k. each_in (IsAtom h) (atoms_in h m) a (list_atoms h read.valid m) (p.inside a k)))) p.is

  -- a part of the calculus, held by a port of an atom that isn't of it
  pub held_part : (m : ℕ) (root holder : Port) (part : List ℕ) (g : Rooted) → IsGround g → IsPart g (r.name holder.0 holder.1) (map (atom_at h r) part) → Distinct part → ((a : ℕ) → In a part → In a (atoms_in h m)) →
      link_of h holder.0 holder.1 ≡ Some root → (In holder.0 part → ⊥) → IsGroundPart h r m root part g
  held_part m root holder part g ground is once inside link away = record {
    once = once;
    inside = inside;
    holder = holder;
    link = read.valid.sound.paired.back holder.0 holder.1 root.0 root.1 link;
    away = away;
    ground = ground;
    is = subst (λ z. IsPart g z (atoms_at h r part)) (read.naming.joined holder.0 holder.1 root.0 root.1 link)
        (subst (IsPart g (r.name holder.0 holder.1)) (sym each) is);
  }
    where
      each : atoms_at h r part ≡ map (atom_at h r) part
      each = atoms_each h r part (each_of (IsAtom h) part (λ a k. each_in (IsAtom h) (atoms_in h m) a (list_atoms h read.valid m) (inside a k)))
