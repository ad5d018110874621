-- The raw atoms of each copy that a body makes, and the map of raw links that is known at them.
use Rattle.std.proofs.Common.{ℕ, zero, suc, cond, eqb, ◌≡◌, ◌≢◌, ◌+◌, ◌<◌, ◌≤◌, ◌⊎◌, List, [], ◌∷◌, map, length, inl, inr, refl, sym, ap, subst, ◌∙◌, arith}
use Rattle.lmn_base.specs.declared.solid.SolidAtom.{SolidAtom}
use Rattle.lmn_store_heap.specs.Heap.{Heap}
use Rattle.lmn_store_heap.specs.Solid.{solid_atoms_at}
use Rattle.lmn_congruence.specs.Orders.{Among, at_head, further}
use Rattle.lmn_congruence.specs.Regions as region
use Rattle.lmn_congruence.specs.Rules.{Name}
use Rattle.lmn_congruence.specs.Same.{renamed_atom}
use Rattle.lmn_congruence.specs.Translation.{solid_atom_of}
use Rattle.lmn_adequacy.specs.Next.{DepthFirst, links_at}
use Rattle.lmn_adequacy.specs.Embedding.{IsPart}
use Rattle.lmn_adequacy.proofs.Depth.{renamed_links}
use Rattle.lmn_adequacy.proofs.Skeleton.{at_even, by_parity}
use Rattle.lmn_adequacy_heaps.specs.HeapRegions.{HeapReading, atoms_at}
use Rattle.lmn_adequacy_heaps.specs.Premises.{IsRead}
use Rattle.lmn_ground_parts.specs.Walks.{IsPartInDepth as InDepth}
use Rattle.lmn_congruence_splice.specs.Splice.{IsOneOf, of_rule, of_solid}
use Rattle.lmn_instr_code.specs.declared.instr.NewPort.{NewPort}
use Rattle.lmn_instr_code.specs.declared.instr.NewPort.TheVariants as new
use Rattle.lmn_solid_bodies.specs.declared.items.BodyItem.{BodyItem}
use Rattle.lmn_solid_bodies.specs.declared.items.BodyItem.TheVariants.{Atom, Connector, Copy, Bound, Membrane, Rest, Rule, Rules}
use Rattle.lmn_solid_bodies.specs.CopiedSolid.{IsSolidCopy}
use Rattle.lmn_solid_bodies.specs.Fired.{linked_by}
use Rattle.lmn_solid_bodies.specs.Items.{new_ports, new_ports_from}
use Rattle.lmn_solid_bodies.specs.Made.{copies_of}
use Rattle.lmn_solid_bodies.specs.Running.{Registers, new_port}
use Rattle.lmn_adequacy_turns.proofs.CopiedParts.{copied_part}
use Rattle.lmn_adequacy_turns.proofs.CopyLinks.{Block, code, code_apart, copy_link, over, over_copy, over_rule}
use Rattle.lmn_adequacy_turns.proofs.EachCopy.{EachCopy}
use Rattle.lmn_base.specs.Graphs.{Port}
use Rattle.lmn_base.proofs.Lists.{map_twice}
use Rattle.lmn_base.proofs.Numbers.{same_or_not, chosen_there, chosen_elsewhere}
use Rattle.lmn_congruence_splice.proofs.Common.{in_back}
use Rattle.lmn_congruence_splice.proofs.Fusions.{apart_rule as even_not_odd, solid_once as odd_differs}
use Rattle.lmn_adequacy_heaps.specs.Parts.{IsGroundPart}
use Rattle.lmn_reduction.specs.Parts.{Rooted}

-- ---- renaming atoms

-- renaming twice is renaming once
pub renamed_twice : (f g k : ℕ → ℕ) → ((y : ℕ) → f (g y) ≡ k y) → (xs : List region.SolidAtom) → map (renamed_atom f) (map (renamed_atom g) xs) ≡ map (renamed_atom k) xs
renamed_twice f g k e [] = refl
renamed_twice f g k e (x ∷ xs) = λ i. record { label = x.label; links = links x.links i } ∷ renamed_twice f g k e xs i
  where
    links : (ys : List ℕ) → map f (map g ys) ≡ map k ys
    links [] = refl
    links (y ∷ ys) = λ i. e y i ∷ links ys i

-- read atoms with other links are the atoms with other links, read
pub read_linked : (names : List Name) (f : ℕ → ℕ) (xs : List SolidAtom) → map (solid_atom_of names) (map (linked_by f) xs) ≡ map (renamed_atom f) (map (solid_atom_of names) xs)
read_linked names f xs = map_twice (solid_atom_of names) (linked_by f) xs ∙ sym (map_twice (renamed_atom f) (solid_atom_of names) xs)

from_map : (f : ℕ → ℕ) (z : ℕ) (ys : List ℕ) → Among z (map f ys) → (y : ℕ) × (z ≡ f y)
from_map f z [] a = elim a [ ]
from_map f z (y ∷ ys) at_head = (y, refl)
from_map f z (y ∷ ys) (further a) = from_map f z ys a

-- ---- what is known of the copies

-- of a copy: where the links of its part go, the atoms of the part, and the link of its root
pub record CopyData : Type 0 where
  pub to : ℕ → ℕ
  pub atoms : List ℕ
  pub root : ℕ

module _ (h h' : Heap) (c number : Port → ℕ) (s : Registers) (g : ℕ → ℕ) where
  -- each of these copies is one in the solid
  abbrev pub Copies : List (ℕ × ℕ) → Type 0
  Copies es = (e : ℕ × ℕ) → IsOneOf e es → IsSolidCopy h c h' number (s.head.images.part e.1) (s.copy e.0) (s.copied e.0) (solid_atoms_at h' (λ a i. number (a, i)) (s.copied e.0))

  abbrev pub chosen : (es : List (ℕ × ℕ)) → Copies es → ℕ → CopyData
  chosen [] f k = record { to = λ y. y; atoms = []; root = 0 }
  chosen (e ∷ es) f zero = let i = f e (inl refl) in record { to = i.to; atoms = i.atoms; root = c (s.head.images.part e.1) }
  chosen (e ∷ es) f (suc k) = chosen es (λ d i. f d (inr i)) k

  -- Of copy number k, of the typed context p, at the rule's link x. The copies of typed contexts have even numbers, all below n.
  pub record KnownBy (n : ℕ) (d : CopyData) (k p x : ℕ) : Type 0 where
    pub part : InDepth h (s.head.images.part p) d.atoms
    pub are : solid_atoms_at h' (λ a i. number (a, i)) (s.copied k) ≡ map (linked_by d.to) (solid_atoms_at h (λ a i. c (a, i)) d.atoms)
    pub root : d.root ≡ c (s.head.images.part p)
    pub entered : d.to (c (s.head.images.part p)) ≡ g x
    pub below : of_rule k < n

  -- so much is known of each copy that items make
  pub each_known : (n m : ℕ) → of_rule m ≤ n → (D : ℕ → CopyData) (items : List BodyItem) (a k : ℕ) (f : Copies (copies_of k items)) → ((e : NewPort × ℕ) → IsOneOf e (new_ports a k items) → number (new_port s e.0) ≡ g e.1) →
      ((j : ℕ) → D (k + j) ≡ chosen (copies_of k items) f j) → k + length (copies_of k items) ≤ m → EachCopy (λ i p x. KnownBy n (D i) i p x) k items
  each_known n m wide D [] a k f links e b = tt
  each_known n m wide D (Atom functor ls inside ∷ xs) a k f links e b = each_known n m wide D xs (a + 1) k f (λ d i. links d (in_back d (new_ports_from a 0 ls) (new_ports (a + 1) k xs) i)) e b
  each_known n m wide D (Connector left right ∷ xs) a k f links e b = each_known n m wide D xs a k f links e b
  each_known n m wide D (Copy p x inside ∷ xs) a k f links e b =
      let i = f (k, p) (inl refl) in
      let z : k + 0 ≡ k = omega arith in
      let same : D k ≡ record { to = i.to; atoms = i.atoms; root = c (s.head.images.part p) } = ap D (sym z) ∙ e 0 in (
        subst (λ d. KnownBy n d k p x) (sym same) (record {
          part = i.part;
          are = i.are;
          root = refl;
          entered = i.entered ∙ links (new.Copy k, x) (inl refl);
          below = omega (arith, b, wide);
        }),
        each_known n m wide D xs a (k + 1) (λ d j. f d (inr j)) (λ d j. links d (inr j)) (λ j. let w : (k + 1) + j ≡ k + suc j = omega arith in ap D w ∙ e (suc j)) (omega (arith, b)),
      )
  each_known n m wide D (Bound integer link inside ∷ xs) a k f links e b = each_known n m wide D xs (a + 1) k f (λ d i. links d (inr i)) e b
  each_known n m wide D (Membrane inside ∷ xs) a k f links e b = each_known n m wide D xs a k f links e b
  each_known n m wide D (Rest of closed inside ∷ xs) a k f links e b = each_known n m wide D xs a k f links e b
  each_known n m wide D (Rule rule inside ∷ xs) a k f links e b = each_known n m wide D xs a k f links e b
  each_known n m wide D (Rules of inside ∷ xs) a k f links e b = each_known n m wide D xs a k f links e b

-- ---- raw links and raw atoms of a copy

-- the raw link of a link of the part: that of the rule at the root, and else one of the copy alone
abbrev pub raw_link : ℕ → CopyData → ℕ → ℕ → ℕ → ℕ
raw_link limit d k x y = cond (eqb y d.root) (of_rule x) (copy_link limit k y)

copy_link_one : (limit k x y z : ℕ) (d : CopyData) → raw_link limit d k x y ≡ raw_link limit d k x z → y ≡ z
copy_link_one limit k x y z d e = by (same_or_not y d.root) (same_or_not z d.root)
  where
    by : (y ≡ d.root) ⊎ (y ≢ d.root) → (z ≡ d.root) ⊎ (z ≢ d.root) → y ≡ z
    by (inl p) (inl q) = p ∙ sym q
    by (inl p) (inr q) = absurd (even_not_odd x (limit + code k z) (sym (chosen_there d.root (of_rule x) (copy_link limit k y) y p) ∙ e ∙ chosen_elsewhere d.root (of_rule x) (copy_link limit k z) z q))
    by (inr p) (inl q) = absurd (even_not_odd x (limit + code k y) (sym (chosen_there d.root (of_rule x) (copy_link limit k z) z q) ∙ sym e ∙ chosen_elsewhere d.root (of_rule x) (copy_link limit k y) y p))
    by (inr p) (inr q) =
        let u : copy_link limit k y ≡ copy_link limit k z = sym (chosen_elsewhere d.root (of_rule x) (copy_link limit k y) y p) ∙ e ∙ chosen_elsewhere d.root (of_rule x) (copy_link limit k z) z q in
        (code_apart k y k z (omega (arith, odd_differs (limit + code k y) (limit + code k z) u))).1

-- the raw atoms of a copy
abbrev pub raw_part : Heap → HeapReading → ℕ → CopyData → ℕ → ℕ → List region.SolidAtom
raw_part h r limit d k x = map (renamed_atom (raw_link limit d k x)) (atoms_at h r d.atoms)

-- where the links of all copies go: those of copy number k of a typed context have the number `of_rule k`, and those of copy number d of a
-- rest the number `of_solid d`
abbrev pub all_maps : (ℕ → CopyData) → (ℕ → ℕ → ℕ) → ℕ → ℕ → ℕ
all_maps D E t y = by_parity (λ k. (D k).to y) (λ d. E d y) t

module _ (h h' : Heap) (r : HeapReading) (read : IsRead h r) (number : Port → ℕ) (s : Registers) (to : ℕ → ℕ) (limit n : ℕ) (D : ℕ → CopyData) (E : ℕ → ℕ → ℕ) where
  -- the map at all raw links
  abbrev pub to_all : ℕ → ℕ
  to_all = over to limit n (all_maps D E)

  module _ (k p x : ℕ) (known : KnownBy h h' (λ q. r.name q.0 q.1) number s (λ z. to (of_rule z)) n (D k) k p x) (m : ℕ) (part : List ℕ) (g : Rooted) (ground : IsGroundPart h r m (s.head.images.part p) part g) where
    copy_of_part : IsPart g (of_rule x) (raw_part h r limit (D k) (of_rule k) x) × DepthFirst (of_rule x) (raw_part h r limit (D k) (of_rule k) x)
    copy_of_part =
        let root = s.head.images.part p in
        let w = copied_part h r read m root part g ground (D k).atoms known.part (raw_link limit (D k) (of_rule k) x) (λ y z i j e. copy_link_one limit (of_rule k) x y z (D k) e) in
        let e : raw_link limit (D k) (of_rule k) x (r.name root.0 root.1) ≡ of_rule x = chosen_there (D k).root (of_rule x) (copy_link limit (of_rule k) (r.name root.0 root.1)) (r.name root.0 root.1) (sym known.root) in
        (subst (λ z. IsPart g z (raw_part h r limit (D k) (of_rule k) x)) e w.is, subst (λ z. DepthFirst z (raw_part h r limit (D k) (of_rule k) x)) e w.in_order)

    -- it is the part, depth first
    pub raw_is : IsPart g (of_rule x) (raw_part h r limit (D k) (of_rule k) x)
    raw_is = copy_of_part.0

    pub raw_order : DepthFirst (of_rule x) (raw_part h r limit (D k) (of_rule k) x)
    raw_order = copy_of_part.1

  module _ (k p x : ℕ) (known : KnownBy h h' (λ q. r.name q.0 q.1) number s (λ z. to (of_rule z)) n (D k) k p x) where
    -- its links are that of the rule, and links of the copy
    pub raw_own_links : (z : ℕ) → Among z (links_at (raw_part h r limit (D k) (of_rule k) x)) → (z ≡ of_rule x) ⊎ ((L : ℕ) × (z ≡ of_solid L) × Block limit (of_rule k) L)
    raw_own_links z a =
        let f = raw_link limit (D k) (of_rule k) x in
        let w = from_map f z (links_at (atoms_at h r (D k).atoms)) (subst (λ ys. Among z ys) (renamed_links f (atoms_at h r (D k).atoms)) a) in
        by w.0 w.1 (same_or_not w.0 (D k).root)
      where
        by : (y : ℕ) → z ≡ raw_link limit (D k) (of_rule k) x y → (y ≡ (D k).root) ⊎ (y ≢ (D k).root) → (z ≡ of_rule x) ⊎ ((L : ℕ) × (z ≡ of_solid L) × Block limit (of_rule k) L)
        by y e (inl q) = inl (e ∙ chosen_there (D k).root (of_rule x) (copy_link limit (of_rule k) y) y q)
        by y e (inr q) = inr (limit + code (of_rule k) y, e ∙ chosen_elsewhere (D k).root (of_rule x) (copy_link limit (of_rule k) y) y q, (y, refl))

    -- and with each link at its image it is the copy in the solid
    pub raw_atoms : map (renamed_atom to_all) (raw_part h r limit (D k) (of_rule k) x) ≡ map (solid_atom_of r.names) (solid_atoms_at h' (λ a i. number (a, i)) (s.copied k))
    raw_atoms =
        renamed_twice to_all (raw_link limit (D k) (of_rule k) x) (D k).to (λ y. at y (same_or_not y (D k).root)) (atoms_at h r (D k).atoms)
        ∙ sym (read_linked r.names (D k).to (solid_atoms_at h r.name (D k).atoms)) ∙ ap (map (solid_atom_of r.names)) (sym known.are)
      where
        at : (y : ℕ) → (y ≡ (D k).root) ⊎ (y ≢ (D k).root) → to_all (raw_link limit (D k) (of_rule k) x y) ≡ (D k).to y
        at y (inl q) =
            ap to_all (chosen_there (D k).root (of_rule x) (copy_link limit (of_rule k) y) y q) ∙ over_rule to limit n (all_maps D E) x
            ∙ sym known.entered ∙ ap (D k).to (sym known.root ∙ sym q)
        at y (inr q) = ap to_all (chosen_elsewhere (D k).root (of_rule x) (copy_link limit (of_rule k) y) y q) ∙ over_copy to limit n (all_maps D E) (of_rule k) y known.below ∙ at_even (λ j. (D j).to y) (λ d. E d y) k
