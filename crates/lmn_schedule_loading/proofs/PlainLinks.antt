-- The links of a plain: at ports, and on connectors.
use Rattle.std.proofs.Common.{ℕ, zero, suc, ◌≡◌, ◌≢◌, ◌+◌, ◌<◌, ◌≤◌, ◌==◌, Bool, true, false, cond, List, [], ◌∷◌, ◌++◌, map, length, take, All, refl, sym, ap, subst, ◌∙◌, inl, inr, arith}
use Rattle.std.specs.List.{flat_map}
use Rattle.std.specs.Prelude.{min, max}
use Rattle.std.proofs.lemmas.Bool.{cases_lt, eqb-true}
use Rattle.std.proofs.Math.Nat.{min-eq_left, max-eq_right, min_comm, max_comm}
use Rattle.std.proofs.lemmas.Grind.{flat_map-append}
use Rattle.std.proofs.lemmas.List.{map-append, take_all}
use Rattle.lmn_base.specs.declared.functor.Functor.{Functor}
use Rattle.lmn_base.specs.declared.functor.Label.{Label}
use Rattle.lmn_base.specs.declared.functor.Label.TheVariants.{Name, Int}
use Rattle.lmn_base.specs.declared.level.Leaf.{Leaf}
use Rattle.lmn_base.specs.declared.level.Leaf.TheVariants.{Atom, Typed}
use Rattle.lmn_base.specs.declared.level.Level.{Level, out-Level}
use Rattle.lmn_base.specs.declared.level.Level.TheFolds.{fold-roll-Level, ind-Level}
use Rattle.lmn_base.specs.declared.level.Occ.{Occ}
use Rattle.lmn_base.specs.declared.refusal.Pos.{Pos}
use Rattle.lmn_base.specs.declared.solid.Region.{Region}
use Rattle.lmn_base.specs.declared.solid.Region.TheFolds.{fold-roll-Region}
use Rattle.lmn_base.specs.declared.solid.SolidAtom.{SolidAtom}
use Rattle.lmn_base.specs.Levels.{leaves_of, occurrences_of_leaf}
use Rattle.lmn_base.specs.Links.{Numbers, no_more, known, new}
use Rattle.lmn_base.specs.Solids.{atoms_of_region, atoms_step, is_equals, is_connector}
use Rattle.lmn_base.specs.WellMade.{FitsArity, IsAtomLeaf}
use Rattle.lmn_base_walks.proofs.ItemLemmas.{leaves_apart}
use Rattle.lmn_congruence.specs.SolidsOfPlains.{fused_leaf, fused_step, fused_region, JoinsLeaf}
use Rattle.lmn_congruence.proofs.SolidsOfPlains.{twice_mapped}
use Rattle.lmn_congruence_splice.specs.Splice.{IsOneOf, both_links}
use Rattle.lmn_congruence_splice.specs.Classes.{with_joined, classes}
use Rattle.lmn_schedule_loading.specs.Adding.{atom_leaf_links, atom_links}
use Rattle.lmn_schedule_loading.specs.Joining.{pair_of, leaf_pairs, connectors_of_leaves}
use Rattle.lmn_congruence.specs.Links.{places, one_if_same}
use Rattle.lmn_congruence.specs.Process.{replace}
use Rattle.lmn_congruence.proofs.Counts.{one_if_equal as one_same}
use Rattle.lmn_congruence.proofs.TranslatedLinks.{places_append as often_append}
use Rattle.lmn_congruence_splice.proofs.Common.{in_append as either_in}
use Rattle.lmn_base.proofs.Lists.{joined_alike as both, all_of_right}
use Rattle.lmn_base.proofs.Common.{inner_leaves, inner_atoms}

-- Counting

-- what is one of a list has a place in it
pub in_often : (z : ℕ) (xs : List ℕ) → IsOneOf z xs → places z xs ≢ 0
in_often z (x ∷ xs) (inl e) f = absurd (omega (arith, one_same z x (sym e), f))
in_often z (x ∷ xs) (inr i) f = in_often z xs i (rest (one_if_same z x) (places z xs) f)
  where
    rest : (m n : ℕ) → m + n ≡ 0 → n ≡ 0
    rest m n e = omega (arith, e)
in_often z [] i f = absurd i

-- and what has a place is one
pub often_in : (z : ℕ) (xs : List ℕ) → places z xs ≢ 0 → IsOneOf z xs
often_in z [] d = absurd (d refl)
often_in z (x ∷ xs) d = by (z == x) refl d (often_in z xs)
  where
    zero_plus : (n : ℕ) → 0 + n ≡ n
    zero_plus n = omega arith

    by : (b : Bool) → (z == x) ≡ b → cond b 1 0 + places z xs ≢ 0 → (places z xs ≢ 0 → IsOneOf z xs) → IsOneOf z (x ∷ xs)
    by true e f rest = inl (sym (eqb-true z x e))
    by false e f rest = inr (rest (λ g. f (zero_plus (places z xs) ∙ g)))

-- numbers by first occurrence are below the number of them
pub numbers_below : {n m : ℕ} {xs : List ℕ} → Numbers n xs m → (n ≤ m) × ((z : ℕ) → IsOneOf z xs → z < m)
numbers_below no_more = (omega arith, λ z i. absurd i)
numbers_below (known {n = n} {m = m} {x = x} l r) = let w = numbers_below r in (w.0, λ z i. elim i [ inl e ↦ subst (λ y. y < m) e (less x n m l w.0) | inr j ↦ w.1 z j ])
  where
    less : (x n m : ℕ) → x < n → n ≤ m → x < m
    less x n m a b = omega (arith, a, b)
numbers_below (new {n = n} {m = m} r) = let w = numbers_below r in (below n m w.0, λ z i. elim i [ inl e ↦ subst (λ y. y < m) e w.0 | inr j ↦ w.1 z j ])
  where
    below : (n m : ℕ) → suc n ≤ m → n ≤ m
    below n m l = omega (arith, l)

-- Each link stands at a port or on a connector

two_links : (os : List Occ) (n : ℕ) → length os ≡ n → (n == 2) ≡ true → both_links (pair_of os) ≡ map (λ o. o.link) os
two_links [] n e f = refl
two_links (a ∷ []) n e f = absurd (let w : n ≡ 2 = eqb-true n 2 f in let u : 1 ≡ 2 = e ∙ w in omega (arith, u))
two_links (a ∷ b ∷ []) n e f = refl
two_links (a ∷ b ∷ c ∷ os) n e f = absurd (let w : n ≡ 2 = eqb-true n 2 f in let u : suc (suc (suc (length os))) ≡ 2 = e ∙ w in omega (arith, u))

is_two : (f : Functor) → is_connector f ≡ true → (f.arity == 2) ≡ true
is_two f e = by f.label f.arity e
  where
    by : (l : Label) (n : ℕ) → is_connector (record { label = l; arity = n }) ≡ true → (n == 2) ≡ true
    by (Int z) n e = absurd (cc)
    by (Name (suc k)) n e = absurd (cc)
    by (Name zero) n e = e

both_append : (es fs : List (ℕ × ℕ)) → both_links (es ++ fs) ≡ both_links es ++ both_links fs
both_append [] fs = refl
both_append (e ∷ es) fs = ap (λ xs. e.0 ∷ e.1 ∷ xs) (both_append es fs)

one_leaf : (z : ℕ) (l : Leaf) → FitsArity l → IsAtomLeaf l → places z (map (λ o. o.link) (occurrences_of_leaf l)) ≡ places z (both_links (leaf_pairs l)) + places z (atom_leaf_links l)
one_leaf z (Typed n o p) h a = absurd a
one_leaf z (Atom f os p) h a = by (is_connector f) refl
  where
    by : (b : Bool) → is_connector f ≡ b → places z (map (λ o. o.link) os) ≡ places z (both_links (cond b (pair_of os) [])) + places z (cond b [] (map (λ o. o.link) os))
    by true e = ap (places z) (sym (two_links os f.arity h (is_two f e))) ∙ plus (places z (both_links (pair_of os)))
      where
        plus : (n : ℕ) → n ≡ n + 0
        plus n = omega arith
    by false e = zero_plus (places z (map (λ o. o.link) os))
      where
        zero_plus : (n : ℕ) → n ≡ 0 + n
        zero_plus n = omega arith

-- the places of a link are those at connectors and those at atoms
pub all_links : (z : ℕ) (ls : List Leaf) → All FitsArity ls → All IsAtomLeaf ls →
    places z (map (λ o. o.link) (flat_map occurrences_of_leaf ls)) ≡ places z (both_links (connectors_of_leaves ls)) + places z (atom_links ls)
all_links z [] h a = refl
all_links z (l ∷ ls) h a = omega (arith, first, second, third, one_leaf z l (h zero l (omega arith)) (a zero l (omega arith)), all_links z ls (all_of_right FitsArity (l ∷ []) ls h) (all_of_right IsAtomLeaf (l ∷ []) ls a))
  where
    first : places z (map (λ o. o.link) (occurrences_of_leaf l ++ flat_map occurrences_of_leaf ls)) ≡ places z (map (λ o. o.link) (occurrences_of_leaf l)) + places z (map (λ o. o.link) (flat_map occurrences_of_leaf ls))
    first = ap (places z) (map-append (λ (o : Occ). o.link) (occurrences_of_leaf l) (flat_map occurrences_of_leaf ls)) ∙ often_append z _ _

    second : places z (both_links (leaf_pairs l ++ connectors_of_leaves ls)) ≡ places z (both_links (leaf_pairs l)) + places z (both_links (connectors_of_leaves ls))
    second = ap (places z) (both_append (leaf_pairs l) (connectors_of_leaves ls)) ∙ often_append z _ _

    third : places z (atom_leaf_links l ++ atom_links ls) ≡ places z (atom_leaf_links l) + places z (atom_links ls)
    third = often_append z (atom_leaf_links l) (atom_links ls)

-- A map that joins each connector's links takes a link where it takes the least link of its class

joined_class : (v m : ℕ → ℕ) (a b : ℕ) → ((x : ℕ) → v (m x) ≡ v x) → v a ≡ v b → (x : ℕ) → v (with_joined m a b x) ≡ v x
joined_class v m a b h e x = elim (cases_lt (m a) (m b)) [
  | inl l ↦ go (min (m a) (m b)) (max (m a) (m b)) (ap v (min-eq_left (weak (m a) (m b) l)) ∙ h a ∙ e ∙ sym (h b) ∙ ap v (sym (max-eq_right (weak (m a) (m b) l))))
  | inr l ↦ go (min (m a) (m b)) (max (m a) (m b)) (ap v (min_comm (m a) (m b) ∙ min-eq_left l) ∙ h b ∙ sym e ∙ sym (h a) ∙ ap v (sym (max_comm (m a) (m b) ∙ max-eq_right l)))
]
  where
    weak : (a b : ℕ) → a < b → a ≤ b
    weak a b l = omega (arith, l)

    go : (lo hi : ℕ) → v lo ≡ v hi → v (replace lo hi (m x)) ≡ v x
    go lo hi f = by (m x == hi) refl
      where
        by : (t : Bool) → (m x == hi) ≡ t → v (cond t lo (m x)) ≡ v x
        by true k = f ∙ ap v (sym (eqb-true (m x) hi k)) ∙ h x
        by false k = h x

-- a map that joins connectors is the same on a whole class
pub of_class : (v m : ℕ → ℕ) (es : List (ℕ × ℕ)) → ((x : ℕ) → v (m x) ≡ v x) → ((e : ℕ × ℕ) → IsOneOf e es → v e.0 ≡ v e.1) → (x : ℕ) → v (classes m es x) ≡ v x
of_class v m [] h j x = h x
of_class v m (e ∷ es) h j x = of_class v (with_joined m e.0 e.1) es (joined_class v m e.0 e.1 h (j e (inl refl))) (λ f i. j f (inr i)) x

is_named : (f : Functor) → is_connector f ≡ true → is_equals f.label ≡ true
is_named f e = by f.label f.arity e
  where
    by : (l : Label) (n : ℕ) → is_connector (record { label = l; arity = n }) ≡ true → is_equals l ≡ true
    by (Int z) n e = absurd (cc)
    by (Name (suc k)) n e = absurd (cc)
    by (Name zero) n e = refl

pair_joined : (v : ℕ → ℕ) (f : Functor) (os : List Occ) (p : Pos) → is_connector f ≡ true → length os ≡ f.arity → JoinsLeaf v (Atom f os p) → (e : ℕ × ℕ) → IsOneOf e (pair_of os) → v e.0 ≡ v e.1
pair_joined v f [] p c n h e i = absurd i
pair_joined v f (a ∷ []) p c n h e i = absurd i
pair_joined v f (a ∷ b ∷ []) p c n h e (inl k) = subst (λ (w : ℕ × ℕ). v w.0 ≡ v w.1) k (h (is_named f c))
pair_joined v f (a ∷ b ∷ []) p c n h e (inr k) = absurd k
pair_joined v f (a ∷ b ∷ d ∷ os) p c n h e i = absurd (let w : f.arity ≡ 2 = eqb-true f.arity 2 (is_two f c) in let u : suc (suc (suc (length os))) ≡ 2 = n ∙ w in omega (arith, u))

leaf_joined : (v : ℕ → ℕ) (l : Leaf) → FitsArity l → JoinsLeaf v l → (e : ℕ × ℕ) → IsOneOf e (leaf_pairs l) → v e.0 ≡ v e.1
leaf_joined v (Typed n o p) h j e i = absurd i
leaf_joined v (Atom f os p) h j e i = by (is_connector f) refl i
  where
    by : (b : Bool) → is_connector f ≡ b → IsOneOf e (cond b (pair_of os) []) → v e.0 ≡ v e.1
    by true c k = pair_joined v f os p c h j e k
    by false c k = absurd k

-- a map joins the two links of each connector
pub connectors_joined : (v : ℕ → ℕ) (ls : List Leaf) → All FitsArity ls → All (JoinsLeaf v) ls → (e : ℕ × ℕ) → IsOneOf e (connectors_of_leaves ls) → v e.0 ≡ v e.1
connectors_joined v [] h j e i = absurd i
connectors_joined v (l ∷ ls) h j e i = elim (either_in e (leaf_pairs l) (connectors_of_leaves ls) i) [
  | inl k ↦ leaf_joined v l (h zero l (omega arith)) (j zero l (omega arith)) e k
  | inr k ↦ connectors_joined v ls (all_of_right FitsArity (l ∷ []) ls h) (all_of_right (JoinsLeaf v) (l ∷ []) ls j) e k
]

-- The links of the fused process

leaf_fused : (v : ℕ → ℕ) (l : Leaf) → flat_map (λ a. a.links) (fused_leaf v l) ≡ map v (atom_leaf_links l)
leaf_fused v (Typed n o p) = refl
leaf_fused v (Atom f os p) = by (is_connector f)
  where
    nil : (xs : List ℕ) → xs ++ [] ≡ xs
    nil [] = refl
    nil (x ∷ xs) = ap (λ ys. x ∷ ys) (nil xs)

    by : (b : Bool) → flat_map (λ (a : SolidAtom). a.links) (cond b [] (record { functor = f; links = map (λ o. v o.link) os } ∷ [])) ≡ map v (cond b [] (map (λ o. o.link) os))
    by true = refl
    by false = nil (map (λ o. v o.link) os) ∙ twice_mapped v os

leaves_fused : (v : ℕ → ℕ) (ls : List Leaf) → flat_map (λ a. a.links) (flat_map (fused_leaf v) ls) ≡ map v (atom_links ls)
leaves_fused v [] = refl
leaves_fused v (l ∷ ls) = flat_map-append (λ (a : SolidAtom). a.links) (fused_leaf v l) (flat_map (fused_leaf v) ls) ∙ both (leaf_fused v l) (leaves_fused v ls) ∙ sym (map-append v (atom_leaf_links l) (atom_links ls))

module _ (v : ℕ → ℕ) where
  abbrev Linked : Level → Type 0
  Linked l = flat_map (λ a. a.links) (atoms_of_region (fused_region v l)) ≡ map v (atom_links (leaves_of l))

  two_parts : (xs ys : List SolidAtom) (ls ks : List Leaf) → flat_map (λ a. a.links) xs ≡ map v (atom_links ls) → flat_map (λ a. a.links) ys ≡ map v (atom_links ks) → flat_map (λ a. a.links) (xs ++ ys) ≡ map v (atom_links (ls ++ ks))
  two_parts xs ys ls ks e d = flat_map-append (λ (a : SolidAtom). a.links) xs ys ∙ both e d ∙ sym (map-append v (atom_links ls) (atom_links ks)) ∙ ap (map v) (sym (flat_map-append atom_leaf_links ls ks))

  inner_linked : (ls : List ((l : Level) × Linked l)) → flat_map (λ a. a.links) (inner_atoms (map (fused_region v) (map (λ e. e.0) ls))) ≡ map v (atom_links (inner_leaves (map (λ e. e.0) ls)))
  inner_linked [] = refl
  inner_linked (e ∷ ls) = two_parts (atoms_of_region (fused_region v e.0)) (inner_atoms (map (fused_region v) (map (λ e. e.0) ls))) (leaves_of e.0) (inner_leaves (map (λ e. e.0) ls)) e.1 (inner_linked ls)

  -- the links of a level without its connectors
  pub region_links : (l : Level) → Linked l
  region_links = ind-Level Linked (λ y z is.
      let inside = subst (λ l. flat_map (λ a. a.links) (inner_atoms (map (fused_region v) l.membranes)) ≡ map v (atom_links (inner_leaves l.membranes))) is (inner_linked z.membranes) in
      rw (fold-roll-Level Region (fused_step v) y, fold-roll-Region (List SolidAtom) atoms_step _, fold-roll-Level (List Leaf) (λ l. l.leaves ++ flat_map (λ inner. inner) l.membranes) y)
      (two_parts (flat_map (fused_leaf v) y.leaves) (inner_atoms (map (fused_region v) y.membranes)) y.leaves (inner_leaves y.membranes) (leaves_fused v y.leaves) inside))

-- all connectors of a level, when those in each membrane are collected
pub all_connectors : (old made : List (ℕ × ℕ)) (l : Level) (ms : List Level) (i : ℕ) → ms ≡ (out-Level l).membranes → length ms ≤ i
    → made ≡ old ++ connectors_of_leaves ((out-Level l).leaves ++ flat_map leaves_of (take i ms)) → made ≡ old ++ connectors_of_leaves (leaves_of l)
all_connectors old made l ms i e h f = f ∙ ap (λ xs. old ++ connectors_of_leaves ((out-Level l).leaves ++ flat_map leaves_of xs)) (take_all i ms h ∙ e) ∙ ap (λ xs. old ++ connectors_of_leaves xs) (sym (leaves_apart l))
