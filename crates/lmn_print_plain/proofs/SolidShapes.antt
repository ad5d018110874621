-- The solid of a valid heap is like every solid.
use Rattle.std.proofs.Common.{◌≡◌, ◌≢◌, ◌==◌, ℕ, zero, suc, ◌+◌, ◌<◌, ◌≤◌, ◌⊎◌, inl, inr, cond, List, [], ◌∷◌, ◌++◌, map, length, Option, Some, None, IsSome, refl, sym, ap, ◌∙◌, subst, arith}
use Rattle.std.specs.List.{All, count_by, AllByRecursion}
use Rattle.std.specs.Option.{option_map}
use Rattle.std.proofs.lemmas.Bool.{cases_eq}
use Rattle.std.proofs.lemmas.Bool.Decides.{nat_tests}
use Rattle.std.proofs.lemmas.List.Elements.{All-append, All-cons, All-nil}
use Rattle.std.proofs.lemmas.List.Recursion.{is_count_by}
use Rattle.lmn_base.specs.Links.{EachTwice}
use Rattle.lmn_base.specs.Solids.{connector}
use Rattle.lmn_base.specs.declared.solid.SolidAtom.{SolidAtom}
use Rattle.lmn_store_heap.specs.Heap.{Heap, HeapAtom, arity_of, link_of}
use Rattle.lmn_store_heap.specs.Lists.{Distinct}
use Rattle.lmn_store_heap.specs.Solid.{IsNaming, links_from, solid_atom_at, solid_atoms_at}
use Rattle.lmn_store_heap.specs.Sound.{flat, Valid}
use Rattle.lmn_store_heap.proofs.ListLemmas.{each_in}
use Rattle.lmn_store_heap.proofs.Ports.{SamePort, same_port}
use Rattle.lmn_store_heap.proofs.Replacing.{port_within}
use Rattle.lmn_print_plain.specs.HeapLaws.{HeapSolidsAreSolids}
use Rattle.lmn_print_plain.specs.Numbers.{printed_atoms, links_on}
use Rattle.lmn_print_plain.proofs.FirstNames.{names_on, are_on, ArePorts}
use Rattle.lmn_ground_parts.specs.Copies.{ports_of}
use Rattle.lmn_print_plain.proofs.OrderLemmas.{printed_all, printed_once}
use Rattle.lmn_print_plain.proofs.SolidLinks.{solid_atoms, solid_links}
use Rattle.lmn_store_heap.proofs.Common.{is_atom_at as port_there, length_numbered, same_port as same_ports}
use Rattle.lmn_ground_parts.proofs.WalkLaws.{by_port}
use Rattle.lmn_ground_parts.specs.Walks.{port_range}
use Rattle.lmn_base.specs.Solids as solids
use Rattle.lmn_base.specs.Lists.{In}

-- How often a number stands in a list.

abbrev tally : ℕ → List ℕ → ℕ
tally x [] = 0
tally x (y ∷ ys) = cond (x == y) (1 + tally x ys) (tally x ys)

tally_is : (x : ℕ) (ys : List ℕ) → tally x ys ≡ count_by (λ y. x == y) ys
tally_is x = is_count_by (tally x) (λ y. x == y) refl (λ y ys. refl)

test_same : (x y t : ℕ) → x ≡ y → cond (x == y) (1 + t) t ≡ suc t
test_same x y t e = grind (arith, nat_tests, e)

test_apart : (x y t : ℕ) → x ≢ y → cond (x == y) (1 + t) t ≡ t
test_apart x y t d = grind (arith, nat_tests, d)

-- How often a port stands in a list.

abbrev once : {A : Type 0} → A ⊎ (A → ⊥) → ℕ
once (inl a) = 1
once (inr d) = 0

once_so : {A : Type 0} (x : A ⊎ (A → ⊥)) → A → once x ≡ 1
once_so (inl a) h = refl
once_so (inr d) h = absurd (d h)

once_not : {A : Type 0} (x : A ⊎ (A → ⊥)) → (A → ⊥) → once x ≡ 0
once_not (inl a) h = absurd (h a)
once_not (inr d) h = refl

abbrev times : ℕ → ℕ → List (ℕ × ℕ) → ℕ
times a i [] = 0
times a i (p ∷ ps) = once (same_port p.0 p.1 a i) + times a i ps

times_append : (a i : ℕ) (ps qs : List (ℕ × ℕ)) → times a i (ps ++ qs) ≡ times a i ps + times a i qs
times_append a i [] qs = omega arith
times_append a i (p ∷ ps) qs = let e = times_append a i ps qs in omega (arith, e)

from_other : (a i c j n : ℕ) → c ≢ a → times a i (port_range c j n) ≡ 0
from_other a i c j zero d = refl
from_other a i c j (suc n) d =
    let e = once_not (same_port c j a i) (λ p. d p.0) in
    let f = from_other a i c (j + 1) n d in
    omega (arith, e, f)

from_above : (a i j n : ℕ) → i < j → times a i (port_range a j n) ≡ 0
from_above a i j zero l = refl
from_above a i j (suc n) l =
    let e = once_not (same_port a j a i) (λ p. let q = p.1 in absurd (omega (arith, q, l))) in
    let f = from_above a i (j + 1) n (omega (arith, l)) in
    omega (arith, e, f)

from_here : (a i j n : ℕ) → j ≤ i → i < j + n → times a i (port_range a j n) ≡ 1
from_here a i j zero l k = absurd (omega (arith, l, k))
from_here a i j (suc n) l k = elim (cases_eq j i) [
  | inl q ↦ (let e = once_so (same_port a j a i) (refl, q) in
      let f = from_above a i (j + 1) n (omega (arith, q)) in
      omega (arith, e, f))
  | inr d ↦ (let e = once_not (same_port a j a i) (λ p. d p.1) in
      let f = from_here a i (j + 1) n (omega (arith, l, d)) (omega (arith, k)) in
      omega (arith, e, f))
]

module _ (s : Heap) (a i : ℕ) (l : i < arity_of s a) where
  none_on : (xs : List ℕ) → AllByRecursion (λ b. a ≢ b) xs → times a i (ports_of s xs) ≡ 0
  none_on [] e = refl
  none_on (b ∷ xs) e =
      let t = times_append a i (port_range b 0 (arity_of s b)) (ports_of s xs) in
      let f = from_other a i b 0 (arity_of s b) (λ q. e.0 (sym q)) in
      let g = none_on xs e.1 in
      omega (arith, t, f, g)

  -- a port of one of different atoms stands there once
  once_on : (xs : List ℕ) → Distinct xs → In a xs → times a i (ports_of s xs) ≡ 1
  once_on [] d h = absurd h
  once_on (b ∷ xs) d (inl e) =
      let t = times_append a i (port_range b 0 (arity_of s b)) (ports_of s xs) in
      let f : times a i (port_range b 0 (arity_of s b)) ≡ 1 = subst (λ c. times a i (port_range c 0 (arity_of s c)) ≡ 1) (sym e) (from_here a i 0 (arity_of s a) (omega arith) (omega (arith, l))) in
      let g = none_on xs (subst (λ c. AllByRecursion (λ y. c ≢ y) xs) e d.0) in
      omega (arith, t, f, g)
  once_on (b ∷ xs) d (inr h) =
      let t = times_append a i (port_range b 0 (arity_of s b)) (ports_of s xs) in
      let f = from_other a i b 0 (arity_of s b) (each_in (λ n. b ≢ n) xs a d.0 h) in
      let g = once_on xs d.1 h in
      omega (arith, t, f, g)

-- a link stands where its two ports do
module _ (s : Heap) (name : ℕ → ℕ → ℕ) (naming : IsNaming s name) (a i b j : ℕ) (l : i < arity_of s a) (link : link_of s a i ≡ Some (b, j)) (differ : SamePort a i b j → ⊥) where
  both_ports : (ps : List (ℕ × ℕ)) → ArePorts s ps → tally (name a i) (map (by_port name) ps) ≡ times a i ps + times b j ps
  both_ports [] are = omega arith
  both_ports (p ∷ ps) are = elim (same_port p.0 p.1 a i) [
    | inl q ↦ (let t = test_same (name a i) (name p.0 p.1) (tally (name a i) (map (by_port name) ps)) (sym (ap (λ x. name x p.1) q.0 ∙ ap (name a) q.1)) in
        let e = once_so (same_port p.0 p.1 a i) q in
        let f = once_not (same_port p.0 p.1 b j) (λ r. differ (sym q.0 ∙ r.0, sym q.1 ∙ r.1)) in
        let g = both_ports ps are.1 in
        omega (arith, t, e, f, g))
    | inr d ↦ elim (same_port p.0 p.1 b j) [
      | inl r ↦ (let t = test_same (name a i) (name p.0 p.1) (tally (name a i) (map (by_port name) ps)) (naming.joined a i b j link ∙ sym (ap (λ x. name x p.1) r.0 ∙ ap (name b) r.1)) in
          let e = once_not (same_port p.0 p.1 a i) d in
          let f = once_so (same_port p.0 p.1 b j) r in
          let g = both_ports ps are.1 in
          omega (arith, t, e, f, g))
      | inr c ↦ (let t = test_apart (name a i) (name p.0 p.1) (tally (name a i) (map (by_port name) ps)) (λ h. elim (naming.apart a i p.0 p.1 l are.0 h) [
        | inl q ↦ d (sym q.0, sym q.1)
        | inr q ↦ (let r = same_ports (sym link ∙ q) in c (sym r.0, sym r.1))
      ]) in
          let e = once_not (same_port p.0 p.1 a i) d in
          let f = once_not (same_port p.0 p.1 b j) c in
          let g = both_ports ps are.1 in
          omega (arith, t, e, f, g))
    ]
  ]

-- a number stands nowhere, or it is that of a port
stands : (s : Heap) (name : ℕ → ℕ → ℕ) (x : ℕ) (ps : List (ℕ × ℕ)) → ArePorts s ps → (tally x (map (by_port name) ps) ≡ 0) ⊎ ((p : ℕ × ℕ) × (name p.0 p.1 ≡ x) × (p.1 < arity_of s p.0))
stands s name x [] are = inl refl
stands s name x (p ∷ ps) are = elim (cases_eq x (name p.0 p.1)) [
  | inl e ↦ inr (p, sym e, are.0)
  | inr d ↦ elim (stands s name x ps are.1) [
    | inl z ↦ inl (test_apart x (name p.0 p.1) (tally x (map (by_port name) ps)) d ∙ z)
    | inr r ↦ inr r
  ]
]

partner_of : (s : Heap) (a i : ℕ) (o : Option (ℕ × ℕ)) → link_of s a i ≡ o → IsSome o → (p : ℕ × ℕ) × (link_of s a i ≡ Some p)
partner_of s a i None e h = absurd (cc h)
partner_of s a i (Some p) e h = (p, e)

module _ (s : Heap) (valid : Valid s) (name : ℕ → ℕ → ℕ) (naming : IsNaming s name) (xs : List ℕ) (distinct : Distinct xs) (all : (a i : ℕ) → i < arity_of s a → In a xs) where
  port_twice : (a i : ℕ) → i < arity_of s a → tally (name a i) (map (by_port name) (ports_of s xs)) ≡ 2
  port_twice a i l =
      let q = partner_of s a i (link_of s a i) refl (valid.full a i l) in
      let k = port_within s q.0.0 q.0.1 (a, i) (valid.sound.paired.back a i q.0.0 q.0.1 q.1) in
      let t = both_ports s name naming a i q.0.0 q.0.1 l q.1 (λ p. valid.sound.paired.apart a i (q.1 ∙ (λ z. Some (sym p.0 z, sym p.1 z)))) (ports_of s xs) (are_on s xs) in
      let e = once_on s a i l xs distinct (all a i l) in
      let f = once_on s q.0.0 q.0.1 k xs distinct (all q.0.0 q.0.1 k) in
      omega (arith, t, e, f)

  links_twice : EachTwice (links_on s xs name)
  links_twice x = subst (λ ls. (count_by (λ y. x == y) ls ≡ 0) ⊎ (count_by (λ y. x == y) ls ≡ 2)) (names_on s name xs) (by (stands s name x (ports_of s xs) (are_on s xs)))
    where
      by : (tally x (map (by_port name) (ports_of s xs)) ≡ 0) ⊎ ((p : ℕ × ℕ) × (name p.0 p.1 ≡ x) × (p.1 < arity_of s p.0))
          → (count_by (λ y. x == y) (map (by_port name) (ports_of s xs)) ≡ 0) ⊎ (count_by (λ y. x == y) (map (by_port name) (ports_of s xs)) ≡ 2)
      by (inl z) = inl (sym (tally_is x (map (by_port name) (ports_of s xs))) ∙ z)
      by (inr r) = inr (sym (tally_is x (map (by_port name) (ports_of s xs))) ∙ subst (λ y. tally y (map (by_port name) (ports_of s xs)) ≡ 2) r.1 (port_twice r.0.0 r.0.1 r.2))

-- Each atom of the solid.

module _ (s : Heap) (valid : Valid s) (name : ℕ → ℕ → ℕ) where
  each_atom : (P : SolidAtom → Type 0) → ((a : ℕ) (x : HeapAtom) → s.atoms a ≡ Some x → P (record { functor = x.functor; links = links_from name a 0 x.functor.arity })) → (xs : List ℕ) → All P (solid_atoms_at s name xs)
  each_atom P h [] = All-nil P
  each_atom P h (a ∷ xs) = All-append P (solid_atom_at name a (s.atoms a)) (solid_atoms_at s name xs) (by (s.atoms a) refl) (each_atom P h xs)
    where
      by : (o : Option HeapAtom) → s.atoms a ≡ o → All P (solid_atom_at name a o)
      by None e = All-nil P
      by (Some x) e = All-cons P (record { functor = x.functor; links = links_from name a 0 x.functor.arity }) [] (h a x e) (All-nil P)

  with_arities : (xs : List ℕ) → All (λ a. length a.links ≡ a.functor.arity) (solid_atoms_at s name xs)
  with_arities = each_atom (λ a. length a.links ≡ a.functor.arity) (λ a x e. length_numbered name a 0 x.functor.arity)

  no_connectors : (xs : List ℕ) → All (λ a. a.functor ≢ connector) (solid_atoms_at s name xs)
  no_connectors =
      each_atom (λ a. a.functor ≢ connector)
      (λ a x e f. valid.no_connector a (valid.settled.atoms a (subst IsSome (sym e) refl)) (ap (option_map (λ (y : HeapAtom). y.functor)) e ∙ ap Some f))

-- the solid of a heap is a solid: each link stands in two places, each atom has its links
pub heap_solids_are_solids : HeapSolidsAreSolids
heap_solids_are_solids s x valid of =
    let xs = printed_atoms s (flat of.forest) in
    let atoms : solid_atoms_at s of.name xs ≡ solids.atoms_of_region x.root = sym (solid_atoms s valid.sound of.name of.forest x.root of.root) in
    let links : links_on s xs of.name ≡ solids.links_of_region x.root = sym (solid_links s valid.sound of.name of.forest x.root of.root) in
    record {
      arities = subst (All (λ (a : SolidAtom). length a.links ≡ a.functor.arity)) atoms (with_arities s valid of.name xs);
      no_connector = subst (All (λ (a : SolidAtom). a.functor ≢ connector)) atoms (no_connectors s valid of.name xs);
      closed = subst EachTwice links (links_twice s valid of.name of.naming xs (printed_once s valid.sound (flat of.forest) of.tree.once) (λ a i l. printed_all s valid of.forest of.tree a (port_there s a i l)));
      numbered = (of.count, of.numbers);
    }
