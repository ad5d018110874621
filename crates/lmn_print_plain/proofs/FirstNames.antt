-- The links of a heap can be numbered by first occurrence at its ports, and in one way only.
use Rattle.std.proofs.Common.{◌≡◌, ℕ, zero, suc, ◌+◌, ◌-◌, ◌<◌, ◌≤◌, ◌⊎◌, inl, inr, List, [], ◌∷◌, ◌++◌, map, Some, refl, sym, ap, ◌∙◌, subst, arith}
use Rattle.std.proofs.lemmas.Bool.{cases_eq}
use Rattle.std.proofs.lemmas.List.{map-append}
use Rattle.lmn_base.specs.Links.{Numbers, no_more, known, new}
use Rattle.lmn_store_heap.specs.Heap.{Heap, arity_of, link_of}
use Rattle.lmn_store_heap.specs.Solid.{IsNaming}
use Rattle.lmn_store_heap.specs.Sound.{Paired}
use Rattle.lmn_store_heap.proofs.Ports.{SamePort, same_port}
use Rattle.lmn_print_plain.specs.Numbers.{links_at_ports, links_on}
use Rattle.lmn_print_plain.proofs.NumberLemmas.{joined_or_not}
use Rattle.lmn_base.proofs.Common.{numbers_head}
use Rattle.lmn_store_heap.proofs.Common.{same_port as same_ports}
use Rattle.lmn_ground_parts.specs.Copies.{ports_of}
use Rattle.lmn_ground_parts.specs.Walks.{port_range}
use Rattle.lmn_ground_parts.proofs.WalkLaws.{by_port, ports_named}
use Rattle.lmn_base.specs.Lists.{In}

-- Ports in a row.

-- the port is one of them
abbrev pub Has : ℕ → ℕ → List (ℕ × ℕ) → Type 0
Has a i [] = ⊥
Has a i (p ∷ ps) = SamePort p.0 p.1 a i ⊎ Has a i ps

-- the names of the ports of atoms are their links
pub names_on : (s : Heap) (name : ℕ → ℕ → ℕ) (xs : List ℕ) → map (by_port name) (ports_of s xs) ≡ links_on s xs name
names_on s name [] = refl
names_on s name (a ∷ xs) =
    map-append (by_port name) (port_range a 0 (arity_of s a)) (ports_of s xs)
    ∙ ap (λ ys. ys ++ map (by_port name) (ports_of s xs)) (ports_named name a 0 (arity_of s a)) ∙ ap (λ ys. links_at_ports s a name ++ ys) (names_on s name xs)

has_left : (a i : ℕ) (ps qs : List (ℕ × ℕ)) → Has a i ps → Has a i (ps ++ qs)
has_left a i [] qs h = absurd h
has_left a i (p ∷ ps) qs (inl e) = inl e
has_left a i (p ∷ ps) qs (inr h) = inr (has_left a i ps qs h)

has_right : (a i : ℕ) (ps qs : List (ℕ × ℕ)) → Has a i qs → Has a i (ps ++ qs)
has_right a i [] qs h = h
has_right a i (p ∷ ps) qs h = inr (has_right a i ps qs h)

has_from : (a j n i : ℕ) → i < n → Has a (j + i) (port_range a j n)
has_from a j zero i l = absurd (omega (arith, l))
has_from a j (suc n) zero l = inl (refl, let e : j ≡ j + 0 = omega arith in e)
has_from a j (suc n) (suc i) l = inr (subst (λ k. Has a k (port_range a (j + 1) n)) (let e : j + 1 + i ≡ j + suc i = omega arith in e) (has_from a (j + 1) n i (omega (arith, l))))

-- each port of an atom of the list is one of these
pub has_on : (s : Heap) (xs : List ℕ) (a i : ℕ) → In a xs → i < arity_of s a → Has a i (ports_of s xs)
has_on s [] a i h l = absurd h
has_on s (b ∷ xs) a i (inl e) l =
    has_left a i (port_range b 0 (arity_of s b)) (ports_of s xs)
    (subst (λ c. Has a i (port_range c 0 (arity_of s c))) (sym e) (subst (λ k. Has a k (port_range a 0 (arity_of s a))) (let z : 0 + i ≡ i = omega arith in z) (has_from a 0 (arity_of s a) i l)))
has_on s (b ∷ xs) a i (inr h) l = has_right a i (port_range b 0 (arity_of s b)) (ports_of s xs) (has_on s xs a i h l)

-- There is a numbering.

-- Marks of ports: 0 where the link has no number yet, else greater by one than it. Those up to n are given.
record Marked (s : Heap) (f : ℕ → ℕ → ℕ) (n : ℕ) : Type 0 where
  pub joined : (a i b j : ℕ) → link_of s a i ≡ Some (b, j) → f a i ≡ f b j
  pub apart : (a i b j : ℕ) → 0 < f a i → f a i ≡ f b j → SamePort a i b j ⊎ (link_of s a i ≡ Some (b, j))
  pub low : (a i : ℕ) → f a i ≤ n

-- the marks once these ports have theirs
record Named (s : Heap) (f : ℕ → ℕ → ℕ) (n : ℕ) (ps : List (ℕ × ℕ)) : Type 0 where
  pub to : ℕ → ℕ → ℕ
  pub end : ℕ
  pub marks : Marked s to end
  pub stays : (a i : ℕ) → 0 < f a i → to a i ≡ f a i
  pub named : (a i : ℕ) → Has a i ps → 0 < to a i
  pub numbers : Numbers n (map (by_port (λ a i. to a i - 1)) ps) end

pick : {A B : Type 0} → A ⊎ (A → ⊥) → B ⊎ (B → ⊥) → ℕ → ℕ → ℕ
pick (inl a) y u v = u
pick (inr d) (inl b) u v = u
pick (inr d) (inr e) u v = v

picked : {A B : Type 0} (x : A ⊎ (A → ⊥)) (y : B ⊎ (B → ⊥)) (u v : ℕ) → ((A ⊎ B) × (pick x y u v ≡ u)) ⊎ ((A ⊎ B → ⊥) × (pick x y u v ≡ v))
unfolding pick
picked (inl a) y u v = inl (inl a, refl)
picked (inr d) (inl b) u v = inl (inr b, refl)
picked (inr d) (inr e) u v = inr (none d e, refl)
  where
    none : {A B : Type 0} → (A → ⊥) → (B → ⊥) → A ⊎ B → ⊥
    none d e (inl a) = d a
    none d e (inr b) = e b

-- a port without mark gets the next one, with its partner
module _ (s : Heap) (paired : Paired s) (a i : ℕ) where
  abbrev Near : ℕ → ℕ → Type 0
  Near c k = SamePort c k a i ⊎ (link_of s c k ≡ Some (a, i))

  abbrev with_next : (ℕ → ℕ → ℕ) → ℕ → ℕ → ℕ → ℕ
  with_next f n c k = pick (same_port c k a i) (joined_or_not (link_of s c k) a i) (suc n) (f c k)

  by_next : (f : ℕ → ℕ → ℕ) (n c k : ℕ) → (Near c k × (with_next f n c k ≡ suc n)) ⊎ ((Near c k → ⊥) × (with_next f n c k ≡ f c k))
  by_next f n c k = picked (same_port c k a i) (joined_or_not (link_of s c k) a i) (suc n) (f c k)

  -- the partner of a near port is near
  near_partner : (c k d l : ℕ) → link_of s c k ≡ Some (d, l) → Near c k → Near d l
  near_partner c k d l e (inl p) = inr (paired.back a i d l (sym (ap (λ x. link_of s x k) p.0 ∙ ap (link_of s a) p.1) ∙ e))
  near_partner c k d l e (inr q) = let p = same_ports (sym q ∙ e) in inl (sym p.0, sym p.1)

  near_apart : (c k d l : ℕ) → Near c k → Near d l → SamePort c k d l ⊎ (link_of s c k ≡ Some (d, l))
  near_apart c k d l (inl p) (inl q) = inl (p.0 ∙ sym q.0, p.1 ∙ sym q.1)
  near_apart c k d l (inl p) (inr q) = inr (ap (λ x. link_of s x k) p.0 ∙ ap (link_of s a) p.1 ∙ paired.back d l a i q)
  near_apart c k d l (inr p) (inl q) = inr (p ∙ (λ z. Some (sym q.0 z, sym q.1 z)))
  near_apart c k d l (inr p) (inr q) = inl (same_ports (sym (paired.back c k a i p) ∙ paired.back d l a i q))

  module _ (f : ℕ → ℕ → ℕ) (n : ℕ) (m : Marked s f n) (fresh : f a i ≡ 0) where
    -- near ports had no mark
    near_fresh : (c k : ℕ) → Near c k → f c k ≡ 0
    near_fresh c k (inl p) = ap (λ x. f x k) p.0 ∙ ap (f a) p.1 ∙ fresh
    near_fresh c k (inr q) = m.joined c k a i q ∙ fresh

    next_here : with_next f n a i ≡ suc n
    next_here = elim (by_next f n a i) [ inl h ↦ h.1 | inr h ↦ absurd (h.0 (inl (refl, refl))) ]

    next_stays : (c k : ℕ) → 0 < f c k → with_next f n c k ≡ f c k
    next_stays c k l = elim (by_next f n c k) [
      | inl h ↦ (let e = near_fresh c k h.0 in absurd (omega (arith, l, e)))
      | inr h ↦ h.1
    ]

    next_marked : Marked s (with_next f n) (suc n)
    next_marked = record {
      joined = λ c k d l e. elim (by_next f n c k) [
        | inl h ↦ elim (by_next f n d l) [ inl g ↦ h.1 ∙ sym g.1 | inr g ↦ absurd (g.0 (near_partner c k d l e h.0)) ]
        | inr h ↦ elim (by_next f n d l) [ inl g ↦ absurd (h.0 (near_partner d l c k (paired.back c k d l e) g.0)) | inr g ↦ h.1 ∙ m.joined c k d l e ∙ sym g.1 ]
      ];
      apart = λ c k d l p e. elim (by_next f n c k) [
        | inl h ↦ elim (by_next f n d l) [
          | inl g ↦ near_apart c k d l h.0 g.0
          | inr g ↦ (let low = m.low d l in let x = h.1 in let y = g.1 in absurd (omega (arith, low, x, y, e)))
        ]
        | inr h ↦ elim (by_next f n d l) [
          | inl g ↦ (let low = m.low c k in let x = h.1 in let y = g.1 in absurd (omega (arith, low, x, y, e)))
          | inr g ↦ m.apart c k d l (subst (λ z. 0 < z) h.1 p) (sym h.1 ∙ e ∙ g.1)
        ]
      ];
      low = λ c k. elim (by_next f n c k) [
        | inl h ↦ (let x = h.1 in omega (arith, x))
        | inr h ↦ (let low = m.low c k in let x = h.1 in omega (arith, low, x))
      ];
    }

at_same : (to : ℕ → ℕ → ℕ) (a i b j : ℕ) → SamePort a i b j → 0 < to a i → 0 < to b j
at_same to a i b j p l = subst (λ z. 0 < z) (ap (λ x. to x i) p.0 ∙ ap (to b) p.1) l

name_ports : (s : Heap) → Paired s → (ps : List (ℕ × ℕ)) (f : ℕ → ℕ → ℕ) (n : ℕ) → Marked s f n → Named s f n ps
name_ports s paired [] f n m = record { to = f; end = n; marks = m; stays = λ a i l. refl; named = λ a i h. absurd h; numbers = no_more }
name_ports s paired (p ∷ ps) f n m = elim (cases_eq (f p.0 p.1) 0) [
  | inl e ↦ first e (name_ports s paired ps (with_next s paired p.0 p.1 f n) (suc n) (next_marked s paired p.0 p.1 f n m e))
  | inr d ↦ again (let l : 0 < f p.0 p.1 = omega (arith, d) in l) (name_ports s paired ps f n m)
]
  where
    again : 0 < f p.0 p.1 → Named s f n ps → Named s f n (p ∷ ps)
    again l r = record {
      to = r.to;
      end = r.end;
      marks = r.marks;
      stays = r.stays;
      named = λ a i h. elim h [ inl q ↦ at_same r.to p.0 p.1 a i q (let e = r.stays p.0 p.1 l in omega (arith, e, l)) | inr k ↦ r.named a i k ];
      numbers = known (let e = r.stays p.0 p.1 l in let low = m.low p.0 p.1 in omega (arith, e, low, l)) r.numbers;
    }

    first : f p.0 p.1 ≡ 0 → Named s (with_next s paired p.0 p.1 f n) (suc n) ps → Named s f n (p ∷ ps)
    first e r =
        let here : r.to p.0 p.1 ≡ suc n =
        (let g = next_here s paired p.0 p.1 f n m e in r.stays p.0 p.1 (subst (λ z. 0 < z) (sym g) (omega arith)) ∙ g) in
        record {
          to = r.to;
          end = r.end;
          marks = r.marks;
          stays = λ a i l. let g = next_stays s paired p.0 p.1 f n m e a i l in r.stays a i (subst (λ z. 0 < z) (sym g) l) ∙ g;
          named = λ a i h. elim h [ inl q ↦ at_same r.to p.0 p.1 a i q (omega (arith, here)) | inr k ↦ r.named a i k ];
          numbers = subst (λ x. Numbers n (x ∷ map (by_port (λ a i. r.to a i - 1)) ps) r.end) (let g : n ≡ r.to p.0 p.1 - 1 = omega (arith, here) in g) (new r.numbers);
        }

-- a naming of all links by first occurrence at some ports, where these are all
pub record FirstNaming (s : Heap) (ps : List (ℕ × ℕ)) : Type 0 where
  pub name : ℕ → ℕ → ℕ
  pub naming : IsNaming s name
  pub count : ℕ
  pub numbers : Numbers 0 (map (by_port name) ps) count

-- each list of all ports has names by first occurrence
pub first_naming : (s : Heap) → Paired s → (ps : List (ℕ × ℕ)) → ((a i : ℕ) → i < arity_of s a → Has a i ps) → FirstNaming s ps
first_naming s paired ps all = by (name_ports s paired ps (λ a i. 0) 0 (record { joined = λ a i b j e. refl; apart = λ a i b j l e. absurd (omega (arith, l)); low = λ a i. omega arith }))
  where
    by : Named s (λ a i. 0) 0 ps → FirstNaming s ps
    by r = record {
      name = λ a i. r.to a i - 1;
      naming = record {
        joined = λ a i b j e. ap (λ x. x - 1) (r.marks.joined a i b j e);
        apart = λ a i b j l k e.
            let x = r.named a i (all a i l) in
            let y = r.named b j (all b j k) in
            r.marks.apart a i b j x (omega (arith, x, y, e));
      };
      count = r.end;
      numbers = r.numbers;
    }

-- There is one numbering only.

-- two namings have the same numbers below n, at the same ports
record Alike (s : Heap) (u v : ℕ → ℕ → ℕ) (n : ℕ) : Type 0 where
  pub there : (a i : ℕ) → i < arity_of s a → u a i < n → v a i ≡ u a i
  pub back : (a i : ℕ) → i < arity_of s a → v a i < n → u a i ≡ v a i

-- each port of the list is one of the heap
abbrev pub ArePorts : Heap → List (ℕ × ℕ) → Type 0
ArePorts s [] = Unit {0}
ArePorts s (p ∷ ps) = (p.1 < arity_of s p.0) × ArePorts s ps

module _ (s : Heap) (u v : ℕ → ℕ → ℕ) (nu : IsNaming s u) (nv : IsNaming s v) where
  -- a port with the number n under one naming has it under the other
  carried : (w z : ℕ → ℕ → ℕ) → IsNaming s w → IsNaming s z → (a i b j n : ℕ) → i < arity_of s a → j < arity_of s b → w a i ≡ n → z a i ≡ n → w b j ≡ n → z b j ≡ n
  carried w z nw nz a i b j n l k e f g = elim (nw.apart a i b j l k (e ∙ sym g)) [
    | inl p ↦ sym (ap (λ x. z x i) p.0 ∙ ap (z b) p.1) ∙ f
    | inr q ↦ sym (nz.joined a i b j q) ∙ f
  ]

  alike_more : (n a i : ℕ) → i < arity_of s a → Alike s u v n → u a i ≡ n → v a i ≡ n → Alike s u v (suc n)
  alike_more n a i l h e f = record {
    there = λ b j k m. elim (cases_eq (u b j) n) [
      | inl g ↦ carried u v nu nv a i b j n l k e f g ∙ sym g
      | inr d ↦ h.there b j k (omega (arith, m, d))
    ];
    back = λ b j k m. elim (cases_eq (v b j) n) [
      | inl g ↦ carried v u nv nu a i b j n l k f e g ∙ sym g
      | inr d ↦ h.back b j k (omega (arith, m, d))
    ];
  }

  alike_all : (ps : List (ℕ × ℕ)) (n m k : ℕ) → ArePorts s ps → Alike s u v n → Numbers n (map (by_port u) ps) m → Numbers n (map (by_port v) ps) k → Alike s u v m
  alike_all [] n m k are h no_more q = h
  alike_all (p ∷ ps) n m k are h x y = elim (numbers_head x) [
    | inl e ↦ elim (numbers_head y) [
      | inl g ↦ alike_all ps n m k are.1 h e.1 g.1
      | inr g ↦ (let t = h.there p.0 p.1 are.0 e.0 in let l = e.0 in let q = g.0 in absurd (omega (arith, t, l, q)))
    ]
    | inr e ↦ elim (numbers_head y) [
      | inl g ↦ (let t = h.back p.0 p.1 are.0 g.0 in let l = g.0 in let q = e.0 in absurd (omega (arith, t, l, q)))
      | inr g ↦ alike_all ps (suc n) m k are.1 (alike_more n p.0 p.1 are.0 h e.0 g.0) e.1 g.1
    ]
  ]

  none_alike : Alike s u v 0
  none_alike = record { there = λ a i l k. absurd (omega (arith, k)); back = λ a i l k. absurd (omega (arith, k)) }

  -- so both say the same of each port
  pub names_alike : (ps : List (ℕ × ℕ)) (m k : ℕ) → ArePorts s ps → Numbers 0 (map (by_port u) ps) m → Numbers 0 (map (by_port v) ps) k → (a i : ℕ) → i < arity_of s a → u a i < m → v a i ≡ u a i
  names_alike ps m k are x y = (alike_all ps 0 m k are none_alike x y).there

are_from : (s : Heap) (a i n : ℕ) → i + n ≤ arity_of s a → ArePorts s (port_range a i n)
are_from s a i zero l = tt
are_from s a i (suc n) l = (omega (arith, l), are_from s a (i + 1) n (omega (arith, l)))

are_append : (s : Heap) (ps qs : List (ℕ × ℕ)) → ArePorts s ps → ArePorts s qs → ArePorts s (ps ++ qs)
are_append s [] qs h k = k
are_append s (p ∷ ps) qs h k = (h.0, are_append s ps qs h.1 k)

-- the ports of atoms are ports
pub are_on : (s : Heap) (xs : List ℕ) → ArePorts s (ports_of s xs)
are_on s [] = tt
are_on s (a ∷ xs) = are_append s (port_range a 0 (arity_of s a)) (ports_of s xs) (are_from s a 0 (arity_of s a) (omega arith)) (are_on s xs)
