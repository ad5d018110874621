-- Joining and parting keep ports paired: each that has a partner is its partner's, and not its own.
use Rattle.std.proofs.Common.{◌≡◌, ◌⊎◌, ℕ, zero, suc, ◌<◌, ◌+◌, List, [], ◌∷◌, length, set, get_or, Option, Some, None, refl, sym, ap, subst, ◌∙◌, inl, inr, arith, get_or-set_same, get_or-set_other, length-set}
use Rattle.std.proofs.lemmas.Bool.{cases_eq}
use Rattle.std.specs.Option.{option_map}
use Rattle.lmn_web_cells.specs.Cells.{HeldPort, HeldCell, ports_of, port_of, no_port as nothing_set}
use Rattle.lmn_web_cells.specs.Ports.{partner_by, partner_in, with_partner, linked, cleared, joined, parted, IsPort, Reaches, Paired}
use Rattle.lmn_store_heap.proofs.Listing.{alter_at, alter_away}
use Rattle.lmn_web_cells.proofs.PortLemmas.{linked_ports, cleared_ports}
use Rattle.lmn_store_heap.proofs.Ports.{SamePort, same_port}

-- the port of a cell that gets a partner
at_set : (c : HeldCell) (i : ℕ) (p : Option (ℕ × ℕ)) → i < length c.ports → partner_by (port_of (Some (with_partner i p c)) i) ≡ p
at_set c i None low = ap partner_by (get_or-set_same c.ports i (record (get_or c.ports i nothing_set) { to = None }) nothing_set low)
at_set c i (Some p) low =
    let one = set c.ports i (record (get_or c.ports i nothing_set) { to = Some p.0 }) in
    ap partner_by (get_or-set_same one i (record (get_or one i nothing_set) { port = p.1 }) nothing_set (subst (λ n. i < n) (sym (length-set c.ports i _)) low))
    ∙ ap (λ (x : HeldPort). option_map (λ b. (b, p.1)) x.to) (get_or-set_same c.ports i (record (get_or c.ports i nothing_set) { to = Some p.0 }) nothing_set low)

-- the other ports of that cell
beside_set : (c : HeldCell) (i : ℕ) (p : Option (ℕ × ℕ)) (k : ℕ) → (k ≡ i → ⊥) → port_of (Some (with_partner i p c)) k ≡ port_of (Some c) k
beside_set c i None k d = get_or-set_other c.ports i k _ nothing_set (λ e. d e)
beside_set c i (Some p) k d = get_or-set_other (set c.ports i _) i k _ nothing_set (λ e. d e) ∙ get_or-set_other c.ports i k _ nothing_set (λ e. d e)

cell_at : (f : ℕ → Option HeldCell) (a i : ℕ) (p : Option (ℕ × ℕ)) → linked f a i p a ≡ option_map (with_partner i p) (f a)
cell_at f a i p = alter_at f a (option_map (with_partner i p))

-- the port itself
pub linked_same : (f : ℕ → Option HeldCell) (a i : ℕ) (p : Option (ℕ × ℕ)) → IsPort f a i → partner_in (linked f a i p) a i ≡ p
linked_same f a i p h = ap (λ (o : Option HeldCell). partner_by (port_of o i)) (cell_at f a i p) ∙ by (f a) h
  where
    by : (o : Option HeldCell) → i < length (ports_of o) → partner_by (port_of (option_map (with_partner i p) o) i) ≡ p
    by None l = absurd (omega (arith, l))
    by (Some c) l = at_set c i p l

-- a cleared port has no partner, whether or not there is such a port
pub linked_none : (f : ℕ → Option HeldCell) (a i : ℕ) → partner_in (linked f a i None) a i ≡ None
linked_none f a i = ap (λ (o : Option HeldCell). partner_by (port_of o i)) (cell_at f a i None) ∙ by (f a)
  where
    none_set : (xs : List HeldPort) (i : ℕ) → partner_by (get_or (set xs i (record (get_or xs i nothing_set) { to = None })) i nothing_set) ≡ None
    none_set [] i = refl
    none_set (x ∷ xs) zero = refl
    none_set (x ∷ xs) (suc i) = none_set xs i

    by : (o : Option HeldCell) → partner_by (port_of (option_map (with_partner i None) o) i) ≡ None
    by None = refl
    by (Some c) = none_set c.ports i

-- the other ports
pub linked_other : (f : ℕ → Option HeldCell) (a i : ℕ) (p : Option (ℕ × ℕ)) (c k : ℕ) → (SamePort c k a i → ⊥) → partner_in (linked f a i p) c k ≡ partner_in f c k
linked_other f a i p c k d =
    elim (cases_eq c a) [
      | inl e ↦ subst (λ z. partner_in (linked f a i p) z k ≡ partner_in f z k) (sym e) (ap (λ (o : Option HeldCell). partner_by (port_of o k)) (cell_at f a i p) ∙ by (f a) (λ h. d (e, h)))
      | inr w ↦ ap (λ (o : Option HeldCell). partner_by (port_of o k)) (alter_away f a (option_map (with_partner i p)) c w)
    ]
  where
    by : (o : Option HeldCell) → (k ≡ i → ⊥) → partner_by (port_of (option_map (with_partner i p) o) k) ≡ partner_by (port_of o k)
    by None n = refl
    by (Some x) n = ap partner_by (beside_set x i p k n)

-- the port that loses its partner has none, the others keep theirs
pub cleared_at : (f : ℕ → Option HeldCell) (q : Option (ℕ × ℕ)) (c k : ℕ) → ((q ≡ Some (c, k)) × (partner_in (cleared f q) c k ≡ None)) ⊎ ((q ≡ Some (c, k) → ⊥) × (partner_in (cleared f q) c k ≡ partner_in f c k))
cleared_at f None c k = inr (λ e. absurd (cc), refl)
cleared_at f (Some q) c k =
    elim (same_port c k q.0 q.1) [
      | inl e ↦ inl (λ i. Some (sym e.0 i, sym e.1 i), rw (e.0, e.1) (linked_none f q.0 q.1))
      | inr d ↦ inr (λ (h : ◌≡◌ {A = Option (ℕ × ℕ)} (Some q) (Some (c, k))). d (cc, cc), linked_other f q.0 q.1 None c k d)
    ]

-- what a port is joined to after a join: A, B, or what it had, or none
module _ (s : ℕ → Option HeldCell) (a i b j : ℕ) (ra : IsPort s a i) (rb : IsPort s b j) (differ : SamePort a i b j → ⊥) where
  abbrev f2 : ℕ → Option HeldCell
  f2 = cleared (cleared s (partner_in s a i)) (partner_in s b j)

  abbrev f3 : ℕ → Option HeldCell
  f3 = linked f2 a i (Some (b, j))

  two : (c k : ℕ) → IsPort s c k → IsPort f2 c k
  two c k l = cleared_ports (cleared s (partner_in s a i)) (partner_in s b j) c k (cleared_ports s (partner_in s a i) c k l)

  three : (c k : ℕ) → IsPort s c k → IsPort f3 c k
  three c k l = linked_ports f2 a i (Some (b, j)) c k (two c k l)

  joined_ports : (c k : ℕ) → IsPort s c k → IsPort (joined s a i b j) c k
  joined_ports c k l = linked_ports f3 b j (Some (a, i)) c k (three c k l)

  joined_b : partner_in (joined s a i b j) b j ≡ Some (a, i)
  joined_b = linked_same f3 b j (Some (a, i)) (three b j rb)

  joined_a : partner_in (joined s a i b j) a i ≡ Some (b, j)
  joined_a = linked_other f3 b j (Some (a, i)) a i differ ∙ linked_same f2 a i (Some (b, j)) (two a i ra)

  -- another port keeps its partner, unless its partner was one of the two
  pub joined_other : (c k : ℕ) → (SamePort c k a i → ⊥) → (SamePort c k b j → ⊥)
      → (((partner_in s a i ≡ Some (c, k)) ⊎ (partner_in s b j ≡ Some (c, k))) × (partner_in (joined s a i b j) c k ≡ None))
      ⊎ ((partner_in s a i ≡ Some (c, k) → ⊥) × (partner_in s b j ≡ Some (c, k) → ⊥) × (partner_in (joined s a i b j) c k ≡ partner_in s c k))
  joined_other c k na nb =
      let e : partner_in (joined s a i b j) c k ≡ partner_in f2 c k = linked_other f3 b j (Some (a, i)) c k nb ∙ linked_other f2 a i (Some (b, j)) c k na in
      elim (cleared_at (cleared s (partner_in s a i)) (partner_in s b j) c k) [
        | inl w ↦ inl (inr w.0, e ∙ w.1)
        | inr w ↦ elim (cleared_at s (partner_in s a i) c k) [
          | inl v ↦ inl (inl v.0, e ∙ w.1 ∙ v.1)
          | inr v ↦ inr (v.0, w.0, e ∙ w.1 ∙ v.1)
        ]
      ]

  module _ (sound : Paired s) where
    at_port : (c k d l : ℕ) → SamePort c k d l → partner_in (joined s a i b j) c k ≡ partner_in (joined s a i b j) d l
    at_port c k d l w = ap (λ (p : ℕ × ℕ). partner_in (joined s a i b j) p.0 p.1) (λ t. (w.0 t, w.1 t))

    as_port : (c k d l : ℕ) → SamePort c k d l → ◌≡◌ {A = Option (ℕ × ℕ)} (Some (c, k)) (Some (d, l))
    as_port c k d l w = λ t. Some (w.0 t, w.1 t)

    of_port : (c k d l : ℕ) → ◌≡◌ {A = Option (ℕ × ℕ)} (Some (c, k)) (Some (d, l)) → SamePort c k d l
    of_port c k d l h = let g : ◌≡◌ {A = ℕ × ℕ} (c, k) (d, l) = (cc) in (ap (λ (p : ℕ × ℕ). p.0) g, ap (λ (p : ℕ × ℕ). p.1) g)

    no_port : (c k : ℕ) → ◌≡◌ {A = Option (ℕ × ℕ)} None (Some (c, k)) → ⊥
    no_port c k h = absurd (cc)

    joined_back : (c k d l : ℕ) → partner_in (joined s a i b j) c k ≡ Some (d, l) → partner_in (joined s a i b j) d l ≡ Some (c, k)
    joined_back c k d l e =
        elim (same_port c k b j) [
          | inl w ↦ (let h = of_port a i d l (sym joined_b ∙ sym (at_port c k b j w) ∙ e) in
              at_port d l a i (sym h.0, sym h.1) ∙ joined_a ∙ sym (as_port c k b j w))
          | inr nb ↦ elim (same_port c k a i) [
            | inl w ↦ (let h = of_port b j d l (sym joined_a ∙ sym (at_port c k a i w) ∙ e) in
                at_port d l b j (sym h.0, sym h.1) ∙ joined_b ∙ sym (as_port c k a i w))
            | inr na ↦ elim (joined_other c k na nb) [
              | inl w ↦ absurd (no_port d l (sym w.1 ∙ e))
              | inr w ↦ (let old : partner_in s c k ≡ Some (d, l) = sym w.2 ∙ e in
                  let back : partner_in s d l ≡ Some (c, k) = sound.back c k d l old in
                  let from_port : (x y : ℕ) → SamePort d l x y → partner_in s x y ≡ Some (c, k) = λ x y v. sym (ap (λ (p : ℕ × ℕ). partner_in s p.0 p.1) (λ t. (v.0 t, v.1 t))) ∙ back in
                  elim (joined_other d l (λ v. w.0 (from_port a i v)) (λ v. w.1 (from_port b j v))) [
                    | inl v ↦ absurd (elim v.0 [
                      | inl q ↦ na (of_port c k a i (sym back ∙ sound.back a i d l q))
                      | inr q ↦ nb (of_port c k b j (sym back ∙ sound.back b j d l q))
                    ])
                    | inr v ↦ v.2 ∙ back
                  ])
            ]
          ]
        ]

    joined_apart : (c k : ℕ) → partner_in (joined s a i b j) c k ≡ Some (c, k) → ⊥
    joined_apart c k e =
        elim (same_port c k b j) [
          | inl w ↦ (let h = of_port a i c k (sym joined_b ∙ sym (at_port c k b j w) ∙ e) in differ (h.0 ∙ w.0, h.1 ∙ w.1))
          | inr nb ↦ elim (same_port c k a i) [
            | inl w ↦ (let h = of_port b j c k (sym joined_a ∙ sym (at_port c k a i w) ∙ e) in nb (sym h.0, sym h.1))
            | inr na ↦ elim (joined_other c k na nb) [ inl w ↦ no_port c k (sym w.1 ∙ e) | inr w ↦ sound.apart c k (sym w.2 ∙ e) ]
          ]
        ]

    -- two ports that were joined keep all paired
    pub joined_paired : Paired (joined s a i b j)
    joined_paired = record { back = joined_back; apart = joined_apart }

  -- and each partner is a port
  pub joined_reaches : Reaches s → Reaches (joined s a i b j)
  joined_reaches h c k d l e =
      joined_ports d l (elim (same_port c k b j) [
        | inl w ↦ (let g : ◌≡◌ {A = Option (ℕ × ℕ)} (Some (a, i)) (Some (d, l)) = sym joined_b ∙ sym (ap (λ (p : ℕ × ℕ). partner_in (joined s a i b j) p.0 p.1) (λ t. (w.0 t, w.1 t))) ∙ e in
            let q : ◌≡◌ {A = ℕ × ℕ} (a, i) (d, l) = (cc) in subst (λ (p : ℕ × ℕ). IsPort s p.0 p.1) q ra)
        | inr nb ↦ elim (same_port c k a i) [
          | inl w ↦ (let g : ◌≡◌ {A = Option (ℕ × ℕ)} (Some (b, j)) (Some (d, l)) = sym joined_a ∙ sym (ap (λ (p : ℕ × ℕ). partner_in (joined s a i b j) p.0 p.1) (λ t. (w.0 t, w.1 t))) ∙ e in
              let q : ◌≡◌ {A = ℕ × ℕ} (b, j) (d, l) = (cc) in subst (λ (p : ℕ × ℕ). IsPort s p.0 p.1) q rb)
          | inr na ↦ elim (joined_other c k na nb) [
            | inl w ↦ absurd (by (sym w.1 ∙ e))
            | inr w ↦ h c k d l (sym w.2 ∙ e)
          ]
        ]
      ])
    where
      by : ◌≡◌ {A = Option (ℕ × ℕ)} None (Some (d, l)) → ⊥
      by g = absurd (cc)

-- after a parting the port and its partner have none, and the others what they had
module _ (s : ℕ → Option HeldCell) (a i : ℕ) where
  abbrev g1 : ℕ → Option HeldCell
  g1 = cleared s (partner_in s a i)

  parted_at : (c k : ℕ) → ((SamePort c k a i ⊎ (partner_in s a i ≡ Some (c, k))) × (partner_in (parted s a i) c k ≡ None))
      ⊎ ((SamePort c k a i → ⊥) × (partner_in s a i ≡ Some (c, k) → ⊥) × (partner_in (parted s a i) c k ≡ partner_in s c k))
  parted_at c k =
      elim (same_port c k a i) [
        | inl w ↦ inl (inl w, ap (λ (p : ℕ × ℕ). partner_in (parted s a i) p.0 p.1) (λ t. (w.0 t, w.1 t)) ∙ linked_none g1 a i)
        | inr n ↦ (let e : partner_in (parted s a i) c k ≡ partner_in g1 c k = linked_other g1 a i None c k n in
            elim (cleared_at s (partner_in s a i) c k) [
              | inl w ↦ inl (inr w.0, e ∙ w.1)
              | inr w ↦ inr (n, w.0, e ∙ w.1)
            ])
      ]

  none_some : (c k : ℕ) → ◌≡◌ {A = Option (ℕ × ℕ)} None (Some (c, k)) → ⊥
  none_some c k h = absurd (cc)

  one_port : (c k d l : ℕ) → ◌≡◌ {A = Option (ℕ × ℕ)} (Some (c, k)) (Some (d, l)) → SamePort c k d l
  one_port c k d l h = let g : ◌≡◌ {A = ℕ × ℕ} (c, k) (d, l) = (cc) in (ap (λ (p : ℕ × ℕ). p.0) g, ap (λ (p : ℕ × ℕ). p.1) g)

  parted_back : Paired s → (c k d l : ℕ) → partner_in (parted s a i) c k ≡ Some (d, l) → partner_in (parted s a i) d l ≡ Some (c, k)
  parted_back sound c k d l e =
      elim (parted_at c k) [
        | inl w ↦ absurd (none_some d l (sym w.1 ∙ e))
        | inr w ↦ (let back : partner_in s d l ≡ Some (c, k) = sound.back c k d l (sym w.2 ∙ e) in
            elim (parted_at d l) [
              | inl v ↦ absurd (elim v.0 [
                | inl q ↦ w.1 (sym (ap (λ (p : ℕ × ℕ). partner_in s p.0 p.1) (λ t. (q.0 t, q.1 t))) ∙ back)
                | inr q ↦ w.0 (one_port c k a i (sym back ∙ sound.back a i d l q))
              ])
              | inr v ↦ v.2 ∙ back
            ])
      ]

  parted_apart : Paired s → (c k : ℕ) → partner_in (parted s a i) c k ≡ Some (c, k) → ⊥
  parted_apart sound c k e = elim (parted_at c k) [ inl w ↦ none_some c k (sym w.1 ∙ e) | inr w ↦ sound.apart c k (sym w.2 ∙ e) ]

  -- a port that was split keeps all paired
  pub parted_paired : Paired s → Paired (parted s a i)
  parted_paired sound = record { back = parted_back sound; apart = parted_apart sound }

  -- and each partner is a port
  pub parted_reaches : Reaches s → Reaches (parted s a i)
  parted_reaches h c k d l e =
      linked_ports g1 a i None d l (cleared_ports s (partner_in s a i) d l (elim (parted_at c k) [
        | inl w ↦ absurd (none_some d l (sym w.1 ∙ e))
        | inr w ↦ h c k d l (sym w.2 ∙ e)
      ]))

-- the first ports of a cell have no partner any more
pub record Parting (old f : ℕ → Option HeldCell) (c count i : ℕ) : Type 0 where
  pub ports : (k : ℕ) → k < count → IsPort f c k
  pub reaches : Reaches f
  pub paired : Paired old → Paired f
  pub alone : (k : ℕ) → k < i → partner_in f c k ≡ None

-- before the first port is split
pub parting_begin : (old : ℕ → Option HeldCell) (c count : ℕ) → ((k : ℕ) → k < count → IsPort old c k) → Reaches old → Parting old old c count 0
parting_begin old c count ports reaches = record { ports = ports; reaches = reaches; paired = λ p. p; alone = λ k l. absurd (omega (arith, l)) }

-- after one more port was split
pub parting_step : (old f g : ℕ → Option HeldCell) (c count i : ℕ) → Parting old f c count i → i < count → g ≡ parted f c i → Parting old g c count (i + 1)
parting_step old f g c count i s low e =
    subst (λ (h : ℕ → Option HeldCell). Parting old h c count (i + 1)) (sym e) (record {
      ports = λ k l. linked_ports (cleared f (partner_in f c i)) c i None c k (cleared_ports f (partner_in f c i) c k (s.ports k l));
      reaches = parted_reaches f c i s.reaches;
      paired = λ p. parted_paired f c i (s.paired p);
      alone = λ k l. elim (parted_at f c i c k) [
        | inl w ↦ w.1
        | inr w ↦ w.2 ∙ s.alone k (elim (cases_eq k i) [
          | inl z ↦ absurd (w.0 ((λ t. c), z))
          | inr d ↦ omega (arith, l, d)
        ])
      ];
    })
