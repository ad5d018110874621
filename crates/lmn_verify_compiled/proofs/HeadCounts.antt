-- How often one port of the head stands in the head's code: once less than its link stands in the head.
use Rattle.std.proofs.Common.{◌≡◌, ◌≢◌, ◌≤◌, ◌+◌, ◌⊎◌, ◌==◌, ℕ, Bool, true, false, if◌then◌else◌, List, [], ◌∷◌, ◌++◌, map, inl, inr, refl, sym, ap, ◌∙◌, subst, arith}
use Rattle.std.specs.Prelude.{Option, Some, None, slice_get}
use Rattle.std.proofs.lemmas.Bool.{eq-eqb}
use Rattle.std.proofs.lemmas.Option.{same_Some}
use Rattle.lmn_base.proofs.Lists.{map_append}
use Rattle.lmn_base.proofs.Numbers.{same_or_not, not_equal, is_port}
use Rattle.lmn_base.specs.Graphs.{Port}
use Rattle.lmn_base.specs.declared.guard.Cond.{Cond}
use Rattle.lmn_solid_heads.specs.declared.items.HeadItem.{HeadItem}
use Rattle.lmn_solid_heads.specs.Heads.{HeadAtom, HeadTyped, Occurrence, atoms_of, typed_contexts_of, at_atoms, links_of_head, times}
use Rattle.lmn_solid_heads.specs.Embeddings.{HasLink}
use Rattle.lmn_solid_heads.proofs.Common.{times_append}
use Rattle.lmn_congruence_splice.specs.Splice.{IsOneOf, NoneTwice}
use Rattle.lmn_instr_code.specs.declared.instr.NewPort.{NewPort}
use Rattle.lmn_instr_code.specs.HeadCode.{find_port, head_code}
use Rattle.lmn_solid_bodies.proofs.HeadPorts.{at_atoms_once}
use Rattle.lmn_compile_head.specs.Heads.{IsHead}
use Rattle.lmn_compile_head.proofs.Places.{Has, has_either, occurs, find_found, find_missed, occurs_once, occurs_twice, stands_at, at_stands, same_pair}
use Rattle.lmn_verify_compiled.proofs.Counting.{stands}
use Rattle.lmn_verify_compiled.proofs.HeadStands.{hit, joins, pairs, part_hit, part_hits, find_front, head_stands}

-- ---- lists

abbrev pub links_at : List Occurrence → List ℕ
links_at os = map (λ (o : Occurrence). o.link) os

-- a port that occurs is one of the ports
pub in_ports : (y : ℕ) (p : Port) (os : List Occurrence) → Has (occurs y p) os → IsOneOf p (map (λ (o : Occurrence). o.port) os)
in_ports y p [] h = absurd h
in_ports y p (o ∷ os) (inl e) = inl (ap (λ (w : Occurrence). w.port) e)
in_ports y p (o ∷ os) (inr h) = inr (in_ports y p os h)

times_here : (x y : ℕ) (ys : List ℕ) → y ≡ x → times x (y ∷ ys) ≡ 1 + times x ys
times_here x y ys e = ap (λ b. (if b then 1 else 0) + times x ys) (eq-eqb y x e)

times_away : (x y : ℕ) (ys : List ℕ) → y ≢ x → times x (y ∷ ys) ≡ 0 + times x ys
times_away x y ys d = ap (λ b. (if b then 1 else 0) + times x ys) (not_equal y x d)

-- a link that isn't found doesn't stand there
missed : (x : ℕ) (os : List Occurrence) → find_port x os ≡ None → times x (links_at os) ≡ 0
missed x [] e = refl
missed x (o ∷ os) e = by (same_or_not o.link x) (missed x os)
  where
    by : (o.link ≡ x) ⊎ (o.link ≢ x) → (find_port x os ≡ None → times x (links_at os) ≡ 0) → times x (links_at (o ∷ os)) ≡ 0
    by (inl s) later = let found : Some o.port ≡ find_port x (o ∷ os) = sym (ap (λ b. if b then Some o.port else find_port x os) (eq-eqb o.link x s)) in let no : Some o.port ≡ None = found ∙ e in absurd (cc)
    by (inr d) later =
        let rest = later (sym (ap (λ b. if b then Some o.port else find_port x os) (not_equal o.link x d)) ∙ e) in
        let here = times_away x o.link (links_at os) d in
        omega (arith, rest, here)

-- behind others it is found where it stands
find_last : (x : ℕ) (os : List Occurrence) (o : Occurrence) (p : Port) → find_port x os ≡ None → o ≡ occurs x p → find_port x (os ++ o ∷ []) ≡ Some p
find_last x [] o p e s = ap (λ b. if b then Some o.port else None) (eq-eqb o.link x (ap (λ (w : Occurrence). w.link) s)) ∙ ap (λ (w : Occurrence). Some w.port) s
find_last x (q ∷ os) o p e s = by (q.link == x) e (find_last x os o p)
  where
    by : (b : Bool) → (if b then Some q.port else find_port x os) ≡ None → (find_port x os ≡ None → o ≡ occurs x p → find_port x (os ++ o ∷ []) ≡ Some p) → (if b then Some q.port else find_port x (os ++ o ∷ [])) ≡ Some p
    by true e later = absurd (cc)
    by false e later = later e s

-- ---- one port

module _ (t : NewPort → Bool) (p : Port) (x : ℕ) (same : hit t p ≡ 1) (other : (q : Port) → q ≢ p → hit t q ≡ 0) where
  -- the port has no other link, or isn't there
  abbrev Fits : List Occurrence → Type 0
  Fits os = (y : ℕ) → Has (occurs y p) os → y ≡ x

  abbrev Absent : List Occurrence → Type 0
  Absent os = (y : ℕ) → Has (occurs y p) os → ⊥

  apart_port : (o : Occurrence) (os : List Occurrence) → Absent (o ∷ os) → o.port ≢ p
  apart_port o os h e = h o.link (inl (λ i. occurs o.link (e i)))

  found_apart : (os : List Occurrence) (y : ℕ) (q : Port) → Fits os → y ≢ x → find_port y os ≡ Some q → q ≢ p
  found_apart os y q f d e s = d (f y (subst (λ r. Has (occurs y r) os) s (find_found y os q e)))

  none_joined : (o : Port) (f : Option Port) → o ≢ p → ((q : Port) → f ≡ Some q → q ≢ p) → joins t o f ≡ 0
  none_joined o None d h = refl
  none_joined o (Some q) d h = let a = other q (h q refl) in let b = other o d in omega (arith, a, b)

  fits_more : (os : List Occurrence) (o : Occurrence) → Fits os → o.port ≢ p → Fits (os ++ o ∷ [])
  fits_more os o f d y h = elim (has_either (occurs y p) os (o ∷ []) h) [ inl i ↦ f y i | inr j ↦ last j ]
    where
      last : Has (occurs y p) (o ∷ []) → y ≡ x
      last (inl e) = absurd (d (ap (λ (w : Occurrence). w.port) e))
      last (inr n) = absurd n

  -- Behind its first place the port is paired with each other place of its link.
  first : (before os : List Occurrence) → find_port x before ≡ Some p → Fits before → Absent os → pairs t before os ≡ times x (links_at os)
  first before [] e f a = refl
  first before (o ∷ os) e f a =
      let d = apart_port o os a in
      by (same_or_not o.link x) d (first (before ++ o ∷ []) os (find_front x before (o ∷ []) p e) (fits_more before o f d) (λ y h. a y (inr h)))
    where
      by : (o.link ≡ x) ⊎ (o.link ≢ x) → o.port ≢ p → pairs t (before ++ o ∷ []) os ≡ times x (links_at os) → pairs t before (o ∷ os) ≡ times x (links_at (o ∷ os))
      by (inl s) d rest =
          let j : joins t o.port (find_port o.link before) ≡ hit t p + hit t o.port = ap (λ y. joins t o.port (find_port y before)) s ∙ ap (joins t o.port) e in
          let z = other o.port d in
          let k = times_here x o.link (links_at os) s in
          omega (arith, j, z, k, same, rest)
      by (inr n) d rest =
          let j = none_joined o.port (find_port o.link before) d (λ q g. found_apart before o.link q f n g) in
          let k = times_away x o.link (links_at os) n in
          omega (arith, j, k, rest)

  -- Behind another first place of its link it is paired no more.
  behind : (before os : List Occurrence) (r : Port) → find_port x before ≡ Some r → r ≢ p → Fits before → Absent os → pairs t before os ≡ 0
  behind before [] r e n f a = refl
  behind before (o ∷ os) r e n f a =
      let d = apart_port o os a in
      by (same_or_not o.link x) d (behind (before ++ o ∷ []) os r (find_front x before (o ∷ []) r e) n (fits_more before o f d) (λ y h. a y (inr h)))
    where
      by : (o.link ≡ x) ⊎ (o.link ≢ x) → o.port ≢ p → pairs t (before ++ o ∷ []) os ≡ 0 → pairs t before (o ∷ os) ≡ 0
      by (inl s) d rest =
          let j = none_joined o.port (find_port o.link before) d
          (λ q g. let same_place : r ≡ q = same_Some r q (sym e ∙ ap (λ y. find_port y before) (sym s) ∙ g) in λ is. n (same_place ∙ is)) in
          omega (arith, j, rest)
      by (inr m) d rest =
          let j = none_joined o.port (find_port o.link before) d (λ q g. found_apart before o.link q f m g) in
          omega (arith, j, rest)

  absent_more : (os : List Occurrence) (o : Occurrence) → Absent os → o.port ≢ p → Absent (os ++ o ∷ [])
  absent_more os o a d y h = elim (has_either (occurs y p) os (o ∷ []) h) [ inl i ↦ a y i | inr j ↦ last j ]
    where
      last : Has (occurs y p) (o ∷ []) → ⊥
      last (inl e) = d (ap (λ (w : Occurrence). w.port) e)
      last (inr n) = n

  fits_last : (os : List Occurrence) (o : Occurrence) → Absent os → o ≡ occurs x p → Fits (os ++ o ∷ [])
  fits_last os o a s y h = elim (has_either (occurs y p) os (o ∷ []) h) [ inl i ↦ absurd (a y i) | inr j ↦ last j ]
    where
      last : Has (occurs y p) (o ∷ []) → y ≡ x
      last (inl e) = sym (ap (λ (w : Occurrence). w.link) e) ∙ ap (λ (w : Occurrence). w.link) s
      last (inr n) = absurd n

  -- So it is paired once less than its link has places.
  paired : (before os : List Occurrence) → Has (occurs x p) os → Absent before → NoneTwice (map (λ (o : Occurrence). o.port) os) → times x (links_at before) + times x (links_at os) ≤ 2
      → pairs t before os + 1 ≡ times x (links_at before) + times x (links_at os)
  paired before [] h a once few = absurd h
  paired before (o ∷ os) (inl e) a once few =
      by (find_port x before) refl
    where
      port : o.port ≡ p
      port = ap (λ (w : Occurrence). w.port) e

      link : o.link ≡ x
      link = ap (λ (w : Occurrence). w.link) e

      gone : Absent os
      gone y h = once.0 (subst (λ r. IsOneOf r (map (λ (o : Occurrence). o.port) os)) (sym port) (in_ports y p os h))

      here : times x (links_at (o ∷ os)) ≡ 1 + times x (links_at os)
      here = times_here x o.link (links_at os) link

      by : (f : Option Port) → find_port x before ≡ f → pairs t before (o ∷ os) + 1 ≡ times x (links_at before) + times x (links_at (o ∷ os))
      by None f =
          let none : joins t o.port (find_port o.link before) ≡ 0 = ap (λ y. joins t o.port (find_port y before)) link ∙ ap (joins t o.port) f in
          let rest = first (before ++ o ∷ []) os (find_last x before o p f e) (fits_last before o a e) gone in
          let never = missed x before f in
          omega (arith, none, rest, never, here)
      by (Some q) f =
          let stood = find_found x before q f in
          let apart : q ≢ p = λ s. a x (subst (λ r. Has (occurs x r) before) s stood) in
          let one : joins t o.port (find_port o.link before) ≡ hit t q + hit t o.port = ap (λ y. joins t o.port (find_port y before)) link ∙ ap (joins t o.port) f in
          let miss = other q apart in
          let got : hit t o.port ≡ 1 = ap (hit t) port ∙ same in
          let rest = behind (before ++ o ∷ []) os q (find_front x before (o ∷ []) q f) apart (fits_last before o a e) gone in
          let some = occurs_once x before q stood in
          omega (arith, one, miss, got, rest, some, here, few)
  paired before (o ∷ os) (inr i) a once few =
      let d : o.port ≢ p = λ s. once.0 (subst (λ r. IsOneOf r (map (λ (o : Occurrence). o.port) os)) (sym s) (in_ports x p os i)) in
      let none = none_joined o.port (find_port o.link before) d (λ q g s. a o.link (subst (λ r. Has (occurs o.link r) before) s (find_found o.link before q g))) in
      let more : times x (links_at (before ++ o ∷ [])) ≡ times x (links_at before) + times x (o.link ∷ []) =
      ap (times x) (map_append (λ (o : Occurrence). o.link) before (o ∷ [])) ∙ times_append x (links_at before) (o.link ∷ []) in
      let rest = paired (before ++ o ∷ []) os i (absent_more before o a d) once.1 (omega (arith, more, few)) in
      omega (arith, none, more, rest)

  -- And it is before as many typed contexts as have its link.
  parts_hit : (os : List Occurrence) (us : List HeadTyped) → Fits os → (1 ≤ times x (map (λ (u : HeadTyped). u.link) us) → find_port x os ≡ Some p) → part_hits t os us ≡ times x (map (λ (u : HeadTyped). u.link) us)
  parts_hit os [] f h = refl
  parts_hit os (u ∷ us) f h =
      by (same_or_not u.link x) (parts_hit os us f (λ l. h (more l)))
    where
      more : 1 ≤ times x (map (λ (u : HeadTyped). u.link) us) → 1 ≤ times x (map (λ (u : HeadTyped). u.link) (u ∷ us))
      more l = omega (arith, l)

      miss : (f' : Option Port) → ((q : Port) → f' ≡ Some q → q ≢ p) → part_hit t f' ≡ 0
      miss None g = refl
      miss (Some q) g = other q (g q refl)

      by : (u.link ≡ x) ⊎ (u.link ≢ x) → part_hits t os us ≡ times x (map (λ (u : HeadTyped). u.link) us) → part_hits t os (u ∷ us) ≡ times x (map (λ (u : HeadTyped). u.link) (u ∷ us))
      by (inl s) rest =
          let k = times_here x u.link (map (λ (u : HeadTyped). u.link) us) s in
          let found = h (omega (arith, k)) in
          let got : part_hit t (find_port u.link os) ≡ hit t p = ap (λ y. part_hit t (find_port y os)) s ∙ ap (part_hit t) found in
          omega (arith, k, got, same, rest)
      by (inr d) rest =
          let k = times_away x u.link (map (λ (u : HeadTyped). u.link) us) d in
          let none = miss (find_port u.link os) (λ q g. found_apart os u.link q f d g) in
          omega (arith, k, none, rest)

  one_link : (items : List HeadItem) → HasLink items x p → (y : ℕ) → HasLink items y p → y ≡ x
  one_link items w y v =
      let atom : v.0 ≡ w.0 = same_Some v.0 w.0 (sym v.1 ∙ w.1) in
      same_Some y x (sym v.2 ∙ ap (λ (a : HeadAtom). slice_get a.links p.1) atom ∙ w.2)

  -- A port of a head stands in its code once less than its link in the head.
  pub head_port : (items : List HeadItem) (guard : List Cond) → IsHead items → HasLink items x p → stands t (head_code items guard) + 1 ≡ times x (links_of_head items)
  head_port items guard head w =
      let os = at_atoms 0 (atoms_of items) in
      let us = typed_contexts_of items in
      let few = head.at_most_twice x in
      let all = times_append x (links_at os) (map (λ (u : HeadTyped). u.link) us) in
      let there = stands_at items x p w in
      let fits : Fits os = λ y h. one_link items w y (at_stands items (occurs y p) h) in
      let e1 = head_stands t items guard in
      let e2 = paired [] os there (λ y h. h) (at_atoms_once 0 (atoms_of items)) (omega (arith, few, all)) in
      let e3 = parts_hit os us fits (alone os us there (omega (arith, few, all))) in
      omega (arith, all, e1, e2, e3)
    where
      alone : (os : List Occurrence) (us : List HeadTyped) → Has (occurs x p) os → times x (links_at os) + times x (map (λ (u : HeadTyped). u.link) us) ≤ 2 → 1 ≤ times x (map (λ (u : HeadTyped). u.link) us) → find_port x os ≡ Some p
      alone os us there few l = by (find_port x os) refl
        where
          by : (f : Option Port) → find_port x os ≡ f → f ≡ Some p
          by None f = absurd (find_missed x os p f there)
          by (Some q) f = elim (is_port q.0 q.1 p) [
            | inl s ↦ ap Some (same_pair q p s.0 s.1)
            | inr d ↦ (let two = occurs_twice x os q p d (find_found x os q f) there in absurd (omega (arith, two, few, l)))
          ]

-- ---- no port

never_pairs : (t : NewPort → Bool) (before os : List Occurrence) → ((y : ℕ) (q : Port) → Has (occurs y q) before → hit t q ≡ 0) → ((y : ℕ) (q : Port) → Has (occurs y q) os → hit t q ≡ 0) → pairs t before os ≡ 0
never_pairs t before [] h g = refl
never_pairs t before (o ∷ os) h g =
    let here = none (find_port o.link before) (λ q f. h o.link q (find_found o.link before q f)) in
    let later = never_pairs t (before ++ o ∷ []) os more (λ y q i. g y q (inr i)) in
    omega (arith, here, later)
  where
    own : hit t o.port ≡ 0
    own = g o.link o.port (inl refl)

    none : (f : Option Port) → ((q : Port) → f ≡ Some q → hit t q ≡ 0) → joins t o.port f ≡ 0
    none None k = refl
    none (Some q) k = let a = k q refl in omega (arith, a, own)

    more : (y : ℕ) (q : Port) → Has (occurs y q) (before ++ o ∷ []) → hit t q ≡ 0
    more y q i = elim (has_either (occurs y q) before (o ∷ []) i) [ inl j ↦ h y q j | inr j ↦ last j ]
      where
        last : Has (occurs y q) (o ∷ []) → hit t q ≡ 0
        last (inl e) = g y q (inl e)
        last (inr n) = absurd n

never_parts : (t : NewPort → Bool) (os : List Occurrence) (us : List HeadTyped) → ((y : ℕ) (q : Port) → Has (occurs y q) os → hit t q ≡ 0) → part_hits t os us ≡ 0
never_parts t os [] h = refl
never_parts t os (u ∷ us) h =
    let here = none (find_port u.link os) (λ q f. h u.link q (find_found u.link os q f)) in
    let later = never_parts t os us h in
    omega (arith, here, later)
  where
    none : (f : Option Port) → ((q : Port) → f ≡ Some q → hit t q ≡ 0) → part_hit t f ≡ 0
    none None k = refl
    none (Some q) k = k q refl

-- What no port of the head passes stands nowhere in its code.
pub never_in_head : (t : NewPort → Bool) (items : List HeadItem) (guard : List Cond) → ((x : ℕ) (p : Port) → HasLink items x p → hit t p ≡ 0) → stands t (head_code items guard) ≡ 0
never_in_head t items guard h =
    let os = at_atoms 0 (atoms_of items) in
    let e1 = head_stands t items guard in
    let e2 = never_pairs t [] os (λ y q i. absurd i) (λ y q i. h y q (at_stands items (occurs y q) i)) in
    let e3 = never_parts t os (typed_contexts_of items) (λ y q i. h y q (at_stands items (occurs y q) i)) in
    omega (arith, e1, e2, e3)
