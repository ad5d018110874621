-- Verified code is the code of its flat rule, and ties each end of it.
use Rattle.std.proofs.Common.{ℕ, zero, suc, ◌≡◌, ◌≢◌, ◌≤◌, ◌∙◌, ◌<◌, ◌+◌, ◌==◌, ◌||◌, ◌⊎◌, Bool, true, cond, List, [], ◌∷◌, ◌++◌, Some, length, map, refl, sym, ap, subst, inl, inr, arith, true≢false}
use Rattle.std.specs.Prelude.{slice_get, if◌then◌else◌, nat_lt}
use Rattle.std.specs.List.{AllByRecursion}
use Rattle.std.proofs.lemmas.Bool.{eq-eqb, leb-true, ltb-true}
use Rattle.lmn_base.specs.Lists.{In}
use Rattle.lmn_base.proofs.Numbers.{equal_itself}
use Rattle.lmn_base.proofs.Truth.{either_true, first_true, second_true}
use Rattle.lmn_congruence_splice.specs.Classes.{rising}
use Rattle.lmn_congruence_splice.specs.Splice.{IsOneOf, both_links}
use Rattle.lmn_congruence_splice.proofs.Common.{in_append, in_back, in_front}
use Rattle.lmn_solid_heads.specs.Embeddings.{HasMembrane}
use Rattle.lmn_solid_heads.specs.Heads.{HeadMembrane, HeadTyped, Occurrence, at_atoms, atoms_of, links_of_head, membranes_of, times, typed_contexts_of}
use Rattle.lmn_solid_heads.proofs.Common.{times_append}
use Rattle.lmn_instr_code.specs.declared.instr.AtomPort.{AtomPort}
use Rattle.lmn_instr_code.specs.declared.instr.NewPort.{NewPort}
use Rattle.lmn_instr_code.specs.declared.instr.NewPort.TheVariants as new
use Rattle.lmn_instr_code.specs.declared.instr.Code.{Code}
use Rattle.lmn_instr_code.specs.declared.instr.Instr.{Instr}
use Rattle.lmn_instr_code.specs.declared.instr.Instr.TheVariants.{RemoveAtom, RemovePart, RemoveMem, Deref, Joined, IsInt, IsUnary, IsGround, DropCells, NewLink, Relink, Unify, Proceed}
use Rattle.lmn_instr_code.specs.Running.{atoms_set}
use Rattle.lmn_solid_bodies.specs.Code.{removals}
use Rattle.lmn_solid_bodies.specs.Items.{body_links, connectors, new_ports, port_at}
use Rattle.lmn_solid_bodies.proofs.HeadPorts.{in_map, of_map, once_in_of}
use Rattle.lmn_verify_code.specs.Verified.{IsVerified, atoms_found, drops, drops_rest, is_made, membranes_found, nothing_left, places, ports_of, rest_dropped, rest_moved}
use Rattle.lmn_verify_laws.specs.Flat.{connected, flat_body, flat_head, link_in, linked_by}
use Rattle.lmn_verify_laws.proofs.Dropped.{at_closed, back, dropped_is, js, ks}
use Rattle.lmn_verify_laws.proofs.Exchanged.{is_tie}
use Rattle.lmn_verify_laws.proofs.Items.{atom_count, atoms_counted, head_membrane, membrane_count}
use Rattle.lmn_verify_laws.proofs.Linking.{no_copy_in_head, of_head, place_is_port, times_one, to_code}
use Rattle.lmn_verify_laws.proofs.Links.{atom_port_is, link_is, one_instruction, stands_at}
use Rattle.lmn_verify_laws.proofs.Listed.{all_is, get_one}
use Rattle.lmn_verify_laws.proofs.Ready.{membranes_counted, verified_is_in_order}
use Rattle.lmn_verify_laws.proofs.Rules.{counted_tests, head_at, moved_tests, of_body, removed_is, some_passes}
use Rattle.lmn_verify_laws.proofs.Shape.{HasShape, made_code, shape, taken_code}
use Rattle.lmn_verify_laws.proofs.Tied.{atoms_same, news, news_of, news_to, new_times, olds, olds_of, olds_to, once_in_head, wire_times, wires}
use Rattle.lmn_verify_laws.proofs.Ties.{no_wires, place_of, ports_set, wire, wire_here}
use Rattle.lmn_verify_solids.specs.Flats.{HasEachTie, IsBehind, IsFlatCode, IsRemoval}
use Rattle.lmn_verify_laws.specs.Laws.{VerifiedIsFlat}

-- ---- lists

all_of : {A : Type 0} (P : A → Type 0) (xs : List A) → ((x : A) → IsOneOf x xs → P x) → AllByRecursion P xs
all_of P [] f = tt
all_of P (x ∷ xs) f = (f x (inl refl), all_of P xs (λ y i. f y (inr i)))

place_in : (xs : List Instr) (i : Instr) → IsOneOf i xs → (t : ℕ) × (slice_get xs t ≡ Some i)
place_in [] i o = absurd o
place_in (x ∷ xs) i (inl e) = (0, ap Some e)
place_in (x ∷ xs) i (inr o) = let w = place_in xs i o in (suc w.0, w.1)

drop_there : (ns : List ℕ) (n : ℕ) → In n ns → IsOneOf (DropCells n) (map DropCells ns)
drop_there [] n i = absurd i
drop_there (m ∷ ns) n (inl e) = inl (ap DropCells e)
drop_there (m ∷ ns) n (inr i) = inr (drop_there ns n i)

-- each connector is of a UNIFY
wire_of : (j : ℕ) (js : List Instr) (e : ℕ × ℕ) → IsOneOf e (connectors (connected (j + j) js)) → (t : ℕ) × (p : AtomPort) × (q : AtomPort) × (slice_get js t ≡ Some (Unify p q)) × (wire (j + t) ≡ e)
wire_of j [] e i = absurd i
wire_of j (Unify p q ∷ js) e (inl s) = let z : j + 0 ≡ j = omega arith in (0, p, q, refl, ap wire z ∙ s)
wire_of j (Unify p q ∷ js) e (inr i) =
    let z : (j + j) + 2 ≡ (j + 1) + (j + 1) = omega arith in
    let w = wire_of (j + 1) js e (subst (λ n. IsOneOf e (connectors (connected n js))) z i) in
    let y : j + suc w.0 ≡ (j + 1) + w.0 = omega arith in
    (suc w.0, w.1, w.2, w.3, ap wire y ∙ w.4)
wire_of j (_ ∷ js) e i =
    let z : (j + j) + 2 ≡ (j + 1) + (j + 1) = omega arith in
    let w = wire_of (j + 1) js e (subst (λ n. IsOneOf e (connectors (connected n js))) z i) in
    let y : j + suc w.0 ≡ (j + 1) + w.0 = omega arith in
    (suc w.0, w.1, w.2, w.3, ap wire y ∙ w.4)

-- of two places with one link, which is there once, one is the other
once_place : (z : ℕ) (os : List Occurrence) (a b : Occurrence) → IsOneOf a os → IsOneOf b os → a.link ≡ z → b.link ≡ z → times z (map (λ (o : Occurrence). o.link) os) ≤ 1 → a ≡ b
once_place z [] a b i j e f l = absurd i
once_place z (o ∷ os) a b (inl s) (inl u) e f l = sym s ∙ u
once_place z (o ∷ os) a b (inl s) (inr j) e f l =
    let h : (if o.link == z then 1 else 0) ≡ 1 = ap (λ (t : Bool). cond t 1 0) (eq-eqb o.link z (ap (λ (x : Occurrence). x.link) s ∙ e)) in
    let d = times_one z (map (λ (o : Occurrence). o.link) os) (subst (λ n. IsOneOf n (map (λ (o : Occurrence). o.link) os)) f (in_map (λ (o : Occurrence). o.link) b os j)) in
    absurd (two (if o.link == z then 1 else 0) (times z (map (λ (o : Occurrence). o.link) os)) h d l)
  where
    two : (x y : ℕ) → x ≡ 1 → y ≢ 0 → x + y ≤ 1 → ⊥
    two x zero h d l = d refl
    two x (suc y) h d l = omega (arith, h, l)
once_place z (o ∷ os) a b (inr i) (inl u) e f l =
    let h : (if o.link == z then 1 else 0) ≡ 1 = ap (λ (t : Bool). cond t 1 0) (eq-eqb o.link z (ap (λ (x : Occurrence). x.link) u ∙ f)) in
    let d = times_one z (map (λ (o : Occurrence). o.link) os) (subst (λ n. IsOneOf n (map (λ (o : Occurrence). o.link) os)) e (in_map (λ (o : Occurrence). o.link) a os i)) in
    absurd (two (if o.link == z then 1 else 0) (times z (map (λ (o : Occurrence). o.link) os)) h d l)
  where
    two : (x y : ℕ) → x ≡ 1 → y ≢ 0 → x + y ≤ 1 → ⊥
    two x zero h d l = d refl
    two x (suc y) h d l = omega (arith, h, l)
once_place z (o ∷ os) a b (inr i) (inr j) e f l = once_place z os a b i j e f (less (if o.link == z then 1 else 0) (times z (map (λ (o : Occurrence). o.link) os)) l)
  where
    less : (x y : ℕ) → x + y ≤ 1 → y ≤ 1
    less x y l = omega (arith, l)

module _ (code : Code) (k : ℕ) (v : IsVerified code k) where
  abbrev C : List Instr
  C = code.head ++ code.body

  abbrev A : ℕ
  A = atoms_set code.head

  abbrev F : ℕ
  F = length (atoms_found code.head)

  abbrev N : ℕ
  N = length (atoms_of (flat_head code))

  same : N ≡ A
  same = atom_count code ∙ atoms_counted code.head v.looked_at

  abbrev News : List (NewPort × ℕ)
  News = new_ports N 0 (flat_body code)

  to_news : (p : NewPort) (x : ℕ) → IsOneOf {A = NewPort × ℕ} (p, x) (news code k v) → IsOneOf {A = NewPort × ℕ} (p, x) News
  to_news p x i = subst (λ n. IsOneOf {A = NewPort × ℕ} (p, x) (new_ports n 0 (flat_body code))) (sym same) i

  from_news : (p : NewPort) (x : ℕ) → IsOneOf {A = NewPort × ℕ} (p, x) News → IsOneOf {A = NewPort × ℕ} (p, x) (news code k v)
  from_news p x i = subst (λ n. IsOneOf {A = NewPort × ℕ} (p, x) (new_ports n 0 (flat_body code))) same i

  -- ---- ports of what ties

  port_here : (t : ℕ) (i : Instr) (p : NewPort) → slice_get C t ≡ Some i → IsOneOf p (places i) → IsOneOf p (ports_of code)
  port_here t i p e o = place_is_port code k v p (to_code C i p (get_one C t i e) o)

  number_here : (t : ℕ) (i : Instr) (p : NewPort) (x : ℕ) → slice_get C t ≡ Some i → IsOneOf {A = NewPort × ℕ} (p, x) (linked_by (t + t) i) → link_in code p ≡ x
  number_here t i p x e w = link_is C (ports_of code) p t x i v.once (port_here t i p e (place_of (t + t) i (p, x) w)) e w

  made_of : (p : NewPort) → is_made F p ≡ true → is_made A p ≡ true
  made_of p e = subst (λ n. is_made n p ≡ true) (sym (atoms_same code k v)) e

  set_of : (q : AtomPort) → nat_lt q.atom F ≡ true → q.atom < A
  set_of q e = let l = ltb-true q.atom F e in let n = atoms_same code k v in omega (arith, l, n)

  apart : (q : AtomPort) → is_made A (new.Atom q) ≡ true → q.atom < A → ⊥
  apart q e l = let m = leb-true A q.atom e in omega (arith, m, l)

  below : (q : AtomPort) → q.atom < A → q.atom < N
  below q l = let n = same in omega (arith, l, n)

  new_here : (t : ℕ) (i : Instr) (p : NewPort) (x : ℕ) → slice_get C t ≡ Some i → IsOneOf {A = NewPort × ℕ} (p, x) (linked_by (t + t) i) → is_made A p ≡ true → IsOneOf {A = NewPort × ℕ} (p, x) (news code k v)
  new_here t i p x e w m = subst (λ n. IsOneOf {A = NewPort × ℕ} (p, n) (news code k v)) (number_here t i p x e w) (news_to code k v p (port_here t i p e (place_of (t + t) i (p, x) w)) m)

  old_here : (t : ℕ) (i : Instr) (p : AtomPort) (x : ℕ) → slice_get C t ≡ Some i → IsOneOf {A = NewPort × ℕ} (new.Atom p, x) (linked_by (t + t) i) → p.atom < A → times x (body_links (flat_body code)) ≢ 0 →
      IsOneOf {A = AtomPort × ℕ} (p, x) (olds code k v)
  old_here t i p x e w l d =
      let port = port_here t i (new.Atom p) e (place_of (t + t) i (new.Atom p, x) w) in
      let n = number_here t i (new.Atom p) x e w in
      let once = once_in_head code k v p x l port n d in
      subst (λ y. IsOneOf {A = AtomPort × ℕ} (p, y) (olds code k v)) n (olds_to code k v p l port (ap (λ y. times y (links_of_head (flat_head code))) n ∙ once))

  -- the two links of a UNIFY, and its ports
  pub record Unified (t : ℕ) (p q : AtomPort) : Type 0 where
    pub first : IsOneOf {A = AtomPort × ℕ} (p, t + t) (olds code k v)
    pub second : IsOneOf {A = AtomPort × ℕ} (q, (t + t) + 1) (olds code k v)
    pub body : IsOneOf (Unify p q) code.body
    pub wired : IsOneOf (wire t) (wires code k v)
    pub set_first : p.atom < A
    pub set_second : q.atom < A

  both_here : (e : ℕ × ℕ) (es : List (ℕ × ℕ)) → IsOneOf e es → IsOneOf e.0 (both_links es) × IsOneOf e.1 (both_links es)
  both_here e [] i = absurd i
  both_here e (d ∷ es) (inl s) = (inl (λ j. (s j).0), inr (inl (λ j. (s j).1)))
  both_here e (d ∷ es) (inr i) = let w = both_here e es i in (inr (inr w.0), inr (inr w.1))

  unified : (t : ℕ) (p q : AtomPort) → slice_get C t ≡ Some (Unify p q) → Unified t p q
  unified t p q e =
      let here : IsOneOf (Unify p q) code.body = elim (in_append (Unify p q) code.head code.body (get_one C t (Unify p q) e)) [
        | inl u ↦ absurd (true≢false (sym (of_head code.head (Unify p q) v.head u)))
        | inr u ↦ u
      ] in
      let b = of_body code k v (Unify p q) here in
      let sp = set_of p (first_true (nat_lt p.atom F) (nat_lt q.atom F) b) in
      let sq = set_of q (second_true (nat_lt p.atom F) (nat_lt q.atom F) b) in
      let z : 0 + t ≡ t = omega arith in
      let w : IsOneOf (wire t) (wires code k v) = subst (λ l. IsOneOf (wire t) l) (sym (no_wires code 0 C code.body)) (subst (λ n. IsOneOf (wire n) (connectors (connected 0 C))) z (wire_here 0 t C p q e)) in
      let both = both_here (wire t) (wires code k v) w in
      record {
        first = old_here t (Unify p q) p (t + t) e (inl refl) sp (wire_times code k v (t + t) both.0);
        second = old_here t (Unify p q) q ((t + t) + 1) e (inr (inl refl)) sq (wire_times code k v ((t + t) + 1) both.1);
        body = here;
        wired = w;
        set_first = sp;
        set_second = sq;
      }

  in_code : (i : Instr) → IsOneOf i code.body → (t : ℕ) × (slice_get C t ≡ Some i)
  in_code i o = place_in C i (in_back i code.head code.body o)

  tie_behind : (i : Instr) → IsOneOf i code.body → is_tie i ≡ true → IsBehind (flat_head code) (flat_body code) i
  tie_behind (NewLink p q) o n =
      let w = in_code (NewLink p q) o in
      let t = w.0 in
      let b = of_body code k v (NewLink p q) o in
      let mp = made_of p (first_true (is_made F p) (is_made F q) b) in
      let mq = made_of q (second_true (is_made F p) (is_made F q) b) in
      (t + t, to_news p (t + t) (new_here t (NewLink p q) p (t + t) w.1 (inl refl) mp), to_news q (t + t) (new_here t (NewLink p q) q (t + t) w.1 (inr (inl refl)) mq))
  tie_behind (Relink p q) o n =
      let w = in_code (Relink p q) o in
      let t = w.0 in
      let b = of_body code k v (Relink p q) o in
      let mp = made_of p (first_true (is_made F p) (nat_lt q.atom F) b) in
      let sq = set_of q (second_true (is_made F p) (nat_lt q.atom F) b) in
      let here = new_here t (Relink p q) p (t + t) w.1 (inl refl) mp in
      let times = new_times code k v (t + t) (in_map (λ (e : NewPort × ℕ). e.1) (p, t + t) (news code k v) here) in
      (t + t, to_news p (t + t) here, old_here t (Relink p q) q (t + t) w.1 (inr (inl refl)) sq times, below q sq)
  tie_behind (Unify p q) o n =
      let w = in_code (Unify p q) o in
      let t = w.0 in
      let u = unified t p q w.1 in
      (t + t, (t + t) + 1, u.first, u.second, u.wired, below p u.set_first, below q u.set_second)
  tie_behind _ o n = absurd (true≢false (sym n))

  -- ---- what is dropped

  closed_of : (n : ℕ) → IsOneOf (DropCells n) code.body → (b : HeadMembrane) × HasMembrane (flat_head code) n b × (b.has_closed_context ≡ true)
  closed_of n o =
      let w = head_at code k v n (removed_is (length (membranes_found code.head)) n (of_body code k v (DropCells n) o)) in
      let all : (nothing_left code n || (rest_moved code n || rest_dropped code n)) ≡ true = subst (λ z. (nothing_left code z || (rest_moved code z || rest_dropped code z)) ≡ true) w.1 w.3 in
      let rest : rest_dropped code n ≡ true = elim (either_true (nothing_left code n) (rest_moved code n || rest_dropped code n) all) [
        | inl t ↦ absurd (some_passes (drops_rest n) code.body (DropCells n) o (equal_itself n) (counted_tests code n t).4)
        | inr t ↦ elim (either_true (rest_moved code n) (rest_dropped code n) t) [ inl u ↦ absurd (some_passes (drops_rest n) code.body (DropCells n) o (equal_itself n) (moved_tests code n u).4) | inr u ↦ u ]
      ] in
      (head_membrane code w.0, w.2, ap (rest_dropped code) w.1 ∙ rest)

  -- ---- the flat code

  abbrev S : HasShape code k v
  S = shape code k v

  abbrev Last : List Instr
  Last = Proceed ∷ []

  abbrev Behind : List Instr
  Behind = S.dropped ++ (S.tied ++ Last)

  drop_behind : (h : ℕ) (i : Instr) → drops h i ≡ true → IsBehind (flat_head code) (flat_body code) i
  drop_behind h (DropCells m) e = tt
  drop_behind h _ e = absurd (true≢false (sym e))

  in_behind : (i : Instr) → IsOneOf i Behind → IsOneOf i code.body
  in_behind i o = subst (λ l. IsOneOf i l) (sym S.whole) (in_back i (taken_code code k v) (made_code code k v ++ Behind) (in_back i (made_code code k v) Behind o))

  each_behind : (i : Instr) → IsOneOf i Behind → IsBehind (flat_head code) (flat_body code) i
  each_behind i o = elim (in_append i S.dropped (S.tied ++ Last) o) [
    | inl d ↦ drop_behind (1 + length (membranes_found code.head)) i (all_is (drops (1 + length (membranes_found code.head))) S.dropped i S.drops_all d)
    | inr w ↦ elim (in_append i S.tied Last w) [
      | inl u ↦ tie_behind i (in_behind i o) (all_is is_tie S.tied i S.ties_all u)
      | inr u ↦ last i u
    ]
  ]
    where
      last : (i : Instr) → IsOneOf i Last → IsBehind (flat_head code) (flat_body code) i
      last i (inl e) = subst (IsBehind (flat_head code) (flat_body code)) e tt
      last i (inr n) = absurd n

  each_removal : (i : Instr) → IsOneOf i (removals (flat_head code)) → IsRemoval i
  each_removal i o =
      let a = rising 0 (length (atoms_of (flat_head code))) in
      let g = rising 0 (length (typed_contexts_of (flat_head code))) in
      let m = rising 1 (length (membranes_of (flat_head code))) in
      elim (in_append i (map RemoveAtom a) (map RemovePart g ++ map RemoveMem m) o) [
        | inl u ↦ (let w = of_map RemoveAtom i a u in subst IsRemoval w.2 tt)
        | inr u ↦ elim (in_append i (map RemovePart g) (map RemoveMem m) u) [
          | inl t ↦ (let w = of_map RemovePart i g t in subst IsRemoval w.2 tt)
          | inr t ↦ (let w = of_map RemoveMem i m t in subst IsRemoval w.2 tt)
        ]
      ]

  closed_dropped : (n : ℕ) (b : HeadMembrane) → HasMembrane (flat_head code) n b → b.has_closed_context ≡ true → IsOneOf (DropCells n) Behind
  closed_dropped n b w c =
      let e = w.1 in
      let z : 1 + w.0 ≡ n = omega (arith, e) in
      let i : In n (js code k v) = back code k v n (subst (λ x. In x (ks code k v)) z (at_closed 1 (membranes_of (flat_head code)) w.0 b w.2 c)) in
      in_front (DropCells n) S.dropped (S.tied ++ Last) (subst (λ l. IsOneOf (DropCells n) l) (sym (dropped_is code k v)) (drop_there (js code k v) n i))

  flat_code : IsFlatCode (flat_head code) (flat_body code) code
  flat_code = record {
    membranes = sym (membrane_count code ∙ membranes_counted code.head);
    taking = removals (flat_head code);
    behind = Behind;
    whole = S.whole;
    takes = all_of IsRemoval (removals (flat_head code)) each_removal;
    ends = all_of (IsBehind (flat_head code) (flat_body code)) Behind each_behind;
    closed = closed_dropped;
  }

  -- ---- each tie

  not_head : (i : Instr) (p : NewPort) → is_made A p ≡ true → IsOneOf i code.head → IsOneOf p (places i) → ⊥
  not_head i (new.Atom q) m o w = apart q m (let l = ports_set code.head 0 1 0 0 i q (verified_is_in_order code k v).head o w in omega (arith, l))
  not_head i (new.Copy c) m o w = no_copy_in_head c i (of_head code.head i v.head o) w

  made_here : (p : NewPort) (q : AtomPort) → new.Atom q ≡ p → is_made A p ≡ true → q.atom < A → ⊥
  made_here p q e m l = apart q (subst (λ x. is_made A x ≡ true) (sym e) m) l

  abbrev Tied : NewPort → NewPort → Type 0
  Tied p q = (p ≡ q) ⊎ (IsOneOf (NewLink p q) code.body ⊎ IsOneOf (NewLink q p) code.body)

  two_new : (i : Instr) (p q : NewPort) → IsOneOf i code.body → is_made A p ≡ true → is_made A q ≡ true → IsOneOf p (places i) → IsOneOf q (places i) → Tied p q
  two_new (NewLink a b) p q o m n (inl e) (inl f) = inl (sym e ∙ f)
  two_new (NewLink a b) p q o m n (inl e) (inr (inl f)) = inr (inl (subst (λ (x : Instr). IsOneOf x code.body) (λ j. NewLink (e j) (f j)) o))
  two_new (NewLink a b) p q o m n (inl e) (inr (inr f)) = absurd f
  two_new (NewLink a b) p q o m n (inr (inl e)) (inl f) = inr (inr (subst (λ (x : Instr). IsOneOf x code.body) (λ j. NewLink (f j) (e j)) o))
  two_new (NewLink a b) p q o m n (inr (inl e)) (inr (inl f)) = inl (sym e ∙ f)
  two_new (NewLink a b) p q o m n (inr (inl e)) (inr (inr f)) = absurd f
  two_new (NewLink a b) p q o m n (inr (inr e)) w = absurd e
  two_new (Relink a b) p q o m n (inl e) (inl f) = inl (sym e ∙ f)
  two_new (Relink a b) p q o m n (inl e) (inr (inl f)) = absurd (made_here q b f n (set_of b (second_true (is_made F a) (nat_lt b.atom F) (of_body code k v (Relink a b) o))))
  two_new (Relink a b) p q o m n (inl e) (inr (inr f)) = absurd f
  two_new (Relink a b) p q o m n (inr (inl e)) w = absurd (made_here p b e m (set_of b (second_true (is_made F a) (nat_lt b.atom F) (of_body code k v (Relink a b) o))))
  two_new (Relink a b) p q o m n (inr (inr e)) w = absurd e
  two_new (Unify a b) p q o m n (inl e) w = absurd (made_here p a e m (set_of a (first_true (nat_lt a.atom F) (nat_lt b.atom F) (of_body code k v (Unify a b) o))))
  two_new (Unify a b) p q o m n (inr (inl e)) w = absurd (made_here p b e m (set_of b (second_true (nat_lt a.atom F) (nat_lt b.atom F) (of_body code k v (Unify a b) o))))
  two_new (Unify a b) p q o m n (inr (inr e)) w = absurd e
  two_new (Deref a b c) p q o m n e w = absurd (true≢false (sym (of_body code k v (Deref a b c) o)))
  two_new (Joined a b) p q o m n e w = absurd (true≢false (sym (of_body code k v (Joined a b) o)))
  two_new (IsInt a b c) p q o m n e w = absurd (true≢false (sym (of_body code k v (IsInt a b c) o)))
  two_new (IsUnary a b c) p q o m n e w = absurd (true≢false (sym (of_body code k v (IsUnary a b c) o)))
  two_new (IsGround a b c) p q o m n e w = absurd (true≢false (sym (of_body code k v (IsGround a b c) o)))
  two_new _ p q o m n e w = absurd e

  one_of_each : (i : Instr) (p : NewPort) (g : AtomPort) → IsOneOf i code.body → is_made A p ≡ true → g.atom < A → IsOneOf p (places i) → IsOneOf (new.Atom g) (places i) → IsOneOf (Relink p g) code.body
  one_of_each (NewLink a b) p g o m l e (inl f) = absurd (made_here (new.Atom g) g refl (subst (λ x. is_made A x ≡ true) f (made_of a (first_true (is_made F a) (is_made F b) (of_body code k v (NewLink a b) o)))) l)
  one_of_each (NewLink a b) p g o m l e (inr (inl f)) = absurd (made_here (new.Atom g) g refl (subst (λ x. is_made A x ≡ true) f (made_of b (second_true (is_made F a) (is_made F b) (of_body code k v (NewLink a b) o)))) l)
  one_of_each (NewLink a b) p g o m l e (inr (inr f)) = absurd f
  one_of_each (Relink a b) p g o m l (inl e) (inl f) = absurd (made_here p g (sym f ∙ e) m l)
  one_of_each (Relink a b) p g o m l (inl e) (inr (inl f)) = subst (λ (x : Instr). IsOneOf x code.body) (let s = atom_port_is b g f in λ j. Relink (e j) (s j)) o
  one_of_each (Relink a b) p g o m l (inl e) (inr (inr f)) = absurd f
  one_of_each (Relink a b) p g o m l (inr (inl e)) w = absurd (made_here p b e m (set_of b (second_true (is_made F a) (nat_lt b.atom F) (of_body code k v (Relink a b) o))))
  one_of_each (Relink a b) p g o m l (inr (inr e)) w = absurd e
  one_of_each (Unify a b) p g o m l (inl e) w = absurd (made_here p a e m (set_of a (first_true (nat_lt a.atom F) (nat_lt b.atom F) (of_body code k v (Unify a b) o))))
  one_of_each (Unify a b) p g o m l (inr (inl e)) w = absurd (made_here p b e m (set_of b (second_true (nat_lt a.atom F) (nat_lt b.atom F) (of_body code k v (Unify a b) o))))
  one_of_each (Unify a b) p g o m l (inr (inr e)) w = absurd e
  one_of_each (Deref a b c) p g o m l e w = absurd (true≢false (sym (of_body code k v (Deref a b c) o)))
  one_of_each (Joined a b) p g o m l e w = absurd (true≢false (sym (of_body code k v (Joined a b) o)))
  one_of_each (IsInt a b c) p g o m l e w = absurd (true≢false (sym (of_body code k v (IsInt a b c) o)))
  one_of_each (IsUnary a b c) p g o m l e w = absurd (true≢false (sym (of_body code k v (IsUnary a b c) o)))
  one_of_each (IsGround a b c) p g o m l e w = absurd (true≢false (sym (of_body code k v (IsGround a b c) o)))
  one_of_each _ p g o m l e w = absurd e

  in_body_by : (i : Instr) (p : NewPort) (t : ℕ) → slice_get C t ≡ Some i → is_made A p ≡ true → IsOneOf p (places i) → IsOneOf i code.body
  in_body_by i p t e m w = elim (in_append i code.head code.body (get_one C t i e)) [ inl u ↦ absurd (not_head i p m u w) | inr u ↦ u ]

  both_new : (z : ℕ) (p q : NewPort) → IsOneOf {A = NewPort × ℕ} (p, z) News → IsOneOf {A = NewPort × ℕ} (q, z) News → Tied p q
  both_new z p q i j =
      let a = news_of code k v p z (from_news p z i) in
      let b = news_of code k v q z (from_news q z j) in
      let s = stands_at C (ports_of code) p v.once a.0 in
      let u = stands_at C (ports_of code) q v.once b.0 in
      let sp = subst (λ x. IsOneOf {A = NewPort × ℕ} (p, x) (linked_by (s.0 + s.0) s.1)) a.2 s.3 in
      let uq = subst (λ x. IsOneOf {A = NewPort × ℕ} (q, x) (linked_by (u.0 + u.0) u.1)) b.2 u.3 in
      let one = one_instruction C s.0 u.0 z s.1 u.1 p q s.2 u.2 sp uq in
      let here = place_of (s.0 + s.0) s.1 (p, z) sp in
      let there = subst (λ (x : Instr). IsOneOf q (places x)) (sym one.1) (place_of (u.0 + u.0) u.1 (q, z) uq) in
      two_new s.1 p q (in_body_by s.1 p s.0 s.2 a.1 here) a.1 b.1 here there

  new_old : (z : ℕ) (p : NewPort) (g : AtomPort) → IsOneOf {A = NewPort × ℕ} (p, z) News → IsOneOf {A = AtomPort × ℕ} (g, z) (olds code k v) → IsOneOf (Relink p g) code.body
  new_old z p g i j =
      let a = news_of code k v p z (from_news p z i) in
      let b = olds_of code k v g z j in
      let s = stands_at C (ports_of code) p v.once a.0 in
      let u = stands_at C (ports_of code) (new.Atom g) v.once b.1 in
      let sp = subst (λ x. IsOneOf {A = NewPort × ℕ} (p, x) (linked_by (s.0 + s.0) s.1)) a.2 s.3 in
      let ug = subst (λ x. IsOneOf {A = NewPort × ℕ} (new.Atom g, x) (linked_by (u.0 + u.0) u.1)) b.2 u.3 in
      let one = one_instruction C s.0 u.0 z s.1 u.1 p (new.Atom g) s.2 u.2 sp ug in
      let here = place_of (s.0 + s.0) s.1 (p, z) sp in
      let there = subst (λ (x : Instr). IsOneOf (new.Atom g) (places x)) (sym one.1) (place_of (u.0 + u.0) u.1 (new.Atom g, z) ug) in
      one_of_each s.1 p g (in_body_by s.1 p s.0 s.2 a.1 here) a.1 b.0 here there

  both_old : (z : ℕ) (g o : AtomPort) → IsOneOf {A = AtomPort × ℕ} (g, z) (olds code k v) → IsOneOf {A = AtomPort × ℕ} (o, z) (olds code k v) → g ≡ o
  both_old z g o i j =
      let os = at_atoms 0 (atoms_of (flat_head code)) in
      let typed = map (λ (t : HeadTyped). t.link) (typed_contexts_of (flat_head code)) in
      let a = once_in_of (links_of_head (flat_head code)) os (g, z) i in
      let b = once_in_of (links_of_head (flat_head code)) os (o, z) j in
      let la : a.0.link ≡ z = (λ l. (a.3 l).1) in
      let lb : b.0.link ≡ z = (λ l. (b.3 l).1) in
      let once : times z (links_of_head (flat_head code)) ≡ 1 = subst (λ n. times n (links_of_head (flat_head code)) ≡ 1) la a.2 in
      let sum : times z (links_of_head (flat_head code)) ≡ times z (map (λ (o : Occurrence). o.link) os) + times z typed = times_append z (map (λ (o : Occurrence). o.link) os) typed in
      let one = once_place z os a.0 b.0 a.1 b.1 la lb (omega (arith, once, sum)) in
      let pa : port_at a.0.port.0 a.0.port.1 ≡ g = (λ l. (a.3 l).0) in
      let pb : port_at b.0.port.0 b.0.port.1 ≡ o = (λ l. (b.3 l).0) in
      sym pa ∙ ap (λ (x : Occurrence). port_at x.port.0 x.port.1) one ∙ pb

  wire_ends : (e : ℕ × ℕ) → IsOneOf e (connectors (flat_body code)) → (g : AtomPort) × (o : AtomPort) × IsOneOf {A = AtomPort × ℕ} (g, e.0) (olds code k v) × IsOneOf {A = AtomPort × ℕ} (o, e.1) (olds code k v) × IsOneOf (Unify g o) code.body
  wire_ends e i =
      let w = wire_of 0 C e (subst (λ l. IsOneOf e l) (no_wires code 0 C code.body) i) in
      let u = unified w.0 w.1 w.2 w.3 in
      let z : w.0 ≡ 0 + w.0 = omega arith in
      let s : wire w.0 ≡ e = ap wire z ∙ w.4 in
      (w.1, w.2, subst (λ (x : ℕ × ℕ). IsOneOf {A = AtomPort × ℕ} (w.1, x.0) (olds code k v)) s u.first, subst (λ (x : ℕ × ℕ). IsOneOf {A = AtomPort × ℕ} (w.2, x.1) (olds code k v)) s u.second, u.body)

  each_tie : HasEachTie (flat_head code) (flat_body code) code
  each_tie = record { closed = closed_of; both_new = both_new; new_old = new_old; both_old = both_old; wires = wire_ends }

-- verified code is the code of its flat rule, and ties each end of it
pub verified_is_flat : VerifiedIsFlat
verified_is_flat code k v = (flat_code code k v, each_tie code k v)
