-- What ties in the body of verified code is the links code of its flat rule, but for the order of two operands.
use Rattle.std.proofs.Common.{◌≡◌, ◌≢◌, ◌<◌, ◌≤◌, ◌+◌, ◌==◌, ◌||◌, ◌⊎◌, ◌∙◌, inl, inr, ℕ, zero, suc, Bool, true, false, cond, List, [], ◌∷◌, ◌++◌, map, length, Some, refl, sym, ap, subst, arith, true≢false}
use Rattle.std.specs.Prelude.{slice_get, count_by, nat_lt, if◌then◌else◌}
use Rattle.std.specs.List.{flat_map}
use Rattle.std.proofs.lemmas.Bool.{eqb-true, eq-eqb, leb-true, ltb-true}
use Rattle.lmn_base.proofs.Truth.{first_true, second_true}
use Rattle.lmn_congruence_splice.specs.Classes.{ends_of_class, rising}
use Rattle.lmn_congruence_splice.specs.Splice.{IsOneOf, both_links}
use Rattle.lmn_congruence_splice.proofs.Common.{in_append}
use Rattle.lmn_solid_heads.specs.Heads.{links_of_head, times}
use Rattle.lmn_solid_bodies.specs.Code.{link_code, links_code}
use Rattle.lmn_solid_bodies.specs.Items.{body_links, connectors}
use Rattle.lmn_solid_bodies.proofs.HeadPorts.{in_map}
use Rattle.lmn_instr_code.specs.declared.instr.AtomPort.{AtomPort}
use Rattle.lmn_instr_code.specs.declared.instr.NewPort.{NewPort}
use Rattle.lmn_instr_code.specs.declared.instr.NewPort.TheVariants as new
use Rattle.lmn_instr_code.specs.declared.instr.Code.{Code}
use Rattle.lmn_instr_code.specs.declared.instr.Instr.{Instr}
use Rattle.lmn_instr_code.specs.declared.instr.Instr.TheVariants.{Deref, Joined, IsInt, IsUnary, IsGround, NewLink, Relink, Unify}
use Rattle.lmn_instr_code.specs.Running.{atoms_set}
use Rattle.lmn_verify_code.specs.Verified.{IsVerified, atoms_found, is_commit, is_made, is_of_head, membranes_found, places, port_of_register, ports_of, ports_of_registers, same_port}
use Rattle.lmn_verify_laws.specs.Flat.{connected, flat_body, flat_head, link_in, linked_by}
use Rattle.lmn_verify_laws.proofs.Classes.{at_least_one, at_least_two, no_ends, none_long, one_end, two_ends}
use Rattle.lmn_verify_laws.proofs.InOrder.{is_of_body}
use Rattle.lmn_verify_laws.proofs.Links.{link_is, port_itself}
use Rattle.lmn_verify_laws.proofs.Linked.{passing_append}
use Rattle.lmn_verify_laws.proofs.Linking.{head_arities, head_times, no_copy_in_head, of_head, place_is_port, times_one, to_code}
use Rattle.lmn_verify_laws.proofs.Listed.{all_is, get_one, passing, passing_counted}
use Rattle.lmn_verify_laws.proofs.Ready.{body_is, verified_is_in_order}
use Rattle.lmn_verify_laws.proofs.Ties.{no_wires, ports_set, wire, wire_here}
use Rattle.lmn_verify_laws.proofs.Tied.{atoms_same, ends_news, ends_olds, head_registers, m, new_end, new_times, news, news_to, old_end, olds, once_in_head, two_or_none, wire_times, wires}
use Rattle.lmn_verify_laws.proofs.Twice.{typed_numbers}

-- ---- ties

-- an instruction that ties two ports
abbrev pub is_tie : Instr → Bool
is_tie (NewLink p q) = true
is_tie (Relink p q) = true
is_tie (Unify p q) = true
is_tie _ = false

-- those of some code, in their order
abbrev pub only_ties : List Instr → List Instr
only_ties [] = []
only_ties (i ∷ is) = if is_tie i then i ∷ only_ties is else only_ties is

-- the same, or with the two operands exchanged
abbrev pub IsTurned : Instr → Instr → Type 0
IsTurned (NewLink p q) j = j ≡ NewLink q p
IsTurned (Unify p q) j = j ≡ Unify q p
IsTurned _ j = ⊥

-- two ties are one, but for the order of two operands
abbrev pub SameTie : Instr → Instr → Type 0
SameTie i j = (i ≡ j) ⊎ IsTurned i j

-- so it is with each of two lists
abbrev pub EachTie : List Instr → List Instr → Type 0
EachTie [] [] = Unit {0}
EachTie [] (j ∷ js) = ⊥
EachTie (i ∷ is) [] = ⊥
EachTie (i ∷ is) (j ∷ js) = SameTie i j × EachTie is js

-- ---- lists

passing_at : (test : NewPort → Bool) (is : List Instr) (t : ℕ) (i : Instr) → slice_get is t ≡ Some i → passing test (places i) ≤ passing test (flat_map places is)
passing_at test [] t i e = absurd (cc)
passing_at test (j ∷ is) zero i e =
    let same : i ≡ j = (let s : Some j ≡ Some i = e in cc) in
    let s = passing_append test (places j) (flat_map places is) in
    subst (λ z. passing test (places z) ≤ passing test (places j ++ flat_map places is)) (sym same) (omega (arith, s))
passing_at test (j ∷ is) (suc t) i e =
    let s = passing_append test (places j) (flat_map places is) in
    let r = passing_at test is t i e in
    let l : passing test (places i) ≤ passing test (places j ++ flat_map places is) = omega (arith, s, r) in l

two_pass : (p q : NewPort) → p ≡ q → passing (same_port p) (p ∷ (q ∷ [])) ≡ 2
two_pass p q e = (λ i. cond (port_itself p i) (1 + cond (both i) 1 0) (cond (both i) 1 0))
  where
    both : same_port p q ≡ true
    both = ap (same_port p) (sym e) ∙ port_itself p

times_two : (f : NewPort → ℕ) (x : ℕ) (ps : List NewPort) (p q : NewPort) → IsOneOf p ps → IsOneOf q ps → p ≢ q → f p ≡ x → f q ≡ x → 2 ≤ times x (map f ps)
times_two f x [] p q i j d e g = absurd i
times_two f x (y ∷ ps) p q (inl s) (inl u) d e g = absurd (d (sym s ∙ u))
times_two f x (y ∷ ps) p q (inl s) (inr u) d e g =
    let h : (if f y == x then 1 else 0) ≡ 1 = ap (λ (b : Bool). cond b 1 0) (eq-eqb (f y) x (ap f s ∙ e)) in
    let o = times_one x (map f ps) (subst (λ n. IsOneOf n (map f ps)) g (in_map f q ps u)) in
    more (if f y == x then 1 else 0) (times x (map f ps)) h o
  where
    more : (a b : ℕ) → a ≡ 1 → b ≢ 0 → 2 ≤ a + b
    more a zero e d = absurd (d refl)
    more a (suc b) e d = omega (arith, e)
times_two f x (y ∷ ps) p q (inr s) (inl u) d e g =
    let h : (if f y == x then 1 else 0) ≡ 1 = ap (λ (b : Bool). cond b 1 0) (eq-eqb (f y) x (ap f u ∙ g)) in
    let o = times_one x (map f ps) (subst (λ n. IsOneOf n (map f ps)) e (in_map f p ps s)) in
    more (if f y == x then 1 else 0) (times x (map f ps)) h o
  where
    more : (a b : ℕ) → a ≡ 1 → b ≢ 0 → 2 ≤ a + b
    more a zero e d = absurd (d refl)
    more a (suc b) e d = omega (arith, e)
times_two f x (y ∷ ps) p q (inr s) (inr u) d e g = let r = times_two f x ps p q s u d e g in let l : 2 ≤ (if f y == x then 1 else 0) + times x (map f ps) = omega (arith, r) in l

-- an instruction of a body that names ports ties
body_tie : (n h k : ℕ) (i : Instr) (p : NewPort) → is_of_body n h k i ≡ true → IsOneOf p (places i) → is_tie i ≡ true
body_tie n h k (NewLink _ _) p e o = refl
body_tie n h k (Relink _ _) p e o = refl
body_tie n h k (Unify _ _) p e o = refl
body_tie n h k (Deref _ _ _) p e o = absurd (true≢false (sym e))
body_tie n h k (Joined _ _) p e o = absurd (true≢false (sym e))
body_tie n h k (IsInt _ _ _) p e o = absurd (true≢false (sym e))
body_tie n h k (IsUnary _ _ _) p e o = absurd (true≢false (sym e))
body_tie n h k (IsGround _ _ _) p e o = absurd (true≢false (sym e))
body_tie n h k _ p e o = absurd o

-- the number of an instruction that finds a typed context is among theirs
abbrev finds_typed : Instr → Bool
finds_typed (IsInt _ _ _) = true
finds_typed (IsUnary _ _ _) = true
finds_typed (IsGround _ _ _) = true
finds_typed _ = false

typed_first : (j : ℕ) (i : Instr) (is : List Instr) → finds_typed i ≡ true → IsOneOf j (typed_numbers j (i ∷ is))
typed_first j (IsInt _ _ _) is e = inl refl
typed_first j (IsUnary _ _ _) is e = inl refl
typed_first j (IsGround _ _ _) is e = inl refl
typed_first j _ is e = absurd (true≢false (sym e))

typed_later : (j x : ℕ) (i : Instr) (is : List Instr) → IsOneOf x (typed_numbers (j + 2) is) → IsOneOf x (typed_numbers j (i ∷ is))
typed_later j x (IsInt _ _ _) is o = inr o
typed_later j x (IsUnary _ _ _) is o = inr o
typed_later j x (IsGround _ _ _) is o = inr o
typed_later j x _ is o = o

typed_there : (j t : ℕ) (is : List Instr) (i : Instr) → slice_get is t ≡ Some i → finds_typed i ≡ true → IsOneOf (j + (t + t)) (typed_numbers j is)
typed_there j t [] i e f = absurd (cc)
typed_there j zero (y ∷ is) i e f =
    let same : i ≡ y = (let s : Some y ≡ Some i = e in cc) in
    let z : j ≡ j + (0 + 0) = omega arith in
    subst (λ n. IsOneOf n (typed_numbers j (y ∷ is))) z (typed_first j y is (ap finds_typed (sym same) ∙ f))
typed_there j (suc t) (y ∷ is) i e f =
    let z : (j + 2) + (t + t) ≡ j + (suc t + suc t) = omega arith in
    typed_later j (j + (suc t + suc t)) y is (subst (λ n. IsOneOf n (typed_numbers (j + 2) is)) z (typed_there (j + 2) t is i e f))

of_two : (p u w : NewPort) (x : ℕ) → IsOneOf p (u ∷ (w ∷ [])) → IsOneOf {A = NewPort × ℕ} (p, x) ((u, x) ∷ ((w, x) ∷ []))
of_two p u w x (inl e) = inl (λ j. (e j, x))
of_two p u w x (inr (inl e)) = inr (inl (λ j. (e j, x)))
of_two p u w x (inr (inr e)) = absurd e

of_one : (p u : NewPort) (x : ℕ) → IsOneOf p (u ∷ []) → IsOneOf {A = NewPort × ℕ} (p, x) ((u, x) ∷ [])
of_one p u x (inl e) = inl (λ j. (e j, x))
of_one p u x (inr e) = absurd e

module _ (code : Code) (k : ℕ) (v : IsVerified code k) where
  abbrev C : List Instr
  C = code.head ++ code.body

  abbrev f : NewPort → ℕ
  f = link_in code

  abbrev regs : List NewPort
  regs = ports_of_registers 0 (head_arities code k v)

  abbrev H : ℕ → ℕ
  H x = times x (links_of_head (flat_head code))

  -- two ports of one instruction differ
  places_differ : (t : ℕ) (i : Instr) (p q : NewPort) → slice_get C t ≡ Some i → places i ≡ p ∷ (q ∷ []) → p ≢ q
  places_differ t i p q e s d =
      let l = passing_at (same_port p) C t i e in
      let here : passing (same_port p) (places i) ≡ 2 = ap (passing (same_port p)) s ∙ two_pass p q d in
      let port = place_is_port code k v p (to_code C i p (get_one C t i e) (subst (λ z. IsOneOf p z) (sym s) (inl refl))) in
      let n = eqb-true (count_by (same_port p) (flat_map places C)) 1 (all_is (λ q. count_by (same_port q) (flat_map places C) == 1) (ports_of code) p v.once port) in
      let c = passing_counted (same_port p) (flat_map places C) in
      omega (arith, l, here, n, c)

  port_at : (t : ℕ) (i : Instr) (p : NewPort) → slice_get C t ≡ Some i → IsOneOf p (places i) → IsOneOf p (ports_of code)
  port_at t i p e o = place_is_port code k v p (to_code C i p (get_one C t i e) o)

  number_at : (t : ℕ) (i : Instr) (p : NewPort) (x : ℕ) → slice_get C t ≡ Some i → IsOneOf p (places i) → IsOneOf {A = NewPort × ℕ} (p, x) (linked_by (t + t) i) → f p ≡ x
  number_at t i p x e o w = link_is C (ports_of code) p t x i v.once (port_at t i p e o) e w

  set_below : (i : Instr) (p : AtomPort) → IsOneOf i code.head → IsOneOf (new.Atom p) (places i) → p.atom < atoms_set code.head
  set_below i p o w = let l = ports_set code.head 0 1 0 0 i p (verified_is_in_order code k v).head o w in omega (arith, l)

  -- a link at two ports of an instruction of the head is twice in the head
  two_in_head : (t : ℕ) (i : Instr) (p q : AtomPort) → slice_get C t ≡ Some i → IsOneOf i code.head → places i ≡ new.Atom p ∷ (new.Atom q ∷ []) → linked_by (t + t) i ≡ (new.Atom p, t + t) ∷ ((new.Atom q, t + t) ∷ []) → 2 ≤ H (t + t)
  two_in_head t i p q e o s w =
      let ip : IsOneOf (new.Atom p) (places i) = subst (λ l. IsOneOf (new.Atom p) l) (sym s) (inl refl) in
      let iq : IsOneOf (new.Atom q) (places i) = subst (λ l. IsOneOf (new.Atom q) l) (sym s) (inr (inl refl)) in
      let np = number_at t i (new.Atom p) (t + t) e ip (subst (λ l. IsOneOf {A = NewPort × ℕ} (new.Atom p, t + t) l) (sym w) (inl refl)) in
      let nq = number_at t i (new.Atom q) (t + t) e iq (subst (λ l. IsOneOf {A = NewPort × ℕ} (new.Atom q, t + t) l) (sym w) (inr (inl refl))) in
      let rp = head_registers code k v p (set_below i p o ip) (port_at t i (new.Atom p) e ip) in
      let rq = head_registers code k v q (set_below i q o iq) (port_at t i (new.Atom q) e iq) in
      let two = times_two f (t + t) regs (new.Atom p) (new.Atom q) rp rq (places_differ t i (new.Atom p) (new.Atom q) e s) np nq in
      let h = head_times code k v (t + t) in
      omega (arith, two, h)

  typed_in_head : (t : ℕ) (i : Instr) (p : AtomPort) → slice_get C t ≡ Some i → IsOneOf i code.head → finds_typed i ≡ true → IsOneOf (new.Atom p) (places i) → IsOneOf {A = NewPort × ℕ} (new.Atom p, t + t) (linked_by (t + t) i) → 2 ≤ H (t + t)
  typed_in_head t i p e o g ip w =
      let np = number_at t i (new.Atom p) (t + t) e ip w in
      let rp = head_registers code k v p (set_below i p o ip) (port_at t i (new.Atom p) e ip) in
      let one = times_one (t + t) (map f regs) (subst (λ n. IsOneOf n (map f regs)) np (in_map f (new.Atom p) regs rp)) in
      let z : 0 + (t + t) ≡ t + t = omega arith in
      let two = times_one (t + t) (typed_numbers 0 C) (subst (λ n. IsOneOf n (typed_numbers 0 C)) z (typed_there 0 t C i e g)) in
      let h = head_times code k v (t + t) in
      both (times (t + t) (map f regs)) (times (t + t) (typed_numbers 0 C)) (H (t + t)) one two h
    where
      both : (a b c : ℕ) → a ≢ 0 → b ≢ 0 → c ≡ a + b → 2 ≤ c
      both zero b c d g e = absurd (d refl)
      both (suc a) zero c d g e = absurd (g refl)
      both (suc a) (suc b) c d g e = omega (arith, e)

  -- So no link at a port of an instruction of the head is once in it.
  head_twice : (t : ℕ) (i : Instr) (p : AtomPort) → slice_get C t ≡ Some i → IsOneOf i code.head → is_tie i ≡ false → IsOneOf (new.Atom p) (places i) → H (f (new.Atom p)) ≡ 1 → ⊥
  head_twice t (Deref a u j) p e o n w h =
      let two = two_in_head t (Deref a u j) u (port_of_register a j) e o refl refl in
      let number = number_at t (Deref a u j) (new.Atom p) (t + t) e w (of_two (new.Atom p) (new.Atom u) (new.Atom (port_of_register a j)) (t + t) w) in
      let same = ap H number in
      omega (arith, two, h, same)
  head_twice t (Joined u q) p e o n w h =
      let two = two_in_head t (Joined u q) u q e o refl refl in
      let number = number_at t (Joined u q) (new.Atom p) (t + t) e w (of_two (new.Atom p) (new.Atom u) (new.Atom q) (t + t) w) in
      let same = ap H number in
      omega (arith, two, h, same)
  head_twice t (IsInt g u y) p e o n w h =
      let there = of_one (new.Atom p) (new.Atom u) (t + t) w in
      let two = typed_in_head t (IsInt g u y) p e o refl w there in
      let number = number_at t (IsInt g u y) (new.Atom p) (t + t) e w there in
      let same = ap H number in
      omega (arith, two, h, same)
  head_twice t (IsUnary g u y) p e o n w h =
      let there = of_one (new.Atom p) (new.Atom u) (t + t) w in
      let two = typed_in_head t (IsUnary g u y) p e o refl w there in
      let number = number_at t (IsUnary g u y) (new.Atom p) (t + t) e w there in
      let same = ap H number in
      omega (arith, two, h, same)
  head_twice t (IsGround g u y) p e o n w h =
      let there = of_one (new.Atom p) (new.Atom u) (t + t) w in
      let two = typed_in_head t (IsGround g u y) p e o refl w there in
      let number = number_at t (IsGround g u y) (new.Atom p) (t + t) e w there in
      let same = ap H number in
      omega (arith, two, h, same)
  head_twice t (NewLink _ _) p e o n w h = true≢false n
  head_twice t (Relink _ _) p e o n w h = true≢false n
  head_twice t (Unify _ _) p e o n w h = true≢false n
  head_twice t _ p e o n w h = w

  half : (t u : ℕ) → t + t ≡ u + u → t ≡ u
  half t u e = omega (arith, e)

  one_at : (t u : ℕ) (i j : Instr) → slice_get C t ≡ Some i → slice_get C u ≡ Some j → t ≡ u → j ≡ i
  one_at t u i j e g s = let q : Some j ≡ Some i = sym g ∙ ap (slice_get C) (sym s) ∙ e in cc

  -- An instruction that doesn't tie has no ends.
  no_news_here : (t : ℕ) (i : Instr) → slice_get C t ≡ Some i → is_tie i ≡ false → ends_of_class (m code k v) (t + t) (news code k v) ≡ []
  no_news_here t i e n = no_ends (ends_of_class (m code k v) (t + t) (news code k v)) never
    where
      made_not_set : (p : NewPort) → is_made (atoms_set code.head) p ≡ true → IsOneOf i code.head → IsOneOf p (places i) → ⊥
      made_not_set (new.Atom q) made o w = let l = leb-true (atoms_set code.head) q.atom made in let b = set_below i q o w in omega (arith, l, b)
      made_not_set (new.Copy c) made o w = no_copy_in_head c i (of_head code.head i v.head o) w

      never : (p : NewPort) → IsOneOf p (ends_of_class (m code k v) (t + t) (news code k v)) → ⊥
      never p o =
          let w = ends_news code k v (t + t) p o in
          let same = one_at t w.0 i w.1 e w.2 (half t w.0 w.3) in
          let there : IsOneOf p (places i) = subst (λ j. IsOneOf p (places j)) same w.4 in
          elim (in_append i code.head code.body (get_one C t i e)) [
            | inl u ↦ made_not_set p w.5 u there
            | inr u ↦ true≢false (sym (body_tie (length (atoms_found code.head)) (1 + length (membranes_found code.head)) k i p (all_is _ code.body i (body_is code k v) u) there) ∙ n)
          ]

  no_olds_here : (t : ℕ) (i : Instr) → slice_get C t ≡ Some i → is_tie i ≡ false → ends_of_class (m code k v) (t + t) (olds code k v) ≡ []
  no_olds_here t i e n = no_ends (ends_of_class (m code k v) (t + t) (olds code k v)) never
    where
      never : (p : AtomPort) → IsOneOf p (ends_of_class (m code k v) (t + t) (olds code k v)) → ⊥
      never p o =
          let w = ends_olds code k v (t + t) p o in
          let same = one_at t w.0 i w.1 e w.2 (half t w.0 w.3) in
          let there : IsOneOf (new.Atom p) (places i) = subst (λ j. IsOneOf (new.Atom p) (places j)) same w.4 in
          elim (in_append i code.head code.body (get_one C t i e)) [
            | inl u ↦ head_twice t i p e u n there w.7
            | inr u ↦ true≢false (sym (body_tie (length (atoms_found code.head)) (1 + length (membranes_found code.head)) k i (new.Atom p) (all_is _ code.body i (body_is code k v) u) there) ∙ n)
          ]

  no_news_odd : (t : ℕ) → ends_of_class (m code k v) ((t + t) + 1) (news code k v) ≡ []
  no_news_odd t = no_ends (ends_of_class (m code k v) ((t + t) + 1) (news code k v)) (λ p o. let w = ends_news code k v ((t + t) + 1) p o in let e = w.3 in omega (arith, e))

  no_olds_odd : (t : ℕ) → ends_of_class (m code k v) ((t + t) + 1) (olds code k v) ≡ []
  no_olds_odd t = no_ends (ends_of_class (m code k v) ((t + t) + 1) (olds code k v)) (λ p o. let w = ends_olds code k v ((t + t) + 1) p o in let e = w.3 in omega (arith, e))

  -- ---- an instruction that ties

  made_of : (p : NewPort) → is_made (length (atoms_found code.head)) p ≡ true → is_made (atoms_set code.head) p ≡ true
  made_of p e = subst (λ n. is_made n p ≡ true) (sym (atoms_same code k v)) e

  set_of : (q : AtomPort) → nat_lt q.atom (length (atoms_found code.head)) ≡ true → q.atom < atoms_set code.head
  set_of q e = let l = ltb-true q.atom (length (atoms_found code.head)) e in let n = atoms_same code k v in omega (arith, l, n)

  -- what ties is in the body
  in_body : (t : ℕ) (i : Instr) → slice_get C t ≡ Some i → is_tie i ≡ true → is_of_body (length (atoms_found code.head)) (1 + length (membranes_found code.head)) k i ≡ true
  in_body t i e n = elim (in_append i code.head code.body (get_one C t i e)) [
    | inl u ↦ absurd (no_tie_in_head i n (of_head code.head i v.head u))
    | inr u ↦ all_is (is_of_body (length (atoms_found code.head)) (1 + length (membranes_found code.head)) k) code.body i (body_is code k v) u
  ]
    where
      no_tie_in_head : (i : Instr) → is_tie i ≡ true → (is_of_head i || is_commit i) ≡ true → ⊥
      no_tie_in_head (NewLink _ _) n e = true≢false (sym e)
      no_tie_in_head (Relink _ _) n e = true≢false (sym e)
      no_tie_in_head (Unify _ _) n e = true≢false (sym e)
      no_tie_in_head _ n e = true≢false (sym n)

  abbrev pub HasCode : ℕ → Instr → Type 0
  HasCode t i = (j : Instr) × (link_code (ends_of_class (m code k v) (t + t) (news code k v)) (ends_of_class (m code k v) (t + t) (olds code k v)) ≡ j ∷ []) × SameTie i j

  new_tie : (t : ℕ) (p q : NewPort) → slice_get C t ≡ Some (NewLink p q) → HasCode t (NewLink p q)
  new_tie t p q e =
      let b = in_body t (NewLink p q) e refl in
      let n = length (atoms_found code.head) in
      let es = ends_of_class (m code k v) (t + t) (news code k v) in
      let os = ends_of_class (m code k v) (t + t) (olds code k v) in
      let ip = new_end code k v t (NewLink p q) p (t + t) e (inl refl) (made_of p (first_true (is_made n p) (is_made n q) b)) in
      let iq = new_end code k v t (NewLink p q) q (t + t) e (inr (inl refl)) (made_of q (second_true (is_made n p) (is_made n q) b)) in
      let d = places_differ t (NewLink p q) p q e refl in
      let two = at_least_two es p q ip iq d in
      let count = lengths (length es) (length os) two (two_or_none code k v (t + t)) in
      let none = none_long os count.1 in
      elim (two_ends es p q count.0 ip iq d) [
        | inl s ↦ (NewLink p q, (λ j. link_code (s j) (none j)), inl refl)
        | inr s ↦ (NewLink q p, (λ j. link_code (s j) (none j)), inr refl)
      ]
    where
      lengths : (a b : ℕ) → 2 ≤ a → (a + b ≡ 0) ⊎ (a + b ≡ 2) → (a ≡ 2) × (b ≡ 0)
      lengths a b l (inl s) = absurd (omega (arith, l, s))
      lengths a b l (inr s) = (omega (arith, l, s), omega (arith, l, s))

  once_by : (t x : ℕ) (i : Instr) (q : AtomPort) → slice_get C t ≡ Some i → IsOneOf (new.Atom q) (places i) → IsOneOf {A = NewPort × ℕ} (new.Atom q, x) (linked_by (t + t) i) → q.atom < atoms_set code.head → times x (body_links (flat_body code)) ≢ 0 → H x ≡ 1
  once_by t x i q e o w l d = once_in_head code k v q x l (port_at t i (new.Atom q) e o) (number_at t i (new.Atom q) x e o w) d

  old_tie : (t : ℕ) (p : NewPort) (q : AtomPort) → slice_get C t ≡ Some (Relink p q) → HasCode t (Relink p q)
  old_tie t p q e =
      let b = in_body t (Relink p q) e refl in
      let n = length (atoms_found code.head) in
      let es = ends_of_class (m code k v) (t + t) (news code k v) in
      let os = ends_of_class (m code k v) (t + t) (olds code k v) in
      let made = made_of p (first_true (is_made n p) (nat_lt q.atom n) b) in
      let set = set_of q (second_true (is_made n p) (nat_lt q.atom n) b) in
      let ip = new_end code k v t (Relink p q) p (t + t) e (inl refl) made in
      let number = number_at t (Relink p q) p (t + t) e (inl refl) (inl refl) in
      let new = news_to code k v p (port_at t (Relink p q) p e (inl refl)) made in
      let times = new_times code k v (t + t) (subst (λ x. IsOneOf x (map (λ (e : NewPort × ℕ). e.1) (news code k v))) number (in_map (λ (e : NewPort × ℕ). e.1) (p, f p) (news code k v) new)) in
      let iq = old_end code k v t (Relink p q) q (t + t) e (inr (inl refl)) set (once_by t (t + t) (Relink p q) q e (inr (inl refl)) (inr (inl refl)) set times) in
      let count = lengths (length es) (length os) (at_least_one es p ip) (at_least_one os q iq) (two_or_none code k v (t + t)) in
      let a = one_end es p count.0 ip in
      let c = one_end os q count.1 iq in
      (Relink p q, (λ j. link_code (a j) (c j)), inl refl)
    where
      lengths : (a b : ℕ) → 1 ≤ a → 1 ≤ b → (a + b ≡ 0) ⊎ (a + b ≡ 2) → (a ≡ 1) × (b ≡ 1)
      lengths a b l n (inl s) = absurd (omega (arith, l, s))
      lengths a b l n (inr s) = (omega (arith, l, n, s), omega (arith, l, n, s))

  both_here : (e : ℕ × ℕ) (es : List (ℕ × ℕ)) → IsOneOf e es → IsOneOf e.0 (both_links es) × IsOneOf e.1 (both_links es)
  both_here e [] i = absurd i
  both_here e (d ∷ es) (inl s) = (inl (λ j. (s j).0), inr (inl (λ j. (s j).1)))
  both_here e (d ∷ es) (inr i) = let w = both_here e es i in (inr (inr w.0), inr (inr w.1))

  wire_at : (t : ℕ) (p q : AtomPort) → slice_get C t ≡ Some (Unify p q) → IsOneOf (wire t) (wires code k v)
  wire_at t p q e =
      let z : 0 + t ≡ t = omega arith in
      subst (λ l. IsOneOf (wire t) l) (sym (no_wires code 0 C code.body)) (subst (λ n. IsOneOf (wire n) (connectors (connected 0 C))) z (wire_here 0 t C p q e))

  head_tie : (t : ℕ) (p q : AtomPort) → slice_get C t ≡ Some (Unify p q) → HasCode t (Unify p q)
  head_tie t p q e =
      let b = in_body t (Unify p q) e refl in
      let n = length (atoms_found code.head) in
      let es = ends_of_class (m code k v) (t + t) (news code k v) in
      let os = ends_of_class (m code k v) (t + t) (olds code k v) in
      let set_p = set_of p (first_true (nat_lt p.atom n) (nat_lt q.atom n) b) in
      let set_q = set_of q (second_true (nat_lt p.atom n) (nat_lt q.atom n) b) in
      let w = both_here (wire t) (wires code k v) (wire_at t p q e) in
      let ip = old_end code k v t (Unify p q) p (t + t) e (inl refl) set_p (once_by t (t + t) (Unify p q) p e (inl refl) (inl refl) set_p (wire_times code k v (t + t) w.0)) in
      let iq = old_end code k v t (Unify p q) q ((t + t) + 1) e (inr (inl refl)) set_q (once_by t ((t + t) + 1) (Unify p q) q e (inr (inl refl)) (inr (inl refl)) set_q (wire_times code k v ((t + t) + 1) w.1)) in
      let d : p ≢ q = λ s. places_differ t (Unify p q) (new.Atom p) (new.Atom q) e refl (ap new.Atom s) in
      let two = at_least_two os p q ip iq d in
      let count = lengths (length es) (length os) two (two_or_none code k v (t + t)) in
      let none = none_long es count.0 in
      elim (two_ends os p q count.1 ip iq d) [
        | inl s ↦ (Unify p q, (λ j. link_code (none j) (s j)), inl refl)
        | inr s ↦ (Unify q p, (λ j. link_code (none j) (s j)), inr refl)
      ]
    where
      lengths : (a b : ℕ) → 2 ≤ b → (a + b ≡ 0) ⊎ (a + b ≡ 2) → (a ≡ 0) × (b ≡ 2)
      lengths a b l (inl s) = absurd (omega (arith, l, s))
      lengths a b l (inr s) = (omega (arith, l, s), omega (arith, l, s))

  tie_here : (t : ℕ) (i : Instr) → slice_get C t ≡ Some i → is_tie i ≡ true → HasCode t i
  tie_here t (NewLink p q) e n = new_tie t p q e
  tie_here t (Relink p q) e n = old_tie t p q e
  tie_here t (Unify p q) e n = head_tie t p q e
  tie_here t _ e n = absurd (true≢false (sym n))

  -- ---- all of them

  abbrev pub code_of : List ℕ → List Instr
  code_of zs = links_code (m code k v) (news code k v) (olds code k v) zs

  step : (t n : ℕ) → code_of (rising (t + t) (suc (suc n))) ≡
      link_code (ends_of_class (m code k v) (t + t) (news code k v)) (ends_of_class (m code k v) (t + t) (olds code k v)) ++ code_of (rising ((t + 1) + (t + 1)) n)
  step t n =
      let odd : suc (t + t) ≡ (t + t) + 1 = omega arith in
      let next : suc (suc (t + t)) ≡ (t + 1) + (t + 1) = omega arith in
      let none : link_code (ends_of_class (m code k v) (suc (t + t)) (news code k v)) (ends_of_class (m code k v) (suc (t + t)) (olds code k v)) ≡ [] =
      (λ j. link_code (ends_of_class (m code k v) (odd j) (news code k v)) (ends_of_class (m code k v) (odd j) (olds code k v))) ∙ (λ j. link_code (no_news_odd t j) (no_olds_odd t j)) in
      λ j. link_code (ends_of_class (m code k v) (t + t) (news code k v)) (ends_of_class (m code k v) (t + t) (olds code k v)) ++ (none j ++ code_of (rising (next j) n))

  pub each_tied : (t : ℕ) (js : List Instr) → ((u : ℕ) (i : Instr) → slice_get js u ≡ Some i → slice_get C (t + u) ≡ Some i) → EachTie (only_ties js) (code_of (rising (t + t) (length js + length js)))
  each_tied t [] g = tt
  each_tied t (i ∷ js) g =
      let z : length (i ∷ js) + length (i ∷ js) ≡ suc (suc (length js + length js)) = omega arith in
      let get : slice_get C t ≡ Some i = (let y : t + 0 ≡ t = omega arith in subst (λ n. slice_get C n ≡ Some i) y (g 0 i refl)) in
      let rest = each_tied (t + 1) js (λ u j e. let y : t + suc u ≡ (t + 1) + u = omega arith in subst (λ n. slice_get C n ≡ Some j) y (g (suc u) j e)) in
      subst (EachTie (only_ties (i ∷ js))) (sym (ap (λ n. code_of (rising (t + t) n)) z ∙ step t (length js + length js)))
      (by (is_tie i) refl (code_of (rising ((t + 1) + (t + 1)) (length js + length js))) get rest)
    where
      by : (b : Bool) → is_tie i ≡ b → (R : List Instr) → slice_get C t ≡ Some i → EachTie (only_ties js) R →
          EachTie (if b then i ∷ only_ties js else only_ties js) (link_code (ends_of_class (m code k v) (t + t) (news code k v)) (ends_of_class (m code k v) (t + t) (olds code k v)) ++ R)
      by true n R get rest = let w = tie_here t i get n in subst (λ l. EachTie (i ∷ only_ties js) (l ++ R)) (sym w.1) (w.2, rest)
      by false n R get rest = let w : link_code (ends_of_class (m code k v) (t + t) (news code k v)) (ends_of_class (m code k v) (t + t) (olds code k v)) ≡ [] = (λ j. link_code (no_news_here t i get n j) (no_olds_here t i get n j)) in
          subst (λ l. EachTie (only_ties js) (l ++ R)) (sym w) rest
