-- Each port of the atoms in a rule's code, and each copy, stands in one place of the code.
use Rattle.std.proofs.Common.{◌≡◌, ◌≢◌, ◌≤◌, ◌<◌, ◌+◌, ◌⊎◌, ◌==◌, ◌&&◌, ℕ, zero, suc, Bool, true, false, if◌then◌else◌, List, [], ◌∷◌, ◌++◌, length, map, inl, inr, refl, sym, ap, ◌∙◌, subst, arith, true≢false}
use Rattle.std.specs.Prelude.{Some, slice_get, count_by}
use Rattle.std.specs.List.{flat_map, list_all}
use Rattle.std.proofs.lemmas.Bool.{eq-eqb, eqb-true, cases_lt}
use Rattle.std.proofs.lemmas.List.Folds.{list_all-append}
use Rattle.std.proofs.lemmas.Option.{same_Some}
use Rattle.lmn_base.proofs.Lists.{map_append, get_there, get_below}
use Rattle.lmn_base.proofs.Numbers.{equal_itself, not_equal, same_or_not, split_at as gap}
use Rattle.lmn_base.specs.Graphs.{Port}
use Rattle.lmn_base.specs.declared.guard.Cond.{Cond}
use Rattle.lmn_solid_heads.specs.declared.items.HeadItem.{HeadItem}
use Rattle.lmn_solid_heads.specs.Heads.{Occurrence, atoms_of, membranes_of, at_atoms, links_of_head, times}
use Rattle.lmn_solid_heads.specs.Embeddings.{HasLink}
use Rattle.lmn_congruence_splice.specs.Classes.{class_of, rising}
use Rattle.lmn_congruence_splice.specs.Splice.{IsOneOf, NoneTwice}
use Rattle.lmn_instr_code.specs.declared.instr.AtomPort.{AtomPort}
use Rattle.lmn_instr_code.specs.declared.instr.NewPort.{NewPort}
use Rattle.lmn_instr_code.specs.declared.instr.NewPort.TheVariants as new
use Rattle.lmn_instr_code.specs.declared.instr.Instr.{Instr}
use Rattle.lmn_instr_code.specs.declared.instr.Instr.TheVariants.{CopyGround, Proceed}
use Rattle.lmn_instr_code.specs.HeadCode.{operand, head_code}
use Rattle.lmn_solid_bodies.specs.declared.items.BodyItem.{BodyItem}
use Rattle.lmn_solid_bodies.specs.declared.items.BodyItem.TheVariants.{Atom, Connector, Copy, Bound, Membrane, Rest, Rule, Rules}
use Rattle.lmn_solid_bodies.specs.Code.{removals, making, drops, links_code, body_code}
use Rattle.lmn_solid_bodies.specs.Items.{new_ports, new_ports_from, old_ports, once_in, connectors, port_at, AllMade}
use Rattle.lmn_solid_bodies.specs.Rules.{NestedRule}
use Rattle.lmn_solid_bodies.proofs.HeadPorts.{at_atoms_once}
use Rattle.lmn_compile_head.specs.Heads.{IsHead}
use Rattle.lmn_compile_head.proofs.Places.{Has, occurs, stands_at, at_stands, same_pair}
use Rattle.lmn_verify_code.specs.Verified.{places, same_port, port_of_register, ports_of_registers, is_copy, stand_once}
use Rattle.lmn_verify_compiled.proofs.Arities.{made_arities, all_arities, head_arity, body_arity}
use Rattle.lmn_verify_compiled.proofs.BodyShapes.{makes_none, removed, dropped, tied}
use Rattle.lmn_verify_compiled.proofs.Counting.{counted, counted_is, counted_append, stands, stands_append}
use Rattle.lmn_verify_compiled.proofs.HeadStands.{hit}
use Rattle.lmn_verify_compiled.proofs.HeadCounts.{in_ports, head_port, never_in_head}
use Rattle.lmn_verify_compiled.proofs.BodyStands.{hits, hits_once, body_stands}

-- ---- tests of ports

hit_same : (p : Port) → hit (same_port (new.Atom (operand p))) p ≡ 1
hit_same p = λ i. if equal_itself p.0 i && equal_itself p.1 i then 1 else 0

hit_other : (p q : Port) → q ≢ p → hit (same_port (new.Atom (operand p))) q ≡ 0
hit_other p q d = by (p.0 == q.0) refl (p.1 == q.1) refl
  where
    by : (b : Bool) → (p.0 == q.0) ≡ b → (c : Bool) → (p.1 == q.1) ≡ c → ◌≡◌ {A = ℕ} (if b && c then 1 else 0) 0
    by true e true f = absurd (d (same_pair q p (sym (eqb-true p.0 q.0 e)) (sym (eqb-true p.1 q.1 f))))
    by true e false f = refl
    by false e c f = refl

-- ---- ports that a body makes

module _ (r j : ℕ) where
  abbrev this : NewPort → Bool
  this = same_port (new.Atom (port_of_register r j))

  from_other : (a i : ℕ) (ls : List ℕ) → r ≢ a → counted this (map (λ (e : NewPort × ℕ). e.0) (new_ports_from a i ls)) ≡ 0
  from_other a i [] d = refl
  from_other a i (x ∷ xs) d =
      let here : hit this (a, i) ≡ 0 = hit_other (r, j) (a, i) (λ e. d (sym (ap (λ (w : Port). w.0) e))) in
      let rest = from_other a (i + 1) xs d in
      omega (arith, here, rest)

  from_past : (i : ℕ) (ls : List ℕ) → j < i → counted this (map (λ (e : NewPort × ℕ). e.0) (new_ports_from r i ls)) ≡ 0
  from_past i [] l = refl
  from_past i (x ∷ xs) l =
      let here : hit this (r, i) ≡ 0 = hit_other (r, j) (r, i) (λ e. let q : i ≡ j = ap (λ (w : Port). w.1) e in absurd (omega (arith, l, q))) in
      let rest = from_past (i + 1) xs (omega (arith, l)) in
      omega (arith, here, rest)

  from_one : (i : ℕ) (ls : List ℕ) → i ≤ j → j < i + length ls → counted this (map (λ (e : NewPort × ℕ). e.0) (new_ports_from r i ls)) ≡ 1
  from_one i [] l h = absurd (omega (arith, l, h))
  from_one i (x ∷ xs) l h = by (same_or_not i j) (from_one (i + 1) xs)
    where
      by : (i ≡ j) ⊎ (i ≢ j) → (i + 1 ≤ j → j < i + 1 + length xs → counted this (map (λ (e : NewPort × ℕ). e.0) (new_ports_from r (i + 1) xs)) ≡ 1)
          → counted this (map (λ (e : NewPort × ℕ). e.0) (new_ports_from r i (x ∷ xs))) ≡ 1
      by (inl e) later =
          let here : hit this (r, i) ≡ 1 = ap (λ k. hit this (r, k)) e ∙ hit_same (r, j) in
          let rest = from_past (i + 1) xs (omega (arith, e)) in
          omega (arith, here, rest)
      by (inr d) later =
          let here : hit this (r, i) ≡ 0 = hit_other (r, j) (r, i) (λ e. d (ap (λ (w : Port). w.1) e)) in
          let rest = later (next d) (omega (arith, h)) in
          omega (arith, here, rest)
        where
          next : i ≢ j → i + 1 ≤ j
          next d = grind (arith, l)

  more_ports : (a i : ℕ) (ls : List ℕ) (es : List (NewPort × ℕ)) → counted this (map (λ (e : NewPort × ℕ). e.0) (new_ports_from a i ls ++ es))
      ≡ counted this (map (λ (e : NewPort × ℕ). e.0) (new_ports_from a i ls)) + counted this (map (λ (e : NewPort × ℕ). e.0) es)
  more_ports a i ls es = ap (counted this) (map_append (λ (e : NewPort × ℕ). e.0) (new_ports_from a i ls) es)
      ∙ counted_append this (map (λ (e : NewPort × ℕ). e.0) (new_ports_from a i ls)) (map (λ (e : NewPort × ℕ). e.0) es)

  -- a register before those that are made
  new_none : (a c : ℕ) (body : List BodyItem) → r < a → counted this (map (λ (e : NewPort × ℕ). e.0) (new_ports a c body)) ≡ 0
  new_none a c [] l = refl
  new_none a c (Atom functor links inside ∷ xs) l =
      let here = from_other a 0 links (λ e. absurd (omega (arith, l, e))) in
      let rest = new_none (a + 1) c xs (omega (arith, l)) in
      let all = more_ports a 0 links (new_ports (a + 1) c xs) in
      omega (arith, here, rest, all)
  new_none a c (Connector left right ∷ xs) l = new_none a c xs l
  new_none a c (Copy part link inside ∷ xs) l = let rest = new_none a (c + 1) xs l in omega (arith, rest)
  new_none a c (Bound integer link inside ∷ xs) l =
      let here : hit this (a, 0) ≡ 0 = hit_other (r, j) (a, 0) (λ e. let q : a ≡ r = ap (λ (w : Port). w.0) e in absurd (omega (arith, l, q))) in
      let rest = new_none (a + 1) c xs (omega (arith, l)) in
      omega (arith, here, rest)
  new_none a c (Membrane inside ∷ xs) l = new_none a c xs l
  new_none a c (Rest of closed inside ∷ xs) l = new_none a c xs l
  new_none a c (Rule rule inside ∷ xs) l = new_none a c xs l
  new_none a c (Rules of inside ∷ xs) l = new_none a c xs l

  -- a port of an atom that is made
  new_one : (a c : ℕ) (body : List BodyItem) (k v : ℕ) → AllMade body → slice_get (made_arities body) k ≡ Some v → r ≡ a + k → j < v → counted this (map (λ (e : NewPort × ℕ). e.0) (new_ports a c body)) ≡ 1
  new_one a c [] k v w e q l = absurd (cc)
  new_one a c (Atom functor links inside ∷ xs) zero v w e q l =
      let arity = same_Some functor.arity v e in
      let many = w.0.0 in
      let at : r ≡ a = omega (arith, q) in
      let here : counted this (map (λ (e : NewPort × ℕ). e.0) (new_ports_from a 0 links)) ≡ 1 =
      ap (λ b. counted this (map (λ (e : NewPort × ℕ). e.0) (new_ports_from b 0 links))) (sym at) ∙ from_one 0 links (omega arith) (omega (arith, l, arity, many)) in
      let rest = new_none (a + 1) c xs (omega (arith, at)) in
      let all = more_ports a 0 links (new_ports (a + 1) c xs) in
      omega (arith, here, rest, all)
  new_one a c (Atom functor links inside ∷ xs) (suc k) v w e q l =
      let here = from_other a 0 links (λ e. absurd (omega (arith, q, e))) in
      let rest = new_one (a + 1) c xs k v w.1 e (omega (arith, q)) l in
      let all = more_ports a 0 links (new_ports (a + 1) c xs) in
      omega (arith, here, rest, all)
  new_one a c (Connector left right ∷ xs) k v w e q l = new_one a c xs k v w.1 e q l
  new_one a c (Copy part link inside ∷ xs) k v w e q l = let rest = new_one a (c + 1) xs k v w.1 e q l in omega (arith, rest)
  new_one a c (Bound integer link inside ∷ xs) zero v w e q l =
      let one = same_Some 1 v e in
      let at : a ≡ r = omega (arith, q) in
      let first : 0 ≡ j = omega (arith, l, one) in
      let here : hit this (a, 0) ≡ 1 = (λ i. hit this (at i, first i)) ∙ hit_same (r, j) in
      let rest = new_none (a + 1) c xs (omega (arith, q)) in
      omega (arith, here, rest)
  new_one a c (Bound integer link inside ∷ xs) (suc k) v w e q l =
      let here : hit this (a, 0) ≡ 0 = hit_other (r, j) (a, 0) (λ e. let s : a ≡ r = ap (λ (w : Port). w.0) e in absurd (omega (arith, q, s))) in
      let rest = new_one (a + 1) c xs k v w.1 e (omega (arith, q)) l in
      omega (arith, here, rest)
  new_one a c (Membrane inside ∷ xs) k v w e q l = new_one a c xs k v w.1 e q l
  new_one a c (Rest of closed inside ∷ xs) k v w e q l = new_one a c xs k v w.1 e q l
  new_one a c (Rule rule inside ∷ xs) k v w e q l = new_one a c xs k v w.1 e q l
  new_one a c (Rules of inside ∷ xs) k v w e q l = new_one a c xs k v w.1 e q l

-- ---- copies

-- how many copies a body has
abbrev copies : List BodyItem → ℕ
copies [] = 0
copies (Atom functor links inside ∷ xs) = copies xs
copies (Connector left right ∷ xs) = copies xs
copies (Copy part link inside ∷ xs) = suc (copies xs)
copies (Bound integer link inside ∷ xs) = copies xs
copies (Membrane inside ∷ xs) = copies xs
copies (Rest of closed inside ∷ xs) = copies xs
copies (Rule rule inside ∷ xs) = copies xs
copies (Rules of inside ∷ xs) = copies xs

no_copy : (i : Instr) → makes_none i ≡ true → counted is_copy (i ∷ []) ≡ 0
no_copy (CopyGround _ _ _) h = absurd (true≢false (sym h))
no_copy _ h = refl

no_copies : (xs ys : List Instr) → counted is_copy xs ≡ 0 → counted is_copy ys ≡ 0 → counted is_copy (xs ++ ys) ≡ 0
no_copies xs ys h g = let e = counted_append is_copy xs ys in omega (arith, e, h, g)

making_copies : (a m c : ℕ) (body : List BodyItem) → counted is_copy (making a m c body) ≡ copies body
making_copies a m c [] = refl
making_copies a m c (Atom functor links inside ∷ xs) = let e = making_copies (a + 1) m c xs in omega (arith, e)
making_copies a m c (Connector left right ∷ xs) = making_copies a m c xs
making_copies a m c (Copy part link inside ∷ xs) = let e = making_copies a m (c + 1) xs in omega (arith, e)
making_copies a m c (Bound integer link inside ∷ xs) = let e = making_copies (a + 1) m c xs in omega (arith, e)
making_copies a m c (Membrane inside ∷ xs) = let e = making_copies a (m + 1) c xs in omega (arith, e)
making_copies a m c (Rest of true inside ∷ xs) = let e = making_copies a m c xs in omega (arith, e)
making_copies a m c (Rest of false inside ∷ xs) = let e = making_copies a m c xs in omega (arith, e)
making_copies a m c (Rule rule inside ∷ xs) = let e = making_copies a m c xs in omega (arith, e)
making_copies a m c (Rules of inside ∷ xs) = let e = making_copies a m c xs in omega (arith, e)

body_copies : (head : List HeadItem) (body : List BodyItem) (n : ℕ) → count_by is_copy (body_code head body n) ≡ copies body
body_copies head body n =
    let a = length (atoms_of head) in
    let b = 1 + length (membranes_of head) in
    let Q : List Instr → Type 0 = λ xs. counted is_copy xs ≡ 0 in
    let ds = drops 1 (membranes_of head) in
    let ls = links_code (class_of (connectors body)) (new_ports a 0 body) (old_ports head) (rising 0 n) in
    let e1 = removed Q refl no_copies no_copy head in
    let e2 = making_copies a b 0 body in
    let e3 = dropped Q refl no_copies no_copy 1 (membranes_of head) in
    let e4 = tied Q refl no_copies no_copy (class_of (connectors body)) (new_ports a 0 body) (old_ports head) (rising 0 n) in
    let s1 = counted_append is_copy (removals head) (making a b 0 body ++ (ds ++ (ls ++ (Proceed ∷ [])))) in
    let s2 = counted_append is_copy (making a b 0 body) (ds ++ (ls ++ (Proceed ∷ []))) in
    let s3 = counted_append is_copy ds (ls ++ (Proceed ∷ [])) in
    let s4 = counted_append is_copy ls (Proceed ∷ []) in
    sym (counted_is is_copy (body_code head body n)) ∙ omega (arith, e1, e2, e3, e4, s1, s2, s3, s4)

copy_from : (x a i : ℕ) (ls : List ℕ) (es : List (NewPort × ℕ)) → counted (same_port (new.Copy x)) (map (λ (e : NewPort × ℕ). e.0) (new_ports_from a i ls ++ es)) ≡ counted (same_port (new.Copy x)) (map (λ (e : NewPort × ℕ). e.0) es)
copy_from x a i [] es = refl
copy_from x a i (y ∷ ys) es = let e = copy_from x a (i + 1) ys es in omega (arith, e)

new_copies : (x a c : ℕ) (body : List BodyItem) → counted (same_port (new.Copy x)) (map (λ (e : NewPort × ℕ). e.0) (new_ports a c body)) ≡ hits x (rising c (copies body))
new_copies x a c [] = refl
new_copies x a c (Atom functor links inside ∷ xs) = copy_from x a 0 links (new_ports (a + 1) c xs) ∙ new_copies x (a + 1) c xs
new_copies x a c (Connector left right ∷ xs) = new_copies x a c xs
new_copies x a c (Copy part link inside ∷ xs) =
    let next : c + 1 ≡ suc c = omega arith in
    ap (λ k. (if x == c then 1 else 0) + k) (new_copies x a (c + 1) xs ∙ ap (λ k. hits x (rising k (copies xs))) next)
new_copies x a c (Bound integer link inside ∷ xs) = let e = new_copies x (a + 1) c xs in omega (arith, e)
new_copies x a c (Membrane inside ∷ xs) = new_copies x a c xs
new_copies x a c (Rest of closed inside ∷ xs) = new_copies x a c xs
new_copies x a c (Rule rule inside ∷ xs) = new_copies x a c xs
new_copies x a c (Rules of inside ∷ xs) = new_copies x a c xs

-- ---- ports that the head leaves

module _ (t : NewPort → Bool) where
  abbrev olds_hit : List (AtomPort × ℕ) → ℕ
  olds_hit es = counted (λ (h : AtomPort). t (new.Atom h)) (map (λ (e : AtomPort × ℕ). e.0) es)

  olds_if : (b : Bool) (o : Occurrence) (es : List (AtomPort × ℕ)) → olds_hit (if b then (port_at o.port.0 o.port.1, o.link) ∷ es else es) ≡ (if b then hit t o.port + olds_hit es else olds_hit es)
  olds_if true o es = refl
  olds_if false o es = refl

  if_zero : (b : Bool) (h k : ℕ) → h ≡ 0 → k ≡ 0 → (if b then h + k else k) ≡ 0
  if_zero true h k e f = omega (arith, e, f)
  if_zero false h k e f = f

  once_never : (xs : List ℕ) (os : List Occurrence) → ((y : ℕ) (q : Port) → Has (occurs y q) os → hit t q ≡ 0) → olds_hit (once_in xs os) ≡ 0
  once_never xs [] h = refl
  once_never xs (o ∷ os) h =
      olds_if (times o.link xs == 1) o (once_in xs os)
      ∙ if_zero (times o.link xs == 1) (hit t o.port) (olds_hit (once_in xs os)) (h o.link o.port (inl refl)) (once_never xs os (λ y q i. h y q (inr i)))

  if_one : (b : Bool) (h k : ℕ) → h ≡ 1 → k ≡ 0 → (if b then h + k else k) ≡ (if b then 1 else 0)
  if_one true h k e f = omega (arith, e, f)
  if_one false h k e f = f

  if_rest : (b : Bool) (h k : ℕ) → h ≡ 0 → (if b then h + k else k) ≡ k
  if_rest true h k e = omega (arith, e)
  if_rest false h k e = refl

  once_one : (p : Port) (x : ℕ) → hit t p ≡ 1 → ((q : Port) → q ≢ p → hit t q ≡ 0) → (xs : List ℕ) (os : List Occurrence) → Has (occurs x p) os → NoneTwice (map (λ (o : Occurrence). o.port) os)
      → olds_hit (once_in xs os) ≡ (if times x xs == 1 then 1 else 0)
  once_one p x same other xs [] h once = absurd h
  once_one p x same other xs (o ∷ os) (inl e) once =
      let link : o.link ≡ x = ap (λ (w : Occurrence). w.link) e in
      let port : o.port ≡ p = ap (λ (w : Occurrence). w.port) e in
      olds_if (times o.link xs == 1) o (once_in xs os)
      ∙ if_one (times o.link xs == 1) (hit t o.port) (olds_hit (once_in xs os)) (ap (hit t) port ∙ same)
      (once_never xs os (λ y q i. other q (λ s. once.0 (subst (λ r. IsOneOf r (map (λ (o : Occurrence). o.port) os)) (s ∙ sym port) (in_ports y q os i)))))
      ∙ ap (λ y. if times y xs == 1 then 1 else 0) link
  once_one p x same other xs (o ∷ os) (inr i) once =
      olds_if (times o.link xs == 1) o (once_in xs os)
      ∙ if_rest (times o.link xs == 1) (hit t o.port) (olds_hit (once_in xs os)) (other o.port (λ s. once.0 (subst (λ r. IsOneOf r (map (λ (o : Occurrence). o.port) os)) (sym s) (in_ports x p os i))))
      ∙ once_one p x same other xs os i once.1

-- ---- all ports

all_rising : (test : NewPort → Bool) (f : ℕ → NewPort) (x n : ℕ) → ((j : ℕ) → x ≤ j → j < x + n → test (f j) ≡ true) → list_all test (map f (rising x n)) ≡ true
all_rising test f x zero h = refl
all_rising test f x (suc n) h =
    let here = h x (omega arith) (omega arith) in
    let rest = all_rising test f (suc x) n (λ j l k. h j (omega (arith, l)) (omega (arith, k))) in
    λ i. here i && rest i

all_ports : (test : NewPort → Bool) (a : ℕ) (ns : List ℕ) → ((k v j : ℕ) → slice_get ns k ≡ Some v → j < v → test (new.Atom (port_of_register (a + k) j)) ≡ true) → list_all test (ports_of_registers a ns) ≡ true
all_ports test a [] h = refl
all_ports test a (n ∷ ns) h =
    let start : a + 0 ≡ a = omega arith in
    let here = all_rising test (λ i. new.Atom (port_of_register a i)) 0 n (λ j l k. subst (λ b. test (new.Atom (port_of_register b j)) ≡ true) start (h 0 n j refl (omega (arith, k)))) in
    let rest = all_ports test (a + 1) ns (λ k v j e l. let next : a + suc k ≡ (a + 1) + k = omega arith in subst (λ b. test (new.Atom (port_of_register b j)) ≡ true) next (h (suc k) v j e l)) in
    list_all-append test (map (λ i. new.Atom (port_of_register a i)) (rising 0 n)) (ports_of_registers (a + 1) ns) ∙ (λ i. here i && rest i)

in_one : (s k b : ℕ) → s + 1 ≡ k → k ≤ 2 → b ≡ (if k == 1 then 1 else 0) → s + b ≡ 1
in_one s k b e l f = by (same_or_not k 1)
  where
    by : (k ≡ 1) ⊎ (k ≢ 1) → s + b ≡ 1
    by (inl q) = let g : b ≡ 1 = f ∙ ap (λ c. if c then 1 else 0) (eq-eqb k 1 q) in omega (arith, e, g, q)
    by (inr d) = let g : b ≡ 0 = f ∙ ap (λ c. if c then 1 else 0) (not_equal k 1 d) in let two = only d in omega (arith, e, g, two)
      where
        only : k ≢ 1 → k ≡ 2
        only d = grind (arith, e, l)

module _ (items : List HeadItem) (guard : List Cond) (body : List BodyItem) (n : ℕ) (head : IsHead items) (rule : NestedRule items body n) where
  abbrev whole : List Instr
  whole = head_code items guard ++ body_code items body n

  -- a port of the head
  head_once : (x : ℕ) (p : Port) → HasLink items x p → stands (same_port (new.Atom (operand p))) whole ≡ 1
  head_once x p w =
      let t = same_port (new.Atom (operand p)) in
      let os = at_atoms 0 (atoms_of items) in
      let below = get_below (atoms_of items) p.0 w.0 w.1 in
      let e0 = stands_append t (head_code items guard) (body_code items body n) in
      let e1 = head_port t p x (hit_same p) (hit_other p) items guard head w in
      let e2 = body_stands items body n rule.atoms t in
      let e3 = new_none p.0 p.1 (length (atoms_of items)) 0 body below in
      let e4 = once_one t p x (hit_same p) (hit_other p) (links_of_head items) os (stands_at items x p w) (at_atoms_once 0 (atoms_of items)) in
      let few = head.at_most_twice x in
      let left : stands t (body_code items body n) ≡ olds_hit t (old_ports items) = omega (arith, e2, e3) in
      let one = in_one (stands t (head_code items guard)) (times x (links_of_head items)) (stands t (body_code items body n)) e1 few (left ∙ e4) in
      e0 ∙ one

  -- what no port of the head is, where the body makes it once
  new_once : (t : NewPort → Bool) → ((x : ℕ) (p : Port) → HasLink items x p → hit t p ≡ 0) → counted t (map (λ (e : NewPort × ℕ). e.0) (new_ports (length (atoms_of items)) 0 body)) ≡ 1 → stands t whole ≡ 1
  new_once t h one =
      let os = at_atoms 0 (atoms_of items) in
      let e0 = stands_append t (head_code items guard) (body_code items body n) in
      let e1 = never_in_head t items guard h in
      let e2 = body_stands items body n rule.atoms t in
      let e3 = once_never t (links_of_head items) os (λ y q i. h y q (at_stands items (occurs y q) i)) in
      omega (arith, e0, e1, e2, e3, one)

  register_once : (k v j : ℕ) → slice_get (all_arities items body) k ≡ Some v → j < v → stands (same_port (new.Atom (port_of_register k j))) whole ≡ 1
  register_once k v j e l = elim (cases_lt k (length (atoms_of items))) [
    | inl b ↦ (let a = get_there (atoms_of items) k b in
        let arity = same_Some v a.0.functor.arity (sym e ∙ head_arity items body k a.0 a.1) in
        let many = rule.atoms.head_made k a.0 a.1 in
        let x = get_there a.0.links j (omega (arith, l, arity, many)) in
        head_once x.0 (k, j) (a.0, a.1, x.1))
    | inr b ↦ (let d = gap (length (atoms_of items)) k b in
        let at : slice_get (made_arities body) d.0 ≡ Some v = sym (body_arity items body d.0) ∙ ap (slice_get (all_arities items body)) (sym d.1) ∙ e in
        new_once (same_port (new.Atom (port_of_register k j)))
        (λ x p w. hit_other (k, j) p (λ s. let q : p.0 ≡ k = ap (λ (w : Port). w.0) s in let below = get_below (atoms_of items) p.0 w.0 w.1 in absurd (omega (arith, q, below, b))))
        (new_one k j (length (atoms_of items)) 0 body d.0 v rule.atoms.made at d.1 l))
  ]

  copy_once : (x : ℕ) → x < copies body → stands (same_port (new.Copy x)) whole ≡ 1
  copy_once x l = new_once (same_port (new.Copy x)) (λ y p w. refl) (new_copies x (length (atoms_of items)) 0 body ∙ hits_once x 0 (copies body) (omega arith) (omega (arith, l)))

  told : (p : NewPort) → stands (same_port p) whole ≡ 1 → (count_by (same_port p) (flat_map places whole) == 1) ≡ true
  told p e = eq-eqb (count_by (same_port p) (flat_map places whole)) 1 (sym (counted_is (same_port p) (flat_map places whole)) ∙ e)

  -- Each port of an atom in a rule's code, and each copy, stands in one place.
  pub ports_stand_once : stand_once (flat_map places whole) (ports_of_registers 0 (all_arities items body) ++ map new.Copy (rising 0 (count_by is_copy (body_code items body n)))) ≡ true
  ports_stand_once =
      let test : NewPort → Bool = λ p. count_by (same_port p) (flat_map places whole) == 1 in
      let atoms = all_ports test 0 (all_arities items body) (λ k v j e l. let same : k ≡ 0 + k = omega arith in subst (λ b. test (new.Atom (port_of_register b j)) ≡ true) same (told (new.Atom (port_of_register k j)) (register_once k v j e l))) in
      let made = all_rising test new.Copy 0 (copies body) (λ x l h. told (new.Copy x) (copy_once x (omega (arith, h)))) in
      ap (λ c. stand_once (flat_map places whole) (ports_of_registers 0 (all_arities items body) ++ map new.Copy (rising 0 c))) (body_copies items body n)
      ∙ list_all-append test (ports_of_registers 0 (all_arities items body)) (map new.Copy (rising 0 (copies body)))
      ∙ (λ i. atoms i && made i)
