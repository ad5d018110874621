-- Verified code is the code of a rule: each link of its flat head and body stands twice.
use Rattle.std.proofs.Common.{◌≡◌, ◌≢◌, ◌<◌, ◌≤◌, ◌+◌, ◌==◌, ◌&&◌, ◌||◌, ◌⊎◌, ◌∙◌, inl, inr, ℕ, zero, suc, Bool, true, false, cond, List, [], ◌∷◌, ◌++◌, map, length, Some, refl, sym, ap, subst, arith, true≢false, append_assoc}
use Rattle.std.specs.Prelude.{slice_get, slice_index_or, count_by, if◌then◌else◌}
use Rattle.std.specs.List.{filter_map, flat_map, list_all}
use Rattle.std.proofs.Math.ListN.{get_or-eq_default}
use Rattle.std.proofs.lemmas.Bool.{cases_eq, eqb-true, ltb-true}
use Rattle.std.proofs.lemmas.List.{length-map, map-append}
use Rattle.std.proofs.lemmas.Option.{get_or_from_slice_get}
use Rattle.lmn_base.proofs.Lists.{get_front, get_there, map_twice}
use Rattle.lmn_base.proofs.Numbers.{below_or_from, equal_itself}
use Rattle.lmn_base.proofs.Truth.{and_true}
use Rattle.lmn_congruence_splice.specs.Classes.{rising}
use Rattle.lmn_congruence_splice.specs.Splice.{IsOneOf}
use Rattle.lmn_congruence_splice.proofs.Common.{in_append, in_front, in_back}
use Rattle.lmn_solid_heads.specs.Heads.{HeadTyped, Occurrence, atoms_of, at_atoms, at_ports, links_of_head, times, typed_contexts_of}
use Rattle.lmn_solid_heads.proofs.Common.{times_append}
use Rattle.lmn_compile_head.proofs.Holding.{EachFrom}
use Rattle.lmn_solid_bodies.specs.declared.items.BodyItem.{BodyItem}
use Rattle.lmn_solid_bodies.specs.Items.{LinkedItems, body_links}
use Rattle.lmn_solid_bodies.specs.Rules.{NestedRule}
use Rattle.lmn_machine_commit.specs.Preparing.{BodyInOrder, UsesInOrder, UsesPort, atoms_made, copies_made, membranes_made}
use Rattle.lmn_instr_code.specs.declared.instr.NewPort.{NewPort}
use Rattle.lmn_instr_code.specs.declared.instr.NewPort.TheVariants as new
use Rattle.lmn_instr_code.specs.declared.instr.Code.{Code}
use Rattle.lmn_instr_code.specs.declared.instr.Instr.{Instr}
use Rattle.lmn_instr_code.specs.declared.instr.Instr.TheVariants.{Deref, Joined, NotIn, IsInt, IsUnary, IsGround, NewAtom, NewInt, CopyGround, NewLink, Relink, Unify}
use Rattle.lmn_instr_code.specs.Running.{atoms_set, membranes_set}
use Rattle.lmn_machine.specs.Searching.{parts_set}
use Rattle.lmn_verify_code.specs.declared.found.FoundAtom.{FoundAtom}
use Rattle.lmn_verify_code.specs.declared.found.FoundPart.{FoundPart}
use Rattle.lmn_verify_code.specs.Verified.{IsVerified, arities, arity_made, atoms_found, has_port, is_commit, is_copy, is_empty, is_head, is_of_head, named_ports, parts_found, places, port_of_register, ports_of, ports_of_registers, same_port}
use Rattle.lmn_verify_laws.specs.Flat.{connected, flat_body, flat_head, link_count, link_in, linked, linked_by, made_item}
use Rattle.lmn_verify_laws.specs.Laws.{VerifiedIsRule}
use Rattle.lmn_verify_laws.proofs.Finds.{IsAtomAt}
use Rattle.lmn_verify_laws.proofs.InOrder.{is_of_body}
use Rattle.lmn_verify_laws.proofs.Items.{all_found, atoms_are, atoms_counted, head_atom, head_typed, typed_are}
use Rattle.lmn_verify_laws.proofs.Linked.{each_once, same_times}
use Rattle.lmn_verify_laws.proofs.Links.{at_place, first_mapped, in_registers, link_is, port_is, ports_linked}
use Rattle.lmn_verify_laws.proofs.Listed.{all_is, get_one, passing, passing_counted, passing_one, passing_some}
use Rattle.lmn_verify_laws.proofs.Ready.{body_is, verified_is_in_order}
use Rattle.lmn_verify_laws.proofs.Rules.{is_rule}
use Rattle.lmn_verify_laws.proofs.Twice.{all_twice, port_numbers, total, typed_numbers}

-- ---- places

-- what stands in a place of code stands in that of an instruction
pub of_instruction : (is : List Instr) (p : NewPort) → IsOneOf p (flat_map places is) → (i : Instr) × IsOneOf i is × IsOneOf p (places i)
of_instruction [] p o = absurd o
of_instruction (i ∷ is) p o = elim (in_append p (places i) (flat_map places is) o) [
  | inl u ↦ (i, inl refl, u)
  | inr u ↦ (let w = of_instruction is p u in (w.0, inr w.1, w.2))
]

-- and what is a place of an instruction is one of the code
pub to_code : (is : List Instr) (i : Instr) (p : NewPort) → IsOneOf i is → IsOneOf p (places i) → IsOneOf p (flat_map places is)
to_code [] i p o u = absurd o
to_code (j ∷ is) i p (inl e) u = in_front p (places j) (flat_map places is) (subst (λ z. IsOneOf p (places z)) (sym e) u)
to_code (j ∷ is) i p (inr o) u = in_back p (places j) (flat_map places is) (to_code is i p o u)

-- a place of a port is one at which it is named
place_named : (i : Instr) (p : NewPort) → IsOneOf p (places i) → IsOneOf p (named_ports i)
place_named (NotIn q m) p o = absurd o
place_named _ p o = o

-- a port of an atom register, and no copy
abbrev pub is_atom_port : NewPort → Bool
is_atom_port (new.Atom p) = true
is_atom_port (new.Copy c) = false

-- a copy is named by what ties new ports alone, and is set there
copy_used : (a m g v c x : ℕ) (i : Instr) → UsesInOrder a m g v c i → IsOneOf (new.Copy x) (places i) → x < c
copy_used a m g v c x (NewLink p q) o (inl e) = subst (UsesPort a c) e o.0
copy_used a m g v c x (NewLink p q) o (inr (inl e)) = subst (UsesPort a c) e o.1
copy_used a m g v c x (NewLink p q) o (inr (inr e)) = absurd e
copy_used a m g v c x (Relink p q) o (inl e) = subst (UsesPort a c) e o.0
copy_used a m g v c x (Relink p q) o (inr (inl e)) = absurd (true≢false (ap is_atom_port e))
copy_used a m g v c x (Relink p q) o (inr (inr e)) = absurd e
copy_used a m g v c x (Unify p q) o (inl e) = absurd (true≢false (ap is_atom_port e))
copy_used a m g v c x (Unify p q) o (inr (inl e)) = absurd (true≢false (ap is_atom_port e))
copy_used a m g v c x (Unify p q) o (inr (inr e)) = absurd e
copy_used a m g v c x (Deref _ _ _) o e = absurd o
copy_used a m g v c x (Joined _ _) o e = absurd o
copy_used a m g v c x (IsInt _ _ _) o e = absurd o
copy_used a m g v c x (IsUnary _ _ _) o e = absurd o
copy_used a m g v c x (IsGround _ _ _) o e = absurd o
copy_used a m g v c x _ o e = absurd e

-- no instruction of a head names a copy
pub no_copy_in_head : (x : ℕ) (i : Instr) → (is_of_head i || is_commit i) ≡ true → IsOneOf (new.Copy x) (places i) → ⊥
no_copy_in_head x (Deref _ _ _) h (inl e) = true≢false (ap is_atom_port e)
no_copy_in_head x (Deref _ _ _) h (inr (inl e)) = true≢false (ap is_atom_port e)
no_copy_in_head x (Deref _ _ _) h (inr (inr e)) = e
no_copy_in_head x (Joined _ _) h (inl e) = true≢false (ap is_atom_port e)
no_copy_in_head x (Joined _ _) h (inr (inl e)) = true≢false (ap is_atom_port e)
no_copy_in_head x (Joined _ _) h (inr (inr e)) = e
no_copy_in_head x (IsInt _ _ _) h (inl e) = true≢false (ap is_atom_port e)
no_copy_in_head x (IsInt _ _ _) h (inr e) = e
no_copy_in_head x (IsUnary _ _ _) h (inl e) = true≢false (ap is_atom_port e)
no_copy_in_head x (IsUnary _ _ _) h (inr e) = e
no_copy_in_head x (IsGround _ _ _) h (inl e) = true≢false (ap is_atom_port e)
no_copy_in_head x (IsGround _ _ _) h (inr e) = e
no_copy_in_head x (NewLink _ _) h e = true≢false (sym h)
no_copy_in_head x (Relink _ _) h e = true≢false (sym h)
no_copy_in_head x (Unify _ _) h e = true≢false (sym h)
no_copy_in_head x _ h e = e

-- each instruction of a head is one of heads, or COMMIT
pub of_head : (is : List Instr) (i : Instr) → is_head is ≡ true → IsOneOf i is → (is_of_head i || is_commit i) ≡ true
of_head [] i h o = absurd o
of_head (j ∷ is) i h o = by (is_commit j) refl h o (of_head is i)
  where
    or_true : (b : Bool) → (b || true) ≡ true
    or_true true = refl
    or_true false = refl

    here : (is_of_head j || is_commit j) ≡ true → j ≡ i → (is_of_head i || is_commit i) ≡ true
    here e s = subst (λ z. (is_of_head z || is_commit z) ≡ true) s e

    none : (js : List Instr) → is_empty js ≡ true → IsOneOf i js → ⊥
    none [] e o = o
    none (k ∷ js) e o = true≢false (sym e)

    by : (b : Bool) → is_commit j ≡ b → (if b then is_empty is else (is_of_head j && is_head is)) ≡ true → IsOneOf i (j ∷ is) → (is_head is ≡ true → IsOneOf i is → (is_of_head i || is_commit i) ≡ true) → (is_of_head i || is_commit i) ≡ true
    by true c e (inl s) more = here (ap (λ z. is_of_head j || z) c ∙ or_true (is_of_head j)) s
    by true c e (inr o) more = absurd (none is e o)
    by false c e (inl s) more = here (ap (λ z. z || is_commit j) (and_true (is_of_head j) (is_head is) e).0) s
    by false c e (inr o) more = more (and_true (is_of_head j) (is_head is) e).1 o

plus_copies : (c : ℕ) (i : Instr) (n : ℕ) → (c + copies_made i) + n ≡ c + cond (is_copy i) (1 + n) n
plus_copies c (CopyGround _ _ _) n = omega arith
plus_copies c _ n = omega arith

-- a copy that a body names is one that it makes
copies_set : (a m g v c x : ℕ) (is : List Instr) → BodyInOrder a m g v c is → IsOneOf (new.Copy x) (flat_map places is) → x < c + passing is_copy is
copies_set a m g v c x [] o u = absurd u
copies_set a m g v c x (i ∷ is) o u = elim (in_append (new.Copy x) (places i) (flat_map places is) u) [
  | inl w ↦ (let l = copy_used a m g v c x i o.0 w in omega (arith, l))
  | inr w ↦ subst (λ n. x < n) (plus_copies c i (passing is_copy is)) (copies_set (a + atoms_made i) (m + membranes_made i) g v (c + copies_made i) x is o.1 w)
]

copy_there : (b n c : ℕ) → b < c + 1 → c < b + n → IsOneOf (new.Copy c) (map new.Copy (rising b n))
copy_there b zero c l u = absurd (omega (arith, l, u))
copy_there b (suc n) c l u = elim (cases_eq b c) [
  | inl e ↦ inl (ap new.Copy e)
  | inr d ↦ inr (copy_there (suc b) n c (next b c l d) (omega (arith, u)))
]
  where
    next : (b c : ℕ) → b < c + 1 → (b ≡ c → ⊥) → suc b < c + 1
    next b c l d = grind arith

-- ---- lists of links

links_at_ports : (n i : ℕ) (ls : List ℕ) → map (λ (o : Occurrence). o.link) (at_ports n i ls) ≡ ls
links_at_ports n i [] = refl
links_at_ports n i (x ∷ ls) = ap (λ l. x ∷ l) (links_at_ports n (i + 1) ls)

-- the ports of registers with these numbers of ports, and of more behind them
pub registers_append : (a : ℕ) (xs ys : List ℕ) → ports_of_registers a (xs ++ ys) ≡ ports_of_registers a xs ++ ports_of_registers (a + length xs) ys
registers_append a [] ys = let z : a ≡ a + 0 = omega arith in ap (λ b. ports_of_registers b ys) z
registers_append a (x ∷ xs) ys =
    let z : (a + 1) + length xs ≡ a + suc (length xs) = omega arith in
    ap (λ l. map (λ i. new.Atom (port_of_register a i)) (rising 0 x) ++ l) (registers_append (a + 1) xs ys ∙ ap (λ b. ports_of_registers (a + 1) xs ++ ports_of_registers b ys) z)
    ∙ sym (append_assoc (map (λ i. new.Atom (port_of_register a i)) (rising 0 x)) (ports_of_registers (a + 1) xs) (ports_of_registers (a + suc (length xs)) ys))

no_typed : (n h k j : ℕ) (is : List Instr) → list_all (is_of_body n h k) is ≡ true → typed_numbers j is ≡ []
no_typed n h k j [] b = refl
no_typed n h k j (IsInt _ _ _ ∷ is) b = absurd (true≢false (sym b))
no_typed n h k j (IsUnary _ _ _ ∷ is) b = absurd (true≢false (sym b))
no_typed n h k j (IsGround _ _ _ ∷ is) b = absurd (true≢false (sym b))
no_typed n h k j (i ∷ is) b = no_typed n h k (j + 2) is (and_true (is_of_body n h k i) (list_all (is_of_body n h k) is) b).1

typed_of_head : (n h k j : ℕ) (is ys : List Instr) → list_all (is_of_body n h k) ys ≡ true → typed_numbers j (is ++ ys) ≡ typed_numbers j is
typed_of_head n h k j [] ys b = no_typed n h k j ys b
typed_of_head n h k j (IsInt _ _ _ ∷ is) ys b = ap (λ l. j ∷ l) (typed_of_head n h k (j + 2) is ys b)
typed_of_head n h k j (IsUnary _ _ _ ∷ is) ys b = ap (λ l. j ∷ l) (typed_of_head n h k (j + 2) is ys b)
typed_of_head n h k j (IsGround _ _ _ ∷ is) ys b = ap (λ l. j ∷ l) (typed_of_head n h k (j + 2) is ys b)
typed_of_head n h k j (_ ∷ is) ys b = typed_of_head n h k (j + 2) is ys b

-- a number that stands in a list is counted there
pub times_one : (x : ℕ) (xs : List ℕ) → IsOneOf x xs → times x xs ≢ 0
times_one x [] o z = o
times_one x (y ∷ ys) (inl e) z = let t : (y == x) ≡ true = ap (λ w. w == x) e ∙ equal_itself x in let h : ◌≡◌ {A = ℕ} (if y == x then 1 else 0) 1 = ap (λ (b : Bool). cond b 1 0) t in omega (arith, h, z)
times_one x (y ∷ ys) (inr o) z = times_one x ys o (omega (arith, z))

-- sums of parts
add_first : (l r l' p s t L P : ℕ) → L ≡ l + r → P ≡ l' + p → l ≡ l' → r ≡ (p + s) + t → L ≡ (P + s) + t
add_first l r l' p s t L P a b c d = omega (arith, a, b, c, d)

add_copy : (l r l' p s t C : ℕ) → l ≡ l' → C ≡ l' + s → r ≡ (p + s) + t → l + r ≡ (p + C) + t
add_copy l r l' p s t C c e d = omega (arith, c, d, e)

add_all : (H B a y b c c' T P A : ℕ) → H ≡ a + y → B ≡ (b + c) + T → c ≡ c' → P ≡ (a + b) + c' → P ≡ A → H + B ≡ (A + y) + T
add_all H B a y b c c' T P A h m e p s = omega (arith, h, m, e, p, s)

module _ (code : Code) (k : ℕ) (v : IsVerified code k) where
  abbrev is : List Instr
  is = code.head ++ code.body

  abbrev ports : List NewPort
  ports = ports_of code

  -- each place names a port of a register, or a copy
  pub place_is_port : (p : NewPort) → IsOneOf p (flat_map places is) → IsOneOf p ports
  place_is_port (new.Atom p) o =
      let w = of_instruction is (new.Atom p) o in
      let ns = arities code in
      let has = all_is (has_port ns) (named_ports w.0) (new.Atom p) (all_is (λ i. list_all (has_port ns) (named_ports i)) is w.0 v.ports w.1) (place_named w.0 (new.Atom p) w.2) in
      let less = ltb-true p.port (slice_index_or ns p.atom 0) has in
      in_front (new.Atom p) (ports_of_registers 0 ns) (map new.Copy (rising 0 (count_by is_copy code.body)))
      (elim (below_or_from p.atom (length ns)) [
        | inl l ↦ (let n = get_there ns p.atom l in
            let z : 0 + p.atom ≡ p.atom = omega arith in
            subst (λ b. IsOneOf (new.Atom (port_of_register b p.port)) (ports_of_registers 0 ns)) z (in_registers 0 ns p.atom p.port n.0 n.1 (subst (λ z. p.port < z) (get_or_from_slice_get ns p.atom n.0 0 n.1) less)))
        | inr l ↦ absurd (let e = get_or-eq_default ns 0 l in omega (arith, less, e))
      ])
  place_is_port (new.Copy c) o =
      let w = of_instruction is (new.Copy c) o in
      in_back (new.Copy c) (ports_of_registers 0 (arities code)) (map new.Copy (rising 0 (count_by is_copy code.body)))
      (elim (in_append w.0 code.head code.body w.1) [
        | inl u ↦ absurd (no_copy_in_head c w.0 (of_head code.head w.0 v.head u) w.2)
        | inr u ↦ (let l = copies_set _ _ _ _ 0 c code.body (verified_is_in_order code k v).ready.order (to_code code.body w.0 (new.Copy c) u w.2) in
            let n = passing_counted is_copy code.body in
            copy_there 0 (count_by is_copy code.body) c (omega arith) (omega (arith, l, n)))
      ])

  -- Each port stands as often in places as in the list of all ports.
  as_often : (p : NewPort) → passing (same_port p) ports ≡ passing (same_port p) (flat_map places is)
  as_often p =
      let most = each_once 0 (arities code) 0 (count_by is_copy code.body) p in
      elim (cases_eq (passing (same_port p) ports) 0) [
        | inl e ↦ elim (cases_eq (passing (same_port p) (flat_map places is)) 0) [
          | inl f ↦ e ∙ sym f
          | inr d ↦ (let w = passing_some (same_port p) (flat_map places is) d in absurd (passing_one (same_port p) ports w.0 (place_is_port w.0 w.1) w.2 e))
        ]
        | inr d ↦ (let w = passing_some (same_port p) ports d in
            let one = all_is (λ q. count_by (same_port q) (flat_map places is) == 1) ports p v.once (subst (λ z. IsOneOf z ports) (sym (port_is p w.0 w.2)) w.1) in
            let n = eqb-true (count_by (same_port p) (flat_map places is)) 1 one in
            let c = passing_counted (same_port p) (flat_map places is) in
            at_one (passing (same_port p) ports) (passing (same_port p) (flat_map places is)) d most (c ∙ n))
      ]
    where
      at_one : (a b : ℕ) → a ≢ 0 → a ≤ 1 → b ≡ 1 → a ≡ b
      at_one zero b d l e = absurd (d refl)
      at_one (suc a) b d l e = omega (arith, l, e)

  entry_link : (e : NewPort × ℕ) → IsOneOf e (linked 0 is) → link_in code e.0 ≡ e.1
  entry_link e o =
      let w = at_place 0 is e o in
      let z : 0 + (w.0 + w.0) ≡ w.0 + w.0 = omega arith in
      link_is is ports e.0 w.0 e.1 w.1 v.once (place_is_port e.0 (subst (λ l. IsOneOf e.0 l) (ports_linked 0 is) (first_mapped e.0 (linked 0 is) e.1 o))) w.2 (subst (λ x. IsOneOf e (linked_by x w.1)) z w.3)

  all_links : (es : List (NewPort × ℕ)) → ((e : NewPort × ℕ) → IsOneOf e es → link_in code e.0 ≡ e.1) → map (link_in code) (map (λ (e : NewPort × ℕ). e.0) es) ≡ map (λ (e : NewPort × ℕ). e.1) es
  all_links [] f = refl
  all_links (e ∷ es) f = λ i. f e (inl refl) i ∷ all_links es (λ d o. f d (inr o)) i

  -- So do the links at ports.
  port_times : (x : ℕ) → times x (map (link_in code) ports) ≡ times x (port_numbers 0 is)
  port_times x =
      same_times (link_in code) x ports (flat_map places is) as_often
      ∙ ap (λ l. times x (map (link_in code) l)) (sym (ports_linked 0 is))
      ∙ ap (times x) (all_links (linked 0 is) entry_link)

  -- ---- the head

  atom_links : (n : ℕ) (as' : List FoundAtom) → EachFrom (IsAtomAt (atoms_set code.head) (1 + membranes_set code.head) (parts_set code.head)) n as' →
      map (λ (o : Occurrence). o.link) (at_atoms n (map (head_atom code) as')) ≡ map (link_in code) (ports_of_registers n (map (λ (a : FoundAtom). a.functor.arity) as'))
  atom_links n [] e = refl
  atom_links n (a ∷ as') e =
      let ls = rising 0 a.functor.arity in
      let here : map (λ i. link_in code (new.Atom (port_of_register a.atom i))) ls ≡ map (link_in code) (map (λ i. new.Atom (port_of_register n i)) ls) =
      (λ j. map (λ i. link_in code (new.Atom (port_of_register (e.0.0 j) i))) ls) ∙ sym (map_twice (link_in code) (λ i. new.Atom (port_of_register n i)) ls) in
      map-append (λ (o : Occurrence). o.link) (at_ports n 0 (head_atom code a).links) (at_atoms (n + 1) (map (head_atom code) as'))
      ∙ (λ j. (links_at_ports n 0 (head_atom code a).links ∙ here) j ++ atom_links (n + 1) as' e.1 j)
      ∙ sym (map-append (link_in code) (map (λ i. new.Atom (port_of_register n i)) ls) (ports_of_registers (n + 1) (map (λ (a : FoundAtom). a.functor.arity) as')))

  abbrev part_link : FoundPart → ℕ
  part_link p = link_in code (new.Atom p.port)

  typed_here : (t : ℕ) (i : Instr) (p : NewPort) → slice_get is t ≡ Some i → IsOneOf p (places i) → IsOneOf {A = NewPort × ℕ} (p, t + t) (linked_by (t + t) i) → link_in code p ≡ t + t
  typed_here t i p s o e = link_is is ports p t (t + t) i v.once (place_is_port p (to_code is i p (get_one is t i s) o)) s e

  first_get : (t : ℕ) (i : Instr) (js : List Instr) → ((u : ℕ) (j : Instr) → slice_get (i ∷ js) u ≡ Some j → slice_get is (t + u) ≡ Some j) → slice_get is t ≡ Some i
  first_get t i js f = let z : t + 0 ≡ t = omega arith in subst (λ w. slice_get is w ≡ Some i) z (f 0 i refl)

  next_get : (t : ℕ) (i : Instr) (js : List Instr) → ((u : ℕ) (j : Instr) → slice_get (i ∷ js) u ≡ Some j → slice_get is (t + u) ≡ Some j) → (u : ℕ) (j : Instr) → slice_get js u ≡ Some j → slice_get is ((t + 1) + u) ≡ Some j
  next_get t i js f u j e = let z : t + suc u ≡ (t + 1) + u = omega arith in subst (λ w. slice_get is w ≡ Some j) z (f (suc u) j e)

  next_number : (t : ℕ) (js : List Instr) → typed_numbers ((t + 1) + (t + 1)) js ≡ typed_numbers ((t + t) + 2) js
  next_number t js = let z : (t + 1) + (t + 1) ≡ (t + t) + 2 = omega arith in ap (λ n. typed_numbers n js) z

  -- the links of typed contexts are the numbers of the instructions that find them
  typed_links : (t : ℕ) (js : List Instr) → ((u : ℕ) (i : Instr) → slice_get js u ≡ Some i → slice_get is (t + u) ≡ Some i) → map part_link (parts_found js) ≡ typed_numbers (t + t) js
  typed_links t [] f = refl
  typed_links t (IsInt g p m ∷ js) f =
      let e = typed_here t (IsInt g p m) (new.Atom p) (first_get t (IsInt g p m) js f) (inl refl) (inl refl) in
      let rest = typed_links (t + 1) js (next_get t (IsInt g p m) js f) ∙ next_number t js in
      λ l. e l ∷ rest l
  typed_links t (IsUnary g p m ∷ js) f =
      let e = typed_here t (IsUnary g p m) (new.Atom p) (first_get t (IsUnary g p m) js f) (inl refl) (inl refl) in
      let rest = typed_links (t + 1) js (next_get t (IsUnary g p m) js f) ∙ next_number t js in
      λ l. e l ∷ rest l
  typed_links t (IsGround g p m ∷ js) f =
      let e = typed_here t (IsGround g p m) (new.Atom p) (first_get t (IsGround g p m) js f) (inl refl) (inl refl) in
      let rest = typed_links (t + 1) js (next_get t (IsGround g p m) js f) ∙ next_number t js in
      λ l. e l ∷ rest l
  typed_links t (i ∷ js) f = typed_links (t + 1) js (next_get t i js f) ∙ next_number t js

  pub head_times : (x : ℕ) → times x (links_of_head (flat_head code)) ≡ times x (map (link_in code) (ports_of_registers 0 (map (λ (a : FoundAtom). a.functor.arity) (atoms_found code.head)))) + times x (typed_numbers 0 is)
  head_times x =
      let atoms = ap (λ l. map (λ (o : Occurrence). o.link) (at_atoms 0 l)) (atoms_are code) ∙ atom_links 0 (atoms_found code.head) (all_found code k v).atoms in
      let typed = ap (map (λ (t : HeadTyped). t.link)) (typed_are code) ∙ map_again (parts_found code.head)
      ∙ typed_links 0 code.head (λ u i e. let z : u ≡ 0 + u = omega arith in subst (λ w. slice_get is w ≡ Some i) z (get_front code.head code.body u i e))
      ∙ sym (typed_of_head _ _ k 0 code.head code.body (body_is code k v)) in
      times_append x (map (λ (o : Occurrence). o.link) (at_atoms 0 (atoms_of (flat_head code)))) (map (λ (t : HeadTyped). t.link) (typed_contexts_of (flat_head code)))
      ∙ (λ i. times x (atoms i) + times x (typed i))
    where
      map_again : (ps : List FoundPart) → map (λ (t : HeadTyped). t.link) (map (head_typed code) ps) ≡ map part_link ps
      map_again [] = refl
      map_again (p ∷ ps) = ap (λ l. part_link p ∷ l) (map_again ps)

  -- ---- the body

  abbrev pub T : List BodyItem
  T = connected 0 is

  abbrev pub IsMadeSum : ℕ → ℕ → ℕ → List Instr → Type 0
  IsMadeSum x a c js = times x (body_links (filter_map (made_item code) js ++ T)) ≡
      (times x (map (link_in code) (ports_of_registers a (filter_map arity_made js))) + times x (map (link_in code) (map new.Copy (rising c (passing is_copy js))))) + times x (body_links T)

  made_cast : (x a b c d : ℕ) (js : List Instr) → a ≡ b → c ≡ d → IsMadeSum x a c js → IsMadeSum x b d js
  made_cast x a b c d js e f h = subst (λ z. IsMadeSum x z d js) e (subst (λ z. IsMadeSum x a z js) f h)

  -- the links of what the body makes are those at ports that are made and copies, and those of its connectors
  pub made_times : (x a m g w c : ℕ) (js : List Instr) → BodyInOrder a m g w c js → IsMadeSum x a c js
  made_times x a m g w c [] o = omega arith
  made_times x a m g w c (NewAtom y n f ∷ js) o =
      let ls = rising 0 f.arity in
      let rest = body_links (filter_map (made_item code) js ++ T) in
      let more = ports_of_registers (a + 1) (filter_map arity_made js) in
      let here : map (λ i. link_in code (new.Atom (port_of_register y i))) ls ≡ map (link_in code) (map (λ i. new.Atom (port_of_register a i)) ls) =
      (λ j. map (λ i. link_in code (new.Atom (port_of_register (o.0.0.0 j) i))) ls) ∙ sym (map_twice (link_in code) (λ i. new.Atom (port_of_register a i)) ls) in
      let p = times_append x (map (λ i. link_in code (new.Atom (port_of_register y i))) ls) rest in
      let q = ap (times x) (map-append (link_in code) (map (λ i. new.Atom (port_of_register a i)) ls) more) ∙ times_append x (map (link_in code) (map (λ i. new.Atom (port_of_register a i)) ls)) (map (link_in code) more) in
      let s = ap (times x) here in
      let z : c + 0 ≡ c = omega arith in
      let t : IsMadeSum x (a + 1) c js = made_cast x (a + 1) (a + 1) (c + 0) c js refl z (made_times x (a + 1) (m + 0) g w (c + 0) js o.1) in
      add_first (times x (map (λ i. link_in code (new.Atom (port_of_register y i))) ls)) (times x rest) (times x (map (link_in code) (map (λ i. new.Atom (port_of_register a i)) ls))) (times x (map (link_in code) more)) _ _ _ _ p q s t
  made_times x a m g w c (NewInt y n u ∷ js) o =
      let s : link_in code (new.Atom (port_of_register y 0)) ≡ link_in code (new.Atom (port_of_register a 0)) = ap (λ b. link_in code (new.Atom (port_of_register b 0))) o.0.0.0 in
      let z : c + 0 ≡ c = omega arith in
      let t : IsMadeSum x (a + 1) c js = made_cast x (a + 1) (a + 1) (c + 0) c js refl z (made_times x (a + 1) (m + 0) g w (c + 0) js o.1) in
      add_first (if link_in code (new.Atom (port_of_register y 0)) == x then 1 else 0) (times x (body_links (filter_map (made_item code) js ++ T))) (if link_in code (new.Atom (port_of_register a 0)) == x then 1 else 0)
      (times x (map (link_in code) (ports_of_registers (a + 1) (filter_map arity_made js)))) _ _ _ _ refl refl (ap (λ b. if b == x then 1 else 0) s) t
  made_times x a m g w c (CopyGround y n u ∷ js) o =
      let s : (if link_in code (new.Copy y) == x then 1 else 0) ≡ (if link_in code (new.Copy c) == x then 1 else 0) = ap (λ b. if link_in code (new.Copy b) == x then 1 else 0) o.0.0.0 in
      let z : a + 0 ≡ a = omega arith in
      let e : c + 1 ≡ suc c = omega arith in
      let t : IsMadeSum x a (suc c) js = made_cast x (a + 0) a (c + 1) (suc c) js z e (made_times x (a + 0) (m + 0) g w (c + 1) js o.1) in
      let l : suc (passing is_copy js) ≡ 1 + passing is_copy js = omega arith in
      let r : times x (map (link_in code) (map new.Copy (rising c (1 + passing is_copy js)))) ≡ (if link_in code (new.Copy c) == x then 1 else 0) + times x (map (link_in code) (map new.Copy (rising (suc c) (passing is_copy js)))) =
      sym (ap (λ b. times x (map (link_in code) (map new.Copy (rising c b)))) l) in
      add_copy (if link_in code (new.Copy y) == x then 1 else 0) (times x (body_links (filter_map (made_item code) js ++ T))) (if link_in code (new.Copy c) == x then 1 else 0) (times x (map (link_in code) (ports_of_registers a (filter_map arity_made js))))
      (times x (map (link_in code) (map new.Copy (rising (suc c) (passing is_copy js))))) _ _ s r t
  made_times x a m g w c (q ∷ js) o = made_cast x (a + 0) a (c + 0) c js (omega arith) (omega arith) (made_times x (a + 0) (m + membranes_made q) g w (c + 0) js o.1)

  abbrev pub head_arities : List ℕ
  head_arities = map (λ (a : FoundAtom). a.functor.arity) (atoms_found code.head)

  pub arities_long : 0 + length head_arities ≡ atoms_set code.head
  arities_long = let a = length-map (atoms_found code.head) (λ (a : FoundAtom). a.functor.arity) in let b = atoms_counted code.head v.looked_at in omega (arith, a, b)

  -- the ports of the head, those of made atoms, and copies
  pub ports_split : ports ≡ (ports_of_registers 0 head_arities ++ ports_of_registers (atoms_set code.head) (filter_map arity_made code.body)) ++ map new.Copy (rising 0 (passing is_copy code.body))
  ports_split =
      (λ i. (registers_append 0 head_arities (filter_map arity_made code.body) ∙ ap (λ b. ports_of_registers 0 head_arities ++ ports_of_registers b (filter_map arity_made code.body)) arities_long) i
      ++ map new.Copy (rising 0 (sym (passing_counted is_copy code.body) i)))

  pub count_same : (x : ℕ) → times x (links_of_head (flat_head code)) + times x (body_links (flat_body code)) ≡ total x 0 is
  count_same x =
      let as' = map (λ (a : FoundAtom). a.functor.arity) (atoms_found code.head) in
      let bs = filter_map arity_made code.body in
      let n : 0 + length as' ≡ atoms_set code.head = (let a = length-map (atoms_found code.head) (λ (a : FoundAtom). a.functor.arity) in let b = atoms_counted code.head v.looked_at in omega (arith, a, b)) in
      let made = made_times x (atoms_set code.head) _ _ _ 0 code.body (verified_is_in_order code k v).ready.order in
      let copies : times x (map (link_in code) (map new.Copy (rising 0 (passing is_copy code.body)))) ≡ times x (map (link_in code) (map new.Copy (rising 0 (count_by is_copy code.body)))) =
      ap (λ n. times x (map (link_in code) (map new.Copy (rising 0 n)))) (passing_counted is_copy code.body) in
      let split : ports ≡ (ports_of_registers 0 as' ++ ports_of_registers (atoms_set code.head) bs) ++ map new.Copy (rising 0 (count_by is_copy code.body)) =
      ap (λ l. l ++ map new.Copy (rising 0 (count_by is_copy code.body))) (registers_append 0 as' bs ∙ ap (λ b. ports_of_registers 0 as' ++ ports_of_registers b bs) n) in
      let all : times x (map (link_in code) ports) ≡ (times x (map (link_in code) (ports_of_registers 0 as')) + times x (map (link_in code) (ports_of_registers (atoms_set code.head) bs))) + times x (map (link_in code) (map new.Copy (rising 0 (count_by is_copy code.body)))) =
      ap (λ l. times x (map (link_in code) l)) split ∙ three_times x (ports_of_registers 0 as') (ports_of_registers (atoms_set code.head) bs) (map new.Copy (rising 0 (count_by is_copy code.body))) in
      let head = head_times x in
      let same = port_times x in
      add_all _ _ _ _ _ _ _ _ _ _ head made copies all same
    where
      three_times : (x : ℕ) (ps qs rs : List NewPort) → times x (map (link_in code) ((ps ++ qs) ++ rs)) ≡ (times x (map (link_in code) ps) + times x (map (link_in code) qs)) + times x (map (link_in code) rs)
      three_times x ps qs rs =
          let a = ap (times x) (map-append (link_in code) (ps ++ qs) rs) ∙ times_append x (map (link_in code) (ps ++ qs)) (map (link_in code) rs) in
          let b = ap (times x) (map-append (link_in code) ps qs) ∙ times_append x (map (link_in code) ps) (map (link_in code) qs) in
          omega (arith, a, b)

  pub is_nested : NestedRule (flat_head code) (flat_body code) (link_count code)
  is_nested = is_rule code k v twice_or_never below
    where
      twice_or_never : LinkedItems (flat_head code) (flat_body code)
      twice_or_never x = let t = all_twice x 0 is in let s = count_same x in elim t.twice [ inl e ↦ inl (s ∙ e) | inr e ↦ inr (s ∙ e) ]

      never : (x : ℕ) → link_count code ≤ x → IsOneOf x (links_of_head (flat_head code)) ⊎ IsOneOf x (body_links (flat_body code)) → ⊥
      never x l (inl u) = let e = (all_twice x 0 is).behind (omega (arith, l)) in let s = count_same x in times_one x (links_of_head (flat_head code)) u (omega (arith, e, s))
      never x l (inr u) = let e = (all_twice x 0 is).behind (omega (arith, l)) in let s = count_same x in times_one x (body_links (flat_body code)) u (omega (arith, e, s))

      below : (x : ℕ) → IsOneOf x (links_of_head (flat_head code)) ⊎ IsOneOf x (body_links (flat_body code)) → x < link_count code
      below x o = elim (below_or_from x (link_count code)) [ inl l ↦ l | inr l ↦ absurd (never x l o) ]

-- Verified code is of a rule.
pub verified_is_rule : VerifiedIsRule
verified_is_rule code k v = is_nested code k v
