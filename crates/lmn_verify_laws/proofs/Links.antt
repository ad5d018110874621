-- The links of verified code: each port has one, and two ports have one where an instruction names both.
use Rattle.std.proofs.Common.{◌≡◌, ◌≢◌, ◌<◌, ◌≤◌, ◌+◌, ◌==◌, ◌&&◌, ◌⊎◌, inl, inr, ◌∙◌, ℕ, zero, suc, Bool, true, false, cond, List, [], ◌∷◌, ◌++◌, map, Option, Some, None, refl, sym, ap, subst, arith, true≢false}
use Rattle.std.specs.Prelude.{slice_get, count_by, if◌then◌else◌}
use Rattle.std.specs.List.{cons_option, flat_map}
use Rattle.std.proofs.lemmas.Bool.{eqb-true}
use Rattle.std.proofs.lemmas.List.{map-append}
use Rattle.lmn_base.proofs.Truth.{and_true}
use Rattle.lmn_base.proofs.Numbers.{equal_itself, unequal_when}
use Rattle.lmn_congruence_splice.specs.Classes.{rising}
use Rattle.lmn_congruence_splice.specs.Splice.{IsOneOf}
use Rattle.lmn_congruence_splice.proofs.Common.{in_append, in_front, in_back}
use Rattle.lmn_instr_code.specs.declared.instr.AtomPort.{AtomPort}
use Rattle.lmn_instr_code.specs.declared.instr.NewPort.{NewPort}
use Rattle.lmn_instr_code.specs.declared.instr.NewPort.TheVariants as new
use Rattle.lmn_instr_code.specs.declared.instr.Instr.{Instr}
use Rattle.lmn_instr_code.specs.declared.instr.Instr.TheVariants.{Deref, Joined, IsInt, IsUnary, IsGround, NewLink, Relink, Unify}
use Rattle.lmn_verify_code.specs.declared.found.FoundPart.{FoundPart}
use Rattle.lmn_verify_code.specs.Verified.{places, same_port, port_of_register, ports_of_registers, stand_once, part_found, parts_found}
use Rattle.lmn_verify_laws.specs.Flat.{linked_by, linked, link_at}
use Rattle.lmn_verify_laws.proofs.Listed.{all_is, counted_some, passing, passing_counted, passing_one}

-- ---- ports

-- ports that pass the test are one
pub port_is : (p q : NewPort) → same_port p q ≡ true → p ≡ q
port_is (new.Atom p) (new.Atom q) e =
    let t = and_true (p.atom == q.atom) (p.port == q.port) e in
    let a = eqb-true p.atom q.atom t.0 in
    let b = eqb-true p.port q.port t.1 in
    λ i. new.Atom (record { atom = a i; port = b i })
port_is (new.Atom p) (new.Copy c) e = absurd (true≢false (sym e))
port_is (new.Copy c) (new.Atom p) e = absurd (true≢false (sym e))
port_is (new.Copy c) (new.Copy d) e = ap new.Copy (eqb-true c d e)

-- a port passes with itself
pub port_itself : (p : NewPort) → same_port p p ≡ true
port_itself (new.Atom p) = λ i. equal_itself p.atom i && equal_itself p.port i
port_itself (new.Copy c) = equal_itself c

-- the port of an atom register that it is, or another
abbrev atom_port_or : AtomPort → NewPort → AtomPort
atom_port_or d (new.Atom p) = p
atom_port_or d (new.Copy c) = d

-- ports of registers that are one as new ports are one
pub atom_port_is : (p q : AtomPort) → new.Atom p ≡ new.Atom q → p ≡ q
atom_port_is p q e = ap (atom_port_or p) e

next_below : (b j : ℕ) → b < j + 1 → (b ≡ j → ⊥) → suc b < j + 1
next_below b j l d = grind arith

-- port i of the n-th of these registers is one of their ports
pub in_registers : (a : ℕ) (ns : List ℕ) (n i arity : ℕ) → slice_get ns n ≡ Some arity → i < arity → IsOneOf (new.Atom (port_of_register (a + n) i)) (ports_of_registers a ns)
in_registers a [] n i arity e l = absurd (cc)
in_registers a (k ∷ ns) zero i arity e l =
    let same : k ≡ arity = (let s : Some k ≡ Some arity = e in cc) in
    let z : a ≡ a + 0 = omega arith in
    in_front (new.Atom (port_of_register (a + 0) i)) (map (λ i. new.Atom (port_of_register a i)) (rising 0 k)) (ports_of_registers (a + 1) ns)
    (subst (λ b. IsOneOf (new.Atom (port_of_register b i)) (map (λ i. new.Atom (port_of_register a i)) (rising 0 k))) z (in_ports 0 k i (omega arith) (let b : i < 0 + arity = omega (arith, l) in subst (λ x. i < 0 + x) (sym same) b)))
  where
    in_ports : (b n j : ℕ) → b < j + 1 → j < b + n → IsOneOf (new.Atom (port_of_register a j)) (map (λ i. new.Atom (port_of_register a i)) (rising b n))
    in_ports b zero j u w = absurd (omega (arith, u, w))
    in_ports b (suc n) j u w = by (b == j) refl (λ x. in_ports (suc b) n j x (omega (arith, w)))
      where
        by : (t : Bool) → (b == j) ≡ t → (suc b < j + 1 → IsOneOf (new.Atom (port_of_register a j)) (map (λ i. new.Atom (port_of_register a i)) (rising (suc b) n))) → IsOneOf (new.Atom (port_of_register a j)) (map (λ i. new.Atom (port_of_register a i)) (rising b (suc n)))
        by true t more = inl (ap (λ x. new.Atom (port_of_register a x)) (eqb-true b j t))
        by false t more = inr (more (next_below b j u (unequal_when b j t)))
in_registers a (k ∷ ns) (suc n) i arity e l =
    let z : (a + 1) + n ≡ a + suc n = omega arith in
    in_back (new.Atom (port_of_register (a + suc n) i)) (map (λ i. new.Atom (port_of_register a i)) (rising 0 k)) (ports_of_registers (a + 1) ns)
    (subst (λ b. IsOneOf (new.Atom (port_of_register b i)) (ports_of_registers (a + 1) ns)) z (in_registers (a + 1) ns n i arity e l))

-- ---- the link of a port

pair_is : (e : NewPort × ℕ) (p : NewPort) → e.0 ≡ p → e ≡ (p, e.1)
pair_is e p s = λ i. (s i, e.1)

-- A port that stands in a list of ports with their links stands there with the link at it.
pub link_stands : (es : List (NewPort × ℕ)) (p : NewPort) (x : ℕ) → IsOneOf (p, x) es → IsOneOf (p, link_at es p) es
link_stands [] p x i = i
link_stands (e ∷ es) p x i = by (same_port e.0 p) refl i (link_stands es p x)
  where
    by : (b : Bool) → same_port e.0 p ≡ b → IsOneOf {A = NewPort × ℕ} (p, x) (e ∷ es) → (IsOneOf {A = NewPort × ℕ} (p, x) es → IsOneOf {A = NewPort × ℕ} (p, link_at es p) es) → IsOneOf {A = NewPort × ℕ} (p, if b then e.1 else link_at es p) (e ∷ es)
    by true t j more = inl (pair_is e p (port_is e.0 p t))
    by false t (inl s) more = absurd (true≢false (sym (port_itself p) ∙ (λ i. same_port (sym s i).0 p) ∙ t))
    by false t (inr j) more = inr (more j)

-- of ports at one number each stands with it
pub mapped_number : (k : ℕ) (ps : List NewPort) (e : NewPort × ℕ) → IsOneOf e (map (λ p. (p, k)) ps) → (e.1 ≡ k) × IsOneOf e.0 ps
mapped_number k [] e i = absurd i
mapped_number k (p ∷ ps) e (inl s) = ((λ j. (sym s j).1), inl (λ j. (s j).0))
mapped_number k (p ∷ ps) e (inr i) = let w = mapped_number k ps e i in (w.0, inr w.1)

-- an instruction has two numbers for the links at its ports
pub link_number : (k : ℕ) (i : Instr) (e : NewPort × ℕ) → IsOneOf e (linked_by k i) → (e.1 ≡ k) ⊎ (e.1 ≡ k + 1)
link_number k (Unify p q) e (inl s) = inl (λ j. (sym s j).1)
link_number k (Unify p q) e (inr (inl s)) = inr (λ j. (sym s j).1)
link_number k (Unify p q) e (inr (inr i)) = absurd i
link_number k i e o = inl (mapped_number k (places i) e o).0

-- a port with its link stands at an instruction, by its place
pub at_place : (k : ℕ) (is : List Instr) (e : NewPort × ℕ) → IsOneOf e (linked k is) → (t : ℕ) × (i : Instr) × (slice_get is t ≡ Some i) × IsOneOf e (linked_by (k + (t + t)) i)
at_place k [] e o = absurd o
at_place k (i ∷ is) e o = elim (in_append e (linked_by k i) (linked (k + 2) is) o) [
  | inl j ↦ (0, i, refl, let z : k ≡ k + (0 + 0) = omega arith in subst (λ x. IsOneOf e (linked_by x i)) z j)
  | inr j ↦ (let w = at_place (k + 2) is e j in let z : (k + 2) + (w.0 + w.0) ≡ k + (suc w.0 + suc w.0) = omega arith in (suc w.0, w.1, w.2, subst (λ x. IsOneOf e (linked_by x w.1)) z w.3))
]

-- and what stands at the instruction with a place stands in the whole
pub of_place : (k : ℕ) (is : List Instr) (e : NewPort × ℕ) (t : ℕ) (i : Instr) → slice_get is t ≡ Some i → IsOneOf e (linked_by (k + (t + t)) i) → IsOneOf e (linked k is)
of_place k [] e t i s o = absurd (cc)
of_place k (j ∷ is) e zero i s o =
    let same : j ≡ i = (let w : Some j ≡ Some i = s in cc) in
    let z : k + (0 + 0) ≡ k = omega arith in
    in_front e (linked_by k j) (linked (k + 2) is) (subst (λ x. IsOneOf e (linked_by k x)) (sym same) (subst (λ x. IsOneOf e (linked_by x i)) z o))
of_place k (j ∷ is) e (suc t) i s o =
    let z : k + (suc t + suc t) ≡ (k + 2) + (t + t) = omega arith in
    in_back e (linked_by k j) (linked (k + 2) is) (of_place (k + 2) is e t i s (subst (λ x. IsOneOf e (linked_by x i)) z o))

of_mapped : (k : ℕ) (ps : List NewPort) (p : NewPort) → IsOneOf p ps → IsOneOf {A = NewPort × ℕ} (p, k) (map (λ p. (p, k)) ps)
of_mapped k [] p i = i
of_mapped k (q ∷ ps) p (inl s) = inl (λ j. (s j, k))
of_mapped k (q ∷ ps) p (inr i) = inr (of_mapped k ps p i)

-- a port that an instruction names has a link at it
named : (k : ℕ) (i : Instr) (p : NewPort) → IsOneOf p (places i) → (x : ℕ) × IsOneOf (p, x) (linked_by k i)
named k (Unify u w) p (inl s) = (k, inl (λ j. (s j, k)))
named k (Unify u w) p (inr (inl s)) = (k + 1, inr (inl (λ j. (s j, k + 1))))
named k (Unify u w) p (inr (inr i)) = absurd i
named k i p o = (k, of_mapped k (places i) p o)

-- a port that stands in a place of code has a link
pub has_link : (k : ℕ) (is : List Instr) (p : NewPort) → IsOneOf p (flat_map places is) → (x : ℕ) × IsOneOf (p, x) (linked k is)
has_link k [] p o = absurd o
has_link k (i ∷ is) p o = elim (in_append p (places i) (flat_map places is) o) [
  | inl j ↦ (let w = named k i p j in (w.0, in_front (p, w.0) (linked_by k i) (linked (k + 2) is) w.1))
  | inr j ↦ (let w = has_link (k + 2) is p j in (w.0, in_back (p, w.0) (linked_by k i) (linked (k + 2) is) w.1))
]

-- A port of those that stand once stands at an instruction, with its link.
pub stands_at : (is : List Instr) (ports : List NewPort) (p : NewPort) → stand_once (flat_map places is) ports ≡ true → IsOneOf p ports →
    (t : ℕ) × (i : Instr) × (slice_get is t ≡ Some i) × IsOneOf (p, link_at (linked 0 is) p) (linked_by (t + t) i)
stands_at is ports p once o =
    let n = eqb-true (count_by (same_port p) (flat_map places is)) 1 (all_is (λ p. count_by (same_port p) (flat_map places is) == 1) ports p once o) in
    let q = counted_some (same_port p) (flat_map places is) 0 n in
    let x = has_link 0 is p (subst (λ z. IsOneOf z (flat_map places is)) (sym (port_is p q.0 q.2)) q.1) in
    let w = at_place 0 is (p, link_at (linked 0 is) p) (link_stands (linked 0 is) p x.0 x.1) in
    let z : 0 + (w.0 + w.0) ≡ w.0 + w.0 = omega arith in
    (w.0, w.1, w.2, subst (λ x. IsOneOf (p, link_at (linked 0 is) p) (linked_by x w.1)) z w.3)

-- ---- two ports at one link

same_place : (t u x : ℕ) → (x ≡ t + t) ⊎ (x ≡ (t + t) + 1) → (x ≡ u + u) ⊎ (x ≡ (u + u) + 1) → t ≡ u
same_place t u x (inl a) (inl b) = omega (arith, a, b)
same_place t u x (inl a) (inr b) = omega (arith, a, b)
same_place t u x (inr a) (inl b) = omega (arith, a, b)
same_place t u x (inr a) (inr b) = omega (arith, a, b)

-- ports at one link stand at one instruction
pub one_instruction : (is : List Instr) (t u x : ℕ) (i j : Instr) (p q : NewPort) → slice_get is t ≡ Some i → slice_get is u ≡ Some j → IsOneOf (p, x) (linked_by (t + t) i) → IsOneOf (q, x) (linked_by (u + u) j) → (t ≡ u) × (i ≡ j)
one_instruction is t u x i j p q a b o w =
    let s = same_place t u x (link_number (t + t) i (p, x) o) (link_number (u + u) j (q, x) w) in
    (s, let c : slice_get is u ≡ Some i = subst (λ z. slice_get is z ≡ Some i) s a in let d : Some i ≡ Some j = sym c ∙ b in cc)

-- Two ports of registers are at one link by this instruction.
abbrev pub LinksBoth : AtomPort → AtomPort → Instr → Type 0
LinksBoth p q (Deref a u k) = ((u ≡ p) × (port_of_register a k ≡ q)) ⊎ ((u ≡ q) × (port_of_register a k ≡ p))
LinksBoth p q (Joined u w) = ((u ≡ p) × (w ≡ q)) ⊎ ((u ≡ q) × (w ≡ p))
LinksBoth p q (NewLink u w) = (u ≡ new.Atom p) ⊎ (u ≡ new.Atom q)
LinksBoth p q (Relink u w) = (u ≡ new.Atom p) ⊎ (u ≡ new.Atom q)
LinksBoth p q _ = ⊥

both_of : (p q u w : NewPort) → IsOneOf p (u ∷ (w ∷ [])) → IsOneOf q (u ∷ (w ∷ [])) → p ≢ q → ((u ≡ p) × (w ≡ q)) ⊎ ((u ≡ q) × (w ≡ p))
both_of p q u w (inl a) (inl b) d = absurd (d (sym a ∙ b))
both_of p q u w (inl a) (inr (inl b)) d = inl (a, b)
both_of p q u w (inl a) (inr (inr b)) d = absurd b
both_of p q u w (inr (inl a)) (inl b) d = inr (b, a)
both_of p q u w (inr (inl a)) (inr (inl b)) d = absurd (d (sym a ∙ b))
both_of p q u w (inr (inl a)) (inr (inr b)) d = absurd b
both_of p q u w (inr (inr a)) b d = absurd a

first_of : (p q u w : NewPort) → ((u ≡ p) × (w ≡ q)) ⊎ ((u ≡ q) × (w ≡ p)) → (u ≡ p) ⊎ (u ≡ q)
first_of p q u w (inl a) = inl a.0
first_of p q u w (inr a) = inr a.0

of_registers : (p q u w : AtomPort) → ((new.Atom u ≡ new.Atom p) × (new.Atom w ≡ new.Atom q)) ⊎ ((new.Atom u ≡ new.Atom q) × (new.Atom w ≡ new.Atom p)) → ((u ≡ p) × (w ≡ q)) ⊎ ((u ≡ q) × (w ≡ p))
of_registers p q u w (inl a) = inl (atom_port_is u p a.0, atom_port_is w q a.1)
of_registers p q u w (inr a) = inr (atom_port_is u q a.0, atom_port_is w p a.1)

no_one : (p q u : NewPort) → IsOneOf p (u ∷ []) → IsOneOf q (u ∷ []) → p ≢ q → ⊥
no_one p q u (inl a) (inl b) d = d (sym a ∙ b)
no_one p q u (inl a) (inr b) d = b
no_one p q u (inr a) b d = a

-- Two ports of registers that an instruction has at one number are at one link by it.
pub links_both : (k x : ℕ) (i : Instr) (p q : AtomPort) → IsOneOf (new.Atom p, x) (linked_by k i) → IsOneOf (new.Atom q, x) (linked_by k i) → p ≢ q → LinksBoth p q i
links_both k x (Deref a u n) p q o w d = of_registers p q u (port_of_register a n) (both_of (new.Atom p) (new.Atom q) (new.Atom u) (new.Atom (port_of_register a n)) (mapped_number k (places (Deref a u n)) (new.Atom p, x) o).1 (mapped_number k (places (Deref a u n)) (new.Atom q, x) w).1 (λ e. d (atom_port_is p q e)))
links_both k x (Joined u v) p q o w d = of_registers p q u v (both_of (new.Atom p) (new.Atom q) (new.Atom u) (new.Atom v) (mapped_number k (places (Joined u v)) (new.Atom p, x) o).1 (mapped_number k (places (Joined u v)) (new.Atom q, x) w).1 (λ e. d (atom_port_is p q e)))
links_both k x (NewLink u v) p q o w d = first_of (new.Atom p) (new.Atom q) u v (both_of (new.Atom p) (new.Atom q) u v (mapped_number k (places (NewLink u v)) (new.Atom p, x) o).1 (mapped_number k (places (NewLink u v)) (new.Atom q, x) w).1 (λ e. d (atom_port_is p q e)))
links_both k x (Relink u v) p q o w d = first_of (new.Atom p) (new.Atom q) u (new.Atom v) (both_of (new.Atom p) (new.Atom q) u (new.Atom v) (mapped_number k (places (Relink u v)) (new.Atom p, x) o).1 (mapped_number k (places (Relink u v)) (new.Atom q, x) w).1 (λ e. d (atom_port_is p q e)))
links_both k x (IsInt g u m) p q o w d = no_one (new.Atom p) (new.Atom q) (new.Atom u) (mapped_number k (places (IsInt g u m)) (new.Atom p, x) o).1 (mapped_number k (places (IsInt g u m)) (new.Atom q, x) w).1 (λ e. d (atom_port_is p q e))
links_both k x (IsUnary g u m) p q o w d = no_one (new.Atom p) (new.Atom q) (new.Atom u) (mapped_number k (places (IsUnary g u m)) (new.Atom p, x) o).1 (mapped_number k (places (IsUnary g u m)) (new.Atom q, x) w).1 (λ e. d (atom_port_is p q e))
links_both k x (IsGround g u m) p q o w d = no_one (new.Atom p) (new.Atom q) (new.Atom u) (mapped_number k (places (IsGround g u m)) (new.Atom p, x) o).1 (mapped_number k (places (IsGround g u m)) (new.Atom q, x) w).1 (λ e. d (atom_port_is p q e))
links_both k x (Unify u v) p q (inl a) (inl b) d = absurd (d (atom_port_is p q ((λ j. (sym a j).0) ∙ (λ j. (b j).0))))
links_both k x (Unify u v) p q (inl a) (inr (inl b)) d = absurd (let e : x ≡ k = (λ j. (sym a j).1) in let f : x ≡ k + 1 = (λ j. (sym b j).1) in omega (arith, e, f))
links_both k x (Unify u v) p q (inl a) (inr (inr b)) d = absurd b
links_both k x (Unify u v) p q (inr (inl a)) (inl b) d = absurd (let e : x ≡ k + 1 = (λ j. (sym a j).1) in let f : x ≡ k = (λ j. (sym b j).1) in omega (arith, e, f))
links_both k x (Unify u v) p q (inr (inl a)) (inr (inl b)) d = absurd (d (atom_port_is p q ((λ j. (sym a j).0) ∙ (λ j. (b j).0))))
links_both k x (Unify u v) p q (inr (inl a)) (inr (inr b)) d = absurd b
links_both k x (Unify u v) p q (inr (inr a)) b d = absurd a
links_both k x _ p q o w d = absurd o

-- ---- a port that stands once

-- the port of a pair is one of the ports
pub first_mapped : (p : NewPort) (es : List (NewPort × ℕ)) (x : ℕ) → IsOneOf {A = NewPort × ℕ} (p, x) es → IsOneOf p (map (λ (e : NewPort × ℕ). e.0) es)
first_mapped p [] x i = i
first_mapped p (e ∷ es) x (inl s) = inl (λ l. (s l).0)
first_mapped p (e ∷ es) x (inr i) = inr (first_mapped p es x i)

once_entry : (p : NewPort) (es : List (NewPort × ℕ)) (x y : ℕ) → passing (same_port p) (map (λ (e : NewPort × ℕ). e.0) es) ≤ 1 → IsOneOf {A = NewPort × ℕ} (p, x) es → IsOneOf {A = NewPort × ℕ} (p, y) es → x ≡ y
once_entry p [] x y n i j = absurd i
once_entry p (e ∷ es) x y n i j = by (same_port p e.0) refl n i j (once_entry p es x y)
  where
    never : (z : ℕ) → IsOneOf {A = NewPort × ℕ} (p, z) es → 1 + passing (same_port p) (map (λ (e : NewPort × ℕ). e.0) es) ≤ 1 → ⊥
    never z u m = passing_one (same_port p) (map (λ (e : NewPort × ℕ). e.0) es) p (first_mapped p es z u) (port_itself p) (omega (arith, m))

    by : (b : Bool) → same_port p e.0 ≡ b → cond b (1 + passing (same_port p) (map (λ (e : NewPort × ℕ). e.0) es)) (passing (same_port p) (map (λ (e : NewPort × ℕ). e.0) es)) ≤ 1 → IsOneOf {A = NewPort × ℕ} (p, x) (e ∷ es) → IsOneOf {A = NewPort × ℕ} (p, y) (e ∷ es) → (passing (same_port p) (map (λ (e : NewPort × ℕ). e.0) es) ≤ 1 → IsOneOf {A = NewPort × ℕ} (p, x) es → IsOneOf {A = NewPort × ℕ} (p, y) es → x ≡ y) → x ≡ y
    by b t m (inl s) (inl u) more = (λ l. (sym s l).1) ∙ (λ l. (u l).1)
    by true t m (inl s) (inr u) more = absurd (never y u m)
    by true t m (inr s) (inl u) more = absurd (never x s m)
    by true t m (inr s) (inr u) more = absurd (never x s m)
    by false t m (inl s) (inr u) more = absurd (true≢false (sym (port_itself p) ∙ (λ l. same_port p (sym s l).0) ∙ t))
    by false t m (inr s) (inl u) more = absurd (true≢false (sym (port_itself p) ∙ (λ l. same_port p (sym u l).0) ∙ t))
    by false t m (inr s) (inr u) more = more m s u

ports_of_pairs : (k : ℕ) (ps : List NewPort) → map (λ (e : NewPort × ℕ). e.0) (map (λ p. (p, k)) ps) ≡ ps
ports_of_pairs k [] = refl
ports_of_pairs k (p ∷ ps) = ap (λ l. p ∷ l) (ports_of_pairs k ps)

-- those at an instruction
pub ports_linked_by : (k : ℕ) (i : Instr) → map (λ (e : NewPort × ℕ). e.0) (linked_by k i) ≡ places i
ports_linked_by k (Unify p q) = refl
ports_linked_by k i = ports_of_pairs k (places i)

-- the ports with links are those in places
pub ports_linked : (k : ℕ) (is : List Instr) → map (λ (e : NewPort × ℕ). e.0) (linked k is) ≡ flat_map places is
ports_linked k [] = refl
ports_linked k (i ∷ is) = map-append (λ (e : NewPort × ℕ). e.0) (linked_by k i) (linked (k + 2) is) ∙ (λ l. ports_linked_by k i l ++ ports_linked (k + 2) is l)

-- The link at a port that stands once is the one with which it stands at an instruction.
pub link_is : (is : List Instr) (ports : List NewPort) (p : NewPort) (t x : ℕ) (i : Instr) → stand_once (flat_map places is) ports ≡ true → IsOneOf p ports → slice_get is t ≡ Some i → IsOneOf (p, x) (linked_by (t + t) i) → link_at (linked 0 is) p ≡ x
link_is is ports p t x i once o s w =
    let n = eqb-true (count_by (same_port p) (flat_map places is)) 1 (all_is (λ p. count_by (same_port p) (flat_map places is) == 1) ports p once o) in
    let m : passing (same_port p) (map (λ (e : NewPort × ℕ). e.0) (linked 0 is)) ≡ 1 = ap (passing (same_port p)) (ports_linked 0 is) ∙ passing_counted (same_port p) (flat_map places is) ∙ n in
    let z : t + t ≡ 0 + (t + t) = omega arith in
    let here = of_place 0 is (p, x) t i s (subst (λ y. IsOneOf (p, x) (linked_by y i)) z w) in
    once_entry p (linked 0 is) (link_at (linked 0 is) p) x (omega (arith, m)) (link_stands (linked 0 is) p x here) here

-- ---- typed contexts

-- the port before a typed context, if there is one
abbrev pub port_or : AtomPort → Option FoundPart → AtomPort
port_or p None = p
port_or p (Some x) = x.port

-- The instruction that finds a typed context names its port alone.
pub part_place : (is : List Instr) (g : ℕ) (x : FoundPart) → slice_get (parts_found is) g ≡ Some x → (t : ℕ) × (i : Instr) × (slice_get is t ≡ Some i) × (part_found i ≡ Some x)
part_place [] g x e = absurd (cc)
part_place (i ∷ is) g x e = by (part_found i) refl g e (λ j. part_place is j x)
  where
    by : (o : Option FoundPart) → part_found i ≡ o → (g : ℕ) → slice_get (cons_option o (parts_found is)) g ≡ Some x
        → ((j : ℕ) → slice_get (parts_found is) j ≡ Some x → (t : ℕ) × (j : Instr) × (slice_get is t ≡ Some j) × (part_found j ≡ Some x)) → (t : ℕ) × (j : Instr) × (slice_get (i ∷ is) t ≡ Some j) × (part_found j ≡ Some x)
    by None f g e more = let w = more g e in (suc w.0, w.1, w.2, w.3)
    by (Some y) f zero e more = (0, i, refl, f ∙ e)
    by (Some y) f (suc g) e more = let w = more g e in (suc w.0, w.1, w.2, w.3)

-- It has the first of its numbers at this port.
pub part_ports : (k : ℕ) (i : Instr) (x : FoundPart) → part_found i ≡ Some x → linked_by k i ≡ (new.Atom x.port, k) ∷ []
part_ports k (IsInt g p m) x e = ap (λ o. (new.Atom (port_or p o), k) ∷ []) e
part_ports k (IsUnary g p m) x e = ap (λ o. (new.Atom (port_or p o), k) ∷ []) e
part_ports k (IsGround g p m) x e = ap (λ o. (new.Atom (port_or p o), k) ∷ []) e
part_ports k _ x e = absurd (cc)
