-- Each link of the flat rule of verified code stands twice.
use Rattle.std.proofs.Common.{◌≡◌, ◌≢◌, ◌<◌, ◌≤◌, ◌+◌, ◌==◌, ◌&&◌, ◌∙◌, inl, inr, ℕ, zero, suc, Bool, true, false, cond, List, [], ◌∷◌, ◌++◌, map, refl, sym, ap, arith}
use Rattle.std.specs.Prelude.{if◌then◌else◌}
use Rattle.std.proofs.lemmas.Bool.{cases_eq, eqb-true}
use Rattle.lmn_base.proofs.Numbers.{not_equal}
use Rattle.lmn_base.proofs.Truth.{and_true}
use Rattle.lmn_congruence_splice.specs.Classes.{rising}
use Rattle.lmn_solid_heads.specs.Heads.{times}
use Rattle.lmn_instr_code.specs.declared.instr.AtomPort.{AtomPort}
use Rattle.lmn_instr_code.specs.declared.instr.NewPort.{NewPort}
use Rattle.lmn_instr_code.specs.declared.instr.NewPort.TheVariants as new
use Rattle.lmn_verify_code.specs.Verified.{same_port, port_of_register, ports_of_registers}
use Rattle.lmn_verify_laws.proofs.Links.{port_is, port_itself}
use Rattle.lmn_verify_laws.proofs.Listed.{passing, passing_one}

-- ---- counts of ports

-- what passes of two lists, one behind the other, passes of either
pub passing_append : (test : NewPort → Bool) (xs ys : List NewPort) → passing test (xs ++ ys) ≡ passing test xs + passing test ys
passing_append test [] ys = omega arith
passing_append test (x ∷ xs) ys = by (test x) (passing_append test xs ys)
  where
    by : (b : Bool) → passing test (xs ++ ys) ≡ passing test xs + passing test ys → cond b (1 + passing test (xs ++ ys)) (passing test (xs ++ ys)) ≡ cond b (1 + passing test xs) (passing test xs) + passing test ys
    by true e = omega (arith, e)
    by false e = e

-- a test that passes of one item more
abbrev one_if : Bool → ℕ
one_if b = cond b 1 0

cond_sum : (b : Bool) (n : ℕ) → cond b (1 + n) n ≡ one_if b + n
cond_sum true n = refl
cond_sum false n = omega arith

-- a list without the first of the ports that are this
abbrev without : NewPort → List NewPort → List NewPort
without p [] = []
without p (q ∷ qs) = if same_port p q then qs else q ∷ without p qs

without_counts : (p : NewPort) (ys : List NewPort) → passing (same_port p) ys ≢ 0 → (q : NewPort) → passing (same_port q) ys ≡ one_if (same_port q p) + passing (same_port q) (without p ys)
without_counts p [] d q = absurd (d refl)
without_counts p (y ∷ ys) d q = by (same_port p y) refl d (without_counts p ys)
  where
    by : (b : Bool) → same_port p y ≡ b → cond b (1 + passing (same_port p) ys) (passing (same_port p) ys) ≢ 0
        → (passing (same_port p) ys ≢ 0 → (q : NewPort) → passing (same_port q) ys ≡ one_if (same_port q p) + passing (same_port q) (without p ys))
        → cond (same_port q y) (1 + passing (same_port q) ys) (passing (same_port q) ys) ≡ one_if (same_port q p) + passing (same_port q) (if b then ys else y ∷ without p ys)
    by true e d more = cond_sum (same_port q y) (passing (same_port q) ys) ∙ ap (λ z. one_if (same_port q z) + passing (same_port q) ys) (sym (port_is p y e))
    by false e d more =
        let u = more d q in
        let a = cond_sum (same_port q y) (passing (same_port q) ys) in
        let b = cond_sum (same_port q y) (passing (same_port q) (without p ys)) in
        omega (arith, u, a, b)

module _ (f : NewPort → ℕ) (x : ℕ) where
  without_times : (p : NewPort) (ys : List NewPort) → passing (same_port p) ys ≢ 0 → times x (map f ys) ≡ (if f p == x then 1 else 0) + times x (map f (without p ys))
  without_times p [] d = absurd (d refl)
  without_times p (y ∷ ys) d = by (same_port p y) refl d (without_times p ys)
    where
      by : (b : Bool) → same_port p y ≡ b → cond b (1 + passing (same_port p) ys) (passing (same_port p) ys) ≢ 0
          → (passing (same_port p) ys ≢ 0 → times x (map f ys) ≡ (if f p == x then 1 else 0) + times x (map f (without p ys)))
          → (if f y == x then 1 else 0) + times x (map f ys) ≡ (if f p == x then 1 else 0) + times x (map f (if b then ys else y ∷ without p ys))
      by true e d more = ap (λ z. (if f z == x then 1 else 0) + times x (map f ys)) (sym (port_is p y e))
      by false e d more = let u = more d in omega (arith, u)

  -- Where each port stands as often in two lists, so does each number of a port.
  pub same_times : (xs ys : List NewPort) → ((p : NewPort) → passing (same_port p) xs ≡ passing (same_port p) ys) → times x (map f xs) ≡ times x (map f ys)
  same_times [] [] e = refl
  same_times [] (y ∷ ys) e = absurd (passing_one (same_port y) (y ∷ ys) y (inl refl) (port_itself y) (sym (e y)))
  same_times (z ∷ xs) ys e =
      let there : passing (same_port z) ys ≢ 0 = λ n. passing_one (same_port z) (z ∷ xs) z (inl refl) (port_itself z) (e z ∙ n) in
      let rest = same_times xs (without z ys) (λ p. (let a = e p in let b = cond_sum (same_port p z) (passing (same_port p) xs) in let c = without_counts z ys there p in omega (arith, a, b, c))) in
      let w = without_times z ys there in
      omega (arith, rest, w)

-- ---- each port once

ports_apart : (b a n : ℕ) (p : AtomPort) → p.atom ≢ a → passing (same_port (new.Atom p)) (map (λ i. new.Atom (port_of_register a i)) (rising b n)) ≡ 0
ports_apart b a zero p d = refl
ports_apart b a (suc n) p d = (λ i. cond (not_equal p.atom a d i && (p.port == b)) (1 + rest) rest) ∙ ports_apart (suc b) a n p d
  where
    rest : ℕ
    rest = passing (same_port (new.Atom p)) (map (λ i. new.Atom (port_of_register a i)) (rising (suc b) n))

ports_below : (b a n : ℕ) (p : AtomPort) → p.port < b → passing (same_port (new.Atom p)) (map (λ i. new.Atom (port_of_register a i)) (rising b n)) ≡ 0
ports_below b a zero p l = refl
ports_below b a (suc n) p l = by (p.atom == a) (not_equal p.port b (λ e. omega (arith, e, l))) (ports_below (suc b) a n p (omega (arith, l)))
  where
    by : (c : Bool) → (p.port == b) ≡ false → passing (same_port (new.Atom p)) (map (λ i. new.Atom (port_of_register a i)) (rising (suc b) n)) ≡ 0
        → cond (c && (p.port == b)) (1 + passing (same_port (new.Atom p)) (map (λ i. new.Atom (port_of_register a i)) (rising (suc b) n))) (passing (same_port (new.Atom p)) (map (λ i. new.Atom (port_of_register a i)) (rising (suc b) n))) ≡ 0
    by true e z = ap (λ t. cond t (1 + passing (same_port (new.Atom p)) (map (λ i. new.Atom (port_of_register a i)) (rising (suc b) n))) (passing (same_port (new.Atom p)) (map (λ i. new.Atom (port_of_register a i)) (rising (suc b) n)))) e ∙ z
    by false e z = z

ports_once : (b a n : ℕ) (p : AtomPort) → passing (same_port (new.Atom p)) (map (λ i. new.Atom (port_of_register a i)) (rising b n)) ≤ 1
ports_once b a zero p = omega arith
ports_once b a (suc n) p = by (same_port (new.Atom p) (new.Atom (port_of_register a b))) refl (ports_once (suc b) a n p)
  where
    by : (c : Bool) → same_port (new.Atom p) (new.Atom (port_of_register a b)) ≡ c → passing (same_port (new.Atom p)) (map (λ i. new.Atom (port_of_register a i)) (rising (suc b) n)) ≤ 1
        → cond c (1 + passing (same_port (new.Atom p)) (map (λ i. new.Atom (port_of_register a i)) (rising (suc b) n))) (passing (same_port (new.Atom p)) (map (λ i. new.Atom (port_of_register a i)) (rising (suc b) n))) ≤ 1
    by true e l = let s = eqb-true p.port b (and_true (p.atom == a) (p.port == b) e).1 in let z = ports_below (suc b) a n p (omega (arith, s)) in omega (arith, z)
    by false e l = l

registers_below : (a : ℕ) (ns : List ℕ) (p : AtomPort) → p.atom < a → passing (same_port (new.Atom p)) (ports_of_registers a ns) ≡ 0
registers_below a [] p l = refl
registers_below a (n ∷ ns) p l =
    let s = passing_append (same_port (new.Atom p)) (map (λ i. new.Atom (port_of_register a i)) (rising 0 n)) (ports_of_registers (a + 1) ns) in
    let u = ports_apart 0 a n p (λ e. omega (arith, e, l)) in
    let w = registers_below (a + 1) ns p (omega (arith, l)) in
    omega (arith, s, u, w)

-- each port of a register stands once at most
registers_once : (a : ℕ) (ns : List ℕ) (p : AtomPort) → passing (same_port (new.Atom p)) (ports_of_registers a ns) ≤ 1
registers_once a [] p = omega arith
registers_once a (n ∷ ns) p =
    let s = passing_append (same_port (new.Atom p)) (map (λ i. new.Atom (port_of_register a i)) (rising 0 n)) (ports_of_registers (a + 1) ns) in
    elim (cases_eq p.atom a) [
      | inl e ↦ (let u = ports_once 0 a n p in let w = registers_below (a + 1) ns p (omega (arith, e)) in omega (arith, s, u, w))
      | inr d ↦ (let u = ports_apart 0 a n p d in let w = registers_once (a + 1) ns p in omega (arith, s, u, w))
    ]

no_copy_port : (c a : ℕ) (is : List ℕ) → passing (same_port (new.Copy c)) (map (λ i. new.Atom (port_of_register a i)) is) ≡ 0
no_copy_port c a [] = refl
no_copy_port c a (i ∷ is) = no_copy_port c a is

no_copies_registers : (c a : ℕ) (ns : List ℕ) → passing (same_port (new.Copy c)) (ports_of_registers a ns) ≡ 0
no_copies_registers c a [] = refl
no_copies_registers c a (n ∷ ns) =
    let s = passing_append (same_port (new.Copy c)) (map (λ i. new.Atom (port_of_register a i)) (rising 0 n)) (ports_of_registers (a + 1) ns) in
    let u = no_copy_port c a (rising 0 n) in
    let w = no_copies_registers c (a + 1) ns in
    omega (arith, s, u, w)

no_ports_copies : (p : AtomPort) (cs : List ℕ) → passing (same_port (new.Atom p)) (map new.Copy cs) ≡ 0
no_ports_copies p [] = refl
no_ports_copies p (c ∷ cs) = no_ports_copies p cs

copies_below : (b n c : ℕ) → c < b → passing (same_port (new.Copy c)) (map new.Copy (rising b n)) ≡ 0
copies_below b zero c l = refl
copies_below b (suc n) c l = (λ i. cond (not_equal c b (λ e. omega (arith, e, l)) i) (1 + rest) rest) ∙ copies_below (suc b) n c (omega (arith, l))
  where
    rest : ℕ
    rest = passing (same_port (new.Copy c)) (map new.Copy (rising (suc b) n))

copies_once : (b n c : ℕ) → passing (same_port (new.Copy c)) (map new.Copy (rising b n)) ≤ 1
copies_once b zero c = omega arith
copies_once b (suc n) c = by (c == b) refl (copies_once (suc b) n c)
  where
    by : (t : Bool) → (c == b) ≡ t → passing (same_port (new.Copy c)) (map new.Copy (rising (suc b) n)) ≤ 1
        → cond t (1 + passing (same_port (new.Copy c)) (map new.Copy (rising (suc b) n))) (passing (same_port (new.Copy c)) (map new.Copy (rising (suc b) n))) ≤ 1
    by true e l = let s = eqb-true c b e in let z = copies_below (suc b) n c (omega (arith, s)) in omega (arith, z)
    by false e l = l

-- Each port of registers and each copy stands once at most.
pub each_once : (a : ℕ) (ns : List ℕ) (b n : ℕ) (p : NewPort) → passing (same_port p) (ports_of_registers a ns ++ map new.Copy (rising b n)) ≤ 1
each_once a ns b n (new.Atom p) =
    let s = passing_append (same_port (new.Atom p)) (ports_of_registers a ns) (map new.Copy (rising b n)) in
    let u = registers_once a ns p in
    let w = no_ports_copies p (rising b n) in
    omega (arith, s, u, w)
each_once a ns b n (new.Copy c) =
    let s = passing_append (same_port (new.Copy c)) (ports_of_registers a ns) (map new.Copy (rising b n)) in
    let u = no_copies_registers c a ns in
    let w = copies_once b n c in
    omega (arith, s, u, w)
