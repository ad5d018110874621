-- The numbers of links: each stands twice at the ports of instructions, before typed contexts and in connectors, or never.
use Rattle.std.proofs.Common.{◌≡◌, ◌≢◌, ◌<◌, ◌≤◌, ◌+◌, ◌==◌, ◌⊎◌, inl, inr, ℕ, suc, List, [], ◌∷◌, map, length, refl, sym, ap, ◌∙◌, arith}
use Rattle.std.specs.Prelude.{if◌then◌else◌}
use Rattle.std.proofs.lemmas.Bool.{cases_eq}
use Rattle.lmn_base.proofs.Numbers.{equal_itself, not_equal}
use Rattle.lmn_solid_heads.specs.Heads.{times}
use Rattle.lmn_solid_bodies.specs.Items.{body_links}
use Rattle.lmn_instr_code.specs.declared.instr.NewPort.{NewPort}
use Rattle.lmn_instr_code.specs.declared.instr.Instr.{Instr}
use Rattle.lmn_instr_code.specs.declared.instr.Instr.TheVariants.{Deref, Joined, IsInt, IsUnary, IsGround, NewLink, Relink, Unify}
use Rattle.lmn_verify_laws.specs.Flat.{connected, linked}

-- the numbers of the instructions that find typed contexts
abbrev pub typed_numbers : ℕ → List Instr → List ℕ
typed_numbers k [] = []
typed_numbers k (IsInt g p m ∷ is) = k ∷ typed_numbers (k + 2) is
typed_numbers k (IsUnary g p m ∷ is) = k ∷ typed_numbers (k + 2) is
typed_numbers k (IsGround g p m ∷ is) = k ∷ typed_numbers (k + 2) is
typed_numbers k (_ ∷ is) = typed_numbers (k + 2) is

-- the links at the ports of instructions
abbrev pub port_numbers : ℕ → List Instr → List ℕ
port_numbers k is = map (λ (e : NewPort × ℕ). e.1) (linked k is)

-- how often a number stands in all of these
abbrev pub total : ℕ → ℕ → List Instr → ℕ
total x k is = (times x (port_numbers k is) + times x (typed_numbers k is)) + times x (body_links (connected k is))

abbrev hit : ℕ → ℕ → ℕ
hit k x = if k == x then 1 else 0

hit_here : (k : ℕ) → hit k k ≡ 1
hit_here k = ap (λ b. if b then 1 else 0) (equal_itself k)

hit_there : (k x : ℕ) → k ≢ x → hit k x ≡ 0
hit_there k x d = ap (λ b. if b then 1 else 0) (not_equal k x d)

-- what a number x beyond those of an instruction, and one that is less, are told
pub record Counted (x k n t : ℕ) : Type 0 where
  pub before : x < k → t ≡ 0
  pub behind : k + (n + n) ≤ x → t ≡ 0
  pub twice : (t ≡ 0) ⊎ (t ≡ 2)

module _ (x k n : ℕ) (p q r : ℕ) (later : Counted x (k + 2) n ((p + q) + r)) where
  none_more : Counted x k (suc n) ((p + q) + r)
  none_more = record { before = λ l. later.before (omega (arith, l)); behind = λ l. later.behind (omega (arith, l)); twice = later.twice }

  two_ports : Counted x k (suc n) (((hit k x + (hit k x + p)) + q) + r)
  two_ports = record {
    before = λ l. let e = hit_there k x (λ s. omega (arith, l, s)) in let t = later.before (omega (arith, l)) in omega (arith, e, t);
    behind = λ l. let e = hit_there k x (λ s. omega (arith, l, s)) in let t = later.behind (omega (arith, l)) in omega (arith, e, t);
    twice = elim (cases_eq k x) [
      | inl s ↦ (let e : hit k x ≡ 1 = ap (hit k) (sym s) ∙ hit_here k in let t = later.before (omega (arith, s)) in inr (omega (arith, e, t)))
      | inr d ↦ (let e = hit_there k x d in elim later.twice [ inl t ↦ inl (omega (arith, e, t)) | inr t ↦ inr (omega (arith, e, t)) ])
    ];
  }

  port_and_typed : Counted x k (suc n) (((hit k x + p) + (hit k x + q)) + r)
  port_and_typed = record {
    before = λ l. let e = hit_there k x (λ s. omega (arith, l, s)) in let t = later.before (omega (arith, l)) in omega (arith, e, t);
    behind = λ l. let e = hit_there k x (λ s. omega (arith, l, s)) in let t = later.behind (omega (arith, l)) in omega (arith, e, t);
    twice = elim (cases_eq k x) [
      | inl s ↦ (let e : hit k x ≡ 1 = ap (hit k) (sym s) ∙ hit_here k in let t = later.before (omega (arith, s)) in inr (omega (arith, e, t)))
      | inr d ↦ (let e = hit_there k x d in elim later.twice [ inl t ↦ inl (omega (arith, e, t)) | inr t ↦ inr (omega (arith, e, t)) ])
    ];
  }

  ports_and_connector : Counted x k (suc n) (((hit k x + (hit (k + 1) x + p)) + q) + (hit k x + (hit (k + 1) x + r)))
  ports_and_connector = record {
    before = λ l. let e = hit_there k x (λ s. omega (arith, l, s)) in let f = hit_there (k + 1) x (λ s. omega (arith, l, s)) in let t = later.before (omega (arith, l)) in omega (arith, e, f, t);
    behind = λ l. let e = hit_there k x (λ s. omega (arith, l, s)) in let f = hit_there (k + 1) x (λ s. omega (arith, l, s)) in let t = later.behind (omega (arith, l)) in omega (arith, e, f, t);
    twice = elim (cases_eq k x) [
      | inl s ↦ (let e : hit k x ≡ 1 = ap (hit k) (sym s) ∙ hit_here k in let f = hit_there (k + 1) x (λ u. omega (arith, u, s)) in let t = later.before (omega (arith, s)) in inr (omega (arith, e, f, t)))
      | inr d ↦ (let e = hit_there k x d in elim (cases_eq (k + 1) x) [
        | inl s ↦ (let f : hit (k + 1) x ≡ 1 = ap (hit (k + 1)) (sym s) ∙ hit_here (k + 1) in let t = later.before (omega (arith, s)) in inr (omega (arith, e, f, t)))
        | inr c ↦ (let f = hit_there (k + 1) x c in elim later.twice [ inl t ↦ inl (omega (arith, e, f, t)) | inr t ↦ inr (omega (arith, e, f, t)) ])
      ])
    ];
  }

-- Each number stands twice or never, and there are two for each instruction.
pub all_twice : (x k : ℕ) (is : List Instr) → Counted x k (length is) (total x k is)
all_twice x k [] = record { before = λ l. refl; behind = λ l. refl; twice = inl refl }
all_twice x k (Deref a p j ∷ is) = two_ports x k (length is) (times x (port_numbers (k + 2) is)) (times x (typed_numbers (k + 2) is)) (times x (body_links (connected (k + 2) is))) (all_twice x (k + 2) is)
all_twice x k (Joined p q ∷ is) = two_ports x k (length is) (times x (port_numbers (k + 2) is)) (times x (typed_numbers (k + 2) is)) (times x (body_links (connected (k + 2) is))) (all_twice x (k + 2) is)
all_twice x k (NewLink p q ∷ is) = two_ports x k (length is) (times x (port_numbers (k + 2) is)) (times x (typed_numbers (k + 2) is)) (times x (body_links (connected (k + 2) is))) (all_twice x (k + 2) is)
all_twice x k (Relink p q ∷ is) = two_ports x k (length is) (times x (port_numbers (k + 2) is)) (times x (typed_numbers (k + 2) is)) (times x (body_links (connected (k + 2) is))) (all_twice x (k + 2) is)
all_twice x k (IsInt g p m ∷ is) = port_and_typed x k (length is) (times x (port_numbers (k + 2) is)) (times x (typed_numbers (k + 2) is)) (times x (body_links (connected (k + 2) is))) (all_twice x (k + 2) is)
all_twice x k (IsUnary g p m ∷ is) = port_and_typed x k (length is) (times x (port_numbers (k + 2) is)) (times x (typed_numbers (k + 2) is)) (times x (body_links (connected (k + 2) is))) (all_twice x (k + 2) is)
all_twice x k (IsGround g p m ∷ is) = port_and_typed x k (length is) (times x (port_numbers (k + 2) is)) (times x (typed_numbers (k + 2) is)) (times x (body_links (connected (k + 2) is))) (all_twice x (k + 2) is)
all_twice x k (Unify p q ∷ is) = ports_and_connector x k (length is) (times x (port_numbers (k + 2) is)) (times x (typed_numbers (k + 2) is)) (times x (body_links (connected (k + 2) is))) (all_twice x (k + 2) is)
all_twice x k (_ ∷ is) = none_more x k (length is) (times x (port_numbers (k + 2) is)) (times x (typed_numbers (k + 2) is)) (times x (body_links (connected (k + 2) is))) (all_twice x (k + 2) is)
