-- The code that changes nothing ties each end of the rule without items.
use Rattle.std.proofs.Common.{ℕ, ◌≡◌, ◌⊎◌, [], ◌∷◌, refl, ap, subst, inl, inr, arith}
use Rattle.lmn_congruence_splice.specs.Splice.{IsOneOf}
use Rattle.lmn_instr_code.specs.declared.instr.Instr.{Instr}
use Rattle.lmn_instr_code.specs.declared.instr.Instr.TheVariants.{DropCells, NewLink, Proceed}
use Rattle.lmn_instr_code.specs.declared.instr.NewPort.{NewPort}
use Rattle.lmn_instr_code.specs.declared.instr.NewPort.TheVariants as new
use Rattle.lmn_verify_solids.specs.Examples.{IdleCodeTies, idle, two_joined}
use Rattle.lmn_verify_solids.specs.Flats.{HasEachTie}

-- only one instruction is the last
abbrev IsLast : Instr → Type 0
IsLast Proceed = Unit {0}
IsLast _ = ⊥

drops_none : (k : ℕ) → IsOneOf (DropCells k) (Proceed ∷ []) → ⊥
drops_none k (inl e) = subst IsLast e tt
drops_none k (inr i) = i

links_none : (p q : NewPort) → IsOneOf (NewLink p q) (Proceed ∷ []) → ⊥
links_none p q (inl e) = subst IsLast e tt
links_none p q (inr i) = i

-- the register at which a new port stands
abbrev register : NewPort → ℕ
register (new.Atom p) = p.atom
register (new.Copy c) = c

abbrev port : ℕ → NewPort
port a = new.Atom (record { atom = a; port = 0 })

ties_none : HasEachTie [] two_joined idle → ⊥
ties_none w = by (w.both_new 0 (port 0) (port 1) (inl refl) (inr (inl refl)))
  where
    by : (port 0 ≡ port 1) ⊎ (IsOneOf (NewLink (port 0) (port 1)) (Proceed ∷ []) ⊎ IsOneOf (NewLink (port 1) (port 0)) (Proceed ∷ [])) → ⊥
    by (inl e) = let n : ◌≡◌ {A = ℕ} 0 1 = ap register e in absurd (omega (arith, n))
    by (inr (inl i)) = links_none (port 0) (port 1) i
    by (inr (inr i)) = links_none (port 1) (port 0) i

pub idle_code_ties : IdleCodeTies
idle_code_ties = (
  record {
    closed = λ k i. absurd (drops_none k i);
    both_new = λ z p q i j. absurd i;
    new_old = λ z p g i j. absurd i;
    both_old = λ z g o i j. absurd i;
    wires = λ e i. absurd i;
  },
  ties_none,
)
