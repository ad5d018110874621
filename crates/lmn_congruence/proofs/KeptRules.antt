-- Congruence keeps what is said of every rule of a process.
use Rattle.std.proofs.Common.{ℕ}
use Rattle.lmn_congruence.specs.Process.{Process, nothing, connector, atom, pair, membrane, rule, substitute}
use Rattle.lmn_congruence.specs.Congruence.{Congruent, unit, swap, regroup, rename, beside, inside, loop, turn, absorb, pass, same, back, chain}
use Rattle.lmn_congruence.specs.Rules.{Rule}

-- a fact of each rule of a process, at every depth
abbrev pub AllRules : (Rule → Type 0) → Process → Type 0
AllRules H nothing = Unit {0}
AllRules H (connector x y) = Unit {0}
AllRules H (atom l xs) = Unit {0}
AllRules H (pair P Q) = AllRules H P × AllRules H Q
AllRules H (membrane P) = AllRules H P
AllRules H (rule r) = H r

substituted_rules : (H : Rule → Type 0) (new old : ℕ) (P : Process) → (AllRules H P → AllRules H (substitute new old P)) × (AllRules H (substitute new old P) → AllRules H P)
substituted_rules H new old nothing = ((λ h. tt), (λ h. tt))
substituted_rules H new old (connector x y) = ((λ h. tt), (λ h. tt))
substituted_rules H new old (atom l xs) = ((λ h. tt), (λ h. tt))
substituted_rules H new old (pair P Q) =
    let i = substituted_rules H new old P in
    let j = substituted_rules H new old Q in
    ((λ h. (i.0 h.0, j.0 h.1)), (λ h. (i.1 h.0, j.1 h.1)))
substituted_rules H new old (membrane P) = substituted_rules H new old P
substituted_rules H new old (rule r) = ((λ h. h), (λ h. h))

-- congruence keeps it, both ways
pub kept_rules : (H : Rule → Type 0) {P Q : Process} → Congruent P Q → (AllRules H P → AllRules H Q) × (AllRules H Q → AllRules H P)
kept_rules H (unit l) = ((λ h. h.1), (λ h. (tt, h)))
kept_rules H (swap l) = ((λ h. (h.1, h.0)), (λ h. (h.1, h.0)))
kept_rules H (regroup l) = ((λ h. ((h.0, h.1.0), h.1.1)), (λ h. (h.0.0, (h.0.1, h.1))))
kept_rules H (rename {P = P} x y l f n) = substituted_rules H y x P
kept_rules H (beside d l l') = let i = kept_rules H d in ((λ h. (i.0 h.0, h.1)), (λ h. (i.1 h.0, h.1)))
kept_rules H (inside d) = let i = kept_rules H d in (i.0, i.1)
kept_rules H loop = ((λ h. tt), (λ h. tt))
kept_rules H turn = ((λ h. tt), (λ h. tt))
kept_rules H (absorb {P = P} x y e f l) = let i = substituted_rules H y x P in ((λ h. i.0 h.1), (λ h. (tt, i.1 h)))
kept_rules H (pass x y e l) = ((λ h. h), (λ h. h))
kept_rules H (same l) = ((λ h. h), (λ h. h))
kept_rules H (back d) = let i = kept_rules H d in (i.1, i.0)
kept_rules H (chain d e) = let i = kept_rules H d in let j = kept_rules H e in ((λ h. j.0 (i.0 h)), (λ h. i.1 (j.1 h)))
