-- Structural congruence.
use Rattle.std.specs.Prelude.{ℕ, ◌⊎◌, List}
use Rattle.lmn_congruence.specs.Process.{Process, nothing, connector, atom, pair, membrane, Free, Local, Fresh, Linked, renamed, replace}
use Rattle.lmn_congruence.specs.Rules.{Label}

-- an atom in the sense of rule E9: connectors are atoms too
pub data IsAtomProcess : Process → Type 0 where
  a_connector : {x y : ℕ} → IsAtomProcess (connector x y)
  an_atom : {a : Label} {xs : List ℕ} → IsAtomProcess (atom a xs)

-- Structural congruence: the derivations by Ueda's rules E1 to E10, reflexivity, symmetry and transitivity.
-- By our profile both sides of each conclusion are linked. This is written where it doesn't follow, and the
-- law `both_sides_are_linked` says it of every derivation. The side conditions of E9 and E10 are ours as they stand:
-- no agreement with the paper's own print of them is claimed.
--   unit E1   swap E2   regroup E3   rename E4   beside E5   inside E6   loop E7   turn E8   absorb E9   pass E10
pub data Congruent : Process → Process → Type 0 where
  unit : {P : Process} → Linked P → Congruent (pair nothing P) P
  swap : {P Q : Process} → Linked (pair P Q) → Congruent (pair P Q) (pair Q P)
  regroup : {P Q S : Process} → Linked (pair P (pair Q S)) →
      Congruent (pair P (pair Q S)) (pair (pair P Q) S)
  rename : {P : Process} (x y : ℕ) → Linked P → Local x P → Fresh y P → Congruent P (renamed (replace y x) P)
  beside : {P P' Q : Process} → Congruent P P' → Linked (pair P Q) → Linked (pair P' Q) →
      Congruent (pair P Q) (pair P' Q)
  inside : {P P' : Process} → Congruent P P' → Congruent (membrane P) (membrane P')
  loop : {x : ℕ} → Congruent (connector x x) nothing
  turn : {x y : ℕ} → Congruent (connector x y) (connector y x)
  absorb : {P : Process} (x y : ℕ) → IsAtomProcess P → Free x P → Linked (pair (connector x y) P) →
      Congruent (pair (connector x y) P) (renamed (replace y x) P)
  pass : {P : Process} (x y : ℕ) → (Free x P × ¬ (Free y P)) ⊎ (Free y P × ¬ (Free x P)) → Linked (pair (connector x y) P) →
      Congruent (membrane (pair (connector x y) P)) (pair (connector x y) (membrane P))
  same : {P : Process} → Linked P → Congruent P P
  back : {P Q : Process} → Congruent P Q → Congruent Q P
  chain : {P Q S : Process} → Congruent P Q → Congruent Q S → Congruent P S

-- exactly one of two links is free in a process, as lemmas tell it
abbrev pub ExactlyOneFree : ℕ → ℕ → Process → Type 0
ExactlyOneFree x y P = (Free x P × ¬ (Free y P)) ⊎ (Free y P × ¬ (Free x P))
