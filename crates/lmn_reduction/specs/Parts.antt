-- What a typed context may stand for.
use Rattle.std.specs.Prelude.{ℕ, ℤ, ◌≡◌, List, [], ◌∷◌, ◌++◌, map}
use Rattle.lmn_congruence.specs.Orders.{Among, Shuffle}
use Rattle.lmn_congruence.specs.Process.{Process, atom, pair, Free, OneToOneOn}
use Rattle.lmn_congruence.specs.Rules.{Label, integer}

-- a process with one marked link, its root
pub record Rooted : Type 0 where
  pub process : Process
  pub root : ℕ

-- one integer atom of arity 1
pub data IsInteger : ℤ → Rooted → Type 0 where
  an_integer : {n : ℤ} {x : ℕ} → IsInteger n (record { process = atom (integer n) (x ∷ []); root = x })

-- one atom of arity 1
pub data IsUnary : Rooted → Type 0 where
  one_atom : {a : Label} {x : ℕ} → IsUnary (record { process = atom a (x ∷ []); root = x })

-- one or more atoms side by side, none of them a connector
abbrev pub OnlyAtoms : Process → Type 0
OnlyAtoms (atom a xs) = Unit {0}
OnlyAtoms (pair P Q) = OnlyAtoms P × OnlyAtoms Q
OnlyAtoms P = ⊥

-- the atoms that stand in a process outside its membranes, in order, each with its links
abbrev pub atoms_at_top : Process → List (Label × List ℕ)
atoms_at_top (atom a xs) = (a, xs) ∷ []
atoms_at_top (pair P Q) = atoms_at_top P ++ atoms_at_top Q
atoms_at_top P = []

-- a link is reached from the root over links and atoms
pub data ReachesLink (g : Rooted) : ℕ → Type 0 where
  the_root : ReachesLink g g.root
  across : {a : Label} {xs : List ℕ} {x y : ℕ} →
      Among (a, xs) (atoms_at_top g.process) → Among x xs → Among y xs → ReachesLink g x → ReachesLink g y

-- atoms that are no connectors, each reached from the root, with no free link but the root
pub record IsGround (g : Rooted) : Type 0 where
  pub only_atoms : OnlyAtoms g.process
  pub root_is_free : Free g.root g.process
  pub nothing_else_free : (x : ℕ) → Free x g.process → x ≡ g.root
  pub connected : {a : Label} {xs : List ℕ} → Among (a, xs) (atoms_at_top g.process) →
      (x : ℕ) × (Among x xs) × ReachesLink g x

-- Two ground parts are equal as rooted graphs: one map of links, one to one, takes the root to the root and
-- the atoms, in some order, to the atoms. Each link of such a part but the root joins two ports, so the atoms
-- are matched one to one with their names, their arities and the ports that are joined.
pub record EqualParts (g h : Rooted) : Type 0 where
  pub to : ℕ → ℕ
  pub one_to_one : OneToOneOn to g.process
  pub roots : to g.root ≡ h.root
  pub atoms : Shuffle (λ a b. (a.0, map to a.1) ≡ b) (atoms_at_top g.process) (atoms_at_top h.process)
