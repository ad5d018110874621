-- Copies of parts, with their roots.
use Rattle.std.proofs.Common.{◌≡◌, ℕ}
use Rattle.lmn_congruence.specs.Process.{Process, OneToOneOn, renamed, IsCopy}
use Rattle.lmn_congruence.specs.Rules.{Name, typed_leaf}
use Rattle.lmn_reduction.specs.Assignments.{Assignment}
use Rattle.lmn_reduction.specs.Instances.{LeafInstance, of_typed}
use Rattle.lmn_reduction.specs.Parts.{Rooted}

-- P is a copy of g with the root x
pub record IsRootedCopy (g : Rooted) (x : ℕ) (P : Process) : Type 0 where
  pub to : ℕ → ℕ
  pub one_to_one : OneToOneOn to g.process
  pub root : to g.root ≡ x
  pub is : P ≡ renamed to g.process

-- a copy, with the link of its root
pub rooted : (g : Rooted) (x : ℕ) (P : Process) (c : IsCopy g.process P) → c.to g.root ≡ x → IsRootedCopy g x P
rooted g x P c root = record { to = c.to; one_to_one = c.one_to_one; root = root; is = c.is }

-- such a copy stands for a typed context
pub typed_by : {t : Assignment} {p : Name} {x : ℕ} {P : Process} → IsRootedCopy (t.typed_of p) (t.link_of x) P → LeafInstance t (typed_leaf p x) P
typed_by c = of_typed (record { to = c.to; one_to_one = c.one_to_one; is = c.is }) c.root
