-- The next solid up to the order of lists: a raw process, and one fusion of its connectors. The proofs go by it.
use Rattle.std.proofs.Common.{ℕ, zero, suc, cond, List, ◌≡◌, ◌≤◌, ◌==◌}
use Rattle.lmn_congruence.specs.Fused.{Joins, fused}
use Rattle.lmn_congruence.specs.LinkedRules.{level_occurrences}
use Rattle.lmn_congruence.specs.Orders.{Put}
use Rattle.lmn_congruence.specs.Process.{Closed, Process, connector, membrane, nothing, pair, renamed}
use Rattle.lmn_congruence.specs.Regions.{Region, Regions, SolidAtom, region, region_process}
use Rattle.lmn_congruence.specs.Rules.{Level, Rule, body_of, head_of}
use Rattle.lmn_congruence.specs.UpToOrder.{Reordered}
use Rattle.lmn_reduction.specs.Assignments.{Assignment}
use Rattle.lmn_reduction.specs.Instances.{Instance}
use Rattle.lmn_adequacy.specs.Embedding.{TakenRegion}
use Rattle.lmn_adequacy.specs.Loose.{EmbedsLoosely}
use Rattle.lmn_congruence_splice.specs.Splice.{of_rule, of_solid}

-- what the body stands for: each link of the rule is new, and the contexts keep their links
abbrev pub made : Assignment → Assignment
made t = record {
  link_of = of_rule;
  context_of = λ p. renamed of_solid (t.context_of p);
  rules_of = t.rules_of;
  typed_of = t.typed_of;
}

-- a connector from each link below n that has one place in the head to the link of the solid at this place
abbrev pub head_wires : Assignment → Level → ℕ → Process
head_wires t l zero = nothing
head_wires t l (suc n) =
    cond (level_occurrences n l == 1) (pair (connector (of_rule n) (of_solid (t.link_of n))) (head_wires t l n))
    (head_wires t l n)

-- The rule fires in a region at an embedding: an instance of the body, the connectors of the head's links, and what
-- the images and the typed parts leave. All links of the head are below `bound`.
pub record FiresTo (r : Rule) (f : List ℕ) (m : Region) (P : Process) : Type 0 where
  pub at : EmbedsLoosely r f m
  pub body : Process
  pub is_body : Instance (made at.assignment) (body_of r) body
  pub bound : ℕ
  pub bounded : (x : ℕ) → bound ≤ x → level_occurrences x (head_of r) ≡ 0
  pub is : P ≡ pair body (pair (head_wires at.assignment (head_of r) bound) (renamed of_solid (region_process at.rest)))

-- a rule of the region fires in it, or one of a membrane below; all else stays
pub data Raw : Region → Process → Type 0 where
  raw_here : {r : Rule} {f : List ℕ} {xs : List SolidAtom} {ms : Regions} {rs rs' : List Rule} {P : Process} →
      FiresTo r f (region xs ms rs) P → Put r rs' rs → Raw (region xs ms rs) P
  raw_below : {n : ℕ} {m : Region} {xs : List SolidAtom} {ms ms' : Regions} {rs : List Rule} {P : Process} →
      TakenRegion n m ms ms' → Raw m P →
      Raw (region xs ms rs) (pair (membrane P) (renamed of_solid (region_process (region xs ms' rs))))

-- S is P with its connectors fused: the two links of each connector have one image, and each link of S has two places.
-- So two ports are joined in S exactly where a chain of links and connectors joins them in P.
pub record FusesTo (P : Process) (S : Region) : Type 0 where
  pub to : ℕ → ℕ
  pub joins : Joins to P
  pub order : Reordered (fused to P) (region_process S)
  pub closed : Closed (region_process S)

-- S' is, up to order and the numbers of links, the solid after one firing in S. In the raw process each link has two
-- places, so the links of a copy of a typed context are new in each copy.
pub record NextUpToOrder (S S' : Region) : Type 0 where
  pub raw : Process
  pub fires : Raw S raw
  pub closed : Closed raw
  pub fuses : FusesTo raw S'
