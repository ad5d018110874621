-- The law of the code of accepted rules.
use Rattle.std.specs.Prelude.{ℕ, ◌≤◌, List, ◌++◌, length}
use Rattle.lmn_base.specs.declared.rule.RuleTree.{RuleTree}
use Rattle.lmn_store_heap.specs.Heap.{Heap, IsMemInPlace, atoms_in, rules_in, spare_of}
use Rattle.lmn_store_heap.specs.Lists.{without_all}
use Rattle.lmn_store_heap.specs.Sound.{Valid}
use Rattle.lmn_guards.specs.declared.plan.GuardPlan.{GuardPlan}
use Rattle.lmn_solid_heads.specs.Embeddings.{IsLeast}
use Rattle.lmn_instr_code.specs.Running.{IsFirstSuccess}
use Rattle.lmn_compile_head.specs.Accepted.{head_items, rule_head_code}
use Rattle.lmn_compile_body.specs.Accepted.{IsCompilable, rule_body_items, rule_body_code}
use Rattle.lmn_solid_bodies.specs.Added.{named_rules}
use Rattle.lmn_solid_bodies.specs.Conditions.{CanRun}
use Rattle.lmn_solid_bodies.specs.Fired.{images_of}
use Rattle.lmn_solid_bodies.specs.CopiedSolid.{IsSolidCopy, AreSolidRests}
use Rattle.lmn_solid_bodies.specs.Made.{copies_of}
use Rattle.lmn_store_heap.specs.Solid.{solid_atoms_at}
use Rattle.lmn_congruence_splice.specs.Splice.{IsOneOf}
use Rattle.lmn_solid_bodies.specs.Names.{Names}
use Rattle.lmn_solid_bodies.specs.Rules.{PartAtoms}
use Rattle.lmn_solid_bodies.specs.Running.{Registers, Prepares, RunsBody}
use Rattle.lmn_solid_bodies.specs.Within.{FiresWithin, FiredSolid, FiredAtoms, HoldsRests}
use Rattle.lmn_solid_bodies.specs.Items.{NoCopies}
use Rattle.lmn_base.specs.Graphs.{Port}

-- The code of a rule that has its plan, with these registers, from a heap whose links have these numbers: its head code
-- succeeds first with these registers in the membrane m, and they hold what is left where closed contexts stand.
pub record Finds (r : RuleTree) (plan : GuardPlan) (h : Heap) (m : ℕ) (s : Registers) (c : Port → ℕ) : Type 0 where
  pub valid : Valid h
  pub placed : IsMemInPlace h m
  pub first : IsFirstSuccess h (rule_head_code r plan) m s.head
  pub named : Names h c
  pub rests : HoldsRests h s (head_items r plan)

-- A rule has fired in membrane m, from the heap h to h'.
--   least         its head embeds there, at the least positions
--   parts, are    the atoms of its typed contexts
--   valid         the heap is valid again
--   fires         its links, the lists of its membranes and its copies are those of the firing
--   solid, atoms  and so are the atoms of its solid, which is said more shortly where the body has no copies
--   copies        those of a copy are the atoms of its part, each link at its image
--   rests         and those of the copy of a rest are the atoms of the rest
pub record Fired (r : RuleTree) (plan : GuardPlan) (h : Heap) (m : ℕ) (s : Registers) (c : Port → ℕ) (h' : Heap) : Type 0 where
  pub least : IsLeast h (head_items r plan) r.guard m s.head.images
  pub parts : List ℕ
  pub are : PartAtoms h (head_items r plan) s.head.images parts
  pub valid : Valid h'
  pub fires : FiresWithin h c s (head_items r plan) (rule_body_items r plan) (images_of s (head_items r plan) ++ parts) h'
  pub solid : FiredSolid h c s (head_items r plan) (rule_body_items r plan) (images_of s (head_items r plan) ++ parts) h' fires
  pub atoms : NoCopies (rule_body_items r plan) → FiredAtoms h c s (head_items r plan) (rule_body_items r plan) (images_of s (head_items r plan) ++ parts) h' fires
  pub copies : (e : ℕ × ℕ) → IsOneOf e (copies_of 0 (rule_body_items r plan)) →
      IsSolidCopy h c h' fires.number (s.head.images.part e.1) (s.copy e.0) (s.copied e.0) (solid_atoms_at h' (λ a i. fires.number (a, i)) (s.copied e.0))
  pub rests : AreSolidRests h c h' fires.number (λ k. without_all (images_of s (head_items r plan) ++ parts) (atoms_in h k)) s fires.rests (rule_body_items r plan)

-- Where the head code of an accepted rule first succeeds, its body code, run with the same registers, fires
-- the rule; and when the body is prepared, with enough spares for the rules that it names, each instruction can run in its
-- turn.
pub record AcceptedFires : Type 0 where
  pub fires : (table : List RuleTree) (r : RuleTree) (plan : GuardPlan) → IsCompilable table r plan →
      (h : Heap) (m : ℕ) (s : Registers) (c : Port → ℕ) → Finds r plan h m s c →
      (h' : Heap) → RunsBody s (rule_body_code r plan) h h' → Fired r plan h m s c h'
  pub can_run : (table : List RuleTree) (r : RuleTree) (plan : GuardPlan) → IsCompilable table r plan →
      (h : Heap) (m : ℕ) (s : Registers) (c : Port → ℕ) → Finds r plan h m s c →
      (t : Heap) → Prepares s (rule_body_code r plan) h t →
      ((x : ℕ) → length (named_rules s (rules_in h) (rule_body_items r plan) x) ≤ spare_of t x) → CanRun s (rule_body_code r plan) t
