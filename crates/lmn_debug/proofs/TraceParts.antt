-- The parts of a trace: what it has at a number, and that it doesn't go on where it ended.
use Rattle.std.proofs.Common.{ℕ, ◌≡◌, ◌<◌, ◌≤◌, ◌+◌, ◌⊎◌, List, [], ◌∷◌, ◌++◌, length, refl, sym, ap, subst, ◌∙◌, inl, inr, arith, append_assoc}
use Rattle.std.proofs.lemmas.List.{length-append}
use Rattle.lmn_adequacy.specs.Accepted.{Accepted, Throughout}
use Rattle.lmn_adequacy.specs.Embedding.{AllRules}
use Rattle.lmn_adequacy.specs.Runs.{Chooser, Trace, Turn, End, loaded, turned}
use Rattle.lmn_adequacy.proofs.Heads.{all_rules_so}
use Rattle.lmn_adequacy.proofs.Results.{throughout_itself}
use Rattle.lmn_adequacy.proofs.Runs.{trace_commits, trace_is_one}
use Rattle.lmn_congruence.specs.Process.{Closed}
use Rattle.lmn_congruence.specs.Regions.{Region, item_count_of_region, region_process}
use Rattle.lmn_debug.specs.Courses.{Course, EndsSo, IsAt, most_commits}
use Rattle.lmn_app_drive.proofs.Ends.{no_end}

-- the first solid is one of which the laws of traces speak
pub record BeginsWell (g : Course) : Type 0 where
  pub closed : Closed (region_process g.first)
  pub accepted : AllRules (Throughout Accepted) g.first

-- a trace passes through its solid number n: those before it, it, and the next one
pub record Passes (c : Chooser) (budget size : ℕ) (S : Region) (n : ℕ) (before : List Region) : Type 0 where
  pub solids : List Region
  pub solid : Region
  pub after : Region
  pub rest : List Region
  pub number : length solids ≡ n
  pub trace : Trace c budget size S solids solid
  pub below : n < budget
  pub turn : Turn c n solid after
  pub few : item_count_of_region after ≤ size
  pub parts : before ≡ solids ++ (solid ∷ rest)

module _ (c : Chooser) (budget size : ℕ) (S : Region) where
  passes : {before : List Region} {S' : Region} → Trace c budget size S before S' → (n : ℕ) → n < length before → Passes c budget size S n before
  passes loaded n h = absurd (omega (arith, h))
  passes (turned {before = before} {S' = R} {S'' = R'} p l t i) n h = by (below_or_at n (length before) (let long = length-append before (R ∷ []) in omega (arith, h, long))) (λ b. passes p n b)
    where
      below_or_at : (n k : ℕ) → n < k + 1 → (n < k) ⊎ (k ≡ n)
      below_or_at n k h = grind arith

      by : (n < length before) ⊎ (length before ≡ n) → (n < length before → Passes c budget size S n before) → Passes c budget size S n (before ++ R ∷ [])
      by (inl b) f =
          let p = f b in
          record {
            solids = p.solids;
            solid = p.solid;
            after = p.after;
            rest = p.rest ++ R ∷ [];
            number = p.number;
            trace = p.trace;
            below = p.below;
            turn = p.turn;
            few = p.few;
            parts = ap (λ xs. xs ++ R ∷ []) p.parts ∙ append_assoc p.solids (p.solid ∷ p.rest) (R ∷ []);
          }
      by (inr e) f = record {
        solids = before;
        solid = R;
        after = R';
        rest = [];
        number = e;
        trace = p;
        below = subst (λ k. k < budget) e l;
        turn = subst (λ k. Turn c k R R') e t;
        few = i;
        parts = refl;
      }

-- a number before another one of the trace
pub passed : (g : Course) (t t' : ℕ) (S' : Region) → (is : IsAt g t' S') → t < t' → Passes g.chooser most_commits g.size g.first t is.before
passed g t t' S' is l = passes g.chooser most_commits g.size g.first is.trace t (let count = is.count in omega (arith, count, l))

-- the trace has a solid at each number up to one at which it has one
pub earlier : (g : Course) (t k : ℕ) (S : Region) → IsAt g t S → k ≤ t → (S' : Region) × IsAt g k S'
earlier g t k S is l = by (in_order k t l)
  where
    in_order : (k t : ℕ) → k ≤ t → (k ≡ t) ⊎ (k < t)
    in_order k t l = grind arith

    by : (k ≡ t) ⊎ (k < t) → (S' : Region) × IsAt g k S'
    by (inl e) = (S, subst (λ n. IsAt g n S) (sym e) is)
    by (inr b) = let p = passed g k t S is b in (p.solid, record { before = p.solids; trace = p.trace; count = p.number })

module _ (g : Course) (well : BeginsWell g) where
  -- it has one solid at a number
  pub solid_one : (t : ℕ) (S S' : Region) → IsAt g t S → IsAt g t S' → S ≡ S'
  solid_one t S S' is is' = (trace_is_one g.chooser most_commits g.size g.first is.before is'.before S S' well.closed well.accepted is.trace is'.trace (is.count ∙ sym is'.count)).1

  -- it doesn't go on where it ended
  pub ended : (t t' : ℕ) (S S' : Region) (e : End) → IsAt g t S → IsAt g t' S' → t < t' → ¬ (EndsSo g t S e)
  ended t t' S S' e is is' l ends =
      let p = passed g t t' S' is' l in
      let at : IsAt g t p.solid = record { before = p.solids; trace = p.trace; count = p.number } in
      let same : S ≡ p.solid = solid_one t S p.solid is at in
      let good = trace_commits g.chooser most_commits g.size g.first p.solids p.solid well.closed well.accepted p.trace in
      let accepted : AllRules Accepted p.solid = all_rules_so throughout_itself p.solid good.2 in
      no_end g.chooser most_commits g.size t p.solid good.1 accepted p.below p.after p.turn p.few e (subst (λ R. EndsSo g t R e) same ends)
