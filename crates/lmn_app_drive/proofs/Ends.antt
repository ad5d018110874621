-- A run has one end, and where the trace goes on it has none.
use Rattle.std.proofs.Common.{ℕ, ◌≡◌, ◌<◌, ◌≤◌, List, length, refl, sym, subst, arith}
use Rattle.lmn_base.specs.declared.rule.RuleTree.{RuleTree}
use Rattle.lmn_store_heap.specs.Heap.{Heap}
use Rattle.lmn_congruence.specs.Process.{Closed}
use Rattle.lmn_congruence.specs.Regions.{Region, item_count_of_region, region_process}
use Rattle.lmn_congruence.specs.Rules.{Name}
use Rattle.lmn_adequacy.specs.Accepted.{Accepted}
use Rattle.lmn_adequacy.specs.Choice.{paths}
use Rattle.lmn_adequacy.specs.Embedding.{AllRules}
use Rattle.lmn_adequacy.specs.Runs.{Chooser, Turn, End, Ends, nothing_embeds, none_allowed, too_many}
use Rattle.lmn_adequacy.proofs.Numbering.{numbered_one}
use Rattle.lmn_adequacy.proofs.OneChoice.{next_from_one}
use Rattle.lmn_adequacy_heaps.proofs.Wholes.{all_accepted}
use Rattle.lmn_schedule.specs.Held.{HoldsRegion, reading_by}
use Rattle.lmn_adequacy.proofs.Runs.{embeds_in}

-- a heap that holds an accepted region has accepted rules
pub accepted_held : {names : List Name} {table : List RuleTree} {h : Heap} {S : Region} → HoldsRegion names table h S → AllRules Accepted S
accepted_held {names} {table} {h} {S} held = subst (AllRules Accepted) (sym held.is) (all_accepted h (reading_by names table held.number) table held.rules h.root held.inner)

module _ (chooser : Chooser) (budget size n : ℕ) (S : Region) where
  -- the next solid is one
  next_one : Closed (region_process S) → AllRules Accepted S → (S' S'' : Region) → Turn chooser n S S' → Turn chooser n S S'' → S' ≡ S''
  next_one closed accepted S' S'' t u =
      numbered_one S' S'' (next_from_one (chooser n (length (paths S))) S S' S'' closed accepted t.next u.next) t.numbered u.numbered

  abbrev EndsHere : End → Type 0
  EndsHere = Ends chooser budget size n S

  -- two ends at one solid are the same
  pub one_end : (e d : End) → EndsHere e → EndsHere d → e ≡ d
  one_end e d (nothing_embeds h) (nothing_embeds h') = refl
  one_end e d (nothing_embeds h) (none_allowed h' a) = absurd (h h')
  one_end e d (nothing_embeds h) (too_many l t m) = absurd (h (embeds_in t.next))
  one_end e d (none_allowed h a) (nothing_embeds h') = absurd (h' h)
  one_end e d (none_allowed h a) (none_allowed h' a') = refl
  one_end e d (none_allowed h a) (too_many l t m) = absurd (omega (arith, a, l))
  one_end e d (too_many l t m) (nothing_embeds h') = absurd (h' (embeds_in t.next))
  one_end e d (too_many l t m) (none_allowed h a) = absurd (omega (arith, a, l))
  one_end e d (too_many l t m) (too_many l' t' m') = refl

  -- below the budget, where the next solid is small enough, there is no end
  pub no_end : Closed (region_process S) → AllRules Accepted S → n < budget → (S' : Region) → Turn chooser n S S' → item_count_of_region S' ≤ size → (e : End) → ¬ (EndsHere e)
  no_end closed accepted below S' t few e (nothing_embeds h) = h (embeds_in t.next)
  no_end closed accepted below S' t few e (none_allowed h a) = omega (arith, a, below)
  no_end closed accepted below S' t few e (too_many {S' = S''} l u m) =
      let small : item_count_of_region S'' ≤ size = subst (λ R. item_count_of_region R ≤ size) (next_one closed accepted S' S'' t u) few in omega (arith, small, m)
