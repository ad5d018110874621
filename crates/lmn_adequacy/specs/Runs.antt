-- Runs of the strategy: traces under a budget and a size.
use Rattle.std.specs.Prelude.{ℕ, List, length, ◌≡◌, ◌<◌, ◌≤◌, [], ◌∷◌, ◌++◌}
use Rattle.lmn_congruence.specs.Regions.{Region, item_count_of_region}
use Rattle.lmn_adequacy.specs.Choice.{NextFrom, paths}
use Rattle.lmn_adequacy.specs.Embedding.{HasEmbedding}
use Rattle.lmn_adequacy.specs.Numbered.{IsNumbered}

-- A chooser gives the number of the membrane that is asked first, by the number of commits done and that of membranes. This is
-- one turn of the strategy where n commits are done; afterwards the links are numbered in printed order.
pub record Turn (chooser : ℕ → ℕ → ℕ) (n : ℕ) (S S' : Region) : Type 0 where
  pub next : NextFrom (chooser n (length (paths S))) S S'
  pub numbered : IsNumbered S'

-- A trace from S on, cut somewhere: the solids before the last one, and the last one. One commit leads from each to the
-- next. There are at most as many commits as the budget, and each leaves at most `size` items.
pub data Trace (chooser : ℕ → ℕ → ℕ) (budget size : ℕ) (S : Region) : List Region → Region → Type 0 where
  loaded : Trace chooser budget size S [] S
  turned : {before : List Region} {S' S'' : Region} →
      Trace chooser budget size S before S' → length before < budget → Turn chooser (length before) S' S'' →
      item_count_of_region S'' ≤ size → Trace chooser budget size S (before ++ S' ∷ []) S''

-- nothing embeds; the budget is done; the next solid has too many items
pub data End : Type 0 where
  irreducible budget_done full : End

-- How a trace ends at a solid, after n commits. It is asked first whether something embeds, then whether the budget is
-- done, then whether the next solid has too many items.
pub data Ends (chooser : ℕ → ℕ → ℕ) (budget size n : ℕ) (S : Region) : End → Type 0 where
  nothing_embeds : ¬ (HasEmbedding S) → Ends chooser budget size n S irreducible
  none_allowed : HasEmbedding S → n ≡ budget → Ends chooser budget size n S budget_done
  too_many : {S' : Region} → n < budget → Turn chooser n S S' → size < item_count_of_region S' → Ends chooser budget size n S full

-- choosers, as laws and lemmas tell them
abbrev pub Chooser : Type 0
Chooser = ℕ → ℕ → ℕ
