-- Membranes in the order in which they are asked, and what is known of rules that are asked there. Contracts of private functions alone
-- cite these words.
use Rattle.std.specs.Prelude.{ℕ, ◌≡◌, ◌<◌, ◌≤◌, ◌+◌, ◌^◌, ◌⊎◌, ◌↔◌, ◌++◌, ◌∷◌, Bool, List, Option, Some, None, IfSome, length, slice_get, take}
use Rattle.lmn_base.specs.declared.rule.Plain.{Plain}
use Rattle.lmn_base.specs.declared.rule.RuleTree.{RuleTree}
use Rattle.lmn_base.specs.declared.solid.Solid.{Solid}
use Rattle.lmn_guards.specs.declared.plan.GuardPlan.{GuardPlan}
use Rattle.lmn_store_heap.specs.Heap.{Heap, IsMem, rules_in}
use Rattle.lmn_store_heap.specs.Sound.{Valid}
use Rattle.lmn_solid_heads.specs.Embeddings.{Images, IsLeast}
use Rattle.lmn_solid_heads.specs.Flattening.{unnumbered}
use Rattle.lmn_compile_head.specs.Accepted.{head_items}
use Rattle.lmn_compile_head.specs.Heads.{IsHead, kind_in}
use Rattle.lmn_congruence.specs.Regions.{Region, item_count_of_region}
use Rattle.lmn_congruence.specs.Rules.{Name}
use Rattle.lmn_congruence.specs.Translation.{region_of}
use Rattle.lmn_adequacy.specs.Choice.{NextFrom, paths}
use Rattle.lmn_adequacy.specs.Embedding.{HasEmbedding}
use Rattle.lmn_adequacy.specs.Next.{NextAt}
use Rattle.lmn_adequacy_turns.specs.Turning.{Leads}
use Rattle.lmn_solid_tables.specs.declared.flat.Flat.{Flat}
use Rattle.lmn_solid_tables.specs.Flats.{heap_of}
use Rattle.lmn_solid_firing.specs.Making.{IsReadyFor}
use Rattle.lmn_solid_firing.specs.Matched.{IsMatched}
use Rattle.lmn_solid_firing.specs.declared.match_.Match.{Match}
use Rattle.lmn_solid_search.specs.Finding.{images}
use Rattle.lmn_solid_search.specs.declared.embedding.Found.{Found}
use Rattle.lmn_solid_next.specs.Choosing.{NoneOf, numbers_of}
use Rattle.lmn_solid_next.specs.Firing.{TellsIntegers}
use Rattle.lmn_solid_next.specs.Searching.{IsSolidBy}
use Rattle.lmn_solid_next.specs.Asking.{Fires, IsAsked, IsSearched}
use Rattle.lmn_receipt_chain.specs.Found.{FiresAmong, IsNextMade}
use Rattle.lmn_receipt_chain.specs.Laws.{IsAcceptedSolid}
use Rattle.lmn_receipt_chain.specs.declared.next.NextSolid.{NextSolid}
use Rattle.lmn_receipt_search.specs.Feeds.{IsQuiet, NamesWithout}
use Rattle.lmn_receipt_search.specs.Items.{AreSizes, firing_size}

-- what a search for the least embedding of a rule asks
pub record CanBeSearched (flat : Flat) (m : ℕ) (rule : RuleTree) (plan : GuardPlan) : Type 0 where
  pub valid : Valid (heap_of flat)
  pub there : IsMem (heap_of flat) m
  pub room : 1 + (unnumbered (kind_in plan.kinds) rule.head).size < 2 ^ 16
  pub head : IsHead (head_items rule plan)

-- What is known of rules: those of a membrane are of the plain, and one that is asked can be searched for.
pub record AskedRules : Type 0 where
  pub known : (names : List Name) (plain : Plain) (plans : List GuardPlan) (s : Solid) (flat : Flat) (m place number : ℕ) →
      IsSearched names plain plans s flat → slice_get (rules_in (heap_of flat) m) place ≡ Some number → (number < length plain.rules) × (number < length plans)
  pub searched : (names : List Name) (plain : Plain) (plans : List GuardPlan) (s : Solid) (flat : Flat) (m place : ℕ) (rule : RuleTree) (plan : GuardPlan) →
      IsAsked names plain plans s flat m place rule plan → CanBeSearched flat m rule plan

-- the membrane that is asked at a turn, of so many, where they are asked from a number on, wrapping round
abbrev pub AskedAt : (from count turn m : ℕ) → Type 0
AskedAt from count turn m = (m < count) × ((from + turn ≡ m) ⊎ (from + turn ≡ m + count))

-- no rule embeds in the membranes of the turns before this one
abbrev pub NoneBefore : List RuleTree → List GuardPlan → Heap → (from count turn : ℕ) → Type 0
NoneBefore table plans h from count turn = (i m : ℕ) → i < turn → AskedAt from count i m → NoneOf table plans h m (rules_in h m)

-- The rule fires in membrane m at its least images, and the solid after it is this region.
pub record FiresTo (names : List Name) (plain : Plain) (s : Solid) (flat : Flat) (m place : ℕ) (rule : RuleTree) (plan : GuardPlan) (next : Region) : Type 0 where
  pub found : Images
  pub least : IsLeast (heap_of flat) (head_items rule plan) rule.guard m found
  pub path : List ℕ
  pub leads : Leads (heap_of flat) m path 0
  pub next_at : NextAt path place (numbers_of (heap_of flat) rule plan found) (region_of names plain.rules s) next

-- The next solid has more items than a limit, and where no name has a line feed its line has one.
pub record IsBeyond (names : List Name) (limit : ℕ) (next : Region) : Type 0 where
  pub many : limit < item_count_of_region next
  pub quiet : NamesWithout names → IsQuiet next

-- It fires, and what is answered is the next solid, or nothing where this has more items than a limit.
abbrev pub FiresWithin : (names : List Name) (plain : Plain) (s : Solid) (flat : Flat) (m place : ℕ) (rule : RuleTree) (plan : GuardPlan) (limit : ℕ) → Option Solid → Type 0
FiresWithin names plain s flat m place rule plan limit (Some next) = Fires names plain s flat m place rule plan next
FiresWithin names plain s flat m place rule plan limit None = (next : Region) × FiresTo names plain s flat m place rule plan next × IsBeyond names limit next

-- Of the rules of membrane m, one is the first that embeds there, and it fires: the solid after it is this region.
pub record FiresIn (names : List Name) (plain : Plain) (plans : List GuardPlan) (s : Solid) (flat : Flat) (m : ℕ) (next : Region) : Type 0 where
  pub place : ℕ
  pub rule : RuleTree
  pub plan : GuardPlan
  pub asked : IsAsked names plain plans s flat m place rule plan
  pub before : NoneOf plain.rules plans (heap_of flat) m (take place (rules_in (heap_of flat) m))
  pub fires : FiresTo names plain s flat m place rule plan next

-- What is answered is the next solid, or nothing where this has more items than a limit.
abbrev pub FiresInWithin : (names : List Name) (plain : Plain) (plans : List GuardPlan) (s : Solid) (flat : Flat) (m limit : ℕ) → Option Solid → Type 0
FiresInWithin names plain plans s flat m limit (Some next) = FiresIn names plain plans s flat m (region_of names plain.rules next) × IsSolidBy names plain next
FiresInWithin names plain plans s flat m limit None = (next : Region) × FiresIn names plain plans s flat m next × IsBeyond names limit next

-- Of the rules of membrane m, one is the first that embeds there, and it lies least at these images.
pub record EmbedsThere (names : List Name) (plain : Plain) (plans : List GuardPlan) (s : Solid) (flat : Flat) (m : ℕ) : Type 0 where
  pub place : ℕ
  pub rule : RuleTree
  pub plan : GuardPlan
  pub asked : IsAsked names plain plans s flat m place rule plan
  pub before : NoneOf plain.rules plans (heap_of flat) m (take place (rules_in (heap_of flat) m))
  pub found : Images
  pub least : IsLeast (heap_of flat) (head_items rule plan) rule.guard m found

-- a path stands at a number among those of all membranes
pub record StandsAt (S : Region) (path : List ℕ) (m : ℕ) : Type 0 where
  pub earlier : List (List ℕ)
  pub later : List (List ℕ)
  pub all : paths S ≡ earlier ++ path ∷ later
  pub number : length earlier ≡ m

-- What is known of firings. `count` is how many membranes there are.
--   counted   as many as paths
--   next      where nothing embeds in the membranes of earlier turns, and a rule of that of this turn fires, the next solid is that of the
--             strategy, from each number that is reached
--   stands    the membrane in which a rule fires has its own number among the paths
--   embeds    where nothing embeds in the membranes below one, and a rule of that one does, something embeds
--   none      where nothing embeds in those of all turns, nothing embeds
pub record FiringsAreNext : Type 0 where
  pub counted : (names : List Name) (plain : Plain) (plans : List GuardPlan) (s : Solid) (flat : Flat) → IsSearched names plain plans s flat →
      (count : ℕ) → ((m : ℕ) → IsMem (heap_of flat) m ↔ (m < count)) → length (paths (region_of names plain.rules s)) ≡ count
  pub next : (names : List Name) (plain : Plain) (plans : List GuardPlan) (s : Solid) (flat : Flat) → IsSearched names plain plans s flat →
      (count : ℕ) → ((m : ℕ) → IsMem (heap_of flat) m ↔ (m < count)) → (from turn m : ℕ) → from < count → turn < count → AskedAt from count turn m →
      NoneBefore plain.rules plans (heap_of flat) from count turn → (next : Region) (f : FiresIn names plain plans s flat m next) →
      (k : ℕ) → from ≤ k → k < count → k ≤ from + turn → (n : NextFrom k (region_of names plain.rules s) next) × (n.path ≡ f.fires.path)
  pub stands : (names : List Name) (plain : Plain) (plans : List GuardPlan) (s : Solid) (flat : Flat) → IsSearched names plain plans s flat →
      (count : ℕ) → ((m : ℕ) → IsMem (heap_of flat) m ↔ (m < count)) → (m : ℕ) (next : Region) (f : FiresIn names plain plans s flat m next) →
      StandsAt (region_of names plain.rules s) f.fires.path m
  pub embeds : (names : List Name) (plain : Plain) (plans : List GuardPlan) (s : Solid) (flat : Flat) → IsSearched names plain plans s flat →
      (count : ℕ) → ((m : ℕ) → IsMem (heap_of flat) m ↔ (m < count)) → (m : ℕ) → m < count → NoneBefore plain.rules plans (heap_of flat) 0 count m →
      EmbedsThere names plain plans s flat m → HasEmbedding (region_of names plain.rules s)
  pub none : (names : List Name) (plain : Plain) (plans : List GuardPlan) (s : Solid) (flat : Flat) → IsSearched names plain plans s flat →
      (count : ℕ) → ((m : ℕ) → IsMem (heap_of flat) m ↔ (m < count)) → (from : ℕ) → from < count → NoneBefore plain.rules plans (heap_of flat) from count count →
      ¬ (HasEmbedding (region_of names plain.rules s))

-- A rule that is asked, and lies least at what is found, fires, and the solid after it has at least as many items as are counted by what is
-- matched, and no line feed but the last where no name has one.
abbrev pub BodiesAreCounted : Type 0
BodiesAreCounted = (names : List Name) (plain : Plain) (plans : List GuardPlan) (s : Solid) (flat : Flat) (m place : ℕ) (rule : RuleTree) (plan : GuardPlan) →
    IsAsked names plain plans s flat m place rule plan → (found : Found) → IsLeast (heap_of flat) (head_items rule plan) rule.guard m (images m found) →
    TellsIntegers (heap_of flat) (head_items rule plan) rule.guard m found → (t : Match) → IsMatched flat rule (head_items rule plan) m found t → IsReadyFor flat t →
    (sizes : List ℕ) → AreSizes (heap_of flat) sizes →
    (next : Region) × FiresTo names plain s flat m place rule plan next × (firing_size (heap_of flat) sizes t rule.body ≤ item_count_of_region next) × (NamesWithout names → IsQuiet next)

-- What is known of a next solid that isn't made: it has more items than a limit, or fires in a membrane that is left out; and where no
-- name has a line feed its line has one.
pub record IsPassed (names : List Name) (limit : ℕ) (left_out : List Bool) (S next : Region) : Type 0 where
  pub why : (limit < item_count_of_region next) ⊎ FiresAmong left_out S next
  pub quiet : NamesWithout names → IsQuiet next

-- What is found of the next solid of s where membranes are asked from a number on.
--   reached  its reach is the number of a membrane, from the one that was asked on
--   made     where it is made it is the next one up to its reach
--   passed   where it isn't, each next one has more items than the limit, or fires in a membrane that is left out
pub record IsFoundWithin (names : List Name) (plain : Plain) (s : Solid) (from limit : ℕ) (left_out : List Bool) (next : NextSolid) : Type 0 where
  pub reached : (from ≤ next.reach) × (next.reach < length (paths (region_of names plain.rules s)))
  pub made : IfSome next.solid (IsNextMade (IsSolidBy names plain) (region_of names plain.rules) (region_of names plain.rules s) from next.reach)
  pub passed : next.solid ≡ None → IsAcceptedSolid (region_of names plain.rules s) →
      (k : ℕ) → from ≤ k → k ≤ next.reach → (S : Region) → NextFrom k (region_of names plain.rules s) S → IsPassed names limit left_out (region_of names plain.rules s) S
