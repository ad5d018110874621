-- The laws of embeddings and firings.
use Rattle.std.specs.Prelude.{ℕ, List, length, ◌≡◌, [], ◌↔◌}
use Rattle.lmn_base.specs.declared.rule.Plain.{Plain}
use Rattle.lmn_base.specs.declared.solid.Solid.{Solid}
use Rattle.lmn_base.specs.Levels.{links_of}
use Rattle.lmn_base.specs.Links.{EachTwice}
use Rattle.lmn_base.specs.WellMade.{IsWellMade}
use Rattle.lmn_congruence.specs.Process.{Closed, Process}
use Rattle.lmn_congruence.specs.Regions.{Region, no_region, region, region_process}
use Rattle.lmn_congruence.specs.Rules.{Rule, head_of, no_rule}
use Rattle.lmn_congruence.specs.Same.{IsRenamed}
use Rattle.lmn_congruence.specs.SolidsOfPlains.{IsSolidOf}
use Rattle.lmn_congruence.specs.UpToOrder.{Reordered}
use Rattle.lmn_reduction.specs.Assignments.{Assignment}
use Rattle.lmn_reduction.specs.Chains.{Commits}
use Rattle.lmn_reduction.specs.Commits.{Commit, Irreducible}
use Rattle.lmn_reduction.specs.Steps.{Step}
use Rattle.lmn_adequacy.specs.Accepted.{Accepted, Throughout}
use Rattle.lmn_adequacy.specs.Choice.{Before, LevelStands, NextFrom, positions_of}
use Rattle.lmn_adequacy.specs.Embedding.{AllRules, HasEmbedding, EmbedsAt, EmbedsIn, assignment_of}
use Rattle.lmn_adequacy.specs.Loose.{filling}
use Rattle.lmn_adequacy.specs.Next.{Next, NextAt}
use Rattle.lmn_adequacy.specs.Numbered.{IsNumbered}
use Rattle.lmn_adequacy.specs.Runs.{Chooser, Turn, Trace, End, Ends, irreducible}

-- where a step is possible from a solid, a rule embeds in it
abbrev pub StepsEmbed : Type 0
StepsEmbed = (S : Region) (Q : Process) → Closed (region_process S) → AllRules Accepted S →
    Step (region_process S) Q → HasEmbedding S

-- an embedding has a next solid, and only an embedding has one
abbrev pub EmbeddingsFire : Type 0
EmbeddingsFire = (path f : List ℕ) (k : ℕ) (S : Region) → Closed (region_process S) → AllRules Accepted S →
    EmbedsIn path k f S ↔ ((S' : Region) × NextAt path k f S S')

-- the firing of an embedded rule is a commit
abbrev pub FiringsCommit : Type 0
FiringsCommit = (S S' : Region) → Closed (region_process S) → AllRules Accepted S →
    Next S S' → Commit (region_process S) (region_process S')

-- so a step is possible exactly where a rule embeds
abbrev pub StepsExactly : Type 0
StepsExactly = (S : Region) → Closed (region_process S) → AllRules Accepted S →
    ((Q : Process) × Step (region_process S) Q) ↔ HasEmbedding S

-- and the process of a solid is irreducible exactly where none embeds
abbrev pub IrreducibleExactly : Type 0
IrreducibleExactly = (S : Region) → Closed (region_process S) → AllRules Accepted S →
    Irreducible (region_process S) ↔ (¬ (HasEmbedding S))

-- what is left of the image of a head membrane without contexts holds nothing
abbrev pub NothingLeft : Type 0
NothingLeft = (t : Assignment) (m : Region) →
    Reordered (filling t [] [] no_rule) (region_process m) → m ≡ region [] no_region []

-- for one rule and one list of positions the next solid is one, up to the numbers of links
abbrev pub NextIsOne : Type 0
NextIsOne = (path f : List ℕ) (k : ℕ) (S S' S'' : Region) → Closed (region_process S) → AllRules Accepted S →
    NextAt path k f S S' → NextAt path k f S S'' → IsRenamed S' S''

-- the next solid of a solid is one again: its process is closed, and all its rules are accepted where all were, those
-- in rules too
abbrev pub NextIsSolid : Type 0
NextIsSolid = (S S' : Region) → AllRules (Throughout Accepted) S → Next S S' →
    Closed (region_process S') × AllRules (Throughout Accepted) S'

-- the strategy has one next solid, up to the numbers of links
abbrev pub ChoiceIsOne : Type 0
ChoiceIsOne = (from : ℕ) (S S' S'' : Region) → Closed (region_process S) → AllRules Accepted S →
    NextFrom from S S' → NextFrom from S S'' → IsRenamed S' S''

-- and it has one exactly as long as a step is possible: where it has none the process is irreducible
abbrev pub ChoiceIsExact : Type 0
ChoiceIsExact = (from : ℕ) (S : Region) → Closed (region_process S) → AllRules Accepted S →
    Irreducible (region_process S) ↔ (¬ ((S' : Region) × NextFrom from S S'))

-- the order of the numbers of embeddings is that of their positions
abbrev pub NumbersInOrder : Type 0
NumbersInOrder = (r : Rule) (f g : List ℕ) → Before f g ↔ Before (positions_of r f) (positions_of r g)

-- and at these positions stand the images
abbrev pub ImagesStand : Type 0
ImagesStand = (r : Rule) (f : List ℕ) (m : Region) (e : EmbedsAt r f m) →
    LevelStands (assignment_of e.contents) (head_of r) (positions_of r f) m

-- and each renaming of a next solid is a next solid
abbrev pub RenamedNext : Type 0
RenamedNext = (path f : List ℕ) (k : ℕ) (S S' S'' : Region) →
    NextAt path k f S S' → IsRenamed S' S'' → NextAt path k f S S''

-- each solid has a renaming with its links numbered in printed order
abbrev pub NumberingExists : Type 0
NumberingExists = (S : Region) → (S' : Region) × IsRenamed S S' × IsNumbered S'

-- and only one. So an embedding has exactly one next solid that is numbered.
abbrev pub NumberedIsOne : Type 0
NumberedIsOne = (S S' : Region) → IsRenamed S S' → IsNumbered S → IsNumbered S' → S ≡ S'

-- each closed plain that is well made has a solid, with its links numbered in printed order
abbrev pub SolidsOfPlainsExist : Type 0
SolidsOfPlainsExist = (p : Plain) → IsWellMade p → EachTwice (links_of p.top) → (s : Solid) × IsSolidOf p s

-- and one alone
abbrev pub SolidOfPlainIsOne : Type 0
SolidOfPlainIsOne = (p : Plain) (s s' : Solid) → IsWellMade p → IsSolidOf p s → IsSolidOf p s' → s ≡ s'

-- A chooser, a budget and a size give one trace of a solid: two of them with as many commits are the same,
abbrev pub TraceIsOne : Type 0
TraceIsOne = (chooser : Chooser) (budget size : ℕ) (S : Region) (before others : List Region) (S' S'' : Region) →
    Closed (region_process S) → AllRules (Throughout Accepted) S →
    Trace chooser budget size S before S' → Trace chooser budget size S others S'' → length before ≡ length others →
    (before ≡ others) × (S' ≡ S'')

-- and two that have come to an end are, and have one end.
abbrev pub EndIsOne : Type 0
EndIsOne = (chooser : Chooser) (budget size : ℕ) (S : Region) (before others : List Region) (S' S'' : Region) (e d : End) →
    Closed (region_process S) → AllRules (Throughout Accepted) S →
    Trace chooser budget size S before S' → Ends chooser budget size (length before) S' e →
    Trace chooser budget size S others S'' → Ends chooser budget size (length others) S'' d →
    (before ≡ others) × (S' ≡ S'') × (e ≡ d)

-- A trace is a chain of commits, and its last solid is one: its process is closed, and its rules are accepted.
abbrev pub TraceCommits : Type 0
TraceCommits = (chooser : Chooser) (budget size : ℕ) (S : Region) (before : List Region) (S' : Region) →
    Closed (region_process S) → AllRules (Throughout Accepted) S → Trace chooser budget size S before S' →
    Commits (length before) (region_process S) (region_process S')
    × Closed (region_process S') × AllRules (Throughout Accepted) S'

-- It ends irreducible exactly where the process is,
abbrev pub TraceEnds : Type 0
TraceEnds = (chooser : Chooser) (budget size : ℕ) (S : Region) (before : List Region) (S' : Region) (e : End) →
    Closed (region_process S) → AllRules (Throughout Accepted) S →
    Trace chooser budget size S before S' → Ends chooser budget size (length before) S' e →
    (e ≡ irreducible) ↔ Irreducible (region_process S')

-- and there is no further turn exactly where the process is irreducible.
abbrev pub TraceStops : Type 0
TraceStops = (chooser : Chooser) (budget size : ℕ) (S : Region) (before : List Region) (S' : Region) →
    Closed (region_process S) → AllRules (Throughout Accepted) S → Trace chooser budget size S before S' →
    Irreducible (region_process S') ↔ (¬ ((S'' : Region) × Turn chooser (length before) S' S''))
