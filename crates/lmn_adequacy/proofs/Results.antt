-- The laws of embeddings and firings, as they are stated.
use Rattle.std.proofs.Common.{ℕ, List, refl, subst, ◌≡◌, [], ◌∷◌}
use Rattle.lmn_congruence.specs.Orders.{Shuffle}
use Rattle.lmn_congruence.specs.Process.{Closed, Process}
use Rattle.lmn_congruence.specs.Regions.{Region, Regions, SolidAtom, no_region, region, region_and, region_process}
use Rattle.lmn_congruence.specs.Rules.{Rule, rule_of}
use Rattle.lmn_reduction.specs.Steps.{Step}
use Rattle.lmn_reduction.proofs.Plains.{solids_settled}
use Rattle.lmn_congruence.proofs.Reordered.{SamePiece, reordered_pieces}
use Rattle.lmn_adequacy.specs.Accepted.{Accepted, Throughout}
use Rattle.lmn_adequacy.specs.Choice.{ChosenFrom, NextFrom}
use Rattle.lmn_adequacy.specs.Embedding.{AllRules, HasEmbedding}
use Rattle.lmn_adequacy.specs.Laws.{ChoiceIsExact, ChoiceIsOne, EmbeddingsFire, FiringsCommit, ImagesStand, IrreducibleExactly, NextIsOne, NextIsSolid, NothingLeft, NumberedIsOne, NumberingExists, NumbersInOrder, RenamedNext, StepsEmbed, StepsExactly}
use Rattle.lmn_adequacy.proofs.Accepting.{accepted_bare, accepted_head}
use Rattle.lmn_adequacy.proofs.Commits.{next_commits, next_steps}
use Rattle.lmn_adequacy.proofs.Embedding.{step_embeds}
use Rattle.lmn_adequacy.proofs.Existence.{embeds_next, next_embeds}
use Rattle.lmn_adequacy.proofs.Heads.{all_rules_so}
use Rattle.lmn_adequacy.proofs.InOrder.{next_up_to_order}
use Rattle.lmn_adequacy.proofs.Literal.{has_embedding}
use Rattle.lmn_adequacy.proofs.Numbering.{numbered_one, numbering, renamed_solid}
use Rattle.lmn_adequacy.proofs.OneChoice.{next_from_one}
use Rattle.lmn_adequacy.proofs.OneNext.{next_is_one}
use Rattle.lmn_adequacy.proofs.Positions.{images_stand, numbers_in_order}
use Rattle.lmn_adequacy.proofs.RegionPieces.{pieces_of, region_pieces}
use Rattle.lmn_adequacy.proofs.RulesStay.{next_rules}
use Rattle.lmn_adequacy.proofs.Stopping.{no_choice}

-- where a step is possible a rule embeds
pub steps_embed : StepsEmbed
steps_embed S Q c h s = has_embedding S h (step_embeds S Q c (all_rules_so accepted_head S h) s)

-- an embedding has a next solid, and only an embedding has one
pub embeddings_fire : EmbeddingsFire
embeddings_fire path f k S c h = ((λ e. embeds_next path f k S c h e), (λ n. next_embeds n.1))

-- the firing of an embedded rule is a commit
pub firings_commit : FiringsCommit
firings_commit S S' c h n = next_commits S S' c (all_rules_so accepted_bare S h) (next_up_to_order n.next)

embeds_step : (S : Region) → Closed (region_process S) → AllRules Accepted S → HasEmbedding S → (Q : Process) × Step (region_process S) Q
embeds_step S c h e = let n = embeds_next e.path e.positions e.number S c h e.embeds in next_steps S n.0 c (all_rules_so accepted_bare S h) (next_up_to_order n.1)

-- a step is possible exactly where a rule embeds
pub steps_exactly : StepsExactly
steps_exactly S c h = ((λ s. steps_embed S s.0 c h s.1), (λ e. embeds_step S c h e))

-- and a solid is irreducible exactly where none does
pub irreducible_exactly : IrreducibleExactly
irreducible_exactly S c h = (
  (λ i e. let s = embeds_step S c h e in i.0 s.0 s.1),
  (λ n. ((λ Q s. n (steps_embed S Q c h s)), (λ Q s. solids_settled S Q s))),
)

-- what is left of the image of a head membrane without contexts holds nothing
pub nothing_left : NothingLeft
nothing_left t (region xs ms rs) d = empty xs ms rs (subst (Shuffle SamePiece []) (region_pieces (region xs ms rs)) (reordered_pieces d))
  where
    empty : (xs : List SolidAtom) (ms : Regions) (rs : List Rule) → Shuffle SamePiece [] (pieces_of (region xs ms rs)) → region xs ms rs ≡ region [] no_region []
    empty [] no_region [] s = refl
    empty [] no_region (r ∷ rs) s = elim s [ ]
    empty [] (region_and m ms) rs s = elim s [ ]
    empty (x ∷ xs) ms rs s = elim s [ ]

-- for one rule and one list of positions the next solid is one
pub one_next : NextIsOne
one_next path f k S S' S'' c h n n' = next_is_one S S' S'' c h n n'

-- a rule that is accepted throughout is accepted
pub throughout_itself : (r : Rule) → Throughout Accepted r → Accepted r
throughout_itself (rule_of head guard body) h = h.0

-- the next solid of a solid is one
pub next_is_solid : NextIsSolid
next_is_solid S S' h n = (n.next.fuses.closed, next_rules Accepted n.next (all_rules_so throughout_itself S h) h)

-- the strategy has one next solid
pub one_choice : ChoiceIsOne
one_choice from S S' S'' c h n n' = next_from_one from S S' S'' c h n n'

-- and it has one exactly as long as a step is possible
pub exact_choice : ChoiceIsExact
exact_choice from S c h = (
  (λ i n. (irreducible_exactly S c h).0 i (record { path = n.1.path; number = n.1.number; positions = n.1.positions; embeds = n.1.chosen.embeds })),
  (λ n. (irreducible_exactly S c h).1 (no_choice from S (λ path k f d. n (chosen_next path k f d)))),
)
  where
    chosen_next : (path : List ℕ) (k : ℕ) (f : List ℕ) → ChosenFrom from S path k f → (S' : Region) × NextFrom from S S'
    chosen_next path k f d = let e = embeds_next path f k S c h d.embeds in (e.0, record { path = path; number = k; positions = f; chosen = d; next = e.1 })

-- the order of the numbers of embeddings is that of their positions
pub numbers_order : NumbersInOrder
numbers_order r f g = numbers_in_order r f g

-- and at these positions stand the images
pub all_stand : ImagesStand
all_stand r f m e = images_stand r f m e

-- a solid has one renaming with its links numbered in printed order
pub one_numbering : NumberedIsOne
one_numbering S S' i s s' = numbered_one S S' i s s'

-- each renaming of a next solid is a next solid
pub renamed_next : RenamedNext
renamed_next path f k S S' S'' n i = record { raw = n.raw; fires = n.fires; fuses = renamed_solid n.fuses i }

-- each solid has a renaming with its links numbered in printed order
pub numbering_exists : NumberingExists
numbering_exists S = numbering S
