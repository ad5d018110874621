-- A membrane in which `a` becomes `b`.
use Rattle.std.proofs.Common.{◌≡◌, ◌⊎◌, ℕ, zero, suc, List, [], ◌∷◌, refl, inl, inr, arith}
use Rattle.lmn_base.specs.Links.{no_more}
use Rattle.lmn_congruence.specs.Plains.{level_process}
use Rattle.lmn_congruence.specs.Process.{atom}
use Rattle.lmn_congruence.specs.Regions.{Region, no_region, region_and}
use Rattle.lmn_congruence.specs.Rules.{Level, Name, atom_leaf, head_of, level}
use Rattle.lmn_congruence.specs.Translation.{levels, rules}
use Rattle.lmn_reduction.specs.Examples.{label_a, label_b}
use Rattle.lmn_reduction.specs.Guards.{no_condition}
use Rattle.lmn_reduction.specs.Parts.{Rooted}
use Rattle.lmn_reduction.proofs.SettledForms.{all_join}
use Rattle.lmn_adequacy.specs.ChangeExamples.{a_makes_b, changing}
use Rattle.lmn_adequacy.specs.Choice.{Before, less_here}
use Rattle.lmn_adequacy.specs.Embedding.{Contents, EmbedsAt, EmbedsIn, LevelLies, embeds_below, embeds_here, image_and, level_lies, no_image, no_membrane_lies, no_part, no_part_of_atom, region_first, region_later, taken_first, taken_later}
use Rattle.lmn_adequacy.specs.Next.{fires_below, fires_here, kept_membranes, made_atom, made_level, no_made_context, no_made_leaf, no_made_membrane, raw_level, replaced}
use Rattle.lmn_adequacy.proofs.ExampleChanges.{not_among}
use Rattle.lmn_receipt_chain.specs.Examples.{MembraneIsChosen, NothingContinues, inside}

-- any process with a free root
one_port : Name → Rooted
one_port p = record { process = atom label_a (0 ∷ []); root = 0 }

nothing_given : Contents
nothing_given = record { link_of = λ x. 0; atoms_of = λ p. []; membranes_of = λ p. no_region; rules_of = λ p. []; typed_of = one_port }

-- the rule lies at the atom
at_atom : EmbedsAt a_makes_b (0 ∷ []) (changing (label_a ∷ []))
unfolding nothing_given one_port
at_atom = record {
  contents = nothing_given;
  rest = changing [];
  closed = λ p x. inl refl;
  root_is_free = λ p. refl;
  lies = level_lies (image_and taken_first no_image) (no_part_of_atom no_part) no_membrane_lies;
  guard = no_condition;
}

-- and at no position before it
least : (g : List ℕ) → EmbedsIn (0 ∷ []) 0 g (inside (changing (label_a ∷ []))) → (0 ∷ [] ≡ g) ⊎ Before (0 ∷ []) g
least g (embeds_below region_first (embeds_here taken_first e)) = go e.lies
  where
    by : (n : ℕ) → (0 ∷ [] ≡ n ∷ []) ⊎ Before (0 ∷ []) (n ∷ [])
    by zero = inl refl
    by (suc n) = inr (less_here (omega arith))

    go : {c : Contents} {h : List ℕ} {rest : Region} → LevelLies c (head_of a_makes_b) h (changing (label_a ∷ [])) rest → (0 ∷ [] ≡ h) ⊎ Before (0 ∷ []) h
    go (level_lies (image_and {n = n} k no_image) j no_membrane_lies) = by n

-- what the membrane is before its links are fused, and what the root is
raw : Level
raw = raw_level (changing []) [] (atom_leaf label_b [] ∷ []) [] []

raw_root : Level
raw_root = level [] (levels (replaced 0 raw (kept_membranes (region_and (changing (label_a ∷ [])) no_region)))) [] [] (rules [])

pub membrane_is_chosen : MembraneIsChosen
unfolding raw raw_root at_atom nothing_given one_port
membrane_is_chosen = (
  record {
    from = 1;
    one_of_them = omega arith;
    next = record {
      path = 0 ∷ [];
      number = 0;
      positions = 0 ∷ [];
      chosen = record {
        embeds = embeds_below region_first (embeds_here {r = a_makes_b} taken_first at_atom);
        earlier = [];
        later = [] ∷ [];
        order = refl;
        first_membrane = λ p k. elim k [ ];
        first_rule = λ j h. absurd (omega (arith, h));
        least = least;
      };
      next = record {
        raw = raw_root;
        fires = fires_below region_first
            (fires_here taken_first (record { at = at_atom; outs = atom_leaf label_b [] ∷ []; made_membranes = []; made_rules = []; makes = made_level (made_atom no_made_leaf) no_made_membrane no_made_context; bound = 0; bounded = λ x h. refl; is = refl }));
        fuses = record { closed_top = λ x. inl refl; to = λ x. 0; joins = all_join (level_process raw_root); is = refl; closed = λ x. inl refl };
      };
    };
    numbered = (0, no_more);
  },
  refl,
  refl,
)

-- without an `a` nothing embeds
nothing_embeds : {path f : List ℕ} {k : ℕ} → EmbedsIn path k f (inside (changing (label_b ∷ []))) → ⊥
nothing_embeds (embeds_here k e) = elim k [ ]
nothing_embeds (embeds_below region_first e) = there e
  where
    at_b : {c : Contents} {h : List ℕ} {rest : Region} → LevelLies c (head_of a_makes_b) h (changing (label_b ∷ [])) rest → ⊥
    at_b (level_lies (image_and k i) j m) = not_among k refl

    there : {path f : List ℕ} {k : ℕ} → EmbedsIn path k f (changing (label_b ∷ [])) → ⊥
    there (embeds_here taken_first e) = at_b e.lies
    there (embeds_here (taken_later k) e) = elim k [ ]
    there (embeds_below k i) = elim k [ ]
nothing_embeds (embeds_below (region_later k) e) = elim k [ ]

pub nothing_continues : NothingContinues
nothing_continues S c = let n = c.next in nothing_embeds n.chosen.embeds
