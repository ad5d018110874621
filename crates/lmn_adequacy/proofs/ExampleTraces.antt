-- The trace of a solid that grows.
use Rattle.std.proofs.Common.{ℕ, zero, suc, List, [], ◌∷◌, refl, inl, inr, arith, ◌≡◌, ◌⊎◌}
use Rattle.lmn_base.specs.Links.{no_more}
use Rattle.lmn_congruence.specs.Plains.{level_process}
use Rattle.lmn_congruence.specs.Regions.{Region, SolidAtom, no_region, solid_atom_with}
use Rattle.lmn_congruence.specs.Rules.{Level, Name, atom_leaf, head_of}
use Rattle.lmn_reduction.specs.Examples.{label_a}
use Rattle.lmn_reduction.specs.Guards.{no_condition}
use Rattle.lmn_reduction.specs.Parts.{Rooted}
use Rattle.lmn_congruence.specs.Process.{atom}
use Rattle.lmn_reduction.proofs.SettledForms.{all_join}
use Rattle.lmn_adequacy.specs.Choice.{Before, ChosenFrom, less_here}
use Rattle.lmn_adequacy.specs.Embedding.{HasEmbedding, EmbedsAt, EmbedsIn, embeds_below, embeds_here, image_and, no_image, no_part, no_part_of_atom, taken_first, taken_later, Contents, LevelLies, level_lies, no_membrane_lies}
use Rattle.lmn_adequacy.specs.Next.{fires_here, made_atom, made_level, no_made_leaf, no_made_membrane, raw_level}
use Rattle.lmn_adequacy.specs.Examples.{TracesEnd, grow, growing, root_first}
use Rattle.lmn_adequacy.specs.Next.{no_made_context}
use Rattle.lmn_adequacy.specs.Runs.{Turn, loaded, none_allowed, nothing_embeds, too_many, turned}

-- any process with a free root
one_port : Name → Rooted
one_port p = record { process = atom label_a (0 ∷ []); root = 0 }

nothing_given : Contents
nothing_given = record { link_of = λ x. 0; atoms_of = λ p. []; membranes_of = λ p. no_region; rules_of = λ p. []; typed_of = one_port }

-- the rule lies at the first atom
first_atom : (xs : List SolidAtom) → EmbedsAt grow (0 ∷ []) (growing (solid_atom_with label_a [] ∷ xs))
unfolding nothing_given one_port
first_atom xs = record {
  contents = nothing_given;
  rest = growing xs;
  closed = λ p x. inl refl;
  root_is_free = λ p. refl;
  lies = level_lies (image_and taken_first no_image) (no_part_of_atom no_part) no_membrane_lies;
  guard = no_condition;
}

embeds_first : (xs : List SolidAtom) → EmbedsIn [] 0 (0 ∷ []) (growing (solid_atom_with label_a [] ∷ xs))
embeds_first xs = embeds_here {r = grow} taken_first (first_atom xs)

-- and at no position before it
least_first : (xs : List SolidAtom) (g : List ℕ) → EmbedsIn [] 0 g (growing xs) → (0 ∷ [] ≡ g) ⊎ Before (0 ∷ []) g
least_first xs g (embeds_here taken_first e) = go e.lies
  where
    by : (n : ℕ) → (0 ∷ [] ≡ n ∷ []) ⊎ Before (0 ∷ []) (n ∷ [])
    by zero = inl refl
    by (suc n) = inr (less_here (omega arith))

    go : {c : Contents} {h : List ℕ} {rest : Region} → LevelLies c (head_of grow) h (growing xs) rest → (0 ∷ [] ≡ h) ⊎ Before (0 ∷ []) h
    go (level_lies (image_and {n = n} k no_image) j no_membrane_lies) = by n

chosen_first : (xs : List SolidAtom) → ChosenFrom 0 (growing (solid_atom_with label_a [] ∷ xs)) [] 0 (0 ∷ [])
chosen_first xs = record {
  embeds = embeds_first xs;
  earlier = [];
  later = [];
  order = refl;
  first_membrane = λ p k. elim k [ ];
  first_rule = λ j h. absurd (omega (arith, h));
  least = least_first (solid_atom_with label_a [] ∷ xs);
}

raw : List SolidAtom → Level
raw xs = raw_level (growing xs) [] (atom_leaf label_a [] ∷ atom_leaf label_a [] ∷ []) [] []

one_turn : Turn root_first 0 (growing (solid_atom_with label_a [] ∷ [])) (growing (solid_atom_with label_a [] ∷ solid_atom_with label_a [] ∷ []))
unfolding raw first_atom nothing_given one_port
one_turn = record {
  next = record {
    path = [];
    number = 0;
    positions = 0 ∷ [];
    chosen = chosen_first [];
    next = record {
      raw = raw [];
      fires = fires_here taken_first (record { at = first_atom []; outs = atom_leaf label_a [] ∷ atom_leaf label_a [] ∷ []; made_membranes = []; made_rules = []; makes = made_level (made_atom (made_atom no_made_leaf)) no_made_membrane no_made_context; bound = 0; bounded = λ x h. refl; is = refl });
      fuses = record { closed_top = λ x. inl refl; to = λ x. 0; joins = all_join (level_process (raw [])); is = refl; closed = λ x. inl refl };
    };
  };
  numbered = (0, no_more);
}

next_turn : Turn root_first 1 (growing (solid_atom_with label_a [] ∷ solid_atom_with label_a [] ∷ [])) (growing (solid_atom_with label_a [] ∷ solid_atom_with label_a [] ∷ solid_atom_with label_a [] ∷ []))
unfolding raw first_atom nothing_given one_port
next_turn = record {
  next = record {
    path = [];
    number = 0;
    positions = 0 ∷ [];
    chosen = chosen_first (solid_atom_with label_a [] ∷ []);
    next = record {
      raw = raw (solid_atom_with label_a [] ∷ []);
      fires = fires_here taken_first (record { at = first_atom (solid_atom_with label_a [] ∷ []); outs = atom_leaf label_a [] ∷ atom_leaf label_a [] ∷ []; made_membranes = []; made_rules = []; makes = made_level (made_atom (made_atom no_made_leaf)) no_made_membrane no_made_context; bound = 0; bounded = λ x h. refl; is = refl });
      fuses = record { closed_top = λ x. inl refl; to = λ x. 0; joins = all_join (level_process (raw (solid_atom_with label_a [] ∷ []))); is = refl; closed = λ x. inl refl };
    };
  };
  numbered = (0, no_more);
}

nothing_grows : ¬ (HasEmbedding (growing []))
nothing_grows e = go e.embeds
  where
    no_images : {c : Contents} {h : List ℕ} {rest : Region} → LevelLies c (head_of grow) h (growing []) rest → ⊥
    no_images (level_lies (image_and k i) j m) = elim k [ ]

    go : {path f : List ℕ} {k : ℕ} → EmbedsIn path k f (growing []) → ⊥
    go (embeds_here taken_first e) = no_images e.lies
    go (embeds_here (taken_later k) e) = elim k [ ]
    go (embeds_below k i) = elim k [ ]

-- the traces of the example end so
pub traces_end : TracesEnd
traces_end = (
  (turned loaded (omega arith) one_turn (omega arith), too_many (omega arith) next_turn (omega arith)),
  (turned loaded (omega arith) one_turn (omega arith), none_allowed (record { path = []; number = 0; positions = 0 ∷ []; embeds = embeds_first (solid_atom_with label_a [] ∷ []) }) refl),
  (loaded, nothing_embeds nothing_grows),
)
