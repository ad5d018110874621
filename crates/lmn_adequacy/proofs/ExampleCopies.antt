-- Copies of a ground part.
use Rattle.std.proofs.Common.{ℕ, cond, eqb, List, inl, refl, arith, ◌≡◌, ◌≢◌, ◌-◌, ◌/◌, ◌≤◌, [], ◌∷◌}
use Rattle.lmn_congruence.specs.LinkedRules.{level_occurrences}
use Rattle.lmn_congruence.specs.Orders.{at_head, here, more, none}
use Rattle.lmn_congruence.specs.Plains.{level_process}
use Rattle.lmn_congruence.specs.Process.{OneToOneOn}
use Rattle.lmn_congruence.specs.Regions.{no_region, region, region_process, solid_atom_with}
use Rattle.lmn_congruence.specs.Rules.{Leaf, Level, atom_leaf, head_of}
use Rattle.lmn_reduction.specs.Examples.{label_a, label_b, double_part}
use Rattle.lmn_reduction.specs.Guards.{condition_and, no_condition, of_kind}
use Rattle.lmn_congruence.proofs.Counts.{none_if_apart}
use Rattle.lmn_reduction.proofs.Derivations.{closed_by}
use Rattle.lmn_reduction.proofs.ExampleSteps.{looped, looped_ground}
use Rattle.lmn_adequacy.specs.Embedding.{IsPart, from_first, image_and, merged_none, no_image, no_part, no_part_of_atom, part_and, taken_first, typed_later, Contents, EmbedsAt, level_lies, no_membrane_lies}
use Rattle.lmn_adequacy.specs.Next.{DepthFirst, fires_here, made_atom, made_copy, made_level, no_made_leaf, no_made_membrane, raw_level, reaches_listed, reaches_new, reaches_none}
use Rattle.lmn_adequacy.specs.Examples.{CopiesStandAsWritten}
use Rattle.lmn_adequacy.specs.Next.{no_made_context}

-- the atom with the root at x, and its other link y
looped_part : (x y : ℕ) → x ≢ y → IsPart looped x (solid_atom_with label_b (x ∷ y ∷ y ∷ []) ∷ [])
looped_part x y d = record { only_atoms = tt; to = λ n. cond (eqb n 0) x y; one_to_one = differ; root = refl; atoms = more refl none here }
  where
    differ : OneToOneOn (λ n. cond (eqb n 0) x y) looped.process
    differ i j o p e = grind (arith, o, p, e, d)

abbrev bound_part : Contents
bound_part = record { link_of = λ x. 0; atoms_of = λ p. []; membranes_of = λ p. no_region; rules_of = λ p. []; typed_of = λ p. looped }

lies : EmbedsAt double_part (0 ∷ []) (region (solid_atom_with label_a (0 ∷ []) ∷ solid_atom_with label_b (0 ∷ 1 ∷ 1 ∷ []) ∷ []) no_region (double_part ∷ []))
lies = record {
  contents = bound_part;
  rest = region [] no_region (double_part ∷ []);
  closed = λ p x. inl refl;
  root_is_free = λ p. refl;
  lies = level_lies (image_and taken_first (typed_later no_image)) (no_part_of_atom (part_and looped_ground (looped_part 0 1 (omega arith)) (from_first merged_none) no_part)) no_membrane_lies;
  guard = condition_and (of_kind looped_ground) no_condition;
}

past_one : (x : ℕ) → 1 ≤ x → level_occurrences x (head_of double_part) ≡ 0
past_one x h = omega (arith, none_if_apart x 0 (apart x h))
  where
    apart : (x : ℕ) → 1 ≤ x → x ≢ 0
    apart x h = grind arith

abbrev made : List Leaf
made = atom_leaf label_a (2 ∷ 4 ∷ []) ∷ atom_leaf label_b (2 ∷ 6 ∷ 6 ∷ []) ∷ atom_leaf label_b (4 ∷ 8 ∷ 8 ∷ []) ∷ []

abbrev copied_raw : Level
copied_raw = raw_level (region [] no_region (double_part ∷ [])) [] made [] []

listed_two : DepthFirst 2 (solid_atom_with label_b (2 ∷ 6 ∷ 6 ∷ []) ∷ [])
listed_two = reaches_new refl at_head (reaches_listed refl (reaches_listed refl (reaches_listed refl reaches_none))) reaches_none

listed_four : DepthFirst 4 (solid_atom_with label_b (4 ∷ 8 ∷ 8 ∷ []) ∷ [])
listed_four = reaches_new refl at_head (reaches_listed refl (reaches_listed refl (reaches_listed refl reaches_none))) reaches_none

-- in the example each copy has links of its own
pub part_is_copied : CopiesStandAsWritten
unfolding lies
part_is_copied = record {
  path = [];
  number = 0;
  positions = 0 ∷ [];
  next = record {
    raw = copied_raw;
    fires = fires_here taken_first (record {
      at = lies;
      outs = made;
      made_membranes = [];
      made_rules = [];
      makes = made_level (made_atom (made_copy (looped_part 2 6 (omega arith)) listed_two (made_copy (looped_part 4 8 (omega arith)) listed_four no_made_leaf))) no_made_membrane no_made_context;
      bound = 1;
      bounded = past_one;
      is = refl;
    });
    fuses = record {
      closed_top = closed_by (level_process copied_raw) refl;
      to = λ n. n / 2 - 1;
      joins = ((tt, (tt, (tt, tt))), (tt, (tt, tt)));
      is = refl;
      closed = closed_by (region_process (region (solid_atom_with label_a (0 ∷ 1 ∷ []) ∷ solid_atom_with label_b (0 ∷ 2 ∷ 2 ∷ []) ∷ solid_atom_with label_b (1 ∷ 3 ∷ 3 ∷ []) ∷ []) no_region (double_part ∷ []))) refl;
    };
  };
}
