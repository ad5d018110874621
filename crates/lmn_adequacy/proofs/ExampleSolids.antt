-- The next solids of small solids.
use Rattle.std.proofs.Common.{ℕ, suc, List, map, refl, sym, ap, inl, arith, ◌≡◌, ◌≢◌, ◌+◌, ◌≤◌, [], ◌∷◌}
use Rattle.lmn_congruence.specs.LinkedRules.{level_occurrences}
use Rattle.lmn_congruence.specs.Links.{one_if_same}
use Rattle.lmn_congruence.specs.Orders.{at_head, further}
use Rattle.lmn_congruence.specs.Plains.{level_process}
use Rattle.lmn_congruence.specs.Process.{Closed, atom}
use Rattle.lmn_congruence.specs.Regions.{Region, SolidAtom, no_region, region, region_and, region_process, solid_atom_with}
use Rattle.lmn_congruence.specs.Rules.{Label, Level, Name, atom_leaf, connector_leaf, head_of, integer, named, only_leaves}
use Rattle.lmn_reduction.specs.Assignments.{Assignment}
use Rattle.lmn_reduction.specs.Examples.{label_a, label_b, label_c, join_from_membrane, join_in_c, tie_ends}
use Rattle.lmn_reduction.specs.Guards.{no_condition}
use Rattle.lmn_reduction.specs.Parts.{Rooted}
use Rattle.lmn_congruence.proofs.Counts.{none_if_apart}
use Rattle.lmn_reduction.proofs.Derivations.{closed_by}
use Rattle.lmn_reduction.proofs.SettledForms.{all_join}
use Rattle.lmn_adequacy.specs.Embedding.{EmbedsIn, KeepsLinks, Taken, embeds_below, embeds_here, image_and, no_image, no_part, no_part_of_atom, region_first, region_later, taken_first, taken_later, Contents, no_rule_context, one_context, LevelLies, assignment_of, level_lies, membrane_lies, no_membrane_lies}
use Rattle.lmn_adequacy.specs.Next.{fires_here, kept_level, made_atom, made_connector, made_level, no_made_leaf, no_made_membrane, raw_level, reaches_listed, reaches_new, reaches_none, wire_leaves}
use Rattle.lmn_adequacy.specs.Examples.{InnerLinkDoesNotEmbed, EndsMeetInOneAtom, ListDepthFirst, NextHasNoLoop, MembraneOpens, open_membrane}
use Rattle.lmn_adequacy.specs.Next.{made_context, made_open, no_made_context}
use Rattle.lmn_adequacy.proofs.OneEmbedding.{same_head}

-- any process with a free root
one_port : Name → Rooted
one_port p = record { process = atom label_a (0 ∷ []); root = 0 }

-- the list of the example is listed depth first
pub list_depth_first : ListDepthFirst
list_depth_first =
    reaches_new refl (further (further at_head))
    (reaches_new refl at_head (reaches_listed refl reaches_none)
    (reaches_new refl (further (further at_head))
    (reaches_new refl at_head (reaches_listed refl reaches_none) (reaches_new refl at_head (reaches_listed refl reaches_none) (reaches_listed refl reaches_none)))
    (reaches_listed refl reaches_none))) reaches_none

-- ---- two links of the head that are one link

past_two : (x : ℕ) → 2 ≤ x → level_occurrences x (head_of join_in_c) ≡ 0
past_two x h = omega (arith, none_if_apart x 0 (apart x 0 (omega (arith, h))), none_if_apart x 1 (apart x 1 (omega (arith, h))))
  where
    apart : (x y : ℕ) → suc y ≤ x → x ≢ y
    apart x y h = grind arith

joined : Contents
joined = record { link_of = λ x. 0; atoms_of = λ p. []; membranes_of = λ p. no_region; rules_of = λ p. []; typed_of = one_port }

joined_raw : Level
joined_raw = raw_level (region [] no_region (join_in_c ∷ [])) (wire_leaves (λ x. 0) (head_of join_in_c) 2) (atom_leaf label_c (0 ∷ 2 ∷ []) ∷ []) [] []

joined_closed : Closed (level_process joined_raw)
unfolding joined_raw
joined_closed = closed_by (level_process joined_raw) refl

-- the two ends of a link may be joined to one atom
pub link_meets_itself : EndsMeetInOneAtom
unfolding joined one_port joined_raw
link_meets_itself =
    let r = join_in_c in
    record {
      path = [];
      number = 0;
      positions = 0 ∷ 0 ∷ [];
      next = record {
        raw = _;
        fires = fires_here taken_first (record {
          at = record {
            contents = joined;
            rest = region [] no_region (r ∷ []);
            closed = λ p x. inl refl;
            root_is_free = λ p. refl;
            lies = level_lies (image_and taken_first (image_and taken_first no_image)) (no_part_of_atom (no_part_of_atom no_part)) no_membrane_lies;
            guard = no_condition;
          };
          outs = atom_leaf label_c (0 ∷ 2 ∷ []) ∷ [];
          made_membranes = [];
          made_rules = [];
          makes = made_level (made_atom no_made_leaf) no_made_membrane no_made_context;
          bound = 2;
          bounded = past_two;
          is = refl;
        });
        fuses = record { closed_top = joined_closed; to = λ x. 0; joins = all_join (level_process joined_raw); is = refl; closed = closed_by (region_process (region (solid_atom_with label_c (0 ∷ 0 ∷ []) ∷ []) no_region (r ∷ []))) refl };
      };
    }

-- ---- a connector of the body closes a loop

tied_raw : Level
tied_raw = raw_level (region [] no_region (tie_ends ∷ [])) (wire_leaves (λ x. 0) (head_of tie_ends) 2) (connector_leaf 0 2 ∷ []) [] []

tied_closed : Closed (level_process tied_raw)
unfolding tied_raw
tied_closed = closed_by (level_process tied_raw) refl

past_both : (x : ℕ) → 2 ≤ x → level_occurrences x (head_of tie_ends) ≡ 0
past_both x h = omega (arith, none_if_apart x 0 (apart x 0 (omega (arith, h))), none_if_apart x 1 (apart x 1 (omega (arith, h))))
  where
    apart : (x y : ℕ) → suc y ≤ x → x ≢ y
    apart x y h = grind arith

-- a connector and a link that are a loop leave nothing
pub loop_vanishes : NextHasNoLoop
unfolding joined one_port tied_raw
loop_vanishes =
    let r = tie_ends in
    record {
      path = [];
      number = 0;
      positions = 0 ∷ [];
      next = record {
        raw = _;
        fires = fires_here taken_first (record {
          at = record {
            contents = joined;
            rest = region [] no_region (r ∷ []);
            closed = λ p x. inl refl;
            root_is_free = λ p. refl;
            lies = level_lies (image_and taken_first no_image) (no_part_of_atom no_part) no_membrane_lies;
            guard = no_condition;
          };
          outs = connector_leaf 0 2 ∷ [];
          made_membranes = [];
          made_rules = [];
          makes = made_level (made_connector no_made_leaf) no_made_membrane no_made_context;
          bound = 2;
          bounded = past_both;
          is = refl;
        });
        fuses = record { closed_top = tied_closed; to = λ x. 0; joins = all_join (level_process tied_raw); is = refl; closed = closed_by (region_process (region [] no_region (r ∷ []))) refl };
      };
    }

-- ---- a membrane is opened

opened : Contents
opened = record { link_of = λ x. 0; atoms_of = λ p. solid_atom_with label_b [] ∷ solid_atom_with label_c [] ∷ []; membranes_of = λ p. region_and (region (solid_atom_with label_b [] ∷ []) no_region []) no_region; rules_of = λ p. []; typed_of = one_port }

opened_raw : Level
opened_raw =
    raw_level (region (solid_atom_with label_c [] ∷ []) (region_and (region [] no_region []) no_region) (open_membrane ∷ [])) [] (atom_leaf label_a [] ∷ atom_leaf label_b [] ∷ atom_leaf label_c [] ∷ [])
    (kept_level (region (solid_atom_with label_b [] ∷ []) no_region []) ∷ []) []

-- a context leaves its membrane, its items behind those that stay and those that are written
pub membrane_opens : MembraneOpens
unfolding opened one_port opened_raw
membrane_opens =
    let empty : Region = region [] no_region [] in
    let inner : Region = region (solid_atom_with label_b [] ∷ []) no_region [] in
    record {
      path = [];
      number = 0;
      positions = 0 ∷ 1 ∷ [];
      next = record {
        raw = _;
        fires = fires_here taken_first (record {
          at = record {
            contents = opened;
            rest = region (solid_atom_with label_c [] ∷ []) (region_and empty no_region) (open_membrane ∷ []);
            closed = λ p x. inl refl;
            root_is_free = λ p. refl;
            lies = level_lies no_image no_part (membrane_lies region_first (level_lies (image_and (taken_later taken_first) no_image) (no_part_of_atom no_part) no_membrane_lies) (record { as_often = λ x d. absurd (d refl) }) (one_context, no_rule_context) no_membrane_lies);
            guard = no_condition;
          };
          outs = atom_leaf label_a [] ∷ atom_leaf label_b [] ∷ atom_leaf label_c [] ∷ [];
          made_membranes = kept_level inner ∷ [];
          made_rules = [];
          makes = made_level (made_atom no_made_leaf) no_made_membrane (made_context made_open no_made_context);
          bound = 0;
          bounded = λ x h. refl;
          is = refl;
        });
        fuses = record { closed_top = λ x. inl refl; to = λ x. 0; joins = all_join (level_process opened_raw); is = refl; closed = λ x. inl refl };
      };
    }

-- ---- a link that stays inside a membrane

abbrev held_inside : Region
held_inside = region (solid_atom_with label_a (0 ∷ []) ∷ solid_atom_with label_b (0 ∷ []) ∷ []) no_region []

not_once : (t : Assignment) → t.link_of 0 ≡ 0 → ¬ (KeepsLinks t (only_leaves (atom_leaf label_a (0 ∷ []) ∷ atom_leaf label_b (1 ∷ []) ∷ [])) held_inside)
not_once t e k = absurd (two (t.link_of 0) e (k.as_often 0 one))
  where
    one : ◌≢◌ {A = ℕ} 1 0
    one = omega arith

    two : (x : ℕ) → x ≡ 0 → ¬ ((one_if_same x 0 + 0) + ((one_if_same x 0 + 0) + 0) + (0 + 0) ≡ 1)
    two x e h = absurd (grind arith)

first_link : (t : Assignment) {n : ℕ} {rest : List SolidAtom} → Taken n (record { label = label_a; links = map t.link_of (0 ∷ []) }) (solid_atom_with label_a (0 ∷ []) ∷ solid_atom_with label_b (0 ∷ []) ∷ []) rest → t.link_of 0 ≡ 0
first_link t k = go k
  where
    letter : Label → ℕ
    letter (named (x ∷ xs)) = x
    letter (named []) = 0
    letter (integer z) = 0

    not_so : ¬ (◌≡◌ {A = ℕ} 97 98)
    not_so = omega arith

    names : ¬ (label_a ≡ label_b)
    names e = not_so (ap letter e)

    is_first : {x : SolidAtom} {n : ℕ} {rest : List SolidAtom} → Taken n x (solid_atom_with label_a (0 ∷ []) ∷ solid_atom_with label_b (0 ∷ []) ∷ []) rest → x.label ≡ label_a → x ≡ solid_atom_with label_a (0 ∷ [])
    is_first taken_first e = refl
    is_first (taken_later taken_first) e = absurd (names (sym e))
    is_first (taken_later (taken_later k)) e = elim k [ ]

    go : {n : ℕ} {rest : List SolidAtom} → Taken n (record { label = label_a; links = map t.link_of (0 ∷ []) }) (solid_atom_with label_a (0 ∷ []) ∷ solid_atom_with label_b (0 ∷ []) ∷ []) rest → t.link_of 0 ≡ 0
    go k = same_head (t.link_of 0) 0 [] [] (ap (λ z. z.links) (is_first k refl))

no_images : (c : Contents) {f : List ℕ} {rest : Region} → LevelLies c (head_of join_from_membrane) f (region [] (region_and held_inside no_region) (join_from_membrane ∷ [])) rest → ⊥
no_images c (level_lies no_image no_part (membrane_lies region_first (level_lies (image_and k i) j q) keeps o p)) = not_once (assignment_of c) (first_link (assignment_of c) k) keeps
no_images c (level_lies no_image no_part (membrane_lies (region_later k) i keeps o p)) = elim k [ ]

-- a link that stays inside a membrane doesn't match two that leave it
pub inner_link_does_not_embed : InnerLinkDoesNotEmbed
inner_link_does_not_embed e = go e.embeds
  where
    inside : {path f : List ℕ} {k : ℕ} → EmbedsIn path k f held_inside → ⊥
    inside (embeds_here k e) = elim k [ ]
    inside (embeds_below k i) = elim k [ ]

    go : {path f : List ℕ} {k : ℕ} → EmbedsIn path k f (region [] (region_and held_inside no_region) (join_from_membrane ∷ [])) → ⊥
    go (embeds_here taken_first e) = no_images e.contents e.lies
    go (embeds_here (taken_later k) e) = elim k [ ]
    go (embeds_below region_first i) = inside i
    go (embeds_below (region_later k) i) = elim k [ ]
