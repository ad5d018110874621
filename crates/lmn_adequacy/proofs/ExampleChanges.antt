-- Solids in which `a` becomes `b`.
use Rattle.std.proofs.Common.{ℕ, zero, suc, List, take, drop, refl, sym, ap, subst, inl, inr, arith, ◌∙◌, ◌≡◌, ◌≤◌, ◌+◌, ◌⊎◌, ◌==◌, cond, length, [], ◌∷◌, ◌++◌}
use Rattle.lmn_base.specs.Links.{no_more}
use Rattle.lmn_base.proofs.Lists.{head_is}
use Rattle.lmn_congruence.specs.Orders.{none, no_pairs, pair_and}
use Rattle.lmn_congruence.specs.Plains.{fused_level, level_process}
use Rattle.lmn_congruence.specs.Process.{Closed, Process, atom}
use Rattle.lmn_congruence.specs.Regions.{Region, SolidAtom, no_region, region, region_process, solid_atom_with}
use Rattle.lmn_congruence.specs.Rules.{Label, Level, Name, Rule, atom_leaf, head_of, integer, named}
use Rattle.lmn_congruence.specs.Same.{IsRenamed}
use Rattle.lmn_congruence.specs.Weights.{process_weight}
use Rattle.lmn_congruence.proofs.Common.{nothing_among}
use Rattle.lmn_congruence.proofs.KeptRules.{AllRules as EachProcessRule, kept_rules}
use Rattle.lmn_congruence.proofs.KeptWeights.{kept_weight}
use Rattle.lmn_reduction.specs.Assignments.{Assignment}
use Rattle.lmn_reduction.specs.Chains.{Chain, no_step, step_after}
use Rattle.lmn_reduction.specs.Commits.{Commit, SettlesTowards, already, step_and}
use Rattle.lmn_reduction.specs.Examples.{label_a, label_b, label_c}
use Rattle.lmn_reduction.specs.Firing.{Matches, fires}
use Rattle.lmn_reduction.specs.Guards.{no_condition}
use Rattle.lmn_reduction.specs.Instances.{Instance, instance, no_membrane, of_atom}
use Rattle.lmn_reduction.specs.Parts.{Rooted}
use Rattle.lmn_reduction.specs.Steps.{SettlingStep, Step, beside, inside, into, leaf, out, up_to}
use Rattle.lmn_reduction.proofs.SettledForms.{all_join}
use Rattle.lmn_adequacy.specs.Accepted.{Accepted, Throughout, all_asked}
use Rattle.lmn_adequacy.specs.ChangeExamples.{KeptComesFirst, ShortTraceEnds, TracesLeaveNothingOut, TwoFiringsAreTwoCommits, a_makes_b, changing}
use Rattle.lmn_adequacy.specs.Choice.{Before, ChosenFrom, less_here}
use Rattle.lmn_adequacy.specs.Embedding.{AllRules, Contents, EmbedsAt, EmbedsIn, HasEmbedding, LevelLies, Taken, embeds_below, embeds_here, image_and, level_lies, no_image, no_membrane_lies, no_part, no_part_of_atom, taken_first, taken_later}
use Rattle.lmn_adequacy.specs.Examples.{root_first}
use Rattle.lmn_adequacy.specs.Next.{Next, NextAt, fires_here, made_atom, made_level, no_made_context, no_made_leaf, no_made_membrane, raw_level}
use Rattle.lmn_adequacy.specs.Runs.{Chooser, Trace, Turn, loaded, nothing_embeds, turned}
use Rattle.lmn_adequacy.proofs.Results.{embeddings_fire, irreducible_exactly, one_next}
use Rattle.lmn_adequacy.proofs.Runs.{trace_commits, trace_is_one}

-- ---- names told apart

-- the first byte of a name
abbrev letter : Label → ℕ
letter (named (x ∷ xs)) = x
letter (named []) = 0
letter (integer z) = 0

-- that of the first atom
abbrev first_letter : Region → ℕ
first_letter (region [] ms rs) = 0
first_letter (region (a ∷ xs) ms rs) = letter a.label

-- that of the second atom
abbrev second_letter : Region → ℕ
second_letter (region [] ms rs) = 0
second_letter (region (a ∷ []) ms rs) = 0
second_letter (region (a ∷ b ∷ xs) ms rs) = letter b.label

a_not_b : ¬ (◌≡◌ {A = ℕ} 97 98)
a_not_b = omega arith

a_not_c : ¬ (◌≡◌ {A = ℕ} 97 99)
a_not_c = omega arith

b_not_c : ¬ (◌≡◌ {A = ℕ} 98 99)
b_not_c = omega arith

-- ---- the rule

rule_accepted : Accepted a_makes_b
rule_accepted = record {
  linked = λ x. inl refl;
  not_empty = λ e. absurd (cc e);
  no_connectors = (tt, tt);
  no_rules = (refl, tt);
  top_contexts = refl;
  top_rule_contexts = refl;
  few = tt;
  once = (tt, tt, tt);
  kept = none;
  known_rules = λ p k. absurd (nothing_among k);
  known_closed = λ p k. absurd (nothing_among k);
  known = λ p k. absurd (nothing_among k);
  in_turn = all_asked;
  typed = λ p k. absurd (nothing_among k);
  held = λ x k. absurd (nothing_among k);
}

-- all rules of these solids are accepted, those in rules too
changing_accepted : (labels : List Label) → AllRules (Throughout Accepted) (changing labels)
changing_accepted labels = (((rule_accepted, (tt, tt)), tt), tt)

-- ---- where it embeds

abbrev atom_a : SolidAtom
atom_a = solid_atom_with label_a []

-- atoms beside the rule
abbrev atoms_beside : List SolidAtom → Region
atoms_beside xs = region xs no_region (a_makes_b ∷ [])

-- any process with a free root
one_port : Name → Rooted
one_port p = record { process = atom label_a (0 ∷ []); root = 0 }

nothing_given : Contents
nothing_given = record { link_of = λ x. 0; atoms_of = λ p. []; membranes_of = λ p. no_region; rules_of = λ p. []; typed_of = one_port }

lies_at : {n : ℕ} {xs rest : List SolidAtom} → Taken n atom_a xs rest → EmbedsAt a_makes_b (n ∷ []) (atoms_beside xs)
unfolding nothing_given one_port
lies_at {rest = rest} k = record {
  contents = nothing_given;
  rest = atoms_beside rest;
  closed = λ p x. inl refl;
  root_is_free = λ p. refl;
  lies = level_lies (image_and k no_image) (no_part_of_atom no_part) no_membrane_lies;
  guard = no_condition;
}

embeds_at : {n : ℕ} {xs rest : List SolidAtom} → Taken n atom_a xs rest → EmbedsIn [] 0 (n ∷ []) (atoms_beside xs)
embeds_at k = embeds_here {r = a_makes_b} taken_first (lies_at k)

-- it embeds nowhere but at an atom `a`
by_atom : (P : List ℕ → ℕ → List ℕ → Type 0) (xs : List SolidAtom) → ((n : ℕ) (rest : List SolidAtom) → Taken n atom_a xs rest → P [] 0 (n ∷ []))
    → {path f : List ℕ} {k : ℕ} → EmbedsIn path k f (atoms_beside xs) → P path k f
by_atom P xs h (embeds_here taken_first e) = go e.lies
  where
    go : {c : Contents} {f : List ℕ} {rest : Region} → LevelLies c (head_of a_makes_b) f (atoms_beside xs) rest → P [] 0 f
    go (level_lies (image_and {n = n} {xs' = left} k no_image) j no_membrane_lies) = h n left k
by_atom P xs h (embeds_here (taken_later k) e) = elim k [ ]
by_atom P xs h (embeds_below k i) = elim k [ ]

-- ---- what it makes

raw : List SolidAtom → Level
raw xs = raw_level (atoms_beside xs) [] (atom_leaf label_b [] ∷ []) [] []

next_at : (left : List SolidAtom) (S' : Region) {n : ℕ} {xs : List SolidAtom} → Taken n atom_a xs left
    → Closed (level_process (raw left)) → S' ≡ fused_level (λ x. 0) (raw left) → Closed (region_process S')
    → NextAt [] 0 (n ∷ []) (atoms_beside xs) S'
unfolding raw lies_at nothing_given one_port
next_at left S' k closed_top is closed = record {
  raw = raw left;
  fires = fires_here taken_first (record { at = lies_at k; outs = atom_leaf label_b [] ∷ []; made_membranes = []; made_rules = []; makes = made_level (made_atom no_made_leaf) no_made_membrane no_made_context; bound = 0; bounded = λ x h. refl; is = refl });
  fuses = record { closed_top = closed_top; to = λ x. 0; joins = all_join (level_process (raw left)); is = is; closed = closed };
}

-- ---- what is kept comes first

abbrev c_and_a : Region
c_and_a = changing (label_c ∷ label_a ∷ [])

c_then_b : NextAt [] 0 (1 ∷ []) c_and_a (changing (label_c ∷ label_b ∷ []))
unfolding raw
c_then_b = next_at (solid_atom_with label_c [] ∷ []) _ (taken_later taken_first) (λ x. inl refl) refl (λ x. inl refl)

at_second : {x : SolidAtom} {n : ℕ} {rest : List SolidAtom} → Taken n x (solid_atom_with label_c [] ∷ atom_a ∷ []) rest → label_a ≡ x.label → n ≡ 1
at_second taken_first e = absurd (a_not_c (ap letter e))
at_second (taken_later taken_first) e = refl
at_second (taken_later (taken_later k)) e = elim k [ ]

not_before : ¬ (Next c_and_a (changing (label_b ∷ label_c ∷ [])))
not_before n =
    by_atom (λ path k f. ¬ (NextAt path k f c_and_a wrong)) (solid_atom_with label_c [] ∷ atom_a ∷ []) refused
    ((embeddings_fire n.path n.positions n.number c_and_a (λ x. inl refl) ((rule_accepted, tt), tt)).1 (wrong, n.next)) n.next
  where
    wrong : Region
    wrong = changing (label_b ∷ label_c ∷ [])

    refused : (n : ℕ) (rest : List SolidAtom) → Taken n atom_a (solid_atom_with label_c [] ∷ atom_a ∷ []) rest → ¬ (NextAt [] 0 (n ∷ []) c_and_a wrong)
    refused n rest k next = apart (one_next [] (1 ∷ []) 0 c_and_a (changing (label_c ∷ label_b ∷ [])) wrong (λ x. inl refl) ((rule_accepted, tt), tt) c_then_b (subst (λ m. NextAt [] 0 (m ∷ []) c_and_a wrong) (at_second k refl) next))
      where
        apart : ¬ (IsRenamed (changing (label_c ∷ label_b ∷ [])) wrong)
        apart s = absurd (b_not_c (ap first_letter s.is))

-- what is made stands behind what stays
pub kept_comes_first : KeptComesFirst
kept_comes_first = (record { path = []; number = 0; positions = 1 ∷ []; next = c_then_b }, not_before)

-- ---- the trace

abbrev root_alone : List (List ℕ)
root_alone = [] ∷ []

-- one membrane is asked alone, wherever one begins
one_membrane : (from : ℕ) → drop from root_alone ++ take from root_alone ≡ root_alone
one_membrane zero = refl
one_membrane (suc zero) = refl
one_membrane (suc (suc n)) = refl

-- it embeds least at the first atom, if that is an `a`
chosen_first : (from : ℕ) (xs : List SolidAtom) → ChosenFrom from (atoms_beside (atom_a ∷ xs)) [] 0 (0 ∷ [])
chosen_first from xs = record {
  embeds = embeds_at taken_first;
  earlier = [];
  later = [];
  order = one_membrane from;
  first_membrane = λ p k. elim k [ ];
  first_rule = λ j h. absurd (omega (arith, h));
  least = λ g. by_atom (λ path k f. (0 ∷ [] ≡ f) ⊎ Before (0 ∷ []) f) (atom_a ∷ xs) (λ n rest k. zero_or_behind n);
}
  where
    zero_or_behind : (n : ℕ) → (0 ∷ [] ≡ n ∷ []) ⊎ Before (0 ∷ []) (n ∷ [])
    zero_or_behind zero = inl refl
    zero_or_behind (suc n) = inr (less_here (omega arith))

-- `a. a :- b.` goes to `b.` beside its rule, whichever membrane is asked first
alone_turns : (chooser : Chooser) (n : ℕ) → Turn chooser n (changing (label_a ∷ [])) (changing (label_b ∷ []))
unfolding raw
alone_turns chooser n = record {
  next = record { path = []; number = 0; positions = 0 ∷ []; chosen = chosen_first _ []; next = next_at [] _ taken_first (λ x. inl refl) refl (λ x. inl refl) };
  numbered = (0, no_more);
}

-- and so does the first `a` where another atom stands behind it
first_turns : (chooser : Chooser) (n : ℕ) (l : Label) → Turn chooser n (changing (label_a ∷ l ∷ [])) (changing (l ∷ label_b ∷ []))
unfolding raw
first_turns chooser n l = record {
  next = record {
    path = [];
    number = 0;
    positions = 0 ∷ [];
    chosen = chosen_first _ (solid_atom_with l [] ∷ []);
    next = next_at (solid_atom_with l [] ∷ []) _ taken_first (λ x. inl refl) refl (λ x. inl refl);
  };
  numbered = (0, no_more);
}

-- no `a` is left
pub not_among : {x : SolidAtom} {n : ℕ} {rest : List SolidAtom} → Taken n x (solid_atom_with label_b [] ∷ []) rest → label_a ≡ x.label → ⊥
not_among taken_first e = absurd (a_not_b (ap letter e))
not_among (taken_later k) e = elim k [ ]

-- in `b. a :- b.` nothing embeds
alone_stays : ¬ (HasEmbedding (changing (label_b ∷ [])))
alone_stays e = by_atom (λ path k f. ⊥) (solid_atom_with label_b [] ∷ []) (λ n rest k. not_among k refl) e.embeds

-- so the trace of `a. a :- b.` ends there
short_trace : (chooser : Chooser) → Trace chooser 1 2 (changing (label_a ∷ [])) (changing (label_a ∷ []) ∷ []) (changing (label_b ∷ []))
short_trace chooser = turned loaded (omega arith) (alone_turns chooser 0) (omega arith)

not_among_two : {x : SolidAtom} {n : ℕ} {rest : List SolidAtom} → Taken n x (solid_atom_with label_b [] ∷ solid_atom_with label_b [] ∷ []) rest → label_a ≡ x.label → ⊥
not_among_two taken_first e = absurd (a_not_b (ap letter e))
not_among_two (taken_later k) e = not_among k e

both_stay : ¬ (HasEmbedding (changing (label_b ∷ label_b ∷ [])))
both_stay e = by_atom (λ path k f. ⊥) (solid_atom_with label_b [] ∷ solid_atom_with label_b [] ∷ []) (λ n rest k. not_among_two k refl) e.embeds

abbrev two_a : Region
two_a = changing (label_a ∷ label_a ∷ [])

abbrev a_and_b : Region
a_and_b = changing (label_a ∷ label_b ∷ [])

abbrev two_b : Region
two_b = changing (label_b ∷ label_b ∷ [])

up_to_second : Trace root_first 5 9 two_a (two_a ∷ []) a_and_b
up_to_second = turned loaded (omega arith) (first_turns root_first 0 label_a) (omega arith)

up_to_last : Trace root_first 5 9 two_a (two_a ∷ a_and_b ∷ []) two_b
up_to_last = turned up_to_second (omega arith) (first_turns root_first 1 label_b) (omega arith)

-- a trace that leaves out a solid isn't the one that there is
pub traces_leave_nothing_out : TracesLeaveNothingOut
traces_leave_nothing_out = (
  up_to_last,
  nothing_embeds both_stay,
  λ t. absurd (a_not_b (ap second_letter (head_is (same_as t refl).0))),
  λ t. absurd (a_not_b (ap first_letter (same_as t refl).1)),
)
  where
    same_as : {before : List Region} {last : Region} → Trace root_first 5 9 two_a before last → length before ≡ 1 → (two_a ∷ [] ≡ before) × (a_and_b ≡ last)
    same_as t one = trace_is_one root_first 5 9 two_a (two_a ∷ []) _ a_and_b _ (λ x. inl refl) (changing_accepted (label_a ∷ label_a ∷ [])) up_to_second t (sym one)

-- ---- two commits

-- an atom weighs 1 where its name begins with `a`, and else nothing
abbrev of_a : Label → ℕ
of_a l = cond (letter l == 97) 1 0

abbrev weight : Process → ℕ
weight = process_weight of_a 0

-- an instance of the head weighs 1
head_weighs : (r : Rule) (A : Process) → r ≡ a_makes_b → Matches r A → weight A ≤ 1
head_weighs r A e = subst (λ k. Matches k A → weight A ≤ 1) (sym e) (λ m. go m.head)
  where
    go : {t : Assignment} {A : Process} → Instance t (head_of a_makes_b) A → weight A ≤ 1
    go (instance (pair_and of_atom no_pairs) no_membrane no_pairs) = omega arith

-- so a step by this rule takes away at most 1
step_weighs : {P Q : Process} → Step P Q → EachProcessRule (λ r. r ≡ a_makes_b) P → weight P ≤ weight Q + 1
step_weighs (leaf (fires {r = r} {A = A} f) l l') h = let one = head_weighs r A h.1 f.matches in omega arith
step_weighs (beside d l l') h = let i = step_weighs d h.0 in omega arith
step_weighs (inside d) h = omega arith
step_weighs (up_to c d e) h =
    let i = step_weighs d ((kept_rules (λ r. r ≡ a_makes_b) c).0 h) in
    omega (arith, kept_weight of_a 0 c, kept_weight of_a 0 e)

-- and settling takes away nothing
settling_weighs : {P Q : Process} → SettlingStep P Q → weight P ≡ weight Q
settling_weighs (leaf (out x y d f g) l l') = refl
settling_weighs (leaf (into x y d f g) l l') = refl
settling_weighs (beside d l l') = let i = settling_weighs d in omega arith
settling_weighs (inside d) = refl
settling_weighs (up_to c d e) = kept_weight of_a 0 c ∙ settling_weighs d ∙ kept_weight of_a 0 e

settled_weighs : {P Q : Process} → SettlesTowards P Q → weight P ≡ weight Q
settled_weighs (already c) = kept_weight of_a 0 c
settled_weighs (step_and s t) = settling_weighs s ∙ settled_weighs t

not_at_once : ¬ (Commit (region_process two_a) (region_process two_b))
not_at_once c =
    let step = step_weighs c.step ((tt, (tt, tt)), (tt, (refl, tt))) in
    let settles = settled_weighs c.settles.towards in
    absurd (omega arith)

-- a chain of one step is that step
none_taken : {P Q : Process} {n : ℕ} → Chain Commit P n Q → n ≡ 0 → P ≡ Q
none_taken no_step e = refl
none_taken (step_after {n = n} c s) e = absurd (omega (arith, e))

one_taken : {P Q : Process} {n : ℕ} → Chain Commit P n Q → n ≡ 1 → Commit P Q
one_taken no_step e = absurd (omega (arith, e))
one_taken {Q = Q} (step_after {n = n} c s) e = subst (λ R. Commit R Q) (sym (none_taken c (omega (arith, e)))) s

-- two atoms become others by two commits, and not by one
pub two_firings_are_two_commits : TwoFiringsAreTwoCommits
two_firings_are_two_commits = (
  (trace_commits root_first 5 9 two_a (two_a ∷ a_and_b ∷ []) two_b (λ x. inl refl) (changing_accepted (label_a ∷ label_a ∷ [])) up_to_last).0,
  λ c. not_at_once (one_taken c refl),
  not_at_once,
)

-- the trace of `a. a :- b.` ends, and so does its process
pub short_trace_ends : ShortTraceEnds
short_trace_ends = (
  λ chooser. (short_trace chooser, nothing_embeds alone_stays),
  one_taken (trace_commits root_first 1 2 (changing (label_a ∷ [])) (changing (label_a ∷ []) ∷ []) (changing (label_b ∷ [])) (λ x. inl refl) (changing_accepted (label_a ∷ [])) (short_trace root_first)).0 refl,
  (irreducible_exactly (changing (label_b ∷ [])) (λ x. inl refl) ((rule_accepted, tt), tt)).1 alone_stays,
)
