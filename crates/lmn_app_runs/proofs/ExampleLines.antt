-- The lines of the run of a short text.
use Rattle.std.proofs.Common.{◌≡◌, ℕ, suc, ◌+◌, List, [], ◌∷◌, ◌++◌, length, refl, inl, sym, ap, ◌∙◌, arith}
use Rattle.std.specs.Prelude.{Bool, Contains, codes, true}
use Rattle.std.specs.declared.alloc.Global.{Global}
use Rattle.std.proofs.lemmas.List.{length-append}
use Rattle.std.specs.List.{AllZip}
use Rattle.lmn_base.specs.Links.{no_more}
use Rattle.lmn_base.specs.Names.{IsNames}
use Rattle.lmn_congruence.specs.Plains.{level_process}
use Rattle.lmn_congruence.specs.Process.{Process}
use Rattle.lmn_congruence.specs.Regions.{region_process}
use Rattle.lmn_congruence.specs.Rules.{Name, atom_leaf, named, only_leaves}
use Rattle.lmn_lexer.specs.Spelling.{byte, nothing}
use Rattle.lmn_reduction.specs.Examples.{label_a, label_b}
use Rattle.lmn_adequacy.specs.ChangeExamples.{changing}
use Rattle.lmn_adequacy.proofs.ExampleChanges.{short_trace_ends}
use Rattle.lmn_flatten_plain.specs.NamesHeld.{LevelHeld}
use Rattle.lmn_flatten_plain.specs.SolidLines.{as_level}
use Rattle.lmn_flatten_plain.specs.Spelled.{LabelSpelled, LevelSpelled}
use Rattle.lmn_flatten_plain.specs.Words.{line_of}
use Rattle.lmn_flatten_plain.proofs.SolidLines.{no_contexts, same_process}
use Rattle.lmn_flatten_plain.proofs.TextPlains.{lines_read_back}
use Rattle.lmn_app_runs.specs.Examples.{ShortRunPrints}
use Rattle.lmn_app_runs.specs.Runs.{IsLineOf, IsProcessLine, Prints, commit_after, no_commit}

-- the letters can be spelled
a_spelled : LabelSpelled label_a
a_spelled = (codes "a", byte refl nothing)

b_spelled : LabelSpelled label_b
b_spelled = (codes "b", byte refl nothing)

-- an atom without links
one_spelled : (name : Name) → LabelSpelled (named name) → LevelSpelled (only_leaves (atom_leaf (named name) [] ∷ []))
one_spelled name h = (((h, tt), tt), tt, tt, tt, tt)

one_held : (names : List Name) (name : Name) → Contains names name → LevelHeld names (only_leaves (atom_leaf (named name) [] ∷ []))
one_held names name h = ((h, tt), tt, tt, tt, tt)

-- one atom beside the rule has its line
module _ (alloc : Global) (names : List Name) (is : IsNames names) (a : Contains names (codes "a")) (b : Contains names (codes "b")) where
  its_line : (name : Name) → LabelSpelled (named name) → Contains names name
      → IsLineOf names (region_process (changing (named name ∷ []))) (line_of (as_level (changing (named name ∷ []))))
  its_line name spelled held =
      let S = changing (named name ∷ []) in
      let back = lines_read_back alloc names (as_level S) 0 is
      ((held, tt), tt, tt, tt, ((one_held names (codes "a") a, tt, one_held names (codes "b") b), tt))
      (((spelled, tt), tt), tt, tt, tt, ((one_spelled (codes "a") a_spelled, tt, one_spelled (codes "b") b_spelled), tt))
      no_more (tt, (((0, no_more), (tt, tt), (tt, tt)), tt)) (no_contexts S) in
      record {
        plain = back.0;
        reads = back.1;
        process = sym (same_process S) ∙ ap level_process (sym back.2);
        closed = λ x. inl refl;
      }

-- as many lines as processes
as_many : (R : Process → List ℕ → Type 0) (Ps : List Process) (lines : List (List ℕ)) → AllZip R Ps lines → length lines ≡ length Ps
as_many R [] [] h = refl
as_many R [] (line ∷ lines) h = absurd h
as_many R (P ∷ Ps) [] h = absurd h
as_many R (P ∷ Ps) (line ∷ lines) h = ap suc (as_many R Ps lines h.1)

-- with a trace each commit has a line
pub many_lines : {folded : Bool} {names : List Name} {P Q : Process} {n : ℕ} {lines : List (List ℕ)} → Prints true folded names P n Q lines → length lines ≡ n + 1
many_lines {folded = folded} {names = names} {Q = Q} {lines = lines} h =
    omega (arith, as_many (IsProcessLine folded names) (h.before ++ Q ∷ []) lines h.are, length-append h.before (Q ∷ []), h.count)

-- the two lines of the text
pub short_run_prints : ShortRunPrints
short_run_prints alloc names is a b = (
  record {
    before = region_process (changing (label_a ∷ [])) ∷ [];
    commits = commit_after no_commit short_trace_ends.1;
    count = refl;
    are = (its_line alloc names is a b (codes "a") a_spelled a, (its_line alloc names is a b (codes "b") b_spelled b, tt));
  },
  (omega arith, short_trace_ends.2),
  λ line h. absurd (omega (arith, many_lines h)),
)
