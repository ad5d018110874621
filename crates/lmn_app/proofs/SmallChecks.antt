-- Traces beside a small text.
use Rattle.std.proofs.Common.{◌≡◌, ◌++◌, ℕ, List, [], ◌∷◌, true, refl, arith}
use Rattle.lmn_adequacy.specs.Runs.{Chooser, irreducible}
use Rattle.lmn_flatten_plain.specs.SolidLines.{as_level}
use Rattle.lmn_flatten_plain.specs.Words.{text_of, top_pieces}
use Rattle.lmn_receipt_chain.specs.Chains.{no_first_line}
use Rattle.lmn_app_runs.specs.Runs.{at_end}
use Rattle.lmn_app.specs.CheckExamples.{NothingIsWrong, SmallTextIsChecked, SmallTextIsNotTwice, small_trace}
use Rattle.lmn_app.specs.TextExamples.{TraceEnds, plainly, small_lines, small_text}
use Rattle.lmn_app.proofs.OneCheck.{Grounds, one_count, trace_checked}
use Rattle.lmn_app.proofs.SmallRuns.{small_text_has_its_trace}

abbrev root_asked : Chooser
root_asked n m = 0

ends : TraceEnds (plainly true 1 2 root_asked) small_lines 1
ends = (small_text_has_its_trace 1 2 root_asked (omega arith) (omega arith)).0

pub small_text_is_checked : Grounds → SmallTextIsChecked
small_text_is_checked on alloc =
    let t = ends in
    trace_checked on alloc (plainly true 1 2 root_asked) small_text small_lines 1 t.0 (λ n m some. some) refl refl (at_end irreducible) t.1

pub small_text_is_not_twice : Grounds → SmallTextIsNotTwice
small_text_is_not_twice on alloc twice = let e = one_count on alloc small_text small_trace 1 2 (small_text_is_checked on alloc) twice in omega (arith, e)

never_empty : (xs rest : List ℕ) → [] ≡ (xs ++ 10 ∷ []) ++ rest → ⊥
never_empty [] rest e = absurd (cc)
never_empty (x ∷ xs) rest e = absurd (cc)

pub nothing_is_wrong : NothingIsWrong
nothing_is_wrong =
    let t = ends.0 in
    record {
      of = record { names = t.names; plain = t.plain; plans = t.plans; accepted = t.accepted; solid = t.solid; of_plain = t.of_plain; numbered = t.numbered };
      wrong = no_first_line (λ rest e. never_empty (text_of (top_pieces (as_level t.solid))) rest e) refl;
    }
