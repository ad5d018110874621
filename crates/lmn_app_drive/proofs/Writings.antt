-- What is written of a heap: its line with a trace, and the rest of the text of a run.
use Rattle.std.proofs.Common.{ℕ, ◌≡◌, Bool, true, false, not, List, [], ◌∷◌, Option, Result, Ok, Err, refl, sym, subst, append-nil}
use Rattle.std.specs.Result.{MatchResult, IsErrAnd}
use Rattle.lmn_base.specs.declared.rule.RuleTree.{RuleTree}
use Rattle.lmn_store_heap.specs.Heap.{Heap}
use Rattle.lmn_congruence.specs.Regions.{Region}
use Rattle.lmn_congruence.specs.Rules.{Name}
use Rattle.lmn_io.specs.Counts.{Faults}
use Rattle.lmn_io.specs.Writing.{Writes, WritesText}
use Rattle.lmn_io.proofs.WritingLemmas.{writes_as, writes_both, writes_front, writes_nothing}
use Rattle.lmn_print_folded.specs.Lines.{IsLine}
use Rattle.lmn_print.specs.Lines.{IsHeapLine}
use Rattle.lmn_schedule.specs.Held.{HoldsRegion}
use Rattle.lmn_app_drive.specs.Driving.{IsRestOf, IsTracedLineOf, rest_of}
use Rattle.lmn_app_drive.specs.Written.{traced}
use Rattle.lmn_app_runs.specs.Runs.{end_line}
use Rattle.lmn_app_drive.proofs.Lines.{line_held}

-- what holds at the exit of a `?`
pub at_err : {T E : Type 0} (R : E → Type 0) (r : Result T E) (P : T → Type 0) (Q : Type 0) → IsErrAnd r R → Q → MatchResult r P (λ _. Q)
at_err R (Ok x) P Q f q = absurd f
at_err R (Err e) P Q f q = q

module _ (folded : Bool) (names : List Name) (table : List RuleTree) (h : Heap) where
  -- the text of a line that is written with a trace alone
  pub traced_held : (trace : Bool) (S : Region) (line : List ℕ) → HoldsRegion names table h S → IsLine folded S line → IsTracedLineOf trace folded names table h (traced trace (line ∷ []))
  traced_held true S line held is_line = subst (IsHeapLine folded names table h) (sym (append-nil line)) (line_held folded names table h S line held is_line)
  traced_held false S line held is_line = refl

  -- the text of the rest of a run
  pub rest_held : (trace : Bool) (S : Region) (line : List ℕ) → HoldsRegion names table h S → IsLine folded S line → (word : List ℕ) (n : ℕ) → IsRestOf trace folded names table h word n (rest_of trace line word n)
  rest_held trace S line held is_line word n = record { last = traced (not trace) (line ∷ []); is_line = traced_held (not trace) S line held is_line; is = refl }

  -- with a trace the line is written,
  pub line_traced : {A E : Type 0} (trace : Bool) (r : Result A E) (told : Option (List ℕ)) (faults : Faults) (told' : Option (List ℕ)) (faults' : Faults) → trace ≡ true →
      Writes (IsHeapLine folded names table h) r told faults told' faults' → Writes (IsTracedLineOf trace folded names table h) r told faults told' faults'
  line_traced trace r told faults told' faults' e =
      writes_as (IsHeapLine folded names table h) (IsTracedLineOf trace folded names table h) r told told' faults faults' (λ text is. subst (λ t. IsTracedLineOf t folded names table h text) e is)

  -- and nothing without one
  pub nothing_traced : {A E : Type 0} (trace : Bool) (x : A) (told : Option (List ℕ)) (faults : Faults) → trace ≡ false → Writes {A = A} {E = E} (IsTracedLineOf trace folded names table h) (Ok x) told faults told faults
  nothing_traced trace x told faults e = writes_nothing (IsTracedLineOf trace folded names table h) x told faults (λ text is. subst (λ t. IsTracedLineOf t folded names table h text) e is)

  module _ (trace : Bool) (word : List ℕ) (n : ℕ) where
    -- the line failed
    pub rest_broke : {A B E D : Type 0} (R : D → Type 0) (e : E) (r : Result B D) (told : Option (List ℕ)) (faults : Faults) (told' : Option (List ℕ)) (faults' : Faults) → IsErrAnd r R →
        Writes {A = A} {E = E} (IsTracedLineOf (not trace) folded names table h) (Err e) told faults told' faults' → Writes (IsRestOf trace folded names table h word n) r told faults told' faults'
    rest_broke R e r told faults told' faults' f =
        writes_front (IsTracedLineOf (not trace) folded names table h) (IsRestOf trace folded names table h word n) R e r told told' faults faults' f (λ text is. (is.last, end_line word n, is.is_line, is.is))

    -- the line was written, and then the end line
    pub rest_written : {A B D E : Type 0} (x : A) (r : Result B E) (old mid new : Option (List ℕ)) (f g k : Faults) →
        Writes {A = A} {E = D} (IsTracedLineOf (not trace) folded names table h) (Ok x) old f mid g → WritesText (end_line word n) r mid g new k → Writes (IsRestOf trace folded names table h word n) r old f new k
    rest_written x r old mid new f g k =
        writes_both (IsTracedLineOf (not trace) folded names table h) (λ text. text ≡ end_line word n) (IsRestOf trace folded names table h word n) x r old mid new f g k (λ text is. (is.last, end_line word n, is.is_line, refl, is.is))
