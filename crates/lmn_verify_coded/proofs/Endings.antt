-- What is written at the end of a run.
use Rattle.std.proofs.Common.{ℕ, ◌≡◌, ◌++◌, List, Option, Result, Ok, Err, false, refl, inl, inr}
use Rattle.std.specs.Result.{IsErrAnd}
use Rattle.lmn_base.specs.declared.rule.RuleTree.{RuleTree}
use Rattle.lmn_congruence.specs.Rules.{Name}
use Rattle.lmn_store_heap.specs.Heap.{Heap}
use Rattle.lmn_store_heap.specs.Sound.{Valid}
use Rattle.lmn_io.specs.Counts.{Faults}
use Rattle.lmn_io.specs.Writing.{Writes, WritesText}
use Rattle.lmn_io.proofs.WritingLemmas.{writes_both, writes_front}
use Rattle.lmn_print.specs.Laws.{SomeHeapLine}
use Rattle.lmn_print.specs.Lines.{IsHeapLine}
use Rattle.lmn_app_runs.specs.Runs.{end_line, word_of_stop}
use Rattle.lmn_app_drive.specs.declared.driving.RunEnd.TheVariants.{Failed}
use Rattle.lmn_app_runs.specs.declared.stop.Stop.{Stop}
use Rattle.lmn_app_drive.specs.Driving.{stop_end}
use Rattle.lmn_verify_coded.specs.Steps.{EndIsWritten, IsLastText}

module _ (names : List Name) (table : List RuleTree) (h : Heap) where
  module _ (word : List ℕ) (n : ℕ) where
    -- the line failed
    pub line_failed : {A B E D : Type 0} (R : D → Type 0) (e : E) (r : Result B D) (told : Option (List ℕ)) (faults : Faults) (told' : Option (List ℕ)) (faults' : Faults) → IsErrAnd r R →
        Writes {A = A} {E = E} (IsHeapLine false names table h) (Err e) told faults told' faults' → Writes (IsLastText names table h word n) r told faults told' faults'
    line_failed R e r told faults told' faults' f =
        writes_front (IsHeapLine false names table h) (IsLastText names table h word n) R e r told told' faults faults' f (λ text is. (is.0, end_line word n, is.1, is.2))

    -- the line was written, and then the end line
    pub last_written : {A B D E : Type 0} (x : A) (r : Result B E) (old mid new : Option (List ℕ)) (f g k : Faults) →
        Writes {A = A} {E = D} (IsHeapLine false names table h) (Ok x) old f mid g → WritesText (end_line word n) r mid g new k → Writes (IsLastText names table h word n) r old f new k
    last_written x r old mid new f g k =
        writes_both (IsHeapLine false names table h) (λ text. text ≡ end_line word n) (IsLastText names table h word n) x r old mid new f g k (λ text is. (is.0, end_line word n, is.1, refl, is.2))

  module _ (some : SomeHeapLine) (v : Valid h) (why : Stop) (n : ℕ) (old new : Option (List ℕ)) (f k : Faults) where
    -- all of it was written,
    pub concluded : {A E : Type 0} (x : A) → Writes {A = A} {E = E} (IsLastText names table h (word_of_stop why) n) (Ok x) old f new k → EndIsWritten names table h why n (stop_end why) old new
    concluded x w =
        let line = some false names table h v in
        record { line = line.0; is_line = line.1; wrote = inl (refl, w.took (line.0 ++ end_line (word_of_stop why) n) (line.0, line.1, refl)) }

    -- or a part
    pub broken_off : {A E : Type 0} (e : E) → Writes {A = A} {E = E} (IsLastText names table h (word_of_stop why) n) (Err e) old f new k → EndIsWritten names table h why n Failed old new
    broken_off e w =
        let line = some false names table h v in
        record { line = line.0; is_line = line.1; wrote = inr (refl, w.prefix (line.0 ++ end_line (word_of_stop why) n) (line.0, line.1, refl)) }
