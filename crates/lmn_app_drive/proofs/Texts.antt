-- The text of a run, and the parts in which it is written.
use Rattle.std.proofs.Common.{ℕ, ◌≡◌, Bool, true, false, List, [], ◌∷◌, ◌++◌, length, Option, refl, sym, ap, subst, ◌∙◌, append_assoc, append-nil}
use Rattle.std.specs.List.{concat}
use Rattle.std.proofs.lemmas.List.Folds.{concat-append}
use Rattle.lmn_io.specs.Taking.{Takes, TakesPrefix}
use Rattle.lmn_io.proofs.TakingLemmas.{prefix_more, prefix_after, takes_both}
use Rattle.lmn_app_drive.specs.Written.{traced, written}
use Rattle.lmn_app_runs.specs.Runs.{end_line}
use Rattle.lmn_app_drive.specs.Driving.{rest_of}

-- one line more
pub traced_more : (trace : Bool) (lines others : List (List ℕ)) → traced trace lines ++ traced trace others ≡ traced trace (lines ++ others)
traced_more true lines others = sym (concat-append lines others)
traced_more false lines others = refl

one_line : (line : List ℕ) → concat (line ∷ []) ≡ line
one_line line = append-nil line

-- the lines so far, and what is left at the end, are the text of the run
pub whole : (trace : Bool) (lines : List (List ℕ)) (last word : List ℕ) (n : ℕ) → length lines ≡ n →
    traced trace (lines ++ last ∷ []) ++ rest_of trace last word n ≡ written trace lines last word
whole true lines last word n e =
    ap (λ ls. ls ++ end_line word n) (concat-append lines (last ∷ []) ∙ ap (λ ls. concat lines ++ ls) (one_line last))
    ∙ append_assoc (concat lines) last (end_line word n)
    ∙ ap (λ k. concat lines ++ (last ++ end_line word k)) (sym e)
whole false lines last word n e =
    ap (λ ls. ls ++ end_line word n) (one_line last) ∙ ap (λ k. last ++ end_line word k) (sym e)

module _ (trace : Bool) (lines : List (List ℕ)) (last word : List ℕ) (n : ℕ) (count : length lines ≡ n) where
  -- all is written
  pub all_taken : (old mid new : Option (List ℕ)) → Takes (traced trace (lines ++ last ∷ [])) old mid → Takes (rest_of trace last word n) mid new →
      Takes (written trace lines last word) old new
  all_taken old mid new first rest = subst (λ text. Takes text old new) (whole trace lines last word n count) (takes_both (traced trace (lines ++ last ∷ [])) (rest_of trace last word n) old mid new first rest)

  -- all lines so far are written, and a prefix of the rest
  pub part_taken : (old mid new : Option (List ℕ)) → Takes (traced trace (lines ++ last ∷ [])) old mid → TakesPrefix (rest_of trace last word n) mid new →
      TakesPrefix (written trace lines last word) old new
  part_taken old mid new first rest = subst (λ text. TakesPrefix text old new) (whole trace lines last word n count) (prefix_after (traced trace (lines ++ last ∷ [])) (rest_of trace last word n) old mid new first rest)

  -- a prefix of the lines so far is written
  pub front_taken : (old new : Option (List ℕ)) → TakesPrefix (traced trace (lines ++ last ∷ [])) old new → TakesPrefix (written trace lines last word) old new
  front_taken old new part = subst (λ text. TakesPrefix text old new) (whole trace lines last word n count) (prefix_more (traced trace (lines ++ last ∷ [])) (rest_of trace last word n) old new part)

-- one line more is written behind the others, all of it or a prefix
pub line_taken : (trace : Bool) (lines : List (List ℕ)) (line : List ℕ) (old mid new : Option (List ℕ)) → Takes (traced trace lines) old mid → Takes (traced trace (line ∷ [])) mid new → Takes (traced trace (lines ++ line ∷ [])) old new
line_taken trace lines line old mid new first later = subst (λ text. Takes text old new) (traced_more trace lines (line ∷ [])) (takes_both (traced trace lines) (traced trace (line ∷ [])) old mid new first later)

-- a line that is begun is the last of a trace
pub line_begun : (trace : Bool) (lines : List (List ℕ)) (line : List ℕ) (old mid new : Option (List ℕ)) → Takes (traced trace lines) old mid → TakesPrefix (traced trace (line ∷ [])) mid new → TakesPrefix (traced trace (lines ++ line ∷ [])) old new
line_begun trace lines line old mid new first later = subst (λ text. TakesPrefix text old new) (traced_more trace lines (line ∷ [])) (prefix_after (traced trace lines) (traced trace (line ∷ [])) old mid new first later)
