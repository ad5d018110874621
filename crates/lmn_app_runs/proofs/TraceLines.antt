-- Each solid of a trace has a line, and one only.
use Rattle.std.proofs.Common.{◌≡◌, ℕ, suc, Bool, true, false, List, [], ◌∷◌, ◌++◌, length, refl, sym, ap, ◌∙◌}
use Rattle.std.specs.List.{AllByRecursion}
use Rattle.lmn_congruence.specs.Process.{Closed}
use Rattle.lmn_congruence.specs.Regions.{Region, region_process}
use Rattle.lmn_adequacy.specs.Runs.{Chooser, Trace, Turn, loaded, turned}
use Rattle.lmn_flatten_plain.specs.SolidLines.{as_level}
use Rattle.lmn_flatten_plain.specs.Words.{line_of}
use Rattle.lmn_print_folded.specs.Lines.{IsLine}
use Rattle.lmn_print_folded.proofs.FoldedLines.{one_folded_line, some_folded_line}
use Rattle.lmn_app_runs.specs.Laws.{TracesHaveLines}
use Rattle.lmn_app_runs.specs.Runs.{LinesOf, printed}
use Rattle.lmn_base.proofs.Lists.{all_append}

-- each link of the region stands in two places
abbrev pub IsClosed : Region → Type 0
IsClosed S = Closed (region_process S)

-- each closed region has a line
pub some_line : (folded : Bool) (S : Region) → IsClosed S → (line : List ℕ) × IsLine folded S line
some_line true S closed = some_folded_line S closed
some_line false S closed = (line_of (as_level S), refl)

-- and one alone
pub one_line : (folded : Bool) (S : Region) (line other : List ℕ) → IsClosed S → IsLine folded S line → IsLine folded S other → line ≡ other
one_line true S line other closed h k = one_folded_line S line other closed h k
one_line false S line other closed h k = h ∙ sym k

-- ---- lines of several solids

two : {x y : List ℕ} {xs ys : List (List ℕ)} → x ≡ y → xs ≡ ys → x ∷ xs ≡ y ∷ ys
two e f = cc

some_lines : (folded : Bool) (Ss : List Region) → AllByRecursion IsClosed Ss → (lines : List (List ℕ)) × LinesOf folded Ss lines
some_lines folded [] closed = ([], tt)
some_lines folded (S ∷ Ss) closed =
    let first = some_line folded S closed.0 in
    let others = some_lines folded Ss closed.1 in
    (first.0 ∷ others.0, (first.1, others.1))

-- some closed regions in a row have one row of lines at most
pub one_lines : (folded : Bool) (Ss : List Region) (lines others : List (List ℕ)) → AllByRecursion IsClosed Ss → LinesOf folded Ss lines → LinesOf folded Ss others → others ≡ lines
one_lines folded [] [] [] closed h k = refl
one_lines folded [] [] (x ∷ xs) closed h k = absurd k
one_lines folded [] (x ∷ xs) others closed h k = absurd h
one_lines folded (S ∷ Ss) [] others closed h k = absurd h
one_lines folded (S ∷ Ss) (x ∷ xs) [] closed h k = absurd k
one_lines folded (S ∷ Ss) (x ∷ xs) (y ∷ ys) closed h k = two (one_line folded S y x closed.0 k.0 h.0) (one_lines folded Ss xs ys closed.1 h.1 k.1)

-- the line of the last solid, and those before it
pub one_more_line : (folded : Bool) (Ss : List Region) (T : Region) (lines : List (List ℕ)) → LinesOf folded (Ss ++ T ∷ []) lines →
    (before : List (List ℕ)) × (last : List ℕ) × LinesOf folded Ss before × IsLine folded T last × (lines ≡ before ++ last ∷ [])
one_more_line folded [] T [] h = absurd h
one_more_line folded [] T (line ∷ []) h = ([], line, tt, h.0, refl)
one_more_line folded [] T (line ∷ (more ∷ lines)) h = absurd h.1
one_more_line folded (S ∷ Ss) T [] h = absurd h
one_more_line folded (S ∷ Ss) T (line ∷ lines) h =
    let cut = one_more_line folded Ss T lines h.1 in
    (line ∷ cut.0, cut.1, (h.0, cut.2), cut.3, ap (λ ls. line ∷ ls) cut.4)

-- and the other way round
pub lines_with : (folded : Bool) (Ss : List Region) (T : Region) (lines : List (List ℕ)) (line : List ℕ) → LinesOf folded Ss lines → IsLine folded T line → LinesOf folded (Ss ++ T ∷ []) (lines ++ line ∷ [])
lines_with folded [] T [] line h is = (is, tt)
lines_with folded [] T (x ∷ xs) line h is = absurd h
lines_with folded (S ∷ Ss) T [] line h is = absurd h
lines_with folded (S ∷ Ss) T (x ∷ xs) line h is = (h.0, lines_with folded Ss T xs line h.1 is)

-- as many lines as solids
pub lines_count : (folded : Bool) (Ss : List Region) (lines : List (List ℕ)) → LinesOf folded Ss lines → length lines ≡ length Ss
lines_count folded [] [] h = refl
lines_count folded [] (x ∷ xs) h = absurd h
lines_count folded (S ∷ Ss) [] h = absurd h
lines_count folded (S ∷ Ss) (x ∷ xs) h = ap suc (lines_count folded Ss xs h.1)

-- ---- traces

module _ (chooser : Chooser) (budget size : ℕ) (S : Region) (closed : IsClosed S) where
  next_closed : {n : ℕ} {R T : Region} → Turn chooser n R T → IsClosed T
  next_closed t = let next = t.next.next in next.fuses.closed

  pub last_closed : {before : List Region} {R : Region} → Trace chooser budget size S before R → IsClosed R
  last_closed loaded = closed
  last_closed (turned p l t few) = next_closed t

  pub before_closed : {before : List Region} {R : Region} → Trace chooser budget size S before R → AllByRecursion IsClosed before
  before_closed loaded = tt
  before_closed (turned {before = before} {S' = R} p l t few) = all_append IsClosed before (R ∷ []) (before_closed p) (last_closed p, tt)

  printed_closed : (trace : Bool) {before : List Region} {R : Region} → Trace chooser budget size S before R → AllByRecursion IsClosed (printed trace before R)
  printed_closed true {before} {R} p = all_append IsClosed before (R ∷ []) (before_closed p) (last_closed p, tt)
  printed_closed false p = (last_closed p, tt)

-- each trace has its lines
pub traces_have_lines : TracesHaveLines
traces_have_lines g S before last closed trace =
    let Ss = printed g.trace before last in
    let all = printed_closed g.chooser g.budget g.size S closed g.trace trace in
    let lines = some_lines g.folded Ss all in
    (lines.0, lines.1, λ other h. one_lines g.folded Ss lines.0 other all lines.1 h)
