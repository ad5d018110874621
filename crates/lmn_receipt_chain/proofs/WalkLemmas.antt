-- How a trace is gone through.
use Rattle.std.proofs.Common.{◌≡◌, ◌∙◌, ℕ, ◌+◌, ◌<◌, ◌≤◌, List, [], ◌∷◌, ◌++◌, Option, Some, None, codes, drop, length, map, take, inl, inr, refl, sym, ap, arith, append_assoc, append-nil, length-append}
use Rattle.std.specs.Prelude.{IfSome}
use Rattle.std.specs.List.{concat}
use Rattle.std.proofs.lemmas.Option.{IfSome_then}
use Rattle.std.proofs.lemmas.List.{length-drop}
use Rattle.std.proofs.Math.Seq.{take-append_seam}
use Rattle.lmn_base.specs.declared.solid.Solid.{Solid}
use Rattle.lmn_congruence.specs.Regions.{Region}
use Rattle.lmn_adequacy.specs.Choice.{NextFrom, paths}
use Rattle.lmn_adequacy.specs.Embedding.{HasEmbedding}
use Rattle.lmn_adequacy.specs.Numbered.{IsNumbered}
use Rattle.lmn_adequacy.proofs.Results.{one_choice, one_numbering}
use Rattle.lmn_receipt_chain.specs.declared.next.NextSolid.{NextSolid}
use Rattle.lmn_app_runs.specs.Runs.{end_line}
use Rattle.lmn_receipt_chain.specs.Alike.{alike, blurred, times}
use Rattle.lmn_receipt_chain.specs.Chains.{Continues, IsEndWord, line_of_solid}
use Rattle.lmn_receipt_chain.specs.Found.{IsNextFound, IsNextMade, IsNextTo, NoneBegins}
use Rattle.lmn_receipt_chain.specs.Laws.{IsAcceptedSolid}
use Rattle.lmn_receipt_chain.specs.Steps.{IsOtherEnd, NoEndIsDue, NothingFits}
use Rattle.lmn_adequacy.proofs.Runs.{embeds_in}
use Rattle.lmn_receipt_chain.proofs.ChainLemmas.{accepted_of}
use Rattle.lmn_receipt_chain.proofs.FrameLemmas.{chosen_at, not_there}
use Rattle.lmn_base.proofs.Numbers.{below_or_from as below_or}

-- ---- lines

pub lines_more : (xs : List Region) (y : Region) → concat (map line_of_solid (xs ++ y ∷ [])) ≡ concat (map line_of_solid xs) ++ line_of_solid y
lines_more [] y = append-nil (line_of_solid y)
lines_more (x ∷ xs) y =
    ap (λ t. line_of_solid x ++ t) (lines_more xs y) ∙ sym (append_assoc (line_of_solid x) (concat (map line_of_solid xs)) (line_of_solid y))

-- the front of a text before so many bytes
pub first_part : (xs line : List ℕ) (len : ℕ) → len ≤ length xs → xs ≡ line ++ drop len xs → take len xs ≡ line
first_part xs line len few e =
    let all = ap length e ∙ length-append line (drop len xs) in
    let rest = length-drop len xs in
    let same : len ≡ length line = omega (arith, few, all, rest) in
    ap (take len) e ∙ ap (λ k. take k (line ++ drop len xs)) same ∙ take-append_seam line (drop len xs)

-- ---- candidates

-- a solid has one next solid for each number
pub one_next : (S : Region) → IsAcceptedSolid S → (k : ℕ) (A B : Region) → NextFrom k S A → IsNumbered A → NextFrom k S B → IsNumbered B → A ≡ B
one_next S s k A B a i b j = one_numbering A B (one_choice k S A B s.closed (accepted_of S s) a b) i j

-- no solid that is next from a number below this one has its line at the beginning of the rest
abbrev pub Tried : Region → List ℕ → ℕ → Type 0
Tried S rest from = (k : ℕ) → k < from → (S' : Region) (more : List ℕ) → NextFrom k S S' → IsNumbered S' → rest ≡ line_of_solid S' ++ more → ⊥

-- those up to the reach of one whose line isn't there have been tried with it,
tried_more : (S : Region) (rest : List ℕ) (from reach : ℕ) (next : Region) → IsAcceptedSolid S → Tried S rest from → IsNumbered next
    → IsNextTo S from reach next → ((more : List ℕ) → rest ≡ line_of_solid next ++ more → ⊥) → Tried S rest (reach + 1)
tried_more S rest from reach next s old numbered same none k l S' more n i is = elim (below_or k from) [
  | inl lower ↦ old k lower S' more n i is
  | inr high ↦ let here = same k high (omega (arith, l)) in none more (is ∙ ap (λ R. line_of_solid R ++ more) (one_next S s k S' next n i here numbered))
]

-- and so have those up to the reach of one that wasn't made, since its line isn't there;
tried_both : (fits : Solid → Type 0) (region : Solid → Region) (S : Region) (rest : List ℕ) (from reach : ℕ) (next : Option Solid) → IsAcceptedSolid S → Tried S rest from
    → IfSome next (IsNextMade fits region S from reach) → (next ≡ None → IsAcceptedSolid S → NoneBegins S from reach rest)
    → IfSome next (λ s. (more : List ℕ) → rest ≡ line_of_solid (region s) ++ more → ⊥) → Tried S rest (reach + 1)
tried_both fits region S rest from reach (Some s) sound old made other none = tried_more S rest from reach (region s) sound old made.1 made.2 none
tried_both fits region S rest from reach None sound old made other none = λ k l S' more n i is. elim (below_or k from) [
  | inl lower ↦ old k lower S' more n i is
  | inr high ↦ other refl sound k high (omega (arith, l)) S' more n is
]

continues_by : (fits : Solid → Type 0) (region : Solid → Region) (S : Region) (from reach : ℕ) (next : Option Solid) → from < length (paths S) → from ≤ reach → IfSome next (IsNextMade fits region S from reach) → IfSome next (λ s. Continues S (region s))
continues_by fits region S from reach (Some s) l far made = record { from = from; one_of_them = l; next = made.2 from (omega arith) far; numbered = made.1 }
continues_by fits region S from reach None l far made = tt

module _ (fits : Solid → Type 0) (region : Solid → Region) (S : Region) (from : ℕ) (rest : List ℕ) (next : NextSolid) (found : IsNextFound fits region S from rest next) where
  -- so it is with one that was found.
  pub next_tried : IsAcceptedSolid S → Tried S rest from → IfSome next.solid (λ s. (more : List ℕ) → rest ≡ line_of_solid (region s) ++ more → ⊥) → Tried S rest (next.reach + 1)
  next_tried sound old none = tried_both fits region S rest from next.reach next.solid sound old found.made found.other none

  -- Where it was made it continues the last one,
  pub next_continues : IfSome next.solid (λ s. Continues S (region s))
  next_continues = let low = found.reached.0 in let high = found.reached.1 in continues_by fits region S from next.reach next.solid (omega (arith, low, high)) low found.made

  -- and fits,
  pub next_fits : IfSome next.solid fits
  next_fits = IfSome_then next.solid found.made (λ s m. m.0)

-- Where nothing embeds nothing fits,
pub nothing_fits : (S : Region) (rest : List ℕ) → (HasEmbedding S → ⊥) → NothingFits S rest
nothing_fits S rest none S' more c is = none (embeds_in c.next)

-- and where all were tried that can change what the text has otherwise than the line of the solid, nothing fits
pub all_tried : (S : Region) (own rest : List ℕ) (from count asked opened : ℕ) → count ≡ length (paths S) → own ≡ line_of_solid S → opened ≡ times 123 (alike (blurred own) (blurred rest))
    → ((m : ℕ) → asked ≤ m → m < count → opened < m) → asked ≤ from → Tried S rest from → NothingFits S rest
all_tried S own rest from count asked opened is line same others out tried S' more c at =
    let u = chosen_at c.from S S' c.next in
    let all = ap length u.all ∙ length-append u.earlier (c.next.path ∷ u.later) in
    let there : length u.earlier < count = omega (arith, all, is) in
    elim (below_or (length u.earlier) from) [
      | inl l ↦ tried (length u.earlier) l S' more u.next c.numbered at
      | inr g ↦ (
          let few = others (length u.earlier) (omega (arith, out, g)) there in
          let as_many = ap (λ z. times 123 (alike (blurred z) (blurred rest))) line in
          not_there c.next.path c.next.number c.next.positions S S' c.next.next u.earlier u.later u.all rest (omega (arith, few, same, as_many)) more at
          )
    ]

-- ---- ends

-- where nothing embeds one end line is due
pub stuck_done : (S : Region) (rest : List ℕ) (n : ℕ) → (HasEmbedding S → ⊥) → rest ≡ end_line (codes "irreducible") n → (word : List ℕ) × IsEndWord S word × (rest ≡ end_line word n)
stuck_done S rest n none is = (codes "irreducible", inl (refl, none), is)

-- and no other one is
pub stuck_wrong : (S : Region) (rest : List ℕ) (n : ℕ) → (HasEmbedding S → ⊥) → (rest ≡ end_line (codes "irreducible") n → ⊥) → NoEndIsDue S rest n
stuck_wrong S rest n none differs word (inl h) is = differs (is ∙ ap (λ w. end_line w n) h.0)
stuck_wrong S rest n none differs word (inr h) is = h.1 none

-- and where something embeds three are
pub other_done : (S : Region) (rest : List ℕ) (n : ℕ) → HasEmbedding S → IsOtherEnd rest n → (word : List ℕ) × IsEndWord S word × (rest ≡ end_line word n)
other_done S rest n some (inl is) = (codes "budget", inr (inl refl, λ none. none some), is)
other_done S rest n some (inr (inl is)) = (codes "full", inr (inr (inl refl), λ none. none some), is)
other_done S rest n some (inr (inr is)) = (codes "no memory", inr (inr (inr refl), λ none. none some), is)

-- and the word irreducible isn't
pub other_wrong : (S : Region) (rest : List ℕ) (n : ℕ) → HasEmbedding S → (IsOtherEnd rest n → ⊥) → NoEndIsDue S rest n
other_wrong S rest n some differs word (inl h) is = h.1 some
other_wrong S rest n some differs word (inr (inl e, h)) is = differs (inl (is ∙ ap (λ w. end_line w n) e))
other_wrong S rest n some differs word (inr (inr (inl e), h)) is = differs (inr (inl (is ∙ ap (λ w. end_line w n) e)))
other_wrong S rest n some differs word (inr (inr (inr e), h)) is = differs (inr (inr (is ∙ ap (λ w. end_line w n) e)))
