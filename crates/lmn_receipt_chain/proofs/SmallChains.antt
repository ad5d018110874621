-- What is a chain of `a.`, and what isn't.
use Rattle.std.proofs.Common.{◌≡◌, ◌∙◌, true, false, ℕ, List, [], ◌∷◌, ◌++◌, codes, length, inl, inr, refl, sym, ap, subst, arith}
use Rattle.std.specs.Fmt.{digits}
use Rattle.lmn_congruence.specs.Regions.{Region, SolidAtom, no_region, region}
use Rattle.lmn_congruence.specs.Rules.{named}
use Rattle.lmn_reduction.specs.Examples.{label_a, label_b}
use Rattle.lmn_adequacy.specs.ChangeExamples.{changing}
use Rattle.lmn_adequacy.specs.Examples.{root_first}
use Rattle.lmn_adequacy.proofs.ExampleChanges.{short_trace_ends}
use Rattle.lmn_adequacy.specs.Embedding.{EmbedsIn, HasEmbedding, embeds_below, embeds_here}
use Rattle.lmn_app_runs.specs.Runs.{end_line}
use Rattle.lmn_app_runs.specs.declared.stop.Stop.TheVariants as stop
use Rattle.lmn_receipt_chain.specs.OneFeed.{HasOneFeed}
use Rattle.lmn_receipt_chain.specs.Chains.{BeginsChain, Continued, Continues, IsEndWord, begun, continued, no_end_line, no_first_line, no_next_line}
use Rattle.lmn_adequacy.specs.Choice.{NextFrom}
use Rattle.lmn_receipt_chain.specs.Examples.{CutShort, Empty, MoreBehind, NoEnd, NoFiring, NoGreaterReach, NoneIsMade, NothingFires, NothingIsNext, OneFeed, TwoFeeds, TwoSolids, WrongWord, one_atom}
use Rattle.lmn_receipt_chain.proofs.ChainLemmas.{traces_are_chains}

inert : {path f : List ℕ} {k : ℕ} {xs : List SolidAtom} → EmbedsIn path k f (region xs no_region []) → ⊥
inert (embeds_here k e) = elim k [ ]
inert (embeds_below k e) = elim k [ ]

-- nothing embeds in a solid without rules and membranes
nothing_embeds_there : ¬ (HasEmbedding one_atom)
nothing_embeds_there h = inert h.embeds

-- and nothing continues it
nothing_continues : (S' : Region) → Continues one_atom S' → ⊥
nothing_continues S' c = let n = c.next in inert n.chosen.embeds

begins_there : (rest : List ℕ) → BeginsChain one_atom (codes "a.\n" ++ rest) [] one_atom rest
begins_there rest = record { solids = begun; is = refl }

pub nothing_fires : NothingFires
unfolding digits
nothing_fires = record {
  before = [];
  last = one_atom;
  word = codes "irreducible";
  begins = begins_there (codes "% irreducible after 0\n");
  ends = inl (refl, nothing_embeds_there);
  count = refl;
}

-- the end line that is due is the one alone
only_word : (word rest : List ℕ) → IsEndWord one_atom word → rest ≡ end_line word 0 → rest ≡ codes "% irreducible after 0\n"
unfolding digits
only_word word rest (inl h) is = is ∙ ap (λ w. end_line w 0) h.0
only_word word rest (inr h) is = absurd (h.1 nothing_embeds_there)

wrong_length : (rest : List ℕ) → (length rest ≡ 22 → ⊥) → (word : List ℕ) → IsEndWord one_atom word → rest ≡ end_line word 0 → ⊥
wrong_length rest differs word h is = differs (ap length (only_word word rest h is))

pub wrong_word : WrongWord
wrong_word = no_end_line [] one_atom (codes "% budget after 0\n") (begins_there (codes "% budget after 0\n")) refl (wrong_length (codes "% budget after 0\n") (λ l. omega (arith, l))) refl

pub no_end : NoEnd
no_end = no_end_line [] one_atom [] (begins_there []) tt (wrong_length [] (λ l. omega (arith, l))) refl

pub more_behind : MoreBehind
more_behind =
    no_end_line [] one_atom (codes "% irreducible after 0\n\n") (begins_there (codes "% irreducible after 0\n\n")) refl (wrong_length (codes "% irreducible after 0\n\n") (λ l. omega (arith, l))) refl

pub no_firing : NoFiring
no_firing =
    let rest : List ℕ = codes "b.\n% irreducible after 1\n" in
    no_next_line [] one_atom rest (begins_there rest) (λ e. omega (arith, e)) (λ S' more c is. nothing_continues S' c) refl

pub empty : Empty
empty = no_first_line (λ rest is. let short = ap length is in omega (arith, short)) refl

-- the trace of `a. a :- b.` is a chain
pub two_solids : TwoSolids
unfolding digits
two_solids =
    let t = short_trace_ends.0 root_first in
    traces_are_chains (record { trace = true; folded = false; budget = 1; size = 2; chooser = root_first }) (changing (label_a ∷ [])) (changing (label_a ∷ []) ∷ []) (changing (label_b ∷ [])) stop.Irreducible (λ n m some. some) t.0 t.1

-- and its first line has no end line behind it
pub cut_short : CutShort
cut_short = no_end_line [] (changing (label_a ∷ [])) [] (record { solids = begun; is = refl }) tt (λ word h is. let short = ap length is in omega (arith, short)) refl

-- ---- what is found beside a text

nothing_next : {k : ℕ} {S' : Region} → NextFrom k one_atom S' → ⊥
nothing_next n = inert n.chosen.embeds

pub nothing_is_next : NothingIsNext
nothing_is_next text = record { reached = (omega arith, omega arith); made = tt; other = λ e sound k low high S' more n. absurd (nothing_next n) }

pub no_greater_reach : NoGreaterReach
no_greater_reach text found = let far = found.reached.1 in omega (arith, far)

pub none_is_made : NoneIsMade
none_is_made text s found = nothing_next (found.made.2 0 (omega arith) (omega arith))

-- ---- line feeds

nothing_behind : {before : List Region} {last : Region} → Continued one_atom before last → last ≡ one_atom
nothing_behind begun = refl
nothing_behind (continued {S' = S'} {S'' = S''} p c) = absurd (nothing_continues S'' (subst (λ S. Continues S S'') (nothing_behind p) c))

pub one_feed : OneFeed
one_feed before last c = subst HasOneFeed (sym (nothing_behind c)) ((λ e. omega (arith, e)), ((λ e. omega (arith, e)), tt))

pub two_feeds : TwoFeeds
two_feeds h = (h [] (region (record { label = named (codes "\n"); links = [] } ∷ []) no_region []) begun).1.0 refl
