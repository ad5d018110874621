-- Traces are chains, and chains are chains of commits.
use Rattle.std.proofs.Common.{◌≡◌, ◌∙◌, ℕ, Bool, ◌<◌, ◌⊎◌, List, codes, length, inl, inr, refl, sym, ap, subst, arith}
use Rattle.lmn_congruence.specs.Regions.{Region, region, region_process}
use Rattle.lmn_reduction.specs.Chains.{Commits, no_step, step_after}
use Rattle.lmn_reduction.specs.Commits.{Commit, Irreducible}
use Rattle.lmn_adequacy.specs.Accepted.{Accepted}
use Rattle.lmn_adequacy.specs.Choice.{paths}
use Rattle.lmn_adequacy.specs.Embedding.{AllRules}
use Rattle.lmn_adequacy.specs.Runs.{Chooser, End, Ends, Trace, Turn, budget_done, full, irreducible, loaded, none_allowed, nothing_embeds, too_many, turned}
use Rattle.lmn_adequacy.proofs.Heads.{all_rules_so}
use Rattle.lmn_adequacy.proofs.Results.{firings_commit, irreducible_exactly, next_is_solid, throughout_itself}
use Rattle.lmn_adequacy.proofs.Runs.{embeds_in, next_of as next_by, one_longer}
use Rattle.lmn_app_runs.specs.Runs.{StopsSo, at_end, word_of_stop}
use Rattle.lmn_app_runs.specs.declared.stop.Stop.{Stop}
use Rattle.lmn_app_runs.specs.declared.stop.Stop.TheVariants as stop
use Rattle.lmn_receipt_chain.specs.Chains.{Continued, Continues, IsEndWord, begun, continued}
use Rattle.lmn_receipt_chain.specs.Laws.{ChoosesBelow, ChainsAreCommits, ContinuesByCommit, IsAcceptedSolid, TracesAreChains}

-- ---- traces are chains

-- each solid has a membrane: its root
pub some_membrane : (S : Region) → 0 < length (paths S)
some_membrane (region xs ms rs) = omega arith

module _ (chooser : Chooser) (budget size : ℕ) (below : ChoosesBelow chooser) (S : Region) where
  turn_continues : {n : ℕ} {R T : Region} → Turn chooser n R T → Continues R T
  turn_continues {n} {R} {T} t = record { from = chooser n (length (paths R)); one_of_them = below n (length (paths R)) (some_membrane R); next = t.next; numbered = t.numbered }

  -- the solids of a trace continue one another
  pub trace_continued : {before : List Region} {R : Region} → Trace chooser budget size S before R → Continued S before R
  trace_continued loaded = begun
  trace_continued (turned p l t few) = continued (trace_continued p) (turn_continues t)

  ends_by : (n : ℕ) (R : Region) (e : End) → Ends chooser budget size n R e → IsEndWord R (word_of_stop (at_end e))
  ends_by n R irreducible (nothing_embeds h) = inl (refl, h)
  ends_by n R budget_done (none_allowed m q) = inr (inl refl, λ none. none m)
  ends_by n R full (too_many l t m) = inr (inr (inl refl), λ none. none (embeds_in t.next))

  stops_by : (trace folded : Bool) (n : ℕ) (R : Region) (why : Stop) → StopsSo (record { trace = trace; folded = folded; budget = budget; size = size; chooser = chooser }) n R why → IsEndWord R (word_of_stop why)
  stops_by trace folded n R stop.Irreducible h = ends_by n R irreducible h
  stops_by trace folded n R stop.Budget h = ends_by n R budget_done h
  stops_by trace folded n R stop.Full h = ends_by n R full h
  stops_by trace folded n R stop.NoMemory h = inr (inr (inr refl), λ none. h irreducible (nothing_embeds none))

-- what is written of a trace that stops is a chain
pub traces_are_chains : TracesAreChains
traces_are_chains g S before last why below trace stops = record {
  before = before;
  last = last;
  word = word_of_stop why;
  begins = record { solids = trace_continued g.chooser g.budget g.size below S trace; is = refl };
  ends = stops_by g.chooser g.budget g.size below S g.trace g.folded (length before) last why stops;
  count = refl;
}

-- ---- chains are chains of commits

-- the rules of such a solid are accepted
pub accepted_of : (S : Region) → IsAcceptedSolid S → AllRules Accepted S
accepted_of S s = all_rules_so throughout_itself S s.accepted

-- what continues such a solid is such a solid
pub sound_next : {S S' : Region} → IsAcceptedSolid S → Continues S S' → IsAcceptedSolid S'
sound_next {S} {S'} s c = let k = next_is_solid S S' s.accepted (next_by c.next) in record { closed = k.0; accepted = k.1 }

pub sound_last : {S : Region} {before : List Region} {last : Region} → IsAcceptedSolid S → Continued S before last → IsAcceptedSolid last
sound_last s begun = s
sound_last s (continued p c) = sound_next (sound_last s p) c

commit_of : {S S' : Region} → IsAcceptedSolid S → Continues S S' → Commit (region_process S) (region_process S')
commit_of {S} {S'} s c = firings_commit S S' s.closed (accepted_of S s) (next_by c.next)

commits_of : {S : Region} {before : List Region} {last : Region} → IsAcceptedSolid S → Continued S before last → Commits (length before) (region_process S) (region_process last)
commits_of s begun = no_step
commits_of {S} s (continued {before = before} {S' = R} {S'' = T} p c) =
    subst (λ n. Commits n (region_process S) (region_process T)) (sym (one_longer before R)) (step_after (commits_of s p) (commit_of (sound_last s p) c))

-- each next solid comes by one commit
pub continues_by_commit : ContinuesByCommit
continues_by_commit S before last next s p c = commit_of (sound_last s p) c

other_word : (w v : List ℕ) → w ≡ v → (length w ≡ length v → ⊥) → ⊥
other_word w v is differs = differs (ap length is)

not_irreducible : (word : List ℕ) → (word ≡ codes "budget") ⊎ (word ≡ codes "full") ⊎ (word ≡ codes "no memory") → word ≡ codes "irreducible" → ⊥
not_irreducible word (inl h) e = other_word (codes "budget") (codes "irreducible") (sym h ∙ e) (λ l. omega (arith, l))
not_irreducible word (inr (inl h)) e = other_word (codes "full") (codes "irreducible") (sym h ∙ e) (λ l. omega (arith, l))
not_irreducible word (inr (inr h)) e = other_word (codes "no memory") (codes "irreducible") (sym h ∙ e) (λ l. omega (arith, l))

word_true : (S : Region) (word : List ℕ) → IsAcceptedSolid S → IsEndWord S word → word ≡ codes "irreducible" → Irreducible (region_process S)
word_true S word s (inl h) e = (irreducible_exactly S s.closed (accepted_of S s)).1 h.1
word_true S word s (inr h) e = absurd (not_irreducible word h.0 e)

word_other : (S : Region) (word : List ℕ) → IsAcceptedSolid S → IsEndWord S word → (word ≡ codes "irreducible" → ⊥) → Irreducible (region_process S) → ⊥
word_other S word s (inl h) n i = n h.0
word_other S word s (inr h) n i = h.1 ((irreducible_exactly S s.closed (accepted_of S s)).0 i)

-- a chain is one of commits, and its word is true
pub chains_are_commits : ChainsAreCommits
chains_are_commits S trace n start chain =
    let begins = chain.begins in
    let last = sound_last start begins.solids in
    record {
      commits = subst (λ k. Commits k (region_process S) (region_process chain.last)) chain.count (commits_of start begins.solids);
      irreducible = word_true chain.last chain.word last chain.ends;
      reducible = word_other chain.last chain.word last chain.ends;
    }
