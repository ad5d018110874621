-- A text that is refused, and calls that are answered.
use Rattle.std.proofs.Common.{◌≡◌, ℕ, List, [], ◌∷◌, Option, None, Some, codes, length, inl, inr, refl, sym, ap, subst, arith}
use Rattle.lmn_base.specs.Names.{first_names}
use Rattle.lmn_io.specs.Counts.{Faults, one_more_fault}
use Rattle.lmn_io.specs.Texts.{Fetch}
use Rattle.lmn_lexer.specs.Cutting.{start}
use Rattle.lmn_lexer.specs.Faults.{IsLexicalFault, string}
use Rattle.lmn_app_words.specs.Forms.{InForm, to_pair}
use Rattle.lmn_app_single.specs.declared.ending.Ending.{Ending}
use Rattle.lmn_app_single.specs.declared.ending.Ending.TheVariants.{Words}
use Rattle.lmn_app_single.specs.Endings.{Concludes, status_of}
use Rattle.lmn_app_single.specs.Singles.{no_form, no_memory, performed}
use Rattle.lmn_app.specs.CallExamples.{ByteIsToldWritten, FileIsFetchedOnce, NoWordsAreAnswered, OrdersCountSo, QuoteIsRefused, QuoteIsToldRefused, TraceIsFetchedBehind, not_put, quote_alone, taken}
use Rattle.lmn_app.specs.Calls.{EndedSo, of_pair, single}
use Rattle.lmn_app_single.specs.Seen.{ShelfSeen, SinkSeen}
use Rattle.lmn_app.specs.TextExamples.{no_plan, small_names, small_plain, small_text}
use Rattle.lmn_app_single.specs.Texts.{IsRefusal, at_start, by_reading}
use Rattle.lmn_app_reading.specs.Texts.{LeavesNames, by_bytes}
use Rattle.lmn_app.proofs.OutcomeLemmas.{refused_told}
use Rattle.lmn_app.proofs.SmallTexts.{place_is, small_text_is_accepted}
use Rattle.lmn_app.proofs.TextLemmas.{one_refusal, refused_not_accepted}
use Rattle.lmn_reduction.proofs.Derivations.{zero_not_one}

-- ---- a quote

quote_is_wrong : IsLexicalFault quote_alone (at_start 7)
quote_is_wrong = record {
  cutting = record { before = []; tokens = []; rest = quote_alone };
  skipped = [];
  reached = start;
  wrong = string [] refl;
  placed = sym (place_is []);
  first = λ c code skipped reached less wrong. absurd (omega (arith, less));
}

-- nothing is said of its names
quote_names : LeavesNames quote_alone first_names first_names
quote_names = λ tokens tree right reads within. absurd (right (record { before = []; tokens = []; rest = quote_alone }) 7 [] start (string [] refl))

quote_refused : (size : Option ℕ) → IsRefusal size quote_alone (at_start 7)
quote_refused size = by_reading (omega arith) first_names quote_names (by_bytes quote_is_wrong)

pub quote_is_refused : QuoteIsRefused
quote_is_refused size = (
  quote_refused size,
  λ r h. one_refusal size quote_alone r (at_start 7) h (quote_refused size),
  refused_not_accepted size quote_alone (at_start 7) (quote_refused size),
)

pub quote_is_told_refused : QuoteIsToldRefused
quote_is_told_refused = (
  record { text = quote_alone; is_told = refl; refused = quote_refused None; code = refl },
  record { text = quote_alone; is_told = tt; refused = quote_refused None; code = refl },
  λ r h. refused_told None (Some (Some small_text)) r ⊥ h (small_names, small_plain, no_plan ∷ [], small_text_is_accepted, tt),
)

-- ---- a file that is asked for

-- how many fetches are told, and the first byte of the name of the first of them
abbrev how_many : Option (List Fetch) → ℕ
how_many None = 0
how_many (Some fetches) = length fetches

abbrev first_byte : List ℕ → ℕ
first_byte [] = 0
first_byte (b ∷ bs) = b

abbrev first_letter : Option (List Fetch) → ℕ
first_letter None = 0
first_letter (Some []) = 0
first_letter (Some (f ∷ fs)) = first_byte f.name

not_another : ¬ (◌≡◌ {A = ℕ} 98 97)
not_another = omega arith

pub file_is_fetched_once : FileIsFetchedOnce
file_is_fetched_once texts before after = (refl, (λ e. zero_not_one (ap how_many e)), λ e. not_another (ap first_letter e))

pub trace_is_fetched_behind : TraceIsFetchedBehind
trace_is_fetched_behind texts of = ((refl, of), (λ h. zero_not_one (ap how_many h.0)), inl refl)

-- ---- no words

not_formed : ¬ (InForm [])
not_formed f = f.1

-- how they end
nothing_asked : (shelf : ShelfSeen) (out : SinkSeen) → EndedSo [] Words shelf shelf out out
nothing_asked shelf out = single (no_form not_formed refl refl refl)

pub no_words_are_answered : NoWordsAreAnswered
no_words_are_answered shelf = (
  record { ending = Words; ended = nothing_asked shelf (taken []); concluded = inl (refl, refl, (refl, omega arith)) },
  record { ending = Words; ended = nothing_asked shelf (taken []); concluded = inr (refl, ([], codes "lmn: words not understood\n", refl, refl), refl, λ e. let long = ap length e in omega (arith, long)) },
  λ err_after a. by_none a.ending err_after a.ended a.concluded,
)
  where
    not_zero : (e : Ending) (told : Option (List ℕ)) (after : Faults) → e ≡ Words → ¬ (Concludes e 0 (Some []) told not_put after)
    not_zero e told after is (inl k) = let three = subst (λ x. 0 ≡ status_of x) is k.0 in omega (arith, three)
    not_zero e told after is (inr k) = let five = k.0 in omega (arith, five)

    by_none : (e : Ending) (err_after : SinkSeen) → EndedSo [] e shelf shelf (taken []) (taken []) → ¬ (Concludes e 0 (Some []) err_after.told not_put err_after.faults)
    by_none e err_after (single (performed q asks h)) k = not_formed (q, asks)
    by_none e err_after (single (no_memory said is s o)) k = not_formed said
    by_none e err_after (single (no_form n is s o)) k = not_zero e err_after.told err_after.faults is k
    by_none e err_after (of_pair p asks h) k = not_formed (to_pair p, asks)

-- ---- a byte that is told

pub byte_is_told_written : ByteIsToldWritten
byte_is_told_written = ((5 ∷ [], refl, refl), λ h. let told = ap length h.1 in let held = ap length h.2 in omega (arith, told, held))

-- ---- orders

-- the count that rises isn't the one before
rises : ¬ (not_put ≡ one_more_fault not_put)
rises e = let same = ap (λ (f : Faults). f.count) e in omega (arith, same)

pub orders_count_so : OrdersCountSo
orders_count_so = ((refl, omega arith), (λ h. let same = h.0 in omega (arith, same)), refl, rises)
