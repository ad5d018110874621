-- How words ended: with one text, and with two.
use Rattle.std.proofs.Common.{◌≡◌, ◌≤◌, ℕ, List, [], Option, ◌⊎◌, inl, inr, refl, sym, ap, subst, arith}
use Rattle.std.specs.declared.string.String.{String}
use Rattle.std.specs.declared.alloc.Global.{Global}
use Rattle.lmn_io.specs.Counts.{Faults}
use Rattle.lmn_io.specs.Texts.{Fetch}
use Rattle.lmn_io.proofs.TakingLemmas.{no_put}
use Rattle.lmn_app_words.specs.Laws.{OneRequest}
use Rattle.lmn_app_words.specs.Forms.{Asks, InForm, Pair, Request, to_run, to_compile, to_demo, to_pair}
use Rattle.lmn_app_single.specs.declared.ending.Ending.{Ending}
use Rattle.lmn_app_single.specs.declared.ending.Ending.TheVariants.{Done, Budget, Refused, Words, ReadFault, WriteFault, NoMemory, Full, SecondRefused}
use Rattle.lmn_app_single.specs.Endings.{Concludes, status_of}
use Rattle.lmn_app_single.specs.Requests.{Asked, asked_program}
use Rattle.lmn_app_single.specs.Seen.{ShelfSeen, SinkSeen}
use Rattle.lmn_app_single.specs.Singles.{EndsSingle, IsAnsweredSingle, SingleEnded, concluded, handed_on, no_form, no_memory, performed}
use Rattle.lmn_app.specs.CallExamples.{taken}
use Rattle.lmn_app.specs.Calls.{EndedSo, of_pair, single}
use Rattle.lmn_app.specs.Outcomes.{PairEnded, RequestEnded}
use Rattle.lmn_app.specs.Promises.{AnswersKeepPromises}
use Rattle.lmn_app.specs.Requests.{Fetches, FetchesAll, FetchesSecond, asked_second}
use Rattle.lmn_app.specs.SingleLaws.{ListingIsUnread, NoWordsAreSingle, PairsAreHandedOn, SinglesAreAnswers}
use Rattle.lmn_app.proofs.MainLemmas.{keeps_promises, status_most}
use Rattle.lmn_app.proofs.RequestLemmas.{demo_ended, list_ended, request_memory, run_ended}

-- a request is what is said of all requests
request_fetches : (c : Request) (e : Ending) (s t : ShelfSeen) (o p : SinkSeen) → SingleEnded c e s t o p → Fetches c s.told s.asked t.asked s.faults t.faults
request_fetches (to_run run) e s t o p h = h.asked
request_fetches (to_compile file) e s t o p h = h.asked
request_fetches (to_demo n) e s t o p h = (ap (λ (x : ShelfSeen). x.asked) h.1, λ name. ap (λ (x : ShelfSeen). x.faults name) h.1)
request_fetches (to_pair pair) e s t o p h = absurd h

request_ended : (c : Request) (e : Ending) (s t : ShelfSeen) (o p : SinkSeen) → SingleEnded c e s t o p → RequestEnded c e s.told o.told p.told o.faults p.faults s.faults t.faults
request_ended (to_run run) e s t o p h = run_ended s.told o.told p.told o.faults p.faults s.faults t.faults run _ e refl h.ended
request_ended (to_compile file) e s t o p h = list_ended s.told o.told p.told o.faults p.faults s.faults t.faults file e h.ended
request_ended (to_demo n) e s t o p h = demo_ended s.told o.told p.told o.faults p.faults s.faults t.faults n e h.0
request_ended (to_pair pair) e s t o p h = absurd h

request_asked : (c : Request) (e : Ending) (s t : ShelfSeen) (o p : SinkSeen) → SingleEnded c e s t o p → FetchesAll c s.asked t.asked
request_asked (to_run run) e s t o p h = h.asked
request_asked (to_compile file) e s t o p h = h.asked
request_asked (to_demo n) e s t o p h = ap (λ (x : ShelfSeen). x.asked) h.1
request_asked (to_pair pair) e s t o p h = absurd h

-- where nothing was touched
same_asked : (s t : ShelfSeen) → t ≡ s → t.asked ≡ s.asked
same_asked s t is = ap (λ (x : ShelfSeen). x.asked) is

module _ (words : List (String Global)) (e : Ending) (s t : ShelfSeen) (o p : SinkSeen) where
  -- what the shelf was asked for
  single_asked : EndsSingle words e s t o p → InForm words → Asked words (λ c. Fetches c s.told s.asked t.asked s.faults t.faults) ⊎ ((t.asked ≡ s.asked) × (e ≡ NoMemory))
  single_asked (performed c asks h) form = inl (c, asks, request_fetches c e s t o p h)
  single_asked (no_memory said is shelf out) form = inr (same_asked s t shelf, is)
  single_asked (no_form none is shelf out) form = absurd (none form)

  single_not_asked : EndsSingle words e s t o p → ¬ (InForm words) → t.asked ≡ s.asked
  single_not_asked (performed c asks h) none = absurd (none (c, asks))
  single_not_asked (no_memory said is shelf out) none = absurd (none said)
  single_not_asked (no_form n is shelf out) none = same_asked s t shelf

  single_unasked : EndsSingle words e s t o p → ¬ (InForm words) → (name : List ℕ) → t.faults name ≡ s.faults name
  single_unasked (performed c asks h) none name = absurd (none (c, asks))
  single_unasked (no_memory said is shelf out) none name = absurd (none said)
  single_unasked (no_form n is shelf out) none name = ap (λ (x : ShelfSeen). x.faults name) shelf

  -- how they ended
  single_ended : EndsSingle words e s t o p → Asked words (λ c. RequestEnded c e s.told o.told p.told o.faults p.faults s.faults t.faults)
      ⊎ (¬ (InForm words) × (e ≡ Words) × (p.told ≡ o.told) × (p.faults ≡ o.faults))
  single_ended (performed c asks h) = inl (c, asks, request_ended c e s t o p h)
  single_ended (no_memory said is shelf out) =
      let none = request_memory said.0 s.told o.told o.faults s.faults t.faults in
      let still = subst (λ (q : SinkSeen). RequestEnded said.0 NoMemory s.told o.told q.told o.faults q.faults s.faults t.faults) (sym out) none in
      inl (said.0, said.1, subst (λ x. RequestEnded said.0 x s.told o.told p.told o.faults p.faults s.faults t.faults) (sym is) still)
  single_ended (no_form none is shelf out) = inr (none, is, ap (λ (q : SinkSeen). q.told) out, ap (λ (q : SinkSeen). q.faults) out)

-- ---- a program and a second text

-- where nothing was touched before
module _ (words : List (String Global)) (p : Pair) (asks : Asks words (to_pair p)) (s m t : ShelfSeen) (same : m ≡ s) where
  pub pair_ends : (e : Ending) (o n q : SinkSeen) → n ≡ o → FetchesSecond p e m.told (asked_program p.file m.asked) t.asked
      → RequestEnded (to_pair p) e m.told n.told q.told n.faults q.faults m.faults t.faults → EndedSo words e s t o q
  pair_ends e o n q is asked h =
      let there : PairEnded p e m t n q = record { cause = h.cause; output = h.output; counts = h.counts; asked = asked } in
      of_pair p asks (subst (λ (x : ShelfSeen). PairEnded p e x t o q) same (subst (λ (y : SinkSeen). PairEnded p e m t y q) is there))

-- what it left behind is what is said of all requests
pair_ended : (p : Pair) (e : Ending) (s t : ShelfSeen) (o q : SinkSeen) → PairEnded p e s t o q → RequestEnded (to_pair p) e s.told o.told q.told o.faults q.faults s.faults t.faults
pair_ended p e s t o q h = record { cause = h.cause; output = h.output; counts = h.counts }

-- what was asked for is the program, or both
pair_fetches : (p : Pair) (e : Ending) (texts : Option (List ℕ → Option (List ℕ))) (before after : Option (List Fetch)) (f g : List ℕ → ℕ) → FetchesSecond p e texts (asked_program p.file before) after
    → Fetches (to_pair p) texts before after f g
pair_fetches p (Refused r) texts before after f g h = inl h
pair_fetches p ReadFault texts before after f g h = h
pair_fetches p NoMemory texts before after f g h = h
pair_fetches p Done texts before after f g h = inr h
pair_fetches p Budget texts before after f g h = inr h
pair_fetches p Words texts before after f g h = inr h
pair_fetches p WriteFault texts before after f g h = inr h
pair_fetches p Full texts before after f g h = inr h
pair_fetches p (SecondRefused kind r) texts before after f g h = inr h

-- a status with which all was asked for
abbrev AskedAll : ℕ → Type 0
AskedAll n = (n ≡ 0) ⊎ (n ≡ 1) ⊎ (n ≡ 7) ⊎ (8 ≤ n)

none_between : (n : ℕ) → AskedAll n → 2 ≤ n → n ≤ 6 → ⊥
none_between n (inl is) low high = omega (arith, is, low)
none_between n (inr (inl is)) low high = omega (arith, is, low)
none_between n (inr (inr (inl is))) low high = omega (arith, is, high)
none_between n (inr (inr (inr most))) low high = omega (arith, most, high)

not_all : (n m : ℕ) → 2 ≤ m → m ≤ 6 → (n ≡ m) ⊎ (n ≡ 5) → AskedAll n → ⊥
not_all n m low high (inl is) all = none_between n all (omega (arith, is, low)) (omega (arith, is, high))
not_all n m low high (inr is) all = none_between n all (omega (arith, is)) (omega (arith, is))

second_asked : (p : Pair) (e : Ending) (n : ℕ) (texts : Option (List ℕ → Option (List ℕ))) (before after : Option (List Fetch)) → FetchesSecond p e texts before after
    → (n ≡ status_of e) ⊎ (n ≡ 5) → AskedAll n → after ≡ asked_second p before
second_asked p (Refused r) n texts before after h said all = absurd (not_all n 2 (omega arith) (omega arith) said all)
second_asked p ReadFault n texts before after h said all = absurd (not_all n 4 (omega arith) (omega arith) said all)
second_asked p NoMemory n texts before after h said all = absurd (not_all n 6 (omega arith) (omega arith) said all)
second_asked p Done n texts before after h said all = h.0
second_asked p Budget n texts before after h said all = h.0
second_asked p Words n texts before after h said all = h.0
second_asked p WriteFault n texts before after h said all = h.0
second_asked p Full n texts before after h said all = h.0
second_asked p (SecondRefused kind r) n texts before after h said all = h.0

-- the status is that of the ending, or that of a failing `err`
said_status : (e : Ending) (n : ℕ) (eo en : Option (List ℕ)) (eb ea : Faults) → Concludes e n eo en eb ea → (n ≡ status_of e) ⊎ (n ≡ 5)
said_status e n eo en eb ea (inl k) = inl k.0
said_status e n eo en eb ea (inr k) = inr k.0

-- ---- words

module _ (words : List (String Global)) (e : Ending) (s t : ShelfSeen) (o q : SinkSeen) where
  ends_asked : EndedSo words e s t o q → InForm words → Asked words (λ c. Fetches c s.told s.asked t.asked s.faults t.faults) ⊎ ((t.asked ≡ s.asked) × (e ≡ NoMemory))
  ends_asked (single h) form = single_asked words e s t o q h form
  ends_asked (of_pair p asks h) form = inl (to_pair p, asks, pair_fetches p e s.told s.asked t.asked s.faults t.faults h.asked)

  ends_not_asked : EndedSo words e s t o q → ¬ (InForm words) → t.asked ≡ s.asked
  ends_not_asked (single h) none = single_not_asked words e s t o q h none
  ends_not_asked (of_pair p asks h) none = absurd (none (to_pair p, asks))

  ends_unasked : EndedSo words e s t o q → ¬ (InForm words) → (name : List ℕ) → t.faults name ≡ s.faults name
  ends_unasked (single h) none name = single_unasked words e s t o q h none name
  ends_unasked (of_pair p asks h) none name = absurd (none (to_pair p, asks))

  ends_fetched : EndedSo words e s t o q → (n : ℕ) → (n ≡ status_of e) ⊎ (n ≡ 5) → AskedAll n → Asked words (λ c. FetchesAll c s.asked t.asked)
  ends_fetched (single (performed c asks h)) n said all = (c, asks, request_asked c e s t o q h)
  ends_fetched (single (no_memory form is shelf out)) n said all =
      absurd (not_all n 6 (omega arith) (omega arith) (subst (λ x. (n ≡ status_of x) ⊎ (n ≡ 5)) is said) all)
  ends_fetched (single (no_form none is shelf out)) n said all =
      absurd (not_all n 3 (omega arith) (omega arith) (subst (λ x. (n ≡ status_of x) ⊎ (n ≡ 5)) is said) all)
  ends_fetched (of_pair p asks h) n said all = (to_pair p, asks, second_asked p e n s.told (asked_program p.file s.asked) t.asked h.asked said all)

  ends_ended : EndedSo words e s t o q → Asked words (λ c. RequestEnded c e s.told o.told q.told o.faults q.faults s.faults t.faults)
      ⊎ (¬ (InForm words) × (e ≡ Words) × (q.told ≡ o.told) × (q.faults ≡ o.faults))
  ends_ended (single h) = single_ended words e s t o q h
  ends_ended (of_pair p asks h) = inl (to_pair p, asks, pair_ended p e s t o q h)

-- ---- laws

-- a call that is answered keeps all promises
pub answers_keep_promises : OneRequest → AnswersKeepPromises
answers_keep_promises one args result s t o q v w a =
    keeps_promises one args s.told s.faults t.faults o.told q.told v.told w.told o.faults q.faults v.faults w.faults result s.asked t.asked t.told a.ending
    (ends_asked args a.ending s t o q a.ended) (ends_not_asked args a.ending s t o q a.ended) (ends_unasked args a.ending s t o q a.ended)
    (ends_fetched args a.ending s t o q a.ended result (said_status a.ending result v.told w.told v.faults w.faults a.concluded)) (ends_ended args a.ending s t o q a.ended) a.concluded

-- what is answered with one text is answered so by the whole program
pub singles_are_answers : SinglesAreAnswers
singles_are_answers args result s t o q v w (concluded ending h k) not = record { ending = ending; ended = single h; concluded = k }
singles_are_answers args result s t o q v w (handed_on p asks is shelf out err) not = absurd (not is)

-- ---- examples

no_words : ¬ (InForm [])
no_words form = form.1

-- no ending is answered by 12
not_twelve : (e : Ending) (eo en : Option (List ℕ)) (eb ea : Faults) → ¬ (Concludes e 12 eo en eb ea)
not_twelve e eo en eb ea (inl k) = let most = status_most e in let is = k.0 in omega (arith, most, is)
not_twelve e eo en eb ea (inr k) = let is = k.0 in omega (arith, is)

pub no_words_are_single : NoWordsAreSingle
no_words_are_single shelf = (concluded Words (no_form no_words refl refl refl) (inl (refl, refl, (refl, omega arith))), λ t p f h. none t p f h)
  where
    none : (t : ShelfSeen) (p f : SinkSeen) → IsAnsweredSingle [] 12 shelf t (taken []) p (taken []) f → ⊥
    none t p f (concluded e h k) = not_twelve e (taken []).told f.told (taken []).faults f.faults k
    none t p f (handed_on pair asks is s o x) = no_words (to_pair pair, asks)

pub pairs_are_handed_on : OneRequest → PairsAreHandedOn
pairs_are_handed_on one args pair asks shelf out err = (handed_on pair asks refl refl refl refl, λ t p f h. none t p f h)
  where
    not_memory : (e : Ending) (eo en : Option (List ℕ)) (eb ea : Faults) → e ≡ NoMemory → ¬ (Concludes e 0 eo en eb ea)
    not_memory e eo en eb ea is (inl k) = let six = subst (λ x. 0 ≡ status_of x) is k.0 in omega (arith, six)
    not_memory e eo en eb ea is (inr k) = let five = k.0 in omega (arith, five)

    none : (t : ShelfSeen) (p f : SinkSeen) → IsAnsweredSingle args 0 shelf t out p err f → ⊥
    none t p f (concluded e (performed c said h) k) = subst (λ x. SingleEnded x e shelf t out p) ((one args (to_pair pair) asks).1 c said) h
    none t p f (concluded e (no_memory said is s o) k) = not_memory e _ _ _ _ is k
    none t p f (concluded e (no_form n is s o) k) = n (to_pair pair, asks)
    none t p f (handed_on q said is s o x) = omega (arith, is)

pub listing_is_unread : ListingIsUnread
listing_is_unread shelf out = (
  record { ended = record { cause = omega arith; output = refl; counts = no_put out.faults }; asked = refl },
  λ h. let ended = h.ended in ended.cause,
)
