-- Whether a text begins with a line, by what a sink that compares has taken.
use Rattle.std.proofs.Common.{◌≡◌, ◌∙◌, ℕ, ◌<◌, ◌≤◌, Bool, true, false, List, [], ◌∷◌, ◌++◌, length, drop, Option, Some, None, Ok, Err, refl, sym, ap, subst, arith}
use Rattle.std.specs.Prelude.{Result, IfSome, codes}
use Rattle.std.specs.Option.{is_some}
use Rattle.std.proofs.lemmas.List.{append-nil, append_assoc, length-append}
use Rattle.lmn_base.proofs.Lists.{head_is, tail_is}
use Rattle.lmn_base.specs.declared.rule.RuleTree.{RuleTree}
use Rattle.lmn_base.specs.declared.solid.Region.{Region}
use Rattle.lmn_congruence.specs.Rules.{Name}
use Rattle.lmn_io.specs.Counts.{Faults}
use Rattle.lmn_io.specs.Gathering.{AddsWhere, Adds, Pending, SinkState, nothing_pending, output}
use Rattle.lmn_io.specs.Writing.{WritesText}
use Rattle.lmn_io.specs.declared.sink.Failed.{Failed}
use Rattle.lmn_io.proofs.TakingLemmas.{adds_more}
use Rattle.lmn_print_plain.specs.Rows.{any_behind, between_if}
use Rattle.lmn_receipt_line.specs.Comparing.{Compared, told_of}
use Rattle.lmn_receipt_line.specs.declared.walk.Place.{Place}
use Rattle.lmn_print_plain.proofs.DueLemmas.{Due, due_end, due_first, due_next}
use Rattle.lmn_receipt_line.specs.Walking.{Steps, left_open, line_end, line_text, texts_in}

-- a text of which nothing was taken
abbrev pub untaken : List ℕ → Compared
untaken text = record { text = text; taken = []; faults = record { count = 0; since = 0 } }

-- what is pending for such a sink, and what it tells and counts
abbrev pub state : Pending → Compared → SinkState
state b c = output b (Some (told_of c)) c.faults

-- two lists with beginnings of one length
same_parts : (t t' x y : List ℕ) → length t ≡ length t' → t ++ x ≡ t' ++ y → (t ≡ t') × (x ≡ y)
same_parts [] [] x y l e = (refl, e)
same_parts [] (b ∷ t') x y l e = absurd (omega (arith, l))
same_parts (a ∷ t) [] x y l e = absurd (omega (arith, l))
same_parts (a ∷ t) (b ∷ t') x y l e = let r = same_parts t t' x y (omega (arith, l)) (tail_is e) in (λ i. head_is e i ∷ r.0 i, r.1)

-- what is told once some bytes were taken tells the text and these bytes
told_apart : (text more : List ℕ) (c : Compared) → Some (told_of c) ≡ Some (told_of (untaken text) ++ more) → (c.text ≡ text) × (c.taken ≡ more)
told_apart text more c e =
    let whole : told_of c ≡ told_of (untaken text) ++ more = cc in
    let long : length c.text ≡ length text = head_is whole in
    same_parts c.text text c.taken more long (tail_is whole ∙ ap (λ t. t ++ more) (append-nil text))

-- what was taken is the front of what was added
taken_by : (b : Bool) (b' : Pending) (written text : List ℕ) (c : Compared) → b'.failed ≡ b → AddsWhere false b written (state nothing_pending (untaken text)) (state b' c) → (front : List ℕ) × (rest : List ℕ) × (written ≡ front ++ rest) × (Some (told_of c) ≡ Some (told_of (untaken text) ++ front))
taken_by true b' written text c e h = (h.0.0, h.0.1, h.0.2, h.0.3)
taken_by false b' written text c e h = (h.0.0, b'.kept, h.0.1, h.0.2)

-- where another byte was met than the text has, the text doesn't begin with the line
pub not_begun : (text line left : List ℕ) (b : Pending) (c : Compared) → Due line left (state nothing_pending (untaken text)) (state b c) → ((more rest : List ℕ) → c.text ≡ (c.taken ++ more) ++ rest → ⊥) → (rest : List ℕ) → text ≡ line ++ rest → ⊥
not_begun text line left b c due none rest e =
    let t = taken_by b.failed b due.written text c refl due.adds.added in
    let a = told_apart text t.0 c t.3 in
    let whole : line ≡ t.0 ++ (t.1 ++ left) = due.rest ∙ ap (λ z. z ++ left) t.2 ∙ append_assoc t.0 t.1 left in
    none (t.1 ++ left) rest (a.0 ∙ e ∙ ap (λ z. z ++ rest) (whole ∙ ap (λ z. z ++ (t.1 ++ left)) (sym a.1)))

-- ---- the answer

-- what the sink says of its own text: how many bytes were met, or that another one was met
abbrev pub IsMet : Option ℕ → Compared → Type 0
IsMet None c = ((more rest : List ℕ) → c.text ≡ (c.taken ++ more) ++ rest → ⊥) × (0 < c.faults.count)
IsMet (Some len) c = (len ≡ length c.taken) × (c.text ≡ c.taken ++ drop len c.text) × (c.faults.count ≡ 0)

-- an answer to whether a text begins with a line
abbrev pub Fronts : Option ℕ → List ℕ → List ℕ → Type 0
Fronts None text line = (rest : List ℕ) → text ≡ line ++ rest → ⊥
Fronts (Some len) text line = (0 < len) × (len ≤ length text) × (text ≡ line ++ drop len text)

-- the line was written, or a part of it
pub answered : (result : Result (Unit {0}) Failed) (found : Option ℕ) (text line : List ℕ) (c : Compared) → 0 < length line → WritesText line result (Some (told_of (untaken text))) (untaken text).faults (Some (told_of c)) c.faults → IsMet found c → Fronts found text line
answered (Ok u) None text line c there w met = absurd (let same = w.same.0 in let many = met.1 in omega (arith, same, many))
answered (Ok u) (Some len) text line c there w met =
    let a = told_apart text line c (w.took line refl) in
    let is : text ≡ line ++ drop len text = sym a.0 ∙ met.1 ∙ (λ i. a.1 i ++ drop len (a.0 i)) in
    let long = met.0 ∙ ap length a.1 in
    let both = ap length is ∙ length-append line (drop len text) in
    (omega (arith, there, long), omega (arith, long, both), is)
answered (Err e) None text line c there w met =
    let t = w.prefix line refl in
    let a = told_apart text t.0 c t.3 in
    λ rest is. met.0 t.1 rest (a.0 ∙ is ∙ ap (λ z. z ++ rest) (t.2 ∙ ap (λ z. z ++ t.1) (sym a.1)))
answered (Err e) (Some len) text line c there w met = absurd (let rose = ap (λ (f : Faults). f.count) w.rose in let few = met.2 in omega (arith, rose, few))

-- ---- the loop

-- a step more was taken
pub due_step : (names : List Name) (table : List RuleTree) (line end : List ℕ) (ps qs : List Place) (entered now : ℕ) (start mid after : SinkState) → Due line (left_open names table ps ++ end) start mid → Steps names table ps qs entered now mid after
    → Due line (left_open names table qs ++ end) start after
due_step names table line end ps qs entered now start mid after d s =
    due_next line (left_open names table ps ++ end) s.written (left_open names table qs ++ end) start mid after (ap (λ z. z ++ end) s.rest ∙ append_assoc s.written (left_open names table qs) end) d s.adds

-- nothing is left of the items, and the end of the line is written
pub line_done : (names : List Name) (table : List RuleTree) (r : Region) (ps : List Place) (any : Bool) (start former mid next after : SinkState) → Due (line_text names table r) (left_open names table ps ++ line_end names table r) start former → ps ≡ [] → mid ≡ former
    → any ≡ any_behind false (texts_in names table r) → Adds (between_if (codes ".") any) mid next → Adds (codes "\n") next after → Adds (line_text names table r) start after
line_done names table r ps any start former mid next after g none same any_is h k =
    due_end (line_text names table r) (line_end names table r) start former after (subst (λ qs. Due (line_text names table r) (left_open names table qs ++ line_end names table r) start former) none g)
    (subst (λ o. Adds (line_end names table r) o after) same
    (subst (λ a. Adds (between_if (codes ".") a ++ codes "\n") mid after) any_is (adds_more (between_if (codes ".") any) (codes "\n") mid next after h k)))

-- the same as the calls say it

-- what the sink answers, clause by clause, says how many bytes were met
pub met_is : (found : Option ℕ) (c : Compared) → (found ≡ None → (more rest : List ℕ) → c.text ≡ (c.taken ++ more) ++ rest → ⊥) → (found ≡ None → 0 < c.faults.count)
    → IfSome found (λ len. (len ≡ length c.taken) × (c.text ≡ c.taken ++ drop len c.text)) → IfSome found (λ len. c.faults.count ≡ 0) → IsMet found c
met_is None c none failed some unfailed = (none refl, failed refl)
met_is (Some len) c none failed some unfailed = (some.0, some.1, unfailed)

-- the answer, as the two clauses say it
pub fronts_some : (found : Option ℕ) (text line : List ℕ) → Fronts found text line → IfSome found (λ len. (0 < len) × (len ≤ length text) × (text ≡ line ++ drop len text))
fronts_some None text line f = tt
fronts_some (Some len) text line f = f

pub fronts_none : (found : Option ℕ) (text line : List ℕ) → Fronts found text line → found ≡ None → (rest : List ℕ) → text ≡ line ++ rest → ⊥
fronts_none None text line f e = f
fronts_none (Some len) text line f e = absurd (cc e)

-- where there is none
pub is_none : (found : Option ℕ) → is_some found ≡ false → found ≡ None
is_none None e = refl
is_none (Some len) e = absurd (cc e)

-- at first the whole line is left
pub due_begun : (left first end text : List ℕ) (b : Pending) (c : Compared) → left ≡ first → b ≡ nothing_pending → c ≡ untaken text → Due (first ++ end) (left ++ end) (state nothing_pending (untaken text)) (state b c)
due_begun left first end text b c l b_is c_is =
    subst (λ z. Due (first ++ end) (z ++ end) (state nothing_pending (untaken text)) (state b c)) (sym l)
    (subst (λ p. Due (first ++ end) (first ++ end) (state nothing_pending (untaken text)) (state p c)) (sym b_is)
    (subst (λ d. Due (first ++ end) (first ++ end) (state nothing_pending (untaken text)) (state nothing_pending d)) (sym c_is) (due_first (first ++ end) (state nothing_pending (untaken text)))))
