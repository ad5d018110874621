-- Steps of a store: each keeps what holds in it.
use Rattle.std.proofs.Common.{◌≡◌, ◌≢◌, ◌⊎◌, ℕ, zero, suc, ◌+◌, ◌-◌, ◌*◌, ◌/◌, ◌%◌, ◌^◌, ◌<◌, ◌≤◌, ◌==◌, Bool, true, false, List, [], ◌∷◌, ◌++◌, length, take, drop, replicate, get_or, set, slice_get, Option, Some, None, if◌then◌else◌, refl, sym, subst, ap, ◌∙◌, inl, inr, arith, get_or-set_same, get_or-set_other, length-set}
use Rattle.std.proofs.lemmas.Bool.{cases_eq, eq-eqb}
use Rattle.std.specs.Prelude.{MatchOption}
use Rattle.std.proofs.lemmas.List.{nil_from_length}
use lib.ListN.{length-replicate}
use denote.RawPtr.{Ptr, block_ptr, null_ptr, block_of}
use Rattle.lmn_base.proofs.Numbers.{not_equal}
use Rattle.lmn_base.proofs.Lists.{head_is, tail_is}
use Rattle.lmn_base.proofs.Truth.{false_not_true}
use Rattle.lmn_web_rows.specs.Rows.{Item, Row, NUMBER_WORD, numbered, forgotten, half_at, with_half_at, with_half, blank, link, items_in, live_in, with_items, with_use, cut_row, place_of, place_ptr, spare, IsStart, IsNear, leads_nowhere, AreSideBySide, block_at, first_rows, later_rows}
use Rattle.lmn_web_rows.specs.Tiles.{AreTiled}
use Rattle.lmn_web_rows.specs.Seen.{shown, HaveSameWords, HasNumber, AreNumbered, IsMade, IsGone}
use Rattle.lmn_web_rows.specs.Keeping.{LeadTo, Depths, IsRest, IsKept, AreKept, IsStore}
use Rattle.lmn_web_rows.proofs.Words.{within}
use Rattle.lmn_web_rows.proofs.Halves.{within_halves}
use Rattle.lmn_web_rows.proofs.Places.{starts_block}
use Rattle.lmn_web_rows.proofs.Tiling.{tiled_alike, items_alike, use_alike, tiled_cut, first_more, first_none, later_more, later_all}
use Rattle.lmn_web_rows.proofs.Lookups.{if_yes, items_same, items_away, live_items, items_use, live_use, live_away, seen, seen_live, seen_spare, live_seen, shown_items, filled, absent, found_is, cut_here, cut_next, cut_away}

-- Pointers

place_near : (n : ℕ) → n % 2 ^ 18 * 8 < 2 ^ 63
place_near n = omega arith

-- a place's pointer may be compared with the one that leads nowhere
pub near : (p : Ptr) → IsStart p → IsNear p
near p s = subst IsNear (sym s) (place_near (place_of p))

start_block : (b : ℕ) → b ≡ (b * 2 ^ 18 + 0 / 8) / 2 ^ 18
start_block b = omega arith

start_byte : (b : ℕ) → 0 ≡ (b * 2 ^ 18 + 0 / 8) % 2 ^ 18 * 8
start_byte b = omega arith

start_place : (b : ℕ) → block_ptr b 0 ≡ place_ptr (b * 2 ^ 18 + 0 / 8)
start_place b = λ t. block_ptr (start_block b t) (start_byte b t)

-- the start of a block is a place
pub block_start : (p : Ptr) → p ≡ block_ptr (block_of p) 0 → IsStart p
block_start p e = subst IsStart (sym e) (start_place (block_of p))

-- a choice of no words
no_choice : (t : Bool) (is : List Item) → is ≡ [] → (if t then is else []) ≡ []
no_choice true is e = e
no_choice false is e = refl

-- two places of which one is in use and the other isn't
pub live_apart : (rows : List Row) (y n : ℕ) → live_in rows y ≡ false → live_in rows n ≡ true → y ≢ n
live_apart rows y n s l e = false_not_true (sym s ∙ ap (live_in rows) e ∙ l)

-- words in a row that has none
pub no_words : (rows : List Row) (y n : ℕ) → items_in rows n ≡ [] → 0 < length (items_in rows y) → y ≢ n
no_words rows y n e l z = absurd (let none = ap (λ (is : List Item). length is) (ap (items_in rows) z ∙ e) in omega (arith, l, none))

-- What holds of a place holds after a change

abbrev pub Alike : List Row → List Row → Depths → Depths → ℕ → Type 0
Alike rows rows' depth depth' y = (live_in rows' y ≡ live_in rows y) × (items_in rows' y ≡ items_in rows y) × (depth' y ≡ depth y)

rest_on : (rows rows' : List Row) (depth depth' : Depths) (p : Ptr) (left : ℕ) → IsRest rows depth p left → Alike rows rows' depth depth' (place_of p) → IsRest rows' depth' p left
rest_on rows rows' depth depth' p left r a = record {
  start = r.start;
  some = r.some;
  spare = a.0 ∙ r.spare;
  words = a.1 ∙ r.words;
  apart = a.2 ∙ r.apart;
  inside = r.inside;
}

-- the word that has a row's number
abbrev word_of_number : List Item → Item
word_of_number is = get_or is NUMBER_WORD blank

-- the place of a kept row has words
kept_words : (rows : List Row) (depth : Depths) (w d : ℕ) (p : Ptr) → IsKept rows depth w d p → 0 < length (items_in rows (place_of p))
kept_words rows depth w d p k = within (items_in rows (place_of p)) 0 _ k.word

-- rows that are kept stay kept where nothing changes at their places
pub kept_on : (rows rows' : List Row) (depth depth' : Depths) (w d : ℕ) (p : Ptr) → AreKept rows depth w d p
    → ((y e : ℕ) → live_in rows y ≡ false → 0 < length (items_in rows y) → length (items_in rows y) ≡ w → depth y ≡ suc e → e < d → Alike rows rows' depth depth' y) → AreKept rows' depth' w d p
kept_on rows rows' depth depth' w zero p k f = k
kept_on rows rows' depth depth' w (suc d) p k f =
    let a = f (place_of p) d k.0.spare (kept_words rows depth w d p k.0) k.0.words k.0.deep (omega arith) in (
      record {
        start = k.0.start;
        spare = a.0 ∙ k.0.spare;
        words = ap (λ (is : List Item). length is) a.1 ∙ k.0.words;
        number = (k.0.number.0, (k.0.number.1.0, ap word_of_number a.1 ∙ k.0.number.1.1));
        deep = a.2 ∙ k.0.deep;
        next = k.0.next;
        word = ap (λ (is : List Item). get_or is 0 blank) a.1 ∙ k.0.word;
      },
      kept_on rows rows' depth depth' w d k.0.next k.1 (λ y e s l n q h. f y e s l n q (omega (arith, h))),
    )

-- nothing changes at the rest of a block and at rows that are kept
abbrev pub StayAlike : List Row → List Row → Depths → Depths → Type 0
StayAlike rows rows' depth depth' = (y : ℕ) → live_in rows y ≡ false → 0 < length (items_in rows y) → Alike rows rows' depth depth' y

-- the rest of a block has words
rest_long : (rows : List Row) (depth : Depths) (p : Ptr) (left : ℕ) → IsRest rows depth p left → length (items_in rows (place_of p)) ≡ left
rest_long rows depth p left r = ap (λ (is : List Item). length is) r.words ∙ length-replicate left blank

rest_some : (rows : List Row) (depth : Depths) (p : Ptr) (left : ℕ) → IsRest rows depth p left → 0 < length (items_in rows (place_of p))
rest_some rows depth p left r = let w = rest_long rows depth p left r in let s = r.some in omega (arith, w, s)

rest_stays : (rows rows' : List Row) (depth depth' : Depths) (p : Ptr) (left : ℕ) → (left ≡ 0) ⊎ IsRest rows depth p left → StayAlike rows rows' depth depth' → (left ≡ 0) ⊎ IsRest rows' depth' p left
rest_stays rows rows' depth depth' p left (inl z) f = inl z
rest_stays rows rows' depth depth' p left (inr r) f = inr (rest_on rows rows' depth depth' p left r (f (place_of p) r.spare (rest_some rows depth p left r)))

pub store_stays : (rows rows' : List Row) (bs bs' : List ℕ) (all all' : List Ptr) (p : Ptr) (left : ℕ) (firsts : List Ptr) (s : IsStore rows bs all p left firsts) (depth' : Depths)
    → AreTiled bs' rows' → LeadTo bs' all' → StayAlike rows rows' s.depth depth' → IsStore rows' bs' all' p left firsts
store_stays rows rows' bs bs' all all' p left firsts s depth' t l f = record {
  depth = depth';
  tiled = t;
  leads = l;
  rest = rest_stays rows rows' s.depth depth' p left s.rest f;
  lengths = s.lengths;
  kept = λ w. ((s.kept w).0, kept_on rows rows' s.depth depth' w (s.kept w).0 (get_or firsts w null_ptr) (s.kept w).1 (λ y e sp some n q h. f y sp some));
}

-- Words of a row in use

-- a row that has words as it is seen has those
pub row_same : (rows : List Row) (n k : ℕ) → k < length (items_in (shown rows) n) → items_in (shown rows) n ≡ items_in rows n
row_same rows n k low = seen_live rows n (live_seen rows n (omega (arith, low)))

-- also where one of them is known
pub word_same : (rows : List Row) (n k : ℕ) (x : Option Ptr × (ℕ × List (Option ℕ))) → get_or (items_in (shown rows) n) k blank ≡ Some x → items_in (shown rows) n ≡ items_in rows n
word_same rows n k x e = row_same rows n k (within (items_in (shown rows) n) k x e)

-- or a half of one
pub half_same : (rows : List Row) (n j x : ℕ) → half_at (items_in (shown rows) n) j ≡ Some x → items_in (shown rows) n ≡ items_in rows n
half_same rows n j x e = row_same rows n (j / 2) (within_halves (items_in (shown rows) n) (j / 2) (j % 2) x e)

-- a half that is written is seen
pub half_written_seen : (rows rows' : List Row) (n j x : ℕ) → j / 2 < length (items_in (shown rows) n) → rows' ≡ with_items n (with_half_at j x (items_in rows n)) rows → shown rows' ≡ with_items n (with_half_at j x (items_in (shown rows) n)) (shown rows)
half_written_seen rows rows' n j x low e =
    let live = live_seen rows n (omega (arith, low)) in
    ap shown e ∙ shown_items rows n (with_half_at j x (items_in rows n)) live ∙ ap (λ (is : List Item). with_items n (with_half_at j x is) (shown rows)) (sym (row_same rows n (j / 2) low))

-- a word that is written is seen
pub written_seen : (rows rows' : List Row) (n k : ℕ) (i : Item) → k < length (items_in (shown rows) n) → rows' ≡ with_items n (set (items_in rows n) k i) rows → shown rows' ≡ with_items n (set (items_in (shown rows) n) k i) (shown rows)
written_seen rows rows' n k i low e =
    ap shown e ∙ shown_items rows n (set (items_in rows n) k i) (live_seen rows n (omega (arith, low))) ∙ ap (λ (is : List Item). with_items n (set is k i) (shown rows)) (sym (row_same rows n k low))

-- a word is written
pub written : (rows rows' : List Row) (bs : List ℕ) (all : List Ptr) (p : Ptr) (left : ℕ) (firsts : List Ptr) (n k : ℕ) (i : Item) → IsStore rows bs all p left firsts → k < length (items_in (shown rows) n)
    → rows' ≡ with_items n (set (items_in rows n) k i) rows → IsStore rows' bs all p left firsts
written rows rows' bs all p left firsts n k i s low e =
    let live = live_seen rows n (omega (arith, low)) in let new = set (items_in rows n) k i in
    subst (λ (z : List Row). IsStore z bs all p left firsts) (sym e)
    (store_stays rows (with_items n new rows) bs bs all all p left firsts s s.depth
    (tiled_alike bs rows (with_items n new rows) (items_alike rows n new (length-set (items_in rows n) k i)) s.tiled) s.leads
    (λ y sp some. (live_items rows n new y, items_away rows n new y (live_apart rows y n sp live), refl)))

-- A row isn't in use any more, or comes into use, as the rows' calls do it

abbrev pub retired_rows : ℕ → List Row → List Row
retired_rows n rows = with_use false n rows

pub retired_tiled : (n : ℕ) (bs : List ℕ) (rows : List Row) → AreTiled bs rows → AreTiled bs (retired_rows n rows)
retired_tiled n bs rows h = tiled_alike bs rows (retired_rows n rows) (use_alike false rows n) h

pub retired_away : (n : ℕ) (rows : List Row) (y : ℕ) → y ≢ n → (live_in (retired_rows n rows) y ≡ live_in rows y) × (items_in (retired_rows n rows) y ≡ items_in rows y)
retired_away n rows y d = (live_away false n rows y d, items_use false n rows y)

abbrev pub revived : ℕ → List Row → List Row
revived n rows = with_use true n (with_items n (forgotten (items_in rows n)) rows)

-- a row of which all but its number is forgotten has as many words
pub forgotten_length : (is : List Item) → length (forgotten is) ≡ length is
forgotten_length is = length-set (replicate (length is) blank) NUMBER_WORD (get_or is NUMBER_WORD blank) ∙ length-replicate (length is) blank

pub revived_tiled : (n : ℕ) (bs : List ℕ) (rows : List Row) → AreTiled bs rows → AreTiled bs (revived n rows)
revived_tiled n bs rows h = let mid = with_items n (forgotten (items_in rows n)) rows in
    tiled_alike bs mid (with_use true n mid) (use_alike true mid n) (tiled_alike bs rows mid (items_alike rows n (forgotten (items_in rows n)) (forgotten_length (items_in rows n))) h)

pub revived_live : (n : ℕ) (rows : List Row) → 0 < length (items_in rows n) → live_in (revived n rows) n ≡ true
revived_live n rows l = let new = forgotten (items_in rows n) in let e = forgotten_length (items_in rows n) in
    live_use true n (with_items n new rows) (subst (λ (is : List Item). 0 < length is) (sym (items_same rows n new l)) (omega (arith, e, l)))

pub revived_items : (n : ℕ) (rows : List Row) → 0 < length (items_in rows n) → items_in (revived n rows) n ≡ forgotten (items_in rows n)
revived_items n rows l = let new = forgotten (items_in rows n) in items_use true n (with_items n new rows) n ∙ items_same rows n new l

pub revived_away : (n : ℕ) (rows : List Row) (y : ℕ) → y ≢ n → (live_in (revived n rows) y ≡ live_in rows y) × (items_in (revived n rows) y ≡ items_in rows y)
revived_away n rows y d = let new = forgotten (items_in rows n) in (
  live_away true n (with_items n new rows) y d ∙ live_items rows n new y,
  items_use true n (with_items n new rows) y ∙ items_away rows n new y d,
)

-- a number stands in one of a row's words
pub number_within : (is : List Item) (i : ℕ) (x : Option ℕ) → word_of_number is ≡ numbered i x → NUMBER_WORD < length is
number_within is i x e = within is NUMBER_WORD _ e

-- what is left of a row of which the rest is forgotten
pub forgotten_is : (is : List Item) (w i : ℕ) (x : Option ℕ) → length is ≡ w → word_of_number is ≡ numbered i x → forgotten is ≡ set (replicate w blank) NUMBER_WORD (numbered i x)
forgotten_is is w i x len e = λ t. set (replicate (len t) blank) NUMBER_WORD (e t)

-- what is seen of places at which nothing changed
pub seen_away : (rows rows' : List Row) (y : ℕ) → (live_in rows' y ≡ live_in rows y) × (items_in rows' y ≡ items_in rows y) → items_in (shown rows') y ≡ items_in (shown rows) y
seen_away rows rows' y a = seen rows' y ∙ (λ t. if a.0 t then a.1 t else []) ∙ sym (seen rows y)

-- Numbers of rows

abbrev number_at : List Row → ℕ → Item
number_at rows n = word_of_number (items_in rows n)

-- a number that is seen is that of a row in use
pub shown_number : (rows : List Row) (n i : ℕ) → HasNumber (shown rows) n i → (live_in rows n ≡ true) × HasNumber rows n i
shown_number rows n i h = let long = number_within (items_in (shown rows) n) i h.0 h.1 in
    (live_seen rows n (omega (arith, long)), (h.0, sym (ap word_of_number (row_same rows n NUMBER_WORD long)) ∙ h.1))

-- rows with other words, but the same numbers
pub alike_numbers : (rows rows' : List Row) (count : ℕ) → AreNumbered rows count → ((y i : ℕ) → HasNumber rows' y i → HasNumber rows y i) → ((y : ℕ) → live_in rows' y ≡ true → (i : ℕ) × HasNumber rows' y i) → AreNumbered rows' count
alike_numbers rows rows' count a back every = record {
  every = every;
  below = λ n i h. a.below n i (back n i h);
  single = λ n m i h k. a.single n m i (back n i h) (back m i k);
}

pub same_numbers : (rows rows' : List Row) (count : ℕ) → AreNumbered rows count → ((y : ℕ) → number_at rows' y ≡ number_at rows y) → ((y : ℕ) → live_in rows' y ≡ true → (i : ℕ) × HasNumber rows y i) → AreNumbered rows' count
same_numbers rows rows' count a same every = alike_numbers rows rows' count a (λ y i h. (h.0, sym (same y) ∙ h.1)) (λ y l. let k = every y l in (k.0, (k.1.0, same y ∙ k.1.1)))

-- words of which none was written have no number
pub blank_at : (n k : ℕ) → get_or (replicate n blank) k blank ≡ blank
blank_at zero k = refl
blank_at (suc n) zero = refl
blank_at (suc n) (suc k) = blank_at n k

not_blank : (i : ℕ) (x : Option ℕ) → blank ≡ numbered i x → ⊥
not_blank i x e = absurd cc

no_number : (rows : List Row) (n c i : ℕ) → items_in rows n ≡ replicate c blank → HasNumber rows n i → ⊥
no_number rows n c i e h = not_blank i h.0 (sym (blank_at c NUMBER_WORD) ∙ sym (ap word_of_number e) ∙ h.1)

-- the number in the first half of a word
abbrev first_half : Item → ℕ
first_half None = 0
first_half (Some (p, (n, []))) = 0
first_half (Some (p, (n, None ∷ xs))) = 0
first_half (Some (p, (n, Some i ∷ xs))) = i

-- a word has one number
pub one_number : (i j : ℕ) (x y : Option ℕ) → numbered i x ≡ numbered j y → i ≡ j
one_number i j x y e = ap first_half e

-- a word of a row is another, and not the one with its number
pub written_numbers : (rows rows' : List Row) (count n k : ℕ) (i : Item) → AreNumbered rows count → k < length (items_in rows n) → k ≢ NUMBER_WORD → rows' ≡ with_items n (set (items_in rows n) k i) rows → AreNumbered rows' count
written_numbers rows rows' count n k i a low d e = subst (λ (z : List Row). AreNumbered z count) (sym e)
    (let new = set (items_in rows n) k i in let end = with_items n new rows in
    let word : (y : ℕ) → number_at end y ≡ number_at rows y = λ y. elim (cases_eq y n) [
      | inl z ↦ ap (λ (u : ℕ). number_at end u) z ∙ ap word_of_number (items_same rows n new (omega (arith, low))) ∙ get_or-set_other (items_in rows n) k NUMBER_WORD i blank (λ (w : NUMBER_WORD ≡ k). d (sym w)) ∙ sym (ap (λ (u : ℕ). number_at rows u) z)
      | inr o ↦ ap word_of_number (items_away rows n new y o)
    ] in
    same_numbers rows end count a word (λ y l. a.every y (sym (live_items rows n new y) ∙ l)))

-- the other half of that word is another
beside_written : (i : ℕ) (x : Option ℕ) (v : ℕ) → with_half 1 v (numbered i x) ≡ numbered i (Some v)
beside_written i x v = refl

half_elsewhere : (j : ℕ) → j ≢ 14 → j / 2 ≡ NUMBER_WORD → j ≡ 15
half_elsewhere j d e = omega (arith, d, e)

pub half_numbers : (rows rows' : List Row) (count n j v : ℕ) → AreNumbered rows count → live_in rows n ≡ true → j / 2 < length (items_in rows n) → j ≢ 14 → rows' ≡ with_items n (with_half_at j v (items_in rows n)) rows → AreNumbered rows' count
half_numbers rows rows' count n j v a live low d e = elim (cases_eq (j / 2) NUMBER_WORD) [
  | inr o ↦ written_numbers rows rows' count n (j / 2) (with_half (j % 2) v (get_or (items_in rows n) (j / 2) blank)) a low o e
  | inl same ↦ (
      let h = a.every n live in let i = h.0 in let last : j ≡ 15 = half_elsewhere j d same in
      let new = with_half_at j v (items_in rows n) in let end = with_items n new rows in
      let here : number_at end n ≡ numbered i (Some v) = ap word_of_number (items_same rows n new (omega (arith, low)) ∙ ap (λ (u : ℕ). with_half_at u v (items_in rows n)) last)
      ∙ get_or-set_same (items_in rows n) NUMBER_WORD (with_half 1 v (number_at rows n)) blank (omega (arith, low, same)) ∙ ap (with_half 1 v) h.1.1 in
      subst (λ (z : List Row). AreNumbered z count) (sym e) (alike_numbers rows end count a
      (λ y k g. elim (cases_eq y n) [
        | inl z ↦ (let k_is : k ≡ i = one_number k i g.0 (Some v) (sym g.1 ∙ ap (λ (u : ℕ). number_at end u) z ∙ here) in subst (λ (u : ℕ). HasNumber rows u k) (sym z) (subst (HasNumber rows n) (sym k_is) h.1))
        | inr o ↦ (g.0, sym (ap word_of_number (items_away rows n new y o)) ∙ g.1)
      ])
      (λ y l. elim (cases_eq y n) [
        | inl z ↦ (i, (Some v, ap (λ (u : ℕ). number_at end u) z ∙ here))
        | inr o ↦ (let g = a.every y (sym (live_items rows n new y) ∙ l) in (g.0, (g.1.0, ap word_of_number (items_away rows n new y o) ∙ g.1.1)))
      ])))
]

-- a row isn't in use any more
pub retired_numbers : (rows rows' : List Row) (count n : ℕ) → AreNumbered rows count → 0 < length (items_in rows n) → rows' ≡ retired_rows n rows → AreNumbered rows' count
retired_numbers rows rows' count n a some e = subst (λ (z : List Row). AreNumbered z count) (sym e)
    (same_numbers rows (retired_rows n rows) count a (λ y. ap word_of_number (items_use false n rows y))
    (λ y l. elim (cases_eq y n) [ inl z ↦ absurd (false_not_true (sym (ap (live_in (retired_rows n rows)) z ∙ live_use false n rows some) ∙ l)) | inr d ↦ a.every y (sym (live_away false n rows y d) ∙ l) ]))

-- A kept row is taken

-- the pointers to the first kept rows, of which one is another
first_set : (firsts : List Ptr) (w v : ℕ) (q : Ptr) → v ≢ w → get_or (set firsts w q) v null_ptr ≡ get_or firsts v null_ptr
first_set firsts w v q d = get_or-set_other firsts w v q null_ptr d

-- the first kept row, where one is
pub first_kept : (rows : List Row) (depth : Depths) (w d : ℕ) (p : Ptr) → AreKept rows depth w d p → leads_nowhere p ≡ false → (e : ℕ) × (k : IsKept rows depth w e p) × AreKept rows depth w e k.next
first_kept rows depth w zero p k some = absurd (false_not_true (sym (ap leads_nowhere (sym k) ∙ some)))
first_kept rows depth w (suc d) p k some = (d, k.0, k.1)

-- the pointer to it may be compared
pub kept_near : (rows : List Row) (depth : Depths) (w d : ℕ) (p : Ptr) → AreKept rows depth w d p → IsNear p
kept_near rows depth w zero p k = subst IsNear (sym k) (omega arith)
kept_near rows depth w (suc d) p k = near p k.0.start

-- that in the list of them may be compared
pub first_near : (rows : List Row) (bs : List ℕ) (all : List Ptr) (rest : Ptr) (left : ℕ) (firsts : List Ptr) (w : ℕ) (p : Ptr) → IsStore rows bs all rest left firsts → get_or firsts w null_ptr ≡ p → IsNear p
first_near rows bs all rest left firsts w p s e = subst IsNear e (kept_near rows s.depth w (s.kept w).0 (get_or firsts w null_ptr) (s.kept w).1)

-- where a word leads, if it does
abbrev leads_to : Item → Ptr
leads_to None = null_ptr
leads_to (Some (None, n)) = null_ptr
leads_to (Some (Some p, n)) = p

-- a store with a row that is kept, of so many words, at a pointer
pub record HasKept (rows : List Row) (bs : List ℕ) (all : List Ptr) (rest : Ptr) (left : ℕ) (firsts : List Ptr) (w : ℕ) (p : Ptr) : Type 0 where
  pub start : IsStart p
  pub spare : live_in rows (place_of p) ≡ false
  pub words : length (items_in rows (place_of p)) ≡ w
  pub some : 0 < length (items_in rows (place_of p))
  pub number : (i : ℕ) × HasNumber rows (place_of p) i
  pub next : Ptr
  pub word : get_or (items_in rows (place_of p)) 0 blank ≡ link next
  pub store : IsStore (revived (place_of p) rows) bs all rest left (set firsts w next)

pub has_kept : (rows : List Row) (bs : List ℕ) (all : List Ptr) (rest : Ptr) (left : ℕ) (firsts : List Ptr) (w : ℕ) (p : Ptr) → IsStore rows bs all rest left firsts → w < length firsts
    → get_or firsts w null_ptr ≡ p → leads_nowhere p ≡ false → HasKept rows bs all rest left firsts w p
has_kept rows bs all rest left firsts w p s low at some =
    let h = first_kept rows s.depth w (s.kept w).0 p (subst (AreKept rows s.depth w (s.kept w).0) at (s.kept w).1) some in
    let e = h.0 in let k = h.1 in let n = place_of p in let has = kept_words rows s.depth w e p k in let rows' = revived n rows in
    let away : (y : ℕ) → y ≢ n → Alike rows rows' s.depth s.depth y = λ y d. ((revived_away n rows y d).0, (revived_away n rows y d).1, refl) in
    record {
      start = k.start;
      spare = k.spare;
      words = k.words;
      some = has;
      number = k.number;
      next = k.next;
      word = k.word;
      store = record {
        depth = s.depth;
        tiled = revived_tiled n bs rows s.tiled;
        leads = s.leads;
        rest = elim s.rest [
          | inl z ↦ inl z
          | inr r ↦ inr (rest_on rows rows' s.depth s.depth rest left r (away (place_of rest) (λ z. absurd (let a = r.apart in let b = k.deep in let c = ap s.depth z in omega (arith, a, b, c)))))
        ];
        lengths = length-set firsts w k.next ∙ s.lengths;
        kept = λ v. elim (cases_eq v w) [
          | inl same ↦ (
            e,
            subst (AreKept rows' s.depth v e) (sym (ap (λ (u : ℕ). get_or (set firsts w k.next) u null_ptr) same ∙ get_or-set_same firsts w k.next null_ptr low))
                (subst (λ (u : ℕ). AreKept rows' s.depth u e k.next) (sym same)
                (kept_on rows rows' s.depth s.depth w e k.next h.2 (λ y f sp l m q b. away y (λ z. absurd (let a = k.deep in let c = ap s.depth z in omega (arith, a, b, c, q)))))),
          )
          | inr d ↦ (
            (s.kept v).0,
            subst (AreKept rows' s.depth v (s.kept v).0) (sym (first_set firsts w v k.next d))
                (kept_on rows rows' s.depth s.depth v (s.kept v).0 (get_or firsts v null_ptr) (s.kept v).1 (λ y f sp l m q b. away y (λ z. absurd (let a = k.words in let c = ap (λ (u : ℕ). length (items_in rows u)) z in d (omega (arith, a, c, m)))))),
          )
        ];
      };
    }

-- the word that was read is the next one
pub next_is : (i : Item) (p q : Ptr) → i ≡ link p → i ≡ link q → p ≡ q
next_is i p q a b = ap leads_to (sym a ∙ b)

-- and the row is new
pub taken : (rows rows' : List Row) (n w count i : ℕ) → AreNumbered rows count → count < 2 ^ 32 → live_in rows n ≡ false → length (items_in rows n) ≡ w → HasNumber rows n i → rows' ≡ revived n rows → IsMade (shown rows) (shown rows') n w
taken rows rows' n w count i a few sp len h e =
    let long = number_within (items_in rows n) i h.0 h.1 in let some : 0 < length (items_in rows n) = omega (arith, long) in
    subst (λ (z : List Row). IsMade (shown rows) (shown z) n w) (sym e) record {
      number = i;
      beside = h.0;
      small = let l = a.below n i h in omega (arith, l, few);
      fresh = λ m k. (let u = shown_number rows m i k in false_not_true (sym sp ∙ ap (live_in rows) (sym (a.single m n i u.1 h)) ∙ u.0));
      none = seen_spare rows n sp;
      made = seen_live (revived n rows) n (revived_live n rows some) ∙ revived_items n rows some ∙ forgotten_is (items_in rows n) w i h.0 len h.1;
      others = λ m d. seen_away rows (revived n rows) m (revived_away n rows m d);
    }

-- the numbers stay
pub taken_numbers : (rows rows' : List Row) (n count i : ℕ) → AreNumbered rows count → HasNumber rows n i → rows' ≡ revived n rows → AreNumbered rows' count
taken_numbers rows rows' n count i a h e = subst (λ (z : List Row). AreNumbered z count) (sym e)
    (let long = number_within (items_in rows n) i h.0 h.1 in let some : 0 < length (items_in rows n) = omega (arith, long) in
    let all = length-replicate (length (items_in rows n)) blank in
    let word : (y : ℕ) → number_at (revived n rows) y ≡ number_at rows y = λ y. elim (cases_eq y n) [
      | inl z ↦ ap (λ (u : ℕ). number_at (revived n rows) u) z ∙ ap word_of_number (revived_items n rows some) ∙ get_or-set_same (replicate (length (items_in rows n)) blank) NUMBER_WORD (number_at rows n) blank (omega (arith, all, long)) ∙ sym (ap (λ (u : ℕ). number_at rows u) z)
      | inr d ↦ ap word_of_number (revived_away n rows y d).1
    ] in
    same_numbers rows (revived n rows) count a word (λ y l. elim (cases_eq y n) [ inl z ↦ (i, subst (λ (u : ℕ). HasNumber rows u i) (sym z) h) | inr d ↦ a.every y (sym (revived_away n rows y d).0 ∙ l) ]))

-- A row is kept

-- the number of one place is another
abbrev pub at_place : ℕ → ℕ → Depths → Depths
at_place n d depth = λ y. if y == n then d else depth y

at_here : (n d : ℕ) (depth : Depths) → at_place n d depth n ≡ d
at_here n d depth = if_yes (n == n) d (depth n) (eq-eqb n n refl)

at_away : (n d : ℕ) (depth : Depths) (y : ℕ) → y ≢ n → at_place n d depth y ≡ depth y
at_away n d depth y o = ap (λ (t : Bool). if t then d else depth y) (not_equal y n o)

-- a row isn't in use any more
pub retired : (rows rows' : List Row) (bs : List ℕ) (all : List Ptr) (rest : Ptr) (left : ℕ) (firsts : List Ptr) (n : ℕ) → IsStore rows bs all rest left firsts → 0 < length (items_in (shown rows) n) → rows' ≡ retired_rows n rows
    → IsStore rows' bs all rest left firsts
retired rows rows' bs all rest left firsts n s l e =
    let live = live_seen rows n l in
    subst (λ (z : List Row). IsStore z bs all rest left firsts) (sym e)
    (store_stays rows (retired_rows n rows) bs bs all all rest left firsts s s.depth (retired_tiled n bs rows s.tiled) s.leads
    (λ y sp some. let a = retired_away n rows y (live_apart rows y n sp live) in (a.0, a.1, refl)))

-- it isn't seen
pub gone : (rows rows' : List Row) (n : ℕ) → 0 < length (items_in (shown rows) n) → rows' ≡ retired_rows n rows → IsGone (shown rows) (shown rows') n
gone rows rows' n l e =
    let live = live_seen rows n l in let words = subst (λ (is : List Item). 0 < length is) (seen_live rows n live) l in
    subst (λ (z : List Row). IsGone (shown rows) (shown z) n) (sym e) record {
      none = seen_spare (retired_rows n rows) n (live_use false n rows words);
      others = λ m d. seen_away rows (retired_rows n rows) m (retired_away n rows m d);
    }

-- a row that isn't in use leads to those of its length that are kept, and is the first of them
abbrev pub led_on : List Row → ℕ → Ptr → List Row
led_on rows n q = with_items n (set (items_in rows n) 0 (link q)) rows

-- the row goes before those that are kept
pub kept : (rows rows' rows'' : List Row) (bs : List ℕ) (all : List Ptr) (rest : Ptr) (left : ℕ) (firsts : List Ptr) (w : ℕ) (p q : Ptr) → IsStore rows bs all rest left firsts → IsStart p → length (items_in (shown rows) (place_of p)) ≡ w
    → 0 < w → (i : ℕ) → HasNumber rows (place_of p) i → w < length firsts → get_or firsts w null_ptr ≡ q → rows' ≡ retired_rows (place_of p) rows → rows'' ≡ led_on rows' (place_of p) q → IsStore rows'' bs all rest left (set firsts w p)
kept rows rows' rows'' bs all rest left firsts w p q s place len pos i h low first e e' =
    let n = place_of p in let l : 0 < length (items_in (shown rows) n) = omega (arith, len, pos) in let live = live_seen rows n l in
    let words = subst (λ (is : List Item). 0 < length is) (seen_live rows n live) l in let mid = retired_rows n rows in let new = set (items_in mid n) 0 (link q) in let end = with_items n new mid in
    let d = (s.kept w).0 in let depth' = at_place n (suc d) s.depth in
    let long : length (items_in mid n) ≡ w = ap (λ (is : List Item). length is) (items_use false n rows n) ∙ sym (ap (λ (is : List Item). length is) (seen_live rows n live)) ∙ len in
    let here : items_in end n ≡ new = items_same mid n new (omega (arith, long, pos)) in
    let t : IsStore end bs all rest left firsts = store_stays rows end bs bs all all rest left firsts s depth'
    (tiled_alike bs mid end (items_alike mid n new (length-set (items_in mid n) 0 (link q))) (retired_tiled n bs rows s.tiled)) s.leads
    (λ y sp some. let o = live_apart rows y n sp live in let a = retired_away n rows y o in (live_items mid n new y ∙ a.0, items_away mid n new y o ∙ a.1, at_away n (suc d) s.depth y o)) in
    let top : IsKept end depth' w d p = record {
      start = place;
      spare = live_items mid n new n ∙ live_use false n rows words;
      words = ap (λ (is : List Item). length is) here ∙ length-set (items_in mid n) 0 (link q) ∙ long;
      number = (i, (h.0, ap word_of_number here ∙ get_or-set_other (items_in mid n) 0 NUMBER_WORD (link q) blank (λ (z : NUMBER_WORD ≡ 0). absurd (omega (arith, z))) ∙ ap word_of_number (items_use false n rows n) ∙ h.1));
      deep = at_here n (suc d) s.depth;
      next = q;
      word = ap (λ (is : List Item). get_or is 0 blank) here ∙ get_or-set_same (items_in mid n) 0 (link q) blank (omega (arith, long, pos));
    } in
    let stay : (v : ℕ) → AreKept end depth' v (s.kept v).0 (get_or firsts v null_ptr) = λ v. (kept_on rows end s.depth depth' v (s.kept v).0 (get_or firsts v null_ptr) (s.kept v).1
    (λ y f sp some m u b. let o = live_apart rows y n sp live in let a = retired_away n rows y o in (live_items mid n new y ∙ a.0, items_away mid n new y o ∙ a.1, at_away n (suc d) s.depth y o))) in
    subst (λ (z : List Row). IsStore z bs all rest left (set firsts w p)) (sym (e' ∙ ap (λ (z : List Row). led_on z n q) e)) record {
      depth = depth';
      tiled = t.tiled;
      leads = t.leads;
      rest = rest_stays rows end s.depth depth' rest left s.rest
          (λ y sp some. let o = live_apart rows y n sp live in let a = retired_away n rows y o in (live_items mid n new y ∙ a.0, items_away mid n new y o ∙ a.1, at_away n (suc d) s.depth y o));
      lengths = length-set firsts w p ∙ s.lengths;
      kept = λ v. elim (cases_eq v w) [
        | inl same ↦ (
          suc d,
          subst (AreKept end depth' v (suc d)) (sym (ap (λ (u : ℕ). get_or (set firsts w p) u null_ptr) same ∙ get_or-set_same firsts w p null_ptr low))
              (subst (λ (u : ℕ). AreKept end depth' u (suc d) p) (sym same) (top, subst (AreKept end depth' w d) first (stay w))),
        )
        | inr o ↦ ((s.kept v).0, subst (AreKept end depth' v (s.kept v).0) (sym (first_set firsts w v p o)) (stay v))
      ];
    }

-- it isn't seen either
pub kept_gone : (rows rows' rows'' : List Row) (n : ℕ) (q : Ptr) → 0 < length (items_in (shown rows) n) → rows' ≡ retired_rows n rows → rows'' ≡ led_on rows' n q → IsGone (shown rows) (shown rows'') n
kept_gone rows rows' rows'' n q l e e' =
    let g = gone rows rows' n l e in let new = set (items_in rows' n) 0 (link q) in
    let live = live_seen rows n l in let words = subst (λ (is : List Item). 0 < length is) (seen_live rows n live) l in
    subst (λ (z : List Row). IsGone (shown rows) (shown z) n) (sym e') record {
      none = seen_spare (with_items n new rows') n (live_items rows' n new n ∙ ap (λ (z : List Row). live_in z n) e ∙ live_use false n rows words);
      others = λ m d. seen_away rows' (with_items n new rows') m (live_items rows' n new m, items_away rows' n new m d) ∙ g.others m d;
    }

-- a row that isn't in use any more has as many words
pub retired_words : (rows rows' : List Row) (n : ℕ) → 0 < length (items_in (shown rows) n) → rows' ≡ retired_rows n rows → 0 < length (items_in rows' n)
retired_words rows rows' n l e =
    subst (λ (z : List Row). 0 < length (items_in z n)) (sym e) (subst (λ (is : List Item). 0 < length is) (row_same rows n 0 l ∙ sym (items_use false n rows n)) l)

-- the number of a row that is seen
pub seen_number : (rows : List Row) (count n : ℕ) → AreNumbered rows count → 0 < length (items_in (shown rows) n) → (i : ℕ) × HasNumber rows n i
seen_number rows count n a l = a.every n (live_seen rows n l)

-- A row of the rest of a block

record Cut (rows rows' : List Row) (n c : ℕ) : Type 0 where
  pub first_items : items_in rows' n ≡ take c (items_in rows n)
  pub first_live : live_in rows' n ≡ live_in rows n
  pub next_items : items_in rows' (n + c) ≡ drop c (items_in rows n)
  pub next_live : live_in rows' (n + c) ≡ live_in rows n
  pub others : (y : ℕ) → y ≢ n → y ≢ n + c → (live_in rows' y ≡ live_in rows y) × (items_in rows' y ≡ items_in rows y)

cut_tells : (bs : List ℕ) (rows : List Row) (n c : ℕ) → AreTiled bs rows → 0 < length (items_in rows n) → items_in rows (n + c) ≡ [] → Cut rows (cut_row n c rows) n c
cut_tells bs rows n c t l none =
    let a = absent rows (n + c) (filled bs rows t) none in let rows' = cut_row n c rows in
    let here = sym (found_is rows' n) ∙ cut_here rows n c l in let next = sym (found_is rows' (n + c)) ∙ cut_next rows n c l a in
    record {
      first_items = ap (λ (x : List Item × Bool). x.0) here;
      first_live = ap (λ (x : List Item × Bool). x.1) here;
      next_items = ap (λ (x : List Item × Bool). x.0) next;
      next_live = ap (λ (x : List Item × Bool). x.1) next;
      others = λ y d o. let e = sym (found_is rows' y) ∙ cut_away rows n c y d o ∙ found_is rows y in (ap (λ (x : List Item × Bool). x.1) e, ap (λ (x : List Item × Bool). x.0) e);
    }

-- a row was carved of the rest
pub record Carved (rows rows' : List Row) (bs : List ℕ) (all : List Ptr) (rest rest' : Ptr) (left c : ℕ) (firsts : List Ptr) (count : ℕ) : Type 0 where
  pub made : IsMade (shown rows) (shown rows') (place_of rest) c
  pub store : IsStore rows' bs all rest' (left - c) firsts
  pub numbers : AreNumbered rows' (count + 1)

-- words of which none was written, the first of them and the others
take_blanks : (c n : ℕ) → c ≤ n → take c (replicate n blank) ≡ replicate c blank
take_blanks zero n l = refl
take_blanks (suc c) zero l = absurd (omega (arith, l))
take_blanks (suc c) (suc n) l = ap (λ (is : List Item). blank ∷ is) (take_blanks c n (omega (arith, l)))

drop_blanks : (c n : ℕ) → drop c (replicate n blank) ≡ replicate (n - c) blank
drop_blanks zero n = let e : n ≡ n - 0 = omega arith in ap (λ (m : ℕ). replicate m blank) e
drop_blanks (suc c) zero = let e : 0 ≡ 0 - suc c = omega arith in ap (λ (m : ℕ). replicate m blank) e
drop_blanks (suc c) (suc n) = drop_blanks c n ∙ (let e : n - c ≡ suc n - suc c = omega arith in ap (λ (m : ℕ). replicate m blank) e)

-- a row that gets the next number
next_number : (rows rows' : List Row) (count n : ℕ) (x : Option ℕ) → AreNumbered rows count → number_at rows' n ≡ numbered count x → ((y : ℕ) → y ≢ n → live_in rows' y ≡ true → (i : ℕ) × HasNumber rows' y i)
    → ((y i : ℕ) → y ≢ n → HasNumber rows' y i → HasNumber rows y i) → AreNumbered rows' (count + 1)
next_number rows rows' count n x a here every back =
    let own : (y i : ℕ) → y ≡ n → HasNumber rows' y i → i ≡ count = λ y i z h. one_number i count h.0 x (sym h.1 ∙ ap (λ (u : ℕ). number_at rows' u) z ∙ here) in
    let fewer : (y i : ℕ) → y ≢ n → HasNumber rows' y i → i < count = λ y i d h. a.below y i (back y i d h) in
    record {
      every = λ y l. elim (cases_eq y n) [ inl z ↦ (count, (x, ap (λ (u : ℕ). number_at rows' u) z ∙ here)) | inr d ↦ every y d l ];
      below = λ y i h. elim (cases_eq y n) [ inl z ↦ (let e = own y i z h in omega (arith, e)) | inr d ↦ (let l = fewer y i d h in omega (arith, l)) ];
      single = λ y z i h k. elim (cases_eq y n) [
        | inl e ↦ elim (cases_eq z n) [ inl f ↦ e ∙ sym f | inr d ↦ (let u = own y i e h in let l = fewer z i d k in absurd (omega (arith, u, l))) ]
        | inr d ↦ elim (cases_eq z n) [ inl f ↦ (let u = own z i f k in let l = fewer y i d h in absurd (omega (arith, u, l))) | inr o ↦ a.single y z i (back y i d h) (back z i o k) ]
      ];
    }

-- the rest, where there is more of it
pub rest_there : (rows : List Row) (depth : Depths) (p : Ptr) (left c : ℕ) → (left ≡ 0) ⊎ IsRest rows depth p left → c < left → IsRest rows depth p left
rest_there rows depth p left c (inl z) l = absurd (omega (arith, z, l))
rest_there rows depth p left c (inr r) l = r

-- the words of the row that is cut from it
pub first_words : (rows rows' : List Row) (bs : List ℕ) (all : List Ptr) (p : Ptr) (left c : ℕ) (firsts : List Ptr) (s : IsStore rows bs all p left firsts) → 0 < c → c < left → items_in rows (place_of p + c) ≡ []
    → rows' ≡ cut_row (place_of p) c rows → items_in rows' (place_of p) ≡ replicate c blank
first_words rows rows' bs all p left c firsts s pos low none e =
    let r = rest_there rows s.depth p left c s.rest low in let words = rest_long rows s.depth p left r in
    ap (λ (z : List Row). items_in z (place_of p)) e ∙ (cut_tells bs rows (place_of p) c s.tiled (omega (arith, words, low)) none).first_items ∙ ap (take c) r.words ∙ take_blanks c left (omega (arith, low))

pub carved : (rows rows' rows'' rows''' : List Row) (bs : List ℕ) (all : List Ptr) (p q : Ptr) (left c : ℕ) (firsts : List Ptr) (count : ℕ) → IsStore rows bs all p left firsts → AreNumbered rows count → count + 1 < 2 ^ 32
    → NUMBER_WORD < c → c < left → items_in rows (place_of p + c) ≡ [] → IsStart q → place_of q ≡ place_of p + c
    → rows' ≡ cut_row (place_of p) c rows → rows'' ≡ with_items (place_of p) (with_half_at 14 count (items_in rows' (place_of p))) rows' → rows''' ≡ revived (place_of p) rows'' → Carved rows rows''' bs all p q left c firsts count
carved rows rows' rows'' rows''' bs all p q left c firsts count s a few pos low none place there e e' e'' =
    let r = rest_there rows s.depth p left c s.rest low in let n = place_of p in let words = rest_long rows s.depth p left r in
    let l : 0 < length (items_in rows n) = omega (arith, words, low) in let mid = cut_row n c rows in
    let t = cut_tells bs rows n c s.tiled l none in
    let first : items_in mid n ≡ replicate c blank = t.first_items ∙ ap (take c) r.words ∙ take_blanks c left (omega (arith, low)) in
    let second : items_in mid (n + c) ≡ replicate (left - c) blank = t.next_items ∙ ap (drop c) r.words ∙ drop_blanks c left in
    let one : length (items_in mid n) ≡ c = ap (λ (is : List Item). length is) first ∙ length-replicate c blank in
    let new = with_half_at 14 count (items_in mid n) in let mid' = with_items n new mid in let end = revived n mid' in
    let new_length : length new ≡ length (items_in mid n) = length-set (items_in mid n) NUMBER_WORD (with_half 0 count (get_or (items_in mid n) NUMBER_WORD blank)) in
    let at : items_in mid' n ≡ new = items_same mid n new (omega (arith, one, pos)) in
    let long : length (items_in mid' n) ≡ c = ap (λ (is : List Item). length is) at ∙ new_length ∙ one in
    let some : 0 < length (items_in mid' n) = omega (arith, long, pos) in
    let word : word_of_number (items_in mid' n) ≡ numbered count None = ap word_of_number at ∙ get_or-set_same (items_in mid n) NUMBER_WORD (with_half 0 count (get_or (items_in mid n) NUMBER_WORD blank)) blank (omega (arith, one, pos))
    ∙ ap (with_half 0 count) (ap word_of_number first ∙ blank_at c NUMBER_WORD) in
    let here : items_in end n ≡ set (replicate c blank) NUMBER_WORD (numbered count None) = revived_items n mid' some ∙ forgotten_is (items_in mid' n) c count None long word in
    let off : n + c ≢ n = λ z. absurd (omega (arith, z, pos)) in
    let depth' = at_place (n + c) 0 s.depth in
    let past : (y : ℕ) → y ≢ n → (live_in end y ≡ live_in mid y) × (items_in end y ≡ items_in mid y) = λ y d. let u = revived_away n mid' y d in (u.0 ∙ live_items mid n new y, u.1 ∙ items_away mid n new y d) in
    let away : (y : ℕ) → y ≢ n → y ≢ n + c → Alike rows end s.depth depth' y = λ y d o. let u = past y d in let b = t.others y d o in (u.0 ∙ b.0, u.1 ∙ b.1, at_away (n + c) 0 s.depth y o) in
    let rest' : IsRest end depth' q (left - c) = record {
      start = place;
      some = omega (arith, low);
      spare = ap (live_in end) there ∙ (past (n + c) off).0 ∙ t.next_live ∙ r.spare;
      words = ap (items_in end) there ∙ (past (n + c) off).1 ∙ second;
      apart = ap depth' there ∙ at_here (n + c) 0 s.depth;
      inside = subst (λ (u : ℕ). u % 2 ^ 18 + (left - c) ≤ 2 ^ 18) (sym there) (let i = r.inside in omega (arith, i, low));
    } in
    let bare : (i : ℕ) → HasNumber end (n + c) i → ⊥ = λ i h. no_number end (n + c) (left - c) i ((past (n + c) off).1 ∙ second) h in
    let back : (y i : ℕ) → y ≢ n → HasNumber end y i → HasNumber rows y i = λ y i d h. elim (cases_eq y (n + c)) [
      | inl z ↦ absurd (bare i (subst (λ (u : ℕ). HasNumber end u i) z h))
      | inr o ↦ (h.0, sym (ap word_of_number (away y d o).1) ∙ h.1)
    ] in
    let every : (y : ℕ) → y ≢ n → live_in end y ≡ true → (i : ℕ) × HasNumber end y i = λ y d u. elim (cases_eq y (n + c)) [
      | inl z ↦ absurd (false_not_true (sym (ap (live_in end) z ∙ (past (n + c) off).0 ∙ t.next_live ∙ r.spare) ∙ u))
      | inr o ↦ (let k = a.every y (sym (away y d o).0 ∙ u) in (k.0, (k.1.0, ap word_of_number (away y d o).1 ∙ k.1.1)))
    ] in
    subst (λ (z : List Row). Carved rows z bs all p q left c firsts count) (sym (e'' ∙ ap (revived n) (e' ∙ ap (λ (z : List Row). with_items n (with_half_at 14 count (items_in z n)) z) e))) record {
      made = record {
        number = count;
        beside = None;
        small = omega (arith, few);
        fresh = λ m h. (let u = shown_number rows m count h in let v = a.below m count u.1 in absurd (omega (arith, v)));
        none = seen_spare rows n r.spare;
        made = seen_live end n (revived_live n mid' some) ∙ here;
        others = λ m d. elim (cases_eq m (n + c)) [
          | inl same ↦ seen_spare end m (ap (live_in end) same ∙ (past (n + c) off).0 ∙ t.next_live ∙ r.spare)
              ∙ sym (seen rows m ∙ no_choice (live_in rows m) (items_in rows m) (ap (items_in rows) same ∙ none))
          | inr o ↦ (let u = away m d o in seen_away rows end m (u.0, u.1))
        ];
      };
      store = record {
        depth = depth';
        tiled = revived_tiled n bs mid' (tiled_alike bs mid mid' (items_alike mid n new new_length) (tiled_cut bs rows n c s.tiled (omega (arith, pos)) (omega (arith, words, low))));
        leads = s.leads;
        rest = inr rest';
        lengths = s.lengths;
        kept = λ w. (
          (s.kept w).0,
          kept_on rows end s.depth depth' w (s.kept w).0 (get_or firsts w null_ptr) (s.kept w).1
              (λ y f sp h m u b. away y (λ z. absurd (let g = r.apart in let x = ap s.depth z in omega (arith, g, x, u))) (no_words rows y (n + c) none h)),
        );
      };
      numbers = next_number rows end count n None a (ap word_of_number here ∙ get_or-set_same (replicate c blank) NUMBER_WORD (numbered count None) blank (let v = length-replicate c blank in omega (arith, v, pos))) every back;
    }

-- A new block

at_zero : (b : ℕ) → b * 2 ^ 18 + 0 / 8 ≡ b * 2 ^ 18
at_zero b = omega arith

-- the place of a block's start
place_is : (p : Ptr) → p ≡ block_ptr (block_of p) 0 → place_of p ≡ block_of p * 2 ^ 18
place_is p at = ap place_of at ∙ at_zero (block_of p)

first_fits : (b c : ℕ) → c ≡ 2 ^ 18 → b * 2 ^ 18 % 2 ^ 18 + c ≤ 2 ^ 18
first_fits b c h = omega (arith, h)

-- a new block is filled by its one row
new_tiled : (bs : List ℕ) (rows : List Row) (b n c : ℕ) → n ≡ b * 2 ^ 18 → c ≡ 2 ^ 18 → AreTiled bs rows → AreTiled (b ∷ bs) (spare n (replicate c blank) ∷ rows)
new_tiled bs rows b n c at h t =
    let r = spare n (replicate c blank) in let len : length (replicate c blank) ≡ 2 ^ 18 = length-replicate c blank ∙ h in let none : 2 ^ 18 - length (replicate c blank) ≡ 0 = omega (arith, len) in
    let some : 2 ^ 18 ≡ 0 → ⊥ = (λ z. absurd (omega (arith, z))) in (
      subst (AreSideBySide (b * 2 ^ 18) (2 ^ 18)) (sym (first_more (2 ^ 18) r rows some ∙ ap (λ (xs : List Row). r ∷ xs) (first_none (2 ^ 18 - length (replicate c blank)) rows none))) (at, omega (arith, len), omega (arith, len), none),
      subst (AreTiled bs) (sym (later_more (2 ^ 18) r rows some ∙ later_all (2 ^ 18 - length (replicate c blank)) rows none)) t,
    )

-- the rows and the block are the store's

pub grown : (rows rows' : List Row) (bs bs' : List ℕ) (all all' : List Ptr) (rest p : Ptr) (left c : ℕ) (firsts : List Ptr) → IsStore rows bs all rest left firsts → p ≡ block_ptr (block_of p) 0 → c ≡ 2 ^ 18 → items_in rows (place_of p) ≡ []
    → rows' ≡ spare (place_of p) (replicate c blank) ∷ rows → bs' ≡ block_of p ∷ bs → all' ≡ all ++ p ∷ [] → IsStore rows' bs' all' p c firsts × HaveSameWords (shown rows) (shown rows') × ((count : ℕ) → AreNumbered rows count → AreNumbered rows' count)
grown rows rows' bs bs' all all' rest p left c firsts s start count none e f g =
    let n = place_of p in let new = spare n (replicate c blank) ∷ rows in let depth' = at_place n 0 s.depth in
    let away : (y : ℕ) → y ≢ n → Alike rows new s.depth depth' y = λ y d. (
      ap (λ (t : Bool). if t then false else live_in rows y) (not_equal n y (λ z. d (sym z))),
      ap (λ (t : Bool). if t then replicate c blank else items_in rows y) (not_equal n y (λ z. d (sym z))),
      at_away n 0 s.depth y d,
    ) in
    let live : live_in new n ≡ false = ap (λ (t : Bool). if t then false else live_in rows n) (eq-eqb n n refl) in
    let items : items_in new n ≡ replicate c blank = ap (λ (t : Bool). if t then replicate c blank else items_in rows n) (eq-eqb n n refl) in (
      subst (λ (z : List Row). IsStore z bs' all' p c firsts) (sym e) (subst (λ (z : List ℕ). IsStore new z all' p c firsts) (sym f) (subst (λ (z : List Ptr). IsStore new (block_of p ∷ bs) z p c firsts) (sym g) record {
        depth = depth';
        tiled = new_tiled bs rows (block_of p) n c (place_is p start) count s.tiled;
        leads = (all, ap (λ (u : Ptr). all ++ u ∷ []) start, s.leads);
        rest = inr record {
          start = block_start p start;
          some = omega (arith, count);
          spare = live;
          words = items;
          apart = at_here n 0 s.depth;
          inside = subst (λ (u : ℕ). u % 2 ^ 18 + c ≤ 2 ^ 18) (sym (place_is p start)) (first_fits (block_of p) c count);
        };
        lengths = s.lengths;
        kept = λ w. ((s.kept w).0, kept_on rows new s.depth depth' w (s.kept w).0 (get_or firsts w null_ptr) (s.kept w).1 (λ y h sp l m u b. away y (no_words rows y n none l)));
      })),
      subst (λ (z : List Row). HaveSameWords (shown rows) (shown z)) (sym e) (λ m. elim (cases_eq m n) [
        | inl same ↦ seen_spare new m (ap (live_in new) same ∙ live) ∙ sym (seen rows m ∙ no_choice (live_in rows m) (items_in rows m) (ap (items_in rows) same ∙ none))
        | inr d ↦ (let a = away m d in seen_away rows new m (a.0, a.1))
      ]),
      λ number a. subst (λ (z : List Row). AreNumbered z number) (sym e) (alike_numbers rows new number a
          (λ y i h. elim (cases_eq y n) [ inl z ↦ absurd (no_number new n c i items (subst (λ (u : ℕ). HasNumber new u i) z h)) | inr d ↦ (h.0, sym (ap word_of_number (away y d).1) ∙ h.1) ])
          (λ y l. elim (cases_eq y n) [ inl z ↦ absurd (false_not_true (sym (ap (live_in new) z ∙ live) ∙ l)) | inr d ↦ (let k = a.every y (sym (away y d).0 ∙ l) in (k.0, (k.1.0, ap word_of_number (away y d).1 ∙ k.1.1))) ])),
    )

-- The place of a new block
pub block_place : (p : Ptr) → p ≡ block_ptr (block_of p) 0 → block_at (place_of p) ≡ block_of p
block_place p e = ap (λ (u : Ptr). block_at (place_of u)) e ∙ starts_block (block_of p)

-- The pointers to the first kept rows, of which there are more

none_among : (k w : ℕ) → get_or (replicate k null_ptr) w null_ptr ≡ null_ptr
none_among zero w = refl
none_among (suc k) zero = refl
none_among (suc k) (suc w) = none_among k w

-- A store without rows
pub empty_store : (rows : List Row) (bs : List ℕ) (all : List Ptr) (p : Ptr) (firsts : List Ptr) → rows ≡ [] → bs ≡ [] → all ≡ [] → firsts ≡ replicate 1024 null_ptr → IsStore rows bs all p 0 firsts
empty_store rows bs all p firsts no_rows no_blocks no_pointers none = record {
  depth = λ y. 0;
  tiled = subst (λ (z : List ℕ). AreTiled z rows) (sym no_blocks) no_rows;
  leads = subst (λ (z : List ℕ). LeadTo z all) (sym no_blocks) no_pointers;
  rest = inl refl;
  lengths = ap length none ∙ length-replicate 1024 null_ptr;
  kept = λ w. (0, ap (λ (z : List Ptr). get_or z w null_ptr) none ∙ none_among 1024 w);
}

-- no row, no number
pub no_numbers : (rows : List Row) (count : ℕ) → rows ≡ [] → AreNumbered rows count
no_numbers rows count none = subst (λ (z : List Row). AreNumbered z count) (sym none) record {
  every = λ n l. absurd (false_not_true l);
  below = λ n i h. absurd (not_blank i h.0 h.1);
  single = λ n m i h k. absurd (not_blank i h.0 h.1);
}

-- The end

none_last : (xs : List Ptr) (x : Ptr) → [] ≡ xs ++ x ∷ [] → ⊥
none_last [] x e = absurd cc
none_last (y ∷ xs) x e = absurd cc

last_is : (xs ys : List Ptr) (x y : Ptr) → xs ++ x ∷ [] ≡ ys ++ y ∷ [] → (xs ≡ ys) × (x ≡ y)
last_is [] [] x y e = (refl, head_is e)
last_is [] (z ∷ ys) x y e = absurd (none_last ys y (tail_is e))
last_is (z ∷ xs) [] x y e = absurd (none_last xs x (sym (tail_is e)))
last_is (z ∷ xs) (u ∷ ys) x y e = let more = last_is xs ys x y (tail_is e) in ((λ i. head_is e i ∷ more.0 i), more.1)

-- the block that came last, and the others
pub record Last (rows : List Row) (bs : List ℕ) (rest : List Ptr) (p : Ptr) : Type 0 where
  pub start : p ≡ block_ptr (block_of p) 0
  pub first : slice_get bs 0 ≡ Some (block_of p)
  pub side : AreSideBySide (place_of p) (2 ^ 18) (first_rows (2 ^ 18) rows)
  pub tiled : AreTiled (drop 1 bs) (later_rows (2 ^ 18) rows)
  pub leads : LeadTo (drop 1 bs) rest

pub last_block : (rows : List Row) (bs : List ℕ) (all rest : List Ptr) (p : Ptr) → AreTiled bs rows → LeadTo bs all → all ≡ rest ++ p ∷ [] → Last rows bs rest p
last_block rows [] all rest p t l e = absurd (none_last rest p (sym l ∙ e))
last_block rows (b ∷ bs) all rest p t l e =
    let h = last_is rest l.0 p (block_ptr b 0) (sym e ∙ l.1) in let same : block_of p ≡ b = ap block_of h.1 in
    record {
      start = h.1 ∙ ap (λ (u : ℕ). block_ptr u 0) (sym same);
      first = ap Some (sym same);
      side = subst (λ (u : ℕ). AreSideBySide u (2 ^ 18) (first_rows (2 ^ 18) rows)) (sym (ap place_of h.1 ∙ at_zero b)) t.0;
      tiled = t.1;
      leads = subst (LeadTo bs) (sym h.0) l.2;
    }

-- where no pointer is left, no block is, and no row
pub none_left : (bs : List ℕ) (all : List Ptr) → LeadTo bs all → all ≡ [] → bs ≡ []
none_left [] all l e = refl
none_left (b ∷ bs) all l e = absurd (none_last l.0 (block_ptr b 0) (sym e ∙ l.1))

-- no pointer was left where none came
pub none_came : (xs : List Ptr) (a b : ℕ) (o : Option Ptr) → a ≡ length xs → MatchOption o ((a ≡ 0) × (b ≡ 0)) (λ _. b + 1 ≡ a) → ((p : Ptr) → o ≡ Some p → ⊥) → xs ≡ []
none_came xs a b None e m d = nil_from_length xs (sym e ∙ m.0)
none_came xs a b (Some p) e m d = absurd (d p refl)

-- Calls one behind the other

-- a row that is made of rows with the same words
pub made_after : (old mid new : List Row) (n w : ℕ) → HaveSameWords old mid → IsMade mid new n w → IsMade old new n w
made_after old mid new n w h m = record {
  number = m.number;
  beside = m.beside;
  small = m.small;
  fresh = λ j k. m.fresh j (k.0, ap word_of_number (h j) ∙ k.1);
  none = sym (h n) ∙ m.none;
  made = m.made;
  others = λ j d. m.others j d ∙ h j;
}
