-- What is the listings of codes has no wrong line.
use Rattle.std.proofs.Common.{◌≡◌, ◌<◌, ◌+◌, ◌^◌, ◌⊎◌, inl, inr, ℕ, Bool, true, false, if◌then◌else◌, eqb, List, [], ◌∷◌, ◌++◌, map, length, refl, sym, ap, ◌∙◌, subst, arith}
use Rattle.std.specs.Prelude.{codes}
use Rattle.std.specs.List.{AllByRecursion, flat_map}
use Rattle.std.specs.Fmt.{decimal}
use Rattle.std.proofs.lemmas.Bool.Decides.{Decides-eqb}
use Rattle.std.proofs.lemmas.List.{append_assoc, append-nil, length-append}
use Rattle.lmn_base.proofs.Lists.{all_append, map_append, head_is, tail_is, behind_feed}
use Rattle.lmn_instr_code.specs.declared.instr.Code.{Code}
use Rattle.lmn_instr_code.specs.declared.instr.Instr.{Instr}
use Rattle.lmn_instr_code.specs.Listings.{line, code_listing}
use Rattle.lmn_instr_code.specs.declared.words.Operand.TheVariants as operand
use Rattle.lmn_instr_code.specs.Words.{opcode_of}
use Rattle.lmn_instr_code.specs.Opcodes.{is_in_head}
use Rattle.lmn_verify_listing.specs.Lines.{Due, nothing, due_rule, due_behind, StandsAs, Stand, HasNo, IsLine, FitsInstr, IsWholeLine, joined_lines, first_line, IsWrongLine}
use Rattle.lmn_verify_listing.specs.Listings.{HasPlainLine, HasPlainLines, IsBlock, IsWholeCode, listings_from}
use Rattle.lmn_verify_listing.specs.ListingLaws.{ListedLinesStand, WrongLineIsOne}
use Rattle.lmn_verify_listing.specs.Reaching.{due_in, due_out, last_of}
use Rattle.lmn_verify_listing.proofs.Places.{has_no_decimal}
use Rattle.lmn_verify_listing.proofs.ReachingLemmas.{stays, goes_out, stands_in}
use Rattle.lmn_verify_listing.proofs.CodeLemmas.{due_here, due_none, rule_line}
use Rattle.lmn_base.proofs.Numbers.{no_feed}

-- ---- whole lines

-- a text is cut at its first line feed in one way
pub feed_split : (x y r s : List ℕ) → HasNo 10 x → HasNo 10 y → x ++ 10 ∷ r ≡ y ++ 10 ∷ s → (x ≡ y) × (r ≡ s)
feed_split [] [] r s h g e = (refl, tail_is e)
feed_split [] (c ∷ cs) r s h g e = absurd (g.0 (sym (head_is e)))
feed_split (b ∷ bs) [] r s h g e = absurd (h.0 (head_is e))
feed_split (b ∷ bs) (c ∷ cs) r s h g e =
    let more = feed_split bs cs r s h.1 g.1 (tail_is e) in
    ((λ i. head_is e i ∷ more.0 i), more.1)

pub whole_first : (a b r s : List ℕ) → IsWholeLine a → IsWholeLine b → a ++ r ≡ b ++ s → (a ≡ b) × (r ≡ s)
whole_first a b r s v w e =
    let cut = feed_split v.0 w.0 r s v.1 w.1 (sym (behind_feed v.0 a r v.2) ∙ e ∙ behind_feed w.0 b s w.2) in
    (sym v.2 ∙ ap (λ t. t ++ codes "\n") cut.0 ∙ w.2, cut.1)

first_feed : (x r : List ℕ) → HasNo 10 x → first_line (x ++ 10 ∷ r) ≡ x ++ codes "\n"
first_feed [] r h = refl
first_feed (b ∷ bs) r h = go (eqb b 10) (Decides-eqb b 10).0 (first_feed bs r h.1)
  where
    go : (t : Bool) → (t ≡ true → b ≡ 10) → first_line (bs ++ 10 ∷ r) ≡ bs ++ codes "\n" → (if t then b ∷ [] else b ∷ first_line (bs ++ 10 ∷ r)) ≡ b ∷ (bs ++ codes "\n")
    go true is all = absurd (h.0 (is refl))
    go false is all = ap (λ t. b ∷ t) all

first_whole : (a r : List ℕ) → IsWholeLine a → first_line (a ++ r) ≡ a
first_whole a r v = ap first_line (behind_feed v.0 a r v.2) ∙ first_feed v.0 r v.1 ∙ v.2

pub not_empty : (a r : List ℕ) → IsWholeLine a → a ++ r ≡ [] → ⊥
not_empty a r v e =
    let none : v.0 ++ 10 ∷ r ≡ [] = sym (behind_feed v.0 a r v.2) ∙ e in
    let size = length-append v.0 (10 ∷ r) in
    let zero_long : length (v.0 ++ 10 ∷ r) ≡ 0 = ap length none in
    omega (arith, size, zero_long)

-- whole lines with which others begin are the first of them
first_lines : (bs ls : List (List ℕ)) (rest : List ℕ) → AllByRecursion IsWholeLine bs → AllByRecursion IsWholeLine ls → joined_lines bs ++ rest ≡ joined_lines ls
    → (more : List (List ℕ)) × (ls ≡ bs ++ more) × (rest ≡ joined_lines more) × AllByRecursion IsWholeLine more
first_lines [] ls rest v w e = (ls, refl, e, w)
first_lines (b ∷ bs) [] rest v w e = absurd (not_empty b (joined_lines bs ++ rest) v.0 (sym (append_assoc b (joined_lines bs) rest) ∙ e))
first_lines (b ∷ bs) (l ∷ ls) rest v w e =
    let one = whole_first b l (joined_lines bs ++ rest) (joined_lines ls) v.0 w.0 (sym (append_assoc b (joined_lines bs) rest) ∙ e) in
    let more = first_lines bs ls rest v.1 w.1 one.1 in
    (more.0, (λ i. sym one.0 i ∷ more.1 i), more.2, more.3)

-- ---- lines in their places

stand_both : (n : ℕ) (d e f : Due) (xs ys : List (List ℕ)) → Stand n d xs e → Stand n e ys f → Stand n d (xs ++ ys) f
stand_both n d e f [] ys s t = subst (λ x. Stand n x ys f) (sym s) t
stand_both n d e f (x ∷ xs) ys s t = (s.0, stand_both n (due_behind n d x) e f xs ys s.1 t)

stand_rest : (n : ℕ) (d e f : Due) (xs ys : List (List ℕ)) → Stand n d xs e → Stand n d (xs ++ ys) f → Stand n e ys f
stand_rest n d e f [] ys s t = subst (λ x. Stand n x ys f) s t
stand_rest n d e f (x ∷ xs) ys s t = stand_rest n (due_behind n d x) e f xs ys s.1 t.1

front_stands : (b : Bool) (n j : ℕ) (ns : List (List ℕ)) (is : List Instr) → AllByRecursion (λ i. (is_in_head (opcode_of i) ≡ b) × FitsInstr i) is → AllByRecursion (λ i. opcode_of i ≡ opcode_of (last_of b) → ⊥) is
    → AllByRecursion (HasPlainLine ns) is → Stand n (due_in b j) (map (line ns) is) (due_in b j)
front_stands b n j ns [] of others plain = refl
front_stands b n j ns (i ∷ is) of others plain = (
  stands_in b j (line ns i) (record { instr = i; names = ns; short = plain.0.0; fits = of.0.1; part = of.0.0; is = refl }),
  subst (λ d. Stand n d (map (line ns) is) (due_in b j)) (sym (stays b n j ns i others.0)) (front_stands b n j ns is of.1 others.1 plain.1),
)

last_is_line : (b : Bool) (ns : List (List ℕ)) → IsLine b (line ns (last_of b))
last_is_line true ns = record { instr = last_of true; names = ns; short = tt; fits = record { first = operand.Number 0; second = operand.Number 0; third = operand.Number 0; parts = []; fits = record { first = tt; second = tt; third = tt; few = λ e. refl; parts = tt }; are = refl }; part = refl; is = refl }
last_is_line false ns = record { instr = last_of false; names = ns; short = tt; fits = record { first = operand.Number 0; second = operand.Number 0; third = operand.Number 0; parts = []; fits = record { first = tt; second = tt; third = tt; few = λ e. refl; parts = tt }; are = refl }; part = refl; is = refl }

all_front : (P : Instr → Type 0) (xs : List Instr) (y : Instr) → AllByRecursion P (xs ++ y ∷ []) → AllByRecursion P xs
all_front P [] y h = tt
all_front P (x ∷ xs) y h = (h.0, all_front P xs y h.1)

block_stands : (b : Bool) (n j : ℕ) (ns : List (List ℕ)) (is : List Instr) → IsBlock b (last_of b) is → AllByRecursion (HasPlainLine ns) is → Stand n (due_in b j) (map (line ns) is) (due_out n b j)
block_stands b n j ns is block plain =
    let whole : map (line ns) is ≡ map (line ns) block.front ++ line ns (last_of b) ∷ [] = ap (map (line ns)) block.are ∙ map_append (line ns) block.front (last_of b ∷ []) in
    subst (λ ls. Stand n (due_in b j) ls (due_out n b j)) (sym whole)
    (stand_both n (due_in b j) (due_in b j) (due_out n b j) (map (line ns) block.front) (line ns (last_of b) ∷ [])
    (front_stands b n j ns block.front block.of block.others (all_front (HasPlainLine ns) block.front (last_of b) (subst (AllByRecursion (HasPlainLine ns)) block.are plain)))
    (stands_in b j _ (last_is_line b ns), goes_out b n j ns))

-- ---- the lines of listings

-- the lines of the listings of codes, of which the first has this number
abbrev pub all_lines : List (List ℕ) → ℕ → List Code → List (List ℕ)
all_lines ns k [] = []
all_lines ns k (c ∷ cs) = rule_line k ∷ (map (line ns) c.head ++ (map (line ns) c.body ++ all_lines ns (k + 1) cs))

pub joined_both : (xs ys : List (List ℕ)) → joined_lines (xs ++ ys) ≡ joined_lines xs ++ joined_lines ys
joined_both [] ys = refl
joined_both (x ∷ xs) ys = ap (λ t. x ++ t) (joined_both xs ys) ∙ sym (append_assoc x (joined_lines xs) (joined_lines ys))

pub joined_map : (ns : List (List ℕ)) (is : List Instr) → joined_lines (map (line ns) is) ≡ flat_map (line ns) is
joined_map ns [] = refl
joined_map ns (i ∷ is) = ap (λ t. line ns i ++ t) (joined_map ns is)

-- listings are the lines of their codes, joined,
pub text_is : (ns : List (List ℕ)) (k : ℕ) (cs : List Code) → listings_from ns k cs ≡ joined_lines (all_lines ns k cs)
text_is ns k [] = refl
text_is ns k (c ∷ cs) =
    let heads = flat_map (line ns) c.head in
    let bodies = flat_map (line ns) c.body in
    let rest = joined_lines (all_lines ns (k + 1) cs) in
    let inner : joined_lines (map (line ns) c.head ++ (map (line ns) c.body ++ all_lines ns (k + 1) cs)) ≡ heads ++ (bodies ++ rest) =
    joined_both (map (line ns) c.head) (map (line ns) c.body ++ all_lines ns (k + 1) cs) ∙ (λ i. joined_map ns c.head i ++ (joined_both (map (line ns) c.body) (all_lines ns (k + 1) cs) ∙ ap (λ t. t ++ rest) (joined_map ns c.body)) i) in
    ap (λ t. code_listing ns c k ++ t) (text_is ns (k + 1) cs)
    ∙ ap (λ t. codes "rule " ++ t) (append_assoc (decimal k) (codes "\n" ++ (heads ++ bodies)) rest ∙ ap (λ t. decimal k ++ 10 ∷ t) (append_assoc heads bodies rest ∙ sym inner) ∙ sym (append_assoc (decimal k) (codes "\n") _))

pub lines_whole : (ns : List (List ℕ)) (is : List Instr) → AllByRecursion (HasPlainLine ns) is → AllByRecursion IsWholeLine (map (line ns) is)
lines_whole ns [] h = tt
lines_whole ns (i ∷ is) h = (h.0.1, lines_whole ns is h.1)

rule_whole : (k : ℕ) → k < 2 ^ 64 → IsWholeLine (rule_line k)
rule_whole k l = (
  codes "rule " ++ decimal k,
  (no_feed 114 (omega arith), (no_feed 117 (omega arith), (no_feed 108 (omega arith), (no_feed 101 (omega arith), (no_feed 32 (omega arith), has_no_decimal 10 k (omega arith) l))))),
  refl,
)

-- and each of these is a whole line
pub all_whole : (ns : List (List ℕ)) (k : ℕ) (cs : List Code) → k + length cs < 2 ^ 64 → AllByRecursion (HasPlainLines ns) cs → AllByRecursion IsWholeLine (all_lines ns k cs)
all_whole ns k [] l h = tt
all_whole ns k (c ∷ cs) l h = (
  rule_whole k (omega (arith, l)),
  all_append IsWholeLine (map (line ns) c.head) _ (lines_whole ns c.head h.0.0)
      (all_append IsWholeLine (map (line ns) c.body) _ (lines_whole ns c.body h.0.1) (all_whole ns (k + 1) cs (omega (arith, l)) h.1)),
)

all_stand : (n : ℕ) (ns : List (List ℕ)) (k : ℕ) (cs : List Code) → k + length cs ≡ n → AllByRecursion IsWholeCode cs → AllByRecursion (HasPlainLines ns) cs → Stand n (due_rule n k) (all_lines ns k cs) nothing
all_stand n ns k [] e w h = let same : k ≡ n = omega (arith, e) in ap (due_rule n) same ∙ due_none n
all_stand n ns k (c ∷ cs) e w h =
    let below : k < n = omega (arith, e) in
    subst (λ d. Stand n d (all_lines ns k (c ∷ cs)) nothing) (sym (due_here n k below)) (
      refl,
      stand_both n (due_in true k) (due_out n true k) nothing (map (line ns) c.head) _ (block_stands true n k ns c.head w.0.0 h.0.0)
          (stand_both n (due_in false k) (due_out n false k) nothing (map (line ns) c.body) (all_lines ns (k + 1) cs) (block_stands false n k ns c.body w.0.1 h.0.1)
          (all_stand n ns (k + 1) cs (omega (arith, e)) w.1 h.1)),
    )

pub listed_lines_stand : ListedLinesStand
listed_lines_stand n ns cs text k small l w =
    let many = l.many in
    let p = first_lines w.before (all_lines ns 0 cs) w.rest w.whole (all_whole ns 0 cs (omega (arith, many, small)) l.plain) (w.cut ∙ sym l.are ∙ text_is ns 0 cs) in
    go p.0 (stand_rest n (due_rule n 0) w.due nothing w.before p.0 w.stand (subst (λ x. Stand n (due_rule n 0) x nothing) p.1 (all_stand n ns 0 cs (omega (arith, many)) l.whole l.plain))) p.2 p.3
  where
    go : (more : List (List ℕ)) → Stand n w.due more nothing → w.rest ≡ joined_lines more → AllByRecursion IsWholeLine more → ⊥
    go [] s r v = w.more s r
    go (m ∷ ms) s r v = w.wrong (subst (StandsAs w.due) (sym (ap first_line r ∙ first_whole m (joined_lines ms) v.0)) s.0)

-- ---- one wrong line

-- Of two ways in which a text begins with whole lines one has all lines of the other first.
fronts : (bs cs : List (List ℕ)) (r s : List ℕ) → AllByRecursion IsWholeLine bs → AllByRecursion IsWholeLine cs → joined_lines bs ++ r ≡ joined_lines cs ++ s
    → ((more : List (List ℕ)) × (cs ≡ bs ++ more) × (r ≡ joined_lines more ++ s) × AllByRecursion IsWholeLine more)
    ⊎ ((more : List (List ℕ)) × (bs ≡ cs ++ more) × (s ≡ joined_lines more ++ r) × AllByRecursion IsWholeLine more)
fronts [] cs r s v w e = inl (cs, refl, e, w)
fronts (b ∷ bs) [] r s v w e = inr (b ∷ bs, refl, sym e, v)
fronts (b ∷ bs) (c ∷ cs) r s v w e = go (fronts bs cs r s v.1 w.1 one.1)
  where
    one : (b ≡ c) × (joined_lines bs ++ r ≡ joined_lines cs ++ s)
    one = whole_first b c (joined_lines bs ++ r) (joined_lines cs ++ s) v.0 w.0 (sym (append_assoc b (joined_lines bs) r) ∙ e ∙ append_assoc c (joined_lines cs) s)

    go : ((more : List (List ℕ)) × (cs ≡ bs ++ more) × (r ≡ joined_lines more ++ s) × AllByRecursion IsWholeLine more) ⊎ ((more : List (List ℕ)) × (bs ≡ cs ++ more) × (s ≡ joined_lines more ++ r) × AllByRecursion IsWholeLine more)
        → ((more : List (List ℕ)) × (c ∷ cs ≡ (b ∷ bs) ++ more) × (r ≡ joined_lines more ++ s) × AllByRecursion IsWholeLine more) ⊎ ((more : List (List ℕ)) × (b ∷ bs ≡ (c ∷ cs) ++ more) × (s ≡ joined_lines more ++ r) × AllByRecursion IsWholeLine more)
    go (inl h) = inl (h.0, (λ i. sym one.0 i ∷ h.1 i), h.2, h.3)
    go (inr h) = inr (h.0, (λ i. one.0 i ∷ h.1 i), h.2, h.3)

-- behind a wrong line no further line stands in its place
none_behind : (n : ℕ) (text : List ℕ) (j k : ℕ) (v : IsWrongLine n text j) (w : IsWrongLine n text k) (more : List (List ℕ)) → w.before ≡ v.before ++ more → v.rest ≡ joined_lines more ++ w.rest → AllByRecursion IsWholeLine more → more ≡ []
none_behind n text j k v w [] e r h = refl
none_behind n text j k v w (m ∷ ms) e r h =
    let s = stand_rest n (due_rule n 0) v.due w.due v.before (m ∷ ms) v.stand (subst (λ x. Stand n (due_rule n 0) x w.due) e w.stand) in
    absurd (v.wrong (subst (StandsAs v.due) (sym (ap first_line (r ∙ append_assoc m (joined_lines ms) w.rest) ∙ first_whole m (joined_lines ms ++ w.rest) h.0)) s.0))

same_number : (bs cs more : List (List ℕ)) (j k : ℕ) → cs ≡ bs ++ more → more ≡ [] → j ≡ length bs + 1 → k ≡ length cs + 1 → j ≡ k
same_number bs cs more j k e none f g =
    let size : length cs ≡ length bs = ap length (e ∙ ap (λ t. bs ++ t) none ∙ append-nil bs) in
    omega (arith, size, f, g)

pub wrong_line_is_one : WrongLineIsOne
wrong_line_is_one n text j k v w = go (fronts v.before w.before v.rest w.rest v.whole w.whole (v.cut ∙ sym w.cut))
  where
    go : ((more : List (List ℕ)) × (w.before ≡ v.before ++ more) × (v.rest ≡ joined_lines more ++ w.rest) × AllByRecursion IsWholeLine more)
        ⊎ ((more : List (List ℕ)) × (v.before ≡ w.before ++ more) × (w.rest ≡ joined_lines more ++ v.rest) × AllByRecursion IsWholeLine more) → j ≡ k
    go (inl h) = same_number v.before w.before h.0 j k h.1 (none_behind n text j k v w h.0 h.1 h.2 h.3) v.number w.number
    go (inr h) = sym (same_number w.before v.before h.0 k j h.1 (none_behind n text k j w v h.0 h.1 h.2 h.3) w.number v.number)
