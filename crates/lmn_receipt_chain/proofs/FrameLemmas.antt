-- What a firing leaves of a line as it was: what stands outside of the membrane in which it fires, but for digits.
use Rattle.std.proofs.Common.{ℕ, suc, ◌≡◌, ◌∙◌, ◌+◌, ◌<◌, ◌≤◌, ◌%◌, ◌⊎◌, inl, inr, Bool, true, false, not, List, [], ◌∷◌, ◌++◌, codes, drop, length, map, reverse, take, refl, sym, ap, subst, arith, append_assoc, length-append}
use Rattle.std.specs.Char.{is_ascii_digit}
use Rattle.std.specs.Prelude.{cond, ◌==◌, if◌then◌else◌}
use Rattle.std.proofs.lemmas.Grind.{reverse_onto}
use Rattle.std.proofs.lemmas.List.{append-nil, length-map, reverse-append, take-append-drop}
use Rattle.std.proofs.lemmas.List.Elements.{filter-append}
use Rattle.std.proofs.Math.Seq.{drop-append_seam, take-append_seam}
use Rattle.lmn_base.proofs.Lists.{head_is, length_mapped, tail_is}
use Rattle.lmn_base.proofs.Numbers.{equal_itself, no_more, none_more}
use Rattle.lmn_congruence.specs.Plains.{fused_leaves, fused_level, fused_levels}
use Rattle.lmn_congruence.specs.Regions.{Region, Regions, SolidAtom, no_region, region, region_and}
use Rattle.lmn_congruence.specs.Rules.{Level, Rule, level, rules_list}
use Rattle.lmn_congruence.specs.Translation.{levels, rules as listed_rules}
use Rattle.lmn_congruence.proofs.Common.{rules_listed}
use Rattle.lmn_congruence_splice.specs.Splice.{of_solid}
use Rattle.lmn_lexer.specs.declared.token.Kind.TheVariants as kind
use Rattle.lmn_flatten_plain.specs.Numerals.{numeral}
use Rattle.lmn_flatten_plain.specs.SolidLines.{as_level, as_levels, atom_as_leaf}
use Rattle.lmn_flatten_plain.specs.Words.{Piece, label_piece, leaf_pieces, level_pieces, levels_pieces, link_name, link_piece, links_pieces, piece_text, rules_pieces, space, text_of, with_commas, with_full_stops, word}
use Rattle.lmn_flatten_plain.proofs.Decimals.{digit_passes, numeral_by_steps}
use Rattle.lmn_flatten_plain.proofs.LaidLines.{text_append}
use Rattle.lmn_adequacy.specs.Choice.{NextFrom, paths, paths_from}
use Rattle.lmn_adequacy.specs.Embedding.{TakenRegion, region_first, region_later}
use Rattle.lmn_adequacy.specs.Next.{NextAt, RawAt, fires_below, fires_here, kept_atoms, kept_level, kept_membranes, replaced}
use Rattle.lmn_receipt_chain.specs.Alike.{alike, blurred, times}
use Rattle.lmn_receipt_chain.specs.Chains.{line_of_solid}

-- items without digits, each for itself
abbrev blurred_each : List (List Piece) → List (List ℕ)
blurred_each items = map (λ i. blurred (text_of i)) items

abbrev atom_texts : List SolidAtom → List (List ℕ)
atom_texts xs = blurred_each (map leaf_pieces (map atom_as_leaf xs))

abbrev membrane_texts : Regions → List (List ℕ)
membrane_texts ms = blurred_each (levels_pieces (as_levels ms))

abbrev rule_texts : List Rule → List (List ℕ)
rule_texts rs = blurred_each (rules_pieces (listed_rules rs))

-- what is written between the braces of a membrane
abbrev inside_of : Region → List ℕ
inside_of S = blurred (text_of (with_commas (level_pieces (as_level S))))

-- items before another one, and behind it, with what stands between two
abbrev in_front : List ℕ → List (List ℕ) → List ℕ
in_front between [] = []
in_front between (x ∷ xs) = x ++ (between ++ in_front between xs)

abbrev behind : List ℕ → List (List ℕ) → List ℕ
behind between [] = []
behind between (x ∷ xs) = between ++ (x ++ behind between xs)

-- what stands in a region before and behind what is in the membrane at the end of a path,
data Frame : List ℕ → Region → List ℕ → List ℕ → Type 0 where
  frame_here : {S : Region} → Frame [] S [] []
  frame_below : {n : ℕ} {path : List ℕ} {m : Region} {xs : List SolidAtom} {ms ms' : Regions} {rs : List Rule} {before after : List ℕ} →
      TakenRegion n m ms ms' → Frame path m before after →
      Frame (n ∷ path) (region xs ms rs)
      (in_front (codes ", ") (atom_texts xs ++ take n (membrane_texts ms)) ++ (codes "{" ++ before))
      (after ++ (codes "}" ++ behind (codes ", ") (drop (suc n) (membrane_texts ms) ++ rule_texts rs)))

-- and what stands there in the line of a solid
data LineFrame : List ℕ → Region → List ℕ → List ℕ → Type 0 where
  line_here : {S : Region} → LineFrame [] S [] []
  line_below : {n : ℕ} {path : List ℕ} {m : Region} {xs : List SolidAtom} {ms ms' : Regions} {rs : List Rule} {before after : List ℕ} →
      TakenRegion n m ms ms' → Frame path m before after →
      LineFrame (n ∷ path) (region xs ms rs)
      (in_front (codes ". ") (atom_texts xs ++ take n (membrane_texts ms)) ++ (codes "{" ++ before))
      (after ++ (codes "}" ++ (behind (codes ". ") (drop (suc n) (membrane_texts ms) ++ rule_texts rs) ++ codes ".\n")))

abbrev lasts : ℕ → Bool
lasts b = not (is_ascii_digit b)

abbrev text : List Piece → List ℕ
text ps = blurred (text_of ps)

blurred_both : (xs ys : List ℕ) → blurred (xs ++ ys) ≡ blurred xs ++ blurred ys
blurred_both xs ys = filter-append lasts xs ys

text_both : (ps qs : List Piece) → text (ps ++ qs) ≡ text ps ++ text qs
text_both ps qs = ap blurred (text_append ps qs) ∙ blurred_both (text_of ps) (text_of qs)

-- ---- links

digit_goes : (n : ℕ) → n < 10 → blurred ((48 + n) ∷ []) ≡ []
digit_goes n h = by (is_ascii_digit (48 + n)) (digit_passes n h)
  where
    by : (b : Bool) → b ≡ true → cond (not b) ((48 + n) ∷ []) [] ≡ []
    by true e = refl
    by false e = absurd (cc)

numeral_goes : (n : ℕ) → blurred (numeral n) ≡ []
numeral_goes n =
    numeral_by_steps (λ m ds. blurred ds ≡ []) digit_goes
    (λ m ds l h. blurred_both ds ((48 + m % 10) ∷ []) ∙ ap (λ z. z ++ blurred ((48 + m % 10) ∷ [])) h ∙ digit_goes (m % 10) (omega arith)) n

link_text : (x : ℕ) → text (link_piece x ∷ []) ≡ codes "L"
link_text x = blurred_both (link_name x) [] ∙ ap (λ z. (76 ∷ z) ++ []) (numeral_goes x)

abbrev each_link : List ℕ → List (List Piece)
each_link xs = map (λ y. link_piece y ∷ []) xs

commas_same : (xs ys : List ℕ) → length xs ≡ length ys → text (with_commas (each_link xs)) ≡ text (with_commas (each_link ys))
commas_same [] [] e = refl
commas_same [] (y ∷ ys) e = absurd (omega (arith, e))
commas_same (x ∷ xs) [] e = absurd (omega (arith, e))
commas_same (x ∷ []) (y ∷ []) e = link_text x ∙ sym (link_text y)
commas_same (x ∷ []) (y ∷ z ∷ ys) e = absurd (omega (arith, e))
commas_same (x ∷ z ∷ xs) (y ∷ []) e = absurd (omega (arith, e))
commas_same (x ∷ u ∷ xs) (y ∷ w ∷ ys) e =
    first x (with_commas (each_link (u ∷ xs))) ∙ ap (λ z. codes "L, " ++ z) (commas_same (u ∷ xs) (w ∷ ys) (omega (arith, e))) ∙ sym (first y (with_commas (each_link (w ∷ ys))))
  where
    first : (x : ℕ) (ps : List Piece) → text ((link_piece x ∷ []) ++ ((word kind.Comma (codes ",") ∷ space ∷ []) ++ ps)) ≡ codes "L, " ++ text ps
    first x ps = text_both (link_piece x ∷ []) ((word kind.Comma (codes ",") ∷ space ∷ []) ++ ps) ∙ ap (λ z. z ++ text ((word kind.Comma (codes ",") ∷ space ∷ []) ++ ps)) (link_text x)

links_same : (xs ys : List ℕ) → length xs ≡ length ys → text (links_pieces xs) ≡ text (links_pieces ys)
links_same [] [] e = refl
links_same [] (y ∷ ys) e = absurd (omega (arith, e))
links_same (x ∷ xs) [] e = absurd (omega (arith, e))
links_same (x ∷ xs) (y ∷ ys) e =
    around (with_commas (each_link (x ∷ xs))) ∙ ap (λ z. codes "(" ++ (z ++ codes ")")) (commas_same (x ∷ xs) (y ∷ ys) e) ∙ sym (around (with_commas (each_link (y ∷ ys))))
  where
    around : (ps : List Piece) → text (word kind.LParen (codes "(") ∷ (ps ++ word kind.RParen (codes ")") ∷ [])) ≡ codes "(" ++ (text ps ++ codes ")")
    around ps = ap (λ z. codes "(" ++ z) (text_both ps (word kind.RParen (codes ")") ∷ []))

-- ---- what stays

each_both : (ps qs : List (List Piece)) → blurred_each (ps ++ qs) ≡ blurred_each ps ++ blurred_each qs
each_both [] qs = refl
each_both (p ∷ ps) qs = ap (λ z. text p ∷ z) (each_both ps qs)

module _ (v : ℕ → ℕ) where
  atoms_same : (xs : List SolidAtom) → atom_texts (fused_leaves v (kept_atoms xs)) ≡ atom_texts xs
  atoms_same [] = refl
  atoms_same (x ∷ xs) =
      let ys = map v (map of_solid x.links) in
      let many : length ys ≡ length x.links = length_mapped v (map of_solid x.links) ∙ length_mapped of_solid x.links in
      let label = piece_text (label_piece x.label) in
      let one : text (label_piece x.label ∷ links_pieces ys) ≡ text (label_piece x.label ∷ links_pieces x.links) =
      blurred_both label (text_of (links_pieces ys)) ∙ ap (λ z. blurred label ++ z) (links_same ys x.links many) ∙ sym (blurred_both label (text_of (links_pieces x.links))) in
      (λ i. one i ∷ atoms_same xs i)

-- the items of a region
abbrev all_texts : List SolidAtom → List (List ℕ) → List Rule → List (List ℕ)
all_texts xs ms rs = atom_texts xs ++ (ms ++ rule_texts rs)

items_are : (xs : List SolidAtom) (ms : Regions) (rs : List Rule) → blurred_each (level_pieces (as_level (region xs ms rs))) ≡ all_texts xs (membrane_texts ms) rs
items_are xs ms rs =
    let atoms = map leaf_pieces (map atom_as_leaf xs) in
    let membranes = levels_pieces (as_levels ms) in
    let rules = rules_pieces (listed_rules rs) in
    each_both atoms (membranes ++ rules) ∙ ap (λ z. blurred_each atoms ++ z) (each_both membranes rules)

-- items in a row, with what stands between two
abbrev row : List ℕ → List (List ℕ) → List ℕ
row between [] = []
row between (x ∷ []) = x
row between (x ∷ y ∷ xs) = x ++ (between ++ row between (y ∷ xs))

row_of : (pss : List (List Piece)) → text (with_commas pss) ≡ row (codes ", ") (blurred_each pss)
row_of [] = refl
row_of (p ∷ []) = refl
row_of (p ∷ q ∷ ps) =
    text_both p ((word kind.Comma (codes ",") ∷ space ∷ []) ++ with_commas (q ∷ ps)) ∙ ap (λ z. text p ++ (codes ", " ++ z)) (row_of (q ∷ ps))

-- a full stop stands behind each item of the root
row_of_stops : (p : List Piece) (ps : List (List Piece)) → text (with_full_stops (p ∷ ps)) ≡ row (codes ". ") (blurred_each (p ∷ ps)) ++ codes "."
row_of_stops p [] = text_both p (word kind.Dot (codes ".") ∷ [])
row_of_stops p (q ∷ ps) =
    let rest = row (codes ". ") (blurred_each (q ∷ ps)) in
    text_both (p ++ word kind.Dot (codes ".") ∷ []) ((space ∷ []) ++ with_full_stops (q ∷ ps))
    ∙ (λ i. text_both p (word kind.Dot (codes ".") ∷ []) i ++ (codes " " ++ row_of_stops q ps i))
    ∙ append_assoc (text p) (codes ".") (codes " " ++ (rest ++ codes "."))
    ∙ sym (append_assoc (text p) (codes ". " ++ rest) (codes "."))

no_item : (as' : List (List ℕ)) (x : List ℕ) (bs : List (List ℕ)) → length (as' ++ x ∷ bs) ≡ 0 → ⊥
no_item [] x bs e = absurd (omega (arith, e))
no_item (a ∷ as') x bs e = absurd (omega (arith, e))

stops_row : (pss : List (List Piece)) (as' : List (List ℕ)) (x : List ℕ) (bs : List (List ℕ)) → blurred_each pss ≡ as' ++ x ∷ bs → text (with_full_stops pss) ≡ row (codes ". ") (as' ++ x ∷ bs) ++ codes "."
stops_row [] as' x bs e = absurd (no_item as' x bs (sym (ap length e)))
stops_row (p ∷ ps) as' x bs e = row_of_stops p ps ∙ ap (λ z. row (codes ". ") z ++ codes ".") e

module _ (between : List ℕ) where
  row_from : (x : List ℕ) (xs : List (List ℕ)) → row between (x ∷ xs) ≡ x ++ behind between xs
  row_from x [] = sym (append-nil x)
  row_from x (y ∷ ys) = ap (λ z. x ++ (between ++ z)) (row_from y ys)

  further : (a rest more : List ℕ) → a ++ (between ++ (rest ++ more)) ≡ (a ++ (between ++ rest)) ++ more
  further a rest more = ap (λ z. a ++ z) (sym (append_assoc between rest more)) ∙ sym (append_assoc a (between ++ rest) more)

  row_at : (as' : List (List ℕ)) (x : List ℕ) (bs : List (List ℕ)) → row between (as' ++ x ∷ bs) ≡ in_front between as' ++ (x ++ behind between bs)
  row_at [] x bs = row_from x bs
  row_at (a ∷ []) x bs = ap (λ z. a ++ (between ++ z)) (row_from x bs) ∙ further a [] (x ++ behind between bs)
  row_at (a ∷ b ∷ as') x bs = ap (λ z. a ++ (between ++ z)) (row_at (b ∷ as') x bs) ∙ further a (in_front between (b ∷ as')) (x ++ behind between bs)

-- a membrane with its braces
abbrev braced : List ℕ → List ℕ
braced inside = codes "{" ++ (inside ++ codes "}")

membrane_text : (S : Region) → text (word kind.LBrace (codes "{") ∷ (with_commas (level_pieces (as_level S)) ++ word kind.RBrace (codes "}") ∷ [])) ≡ braced (inside_of S)
membrane_text S = ap (λ z. codes "{" ++ z) (text_both (with_commas (level_pieces (as_level S))) (word kind.RBrace (codes "}") ∷ []))

inside_is : (xs : List SolidAtom) (ms : Regions) (rs : List Rule) → inside_of (region xs ms rs) ≡ row (codes ", ") (all_texts xs (membrane_texts ms) rs)
inside_is xs ms rs = row_of (level_pieces (as_level (region xs ms rs))) ∙ ap (row (codes ", ")) (items_are xs ms rs)

module _ (v : ℕ → ℕ) where
  mutual
    inside_same : (S : Region) → inside_of (fused_level v (kept_level S)) ≡ inside_of S
    inside_same (region xs ms rs) =
        inside_is (fused_leaves v (kept_atoms xs)) (fused_levels v (levels (kept_membranes ms))) (rules_list (listed_rules rs))
        ∙ (λ i. row (codes ", ") (atoms_same v xs i ++ (membranes_same ms i ++ rule_texts (rules_listed rs i))))
        ∙ sym (inside_is xs ms rs)

    membranes_same : (ms : Regions) → membrane_texts (fused_levels v (levels (kept_membranes ms))) ≡ membrane_texts ms
    membranes_same no_region = refl
    membranes_same (region_and m ms) =
        let one = membrane_text (fused_level v (kept_level m)) ∙ ap braced (inside_same m) ∙ sym (membrane_text m) in
        (λ i. one i ∷ membranes_same ms i)

  -- membranes of which one is another one
  replaced_texts : {n : ℕ} {m : Region} {ms ms' : Regions} → TakenRegion n m ms ms' → (L : Level) →
      membrane_texts (fused_levels v (levels (replaced n L (kept_membranes ms)))) ≡ take n (membrane_texts ms) ++ braced (inside_of (fused_level v L)) ∷ drop (suc n) (membrane_texts ms)
  replaced_texts (region_first {ms = ms}) L =
      let one = membrane_text (fused_level v L) in
      (λ i. one i ∷ membranes_same ms i)
  replaced_texts (region_later {k = k} t) L =
      let one = membrane_text (fused_level v (kept_level k)) ∙ ap braced (inside_same k) ∙ sym (membrane_text k) in
      (λ i. one i ∷ replaced_texts t L i)

taken_same : {n : ℕ} {m k : Region} {ms ns os : Regions} → TakenRegion n m ms ns → TakenRegion n k ms os → m ≡ k
taken_same region_first region_first = refl
taken_same (region_later t) (region_later u) = taken_same t u

-- ---- a firing

-- what stands round a part of a part
around : (before new after front back : List ℕ) → front ++ (braced (before ++ (new ++ after)) ++ back) ≡ (front ++ (codes "{" ++ before)) ++ (new ++ (after ++ (codes "}" ++ back)))
around before new after front back =
    ap (λ z. front ++ (123 ∷ z)) (append_assoc (before ++ (new ++ after)) (codes "}") back ∙ append_assoc before (new ++ after) (125 ∷ back) ∙ ap (λ z. before ++ z) (append_assoc new after (125 ∷ back)))
    ∙ sym (append_assoc front (codes "{" ++ before) (new ++ (after ++ (codes "}" ++ back))))

-- the items of a region, before and behind a membrane
all_at : (xs : List SolidAtom) (n : ℕ) (texts : List (List ℕ)) (x : List ℕ) (rs : List Rule) →
    all_texts xs (take n texts ++ x ∷ drop (suc n) texts) rs ≡ (atom_texts xs ++ take n texts) ++ x ∷ (drop (suc n) texts ++ rule_texts rs)
all_at xs n texts x rs =
    ap (λ z. atom_texts xs ++ z) (assoc (take n texts) (x ∷ drop (suc n) texts) (rule_texts rs))
    ∙ sym (assoc (atom_texts xs) (take n texts) (x ∷ (drop (suc n) texts ++ rule_texts rs)))
  where
    assoc : (xs ys zs : List (List ℕ)) → (xs ++ ys) ++ zs ≡ xs ++ (ys ++ zs)
    assoc xs ys zs = append_assoc xs ys zs

framed : (v : ℕ → ℕ) {path : List ℕ} {k : ℕ} {f : List ℕ} {S : Region} {L : Level} {before after : List ℕ} → RawAt path k f S L → Frame path S before after → (new : List ℕ) × (inside_of (fused_level v L) ≡ before ++ (new ++ after))
framed v {L = L} (fires_here t fires) frame_here = (inside_of (fused_level v L), sym (append-nil (inside_of (fused_level v L))))
framed v (fires_below {n = n} {xs = xs} {ms = ms} {rs = rs} {L = L} t raw) (frame_below {path = path} {before = before} {after = after} u frame) =
    let inner = framed v raw (subst (λ z. Frame path z before after) (sym (taken_same t u)) frame) in
    let front = in_front (codes ", ") (atom_texts xs ++ take n (membrane_texts ms)) in
    let back = behind (codes ", ") (drop (suc n) (membrane_texts ms) ++ rule_texts rs) in
    let texts = replaced_texts v t L ∙ ap (λ z. take n (membrane_texts ms) ++ braced z ∷ drop (suc n) (membrane_texts ms)) inner.1 in (
      inner.0,
      inside_is (fused_leaves v (kept_atoms xs)) (fused_levels v (levels (replaced n L (kept_membranes ms)))) (rules_list (listed_rules rs))
          ∙ (λ i. row (codes ", ") (atoms_same v xs i ++ (texts i ++ rule_texts (rules_listed rs i))))
          ∙ ap (row (codes ", ")) (all_at xs n (membrane_texts ms) (braced (before ++ (inner.0 ++ after))) rs)
          ∙ row_at (codes ", ") (atom_texts xs ++ take n (membrane_texts ms)) (braced (before ++ (inner.0 ++ after))) (drop (suc n) (membrane_texts ms) ++ rule_texts rs)
          ∙ around before inner.0 after front back,
    )

-- the line of a solid, before and behind one of its items
line_at : (S : Region) (as' : List (List ℕ)) (x : List ℕ) (bs : List (List ℕ)) → blurred_each (level_pieces (as_level S)) ≡ as' ++ x ∷ bs →
    blurred (line_of_solid S) ≡ in_front (codes ". ") as' ++ (x ++ (behind (codes ". ") bs ++ codes ".\n"))
line_at S as' x bs all =
    let items = level_pieces (as_level S) in
    blurred_both (text_of (with_full_stops items)) (codes "\n")
    ∙ ap (λ z. z ++ codes "\n") (stops_row items as' x bs all ∙ ap (λ z. z ++ codes ".") (row_at (codes ". ") as' x bs))
    ∙ ended (in_front (codes ". ") as') x (behind (codes ". ") bs)
  where
    ended : (front x back : List ℕ) → ((front ++ (x ++ back)) ++ codes ".") ++ codes "\n" ≡ front ++ (x ++ (back ++ codes ".\n"))
    ended front x back =
        append_assoc (front ++ (x ++ back)) (codes ".") (codes "\n") ∙ append_assoc front (x ++ back) (codes ".\n") ∙ ap (λ z. front ++ z) (append_assoc x back (codes ".\n"))

-- the line of a solid after a firing
line_framed : (v : ℕ → ℕ) {path : List ℕ} {k : ℕ} {f : List ℕ} {S : Region} {L : Level} {before after : List ℕ} → RawAt path k f S L → LineFrame path S before after →
    (new : List ℕ) × (blurred (line_of_solid (fused_level v L)) ≡ before ++ (new ++ after))
line_framed v {L = L} (fires_here t fires) line_here = (blurred (line_of_solid (fused_level v L)), sym (append-nil (blurred (line_of_solid (fused_level v L)))))
line_framed v (fires_below {n = n} {xs = xs} {ms = ms} {rs = rs} {L = L} t raw) (line_below {path = path} {before = before} {after = after} u frame) =
    let inner = framed v raw (subst (λ z. Frame path z before after) (sym (taken_same t u)) frame) in
    let as' = atom_texts xs ++ take n (membrane_texts ms) in
    let bs = drop (suc n) (membrane_texts ms) ++ rule_texts rs in
    let x = braced (before ++ (inner.0 ++ after)) in
    let front = in_front (codes ". ") as' in
    let back = behind (codes ". ") bs in
    let S' = fused_level v (level (kept_atoms xs) (levels (replaced n L (kept_membranes ms))) [] [] (listed_rules rs)) in
    let texts = replaced_texts v t L ∙ ap (λ z. take n (membrane_texts ms) ++ braced z ∷ drop (suc n) (membrane_texts ms)) inner.1 in
    let all : blurred_each (level_pieces (as_level S')) ≡ as' ++ x ∷ bs =
    items_are (fused_leaves v (kept_atoms xs)) (fused_levels v (levels (replaced n L (kept_membranes ms)))) (rules_list (listed_rules rs))
    ∙ (λ i. atoms_same v xs i ++ (texts i ++ rule_texts (rules_listed rs i)))
    ∙ all_at xs n (membrane_texts ms) x rs in (
      inner.0,
      line_at S' as' x bs all ∙ around before inner.0 after front (back ++ codes ".\n"),
    )

-- A firing changes nothing of what stands round the membrane in which it fires.
firings_keep_frames : (path : List ℕ) (k : ℕ) (f : List ℕ) (S S' : Region) (before after : List ℕ) →
    NextAt path k f S S' → LineFrame path S before after → (new : List ℕ) × (blurred (line_of_solid S') ≡ before ++ (new ++ after))
firings_keep_frames path k f S S' before after next frame =
    let it = line_framed next.fuses.to next.fires frame in
    (it.0, ap (λ z. blurred (line_of_solid z)) next.fuses.is ∙ it.1)

-- ---- without a firing

own_texts : {n : ℕ} {m : Region} {ms ms' : Regions} → TakenRegion n m ms ms' → membrane_texts ms ≡ take n (membrane_texts ms) ++ braced (inside_of m) ∷ drop (suc n) (membrane_texts ms)
own_texts (region_first {m = m} {ms = ms}) = ap (λ z. z ∷ membrane_texts ms) (membrane_text m)
own_texts (region_later {k = k} t) = ap (λ z. text (word kind.LBrace (codes "{") ∷ (with_commas (level_pieces (as_level k)) ++ word kind.RBrace (codes "}") ∷ [])) ∷ z) (own_texts t)

own_framed : {path : List ℕ} {S : Region} {before after : List ℕ} → Frame path S before after → (old : List ℕ) × (inside_of S ≡ before ++ (old ++ after))
own_framed (frame_here {S = S}) = (inside_of S, sym (append-nil (inside_of S)))
own_framed (frame_below {n = n} {xs = xs} {ms = ms} {rs = rs} {before = before} {after = after} t frame) =
    let inner = own_framed frame in
    let front = in_front (codes ", ") (atom_texts xs ++ take n (membrane_texts ms)) in
    let back = behind (codes ", ") (drop (suc n) (membrane_texts ms) ++ rule_texts rs) in
    let texts = own_texts t ∙ ap (λ z. take n (membrane_texts ms) ++ braced z ∷ drop (suc n) (membrane_texts ms)) inner.1 in (
      inner.0,
      inside_is xs ms rs
          ∙ (λ i. row (codes ", ") (atom_texts xs ++ (texts i ++ rule_texts rs)))
          ∙ ap (row (codes ", ")) (all_at xs n (membrane_texts ms) (braced (before ++ (inner.0 ++ after))) rs)
          ∙ row_at (codes ", ") (atom_texts xs ++ take n (membrane_texts ms)) (braced (before ++ (inner.0 ++ after))) (drop (suc n) (membrane_texts ms) ++ rule_texts rs)
          ∙ around before inner.0 after front back,
    )

line_is_framed : {path : List ℕ} {S : Region} {before after : List ℕ} → LineFrame path S before after → (old : List ℕ) × (blurred (line_of_solid S) ≡ before ++ (old ++ after))
line_is_framed (line_here {S = S}) = (blurred (line_of_solid S), sym (append-nil (blurred (line_of_solid S))))
line_is_framed (line_below {n = n} {xs = xs} {ms = ms} {rs = rs} {before = before} {after = after} t frame) =
    let inner = own_framed frame in
    let as' = atom_texts xs ++ take n (membrane_texts ms) in
    let bs = drop (suc n) (membrane_texts ms) ++ rule_texts rs in
    let x = braced (before ++ (inner.0 ++ after)) in
    let texts = own_texts t ∙ ap (λ z. take n (membrane_texts ms) ++ braced z ∷ drop (suc n) (membrane_texts ms)) inner.1 in
    let all : blurred_each (level_pieces (as_level (region xs ms rs))) ≡ as' ++ x ∷ bs =
    items_are xs ms rs ∙ (λ i. atom_texts xs ++ (texts i ++ rule_texts rs)) ∙ all_at xs n (membrane_texts ms) x rs in
    (inner.0, line_at (region xs ms rs) as' x bs all ∙ around before inner.0 after (in_front (codes ". ") as') (behind (codes ". ") bs ++ codes ".\n"))

-- ---- braces

module _ (b : ℕ) where
  times_both : (xs ys : List ℕ) → times b (xs ++ ys) ≡ times b xs + times b ys
  times_both [] ys = omega arith
  times_both (x ∷ xs) ys = let h = times_both xs ys in omega (arith, h)

  -- in each of some texts
  abbrev times_each : List (List ℕ) → ℕ
  times_each [] = 0
  times_each (x ∷ xs) = times b x + times_each xs

  each_of_both : (xs ys : List (List ℕ)) → times_each (xs ++ ys) ≡ times_each xs + times_each ys
  each_of_both [] ys = omega arith
  each_of_both (x ∷ xs) ys = let h = each_of_both xs ys in omega (arith, h)

  module _ (between : List ℕ) where
    times_in_front : (xs : List (List ℕ)) → times_each xs ≤ times b (in_front between xs)
    times_in_front [] = omega arith
    times_in_front (x ∷ xs) =
        let all = times_both x (between ++ in_front between xs) in
        let rest = times_both between (in_front between xs) in
        let h = times_in_front xs in
        omega (arith, all, rest, h)

    times_behind : (xs : List (List ℕ)) → times_each xs ≤ times b (behind between xs)
    times_behind [] = omega arith
    times_behind (x ∷ xs) =
        let all = times_both between (x ++ behind between xs) in
        let rest = times_both x (behind between xs) in
        let h = times_behind xs in
        omega (arith, all, rest, h)

    times_in_row : (xs : List (List ℕ)) → times_each xs ≤ times b (row between xs)
    times_in_row [] = omega arith
    times_in_row (x ∷ []) = omega arith
    times_in_row (x ∷ y ∷ xs) =
        let all = times_both x (between ++ row between (y ∷ xs)) in
        let rest = times_both between (row between (y ∷ xs)) in
        let h = times_in_row (y ∷ xs) in
        omega (arith, all, rest, h)

  times_reversed : (xs : List ℕ) → times b (reverse xs) ≡ times b xs
  times_reversed [] = refl
  times_reversed (x ∷ xs) = ap (times b) (reverse_onto xs x []) ∙ times_both (reverse xs) (x ∷ []) ∙ (let h = times_reversed xs in omega (arith, h))

  -- what two texts begin with, both have
  times_alike : (front xs ys : List ℕ) → times b front ≤ times b (alike (front ++ xs) (front ++ ys))
  times_alike [] xs ys = omega arith
  times_alike (z ∷ front) xs ys = by (z == z) (equal_itself z) (times_alike front xs ys)
    where
      by : (t : Bool) → t ≡ true → times b front ≤ times b (alike (front ++ xs) (front ++ ys)) → times b (z ∷ front) ≤ times b (if t then z ∷ alike (front ++ xs) (front ++ ys) else [])
      by true e h = omega (arith, h)
      by false e h = absurd (cc)

-- A membrane opens as many as there are in it, itself included.
mutual
  membrane_opens : (S : Region) → length (paths S) ≤ times 123 (braced (inside_of S))
  membrane_opens (region xs ms rs) =
      let inside = inside_of (region xs ms rs) in
      let all : times 123 (braced inside) ≡ 1 + times 123 (inside ++ codes "}") = refl in
      let a = times_both 123 inside (codes "}") in
      let b = ap (times 123) (inside_is xs ms rs) in
      let c = times_in_row 123 (codes ", ") (all_texts xs (membrane_texts ms) rs) in
      let d = each_of_both 123 (atom_texts xs) (membrane_texts ms ++ rule_texts rs) in
      let e = each_of_both 123 (membrane_texts ms) (rule_texts rs) in
      let h = membranes_open 0 ms in
      omega (arith, all, a, b, c, d, e, h)

  membranes_open : (n : ℕ) (ms : Regions) → length (paths_from n ms) ≤ times_each 123 (membrane_texts ms)
  membranes_open n no_region = omega arith
  membranes_open n (region_and m ms) =
      let a = length-append (map (λ path. n ∷ path) (paths m)) (paths_from (suc n) ms) in
      let b = length-map (paths m) (λ path. n ∷ path) in
      let c = ap (times 123) (membrane_text m) in
      let h = membrane_opens m in
      let k = membranes_open (suc n) ms in
      omega (arith, a, b, c, h, k)

-- and closes as many
mutual
  membrane_closes : (S : Region) → length (paths S) ≤ times 125 (braced (inside_of S))
  membrane_closes (region xs ms rs) =
      let inside = inside_of (region xs ms rs) in
      let all : times 125 (braced inside) ≡ 0 + times 125 (inside ++ codes "}") = refl in
      let one : times 125 (codes "}") ≡ 1 = refl in
      let a = times_both 125 inside (codes "}") in
      let b = ap (times 125) (inside_is xs ms rs) in
      let c = times_in_row 125 (codes ", ") (all_texts xs (membrane_texts ms) rs) in
      let d = each_of_both 125 (atom_texts xs) (membrane_texts ms ++ rule_texts rs) in
      let e = each_of_both 125 (membrane_texts ms) (rule_texts rs) in
      let h = membranes_close 0 ms in
      omega (arith, all, one, a, b, c, d, e, h)

  membranes_close : (n : ℕ) (ms : Regions) → length (paths_from n ms) ≤ times_each 125 (membrane_texts ms)
  membranes_close n no_region = omega arith
  membranes_close n (region_and m ms) =
      let a = length-append (map (λ path. n ∷ path) (paths m)) (paths_from (suc n) ms) in
      let b = length-map (paths m) (λ path. n ∷ path) in
      let c = ap (times 125) (membrane_text m) in
      let h = membrane_closes m in
      let k = membranes_close (suc n) ms in
      omega (arith, a, b, c, h, k)

-- ---- the path with a number

abbrev Paths : Type 0
Paths = List (List ℕ)

no_path : (b : Paths) (p : List ℕ) (a : Paths) → [] ≡ b ++ p ∷ a → ⊥
no_path b p a e = no_item b p a (sym (ap length e))

-- where a list is two, one of them has the item
split : (xs ys b : Paths) (p : List ℕ) (a : Paths) → xs ++ ys ≡ b ++ p ∷ a →
    ((c : Paths) × (xs ≡ b ++ p ∷ c) × (a ≡ c ++ ys)) ⊎ ((d : Paths) × (ys ≡ d ++ p ∷ a) × (length b ≡ length xs + length d))
split [] ys b p a e = inr (b, e, omega arith)
split (x ∷ xs) ys [] p a e = inl (xs, ap (λ z. z ∷ xs) (head_is e), sym (tail_is e))
split (x ∷ xs) ys (z ∷ b) p a e = elim (split xs ys b p a (tail_is e)) [
  | inl h ↦ inl (h.0, (λ i. head_is e i ∷ h.1 i), h.2)
  | inr h ↦ (let many = h.2 in inr (h.0, h.1, omega (arith, many)))
]

-- an item of a list of paths that all begin with a number
record Begun (n : ℕ) (xs : Paths) (p : List ℕ) (a : Paths) (number : ℕ) : Type 0 where
  pub path : List ℕ
  pub is : p ≡ n ∷ path
  pub earlier : Paths
  pub later : Paths
  pub all : xs ≡ earlier ++ path ∷ later
  pub rest_is : a ≡ map (λ path. n ∷ path) later
  pub number_is : number ≡ length earlier

begun_at : (n : ℕ) (xs b : Paths) (p : List ℕ) (a : Paths) → map (λ path. n ∷ path) xs ≡ b ++ p ∷ a → Begun n xs p a (length b)
begun_at n [] b p a e = absurd (no_path b p a e)
begun_at n (x ∷ xs) [] p a e = record { path = x; is = sym (head_is e); earlier = []; later = xs; all = refl; rest_is = sym (tail_is e); number_is = refl }
begun_at n (x ∷ xs) (z ∷ b) p a e =
    let h = begun_at n xs b p a (tail_is e) in
    record { path = h.path; is = h.is; earlier = x ∷ h.earlier; later = h.later; all = ap (λ zs. x ∷ zs) h.all; rest_is = h.rest_is; number_is = ap suc h.number_is }

-- a path of a list that begins with a number isn't that of the root
one_at_least : (n : ℕ) (ms : Regions) (c : Paths) (q : List ℕ) (d : Paths) → paths_from n ms ≡ c ++ q ∷ d → 1 ≤ length q
one_at_least n no_region c q d e = absurd (no_path c q d e)
one_at_least n (region_and m ms) c q d e = elim (split (map (λ path. n ∷ path) (paths m)) (paths_from (suc n) ms) c q d e) [
  | inl h ↦ (let u = begun_at n (paths m) c q h.0 h.1 in let long = ap length u.is in omega (arith, long))
  | inr h ↦ one_at_least (suc n) ms h.0 q d h.1
]

-- Behind a path stand others. Behind one of them that isn't longer fewer stand than braces are closed.
abbrev ClosedBy : List ℕ → Paths → ℕ → Type 0
ClosedBy path a closed = (c : Paths) (q : List ℕ) (d : Paths) → a ≡ c ++ q ∷ d → length q ≤ length path → length d < closed

-- a frame of a path before which so many braces are opened as its number says, and behind which so many are closed
record FramedIn (S : Region) (path : List ℕ) (number : ℕ) (a : Paths) : Type 0 where
  pub before : List ℕ
  pub after : List ℕ
  pub frame : Frame path S before after
  pub opened : number ≤ times 123 before
  pub closed : ClosedBy path a (times 125 after)

-- the same in one of some membranes
record FramedAmong (n : ℕ) (ms : Regions) (p : List ℕ) (number : ℕ) (a : Paths) : Type 0 where
  pub index : ℕ
  pub path : List ℕ
  pub is : p ≡ (n + index) ∷ path
  pub membrane : Region
  pub others : Regions
  pub taken : TakenRegion index membrane ms others
  pub before : List ℕ
  pub after : List ℕ
  pub frame : Frame path membrane before after
  pub opened : number ≤ times_each 123 (take index (membrane_texts ms)) + times 123 before
  pub closed : ClosedBy p a (times 125 after + times_each 125 (drop (suc index) (membrane_texts ms)))

-- what is opened in front of a membrane among others
opened_in_front : (between : List ℕ) (xs : List SolidAtom) (texts : List (List ℕ)) (before : List ℕ) →
    suc (times_each 123 texts + times 123 before) ≤ times 123 (in_front between (atom_texts xs ++ texts) ++ (codes "{" ++ before))
opened_in_front between xs texts before =
    let front = in_front between (atom_texts xs ++ texts) in
    let one : times 123 (codes "{" ++ before) ≡ 1 + times 123 before = refl in
    let a = times_both 123 front (codes "{" ++ before) in
    let b = times_in_front 123 between (atom_texts xs ++ texts) in
    let c = each_of_both 123 (atom_texts xs) texts in
    omega (arith, one, a, b, c)

-- what is closed behind a membrane among others,
closed_behind : (between : List ℕ) (texts more : List (List ℕ)) (after end : List ℕ) →
    times 125 after + times_each 125 texts ≤ times 125 (after ++ (codes "}" ++ (behind between (texts ++ more) ++ end)))
closed_behind between texts more after end =
    let back = behind between (texts ++ more) in
    let a = times_both 125 after (codes "}" ++ (back ++ end)) in
    let b = times_both 125 (codes "}") (back ++ end) in
    let c = times_both 125 back end in
    let d = times_behind 125 between (texts ++ more) in
    let e = each_of_both 125 texts more in
    omega (arith, a, b, c, d, e)

-- behind the root,
behind_root : (ms : Regions) (a : Paths) → paths_from 0 ms ≡ a → (closed : ℕ) → ClosedBy [] a closed
behind_root ms a whole closed c q d is few = let some = one_at_least 0 ms c q d (whole ∙ is) in absurd (omega (arith, some, few))

-- and behind one in the first of some
closed_in_first : (n : ℕ) (ms : Regions) (path : List ℕ) (later : Paths) (closed : ℕ) → ClosedBy path later closed → (a : Paths) → a ≡ map (λ path. n ∷ path) later ++ paths_from (suc n) ms →
    ClosedBy (n ∷ path) a (closed + times_each 125 (membrane_texts ms))
closed_in_first n ms path later closed inner a whole c q d is few = elim (split (map (λ path. n ∷ path) later) (paths_from (suc n) ms) c q d (sym whole ∙ is)) [
  | inl h ↦ (
      let u = begun_at n later c q h.0 h.1 in
      let long = ap length u.is in
      let less = inner u.earlier u.path u.later u.all (omega (arith, few, long)) in
      let all = ap length h.2 ∙ length-append h.0 (paths_from (suc n) ms) in
      let many = ap length u.rest_is ∙ length-map u.later (λ path. n ∷ path) in
      let others = membranes_close (suc n) ms in
      omega (arith, less, all, many, others)
      )
  | inr h ↦ (
      let all = ap length h.1 ∙ length-append h.0 (q ∷ d) in
      let others = membranes_close (suc n) ms in
      omega (arith, all, others)
      )
]

mutual
  frame_at : (S : Region) (b : Paths) (p : List ℕ) (a : Paths) → paths S ≡ b ++ p ∷ a → FramedIn S p (length b) a
  frame_at (region xs ms rs) [] p a e = subst (λ z. FramedIn (region xs ms rs) z 0 a) (head_is e) (record { before = []; after = []; frame = frame_here; opened = omega arith; closed = behind_root ms a (tail_is e) 0 })
  frame_at (region xs ms rs) (z ∷ b) p a e =
      let k = frame_among 0 ms b p a (tail_is e) in
      let front = in_front (codes ", ") (atom_texts xs ++ take k.index (membrane_texts ms)) ++ (codes "{" ++ k.before) in
      let back = k.after ++ (codes "}" ++ behind (codes ", ") (drop (suc k.index) (membrane_texts ms) ++ rule_texts rs)) in
      let more = opened_in_front (codes ", ") xs (take k.index (membrane_texts ms)) k.before in
      let opened = k.opened in
      record {
        before = front;
        after = back;
        frame = subst (λ q. Frame q (region xs ms rs) front back) (sym (k.is ∙ ap (λ z. z ∷ k.path) (no_more k.index))) (frame_below k.taken k.frame);
        opened = omega (arith, more, opened);
        closed = λ c q d is few.
            let less = k.closed c q d is few in
            let all = closed_behind (codes ", ") (drop (suc k.index) (membrane_texts ms)) (rule_texts rs) k.after [] in
            let same = ap (λ z. times 125 (k.after ++ (codes "}" ++ z))) (append-nil (behind (codes ", ") (drop (suc k.index) (membrane_texts ms) ++ rule_texts rs))) in
            omega (arith, less, all, same);
      }

  frame_among : (n : ℕ) (ms : Regions) (b : Paths) (p : List ℕ) (a : Paths) → paths_from n ms ≡ b ++ p ∷ a → FramedAmong n ms p (length b) a
  frame_among n no_region b p a e = absurd (no_path b p a e)
  frame_among n (region_and m ms) b p a e = elim (split (map (λ path. n ∷ path) (paths m)) (paths_from (suc n) ms) b p a e) [
    | inl h ↦ (
        let u = begun_at n (paths m) b p h.0 h.1 in
        let k = frame_at m u.earlier u.path u.later u.all in
        let number = u.number_is in
        let opened = k.opened in
        record {
          index = 0;
          path = u.path;
          is = u.is ∙ ap (λ z. z ∷ u.path) (sym (none_more n));
          membrane = m;
          others = ms;
          taken = region_first;
          before = k.before;
          after = k.after;
          frame = k.frame;
          opened = omega (arith, number, opened);
          closed = subst (λ z. ClosedBy z a (times 125 k.after + times_each 125 (membrane_texts ms))) (sym u.is)
              (closed_in_first n ms u.path u.later (times 125 k.after) k.closed a (h.2 ∙ ap (λ z. z ++ paths_from (suc n) ms) u.rest_is));
        }
        )
    | inr h ↦ (
        let k = frame_among (suc n) ms h.0 p a h.1 in
        let number = h.2 in
        let opened = k.opened in
        let many = length-map (paths m) (λ path. n ∷ path) in
        let first = membrane_opens m in
        let same = ap (times 123) (membrane_text m) in
        record {
          index = suc k.index;
          path = k.path;
          is = k.is ∙ ap (λ z. z ∷ k.path) (omega arith);
          membrane = k.membrane;
          others = region_and m k.others;
          taken = region_later k.taken;
          before = k.before;
          after = k.after;
          frame = k.frame;
          opened = omega (arith, number, opened, many, first, same);
          closed = k.closed;
        }
        )
  ]

-- and in the line of a solid
record FramedLine (S : Region) (path : List ℕ) (number : ℕ) (a : Paths) : Type 0 where
  pub before : List ℕ
  pub after : List ℕ
  pub frame : LineFrame path S before after
  pub opened : number ≤ times 123 before
  pub closed : ClosedBy path a (times 125 after)

line_frame_at : (S : Region) (b : Paths) (p : List ℕ) (a : Paths) → paths S ≡ b ++ p ∷ a → FramedLine S p (length b) a
line_frame_at (region xs ms rs) [] p a e = subst (λ z. FramedLine (region xs ms rs) z 0 a) (head_is e) (record { before = []; after = []; frame = line_here; opened = omega arith; closed = behind_root ms a (tail_is e) 0 })
line_frame_at (region xs ms rs) (z ∷ b) p a e =
    let k = frame_among 0 ms b p a (tail_is e) in
    let front = in_front (codes ". ") (atom_texts xs ++ take k.index (membrane_texts ms)) ++ (codes "{" ++ k.before) in
    let back = k.after ++ (codes "}" ++ (behind (codes ". ") (drop (suc k.index) (membrane_texts ms) ++ rule_texts rs) ++ codes ".\n")) in
    let more = opened_in_front (codes ". ") xs (take k.index (membrane_texts ms)) k.before in
    let opened = k.opened in
    record {
      before = front;
      after = back;
      frame = subst (λ q. LineFrame q (region xs ms rs) front back) (sym (k.is ∙ ap (λ z. z ∷ k.path) (no_more k.index))) (line_below k.taken k.frame);
      opened = omega (arith, more, opened);
      closed = λ c q d is few.
          let less = k.closed c q d is few in
          let all = closed_behind (codes ". ") (drop (suc k.index) (membrane_texts ms)) (rule_texts rs) k.after (codes ".\n") in
          omega (arith, less, all);
    }

-- ---- choices

-- Where fewer braces are opened in what the line of a solid and a text begin with alike than the number of a membrane, the text doesn't
-- begin with the line of a solid after a firing in that membrane.
pub not_there : (path : List ℕ) (k : ℕ) (f : List ℕ) (S S' : Region) → NextAt path k f S S' → (b a : Paths) → paths S ≡ b ++ path ∷ a →
    (text : List ℕ) → times 123 (alike (blurred (line_of_solid S)) (blurred text)) < length b → (more : List ℕ) → text ≡ line_of_solid S' ++ more → ⊥
not_there path k f S S' next b a e text few more is =
    let w = line_frame_at S b path a e in
    let old = line_is_framed w.frame in
    let new = firings_keep_frames path k f S S' w.before w.after next w.frame in
    let behind_it = (new.0 ++ w.after) ++ blurred more in
    let there : blurred text ≡ w.before ++ behind_it =
    ap blurred is ∙ blurred_both (line_of_solid S') more ∙ ap (λ z. z ++ blurred more) new.1 ∙ append_assoc w.before (new.0 ++ w.after) (blurred more) in
    let common = times_alike 123 w.before (old.0 ++ w.after) behind_it in
    let same : times 123 (alike (blurred (line_of_solid S)) (blurred text)) ≡ times 123 (alike (w.before ++ (old.0 ++ w.after)) (w.before ++ behind_it)) =
    (λ i. times 123 (alike (old.1 i) (there i))) in
    let opened = w.opened in
    omega (arith, few, common, same, opened)

-- what is left without digits of a text that is turned round
blurred_reversed : (xs : List ℕ) → blurred (reverse xs) ≡ reverse (blurred xs)
blurred_reversed [] = refl
blurred_reversed (x ∷ xs) = ap blurred (reverse_onto xs x []) ∙ blurred_both (reverse xs) (x ∷ []) ∙ ap (λ z. z ++ blurred (x ∷ [])) (blurred_reversed xs) ∙ by (lasts x)
  where
    by : (t : Bool) → reverse (blurred xs) ++ cond t (x ∷ []) [] ≡ reverse (cond t (x ∷ blurred xs) (blurred xs))
    by true = sym (reverse_onto (blurred xs) x [])
    by false = append-nil (reverse (blurred xs))

-- a text that ends so, turned round
turned : (text before middle after : List ℕ) → blurred text ≡ before ++ (middle ++ after) → blurred (reverse text) ≡ reverse after ++ reverse (before ++ middle)
turned text before middle after is = blurred_reversed text ∙ ap reverse (is ∙ sym (append_assoc before middle after)) ∙ reverse-append (before ++ middle) after

-- Where behind a membrane one stands that isn't deeper, and behind that at least as many as braces are closed in what the line of a solid
-- and another one end with alike, that one isn't the line of a solid after a firing in the membrane.
pub not_that : (path : List ℕ) (k : ℕ) (f : List ℕ) (S S' : Region) → NextAt path k f S S' → (b a : Paths) → paths S ≡ b ++ path ∷ a → (c : Paths) (q : List ℕ) (d : Paths) → a ≡ c ++ q ∷ d → length q ≤ length path →
    (line : List ℕ) → times 125 (alike (blurred (reverse (line_of_solid S))) (blurred (reverse line))) ≤ length d → line ≡ line_of_solid S' → ⊥
not_that path k f S S' next b a e c q d later short line few is =
    let w = line_frame_at S b path a e in
    let old = line_is_framed w.frame in
    let new = firings_keep_frames path k f S S' w.before w.after next w.frame in
    let own = turned (line_of_solid S) w.before old.0 w.after old.1 in
    let there = ap (λ z. blurred (reverse z)) is ∙ turned (line_of_solid S') w.before new.0 w.after new.1 in
    let common = times_alike 125 (reverse w.after) (reverse (w.before ++ old.0)) (reverse (w.before ++ new.0)) in
    let many = times_reversed 125 w.after in
    let same : times 125 (alike (blurred (reverse (line_of_solid S))) (blurred (reverse line)))
    ≡ times 125 (alike (reverse w.after ++ reverse (w.before ++ old.0)) (reverse w.after ++ reverse (w.before ++ new.0))) =
    (λ i. times 125 (alike (own i) (there i))) in
    let closed = w.closed c q d later short in
    omega (arith, few, common, many, same, closed)

-- The membrane in which a next solid fires, by its number: the solid is next where that membrane is asked first, too.
pub record IsChosenAt (S S' : Region) (path : List ℕ) : Type 0 where
  pub earlier : List (List ℕ)
  pub later : List (List ℕ)
  pub all : paths S ≡ earlier ++ path ∷ later
  pub next : NextFrom (length earlier) S S'

pub chosen_at : (k : ℕ) (S S' : Region) (n : NextFrom k S S') → IsChosenAt S S' n.path
chosen_at k S S' n =
    let c = n.chosen in
    let whole : paths S ≡ take k (paths S) ++ drop k (paths S) = sym (take-append-drop k (paths S)) in
    let at : (b : Paths) × (a : Paths) × (paths S ≡ b ++ n.path ∷ a) =
    elim (split (drop k (paths S)) (take k (paths S)) c.earlier n.path c.later c.order) [
      | inl h ↦ (take k (paths S) ++ c.earlier, h.0, whole ∙ ap (λ z. take k (paths S) ++ z) h.1 ∙ sym (append_assoc (take k (paths S)) c.earlier (n.path ∷ h.0)))
      | inr h ↦ (h.0, c.later ++ drop k (paths S), whole ∙ ap (λ z. z ++ drop k (paths S)) h.1 ∙ append_assoc h.0 (n.path ∷ c.later) (drop k (paths S)))
    ] in
    record {
      earlier = at.0;
      later = at.1;
      all = at.2;
      next = record {
        path = n.path;
        number = n.number;
        positions = n.positions;
        chosen = record {
          embeds = c.embeds;
          earlier = [];
          later = at.1 ++ at.0;
          order = ap (λ z. drop (length at.0) z ++ take (length at.0) z) at.2 ∙ (λ i. drop-append_seam at.0 (n.path ∷ at.1) i ++ take-append_seam at.0 (n.path ∷ at.1) i);
          first_membrane = λ p i. elim i [ ];
          first_rule = c.first_rule;
          least = c.least;
        };
        next = n.next;
      };
    }
