-- A trace beside a solid is a chain or wrong, and not both.
use Rattle.std.proofs.Common.{ℕ, ◌≡◌, ◌+◌, List, [], ◌∷◌, ◌++◌, length, map, refl, sym, ap, ◌∙◌, subst, codes, arith, append_assoc}
use Rattle.std.specs.List.{concat}
use Rattle.std.specs.declared.alloc.Global.{Global}
use Rattle.lmn_base.proofs.Lists.{head_is, tail_is}
use Rattle.lmn_base.specs.declared.refusal.Refusal.{Refusal}
use Rattle.lmn_base.specs.Names.{IsNames}
use Rattle.lmn_congruence.specs.Regions.{Region}
use Rattle.lmn_congruence.specs.Rules.{Name}
use Rattle.lmn_flatten_plain.specs.SolidLines.{as_level}
use Rattle.lmn_flatten_plain.specs.Words.{text_of, top_pieces}
use Rattle.lmn_app_runs.proofs.TraceRuns.{Fine, next_fine, solid_fine, spelled_fine}
use Rattle.lmn_app_runs.specs.Laws.{solid_of}
use Rattle.lmn_app_runs.specs.Runs.{end_line}
use Rattle.lmn_receipt_chain.proofs.LineBytes.{NoPercent, first_line_one, line_no_feed, line_no_percent}
use Rattle.lmn_receipt_chain.proofs.OneSolid.{one_solid}
use Rattle.lmn_receipt_chain.specs.Bytes.{NoFeed}
use Rattle.lmn_receipt_chain.specs.Chains.{BeginsChain, Continued, Continues, IsChain, IsEndThere, IsEndWord, IsProcessThere, IsWrongTrace, at_line, begun, continued, line_of_solid, no_end_line, no_first_line, no_next_line}
use Rattle.lmn_receipt_chain.specs.Laws.{TracesAreOneOf}
use Rattle.lmn_adequacy.proofs.Runs.{one_longer}

-- ---- solids one behind the other, the first first

-- Solids, each of which continues the one before, up to the last one.
data Follows : Region → List Region → Type 0 where
  alone : {S : Region} → Follows S []
  followed : {S T : Region} {more : List Region} → Continues S T → Follows T more → Follows S (T ∷ more)

-- the last of some solids behind one
abbrev last_of : Region → List Region → Region
last_of S [] = S
last_of S (T ∷ more) = last_of T more

-- The same solids as those of a derivation that grows at its end.
record Listed (S : Region) (before : List Region) (last : Region) : Type 0 where
  others : List Region
  follows : Follows S others
  are : before ++ last ∷ [] ≡ S ∷ others

not_none : (xs : List Region) (y : Region) → xs ++ y ∷ [] ≡ [] → ⊥
not_none [] y e = absurd (cc)
not_none (x ∷ xs) y e = absurd (cc)

at_end : {S N : Region} (others before : List Region) (L : Region) → before ++ L ∷ [] ≡ S ∷ others → Follows S others → Continues L N → Follows S (others ++ N ∷ [])
at_end {S} {N} [] [] L e alone c = followed (subst (λ X. Continues X N) (head_is e) c) alone
at_end [] (B ∷ before) L e f c = absurd (not_none before L (tail_is e))
at_end (O ∷ others) [] L e f c = absurd (let n = tail_is e in cc)
at_end (O ∷ others) (B ∷ before) L e (followed k f) c = followed k (at_end others before L (tail_is e) f c)

listed : {S : Region} {before : List Region} {last : Region} → Continued S before last → Listed S before last
listed begun = record { others = []; follows = alone; are = refl }
listed {S} (continued {before = before} {S' = L} {S'' = N} p c) =
    let l = listed p in
    record { others = l.others ++ N ∷ []; follows = at_end l.others before L l.are l.follows c; are = ap (λ xs. xs ++ N ∷ []) l.are }

last_is : (S : Region) (others before : List Region) (last : Region) → before ++ last ∷ [] ≡ S ∷ others → last ≡ last_of S others
last_is S [] [] last e = head_is e
last_is S [] (B ∷ before) last e = absurd (not_none before last (tail_is e))
last_is S (O ∷ others) [] last e = absurd (let n = tail_is e in cc)
last_is S (O ∷ others) (B ∷ before) last e = last_is O others before last (tail_is e)

-- their lines
abbrev lines : List Region → List ℕ
lines xs = concat (map line_of_solid xs)

module _ (alloc : Global) (names : List Name) (is : IsNames names) where
  abbrev IsFine : Region → Type 0
  IsFine = Fine names

  pub fine_next : {S T : Region} → IsFine S → Continues S T → IsFine T
  fine_next {S} f c = next_fine names alloc is (λ n m. c.from) 0 0 S f {n = 0} f (record { next = c.next; numbered = c.numbered })

  pub no_feed : (S : Region) → IsFine S → NoFeed (text_of (top_pieces (as_level S)))
  no_feed S f = line_no_feed (as_level S) (spelled_fine names alloc is S f)

  no_percent : (S : Region) → IsFine S → NoPercent (line_of_solid S)
  no_percent S f = line_no_percent (as_level S) (spelled_fine names alloc is S f)

  -- ---- two lists of solids whose lines begin one text

  -- They are the same; or one of them goes on where the other ends.
  data Compared (S : Region) (xs ys : List Region) (r s : List ℕ) : Type 0 where
    same : xs ≡ ys → r ≡ s → Compared S xs ys r s
    longer : (z : Region) (zs : List Region) → ys ≡ xs ++ z ∷ zs → Continues (last_of S xs) z → IsFine z → r ≡ line_of_solid z ++ (lines zs ++ s) → Compared S xs ys r s
    shorter : (z : Region) (zs : List Region) → xs ≡ ys ++ z ∷ zs → Continues (last_of S ys) z → IsFine z → s ≡ line_of_solid z ++ (lines zs ++ r) → Compared S xs ys r s

  -- the text of a line, its line feed, and what is behind it
  cut_line : (x : Region) (xs : List Region) (r : List ℕ) → lines (x ∷ xs) ++ r ≡ text_of (top_pieces (as_level x)) ++ (10 ∷ (lines xs ++ r))
  cut_line x xs r =
      let t = text_of (top_pieces (as_level x)) in
      append_assoc (t ++ 10 ∷ []) (lines xs) r ∙ append_assoc t (10 ∷ []) (lines xs ++ r)

  compare : (S : Region) (xs ys : List Region) (r s : List ℕ) → IsFine S → Follows S xs → Follows S ys → lines xs ++ r ≡ lines ys ++ s → Compared S xs ys r s
  compare S [] [] r s f h k e = same refl e
  compare S [] (y ∷ ys) r s f h (followed c k) e = longer y ys refl c (fine_next f c) (e ∙ append_assoc (line_of_solid y) (lines ys) s)
  compare S (x ∷ xs) [] r s f (followed c h) k e = shorter x xs refl c (fine_next f c) (sym e ∙ append_assoc (line_of_solid x) (lines xs) r)
  compare S (x ∷ xs) (y ∷ ys) r s f (followed c h) (followed d k) e =
      let fx = fine_next f c in
      let fy = fine_next f d in
      let cut = first_line_one (text_of (top_pieces (as_level x))) (text_of (top_pieces (as_level y))) (lines xs ++ r) (lines ys ++ s) (no_feed x fx) (no_feed y fy) (sym (cut_line x xs r) ∙ e ∙ cut_line y ys s) in
      let one : x ≡ y = one_solid alloc names is x y fx fy (ap (λ t. t ++ codes "\n") cut.0) in
      go one (compare x xs ys r s fx h (subst (λ z. Follows z ys) (sym one) k) cut.1)
    where
      go : {x y : Region} {xs ys : List Region} → x ≡ y → Compared x xs ys r s → Compared S (x ∷ xs) (y ∷ ys) r s
      go one (same i j) = same (λ n. one n ∷ i n) j
      go one (longer z zs i c f j) = longer z zs (λ n. sym one n ∷ i n) c f j
      go {y = y} {ys = ys} one (shorter z zs i c f j) = shorter z zs (λ n. one n ∷ i n) (subst (λ w. Continues (last_of w ys) z) one c) f j

  -- ---- of a trace that begins so

  module _ (S : Region) (start : IsFine S) (trace : List ℕ) where
    -- what begins the trace, as a list behind S
    record Begins (before : List Region) (last : Region) (rest : List ℕ) : Type 0 where
      others : List Region
      follows : Follows S others
      last_one : last ≡ last_of S others
      size : length before ≡ length others
      text : trace ≡ line_of_solid S ++ (lines others ++ rest)

    begins_of : (before : List Region) (last : Region) (rest : List ℕ) → BeginsChain S trace before last rest → Begins before last rest
    begins_of before last rest b =
        let l = listed b.solids in
        record {
          others = l.others;
          follows = l.follows;
          last_one = last_is S l.others before last l.are;
          size = (let n = ap length l.are in let m = one_longer before last in omega (arith, n, m));
          text = b.is ∙ ap (λ xs. lines xs ++ rest) l.are ∙ append_assoc (line_of_solid S) (lines l.others) rest;
        }

    -- two of them
    compared : {before before' : List Region} {last last' : Region} {rest rest' : List ℕ} (a : Begins before last rest) (b : Begins before' last' rest') → Compared S a.others b.others rest rest'
    compared {rest = rest} {rest' = rest'} a b =
        let t = text_of (top_pieces (as_level S)) in
        let both = sym a.text ∙ b.text in
        let cut = first_line_one t t (lines a.others ++ rest) (lines b.others ++ rest') (no_feed S start) (no_feed S start)
        (sym (append_assoc t (10 ∷ []) (lines a.others ++ rest)) ∙ both ∙ append_assoc t (10 ∷ []) (lines b.others ++ rest')) in
        compare S a.others b.others rest rest' start a.follows b.follows cut.1

    -- no line of a solid begins with `%`
    no_end_there : (z : Region) (more rest : List ℕ) → IsFine z → rest ≡ line_of_solid z ++ more → IsEndThere rest → ⊥
    no_end_there z more rest f e h = go (text_of (top_pieces (as_level z))) (no_percent z f) (subst IsEndThere (e ∙ append_assoc (text_of (top_pieces (as_level z))) (10 ∷ []) more) h)
      where
        go : (t : List ℕ) → NoPercent (t ++ codes "\n") → IsEndThere (t ++ (10 ∷ more)) → ⊥
        go [] n h = absurd (cc)
        go (b ∷ t) n h = n h

    -- an end line begins with `%`
    end_there : (word : List ℕ) (n : ℕ) → IsEndThere (end_line word n)
    end_there word n = refl

    -- no line is one of a process and an end
    not_end : (rest : List ℕ) → IsEndThere rest → IsProcessThere rest → ⊥
    not_end [] h k = k
    not_end (b ∷ bs) h k = k h

    -- a chain, as a list behind S
    chain_begins : (n : ℕ) (c : IsChain S trace n) → Begins c.before c.last (end_line c.word n)
    chain_begins n c = begins_of c.before c.last (end_line c.word n) c.begins

    not_both : (n : ℕ) (refusal : Refusal) → IsChain S trace n → IsWrongTrace S trace refusal → ⊥
    not_both n refusal c (no_first_line none e) = let a = chain_begins n c in none (lines a.others ++ end_line c.word n) a.text
    not_both n refusal c (no_next_line before last rest b there nothing e) =
        let a = chain_begins n c in
        let w = begins_of before last rest b in
        elim (compared a w) [
          | same i j ↦ not_end rest (subst IsEndThere j (end_there c.word n)) there
          | longer z zs i k f j ↦ no_end_there z (lines zs ++ rest) (end_line c.word n) f j (end_there c.word n)
          | shorter z zs i k f j ↦ nothing z (lines zs ++ end_line c.word n) (subst (λ L. Continues L z) (sym w.last_one) k) j
        ]
    not_both n refusal c (no_end_line before last rest b there nothing e) =
        let a = chain_begins n c in
        let w = begins_of before last rest b in
        elim (compared a w) [
          | same i j ↦
              (let size : n ≡ length before = sym c.count ∙ a.size ∙ ap length i ∙ sym w.size in
              let at : c.last ≡ last = a.last_one ∙ ap (last_of S) i ∙ sym w.last_one in
              nothing c.word (subst (λ L. IsEndWord L c.word) at c.ends) (sym j ∙ ap (end_line c.word) size))
          | longer z zs i k f j ↦ no_end_there z (lines zs ++ rest) (end_line c.word n) f j (end_there c.word n)
          | shorter z zs i k f j ↦ no_end_there z (lines zs ++ end_line c.word n) rest f j there
        ]

    one_count : (n m : ℕ) → IsChain S trace n → IsChain S trace m → n ≡ m
    one_count n m c d =
        let a = chain_begins n c in
        let b = chain_begins m d in
        elim (compared a b) [
          | same i j ↦ sym c.count ∙ a.size ∙ ap length i ∙ sym b.size ∙ d.count
          | longer z zs i k f j ↦ absurd (no_end_there z (lines zs ++ end_line d.word m) (end_line c.word n) f j (end_there c.word n))
          | shorter z zs i k f j ↦ absurd (no_end_there z (lines zs ++ end_line c.word n) (end_line d.word m) f j (end_there d.word m))
        ]

    -- the same place and the same code
    one_refusal : (r q : Refusal) → IsWrongTrace S trace r → IsWrongTrace S trace q → r ≡ q
    one_refusal r q (no_first_line none e) (no_first_line none' e') = e ∙ sym e'
    one_refusal r q (no_first_line none e) (no_next_line before last rest b there nothing e') = let w = begins_of before last rest b in absurd (none (lines w.others ++ rest) w.text)
    one_refusal r q (no_first_line none e) (no_end_line before last rest b there nothing e') = let w = begins_of before last rest b in absurd (none (lines w.others ++ rest) w.text)
    one_refusal r q (no_next_line before last rest b there nothing e) (no_first_line none e') = let w = begins_of before last rest b in absurd (none (lines w.others ++ rest) w.text)
    one_refusal r q (no_end_line before last rest b there nothing e) (no_first_line none e') = let w = begins_of before last rest b in absurd (none (lines w.others ++ rest) w.text)
    one_refusal r q (no_next_line before last rest b there nothing e) (no_next_line before' last' rest' b' there' nothing' e') =
        let v = begins_of before last rest b in
        let w = begins_of before' last' rest' b' in
        elim (compared v w) [
          | same i j ↦ e ∙ ap (λ n. at_line 61 (n + 2)) (v.size ∙ ap length i ∙ sym w.size) ∙ sym e'
          | longer z zs i k f j ↦ absurd (nothing z (lines zs ++ rest') (subst (λ L. Continues L z) (sym v.last_one) k) j)
          | shorter z zs i k f j ↦ absurd (nothing' z (lines zs ++ rest) (subst (λ L. Continues L z) (sym w.last_one) k) j)
        ]
    one_refusal r q (no_next_line before last rest b there nothing e) (no_end_line before' last' rest' b' there' nothing' e') =
        let v = begins_of before last rest b in
        let w = begins_of before' last' rest' b' in
        elim (compared v w) [
          | same i j ↦ absurd (not_end rest (subst IsEndThere (sym j) there') there)
          | longer z zs i k f j ↦ absurd (nothing z (lines zs ++ rest') (subst (λ L. Continues L z) (sym v.last_one) k) j)
          | shorter z zs i k f j ↦ absurd (no_end_there z (lines zs ++ rest) rest' f j there')
        ]
    one_refusal r q (no_end_line before last rest b there nothing e) (no_next_line before' last' rest' b' there' nothing' e') =
        let v = begins_of before last rest b in
        let w = begins_of before' last' rest' b' in
        elim (compared v w) [
          | same i j ↦ absurd (not_end rest' (subst IsEndThere j there) there')
          | longer z zs i k f j ↦ absurd (no_end_there z (lines zs ++ rest') rest f j there)
          | shorter z zs i k f j ↦ absurd (nothing' z (lines zs ++ rest) (subst (λ L. Continues L z) (sym w.last_one) k) j)
        ]
    one_refusal r q (no_end_line before last rest b there nothing e) (no_end_line before' last' rest' b' there' nothing' e') =
        let v = begins_of before last rest b in
        let w = begins_of before' last' rest' b' in
        elim (compared v w) [
          | same i j ↦ e ∙ ap (λ n. at_line 62 (n + 2)) (v.size ∙ ap length i ∙ sym w.size) ∙ sym e'
          | longer z zs i k f j ↦ absurd (no_end_there z (lines zs ++ rest') rest f j there)
          | shorter z zs i k f j ↦ absurd (no_end_there z (lines zs ++ rest) rest' f j there')
        ]

-- what holds of each trace beside the solid of such a plain
pub traces_are_one_of : TracesAreOneOf
traces_are_one_of alloc names plain s printable i trace =
    let start = solid_fine names plain printable s i in
    let known = printable.named.0 in
    record {
      not_both = not_both alloc names known (solid_of names plain s) start trace;
      one_count = one_count alloc names known (solid_of names plain s) start trace;
      one_refusal = one_refusal alloc names known (solid_of names plain s) start trace;
    }
