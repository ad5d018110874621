-- The table of links by what was counted of them.
use Rattle.std.proofs.Common.{◌≡◌, ℕ, ◌+◌, ◌<◌, ◌≤◌, ◌⊎◌, inl, inr, ◌==◌, Bool, true, false, if◌then◌else◌, List, [], ◌∷◌, ◌++◌, map, filter, length, slice_get, Option, Some, None, is_some, MatchOption, unwrap_or, All, refl, sym, ap, ◌∙◌, subst, arith}
use Rattle.std.specs.Option.{IsSome, option_or}
use Rattle.std.proofs.lemmas.Bool.Decides.{nat_tests}
use Rattle.std.proofs.lemmas.Option.{same_Some, slice_get_within}
use Rattle.std.proofs.lemmas.List.{append-nil, length-append}
use Rattle.std.proofs.lemmas.List.Elements.{All-nil, All-cons}
use Rattle.std.proofs.lemmas.List.Sorted.{length_permutation}
use Rattle.lmn_base.specs.declared.level.Level.{Level}
use Rattle.lmn_base.specs.declared.level.Occ.{Occ}
use Rattle.lmn_base.specs.declared.refusal.Pos.{Pos}
use Rattle.lmn_base.specs.declared.rule.LinkUse.{LinkUse}
use Rattle.lmn_base.specs.Levels.{occurrences_of, links_of, link_numbers}
use Rattle.lmn_base.specs.Links.{Numbers, NumbersLinks, no_more, known, new}
use Rattle.lmn_base.specs.LinkUses.{RisingPlaces, no_places, places_and, TellsOf, IsTableOf}
use Rattle.lmn_flatten_numbers.specs.declared.tally.FirstPlaces.{FirstPlaces}
use Rattle.lmn_flatten_numbers.specs.declared.tally.Tally.{Tally}
use Rattle.lmn_flatten_numbers.specs.Tallies.{Rising, AreFirstThree, IsTally, places_among, AreTallies, EachOccurs, EachOccursAlone, IsOwnTally, EachAlone, AreAlone, IsJoinedEntry, EachJoined, IsJoinedTable}
use Rattle.lmn_base.specs.Lists.{In}
use Rattle.lmn_base.proofs.Lists.{get_there as read_at, in_either, get_either}
use Rattle.lmn_base.proofs.Common.{numbers_grow, numbers_in}

-- ---- one entry

-- the tallies of head and body together
pub joined_tells : (head body : Tally) (places : FirstPlaces) (count : ℕ) (first third : Pos)
    → ((ps qs : List Pos) → AreFirstThree ps head.places → AreFirstThree qs body.places → AreFirstThree (ps ++ qs) places)
    → places.first ≡ Some first → third ≡ unwrap_or places.third first → count ≡ head.count + body.count
    → IsJoinedEntry head body (record { count = count; first = first; third = third })
joined_tells head body places count first third follows e f n ps qs h b =
    let fs = follows h.first.rising b.first.rising h.first.first b.first.first in (
      h.first.rising,
      b.first.rising,
      h.first.sorted,
      b.first.sorted,
      record {
        count =
            let a = h.count in let c = b.count in
            let d = length_permutation ps h.first.rising h.first.sorted.same in let g = length_permutation qs b.first.rising b.first.sorted.same in
            let s = length-append h.first.rising b.first.rising in omega (arith, n, a, c, d, g, s);
        first = sym fs.first ∙ e;
        third = let P : Option Pos → Type 0 = λ o. MatchOption o (third ≡ first) (λ p. third ≡ p) in subst P fs.third (of_third places.third f);
      },
    )
  where
    of_third : (o : Option Pos) → third ≡ unwrap_or o first → MatchOption o (third ≡ first) (λ p. third ≡ p)
    of_third None g = g
    of_third (Some p) g = g

-- and one alone
pub alone_tells : (t : Tally) (first third : Pos) → t.places.first ≡ Some first → third ≡ unwrap_or t.places.third first
    → IsOwnTally t (record { count = t.count; first = first; third = third })
alone_tells t first third e f ps h = (
  h.first.rising,
  h.first.sorted,
  record {
    count = let a = h.count in let d = length_permutation ps h.first.rising h.first.sorted.same in omega (arith, a, d);
    first = sym h.first.first.first ∙ e;
    third = let P : Option Pos → Type 0 = λ o. MatchOption o (third ≡ first) (λ p. third ≡ p) in subst P h.first.first.third (of_third t.places.third f);
  },
)
  where
    of_third : (o : Option Pos) → third ≡ unwrap_or o first → MatchOption o (third ≡ first) (λ p. third ≡ p)
    of_third None g = g
    of_third (Some p) g = g

-- ---- each link occurs

-- every number is below their end
pub numbers_below : {n m : ℕ} {xs : List ℕ} → Numbers n xs m → All (λ k. k < m) xs
numbers_below {m = m} no_more = All-nil (λ k. k < m)
numbers_below {m = m} (known {x = x} {xs = xs} l h) = let g = numbers_grow h in All-cons (λ k. k < m) x xs (omega (arith, l, g)) (numbers_below h)
numbers_below {n = n} {m = m} (new {xs = xs} h) = let g = numbers_grow h in All-cons (λ k. k < m) n xs (omega (arith, g)) (numbers_below h)

some_place : (x : ℕ) (os : List Occ) → In x (link_numbers os) → 0 < length (places_among x os)
some_place x [] h = absurd h
some_place x (o ∷ os) h = go (o.link == x) refl h (some_place x os)
  where
    same : (a b : ℕ) → a ≡ b → (a == b) ≡ true
    same a b h = grind (arith, nat_tests)

    go : (t : Bool) → (o.link == x) ≡ t → In x (link_numbers (o ∷ os)) → (In x (link_numbers os) → 0 < length (places_among x os))
        → 0 < length (map (λ (o : Occ). o.pos) (if t then o ∷ filter (λ o. o.link == x) os else filter (λ o. o.link == x) os))
    go true e h more = omega arith
    go false e (inl f) more = absurd (let g = same o.link x f in absurd_tests g e)
      where
        absurd_tests : {t : Bool} → t ≡ true → t ≡ false → ⊥
        absurd_tests g e = cc
    go false e (inr i) more = more i

-- a link that occurs has a first place
has_first : (ps : List Pos) (t : Tally) → IsTally ps t → 0 < length ps → IsSome t.places.first
has_first ps t h l = let n = length_permutation ps h.first.rising h.first.sorted.same in of_list h.first.rising t.places.first h.first.first.first (omega (arith, l, n))
  where
    of_list : (qs : List Pos) (o : Option Pos) → o ≡ slice_get qs 0 → 0 < length qs → IsSome o
    of_list [] o e l = absurd (omega (arith, l))
    of_list (q ∷ qs) o e l = ap is_some e

either_some : (o p : Option Pos) → IsSome o ⊎ IsSome p → IsSome (option_or o p)
either_some (Some q) p h = refl
either_some None p (inl h) = absurd (cc)
either_some None p (inr h) = h

module _ (head body : Level) (n : ℕ) (heads bodies : List Tally) (numbered : Numbers 0 (links_of head ++ links_of body) n)
    (h : (length heads ≡ n) × AreTallies (occurrences_of head) heads) (b : (length bodies ≡ n) × AreTallies (occurrences_of body) bodies) where
  pub each_occurs : EachOccurs heads bodies
  each_occurs x t u r s =
      let l = slice_get_within heads x t r in
      let size = h.0 in
      either_some t.places.first u.places.first (go (in_either x (links_of head) (links_of body) (numbers_in numbered x (omega arith) (omega (arith, l, size)))))
    where
      go : In x (links_of head) ⊎ In x (links_of body) → IsSome t.places.first ⊎ IsSome u.places.first
      go (inl i) = inl (has_first (places_among x (occurrences_of head)) t (h.1 x t r) (some_place x (occurrences_of head) i))
      go (inr i) = inr (has_first (places_among x (occurrences_of body)) u (b.1 x u s) (some_place x (occurrences_of body) i))

-- ---- one entry after another

same_joined : (h g b c : Tally) (u v : LinkUse) → h ≡ g → b ≡ c → u ≡ v → IsJoinedEntry h b u → IsJoinedEntry g c v
same_joined h g b c u v e f k j =
    let P : Tally → Type 0 = λ t. IsJoinedEntry t b u in
    let Q : Tally → Type 0 = λ t. IsJoinedEntry g t u in
    let R : LinkUse → Type 0 = λ w. IsJoinedEntry g c w in
    subst R k (subst Q f (subst P e j))

module _ (heads bodies : List Tally) where
  pub entries_none : (table : List LinkUse) → table ≡ [] → (length table ≡ 0) × EachJoined heads bodies table
  entries_none table e = (ap length e, λ x h b u r s t. let P : List LinkUse → Type 0 = λ us. slice_get us x ≡ Some u in absurd (nothing x u (subst P e t)))
    where
      nothing : (x : ℕ) (u : LinkUse) → slice_get [] x ≡ Some u → ⊥
      nothing x u r = cc

  pub entries_next : (i : ℕ) (table longer : List LinkUse) (h b : Tally) (u : LinkUse) → (length table ≡ i) × EachJoined heads bodies table → slice_get heads i ≡ Some h → slice_get bodies i ≡ Some b
      → IsJoinedEntry h b u → longer ≡ table ++ u ∷ [] → (length longer ≡ i + 1) × EachJoined heads bodies longer
  entries_next i table longer h b u before r s joined e =
      let size = length-append table (u ∷ []) in
      let whole = ap length e in
      let was = before.0 in
      (omega (arith, size, whole, was), λ x g c v p q t. let P : List LinkUse → Type 0 = λ us. slice_get us x ≡ Some v in go x g c v p q (get_either table u x v (subst P e t)))
    where
      go : (x : ℕ) (g c : Tally) (v : LinkUse) → slice_get heads x ≡ Some g → slice_get bodies x ≡ Some c → (slice_get table x ≡ Some v) ⊎ ((x ≡ length table) × (u ≡ v)) → IsJoinedEntry g c v
      go x g c v p q (inl t) = before.1 x g c v p q t
      go x g c v p q (inr t) =
          let at : x ≡ i = t.0 ∙ before.0 in
          let R : ℕ → Type 0 = λ y. slice_get heads y ≡ Some g in
          let S : ℕ → Type 0 = λ y. slice_get bodies y ≡ Some c in
          let g_is : h ≡ g = same_Some h g (sym r ∙ subst R at p) in
          let c_is : b ≡ c = same_Some b c (sym s ∙ subst S at q) in
          same_joined h g b c u v g_is c_is t.1 joined

  pub entries_all : (table : List LinkUse) (i n : ℕ) → (length table ≡ i) × EachJoined heads bodies table → n ≤ i → i ≤ n → n ≡ length heads → IsJoinedTable heads bodies table
  entries_all table i n before l m e = let was = before.0 in record { links = omega (arith, l, m, e, was); each = before.1 }

same_alone : (t r : Tally) (u v : LinkUse) → t ≡ r → u ≡ v → IsOwnTally t u → IsOwnTally r v
same_alone t r u v e k j =
    let P : Tally → Type 0 = λ s. IsOwnTally s u in
    let R : LinkUse → Type 0 = λ w. IsOwnTally r w in
    subst R k (subst P e j)

module _ (tallies : List Tally) where
  pub alone_none : (table : List LinkUse) → table ≡ [] → (length table ≡ 0) × EachAlone tallies table
  alone_none table e = (ap length e, λ x t u r s. let P : List LinkUse → Type 0 = λ us. slice_get us x ≡ Some u in absurd (nothing x u (subst P e s)))
    where
      nothing : (x : ℕ) (u : LinkUse) → slice_get [] x ≡ Some u → ⊥
      nothing x u r = cc

  pub alone_next : (i : ℕ) (table longer : List LinkUse) (t : Tally) (u : LinkUse) → (length table ≡ i) × EachAlone tallies table → slice_get tallies i ≡ Some t
      → IsOwnTally t u → longer ≡ table ++ u ∷ [] → (length longer ≡ i + 1) × EachAlone tallies longer
  alone_next i table longer t u before r alone e =
      let size = length-append table (u ∷ []) in
      let whole = ap length e in
      let was = before.0 in
      (omega (arith, size, whole, was), λ x s v p q. let P : List LinkUse → Type 0 = λ us. slice_get us x ≡ Some v in go x s v p (get_either table u x v (subst P e q)))
    where
      go : (x : ℕ) (s : Tally) (v : LinkUse) → slice_get tallies x ≡ Some s → (slice_get table x ≡ Some v) ⊎ ((x ≡ length table) × (u ≡ v)) → IsOwnTally s v
      go x s v p (inl q) = before.1 x s v p q
      go x s v p (inr q) =
          let at : x ≡ i = q.0 ∙ before.0 in
          let R : ℕ → Type 0 = λ y. slice_get tallies y ≡ Some s in
          same_alone t s u v (same_Some t s (sym r ∙ subst R at p)) q.1 alone

  pub alone_all : (table : List LinkUse) (i n : ℕ) → (length table ≡ i) × EachAlone tallies table → n ≤ i → i ≤ n → n ≡ length tallies → AreAlone tallies table
  alone_all table i n before l m e = let was = before.0 in record { links = omega (arith, l, m, e, was); each = before.1 }

-- ---- the table of a rule, and of a level

rule_places : (head body : Level) (x : ℕ) (u : LinkUse) (hs bs : List Pos) → Rising (places_among x (occurrences_of head)) hs → Rising (places_among x (occurrences_of body)) bs → TellsOf (hs ++ bs) u
    → (ps : List Pos) × RisingPlaces x (head ∷ body ∷ []) ps × TellsOf ps u
rule_places head body x u hs bs h b t =
    let R : List Pos → Type 0 = λ ps. TellsOf (hs ++ ps) u in
    (hs ++ (bs ++ []), places_and h.same h.rise (places_and b.same b.rise no_places), subst R (sym (append-nil bs)) t)

level_places : (level : Level) (x : ℕ) (u : LinkUse) (ps : List Pos) → Rising (places_among x (occurrences_of level)) ps → TellsOf ps u
    → (qs : List Pos) × RisingPlaces x (level ∷ []) qs × TellsOf qs u
level_places level x u ps h t =
    let R : List Pos → Type 0 = λ qs. TellsOf qs u in
    (ps ++ [], places_and h.same h.rise no_places, subst R (sym (append-nil ps)) t)

module _ (head body : Level) (n : ℕ) (heads bodies : List Tally) (table : List LinkUse) (numbered : Numbers 0 (links_of head ++ links_of body) n)
    (h : (length heads ≡ n) × AreTallies (occurrences_of head) heads) (b : (length bodies ≡ n) × AreTallies (occurrences_of body) bodies) (t : IsJoinedTable heads bodies table) where
  pub rule_table : IsTableOf (head ∷ body ∷ []) table
  rule_table =
      let P : ℕ → Type 0 = λ m. NumbersLinks (links_of head ++ links_of body) m in
      let Q : List ℕ → Type 0 = λ xs. NumbersLinks xs (length table) in
      let size : n ≡ length table = sym h.0 ∙ sym t.links in
      record {
        numbered = subst Q (ap (λ xs. links_of head ++ xs) (sym (append-nil (links_of body)))) (subst P size numbered);
        tells = λ x u r.
            let l = slice_get_within table x u r in
            let k = t.links in let m = h.0 in let o = b.0 in
            let hd = read_at heads x (omega (arith, l, k)) in
            let bd = read_at bodies x (omega (arith, l, k, m, o)) in
            let j = t.each x hd.0 bd.0 u hd.1 bd.1 r (places_among x (occurrences_of head)) (places_among x (occurrences_of body)) (h.1 x hd.0 hd.1) (b.1 x bd.0 bd.1) in
            rule_places head body x u j.0 j.1 j.2 j.3 j.4;
      }

module _ (level : Level) (n : ℕ) (tallies : List Tally) (numbered : Numbers 0 (links_of level) n) (h : (length tallies ≡ n) × AreTallies (occurrences_of level) tallies) where
  pub level_table : (table : List LinkUse) → AreAlone tallies table → IsTableOf (level ∷ []) table
  level_table table t =
      let P : ℕ → Type 0 = λ m. NumbersLinks (links_of level) m in
      let Q : List ℕ → Type 0 = λ xs. NumbersLinks xs (length table) in
      let size : n ≡ length table = sym h.0 ∙ sym t.links in
      record {
        numbered = subst Q (sym (append-nil (links_of level))) (subst P size numbered);
        tells = λ x u r.
            let l = slice_get_within table x u r in
            let k = t.links in
            let s = read_at tallies x (omega (arith, l, k)) in
            let j = t.each x s.0 u s.1 r (places_among x (occurrences_of level)) (h.1 x s.0 s.1) in
            level_places level x u j.0 j.1 j.2;
      }

  pub each_occurs_alone : EachOccursAlone tallies
  each_occurs_alone x t r =
      let l = slice_get_within tallies x t r in
      let size = h.0 in
      has_first (places_among x (occurrences_of level)) t (h.1 x t r) (some_place x (occurrences_of level) (numbers_in numbered x (omega arith) (omega (arith, l, size))))
