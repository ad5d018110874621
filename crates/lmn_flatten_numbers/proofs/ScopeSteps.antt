-- What the numbers, the tallies and the table say together.
use Rattle.std.proofs.Common.{◌≡◌, ℕ, ◌<◌, List, ◌++◌, map, length, slice_get, Option, Some, None, All, sym, ap, ◌∙◌, subst}
use Rattle.std.proofs.lemmas.List.{map-append}
use Rattle.std.proofs.lemmas.List.Elements.{All-contains}
use Rattle.lmn_base.specs.declared.level.Level.{Level}
use Rattle.lmn_base.specs.declared.rule.LinkUse.{LinkUse}
use Rattle.lmn_base.specs.Levels.{links_of, occurrences_of}
use Rattle.lmn_base.specs.Links.{Numbers}
use Rattle.lmn_flatten_numbers.specs.declared.numbering.Numbering.{Numbering}
use Rattle.lmn_flatten_numbers.specs.Numberings.{HasNumber, IsNewNumbering, FollowsNumbering, GivesNumbers}
use Rattle.lmn_flatten_numbers.specs.Renumbered.{renumbered}
use Rattle.lmn_flatten_numbers.specs.Scopes.{KeepsApart, NumbersLevel, NumbersRule}
use Rattle.lmn_flatten_numbers.specs.Tallies.{AreAlone, IsJoinedTable, EachOccurs, EachOccursAlone, AreTallies}
use Rattle.lmn_flatten_numbers.proofs.NumberSteps.{agrees_before, gives_more}
use Rattle.lmn_flatten_numbers.proofs.LevelSteps.{all_left, all_right}
use Rattle.lmn_flatten_numbers.proofs.Renamed.{renumbered_links}
use Rattle.lmn_flatten_numbers.proofs.Tables.{numbers_below, each_occurs, each_occurs_alone, rule_table, level_table}
use Rattle.lmn_flatten_numbers.specs.declared.tally.Tally.{Tally}

-- the numbers as a function
abbrev number_or_none : Option (Option ℕ) → ℕ
number_or_none None = 0
number_or_none (Some None) = 0
number_or_none (Some (Some n)) = n

abbrev number_in : Numbering → ℕ → ℕ
number_in t key = number_or_none (slice_get t.numbers key)

agrees_itself : (t : Numbering) → FollowsNumbering (number_in t) t
agrees_itself t key n h = ap number_or_none h

-- different links have different numbers
apart_in : (t u : Numbering) (links : List ℕ) → GivesNumbers links t u → KeepsApart (number_in u) links
apart_in t u links g a b i j e =
    let x = All-contains (λ key. (n : ℕ) × HasNumber u key n) links a g.numbered i in
    let y = All-contains (λ key. (n : ℕ) × HasNumber u key n) links b g.numbered j in
    let same : x.0 ≡ y.0 = sym (agrees_itself u a x.0 x.1) ∙ e ∙ agrees_itself u b y.0 y.1 in
    let P : ℕ → Type 0 = λ n. HasNumber u a n in
    g.valid.apart a b y.0 (subst P same x.1) y.1

-- ---- a level

module _ (keys : ℕ) (t u : Numbering) (old new : Level) (n : IsNewNumbering keys t) (g : GivesNumbers (links_of old) t u) (r : (to : ℕ → ℕ) → FollowsNumbering to u → new ≡ renumbered to old) (count : ℕ) (c : count ≡ u.count) where
  level_numbers : Numbers 0 (links_of new) count
  level_numbers =
      let P : ℕ → Type 0 = λ k. Numbers k (links_of new) count in
      let Q : List ℕ → Type 0 = λ ks. Numbers t.count ks count in
      let R : ℕ → Type 0 = λ m. Numbers t.count (map (number_in u) (links_of old)) m in
      let links : links_of new ≡ map (number_in u) (links_of old) = ap links_of (r (number_in u) (agrees_itself u)) ∙ renumbered_links (number_in u) old in
      subst P n.none (subst Q (sym links) (subst R (sym c) (g.order (number_in u) (agrees_itself u))))

  pub level_below : All (λ k. k < count) (links_of new)
  level_below = numbers_below level_numbers

  module _ (tallies : List Tally) (h : (length tallies ≡ count) × AreTallies (occurrences_of new) tallies) where
    pub level_occur : EachOccursAlone tallies
    level_occur = each_occurs_alone new count tallies level_numbers h

    pub level_is_numbered : (table : List LinkUse) → AreAlone tallies table → NumbersLevel old new table
    level_is_numbered table j = record {
      to = number_in u;
      apart = apart_in t u (links_of old) g;
      level = r (number_in u) (agrees_itself u);
      table = level_table new count tallies level_numbers h table j;
    }

-- ---- a rule

module _ (keys : ℕ) (t u v : Numbering) (old_head old_body head body : Level) (n : IsNewNumbering keys t) (g : GivesNumbers (links_of old_head) t u) (r : (to : ℕ → ℕ) → FollowsNumbering to u → head ≡ renumbered to old_head)
    (f : GivesNumbers (links_of old_body) u v) (s : (to : ℕ → ℕ) → FollowsNumbering to v → body ≡ renumbered to old_body) (count : ℕ) (c : count ≡ v.count) where
  given : GivesNumbers (links_of old_head ++ links_of old_body) t v
  given = gives_more (links_of old_head) (links_of old_body) t u v g f

  head_is : head ≡ renumbered (number_in v) old_head
  head_is = r (number_in v) (agrees_before (links_of old_body) u v (number_in v) f (agrees_itself v))

  body_is : body ≡ renumbered (number_in v) old_body
  body_is = s (number_in v) (agrees_itself v)

  rule_numbers : Numbers 0 (links_of head ++ links_of body) count
  rule_numbers =
      let P : ℕ → Type 0 = λ k. Numbers k (links_of head ++ links_of body) count in
      let Q : List ℕ → Type 0 = λ ks. Numbers t.count ks count in
      let R : ℕ → Type 0 = λ m. Numbers t.count (map (number_in v) (links_of old_head ++ links_of old_body)) m in
      let links : links_of head ++ links_of body ≡ map (number_in v) (links_of old_head ++ links_of old_body) =
      ap (λ ks. ks ++ links_of body) (ap links_of head_is ∙ renumbered_links (number_in v) old_head)
      ∙ ap (λ ks. map (number_in v) (links_of old_head) ++ ks) (ap links_of body_is ∙ renumbered_links (number_in v) old_body)
      ∙ sym (map-append (number_in v) (links_of old_head) (links_of old_body)) in
      subst P n.none (subst Q (sym links) (subst R (sym c) (given.order (number_in v) (agrees_itself v))))

  pub head_below : All (λ k. k < count) (links_of head)
  head_below = all_left (λ k. k < count) (links_of head) (links_of body) (numbers_below rule_numbers)

  pub body_below : All (λ k. k < count) (links_of body)
  body_below = all_right (λ k. k < count) (links_of head) (links_of body) (numbers_below rule_numbers)

  module _ (heads bodies : List Tally) (h : (length heads ≡ count) × AreTallies (occurrences_of head) heads) (b : (length bodies ≡ count) × AreTallies (occurrences_of body) bodies) where
    pub rule_occur : EachOccurs heads bodies
    rule_occur = each_occurs head body count heads bodies rule_numbers h b

    pub rule_is_numbered : (table : List LinkUse) → IsJoinedTable heads bodies table → NumbersRule old_head old_body head body table
    rule_is_numbered table j = record {
      to = number_in v;
      apart = apart_in t v (links_of old_head ++ links_of old_body) given;
      head = head_is;
      body = body_is;
      table = rule_table head body count heads bodies table rule_numbers h b j;
    }

-- ---- the keys of a rule

module _ (keys : ℕ) (t u : Numbering) (head body : Level) (n : IsNewNumbering keys t) (all : All (λ k. k < keys) (links_of head ++ links_of body)) where
  pub head_keys : All (λ k. k < length t.numbers) (links_of head)
  head_keys = let P : ℕ → Type 0 = λ m. All (λ k. k < m) (links_of head) in subst P (sym n.keys) (all_left (λ k. k < keys) (links_of head) (links_of body) all)

  pub body_keys : GivesNumbers (links_of head) t u → All (λ k. k < length u.numbers) (links_of body)
  body_keys g = let P : ℕ → Type 0 = λ m. All (λ k. k < m) (links_of body) in subst P (sym (g.keys ∙ n.keys)) (all_right (λ k. k < keys) (links_of head) (links_of body) all)

-- the links of a level are within the numbers
pub level_keys : (keys : ℕ) (t : Numbering) (level : Level) → IsNewNumbering keys t → All (λ k. k < keys) (links_of level) → All (λ k. k < length t.numbers) (links_of level)
level_keys keys t level n all = let P : ℕ → Type 0 = λ m. All (λ k. k < m) (links_of level) in subst P (sym n.keys) all
