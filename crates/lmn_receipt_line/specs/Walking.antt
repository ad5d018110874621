-- Words of private functions alone: the line of a solid as it is written, one part of a membrane after the other.
use Rattle.std.specs.Prelude.{ℕ, zero, suc, ⊤, ◌≡◌, ◌<◌, ◌≤◌, ◌+◌, ◌*◌, Bool, true, false, List, [], ◌∷◌, ◌++◌, codes, drop, length, map, sum}
use Rattle.std.specs.List.{sum_by}
use Rattle.lmn_base.specs.declared.rule.RuleTree.{RuleTree}
use Rattle.lmn_base.specs.declared.solid.SolidAtom.{SolidAtom}
use Rattle.lmn_base.specs.declared.solid.Region.{Region}
use Rattle.lmn_base.specs.declared.solid.Region.TheFolds.{fold-Region}
use Rattle.lmn_base.specs.declared.solid.Region.TheOpen.{Region-F}
use Rattle.lmn_base.specs.declared.solid.Region.TheViews.{out-Region}
use Rattle.lmn_congruence.specs.Rules.{Name}
use Rattle.lmn_congruence.specs.Translation.{numbered_rule}
use Rattle.lmn_io.specs.Gathering.{SinkState, Adds}
use Rattle.lmn_flatten_plain.specs.Words.{text_of, rule_pieces}
use Rattle.lmn_print_plain.specs.Rows.{any_behind, between_if, in_row}
use Rattle.lmn_print_plain.specs.Stored.{solid_atom_text}
use Rattle.lmn_receipt_line.specs.declared.walk.Left.{Left}
use Rattle.lmn_receipt_line.specs.declared.walk.Left.TheVariants.{All, FromMembrane}
use Rattle.lmn_receipt_line.specs.declared.walk.Place.{Place}

-- the rule with a number
abbrev pub rule_text : List Name → List RuleTree → ℕ → List ℕ
rule_text names table k = text_of (rule_pieces (numbered_rule names table k))

-- the items of a membrane, by the texts of the membranes in it
abbrev pub item_texts : List Name → List RuleTree → Region-F (List ℕ) → List (List ℕ)
item_texts names table r = map (solid_atom_text names) r.atoms ++ (r.membranes ++ map (rule_text names table) r.rules)

-- a membrane with its braces
abbrev pub membrane_step : List Name → List RuleTree → Region-F (List ℕ) → List ℕ
membrane_step names table r = codes "{" ++ (in_row (codes ", ") false (item_texts names table r) ++ codes "}")

abbrev pub membrane_text : List Name → List RuleTree → Region → List ℕ
membrane_text names table = fold-Region (List ℕ) (membrane_step names table)

-- the items of a region
abbrev pub texts_in : List Name → List RuleTree → Region → List (List ℕ)
texts_in names table r =
    map (solid_atom_text names) (out-Region r).atoms
    ++ (map (membrane_text names table) (out-Region r).membranes ++ map (rule_text names table) (out-Region r).rules)

-- whether an item stands before the membrane of a number
abbrev pub any_before : List SolidAtom → ℕ → Bool
any_before [] zero = false
any_before [] (suc n) = true
any_before (a ∷ atoms) n = true

-- what is left to write of the items of a region
abbrev pub left_in : List Name → List RuleTree → List ℕ → Region → Left → List ℕ
left_in names table between r All = in_row between false (texts_in names table r)
left_in names table between r (FromMembrane n) =
    in_row between (any_before (out-Region r).atoms n)
    (map (membrane_text names table) (drop n (out-Region r).membranes) ++ map (rule_text names table) (out-Region r).rules)

-- what is left to write of membranes that are open, the outermost first, each with its brace
abbrev pub left_inside : List Name → List RuleTree → List Place → List ℕ
left_inside names table [] = []
left_inside names table (p ∷ ps) = left_inside names table ps ++ (left_in names table (codes ", ") p.region.now p.left ++ codes "}")

-- the same where the outermost is the root
abbrev pub left_open : List Name → List RuleTree → List Place → List ℕ
left_open names table [] = []
left_open names table (p ∷ ps) = left_inside names table ps ++ left_in names table (codes ". ") p.region.now p.left

-- what stands between two items in the innermost membrane, where these stand round it, and what stands at its end
abbrev pub between_inside : List Place → List ℕ
between_inside [] = codes ". "
between_inside (p ∷ ps) = codes ", "

abbrev pub end_inside : List Place → List ℕ
end_inside [] = []
end_inside (p ∷ ps) = codes "}"

-- a place of which another part is left
abbrev pub with_left : Left → Place → Place
with_left left p = record { region = p.region; number = p.number; left = left }

-- how many steps are left, at most
abbrev pub steps_at : Left → ℕ
steps_at All = 2
steps_at (FromMembrane n) = 1

abbrev pub steps_open : List Place → ℕ
steps_open [] = 0
steps_open (p ∷ ps) = steps_at p.left + steps_open ps

abbrev pub steps_left : List Name → List RuleTree → List Place → ℕ
steps_left names table ps = 3 * length (left_open names table ps) + steps_open ps

-- how many membranes there are in a region, itself included
abbrev pub count_step : Region-F ℕ → ℕ
count_step r = suc (sum r.membranes)

abbrev pub membrane_count : Region → ℕ
membrane_count = fold-Region ℕ count_step

-- how many of them are still to be entered
abbrev pub ahead_in : Region → Left → ℕ
ahead_in r All = sum_by membrane_count (out-Region r).membranes
ahead_in r (FromMembrane n) = sum_by membrane_count (drop n (out-Region r).membranes)

abbrev pub ahead : List Place → ℕ
ahead [] = 0
ahead (p ∷ ps) = ahead_in p.region.now p.left + ahead ps

-- the numbers of open membranes lie below a bound
abbrev pub AreBelow : ℕ → List Place → Type 0
AreBelow most [] = ⊤
AreBelow most (p ∷ ps) = (p.number < most) × AreBelow most ps

-- and so do those of the membranes that are still to be entered
abbrev pub IsWithin : ℕ → List Place → ℕ → Type 0
IsWithin most ps entered = (entered + ahead ps ≤ most) × AreBelow most ps

-- One step of the walk, from the membranes that are open to those that are then: a part was written of what is left.
pub record Steps (names : List Name) (table : List RuleTree) (ps qs : List Place) (entered now : ℕ) (before after : SinkState) : Type 0 where
  pub written : List ℕ
  pub adds : Adds written before after
  pub rest : left_open names table ps ≡ written ++ left_open names table qs
  pub fewer : steps_left names table qs < steps_left names table ps
  pub within : (most : ℕ) → IsWithin most ps entered → IsWithin most qs now

-- the line of a region
abbrev pub line_end : List Name → List RuleTree → Region → List ℕ
line_end names table r = between_if (codes ".") (any_behind false (texts_in names table r)) ++ codes "\n"

abbrev pub line_text : List Name → List RuleTree → Region → List ℕ
line_text names table r = in_row (codes ". ") false (texts_in names table r) ++ line_end names table r
