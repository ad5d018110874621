-- Items of a body whose links have their places in a table.
use Rattle.std.specs.Prelude.{ℕ, ◌<◌, ◌≤◌, List, [], ◌∷◌, length}
use Rattle.lmn_base.specs.Limits.{most_links}
use Rattle.lmn_compile_head.specs.Tables.{AllBelow}
use Rattle.lmn_solid_bodies.specs.declared.items.BodyItem.{BodyItem}
use Rattle.lmn_solid_bodies.specs.declared.items.BodyItem.TheVariants.{Atom, Connector, Copy, Bound, Membrane, Rest, Rule, Rules}

-- items of a body whose links are below a number, and whose atoms haven't too many
abbrev pub BodyFits : ℕ → List BodyItem → Type 0
BodyFits n [] = Unit {0}
BodyFits n (Atom functor links inside ∷ xs) = (length links ≤ most_links) × AllBelow n links × BodyFits n xs
BodyFits n (Connector left right ∷ xs) = (left < n) × (right < n) × BodyFits n xs
BodyFits n (Copy part link inside ∷ xs) = (link < n) × BodyFits n xs
BodyFits n (Bound integer link inside ∷ xs) = (link < n) × BodyFits n xs
BodyFits n (Membrane inside ∷ xs) = BodyFits n xs
BodyFits n (Rest of closed inside ∷ xs) = BodyFits n xs
BodyFits n (Rule rule inside ∷ xs) = BodyFits n xs
BodyFits n (Rules of inside ∷ xs) = BodyFits n xs

-- body items whose atoms haven't too many links
abbrev pub AllFew : List BodyItem → Type 0
AllFew [] = Unit {0}
AllFew (Atom functor links inside ∷ xs) = (length links ≤ most_links) × AllFew xs
AllFew (Connector left right ∷ xs) = AllFew xs
AllFew (Copy part link inside ∷ xs) = AllFew xs
AllFew (Bound integer link inside ∷ xs) = AllFew xs
AllFew (Membrane inside ∷ xs) = AllFew xs
AllFew (Rest of closed inside ∷ xs) = AllFew xs
AllFew (Rule rule inside ∷ xs) = AllFew xs
AllFew (Rules of inside ∷ xs) = AllFew xs
