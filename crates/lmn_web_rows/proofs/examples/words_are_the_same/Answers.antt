use Rattle.std.proofs.Common.{◌≡◌, ◌==◌, Bool, true, false, [], ◌∷◌, List, if◌then◌else◌, refl}
use Rattle.lmn_web_rows.specs.Rows.{Item, blank}
use Rattle.lmn_web_rows.proofs.examples.words_are_the_same.Goals as goal

none_either : (t : Bool) (is : List Item) → is ≡ [] → (if t then is else []) ≡ []
none_either true is e = e
none_either false is e = refl

has_words : (is : List Item) → blank ∷ is ≡ [] → ⊥
has_words is e = absurd cc

pub returns-clause-same : goal.returns-clause-same
returns-clause-same c = λ n. none_either (8 == n) [] refl

pub returns-clause-others : goal.returns-clause-others
returns-clause-others c = λ h. has_words [] (h 8)
