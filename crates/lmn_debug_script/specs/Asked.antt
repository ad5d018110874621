-- Orders that can be carried out with a list of names.
use Rattle.std.specs.Prelude.{ℕ, ⊤, ◌≤◌, List, All}
use Rattle.lmn_base.specs.Names.{HasNames, label_names}
use Rattle.lmn_debug_script.specs.declared.order.Order.{Order}
use Rattle.lmn_debug_script.specs.declared.order.Order.TheVariants.{Step, Back, Until, Show}

-- an order's functor is named in the list, and it asks for at most 1,000,000 commits
abbrev pub IsAskedWith : List (List ℕ) → Order → Type 0
IsAskedWith names (Step n) = n ≤ 1000000
IsAskedWith names (Back n) = ⊤
IsAskedWith names (Until f op n) = HasNames names (label_names f.label)
IsAskedWith names Show = ⊤

abbrev pub AreAskedWith : List (List ℕ) → List Order → Type 0
AreAskedWith names orders = All (IsAskedWith names) orders
