-- What two texts begin with alike, and which membranes end before what they end with. Contracts of private functions alone cite these words.
use Rattle.std.specs.Prelude.{ℕ, ◌+◌, ◌==◌, ◌<◌, ◌≤◌, if◌then◌else◌, not, List, [], ◌∷◌, filter, get_or, length}
use Rattle.std.specs.Char.{is_ascii_digit}

-- a text without its digits: so links have no numbers
abbrev pub blurred : List ℕ → List ℕ
blurred bytes = filter (λ b. not (is_ascii_digit b)) bytes

-- the longest text with which both begin
abbrev pub alike : List ℕ → List ℕ → List ℕ
alike [] ys = []
alike (x ∷ xs) [] = []
alike (x ∷ xs) (y ∷ ys) = if x == y then x ∷ alike xs ys else []

-- how often a byte is in a text
abbrev pub times : ℕ → List ℕ → ℕ
times b [] = 0
times b (x ∷ xs) = (if x == b then 1 else 0) + times b xs

-- By the depths of membranes in preorder, the one with a number ends before another one, and with that and behind it more begin than are closed.
abbrev pub EndsBefore : List ℕ → ℕ → ℕ → Type 0
EndsBefore depths closed m = (i : ℕ) × (m < i) × (get_or depths i 0 ≤ get_or depths m 0) × (i + closed < length depths)
