-- What is said of renamed levels.
use Rattle.std.specs.Prelude.{ℕ, ◌≡◌, map}
use Rattle.lmn_base.specs.declared.level.Level.{Level}
use Rattle.lmn_base.specs.Levels.{links_of}
use Rattle.lmn_flatten_numbers.specs.Renumbered.{renumbered}

-- a level that is renamed twice is renamed by both at once
abbrev pub RenamedTwice : Type 0
RenamedTwice = (f g : ℕ → ℕ) (l : Level) → renumbered g (renumbered f l) ≡ renumbered (λ k. g (f k)) l

-- the links of a renamed level are those of the level, renamed, in the same order
abbrev pub RenamedLinks : Type 0
RenamedLinks = (to : ℕ → ℕ) (l : Level) → links_of (renumbered to l) ≡ map to (links_of l)
