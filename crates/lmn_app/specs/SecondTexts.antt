-- The second texts of commands: how long they may be, and by which codes they are refused.
use Rattle.std.specs.Prelude.{◌≡◌, ◌⊎◌, ℕ}
use Rattle.lmn_app_words.specs.declared.command.PairKind.{PairKind}
use Rattle.lmn_app_words.specs.declared.command.PairKind.TheVariants.{Bound, Check, Debug, Exec}

-- the most bytes of a second text
abbrev pub second_bytes : PairKind → ℕ
second_bytes Check = 67108864
second_bytes Debug = 65536
second_bytes Exec = 67108864
second_bytes Bound = 65536

-- the code of one that is longer
abbrev pub long_code : PairKind → ℕ
long_code Check = 60
long_code Debug = 70
long_code Exec = 80
long_code Bound = 84

-- the codes by which it is refused
abbrev pub IsSecondCode : PairKind → ℕ → Type 0
IsSecondCode Check code = (code ≡ 60) ⊎ (code ≡ 61) ⊎ (code ≡ 62)
IsSecondCode Debug code = (code ≡ 70) ⊎ (code ≡ 71)
IsSecondCode Exec code = (code ≡ 80) ⊎ (code ≡ 81) ⊎ (code ≡ 82)
IsSecondCode Bound code = (code ≡ 84) ⊎ (code ≡ 85) ⊎ (code ≡ 86)
