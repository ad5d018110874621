-- Examples of windows and readings.
use Rattle.std.specs.Prelude.{◌≡◌, ◌⊎◌, ℕ, List, [], ◌∷◌, ◌++◌, length}
use Rattle.std.proofs.Common.{ap, arith, inl, inr, refl, ◌+◌, ◌∙◌}
use Rattle.lmn_receipt_reading.specs.Windows.{HasLine, IsWindow}
use Rattle.lmn_receipt_reading.specs.Readings.{IsRest}
use Rattle.lmn_receipt_reading.specs.Examples.{AllIsReady, ByteIsBehind, CutIsWindow, NameIsKept, NothingIsLost, line_and_byte, reading}

-- no bytes but a line feed at the end have a byte behind one
none_behind : (line behind : List ℕ) (byte : ℕ) → 97 ∷ (10 ∷ []) ≡ line ++ (10 ∷ (byte ∷ behind)) → ⊥
none_behind [] behind byte is = cc
none_behind (a ∷ []) behind byte is = cc
none_behind (a ∷ (b ∷ line)) behind byte is = longer line (ap length is)
  where
    longer : (line : List ℕ) → 2 ≡ length (a ∷ (b ∷ (line ++ (10 ∷ (byte ∷ behind))))) → ⊥
    longer [] e = omega (arith, e)
    longer (x ∷ xs) e = omega (arith, e)

pub byte_is_behind : ByteIsBehind
byte_is_behind = (record { line = 97 ∷ []; byte = 98; behind = []; holds = refl }, λ h. none_behind h.line h.behind h.byte h.holds)

pub cut_is_window : CutIsWindow
cut_is_window = (inr (tt, record { line = 97 ∷ []; byte = 98; behind = []; more = 99 ∷ []; holds = refl; begins = refl }), not)
  where
    not : ¬ (IsWindow ⊥ (97 ∷ (10 ∷ (98 ∷ (99 ∷ [])))) line_and_byte)
    not (inl same) = let e = ap length same in omega (arith, e)
    not (inr cut) = cut.0

-- nothing has no line
no_line : HasLine [] → ⊥
no_line h = none h.line h.holds
  where
    none : (line : List ℕ) → [] ≡ line ++ (10 ∷ (h.byte ∷ h.behind)) → ⊥
    none [] e = cc
    none (x ∷ xs) e = cc

pub all_is_ready : AllIsReady
all_is_ready = (record { more = line_and_byte; is = refl; few = omega arith; told = refl }, λ h. nothing_left h, refl, record { within = omega arith; whole = omega arith }, λ r. not r.ahead, record { right = record { within = omega arith; whole = omega arith }; ahead = inl refl })
  where
    not : (◌≡◌ {A = ℕ} 0 3) ⊎ HasLine [] → ⊥
    not (inl e) = absurd (omega (arith, e))
    not (inr h) = no_line h

    nothing_left : IsRest (reading 0 []) [] → ⊥
    nothing_left h = let e : [] ≡ line_and_byte = h.is ∙ h.told in cc

pub nothing_is_lost : NothingIsLost
nothing_is_lost = (
  record { right = record { within = omega arith; whole = omega arith }; last = refl; rest = λ rest h. all rest h; left = omega arith },
  λ r. lost (r.rest (97 ∷ []) record { more = []; is = refl; few = omega arith; told = refl }),
)
  where
    all : (rest : List ℕ) → IsRest (reading 3 line_and_byte) rest → IsRest (reading 0 []) rest
    all rest h =
        let e : rest ≡ line_and_byte = h.is ∙ ap (λ more. line_and_byte ++ more) h.told in
        record { more = line_and_byte; is = e; few = omega arith; told = refl }

    lost : IsRest (reading 0 []) (97 ∷ []) → ⊥
    lost h = let e : 97 ∷ [] ≡ line_and_byte = h.is ∙ h.told in cc

pub name_is_kept : NameIsKept
name_is_kept = (
  record { told = refl; asked = refl; later = λ name. omega arith; name = refl },
  λ s. let e : 97 ∷ [] ≡ [] = s.name in cc,
  λ rose. omega (arith, rose),
)
