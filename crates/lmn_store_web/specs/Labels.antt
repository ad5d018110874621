-- The number by which the cell of an atom tells its label: its upper half is the class by which atoms are filed, its lower half the label's own.
use Rattle.std.specs.Prelude.{◌≡◌, ℕ, Bool, pos, negsuc, ◌+◌, ◌-◌, ◌*◌, ◌/◌, ◌%◌, ◌^◌, ◌<◌, nat_lt, if◌then◌else◌}
use Rattle.lmn_base.specs.declared.functor.Label.{Label}
use Rattle.lmn_base.specs.declared.functor.Label.TheVariants.{Name, Int}

-- where the integers below 0 begin among the values of a half
abbrev pub NEGATIVES : ℕ
NEGATIVES = 2 ^ 63

-- a half has so many values
abbrev pub HALF : ℕ
HALF = 2 ^ 64

-- so many classes names have; those of integers are before them
abbrev pub CLASSES : ℕ
CLASSES = 2 ^ 15

-- so many integers that are filed by value have: a prime, so that multiples of a power of two are of many classes
abbrev pub VALUES : ℕ
VALUES = 32749

-- what is a label's own: its name, or its integer by its bits
abbrev pub own_of : Label → ℕ
own_of (Name n) = n
own_of (Int (pos k)) = k
own_of (Int (negsuc k)) = HALF - 1 - k

-- All integers have the class 0, or, where they are filed by value, what is left of their bits by a prime, and names have other classes.
abbrev pub class_of : Bool → Label → ℕ
class_of by_value (Name n) = CLASSES + n % CLASSES
class_of by_value (Int z) = if by_value then own_of (Int z) % VALUES else 0

abbrev pub label_number : Bool → Label → ℕ
label_number by_value label = class_of by_value label * HALF + own_of label

-- the integer of some bits
abbrev pub integer_by : ℕ → Label
integer_by n = if nat_lt n NEGATIVES then Int (pos n) else Int (negsuc (HALF - 1 - n))

-- the label of a number, however it was filed
abbrev pub label_by : ℕ → Label
label_by n = if nat_lt (n / HALF) CLASSES then integer_by (n % HALF) else Name (n % HALF)

-- a name of 32 bits, or an integer of 64
abbrev pub IsNarrow : Label → Type 0
IsNarrow (Name n) = n < 2 ^ 32
IsNarrow (Int (pos k)) = k < NEGATIVES
IsNarrow (Int (negsuc k)) = k < NEGATIVES

-- the number of such a label
abbrev pub IsLabelNumber : Bool → ℕ → Type 0
IsLabelNumber by_value n = (label : Label) × IsNarrow label × (n ≡ label_number by_value label)
