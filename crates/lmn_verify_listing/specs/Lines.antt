-- The lines of listings, and which of them stand in their places.
use Rattle.std.specs.Prelude.{ℕ, ◌≡◌, ◌≢◌, ◌≤◌, ◌<◌, ◌+◌, ◌==◌, nat_lt, Bool, true, false, if◌then◌else◌, List, [], ◌∷◌, ◌++◌, codes, length, bytes_eq, take, slice_index}
use Rattle.std.specs.List.{AllByRecursion}
use Rattle.std.specs.Fmt.{decimal}
use Rattle.lmn_instr_code.specs.declared.instr.Instr.{Instr}
use Rattle.lmn_instr_code.specs.declared.words.Operand.{Operand}
use Rattle.lmn_instr_code.specs.declared.words.Operand.TheVariants.{Functor as Of}
use Rattle.lmn_instr_code.specs.Words.{operands, opcode_of}
use Rattle.lmn_instr_reading.specs.Reading.{IsShortLabel}
use Rattle.lmn_instr_code.specs.Listings.{line}
use Rattle.lmn_instr_code.specs.Opcodes.{form_of, is_in_head}
use Rattle.lmn_verify_listing.specs.Forms.{FitsForm, in_form}

-- the name of an operand has at most 255 bytes
abbrev pub IsShortOperand : List (List ℕ) → Operand → Type 0
IsShortOperand names (Of f) = IsShortLabel names f.label
IsShortOperand names _ = Unit {0}

-- and those of an instruction
abbrev pub HasShortNames : List (List ℕ) → Instr → Type 0
HasShortNames names i = AllByRecursion (IsShortOperand names) (operands i)

-- no byte of a text is this one
abbrev pub HasNo : ℕ → List ℕ → Type 0
HasNo byte text = AllByRecursion (λ b. b ≢ byte) text

-- the place of the first byte of a text that is this one, or its length
pub record IsPlaceOf (byte : ℕ) (text : List ℕ) (at : ℕ) : Type 0 where
  pub within : at ≤ length text
  pub before : HasNo byte (take at text)
  pub there : at < length text → slice_index text at ≡ byte

-- The numbers of an instruction have as many bits as it keeps of them.
pub record FitsInstr (i : Instr) : Type 0 where
  pub first : Operand
  pub second : Operand
  pub third : Operand
  pub parts : List ℕ
  pub fits : FitsForm (form_of (opcode_of i)) first second third parts
  pub are : operands i ≡ in_form (form_of (opcode_of i)) first second third parts

-- The text is the line of an instruction of a head, or of one of a body.
pub record IsLine (in_head : Bool) (text : List ℕ) : Type 0 where
  pub instr : Instr
  pub names : List (List ℕ)
  pub short : HasShortNames names instr
  pub fits : FitsInstr instr
  pub part : is_in_head (opcode_of instr) ≡ in_head
  pub is : line names instr ≡ text

-- ---- which line is due

-- What the line before decides: the first line of a rule's listing is due, a line of its head or of its body, or none.
pub data Due : Type 0 where
  rule : ℕ → Due
  head : ℕ → Due
  body : ℕ → Due
  nothing : Due

-- the first line of the listing of rule j, where there are n rules, or none
abbrev pub due_rule : ℕ → ℕ → Due
due_rule n j = if nat_lt j n then rule j else nothing

-- the text stands where this is due
abbrev pub StandsAs : Due → List ℕ → Type 0
StandsAs (rule j) text = codes "rule " ++ (decimal j ++ codes "\n") ≡ text
StandsAs (head j) text = IsLine true text
StandsAs (body j) text = IsLine false text
StandsAs nothing text = ⊥

-- what is due behind it
abbrev pub due_behind : ℕ → Due → List ℕ → Due
due_behind n (rule j) text = head j
due_behind n (head j) text = if bytes_eq text (codes "  COMMIT\n") then body j else head j
due_behind n (body j) text = if bytes_eq text (codes "  PROCEED\n") then due_rule n (j + 1) else body j
due_behind n nothing text = nothing

-- Lines stand in their places, from where one thing is due to where another is.
abbrev pub Stand : ℕ → Due → List (List ℕ) → Due → Type 0
Stand n d [] e = d ≡ e
Stand n d (l ∷ ls) e = StandsAs d l × Stand n (due_behind n d l) ls e

-- a line with its line feed
abbrev pub IsWholeLine : List ℕ → Type 0
IsWholeLine text = (bytes : List ℕ) × HasNo 10 bytes × (bytes ++ codes "\n" ≡ text)

-- the bytes of some lines, one behind the other
abbrev pub joined_lines : List (List ℕ) → List ℕ
joined_lines [] = []
joined_lines (l ∷ ls) = l ++ joined_lines ls

-- what stands up to the first line feed, with it, or all where there is none
abbrev pub first_line : List ℕ → List ℕ
first_line [] = []
first_line (b ∷ bs) = if b == 10 then b ∷ [] else b ∷ first_line bs

-- Of the listing for n rules line k is the first that doesn't stand in its place, or is missing where one is due.
--   before   the lines before it, which stand in their places
--   due      what is due then
--   rest     what is left of the listing
--   wrong    its first line doesn't stand there
--   more     where nothing is due, something is left
pub record IsWrongLine (n : ℕ) (listing : List ℕ) (k : ℕ) : Type 0 where
  pub before : List (List ℕ)
  pub whole : AllByRecursion IsWholeLine before
  pub due : Due
  pub stand : Stand n (due_rule n 0) before due
  pub rest : List ℕ
  pub cut : joined_lines before ++ rest ≡ listing
  pub wrong : StandsAs due (first_line rest) → ⊥
  pub more : due ≡ nothing → rest ≢ []
  pub number : k ≡ length before + 1
