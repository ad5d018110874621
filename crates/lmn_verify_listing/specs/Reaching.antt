-- How far a listing is read. No public contract cites a word of this module.
use Rattle.std.specs.Prelude.{ℕ, ◌≡◌, ◌≢◌, ◌≤◌, ◌<◌, ◌+◌, ◌-◌, ◌*◌, ◌⊎◌, Bool, true, false, List, ◌++◌, take, drop, length}
use Rattle.std.specs.List.{AllByRecursion, flat_map}
use Rattle.lmn_base.specs.declared.refusal.Refusal.{Refusal}
use Rattle.lmn_instr_code.specs.declared.instr.Code.{Code}
use Rattle.lmn_instr_code.specs.declared.instr.Instr.{Instr}
use Rattle.lmn_instr_code.specs.declared.instr.Instr.TheVariants.{Commit, Proceed}
use Rattle.lmn_instr_code.specs.Listings.{line, code_listing, HasInstr, HasCode}
use Rattle.lmn_instr_reading.specs.Reading.{AddsNames, NumbersNames}
use Rattle.lmn_verify_code.specs.Operands.{instr_names, code_names}
use Rattle.lmn_instr_code.specs.Words.{opcode_of}
use Rattle.lmn_instr_code.specs.Opcodes.{is_in_head}
use Rattle.lmn_verify_listing.specs.Lines.{Due, rule, head, body, due_rule, Stand, HasNo, IsWholeLine, IsWrongLine, HasShortNames, FitsInstr, joined_lines, first_line}
use Rattle.lmn_verify_listing.specs.Listings.{IsBlock, IsWholeCode, HasPlainLine, HasPlainLines, lines_of, lines_of_all, listings_from}

-- Of the listing for n rules so many bytes are read, all lines up to there stand in their places, this line is the next, and
-- this is due.
pub record Reached (n : ℕ) (listing : List ℕ) (at line : ℕ) (due : Due) : Type 0 where
  pub before : List (List ℕ)
  pub whole : AllByRecursion IsWholeLine before
  pub stand : Stand n (due_rule n 0) before due
  pub cut : joined_lines before ≡ take at listing
  pub within : at ≤ length listing
  pub number : line ≡ length before + 1

-- what is due within the head or the body of rule j, and behind it
abbrev pub due_in : Bool → ℕ → Due
due_in true j = head j
due_in false j = body j

abbrev pub due_out : ℕ → Bool → ℕ → Due
due_out n true j = body j
due_out n false j = due_rule n (j + 1)

-- the instruction that ends a head or a body
abbrev pub last_of : Bool → Instr
last_of true = Commit
last_of false = Proceed

-- The line that begins at a place ends here: with its line feed, or with the listing.
pub record IsLineEnd (listing : List ℕ) (at end : ℕ) : Type 0 where
  pub back : at ≤ end
  pub within : end ≤ length listing
  pub forth : at < length listing → at < end
  pub line : take (end - at) (drop at listing) ≡ first_line (drop at listing)
  pub whole : IsWholeLine (take (end - at) (drop at listing)) ⊎ HasNo 10 (take (end - at) (drop at listing))

-- The line that begins at a place is that of an instruction, and ends here.
pub record IsReadAt (in_head : Bool) (names : List (List ℕ)) (listing : List ℕ) (at : ℕ) (i : Instr) (end : ℕ) : Type 0 where
  pub forth : at < end
  pub within : end ≤ length listing
  pub of : is_in_head (opcode_of i) ≡ in_head
  pub fits : FitsInstr i
  pub named : HasInstr names i
  pub short : HasShortNames names i
  pub text : line names i ≡ take (end - at) (drop at listing)
  pub whole : IsWholeLine (line names i)

-- Between two places of a listing, of which the first is that of this line, stand the lines of these instructions of a head or
-- of a body, and names are put.
pub record AreRead (in_head : Bool) (listing : List ℕ) (before names : List (List ℕ)) (from first at line_number : ℕ) (instrs : List Instr) : Type 0 where
  pub within : at ≤ length listing
  pub count : line_number ≡ first + length instrs
  pub few : from + length instrs ≤ at
  pub puts : AddsNames (3 * (at - from)) before names
  pub order : NumbersNames before (flat_map instr_names instrs) names
  pub text : drop from listing ≡ flat_map (line names) instrs ++ drop at listing
  pub of : AllByRecursion (λ i. (is_in_head (opcode_of i) ≡ in_head) × FitsInstr i) instrs
  pub named : AllByRecursion (HasInstr names) instrs
  pub plain : AllByRecursion (HasPlainLine names) instrs

-- The instructions of a head or of a body so far: none of them ends it.
pub record IsBegun (in_head : Bool) (listing : List ℕ) (before names : List (List ℕ)) (from first at line_number : ℕ) (instrs : List Instr) : Type 0 where
  pub read : AreRead in_head listing before names from first at line_number instrs
  pub others : AllByRecursion (λ i. opcode_of i ≢ opcode_of (last_of in_head)) instrs
  pub reached : (n j : ℕ) → Reached n listing from first (due_in in_head j) → Reached n listing at line_number (due_in in_head j)

-- A head or a body that was read.
pub record IsEnded (in_head : Bool) (listing : List ℕ) (before names : List (List ℕ)) (from first at line_number : ℕ) (instrs : List Instr) : Type 0 where
  pub read : AreRead in_head listing before names from first at line_number instrs
  pub block : IsBlock in_head (last_of in_head) instrs
  pub reached : (n j : ℕ) → Reached n listing from first (due_in in_head j) → Reached n listing at line_number (due_out n in_head j)

-- The listing of the code of rule j was read.
pub record IsReadCode (listing : List ℕ) (before names : List (List ℕ)) (j from first at line_number : ℕ) (code : Code) : Type 0 where
  pub within : at ≤ length listing
  pub count : line_number ≡ first + lines_of code
  pub few : from + lines_of code ≤ at
  pub puts : AddsNames (3 * (at - from)) before names
  pub order : NumbersNames before (code_names code) names
  pub text : drop from listing ≡ code_listing names code j ++ drop at listing
  pub whole : IsWholeCode code
  pub named : HasCode names code
  pub plain : HasPlainLines names code
  pub reached : (n : ℕ) → Reached n listing from first (rule j) → Reached n listing at line_number (due_rule n (j + 1))

-- a line is refused
pub record IsRefusedLine (n : ℕ) (listing : List ℕ) (r : Refusal) : Type 0 where
  pub code : r.code ≡ 81
  pub wrong : IsWrongLine n listing r.pos.line
  pub column : r.pos.column ≡ 1

-- The listings of the codes of the first j rules were read.
pub record AreReadCodes (n : ℕ) (listing : List ℕ) (before names : List (List ℕ)) (j at line_number : ℕ) (codes : List Code) : Type 0 where
  pub within : at ≤ length listing
  pub many : length codes ≡ j
  pub count : line_number ≡ 1 + lines_of_all codes
  pub few : lines_of_all codes ≤ at
  pub puts : AddsNames (3 * at) before names
  pub order : NumbersNames before (flat_map code_names codes) names
  pub text : listings_from names 0 codes ++ drop at listing ≡ listing
  pub whole : AllByRecursion IsWholeCode codes
  pub named : AllByRecursion (HasCode names) codes
  pub plain : AllByRecursion (HasPlainLines names) codes
  pub reached : Reached n listing at line_number (due_rule n j)
