-- What is taken from the front of a text. No public contract cites a word of this module.
use Rattle.std.specs.Prelude.{ℕ, ◌≡◌, ◌<◌, ◌^◌, ◌⊎◌, List, [], ◌∷◌, ◌++◌, codes, map, Option, Some, None}
use Rattle.std.specs.List.{AllByRecursion}
use Rattle.lmn_instr_code.specs.declared.words.Operand.{Operand}
use Rattle.lmn_instr_code.specs.declared.words.Operand.TheVariants as operand
use Rattle.lmn_verify_code.specs.Operands.{operand_names}
use Rattle.lmn_instr_code.specs.Listings.{operand_text, operands_text, HasOperand}
use Rattle.lmn_verify_listing.specs.Lines.{IsShortOperand}
use Rattle.lmn_instr_code.specs.declared.opcode.Kind.{Kind}
use Rattle.lmn_instr_code.specs.declared.opcode.Kind.TheVariants as kind

-- nothing stands behind, or a space first
abbrev pub IsBehind : List ℕ → Type 0
IsBehind rest = (rest ≡ []) ⊎ ((more : List ℕ) × (rest ≡ 32 ∷ more))

-- what may stand behind an operand: nothing behind a functor, which may hold spaces
abbrev pub FollowsKind : Kind → List ℕ → Type 0
FollowsKind kind.Functor rest = rest ≡ []
FollowsKind _ rest = IsBehind rest

abbrev pub Follows : Option Kind → List ℕ → Type 0
Follows None rest = Unit {0}
Follows (Some k) rest = FollowsKind k rest

-- an operand behind a space, whatever the list of names
abbrev pub one_text : List (List ℕ) → Operand → List ℕ
one_text ns o = codes " " ++ operand_text ns o

-- the operand that a form has there, if it has one
abbrev pub some_text : List (List ℕ) → Option Kind → Operand → List ℕ
some_text ns None o = []
some_text ns (Some k) o = one_text ns o

abbrev pub some_names : Option Kind → Operand → List ℕ
some_names None o = []
some_names (Some k) o = operand_names o

abbrev pub HasSome : List (List ℕ) → Option Kind → Operand → Type 0
HasSome ns None o = Unit {0}
HasSome ns (Some k) o = HasOperand ns o

abbrev pub ShortSome : List (List ℕ) → Option Kind → Operand → Type 0
ShortSome ns None o = Unit {0}
ShortSome ns (Some k) o = IsShortOperand ns o

-- the registers of typed contexts, each behind a space
abbrev pub parts_text : List ℕ → List ℕ
parts_text gs = operands_text [] (map operand.Part gs)

abbrev pub AllSmall : List ℕ → Type 0
AllSmall gs = AllByRecursion (λ g. g < 2 ^ 16) gs
