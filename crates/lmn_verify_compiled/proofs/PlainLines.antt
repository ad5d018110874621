-- The lines of instructions whose numbers fit are whole, where names have no line feed.
use Rattle.std.proofs.Common.{◌≡◌, ◌≢◌, ◌≤◌, ◌<◌, ◌^◌, ◌==◌, not, ℕ, zero, suc, Bool, true, false, if◌then◌else◌, List, [], ◌∷◌, ◌++◌, length, map, refl, sym, ap, subst, arith}
use Rattle.std.specs.Prelude.{Option, Some, None, codes, slice_index_or}
use Rattle.std.specs.List.{flat_map, list_all, AllByRecursion}
use Rattle.std.specs.Fmt.{decimal}
use Rattle.std.proofs.lemmas.List.{append_assoc}
use Rattle.std.proofs.lemmas.List.Concat.{flat_map-append}
use Rattle.lmn_base.proofs.Lists.{all_append}
use Rattle.lmn_base.specs.declared.functor.Label.{Label}
use Rattle.lmn_base.specs.declared.functor.Label.TheVariants.{Name, Int}
use Rattle.lmn_lexer.specs.NameText.{name_text, quoted, quoted_byte}
use Rattle.lmn_lexer.specs.Spelling.{is_bare_name}
use Rattle.lmn_instr_code.specs.declared.instr.Code.{Code}
use Rattle.lmn_instr_code.specs.declared.instr.Instr.{Instr}
use Rattle.lmn_instr_code.specs.Labels.{listed_label_text}
use Rattle.lmn_instr_code.specs.Words.{mnemonic, operands, opcode_of}
use Rattle.lmn_instr_code.specs.declared.opcode.Opcode.{Opcode}
use Rattle.lmn_instr_code.specs.declared.opcode.Opcode.TheVariants as opcode
use Rattle.lmn_instr_code.specs.declared.opcode.Kind.{Kind}
use Rattle.lmn_instr_code.specs.declared.opcode.Kind.TheVariants as kind
use Rattle.lmn_instr_code.specs.declared.words.Operand.{Operand}
use Rattle.lmn_instr_code.specs.declared.words.Operand.TheVariants as operand
use Rattle.lmn_instr_code.specs.Listings.{operand_text, operands_text}
use Rattle.lmn_instr_code.specs.Opcodes.{opcode_name, form_of}
use Rattle.lmn_verify_listing.specs.Forms.{FitsLabel, FitsKind, FitsSome, some_operand}
use Rattle.lmn_verify_listing.specs.Lines.{HasNo, IsShortOperand, FitsInstr}
use Rattle.lmn_verify_listing.specs.Listings.{IsWholeCode, HasPlainLine, HasPlainLines}
use Rattle.lmn_verify_code.specs.Verified.{IsVerified}
use Rattle.lmn_verify_listing.proofs.Places.{has_no_by_test, has_no_decimal, has_no_signed}
use Rattle.lmn_verify_compiled.specs.AcceptedCodes.{TablesAreVerified}
use Rattle.lmn_verify_compiled.specs.Kept.{IsKeptCode}
use Rattle.lmn_verify_compiled.specs.ListedTables.{ArePlainNames, VerifiedAreListed, TablesAreListed}
use Rattle.lmn_verify_compiled.proofs.WholeCodes.{verified_is_whole, verified_fits}

abbrev NoFeed : List ℕ → Type 0
NoFeed text = HasNo 10 text

both : (xs ys : List ℕ) → NoFeed xs → NoFeed ys → NoFeed (xs ++ ys)
both xs ys h g = all_append (λ b. b ≢ 10) xs ys h g

number : (n : ℕ) → n < 2 ^ 64 → NoFeed (decimal n)
number n l = has_no_decimal 10 n (omega arith) l

-- ---- names

a_name : (names : List (List ℕ)) (n : ℕ) → ArePlainNames names → (length (slice_index_or names n []) ≤ 255) × NoFeed (slice_index_or names n [])
a_name [] n h = (omega arith, tt)
a_name (x ∷ xs) zero h = h.0
a_name (x ∷ xs) (suc n) h = a_name xs n h.1

quoted_plain : (name : List ℕ) → NoFeed name → NoFeed (flat_map quoted_byte name)
quoted_plain [] h = tt
quoted_plain (b ∷ bs) h = both (quoted_byte b) (flat_map quoted_byte bs) (by (b == 39)) (quoted_plain bs h.1)
  where
    by : (t : Bool) → NoFeed (if t then codes "''" else b ∷ [])
    by true = has_no_by_test 10 (codes "''") refl
    by false = (h.0, tt)

text_of_name : (name : List ℕ) → NoFeed name → NoFeed (name_text name)
text_of_name name h = by (is_bare_name name)
  where
    by : (t : Bool) → NoFeed (if t then name else quoted name)
    by true = h
    by false = both (codes "'") (flat_map quoted_byte name ++ codes "'") (has_no_by_test 10 (codes "'") refl) (both (flat_map quoted_byte name) (codes "'") (quoted_plain name h) (has_no_by_test 10 (codes "'") refl))

label : (names : List (List ℕ)) (l : Label) → ArePlainNames names → FitsLabel l → NoFeed (listed_label_text names l)
label names (Name n) h f = text_of_name (slice_index_or names n []) (a_name names n h).1
label names (Int z) h f = has_no_signed 10 z (omega arith) f

-- ---- operands

letter : (c n : ℕ) → c ≢ 10 → n < 2 ^ 16 → NoFeed (c ∷ decimal n)
letter c n d l = (d, number n (omega (arith, l)))

operand_plain : (names : List (List ℕ)) → ArePlainNames names → (k : Kind) (o : Operand) → FitsKind k o → NoFeed (operand_text names o)
operand_plain names h kind.Atom (operand.Atom a) f = letter 65 a (omega arith) f
operand_plain names h kind.Membrane (operand.Membrane m) f = letter 77 m (omega arith) f
operand_plain names h kind.Part (operand.Part g) f = letter 71 g (omega arith) f
operand_plain names h kind.Integer (operand.Integer v) f = letter 86 v (omega arith) f
operand_plain names h kind.Copy (operand.Copy c) f = letter 67 c (omega arith) f
operand_plain names h kind.Port (operand.Port p) f = let a = f.0 in let i = f.1 in both (codes "A") (decimal p.atom ++ (codes "." ++ decimal p.port)) (has_no_by_test 10 (codes "A") refl)
    (both (decimal p.atom) (codes "." ++ decimal p.port) (number p.atom (omega (arith, a))) (both (codes ".") (decimal p.port) (has_no_by_test 10 (codes ".") refl) (number p.port (omega (arith, i)))))
operand_plain names h kind.NewPort (operand.Port p) f = let a = f.0 in let i = f.1 in both (codes "A") (decimal p.atom ++ (codes "." ++ decimal p.port)) (has_no_by_test 10 (codes "A") refl)
    (both (decimal p.atom) (codes "." ++ decimal p.port) (number p.atom (omega (arith, a))) (both (codes ".") (decimal p.port) (has_no_by_test 10 (codes ".") refl) (number p.port (omega (arith, i)))))
operand_plain names h kind.NewPort (operand.Copy c) f = letter 67 c (omega arith) f
operand_plain names h kind.Functor (operand.Functor g) f = let a = f.1 in both (listed_label_text names g.label) (codes "/" ++ decimal g.arity) (label names g.label h f.0)
    (both (codes "/") (decimal g.arity) (has_no_by_test 10 (codes "/") refl) (number g.arity (omega (arith, a))))
operand_plain names h kind.Index (operand.Number n) f = number n (omega (arith, f))
operand_plain names h kind.Count (operand.Number n) f = number n f
operand_plain names h kind.Rule (operand.Number n) f = number n (omega (arith, f))
operand_plain names h kind.Constant (operand.Constant z) f = has_no_signed 10 z (omega arith) f
operand_plain names h _ _ f = absurd f

some_plain : (names : List (List ℕ)) → ArePlainNames names → (k : Option Kind) (o : Operand) → FitsSome k o → NoFeed (operands_text names (some_operand k o))
some_plain names h None o f = tt
some_plain names h (Some k) o f = both (32 ∷ operand_text names o) [] (omega arith, operand_plain names h k o f) tt

parts_plain : (names : List (List ℕ)) (gs : List ℕ) → AllByRecursion (λ g. g < 2 ^ 16) gs → NoFeed (operands_text names (map operand.Part gs))
parts_plain names [] f = tt
parts_plain names (g ∷ gs) f = both (32 ∷ operand_text names (operand.Part g)) (operands_text names (map operand.Part gs)) (omega arith, letter 71 g (omega arith) f.0) (parts_plain names gs f.1)

texts : (names : List (List ℕ)) (xs ys : List Operand) → NoFeed (operands_text names xs) → NoFeed (operands_text names ys) → NoFeed (operands_text names (xs ++ ys))
texts names xs ys h g = subst NoFeed (sym (flat_map-append (λ o. codes " " ++ operand_text names o) xs ys)) (both (operands_text names xs) (operands_text names ys) h g)

operands_plain : (names : List (List ℕ)) (i : Instr) → ArePlainNames names → FitsInstr i → NoFeed (operands_text names (operands i))
operands_plain names i h w =
    let f = form_of (opcode_of i) in
    subst (λ os. NoFeed (operands_text names os)) (sym w.are)
    (texts names (some_operand f.first w.first) (some_operand f.second w.second ++ (some_operand f.third w.third ++ map operand.Part w.parts)) (some_plain names h f.first w.first w.fits.first)
    (texts names (some_operand f.second w.second) (some_operand f.third w.third ++ map operand.Part w.parts) (some_plain names h f.second w.second w.fits.second)
    (texts names (some_operand f.third w.third) (map operand.Part w.parts) (some_plain names h f.third w.third w.fits.third) (parts_plain names w.parts w.fits.parts))))

-- ---- lines

name_plain : (op : Opcode) → list_all (λ b. not (b == 10)) (opcode_name op) ≡ true
name_plain opcode.FindAtom = refl
name_plain opcode.Deref = refl
name_plain opcode.Func = refl
name_plain opcode.InMem = refl
name_plain opcode.NeqAtom = refl
name_plain opcode.Joined = refl
name_plain opcode.NotIn = refl
name_plain opcode.AnyMem = refl
name_plain opcode.NeqMem = refl
name_plain opcode.IsInt = refl
name_plain opcode.IsUnary = refl
name_plain opcode.IsGround = refl
name_plain opcode.NAtoms = refl
name_plain opcode.NMems = refl
name_plain opcode.NoRules = refl
name_plain opcode.IsClosed = refl
name_plain opcode.EqGround = refl
name_plain opcode.NeqGround = refl
name_plain opcode.GetInt = refl
name_plain opcode.Const = refl
name_plain opcode.Add = refl
name_plain opcode.Sub = refl
name_plain opcode.Mul = refl
name_plain opcode.Div = refl
name_plain opcode.Mod = refl
name_plain opcode.Lt = refl
name_plain opcode.Le = refl
name_plain opcode.Gt = refl
name_plain opcode.Ge = refl
name_plain opcode.Eq = refl
name_plain opcode.Ne = refl
name_plain opcode.Commit = refl
name_plain opcode.RemoveAtom = refl
name_plain opcode.RemovePart = refl
name_plain opcode.RemoveMem = refl
name_plain opcode.NewAtom = refl
name_plain opcode.NewInt = refl
name_plain opcode.NewMem = refl
name_plain opcode.CopyGround = refl
name_plain opcode.MoveCells = refl
name_plain opcode.CopyCells = refl
name_plain opcode.LoadRule = refl
name_plain opcode.CopyRules = refl
name_plain opcode.DropCells = refl
name_plain opcode.NewLink = refl
name_plain opcode.Relink = refl
name_plain opcode.Unify = refl
name_plain opcode.Proceed = refl

short : (names : List (List ℕ)) (os : List Operand) → ArePlainNames names → AllByRecursion (IsShortOperand names) os
short names [] h = tt
short names (o ∷ os) h = (one o, short names os h)
  where
    label_short : (l : Label) (a : ℕ) → IsShortOperand names (operand.Functor (record { label = l; arity = a }))
    label_short (Name n) a = (a_name names n h).0
    label_short (Int z) a = tt

    one : (o : Operand) → IsShortOperand names o
    one (operand.Functor f) = label_short f.label f.arity
    one _ = tt

line_plain : (names : List (List ℕ)) (i : Instr) → ArePlainNames names → FitsInstr i → HasPlainLine names i
line_plain names i h w =
    let bytes = 32 ∷ (32 ∷ (mnemonic i ++ operands_text names (operands i))) in
    let name : NoFeed (mnemonic i) = has_no_by_test 10 (opcode_name (opcode_of i)) (name_plain (opcode_of i)) in (
      short names (operands i) h,
      (
        bytes,
        (omega arith, (omega arith, both (mnemonic i) (operands_text names (operands i)) name (operands_plain names i h w))),
        ap (λ t. 32 ∷ (32 ∷ t)) (append_assoc (mnemonic i) (operands_text names (operands i)) (codes "\n")),
      ),
    )

lines_plain : (names : List (List ℕ)) (is : List Instr) → ArePlainNames names → AllByRecursion FitsInstr is → AllByRecursion (HasPlainLine names) is
lines_plain names [] h f = tt
lines_plain names (i ∷ is) h f = (line_plain names i h f.0, lines_plain names is h f.1)

-- ---- codes

all_whole : (k : ℕ) (cs : List Code) → k ≤ 2 ^ 32 → AllByRecursion (λ c. IsVerified c k) cs → AllByRecursion IsKeptCode cs → AllByRecursion IsWholeCode cs
all_whole k [] l v f = tt
all_whole k (c ∷ cs) l v f = (verified_is_whole c k l v.0 f.0, all_whole k cs l v.1 f.1)

all_plain : (names : List (List ℕ)) (k : ℕ) (cs : List Code) → ArePlainNames names → k ≤ 2 ^ 32 → AllByRecursion (λ c. IsVerified c k) cs → AllByRecursion IsKeptCode cs → AllByRecursion (HasPlainLines names) cs
all_plain names k [] h l v f = tt
all_plain names k (c ∷ cs) h l v f = let w = verified_fits c k l v.0 f.0 in ((lines_plain names c.head h w.0, lines_plain names c.body h w.1), all_plain names k cs h l v.1 f.1)

pub verified_are_listed : VerifiedAreListed
verified_are_listed names codes verified few kept named plain =
    record { many = refl; whole = all_whole (length codes) codes few verified kept; named = named; plain = all_plain names (length codes) codes plain few verified kept; are = refl }

pub tables_are_listed : TablesAreVerified → TablesAreListed
tables_are_listed verified names codes is few kept named plain = verified_are_listed names codes (verified codes is) few kept named plain
