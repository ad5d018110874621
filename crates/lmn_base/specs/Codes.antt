-- The table of refusals: the number and the words of each code.
use Rattle.std.specs.Prelude.{ℕ, ◌≡◌, ◌==◌, ◌&&◌, nat_le, List, [], ◌∷◌, Option, Some, option_map, unwrap_or, codes, IsSome}
use Rattle.std.specs.List.{find}
use Rattle.lmn_base.specs.declared.code.RefusalCode.{RefusalCode}
use Rattle.lmn_base.specs.declared.code.RefusalCode.TheVariants.{TextTooLong, BadByte, NotClosed, IntegerOutOfRange, NameTooLong, FloatingPoint, StringLiteral, InlineCode, Hyperlink, UnexpectedToken, NestingTooDeep, TooManyArguments, LinkOnce, LinkTooOften, LinkOnceInRule, LinkTooOftenInRule, ContextOutsideHeadMembrane, TwoContextsInMembrane, ContextTwiceInHead, ContextNotOnceInBody, ContextNotInHead, RuleContextOutsideHeadMembrane, RuleInHead, ConnectorInHead, EmptyHead, ContextOutsideRule, ContextWithoutType, UnknownGuard, WrongOperands, UnboundContext, RuleTooLarge, ContextInTwoForms, TypedContextNotHeld, ProcessTooLarge, TraceTooLong, NotAFiring, WrongEnd, ScriptTooLong, UnknownCommand, ListingTooLong, NotAListing, CodeNotVerified, WeightsTooLong, BadWeight, RuleNotLowered}

-- The numbers of the codes, each with its words. A code up to 50 refuses the text of a program, one from 60 on the second text of a
-- command.
abbrev pub refusals : List (ℕ × List ℕ)
refusals =
    (1, codes "text too long")
    ∷ (2, codes "bad byte")
    ∷ (3, codes "not closed")
    ∷ (4, codes "integer out of range")
    ∷ (5, codes "name too long")
    ∷ (6, codes "floating-point number")
    ∷ (7, codes "string literal")
    ∷ (8, codes "inline code")
    ∷ (9, codes "hyperlink")
    ∷ (10, codes "unexpected token")
    ∷ (11, codes "nesting too deep")
    ∷ (12, codes "too many arguments")
    ∷ (20, codes "link occurs once")
    ∷ (21, codes "link occurs too often")
    ∷ (22, codes "link occurs once in rule")
    ∷ (23, codes "link occurs too often in rule")
    ∷ (30, codes "context outside a head membrane")
    ∷ (31, codes "two contexts in one membrane")
    ∷ (32, codes "context twice in head")
    ∷ (33, codes "context not once in body")
    ∷ (34, codes "context not in head")
    ∷ (35, codes "rule context outside a head membrane")
    ∷ (36, codes "rule in head")
    ∷ (37, codes "connector in head")
    ∷ (38, codes "empty head")
    ∷ (39, codes "context outside a rule")
    ∷ (40, codes "context without type")
    ∷ (41, codes "unknown guard")
    ∷ (42, codes "wrong operands")
    ∷ (43, codes "unbound context")
    ∷ (44, codes "rule too large")
    ∷ (45, codes "context in two forms")
    ∷ (46, codes "typed context not held")
    ∷ (50, codes "process too large")
    ∷ (60, codes "trace too long")
    ∷ (61, codes "not a firing of the last process")
    ∷ (62, codes "wrong end")
    ∷ (70, codes "script too long")
    ∷ (71, codes "unknown command")
    ∷ (80, codes "listing too long")
    ∷ (81, codes "not a listing")
    ∷ (82, codes "code not verified")
    ∷ (84, codes "weights too long")
    ∷ (85, codes "bad weight")
    ∷ (86, codes "rule not lowered") ∷ []

-- the words of a number, where it is that of a code
abbrev pub words_of_number : ℕ → List ℕ
words_of_number n = unwrap_or (option_map (λ row. row.1) (find (λ row. n == row.0) refusals)) []

-- a code that refuses the text of a program
abbrev pub IsTextCode : ℕ → Type 0
IsTextCode code = IsSome (find (λ row. (code == row.0) && nat_le row.0 50) refusals)

-- ---- the codes by their names in `src/`, as the contracts that name them tell them

-- the number of a code
abbrev pub code_number : RefusalCode → ℕ
code_number TextTooLong = 1
code_number BadByte = 2
code_number NotClosed = 3
code_number IntegerOutOfRange = 4
code_number NameTooLong = 5
code_number FloatingPoint = 6
code_number StringLiteral = 7
code_number InlineCode = 8
code_number Hyperlink = 9
code_number UnexpectedToken = 10
code_number NestingTooDeep = 11
code_number TooManyArguments = 12
code_number LinkOnce = 20
code_number LinkTooOften = 21
code_number LinkOnceInRule = 22
code_number LinkTooOftenInRule = 23
code_number ContextOutsideHeadMembrane = 30
code_number TwoContextsInMembrane = 31
code_number ContextTwiceInHead = 32
code_number ContextNotOnceInBody = 33
code_number ContextNotInHead = 34
code_number RuleContextOutsideHeadMembrane = 35
code_number RuleInHead = 36
code_number ConnectorInHead = 37
code_number EmptyHead = 38
code_number ContextOutsideRule = 39
code_number ContextWithoutType = 40
code_number UnknownGuard = 41
code_number WrongOperands = 42
code_number UnboundContext = 43
code_number RuleTooLarge = 44
code_number ContextInTwoForms = 45
code_number TypedContextNotHeld = 46
code_number ProcessTooLarge = 50
code_number TraceTooLong = 60
code_number NotAFiring = 61
code_number WrongEnd = 62
code_number ScriptTooLong = 70
code_number UnknownCommand = 71
code_number ListingTooLong = 80
code_number NotAListing = 81
code_number CodeNotVerified = 82
code_number WeightsTooLong = 84
code_number BadWeight = 85
code_number RuleNotLowered = 86

-- the words of a code
abbrev pub code_words : RefusalCode → List ℕ
code_words code = words_of_number (code_number code)

-- all codes: the law `CodesAreNumbered` says that none is missing
abbrev pub all_codes : List RefusalCode
all_codes =
    TextTooLong ∷ BadByte ∷ NotClosed ∷ IntegerOutOfRange ∷ NameTooLong ∷ FloatingPoint ∷ StringLiteral ∷ InlineCode ∷ Hyperlink
    ∷ UnexpectedToken ∷ NestingTooDeep ∷ TooManyArguments ∷ LinkOnce ∷ LinkTooOften ∷ LinkOnceInRule ∷ LinkTooOftenInRule
    ∷ ContextOutsideHeadMembrane ∷ TwoContextsInMembrane ∷ ContextTwiceInHead ∷ ContextNotOnceInBody ∷ ContextNotInHead
    ∷ RuleContextOutsideHeadMembrane ∷ RuleInHead ∷ ConnectorInHead ∷ EmptyHead ∷ ContextOutsideRule ∷ ContextWithoutType
    ∷ UnknownGuard ∷ WrongOperands ∷ UnboundContext ∷ RuleTooLarge ∷ ContextInTwoForms ∷ TypedContextNotHeld ∷ ProcessTooLarge
    ∷ TraceTooLong ∷ NotAFiring ∷ WrongEnd ∷ ScriptTooLong ∷ UnknownCommand ∷ ListingTooLong ∷ NotAListing ∷ CodeNotVerified
    ∷ WeightsTooLong ∷ BadWeight ∷ RuleNotLowered ∷ []

-- the code with a number
abbrev pub code_of : ℕ → Option RefusalCode
code_of n = find (λ code. n == code_number code) all_codes

-- a code is the one that has its number
abbrev pub CodesAreNumbered : Type 0
CodesAreNumbered = (code : RefusalCode) → code_of (code_number code) ≡ Some code

-- and the code with a number has that number
abbrev pub NumbersAreOfCodes : Type 0
NumbersAreOfCodes = (number : ℕ) (code : RefusalCode) → code_of number ≡ Some code → number ≡ code_number code
