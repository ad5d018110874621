-- The codes of the table.
use Rattle.std.proofs.Common.{◌≡◌, ℕ, ◌==◌, Bool, true, false, cond, List, [], ◌∷◌, map, Option, Some, None, option_map, unwrap_or, refl, sym, ap, ◌∙◌}
use Rattle.std.specs.List.{find}
use Rattle.std.proofs.lemmas.Bool.{eqb-true}
use Rattle.std.proofs.lemmas.Option.{same_Some}
use Rattle.lmn_base.specs.declared.code.RefusalCode.{RefusalCode}
use Rattle.lmn_base.specs.declared.code.RefusalCode.TheVariants.{TextTooLong, BadByte, NotClosed, IntegerOutOfRange, NameTooLong, FloatingPoint, StringLiteral, InlineCode, Hyperlink, UnexpectedToken, NestingTooDeep, TooManyArguments, LinkOnce, LinkTooOften, LinkOnceInRule, LinkTooOftenInRule, ContextOutsideHeadMembrane, TwoContextsInMembrane, ContextTwiceInHead, ContextNotOnceInBody, ContextNotInHead, RuleContextOutsideHeadMembrane, RuleInHead, ConnectorInHead, EmptyHead, ContextOutsideRule, ContextWithoutType, UnknownGuard, WrongOperands, UnboundContext, RuleTooLarge, ContextInTwoForms, TypedContextNotHeld, ProcessTooLarge, TraceTooLong, NotAFiring, WrongEnd, ScriptTooLong, UnknownCommand, ListingTooLong, NotAListing, CodeNotVerified, WeightsTooLong, BadWeight, RuleNotLowered}
use Rattle.lmn_base.specs.Codes.{words_of_number, code_number, code_words, all_codes, code_of, CodesAreNumbered, NumbersAreOfCodes}

-- a code is the one that has its number
pub codes_are_numbered : CodesAreNumbered
codes_are_numbered TextTooLong = refl
codes_are_numbered BadByte = refl
codes_are_numbered NotClosed = refl
codes_are_numbered IntegerOutOfRange = refl
codes_are_numbered NameTooLong = refl
codes_are_numbered FloatingPoint = refl
codes_are_numbered StringLiteral = refl
codes_are_numbered InlineCode = refl
codes_are_numbered Hyperlink = refl
codes_are_numbered UnexpectedToken = refl
codes_are_numbered NestingTooDeep = refl
codes_are_numbered TooManyArguments = refl
codes_are_numbered LinkOnce = refl
codes_are_numbered LinkTooOften = refl
codes_are_numbered LinkOnceInRule = refl
codes_are_numbered LinkTooOftenInRule = refl
codes_are_numbered ContextOutsideHeadMembrane = refl
codes_are_numbered TwoContextsInMembrane = refl
codes_are_numbered ContextTwiceInHead = refl
codes_are_numbered ContextNotOnceInBody = refl
codes_are_numbered ContextNotInHead = refl
codes_are_numbered RuleContextOutsideHeadMembrane = refl
codes_are_numbered RuleInHead = refl
codes_are_numbered ConnectorInHead = refl
codes_are_numbered EmptyHead = refl
codes_are_numbered ContextOutsideRule = refl
codes_are_numbered ContextWithoutType = refl
codes_are_numbered UnknownGuard = refl
codes_are_numbered WrongOperands = refl
codes_are_numbered UnboundContext = refl
codes_are_numbered RuleTooLarge = refl
codes_are_numbered ContextInTwoForms = refl
codes_are_numbered TypedContextNotHeld = refl
codes_are_numbered ProcessTooLarge = refl
codes_are_numbered TraceTooLong = refl
codes_are_numbered NotAFiring = refl
codes_are_numbered WrongEnd = refl
codes_are_numbered ScriptTooLong = refl
codes_are_numbered UnknownCommand = refl
codes_are_numbered ListingTooLong = refl
codes_are_numbered NotAListing = refl
codes_are_numbered CodeNotVerified = refl
codes_are_numbered WeightsTooLong = refl
codes_are_numbered BadWeight = refl
codes_are_numbered RuleNotLowered = refl

-- a code that is found by a test, or by what comes later
found : (n m : ℕ) (here code : RefusalCode) (later : Option RefusalCode) → code_number here ≡ m → (cond (n == m) (Some here) later) ≡ Some code → (later ≡ Some code → n ≡ code_number code) → n ≡ code_number code
found n m here code later is e rest = by (n == m) refl e
  where
    by : (b : Bool) → (n == m) ≡ b → cond b (Some here) later ≡ Some code → n ≡ code_number code
    by true t h = eqb-true n m t ∙ sym is ∙ ap code_number (same_Some here code h)
    by false t h = rest h

-- a number without a code is that of none
pub numbers_are_of_codes : NumbersAreOfCodes
numbers_are_of_codes n code e =
    found n 1 TextTooLong code _ refl e (λ e.
    found n 2 BadByte code _ refl e (λ e.
    found n 3 NotClosed code _ refl e (λ e.
    found n 4 IntegerOutOfRange code _ refl e (λ e.
    found n 5 NameTooLong code _ refl e (λ e.
    found n 6 FloatingPoint code _ refl e (λ e.
    found n 7 StringLiteral code _ refl e (λ e.
    found n 8 InlineCode code _ refl e (λ e.
    found n 9 Hyperlink code _ refl e (λ e.
    found n 10 UnexpectedToken code _ refl e (λ e.
    found n 11 NestingTooDeep code _ refl e (λ e.
    found n 12 TooManyArguments code _ refl e (λ e.
    found n 20 LinkOnce code _ refl e (λ e.
    found n 21 LinkTooOften code _ refl e (λ e.
    found n 22 LinkOnceInRule code _ refl e (λ e.
    found n 23 LinkTooOftenInRule code _ refl e (λ e.
    found n 30 ContextOutsideHeadMembrane code _ refl e (λ e.
    found n 31 TwoContextsInMembrane code _ refl e (λ e.
    found n 32 ContextTwiceInHead code _ refl e (λ e.
    found n 33 ContextNotOnceInBody code _ refl e (λ e.
    found n 34 ContextNotInHead code _ refl e (λ e.
    found n 35 RuleContextOutsideHeadMembrane code _ refl e (λ e.
    found n 36 RuleInHead code _ refl e (λ e.
    found n 37 ConnectorInHead code _ refl e (λ e.
    found n 38 EmptyHead code _ refl e (λ e.
    found n 39 ContextOutsideRule code _ refl e (λ e.
    found n 40 ContextWithoutType code _ refl e (λ e.
    found n 41 UnknownGuard code _ refl e (λ e.
    found n 42 WrongOperands code _ refl e (λ e.
    found n 43 UnboundContext code _ refl e (λ e.
    found n 44 RuleTooLarge code _ refl e (λ e.
    found n 45 ContextInTwoForms code _ refl e (λ e.
    found n 46 TypedContextNotHeld code _ refl e (λ e.
    found n 50 ProcessTooLarge code _ refl e (λ e.
    found n 60 TraceTooLong code _ refl e (λ e.
    found n 61 NotAFiring code _ refl e (λ e.
    found n 62 WrongEnd code _ refl e (λ e.
    found n 70 ScriptTooLong code _ refl e (λ e.
    found n 71 UnknownCommand code _ refl e (λ e.
    found n 80 ListingTooLong code _ refl e (λ e.
    found n 81 NotAListing code _ refl e (λ e.
    found n 82 CodeNotVerified code _ refl e (λ e.
    found n 84 WeightsTooLong code _ refl e (λ e.
    found n 85 BadWeight code _ refl e (λ e.
    found n 86 RuleNotLowered code _ refl e (λ e.
    absurd (cc))))))))))))))))))))))))))))))))))))))))))))))

-- a code's row of the table: of all codes they are the table, in its order
abbrev row_of : RefusalCode → ℕ × List ℕ
row_of code = (code_number code, code_words code)

-- where no code has a number, no row has it
no_row : (n : ℕ) (cs : List RefusalCode) → find (λ code. n == code_number code) cs ≡ None → find (λ row. n == row.0) (map row_of cs) ≡ None
no_row n [] e = refl
no_row n (c ∷ cs) e = by (n == code_number c) e (no_row n cs)
  where
    by : (b : Bool) → cond b (Some c) (find (λ code. n == code_number code) cs) ≡ None
        → (find (λ code. n == code_number code) cs ≡ None → find (λ row. n == row.0) (map row_of cs) ≡ None)
        → cond b (Some (row_of c)) (find (λ row. n == row.0) (map row_of cs)) ≡ None
    by true h rest = absurd (cc)
    by false h rest = rest h

-- a number that no code has is without words
pub no_words : (n : ℕ) → code_of n ≡ None → words_of_number n ≡ []
no_words n e = ap (λ found. unwrap_or (option_map (λ row. row.1) found) []) (no_row n all_codes e)
