-- What reading a program says of its tokens.
use Rattle.std.proofs.Common.{◌≡◌, ℕ, ◌+◌, ◌<◌, ◌≤◌, List, [], ◌∷◌, length, take, slice_get, Some, Result, Ok, Err, IsErrAnd, sym, ◌∙◌, ap, subst, arith, length-append}
use Rattle.std.proofs.lemmas.List.{take-map, length-map, length-take-le}
use Rattle.std.proofs.lemmas.Option.{slice_get_within}
use Rattle.lmn_parser_grammar.specs.Grammar.{Derives, program}
use Rattle.lmn_parser_grammar.specs.Limits.{Passes}
use Rattle.lmn_parser_grammar.specs.Reading.{Owed, stop_at}
use Rattle.lmn_parser_grammar.specs.Refusing.{BeginsProgram, IsRefused, IsWithin}
use Rattle.lmn_lexer.specs.declared.token.Kind.{Kind}
use Rattle.lmn_lexer.specs.declared.token.Kind.TheVariants.{End}
use Rattle.lmn_lexer.specs.declared.token.Token.{Token}
use Rattle.lmn_parser.specs.declared.stop.Stop.{Stop}
use Rattle.lmn_parser.specs.declared.stop.Stop.TheVariants.{At}
use Rattle.lmn_parser_grammar.proofs.Ends.{begun_to_end}
use Rattle.lmn_parser_grammar.proofs.Refusals.{all_begins, refused_plain, refused_before_limit, refused_by_limit, start}
use Rattle.lmn_parser.specs.Outcomes.{Stops, ReadsWhole, reach}
use Rattle.lmn_parser.specs.Syntax.{Clauses}
use Rattle.lmn_parser.specs.Trees.{At as KindAt, IsClauses, IsProgram}
use Rattle.lmn_parser.specs.Faults.{AreKindsOfProgram}
use Rattle.lmn_parser.specs.Parsing.{kinds_of, EndsWithEnd}
use Rattle.lmn_parser.proofs.OneLanguage.{refused_by_trees}
use Rattle.lmn_parser.proofs.Onward.{stops_on}
use Rattle.lmn_parser.proofs.Places.{reach_within, reach_of_ended}

-- where reading stops behind what is read the whole is refused there
pub whole_refused : {X : Type 0} → (ts : List Kind) (q : ℕ) (s : List Owed) (x : Stop) (r : Result X Stop) →
    stop_at ts 0 start ≡ stop_at ts q s → Stops ts q s x → IsErrAnd r (λ y. y ≡ x) → ReadsWhole ts r
whole_refused ts q s x (Ok y) a h f = absurd f
whole_refused ts q s x (Err y) a h f = let P : Stop → Type 0 = Stops ts 0 start in subst P (sym f) (stops_on ts 0 q start s x a h)

-- as many kinds as tokens
pub kinds_length : (ts : List Token) → length (kinds_of ts) ≡ length ts
kinds_length ts = length-map ts (λ t. t.kind)

-- the same tokens stop at the same place
pub stops_there : (ts us : List Token) (x : Stop) (r : ℕ) → us ≡ ts → x ≡ At r → Stops (kinds_of us) 0 start x → Stops (kinds_of ts) 0 start (At r)
stops_there ts us x r e h s =
    let P : List Token → Type 0 = λ z. Stops (kinds_of z) 0 start (At r) in
    let Q : Stop → Type 0 = Stops (kinds_of us) 0 start in
    subst P e (subst Q h s)

-- a place up to a last `End` is that of a token
pub has_token : (ts : List Token) (r : ℕ) → EndsWithEnd ts → r ≤ reach (kinds_of ts) → r < length ts
has_token ts r (before, e) h =
    let l = ap reach e ∙ reach_of_ended before in
    let n = sym (kinds_length ts) ∙ ap length e ∙ length-append before (End ∷ []) in
    omega (arith, h, l, n)

-- where reading stops within the limits the token isn't expected
pub stops_unexpected : (ts : List Token) (r : ℕ) → EndsWithEnd ts → IsWithin (kinds_of ts) → Stops (kinds_of ts) 0 start (At r) → IsRefused AreKindsOfProgram (kinds_of ts) r 10
stops_unexpected ts r ends w s =
    let n = kinds_length ts in
    let lt = has_token ts r ends s.1 in
    let there : r < length (kinds_of ts) = omega (arith, lt, n) in
    refused_by_trees (kinds_of ts) r 10 (refused_plain (kinds_of ts) r w s.0 there)

-- tokens that are read to their end are a program
pub whole_derived : (ts us : List Token) → us ≡ ts → EndsWithEnd ts → stop_at (kinds_of us) 0 start ≡ length (kinds_of us) → Derives program (kinds_of ts)
whole_derived ts us e (before, split) s =
    let P : List Kind → Type 0 = BeginsProgram (Derives program) in
    let D : List Kind → Type 0 = Derives program in
    let b = all_begins (kinds_of us) s in
    subst D (sym split) (begun_to_end before (subst P (ap kinds_of e ∙ split) b))

-- the same tokens are the same tree
pub whole_tree : (ts us : List Token) (tree : Clauses) → us ≡ ts → IsProgram us tree → IsProgram ts tree
whole_tree ts us tree e h = let P : List Token → Type 0 = λ z. IsProgram z tree in subst P e h

-- clauses and `End` are a program
pub program_read : (ts : List Token) (cs : Clauses) (m q : ℕ) → IsClauses ts cs 0 m → (q ≡ m + 1) × KindAt ts m End → length ts ≤ q → q ≤ length ts → IsProgram ts cs
program_read ts cs m q a e low high = (m, a, e.1, omega (arith, e.0, low, high))

-- The tokens are cut behind the first one that passes a limit.
cut_kinds : (ts us : List Token) (m : ℕ) → us ≡ ts → kinds_of (take m us) ≡ take m (kinds_of ts)
cut_kinds ts us m e = ap (λ z. kinds_of (take m z)) e ∙ sym (take-map (λ t. t.kind) m ts)

cut_length : (ts : List Token) (m : ℕ) (k : Kind) → slice_get (kinds_of ts) m ≡ Some k → length (take (m + 1) (kinds_of ts)) ≡ m + 1
cut_length ts m k h = let lt = slice_get_within (kinds_of ts) m k h in length-take-le (m + 1) (kinds_of ts) (omega (arith, lt))

-- a token that passes a limit refuses, where all before it and it are read
pub cut_read : (ts us : List Token) (m code : ℕ) (k : Kind) → us ≡ ts → slice_get (kinds_of ts) m ≡ Some k → IsWithin (take m (kinds_of ts)) →
    Passes code (take m (kinds_of ts)) k → stop_at (kinds_of (take (m + 1) us)) 0 start ≡ length (kinds_of (take (m + 1) us)) → IsRefused AreKindsOfProgram (kinds_of ts) m code
cut_read ts us m code k e h w p s =
    let cut = cut_kinds ts us (m + 1) e in
    refused_by_trees (kinds_of ts) m code
    (refused_by_limit (kinds_of ts) m code k h w p (ap (λ z. stop_at z 0 start) (sym cut) ∙ s ∙ ap length cut ∙ cut_length ts m k h))

cut_stop : (ts us : List Token) (m r : ℕ) (x : Stop) → us ≡ ts → x ≡ At r → Stops (kinds_of (take (m + 1) us)) 0 start x → Stops (take (m + 1) (kinds_of ts)) 0 start (At r)
cut_stop ts us m r x e h s =
    let P : List Kind → Type 0 = λ z. Stops z 0 start (At r) in
    let Q : Stop → Type 0 = Stops (kinds_of (take (m + 1) us)) 0 start in
    subst P (cut_kinds ts us (m + 1) e) (subst Q h s)

-- and where reading stops behind it
pub cut_stopped : (ts us : List Token) (m r code : ℕ) (k : Kind) (x : Stop) → us ≡ ts → x ≡ At r → slice_get (kinds_of ts) m ≡ Some k → IsWithin (take m (kinds_of ts)) →
    Passes code (take m (kinds_of ts)) k → Stops (kinds_of (take (m + 1) us)) 0 start x → m < r → IsRefused AreKindsOfProgram (kinds_of ts) m code
cut_stopped ts us m r code k x e f h w p s lt =
    let t = cut_stop ts us m r x e f s in
    let l = cut_length ts m k h in
    let n = reach_within (take (m + 1) (kinds_of ts)) in
    let there : r ≡ m + 1 = omega (arith, t.1, l, n, lt) in
    refused_by_trees (kinds_of ts) m code (refused_by_limit (kinds_of ts) m code k h w p (t.0 ∙ there))

-- but where reading stops before it that token isn't expected
pub cut_unexpected : (ts us : List Token) (m r : ℕ) (k : Kind) (x : Stop) → us ≡ ts → x ≡ At r → slice_get (kinds_of ts) m ≡ Some k → IsWithin (take m (kinds_of ts)) →
    Stops (kinds_of (take (m + 1) us)) 0 start x → r ≤ m → IsRefused AreKindsOfProgram (kinds_of ts) r 10
cut_unexpected ts us m r k x e f h w s le =
    refused_by_trees (kinds_of ts) r 10 (refused_before_limit (kinds_of ts) m r k h w (cut_stop ts us m r x e f s).0 le)
