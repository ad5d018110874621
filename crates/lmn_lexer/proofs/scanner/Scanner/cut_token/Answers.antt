use Rattle.std.proofs.Common.{◌<◌, not, subst, arith, ap, sym, ◌∙◌, List, ℕ, length, take}
use Rattle.lmn_lexer.specs.Spelling.{IsQuoted}
use Rattle.lmn_lexer.specs.Faults.{TokenFault}
use Rattle.lmn_lexer.specs.Scanners.{IsScanned}
use Rattle.lmn_lexer.proofs.ScannerSteps.{Passes, token_stands, token_scanned, fault_refused, quoted_there}
use Rattle.lmn_lexer.proofs.scanner.Scanner.cut_token.Goals as goal

pub split_at-requires : goal.split_at-requires
split_at-requires c = (token_stands c.args.text.now c.args.self.now c.args.rest.now c.args.bytes c.args.kind c.requires.scanned c.requires.more c.requires.rest c.requires.first).within

pub token_fault-requires : goal.token_fault-requires
token_fault-requires c = λ q.
    let P : List ℕ → Type 0 = λ x. (name : List ℕ) × IsQuoted x name in
    subst P (sym c.split_at.ensures.front) (quoted_there c.args.text.now c.args.self.now c.args.rest.now c.args.bytes c.args.kind c.requires.scanned c.requires.more c.requires.rest c.requires.first q)

pub returns-in-Some-clause-refused : goal.returns-in-Some-clause-refused
returns-in-Some-clause-refused c =
    let P : List ℕ → Type 0 = λ x. TokenFault c.args.kind x c.split_at.result.1.now c.in-Some.code in
    let Q : List ℕ → Type 0 = λ x. TokenFault c.args.kind (take c.args.bytes c.args.rest.now) x c.in-Some.code in
    fault_refused c.args.text.now c.args.self.now c.args.rest.now c.args.bytes c.in-Some.code c.args.kind c.requires.scanned c.requires.more c.requires.rest c.requires.first
    (subst Q c.split_at.ensures.back (subst P c.split_at.ensures.front c.in-Some.ensures))

pub pass-requires-clause-column : goal.pass-requires-clause-column
pass-requires-clause-column c =
    let s = token_stands c.args.text.now c.args.self.now c.args.rest.now c.args.bytes c.args.kind c.requires.scanned c.requires.more c.requires.rest c.requires.first in
    let front = ap length c.split_at.ensures.front in
    omega (arith, s.column)

-- the scanner behind the token
scanned : (c : goal.After-pass) → IsScanned c.args.text.now c.pass.new.self × (c.args.self.now.at < c.pass.new.self.at)
scanned c =
    let P : List ℕ → Type 0 = λ x. (code : ℕ) → TokenFault c.args.kind x c.split_at.result.1.now code → ⊥ in
    let Q : List ℕ → Type 0 = λ x. (code : ℕ) → TokenFault c.args.kind (take c.args.bytes c.args.rest.now) x code → ⊥ in
    let R : List ℕ → Type 0 = λ x. Passes c.args.self.now c.pass.new.self x in
    token_scanned c.args.text.now c.args.self.now c.pass.new.self c.args.rest.now c.args.bytes c.args.kind c.requires.scanned c.requires.more c.requires.rest c.requires.first
    (subst Q c.split_at.ensures.back (subst P c.split_at.ensures.front c.in_default.ensures))
    (subst R c.split_at.ensures.front (record { at = c.pass.ensures.at; line = c.pass.ensures.line; column = c.pass.ensures.column }))
    (c.pass.ensures.tokens ∙ c.in-Ok.ensures.ok)
    (c.pass.ensures.minus ∙ ap not c.is_operand.ensures)

pub returns-clause-scanned : goal.returns-clause-scanned
returns-clause-scanned c = (scanned c).0

pub returns-clause-forth : goal.returns-clause-forth
returns-clause-forth c = (scanned c).1
