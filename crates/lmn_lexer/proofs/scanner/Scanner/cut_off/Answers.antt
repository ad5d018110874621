use Rattle.std.proofs.Common.{◌<◌, arith}
use Rattle.lmn_lexer.specs.Scanners.{IsScanned}
use Rattle.lmn_lexer.proofs.ScannerSteps.{gap_stands, wrong_stands, gap_scanned, wrong_refused}
use Rattle.lmn_lexer.proofs.scanner.Scanner.cut_off.Goals as goal

pub slice_bounds-pass-end : goal.slice_bounds-pass-end
slice_bounds-pass-end c = (gap_stands c.args.text.now c.args.self.now c.rest_of-rest.result.now c.in-Gap.bytes c.requires.scanned c.requires.more c.rest_of-rest.ensures c.in-Gap.ensures).size

pub pass-requires-clause-column : goal.pass-requires-clause-column
pass-requires-clause-column c =
    let s = gap_stands c.args.text.now c.args.self.now c.rest_of-rest.result.now c.in-Gap.bytes c.requires.scanned c.requires.more c.rest_of-rest.ensures c.in-Gap.ensures in
    omega (arith, s.column)

pub slice_bounds-behind-end : goal.slice_bounds-behind-end
slice_bounds-behind-end c = (wrong_stands c.args.text.now c.args.self.now c.rest_of-rest.result.now c.in-Wrong.bytes c.in-Wrong.code c.requires.scanned c.requires.more c.rest_of-rest.ensures c.in-Wrong.ensures).size

pub behind-pos-requires-clause-column : goal.behind-pos-requires-clause-column
behind-pos-requires-clause-column c =
    let s = wrong_stands c.args.text.now c.args.self.now c.rest_of-rest.result.now c.in-Wrong.bytes c.in-Wrong.code c.requires.scanned c.requires.more c.rest_of-rest.ensures c.in-Wrong.ensures in
    omega (arith, s.column)

-- the scanner behind a gap
scanned : (c : goal.After-pass) → IsScanned c.args.text.now c.pass.new.self × (c.args.self.now.at < c.pass.new.self.at)
scanned c =
    gap_scanned c.args.text.now c.args.self.now c.pass.new.self c.rest_of-rest.result.now c.in-Gap.bytes c.requires.scanned c.requires.more c.rest_of-rest.ensures c.in-Gap.ensures
    (record { at = c.pass.ensures.at; line = c.pass.ensures.line; column = c.pass.ensures.column }) c.pass.ensures.tokens c.pass.ensures.minus

pub returns-in-Gap-clause-scanned : goal.returns-in-Gap-clause-scanned
returns-in-Gap-clause-scanned c = (scanned c).0

pub returns-in-Gap-clause-forth : goal.returns-in-Gap-clause-forth
returns-in-Gap-clause-forth c = (scanned c).1

pub returns-in-Wrong-clause-refused : goal.returns-in-Wrong-clause-refused
returns-in-Wrong-clause-refused c =
    wrong_refused c.args.text.now c.args.self.now c.rest_of-rest.result.now c.in-Wrong.bytes c.in-Wrong.code c.behind-pos.result c.requires.scanned c.requires.more c.rest_of-rest.ensures c.in-Wrong.ensures
    c.behind-pos.ensures.line c.behind-pos.ensures.column
