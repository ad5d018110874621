use Rattle.lmn_lexer.proofs.ScannerSteps.{nothing_scanned}
use Rattle.lmn_lexer.proofs.scanner.Scanner.new.Goals as goal

pub returns : goal.returns
returns c = λ text. nothing_scanned text c.new.result c.new.ensures
