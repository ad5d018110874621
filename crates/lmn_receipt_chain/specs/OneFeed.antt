-- Solids whose lines have one line feed, the last byte.
use Rattle.std.specs.Prelude.{List}
use Rattle.std.specs.declared.alloc.Global.{Global}
use Rattle.lmn_base.specs.declared.rule.Plain.{Plain}
use Rattle.lmn_base.specs.declared.solid.Solid.{Solid}
use Rattle.lmn_congruence.specs.Regions.{Region}
use Rattle.lmn_congruence.specs.Rules.{Name}
use Rattle.lmn_congruence.specs.SolidsOfPlains.{IsSolidOf}
use Rattle.lmn_flatten_plain.specs.SolidLines.{as_level}
use Rattle.lmn_flatten_plain.specs.Words.{text_of, top_pieces}
use Rattle.lmn_app_runs.specs.Laws.{IsPrintable, solid_of}
use Rattle.lmn_receipt_chain.specs.Bytes.{NoFeed}
use Rattle.lmn_receipt_chain.specs.Chains.{Continued}

-- the line of a solid is one,
abbrev pub HasOneFeed : Region → Type 0
HasOneFeed S = NoFeed (text_of (top_pieces (as_level S)))

-- and so is that of each solid of a chain from it
abbrev pub HaveOneFeed : Region → Type 0
HaveOneFeed S = (before : List Region) (last : Region) → Continued S before last → HasOneFeed last

-- So it is from the solid of a plain on of which runs can be printed. A box in a condition belongs to an allocator, so one is given.
abbrev pub PrintableHaveOneFeed : Type 0
PrintableHaveOneFeed = (alloc : Global) (names : List Name) (plain : Plain) (s : Solid) → IsPrintable names plain → IsSolidOf plain s → HaveOneFeed (solid_of names plain s)
