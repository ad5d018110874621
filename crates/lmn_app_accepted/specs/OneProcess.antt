-- One text is one process, whatever the list of names by which its names have numbers.
use Rattle.std.specs.Prelude.{ℕ, ◌≡◌, List, length}
use Rattle.lmn_base.specs.declared.rule.Plain.{Plain}
use Rattle.lmn_base.specs.Names.{IsNames, NamesPlain}
use Rattle.lmn_congruence.specs.Rules.{Name}
use Rattle.lmn_congruence.specs.Translation.{numbered_rule, top_of, plain_process}
use Rattle.lmn_app_reading.specs.Texts.{ReadsAs, LeavesNames}

-- Two plains, each with a list of names, are one process:
--   count      they have as many rules
--   rules      the rules with one number are one
--   tops       their tops are one, as trees of names
--   processes  and so are their processes
pub record AreOneProcess (names : List Name) (p : Plain) (others : List Name) (q : Plain) : Type 0 where
  pub count : length p.rules ≡ length q.rules
  pub rules : (k : ℕ) → numbered_rule names p.rules k ≡ numbered_rule others q.rules k
  pub tops : top_of names p ≡ top_of others q
  pub processes : plain_process names p ≡ plain_process others q

-- A text that is read with the numbers of two lists, each of which holds the names of its plain, is one process.
abbrev pub OneProcess : Type 0
OneProcess = (text : List ℕ) (names others : List Name) (p q : Plain) → ReadsAs text names p → ReadsAs text others q → NamesPlain names p
    → NamesPlain others q → AreOneProcess names p others q

-- So is a text that is read twice, each time with the names that reading leaves, whatever names there were before.
abbrev pub OneProcessOfReadings : Type 0
OneProcessOfReadings = (text : List ℕ) (before names once others : List Name) (p q : Plain) → IsNames before → LeavesNames text before names
    → IsNames once → LeavesNames text once others → ReadsAs text names p → ReadsAs text others q → AreOneProcess names p others q
