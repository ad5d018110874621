-- What the tokens of a text mean, by the numbers of names.
use Rattle.std.specs.Prelude.{ℕ, ◌≡◌, ◌+◌, ◌≤◌, List, ◌++◌, map, length, codes, slice_get, Some}
use Rattle.lmn_base.specs.Limits.{longest_name}
use Rattle.lmn_base.specs.declared.functor.Label.{Label}
use Rattle.lmn_base.specs.declared.functor.Label.TheVariants.{Name, Int}
use Rattle.lmn_base.specs.declared.refusal.Pos.{Pos}
use Rattle.lmn_base.specs.Names.{IsNames}
use Rattle.lmn_congruence.specs.Rules as tree
use Rattle.lmn_lexer.specs.declared.token.Kind.{Kind}
use Rattle.lmn_lexer.specs.declared.token.Kind.TheVariants as kind
use Rattle.lmn_lexer.specs.declared.token.Token.{Token}
use Rattle.lmn_lexer.specs.Faults.{SpelledInRange}
use Rattle.lmn_lexer.specs.Laying.{Word, words_of}
use Rattle.lmn_lexer.specs.Spelling.{IsQuoted}
use Rattle.lmn_lexer.specs.Values.{bytes_of}
use Rattle.lmn_flatten_plain.specs.Meanings.{word_at, place_at, label_spelled}
use Rattle.lmn_flatten.specs.declared.glossary.Entry.{Entry}
use Rattle.lmn_flatten.specs.declared.glossary.Glossary.{Glossary}
use Rattle.lmn_flatten.specs.declared.glossary.Meaning.{Meaning}
use Rattle.lmn_flatten.specs.declared.glossary.Meaning.TheVariants as meaning

-- the words of a text's tokens and their places, the names of atoms and contexts, and the names of links
pub record Reading : Type 0 where
  pub words : List Word
  pub places : List Pos
  pub names : List tree.Name
  pub links : List tree.Name

-- the label with the number of its name in a list
abbrev pub IsLabel : List tree.Name → tree.Label → Label → Type 0
IsLabel names (tree.named n) l = (k : ℕ) × (l ≡ Name k) × (slice_get names k ≡ Some n)
IsLabel names (tree.integer z) l = l ≡ Int z

-- what a word means, where names and links have numbers
abbrev pub IsMeaning : List tree.Name → List tree.Name → Word → Meaning → Type 0
IsMeaning names links w (meaning.Label l) = IsLabel names (label_spelled w.kind w.bytes) l
IsMeaning names links w (meaning.Link k) = slice_get links k ≡ Some w.bytes
IsMeaning names links w meaning.Sign = Unit {0}

-- the entries of tokens
abbrev pub AreEntries : Reading → List Entry → Type 0
AreEntries r es = (p : ℕ) (e : Entry) → slice_get es p ≡ Some e
    → (e.pos ≡ place_at r.words r.places p) × IsMeaning r.names r.links (word_at r.words r.places p) e.meaning

-- The glossary has the tokens of the text, and the names of both lists have one number each.
pub record IsGlossary (r : Reading) (g : Glossary) : Type 0 where
  pub entries : AreEntries r g.entries
  pub cell : slice_get r.names g.cell ≡ Some (codes ".")
  pub empty : slice_get r.names g.empty ≡ Some (codes "[]")
  pub plus : slice_get r.names g.plus ≡ Some (codes "+")
  pub names : IsNames r.names
  pub links : IsNames r.links

-- the glossary is that of some reading
abbrev pub IsKnown : Glossary → Type 0
IsKnown g = (r : Reading) × IsGlossary r g

-- a list of names grew at its end, by so many at most
pub record GrowsBy (n : ℕ) (old new : List tree.Name) : Type 0 where
  pub more : List tree.Name
  pub grown : new ≡ old ++ more
  pub few : length more ≤ n

-- a word whose name isn't too long, or whose integer has 64 bits
abbrev pub IsRightWord : Kind → List ℕ → Type 0
IsRightWord kind.Name bytes = length bytes ≤ longest_name
IsRightWord kind.Mod bytes = length bytes ≤ longest_name
IsRightWord kind.Link bytes = length bytes ≤ longest_name
IsRightWord kind.Quoted bytes = (name : List ℕ) × IsQuoted bytes name × (length name ≤ longest_name)
IsRightWord kind.Context bytes = (1 ≤ length bytes) × (length bytes ≤ 1 + longest_name)
IsRightWord kind.RuleCtx bytes = (1 ≤ length bytes) × (length bytes ≤ 1 + longest_name)
IsRightWord kind.Int bytes = SpelledInRange bytes
IsRightWord _ bytes = Unit {0}

-- a token that stands in the text and is such a word there
pub record IsRightToken (text : List ℕ) (t : Token) : Type 0 where
  pub forth : t.start ≤ t.end
  pub within : t.end ≤ length text
  pub right : IsRightWord t.kind (bytes_of text t)

-- the reading of a text by its tokens
abbrev pub reading_of : List ℕ → List Token → List tree.Name → List tree.Name → Reading
reading_of text tokens names links = record { words = words_of text tokens; places = map (λ t. t.pos) tokens; names = names; links = links }

-- entries for tokens, by the names of a list and some names of links
abbrev pub HasEntries : List ℕ → List Token → List tree.Name → List Entry → Type 0
HasEntries text tokens names es = (links : List tree.Name) × IsNames names × IsNames links × AreEntries (reading_of text tokens names links) es
