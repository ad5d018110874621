-- A printed line is read.
use Rattle.std.proofs.Common.{◌≡◌, ℕ, ◌+◌, List, [], ◌∷◌, ◌++◌, map, length, slice_get, Some, refl, sym, ap, ◌∙◌, subst, arith}
use Rattle.std.specs.Prelude.{codes}
use Rattle.std.proofs.lemmas.List.{append_assoc, length-append, length-drop, length-map}
use Rattle.lmn_base.specs.declared.refusal.Pos.{Pos}
use Rattle.lmn_congruence.specs.Rules as tree
use Rattle.lmn_lexer.specs.declared.token.Kind.{Kind}
use Rattle.lmn_lexer.specs.declared.token.Kind.TheVariants as kind
use Rattle.lmn_lexer.specs.declared.token.Token.{Token}
use Rattle.lmn_lexer.specs.Laying.{Word, last_word}
use Rattle.lmn_parser.specs.Parsing.{kinds_of}
use Rattle.lmn_parser.specs.Syntax.{Item, no_item, item_and, process, Clauses, no_clause, clause_and}
use Rattle.lmn_parser.specs.Trees.{IsClauses, no_clauses, more_clauses, is_process, last_item, IsProgram}
use Rattle.lmn_flatten_plain.specs.Expanded.{ExpandedRule}
use Rattle.lmn_flatten_plain.specs.Parts.{Parts, joined_parts, level_from_parts}
use Rattle.lmn_flatten_plain.specs.Expansion.{expanded_item, expanded_clauses}
use Rattle.lmn_flatten_plain.specs.Expansion.{parts_of}
use Rattle.lmn_flatten_plain.specs.Words.{Piece, word, space, words_in, with_full_stops, top_pieces}
use Rattle.lmn_flatten_plain.specs.Spelled.{LevelSpelled}
use Rattle.lmn_flatten_plain.specs.Agreement.{LevelIs}
use Rattle.lmn_flatten_plain.proofs.Standing.{SameKinds, Stands, stands_as, kind_at, behind}
use Rattle.lmn_flatten_plain.proofs.Gathered.{Printed, gathered, gathered_level, StandFrom, stand_at, stand_apart, added_is}
use Rattle.lmn_flatten_plain.proofs.ReadGuards.{Read, words_behind}
use Rattle.lmn_flatten_plain.proofs.ReadLeaves.{ItemGives}
use Rattle.lmn_flatten_plain.proofs.ReadLevels.{Readable, none, one_and, readable_level, joined_nothing}

-- a table stands in itself

rule_here : (before rs : List ExpandedRule) (r : ExpandedRule) → slice_get (before ++ r ∷ rs) (length before) ≡ Some r
rule_here [] rs r = refl
rule_here (b ∷ bs) rs r = rule_here bs rs r

stand_more : (before rs : List ExpandedRule) → StandFrom (before ++ rs) (length before) rs
stand_more before [] = tt
stand_more before (r ∷ rs) =
    let P : List ExpandedRule → Type 0 = λ t. StandFrom t (length (before ++ r ∷ [])) rs in
    let size = length-append before (r ∷ []) in (
      rule_here before rs r,
      stand_at (before ++ r ∷ rs) rs (length (before ++ r ∷ [])) (length before + 1) size
          (subst P (append_assoc before (r ∷ []) rs) (stand_more (before ++ r ∷ []) rs)),
    )

-- a table has its own rules from 0 on
pub stand_whole : (rs : List ExpandedRule) → StandFrom rs 0 rs
stand_whole rs = stand_more [] rs

-- as many kinds as words
pub size_of : (ks : List Kind) (ws : List Word) → ks ≡ map (λ w. w.kind) ws → length ks ≡ length ws
size_of ks ws e = ap length e ∙ length-map ws (λ w. w.kind)

module _ {tokens : List Token} {words : List Word} (places : List Pos) (same : SameKinds tokens words) where
  abbrev ClausesGive : List Printed → Clauses → Type 0
  ClausesGive is cs = (way : List ℕ) (k : ℕ) (table : List ExpandedRule) → StandFrom table k (expanded_clauses words places way cs k).table
      → LevelIs words places table (level_from_parts (expanded_clauses words places way cs k)) (gathered is)

  clause_then : (i : Printed) (is : List Printed) (x : Item) (cs : Clauses) → ItemGives places same i x → ClausesGive is cs
      → ClausesGive (i ∷ is) (clause_and (process (item_and x no_item)) cs)
  clause_then i is x cs first others way k table =
      let p = expanded_item words places (0 ∷ 0 ∷ way) x k in
      let P : Parts → Type 0 = λ p. StandFrom table k (joined_parts p (expanded_clauses words places (1 ∷ way) cs (k + length p.table))).table
      → LevelIs words places table (level_from_parts (joined_parts p (expanded_clauses words places (1 ∷ way) cs (k + length p.table)))) (gathered (i ∷ is)) in
      subst P (sym (joined_nothing p)) (λ h.
      let q = expanded_clauses words places (1 ∷ way) cs (k + length p.table) in
      let apart = stand_apart table p.table q.table k h in
      added_is words places table q (gathered is) (first (0 ∷ 0 ∷ way) k table apart.0) (others (1 ∷ way) (k + length p.table) table apart.1))

  clauses_read : {pss : List (List Piece)} {is : List Printed} → Readable places same pss is → (p : ℕ) (rest : List Word)
      → Stands tokens words p (words_in (with_full_stops pss) ++ rest) → Read places same (IsClauses tokens) (ClausesGive is) p rest
  clauses_read none p rest s =
      record { part = no_clause; stop = p; reads = no_clauses; is = λ way k table h. (tt, tt, refl, refl, tt); after = s }
  clauses_read (one_and {ps = ps} {i = i} can none) p rest s =
      let dot : Word = record { kind = kind.Dot; bytes = codes "." } in
      let one = can p (dot ∷ rest) (stands_as tokens words (words_behind ps (word kind.Dot (codes ".") ∷ []) rest) s) in
      record {
        part = clause_and (process (item_and one.part no_item)) no_clause;
        stop = one.stop + 1;
        reads = more_clauses (is_process (last_item one.reads)) (kind_at same one.after) no_clauses;
        is = clause_then i [] one.part no_clause one.is (λ way k table h. (tt, tt, refl, refl, tt));
        after = behind same one.after;
      }
  clauses_read (one_and {ps = ps} {i = i} can (one_and {ps = qs} {i = j} {pss = qss} {is = js} next h)) p rest s =
      let dot : Word = record { kind = kind.Dot; bytes = codes "." } in
      let more = with_full_stops (qs ∷ qss) in
      let one = can p (dot ∷ (words_in more ++ rest)) (stands_as tokens words
      (words_behind (ps ++ word kind.Dot (codes ".") ∷ []) (space ∷ more) rest ∙ words_behind ps (word kind.Dot (codes ".") ∷ []) (words_in more ++ rest)) s) in
      let others = clauses_read (one_and next h) (one.stop + 1) rest (behind same one.after) in
      record {
        part = clause_and (process (item_and one.part no_item)) others.part;
        stop = others.stop;
        reads = more_clauses (is_process (last_item one.reads)) (kind_at same one.after) others.reads;
        is = clause_then i (j ∷ js) one.part others.part one.is others.is;
        after = others.after;
      }

  -- The words of a printed line are a tree, whose expansion is the level that was printed.
  pub record LineRead (l : tree.Level) : Type 0 where
    pub tree : Clauses
    pub is_tree : IsProgram tokens tree
    pub is : LevelIs words places (parts_of words places tree).table (level_from_parts (parts_of words places tree)) l

  pub line_read : (l : tree.Level) → LevelSpelled l → words ≡ words_in (top_pieces l) ++ last_word ∷ [] → LineRead l
  line_read l h e =
      let r = clauses_read (readable_level places same l h) 0 (last_word ∷ []) (record { left = e }) in
      let left = r.after in
      let size = ap length left.left in
      let tokens_size = length-map tokens (λ t. t.kind) in
      let same_size = size_of (kinds_of tokens) words same.kinds in
      let there = length-drop r.stop words in
      let Q : tree.Level → Type 0 = λ m. LevelIs words places (parts_of words places r.part).table (level_from_parts (parts_of words places r.part)) m in
      record {
        tree = r.part;
        is_tree = (r.stop, r.reads, kind_at same left, omega arith);
        is = subst Q (gathered_level l) (r.is [] 0 (parts_of words places r.part).table (stand_whole (parts_of words places r.part).table));
      }
