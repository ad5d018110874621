-- What the walk adds node by node.
use Rattle.std.proofs.Common.{◌≡◌, ℕ, zero, suc, ◌+◌, ◌<◌, ◌≤◌, Bool, true, false, List, [], ◌∷◌, ◌++◌, map, length, take, drop, get_or, slice_get, Some, refl, sym, ap, ◌∙◌, subst, arith}
use Rattle.std.specs.Prelude.{codes, option_map}
use Rattle.std.proofs.lemmas.List.{append-nil, map-append, take_all}
use Rattle.std.proofs.lemmas.Option.{same_Some}
use Rattle.std.specs.List.{AllZip}
use Rattle.lmn_base.specs.declared.level.CtxUse.{CtxUse}
use Rattle.lmn_base.specs.declared.level.Occ.{Occ}
use Rattle.lmn_base.specs.declared.refusal.Pos.{Pos}
use Rattle.lmn_base.specs.declared.rule.RuleTree.{RuleTree}
use Rattle.lmn_parser.specs.declared.tree.Clause.{Clause as ClauseNode}
use Rattle.lmn_parser.specs.declared.tree.Item.{Item as ItemNode}
use Rattle.lmn_parser.specs.declared.tree.Term.{Term as TermNode}
use Rattle.lmn_parser.specs.Syntax.{Terms, no_term, atom_item, plus_link, term_of, item_of, clause_of, terms_of, items_of_nodes, clauses_of, as_clauses, as_items, as_terms}
use Rattle.lmn_congruence.specs.Rules.{named}
use Rattle.lmn_flatten_plain.specs.Expanded.{ExpandedLeaf, atom_leaf}
use Rattle.lmn_flatten_plain.specs.Expansion as expansion
use Rattle.lmn_flatten_plain.specs.Expansion.{argument, expanded_arguments}
use Rattle.lmn_flatten_plain.specs.Keys.{IsLinkIn, IsKey}
use Rattle.lmn_flatten_plain.specs.Links.{Link, Use, made}
use Rattle.lmn_flatten_plain.specs.Meanings.{label_at, name_at, place_at}
use Rattle.lmn_flatten_plain.specs.Parts.{Parts, NumberedParts, ◌⊕◌, level_from_parts, no_parts, nothing, one_leaf, one_context, one_membrane, one_rule_context}
use Rattle.lmn_flatten_plain.specs.Plains.{context_use, number_of}
use Rattle.lmn_flatten.specs.Built.{IsPartOfLevel, IsUse, AddsLeaf, no_items}
use Rattle.lmn_flatten.specs.Glossaries.{Reading, IsGlossary}
use Rattle.lmn_flatten.specs.Growing.{MayGrow, GrowsPart, Within, Argument, atom_with, some_term}
use Rattle.lmn_flatten.specs.Scopes.{IsScope, Meets, Under, NoWay}
use Rattle.lmn_flatten.specs.declared.glossary.Glossary.{Glossary}
use Rattle.lmn_flatten.specs.declared.part.Part.{Part}
use Rattle.lmn_flatten.specs.declared.scope.Scope.{Scope}
use Rattle.lmn_flatten.proofs.GrowingLemmas.{key_more, grows_after, grows_as, grows_items, grows_leaf, part_is}
use Rattle.lmn_flatten.proofs.WalkLemmas.{GrowsSoFar, so_far_more, element_ready, under_kind, within_kind, ones, ArgumentsSoFar, argument_more, CellsLeft, cell_added, items_last, clauses_last, terms_last, arguments_last, argument_there, term_own, nothing_sum}
use Rattle.lmn_flatten.proofs.CopyLemmas.{taken}

mapped : {A B : Type 0} (f : A → B) (xs : List A) (i : ℕ) (d x : A) → i < length xs → x ≡ get_or xs i d → map f (take i xs) ++ f x ∷ [] ≡ map f (take (i + 1) xs)
mapped f xs i d x l e = sym (map-append f (take i xs) (x ∷ [])) ∙ ap (map f) (sym (taken xs i d x l e))

so_many : {A B : Type 0} (f : A → B) (xs : List A) (i : ℕ) → i < length xs → length (map f (take i xs)) ≡ i
so_many f [] i l = absurd (omega (arith, l))
so_many f (x ∷ xs) zero l = refl
so_many f (x ∷ xs) (suc i) l = ap suc (so_many f xs i (omega (arith, l)))

dropped : {A : Type 0} (xs : List A) (i : ℕ) (d x : A) → i < length xs → x ≡ get_or xs i d → drop i xs ≡ x ∷ drop (i + 1) xs
dropped [] i d x l e = absurd (omega (arith, l))
dropped (y ∷ xs) zero d x l e = ap (λ z. z ∷ xs) (sym e)
dropped (y ∷ xs) (suc i) d x l e =
    let k : suc (i + 1) ≡ suc i + 1 = omega arith in dropped xs i d x (omega (arith, l)) e ∙ ap (λ n. x ∷ drop n (y ∷ xs)) k

at_place : {A : Type 0} (xs : List A) (i : ℕ) (d x : A) → i < length xs → x ≡ get_or xs i d → slice_get xs i ≡ Some x
at_place [] i d x l e = absurd (omega (arith, l))
at_place (y ∷ xs) zero d x l e = ap Some (sym e)
at_place (y ∷ xs) (suc i) d x l e = at_place xs i d x (omega (arith, l)) e

map_place : (xs : List TermNode) (i : ℕ) (x : TermNode) → slice_get xs i ≡ Some x → slice_get (map term_of xs) i ≡ Some (term_of x)
map_place [] i x e = absurd (cc)
map_place (y ∷ xs) zero x e = ap (λ o. option_map term_of o) e
map_place (y ∷ xs) (suc i) x e = map_place xs i x e

-- a term is left below the length
pub some_term_left : (xs : List TermNode) (k : ℕ) → k < length xs → true ≡ some_term (terms_of (drop k xs))
some_term_left [] k l = absurd (omega (arith, l))
some_term_left (x ∷ xs) zero l = refl
some_term_left (x ∷ xs) (suc k) l = some_term_left xs k (omega (arith, l))

-- none is left behind the last
pub no_term_left : (xs : List TermNode) (k : ℕ) → length xs ≤ k → false ≡ some_term (terms_of (drop k xs))
no_term_left [] zero l = refl
no_term_left [] (suc k) l = refl
no_term_left (x ∷ xs) zero l = absurd (omega (arith, l))
no_term_left (x ∷ xs) (suc k) l = no_term_left xs k (omega (arith, l))

-- so nothing is
pub nothing_left : (xs : List TermNode) (k : ℕ) → length xs ≤ k → terms_of (drop k xs) ≡ no_term
nothing_left [] zero l = refl
nothing_left [] (suc k) l = refl
nothing_left (x ∷ xs) zero l = absurd (omega (arith, l))
nothing_left (x ∷ xs) (suc k) l = nothing_left xs k (omega (arith, l))

-- terms that aren't none are some
pub some_terms : (xs : List TermNode) → (length xs ≡ 0 → ⊥) → true ≡ some_term (terms_of xs)
some_terms [] h = absurd (h refl)
some_terms (x ∷ xs) h = refl

-- and none are none
pub no_terms : (xs : List TermNode) → length xs ≡ 0 → terms_of xs ≡ no_term
no_terms [] h = refl
no_terms (x ∷ xs) h = absurd (omega (arith, h))

module _ (r : Reading) where
  pub clauses_more : (way : List ℕ) (keys : List Link) (cs : List ClauseNode) (n : ℕ) (d x : ClauseNode) (g : Glossary) (part : Part) (table : List RuleTree) (part1 : Part) (table1 : List RuleTree) (s : Scope)
      (part2 : Part) (table2 : List RuleTree) (t : Scope) → n < length cs → x ≡ get_or cs n d → IsGlossary r g
      → GrowsSoFar r Under way keys (expansion.expanded_clauses r.words r.places way (clauses_of (take n cs))) n part table part1 table1 s
      → ((way : List ℕ) (keys : List Link) → MayGrow r (Under way) keys g s → GrowsPart r (Under way) keys (expansion.expanded_clause r.words r.places way (clause_of x)) part1 table1 part2 table2 t)
      → GrowsSoFar r Under way keys (expansion.expanded_clauses r.words r.places way (clauses_of (take (n + 1) cs))) (n + 1) part table part2 table2 t
  clauses_more way keys cs n d x g part table part1 table1 s part2 table2 t l e is h one =
      let m = h.grows.meets in
      let f = expansion.expanded_clauses r.words r.places way (clauses_of (take n cs)) in
      so_far_more r Under under_kind way keys f (expansion.expanded_clause r.words r.places (0 ∷ ones n way) (clause_of x)) (expansion.expanded_clauses r.words r.places way (clauses_of (take (n + 1) cs)))
      n part table part1 table1 s part2 table2 t h (one (0 ∷ ones n way) (keys ++ m.more) (element_ready r Under under_kind way keys f n g part table part1 table1 s is h))
      (clauses_last r n way (map clause_of (take n cs)) (clause_of x) (length table) (so_many clause_of cs n l) ∙ ap (λ z. expansion.expanded_clauses r.words r.places way (as_clauses z) (length table)) (mapped clause_of cs n d x l e))

  pub items_more : (way : List ℕ) (keys : List Link) (cs : List ItemNode) (n : ℕ) (d x : ItemNode) (g : Glossary) (part : Part) (table : List RuleTree) (part1 : Part) (table1 : List RuleTree) (s : Scope)
      (part2 : Part) (table2 : List RuleTree) (t : Scope) → n < length cs → x ≡ get_or cs n d → IsGlossary r g
      → GrowsSoFar r Under way keys (expansion.expanded_items r.words r.places way (items_of_nodes (take n cs))) n part table part1 table1 s
      → ((way : List ℕ) (keys : List Link) → MayGrow r (Under way) keys g s → GrowsPart r (Under way) keys (expansion.expanded_item r.words r.places way (item_of x)) part1 table1 part2 table2 t)
      → GrowsSoFar r Under way keys (expansion.expanded_items r.words r.places way (items_of_nodes (take (n + 1) cs))) (n + 1) part table part2 table2 t
  items_more way keys cs n d x g part table part1 table1 s part2 table2 t l e is h one =
      let m = h.grows.meets in
      let f = expansion.expanded_items r.words r.places way (items_of_nodes (take n cs)) in
      so_far_more r Under under_kind way keys f (expansion.expanded_item r.words r.places (0 ∷ ones n way) (item_of x)) (expansion.expanded_items r.words r.places way (items_of_nodes (take (n + 1) cs)))
      n part table part1 table1 s part2 table2 t h (one (0 ∷ ones n way) (keys ++ m.more) (element_ready r Under under_kind way keys f n g part table part1 table1 s is h))
      (items_last r n way (map item_of (take n cs)) (item_of x) (length table) (so_many item_of cs n l) ∙ ap (λ z. expansion.expanded_items r.words r.places way (as_items z) (length table)) (mapped item_of cs n d x l e))

  pub terms_more : (way : List ℕ) (keys : List Link) (pos : Pos) (cs : List TermNode) (n : ℕ) (d x : TermNode) (links : List Occ) (own : ℕ) (g : Glossary) (part : Part) (table : List RuleTree) (part1 : Part) (table1 : List RuleTree) (s : Scope)
      (part2 : Part) (table2 : List RuleTree) (t : Scope) → n < length cs → x ≡ get_or cs n d → (o : Occ) × (slice_get links n ≡ Some o) × (own ≡ o.link) → IsGlossary r g
      → AllZip (IsUse r.names (IsKey keys)) (expanded_arguments r.words r.places pos way (terms_of cs)) links
      → GrowsSoFar r Within way keys (expansion.expanded_terms r.words r.places pos way (terms_of (take n cs))) n part table part1 table1 s
      → ((way : List ℕ) (keys : List Link) (y : Link) → MayGrow r (Under way) keys g s → IsKey keys y own
      → GrowsPart r (Under way) keys (expansion.expanded_term r.words r.places pos way y (term_of x)) part1 table1 part2 table2 t)
      → GrowsSoFar r Within way keys (expansion.expanded_terms r.words r.places pos way (terms_of (take (n + 1) cs))) (n + 1) part table part2 table2 t
  terms_more way keys pos cs n d x links own g part table part1 table1 s part2 table2 t l f there is uses h one =
      let m = h.grows.meets in
      let w = ones n way in
      let a = argument r.words r.places pos (0 ∷ w) (term_of x) in
      let all = expansion.expanded_terms r.words r.places pos way (terms_of (take n cs)) in
      let at = argument_there r n way pos (map term_of cs) (term_of x) links there.0 keys (map_place cs n x (at_place cs n d x l f)) there.1 uses in
      let P : ℕ → Type 0 = λ y. IsKey (keys ++ m.more) a.link y in
      so_far_more r Within within_kind way keys all (expansion.expanded_term r.words r.places pos (0 ∷ w) (made (0 ∷ w)) (term_of x)) (expansion.expanded_terms r.words r.places pos way (terms_of (take (n + 1) cs)))
      n part table part1 table1 s part2 table2 t h
      (term_own r (Under (0 ∷ w)) (keys ++ m.more) pos (0 ∷ w) (term_of x) part1 table1 part2 table2 t
      (one (0 ∷ w) (keys ++ m.more) a.link (element_ready r Within within_kind way keys all n g part table part1 table1 s is h) (subst P (sym there.2) (key_more keys m.more a.link _ at.0))))
      (terms_last r n way pos (map term_of (take n cs)) (term_of x) (length table) (so_many term_of cs n l) ∙ ap (λ z. expansion.expanded_terms r.words r.places pos way (as_terms z) (length table)) (mapped term_of cs n d x l f))

  pub arguments_more : (way : List ℕ) (keys : List Link) (pos : Pos) (cs : List TermNode) (n : ℕ) (d x : TermNode) (links links1 : List Occ) (o : Occ) (g : Glossary) (s s1 : Scope)
      → n < length cs → x ≡ get_or cs n d → IsGlossary r g → ArgumentsSoFar r way keys pos (terms_of (take n cs)) n links s
      → ((keys : List Link) (way : List ℕ) → IsGlossary r g → IsScope r keys s → (IsLinkIn (made way) keys → ⊥)
      → (m : Meets r (λ v. v ≡ way) keys s1) × IsUse r.names (IsKey (keys ++ m.more)) (argument r.words r.places pos way (term_of x)) o)
      → links1 ≡ links ++ o ∷ [] → ArgumentsSoFar r way keys pos (terms_of (take (n + 1) cs)) (n + 1) links1 s1
  arguments_more way keys pos cs n d x links links1 o g s s1 l e is h one f =
      argument_more r way keys pos (terms_of (take n cs)) (term_of x) (terms_of (take (n + 1) cs)) n links links1 o s s1 h (λ ks w i j. one ks w is i j) f
      (arguments_last r n way pos (map term_of (take n cs)) (term_of x) (so_many term_of cs n l) ∙ ap (λ z. expanded_arguments r.words r.places pos way (as_terms z)) (mapped term_of cs n d x l e))

  pub all_arguments : (way : List ℕ) (keys : List Link) (pos : Pos) (cs : List TermNode) (n : ℕ) (links : List Occ) (s : Scope) → length cs ≤ n
      → ArgumentsSoFar r way keys pos (terms_of (take n cs)) n links s
      → (m : Meets r (Argument way) keys s) × AllZip (IsUse r.names (IsKey (keys ++ m.more))) (expanded_arguments r.words r.places pos way (terms_of cs)) links
  all_arguments way keys pos cs n links s l h =
      let m = h.meets in
      let P : List TermNode → Type 0 = λ z. AllZip (IsUse r.names (IsKey (keys ++ m.more))) (expanded_arguments r.words r.places pos way (terms_of z)) links in
      (m, subst P (take_all n cs l) h.uses)

  pub all_grown : {A : Type 0} (Z : List ℕ → List ℕ → Type 0) (way : List ℕ) (keys : List Link) (f : List A → NumberedParts) (xs : List A) (n : ℕ) (part : Part) (table : List RuleTree)
      (part1 : Part) (table1 : List RuleTree) (s : Scope) → length xs ≤ n → GrowsSoFar r Z way keys (f (take n xs)) n part table part1 table1 s
      → GrowsPart r (Z way) keys (f xs) part table part1 table1 s
  all_grown {A} Z way keys f xs n part table part1 table1 s l h =
      let P : List A → Type 0 = λ z. GrowsPart r (Z way) keys (f z) part table part1 table1 s in subst P (take_all n xs l) h.grows

  pub cells_more : (way : List ℕ) (keys : List Link) (x : Link) (last : Use) (pos : Pos) (cs : List TermNode) (n : ℕ) (d t : TermNode) (end : Occ) (own : ℕ) (g : Glossary)
      (part : Part) (table : List RuleTree) (part1 : Part) (table1 : List RuleTree) (s1 s2 s3 s4 : Scope) (element next : Occ) (part2 part3 : Part) (table3 : List RuleTree)
      → n < length cs → t ≡ get_or cs n d → IsGlossary r g → CellsLeft r way keys x last pos (terms_of cs) (terms_of (drop n cs)) n end own part table part1 table1 s1
      → ((keys : List Link) (way : List ℕ) → IsGlossary r g → IsScope r keys s1 → (IsLinkIn (made way) keys → ⊥)
      → (m : Meets r (λ v. v ≡ way) keys s2) × IsUse r.names (IsKey (keys ++ m.more)) (argument r.words r.places pos way (term_of t)) element)
      → ((keys : List Link) (way : List ℕ) (last : Use) → IsScope r keys s2 → (IsLinkIn (made way) keys → ⊥) → IsUse r.names (IsKey keys) last end
      → (m : Meets r (λ v. v ≡ way) keys s3) × IsUse r.names (IsKey (keys ++ m.more)) (expansion.rest r.words r.places pos way last (terms_of (drop (n + 1) cs))) next)
      → ((keys : List Link) (a b c : Use) → IsUse r.names (IsKey keys) a element → IsUse r.names (IsKey keys) b next → IsUse r.names (IsKey keys) c (record { link = own; pos = pos })
      → AddsLeaf r.names (IsKey keys) (atom_leaf (named (codes ".")) (a ∷ b ∷ c ∷ []) pos) part1 part2)
      → ((way : List ℕ) (keys : List Link) (x : Link) → MayGrow r (Under way) keys g s3 → IsKey keys x element.link
      → GrowsPart r (Under way) keys (expansion.expanded_term r.words r.places pos way x (term_of t)) part2 table1 part3 table3 s4)
      → CellsLeft r way keys x last pos (terms_of cs) (terms_of (drop (n + 1) cs)) (n + 1) end next.link part table part3 table3 s4
  cells_more way keys x last pos cs n d t end own g part table part1 table1 s1 s2 s3 s4 element next part2 part3 table3 l e is h args rests adds inside =
      let P : List TermNode → Type 0 = λ z. CellsLeft r way keys x last pos (terms_of cs) (terms_of z) n end own part table part1 table1 s1 in
      cell_added r way keys x last pos (terms_of cs) (term_of t) (terms_of (drop (n + 1) cs)) n end own g part table part1 table1 s1 s2 s3 s4 element next part2 part3 table3 is
      (subst P (dropped cs n d t l e) h) (λ ks w i j. args ks w is i j) rests adds inside

  -- ---- contexts

  pub context_grows : (closed : Bool) (Z : List ℕ → Type 0) (keys : List Link) (p : ℕ) (context : CtxUse) (part : Part) (table : List RuleTree) (s : Scope) (contexts : List CtxUse) → IsScope r keys s
      → context ≡ record { name = number_of r.names (name_at r.words r.places p); closed = closed; pos = place_at r.words r.places p } → contexts ≡ part.contexts ++ context ∷ []
      → GrowsPart r Z keys (one_context (record { name = name_at r.words r.places p; closed = closed; pos = place_at r.words r.places p })) part table
      (record { leaves = part.leaves; membranes = part.membranes; contexts = contexts; rule_contexts = part.rule_contexts; rules = part.rules }) table s
  context_grows closed Z keys p context part table s contexts scope e f =
      grows_items r Z keys _ part table _ s (record { leaves = []; membranes = []; contexts = context ∷ []; rule_contexts = []; rules = [] }) scope
      (record { leaves = tt; membranes = tt; contexts = ap (λ c. c ∷ []) e; rule_contexts = refl; rules = refl }) refl
      (part_is _ _ (sym (append-nil part.leaves)) (sym (append-nil part.membranes)) f (sym (append-nil part.rule_contexts)) (sym (append-nil part.rules)))

  pub rule_context_grows : (Z : List ℕ → Type 0) (keys : List Link) (p : ℕ) (context : CtxUse) (part : Part) (table : List RuleTree) (s : Scope) (contexts : List CtxUse) → IsScope r keys s
      → context ≡ context_use r.words r.places r.names p → contexts ≡ part.rule_contexts ++ context ∷ []
      → GrowsPart r Z keys (one_rule_context (record { name = name_at r.words r.places p; closed = false; pos = place_at r.words r.places p })) part table
      (record { leaves = part.leaves; membranes = part.membranes; contexts = part.contexts; rule_contexts = contexts; rules = part.rules }) table s
  rule_context_grows Z keys p context part table s contexts scope e f =
      grows_items r Z keys _ part table _ s (record { leaves = []; membranes = []; contexts = []; rule_contexts = context ∷ []; rules = [] }) scope
      (record { leaves = tt; membranes = tt; contexts = refl; rule_contexts = ap (λ c. c ∷ []) e; rules = refl }) refl
      (part_is _ _ (sym (append-nil part.leaves)) (sym (append-nil part.membranes)) (sym (append-nil part.contexts)) f (sym (append-nil part.rules)))

  -- a leaf with a link that is written
  pub written_leaf : (Z : List ℕ → Type 0) (keys : List Link) (l : ExpandedLeaf) (part : Part) (table : List RuleTree) (s s1 : Scope) (part1 : Part)
      → (m : Meets r NoWay keys s1) → AddsLeaf r.names (IsKey (keys ++ m.more)) l part part1 → GrowsPart r Z keys (one_leaf l) part table part1 table s1
  written_leaf Z keys l part table s s1 part1 m h =
      grows_after r NoWay Z Z keys (one_leaf l) part table s1 part1 table s1 (λ v n. absurd n) (λ v z. z) m (grows_leaf r Z (keys ++ m.more) l part table part1 s1 m.scope h)

  -- the same in other words
  pub grows_is : {A : Type 0} (Z : List ℕ → Type 0) (keys : List Link) (f : A → NumberedParts) (a b : A) (part : Part) (table : List RuleTree) (part1 : Part) (table1 : List RuleTree) (s : Scope)
      → a ≡ b → GrowsPart r Z keys (f b) part table part1 table1 s → GrowsPart r Z keys (f a) part table part1 table1 s
  grows_is {A} Z keys f a b part table part1 table1 s e h = let P : A → Type 0 = λ z. GrowsPart r Z keys (f z) part table part1 table1 s in subst P (sym e) h

  -- ---- what a slice holds

  pub arguments_as : (way : List ℕ) (keys : List Link) (pos : Pos) (ts0 ts : List TermNode) (links : List Occ) (s : Scope) → ts0 ≡ ts
      → (m : Meets r (Argument way) keys s) × AllZip (IsUse r.names (IsKey (keys ++ m.more))) (expanded_arguments r.words r.places pos way (terms_of ts0)) links
      → (m : Meets r (Argument way) keys s) × AllZip (IsUse r.names (IsKey (keys ++ m.more))) (expanded_arguments r.words r.places pos way (terms_of ts)) links
  arguments_as way keys pos ts0 ts links s e h =
      let P : List TermNode → Type 0 = λ z. (m : Meets r (Argument way) keys s) × AllZip (IsUse r.names (IsKey (keys ++ m.more))) (expanded_arguments r.words r.places pos way (terms_of z)) links in
      subst P e h

  pub terms_as : (way : List ℕ) (keys : List Link) (pos : Pos) (ts0 ts : List TermNode) (links0 links : List Occ) (part : Part) (table : List RuleTree) (part1 : Part) (table1 : List RuleTree) (s : Scope)
      → ts0 ≡ ts → links0 ≡ links
      → (AllZip (IsUse r.names (IsKey keys)) (expanded_arguments r.words r.places pos way (terms_of ts0)) links0 → GrowsPart r (Within way) keys (expansion.expanded_terms r.words r.places pos way (terms_of ts0)) part table part1 table1 s)
      → AllZip (IsUse r.names (IsKey keys)) (expanded_arguments r.words r.places pos way (terms_of ts)) links → GrowsPart r (Within way) keys (expansion.expanded_terms r.words r.places pos way (terms_of ts)) part table part1 table1 s
  terms_as way keys pos ts0 ts links0 links part table part1 table1 s e f h uses =
      let P : List TermNode → Type 0 = λ z. GrowsPart r (Within way) keys (expansion.expanded_terms r.words r.places pos way (terms_of z)) part table part1 table1 s in
      let Q : List TermNode → Type 0 = λ z. AllZip (IsUse r.names (IsKey keys)) (expanded_arguments r.words r.places pos way (terms_of z)) links in
      let R : List Occ → Type 0 = λ z. AllZip (IsUse r.names (IsKey keys)) (expanded_arguments r.words r.places pos way (terms_of ts0)) z in
      subst P e (h (subst R (sym f) (subst Q (sym e) uses)))

  pub atom_alone : (Z : List ℕ → Type 0) (keys : List Link) (way : List ℕ) (n : ℕ) (ts : Terms) (part : Part) (table : List RuleTree) (part1 : Part) (table1 : List RuleTree) (s : Scope)
      → GrowsPart r Z keys (atom_with r.words r.places way n ts []) part table part1 table1 s → GrowsPart r Z keys (expansion.expanded_item r.words r.places way (atom_item n ts)) part table part1 table1 s
  atom_alone Z keys way n ts part table part1 table1 s h =
      let P : List Use → Type 0 = λ us. GrowsPart r Z keys (one_leaf (atom_leaf (label_at r.words r.places n) us (place_at r.words r.places n))
      ⊕ expansion.expanded_terms r.words r.places (place_at r.words r.places n) way ts) part table part1 table1 s in
      subst P (append-nil (expanded_arguments r.words r.places (place_at r.words r.places n) way ts)) h

  pub nothing_inside : (R : Link → ℕ → Type 0) (x : Part) → x ≡ no_items → IsPartOfLevel r.names R no_parts x
  nothing_inside R x e =
      let P : Part → Type 0 = IsPartOfLevel r.names R no_parts in
      subst P (sym e) (record { leaves = tt; membranes = tt; contexts = refl; rule_contexts = refl; rules = refl })

  pub leaf_inside : (keys : List Link) (l : ExpandedLeaf) (x y : Part) (k : ℕ) → x ≡ no_items → AddsLeaf r.names (IsKey keys) l x y → IsPartOfLevel r.names (IsKey keys) (one_leaf l k) y
  leaf_inside keys l x y k e h =
      let P : Part → Type 0 = IsPartOfLevel r.names (IsKey keys) (one_leaf l k) in
      let here : Part = record { leaves = h.leaf ∷ []; membranes = []; contexts = []; rule_contexts = []; rules = [] } in
      let same : y ≡ here = part_is _ _ (h.leaves ∙ ap (λ (z : Part). z.leaves ++ h.leaf ∷ []) e) (h.membranes ∙ ap (λ (z : Part). z.membranes) e) (h.contexts ∙ ap (λ (z : Part). z.contexts) e)
      (h.rule_contexts ∙ ap (λ (z : Part). z.rule_contexts) e) (h.rules ∙ ap (λ (z : Part). z.rules) e) in
      subst P (sym same) (record { leaves = (h.is_leaf, tt); membranes = tt; contexts = refl; rule_contexts = refl; rules = refl })

  pub membrane_alone : (way : List ℕ) (keys : List Link) (cs0 cs : List ClauseNode) (part : Part) (table : List RuleTree) (part1 : Part) (table1 : List RuleTree) (s : Scope) → cs0 ≡ cs
      → GrowsPart r (Under way) keys (one_membrane (nothing ⊕ expansion.expanded_clauses r.words r.places way (clauses_of cs0))) part table part1 table1 s
      → GrowsPart r (Under way) keys (one_membrane (expansion.expanded_clauses r.words r.places way (clauses_of cs))) part table part1 table1 s
  membrane_alone way keys cs0 cs part table part1 table1 s e h =
      let f = expansion.expanded_clauses r.words r.places way (clauses_of cs0) in
      let P : List ClauseNode → Type 0 = λ z. GrowsPart r (Under way) keys (one_membrane (expansion.expanded_clauses r.words r.places way (clauses_of z))) part table part1 table1 s in
      subst P e (grows_as r (Under way) keys (one_membrane (nothing ⊕ f)) (one_membrane f) part table part1 table1 s
      (ap (λ (p : Parts). record { leaves = []; membranes = level_from_parts p ∷ []; contexts = []; rule_contexts = []; rules = []; table = p.table }) (nothing_sum f (length table))) h)

  pub plus_grows : (Z : List ℕ → Type 0) (way : List ℕ) (keys : List Link) (p q : ℕ) (pos : Pos) (link : Occ) (part : Part) (table : List RuleTree) (s s1 : Scope) (part1 : Part)
      → pos ≡ place_at r.words r.places p → q ≡ p + 1 → (m : Meets r NoWay keys s1) × IsUse r.names (IsKey (keys ++ m.more)) (expansion.written_link r.words r.places q) link
      → ((keys : List Link) (u : Use) → IsUse r.names (IsKey keys) u link → AddsLeaf r.names (IsKey keys) (atom_leaf (named (codes "+")) (u ∷ []) pos) part part1)
      → GrowsPart r Z keys (expansion.expanded_item r.words r.places way (plus_link p)) part table part1 table s1
  plus_grows Z way keys p q pos link part table s s1 part1 e f first adds =
      let m = first.0 in
      let P : ℕ → Type 0 = λ z. IsUse r.names (IsKey (keys ++ m.more)) (expansion.written_link r.words r.places z) link in
      let Q : Pos → Type 0 = λ z. GrowsPart r Z keys (one_leaf (atom_leaf (named (codes "+")) (expansion.written_link r.words r.places (p + 1) ∷ []) z)) part table part1 table s1 in
      subst Q e (written_leaf Z keys _ part table s s1 part1 m (adds (keys ++ m.more) (expansion.written_link r.words r.places (p + 1)) (subst P f first.1)))

-- what is read twice is the same
pub same_read : {A : Type 0} (xs : List A) (i : ℕ) (d e x y : A) → i < length xs → x ≡ get_or xs i d → y ≡ get_or xs i e → x ≡ y
same_read xs i d e x y l f g = same_Some x y (sym (at_place xs i d x l f) ∙ at_place xs i e y l g)
