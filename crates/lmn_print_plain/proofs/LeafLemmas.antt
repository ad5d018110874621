-- Leaves, conditions and their parts.
use Rattle.std.proofs.Common.{◌≡◌, ℕ, zero, suc, ◌==◌, Bool, true, false, if◌then◌else◌, List, [], ◌∷◌, ◌++◌, ◌<◌, map, length, get_or, refl, sym, ap, ◌∙◌, subst, arith}
use Rattle.std.specs.Prelude.{codes}
use Rattle.std.proofs.lemmas.List.{append-nil, length-map}
use Rattle.lmn_base.specs.Names.{IsNames, first_names}
use Rattle.lmn_base.specs.declared.functor.Label.{Label}
use Rattle.lmn_base.specs.declared.functor.Label.TheVariants.{Name, Int}
use Rattle.lmn_base.specs.declared.guard.Cmp.{Cmp}
use Rattle.lmn_base.specs.declared.guard.Cond.{Cond}
use Rattle.lmn_base.specs.declared.guard.Cond.TheVariants.{Compare, Equal, Differ}
use Rattle.lmn_base.specs.declared.guard.Expr.{Expr}
use Rattle.lmn_base.specs.declared.level.Leaf.{Leaf}
use Rattle.lmn_base.specs.declared.level.Leaf.TheVariants.{Typed}
use Rattle.lmn_base.specs.declared.refusal.Pos.{Pos}
use Rattle.lmn_base.specs.declared.level.CtxUse.{CtxUse}
use Rattle.lmn_base.specs.declared.level.Occ.{Occ}
use Rattle.lmn_congruence.specs.Rules as tree
use Rattle.lmn_congruence.specs.Translation.{name_of, names_of, context_with, context_tree, atom_or_connector, label_of, condition_of, expression_of, kind_of}
use Rattle.lmn_flatten_plain.specs.Words.{text_of, piece_text, with_commas, label_piece, name_piece, link_name, link_piece, links_pieces, context_piece, untyped_pieces, contexts_pieces, leaf_pieces, side_pieces, comparison_pieces, condition_pieces, guard_pieces}
use Rattle.lmn_flatten_plain.specs.Labels.{label_text}
use Rattle.lmn_print_plain.specs.Parts.{condition_text, context_text, untyped_text, makes_connector, leaf_text}
use Rattle.lmn_print_plain.specs.Rows.{in_row}
use Rattle.lmn_print_plain.proofs.RowLemmas.{comma_row}
use Rattle.lmn_flatten_plain.proofs.LaidLines.{text_append}
use Rattle.lmn_base.specs.Levels.{link_numbers}
use Rattle.lmn_base.proofs.Numbers.{equal_when as tested}
use Rattle.lmn_base.proofs.Truth.{and_true as both_true}

-- the piece of a label is its text
pub label_is : (l : tree.Label) → label_text l ≡ piece_text (label_piece l)
label_is (tree.named name) = refl
label_is (tree.integer z) = refl

-- an atom that is no connector
pub atom_is : (names : List tree.Name) (label : Label) (xs : List ℕ) → makes_connector label (length xs) ≡ false → atom_or_connector names label xs ≡ tree.atom_leaf (label_of names label) xs
atom_is names (Name zero) [] e = refl
atom_is names (Name zero) (x ∷ []) e = refl
atom_is names (Name zero) (x ∷ y ∷ []) e = absurd (cc e)
atom_is names (Name zero) (x ∷ y ∷ z ∷ xs) e = refl
atom_is names (Name (suc n)) [] e = refl
atom_is names (Name (suc n)) (x ∷ xs) e = refl
atom_is names (Int z) [] e = refl
atom_is names (Int z) (x ∷ xs) e = refl

two : (xs : List ℕ) → length xs ≡ 2 → (x : ℕ) × (y : ℕ) × (xs ≡ x ∷ y ∷ [])
two [] e = absurd (omega (arith, e))
two (x ∷ []) e = absurd (omega (arith, e))
two (x ∷ y ∷ []) e = (x, y, refl)
two (x ∷ y ∷ z ∷ xs) e = absurd (omega (arith, e))

-- what makes a connector is one
pub connector_is : (names : List tree.Name) (label : Label) (xs : List ℕ) → makes_connector label (length xs) ≡ true
    → (x : ℕ) × (y : ℕ) × (xs ≡ x ∷ y ∷ []) × (atom_or_connector names label xs ≡ tree.connector_leaf x y)
connector_is names (Name n) xs e =
    let b = both_true (n == 0) (length xs == 2) e in
    let t = two xs (tested (length xs) 2 b.1) in
    (t.0, t.1, t.2, ap (λ k. atom_or_connector names (Name k) xs) (tested n 0 b.0) ∙ ap (atom_or_connector names (Name 0)) t.2)
connector_is names (Int z) xs e = absurd (cc e)

-- links in parentheses
pub links_row : (xs : List ℕ) → map text_of (map (λ y. link_piece y ∷ []) xs) ≡ map link_name xs
links_row [] = refl
links_row (x ∷ xs) = ap (λ t. t ∷ map text_of (map (λ y. link_piece y ∷ []) xs)) (append-nil (link_name x)) ∙ ap (λ ts. link_name x ∷ ts) (links_row xs)

occurrences_row : (os : List Occ) → map link_name (link_numbers os) ≡ map (λ o. link_name o.link) os
occurrences_row [] = refl
occurrences_row (o ∷ os) = ap (λ ts. link_name o.link ∷ ts) (occurrences_row os)

links_text : (o : Occ) (os all : List Occ) → all ≡ o ∷ os
    → codes "(" ++ (in_row (codes ", ") false (map (λ x. link_name x.link) all) ++ codes ")") ≡ text_of (links_pieces (link_numbers all))
links_text o os all e =
    subst (λ xs. codes "(" ++ (in_row (codes ", ") false (map (λ x. link_name x.link) xs) ++ codes ")") ≡ text_of (links_pieces (link_numbers xs))) (sym e)
    (let xs = link_numbers (o ∷ os) in let ps = map (λ y. link_piece y ∷ []) xs in
    sym (ap (λ t. 40 ∷ t) (text_append (with_commas ps) _ ∙ ap (λ t. t ++ (41 ∷ [])) (comma_row ps ∙ ap (in_row (codes ", ") false) (links_row xs ∙ occurrences_row (o ∷ os))))))

-- contexts in parentheses
pub contexts_row : (names : List tree.Name) (us : List CtxUse) → map text_of (map (λ m. context_piece m ∷ []) (names_of names us)) ≡ map (context_text names (codes "$")) us
contexts_row names [] = refl
contexts_row names (u ∷ us) = ap (λ t. t ∷ map text_of (map (λ m. context_piece m ∷ []) (names_of names us))) (append-nil (36 ∷ name_of names u.name)) ∙ ap (λ ts. context_text names (codes "$") u ∷ ts) (contexts_row names us)

one_untyped : (closed : Bool) (name : tree.Name) → text_of (untyped_pieces (context_with closed name)) ≡ codes "$" ++ name ++ (if closed then codes "[]" else [])
one_untyped true name = refl
one_untyped false name = refl

-- contexts, open and closed
pub untyped_row : (names : List tree.Name) (us : List CtxUse) → map text_of (map untyped_pieces (map (context_tree names) us)) ≡ map (untyped_text names) us
untyped_row names [] = refl
untyped_row names (u ∷ us) = cons _ _ _ _ (one_untyped u.closed (name_of names u.name)) (untyped_row names us)
  where
    cons : (a b : List ℕ) (ts us : List (List ℕ)) → a ≡ b → ts ≡ us → a ∷ ts ≡ b ∷ us
    cons a b ts us e f = cc

arguments_text : (names : List tree.Name) (u : CtxUse) (us all : List CtxUse) → all ≡ u ∷ us
    → codes "(" ++ (in_row (codes ", ") false (map (context_text names (codes "$")) all) ++ codes ")") ≡ text_of (contexts_pieces (names_of names all))
arguments_text names u us all e =
    subst (λ xs. codes "(" ++ (in_row (codes ", ") false (map (context_text names (codes "$")) xs) ++ codes ")") ≡ text_of (contexts_pieces (names_of names xs))) (sym e)
    (let ps = map (λ m. context_piece m ∷ []) (names_of names (u ∷ us)) in
    sym (ap (λ t. 40 ∷ t) (text_append (with_commas ps) _ ∙ ap (λ t. t ++ (41 ∷ [])) (comma_row ps ∙ ap (in_row (codes ", ") false) (contexts_row names (u ∷ us))))))

-- A condition that has a name: whether it is one of the language doesn't show.

-- a condition is printed by its name, whichever it is
kind_by : (names : List tree.Name) (n : ℕ) (u : CtxUse) (a b c : Bool) → (a ≡ true → name_of names n ≡ codes "int") → (b ≡ true → name_of names n ≡ codes "unary") → (c ≡ true → name_of names n ≡ codes "ground")
    → piece_text (name_piece (name_of names n)) ++ text_of (contexts_pieces (names_of names (u ∷ [])))
    ≡ text_of (condition_pieces (if a then tree.is_kind tree.int (name_of names u.name) else if b then tree.is_kind tree.unary (name_of names u.name) else if c then tree.is_kind tree.grounded (name_of names u.name)
    else tree.unknown (name_of names n) (names_of names (u ∷ []))))
kind_by names n u true b c f g h = ap (λ name. piece_text (name_piece name) ++ text_of (contexts_pieces (names_of names (u ∷ [])))) (f refl)
kind_by names n u false true c f g h = ap (λ name. piece_text (name_piece name) ++ text_of (contexts_pieces (names_of names (u ∷ [])))) (g refl)
kind_by names n u false false true f g h = ap (λ name. piece_text (name_piece name) ++ text_of (contexts_pieces (names_of names (u ∷ [])))) (h refl)
kind_by names n u false false false f g h = refl

named_so : (names : List tree.Name) (n k : ℕ) (name : tree.Name) → IsNames names → ((more : List tree.Name) → name_of (first_names ++ more) k ≡ name) → (n == k) ≡ true → name_of names n ≡ name
named_so names n k name h f e = ap (name_of names) (tested n k e) ∙ ap (λ ns. name_of ns k) h.begins.1 ∙ f h.begins.0

-- the text of a condition of a type
pub kind_text : (names : List tree.Name) (n : ℕ) (us : List CtxUse) → IsNames names
    → piece_text (name_piece (name_of names n)) ++ text_of (contexts_pieces (names_of names us)) ≡ text_of (condition_pieces (kind_of names n us))
kind_text names n [] h = refl
kind_text names n (u ∷ []) h =
    kind_by names n u (n == 1) (n == 2) (n == 3) (named_so names n 1 (codes "int") h (λ more. refl)) (named_so names n 2 (codes "unary") h (λ more. refl)) (named_so names n 3 (codes "ground") h (λ more. refl))
kind_text names n (u ∷ v ∷ us) h = refl

-- conditions and the bar
conditions_row : (names : List tree.Name) (cs : List Cond) → map text_of (map condition_pieces (map (condition_of names) cs)) ≡ map (condition_text names) cs
conditions_row names [] = refl
conditions_row names (c ∷ cs) = ap (λ ts. condition_text names c ∷ ts) (conditions_row names cs)

guard_text : (names : List tree.Name) (c : Cond) (cs all : List Cond) → all ≡ c ∷ cs
    → in_row (codes ", ") false (map (condition_text names) all) ++ codes " | " ≡ text_of (guard_pieces (map (condition_of names) all))
guard_text names c cs all e =
    subst (λ xs. in_row (codes ", ") false (map (condition_text names) xs) ++ codes " | " ≡ text_of (guard_pieces (map (condition_of names) xs))) (sym e)
    (let ps = map condition_pieces (map (condition_of names) (c ∷ cs)) in
    sym (text_append (with_commas ps) _ ∙ ap (λ t. t ++ codes " | ") (comma_row ps ∙ ap (in_row (codes ", ") false) (conditions_row names (c ∷ cs)))))

-- The same where the list has an item.

-- the text of the links of an atom
pub links_all : (all : List Occ) → 0 < length all → codes "(" ++ (in_row (codes ", ") false (map (λ x. link_name x.link) all) ++ codes ")") ≡ text_of (links_pieces (link_numbers all))
links_all [] h = absurd (omega (arith, h))
links_all (o ∷ os) h = links_text o os (o ∷ os) refl

-- and of the contexts of a condition
pub arguments_all : (names : List tree.Name) (all : List CtxUse) → 0 < length all
    → codes "(" ++ (in_row (codes ", ") false (map (context_text names (codes "$")) all) ++ codes ")") ≡ text_of (contexts_pieces (names_of names all))
arguments_all names [] h = absurd (omega (arith, h))
arguments_all names (u ∷ us) h = arguments_text names u us (u ∷ us) refl

-- and of a guard
pub guard_all : (names : List tree.Name) (all : List Cond) → 0 < length all
    → in_row (codes ", ") false (map (condition_text names) all) ++ codes " | " ≡ text_of (guard_pieces (map (condition_of names) all))
guard_all names [] h = absurd (omega (arith, h))
guard_all names (c ∷ cs) h = guard_text names c cs (c ∷ cs) refl

-- a connector and another atom by their parts
pub connector_text : (names : List tree.Name) (label : Label) (os : List Occ) (d e : Occ) → makes_connector label (length os) ≡ true
    → link_name (get_or os 0 d).link ++ (codes " = " ++ link_name (get_or os 1 e).link) ≡ text_of (leaf_pieces (atom_or_connector names label (link_numbers os)))
connector_text names label os d e t =
    let s : length (link_numbers os) ≡ length os = length-map os (λ o. o.link) in
    let r = connector_is names label (link_numbers os) (ap (makes_connector label) s ∙ t) in
    let both = links_two os r.0 r.1 r.2 in
    ap (λ z. link_name (get_or os 0 d).link ++ (codes " = " ++ z)) (sym (append-nil (link_name (get_or os 1 e).link)))
    ∙ ap (λ k. link_name k ++ (codes " = " ++ (link_name (get_or os 1 e).link ++ []))) both.0
    ∙ ap (λ k. link_name r.0 ++ (codes " = " ++ (link_name k ++ []))) both.1
    ∙ ap (λ z. text_of (leaf_pieces z)) (sym r.3)
  where
    links_two : (os : List Occ) (a b : ℕ) → link_numbers os ≡ a ∷ b ∷ [] → ((get_or os 0 d).link ≡ a) × ((get_or os 1 e).link ≡ b)
    links_two [] a b w = absurd (cc w)
    links_two (o ∷ []) a b w = absurd (let v : o.link ∷ [] ≡ a ∷ b ∷ [] = w in cc v)
    links_two (o ∷ p ∷ os) a b w = let v : o.link ∷ p.link ∷ link_numbers os ≡ a ∷ b ∷ [] = w in (cc v, cc v)

-- the text of an atom
pub atom_text_is : (names : List tree.Name) (label : Label) (os : List Occ) → makes_connector label (length os) ≡ false
    → label_text (label_of names label) ++ text_of (links_pieces (link_numbers os)) ≡ text_of (leaf_pieces (atom_or_connector names label (link_numbers os)))
atom_text_is names label os e =
    let s : length (link_numbers os) ≡ length os = length-map os (λ o. o.link) in
    ap (λ t. t ++ text_of (links_pieces (link_numbers os))) (label_is (label_of names label))
    ∙ ap (λ z. text_of (leaf_pieces z)) (sym (atom_is names label (link_numbers os) (ap (makes_connector label) s ∙ e)))

-- a typed context
pub typed_text : (names : List tree.Name) (leaf : Leaf) (n : ℕ) (o : Occ) (pos : Pos) → leaf ≡ Typed n o pos
    → (codes "$" ++ name_of names n) ++ (codes "[" ++ (link_name o.link ++ codes "]")) ≡ leaf_text names leaf
typed_text names leaf n o pos e = ap (leaf_text names) (sym e)

-- Conditions by their parts.

-- the text of a comparison
pub compare_text : (names : List tree.Name) (c : Cond) (op : Cmp) (l r : Expr) (pos : Pos) (sign : List ℕ) → c ≡ Compare op l r pos → sign ≡ text_of (comparison_pieces op)
    → text_of (side_pieces (expression_of names l)) ++ (sign ++ text_of (side_pieces (expression_of names r))) ≡ condition_text names c
compare_text names c op l r pos sign e es =
    let a = side_pieces (expression_of names l) in
    let b = side_pieces (expression_of names r) in
    ap (λ t. text_of a ++ (t ++ text_of b)) es
    ∙ sym (text_append a _ ∙ ap (λ t. text_of a ++ t) (text_append (comparison_pieces op) b))
    ∙ ap (condition_text names) (sym e)

-- and of a binding
pub equal_text : (names : List tree.Name) (c : Cond) (u : CtxUse) (r : Expr) (pos : Pos) → c ≡ Equal u r pos
    → (codes "$" ++ name_of names u.name) ++ (codes " = " ++ text_of (side_pieces (expression_of names r))) ≡ condition_text names c
equal_text names c u r pos e = ap (condition_text names) (sym e)

-- and of two parts that differ
pub differ_text : (names : List tree.Name) (c : Cond) (u v : CtxUse) (pos : Pos) → c ≡ Differ u v pos
    → (codes "$" ++ name_of names u.name) ++ (codes " \\= " ++ (codes "$" ++ name_of names v.name)) ≡ condition_text names c
differ_text names c u v pos e =
    ap (λ t. (codes "$" ++ name_of names u.name) ++ (codes " \\= " ++ t)) (sym (append-nil (codes "$" ++ name_of names v.name))) ∙ ap (condition_text names) (sym e)
