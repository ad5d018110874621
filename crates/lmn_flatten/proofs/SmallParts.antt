-- Atoms, contexts and occurrences that are added.
use Rattle.std.proofs.Common.{Box, Global, ◌≡◌, ℕ, true, false, List, [], ◌∷◌, ◌++◌, length, Option, Some, None, refl, sym, ap, ◌∙◌, subst}
use Rattle.std.specs.List.{AllZip}
use Rattle.lmn_base.specs.declared.functor.Label.{Label}
use Rattle.lmn_base.specs.declared.level.Leaf as base
use Rattle.lmn_base.specs.declared.level.Leaf.TheVariants.{Atom, Typed}
use Rattle.lmn_base.specs.declared.level.Occ.{Occ}
use Rattle.lmn_base.specs.declared.refusal.Pos.{Pos}
use Rattle.lmn_congruence.specs.Rules as tree
use Rattle.lmn_parser.specs.declared.tree.AtomNode.{AtomNode}
use Rattle.lmn_parser.specs.declared.tree.Clause.{Clause as ClauseNode}
use Rattle.lmn_parser.specs.declared.tree.Clause.TheViews as view
use Rattle.lmn_parser.specs.declared.tree.Term.{Term as TermNode}
use Rattle.lmn_parser.specs.declared.tree.Term.TheVariants as term_variant
use Rattle.lmn_parser.specs.Syntax.{Terms, no_term, term_and, term_of}
use Rattle.lmn_parser.proofs.Nodes.{term_link, term_atom, term_list, term_list_onto, term_context, term_membrane}
use Rattle.lmn_flatten_plain.specs.Expanded.{atom_leaf, typed_leaf}
use Rattle.lmn_flatten_plain.specs.Expansion.{argument, written_link, rest}
use Rattle.lmn_flatten_plain.specs.Keys.{IsKey}
use Rattle.lmn_flatten_plain.specs.Links.{Link, Use, made}
use Rattle.lmn_flatten_plain.specs.Meanings.{name_at, place_at}
use Rattle.lmn_flatten_plain.specs.Plains.{number_of, numbered_label}
use Rattle.lmn_flatten.specs.Built.{IsUse, AddsLeaf}
use Rattle.lmn_flatten.specs.Glossaries.{Reading}
use Rattle.lmn_flatten.specs.Growing.{some_term}
use Rattle.lmn_flatten.specs.Scopes.{IsScope, Meets, NoWay}
use Rattle.lmn_flatten.specs.declared.part.Part.{Part}
use Rattle.lmn_flatten.specs.declared.scope.Scope.{Scope}
use Rattle.lmn_flatten.proofs.EachLemmas.{each_length}
use Rattle.lmn_flatten.proofs.GrowingLemmas.{meets_more, meets_nothing, key_more}

-- an atom is a leaf more
pub adds_atom : (names : List tree.Name) (R : Link → ℕ → Type 0) (l : tree.Label) (us : List Use) (pos : Pos) (label : Label) (arity : ℕ) (links : List Occ)
    (part : Part) (leaves : List base.Leaf) → label ≡ numbered_label names (λ a. 0) l → arity ≡ length links → AllZip (IsUse names R) us links
    → leaves ≡ part.leaves ++ Atom (record { label = label; arity = arity }) links pos ∷ []
    → AddsLeaf names R (atom_leaf l us pos) part
    (record { leaves = leaves; membranes = part.membranes; contexts = part.contexts; rule_contexts = part.rule_contexts; rules = part.rules })
adds_atom names R l us pos label arity links part leaves e n uses grown = record {
  leaf = Atom (record { label = label; arity = arity }) links pos;
  is_leaf = (
    links,
    ap (λ x. Atom (record { label = x; arity = arity }) links pos) e
        ∙ ap (λ k. Atom (record { label = numbered_label names (λ a. 0) l; arity = k }) links pos) (n ∙ each_length (IsUse names R) us links uses),
    uses,
  );
  leaves = grown;
  membranes = refl;
  contexts = refl;
  rule_contexts = refl;
  rules = refl;
}

-- and so is a typed context
pub adds_typed : (r : Reading) (R : Link → ℕ → Type 0) (u : Use) (p name : ℕ) (pos : Pos) (link : Occ) (part : Part) (leaves : List base.Leaf)
    → name ≡ number_of r.names (name_at r.words r.places p) → pos ≡ place_at r.words r.places p → IsUse r.names R u link → leaves ≡ part.leaves ++ Typed name link pos ∷ []
    → AddsLeaf r.names R (typed_leaf (name_at r.words r.places p) u (place_at r.words r.places p)) part
    (record { leaves = leaves; membranes = part.membranes; contexts = part.contexts; rule_contexts = part.rule_contexts; rules = part.rules })
adds_typed r R u p name pos link part leaves n e is_use grown = record {
  leaf = Typed name link pos;
  is_leaf = (link, ap (λ k. Typed k link pos) n ∙ ap (λ q. Typed (number_of r.names (name_at r.words r.places p)) link q) e, is_use);
  leaves = grown;
  membranes = refl;
  contexts = refl;
  rule_contexts = refl;
  rules = refl;
}

module _ (names : List tree.Name) (R : Link → ℕ → Type 0) where
  uses_as : (us : List Use) (os links : List Occ) → links ≡ os → AllZip (IsUse names R) us os → AllZip (IsUse names R) us links
  uses_as us os links e h = let P : List Occ → Type 0 = AllZip (IsUse names R) us in subst P (sym e) h

  pub one_use : (u : Use) (o : Occ) (a b : List Occ) → a ≡ [] → b ≡ a ++ o ∷ [] → IsUse names R u o → AllZip (IsUse names R) (u ∷ []) b
  one_use u o a b e f h = uses_as (u ∷ []) (o ∷ []) b (f ∙ ap (λ x. x ++ o ∷ []) e) (h, tt)

  pub two_uses : (u v : Use) (o p : Occ) (a b c : List Occ) → a ≡ [] → b ≡ a ++ o ∷ [] → c ≡ b ++ p ∷ [] → IsUse names R u o → IsUse names R v p
      → AllZip (IsUse names R) (u ∷ v ∷ []) c
  two_uses u v o p a b c e f g h k = uses_as (u ∷ v ∷ []) (o ∷ p ∷ []) c (g ∙ ap (λ x. x ++ p ∷ []) (f ∙ ap (λ x. x ++ o ∷ []) e)) (h, (k, tt))

  pub three_uses : (u v w : Use) (o p q : Occ) (a b c d : List Occ) → a ≡ [] → b ≡ a ++ o ∷ [] → c ≡ b ++ p ∷ [] → d ≡ c ++ q ∷ []
      → IsUse names R u o → IsUse names R v p → IsUse names R w q → AllZip (IsUse names R) (u ∷ v ∷ w ∷ []) d
  three_uses u v w o p q a b c d e f g i h k l = uses_as (u ∷ v ∷ w ∷ []) (o ∷ p ∷ q ∷ []) d
      (i ∙ ap (λ x. x ++ q ∷ []) (g ∙ ap (λ x. x ++ p ∷ []) (f ∙ ap (λ x. x ++ o ∷ []) e))) (h, (k, (l, tt)))

-- ---- arguments

-- one occurrence more, of a link that is made at a way
abbrev pub Made : Reading → List ℕ → List Link → Scope → Use → Occ → Type 0
Made r way keys s u o = (m : Meets r (λ v. v ≡ way) keys s) × IsUse r.names (IsKey (keys ++ m.more)) u o

-- an argument with a link of its own
pub argument_made : (r : Reading) (keys : List Link) (way : List ℕ) (pos : Pos) (t : TermNode) (o : Occ) (s : Scope)
    → argument r.words r.places pos way (term_of t) ≡ record { link = made way; pos = pos } → Made r way keys s (record { link = made way; pos = pos }) o
    → Made r way keys s (argument r.words r.places pos way (term_of t)) o
argument_made r keys way pos t o s e h = let P : Use → Type 0 = λ u. Made r way keys s u o in subst P (sym e) h

-- an argument that is a link
pub argument_link : (r : Reading) (keys : List Link) (way : List ℕ) (pos : Pos) (t : TermNode) (p : ℕ) (o : Occ) (s : Scope) → t ≡ term_variant.Link p
    → (m : Meets r NoWay keys s) × IsUse r.names (IsKey (keys ++ m.more)) (written_link r.words r.places p) o
    → Made r way keys s (argument r.words r.places pos way (term_of t)) o
argument_link r keys way pos t p o s e h =
    let P : Use → Type 0 = λ u. Made r way keys s u o in
    subst P (sym (ap (argument r.words r.places pos way) (ap term_of e ∙ term_link p))) (meets_more r NoWay (λ v. v ≡ way) keys s (λ v n. absurd n) h.0, h.1)

abbrev Is : Reading → List ℕ → Pos → TermNode → Type 0
Is r way pos t = argument r.words r.places pos way (term_of t) ≡ record { link = made way; pos = pos }

-- an atom as an argument has a link of its own
pub atom_made : (r : Reading) (way : List ℕ) (pos : Pos) (t : TermNode) (n : AtomNode) → t ≡ view.Term::Atom n → Is r way pos t
atom_made r way pos t n e = ap (argument r.words r.places pos way) (ap term_of e ∙ term_atom n)

-- and so has a context
pub context_made : (r : Reading) (way : List ℕ) (pos : Pos) (t : TermNode) (p : ℕ) → t ≡ term_variant.Context p → Is r way pos t
context_made r way pos t p e = ap (argument r.words r.places pos way) (ap term_of e ∙ term_context p)

-- and a membrane
pub membrane_made : (r : Reading) (way : List ℕ) (pos : Pos) (t : TermNode) (cs : List ClauseNode) → t ≡ view.Term::Membrane cs → Is r way pos t
membrane_made r way pos t cs e = ap (argument r.words r.places pos way) (ap term_of e ∙ term_membrane cs)

-- and a list
pub list_made : (r : Reading) (way : List ℕ) (pos : Pos) (t : TermNode) (ts : List TermNode) (o : Option (Box TermNode Global)) → t ≡ view.List ts o → Is r way pos t
list_made r way pos t ts None e = ap (argument r.words r.places pos way) (ap term_of e ∙ term_list ts)
list_made r way pos t ts (Some b) e = ap (argument r.words r.places pos way) (ap term_of e ∙ term_list_onto ts b)

-- ---- the rest of a cell

-- the rest of a list that goes on has a link of its own
pub rest_new : (r : Reading) (keys : List Link) (way : List ℕ) (last : Use) (ts : Terms) (pos : Pos) (o : Occ) (s : Scope) → true ≡ some_term ts
    → Made r way keys s (record { link = made way; pos = pos }) o → Made r way keys s (rest r.words r.places pos way last ts) o
rest_new r keys way last no_term pos o s e h = absurd (cc)
rest_new r keys way last (term_and t ts) pos o s e h = h

-- but not where it ends
pub rest_end : (r : Reading) (keys : List Link) (way : List ℕ) (last : Use) (ts : Terms) (pos : Pos) (o : Occ) (s : Scope) → false ≡ some_term ts
    → IsScope r keys s → IsUse r.names (IsKey keys) last o → Made r way keys s (rest r.words r.places pos way last ts) o
rest_end r keys way last no_term pos o s e h is_use = (meets_nothing r (λ v. v ≡ way) keys s h, (key_more keys [] last.link o.link is_use.0, is_use.1))
rest_end r keys way last (term_and t ts) pos o s e h is_use = absurd (cc)
