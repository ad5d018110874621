-- Where marks tell the numbers of links, the walk writes the line of the solid.
use Rattle.std.proofs.Common.{◌≡◌, ℕ, zero, suc, ◌+◌, ◌<◌, Bool, false, List, [], ◌∷◌, ◌++◌, Option, Some, None, refl, sym, ap, ◌∙◌, subst, arith}
use Rattle.std.specs.Prelude.{codes}
use Rattle.std.specs.Option.{option_map}
use Rattle.std.proofs.lemmas.List.{append_assoc}
use Rattle.lmn_base.specs.declared.functor.Functor.{Functor}
use Rattle.lmn_base.specs.declared.rule.RuleTree.{RuleTree}
use Rattle.lmn_base.specs.declared.solid.SolidAtom.{SolidAtom}
use Rattle.lmn_base.specs.declared.solid.Solid.{Solid}
use Rattle.lmn_congruence.specs.Rules.{Name}
use Rattle.lmn_store_heap.specs.Heap.{Heap, HeapAtom, within, IsAtom, arity_of, atoms_in, mems_in, rules_in}
use Rattle.lmn_store_heap.specs.Solid.{HasSolid, solid_atom_at, solid_atoms_at, links_from, regions_of}
use Rattle.lmn_store_heap.specs.Sound.{Forest, bare, mem, Forms, Sound}
use Rattle.lmn_store_heap.proofs.SolidLemmas.{regions_frame}
use Rattle.lmn_flatten_plain.specs.SolidLines.{solid_line}
use Rattle.lmn_print_plain.specs.Rows.{between_if, any_behind}
use Rattle.lmn_print_plain.specs.Stored.{TellsNumbers, atom_text, number_by_mark}
use Rattle.lmn_flatten_plain.specs.Words.{text_of, rule_pieces}
use Rattle.lmn_congruence.specs.Translation.{numbered_rule}
use Rattle.lmn_print_plain.specs.Walks.{Texts, texts_in, members, tree_text, has_any}
use Rattle.lmn_print_plain.proofs.LineLemmas.{line_is, stop_if}
use Rattle.lmn_print_plain.proofs.RowLemmas.{any_map}
use Rattle.lmn_store_heap.proofs.Items.{place_some as atom_by_place}
use Rattle.lmn_base.specs.Lists.{In}

-- names that say the same of some ports number them alike
pub numbered_alike : (u v : ℕ → ℕ → ℕ) (a i n : ℕ) → ((j : ℕ) → j < i + n → u a j ≡ v a j) → links_from u a i n ≡ links_from v a i n
numbered_alike u v a i zero h = refl
numbered_alike u v a i (suc n) h = ap (λ x. x ∷ links_from u a (i + 1) n) (h i (omega arith)) ∙ ap (λ xs. v a i ∷ xs) (numbered_alike u v a (i + 1) n (λ j l. h j (omega (arith, l))))

-- an atom of a solid
abbrev pub solid_atom : Functor → List ℕ → SolidAtom
solid_atom f ls = record { functor = f; links = ls }

module _ (h : Heap) (sound : Sound h) (name : ℕ → ℕ → ℕ) (told : TellsNumbers h name) where
  told_at : (a i : ℕ) → i < arity_of h a → name a i ≡ number_by_mark h a i
  told_at a i l = let e = told a i l in omega (arith, e)

  told_atom : (a : ℕ) (o : Option HeapAtom) → h.atoms a ≡ o → solid_atom_at name a o ≡ solid_atom_at (number_by_mark h) a o
  told_atom a None e = refl
  told_atom a (Some x) e =
      let arity : arity_of h a ≡ x.functor.arity = sound.shaped.ports a x.functor (ap (option_map (λ (y : HeapAtom). y.functor)) e) in
      ap (λ ls. solid_atom x.functor ls ∷ [])
      (numbered_alike name (number_by_mark h) a 0 x.functor.arity (λ j l. told_at a j (omega (arith, l, arity))))

  told_atoms : (xs : List ℕ) → solid_atoms_at h name xs ≡ solid_atoms_at h (number_by_mark h) xs
  told_atoms [] = refl
  told_atoms (a ∷ xs) = ap (λ ys. ys ++ solid_atoms_at h name xs) (told_atom a (h.atoms a) refl) ∙ ap (λ ys. solid_atom_at (number_by_mark h) a (h.atoms a) ++ ys) (told_atoms xs)

  told_regions : (f : Forest) → regions_of h name f ≡ regions_of h (number_by_mark h) f
  told_regions f = regions_frame h h name (number_by_mark h) f (λ m i. (told_atoms (atoms_in h m), refl))

-- what a membrane lists is an atom
pub all_atoms : (h : Heap) → Sound h → (m a : ℕ) → In a (atoms_in h m) → IsAtom h a
all_atoms h sound m a i = atom_by_place (h.atoms a) (within m) ((sound.listed.atoms m a).0 i)

-- whether an item stands behind two lists is asked of one after the other
pub any_append : (any : Bool) (xs ys : List (List ℕ)) → any_behind any (xs ++ ys) ≡ any_behind (any_behind any xs) ys
any_append any [] ys = refl
any_append any (x ∷ xs) [] = refl
any_append any (x ∷ xs) (y ∷ ys) = refl

-- an item stands behind the membranes of a forest where it does behind its texts
pub any_members : (t : Texts) (h : Heap) (any : Bool) (f : Forest) (ms : List ℕ) → Forms h f ms → any_behind any (members t f) ≡ any_behind any ms
any_members t h any bare ms F = ap (any_behind any) (sym F)
any_members t h any (mem m i r) ms F = ap (any_behind any) (sym F.1)

-- the line of a solid is the text of its tree, where marks tell the numbers of links
pub told_line : (names : List Name) (table : List RuleTree) (h : Heap) → Sound h → (x : Solid) (of : HasSolid h x) → TellsNumbers h of.name
    → solid_line names table x ≡ tree_text (texts_in names table h) of.forest ++ (between_if (codes ".") (has_any h h.root) ++ codes "\n")
told_line names table h sound x of told = by of.forest of.tree.forms (sym (told_regions h sound of.name told of.forest) ∙ of.root)
  where
    by : (f : Forest) → Forms h f (h.root ∷ []) → regions_of h (number_by_mark h) f ≡ x.root ∷ []
        → solid_line names table x ≡ tree_text (texts_in names table h) f ++ (between_if (codes ".") (has_any h h.root) ++ codes "\n")
    by bare F e = absurd (cc F)
    by (mem k i r) F e =
        let t = texts_in names table h in
        let w : h.root ∷ [] ≡ k ∷ F.0 = F.1 in
        let same : k ≡ h.root = cc w in
        let none : F.0 ≡ [] = cc w in
        let last : r ≡ bare = nothing r (subst (Forms h r) none F.3) in
        let whole : regions_of h (number_by_mark h) (mem k i bare) ≡ x.root ∷ [] = ap (λ g. regions_of h (number_by_mark h) (mem k i g)) (sym last) ∙ e in
        let one = any_behind false (atoms_in h k) in
        let any : any_behind false (t.atoms k ++ (members t i ++ t.rules k)) ≡ has_any h k =
        any_append false (t.atoms k) (members t i ++ t.rules k)
        ∙ any_append (any_behind false (t.atoms k)) (members t i) (t.rules k)
        ∙ ap (λ z. any_behind (any_behind z (members t i)) (t.rules k)) (any_map (atom_text names h) false (atoms_in h k))
        ∙ ap (λ z. any_behind z (t.rules k)) (any_members t h one i (mems_in h k) F.2)
        ∙ any_map (λ (n : ℕ). text_of (rule_pieces (numbered_rule names table n))) (any_behind one (mems_in h k)) (rules_in h k) in
        line_is names table h (all_atoms h sound) x k i whole
        ∙ append_assoc (tree_text t (mem k i bare)) (stop_if (any_behind false (t.atoms k ++ (members t i ++ t.rules k)))) (codes "\n")
        ∙ ap (λ z. tree_text t (mem k i bare) ++ (between_if (codes ".") z ++ codes "\n")) (any ∙ ap (has_any h) same)
      where
        nothing : (g : Forest) → Forms h g [] → g ≡ bare
        nothing bare F = refl
        nothing (mem k i b) F = absurd (let w : [] ≡ k ∷ F.0 = F.1 in cc w)
