-- How an atom that is filed tells whether it is the last one of its class.
use Rattle.std.proofs.Common.{◌≡◌, ◌==◌, ◌∷◌, ◌++◌, ℕ, Bool, true, false, if◌then◌else◌, List, Option, Some, None, IsSome, refl, sym, ap, subst, ◌∙◌, inl, inr}
use Rattle.std.proofs.lemmas.Bool.{eqb-true}
use Rattle.std.proofs.lemmas.Option.{same_Some}
use Rattle.lmn_base.specs.Lists.{In}
use Rattle.lmn_base.proofs.Lists.{in_either}
use Rattle.lmn_store_heap.proofs.ListLemmas.{in_left, in_right}
use Rattle.lmn_store_heap.proofs.Common.{decide_in}
use Rattle.lmn_web_cells.specs.Cells.{HeldCell}
use Rattle.lmn_web_cells.specs.Links.{EVEN, ODD}
use Rattle.lmn_web_cells.specs.Numbers.{KIND}
use Rattle.lmn_web_cells.specs.Runs.{link_in}
use Rattle.lmn_web.specs.declared.kind.CellKind.TheVariants.{Atom, Membrane}
use Rattle.lmn_web.specs.Kinds.{kind_by, FILED}
use Rattle.lmn_web.specs.Webs.{number_in}
use Rattle.lmn_web.specs.Classes.{ClassTree, Bare, Fork, lasts, IsTree, AreClassed, files, is_no_membrane, ends_class}

-- an atom by its number
atom_number : (n : ℕ) → kind_by n ≡ Atom → (n == 0) ≡ true
atom_number n e = by (n == 0) e
  where
    by : (b : Bool) → (if b then Atom else Membrane) ≡ Atom → b ≡ true
    by true s = refl
    by false s = absurd cc

-- and a membrane
membrane_number : (n : ℕ) → kind_by n ≡ Membrane → (n == 0) ≡ false
membrane_number n e = by (n == 0) e
  where
    by : (b : Bool) → (if b then Atom else Membrane) ≡ Membrane → b ≡ false
    by true s = absurd cc
    by false s = refl

-- what files is a membrane
pub files_membrane : (f : ℕ → Option HeldCell) (m : ℕ) → files f m Atom ≡ true → kind_by (number_in f m KIND) ≡ Membrane
files_membrane f m e = ap kind_by (eqb-true (number_in f m KIND) FILED e)

-- on the even side of a cell of a tree there is nothing, or another cell of it
tree_even : (f : ℕ → Option HeldCell) (first : Option ℕ) (t : ClassTree) → IsTree f first t → (x : ℕ) → In x (lasts t) → (d : ℕ) → link_in f x EVEN ≡ Some d → In d (lasts t)
tree_even f first Bare q x i d e = i
tree_even f first (Fork l a b) q x (inl s) d e = by a (subst (λ z. IsTree f (link_in f z EVEN) a) s q.2)
  where
    by : (u : ClassTree) → IsTree f (link_in f x EVEN) u → In d (l ∷ (lasts u ++ lasts b))
    by Bare r = absurd (let z : ◌≡◌ {A = Option ℕ} (Some d) None = sym e ∙ r in cc)
    by (Fork k u v) r = inr (inl (same_Some k d (sym r.0 ∙ e)))
tree_even f first (Fork l a b) q x (inr i) d e = elim (in_either x (lasts a) (lasts b) i) [
  | inl j ↦ inr (in_left d (lasts a) (lasts b) (tree_even f (link_in f l EVEN) a q.2 x j d e))
  | inr j ↦ inr (in_right d (lasts a) (lasts b) (tree_even f (link_in f l ODD) b q.3 x j d e))
]

module _ (f : ℕ → Option HeldCell) (m : ℕ) (xs : List ℕ) (t : ClassTree) (a : AreClassed f m xs t) (kinds : (x : ℕ) → In x xs → kind_by (number_in f x KIND) ≡ Atom) (home : kind_by (number_in f m KIND) ≡ Membrane) where
  -- the last one of a class tells that it is
  pub last_ends : (c : ℕ) → In c (lasts t) → ends_class f c ≡ true
  last_ends c i = by (link_in f c EVEN) refl
    where
      by : (o : Option ℕ) → link_in f c EVEN ≡ o → is_no_membrane f o ≡ true
      by None e = refl
      by (Some d) e = atom_number (number_in f d KIND) (kinds d (a.inside d (tree_even f _ t a.tree c i d e)))

  -- and no other one does
  pub ends_last : (c : ℕ) → In c xs → ends_class f c ≡ true → In c (lasts t)
  ends_last c i e = elim (decide_in c (lasts t)) [
    | inl j ↦ j
    | inr n ↦ absurd (let s : true ≡ false = sym e ∙ ap (is_no_membrane f) (a.inner c i n) ∙ membrane_number (number_in f m KIND) home in cc)
  ]

  -- what is read for it is there
  pub even_alive : IsSome (f m) → ((x : ℕ) → In x xs → IsSome (f x)) → (c : ℕ) → In c xs → (d : ℕ) → link_in f c EVEN ≡ Some d → IsSome (f d)
  even_alive there alive c i d e = elim (decide_in c (lasts t)) [
    | inl j ↦ alive d (a.inside d (tree_even f _ t a.tree c j d e))
    | inr n ↦ subst (λ z. IsSome (f z)) (same_Some m d (sym (a.inner c i n) ∙ e)) there
  ]
