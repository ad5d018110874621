-- What ties two ports does the same where they are exchanged.
use Rattle.std.proofs.Common.{◌≡◌, ◌≢◌, ◌<◌, ◌==◌, ◌&&◌, ◌∙◌, inl, inr, ℕ, zero, suc, Bool, true, false, List, [], ◌∷◌, ◌++◌, Option, Some, None, refl, sym, ap, subst, true≢false}
use Rattle.std.specs.Prelude.{slice_set, if◌then◌else◌}
use Rattle.std.specs.List.{list_all}
use Rattle.std.specs.Option.{option_map}
use Rattle.std.proofs.lemmas.Bool.{cases_eq, eqb-true, eq-eqb}
use Rattle.lmn_base.specs.Graphs.{Port}
use Rattle.lmn_base.proofs.Common.{port_cases}
use Rattle.lmn_base.proofs.Truth.{and_true}
use Rattle.lmn_store_heap.specs.Heap.{Heap, HeapAtom, arity_of, cleared, joined, link_of, linked, with_link}
use Rattle.lmn_store_heap.specs.Sound.{Paired}
use Rattle.lmn_store_heap.specs.Splice.{joined_both, joined_to, unified}
use Rattle.lmn_store_heap.proofs.Ports.{joined_paired}
use Rattle.lmn_store_heap.proofs.Replacing.{port_within}
use Rattle.lmn_congruence_splice.proofs.Joining.{same_some}
use Rattle.lmn_instr_code.specs.declared.instr.Instr.{Instr}
use Rattle.lmn_instr_code.specs.declared.instr.Instr.TheVariants.{NewLink, Relink, Unify}
use Rattle.lmn_solid_bodies.specs.Running.{Registers, Does, DoesAll, new_port, old_port}
use Rattle.lmn_solid_bodies.specs.Conditions.{Can, CanRun}
use Rattle.lmn_machine_commit.specs.Committing.{Runs, Stands}
use Rattle.lmn_verify_laws.proofs.Exchanged.{EachTie, IsTurned, SameTie, is_tie}
use Rattle.lmn_solid_bodies.proofs.HeapTies.{apart_ports}

-- ---- changes at two places

set_swap : (xs : List (Option Port)) (i j : ℕ) (p q : Option Port) → i ≢ j → slice_set (slice_set xs i p) j q ≡ slice_set (slice_set xs j q) i p
set_swap [] i j p q d = refl
set_swap (x ∷ xs) zero zero p q d = absurd (d refl)
set_swap (x ∷ xs) zero (suc j) p q d = refl
set_swap (x ∷ xs) (suc i) zero p q d = refl
set_swap (x ∷ xs) (suc i) (suc j) p q d = ap (λ l. x ∷ l) (set_swap xs i j p q (λ e. d (ap suc e)))

link_swap : (i j : ℕ) (p q : Option Port) → i ≢ j → (x : Option HeapAtom) → option_map (with_link j q) (option_map (with_link i p) x) ≡ option_map (with_link i p) (option_map (with_link j q) x)
link_swap i j p q d None = refl
link_swap i j p q d (Some x) = λ t. Some (record x { links = set_swap x.links i j p q d t })

linked_swap : (f : ℕ → Option HeapAtom) (a i : ℕ) (p : Option Port) (b j : ℕ) (q : Option Port) → ◌≢◌ {A = Port} (a, i) (b, j) → (c : ℕ) → linked (linked f a i p) b j q c ≡ linked (linked f b j q) a i p c
linked_swap f a i p b j q d c = elim (cases_eq c a) [
  | inl ea ↦ elim (cases_eq c b) [
    | inl eb ↦ (let n : i ≢ j = λ e. d (λ t. ((sym ea ∙ eb) t, e t)) in
        at_both (c == a) (c == b) (eq-eqb c a ea) (eq-eqb c b eb) (link_swap i j p q n (f c)))
    | inr db ↦ by_second (c == a) (c == b) (not_same c b db)
  ]
  | inr da ↦ by_first (c == a) (c == b) (not_same c a da)
]
  where
    not_same : (x y : ℕ) → x ≢ y → (x == y) ≡ false
    not_same x y d = by (x == y) refl
      where
        by : (t : Bool) → (x == y) ≡ t → t ≡ false
        by true e = absurd (d (eqb-true x y e))
        by false e = refl

    at_both : (s t : Bool) → s ≡ true → t ≡ true → option_map (with_link j q) (option_map (with_link i p) (f c)) ≡ option_map (with_link i p) (option_map (with_link j q) (f c)) →
        (if t then option_map (with_link j q) (if s then option_map (with_link i p) (f c) else f c) else (if s then option_map (with_link i p) (f c) else f c)) ≡ (if s then option_map (with_link i p) (if t then option_map (with_link j q) (f c) else f c) else (if t then option_map (with_link j q) (f c) else f c))
    at_both true true e g h = h
    at_both true false e g h = absurd (true≢false (sym g))
    at_both false t e g h = absurd (true≢false (sym e))

    by_second : (s t : Bool) → t ≡ false →
        (if t then option_map (with_link j q) (if s then option_map (with_link i p) (f c) else f c) else (if s then option_map (with_link i p) (f c) else f c)) ≡ (if s then option_map (with_link i p) (if t then option_map (with_link j q) (f c) else f c) else (if t then option_map (with_link j q) (f c) else f c))
    by_second s true e = absurd (true≢false e)
    by_second true false e = refl
    by_second false false e = refl

    by_first : (s t : Bool) → s ≡ false →
        (if t then option_map (with_link j q) (if s then option_map (with_link i p) (f c) else f c) else (if s then option_map (with_link i p) (f c) else f c)) ≡ (if s then option_map (with_link i p) (if t then option_map (with_link j q) (f c) else f c) else (if t then option_map (with_link j q) (f c) else f c))
    by_first true t e = absurd (true≢false e)
    by_first false true e = refl
    by_first false false e = refl

cleared_swap : (f : ℕ → Option HeapAtom) (p q : Option Port) (c : ℕ) → cleared (cleared f p) q c ≡ cleared (cleared f q) p c
cleared_swap f None q c = refl
cleared_swap f (Some p) None c = refl
cleared_swap f (Some p) (Some q) c = elim (port_cases p q) [
  | inl e ↦ (λ t. linked (linked f (e t).0 (e t).1 None) q.0 q.1 None c) ∙ (λ t. linked (linked f q.0 q.1 None) (sym e t).0 (sym e t).1 None c)
  | inr d ↦ linked_swap f p.0 p.1 None q.0 q.1 None d c
]

-- Ports that are joined are joined the other way round.
pub joined_swap : (s : Heap) (p q : Port) → p ≢ q → joined s p.0 p.1 q.0 q.1 ≡ joined s q.0 q.1 p.0 p.1
joined_swap s p q d =
    let f = cleared (cleared s.atoms (link_of s p.0 p.1)) (link_of s q.0 q.1) in
    let same : (c : ℕ) → f c ≡ cleared (cleared s.atoms (link_of s q.0 q.1)) (link_of s p.0 p.1) c = cleared_swap s.atoms (link_of s p.0 p.1) (link_of s q.0 q.1) in
    λ t. record s { atoms = λ c. ((λ u. linked (linked (λ x. same x u) p.0 p.1 (Some q)) q.0 q.1 (Some p) c) ∙ linked_swap (cleared (cleared s.atoms (link_of s q.0 q.1)) (link_of s p.0 p.1)) p.0 p.1 (Some q) q.0 q.1 (Some p) d c) t }

-- Partners agree after two ports were joined.
paired_joined : (s : Heap) (p q : Port) → p.1 < arity_of s p.0 → q.1 < arity_of s q.0 → p ≢ q → Paired s → Paired (joined s p.0 p.1 q.0 q.1)
paired_joined s p q lp lq d h = joined_paired s p.0 p.1 q.0 q.1 lp lq (apart_ports p q d) h

-- the partner of a port is a port
partner_port : (s : Heap) → Paired s → (o x : Port) → link_of s o.0 o.1 ≡ Some x → x.1 < arity_of s x.0
partner_port s h o x e = port_within s x.0 x.1 o (h.back o.0 o.1 x.0 x.1 e)

partners_differ : (s : Heap) → Paired s → (g o x y : Port) → link_of s g.0 g.1 ≡ Some x → link_of s o.0 o.1 ≡ Some y → g ≢ o → x ≢ y
partners_differ s h g o x y e f d same =
    let back : link_of s x.0 x.1 ≡ Some g = h.back g.0 g.1 x.0 x.1 e in
    let also : link_of s x.0 x.1 ≡ Some o = ap (λ (z : Port). link_of s z.0 z.1) same ∙ h.back o.0 o.1 y.0 y.1 f in
    d (same_some g o (sym back ∙ also))

test_ports : (x o : Port) → ((x.0 == o.0) && (x.1 == o.1)) ≡ true → x ≡ o
test_ports x o e = let t = and_true (x.0 == o.0) (x.1 == o.1) e in let a = eqb-true x.0 o.0 t.0 in let b = eqb-true x.1 o.1 t.1 in λ u. (a u, b u)

ports_test : (x o : Port) → x ≡ o → ((x.0 == o.0) && (x.1 == o.1)) ≡ true
ports_test x o e = λ u. eq-eqb x.0 o.0 (ap (λ (z : Port). z.0) e) u && eq-eqb x.1 o.1 (ap (λ (z : Port). z.1) e) u

-- So does what unifies.
pub unified_swap : (s : Heap) (g o : Port) → Paired s → g ≢ o → unified s g.0 g.1 o.0 o.1 ≡ unified s o.0 o.1 g.0 g.1
unified_swap s g o h d = by (link_of s g.0 g.1) (link_of s o.0 o.1) refl refl
  where
    tested : (x y : Port) → link_of s g.0 g.1 ≡ Some x → link_of s o.0 o.1 ≡ Some y → (b c : Bool) → ((x.0 == o.0) && (x.1 == o.1)) ≡ b → ((y.0 == g.0) && (y.1 == g.1)) ≡ c →
        (if b then s else joined s x.0 x.1 y.0 y.1) ≡ (if c then s else joined s y.0 y.1 x.0 x.1)
    tested x y e f true true t u = refl
    tested x y e f true false t u =
        let same = test_ports x o t in
        let back : link_of s o.0 o.1 ≡ Some g = ap (λ (z : Port). link_of s z.0 z.1) (sym same) ∙ h.back g.0 g.1 x.0 x.1 e in
        absurd (true≢false (sym (ports_test y g (same_some y g (sym f ∙ back))) ∙ u))
    tested x y e f false true t u =
        let same = test_ports y g u in
        let back : link_of s g.0 g.1 ≡ Some o = ap (λ (z : Port). link_of s z.0 z.1) (sym same) ∙ h.back o.0 o.1 y.0 y.1 f in
        absurd (true≢false (sym (ports_test x o (same_some x o (sym e ∙ back))) ∙ t))
    tested x y e f false false t u = joined_swap s x y (partners_differ s h g o x y e f d)

    by : (x y : Option Port) → link_of s g.0 g.1 ≡ x → link_of s o.0 o.1 ≡ y → joined_both s o.0 o.1 x y ≡ joined_both s g.0 g.1 y x
    by None None e f = refl
    by None (Some y) e f = refl
    by (Some x) None e f = refl
    by (Some x) (Some y) e f = tested x y e f ((x.0 == o.0) && (x.1 == o.1)) ((y.0 == g.0) && (y.1 == g.1)) refl refl

-- ---- instructions

module _ (r : Registers) where
  -- Partners agree behind an instruction that ties.
  paired_after : (i : Instr) (s t : Heap) → is_tie i ≡ true → Paired s → Can r i s → Does r i s t → Paired t
  paired_after (NewLink p q) s t e h c d = subst Paired (sym d) (paired_joined s (new_port r p) (new_port r q) c.0.1 c.1.1 c.2 h)
  paired_after (Relink p o) s t e h c d = subst Paired (sym d) (by (link_of s (old_port r o).0 (old_port r o).1) refl)
    where
      by : (x : Option Port) → link_of s (old_port r o).0 (old_port r o).1 ≡ x → Paired (joined_to s (new_port r p).0 (new_port r p).1 x)
      by None f = h
      by (Some x) f = paired_joined s (new_port r p) x c.0.1 (partner_port s h (old_port r o) x f) (c.2 x f) h
  paired_after (Unify g o) s t e h c d = subst Paired (sym d) (by (link_of s (old_port r g).0 (old_port r g).1) (link_of s (old_port r o).0 (old_port r o).1) refl refl)
    where
      tested : (x y : Port) (b : Bool) → link_of s (old_port r g).0 (old_port r g).1 ≡ Some x → link_of s (old_port r o).0 (old_port r o).1 ≡ Some y → Paired (if b then s else joined s x.0 x.1 y.0 y.1)
      tested x y true e f = h
      tested x y false e f = paired_joined s x y (partner_port s h (old_port r g) x e) (partner_port s h (old_port r o) y f) (partners_differ s h (old_port r g) (old_port r o) x y e f c.2) h

      by : (x y : Option Port) → link_of s (old_port r g).0 (old_port r g).1 ≡ x → link_of s (old_port r o).0 (old_port r o).1 ≡ y → Paired (joined_both s (old_port r o).0 (old_port r o).1 x y)
      by None y e f = h
      by (Some x) None e f = h
      by (Some x) (Some y) e f = tested x y ((x.0 == (old_port r o).0) && (x.1 == (old_port r o).1)) e f
  paired_after _ s t e h c d = absurd (true≢false (sym e))

  turned_can : (i j : Instr) (s : Heap) → IsTurned i j → Can r j s → Can r i s
  turned_can (NewLink p q) j s e c = let w : Can r (NewLink q p) s = subst (λ z. Can r z s) e c in (w.1, w.0, λ f. w.2 (sym f))
  turned_can (Unify p q) j s e c = let w : Can r (Unify q p) s = subst (λ z. Can r z s) e c in (w.1, w.0, λ f. w.2 (sym f))
  turned_can _ j s e c = absurd e

  same_can : (i j : Instr) (s : Heap) → SameTie i j → Can r j s → Can r i s
  same_can i j s (inl e) c = subst (λ z. Can r z s) (sym e) c
  same_can i j s (inr e) c = turned_can i j s e c

  turned_does : (i j : Instr) (s t : Heap) → IsTurned i j → Paired s → Can r j s → Does r i s t → Does r j s t
  turned_does (NewLink p q) j s t e h c d =
      let w : Can r (NewLink q p) s = subst (λ z. Can r z s) e c in
      subst (λ z. Does r z s t) (sym e) (d ∙ joined_swap s (new_port r p) (new_port r q) (λ f. w.2 (sym f)))
  turned_does (Unify p q) j s t e h c d =
      let w : Can r (Unify q p) s = subst (λ z. Can r z s) e c in
      subst (λ z. Does r z s t) (sym e) (d ∙ unified_swap s (old_port r p) (old_port r q) h (λ f. w.2 (sym f)))
  turned_does _ j s t e h c d = absurd e

  same_does : (i j : Instr) (s t : Heap) → SameTie i j → Paired s → Can r j s → Does r i s t → Does r j s t
  same_does i j s t (inl e) h c d = subst (λ z. Does r z s t) e d
  same_does i j s t (inr e) h c d = turned_does i j s t e h c d

  turned_tie : (i j : Instr) → IsTurned i j → is_tie j ≡ true
  turned_tie (NewLink p q) j e = ap is_tie e
  turned_tie (Unify p q) j e = ap is_tie e
  turned_tie _ j e = absurd e

  same_tie : (i j : Instr) → is_tie i ≡ true → SameTie i j → is_tie j ≡ true
  same_tie i j e (inl s) = ap is_tie (sym s) ∙ e
  same_tie i j e (inr s) = turned_tie i j s

  tie_stands : (i : Instr) (s : Heap) → is_tie i ≡ true → Stands r i s
  tie_stands (NewLink p q) s e = tt
  tie_stands (Relink p q) s e = tt
  tie_stands (Unify p q) s e = tt
  tie_stands _ s e = absurd (true≢false (sym e))

  -- What can be run with operands in one order can be run with them in the other.
  pub ties_run : (is js rest : List Instr) (s : Heap) → EachTie is js → list_all is_tie is ≡ true → Paired s → Runs r (js ++ rest) s → Runs r (is ++ rest) s
  ties_run [] [] rest s e t h w = w
  ties_run [] (j ∷ js) rest s e t h w = absurd e
  ties_run (i ∷ is) [] rest s e t h w = absurd e
  ties_run (i ∷ is) (j ∷ js) rest s e t h w =
      let u = and_true (is_tie i) (list_all is_tie is) t in (
        same_can i j s e.0 w.0,
        tie_stands i s u.0,
        λ n d. let f = same_does i j s n e.0 h w.0 d in ties_run is js rest n e.1 u.1 (paired_after j s n (same_tie i j u.0 e.0) h w.0 f) (w.2 n f),
      )

  -- And they do the same.
  pub ties_do : (is js rest : List Instr) (s u : Heap) → EachTie is js → list_all is_tie is ≡ true → Paired s → CanRun r js s → DoesAll r (is ++ rest) s u → DoesAll r (js ++ rest) s u
  ties_do [] [] rest s u e t h w d = d
  ties_do [] (j ∷ js) rest s u e t h w d = absurd e
  ties_do (i ∷ is) [] rest s u e t h w d = absurd e
  ties_do (i ∷ is) (j ∷ js) rest s u e t h w d =
      let a = and_true (is_tie i) (list_all is_tie is) t in
      let f = same_does i j s d.0 e.0 h w.0 d.1 in
      (d.0, f, ties_do is js rest d.0 u e.1 a.1 (paired_after j s d.0 (same_tie i j a.0 e.0) h w.0 f) (w.1 d.0 f) d.2)
