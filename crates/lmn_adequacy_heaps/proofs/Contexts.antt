-- The contexts of a head stand for what is left in the images of its membranes.
use Rattle.std.proofs.Common.{ℕ, ◌≡◌, ◌==◌, ◌&&◌, Bool, true, false, cond, List, [], ◌∷◌, ◌++◌, map, refl, sym, ap, subst, ◌∙◌}
use Rattle.std.proofs.lemmas.Bool.{eq-eqb, eqb-true}
use Rattle.std.proofs.lemmas.List.{append_assoc, map-append}
use Rattle.lmn_store_heap.specs.Heap.{Heap, rules_in}
use Rattle.lmn_store_heap.specs.Sound.{Forest}
use Rattle.lmn_congruence.specs.Orders.{Among, at_head, further, EachOnce}
use Rattle.lmn_congruence.specs.Process.{Closed, Process}
use Rattle.lmn_congruence.specs.Regions.{SolidAtom, Regions, region, region_process}
use Rattle.lmn_congruence.specs.Rules.{Context, Level, Levels, Name, Rule, closed_context, no_rule, level, open_context}
use Rattle.lmn_reduction.specs.Assignments.{Assignment}
use Rattle.lmn_reduction.specs.Parts.{Rooted}
use Rattle.lmn_adequacy.specs.Accepted.{AtMostOne, EachLevel, EachOf, all_contexts, contexts_in, all_rule_contexts, rule_contexts_in, own_contexts, own_rule_contexts, own_rules, own_membranes}
use Rattle.lmn_adequacy_heaps.specs.HeapRegions.{HeapReading, regions_at}
use Rattle.lmn_adequacy_heaps.proofs.Pieces.{atom_at}
use Rattle.lmn_adequacy_heaps.proofs.Lying.{Lies, lies, LiesIn, lies_none, lies_and}
use Rattle.lmn_adequacy.proofs.Orders.{either}
use Rattle.lmn_adequacy_heaps.proofs.Keeping.{Agrees, Closes, ContextIs, RulesAre}
use Rattle.lmn_congruence.proofs.Common.{among_apart, among_left, among_right}

-- ---- looking up a name

-- a test whether two names are one
abbrev pub same_name : Name → Name → Bool
same_name [] [] = true
same_name [] (y ∷ q) = false
same_name (x ∷ p) [] = false
same_name (x ∷ p) (y ∷ q) = (x == y) && same_name p q

same_self : (p : Name) → same_name p p ≡ true
same_self [] = refl
same_self (x ∷ p) = rw (eq-eqb x x refl) (same_self p)

same_is : (p q : Name) → same_name p q ≡ true → p ≡ q
same_is [] [] e = refl
same_is [] (y ∷ q) e = absurd (cc)
same_is (x ∷ p) [] e = absurd (cc)
same_is (x ∷ p) (y ∷ q) e = by (x == y) refl e (same_is p q)
  where
    by : (t : Bool) → (x == y) ≡ t → (t && same_name p q) ≡ true → (same_name p q ≡ true → p ≡ q) → (x ∷ p) ≡ (y ∷ q)
    by true s e rest = λ j. eqb-true x y s j ∷ rest e j
    by false s e rest = absurd (cc)

-- what stands under a name in a list of pairs
abbrev pub look : {A : Type 0} → A → List (Name × A) → Name → A
look d [] p = d
look d (e ∷ es) p = cond (same_name e.0 p) e.1 (look d es p)

among_name : {A : Type 0} (es : List (Name × A)) {p : Name} {a : A} → Among (p, a) es → Among p (map (λ e. e.0) es)
among_name [] k = elim k [ ]
among_name (e ∷ es) at_head = at_head
among_name (e ∷ es) (further k) = further (among_name es k)

-- what stands once is found
pub looked : {A : Type 0} (d : A) (es : List (Name × A)) → EachOnce (map (λ e. e.0) es) → {p : Name} {a : A} → Among (p, a) es → look d es p ≡ a
looked d [] once k = elim k [ ]
looked d (e ∷ es) once at_head = rw (same_self e.0) refl
looked d (e ∷ es) once {p} {a} (further k) = by (same_name e.0 p) refl (looked d es once.1 k)
  where
    by : (t : Bool) → same_name e.0 p ≡ t → look d es p ≡ a → cond t e.1 (look d es p) ≡ a
    by true s rest = absurd (once.0 (subst (λ z. Among z (map (λ e. e.0) es)) (sym (same_is e.0 p s)) (among_name es k)))
    by false s rest = rest

-- one value under each of some names
abbrev pub entries : {K A : Type 0} → List K → A → List (K × A)
entries ps a = map (λ p. (p, a)) ps

entry_names : {K A : Type 0} (ps : List K) (a : A) → map (λ e. e.0) (entries ps a) ≡ ps
entry_names [] a = refl
entry_names (p ∷ ps) a = ap (λ qs. p ∷ qs) (entry_names ps a)

-- ---- what the contexts stand for

-- what is left of a membrane: atoms and membranes
abbrev pub Left : Type 0
Left = List SolidAtom × Regions

-- what is left, as a process
abbrev pub left_process : Left → Process
left_process a = region_process (region a.0 a.1 [])

-- what a closed context stands for is closed
abbrev pub LeftClosed : Context → Left → Type 0
LeftClosed (open_context p) a = Unit {0}
LeftClosed (closed_context p) a = Closed (left_process a)

-- at most one untyped context and one rule context
abbrev pub Few : Level → Type 0
Few l = AtMostOne (own_contexts l) × AtMostOne (own_rule_contexts l)

-- no rule stands in the level itself
abbrev pub NoRules : Level → Type 0
NoRules l = own_rules l ≡ no_rule

module _ (h : Heap) (r : HeapReading) (link_of' : ℕ → ℕ) (typed_of : Name → Rooted) (Q : Level → ℕ → List ℕ → Forest → Forest → Type 0)
    (closes : (l : Level) (m : ℕ) (xs : List ℕ) (i i' : Forest) → Q l m xs i i' → Closes h r l m xs i i') where
  -- what the contexts in a level stand for, by their names
  pub record LevelContents (l : Level) (bs : List ℕ) (ps : List (List ℕ)) (ms ns xs rest : List ℕ) (f f' : Forest) : Type 0 where
    pub held : List (Context × (List SolidAtom × Regions))
    pub rules_held : List (Name × List Rule)
    pub names : map (λ e. e.0) held ≡ contexts_in (own_membranes l)
    pub rule_names : map (λ e. e.0) rules_held ≡ rule_contexts_in (own_membranes l)
    pub closed : (p : Context) (a : List SolidAtom × Regions) → Among (p, a) held → LeftClosed p a
    pub agree : (t : Assignment) → ((p : Context) (a : List SolidAtom × Regions) → Among (p, a) held → t.context_of p ≡ region_process (region a.0 a.1 []))
        → ((p : Name) (rs : List Rule) → Among (p, rs) rules_held → t.rules_of p ≡ rs)
        → Lies h r link_of' typed_of (λ l m xs i i'. Q l m xs i i' × Agrees h r t l m xs i i') l bs ps ms ns xs rest f f'

  -- what the contexts of some membranes stand for, by their names
  pub record MembraneContents (ls : Levels) (bs : List ℕ) (ps : List (List ℕ)) (ms ns : List ℕ) (f f' : Forest) : Type 0 where
    pub held : List (Context × (List SolidAtom × Regions))
    pub rules_held : List (Name × List Rule)
    pub names : map (λ e. e.0) held ≡ contexts_in ls
    pub rule_names : map (λ e. e.0) rules_held ≡ rule_contexts_in ls
    pub closed : (p : Context) (a : List SolidAtom × Regions) → Among (p, a) held → LeftClosed p a
    pub agree : (t : Assignment) → ((p : Context) (a : List SolidAtom × Regions) → Among (p, a) held → t.context_of p ≡ region_process (region a.0 a.1 []))
        → ((p : Name) (rs : List Rule) → Among (p, rs) rules_held → t.rules_of p ≡ rs)
        → LiesIn h r link_of' typed_of (λ l m xs i i'. Q l m xs i i' × Agrees h r t l m xs i i') ls bs ps ms ns f f'

  one_context : (t : Assignment) (ps : List Context) (a : Left) → AtMostOne ps → ((p : Context) → Among (p, a) (entries ps a) → t.context_of p ≡ left_process a) → ContextIs t ps (left_process a)
  one_context t [] a few h = tt
  one_context t (p ∷ []) a few h = h p at_head
  one_context t (p ∷ (q ∷ ps)) a few h = few

  one_rules : (t : Assignment) (ps : List Name) (rs : List Rule) → AtMostOne ps → ((p : Name) → Among (p, rs) (entries ps rs) → t.rules_of p ≡ rs) → RulesAre t ps rs
  one_rules t [] rs few h = tt
  one_rules t (p ∷ []) rs few h = h p at_head
  one_rules t (p ∷ (q ∷ ps)) rs few h = few

  names_three : {K A : Type 0} (l : Level) (a : A) (xs ys : List (K × A)) (own us vs : List K) → map (λ e. e.0) xs ≡ us → map (λ e. e.0) ys ≡ vs →
      map (λ e. e.0) (entries own a ++ (xs ++ ys)) ≡ (own ++ us) ++ vs
  names_three l a xs ys own us vs e f =
      map-append (λ e. e.0) (entries own a) (xs ++ ys) ∙ (λ j. entry_names own a j ++ map-append (λ e. e.0) xs ys j)
      ∙ (λ j. own ++ (e j ++ f j)) ∙ sym (append_assoc own us vs)

  own_closed : (ps : List Context) (a : Left) → ((q : Name) → Among (closed_context q) ps → Closed (left_process a)) → (p : Context) (b : Left) → Among (p, b) (entries ps a) → LeftClosed p b
  own_closed (p ∷ ps) a h q b at_head = first p (λ q k. h q k)
    where
      first : (p : Context) → ((q : Name) → Among (closed_context q) (p ∷ ps) → Closed (left_process a)) → LeftClosed p a
      first (open_context p) h = tt
      first (closed_context p) h = h p at_head
  own_closed (p ∷ ps) a h q b (further k) = own_closed ps a (λ q k. h q (further k)) q b k
  own_closed [] a h q b k = elim k [ ]

  all_are : (l : Level) → all_contexts l ≡ own_contexts l ++ contexts_in (own_membranes l)
  all_are (level leaves membranes contexts rule_contexts rules) = refl

  all_rules_are : (l : Level) → all_rule_contexts l ≡ own_rule_contexts l ++ rule_contexts_in (own_membranes l)
  all_rules_are (level leaves membranes contexts rule_contexts rules) = refl

  few_inside : (l : Level) → EachLevel Few l → EachOf Few (own_membranes l)
  few_inside (level leaves membranes contexts rule_contexts rules) e = e.1

  few_here : (l : Level) → EachLevel Few l → Few l
  few_here (level leaves membranes contexts rule_contexts rules) e = e.0

  none_here : (l : Level) → EachLevel NoRules l → NoRules l
  none_here (level leaves membranes contexts rule_contexts rules) e = e.0

  none_inside : (l : Level) → EachLevel NoRules l → EachOf NoRules (own_membranes l)
  none_inside (level leaves membranes contexts rule_contexts rules) e = e.1

  mutual
    -- the contexts in a level stand for what is left of their membranes
    pub level_contents : {l : Level} {bs ms ns xs rest : List ℕ} {ps : List (List ℕ)} {f f' : Forest} → EachOf Few (own_membranes l) → EachOf NoRules (own_membranes l) → Lies h r link_of' typed_of Q l bs ps ms ns xs rest f f' → LevelContents l bs ps ms ns xs rest f f'
    level_contents few none' (lies fit d e out k) =
        let u = membrane_contents few none' k in
        record { held = u.held; rules_held = u.rules_held; names = u.names; rule_names = u.rule_names; closed = u.closed; agree = λ t c s. lies fit d e out (u.agree t c s) }

    membrane_contents : {ls : Levels} {bs ms ns : List ℕ} {ps : List (List ℕ)} {f f' : Forest} → EachOf Few ls → EachOf NoRules ls → LiesIn h r link_of' typed_of Q ls bs ps ms ns f f' → MembraneContents ls bs ps ms ns f f'
    membrane_contents few none' lies_none = record { held = []; rules_held = []; names = refl; rule_names = refl; closed = λ p a k. elim k [ ]; agree = λ t c s. lies_none }
    membrane_contents few none' (lies_and {l = l} {ls = ls} {m = m} {xs = xs} {i = i} {i' = i'} k d q more) =
        let u = level_contents (few_inside l few.0) (none_inside l none'.0) d in
        let w = membrane_contents few.1 none'.1 more in
        let a : Left = (map (atom_at h r) xs, regions_at h r i') in
        let rs = map r.rule (rules_in h m) in
        let es = entries (own_contexts l) a in
        let ss = entries (own_rule_contexts l) rs in
        record {
          held = es ++ (u.held ++ w.held);
          rules_held = ss ++ (u.rules_held ++ w.rules_held);
          names = names_three l a u.held w.held (own_contexts l) (contexts_in (own_membranes l)) (contexts_in ls) u.names w.names ∙ ap (λ z. z ++ contexts_in ls) (sym (all_are l));
          rule_names = names_three l rs u.rules_held w.rules_held (own_rule_contexts l) (rule_contexts_in (own_membranes l)) (rule_contexts_in ls) u.rule_names w.rule_names ∙ ap (λ z. z ++ rule_contexts_in ls) (sym (all_rules_are l));
          closed = λ p b z. either (among_apart es (u.held ++ w.held) z) (own_closed (own_contexts l) a (closes l m xs i i' q) p b) (λ z. either (among_apart u.held w.held z) (u.closed p b) (w.closed p b));
          agree = λ t c s. lies_and k
              (u.agree t (λ p b z. c p b (among_right es (among_left w.held z))) (λ p b z. s p b (among_right ss (among_left w.rules_held z)))) (
                q,
                record {
                  contexts = one_context t (own_contexts l) a (few_here l few.0).0 (λ p z. c p a (among_left (u.held ++ w.held) z));
                  rule_contexts = one_rules t (own_rule_contexts l) rs (few_here l few.0).1 (λ p z. s p rs (among_left (u.rules_held ++ w.rules_held) z));
                  no_rules = none_here l none'.0;
                },
              )
              (w.agree t (λ p b z. c p b (among_right es (among_right u.held z))) (λ p b z. s p b (among_right ss (among_right u.rules_held z))));
        }
