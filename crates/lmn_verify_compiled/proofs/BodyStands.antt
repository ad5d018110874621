-- How often ports stand in the code of a body: each as often as among the ports that are tied.
use Rattle.std.proofs.Common.{◌≡◌, ◌≢◌, ◌≤◌, ◌<◌, ◌+◌, ◌⊎◌, ◌==◌, ℕ, zero, suc, Bool, true, false, if◌then◌else◌, List, [], ◌∷◌, ◌++◌, length, map, inl, inr, refl, sym, ap, ◌∙◌, subst, arith}
use Rattle.std.specs.List.{AllByRecursion}
use Rattle.std.proofs.lemmas.Bool.{cases_eq, eq-eqb, cases_lt}
use Rattle.lmn_base.proofs.Lists.{map_append}
use Rattle.lmn_base.proofs.Numbers.{not_equal, same_or_not}
use Rattle.lmn_congruence.specs.Links.{one_if_same, places as often}
use Rattle.lmn_congruence.proofs.Counts.{none_if_apart}
use Rattle.lmn_congruence.proofs.TranslatedLinks.{places_append as often_append}
use Rattle.lmn_solid_heads.specs.declared.items.HeadItem.{HeadItem}
use Rattle.lmn_solid_heads.specs.Heads.{HeadMembrane, HeadTyped, Occurrence, atoms_of, typed_contexts_of, membranes_of, at_atoms, links_of_head, times}
use Rattle.lmn_solid_heads.proofs.Common.{times_append, times_places}
use Rattle.lmn_congruence_splice.specs.Classes.{class_of, ends_of_class, rising}
use Rattle.lmn_congruence_splice.specs.Splice.{IsOneOf, TwiceOrNever, both_links}
use Rattle.lmn_congruence_splice.proofs.ClassLemmas.{classes_twice, class_least, ends_length}
use Rattle.lmn_congruence_splice.proofs.Common.{in_front, in_back}
use Rattle.lmn_instr_code.specs.declared.instr.AtomPort.{AtomPort}
use Rattle.lmn_instr_code.specs.declared.instr.NewPort.{NewPort}
use Rattle.lmn_instr_code.specs.declared.instr.NewPort.TheVariants as new
use Rattle.lmn_instr_code.specs.declared.instr.Instr.{Instr}
use Rattle.lmn_instr_code.specs.declared.instr.Instr.TheVariants.{RemoveAtom, RemovePart, RemoveMem, DropCells, Proceed}
use Rattle.lmn_solid_bodies.specs.declared.items.BodyItem.{BodyItem}
use Rattle.lmn_solid_bodies.specs.declared.items.BodyItem.TheVariants.{Atom, Connector, Copy, Bound, Membrane, Rest, Rule, Rules}
use Rattle.lmn_solid_bodies.specs.Code.{removals, making, drops, link_code, links_code, body_code}
use Rattle.lmn_solid_bodies.specs.Items.{new_ports, new_ports_from, old_ports, once_in, connectors, body_links, port_at}
use Rattle.lmn_solid_bodies.specs.Rules.{AtomRule}
use Rattle.lmn_solid_bodies.proofs.HeadPorts.{once_in_of, in_map}
use Rattle.lmn_compile_head.proofs.Places.{occurs_once, stands_at}
use Rattle.lmn_verify_code.specs.Verified.{places}
use Rattle.lmn_verify_compiled.proofs.Counting.{counted, stands, stands_append, stands_none, none_both}
use Rattle.lmn_verify_compiled.proofs.HeadCounts.{links_at}
use Rattle.lmn_verify_compiled.proofs.Resting.{all_from_each}
use Rattle.lmn_solid_bodies.proofs.Firing.{typed_some as typed_found}

-- ---- ends of classes

-- how often a number stands in a list
abbrev pub hits : ℕ → List ℕ → ℕ
hits y [] = 0
hits y (z ∷ zs) = (if y == z then 1 else 0) + hits y zs

hits_none : (y a n : ℕ) → y < a → hits y (rising a n) ≡ 0
hits_none y a zero l = refl
hits_none y a (suc n) l =
    let rest = hits_none y (suc a) n (omega (arith, l)) in
    let here : ◌≡◌ {A = ℕ} (if y == a then 1 else 0) 0 = ap (λ b. if b then 1 else 0) (not_equal y a (λ e. absurd (omega (arith, l, e)))) in
    omega (arith, rest, here)

-- a number stands once among those from one on
pub hits_once : (y a n : ℕ) → a ≤ y → y < a + n → hits y (rising a n) ≡ 1
hits_once y a zero l h = absurd (omega (arith, l, h))
hits_once y a (suc n) l h = by (same_or_not y a) (hits_once y (suc a) n)
  where
    by : (y ≡ a) ⊎ (y ≢ a) → (suc a ≤ y → y < suc a + n → hits y (rising (suc a) n) ≡ 1) → hits y (rising a (suc n)) ≡ 1
    by (inl e) later =
        let here : ◌≡◌ {A = ℕ} (if y == a then 1 else 0) 1 = ap (λ b. if b then 1 else 0) (eq-eqb y a e) in
        let rest = hits_none y (suc a) n (omega (arith, e)) in
        omega (arith, here, rest)
    by (inr d) later =
        let here : ◌≡◌ {A = ℕ} (if y == a then 1 else 0) 0 = ap (λ b. if b then 1 else 0) (not_equal y a d) in
        let rest = later (next d) (omega (arith, h)) in
        omega (arith, here, rest)
      where
        next : y ≢ a → suc a ≤ y
        next d = grind (arith, l)

-- of the ends of some classes, how many pass
abbrev pub ends_sum : {P : Type 0} → (P → Bool) → (ℕ → ℕ) → List ℕ → List (P × ℕ) → ℕ
ends_sum u m [] es = 0
ends_sum u m (z ∷ zs) es = counted u (ends_of_class m z es) + ends_sum u m zs es

one_step : (b c : Bool) (e h r s : ℕ) → s ≡ (if c then h else 0) + r → (if b then (if c then 1 else 0) + e else e) + s ≡ (if c then (if b then 1 else 0) + h else 0) + (e + r)
one_step true true e h r s q = omega (arith, q)
one_step true false e h r s q = omega (arith, q)
one_step false true e h r s q = omega (arith, q)
one_step false false e h r s q = omega (arith, q)

counted_if : {P : Type 0} (u : P → Bool) (b : Bool) (p : P) (ps : List P) → counted u (if b then p ∷ ps else ps) ≡ (if b then (if u p then 1 else 0) + counted u ps else counted u ps)
counted_if u true p ps = refl
counted_if u false p ps = refl

ends_cons : {P : Type 0} (u : P → Bool) (m : ℕ → ℕ) (zs : List ℕ) (e : P × ℕ) (es : List (P × ℕ)) → ends_sum u m zs (e ∷ es) ≡ (if u e.0 then hits (m e.1) zs else 0) + ends_sum u m zs es
ends_cons u m [] e es = nothing (u e.0)
  where
    nothing : (c : Bool) → 0 ≡ (if c then 0 else 0) + 0
    nothing true = refl
    nothing false = refl
ends_cons u m (z ∷ zs) e es =
    ap (λ k. k + ends_sum u m zs (e ∷ es)) (counted_if u (m e.1 == z) e.0 (ends_of_class m z es))
    ∙ one_step (m e.1 == z) (u e.0) (counted u (ends_of_class m z es)) (hits (m e.1) zs) (ends_sum u m zs es) (ends_sum u m zs (e ∷ es)) (ends_cons u m zs e es)

ends_none : {P : Type 0} (u : P → Bool) (m : ℕ → ℕ) (zs : List ℕ) → ends_sum u m zs [] ≡ 0
ends_none u m [] = refl
ends_none u m (z ∷ zs) = let e = ends_none u m zs in omega (arith, e)

-- where each end is of one of the classes, all that pass
ends_are : {P : Type 0} (u : P → Bool) (m : ℕ → ℕ) (zs : List ℕ) (es : List (P × ℕ)) → AllByRecursion (λ (e : P × ℕ). hits (m e.1) zs ≡ 1) es → ends_sum u m zs es ≡ counted u (map (λ (e : P × ℕ). e.0) es)
ends_are u m zs [] h = ends_none u m zs
ends_are u m zs (e ∷ es) h =
    let first = ends_cons u m zs e es in
    let rest = ends_are u m zs es h.1 in
    let one : (if u e.0 then hits (m e.1) zs else 0) ≡ (if u e.0 then 1 else 0) = (λ i. if u e.0 then h.0 i else 0) in
    omega (arith, first, rest, one)

-- ---- code

module _ (t : NewPort → Bool) where
  abbrev old : AtomPort → Bool
  old h = t (new.Atom h)

  abbrev TwoOrNone : ℕ → Type 0
  TwoOrNone n = (n ≡ 0) ⊎ (n ≡ 2)

  off : (n : ℕ) {X : Type 0} → TwoOrNone n → (n ≡ 0 → ⊥) → (n ≡ 2 → ⊥) → X
  off n (inl e) h g = absurd (h e)
  off n (inr e) h g = absurd (g e)

  tie : (ps : List NewPort) (hs : List AtomPort) → TwoOrNone (length ps + length hs) → stands t (link_code ps hs) ≡ counted t ps + counted old hs
  tie [] [] w = refl
  tie [] (x ∷ []) w = off 1 w (λ e. absurd (omega (arith, e))) (λ e. absurd (omega (arith, e)))
  tie [] (x ∷ y ∷ []) w = one ((if old x then 1 else 0) + ((if old y then 1 else 0) + 0))
    where
      one : (a : ℕ) → a ≡ 0 + a
      one a = omega arith
  tie [] (x ∷ y ∷ z ∷ hs) w = off (3 + length hs) (subst TwoOrNone (omega arith) w) (λ e. absurd (omega (arith, e))) (λ e. absurd (omega (arith, e)))
  tie (x ∷ []) [] w = off 1 w (λ e. absurd (omega (arith, e))) (λ e. absurd (omega (arith, e)))
  tie (x ∷ []) (y ∷ []) w = one (if t x then 1 else 0) (if old y then 1 else 0)
    where
      one : (a b : ℕ) → a + (b + 0) ≡ (a + 0) + (b + 0)
      one a b = omega arith
  tie (x ∷ []) (y ∷ z ∷ hs) w = off (3 + length hs) (subst TwoOrNone (omega arith) w) (λ e. absurd (omega (arith, e))) (λ e. absurd (omega (arith, e)))
  tie (x ∷ y ∷ []) [] w = one (if t x then 1 else 0) (if t y then 1 else 0)
    where
      one : (a b : ℕ) → a + (b + 0) ≡ (a + (b + 0)) + 0
      one a b = omega arith
  tie (x ∷ y ∷ []) (z ∷ hs) w = off (3 + length hs) (subst TwoOrNone (omega arith) w) (λ e. absurd (omega (arith, e))) (λ e. absurd (omega (arith, e)))
  tie (x ∷ y ∷ z ∷ ps) hs w = off (3 + (length ps + length hs)) (subst TwoOrNone (omega arith) w) (λ e. absurd (omega (arith, e))) (λ e. absurd (omega (arith, e)))

  ties : (m : ℕ → ℕ) (news : List (NewPort × ℕ)) (olds : List (AtomPort × ℕ)) (zs : List ℕ) → ((z : ℕ) → TwoOrNone (length (ends_of_class m z news) + length (ends_of_class m z olds)))
      → stands t (links_code m news olds zs) ≡ ends_sum t m zs news + ends_sum old m zs olds
  ties m news olds [] w = refl
  ties m news olds (z ∷ zs) w =
      let e1 = stands_append t (link_code (ends_of_class m z news) (ends_of_class m z olds)) (links_code m news olds zs) in
      let e2 = tie (ends_of_class m z news) (ends_of_class m z olds) (w z) in
      let e3 = ties m news olds zs w in
      omega (arith, e1, e2, e3)

  each_none : (f : ℕ → Instr) → ((k : ℕ) → places (f k) ≡ []) → (ks : List ℕ) → stands t (map f ks) ≡ 0
  each_none f h [] = refl
  each_none f h (k ∷ ks) = none_both t (f k ∷ []) (map f ks) (stands_none t (f k) (h k)) (each_none f h ks)

  making_none : (a m c : ℕ) (body : List BodyItem) → stands t (making a m c body) ≡ 0
  making_none a m c [] = refl
  making_none a m c (Atom functor links inside ∷ xs) = making_none (a + 1) m c xs
  making_none a m c (Connector left right ∷ xs) = making_none a m c xs
  making_none a m c (Copy part link inside ∷ xs) = making_none a m (c + 1) xs
  making_none a m c (Bound integer link inside ∷ xs) = making_none (a + 1) m c xs
  making_none a m c (Membrane inside ∷ xs) = making_none a (m + 1) c xs
  making_none a m c (Rest of true inside ∷ xs) = making_none a m c xs
  making_none a m c (Rest of false inside ∷ xs) = making_none a m c xs
  making_none a m c (Rule rule inside ∷ xs) = making_none a m c xs
  making_none a m c (Rules of inside ∷ xs) = making_none a m c xs

  drops_none : (k : ℕ) (bs : List HeadMembrane) → stands t (drops k bs) ≡ 0
  drops_none k [] = refl
  drops_none k (b ∷ bs) = none_both t (if b.has_closed_context then DropCells k ∷ [] else []) (drops (k + 1) bs) (by b.has_closed_context) (drops_none (k + 1) bs)
    where
      by : (s : Bool) → stands t (if s then DropCells k ∷ [] else []) ≡ 0
      by true = refl
      by false = refl

-- ---- the links of a rule

one_atom_links : (a i x : ℕ) (xs : List ℕ) → often x (map (λ (e : NewPort × ℕ). e.1) (new_ports_from a i xs)) ≡ often x xs
one_atom_links a i x [] = refl
one_atom_links a i x (y ∷ xs) = ap (λ n. one_if_same x y + n) (one_atom_links a (i + 1) x xs)

-- a link of a body has as many places in its connectors and new ports as in its items
body_count : (a c x : ℕ) (body : List BodyItem) → often x (both_links (connectors body)) + often x (map (λ (e : NewPort × ℕ). e.1) (new_ports a c body)) ≡ often x (body_links body)
body_count a c x [] = refl
body_count a c x (Atom functor ls inside ∷ xs) =
    let e = ap (often x) (map_append (λ (e : NewPort × ℕ). e.1) (new_ports_from a 0 ls) (new_ports (a + 1) c xs))
    ∙ often_append x (map (λ (e : NewPort × ℕ). e.1) (new_ports_from a 0 ls)) (map (λ (e : NewPort × ℕ). e.1) (new_ports (a + 1) c xs)) in
    let g = often_append x ls (body_links xs) in
    let one = one_atom_links a 0 x ls in
    let rest = body_count (a + 1) c x xs in
    omega (arith, e, g, one, rest)
body_count a c x (Bound integer link inside ∷ xs) = let rest = body_count (a + 1) c x xs in omega (arith, rest)
body_count a c x (Connector left right ∷ xs) = let rest = body_count a c x xs in omega (arith, rest)
body_count a c x (Copy part link inside ∷ xs) = let rest = body_count a (c + 1) x xs in omega (arith, rest)
body_count a c x (Membrane inside ∷ xs) = body_count a c x xs
body_count a c x (Rest of closed inside ∷ xs) = body_count a c x xs
body_count a c x (Rule rule inside ∷ xs) = body_count a c x xs
body_count a c x (Rules of inside ∷ xs) = body_count a c x xs

-- a link stands at old ports where it occurs once
once_count : (x : ℕ) (xs : List ℕ) (os : List Occurrence) → often x (map (λ (e : AtomPort × ℕ). e.1) (once_in xs os)) ≡ (if times x xs == 1 then often x (links_at os) else 0)
once_count x xs [] = by (times x xs == 1)
  where
    by : (t : Bool) → ◌≡◌ {A = ℕ} 0 (if t then 0 else 0)
    by true = refl
    by false = refl
once_count x xs (o ∷ os) = elim (cases_eq x o.link) [
  | inl e ↦ subst (λ z. often x (map (λ (e : AtomPort × ℕ). e.1) (if times z xs == 1 then (port_at o.port.0 o.port.1, o.link) ∷ once_in xs os else once_in xs os))
      ≡ (if times x xs == 1 then one_if_same x o.link + often x (links_at os) else 0)) e (same (times x xs == 1) (once_count x xs os))
  | inr d ↦ other (times o.link xs == 1) (times x xs == 1) (none_if_apart x o.link d) (once_count x xs os)
]
  where
    same : (t : Bool) → often x (map (λ (e : AtomPort × ℕ). e.1) (once_in xs os)) ≡ (if t then often x (links_at os) else 0)
        → often x (map (λ (e : AtomPort × ℕ). e.1) (if t then (port_at o.port.0 o.port.1, o.link) ∷ once_in xs os else once_in xs os)) ≡ (if t then one_if_same x o.link + often x (links_at os) else 0)
    same true h = ap (λ n. one_if_same x o.link + n) h
    same false h = h

    other : (t u : Bool) → one_if_same x o.link ≡ 0 → often x (map (λ (e : AtomPort × ℕ). e.1) (once_in xs os)) ≡ (if u then often x (links_at os) else 0)
        → often x (map (λ (e : AtomPort × ℕ). e.1) (if t then (port_at o.port.0 o.port.1, o.link) ∷ once_in xs os else once_in xs os)) ≡ (if u then one_if_same x o.link + often x (links_at os) else 0)
    other true true z h = ap (λ n. one_if_same x o.link + n) h
    other true false z h = omega (arith, z, h)
    other false true z h = omega (arith, z, h)
    other false false z h = h

module _ (head : List HeadItem) (body : List BodyItem) (n : ℕ) (rule : AtomRule head body n) where
  abbrev pub news : List (NewPort × ℕ)
  news = new_ports (length (atoms_of head)) 0 body

  abbrev olds : List (AtomPort × ℕ)
  olds = old_ports head

  abbrev os : List Occurrence
  os = at_atoms 0 (atoms_of head)

  once_at : (x : ℕ) → times x (links_of_head head) ≡ 1 → often x (links_at os) ≡ 1
  once_at x e = sym (times_places x (links_at os)) ∙ by (cases_lt (times x (map (λ (t : HeadTyped). t.link) (typed_contexts_of head))) 1)
    where
      all : times x (links_of_head head) ≡ times x (links_at os) + times x (map (λ (t : HeadTyped). t.link) (typed_contexts_of head))
      all = times_append x (links_at os) (map (λ (t : HeadTyped). t.link) (typed_contexts_of head))

      by : (times x (map (λ (t : HeadTyped). t.link) (typed_contexts_of head)) < 1) ⊎ (1 ≤ times x (map (λ (t : HeadTyped). t.link) (typed_contexts_of head))) → times x (links_at os) ≡ 1
      by (inl l) = omega (arith, l, all, e)
      by (inr l) =
          let w = typed_found x (typed_contexts_of head) l in
          let p = rule.held w.0 w.1 w.2 in
          let some : 1 ≤ times x (links_at os) = subst (λ y. 1 ≤ times y (links_at os)) w.3 (occurs_once w.1.link os p.0 (stands_at head w.1.link p.0 p.1)) in
          absurd (omega (arith, l, all, e, some))

  total : (h b n' o w : ℕ) → (h + b ≡ 0) ⊎ (h + b ≡ 2) → (h ≡ 1) ⊎ (h ≢ 1) → (h ≡ 1 → o ≡ 1) → (h ≢ 1 → o ≡ 0) → n' ≡ b → w ≡ n' + o → (w ≡ 0) ⊎ (w ≡ 2)
  total h b n' o w (inl e) (inl s) f g k q = absurd (omega (arith, e, s))
  total h b n' o w (inl e) (inr d) f g k q = let z = g d in inl (omega (arith, e, z, k, q))
  total h b n' o w (inr e) (inl s) f g k q = let z = f s in inr (omega (arith, e, s, z, k, q))
  total h b n' o w (inr e) (inr d) f g k q = let z = g d in by (same_or_not h 0) z
    where
      by : (h ≡ 0) ⊎ (h ≢ 0) → o ≡ 0 → (w ≡ 0) ⊎ (w ≡ 2)
      by (inl s) z = inr (omega (arith, e, s, z, k, q))
      by (inr s) z = inl (omega (arith, e, two h b e s d, z, k, q))
        where
          two : (h b : ℕ) → h + b ≡ 2 → h ≢ 0 → h ≢ 1 → b ≡ 0
          two h b e s d = grind (arith, e)

  linked : TwiceOrNever (both_links (connectors body) ++ (map (λ (e : NewPort × ℕ). e.1) news ++ map (λ (e : AtomPort × ℕ). e.1) olds))
  linked z =
      let h = times z (links_of_head head) in
      let b = often z (body_links body) in
      let both = rule.linked z in
      let same = times_places z (body_links body) in
      let parts = often_append z (both_links (connectors body)) (map (λ (e : NewPort × ℕ). e.1) news ++ map (λ (e : AtomPort × ℕ). e.1) olds) in
      let ends = often_append z (map (λ (e : NewPort × ℕ). e.1) news) (map (λ (e : AtomPort × ℕ). e.1) olds) in
      let made = body_count (length (atoms_of head)) 0 z body in
      let once = once_count z (links_of_head head) os in
      total h b (often z (both_links (connectors body)) + often z (map (λ (e : NewPort × ℕ). e.1) news)) (often z (map (λ (e : AtomPort × ℕ). e.1) olds)) _
      (subst (λ k. (h + k ≡ 0) ⊎ (h + k ≡ 2)) same both) (same_or_not h 1)
      (λ s. once ∙ ap (λ t. if t then often z (links_at os) else 0) (eq-eqb h 1 s) ∙ once_at z s)
      (λ d. once ∙ ap (λ t. if t then often z (links_at os) else 0) (not_equal h 1 d))
      made (omega (arith, parts, ends))

  map_itself : (xs : List ℕ) → map (λ x. x) xs ≡ xs
  map_itself [] = refl
  map_itself (x ∷ xs) = ap (λ t. x ∷ t) (map_itself xs)

  -- each class has two ends or none
  two_ends : (z : ℕ) → (length (ends_of_class (class_of (connectors body)) z news) + length (ends_of_class (class_of (connectors body)) z olds) ≡ 0)
      ⊎ (length (ends_of_class (class_of (connectors body)) z news) + length (ends_of_class (class_of (connectors body)) z olds) ≡ 2)
  two_ends z =
      let m = class_of (connectors body) in
      let ls = map (λ (e : NewPort × ℕ). e.1) news in
      let ks = map (λ (e : AtomPort × ℕ). e.1) olds in
      let e1 = ends_length m z news in
      let e2 = ends_length m z olds in
      let e3 = ap (often z) (map_append m ls ks) ∙ often_append z (map m ls) (map m ks) in
      let twice = classes_twice (λ x. x) (connectors body) (ls ++ ks) (subst TwiceOrNever (sym (map_itself (both_links (connectors body) ++ (ls ++ ks)))) linked) z in
      subst (λ k. (k ≡ 0) ⊎ (k ≡ 2)) (omega (arith, e1, e2, e3)) twice

  class_once : (x : ℕ) → x < n → hits (class_of (connectors body) x) (rising 0 n) ≡ 1
  class_once x l = let least = class_least (λ z. z) (connectors body) x in hits_once (class_of (connectors body) x) 0 n (omega arith) (omega (arith, l, least))

  from_below : (a i : ℕ) (links : List ℕ) (es : List (NewPort × ℕ)) → ((x : ℕ) → IsOneOf x links → x < n) → AllByRecursion (λ (e : NewPort × ℕ). e.1 < n) es → AllByRecursion (λ (e : NewPort × ℕ). e.1 < n) (new_ports_from a i links ++ es)
  from_below a i [] es h g = g
  from_below a i (x ∷ xs) es h g = (h x (inl refl), from_below a (i + 1) xs es (λ y j. h y (inr j)) g)

  news_below : (a c : ℕ) (xs : List BodyItem) → ((x : ℕ) → IsOneOf x (body_links xs) → x < n) → AllByRecursion (λ (e : NewPort × ℕ). e.1 < n) (new_ports a c xs)
  news_below a c [] h = tt
  news_below a c (Atom functor links inside ∷ xs) h = from_below a 0 links (new_ports (a + 1) c xs) (λ x i. h x (in_front x links (body_links xs) i)) (news_below (a + 1) c xs (λ x i. h x (in_back x links (body_links xs) i)))
  news_below a c (Connector left right ∷ xs) h = news_below a c xs (λ x i. h x (inr (inr i)))
  news_below a c (Copy part link inside ∷ xs) h = (h link (inl refl), news_below a (c + 1) xs (λ x i. h x (inr i)))
  news_below a c (Bound integer link inside ∷ xs) h = (h link (inl refl), news_below (a + 1) c xs (λ x i. h x (inr i)))
  news_below a c (Membrane inside ∷ xs) h = news_below a c xs h
  news_below a c (Rest of closed inside ∷ xs) h = news_below a c xs h
  news_below a c (Rule rule inside ∷ xs) h = news_below a c xs h
  news_below a c (Rules of inside ∷ xs) h = news_below a c xs h

  all_once : {P : Type 0} (es : List (P × ℕ)) → AllByRecursion (λ (e : P × ℕ). e.1 < n) es → AllByRecursion (λ (e : P × ℕ). hits (class_of (connectors body) e.1) (rising 0 n) ≡ 1) es
  all_once [] h = tt
  all_once (e ∷ es) h = (class_once e.1 h.0, all_once es h.1)

  olds_below : AllByRecursion (λ (e : AtomPort × ℕ). e.1 < n) olds
  olds_below = all_from_each (λ (e : AtomPort × ℕ). e.1 < n) olds (λ e i.
      let w = once_in_of (links_of_head head) os e i in
      let link = in_front w.0.link (links_at os) (map (λ (t : HeadTyped). t.link) (typed_contexts_of head)) (in_map (λ (o : Occurrence). o.link) w.0 os w.1) in
      subst (λ (q : AtomPort × ℕ). q.1 < n) w.3 (rule.below w.0.link (inl link)))

  -- A port stands in the code of a body as often as among the ports that it makes and those that the head leaves.
  pub body_stands : (t : NewPort → Bool) → stands t (body_code head body n) ≡ counted t (map (λ (e : NewPort × ℕ). e.0) news) + counted (λ (h : AtomPort). t (new.Atom h)) (map (λ (e : AtomPort × ℕ). e.0) olds)
  body_stands t =
      let m = class_of (connectors body) in
      let a = length (atoms_of head) in
      let made = making a (1 + length (membranes_of head)) 0 body in
      let ds = drops 1 (membranes_of head) in
      let ls = links_code m news olds (rising 0 n) in
      let as' = map RemoveAtom (rising 0 (length (atoms_of head))) in
      let gs = map RemovePart (rising 0 (length (typed_contexts_of head))) in
      let ms = map RemoveMem (rising 1 (length (membranes_of head))) in
      let none = none_both t as' (gs ++ ms) (each_none t RemoveAtom (λ k. refl) (rising 0 (length (atoms_of head))))
      (none_both t gs ms (each_none t RemovePart (λ k. refl) (rising 0 (length (typed_contexts_of head)))) (each_none t RemoveMem (λ k. refl) (rising 1 (length (membranes_of head))))) in
      let s1 = stands_append t (removals head) (made ++ (ds ++ (ls ++ (Proceed ∷ [])))) in
      let s2 = stands_append t made (ds ++ (ls ++ (Proceed ∷ []))) in
      let s3 = stands_append t ds (ls ++ (Proceed ∷ [])) in
      let s4 = stands_append t ls (Proceed ∷ []) in
      let e2 = making_none t a (1 + length (membranes_of head)) 0 body in
      let e3 = drops_none t 1 (membranes_of head) in
      let e4 = ties t m news olds (rising 0 n) two_ends in
      let e5 = ends_are t m (rising 0 n) news (all_once news (news_below a 0 body (λ x i. rule.below x (inr i)))) in
      let e6 = ends_are (λ (h : AtomPort). t (new.Atom h)) m (rising 0 n) olds (all_once olds olds_below) in
      omega (arith, none, s1, s2, s3, s4, e2, e3, e4, e5, e6)
