-- What the links of classes tell of the web.
use Rattle.std.proofs.Common.{◌≡◌, ◌==◌, ◌&&◌, ◌^◌, ◌<◌, ◌≤◌, ℕ, Bool, true, false, cond, List, [], ◌∷◌, ◌++◌, length, get_or, Option, Some, None, IsSome, refl, sym, ap, subst, ◌∙◌, arith}
use Rattle.std.proofs.lemmas.List.{length-map}
use Rattle.std.specs.Option.{option_map}
use Rattle.lmn_base.specs.Lists.{In}
use Rattle.lmn_store_heap.specs.Lists.{Distinct, from, after}
use Rattle.lmn_store_heap.proofs.ListLemmas.{in_split}
use Rattle.lmn_web_cells.specs.Cells.{HeldCell, HaveSmallClasses, numbers_of, ports_of}
use Rattle.lmn_web_cells.specs.Ports.{partner_by}
use Rattle.lmn_web_cells.specs.Runs.{link_in}
use Rattle.lmn_web.specs.declared.kind.CellKind.TheVariants.{Atom}
use Rattle.lmn_web.specs.Webs.{web_cell, web_of, list_in, cells_in, label_by, web_label, label_class, is_classed, with_class, partners_of}
use Rattle.lmn_web_cells.specs.Numbers.{ARITY, HIGH, LOW}
use Rattle.lmn_web.specs.Indexes.{IsClassedWeb}
use Rattle.lmn_web.specs.Classes.{class_node, key_in, is_key, of_class, IsRing, ClassTree, lasts, top, AreClassed, place_in}
use Rattle.lmn_web_cells.specs.Links.{CLASS_NEXT}
use Rattle.lmn_web.proofs.ListedLemmas.{list_same, cell_of}
use Rattle.lmn_web.proofs.Rings.{ring_begins, ring_ends, ring_goes_on, ring_some, ring_next_some}
use Rattle.lmn_web.proofs.Reclassing.{key_same, key_true}
use Rattle.lmn_web.proofs.ClassPlaces.{last_in}
use Rattle.lmn_web.proofs.FilterLemmas.{filter_same}
use Rattle.lmn_store_heap.proofs.Filters.{filter_in, distinct_filter}

-- the upper half of a label
class_half : (high low : ℕ) → low < 2 ^ 64 → label_class (label_by high low) ≡ high
class_half high low l = omega (arith, l)

-- the class of a cell, in the cells and in the web
pub class_test : (f : ℕ → Option HeldCell) (made : ℕ) → IsClassedWeb f made → (a class n : ℕ) → IsSome (f a) → is_classed (web_of f) class n a ≡ is_key (key_in f a) (class, n)
class_test f made w a class n t = by (f a) t (w.classed.low a) (w.web.arity a t)
  where
    by : (o : Option HeldCell) → IsSome o → get_or (numbers_of o) LOW 0 < 2 ^ 64 → get_or (numbers_of o) ARITY 0 ≡ length (ports_of o) → is_classed (λ _. option_map (web_cell (list_in f a)) o) class n a ≡ is_key (get_or (numbers_of o) HIGH 0, get_or (numbers_of o) ARITY 0) (class, n)
    by None s l e = absurd cc
    by (Some c) s l e = λ u. (class_half (get_or c.numbers HIGH 0) (get_or c.numbers LOW 0) l u == class) && ((length-map c.ports partner_by ∙ sym e) u == n)

-- the atoms of a class of a membrane, in the cells and in the web
pub class_list : (f : ℕ → Option HeldCell) (made : ℕ) → IsClassedWeb f made → (m class n : ℕ) → with_class (web_of f) class n (cells_in (web_of f) m Atom) ≡ of_class f (class, n) (list_in f m Atom)
class_list f made w m class n = ap (with_class (web_of f) class n) (list_same f (list_in f) w.web.listed m Atom)
    ∙ filter_same (is_classed (web_of f) class n) (λ a. is_key (key_in f a) (class, n)) (list_in f m Atom) (λ x i. class_test f made w x class n (cell_of f (list_in f) w.web.listed m x Atom i).0)

-- no atom has a class that is no label's
none_of_class : (f : ℕ → Option HeldCell) (p : ℕ × ℕ) → HaveSmallClasses f → 2 ^ 16 ≤ p.0 → (xs : List ℕ) → of_class f p xs ≡ []
none_of_class f p small high [] = refl
none_of_class f p small high (x ∷ xs) = by (is_key (key_in f x) p) refl (none_of_class f p small high xs)
  where
    by : (b : Bool) → is_key (key_in f x) p ≡ b → of_class f p xs ≡ [] → cond b (x ∷ of_class f p xs) (of_class f p xs) ≡ []
    by true e rest = absurd (let same = ap (λ q. q.0) (key_true (key_in f x) p e) in let low = small x in omega (arith, high, same, low))
    by false e rest = rest

-- in the web too
pub none_classed : (f : ℕ → Option HeldCell) (made : ℕ) → IsClassedWeb f made → HaveSmallClasses f → (m class n : ℕ) → 2 ^ 16 ≤ class → with_class (web_of f) class n (cells_in (web_of f) m Atom) ≡ []
none_classed f made w small m class n high = class_list f made w m class n ∙ none_of_class f (class, n) small high (list_in f m Atom)

-- where a class begins: behind its last one
pub class_begins : (f : ℕ → Option HeldCell) (m : ℕ) (xs : List ℕ) (t : ClassTree) → AreClassed f m xs t → (In m xs → ⊥) → (p : ℕ × ℕ) (l : ℕ) → top (place_in f p m t).tree ≡ Some l → from (link_in f l CLASS_NEXT) (of_class f p xs) ≡ of_class f p xs
class_begins f m xs t c no_m p l e =
    let i = last_in f m xs t c no_m p l e in let r = c.rings l i.0 in
    subst (λ q. from (link_in f l CLASS_NEXT) (of_class f q xs) ≡ of_class f q xs) (key_true (key_in f l) p i.1) (ring_begins (class_node f) l (of_class f (key_in f l) xs) r.1 r.2 r.0)

-- there is one behind its last one
pub class_first : (f : ℕ → Option HeldCell) (m : ℕ) (xs : List ℕ) (t : ClassTree) → AreClassed f m xs t → (In m xs → ⊥) → (p : ℕ × ℕ) (l : ℕ) → top (place_in f p m t).tree ≡ Some l → link_in f l CLASS_NEXT ≡ None → ⊥
class_first f m xs t c no_m p l e n =
    let r = c.rings l (last_in f m xs t c no_m p l e).0 in let d = ring_some (class_node f) l (of_class f (key_in f l) xs) r.1 r.2 r.0 in
    let z : ◌≡◌ {A = Option ℕ} None (Some d.0) = sym n ∙ d.1 in cc

-- and behind each other one
pub class_next : (f : ℕ → Option HeldCell) (m : ℕ) (xs : List ℕ) (t : ClassTree) → AreClassed f m xs t → (x : ℕ) → In x xs → link_in f x CLASS_NEXT ≡ None → ⊥
class_next f m xs t c x i n =
    let q = key_in f x in let l = c.every x i in
    let s = in_split x (of_class f q xs) (filter_in (λ a. is_key (key_in f a) q) x xs i (key_same q)) in
    let r : IsRing f l.0 (s.0 ++ (x ∷ s.1)) = subst (λ us. IsRing f l.0 us) s.2 (subst (λ p. IsRing f l.0 (of_class f p xs)) l.2 (c.rings l.0 l.1)) in
    let d = ring_next_some (class_node f) l.0 s.0 x s.1 r.1 r.0 r.2 in
    let z : ◌≡◌ {A = Option ℕ} None (Some d.0) = sym n ∙ d.1 in cc

-- and goes on: behind its last one there is none
pub class_goes_on : (f : ℕ → Option HeldCell) (m : ℕ) (xs : List ℕ) (t : ClassTree) → AreClassed f m xs t → Distinct xs → (x : ℕ) → In x xs → (In x (lasts t) → after x (of_class f (key_in f x) xs) ≡ []) × ((In x (lasts t) → ⊥) → from (link_in f x CLASS_NEXT) (of_class f (key_in f x) xs) ≡ after x (of_class f (key_in f x) xs))
class_goes_on f m xs t c once x i =
    let q = key_in f x in let once_q = distinct_filter (λ a. is_key (key_in f a) q) xs once in (
      λ j. let r = c.rings x j in ring_ends x (of_class f q xs) r.1 r.2 once_q,
      λ n. let l = c.every x i in let r = c.rings l.0 l.1 in
          let ring : IsRing f l.0 (of_class f q xs) = subst (λ p. IsRing f l.0 (of_class f p xs)) l.2 r in
          ring_goes_on (class_node f) l.0 x (of_class f q xs) ring.1 ring.2 ring.0 once_q (filter_in (λ a. is_key (key_in f a) q) x xs i (key_same q)) (λ e. n (subst (λ u. In u (lasts t)) (sym e) l.1)),
    )

-- the label of a cell tells its class
pub key_by_label : (f : ℕ → Option HeldCell) (made : ℕ) → IsClassedWeb f made → (a label : ℕ) → web_label (web_of f) a ≡ Some label → key_in f a ≡ (label_class label, length (partners_of (web_of f a)))
key_by_label f made w a label e = by (f a) e (w.classed.low a) (w.web.arity a)
  where
    by : (o : Option HeldCell) → option_map (λ c. c.label) (option_map (web_cell (list_in f a)) o) ≡ Some label → get_or (numbers_of o) LOW 0 < 2 ^ 64 → (IsSome o → get_or (numbers_of o) ARITY 0 ≡ length (ports_of o))
        → ◌≡◌ {A = ℕ × ℕ} (get_or (numbers_of o) HIGH 0, get_or (numbers_of o) ARITY 0) (label_class label, length (partners_of (option_map (web_cell (list_in f a)) o)))
    by None s l n = absurd cc
    by (Some c) s l n =
        let called : label_by (get_or c.numbers HIGH 0) (get_or c.numbers LOW 0) ≡ label = cc in
        λ t. ((sym (class_half (get_or c.numbers HIGH 0) (get_or c.numbers LOW 0) l) ∙ ap label_class called) t, (n refl ∙ sym (length-map c.ports partner_by)) t)
