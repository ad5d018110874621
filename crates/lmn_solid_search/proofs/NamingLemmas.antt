-- What the names of typed contexts stand for.
use Rattle.std.proofs.Common.{◌≡◌, ◌≢◌, ◌∙◌, ◌⊎◌, ◌==◌, ℕ, ℤ, suc, List, [], ◌∷◌, ◌++◌, option_and_then, Option, Some, None, Result, Ok, Err, OnOk, is_some, Bool, true, false, if◌then◌else◌, refl, sym, ap, subst, inl, inr, rules}
use Rattle.std.specs.Option.{option_map}
use Rattle.std.proofs.lemmas.Bool.{cases_eq}
use Rattle.std.proofs.lemmas.Option.{same_Some}
use Rattle.lmn_base.specs.Graphs.{Port}
use Rattle.lmn_base.proofs.Numbers.{equal_itself, unequal}
use Rattle.lmn_guards.specs.Values.{value_beside}
use Rattle.lmn_store_heap.specs.Heap.{Heap, IsAtom}
use Rattle.lmn_solid_heads.specs.Guards.{integer_at}
use Rattle.lmn_solid_tables.specs.Flats.{port_by}
use Rattle.lmn_solid_search.specs.Knowing.{AreParts, KnowsIntegers, or_else, part_named}
use Rattle.lmn_solid_search.specs.Parting.{AreEntered, first_named}
use Rattle.lmn_solid_search.specs.declared.head.TypedItem.{TypedItem}
use Rattle.lmn_solid_search.specs.declared.known.Known.{Known}
use Rattle.lmn_solid_search.specs.declared.known.Named.{Named}
use Rattle.lmn_solid_search.specs.declared.parts.Part.{Part}

-- a part behind others
named_behind : (ps : List Named) (n : Named) (x : ℕ) → part_named (ps ++ n ∷ []) x ≡ or_else (part_named ps x) (if n.name == x then Some (port_by n.entry) else None)
named_behind [] n x = refl
named_behind (p ∷ ps) n x = by (part_named (ps ++ n ∷ []) x) (part_named ps x) (if n.name == x then Some (port_by n.entry) else None) (p.name == x) (named_behind ps n x)
  where
    by : (r' r q : Option Port) (b : Bool) → r' ≡ or_else r q → (if b then Some (port_by p.entry) else r') ≡ or_else (if b then Some (port_by p.entry) else r) q
    by r' r q true e = refl
    by r' r q false e = e

pub named_more : (ps ps' : List Named) (n : Named) → ps' ≡ ps ++ n ∷ [] → (x : ℕ) → part_named ps' x ≡ or_else (part_named ps x) (if n.name == x then Some (port_by n.entry) else None)
named_more ps ps' n e x = ap (λ qs. part_named qs x) e ∙ named_behind ps n x

-- values behind another one
pub beside_here : (x : ℕ) (z : ℤ) (ns : List ℕ) (vs : List ℤ) → value_beside (x ∷ ns) (z ∷ vs) x ≡ Some z
beside_here x z ns vs = search rules

pub beside_away : (x y : ℕ) (z : ℤ) (ns : List ℕ) (vs : List ℤ) → x ≢ y → value_beside (y ∷ ns) (z ∷ vs) x ≡ value_beside ns vs x
beside_away x y z ns vs d = search rules

-- a name that has no part
pub unnamed : (o : Option Rattle.lmn_solid_tables.specs.declared.tables.Port.Port) (q : Option Port) (b : Bool) → option_map port_by o ≡ q → b ≡ is_some o → b ≡ false → q ≡ None
unnamed None q b e f g = sym e
unnamed (Some p) q b e f g = absurd (cc)

or_none : (o : Option Port) → or_else o None ≡ o
or_none None = refl
or_none (Some p) = refl

module _ (h : Heap) (k k' : Known) (n : Named) (parts : k'.parts ≡ k.parts ++ n ∷ []) (free : part_named k.parts n.name ≡ None) (w : KnowsIntegers h k) where
  at_name : part_named k'.parts n.name ≡ Some (port_by n.entry)
  at_name = named_more k.parts k'.parts n parts n.name ∙ ap (λ (o : Option Port). or_else o (if n.name == n.name then Some (port_by n.entry) else None)) free
      ∙ ap (λ (b : Bool). if b then Some (port_by n.entry) else None) (equal_itself n.name)

  elsewhere : (x : ℕ) → x ≢ n.name → part_named k'.parts x ≡ part_named k.parts x
  elsewhere x d = named_more k.parts k'.parts n parts x ∙ ap (λ (b : Bool). or_else (part_named k.parts x) (if b then Some (port_by n.entry) else None)) (unequal n.name x (λ e. d (sym e))) ∙ or_none (part_named k.parts x)

  pub integer_more : (z : ℤ) → k'.names.items ≡ n.name ∷ k.names.items → k'.values.items ≡ z ∷ k.values.items → Some z ≡ integer_at h (port_by n.entry) → KnowsIntegers h k'
  integer_more z ns vs e x = (λ i. value_beside (ns i) (vs i) x) ∙ by (cases_eq x n.name)
    where
      by : ((x ≡ n.name) ⊎ (x ≢ n.name)) → value_beside (n.name ∷ k.names.items) (z ∷ k.values.items) x ≡ option_and_then (integer_at h) (part_named k'.parts x)
      by (inl same) = subst (λ (y : ℕ). value_beside (n.name ∷ k.names.items) (z ∷ k.values.items) y ≡ option_and_then (integer_at h) (part_named k'.parts y)) (sym same)
          (beside_here n.name z k.names.items k.values.items ∙ e ∙ sym (ap (option_and_then (integer_at h)) at_name))
      by (inr apart) = beside_away x n.name z k.names.items k.values.items apart ∙ w x ∙ sym (ap (option_and_then (integer_at h)) (elsewhere x apart))

  pub integer_none : k'.names.items ≡ k.names.items → k'.values.items ≡ k.values.items → None ≡ integer_at h (port_by n.entry) → KnowsIntegers h k'
  integer_none ns vs e x = (λ i. value_beside (ns i) (vs i) x) ∙ by (cases_eq x n.name)
    where
      by : ((x ≡ n.name) ⊎ (x ≢ n.name)) → value_beside k.names.items k.values.items x ≡ option_and_then (integer_at h) (part_named k'.parts x)
      by (inl same) = subst (λ (y : ℕ). value_beside k.names.items k.values.items y ≡ option_and_then (integer_at h) (part_named k'.parts y)) (sym same)
          (w n.name ∙ ap (option_and_then (integer_at h)) free ∙ e ∙ sym (ap (option_and_then (integer_at h)) at_name))
      by (inr apart) = w x ∙ sym (ap (option_and_then (integer_at h)) (elsewhere x apart))

-- on success
pub both_ok : {T E P : Type 0} (r : Result T E) → P → OnOk r P
both_ok (Ok x) p = p
both_ok (Err x) p = tt

pub two_ok : {T E P Q R : Type 0} (r : Result T E) → (P → Q → R) → OnOk r P → OnOk r Q → OnOk r R
two_ok (Ok x) f p q = f p q
two_ok (Err x) f p q = tt

-- ---- what is known of the parts of typed contexts

-- each is entered at an atom
pub named_atoms : (h : Heap) (k : Known) (typed : List TypedItem) (parts : List Part) → ((x : ℕ) → part_named k.parts x ≡ first_named typed parts x) → AreEntered h parts → AreParts h k.parts
named_atoms h k typed parts p are x q e = by typed parts are (sym (p x) ∙ e)
  where
    by : (ts : List TypedItem) (ps : List Part) → AreEntered h ps → first_named ts ps x ≡ Some q → IsAtom h q.0
    by [] ps a g = absurd (cc)
    by (t ∷ ts) [] a g = absurd (cc)
    by (t ∷ ts) (r ∷ ps) a g = at (t.name == x) g (by ts ps (λ n part e'. a (suc n) part e'))
      where
        at : (b : Bool) → (if b then Some (port_by r.entry) else first_named ts ps x) ≡ Some q → (first_named ts ps x ≡ Some q → IsAtom h q.0) → IsAtom h q.0
        at true g' rest = subst (λ (s : Port). IsAtom h s.0) (same_Some _ _ g') (a 0 r refl)
        at false g' rest = rest g'
