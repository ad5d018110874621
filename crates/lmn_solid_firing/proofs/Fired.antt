-- The membranes of the solid after a firing, on the stack.
use Rattle.std.proofs.Common.{ℕ, ◌≡◌, ◌≢◌, Bool, true, false, cond, List, [], ◌∷◌, ◌++◌, length, refl, sym, ap, subst, ◌∙◌}
use Rattle.std.specs.Prelude.{◌==◌}
use Rattle.lmn_base.proofs.Lists.{plus_nothing}
use Rattle.lmn_base.proofs.Numbers.{equal_itself, not_equal}
use Rattle.lmn_store_heap.specs.Heap.{atoms_in, mems_in, rules_in}
use Rattle.lmn_store_heap.specs.Sound.{Forest, bare, mem, Forms}
use Rattle.lmn_solid_settle.specs.Raw.{RawRegion, raw, laid}
use Rattle.lmn_solid_settle.specs.declared.settling.RawMembrane.{RawMembrane}
use Rattle.lmn_solid_tables.specs.Flats.{heap_of}
use Rattle.lmn_solid_tables.specs.declared.flat.Flat.{Flat}
use Rattle.lmn_solid_firing.specs.declared.writing.Writing.TheVariants.{Shifted}
use Rattle.lmn_solid_firing.specs.Making.{IsFired, Stand, WaitsFor, entered, fired_region, fired_regions, lone, pending, written_atoms}
use Rattle.lmn_solid_firing.proofs.Waiting.{LastStands, entered_regions, laid_lone, laid_whole, last_stands, none_stand, stand_both}

module _ (flat : Flat) (home : ℕ) (made : RawRegion) where
  abbrev P : ℕ → RawRegion → Type 0
  P = IsFired flat home made

  -- a membrane that isn't the one in which the rule fires
  abbrev other : ℕ → Forest → RawRegion
  other m inner = raw (written_atoms flat (Shifted 0) (atoms_in (heap_of flat) m)) (fired_regions flat home made inner) (rules_in (heap_of flat) m)

  -- those of a forest
  entered_stand : (around : ℕ) (f : Forest) (ms : List ℕ) → Forms (heap_of flat) f ms → Stand (IsFired flat home made) (entered around ms) (entered_regions around (fired_regions flat home made f))
  entered_stand around bare ms F = subst (λ z. Stand P (entered around z) []) (sym F) tt
  entered_stand around (mem m inner f) ms F =
      subst (λ z. Stand P (entered around z) (entered_regions around (fired_regions flat home made (mem m inner f)))) (sym F.1)
      (stand_both P (entered around F.0) ((m, around) ∷ []) (entered_regions around (fired_regions flat home made f)) ((fired_region flat home made m inner, around) ∷ [])
      (entered_stand around f F.0 F.3) ((inner, F.2, refl), refl, tt))

  -- the root alone waits
  pub root_waits : (es : List (ℕ × ℕ)) (inner : Forest) → es ≡ (0, 0) ∷ [] → Forms (heap_of flat) inner (mems_in (heap_of flat) 0) → (rows : List RawMembrane) → rows ≡ [] →
      WaitsFor flat home made rows es (laid 0 0 (fired_region flat home made 0 inner))
  root_waits es inner is F rows none = (
    (fired_region flat home made 0 inner, 0) ∷ [],
    subst (λ z. Stand P z ((fired_region flat home made 0 inner, 0) ∷ [])) (sym is) ((inner, F, refl), refl, tt),
    ap (λ z. z ++ pending ((fired_region flat home made 0 inner, 0) ∷ []) (length z)) none,
  )

  pub none_waits : (rows all : List RawMembrane) (es : List (ℕ × ℕ)) → es ≡ [] → WaitsFor flat home made rows es all → rows ≡ all
  none_waits rows all es is u =
      let none = none_stand P u.0 (subst (λ z. Stand P z u.0) is u.1) in
      sym (plus_nothing rows) ∙ ap (λ ws. rows ++ pending ws (length rows)) (sym none) ∙ u.2

  -- a membrane that was on top is this one, or another one
  as_home : (m : ℕ) (inner : Forest) (b : Bool) → b ≡ true → cond b made (other m inner) ≡ made
  as_home m inner b e = ap (λ c. cond c made (other m inner)) e

  as_other : (m : ℕ) (inner : Forest) (b : Bool) → b ≡ false → cond b made (other m inner) ≡ other m inner
  as_other m inner b e = ap (λ c. cond c made (other m inner)) e

  -- the one in which the rule fires was on top, and stands in the table
  pub home_waits : (rows rows' all : List RawMembrane) (es : List (ℕ × ℕ)) (m around : ℕ) → m ≡ home → rows' ≡ rows ++ laid around (length rows) made →
      WaitsFor flat home made rows (es ++ (m, around) ∷ []) all → WaitsFor flat home made rows' es all
  home_waits rows rows' all es m around here more u =
      let l : LastStands P es m around u.0 = last_stands P es m around u.0 u.1 in
      let is : l.last ≡ made = l.stands.2 ∙ as_home m l.stands.0 (m == home) (ap (λ z. z == home) here ∙ equal_itself home) in
      let e : rows ++ pending (l.others ++ (made, around) ∷ []) (length rows) ≡ all =
      ap (λ R. rows ++ pending (l.others ++ (R, around) ∷ []) (length rows)) (sym is) ∙ ap (λ ws. rows ++ pending ws (length rows)) (sym l.is) ∙ u.2 in
      (l.others, l.stand, ap (λ rs. rs ++ pending l.others (length rs)) more ∙ laid_whole rows l.others around made all e)

  -- another one was
  pub other_waits : (rows rows' all : List RawMembrane) (es es' : List (ℕ × ℕ)) (m around n : ℕ) → m ≢ home → n ≡ length rows → rows' ≡ rows ++ lone flat (Shifted 0) around m ∷ [] →
      es' ≡ es ++ entered n (mems_in (heap_of flat) m) → WaitsFor flat home made rows (es ++ (m, around) ∷ []) all → WaitsFor flat home made rows' es' all
  other_waits rows rows' all es es' m around n there long more next u =
      let l : LastStands P es m around u.0 = last_stands P es m around u.0 u.1 in
      let inner = l.stands.0 in
      let is : l.last ≡ other m inner = l.stands.2 ∙ as_other m inner (m == home) (not_equal m home there) in
      let e : rows ++ pending (l.others ++ (other m inner, around) ∷ []) (length rows) ≡ all =
      ap (λ R. rows ++ pending (l.others ++ (R, around) ∷ []) (length rows)) (sym is) ∙ ap (λ ws. rows ++ pending ws (length rows)) (sym l.is) ∙ u.2 in (
        l.others ++ entered_regions (length rows) (fired_regions flat home made inner),
        subst (λ z. Stand P z (l.others ++ entered_regions (length rows) (fired_regions flat home made inner))) (sym (next ∙ ap (λ k. es ++ entered k (mems_in (heap_of flat) m)) long))
            (stand_both P es (entered (length rows) (mems_in (heap_of flat) m)) l.others (entered_regions (length rows) (fired_regions flat home made inner)) l.stand (entered_stand (length rows) inner (mems_in (heap_of flat) m) l.stands.1)),
        ap (λ rs. rs ++ pending (l.others ++ entered_regions (length rows) (fired_regions flat home made inner)) (length rs)) more
            ∙ laid_lone rows l.others around (written_atoms flat (Shifted 0) (atoms_in (heap_of flat) m)) (fired_regions flat home made inner) (rules_in (heap_of flat) m) all e,
      )
