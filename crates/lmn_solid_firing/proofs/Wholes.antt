-- Membranes of the solid with all that stands in them, on the stack.
use Rattle.std.proofs.Common.{ℕ, ◌≡◌, List, [], ◌∷◌, ◌++◌, length, refl, sym, ap, subst, ◌∙◌, inl, inr}
use Rattle.std.specs.List.{AllByRecursion}
use Rattle.lmn_base.specs.Lists.{In}
use Rattle.lmn_base.proofs.Lists.{all_append}
use Rattle.lmn_store_heap.specs.Heap.{Heap, IsAtom, IsMem, atoms_in, mems_in, rules_in}
use Rattle.lmn_store_heap.specs.Sound.{Forest, bare, mem, Forms, Valid}
use Rattle.lmn_store_heap.proofs.ListLemmas.{each_in}
use Rattle.lmn_adequacy_heaps.proofs.Counting.{list_atoms}
use Rattle.lmn_solid_settle.specs.Raw.{RawRegion, raw, laid_in}
use Rattle.lmn_solid_settle.specs.declared.settling.RawMembrane.{RawMembrane}
use Rattle.lmn_solid_tables.specs.Flats.{heap_of}
use Rattle.lmn_solid_tables.specs.declared.flat.Flat.{Flat}
use Rattle.lmn_solid_firing.specs.declared.writing.Writing.{Writing}
use Rattle.lmn_solid_firing.specs.Making.{Stand, entered, lone, pending, raws_at, written_atoms}
use Rattle.lmn_solid_firing.proofs.Waiting.{LastStands, entered_pending, entered_regions, laid_lone, last_stands, stand_both}

-- a membrane on the stack is there, and so are those that are put on it
pub entered_there : (h : Heap) (around : ℕ) (ms : List ℕ) → ((m : ℕ) → In m ms → IsMem h m) → AllByRecursion (λ e. IsMem h e.0) (entered around ms)
entered_there h around [] t = tt
entered_there h around (m ∷ ms) t = all_append (λ e. IsMem h e.0) (entered around ms) ((m, around) ∷ []) (entered_there h around ms (λ k i. t k (inr i))) (t m (inl refl), tt)

-- what stands in the list of atoms of a membrane is an atom
pub atoms_there : (h : Heap) → Valid h → (m a : ℕ) → In a (atoms_in h m) → IsAtom h a
atoms_there h v m a i = each_in (IsAtom h) (atoms_in h m) a (list_atoms h v m) i

module _ (flat : Flat) (w : Writing) where
  abbrev h : Heap
  h = heap_of flat

  -- a membrane with all that stands in it
  abbrev whole : ℕ → Forest → RawRegion
  whole m inner = raw (written_atoms flat w (atoms_in (heap_of flat) m)) (raws_at flat w inner) (rules_in (heap_of flat) m)

  -- a region is this membrane
  abbrev pub IsWhole : ℕ → RawRegion → Type 0
  IsWhole m R = (inner : Forest) × Forms (heap_of flat) inner (mems_in (heap_of flat) m)
      × (R ≡ raw (written_atoms flat w (atoms_in (heap_of flat) m)) (raws_at flat w inner) (rules_in (heap_of flat) m))

  -- those of a forest
  pub entered_stand : (around : ℕ) (f : Forest) (ms : List ℕ) → Forms (heap_of flat) f ms → Stand IsWhole (entered around ms) (entered_regions around (raws_at flat w f))
  entered_stand around bare ms F = subst (λ z. Stand IsWhole (entered around z) []) (sym F) tt
  entered_stand around (mem m inner f) ms F =
      subst (λ z. Stand IsWhole (entered around z) (entered_regions around (raws_at flat w (mem m inner f)))) (sym F.1)
      (stand_both IsWhole (entered around F.0) ((m, around) ∷ []) (entered_regions around (raws_at flat w f)) ((whole m inner, around) ∷ [])
      (entered_stand around f F.0 F.3) ((inner, F.2, refl), refl, tt))

  -- what waits, and what it adds
  abbrev pub Waits : List RawMembrane → List (ℕ × ℕ) → List RawMembrane → Type 0
  Waits rows es all = (ws : List (RawRegion × ℕ)) × Stand IsWhole es ws × (rows ++ pending ws (length rows) ≡ all)

  pub begins : (rows : List RawMembrane) (around : ℕ) (f : Forest) (ms : List ℕ) (es : List (ℕ × ℕ)) → es ≡ [] ++ entered around ms → Forms (heap_of flat) f ms →
      Waits rows es (rows ++ laid_in around (length rows) (raws_at flat w f))
  begins rows around f ms es is F = (
    entered_regions around (raws_at flat w f),
    subst (λ z. Stand IsWhole z (entered_regions around (raws_at flat w f))) (sym is) (entered_stand around f ms F),
    ap (λ ys. rows ++ ys) (entered_pending around (raws_at flat w f) (length rows)),
  )

  pub goes_on : (rows rows' all : List RawMembrane) (es es' es'' : List (ℕ × ℕ)) (m around n : ℕ) → es ≡ es' ++ (m, around) ∷ [] → n ≡ length rows → rows' ≡ rows ++ lone flat w around m ∷ [] →
      es'' ≡ es' ++ entered n (mems_in (heap_of flat) m) → Waits rows es all → Waits rows' es'' all
  goes_on rows rows' all es es' es'' m around n is long more next u =
      let l : LastStands IsWhole es' m around u.0 = last_stands IsWhole es' m around u.0 (subst (λ z. Stand IsWhole z u.0) is u.1) in
      let inner = l.stands.0 in
      let e : rows ++ pending (l.others ++ (whole m inner, around) ∷ []) (length rows) ≡ all =
      ap (λ R. rows ++ pending (l.others ++ (R, around) ∷ []) (length rows)) (sym l.stands.2) ∙ ap (λ ws. rows ++ pending ws (length rows)) (sym l.is) ∙ u.2 in (
        l.others ++ entered_regions (length rows) (raws_at flat w inner),
        subst (λ z. Stand IsWhole z (l.others ++ entered_regions (length rows) (raws_at flat w inner))) (sym (next ∙ ap (λ k. es' ++ entered k (mems_in (heap_of flat) m)) long))
            (stand_both IsWhole es' (entered (length rows) (mems_in (heap_of flat) m)) l.others (entered_regions (length rows) (raws_at flat w inner)) l.stand (entered_stand (length rows) inner (mems_in (heap_of flat) m) l.stands.1)),
        ap (λ rs. rs ++ pending (l.others ++ entered_regions (length rows) (raws_at flat w inner)) (length rs)) more
            ∙ laid_lone rows l.others around (written_atoms flat w (atoms_in (heap_of flat) m)) (raws_at flat w inner) (rules_in (heap_of flat) m) all e,
      )
