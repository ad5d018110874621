-- What membranes on the stack add to the table, each with all that stands in it: the one on top, which is the last of the list, first.
use Rattle.std.proofs.Common.{ℕ, suc, ◌≡◌, ◌+◌, List, [], ◌∷◌, ◌++◌, length, refl, sym, ap, ◌∙◌, arith}
use Rattle.std.proofs.lemmas.List.{append_assoc, length-append}
use Rattle.lmn_base.proofs.Lists.{plus_nothing}
use Rattle.lmn_solid_settle.specs.Raw.{RawRegion, RawRegions, no_raw, raw, raw_and, size, size_in, laid, laid_in}
use Rattle.lmn_solid_settle.specs.declared.settling.RawMembrane.{RawMembrane}
use Rattle.lmn_base.specs.declared.solid.SolidAtom.{SolidAtom}
use Rattle.lmn_solid_firing.specs.Making.{Stand, pending, pending_size}
use Rattle.lmn_solid_settle.proofs.LaidParts.{laid_size}

size_both : (ws vs : List (RawRegion × ℕ)) → pending_size (ws ++ vs) ≡ pending_size ws + pending_size vs
size_both [] vs = omega arith
size_both (w ∷ ws) vs = omega (arith, size_both ws vs)

pub pending_both : (ws vs : List (RawRegion × ℕ)) (n : ℕ) → pending (ws ++ vs) n ≡ pending vs n ++ pending ws (n + pending_size vs)
pending_both [] vs n = sym (plus_nothing (pending vs n))
pending_both (w ∷ ws) vs n =
    let e : n + pending_size (ws ++ vs) ≡ (n + pending_size vs) + pending_size ws = omega (arith, size_both ws vs) in
    (λ i. pending_both ws vs n i ++ laid w.1 (e i) w.0)
    ∙ append_assoc (pending vs n) (pending ws (n + pending_size vs)) (laid w.1 ((n + pending_size vs) + pending_size ws) w.0)

-- the regions in a membrane, the last one first
abbrev pub entered_regions : ℕ → RawRegions → List (RawRegion × ℕ)
entered_regions around no_raw = []
entered_regions around (raw_and m ms) = entered_regions around ms ++ (m, around) ∷ []

entered_size : (around : ℕ) (ms : RawRegions) → pending_size (entered_regions around ms) ≡ size_in ms
entered_size around no_raw = refl
entered_size around (raw_and m ms) =
    let a = size_both (entered_regions around ms) ((m, around) ∷ []) in
    let b = entered_size around ms in
    omega (arith, a, b)

pending_one : (m : RawRegion) (around n : ℕ) → pending ((m, around) ∷ []) n ≡ laid around n m
pending_one m around n = let e : n + 0 ≡ n = omega arith in ap (λ k. laid around k m) e

pub entered_pending : (around : ℕ) (ms : RawRegions) (n : ℕ) → pending (entered_regions around ms) n ≡ laid_in around n ms
entered_pending around no_raw n = refl
entered_pending around (raw_and m ms) n =
    let e : n + pending_size ((m, around) ∷ []) ≡ n + size m = omega arith in
    pending_both (entered_regions around ms) ((m, around) ∷ []) n
    ∙ (λ i. pending_one m around n i ++ pending (entered_regions around ms) (e i))
    ∙ ap (λ ys. laid around n m ++ ys) (entered_pending around ms (n + size m))

-- the region on top is laid, and then the others
pub pending_top : (ws : List (RawRegion × ℕ)) (m : RawRegion) (around n : ℕ) → pending (ws ++ (m, around) ∷ []) n ≡ laid around n m ++ pending ws (n + size m)
pending_top ws m around n =
    let e : n + pending_size ((m, around) ∷ []) ≡ n + size m = omega arith in
    pending_both ws ((m, around) ∷ []) n ∙ (λ i. pending_one m around n i ++ pending ws (e i))

module _ (rows : List RawMembrane) (ws : List (RawRegion × ℕ)) (around : ℕ) where
  -- a region that was on top stands in the table
  pub laid_whole : (m : RawRegion) (all : List RawMembrane) → rows ++ pending (ws ++ (m, around) ∷ []) (length rows) ≡ all →
      (rows ++ laid around (length rows) m) ++ pending ws (length (rows ++ laid around (length rows) m)) ≡ all
  laid_whole m all e =
      let n : length (rows ++ laid around (length rows) m) ≡ length rows + size m = length-append rows (laid around (length rows) m) ∙ ap (λ k. length rows + k) (laid_size around (length rows) m) in
      ap (λ k. (rows ++ laid around (length rows) m) ++ pending ws k) n
      ∙ append_assoc rows (laid around (length rows) m) (pending ws (length rows + size m))
      ∙ ap (λ ys. rows ++ ys) (sym (pending_top ws m around (length rows)))
      ∙ e

  -- a membrane that was on top stands in the table, and those in it wait
  pub laid_lone : (xs : List SolidAtom) (ms : RawRegions) (rs : List ℕ) (all : List RawMembrane) → rows ++ pending (ws ++ (raw xs ms rs, around) ∷ []) (length rows) ≡ all →
      let more = rows ++ (record { around = around; atoms = xs; rules = rs }) ∷ [] in
      more ++ pending (ws ++ entered_regions (length rows) ms) (length more) ≡ all
  laid_lone xs ms rs all e =
      let row : RawMembrane = record { around = around; atoms = xs; rules = rs } in
      let n : length (rows ++ row ∷ []) ≡ suc (length rows) = length-append rows (row ∷ []) ∙ omega arith in
      let k : suc (length rows) + pending_size (entered_regions (length rows) ms) ≡ length rows + size (raw xs ms rs) = omega (arith, entered_size (length rows) ms) in
      ap (λ j. (rows ++ row ∷ []) ++ pending (ws ++ entered_regions (length rows) ms) j) n
      ∙ append_assoc rows (row ∷ []) (pending (ws ++ entered_regions (length rows) ms) (suc (length rows)))
      ∙ ap (λ ys. rows ++ row ∷ ys) (pending_both ws (entered_regions (length rows) ms) (suc (length rows)) ∙ (λ i. entered_pending (length rows) ms (suc (length rows)) i ++ pending ws (k i)))
      ∙ ap (λ ys. rows ++ ys) (sym (pending_top ws (raw xs ms rs) around (length rows)))
      ∙ e

pub none_stand : (P : ℕ → RawRegion → Type 0) (ws : List (RawRegion × ℕ)) → Stand P [] ws → ws ≡ []
none_stand P [] s = refl
none_stand P (w ∷ ws) s = absurd s

pub stand_both : (P : ℕ → RawRegion → Type 0) (es fs : List (ℕ × ℕ)) (ws vs : List (RawRegion × ℕ)) → Stand P es ws → Stand P fs vs → Stand P (es ++ fs) (ws ++ vs)
stand_both P [] fs [] vs s t = t
stand_both P [] fs (w ∷ ws) vs s t = absurd s
stand_both P (e ∷ es) fs [] vs s t = absurd s
stand_both P (e ∷ es) fs (w ∷ ws) vs s t = (s.0, s.1, stand_both P es fs ws vs s.2 t)

-- the last one, and the others
pub record LastStands (P : ℕ → RawRegion → Type 0) (es : List (ℕ × ℕ)) (m around : ℕ) (ws : List (RawRegion × ℕ)) : Type 0 where
  pub others : List (RawRegion × ℕ)
  pub last : RawRegion
  pub is : ws ≡ others ++ (last, around) ∷ []
  pub stand : Stand P es others
  pub stands : P m last

pub last_stands : (P : ℕ → RawRegion → Type 0) (es : List (ℕ × ℕ)) (m around : ℕ) (ws : List (RawRegion × ℕ)) → Stand P (es ++ (m, around) ∷ []) ws → LastStands P es m around ws
last_stands P [] m around [] s = absurd s
last_stands P [] m around (w ∷ ws) s = record {
  others = [];
  last = w.0;
  is = λ i. (w.0, sym s.1 i) ∷ none_stand P ws s.2 i;
  stand = tt;
  stands = s.0;
}
last_stands P (e ∷ es) m around [] s = absurd s
last_stands P (e ∷ es) m around (w ∷ ws) s =
    let u = last_stands P es m around ws s.2 in record {
      others = w ∷ u.others;
      last = u.last;
      is = ap (λ vs. w ∷ vs) u.is;
      stand = (s.0, s.1, u.stand);
      stands = u.stands;
    }
