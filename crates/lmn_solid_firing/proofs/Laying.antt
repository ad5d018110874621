-- Regions laid one behind the other.
use Rattle.std.proofs.Common.{ℕ, suc, ◌≡◌, ◌+◌, Bool, true, false, cond, List, [], ◌∷◌, ◌++◌, length, refl, sym, ap, ◌∙◌, inl, inr, arith}
use Rattle.std.proofs.lemmas.List.{append_assoc, length-append}
use Rattle.lmn_base.specs.Lists.{In}
use Rattle.lmn_base.specs.declared.solid.SolidAtom.{SolidAtom}
use Rattle.std.specs.Prelude.{◌==◌, ◌<◌, Some, map, slice_index_or}
use Rattle.std.proofs.Common.{drop}
use Rattle.std.proofs.lemmas.Option.{slice_get-get_or}
use Rattle.lmn_base.proofs.Lists.{drop_get}
use Rattle.lmn_base.specs.declared.level.CtxUse.{CtxUse}
use Rattle.lmn_base.specs.declared.level.Level.{Level}
use Rattle.lmn_solid_bodies.specs.Flattening.{membrane_named}
use Rattle.lmn_store_heap.specs.Heap.{Heap, IsMem, mems_in}
use Rattle.lmn_store_heap.specs.Sound.{Forest, Forms}
use Rattle.lmn_solid_tables.specs.Flats.{heap_of}
use Rattle.lmn_solid_tables.specs.declared.flat.Flat.{Flat}
use Rattle.lmn_solid_firing.specs.declared.match_.Match.{Match}
use Rattle.lmn_solid_firing.specs.declared.writing.Writing.{Writing}
use Rattle.lmn_solid_firing.specs.declared.writing.Writing.TheVariants.{Shifted}
use Rattle.lmn_ground_parts.specs.Walks.{is_in}
use Rattle.lmn_solid_settle.specs.Raw.{RawRegion, RawRegions, no_raw, raw, raw_and, size, size_in, laid, laid_in}
use Rattle.lmn_solid_settle.specs.declared.settling.RawMembrane.{RawMembrane}
use Rattle.lmn_solid_firing.specs.Making.{AreThere, LeftForms, LevelMade, after_membranes, context_membranes, context_next, context_writing, left_of, home_region, home_row, level_made, level_region, level_row, made_membranes, raws_append, raws_at}
use Rattle.lmn_solid_settle.proofs.LaidParts.{laid_size, laid_in_size}

-- what is left of a list was in it
in_left_by : (x a : ℕ) (xs ys : List ℕ) (b : Bool) → (In a ys → In a xs) → In a (cond b ys (x ∷ ys)) → In a (x ∷ xs)
in_left_by x a xs ys true f j = inr (f j)
in_left_by x a xs ys false f (inl e) = inl e
in_left_by x a xs ys false f (inr j) = inr (f j)

pub in_left_of : (taken xs : List ℕ) (a : ℕ) → In a (left_of taken xs) → In a xs
in_left_of taken [] a i = i
in_left_of taken (x ∷ xs) a i = in_left_by x a xs (left_of taken xs) (is_in taken x) (λ j. in_left_of taken xs a j) i

-- the membrane that a name stands for is there
pub named_there : (h : Heap) → IsMem h 0 → (names : List (ℕ × ℕ)) → AreThere h names → (name : ℕ) → IsMem h (membrane_named names name)
named_there h z [] t name = z
named_there h z (e ∷ es) t name = by (e.0 == name) (named_there h z es t.1 name)
  where
    by : (b : Bool) → IsMem h (membrane_named es name) → IsMem h (cond b e.1 (membrane_named es name))
    by true m = t.0
    by false m = m

pub laid_append : (around n : ℕ) (ms ns : RawRegions) → laid_in around n (raws_append ms ns) ≡ laid_in around n ms ++ laid_in around (n + size_in ms) ns
laid_append around n no_raw ns = let e : n ≡ n + 0 = omega arith in ap (λ k. laid_in around k ns) e
laid_append around n (raw_and m ms) ns =
    let e : (n + size m) + size_in ms ≡ n + (size m + size_in ms) = omega arith in
    ap (λ ys. laid around n m ++ ys) (laid_append around (n + size m) ms ns ∙ ap (λ k. laid_in around (n + size m) ms ++ laid_in around k ns) e)
    ∙ sym (append_assoc (laid around n m) (laid_in around (n + size m) ms) (laid_in around (n + (size m + size_in ms)) ns))

-- some regions are laid, and others are left
pub more_laid : (rows rows' all : List RawMembrane) (around : ℕ) (ms ns : RawRegions) → rows' ≡ rows ++ laid_in around (length rows) ms →
    rows ++ laid_in around (length rows) (raws_append ms ns) ≡ all → rows' ++ laid_in around (length rows') ns ≡ all
more_laid rows rows' all around ms ns is e =
    let n : length (rows ++ laid_in around (length rows) ms) ≡ length rows + size_in ms = length-append rows (laid_in around (length rows) ms) ∙ ap (λ k. length rows + k) (laid_in_size around (length rows) ms) in
    ap (λ zs. zs ++ laid_in around (length zs) ns) is
    ∙ ap (λ k. (rows ++ laid_in around (length rows) ms) ++ laid_in around k ns) n
    ∙ append_assoc rows (laid_in around (length rows) ms) (laid_in around (length rows + size_in ms) ns)
    ∙ ap (λ ys. rows ++ ys) (sym (laid_append around (length rows) ms ns))
    ∙ e

-- a region is laid by its row and those of its membranes
pub region_laid : (rows rows' rows'' : List RawMembrane) (around number : ℕ) (xs : List SolidAtom) (ms : RawRegions) (rs : List ℕ) → number ≡ length rows → rows' ≡ rows ++ (record { around = around; atoms = xs; rules = rs }) ∷ [] →
    rows'' ≡ rows' ++ laid_in number (length rows') ms → rows'' ≡ rows ++ laid around (length rows) (raw xs ms rs)
region_laid rows rows' rows'' around number xs ms rs is one more =
    let row : RawMembrane = record { around = around; atoms = xs; rules = rs } in
    let n : length (rows ++ row ∷ []) ≡ suc (length rows) = length-append rows (row ∷ []) ∙ omega arith in
    more
    ∙ ap (λ zs. zs ++ laid_in number (length zs) ms) one
    ∙ (λ i. (rows ++ row ∷ []) ++ laid_in (is i) (n i) ms)
    ∙ append_assoc rows (row ∷ []) (laid_in (length rows) (suc (length rows)) ms)

-- and others are left
pub one_laid : (rows rows' all : List RawMembrane) (around : ℕ) (m : RawRegion) (ms ns : RawRegions) → rows' ≡ rows ++ laid around (length rows) m →
    rows ++ laid_in around (length rows) (raws_append (raw_and m ms) ns) ≡ all → rows' ++ laid_in around (length rows') (raws_append ms ns) ≡ all
one_laid rows rows' all around m ms ns is e =
    let n : length (rows ++ laid around (length rows) m) ≡ length rows + size m = length-append rows (laid around (length rows) m) ∙ ap (λ k. length rows + k) (laid_size around (length rows) m) in
    ap (λ zs. zs ++ laid_in around (length zs) (raws_append ms ns)) is
    ∙ ap (λ k. (rows ++ laid around (length rows) m) ++ laid_in around k (raws_append ms ns)) n
    ∙ append_assoc rows (laid around (length rows) m) (laid_in around (length rows + size m) (raws_append ms ns))
    ∙ e

-- the membranes of one context more are laid
pub context_more : (flat : Flat) (t : Match) (left : ℕ → Forest) (us : List CtxUse) (i : ℕ) (d : CtxUse) → i < length us → (around : ℕ) (rows rows' all : List RawMembrane) (next next' x : ℕ) (w : Writing) (names : List (ℕ × ℕ)) →
    names ≡ t.contexts → x ≡ membrane_named names (slice_index_or us i d).name → w ≡ context_writing (slice_index_or us i d).closed next → next' ≡ context_next t.links (slice_index_or us i d).closed next →
    IsMem (heap_of flat) x → ((f : Forest) → Forms (heap_of flat) f (left_of t.membranes (mems_in (heap_of flat) x)) → rows' ≡ rows ++ laid_in around (length rows) (raws_at flat w f)) → LeftForms flat t left →
    rows ++ laid_in around (length rows) (context_membranes flat t left next (drop i us)) ≡ all → rows' ++ laid_in around (length rows') (context_membranes flat t left next' (drop (i + 1) us)) ≡ all
context_more flat t left us i d l around rows rows' all next next' x w names are x_is w_is next_is there laid forms e =
    let u = slice_index_or us i d in
    let y : x ≡ membrane_named t.contexts u.name = x_is ∙ ap (λ z. membrane_named z u.name) are in
    let ms = raws_at flat (context_writing u.closed next) (left (membrane_named t.contexts u.name)) in
    let ns = context_membranes flat t left (context_next t.links u.closed next) (drop (i + 1) us) in
    let is : rows' ≡ rows ++ laid_in around (length rows) ms = laid (left x) (forms x there) ∙ (λ j. rows ++ laid_in around (length rows) (raws_at flat (w_is j) (left (y j)))) in
    ap (λ k. rows' ++ laid_in around (length rows') (context_membranes flat t left k (drop (i + 1) us))) next_is
    ∙ more_laid rows rows' all around ms ns is (ap (λ vs. rows ++ laid_in around (length rows) (context_membranes flat t left next vs)) (sym (drop_get i us u (slice_get-get_or us i d l))) ∙ e)

module _ (flat : Flat) (t : Match) (left : ℕ → Forest) (ls : List Level) (i : ℕ) (l : Level) (below : i < length ls) (is : l ≡ slice_index_or ls i l) (next next1 next2 : ℕ)
    (to_own : next1 ≡ (level_made flat t left l).own next) (to_after : next2 ≡ (level_made flat t left l).after next1) where
  abbrev made : List Level → List LevelMade
  made xs = map (level_made flat t left) xs

  first : drop i ls ≡ l ∷ drop (i + 1) ls
  first = drop_get i ls l (slice_get-get_or ls i l below ∙ ap (λ z. Some z) (sym is))

  next_is : next2 ≡ (level_made flat t left l).after ((level_made flat t left l).own next)
  next_is = to_after ∙ ap (level_made flat t left l).after to_own

  -- the copies behind one membrane more
  pub inner_next : (all : ℕ) → after_membranes next (made (drop i ls)) ≡ all → after_membranes next2 (made (drop (i + 1) ls)) ≡ all
  inner_next all e = ap (λ k. after_membranes k (made (drop (i + 1) ls))) next_is ∙ ap (λ xs. after_membranes next (made xs)) (sym first) ∙ e

  -- one membrane more is laid
  pub inner_laid : (rows rows1 rows2 all : List RawMembrane) (around number own : ℕ) (ns : RawRegions) → number ≡ length rows → own ≡ (level_made flat t left l).start next →
      rows1 ≡ rows ++ level_row around (level_made flat t left l) next ∷ [] → rows2 ≡ rows1 ++ laid_in number (length rows1) ((level_made flat t left l).membranes own next1) →
      rows ++ laid_in around (length rows) (raws_append (made_membranes next (made (drop i ls))) ns) ≡ all →
      rows2 ++ laid_in around (length rows2) (raws_append (made_membranes next2 (made (drop (i + 1) ls))) ns) ≡ all
  inner_laid rows rows1 rows2 all around number own ns n_is own_is one more e =
      let b = level_made flat t left l in
      let inner : rows2 ≡ rows1 ++ laid_in number (length rows1) (b.membranes (b.start next) (b.own next)) = more ∙ (λ j. rows1 ++ laid_in number (length rows1) (b.membranes (own_is j) (to_own j))) in
      ap (λ k. rows2 ++ laid_in around (length rows2) (raws_append (made_membranes k (made (drop (i + 1) ls))) ns)) next_is
      ∙ one_laid rows rows2 all around (level_region b next) (made_membranes (b.after (b.own next)) (made (drop (i + 1) ls))) ns (region_laid rows rows1 rows2 around number (b.atoms next) (b.membranes (b.start next) (b.own next)) b.rules n_is one inner)
      (ap (λ xs. rows ++ laid_in around (length rows) (raws_append (made_membranes next (made xs)) ns)) (sym first) ∙ e)

-- the membrane in which the rule fires is laid
pub home_laid : (flat : Flat) (t : Match) (left : ℕ → Forest) (b : LevelMade) (next next1 start around number : ℕ) (rows rows1 rows2 rows3 : List RawMembrane) → number ≡ length rows → start ≡ b.start next → next1 ≡ b.own next →
    rows1 ≡ rows ++ home_row flat t around b next ∷ [] → rows2 ≡ rows1 ++ laid_in number (length rows1) (raws_at flat (Shifted 0) (left t.home)) →
    rows3 ≡ rows2 ++ laid_in number (length rows2) (b.membranes start next1) → rows3 ≡ rows ++ laid around (length rows) (home_region flat t left b next)
home_laid flat t left b next next1 start around number rows rows1 rows2 rows3 n_is start_is own_is one two three =
    let ms = raws_at flat (Shifted 0) (left t.home) in
    let ns = b.membranes (b.start next) (b.own next) in
    let row = home_row flat t around b next in
    region_laid rows rows1 rows3 around number row.atoms (raws_append ms ns) row.rules n_is one
    (three ∙ (λ i. rows2 ++ laid_in number (length rows2) (b.membranes (start_is i) (own_is i))) ∙ more_laid rows1 rows2 (rows1 ++ laid_in number (length rows1) (raws_append ms ns)) number ms ns two refl)
