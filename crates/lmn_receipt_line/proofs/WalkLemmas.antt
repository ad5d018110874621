-- The steps of the walk.
use Rattle.std.proofs.Common.{◌≡◌, ◌∙◌, ℕ, suc, ◌+◌, ◌<◌, ◌≤◌, Bool, true, false, List, [], ◌∷◌, ◌++◌, drop, length, map, refl, sym, ap, subst, arith}
use Rattle.std.specs.Prelude.{Some, codes, slice_get, slice_index_or}
use Rattle.std.specs.List.{sum_by}
use Rattle.std.proofs.lemmas.List.{append-nil, append_assoc, drop_all, length-append}
use Rattle.std.proofs.lemmas.List.Sums.{sum_by-cons, sum-map}
use Rattle.std.proofs.lemmas.Option.{slice_get-get_or}
use Rattle.lmn_base.specs.declared.rule.RuleTree.{RuleTree}
use Rattle.lmn_base.specs.declared.solid.SolidAtom.{SolidAtom}
use Rattle.lmn_base.specs.declared.solid.Region.{Region}
use Rattle.lmn_base.specs.declared.solid.Region.TheFolds.{fold_out-Region}
use Rattle.lmn_base.specs.declared.solid.Region.TheViews.{out-Region}
use Rattle.lmn_base.proofs.Lists.{drop_get}
use Rattle.lmn_congruence.specs.Rules.{Name}
use Rattle.lmn_io.specs.Gathering.{SinkState, Adds}
use Rattle.lmn_io.proofs.TakingLemmas.{adds_more}
use Rattle.lmn_print_plain.specs.Rows.{any_behind, between_if, in_row}
use Rattle.lmn_print_plain.specs.Stored.{solid_atom_text}
use Rattle.lmn_print_plain.proofs.RowLemmas.{row_append}
use Rattle.lmn_receipt_line.specs.declared.walk.Left.TheVariants.{All, FromMembrane}
use Rattle.lmn_receipt_line.specs.declared.walk.Place.{Place}
use Rattle.lmn_receipt_line.specs.Walking.{rule_text, membrane_step, membrane_text, texts_in, any_before, left_in, left_inside, left_open, between_inside, end_inside, with_left, steps_at, steps_open, count_step, membrane_count, ahead_in, ahead, AreBelow, Steps}

-- ---- what is left

module _ (names : List Name) (table : List RuleTree) where
  abbrev text : List ℕ → Place → List ℕ
  text b p = left_in names table b p.region.now p.left

  inside_last : (ps : List Place) (p : Place) → left_inside names table (ps ++ p ∷ []) ≡ (text (codes ", ") p ++ codes "}") ++ left_inside names table ps
  inside_last [] p = sym (append-nil (text (codes ", ") p ++ codes "}"))
  inside_last (q ∷ ps) p =
      ap (λ z. z ++ (text (codes ", ") q ++ codes "}")) (inside_last ps p)
      ∙ append_assoc (text (codes ", ") p ++ codes "}") (left_inside names table ps) (text (codes ", ") q ++ codes "}")

  -- what is left of the innermost membrane comes first
  open_last : (ps : List Place) (p : Place) → left_open names table (ps ++ p ∷ []) ≡ text (between_inside ps) p ++ (end_inside ps ++ left_open names table ps)
  open_last [] p = sym (append-nil (text (codes ". ") p))
  open_last (q ∷ ps) p =
      ap (λ z. z ++ text (codes ". ") q) (inside_last ps p)
      ∙ append_assoc (text (codes ", ") p ++ codes "}") (left_inside names table ps) (text (codes ". ") q)
      ∙ append_assoc (text (codes ", ") p) (codes "}") (left_inside names table ps ++ text (codes ". ") q)

  -- a membrane with its braces, by its items
  membrane_is : (r : Region) → membrane_text names table r ≡ codes "{" ++ (in_row (codes ", ") false (texts_in names table r) ++ codes "}")
  membrane_is r = fold_out-Region (List ℕ) (membrane_step names table) r

inside_more : (ps : List Place) (p : Place) → between_inside (ps ++ p ∷ []) ≡ codes ", "
inside_more [] p = refl
inside_more (q ∷ ps) p = refl

end_more : (ps : List Place) (p : Place) → end_inside (ps ++ p ∷ []) ≡ codes "}"
end_more [] p = refl
end_more (q ∷ ps) p = refl

any_first : {X : Type 0} (f : SolidAtom → X) (atoms : List SolidAtom) → any_behind false (map f atoms) ≡ any_before atoms 0
any_first f [] = refl
any_first f (a ∷ atoms) = refl

any_next : (atoms : List SolidAtom) (n : ℕ) → any_before atoms (n + 1) ≡ true
any_next [] n = let e : suc n ≡ n + 1 = omega arith in subst (λ k. any_before [] k ≡ true) e refl
any_next (a ∷ atoms) n = refl

-- ---- how much is left

-- a membrane, and those in it
pub count_inside : (r : Region) → membrane_count r ≡ suc (sum_by membrane_count (out-Region r).membranes)
count_inside r = fold_out-Region ℕ count_step r ∙ ap suc (sum-map membrane_count (out-Region r).membranes)

steps_last : (ps : List Place) (p : Place) → steps_open (ps ++ p ∷ []) ≡ steps_open ps + steps_at p.left
steps_last [] p = omega arith
steps_last (q ∷ ps) p = let e = steps_last ps p in omega (arith, e)

ahead_last : (ps : List Place) (p : Place) → ahead (ps ++ p ∷ []) ≡ ahead ps + ahead_in p.region.now p.left
ahead_last [] p = omega arith
ahead_last (q ∷ ps) p = let e = ahead_last ps p in omega (arith, e)

below_more : (most : ℕ) (ps : List Place) (p : Place) → AreBelow most ps → p.number < most → AreBelow most (ps ++ p ∷ [])
below_more most [] p b l = (l, tt)
below_more most (q ∷ ps) p b l = (b.0, below_more most ps p b.1 l)

below_rest : (most : ℕ) (ps : List Place) (p : Place) → AreBelow most (ps ++ p ∷ []) → AreBelow most ps
below_rest most [] p b = tt
below_rest most (q ∷ ps) p b = (b.0, below_rest most ps p b.1)

-- the number of the innermost membrane lies below the bound
pub below_last : (most : ℕ) (ps : List Place) (p : Place) → AreBelow most (ps ++ p ∷ []) → p.number < most
below_last most [] p b = b.0
below_last most (q ∷ ps) p b = below_last most ps p b.1

-- ---- the atoms of a membrane

module _ (names : List Name) (table : List RuleTree) (ps : List Place) (p : Place) (is : p.left ≡ All) where
  abbrev whole : Region
  whole = p.region.now

  abbrev atoms_row : List ℕ
  atoms_row = in_row (between_inside ps) false (map (solid_atom_text names) (out-Region whole).atoms)

  abbrev begun : Place
  begun = with_left (FromMembrane 0) p

  atoms_first : left_in names table (between_inside ps) whole All ≡ atoms_row ++ left_in names table (between_inside ps) whole (FromMembrane 0)
  atoms_first =
      let rest = map (membrane_text names table) (out-Region whole).membranes ++ map (rule_text names table) (out-Region whole).rules in
      row_append (between_inside ps) false (map (solid_atom_text names) (out-Region whole).atoms) rest
      ∙ ap (λ any. atoms_row ++ in_row (between_inside ps) any rest) (any_first (solid_atom_text names) (out-Region whole).atoms)

  atoms_rest : left_open names table (ps ++ p ∷ []) ≡ atoms_row ++ left_open names table (ps ++ begun ∷ [])
  atoms_rest =
      let end = end_inside ps ++ left_open names table ps in
      open_last names table ps p
      ∙ ap (λ l. left_in names table (between_inside ps) whole l ++ end) is
      ∙ ap (λ z. z ++ end) atoms_first
      ∙ append_assoc atoms_row (left_in names table (between_inside ps) whole (FromMembrane 0)) end
      ∙ ap (λ z. atoms_row ++ z) (sym (open_last names table ps begun))

  -- the atoms of the innermost membrane are written
  pub atoms_step : (entered : ℕ) (before after : SinkState) → Adds atoms_row before after → Steps names table (ps ++ p ∷ []) (ps ++ begun ∷ []) entered entered before after
  atoms_step entered before after h = record {
    written = atoms_row;
    adds = h;
    rest = atoms_rest;
    fewer =
        let a = ap length atoms_rest in
        let b = length-append atoms_row (left_open names table (ps ++ begun ∷ [])) in
        let c = steps_last ps p in
        let d = steps_last ps begun in
        let e = ap steps_at is in
        omega (arith, a, b, c, d, e);
    within = λ most w. (
      (let a = ahead_last ps p in let b = ahead_last ps begun in let e = ap (ahead_in whole) is in let l = w.0 in omega (arith, a, b, e, l)),
      below_more most ps begun (below_rest most ps p w.1) (below_last most ps p w.1),
    );
  }

-- ---- a membrane in it

module _ (names : List Name) (table : List RuleTree) (ps : List Place) (p : Place) (n : ℕ) (is : p.left ≡ FromMembrane n) (m : Place) (all : m.left ≡ All)
    (there : slice_get (out-Region p.region.now).membranes n ≡ Some m.region.now) where
  abbrev around : Region
  around = p.region.now

  abbrev passed : Place
  passed = with_left (FromMembrane (n + 1)) p

  abbrev bytes : List ℕ
  bytes = between_inside ps

  abbrev any : Bool
  any = any_before (out-Region around).atoms n

  abbrev rules_of : List (List ℕ)
  rules_of = map (rule_text names table) (out-Region around).rules

  abbrev behind : List (List ℕ)
  behind = map (membrane_text names table) (drop (n + 1) (out-Region around).membranes) ++ rules_of

  abbrev items : List ℕ
  items = in_row (codes ", ") false (texts_in names table m.region.now)

  here : drop n (out-Region around).membranes ≡ m.region.now ∷ drop (n + 1) (out-Region around).membranes
  here = drop_get n (out-Region around).membranes m.region.now there

  left_here : left_in names table bytes around (FromMembrane n) ≡ between_if bytes any ++ ((codes "{" ++ (items ++ codes "}")) ++ in_row bytes true behind)
  left_here =
      ap (λ ms. in_row bytes any (map (membrane_text names table) ms ++ rules_of)) here
      ∙ ap (λ t. between_if bytes any ++ (t ++ in_row bytes true behind)) (membrane_is names table m.region.now)

  left_next : left_in names table bytes around (FromMembrane (n + 1)) ≡ in_row bytes true behind
  left_next = ap (λ a. in_row bytes a behind) (any_next (out-Region around).atoms n)

  abbrev first : List ℕ
  first = between_if bytes any ++ codes "{"

  enter_rest : left_open names table (ps ++ p ∷ []) ≡ first ++ left_open names table ((ps ++ passed ∷ []) ++ m ∷ [])
  enter_rest =
      let end = end_inside ps ++ left_open names table ps in
      let row = in_row bytes true behind in
      let inner : left_open names table ((ps ++ passed ∷ []) ++ m ∷ []) ≡ items ++ (codes "}" ++ (row ++ end)) =
      open_last names table (ps ++ passed ∷ []) m
      ∙ ap (λ l. left_in names table (between_inside (ps ++ passed ∷ [])) m.region.now l ++ (end_inside (ps ++ passed ∷ []) ++ left_open names table (ps ++ passed ∷ []))) all
      ∙ ap (λ z. in_row z false (texts_in names table m.region.now) ++ (end_inside (ps ++ passed ∷ []) ++ left_open names table (ps ++ passed ∷ []))) (inside_more ps passed)
      ∙ ap (λ z. items ++ (z ++ left_open names table (ps ++ passed ∷ []))) (end_more ps passed)
      ∙ ap (λ z. items ++ (codes "}" ++ z)) (open_last names table ps passed ∙ ap (λ z. z ++ end) left_next) in
      open_last names table ps p
      ∙ ap (λ l. left_in names table bytes around l ++ end) is
      ∙ ap (λ z. z ++ end) left_here
      ∙ append_assoc (between_if bytes any) ((codes "{" ++ (items ++ codes "}")) ++ row) end
      ∙ ap (λ z. between_if bytes any ++ z) (append_assoc (codes "{" ++ (items ++ codes "}")) row end ∙ ap (λ z. codes "{" ++ z) (append_assoc items (codes "}") (row ++ end)))
      ∙ sym (append_assoc (between_if bytes any) (codes "{") (items ++ (codes "}" ++ (row ++ end))))
      ∙ ap (λ z. first ++ z) (sym inner)

  counted : ahead_in around (FromMembrane n) ≡ suc (ahead_in m.region.now All) + ahead_in around (FromMembrane (n + 1))
  counted =
      ap (sum_by membrane_count) here
      ∙ sum_by-cons membrane_count m.region.now (drop (n + 1) (out-Region around).membranes)
      ∙ ap (λ k. k + ahead_in around (FromMembrane (n + 1))) (count_inside m.region.now)

  -- the walk goes into a membrane
  pub enter_step : (entered now : ℕ) (before mid after : SinkState) → m.number ≡ entered → now ≤ entered + 1 → Adds (between_if bytes any) before mid → Adds (codes "{") mid after
      → Steps names table (ps ++ p ∷ []) ((ps ++ passed ∷ []) ++ m ∷ []) entered now before after
  enter_step entered now before mid after number less h k = record {
    written = first;
    adds = adds_more (between_if bytes any) (codes "{") before mid after h k;
    rest = enter_rest;
    fewer =
        let a = ap length enter_rest in
        let c = length-append first (left_open names table ((ps ++ passed ∷ []) ++ m ∷ [])) in
        let d = length-append (between_if bytes any) (codes "{") in
        let e = steps_last ps p in
        let f = steps_last (ps ++ passed ∷ []) m in
        let g = steps_last ps passed in
        let i = ap steps_at is in
        let j = ap steps_at all in
        omega (arith, a, c, d, e, f, g, i, j);
    within = λ most w.
        let a = ahead_last ps p in
        let c = ahead_last (ps ++ passed ∷ []) m in
        let d = ahead_last ps passed in
        let e = ap (ahead_in around) is in
        let f = ap (ahead_in m.region.now) all in
        let g = counted in
        let l = w.0 in (
          omega (arith, a, c, d, e, f, g, l, less),
          below_more most (ps ++ passed ∷ []) m (below_more most ps passed (below_rest most ps p w.1) (below_last most ps p w.1)) (omega (arith, a, e, g, l, number)),
        );
  }

-- ---- the end of a membrane

module _ (names : List Name) (table : List RuleTree) (ps : List Place) (p : Place) (n : ℕ) (is : p.left ≡ FromMembrane n) (none : length (out-Region p.region.now).membranes ≤ n) where
  abbrev over : Region
  over = p.region.now

  abbrev rules_row : List ℕ
  rules_row = in_row (between_inside ps) (any_before (out-Region over).atoms n) (map (rule_text names table) (out-Region over).rules)

  leave_rest : left_open names table (ps ++ p ∷ []) ≡ (rules_row ++ end_inside ps) ++ left_open names table ps
  leave_rest =
      open_last names table ps p
      ∙ ap (λ l. left_in names table (between_inside ps) over l ++ (end_inside ps ++ left_open names table ps)) is
      ∙ ap (λ ms. in_row (between_inside ps) (any_before (out-Region over).atoms n) (map (membrane_text names table) ms ++ map (rule_text names table) (out-Region over).rules) ++ (end_inside ps ++ left_open names table ps))
      (drop_all n (out-Region over).membranes none)
      ∙ sym (append_assoc rules_row (end_inside ps) (left_open names table ps))

  -- the walk leaves a membrane
  pub leave_step : (entered : ℕ) (before mid after : SinkState) → Adds rules_row before mid → Adds (end_inside ps) mid after → Steps names table (ps ++ p ∷ []) ps entered entered before after
  leave_step entered before mid after h k = record {
    written = rules_row ++ end_inside ps;
    adds = adds_more rules_row (end_inside ps) before mid after h k;
    rest = leave_rest;
    fewer =
        let a = ap length leave_rest in
        let c = length-append (rules_row ++ end_inside ps) (left_open names table ps) in
        let d = steps_last ps p in
        let e = ap steps_at is in
        omega (arith, a, c, d, e);
    within = λ most w. (let a = ahead_last ps p in let l = w.0 in omega (arith, a, l), below_rest most ps p w.1);
  }

-- ---- the same as the calls say it

-- the atoms by what stands between two of them, and by their list
pub atoms_done : (names : List Name) (table : List RuleTree) (ps now : List Place) (p : Place) (entered : ℕ) (b : List ℕ) (atoms : List SolidAtom) (before after : SinkState) → p.left ≡ All → b ≡ between_inside ps → atoms ≡ (out-Region p.region.now).atoms
    → now ≡ ps ++ with_left (FromMembrane 0) p ∷ [] → Adds (in_row b false (map (solid_atom_text names) atoms)) before after → Steps names table (ps ++ p ∷ []) now entered entered before after
atoms_done names table ps now p entered b atoms before after is bs as' grown h =
    subst (λ qs. Steps names table (ps ++ p ∷ []) qs entered entered before after) (sym grown)
    (atoms_step names table ps p is entered before after
    (subst (λ z. Adds (in_row z false (map (solid_atom_text names) (out-Region p.region.now).atoms)) before after) bs
    (subst (λ xs. Adds (in_row b false (map (solid_atom_text names) xs)) before after) as' h)))

-- a membrane that is entered
pub enter_done : (names : List Name) (table : List RuleTree) (ps grown now : List Place) (p m : Place) (n entered next : ℕ) (b : List ℕ) (any : Bool) (atoms : List SolidAtom) (ms : List Region) (before mid after : SinkState) → p.left ≡ FromMembrane n → m.left ≡ All → m.number ≡ entered
    → n < length (out-Region p.region.now).membranes → ms ≡ (out-Region p.region.now).membranes → m.region.now ≡ slice_index_or ms n m.region.now → b ≡ between_inside ps → atoms ≡ (out-Region p.region.now).atoms → any ≡ any_before atoms n
    → grown ≡ ps ++ with_left (FromMembrane (n + 1)) p ∷ [] → now ≡ grown ++ m ∷ [] → next ≤ entered + 1
    → Adds (between_if b any) before mid → Adds (codes "{") mid after → Steps names table (ps ++ p ∷ []) now entered next before after
enter_done names table ps grown now p m n entered next b any atoms ms before mid after is all number within ms_is there bs as' any_is g e less h k =
    let l : n < length ms = subst (λ xs. n < length xs) (sym ms_is) within in
    subst (λ qs. Steps names table (ps ++ p ∷ []) qs entered next before after) (sym (e ∙ ap (λ qs. qs ++ m ∷ []) g))
    (enter_step names table ps p n is m all (ap (λ xs. slice_get xs n) (sym ms_is) ∙ slice_get-get_or ms n m.region.now l ∙ ap Some (sym there)) entered next before mid after number less
    (subst (λ a. Adds (between_if (between_inside ps) a) before mid) (any_is ∙ ap (λ xs. any_before xs n) as') (subst (λ z. Adds (between_if z any) before mid) bs h)) k)

-- a membrane that is left
pub leave_done : (names : List Name) (table : List RuleTree) (ps : List Place) (p : Place) (n entered : ℕ) (b e : List ℕ) (any : Bool) (atoms : List SolidAtom) (rules : List ℕ) (before mid after : SinkState) → p.left ≡ FromMembrane n
    → length (out-Region p.region.now).membranes ≤ n → b ≡ between_inside ps → atoms ≡ (out-Region p.region.now).atoms → any ≡ any_before atoms n → rules ≡ (out-Region p.region.now).rules → e ≡ end_inside ps
    → Adds (in_row b any (map (rule_text names table) rules)) before mid → Adds e mid after → Steps names table (ps ++ p ∷ []) ps entered entered before after
leave_done names table ps p n entered b e any atoms rules before mid after is none bs as' any_is rules_is end h k =
    leave_step names table ps p n is none entered before mid after
    (subst (λ xs. Adds (in_row (between_inside ps) (any_before (out-Region p.region.now).atoms n) (map (rule_text names table) xs)) before mid) rules_is
    (subst (λ a. Adds (in_row (between_inside ps) a (map (rule_text names table) rules)) before mid) (any_is ∙ ap (λ xs. any_before xs n) as')
    (subst (λ z. Adds (in_row z any (map (rule_text names table) rules)) before mid) bs h)))
    (subst (λ z. Adds z mid after) end k)
