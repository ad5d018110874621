-- The body of verified code can be committed where that of its flat rule can, if what it drops may be dropped in its order.
use Rattle.std.proofs.Common.{◌≡◌, ◌≤◌, ◌+◌, ◌&&◌, ◌∙◌, inl, inr, ℕ, Bool, true, false, cond, List, [], ◌∷◌, ◌++◌, length, refl, sym, ap, subst, arith, true≢false}
use Rattle.std.specs.List.{list_all}
use Rattle.lmn_base.proofs.Truth.{and_true}
use Rattle.lmn_store_heap.specs.Heap.{Heap, IsMemInPlace, rules_in, spare_of}
use Rattle.lmn_store_heap.specs.Sound.{Valid}
use Rattle.lmn_solid_heads.specs.Heads.{HeadMembrane, membranes_of}
use Rattle.lmn_solid_heads.specs.Embeddings.{Lies}
use Rattle.lmn_solid_bodies.specs.Code.{body_code, drops as body_drops}
use Rattle.lmn_solid_bodies.specs.Running.{Registers, DoesAll, Prepares}
use Rattle.lmn_solid_bodies.specs.Within.{HoldsRests}
use Rattle.lmn_solid_bodies.proofs.Coding.{commits_append, prepares_append, prepares_join}
use Rattle.lmn_machine_commit.specs.Committing.{Runs}
use Rattle.lmn_machine_commit.specs.Matched.{BodiesCanBeCommitted, CanBeCommitted}
use Rattle.lmn_machine_commit.specs.Preparing.{needed, needed_by}
use Rattle.lmn_machine.specs.Costs.{AddsItems, InAll, Leaves, TakesItems}
use Rattle.lmn_instr_code.specs.declared.instr.Code.{Code}
use Rattle.lmn_instr_code.specs.declared.instr.Instr.{Instr}
use Rattle.lmn_instr_code.specs.declared.instr.Instr.TheVariants.{DropCells, NewLink, Relink, Unify, Proceed}
use Rattle.lmn_verify_code.specs.Verified.{IsVerified, drops, membranes_found}
use Rattle.lmn_verify_laws.specs.Flat.{flat_body, flat_head, link_count}
use Rattle.lmn_verify_laws.proofs.Before.{before_ties}
use Rattle.lmn_verify_laws.proofs.Exchanged.{EachTie, IsTurned, SameTie, is_tie}
use Rattle.lmn_verify_laws.proofs.Linking.{is_nested}
use Rattle.lmn_verify_laws.proofs.Shape.{HasShape, made_code, shape, taken_code, ties_code}
use Rattle.lmn_verify_laws.proofs.Turned.{ties_do, ties_run}

-- ---- code in two parts

module _ (r : Registers) where
  runs_split : (xs ys : List Instr) (s : Heap) → Runs r (xs ++ ys) s → Runs r xs s × ((t : Heap) → DoesAll r xs s t → Runs r ys t)
  runs_split [] ys s w = (tt, λ t d. subst (Runs r ys) (sym d) w)
  runs_split (x ∷ xs) ys s w = ((w.0, w.1, λ t d. (runs_split xs ys t (w.2 t d)).0), λ t d. (runs_split xs ys d.0 (w.2 d.0 d.1)).1 t d.2)

  runs_join : (xs ys : List Instr) (s : Heap) → Runs r xs s → ((t : Heap) → DoesAll r xs s t → Runs r ys t) → Runs r (xs ++ ys) s
  runs_join [] ys s w f = f s refl
  runs_join (x ∷ xs) ys s w f = (w.0, w.1, λ t d. runs_join xs ys t (w.2 t d) (λ u e. f u (t, d, e)))

  does_join : (xs ys : List Instr) (s t u : Heap) → DoesAll r xs s t → DoesAll r ys t u → DoesAll r (xs ++ ys) s u
  does_join [] ys s t u d e = subst (λ z. DoesAll r ys z u) d e
  does_join (x ∷ xs) ys s t u d e = (d.0, d.1, does_join xs ys d.0 t u d.2 e)

  -- ---- what makes nothing

  drops_idle : (h : ℕ) (ds : List Instr) (s t : Heap) → list_all (drops h) ds ≡ true → Prepares r ds s t → t ≡ s
  drops_idle h [] s t e p = p
  drops_idle h (DropCells m ∷ ds) s t e p = drops_idle h ds p.0 t (and_true (drops h (DropCells m)) (list_all (drops h) ds) e).1 p.2 ∙ p.1
  drops_idle h (_ ∷ ds) s t e p = absurd (true≢false (sym e))

  ties_idle : (is : List Instr) (s t : Heap) → list_all is_tie is ≡ true → Prepares r is s t → t ≡ s
  ties_idle [] s t e p = p
  ties_idle (NewLink _ _ ∷ is) s t e p = ties_idle is p.0 t e p.2 ∙ p.1
  ties_idle (Relink _ _ ∷ is) s t e p = ties_idle is p.0 t e p.2 ∙ p.1
  ties_idle (Unify _ _ ∷ is) s t e p = ties_idle is p.0 t e p.2 ∙ p.1
  ties_idle (_ ∷ is) s t e p = absurd (true≢false (sym e))

  idle_ties : (is : List Instr) (s : Heap) → list_all is_tie is ≡ true → Prepares r is s s
  idle_ties [] s e = refl
  idle_ties (NewLink _ _ ∷ is) s e = (s, refl, idle_ties is s e)
  idle_ties (Relink _ _ ∷ is) s e = (s, refl, idle_ties is s e)
  idle_ties (Unify _ _ ∷ is) s e = (s, refl, idle_ties is s e)
  idle_ties (_ ∷ is) s e = absurd (true≢false (sym e))

  idle_drops : (k : ℕ) (bs : List HeadMembrane) (s : Heap) → Prepares r (body_drops k bs) s s
  idle_drops k [] s = refl
  idle_drops k (b ∷ bs) s = by b.has_closed_context (idle_drops (k + 1) bs s)
    where
      by : (c : Bool) → Prepares r (body_drops (k + 1) bs) s s → Prepares r (cond c (DropCells k ∷ []) [] ++ body_drops (k + 1) bs) s s
      by true p = (s, refl, p)
      by false p = p

  -- ---- what needs no room

  module _ (rules : ℕ → List ℕ) (x : ℕ) where
    needed_append : (xs ys : List Instr) → needed r rules (xs ++ ys) x ≡ needed r rules xs x + needed r rules ys x
    needed_append [] ys = omega arith
    needed_append (i ∷ xs) ys = let e = needed_append xs ys in let l : needed_by r rules i x + needed r rules (xs ++ ys) x ≡ (needed_by r rules i x + needed r rules xs x) + needed r rules ys x = omega (arith, e) in l

    nothing : (is : List Instr) → needed r rules is x ≡ 0 → 0 + needed r rules is x ≡ 0
    nothing is e = omega (arith, e)

    drops_need : (h : ℕ) (ds : List Instr) → list_all (drops h) ds ≡ true → needed r rules ds x ≡ 0
    drops_need h [] e = refl
    drops_need h (DropCells m ∷ ds) e = nothing ds (drops_need h ds (and_true (drops h (DropCells m)) (list_all (drops h) ds) e).1)
    drops_need h (_ ∷ ds) e = absurd (true≢false (sym e))

    ties_need : (is : List Instr) → list_all is_tie is ≡ true → needed r rules is x ≡ 0
    ties_need [] e = refl
    ties_need (NewLink _ _ ∷ is) e = nothing is (ties_need is e)
    ties_need (Relink _ _ ∷ is) e = nothing is (ties_need is e)
    ties_need (Unify _ _ ∷ is) e = nothing is (ties_need is e)
    ties_need (_ ∷ is) e = absurd (true≢false (sym e))

    body_drops_need : (k : ℕ) (bs : List HeadMembrane) → needed r rules (body_drops k bs) x ≡ 0
    body_drops_need k [] = refl
    body_drops_need k (b ∷ bs) = by b.has_closed_context (body_drops_need (k + 1) bs)
      where
        by : (c : Bool) → needed r rules (body_drops (k + 1) bs) x ≡ 0 → needed r rules (cond c (DropCells k ∷ []) [] ++ body_drops (k + 1) bs) x ≡ 0
        by true e = nothing (body_drops (k + 1) bs) e
        by false e = e

pub each_ties : (is js : List Instr) → EachTie is js → list_all is_tie is ≡ true → list_all is_tie js ≡ true
each_ties [] [] e t = refl
each_ties [] (j ∷ js) e t = absurd e
each_ties (i ∷ is) [] e t = absurd e
each_ties (i ∷ is) (j ∷ js) e t = let a = and_true (is_tie i) (list_all is_tie is) t in let u = turned i j e.0 a.0 in let w = each_ties is js e.1 a.1 in λ l. u l && w l
  where
    exchanged : (i j : Instr) → IsTurned i j → is_tie j ≡ true
    exchanged (NewLink p q) j e = ap is_tie e
    exchanged (Unify p q) j e = ap is_tie e
    exchanged _ j e = absurd e

    turned : (i j : Instr) → SameTie i j → is_tie i ≡ true → is_tie j ≡ true
    turned i j (inl s) e = ap is_tie (sym s) ∙ e
    turned i j (inr s) e = exchanged i j s

-- ---- sums

module _ (P : Instr → ℕ → Type 0) where
  sum_split : (xs ys : List Instr) (n : ℕ) → InAll P (xs ++ ys) n → (a b : ℕ) × (InAll P xs a × InAll P ys b × (n ≡ a + b))
  sum_split [] ys n w = (0, n, (refl, w, omega arith))
  sum_split (x ∷ xs) ys n w =
      let u = sum_split xs ys w.1 w.2.1 in
      let e = w.2.2 in
      let f = u.2.2 in
      (w.0 + u.0, u.1, ((w.0, u.0, (w.2.0, u.2.0, refl)), u.2.1, omega (arith, e, f)))

  sum_join : (xs ys : List Instr) (a b : ℕ) → InAll P xs a → InAll P ys b → InAll P (xs ++ ys) (a + b)
  sum_join [] ys a b u w = let e : b ≡ a + b = omega (arith, u) in subst (InAll P ys) e w
  sum_join (x ∷ xs) ys a b u w = (u.0, u.1 + b, (u.2.0, sum_join xs ys u.1 b u.2.1 w, let e = u.2.2 in omega (arith, e)))

ties_add : (h : Heap) (r : Registers) (is : List Instr) → list_all is_tie is ≡ true → InAll (AddsItems h r) is 0 × InAll (TakesItems h r) is 0
ties_add h r [] e = (refl, refl)
ties_add h r (NewLink _ _ ∷ is) e = let w = ties_add h r is e in ((0, 0, (refl, w.0, refl)), (0, 0, (refl, w.1, refl)))
ties_add h r (Relink _ _ ∷ is) e = let w = ties_add h r is e in ((0, 0, (refl, w.0, refl)), (0, 0, (refl, w.1, refl)))
ties_add h r (Unify _ _ ∷ is) e = let w = ties_add h r is e in ((0, 0, (refl, w.0, refl)), (0, 0, (refl, w.1, refl)))
ties_add h r (_ ∷ is) e = absurd (true≢false (sym e))

ties_zero : (h : Heap) (r : Registers) (is : List Instr) (n : ℕ) → list_all is_tie is ≡ true → (InAll (AddsItems h r) is n → n ≡ 0) × (InAll (TakesItems h r) is n → n ≡ 0)
ties_zero h r [] n e = ((λ w. w), (λ w. w))
ties_zero h r (NewLink _ _ ∷ is) n e = ((λ w. let f = (ties_zero h r is w.1 e).0 w.2.1 in let a = w.2.0 in let b = w.2.2 in omega (arith, f, a, b)), (λ w. let f = (ties_zero h r is w.1 e).1 w.2.1 in let a = w.2.0 in let b = w.2.2 in omega (arith, f, a, b)))
ties_zero h r (Relink _ _ ∷ is) n e = ((λ w. let f = (ties_zero h r is w.1 e).0 w.2.1 in let a = w.2.0 in let b = w.2.2 in omega (arith, f, a, b)), (λ w. let f = (ties_zero h r is w.1 e).1 w.2.1 in let a = w.2.0 in let b = w.2.2 in omega (arith, f, a, b)))
ties_zero h r (Unify _ _ ∷ is) n e = ((λ w. let f = (ties_zero h r is w.1 e).0 w.2.1 in let a = w.2.0 in let b = w.2.2 in omega (arith, f, a, b)), (λ w. let f = (ties_zero h r is w.1 e).1 w.2.1 in let a = w.2.0 in let b = w.2.2 in omega (arith, f, a, b)))
ties_zero h r (_ ∷ is) n e = absurd (true≢false (sym e))

drops_add : (h : Heap) (r : Registers) (l : ℕ) (ds : List Instr) → list_all (drops l) ds ≡ true → InAll (AddsItems h r) ds 0
drops_add h r l [] e = refl
drops_add h r l (DropCells m ∷ ds) e = (0, 0, (refl, drops_add h r l ds (and_true (drops l (DropCells m)) (list_all (drops l) ds) e).1, refl))
drops_add h r l (_ ∷ ds) e = absurd (true≢false (sym e))

body_drops_zero : (h : Heap) (r : Registers) (k : ℕ) (bs : List HeadMembrane) (n : ℕ) → InAll (AddsItems h r) (body_drops k bs) n → n ≡ 0
body_drops_zero h r k [] n w = w
body_drops_zero h r k (b ∷ bs) n w = by b.has_closed_context w (λ m u. body_drops_zero h r (k + 1) bs m u)
  where
    by : (c : Bool) → InAll (AddsItems h r) (cond c (DropCells k ∷ []) [] ++ body_drops (k + 1) bs) n → ((m : ℕ) → InAll (AddsItems h r) (body_drops (k + 1) bs) m → m ≡ 0) → n ≡ 0
    by true w more = let f = more w.1 w.2.1 in let a = w.2.0 in let b = w.2.2 in omega (arith, f, a, b)
    by false w more = more n w

-- ---- a verified body

module _ (code : Code) (k : ℕ) (v : IsVerified code k) (h : Heap) (valid : Valid h) (m : ℕ) (place : IsMemInPlace h m) (r : Registers) (lies : Lies h (flat_head code) m r.head.images) (rests : HoldsRests h r (flat_head code)) where
  abbrev pub D : List Instr
  D = body_drops 1 (membranes_of (flat_head code))

  abbrev pub B : List Instr
  B = body_code (flat_head code) (flat_body code) (link_count code)

  abbrev S : HasShape code k v
  S = shape code k v

  abbrev P : List Instr
  P = Proceed ∷ []

  -- What is dropped does the same in both orders.
  pub record DropsSame (w : Heap) : Type 0 where
    pub runs : Runs r D w → Runs r S.dropped w
    pub does : (u : Heap) → DoesAll r S.dropped w u → DoesAll r D w u

  tied_all : list_all is_tie (ties_code code k v) ≡ true
  tied_all = each_ties S.tied (ties_code code k v) S.same_ties S.ties_all

  -- What the body of the code makes, that of the flat rule does.
  pub prepared : (s : Heap) → Prepares r code.body h s → Prepares r B h s
  prepared s p =
      let a = prepares_append r (taken_code code k v) (made_code code k v ++ (S.dropped ++ (S.tied ++ P))) h s (subst (λ l. Prepares r l h s) S.whole p) in
      let b = prepares_append r (made_code code k v) (S.dropped ++ (S.tied ++ P)) a.0 s a.2 in
      let c = prepares_append r S.dropped (S.tied ++ P) b.0 s b.2 in
      let d = prepares_append r S.tied P c.0 s c.2 in
      let idle : d.0 ≡ b.0 = ties_idle r S.tied c.0 d.0 S.ties_all d.1 ∙ drops_idle r (1 + length (membranes_found code.head)) S.dropped b.0 c.0 S.drops_all c.1 in
      prepares_join r (taken_code code k v) (made_code code k v ++ (D ++ (ties_code code k v ++ P))) h a.0 s a.1
      (prepares_join r (made_code code k v) (D ++ (ties_code code k v ++ P)) a.0 b.0 s b.1
      (prepares_join r D (ties_code code k v ++ P) b.0 b.0 s (idle_drops r 1 (membranes_of (flat_head code)) b.0)
      (prepares_join r (ties_code code k v) P b.0 b.0 s (idle_ties r (ties_code code k v) b.0 tied_all) (subst (λ z. Prepares r P z s) idle d.2))))

  same_need : (x : ℕ) → needed r (rules_in h) B x ≡ needed r (rules_in h) code.body x
  same_need x =
      let n = needed_append r (rules_in h) x in
      let T = taken_code code k v in
      let M = made_code code k v in
      let L = ties_code code k v in
      let a = n T (M ++ (D ++ (L ++ P))) in
      let b = n M (D ++ (L ++ P)) in
      let c = n D (L ++ P) in
      let d = n L P in
      let e = body_drops_need r (rules_in h) x 1 (membranes_of (flat_head code)) in
      let f = ties_need r (rules_in h) x L tied_all in
      let a' = n T (M ++ (S.dropped ++ (S.tied ++ P))) in
      let b' = n M (S.dropped ++ (S.tied ++ P)) in
      let c' = n S.dropped (S.tied ++ P) in
      let d' = n S.tied P in
      let e' = drops_need r (rules_in h) x (1 + length (membranes_found code.head)) S.dropped S.drops_all in
      let f' = ties_need r (rules_in h) x S.tied S.ties_all in
      let w = ap (λ l. needed r (rules_in h) l x) S.whole in
      omega (arith, a, b, c, d, e, f, a', b', c', d', e', f', w)

  module _ (same : (s : Heap) → Prepares r B h s → (w : Heap) → DoesAll r (taken_code code k v ++ made_code code k v) s w → DropsSame w) where
    -- The body of the flat rule can be run, so that of the code can.
    runs_too : (s : Heap) → Prepares r B h s → Runs r B s → Runs r code.body s
    runs_too s p w =
        let T = taken_code code k v in
        let M = made_code code k v in
        let L = ties_code code k v in
        let a = runs_split r T (M ++ (D ++ (L ++ P))) s w in
        subst (λ l. Runs r l s) (sym S.whole)
        (runs_join r T (M ++ (S.dropped ++ (S.tied ++ P))) s a.0 (λ t dt.
        let b = runs_split r M (D ++ (L ++ P)) t (a.1 t dt) in
        runs_join r M (S.dropped ++ (S.tied ++ P)) t b.0 (λ n dn.
        let c = runs_split r D (L ++ P) n (b.1 n dn) in
        let both = same s p n (does_join r T M s t n dt dn) in
        runs_join r S.dropped (S.tied ++ P) n (both.runs c.0) (λ u du.
        let dd = both.does u du in
        let ties = before_ties (flat_head code) (flat_body code) (link_count code) (is_nested code k v) r h valid m lies rests place s p u (does_join r T (M ++ D) s t u dt (does_join r M D t n u dn dd)) in
        ties_run r S.tied L P u S.same_ties S.ties_all ties.0 (c.1 u dd)))))

    -- And it does the same, whatever room its membranes have for rules.
    pub does_too : (s t : Heap) → Prepares r B h s → DoesAll r code.body s t → DoesAll r B s t
    does_too s t p d =
        let T = taken_code code k v in
        let M = made_code code k v in
        let L = ties_code code k v in
        let da = commits_append r T (M ++ (S.dropped ++ (S.tied ++ P))) s t (subst (λ l. DoesAll r l s t) S.whole d) in
        let db = commits_append r M (S.dropped ++ (S.tied ++ P)) da.0 t da.2 in
        let dc = commits_append r S.dropped (S.tied ++ P) db.0 t db.2 in
        let dd = (same s p db.0 (does_join r T M s da.0 db.0 da.1 db.1)).does dc.0 dc.1 in
        let ties = before_ties (flat_head code) (flat_body code) (link_count code) (is_nested code k v) r h valid m lies rests place s p dc.0 (does_join r T (M ++ D) s da.0 dc.0 da.1 (does_join r M D da.0 db.0 dc.0 db.1 dd)) in
        does_join r T (M ++ (D ++ (L ++ P))) s da.0 t da.1 (does_join r M (D ++ (L ++ P)) da.0 db.0 t db.1 (does_join r D (L ++ P) db.0 dc.0 t dd (ties_do r S.tied L P dc.0 t S.same_ties S.ties_all ties.0 ties.1 dc.2)))

    pub commits : BodiesCanBeCommitted → CanBeCommitted r code.body h
    commits law s p spares room =
        let q = prepared s p in
        let w = law (flat_head code) (flat_body code) (link_count code) (is_nested code k v) h valid m place r lies rests s q spares (λ x. subst (λ n. n ≤ spare_of s x) (sym (same_need x)) (room x)) in
        (runs_too s q w.0, λ t d. w.1 t (does_too s t q d))

  -- ---- the cost

  adds_too : (n : ℕ) → InAll (AddsItems h r) B n → InAll (AddsItems h r) code.body n
  adds_too n w =
      let Q = AddsItems h r in
      let T = taken_code code k v in
      let M = made_code code k v in
      let L = ties_code code k v in
      let a = sum_split Q T (M ++ (D ++ (L ++ P))) n w in
      let b = sum_split Q M (D ++ (L ++ P)) a.1 a.2.1 in
      let c = sum_split Q D (L ++ P) b.1 b.2.1 in
      let d = sum_split Q L P c.1 c.2.1 in
      let ea = a.2.2 in let eb = b.2.2 in let ec = c.2.2 in let ed = d.2.2 in
      let zd = body_drops_zero h r 1 (membranes_of (flat_head code)) c.0 c.2.0 in
      let zt = (ties_zero h r L d.0 tied_all).0 d.2.0 in
      let e : a.0 + (b.0 + (0 + (0 + d.1))) ≡ n = omega (arith, ea, eb, ec, ed, zd, zt) in
      subst (λ l. InAll Q l n) (sym S.whole) (subst (InAll Q (T ++ (M ++ (S.dropped ++ (S.tied ++ P))))) e
      (sum_join Q T (M ++ (S.dropped ++ (S.tied ++ P))) a.0 (b.0 + (0 + (0 + d.1))) a.2.0 (sum_join Q M (S.dropped ++ (S.tied ++ P)) b.0 (0 + (0 + d.1)) b.2.0
      (sum_join Q S.dropped (S.tied ++ P) 0 (0 + d.1) (drops_add h r (1 + length (membranes_found code.head)) S.dropped S.drops_all) (sum_join Q S.tied P 0 d.1 (ties_add h r S.tied S.ties_all).0 d.2.1)))))

  module _ (takes : (n : ℕ) → InAll (TakesItems h r) D n → InAll (TakesItems h r) S.dropped n) where
    takes_too : (n : ℕ) → InAll (TakesItems h r) B n → InAll (TakesItems h r) code.body n
    takes_too n w =
        let Q = TakesItems h r in
        let T = taken_code code k v in
        let M = made_code code k v in
        let L = ties_code code k v in
        let a = sum_split Q T (M ++ (D ++ (L ++ P))) n w in
        let b = sum_split Q M (D ++ (L ++ P)) a.1 a.2.1 in
        let c = sum_split Q D (L ++ P) b.1 b.2.1 in
        let d = sum_split Q L P c.1 c.2.1 in
        let ea = a.2.2 in let eb = b.2.2 in let ec = c.2.2 in let ed = d.2.2 in
        let zt = (ties_zero h r L d.0 tied_all).1 d.2.0 in
        let e : a.0 + (b.0 + (c.0 + (0 + d.1))) ≡ n = omega (arith, ea, eb, ec, ed, zt) in
        subst (λ l. InAll Q l n) (sym S.whole) (subst (InAll Q (T ++ (M ++ (S.dropped ++ (S.tied ++ P))))) e
        (sum_join Q T (M ++ (S.dropped ++ (S.tied ++ P))) a.0 (b.0 + (c.0 + (0 + d.1))) a.2.0 (sum_join Q M (S.dropped ++ (S.tied ++ P)) b.0 (c.0 + (0 + d.1)) b.2.0
        (sum_join Q S.dropped (S.tied ++ P) c.0 (0 + d.1) (takes c.0 c.2.0) (sum_join Q S.tied P 0 d.1 (ties_add h r S.tied S.ties_all).1 d.2.1)))))

    pub leaves : (n : ℕ) → Leaves h r B n → Leaves h r code.body n
    leaves n w = record { added = w.added; taken = w.taken; adds = adds_too w.added w.adds; takes = takes_too w.taken w.takes; count = w.count }
