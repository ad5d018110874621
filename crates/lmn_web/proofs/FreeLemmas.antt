-- A cell is freed.
use Rattle.std.proofs.Common.{◌≡◌, ◌≢◌, ℕ, ◌+◌, ◌<◌, ◌^◌, List, [], length, get_or, Option, Some, None, IsSome, refl, sym, ap, subst, ◌∙◌, inl, inr, arith}
use Rattle.std.proofs.lemmas.Bool.{cases_eq}
use Rattle.std.specs.Option.{option_map}
use Rattle.lmn_store_heap.specs.Heap.{alter}
use Rattle.lmn_store_heap.proofs.Listing.{alter_at, alter_away}
use Rattle.lmn_web_cells.specs.Cells.{HeldCell, links_of, numbers_of, ports_of, port_of}
use Rattle.lmn_web_cells.specs.Ports.{partner_by, partner_in}
use Rattle.lmn_web_cells.specs.Runs.{link_in}
use Rattle.lmn_web_cells.specs.Links.{HOME, LEADERS}
use Rattle.lmn_web.specs.declared.kind.CellKind.{CellKind}
use Rattle.lmn_web.specs.Webs.{web_cell, web_with, web_of, list_in, list_link, count_number, number_in, IsLoose}
use Rattle.lmn_web_cells.specs.Numbers.{INDEX, ARITY, KIND, HIGH, LOW}
use Rattle.lmn_web.specs.Kinds.{FILED}
use Rattle.lmn_web.specs.Indexes.{numbers_by, AreSized, IsListed, IsWeb, IsClassed}
use Rattle.lmn_web.proofs.ListedLemmas.{listed_self, listed_beside, web_self, home_same, list_same}
use Rattle.lmn_web.proofs.WebLemmas.{some_back, partner_same}
use Rattle.lmn_web.proofs.RelistLemmas.{in_none}
use Rattle.lmn_web.proofs.Filing.{classed_self, classed_beside}

-- the cells of a web tell their size
pub web_sized : (f : ℕ → Option HeldCell) (made : ℕ) → IsWeb f made → AreSized f
web_sized f made w = record { arity = w.arity; numbers = w.numbers }

module _ (f : ℕ → Option HeldCell) (made : ℕ) (w : IsWeb f made) (a : ℕ) (alone : (k : ℕ) → partner_in f a k ≡ None) (homeless : link_in f a HOME ≡ None) (empty : (k : CellKind) → list_in f a k ≡ []) where
  abbrev g : ℕ → Option HeldCell
  g = alter f a (λ _. None)

  gone : g a ≡ None
  gone = alter_at f a (λ _. None)

  away : (b : ℕ) → b ≢ a → g b ≡ f b
  away b d = alter_away f a (λ _. None) b d

  -- P of what is gone and of what is elsewhere
  each : (P : ℕ → Option HeldCell → Type 0) → P a None → ((b : ℕ) → b ≢ a → P b (f b)) → (b : ℕ) → P b (g b)
  each P at else_ b = elim (cases_eq b a) [
    | inl s ↦ subst (λ m. P m (g m)) (sym s) (subst (P a) (sym gone) at)
    | inr d ↦ subst (P b) (sym (away b d)) (else_ b d)
  ]

  was : (b : ℕ) → IsSome (g b) → IsSome (f b)
  was = each (λ m o. IsSome o → IsSome (f m)) (λ t. absurd cc) (λ m d t. t)

  index_was : (b : ℕ) → IsSome (g b) → number_in g b INDEX ≡ number_in f b INDEX
  index_was = each (λ m o. IsSome o → get_or (numbers_of o) INDEX 0 ≡ number_in f m INDEX) (λ t. absurd cc) (λ m d t. refl)

  partner_was : (b k c j : ℕ) → partner_in g b k ≡ Some (c, j) → (b ≢ a) × (partner_in f b k ≡ Some (c, j))
  partner_was b k c j = each (λ m o. partner_by (port_of o k) ≡ Some (c, j) → (m ≢ a) × (partner_in f m k ≡ Some (c, j))) (λ e. absurd cc) (λ m d e. (d, e)) b

  -- the other end is no port of the cell that goes
  other_end : (b k c j : ℕ) → partner_in f b k ≡ Some (c, j) → c ≢ a
  other_end b k c j e s = let z : ◌≡◌ {A = Option (ℕ × ℕ)} None (Some (b, k)) = sym (alone j) ∙ ap (λ u. partner_in f u j) (sym s) ∙ w.paired.back b k c j e in absurd cc

  freed_lists : IsListed g (list_in f)
  freed_lists = listed_beside f g a (list_in f) w.listed away (λ m k j. in_none f (list_in f) w.listed a homeless m k j) empty
      (λ k. (ap (λ (o : Option HeldCell). get_or (links_of o) (list_link k) None) gone, ap (λ (o : Option HeldCell). get_or (links_of o) (list_link k + 1) None) gone))
      (λ k. ap (λ (o : Option HeldCell). get_or (numbers_of o) (count_number k) 0) gone) (ap (λ (o : Option HeldCell). get_or (links_of o) HOME None) gone)

  -- the others are a web
  pub freed_web : IsWeb g made
  freed_web = record {
    indexed = λ b t. subst (λ i. i < made) (sym (index_was b t)) (w.indexed b (was b t));
    single = λ b c t u e. w.single b c (was b t) (was c u) (sym (index_was b t) ∙ e ∙ index_was c u);
    arity = each (λ m o. IsSome o → get_or (numbers_of o) ARITY 0 ≡ length (ports_of o)) (λ t. absurd cc) (λ m d. w.arity m);
    few = each (λ m o. length (ports_of o) < 256) (omega arith) (λ m d. w.few m);
    numbers = each (λ m o. IsSome o → length (numbers_of o) ≡ numbers_by (get_or (numbers_of o) KIND 0)) (λ t. absurd cc) (λ m d. w.numbers m);
    reaches = λ b k c j e. let p = (partner_was b k c j e).1 in subst (λ (o : Option HeldCell). j < length (ports_of o)) (sym (away c (other_end b k c j p))) (w.reaches b k c j p);
    paired = record {
      back = λ b k c j e. let p = (partner_was b k c j e).1 in ap (λ (o : Option HeldCell). partner_by (port_of o j)) (away c (other_end b k c j p)) ∙ w.paired.back b k c j p;
      apart = λ b k e. w.paired.apart b k (partner_was b k b k e).1;
    };
    listed = listed_self g (list_in f) freed_lists;
  }

  -- with the classes that they had
  pub freed_classed : IsClassed f (list_in f) → IsClassed g (list_in g)
  freed_classed c = classed_self g (list_in f) freed_lists
      (classed_beside f g a (list_in f) away (λ m k j. in_none f (list_in f) w.listed a homeless m k j) empty (ap (λ (o : Option HeldCell). get_or (links_of o) LEADERS None) gone) (subst (λ (o : Option HeldCell). get_or (numbers_of o) LOW 0 < 2 ^ 64) (sym gone) (omega arith))
      (subst (λ (o : Option HeldCell). get_or (numbers_of o) KIND 0 ≡ FILED → get_or (numbers_of o) HIGH 0 ≡ 0) (sym gone) (λ e. refl)) c)

  -- and all but that cell stay
  pub freed_is : web_of g ≡ alter (web_of f) a (λ _. None)
  freed_is = web_self g (list_in f) freed_lists ∙ (λ t b. by b t)
    where
      by : (b : ℕ) → web_with g (list_in f) b ≡ alter (web_of f) a (λ _. None) b
      by b = elim (cases_eq b a) [
        | inl s ↦ subst (λ m. web_with g (list_in f) m ≡ alter (web_of f) a (λ _. None) m) (sym s) (ap (option_map (web_cell (list_in f a))) gone ∙ sym (alter_at (web_of f) a (λ _. None)))
        | inr d ↦ ap (option_map (web_cell (list_in f b))) (away b d) ∙ sym (alter_away (web_of f) a (λ _. None) b d)
      ]

-- a loose cell of the web, in the cells
pub loose_back : (f : ℕ → Option HeldCell) (ys : ℕ → CellKind → List ℕ) → IsListed f ys → (a : ℕ) → IsLoose (web_with f ys) a → IsSome (f a) × ((k : ℕ) → partner_in f a k ≡ None) × (link_in f a HOME ≡ None) × ((k : CellKind) → ys a k ≡ [])
loose_back f ys l a x = (some_back f ys a x.there, λ k. sym (partner_same f ys a k) ∙ x.alone k, sym (home_same f ys a) ∙ x.homeless, λ k. sym (list_same f ys l a k) ∙ x.empty k)
