-- A list of names, and the set that holds those after the fixed ones.
use Rattle.std.proofs.Common.{◌≡◌, ◌≢◌, ℕ, ◌||◌, List, [], ◌∷◌, ◌++◌, length, map, Bool, true, false, Option, Some, None, IfSome, IfNone, Contains, refl, sym, ap, subst, ◌∙◌, true≢false, is_some, slice_get, get_or}
use Rattle.std.proofs.lemmas.Option.{slice_get-map, slice_get-get_or}
use Rattle.std.proofs.lemmas.List.Elements.{Contains-get_or, Contains-append_right}
use Rattle.std.proofs.lemmas.List.Quantifiers.{position-Some, all_pairs_push}
use Rattle.std.proofs.lemmas.Map.Views.{list_any-from_Contains, Contains-from_any}
use Rattle.std.proofs.lemmas.Slice.Eq.{bytes_eq-Decides}
use Rattle.std.specs.Cmp.Lexicographic.{nat_list_eq_equiv}
use Rattle.std.specs.Str.{bytes_eq}
use Rattle.std.specs.List.{list_any, position}
use Rattle.std.specs.Option.{option_map}
use Rattle.indexmap.specs.IndexSet.{insert_key}
use Rattle.lmn_base.specs.Names.{first_names, IsNames}

module _ {V : Type 0} (text : V → List ℕ) (name : List ℕ) where
  -- the place that a search for a text answers
  pub found : (vs : List V) (r : Option ℕ) → r ≡ position (λ v. bytes_eq name (text v)) vs → IfSome r (λ n. slice_get (map text vs) n ≡ Some name)
  found vs None e = tt
  found [] (Some i) e = absurd (cc)
  found (v ∷ vs) (Some i) e =
      let p = position-Some (λ u. bytes_eq name (text u)) (v ∷ vs) i v (sym e) in
      slice_get-map text (v ∷ vs) i ∙ ap (option_map text) (slice_get-get_or (v ∷ vs) i v p.0)
      ∙ ap Some (sym ((bytes_eq-Decides name (text (get_or (v ∷ vs) i v))).0 p.1))

  any_map : (vs : List V) → list_any (λ v. bytes_eq name (text v)) vs ≡ list_any (bytes_eq name) (map text vs)
  any_map [] = refl
  any_map (v ∷ vs) = ap (λ b. bytes_eq name (text v) || b) (any_map vs)

  -- a search that answers no place
  pub not_found : (vs : List V) (r : Option ℕ) → is_some r ≡ list_any (λ v. bytes_eq name (text v)) vs → IfNone r (¬ (Contains (map text vs) name))
  not_found vs None e = λ there. true≢false (sym (list_any-from_Contains nat_list_eq_equiv name (map text vs) there) ∙ sym (any_map vs) ∙ sym e)
  not_found vs (Some i) e = tt

  pub none_any : (vs : List V) → ¬ (Contains (map text vs) name) → list_any (λ v. bytes_eq name (text v)) vs ≡ false
  none_any vs absent = by (list_any (λ v. bytes_eq name (text v)) vs) refl
    where
      by : (b : Bool) → list_any (λ v. bytes_eq name (text v)) vs ≡ b → b ≡ false
      by true e = absurd (absent (Contains-from_any (λ x y. (bytes_eq-Decides x y).0) name (map text vs) (sym (any_map vs) ∙ e)))
      by false e = refl

-- a list of names with one more, which wasn't there
pub one_more : (names : List (List ℕ)) (name : List ℕ) → IsNames names → ¬ (Contains names name) → IsNames (names ++ name ∷ [])
one_more names name old absent = record {
  begins = (old.begins.0 ++ name ∷ [], ap (λ l. l ++ name ∷ []) old.begins.1);
  once = all_pairs_push (λ m n. m ≢ n) names name old.once (λ k d within e. absent (subst (Contains names) e (Contains-get_or names k d within)));
}

-- a name that isn't in the list is not among the others
pub other_absent : (others : List (List ℕ)) (name : List ℕ) → ¬ (Contains (first_names ++ others) name) → ¬ (Contains others name)
other_absent others name absent = λ there. absent (Contains-append_right first_names others name there)

-- a name that is added behind stands at the old length
pub get_last : (xs : List (List ℕ)) (y : List ℕ) → slice_get (xs ++ y ∷ []) (length xs) ≡ Some y
get_last [] y = refl
get_last (x ∷ xs) y = get_last xs y

texts_more : {V : Type 0} (text : V → List ℕ) (vs : List V) (v : V) → map text (vs ++ v ∷ []) ≡ map text vs ++ text v ∷ []
texts_more text [] v = refl
texts_more text (u ∷ vs) v = ap (λ w. text u ∷ w) (texts_more text vs v)

-- the texts of a set after a new one went in
pub added : {V : Type 0} (text : V → List ℕ) (old new : List V) (v : V) (name : List ℕ) → new ≡ insert_key (λ x y. bytes_eq (text x) (text y)) old v → text v ≡ name
    → ¬ (Contains (map text old) name) → map text new ≡ map text old ++ name ∷ []
added text old new v name inserted same absent =
    let none : list_any (λ u. bytes_eq (text v) (text u)) old ≡ false = rw same (none_any text name old absent) in
    let last : new ≡ old ++ v ∷ [] = inserted ∙ rw none refl in
    ap (map text) last ∙ texts_more text old v ∙ ap (λ w. map text old ++ w ∷ []) same
