-- The flat rules of small codes compute.
use Rattle.std.proofs.Common.{◌≡◌, ◌<◌, inl, inr, ℕ, List, refl, ap, arith}
use Rattle.std.specs.Prelude.{slice_index_or}
use Rattle.lmn_solid_bodies.specs.declared.items.BodyItem.{BodyItem}
use Rattle.lmn_solid_bodies.specs.declared.items.BodyItem.TheVariants.{Bound}
use Rattle.lmn_solid_heads.specs.declared.items.HeadItem.{HeadItem}
use Rattle.lmn_solid_heads.specs.Heads.{links_of_head}
use Rattle.lmn_congruence_splice.specs.Splice.{IsOneOf}
use Rattle.lmn_verify_laws.specs.Flat.{flat_body}
use Rattle.lmn_verify_laws.specs.FlatExamples.{FlatExamples, added}
use Rattle.lmn_verify_laws.specs.Laws.{SetsFlat}

-- the third link of a head
third : List HeadItem → ℕ
third items = slice_index_or (links_of_head items) 2 0

-- the integer that an item of a body names
integer_of : BodyItem → ℕ
integer_of (Bound v link inside) = v
integer_of _ = 0

-- the body names the third integer alone, and the head sets three
third_named : (v link inside : ℕ) → IsOneOf (Bound v link inside) (flat_body added) → v < 3
unfolding integer_of
third_named v link inside (inl e) = absurd (cc)
third_named v link inside (inr (inl e)) = let f : 2 ≡ v = ap integer_of e in omega (arith, f)
third_named v link inside (inr (inr x)) = absurd x

added_sets : SetsFlat added
added_sets = record { items = record { atoms = refl; membranes = refl; parts = refl }; integers = third_named }

-- The flat rules are as they are told.
pub flat_examples : FlatExamples
unfolding third
flat_examples = record {
  ends = refl;
  connected = refl;
  apart = λ e. (let f : 15 ≡ 14 = ap third e in omega (arith, f));
  links = refl;
  counted = refl;
  made = refl;
  open_ = refl;
  rest = refl;
  parts = refl;
  bound = refl;
  set = added_sets;
  unset = λ w. (let l : 2 < 0 = w.integers 2 12 0 (inr (inl refl)) in omega (arith, l));
}
