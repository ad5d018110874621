-- What code of heads is verified for, whatever the head.
use Rattle.std.specs.Prelude.{◌≡◌, true, List}
use Rattle.lmn_base.specs.declared.guard.Cond.{Cond}
use Rattle.lmn_solid_heads.specs.declared.items.HeadItem.{HeadItem}
use Rattle.lmn_instr_code.specs.HeadCode.{head_code}
use Rattle.lmn_verify_code.specs.Verified.{is_head, all_looked_at, finds_first, each_two, are_apart, are_apart_membranes, atoms_found, membranes_found}

-- The code of each head has instructions of a head, and COMMIT, which ends it and stands once.
abbrev pub HeadCodeIsHead : Type 0
HeadCodeIsHead = (items : List HeadItem) (guard : List Cond) → is_head (head_code items guard) ≡ true

-- And each DEREF in it is directly followed by FUNC and INMEM of its register.
abbrev pub HeadCodeLooks : Type 0
HeadCodeLooks = (items : List HeadItem) (guard : List Cond) → all_looked_at (head_code items guard) ≡ true

-- And in it atoms and membranes are found before typed contexts are looked at, anything is counted, and before it is asked whether a link
-- leaves a rest.
abbrev pub HeadCodeFindsFirst : Type 0
HeadCodeFindsFirst = (items : List HeadItem) (guard : List Cond) → finds_first (head_code items guard) ≡ true

-- And two atoms of one functor in one membrane are told apart,
abbrev pub HeadCodeTellsApart : Type 0
HeadCodeTellsApart = (items : List HeadItem) (guard : List Cond) → each_two (are_apart (head_code items guard)) (atoms_found (head_code items guard)) ≡ true

-- and two membranes in one.
abbrev pub HeadCodeTellsMembranesApart : Type 0
HeadCodeTellsMembranesApart = (items : List HeadItem) (guard : List Cond) → each_two (are_apart_membranes (head_code items guard)) (membranes_found (head_code items guard)) ≡ true
