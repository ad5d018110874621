-- What is fetched of a shelf.
use Rattle.std.specs.Prelude.{◌≡◌, ◌<◌, ◌≤◌, ℕ, List, ◌++◌, [], true, false, length, min, take, Option, Some, None, Ok, Err, Result, IfOk, IfSome, IsSomeAnd, OnOk, option_map}
use Rattle.std.specs.Result.{is_ok}
use Rattle.std.proofs.Common.{◌∙◌, ap, arith, subst, sym}
use Rattle.std.proofs.lemmas.List.{length-take, take_all}
use Rattle.lmn_io.specs.Texts.{IsFetched}
use Rattle.lmn_io.specs.declared.shelf.Fetched.{Fetched}
use Rattle.lmn_io.specs.declared.shelf.Fetched.TheVariants.{Whole, TooLong}

-- a fetch of a shelf that tells its texts is one of a shelf that doesn't
untold : (told : Option (List ℕ → Option (List ℕ))) (name : List ℕ) (most : ℕ) (f : Fetched) → IsFetched told name most f → IsFetched None name most f
untold told name most (Whole bytes) fetched = (fetched.0, tt)
untold told name most TooLong fetched = tt

pub fetched_untold : {E : Type 0} (result : Result Fetched E) (told : Option (List ℕ → Option (List ℕ))) (name : List ℕ) (most : ℕ)
    → IfOk result (λ f. IsFetched told name most f) → IfOk result (λ f. IsFetched None name most f)
fetched_untold (Ok f) told name most fetched = untold told name most f fetched
fetched_untold (Err e) told name most fetched = tt

-- what holds where a call answered, at a call that did
pub on_ok : {A E : Type 0} (r : Result A E) (P : Type 0) → true ≡ is_ok r → OnOk r P → P
on_ok (Ok a) P e p = p
on_ok (Err a) P e p = let h : true ≡ false = e in cc

-- fewer bytes than the limit are all
whole : (xs bytes : List ℕ) (limit : ℕ) → bytes ≡ take limit xs → length bytes < limit → xs ≡ bytes
whole xs bytes limit e few =
    let short : length (take limit xs) < limit = subst (λ l. length l < limit) e few in
    let counted : length (take limit xs) ≡ min limit (length xs) = length-take limit xs in
    sym (e ∙ take_all limit xs (omega (arith, short, counted)))

-- what was read of a file, up to a limit, are all its bytes, if they are fewer
all_read : (known : Option (List ℕ)) (old bytes name : List ℕ) (limit : ℕ) → old ≡ [] → length bytes < limit
    → IfSome (option_map (take limit) known) (λ xs. bytes ≡ old ++ xs) → IfSome {T = List ℕ → Option (List ℕ)} (option_map (λ xs (_ : List ℕ). Some xs) known) (λ text. text name ≡ Some bytes)
all_read None old bytes name limit none few read = tt
all_read (Some xs) old bytes name limit none few read = ap Some (whole xs bytes limit (read ∙ ap (λ l. l ++ take limit xs) none) few)

-- and a file of which more was read than was asked for is too long
too_long : (known : Option (List ℕ)) (old bytes name : List ℕ) (limit most : ℕ) → old ≡ [] → most < length bytes
    → IfSome (option_map (take limit) known) (λ xs. bytes ≡ old ++ xs) → IfSome {T = List ℕ → Option (List ℕ)} (option_map (λ xs (_ : List ℕ). Some xs) known) (λ text. IsSomeAnd (text name) (λ bytes. most < length bytes))
too_long None old bytes name limit most none many read = tt
too_long (Some xs) old bytes name limit most none many read =
    let same : length bytes ≡ length (take limit xs) = ap length (read ∙ ap (λ l. l ++ take limit xs) none) in
    let counted : length (take limit xs) ≡ min limit (length xs) = length-take limit xs in
    omega (arith, many, same, counted)

-- Bytes were read of a file, of which so much is known, up to a limit beyond those that were asked for.
pub record HasRead (known : Option (List ℕ)) (bytes : List ℕ) (most : ℕ) : Type 0 where
  pub before : Option (List ℕ)
  pub old : List ℕ
  pub limit : ℕ
  pub of : before ≡ known
  pub empty : old ≡ []
  pub below : length bytes ≤ most → length bytes < limit
  pub read : IfSome (option_map (take limit) before) (λ xs. bytes ≡ old ++ xs)

pub read_whole : (known : Option (List ℕ)) (bytes items : List ℕ) (most : ℕ) → HasRead known items most → bytes ≡ items → length items ≤ most → (name : List ℕ) → IsFetched (option_map (λ xs _. Some xs) known) name most (Whole bytes)
read_whole known bytes items most r same few name =
    subst (λ b. IsFetched (option_map (λ xs _. Some xs) known) name most (Whole b)) (sym same) (
      few,
      all_read known r.old items name r.limit r.empty (r.below few) (subst (λ k. IfSome (option_map (take r.limit) k) (λ xs. items ≡ r.old ++ xs)) r.of r.read),
    )

pub read_more : (known : Option (List ℕ)) (items : List ℕ) (most : ℕ) → HasRead known items most → most < length items → (name : List ℕ) → IsFetched (option_map (λ xs _. Some xs) known) name most TooLong
read_more known items most r many name =
    too_long known r.old items name r.limit most r.empty many (subst (λ k. IfSome (option_map (take r.limit) k) (λ xs. items ≡ r.old ++ xs)) r.of r.read)
