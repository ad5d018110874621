-- What follows from writing texts.
use Rattle.std.specs.Prelude.{◌≡◌, ℕ, false, List, [], ◌++◌, Option, Result, Ok, Err}
use Rattle.std.specs.Result.{IsErrAnd}
use Rattle.std.proofs.Common.{◌∙◌, sym, subst, arith}
use Rattle.std.proofs.lemmas.Result.{on_ok_weaker, on_err_weaker}
use Rattle.lmn_io.specs.Counts.{Faults}
use Rattle.lmn_io.specs.Gathering.{Pending, AddsWhere, Adds, nothing_pending, output}
use Rattle.lmn_io.specs.Taking.{Takes, TakesPrefix}
use Rattle.lmn_io.specs.Writing.{Writes, WritesText}
use Rattle.lmn_io.proofs.TakingLemmas.{gathers_part, gathers_takes, no_put, none_more, none_then_last, prefix_after, prefix_more, takes_both, takes_nothing}

-- what was added is written where what is kept back of it is put
pub kept_put : {A E : Type 0} (text : List ℕ) (b : Pending) (kept : List ℕ) (result : Result A E) (told mid new : Option (List ℕ)) (faults count after : Faults) → b.failed ≡ false → kept ≡ b.kept
    → Adds text (output nothing_pending told faults) (output b mid count) → WritesText kept result mid count new after → WritesText text result told faults new after
kept_put text b kept result told mid new faults count after unfailed same adds put =
    let added : AddsWhere false false text (output nothing_pending told faults) (output b mid count) =
    subst (λ failed. AddsWhere false failed text (output nothing_pending told faults) (output b mid count)) unfailed adds.added
    in record {
      took = λ t is. on_ok_weaker result (λ h. subst (λ s. Takes s told new) (sym is) (gathers_takes text b.kept told mid new added.0 h)) (put.took b.kept (sym same));
      prefix = λ t is. on_err_weaker result (λ h. subst (λ s. TakesPrefix s told new) (sym is) (gathers_part text b.kept told mid new added.0 h)) (put.prefix b.kept (sym same));
      later = let first = adds.later in let then' = put.later in omega (arith, first, then');
      same = on_ok_weaker result (none_more faults count after added.1) put.same;
      rose = on_err_weaker result (none_then_last faults count after added.1) put.rose;
    }

-- what is written, by another word for the text
pub writes_as : {A E : Type 0} (P Q : List ℕ → Type 0) (result : Result A E) (told told' : Option (List ℕ)) (n n' : Faults) → ((text : List ℕ) → Q text → P text) → Writes P result told n told' n' → Writes Q result told n told' n'
writes_as P Q result told told' n n' h w = record {
  took = λ text q. w.took text (h text q);
  prefix = λ text q. w.prefix text (h text q);
  later = w.later;
  same = w.same;
  rose = w.rose;
}

-- a text that is the same is written
pub writes_same : {A E : Type 0} (a b : List ℕ) (result : Result A E) (told told' : Option (List ℕ)) (n n' : Faults) → a ≡ b → WritesText a result told n told' n' → WritesText b result told n told' n'
writes_same a b result told told' n n' e w = writes_as (λ t. t ≡ a) (λ t. t ≡ b) result told told' n n' (λ t is. is ∙ sym e) w

-- no byte is written
pub writes_nothing : {A E : Type 0} (P : List ℕ → Type 0) (x : A) (told : Option (List ℕ)) (faults : Faults) → ((text : List ℕ) → P text → text ≡ []) → Writes {A = A} {E = E} P (Ok x) told faults told faults
writes_nothing P x told faults none = record {
  took = λ text p. subst (λ t. Takes t told told) (sym (none text p)) (takes_nothing told);
  prefix = λ text p. tt;
  later = omega arith;
  same = no_put faults;
  rose = tt;
}

-- one text is written, and then another
pub writes_both : {A B D E : Type 0} (P Q R : List ℕ → Type 0) (x : A) (result : Result B E) (old mid new : Option (List ℕ)) (f g k : Faults) → ((text : List ℕ) → R text → (a b : List ℕ) × P a × Q b × (text ≡ a ++ b))
    → Writes {A = A} {E = D} P (Ok x) old f mid g → Writes Q result mid g new k → Writes R result old f new k
writes_both P Q R x result old mid new f g k cut first later = record {
  took = λ text r. let c = cut text r in
      on_ok_weaker result (λ h. subst (λ t. Takes t old new) (sym c.4) (takes_both c.0 c.1 old mid new (first.took c.0 c.2) h)) (later.took c.1 c.3);
  prefix = λ text r. let c = cut text r in
      on_err_weaker result (λ h. subst (λ t. TakesPrefix t old new) (sym c.4) (prefix_after c.0 c.1 old mid new (first.took c.0 c.2) h)) (later.prefix c.1 c.3);
  later = let l = first.later in let m = later.later in omega (arith, l, m);
  same = on_ok_weaker result (none_more f g k first.same) later.same;
  rose = on_err_weaker result (none_then_last f g k first.same) later.rose;
}

-- the front of a text fails
pub writes_front : {A B D E : Type 0} (P R : List ℕ → Type 0) (S : E → Type 0) (d : D) (result : Result B E) (old new : Option (List ℕ)) (f k : Faults) → IsErrAnd result S → ((text : List ℕ) → R text → (a b : List ℕ) × P a × (text ≡ a ++ b))
    → Writes {A = A} {E = D} P (Err d) old f new k → Writes R result old f new k
writes_front P R S d (Ok x) old new f k failed cut first = absurd failed
writes_front P R S d (Err e) old new f k failed cut first = record {
  took = λ text r. tt;
  prefix = λ text r. let c = cut text r in subst (λ t. TakesPrefix t old new) (sym c.3) (prefix_more c.0 c.1 old new (first.prefix c.0 c.2));
  later = first.later;
  same = tt;
  rose = first.rose;
}
