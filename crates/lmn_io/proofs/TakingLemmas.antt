-- What follows from several puts in a row.
use Rattle.std.specs.Prelude.{◌≡◌, ℕ, ◌+◌, ◌<◌, ◌≤◌, Bool, true, false, List, [], ◌∷◌, ◌++◌, length, take, Option, Some, None}
use Rattle.std.specs.List.{flat_map}
use Rattle.std.proofs.Common.{ap, ◌∙◌, append_assoc, append-nil, sym, refl, subst, get_or, arith}
use Rattle.std.proofs.lemmas.List.{take_all, take_more}
use Rattle.std.proofs.lemmas.List.Concat.{flat_map-append}
use Rattle.lmn_io.specs.Counts.{FailedLast, Faults, NoneFailed, one_more}
use Rattle.lmn_io.specs.Taking.{Takes, TakesPrefix, Gathers}
use Rattle.lmn_io.specs.Gathering.{SinkState, AddsWhere, Adds}

-- a prefix of a piece is one of a longer piece
pub prefix_more : (a b : List ℕ) (old new : Option (List ℕ)) → TakesPrefix a old new → TakesPrefix (a ++ b) old new
prefix_more a b None new taken = taken
prefix_more a b (Some old) new taken = (taken.0, taken.1 ++ b, ap (λ x. x ++ b) taken.2 ∙ append_assoc taken.0 taken.1 b, taken.3)

-- nothing is taken, and all is kept back
pub nothing_taken : (a : List ℕ) (old : Option (List ℕ)) → Gathers a old a old
nothing_taken a None = refl
nothing_taken a (Some old) = ([], refl, rw append-nil refl)

-- what was taken whole is gathered, and nothing is kept back
pub takes_gathers : (a : List ℕ) (old new : Option (List ℕ)) → Takes a old new → Gathers a old [] new
takes_gathers a None new taken = taken
takes_gathers a (Some old) new taken = (a, rw append-nil refl, taken)

-- one piece is gathered, and then another behind what was kept back
pub gathers_more : (a b kept kept' : List ℕ) (old mid new : Option (List ℕ)) → Gathers a old kept mid → Gathers (kept ++ b) mid kept' new → Gathers (a ++ b) old kept' new
gathers_more a b kept kept' None mid new first later = let then' : Gathers (kept ++ b) None kept' new = rw first at later in then'
gathers_more a b kept kept' (Some old) mid new first later =
    let then' : Gathers (kept ++ b) (Some (old ++ first.0)) kept' new = rw first.2 at later in (
      first.0 ++ then'.0,
      ap (λ x. x ++ b) first.1 ∙ append_assoc first.0 kept b ∙ ap (λ x. first.0 ++ x) then'.1 ∙ sym (append_assoc first.0 then'.0 kept'),
      then'.2 ∙ ap Some (append_assoc old first.0 then'.0),
    )

-- what was kept back is taken
pub gathers_takes : (a kept : List ℕ) (old mid new : Option (List ℕ)) → Gathers a old kept mid → Takes kept mid new → Takes a old new
gathers_takes a kept None mid new first later = let then' : Takes kept None new = rw first at later in then'
gathers_takes a kept (Some old) mid new first later =
    let then' : Takes kept (Some (old ++ first.0)) new = rw first.2 at later in
    then' ∙ ap Some (append_assoc old first.0 kept ∙ ap (λ x. old ++ x) (sym first.1))

-- a prefix of what was kept back and of more is taken
pub gathers_prefix : (a b kept : List ℕ) (old mid new : Option (List ℕ)) → Gathers a old kept mid → TakesPrefix (kept ++ b) mid new → TakesPrefix (a ++ b) old new
gathers_prefix a b kept None mid new first later = let then' : TakesPrefix (kept ++ b) None new = rw first at later in then'
gathers_prefix a b kept (Some old) mid new first later =
    let then' : TakesPrefix (kept ++ b) (Some (old ++ first.0)) new = rw first.2 at later in (
      first.0 ++ then'.0,
      then'.1,
      ap (λ x. x ++ b) first.1 ∙ append_assoc first.0 kept b ∙ ap (λ x. first.0 ++ x) then'.2 ∙ sym (append_assoc first.0 then'.0 then'.1),
      then'.3 ∙ ap Some (append_assoc old first.0 then'.0),
    )

-- a prefix of what was kept back is taken
pub gathers_part : (a kept : List ℕ) (old mid new : Option (List ℕ)) → Gathers a old kept mid → TakesPrefix kept mid new → TakesPrefix a old new
gathers_part a kept None mid new first later = let then' : TakesPrefix kept None new = rw first at later in then'
gathers_part a kept (Some old) mid new first later =
    let then' : TakesPrefix kept (Some (old ++ first.0)) new = rw first.2 at later in (
      first.0 ++ then'.0,
      then'.1,
      first.1 ∙ ap (λ x. first.0 ++ x) then'.2 ∙ sym (append_assoc first.0 then'.0 then'.1),
      then'.3 ∙ ap Some (append_assoc old first.0 then'.0),
    )

-- one piece is taken, and another is kept back behind it
pub kept_behind : (a b kept : List ℕ) (old mid : Option (List ℕ)) → kept ≡ b → Takes a old mid → Gathers (a ++ b) old kept mid
kept_behind a b kept old mid behind first =
    subst (λ k. Gathers (a ++ b) old k mid) (sym behind) (gathers_more a b [] b old mid mid (takes_gathers a old mid first) (nothing_taken b mid))

-- one piece is taken, and then another, behind which nothing is kept back
pub takes_more : (a b kept : List ℕ) (old mid new : Option (List ℕ)) → kept ≡ [] → Takes a old mid → Takes b mid new → Gathers (a ++ b) old kept new
takes_more a b kept old mid new none first later =
    rw none (gathers_more a b [] [] old mid new (takes_gathers a old mid first) (takes_gathers b mid new later))

-- one piece is taken, and then another
pub takes_both : (a b : List ℕ) (old mid new : Option (List ℕ)) → Takes a old mid → Takes b mid new → Takes (a ++ b) old new
takes_both a b old mid new first later = gathers_takes (a ++ b) b old mid new (kept_behind a b b old mid refl first) later

-- one piece is taken, and then a prefix of another
pub prefix_after : (a b : List ℕ) (old mid new : Option (List ℕ)) → Takes a old mid → TakesPrefix b mid new → TakesPrefix (a ++ b) old new
prefix_after a b old mid new first later = gathers_prefix a b [] old mid new (takes_gathers a old mid first) later

-- no byte is taken
pub takes_nothing : (told : Option (List ℕ)) → Takes [] told told
takes_nothing None = refl
takes_nothing (Some old) = rw append-nil refl

-- no put was asked for
pub no_put : (f : Faults) → NoneFailed f f
no_put f = (refl, omega arith)

-- no put failed, and then none again
pub none_more : (f g h : Faults) → NoneFailed f g → NoneFailed g h → NoneFailed f h
none_more f g h first later = (later.0 ∙ first.0, let l = first.1 in let m = later.1 in omega (arith, l, m))

-- no put failed, and then the last did
pub none_then_last : (f g h : Faults) → NoneFailed f g → FailedLast g h → FailedLast f h
none_then_last f g h first last = last ∙ ap (λ n. record { count = one_more n; since = 0 }) first.0

-- what a sink has taken, piece by piece, and what it counts
pub ruleset taking = (prefix_more, nothing_taken, takes_nothing, takes_more, prefix_after, gathers_more, gathers_takes, gathers_prefix, gathers_part, no_put, none_more, none_then_last)

unchanged : (failed : Bool) (o : SinkState) → AddsWhere failed failed [] o o
unchanged true o = refl
unchanged false o = (rw append-nil (nothing_taken o.pending.kept o.told), no_put o.faults)

-- nothing was added
pub adds_nothing : (o : SinkState) → Adds [] o o
adds_nothing o = record { added = unchanged o.pending.failed o; later = omega arith }

more : (a b : List ℕ) (before mid after : SinkState) (f f' f'' : Bool) → before.pending.failed ≡ f → mid.pending.failed ≡ f' → after.pending.failed ≡ f''
    → AddsWhere f f' a before mid → AddsWhere f' f'' b mid after → AddsWhere f f'' (a ++ b) before after
more a b before mid after true true f'' e e' e'' p q = q ∙ p
more a b before mid after true false f'' e e' e'' p q = let h : true ≡ false = sym e ∙ ap (λ o. o.pending.failed) (sym p) ∙ e' in cc
more a b before mid after false true true e e' e'' p q = (
  subst (λ o. TakesPrefix (before.pending.kept ++ (a ++ b)) before.told o.told) (sym q)
      (subst (λ bytes. TakesPrefix bytes before.told mid.told) (append_assoc before.pending.kept a b)
      (prefix_more (before.pending.kept ++ a) b before.told mid.told p.0)),
  subst (λ o. FailedLast before.faults o.faults) (sym q) p.1,
)
more a b before mid after false true false e e' e'' p q = let h : true ≡ false = sym e' ∙ ap (λ o. o.pending.failed) (sym q) ∙ e'' in cc
more a b before mid after false false true e e' e'' p q = (
  subst (λ bytes. TakesPrefix bytes before.told after.told) (append_assoc before.pending.kept a b)
      (gathers_prefix (before.pending.kept ++ a) b mid.pending.kept before.told mid.told after.told p.0 q.0),
  none_then_last before.faults mid.faults after.faults p.1 q.1,
)
more a b before mid after false false false e e' e'' p q = (
  subst (λ bytes. Gathers bytes before.told after.pending.kept after.told) (append_assoc before.pending.kept a b)
      (gathers_more (before.pending.kept ++ a) b mid.pending.kept after.pending.kept before.told mid.told after.told p.0 q.0),
  none_more before.faults mid.faults after.faults p.1 q.1,
)

-- a piece was added, and then another
pub adds_more : (a b : List ℕ) (before mid after : SinkState) → Adds a before mid → Adds b mid after → Adds (a ++ b) before after
adds_more a b before mid after first later =
    record { added = more a b before mid after before.pending.failed mid.pending.failed after.pending.failed refl refl refl first.added later.added; later = omega arith }

-- of a list of pieces one more was added
pub adds_next : {X : Type 0} (f : X → List ℕ) (xs : List X) (i : ℕ) (d : X) (before mid after : SinkState) → i < length xs
    → Adds (flat_map f (take i xs)) before mid → Adds (f (get_or xs i d)) mid after → Adds (flat_map f (take (i + 1) xs)) before after
adds_next f xs i d before mid after within first later =
    let whole : flat_map f (take (i + 1) xs) ≡ flat_map f (take i xs) ++ f (get_or xs i d) =
    ap (flat_map f) (take_more xs i d within) ∙ flat_map-append f (take i xs) (get_or xs i d ∷ []) ∙ ap (λ bytes. flat_map f (take i xs) ++ bytes) (append-nil (f (get_or xs i d)))
    in subst (λ bytes. Adds bytes before after) (sym whole) (adds_more (flat_map f (take i xs)) (f (get_or xs i d)) before mid after first later)

-- a piece that is the same was added
pub adds_as : {text same : List ℕ} {before after : SinkState} → text ≡ same → Adds text before after → Adds same before after
adds_as {before = before} {after = after} e added = subst (λ bytes. Adds bytes before after) e added

-- all pieces of a list were added
pub adds_all : {X : Type 0} (f : X → List ℕ) (xs : List X) (i : ℕ) {before after : SinkState} → length xs ≤ i
    → Adds (flat_map f (take i xs)) before after → Adds (flat_map f xs) before after
adds_all f xs i end added = adds_as (ap (flat_map f) (take_all i xs end)) added

-- what is added to a sink, piece by piece
pub ruleset adding = (adds_nothing, adds_more, adds_next)
