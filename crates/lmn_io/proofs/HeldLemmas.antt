-- What a writer holds behind several writes.
use Rattle.std.specs.Prelude.{ℕ, List, [], ◌++◌, Option, Some, None}
use Rattle.std.specs.Io.KnownBytes.{Appends, Keeps}
use Rattle.std.proofs.Common.{◌∙◌, ap, append_assoc, append-nil, refl}

-- nothing was done
pub holds : (a : Option (List ℕ)) → Keeps a a
holds None = tt
holds (Some xs) = refl

-- nothing was taken, and then nothing again
pub keeps_both : (a b c : Option (List ℕ)) → Keeps a b → Keeps b c → Keeps a c
keeps_both None b c first later = tt
keeps_both (Some xs) None c first later = absurd first
keeps_both (Some xs) (Some ys) None first later = absurd later
keeps_both (Some xs) (Some ys) (Some zs) first later = later ∙ first

-- nothing was taken, and then a piece
pub keeps_appends : (a b c : Option (List ℕ)) (piece : List ℕ) → Keeps a b → Appends b c piece → Appends a c piece
keeps_appends None b c piece first later = tt
keeps_appends (Some xs) None c piece first later = absurd first
keeps_appends (Some xs) (Some ys) None piece first later = absurd later
keeps_appends (Some xs) (Some ys) (Some zs) piece first later = later ∙ ap (λ l. l ++ piece) first

-- nothing is the empty piece
pub appends_nothing : (a b : Option (List ℕ)) → Keeps a b → Appends a b []
appends_nothing None b kept = tt
appends_nothing (Some xs) None kept = absurd kept
appends_nothing (Some xs) (Some ys) kept = rw append-nil kept
