-- Verified code that is committed fires its flat rule.
use Rattle.std.proofs.Common.{◌∙◌}
use Rattle.lmn_solid_bodies.proofs.Laws.{body_fires_within}
use Rattle.lmn_solid_bodies.proofs.Numbering.{links_have_numbers}
use Rattle.lmn_verify_laws.specs.Flat.{flat_body, flat_head, link_count}
use Rattle.lmn_verify_laws.specs.Laws.{VerifiedFires}
use Rattle.lmn_verify_laws.proofs.Commits.{does_too, prepared}
use Rattle.lmn_verify_laws.proofs.Heads.{lies}
use Rattle.lmn_verify_laws.proofs.Linking.{is_nested}
use Rattle.lmn_verify_laws.proofs.Rests.{verified_holds_rests}
use Rattle.lmn_verify_laws.proofs.Runnable.{same}
use Rattle.lmn_solid_bodies.proofs.Common.{commits_root as root_stays}

-- Its body does what that of the flat rule does, which fires the rule, and the root stays.
pub verified_fires : VerifiedFires
verified_fires code k v h m r valid place first holds z done =
    let lie = lies code k v h valid m r.head first.succeeds in
    let rests = verified_holds_rests code k v h m r valid place first holds in
    let prepares = prepared code k v h valid m place r lie rests done.prepared done.prepares in
    let does = does_too code k v h valid m place r lie rests (same code k v h valid m place r lie rests) done.prepared done.after prepares done.does in
    let name = links_have_numbers h valid in
    let fired = body_fires_within (flat_head code) (flat_body code) (link_count code) (is_nested code k v) r h valid m lie rests place name.0 name.1 done.after (done.prepared, prepares, does) in (
      done.after,
      done.alike,
      fired.2,
      record { name = name.0; named = name.1; parts = fired.0; are = fired.1; fires = fired.3; root = root_stays r code.body done.prepared done.after done.does ∙ done.makes.root },
    )
