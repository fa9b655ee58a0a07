use Rattle.std.proofs.Common.{refl}
use Rattle.std.proofs.lemmas.List.{take_rest}
use Rattle.infoframe_check.proofs.Adding.{first_then}
use Rattle.infoframe_check.specs.Records.{claim_text, unoffered_text}
use Rattle.infoframe_check.proofs.unoffered.+add_claims.Goals as goal

pub returns-in-len1-up : goal.returns-in-len1-up
returns-in-len1-up g t c =
    let form = c.args.form in
    let b = c.args.base.now in
    let xs = c.args.extensions.now in
    first_then (claim_text form b xs) (λ ys. unoffered_text form b xs ys) (λ ys. unoffered_text form b xs ys)
    (λ y ys. refl) c.args.claims.now _ _ _ _ _ c.in-len1-up.len_at_least refl c.add_claim.ensures (rw take_rest at c.add_claims.ensures)
