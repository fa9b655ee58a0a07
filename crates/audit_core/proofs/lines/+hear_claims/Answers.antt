use Rattle.std.proofs.Common.{◌≡◌, ◌≤◌, List, [], ◌∷◌, ◌++◌, length, get_or, drop, refl, arith}
use Rattle.std.proofs.lemmas.List.{take_rest}
use Rattle.audit_remarks.specs.declared.sources.Mention.{Mention}
use Rattle.audit_core.specs.Lines.{claims_lines, unless_reported}
use Rattle.audit_core.proofs.Writing.{heard_as}
use Rattle.audit_core.proofs.lines.+hear_claims.Goals as goal

-- an address, and the rest
claims_more : (reported claims : List Mention) (none : Mention) → 1 ≤ length claims → unless_reported reported (get_or claims 0 none) ++ claims_lines reported (drop 1 claims) ≡ claims_lines reported claims
claims_more reported [] none h = absurd (omega arith)
claims_more reported (m ∷ ms) none h = refl

pub returns : goal.returns
returns g t c =
    heard_as g.H.LineHearer.hears c.args.out.now c.hear_claims.new.out _ _ (rw take_rest (claims_more c.args.sources.now.reported.items c.args.claims.now _ c.in-len1-up.len_at_least))
    (g.met.H.LineHearer.then c.args.out.now c.hear_claim.new.out c.hear_claims.new.out _ _ c.hear_claim.ensures c.hear_claims.ensures)
