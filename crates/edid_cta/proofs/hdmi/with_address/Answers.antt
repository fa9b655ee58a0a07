use Rattle.std.proofs.Common.{◌≡◌, Some, List, ℕ, ap, sym, ◌∙◌, arith}
use Rattle.std.specs.Result.{result_ok}
use Rattle.edid_cta.specs.Ext.{ext_bytes}
use Rattle.edid_cta.specs.Hdmi.{address_of, bytes_with_address}
use Rattle.edid_cta.proofs.OneExt.{one_ext}
use Rattle.edid_cta.proofs.Readdressing.{in_ext}
use Rattle.edid_cta.proofs.hdmi.with_address.Goals as goal

pub returns-clause-addressed : goal.returns-clause-addressed
returns-clause-addressed c =
    let ext = c.args.ext.now in
    let address = c.args.address in
    let some : c.address_place.result ≡ Some c.in_ok-place.place = c.ok_or.ensures.ok_part ∙ ap result_ok c.in_ok-place.was in
    let place = rw some at c.address_place.ensures in
    let found = rw c.unwrap.ensures at c.read_ext.ensures.found in
    let same = found ∙ c.bytes_with_address.ensures ∙ ap (λ (bytes : List ℕ). bytes_with_address bytes c.in_ok-place.place address) c.write_ext.ensures
    ∙ ap (λ (k : ℕ). bytes_with_address (ext_bytes ext) k address) place.0 in
    let made = in_ext ext address place.2 (omega arith) (omega arith) in
    ap address_of (one_ext c.unwrap.result made.ext (same ∙ sym made.bytes)) ∙ made.address
