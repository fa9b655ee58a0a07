use Rattle.std.proofs.Common.{rules, ◌≡◌, ℕ, slice_index_or}
use Rattle.record_core.specs.Strings.{escaped_byte}
use Rattle.record_core.proofs.Plain.{more_as, none_as}
use Rattle.record_core.proofs.line.add_escaped.Goals as goal

pub loop-byte-init : goal.loop-byte-init
loop-byte-init g c = none_as c.args.quoted c.args.out.now

pub loop-byte-preserved : goal.loop-byte-preserved
loop-byte-preserved g c =
    let item : ℕ = slice_index_or c.args.text.now c.loop-byte.byte-index 0 in
    let same : slice_index_or c.args.text.now c.loop-byte.byte-index item ≡ item = search rules in
    more_as c.args.quoted escaped_byte c.args.text.now c.loop-byte.byte-index item _ _ _ c.loop-byte-test.true same c.loop-byte.invariant c.add_escaped_byte.ensures
