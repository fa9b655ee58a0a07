use Rattle.std.proofs.Common.{◌-◌, ◌<◌, length, take, drop, arith}
use Rattle.program_input.proofs.LineLemmas.{other_bytes, parted_at, passed_on, rest_of, same_bytes, within_text}
use Rattle.program_input.proofs.parts.parted.Goals as goal

pub returns-then-eq : goal.returns-then-eq
returns-then-eq c =
    let text = c.args.text.now in
    let found = c.len_before-length in
    let rest = take (length text - c.lines.start) (drop c.lines.start text) in
    rw c.after.ensures (parted_at c.args.mark.now text rest c.lines.start found.result (rest_of text c.lines.start) c.lines.invariant.earlier
    found.ensures.value found.ensures.within (same_bytes _ _ c.if-eq.ensures))

pub lines-preserved : goal.lines-preserved
lines-preserved c =
    let text = c.args.text.now in
    let found = c.len_before-length in
    let rest = take (length text - c.lines.start) (drop c.lines.start text) in
    let inner : found.result < length rest = omega (arith, found.ensures.within, c.if-length-rest.false) in
    record {
      within = within_text text rest c.lines.start found.result c.lines.invariant.within (rest_of text c.lines.start) inner;
      earlier = passed_on c.args.mark.now text rest c.lines.start found.result (rest_of text c.lines.start) c.lines.invariant.earlier
          found.ensures.value inner (other_bytes _ _ c.if-eq.ensures);
    }
