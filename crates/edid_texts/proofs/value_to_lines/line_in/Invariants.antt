use Rattle.std.proofs.Common.{◌≡◌, drop, slice_get, flat_map}
use Rattle.edid_texts.specs.Lines.{ext_lines}
use Rattle.edid_texts.proofs.value_to_lines.line_in.Given as goal

-- the number is counted from the extensions that are left
abbrev pub invariant-loop-ext : goal.invariant-loop-ext
invariant-loop-ext l = slice_get (flat_map ext_lines l.extensions) l.fn.number ≡ slice_get (flat_map ext_lines (drop l.ext-index l.extensions)) l.number
