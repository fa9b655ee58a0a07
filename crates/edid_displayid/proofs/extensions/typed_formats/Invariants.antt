use Rattle.std.proofs.Common.{◌≡◌, ◌≤◌, ◌*◌, length, take, flat_map}
use Rattle.edid_displayid.specs.Formats.{ext_formats}
use Rattle.edid_displayid.proofs.extensions.typed_formats.Given as goal

abbrev pub invariant-loop-ext : goal.invariant-loop-ext
invariant-loop-ext l = record {
  items : l.formats.items ≡ flat_map ext_formats (take l.ext-index l.extensions);
  len : length l.formats.items ≤ 123 * l.ext-index;
}
