-- What receivers do that decode sound and pass on pictures (own): their product and sound are their own, and of the link's clocks and
-- of colours it is what both have. Of formats it is what the link carries where they say nothing of HDMI 2.
use Rattle.edid_merge.specs.declared.table.Bits.TheVariants as bits
use Rattle.edid_merge.specs.declared.table.Formats.TheVariants.{ByForum}
use Rattle.edid_merge.specs.declared.table.Numbers.TheVariants as numbers
use Rattle.edid_merge.specs.declared.table.Table.{Table}
use Rattle.edid_merge.specs.declared.table.Whose.TheVariants.{Keep, Own}

abbrev pub receiver_table : Table
receiver_table = record {
  product = Own;
  video = Keep;
  formats = ByForum;
  audio = Own;
  speakers = bits.Own;
  hdmi = numbers.Least;
  forum = numbers.Least;
  capability = bits.Keep;
  colorimetry = bits.And;
  hdr = bits.And;
  maker_video = Keep;
  maker_audio = Own;
  other = Keep;
}
