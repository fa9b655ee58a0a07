-- The block of the HDMI Forum (HDMI 2.1, section 10.3.2), of its bytes from the version on.
use Rattle.std.specs.Prelude.{ℕ, ◌+◌, ◌*◌, ◌/◌, ◌%◌, List, slice_index}
use Rattle.edid_layout.specs.HdmiBlock.{has_bit}
use Rattle.edid_layout.specs.declared.forum_block.ForumBlock.{ForumBlock}

-- the identifier of a maker, its lowest byte first; that of the HDMI Forum is C4-5D-D8 (IEEE RA, MA-L)
abbrev pub identifier : List ℕ → ℕ
identifier p = slice_index p 0 + slice_index p 1 * 256 + slice_index p 2 * 65536

-- a byte past the end is 0
unfoldable pub forum_block : List ℕ → ForumBlock
forum_block p = record {
  version = slice_index p 0;
  max_rate = slice_index p 1;
  has_scdc = has_bit (slice_index p 2) 128;
  link = slice_index p 2 % 128;
  fixed_rate = slice_index p 3 / 16;
  depths = slice_index p 3 % 16;
  pictures = slice_index p 4;
  least_refresh = slice_index p 5 % 64;
  greatest_refresh = slice_index p 5 / 64 * 256 + slice_index p 6;
  streams = slice_index p 7;
}
