-- What some first lines of a text say (own).
use Rattle.std.specs.Prelude.{◌≡◌, ℕ, ◌+◌, ◌*◌, ◌<◌, ◌≤◌, List, [], length, flat_map}
use Rattle.arrayvec.specs.declared.array_vec.ArrayVec.{ArrayVec}
use Rattle.edid_base.specs.declared.base.Base.{Base}
use Rattle.edid_base.specs.declared.timing.Timing.{Timing}
use Rattle.edid_cta.specs.Block.{block_bytes}
use Rattle.edid_cta.specs.declared.block.DataBlock.{DataBlock}
use Rattle.edid_cta.specs.declared.raw.Ext.{Ext}
use Rattle.edid_texts.specs.declared.stage.Stage.{Stage}
use Rattle.edid_texts.specs.declared.stage.Stage.TheVariants.{Begun as AtBase, Whole as AtWhole, Opened as AtOpened, Bare as AtBare}

-- a base block of which the first lines were read, and so many
pub record Begun : Type 0 where
  pub base : Base
  pub number : ℕ
  pub few : number < 23

-- a whole base block, and the whole extensions after it
pub record Whole : Type 0 where
  pub base : Base
  pub extensions : ArrayVec Ext 3 (Unit {0})
  pub few : length extensions.items ≤ 3

-- whole blocks, and an open CTA block: its flags, data blocks and timings so far, and how many bytes are left for more
pub record Opened : Type 0 where
  pub whole : Whole
  pub flags : ℕ
  pub blocks : ArrayVec DataBlock 123 (Unit {0})
  pub timings : ArrayVec Timing 6 (Unit {0})
  pub left : ℕ
  pub room : length whole.extensions.items < 3
  pub flags_fit : flags < 256
  pub spelled : length (flat_map block_bytes blocks.items) + 18 * length timings.items + left ≡ 123
  pub few : length blocks.items + left ≤ 123

-- whole blocks, and the flags of an extension that has a tail alone
pub record Headed : Type 0 where
  pub whole : Whole
  pub flags : ℕ
  pub room : length whole.extensions.items < 3
  pub flags_fit : flags < 256

-- what the lines so far say
pub data Draft : Type 0 where
  OfBegun : Begun → Draft
  OfWhole : Whole → Draft
  OfOpened : Opened → Draft
  OfBare : Headed → Draft

-- how many lines of the base block were read, where it is not whole
abbrev pub lines_read : Stage → ℕ
lines_read (AtBase number) = number
lines_read AtWhole = 0
lines_read (AtOpened flags left) = 0
lines_read (AtBare flags) = 0

-- there are fewer extensions: none before the base block is whole, at most two where one more is begun
abbrev pub extensions_below : Stage → ℕ
extensions_below (AtBase number) = 1
extensions_below AtWhole = 4
extensions_below (AtOpened flags left) = 3
extensions_below (AtBare flags) = 3

abbrev pub flags_of : Stage → ℕ
flags_of (AtBase number) = 0
flags_of AtWhole = 0
flags_of (AtOpened flags left) = flags
flags_of (AtBare flags) = flags

-- the bytes of a CTA block that is open and those that are left for more, after its head of four and before its checksum
abbrev pub bytes_open : Stage → List DataBlock → List Timing → ℕ
bytes_open (AtBase number) blocks timings = 123
bytes_open AtWhole blocks timings = 123
bytes_open (AtOpened flags left) blocks timings = length (flat_map block_bytes blocks) + 18 * length timings + left
bytes_open (AtBare flags) blocks timings = 123

-- each data block has a byte at least
abbrev pub blocks_open : Stage → List DataBlock → ℕ
blocks_open (AtBase number) blocks = 0
blocks_open AtWhole blocks = 0
blocks_open (AtOpened flags left) blocks = length blocks + left
blocks_open (AtBare flags) blocks = 0

-- what the parts of a draft have room for
abbrev pub StageFits : Stage → List Ext → List DataBlock → List Timing → Type 0
StageFits stage exts blocks timings =
    (lines_read stage < 23) × (length exts ≤ 3) × (length exts < extensions_below stage) × (flags_of stage < 256) × (bytes_open stage blocks timings ≡ 123) × (blocks_open stage blocks ≤ 123)

-- a draft by its parts
abbrev pub draft_by : (stage : Stage) (base : Base) (exts : ArrayVec Ext 3 (Unit {0})) (blocks : ArrayVec DataBlock 123 (Unit {0})) (timings : ArrayVec Timing 6 (Unit {0}))
    → StageFits stage exts.items blocks.items timings.items → Draft
draft_by (AtBase number) base exts blocks timings fits = OfBegun (record { base = base; number = number; few = fits.0 })
draft_by AtWhole base exts blocks timings fits = OfWhole (record { base = base; extensions = exts; few = fits.1 })
draft_by (AtOpened flags left) base exts blocks timings fits = OfOpened (record {
  whole = record { base = base; extensions = exts; few = fits.1 };
  flags = flags;
  blocks = blocks;
  timings = timings;
  left = left;
  room = fits.2;
  flags_fit = fits.3;
  spelled = fits.4;
  few = fits.5;
})
draft_by (AtBare flags) base exts blocks timings fits = OfBare (record { whole = record { base = base; extensions = exts; few = fits.1 }; flags = flags; room = fits.2; flags_fit = fits.3 })
