-- The bytes of a whole EDID (E-EDID Release A, section 2.2.1): the base block, and each extension after it.
use Rattle.std.specs.Prelude.{◌≡◌, ◌≢◌, ℕ, ◌+◌, ◌*◌, ◌%◌, ◌<◌, ◌≤◌, ◌==◌, Bool, ◌||◌, IsTrue, List, ◌++◌, length, take, drop, slice_index, sum, flat_map, Some, None, codes}
use Rattle.std.specs.Fmt.{decimal}
use Rattle.edid_base.specs.declared.base.BaseError.{BaseError}
use Rattle.edid_base.specs.declared.base.BaseError.TheVariants as bases
use Rattle.edid_cta.specs.declared.ext.ExtError.{ExtError}
use Rattle.edid_cta.specs.declared.ext.ExtError.TheVariants as exts
use Rattle.edid_base.specs.Base.{base_bytes}
use Rattle.edid_base.specs.Refusals.{refusal}
use Rattle.edid_cta.specs.Ext.{ext_bytes}
use Rattle.edid_core.specs.declared.bytes.EdidError.{EdidError}
use Rattle.edid_core.specs.declared.bytes.EdidError.TheVariants.{Length, Count, Base, Ext}
use Rattle.edid_core.specs.declared.edid.Edid.{Edid}

abbrev pub edid_bytes : Edid → List ℕ
edid_bytes e = base_bytes e.base ++ flat_map ext_bytes e.extensions.items

-- one block to four (own: the standard has up to 256)
abbrev pub has_length : List ℕ → Bool
has_length bytes = (length bytes == 128) || (length bytes == 256) || (length bytes == 384) || (length bytes == 512)

abbrev pub HasLength : List ℕ → Type 0
HasLength bytes = IsTrue (has_length bytes)

-- bytes are whole blocks: one at least, and four at most
pub record IsCounted (bytes : List ℕ) : Type 0 where
  pub blocks : ℕ
  pub least : 1 ≤ blocks
  pub most : blocks ≤ 4
  pub len : length bytes ≡ 128 * blocks

-- byte 126 says how many blocks follow the first
abbrev pub HasCount : List ℕ → Type 0
HasCount bytes = slice_index bytes 126 * 128 + 128 ≡ length bytes

-- the block with this number, 0 for the base block
abbrev pub block_at : List ℕ → ℕ → List ℕ
block_at bytes number = take 128 (drop (128 * number) bytes)

-- the first extension whose bytes do not add up to a multiple of 256, by its number from 1
pub record IsFirstUnsummed (bytes : List ℕ) (number : ℕ) : Type 0 where
  pub least : 0 < number
  pub there : 128 * number < length bytes
  pub wrong : sum (block_at bytes number) % 256 ≢ 0
  pub before : (k : ℕ) → 0 < k → k < number → sum (block_at bytes k) % 256 ≡ 0

-- the reason why bytes are no EDID, where all that comes before it is in order
abbrev pub IsRefused : List ℕ → EdidError → Type 0
IsRefused bytes Length = ¬ HasLength bytes
IsRefused bytes (Base cause) = HasLength bytes × (refusal (take 128 bytes) ≡ Some cause)
IsRefused bytes Count = HasLength bytes × (refusal (take 128 bytes) ≡ None) × ¬ HasCount bytes
IsRefused bytes (Ext i cause) = HasLength bytes × (refusal (take 128 bytes) ≡ None) × HasCount bytes × IsFirstUnsummed bytes i

-- why the extensions of bytes can't be read
abbrev pub IsUnsummed : List ℕ → EdidError → Type 0
IsUnsummed bytes (Ext i cause) = IsFirstUnsummed bytes i
IsUnsummed bytes _ = ⊥

-- the words of a refusal (own)
abbrev pub base_cause : BaseError → List ℕ
base_cause bases.Header = codes "header"
base_cause bases.Checksum = codes "checksum"
base_cause bases.Revision = codes "revision"
base_cause bases.Maker = codes "maker"

abbrev pub ext_cause : ExtError → List ℕ
ext_cause exts.Checksum = codes "checksum"

abbrev pub edid_cause : EdidError → List ℕ
edid_cause Length = codes "length"
edid_cause Count = codes "count"
edid_cause (Base cause) = codes "base " ++ base_cause cause
edid_cause (Ext i cause) = codes "ext " ++ decimal i ++ codes " " ++ ext_cause cause
