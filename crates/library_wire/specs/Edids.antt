-- What is answered of EDIDs (this profile's own).
use Rattle.std.specs.Prelude.{◌≡◌, ℕ, ◌+◌, ◌/◌, ◌%◌, Bool, true, false, List, Some, EachIndex, length, slice_index}
use Rattle.text_core.specs.declared.phys.Phys.{Phys}
use Rattle.edid_core.specs.Bytes.{IsRefused as IsNoEdid}
use Rattle.edid_core.specs.declared.bytes.EdidError.{EdidError}
use Rattle.edid_core.specs.declared.passing.AudioFrom.{AudioFrom}
use Rattle.edid_core.specs.declared.passing.AudioFrom.TheVariants.{Television, Amplifier}
use Rattle.edid_ddc.specs.Bus.{byte_at}
use Rattle.library_answers.specs.Codes.{number_of}
use Rattle.library_answers.specs.Faults.{edid_code}
use Rattle.library_answers.specs.Room.{IsRefused}
use Rattle.library_answers.specs.declared.answer.Answer.{Answer}
use Rattle.library_answers.specs.declared.code.Code.TheVariants.{Done}

-- the bytes are no EDID, for the cause of this number
abbrev pub IsEdidFound : List ℕ → ℕ → Type 0
IsEdidFound bytes code = (cause : EdidError) × IsNoEdid bytes cause × (code ≡ number_of (edid_code cause))

-- and nothing is put into the room
abbrev pub IsEdidRefused : List ℕ → List ℕ → List ℕ → Answer → Type 0
IsEdidRefused bytes old new answer = (cause : EdidError) × IsNoEdid bytes cause × IsRefused (edid_code cause) 0 old new answer

-- an address of four nibbles, as 0x1200 for 1.2.0.0 (HDMI 1.4, 8.7.2)
abbrev pub phys_of : ℕ → Phys
phys_of address = record { high = address / 256; low = address % 256 }

abbrev pub audio_of : Bool → AudioFrom
audio_of true = Amplifier
audio_of false = Television

-- the room is filled with what stands from an offset of a segment on (E-DDC, section 2.2)
pub record IsReadOver (bytes : List ℕ) (segment offset : ℕ) (old new : List ℕ) (answer : Answer) : Type 0 where
  pub there : EachIndex new (λ k. byte_at bytes segment ((offset + k) % 256) ≡ Some (slice_index new k))
  pub filled : length new ≡ length old
  pub reported : answer ≡ record { code = number_of Done; line = 0; length = length old }
