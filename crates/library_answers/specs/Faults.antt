-- The answers for what is wrong with frames, their texts and EDIDs (this profile's own).
use Rattle.std.specs.Prelude.{ℕ, ◌==◌, if◌then◌else◌}
use Rattle.line_frames.specs.declared.FrameError.{FrameError}
use Rattle.line_frames.specs.declared.FrameError.TheVariants.{Empty, TooLong}
use Rattle.message_text.specs.declared.assembler.AssembleError.{AssembleError}
use Rattle.message_text.specs.declared.assembler.AssembleError.TheVariants as texts
use Rattle.edid_base.specs.declared.base.BaseError.{BaseError}
use Rattle.edid_base.specs.declared.base.BaseError.TheVariants as bases
use Rattle.edid_core.specs.declared.bytes.EdidError.{EdidError}
use Rattle.edid_core.specs.declared.bytes.EdidError.TheVariants as edids
use Rattle.library_answers.specs.declared.code.Code.{Code}
use Rattle.library_answers.specs.declared.code.Code.TheVariants.{FrameEmpty, FrameTooLong, TextAddress, TextName, TextTooLong, TextCount, TextOperand, EdidLength, EdidCount, EdidHeader, EdidChecksum, EdidRevision, EdidMaker, EdidFirst, EdidSecond, EdidThird}

abbrev pub frame_code : FrameError → Code
frame_code Empty = FrameEmpty
frame_code TooLong = FrameTooLong

abbrev pub text_code : AssembleError → Code
text_code texts.Name = TextName
text_code texts.Operand = TextOperand
text_code texts.Count = TextCount
text_code texts.Address = TextAddress
text_code texts.TooLong = TextTooLong

-- an extension is counted from 1, and there are at most three
abbrev pub ext_code : ℕ → Code
ext_code number = if number == 1 then EdidFirst else if number == 2 then EdidSecond else EdidThird

abbrev pub base_code : BaseError → Code
base_code bases.Header = EdidHeader
base_code bases.Checksum = EdidChecksum
base_code bases.Revision = EdidRevision
base_code bases.Maker = EdidMaker

abbrev pub edid_code : EdidError → Code
edid_code edids.Length = EdidLength
edid_code edids.Count = EdidCount
edid_code (edids.Base cause) = base_code cause
edid_code (edids.Ext number cause) = ext_code number
