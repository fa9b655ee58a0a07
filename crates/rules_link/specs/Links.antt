-- What a link carries: characters of TMDS as often as the HDMI block (HDMI 1.4b, section 8.3.2) and the HDMI Forum's (HDMI 2.1, section
-- 10.3.2) say, or the bits of a fixed rate link.
use Rattle.std.specs.Prelude.{ℕ, ◌*◌, ◌/◌, ◌%◌, ◌==◌, Bool, ◌&&◌, ◌||◌, not, nat_lt, nat_le, if◌then◌else◌, List}
use Rattle.edid_cta.specs.Hdmi.{is_hdmi}
use Rattle.edid_cta.specs.declared.block.DataBlock.{DataBlock}
use Rattle.edid_cta.specs.declared.raw.Ext.{Ext}
use Rattle.edid_layout.specs.declared.forum_block.ForumBlock.{ForumBlock}
use Rattle.edid_layout.specs.declared.hdmi_block.HdmiBlock.{HdmiBlock}
use Rattle.rules_contents.specs.Contents.{is_forum_block, forum_of}
use Rattle.rules_link.specs.declared.load.Load.{Load}
use Rattle.rules_values.specs.BlockParts.{hdmi_of}
use Rattle.rules_values.specs.ExtParts.{some_block}

-- ---- what a format needs

-- characters in kHz: one for each pixel of 24 bits, and of 4:2:0 one for two (HDMI 2.1, section 7.1)
abbrev pub characters : Load → ℕ
characters l = if l.is_halved then l.clock / 2 else l.clock

-- The least bits of a pixel: 24, of 4:2:0 12, and 6 after compression, to which DSC goes in 4:2:0 (HDMI 2.1, section 7.7).
abbrev pub least_bits : Bool → Load → ℕ
least_bits compresses l = if compresses then 6 else if l.is_halved then 12 else 24

-- ---- what a block gives

-- in kHz: units of 5 MHz, and 165 MHz where none is given; two links carry twice as many (DVI_Dual)
abbrev pub hdmi_rate : HdmiBlock → ℕ
hdmi_rate h = (if h.max_clock == 0 then 165000 else h.max_clock * 5000) * (if h.has_dual_link then 2 else 1)

-- Max_TMDS_Character_Rate, in units of 5 MHz: 0 where the HDMI block says it
abbrev pub block_rate : DataBlock → ℕ
block_rate b = if is_hdmi b then hdmi_rate (hdmi_of b) else if is_forum_block b then (forum_of b).max_rate * 5000 else 0

-- Max_FRL_Rate: Gbit/s of three lanes with 3 and with 6, and of four with 6, 8, 10 and 12 each; 0 where there is no such link
abbrev pub fixed_gigabits : ℕ → ℕ
fixed_gigabits rate =
    if rate == 1 then 9 else if rate == 2 then 18 else if rate == 3 then 24 else if rate == 4 then 32 else if rate == 5 then 40
    else if rate == 6 then 48 else 0

-- Of 18 bits 16 are payload (HDMI 2.1, section 6.4), and blanking can be shortened (section 6.5): the pixels that are shown have room in the
-- time of a line.
abbrev pub has_room : ℕ → ℕ → Load → Bool
has_room gigabits bits l = nat_le (l.clock * l.width * bits * 9) (gigabits * 8000000 * l.pixels)

-- DSC_1p2: bit 7 of byte 11
abbrev pub compresses : ForumBlock → Bool
compresses f = f.streams / 128 % 2 == 1

-- What a reserved rate carries is not known, so it carries all (own).
abbrev pub carries_fixed : Load → ForumBlock → Bool
carries_fixed l f = nat_lt 6 f.fixed_rate || (nat_lt 0 f.fixed_rate && has_room (fixed_gigabits f.fixed_rate) (least_bits (compresses f) l) l)

abbrev pub carries_characters : ℕ → Load → Bool
carries_characters rate l = nat_lt 0 rate && nat_le (characters l) rate

abbrev pub carries : Load → DataBlock → Bool
carries l b = carries_characters (block_rate b) l || (is_forum_block b && carries_fixed l (forum_of b))

-- ---- the link

-- some block of HDMI's gives as much
abbrev pub is_carried : List Ext → Load → Bool
is_carried xs l = some_block (carries l) xs

-- an EDID with an HDMI block has no link for it
abbrev pub is_beyond : List Ext → Load → Bool
is_beyond xs l = some_block is_hdmi xs && not (is_carried xs l)
