-- How the frames of an opcode look after their addresses, for help (own): its name, and a word for each operand.
-- What may be left out stands in brackets.
use Rattle.std.specs.Prelude.{ℕ, List, [], ◌∷◌, ◌++◌, Option, option_map, codes}
use Rattle.message_table.specs.declared.word_set.WordSet.{WordSet}
use Rattle.message_table.specs.declared.word_set.WordSet.TheVariants.{Reason, Power, OnOff, DeviceType, StatusRequest, DeckInfo, PlayMode, DeckControl, Display, MenuRequest, MenuState, Version, UserControl}
use Rattle.message_table.specs.declared.operand.Operand.{Operand}
use Rattle.message_table.specs.declared.operand.Operand.TheVariants.{Byte, Word, Language, Vendor, Address}
use Rattle.message_table.specs.declared.operand.Operands.{Operands}
use Rattle.message_table.specs.declared.operand.Operands.TheVariants.{Raw, Nothing, One, Optional, Two, Volume, Text, WordAndText}
use Rattle.message_table.specs.Table.{name_of, operands_of}

-- what stands for a word of a set
abbrev pub set_label : WordSet → List ℕ
set_label Reason = codes "REASON"
set_label Power = codes "POWER"
set_label OnOff = codes "SYS"
set_label DeviceType = codes "TYPE"
set_label StatusRequest = codes "STATUS"
set_label DeckInfo = codes "DECK"
set_label PlayMode = codes "MODE"
set_label DeckControl = codes "CONTROL"
set_label Display = codes "DISPLAY"
set_label MenuRequest = codes "MENU"
set_label MenuState = codes "MSTATE"
set_label Version = codes "VERSION"
set_label UserControl = codes "CODE"

abbrev pub operand_label : Operand → List ℕ
operand_label Byte = codes "BYTE"
operand_label (Word set) = set_label set
operand_label Language = codes "LANG"
operand_label Vendor = codes "ID"
operand_label Address = codes "PA"

-- each operand after a space
abbrev pub operands_shape : Operands → List ℕ
operands_shape Raw = codes " :HEX"
operands_shape Nothing = []
operands_shape (One a) = 32 ∷ operand_label a
operands_shape (Optional a) = codes " [" ++ operand_label a ++ codes "]"
operands_shape (Two a b) = (32 ∷ operand_label a) ++ (32 ∷ operand_label b)
operands_shape Volume = codes " VOLUME"
operands_shape Text = codes " TEXT"
operands_shape (WordAndText set) = (32 ∷ set_label set) ++ codes " [TEXT]"

abbrev pub frame_shape : ℕ → Option (List ℕ)
frame_shape code = option_map (λ name. name ++ operands_shape (operands_of code)) (name_of code)
