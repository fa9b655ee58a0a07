-- Operands of a screen and its menus that are words of a set: what each byte means, and the byte of each word.
use Rattle.std.specs.Prelude.{ℕ, [], ◌∷◌}
use Rattle.message_table.specs.declared.word_set.WordSet.TheVariants.{Display as DisplayWords, MenuRequest as MenuRequestWords, MenuState as MenuStateWords}
use Rattle.message_table.specs.Words.{known_or, with_byte}
use Rattle.message_table.specs.declared.screen_words.Display.{Display}
use Rattle.message_table.specs.declared.screen_words.Display.TheVariants.{Default, Hold, Clear, Other}
use Rattle.message_table.specs.declared.screen_words.MenuRequestType.{MenuRequestType}
use Rattle.message_table.specs.declared.screen_words.MenuRequestType.TheVariants.{Activate, Deactivate, Query, Other as OtherOfMenuRequestType}
use Rattle.message_table.specs.declared.screen_words.MenuState.{MenuState}
use Rattle.message_table.specs.declared.screen_words.MenuState.TheVariants.{Activated, Deactivated, Other as OtherOfMenuState}

abbrev pub display_byte : Display → ℕ
display_byte Default = 0x00
display_byte Hold = 0x40
display_byte Clear = 0x80
display_byte (Other other) = other.byte

abbrev pub display_at : ℕ → Display
display_at byte = known_or DisplayWords byte (λ h. Other (record { byte = byte; unlisted = h }))
    (with_byte display_byte byte Default (Hold ∷ Clear ∷ []))

abbrev pub menu_request_byte : MenuRequestType → ℕ
menu_request_byte Activate = 0
menu_request_byte Deactivate = 1
menu_request_byte Query = 2
menu_request_byte (OtherOfMenuRequestType other) = other.byte

abbrev pub menu_request_at : ℕ → MenuRequestType
menu_request_at byte = known_or MenuRequestWords byte (λ h. OtherOfMenuRequestType (record { byte = byte; unlisted = h }))
    (with_byte menu_request_byte byte Activate (Deactivate ∷ Query ∷ []))

abbrev pub menu_state_byte : MenuState → ℕ
menu_state_byte Activated = 0
menu_state_byte Deactivated = 1
menu_state_byte (OtherOfMenuState other) = other.byte

abbrev pub menu_state_at : ℕ → MenuState
menu_state_at byte = known_or MenuStateWords byte (λ h. OtherOfMenuState (record { byte = byte; unlisted = h }))
    (with_byte menu_state_byte byte Activated (Deactivated ∷ []))
