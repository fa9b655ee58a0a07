-- The forms of a descriptor's 18 bytes (E-EDID Release A, sections 3.10.2 and 3.10.3): a detailed timing has a pixel clock that is not 0.
use Rattle.std.specs.Prelude.{ℕ, ◌+◌, ◌==◌, Bool, ◌&&◌, ◌||◌, not, nat_lt, List, slice_index, drop}
use Rattle.edid_base.specs.Bytes.{are_zeros}
use Rattle.edid_base.specs.Chars.{is_text_form}

abbrev pub is_timing : List ℕ → Bool
is_timing bytes = nat_lt 0 (slice_index bytes 0 + slice_index bytes 1)

abbrev pub has_text : List ℕ → Bool
has_text bytes = (slice_index bytes 4 == 0) && is_text_form (drop 5 bytes)

abbrev pub is_text_tag : ℕ → Bool
is_text_tag tag = (tag == 0xff) || (tag == 0xfe) || (tag == 0xfc)

-- a text, range limits, or a dummy
abbrev pub is_labelled : List ℕ → Bool
is_labelled bytes =
    let tag = slice_index bytes 3 in
    (slice_index bytes 2 == 0) && (
    (is_text_tag tag && has_text bytes) || (tag == 0xfd) || ((tag == 0x10) && are_zeros (drop 4 bytes)))

abbrev pub fits_no_form : List ℕ → Bool
fits_no_form bytes = not (is_timing bytes) && not (is_labelled bytes)
