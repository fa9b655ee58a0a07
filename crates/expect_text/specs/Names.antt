-- Names in the header of a pattern (own): in its first word `@NAME` stands for each logical address that the device holds when the round
-- begins. A line of a round that says who holds which has them in its last word, `@NAME=ADDRESS@NAME=ADDRESS@`.
use Rattle.std.specs.Prelude.{ℕ, ◌+◌, ◌==◌, nat_le, ◌&&◌, ◌||◌, Bool, true, false, if◌then◌else◌, codes, length, take, drop, List, [], ◌∷◌, ◌++◌, Option, Some, None, option_map, is_some, Result, Ok, Err}
use Rattle.std.specs.List.{list_any}
use Rattle.text_core.specs.Lines.{lines_of}
use Rattle.text_core.specs.Words.{words_of}
use Rattle.expect_text.specs.Fits.{fits}
use Rattle.expect_text.specs.Form.{ExpectLine, form_in}
use Rattle.expect_text.specs.Form.ExpectLine.{Other, Rounds, State, Refused, Unremarked}
use Rattle.expect_text.specs.Line.{unlabelled_words}
use Rattle.expect_text.specs.Said.{is_said}
use Rattle.expect_text.specs.Senders.{Judged}
use Rattle.text_core.specs.declared.at.AtWord.{AtWord}
use Rattle.expect_text.specs.declared.form.ExpectCause.{ExpectCause}
use Rattle.expect_text.specs.declared.named.NamedPattern.{NamedPattern as NamedRead}

-- ---- the first name of a pattern

-- what stands before its `@`, the name, and what stands after it
pub record NamedPattern : Type 0 where
  pub front : List ℕ
  pub name : List ℕ
  pub rest : List ℕ

abbrev pub named_as : NamedRead → NamedPattern
named_as n = record { front = n.front.now; name = n.name.now; rest = n.rest.now }

-- the place of the first `@` of the first word
abbrev pub at_place : List ℕ → Option ℕ
at_place [] = None
at_place (b ∷ bs) = if b == 64 then Some 0 else if b == 32 then None else option_map (λ n. n + 1) (at_place bs)

-- how many bytes stand before the first `>` or space
abbrev pub name_length : List ℕ → ℕ
name_length [] = 0
name_length (b ∷ bs) = if (b == 62) || (b == 32) then 0 else name_length bs + 1

-- a name goes up to a `>`, a space, or the end
abbrev pub named_after : List ℕ → List ℕ → NamedPattern
named_after front text = record { front = front; name = take (name_length text) text; rest = drop (name_length text) text }

abbrev pub named_at : List ℕ → Option ℕ → Option NamedPattern
named_at pattern None = None
named_at pattern (Some place) = Some (named_after (take place pattern) (drop 1 (drop place pattern)))

-- a pattern has at most 160 bytes
unfoldable pub named_in : List ℕ → Option NamedPattern
named_in pattern = if nat_le (length pattern) 160 then named_at pattern (at_place pattern) else None

-- ---- addresses in the place of names

-- with this byte in the place of the name
abbrev pub with_byte : NamedPattern → ℕ → List ℕ
with_byte n b = n.front ++ b ∷ n.rest

-- one of these bytes that may stand for the name makes the pattern so
abbrev pub for_byte : (List ℕ → ℕ → Bool) → (List ℕ → Bool) → NamedPattern → List ℕ → Bool
for_byte may_be is_so n bytes = list_any (λ b. may_be n.name b && is_so (with_byte n b)) bytes

-- an address of a device is below 15
abbrev pub for_name : (List ℕ → ℕ → Bool) → (List ℕ → Bool) → List ℕ → Option NamedPattern → Bool
for_name may_be is_so pattern None = is_so pattern
for_name may_be is_so pattern (Some n) = for_byte may_be is_so n (codes "0123456789abcde")

-- an address in the place of the first name, where there is one
unfoldable pub for_first : (List ℕ → ℕ → Bool) → (List ℕ → Bool) → List ℕ → Bool
for_first may_be is_so pattern = for_name may_be is_so pattern (named_in pattern)

-- and in the place of the second one: a header has two
unfoldable pub for_names : (List ℕ → ℕ → Bool) → (List ℕ → Bool) → List ℕ → Bool
for_names may_be is_so pattern = for_first may_be (for_first may_be is_so) pattern

-- ---- who holds which address

-- what stands after the last space, or after the place so far
abbrev pub last_from : List ℕ → List ℕ → List ℕ
last_from word [] = word
last_from word (b ∷ bs) = if b == 32 then last_from bs bs else last_from word bs

abbrev pub last_word : List ℕ → List ℕ
last_word text = last_from text text

-- what stands after this front
abbrev pub after_front : List ℕ → List ℕ → Option (List ℕ)
after_front [] text = Some text
after_front (p ∷ ps) [] = None
after_front (p ∷ ps) (b ∷ bs) = if b == p then after_front ps bs else None

-- after a name comes `=`, the address and `@`
abbrev pub is_held_after : ℕ → Option (List ℕ) → Bool
is_held_after b None = false
is_held_after b (Some text) = is_some (after_front (61 ∷ b ∷ 64 ∷ []) text)

-- somewhere in the word stands `@`, the name, and that
abbrev pub holds_in : List ℕ → List ℕ → ℕ → Bool
holds_in [] name b = false
holds_in (x ∷ word) name b = ((x == 64) && is_held_after b (after_front name word)) || holds_in word name b

-- ---- patterns with names

-- What a line says meets a pattern that may have names: with one of the addresses that the line says that the device holds in the
-- place of each name, the pattern fits it.
unfoldable pub meets : List ℕ → List ℕ → Bool
meets pattern text = for_names (holds_in (last_word text)) (λ p. fits p text) pattern

-- the line of some round meets it, if the devices hold the right addresses
unfoldable pub is_meetable : Judged → List ℕ → Bool
is_meetable who pattern = for_names (λ name b. true) (is_said who) pattern

-- The word at fault of a pattern that is met by no line: the first with which its front is. At this place, in the word of this
-- number, these bytes are left.
abbrev pub unmet_from : Judged → List ℕ → ℕ → ℕ → List ℕ → ℕ
unmet_from who pattern place number [] = number
unmet_from who pattern place number (b ∷ bs) =
    if b == 32 then (if is_meetable who (take place pattern) then unmet_from who pattern (place + 1) (number + 1) bs else number)
    else unmet_from who pattern (place + 1) number bs

abbrev pub unmet_word : Judged → List ℕ → ℕ
unmet_word who pattern = unmet_from who pattern 0 0 pattern

-- ---- scripts with names

abbrev pub form_has_name : Result ExpectLine (AtWord ExpectCause) → Bool
form_has_name (Err cause) = false
form_has_name (Ok Other) = false
form_has_name (Ok (Rounds quantity window pattern)) = is_some (named_in pattern)
form_has_name (Ok (State time device words)) = false
form_has_name (Ok (Refused name word)) = false
form_has_name (Ok (Unremarked pattern)) = false

abbrev pub has_name : List ℕ → Bool
has_name line = form_has_name (form_in (unlabelled_words (words_of line)))

-- a line of the script has a pattern with a name
abbrev pub has_names : List ℕ → Bool
has_names script = list_any has_name (lines_of script)
