use Rattle.std.proofs.Common.{◌≡◌, ℕ, List, ◌++◌, length, true, flat_map}
use Rattle.edid_text_lines.specs.Text.{number_text}
use Rattle.edid_text_lines.specs.Formed.{BeginsSpaced, are_numbers}
use Rattle.edid_text_lines.proofs.Words.{Left}
use Rattle.edid_text_lines.proofs.text_to_line.read_numbers.Given as goal

abbrev pub invariant-numbers : goal.invariant-numbers
invariant-numbers l = record {
  count : length l.numbers.items ≡ l._i;
  left : (ns t : List ℕ) → length ns ≡ l.count → are_numbers ns ≡ true → BeginsSpaced t → flat_map number_text ns ++ t ≡ l.text → Left l.numbers.items ns t l.rest;
}
