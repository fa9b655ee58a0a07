-- Lines of a dump, and their words.
use Rattle.std.proofs.Common.{◌≡◌, ℕ, ◌^◌, ◌<◌, ◌==◌, false, List, [], ◌∷◌, refl, arith}
use Rattle.std.specs.Fmt.{decimal}
use Rattle.std.specs.Char.{digit_value}
use Rattle.std.proofs.lemmas.Bool.Decides.{nat_tests}
use Rattle.std.proofs.lemmas.List.Splits.{slice_split_none}
use Rattle.capture_core.specs.Texts.{Lacks}
use Rattle.capture_core.proofs.Texts.{none_lack, more_lack, number_lacks, number_plain}
use Rattle.capture_vcd.specs.Dump.{is_space, parts_of}
use Rattle.capture_vcd.specs.Text.{time_line}

digit_space : (c : ℕ) → digit_value c < 10 → is_space c ≡ false
digit_space c h = grind (arith, nat_tests)

-- a line with a value
abbrev pub value_line : ℕ → List ℕ
value_line v = v ∷ 33 ∷ []

pub time_plain : (t : ℕ) → t < 2 ^ 64 → Lacks (λ c. c == 10) (time_line t)
time_plain t small = more_lack (λ c. c == 10) 35 (decimal t) refl (number_plain t small)

pub value_plain : (v : ℕ) → (v == 10) ≡ false → Lacks (λ c. c == 10) (value_line v)
value_plain v h = more_lack (λ c. c == 10) v (33 ∷ []) h (more_lack (λ c. c == 10) 33 [] refl (none_lack (λ c. c == 10)))

pub time_parts : (t : ℕ) → t < 2 ^ 64 → parts_of (time_line t) ≡ time_line t ∷ []
time_parts t small = slice_split_none is_space (35 ∷ decimal t) (more_lack is_space 35 (decimal t) refl (number_lacks is_space t small digit_space))

pub value_parts : (v : ℕ) → is_space v ≡ false → parts_of (value_line v) ≡ value_line v ∷ []
value_parts v h = slice_split_none is_space (v ∷ 33 ∷ []) (more_lack is_space v (33 ∷ []) h (more_lack is_space 33 [] refl (none_lack is_space)))
