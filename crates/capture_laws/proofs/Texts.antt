-- The lines of an edge file, and their words.
use Rattle.std.proofs.Common.{◌≡◌, ℕ, suc, ◌^◌, ◌<◌, ◌≤◌, ◌==◌, true, false, nat_le, List, [], ◌∷◌, ◌++◌, length, refl, ap, ◌∙◌, arith, ne_eqb}
use Rattle.std.specs.Fmt.{decimal}
use Rattle.std.specs.Str.Parse.{AllDigits}
use Rattle.std.proofs.lemmas.Fmt.{decimal_is_IsNumeral, decimal_nonempty}
use Rattle.std.proofs.lemmas.Bool.Decides.{nat_tests}
use Rattle.std.proofs.lemmas.List.Splits.{slice_split_at, slice_split_none}
use Rattle.std.proofs.lemmas.List.Elements.{All-append}
use Rattle.line_wave.specs.Bounds.{latest_instant}
use Rattle.text_core.specs.Lines.{is_skipped}
use Rattle.text_core.specs.Words.{words_of}
use Rattle.capture_core.specs.Texts.{Lacks}
use Rattle.capture_core.proofs.Bytes.{no_byte}
use Rattle.capture_core.proofs.Numbers.{number_again}
use Rattle.capture_core.proofs.Texts.{more_lack, none_lack, number_lacks}
use Rattle.capture_monitor.specs.EdgeFile.{edge_line_of, edge_line_at, line_alone}

-- no byte of a text is this one
abbrev pub IsWithout : ℕ → List ℕ → Type 0
IsWithout b bytes = Lacks (λ c. c == b) bytes

pub more_without : (b c : ℕ) (bytes : List ℕ) → (c == b) ≡ false → IsWithout b bytes → IsWithout b (c ∷ bytes)
more_without b c bytes h more = more_lack (λ c. c == b) c bytes h more

pub one_without : (b c : ℕ) → (c == b) ≡ false → IsWithout b (c ∷ [])
one_without b c h = more_without b c [] h (none_lack (λ c. c == b))

-- a number has no byte below its digits
without : (b n : ℕ) → b < 48 → n < 2 ^ 64 → IsWithout b (decimal n)
without b n low small = number_lacks (λ c. c == b) n small (λ c h. no_byte b c h low)

-- a line of a time and a mark
abbrev pub timed : ℕ → List ℕ → List ℕ
timed t mark = decimal t ++ 32 ∷ mark

-- the words of a line
pub timed_words : (t : ℕ) (mark : List ℕ) → t < 2 ^ 64 → IsWithout 32 mark → words_of (timed t mark) ≡ decimal t ∷ mark ∷ []
timed_words t mark small plain =
    slice_split_at (λ b. b == 32) (decimal t) 32 mark (without 32 t (omega arith) small) refl ∙ ap (λ ws. decimal t ∷ ws) (slice_split_none (λ b. b == 32) mark plain)

pub timed_line : (t : ℕ) (mark : List ℕ) → t ≤ latest_instant → IsWithout 32 mark → edge_line_of (timed t mark) ≡ line_alone (edge_line_at t mark) []
timed_line t mark low plain =
    let within : nat_le t latest_instant ≡ true = grind (arith, nat_tests) in
    rw (timed_words t mark (omega arith) plain) (rw (number_again t (omega arith)) (rw within refl))

pub timed_plain : (t : ℕ) (mark : List ℕ) → t < 2 ^ 64 → IsWithout 10 mark → IsWithout 10 (timed t mark)
timed_plain t mark small plain = All-append (λ c. (c == 10) ≡ false) (decimal t) (32 ∷ mark) (without 10 t (omega arith) small) (more_without 10 32 mark refl plain)

skipped_by : (ds more : List ℕ) → 0 < length ds → AllDigits 10 ds → is_skipped (ds ++ more) ≡ false
skipped_by [] more some h = absurd (omega arith)
skipped_by (c ∷ cs) more some h = rw (ne_eqb (suc (length (cs ++ more))) 0 (omega arith), no_byte 35 c h.0 (omega arith)) refl

-- it is not skipped
pub timed_reported : (t : ℕ) (mark : List ℕ) → t < 2 ^ 64 → is_skipped (timed t mark) ≡ false
timed_reported t mark small = skipped_by (decimal t) (32 ∷ mark) (decimal_nonempty t small) (decimal_is_IsNumeral t small).0.1
