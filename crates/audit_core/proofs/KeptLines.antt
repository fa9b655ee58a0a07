-- Without its remarks an audit is what a monitor writes.
use Rattle.std.proofs.Common.{◌≡◌, ◌≢◌, ℕ, zero, suc, ◌+◌, ◌/◌, ◌%◌, ◌==◌, Bool, true, false, not, nat_lt, if◌then◌else◌, List, [], ◌∷◌, ◌++◌, filter, refl, sym, ap, ◌∙◌, append-nil, append_assoc, arith}
use Rattle.std.specs.Fmt.{decimal, digit_glyph, digits, digits_onto}
use Rattle.std.specs.List.{flat_map}
use Rattle.std.proofs.lemmas.Bool.Decides.{nat_tests}
use Rattle.line_reading.specs.Readings.{Listed, readings_of}
use Rattle.text_core.specs.Lines.{lines_of}
use Rattle.capture_core.specs.Edges.{line_of_edges}
use Rattle.capture_core.specs.Texts.{Lacks}
use Rattle.capture_core.proofs.Texts.{line_before, more_lack, none_lack}
use Rattle.message_text.specs.ReadingText.{reading_text}
use Rattle.capture_monitor.specs.Watch.{listed_line, reading_as, readings_text}
use Rattle.audit_core.specs.Audit.{audit_text}
use Rattle.audit_core.specs.Kept.{AllRemarks, AreKept, AreRemarks, AuditsKeepReadings, IsPlain, IsRemark, is_remark, without_remarks}
use Rattle.audit_core.proofs.KeptReadings.{are_kept}
use Rattle.audit_core.proofs.OneLine.{plain_reading}

-- ---- one line before the rest

lacks : (xs : List ℕ) → IsPlain xs → Lacks (λ c. c == 10) xs
lacks [] h = none_lack (λ c. c == 10)
lacks (c ∷ cs) h = more_lack (λ c. c == 10) c cs (by (c == 10) refl) (lacks cs h.1)
  where
    by : (b : Bool) → (c == 10) ≡ b → (c == 10) ≡ false
    by false e = e
    by true e = absurd (h.0 (let x : c ≡ 10 = grind (arith, nat_tests) in x))

one_line : (line rest : List ℕ) → IsPlain line → lines_of (line ++ 10 ∷ rest) ≡ line ∷ lines_of rest
one_line line rest h = line_before line rest (lacks line h)

closing : (line rest : List ℕ) → (line ++ 10 ∷ []) ++ rest ≡ line ++ 10 ∷ rest
closing line rest = append_assoc line (10 ∷ []) rest

-- a line that begins so is left out, or stays
pub by_line : (line rest : List ℕ) (b : Bool) → is_remark line ≡ b → IsPlain line → without_remarks ((line ++ 10 ∷ []) ++ rest) ≡ (if b then without_remarks rest else (line ++ 10 ∷ []) ++ without_remarks rest)
by_line line rest b e h =
    ap without_remarks (closing line rest)
    ∙ ap (λ (ls : List (List ℕ)). flat_map (λ (l : List ℕ). l ++ 10 ∷ []) (filter (λ (l : List ℕ). not (is_remark l)) ls)) (one_line line rest h)
    ∙ ap (λ (c : Bool). flat_map (λ (l : List ℕ). l ++ 10 ∷ []) (if not c then line ∷ filter (λ (l : List ℕ). not (is_remark l)) (lines_of rest) else filter (λ (l : List ℕ). not (is_remark l)) (lines_of rest))) e
    ∙ chosen b
  where
    chosen : (c : Bool) → flat_map (λ (l : List ℕ). l ++ 10 ∷ []) (if not c then line ∷ filter (λ (l : List ℕ). not (is_remark l)) (lines_of rest) else filter (λ (l : List ℕ). not (is_remark l)) (lines_of rest))
        ≡ (if c then without_remarks rest else (line ++ 10 ∷ []) ++ without_remarks rest)
    chosen true = refl
    chosen false = refl

pub remark_gone : (line rest : List ℕ) → IsRemark line → without_remarks (line ++ rest) ≡ without_remarks rest
remark_gone [] rest h = absurd h
remark_gone (a ∷ []) rest h = absurd h
remark_gone (a ∷ b ∷ more) rest h =
    ap (λ (l : List ℕ). without_remarks (a ∷ b ∷ l ++ rest)) h.2.same
    ∙ by_line (a ∷ b ∷ h.2.rest) rest true (ap (λ (x : ℕ). x == 32) h.0) (not_feed a h.0, (not_feed b h.1, h.2.plain))
  where
    not_feed : (c : ℕ) → c ≡ 32 → c ≢ 10
    not_feed c e = λ p. absurd (omega arith)

remarks_gone : (lines : List (List ℕ)) (rest : List ℕ) → AllRemarks lines → without_remarks (flat_map (λ line. line) lines ++ rest) ≡ without_remarks rest
remarks_gone [] rest h = refl
remarks_gone (line ∷ lines) rest h =
    ap without_remarks (append_assoc line (flat_map (λ line. line) lines) rest) ∙ remark_gone line (flat_map (λ line. line) lines ++ rest) h.0 ∙ remarks_gone lines rest h.1

text_gone : (text rest : List ℕ) → AreRemarks text → without_remarks (text ++ rest) ≡ without_remarks rest
text_gone text rest h = ap (λ (t : List ℕ). without_remarks (t ++ rest)) h.same ∙ remarks_gone h.lines rest h.each

-- ---- the line of a reading

-- it does not begin with a space
abbrev Begins : List ℕ → Type 0
Begins [] = ⊥
Begins (c ∷ cs) = (c == 32) ≡ false

glyph : (n : ℕ) → (digit_glyph false n == 32) ≡ false
glyph n = by (nat_lt n 10)
  where
    by : (b : Bool) → ((if b then 48 + n else 87 + n) == 32) ≡ false
    by true = grind (arith, nat_tests)
    by false = grind (arith, nat_tests)

begins_onto : (k n : ℕ) (acc : List ℕ) → Begins acc → Begins (digits_onto k 10 false n acc)
begins_onto zero n acc h = h
begins_onto (suc k) n acc h = by (n / 10 == 0) (begins_onto k (n / 10) (digit_glyph false (n % 10) ∷ acc) (glyph (n % 10)))
  where
    by : (b : Bool) → Begins (digits_onto k 10 false (n / 10) (digit_glyph false (n % 10) ∷ acc)) → Begins (if b then digit_glyph false (n % 10) ∷ acc else digits_onto k 10 false (n / 10) (digit_glyph false (n % 10) ∷ acc))
    by true more = glyph (n % 10)
    by false more = more

begins_decimal : (n : ℕ) → Begins (decimal n)
unfolding digits
begins_decimal n = by (n / 10 == 0) (begins_onto 63 (n / 10) (digit_glyph false (n % 10) ∷ []) (glyph (n % 10)))
  where
    by : (b : Bool) → Begins (digits_onto 63 10 false (n / 10) (digit_glyph false (n % 10) ∷ [])) → Begins (if b then digit_glyph false (n % 10) ∷ [] else digits_onto 63 10 false (n / 10) (digit_glyph false (n % 10) ∷ []))
    by true more = glyph (n % 10)
    by false more = more

no_remark : (front rest : List ℕ) → Begins front → is_remark (front ++ rest) ≡ false
no_remark [] rest h = absurd h
no_remark (c ∷ cs) rest h = h

reading_stays : (x : Listed) (rest : List ℕ) → without_remarks (listed_line x ++ rest) ≡ listed_line x ++ without_remarks rest
reading_stays x rest = by_line (reading_text (reading_as x)) rest false (no_remark (decimal x.begin) _ (begins_decimal x.begin)) (plain_reading (reading_as x))

-- ---- all of them

kept_lines : (xs : List Listed) (text : List ℕ) → AreKept xs text → without_remarks text ≡ readings_text xs
kept_lines [] text h = ap without_remarks (sym (append-nil text)) ∙ text_gone text [] h
kept_lines (x ∷ xs) text h =
    ap without_remarks (h.4 ∙ append_assoc (listed_line x) h.0 h.1) ∙ reading_stays x (h.0 ++ h.1)
    ∙ ap (λ (t : List ℕ). listed_line x ++ t) (text_gone h.0 h.1 h.2 ∙ kept_lines xs h.1 h.3)

pub audits_keep_readings : AuditsKeepReadings
audits_keep_readings timing c =
    let k = are_kept timing c in
    record { parts = k; lines = kept_lines (readings_of (line_of_edges c.edges) c.end) (audit_text timing c) k }
