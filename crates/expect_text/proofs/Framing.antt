-- Each text of the parts of a line is that of a frame, or of bits.
use Rattle.std.proofs.Common.{◌≡◌, ℕ, ◌+◌, ◌*◌, ◌/◌, ◌%◌, ◌<◌, ◌≤◌, ◌==◌, nat_lt, nat_le, ◌&&◌, inl, inr, Bool, true, false, length, List, [], ◌∷◌, ◌++◌, refl, sym, ap, subst, ◌∙◌, arith, true≢false}
use Rattle.std.proofs.lemmas.Grind.{common_steps}
use Rattle.std.proofs.lemmas.List.{append_assoc}
use Rattle.text_core.specs.Bytes.{are_bytes}
use Rattle.message_table.specs.Table.{operands_of}
use Rattle.message_text.specs.FrameText.{header_text, opcode_text, operands_text}
use Rattle.message_text.specs.FrameReading.{is_frame}
use Rattle.message_text.specs.ReadingText.{verdict_by}
use Rattle.expect_text.specs.Parts.{IsTextBefore, IsTextOf, has}
use Rattle.expect_text.specs.Said.{IsSaid, ending_word, header_parts, literal, opcode_parts, verdict_parts}
use Rattle.expect_text.specs.Senders.{IsTail, Judged}
use Rattle.expect_text.specs.declared.part.PatternPart.TheVariants.{Byte, Opcode}
use Rattle.expect_text.specs.declared.part.Class.TheVariants.{Hex, Directed}
use Rattle.expect_text.proofs.Meeting.{append_none}
use Rattle.expect_text.proofs.Readings.{digit}
use Rattle.expect_text.proofs.Spelling.{BitsBefore, IsEndingSpelled, IsFrameSpelled, IsPollSpelled, IsSpelled}
use Rattle.expect_text.proofs.Truth.{and_both}
use Rattle.expect_text.proofs.Wording.{digit_of}
use Rattle.expect_text.proofs.Splits.{parted, halves, below, up_to}
use Rattle.expect_text.proofs.Rows.{operands_were}

-- ---- lines

a_directed : (b : ℕ) → has Directed b ≡ true → has Hex b ≡ true
a_directed b h = grind (arith, common_steps)

-- no digit of 15
not_to_all : (n b : ℕ) → n < 16 → digit n ≡ b → has Directed b ≡ true → (n == 15) ≡ false
not_to_all n b l e h = by (n == 15) refl
  where
    by : (c : Bool) → (n == 15) ≡ c → c ≡ false
    by false k = refl
    by true k =
        let same : n ≡ 15 = grind (arith, common_steps) in
        let letter : has Directed 102 ≡ true = subst (λ (x : ℕ). has Directed x ≡ true) (sym e ∙ ap digit same) h in
        absurd (true≢false (sym letter))

abbrev HasHeader : Bool → List ℕ → Type 0
HasHeader is_broadcast t = (header : ℕ) × (nat_lt header 256 ≡ true) × ((header % 16 == 15) ≡ is_broadcast) × (t ≡ header_text header)

header_by : (is_broadcast : Bool) (x y a b : ℕ) (t : List ℕ) → x < 16 → y < 16 → digit x ≡ a → digit y ≡ b → (y == 15) ≡ is_broadcast → t ≡ a ∷ 62 ∷ b ∷ [] → HasHeader is_broadcast t
header_by is_broadcast x y a b t lx ly ea eb to e =
    let up : (x * 16 + y) / 16 ≡ x = omega arith in
    let down : (x * 16 + y) % 16 ≡ y = omega arith in (
      x * 16 + y,
      grind (arith, common_steps),
      ap (λ (n : ℕ). n == 15) down ∙ to,
      e ∙ sym (ap (λ (n : ℕ). n ∷ 62 ∷ digit ((x * 16 + y) % 16) ∷ []) (ap digit up ∙ ea) ∙ ap (λ (n : ℕ). a ∷ 62 ∷ n ∷ []) (ap digit down ∙ eb)),
    )

header_was : (is_broadcast : Bool) (t : List ℕ) → IsTextOf (header_parts is_broadcast) t → HasHeader is_broadcast t
unfolding header_parts
header_was true t s =
    let x = digit_of s.0 s.2 in
    let more = s.4 in
    header_by true x.0 15 s.0 102 t x.1 (omega arith) x.2 refl refl (s.3 ∙ ap (λ (u : List ℕ). s.0 ∷ u) (more.1 ∙ ap (λ (u : List ℕ). 62 ∷ u) (more.2.1 ∙ ap (λ (u : List ℕ). 102 ∷ u) more.2.2)))
header_was false t s =
    let x = digit_of s.0 s.2 in
    let more = s.4 in
    let b = more.2.0 in
    let y = digit_of b (a_directed b more.2.2) in
    header_by false x.0 y.0 s.0 b t x.1 y.1 x.2 y.2 (not_to_all y.0 b y.1 y.2 more.2.2)
    (s.3 ∙ ap (λ (u : List ℕ). s.0 ∷ u) (more.1 ∙ ap (λ (u : List ℕ). 62 ∷ u) (more.2.3 ∙ ap (λ (u : List ℕ). b ∷ u) more.2.4)))

opcode_was : (is_broadcast : Bool) (code : ℕ) (t : List ℕ) → IsTextOf (opcode_parts is_broadcast code) t
    → (header : ℕ) × (nat_lt header 256 ≡ true) × ((header % 16 == 15) ≡ is_broadcast) × (t ≡ header_text header ++ (32 ∷ opcode_text code))
unfolding opcode_parts
opcode_was is_broadcast code t s =
    let d = halves (header_parts is_broadcast) (Byte 32 ∷ Opcode code ∷ []) t s in
    let h = header_was is_broadcast d.0 d.2 in
    let word : d.1 ≡ 32 ∷ opcode_text code = d.3.1 ∙ ap (λ (u : List ℕ). 32 ∷ u) (d.3.2.1 ∙ ap (λ (u : List ℕ). opcode_text code ++ u) d.3.2.2 ∙ append_none (opcode_text code)) in
    (h.0, h.1, h.2, d.4 ∙ ap (λ (u : List ℕ). u ++ d.1) h.3 ∙ ap (λ (u : List ℕ). header_text h.0 ++ u) word)

regrouped : (h o p a : List ℕ) → (h ++ o) ++ (p ++ a) ≡ (h ++ (o ++ p)) ++ a
regrouped h o p a = append_assoc h o (p ++ a) ∙ ap (λ (x : List ℕ). h ++ x) (sym (append_assoc o p a)) ∙ sym (append_assoc h (o ++ p) a)

literal_before_was : (Rest : List ℕ → Type 0) (word text : List ℕ) → IsTextBefore Rest (literal word) text → (u : List ℕ) × Rest u × (text ≡ word ++ u)
literal_before_was Rest [] text s = (text, s, refl)
literal_before_was Rest (b ∷ bs) text s = let r = literal_before_was Rest bs s.0 s.2 in (r.0, r.1, s.1 ∙ ap (λ (x : List ℕ). b ∷ x) r.2)

module _ (who : Judged) where
  verdict_was : (is_broadcast last_bit : Bool) (text : List ℕ) → IsTextBefore (IsTail who) (verdict_parts is_broadcast last_bit) text
      → (u : List ℕ) × IsTail who u × (text ≡ verdict_by is_broadcast last_bit ++ u)
  unfolding verdict_parts
  verdict_was is_broadcast last_bit text s = literal_before_was (IsTail who) (verdict_by is_broadcast last_bit) text s

  poll_said : (text : List ℕ) → IsPollSpelled who text → IsSaid who text
  poll_said text (is_broadcast, last_bit, s) =
      let d = parted (IsTail who) (header_parts is_broadcast) (verdict_parts is_broadcast last_bit) text s in
      let h = header_was is_broadcast d.0 d.2 in
      let v = verdict_was is_broadcast last_bit d.1 d.3 in
      inl (
        h.0 ∷ [],
        last_bit,
        v.0,
        and_both true (nat_lt h.0 256 && true) refl (and_both (nat_lt h.0 256) true h.1 refl),
        v.1,
        d.4 ∙ ap (λ (x : List ℕ). x ++ d.1) h.3 ∙ ap (λ (x : List ℕ). header_text h.0 ++ x) v.2 ∙ ap (λ (c : Bool). header_text h.0 ++ (verdict_by c last_bit ++ v.0)) (sym h.2),
      )

  a_frame : (header code : ℕ) (xs : List ℕ) → nat_lt header 256 ≡ true → nat_lt code 256 ≡ true → are_bytes xs ≡ true → length xs ≤ 14 → is_frame (header ∷ code ∷ xs) ≡ true
  a_frame header code xs h k m few =
      and_both (nat_le 1 (length (header ∷ code ∷ xs)) && nat_le (length (header ∷ code ∷ xs)) 16) (are_bytes (header ∷ code ∷ xs))
      (and_both (nat_le 1 (length (header ∷ code ∷ xs))) (nat_le (length (header ∷ code ∷ xs)) 16) (up_to 1 (length (header ∷ code ∷ xs)) (omega arith)) (up_to (length (header ∷ code ∷ xs)) 16 (omega (arith, few))))
      (and_both (nat_lt header 256) (nat_lt code 256 && are_bytes xs) h (and_both (nat_lt code 256) (are_bytes xs) k m))

  frame_is_said : (text : List ℕ) → IsFrameSpelled who text → IsSaid who text
  frame_is_said text (is_broadcast, last_bit, code, place, parts, less, e, s) =
      let d = parted (IsTail who) (opcode_parts is_broadcast code) (parts ++ verdict_parts is_broadcast last_bit) text s in
      let h = opcode_was is_broadcast code d.0 d.2 in
      let r = parted (IsTail who) parts (verdict_parts is_broadcast last_bit) d.1 d.3 in
      let o = operands_were (operands_of code) r.0 (place, parts, e, r.2) in
      let v = verdict_was is_broadcast last_bit r.1 r.3 in
      let after = verdict_by is_broadcast last_bit ++ v.0 in
      let back : d.1 ≡ operands_text (operands_of code) o.0 ++ after = r.4 ∙ ap (λ (x : List ℕ). x ++ r.1) (sym o.3) ∙ ap (λ (x : List ℕ). operands_text (operands_of code) o.0 ++ x) v.2 in
      let whole : text ≡ (header_text h.0 ++ ((32 ∷ opcode_text code) ++ operands_text (operands_of code) o.0)) ++ after =
      d.4 ∙ ap (λ (x : List ℕ). x ++ d.1) h.3 ∙ ap (λ (x : List ℕ). (header_text h.0 ++ (32 ∷ opcode_text code)) ++ x) back
      ∙ regrouped (header_text h.0) (32 ∷ opcode_text code) (operands_text (operands_of code) o.0) after in
      inl (
        h.0 ∷ code ∷ o.0,
        last_bit,
        v.0,
        a_frame h.0 code o.0 h.1 (below code 256 less) o.1 o.2,
        v.1,
        whole ∙ ap (λ (c : Bool). (header_text h.0 ++ ((32 ∷ opcode_text code) ++ operands_text (operands_of code) o.0)) ++ (verdict_by c last_bit ++ v.0)) (sym h.2),
      )

  ending_said : (text : List ℕ) → IsEndingSpelled who text → IsSaid who text
  ending_said text (ending, place, e, s) =
      let d = literal_before_was (BitsBefore who ending) (ending_word ending) text s in
      inr (ending, place, d.1.0, d.1.1, e, d.1.2, d.1.3, d.2 ∙ ap (λ (x : List ℕ). ending_word ending ++ x) d.1.4)

  pub spelled_is_said : (text : List ℕ) → IsSpelled who text → IsSaid who text
  spelled_is_said text (inl s) = poll_said text s
  spelled_is_said text (inr (inl s)) = frame_is_said text s
  spelled_is_said text (inr (inr s)) = ending_said text s
