-- The frames of such a line are all in order.
use Rattle.std.proofs.Common.{◌≡◌, ℕ, suc, ◌+◌, ◌-◌, ◌≤◌, Bool, true, false, nat_le, ◌&&◌, List, [], ◌∷◌, ◌++◌, map, length, Option, Some, None, is_none, refl, sym, ◌∙◌, ap, arith}
use Rattle.std.specs.List.{filter_map, cons_option, list_all}
use Rattle.std.proofs.lemmas.Bool.Decides.{nat_tests}
use Rattle.line_wave.specs.declared.Edge.{Edge}
use Rattle.line_wave.specs.declared.Stretch.{Stretch}
use Rattle.line_wave.specs.Sender.{low_of, slot_stretches}
use Rattle.capture_core.specs.Edges.{edges_of}
use Rattle.audit_widths.specs.Lows.{low_at}
use Rattle.audit_widths.specs.Spreads.{sum_of}
use Rattle.audit_pieces.specs.declared.piece.Slot.{Slot}
use Rattle.audit_pieces.specs.Pieces.{Whole}
use Rattle.audit_pieces.specs.Slots.{bit_of}
use Rattle.audit_judged.specs.Endings.{goes_on_after, said_of}
use Rattle.audit_judged.specs.Widths.{kinds_in_order, remark_for}
use Rattle.piece_audit.specs.Wide.{lows_from}
use Rattle.capture_signs.specs.declared.sums.Sign.TheVariants.{StuckTime}
use Rattle.capture_signs.specs.Pieces.{count_where, has_its_widths, is_allowed, is_frame, is_headed, is_in_order, is_read, is_rest}
use Rattle.capture_signs.specs.Signs.{amount, signed, stuck_time}
use Rattle.capture_signs.specs.Sums.{one_if}
use Rattle.verdict_laws.specs.Sent.{AreBlocks, AreSent, Sent, wave_of}
use Rattle.verdict_laws.specs.Frames.{AreFramesOf, IsFrameOf}
use Rattle.verdict_laws.specs.Verdicts.{count_of}
use Rattle.verdict_laws.proofs.Slots.{width_is}

-- ---- a frame

none_each : {A B : Type 0} (f : A → Option B) (xs : List A) → filter_map f xs ≡ [] → list_all (λ x. is_none (f x)) xs ≡ true
none_each f [] h = refl
none_each {A} {B} f (x ∷ xs) h = by (f x) h (λ g. none_each f xs g)
  where
    by : (o : Option B) → cons_option o (filter_map f xs) ≡ [] → (filter_map f xs ≡ [] → list_all (λ y. is_none (f y)) xs ≡ true) → (is_none o && list_all (λ y. is_none (f y)) xs) ≡ true
    by None g more = more g
    by (Some y) g more = absurd cc

ordered_by : (frame said none widths : Bool) → frame ≡ true → said ≡ true → none ≡ true → widths ≡ true → (frame && (said && (none && widths))) ≡ true
ordered_by frame said none widths f s n w = rw (f, s, n, w) refl

in_order : (s : Sent) (p : Whole) → IsFrameOf s p → is_in_order p ≡ true
in_order s p f =
    ordered_by (is_frame p) (is_allowed (said_of p)) (is_none (goes_on_after p)) (has_its_widths p) f.framed f.ends (ap (λ (o : Option ℕ). is_none o) f.stops)
    (none_each (remark_for 1 p) kinds_in_order (f.widths 1))

mapped : (slots : List Slot) → length (map bit_of slots) ≡ length slots
mapped [] = refl
mapped (slot ∷ slots) = ap (λ (n : ℕ). suc n) (mapped slots)

headed : (s : Sent) (p : Whole) → AreBlocks s.bits → IsFrameOf s p → is_headed p ≡ true
headed s p b f = both (is_frame p) (nat_le 10 (length p.parts.slots)) f.framed (ten (length p.parts.slots) (let long = b.long in let some = b.some in omega (arith, long, some, same)))
  where
    same : length p.parts.slots ≡ length s.bits
    same = sym (mapped p.parts.slots) ∙ ap length f.bits

    ten : (n : ℕ) → 10 ≤ n → nat_le 10 n ≡ true
    ten n h = grind (arith, nat_tests)

    both : (a c : Bool) → a ≡ true → c ≡ true → (a && c) ≡ true
    both a c e g = rw (e, g) refl

read : (s : Sent) (p : Whole) → AreBlocks s.bits → IsFrameOf s p → is_read p ≡ true
read s p b f = both (is_in_order p) (is_headed p) (in_order s p f) (headed s p b f)
  where
    both : (a c : Bool) → a ≡ true → c ≡ true → (a && c) ≡ true
    both a c e g = rw (e, g) refl

-- ---- how many

one_more : (test : Bool) (n m : ℕ) → test ≡ true → n ≡ m → sum_of (one_if test) n ≡ sum_of 1 m
one_more test n m e f = ap (λ (b : Bool). sum_of (one_if b) n) e ∙ ap (λ (k : ℕ). sum_of 1 k) f

pub frames_are : (sent : List Sent) (ps : List Whole) → AreFramesOf sent ps → count_where is_frame ps ≡ count_of sent
frames_are [] [] h = refl
frames_are [] (p ∷ ps) h = absurd h
frames_are (s ∷ ss) [] h = absurd h
frames_are (s ∷ ss) (p ∷ ps) (f, more) = one_more (is_frame p) (count_where is_frame ps) (count_of ss) f.framed (frames_are ss ps more)

pub in_order_are : (sent : List Sent) (ps : List Whole) → AreFramesOf sent ps → count_where is_in_order ps ≡ count_of sent
in_order_are [] [] h = refl
in_order_are [] (p ∷ ps) h = absurd h
in_order_are (s ∷ ss) [] h = absurd h
in_order_are (s ∷ ss) (p ∷ ps) (f, more) = one_more (is_in_order p) (count_where is_in_order ps) (count_of ss) (in_order s p f) (in_order_are ss ps more)

pub read_are : (sent : List Sent) (ps : List Whole) → AreSent sent → AreFramesOf sent ps → count_where is_read ps ≡ count_of sent
read_are [] [] a h = refl
read_are [] (p ∷ ps) a h = absurd h
read_are (s ∷ ss) [] a h = absurd h
read_are (s ∷ ss) (p ∷ ps) (b, before, a) (f, more) = one_more (is_read p) (count_where is_read ps) (count_of ss) (read s p b f) (read_are ss ps a more)

no_more : (test : Bool) (n : ℕ) → test ≡ false → n ≡ 0 → sum_of (one_if test) n ≡ 0
no_more test n e f = ap (λ (b : Bool). sum_of (one_if b) n) e ∙ ap (λ (k : ℕ). sum_of 0 k) f

pub rests_are : (sent : List Sent) (ps : List Whole) → AreFramesOf sent ps → count_where is_rest ps ≡ 0
rests_are [] [] h = refl
rests_are [] (p ∷ ps) h = absurd h
rests_are (s ∷ ss) [] h = absurd h
rests_are (s ∷ ss) (p ∷ ps) (f, more) = no_more (is_rest p) (count_where is_rest ps) f.begun (rests_are ss ps more)

-- ---- no low is too long

abbrev stuck_in : ℕ → List Stretch → ℕ
stuck_in end ss = signed StuckTime end (lows_from (edges_of ss))

amount_is : (end fall : ℕ) (r : Edge) (es : List Edge) → amount StuckTime end (low_at fall (r ∷ es)) ≡ stuck_time (r.at - fall)
amount_is end fall r [] = refl
amount_is end fall r (e ∷ es) = refl

not_stuck : (end : ℕ) (s : Stretch) (ss : List Stretch) → stuck_time (s.to - s.from) ≡ 0 → stuck_in end ss ≡ 0 → stuck_in end (s ∷ ss) ≡ 0
not_stuck end s ss e f =
    ap (λ (n : ℕ). sum_of n (stuck_in end ss)) (amount_is end s.from (record { at = s.to; low = false }) (edges_of ss) ∙ e) ∙ ap (λ (n : ℕ). sum_of 0 n) f

slot_short : (fall : ℕ) (bit : Bool) → stuck_time (fall + low_of bit - fall) ≡ 0
slot_short fall true = ap (λ (n : ℕ). stuck_time n) (width_is fall 600)
slot_short fall false = ap (λ (n : ℕ). stuck_time n) (width_is fall 1500)

slots_short : (end fall : ℕ) (bits : List Bool) (rest : List Stretch) → stuck_in end rest ≡ 0 → stuck_in end (slot_stretches fall bits ++ rest) ≡ 0
slots_short end fall [] rest h = h
slots_short end fall (bit ∷ bits) rest h =
    not_stuck end (record { from = fall; to = fall + low_of bit }) (slot_stretches (fall + 2400) bits ++ rest) (slot_short fall bit) (slots_short end (fall + 2400) bits rest h)

pub none_stuck : (end : ℕ) (sent : List Sent) → stuck_in end (wave_of sent) ≡ 0
none_stuck end [] = refl
none_stuck end (s ∷ ss) =
    not_stuck end (record { from = s.begin; to = s.begin + 3700 }) (slot_stretches (s.begin + 4500) s.bits ++ wave_of ss) (ap (λ (n : ℕ). stuck_time n) (width_is s.begin 3700))
    (slots_short end (s.begin + 4500) s.bits (wave_of ss) (none_stuck end ss))
