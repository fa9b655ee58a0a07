-- The verdict of a line on which frames are sent with the nominal times.
use Rattle.std.proofs.Common.{◌≡◌, ℕ, ◌-◌, ◌/◌, ◌==◌, Bool, true, false, nat_lt, nat_le, ◌&&◌, if◌then◌else◌, List, [], ◌∷◌, Option, Some, None, refl, sym, ◌∙◌, ap, subst, arith}
use Rattle.std.proofs.lemmas.Bool.Decides.{nat_tests}
use Rattle.line_wave.specs.declared.Edge.{Edge}
use Rattle.capture_core.specs.Edges.{Captured, edges_of}
use Rattle.audit_widths.specs.Spreads.{sum_of}
use Rattle.audit_pieces.specs.Pieces.{Whole}
use Rattle.capture_advice.specs.declared.widening.Widening.{Widening}
use Rattle.capture_signs.specs.declared.pieces.PieceCounts.{PieceCounts}
use Rattle.capture_signs.specs.declared.sums.Sign.TheVariants.{StuckTime}
use Rattle.capture_verdict.specs.declared.verdict.Verdict.{Verdict}
use Rattle.capture_verdict.specs.declared.verdict.Verdict.TheVariants.{Empty, Idle, Fine, MidFrame}
use Rattle.capture_verdict.specs.Lists.{first_some, or_else, value_or}
use Rattle.capture_verdict.specs.Verdicts.{bus_of, clock_of, fine_by, fine_of, glitches_of, hum_of, inverted_of, is_most, is_steady, is_stuck, nearly_of, odd_of, pieces, pieces_in, rate_of, short_of, silent_of, steady_verdict, stuck_of, sum, unit_of, verdict_by}
use Rattle.verdict_laws.specs.Sent.{AreSent, Sent, wave_of}
use Rattle.verdict_laws.specs.Frames.{AreFramesOf}
use Rattle.verdict_laws.specs.Verdicts.{SentLinesAreFine, count_of, verdict_for}
use Rattle.verdict_laws.proofs.Frames.{sent_lines}
use Rattle.verdict_laws.proofs.Counts.{frames_are, in_order_are, none_stuck, read_are, rests_are}

abbrev captured : ℕ → List Sent → Captured
captured end sent = record { edges = edges_of (wave_of sent); end = end }

-- ---- the first that holds

second : {X : Type 0} (d x : X) (o p rest : Option X) → o ≡ None → p ≡ Some x → value_or d (or_else o (or_else p rest)) ≡ x
second d x o p rest e f = rw (e, f) refl

first : {X : Type 0} (d x : X) (o rest : Option X) → o ≡ Some x → value_or d (or_else o rest) ≡ x
first d x o rest e = rw e refl

abbrev after_fine : Captured → Widening → List (Option Verdict)
after_fine c w =
    hum_of 20000 c ∷ hum_of 16667 c ∷ hum_of 10000 c ∷ hum_of 8333 c ∷ inverted_of c ∷ glitches_of c ∷ unit_of c ∷ stuck_of c ∷ rate_of c ∷ nearly_of w ∷ clock_of c ∷ bus_of c ∷ short_of c ∷ []

fine_first : (c : Captured) (w : Widening) (v : Verdict) → silent_of c ≡ None → fine_of c ≡ Some v → verdict_by c w ≡ v
fine_first c w v e f = second (odd_of c) v (silent_of c) (fine_of c) (first_some (after_fine c w)) e f

silent_first : (c : Captured) (w : Widening) (v : Verdict) → silent_of c ≡ Some v → verdict_by c w ≡ v
silent_first c w v e = first (odd_of c) v (silent_of c) (first_some (fine_of c ∷ after_fine c w)) e

-- ---- nobody sends

silent_is : (end : ℕ) → silent_of (captured end []) ≡ Some (if end == 0 then Empty else Idle end)
unfolding silent_of
silent_is end = refl

-- ---- somebody does

not_silent : (end : ℕ) (s : Sent) (ss : List Sent) → silent_of (captured end (s ∷ ss)) ≡ None
unfolding silent_of
not_silent end s ss = refl

sum_is : (end : ℕ) (sent : List Sent) → sum StuckTime (captured end sent) ≡ 0
unfolding sum
sum_is end sent = none_stuck end sent

never_most : (end : ℕ) → is_most 0 end ≡ false
never_most end = grind (arith, nat_tests)

not_stuck : (end : ℕ) (sent : List Sent) → is_stuck (captured end sent) ≡ false
unfolding is_stuck
not_stuck end sent = ap (λ (n : ℕ). is_most n end) (sum_is end sent) ∙ never_most end

abbrev pieces_for : ℕ → List Sent → List Whole
pieces_for end sent = pieces_in (captured end sent)

are_frames : (end : ℕ) (sent : List Sent) → AreSent sent → AreFramesOf sent (pieces_for end sent)
are_frames end sent h = sent_lines end (Some 0) sent h

frames : (end : ℕ) (sent : List Sent) → AreSent sent → (pieces (captured end sent)).frames ≡ count_of sent
unfolding pieces
frames end sent h = frames_are sent (pieces_for end sent) (are_frames end sent h)

in_order : (end : ℕ) (sent : List Sent) → AreSent sent → (pieces (captured end sent)).in_order ≡ count_of sent
unfolding pieces
in_order end sent h = in_order_are sent (pieces_for end sent) (are_frames end sent h)

read : (end : ℕ) (sent : List Sent) → AreSent sent → (pieces (captured end sent)).read ≡ count_of sent
unfolding pieces
read end sent h = read_are sent (pieces_for end sent) h (are_frames end sent h)

rests : (end : ℕ) (sent : List Sent) → AreSent sent → (pieces (captured end sent)).mid_frames ≡ 0
unfolding pieces
rests end sent h = rests_are sent (pieces_for end sent) (are_frames end sent h)

one_is_some : (n : ℕ) → nat_lt 0 (sum_of 1 n) ≡ true
one_is_some n = grind (arith, nat_tests)

steady_by : (k : PieceCounts) (n : ℕ) → k.frames ≡ n → k.in_order ≡ n → k.read ≡ n → nat_lt 0 n ≡ true → is_steady k ≡ true
steady_by k n f o r some =
    both (nat_lt 0 k.read) (nat_le (k.frames - k.in_order) (k.frames / 10)) (ap (λ (m : ℕ). nat_lt 0 m) r ∙ some) (none (k.frames - k.in_order) (k.frames / 10) (omega (arith, f, o)))
  where
    both : (a b : Bool) → a ≡ true → b ≡ true → (a && b) ≡ true
    both a b e g = rw (e, g) refl

    none : (a b : ℕ) → a ≡ 0 → nat_le a b ≡ true
    none a b e = grind (arith, nat_tests, e)

fine_verdict : (k : PieceCounts) (n : ℕ) → k.frames ≡ n → k.in_order ≡ n → k.mid_frames ≡ 0 → steady_verdict k ≡ Fine n n
fine_verdict k n f o m =
    ap (λ (a : ℕ). if nat_lt 0 a then MidFrame k.frames k.in_order else Fine k.frames k.in_order) m ∙ ap (λ (a : ℕ). Fine a k.in_order) f ∙ ap (λ (a : ℕ). Fine n a) o

fine_found : (stuck : Bool) (k : PieceCounts) → stuck ≡ false → is_steady k ≡ true → fine_by stuck k ≡ Some (steady_verdict k)
fine_found stuck k e f = rw (e, f) refl

fine_is : (c : Captured) → is_stuck c ≡ false → is_steady (pieces c) ≡ true → fine_of c ≡ Some (steady_verdict (pieces c))
unfolding fine_of
fine_is c e f = fine_found (is_stuck c) (pieces c) e f

verdict_is : (end : ℕ) (sent : List Sent) (w : Widening) → AreSent sent → verdict_by (captured end sent) w ≡ verdict_for end sent
verdict_is end [] w h = silent_first (captured end []) w (if end == 0 then Empty else Idle end) (silent_is end)
verdict_is end (s ∷ ss) w h =
    fine_first c w (steady_verdict k) (not_silent end s ss) (fine_is c (not_stuck end (s ∷ ss)) (steady_by k n (frames end (s ∷ ss) h) (in_order end (s ∷ ss) h) (read end (s ∷ ss) h) (one_is_some (count_of ss))))
    ∙ fine_verdict k n (frames end (s ∷ ss) h) (in_order end (s ∷ ss) h) (rests end (s ∷ ss) h)
  where
    c : Captured
    c = record { edges = edges_of (wave_of (s ∷ ss)); end = end }

    k : PieceCounts
    k = pieces (record { edges = edges_of (wave_of (s ∷ ss)); end = end })

    n : ℕ
    n = sum_of 1 (count_of ss)

by_edges : (es : List Edge) (end : ℕ) (sent : List Sent) (w : Widening) → AreSent sent → es ≡ edges_of (wave_of sent) → verdict_by (record { edges = es; end = end }) w ≡ verdict_for end sent
by_edges es end sent w h e = subst (λ (xs : List Edge). verdict_by (record { edges = xs; end = end }) w ≡ verdict_for end sent) (sym e) (verdict_is end sent w h)

pub sent_fine : SentLinesAreFine
sent_fine c sent v h e verdict = verdict.2 ∙ by_edges c.edges c.end sent verdict.0 h e
