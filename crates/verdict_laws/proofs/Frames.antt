-- Frames that are sent with the nominal times are pieces.
use Rattle.std.proofs.Common.{◌≡◌, ℕ, ◌+◌, ◌<◌, Bool, true, false, if◌then◌else◌, List, [], ◌∷◌, ◌++◌, length, Option, None, refl, sym, ◌∙◌, ap, subst, arith}
use Rattle.audit_pieces.specs.declared.stretch.LowStretch.{LowStretch}
use Rattle.audit_pieces.specs.declared.piece.After.{After}
use Rattle.audit_pieces.specs.declared.piece.PieceEnding.{PieceEnding}
use Rattle.audit_pieces.specs.declared.piece.PieceEnding.TheVariants.{Open, Stops}
use Rattle.audit_pieces.specs.declared.piece.Slot.{Slot}
use Rattle.audit_pieces.specs.Bounds.{apart_from}
use Rattle.audit_pieces.specs.Frames.{IsApartFrom, framed, last_of}
use Rattle.audit_pieces.specs.Slots.{has_eom}
use Rattle.audit_pieces.specs.Pieces.{Parts, Whole, ended, ending_of, ends_open}
use Rattle.audit_pieces.specs.Wide.{after_of, pieces_of, pieces_on}
use Rattle.audit_judged.specs.declared.endings.Said.{Said}
use Rattle.audit_judged.specs.declared.endings.Said.TheVariants.{Nothing, Allowed, Remarked}
use Rattle.audit_judged.specs.Endings.{said_by}
use Rattle.audit_judged.specs.Widths.{is_intruded}
use Rattle.audit_judged.proofs.Lawful.{lawful}
use Rattle.capture_signs.specs.Pieces.{is_allowed, is_mid}
use Rattle.verdict_laws.specs.Sent.{AreBlocks, IsBefore, Sent, final_fall, is_last, wave_of}
use Rattle.verdict_laws.specs.Frames.{AreFramesOf, BeginFrom, IsFrameOf, SentFramesArePieces, SentLinesAreFrames, heard}
use Rattle.verdict_laws.proofs.Slots.{bits_are, slots_for, tenth}
use Rattle.verdict_laws.proofs.Placing.{bits_for, follow, grown, last_is, slots_are, stops_before, unfinished}
use Rattle.verdict_laws.proofs.Ends.{IsAllowed, ending_for, ending_is, eom_last, nothing_more, said_allowed, whole_with_eom}
use Rattle.verdict_laws.proofs.Widths.{all_in, start_for}
use Rattle.verdict_laws.proofs.Heard.{far_rest, heard_sender}

allowed_is : (s : Said) → IsAllowed s → is_allowed s ≡ true
allowed_is Nothing h = refl
allowed_is (Allowed cause) h = refl
allowed_is (Remarked r) h = absurd h

not_intruded : (eom : Bool) (last : ℕ) (after : After) → is_intruded (ending_for eom last after) ≡ false
not_intruded true last after = refl
not_intruded false last after = by (ends_open last after)
  where
    by : (b : Bool) → is_intruded (if b then Open else Stops) ≡ false
    by true = refl
    by false = refl

not_mid : (eom : Bool) (last : ℕ) (after : After) → is_mid (ending_for eom last after) ≡ false
not_mid true last after = refl
not_mid false last after = by (ends_open last after)
  where
    by : (b : Bool) → is_mid (if b then Open else Stops) ≡ false
    by true = refl
    by false = refl

-- its piece, before what follows
abbrev pub sent_piece : ℕ → Option ℕ → Sent → List LowStretch → Whole
sent_piece end begin s rest = ended begin (framed (start_for s.begin) (slots_for (s.begin + 4500) s.bits) (last_of s.begin (bits_for (s.begin + 4500) s.bits))) (after_of end rest)

final_is : (s : Sent) → 0 < length s.bits → last_of s.begin (bits_for (s.begin + 4500) s.bits) ≡ final_fall s
final_is s some = let e = last_is s.begin (s.begin + 4500) s.bits some in omega (arith, e)

some_bits : (bits : List Bool) → AreBlocks bits → 0 < length bits
some_bits bits b = let e = b.long in let s = b.some in omega (arith, e, s)

is_piece : (end : ℕ) (begin : Option ℕ) (s : Sent) (rest : List LowStretch) → AreBlocks s.bits → IsApartFrom (final_fall s) rest
    → pieces_on end begin (framed (start_for s.begin) [] s.begin) (bits_for (s.begin + 4500) s.bits ++ rest) ≡ sent_piece end begin s rest ∷ pieces_of end None rest
is_piece end begin s rest b apart =
    grown end begin (start_for s.begin) [] s.begin (bits_for (s.begin + 4500) s.bits) rest refl refl (follow s.begin (s.begin + 4500) s.bits (omega arith) (omega arith))
    (unfinished (s.begin + 4500) s.bits b [] s.bits refl (s.begin + 4500) (omega arith))
    ∙ ap (λ (slots : List Slot). pieces_on end begin (framed (start_for s.begin) slots (last_of s.begin (bits_for (s.begin + 4500) s.bits))) rest) (slots_are (s.begin + 4500) s.bits)
    ∙ stops_before end begin (framed (start_for s.begin) (slots_for (s.begin + 4500) s.bits) (last_of s.begin (bits_for (s.begin + 4500) s.bits))) rest
    (subst (λ (n : ℕ). IsApartFrom n rest) (sym (final_is s (some_bits s.bits b))) apart)

is_frame : (end : ℕ) (begin : Option ℕ) (s : Sent) (rest : List LowStretch) → AreBlocks s.bits → IsApartFrom (final_fall s) rest → IsFrameOf s (sent_piece end begin s rest)
is_frame end begin s rest b apart = record {
  begins = refl;
  framed = refl;
  bits = bits_are first s.bits;
  begun = ap (λ (e : PieceEnding). is_mid e) ending ∙ not_mid (has_eom slots) last after;
  complete = λ e. ending ∙ ap (λ (eom : Bool). ending_for eom last after) (eom_last first s.bits b ∙ ap (λ (n : ℕ). is_last s.bits n) (sym (tenth (length s.bits) b.count b.long)) ∙ e);
  widths = λ grid. lawful grid (sent_piece end begin s rest) (all_in grid s.begin s.bits last (ending_of begin parts after) (ap (λ (e : PieceEnding). is_intruded e) ending ∙ not_intruded (has_eom slots) last after));
  ends = allowed_is (said_by parts (ending_of begin parts after)) (subst (λ (e : PieceEnding). IsAllowed (said_by parts e)) (sym ending) (said_allowed (start_for s.begin) first s.bits last after b));
  stops = nothing_more first s.bits b;
}
  where
    first : ℕ
    first = s.begin + 4500

    slots : List Slot
    slots = slots_for (s.begin + 4500) s.bits

    last : ℕ
    last = last_of s.begin (bits_for (s.begin + 4500) s.bits)

    after : After
    after = after_of end rest

    parts : Parts
    parts = framed (start_for s.begin) (slots_for (s.begin + 4500) s.bits) (last_of s.begin (bits_for (s.begin + 4500) s.bits))

    far_on : IsApartFrom last rest
    far_on = subst (λ (n : ℕ). IsApartFrom n rest) (sym (final_is s (some_bits s.bits b))) apart

    ending : ending_of begin parts after ≡ ending_for (has_eom slots) last after
    ending = ending_is begin end (start_for s.begin) slots last rest refl far_on (whole_with_eom first s.bits b)

pub sent_frames : SentFramesArePieces
sent_frames end begin s rest b later = (
  sent_piece end begin s (heard end rest),
  ap (λ (xs : List LowStretch). pieces_of end begin xs) (heard_sender end s.begin s.bits rest (some_bits s.bits b)) ∙ is_piece end begin s (heard end rest) b apart,
  is_frame end begin s (heard end rest) b apart,
)
  where
    apart : IsApartFrom (final_fall s) (heard end rest)
    apart = far_rest end (final_fall s) rest later

next_from : (s : Sent) (ss : List Sent) → IsBefore s ss → BeginFrom (final_fall s + apart_from) (wave_of ss)
next_from s [] h = tt
next_from s (next ∷ ss) h = h

pub sent_lines : SentLinesAreFrames
sent_lines end begin [] h = tt
sent_lines end begin (s ∷ ss) (b, before, more) =
    let f = sent_frames end begin s (wave_of ss) b (next_from s ss before) in
    subst (λ (ps : List Whole). AreFramesOf (s ∷ ss) ps) (sym f.1) (f.2, sent_lines end None ss more)
