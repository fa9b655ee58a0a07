-- What a wire has found, once no edge comes any more, is the round.
use Rattle.std.proofs.Common.{◌≡◌, ℕ, ◌<◌, true, false, List, ◌++◌, inl, inr, Option, Some, None, is_some, refl, ap, ◌∙◌, sym, subst}
use Rattle.std.proofs.Math.Path.{fun_ext}
use Rattle.std.proofs.lemmas.Bool.{cases_lt}
use Rattle.line_wave.specs.declared.Stretch.{Stretch}
use Rattle.line_wave.specs.Line.{Line, line_of}
use Rattle.line_reading.specs.Reading.{End, Read, reading_of, bits_of}
use Rattle.line_rounds.specs.declared.Outcome.{Outcome}
use Rattle.line_wire.specs.declared.reading.Ended.{Ended as Ending_kept}
use Rattle.line_rounds.specs.Round.{IsRoundLine, rest_of, survivors_from, losers_from}
use Rattle.line_wire.specs.declared.edge_wire.EdgeWire.{EdgeWire}
use Rattle.line_wire.specs.States.{survivors_of, losers_of}
use Rattle.line_wire.specs.Told.{told_of}
use Rattle.line_wire.specs.Wire.{IsAt}
use Rattle.line_wire.specs.Wired.{IsBegunWith, IsRoundOf, Records, StandsOnLine, end_of, end_in, is_silent_in}
use Rattle.line_wire.proofs.Recorded.{line_ends}
use Rattle.line_wire.proofs.Searching.{IsSilent, silent_so, silent_after, silent_high}
use Rattle.line_wire.proofs.States.{states_are_fates}
use Rattle.line_wire.proofs.Told.{told_is_read, or_no}
use Rattle.line_wire.proofs.Turning.{made_line, made_round}

none_since : (o : Option ℕ) → is_some o ≡ false → o ≡ None
none_since None h = refl
none_since (Some x) h = cc

-- what the outcome says, by what the wire keeps
pub record Reports (w : EdgeWire) (ended : Ending_kept) (o : Outcome) : Type 0 where
  pub begin : o.reading.begin ≡ w.begin
  pub at : o.reading.at ≡ ended.at
  pub ending : o.reading.ending ≡ ended.ending
  pub bits : o.reading.bits.items ≡ w.bits.items
  pub survivors : o.survivors.items ≡ survivors_of 0 w.senders.items
  pub losers : o.losers.items ≡ losers_of 0 w.senders.items
  pub rest : o.rest ≡ rest_of ended.until w.recorder.wave
  pub wave : o.wave ≡ w.recorder.wave

pub finds_round : (past : List Stretch) (w : EdgeWire) (ended : Ending_kept) (o : Outcome) → IsBegunWith past w → is_silent_in w ≡ true → w.ended ≡ Some ended → Reports w ended o → IsRoundOf past w o
finds_round past w ended o b quiet kept r later wave late = record {
  line = subst (λ (x : Line). IsRoundLine w.seats.items w.begin (past ++ later) x) same line;
  starts = r.begin;
  ends = r.at ∙ ap (λ (x : End). x.at) at.1 ∙ ap (λ (x : Read). x.at) reads;
  ending = r.ending ∙ ap (λ (x : End). x.ending) at.1 ∙ ap (λ (x : Read). x.ending) reads;
  bits = r.bits ∙ at.2 ∙ ap bits_of reads;
  survivors = r.survivors ∙ fates.0 ∙ ap (λ (x : Read). survivors_from x 0 w.seats.items) reads;
  losers = r.losers ∙ fates.1 ∙ ap (λ (x : Read). losers_from x 0 w.seats.items) reads;
  rest = r.rest ∙ ap (λ n. rest_of n w.recorder.wave) (ap (λ (x : End). x.until) at.1 ∙ ap (λ (x : Read). x.until) reads) ∙ ap (λ (ss : List Stretch). rest_of (reading_of (line_of o.wave) w.begin).until ss) (sym r.wave);
}
  where
    low : Line
    low = made_line w.seats.items w.begin (past ++ later)

    line : IsRoundLine w.seats.items w.begin (past ++ later) (made_line w.seats.items w.begin (past ++ later))
    line = made_round w.seats.items w.begin (past ++ later)

    q : IsSilent w
    q = silent_so w quiet

    s : StandsOnLine w (made_line w.seats.items w.begin (past ++ later))
    s = b.stands (silent_after past w b q) later (made_line w.seats.items w.begin (past ++ later)) wave late line

    closed : Records (made_line w.seats.items w.begin (past ++ later)) w.time w.recorder.wave None
    closed = subst (λ (x : Option ℕ). Records (made_line w.seats.items w.begin (past ++ later)) w.time w.recorder.wave x) (none_since w.recorder.low_since q.high) s.records

    same_at : (u : ℕ) → made_line w.seats.items w.begin (past ++ later) u ≡ line_of w.recorder.wave u
    same_at u = elim (cases_lt u w.time) [
      | inl lt ↦ closed.same u lt ∙ or_no (line_of w.recorder.wave u)
      | inr ge ↦ silent_high past w b q later (made_line w.seats.items w.begin (past ++ later)) wave late line u ge ∙ sym (line_ends (made_line w.seats.items w.begin (past ++ later)) w.time w.recorder.wave closed u ge)
    ]

    same : made_line w.seats.items w.begin (past ++ later) ≡ line_of o.wave
    same = fun_ext same_at ∙ ap line_of (sym r.wave)

    at_told : IsAt w.seats.items w.begin w.receiver w.senders.items w.bits.items (Some (end_of ended)) w.held (told_of (made_line w.seats.items w.begin (past ++ later)) w.begin) w.time
    at_told = subst (λ (x : Option Ending_kept). IsAt w.seats.items w.begin w.receiver w.senders.items w.bits.items (end_in x) w.held (told_of (made_line w.seats.items w.begin (past ++ later)) w.begin) w.time) kept s.at

    at : ((reading_of (told_of (made_line w.seats.items w.begin (past ++ later)) w.begin) w.begin).at < w.time)
        × (end_of ended ≡ record { ending = (reading_of (told_of (made_line w.seats.items w.begin (past ++ later)) w.begin) w.begin).ending; at = (reading_of (told_of (made_line w.seats.items w.begin (past ++ later)) w.begin) w.begin).at; until = (reading_of (told_of (made_line w.seats.items w.begin (past ++ later)) w.begin) w.begin).until })
        × (w.bits.items ≡ bits_of (reading_of (told_of (made_line w.seats.items w.begin (past ++ later)) w.begin) w.begin))
    at = (at_told.read.0, at_told.read.1, at_told.read.2)

    fates : (survivors_of 0 w.senders.items ≡ survivors_from (reading_of (told_of (made_line w.seats.items w.begin (past ++ later)) w.begin) w.begin) 0 w.seats.items)
        × (losers_of 0 w.senders.items ≡ losers_from (reading_of (told_of (made_line w.seats.items w.begin (past ++ later)) w.begin) w.begin) 0 w.seats.items)
    fates = states_are_fates w.seats.items w.begin w.receiver w.senders.items w.bits.items (end_of ended) w.held (told_of (made_line w.seats.items w.begin (past ++ later)) w.begin) w.time at_told

    reads : reading_of (told_of (made_line w.seats.items w.begin (past ++ later)) w.begin) w.begin ≡ reading_of (line_of o.wave) w.begin
    reads = told_is_read (made_line w.seats.items w.begin (past ++ later)) w.begin ∙ ap (λ (x : Line). reading_of x w.begin) same
