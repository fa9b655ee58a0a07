-- After a microsecond that was heard the wire stands.
use Rattle.std.proofs.Common.{◌≡◌, ℕ, ◌+◌, ◌<◌, ◌≤◌, Bool, List, [], ◌++◌, length, inl, inr, Option, None, arith, ap, sym, subst}
use Rattle.std.proofs.lemmas.Bool.{cases_lt}
use Rattle.line_wave.specs.declared.Stretch.{Stretch}
use Rattle.line_wave.specs.Bounds.{latest_heard, most_stretches}
use Rattle.line_rounds.specs.declared.recorder.Recorder.{Recorder}
use Rattle.line_wire.specs.declared.reading.Ended.{Ended as Ending_kept}
use Rattle.line_rounds.specs.Machine.{wave_after, low_since, IsReady}
use Rattle.line_wire.specs.declared.edge_wire.EdgeWire.{EdgeWire}
use Rattle.line_wire.specs.declared.senders.SenderPlaces.{SenderPlaces}
use Rattle.line_wire.specs.Line.{HaveBegun}
use Rattle.line_wire.specs.Pulls.{StandIn}
use Rattle.line_wire.specs.Told.{told_of}
use Rattle.line_wire.specs.Turns.{IsToldNext}
use Rattle.line_wire.specs.Wire.{IsRead}
use Rattle.line_wire.specs.Wired.{EachLine, IsBegunWith, IsKept, Records, end_in}
use Rattle.line_wire.proofs.Bounded.{line_of_past, past_round, past_wave, none_later, stands_past}
use Rattle.line_wire.proofs.Recorded.{records_first, records_next, records_ready, records_room}
use Rattle.line_wire.proofs.Turning.{later_sooner}

is_begin : (past : List Stretch) (w : EdgeWire) → IsBegunWith past w → w.time ≤ w.begin → w.time ≡ w.begin
is_begin past w b l = let f = b.from in omega (arith, f, l)

-- what the senders do is worked out anew
pub refreshed : (past : List Stretch) (w v : EdgeWire) → v ≡ record w { pull = v.pull } → IsKept v → IsBegunWith past w → IsBegunWith past v
refreshed past w v same kept b = subst (λ (x : EdgeWire). IsBegunWith past x) (sym same) (record {
  early = b.early;
  from = b.from;
  near = b.near;
  sent = b.sent;
  pulls = b.pulls;
  wave = b.wave;
  ends = b.ends;
  count = b.count;
  kept = subst (λ (x : EdgeWire). IsKept x) same kept;
  fresh = λ e. (let f = b.fresh e in record { heard = f.heard; level = f.level; senders = f.senders; bits = f.bits; ended = f.ended; held = f.held; wave = f.wave; silent = f.silent });
  level = b.level;
  stands = λ after later low wave late line. (let s = b.stands after later low wave late line in record { at = s.at; records = s.records });
})

-- ---- the wave so far

pub records_now : (past : List Stretch) (w : EdgeWire) → IsBegunWith past w → EachLine w.seats.items w.begin past w.time (λ low. Records low w.time w.recorder.wave w.recorder.low_since)
records_now past w b later low wave late line = elim (cases_lt w.begin w.time) [
  | inl lt ↦ (b.stands lt later low wave late line).records
  | inr ge ↦ first (is_begin past w b ge)
]
  where
    first : w.time ≡ w.begin → Records low w.time w.recorder.wave w.recorder.low_since
    first e =
        let f = (b.fresh e).wave in
        subst (λ (ss : List Stretch). Records low w.time ss w.recorder.low_since) (sym f.0)
        (subst (λ (o : Option ℕ). Records low w.time [] o) (sym f.1) (subst (λ n. Records low n [] None) (sym e) (records_first w.seats.items w.begin (past ++ later) low line)))

past_records : (past : List Stretch) (w : EdgeWire) → IsBegunWith past w → Records (line_of_past past w) w.time w.recorder.wave w.recorder.low_since
past_records past w b = records_now past w b [] (line_of_past past w) (past_wave past b.wave) (none_later w.time) (past_round past w)

pub wave_room : (past : List Stretch) (w : EdgeWire) → IsBegunWith past w → length w.recorder.wave < most_stretches
wave_room past w b = records_room w.seats.items w.begin (past ++ []) (line_of_past past w) w.time w.recorder.wave w.recorder.low_since (past_round past w) (past_records past w b)

pub wave_ready : (past : List Stretch) (w : EdgeWire) → IsBegunWith past w → IsReady w.recorder.wave w.recorder.low_since w.time
wave_ready past w b = records_ready (line_of_past past w) w.time w.recorder.wave w.recorder.low_since (past_records past w b)

-- ---- the bits so far

pub bits_room : (past : List Stretch) (w : EdgeWire) → IsBegunWith past w → w.ended ≡ None → length w.bits.items < 160
bits_room past w b none = elim (cases_lt w.begin w.time) [
  | inl lt ↦ (let s = stands_past past w b lt in
      let r = subst (λ (x : Option Ending_kept). IsRead w.seats.items w.begin w.receiver w.bits.items (end_in x) w.held (told_of (line_of_past past w) w.begin) w.time) none s.at.read in
      let e : length w.bits.items ≡ length w.receiver.bits.items = ap length r.1 in
      omega (arith, e, w.receiver.room))
  | inr ge ↦ (let e : length w.bits.items ≡ 0 = ap length (b.fresh (is_begin past w b ge)).bits in omega (arith, e))
]

-- ---- and then

begun_next : (begin : ℕ) (past : List Stretch) (last : Option Stretch) (t : ℕ) → HaveBegun begin past last t → HaveBegun begin past last (t + 1)
begun_next begin past last t h = record { inside = h.inside; begun = λ i d m. (let x = h.begun i d m in omega (arith, x)); last_is = h.last_is }

-- the wire after it
abbrev pub after_it : EdgeWire → EdgeWire → Recorder → EdgeWire
after_it w v rec = record w { time = w.time + 1; receiver = v.receiver; senders = v.senders; pull = v.pull; bits = v.bits; ended = v.ended; held = v.held; recorder = rec }

pub heard_on : (past : List Stretch) (w v : EdgeWire) (is_low : Bool) (rec : Recorder) → IsBegunWith past w → w.time < latest_heard → IsKept v → v.places ≡ w.places → v.time ≡ w.time → v.receiver.is_low ≡ v.receiver.was_low
    → EachLine w.seats.items w.begin past (w.time + 1) (λ low. (low w.time ≡ is_low) × IsToldNext w v (told_of low w.begin))
    → rec.wave ≡ wave_after w.recorder.wave w.recorder.low_since w.time is_low → rec.low_since ≡ low_since w.recorder.low_since w.time is_low → IsBegunWith past (after_it w v rec)
heard_on past w v is_low rec b early kept places time level told wave_is since_is = record {
  early = b.early;
  from = omega (arith, b.from);
  near = omega (arith, early);
  sent = b.sent;
  pulls = begun_next w.begin past w.last w.time b.pulls;
  wave = b.wave;
  ends = b.ends;
  count = b.count;
  kept = record {
    low = λ u x y. kept.low u (omega (arith, x, time)) y;
    near = (let x = kept.near in omega (arith, x, time));
    places = subst (λ (ps : SenderPlaces). StandIn ps v.senders.items) places kept.places;
  };
  fresh = λ e. absurd (omega (arith, e, b.from));
  level = level;
  stands = λ after later low wave late line. record {
    at = (told later low wave late line).1;
    records = subst (λ (ss : List Stretch). Records low (w.time + 1) ss rec.low_since) (sym wave_is)
        (subst (λ (o : Option ℕ). Records low (w.time + 1) (wave_after w.recorder.wave w.recorder.low_since w.time is_low) o) (sym since_is)
        (records_next low w.time w.recorder.wave w.recorder.low_since is_low (records_now past w b later low wave (later_sooner w.time (w.time + 1) later (omega arith) late) line) (told later low wave late line).0));
  };
}
