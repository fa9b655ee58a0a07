use Rattle.std.proofs.Common.{◌≡◌, ◌∙◌, ◌++◌, ◌∷◌, [], ℕ, ap, codes, map, subst₂}
use Rattle.text_core.specs.Adds.{Adds}
use Rattle.line_rounds.specs.declared.Loser.{Loser}
use Rattle.reading_record.specs.Reading.{reading_cells}
use Rattle.record_core.specs.Cells.{PlainValue, both}
use Rattle.record_core.specs.Records.{record_text}
use Rattle.record_core.specs.Values.{out, pieces, string, words}
use Rattle.room_trace.specs.Records.{item_value, out_value, outs_value, round_cells}
use Rattle.room_trace.specs.TraceText.{name_at, round_line}
use Rattle.room_trace.proofs.Records.{recorded, same_lines, same_words}
use Rattle.room_trace.proofs.round_text.add_round.Goals as goal

pub returns : goal.returns
returns g c =
    let devices = c.args.devices.now in
    let o = c.args.outcome.now in
    let name = λ (number : ℕ). string (name_at devices number) in
    let stopped = λ (loser : Loser). out (name_at devices loser.seat) loser.slot in
    let by : pieces (codes ",") c.deref-3.result.now ≡ words name (codes ",") o.survivors.items =
    ap (pieces (codes ",")) c.deref-3.ensures.0
    ∙ same_words item_value name (codes ",") c.names_of-by.result.items o.survivors.items (c.names_of-by.ensures ∙ ap (map name) c.deref.ensures.0) in
    let outs : outs_value c.deref-4.result.now ≡ words stopped (codes ",") o.losers.items =
    ap outs_value c.deref-4.ensures.0
    ∙ same_words out_value stopped (codes ",") c.outs_of-outs.result.items o.losers.items (c.outs_of-outs.ensures ∙ ap (map stopped) c.deref-2.ensures.0) in
    recorded c.args.form (round_line devices o) (codes "round") (round_cells devices o) c.args.out.now c.add_seated.new.out (same_lines.round devices o)
    (subst₂ (λ (b s : PlainValue). Adds c.args.out.now c.add_seated.new.out (record_text c.args.form (codes "round") (
    reading_cells o.reading ++ both (codes " by ") (codes "by") b ∷ both (codes " out ") (codes "out") s ∷ []))) by outs c.add_seated.ensures)
