use Rattle.std.proofs.Common.{rules, ◌∙◌, sym}
use Rattle.library_wire.specs.Sender.{IsReported}
use Rattle.library_wire.proofs.Kept.{reported_as}
use Rattle.library_wire.proofs.sender.sender_heard.Goals as goal

pub returns : goal.returns
returns c =
    let heard = c.in-Some-reported_in.reported in
    let next : IsReported c.in-Some.was heard c.args.t c.parts.result = record {
      next = c.heard.new.self;
      parts = c.parts.ensures;
      keeps = c.heard.ensures.keeps;
      hears = c.heard.ensures.hears;
      stops = c.heard.ensures.stops;
    } in (
      λ s reported parts reports early. (
        c.number-2.ensures,
        reported_as c.in-Some.was s c.args.sender.now heard reported c.args.t c.parts.result c.in-Some.ensures.found parts
            (sym c.in-Some-reported_in.is ∙ c.reported_in.ensures ∙ reports) next,
      ),
      λ none. absurd (none c.in-Some.was c.in-Some.ensures.found),
      search rules,
      search rules,
    )
