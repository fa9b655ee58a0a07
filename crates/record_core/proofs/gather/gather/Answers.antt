use Rattle.std.proofs.Common.{rules, Some, map, ◌++◌, Option, List, ℕ}
use Rattle.text_core.proofs.Adding.{text_ended}
use Rattle.record_core.specs.Cells.{plain_of}
use Rattle.record_core.specs.Records.{record_text}
use Rattle.record_core.specs.declared.gather.Gathered.{Gathered}
use Rattle.record_core.proofs.gather.gather.Goals as goal

pub returns : goal.returns
returns c =
    text_ended (λ (line : Gathered). Some line.bytes.items) (λ (line : Gathered). line.stuck) c.args.line.now _ c.into_sink-below.result.now _ c.into_sink-below.result.ghost_name c.new-text.result c.add_parts.new.out
    (record_text c.args.form c.args.kind.now (map plain_of c.args.cells.now ++ map plain_of c.args.more.now)) c.written-written.result
    c.new-text.ensures c.add_parts.ensures c.written-written.ensures.text
    c.into_sink-below.ensures.loan c.into_sink-below.ensures.known c.into_sink-below.ensures.stuck (search rules)
