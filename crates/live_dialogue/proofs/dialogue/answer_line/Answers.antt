use Rattle.std.proofs.Common.{Err, refl, sym, subst}
use Rattle.text_core.specs.Buffered.{handed_count}
use Rattle.live_dialogue.specs.declared.error.SessionError.TheVariants.{Memory}
use Rattle.live_dialogue.specs.Dialogue.{AreHanded, held}
use Rattle.live_dialogue.proofs.Answered.{cut_from, memory_from, of_memory, whole_from}
use Rattle.live_dialogue.proofs.Putting.{fails, handed_same, is_stuck, reports}
use Rattle.live_dialogue.proofs.dialogue.answer_line.Goals as goal

pub line-requires : goal.line-requires
line-requires g c = record { going = c.requires.going }

pub returns-in-Ok-clause-answered : goal.returns-in-Ok-clause-answered
returns-in-Ok-clause-answered g c =
    let old = c.args.out.now in
    let mid = c.line.new.out in
    let new = c.hand_on-handed.new.out in
    whole_from c.args.live.now c.line.new.self c.args.line.now _ (handed_count new) (is_stuck old) (is_stuck mid) (held g.S.Sink.contents old) (held g.S.Sink.contents mid) (held g.S.Sink.contents new)
    c.line.result c.hand_on-handed.result c.in-Ok.is c.requires.going c.line.ensures.taken c.hand_on-handed.ensures.bytes (reports is_stuck mid new c.hand_on-handed.result c.hand_on-handed.ensures.flushed)

pub returns-in-Write-clause-answered : goal.returns-in-Write-clause-answered
returns-in-Write-clause-answered g c =
    let old = c.args.out.now in
    let mid = c.line.new.out in
    let flush = c.hand_on in
    let new = flush.new.out in
    cut_from c.args.live.now c.line.new.self c.args.line.now _ (handed_count new) (is_stuck old) (is_stuck mid) (held g.S.Sink.contents old) (held g.S.Sink.contents mid) (held g.S.Sink.contents new)
    c.line.result c.in-Err.error flush.result c.in-Err.is c.in-Write.is c.line.ensures.taken flush.ensures.bytes (fails is_stuck mid new flush.result flush.ensures.flushed) (reports is_stuck mid new flush.result flush.ensures.flushed)

pub returns-in-Memory-clause-answered : goal.returns-in-Memory-clause-answered
returns-in-Memory-clause-answered g c =
    memory_from c.args.live.now c.line.new.self c.args.line.now (is_stuck c.args.out.now) (is_stuck c.line.new.out) (held g.S.Sink.contents c.args.out.now) (held g.S.Sink.contents c.line.new.out)
    c.line.result c.in-Err.error c.in-Err.is c.in-Memory.is c.line.ensures.taken

pub returns-in-Memory-clause-handed : goal.returns-in-Memory-clause-handed
returns-in-Memory-clause-handed g c =
    let same = c.line.ensures.memory (of_memory c.line.result c.in-Err.error c.in-Err.is c.in-Memory.is) in
    subst (λ b. AreHanded is_stuck c.args.out.now b (Err Memory)) (sym same) (handed_same is_stuck c.args.out.now (Err Memory) refl)
