use Rattle.std.proofs.Common.{◌<◌, arith}
use Rattle.device_features.proofs.MessageLemmas.{status_spelled}
use Rattle.device_features.proofs.messages.report_audio_status.Goals as goal

pub returns : goal.returns
returns c =
    let h : c.args.status < 256 = omega arith in
    rw c.from_byte.ensures (status_spelled c.messages_keep_operands.ensures c.args.status h)
