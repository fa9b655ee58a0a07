use Rattle.room_net.proofs.Lines as Lines
use Rattle.room_net.proofs.Progress as Progress
use Rattle.room_net.proofs.laws.rounds_begin.Goals as goal

pub returns-clause-led : goal.returns-clause-led
returns-clause-led c = Lines.least_led

pub returns-clause-begun : goal.returns-clause-begun
returns-clause-begun c = Lines.begun

pub returns-clause-going : goal.returns-clause-going
returns-clause-going c = Progress.going
