use Rattle.line_rounds.proofs.Window as Window
use Rattle.line_rounds.proofs.laws.winners_window.Goals as goal

pub returns : goal.returns
returns c = Window.winners_window
