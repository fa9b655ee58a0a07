use Rattle.room_run.proofs.Before as Before
use Rattle.room_run.proofs.laws.all_before_is_one.Goals as goal

pub returns : goal.returns
returns c = Before.all_before_is_one
