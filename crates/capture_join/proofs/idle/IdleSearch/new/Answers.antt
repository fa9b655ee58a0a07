use Rattle.std.proofs.Common.{refl}
use Rattle.capture_join.proofs.Search.{sought_first}
use Rattle.capture_join.proofs.idle.IdleSearch.new.Goals as goal

pub returns : goal.returns
returns c = λ low. sought_first low _ refl refl
