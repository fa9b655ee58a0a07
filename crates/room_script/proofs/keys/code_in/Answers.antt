use Rattle.room_script.proofs.KeyLemmas.{code_of-found}
use Rattle.room_script.proofs.keys.code_in.Goals as goal

pub returns : goal.returns
returns c = code_of-found c.args.word.now c.byte.result c.byte.ensures.found c.byte.ensures.none
