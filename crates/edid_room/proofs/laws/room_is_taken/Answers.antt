use Rattle.edid_room.proofs.Taken.{base_is_whole, cta_is_whole, longer_do_not, reader_has_room, shorter_fit}
use Rattle.edid_room.proofs.laws.room_is_taken.Goals as goal

pub returns-clause-base : goal.returns-clause-base
returns-clause-base c = base_is_whole

pub returns-clause-cta : goal.returns-clause-cta
returns-clause-cta c = cta_is_whole

pub returns-clause-reader : goal.returns-clause-reader
returns-clause-reader c = reader_has_room

pub returns-clause-shorter : goal.returns-clause-shorter
returns-clause-shorter c = shorter_fit

pub returns-clause-longer : goal.returns-clause-longer
returns-clause-longer c = longer_do_not
