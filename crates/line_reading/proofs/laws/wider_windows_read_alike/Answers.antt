use Rattle.line_reading.proofs.Wider.{whole_are_alike, margins_are_alike, reads_by_standard}
use Rattle.line_reading.proofs.laws.wider_windows_read_alike.Goals as goal

pub returns-clause-whole : goal.returns-clause-whole
returns-clause-whole c = whole_are_alike

pub returns-clause-margins : goal.returns-clause-margins
returns-clause-margins c = margins_are_alike

pub returns-clause-standard : goal.returns-clause-standard
returns-clause-standard c = reads_by_standard
