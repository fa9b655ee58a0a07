use Rattle.piece_notes.proofs.records.add_overrun.Goals as goal

pub returns : goal.returns
returns g c = rw (c.named.ensures, c.in_section.ensures, c.who_cell.ensures, c.initiator_cell.ensures, c.follower_cell.ensures, c.ending_name.ensures, c.ending_section.ensures) at c.add_remark.ensures
