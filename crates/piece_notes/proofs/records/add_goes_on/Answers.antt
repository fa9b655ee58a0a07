use Rattle.piece_notes.proofs.records.add_goes_on.Goals as goal

pub returns : goal.returns
returns g c = rw (c.named.ensures, c.in_section.ensures, c.who_cell.ensures, c.initiator_cell.ensures, c.follower_cell.ensures) at c.add_remark.ensures
