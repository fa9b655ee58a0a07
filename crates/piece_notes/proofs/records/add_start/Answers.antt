use Rattle.piece_notes.proofs.records.add_start.Goals as goal

pub returns : goal.returns
returns g c = rw (c.named.ensures, c.in_section.ensures, c.who_cell.ensures, c.initiator_cell.ensures, c.follower_cell.ensures, c.width_name.ensures, c.width_section.ensures, c.window_for-window.ensures, c.width_lead.ensures, c.shortest_cell.ensures, c.longest_cell.ensures, c.count_cell.ensures, c.slots_cell.ensures) at c.add_remark.ensures
