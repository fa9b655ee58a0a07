use Rattle.room_drives.proofs.seat.+push_acks.Given as goal

abbrev pub decreases-push_acks : goal.decreases-push_acks
decreases-push_acks l = l.count
