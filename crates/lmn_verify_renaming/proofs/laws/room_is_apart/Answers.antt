use Rattle.lmn_verify_renaming.proofs.Room.{calls_keep_room, heads_read_no_room}
use Rattle.lmn_verify_renaming.proofs.laws.room_is_apart.Goals as goal

pub returns-clause-calls : goal.returns-clause-calls
returns-clause-calls c = calls_keep_room

pub returns-clause-heads : goal.returns-clause-heads
returns-clause-heads c = heads_read_no_room
