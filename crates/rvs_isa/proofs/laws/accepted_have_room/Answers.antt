use Rattle.rvs_isa.proofs.Rooms.{accepted_have_room}
use Rattle.rvs_isa.proofs.laws.accepted_have_room.Goals as goal

pub returns : goal.returns
returns c = accepted_have_room
