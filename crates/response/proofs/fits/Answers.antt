-- `response::fits` meets its contract: the room is the smaller of the number given and the buffer's length. Assumes nothing.
use mathlib.Core.Path.{◌∙◌}
use borrow.Author.Tests.{lt-leb}
use Rattle.response.proofs.Telling.{above_room, within-room}
use Rattle.response.proofs.fits.Goals as goal

pub returns-then-size-room : goal.returns-then-size-room
returns-then-size-room c = within-room _ _ c.args.out.now c.if-size-room.true

pub returns-else-size-room : goal.returns-else-size-room
returns-else-size-room c =
    lt-leb c.args.size c.args.room c.if-size-room.false ∙ above_room _ _ c.args.out.now c.if-size-room.false
