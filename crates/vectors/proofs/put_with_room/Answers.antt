-- `vectors::put_with_room` meets its contract. Assumes nothing.
use mathlib.Core.Path.{sym}
use Rattle.vectors.proofs.VectorLaws.{room-length, with_room}
use mathlib.Core.Path.{sym}
use Rattle.vectors.proofs.put_with_room.Goals as goal

pub slice_bounds-put_in_rooms-end : goal.slice_bounds-put_in_rooms-end
slice_bounds-put_in_rooms-end c =
    sym (room-length c.asked-room.result c.large_buffer-space.result c.large_buffer-space.ensures)

pub slice_bounds-put_in_rooms-end-2 : goal.slice_bounds-put_in_rooms-end-2
slice_bounds-put_in_rooms-end-2 c =
    sym (room-length c.asked-room.result c.large_buffer-spare.result c.large_buffer-spare.ensures)

pub returns : goal.returns
returns c =
    let args = c.args in
    with_room args.letter args.head.now args.message.now args.other.now args.store.now c.asked-room.ensures (room-length c.asked-room.result c.large_buffer-space.result c.large_buffer-space.ensures) (room-length c.asked-room.result c.large_buffer-spare.result c.large_buffer-spare.ensures) c.put_in_rooms.ensures
