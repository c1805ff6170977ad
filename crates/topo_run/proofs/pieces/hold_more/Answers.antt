use Rattle.std.proofs.Common.{◌≡◌, ◌≤◌, ◌-◌, length, ◌∙◌, arith, rules, vec_len}
use Rattle.topo_run.proofs.Tails.{held_room, held_short, held_kept}
use Rattle.topo_run.proofs.pieces.hold_more.Goals as goal

pub overflow_sub-room : goal.overflow_sub-room
overflow_sub-room c =
    let count : length c.args.rest.now.items ≡ vec_len c.args.rest.now = search rules in
    let short : length c.args.rest.now.items ≤ 1048578 = held_short c.args.rest.now.items c.requires.held in
    omega (arith, count, short, c.len-room.ensures)

pub returns-clause-ok : goal.returns-clause-ok
returns-clause-ok c =
    let count : length c.args.rest.now.items ≡ vec_len c.args.rest.now = search rules in
    let short : length c.args.rest.now.items ≤ 1048578 = held_short c.args.rest.now.items c.requires.held in
    let room : 1048578 - c.len-room.result ≡ 1048578 - length c.args.rest.now.items = omega (arith, count, c.len-room.ensures) in
    c.in_ok-extend_from_slice.ensures.items ∙ held_room c.args.rest.now.items c.args.more.now (1048578 - c.len-room.result) c.min.result short
    room c.min.ensures

pub returns-clause-kept : goal.returns-clause-kept
returns-clause-kept c =
    let count : length c.args.rest.now.items ≡ vec_len c.args.rest.now = search rules in
    let short : length c.args.rest.now.items ≤ 1048578 = held_short c.args.rest.now.items c.requires.held in
    let room : 1048578 - c.len-room.result ≡ 1048578 - length c.args.rest.now.items = omega (arith, count, c.len-room.ensures) in
    held_kept c.args.rest.now.items c.args.more.now c.extend_from_slice.new.self.items c.requires.held c.requires.unended
    (c.in_ok-extend_from_slice.ensures.items ∙ held_room c.args.rest.now.items c.args.more.now (1048578 - c.len-room.result) c.min.result short
    room c.min.ensures)
