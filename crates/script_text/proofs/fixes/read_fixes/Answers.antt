use Rattle.script_text.proofs.FixLines.{IsBy, snap_read, create_read, move_read, no_fixes}
use Rattle.script_text.proofs.fixes.read_fixes.Goals as goal

pub returns-in-Some-read_snap : goal.returns-in-Some-read_snap
returns-in-Some-read_snap c =
    let word = c.in_ok-behind_word.ensures in
    let name = c.in_ok-editor.ensures in
    let b : IsBy c.args.line.now c.in_ok-behind_word.field-0.now c.in_ok-editor.rest.now c.in_ok-editor.editor =
    record { word = word.0; rest_is = word.1; name = name.0; good = name.1; more_is = name.2 } in
    let f = c.in-Some-read_snap in
    let l = f.ensures in
    snap_read c.args.line.now c.in_ok-behind_word.field-0.now c.in_ok-editor.rest.now c.in_ok-editor.editor f.rule f.handle f.end l.0
    c.snap_of.result b l.1 (c.snap_of.ensures l.0 l.2)

pub returns-in-Some-read_create : goal.returns-in-Some-read_create
returns-in-Some-read_create c =
    let word = c.in_ok-behind_word.ensures in
    let name = c.in_ok-editor.ensures in
    let b : IsBy c.args.line.now c.in_ok-behind_word.field-0.now c.in_ok-editor.rest.now c.in_ok-editor.editor =
    record { word = word.0; rest_is = word.1; name = name.0; good = name.1; more_is = name.2 } in
    let f = c.in-Some-read_create in
    let l = f.ensures in
    create_read c.args.line.now c.in_ok-behind_word.field-0.now c.in_ok-editor.rest.now c.in_ok-editor.editor f.rule f.handle l.0
    c.create_of.result b l.1 (c.create_of.ensures l.0 l.2)

pub returns-in-Some-read_move : goal.returns-in-Some-read_move
returns-in-Some-read_move c =
    let word = c.in_ok-behind_word.ensures in
    let name = c.in_ok-editor.ensures in
    let b : IsBy c.args.line.now c.in_ok-behind_word.field-0.now c.in_ok-editor.rest.now c.in_ok-editor.editor =
    record { word = word.0; rest_is = word.1; name = name.0; good = name.1; more_is = name.2 } in
    let l = c.in-Some-read_move.ensures in
    move_read c.args.line.now c.in_ok-behind_word.field-0.now c.in_ok-editor.rest.now c.in_ok-editor.editor l.0 l.1 c.move_of.result b l.2
    (c.move_of.ensures l.0 l.1 l.3 l.4)

pub returns : goal.returns
returns c =
    let word = c.in_ok-behind_word.ensures in
    let name = c.in_ok-editor.ensures in
    let b : IsBy c.args.line.now c.in_ok-behind_word.field-0.now c.in_ok-editor.rest.now c.in_ok-editor.editor =
    record { word = word.0; rest_is = word.1; name = name.0; good = name.1; more_is = name.2 } in
    no_fixes c.args.line.now c.in_ok-behind_word.field-0.now c.in_ok-editor.rest.now c.in_ok-editor.editor b c.in_default.ensures
    c.in_default-read_snap.ensures c.in_default-read_create.ensures c.in_default-read_move.ensures
