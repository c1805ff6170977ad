use Rattle.script_text.specs.Edits.{edit_form}
use Rattle.script_text.proofs.Spelled.{edit_there, edit_read}
use Rattle.script_text.proofs.TextWithin.{text_within}
use Rattle.script_text.proofs.edits.read_edits.Goals as goal

pub edit_of-requires : goal.edit_of-requires
edit_of-requires c =
    let word = c.in_ok-behind_word.ensures in
    let name = c.in_ok-editor.ensures in
    let there =
    edit_there c.args.line.now c.in_ok-behind_word.field-0.now c.in_ok-editor.rest.now c.in_ok-editor.editor c.in_ok-edit.edit
    word.0 word.1 name.0 name.1 name.2 (c.in_ok-edit.ensures c.in_ok-editor.editor) in
    text_within c.args.line.now (edit_form c.in_ok-editor.editor c.in_ok-edit.edit) c.requires there

pub returns : goal.returns
returns c =
    let word = c.in_ok-behind_word.ensures in
    let name = c.in_ok-editor.ensures in
    let there =
    edit_there c.args.line.now c.in_ok-behind_word.field-0.now c.in_ok-editor.rest.now c.in_ok-editor.editor c.in_ok-edit.edit
    word.0 word.1 name.0 name.1 name.2 (c.in_ok-edit.ensures c.in_ok-editor.editor) in
    edit_read c.args.line.now (edit_form c.in_ok-editor.editor c.in_ok-edit.edit) c.edit_of.result there c.edit_of.ensures
