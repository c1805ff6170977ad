use Rattle.std.proofs.Common.{◌≡◌, sym, ap, ◌∙◌}
use Rattle.wkt_terms.specs.Numerals.{number_of}
use Rattle.wkt_terms.specs.Runs.{is_number_byte, front_of, behind}
use Rattle.wkt_laws.specs.Steps.{place}
use Rattle.text_fields.specs.Numbers.{meant}
use Rattle.wkt_text.proofs.Places.{position_at}
use Rattle.wkt_text.proofs.positions.next_position.Goals as goal

pub returns-in-Ok : goal.returns-in-Ok
returns-in-Ok c =
    let first = c.next_number-first in
    let second = c.next_number-second in
    let made : c.in-Ok.place ≡ place c.in-Whole.x c.in-Whole-second.y = cc (c.in-Ok.is, c.place.ensures) in
    position_at c.args.text.now first.result.1.now second.result.1.now c.in-Whole.x c.in-Whole-second.y c.in-Ok.place
    (sym (first.ensures.number ∙ ap (λ t. number_of (front_of is_number_byte t)) c.skip_blanks.ensures) ∙ ap meant c.in-Whole.is)
    (first.ensures.rest ∙ ap (behind is_number_byte) c.skip_blanks.ensures)
    (sym (second.ensures.number ∙ ap (λ t. number_of (front_of is_number_byte t)) c.skip_blanks-2.ensures) ∙ ap meant c.in-Whole-second.is)
    (second.ensures.rest ∙ ap (behind is_number_byte) c.skip_blanks-2.ensures) made
