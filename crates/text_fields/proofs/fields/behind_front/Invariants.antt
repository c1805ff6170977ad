use Rattle.std.proofs.Common.{◌≡◌, length}
use Rattle.std.specs.Prelude.{◌↔◌}
use Rattle.text_terms.specs.Fields.{front_field, behind_field}
use Rattle.text_fields.proofs.fields.behind_front.Given as goal

abbrev pub invariant-loop-letters : goal.invariant-loop-letters
invariant-loop-letters l = record {
  front : (front_field l.rest ≡ l.letters) ↔ (front_field l.text ≡ l.word);
  behind : behind_field l.rest ≡ behind_field l.text;
}

abbrev pub decreases-loop-letters : goal.decreases-loop-letters
decreases-loop-letters l = length l.letters
