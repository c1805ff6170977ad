use Rattle.std.proofs.Common.{◌≡◌, ◌<◌, length}
use Rattle.text_terms.specs.Fields.{is_digit}
use Rattle.text_terms.specs.Numbers.{value_from}
use Rattle.wkt_terms.specs.Numerals.{value_of}
use Rattle.wkt_terms.specs.Runs.{front_of, behind}
use Rattle.text_fields.proofs.numeral.short_value.Given as goal

abbrev pub invariant-loop-rest : goal.invariant-loop-rest
invariant-loop-rest l = record {
  bound : l.n < 10000000;
  value : value_from l.n (front_of is_digit l.rest) ≡ value_of (front_of is_digit l.digits);
  behind : behind is_digit l.rest ≡ behind is_digit l.digits;
}

abbrev pub decreases-loop-rest : goal.decreases-loop-rest
decreases-loop-rest l = length l.rest
