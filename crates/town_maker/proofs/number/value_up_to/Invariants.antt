use Rattle.std.proofs.Common.{◌≡◌, ◌≤◌, drop, IsTrue}
use Rattle.std.specs.List.{list_all}
use Rattle.text_terms.specs.Fields.{is_digit}
use Rattle.text_terms.specs.Numbers.{value_from}
use Rattle.wkt_terms.specs.Numerals.{value_of}
use Rattle.town_maker.proofs.number.value_up_to.Given as goal

abbrev pub invariant-loop-b : goal.invariant-loop-b
invariant-loop-b l = record {
  bound : l.n ≤ l.limit;
  value : value_from l.n (drop l.b-index l.digits) ≡ value_of l.digits;
  digits : IsTrue (list_all is_digit (drop l.b-index l.digits));
}
