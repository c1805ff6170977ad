use Rattle.std.proofs.Common.{◌≡◌, length}
use Rattle.town_terms.specs.Words.{state_after}
use Rattle.town_maker.specs.Drawn.{AreWords}
use Rattle.town_maker.proofs.words.draw_words.Given as goal

abbrev pub invariant-draws : goal.invariant-draws
invariant-draws l = record {
  state : l.rng ≡ state_after l.seed l.counter;
  many : length l.words.items ≡ l.counter;
  words : AreWords l.seed l.words.items;
}
