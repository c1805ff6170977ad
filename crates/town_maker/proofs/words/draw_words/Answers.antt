use Rattle.std.proofs.Common.{length, ap, arith}
use Rattle.std.proofs.lemmas.Grind.{common_steps}
use Rattle.town_terms.specs.Words.{state_after}
use Rattle.town_maker.proofs.Drawing.{word_is, state_is, no_words, words_more}
use Rattle.town_maker.proofs.words.draw_words.Goals as goal

pub draws-init : goal.draws-init
unfolding state_after
draws-init c = record {
  state = c.seed_from_u64-rng.ensures.same;
  many = ap length c.in_ok-words.ensures.items;
  words = no_words _ _ c.in_ok-words.ensures.items;
}

pub draws-preserved : goal.draws-preserved
draws-preserved c = record {
  state = state_is _ _ _ _ _ c.draws.invariant.state c.next_word.ensures;
  many = grind (arith, common_steps, c.in_ok-push.ensures.items, c.draws.invariant.many);
  words = rw c.in_ok-push.ensures.items (words_more _ _ _ _ c.draws.invariant.many c.draws.invariant.words
      (word_is _ _ _ _ _ c.draws.invariant.state c.next_word.ensures));
}
