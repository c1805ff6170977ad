use Rattle.std.proofs.Common.{◌≡◌, true}
use Rattle.topo_run.proofs.words.words_of.Goals as goal

pub returns-in-None : goal.returns-in-None
returns-in-None c = record {
  asks = record {
    replay = λ e. let yes : c.is_replay.result ≡ true = c.is_replay.ensures.1 e in let never = c.if-is_replay.false in cc;
    replay_of = λ p is. c.in_default.ensures p is.spelled is.named;
    replay_to = λ p q is. c.in_default-saved_by.ensures p q is.spelled is.named is.aimed;
    check = λ p is. c.in_default-named_by.ensures p is.spelled is.named;
    report = λ p is. c.in_default-named_by-2.ensures p is.spelled is.named;
    town = λ seed n is. c.in-None.ensures seed n is;
  };
}
