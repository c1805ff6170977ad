use Rattle.topo_run.proofs.Shelved.{by_code}
use Rattle.topo_run.proofs.Asked.{ran, asks_fit, replay_ran, replay_completes, replay_of_ran, replay_of_whole, replay_of_opens, replay_to_ran, replay_to_whole, replay_to_opens, check_ran, check_whole, check_opens, report_ran, report_whole, report_opens, town_ran, town_whole, usage_ran, asked_unread, asked_untouched, asked_unsaved}
use Rattle.topo_run.proofs.program.run.Goals as goal

pub act-requires : goal.act-requires
act-requires g c = asks_fit c.words_of.ensures

pub returns-clause-replay : goal.returns-clause-replay
returns-clause-replay g c = replay_ran (ran c.words_of.ensures c.act.ensures.ends c.code_of.ensures)

pub returns-clause-complete : goal.returns-clause-complete
returns-clause-complete g c = replay_completes (ran c.words_of.ensures c.act.ensures.ends c.code_of.ensures)

pub returns-clause-town : goal.returns-clause-town
returns-clause-town g c = town_ran (ran c.words_of.ensures c.act.ensures.ends c.code_of.ensures)

pub returns-clause-town_complete : goal.returns-clause-town_complete
returns-clause-town_complete g c = town_whole (ran c.words_of.ensures c.act.ensures.ends c.code_of.ensures)

pub returns-clause-replay_of : goal.returns-clause-replay_of
returns-clause-replay_of g c = replay_of_ran (ran c.words_of.ensures c.act.ensures.ends c.code_of.ensures)

pub returns-clause-replay_of_complete : goal.returns-clause-replay_of_complete
returns-clause-replay_of_complete g c = replay_of_whole (ran c.words_of.ensures c.act.ensures.ends c.code_of.ensures)

pub returns-clause-replay_of_opening : goal.returns-clause-replay_of_opening
returns-clause-replay_of_opening g c = replay_of_opens (ran c.words_of.ensures c.act.ensures.ends c.code_of.ensures)

pub returns-clause-replay_to : goal.returns-clause-replay_to
returns-clause-replay_to g c = replay_to_ran (ran c.words_of.ensures c.act.ensures.ends c.code_of.ensures)

pub returns-clause-replay_to_complete : goal.returns-clause-replay_to_complete
returns-clause-replay_to_complete g c = replay_to_whole (ran c.words_of.ensures c.act.ensures.ends c.code_of.ensures)

pub returns-clause-replay_to_opening : goal.returns-clause-replay_to_opening
returns-clause-replay_to_opening g c = replay_to_opens (ran c.words_of.ensures c.act.ensures.ends c.code_of.ensures)

pub returns-clause-check : goal.returns-clause-check
returns-clause-check g c = check_ran (ran c.words_of.ensures c.act.ensures.ends c.code_of.ensures)

pub returns-clause-check_complete : goal.returns-clause-check_complete
returns-clause-check_complete g c = check_whole (ran c.words_of.ensures c.act.ensures.ends c.code_of.ensures)

pub returns-clause-check_opening : goal.returns-clause-check_opening
returns-clause-check_opening g c = check_opens (ran c.words_of.ensures c.act.ensures.ends c.code_of.ensures)

pub returns-clause-report : goal.returns-clause-report
returns-clause-report g c = report_ran (ran c.words_of.ensures c.act.ensures.ends c.code_of.ensures)

pub returns-clause-report_complete : goal.returns-clause-report_complete
returns-clause-report_complete g c = report_whole (ran c.words_of.ensures c.act.ensures.ends c.code_of.ensures)

pub returns-clause-report_opening : goal.returns-clause-report_opening
returns-clause-report_opening g c = report_opens (ran c.words_of.ensures c.act.ensures.ends c.code_of.ensures)

pub returns-clause-usage : goal.returns-clause-usage
returns-clause-usage g c = usage_ran (ran c.words_of.ensures c.act.ensures.ends c.code_of.ensures)

pub returns-clause-unread : goal.returns-clause-unread
returns-clause-unread g c = asked_unread c.words_of.ensures c.act.ensures.unread

pub returns-clause-unopened : goal.returns-clause-unopened
returns-clause-unopened g c = by_code c.act.result c.code_of.result c.code_of.ensures c.act.ensures.unopened

pub returns-clause-shelf : goal.returns-clause-shelf
returns-clause-shelf g c = asked_untouched c.words_of.ensures c.act.ensures.untouched

pub returns-clause-kept : goal.returns-clause-kept
returns-clause-kept g c = asked_unsaved c.words_of.ensures c.act.ensures.kept
