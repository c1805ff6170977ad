use Rattle.std.proofs.Common.{arith, rules, ◌∙◌, sym}
use Rattle.text_fields.proofs.Ends.{end_goes_on, end_is_cut}
use Rattle.text_fields.proofs.fields.skip_end_blanks.Goals as goal
use Rattle.text_fields.proofs.fields.skip_end_blanks.Goals.{then-loop-end-test+else-is_blank, else-loop-end-test}

pub loop-end-preserved : goal.loop-end-preserved
loop-end-preserved c = record {
  bound = omega arith;
  same = c.loop-end.invariant.same
      ∙ end_goes_on c.args.text.now c.loop-end.end c.loop-end-test.true c.loop-end.invariant.bound (search rules);
}

pub returns : goal.returns
returns c = elim c.loop-end-test.branch [
  | then-loop-end-test+else-is_blank w ↦ sym (c.loop-end.invariant.same
      ∙ end_is_cut c.args.text.now c.loop-end.end w.loop-end-test.true c.loop-end.invariant.bound (search rules))
  | else-loop-end-test w ↦ sym (grind arith)
]
