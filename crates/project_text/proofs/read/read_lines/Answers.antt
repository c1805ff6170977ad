use Rattle.std.proofs.Common.{◌≢◌, ◌+◌, length, sym, ◌∙◌}
use Rattle.std.proofs.lemmas.Bool.{false≢true}
use Rattle.project_terms.specs.declared.stage.Stage.TheVariants as stage
use Rattle.project_text.proofs.Steps.{one_more, sound, right, wrong_line, few_more}
use Rattle.project_text.proofs.read.read_lines.Goals as goal

pub read_line-requires : goal.read_line-requires
read_line-requires c =
    let l = c.loop-rest in
    (sound c.args.text.now l.draft l.rest.now l.line l.invariant.begun).titled

pub returns-in-Err : goal.returns-in-Err
returns-in-Err c =
    let l = c.loop-rest in
    let on : l.draft.stage ≢ stage.End = λ e. false≢true (sym c.loop-rest-test.true ∙ c.is_over.ensures.1 e) in
    wrong_line c.read_line.result c.in-Err.fault c.at_line.result c.args.text.now l.draft c.read_line.new.self l.rest.now
    c.in-Some.first.now
    c.in-Some.more.now l.line l.invariant.begun on c.in-Some.ensures.0 c.in-Some.ensures.1 c.read_line.ensures c.in-Err.is c.at_line.ensures

pub loop-rest-preserved : goal.loop-rest-preserved
loop-rest-preserved c =
    let l = c.loop-rest in
    record {
      begun = one_more c.args.text.now l.draft c.read_line.new.self l.rest.now c.in-Some.first.now c.in-Some.more.now l.line
          l.invariant.begun
          c.in-Some.ensures.0 c.in-Some.ensures.1
          (right c.read_line.result c.in-Ok.field-0 l.draft c.read_line.new.self c.in-Some.first.now c.read_line.ensures c.in-Ok.is);
      few = few_more l.line (length c.args.text.now + 1) l.rest.now c.in-Some.first.now c.in-Some.more.now l.invariant.few
          c.in-Some.ensures.1;
    }

pub into_project-requires : goal.into_project-requires
into_project-requires c =
    let l = c.loop-rest in
    (sound c.args.text.now l.draft l.rest.now l.line l.invariant.begun).ascending
