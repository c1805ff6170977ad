use Rattle.std.proofs.Common.{sym, ◌∙◌, ap, List, [], ℕ, take, drop}
use Rattle.std.proofs.lemmas.List.{take-append-drop}
use Rattle.text_terms.specs.Lines.{lines_from}
use Rattle.topo_run.proofs.Tails.{lines_plain}
use Rattle.topo_run.proofs.lines.line_end.Goals as goal

pub returns-clause-same : goal.returns-clause-same
returns-clause-same c =
    let text = c.args.text.now in
    let end = c.lf_of.result in
    ap (λ (t : List ℕ). lines_from c.args.whole [] t) (sym (take-append-drop end text))
    ∙ lines_plain c.args.whole [] (take end text) (drop end text) c.lf_of.ensures.before
