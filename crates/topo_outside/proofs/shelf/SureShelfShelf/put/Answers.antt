use Rattle.std.proofs.Common.{◌≡◌, arith, ap, option_map}
use Rattle.std.proofs.lemmas.Map.Text.{text_keys}
use Rattle.std.specs.BTreeMap.{get_by_text}
use Rattle.topo_outside.proofs.shelf.SureShelfShelf.put.Goals as goal

pub returns-in-Ok-insert-clause-others : goal.returns-in-Ok-insert-clause-others
returns-in-Ok-insert-clause-others c = λ other differ.
    let same : get_by_text c.insert.new.self other ≡ get_by_text c.args.self.now.held other = grind (arith, text_keys) in
    ap (λ found. option_map (λ v. v.items) found) same
