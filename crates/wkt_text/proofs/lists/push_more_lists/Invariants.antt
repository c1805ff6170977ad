use Rattle.std.proofs.Common.{◌≡◌, ◌++◌, drop}
use Rattle.wkt_terms.specs.Written.{list_text}
use Rattle.shape.specs.Given.{rings_in as lists_of}
use Rattle.wkt_laws.specs.Commas.{comma_texts}
use Rattle.wkt_text.proofs.lists.push_more_lists.Given as goal

abbrev pub invariant-loop-list : goal.invariant-loop-list
invariant-loop-list l = l.out.items ++ comma_texts list_text (lists_of (drop l.list-index l.lists)) ≡ l.initial.out.items ++ comma_texts list_text (lists_of l.lists)
