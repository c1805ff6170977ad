-- What is said of the errors of runs, one run after another.
use Rattle.std.proofs.Common.{◌≡◌, ◌∙◌, ap, List, ◌∷◌, ◌++◌}
use Rattle.std.specs.Global.{Vec}
use Rattle.std.specs.List.{flat_map}
use Rattle.std.proofs.lemmas.List.Concat.{flat_map-append}
use Rattle.topology_terms.specs.Entry.{Entry}
use Rattle.error_store.specs.Pairs.{entries_in}

pub said_first : {A : Type 0} (f : Entry → List A) (runs left : List (Vec Entry)) (v : Vec Entry) → runs ≡ v ∷ left
    → flat_map f (entries_in runs) ≡ flat_map f v.items ++ flat_map f (entries_in left)
said_first f runs left v e = ap (λ vs. flat_map f (entries_in vs)) e ∙ flat_map-append f v.items (entries_in left)
