-- Classes by number and by name, and the kinds of classes and features.
--
-- class_at cs n        the class of the number n, from 1
-- number_from n cs name    the number of the first class of this name, where they are counted from n
-- class_number p name  the number of the class of this name, from 1
-- kind_of_class cs n   the kind of the shapes of the class n, where there is one
-- kind_at F h          the kind of the shape of the live feature h, where there is one
use Rattle.std.specs.Prelude.{ℕ, ◌+◌, ◌-◌, ◌==◌, List, [], ◌∷◌, Option, Some, None, slice_get, bytes_eq, if◌then◌else◌}
use Rattle.std.specs.Option.{option_map}
use Rattle.plane_terms.specs.declared.kind.Kind.{Kind}
use Rattle.topology_terms.specs.Feature.{Class, Feature, feature_at}
use Rattle.topology_terms.specs.Project.{Project}

abbrev pub class_at : List Class → ℕ → Option Class
class_at cs n = if n == 0 then None else slice_get cs (n - 1)

abbrev pub number_from : ℕ → List Class → List ℕ → Option ℕ
number_from n [] name = None
number_from n (c ∷ cs) name = if bytes_eq c.name name then Some n else number_from (n + 1) cs name

abbrev pub class_number : Project → List ℕ → Option ℕ
class_number p name = number_from 1 p.classes name

abbrev pub kind_of_class : List Class → ℕ → Option Kind
kind_of_class cs n = option_map (λ (c : Class). c.kind) (class_at cs n)

abbrev pub kind_at : List Feature → ℕ → Option Kind
kind_at F h = option_map (λ (f : Feature). f.shape.kind) (feature_at F h)
