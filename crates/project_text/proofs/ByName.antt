-- A class is told by its name: no two have one name.
--
-- IsThere cs k      the class of the number k, and its name
use Rattle.std.proofs.Common.{ℕ, ◌≡◌, ◌≢◌, ◌≤◌, ◌+◌, ◌-◌, ◌==◌, Bool, true, false, zero, suc, List, [], ◌∷◌, Some, None, if◌then◌else◌, refl, ap, ◌∙◌, arith}
use Rattle.std.specs.Prelude.{bytes_eq, slice_get}
use Rattle.std.proofs.lemmas.Bool.{false_from_ne_true}
use Rattle.std.proofs.lemmas.Bool.Decides.{nat_tests}
use Rattle.std.proofs.lemmas.Slice.Eq.{bytes_eq-Decides}
use Rattle.plane_terms.specs.Lists.{Every, EveryPair}
use Rattle.plane_terms.proofs.ListLemmas.{every_got}
use Rattle.plane_terms.specs.declared.kind.Kind.{Kind}
use Rattle.text_terms.specs.Fields.{is_name}
use Rattle.topology_terms.specs.Feature.{Class}
use Rattle.topology_terms.specs.Lookups.{class_at, number_from, kind_of_class}
use Rattle.feature_store.specs.Keeps.{AreUnlike}
use Rattle.project_text.proofs.Spelled.{mapped}

pub record IsThere (cs : List Class) (k : ℕ) : Type 0 where
  pub class : Class
  pub place : class_at cs k ≡ Some class
  pub number : number_from 1 cs class.name ≡ Some k
  pub name : is_name class.name ≡ true

abbrev pub HasName : Class → Type 0
HasName c = is_name c.name ≡ true

pub unlike_names : (a b : List ℕ) → a ≢ b → bytes_eq a b ≡ false
unlike_names a b n = false_from_ne_true (bytes_eq a b) (λ t. n ((bytes_eq-Decides a b).0 t))

pub number_at : (n : ℕ) (cs : List Class) (i : ℕ) (c : Class) → EveryPair AreUnlike cs → slice_get cs i ≡ Some c
    → number_from n cs c.name ≡ Some (n + i)
number_at n [] i c h e = absurd cc
number_at n (d ∷ cs) zero c h e =
    let same : d ≡ c = cc in
    let one : bytes_eq d.name c.name ≡ true = (bytes_eq-Decides d.name c.name).1 (ap (λ (x : Class). x.name) same) in
    rw one (ap Some (omega arith))
number_at n (d ∷ cs) (suc i) c h e =
    let unlike : bytes_eq d.name c.name ≡ false = unlike_names d.name c.name (every_got (AreUnlike d) cs i c h.0 e) in
    rw unlike (number_at (n + 1) cs i c h.1 e ∙ ap Some (omega arith))

pub class_there : (cs : List Class) (k : ℕ) (c : Class) → EveryPair AreUnlike cs → Every HasName cs → class_at cs k ≡ Some c → IsThere cs k
class_there cs k c unlike names e = by (k == 0) refl e
  where
    by : (b : Bool) → (k == 0) ≡ b → (if b then None else slice_get cs (k - 1)) ≡ Some c → IsThere cs k
    by true t f = absurd cc
    by false t f =
        let some : 1 ≤ k = grind (arith, nat_tests, t) in
        let at : 1 + (k - 1) ≡ k = omega (arith, some) in
        record {
          class = c;
          place = e;
          number = number_at 1 cs (k - 1) c unlike f ∙ ap Some at;
          name = every_got HasName cs (k - 1) c names f;
        }

pub kind_class : (cs : List Class) (k : ℕ) (l : Kind) → EveryPair AreUnlike cs → Every HasName cs → kind_of_class cs k ≡ Some l
    → IsThere cs k
kind_class cs k l unlike names e =
    let m = mapped (λ (c : Class). c.kind) (class_at cs k) l e in class_there cs k m.0 unlike names m.1
