-- An index gains one feature after the other, and what holds of each part of a topology is shown part by part.
use Rattle.std.proofs.Common.{◌≡◌, ◌+◌, ◌<◌, ℕ, zero, suc, add-one, arith, true, inl, inr, List, [], ◌∷◌, Option, Some, None, length, get_or, take, refl, Contains}
use Rattle.std.specs.Prelude.{slice_get}
use Rattle.std.specs.Option.{IfSome, option_map}
use Rattle.plane_terms.specs.Lists.{Every}
use Rattle.plane_terms.proofs.ListLemmas.{every_map}
use Rattle.text_terms.specs.Fields.{is_name}
use Rattle.topology_terms.specs.Feature.{Class, Feature}
use Rattle.topology_terms.specs.Lookups.{class_at}
use Rattle.grid_index.specs.Near.{Gains}
use Rattle.grid_index.specs.declared.placed.Placed.{Placed}
use Rattle.validation.specs.Placed.{placed_of}
use Rattle.topo_core.specs.Topologies.{IsNamed}
use Rattle.sound_check.proofs.Pairs.{every_more}

pub put_more : (fs : List Feature) (i : ℕ) (f : Feature) (ps qs : List Placed) → i < length fs → f ≡ get_or fs i f
    → Gains ps qs (placed_of f) → Every (λ (g : Feature). Contains ps (placed_of g)) (take i fs)
    → Every (λ (g : Feature). Contains qs (placed_of g)) (take (i + 1) fs)
put_more fs i f ps qs l is gains h = every_more (λ (g : Feature). Contains qs (placed_of g)) fs i f l is
    (every_map (λ (g : Feature). Contains ps (placed_of g)) (λ (g : Feature). Contains qs (placed_of g))
    (λ g c. (gains (placed_of g)).1 (inl c)) (take i fs) h) ((gains (placed_of f)).1 (inr refl))

-- of the elements that are got by their places one more
more_got : {A : Type 0} (P : A → Type 0) (xs : List A) (i : ℕ) → IfSome (slice_get xs i) P → Every P (take i xs) → Every P (take (suc i) xs)
more_got P [] zero h e = tt
more_got P [] (suc i) h e = tt
more_got P (x ∷ xs) zero h e = (h, tt)
more_got P (x ∷ xs) (suc i) h e = (e.0, more_got P xs i h e.1)

pub got_more : {A : Type 0} (P : A → Type 0) (xs : List A) (i : ℕ) (x : A) → slice_get xs i ≡ Some x → P x → Every P (take i xs)
    → Every P (take (i + 1) xs)
got_more P xs i x got p e = rw add-one (more_got P xs i (rw got p) e)

-- ---- names
pub name_more : (cs : List Class) (i : ℕ) → IfSome (class_at cs (i + 1)) IsNamed → Every IsNamed (take i cs)
    → Every IsNamed (take (i + 1) cs)
name_more cs i h e =
    let here : class_at cs (i + 1) ≡ slice_get cs i = grind arith in
    rw add-one (more_got IsNamed cs i (rw here at h) e)

pub named_one : (o : Option Class) (n : List ℕ) → option_map (λ (c : Class). c.name) o ≡ Some n → is_name n ≡ true → IfSome o IsNamed
named_one None n e h = tt
named_one (Some c) n e h = let same : c.name ≡ n = cc in rw same h

pub none_named : (o : Option Class) → o ≡ None → IfSome o IsNamed
none_named o e = rw e tt
