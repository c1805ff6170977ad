-- The handles of the features and the subjects of the entries are enough to check.
use Rattle.std.proofs.Common.{◌≡◌, ◌↔◌, ℕ, ◌<◌, zero, suc, List, [], ◌∷◌, ◌++◌, sym, subst, ap, arith, length, get_or, map, Contains}
use Rattle.std.proofs.lemmas.List.Elements.{Contains-append_left, Contains-append_right}
use Rattle.topology_terms.specs.Feature.{Feature, by_handle, feature_at}
use Rattle.topology_terms.specs.Entry.{Entry, by_key, entry_at}
use Rattle.sound_laws.proofs.Keyed.{found_contained}
use Rattle.sound_laws.proofs.FeatureLists.{handles, handle_of}
use Rattle.sound_laws.proofs.Lists.{keys, entry_key}
use Rattle.project_check.specs.Subjects.{HasSubjects}

number_there : {A : Type 0} (number : A → ℕ) (xs : List A) (x : A) (k : ℕ) → k < length xs → get_or xs k x ≡ x
    → Contains (map number xs) (number x)
number_there number [] x k l e = absurd (omega arith)
number_there number (y ∷ xs) x zero l e = (0, omega arith, ap number e)
number_there number (y ∷ xs) x (suc k) l e =
    let c = number_there number xs x k (omega arith) e in (suc c.0, omega (arith, c.1), c.2)

pub all_there : (F : List Feature) (es : List Entry) (found once : List ℕ)
    → found ≡ map (λ (f : Feature). f.handle) F ++ map (λ (e : Entry). e.subject) es → ((a : ℕ) → Contains once a ↔ Contains found a)
    → HasSubjects F es once
unfolding feature_at entry_at
all_there F es found once is same = record {
  live = λ a f e.
      let k = found_contained by_handle handles F a f e in
      let c = Contains-append_left hs ss f.handle (number_there (λ (g : Feature). g.handle) F f k.0 k.1 k.2) in
      (same a).1 (subst (λ ns. Contains ns a) (sym is) (subst (Contains (hs ++ ss)) (handle_of F a f e) c));
  stored = λ r a b x e.
      let k = found_contained by_key keys es (r, a, b) x e in
      let c = Contains-append_right hs ss x.subject (number_there (λ (y : Entry). y.subject) es x k.0 k.1 k.2) in
      (same a).1 (subst (λ ns. Contains ns a) (sym is) (subst (Contains (hs ++ ss)) (entry_key es r a b x e).1 c));
}
  where
    hs : List ℕ
    hs = map (λ (f : Feature). f.handle) F

    ss : List ℕ
    ss = map (λ (e : Entry). e.subject) es
