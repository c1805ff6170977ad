-- What a line says goes to the draft as the verdict on it says.
use Rattle.std.proofs.Common.{ℕ, ◌≡◌, ◌<◌, Bool, true, false, ltb, List, [], ◌∷◌, ◌++◌, Some, Ok, sym, ap, ◌∙◌, arith}
use Rattle.std.specs.List.{list_any}
use Rattle.std.proofs.lemmas.Bool.Decides.{nat_tests}
use Rattle.plane_terms.specs.Rectangle.{Rectangle}
use Rattle.topology_terms.specs.Feature.{Class, Feature, IsSetAt, IsAscending}
use Rattle.project_terms.specs.declared.stage.Stage.TheVariants as stage
use Rattle.project_terms.specs.Drafts.{Draft, is_rectangle, last_in}
use Rattle.project_terms.specs.Verdicts.{are_nested, dirty_verdict, with_feature}
use Rattle.project_text.proofs.Features as features

pub dirty_said : (d : Draft) (D : List Rectangle) (r q : Rectangle) (b : Bool) → r ≡ q → is_rectangle r ≡ true
    → b ≡ list_any (are_nested r) d.project.dirt → b ≡ false → D ≡ d.project.dirt ++ r ∷ []
    → Ok (record d { stage = stage.Dirt; project = record d.project { dirt = D } }) ≡ dirty_verdict d q
dirty_said d D r q b same proper test none last =
    let loose : list_any (are_nested r) d.project.dirt ≡ false = sym test ∙ none in
    let put : Ok (record d { stage = stage.Dirt; project = record d.project { dirt = D } }) ≡ dirty_verdict d r = rw (proper, loose)
    (ap (λ (x : List Rectangle). Ok (record d { stage = stage.Dirt; project = record d.project { dirt = x } })) last) in
    put ∙ ap (dirty_verdict d) same

pub feature_said : (d : Draft) (F : List Feature) (C : List Class) (N : ℕ) (f : Feature) (n : ℕ) → IsAscending d.project.features
    → IsAscending F
    → n ≡ last_in (λ (g : Feature). g.handle) d.project.features → n < f.handle → IsSetAt f.handle (Some f) d.project.features F
    → C ≡ d.project.classes → N ≡ d.project.next
    → Ok (record d { stage = stage.Features; project = record d.project { classes = C; next = N; features = F } }) ≡ with_feature d f
feature_said d F C N f n rising up last below set classes next =
    let less : last_in (λ (g : Feature). g.handle) d.project.features < f.handle = omega (arith, last, below) in
    let test : ltb (last_in (λ (g : Feature). g.handle) d.project.features) f.handle ≡ true = grind (arith, nat_tests) in
    let all : F ≡ d.project.features ++ f ∷ [] = features.put_last d.project.features F f rising up less set in
    rw test (ap (λ (x : List Feature). Ok
    (record d { stage = stage.Features; project = record d.project { classes = C; next = N; features = x } })) all
    ∙ (ap (λ (x : List Class). Ok (record d
    { stage = stage.Features; project = record d.project { classes = x; next = N; features = d.project.features ++ f ∷ [] } })) classes
    ∙ ap (λ (x : ℕ). Ok (record d {
      stage = stage.Features;
      project =
          record d.project { next = x; features = d.project.features ++ f ∷ [] };
    })) next))
